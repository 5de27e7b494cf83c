-- What steps do to one cell, and which meetings of a reader and a writer no barrier orders.
use Rattle.std.specs.Prelude.{ℕ, suc, Bool, true, false, List, [], ◌∷◌, Option, Some, None, ◌≡◌, ◌<◌, ◌≤◌, ◌⊎◌}
use Rattle.wg_check.specs.declared.stories.Access.{Access}
use Rattle.wg_check.specs.Stories.{Meeting}

-- Which steps read the cell, which write it, and how many barriers on its part stand before each.
pub record Doings : Type 0 where
  pub reads : ℕ → Bool
  pub writes : ℕ → Bool
  pub epoch : ℕ → ℕ

-- Later steps stand behind no fewer barriers.
abbrev pub Rising : Doings → Type 0
Rising d = (x y : ℕ) → x ≤ y → d.epoch x ≤ d.epoch y

-- The accesses from step n on are these.
pub record Tells (d : Doings) (n : ℕ) (a : Access) : Type 0 where
  pub behind : n ≤ a.place
  pub between : (k : ℕ) → n ≤ k → k < a.place → (d.reads k ≡ false) × (d.writes k ≡ false)
  pub reads : d.reads a.place ≡ a.reads
  pub writes : d.writes a.place ≡ a.writes
  pub epoch : d.epoch a.place ≡ a.epoch

-- A list has the accesses of the steps from n on, in order, and no others.
abbrev pub IsStory : Doings → ℕ → List Access → Type 0
IsStory d n [] = (k : ℕ) → n ≤ k → (d.reads k ≡ false) × (d.writes k ≡ false)
IsStory d n (a ∷ later) = Tells d n a × IsStory d (suc a.place) later

-- The last writer below k is p.
pub record IsLast (d : Doings) (k p : ℕ) : Type 0 where
  pub below : p < k
  pub writes : d.writes p ≡ true
  pub last : (j : ℕ) → p < j → j < k → d.writes j ≡ false

-- The last writer of all is p.
pub record IsEnd (d : Doings) (p : ℕ) : Type 0 where
  pub writes : d.writes p ≡ true
  pub last : (j : ℕ) → p < j → d.writes j ≡ false

-- No barrier orders the writer j against the reader and what it sees.
pub data Unordered (d : Doings) (j : ℕ) : Option ℕ → Type 0 where
  Beside_seen : {k : ℕ} (p : ℕ) → IsLast d k p → j < p → d.epoch j ≡ d.epoch p → Unordered d j (Some k)
  Is_seen : {k : ℕ} → IsLast d k j → d.epoch j ≡ d.epoch k → Unordered d j (Some k)
  Behind_reader : {k : ℕ} → k < j → d.epoch j ≡ d.epoch k → Unordered d j (Some k)
  Beside_end : (p : ℕ) → IsEnd d p → j < p → d.epoch j ≡ d.epoch p → Unordered d j None

-- A reader is the end, or a step that reads.
abbrev pub ReadsAt : Doings → Option ℕ → Type 0
ReadsAt d None = Unit {0}
ReadsAt d (Some k) = d.reads k ≡ true

-- A reader and a writer that may come between it and what it sees.
pub record Meets (d : Doings) (reader : Option ℕ) (j : ℕ) : Type 0 where
  pub reads : ReadsAt d reader
  pub writes : d.writes j ≡ true
  pub how : Unordered d j reader

-- Readers in order, the end last, and writers in order below them.
abbrev pub NotAfter : Option ℕ → ℕ → Option ℕ → ℕ → Type 0
NotAfter (Some k) j (Some k2) j2 = (k < k2) ⊎ ((k ≡ k2) × (j ≤ j2))
NotAfter (Some k) j None j2 = Unit {0}
NotAfter None j (Some k2) j2 = ⊥
NotAfter None j None j2 = j ≤ j2

-- A reader is the end, or a step from n on.
abbrev pub FromStep : ℕ → Option ℕ → Type 0
FromStep n None = Unit {0}
FromStep n (Some k) = n ≤ k

-- A meeting whose reader is from n on, and before which, by reader and then by writer, no other stands.
pub record IsLeast (d : Doings) (n : ℕ) (m : Meeting) : Type 0 where
  pub meets : Meets d m.reader m.writer
  pub least : (reader : Option ℕ) (j : ℕ) → FromStep n reader → Meets d reader j → NotAfter m.reader m.writer reader j

-- The least meeting of the readers from step n on, or there is none.
abbrev pub IsClash : Doings → ℕ → Option Meeting → Type 0
IsClash d n None = (reader : Option ℕ) (j : ℕ) → FromStep n reader → Meets d reader j → ⊥
IsClash d n (Some m) = IsLeast d n m
