-- Who holds which objects (WebGPU, "Internal Objects").
use Rattle.std.specs.Prelude.{◌≡◌, ℕ, ◌+◌, ◌<◌, Bool, true, false, not, ◌&&◌, ◌||◌, List, [], ◌∷◌, ◌++◌, length, Some, None, is_some, slice_index_or, if◌then◌else◌}
use Rattle.wg_fading.specs.Fading.{was_let_go}
use Rattle.wg_model.specs.Holding.{Holds, is_among, is_held_in}
use Rattle.wg_counts.specs.Counts.{times}
use Rattle.wg_holders.specs.declared.marks.Mark.{Mark}
use Rattle.wg_holders.specs.declared.marks.Links.{Links}

-- who holds which objects: what was noted of each object by number, the objects that a valid command buffer names, until it is
-- consumed or dropped, and those to which a valid object refers
pub record Holdings : Type 0 where
  pub marks : List Mark
  pub names : List (List ℕ)
  pub refers : List (List ℕ)

-- holdings of no object
abbrev pub no_holdings : Holdings
no_holdings = record { marks = []; names = []; refers = [] }

-- what is kept of holders: the holdings, which objects fell since that list was cleared, which were let go, and for how many
-- more objects and holds there is room
pub record HoldersValue : Type 0 where
  pub holdings : Holdings
  pub fallen : List ℕ
  pub gone : List ℕ
  pub spare : ℕ
  pub room : ℕ

-- the mark of a new object, an encoder or not
abbrev pub new_mark : Bool → Mark
new_mark encoder = record { encoder = encoder; ended = false; consumed = false; dropped = None }

-- the mark of no object
abbrev pub no_mark : Mark
no_mark = new_mark false

-- the mark of object n
abbrev pub mark_at : List Mark → ℕ → Mark
mark_at marks n = slice_index_or marks n no_mark

-- the list of object n among lists, or an empty one
abbrev pub list_at : List (List ℕ) → ℕ → List ℕ
list_at lists n = slice_index_or lists n []

-- An encoder is open until it ends or is dropped.
abbrev pub is_open : Mark → Bool
is_open mark = mark.encoder && (not mark.ended && not (is_some mark.dropped))

-- A command buffer holds what it names until it is consumed or dropped.
abbrev pub is_unspent : Mark → Bool
is_unspent mark = not mark.consumed && not (is_some mark.dropped)

-- what object n says of holders
abbrev pub holds_at : Holdings → ℕ → Holds
holds_at h n = record {
  dropped = (mark_at h.marks n).dropped;
  opened = is_open (mark_at h.marks n);
  names = if is_unspent (mark_at h.marks n) then list_at h.names n else [];
  refers = list_at h.refers n;
}

-- whether object n is held
unfoldable pub is_held : Holdings → ℕ → Bool
is_held h n = is_held_in (holds_at h) (length h.marks) n

-- holdings with one object more
abbrev pub with_made : Bool → Links → Holdings → Holdings
with_made encoder links h = record { marks = h.marks ++ new_mark encoder ∷ []; names = h.names ++ links.names ∷ []; refers = h.refers ++ links.refers ∷ [] }

-- a mark, ended where that is said
abbrev pub with_ended : Bool → Mark → Mark
with_ended b mark = record mark { ended = b || mark.ended }

-- a mark, consumed where that is said
abbrev pub with_consumed : Bool → Mark → Mark
with_consumed b mark = record mark { consumed = b || mark.consumed }

-- dropped when there were so many objects
abbrev pub with_dropped : ℕ → Bool → Mark → Mark
with_dropped k b mark = record mark { dropped = if b then Some k else mark.dropped }

-- Nothing is kept of what a command buffer names that was consumed or dropped.
pub record AreGivenBack (marks : List Mark) (names : List (List ℕ)) : Type 0 where
  pub each : (n : ℕ) → is_unspent (mark_at marks n) ≡ false → list_at names n ≡ []

-- Holdings and what a note makes of their marks, by number. What is consumed or dropped stays so; until then what it names
-- stays, and then nothing of that is kept.
pub record Marks (note : ℕ → Mark → Mark) (old new : Holdings) : Type 0 where
  pub len : length new.marks ≡ length old.marks
  pub each : (n : ℕ) → n < length old.marks → mark_at new.marks n ≡ note n (mark_at old.marks n)
  pub unspent : (n : ℕ) → is_unspent (mark_at new.marks n) ≡ true → is_unspent (mark_at old.marks n) ≡ true
  pub names_len : length new.names ≡ length old.names
  pub names : (n : ℕ) → is_unspent (mark_at new.marks n) ≡ true → list_at new.names n ≡ list_at old.names n
  pub given_back : AreGivenBack old.marks old.names → AreGivenBack new.marks new.names
  pub refers : new.refers ≡ old.refers

-- What fell, which was held and is not, is listed, once more than it was, and nothing that was not held is held.
pub record Falls (old new : HoldersValue) : Type 0 where
  pub listed : (n : ℕ) → is_among new.fallen n ≡ is_among old.fallen n || (is_held old.holdings n && not (is_held new.holdings n))
  pub once : (n : ℕ) → times n new.fallen ≡ times n old.fallen + (if is_held old.holdings n && not (is_held new.holdings n) then 1 else 0)
  pub falls : (n : ℕ) → is_held new.holdings n ≡ true → is_held old.holdings n ≡ true

-- What was let go was made and dropped.
pub record AreDropped (gone : List ℕ) (marks : List Mark) : Type 0 where
  pub made : (n : ℕ) → was_let_go gone n ≡ true → n < length marks
  pub dropped : (n : ℕ) → was_let_go gone n ≡ true → is_some (mark_at marks n).dropped ≡ true

-- An object was there when it was dropped.
abbrev pub AreAfter : List Mark → Type 0
AreAfter marks = (n k : ℕ) → (mark_at marks n).dropped ≡ Some k → n < k

-- No object of a list was let go.
abbrev pub AreHere : List ℕ → List ℕ → Type 0
AreHere gone list = (e : ℕ) → is_among list e ≡ true → was_let_go gone e ≡ false

-- A list has no object that another has not.
abbrev pub AreAmong : List ℕ → List ℕ → Type 0
AreAmong old new = (e : ℕ) → is_among new e ≡ true → is_among old e ≡ true
