-- Rows by the objects that they belong to.
use Rattle.std.specs.Prelude.{ℕ, ◌<◌, ◌≤◌, Bool, false, ◌||◌, ◌==◌, nat_lt, List, [], ◌∷◌, ◌≡◌, if◌then◌else◌}
use Rattle.std.specs.List.{filter}
use Rattle.wg_rows.specs.Rows.{EachRow}

-- whether an object is among others
abbrev pub among : List ℕ → ℕ → Bool
among [] o = false
among (p ∷ ps) o = (o == p) || among ps o

-- the rows of an object
abbrev pub rows_of : {T : Type 0} → (T → ℕ) → ℕ → List T → List T
rows_of object o rows = filter (λ x. object x == o) rows

-- the rows of objects below a number
abbrev pub rows_below : {T : Type 0} → (T → ℕ) → ℕ → List T → List T
rows_below object o rows = filter (λ x. nat_lt (object x) o) rows

-- the rows of objects above a number
abbrev pub rows_above : {T : Type 0} → (T → ℕ) → ℕ → List T → List T
rows_above object o rows = filter (λ x. nat_lt o (object x)) rows

-- the rows of some objects
abbrev pub rows_among : {T : Type 0} → (T → ℕ) → List ℕ → List T → List T
rows_among object os rows = filter (λ x. among os (object x)) rows

-- Rows stand in the order of their objects.
abbrev pub Ordered : {T : Type 0} → (T → ℕ) → List T → Type 0
Ordered object [] = Unit {0}
Ordered object (x ∷ xs) = EachRow (λ y. object x ≤ object y) xs × Ordered object xs

-- Objects stand in their order, each once.
abbrev pub Rising : List ℕ → Type 0
Rising [] = Unit {0}
Rising (x ∷ xs) = EachRow (λ y. x < y) xs × Rising xs

-- Rows in order, where some objects have those of another list in place of their own.
pub record AreExchanged {T : Type 0} (object : T → ℕ) (os : List ℕ) (mine rows after : List T) : Type 0 where
  pub ordered : Ordered object after
  pub each : (o : ℕ) → rows_of object o after ≡ (if among os o then rows_of object o mine else rows_of object o rows)
