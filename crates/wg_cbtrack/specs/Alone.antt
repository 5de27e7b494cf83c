-- Uses of which each is the only one of its object, over rows that have no other part of it.
use Rattle.std.specs.Prelude.{◌≡◌, ◌<◌, Bool, true, ◌&&◌, List, [], ◌∷◌, Option, Some, None, nat_lt}
use Rattle.wg_rows.specs.Rows.{EachRow, line_object}
use Rattle.wg_rows.specs.Runs.{PartRun, part_line, part_lo, part_hi}
use Rattle.wg_rows.specs.Uses.{Usages}
use Rattle.wg_rows.specs.Sets.{UseRow}
use Rattle.wg_cbtrack.specs.Owners.{rows_of}
use Rattle.wg_bars.specs.Changes.{ChangeRow}
use Rattle.wg_cbtrack.specs.Near.{use_object}
use Rattle.wg_cbtrack.specs.Join.{inner_changes, opens}

-- a row, if there is one
abbrev pub some : {T : Type 0} → Option T → List T
some None = []
some (Some x) = x ∷ []

-- the row of a run with a set, if it has one
abbrev pub with_set : PartRun → Option Usages → List UseRow
with_set run None = []
with_set run (Some set) = (run, set) ∷ []

-- Rows have of a run's object nothing but the run, with a set, or nothing.
abbrev pub IsAlone : List UseRow → PartRun → Type 0
IsAlone rows run = (set : Option Usages) × (rows_of use_object (line_object (part_line run)) rows ≡ with_set run set)

-- whether a use stands before the next, if there is one, by its object
abbrev pub is_below : UseRow → List UseRow → Bool
is_below u [] = true
is_below u (v ∷ us) = nat_lt (use_object u) (use_object v)

-- whether uses cover something each, and stand in the order of their objects, each of another one
abbrev pub are_spread : List UseRow → Bool
are_spread [] = true
are_spread (u ∷ us) = nat_lt (part_lo u.0) (part_hi u.0) && (is_below u us && are_spread us)

-- Uses cover something each, and stand in the order of their objects, each of another one.
abbrev pub Spread : List UseRow → Type 0
Spread [] = Unit {0}
Spread (u ∷ us) = (part_lo u.0 < part_hi u.0) × EachRow (λ v. use_object u < use_object v) us × Spread us

-- Rows have of the object of each of some uses nothing but its run.
abbrev pub AllAlone : List UseRow → List UseRow → Type 0
AllAlone rows us = EachRow (λ u. IsAlone rows u.0) us

-- What uses find: the changes of their parts, those that are the first of them, and those that are the first of them
-- among noted steps.
pub record FindsAll (ends starts last us : List UseRow) (changes : List ChangeRow) (first opened : List UseRow) : Type 0 where
  pub ends_alone : AllAlone ends us
  pub starts_alone : AllAlone starts us
  pub last_alone : AllAlone last us
  pub changes_are : changes ≡ inner_changes ends us
  pub first_are : first ≡ opens ends us
  pub opened_are : opened ≡ opens starts us

-- Uses are spread, and so are those of them that open parts; each is the only one of its object in the rows that it is put
-- among.
pub record ArePutAlone (ends starts last us opened : List UseRow) : Type 0 where
  pub spread : Spread us
  pub among_ends : AllAlone ends us
  pub among_last : AllAlone last us
  pub opened_spread : Spread opened
  pub among_starts : AllAlone starts opened
