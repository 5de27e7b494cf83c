-- A step whose touches have sets has no empty row and no empty set.
use Rattle.std.specs.Prelude.{Option, Some, None, filter, nat_lt, nat_le}
use Rattle.std.proofs.Common.{◌≡◌, ◌<◌, List, [], ◌∷◌, map, Bool, true, false, cond, if◌then◌else◌, ap, refl, sym, ◌∙◌, subst, arith}
use Rattle.std.proofs.lemmas.Bool.{and_from, le-leb, lt-ltb, ltb-true, false_from_ne_true}
use Rattle.wg_trace.specs.declared.parts.AccessKind.{AccessKind}
use Rattle.wg_trace.specs.declared.usages.Usages.{Usages}
use Rattle.wg_rows.specs.Rows.{Spot, covers_spot, list_eq, in_range, EachRow, After, Apart}
use Rattle.wg_rows.specs.Runs.{Part, Cells, part_line, part_lo, part_hi, cell_lo, cell_hi, part_sort, part_spot, cell_sort, covers_part}
use Rattle.wg_rows.specs.Cut.{value_at}
use Rattle.wg_rows.specs.Uses.{row_set, with_usage, same_kind, printed_accesses}
use Rattle.wg_rows.specs.Sets.{UseRow, sets}
use Rattle.wg_rows.proofs.Put.{list_eq_refl}
use Rattle.wg_rows.proofs.Printed.{no_overlap}
use Rattle.wg_rows.proofs.Runs.{cell_widens}
use Rattle.wg_rows.proofs.Sets.{apart_set, sets_row, sets_apart, part_at}
use Rattle.wg_orders.specs.Steps.{StepPlace}
use Rattle.wg_model.specs.Touches.{Touch, Doing, use_of, access_of, has_cells, deed_of, step_of}
use Rattle.wg_readback.specs.Shapes.{IsSet, IsFrom, IsShapedUse, IsShapedAccess, IsFilledStep}
use Rattle.wg_readback.proofs.Rows.{printed_each, IsFilled, filled_joins, or_set}

-- rows whose sets have a usage
abbrev HaveSets : List UseRow → Type 0
HaveSets rows = EachRow (λ row. IsSet row.1) rows

row_set_is : (p : Part) (rows : List UseRow) → HaveSets rows → IsFrom (row_set p rows)
row_set_is p [] h = tt
row_set_is p (row ∷ rows) h = by_test (covers_part row.0 p) (row_set p rows) (row_set_is p rows h.1)
  where
    by_test : (b : Bool) (rest : Option Usages) → IsFrom rest → IsFrom (if b then Some (with_usage row.1 rest) else rest)
    by_test true None k = h.0
    by_test true (Some set) k = or_set row.1 set h.0 k
    by_test false rest k = k

-- where a row begins
abbrev start : UseRow → Spot
start row = (part_line row.0, part_lo row.0)

covers_start : (row : UseRow) → part_lo row.0 < part_hi row.0 → covers_spot part_sort row.0 (start row) ≡ true
covers_start row l =
    and_from (list_eq (part_line row.0) (part_line row.0)) (in_range (part_lo row.0) (part_hi row.0) (part_lo row.0)) (list_eq_refl (part_line row.0))
    (and_from (nat_le (part_lo row.0) (part_lo row.0)) (nat_lt (part_lo row.0) (part_hi row.0)) (le-leb (part_lo row.0) (part_lo row.0) (omega arith)) (lt-ltb (part_lo row.0) (part_hi row.0) l))

-- Rows in printed form have at the start of each of them its value.
abbrev HasOwn : List UseRow → UseRow → Type 0
HasOwn rows row = (part_lo row.0 < part_hi row.0) × (value_at part_sort (start row) rows ≡ Some row.1)

later_own : (first : UseRow) (rows these : List UseRow) → EachRow (After part_sort first) these → EachRow (HasOwn rows) these → EachRow (HasOwn (first ∷ rows)) these
later_own first rows [] behind own = tt
later_own first rows (row ∷ these) behind own =
    ((own.0.0, ap (λ (t : Bool). if t then Some first.1 else value_at part_sort (start row) rows) missed ∙ own.0.1), later_own first rows these behind.1 own.1)
  where
    missed : covers_spot part_sort first.0 (start row) ≡ false
    missed = false_from_ne_true (covers_spot part_sort first.0 (start row)) (λ e. no_overlap part_sort first row (start row) behind.0 e (covers_start row own.0.0))

all_own : (rows : List UseRow) → Apart part_sort rows → EachRow (HasOwn rows) rows
all_own [] h = tt
all_own (row ∷ rows) h =
    ((h.0, ap (λ (t : Bool). if t then Some row.1 else value_at part_sort (start row) rows) (covers_start row h.0)), later_own row rows rows h.1 (all_own rows h.2))

-- a row of printed form has the set of a part
one_use : (rows found : List UseRow) (row : UseRow) → HaveSets rows → Apart part_sort found → ((p : Part) → row_set p found ≡ row_set p rows) → HasOwn found row → IsShapedUse row
one_use rows found row h apart same own =
    let part : (p : Part) × (part_spot p ≡ start row) = part_at row.0 (start row) (covers_start row own.0) in
    let told : row_set part.0 rows ≡ Some row.1 = sym (same part.0) ∙ (apart_set part.0 found apart ∙ (ap (λ (spot : Spot). value_at part_sort spot found) part.1 ∙ own.1)) in
    (own.0, subst IsFrom told (row_set_is part.0 rows h))

all_uses : (rows found these : List UseRow) → HaveSets rows → Apart part_sort found → ((p : Part) → row_set p found ≡ row_set p rows) → EachRow (HasOwn found) these → EachRow IsShapedUse these
all_uses rows found [] h apart same own = tt
all_uses rows found (row ∷ these) h apart same own = (one_use rows found row h apart same own.0, all_uses rows found these h apart same own.1)

sets_shaped : (rows : List UseRow) → HaveSets rows → EachRow IsShapedUse (sets rows)
sets_shaped rows h = all_uses rows (sets rows) (sets rows) h (sets_apart rows) (λ p. sets_row p rows) (all_own (sets rows) (sets_apart rows))

-- rows with cells
abbrev IsAny : AccessKind → Type 0
IsAny kind = Unit {0}

with_cells : (rows : List (Cells × AccessKind)) → EachRow (IsFilled cell_sort IsAny) (filter has_cells rows)
with_cells [] = tt
with_cells (row ∷ rows) = by_test (has_cells row) refl (with_cells rows)
  where
    by_test : (b : Bool) → has_cells row ≡ b → EachRow (IsFilled cell_sort IsAny) (filter has_cells rows) → EachRow (IsFilled cell_sort IsAny) (cond b (row ∷ filter has_cells rows) (filter has_cells rows))
    by_test true e rest = ((ltb-true (cell_lo row.0) (cell_hi row.0) e, tt), rest)
    by_test false e rest = rest

only_filled : (rows : List (Cells × AccessKind)) → EachRow (IsFilled cell_sort IsAny) rows → EachRow IsShapedAccess rows
only_filled [] h = tt
only_filled (row ∷ rows) h = (h.0.0, only_filled rows h.1)

cells_shaped : (rows : List (Cells × AccessKind)) → EachRow IsShapedAccess (printed_accesses (filter has_cells rows))
cells_shaped rows =
    only_filled (printed_accesses (filter has_cells rows))
    (printed_each cell_sort same_kind (IsFilled cell_sort IsAny) (filled_joins cell_sort IsAny cell_widens) (filter has_cells rows) (with_cells rows))

-- touches whose uses have a set
abbrev pub HasSet : Touch → Type 0
HasSet touch = IsSet touch.1.0

abbrev pub AreSets : List Touch → Type 0
AreSets touches = EachRow HasSet touches

uses_have : (touches : List Touch) → AreSets touches → HaveSets (map use_of touches)
uses_have [] h = tt
uses_have (touch ∷ touches) h = (h.0, uses_have touches h.1)

pub step_filled : (place : StepPlace) (doing : Doing) → AreSets doing.1 → IsFilledStep (step_of place doing)
unfolding deed_of
step_filled place doing h = record { uses = sets_shaped (map use_of doing.1) (uses_have doing.1 h); accesses = cells_shaped (map access_of doing.1) }
