-- Rows as they are printed keep what each row has, and sets that are joined stay sets.
use Rattle.std.specs.Prelude.{Option, Some, None, bit_or}
use Rattle.std.proofs.Common.{◌≡◌, ◌<◌, ◌≤◌, min, max, List, [], ◌∷◌, map, Bool, true, false, if◌then◌else◌, ap₂, refl, sym, subst, arith, lit<}
use Rattle.std.proofs.lemmas.Bool.{false_from_ne_true}
use Rattle.std.proofs.lemmas.Nat.{or_lt, le_or_l}
use Rattle.wg_trace.specs.declared.parts.PartRun.{PartRun}
use Rattle.wg_trace.specs.declared.parts.AccessKind.{AccessKind}
use Rattle.wg_trace.specs.declared.parts.AccessKind.TheVariants.{Write}
use Rattle.wg_trace.specs.declared.usages.Usages.{Usages}
use Rattle.wg_rows.specs.Rows.{Sort, covers_spot, run_before, meet, joined, put_at, put, printed, EachRow, After, Apart, Fits, AllFit}
use Rattle.wg_rows.specs.Runs.{Part, Buffer, QuerySet, Subresource, Cell, Byte, Texels, Slice, Query, Cells, part_run, cell_run, cell_spot, cell_sort, covers, covers_part}
use Rattle.wg_rows.specs.Uses.{row_set, with_usage, same_kind, printed_accesses}
use Rattle.wg_rows.specs.Once.{NoneCovers, OneCovers}
use Rattle.wg_rows.proofs.Put.{Widens, both_of, joined_some}
use Rattle.wg_rows.proofs.Printed.{printed_apart, no_overlap}
use Rattle.wg_rows.proofs.Told.{accesses_tell}
use Rattle.wg_readback.specs.Shapes.{IsSet, IsFrom, HasPart, HasCell, IsShapedUse, IsShapedAccess}

-- It holds of two rows joined, where it holds of each.
abbrev pub Joins : {R V : Type 0} → Sort R → (R × V → Type 0) → Type 0
Joins {R} {V} sort P = (x r : R × V) → meet sort x.0 r.0 ≡ true → P x → P r → P (both_of sort x.0 r.0, r.1)

put_each : {R V : Type 0} (sort : Sort R) (same : V → V → Bool) (P : R × V → Type 0) → Joins sort P → (r : R × V) (rows : List (R × V)) → P r → EachRow P rows → EachRow P (put sort same r rows)
put_each sort same P joins r [] its each = (its, tt)
put_each {R} {V} sort same P joins r (x ∷ xs) its each = by_joined (joined sort same x r) refl (run_before sort r.0 x.0) (λ row p. put_each sort same P joins row xs p each.1)
  where
    by_joined : (o : Option (R × V)) → joined sort same x r ≡ o → (b : Bool) → ((row : R × V) → P row → EachRow P (put sort same row xs)) → EachRow P (put_at (λ row. put sort same row xs) r x xs b o)
    by_joined (Some both) e b later =
        let parts : (same x.1 r.1 ≡ true) × (meet sort x.0 r.0 ≡ true) × (both.0 ≡ both_of sort x.0 r.0) × (both.1 ≡ r.1) = joined_some sort same x r both e in
        let whole : both ≡ (both_of sort x.0 r.0, r.1) = ap₂ (λ (run : R) (v : V). (run, v)) parts.2 parts.3 in
        later both (subst P (sym whole) (joins x r parts.1 each.0 its))
    by_joined None e true later = (its, each)
    by_joined None e false later = (each.0, later r its)

pub printed_each : {R V : Type 0} (sort : Sort R) (same : V → V → Bool) (P : R × V → Type 0) → Joins sort P → (rows : List (R × V)) → EachRow P rows → EachRow P (printed sort same rows)
printed_each sort same P joins [] each = tt
printed_each sort same P joins (r ∷ rows) each = put_each sort same P joins r (printed sort same rows) each.0 (printed_each sort same P joins rows each.1)

-- a row that is not empty, with a value that has Q
abbrev pub IsFilled : {R V : Type 0} → Sort R → (V → Type 0) → R × V → Type 0
IsFilled sort Q row = (sort.lo row.0 < sort.hi row.0) × Q row.1

pub filled_joins : {R V : Type 0} (sort : Sort R) (Q : V → Type 0) → Widens sort → Joins sort (IsFilled {R = R} {V = V} sort Q)
filled_joins sort Q widens x r met p q =
    let ends : (sort.line (both_of sort x.0 r.0) ≡ sort.line x.0) × (sort.lo (both_of sort x.0 r.0) ≡ min (sort.lo x.0) (sort.lo r.0)) × (sort.hi (both_of sort x.0 r.0) ≡ max (sort.hi x.0) (sort.hi r.0)) = widens x.0 r.0 met in
    let first : sort.lo x.0 < sort.hi x.0 = p.0 in
    let second : sort.lo r.0 < sort.hi r.0 = q.0 in
    (omega arith, q.1)

-- the run of one part, or of one cell
pub part_filled : (p : Part) → HasPart (part_run p)
part_filled (Buffer object) = lit< tt
part_filled (QuerySet object) = lit< tt
part_filled (Subresource object aspect mip layer) = omega arith

cell_filled : (c : Cell) → HasCell (cell_run c)
cell_filled (Byte object at) = omega arith
cell_filled (Texels object aspect mip layer) = omega arith
cell_filled (Slice object mip depth) = omega arith
cell_filled (Query object at) = omega arith

-- the set of a part
pub or_set : (a b : Usages) → IsSet a → IsSet b → IsSet (record { 0 = bit_or a.0 b.0 })
or_set a b h k = let more : a.0 ≤ bit_or a.0 b.0 = le_or_l a.0 b.0 in let some : 0 < a.0 = h.0 in (omega arith, or_lt 13 a.0 b.0 h.1 k.1)

pub row_set_is : (p : Part) (rows : List (PartRun × Usages)) → EachRow IsShapedUse rows → IsFrom (row_set p rows)
row_set_is p [] h = tt
row_set_is p (row ∷ rows) h = by_test (covers_part row.0 p) (row_set p rows) (row_set_is p rows h.1)
  where
    by_test : (b : Bool) (rest : Option Usages) → IsFrom rest → IsFrom (if b then Some (with_usage row.1 rest) else rest)
    by_test true None k = h.0.1
    by_test true (Some set) k = or_set row.1 set h.0.1 k
    by_test false rest k = k

-- rows in printed form
apart_filled : (rows : List (Cells × AccessKind)) → Apart cell_sort rows → EachRow IsShapedAccess rows
apart_filled [] h = tt
apart_filled (row ∷ rows) h = (h.0, apart_filled rows h.2)

none_covers : (c : Cell) (row : Cells × AccessKind) (rows : List (Cells × AccessKind)) → EachRow (After cell_sort row) rows → covers row.0 c ≡ true → NoneCovers c rows
unfolding covers
none_covers c row [] h e = tt
none_covers c row (next ∷ rows) h e = (false_from_ne_true (covers_spot cell_sort next.0 (cell_spot c)) (λ k. no_overlap cell_sort row next (cell_spot c) h.0 e k), none_covers c row rows h.1 e)

pub apart_once : (rows : List (Cells × AccessKind)) → Apart cell_sort rows → (c : Cell) → OneCovers c rows
apart_once [] h c = tt
apart_once (row ∷ rows) h c = ((λ e. none_covers c row rows h.1 e), apart_once rows h.2 c)

-- single cells that are written
written_fit : (c : Cell) (cells : List Cell) → EachRow (Fits cell_sort (cell_run c, Write)) (map (λ (d : Cell). (cell_run d, Write)) cells)
written_fit c [] = tt
written_fit c (d ∷ cells) = (λ spot e k. refl, written_fit c cells)

all_written : (cells : List Cell) → AllFit cell_sort (map (λ (c : Cell). (cell_run c, Write)) cells)
all_written [] = tt
all_written (c ∷ cells) = (cell_filled c, written_fit c cells, all_written cells)

pub written_shaped : (cells : List Cell) → EachRow IsShapedAccess (printed_accesses (map (λ (c : Cell). (cell_run c, Write)) cells)) × ((c : Cell) → OneCovers c (printed_accesses (map (λ (c : Cell). (cell_run c, Write)) cells)))
written_shaped cells =
    let rows : List (Cells × AccessKind) = map (λ (c : Cell). (cell_run c, Write)) cells in
    let apart : Apart cell_sort (printed_accesses rows) = printed_apart cell_sort same_kind accesses_tell rows (all_written cells) in
    (apart_filled (printed_accesses rows) apart, apart_once (printed_accesses rows) apart)
