-- A step whose touches agree at each cell gives none twice.
use Rattle.std.specs.Prelude.{filter}
use Rattle.std.proofs.Common.{◌≡◌, ℕ, List, [], ◌∷◌, ◌++◌, map, Bool, true, false, cond, ap, refl, sym, ◌∙◌}
use Rattle.std.proofs.lemmas.Bool.{and_parts, ltb-true}
use Rattle.wg_trace.specs.declared.parts.AccessKind.{AccessKind}
use Rattle.wg_trace.specs.declared.usages.Usages.{Usages}
use Rattle.wg_rows.specs.Rows.{Spot, covers_spot, list_eq, in_range, EachRow, Fits, AllFit}
use Rattle.wg_rows.specs.Runs.{Cell, Cells, cell_line, cell_lo, cell_hi, cell_spot, cell_sort, covers}
use Rattle.wg_rows.specs.Uses.{same_kind, printed_accesses}
use Rattle.wg_rows.proofs.Put.{list_eq_true}
use Rattle.wg_rows.proofs.Printed.{printed_apart}
use Rattle.wg_rows.proofs.Told.{accesses_tell}
use Rattle.wg_orders.specs.Steps.{StepPlace}
use Rattle.wg_model.specs.Touches.{Touch, Doing, access_of, has_cells, deed_of, step_of}
use Rattle.wg_model.proofs.StepLaws.{each_joined}
use Rattle.wg_readback.specs.Shapes.{IsOnceStep}
use Rattle.wg_readback.proofs.Apart.{cell_at, spot_at}
use Rattle.wg_readback.proofs.Rows.{apart_once}

-- Two touches access each cell of both in one way.
abbrev pub TouchesAgree : Touch → Touch → Type 0
TouchesAgree a b = (c : Cell) → covers a.0 c ≡ true → covers b.0 c ≡ true → a.1.1 ≡ b.1.1

abbrev pub AllAgree : List Touch → Type 0
AllAgree [] = Unit {0}
AllAgree (touch ∷ touches) = EachRow (TouchesAgree touch) touches × AllAgree touches

abbrev pub AgreeWith : List Touch → Touch → Type 0
AgreeWith touches touch = EachRow (TouchesAgree touch) touches

pub agree_joined : (xs ys : List Touch) → AllAgree xs → AllAgree ys → EachRow (AgreeWith ys) xs → AllAgree (xs ++ ys)
agree_joined [] ys a b k = b
agree_joined (x ∷ xs) ys a b k = (each_joined (TouchesAgree x) xs ys a.0 k.0, agree_joined xs ys a.1 b k.1)

-- touches of one kind
abbrev pub OfKind : AccessKind → Touch → Type 0
OfKind kind touch = touch.1.1 ≡ kind

pub map_kind : (how : Usages × AccessKind) (cells : List Cells) → EachRow (OfKind how.1) (map (λ (run : Cells). (run, how)) cells)
map_kind how [] = tt
map_kind how (run ∷ cells) = (refl, map_kind how cells)

with_kind : (kind : AccessKind) (touch : Touch) (touches : List Touch) → OfKind kind touch → EachRow (OfKind kind) touches → AgreeWith touches touch
with_kind kind touch [] h k = tt
with_kind kind touch (other ∷ touches) h k = ((λ c e f. h ∙ sym k.0), with_kind kind touch touches h k.1)

pub kind_agree : (kind : AccessKind) (touches : List Touch) → EachRow (OfKind kind) touches → AllAgree touches
kind_agree kind [] h = tt
kind_agree kind (touch ∷ touches) h = (with_kind kind touch touches h.0 h.1, kind_agree kind touches h.1)

pub map_agree : (how : Usages × AccessKind) (cells : List Cells) → AllAgree (map (λ (run : Cells). (run, how)) cells)
map_agree how cells = kind_agree how.1 (map (λ (run : Cells). (run, how)) cells) (map_kind how cells)

-- runs with a common cell are of one line
pub same_line : (a b : Cells) (c : Cell) → covers a c ≡ true → covers b c ≡ true → cell_line a ≡ cell_line b
unfolding covers
same_line a b c e h =
    list_eq_true (cell_line a) (cell_spot c).0 (and_parts (list_eq (cell_line a) (cell_spot c).0) (in_range (cell_lo a) (cell_hi a) (cell_spot c).1) e).0
    ∙ sym (list_eq_true (cell_line b) (cell_spot c).0 (and_parts (list_eq (cell_line b) (cell_spot c).0) (in_range (cell_lo b) (cell_hi b) (cell_spot c).1) h).0)

pub apart_agree : (a b : Touch) → (cell_line a.0 ≡ cell_line b.0 → ⊥) → TouchesAgree a b
apart_agree a b ne c e h = absurd (ne (same_line a.0 b.0 c e h))

-- what agrees at cells fits at spots
spot_covered : (run other : Cells) (spot : Spot) → cell_line run ≡ spot.0 → covers_spot cell_sort other spot ≡ true → covers other (cell_at run spot.1) ≡ true
unfolding covers
spot_covered run other spot line e = ap (covers_spot cell_sort other) (spot_at run spot.1 ∙ ap (λ (l : List ℕ). (l, spot.1)) line) ∙ e

agree_fits : (a b : Touch) → TouchesAgree a b → Fits cell_sort (access_of a) (access_of b)
agree_fits a b h spot e k =
    let line : cell_line a.0 ≡ spot.0 = list_eq_true (cell_line a.0) spot.0 (and_parts (list_eq (cell_line a.0) spot.0) (in_range (cell_lo a.0) (cell_hi a.0) spot.1) e).0 in
    h (cell_at a.0 spot.1) (spot_covered a.0 a.0 spot line e) (spot_covered a.0 b.0 spot line k)

rest_fits : (touch : Touch) (touches : List Touch) → AgreeWith touches touch → EachRow (Fits cell_sort (access_of touch)) (filter has_cells (map access_of touches))
rest_fits touch [] h = tt
rest_fits touch (other ∷ touches) h = by_test (has_cells (access_of other)) (rest_fits touch touches h.1)
  where
    by_test : (t : Bool) → EachRow (Fits cell_sort (access_of touch)) (filter has_cells (map access_of touches))
        → EachRow (Fits cell_sort (access_of touch)) (cond t (access_of other ∷ filter has_cells (map access_of touches)) (filter has_cells (map access_of touches)))
    by_test true k = (agree_fits touch other h.0, k)
    by_test false k = k

all_fit : (touches : List Touch) → AllAgree touches → AllFit cell_sort (filter has_cells (map access_of touches))
all_fit [] h = tt
all_fit (touch ∷ touches) h = by_test (has_cells (access_of touch)) refl (all_fit touches h.1)
  where
    by_test : (t : Bool) → has_cells (access_of touch) ≡ t → AllFit cell_sort (filter has_cells (map access_of touches))
        → AllFit cell_sort (cond t (access_of touch ∷ filter has_cells (map access_of touches)) (filter has_cells (map access_of touches)))
    by_test true e k = (ltb-true (cell_lo touch.0) (cell_hi touch.0) e, rest_fits touch touches h.0, k)
    by_test false e k = k

pub step_once : (place : StepPlace) (doing : Doing) → AllAgree doing.1 → IsOnceStep (step_of place doing)
unfolding deed_of
step_once place doing h =
    let rows : List (Cells × AccessKind) = filter has_cells (map access_of doing.1) in
    apart_once (printed_accesses rows) (printed_apart cell_sort same_kind accesses_tell rows (all_fit doing.1 h))
