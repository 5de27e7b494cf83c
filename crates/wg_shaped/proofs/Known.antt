-- What is known of the touches of a bundle gives parts and cells what these give them.
use Rattle.std.proofs.Common.{◌≡◌, ℕ, ◌<◌, Bool, true, false, not, ◌&&◌, ◌||◌, ◌==◌, List, [], ◌∷◌, ◌++◌, map, filter, Some, None, is_some, refl, ap, ap₂, sym, ◌∙◌, subst, arith, bit_or, nat_lt, nat_le, if◌then◌else◌, cond, true≢false, ◌⊎◌, inl, inr, IsPermutation}
use Rattle.std.specs.List.{list_any}
use Rattle.std.proofs.lemmas.Bool.{and_parts, and_from, or_cases, or_left, or_right, ltb-true, lt-ltb, le-leb}
use Rattle.std.proofs.lemmas.List.{map-append}
use Rattle.std.proofs.lemmas.List.Sorted.{IsPermutation-refl, IsPermutation-trans, IsPermutation-cons, IsPermutation-middle, IsPermutation-append_right, IsPermutation-map, list_any-IsPermutation}
use Rattle.wg_types.specs.declared.bundles.BundleTouch.{BundleTouch}
use Rattle.wg_types.specs.declared.bundles.BundleUse.{BundleUse}
use Rattle.wg_types.specs.declared.bundles.BundleUse.TheVariants.{Input, Constant, StorageRead, Storage}
use Rattle.wg_rows.specs.Rows.{any_row, EachRow, Apart, AllFit, Fits, in_range, list_eq}
use Rattle.wg_rows.specs.Runs.{Part, Buffer, Subresource, QuerySet, is_texture, Color, aspect_number, PartRun, BufferPart, LayerParts, QueryPart, Cell, Byte, Texels, Slice, Query, Cells, Bytes, Layers, Slices, Queries, cell_lo, cell_hi, cell_sort, part_of, run_part, covers, covers_part}
use Rattle.wg_rows.specs.Uses.{Usages, AccessKind, Read, same_kind, row_set, with_usage, printed_accesses}
use Rattle.wg_rows.specs.Sets.{UseRow, sets}
use Rattle.wg_rows.proofs.Put.{list_eq_refl, Each_value, printed_value}
use Rattle.wg_rows.proofs.Printed.{printed_apart, respects}
use Rattle.wg_rows.proofs.Runs.{tags_differ, single_part, printed_cells_any}
use Rattle.wg_rows.proofs.Told.{accesses_tell}
use Rattle.wg_rows.proofs.Lying.{cells_lie}
use Rattle.wg_rows.proofs.Sets.{empty_covers, sets_row, both_options, joined_set}
use Rattle.wg_rows.proofs.Permuted.{set_permuted}
use Rattle.wg_model.specs.Touches.{Touch, use_of, access_of, has_cells, deed_of}
use Rattle.wg_model.specs.Bundles.{bundle_how, bundle_touch, is_used_so, no_cells, part_touched, cells_touched, touched_so, bundle_touches}
use Rattle.wg_model.proofs.Touching.{filtered_any, none_covered}
use Rattle.wg_shaped.specs.Bundled.{is_accessed_so, part_is_used, AreAlike, tells_part, IsBundled, TouchesAreKnown}

-- Tests.
none_and : (b : Bool) → b && false ≡ false
none_and true = refl
none_and false = refl

pub all_and : (b : Bool) → b && true ≡ b
all_and true = refl
all_and false = refl

or_and : (a b k : Bool) → (a && k) || (b && k) ≡ (a || b) && k
or_and true b true = refl
or_and true true false = refl
or_and true false false = refl
or_and false b k = refl

no_line : (x z : Bool) → (x && false) && z ≡ false
no_line true z = refl
no_line false z = refl

-- two tests that each follow from the other
pub same_test : (a b : Bool) → (a ≡ true → b ≡ true) → (b ≡ true → a ≡ true) → a ≡ b
same_test true b to from = sym (to refl)
same_test false true to from = from refl
same_test false false to from = refl

-- whether some row has a part
abbrev pub used_in : Part → List UseRow → Bool
used_in p rows = any_row (λ run. covers_part run p) (λ _. true) rows

-- whether some row has cells in a part, or a cell
abbrev lies_in : Part → List (Cells × AccessKind) → Bool
lies_in p rows = any_row (λ run. covers_part (run_part run) p) (λ _. true) rows

abbrev has_cell : Cell → List (Cells × AccessKind) → Bool
has_cell c rows = any_row (λ run. covers run c) (λ _. true) rows

pub used_is : (p : Part) (rows : List UseRow) → used_in p rows ≡ is_some (row_set p rows)
used_is p [] = refl
used_is p (row ∷ rows) = by_cover (covers_part row.0 p) (used_is p rows)
  where
    by_cover : (b : Bool) → used_in p rows ≡ is_some (row_set p rows) → (b && true) || used_in p rows ≡ is_some (if b then Some (with_usage row.1 (row_set p rows)) else row_set p rows)
    by_cover true rest = refl
    by_cover false rest = rest

pub any_joined : {R V : Type 0} (covering : R → Bool) (test : V → Bool) (xs ys : List (R × V)) → any_row covering test (xs ++ ys) ≡ any_row covering test xs || any_row covering test ys
any_joined covering test [] ys = refl
any_joined covering test (x ∷ xs) ys = ap (λ b. (covering x.0 && test x.1) || b) (any_joined covering test xs ys) ∙ by_first (covering x.0 && test x.1) (any_row covering test xs) (any_row covering test ys)
  where
    by_first : (a b c : Bool) → a || (b || c) ≡ (a || b) || c
    by_first true b c = refl
    by_first false b c = refl

-- Cells in a part.

pub record Within (run : Cells) (p : Part) : Type 0 where
  pub cell : Cell
  pub covered : covers run cell ≡ true
  pub lies : part_of cell ≡ p

from_lo : (lo hi : ℕ) → lo < hi → in_range lo hi lo ≡ true
from_lo lo hi l = and_from (nat_le lo lo) (nat_lt lo hi) (le-leb lo lo (omega arith)) (lt-ltb lo hi l)

bytes_within : (object lo hi : ℕ) (p : Part) → lo < hi → covers_part (BufferPart object) p ≡ true → Within (Bytes object lo hi) p
unfolding covers
bytes_within object lo hi p l e = record { cell = Byte object lo; covered = and_from (list_eq (object ∷ (0 ∷ [])) (object ∷ (0 ∷ []))) (in_range lo hi lo) (list_eq_refl (object ∷ (0 ∷ []))) (from_lo lo hi l); lies = single_part (Buffer object) p e }

slices_within : (object mip lo hi : ℕ) (p : Part) → lo < hi → covers_part (LayerParts object Color mip 0 1) p ≡ true → Within (Slices object mip lo hi) p
unfolding covers
slices_within object mip lo hi p l e = record { cell = Slice object mip lo; covered = and_from (list_eq (object ∷ (3 ∷ (mip ∷ []))) (object ∷ (3 ∷ (mip ∷ [])))) (in_range lo hi lo) (list_eq_refl (object ∷ (3 ∷ (mip ∷ [])))) (from_lo lo hi l); lies = single_part (Subresource object Color mip 0) p e }

queries_within : (object lo hi : ℕ) (p : Part) → lo < hi → covers_part (QueryPart object) p ≡ true → Within (Queries object lo hi) p
unfolding covers
queries_within object lo hi p l e = record { cell = Query object lo; covered = and_from (list_eq (object ∷ (1 ∷ [])) (object ∷ (1 ∷ []))) (in_range lo hi lo) (list_eq_refl (object ∷ (1 ∷ []))) (from_lo lo hi l); lies = single_part (QuerySet object) p e }

full_within : (run : Cells) (p : Part) → cell_lo run < cell_hi run → covers_part (run_part run) p ≡ true → Within run p
unfolding covers covers_part
full_within (Bytes object lo hi) p l e = bytes_within object lo hi p l e
full_within (Slices object mip lo hi) p l e = slices_within object mip lo hi p l e
full_within (Queries object lo hi) p l e = queries_within object lo hi p l e
full_within (Layers object aspect mip lo hi) (Subresource o a m layer) l e = record { cell = Texels o a m layer; covered = e; lies = refl }
full_within (Layers object aspect mip lo hi) (Buffer o) l e = absurd (tags_differ _ _ e)
full_within (Layers object aspect mip lo hi) (QuerySet o) l e = absurd (tags_differ _ _ e)

-- Of a texture part it is enough that the cells tell it.
texture_within : (run : Cells) (p : Part) → tells_part run ≡ true → is_texture p ≡ true → covers_part (run_part run) p ≡ true → Within run p
unfolding covers covers_part
texture_within (Layers object aspect mip lo hi) (Subresource o a m layer) told is e = record { cell = Texels o a m layer; covered = e; lies = refl }
texture_within (Slices object mip lo hi) (Subresource o a m layer) told is e = slices_within object mip lo hi (Subresource o a m layer) (ltb-true lo hi told) e
texture_within (Bytes object lo hi) (Subresource o a m layer) told is e = absurd (tags_differ _ _ e)
texture_within (Queries object lo hi) (Subresource o a m layer) told is e = absurd (tags_differ _ _ e)
texture_within run (Buffer o) told is e = absurd (true≢false (sym is))
texture_within run (QuerySet o) told is e = absurd (true≢false (sym is))

-- A row has a cell of a part, among others.
pub record Found (p : Part) (rows : List (Cells × AccessKind)) : Type 0 where
  pub cell : Cell
  pub lies : part_of cell ≡ p
  pub has : has_cell cell rows ≡ true

found_here : (p : Part) (row : Cells × AccessKind) (rows : List (Cells × AccessKind)) → Within row.0 p → Found p (row ∷ rows)
found_here p row rows within = record { cell = within.cell; lies = within.lies; has = or_left (covers row.0 within.cell && true) (has_cell within.cell rows) (and_from (covers row.0 within.cell) true within.covered refl) }

found_later : (p : Part) (row : Cells × AccessKind) (rows : List (Cells × AccessKind)) → Found p rows → Found p (row ∷ rows)
found_later p row rows found = record { cell = found.cell; lies = found.lies; has = or_right (covers row.0 found.cell && true) (has_cell found.cell rows) found.has }

found_in : (p : Part) (rows : List (Cells × AccessKind)) → EachRow (λ (row : Cells × AccessKind). covers_part (run_part row.0) p ≡ true → Within row.0 p) rows → lies_in p rows ≡ true → Found p rows
found_in p [] each e = absurd (true≢false (sym e))
found_in p (row ∷ rows) each e = by_cases (or_cases (covers_part (run_part row.0) p && true) (lies_in p rows) e) (λ later. found_in p rows each.1 later)
  where
    by_cases : (covers_part (run_part row.0) p && true ≡ true) ⊎ (lies_in p rows ≡ true) → (lies_in p rows ≡ true → Found p rows) → Found p (row ∷ rows)
    by_cases (inl here) rest = found_here p row rows (each.0 (and_parts (covers_part (run_part row.0) p) true here).0)
    by_cases (inr later) rest = found_later p row rows (rest later)

-- Where there is a cell the rows lie in its part.
cell_lies : (c : Cell) (rows : List (Cells × AccessKind)) → has_cell c rows ≡ true → lies_in (part_of c) rows ≡ true
cell_lies c [] e = e
cell_lies c (row ∷ rows) e = by_cases (or_cases (covers row.0 c && true) (has_cell c rows) e) (λ later. cell_lies c rows later)
  where
    by_cases : (covers row.0 c && true ≡ true) ⊎ (has_cell c rows ≡ true) → (has_cell c rows ≡ true → lies_in (part_of c) rows ≡ true) → lies_in (part_of c) (row ∷ rows) ≡ true
    by_cases (inl here) rest = or_left (covers_part (run_part row.0) (part_of c) && true) (lies_in (part_of c) rows) (and_from (covers_part (run_part row.0) (part_of c)) true (cells_lie row.0 c (and_parts (covers row.0 c) true here).0) refl)
    by_cases (inr later) rest = or_right (covers_part (run_part row.0) (part_of c) && true) (lies_in (part_of c) rows) (rest later)

found_lies : (p : Part) (rows : List (Cells × AccessKind)) (found : Found p rows) → lies_in p rows ≡ true
found_lies p rows found = subst (λ (q : Part). lies_in q rows ≡ true) found.lies (cell_lies found.cell rows found.has)

-- Accesses of one kind as they are printed.

abbrev AreOf : AccessKind → List (Cells × AccessKind) → Type 0
AreOf kind rows = EachRow (λ (row : Cells × AccessKind). row.1 ≡ kind) rows

abbrev AreFull : List (Cells × AccessKind) → Type 0
AreFull rows = EachRow (λ (row : Cells × AccessKind). cell_lo row.0 < cell_hi row.0) rows

with_cells : (kind : AccessKind) (rows : List (Cells × AccessKind)) → AreOf kind rows → AreOf kind (filter has_cells rows) × AreFull (filter has_cells rows)
with_cells kind [] each = (tt, tt)
with_cells kind (row ∷ rows) each = by_test (has_cells row) refl (with_cells kind rows each.1)
  where
    by_test : (b : Bool) → has_cells row ≡ b → AreOf kind (filter has_cells rows) × AreFull (filter has_cells rows) → AreOf kind (cond b (row ∷ filter has_cells rows) (filter has_cells rows)) × AreFull (cond b (row ∷ filter has_cells rows) (filter has_cells rows))
    by_test true e rest = ((each.0, rest.0), (ltb-true (cell_lo row.0) (cell_hi row.0) e, rest.1))
    by_test false e rest = rest

fit_one : (kind : AccessKind) (row : Cells × AccessKind) (rows : List (Cells × AccessKind)) → row.1 ≡ kind → AreOf kind rows → EachRow (Fits cell_sort row) rows
fit_one kind row [] e each = tt
fit_one kind row (x ∷ xs) e each = (λ spot over_row over_x. e ∙ sym each.0, fit_one kind row xs e each.1)

all_fit : (kind : AccessKind) (rows : List (Cells × AccessKind)) → AreOf kind rows → AreFull rows → AllFit cell_sort rows
all_fit kind [] each full = tt
all_fit kind (row ∷ rows) each full = (full.0, fit_one kind row rows each.0 each.1, all_fit kind rows each.1 full.1)

apart_full : (rows : List (Cells × AccessKind)) → Apart cell_sort rows → AreFull rows
apart_full [] apart = tt
apart_full (row ∷ rows) apart = (apart.0, apart_full rows apart.2)

as_values : (kind : AccessKind) (rows : List (Cells × AccessKind)) → AreOf kind rows → Each_value kind rows
as_values kind [] each = tt
as_values kind (row ∷ rows) each = (each.0, as_values kind rows each.1)

abbrev shown : List (Cells × AccessKind) → List (Cells × AccessKind)
shown rows = printed_accesses (filter has_cells rows)

shown_full : (kind : AccessKind) (rows : List (Cells × AccessKind)) → AreOf kind rows → AreFull (shown rows)
shown_full kind rows each =
    let these : AreOf kind (filter has_cells rows) × AreFull (filter has_cells rows) = with_cells kind rows each in
    apart_full (shown rows) (printed_apart cell_sort same_kind accesses_tell (filter has_cells rows) (all_fit kind (filter has_cells rows) these.0 these.1))

shown_values : (kind : AccessKind) (rows : List (Cells × AccessKind)) → AreOf kind rows → Each_value kind (shown rows)
shown_values kind rows each = printed_value cell_sort same_kind kind (filter has_cells rows) (as_values kind (filter has_cells rows) (with_cells kind rows each).0)

shown_has : (c : Cell) (rows : List (Cells × AccessKind)) → has_cell c (shown rows) ≡ has_cell c rows
shown_has c rows = printed_cells_any same_kind c (λ _. true) (λ u v e. refl) (filter has_cells rows) ∙ filtered_any c (λ _. true) rows

-- What is shown lies where the accesses do,
full_tells : (p : Part) (rows : List (Cells × AccessKind)) → AreFull rows → EachRow (λ (row : Cells × AccessKind). covers_part (run_part row.0) p ≡ true → Within row.0 p) rows
full_tells p [] full = tt
full_tells p (row ∷ rows) full = (λ e. full_within row.0 p full.0 e, full_tells p rows full.1)

shown_lies : (kind : AccessKind) (p : Part) (rows : List (Cells × AccessKind)) → AreOf kind rows → lies_in p (shown rows) ≡ true → lies_in p rows ≡ true
shown_lies kind p rows each e =
    let found : Found p (shown rows) = found_in p (shown rows) (full_tells p (shown rows) (shown_full kind rows each)) e in
    found_lies p rows (record { cell = found.cell; lies = found.lies; has = sym (shown_has found.cell rows) ∙ found.has })

-- and of textures these lie nowhere else.
abbrev AreTold : List (Cells × AccessKind) → Type 0
AreTold rows = EachRow (λ (row : Cells × AccessKind). tells_part row.0 ≡ true) rows

texture_tells : (p : Part) (rows : List (Cells × AccessKind)) → is_texture p ≡ true → AreTold rows → EachRow (λ (row : Cells × AccessKind). covers_part (run_part row.0) p ≡ true → Within row.0 p) rows
texture_tells p [] is told = tt
texture_tells p (row ∷ rows) is told = (λ e. texture_within row.0 p told.0 is e, texture_tells p rows is told.1)

pub texture_found : (p : Part) (rows : List (Cells × AccessKind)) → is_texture p ≡ true → AreTold rows → lies_in p rows ≡ true → Found p rows
texture_found p rows is told e = found_in p rows (texture_tells p rows is told) e

lies_shown : (p : Part) (rows : List (Cells × AccessKind)) → is_texture p ≡ true → AreTold rows → lies_in p rows ≡ true → lies_in p (shown rows) ≡ true
lies_shown p rows is told e =
    let found : Found p rows = texture_found p rows is told e in
    found_lies p (shown rows) (record { cell = found.cell; lies = found.lies; has = shown_has found.cell rows ∙ found.has })

-- Touches of one way of use.

pub record IsOf (used : BundleUse) (touch : Touch) : Type 0 where
  pub so : touch.1 ≡ bundle_how used
  pub told : tells_part touch.0 ≡ true

abbrev AllOf : BundleUse → List Touch → Type 0
AllOf used touches = EachRow (IsOf used) touches

accesses_of : (used : BundleUse) (touches : List Touch) → AllOf used touches → AreOf (bundle_how used).1 (map access_of touches)
accesses_of used [] each = tt
accesses_of used (touch ∷ touches) each = (ap (λ (how : Usages × AccessKind). how.1) each.0.so, accesses_of used touches each.1)

accesses_told : (used : BundleUse) (touches : List Touch) → AllOf used touches → AreTold (map access_of touches)
accesses_told used [] each = tt
accesses_told used (touch ∷ touches) each = (each.0.told, accesses_told used touches each.1)

abbrev UsedAs : Usages → List UseRow → Type 0
UsedAs usages rows = EachRow (λ (row : UseRow). row.1 ≡ usages) rows

uses_of : (used : BundleUse) (touches : List Touch) → AllOf used touches → UsedAs (bundle_how used).0 (map use_of touches)
uses_of used [] each = tt
uses_of used (touch ∷ touches) each = (ap (λ (how : Usages × AccessKind). how.0) each.0.so, uses_of used touches each.1)

-- The set of a part that is always used in one way.
own_union : (used : BundleUse) → bit_or (bundle_how used).0.0 (bundle_how used).0.0 ≡ (bundle_how used).0.0
own_union Input = refl
own_union Constant = refl
own_union StorageRead = refl
own_union Storage = refl

one_set : (used : BundleUse) (p : Part) (rows : List UseRow) → UsedAs (bundle_how used).0 rows → row_set p rows ≡ (if used_in p rows then Some (bundle_how used).0 else None)
one_set used p [] each = refl
one_set used p (row ∷ rows) each = by_cover (covers_part row.0 p) (one_set used p rows each.1)
  where
    joined : (b : Bool) → with_usage (bundle_how used).0 (if b then Some (bundle_how used).0 else None) ≡ (bundle_how used).0
    joined true = ap (λ n. record { 0 = n }) (own_union used)
    joined false = refl

    by_cover : (b : Bool) → row_set p rows ≡ (if used_in p rows then Some (bundle_how used).0 else None) → (if b then Some (with_usage row.1 (row_set p rows)) else row_set p rows) ≡ (if (b && true) || used_in p rows then Some (bundle_how used).0 else None)
    by_cover true rest = ap Some (ap₂ with_usage each.0 rest ∙ joined (used_in p rows))
    by_cover false rest = rest

-- what is known of a run of parts that is used: a buffer or a query set, and no part of a texture
part_known : (run : PartRun) (p : Part) → covers_part (run_part (no_cells run)) p ≡ covers_part run p && not (is_texture p)
unfolding covers_part
part_known (BufferPart object) (Buffer o) = sym (all_and _)
part_known (BufferPart object) (QuerySet o) = sym (all_and _)
part_known (BufferPart object) (Subresource o a m layer) = no_line (object == o) (in_range 0 1 layer) ∙ sym (none_and _)
part_known (QueryPart object) (Buffer o) = sym (all_and _)
part_known (QueryPart object) (QuerySet o) = sym (all_and _)
part_known (QueryPart object) (Subresource o a m layer) = no_line (object == o) (in_range 0 1 layer) ∙ sym (none_and _)
part_known (LayerParts object aspect mip lo hi) (Buffer o) = no_line (object == o) (in_range 0 0 0) ∙ sym (ap (λ b. b && true) (no_line (object == o) (in_range lo hi 0)))
part_known (LayerParts object aspect mip lo hi) (QuerySet o) = no_line (object == o) (in_range 0 0 0) ∙ sym (ap (λ b. b && true) (no_line (object == o) (in_range lo hi 0)))
part_known (LayerParts object aspect mip lo hi) (Subresource o a m layer) =
    ap (λ b. list_eq (object ∷ (2 ∷ (aspect_number aspect ∷ (mip ∷ [])))) (o ∷ (2 ∷ (aspect_number a ∷ (m ∷ [])))) && b) (empty_covers 0 0 layer refl)
    ∙ (none_and _ ∙ sym (none_and _))

abbrev known_parts : BundleUse → List UseRow → List Touch
known_parts used rows = map bundle_touch (map (part_touched used) rows)

abbrev known_cells : BundleUse → List (Cells × AccessKind) → List Touch
known_cells used rows = map bundle_touch (map (cells_touched used) rows)

parts_used : (used : BundleUse) (p : Part) (rows : List UseRow) → part_is_used p (known_parts used rows) ≡ used_in p rows && not (is_texture p)
parts_used used p [] = refl
parts_used used p (row ∷ rows) =
    ap₂ ◌||◌ (all_and (covers_part (run_part (no_cells row.0)) p) ∙ part_known row.0 p) (parts_used used p rows)
    ∙ (or_and (covers_part row.0 p) (used_in p rows) (not (is_texture p)) ∙ ap (λ b. (b || used_in p rows) && not (is_texture p)) (sym (all_and (covers_part row.0 p))))

cells_used : (used : BundleUse) (p : Part) (rows : List (Cells × AccessKind)) → part_is_used p (known_cells used rows) ≡ lies_in p rows
cells_used used p [] = refl
cells_used used p (row ∷ rows) = ap (λ b. (covers_part (run_part row.0) p && true) || b) (cells_used used p rows)

pub touches_lie : (p : Part) (touches : List Touch) → part_is_used p touches ≡ lies_in p (map access_of touches)
touches_lie p [] = refl
touches_lie p (touch ∷ touches) = ap (λ b. (covers_part (run_part touch.0) p && true) || b) (touches_lie p touches)

sets_used : (p : Part) (rows : List UseRow) → used_in p (sets rows) ≡ used_in p rows
sets_used p rows = used_is p (sets rows) ∙ (ap is_some (sets_row p rows) ∙ sym (used_is p rows))

pub used_joined : (p : Part) (xs ys : List Touch) → part_is_used p (xs ++ ys) ≡ part_is_used p xs || part_is_used p ys
used_joined p xs ys = ap (used_in p) (map-append use_of xs ys) ∙ any_joined (λ run. covers_part run p) (λ _. true) (map use_of xs) (map use_of ys)

-- What is known of touches of one way uses the same parts,
abbrev known_so : BundleUse → List Touch → List Touch
known_so used touches = known_parts used (sets (map use_of touches)) ++ known_cells used (shown (map access_of touches))

so_used : (used : BundleUse) (p : Part) (touches : List Touch) → AllOf used touches → part_is_used p (known_so used touches) ≡ part_is_used p touches
so_used used p touches each =
    used_joined p (known_parts used (sets (map use_of touches))) (known_cells used (shown (map access_of touches)))
    ∙ (ap₂ ◌||◌ (parts_used used p (sets (map use_of touches)) ∙ ap (λ b. b && not (is_texture p)) (sets_used p (map use_of touches))) (cells_used used p (shown (map access_of touches)))
    ∙ by_tests (part_is_used p touches) (is_texture p) (lies_in p (shown (map access_of touches))) refl refl refl)
  where
    back : lies_in p (shown (map access_of touches)) ≡ true → part_is_used p touches ≡ true
    back e = touches_lie p touches ∙ shown_lies (bundle_how used).1 p (map access_of touches) (accesses_of used touches each) e

    on : is_texture p ≡ true → part_is_used p touches ≡ true → lies_in p (shown (map access_of touches)) ≡ true
    on is e = lies_shown p (map access_of touches) is (accesses_told used touches each) (sym (touches_lie p touches) ∙ e)

    by_tests : (x t y : Bool) → part_is_used p touches ≡ x → is_texture p ≡ t → lies_in p (shown (map access_of touches)) ≡ y → (x && not t) || y ≡ x
    by_tests true false y e f g = refl
    by_tests true true y e f g = sym g ∙ on f e
    by_tests false t true e f g = absurd (true≢false (sym (back g) ∙ e))
    by_tests false t false e f g = refl

parts_as : (used : BundleUse) (rows : List UseRow) → UsedAs (bundle_how used).0 (map use_of (known_parts used rows))
parts_as used [] = tt
parts_as used (row ∷ rows) = (refl, parts_as used rows)

cells_as : (used : BundleUse) (rows : List (Cells × AccessKind)) → UsedAs (bundle_how used).0 (map use_of (known_cells used rows))
cells_as used [] = tt
cells_as used (row ∷ rows) = (refl, cells_as used rows)

both_as : (usages : Usages) (xs ys : List UseRow) → UsedAs usages xs → UsedAs usages ys → UsedAs usages (xs ++ ys)
both_as usages [] ys a b = b
both_as usages (x ∷ xs) ys a b = (a.0, both_as usages xs ys a.1 b)

so_as : (used : BundleUse) (touches : List Touch) → UsedAs (bundle_how used).0 (map use_of (known_so used touches))
so_as used touches =
    subst (UsedAs (bundle_how used).0) (sym (map-append use_of (known_parts used (sets (map use_of touches))) (known_cells used (shown (map access_of touches)))))
    (both_as (bundle_how used).0 (map use_of (known_parts used (sets (map use_of touches)))) (map use_of (known_cells used (shown (map access_of touches))))
    (parts_as used (sets (map use_of touches))) (cells_as used (shown (map access_of touches))))

so_sets : (used : BundleUse) (touches : List Touch) → AllOf used touches → (p : Part) → row_set p (map use_of (known_so used touches)) ≡ row_set p (map use_of touches)
so_sets used touches each p =
    one_set used p (map use_of (known_so used touches)) (so_as used touches)
    ∙ (ap (λ b. if b then Some (bundle_how used).0 else None) (so_used used p touches each)
    ∙ sym (one_set used p (map use_of touches) (uses_of used touches each)))

-- and accesses the same cells in that way.
none_within : (run : PartRun) (c : Cell) → covers (no_cells run) c ≡ false
none_within (BufferPart object) c = none_covered c (Bytes object 0 0, Read) refl
none_within (LayerParts object aspect mip lo hi) c = none_covered c (Layers object aspect mip 0 0, Read) refl
none_within (QueryPart object) c = none_covered c (Queries object 0 0, Read) refl

parts_accessed : (used : BundleUse) (c : Cell) (kind : AccessKind) (rows : List UseRow) → is_accessed_so c kind (known_parts used rows) ≡ false
parts_accessed used c kind [] = refl
parts_accessed used c kind (row ∷ rows) = ap₂ (λ (a b : Bool). (a && same_kind kind (bundle_how used).1) || b) (none_within row.0 c) (parts_accessed used c kind rows)

cells_accessed : (used : BundleUse) (c : Cell) (kind : AccessKind) (rows : List (Cells × AccessKind)) → Each_value (bundle_how used).1 rows → is_accessed_so c kind (known_cells used rows) ≡ any_row (λ run. covers run c) (same_kind kind) rows
cells_accessed used c kind [] each = refl
cells_accessed used c kind (row ∷ rows) each = ap₂ (λ (k : AccessKind) (b : Bool). (covers row.0 c && same_kind kind k) || b) (sym each.0) (cells_accessed used c kind rows each.1)

pub accessed_joined : (c : Cell) (kind : AccessKind) (xs ys : List Touch) → is_accessed_so c kind (xs ++ ys) ≡ is_accessed_so c kind xs || is_accessed_so c kind ys
accessed_joined c kind xs ys = ap (any_row (λ run. covers run c) (same_kind kind)) (map-append access_of xs ys) ∙ any_joined (λ run. covers run c) (same_kind kind) (map access_of xs) (map access_of ys)

so_kinds : (used : BundleUse) (touches : List Touch) → AllOf used touches → (c : Cell) (kind : AccessKind) → is_accessed_so c kind (known_so used touches) ≡ is_accessed_so c kind touches
so_kinds used touches each c kind =
    accessed_joined c kind (known_parts used (sets (map use_of touches))) (known_cells used (shown (map access_of touches)))
    ∙ (ap₂ ◌||◌ (parts_accessed used c kind (sets (map use_of touches))) (cells_accessed used c kind (shown (map access_of touches)) (shown_values (bundle_how used).1 (map access_of touches) (accesses_of used touches each)))
    ∙ (printed_cells_any same_kind c (same_kind kind) (respects cell_sort same_kind accesses_tell kind) (filter has_cells (map access_of touches))
    ∙ filtered_any c (same_kind kind) (map access_of touches)))

-- All four ways of use.

filtered : (used : BundleUse) (touches : List Touch) → EachRow IsBundled touches → AllOf used (filter (is_used_so used) touches)
filtered used [] each = tt
filtered used (touch ∷ touches) each = by_test (is_used_so used touch) refl (filtered used touches each.1)
  where
    by_test : (b : Bool) → is_used_so used touch ≡ b → AllOf used (filter (is_used_so used) touches) → AllOf used (cond b (touch ∷ filter (is_used_so used) touches) (filter (is_used_so used) touches))
    by_test true e rest = (record { so = each.0.so ∙ only used each.0.used (sym (ap (λ (how : Usages × AccessKind). how.0.0 == (bundle_how used).0.0 && same_kind how.1 (bundle_how used).1) each.0.so) ∙ e); told = each.0.told }, rest)
      where
        only : (a b : BundleUse) → (bundle_how b).0.0 == (bundle_how a).0.0 && same_kind (bundle_how b).1 (bundle_how a).1 ≡ true → bundle_how b ≡ bundle_how a
        only Input Input k = refl
        only Constant Constant k = refl
        only StorageRead StorageRead k = refl
        only Storage Storage k = refl
        only a b k = absurd (true≢false (sym k))
    by_test false e rest = rest

abbrev parted : List Touch → List Touch
parted touches = filter (is_used_so Input) touches ++ (filter (is_used_so Constant) touches ++ (filter (is_used_so StorageRead) touches ++ filter (is_used_so Storage) touches))

-- a touch that goes to the front of its way
placed : (used : BundleUse) (cells : Cells) (touches : List Touch) → IsPermutation (parted touches) touches → IsPermutation (parted ((cells, bundle_how used) ∷ touches)) ((cells, bundle_how used) ∷ touches)
placed Input cells touches rest = IsPermutation-cons (cells, bundle_how Input) _ _ rest
placed Constant cells touches rest =
    IsPermutation-trans _ _ _
    (IsPermutation-middle (filter (is_used_so Input) touches) (cells, bundle_how Constant) (filter (is_used_so Constant) touches ++ (filter (is_used_so StorageRead) touches ++ filter (is_used_so Storage) touches)))
    (IsPermutation-cons (cells, bundle_how Constant) _ _ rest)
placed StorageRead cells touches rest =
    IsPermutation-trans _ _ _
    (IsPermutation-append_right (filter (is_used_so Input) touches) _ _ (IsPermutation-middle (filter (is_used_so Constant) touches) (cells, bundle_how StorageRead) (filter (is_used_so StorageRead) touches ++ filter (is_used_so Storage) touches)))
    (IsPermutation-trans _ _ _
    (IsPermutation-middle (filter (is_used_so Input) touches) (cells, bundle_how StorageRead) (filter (is_used_so Constant) touches ++ (filter (is_used_so StorageRead) touches ++ filter (is_used_so Storage) touches)))
    (IsPermutation-cons (cells, bundle_how StorageRead) _ _ rest))
placed Storage cells touches rest =
    IsPermutation-trans _ _ _
    (IsPermutation-append_right (filter (is_used_so Input) touches) _ _
    (IsPermutation-append_right (filter (is_used_so Constant) touches) _ _ (IsPermutation-middle (filter (is_used_so StorageRead) touches) (cells, bundle_how Storage) (filter (is_used_so Storage) touches))))
    (IsPermutation-trans _ _ _
    (IsPermutation-append_right (filter (is_used_so Input) touches) _ _ (IsPermutation-middle (filter (is_used_so Constant) touches) (cells, bundle_how Storage) (filter (is_used_so StorageRead) touches ++ filter (is_used_so Storage) touches)))
    (IsPermutation-trans _ _ _
    (IsPermutation-middle (filter (is_used_so Input) touches) (cells, bundle_how Storage) (filter (is_used_so Constant) touches ++ (filter (is_used_so StorageRead) touches ++ filter (is_used_so Storage) touches)))
    (IsPermutation-cons (cells, bundle_how Storage) _ _ rest)))

by_way : (touches : List Touch) → EachRow IsBundled touches → IsPermutation (parted touches) touches
by_way [] each = IsPermutation-refl []
by_way (touch ∷ touches) each =
    subst (λ (how : Usages × AccessKind). IsPermutation (parted ((touch.0, how) ∷ touches)) ((touch.0, how) ∷ touches)) (sym each.0.so) (placed each.0.used touch.0 touches (by_way touches each.1))

-- Rows pass alike in another order.
row_any : {R V : Type 0} (covering : R → Bool) (test : V → Bool) (rows : List (R × V)) → any_row covering test rows ≡ list_any (λ (row : R × V). covering row.0 && test row.1) rows
row_any covering test [] = refl
row_any covering test (row ∷ rows) = ap (λ (t : Bool). (covering row.0 && test row.1) || t) (row_any covering test rows)

any_moved : {R V : Type 0} (covering : R → Bool) (test : V → Bool) (xs ys : List (R × V)) → IsPermutation xs ys → any_row covering test xs ≡ any_row covering test ys
any_moved {R} {V} covering test xs ys moved = row_any covering test xs ∙ (list_any-IsPermutation (λ (row : R × V). covering row.0 && test row.1) xs ys moved ∙ sym (row_any covering test ys))

-- joined one after another
pub sets_joined : (p : Part) (xs ys : List Touch) → row_set p (map use_of (xs ++ ys)) ≡ both_options (row_set p (map use_of xs)) (row_set p (map use_of ys))
sets_joined p xs ys = ap (row_set p) (map-append use_of xs ys) ∙ joined_set p (map use_of xs) (map use_of ys)

both_alike : (xs ys us vs : List Touch) → AreAlike xs us → AreAlike ys vs → AreAlike (xs ++ ys) (us ++ vs)
both_alike xs ys us vs a b = record {
  sets = λ p. sets_joined p xs ys ∙ (ap₂ both_options (a.sets p) (b.sets p) ∙ sym (sets_joined p us vs));
  kinds = λ c kind. accessed_joined c kind xs ys ∙ (ap₂ ◌||◌ (a.kinds c kind) (b.kinds c kind) ∙ sym (accessed_joined c kind us vs));
}

so_alike : (used : BundleUse) (touches : List Touch) → EachRow IsBundled touches → AreAlike (map bundle_touch (touched_so used touches)) (filter (is_used_so used) touches)
unfolding deed_of
so_alike used touches each =
    let these : List Touch = filter (is_used_so used) touches in
    let all : AllOf used these = filtered used touches each in
    subst (λ (known : List Touch). AreAlike known these) (sym (map-append bundle_touch (map (part_touched used) (sets (map use_of these))) (map (cells_touched used) (shown (map access_of these)))))
    (record { sets = so_sets used these all; kinds = so_kinds used these all })

mapped_joined : (xs ys : List BundleTouch) (us vs : List Touch) → AreAlike (map bundle_touch xs) us → AreAlike (map bundle_touch ys) vs → AreAlike (map bundle_touch (xs ++ ys)) (us ++ vs)
mapped_joined xs ys us vs a b = subst (λ (known : List Touch). AreAlike known (us ++ vs)) (sym (map-append bundle_touch xs ys)) (both_alike (map bundle_touch xs) (map bundle_touch ys) us vs a b)

known_parted : (touches : List Touch) → EachRow IsBundled touches → AreAlike (map bundle_touch (bundle_touches touches)) (parted touches)
unfolding bundle_touches
known_parted touches each =
    mapped_joined (touched_so Input touches) _ _ _ (so_alike Input touches each)
    (mapped_joined (touched_so Constant touches) _ _ _ (so_alike Constant touches each)
    (mapped_joined (touched_so StorageRead touches) (touched_so Storage touches) _ _ (so_alike StorageRead touches each) (so_alike Storage touches each)))

pub touches_are_known : TouchesAreKnown
touches_are_known touches each =
    let moved : IsPermutation (parted touches) touches = by_way touches each in
    let known : AreAlike (map bundle_touch (bundle_touches touches)) (parted touches) = known_parted touches each in
    record {
      sets = λ p. known.sets p ∙ set_permuted (map use_of (parted touches)) (map use_of touches) (IsPermutation-map use_of (parted touches) touches moved) p;
      kinds = λ c kind. known.kinds c kind ∙ any_moved (λ run. covers run c) (same_kind kind) (map access_of (parted touches)) (map access_of touches) (IsPermutation-map access_of (parted touches) touches moved);
    }
