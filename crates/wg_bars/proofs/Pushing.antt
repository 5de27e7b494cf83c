-- Changes that are pushed one after another.
use Rattle.std.proofs.Common.{◌≡◌, ◌<◌, ◌+◌, ℕ, List, [], ◌∷◌, ◌++◌, length, drop, get_or, Bool, true, false, ◌&&◌, Option, Some, None, refl, ap, sym, ◌∙◌, arith, if◌then◌else◌, append_assoc}
use Rattle.std.proofs.lemmas.List.{at_drop_more}
use Rattle.std.specs.Prelude.{min, max, nat_lt}
use Rattle.wg_rows.specs.Rows.{list_eq}
use Rattle.wg_rows.specs.Runs.{PartRun, part_sort}
use Rattle.wg_rows.specs.Uses.{Usages, Change, same_change}
use Rattle.wg_rows.specs.Clip.{inner_run, some_row}
use Rattle.wg_rows.specs.Cut.{inside, inside_row, choose, choose_one, put_all}
use Rattle.wg_rows.specs.Sets.{UseRow}
use Rattle.wg_bars.specs.Changes.{ChangeRow, change_from}

choose_append : (f : Usages → Option Change) (xs ys : List UseRow) → choose f (xs ++ ys) ≡ choose f xs ++ choose f ys
choose_append f [] ys = refl
choose_append f (x ∷ xs) ys = ap (λ zs. choose_one x.0 (f x.1) ++ zs) (choose_append f xs ys) ∙ sym (append_assoc (choose_one x.0 (f x.1)) (choose f xs) (choose f ys))

some_inside : (r : PartRun) (x : UseRow) → some_row (inner_run part_sort x.0 r) x.1 ≡ inside_row part_sort r x
some_inside r x = by_test (list_eq (part_sort.line r) (part_sort.line x.0) && nat_lt (max (part_sort.lo x.0) (part_sort.lo r)) (min (part_sort.hi x.0) (part_sort.hi r)))
  where
    both : PartRun
    both = part_sort.widen x.0 (max (part_sort.lo x.0) (part_sort.lo r)) (min (part_sort.hi x.0) (part_sort.hi r))

    by_test : (b : Bool) → some_row (if b then Some both else None) x.1 ≡ (if b then (both, x.1) ∷ [] else [])
    by_test true = refl
    by_test false = refl

-- the changes from the first of some rows, and then from the others
kept_step : (to : Usages) (r : PartRun) (x : UseRow) (xs : List UseRow)
    → choose (change_from to) (inside part_sort r (x ∷ xs)) ≡ choose (change_from to) (some_row (inner_run part_sort x.0 r) x.1) ++ choose (change_from to) (inside part_sort r xs)
kept_step to r x xs = ap (λ ys. choose (change_from to) (ys ++ inside part_sort r xs)) (sym (some_inside r x)) ∙ choose_append (change_from to) (some_row (inner_run part_sort x.0 r) x.1) (inside part_sort r xs)

-- one more row, whose changes were pushed behind those of the rows before it
pub kept_more : (to : Usages) (r : PartRun) (rows : List UseRow) (i : ℕ) (d : UseRow) (run : Option PartRun) (found pushed all : List ChangeRow) → i < length rows
    → run ≡ inner_run part_sort (get_or rows i d).0 r → pushed ≡ found ++ choose (change_from to) (some_row run (get_or rows i d).1)
    → found ++ choose (change_from to) (inside part_sort r (drop i rows)) ≡ all
    → pushed ++ choose (change_from to) (inside part_sort r (drop (i + 1) rows)) ≡ all
kept_more to r rows i d run found pushed all within inner is before =
    let row : UseRow = get_or rows i d in
    let rest : List UseRow = drop (i + 1) rows in
    let piece : List ChangeRow = choose (change_from to) (some_row (inner_run part_sort row.0 r) row.1) in
    let later : List ChangeRow = choose (change_from to) (inside part_sort r rest) in
    let here = at_drop_more (λ (xs : List UseRow). choose (change_from to) (inside part_sort r xs)) rows i d within ∙ kept_step to r row rest in
    let whole : pushed ≡ found ++ piece = is ∙ ap (λ (o : Option PartRun). found ++ choose (change_from to) (some_row o row.1)) inner in
    ap (λ (xs : List ChangeRow). xs ++ later) whole ∙ append_assoc found piece later ∙ ap (λ (ys : List ChangeRow). found ++ ys) (sym here) ∙ before

-- a row alone is in printed form
pub put_few : (rows : List ChangeRow) → length rows < 2 → put_all part_sort same_change rows [] ≡ rows
put_few [] few = refl
put_few (x ∷ []) few = refl
put_few (x ∷ y ∷ rows) few = absurd (omega arith)
