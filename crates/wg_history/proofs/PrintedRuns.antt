-- What holds of a run whatever its ends are, if it holds of each of some rows, holds of these as they are printed.
use Rattle.std.proofs.Common.{◌≡◌, ℕ, Bool, true, false, ◌&&◌, List, [], ◌∷◌, ◌++◌, min, max, Option, Some, None, nat_lt, refl, sym, subst, if◌then◌else◌}
use Rattle.wg_rows.specs.Rows.{list_eq, Sort, run_before, joined, put_at, put, printed, EachRow}
use Rattle.wg_rows.specs.Cut.{left_of, right_of, cut_row, cut, inside_row, inside, gaps, choose_one, choose, put_all}
use Rattle.wg_rows.specs.Runs.{PartRun, part_sort, is_full}
use Rattle.wg_rows.specs.Uses.{same_set}
use Rattle.wg_rows.specs.Sets.{UseRow, both_sets, union_row, sets}
use Rattle.wg_rows.proofs.Put.{joined_some}
use Rattle.wg_rows.proofs.Cut.{each_append, each_cut}

abbrev pub EachRun : {R V : Type 0} → (R → Type 0) → List (R × V) → Type 0
EachRun {R} {V} P rows = EachRow (λ (row : R × V). P row.0) rows

abbrev pub Widened : {R : Type 0} → Sort R → (R → Type 0) → Type 0
Widened {R} sort P = (run : R) (from to : ℕ) → P run → P (sort.widen run from to)

-- rows that are put

put_each : {R V : Type 0} (sort : Sort R) (same : V → V → Bool) (P : R → Type 0) → Widened sort P → (r : R × V) (rows : List (R × V)) → P r.0 → EachRun P rows → EachRun P (put sort same r rows)
put_each sort same P widened r [] its each = (its, tt)
put_each {R} {V} sort same P widened r (x ∷ xs) its each = by_joined (joined sort same x r) refl (run_before sort r.0 x.0) (λ row p. put_each sort same P widened row xs p each.1)
  where
    by_joined : (o : Option (R × V)) → joined sort same x r ≡ o → (b : Bool) → ((row : R × V) → P row.0 → EachRun P (put sort same row xs)) → EachRun P (put_at (λ row. put sort same row xs) r x xs b o)
    by_joined (Some both) e b later = later both (subst P (sym (joined_some sort same x r both e).2) (widened x.0 (min (sort.lo x.0) (sort.lo r.0)) (max (sort.hi x.0) (sort.hi r.0)) each.0))
    by_joined None e true later = (its, each)
    by_joined None e false later = (each.0, later r its)

pub printed_each : {R V : Type 0} (sort : Sort R) (same : V → V → Bool) (P : R → Type 0) → Widened sort P → (rows : List (R × V)) → EachRun P rows → EachRun P (printed sort same rows)
printed_each sort same P widened [] each = tt
printed_each sort same P widened (r ∷ rows) each = put_each sort same P widened r (printed sort same rows) each.0 (printed_each sort same P widened rows each.1)

put_all_each : {R V : Type 0} (sort : Sort R) (same : V → V → Bool) (P : R → Type 0) → Widened sort P → (ps rows : List (R × V)) → EachRun P ps → EachRun P rows → EachRun P (put_all sort same ps rows)
put_all_each sort same P widened [] rows new each = each
put_all_each sort same P widened (p ∷ ps) rows new each = put_all_each sort same P widened ps (put sort same p rows) new.1 (put_each sort same P widened p rows new.0 each)

-- pieces of rows

left_each : {R V : Type 0} (sort : Sort R) (P : R → Type 0) → Widened sort P → (r : R) (x : R × V) → P x.0 → EachRun P (left_of sort r x)
left_each {R} {V} sort P widened r x its = by_test (nat_lt (sort.lo x.0) (sort.lo r))
  where
    by_test : (b : Bool) → EachRun P (if b then (sort.widen x.0 (sort.lo x.0) (min (sort.hi x.0) (sort.lo r)), x.1) ∷ [] else [])
    by_test true = (widened x.0 (sort.lo x.0) (min (sort.hi x.0) (sort.lo r)) its, tt)
    by_test false = tt

right_each : {R V : Type 0} (sort : Sort R) (P : R → Type 0) → Widened sort P → (r : R) (x : R × V) → P x.0 → EachRun P (right_of sort r x)
right_each {R} {V} sort P widened r x its = by_test (nat_lt (sort.hi r) (sort.hi x.0))
  where
    by_test : (b : Bool) → EachRun P (if b then (sort.widen x.0 (max (sort.lo x.0) (sort.hi r)) (sort.hi x.0), x.1) ∷ [] else [])
    by_test true = (widened x.0 (max (sort.lo x.0) (sort.hi r)) (sort.hi x.0) its, tt)
    by_test false = tt

row_each : {R V : Type 0} (sort : Sort R) (P : R → Type 0) → Widened sort P → (r : R) (x : R × V) → P x.0 → EachRun P (cut_row sort r x)
row_each {R} {V} sort P widened r x its = by_line (list_eq (sort.line r) (sort.line x.0))
  where
    by_line : (b : Bool) → EachRun P (if b then left_of sort r x ++ right_of sort r x else x ∷ [])
    by_line true = each_append (λ (row : R × V). P row.0) (left_of sort r x) (right_of sort r x) (left_each sort P widened r x its) (right_each sort P widened r x its)
    by_line false = (its, tt)

cut_each : {R V : Type 0} (sort : Sort R) (P : R → Type 0) → Widened sort P → (r : R) (rows : List (R × V)) → EachRun P rows → EachRun P (cut sort r rows)
cut_each {R} {V} sort P widened r rows each = each_cut sort r (λ (row : R × V). P row.0) (λ (row : R × V). P row.0) (λ x its. row_each sort P widened r x its) rows each

inside_each : {R V : Type 0} (sort : Sort R) (P : R → Type 0) → Widened sort P → (r : R) (rows : List (R × V)) → EachRun P rows → EachRun P (inside sort r rows)
inside_each sort P widened r [] each = tt
inside_each {R} {V} sort P widened r (x ∷ xs) each =
    each_append (λ (row : R × V). P row.0) (inside_row sort r x) (inside sort r xs)
    (by_test (list_eq (sort.line r) (sort.line x.0) && nat_lt (max (sort.lo x.0) (sort.lo r)) (min (sort.hi x.0) (sort.hi r))))
    (inside_each sort P widened r xs each.1)
  where
    by_test : (b : Bool) → EachRun P (if b then (sort.widen x.0 (max (sort.lo x.0) (sort.lo r)) (min (sort.hi x.0) (sort.hi r)), x.1) ∷ [] else [])
    by_test true = (widened x.0 (max (sort.lo x.0) (sort.lo r)) (min (sort.hi x.0) (sort.hi r)) each.0, tt)
    by_test false = tt

gaps_each : {R V W : Type 0} (sort : Sort R) (P : R → Type 0) → Widened sort P → (left : List (R × W)) (rows : List (R × V)) → EachRun P left → EachRun P (gaps sort left rows)
gaps_each sort P widened left [] each = each
gaps_each sort P widened left (x ∷ xs) each = gaps_each sort P widened (cut sort x.0 left) xs (cut_each sort P widened x.0 left each)

choose_each : {R V W : Type 0} (P : R → Type 0) (f : V → Option W) (rows : List (R × V)) → EachRun P rows → EachRun P (choose f rows)
choose_each P f [] each = tt
choose_each {R} {V} {W} P f (x ∷ xs) each = each_append (λ (row : R × W). P row.0) (choose_one x.0 (f x.1)) (choose f xs) (by_value (f x.1)) (choose_each P f xs each.1)
  where
    by_value : (o : Option W) → EachRun P (choose_one x.0 o)
    by_value None = tt
    by_value (Some w) = (each.0, tt)

-- and the sets of uses

union_each : (P : PartRun → Type 0) → Widened part_sort P → (r : UseRow) (rows : List UseRow) → P r.0 → EachRun P rows → EachRun P (union_row r rows)
union_each P widened r rows its each =
    let old : List UseRow = choose (λ old. Some (both_sets r.1 old)) (inside part_sort r.0 rows) in
    put_all_each part_sort same_set P widened (gaps part_sort (r ∷ []) rows) (put_all part_sort same_set old (cut part_sort r.0 rows))
    (gaps_each part_sort P widened (r ∷ []) rows (its, tt))
    (put_all_each part_sort same_set P widened old (cut part_sort r.0 rows)
    (choose_each P (λ old. Some (both_sets r.1 old)) (inside part_sort r.0 rows) (inside_each part_sort P widened r.0 rows each))
    (cut_each part_sort P widened r.0 rows each))

pub sets_each : (P : PartRun → Type 0) → Widened part_sort P → (rows : List UseRow) → EachRun P rows → EachRun P (sets rows)
sets_each P widened [] each = tt
sets_each P widened (r ∷ rows) each = by_full (is_full r.0) (sets_each P widened rows each.1)
  where
    by_full : (b : Bool) → EachRun P (sets rows) → EachRun P (if b then union_row r (sets rows) else sets rows)
    by_full true rest = union_each P widened r (sets rows) each.0 rest
    by_full false rest = rest
