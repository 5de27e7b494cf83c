-- The sets of a step, and the changes of its parts.
use Rattle.std.proofs.Common.{◌≡◌, ℕ, ◌<◌, List, [], ◌∷◌, ◌++◌, Bool, true, false, ◌&&◌, Option, Some, None, refl, ap, ap₂, sym, ◌∙◌, arith, bit_or, if◌then◌else◌, nat_lt, nat_le, ◌≤◌}
use Rattle.std.specs.Option.{option_or, option_and_then, option_map_or}
use Rattle.std.proofs.lemmas.Bool.{and_parts, leb-true, ltb-true}
use Rattle.std.proofs.lemmas.Bool.Decides.{nat_tests}
use Rattle.std.proofs.lemmas.Nat.Bits.{same_from_bits, bit_at_or}
use Rattle.wg_rows.specs.Runs.{aspect_number, Buffer, Subresource, QuerySet, BufferPart, LayerParts, QueryPart, PartRun, Part, part_sort, part_spot, part_lo, part_hi, part_line, covers_part, is_full}
use Rattle.wg_rows.specs.Uses.{same_set, Usages, row_set, with_usage}
use Rattle.wg_rows.specs.Rows.{in_range, list_eq, Sort, Spot, covers_spot, Apart, After, EachRow}
use Rattle.wg_rows.specs.Cut.{value_at, cut, inside, gaps, choose, put_all}
use Rattle.wg_rows.specs.Sets.{both_sets, UseRow, union_row, with_use, with_uses, sets, SetsAre as SetsOf, SetsTell, SetsJoin}
use Rattle.wg_rows.proofs.Told.{uses_tell}
use Rattle.wg_rows.proofs.Cut.{Clips, cut_apart}
use Rattle.wg_rows.proofs.Values.{has_at, cut_value, inside_value, Loose, apart_loose, inside_loose, choose_value, choose_loose, AreFree, all_put, gaps_are}
use Rattle.wg_rows.proofs.Put.{list_eq_true}
use Rattle.wg_rows.proofs.Printed.{no_overlap, rows_unique}

pub part_clips : Clips part_sort
part_clips (BufferPart a) lo hi l m h = (refl, omega arith, omega arith)
part_clips (LayerParts a b c x y) lo hi l m h = (refl, refl, refl)
part_clips (QueryPart a) lo hi l m h = (refl, omega arith, omega arith)

pub covered : {R : Type 0} (sort : Sort R) (run : R) (spot : Spot) → covers_spot sort run spot ≡ true → (sort.line run ≡ spot.0) × (sort.lo run ≤ spot.1) × (spot.1 < sort.hi run)
covered sort run spot e =
    let tests : (list_eq (sort.line run) spot.0 ≡ true) × (in_range (sort.lo run) (sort.hi run) spot.1 ≡ true) = and_parts (list_eq (sort.line run) spot.0) (in_range (sort.lo run) (sort.hi run) spot.1) e in
    let ends : (nat_le (sort.lo run) spot.1 ≡ true) × (nat_lt spot.1 (sort.hi run) ≡ true) = and_parts (nat_le (sort.lo run) spot.1) (nat_lt spot.1 (sort.hi run)) tests.1 in
    (list_eq_true (sort.line run) spot.0 tests.0, leb-true (sort.lo run) spot.1 ends.0, ltb-true spot.1 (sort.hi run) ends.1)

pub empty_covers : (lo hi n : ℕ) → nat_lt lo hi ≡ false → in_range lo hi n ≡ false
empty_covers lo hi n e = grind (arith, nat_tests)

pub alone : {V : Type 0} (r : PartRun × V) → is_full r.0 ≡ true → Apart part_sort (r ∷ [])
alone r e = let full : part_lo r.0 < part_hi r.0 = ltb-true (part_lo r.0) (part_hi r.0) e in (full, tt, tt)

-- Rows with one more use have its usages in its parts.
abbrev Union : UseRow → List UseRow → Type 0
Union r rows = Apart part_sort (union_row r rows) × ((spot : Spot) → value_at part_sort spot (union_row r rows) ≡ (if covers_spot part_sort r.0 spot then Some (with_usage r.1 (value_at part_sort spot rows)) else value_at part_sort spot rows))

union_is : (r : UseRow) (rows : List UseRow) → is_full r.0 ≡ true → Apart part_sort rows → Union r rows
union_is r rows full a = (result.0, value)
  where
    f : Usages → Option Usages
    f old = Some (both_sets r.1 old)

    base : List UseRow
    base = cut part_sort r.0 rows

    joined_rows : List UseRow
    joined_rows = choose (λ old. Some (both_sets r.1 old)) (inside part_sort r.0 rows)

    inner_loose : Loose part_sort (inside part_sort r.0 rows)
    inner_loose = inside_loose part_sort part_clips r.0 rows (apart_loose part_sort rows a)

    base_value : (spot : Spot) → value_at part_sort spot (cut part_sort r.0 rows) ≡ (if covers_spot part_sort r.0 spot then None else value_at part_sort spot rows)
    base_value spot = cut_value part_sort part_clips r.0 rows spot a

    joined_value : (spot : Spot) → value_at part_sort spot (choose (λ old. Some (both_sets r.1 old)) (inside part_sort r.0 rows)) ≡ option_and_then (λ old. Some (both_sets r.1 old)) (if covers_spot part_sort r.0 spot then value_at part_sort spot rows else None)
    joined_value spot = choose_value part_sort (λ old. Some (both_sets r.1 old)) (inside part_sort r.0 rows) spot inner_loose ∙ ap (option_and_then (λ old. Some (both_sets r.1 old))) (inside_value part_sort part_clips r.0 rows spot)

    joined_free : AreFree part_sort (choose (λ old. Some (both_sets r.1 old)) (inside part_sort r.0 rows)) (cut part_sort r.0 rows)
    joined_free spot w e = base_value spot ∙ by_cover (covers_spot part_sort r.0 spot) (sym (joined_value spot) ∙ e)
      where
        by_cover : (b : Bool) → option_and_then (λ old. Some (both_sets r.1 old)) (if b then value_at part_sort spot rows else None) ≡ Some w → (if b then None else value_at part_sort spot rows) ≡ None
        by_cover true h = refl
        by_cover false h = absurd (cc)

    first : Apart part_sort (put_all part_sort same_set (choose (λ old. Some (both_sets r.1 old)) (inside part_sort r.0 rows)) (cut part_sort r.0 rows)) × ((spot : Spot) → value_at part_sort spot (put_all part_sort same_set (choose (λ old. Some (both_sets r.1 old)) (inside part_sort r.0 rows)) (cut part_sort r.0 rows)) ≡ option_or (value_at part_sort spot (choose (λ old. Some (both_sets r.1 old)) (inside part_sort r.0 rows))) (value_at part_sort spot (cut part_sort r.0 rows)))
    first = all_put part_sort same_set uses_tell (choose (λ old. Some (both_sets r.1 old)) (inside part_sort r.0 rows)) (cut part_sort r.0 rows) (choose_loose part_sort (λ old. Some (both_sets r.1 old)) (inside part_sort r.0 rows) inner_loose) (cut_apart part_sort part_clips r.0 rows (alone r full).0 a) joined_free

    left : Apart part_sort (gaps part_sort (r ∷ []) rows) × ((spot : Spot) → value_at part_sort spot (gaps part_sort (r ∷ []) rows) ≡ option_map_or (λ (v : Usages). None) (value_at part_sort spot rows) (value_at part_sort spot (r ∷ [])))
    left = gaps_are part_sort part_clips (r ∷ []) rows (alone r full) (apart_loose part_sort rows a)

    by_all : (b : Bool) (o : Option Usages) → option_or (option_map_or (λ (v : Usages). None) o (if b then Some r.1 else None)) (option_or (option_and_then (λ old. Some (both_sets r.1 old)) (if b then o else None)) (if b then None else o)) ≡ (if b then Some (with_usage r.1 o) else o)
    by_all true None = refl
    by_all true (Some v) = refl
    by_all false None = refl
    by_all false (Some v) = refl

    first_value : (spot : Spot) → value_at part_sort spot (put_all part_sort same_set (choose (λ old. Some (both_sets r.1 old)) (inside part_sort r.0 rows)) (cut part_sort r.0 rows)) ≡ option_or (option_and_then (λ old. Some (both_sets r.1 old)) (if covers_spot part_sort r.0 spot then value_at part_sort spot rows else None)) (if covers_spot part_sort r.0 spot then None else value_at part_sort spot rows)
    first_value spot = first.1 spot ∙ ap₂ option_or (joined_value spot) (base_value spot)

    left_free : AreFree part_sort (gaps part_sort (r ∷ []) rows) (put_all part_sort same_set (choose (λ old. Some (both_sets r.1 old)) (inside part_sort r.0 rows)) (cut part_sort r.0 rows))
    left_free spot w e = first_value spot ∙ by_all_free (covers_spot part_sort r.0 spot) (value_at part_sort spot rows) (sym (left.1 spot) ∙ e)
      where
        by_all_free : (b : Bool) (o : Option Usages) → option_map_or (λ (v : Usages). None) o (if b then Some r.1 else None) ≡ Some w → option_or (option_and_then (λ old. Some (both_sets r.1 old)) (if b then o else None)) (if b then None else o) ≡ None
        by_all_free true None h = refl
        by_all_free b (Some v) h = absurd (cc)
        by_all_free false None h = absurd (cc)

    result : Apart part_sort (union_row r rows) × ((spot : Spot) → value_at part_sort spot (union_row r rows) ≡ option_or (value_at part_sort spot (gaps part_sort (r ∷ []) rows)) (value_at part_sort spot (put_all part_sort same_set (choose (λ old. Some (both_sets r.1 old)) (inside part_sort r.0 rows)) (cut part_sort r.0 rows))))
    result = all_put part_sort same_set uses_tell (gaps part_sort (r ∷ []) rows) (put_all part_sort same_set (choose (λ old. Some (both_sets r.1 old)) (inside part_sort r.0 rows)) (cut part_sort r.0 rows)) (apart_loose part_sort (gaps part_sort (r ∷ []) rows) left.0) first.0 left_free

    value : (spot : Spot) → value_at part_sort spot (union_row r rows) ≡ (if covers_spot part_sort r.0 spot then Some (with_usage r.1 (value_at part_sort spot rows)) else value_at part_sort spot rows)
    value spot = result.1 spot ∙ (ap₂ option_or (left.1 spot) (first_value spot) ∙ by_all (covers_spot part_sort r.0 spot) (value_at part_sort spot rows))

pub with_use_apart : (r : UseRow) (rows : List UseRow) → Apart part_sort rows → Apart part_sort (with_use r rows)
with_use_apart r rows a = by_full (is_full r.0) refl
  where
    by_full : (b : Bool) → is_full r.0 ≡ b → Apart part_sort (if b then union_row r rows else rows)
    by_full true e = (union_is r rows e a).0
    by_full false e = a

pub with_uses_apart : (more rows : List UseRow) → Apart part_sort rows → Apart part_sort (with_uses more rows)
with_uses_apart [] rows a = a
with_uses_apart (r ∷ more) rows a = with_use_apart r (with_uses more rows) (with_uses_apart more rows a)

-- The sets of a step are in printed form, and are the sets of its parts.
abbrev pub SetsAre : List UseRow → Type 0
SetsAre rows = Apart part_sort (sets rows) × ((p : Part) → value_at part_sort (part_spot p) (sets rows) ≡ row_set p rows)

pub sets_are : (rows : List UseRow) → SetsAre rows
unfolding covers_part
sets_are [] = (tt, λ p. refl)
sets_are (r ∷ rows) = by_full (is_full r.0) refl (sets_are rows)
  where
    by_full : (b : Bool) → is_full r.0 ≡ b → SetsAre rows → Apart part_sort (if b then union_row r (sets rows) else sets rows) × ((p : Part) → value_at part_sort (part_spot p) (if b then union_row r (sets rows) else sets rows) ≡ (if covers_spot part_sort r.0 (part_spot p) then Some (with_usage r.1 (row_set p rows)) else row_set p rows))
    by_full true e h = ((union_is r (sets rows) e h.0).0, λ p. (union_is r (sets rows) e h.0).1 (part_spot p) ∙ ap (λ (o : Option Usages). if covers_spot part_sort r.0 (part_spot p) then Some (with_usage r.1 o) else o) (h.1 p))
    by_full false e h = (h.0, λ p. h.1 p ∙ sym (ap (λ b. if b then Some (with_usage r.1 (row_set p rows)) else row_set p rows) (none p)))
      where
        none : (p : Part) → covers_spot part_sort r.0 (part_spot p) ≡ false
        none p = ap (λ t. list_eq (part_line r.0) (part_spot p).0 && t) (empty_covers (part_lo r.0) (part_hi r.0) (part_spot p).1 e) ∙ and_false (list_eq (part_line r.0) (part_spot p).0)
          where
            and_false : (k : Bool) → (k && false) ≡ false
            and_false true = refl
            and_false false = refl

-- The set of a part in rows of printed form is the value of the one row that covers it.
none_behind : (p : Part) (r : UseRow) (rows : List UseRow) → covers_part r.0 p ≡ true → EachRow (After part_sort r) rows → row_set p rows ≡ None
unfolding covers_part
none_behind p r [] e after = refl
none_behind p r (x ∷ rows) e after = by_cover (covers_spot part_sort x.0 (part_spot p)) refl (none_behind p r rows e after.1)
  where
    by_cover : (b : Bool) → covers_spot part_sort x.0 (part_spot p) ≡ b → row_set p rows ≡ None → (if b then Some (with_usage x.1 (row_set p rows)) else row_set p rows) ≡ None
    by_cover true k rest = absurd (no_overlap part_sort r x (part_spot p) after.0 e k)
    by_cover false k rest = rest

pub apart_set : (p : Part) (rows : List UseRow) → Apart part_sort rows → row_set p rows ≡ value_at part_sort (part_spot p) rows
unfolding covers_part
apart_set p [] a = refl
apart_set p (r ∷ rows) a = by_cover (covers_spot part_sort r.0 (part_spot p)) refl (apart_set p rows a.2)
  where
    by_cover : (b : Bool) → covers_spot part_sort r.0 (part_spot p) ≡ b → row_set p rows ≡ value_at part_sort (part_spot p) rows → (if b then Some (with_usage r.1 (row_set p rows)) else row_set p rows) ≡ (if b then Some r.1 else value_at part_sort (part_spot p) rows)
    by_cover true k rest = ap (λ o. Some (with_usage r.1 o)) (none_behind p r rows k a.1)
    by_cover false k rest = rest

pub sets_row : (p : Part) (rows : List UseRow) → row_set p (sets rows) ≡ row_set p rows
sets_row p rows = apart_set p (sets rows) (sets_are rows).0 ∙ (sets_are rows).1 p

pub sets_apart : (rows : List UseRow) → Apart part_sort (sets rows)
sets_apart rows = (sets_are rows).0

pub sets_of : SetsOf
sets_of rows = (sets_apart rows, λ p. sets_row p rows)

-- What a run covers is the spot of a part.
pub part_at : (run : PartRun) (spot : Spot) → covers_spot part_sort run spot ≡ true → (p : Part) × (part_spot p ≡ spot)
part_at (BufferPart a) spot e =
    let found : (a ∷ (0 ∷ []) ≡ spot.0) × (0 ≤ spot.1) × (spot.1 < 1) = covered part_sort (BufferPart a) spot e in
    let at_place : 0 ≡ spot.1 = omega (arith, found.2) in
    (Buffer a, ap₂ (λ (line : List ℕ) (at : ℕ). (line, at)) found.0 at_place)
part_at (LayerParts a b c x y) spot e =
    let found : (a ∷ (2 ∷ (aspect_number b ∷ (c ∷ []))) ≡ spot.0) × (x ≤ spot.1) × (spot.1 < y) = covered part_sort (LayerParts a b c x y) spot e in
    (Subresource a b c spot.1, ap (λ (line : List ℕ). (line, spot.1)) found.0)
part_at (QueryPart a) spot e =
    let found : (a ∷ (1 ∷ []) ≡ spot.0) × (0 ≤ spot.1) × (spot.1 < 1) = covered part_sort (QueryPart a) spot e in
    let at_place : 0 ≡ spot.1 = omega (arith, found.2) in
    (QuerySet a, ap₂ (λ (line : List ℕ) (at : ℕ). (line, at)) found.0 at_place)

pub some_part : {V : Type 0} (spot : Spot) (rows : List (PartRun × V)) (v : V) → value_at part_sort spot rows ≡ Some v → (p : Part) × (part_spot p ≡ spot)
some_part spot [] v e = absurd (cc)
some_part {V} spot (x ∷ xs) v e = by_cover (covers_spot part_sort x.0 spot) refl e (some_part spot xs v)
  where
    by_cover : (b : Bool) → covers_spot part_sort x.0 spot ≡ b → (if b then Some x.1 else value_at part_sort spot xs) ≡ Some v → (value_at part_sort spot xs ≡ Some v → (p : Part) × (part_spot p ≡ spot)) → (p : Part) × (part_spot p ≡ spot)
    by_cover true k e rest = part_at x.0 spot k
    by_cover false k e rest = rest e

-- Rows that have the same values at parts have them everywhere.
pub same_at_parts : {V : Type 0} (xs ys : List (PartRun × V)) → ((p : Part) → value_at part_sort (part_spot p) xs ≡ value_at part_sort (part_spot p) ys) → (spot : Spot) → value_at part_sort spot xs ≡ value_at part_sort spot ys
same_at_parts {V} xs ys h spot = by_values (value_at part_sort spot xs) (value_at part_sort spot ys) refl refl
  where
    at_part : (p : Part) × (part_spot p ≡ spot) → value_at part_sort spot xs ≡ value_at part_sort spot ys
    at_part found = ap (λ s. value_at part_sort s xs) (sym found.1) ∙ (h found.0 ∙ ap (λ s. value_at part_sort s ys) found.1)

    by_values : (o p : Option V) → value_at part_sort spot xs ≡ o → value_at part_sort spot ys ≡ p → value_at part_sort spot xs ≡ value_at part_sort spot ys
    by_values None None e f = e ∙ sym f
    by_values (Some v) p e f = at_part (some_part spot xs v e)
    by_values None (Some w) e f = at_part (some_part spot ys w f)

-- Sets are told by the sets of the parts.
pub sets_tell : SetsTell
sets_tell xs ys h = rows_unique part_sort same_set uses_tell (sets xs) (sets ys) (sets_apart xs) (sets_apart ys) (λ spot v. has_at part_sort same_set spot v (sets xs) (apart_loose part_sort (sets xs) (sets_apart xs)) ∙ (ap (λ o. option_map_or (same_set v) o false) (at_spot spot) ∙ sym (has_at part_sort same_set spot v (sets ys) (apart_loose part_sort (sets ys) (sets_apart ys)))))
  where
    at_spot : (spot : Spot) → value_at part_sort spot (sets xs) ≡ value_at part_sort spot (sets ys)
    at_spot spot = same_at_parts (sets xs) (sets ys) (λ p. (sets_are xs).1 p ∙ (h p ∙ sym ((sets_are ys).1 p))) spot

pub or_assoc : (x a b : ℕ) → bit_or (bit_or x a) b ≡ bit_or x (bit_or a b)
or_assoc x a b = same_from_bits (bit_or (bit_or x a) b) (bit_or x (bit_or a b)) (λ i. omega (arith, bit_at_or (bit_or x a) b i, bit_at_or x a i, bit_at_or x (bit_or a b) i, bit_at_or a b i))

-- Uses that are added to the sets of others make the sets of both.
over_sets : (xs ys : List UseRow) → with_uses xs (sets ys) ≡ sets (xs ++ ys)
over_sets [] ys = refl
over_sets (x ∷ xs) ys = ap (with_use x) (over_sets xs ys)

pub over_none : (xs : List UseRow) → with_uses xs [] ≡ sets xs
over_none [] = refl
over_none (x ∷ xs) = ap (with_use x) (over_none xs)

-- the set of a part in two lists
abbrev pub both_options : Option Usages → Option Usages → Option Usages
both_options None o = o
both_options (Some a) o = Some (with_usage a o)

union_assoc : (x : Usages) (a b : Option Usages) → with_usage x (both_options a b) ≡ with_usage (with_usage x a) b
union_assoc x None b = refl
union_assoc x (Some a) None = refl
union_assoc x (Some a) (Some b) = ap (λ n. record { 0 = n }) (sym (or_assoc x.0 a.0 b.0))

pub joined_set : (p : Part) (xs ys : List UseRow) → row_set p (xs ++ ys) ≡ both_options (row_set p xs) (row_set p ys)
joined_set p [] ys = refl
joined_set p (x ∷ xs) ys = by_cover (covers_part x.0 p) (joined_set p xs ys)
  where
    by_cover : (b : Bool) → row_set p (xs ++ ys) ≡ both_options (row_set p xs) (row_set p ys) → (if b then Some (with_usage x.1 (row_set p (xs ++ ys))) else row_set p (xs ++ ys)) ≡ both_options (if b then Some (with_usage x.1 (row_set p xs)) else row_set p xs) (row_set p ys)
    by_cover true h = ap Some (ap (with_usage x.1) h ∙ union_assoc x.1 (row_set p xs) (row_set p ys))
    by_cover false h = h

merged_sets : (xs ys : List UseRow) → with_uses (sets xs) (sets ys) ≡ sets (xs ++ ys)
merged_sets xs ys = over_sets (sets xs) ys ∙ sets_tell (sets xs ++ ys) (xs ++ ys) (λ p. joined_set p (sets xs) ys ∙ (ap (λ o. both_options o (row_set p ys)) (sets_row p xs) ∙ sym (joined_set p xs ys)))

pub sets_join : SetsJoin
sets_join = record { uses = over_sets; rows = merged_sets }
