-- Rows are in printed form where they are told to be, and uses in that form are their own sets.
use Rattle.std.proofs.Common.{◌≡◌, ◌≢◌, ◌<◌, ◌≤◌, List, [], ◌∷◌, Bool, true, false, ◌&&◌, ◌||◌, not, ◌⊎◌, inl, inr, Option, ap, sym, ◌∙◌, arith, nat_lt, nat_le, true≢false}
use Rattle.std.specs.Option.{option_map_or}
use Rattle.std.proofs.lemmas.Bool.{and_parts, and_from, or_cases, ltb-true, leb-true, le-leb, cases_eq}
use Rattle.wg_rows.specs.Rows.{Sort, list_eq, list_before, touch, meet, Spot, EachRow, After, Apart}
use Rattle.wg_rows.specs.Chained.{ends_before, is_clear}
use Rattle.wg_rows.specs.Cut.{value_at}
use Rattle.wg_rows.specs.Runs.{part_sort}
use Rattle.wg_rows.specs.Uses.{Usages, same_set}
use Rattle.wg_rows.specs.Sets.{UseRow, sets}
use Rattle.wg_rows.specs.Order.{are_full, is_first, are_apart}
use Rattle.wg_rows.proofs.Put.{list_eq_true}
use Rattle.wg_rows.proofs.Printed.{Tells, each_row_map, after_trans, rows_unique}
use Rattle.wg_rows.proofs.Told.{uses_tell}
use Rattle.wg_rows.proofs.Values.{has_at, apart_loose}
use Rattle.wg_rows.proofs.Sets.{sets_are, sets_apart, apart_set, same_at_parts}

module _ {R V : Type 0} (sort : Sort R) (same : V → V → Bool) (tells : Tells sort same) where
  after_told : (x y : R × V) → is_clear sort same x y ≡ true → After sort x y
  after_told x y e = by_line (or_cases (list_before (sort.line x.0) (sort.line y.0)) (list_eq (sort.line x.0) (sort.line y.0) && nat_le (sort.hi x.0) (sort.lo y.0)) ends.1)
    where
      tests : (ends_before sort x.0 y.0 ≡ true) × (not (same x.1 y.1 && meet sort x.0 y.0) ≡ true)
      tests = and_parts (ends_before sort x.0 y.0) (not (same x.1 y.1 && meet sort x.0 y.0)) e

      ends : ((nat_lt (sort.lo x.0) (sort.hi x.0) && nat_lt (sort.lo y.0) (sort.hi y.0)) ≡ true) × ((list_before (sort.line x.0) (sort.line y.0) || (list_eq (sort.line x.0) (sort.line y.0) && nat_le (sort.hi x.0) (sort.lo y.0))) ≡ true)
      ends = and_parts (nat_lt (sort.lo x.0) (sort.hi x.0) && nat_lt (sort.lo y.0) (sort.hi y.0)) (list_before (sort.line x.0) (sort.line y.0) || (list_eq (sort.line x.0) (sort.line y.0) && nat_le (sort.hi x.0) (sort.lo y.0))) tests.0

      full : (nat_lt (sort.lo x.0) (sort.hi x.0) ≡ true) × (nat_lt (sort.lo y.0) (sort.hi y.0) ≡ true)
      full = and_parts (nat_lt (sort.lo x.0) (sort.hi x.0)) (nat_lt (sort.lo y.0) (sort.hi y.0)) ends.0

      full_x : sort.lo x.0 < sort.hi x.0
      full_x = ltb-true (sort.lo x.0) (sort.hi x.0) full.0

      full_y : sort.lo y.0 < sort.hi y.0
      full_y = ltb-true (sort.lo y.0) (sort.hi y.0) full.1

      by_line : (list_before (sort.line x.0) (sort.line y.0) ≡ true) ⊎ ((list_eq (sort.line x.0) (sort.line y.0) && nat_le (sort.hi x.0) (sort.lo y.0)) ≡ true) → After sort x y
      by_line (inl before) = inl before
      by_line (inr k) = inr (line, by_gap (cases_eq (sort.hi x.0) (sort.lo y.0)))
        where
          parts : (list_eq (sort.line x.0) (sort.line y.0) ≡ true) × (nat_le (sort.hi x.0) (sort.lo y.0) ≡ true)
          parts = and_parts (list_eq (sort.line x.0) (sort.line y.0)) (nat_le (sort.hi x.0) (sort.lo y.0)) k

          line : sort.line x.0 ≡ sort.line y.0
          line = list_eq_true (sort.line x.0) (sort.line y.0) parts.0

          below : sort.hi x.0 ≤ sort.lo y.0
          below = leb-true (sort.hi x.0) (sort.lo y.0) parts.1

          by_gap : (sort.hi x.0 ≡ sort.lo y.0) ⊎ (sort.hi x.0 ≡ sort.lo y.0 → ⊥) → (sort.hi x.0 < sort.lo y.0) ⊎ ((sort.hi x.0 ≡ sort.lo y.0) × (x.1 ≡ y.1 → ⊥))
          by_gap (inr other) = let ne : sort.hi x.0 ≢ sort.lo y.0 = other in inl (omega (arith, below))
          by_gap (inl next) = inr (next, joins)
            where
              meets : meet sort x.0 y.0 ≡ true
              meets = and_from (list_eq (sort.line x.0) (sort.line y.0)) (touch (sort.lo x.0) (sort.hi x.0) (sort.lo y.0) (sort.hi y.0)) parts.0 (and_from (nat_le (sort.lo x.0) (sort.hi y.0)) (nat_le (sort.lo y.0) (sort.hi x.0)) (le-leb (sort.lo x.0) (sort.hi y.0) (omega (arith, full_x, full_y, next))) (le-leb (sort.lo y.0) (sort.hi x.0) (omega (arith, next))))

              joins : x.1 ≡ y.1 → ⊥
              joins equal = true≢false (sym tests.1 ∙ ap not (and_from (same x.1 y.1) (meet sort x.0 y.0) (ap (same x.1) (sym equal) ∙ tells.itself x.1) meets))

  first_after : (x : R × V) (xs : List (R × V)) → is_first sort same x xs ≡ true → Apart sort xs → EachRow (After sort x) xs
  first_after x [] e a = tt
  first_after x (y ∷ ys) e a = (after_told x y e, each_row_map (After sort y) (After sort x) (λ z c. after_trans sort x y z a.0 (after_told x y e) c) ys a.1)

  pub apart_told : (rows : List (R × V)) → are_apart sort same rows ≡ true → Apart sort rows
  apart_told [] e = tt
  apart_told (x ∷ xs) e =
      let full : (nat_lt (sort.lo x.0) (sort.hi x.0) ≡ true) × ((is_first sort same x xs && are_apart sort same xs) ≡ true) = and_parts (nat_lt (sort.lo x.0) (sort.hi x.0)) (is_first sort same x xs && are_apart sort same xs) e in
      let first : (is_first sort same x xs ≡ true) × (are_apart sort same xs ≡ true) = and_parts (is_first sort same x xs) (are_apart sort same xs) full.1 in
      let rest : Apart sort xs = apart_told xs first.1 in
      (ltb-true (sort.lo x.0) (sort.hi x.0) full.0, first_after x xs first.0 rest, rest)

  pub full_told : (rows : List (R × V)) → are_full sort rows ≡ true → EachRow (λ row. sort.lo row.0 < sort.hi row.0) rows
  full_told [] e = tt
  full_told (x ∷ xs) e = let tests : (nat_lt (sort.lo x.0) (sort.hi x.0) ≡ true) × (are_full sort xs ≡ true) = and_parts (nat_lt (sort.lo x.0) (sort.hi x.0)) (are_full sort xs) e in (ltb-true (sort.lo x.0) (sort.hi x.0) tests.0, full_told xs tests.1)

-- Uses in printed form are their sets.
pub sets_kept : (rows : List UseRow) → Apart part_sort rows → rows ≡ sets rows
sets_kept rows apart = rows_unique part_sort same_set uses_tell rows (sets rows) apart (sets_apart rows) (λ spot v. has_at part_sort same_set spot v rows (apart_loose part_sort rows apart) ∙ (ap (λ (o : Option Usages). option_map_or (same_set v) o false) (at_spot spot) ∙ sym (has_at part_sort same_set spot v (sets rows) (apart_loose part_sort (sets rows) (sets_apart rows)))))
  where
    at_spot : (spot : Spot) → value_at part_sort spot rows ≡ value_at part_sort spot (sets rows)
    at_spot spot = same_at_parts rows (sets rows) (λ p. sym (apart_set p rows apart) ∙ sym ((sets_are rows).1 p)) spot

pub sets_same : (rows : List UseRow) → are_apart part_sort same_set rows ≡ true → rows ≡ sets rows
sets_same rows e = sets_kept rows (apart_told part_sort same_set uses_tell rows e)
