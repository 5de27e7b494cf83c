-- What rows say does not depend on their order, where it does not depend on which comes first.
use Rattle.std.proofs.Common.{◌≡◌, ℕ, zero, suc, ◌<◌, max, List, [], ◌∷◌, Bool, true, false, ◌&&◌, ◌||◌, ◌==◌, Option, Some, None, is_some, refl, ap, sym, ◌∙◌, arith, if◌then◌else◌, true≢false, IsPermutation}
use Rattle.std.specs.Int.{bit_at}
use Rattle.std.specs.List.{list_any}
use Rattle.std.specs.Option.{option_map_or}
use Rattle.std.proofs.lemmas.Bool.{and_from, or_left, or_right}
use Rattle.std.proofs.lemmas.List.Sorted.{list_any-IsPermutation}
use Rattle.std.proofs.lemmas.Nat.Bits.{same_from_bits, bit_at_or, bit_at-lt, bit_at-zero}
use Rattle.wg_rows.specs.Rows.{Sort, Spot, covers_spot, any_row, printed, has_value, EachRow, Apart, Alike, Fits, AllFit}
use Rattle.wg_rows.specs.Cut.{value_at}
use Rattle.wg_rows.specs.Runs.{Part, Cells, cell_sort, covers_part}
use Rattle.wg_rows.specs.Uses.{Usages, AccessKind, same_kind, row_set, with_usage, printed_accesses}
use Rattle.wg_rows.specs.Sets.{UseRow, AreSameSets}
use Rattle.wg_rows.specs.Order.{are_full, are_apart}
use Rattle.wg_rows.proofs.Put.{printed_any}
use Rattle.wg_rows.proofs.Printed.{Tells, respects, printed_unique}
use Rattle.wg_rows.proofs.Told.{accesses_tell}
use Rattle.wg_rows.proofs.Values.{has_at, apart_loose}
use Rattle.wg_rows.proofs.Order.{apart_told, full_told}

-- The set of a part is told by its bits, each of which some row of the part has.
abbrev bits_of : Option Usages → ℕ
bits_of None = 0
bits_of (Some usages) = usages.0

abbrev has_part : Part → UseRow → Bool
has_part p row = covers_part row.0 p

abbrev has_bit : Part → ℕ → UseRow → Bool
has_bit p i row = covers_part row.0 p && (bit_at row.1.0 i == 1)

some_is : (p : Part) (rows : List UseRow) → is_some (row_set p rows) ≡ list_any (has_part p) rows
some_is p [] = refl
some_is p (r ∷ rows) = by_cover (covers_part r.0 p) (some_is p rows)
  where
    by_cover : (b : Bool) → is_some (row_set p rows) ≡ list_any (has_part p) rows → is_some (if b then Some (with_usage r.1 (row_set p rows)) else row_set p rows) ≡ (b || list_any (has_part p) rows)
    by_cover true h = refl
    by_cover false h = h

with_bits : (u : Usages) (o : Option Usages) (i : ℕ) → bit_at (with_usage u o).0 i ≡ max (bit_at u.0 i) (bit_at (bits_of o) i)
with_bits u None i = let none = bit_at-zero i in omega (arith, none)
with_bits u (Some s) i = bit_at_or u.0 s.0 i

either_bit : (a b : ℕ) → a < 2 → b < 2 → (max a b == 1) ≡ ((a == 1) || (b == 1))
either_bit zero zero l h = refl
either_bit zero (suc zero) l h = refl
either_bit (suc zero) zero l h = refl
either_bit (suc zero) (suc zero) l h = refl
either_bit (suc (suc a)) b l h = absurd (omega (arith, l))
either_bit a (suc (suc b)) l h = absurd (omega (arith, h))

bit_is : (p : Part) (i : ℕ) (rows : List UseRow) → (bit_at (bits_of (row_set p rows)) i == 1) ≡ list_any (has_bit p i) rows
bit_is p i [] = ap (λ (n : ℕ). n == 1) (bit_at-zero i)
bit_is p i (r ∷ rows) = by_cover (covers_part r.0 p) (bit_is p i rows)
  where
    by_cover : (b : Bool) → (bit_at (bits_of (row_set p rows)) i == 1) ≡ list_any (has_bit p i) rows → (bit_at (bits_of (if b then Some (with_usage r.1 (row_set p rows)) else row_set p rows)) i == 1) ≡ ((b && (bit_at r.1.0 i == 1)) || list_any (has_bit p i) rows)
    by_cover true h =
        ap (λ (n : ℕ). n == 1) (with_bits r.1 (row_set p rows) i)
        ∙ (either_bit (bit_at r.1.0 i) (bit_at (bits_of (row_set p rows)) i) (bit_at-lt r.1.0 i) (bit_at-lt (bits_of (row_set p rows)) i)
        ∙ ap (λ (t : Bool). (bit_at r.1.0 i == 1) || t) h)
    by_cover false h = h

one_bit : (a b : ℕ) → a < 2 → b < 2 → (a == 1) ≡ (b == 1) → a ≡ b
one_bit zero zero l h e = refl
one_bit (suc zero) (suc zero) l h e = refl
one_bit zero (suc zero) l h e = absurd (true≢false (sym e))
one_bit (suc zero) zero l h e = absurd (true≢false e)
one_bit (suc (suc a)) b l h e = absurd (omega (arith, l))
one_bit a (suc (suc b)) l h e = absurd (omega (arith, h))

same_option : (o q : Option Usages) → is_some o ≡ is_some q → bits_of o ≡ bits_of q → o ≡ q
same_option None None e h = refl
same_option (Some u) (Some v) e h = ap (λ n. Some (record { 0 = n })) h
same_option None (Some v) e h = absurd (true≢false (sym e))
same_option (Some u) None e h = absurd (true≢false e)

-- The sets of parts are the same for uses in another order.
pub set_permuted : (xs ys : List UseRow) → IsPermutation xs ys → AreSameSets xs ys
set_permuted xs ys moved p = same_option (row_set p xs) (row_set p ys) (some_is p xs ∙ (list_any-IsPermutation (has_part p) xs ys moved ∙ sym (some_is p ys))) (same_from_bits (bits_of (row_set p xs)) (bits_of (row_set p ys)) each)
  where
    each : (i : ℕ) → bit_at (bits_of (row_set p xs)) i ≡ bit_at (bits_of (row_set p ys)) i
    each i = one_bit (bit_at (bits_of (row_set p xs)) i) (bit_at (bits_of (row_set p ys)) i) (bit_at-lt (bits_of (row_set p xs)) i) (bit_at-lt (bits_of (row_set p ys)) i) (bit_is p i xs ∙ (list_any-IsPermutation (has_bit p i) xs ys moved ∙ sym (bit_is p i ys)))

module _ {R V : Type 0} where
  any_is : (covering : R → Bool) (test : V → Bool) (rows : List (R × V)) → any_row covering test rows ≡ list_any (λ (row : R × V). covering row.0 && test row.1) rows
  any_is covering test [] = refl
  any_is covering test (row ∷ rows) = ap (λ (t : Bool). (covering row.0 && test row.1) || t) (any_is covering test rows)

module _ {R V : Type 0} (sort : Sort R) (same : V → V → Bool) where
  alike_permuted : (xs ys : List (R × V)) → IsPermutation xs ys → Alike sort same xs ys
  alike_permuted xs ys moved spot v =
      any_is (λ run. covers_spot sort run spot) (same v) xs
      ∙ (list_any-IsPermutation (λ (row : R × V). covers_spot sort row.0 spot && same v row.1) xs ys moved
      ∙ sym (any_is (λ run. covers_spot sort run spot) (same v) ys))

module _ {R V : Type 0} (sort : Sort R) (same : V → V → Bool) (tells : Tells sort same) (found : List (R × V)) (apart : Apart sort found) where
  -- Rows in printed form have one value at a spot.
  one_value : (spot : Spot) (u v : V) → has_value sort same spot u found ≡ true → has_value sort same spot v found ≡ true → u ≡ v
  one_value spot u v e h = by_value (value_at sort spot found) (sym (has_at sort same spot u found (apart_loose sort found apart)) ∙ e) (sym (has_at sort same spot v found (apart_loose sort found apart)) ∙ h)
    where
      by_value : (o : Option V) → option_map_or (same u) o false ≡ true → option_map_or (same v) o false ≡ true → u ≡ v
      by_value None k l = absurd (true≢false (sym k))
      by_value (Some w) k l = tells.equal u w k ∙ sym (tells.equal v w l)

  -- Rows that cover something fit one another where rows in printed form have their values.
  fit : (rows : List (R × V)) → EachRow (λ row. sort.lo row.0 < sort.hi row.0) rows → ((spot : Spot) (v : V) → has_value sort same spot v rows ≡ true → has_value sort same spot v found ≡ true) → AllFit sort rows
  fit [] full seen = tt
  fit (x ∷ xs) full seen = (full.0, each xs (λ spot v e. later x xs spot v (seen spot v) e), fit xs full.1 (λ spot v e. later x xs spot v (seen spot v) e))
    where
      later : (y : R × V) (ys : List (R × V)) (spot : Spot) (v : V) → (has_value sort same spot v (y ∷ ys) ≡ true → has_value sort same spot v found ≡ true) → has_value sort same spot v ys ≡ true → has_value sort same spot v found ≡ true
      later y ys spot v seen e = seen (or_right (covers_spot sort y.0 spot && same v y.1) (has_value sort same spot v ys) e)

      here : (y : R × V) (ys : List (R × V)) (spot : Spot) → (has_value sort same spot y.1 (y ∷ ys) ≡ true → has_value sort same spot y.1 found ≡ true) → covers_spot sort y.0 spot ≡ true → has_value sort same spot y.1 found ≡ true
      here y ys spot seen e = seen (or_left (covers_spot sort y.0 spot && same y.1 y.1) (has_value sort same spot y.1 ys) (and_from (covers_spot sort y.0 spot) (same y.1 y.1) e (tells.itself y.1)))

      each : (ys : List (R × V)) → ((spot : Spot) (v : V) → has_value sort same spot v ys ≡ true → has_value sort same spot v found ≡ true) → EachRow (Fits sort x) ys
      each [] h = tt
      each (y ∷ ys) h = (λ spot over_x over_y. one_value spot x.1 y.1 (here x xs spot (seen spot x.1) over_x) (here y ys spot (h spot y.1) over_y), each ys (λ spot v e. later y ys spot v (h spot v) e))

-- Rows that cover something are printed as those of another order are, where these come out in printed form.
printed_permuted : {R V : Type 0} (sort : Sort R) (same : V → V → Bool) → Tells sort same → (rows sorted : List (R × V)) → IsPermutation rows sorted → EachRow (λ row. sort.lo row.0 < sort.hi row.0) rows → Apart sort (printed sort same sorted) → printed sort same sorted ≡ printed sort same rows
printed_permuted {R} {V} sort same tells rows sorted moved full apart = printed_unique sort same tells (printed sort same sorted) rows (fit sort same tells (printed sort same sorted) apart rows full (λ spot v e. alike spot v ∙ e)) apart alike
  where
    alike : Alike sort same (printed sort same sorted) rows
    alike spot v = printed_any sort same spot (same v) tells.widens (respects sort same tells v) sorted ∙ sym (alike_permuted sort same rows sorted moved spot v)

pub accesses_sorted : (rows sorted : List (Cells × AccessKind)) → are_full cell_sort rows ≡ true → IsPermutation rows sorted → are_apart cell_sort same_kind (printed_accesses sorted) ≡ true → printed_accesses sorted ≡ printed_accesses rows
accesses_sorted rows sorted full moved apart = printed_permuted cell_sort same_kind accesses_tell rows sorted moved (full_told cell_sort same_kind accesses_tell rows full) (apart_told cell_sort same_kind accesses_tell (printed_accesses sorted) apart)
