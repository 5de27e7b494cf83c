-- Uses whose printed rows are in printed form are told by these.
use Rattle.std.proofs.Common.{◌≡◌, List, [], ◌∷◌, Bool, true, false, ◌||◌, Option, Some, None, refl, ap, ap₂, sym, ◌∙◌, bit_or, if◌then◌else◌}
use Rattle.std.specs.Int.Bits.{or_self}
use Rattle.std.proofs.lemmas.Nat.{or_comm}
use Rattle.wg_rows.specs.Rows.{covers_spot, meet, run_before, joined, put_at, put, printed}
use Rattle.wg_rows.specs.Runs.{Part, PartRun, part_sort, part_spot, covers_part}
use Rattle.wg_rows.specs.Uses.{Usages, same_set, row_set, with_usage}
use Rattle.wg_rows.specs.Sets.{UseRow, AreSameSets}
use Rattle.wg_rows.proofs.Put.{both_of, unites, joined_some}
use Rattle.wg_rows.proofs.Runs.{part_widens, set_told}
use Rattle.wg_rows.proofs.Sets.{or_assoc}

with_twice : (u : Usages) (o : Option Usages) → with_usage u (Some (with_usage u o)) ≡ with_usage u o
with_twice u None = ap (λ n. record { 0 = n }) (or_self u.0)
with_twice u (Some s) = ap (λ n. record { 0 = n }) (sym (or_assoc u.0 u.0 s.0) ∙ ap (λ n. bit_or n s.0) (or_self u.0))

with_swap : (u v : Usages) (o : Option Usages) → with_usage u (Some (with_usage v o)) ≡ with_usage v (Some (with_usage u o))
with_swap u v None = ap (λ n. record { 0 = n }) (or_comm u.0 v.0)
with_swap u v (Some s) = ap (λ n. record { 0 = n }) (sym (or_assoc u.0 v.0 s.0) ∙ (ap (λ n. bit_or n s.0) (or_comm u.0 v.0) ∙ or_assoc v.0 u.0 s.0))

abbrev with_row : Bool → Usages → Option Usages → Option Usages
with_row b u o = if b then Some (with_usage u o) else o

merged : (a b : Bool) (u : Usages) (o : Option Usages) → with_row (a || b) u o ≡ with_row b u (with_row a u o)
merged true true u o = ap Some (sym (with_twice u o))
merged true false u o = refl
merged false true u o = refl
merged false false u o = refl

swapped : (a b : Bool) (u v : Usages) (o : Option Usages) → with_row a u (with_row b v o) ≡ with_row b v (with_row a u o)
swapped true true u v o = ap Some (with_swap u v o)
swapped true false u v o = refl
swapped false true u v o = refl
swapped false false u v o = refl

covers_both : (p : Part) (x r both : PartRun) → meet part_sort x r ≡ true → both ≡ both_of part_sort x r → covers_part both p ≡ (covers_part x p || covers_part r p)
unfolding covers_part
covers_both p x r both m e = ap (λ run. covers_spot part_sort run (part_spot p)) e ∙ unites part_sort part_widens x r (part_spot p) m

put_set : (p : Part) (r : UseRow) (rows : List UseRow) → row_set p (put part_sort same_set r rows) ≡ row_set p (r ∷ rows)
put_set p r [] = refl
put_set p r (x ∷ xs) = by_joined (joined part_sort same_set x r) refl (run_before part_sort r.0 x.0) (λ row. put_set p row xs)
  where
    of_both : (both : UseRow) → (same_set x.1 r.1 ≡ true) × (meet part_sort x.0 r.0 ≡ true) × (both.0 ≡ both_of part_sort x.0 r.0) × (both.1 ≡ r.1) → row_set p (both ∷ xs) ≡ row_set p (r ∷ (x ∷ xs))
    of_both both h =
        ap₂ (λ (c : Bool) (u : Usages). with_row c u (row_set p xs)) (covers_both p x.0 r.0 both.0 h.1 h.2) h.3
        ∙ (merged (covers_part x.0 p) (covers_part r.0 p) r.1 (row_set p xs)
        ∙ ap (λ (u : Usages). with_row (covers_part r.0 p) r.1 (with_row (covers_part x.0 p) u (row_set p xs))) (sym (set_told x.1 r.1 h.0)))

    by_joined : (o : Option UseRow) → joined part_sort same_set x r ≡ o → (b : Bool) → ((row : UseRow) → row_set p (put part_sort same_set row xs) ≡ row_set p (row ∷ xs)) → row_set p (put_at (λ row. put part_sort same_set row xs) r x xs b o) ≡ row_set p (r ∷ (x ∷ xs))
    by_joined (Some both) e b later = later both ∙ of_both both (joined_some part_sort same_set x r both e)
    by_joined None e true later = refl
    by_joined None e false later = ap (with_row (covers_part x.0 p) x.1) (later r) ∙ swapped (covers_part x.0 p) (covers_part r.0 p) x.1 r.1 (row_set p xs)

printed_set : (p : Part) (rows : List UseRow) → row_set p (printed part_sort same_set rows) ≡ row_set p rows
printed_set p [] = refl
printed_set p (r ∷ rows) = put_set p r (printed part_sort same_set rows) ∙ ap (with_row (covers_part r.0 p) r.1) (printed_set p rows)

pub printed_sets : (rows : List UseRow) → AreSameSets (printed part_sort same_set rows) rows
printed_sets rows p = printed_set p rows
