-- Keys in order, each one once; and the search in them.
use Rattle.std.proofs.Common.{◌≡◌, ◌≢◌, ℕ, zero, suc, ◌+◌, ◌<◌, ◌≤◌, List, [], ◌∷◌, length, Bool, true, false, Some, None, refl, ap, sym, subst, ◌∙◌, ◌⊎◌, inl, inr, arith, slice_get, slice_index_or, if◌then◌else◌, true≢false}
use Rattle.std.specs.List.Sorted.{IsSortedBy, IsPermutation}
use Rattle.std.specs.List.{Contains}
use Rattle.std.specs.Cmp.{IsStrictWeakOrder}
use Rattle.std.proofs.lemmas.Bool.{cases_Bool}
use Rattle.std.proofs.lemmas.List.Sorted.{Contains-permutation}
use Rattle.wg_rows.specs.Rows.{list_before, EachRow}
use Rattle.wg_rows.proofs.Printed.{before_not_self, before_trans, Compared, Less_than, Same_line, More_than, compare_lines}
use Rattle.wg_check.specs.Segments.{Key, numbers, before, rank, Among, KeyEvent, EndsIn}
use Rattle.wg_check.specs.Keys.{key}
use Rattle.wg_check.specs.Ends.{ends_of, apart_from, Ascending}
use Rattle.wg_check.proofs.Ranks.{less_not}

-- The order of keys is one.

pub same_key : (a b : Key) → numbers a ≡ numbers b → a ≡ b
same_key a b same = together (cc) (cc) (cc) (cc) (cc)
  where
    together : a.object ≡ b.object → a.sort ≡ b.sort → a.aspect ≡ b.aspect → a.mip ≡ b.mip → a.at ≡ b.at → a ≡ b
    together o s p m x = ap (λ (n : ℕ). key n a.sort a.aspect a.mip a.at) o ∙ (ap (λ (n : ℕ). key b.object n a.aspect a.mip a.at) s ∙ (ap (λ (n : ℕ). key b.object b.sort n a.mip a.at) p ∙ (ap (λ (n : ℕ). key b.object b.sort b.aspect n a.at) m ∙ ap (λ (n : ℕ). key b.object b.sort b.aspect b.mip n) x)))

before_chain : (a b c : Key) → before a b ≡ false → before b c ≡ false → before a c ≡ false
before_chain a b c e h = by_cases (cases_Bool (before a c))
  where
    by_cases : (before a c ≡ true) ⊎ (before a c ≡ false) → before a c ≡ false
    by_cases (inr behind) = behind
    by_cases (inl less) = by_order (compare_lines (numbers b) (numbers a))
      where
        by_order : Compared (numbers b) (numbers a) → before a c ≡ false
        by_order (Less_than l) = absurd (true≢false (sym (before_trans (numbers b) (numbers a) (numbers c) l less) ∙ h))
        by_order (Same_line same) = absurd (true≢false (sym (ap (λ (x : List ℕ). list_before x (numbers c)) same ∙ less) ∙ h))
        by_order (More_than l) = absurd (true≢false (sym l ∙ e))

pub weak : IsStrictWeakOrder before
weak = record { one_way = λ x y l. less_not x y l; chain = λ x y z e h. before_chain x y z e h }

-- Keys each of which is not before the one in front of it.
abbrev Rising : Key → List Key → Type 0
Rising last [] = Unit {0}
Rising last (k ∷ keys) = (before k last ≡ false) × Rising k keys

rising : (last : Key) (keys : List Key) → IsSortedBy before (last ∷ keys) → Rising last keys
rising last [] up = tt
rising last (k ∷ keys) up = (up 0 k (omega arith) (omega arith), rising k keys (λ i d l below. let on : suc (i + 1) ≡ suc i + 1 = omega arith in ap (λ (n : ℕ). before (slice_index_or (last ∷ (k ∷ keys)) n d) (slice_index_or (k ∷ keys) i d)) on ∙ up (suc i) d (omega arith) (omega (arith, below))))

same_or_behind : (last k : Key) → before k last ≡ false → before last k ≡ false → k ≡ last
same_or_behind last k e h = by_order (compare_lines (numbers k) (numbers last))
  where
    by_order : Compared (numbers k) (numbers last) → k ≡ last
    by_order (Less_than l) = absurd (true≢false (sym l ∙ e))
    by_order (Same_line same) = same_key k last same
    by_order (More_than l) = absurd (true≢false (sym l ∙ h))

-- none is lost
apart_has : (last : Key) (keys : List Key) (x : Key) → Rising last keys → Among x keys → (x ≡ last) ⊎ Among x (apart_from (Some last) keys)
apart_has last [] x up among = absurd among
apart_has last (k ∷ keys) x up among = by_behind (before last k) refl among (apart_has k keys x up.1)
  where
    by_behind : (b : Bool) → before last k ≡ b → (x ≡ k) ⊎ Among x keys → (Among x keys → (x ≡ k) ⊎ Among x (apart_from (Some k) keys)) → (x ≡ last) ⊎ Among x (if b then k ∷ apart_from (Some k) keys else apart_from (Some last) keys)
    by_behind true e (inl same) rest = inr (inl same)
    by_behind true e (inr more) rest = inr (rest more)
    by_behind false e among rest = at_last among
      where
        same : k ≡ last
        same = same_or_behind last k up.0 e

        at_last : (x ≡ k) ⊎ Among x keys → (x ≡ last) ⊎ Among x (apart_from (Some last) keys)
        at_last (inl it) = inl (it ∙ same)
        at_last (inr more) = subst (λ (l : Key). (x ≡ l) ⊎ Among x (apart_from (Some l) keys)) same (rest more)

all_apart : (keys : List Key) (x : Key) → IsSortedBy before keys → Among x keys → Among x (apart_from None keys)
all_apart [] x up among = among
all_apart (k ∷ keys) x up (inl same) = inl same
all_apart (k ∷ keys) x up (inr more) = apart_has k keys x (rising k keys up) more

-- and they ascend
each_later : (a b : Key) (keys : List Key) → before a b ≡ true → EachRow (λ other. before b other ≡ true) keys → EachRow (λ other. before a other ≡ true) keys
each_later a b [] l each = tt
each_later a b (k ∷ keys) l each = (before_trans (numbers a) (numbers b) (numbers k) l each.0, each_later a b keys l each.1)

ascending_from : (last : Key) (keys : List Key) → EachRow (λ other. before last other ≡ true) (apart_from (Some last) keys) × Ascending (apart_from (Some last) keys)
ascending_from last [] = (tt, tt)
ascending_from last (k ∷ keys) = by_behind (before last k) refl (ascending_from k keys) (ascending_from last keys)
  where
    by_behind : (b : Bool) → before last k ≡ b → EachRow (λ other. before k other ≡ true) (apart_from (Some k) keys) × Ascending (apart_from (Some k) keys) → EachRow (λ other. before last other ≡ true) (apart_from (Some last) keys) × Ascending (apart_from (Some last) keys) → EachRow (λ other. before last other ≡ true) (if b then k ∷ apart_from (Some k) keys else apart_from (Some last) keys) × Ascending (if b then k ∷ apart_from (Some k) keys else apart_from (Some last) keys)
    by_behind true e here there = ((e, each_later last k (apart_from (Some k) keys) e here.0), here)
    by_behind false e here there = there

pub ascending : (keys : List Key) → Ascending (apart_from None keys)
ascending [] = tt
ascending (k ∷ keys) = ascending_from k keys

-- from a permutation

to_contains : (xs : List Key) (x : Key) → Among x xs → Contains xs x
to_contains [] x among = absurd among
to_contains (e ∷ xs) x (inl same) = (0, omega arith, sym same)
to_contains (e ∷ xs) x (inr among) = let found : Contains xs x = to_contains xs x among in (suc found.0, omega (arith, found.1), found.2)

from_contains : (xs : List Key) (x : Key) (i : ℕ) → i < length xs → slice_index_or xs i x ≡ x → Among x xs
from_contains [] x i l e = absurd (omega arith)
from_contains (y ∷ xs) x zero l e = inl (sym e)
from_contains (y ∷ xs) x (suc i) l e = inr (from_contains xs x i (omega arith) e)

moved_among : (xs ys : List Key) (x : Key) → IsPermutation xs ys → Among x xs → Among x ys
moved_among xs ys x moved among = let found : Contains ys x = Contains-permutation xs ys x moved (to_contains xs x among) in from_contains ys x found.0 found.1 found.2

ends_in : (ends : List Key) (events : List KeyEvent) → ((k : Key) → Among k (ends_of events) → Among k ends) → EndsIn ends events
ends_in ends [] has = tt
ends_in ends (v ∷ events) has = (has v.lo (inl refl), has v.hi (inr (inl refl)), ends_in ends events (λ k among. has k (inr (inr among))))

pub within : (events : List KeyEvent) (keys : List Key) → IsPermutation (ends_of events) keys → IsSortedBy before keys → EndsIn (apart_from None keys) events
within events keys moved up = ends_in (apart_from None keys) events (λ k among. all_apart keys k up (moved_among (ends_of events) keys k moved among))

-- The search.

rank_zero : (k : Key) (ends : List Key) → EachRow (λ other. before k other ≡ true) ends → rank ends k ≡ 0
rank_zero k [] each = refl
rank_zero k (e ∷ ends) each = ap (λ (b : Bool). if b then rank ends k else suc (rank ends k)) each.0 ∙ rank_zero k ends each.1

index_get : (ends : List Key) (i : ℕ) (d : Key) → i < length ends → slice_get ends i ≡ Some (slice_index_or ends i d)
index_get [] i d l = absurd (omega arith)
index_get (x ∷ ends) zero d l = refl
index_get (x ∷ ends) (suc i) d l = index_get ends i d (omega arith)

below_end : (ends : List Key) (k e : Key) (i : ℕ) → Ascending ends → slice_get ends i ≡ Some e → before k e ≡ true → rank ends k ≤ i
below_end [] k e i up at less = absurd (cc)
below_end (x ∷ ends) k e zero up at less =
    let same : x ≡ e = cc in
    let here : before k x ≡ true = ap (before k) same ∙ less in
    let none : rank (x ∷ ends) k ≡ 0 = rank_zero k (x ∷ ends) (here, each_later k x ends here up.0) in
    omega (arith, none)
below_end (x ∷ ends) k e (suc i) up at less = by_head (before k x) (below_end ends k e i up.1 at less)
  where
    by_head : (b : Bool) → rank ends k ≤ i → (if b then rank ends k else suc (rank ends k)) ≤ suc i
    by_head true l = omega arith
    by_head false l = omega arith

each_at : (P : Key → Type 0) (ends : List Key) (i : ℕ) (e : Key) → EachRow P ends → slice_get ends i ≡ Some e → P e
each_at P [] i e each at = absurd (cc)
each_at P (x ∷ ends) zero e each at = let same : x ≡ e = cc in subst P same each.0
each_at P (x ∷ ends) (suc i) e each at = each_at P ends i e each.1 at

above_end : (ends : List Key) (k e : Key) (i : ℕ) → Ascending ends → slice_get ends i ≡ Some e → before k e ≡ false → suc i ≤ rank ends k
above_end [] k e i up at most = absurd (cc)
above_end (x ∷ ends) k e zero up at most =
    let same : x ≡ e = cc in
    let here : rank (x ∷ ends) k ≡ suc (rank ends k) = ap (λ (b : Bool). if b then rank ends k else suc (rank ends k)) (ap (before k) same ∙ most) in
    omega (arith, here)
above_end (x ∷ ends) k e (suc i) up at most =
    let first : before x e ≡ true = each_at (λ other. before x other ≡ true) ends i e up.0 at in
    let rest : suc i ≤ rank ends k = above_end ends k e i up.1 at most in
    let here : rank (x ∷ ends) k ≡ suc (rank ends k) = ap (λ (b : Bool). if b then rank ends k else suc (rank ends k)) (not_before first (cases_Bool (before k x))) in
    omega (arith, rest, here)
  where
    not_before : before x e ≡ true → (before k x ≡ true) ⊎ (before k x ≡ false) → before k x ≡ false
    not_before first (inr behind) = behind
    not_before first (inl less) = absurd (true≢false (sym (before_trans (numbers k) (numbers x) (numbers e) less first) ∙ most))

pub rank_below : (ends : List Key) (k : Key) (i : ℕ) (d : Key) → Ascending ends → i < length ends → before k (slice_index_or ends i d) ≡ true → rank ends k ≤ i
rank_below ends k i d up l less = below_end ends k (slice_index_or ends i d) i up (index_get ends i d l) less

pub rank_above : (ends : List Key) (k : Key) (i : ℕ) (d : Key) → Ascending ends → i < length ends → before k (slice_index_or ends i d) ≡ false → suc i ≤ rank ends k
rank_above ends k i d up l most = above_end ends k (slice_index_or ends i d) i up (index_get ends i d l) most

pub itself : (k : Key) → before k k ≡ false
itself k = by_cases (cases_Bool (before k k))
  where
    by_cases : (before k k ≡ true) ⊎ (before k k ≡ false) → before k k ≡ false
    by_cases (inl less) = absurd (before_not_self (numbers k) less)
    by_cases (inr behind) = behind

-- The end at i begins segment i + 1.
pub rank_at : (ends : List Key) (i : ℕ) (k : Key) → Ascending ends → slice_get ends i ≡ Some k → rank ends k ≡ suc i
rank_at [] i k up at = absurd (cc)
rank_at (x ∷ ends) zero k up at =
    let same : x ≡ k = cc in
    subst (λ (k : Key). rank (x ∷ ends) k ≡ 1) same (ap (λ (b : Bool). if b then rank ends x else suc (rank ends x)) (itself x) ∙ ap suc (rank_zero x ends up.0))
rank_at (x ∷ ends) (suc i) k up at =
    ap (λ (b : Bool). if b then rank ends k else suc (rank ends k)) (less_not x k (each_at (λ other. before x other ≡ true) ends i k up.0 at))
    ∙ ap suc (rank_at ends i k up.1 at)
