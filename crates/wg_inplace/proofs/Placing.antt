-- Laws of rows that are changed in place.
use Rattle.std.specs.Prelude.{slice_set}
use Rattle.std.proofs.Common.{◌≡◌, ℕ, zero, suc, ◌<◌, ◌≤◌, ◌+◌, ◌-◌, min, max, List, [], ◌∷◌, ◌++◌, Bool, true, false, ◌||◌, ◌&&◌, ◌⊎◌, inl, inr, Option, Some, None, refl, ap, ap₂, sym, ◌∙◌, arith, if◌then◌else◌, nat_lt, nat_le, subst, length, take, drop, get_or, drop-cons, add-one, not, append_assoc}
use Rattle.std.proofs.lemmas.Bool.{and_parts, and_from, or_left, or_right, or_cases, lt-ltb, ltb-true, le-leb, leb-true}
use Rattle.std.proofs.lemmas.Bool.Decides.{nat_tests}
use Rattle.std.proofs.lemmas.List.{take_more, take-append-drop, drop_all, drop-drop, take_at, drop_at, take_more_set, drop-set-lt, set_split, length-append, length-take-le}
use Rattle.wg_rows.specs.Cut.{left_of, right_of, cut_row, cut}
use Rattle.wg_rows.specs.Clip.{left_run, right_run, some_row}
use Rattle.wg_rows.proofs.Cut.{Clips, cut_apart}
use Rattle.wg_rows.proofs.Printed.{before_not_self}
use Rattle.wg_rows.specs.Rows.{Sort, EachRow, list_eq, list_before, run_before, meet, joined, put_at, put, After, Apart}
use Rattle.wg_rows.specs.Chained.{ends_before, is_clear, AllClear, Chained}
use Rattle.wg_rows.proofs.Put.{Widens, both_of, joined_some, list_eq_true, list_eq_refl}
use Rattle.wg_rows.proofs.Chained.{ends_trans, all_clear, put_behind}
use Rattle.wg_inplace.specs.Place.{Stops, Whole, AllBefore, AllBehind, IsNear}

-- Chained rows without some of the last, or of the first.
each_taken : {A : Type 0} (P : A → Type 0) (n : ℕ) (xs : List A) → EachRow P xs → EachRow P (take n xs)
each_taken P zero xs h = tt
each_taken P (suc n) [] h = tt
each_taken P (suc n) (x ∷ xs) h = (h.0, each_taken P n xs h.1)

pub chained_take : {R V : Type 0} (sort : Sort R) (n : ℕ) (xs : List (R × V)) → Chained sort xs → Chained sort (take n xs)
chained_take sort zero xs h = tt
chained_take sort (suc n) [] h = tt
chained_take sort (suc n) (x ∷ xs) h = (each_taken (λ y. ends_before sort x.0 y.0 ≡ true) n xs h.0, chained_take sort n xs h.1)

pub chained_drop : {R V : Type 0} (sort : Sort R) (n : ℕ) (xs : List (R × V)) → Chained sort xs → Chained sort (drop n xs)
chained_drop sort zero xs h = h
chained_drop sort (suc n) [] h = tt
chained_drop sort (suc n) (x ∷ xs) h = chained_drop sort n xs h.1

-- Where one row is clear, all before it are.
pub clear_taken : {R V : Type 0} (sort : Sort R) (same : V → V → Bool) (r : R × V) (xs : List (R × V)) (i : ℕ) (d : R × V) → Chained sort xs → i < length xs → is_clear sort same (get_or xs i d) r ≡ true → AllClear sort same r (take (i + 1) xs)
clear_taken sort same r xs i d h l e = subst (AllClear sort same r) (sym (take_more xs i d l)) (all_clear sort same r (take i xs) (get_or xs i d) (subst (Chained sort) (take_more xs i d l) (chained_take sort (i + 1) xs h)) e)

pub clear_upto : {R V : Type 0} (sort : Sort R) (same : V → V → Bool) (r : R × V) (xs : List (R × V)) (n : ℕ) (d : R × V) → Chained sort xs → 0 < n → n ≤ length xs → is_clear sort same (get_or xs (n - 1) d) r ≡ true → AllClear sort same r (take n xs)
clear_upto sort same r xs n d h pos l e = let one : (n - 1) + 1 ≡ n = omega (arith, pos) in subst (λ m. AllClear sort same r (take m xs)) one (clear_taken sort same r xs (n - 1) d h (omega (arith, pos, l)) e)

-- A row behind which another is put.
put_past : {R V : Type 0} (sort : Sort R) (same : V → V → Bool) (r x : R × V) (xs : List (R × V)) → joined sort same x r ≡ None → run_before sort r.0 x.0 ≡ false → put sort same r (x ∷ xs) ≡ x ∷ put sort same r xs
put_past {R} {V} sort same r x xs j b = ap₂ (λ (b : Bool) (o : Option (R × V)). put_at (λ row. put sort same row xs) r x xs b o) b j

put_here : {R V : Type 0} (sort : Sort R) (same : V → V → Bool) (r x : R × V) (xs : List (R × V)) → joined sort same x r ≡ None → run_before sort r.0 x.0 ≡ true → put sort same r (x ∷ xs) ≡ r ∷ (x ∷ xs)
put_here {R} {V} sort same r x xs j b = ap₂ (λ (b : Bool) (o : Option (R × V)). put_at (λ row. put sort same row xs) r x xs b o) b j

put_joined : {R V : Type 0} (sort : Sort R) (same : V → V → Bool) (r x both : R × V) (xs : List (R × V)) → joined sort same x r ≡ Some both → put sort same r (x ∷ xs) ≡ put sort same both xs
put_joined {R} {V} sort same r x both xs j = ap (λ (o : Option (R × V)). put_at (λ row. put sort same row xs) r x xs (run_before sort r.0 x.0) o) j

append_one : {A : Type 0} (xs : List A) (y : A) (zs : List A) → (xs ++ (y ∷ [])) ++ zs ≡ xs ++ (y ∷ zs)
append_one [] y zs = refl
append_one (x ∷ xs) y zs = ap (λ ys. x ∷ ys) (append_one xs y zs)

next : {A : Type 0} (xs : List A) (i : ℕ) (d : A) → i < length xs → drop i xs ≡ get_or xs i d ∷ drop (i + 1) xs
next xs i d l = drop-cons xs i d l ∙ ap (λ n. get_or xs i d ∷ drop n xs) (sym (add-one i))

pub skips : {R V : Type 0} (sort : Sort R) (same : V → V → Bool) (r : R × V) (xs : List (R × V)) (i : ℕ) (d : R × V) → i < length xs → joined sort same (get_or xs i d) r ≡ None → run_before sort r.0 (get_or xs i d).0 ≡ false → take (i + 1) xs ++ put sort same r (drop (i + 1) xs) ≡ take i xs ++ put sort same r (drop i xs)
skips sort same r xs i d l j b = ap (λ ys. ys ++ put sort same r (drop (i + 1) xs)) (take_more xs i d l) ∙ (append_one (take i xs) (get_or xs i d) (put sort same r (drop (i + 1) xs)) ∙ ap (λ ys. take i xs ++ ys) (sym (ap (put sort same r) (next xs i d l) ∙ put_past sort same r (get_or xs i d) (drop (i + 1) xs) j b)))

pub stops_at : {R V : Type 0} (sort : Sort R) (same : V → V → Bool) (r : R × V) (xs : List (R × V)) (i : ℕ) (d : R × V) → i < length xs → (joined sort same (get_or xs i d) r ≡ None → run_before sort r.0 (get_or xs i d).0 ≡ true) → Stops sort same r (drop i xs)
stops_at sort same r xs i d l h = subst (Stops sort same r) (sym (next xs i d l)) h

pub stops_end : {R V : Type 0} (sort : Sort R) (same : V → V → Bool) (r : R × V) (xs : List (R × V)) (i : ℕ) → length xs ≤ i → Stops sort same r (drop i xs)
stops_end sort same r [] zero l = tt
stops_end sort same r [] (suc i) l = tt
stops_end sort same r (x ∷ xs) zero l = absurd (omega (arith, l))
stops_end sort same r (x ∷ xs) (suc i) l = stops_end sort same r xs i (omega (arith, l))

-- A row that is joined with the first stands before those behind it.
ends_starts : {R : Type 0} (sort : Sort R) (a b c : R) → sort.line c ≡ sort.line a → sort.lo c ≤ sort.lo a → ends_before sort a b ≡ true → run_before sort c b ≡ true
ends_starts sort a b c line lo e =
    let all : ((nat_lt (sort.lo a) (sort.hi a) && nat_lt (sort.lo b) (sort.hi b)) ≡ true) × ((list_before (sort.line a) (sort.line b) || (list_eq (sort.line a) (sort.line b) && nat_le (sort.hi a) (sort.lo b))) ≡ true) = and_parts (nat_lt (sort.lo a) (sort.hi a) && nat_lt (sort.lo b) (sort.hi b)) (list_before (sort.line a) (sort.line b) || (list_eq (sort.line a) (sort.line b) && nat_le (sort.hi a) (sort.lo b))) e in
    let full : sort.lo a < sort.hi a = ltb-true (sort.lo a) (sort.hi a) (and_parts (nat_lt (sort.lo a) (sort.hi a)) (nat_lt (sort.lo b) (sort.hi b)) all.0).0 in
    by_case full (or_cases (list_before (sort.line a) (sort.line b)) (list_eq (sort.line a) (sort.line b) && nat_le (sort.hi a) (sort.lo b)) all.1)
  where
    by_case : sort.lo a < sort.hi a → (list_before (sort.line a) (sort.line b) ≡ true) ⊎ ((list_eq (sort.line a) (sort.line b) && nat_le (sort.hi a) (sort.lo b)) ≡ true) → run_before sort c b ≡ true
    by_case full (inl h) = or_left (list_before (sort.line c) (sort.line b)) (list_eq (sort.line c) (sort.line b) && nat_lt (sort.lo c) (sort.lo b)) (ap (λ l. list_before l (sort.line b)) line ∙ h)
    by_case full (inr h) =
        let tests : (list_eq (sort.line a) (sort.line b) ≡ true) × (nat_le (sort.hi a) (sort.lo b) ≡ true) = and_parts (list_eq (sort.line a) (sort.line b)) (nat_le (sort.hi a) (sort.lo b)) h in
        or_right (list_before (sort.line c) (sort.line b)) (list_eq (sort.line c) (sort.line b) && nat_lt (sort.lo c) (sort.lo b)) (and_from (list_eq (sort.line c) (sort.line b)) (nat_lt (sort.lo c) (sort.lo b)) (ap (λ l. list_eq l (sort.line b)) line ∙ tests.0) (lt-ltb (sort.lo c) (sort.lo b) (let reach : sort.hi a ≤ sort.lo b = leb-true (sort.hi a) (sort.lo b) tests.1 in omega (arith, reach, full, lo))))

stops_on : {R V : Type 0} (sort : Sort R) (same : V → V → Bool) → Widens sort → (r x both : R × V) (xs : List (R × V)) → Chained sort (x ∷ xs) → joined sort same x r ≡ Some both → Stops sort same both xs
stops_on sort same widens r x both [] h j = tt
stops_on sort same widens r x both (y ∷ ys) h j = λ none.
    let all : (same x.1 r.1 ≡ true) × (meet sort x.0 r.0 ≡ true) × (both.0 ≡ both_of sort x.0 r.0) × (both.1 ≡ r.1) = joined_some sort same x r both j in
    let is : both.0 ≡ both_of sort x.0 r.0 = all.2 in
    ends_starts sort x.0 y.0 both.0 (ap sort.line is ∙ (widens x.0 r.0 all.1).0) (let least : sort.lo both.0 ≡ min (sort.lo x.0) (sort.lo r.0) = ap sort.lo is ∙ (widens x.0 r.0 all.1).1 in omega (arith, least)) h.0.0

pub record Joins {R V : Type 0} (sort : Sort R) (same : V → V → Bool) (r both : R × V) (xs : List (R × V)) (i : ℕ) : Type 0 where
  pub put_is : put sort same r (drop i xs) ≡ put sort same both (drop (i + 1) xs)
  pub stops : Stops sort same both (drop (i + 1) xs)

pub joins_on : {R V : Type 0} (sort : Sort R) (same : V → V → Bool) → Widens sort → (r both : R × V) (xs : List (R × V)) (i : ℕ) (d : R × V) → Chained sort xs → i < length xs → joined sort same (get_or xs i d) r ≡ Some both → Joins sort same r both xs i
joins_on sort same widens r both xs i d h l j = record {
  put_is = ap (put sort same r) (next xs i d l) ∙ put_joined sort same r (get_or xs i d) both (drop (i + 1) xs) j;
  stops = stops_on sort same widens r (get_or xs i d) both (drop (i + 1) xs) (subst (Chained sort) (next xs i d l) (chained_drop sort i xs h)) j;
}

pub stays : {R V : Type 0} (sort : Sort R) (same : V → V → Bool) (r : R × V) (xs : List (R × V)) (i : ℕ) (d : R × V) → i < length xs → Stops sort same r (drop i xs) → joined sort same (get_or xs i d) r ≡ None → put sort same r (drop i xs) ≡ r ∷ drop i xs
stays sort same r xs i d l s j =
    let before : Stops sort same r (get_or xs i d ∷ drop (i + 1) xs) = subst (Stops sort same r) (next xs i d l) s in
    ap (put sort same r) (next xs i d l) ∙ (put_here sort same r (get_or xs i d) (drop (i + 1) xs) j (before j) ∙ ap (λ ys. r ∷ ys) (sym (next xs i d l)))

pub stays_end : {R V : Type 0} (sort : Sort R) (same : V → V → Bool) (r : R × V) (xs : List (R × V)) (i : ℕ) → length xs ≤ i → put sort same r (drop i xs) ≡ r ∷ drop i xs
stays_end sort same r [] zero l = refl
stays_end sort same r [] (suc i) l = refl
stays_end sort same r (x ∷ xs) zero l = absurd (omega (arith, l))
stays_end sort same r (x ∷ xs) (suc i) l = stays_end sort same r xs i (omega (arith, l))

-- A row is put behind those that are clear.
pub put_cut : {R V : Type 0} (sort : Sort R) (same : V → V → Bool) (r : R × V) (xs : List (R × V)) (i : ℕ) → AllClear sort same r (take i xs) → put sort same r xs ≡ take i xs ++ put sort same r (drop i xs)
put_cut sort same r xs i h = ap (put sort same r) (sym (take-append-drop i xs)) ∙ put_behind sort same r (take i xs) (drop i xs) h

-- What a run that is cut out leaves of rows before it and behind it.
pub less_not : (a b : ℕ) → b ≤ a → nat_lt a b ≡ false
less_not a b l = grind (arith, nat_tests)

max_left : (a b : ℕ) → b ≤ a → max a b ≡ a
max_left a b l = omega (arith, l)

min_left : (a b : ℕ) → a ≤ b → min a b ≡ a
min_left a b l = omega (arith, l)

pub record Ends {R : Type 0} (sort : Sort R) (a b : R) : Type 0 where
  pub full_a : sort.lo a < sort.hi a
  pub full_b : sort.lo b < sort.hi b
  pub by : (list_before (sort.line a) (sort.line b) ≡ true) ⊎ ((sort.line a ≡ sort.line b) × (sort.hi a ≤ sort.lo b))

pub ends_from : {R : Type 0} (sort : Sort R) (a b : R) → ends_before sort a b ≡ true → Ends sort a b
ends_from sort a b e =
    let all : ((nat_lt (sort.lo a) (sort.hi a) && nat_lt (sort.lo b) (sort.hi b)) ≡ true) × ((list_before (sort.line a) (sort.line b) || (list_eq (sort.line a) (sort.line b) && nat_le (sort.hi a) (sort.lo b))) ≡ true) = and_parts (nat_lt (sort.lo a) (sort.hi a) && nat_lt (sort.lo b) (sort.hi b)) (list_before (sort.line a) (sort.line b) || (list_eq (sort.line a) (sort.line b) && nat_le (sort.hi a) (sort.lo b))) e in
    let full : (nat_lt (sort.lo a) (sort.hi a) ≡ true) × (nat_lt (sort.lo b) (sort.hi b) ≡ true) = and_parts (nat_lt (sort.lo a) (sort.hi a)) (nat_lt (sort.lo b) (sort.hi b)) all.0 in
    record { full_a = ltb-true (sort.lo a) (sort.hi a) full.0; full_b = ltb-true (sort.lo b) (sort.hi b) full.1; by = by_case (or_cases (list_before (sort.line a) (sort.line b)) (list_eq (sort.line a) (sort.line b) && nat_le (sort.hi a) (sort.lo b)) all.1) }
  where
    by_case : (list_before (sort.line a) (sort.line b) ≡ true) ⊎ ((list_eq (sort.line a) (sort.line b) && nat_le (sort.hi a) (sort.lo b)) ≡ true) → (list_before (sort.line a) (sort.line b) ≡ true) ⊎ ((sort.line a ≡ sort.line b) × (sort.hi a ≤ sort.lo b))
    by_case (inl h) = inl h
    by_case (inr h) = let tests : (list_eq (sort.line a) (sort.line b) ≡ true) × (nat_le (sort.hi a) (sort.lo b) ≡ true) = and_parts (list_eq (sort.line a) (sort.line b)) (nat_le (sort.hi a) (sort.lo b)) h in inr (list_eq_true (sort.line a) (sort.line b) tests.0, leb-true (sort.hi a) (sort.lo b) tests.1)

-- Another line, before or behind.
pub other_line : (xs ys : List ℕ) → list_before xs ys ≡ true → list_eq ys xs ≡ false
other_line xs ys h = by_test (list_eq ys xs) refl
  where
    by_test : (b : Bool) → list_eq ys xs ≡ b → b ≡ false
    by_test true e = absurd (before_not_self xs (ap (list_before xs) (sym (list_eq_true ys xs e)) ∙ h))
    by_test false e = refl

pub this_line : (xs ys : List ℕ) → list_before xs ys ≡ true → list_eq xs ys ≡ false
this_line xs ys h = by_test (list_eq xs ys) refl
  where
    by_test : (b : Bool) → list_eq xs ys ≡ b → b ≡ false
    by_test true e = absurd (before_not_self xs (ap (list_before xs) (list_eq_true xs ys e) ∙ h))
    by_test false e = refl

row_before : {R V : Type 0} (sort : Sort R) → Whole sort → (r : R) (x : R × V) → ends_before sort x.0 r ≡ true → cut_row sort r x ≡ x ∷ []
row_before {R} {V} sort whole r x e = by_case (ends_from sort x.0 r e).by
  where
    ends : Ends sort x.0 r
    ends = ends_from sort x.0 r e

    by_case : (list_before (sort.line x.0) (sort.line r) ≡ true) ⊎ ((sort.line x.0 ≡ sort.line r) × (sort.hi x.0 ≤ sort.lo r)) → cut_row sort r x ≡ x ∷ []
    by_case (inl h) = ap (λ (b : Bool). if b then left_of sort r x ++ right_of sort r x else x ∷ []) (other_line (sort.line x.0) (sort.line r) h)
    by_case (inr h) =
        let below : sort.lo x.0 < sort.lo r = omega (arith, ends.full_a, h.1) in
        let left : left_of sort r x ≡ x ∷ [] = ap₂ (λ (b : Bool) (run : R). if b then (run, x.1) ∷ [] else []) (lt-ltb (sort.lo x.0) (sort.lo r) below) (ap (sort.widen x.0 (sort.lo x.0)) (min_left (sort.hi x.0) (sort.lo r) h.1) ∙ whole x.0) in
        let right : right_of sort r x ≡ [] = ap (λ (b : Bool). if b then (sort.widen x.0 (max (sort.lo x.0) (sort.hi r)) (sort.hi x.0), x.1) ∷ [] else []) (less_not (sort.hi r) (sort.hi x.0) (omega (arith, ends.full_b, h.1))) in
        ap (λ (b : Bool). if b then left_of sort r x ++ right_of sort r x else x ∷ []) (ap (list_eq (sort.line r)) h.0 ∙ list_eq_refl (sort.line r)) ∙ ap₂ (λ (xs ys : List (R × V)). xs ++ ys) left right

row_behind : {R V : Type 0} (sort : Sort R) → Whole sort → (r : R) (x : R × V) → ends_before sort r x.0 ≡ true → cut_row sort r x ≡ x ∷ []
row_behind {R} {V} sort whole r x e = by_case (ends_from sort r x.0 e).by
  where
    ends : Ends sort r x.0
    ends = ends_from sort r x.0 e

    by_case : (list_before (sort.line r) (sort.line x.0) ≡ true) ⊎ ((sort.line r ≡ sort.line x.0) × (sort.hi r ≤ sort.lo x.0)) → cut_row sort r x ≡ x ∷ []
    by_case (inl h) = ap (λ (b : Bool). if b then left_of sort r x ++ right_of sort r x else x ∷ []) (this_line (sort.line r) (sort.line x.0) h)
    by_case (inr h) =
        let left : left_of sort r x ≡ [] = ap (λ (b : Bool). if b then (sort.widen x.0 (sort.lo x.0) (min (sort.hi x.0) (sort.lo r)), x.1) ∷ [] else []) (less_not (sort.lo x.0) (sort.lo r) (omega (arith, ends.full_a, h.1))) in
        let above : sort.hi r < sort.hi x.0 = omega (arith, ends.full_b, h.1) in
        let right : right_of sort r x ≡ x ∷ [] = ap₂ (λ (b : Bool) (run : R). if b then (run, x.1) ∷ [] else []) (lt-ltb (sort.hi r) (sort.hi x.0) above) (ap (λ n. sort.widen x.0 n (sort.hi x.0)) (max_left (sort.lo x.0) (sort.hi r) h.1) ∙ whole x.0) in
        ap (λ (b : Bool). if b then left_of sort r x ++ right_of sort r x else x ∷ []) (ap (list_eq (sort.line r)) (sym h.0) ∙ list_eq_refl (sort.line r)) ∙ ap₂ (λ (xs ys : List (R × V)). xs ++ ys) left right

cut_before : {R V : Type 0} (sort : Sort R) → Whole sort → (r : R) (front back : List (R × V)) → AllBefore sort r front → cut sort r (front ++ back) ≡ front ++ cut sort r back
cut_before sort whole r [] back h = refl
cut_before {R} {V} sort whole r (x ∷ xs) back h = ap₂ (λ (ys zs : List (R × V)). ys ++ zs) (row_before sort whole r x h.0) (cut_before sort whole r xs back h.1)

cut_behind : {R V : Type 0} (sort : Sort R) → Whole sort → (r : R) (back : List (R × V)) → AllBehind sort r back → cut sort r back ≡ back
cut_behind sort whole r [] h = refl
cut_behind {R} {V} sort whole r (x ∷ xs) h = ap₂ (λ (ys zs : List (R × V)). ys ++ zs) (row_behind sort whole r x h.0) (cut_behind sort whole r xs h.1)

pub cut_from : {R V : Type 0} (sort : Sort R) → Whole sort → (r : R) (xs : List (R × V)) (i : ℕ) → AllBefore sort r (take i xs) → take i xs ++ cut sort r (drop i xs) ≡ cut sort r xs
cut_from sort whole r xs i h = sym (cut_before sort whole r (take i xs) (drop i xs) h) ∙ ap (cut sort r) (take-append-drop i xs)

all_behind : {R V : Type 0} (sort : Sort R) (r : R) (x : R × V) (xs : List (R × V)) → ends_before sort r x.0 ≡ true → EachRow (λ y. ends_before sort x.0 y.0 ≡ true) xs → AllBehind sort r xs
all_behind sort r x [] e h = tt
all_behind sort r x (y ∷ ys) e h = (ends_trans sort r x.0 y.0 e h.0, all_behind sort r x ys e h.1)

pub cut_ends : {R V : Type 0} (sort : Sort R) → Whole sort → (r : R) (xs : List (R × V)) (i : ℕ) (d : R × V) → Chained sort (drop i xs) → i < length xs → ends_before sort r (get_or xs i d).0 ≡ true → cut sort r (drop i xs) ≡ drop i xs
cut_ends sort whole r xs i d h l e =
    let chained : Chained sort (get_or xs i d ∷ drop (i + 1) xs) = subst (Chained sort) (next xs i d l) h in
    ap (cut sort r) (next xs i d l) ∙ (cut_behind sort whole r (get_or xs i d ∷ drop (i + 1) xs) (e, all_behind sort r (get_or xs i d) (drop (i + 1) xs) e chained.0) ∙ sym (next xs i d l))

pub clear_ends : {R V : Type 0} (sort : Sort R) (same : V → V → Bool) (r : R × V) (xs : List (R × V)) → AllClear sort same r xs → AllBefore sort r.0 xs
clear_ends sort same r [] h = tt
clear_ends sort same r (x ∷ xs) h = ((and_parts (ends_before sort x.0 r.0) (not (same x.1 r.1 && meet sort x.0 r.0)) h.0).0, clear_ends sort same r xs h.1)

-- A row behind which a run ends short.
pub pieces_are : {R V : Type 0} (sort : Sort R) (r : R) (x : R × V) → list_eq (sort.line r) (sort.line x.0) ≡ true → some_row (left_run sort x.0 r) x.1 ++ some_row (right_run sort x.0 r) x.1 ≡ cut_row sort r x
pieces_are {R} {V} sort r x e = by_tests (nat_lt (sort.lo x.0) (sort.lo r)) (nat_lt (sort.hi r) (sort.hi x.0)) ∙ sym (ap (λ (b : Bool). if b then left_of sort r x ++ right_of sort r x else x ∷ []) e)
  where
    by_tests : (b c : Bool) → some_row (if b then Some (sort.widen x.0 (sort.lo x.0) (min (sort.hi x.0) (sort.lo r))) else None) x.1 ++ some_row (if c then Some (sort.widen x.0 (max (sort.lo x.0) (sort.hi r)) (sort.hi x.0)) else None) x.1 ≡ (if b then (sort.widen x.0 (sort.lo x.0) (min (sort.hi x.0) (sort.lo r)), x.1) ∷ [] else []) ++ (if c then (sort.widen x.0 (max (sort.lo x.0) (sort.hi r)) (sort.hi x.0), x.1) ∷ [] else [])
    by_tests true true = refl
    by_tests true false = refl
    by_tests false true = refl
    by_tests false false = refl

reaches : {R V : Type 0} (sort : Sort R) (r : R) (x : R × V) → 1 < length (cut_row sort r x) → (list_eq (sort.line r) (sort.line x.0) ≡ true) × (nat_lt (sort.hi r) (sort.hi x.0) ≡ true)
reaches {R} {V} sort r x = by_tests (list_eq (sort.line r) (sort.line x.0)) (nat_lt (sort.lo x.0) (sort.lo r)) (nat_lt (sort.hi r) (sort.hi x.0))
  where
    by_tests : (a b c : Bool) → 1 < length (if a then (if b then (sort.widen x.0 (sort.lo x.0) (min (sort.hi x.0) (sort.lo r)), x.1) ∷ [] else []) ++ (if c then (sort.widen x.0 (max (sort.lo x.0) (sort.hi r)) (sort.hi x.0), x.1) ∷ [] else []) else x ∷ []) → (a ≡ true) × (c ≡ true)
    by_tests true b true l = (refl, refl)
    by_tests true true false l = absurd (omega (arith, l))
    by_tests true false false l = absurd (omega (arith, l))
    by_tests false b c l = absurd (omega (arith, l))

behind_it : {R V : Type 0} (sort : Sort R) (r : R) (x y : R × V) → sort.lo r < sort.hi r → sort.line r ≡ sort.line x.0 → sort.hi r < sort.hi x.0 → ends_before sort x.0 y.0 ≡ true → ends_before sort r y.0 ≡ true
behind_it {R} {V} sort r x y full line less e = and_from (nat_lt (sort.lo r) (sort.hi r) && nat_lt (sort.lo y.0) (sort.hi y.0)) (list_before (sort.line r) (sort.line y.0) || (list_eq (sort.line r) (sort.line y.0) && nat_le (sort.hi r) (sort.lo y.0))) (and_from (nat_lt (sort.lo r) (sort.hi r)) (nat_lt (sort.lo y.0) (sort.hi y.0)) (lt-ltb (sort.lo r) (sort.hi r) full) (lt-ltb (sort.lo y.0) (sort.hi y.0) ends.full_b)) (by_case ends.by)
  where
    ends : Ends sort x.0 y.0
    ends = ends_from sort x.0 y.0 e

    by_case : (list_before (sort.line x.0) (sort.line y.0) ≡ true) ⊎ ((sort.line x.0 ≡ sort.line y.0) × (sort.hi x.0 ≤ sort.lo y.0)) → (list_before (sort.line r) (sort.line y.0) || (list_eq (sort.line r) (sort.line y.0) && nat_le (sort.hi r) (sort.lo y.0))) ≡ true
    by_case (inl h) = or_left (list_before (sort.line r) (sort.line y.0)) (list_eq (sort.line r) (sort.line y.0) && nat_le (sort.hi r) (sort.lo y.0)) (ap (λ l. list_before l (sort.line y.0)) line ∙ h)
    by_case (inr h) = or_right (list_before (sort.line r) (sort.line y.0)) (list_eq (sort.line r) (sort.line y.0) && nat_le (sort.hi r) (sort.lo y.0)) (and_from (list_eq (sort.line r) (sort.line y.0)) (nat_le (sort.hi r) (sort.lo y.0)) (ap (list_eq (sort.line r)) (sym (line ∙ h.0)) ∙ list_eq_refl (sort.line r)) (le-leb (sort.hi r) (sort.lo y.0) (omega (arith, h.1, less))))

all_beyond : {R V : Type 0} (sort : Sort R) (r : R) (x : R × V) (xs : List (R × V)) → sort.lo r < sort.hi r → sort.line r ≡ sort.line x.0 → sort.hi r < sort.hi x.0 → EachRow (λ y. ends_before sort x.0 y.0 ≡ true) xs → AllBehind sort r xs
all_beyond sort r x [] full line less h = tt
all_beyond sort r x (y ∷ ys) full line less h = (behind_it sort r x y full line less h.0, all_beyond sort r x ys full line less h.1)

-- One row after another is cut.
pub record CutsOn {R V : Type 0} (sort : Sort R) (r : R) (xs later : List (R × V)) (i n : ℕ) : Type 0 where
  pub is : take (i + n) later ++ cut sort r (drop (i + n) later) ≡ take i xs ++ cut sort r (drop i xs)
  pub chained : Chained sort (drop (i + n) later)
  pub len : length later + 1 ≡ length xs + n
  pub ended : 1 < n → later ≡ take i xs ++ cut sort r (drop i xs)

pub cuts_on : {R V : Type 0} (sort : Sort R) → Whole sort → (r : R) (xs later : List (R × V)) (i n : ℕ) (d : R × V) → sort.lo r < sort.hi r → Chained sort (drop i xs) → i < length xs → later ≡ take i xs ++ (cut_row sort r (get_or xs i d) ++ drop (i + 1) xs) → n ≡ length (cut_row sort r (get_or xs i d)) → CutsOn sort r xs later i n
cuts_on {R} {V} sort whole r xs later i n d full h l is len = record {
  is = ap₂ (λ (ys zs : List (R × V)). ys ++ cut sort r zs) (ap (take (i + n)) split ∙ take_at (take i xs ++ pieces) rest (i + n) long) (ap (drop (i + n)) split ∙ drop_at (take i xs ++ pieces) rest (i + n) long) ∙ (append_assoc (take i xs) pieces (cut sort r rest) ∙ ap (λ ys. take i xs ++ ys) (sym on));
  chained = subst (Chained sort) (sym (ap (drop (i + n)) split ∙ drop_at (take i xs ++ pieces) rest (i + n) long)) chained.1;
  len =
      let all : length later ≡ length (take i xs) + (length pieces + length rest) = ap length is ∙ (length-append (take i xs) (pieces ++ rest) ∙ ap (λ m. length (take i xs) + m) (length-append pieces rest)) in
      let taken : length (take i xs) ≡ i = length-take-le i xs (omega (arith, l)) in
      let more : length xs ≡ length (take i xs) + length (drop i xs) = ap length (sym (take-append-drop i xs)) ∙ length-append (take i xs) (drop i xs) in
      let one : length (drop i xs) ≡ suc (length rest) = ap length (next xs i d l) in
      omega (arith, all, taken, more, one, len);
  ended = λ two. is ∙ ap (λ ys. take i xs ++ ys) (ap (λ ys. pieces ++ ys) (sym (beyond (subst (λ m. 1 < m) len two))) ∙ sym on);
}
  where
    pieces : List (R × V)
    pieces = cut_row sort r (get_or xs i d)

    rest : List (R × V)
    rest = drop (i + 1) xs

    split : later ≡ (take i xs ++ pieces) ++ rest
    split = is ∙ sym (append_assoc (take i xs) pieces rest)

    long : length (take i xs ++ pieces) ≡ i + n
    long = length-append (take i xs) pieces ∙ ap₂ (λ (a b : ℕ). a + b) (length-take-le i xs (omega (arith, l))) (sym len)

    chained : Chained sort (get_or xs i d ∷ rest)
    chained = subst (Chained sort) (next xs i d l) h

    on : cut sort r (drop i xs) ≡ pieces ++ cut sort r rest
    on = ap (cut sort r) (next xs i d l)

    beyond : 1 < length pieces → cut sort r rest ≡ rest
    beyond two = cut_behind sort whole r rest (all_beyond sort r (get_or xs i d) rest full (list_eq_true (sort.line r) (sort.line (get_or xs i d).0) (reaches sort r (get_or xs i d) two).0) (ltb-true (sort.hi r) (sort.hi (get_or xs i d).0) (reaches sort r (get_or xs i d) two).1) chained.0)

-- Rows in printed form are chained.
after_ends : {R V : Type 0} (sort : Sort R) (x y : R × V) → sort.lo x.0 < sort.hi x.0 → sort.lo y.0 < sort.hi y.0 → After sort x y → ends_before sort x.0 y.0 ≡ true
after_ends {R} {V} sort x y full_x full_y h = and_from (nat_lt (sort.lo x.0) (sort.hi x.0) && nat_lt (sort.lo y.0) (sort.hi y.0)) (list_before (sort.line x.0) (sort.line y.0) || (list_eq (sort.line x.0) (sort.line y.0) && nat_le (sort.hi x.0) (sort.lo y.0))) (and_from (nat_lt (sort.lo x.0) (sort.hi x.0)) (nat_lt (sort.lo y.0) (sort.hi y.0)) (lt-ltb (sort.lo x.0) (sort.hi x.0) full_x) (lt-ltb (sort.lo y.0) (sort.hi y.0) full_y)) (by_case h)
  where
    reach : (sort.hi x.0 < sort.lo y.0) ⊎ ((sort.hi x.0 ≡ sort.lo y.0) × (x.1 ≡ y.1 → ⊥)) → sort.hi x.0 ≤ sort.lo y.0
    reach (inl l) = omega (arith, l)
    reach (inr k) = omega (arith, k.0)

    by_case : After sort x y → (list_before (sort.line x.0) (sort.line y.0) || (list_eq (sort.line x.0) (sort.line y.0) && nat_le (sort.hi x.0) (sort.lo y.0))) ≡ true
    by_case (inl b) = or_left (list_before (sort.line x.0) (sort.line y.0)) (list_eq (sort.line x.0) (sort.line y.0) && nat_le (sort.hi x.0) (sort.lo y.0)) b
    by_case (inr k) = or_right (list_before (sort.line x.0) (sort.line y.0)) (list_eq (sort.line x.0) (sort.line y.0) && nat_le (sort.hi x.0) (sort.lo y.0)) (and_from (list_eq (sort.line x.0) (sort.line y.0)) (nat_le (sort.hi x.0) (sort.lo y.0)) (ap (list_eq (sort.line x.0)) (sym k.0) ∙ list_eq_refl (sort.line x.0)) (le-leb (sort.hi x.0) (sort.lo y.0) (reach k.1)))

all_after : {R V : Type 0} (sort : Sort R) (x : R × V) (ys : List (R × V)) → sort.lo x.0 < sort.hi x.0 → EachRow (After sort x) ys → Apart sort ys → EachRow (λ y. ends_before sort x.0 y.0 ≡ true) ys
all_after sort x [] full h a = tt
all_after sort x (y ∷ ys) full h a = (after_ends sort x y full a.0 h.0, all_after sort x ys full h.1 a.2)

pub apart_chained : {R V : Type 0} (sort : Sort R) (rows : List (R × V)) → Apart sort rows → Chained sort rows
apart_chained sort [] a = tt
apart_chained sort (x ∷ xs) a = (all_after sort x xs a.0 a.1 a.2, apart_chained sort xs a.2)

pub cut_chained : {R V : Type 0} (sort : Sort R) → Clips sort → (r : R) (rows : List (R × V)) → sort.lo r < sort.hi r → Apart sort rows → Chained sort (cut sort r rows)
cut_chained sort clips r rows full a = apart_chained sort (cut sort r rows) (cut_apart sort clips r rows full a)

-- One row in place of some.
pub set_over : {T : Type 0} (xs : List T) (i n : ℕ) (y : T) → i < n → n ≤ length xs → take (i + 1) (slice_set xs i y) ++ drop n (slice_set xs i y) ≡ take i xs ++ (y ∷ drop n xs)
set_over xs i n y l k = ap₂ (λ (ys zs : List _). ys ++ zs) (take_more_set xs i y (omega (arith, l, k))) (drop-set-lt n xs i y l) ∙ append_one (take i xs) y (drop n xs)

pub replaced : {T : Type 0} (xs set later : List T) (i n : ℕ) (y : T) → i < n → n ≤ length xs → set ≡ slice_set xs i y → take (i + 1) later ≡ take (i + 1) set → drop (i + 1) later ≡ drop n set → later ≡ take i xs ++ (y ∷ drop n xs)
replaced {T} xs set later i n y l k is a b = sym (take-append-drop (i + 1) later) ∙ (ap₂ (λ (ys zs : List T). ys ++ zs) (a ∙ ap (take (i + 1)) is) (b ∙ ap (drop n) is) ∙ set_over xs i n y l k)

-- The rows near a run.
end_before : {R V : Type 0} (sort : Sort R) (r : R) (xs : List (R × V)) (y : R × V) → Chained sort (xs ++ (y ∷ [])) → ends_before sort y.0 r ≡ true → AllBefore sort r (xs ++ (y ∷ []))
end_before sort r [] y h e = (e, tt)
end_before {R} {V} sort r (x ∷ xs) y h e = (ends_trans sort x.0 y.0 r (last xs h.0) e, end_before sort r xs y h.1 e)
  where
    last : (zs : List (R × V)) → EachRow (λ z. ends_before sort x.0 z.0 ≡ true) (zs ++ (y ∷ [])) → ends_before sort x.0 y.0 ≡ true
    last [] k = k.0
    last (z ∷ zs) k = last zs k.1

pub before_upto : {R V : Type 0} (sort : Sort R) (r : R) (xs : List (R × V)) (n : ℕ) (d : R × V) → Chained sort xs → 0 < n → n ≤ length xs → ends_before sort (get_or xs (n - 1) d).0 r ≡ true → AllBefore sort r (take n xs)
before_upto sort r xs n d h pos l e =
    let one : (n - 1) + 1 ≡ n = omega (arith, pos) in
    let at : take ((n - 1) + 1) xs ≡ take (n - 1) xs ++ (get_or xs (n - 1) d ∷ []) = take_more xs (n - 1) d (omega (arith, pos, l)) in
    subst (λ m. AllBefore sort r (take m xs)) one (subst (AllBefore sort r) (sym at) (end_before sort r (take (n - 1) xs) (get_or xs (n - 1) d) (subst (Chained sort) at (chained_take sort ((n - 1) + 1) xs h)) e))

pub behind_at : {R V : Type 0} (sort : Sort R) (r : R) (xs : List (R × V)) (i : ℕ) (d : R × V) → Chained sort xs → i < length xs → ends_before sort r (get_or xs i d).0 ≡ true → AllBehind sort r (drop i xs)
behind_at sort r xs i d h l e =
    let chained : Chained sort (get_or xs i d ∷ drop (i + 1) xs) = subst (Chained sort) (next xs i d l) (chained_drop sort i xs h) in
    subst (AllBehind sort r) (sym (next xs i d l)) (e, all_behind sort r (get_or xs i d) (drop (i + 1) xs) e chained.0)

pub behind_end : {R V : Type 0} (sort : Sort R) (r : R) (xs : List (R × V)) (i : ℕ) → length xs ≤ i → AllBehind sort r (drop i xs)
behind_end sort r xs i l = subst (AllBehind sort r) (sym (drop_all i xs l)) tt

pub near_at : {R V : Type 0} (sort : Sort R) (r : R) (xs mid : List (R × V)) (i n : ℕ) → i ≤ n → AllBefore sort r (take i xs) → AllBehind sort r (drop n xs) → mid ≡ take (n - i) (drop i xs) → IsNear sort r xs mid
near_at {R} {V} sort r xs mid i n l b k e = record {
  front = take i xs;
  back = drop n xs;
  is = sym (take-append-drop i xs) ∙ ap (λ (ys : List (R × V)). take i xs ++ ys) (sym (ap (λ (ys : List (R × V)). ys ++ drop n xs) e ∙ (ap (λ (ys : List (R × V)). take (n - i) (drop i xs) ++ ys) (same_rest ∙ sym (drop-drop (n - i) i xs)) ∙ take-append-drop (n - i) (drop i xs))));
  before = b;
  behind = k;
}
  where
    same_rest : drop n xs ≡ drop (i + (n - i)) xs
    same_rest = let upto : n ≡ i + (n - i) = omega (arith, l) in ap (λ m. drop m xs) upto

pub opened : {T : Type 0} (xs mid later : List T) (i : ℕ) (y : T) → i < length mid → take i mid ≡ take i xs → drop (i + 1) mid ≡ drop i xs → later ≡ slice_set mid i y → later ≡ take i xs ++ (y ∷ drop i xs)
opened {T} xs mid later i y l a b is = is ∙ (set_split mid i y l ∙ ap₂ (λ (ys zs : List T). ys ++ (y ∷ zs)) a (ap (λ n. drop n mid) (sym (add-one i)) ∙ b))
