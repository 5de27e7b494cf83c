-- Rows in the order of their objects, and those of some objects among them.
use Rattle.std.proofs.Common.{◌≡◌, ℕ, zero, suc, ◌+◌, ◌-◌, ◌<◌, ◌≤◌, List, [], ◌∷◌, ◌++◌, map, length, get_or, take, drop, Bool, true, false, not, ◌||◌, ◌==◌, cond, refl, ap, ap₂, sym, ◌∙◌, ◌⊎◌, inl, inr, arith, if◌then◌else◌, true≢false, nat_le, nat_lt, eqb-true, eq-eqb, subst, length-append, append-nil, append_assoc}
use Rattle.std.specs.List.{filter, AllPairs, Contains}
use Rattle.std.specs.List.Sorted.{IsNonDecreasingBy, IsPartitionPoint}
use Rattle.std.proofs.lemmas.Bool.{cases_order, lt-ltb, ltb-true}
use Rattle.std.proofs.lemmas.Bool.Decides.{nat_tests}
use Rattle.std.proofs.lemmas.List.{take_at, drop_at}
use Rattle.std.proofs.lemmas.List.Elements.{filter-append}
use Rattle.std.proofs.lemmas.List.Filters.{length-filter_both}
use Rattle.wg_rows.specs.Rows.{EachRow}
use Rattle.wg_cbtrack.specs.Owners.{among, rows_of, rows_below, rows_above, rows_among, Ordered, Rising, AreExchanged}

pub less_no : (a b : ℕ) → b ≤ a → nat_lt a b ≡ false
less_no a b l = grind (arith, nat_tests)

most_yes : (a b : ℕ) → a ≤ b → nat_le a b ≡ true
most_yes a b l = grind (arith, nat_tests)

most_no : (a b : ℕ) → b < a → nat_le a b ≡ false
most_no a b l = grind (arith, nat_tests)

pub same_no : (a b : ℕ) → a < b → (a == b) ≡ false
same_no a b l = grind (arith, nat_tests)

pub same_not : (a b : ℕ) → b < a → (a == b) ≡ false
same_not a b l = grind (arith, nat_tests)

-- What a filter keeps.
pub kept : {T : Type 0} (p : T → Bool) (x : T) (xs : List T) → p x ≡ true → filter p (x ∷ xs) ≡ x ∷ filter p xs
kept p x xs e = ap (λ b. cond b (x ∷ filter p xs) (filter p xs)) e

pub dropped : {T : Type 0} (p : T → Bool) (x : T) (xs : List T) → p x ≡ false → filter p (x ∷ xs) ≡ filter p xs
dropped p x xs e = ap (λ b. cond b (x ∷ filter p xs) (filter p xs)) e

pub each_filter : {T : Type 0} (P : T → Type 0) (p : T → Bool) (xs : List T) → EachRow P xs → EachRow P (filter p xs)
each_filter P p [] h = tt
each_filter {T} P p (x ∷ xs) h = by_test (p x) (each_filter P p xs h.1)
  where
    by_test : (b : Bool) → EachRow P (filter p xs) → EachRow P (cond b (x ∷ filter p xs) (filter p xs))
    by_test true rest = (h.0, rest)
    by_test false rest = rest

pub each_kept : {T : Type 0} (p : T → Bool) (xs : List T) → EachRow (λ x. p x ≡ true) (filter p xs)
each_kept p [] = tt
each_kept {T} p (x ∷ xs) = by_test (p x) refl (each_kept p xs)
  where
    by_test : (b : Bool) → p x ≡ b → EachRow (λ x. p x ≡ true) (filter p xs) → EachRow (λ x. p x ≡ true) (cond b (x ∷ filter p xs) (filter p xs))
    by_test true e rest = (e, rest)
    by_test false e rest = rest

pub none_kept : {T : Type 0} (p : T → Bool) (xs : List T) → EachRow (λ x. p x ≡ false) xs → filter p xs ≡ []
none_kept p [] h = refl
none_kept p (x ∷ xs) h = dropped p x xs h.0 ∙ none_kept p xs h.1

pub each_map : {T : Type 0} (P Q : T → Type 0) → ((x : T) → P x → Q x) → (xs : List T) → EachRow P xs → EachRow Q xs
each_map P Q f [] h = tt
each_map P Q f (x ∷ xs) h = (f x h.0, each_map P Q f xs h.1)

pub each_append : {T : Type 0} (P : T → Type 0) (xs ys : List T) → EachRow P xs → EachRow P ys → EachRow P (xs ++ ys)
each_append P [] ys h k = k
each_append P (x ∷ xs) ys h k = (h.0, each_append P xs ys h.1 k)

pub each_at : {T : Type 0} (P : T → Type 0) (xs : List T) (k : ℕ) (d : T) → k < length xs → EachRow P xs → P (get_or xs k d)
each_at P [] k d l h = absurd (omega arith)
each_at P (x ∷ xs) zero d l h = h.0
each_at P (x ∷ xs) (suc k) d l h = each_at P xs k d (omega arith) h.1

pub filter_within : {T : Type 0} (p q : T → Bool) → ((x : T) → p x ≡ true → q x ≡ true) → (xs : List T) → filter p (filter q xs) ≡ filter p xs
filter_within p q f [] = refl
filter_within {T} p q f (x ∷ xs) = by_tests (p x) (q x) refl refl (filter_within p q f xs)
  where
    by_tests : (a b : Bool) → p x ≡ a → q x ≡ b → filter p (filter q xs) ≡ filter p xs → filter p (filter q (x ∷ xs)) ≡ filter p (x ∷ xs)
    by_tests a true e g h = ap (filter p) (kept q x xs g) ∙ ap (λ ys. cond (p x) (x ∷ ys) ys) h
    by_tests true false e g h = absurd (true≢false (sym (f x e) ∙ g))
    by_tests false false e g h = ap (filter p) (dropped q x xs g) ∙ (h ∙ sym (dropped p x xs e))

pub filter_apart : {T : Type 0} (p q : T → Bool) → ((x : T) → q x ≡ true → p x ≡ false) → (xs : List T) → filter p (filter q xs) ≡ []
filter_apart p q f xs = none_kept p (filter q xs) (each_map (λ x. q x ≡ true) (λ x. p x ≡ false) f (filter q xs) (each_kept q xs))

-- Rows in order.
pub ordered_filter : {T : Type 0} (object : T → ℕ) (p : T → Bool) (xs : List T) → Ordered object xs → Ordered object (filter p xs)
ordered_filter object p [] h = tt
ordered_filter {T} object p (x ∷ xs) h = by_test (p x) (ordered_filter object p xs h.1)
  where
    by_test : (b : Bool) → Ordered object (filter p xs) → Ordered object (cond b (x ∷ filter p xs) (filter p xs))
    by_test true rest = (each_filter (λ y. object x ≤ object y) p xs h.0, rest)
    by_test false rest = rest

ordered_append : {T : Type 0} (object : T → ℕ) (o : ℕ) (xs ys : List T) → Ordered object xs → Ordered object ys → EachRow (λ x. object x ≤ o) xs → EachRow (λ y. o ≤ object y) ys → Ordered object (xs ++ ys)
ordered_append object o [] ys h k a b = k
ordered_append object o (x ∷ xs) ys h k a b = (each_append (λ y. object x ≤ object y) xs ys h.0 (each_map (λ y. o ≤ object y) (λ y. object x ≤ object y) (λ y l. let most : object x ≤ o = a.0 in omega arith) ys b), ordered_append object o xs ys h.1 k a.1 b)

pub never_falls : {T : Type 0} (object : T → ℕ) (xs : List T) → Ordered object xs → IsNonDecreasingBy object xs
never_falls object [] h i j d l k = absurd (omega arith)
never_falls object (x ∷ xs) h zero zero d l k = omega arith
never_falls object (x ∷ xs) h zero (suc j) d l k = each_at (λ y. object x ≤ object y) xs j d (omega arith) h.0
never_falls object (x ∷ xs) h (suc i) zero d l k = absurd (omega arith)
never_falls object (x ∷ xs) h (suc i) (suc j) d l k = never_falls object xs h.1 i j d (omega arith) (omega arith)

-- Where a test turns false, as many rows pass.
pub point_is : {T : Type 0} (p : T → Bool) (xs : List T) (i : ℕ) → i ≤ length xs → IsPartitionPoint (λ y. p y ≡ true) (λ y. p y ≡ false) xs i → i ≡ length (filter p xs)
point_is p [] i l h = omega arith
point_is p (x ∷ xs) zero l h = point_is p xs zero (omega arith) (λ k d a b. absurd (omega arith), λ k d a b. h.1 (suc k) d (omega arith) (omega arith)) ∙ ap length (sym (dropped p x xs (h.1 zero x (omega arith) (omega arith))))
point_is p (x ∷ xs) (suc i) l h = ap suc (point_is p xs i (omega arith) (λ k d a b. h.0 (suc k) d (omega arith) (omega arith), λ k d a b. h.1 (suc k) d (omega arith) (omega arith))) ∙ ap length (sym (kept p x xs (h.0 zero x (omega arith) (omega arith))))

-- How many rows are of an object or of lesser ones.
pub upto_is : {T : Type 0} (object : T → ℕ) (o : ℕ) (xs : List T) → length (filter (λ x. nat_le (object x) o) xs) ≡ length (rows_below object o xs) + length (rows_of object o xs)
upto_is object o [] = refl
upto_is {T} object o (x ∷ xs) = by_order (cases_order (object x) o) (upto_is object o xs)
  where
    by_order : (object x ≡ o) ⊎ ((object x < o) ⊎ (o < object x)) → length (filter (λ x. nat_le (object x) o) xs) ≡ length (rows_below object o xs) + length (rows_of object o xs) → length (filter (λ x. nat_le (object x) o) (x ∷ xs)) ≡ length (rows_below object o (x ∷ xs)) + length (rows_of object o (x ∷ xs))
    by_order (inl e) h = ap length (kept (λ x. nat_le (object x) o) x xs (most_yes (object x) o (omega arith))) ∙ (omega (arith, h) ∙ sym (ap₂ (λ (a b : List T). length a + length b) (dropped (λ x. nat_lt (object x) o) x xs (less_no (object x) o (omega arith))) (kept (λ x. object x == o) x xs (eq-eqb (object x) o e))))
    by_order (inr (inl l)) h = ap length (kept (λ x. nat_le (object x) o) x xs (most_yes (object x) o (omega arith))) ∙ (omega (arith, h) ∙ sym (ap₂ (λ (a b : List T). length a + length b) (kept (λ x. nat_lt (object x) o) x xs (lt-ltb (object x) o l)) (dropped (λ x. object x == o) x xs (same_no (object x) o l))))
    by_order (inr (inr l)) h = ap length (dropped (λ x. nat_le (object x) o) x xs (most_no (object x) o l)) ∙ (h ∙ sym (ap₂ (λ (a b : List T). length a + length b) (dropped (λ x. nat_lt (object x) o) x xs (less_no (object x) o (omega arith))) (dropped (λ x. object x == o) x xs (same_not (object x) o l))))

-- Rows in order are those of lesser objects, those of an object and those of greater ones.
pub three : {T : Type 0} (object : T → ℕ) (o : ℕ) (xs : List T) → Ordered object xs → xs ≡ rows_below object o xs ++ (rows_of object o xs ++ rows_above object o xs)
three object o [] h = refl
three {T} object o (x ∷ xs) h = by_order (cases_order (object x) o) (three object o xs h.1)
  where
    all : List T → List T → List T → List T
    all a b c = a ++ (b ++ c)

    none_below : o ≤ object x → rows_below object o xs ≡ []
    none_below l = none_kept (λ x. nat_lt (object x) o) xs (each_map (λ y. object x ≤ object y) (λ y. nat_lt (object y) o ≡ false) (λ y k. less_no (object y) o (omega (arith, k, l))) xs h.0)

    none_of : o < object x → rows_of object o xs ≡ []
    none_of l = none_kept (λ x. object x == o) xs (each_map (λ y. object x ≤ object y) (λ y. (object y == o) ≡ false) (λ y k. same_not (object y) o (omega (arith, k, l))) xs h.0)

    by_order : (object x ≡ o) ⊎ ((object x < o) ⊎ (o < object x)) → xs ≡ rows_below object o xs ++ (rows_of object o xs ++ rows_above object o xs) → x ∷ xs ≡ rows_below object o (x ∷ xs) ++ (rows_of object o (x ∷ xs) ++ rows_above object o (x ∷ xs))
    by_order (inl e) k =
        ap (λ ys. x ∷ ys) (k ∙ ap (λ ys. ys ++ (rows_of object o xs ++ rows_above object o xs)) (none_below (omega arith)))
        ∙ ap (λ ys. ys ++ ((x ∷ rows_of object o xs) ++ rows_above object o xs)) (sym (dropped (λ x. nat_lt (object x) o) x xs (less_no (object x) o (omega arith)) ∙ none_below (omega arith)))
        ∙ ap₂ (λ b c. rows_below object o (x ∷ xs) ++ (b ++ c)) (sym (kept (λ x. object x == o) x xs (eq-eqb (object x) o e))) (sym (dropped (λ x. nat_lt o (object x)) x xs (less_no o (object x) (omega arith))))
    by_order (inr (inl l)) k =
        ap (λ ys. x ∷ ys) k
        ∙ ap (λ ys. ys ++ (rows_of object o xs ++ rows_above object o xs)) (sym (kept (λ x. nat_lt (object x) o) x xs (lt-ltb (object x) o l)))
        ∙ ap₂ (λ b c. rows_below object o (x ∷ xs) ++ (b ++ c)) (sym (dropped (λ x. object x == o) x xs (same_no (object x) o l))) (sym (dropped (λ x. nat_lt o (object x)) x xs (less_no o (object x) (omega arith))))
    by_order (inr (inr l)) k =
        ap (λ ys. x ∷ ys) (k ∙ ap₂ (λ a b. a ++ (b ++ rows_above object o xs)) (none_below (omega arith)) (none_of l))
        ∙ ap₂ (λ a b. a ++ (b ++ (x ∷ rows_above object o xs))) (sym (dropped (λ x. nat_lt (object x) o) x xs (less_no (object x) o (omega arith)) ∙ none_below (omega arith))) (sym (dropped (λ x. object x == o) x xs (same_not (object x) o l) ∙ none_of l))
        ∙ ap (λ c. rows_below object o (x ∷ xs) ++ (rows_of object o (x ∷ xs) ++ c)) (sym (kept (λ x. nat_lt o (object x)) x xs (lt-ltb o (object x) l)))

pub counts_are : {T : Type 0} (object : T → ℕ) (o : ℕ) (xs : List T) → Ordered object xs → length xs ≡ length (rows_below object o xs) + (length (rows_of object o xs) + length (rows_above object o xs))
counts_are object o xs h = ap length (three object o xs h) ∙ (length-append (rows_below object o xs) (rows_of object o xs ++ rows_above object o xs) ∙ ap (λ n. length (rows_below object o xs) + n) (length-append (rows_of object o xs) (rows_above object o xs)))

pub front_is : {T : Type 0} (object : T → ℕ) (o : ℕ) (xs : List T) (i : ℕ) → Ordered object xs → i ≡ length (rows_below object o xs) → take i xs ≡ rows_below object o xs
front_is object o xs i h e = ap (take i) (three object o xs h) ∙ take_at (rows_below object o xs) (rows_of object o xs ++ rows_above object o xs) i (sym e)

pub middle_is : {T : Type 0} (object : T → ℕ) (o : ℕ) (xs : List T) (i j : ℕ) → Ordered object xs → i ≡ length (rows_below object o xs) → j ≡ length (rows_below object o xs) + length (rows_of object o xs) → take (j - i) (drop i xs) ≡ rows_of object o xs
middle_is object o xs i j h e f = ap (λ ys. take (j - i) (drop i ys)) (three object o xs h) ∙ (ap (take (j - i)) (drop_at (rows_below object o xs) (rows_of object o xs ++ rows_above object o xs) i (sym e)) ∙ take_at (rows_of object o xs) (rows_above object o xs) (j - i) (omega (arith, e, f)))

pub back_is : {T : Type 0} (object : T → ℕ) (o : ℕ) (xs : List T) (j : ℕ) → Ordered object xs → j ≡ length (rows_below object o xs) + length (rows_of object o xs) → drop j xs ≡ rows_above object o xs
back_is object o xs j h f = ap (drop j) (three object o xs h ∙ sym (append_assoc (rows_below object o xs) (rows_of object o xs) (rows_above object o xs))) ∙ drop_at (rows_below object o xs ++ rows_of object o xs) (rows_above object o xs) j (length-append (rows_below object o xs) (rows_of object o xs) ∙ sym f)

-- The rows of objects, object by object.
abbrev pub picked : {T : Type 0} → (T → ℕ) → List ℕ → List T → List T
picked object [] rows = []
picked object (o ∷ os) rows = rows_of object o rows ++ picked object os rows

not_among : (os : List ℕ) (o n : ℕ) → n ≤ o → EachRow (λ p. o < p) os → among os n ≡ false
not_among [] o n l h = refl
not_among (p ∷ ps) o n l h = ap₂ ◌||◌ (same_no n p (let least : o < p = h.0 in omega arith)) (not_among ps o n l h.1)

among_first : {T : Type 0} (object : T → ℕ) (o : ℕ) (os : List ℕ) → EachRow (λ p. o < p) os → (xs : List T) → Ordered object xs → rows_among object (o ∷ os) xs ≡ rows_of object o xs ++ rows_among object os xs
among_first object o os h [] a = refl
among_first {T} object o os h (x ∷ xs) a = by_order (cases_order (object x) o) (among_first object o os h xs a.1)
  where
    none_of : o < object x → rows_of object o xs ≡ []
    none_of l = none_kept (λ x. object x == o) xs (each_map (λ y. object x ≤ object y) (λ y. (object y == o) ≡ false) (λ y k. same_not (object y) o (omega (arith, k, l))) xs a.0)

    by_rest : o < object x → (b : Bool) → among os (object x) ≡ b → rows_among object (o ∷ os) xs ≡ rows_of object o xs ++ rows_among object os xs → cond b (x ∷ rows_among object (o ∷ os) xs) (rows_among object (o ∷ os) xs) ≡ rows_of object o xs ++ cond b (x ∷ rows_among object os xs) (rows_among object os xs)
    by_rest l true e k = ap (λ ys. x ∷ ys) (k ∙ ap (λ ys. ys ++ rows_among object os xs) (none_of l)) ∙ ap (λ ys. ys ++ (x ∷ rows_among object os xs)) (sym (none_of l))
    by_rest l false e k = k

    by_order : (object x ≡ o) ⊎ ((object x < o) ⊎ (o < object x)) → rows_among object (o ∷ os) xs ≡ rows_of object o xs ++ rows_among object os xs → rows_among object (o ∷ os) (x ∷ xs) ≡ rows_of object o (x ∷ xs) ++ rows_among object os (x ∷ xs)
    by_order (inl e) k =
        kept (λ x. among (o ∷ os) (object x)) x xs (ap (λ b. b || among os (object x)) (eq-eqb (object x) o e))
        ∙ (ap (λ ys. x ∷ ys) k
        ∙ sym (ap₂ (λ a b. a ++ b) (kept (λ x. object x == o) x xs (eq-eqb (object x) o e)) (dropped (λ x. among os (object x)) x xs (not_among os o (object x) (omega arith) h))))
    by_order (inr (inl l)) k =
        dropped (λ x. among (o ∷ os) (object x)) x xs (ap₂ ◌||◌ (same_no (object x) o l) (not_among os o (object x) (omega arith) h))
        ∙ (k
        ∙ sym (ap₂ (λ a b. a ++ b) (dropped (λ x. object x == o) x xs (same_no (object x) o l)) (dropped (λ x. among os (object x)) x xs (not_among os o (object x) (omega arith) h))))
    by_order (inr (inr l)) k =
        ap (λ b. cond (b || among os (object x)) (x ∷ rows_among object (o ∷ os) xs) (rows_among object (o ∷ os) xs)) (same_not (object x) o l)
        ∙ (by_rest l (among os (object x)) refl k
        ∙ ap (λ ys. ys ++ rows_among object os (x ∷ xs)) (sym (dropped (λ x. object x == o) x xs (same_not (object x) o l))))

none_among : {T : Type 0} (object : T → ℕ) (xs : List T) → rows_among object [] xs ≡ []
none_among object [] = refl
none_among object (x ∷ xs) = none_among object xs

pub picked_is : {T : Type 0} (object : T → ℕ) (os : List ℕ) (xs : List T) → Rising os → Ordered object xs → picked object os xs ≡ rows_among object os xs
picked_is object [] xs h a = sym (none_among object xs)
picked_is object (o ∷ os) xs h a = ap (λ ys. rows_of object o xs ++ ys) (picked_is object os xs h.1 a) ∙ sym (among_first object o os h.0 xs a)

-- Rows in order are told by those of each object.
pub first_of : {T : Type 0} (object : T → ℕ) (x : T) (xs : List T) → rows_of object (object x) (x ∷ xs) ≡ x ∷ rows_of object (object x) xs
first_of object x xs = kept (λ y. object y == object x) x xs (eq-eqb (object x) (object x) refl)

before_all : {T : Type 0} (object : T → ℕ) (o : ℕ) (y : T) (ys : List T) → o < object y → EachRow (λ z. object y ≤ object z) ys → rows_of object o (y ∷ ys) ≡ []
before_all object o y ys l h = none_kept (λ z. object z == o) (y ∷ ys) (same_not (object y) o l, each_map (λ z. object y ≤ object z) (λ z. (object z == o) ≡ false) (λ z k. same_not (object z) o (omega (arith, k, l))) ys h)

head_is : {T : Type 0} (x y : T) (xs ys : List T) → x ∷ xs ≡ y ∷ ys → x ≡ y
head_is x y xs ys e = cc

tail_is : {T : Type 0} (x y : T) (xs ys : List T) → x ∷ xs ≡ y ∷ ys → xs ≡ ys
tail_is x y xs ys e = cc

not_none : {T : Type 0} (x : T) (xs : List T) → x ∷ xs ≡ [] → ⊥
not_none x xs e = absurd (cc)

pub ordered_same : {T : Type 0} (object : T → ℕ) (xs ys : List T) → Ordered object xs → Ordered object ys → ((o : ℕ) → rows_of object o xs ≡ rows_of object o ys) → xs ≡ ys
ordered_same object [] [] a b h = refl
ordered_same object [] (y ∷ ys) a b h = absurd (not_none y (rows_of object (object y) ys) (sym (first_of object y ys) ∙ sym (h (object y))))
ordered_same object (x ∷ xs) [] a b h = absurd (not_none x (rows_of object (object x) xs) (sym (first_of object x xs) ∙ h (object x)))
ordered_same {T} object (x ∷ xs) (y ∷ ys) a b h = by_order (cases_order (object x) (object y)) (ordered_same object xs ys a.1 b.1)
  where
    both : object x ≡ object y → x ∷ rows_of object (object x) xs ≡ y ∷ rows_of object (object y) ys
    both e = sym (first_of object x xs) ∙ (h (object x) ∙ (ap (λ o. rows_of object o (y ∷ ys)) e ∙ first_of object y ys))

    rest : object x ≡ object y → (o : ℕ) (c : Bool) → (object x == o) ≡ c → rows_of object o xs ≡ rows_of object o ys
    rest e o true k = let is : object x ≡ o = eqb-true (object x) o k in ap (λ o. rows_of object o xs) (sym is) ∙ (tail_is x y (rows_of object (object x) xs) (rows_of object (object y) ys) (both e) ∙ ap (λ o. rows_of object o ys) (sym e ∙ is))
    rest e o false k = sym (dropped (λ z. object z == o) x xs k) ∙ (h o ∙ dropped (λ z. object z == o) y ys (ap (λ n. n == o) (sym e) ∙ k))

    by_order : (object x ≡ object y) ⊎ ((object x < object y) ⊎ (object y < object x)) → (((o : ℕ) → rows_of object o xs ≡ rows_of object o ys) → xs ≡ ys) → x ∷ xs ≡ y ∷ ys
    by_order (inl e) k = ap₂ ◌∷◌ (head_is x y (rows_of object (object x) xs) (rows_of object (object y) ys) (both e)) (k (λ o. rest e o (object x == o) refl))
    by_order (inr (inl l)) k = absurd (not_none x (rows_of object (object x) xs) (sym (first_of object x xs) ∙ (h (object x) ∙ before_all object (object x) y ys l b.0)))
    by_order (inr (inr l)) k = absurd (not_none y (rows_of object (object y) ys) (sym (first_of object y ys) ∙ (sym (h (object y)) ∙ before_all object (object y) x xs l a.0)))

-- The rows of one object among those of some.
is_among : {T : Type 0} (object : T → ℕ) (os : List ℕ) (o : ℕ) (x : T) → (object x == o) ≡ true → among os (object x) ≡ among os o
is_among object os o x e = ap (among os) (eqb-true (object x) o e)

pub of_among : {T : Type 0} (object : T → ℕ) (os : List ℕ) (o : ℕ) (xs : List T) → rows_of object o (rows_among object os xs) ≡ (if among os o then rows_of object o xs else [])
of_among {T} object os o xs = by_among (among os o) refl
  where
    by_among : (b : Bool) → among os o ≡ b → rows_of object o (rows_among object os xs) ≡ (if b then rows_of object o xs else [])
    by_among true e = filter_within (λ x. object x == o) (λ x. among os (object x)) (λ x k. is_among object os o x k ∙ e) xs
    by_among false e = filter_apart (λ x. object x == o) (λ x. among os (object x)) (λ x k. other x k (object x == o) refl) xs
      where
        other : (x : T) → among os (object x) ≡ true → (c : Bool) → (object x == o) ≡ c → c ≡ false
        other x k true g = absurd (true≢false (sym k ∙ (is_among object os o x g ∙ e)))
        other x k false g = refl

of_others : {T : Type 0} (object : T → ℕ) (os : List ℕ) (o : ℕ) (xs : List T) → rows_of object o (filter (λ x. not (among os (object x))) xs) ≡ (if among os o then [] else rows_of object o xs)
of_others {T} object os o xs = by_among (among os o) refl
  where
    by_among : (b : Bool) → among os o ≡ b → rows_of object o (filter (λ x. not (among os (object x))) xs) ≡ (if b then [] else rows_of object o xs)
    by_among false e = filter_within (λ x. object x == o) (λ x. not (among os (object x))) (λ x k. ap not (is_among object os o x k ∙ e)) xs
    by_among true e = filter_apart (λ x. object x == o) (λ x. not (among os (object x))) (λ x k. other x k (object x == o) refl) xs
      where
        other : (x : T) → not (among os (object x)) ≡ true → (c : Bool) → (object x == o) ≡ c → c ≡ false
        other x k true g = absurd (true≢false (sym k ∙ ap not (is_among object os o x g ∙ e)))
        other x k false g = refl

if_twice : {A : Type 0} (b : Bool) (x y z : A) → (if b then (if b then x else y) else z) ≡ (if b then x else z)
if_twice true x y z = refl
if_twice false x y z = refl

if_else : {A : Type 0} (b : Bool) (x y z : A) → (if b then z else (if b then x else y)) ≡ (if b then z else y)
if_else true x y z = refl
if_else false x y z = refl

pub mine_are : {T : Type 0} (object : T → ℕ) (os : List ℕ) (mine rows after : List T) → Ordered object mine → AreExchanged object os mine rows after → rows_among object os after ≡ rows_among object os mine
mine_are object os mine rows after a h = ordered_same object (rows_among object os after) (rows_among object os mine) (ordered_filter object (λ x. among os (object x)) after h.ordered) (ordered_filter object (λ x. among os (object x)) mine a) (λ o. of_among object os o after ∙ (ap (λ xs. if among os o then xs else []) (h.each o) ∙ (if_twice (among os o) (rows_of object o mine) (rows_of object o rows) [] ∙ sym (of_among object os o mine))))

pub others_are : {T : Type 0} (object : T → ℕ) (os : List ℕ) (mine rows after : List T) → Ordered object rows → AreExchanged object os mine rows after → filter (λ x. not (among os (object x))) after ≡ filter (λ x. not (among os (object x))) rows
others_are object os mine rows after a h = ordered_same object (filter (λ x. not (among os (object x))) after) (filter (λ x. not (among os (object x))) rows) (ordered_filter object (λ x. not (among os (object x))) after h.ordered) (ordered_filter object (λ x. not (among os (object x))) rows a) (λ o. of_others object os o after ∙ (ap (λ xs. if among os o then [] else xs) (h.each o) ∙ (if_else (among os o) (rows_of object o mine) (rows_of object o rows) [] ∙ sym (of_others object os o rows))))

-- Exchanged rows are no more than both lists have.
pub exchanged_fit : {T : Type 0} (object : T → ℕ) (os : List ℕ) (mine rows after : List T) → Ordered object mine → Ordered object rows → AreExchanged object os mine rows after → length after ≤ length rows + length mine
exchanged_fit object os mine rows after a b h =
    let all : length (rows_among object os after) + length (filter (λ x. not (among os (object x))) after) ≡ length after = length-filter_both (λ x. among os (object x)) (λ x. not (among os (object x))) (λ x. refl) after in
    let of_mine : length (rows_among object os mine) + length (filter (λ x. not (among os (object x))) mine) ≡ length mine = length-filter_both (λ x. among os (object x)) (λ x. not (among os (object x))) (λ x. refl) mine in
    let of_rows : length (rows_among object os rows) + length (filter (λ x. not (among os (object x))) rows) ≡ length rows = length-filter_both (λ x. among os (object x)) (λ x. not (among os (object x))) (λ x. refl) rows in
    let first : length (rows_among object os after) ≡ length (rows_among object os mine) = ap length (mine_are object os mine rows after a h) in
    let second : length (filter (λ x. not (among os (object x))) after) ≡ length (filter (λ x. not (among os (object x))) rows) = ap length (others_are object os mine rows after b h) in
    omega (arith, all, of_mine, of_rows, first, second)

-- One more object exchanged.
among_more : (os : List ℕ) (p o : ℕ) → among (os ++ p ∷ []) o ≡ (among os o || (o == p))
among_more [] p o = or_none (o == p)
  where
    or_none : (b : Bool) → (b || false) ≡ b
    or_none true = refl
    or_none false = refl
among_more (q ∷ os) p o = ap (λ b. (o == q) || b) (among_more os p o) ∙ assoc (o == q) (among os o) (o == p)
  where
    assoc : (a b c : Bool) → (a || (b || c)) ≡ ((a || b) || c)
    assoc true b c = refl
    assoc false b c = refl

pub exchanged_one : {T : Type 0} (object : T → ℕ) (os : List ℕ) (p : ℕ) (mine rows now next : List T) → Ordered object mine → AreExchanged object os mine rows now → next ≡ rows_below object p now ++ (rows_of object p mine ++ rows_above object p now) → AreExchanged object (os ++ p ∷ []) mine rows next
exchanged_one {T} object os p mine rows now next a h is = record { ordered = subst (Ordered object) (sym is) in_order; each = λ o. ap (rows_of object o) is ∙ (parts o ∙ by_order o (cases_order o p)) }
  where
    below : EachRow (λ x. object x ≤ p) (rows_below object p now)
    below = each_map (λ x. nat_lt (object x) p ≡ true) (λ x. object x ≤ p) (λ x e. let l : object x < p = ltb-true (object x) p e in omega arith) (rows_below object p now) (each_kept (λ x. nat_lt (object x) p) now)

    above : EachRow (λ x. p ≤ object x) (rows_above object p now)
    above = each_map (λ x. nat_lt p (object x) ≡ true) (λ x. p ≤ object x) (λ x e. let l : p < object x = ltb-true p (object x) e in omega arith) (rows_above object p now) (each_kept (λ x. nat_lt p (object x)) now)

    of_most : EachRow (λ x. object x ≤ p) (rows_of object p mine)
    of_most = each_map (λ x. (object x == p) ≡ true) (λ x. object x ≤ p) (λ x e. let l : object x ≡ p = eqb-true (object x) p e in omega arith) (rows_of object p mine) (each_kept (λ x. object x == p) mine)

    of_least : EachRow (λ x. p ≤ object x) (rows_of object p mine)
    of_least = each_map (λ x. (object x == p) ≡ true) (λ x. p ≤ object x) (λ x e. let l : object x ≡ p = eqb-true (object x) p e in omega arith) (rows_of object p mine) (each_kept (λ x. object x == p) mine)

    in_order : Ordered object (rows_below object p now ++ (rows_of object p mine ++ rows_above object p now))
    in_order = ordered_append object p (rows_below object p now) (rows_of object p mine ++ rows_above object p now) (ordered_filter object (λ x. nat_lt (object x) p) now h.ordered) (ordered_append object p (rows_of object p mine) (rows_above object p now) (ordered_filter object (λ x. object x == p) mine a) (ordered_filter object (λ x. nat_lt p (object x)) now h.ordered) of_most above) below (each_append (λ y. p ≤ object y) (rows_of object p mine) (rows_above object p now) of_least above)

    parts : (o : ℕ) → rows_of object o (rows_below object p now ++ (rows_of object p mine ++ rows_above object p now)) ≡ rows_of object o (rows_below object p now) ++ (rows_of object o (rows_of object p mine) ++ rows_of object o (rows_above object p now))
    parts o = filter-append (λ x. object x == o) (rows_below object p now) (rows_of object p mine ++ rows_above object p now) ∙ ap (λ ys. rows_of object o (rows_below object p now) ++ ys) (filter-append (λ x. object x == o) (rows_of object p mine) (rows_above object p now))

    then_mine : (o : ℕ) → o ≡ p → (if among (os ++ p ∷ []) o then rows_of object o mine else rows_of object o rows) ≡ rows_of object o mine
    then_mine o e = ap (λ b. if b then rows_of object o mine else rows_of object o rows) (among_more os p o ∙ (ap (λ b. among os o || b) (eq-eqb o p e) ∙ or_true (among os o)))
      where
        or_true : (b : Bool) → (b || true) ≡ true
        or_true true = refl
        or_true false = refl

    as_before : (o : ℕ) → (o == p) ≡ false → rows_of object o now ≡ (if among (os ++ p ∷ []) o then rows_of object o mine else rows_of object o rows)
    as_before o e = h.each o ∙ ap (λ b. if b then rows_of object o mine else rows_of object o rows) (sym (among_more os p o ∙ (ap (λ b. among os o || b) e ∙ or_none (among os o))))
      where
        or_none : (b : Bool) → (b || false) ≡ b
        or_none true = refl
        or_none false = refl

    by_order : (o : ℕ) → (o ≡ p) ⊎ ((o < p) ⊎ (p < o)) → rows_of object o (rows_below object p now) ++ (rows_of object o (rows_of object p mine) ++ rows_of object o (rows_above object p now)) ≡ (if among (os ++ p ∷ []) o then rows_of object o mine else rows_of object o rows)
    by_order o (inl e) =
        ap₂ (λ xs ys. xs ++ (rows_of object o (rows_of object p mine) ++ ys)) (filter_apart (λ x. object x == o) (λ x. nat_lt (object x) p) (λ x k. same_no (object x) o (let l : object x < p = ltb-true (object x) p k in omega (arith, e))) now) (filter_apart (λ x. object x == o) (λ x. nat_lt p (object x)) (λ x k. same_not (object x) o (let l : p < object x = ltb-true p (object x) k in omega (arith, e))) now)
        ∙ (append-nil (rows_of object o (rows_of object p mine))
        ∙ (filter_within (λ x. object x == o) (λ x. object x == p) (λ x k. ap (λ n. object x == n) (sym e) ∙ k) mine
        ∙ sym (then_mine o e)))
    by_order o (inr (inl l)) =
        ap₂ (λ xs ys. xs ++ ys) (filter_within (λ x. object x == o) (λ x. nat_lt (object x) p) (λ x k. let is : object x ≡ o = eqb-true (object x) o k in lt-ltb (object x) p (omega (arith, l))) now) (ap₂ (λ xs ys. xs ++ ys) (filter_apart (λ x. object x == o) (λ x. object x == p) (λ x k. let is : object x ≡ p = eqb-true (object x) p k in same_not (object x) o (omega (arith, l))) mine) (filter_apart (λ x. object x == o) (λ x. nat_lt p (object x)) (λ x k. let is : p < object x = ltb-true p (object x) k in same_not (object x) o (omega (arith, l))) now))
        ∙ (append-nil (rows_of object o now)
        ∙ as_before o (same_no o p l))
    by_order o (inr (inr l)) =
        ap₂ (λ xs ys. xs ++ ys) (filter_apart (λ x. object x == o) (λ x. nat_lt (object x) p) (λ x k. let is : object x < p = ltb-true (object x) p k in same_no (object x) o (omega (arith, l))) now) (ap₂ (λ xs ys. xs ++ ys) (filter_apart (λ x. object x == o) (λ x. object x == p) (λ x k. let is : object x ≡ p = eqb-true (object x) p k in same_no (object x) o (omega (arith, l))) mine) (filter_within (λ x. object x == o) (λ x. nat_lt p (object x)) (λ x k. let is : object x ≡ o = eqb-true (object x) o k in lt-ltb p (object x) (omega (arith, l))) now))
        ∙ as_before o (same_not o p l)

-- The room that the next object takes.
pub next_fits : {T : Type 0} (object : T → ℕ) (os : List ℕ) (p : ℕ) (mine rows now : List T) → Ordered object mine → Ordered object rows → AreExchanged object os mine rows now → length (rows_below object p now) + length (rows_of object p mine) + length (rows_above object p now) ≤ length rows + length mine
next_fits {T} object os p mine rows now a b h =
    let next : List T = rows_below object p now ++ (rows_of object p mine ++ rows_above object p now) in
    let fits : length next ≤ length rows + length mine = exchanged_fit object (os ++ p ∷ []) mine rows next a b (exchanged_one object os p mine rows now next a h refl) in
    let long : length next ≡ length (rows_below object p now) + (length (rows_of object p mine) + length (rows_above object p now)) = length-append (rows_below object p now) (rows_of object p mine ++ rows_above object p now) ∙ ap (λ n. length (rows_below object p now) + n) (length-append (rows_of object p mine) (rows_above object p now)) in
    omega (arith, fits, long)

-- A part of each row, by which the rows are told.
of_map : {T S : Type 0} (object : S → ℕ) (f : T → S) (o : ℕ) (xs : List T) → rows_of object o (map f xs) ≡ map f (rows_of (λ x. object (f x)) o xs)
of_map object f o [] = refl
of_map {T} {S} object f o (x ∷ xs) = by_test (object (f x) == o) (of_map object f o xs)
  where
    by_test : (b : Bool) → rows_of object o (map f xs) ≡ map f (rows_of (λ x. object (f x)) o xs) → cond b (f x ∷ rows_of object o (map f xs)) (rows_of object o (map f xs)) ≡ map f (cond b (x ∷ rows_of (λ x. object (f x)) o xs) (rows_of (λ x. object (f x)) o xs))
    by_test true h = ap (λ ys. f x ∷ ys) h
    by_test false h = h

pub ordered_map : {T S : Type 0} (object : S → ℕ) (f : T → S) (xs : List T) → Ordered (λ x. object (f x)) xs → Ordered object (map f xs)
ordered_map object f [] h = tt
ordered_map {T} {S} object f (x ∷ xs) h = (each xs h.0, ordered_map object f xs h.1)
  where
    each : (ys : List T) → EachRow (λ y. object (f x) ≤ object (f y)) ys → EachRow (λ y. object (f x) ≤ object y) (map f ys)
    each [] k = tt
    each (y ∷ ys) k = (k.0, each ys k.1)

pub exchanged_map : {T S : Type 0} (object : S → ℕ) (f : T → S) (os : List ℕ) (mine rows after : List T) (found : List S) → AreExchanged (λ x. object (f x)) os mine rows after → AreExchanged object os (map f mine) (map f rows) found → found ≡ map f after
exchanged_map {T} object f os mine rows after found h k = ordered_same object found (map f after) k.ordered (ordered_map object f after h.ordered) (λ o. k.each o ∙ (by_among o (among os o) ∙ (ap (map f) (sym (h.each o)) ∙ sym (of_map object f o after))))
  where
    by_among : (o : ℕ) (b : Bool) → (if b then rows_of object o (map f mine) else rows_of object o (map f rows)) ≡ map f (if b then rows_of (λ x. object (f x)) o mine else rows_of (λ x. object (f x)) o rows)
    by_among o true = of_map object f o mine
    by_among o false = of_map object f o rows

-- Objects in order.
each_from : {T : Type 0} (P : T → Type 0) (xs : List T) → ((k : ℕ) (d : T) → k < length xs → P (get_or xs k d)) → EachRow P xs
each_from P [] h = tt
each_from P (x ∷ xs) h = (h zero x (omega arith), each_from P xs (λ k d l. h (suc k) d (omega arith)))

pub rising_from : (xs : List ℕ) → AllPairs (λ x y. x < y) xs → Rising xs
rising_from [] h = tt
rising_from (x ∷ xs) h = (each_from (λ y. x < y) xs (λ k d l. h zero (suc k) d (omega arith) (omega arith)), rising_from xs (λ i j d l k. h (suc i) (suc j) d (omega arith) (omega arith)))

pub contains_from : (xs : List ℕ) (o : ℕ) → among xs o ≡ true → Contains xs o
contains_from [] o e = absurd (true≢false (sym e))
contains_from (x ∷ xs) o e = by_first (o == x) refl (contains_from xs o)
  where
    by_first : (b : Bool) → (o == x) ≡ b → (among xs o ≡ true → Contains xs o) → Contains (x ∷ xs) o
    by_first true k rest = (zero, omega arith, sym (eqb-true o x k))
    by_first false k rest =
        let found : Contains xs o = rest (sym (ap (λ b. b || among xs o) k) ∙ e) in
        (suc found.0, omega (arith, found.1), found.2)

pub among_from : (xs : List ℕ) (o : ℕ) (k : ℕ) → k < length xs → get_or xs k o ≡ o → among xs o ≡ true
among_from [] o k l e = absurd (omega arith)
among_from (x ∷ xs) o zero l e = ap (λ b. b || among xs o) (eq-eqb o x (sym e))
among_from (x ∷ xs) o (suc k) l e = ap (λ b. (o == x) || b) (among_from xs o k (omega arith) e) ∙ or_true (o == x)
  where
    or_true : (b : Bool) → (b || true) ≡ true
    or_true true = refl
    or_true false = refl

among_both : (xs ys : List ℕ) (o : ℕ) → among (xs ++ ys) o ≡ (among xs o || among ys o)
among_both [] ys o = refl
among_both (x ∷ xs) ys o = ap (λ b. (o == x) || b) (among_both xs ys o) ∙ assoc (o == x) (among xs o) (among ys o)
  where
    assoc : (a b c : Bool) → (a || (b || c)) ≡ ((a || b) || c)
    assoc true b c = refl
    assoc false b c = refl

pub among_left : (xs ys : List ℕ) (o : ℕ) → among xs o ≡ true → among (xs ++ ys) o ≡ true
among_left xs ys o e = among_both xs ys o ∙ ap (λ b. b || among ys o) e

pub among_right : (xs ys : List ℕ) (o : ℕ) → among ys o ≡ true → among (xs ++ ys) o ≡ true
among_right xs ys o e = among_both xs ys o ∙ (ap (λ b. among xs o || b) e ∙ or_true (among xs o))
  where
    or_true : (b : Bool) → (b || true) ≡ true
    or_true true = refl
    or_true false = refl

pub each_among : {T : Type 0} (object : T → ℕ) (test : ℕ → Bool) (rows : List T) → ((o : ℕ) → among (map object rows) o ≡ true → test o ≡ true) → EachRow (λ row. test (object row) ≡ true) rows
each_among object test [] h = tt
each_among object test (x ∷ xs) h = (h (object x) (ap (λ b. b || among (map object xs) (object x)) (eq-eqb (object x) (object x) refl)), each_among object test xs (λ o e. h o (among_right (object x ∷ []) (map object xs) o e)))
