-- What is in runs, and that they stay apart.
use Rattle.std.proofs.Common.{◌≡◌, ℕ, ◌+◌, ◌<◌, ◌≤◌, ◌&&◌, ◌||◌, Bool, true, false, not, nat_lt, nat_le, min, max, [], ◌∷◌, ◌++◌, if◌then◌else◌, refl, ap, ap₂, sym, ◌∙◌, ◌⊎◌, inl, inr, arith, true≢false, ◌↔◌}
use Rattle.std.proofs.lemmas.Bool.{ltb-true, ltb-false, leb-true, leb-false, and_parts, or_cases, and_cases, or_parts, and_from, le-leb, lt-ltb, or_left, or_right}
use Rattle.std.proofs.lemmas.Bool.Decides.{nat_tests}
use Rattle.wg_num.specs.Runs.{Runs, in_run, is_in, AreApart, with_run, full_run, cut_runs, missing_runs, covers_run, AllIn}

pub later : (from less : ℕ) (runs : Runs) → less ≤ from → AreApart from runs → AreApart less runs
later from less [] l a = tt
later from less (x ∷ xs) l a = (omega (arith, a.0), a.1, a.2)

-- Nothing is in runs below where they begin.
none_below : (from n : ℕ) (runs : Runs) → n < from → AreApart from runs → is_in runs n ≡ false
none_below from n [] l a = refl
none_below from n (x ∷ xs) l a = ap₂ ◌||◌ (out x.0 x.1 (omega (arith, a.0))) (none_below (x.1 + 1) n xs (omega (arith, a.0, a.1)) a.2)
  where
    out : (lo hi : ℕ) → n < lo → in_run lo hi n ≡ false
    out lo hi h = grind (arith, nat_tests)

or_assoc : (a b c : Bool) → (a || (b || c)) ≡ ((a || b) || c)
or_assoc true b c = refl
or_assoc false b c = refl

or_swap : (a b c : Bool) → (a || (b || c)) ≡ (b || (a || c))
or_swap true true c = refl
or_swap true false c = refl
or_swap false b c = refl

union_in : (lo hi a b n : ℕ) → a ≤ hi → lo ≤ b → in_run (min lo a) (max hi b) n ≡ (in_run lo hi n || in_run a b n)
union_in lo hi a b n h k = grind (arith, nat_tests)

pub with_in : (lo hi n : ℕ) (runs : Runs) → is_in (with_run lo hi runs) n ≡ (in_run lo hi n || is_in runs n)
with_in lo hi n [] = refl
with_in lo hi n (x ∷ xs) = by_tests (nat_lt x.1 lo) (nat_lt hi x.0) refl refl (with_in lo hi n xs) (with_in (min lo x.0) (max hi x.1) n xs)
  where
    by_tests : (b c : Bool) → nat_lt x.1 lo ≡ b → nat_lt hi x.0 ≡ c → is_in (with_run lo hi xs) n ≡ (in_run lo hi n || is_in xs n) → is_in (with_run (min lo x.0) (max hi x.1) xs) n ≡ (in_run (min lo x.0) (max hi x.1) n || is_in xs n) → is_in (if b then x ∷ with_run lo hi xs else (if c then (lo, hi) ∷ (x ∷ xs) else with_run (min lo x.0) (max hi x.1) xs)) n ≡ (in_run lo hi n || (in_run x.0 x.1 n || is_in xs n))
    by_tests true c e f h k = ap (λ t. in_run x.0 x.1 n || t) h ∙ or_swap (in_run x.0 x.1 n) (in_run lo hi n) (is_in xs n)
    by_tests false true e f h k = refl
    by_tests false false e f h k =
        let lo_within : lo ≤ x.1 = ltb-false x.1 lo e in
        let hi_within : x.0 ≤ hi = ltb-false hi x.0 f in
        k ∙ (ap (λ t. t || is_in xs n) (union_in lo hi x.0 x.1 n hi_within lo_within) ∙ sym (or_assoc (in_run lo hi n) (in_run x.0 x.1 n) (is_in xs n)))

pub with_apart : (from lo hi : ℕ) (runs : Runs) → from ≤ lo → lo < hi → AreApart from runs → AreApart from (with_run lo hi runs)
with_apart from lo hi [] l n a = (l, n, tt)
with_apart from lo hi (x ∷ xs) l n a = by_tests (nat_lt x.1 lo) (nat_lt hi x.0) refl refl (λ g. with_apart (x.1 + 1) lo hi xs g n a.2) (with_apart from (min lo x.0) (max hi x.1) xs (omega (arith, a.0)) (omega (arith, a.1)) (later (x.1 + 1) from xs (omega (arith, a.0, a.1)) a.2))
  where
    by_tests : (b c : Bool) → nat_lt x.1 lo ≡ b → nat_lt hi x.0 ≡ c → (x.1 + 1 ≤ lo → AreApart (x.1 + 1) (with_run lo hi xs)) → AreApart from (with_run (min lo x.0) (max hi x.1) xs) → AreApart from (if b then x ∷ with_run lo hi xs else (if c then (lo, hi) ∷ (x ∷ xs) else with_run (min lo x.0) (max hi x.1) xs))
    by_tests true c e f h k = let ends_before : x.1 < lo = ltb-true x.1 lo e in (a.0, a.1, h (omega arith))
    by_tests false true e f h k = let begins_behind : hi < x.0 = ltb-true hi x.0 f in (l, n, (omega arith, a.1, a.2))
    by_tests false false e f h k = k

in_append : (n : ℕ) (xs ys : Runs) → is_in (xs ++ ys) n ≡ (is_in xs n || is_in ys n)
in_append n [] ys = refl
in_append n (x ∷ xs) ys = ap (λ t. in_run x.0 x.1 n || t) (in_append n xs ys) ∙ or_assoc (in_run x.0 x.1 n) (is_in xs n) (is_in ys n)

in_full : (lo hi n : ℕ) → is_in (full_run lo hi) n ≡ in_run lo hi n
in_full lo hi n = by_test (nat_lt lo hi) refl
  where
    or_none : (b : Bool) → (b || false) ≡ b
    or_none true = refl
    or_none false = refl

    by_test : (b : Bool) → nat_lt lo hi ≡ b → is_in (if b then (lo, hi) ∷ [] else []) n ≡ in_run lo hi n
    by_test true e = or_none (in_run lo hi n)
    by_test false e = sym (empty lo hi n e)
      where
        empty : (lo hi n : ℕ) → nat_lt lo hi ≡ false → in_run lo hi n ≡ false
        empty lo hi n e = grind (arith, nat_tests)

-- the numbers of a run below another, or from it on, and those that are neither

below : (a b l n : ℕ) → in_run a (min b l) n ≡ (in_run a b n && nat_lt n l)
below a b l n = grind (arith, nat_tests)

above : (a b h n : ℕ) → in_run (max a h) b n ≡ (in_run a b n && nat_le h n)
above a b h n = grind (arith, nat_tests)

inner : (l h n : ℕ) → in_run l h n ≡ (not (nat_lt n l) && not (nat_le h n))
inner l h n = grind (arith, nat_tests)

cut_in_run : (lo hi a b n : ℕ) → (in_run a (min b lo) n || in_run (max a hi) b n) ≡ (in_run a b n && not (in_run lo hi n))
cut_in_run lo hi a b n = by_parts (nat_le a n) (nat_lt n b) (nat_lt n lo) (nat_le hi n) (below a b lo n) (above a b hi n) (inner lo hi n)
  where
    by_parts : (p q x y : Bool) → in_run a (min b lo) n ≡ ((p && q) && x) → in_run (max a hi) b n ≡ ((p && q) && y) → in_run lo hi n ≡ (not x && not y) → (in_run a (min b lo) n || in_run (max a hi) b n) ≡ ((p && q) && not (in_run lo hi n))
    by_parts p q x y e f g = ap₂ ◌||◌ e f ∙ (cases p q x y ∙ ap (λ t. (p && q) && not t) (sym g))
      where
        cases : (p q x y : Bool) → (((p && q) && x) || ((p && q) && y)) ≡ ((p && q) && not (not x && not y))
        cases true true true y = refl
        cases true true false true = refl
        cases true true false false = refl
        cases true false x y = refl
        cases false q x y = refl

pub cut_in : (lo hi n : ℕ) (runs : Runs) → is_in (cut_runs lo hi runs) n ≡ (is_in runs n && not (in_run lo hi n))
cut_in lo hi n [] = refl
cut_in lo hi n (x ∷ xs) =
    in_append n (full_run x.0 (min x.1 lo) ++ full_run (max x.0 hi) x.1) (cut_runs lo hi xs)
    ∙ (ap₂ ◌||◌ (in_append n (full_run x.0 (min x.1 lo)) (full_run (max x.0 hi) x.1) ∙ (ap₂ ◌||◌ (in_full x.0 (min x.1 lo) n) (in_full (max x.0 hi) x.1 n) ∙ cut_in_run lo hi x.0 x.1 n)) (cut_in lo hi n xs)
    ∙ share (in_run x.0 x.1 n) (is_in xs n) (not (in_run lo hi n)))
  where
    share : (a b c : Bool) → ((a && c) || (b && c)) ≡ ((a || b) && c)
    share true b true = refl
    share true true false = refl
    share true false false = refl
    share false b c = refl

pub cut_apart : (from lo hi : ℕ) (runs : Runs) → lo < hi → AreApart from runs → AreApart from (cut_runs lo hi runs)
cut_apart from lo hi [] n a = tt
cut_apart from lo hi (x ∷ xs) n a = two (cut_apart (x.1 + 1) lo hi xs n a.2)
  where
    two : AreApart (x.1 + 1) (cut_runs lo hi xs) → AreApart from ((full_run x.0 (min x.1 lo) ++ full_run (max x.0 hi) x.1) ++ cut_runs lo hi xs)
    two rest = by_tests (nat_lt x.0 (min x.1 lo)) (nat_lt (max x.0 hi) x.1) refl refl
      where
        by_tests : (b c : Bool) → nat_lt x.0 (min x.1 lo) ≡ b → nat_lt (max x.0 hi) x.1 ≡ c → AreApart from (((if b then (x.0, min x.1 lo) ∷ [] else []) ++ (if c then (max x.0 hi, x.1) ∷ [] else [])) ++ cut_runs lo hi xs)
        by_tests true true e f = let left_full : x.0 < min x.1 lo = ltb-true x.0 (min x.1 lo) e in let right_full : max x.0 hi < x.1 = ltb-true (max x.0 hi) x.1 f in (a.0, left_full, (omega arith, right_full, rest))
        by_tests true false e f = let left_full : x.0 < min x.1 lo = ltb-true x.0 (min x.1 lo) e in (a.0, left_full, later (x.1 + 1) (min x.1 lo + 1) (cut_runs lo hi xs) (omega arith) rest)
        by_tests false true e f = let right_full : max x.0 hi < x.1 = ltb-true (max x.0 hi) x.1 f in (omega (arith, a.0), right_full, rest)
        by_tests false false e f = later (x.1 + 1) from (cut_runs lo hi xs) (omega (arith, a.0, a.1)) rest

pub missing_in : (from lo hi n : ℕ) (runs : Runs) → AreApart from runs → is_in (missing_runs lo hi runs) n ≡ (in_run lo hi n && not (is_in runs n))
missing_in from lo hi n [] a = in_full lo hi n ∙ and_true (in_run lo hi n)
  where
    and_true : (b : Bool) → b ≡ (b && true)
    and_true true = refl
    and_true false = refl
missing_in from lo hi n (x ∷ xs) a = in_append n (full_run lo (min hi x.0)) (missing_runs (max lo x.1) hi xs) ∙ (ap₂ ◌||◌ (in_full lo (min hi x.0) n) (missing_in (x.1 + 1) (max lo x.1) hi n xs a.2) ∙ by_in (is_in xs n) refl)
  where
    -- where a later run has the number, it is past x
    past : (b : Bool) → is_in xs n ≡ b → b ≡ true → x.1 ≤ n
    past b e f = by_order (nat_lt n (x.1 + 1)) refl
      where
        by_order : (t : Bool) → nat_lt n (x.1 + 1) ≡ t → x.1 ≤ n
        by_order true k = let below : n < x.1 + 1 = ltb-true n (x.1 + 1) k in absurd (true≢false (sym f ∙ (sym e ∙ none_below (x.1 + 1) n xs below a.2)))
        by_order false k = let past_end : x.1 + 1 ≤ n = ltb-false n (x.1 + 1) k in omega arith

    with_later : (lo hi a b n : ℕ) → a < b → b ≤ n → (in_run lo (min hi a) n || (in_run (max lo b) hi n && false)) ≡ (in_run lo hi n && not (in_run a b n || true))
    with_later lo hi a b n h l = ap₂ ◌||◌ (out lo hi a b n h l) (and_false (in_run (max lo b) hi n)) ∙ sym (ap (λ t. in_run lo hi n && not t) (or_true (in_run a b n)) ∙ and_false (in_run lo hi n))
      where
        out : (lo hi a b n : ℕ) → a < b → b ≤ n → in_run lo (min hi a) n ≡ false
        out lo hi a b n h l = grind (arith, nat_tests)

        and_false : (b : Bool) → (b && false) ≡ false
        and_false true = refl
        and_false false = refl

        or_true : (b : Bool) → (b || true) ≡ true
        or_true true = refl
        or_true false = refl

    without : (lo hi a b n : ℕ) → a < b → (in_run lo (min hi a) n || (in_run (max lo b) hi n && true)) ≡ (in_run lo hi n && not (in_run a b n || false))
    without lo hi a b n h = by_parts (in_run lo hi n) (nat_lt n a) (nat_le b n) (below lo hi a n) (above lo hi b n) (inner a b n)
      where
        cases : (p x y : Bool) → ((p && x) || ((p && y) && true)) ≡ (p && not ((not x && not y) || false))
        cases true true y = refl
        cases true false true = refl
        cases true false false = refl
        cases false x y = refl

        by_parts : (p x y : Bool) → in_run lo (min hi a) n ≡ (p && x) → in_run (max lo b) hi n ≡ (p && y) → in_run a b n ≡ (not x && not y) → (in_run lo (min hi a) n || (in_run (max lo b) hi n && true)) ≡ (p && not (in_run a b n || false))
        by_parts p x y e f g = ap₂ (λ s t. s || (t && true)) e f ∙ (cases p x y ∙ ap (λ t. p && not (t || false)) (sym g))

    by_in : (b : Bool) → is_in xs n ≡ b → (in_run lo (min hi x.0) n || (in_run (max lo x.1) hi n && not (is_in xs n))) ≡ (in_run lo hi n && not (in_run x.0 x.1 n || is_in xs n))
    by_in true e = ap (λ t. in_run lo (min hi x.0) n || (in_run (max lo x.1) hi n && not t)) e ∙ (with_later lo hi x.0 x.1 n a.1 (past true e refl) ∙ sym (ap (λ t. in_run lo hi n && not (in_run x.0 x.1 n || t)) e))
    by_in false e = ap (λ t. in_run lo (min hi x.0) n || (in_run (max lo x.1) hi n && not t)) e ∙ (without lo hi x.0 x.1 n a.1 ∙ sym (ap (λ t. in_run lo hi n && not (in_run x.0 x.1 n || t)) e))

pub missing_apart : (from at lo hi : ℕ) (runs : Runs) → from ≤ lo → AreApart at runs → AreApart from (missing_runs lo hi runs)
missing_apart from at lo hi [] l a = by_test (nat_lt lo hi) refl
  where
    by_test : (b : Bool) → nat_lt lo hi ≡ b → AreApart from (if b then (lo, hi) ∷ [] else [])
    by_test true e = (l, ltb-true lo hi e, tt)
    by_test false e = tt
missing_apart from at lo hi (x ∷ xs) l a = by_test (nat_lt lo (min hi x.0)) refl (missing_apart (min hi x.0 + 1) (x.1 + 1) (max lo x.1) hi xs (omega (arith, a.1)) a.2) (missing_apart from (x.1 + 1) (max lo x.1) hi xs (omega arith) a.2)
  where
    by_test : (b : Bool) → nat_lt lo (min hi x.0) ≡ b → AreApart (min hi x.0 + 1) (missing_runs (max lo x.1) hi xs) → AreApart from (missing_runs (max lo x.1) hi xs) → AreApart from ((if b then (lo, min hi x.0) ∷ [] else []) ++ missing_runs (max lo x.1) hi xs)
    by_test true e h k = (l, ltb-true lo (min hi x.0) e, h)
    by_test false e h k = k

-- Covered runs.
not_in : (lo hi n : ℕ) → n < lo ⊎ (hi ≤ n) → in_run lo hi n ≡ false
not_in lo hi n (inl l) = before lo hi n l
  where
    before : (lo hi n : ℕ) → n < lo → in_run lo hi n ≡ false
    before lo hi n l = grind (arith, nat_tests)
not_in lo hi n (inr l) = behind lo hi n l
  where
    behind : (lo hi n : ℕ) → hi ≤ n → in_run lo hi n ≡ false
    behind lo hi n l = grind (arith, nat_tests)

in_parts : (lo hi n : ℕ) → in_run lo hi n ≡ true → (lo ≤ n) × (n < hi)
in_parts lo hi n e = let tests : (nat_le lo n ≡ true) × (nat_lt n hi ≡ true) = and_parts (nat_le lo n) (nat_lt n hi) e in (leb-true lo n tests.0, ltb-true n hi tests.1)

in_from : (lo hi n : ℕ) → lo ≤ n → n < hi → in_run lo hi n ≡ true
in_from lo hi n l h = and_from (nat_le lo n) (nat_lt n hi) (le-leb lo n l) (lt-ltb n hi h)

covers_true : (lo hi : ℕ) (runs : Runs) → covers_run lo hi runs ≡ true → AllIn lo hi runs
covers_true lo hi [] e n i = let inside : (lo ≤ n) × (n < hi) = in_parts lo hi n i in let empty : hi ≤ lo = leb-true hi lo e in absurd (omega (arith, inside.0, inside.1))
covers_true lo hi (x ∷ xs) e n i = by_case (or_cases (nat_le x.0 lo && nat_le hi x.1) (covers_run lo hi xs) e) (covers_true lo hi xs)
  where
    by_case : ((nat_le x.0 lo && nat_le hi x.1) ≡ true) ⊎ (covers_run lo hi xs ≡ true) → (covers_run lo hi xs ≡ true → AllIn lo hi xs) → (in_run x.0 x.1 n || is_in xs n) ≡ true
    by_case (inl k) rest =
        let inside : (lo ≤ n) × (n < hi) = in_parts lo hi n i in
        let tests : (nat_le x.0 lo ≡ true) × (nat_le hi x.1 ≡ true) = and_parts (nat_le x.0 lo) (nat_le hi x.1) k in
        let begins : x.0 ≤ lo = leb-true x.0 lo tests.0 in
        let ends : hi ≤ x.1 = leb-true hi x.1 tests.1 in
        or_left (in_run x.0 x.1 n) (is_in xs n) (in_from x.0 x.1 n (omega (arith, inside.0)) (omega (arith, inside.1)))
    by_case (inr k) rest = or_right (in_run x.0 x.1 n) (is_in xs n) (rest k n i)

record Missed (lo hi : ℕ) (runs : Runs) : Type 0 where
  number : ℕ
  inside : in_run lo hi number ≡ true
  out : is_in runs number ≡ false

covers_false : (from lo hi : ℕ) (runs : Runs) → AreApart from runs → covers_run lo hi runs ≡ false → Missed lo hi runs
covers_false from lo hi [] a e = let full : lo < hi = leb-false hi lo e in record { number = lo; inside = in_from lo hi lo (omega arith) full; out = refl }
covers_false from lo hi (x ∷ xs) a e = go (or_parts (nat_le x.0 lo && nat_le hi x.1) (covers_run lo hi xs) e) (covers_false (x.1 + 1) lo hi xs a.2)
  where
    both : (n : ℕ) → in_run lo hi n ≡ true → in_run x.0 x.1 n ≡ false → is_in xs n ≡ false → Missed lo hi (x ∷ xs)
    both n i p q = record { number = n; inside = i; out = ap₂ ◌||◌ p q }

    inner : (n : ℕ) → in_run lo hi n ≡ true → in_run x.0 x.1 n ≡ true → (nat_le x.0 lo ≡ false) ⊎ (nat_le hi x.1 ≡ false) → Missed lo hi (x ∷ xs)
    inner n i j (inl k) =
        let inside : (lo ≤ n) × (n < hi) = in_parts lo hi n i in
        let lo_before : lo < x.0 = leb-false x.0 lo k in
        both lo (in_from lo hi lo (omega arith) (omega (arith, inside.0, inside.1))) (not_in x.0 x.1 lo (inl lo_before)) (none_below (x.1 + 1) lo xs (omega (arith, a.1)) a.2)
    inner n i j (inr k) =
        let inside : (lo ≤ n) × (n < hi) = in_parts lo hi n i in
        let in_x : (x.0 ≤ n) × (n < x.1) = in_parts x.0 x.1 n j in
        let hi_behind : x.1 < hi = leb-false hi x.1 k in
        both x.1 (in_from lo hi x.1 (omega (arith, inside.0, in_x.1)) hi_behind) (not_in x.0 x.1 x.1 (inr (omega arith))) (none_below (x.1 + 1) x.1 xs (omega arith) a.2)

    go : ((nat_le x.0 lo && nat_le hi x.1) ≡ false) × (covers_run lo hi xs ≡ false) → (covers_run lo hi xs ≡ false → Missed lo hi xs) → Missed lo hi (x ∷ xs)
    go p rest = by_in (in_run x.0 x.1 (rest p.1).number) refl
      where
        by_in : (b : Bool) → in_run x.0 x.1 (rest p.1).number ≡ b → Missed lo hi (x ∷ xs)
        by_in true k = inner (rest p.1).number (rest p.1).inside k (and_cases (nat_le x.0 lo) (nat_le hi x.1) p.0)
        by_in false k = both (rest p.1).number (rest p.1).inside k (rest p.1).out

pub covers_all : (from lo hi : ℕ) (runs : Runs) → AreApart from runs → (covers_run lo hi runs ≡ true) ↔ AllIn lo hi runs
covers_all from lo hi runs a = (covers_true lo hi runs, λ all. by_test (covers_run lo hi runs) refl all)
  where
    by_test : (b : Bool) → covers_run lo hi runs ≡ b → AllIn lo hi runs → b ≡ true
    by_test true e all = refl
    by_test false e all = let missed : Missed lo hi runs = covers_false from lo hi runs a e in absurd (true≢false (sym (all missed.number missed.inside) ∙ missed.out))
