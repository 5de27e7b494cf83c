-- What lies before and behind the numbers of a run is passed over.
use Rattle.std.proofs.Common.{◌≡◌, ℕ, zero, suc, ◌+◌, ◌<◌, ◌≤◌, ◌&&◌, ◌||◌, Bool, true, false, nat_lt, nat_le, min, max, [], ◌∷◌, ◌++◌, length, take, drop, get_or, if◌then◌else◌, refl, ap, ap₂, sym, ◌∙◌, ◌⊎◌, inl, inr, arith, true≢false}
use Rattle.std.specs.List.Sorted.{IsNonDecreasingBy, IsPartitionPoint}
use Rattle.std.proofs.lemmas.Bool.{ltb-true, ltb-false, leb-true, leb-false, lt-ltb, le-ltb, le-leb, lt-leb, or_cases, and_parts}
use Rattle.wg_num.specs.Runs.{Runs, AreApart, insert_run, with_run, full_run, cut_runs, missing_runs, covers_run}
use Rattle.wg_num.proofs.Members.{later}

pub apart_drop : (from k : ℕ) (runs : Runs) → AreApart from runs → AreApart from (drop k runs)
apart_drop from zero runs a = a
apart_drop from (suc k) [] a = tt
apart_drop from (suc k) (x ∷ xs) a = later (x.1 + 1) from (drop k xs) (omega (arith, a.0, a.1)) (apart_drop (x.1 + 1) k xs a.2)

ends_past : (from : ℕ) (runs : Runs) (k : ℕ) (d : ℕ × ℕ) → AreApart from runs → k < length runs → from ≤ (get_or runs k d).1
ends_past from [] k d a l = absurd (omega (arith, l))
ends_past from (x ∷ xs) zero d a l = omega (arith, a.0, a.1)
ends_past from (x ∷ xs) (suc k) d a l = let rest : x.1 + 1 ≤ (get_or xs k d).1 = ends_past (x.1 + 1) xs k d a.2 (omega (arith, l)) in omega (arith, a.0, a.1, rest)

-- The ends of runs that are apart rise.
pub ends_rise : (from : ℕ) (runs : Runs) → AreApart from runs → IsNonDecreasingBy (λ (run : ℕ × ℕ). run.1) runs
ends_rise from [] a i j d le lt = absurd (omega (arith, lt))
ends_rise from (x ∷ xs) a zero zero d le lt = omega arith
ends_rise from (x ∷ xs) a zero (suc j) d le lt = let rest : x.1 + 1 ≤ (get_or xs j d).1 = ends_past (x.1 + 1) xs j d a.2 (omega (arith, lt)) in omega (arith, rest)
ends_rise from (x ∷ xs) a (suc i) zero d le lt = absurd (omega (arith, le))
ends_rise from (x ∷ xs) a (suc i) (suc j) d le lt = ends_rise (x.1 + 1) xs a.2 i j d (omega (arith, le)) (omega (arith, lt))

abbrev EndsBelow : ℕ → Runs → ℕ → Type 0
EndsBelow lo runs k = IsPartitionPoint (λ (run : ℕ × ℕ). nat_lt run.1 lo ≡ true) (λ (run : ℕ × ℕ). nat_lt run.1 lo ≡ false) runs k

abbrev EndsBy : ℕ → Runs → ℕ → Type 0
EndsBy lo runs k = IsPartitionPoint (λ (run : ℕ × ℕ). nat_le run.1 lo ≡ true) (λ (run : ℕ × ℕ). nat_le run.1 lo ≡ false) runs k

pub with_before : (lo hi k : ℕ) (runs : Runs) → k ≤ length runs → EndsBelow lo runs k → take k runs ++ with_run lo hi (drop k runs) ≡ with_run lo hi runs
with_before lo hi zero runs le point = refl
with_before lo hi (suc k) [] le point = absurd (omega (arith, le))
with_before lo hi (suc k) (x ∷ xs) le point =
    ap (λ rest. x ∷ rest) (with_before lo hi k xs (omega (arith, le)) (λ i d a b. point.0 (suc i) d (omega arith) (omega (arith, b)), λ i d a b. point.1 (suc i) d (omega (arith, a)) (omega (arith, b))))
    ∙ ap (λ b. if b then x ∷ with_run lo hi xs else (if nat_lt hi x.0 then (lo, hi) ∷ (x ∷ xs) else with_run (min lo x.0) (max hi x.1) xs)) (sym (point.0 0 x (omega arith) (omega arith)))

no_run : (lo hi : ℕ) → hi ≤ lo → full_run lo hi ≡ []
no_run lo hi le = ap (λ b. if b then (lo, hi) ∷ [] else []) (le-ltb lo hi le)

a_run : (lo hi : ℕ) → lo < hi → full_run lo hi ≡ (lo, hi) ∷ []
a_run lo hi lt = ap (λ b. if b then (lo, hi) ∷ [] else []) (lt-ltb lo hi lt)

cut_one_before : (lo hi : ℕ) (x : ℕ × ℕ) → lo < hi → x.0 < x.1 → x.1 ≤ lo → full_run x.0 (min x.1 lo) ++ full_run (max x.0 hi) x.1 ≡ x ∷ []
cut_one_before lo hi x full has ends =
    let left : min x.1 lo ≡ x.1 = omega (arith, ends) in
    ap₂ ◌++◌ (ap (full_run x.0) left ∙ a_run x.0 x.1 has) (no_run (max x.0 hi) x.1 (omega (arith, full, ends)))

cut_one_behind : (lo hi : ℕ) (x : ℕ × ℕ) → lo < hi → x.0 < x.1 → hi ≤ x.0 → full_run x.0 (min x.1 lo) ++ full_run (max x.0 hi) x.1 ≡ x ∷ []
cut_one_behind lo hi x full has begins =
    let right : max x.0 hi ≡ x.0 = omega (arith, begins) in
    ap₂ ◌++◌ (no_run x.0 (min x.1 lo) (omega (arith, full, begins))) (ap (λ from. full_run from x.1) right ∙ a_run x.0 x.1 has)

pub cut_before : (from lo hi k : ℕ) (runs : Runs) → lo < hi → AreApart from runs → k ≤ length runs → EndsBy lo runs k → take k runs ++ cut_runs lo hi (drop k runs) ≡ cut_runs lo hi runs
cut_before from lo hi zero runs full a le point = refl
cut_before from lo hi (suc k) [] full a le point = absurd (omega (arith, le))
cut_before from lo hi (suc k) (x ∷ xs) full a le point =
    ap (λ rest. x ∷ rest) (cut_before (x.1 + 1) lo hi k xs full a.2 (omega (arith, le)) (λ i d b c. point.0 (suc i) d (omega arith) (omega (arith, c)), λ i d b c. point.1 (suc i) d (omega (arith, b)) (omega (arith, c))))
    ∙ ap (λ one. one ++ cut_runs lo hi xs) (sym (cut_one_before lo hi x full a.1 (leb-true x.1 lo (point.0 0 x (omega arith) (omega arith)))))

pub cut_behind : (from lo hi : ℕ) (runs : Runs) → lo < hi → hi ≤ from → AreApart from runs → runs ≡ cut_runs lo hi runs
cut_behind from lo hi [] full past a = refl
cut_behind from lo hi (x ∷ xs) full past a =
    ap (λ rest. x ∷ rest) (cut_behind (x.1 + 1) lo hi xs full (omega (arith, past, a.0, a.1)) a.2)
    ∙ ap (λ one. one ++ cut_runs lo hi xs) (sym (cut_one_behind lo hi x full a.1 (omega (arith, past, a.0))))

pub missing_before : (from lo hi k : ℕ) (runs : Runs) → AreApart from runs → k ≤ length runs → EndsBy lo runs k → missing_runs lo hi (drop k runs) ≡ missing_runs lo hi runs
missing_before from lo hi zero runs a le point = refl
missing_before from lo hi (suc k) [] a le point = absurd (omega (arith, le))
missing_before from lo hi (suc k) (x ∷ xs) a le point =
    let ends : x.1 ≤ lo = leb-true x.1 lo (point.0 0 x (omega arith) (omega arith)) in
    let same : lo ≡ max lo x.1 = omega (arith, ends) in
    missing_before (x.1 + 1) lo hi k xs a.2 (omega (arith, le)) (λ i d b c. point.0 (suc i) d (omega arith) (omega (arith, c)), λ i d b c. point.1 (suc i) d (omega (arith, b)) (omega (arith, c)))
    ∙ (ap (λ from. missing_runs from hi xs) same
    ∙ ap (λ one. one ++ missing_runs (max lo x.1) hi xs) (sym (no_run lo (min hi x.0) (omega (arith, ends, a.1)))))

none_missing : (lo hi : ℕ) (runs : Runs) → hi ≤ lo → missing_runs lo hi runs ≡ []
none_missing lo hi [] le = no_run lo hi le
none_missing lo hi (x ∷ xs) le = ap₂ ◌++◌ (no_run lo (min hi x.0) (omega (arith, le))) (none_missing (max lo x.1) hi xs (omega (arith, le)))

pub missing_behind : (from lo hi : ℕ) (runs : Runs) → hi ≤ from → AreApart from runs → missing_runs lo hi runs ≡ full_run lo hi
missing_behind from lo hi [] past a = refl
missing_behind from lo hi (x ∷ xs) past a =
    let whole : min hi x.0 ≡ hi = omega (arith, past, a.0) in
    ap₂ ◌++◌ (ap (full_run lo) whole) (none_missing (max lo x.1) hi xs (omega (arith, past, a.0, a.1)))
    ∙ append_none (full_run lo hi)
  where
    append_none : (xs : Runs) → xs ++ [] ≡ xs
    append_none [] = refl
    append_none (x ∷ xs) = ap (λ rest. x ∷ rest) (append_none xs)

-- The same from a place on whose run begins behind.
pub cut_from : (from lo hi k : ℕ) (runs : Runs) (d : ℕ × ℕ) → lo < hi → k < length runs → hi ≤ (get_or runs k d).0 → AreApart from runs → drop k runs ≡ cut_runs lo hi (drop k runs)
cut_from from lo hi zero (x ∷ xs) d full lt past a = cut_behind x.0 lo hi (x ∷ xs) full past (omega arith, a.1, a.2)
cut_from from lo hi k [] d full lt past a = absurd (omega (arith, lt))
cut_from from lo hi (suc k) (x ∷ xs) d full lt past a = cut_from (x.1 + 1) lo hi k xs d full (omega (arith, lt)) past a.2

pub missing_from : (from lo hi k : ℕ) (runs : Runs) (d : ℕ × ℕ) → k < length runs → hi ≤ (get_or runs k d).0 → AreApart from runs → missing_runs lo hi (drop k runs) ≡ full_run lo hi
missing_from from lo hi zero (x ∷ xs) d lt past a = missing_behind x.0 lo hi (x ∷ xs) past (omega arith, a.1, a.2)
missing_from from lo hi k [] d lt past a = absurd (omega (arith, lt))
missing_from from lo hi (suc k) (x ∷ xs) d lt past a = missing_from (x.1 + 1) lo hi k xs d (omega (arith, lt)) past a.2

-- Runs that end early do not cover a run,
pub covers_before : (lo hi k : ℕ) (runs : Runs) → k ≤ length runs → EndsBelow hi runs k → covers_run lo hi (drop k runs) ≡ covers_run lo hi runs
covers_before lo hi zero runs le point = refl
covers_before lo hi (suc k) [] le point = absurd (omega (arith, le))
covers_before lo hi (suc k) (x ∷ xs) le point =
    covers_before lo hi k xs (omega (arith, le)) (λ i d a b. point.0 (suc i) d (omega arith) (omega (arith, b)), λ i d a b. point.1 (suc i) d (omega (arith, a)) (omega (arith, b)))
    ∙ ap (λ t. t || covers_run lo hi xs) (sym (ap (λ t. nat_le x.0 lo && t) short ∙ and_false (nat_le x.0 lo)))
  where
    ends : x.1 < hi
    ends = ltb-true x.1 hi (point.0 0 x (omega arith) (omega arith))

    short : nat_le hi x.1 ≡ false
    short = lt-leb hi x.1 ends

    and_false : (b : Bool) → (b && false) ≡ false
    and_false true = refl
    and_false false = refl

-- nor do runs that begin late,
covers_behind : (from lo hi : ℕ) (runs : Runs) → lo < hi → lo < from → AreApart from runs → covers_run lo hi runs ≡ false
covers_behind from lo hi [] full past a = lt-leb hi lo full
covers_behind from lo hi (x ∷ xs) full past a =
    ap₂ ◌||◌ (ap (λ t. t && nat_le hi x.1) (lt-leb x.0 lo (omega (arith, past, a.0)))) (covers_behind (x.1 + 1) lo hi xs full (omega (arith, past, a.0, a.1)) a.2)

-- so that the first one that ends late enough tells.
pub covers_at : (from lo hi k : ℕ) (runs : Runs) (d : ℕ × ℕ) → lo < hi → AreApart from runs → k < length runs → nat_lt (get_or runs k d).1 hi ≡ false → covers_run lo hi (drop k runs) ≡ nat_le (get_or runs k d).0 lo
covers_at from lo hi k [] d full a lt late = absurd (omega (arith, lt))
covers_at from lo hi (suc k) (x ∷ xs) d full a lt late = covers_at (x.1 + 1) lo hi k xs d full a.2 (omega (arith, lt)) late
covers_at from lo hi zero (x ∷ xs) d full a lt late =
    ap (λ t. (nat_le x.0 lo && t) || covers_run lo hi xs) (le-leb hi x.1 (ltb-false x.1 hi late)) ∙ by_test (nat_le x.0 lo) refl
  where
    by_test : (b : Bool) → nat_le x.0 lo ≡ b → ((b && true) || covers_run lo hi xs) ≡ b
    by_test true e = refl
    by_test false e = covers_behind (x.1 + 1) lo hi xs full (let begins : lo < x.0 = leb-false x.0 lo e in omega (arith, begins, a.1)) a.2

pub covers_past : (lo hi k : ℕ) (runs : Runs) → lo < hi → length runs ≤ k → covers_run lo hi (drop k runs) ≡ false
covers_past lo hi zero [] full le = lt-leb hi lo full
covers_past lo hi (suc k) [] full le = lt-leb hi lo full
covers_past lo hi zero (x ∷ xs) full le = absurd (omega (arith, le))
covers_past lo hi (suc k) (x ∷ xs) full le = covers_past lo hi k xs full (omega (arith, le))

pub covers_none : (lo hi : ℕ) (runs : Runs) → hi ≤ lo → covers_run lo hi runs ≡ true
covers_none lo hi [] le = le-leb hi lo le
covers_none lo hi (x ∷ xs) le = ap (λ t. (nat_le x.0 lo && nat_le hi x.1) || t) (covers_none lo hi xs le) ∙ or_true (nat_le x.0 lo && nat_le hi x.1)
  where
    or_true : (b : Bool) → (b || true) ≡ true
    or_true true = refl
    or_true false = refl

-- Covered runs stay as they are.
with_own : (from lo hi : ℕ) (runs : Runs) → lo < hi → hi < from → AreApart from runs → with_run lo hi runs ≡ (lo, hi) ∷ runs
with_own from lo hi [] full past a = refl
with_own from lo hi (x ∷ xs) full past a =
    ap (λ b. if b then x ∷ with_run lo hi xs else (if nat_lt hi x.0 then (lo, hi) ∷ (x ∷ xs) else with_run (min lo x.0) (max hi x.1) xs)) (le-ltb x.1 lo (omega (arith, full, past, a.0, a.1)))
    ∙ ap (λ b. if b then (lo, hi) ∷ (x ∷ xs) else with_run (min lo x.0) (max hi x.1) xs) (lt-ltb hi x.0 (omega (arith, past, a.0)))

covers_same : (from lo hi : ℕ) (runs : Runs) → lo < hi → AreApart from runs → covers_run lo hi runs ≡ true → with_run lo hi runs ≡ runs
covers_same from lo hi [] full a e = let none : hi ≤ lo = leb-true hi lo e in absurd (omega (arith, full, none))
covers_same from lo hi (x ∷ xs) full a e = by_case (or_cases (nat_le x.0 lo && nat_le hi x.1) (covers_run lo hi xs) e) (covers_same (x.1 + 1) lo hi xs full a.2)
  where
    by_case : ((nat_le x.0 lo && nat_le hi x.1) ≡ true) ⊎ (covers_run lo hi xs ≡ true) → (covers_run lo hi xs ≡ true → with_run lo hi xs ≡ xs) → with_run lo hi (x ∷ xs) ≡ x ∷ xs
    by_case (inl k) rest =
        let tests : (nat_le x.0 lo ≡ true) × (nat_le hi x.1 ≡ true) = and_parts (nat_le x.0 lo) (nat_le hi x.1) k in
        let begins : x.0 ≤ lo = leb-true x.0 lo tests.0 in
        let ends : hi ≤ x.1 = leb-true hi x.1 tests.1 in
        let first : min lo x.0 ≡ x.0 = omega (arith, begins) in
        let last : max hi x.1 ≡ x.1 = omega (arith, ends) in
        ap (λ b. if b then x ∷ with_run lo hi xs else (if nat_lt hi x.0 then (lo, hi) ∷ (x ∷ xs) else with_run (min lo x.0) (max hi x.1) xs)) (le-ltb x.1 lo (omega (arith, full, ends)))
        ∙ (ap (λ b. if b then (lo, hi) ∷ (x ∷ xs) else with_run (min lo x.0) (max hi x.1) xs) (le-ltb hi x.0 (omega (arith, full, begins)))
        ∙ (ap₂ (λ m n. with_run m n xs) first last ∙ with_own (x.1 + 1) x.0 x.1 xs a.1 (omega arith) a.2))
    by_case (inr k) later_same =
        ap (λ b. if b then x ∷ with_run lo hi xs else (if nat_lt hi x.0 then (lo, hi) ∷ (x ∷ xs) else with_run (min lo x.0) (max hi x.1) xs)) (lt-ltb x.1 lo (by_order (nat_lt lo (x.1 + 1)) refl))
        ∙ ap (λ rest. x ∷ rest) (later_same k)
      where
        by_order : (b : Bool) → nat_lt lo (x.1 + 1) ≡ b → x.1 < lo
        by_order true e = absurd (true≢false (sym k ∙ covers_behind (x.1 + 1) lo hi xs full (ltb-true lo (x.1 + 1) e) a.2))
        by_order false e = let past : x.1 + 1 ≤ lo = ltb-false lo (x.1 + 1) e in omega (arith, past)

pub insert_same : (lo hi : ℕ) (runs : Runs) → AreApart 0 runs → covers_run lo hi runs ≡ true → insert_run lo hi runs ≡ runs
insert_same lo hi runs a e = by_test (nat_lt lo hi) refl
  where
    by_test : (b : Bool) → nat_lt lo hi ≡ b → (if b then with_run lo hi runs else runs) ≡ runs
    by_test true f = covers_same 0 lo hi runs (ltb-true lo hi f) a e
    by_test false f = refl
