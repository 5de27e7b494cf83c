-- What is found in the gaps of runs that are apart.
use Rattle.std.proofs.Common.{◌≡◌, ℕ, zero, suc, ◌+◌, ◌<◌, ◌≤◌, ◌&&◌, ◌||◌, not, Bool, true, false, nat_lt, nat_le, min, max, [], ◌∷◌, length, drop, if◌then◌else◌, refl, ap, ap₂, sym, subst, ◌∙◌, ◌⊎◌, inl, inr, arith}
use Rattle.std.specs.Prelude.{Option, Some, None}
use Rattle.std.specs.List.Sorted.{IsPartitionPoint}
use Rattle.std.proofs.lemmas.Bool.{cases_lt, lt-ltb, le-ltb, le-leb, lt-leb, leb-true}
use Rattle.wg_num.specs.Runs.{Runs, AreApart, in_run, is_in}
use Rattle.wg_cbtrack.specs.Gaps.{FindsFirst, gap, first_gap}

-- a number within a run, before it and behind it
within_run : (lo hi n : ℕ) → lo ≤ n → n < hi → in_run lo hi n ≡ true
within_run lo hi n a b = ap₂ (λ (p q : Bool). p && q) (le-leb lo n a) (lt-ltb n hi b)

before_run : (lo hi n : ℕ) → n < lo → in_run lo hi n ≡ false
before_run lo hi n a = ap (λ (p : Bool). p && nat_lt n hi) (lt-leb lo n a)

behind_run : (lo hi n : ℕ) → hi ≤ n → in_run lo hi n ≡ false
behind_run lo hi n a = ap (λ (q : Bool). nat_le lo n && q) (le-ltb n hi a) ∙ no (nat_le lo n)
  where
    no : (b : Bool) → (b && false) ≡ false
    no true = refl
    no false = refl

-- no number before runs is in one of them
none_before : (from n : ℕ) (runs : Runs) → AreApart from runs → n < from → is_in runs n ≡ false
none_before from n [] apart lt = refl
none_before from n (x ∷ xs) apart lt = ap₂ (λ (p q : Bool). p || q) (before_run x.0 x.1 n (omega (arith, apart.0, lt))) (none_before (x.1 + 1) n xs apart.2 (omega (arith, apart.0, apart.1, lt)))

-- a number of the first run is in the runs, and one behind it is in them where it is in the others
in_first : (x : ℕ × ℕ) (xs : Runs) (n : ℕ) → x.0 ≤ n → n < x.1 → not (is_in (x ∷ xs) n) ≡ false
in_first x xs n a b = ap (λ (p : Bool). not (p || is_in xs n)) (within_run x.0 x.1 n a b)

in_others : (x : ℕ × ℕ) (xs : Runs) (n : ℕ) → x.1 ≤ n → not (is_in (x ∷ xs) n) ≡ not (is_in xs n)
in_others x xs n a = ap (λ (p : Bool). not (p || is_in xs n)) (behind_run x.0 x.1 n a)

in_neither : (from : ℕ) (x : ℕ × ℕ) (xs : Runs) (n : ℕ) → AreApart from (x ∷ xs) → n < x.0 → not (is_in (x ∷ xs) n) ≡ true
in_neither from x xs n apart a = ap₂ (λ (p q : Bool). not (p || q)) (before_run x.0 x.1 n a) (none_before (x.1 + 1) n xs apart.2 (omega (arith, apart.1, a)))

-- Where all of a range passes, and what stands at its end does not, or that is the end of what is looked at.
finds_all : (test : ℕ → Bool) (lo to hi : ℕ) → to ≤ hi → ((n : ℕ) → lo ≤ n → n < to → test n ≡ true) → (to < hi → lo < to → test to ≡ false) → (hi ≤ lo ⊎ to ≡ hi) ⊎ (lo < to) → FindsFirst test lo hi (gap lo to)
finds_all test lo to hi le all end which = elim (cases_lt lo to) [
  | inl some ↦ subst (FindsFirst test lo hi) (sym (ap (λ (b : Bool). if b then Some (lo, to) else None) (lt-ltb lo to some)))
      (record { within = omega arith; some = some; to = le; before = λ n a b. absurd (omega (arith, a, b)); inside = all; ended = λ lt. end lt some })
  | inr none ↦ subst (FindsFirst test lo hi) (sym (ap (λ (b : Bool). if b then Some (lo, to) else None) (le-ltb lo to none)))
      (λ n a b. absurd (no_room n a b none which))
]
  where
    no_room : (n : ℕ) → lo ≤ n → n < hi → to ≤ lo → (hi ≤ lo ⊎ to ≡ hi) ⊎ (lo < to) → ⊥
    no_room n a b none (inl (inl past)) = omega (arith, a, b, past)
    no_room n a b none (inl (inr same)) = omega (arith, a, b, none, same)
    no_room n a b none (inr some) = omega (arith, none, some)

-- What is found from a later number on is found from an earlier one, where nothing between passes, and the tests agree from there on.
finds_later : (test other : ℕ → Bool) (lo from hi : ℕ) (found : Option (ℕ × ℕ)) → lo ≤ from → ((n : ℕ) → lo ≤ n → n < from → test n ≡ false) → ((n : ℕ) → from ≤ n → test n ≡ other n) → FindsFirst other from hi found → FindsFirst test lo hi found
finds_later test other lo from hi None le none same finds = λ n a b. elim (cases_lt n from) [
  | inl before ↦ none n a before
  | inr behind ↦ same n behind ∙ finds n behind b
]
finds_later test other lo from hi (Some run) le none same finds = record {
  within = omega (arith, le, finds.within);
  some = finds.some;
  to = finds.to;
  before = λ n a b. elim (cases_lt n from) [
    | inl before ↦ none n a before
    | inr behind ↦ same n behind ∙ finds.before n behind b
  ];
  inside = λ n a b. same n (omega (arith, finds.within, a)) ∙ finds.inside n a b;
  ended = λ lt. same run.1 (omega (arith, finds.within, finds.some)) ∙ finds.ended lt;
}

pub finds_gap : (from lo hi : ℕ) (runs : Runs) → AreApart from runs → FindsFirst (λ n. not (is_in runs n)) lo hi (first_gap lo hi runs)
finds_gap from lo hi [] apart = finds_all (λ n. true) lo hi hi (omega arith) (λ n a b. refl) (λ lt some. absurd (omega (arith, lt))) (inl (inr refl))
finds_gap from lo hi (x ∷ xs) apart = elim (cases_lt lo x.0) [
  | inl before ↦ subst (FindsFirst (λ n. not (is_in (x ∷ xs) n)) lo hi) (sym (ap (λ (b : Bool). if b then gap lo (min x.0 hi) else first_gap (max lo x.1) hi xs) (lt-ltb lo x.0 before)))
      (finds_all (λ n. not (is_in (x ∷ xs) n)) lo (min x.0 hi) hi (omega arith)
      (λ n a b. in_neither from x xs n apart (omega (arith, b)))
      (λ lt some. in_first x xs (min x.0 hi) (omega (arith, lt)) (omega (arith, lt, apart.1)))
      (either before))
  | inr behind ↦ subst (FindsFirst (λ n. not (is_in (x ∷ xs) n)) lo hi) (sym (ap (λ (b : Bool). if b then gap lo (min x.0 hi) else first_gap (max lo x.1) hi xs) (le-ltb lo x.0 behind)))
      (finds_later (λ n. not (is_in (x ∷ xs) n)) (λ n. not (is_in xs n)) lo (max lo x.1) hi (first_gap (max lo x.1) hi xs) (omega arith)
      (λ n a b. in_first x xs n (omega (arith, behind, a)) (omega (arith, a, b)))
      (λ n a. in_others x xs n (omega (arith, a)))
      (finds_gap (x.1 + 1) (max lo x.1) hi xs apart.2))
]
  where
    either : lo < x.0 → (hi ≤ lo ⊎ min x.0 hi ≡ hi) ⊎ (lo < min x.0 hi)
    either before = elim (cases_lt lo hi) [
      | inl some ↦ inr (omega (arith, before, some))
      | inr none ↦ inl (inl none)
    ]

abbrev EndsBy : ℕ → Runs → ℕ → Type 0
EndsBy lo runs k = IsPartitionPoint (λ (run : ℕ × ℕ). nat_le run.1 lo ≡ true) (λ (run : ℕ × ℕ). nat_le run.1 lo ≡ false) runs k

-- runs that end before a range are passed over
pub gap_before : (from lo hi k : ℕ) (runs : Runs) → AreApart from runs → k ≤ length runs → EndsBy lo runs k → first_gap lo hi (drop k runs) ≡ first_gap lo hi runs
gap_before from lo hi zero runs a le point = refl
gap_before from lo hi (suc k) [] a le point = absurd (omega (arith, le))
gap_before from lo hi (suc k) (x ∷ xs) a le point =
    let ends : x.1 ≤ lo = leb-true x.1 lo (point.0 0 x (omega arith) (omega arith)) in
    let same : max lo x.1 ≡ lo = omega (arith, ends) in
    gap_before (x.1 + 1) lo hi k xs a.2 (omega (arith, le)) (λ i d b c. point.0 (suc i) d (omega arith) (omega (arith, c)), λ i d b c. point.1 (suc i) d (omega (arith, b)) (omega (arith, c)))
    ∙ (ap (λ (n : ℕ). first_gap n hi xs) (sym same)
    ∙ sym (ap (λ (b : Bool). if b then gap lo (min x.0 hi) else first_gap (max lo x.1) hi xs) (le-ltb lo x.0 (omega (arith, a.1, ends)))))
