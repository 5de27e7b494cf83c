-- Tests on lists, and the first unmet rule of two lists.
use Rattle.std.proofs.Common.{◌≡◌, ℕ, ◌<◌, ◌≤◌, List, [], ◌∷◌, ◌++◌, Bool, true, false, not, ◌||◌, Option, Some, None, is_none, refl, ap₂, sym, ◌∙◌, arith, true≢false, ◌⊎◌, inl, inr}
use Rattle.std.specs.List.{list_any}
use Rattle.std.proofs.lemmas.Bool.{or_cases, or_left, or_right}
use Rattle.std.specs.Option.{option_or}
use Rattle.wg_model.specs.Rules.{Rule, AreMet}
use Rattle.wg_model.proofs.Sparing.{or_first}

pub not_true : (b : Bool) → not b ≡ true → b ≡ false
not_true true h = absurd (true≢false (sym h))
not_true false h = refl

-- a test that holds no more did not hold before
pub was_not : (a b : Bool) → (a || b) ≡ false → b ≡ false
was_not true b e = absurd (true≢false e)
was_not false b e = e

-- a test that would put an object below its number fails
pub fails : (b : Bool) (c n : ℕ) → c ≤ n → (b ≡ true → n < c) → b ≡ false
fails true c n le below = absurd (let lt = below refl in omega (arith, lt, le))
fails false c n le below = refl

-- A test that passes wherever another does passes on a list where that does.
pub any_grows : {X : Type 0} (p q : X → Bool) → ((x : X) → q x ≡ true → p x ≡ true) → (xs : List X) → list_any q xs ≡ true → list_any p xs ≡ true
any_grows p q grows [] e = e
any_grows p q grows (x ∷ xs) e = by_cases (or_cases (q x) (list_any q xs) e) (any_grows p q grows xs)
  where
    by_cases : (q x ≡ true) ⊎ (list_any q xs ≡ true) → (list_any q xs ≡ true → list_any p xs ≡ true) → (p x || list_any p xs) ≡ true
    by_cases (inl here) rest = or_left (p x) (list_any p xs) (grows x here)
    by_cases (inr later) rest = or_right (p x) (list_any p xs) (rest later)

pub met_after : (rules more : List Rule) → AreMet (rules ++ more) → AreMet more
met_after [] more met = met
met_after (rule ∷ rules) more met = met_after rules more met.1

pub met_before : (rules more : List Rule) → AreMet (rules ++ more) → AreMet rules
met_before [] more met = tt
met_before (rule ∷ rules) more met = (met.0, met_before rules more met.1)

pub neither : (first second : Option ℕ) → is_none (option_or first second) ≡ true → (is_none first ≡ true) × (is_none second ≡ true)
neither None second h = (refl, h)
neither (Some rule) second h = absurd (true≢false (sym h))

-- A test that passes only where one of two others does passes nowhere on a list where neither does.
pub none_either : {X : Type 0} (p q r : X → Bool) → ((x : X) → r x ≡ true → (p x || q x) ≡ true) → (xs : List X) → list_any p xs ≡ false → list_any q xs ≡ false → list_any r xs ≡ false
none_either p q r grows [] e f = refl
none_either p q r grows (x ∷ xs) e f = by_head (r x) (grows x) (or_first (p x) (list_any p xs) e) (or_first (q x) (list_any q xs) f) (none_either p q r grows xs (was_not (p x) (list_any p xs) e) (was_not (q x) (list_any q xs) f))
  where
    by_head : (b : Bool) → (b ≡ true → (p x || q x) ≡ true) → p x ≡ false → q x ≡ false → list_any r xs ≡ false → (b || list_any r xs) ≡ false
    by_head true h e f rest = absurd (true≢false (sym (h refl) ∙ ap₂ ◌||◌ e f))
    by_head false h e f rest = rest
