-- The number that a word spells.
use Rattle.std.proofs.Common.{◌≡◌, ℕ, ◌<◌, ◌≤◌, ◌^◌, List, [], ◌∷◌, length, get_or, decimal, None, Result, Ok, Err, arith, ap, sym, ◌∙◌, eq-zero-or-pos, inl, inr}
use Rattle.std.specs.Int.{IsInRange}
use Rattle.std.specs.Result.{result_ok}
use Rattle.std.specs.Str.Parse.{AllDigits, digits_value, ParsesUnsigned}
use Rattle.std.proofs.lemmas.Fmt.{decimal_digit, decimal_nonempty, first_decimal, digits_decimal, decimal-digits_value, parse-decimal}
use Rattle.std.proofs.lemmas.Str.Parse.{IsNumeralModel, numerals_by_value, tells_digits, digit_at, parse_plain}
use Rattle.wg_top.specs.Words.{Spells}

-- what std says of texts of decimal digits
digits : IsNumeralModel (AllDigits 10) (digits_value 10)
digits = numerals_by_value (AllDigits 10) tells_digits

-- a number that is not 0 begins with a digit that is not 0
first_digit : (n : ℕ) → 1 ≤ n → n < 2 ^ 32 → IsInRange 49 57 (get_or (decimal n) 0 0)
first_digit n some small =
    let wide : n < 2 ^ 64 = omega arith in
    let digit : IsInRange 48 57 (get_or (decimal n) 0 0) = digit_at (decimal n) 0 (digits_decimal digits n wide) (decimal_nonempty n wide) in
    (omega (arith, first_decimal n some wide), digit.1)

-- a word that begins otherwise spells none
pub spells_none : (word : List ℕ) → (IsInRange 49 57 (get_or word 0 0) → ⊥) → Spells word None
spells_none word not_digit n some small is = not_digit (rw is (first_digit n some small))

-- and a number that begins so is not 0
not_zero : (word : List ℕ) (n : ℕ) → 49 ≤ get_or word 0 0 → word ≡ decimal n → 1 ≤ n
not_zero word n first is = elim (eq-zero-or-pos n) [ inl zero_is ↦ absurd (omega (arith, first, ap (λ (text : List ℕ). get_or text 0 0) (is ∙ ap decimal zero_is ∙ decimal_digit 0 (omega arith)))) | inr some ↦ some ]

-- a word that begins so spells what is read of it
pub spells_parsed : {E : Type 0} (word : List ℕ) (r : Result ℕ E) → 49 ≤ get_or word 0 0 → ParsesUnsigned 32 10 word r → Spells word (result_ok r)
spells_parsed {E = E} word (Ok n) first parsed =
    let read : (AllDigits 10 word × (0 < length word) × (digits_value 10 word < 2 ^ 32)) × (n ≡ digits_value 10 word) = parse_plain digits {E = E} 32 word (Ok n) parsed (λ e. omega arith) in
    let written : decimal (digits_value 10 word) ≡ word = decimal-digits_value digits word read.0.0 read.0.1 (λ e. absurd (omega arith)) (omega (arith, read.0.2)) in
    let is : word ≡ decimal n = sym (ap decimal read.1 ∙ written) in
    (not_zero word n first is, omega (arith, read.0.2, read.1), is)
spells_parsed {E = E} word (Err e) first parsed = λ n some small is. let found : Err e ≡ Ok n = parse-decimal {E = E} 32 n word (Err e) small (omega arith) is parsed in cc

-- an empty word spells none
pub spells_empty : (word : List ℕ) → length word < 1 → Spells word None
spells_empty [] short = spells_none [] (λ range. omega (arith, range.0))
spells_empty (x ∷ xs) short = absurd (omega arith)
