-- Numbers are read as they are printed.
use Rattle.std.specs.Prelude.{Some, None, Option, nat_lt, nat_le, decimal}
use Rattle.std.specs.List.{list_all}
use Rattle.std.specs.Fmt.{digits as printed_digits, digits_onto, digit_glyph}
use Rattle.std.proofs.Common.{◌≡◌, ℕ, zero, suc, ◌+◌, ◌-◌, ◌*◌, ◌/◌, ◌%◌, ◌<◌, ◌≤◌, ◌^◌, ◌==◌, ◌&&◌, ◌||◌, List, [], ◌∷◌, ◌++◌, length, get_or, Bool, true, false, if◌then◌else◌, ap, refl, ◌∙◌, arith}
use Rattle.std.proofs.lemmas.Bool.{lt-ltb, le-ltb, le-leb, and_from}
use Rattle.std.proofs.lemmas.Fmt.{decimal_by_steps, decimal_nonempty, first_decimal, decimal_digit}
use Rattle.wg_readtrace.specs.Words.{digits, number_word}
use Rattle.wg_readback.proofs.Fields.{is_word_byte, AreWordBytes}

digits_one : (most n b : ℕ) (bs : List ℕ) → 48 ≤ b → b ≤ 57 → n * 10 + (b - 48) ≤ most → digits most n (b ∷ bs) ≡ digits most (n * 10 + (b - 48)) bs
digits_one most n b bs lo hi small = rw (le-ltb b 48 lo, le-ltb 57 b hi, le-ltb most (n * 10 + (b - 48)) small) refl

by_tests : (s t : Bool) (x y : Option ℕ) (m : ℕ) (z : Option ℕ) → (x ≡ Some m → y ≡ z)
    → (if s then None else (if t then None else x)) ≡ Some m → (if s then None else (if t then None else y)) ≡ z
by_tests true t x y m z h e = cc
by_tests false true x y m z h e = cc
by_tests false false x y m z h e = h e

digits_then : (most n m : ℕ) (xs ys : List ℕ) → digits most n xs ≡ Some m → digits most n (xs ++ ys) ≡ digits most m ys
digits_then most n m [] ys e = ap (λ (k : ℕ). digits most k ys) (cc)
digits_then most n m (b ∷ xs) ys e =
    by_tests (nat_lt b 48 || nat_lt 57 b) (nat_lt most (n * 10 + (b - 48))) (digits most (n * 10 + (b - 48)) xs) (digits most (n * 10 + (b - 48)) (xs ++ ys)) m (digits most m ys)
    (λ h. digits_then most (n * 10 + (b - 48)) m xs ys h) e

-- digits of a number are read as it
abbrev Shows : ℕ → List ℕ → Type 0
Shows n ds = (most : ℕ) → n ≤ most → digits most 0 ds ≡ Some n

one_digit : (n : ℕ) → n < 10 → Shows n ((48 + n) ∷ [])
one_digit n l most small =
    digits_one most 0 (48 + n) [] (omega arith) (omega arith) (omega arith) ∙ ap Some (omega arith)

digit_more : (n : ℕ) (ds : List ℕ) → 10 ≤ n → Shows (n / 10) ds → Shows n (ds ++ ((48 + n % 10) ∷ []))
digit_more n ds l h most small =
    digits_then most 0 (n / 10) ds ((48 + n % 10) ∷ []) (h most (omega arith))
    ∙ (digits_one most (n / 10) (48 + n % 10) [] (omega arith) (omega arith) (omega arith) ∙ ap Some (omega arith))

shown : (n : ℕ) → n < 2 ^ 64 → Shows n (decimal n)
shown n l = decimal_by_steps Shows one_digit digit_more n l

-- digits without a zero in front, or one alone, are a number
unled : (most : ℕ) (ds : List ℕ) → 0 < length ds → (get_or ds 0 0 ≡ 48 → length ds ≡ 1) → number_word most ds ≡ digits most 0 ds
unled most [] l h = absurd (omega arith)
unled most (b ∷ bs) l h = by_first (b == 48) (nat_lt 1 (length (b ∷ bs))) refl refl
  where
    by_first : (s t : Bool) → (b == 48) ≡ s → nat_lt 1 (length (b ∷ bs)) ≡ t → (if s && t then None else digits most 0 (b ∷ bs)) ≡ digits most 0 (b ∷ bs)
    by_first false t e k = refl
    by_first true false e k = refl
    by_first true true e k = absurd (grind (arith, h))

first_of_none : decimal 0 ≡ 48 ∷ []
first_of_none = decimal_digit 0 (omega arith)

zero_alone : (n : ℕ) → n < 2 ^ 64 → get_or (decimal n) 0 0 ≡ 48 → length (decimal n) ≡ 1
zero_alone zero l e = ap length first_of_none
zero_alone (suc n) l e = let above : 48 < get_or (decimal (suc n)) 0 0 = first_decimal (suc n) (omega arith) l in absurd (omega arith)

pub number_read : (most n : ℕ) → n ≤ most → most < 2 ^ 64 → number_word most (decimal n) ≡ Some n
number_read most n l small =
    let fits : n < 2 ^ 64 = omega arith in
    unled most (decimal n) (decimal_nonempty n fits) (zero_alone n fits) ∙ shown n fits most l

-- the digits of any number are bytes of a word
glyph_in_word : (d : ℕ) → d < 10 → is_word_byte (digit_glyph false d) ≡ true
glyph_in_word d l = rw (lt-ltb d 10 l) (and_from (nat_lt 32 (48 + d)) (nat_le (48 + d) 126) (lt-ltb 32 (48 + d) (omega arith)) (le-leb (48 + d) 126 (omega arith)))

digits_in_word : (k n : ℕ) (acc : List ℕ) → AreWordBytes acc → AreWordBytes (digits_onto k 10 false n acc)
digits_in_word zero n acc h = h
digits_in_word (suc k) n acc h = by_test (n / 10 == 0) (digits_in_word k (n / 10) (digit_glyph false (n % 10) ∷ acc) more)
  where
    more : AreWordBytes (digit_glyph false (n % 10) ∷ acc)
    more = and_from (is_word_byte (digit_glyph false (n % 10))) (list_all is_word_byte acc) (glyph_in_word (n % 10) (omega arith)) h

    by_test : (t : Bool) → AreWordBytes (digits_onto k 10 false (n / 10) (digit_glyph false (n % 10) ∷ acc))
        → AreWordBytes (if t then digit_glyph false (n % 10) ∷ acc else digits_onto k 10 false (n / 10) (digit_glyph false (n % 10) ∷ acc))
    by_test true rest = more
    by_test false rest = rest

pub decimal_word : (n : ℕ) → AreWordBytes (decimal n)
unfolding printed_digits
decimal_word n = digits_in_word 64 n [] refl
