-- Sets of usages are read as they are printed.
use Rattle.std.specs.Prelude.{Some, None, Option, bit_and, map, filter, codes, bytes_eq}
use Rattle.std.specs.List.{list_all, join_with_byte}
use Rattle.std.specs.Option.{option_and_then, option_map}
use Rattle.std.proofs.Common.{◌≡◌, ℕ, zero, suc, ◌+◌, ◌*◌, ◌/◌, ◌%◌, ◌^◌, ◌<◌, ◌≤◌, ◌==◌, not, List, [], ◌∷◌, ◌++◌, length, Bool, true, false, cond, if◌then◌else◌, ap, sym, refl, ◌∙◌, arith, lit<, append-nil, append_assoc, ◌⊎◌, inl, inr}
use Rattle.std.proofs.Math.Nat.{pow-suc}
use Rattle.std.proofs.lemmas.Bool.{lt-ltb, ne_eqb, eq-eqb, and_parts, and_from}
use Rattle.std.proofs.lemmas.List.Folds.{list_all-append}
use Rattle.std.proofs.lemmas.Nat.{shr-shr}
use Rattle.std.proofs.lemmas.Nat.Bits.{and_pow}
use Rattle.std.proofs.lemmas.Slice.Eq.{bytes_eq-Decides}
use Rattle.wg_trace.specs.declared.usages.Usages.{Usages}
use Rattle.wg_print.specs.Items.{from_text}
use Rattle.wg_print.specs.UsageSets.{usage_words, chosen_words, words_text, usages_text}
use Rattle.wg_readtrace.specs.Words.{usage_word, with_bit, with_usage, set_from, usages, set_word}
use Rattle.wg_readtrace.specs.Forms.{◌>>=◌, from_word}
use Rattle.wg_readback.specs.Shapes.{IsSet, IsFrom}
use Rattle.wg_readback.proofs.Fields.{is_word_byte, AreWordBytes}

abbrev is_no_plus : ℕ → Bool
is_no_plus b = not (b == 43)

-- The usage of each row is told by its word, and its bit is greater than m and the bits before it together.
abbrev Grow : ℕ → List (ℕ × List ℕ) → Type 0
Grow m [] = Unit {0}
Grow m (row ∷ rows) = ((m < row.0) × (usage_word row.1 ≡ Some row.0) × AreWordBytes row.1 × (list_all is_no_plus row.1 ≡ true)) × Grow (m + row.0) rows

abbrev bits_of : List (ℕ × List ℕ) → ℕ
bits_of [] = 0
bits_of (row ∷ rows) = row.0 + bits_of rows

abbrev words_of : List (ℕ × List ℕ) → List (List ℕ)
words_of rows = map (λ w. w.1) rows

grow_lower : (k m : ℕ) (rows : List (ℕ × List ℕ)) → k ≤ m → Grow m rows → Grow k rows
grow_lower k m [] l h = tt
grow_lower k m (row ∷ rows) l h =
    let above : m < row.0 = h.0.0 in
    ((omega arith, h.0.1, h.0.2, h.0.3), grow_lower (k + row.0) (m + row.0) rows (omega arith) h.1)

plus_false : (b : ℕ) → is_no_plus b ≡ true → (b == 43) ≡ false
plus_false b h = by_test (b == 43) h
  where
    by_test : (t : Bool) → not t ≡ true → t ≡ false
    by_test true e = sym e
    by_test false e = refl

-- the bytes of a usage up to a plus, and up to the end
up_to_plus : (s : ℕ) (p w rest : List ℕ) → list_all is_no_plus w ≡ true → set_from s p (w ++ 43 ∷ rest) ≡ option_and_then (λ more. set_from more [] rest) (with_usage s (p ++ w))
up_to_plus s p [] rest h = ap (λ (x : List ℕ). option_and_then (λ more. set_from more [] rest) (with_usage s x)) (sym (append-nil p))
up_to_plus s p (b ∷ w) rest h =
    let parts : (is_no_plus b ≡ true) × (list_all is_no_plus w ≡ true) = and_parts (is_no_plus b) (list_all is_no_plus w) h in
    ap (λ (t : Bool). if t then option_and_then (λ more. set_from more [] (w ++ 43 ∷ rest)) (with_usage s p) else set_from s (p ++ b ∷ []) (w ++ 43 ∷ rest)) (plus_false b parts.0)
    ∙ (up_to_plus s (p ++ b ∷ []) w rest parts.1
    ∙ ap (λ (x : List ℕ). option_and_then (λ more. set_from more [] rest) (with_usage s x)) (append_assoc p (b ∷ []) w))

up_to_end : (s : ℕ) (p w : List ℕ) → list_all is_no_plus w ≡ true → set_from s p w ≡ with_usage s (p ++ w)
up_to_end s p [] h = ap (with_usage s) (sym (append-nil p))
up_to_end s p (b ∷ w) h =
    let parts : (is_no_plus b ≡ true) × (list_all is_no_plus w ≡ true) = and_parts (is_no_plus b) (list_all is_no_plus w) h in
    ap (λ (t : Bool). if t then option_and_then (λ more. set_from more [] w) (with_usage s p) else set_from s (p ++ b ∷ []) w) (plus_false b parts.0)
    ∙ (up_to_end s (p ++ b ∷ []) w parts.1 ∙ ap (with_usage s) (append_assoc p (b ∷ []) w))

bit_added : (s b : ℕ) (w : List ℕ) → s < b → usage_word w ≡ Some b → with_usage s w ≡ Some (s + b)
bit_added s b w l e = ap (with_bit s) e ∙ ap (λ (t : Bool). if t then Some (s + b) else None) (lt-ltb s b l)

-- words with a plus between each two are read as their bits together
joined_read : (s m : ℕ) (row : ℕ × List ℕ) (rows : List (ℕ × List ℕ)) → s ≤ m → Grow m (row ∷ rows)
    → set_from s [] (join_with_byte 43 (words_of (row ∷ rows))) ≡ Some (s + bits_of (row ∷ rows))
joined_read s m row [] l h =
    let above : m < row.0 = h.0.0 in
    up_to_end s [] row.1 h.0.3 ∙ (bit_added s row.0 row.1 (omega arith) h.0.1 ∙ ap Some (omega arith))
joined_read s m row (next ∷ rows) l h =
    let above : m < row.0 = h.0.0 in
    up_to_plus s [] row.1 (join_with_byte 43 (words_of (next ∷ rows))) h.0.3
    ∙ (ap (option_and_then (λ more. set_from more [] (join_with_byte 43 (words_of (next ∷ rows))))) (bit_added s row.0 row.1 (omega arith) h.0.1)
    ∙ (joined_read (s + row.0) (m + row.0) next rows (omega arith) h.1 ∙ ap Some (omega arith)))

joined_words : (m : ℕ) (rows : List (ℕ × List ℕ)) → Grow m rows → AreWordBytes (join_with_byte 43 (words_of rows))
joined_words m [] h = refl
joined_words m (row ∷ []) h = h.0.2
joined_words m (row ∷ next ∷ rows) h =
    list_all-append is_word_byte row.1 (43 ∷ join_with_byte 43 (words_of (next ∷ rows)))
    ∙ and_from (list_all is_word_byte row.1) (list_all is_word_byte (join_with_byte 43 (words_of (next ∷ rows)))) h.0.2 (joined_words (m + row.0) (next ∷ rows) h.1)

-- the rows whose usages a set has
abbrev chosen : ℕ → List (ℕ × List ℕ) → List (ℕ × List ℕ)
chosen set rows = filter (λ w. bit_and set w.0 == w.0) rows

chosen_grow : (set m : ℕ) (rows : List (ℕ × List ℕ)) → Grow m rows → Grow m (chosen set rows)
chosen_grow set m [] h = tt
chosen_grow set m (row ∷ rows) h = by_test (bit_and set row.0 == row.0) (chosen_grow set (m + row.0) rows h.1)
  where
    by_test : (t : Bool) → Grow (m + row.0) (chosen set rows) → Grow m (cond t (row ∷ chosen set rows) (chosen set rows))
    by_test true k = (h.0, k)
    by_test false k = grow_lower m (m + row.0) (chosen set rows) (omega arith) k

-- the bits are powers of two, from 2 ^ k on
abbrev Double : ℕ → List (ℕ × List ℕ) → Type 0
Double k [] = Unit {0}
Double k (row ∷ rows) = (row.0 ≡ 2 ^ k) × Double (suc k) rows

half : (set k q : ℕ) → set / 2 ^ k ≡ q → set / 2 ^ suc k ≡ q / 2
half set k q e = ap (λ (n : ℕ). set / 2 ^ n) (omega arith) ∙ (sym (shr-shr set k 1) ∙ ap (λ (n : ℕ). n / 2) e)

low_half : (q n : ℕ) → q < 2 ^ suc n → q / 2 < 2 ^ n
low_half q n l = let twice : 2 ^ suc n ≡ 2 ^ n * 2 = pow-suc 2 n in omega arith

power : (k : ℕ) → 0 < 2 ^ k
power zero = lit< tt
power (suc k) = let twice : 2 ^ suc k ≡ 2 ^ k * 2 = pow-suc 2 k in let more : 0 < 2 ^ k = power k in omega arith

add_odd : (h p : ℕ) → p + h * (p * 2) ≡ (h * 2 + 1) * p
add_odd h p = omega arith

add_even : (h p : ℕ) → h * (p * 2) ≡ (h * 2) * p
add_even h p = omega arith

one_bit : (set k q b : ℕ) (row : ℕ × List ℕ) → row.0 ≡ 2 ^ k → set / 2 ^ k ≡ q → q % 2 ≡ b → bit_and set row.0 ≡ b * 2 ^ k
one_bit set k q b row e f g = ap (bit_and set) e ∙ (and_pow set k ∙ ap (λ (n : ℕ). n * 2 ^ k) (ap (λ (n : ℕ). n % 2) f ∙ g))

no_bits : (q p : ℕ) → q ≡ 0 → 0 ≡ q * p
no_bits q p e = let none : 0 ≡ 0 * p = omega arith in none ∙ ap (λ (n : ℕ). n * p) (sym e)

bits_back : (set k q : ℕ) (rows : List (ℕ × List ℕ)) → Double k rows → set / 2 ^ k ≡ q → q < 2 ^ length rows → bits_of (chosen set rows) ≡ q * 2 ^ k
bits_back set k q [] d e l = no_bits q (2 ^ k) (omega arith)
bits_back set k q (row ∷ rows) d e l =
    by_bit (bit_cases q) (bits_back set (suc k) (q / 2) rows d.1 (half set k q e) (low_half q (length rows) l))
  where
    bit_cases : (n : ℕ) → (n % 2 ≡ 1) ⊎ (n % 2 ≡ 0)
    bit_cases n = grind arith

    twice : 2 ^ suc k ≡ 2 ^ k * 2
    twice = pow-suc 2 k

    by_bit : (q % 2 ≡ 1) ⊎ (q % 2 ≡ 0) → bits_of (chosen set rows) ≡ (q / 2) * 2 ^ suc k → bits_of (cond (bit_and set row.0 == row.0) (row ∷ chosen set rows) (chosen set rows)) ≡ q * 2 ^ k
    by_bit (inl odd) rest =
        let same : bit_and set row.0 ≡ row.0 = one_bit set k q 1 row d.0 e odd ∙ (omega arith ∙ sym d.0) in
        let sum : row.0 + bits_of (chosen set rows) ≡ 2 ^ k + (q / 2) * (2 ^ k * 2) = cc twice in
        let whole : (q / 2) * 2 + 1 ≡ q = omega arith in
        ap (λ (t : Bool). bits_of (cond t (row ∷ chosen set rows) (chosen set rows))) (eq-eqb (bit_and set row.0) row.0 same)
        ∙ (sum ∙ (add_odd (q / 2) (2 ^ k) ∙ ap (λ (n : ℕ). n * 2 ^ k) whole))
    by_bit (inr even) rest =
        let none : bit_and set row.0 ≡ 0 = one_bit set k q 0 row d.0 e even ∙ omega arith in
        let sum : bits_of (chosen set rows) ≡ (q / 2) * (2 ^ k * 2) = cc twice in
        let whole : (q / 2) * 2 ≡ q = omega arith in
        let some : 0 < 2 ^ k = power k in
        ap (λ (t : Bool). bits_of (cond t (row ∷ chosen set rows) (chosen set rows))) (ne_eqb (bit_and set row.0) row.0 (λ same. omega (arith, same, d.0)))
        ∙ (sum ∙ (add_even (q / 2) (2 ^ k) ∙ ap (λ (n : ℕ). n * 2 ^ k) whole))

table_grows : Grow 0 usage_words
table_grows = (
  (lit< tt, refl, refl, refl),
  (
    (lit< tt, refl, refl, refl),
    (
      (lit< tt, refl, refl, refl),
      (
        (lit< tt, refl, refl, refl),
        (
          (lit< tt, refl, refl, refl),
          (
            (lit< tt, refl, refl, refl),
            (
              (lit< tt, refl, refl, refl),
              (
                (lit< tt, refl, refl, refl),
                (
                  (lit< tt, refl, refl, refl),
                  (
                    (lit< tt, refl, refl, refl),
                    ((lit< tt, refl, refl, refl), ((lit< tt, refl, refl, refl), ((lit< tt, refl, refl, refl), tt))),
                  ),
                ),
              ),
            ),
          ),
        ),
      ),
    ),
  ),
)

table_doubles : Double 0 usage_words
table_doubles = (refl, (refl, (refl, (refl, (refl, (refl, (refl, (refl, (refl, (refl, (refl, (refl, (refl, tt)))))))))))))

chosen_read : (rows : List (ℕ × List ℕ)) → Grow 0 rows → 0 < bits_of rows → set_from 0 [] (join_with_byte 43 (words_of rows)) ≡ Some (bits_of rows)
chosen_read [] h l = absurd (omega arith)
chosen_read (row ∷ rows) h l = joined_read 0 0 row rows (omega arith) h ∙ ap Some (omega arith)

bits_same : (set : ℕ) → set < 8192 → bits_of (chosen set usage_words) ≡ set
bits_same set l = bits_back set 0 set usage_words table_doubles (omega arith) l ∙ omega arith

pub set_read : (set : Usages) → IsSet set → (set_word (usages_text set) ≡ Some set) × AreWordBytes (usages_text set)
unfolding usages_text words_text chosen_words
set_read set h =
    let same : bits_of (chosen set.0 usage_words) ≡ set.0 = bits_same set.0 h.1 in
    let grows : Grow 0 (chosen set.0 usage_words) = chosen_grow set.0 0 usage_words table_grows in
    (ap (option_map usages) (chosen_read (chosen set.0 usage_words) grows (omega arith) ∙ ap Some same), joined_words 0 (chosen set.0 usage_words) grows)

none_some : {A : Type 0} (x : A) (r : Option A) → r ≡ None → r ≡ Some x → ⊥
none_some x r e f = cc

not_none : (w : List ℕ) (set : Usages) → set_word w ≡ Some set → bytes_eq w (codes "none") ≡ false
not_none w set e = by_test (bytes_eq w (codes "none")) refl
  where
    by_test : (t : Bool) → bytes_eq w (codes "none") ≡ t → t ≡ false
    by_test true same = absurd (none_some set (set_word w) (ap set_word ((bytes_eq-Decides w (codes "none")).0 same)) e)
    by_test false same = refl

pub from_read : (from : Option Usages) → IsFrom from → (from_word (from_text from) ≡ Some from) × AreWordBytes (from_text from)
from_read None h = (refl, refl)
from_read (Some set) h =
    let read : (set_word (usages_text set) ≡ Some set) × AreWordBytes (usages_text set) = set_read set h in (
      ap (λ (t : Bool). if t then Some None else (set_word (usages_text set) >>= λ set. Some (Some set))) (not_none (usages_text set) set read.0)
          ∙ ap (λ (r : Option Usages). r >>= λ set. Some (Some set)) read.0,
      read.1,
    )
