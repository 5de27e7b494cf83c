-- Words with a space before each, and what is read of them.
use Rattle.std.specs.Prelude.{Some, Option, nat_lt, nat_le}
use Rattle.std.specs.List.{list_all}
use Rattle.std.proofs.Common.{◌≡◌, ℕ, suc, ◌<◌, ◌==◌, ◌&&◌, List, [], ◌∷◌, ◌++◌, length, take, drop, Bool, true, false, if◌then◌else◌, ap, sym, refl, ◌∙◌, arith}
use Rattle.std.proofs.lemmas.List.{take_at, drop_at}
use Rattle.std.proofs.lemmas.List.Folds.{list_all-append}
use Rattle.std.proofs.lemmas.Bool.{le-leb, ltb-true, ne_eqb, and_parts, and_from}
use Rattle.wg_readtrace.specs.Words.{gap_len, field}
use Rattle.wg_readtrace.specs.Forms.{◌>>=◌, word_as}

-- a byte of a word: no space and no line end
abbrev pub is_word_byte : ℕ → Bool
is_word_byte b = nat_lt 32 b && nat_le b 126

abbrev pub AreWordBytes : List ℕ → Type 0
AreWordBytes w = list_all is_word_byte w ≡ true

abbrev pub AreWords : List (List ℕ) → Type 0
AreWords [] = Unit {0}
AreWords (w ∷ ws) = AreWordBytes w × AreWords ws

-- the words with a space before each
abbrev pub fields : List (List ℕ) → List ℕ
fields [] = []
fields (w ∷ ws) = 32 ∷ (w ++ fields ws)

pub words_more : (ws vs : List (List ℕ)) → AreWords ws → AreWords vs → AreWords (ws ++ vs)
words_more [] vs h k = k
words_more (w ∷ ws) vs h k = (h.0, words_more ws vs h.1 k)

no_space : (b : ℕ) → is_word_byte b ≡ true → (b == 32) ≡ false
no_space b h = let above : 32 < b = ltb-true 32 b (and_parts (nat_lt 32 b) (nat_le b 126) h).0 in ne_eqb b 32 (λ e. omega (arith, e))

gap_fields : (ws : List (List ℕ)) → gap_len (fields ws) ≡ 0
gap_fields [] = refl
gap_fields (w ∷ ws) = refl

pub gap_word : (w : List ℕ) (ws : List (List ℕ)) → AreWordBytes w → gap_len (w ++ fields ws) ≡ length w
gap_word [] ws h = gap_fields ws
gap_word (b ∷ w) ws h =
    let parts : (is_word_byte b ≡ true) × (list_all is_word_byte w ≡ true) = and_parts (is_word_byte b) (list_all is_word_byte w) h in
    ap (λ (t : Bool). if t then 0 else suc (gap_len (w ++ fields ws))) (no_space b parts.0) ∙ ap suc (gap_word w ws parts.1)

pub first_word : (w : List ℕ) (ws : List (List ℕ)) → AreWordBytes w → take (gap_len (w ++ fields ws)) (w ++ fields ws) ≡ w
first_word w ws h = take_at w (fields ws) (gap_len (w ++ fields ws)) (sym (gap_word w ws h))

pub later_words : (w : List ℕ) (ws : List (List ℕ)) → AreWordBytes w → drop (gap_len (w ++ fields ws)) (w ++ fields ws) ≡ fields ws
later_words w ws h = drop_at w (fields ws) (gap_len (w ++ fields ws)) (sym (gap_word w ws h))

pub field_read : (w : List ℕ) (ws : List (List ℕ)) → AreWordBytes w → field (fields (w ∷ ws)) ≡ Some (w, fields ws)
field_read w ws h = ap (λ (x : List ℕ). Some (x, drop (gap_len (w ++ fields ws)) (w ++ fields ws))) (first_word w ws h) ∙ ap (λ (x : List ℕ). Some (w, x)) (later_words w ws h)

-- what follows a reading that gives x
pub then_as : {A B : Type 0} (r : Option A) (x : A) (f : A → Option B) → r ≡ Some x → (r >>= f) ≡ f x
then_as r x f e = ap (λ r. r >>= f) e

pub word_read : {A : Type 0} (f : List ℕ → Option A) (w : List ℕ) (ws : List (List ℕ)) (x : A) → AreWordBytes w → f w ≡ Some x → word_as f (fields (w ∷ ws)) ≡ Some (x, fields ws)
word_read f w ws x h e =
    then_as (field (fields (w ∷ ws))) (w, fields ws) (λ v. f v.0 >>= λ y. Some (y, v.1)) (field_read w ws h)
    ∙ then_as (f w) x (λ y. Some (y, fields ws)) e

-- bytes of a line
abbrev pub is_line_byte : ℕ → Bool
is_line_byte b = nat_le 32 b && nat_le b 126

abbrev pub AreLineBytes : List ℕ → Type 0
AreLineBytes bs = list_all is_line_byte bs ≡ true

line_byte : (b : ℕ) → is_word_byte b ≡ true → is_line_byte b ≡ true
line_byte b h =
    let parts : (nat_lt 32 b ≡ true) × (nat_le b 126 ≡ true) = and_parts (nat_lt 32 b) (nat_le b 126) h in
    let above : 32 < b = ltb-true 32 b parts.0 in
    and_from (nat_le 32 b) (nat_le b 126) (le-leb 32 b (omega arith)) parts.1

pub line_bytes : (w : List ℕ) → AreWordBytes w → AreLineBytes w
line_bytes [] h = refl
line_bytes (b ∷ w) h =
    let parts : (is_word_byte b ≡ true) × (list_all is_word_byte w ≡ true) = and_parts (is_word_byte b) (list_all is_word_byte w) h in
    and_from (is_line_byte b) (list_all is_line_byte w) (line_byte b parts.0) (line_bytes w parts.1)

pub bytes_more : (xs ys : List ℕ) → AreLineBytes xs → AreLineBytes ys → AreLineBytes (xs ++ ys)
bytes_more xs ys h k = list_all-append is_line_byte xs ys ∙ and_from (list_all is_line_byte xs) (list_all is_line_byte ys) h k

pub fields_bytes : (ws : List (List ℕ)) → AreWords ws → AreLineBytes (fields ws)
fields_bytes [] h = refl
fields_bytes (w ∷ ws) h = bytes_more w (fields ws) (line_bytes w h.0) (fields_bytes ws h.1)
