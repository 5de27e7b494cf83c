-- The lines of a text that is put together from lines.
use Rattle.std.specs.Prelude.{Some, nat_le, codes, bytes_eq, map}
use Rattle.std.specs.List.{list_all, list_any}
use Rattle.std.proofs.Common.{◌≡◌, ℕ, suc, ◌+◌, ◌-◌, ◌<◌, ◌≤◌, ◌==◌, List, [], ◌∷◌, ◌++◌, length, get_or, Bool, true, false, if◌then◌else◌, ap, sym, refl, ◌∙◌, arith, length-append, true≢false}
use Rattle.std.proofs.lemmas.List.{get_or-append_right}
use Rattle.std.proofs.lemmas.List.Folds.{list_all-append}
use Rattle.std.proofs.lemmas.Bool.{leb-true, ne_eqb, and_parts, and_from, or_parts, or_right}
use Rattle.wg_readtrace.specs.declared.line.Line.{Line}
use Rattle.wg_readtrace.specs.Reading.{is_text_byte, ends_line, with_first, lines_of, behind_trace}
use Rattle.wg_readback.proofs.Fields.{is_line_byte, AreLineBytes}
use Rattle.wg_readback.proofs.Said.{said, line_said}
use Rattle.wg_readback.proofs.Lines.{AreLines, text_of}

no_end : (b : ℕ) → is_line_byte b ≡ true → (b == 10) ≡ false
no_end b h = let above : 32 ≤ b = leb-true 32 b (and_parts (nat_le 32 b) (nat_le b 126) h).0 in ne_eqb b 10 (λ e. omega (arith, e))

pub line_split : (w rest : List ℕ) → AreLineBytes w → lines_of (w ++ 10 ∷ rest) ≡ w ∷ lines_of rest
line_split [] rest h = refl
line_split (b ∷ w) rest h =
    let parts : (is_line_byte b ≡ true) × (list_all is_line_byte w ≡ true) = and_parts (is_line_byte b) (list_all is_line_byte w) h in
    ap (λ (t : Bool). if t then [] ∷ lines_of (w ++ 10 ∷ rest) else with_first b (lines_of (w ++ 10 ∷ rest))) (no_end b parts.0)
    ∙ ap (with_first b) (line_split w rest parts.1)

pub lines_split : (lines : List Line) → AreLines lines → lines_of (text_of lines) ≡ map said lines
lines_split [] h = refl
lines_split (line ∷ lines) h = line_split (said line) (text_of lines) (line_said line h.0) ∙ ap (λ (texts : List (List ℕ)). said line ∷ texts) (lines_split lines h.1)

-- all bytes are those of a text
pub text_bytes : (w : List ℕ) → AreLineBytes w → list_all is_text_byte w ≡ true
text_bytes [] h = refl
text_bytes (b ∷ w) h =
    let parts : (is_line_byte b ≡ true) × (list_all is_line_byte w ≡ true) = and_parts (is_line_byte b) (list_all is_line_byte w) h in
    and_from (is_text_byte b) (list_all is_text_byte w) (or_right (b == 10) (is_line_byte b) parts.0) (text_bytes w parts.1)

pub texts_more : (xs ys : List ℕ) → list_all is_text_byte xs ≡ true → list_all is_text_byte ys ≡ true → list_all is_text_byte (xs ++ ys) ≡ true
texts_more xs ys h k = list_all-append is_text_byte xs ys ∙ and_from (list_all is_text_byte xs) (list_all is_text_byte ys) h k

pub lines_bytes : (lines : List Line) → AreLines lines → list_all is_text_byte (text_of lines) ≡ true
lines_bytes [] h = refl
lines_bytes (line ∷ lines) h = texts_more (said line) (10 ∷ text_of lines) (text_bytes (said line) (line_said line h.0)) (lines_bytes lines h.1)

-- the last byte of a text is that of its end
pub last_byte : (xs ys : List ℕ) → 0 < length ys → ends_line (xs ++ ys) ≡ ends_line ys
last_byte xs ys l =
    let long : length (xs ++ ys) ≡ length xs + length ys = length-append xs ys in
    ap (λ (b : ℕ). b == 10) (get_or-append_right xs ys (length xs) (length (xs ++ ys) - 1) 0 refl (omega arith) ∙ ap (λ (i : ℕ). get_or ys i 0) (omega arith))

-- the lines of a text whose last line has an end, and those behind it
joined_first : (b : ℕ) (bs rest : List ℕ) (texts : List (List ℕ)) → 0 < length bs → with_first b (lines_of bs ++ texts) ≡ with_first b (lines_of bs) ++ texts
joined_first b [] rest texts l = absurd (omega arith)
joined_first b (c ∷ bs) rest texts l = by_test (c == 10) (lines_of bs)
  where
    by_test : (t : Bool) (ts : List (List ℕ)) → with_first b ((if t then [] ∷ ts else with_first c ts) ++ texts) ≡ with_first b (if t then [] ∷ ts else with_first c ts) ++ texts
    by_test true ts = refl
    by_test false [] = refl
    by_test false (t ∷ ts) = refl

-- a text whose last line has an end
abbrev pub IsClosed : List ℕ → Type 0
IsClosed bs = 0 < length bs → ends_line bs ≡ true

closed_rest : (b : ℕ) (bs : List ℕ) → IsClosed (b ∷ bs) → IsClosed bs
closed_rest b bs h l = sym (last_byte (b ∷ []) bs l) ∙ h (omega arith)

some_behind : (b : ℕ) (bs : List ℕ) → IsClosed (b ∷ bs) → (b == 10) ≡ false → 0 < length bs
some_behind b [] h e = absurd (true≢false (sym (h (omega arith)) ∙ e))
some_behind b (c ∷ bs) h e = omega arith

front_more : (b : ℕ) (bs rest : List ℕ) → ((b == 10) ≡ false → 0 < length bs) → lines_of (bs ++ rest) ≡ lines_of bs ++ lines_of rest → lines_of ((b ∷ bs) ++ rest) ≡ lines_of (b ∷ bs) ++ lines_of rest
front_more b bs rest some shorter = by_test (b == 10) refl
  where
    by_test : (t : Bool) → (b == 10) ≡ t → (if t then [] ∷ lines_of (bs ++ rest) else with_first b (lines_of (bs ++ rest))) ≡ (if t then [] ∷ lines_of bs else with_first b (lines_of bs)) ++ lines_of rest
    by_test true e = ap (λ (texts : List (List ℕ)). [] ∷ texts) shorter
    by_test false e = ap (with_first b) shorter ∙ joined_first b bs rest (lines_of rest) (some e)

pub front_lines : (bs rest : List ℕ) → IsClosed bs → lines_of (bs ++ rest) ≡ lines_of bs ++ lines_of rest
front_lines [] rest h = refl
front_lines (b ∷ bs) rest h = front_more b bs rest (some_behind b bs h) (front_lines bs rest (closed_rest b bs h))

-- the first line `trace`
pub trace_found : (n : ℕ) (texts behind : List (List ℕ)) → list_any (λ line. bytes_eq line (codes "trace")) texts ≡ false → behind_trace n (texts ++ codes "trace" ∷ behind) ≡ Some (n + length texts, behind)
trace_found n [] behind h = ap (λ (m : ℕ). Some (m, behind)) (omega arith)
trace_found n (text ∷ texts) behind h =
    let parts : (bytes_eq text (codes "trace") ≡ false) × (list_any (λ line. bytes_eq line (codes "trace")) texts ≡ false) = or_parts (bytes_eq text (codes "trace")) (list_any (λ line. bytes_eq line (codes "trace")) texts) h in
    ap (λ (t : Bool). if t then Some (n, texts ++ codes "trace" ∷ behind) else behind_trace (suc n) (texts ++ codes "trace" ∷ behind)) parts.0
    ∙ (trace_found (suc n) texts behind parts.1 ∙ ap (λ (m : ℕ). Some (m, behind)) (omega arith))
