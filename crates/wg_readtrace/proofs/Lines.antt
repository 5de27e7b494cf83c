-- The lines of a text from a place on.
use Rattle.std.specs.Prelude.{Some, bytes_eq, codes}
use Rattle.std.proofs.Common.{◌≡◌, ℕ, suc, ◌+◌, ◌-◌, ◌<◌, ◌≤◌, ◌==◌, List, [], ◌∷◌, length, take, drop, Bool, true, false, if◌then◌else◌, ap, sym, refl, ◌∙◌, arith, length-drop}
use Rattle.std.proofs.lemmas.List.{drop-drop, drop_all}
use Rattle.wg_readtrace.specs.Lines.{line_len}
use Rattle.wg_readtrace.specs.Reading.{lines_of, with_first, is_none_left, behind_trace}

first_more : (b : ℕ) (bs : List ℕ) → (0 < length bs → lines_of bs ≡ take (line_len bs) bs ∷ lines_of (drop (suc (line_len bs)) bs)) → with_first b (lines_of bs) ≡ (b ∷ take (line_len bs) bs) ∷ lines_of (drop (suc (line_len bs)) bs)
first_more b [] h = refl
first_more b (c ∷ cs) h = ap (with_first b) (h (omega arith))

by_byte : (b : ℕ) (bs : List ℕ) → (0 < length bs → lines_of bs ≡ take (line_len bs) bs ∷ lines_of (drop (suc (line_len bs)) bs)) → (t : Bool)
    → (if t then [] ∷ lines_of bs else with_first b (lines_of bs)) ≡ take (if t then 0 else suc (line_len bs)) (b ∷ bs) ∷ lines_of (drop (suc (if t then 0 else suc (line_len bs))) (b ∷ bs))
by_byte b bs h true = refl
by_byte b bs h false = first_more b bs h

-- the first line, and the lines behind it
split : (bs : List ℕ) → 0 < length bs → lines_of bs ≡ take (line_len bs) bs ∷ lines_of (drop (suc (line_len bs)) bs)
split [] l = absurd (omega arith)
split (b ∷ bs) l = by_byte b bs (λ h. split bs h) (b == 10)

pub line_at : (text : List ℕ) (at end : ℕ) → at < length text → at ≤ end → end - at ≡ line_len (drop at text) → lines_of (drop at text) ≡ take (end - at) (drop at text) ∷ lines_of (drop (end + 1) text)
line_at text at end l le e =
    let long : 0 < length (drop at text) = omega (arith, length-drop at text) in
    let place : at + suc (line_len (drop at text)) ≡ end + 1 = omega (arith, e) in
    split (drop at text) long
    ∙ (ap (λ (n : ℕ). take n (drop at text) ∷ lines_of (drop (suc (line_len (drop at text))) (drop at text))) (sym e)
    ∙ ap (λ (bs : List ℕ). take (end - at) (drop at text) ∷ lines_of bs) (drop-drop (suc (line_len (drop at text))) at text ∙ ap (λ (n : ℕ). drop n text) place))

pub no_lines : (text : List ℕ) (at : ℕ) → length text ≤ at → lines_of (drop at text) ≡ []
no_lines text at l = ap lines_of (drop_all at text l)

-- no line is left just where the text is at its end
pub none_left : (text : List ℕ) (at : ℕ) → length text ≤ at → is_none_left (lines_of (drop at text)) ≡ true
none_left text at l = ap is_none_left (no_lines text at l)

pub some_left : (text : List ℕ) (at : ℕ) → at < length text → is_none_left (lines_of (drop at text)) ≡ false
some_left text at l = ap is_none_left (split (drop at text) (omega (arith, length-drop at text)))

-- a line that is not `trace`
pub trace_later : (text : List ℕ) (n at end : ℕ) → at < length text → at ≤ end → end - at ≡ line_len (drop at text) → bytes_eq (take (end - at) (drop at text)) (codes "trace") ≡ false → behind_trace (n + 1) (lines_of (drop (end + 1) text)) ≡ behind_trace n (lines_of (drop at text))
trace_later text n at end l le e other =
    sym (ap (behind_trace n) (line_at text at end l le e)
    ∙ (ap (λ (t : Bool). if t then Some (n, lines_of (drop (end + 1) text)) else behind_trace (suc n) (lines_of (drop (end + 1) text))) other ∙ ap (λ (m : ℕ). behind_trace m (lines_of (drop (end + 1) text))) (omega arith)))

-- the line `trace`
pub trace_here : (text : List ℕ) (n at end : ℕ) → at < length text → at ≤ end → end - at ≡ line_len (drop at text) → bytes_eq (take (end - at) (drop at text)) (codes "trace") ≡ true → behind_trace n (lines_of (drop at text)) ≡ Some (n, lines_of (drop (end + 1) text))
trace_here text n at end l le e same =
    ap (behind_trace n) (line_at text at end l le e)
    ∙ ap (λ (t : Bool). if t then Some (n, lines_of (drop (end + 1) text)) else behind_trace (suc n) (lines_of (drop (end + 1) text))) same
