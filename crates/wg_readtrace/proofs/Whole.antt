-- What a text is read as.
use Rattle.std.specs.Prelude.{Option, Some, None, Result, Ok, Err, IfOk, IfErr}
use Rattle.std.proofs.Common.{◌≡◌, ℕ, suc, ◌+◌, ◌<◌, ◌≤◌, List, [], length, drop, Bool, true, false, not, ◌||◌, if◌then◌else◌, ap, sym, ◌∙◌, arith, subst}
use Rattle.std.specs.List.{list_all}
use Rattle.wg_trace.specs.declared.steps.Item.{Item}
use Rattle.wg_rows.specs.Once.{AreOnce}
use Rattle.wg_readtrace.specs.declared.reading.TraceFault.{TraceFault}
use Rattle.wg_readtrace.specs.Reading.{is_text_byte, ends_line, lines_of, behind_trace, read_from, read_behind, read_lines, as_items, trace_in, Refuses}
use Rattle.wg_readtrace.specs.Drafts.{lines_from}
use Rattle.wg_readtrace.proofs.Lines.{none_left, some_left}
use Rattle.wg_readtrace.proofs.Drafts.{read_by_state}
use Rattle.wg_readtrace.proofs.Once.{once_of}

pub not_text : (bytes : List ℕ) → list_all is_text_byte bytes ≡ false → trace_in bytes ≡ Err (1, 0)
unfolding read_lines
not_text bytes e = ap (λ (t : Bool). as_items (if not t || not (ends_line bytes) then Err (1, 0) else read_behind (behind_trace 1 (lines_of bytes)))) e

pub not_ended : (bytes : List ℕ) → list_all is_text_byte bytes ≡ true → ends_line bytes ≡ false → trace_in bytes ≡ Err (1, 0)
unfolding read_lines
not_ended bytes a e =
    ap (λ (t : Bool). as_items (if not t || not (ends_line bytes) then Err (1, 0) else read_behind (behind_trace 1 (lines_of bytes)))) a
    ∙ ap (λ (t : Bool). as_items (if not t then Err (1, 0) else read_behind (behind_trace 1 (lines_of bytes)))) e

text_so : (bytes : List ℕ) → list_all is_text_byte bytes ≡ true → ends_line bytes ≡ true → trace_in bytes ≡ as_items (read_behind (behind_trace 1 (lines_of bytes)))
unfolding read_lines
text_so bytes a e =
    ap (λ (t : Bool). as_items (if not t || not (ends_line bytes) then Err (1, 0) else read_behind (behind_trace 1 (lines_of bytes)))) a
    ∙ ap (λ (t : Bool). as_items (if not t then Err (1, 0) else read_behind (behind_trace 1 (lines_of bytes)))) e

pub no_trace_line : (bytes : List ℕ) → list_all is_text_byte bytes ≡ true → ends_line bytes ≡ true → behind_trace 1 (lines_of bytes) ≡ None → trace_in bytes ≡ Err (1, 0)
no_trace_line bytes a e h = text_so bytes a e ∙ ap (λ (t : Option (ℕ × List (List ℕ))). as_items (read_behind t)) h

pub trace_is_last : (bytes : List ℕ) (n at : ℕ) → list_all is_text_byte bytes ≡ true → ends_line bytes ≡ true → behind_trace 1 (lines_of bytes) ≡ Some (n, lines_of (drop at bytes)) → length bytes ≤ at → trace_in bytes ≡ Err (3, n)
trace_is_last bytes n at a e h l =
    text_so bytes a e ∙ (ap (λ (t : Option (ℕ × List (List ℕ))). as_items (read_behind t)) h
    ∙ ap (λ (t : Bool). as_items (if t then Err (3, n) else read_from (suc n) [] (lines_of (drop at bytes)))) (none_left bytes at l))

from_first : (bytes : List ℕ) (n at : ℕ) → list_all is_text_byte bytes ≡ true → ends_line bytes ≡ true → behind_trace 1 (lines_of bytes) ≡ Some (n, lines_of (drop at bytes)) → at < length bytes → trace_in bytes ≡ as_items (read_from (suc n) [] (lines_of (drop at bytes)))
from_first bytes n at a e h l =
    text_so bytes a e ∙ (ap (λ (t : Option (ℕ × List (List ℕ))). as_items (read_behind t)) h
    ∙ ap (λ (t : Bool). as_items (if t then Err (3, n) else read_from (suc n) [] (lines_of (drop at bytes)))) (some_left bytes at l))

-- the lines behind `trace` tell
record Behind (bytes : List ℕ) (n at : ℕ) : Type 0 where
  text : list_all is_text_byte bytes ≡ true
  ended : ends_line bytes ≡ true
  found : behind_trace 1 (lines_of bytes) ≡ Some (n, lines_of (drop at bytes))
  more : at < length bytes

by_state : (bytes : List ℕ) (n m at : ℕ) → m ≡ n + 1 → Behind bytes n at → trace_in bytes ≡ as_items (lines_from m None 0 [] (lines_of (drop at bytes)))
by_state bytes n m at e b =
    from_first bytes n at b.text b.ended b.found b.more
    ∙ (ap as_items (read_by_state (suc n) [] (lines_of (drop at bytes))) ∙ ap (λ (k : ℕ). as_items (lines_from k None 0 [] (lines_of (drop at bytes)))) (omega (arith, e)))

pub ok_of : (bytes : List ℕ) (n m at : ℕ) (result : Result (List Item) TraceFault) → m ≡ n + 1 → list_all is_text_byte bytes ≡ true → ends_line bytes ≡ true → behind_trace 1 (lines_of bytes) ≡ Some (n, lines_of (drop at bytes)) → at < length bytes
    → IfOk result (λ items. as_items (lines_from m None 0 [] (lines_of (drop at bytes))) ≡ Ok items) → IfOk result (λ items. trace_in bytes ≡ Ok items)
ok_of bytes n m at (Ok items) e a b f l h = by_state bytes n m at e (record { text = a; ended = b; found = f; more = l }) ∙ h
ok_of bytes n m at (Err x) e a b f l h = h

pub err_of : (bytes : List ℕ) (n m at : ℕ) (result : Result (List Item) TraceFault) → m ≡ n + 1 → list_all is_text_byte bytes ≡ true → ends_line bytes ≡ true → behind_trace 1 (lines_of bytes) ≡ Some (n, lines_of (drop at bytes)) → at < length bytes
    → IfErr result (λ x. Refuses x (as_items (lines_from m None 0 [] (lines_of (drop at bytes))))) → IfErr result (λ x. Refuses x (trace_in bytes))
err_of bytes n m at (Ok items) e a b f l h = h
err_of bytes n m at (Err x) e a b f l h = subst (Refuses x) (sym (by_state bytes n m at e (record { text = a; ended = b; found = f; more = l }))) h

pub once_if_read : (bytes : List ℕ) (n m at : ℕ) (result : Result (List Item) TraceFault) → m ≡ n + 1 → IfOk result (λ items. as_items (lines_from m None 0 [] (lines_of (drop at bytes))) ≡ Ok items) → IfOk result AreOnce
once_if_read bytes n m at (Ok items) e h = once_of m (lines_of (drop at bytes)) items (ap as_items (read_by_state m [] (lines_of (drop at bytes))) ∙ h)
once_if_read bytes n m at (Err x) e h = h
