-- Marks after notes, and what they say.
use Rattle.std.proofs.Common.{◌≡◌, ℕ, ◌<◌, Bool, true, false, not, ◌&&◌, List, [], ◌∷◌, ◌++◌, length, is_some, inl, inr, refl, sym, ap, ◌∙◌, arith, true≢false}
use Rattle.std.proofs.lemmas.Bool.{cases_eq, cases_lt}
use Rattle.std.proofs.lemmas.List.{get_or_past, get_or_append_left, get_or_push, length_push}
use Rattle.wg_holders.specs.declared.marks.Mark.{Mark}
use Rattle.wg_holders.specs.Holders.{no_mark, new_mark, mark_at, is_open, is_unspent, with_ended, with_dropped}
use Rattle.wg_holders.specs.Tokens.{Notes, is_open_at}

-- what a note leaves is the same at every number
pub field_same : {X : Type 0} (f : Mark → X) (note : ℕ → Mark → Mark) (old new : List Mark) → ((n : ℕ) (mark : Mark) → f (note n mark) ≡ f mark) → Notes note old new → (n : ℕ) → f (mark_at new n) ≡ f (mark_at old n)
field_same f note old new same notes n = elim (cases_lt n (length old)) [
  | inl less ↦ ap f (notes.each n less) ∙ same n (mark_at old n)
  | inr past ↦ ap f (get_or_past new n no_mark (let e = notes.len in omega (arith, e, past)) ∙ sym (get_or_past old n no_mark past))
]

-- the same at one number
pub field_other : {X : Type 0} (f : Mark → X) (note : ℕ → Mark → Mark) (old new : List Mark) (n : ℕ) → ((mark : Mark) → f (note n mark) ≡ f mark) → Notes note old new → f (mark_at new n) ≡ f (mark_at old n)
field_other f note old new n same notes = elim (cases_lt n (length old)) [
  | inl less ↦ ap f (notes.each n less) ∙ same (mark_at old n)
  | inr past ↦ ap f (get_or_past new n no_mark (let e = notes.len in omega (arith, e, past)) ∙ sym (get_or_past old n no_mark past))
]

-- a note that opens nothing
pub opens_none : (note : ℕ → Mark → Mark) (old new : List Mark) → ((n : ℕ) (mark : Mark) → is_open (note n mark) ≡ true → is_open mark ≡ true) → Notes note old new → (e : ℕ) → is_open_at new e ≡ true → is_open_at old e ≡ true
opens_none note old new less notes e is = elim (cases_lt e (length old)) [
  | inl below ↦ less e (mark_at old e) (sym (ap is_open (notes.each e below)) ∙ is)
  | inr past ↦ absurd (true≢false (sym is ∙ ap is_open (get_or_past new e no_mark (let len = notes.len in omega (arith, len, past)))))
]

pub ended_opens : (b : Bool) (mark : Mark) → is_open (with_ended b mark) ≡ true → is_open mark ≡ true
ended_opens false mark is = is
ended_opens true mark is = by_encoder mark.encoder is
  where
    by_encoder : (a : Bool) → (a && (false && not (is_some mark.dropped))) ≡ true → (a && (not mark.ended && not (is_some mark.dropped))) ≡ true
    by_encoder true e = absurd (true≢false (sym e))
    by_encoder false e = absurd (true≢false (sym e))

pub dropped_opens : (k : ℕ) (b : Bool) (mark : Mark) → is_open (with_dropped k b mark) ≡ true → is_open mark ≡ true
dropped_opens k false mark is = is
dropped_opens k true mark is = by_parts mark.encoder mark.ended is
  where
    by_parts : (a e : Bool) → (a && (not e && false)) ≡ true → (a && (not e && not (is_some mark.dropped))) ≡ true
    by_parts true true e = absurd (true≢false (sym e))
    by_parts true false e = absurd (true≢false (sym e))
    by_parts false b e = absurd (true≢false (sym e))

pub dropped_spent : (k : ℕ) (mark : Mark) → is_unspent (with_dropped k true mark) ≡ false
dropped_spent k mark = by_consumed mark.consumed
  where
    by_consumed : (a : Bool) → (not a && false) ≡ false
    by_consumed true = refl
    by_consumed false = refl

-- one mark more

pub mark_more : (marks : List Mark) (encoder : Bool) (n : ℕ) → n < length marks → mark_at (marks ++ new_mark encoder ∷ []) n ≡ mark_at marks n
mark_more marks encoder n lt = get_or_append_left marks (new_mark encoder ∷ []) no_mark n lt

pub mark_last : (marks : List Mark) (encoder : Bool) (n : ℕ) → n ≡ length marks → mark_at (marks ++ new_mark encoder ∷ []) n ≡ new_mark encoder
mark_last marks encoder n e = get_or_push marks (new_mark encoder) no_mark n (sym e)

pub dropped_more : (marks : List Mark) (encoder : Bool) (n : ℕ) → (mark_at (marks ++ new_mark encoder ∷ []) n).dropped ≡ (mark_at marks n).dropped
dropped_more marks encoder n = elim (cases_lt n (length marks)) [
  | inl less ↦ ap (λ (mark : Mark). mark.dropped) (mark_more marks encoder n less)
  | inr past ↦ elim (cases_eq n (length marks)) [
    | inl here ↦ ap (λ (mark : Mark). mark.dropped) (mark_last marks encoder n here ∙ ap (λ (mark : Mark). record mark { encoder = encoder }) (sym (get_or_past marks n no_mark past)))
    | inr other ↦ ap (λ (mark : Mark). mark.dropped) (get_or_past (marks ++ new_mark encoder ∷ []) n no_mark (let e = length_push marks (new_mark encoder) in omega (arith, e, past, other)) ∙ sym (get_or_past marks n no_mark past))
  ]
]
