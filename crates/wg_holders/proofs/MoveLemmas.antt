-- Counts as holds are added and ended.
use Rattle.std.proofs.Common.{◌≡◌, ℕ, ◌+◌, ◌-◌, ◌<◌, ◌≤◌, Bool, true, false, not, ◌&&◌, ◌||◌, ◌==◌, List, length, inl, inr, refl, sym, ap, ◌∙◌, arith, true≢false, if◌then◌else◌}
use Rattle.std.proofs.lemmas.Bool.{cases_eq, cases_lt, eq-eqb, ne_eqb, lt-ltb, le-ltb}
use Rattle.std.proofs.lemmas.List.{get_or_past}
use Rattle.wg_model.specs.Holding.{is_among}
use Rattle.wg_counts.specs.Counts.{CountsValue, own_at, is_held, one_more, one_less, Owns, Falls, times}
use Rattle.wg_holders.specs.Tokens.{Moves, Raises}
use Rattle.wg_holders.proofs.Sums.{at_same, at_other}

-- what a note of own holds makes inside, and outside
own_in : (note : ℕ → ℕ → ℕ) (old new : List ℕ) (n : ℕ) → Owns note old new → n < length old → own_at new n ≡ note n (own_at old n)
own_in note old new n owns lt = owns.each n ∙ ap (λ b. if b then note n (own_at old n) else 0) (lt-ltb n (length old) lt)

own_out : (note : ℕ → ℕ → ℕ) (old new : List ℕ) (n : ℕ) → Owns note old new → length old ≤ n → own_at new n ≡ 0
own_out note old new n owns past = owns.each n ∙ ap (λ b. if b then note n (own_at old n) else 0) (le-ltb n (length old) past)

pub own_inside : (own : List ℕ) (n : ℕ) → 0 < own_at own n → n < length own
own_inside own n some = elim (cases_lt n (length own)) [
  | inl less ↦ less
  | inr past ↦ absurd (let e = get_or_past own n 0 past in omega (arith, e, some))
]

pub end_own : (k n : ℕ) (old new : List ℕ) → 0 < own_at old k → Owns (one_less k) old new → own_at new n + (if k == n then 1 else 0) ≡ own_at old n
end_own k n old new some owns = elim (cases_lt n (length old)) [
  | inl less ↦ elim (cases_eq k n) [
    | inl here ↦ (
        let e = own_in (one_less k) old new n owns less ∙ ap (λ b. if b then own_at old n - 1 else own_at old n) (eq-eqb k n here) in
        let one = at_same k n here in
        let same = ap (own_at old) here in
        omega (arith, e, one, same, some))
    | inr other ↦ (
        let e = own_in (one_less k) old new n owns less ∙ ap (λ b. if b then own_at old n - 1 else own_at old n) (ne_eqb k n other) in
        let none = at_other k n other in
        omega (arith, e, none))
  ]
  | inr past ↦ (
      let e = own_out (one_less k) old new n owns past in
      let f = get_or_past old n 0 past in
      let inside = own_inside old k some in
      let none = at_other k n (λ is. absurd (omega (arith, is, inside, past))) in
      omega (arith, e, f, none))
]

hold_own : (k n : ℕ) (old new : List ℕ) → k < length old → Owns (one_more k) old new → own_at new n ≡ own_at old n + (if k == n then 1 else 0)
hold_own k n old new inside owns = elim (cases_lt n (length old)) [
  | inl less ↦ elim (cases_eq k n) [
    | inl here ↦ (
        let e = own_in (one_more k) old new n owns less ∙ ap (λ b. if b then own_at old n + 1 else own_at old n) (eq-eqb k n here) in
        let one = at_same k n here in
        omega (arith, e, one))
    | inr other ↦ (
        let e = own_in (one_more k) old new n owns less ∙ ap (λ b. if b then own_at old n + 1 else own_at old n) (ne_eqb k n other) in
        let none = at_other k n other in
        omega (arith, e, none))
  ]
  | inr past ↦ (
      let e = own_out (one_more k) old new n owns past in
      let f = get_or_past old n 0 past in
      let none = at_other k n (λ is. absurd (omega (arith, is, inside, past))) in
      omega (arith, e, f, none))
]

-- what falls

pub Falls_then : (a b c : CountsValue) → Falls a b → Falls b c → Falls a c
Falls_then a b c first second = record {
  listed = λ n. second.listed n ∙ (ap (λ x. x || (is_held b n && not (is_held c n))) (first.listed n) ∙ by_held (is_among a.fallen n) (is_held a n) (is_held b n) (is_held c n) (first.falls n) (second.falls n));
  once = λ n. let e = first.once n in let f = second.once n in let g = both_once (is_held a n) (is_held b n) (is_held c n) (first.falls n) (second.falls n) in omega (arith, e, f, g);
  falls = λ n is. first.falls n (second.falls n is);
}
  where
    both_once : (p q r : Bool) → (q ≡ true → p ≡ true) → (r ≡ true → q ≡ true) → (if p && not q then 1 else 0) + (if q && not r then 1 else 0) ≡ (if p && not r then 1 else 0)
    both_once true true true pq qr = refl
    both_once true true false pq qr = refl
    both_once true false true pq qr = absurd (true≢false (sym (qr refl)))
    both_once true false false pq qr = refl
    both_once false true r pq qr = absurd (true≢false (sym (pq refl)))
    both_once false false true pq qr = absurd (true≢false (sym (qr refl)))
    both_once false false false pq qr = refl

    by_held : (x p q r : Bool) → (q ≡ true → p ≡ true) → (r ≡ true → q ≡ true) → ((x || (p && not q)) || (q && not r)) ≡ (x || (p && not r))
    by_held true p q r pq qr = refl
    by_held false true true r pq qr = refl
    by_held false true false true pq qr = absurd (true≢false (sym (qr refl)))
    by_held false true false false pq qr = refl
    by_held false false true r pq qr = absurd (true≢false (sym (pq refl)))
    by_held false false false r pq qr = refl

-- holds that end

pub still_held : (from to : ℕ → ℕ) (old new : CountsValue) (k : ℕ) → from k ≤ own_at old.own k → 0 < to k → Moves from to old new → 0 < own_at new.own k
still_held from to old new k le some moves = let e = moves.own k in omega (arith, e, le, some)

pub Moves_end : (k : ℕ) (from to to' : ℕ → ℕ) (first old new : CountsValue) → 0 < own_at old.own k → Owns (one_less k) old.own new.own → new.refers ≡ old.refers → Falls old new → new.spare ≡ old.spare → new.room ≡ old.room → ((n : ℕ) → to' n + (if k == n then 1 else 0) ≡ to n) → Moves from to first old → Moves from to' first new
Moves_end k from to to' first old new some owns refers falls spare room less moves = record {
  len = owns.len ∙ moves.len;
  own = λ n. let e = moves.own n in let f = end_own k n old.own new.own some owns in let g = less n in omega (arith, e, f, g);
  refers = refers ∙ moves.refers;
  falls = Falls_then first old new moves.falls falls;
  spare = spare ∙ moves.spare;
  room = room ∙ moves.room;
}

-- holds that are added

pub Raises_hold : (k : ℕ) (names names' : List ℕ) (first old new : CountsValue) → k < length old.own → Owns (one_more k) old.own new.own → new.refers ≡ old.refers → new.fallen ≡ old.fallen → ((n : ℕ) → is_held new n ≡ is_held old n) → new.spare ≡ old.spare → old.room ≤ new.room + 1 → ((n : ℕ) → times n names' ≡ times n names + (if k == n then 1 else 0)) → length names' ≡ length names + 1 → Raises names first old → Raises names' first new
Raises_hold k names names' first old new inside owns refers fallen same spare room more longer raises = record {
  len = owns.len ∙ raises.len;
  own = λ n. let e = raises.own n in let f = hold_own k n old.own new.own inside owns in let g = more n in omega (arith, e, f, g);
  refers = refers ∙ raises.refers;
  fallen = fallen ∙ raises.fallen;
  same = λ n. same n ∙ raises.same n;
  spare = spare ∙ raises.spare;
  room = let e = raises.room in omega (arith, e, room, longer);
}
