-- The holds that are no objects, as marks, names and what waits change.
use Rattle.std.proofs.Common.{◌≡◌, ◌≢◌, ℕ, ◌+◌, ◌<◌, ◌≤◌, Bool, true, false, ◌==◌, nat_lt, List, [], ◌∷◌, ◌++◌, length, Option, None, is_some, inl, inr, refl, sym, ap, ◌∙◌, arith, add-one, if◌then◌else◌}
use Rattle.std.proofs.lemmas.Bool.{cases_eq, cases_lt, eq-eqb, ne_eqb, lt-ltb, le-ltb}
use Rattle.std.proofs.lemmas.List.{length_push, get_or_past, get_or_append_left, get_or_push}
use Rattle.wg_model.specs.Holding.{is_among}
use Rattle.wg_counts.specs.Counts.{CountsValue, own_at, times}
use Rattle.wg_holders.specs.declared.marks.Mark.{Mark}
use Rattle.wg_holders.specs.declared.tokens.Awaited.{Awaited}
use Rattle.wg_holders.specs.Holders.{mark_at, list_at, new_mark, is_unspent, with_ended, with_consumed, with_dropped}
use Rattle.wg_holders.specs.Tokens.{Notes, sum_below, held_by, named, lives, living, waits, IsOwned, Moves, Raises}
use Rattle.wg_holders.proofs.Sums.{at_same, at_other, sum_same, sum_but, sum_at}
use Rattle.wg_holders.proofs.MarkLemmas.{field_same, field_other, dropped_spent, mark_more, mark_last}
use Rattle.wg_holders.proofs.QueueLemmas.{waits_append, dropped_at, dropped_other}

-- what is held by names

pub held_past : (marks : List Mark) (names : List (List ℕ)) (b : ℕ) → length names ≤ b → held_by marks names b ≡ []
held_past marks names b past = by_test (is_unspent (mark_at marks b))
  where
    by_test : (u : Bool) → (if u then list_at names b else []) ≡ []
    by_test true = get_or_past names b [] past
    by_test false = refl

pub held_same : (old new : List Mark) (names : List (List ℕ)) (b : ℕ) → is_unspent (mark_at new b) ≡ is_unspent (mark_at old b) → held_by new names b ≡ held_by old names b
held_same old new names b same = ap (λ u. if u then list_at names b else []) same

named_same : (old new : List Mark) (names : List (List ℕ)) (n : ℕ) → length new ≡ length old → ((b : ℕ) → is_unspent (mark_at new b) ≡ is_unspent (mark_at old b)) → named new names n ≡ named old names n
named_same old new names n len same = ap (sum_below (λ b. times n (held_by new names b))) len ∙ sum_same (λ b. times n (held_by new names b)) (λ b. times n (held_by old names b)) (length old) (λ b lt. ap (times n) (held_same old new names b (same b)))

-- one command buffer is spent
named_spent : (number : ℕ) (old new : List Mark) (names : List (List ℕ)) (n : ℕ) → length new ≡ length old → length names ≡ length old → ((b : ℕ) → number ≢ b → is_unspent (mark_at new b) ≡ is_unspent (mark_at old b)) → (number < length old → is_unspent (mark_at new number) ≡ false) → named new names n + times n (held_by old names number) ≡ named old names n
named_spent number old new names n len names_len same spent = elim (cases_lt number (length old)) [
  | inl less ↦ (
      let e = sum_but (λ b. times n (held_by new names b)) (λ b. times n (held_by old names b)) number (length old) less (λ b lt other. ap (times n) (held_same old new names b (same b (λ is. other (sym is))))) in
      let none = ap (λ u. times n (if u then list_at names number else [])) (spent less) in
      let f = ap (sum_below (λ b. times n (held_by new names b))) len in
      omega (arith, e, none, f))
  | inr past ↦ (
      let e = sum_same (λ b. times n (held_by new names b)) (λ b. times n (held_by old names b)) (length old) (λ b lt. ap (times n) (held_same old new names b (same b (λ is. absurd (omega (arith, is, lt, past)))))) in
      let none = ap (times n) (held_past old names number (omega (arith, names_len, past))) in
      let f = ap (sum_below (λ b. times n (held_by new names b))) len in
      omega (arith, e, none, f))
]

-- the hold of an object that lives

lives_in : (marks : List Mark) (n : ℕ) → n < length marks → lives marks n ≡ (if is_some (mark_at marks n).dropped then 0 else 1)
lives_in marks n lt = ap (λ b. if b then (if is_some (mark_at marks n).dropped then 0 else 1) else 0) (lt-ltb n (length marks) lt)

lives_out : (marks : List Mark) (n : ℕ) → length marks ≤ n → lives marks n ≡ 0
lives_out marks n past = ap (λ b. if b then (if is_some (mark_at marks n).dropped then 0 else 1) else 0) (le-ltb n (length marks) past)

lives_same : (old new : List Mark) (n : ℕ) → length new ≡ length old → (mark_at new n).dropped ≡ (mark_at old n).dropped → lives new n ≡ lives old n
lives_same old new n len same = ap (λ k. if nat_lt n k then (if is_some (mark_at new n).dropped then 0 else 1) else 0) len ∙ ap (λ o. if nat_lt n (length old) then (if is_some o then 0 else 1) else 0) same

living_same : (old new : List Mark) → length new ≡ length old → ((n : ℕ) → (mark_at new n).dropped ≡ (mark_at old n).dropped) → living new ≡ living old
living_same old new len same = ap (sum_below (lives new)) len ∙ sum_same (lives new) (lives old) (length old) (λ n lt. lives_same old new n len (same n))

-- one is dropped
lives_dropped : (number k n : ℕ) (old new : List Mark) → number < length old → (mark_at old number).dropped ≡ None → Notes (λ n. with_dropped k (number == n)) old new → lives new n + (if number == n then 1 else 0) ≡ lives old n
lives_dropped number k n old new lt none notes = elim (cases_eq number n) [
  | inl here ↦ (
      let less : n < length old = omega (arith, lt, here) in
      let gone = lives_in new n (let e = notes.len in omega (arith, e, less)) ∙ ap (λ (o : Option ℕ). if is_some o then 0 else 1) (ap (λ n. (mark_at new n).dropped) (sym here) ∙ dropped_at number k old new lt notes) in
      let lived = lives_in old n less ∙ ap (λ (o : Option ℕ). if is_some o then 0 else 1) (ap (λ n. (mark_at old n).dropped) (sym here) ∙ none) in
      let one = at_same number n here in
      omega (arith, gone, lived, one))
  | inr other ↦ (
      let e = lives_same old new n notes.len (dropped_other number k n old new other notes) in
      let zero' = at_other number n other in
      omega (arith, e, zero'))
]

pub living_dropped : (number k : ℕ) (old new : List Mark) → number < length old → (mark_at old number).dropped ≡ None → Notes (λ n. with_dropped k (number == n)) old new → living new + 1 ≡ living old
living_dropped number k old new lt none notes =
    let e = sum_but (lives new) (lives old) number (length old) lt (λ n below other. lives_same old new n notes.len (dropped_other number k n old new (λ is. other (sym is)) notes)) in
    let f = lives_dropped number k number old new lt none notes in
    let one = at_same number number refl in
    let len = ap (sum_below (lives new)) notes.len in
    omega (arith, e, f, one, len)

pub living_ended : (number : ℕ) (old new : List Mark) → Notes (λ n. with_ended (number == n)) old new → living new ≡ living old
living_ended number old new notes = living_same old new notes.len (field_same (λ (mark : Mark). mark.dropped) (λ n. with_ended (number == n)) old new (λ n mark. refl) notes)

pub living_consumed : (number : ℕ) (old new : List Mark) → Notes (λ n. with_consumed (number == n)) old new → living new ≡ living old
living_consumed number old new notes = living_same old new notes.len (field_same (λ (mark : Mark). mark.dropped) (λ n. with_consumed (number == n)) old new (λ n mark. refl) notes)

lives_more : (marks : List Mark) (encoder : Bool) (n : ℕ) → n < length marks → lives (marks ++ new_mark encoder ∷ []) n ≡ lives marks n
lives_more marks encoder n lt = lives_in (marks ++ new_mark encoder ∷ []) n (let e = length_push marks (new_mark encoder) in omega (arith, e, lt)) ∙ (ap (λ (mark : Mark). if is_some mark.dropped then 0 else 1) (mark_more marks encoder n lt) ∙ sym (lives_in marks n lt))

pub lives_last : (marks : List Mark) (encoder : Bool) (n : ℕ) → n ≡ length marks → lives (marks ++ new_mark encoder ∷ []) n ≡ 1
lives_last marks encoder n here = lives_in (marks ++ new_mark encoder ∷ []) n (let e = length_push marks (new_mark encoder) in omega (arith, e, here)) ∙ ap (λ (mark : Mark). if is_some mark.dropped then 0 else 1) (mark_last marks encoder n here)

pub living_added : (marks : List Mark) (encoder : Bool) → living (marks ++ new_mark encoder ∷ []) ≡ living marks + 1
living_added marks encoder =
    let len = ap (sum_below (lives (marks ++ new_mark encoder ∷ []))) (length_push marks (new_mark encoder) ∙ add-one (length marks)) in
    let rest = sum_same (lives (marks ++ new_mark encoder ∷ [])) (lives marks) (length marks) (lives_more marks encoder) in
    let last = lives_last marks encoder (length marks) refl in
    omega (arith, len, rest, last)

-- All holds.

pub waits_le : (marks : List Mark) (names : List (List ℕ)) (awaited : List Awaited) (own : List ℕ) → IsOwned marks names awaited own → (n : ℕ) → waits awaited n ≤ own_at own n
waits_le marks names awaited own owned n = let e = owned.own_are n in omega (arith, e)

pub names_le : (marks : List Mark) (names : List (List ℕ)) (awaited : List Awaited) (own : List ℕ) (number : ℕ) → IsOwned marks names awaited own → (n : ℕ) → times n (held_by marks names number) ≤ own_at own n
names_le marks names awaited own number owned n = elim (cases_lt number (length marks)) [
  | inl less ↦ (let le = sum_at (λ b. times n (held_by marks names b)) number (length marks) less in let e = owned.own_are n in omega (arith, le, e))
  | inr past ↦ (let len = owned.names_len in let none = ap (times n) (held_past marks names number (omega (arith, len, past))) in omega (arith, none))
]

-- what waits is less
pub owned_moved : (marks : List Mark) (names : List (List ℕ)) (awaited awaited' : List Awaited) (old new : CountsValue) → Moves (waits awaited) (waits awaited') old new → IsOwned marks names awaited old.own → IsOwned marks names awaited' new.own
owned_moved marks names awaited awaited' old new moves owned = record {
  own_len = moves.len ∙ owned.own_len;
  names_len = owned.names_len;
  own_are = λ n. let e = moves.own n in let f = owned.own_are n in omega (arith, e, f);
}

pub owned_ended : (number : ℕ) (old new : List Mark) (names : List (List ℕ)) (awaited : List Awaited) (own : List ℕ) → Notes (λ n. with_ended (number == n)) old new → IsOwned old names awaited own → IsOwned new names awaited own
owned_ended number old new names awaited own notes owned = record {
  own_len = owned.own_len ∙ sym notes.len;
  names_len = owned.names_len ∙ sym notes.len;
  own_are = λ n.
      let e = owned.own_are n in
      let f = lives_same old new n notes.len (field_same (λ (mark : Mark). mark.dropped) (λ n. with_ended (number == n)) old new (λ n mark. refl) notes n) in
      let g = named_same old new names n notes.len (field_same is_unspent (λ n. with_ended (number == n)) old new (λ n mark. refl) notes) in
      omega (arith, e, f, g);
}

pub owned_consumed : (number : ℕ) (marks new : List Mark) (names : List (List ℕ)) (awaited : List Awaited) (first last : CountsValue) → Notes (λ n. with_consumed (number == n)) marks new → Moves (λ n. times n (held_by marks names number)) (λ n. 0) first last → IsOwned marks names awaited first.own → IsOwned new names awaited last.own
owned_consumed number marks new names awaited first last notes moves owned = record {
  own_len = moves.len ∙ (owned.own_len ∙ sym notes.len);
  names_len = owned.names_len ∙ sym notes.len;
  own_are = λ n.
      let e = owned.own_are n in
      let m = moves.own n in
      let f = lives_same marks new n notes.len (field_same (λ (mark : Mark). mark.dropped) (λ n. with_consumed (number == n)) marks new (λ n mark. refl) notes n) in
      let g = named_spent number marks new names n notes.len owned.names_len
      (λ b other. field_other is_unspent (λ n. with_consumed (number == n)) marks new b (λ mark. ap (λ b. is_unspent (with_consumed b mark)) (ne_eqb number b other)) notes)
      (λ lt. ap is_unspent (notes.each number lt) ∙ ap (λ b. is_unspent (with_consumed b (mark_at marks number))) (eq-eqb number number refl)) in
      omega (arith, e, m, f, g);
}

pub owned_dropped : (number : ℕ) (marks new : List Mark) (names : List (List ℕ)) (awaited : List Awaited) (first last : CountsValue) → number < length marks → (mark_at marks number).dropped ≡ None → Notes (λ n. with_dropped (length marks) (number == n)) marks new → Moves (λ n. times n (held_by marks names number)) (λ n. 0) first last → IsOwned marks names awaited first.own → IsOwned new names (awaited ++ record { number = number; made = length marks } ∷ []) last.own
owned_dropped number marks new names awaited first last lt none notes moves owned = record {
  own_len = moves.len ∙ (owned.own_len ∙ sym notes.len);
  names_len = owned.names_len ∙ sym notes.len;
  own_are = λ n.
      let e = owned.own_are n in
      let m = moves.own n in
      let f = lives_dropped number (length marks) n marks new lt none notes in
      let w = waits_append n awaited (record { number = number; made = length marks } ∷ []) in
      let g = named_spent number marks new names n notes.len owned.names_len
      (λ b other. field_other is_unspent (λ n. with_dropped (length marks) (number == n)) marks new b (λ mark. ap (λ b. is_unspent (with_dropped (length marks) b mark)) (ne_eqb number b other)) notes)
      (λ lt. ap is_unspent (notes.each number lt) ∙ (ap (λ b. is_unspent (with_dropped (length marks) b (mark_at marks number))) (eq-eqb number number refl) ∙ dropped_spent (length marks) (mark_at marks number))) in
      omega (arith, e, m, f, g, w);
}

-- one object more

held_more : (marks : List Mark) (encoder : Bool) (names : List (List ℕ)) (more : List ℕ) (b : ℕ) → length names ≡ length marks → b < length marks → held_by (marks ++ new_mark encoder ∷ []) (names ++ more ∷ []) b ≡ held_by marks names b
held_more marks encoder names more b len lt =
    ap (λ (mark : Mark). if is_unspent mark then list_at (names ++ more ∷ []) b else []) (mark_more marks encoder b lt)
    ∙ ap (λ list. if is_unspent (mark_at marks b) then list else []) (get_or_append_left names (more ∷ []) [] b (omega (arith, len, lt)))

held_last : (marks : List Mark) (encoder : Bool) (names : List (List ℕ)) (more : List ℕ) → length names ≡ length marks → held_by (marks ++ new_mark encoder ∷ []) (names ++ more ∷ []) (length marks) ≡ more
held_last marks encoder names more len =
    ap (λ (mark : Mark). if is_unspent mark then list_at (names ++ more ∷ []) (length marks) else []) (mark_last marks encoder (length marks) refl)
    ∙ get_or_push names more [] (length marks) len

named_added : (marks : List Mark) (encoder : Bool) (names : List (List ℕ)) (more : List ℕ) (n : ℕ) → length names ≡ length marks → named (marks ++ new_mark encoder ∷ []) (names ++ more ∷ []) n ≡ named marks names n + times n more
named_added marks encoder names more n len =
    let part : ℕ → ℕ = λ b. times n (held_by (marks ++ new_mark encoder ∷ []) (names ++ more ∷ []) b) in
    let size = ap (sum_below part) (length_push marks (new_mark encoder) ∙ add-one (length marks)) in
    let rest = sum_same part (λ b. times n (held_by marks names b)) (length marks) (λ b lt. ap (times n) (held_more marks encoder names more b len lt)) in
    let last = ap (times n) (held_last marks encoder names more len) in
    omega (arith, size, rest, last)

pub owned_added : (marks : List Mark) (encoder : Bool) (names : List (List ℕ)) (more : List ℕ) (awaited : List Awaited) (own : List ℕ) (middle last : CountsValue) → ((k : ℕ) → is_among more k ≡ true → k < length marks) → middle.own ≡ own ++ 1 ∷ [] → Raises more middle last → IsOwned marks names awaited own → IsOwned (marks ++ new_mark encoder ∷ []) (names ++ more ∷ []) awaited last.own
owned_added marks encoder names more awaited own middle last back added raises owned = record {
  own_len = raises.len ∙ (ap length added ∙ (length_push own 1 ∙ (ap (λ k. k + 1) owned.own_len ∙ sym (length_push marks (new_mark encoder)))));
  names_len = length_push names more ∙ (ap (λ k. k + 1) owned.names_len ∙ sym (length_push marks (new_mark encoder)));
  own_are = λ n.
      let e = owned.own_are n in
      let r = raises.own n in
      let a = ap (λ list. own_at list n) added in
      let g = named_added marks encoder names more n owned.names_len in
      let f = both n in
      omega (arith, e, r, a, g, f);
}
  where
    both : (n : ℕ) → own_at (own ++ 1 ∷ []) n + lives marks n ≡ own_at own n + lives (marks ++ new_mark encoder ∷ []) n
    both n = elim (cases_lt n (length marks)) [
      | inl less ↦ (
          let e = get_or_append_left own (1 ∷ []) 0 n (let len = owned.own_len in omega (arith, len, less)) in
          let f = lives_more marks encoder n less in
          omega (arith, e, f))
      | inr past ↦ elim (cases_eq n (length marks)) [
        | inl here ↦ (
            let e = get_or_push own 1 0 n (let len = owned.own_len in omega (arith, len, here)) in
            let old = get_or_past own n 0 (let len = owned.own_len in omega (arith, len, past)) in
            let f = lives_last marks encoder n here in
            let g = lives_out marks n past in
            omega (arith, e, old, f, g))
        | inr other ↦ (
            let e = get_or_past (own ++ 1 ∷ []) n 0 (let len = owned.own_len in let p = length_push own 1 in omega (arith, len, p, past, other)) in
            let old = get_or_past own n 0 (let len = owned.own_len in omega (arith, len, past)) in
            let f = lives_out (marks ++ new_mark encoder ∷ []) n (let p = length_push marks (new_mark encoder) in omega (arith, p, past, other)) in
            let g = lives_out marks n past in
            omega (arith, e, old, f, g))
      ]
    ]
