-- The encoders that may be open, and what waits for one.
use Rattle.std.proofs.Common.{◌≡◌, ◌≢◌, ℕ, suc, ◌+◌, ◌<◌, ◌≤◌, Bool, true, false, ◌||◌, ◌==◌, List, [], ◌∷◌, ◌++◌, length, Option, Some, None, inl, inr, refl, sym, ap, ◌∙◌, arith, true≢false, if◌then◌else◌}
use Rattle.std.specs.Option.{option_map_or}
use Rattle.std.proofs.lemmas.Bool.{cases_eq, cases_lt, cases_Bool, eq-eqb, ne_eqb, lt-ltb, le-ltb, false_from_ne_true}
use Rattle.std.proofs.lemmas.List.{length_push, get_or_past}
use Rattle.wg_model.specs.Holding.{is_among, any_below}
use Rattle.wg_holders.specs.declared.marks.Mark.{Mark}
use Rattle.wg_holders.specs.declared.tokens.Awaited.{Awaited}
use Rattle.wg_holders.specs.Holders.{mark_at, new_mark, no_mark, is_open, with_ended, with_consumed, with_dropped}
use Rattle.wg_holders.specs.Tokens.{Notes, Rises, waits, is_open_at, starts_open, first_below, Opens, IsFirstOpen, is_awaited_at, InOrder, starts_awaited, Drops, IsTidy}
use Rattle.wg_holders.proofs.Sums.{at_same, at_other, any_none, any_some, any_further, any_less, any_same}
use Rattle.wg_holders.proofs.MarkLemmas.{field_same, field_other, opens_none, ended_opens, dropped_opens, mark_more, mark_last, dropped_more}

-- numbers that rise

rises_from : (low low' high high' : ℕ) (es : List ℕ) → low' ≤ low → high ≤ high' → Rises low high es → Rises low' high' es
rises_from low low' high high' [] le up rises = tt
rises_from low low' high high' (e ∷ es) le up rises = ((let a = rises.0 in omega (arith, a, le)), (let b = rises.1 in omega (arith, b, up)), rises_from (suc e) (suc e) high high' es (omega arith) up rises.2)

rises_push : (low high high' : ℕ) (es : List ℕ) → low ≤ high → high < high' → Rises low high es → Rises low high' (es ++ high ∷ [])
rises_push low high high' [] le up rises = (le, up, tt)
rises_push low high high' (e ∷ es) le up rises = (rises.0, (let b = rises.1 in omega (arith, b, up)), rises_push (suc e) high high' es (let b = rises.1 in omega (arith, b)) up rises.2)

rises_among : (low high f : ℕ) (es : List ℕ) → Rises low high es → is_among es f ≡ true → low ≤ f
rises_among low high f [] rises is = absurd (true≢false (sym is))
rises_among low high f (e ∷ es) rises is = elim (cases_eq e f) [
  | inl here ↦ (let a = rises.0 in omega (arith, a, here))
  | inr other ↦ (let a = rises.0 in let b = rises_among (suc e) high f es rises.2 (sym (ap (λ b. b || is_among es f) (ne_eqb e f other)) ∙ is) in omega (arith, a, b))
]

-- encoders

pub opens_less : (old new : List Mark) (opened : List ℕ) → length new ≡ length old → ((e : ℕ) → is_open_at new e ≡ true → is_open_at old e ≡ true) → Opens old opened → Opens new opened
opens_less old new opened len less opens = record {
  rises = rises_from 0 0 (length old) (length new) opened (omega arith) (omega (arith, len)) opens.rises;
  are_listed = λ e is. opens.are_listed e (less e is);
}

pub first_open : (marks : List Mark) (opened : List ℕ) → starts_open marks opened ≡ true → Opens marks opened → IsFirstOpen marks opened
first_open marks [] starts opens = record { tells = λ k. any_none (is_open_at marks) k (λ e lt. false_from_ne_true (is_open_at marks e) (λ is. true≢false (sym (opens.are_listed e is)))) }
first_open marks (e ∷ opened) starts opens = record {
  tells = λ k. elim (cases_lt e k) [
    | inl less ↦ any_some (is_open_at marks) e k less starts ∙ sym (lt-ltb e k less)
    | inr past ↦ any_none (is_open_at marks) k (λ f lt. false_from_ne_true (is_open_at marks f) (λ is. absurd (let le = rises_among e (length marks) f (e ∷ opened) (omega arith, opens.rises.1, opens.rises.2) (opens.are_listed f is) in omega (arith, le, lt, past)))) ∙ sym (le-ltb e k past)
  ];
}

-- what waits

pub waits_append : (n : ℕ) (xs ys : List Awaited) → waits (xs ++ ys) n ≡ waits xs n + waits ys n
waits_append n [] ys = omega arith
waits_append n (x ∷ xs) ys = let e = waits_append n xs ys in omega (arith, e)

order_from : (marks : List Mark) (low low' : ℕ) (awaited : List Awaited) → low' ≤ low → InOrder marks low awaited → InOrder marks low' awaited
order_from marks low low' [] le order = tt
order_from marks low low' (wait ∷ awaited) le order = ((let a = order.0 in omega (arith, a, le)), order.1, order.2)

order_same : (old new : List Mark) (low : ℕ) (awaited : List Awaited) → ((n : ℕ) → (mark_at new n).dropped ≡ (mark_at old n).dropped) → InOrder old low awaited → InOrder new low awaited
order_same old new low [] same order = tt
order_same old new low (wait ∷ awaited) same order = (order.0, same wait.number ∙ order.1, order_same old new wait.made awaited same order.2)

awaited_by : (marks : List Mark) (n k : ℕ) → (mark_at marks n).dropped ≡ Some k → is_awaited_at marks n ≡ any_below (is_open_at marks) k
awaited_by marks n k e = ap (λ o. option_map_or (any_below (is_open_at marks)) o false) e

pub drops_over : (marks : List Mark) (opened : List ℕ) (wait : Awaited) (awaited : List Awaited) → first_below opened wait.made ≡ false → IsFirstOpen marks opened → Drops marks (wait ∷ awaited) → Drops marks awaited
drops_over marks opened wait awaited over first drops = record {
  made_before = drops.made_before;
  in_order = order_from marks wait.made 0 awaited (omega arith) drops.in_order.2;
  once = λ n. let e = drops.once n in omega (arith, e);
  are_listed = λ n is. elim (cases_eq wait.number n) [
    | inl here ↦ absurd (true≢false (sym is ∙ (ap (is_awaited_at marks) (sym here) ∙ (awaited_by marks wait.number wait.made drops.in_order.1 ∙ (first.tells wait.made ∙ over)))))
    | inr other ↦ (let e = drops.are_listed n is in let none = at_other wait.number n other in omega (arith, e, none))
  ];
}

awaited_less : (old new : List Mark) (n : ℕ) → (mark_at new n).dropped ≡ (mark_at old n).dropped → ((e : ℕ) → is_open_at new e ≡ true → is_open_at old e ≡ true) → is_awaited_at new n ≡ true → is_awaited_at old n ≡ true
awaited_less old new n same less is = by_drop (mark_at old n).dropped (sym (ap (λ o. option_map_or (any_below (is_open_at new)) o false) same) ∙ is)
  where
    by_drop : (o : Option ℕ) → option_map_or (any_below (is_open_at new)) o false ≡ true → option_map_or (any_below (is_open_at old)) o false ≡ true
    by_drop None is = is
    by_drop (Some k) is = any_less (is_open_at new) (is_open_at old) k less is

pub drops_same : (old new : List Mark) (awaited : List Awaited) → length new ≡ length old → ((n : ℕ) → (mark_at new n).dropped ≡ (mark_at old n).dropped) → ((e : ℕ) → is_open_at new e ≡ true → is_open_at old e ≡ true) → Drops old awaited → Drops new awaited
drops_same old new awaited len same less drops = record {
  made_before = λ n k is. let le = drops.made_before n k (sym (same n) ∙ is) in omega (arith, le, len);
  in_order = order_same old new 0 awaited same drops.in_order;
  once = drops.once;
  are_listed = λ n is. drops.are_listed n (awaited_less old new n (same n) less is);
}

-- one object more is dropped

order_push : (old new : List Mark) (number k low : ℕ) (awaited : List Awaited) → low ≤ k → (mark_at old number).dropped ≡ None → (mark_at new number).dropped ≡ Some k → ((n : ℕ) → number ≢ n → (mark_at new n).dropped ≡ (mark_at old n).dropped) → ((n j : ℕ) → (mark_at old n).dropped ≡ Some j → j ≤ k) → InOrder old low awaited → InOrder new low (awaited ++ record { number = number; made = k } ∷ [])
order_push old new number k low [] le none some same before order = (le, some, tt)
order_push old new number k low (wait ∷ awaited) le none some same before order = (
  order.0,
  same wait.number (λ is. absurd (differ (ap (λ n. (mark_at old n).dropped) is ∙ order.1) none)) ∙ order.1,
  order_push old new number k wait.made awaited (before wait.number wait.made order.1) none some same before order.2,
)
  where
    differ : {o : Option ℕ} {j : ℕ} → o ≡ Some j → o ≡ None → ⊥
    differ e f = cc

waits_none : (marks : List Mark) (n low : ℕ) (awaited : List Awaited) → (mark_at marks n).dropped ≡ None → InOrder marks low awaited → waits awaited n ≡ 0
waits_none marks n low [] none order = refl
waits_none marks n low (wait ∷ awaited) none order =
    let first = at_other wait.number n (λ is. absurd (differ (ap (λ m. (mark_at marks m).dropped) (sym is) ∙ order.1) none)) in
    let rest = waits_none marks n wait.made awaited none order.2 in
    omega (arith, first, rest)
  where
    differ : {o : Option ℕ} {j : ℕ} → o ≡ Some j → o ≡ None → ⊥
    differ e f = cc

pub dropped_at : (number k : ℕ) (old new : List Mark) → number < length old → Notes (λ n. with_dropped k (number == n)) old new → (mark_at new number).dropped ≡ Some k
dropped_at number k old new lt notes = ap (λ (mark : Mark). mark.dropped) (notes.each number lt) ∙ ap (λ b. if b then Some k else (mark_at old number).dropped) (eq-eqb number number refl)

pub dropped_other : (number k n : ℕ) (old new : List Mark) → number ≢ n → Notes (λ n. with_dropped k (number == n)) old new → (mark_at new n).dropped ≡ (mark_at old n).dropped
dropped_other number k n old new other notes = field_other (λ (mark : Mark). mark.dropped) (λ n. with_dropped k (number == n)) old new n (λ mark. ap (λ b. if b then Some k else mark.dropped) (ne_eqb number n other)) notes

pub drops_dropped : (number : ℕ) (old new : List Mark) (awaited : List Awaited) → number < length old → (mark_at old number).dropped ≡ None → Notes (λ n. with_dropped (length old) (number == n)) old new → Drops old awaited → Drops new (awaited ++ record { number = number; made = length old } ∷ [])
drops_dropped number old new awaited lt none notes drops = record {
  made_before = λ n k is. elim (cases_eq number n) [
    | inl here ↦ (let e = notes.len in let f : k ≡ length old = some_same (sym is ∙ (ap (λ n. (mark_at new n).dropped) (sym here) ∙ dropped_at number (length old) old new lt notes)) in omega (arith, e, f))
    | inr other ↦ (let le = drops.made_before n k (sym (dropped_other number (length old) n old new other notes) ∙ is) in let e = notes.len in omega (arith, le, e))
  ];
  in_order = order_push old new number (length old) 0 awaited (omega arith) none (dropped_at number (length old) old new lt notes) (λ n other. dropped_other number (length old) n old new other notes) drops.made_before drops.in_order;
  once = λ n. let e = waits_append n awaited (record { number = number; made = length old } ∷ []) in elim (cases_eq number n) [
    | inl here ↦ (let zero' = waits_none old number 0 awaited none drops.in_order in let f = ap (waits awaited) here in let one = at_same number n here in omega (arith, e, f, zero', one))
    | inr other ↦ (let le = drops.once n in let out = at_other number n other in omega (arith, e, le, out))
  ];
  are_listed = λ n is. let e = waits_append n awaited (record { number = number; made = length old } ∷ []) in elim (cases_eq number n) [
    | inl here ↦ (let one = at_same number n here in omega (arith, e, one))
    | inr other ↦ (let lt = drops.are_listed n (awaited_less old new n (dropped_other number (length old) n old new other notes) (opens_none (λ n. with_dropped (length old) (number == n)) old new (λ n mark. dropped_opens (length old) (number == n) mark) notes) is) in omega (arith, e, lt))
  ];
}
  where
    some_same : {j k : ℕ} → Some j ≡ Some k → j ≡ k
    some_same e = cc

-- both lists

aux_none : (marks : List Mark) (n low : ℕ) (awaited : List Awaited) → any_below (is_open_at marks) low ≡ true → is_awaited_at marks n ≡ false → InOrder marks low awaited → waits awaited n ≡ 0
aux_none marks n low [] some out order = refl
aux_none marks n low (wait ∷ awaited) some out order =
    let further = any_further (is_open_at marks) low wait.made order.0 some in
    let first = at_other wait.number n (λ is. absurd (true≢false (sym further ∙ (sym (awaited_by marks wait.number wait.made order.1) ∙ (ap (is_awaited_at marks) is ∙ out))))) in
    let rest = aux_none marks n wait.made awaited further out order.2 in
    omega (arith, first, rest)

over_none : (marks : List Mark) (opened : List ℕ) (awaited : List Awaited) (n : ℕ) → IsFirstOpen marks opened → starts_awaited opened awaited ≡ true → is_awaited_at marks n ≡ false → InOrder marks 0 awaited → waits awaited n ≡ 0
over_none marks opened [] n first starts out order = refl
over_none marks opened (wait ∷ awaited) n first starts out order = aux_none marks n wait.made (wait ∷ awaited) (first.tells wait.made ∙ starts) out (omega arith, order.1, order.2)

-- An object waits once where it is awaited.
pub tidy_waits : (marks : List Mark) (opened : List ℕ) (awaited : List Awaited) (n : ℕ) → IsTidy marks opened awaited → waits awaited n ≡ (if is_awaited_at marks n then 1 else 0)
tidy_waits marks opened awaited n tidy = elim (cases_Bool (is_awaited_at marks n)) [
  | inl within ↦ (let le = tidy.drops.once n in let some = tidy.drops.are_listed n within in let one : waits awaited n ≡ 1 = omega (arith, le, some) in one ∙ ap (λ b. if b then 1 else 0) (sym within))
  | inr out ↦ over_none marks opened awaited n (first_open marks opened tidy.open_first tidy.opens) tidy.awaited_first out tidy.drops.in_order ∙ ap (λ b. if b then 1 else 0) (sym out)
]

-- a consumed command buffer changes neither
pub tidy_consumed : (number : ℕ) (old new : List Mark) (opened : List ℕ) (awaited : List Awaited) → Notes (λ n. with_consumed (number == n)) old new → IsTidy old opened awaited → IsTidy new opened awaited
tidy_consumed number old new opened awaited notes tidy = record {
  opens = opens_less old new opened notes.len less tidy.opens;
  open_first = starts opened tidy.open_first;
  drops = drops_same old new awaited notes.len (field_same (λ (mark : Mark). mark.dropped) (λ n. with_consumed (number == n)) old new (λ n mark. refl) notes) less tidy.drops;
  awaited_first = tidy.awaited_first;
}
  where
    same : (e : ℕ) → is_open_at new e ≡ is_open_at old e
    same = field_same is_open (λ n. with_consumed (number == n)) old new (λ n mark. refl) notes

    less : (e : ℕ) → is_open_at new e ≡ true → is_open_at old e ≡ true
    less e is = sym (same e) ∙ is

    starts : (opened : List ℕ) → starts_open old opened ≡ true → starts_open new opened ≡ true
    starts [] is = is
    starts (e ∷ opened) is = same e ∙ is

pub drops_ended : (number : ℕ) (old new : List Mark) (awaited : List Awaited) → Notes (λ n. with_ended (number == n)) old new → Drops old awaited → Drops new awaited
drops_ended number old new awaited notes drops = drops_same old new awaited notes.len (field_same (λ (mark : Mark). mark.dropped) (λ n. with_ended (number == n)) old new (λ n mark. refl) notes) (opens_none (λ n. with_ended (number == n)) old new (λ n mark. ended_opens (number == n) mark) notes) drops

-- an object that was dropped
pub opens_dropped : (number k : ℕ) (old new : List Mark) (opened : List ℕ) → Notes (λ n. with_dropped k (number == n)) old new → Opens old opened → Opens new opened
opens_dropped number k old new opened notes opens = opens_less old new opened notes.len (opens_none (λ n. with_dropped k (number == n)) old new (λ n mark. dropped_opens k (number == n) mark) notes) opens

-- one object more

open_more : (marks : List Mark) (encoder : Bool) (e : ℕ) → e < length marks → is_open_at (marks ++ new_mark encoder ∷ []) e ≡ is_open_at marks e
open_more marks encoder e lt = ap is_open (mark_more marks encoder e lt)

open_last : (encoder : Bool) → is_open (new_mark encoder) ≡ encoder
open_last true = refl
open_last false = refl

or_left : (a b : Bool) → a ≡ true → (a || b) ≡ true
or_left true b e = refl
or_left false b e = absurd (true≢false (sym e))

among_append : (xs : List ℕ) (y n : ℕ) → is_among (xs ++ y ∷ []) n ≡ (is_among xs n || y == n)
among_append [] y n = or_no (y == n)
  where
    or_no : (b : Bool) → (b || false) ≡ b
    or_no true = refl
    or_no false = refl
among_append (x ∷ xs) y n = by_first (x == n) (among_append xs y n)
  where
    by_first : (b : Bool) → is_among (xs ++ y ∷ []) n ≡ (is_among xs n || y == n) → (b || is_among (xs ++ y ∷ []) n) ≡ ((b || is_among xs n) || y == n)
    by_first true e = refl
    by_first false e = e

among_last : (xs : List ℕ) (y n : ℕ) → y ≡ n → is_among (xs ++ y ∷ []) n ≡ true
among_last xs y n e = among_append xs y n ∙ by_left (is_among xs n) (y == n) (eq-eqb y n e)
  where
    by_left : (a b : Bool) → b ≡ true → (a || b) ≡ true
    by_left true b e = refl
    by_left false b e = e

-- what a new object makes of the list of encoders
abbrev with_encoder : List Mark → Bool → List ℕ → List ℕ
with_encoder marks encoder opened = if encoder then opened ++ length marks ∷ [] else opened

opens_added : (marks : List Mark) (encoder : Bool) (opened : List ℕ) → Opens marks opened → Opens (marks ++ new_mark encoder ∷ []) (with_encoder marks encoder opened)
opens_added marks encoder opened opens = record { rises = rises encoder; are_listed = λ e is. listed e is }
  where
    more : length (marks ++ new_mark encoder ∷ []) ≡ length marks + 1
    more = length_push marks (new_mark encoder)

    rises : (b : Bool) → Rises 0 (length (marks ++ new_mark encoder ∷ [])) (if b then opened ++ length marks ∷ [] else opened)
    rises true = rises_push 0 (length marks) (length (marks ++ new_mark encoder ∷ [])) opened (omega arith) (let e = more in omega (arith, e)) opens.rises
    rises false = rises_from 0 0 (length marks) (length (marks ++ new_mark encoder ∷ [])) opened (omega arith) (let e = more in omega (arith, e)) opens.rises

    within : (b : Bool) (e : ℕ) → is_among opened e ≡ true → is_among (if b then opened ++ length marks ∷ [] else opened) e ≡ true
    within true e is = among_append opened (length marks) e ∙ or_left (is_among opened e) (length marks == e) is
    within false e is = is

    last : (b : Bool) (e : ℕ) → e ≡ length marks → b ≡ true → is_among (if b then opened ++ length marks ∷ [] else opened) e ≡ true
    last true e here is = among_last opened (length marks) e (sym here)
    last false e here is = absurd (true≢false (sym is))

    listed : (e : ℕ) → is_open_at (marks ++ new_mark encoder ∷ []) e ≡ true → is_among (with_encoder marks encoder opened) e ≡ true
    listed e is = elim (cases_lt e (length marks)) [
      | inl less ↦ within encoder e (opens.are_listed e (sym (open_more marks encoder e less) ∙ is))
      | inr past ↦ elim (cases_eq e (length marks)) [
        | inl here ↦ last encoder e here (sym (ap is_open (mark_last marks encoder e here) ∙ open_last encoder) ∙ is)
        | inr other ↦ absurd (true≢false (sym is ∙ ap is_open (get_or_past (marks ++ new_mark encoder ∷ []) e no_mark (let m = more in omega (arith, m, past, other)))))
      ]
    ]

starts_added : (marks : List Mark) (encoder : Bool) (opened : List ℕ) → Rises 0 (length marks) opened → starts_open marks opened ≡ true → starts_open (marks ++ new_mark encoder ∷ []) (with_encoder marks encoder opened) ≡ true
starts_added marks true [] rises starts = ap is_open (mark_last marks true (length marks) refl)
starts_added marks false [] rises starts = refl
starts_added marks true (e ∷ opened) rises starts = open_more marks true e rises.1 ∙ starts
starts_added marks false (e ∷ opened) rises starts = open_more marks false e rises.1 ∙ starts

front_added : (marks : List Mark) (encoder : Bool) (opened : List ℕ) (awaited : List Awaited) → starts_awaited opened awaited ≡ true → starts_awaited (with_encoder marks encoder opened) awaited ≡ true
front_added marks encoder opened [] starts = refl
front_added marks encoder [] (wait ∷ awaited) starts = absurd (true≢false (sym starts))
front_added marks true (e ∷ opened) (wait ∷ awaited) starts = starts
front_added marks false (e ∷ opened) (wait ∷ awaited) starts = starts

drops_added : (marks : List Mark) (encoder : Bool) (awaited : List Awaited) → Drops marks awaited → Drops (marks ++ new_mark encoder ∷ []) awaited
drops_added marks encoder awaited drops = record {
  made_before = λ n k is. let le = drops.made_before n k (sym (dropped_more marks encoder n) ∙ is) in let e = length_push marks (new_mark encoder) in omega (arith, le, e);
  in_order = order_same marks (marks ++ new_mark encoder ∷ []) 0 awaited (dropped_more marks encoder) drops.in_order;
  once = drops.once;
  are_listed = λ n is. drops.are_listed n (old_drop (mark_at marks n).dropped (drops.made_before n) (sym (ap (λ o. option_map_or (any_below (is_open_at (marks ++ new_mark encoder ∷ []))) o false) (dropped_more marks encoder n)) ∙ is));
}
  where
    old_drop : (o : Option ℕ) → ((k : ℕ) → o ≡ Some k → k ≤ length marks) → option_map_or (any_below (is_open_at (marks ++ new_mark encoder ∷ []))) o false ≡ true → option_map_or (any_below (is_open_at marks)) o false ≡ true
    old_drop None before is = is
    old_drop (Some k) before is = sym (any_same (is_open_at (marks ++ new_mark encoder ∷ [])) (is_open_at marks) k (λ e lt. open_more marks encoder e (let le = before k refl in omega (arith, le, lt)))) ∙ is

pub tidy_added : (marks : List Mark) (encoder : Bool) (opened : List ℕ) (awaited : List Awaited) → IsTidy marks opened awaited → IsTidy (marks ++ new_mark encoder ∷ []) (if encoder then opened ++ length marks ∷ [] else opened) awaited
tidy_added marks encoder opened awaited tidy = record {
  opens = opens_added marks encoder opened tidy.opens;
  open_first = starts_added marks encoder opened tidy.opens.rises tidy.open_first;
  drops = drops_added marks encoder awaited tidy.drops;
  awaited_first = front_added marks encoder opened awaited tidy.awaited_first;
}
