-- Promises that wait stand in the order of their numbers, so that what settles some of them leaves just the others; on a
-- lost device none waits.
use Rattle.std.proofs.Common.{◌≡◌, ℕ, suc, ◌+◌, ◌<◌, ◌≤◌, Bool, true, false, not, ◌||◌, List, [], ◌∷◌, ◌++◌, length, filter, Option, is_none, refl, ap, ap₂, sym, ◌∙◌, arith, append-nil, if◌then◌else◌, true≢false, subst}
use Rattle.std.proofs.lemmas.Bool.{eq-eqb, ne_eqb}
use Rattle.wg_trace.specs.declared.replies.Reply.{Reply}
use Rattle.wg_trace.specs.declared.replies.How.{How}
use Rattle.wg_trace.specs.declared.replies.How.TheVariants.{Done, Aborted}
use Rattle.wg_trace.specs.declared.replies.Settlement.{Settlement}
use Rattle.wg_types.specs.declared.handles.ObjRef.{ObjRef}
use Rattle.wg_history.specs.declared.events.Setup.{Setup}
use Rattle.wg_history.specs.Entries.{Event, Form, Making, Queue, Promising, Completion, Plainly, ForWork, ForError, ForMap, effects_of, Lose, Past}
use Rattle.wg_history.specs.Operations.{issued, last_use}
use Rattle.wg_history.specs.Loss.{is_lost, Awaited, mapping, work, Wait, Ascends, asked_mapping, promised, settles, unsettled, awaiting}
use Rattle.wg_history.specs.Answers.{at_once, settle_all, ended_how, either, settled_in, IsRun}
use Rattle.wg_history.specs.FirstRules.{first_rule}
use Rattle.wg_history.proofs.Runs.{newest, others}

pub ascends_le : (lo hi : ℕ) (ws : List Wait) → Ascends lo hi ws → lo ≤ hi
ascends_le lo hi [] a = a
ascends_le lo hi (w ∷ ws) a = let h = ascends_le (suc w.promise) hi ws a.1 in let g = a.0 in omega (arith, h, g)

pub ascends_from : (k lo hi : ℕ) (ws : List Wait) → k ≤ lo → Ascends lo hi ws → Ascends k hi ws
ascends_from k lo hi [] le a = omega (arith, le, a)
ascends_from k lo hi (w ∷ ws) le a = (let g = a.0 in omega (arith, le, g), a.1)

ascends_up : (lo hi : ℕ) (ws : List Wait) → Ascends lo hi ws → Ascends lo (hi + 1) ws
ascends_up lo hi [] a = omega (arith, a)
ascends_up lo hi (w ∷ ws) a = (a.0, ascends_up (suc w.promise) hi ws a.1)

ascends_push : (lo hi : ℕ) (awaited : Awaited) (ws : List Wait) → Ascends lo hi ws → Ascends lo (hi + 1) (ws ++ record { promise = hi; awaited = awaited } ∷ [])
ascends_push lo hi awaited [] a = (a, omega arith)
ascends_push lo hi awaited (w ∷ ws) a = (a.0, ascends_push (suc w.promise) hi awaited ws a.1)

pub ascends_filter : (p : Wait → Bool) (lo hi : ℕ) (ws : List Wait) → Ascends lo hi ws → Ascends lo hi (filter p ws)
ascends_filter p lo hi [] a = a
ascends_filter p lo hi (w ∷ ws) a = by_test (p w) (ascends_filter p (suc w.promise) hi ws a.1)
  where
    by_test : (b : Bool) → Ascends (suc w.promise) hi (filter p ws) → Ascends lo hi (if b then w ∷ filter p ws else filter p ws)
    by_test true rest = (a.0, rest)
    by_test false rest = ascends_from lo (suc w.promise) hi (filter p ws) (let g = a.0 in omega (arith, g)) rest

ascends_promised : (past : Past) (form : Form) (ws : List Wait) → Ascends 0 (length past) ws → Ascends 0 (length past + 1) (ws ++ promised past form)
ascends_promised past (Promising ForWork) ws a = ascends_push 0 (length past) (work (issued past)) ws a
ascends_promised past (Promising (ForMap buffer mode offset size)) ws a = ascends_push 0 (length past) (mapping buffer.number (last_use past buffer.number) (asked_mapping mode offset size)) ws a
ascends_promised past (Promising ForError) ws a = subst (Ascends 0 (length past + 1)) (sym (append-nil ws)) (ascends_up 0 (length past) ws a)
ascends_promised past Making ws a = subst (Ascends 0 (length past + 1)) (sym (append-nil ws)) (ascends_up 0 (length past) ws a)
ascends_promised past Queue ws a = subst (Ascends 0 (length past + 1)) (sym (append-nil ws)) (ascends_up 0 (length past) ws a)
ascends_promised past (Completion op) ws a = subst (Ascends 0 (length past + 1)) (sym (append-nil ws)) (ascends_up 0 (length past) ws a)
ascends_promised past Plainly ws a = subst (Ascends 0 (length past + 1)) (sym (append-nil ws)) (ascends_up 0 (length past) ws a)

-- Promises wait in the order of the entries that made them.
pub awaiting_ascends : (past : Past) → Ascends 0 (length past) (awaiting past)
awaiting_ascends [] = omega arith
awaiting_ascends (entry ∷ older) =
    subst (λ n. Ascends 0 n (awaiting (entry ∷ older))) (omega arith)
    (ascends_filter (λ (w : Wait). not (settles entry.reply.settled w.promise)) 0 (length older + 1) _
    (ascends_promised older (effects_of entry.event).form (awaiting older) (awaiting_ascends older)))

-- What settlements leave of what waits.

pub unsettled_none : (ws : List Wait) → unsettled [] ws ≡ ws
unsettled_none [] = refl
unsettled_none (w ∷ ws) = ap (λ xs. w ∷ xs) (unsettled_none ws)

unsettled-append : (settled : List Settlement) (xs ys : List Wait) → unsettled settled (xs ++ ys) ≡ unsettled settled xs ++ unsettled settled ys
unsettled-append settled [] ys = refl
unsettled-append settled (x ∷ xs) ys = step (not (settles settled x.promise)) (unsettled-append settled xs ys)
  where
    step : (b : Bool) → unsettled settled (xs ++ ys) ≡ unsettled settled xs ++ unsettled settled ys → (if b then x ∷ unsettled settled (xs ++ ys) else unsettled settled (xs ++ ys)) ≡ (if b then x ∷ unsettled settled xs else unsettled settled xs) ++ unsettled settled ys
    step true e = ap (λ zs. x ∷ zs) e
    step false e = e

-- one that was never made
pub unsettled_later : (how : How) (lo hi : ℕ) (ws : List Wait) → Ascends lo hi ws → unsettled (at_once hi how) ws ≡ ws
unsettled_later how lo hi [] a = refl
unsettled_later how lo hi (w ∷ ws) a =
    ap₂ (λ b rest. if not (b || false) then w ∷ rest else rest) (ne_eqb hi w.promise (λ same. let h = ascends_le (suc w.promise) hi ws a.1 in absurd (omega (arith, h, same)))) (unsettled_later how (suc w.promise) hi ws a.1)

-- one's own
pub unsettled_own : (how : How) (awaited : Awaited) (hi : ℕ) (ws : List Wait) → Ascends 0 hi ws → unsettled (at_once hi how) (ws ++ record { promise = hi; awaited = awaited } ∷ []) ≡ ws
unsettled_own how awaited hi ws a =
    unsettled-append (at_once hi how) ws (record { promise = hi; awaited = awaited } ∷ [])
    ∙ (ap₂ ◌++◌ (unsettled_later how 0 hi ws a) (ap (λ (b : Bool). if not (b || false) then record { promise = hi; awaited = awaited } ∷ [] else []) (eq-eqb hi hi refl)) ∙ append-nil ws)

pub settled_below : (how : Awaited → How) (p : Wait → Bool) (n lo hi : ℕ) (ws : List Wait) → n < lo → Ascends lo hi ws → settles (settle_all how (filter p ws)) n ≡ false
settled_below how p n lo hi [] lt a = refl
settled_below how p n lo hi (w ∷ ws) lt a = by_test (p w) (settled_below how p n (suc w.promise) hi ws (let g = a.0 in omega (arith, lt, g)) a.1)
  where
    by_test : (b : Bool) → settles (settle_all how (filter p ws)) n ≡ false → settles (settle_all how (if b then w ∷ filter p ws else filter p ws)) n ≡ false
    by_test true rest = ap₂ ◌||◌ (ne_eqb w.promise n (λ same. let g = a.0 in absurd (omega (arith, lt, g, same)))) rest
    by_test false rest = rest

-- one of an earlier promise leaves later ones
unsettled_skip : (s : Settlement) (settled : List Settlement) (lo hi : ℕ) (ws : List Wait) → s.promise < lo → Ascends lo hi ws → unsettled (s ∷ settled) ws ≡ unsettled settled ws
unsettled_skip s settled lo hi [] lt a = refl
unsettled_skip s settled lo hi (w ∷ ws) lt a =
    ap₂ (λ b rest. if not (b || settles settled w.promise) then w ∷ rest else rest) (ne_eqb s.promise w.promise (λ same. let g = a.0 in absurd (omega (arith, lt, g, same))))
    (unsettled_skip s settled (suc w.promise) hi ws (let g = a.0 in omega (arith, lt, g)) a.1)

-- Settling those that pass a test leaves those that don't.
pub unsettled_tested : (how : Awaited → How) (p : Wait → Bool) (lo hi : ℕ) (ws : List Wait) → Ascends lo hi ws → unsettled (settle_all how (filter p ws)) ws ≡ filter (λ w. not (p w)) ws
unsettled_tested how p lo hi [] a = refl
unsettled_tested how p lo hi (w ∷ ws) a = by_test (p w) (unsettled_tested how p (suc w.promise) hi ws a.1)
  where
    by_test : (b : Bool) → unsettled (settle_all how (filter p ws)) ws ≡ filter (λ w. not (p w)) ws
        → unsettled (settle_all how (if b then w ∷ filter p ws else filter p ws)) (w ∷ ws) ≡ (if not b then w ∷ filter (λ w. not (p w)) ws else filter (λ w. not (p w)) ws)
    by_test true rest =
        ap (λ (b : Bool). if not (b || settles (settle_all how (filter p ws)) w.promise) then w ∷ unsettled (record { promise = w.promise; how = how w.awaited } ∷ settle_all how (filter p ws)) ws else unsettled (record { promise = w.promise; how = how w.awaited } ∷ settle_all how (filter p ws)) ws) (eq-eqb w.promise w.promise refl)
        ∙ (unsettled_skip (record { promise = w.promise; how = how w.awaited }) (settle_all how (filter p ws)) (suc w.promise) hi ws (omega arith) a.1 ∙ rest)
    by_test false rest = ap₂ (λ b xs. if not b then w ∷ xs else xs) (settled_below how p w.promise (suc w.promise) hi ws (omega arith) a.1) rest

filter_all : (ws : List Wait) → filter (λ (w : Wait). true) ws ≡ ws
filter_all [] = refl
filter_all (w ∷ ws) = ap (λ xs. w ∷ xs) (filter_all ws)

filter_no : (ws : List Wait) → filter (λ (w : Wait). not true) ws ≡ []
filter_no [] = refl
filter_no (w ∷ ws) = filter_no ws

pub unsettled_all : (how : Awaited → How) (hi : ℕ) (ws : List Wait) → Ascends 0 hi ws → unsettled (settle_all how ws) ws ≡ []
unsettled_all how hi ws a = ap (λ xs. unsettled (settle_all how xs) ws) (sym (filter_all ws)) ∙ (unsettled_tested how (λ (w : Wait). true) 0 hi ws a ∙ filter_no ws)

-- on a lost device

own_alone : (past : Past) (form : Form) (loses : Bool) (unmapped : Option ObjRef) (met : Bool) → unsettled (settled_in past form loses unmapped true met) (promised past form) ≡ []
own_alone past (Promising ForWork) loses unmapped met = unsettled_own Done (work (issued past)) (length past) [] (omega arith)
own_alone past (Promising (ForMap buffer mode offset size)) loses unmapped met = unsettled_own Aborted (mapping buffer.number (last_use past buffer.number) (asked_mapping mode offset size)) (length past) [] (omega arith)
own_alone past (Promising ForError) loses unmapped met = refl
own_alone past Making loses unmapped met = refl
own_alone past Queue loses unmapped met = refl
own_alone past (Completion op) loses unmapped met = refl
own_alone past Plainly loses unmapped met = refl

-- what an event settles where the device was lost or was not before it
abbrev pub settled_when : Past → Event → Bool → Bool → List Settlement
settled_when past event lost met = settled_in past (effects_of event).form (effects_of event).loses (either (effects_of event).unmapped (effects_of event).destroyed) lost met

lost_next : (past : Past) (event : Event) (lost met : Bool) → is_lost past ≡ lost → (lost ≡ true → awaiting past ≡ []) → ((effects_of event).loses || lost) ≡ true
    → unsettled (settled_when past event lost met) (awaiting past ++ promised past (effects_of event).form) ≡ []
lost_next past event true met e none l =
    ap (λ (ws : List Wait). unsettled (settled_when past event true met) (ws ++ promised past (effects_of event).form)) (none refl)
    ∙ own_alone past (effects_of event).form (effects_of event).loses (either (effects_of event).unmapped (effects_of event).destroyed) met
lost_next past Lose false met e none l = ap (λ ws. unsettled (settle_all ended_how (awaiting past)) ws) (append-nil (awaiting past)) ∙ unsettled_all ended_how (length past) (awaiting past) (awaiting_ascends past)
lost_next past _ false met e none l = absurd (true≢false (sym l))

pub awaiting_lost : (setup : Setup) (past : Past) → IsRun setup past → is_lost past ≡ true → awaiting past ≡ []
awaiting_lost setup [] run lost = refl
awaiting_lost setup (entry ∷ older) run lost =
    ap (λ (reply : Reply). unsettled reply.settled (awaiting older ++ promised older (effects_of entry.event).form)) (newest setup entry older run)
    ∙ lost_next older entry.event (is_lost older) (is_none (first_rule setup older entry.event)) refl (awaiting_lost setup older (others setup entry older run)) lost
