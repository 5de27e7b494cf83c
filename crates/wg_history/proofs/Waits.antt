-- A promise to map a buffer that waits has a last use which is not complete, and which is no later than the buffer's last
-- use: so of a buffer whose uses are complete none waits.
use Rattle.std.proofs.Common.{◌≡◌, ℕ, ◌≤◌, List, [], ◌∷◌, ◌++◌, length, filter, Bool, true, false, not, ◌&&◌, ◌||◌, ◌==◌, nat_le, is_none, unwrap_or, refl, ap, ap₂, sym, ◌∙◌, arith, append-nil, if◌then◌else◌, true≢false}
use Rattle.std.specs.List.{list_any}
use Rattle.std.proofs.lemmas.List.Folds.{list_any-append}
use Rattle.std.proofs.lemmas.Bool.{and_parts, eqb-true, leb-true, le-leb}
use Rattle.wg_trace.specs.declared.replies.Reply.{Reply}
use Rattle.wg_trace.specs.declared.replies.How.{How}
use Rattle.wg_trace.specs.declared.replies.How.TheVariants.{Mapped, Aborted, Rejected}
use Rattle.wg_trace.specs.declared.replies.Settlement.{Settlement}
use Rattle.wg_model.proofs.Sparing.{or_first}
use Rattle.wg_history.specs.Entries.{Setup, Event, Complete, MapAsync, Form, Making, Queue, Promising, Completion, Plainly, ForWork, ForError, ForMap, effects_of, Past}
use Rattle.wg_history.specs.Operations.{completion, completed, last_use}
use Rattle.wg_history.specs.Loss.{is_lost, Awaited, mapping, work, Wait, asked_mapping, promised, settles, unsettled, awaiting, is_of, is_map_of, is_pending}
use Rattle.wg_history.specs.FirstRules.{first_rule}
use Rattle.wg_history.specs.Answers.{Plain, BadCompletion, at_once, settle_all, kept_how, is_over, is_kept, is_taken, reply_to, IsRun}
use Rattle.wg_history.proofs.Runs.{newest, others}
use Rattle.wg_history.proofs.Tests.{was_not, none_either}
use Rattle.wg_history.proofs.Awaiting.{awaiting_ascends, unsettled_own, unsettled_tested}

-- what is left of what waits, by a test

pub any_filter : (p q : Wait → Bool) (ws : List Wait) → list_any p ws ≡ false → list_any p (filter q ws) ≡ false
any_filter p q [] e = refl
any_filter p q (w ∷ ws) e = by_test (q w) (any_filter p q ws (was_not (p w) (list_any p ws) e))
  where
    by_test : (b : Bool) → list_any p (filter q ws) ≡ false → list_any p (if b then w ∷ filter q ws else filter q ws) ≡ false
    by_test true rest = ap₂ ◌||◌ (or_first (p w) (list_any p ws) e) rest
    by_test false rest = rest

pub any_unsettled : (p : Wait → Bool) (settled : List Settlement) (ws : List Wait) → list_any p ws ≡ false → list_any p (unsettled settled ws) ≡ false
any_unsettled p settled ws e = any_filter p (λ w. not (settles settled w.promise)) ws e

pub any_both : (p : Wait → Bool) (xs ys : List Wait) → list_any p xs ≡ false → list_any p ys ≡ false → list_any p (xs ++ ys) ≡ false
any_both p xs ys e f = list_any-append p xs ys ∙ ap₂ ◌||◌ e f

-- the promise to map buffer n whose operations are complete up to one, or are not all before one
abbrev is_late : ℕ → ℕ → Awaited → Bool
is_late op n (mapping buffer last m) = buffer == n && nat_le last op
is_late op n (work ops) = false

abbrev is_beyond : ℕ → ℕ → Awaited → Bool
is_beyond op n (mapping buffer last m) = buffer == n && not (nat_le last op)
is_beyond op n (work ops) = false

-- None is late.

late_is_over : (op n : ℕ) (awaited : Awaited) → is_late op n awaited ≡ true → is_over op awaited ≡ true
late_is_over op n (mapping buffer last m) e = (and_parts (buffer == n) (nat_le last op) e).1
late_is_over op n (work ops) e = absurd (true≢false (sym e))

none_left_late : (op n : ℕ) (ws : List Wait) → list_any (λ (w : Wait). is_late op n w.awaited) (filter (λ w. not (is_kept op w)) ws) ≡ false
none_left_late op n [] = refl
none_left_late op n (w ∷ ws) = by_kept (is_kept op w) refl (none_left_late op n ws)
  where
    not_late : (b : Bool) → is_late op n w.awaited ≡ b → is_kept op w ≡ false → b ≡ false
    not_late true e kept = absurd (true≢false (sym (late_is_over op n w.awaited e) ∙ kept))
    not_late false e kept = refl

    by_kept : (b : Bool) → is_kept op w ≡ b → list_any (λ (w : Wait). is_late op n w.awaited) (filter (λ w. not (is_kept op w)) ws) ≡ false → list_any (λ (w : Wait). is_late op n w.awaited) (if not b then w ∷ filter (λ w. not (is_kept op w)) ws else filter (λ w. not (is_kept op w)) ws) ≡ false
    by_kept true e rest = rest
    by_kept false e rest = ap₂ ◌||◌ (not_late (is_late op n w.awaited) refl e) rest

late_next : (setup : Setup) (past : Past) (event : Event) (n : ℕ) → list_any (λ (w : Wait). is_late (completed past) n w.awaited) (awaiting past) ≡ false
    → list_any (λ (w : Wait). is_late (unwrap_or (completion event (reply_to setup past event).answer) (completed past)) n w.awaited) (unsettled (reply_to setup past event).settled (awaiting past ++ promised past (effects_of event).form)) ≡ false
late_next setup past (Complete op) n before = by_taken (is_taken past op)
  where
    by_taken : (b : Bool) → list_any (λ (w : Wait). is_late (unwrap_or (completion (Complete op) (if b then Plain else BadCompletion)) (completed past)) n w.awaited) (unsettled (if b then settle_all kept_how (filter (is_kept op) (awaiting past)) else []) (awaiting past ++ [])) ≡ false
    by_taken true =
        ap (λ (ws : List Wait). list_any (λ (w : Wait). is_late op n w.awaited) ws) (ap (unsettled (settle_all kept_how (filter (is_kept op) (awaiting past)))) (append-nil (awaiting past)) ∙ unsettled_tested kept_how (is_kept op) 0 (length past) (awaiting past) (awaiting_ascends past))
        ∙ none_left_late op n (awaiting past)
    by_taken false = any_unsettled (λ (w : Wait). is_late (completed past) n w.awaited) [] (awaiting past ++ []) (any_both (λ (w : Wait). is_late (completed past) n w.awaited) (awaiting past) [] before refl)
late_next setup past (MapAsync buffer mode offset size) n before = by_parts (is_lost past) (is_none (first_rule setup past (MapAsync buffer mode offset size))) (nat_le (last_use past buffer.number) (completed past)) refl
  where
    own : Awaited
    own = mapping buffer.number (last_use past buffer.number) (asked_mapping mode offset size)

    settled : (how : How) → list_any (λ (w : Wait). is_late (completed past) n w.awaited) (unsettled (at_once (length past) how) (awaiting past ++ record { promise = length past; awaited = own } ∷ [])) ≡ false
    settled how = ap (λ (ws : List Wait). list_any (λ (w : Wait). is_late (completed past) n w.awaited) ws) (unsettled_own how own (length past) (awaiting past) (awaiting_ascends past)) ∙ before

    not_late : (((buffer.number == n) && false) || false) ≡ false
    not_late = by_same (buffer.number == n)
      where
        by_same : (b : Bool) → ((b && false) || false) ≡ false
        by_same true = refl
        by_same false = refl

    by_parts : (lost met over : Bool) → nat_le (last_use past buffer.number) (completed past) ≡ over
        → list_any (λ (w : Wait). is_late (completed past) n w.awaited) (unsettled (if lost then at_once (length past) Aborted else if not met then at_once (length past) Rejected else if over then at_once (length past) Mapped else []) (awaiting past ++ record { promise = length past; awaited = own } ∷ [])) ≡ false
    by_parts true met over e = settled Aborted
    by_parts false false over e = settled Rejected
    by_parts false true true e = settled Mapped
    by_parts false true false e = any_unsettled (λ (w : Wait). is_late (completed past) n w.awaited) [] (awaiting past ++ record { promise = length past; awaited = own } ∷ [])
        (any_both (λ (w : Wait). is_late (completed past) n w.awaited) (awaiting past) (record { promise = length past; awaited = own } ∷ []) before (ap (λ b. (buffer.number == n && b) || false) e ∙ not_late))
late_next setup past event n before = any_unsettled (λ (w : Wait). is_late (completed past) n w.awaited) (reply_to setup past event).settled (awaiting past ++ promised past (effects_of event).form) (any_both (λ (w : Wait). is_late (completed past) n w.awaited) (awaiting past) (promised past (effects_of event).form) before refl)

none_late : (setup : Setup) (past : Past) (n : ℕ) → IsRun setup past → list_any (λ (w : Wait). is_late (completed past) n w.awaited) (awaiting past) ≡ false
none_late setup [] n run = refl
none_late setup (entry ∷ older) n run =
    ap (λ (reply : Reply). list_any (λ (w : Wait). is_late (unwrap_or (completion entry.event reply.answer) (completed older)) n w.awaited) (unsettled reply.settled (awaiting older ++ promised older (effects_of entry.event).form))) (newest setup entry older run)
    ∙ late_next setup older entry.event n (none_late setup older n (others setup entry older run))

-- None is beyond the last use.

beyond_falls : (low high n : ℕ) → low ≤ high → (awaited : Awaited) → is_beyond high n awaited ≡ true → (is_beyond low n awaited || is_beyond low n awaited) ≡ true
beyond_falls low high n le (mapping buffer last m) e = let parts = and_parts (buffer == n) (not (nat_le last high)) e in by_order (nat_le last low) refl parts.0 parts.1
  where
    by_order : (b : Bool) → nat_le last low ≡ b → (buffer == n) ≡ true → not (nat_le last high) ≡ true → ((buffer == n && not b) || (buffer == n && not b)) ≡ true
    by_order true is same above = absurd (let lower : last ≤ low = leb-true last low is in true≢false (sym above ∙ ap not (le-leb last high (omega (arith, lower, le)))))
    by_order false is same above = ap (λ b. (b && true) || (b && true)) same
beyond_falls low high n le (work ops) e = absurd (true≢false (sym e))

own_beyond : (past : Past) (form : Form) (n u : ℕ) → last_use past n ≤ u → list_any (λ (w : Wait). is_beyond u n w.awaited) (promised past form) ≡ false
own_beyond past (Promising (ForMap buffer mode offset size)) n u le = by_same (buffer.number == n) refl
  where
    by_same : (b : Bool) → (buffer.number == n) ≡ b → ((b && not (nat_le (last_use past buffer.number) u)) || false) ≡ false
    by_same true e = ap (λ b. not b || false) (let same : last_use past buffer.number ≡ last_use past n = ap (last_use past) (eqb-true buffer.number n e) in le-leb (last_use past buffer.number) u (omega (arith, le, same)))
    by_same false e = refl
own_beyond past (Promising ForWork) n u le = refl
own_beyond past (Promising ForError) n u le = refl
own_beyond past Making n u le = refl
own_beyond past Queue n u le = refl
own_beyond past (Completion op) n u le = refl
own_beyond past Plainly n u le = refl

none_beyond : (past : Past) (n : ℕ) → list_any (λ (w : Wait). is_beyond (last_use past n) n w.awaited) (awaiting past) ≡ false
none_beyond [] n = refl
none_beyond (entry ∷ older) n =
    let grows : last_use older n ≤ last_use (entry ∷ older) n = omega arith in
    let before = none_beyond older n in
    any_unsettled (λ (w : Wait). is_beyond (last_use (entry ∷ older) n) n w.awaited) entry.reply.settled (awaiting older ++ promised older (effects_of entry.event).form)
    (any_both (λ (w : Wait). is_beyond (last_use (entry ∷ older) n) n w.awaited) (awaiting older) (promised older (effects_of entry.event).form)
    (none_either (λ (w : Wait). is_beyond (last_use older n) n w.awaited) (λ (w : Wait). is_beyond (last_use older n) n w.awaited) (λ (w : Wait). is_beyond (last_use (entry ∷ older) n) n w.awaited) (λ w e. beyond_falls (last_use older n) (last_use (entry ∷ older) n) n grows w.awaited e) (awaiting older) before before)
    (own_beyond older (effects_of entry.event).form n (last_use (entry ∷ older) n) grows))

-- So where the uses of a buffer are complete no map of it is pending.

one_of_two : (used high n : ℕ) → used ≤ high → (awaited : Awaited) → is_of n awaited ≡ true → (is_late high n awaited || is_beyond used n awaited) ≡ true
one_of_two used high n le (mapping buffer last m) e = by_order (nat_le last used) refl
  where
    or_second : (a b : Bool) → b ≡ true → (a || b) ≡ true
    or_second true b h = refl
    or_second false b h = h

    or_third : (a b : Bool) → a ≡ true → (a || b) ≡ true
    or_third true b h = refl
    or_third false b h = absurd (true≢false (sym h))

    by_order : (b : Bool) → nat_le last used ≡ b → ((buffer == n && nat_le last high) || (buffer == n && not b)) ≡ true
    by_order true is = or_third (buffer == n && nat_le last high) (buffer == n && false) (let lower : last ≤ used = leb-true last used is in ap₂ ◌&&◌ e (le-leb last high (omega (arith, lower, le))))
    by_order false is = or_second (buffer == n && nat_le last high) (buffer == n && true) (ap (λ b. b && true) e)
one_of_two used high n le (work ops) e = absurd (true≢false (sym e))

pub pending_over : (setup : Setup) (past : Past) (n : ℕ) → IsRun setup past → last_use past n ≤ completed past → is_pending past n ≡ false
pending_over setup past n run le =
    none_either (λ (w : Wait). is_late (completed past) n w.awaited) (λ (w : Wait). is_beyond (last_use past n) n w.awaited) (is_map_of n) (λ w e. one_of_two (last_use past n) (completed past) n le w.awaited e) (awaiting past) (none_late setup past n run) (none_beyond past n)
