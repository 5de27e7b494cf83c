-- A destroyed buffer is neither mapped nor pending, and no later map of it is kept. The host accesses no buffer any more that is gone
-- and whose uses are complete.
use Rattle.std.proofs.Common.{◌≡◌, ℕ, ◌<◌, List, [], ◌∷◌, ◌++◌, length, filter, Bool, true, false, not, ◌&&◌, ◌||◌, ◌==◌, Option, Some, None, is_none, option_and_then, refl, ap, ap₂, sym, ◌∙◌, arith, append-nil, if◌then◌else◌, true≢false, subst, inl, inr}
use Rattle.std.specs.List.{list_any, flat_map}
use Rattle.std.proofs.lemmas.Bool.{and_parts, eq-eqb, eqb-true, or_cases, or_left, or_right}
use Rattle.std.specs.Option.{option_or}
use Rattle.wg_rules.specs.declared.TheConstants.{OBJECT_IS_OF_DEVICE, OBJECT_IS_NOT_DROPPED}
use Rattle.wg_types.specs.declared.handles.ObjRef.{ObjRef}
use Rattle.wg_types.specs.declared.mappings.Mapping.{Mapping}
use Rattle.wg_types.specs.declared.mappings.MapMode.{MapMode}
use Rattle.wg_types.specs.declared.mappings.MapMode.TheVariants.{Read as ReadMode, Write as WriteMode}
use Rattle.wg_trace.specs.declared.replies.Reply.{Reply}
use Rattle.wg_trace.specs.declared.replies.How.{How}
use Rattle.wg_trace.specs.declared.replies.How.TheVariants.{Aborted, Rejected}
use Rattle.wg_trace.specs.declared.replies.Settlement.{Settlement}
use Rattle.wg_trace.specs.declared.steps.StepPlace.TheVariants.{Host}
use Rattle.wg_orders.specs.Steps.{Step, StepPlace}
use Rattle.wg_orders.specs.Trace.{steps_in}
use Rattle.wg_orders.specs.Laws.{Unused}
use Rattle.wg_orders.proofs.Unused.{unused_none, unused_one, unused_append}
use Rattle.wg_model.specs.Touches.{touching}
use Rattle.wg_model.specs.Recorded.{host_name, host_touches, host_step}
use Rattle.wg_model.proofs.Unmet.{all_met}
use Rattle.wg_model.proofs.Sparing.{or_first, host_spares}
use Rattle.wg_history.specs.Entries.{Setup, Event, MapAsync, Destroy, Unmap, Form, Making, Queue, Promising, Completion, Plainly, ForWork, ForError, ForMap, effects_of, Entry, Past}
use Rattle.wg_history.specs.Objects.{is_making, count, is_own, is_buffer}
use Rattle.wg_history.specs.Operations.{last_use}
use Rattle.wg_history.specs.Loss.{is_lost, Awaited, mapping, work, Wait, asked_mapping, promised, settles, unsettled, awaiting, is_of, is_map_of, is_pending}
use Rattle.wg_history.specs.Rules.{destroy_rule, destroys, is_destroyed, unmap_rule, unmaps, settles_mapped, mapped_in, mapped_now, mapped_made, waits_of, mapped_at, is_busy, is_dropped, map_async_list, map_async_rule}
use Rattle.wg_history.specs.Held.{is_held}
use Rattle.wg_history.specs.Releases.{is_gone}
use Rattle.wg_history.specs.Answers.{at_once, settle_all, ended_how, own_settled, reply_to, IsRun}
use Rattle.wg_history.specs.Steps.{group_of, written_back, read_back, unmap_groups, read_groups, host_groups}
use Rattle.wg_history.proofs.Runs.{newest, others}
use Rattle.wg_history.proofs.Tests.{not_true}
use Rattle.wg_history.proofs.Makers.{own_below}
use Rattle.wg_history.proofs.Holders.{undropped_held}
use Rattle.wg_history.proofs.AfterUse.{IsOver, stands}
use Rattle.wg_history.proofs.Waits.{any_unsettled, any_both, pending_over}
use Rattle.wg_history.proofs.Unborn.{destroyed_new, destroys_below}
use Rattle.wg_history.proofs.Awaiting.{awaiting_ascends, unsettled_own}
use Rattle.wg_history.proofs.Declared.{steps_in_append}

-- A map that meets its rules is of a buffer that is not gone.
map_stands : (setup : Setup) (past : Past) (buffer : ObjRef) (mode offset size : ℕ) → is_none (map_async_rule setup past buffer mode offset size) ≡ true → is_gone setup past buffer.number ≡ false
unfolding map_async_rule
map_stands setup past buffer mode offset size e =
    let met = all_met (map_async_list setup past buffer mode offset size) e in
    stands setup past buffer.number (or_first (is_destroyed setup past buffer.number) _ (not_true (is_busy setup past buffer.number) met.1.1.1.1.1.1.1.1.0))
    (undropped_held setup past buffer.number (own_below setup past _ buffer met.0) (not_true (is_dropped setup past buffer.number) met.1.0))

map_refused : (setup : Setup) (past : Past) (buffer : ObjRef) (mode offset size n : ℕ) → is_gone setup past n ≡ true → buffer.number ≡ n → is_none (map_async_rule setup past buffer mode offset size) ≡ false
map_refused setup past buffer mode offset size n gone same = by_rule (is_none (map_async_rule setup past buffer mode offset size)) refl
  where
    by_rule : (b : Bool) → is_none (map_async_rule setup past buffer mode offset size) ≡ b → b ≡ false
    by_rule true e = absurd (true≢false (sym gone ∙ (ap (is_gone setup past) (sym same) ∙ map_stands setup past buffer mode offset size e)))
    by_rule false e = refl

destroyed_gone : (setup : Setup) (past : Past) (n : ℕ) → is_destroyed setup past n ≡ true → is_gone setup past n ≡ true
destroyed_gone setup past n h = or_left (is_destroyed setup past n) (not (is_held setup past n)) h

-- settling all that pass a test leaves none that does, whatever else is settled
none_left : (p : Wait → Bool) (settled : List Settlement) (ws : List Wait) → ((w : Wait) → p w ≡ true → list_any (λ (x : Wait). x.promise == w.promise && p x) ws ≡ true → settles settled w.promise ≡ true) → list_any p (unsettled settled ws) ≡ false
none_left p settled ws all = each ws (λ w e in_ws. all w e in_ws)
  where
    each : (xs : List Wait) → ((w : Wait) → p w ≡ true → list_any (λ (x : Wait). x.promise == w.promise && p x) xs ≡ true → settles settled w.promise ≡ true) → list_any p (unsettled settled xs) ≡ false
    each [] all = refl
    each (x ∷ xs) all = by_test (p x) refl (each xs (λ w e later. all w e (or_right (x.promise == w.promise && p x) _ later)))
      where
        by_settled : (b : Bool) → settles settled x.promise ≡ b → b ≡ true → list_any p (unsettled settled xs) ≡ false → list_any p (if not b then x ∷ unsettled settled xs else unsettled settled xs) ≡ false
        by_settled true e is rest = rest
        by_settled false e is rest = absurd (true≢false (sym is))

        kept : (b : Bool) → p x ≡ false → list_any p (unsettled settled xs) ≡ false → list_any p (if b then x ∷ unsettled settled xs else unsettled settled xs) ≡ false
        kept true e rest = ap₂ ◌||◌ e rest
        kept false e rest = rest

        by_test : (b : Bool) → p x ≡ b → list_any p (unsettled settled xs) ≡ false → list_any p (if not (settles settled x.promise) then x ∷ unsettled settled xs else unsettled settled xs) ≡ false
        by_test true e rest = by_settled (settles settled x.promise) refl (all x e (or_left (x.promise == x.promise && p x) _ (ap₂ ◌&&◌ (eq-eqb x.promise x.promise refl) e))) rest
        by_test false e rest = kept (not (settles settled x.promise)) e rest

-- what passes a test is among those that are settled by it
settled_any : (p : Wait → Bool) (how : Awaited → How) (ws : List Wait) (promise : ℕ) → list_any (λ (x : Wait). x.promise == promise && p x) ws ≡ true → settles (settle_all how (filter p ws)) promise ≡ true
settled_any p how [] promise e = absurd (true≢false (sym e))
settled_any p how (x ∷ xs) promise e = by_test (p x) refl e (settled_any p how xs promise)
  where
    and_false : (b : Bool) → (b && false) ≡ false
    and_false true = refl
    and_false false = refl

    by_test : (b : Bool) → p x ≡ b → ((x.promise == promise && p x) || list_any (λ (y : Wait). y.promise == promise && p y) xs) ≡ true
        → (list_any (λ (y : Wait). y.promise == promise && p y) xs ≡ true → settles (settle_all how (filter p xs)) promise ≡ true)
        → settles (settle_all how (if b then x ∷ filter p xs else filter p xs)) promise ≡ true
    by_test true e h rest = by_same (x.promise == promise) (sym (ap (λ b. (x.promise == promise && b) || list_any (λ (y : Wait). y.promise == promise && p y) xs) e) ∙ h)
      where
        by_same : (a : Bool) → ((a && true) || list_any (λ (y : Wait). y.promise == promise && p y) xs) ≡ true → (a || settles (settle_all how (filter p xs)) promise) ≡ true
        by_same true h = refl
        by_same false h = rest h
    by_test false e h rest = rest (sym (ap (λ b. b || list_any (λ (y : Wait). y.promise == promise && p y) xs) (ap (λ b. x.promise == promise && b) e ∙ and_false (x.promise == promise))) ∙ h)

-- A destroyed buffer is not pending.

pub own_of_other : (n : ℕ) (past : Past) (form : Form) → ((buffer : ObjRef) (mode offset size : ℕ) → form ≡ Promising (ForMap buffer mode offset size) → ⊥) → list_any (is_map_of n) (promised past form) ≡ false
own_of_other n past (Promising ForWork) other = refl
own_of_other n past (Promising (ForMap buffer mode offset size)) other = absurd (other buffer mode offset size refl)
own_of_other n past (Promising ForError) other = refl
own_of_other n past Making other = refl
own_of_other n past Queue other = refl
own_of_other n past (Completion op) other = refl
own_of_other n past Plainly other = refl

-- how a map of a buffer is answered that is gone
abbrev pub refused_how : Bool → How
refused_how true = Aborted
refused_how false = Rejected

map_settled : (setup : Setup) (past : Past) (buffer : ObjRef) (mode offset size n : ℕ) → is_gone setup past n ≡ true → buffer.number ≡ n → (reply_to setup past (MapAsync buffer mode offset size)).settled ≡ at_once (length past) (refused_how (is_lost past))
map_settled setup past buffer mode offset size n gone same =
    ap (λ met. own_settled past (is_lost past) met (ForMap buffer mode offset size)) (map_refused setup past buffer mode offset size n gone same) ∙ by_lost (is_lost past)
  where
    by_lost : (b : Bool) → own_settled past b false (ForMap buffer mode offset size) ≡ at_once (length past) (refused_how b)
    by_lost true = refl
    by_lost false = refl

pend_next : (setup : Setup) (past : Past) (event : Event) (n : ℕ) → (is_destroyed setup past n ≡ true → is_pending past n ≡ false) → (destroys setup past event n || is_destroyed setup past n) ≡ true
    → list_any (is_map_of n) (unsettled (reply_to setup past event).settled (awaiting past ++ promised past (effects_of event).form)) ≡ false
pend_next setup past (Destroy object) n before h = by_destroy (object.number == n && is_none (destroy_rule setup past object)) refl h
  where
    by_destroy : (b : Bool) → (object.number == n && is_none (destroy_rule setup past object)) ≡ b → (b || is_destroyed setup past n) ≡ true → list_any (is_map_of n) (unsettled (reply_to setup past (Destroy object)).settled (awaiting past ++ [])) ≡ false
    by_destroy true e h =
        let both : ((object.number == n) ≡ true) × (is_none (destroy_rule setup past object) ≡ true) = and_parts (object.number == n) (is_none (destroy_rule setup past object)) e in
        ap (λ met. list_any (is_map_of n) (unsettled (if met then settle_all ended_how (filter (is_map_of object.number) (awaiting past)) else []) (awaiting past ++ []))) both.1
        ∙ (ap₂ (λ k (ws : List Wait). list_any (is_map_of n) (unsettled (settle_all ended_how (filter (is_map_of k) (awaiting past))) ws)) (eqb-true object.number n both.0) (append-nil (awaiting past))
        ∙ none_left (is_map_of n) (settle_all ended_how (filter (is_map_of n) (awaiting past))) (awaiting past) (λ w e in_ws. settled_any (is_map_of n) ended_how (awaiting past) w.promise in_ws))
    by_destroy false e h = any_unsettled (is_map_of n) (reply_to setup past (Destroy object)).settled (awaiting past ++ []) (any_both (is_map_of n) (awaiting past) [] (before h) refl)
pend_next setup past (MapAsync buffer mode offset size) n before h = by_same (buffer.number == n) refl
  where
    by_same : (b : Bool) → (buffer.number == n) ≡ b → list_any (is_map_of n) (unsettled (reply_to setup past (MapAsync buffer mode offset size)).settled (awaiting past ++ promised past (Promising (ForMap buffer mode offset size)))) ≡ false
    by_same true e =
        ap (λ (settled : List Settlement). list_any (is_map_of n) (unsettled settled (awaiting past ++ promised past (Promising (ForMap buffer mode offset size))))) (map_settled setup past buffer mode offset size n (destroyed_gone setup past n h) (eqb-true buffer.number n e))
        ∙ (ap (list_any (is_map_of n)) (unsettled_own (refused_how (is_lost past)) (mapping buffer.number (last_use past buffer.number) (asked_mapping mode offset size)) (length past) (awaiting past) (awaiting_ascends past)) ∙ before h)
    by_same false e = any_unsettled (is_map_of n) (reply_to setup past (MapAsync buffer mode offset size)).settled (awaiting past ++ promised past (Promising (ForMap buffer mode offset size))) (any_both (is_map_of n) (awaiting past) (promised past (Promising (ForMap buffer mode offset size))) (before h) (ap (λ b. b || false) e))
pend_next setup past event n before h = any_unsettled (is_map_of n) (reply_to setup past event).settled (awaiting past ++ promised past (effects_of event).form) (any_both (is_map_of n) (awaiting past) (promised past (effects_of event).form) (before h) (own_of_other n past (effects_of event).form (λ buffer mode offset size e. absurd (cc))))

pub never_pending : (setup : Setup) (past : Past) (n : ℕ) → IsRun setup past → is_destroyed setup past n ≡ true → is_pending past n ≡ false
never_pending setup [] n run h = refl
never_pending setup (entry ∷ older) n run h =
    ap (λ (reply : Reply). list_any (is_map_of n) (unsettled reply.settled (awaiting older ++ promised older (effects_of entry.event).form))) (newest setup entry older run)
    ∙ pend_next setup older entry.event n (never_pending setup older n (others setup entry older run)) h

-- No map of it is kept.

abbrev pub keeps_of : ℕ → List Settlement → Wait → Bool
keeps_of n settled wait = is_map_of n wait && settles_mapped settled wait.promise

pub keeps_none : (n : ℕ) (settled : List Settlement) (ws : List Wait) → list_any (is_map_of n) ws ≡ false → list_any (keeps_of n settled) ws ≡ false
keeps_none n settled [] e = refl
keeps_none n settled (w ∷ ws) e = by_parts (is_map_of n w) refl e (keeps_none n settled ws)
  where
    by_parts : (b : Bool) → is_map_of n w ≡ b → (b || list_any (is_map_of n) ws) ≡ false → (list_any (is_map_of n) ws ≡ false → list_any (keeps_of n settled) ws ≡ false) → ((is_map_of n w && settles_mapped settled w.promise) || list_any (keeps_of n settled) ws) ≡ false
    by_parts true e h rest = absurd (true≢false h)
    by_parts false e h rest = ap (λ b. (b && settles_mapped settled w.promise) || list_any (keeps_of n settled) ws) e ∙ rest h

pub own_refused : (past : Past) (lost : Bool) → settles_mapped (at_once (length past) (refused_how lost)) (length past) ≡ false
own_refused past true = by_test (length past == length past)
  where
    by_test : (b : Bool) → ((b && false) || false) ≡ false
    by_test true = refl
    by_test false = refl
own_refused past false = by_test (length past == length past)
  where
    by_test : (b : Bool) → ((b && false) || false) ≡ false
    by_test true = refl
    by_test false = refl

own_keeps : (setup : Setup) (past : Past) (event : Event) (n : ℕ) → is_gone setup past n ≡ true → list_any (keeps_of n (reply_to setup past event).settled) (promised past (effects_of event).form) ≡ false
own_keeps setup past (MapAsync buffer mode offset size) n h = by_same (buffer.number == n) refl
  where
    by_same : (b : Bool) → (buffer.number == n) ≡ b → (((buffer.number == n) && settles_mapped (reply_to setup past (MapAsync buffer mode offset size)).settled (length past)) || false) ≡ false
    by_same true e = ap₂ (λ a b. (a && b) || false) e (ap (λ (settled : List Settlement). settles_mapped settled (length past)) (map_settled setup past buffer mode offset size n h (eqb-true buffer.number n e)) ∙ own_refused past (is_lost past))
    by_same false e = ap (λ b. (b && settles_mapped (reply_to setup past (MapAsync buffer mode offset size)).settled (length past)) || false) e
own_keeps setup past event n h = keeps_none n (reply_to setup past event).settled (promised past (effects_of event).form) (own_of_other n past (effects_of event).form (λ buffer mode offset size e. absurd (cc)))

pub never_kept : (setup : Setup) (entry : Entry) (older : Past) (n : ℕ) → IsRun setup (entry ∷ older) → is_destroyed setup older n ≡ true → list_any (keeps_of n entry.reply.settled) (waits_of entry older) ≡ false
never_kept setup entry older n run h =
    any_both (keeps_of n entry.reply.settled) (awaiting older) (promised older (effects_of entry.event).form)
    (keeps_none n entry.reply.settled (awaiting older) (never_pending setup older n (others setup entry older run) h))
    (ap (λ (reply : Reply). list_any (keeps_of n reply.settled) (promised older (effects_of entry.event).form)) (newest setup entry older run) ∙ own_keeps setup older entry.event n (destroyed_gone setup older n h))

-- It is not mapped.

mapped_if : (n : ℕ) (settled : List Settlement) (promise : ℕ) (awaited : Awaited) → (is_of n awaited && settles_mapped settled promise) ≡ false → mapped_in settled n promise awaited ≡ None
mapped_if n settled promise (mapping buffer last m) e = ap (λ (b : Bool). if b then Some m else None) e
mapped_if n settled promise (work ops) e = refl

pub mapped_none : (n : ℕ) (settled : List Settlement) (ws : List Wait) → list_any (keeps_of n settled) ws ≡ false → mapped_now settled ws n ≡ None
mapped_none n settled [] e = refl
mapped_none n settled (w ∷ ws) e = by_parts (keeps_of n settled w) refl e (mapped_none n settled ws)
  where
    by_parts : (b : Bool) → keeps_of n settled w ≡ b → (b || list_any (keeps_of n settled) ws) ≡ false → (list_any (keeps_of n settled) ws ≡ false → mapped_now settled ws n ≡ None) → option_or (mapped_now settled ws n) (mapped_in settled n w.promise w.awaited) ≡ None
    by_parts true e h rest = absurd (true≢false h)
    by_parts false e h rest = ap₂ option_or (rest h) (mapped_if n settled w.promise w.awaited e)

older_destroyed : (setup : Setup) (past : Past) (event : Event) (n : ℕ) → unmaps setup past event n ≡ false → (destroys setup past event n || is_destroyed setup past n) ≡ true → is_destroyed setup past n ≡ true
older_destroyed setup past (Unmap buffer) n e h = h
older_destroyed setup past event n e h = sym (ap (λ b. b || is_destroyed setup past n) e) ∙ h

pub never_mapped : (setup : Setup) (past : Past) (n : ℕ) → IsRun setup past → is_destroyed setup past n ≡ true → mapped_at setup past n ≡ None
never_mapped setup [] n run h = refl
never_mapped setup (entry ∷ older) n run h = by_making (is_making entry.event && count older == n) refl (λ before. never_mapped setup older n (others setup entry older run) before)
  where
    by_unmaps : (b : Bool) → unmaps setup older entry.event n ≡ b → (is_destroyed setup older n ≡ true → mapped_at setup older n ≡ None) → (if b then None else option_or (mapped_now entry.reply.settled (waits_of entry older) n) (mapped_at setup older n)) ≡ None
    by_unmaps true e rest = refl
    by_unmaps false e rest =
        let before : is_destroyed setup older n ≡ true = older_destroyed setup older entry.event n e h in
        ap₂ option_or (mapped_none n entry.reply.settled (waits_of entry older) (never_kept setup entry older n run before)) (rest before)

    or_false : (b : Bool) → (b || false) ≡ true → b ≡ true
    or_false true h = refl
    or_false false h = h

    by_making : (b : Bool) → (is_making entry.event && count older == n) ≡ b → (is_destroyed setup older n ≡ true → mapped_at setup older n ≡ None)
        → (if b then mapped_made entry else if unmaps setup older entry.event n then None else option_or (mapped_now entry.reply.settled (waits_of entry older) n) (mapped_at setup older n)) ≡ None
    by_making true e rest = absurd (
        let same : count older ≡ n = eqb-true (count older) n (and_parts (is_making entry.event) (count older == n) e).1 in
        let new : is_destroyed setup older n ≡ false = destroyed_new setup older n (omega (arith, same)) in
        let lt : n < count older = destroys_below setup older entry.event n (or_false (destroys setup older entry.event n) (sym (ap (λ b. destroys setup older entry.event n || b) new) ∙ h)) in
        omega (arith, lt, same))
    by_making false e rest = by_unmaps (unmaps setup older entry.event n) refl rest

-- The host steps of an entry before which it is gone already, and its uses are complete.

host_spare : (place : StepPlace) (buffer n : ℕ) (m : Mapping) → (buffer == n) ≡ false → Unused n (steps_in (group_of (host_step place buffer m)))
host_spare place buffer n m other = by_size (m.lo == m.hi)
  where
    by_size : (b : Bool) → Unused n (steps_in (group_of (if b then None else Some (touching place (host_name m.mode) (host_touches buffer m)))))
    by_size true = unused_none n
    by_size false = unused_one n (touching place (host_name m.mode) (host_touches buffer m)) (host_spares place buffer m n other)

written_spare : (mode : MapMode) (place : StepPlace) (buffer n : ℕ) (m : Mapping) → (buffer == n) ≡ false → Unused n (steps_in (group_of (written_back mode place buffer m)))
written_spare WriteMode place buffer n m other = host_spare place buffer n m other
written_spare ReadMode place buffer n m other = unused_none n

read_spare : (mode : MapMode) (place : StepPlace) (buffer n : ℕ) (m : Mapping) → (buffer == n) ≡ false → Unused n (steps_in (group_of (read_back mode place buffer m)))
read_spare ReadMode place buffer n m other = host_spare place buffer n m other
read_spare WriteMode place buffer n m other = unused_none n

-- an unmap of a buffer that is dropped is refused
dropped_refused : (setup : Setup) (past : Past) (buffer : ObjRef) → is_none (unmap_rule setup past buffer) ≡ true → is_held setup past buffer.number ≡ true
unfolding unmap_rule
dropped_refused setup past buffer e =
    let met = all_met ((OBJECT_IS_OF_DEVICE, is_own setup past is_buffer buffer) ∷ ((OBJECT_IS_NOT_DROPPED, not (is_dropped setup past buffer.number)) ∷ [])) e in
    undropped_held setup past buffer.number (own_below setup past _ buffer met.0) (not_true (is_dropped setup past buffer.number) met.1.0)

unmap_spare : (setup : Setup) (past : Past) (o : Option ObjRef) (n : ℕ) → IsRun setup past → is_gone setup past n ≡ true → Unused n (steps_in (unmap_groups setup past o))
unmap_spare setup past None n run gone = unused_none n
unmap_spare setup past (Some buffer) n run gone = by_rule (is_none (unmap_rule setup past buffer)) refl
  where
    unmapped : is_none (unmap_rule setup past buffer) ≡ true → buffer.number ≡ n → mapped_at setup past n ≡ None
    unmapped met same = elim (or_cases (is_destroyed setup past n) (not (is_held setup past n)) gone) [
      | inl destroyed ↦ never_mapped setup past n run destroyed
      | inr unheld ↦ absurd (true≢false (sym (dropped_refused setup past buffer met) ∙ (ap (is_held setup past) same ∙ not_true (is_held setup past n) unheld)))
    ]

    by_same : (b : Bool) → (buffer.number == n) ≡ b → (b ≡ true → mapped_at setup past n ≡ None) → (o : Option Mapping) → mapped_at setup past buffer.number ≡ o → Unused n (steps_in (group_of (option_and_then (λ m. written_back m.mode (Host (length past)) buffer.number m) o)))
    by_same b e none None is = unused_none n
    by_same false e none (Some m) is = written_spare m.mode (Host (length past)) buffer.number n m e
    by_same true e none (Some m) is = absurd (let missing : mapped_at setup past buffer.number ≡ None = ap (mapped_at setup past) (eqb-true buffer.number n e) ∙ none refl in let both : Some m ≡ None = sym is ∙ missing in cc (both))

    by_rule : (b : Bool) → is_none (unmap_rule setup past buffer) ≡ b → Unused n (steps_in (if b then group_of (option_and_then (λ m. written_back m.mode (Host (length past)) buffer.number m) (mapped_at setup past buffer.number)) else []))
    by_rule true met = by_same (buffer.number == n) refl (λ e. unmapped met (eqb-true buffer.number n e)) (mapped_at setup past buffer.number) refl
    by_rule false met = unused_none n

one_spare : (at : ℕ) (settled : List Settlement) (promise : ℕ) (awaited : Awaited) (n : ℕ) → (is_of n awaited && settles_mapped settled promise) ≡ false → Unused n (steps_in (read_groups at settled promise awaited))
one_spare at settled promise (work ops) n e = unused_none n
one_spare at settled promise (mapping buffer last m) n e = by_test (settles_mapped settled promise) refl e
  where
    and_true : (b : Bool) → (b && true) ≡ false → b ≡ false
    and_true true h = h
    and_true false h = refl

    by_test : (b : Bool) → settles_mapped settled promise ≡ b → ((buffer == n) && b) ≡ false → Unused n (steps_in (if b then group_of (read_back m.mode (Host at) buffer m) else []))
    by_test true e h = read_spare m.mode (Host at) buffer n m (and_true (buffer == n) h)
    by_test false e h = unused_none n

reads_spare : (at : ℕ) (settled : List Settlement) (ws : List Wait) (n : ℕ) → list_any (keeps_of n settled) ws ≡ false → Unused n (steps_in (flat_map (λ (wait : Wait). read_groups at settled wait.promise wait.awaited) ws))
reads_spare at settled [] n e = unused_none n
reads_spare at settled (w ∷ ws) n e = by_parts (keeps_of n settled w) refl e (reads_spare at settled ws n)
  where
    by_parts : (b : Bool) → keeps_of n settled w ≡ b → (b || list_any (keeps_of n settled) ws) ≡ false → (list_any (keeps_of n settled) ws ≡ false → Unused n (steps_in (flat_map (λ (wait : Wait). read_groups at settled wait.promise wait.awaited) ws)))
        → Unused n (steps_in (read_groups at settled w.promise w.awaited ++ flat_map (λ (wait : Wait). read_groups at settled wait.promise wait.awaited) ws))
    by_parts true e h rest = absurd (true≢false h)
    by_parts false e h rest = both_unused (read_groups at settled w.promise w.awaited) (flat_map (λ (wait : Wait). read_groups at settled wait.promise wait.awaited) ws) (one_spare at settled w.promise w.awaited n e) (rest h)
      where
        both_unused : (a b : List (List Step)) → Unused n (steps_in a) → Unused n (steps_in b) → Unused n (steps_in (a ++ b))
        both_unused a b first second = subst (Unused n) (sym (steps_in_append a b)) (unused_append n (steps_in a) (steps_in b) first second)

-- no map of it is kept
over_kept : (setup : Setup) (entry : Entry) (older : Past) (n : ℕ) → IsRun setup (entry ∷ older) → IsOver setup older n → list_any (keeps_of n entry.reply.settled) (waits_of entry older) ≡ false
over_kept setup entry older n run over =
    any_both (keeps_of n entry.reply.settled) (awaiting older) (promised older (effects_of entry.event).form)
    (keeps_none n entry.reply.settled (awaiting older) (pending_over setup older n (others setup entry older run) over.complete))
    (ap (λ (reply : Reply). list_any (keeps_of n reply.settled) (promised older (effects_of entry.event).form)) (newest setup entry older run) ∙ own_keeps setup older entry.event n over.gone)

pub host_unused : (setup : Setup) (entry : Entry) (older : Past) (n : ℕ) → IsRun setup (entry ∷ older) → IsOver setup older n → Unused n (steps_in (host_groups setup older entry))
host_unused setup entry older n run over =
    let a : List (List Step) = unmap_groups setup older (effects_of entry.event).unmapped in
    let b : List (List Step) = flat_map (λ (wait : Wait). read_groups (length older) entry.reply.settled wait.promise wait.awaited) (waits_of entry older) in
    subst (Unused n) (sym (steps_in_append a b)) (unused_append n (steps_in a) (steps_in b)
    (unmap_spare setup older (effects_of entry.event).unmapped n (others setup entry older run) over.gone)
    (reads_spare (length older) entry.reply.settled (waits_of entry older) n (over_kept setup entry older n run over)))
