-- What settlements make of mappings, and that nothing is mapped that is not made.
use Rattle.std.proofs.Common.{◌≡◌, ℕ, suc, ◌+◌, ◌<◌, ◌≤◌, List, [], ◌∷◌, ◌++◌, length, filter, Bool, true, false, ◌&&◌, ◌||◌, ◌==◌, nat_le, Option, Some, None, is_none, refl, ap, ap₂, sym, ◌∙◌, arith, if◌then◌else◌, true≢false}
use Rattle.std.specs.List.{list_any}
use Rattle.std.proofs.lemmas.Bool.{eq-eqb, ne_eqb, eqb-true}
use Rattle.std.specs.Option.{option_or}
use Rattle.wg_types.specs.declared.handles.ObjRef.{ObjRef}
use Rattle.wg_types.specs.declared.mappings.Mapping.{Mapping}
use Rattle.wg_trace.specs.declared.replies.Reply.{Reply}
use Rattle.wg_trace.specs.declared.replies.How.{How}
use Rattle.wg_trace.specs.declared.replies.How.TheVariants.{Done}
use Rattle.wg_trace.specs.declared.replies.Settlement.{Settlement}
use Rattle.wg_trace.specs.declared.replies.Scope.{Scope}
use Rattle.wg_trace.specs.declared.replies.First.{First}
use Rattle.wg_model.specs.ErrorScopes.{first_how, top_how, pop_how}
use Rattle.wg_model.proofs.Unmet.{all_met}
use Rattle.wg_history.specs.Entries.{Setup, Event, MapAsync, Promising, ForMap, effects_of, Past}
use Rattle.wg_history.specs.Objects.{is_making, count}
use Rattle.wg_history.specs.Operations.{last_use}
use Rattle.wg_history.specs.Loss.{is_lost, Ascends, Awaited, mapping, work, Wait, asked_mapping, promised, settles, unsettled, awaiting, is_map_of, is_pending}
use Rattle.wg_history.specs.Rules.{unmaps, is_mapped_how, settles_mapped, mapped_in, mapped_now, mapped_made, waits_of, mapped_at, map_async_list, map_async_rule}
use Rattle.wg_history.specs.Answers.{at_once, settle_all, kept_how, ended_how, is_over, is_kept, own_settled, reply_to, IsRun}
use Rattle.wg_history.proofs.Runs.{newest, others}
use Rattle.wg_history.proofs.Makers.{own_below, older_le}
use Rattle.wg_history.proofs.Awaiting.{ascends_le, awaiting_ascends, unsettled_own, settled_below}
use Rattle.wg_history.proofs.Waits.{any_unsettled, any_both}
use Rattle.wg_history.proofs.Destroyed.{own_of_other, refused_how, keeps_of, keeps_none, own_refused, mapped_none}

-- Settlements that map nothing.

pub keeps_free : (n : ℕ) (settled : List Settlement) → ((p : ℕ) → settles_mapped settled p ≡ false) → (ws : List Wait) → list_any (keeps_of n settled) ws ≡ false
keeps_free n settled free [] = refl
keeps_free n settled free (w ∷ ws) = ap₂ ◌||◌ (ap (λ b. is_map_of n w && b) (free w.promise) ∙ and_false (is_map_of n w)) (keeps_free n settled free ws)
  where
    and_false : (b : Bool) → (b && false) ≡ false
    and_false true = refl
    and_false false = refl

pub one_free : (promise : ℕ) (how : How) → is_mapped_how how ≡ false → (p : ℕ) → settles_mapped (at_once promise how) p ≡ false
one_free promise how e p = ap (λ b. (promise == p && b) || false) e ∙ by_test (promise == p)
  where
    by_test : (b : Bool) → ((b && false) || false) ≡ false
    by_test true = refl
    by_test false = refl

pub ended_free : (ws : List Wait) (p : ℕ) → settles_mapped (settle_all ended_how ws) p ≡ false
ended_free [] p = refl
ended_free (w ∷ ws) p = ap₂ ◌||◌ (ap (λ b. w.promise == p && b) (not_mapped w.awaited) ∙ and_false (w.promise == p)) (ended_free ws p)
  where
    not_mapped : (awaited : Awaited) → is_mapped_how (ended_how awaited) ≡ false
    not_mapped (mapping buffer last m) = refl
    not_mapped (work ops) = refl

    and_false : (b : Bool) → (b && false) ≡ false
    and_false true = refl
    and_false false = refl

pub free_if : (b : Bool) (ws : List Wait) (p : ℕ) → settles_mapped (if b then settle_all ended_how ws else []) p ≡ false
free_if true ws p = ended_free ws p
free_if false ws p = refl

pub free_unless : (b : Bool) (ws : List Wait) (p : ℕ) → settles_mapped (if b then [] else settle_all ended_how ws) p ≡ false
free_unless true ws p = refl
free_unless false ws p = ended_free ws p

pub free_work : (b : Bool) (promise p : ℕ) → settles_mapped (if b then at_once promise Done else []) p ≡ false
free_work true promise p = one_free promise Done refl p
free_work false promise p = refl

pub pop_free : (lost : Bool) (scopes : List Scope) → is_mapped_how (pop_how lost scopes) ≡ false
pop_free true scopes = refl
pop_free false scopes = by_top _
  where
    by_first : (o : Option First) → is_mapped_how (first_how o) ≡ false
    by_first None = refl
    by_first (Some first) = refl

    by_top : (o : Option Scope) → is_mapped_how (top_how o) ≡ false
    by_top None = refl
    by_top (Some scope) = by_first scope.first

-- A settlement maps a promise that it settles.
pub mapped_settles : (settled : List Settlement) (p : ℕ) → settles settled p ≡ false → settles_mapped settled p ≡ false
mapped_settles [] p e = refl
mapped_settles (s ∷ settled) p e = by_test (s.promise == p) refl e (mapped_settles settled p)
  where
    by_test : (b : Bool) → (s.promise == p) ≡ b → (b || settles settled p) ≡ false → (settles settled p ≡ false → settles_mapped settled p ≡ false) → ((s.promise == p && is_mapped_how s.how) || settles_mapped settled p) ≡ false
    by_test true e h rest = absurd (true≢false h)
    by_test false e h rest = ap (λ b. (b && is_mapped_how s.how) || settles_mapped settled p) e ∙ rest h

pub keeps_later : (n : ℕ) (how : How) (lo hi : ℕ) (ws : List Wait) → Ascends lo hi ws → list_any (keeps_of n (at_once hi how)) ws ≡ false
keeps_later n how lo hi [] a = refl
keeps_later n how lo hi (w ∷ ws) a =
    ap₂ (λ b rest. (is_map_of n w && ((b && is_mapped_how how) || false)) || rest) (ne_eqb hi w.promise (λ same. let h = ascends_le (suc w.promise) hi ws a.1 in absurd (omega (arith, h, same)))) (keeps_later n how (suc w.promise) hi ws a.1) ∙ by_test (is_map_of n w)
  where
    by_test : (b : Bool) → ((b && false) || false) ≡ false
    by_test true = refl
    by_test false = refl

pub mapped_append : (settled : List Settlement) (n : ℕ) (xs ys : List Wait) → mapped_now settled (xs ++ ys) n ≡ option_or (mapped_now settled ys n) (mapped_now settled xs n)
mapped_append settled n [] ys = sym (or_none (mapped_now settled ys n))
  where
    or_none : (o : Option Mapping) → option_or o None ≡ o
    or_none None = refl
    or_none (Some m) = refl
mapped_append settled n (x ∷ xs) ys = ap (λ o. option_or o (mapped_in settled n x.promise x.awaited)) (mapped_append settled n xs ys) ∙ or_assoc (mapped_now settled ys n) (mapped_now settled xs n) (mapped_in settled n x.promise x.awaited)
  where
    or_assoc : (a b c : Option Mapping) → option_or (option_or a b) c ≡ option_or a (option_or b c)
    or_assoc None b c = refl
    or_assoc (Some m) b c = refl

-- the mapping of buffer n that promises of a list make which are over: that of the last
abbrev pub due_in : ℕ → ℕ → Awaited → Option Mapping
due_in op n (mapping buffer last m) = if buffer == n && nat_le last op then Some m else None
due_in op n (work ops) = None

abbrev pub due_now : ℕ → List Wait → ℕ → Option Mapping
due_now op [] n = None
due_now op (w ∷ ws) n = option_or (due_now op ws n) (due_in op n w.awaited)

mapped_skip : (s : Settlement) (settled : List Settlement) (n lo hi : ℕ) (ws : List Wait) → s.promise < lo → Ascends lo hi ws → mapped_now (s ∷ settled) ws n ≡ mapped_now settled ws n
mapped_skip s settled n lo hi [] lt a = refl
mapped_skip s settled n lo hi (w ∷ ws) lt a = ap₂ option_or (mapped_skip s settled n (suc w.promise) hi ws (let g = a.0 in omega (arith, lt, g)) a.1) (one w.awaited)
  where
    other : (s.promise == w.promise) ≡ false
    other = ne_eqb s.promise w.promise (λ same. let g = a.0 in absurd (omega (arith, lt, g, same)))

    one : (awaited : Awaited) → mapped_in (s ∷ settled) n w.promise awaited ≡ mapped_in settled n w.promise awaited
    one (mapping buffer last m) = ap (λ b. if buffer == n && ((b && is_mapped_how s.how) || settles_mapped settled w.promise) then Some m else None) other
    one (work ops) = refl

pub mapped_due : (op n lo hi : ℕ) (ws : List Wait) → Ascends lo hi ws → mapped_now (settle_all kept_how (filter (is_kept op) ws)) ws n ≡ due_now op ws n
mapped_due op n lo hi [] a = refl
mapped_due op n lo hi (w ∷ ws) a = by_kept (is_kept op w) refl (mapped_due op n (suc w.promise) hi ws a.1)
  where
    rest : List Settlement
    rest = settle_all kept_how (filter (is_kept op) ws)

    kept_one : (awaited : Awaited) → is_over op awaited ≡ true → mapped_in (record { promise = w.promise; how = kept_how awaited } ∷ rest) n w.promise awaited ≡ due_in op n awaited
    kept_one (mapping buffer last m) e = ap₂ (λ (b c : Bool). if buffer == n && ((b && true) || settles_mapped rest w.promise) then Some m else None) (eq-eqb w.promise w.promise refl) e ∙ ap (λ (b : Bool). if buffer == n && b then Some m else None) (sym e)
    kept_one (work ops) e = refl

    left_one : (awaited : Awaited) → is_over op awaited ≡ false → mapped_in rest n w.promise awaited ≡ due_in op n awaited
    left_one (mapping buffer last m) e = ap (λ (b : Bool). if buffer == n && b then Some m else None) (mapped_settles rest w.promise (settled_below kept_how (is_kept op) w.promise (suc w.promise) hi ws (omega arith) a.1) ∙ sym e)
    left_one (work ops) e = refl

    by_kept : (b : Bool) → is_kept op w ≡ b → mapped_now rest ws n ≡ due_now op ws n
        → option_or (mapped_now (settle_all kept_how (if b then w ∷ filter (is_kept op) ws else filter (is_kept op) ws)) ws n) (mapped_in (settle_all kept_how (if b then w ∷ filter (is_kept op) ws else filter (is_kept op) ws)) n w.promise w.awaited) ≡ option_or (due_now op ws n) (due_in op n w.awaited)
    by_kept true e same = ap₂ option_or (mapped_skip (record { promise = w.promise; how = kept_how w.awaited }) rest n (suc w.promise) hi ws (omega arith) a.1 ∙ same) (kept_one w.awaited e)
    by_kept false e same = ap₂ option_or same (left_one w.awaited e)

-- An object that is not yet made is neither pending nor mapped.

map_unborn : (setup : Setup) (past : Past) (buffer : ObjRef) (mode offset size n : ℕ) → count past ≤ n → buffer.number ≡ n → is_none (map_async_rule setup past buffer mode offset size) ≡ false
unfolding map_async_rule
map_unborn setup past buffer mode offset size n le same = by_rule (is_none (map_async_rule setup past buffer mode offset size)) refl
  where
    by_rule : (b : Bool) → is_none (map_async_rule setup past buffer mode offset size) ≡ b → b ≡ false
    by_rule true e = absurd (let lt : buffer.number < count past = own_below setup past _ buffer (all_met (map_async_list setup past buffer mode offset size) e).0 in omega (arith, lt, le, same))
    by_rule false e = refl

-- A map that does not meet its rules is settled by its own entry, which leaves what waits as it was.
refused_settled : (setup : Setup) (past : Past) (buffer : ObjRef) (mode offset size : ℕ) → is_none (map_async_rule setup past buffer mode offset size) ≡ false → (reply_to setup past (MapAsync buffer mode offset size)).settled ≡ at_once (length past) (refused_how (is_lost past))
refused_settled setup past buffer mode offset size unmet = ap (λ met. own_settled past (is_lost past) met (ForMap buffer mode offset size)) unmet ∙ by_lost (is_lost past)
  where
    by_lost : (b : Bool) → own_settled past b false (ForMap buffer mode offset size) ≡ at_once (length past) (refused_how b)
    by_lost true = refl
    by_lost false = refl

pub refused_leaves : (setup : Setup) (past : Past) (buffer : ObjRef) (mode offset size : ℕ) → is_none (map_async_rule setup past buffer mode offset size) ≡ false
    → unsettled (reply_to setup past (MapAsync buffer mode offset size)).settled (awaiting past ++ promised past (Promising (ForMap buffer mode offset size))) ≡ awaiting past
refused_leaves setup past buffer mode offset size unmet =
    ap (λ (settled : List Settlement). unsettled settled (awaiting past ++ promised past (Promising (ForMap buffer mode offset size)))) (refused_settled setup past buffer mode offset size unmet)
    ∙ unsettled_own (refused_how (is_lost past)) (mapping buffer.number (last_use past buffer.number) (asked_mapping mode offset size)) (length past) (awaiting past) (awaiting_ascends past)

-- No map of a buffer begins to wait where none meets its rules.
pub refused_pends : (setup : Setup) (past : Past) (event : Event) (n : ℕ) → is_pending past n ≡ false
    → ((buffer : ObjRef) (mode offset size : ℕ) → buffer.number ≡ n → is_none (map_async_rule setup past buffer mode offset size) ≡ false)
    → list_any (is_map_of n) (unsettled (reply_to setup past event).settled (awaiting past ++ promised past (effects_of event).form)) ≡ false
refused_pends setup past (MapAsync buffer mode offset size) n before refuses = by_same (buffer.number == n) refl
  where
    by_same : (b : Bool) → (buffer.number == n) ≡ b → list_any (is_map_of n) (unsettled (reply_to setup past (MapAsync buffer mode offset size)).settled (awaiting past ++ promised past (Promising (ForMap buffer mode offset size)))) ≡ false
    by_same true e = ap (list_any (is_map_of n)) (refused_leaves setup past buffer mode offset size (refuses buffer mode offset size (eqb-true buffer.number n e))) ∙ before
    by_same false e = any_unsettled (is_map_of n) (reply_to setup past (MapAsync buffer mode offset size)).settled (awaiting past ++ promised past (Promising (ForMap buffer mode offset size))) (any_both (is_map_of n) (awaiting past) (promised past (Promising (ForMap buffer mode offset size))) before (ap (λ b. b || false) e))
refused_pends setup past event n before refuses = any_unsettled (is_map_of n) (reply_to setup past event).settled (awaiting past ++ promised past (effects_of event).form) (any_both (is_map_of n) (awaiting past) (promised past (effects_of event).form) before (own_of_other n past (effects_of event).form (λ buffer mode offset size e. absurd (cc))))

pub unborn_pends : (setup : Setup) (past : Past) (event : Event) (n : ℕ) → is_pending past n ≡ false → count past ≤ n → list_any (is_map_of n) (unsettled (reply_to setup past event).settled (awaiting past ++ promised past (effects_of event).form)) ≡ false
unborn_pends setup past event n before le = refused_pends setup past event n before (λ buffer mode offset size same. map_unborn setup past buffer mode offset size n le same)

pub pending_new : (setup : Setup) (past : Past) (n : ℕ) → IsRun setup past → count past ≤ n → is_pending past n ≡ false
pending_new setup [] n run le = refl
pending_new setup (entry ∷ older) n run le =
    let before : count older ≤ n = older_le (is_making entry.event) (count older) n le in
    ap (λ (reply : Reply). list_any (is_map_of n) (unsettled reply.settled (awaiting older ++ promised older (effects_of entry.event).form))) (newest setup entry older run)
    ∙ unborn_pends setup older entry.event n (pending_new setup older n (others setup entry older run) before) before

unborn_keeps : (setup : Setup) (past : Past) (event : Event) (n : ℕ) → count past ≤ n → list_any (keeps_of n (reply_to setup past event).settled) (promised past (effects_of event).form) ≡ false
unborn_keeps setup past (MapAsync buffer mode offset size) n le = by_same (buffer.number == n) refl
  where
    by_same : (b : Bool) → (buffer.number == n) ≡ b → (((buffer.number == n) && settles_mapped (reply_to setup past (MapAsync buffer mode offset size)).settled (length past)) || false) ≡ false
    by_same true e = ap₂ (λ a b. (a && b) || false) e (ap (λ (settled : List Settlement). settles_mapped settled (length past)) (refused_settled setup past buffer mode offset size (map_unborn setup past buffer mode offset size n le (eqb-true buffer.number n e))) ∙ own_refused past (is_lost past))
    by_same false e = ap (λ b. (b && settles_mapped (reply_to setup past (MapAsync buffer mode offset size)).settled (length past)) || false) e
unborn_keeps setup past event n le = keeps_none n (reply_to setup past event).settled (promised past (effects_of event).form) (own_of_other n past (effects_of event).form (λ buffer mode offset size e. absurd (cc)))

pub mapped_new : (setup : Setup) (past : Past) (n : ℕ) → IsRun setup past → count past ≤ n → mapped_at setup past n ≡ None
mapped_new setup [] n run le = refl
mapped_new setup (entry ∷ older) n run le = by_making (is_making entry.event) refl le (mapped_new setup older n (others setup entry older run))
  where
    keeps : count older ≤ n → list_any (keeps_of n entry.reply.settled) (waits_of entry older) ≡ false
    keeps before =
        any_both (keeps_of n entry.reply.settled) (awaiting older) (promised older (effects_of entry.event).form)
        (keeps_none n entry.reply.settled (awaiting older) (pending_new setup older n (others setup entry older run) before))
        (ap (λ (reply : Reply). list_any (keeps_of n reply.settled) (promised older (effects_of entry.event).form)) (newest setup entry older run) ∙ unborn_keeps setup older entry.event n before)

    by_unmaps : (b : Bool) → count older ≤ n → mapped_at setup older n ≡ None → (if b then None else option_or (mapped_now entry.reply.settled (waits_of entry older) n) (mapped_at setup older n)) ≡ None
    by_unmaps true before rest = refl
    by_unmaps false before rest = ap₂ option_or (mapped_none n entry.reply.settled (waits_of entry older) (keeps before)) rest

    by_making : (b : Bool) → is_making entry.event ≡ b → (if b then count older + 1 else count older) ≤ n → (count older ≤ n → mapped_at setup older n ≡ None)
        → (if is_making entry.event && count older == n then mapped_made entry else if unmaps setup older entry.event n then None else option_or (mapped_now entry.reply.settled (waits_of entry older) n) (mapped_at setup older n)) ≡ None
    by_making true e le rest =
        ap₂ (λ a b. if a && b then mapped_made entry else if unmaps setup older entry.event n then None else option_or (mapped_now entry.reply.settled (waits_of entry older) n) (mapped_at setup older n)) e (ne_eqb (count older) n (λ same. absurd (omega (arith, le, same))))
        ∙ by_unmaps (unmaps setup older entry.event n) (omega (arith, le)) (rest (omega (arith, le)))
    by_making false e le rest =
        ap (λ a. if a && count older == n then mapped_made entry else if unmaps setup older entry.event n then None else option_or (mapped_now entry.reply.settled (waits_of entry older) n) (mapped_at setup older n)) e
        ∙ by_unmaps (unmaps setup older entry.event n) le (rest le)
