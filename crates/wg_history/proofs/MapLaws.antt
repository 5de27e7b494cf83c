-- In a run at most one map of a buffer is pending, and none of one that is mapped; and where recordings are as recorders keep
-- them, no operation uses a buffer while a map of it is pending.
use Rattle.std.proofs.Common.{◌≡◌, ℕ, ◌+◌, ◌<◌, ◌≤◌, List, [], ◌∷◌, ◌++◌, length, filter, reverse, Bool, true, false, not, cond, ◌&&◌, ◌||◌, ◌==◌, nat_le, max, Option, Some, None, is_some, is_none, unwrap_or, refl, ap, ap₂, sym, ◌∙◌, arith, append-nil, count_by, if◌then◌else◌, true≢false, subst, ◌⊎◌, inl, inr, eq-eqb, eqb-true}
use Rattle.std.specs.Prelude.{All}
use Rattle.std.specs.List.{list_any}
use Rattle.std.specs.Option.{option_map_or, option_or}
use Rattle.std.proofs.lemmas.Bool.{and_parts, or_cases, or_left, or_right, cases_lt}
use Rattle.std.proofs.lemmas.List.Elements.{All-nil, All-cons}
use Rattle.std.proofs.lemmas.List.Sums.{sum_by-cons}
use Rattle.std.proofs.Math.Nat.{zero-max}
use Rattle.wg_types.specs.declared.commands.On.{On}
use Rattle.wg_types.specs.Commands.{Command}
use Rattle.wg_types.specs.declared.handles.ObjRef.{ObjRef}
use Rattle.wg_types.specs.declared.handles.Info.{Info}
use Rattle.wg_types.specs.declared.handles.Info.TheVariants.{Queries, Texture}
use Rattle.wg_types.specs.declared.mappings.Mapping.{Mapping}
use Rattle.wg_trace.specs.declared.replies.Answer.{Answer}
use Rattle.wg_trace.specs.declared.replies.How.TheVariants.{Mapped, Aborted, Rejected}
use Rattle.wg_trace.specs.declared.replies.Reply.{Reply}
use Rattle.wg_trace.specs.declared.replies.Settlement.{Settlement}
use Rattle.wg_types.specs.declared.textures.TextureSpot.{TextureSpot}
use Rattle.wg_types.specs.declared.textures.DataLayout.{DataLayout}
use Rattle.wg_model.specs.ErrorScopes.{pop_how}
use Rattle.wg_model.specs.Commands.{is_queries}
use Rattle.wg_model.specs.Recorded.{buffers_of, textures_of, query_sets_of, any_named, uses_resource}
use Rattle.wg_model.specs.Rules.{AreMet}
use Rattle.wg_model.proofs.Sparing.{or_first}
use Rattle.wg_model.proofs.Unmet.{all_met}
use Rattle.wg_history.specs.Entries.{Setup, Event, Submit, WriteBuffer, WriteTexture, Complete, MapAsync, Form, Making, Queue, Promising, Completion, Plainly, ForWork, ForError, ForMap, effects_of, Entry, Past}
use Rattle.wg_history.specs.Objects.{is_making, count, info_at, is_buffer, is_texture_info, is_valid, commands_at}
use Rattle.wg_history.specs.Operations.{issued, completed, submit_uses, is_used, op_of, use_by, last_use}
use Rattle.wg_history.specs.Loss.{is_lost, error_scopes, Awaited, mapping, work, Wait, asked_mapping, promised, settles, unsettled, awaiting, is_of, is_map_of, is_pending}
use Rattle.wg_history.specs.Rules.{unmaps, settles_mapped, mapped_now, mapped_made, waits_of, mapped_at, is_destroyed, is_busy, map_async_list, map_async_rule, any_used, listed_rules, together_rules, submit_list, submit_rule, write_buffer_list, write_buffer_rule, write_texture_list, write_texture_rule}
use Rattle.wg_history.specs.FirstRules.{first_rule}
use Rattle.wg_history.specs.Answers.{at_once, settle_all, kept_how, is_over, is_kept, is_taken, either, settled_in, reply_to, IsRun}
use Rattle.wg_history.specs.MapLaws.{MapsAreSingle, PendingIsUnmapped, AreRecorded, IsLastUse, MapsWaitForLast}
use Rattle.wg_history.proofs.Runs.{newest, others}
use Rattle.wg_history.proofs.Tests.{not_true, was_not, any_grows, met_after, met_before, none_either}
use Rattle.wg_history.proofs.AfterUse.{no_op}
use Rattle.wg_history.proofs.BundleTouches.{any_resource_is}
use Rattle.wg_history.proofs.Awaiting.{awaiting_ascends, unsettled_own, unsettled_tested}
use Rattle.wg_history.proofs.Waits.{any_filter, any_unsettled, any_both}
use Rattle.wg_history.proofs.Destroyed.{own_of_other, keeps_of, mapped_none}
use Rattle.wg_history.proofs.Mappings.{keeps_free, one_free, free_if, free_unless, free_work, pop_free, keeps_later, due_in, due_now, mapped_due, refused_leaves, refused_pends, unborn_pends, pending_new}
use Rattle.wg_history.proofs.Makers.{info_stays}
use Rattle.wg_history.proofs.Viewing.{is_kind_at, own_known}
use Rattle.wg_history.proofs.UsedKinds.{used_textures, used_query_sets}

-- What waits of a buffer is one.

abbrev IsSingle : (Wait → Bool) → List Wait → Type 0
IsSingle p [] = Unit {0}
IsSingle p (w ∷ ws) = (p w ≡ true → list_any p ws ≡ false) × IsSingle p ws

single_filter : (p q : Wait → Bool) (ws : List Wait) → IsSingle p ws → IsSingle p (filter q ws)
single_filter p q [] single = tt
single_filter p q (w ∷ ws) single = by_test (q w) (single_filter p q ws single.1)
  where
    by_test : (b : Bool) → IsSingle p (filter q ws) → IsSingle p (if b then w ∷ filter q ws else filter q ws)
    by_test true rest = (λ e. any_filter p q ws (single.0 e), rest)
    by_test false rest = rest

single_append : (p : Wait → Bool) (xs ys : List Wait) → IsSingle p xs → IsSingle p ys → (list_any p xs ≡ true → list_any p ys ≡ false) → IsSingle p (xs ++ ys)
single_append p [] ys first second apart = second
single_append p (x ∷ xs) ys first second apart =
    (λ e. any_both p xs ys (first.0 e) (apart (or_left (p x) (list_any p xs) e)), single_append p xs ys first.1 second (λ e. apart (or_right (p x) (list_any p xs) e)))

single_promised : (past : Past) (form : Form) (n : ℕ) → IsSingle (is_map_of n) (promised past form)
single_promised past (Promising ForWork) n = (λ e. refl, tt)
single_promised past (Promising (ForMap buffer mode offset size)) n = (λ e. refl, tt)
single_promised past (Promising ForError) n = tt
single_promised past Making n = tt
single_promised past Queue n = tt
single_promised past (Completion op) n = tt
single_promised past Plainly n = tt

-- a map that meets its rules is of a buffer that is neither mapped nor pending
met_idle : (setup : Setup) (past : Past) (buffer : ObjRef) (mode offset size : ℕ) → is_none (map_async_rule setup past buffer mode offset size) ≡ true → is_busy setup past buffer.number ≡ false
unfolding map_async_rule
met_idle setup past buffer mode offset size e = not_true (is_busy setup past buffer.number) (all_met (map_async_list setup past buffer mode offset size) e).1.1.1.1.1.1.1.1.0

idle_pends : (setup : Setup) (past : Past) (n : ℕ) → is_busy setup past n ≡ false → is_pending past n ≡ false
idle_pends setup past n idle = was_not (is_some (mapped_at setup past n)) (is_pending past n) (was_not (is_destroyed setup past n) _ idle)

pending_busy : (setup : Setup) (past : Past) (n : ℕ) → is_pending past n ≡ true → is_busy setup past n ≡ true
pending_busy setup past n pends = or_right (is_destroyed setup past n) _ (or_right (is_some (mapped_at setup past n)) (is_pending past n) pends)

busy_refused : (setup : Setup) (past : Past) (buffer : ObjRef) (mode offset size n : ℕ) → is_busy setup past n ≡ true → buffer.number ≡ n → is_none (map_async_rule setup past buffer mode offset size) ≡ false
busy_refused setup past buffer mode offset size n busy same = by_rule (is_none (map_async_rule setup past buffer mode offset size)) refl
  where
    by_rule : (b : Bool) → is_none (map_async_rule setup past buffer mode offset size) ≡ b → b ≡ false
    by_rule true met = absurd (true≢false (sym busy ∙ (ap (is_busy setup past) (sym same) ∙ met_idle setup past buffer mode offset size met)))
    by_rule false unmet = refl

single_next : (setup : Setup) (past : Past) (event : Event) (n : ℕ) → IsSingle (is_map_of n) (awaiting past) → IsSingle (is_map_of n) (unsettled (reply_to setup past event).settled (awaiting past ++ promised past (effects_of event).form))
single_next setup past (MapAsync buffer mode offset size) n before = by_rule (is_none (map_async_rule setup past buffer mode offset size)) refl
  where
    settled : List Settlement
    settled = (reply_to setup past (MapAsync buffer mode offset size)).settled

    own : List Wait
    own = promised past (Promising (ForMap buffer mode offset size))

    apart : is_none (map_async_rule setup past buffer mode offset size) ≡ true → list_any (is_map_of n) (awaiting past) ≡ true → list_any (is_map_of n) own ≡ false
    apart met pends = by_same (buffer.number == n) refl
      where
        by_same : (b : Bool) → (buffer.number == n) ≡ b → (b || false) ≡ false
        by_same true e = absurd (true≢false (sym pends ∙ (ap (is_pending past) (sym (eqb-true buffer.number n e)) ∙ idle_pends setup past buffer.number (met_idle setup past buffer mode offset size met))))
        by_same false e = refl

    by_rule : (b : Bool) → is_none (map_async_rule setup past buffer mode offset size) ≡ b → IsSingle (is_map_of n) (unsettled settled (awaiting past ++ own))
    by_rule true met = single_filter (is_map_of n) (λ w. not (settles settled w.promise)) (awaiting past ++ own) (single_append (is_map_of n) (awaiting past) own before (single_promised past (Promising (ForMap buffer mode offset size)) n) (apart met))
    by_rule false unmet = subst (IsSingle (is_map_of n)) (sym (refused_leaves setup past buffer mode offset size unmet)) before
single_next setup past event n before =
    single_filter (is_map_of n) (λ w. not (settles (reply_to setup past event).settled w.promise)) (awaiting past ++ promised past (effects_of event).form)
    (single_append (is_map_of n) (awaiting past) (promised past (effects_of event).form) before (single_promised past (effects_of event).form n)
    (λ pends. own_of_other n past (effects_of event).form (λ buffer mode offset size e. absurd (cc))))

single_awaiting : (setup : Setup) (past : Past) (n : ℕ) → IsRun setup past → IsSingle (is_map_of n) (awaiting past)
single_awaiting setup [] n run = tt
single_awaiting setup (entry ∷ older) n run =
    subst (λ (reply : Reply). IsSingle (is_map_of n) (unsettled reply.settled (awaiting older ++ promised older (effects_of entry.event).form))) (sym (newest setup entry older run))
    (single_next setup older entry.event n (single_awaiting setup older n (others setup entry older run)))

count_none : (p : Wait → Bool) (ws : List Wait) → list_any p ws ≡ false → count_by p ws ≡ 0
count_none p [] e = refl
count_none p (w ∷ ws) e = sum_by-cons (λ x. cond (p x) 1 0) w ws ∙ ap₂ (λ b k. cond b 1 0 + k) (or_first (p w) (list_any p ws) e) (count_none p ws (was_not (p w) (list_any p ws) e))

count_single : (p : Wait → Bool) (ws : List Wait) → IsSingle p ws → count_by p ws ≤ 1
count_single p [] single = let none : count_by p [] ≡ 0 = refl in omega (arith, none)
count_single p (w ∷ ws) single = by_test (p w) refl (sum_by-cons (λ x. cond (p x) 1 0) w ws) (count_single p ws single.1)
  where
    by_test : (b : Bool) → p w ≡ b → count_by p (w ∷ ws) ≡ cond (p w) 1 0 + count_by p ws → count_by p ws ≤ 1 → count_by p (w ∷ ws) ≤ 1
    by_test true e step rest =
        let one : ◌≡◌ {A = ℕ} (cond (p w) 1 0) 1 = ap (λ (b : Bool). cond b 1 0) e in
        let none : count_by p ws ≡ 0 = count_none p ws (single.0 e) in
        omega (arith, step, one, none)
    by_test false e step rest =
        let nothing : ◌≡◌ {A = ℕ} (cond (p w) 1 0) 0 = ap (λ (b : Bool). cond b 1 0) e in
        omega (arith, step, nothing, rest)

pub maps_are_single : MapsAreSingle
maps_are_single setup history n run = count_single (is_map_of n) (awaiting (reverse history)) (single_awaiting setup (reverse history) n run)

-- What an entry settles as mapped waits no more, and no other map of its buffer waits.

due_none : (op n : ℕ) (ws : List Wait) → list_any (is_map_of n) ws ≡ false → due_now op ws n ≡ None
due_none op n [] e = refl
due_none op n (w ∷ ws) e = ap₂ option_or (due_none op n ws (was_not (is_map_of n w) (list_any (is_map_of n) ws) e)) (one w.awaited (or_first (is_map_of n w) (list_any (is_map_of n) ws) e))
  where
    one : (awaited : Awaited) → is_of n awaited ≡ false → due_in op n awaited ≡ None
    one (mapping buffer last m) other = ap (λ (b : Bool). if b && nat_le last op then Some m else None) other
    one (work ops) other = refl

left_due : (op n : ℕ) (ws : List Wait) → IsSingle (is_map_of n) ws → list_any (is_map_of n) (filter (λ w. not (is_kept op w)) ws) ≡ true → due_now op ws n ≡ None
left_due op n [] single left = refl
left_due op n (w ∷ ws) single left = by_map (is_map_of n w) refl (is_kept op w) refl left (left_due op n ws single.1)
  where
    other : (awaited : Awaited) → is_of n awaited ≡ false → due_in op n awaited ≡ None
    other (mapping buffer last m) e = ap (λ (b : Bool). if b && nat_le last op then Some m else None) e
    other (work ops) e = refl

    and_no : (b : Bool) (m : Mapping) → (if b && false then Some m else None) ≡ None
    and_no true m = refl
    and_no false m = refl

    late : (awaited : Awaited) → is_over op awaited ≡ false → due_in op n awaited ≡ None
    late (mapping buffer last m) e = ap (λ (b : Bool). if buffer == n && b then Some m else None) e ∙ and_no (buffer == n) m
    late (work ops) e = refl

    by_map : (a : Bool) → is_map_of n w ≡ a → (b : Bool) → is_kept op w ≡ b
        → list_any (is_map_of n) (if not b then w ∷ filter (λ w. not (is_kept op w)) ws else filter (λ w. not (is_kept op w)) ws) ≡ true
        → (list_any (is_map_of n) (filter (λ w. not (is_kept op w)) ws) ≡ true → due_now op ws n ≡ None)
        → option_or (due_now op ws n) (due_in op n w.awaited) ≡ None
    by_map true same true kept left rest = absurd (true≢false (sym left ∙ any_filter (is_map_of n) (λ w. not (is_kept op w)) ws (single.0 same)))
    by_map true same false kept left rest = ap₂ option_or (due_none op n ws (single.0 same)) (late w.awaited kept)
    by_map false same true kept left rest = ap₂ option_or (rest left) (other w.awaited same)
    by_map false same false kept left rest = ap₂ option_or (rest (sym (ap (λ b. b || list_any (is_map_of n) (filter (λ w. not (is_kept op w)) ws)) same) ∙ left)) (other w.awaited same)

-- forms whose events settle no map as mapped
abbrev is_quiet : Form → Bool
is_quiet Making = true
is_quiet Queue = true
is_quiet (Promising ForWork) = true
is_quiet (Promising ForError) = true
is_quiet (Promising (ForMap buffer mode offset size)) = false
is_quiet (Completion op) = false
is_quiet Plainly = true

quiet_free : (past : Past) (form : Form) (loses : Bool) (unmapped : Option ObjRef) (lost met : Bool) → is_quiet form ≡ true → (p : ℕ) → settles_mapped (settled_in past form loses unmapped lost met) p ≡ false
quiet_free past Making loses unmapped lost met quiet p = refl
quiet_free past Queue loses unmapped lost met quiet p = refl
quiet_free past (Promising ForWork) loses unmapped lost met quiet p = free_work (lost || (issued past == completed past)) (length past) p
quiet_free past (Promising ForError) loses unmapped lost met quiet p = one_free (length past) (pop_how lost (error_scopes past)) (pop_free lost (error_scopes past)) p
quiet_free past (Promising (ForMap buffer mode offset size)) loses unmapped lost met quiet p = absurd (true≢false (sym quiet))
quiet_free past (Completion op) loses unmapped lost met quiet p = absurd (true≢false (sym quiet))
quiet_free past Plainly true unmapped lost met quiet p = free_unless lost (awaiting past) p
quiet_free past Plainly false None lost met quiet p = refl
quiet_free past Plainly false (Some buffer) lost met quiet p = free_if met (filter (is_map_of buffer.number) (awaiting past)) p

mapped_free : (n : ℕ) (settled : List Settlement) (ws : List Wait) → ((p : ℕ) → settles_mapped settled p ≡ false) → mapped_now settled ws n ≡ None
mapped_free n settled ws free = mapped_none n settled ws (keeps_free n settled free ws)

mapped_then : (setup : Setup) (past : Past) (event : Event) (n : ℕ) → IsSingle (is_map_of n) (awaiting past)
    → list_any (is_map_of n) (unsettled (reply_to setup past event).settled (awaiting past ++ promised past (effects_of event).form)) ≡ true
    → mapped_now (reply_to setup past event).settled (awaiting past ++ promised past (effects_of event).form) n ≡ None
mapped_then setup past (Complete op) n single pends = by_taken (is_taken past op) pends
  where
    by_taken : (b : Bool) → list_any (is_map_of n) (unsettled (if b then settle_all kept_how (filter (is_kept op) (awaiting past)) else []) (awaiting past ++ [])) ≡ true
        → mapped_now (if b then settle_all kept_how (filter (is_kept op) (awaiting past)) else []) (awaiting past ++ []) n ≡ None
    by_taken true pends =
        ap (λ (ws : List Wait). mapped_now (settle_all kept_how (filter (is_kept op) (awaiting past))) ws n) (append-nil (awaiting past))
        ∙ (mapped_due op n 0 (length past) (awaiting past) (awaiting_ascends past)
        ∙ left_due op n (awaiting past) single
        (sym (ap (list_any (is_map_of n)) (ap (unsettled (settle_all kept_how (filter (is_kept op) (awaiting past)))) (append-nil (awaiting past)) ∙ unsettled_tested kept_how (is_kept op) 0 (length past) (awaiting past) (awaiting_ascends past))) ∙ pends))
    by_taken false pends = mapped_free n [] (awaiting past ++ []) (λ p. refl)
mapped_then setup past (MapAsync buffer mode offset size) n single pends =
    by_parts (is_lost past) (is_none (map_async_rule setup past buffer mode offset size)) (nat_le (last_use past buffer.number) (completed past)) refl pends
  where
    own : Awaited
    own = mapping buffer.number (last_use past buffer.number) (asked_mapping mode offset size)

    waits : List Wait
    waits = awaiting past ++ record { promise = length past; awaited = own } ∷ []

    kept : (b : Bool) → (buffer.number == n) ≡ b → is_none (map_async_rule setup past buffer mode offset size) ≡ true → list_any (is_map_of n) (unsettled (at_once (length past) Mapped) waits) ≡ true → mapped_now (at_once (length past) Mapped) waits n ≡ None
    kept true e met pends = absurd (
        let idle : is_pending past n ≡ false = ap (is_pending past) (sym (eqb-true buffer.number n e)) ∙ idle_pends setup past buffer.number (met_idle setup past buffer mode offset size met) in
        true≢false (sym pends ∙ (ap (list_any (is_map_of n)) (unsettled_own Mapped own (length past) (awaiting past) (awaiting_ascends past)) ∙ idle)))
    kept false e met pends =
        mapped_none n (at_once (length past) Mapped) waits (any_both (keeps_of n (at_once (length past) Mapped)) (awaiting past) (record { promise = length past; awaited = own } ∷ [])
        (keeps_later n Mapped 0 (length past) (awaiting past) (awaiting_ascends past))
        (ap (λ b. (b && settles_mapped (at_once (length past) Mapped) (length past)) || false) e))

    by_parts : (lost met over : Bool) → is_none (map_async_rule setup past buffer mode offset size) ≡ met
        → list_any (is_map_of n) (unsettled (if lost then at_once (length past) Aborted else if not met then at_once (length past) Rejected else if over then at_once (length past) Mapped else []) waits) ≡ true
        → mapped_now (if lost then at_once (length past) Aborted else if not met then at_once (length past) Rejected else if over then at_once (length past) Mapped else []) waits n ≡ None
    by_parts true met over is pends = mapped_free n (at_once (length past) Aborted) waits (one_free (length past) Aborted refl)
    by_parts false false over is pends = mapped_free n (at_once (length past) Rejected) waits (one_free (length past) Rejected refl)
    by_parts false true true is pends = kept (buffer.number == n) refl is pends
    by_parts false true false is pends = mapped_free n [] waits (λ p. refl)
mapped_then setup past event n single pends =
    mapped_free n (reply_to setup past event).settled (awaiting past ++ promised past (effects_of event).form)
    (quiet_free past (effects_of event).form (effects_of event).loses (either (effects_of event).unmapped (effects_of event).destroyed) (is_lost past) (is_none (first_rule setup past event)) refl)

-- A buffer of which a map is pending is not mapped.

was_unmapped : (setup : Setup) (past : Past) (event : Event) (n : ℕ) → list_any (is_map_of n) (unsettled (reply_to setup past event).settled (awaiting past ++ promised past (effects_of event).form)) ≡ true
    → (is_pending past n ≡ true → mapped_at setup past n ≡ None) → mapped_at setup past n ≡ None
was_unmapped setup past event n pends before = by_mapped (mapped_at setup past n) refl (is_pending past n) refl
  where
    busy : (m : Mapping) → mapped_at setup past n ≡ Some m → is_busy setup past n ≡ true
    busy m is = or_right (is_destroyed setup past n) _ (or_left (is_some (mapped_at setup past n)) (is_pending past n) (ap (λ (o : Option Mapping). is_some o) is))

    by_mapped : (o : Option Mapping) → mapped_at setup past n ≡ o → (b : Bool) → is_pending past n ≡ b → o ≡ None
    by_mapped None is b e = refl
    by_mapped (Some m) is true e = sym is ∙ before e
    by_mapped (Some m) is false e = absurd (true≢false (sym pends ∙ refused_pends setup past event n e (λ buffer mode offset size same. busy_refused setup past buffer mode offset size n (busy m is) same)))

unmapped_next : (setup : Setup) (entry : Entry) (older : Past) (n : ℕ) → IsRun setup (entry ∷ older) → is_pending (entry ∷ older) n ≡ true → (is_pending older n ≡ true → mapped_at setup older n ≡ None) → mapped_at setup (entry ∷ older) n ≡ None
unmapped_next setup entry older n run pends before = by_making (is_making entry.event && count older == n) refl
  where
    below : IsRun setup older
    below = others setup entry older run

    still : list_any (is_map_of n) (unsettled (reply_to setup older entry.event).settled (awaiting older ++ promised older (effects_of entry.event).form)) ≡ true
    still = sym (ap (λ (reply : Reply). list_any (is_map_of n) (unsettled reply.settled (awaiting older ++ promised older (effects_of entry.event).form))) (newest setup entry older run)) ∙ pends

    unborn : (is_making entry.event && count older == n) ≡ true → ⊥
    unborn e =
        let same : count older ≡ n = eqb-true (count older) n (and_parts (is_making entry.event) (count older == n) e).1 in
        let le : count older ≤ n = omega (arith, same) in
        true≢false (sym still ∙ unborn_pends setup older entry.event n (pending_new setup older n below le) le)

    by_unmaps : (b : Bool) → (if b then None else option_or (mapped_now entry.reply.settled (waits_of entry older) n) (mapped_at setup older n)) ≡ None
    by_unmaps true = refl
    by_unmaps false = ap₂ option_or
        (ap (λ (reply : Reply). mapped_now reply.settled (awaiting older ++ promised older (effects_of entry.event).form) n) (newest setup entry older run) ∙ mapped_then setup older entry.event n (single_awaiting setup older n below) still)
        (was_unmapped setup older entry.event n still before)

    by_making : (b : Bool) → (is_making entry.event && count older == n) ≡ b
        → (if b then mapped_made entry else if unmaps setup older entry.event n then None else option_or (mapped_now entry.reply.settled (waits_of entry older) n) (mapped_at setup older n)) ≡ None
    by_making true e = absurd (unborn e)
    by_making false e = by_unmaps (unmaps setup older entry.event n)

pending_unmapped : (setup : Setup) (past : Past) (n : ℕ) → IsRun setup past → is_pending past n ≡ true → mapped_at setup past n ≡ None
pending_unmapped setup [] n run pends = refl
pending_unmapped setup (entry ∷ older) n run pends = unmapped_next setup entry older n run pends (pending_unmapped setup older n (others setup entry older run))

pub pending_is_unmapped : PendingIsUnmapped
pending_is_unmapped setup history n run pends = pending_unmapped setup (reverse history) n run pends

-- No map is pending of what is no buffer, as a texture or a query set.

abbrev IsApart : (Info → Bool) → Type 0
IsApart kind = (o : Option Info) → option_map_or is_buffer o false ≡ true → option_map_or kind o false ≡ true → ⊥

textures_apart : IsApart is_texture_info
textures_apart None its other = true≢false (sym its)
textures_apart (Some (Texture known)) its other = true≢false (sym its)
textures_apart (Some _) its other = true≢false (sym other)

queries_apart : IsApart is_queries
queries_apart None its other = true≢false (sym its)
queries_apart (Some (Queries known)) its other = true≢false (sym its)
queries_apart (Some _) its other = true≢false (sym other)

other_refused : (setup : Setup) (past : Past) (kind : Info → Bool) (buffer : ObjRef) (mode offset size n : ℕ) → IsApart kind → is_kind_at kind past n ≡ true → buffer.number ≡ n → is_none (map_async_rule setup past buffer mode offset size) ≡ false
unfolding map_async_rule
other_refused setup past kind buffer mode offset size n apart its same = by_rule (is_none (map_async_rule setup past buffer mode offset size)) refl
  where
    by_rule : (b : Bool) → is_none (map_async_rule setup past buffer mode offset size) ≡ b → b ≡ false
    by_rule true met = absurd (apart (info_at past buffer.number) (own_known setup past is_buffer buffer (all_met (map_async_list setup past buffer mode offset size) met).0) (ap (is_kind_at kind past) same ∙ its))
    by_rule false unmet = refl

other_next : (setup : Setup) (entry : Entry) (older : Past) (kind : Info → Bool) (n : ℕ) → IsApart kind → IsRun setup (entry ∷ older) → is_kind_at kind (entry ∷ older) n ≡ true → (is_kind_at kind older n ≡ true → is_pending older n ≡ false)
    → is_pending (entry ∷ older) n ≡ false
other_next setup entry older kind n apart run its before =
    ap (λ (reply : Reply). list_any (is_map_of n) (unsettled reply.settled (awaiting older ++ promised older (effects_of entry.event).form))) (newest setup entry older run)
    ∙ by_number (cases_lt n (count older))
  where
    by_number : (n < count older) ⊎ (count older ≤ n) → list_any (is_map_of n) (unsettled (reply_to setup older entry.event).settled (awaiting older ++ promised older (effects_of entry.event).form)) ≡ false
    by_number (inl lt) =
        let was : is_kind_at kind older n ≡ true = sym (ap (λ (o : Option Info). option_map_or kind o false) (info_stays older entry n lt)) ∙ its in
        refused_pends setup older entry.event n (before was) (λ buffer mode offset size same. other_refused setup older kind buffer mode offset size n apart was same)
    by_number (inr le) = unborn_pends setup older entry.event n (pending_new setup older n (others setup entry older run) le) le

other_unpending : (setup : Setup) (past : Past) (kind : Info → Bool) (n : ℕ) → IsApart kind → IsRun setup past → is_kind_at kind past n ≡ true → is_pending past n ≡ false
other_unpending setup [] kind n apart run its = refl
other_unpending setup (entry ∷ older) kind n apart run its = other_next setup entry older kind n apart run its (other_unpending setup older kind n apart (others setup entry older run))

-- No operation uses a buffer of which a map is pending.

commands_spare : (setup : Setup) (past : Past) (b n : ℕ) → IsRun setup past → AreRecorded past → is_pending past n ≡ true → is_valid past b ≡ true → any_named buffers_of (is_busy setup past) (commands_at past b) ≡ false → uses_resource (commands_at past b) n ≡ false
commands_spare setup past b n run kept pends valid idle = by_use (uses_resource (commands_at past b) n) refl
  where
    grows : any_named buffers_of (λ r. r == n) (commands_at past b) ≡ true → any_named buffers_of (is_busy setup past) (commands_at past b) ≡ true
    grows = any_grows (λ (kept : On × Command). list_any (is_busy setup past) (buffers_of kept.1)) (λ (kept : On × Command). list_any (λ r. r == n) (buffers_of kept.1))
        (λ kept in_command. any_grows (is_busy setup past) (λ r. r == n) (λ r same. ap (is_busy setup past) (eqb-true r n same) ∙ pending_busy setup past n pends) (buffers_of kept.1) in_command) (commands_at past b)

    by_use : (u : Bool) → uses_resource (commands_at past b) n ≡ u → u ≡ false
    by_use true used = absurd (elim (or_cases (any_named buffers_of (λ r. r == n) (commands_at past b)) (any_named textures_of (λ r. r == n) (commands_at past b) || any_named query_sets_of (λ r. r == n) (commands_at past b)) (sym (any_resource_is (λ r. r == n) (commands_at past b)) ∙ used)) [
      | inl buffers ↦ true≢false (sym (grows buffers) ∙ idle)
      | inr more ↦ elim (or_cases (any_named textures_of (λ r. r == n) (commands_at past b)) (any_named query_sets_of (λ r. r == n) (commands_at past b)) more) [
        | inl textures ↦ true≢false (sym pends ∙ other_unpending setup past is_texture_info n textures_apart run (used_textures setup past b n run kept valid textures))
        | inr queries ↦ true≢false (sym pends ∙ other_unpending setup past is_queries n queries_apart run (used_query_sets setup past b n run kept valid queries))
      ]
    ])
    by_use false used = refl

buffers_spare : (setup : Setup) (past : Past) (buffers : List ObjRef) (n : ℕ) → IsRun setup past → AreRecorded past → is_pending past n ≡ true → AreMet (listed_rules setup past buffers)
    → any_used buffers_of (is_busy setup past) past buffers ≡ false → submit_uses past buffers n ≡ false
buffers_spare setup past [] n run kept pends met idle = refl
buffers_spare setup past (buffer ∷ buffers) n run kept pends met idle = ap₂ ◌||◌
    (commands_spare setup past buffer.number n run kept pends met.1.1.0 (or_first (any_named buffers_of (is_busy setup past) (commands_at past buffer.number)) _ idle))
    (buffers_spare setup past buffers n run kept pends met.1.1.1 (was_not (any_named buffers_of (is_busy setup past) (commands_at past buffer.number)) _ idle))

submit_spares : (setup : Setup) (past : Past) (buffers : List ObjRef) (n : ℕ) → IsRun setup past → AreRecorded past → is_pending past n ≡ true → is_none (submit_rule setup past buffers) ≡ true → submit_uses past buffers n ≡ false
unfolding submit_rule
submit_spares setup past buffers n run kept pends e =
    let all : AreMet (submit_list setup past buffers) = all_met (submit_list setup past buffers) e in
    let met : AreMet (together_rules setup past buffers) = met_after (listed_rules setup past buffers) (together_rules setup past buffers) all in
    buffers_spare setup past buffers n run kept pends (met_before (listed_rules setup past buffers) (together_rules setup past buffers) all) (not_true (any_used buffers_of (is_busy setup past) past buffers) met.1.1.0)

write_idle : (setup : Setup) (past : Past) (buffer : ObjRef) (offset size : ℕ) → is_none (write_buffer_rule setup past buffer offset size) ≡ true → is_busy setup past buffer.number ≡ false
unfolding write_buffer_rule
write_idle setup past buffer offset size e = not_true (is_busy setup past buffer.number) (all_met (write_buffer_list setup past buffer offset size) e).1.1.1.1.1.1.0

written_texture : (setup : Setup) (past : Past) (texture : ObjRef) (spot : TextureSpot) (layout : DataLayout) (size : List ℕ) (data_size : ℕ) → is_none (write_texture_rule setup past texture spot layout size data_size) ≡ true → is_kind_at is_texture_info past texture.number ≡ true
unfolding write_texture_rule
written_texture setup past texture spot layout size data_size e = own_known setup past is_texture_info texture (all_met (write_texture_list setup past texture spot layout size data_size) e).0

uses_none : (setup : Setup) (past : Past) (event : Event) (n : ℕ) → IsRun setup past → AreRecorded past → is_pending past n ≡ true → (if is_used past event n then unwrap_or (op_of (reply_to setup past event).answer) 0 else 0) ≡ 0
uses_none setup past (WriteBuffer buffer offset size) n run kept pends = by_same (buffer.number == n) refl
  where
    by_rule : (b : Bool) → is_none (write_buffer_rule setup past buffer offset size) ≡ b → buffer.number ≡ n → b ≡ false
    by_rule true met same = absurd (true≢false (sym pends ∙ (ap (is_pending past) (sym same) ∙ idle_pends setup past buffer.number (write_idle setup past buffer offset size met))))
    by_rule false met same = refl

    by_same : (b : Bool) → (buffer.number == n) ≡ b → (if b then unwrap_or (op_of (reply_to setup past (WriteBuffer buffer offset size)).answer) 0 else 0) ≡ 0
    by_same true e = no_op (is_lost past) (is_none (write_buffer_rule setup past buffer offset size)) (issued past + 1) (by_rule (is_none (write_buffer_rule setup past buffer offset size)) refl (eqb-true buffer.number n e))
    by_same false e = refl
uses_none setup past (WriteTexture texture spot layout size data_size) n run kept pends = by_same (texture.number == n) refl
  where
    by_rule : (b : Bool) → is_none (write_texture_rule setup past texture spot layout size data_size) ≡ b → texture.number ≡ n → b ≡ false
    by_rule true met same = absurd (true≢false (sym pends ∙ (ap (is_pending past) (sym same) ∙ other_unpending setup past is_texture_info texture.number textures_apart run (written_texture setup past texture spot layout size data_size met))))
    by_rule false met same = refl

    by_same : (b : Bool) → (texture.number == n) ≡ b → (if b then unwrap_or (op_of (reply_to setup past (WriteTexture texture spot layout size data_size)).answer) 0 else 0) ≡ 0
    by_same true e = no_op (is_lost past) (is_none (write_texture_rule setup past texture spot layout size data_size)) (issued past + 1) (by_rule (is_none (write_texture_rule setup past texture spot layout size data_size)) refl (eqb-true texture.number n e))
    by_same false e = refl
uses_none setup past (Submit buffers) n run kept pends = by_use (submit_uses past buffers n) refl
  where
    by_rule : (b : Bool) → is_none (submit_rule setup past buffers) ≡ b → submit_uses past buffers n ≡ true → b ≡ false
    by_rule true met used = absurd (true≢false (sym used ∙ submit_spares setup past buffers n run kept pends met))
    by_rule false met used = refl

    by_use : (b : Bool) → submit_uses past buffers n ≡ b → (if b then unwrap_or (op_of (reply_to setup past (Submit buffers)).answer) 0 else 0) ≡ 0
    by_use true used = no_op (is_lost past) (is_none (submit_rule setup past buffers)) (issued past + 1) (by_rule (is_none (submit_rule setup past buffers)) refl used)
    by_use false used = refl
uses_none setup past _ n run kept pends = refl

pending_unused : (setup : Setup) (entry : Entry) (older : Past) (n : ℕ) → IsRun setup (entry ∷ older) → AreRecorded older → is_pending older n ≡ true → use_by older entry n ≡ 0
pending_unused setup entry older n run kept pends =
    ap (λ (reply : Reply). if is_used older entry.event n then unwrap_or (op_of reply.answer) 0 else 0) (newest setup entry older run) ∙ uses_none setup older entry.event n (others setup entry older run) kept pends

-- So each waits for the last operation that uses its buffer.

-- the promise to map buffer n that waits for another operation than one
abbrev is_astray : ℕ → ℕ → Awaited → Bool
is_astray used n (mapping buffer last m) = buffer == n && not (last == used)
is_astray used n (work ops) = false

astray_of : (used n : ℕ) (awaited : Awaited) → is_astray used n awaited ≡ true → is_of n awaited ≡ true
astray_of used n (mapping buffer last m) e = (and_parts (buffer == n) (not (last == used)) e).0
astray_of used n (work ops) e = absurd (true≢false (sym e))

own_astray : (past : Past) (event : Event) (answer : Answer) (n : ℕ) → list_any (λ (w : Wait). is_astray (max (if is_used past event n then unwrap_or (op_of answer) 0 else 0) (last_use past n)) n w.awaited) (promised past (effects_of event).form) ≡ false
own_astray past (MapAsync buffer mode offset size) answer n = by_same (buffer.number == n) refl
  where
    by_same : (b : Bool) → (buffer.number == n) ≡ b → ((b && not (last_use past buffer.number == max 0 (last_use past n))) || false) ≡ false
    by_same true e = ap (λ b. not b || false) (eq-eqb (last_use past buffer.number) (max 0 (last_use past n)) (ap (last_use past) (eqb-true buffer.number n e) ∙ sym (zero-max (last_use past n))))
    by_same false e = refl
own_astray past _ answer n = refl

none_astray : (setup : Setup) (past : Past) (n : ℕ) → IsRun setup past → AreRecorded past → list_any (λ (w : Wait). is_astray (last_use past n) n w.awaited) (awaiting past) ≡ false
none_astray setup [] n run kept = refl
none_astray setup (entry ∷ older) n run kept =
    any_unsettled (λ (w : Wait). is_astray (last_use (entry ∷ older) n) n w.awaited) entry.reply.settled (awaiting older ++ promised older (effects_of entry.event).form)
    (any_both (λ (w : Wait). is_astray (last_use (entry ∷ older) n) n w.awaited) (awaiting older) (promised older (effects_of entry.event).form)
    (by_pending (is_pending older n) refl (none_astray setup older n (others setup entry older run) kept.1))
    (own_astray older entry.event entry.reply.answer n))
  where
    by_pending : (b : Bool) → is_pending older n ≡ b → list_any (λ (w : Wait). is_astray (last_use older n) n w.awaited) (awaiting older) ≡ false
        → list_any (λ (w : Wait). is_astray (last_use (entry ∷ older) n) n w.awaited) (awaiting older) ≡ false
    by_pending true pends before =
        ap (λ used. list_any (λ (w : Wait). is_astray used n w.awaited) (awaiting older)) (ap (λ k. max k (last_use older n)) (pending_unused setup entry older n run kept.1 pends) ∙ zero-max (last_use older n)) ∙ before
    by_pending false idle before =
        none_either (is_map_of n) (is_map_of n) (λ (w : Wait). is_astray (last_use (entry ∷ older) n) n w.awaited) (λ w e. or_left (is_map_of n w) (is_map_of n w) (astray_of (last_use (entry ∷ older) n) n w.awaited e)) (awaiting older) idle idle

all_last : (past : Past) (ws : List Wait) → ((n : ℕ) → list_any (λ (w : Wait). is_astray (last_use past n) n w.awaited) ws ≡ false) → All (λ (wait : Wait). IsLastUse past wait.awaited) ws
all_last past [] none = All-nil (λ (wait : Wait). IsLastUse past wait.awaited)
all_last past (w ∷ ws) none =
    All-cons (λ (wait : Wait). IsLastUse past wait.awaited) w ws
    (one w.awaited (λ n. or_first (is_astray (last_use past n) n w.awaited) _ (none n)))
    (all_last past ws (λ n. was_not (is_astray (last_use past n) n w.awaited) _ (none n)))
  where
    by_same : (last used : ℕ) (b : Bool) → (last == used) ≡ b → not b ≡ false → last ≡ used
    by_same last used true e same = eqb-true last used e
    by_same last used false e same = absurd (true≢false same)

    one : (awaited : Awaited) → ((n : ℕ) → is_astray (last_use past n) n awaited ≡ false) → IsLastUse past awaited
    one (mapping buffer last m) spared = by_same last (last_use past buffer) (last == last_use past buffer) refl (sym (ap (λ b. b && not (last == last_use past buffer)) (eq-eqb buffer buffer refl)) ∙ spared buffer)
    one (work ops) spared = tt

pub maps_wait_for_last : MapsWaitForLast
maps_wait_for_last setup history run kept = all_last (reverse history) (awaiting (reverse history)) (λ n. none_astray setup (reverse history) n run kept)
