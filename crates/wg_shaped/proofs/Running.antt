-- No step of a history gives a cell twice whose replies are the right ones.
use Rattle.std.specs.Prelude.{reverse}
use Rattle.std.specs.Option.{option_or, option_map_or}
use Rattle.std.proofs.Common.{◌≡◌, ℕ, ◌+◌, ◌==◌, ◌&&◌, not, List, [], ◌∷◌, ◌++◌, map, Bool, true, false, Option, Some, None, is_none, refl, sym, subst, if◌then◌else◌, true≢false}
use Rattle.std.proofs.lemmas.Bool.{and_parts}
use Rattle.wg_types.specs.declared.handles.ObjRef.{ObjRef}
use Rattle.wg_types.specs.declared.mappings.Mapping.{Mapping}
use Rattle.wg_types.specs.declared.writes.QueueWrite.{QueueWrite}
use Rattle.wg_types.specs.declared.writes.QueueWrite.TheVariants.{Buffer as BufferWrite, Texture as TextureWrite}
use Rattle.wg_trace.specs.declared.steps.StepName.TheVariants as name
use Rattle.wg_trace.specs.declared.steps.StepPlace.TheVariants.{Op}
use Rattle.wg_rows.specs.Rows.{EachRow}
use Rattle.wg_orders.specs.Steps.{Step, StepPlace}
use Rattle.wg_orders.specs.Trace.{steps_in}
use Rattle.wg_model.specs.Rules.{Rule, first_unmet, AreMet}
use Rattle.wg_model.specs.Scopes.{first_clash}
use Rattle.wg_model.specs.Subresources.{copied_cells, has_no_texel}
use Rattle.wg_model.specs.Touches.{placed, touching, copy_dst_usage, target_kind, range_touches, copied_to}
use Rattle.wg_model.specs.Walk.{Verdict, ScopesOf}
use Rattle.wg_model.specs.Recorded.{write_step, write_buffer_step, write_texture_step, host_name, host_touches, host_step}
use Rattle.wg_model.proofs.Unmet.{all_met}
use Rattle.wg_model.proofs.StepLaws.{each_joined}
use Rattle.wg_history.specs.declared.events.Setup.{Setup}
use Rattle.wg_history.specs.declared.events.Event.{Event}
use Rattle.wg_history.specs.declared.events.Event.TheVariants.{Finish, Submit, WriteBuffer, WriteTexture}
use Rattle.wg_history.specs.Entries.{Entry, Past, deeds_by, effects_of, queue_call}
use Rattle.wg_history.specs.Objects.{is_making, count, maker, is_valid, is_made_valid, known_textures}
use Rattle.wg_history.specs.Loss.{is_lost}
use Rattle.wg_history.specs.Rules.{encoder_rules, recording_rules, finish_rule, listed_rules, together_rules, submit_list, submit_rule}
use Rattle.wg_history.specs.FirstRules.{first_rule}
use Rattle.wg_trace.specs.declared.replies.Reply.{Reply}
use Rattle.wg_history.specs.Operations.{issued}
use Rattle.wg_history.specs.Answers.{IsRun, answer_by, reply_to, Queued, Plain}
use Rattle.wg_history.specs.Steps.{steps_at, submit_groups, groups_in, host_groups, groups_of, steps_back}
use Rattle.wg_history.proofs.Makers.{made_met}
use Rattle.wg_history.proofs.Runs.{newest, others}
use Rattle.wg_readback.specs.Shapes.{IsOnceStep}
use Rattle.wg_shaped.specs.Once.{HistoryIsOnce}
use Rattle.wg_shaped.proofs.Genuine.{or_none, accepted_fair}
use Rattle.wg_shaped.proofs.Fitting.{map_agree, step_once}
use Rattle.wg_shaped.proofs.Recorded.{recorded_are_once}
use Rattle.wg_shaped.proofs.Groups.{If, Each, both_each, writes_each, hosts_each, listed_each}

-- queue writes and host accesses
by_size : (b : Bool) (step : Step) → IsOnceStep step → If IsOnceStep (if b then None else Some step)
by_size true step h = tt
by_size false step h = h

write_once : (place : StepPlace) (write : QueueWrite) → If IsOnceStep (write_step place write)
write_once place (BufferWrite buffer offset size) = by_size (size == 0) (write_buffer_step place buffer.number offset size) (step_once place (name.WriteBuffer, range_touches buffer.number offset size) (tt, tt))
write_once place (TextureWrite texture info spot layout size) =
    by_size (has_no_texel size) (write_texture_step place texture.number info spot size) (step_once place (name.WriteTexture, copied_to texture.number info spot size) (map_agree (copy_dst_usage, target_kind info spot size) (copied_cells texture.number info spot size)))

host_once : (place : StepPlace) (buffer : ℕ) (m : Mapping) → If IsOnceStep (host_step place buffer m)
host_once place buffer m = by_size (m.lo == m.hi) (touching place (host_name m.mode) (host_touches buffer m)) (step_once place (host_name m.mode, host_touches buffer m) (tt, tt))

-- a recording that was accepted
none_is : {A : Type 0} (o : Option A) → is_none o ≡ true → o ≡ None
none_is None e = refl
none_is (Some x) e = absurd (true≢false (sym e))

event_once : (setup : Setup) (older : Past) (place : StepPlace) (event : Event) → IsRun setup older
    → is_made_valid (answer_by older (effects_of event).form (not (is_lost older) && is_none (first_rule setup older event))) ≡ true → EachRow IsOnceStep (map (placed place) (deeds_by event))
unfolding finish_rule
event_once setup older place (Finish encoder recording) run made =
    let rules : is_none (finish_rule setup older encoder recording) ≡ true = (and_parts (not (is_lost older)) (is_none (finish_rule setup older encoder recording)) made).1 in
    let later = or_none (first_unmet (encoder_rules setup older _ encoder)) (option_or (Verdict recording.maker recording.targets recording.commands) (first_unmet (recording_rules setup older encoder.number recording))) rules in
    let last = or_none (Verdict recording.maker recording.targets recording.commands) (first_unmet (recording_rules setup older encoder.number recording)) later.1 in
    let met : AreMet (recording_rules setup older encoder.number recording) = all_met (recording_rules setup older encoder.number recording) last.1 in
    recorded_are_once place recording.maker recording.targets recording.commands (accepted_fair setup older encoder.number recording.commands run met.1.1.0) (none_is (first_clash (ScopesOf recording.maker recording.targets recording.commands)) met.1.1.1.0)
event_once setup older place _ run made = tt

made_once : (setup : Setup) (past : Past) (place : StepPlace) (n : ℕ) → IsRun setup past → is_valid past n ≡ true
    → EachRow IsOnceStep (map (placed place) (option_map_or (λ entry. deeds_by entry.event) (maker past n) []))
made_once setup [] place n run valid = tt
made_once setup (entry ∷ older) place n run valid = by_maker (is_making entry.event && count older == n) valid (made_once setup older place n (others setup entry older run))
  where
    by_maker : (b : Bool) → option_map_or (λ entry. is_made_valid entry.reply.answer) (if b then Some entry else maker older n) false ≡ true
        → (is_valid older n ≡ true → EachRow IsOnceStep (map (placed place) (option_map_or (λ entry. deeds_by entry.event) (maker older n) [])))
        → EachRow IsOnceStep (map (placed place) (option_map_or (λ entry. deeds_by entry.event) (if b then Some entry else maker older n) []))
    by_maker true valid rest = event_once setup older place entry.event (others setup entry older run) (made_met setup entry older (newest setup entry older run) valid)
    by_maker false valid rest = rest valid

-- a submit that was accepted
met_front : (xs ys : List Rule) → AreMet (xs ++ ys) → AreMet xs
met_front [] ys h = tt
met_front (x ∷ xs) ys h = (h.0, met_front xs ys h.1)

listed_once : (setup : Setup) (past : Past) (op : ℕ) (buffers : List ObjRef) → IsRun setup past → AreMet (listed_rules setup past buffers)
    → EachRow (λ (buffer : ObjRef). EachRow IsOnceStep (steps_at (Op op) past buffer.number)) buffers
listed_once setup past op [] run met = tt
listed_once setup past op (buffer ∷ buffers) run met =
    (made_once setup past (Op op) buffer.number run met.1.1.0, listed_once setup past op buffers run met.1.1.1)

event_groups : (setup : Setup) (past : Past) (event : Event) → IsRun setup past
    → Each IsOnceStep (groups_in past (answer_by past (effects_of event).form (not (is_lost past) && is_none (first_rule setup past event))) (queue_call (known_textures past) event))
unfolding submit_rule submit_groups
event_groups setup past (Submit buffers) run = by_done (not (is_lost past) && is_none (submit_rule setup past buffers)) refl
  where
    by_done : (b : Bool) → not (is_lost past) && is_none (submit_rule setup past buffers) ≡ b → Each IsOnceStep (submit_groups past (if b then Queued (issued past + 1) else Plain) buffers)
    by_done true e =
        listed_each IsOnceStep past (issued past + 1) buffers
        (listed_once setup past (issued past + 1) buffers run
        (met_front (listed_rules setup past buffers) (together_rules setup past buffers) (all_met (submit_list setup past buffers) (and_parts (not (is_lost past)) (is_none (submit_rule setup past buffers)) e).1)))
    by_done false e = tt
event_groups setup past (WriteBuffer buffer offset size) run = writes_each IsOnceStep write_once _ _
event_groups setup past (WriteTexture texture spot layout size data_size) run = writes_each IsOnceStep write_once _ _
event_groups setup past _ run = tt

entry_once : (setup : Setup) (past : Past) (entry : Entry) → entry.reply ≡ reply_to setup past entry.event → IsRun setup past → Each IsOnceStep (groups_of setup past entry)
entry_once setup past entry right run =
    both_each IsOnceStep (groups_in past entry.reply.answer (queue_call (known_textures past) entry.event)) (host_groups setup past entry)
    (subst (λ (reply : Reply). Each IsOnceStep (groups_in past reply.answer (queue_call (known_textures past) entry.event))) (sym right) (event_groups setup past entry.event run))
    (hosts_each IsOnceStep host_once setup past entry)

past_once : (setup : Setup) (past : Past) → IsRun setup past → EachRow IsOnceStep (steps_back setup past)
past_once setup [] run = tt
past_once setup (entry ∷ older) run =
    each_joined IsOnceStep (steps_back setup older) (steps_in (groups_of setup older entry)) (past_once setup older (others setup entry older run))
    (entry_once setup older entry (newest setup entry older run) (others setup entry older run))

pub history_is_once : HistoryIsOnce
history_is_once setup history run = past_once setup (reverse history) run
