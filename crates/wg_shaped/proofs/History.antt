-- The steps of a history have no empty row and no empty set, and its trace has its shape.
use Rattle.std.proofs.Common.{ℕ, List, [], ◌∷◌, Option, Some, None, map, reverse, sym, subst}
use Rattle.std.specs.Option.{option_map_or}
use Rattle.wg_types.specs.declared.handles.ObjRef.{ObjRef}
use Rattle.wg_trace.specs.declared.steps.StepPlace.TheVariants.{Op}
use Rattle.wg_rows.specs.Rows.{EachRow}
use Rattle.wg_orders.specs.Steps.{Step, StepPlace}
use Rattle.wg_orders.specs.Trace.{steps_in, trace_of}
use Rattle.wg_model.specs.Touches.{placed}
use Rattle.wg_model.specs.Walk.{DeedsOf}
use Rattle.wg_model.proofs.StepLaws.{each_joined}
use Rattle.wg_encoder.specs.Recorders.{RecordingValue}
use Rattle.wg_history.specs.Entries.{Entry, Past, recording_in, deeds_by, QueueCall, no_call, submitting, writing, queue_call}
use Rattle.wg_history.specs.declared.events.Setup.{Setup}
use Rattle.wg_history.specs.Objects.{maker, known_textures}
use Rattle.wg_history.specs.Answers.{Answer, Queued}
use Rattle.wg_history.specs.Steps.{steps_at, submit_groups, groups_in, host_groups, groups_of, steps_back}
use Rattle.wg_history.specs.Traces.{Trace, works}
use Rattle.wg_history.proofs.Every.{trace_works, steps_works}
use Rattle.wg_readback.specs.Shapes.{IsFilledStep, IsOnceStep, IsShapedStep, IsShaped}
use Rattle.wg_readback.proofs.Shaping.{trace_is_shaped}
use Rattle.wg_readback.proofs.Reports.{report_reads_back}
use Rattle.wg_shaped.specs.Reports.{told}
use Rattle.wg_shaped.specs.Shaped.{StepsAreFilled, HistoryIsShaped, HistoryReadsBack}
use Rattle.wg_shaped.proofs.Running.{history_is_once}
use Rattle.wg_shaped.proofs.Groups.{Each, both_each, writes_each, hosts_each, listed_each}
use Rattle.wg_shaped.proofs.Touched.{write_filled, host_filled, recorded_filled}

made_filled : (place : StepPlace) (o : Option Entry) → EachRow IsFilledStep (map (placed place) (option_map_or (λ entry. deeds_by entry.event) o []))
made_filled place None = tt
made_filled place (Some entry) = by_recording (recording_in entry.event)
  where
    by_recording : (o : Option RecordingValue) → EachRow IsFilledStep (map (placed place) (option_map_or (λ (recording : RecordingValue). DeedsOf recording.maker recording.targets recording.commands) o []))
    by_recording None = tt
    by_recording (Some recording) = recorded_filled place recording.maker recording.targets recording.commands

all_filled : (past : Past) (op : ℕ) (buffers : List ObjRef) → EachRow (λ (buffer : ObjRef). EachRow IsFilledStep (steps_at (Op op) past buffer.number)) buffers
all_filled past op [] = tt
all_filled past op (buffer ∷ buffers) = (made_filled (Op op) (maker past buffer.number), all_filled past op buffers)

submits_filled : (past : Past) (answer : Answer) (buffers : List ObjRef) → Each IsFilledStep (submit_groups past answer buffers)
unfolding submit_groups
submits_filled past (Queued op) buffers = listed_each IsFilledStep past op buffers (all_filled past op buffers)
submits_filled past _ buffers = tt

called_filled : (past : Past) (answer : Answer) (call : QueueCall) → Each IsFilledStep (groups_in past answer call)
called_filled past answer (submitting buffers) = submits_filled past answer buffers
called_filled past answer (writing target write) = writes_each IsFilledStep write_filled answer write
called_filled past answer no_call = tt

entry_filled : (setup : Setup) (past : Past) (entry : Entry) → Each IsFilledStep (groups_of setup past entry)
entry_filled setup past entry =
    both_each IsFilledStep (groups_in past entry.reply.answer (queue_call (known_textures past) entry.event)) (host_groups setup past entry)
    (called_filled past entry.reply.answer (queue_call (known_textures past) entry.event)) (hosts_each IsFilledStep host_filled setup past entry)

-- all of them
past_filled : (setup : Setup) (past : Past) → EachRow IsFilledStep (steps_back setup past)
past_filled setup [] = tt
past_filled setup (entry ∷ older) = each_joined IsFilledStep (steps_back setup older) (steps_in (groups_of setup older entry)) (past_filled setup older) (entry_filled setup older entry)

pub steps_are_filled : StepsAreFilled
steps_are_filled setup history = past_filled setup (reverse history)

both_of_each : (steps : List Step) → EachRow IsFilledStep steps → EachRow IsOnceStep steps → EachRow IsShapedStep steps
both_of_each [] h k = tt
both_of_each (step ∷ steps) h k = ((h.0, k.0), both_of_each steps h.1 k.1)

past_shaped : (setup : Setup) (past : Past) → EachRow IsOnceStep (steps_back setup past) → IsShaped (trace_of (works setup past))
past_shaped setup past h = trace_is_shaped (works setup past) (subst (EachRow IsShapedStep) (sym (steps_works setup past)) (both_of_each (steps_back setup past) (past_filled setup past) h))

pub history_is_shaped : HistoryIsShaped
history_is_shaped setup history run = subst IsShaped (trace_works setup (reverse history)) (past_shaped setup (reverse history) (history_is_once setup history run))

pub history_reads_back : HistoryReadsBack
history_reads_back setup history run small steps =
    report_reads_back (map told history) (Trace setup history) (record { shaped = history_is_shaped setup history run; small = small; steps = steps })
