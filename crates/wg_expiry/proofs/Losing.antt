-- What is answered and added on a lost device, and by an event that has a fault.
use Rattle.std.proofs.Common.{◌≡◌, ℕ, List, [], ◌∷◌, ◌++◌, map, reverse, filter, Bool, true, false, not, ◌&&◌, ◌||◌, ◌==◌, Option, Some, None, is_none, is_some, option_and_then, length, refl, ap, ap₂, sym, subst, ◌∙◌, append-nil, if◌then◌else◌, true≢false}
use Rattle.std.specs.List.{list_any, flat_map}
use Rattle.wg_types.specs.declared.handles.ObjRef.{ObjRef}
use Rattle.wg_trace.specs.declared.replies.Answer.{Answer}
use Rattle.wg_trace.specs.declared.replies.Answer.TheVariants.{Made, Queued, Promised, Plain, BadCompletion}
use Rattle.wg_trace.specs.declared.replies.Reply.{Reply}
use Rattle.wg_trace.specs.declared.replies.Settlement.{Settlement}
use Rattle.wg_types.specs.declared.writes.QueueWrite.{QueueWrite}
use Rattle.wg_trace.specs.declared.steps.StepPlace.TheVariants.{Host}
use Rattle.wg_orders.specs.Steps.{Step}
use Rattle.wg_orders.specs.Trace.{free, add_groups}
use Rattle.wg_history.specs.declared.events.Setup.{Setup}
use Rattle.wg_history.specs.declared.events.Event.{Event}
use Rattle.wg_history.specs.declared.events.Event.TheVariants.{Complete, PopErrorScope, Lose, WorkDone, Unmap}
use Rattle.wg_history.specs.declared.events.Form.{Form}
use Rattle.wg_history.specs.declared.events.Form.TheVariants.{Making, Queue, Promise as Promising, Completion, Plain as Plainly}
use Rattle.wg_history.specs.declared.events.Promise.TheVariants.{WorkDone as ForWork, ScopeError as ForError, Map as ForMap}
use Rattle.wg_history.specs.Entries.{effects_of, QueueCall, no_call, submitting, writing, queue_call, Entry, Past}
use Rattle.wg_history.specs.Objects.{count, is_making_form, known_textures}
use Rattle.wg_history.specs.Operations.{is_queued}
use Rattle.wg_history.specs.Rules.{is_mapped_how, settles_mapped, waits_of, mapped_at}
use Rattle.wg_history.specs.FirstRules.{first_rule}
use Rattle.wg_history.specs.Loss.{is_lost, Awaited, mapping, work, Wait, awaiting, is_map_of}
use Rattle.wg_history.specs.Answers.{fault_by, is_taken, answer_by, settle_all, ended_how, kept_how, is_kept, either, settled_in, settled_by, reply_to, IsRun, Run}
use Rattle.wg_history.specs.Steps.{group_of, write_groups, submit_groups, groups_in, written_back, read_back, read_groups, groups_of}
use Rattle.wg_history.specs.Releases.{freed}
use Rattle.wg_history.specs.Traces.{Trace}
use Rattle.wg_history.proofs.Awaiting.{awaiting_lost}
use Rattle.wg_history.proofs.Goes.{trace_goes_on}
use Rattle.wg_expiry.specs.Lost.{AddsGroups, AddsReleases, IsLostReply, host_writes, LostReplies, LostWritesBack, FaultyReleases}

-- ---- answers

not_done : (lost met : Bool) → lost ≡ true → (not lost && met) ≡ false
not_done true met e = refl
not_done false met e = absurd (true≢false (sym e))

-- What is not done makes an invalid object, and queues nothing.
undone_invalid : (past : Past) (form : Form) → is_making_form form ≡ true → answer_by past form false ≡ Made (count past) false
undone_invalid past Making e = refl
undone_invalid past Queue e = absurd (true≢false (sym e))
undone_invalid past (Promising promise) e = absurd (true≢false (sym e))
undone_invalid past (Completion op) e = absurd (true≢false (sym e))
undone_invalid past Plainly e = absurd (true≢false (sym e))

undone_unqueued : (past : Past) (form : Form) → is_queued (answer_by past form false) ≡ false
undone_unqueued past Making = refl
undone_unqueued past Queue = refl
undone_unqueued past (Promising promise) = refl
undone_unqueued past (Completion op) = by_taken (is_taken past op)
  where
    by_taken : (b : Bool) → is_queued (if b then Plain else BadCompletion) ≡ false
    by_taken true = refl
    by_taken false = refl
undone_unqueued past Plainly = refl

lost_answer : (setup : Setup) (past : Past) (event : Event) → is_lost past ≡ true → (reply_to setup past event).answer ≡ answer_by past (effects_of event).form false
lost_answer setup past event lost = ap (answer_by past (effects_of event).form) (not_done (is_lost past) (is_none (first_rule setup past event)) lost)

lost_unqueued : (setup : Setup) (past : Past) (event : Event) → is_lost past ≡ true → is_queued (reply_to setup past event).answer ≡ false
lost_unqueued setup past event lost = ap is_queued (lost_answer setup past event lost) ∙ undone_unqueued past (effects_of event).form

pub lost_replies : LostReplies
lost_replies setup past event lost = record {
  invalid = λ making. lost_answer setup past event lost ∙ undone_invalid past (effects_of event).form making;
  faultless = ap (λ (b : Bool). fault_by past b (first_rule setup past event)) lost;
  unqueued = lost_unqueued setup past event lost;
}

-- ---- settlements that map nothing

abbrev maps_some : List Settlement → Bool
maps_some settled = list_any (λ (s : Settlement). is_mapped_how s.how) settled

none_mapped : (settled : List Settlement) (promise : ℕ) → maps_some settled ≡ false → settles_mapped settled promise ≡ false
none_mapped [] promise e = refl
none_mapped (s ∷ settled) promise e = by_first (is_mapped_how s.how) (s.promise == promise) e (none_mapped settled promise)
  where
    by_first : (b same : Bool) → (b || maps_some settled) ≡ false → (maps_some settled ≡ false → settles_mapped settled promise ≡ false) → ((same && b) || settles_mapped settled promise) ≡ false
    by_first true same e rest = absurd (true≢false e)
    by_first false true e rest = rest e
    by_first false false e rest = rest e

ended_map_none : (waits : List Wait) → maps_some (settle_all ended_how waits) ≡ false
ended_map_none [] = refl
ended_map_none (wait ∷ waits) = ap₂ ◌||◌ (by_awaited wait.awaited) (ended_map_none waits)
  where
    by_awaited : (awaited : Awaited) → is_mapped_how (ended_how awaited) ≡ false
    by_awaited (mapping buffer last m) = refl
    by_awaited (work ops) = refl

-- on a lost device
plainly_map_none : (past : Past) (loses met : Bool) (unmapped : Option ObjRef) → maps_some (settled_in past Plainly loses unmapped true met) ≡ false
plainly_map_none past true met unmapped = refl
plainly_map_none past false met None = refl
plainly_map_none past false true (Some buffer) = ended_map_none (filter (is_map_of buffer.number) (awaiting past))
plainly_map_none past false false (Some buffer) = refl

complete_map_none : (past : Past) (op : ℕ) (waits : List Wait) → waits ≡ [] → (b : Bool) → maps_some (if b then settle_all kept_how (filter (is_kept op) waits) else []) ≡ false
complete_map_none past op waits none true = ap (λ (ws : List Wait). maps_some (settle_all kept_how (filter (is_kept op) ws))) none
complete_map_none past op waits none false = refl

lost_form_maps : (past : Past) (form : Form) (loses met : Bool) (unmapped : Option ObjRef) → awaiting past ≡ [] → maps_some (settled_in past form loses unmapped true met) ≡ false
lost_form_maps past Making loses met unmapped none = refl
lost_form_maps past Queue loses met unmapped none = refl
lost_form_maps past (Promising ForWork) loses met unmapped none = refl
lost_form_maps past (Promising ForError) loses met unmapped none = refl
lost_form_maps past (Promising (ForMap buffer mode offset size)) loses met unmapped none = refl
lost_form_maps past (Completion op) loses met unmapped none = complete_map_none past op (awaiting past) none (is_taken past op)
lost_form_maps past Plainly loses met unmapped none = plainly_map_none past loses met unmapped

lost_maps_none : (setup : Setup) (past : Past) (event : Event) → IsRun setup past → is_lost past ≡ true → maps_some (reply_to setup past event).settled ≡ false
lost_maps_none setup past event run lost =
    ap (λ (b : Bool). maps_some (settled_by past (effects_of event) b (is_none (first_rule setup past event)))) lost
    ∙ lost_form_maps past (effects_of event).form (effects_of event).loses (is_none (first_rule setup past event)) (either (effects_of event).unmapped (effects_of event).destroyed) (awaiting_lost setup past run lost)

-- by an event that has an unmet rule
unmet_maps_none : (setup : Setup) (past : Past) (event : Event) → is_none (first_rule setup past event) ≡ false → maps_some (settled_by past (effects_of event) false false) ≡ false
unmet_maps_none setup past (Complete op) unmet = absurd (true≢false unmet)
unmet_maps_none setup past PopErrorScope unmet = absurd (true≢false unmet)
unmet_maps_none setup past WorkDone unmet = absurd (true≢false unmet)
unmet_maps_none setup past Lose unmet = absurd (true≢false unmet)
unmet_maps_none setup past event unmet = refl

-- ---- groups of steps

no_write : (answer : Answer) (write : QueueWrite) → is_queued answer ≡ false → write_groups answer write ≡ []
unfolding write_groups
no_write (Queued op) write e = absurd (true≢false e)
no_write (Made number valid) write e = refl
no_write Promised write e = refl
no_write Plain write e = refl
no_write BadCompletion write e = refl

no_submit : (past : Past) (answer : Answer) (buffers : List ObjRef) → is_queued answer ≡ false → submit_groups past answer buffers ≡ []
unfolding submit_groups
no_submit past (Queued op) buffers e = absurd (true≢false e)
no_submit past (Made number valid) buffers e = refl
no_submit past Promised buffers e = refl
no_submit past Plain buffers e = refl
no_submit past BadCompletion buffers e = refl

-- What queues no operation makes no step of a command buffer or a write,
no_queued : (past : Past) (answer : Answer) (call : QueueCall) → is_queued answer ≡ false → groups_in past answer call ≡ []
no_queued past answer no_call e = refl
no_queued past answer (submitting buffers) e = no_submit past answer buffers e
no_queued past answer (writing target write) e = no_write answer write e

-- and settlements that map nothing make no host read.
no_read : (at : ℕ) (settled : List Settlement) (promise : ℕ) (awaited : Awaited) → maps_some settled ≡ false → read_groups at settled promise awaited ≡ []
no_read at settled promise (mapping buffer last m) e = ap (λ (b : Bool). if b then group_of (read_back m.mode (Host at) buffer m) else []) (none_mapped settled promise e)
no_read at settled promise (work ops) e = refl

no_reads : (at : ℕ) (settled : List Settlement) (waits : List Wait) → maps_some settled ≡ false → flat_map (λ (wait : Wait). read_groups at settled wait.promise wait.awaited) waits ≡ []
no_reads at settled [] e = refl
no_reads at settled (wait ∷ waits) e = ap₂ ◌++◌ (no_read at settled wait.promise wait.awaited e) (no_reads at settled waits e)

-- So an entry has the groups of its unmap alone.
unmap_alone : (setup : Setup) (past : Past) (entry : Entry) → is_queued entry.reply.answer ≡ false → maps_some entry.reply.settled ≡ false → groups_of setup past entry ≡ host_writes setup past entry.event
unmap_alone setup past entry unqueued unmapped =
    ap₂ ◌++◌ (no_queued past entry.reply.answer (queue_call (known_textures past) entry.event) unqueued)
    (ap (λ (reads : List (List Step)). host_writes setup past entry.event ++ reads) (no_reads (length past) entry.reply.settled (waits_of entry past) unmapped))
    ∙ append-nil (host_writes setup past entry.event)

pub lost_writes_back : LostWritesBack
lost_writes_back setup history entry run same lost = record {
  released = freed setup (entry ∷ reverse history);
  grown =
      trace_goes_on setup history entry
      ∙ ap (λ (groups : List (List Step)). add_groups (Trace setup history) groups ++ map free (freed setup (entry ∷ reverse history)))
      (unmap_alone setup (reverse history) entry
      (ap (λ (reply : Reply). is_queued reply.answer) same ∙ lost_unqueued setup (reverse history) entry.event lost)
      (ap (λ (reply : Reply). maps_some reply.settled) same ∙ lost_maps_none setup (reverse history) entry.event run lost));
}

-- ---- faults

-- A fault is of an unmet rule, on a device that is not lost.
fault_unmet : (past : Past) (lost : Bool) (rule : Option ℕ) → is_some (fault_by past lost rule) ≡ true → (lost ≡ false) × (is_none rule ≡ false)
fault_unmet past true rule e = absurd (true≢false (sym e))
fault_unmet past false None e = absurd (true≢false (sym e))
fault_unmet past false (Some k) e = (refl, refl)

not_met : (lost met : Bool) → met ≡ false → (not lost && met) ≡ false
not_met true met e = refl
not_met false met e = e

unmet_unqueued : (setup : Setup) (past : Past) (event : Event) → is_none (first_rule setup past event) ≡ false → is_queued (reply_to setup past event).answer ≡ false
unmet_unqueued setup past event unmet =
    ap (λ (done : Bool). is_queued (answer_by past (effects_of event).form done)) (not_met (is_lost past) (is_none (first_rule setup past event)) unmet)
    ∙ undone_unqueued past (effects_of event).form

unmet_writes_none : (setup : Setup) (past : Past) (event : Event) → is_none (first_rule setup past event) ≡ false → host_writes setup past event ≡ []
unmet_writes_none setup past (Unmap buffer) unmet =
    ap (λ (b : Bool). if b then group_of (option_and_then (λ m. written_back m.mode (Host (length past)) buffer.number m) (mapped_at setup past buffer.number)) else []) unmet
unmet_writes_none setup past event unmet = refl

faulty_groups : (setup : Setup) (past : Past) (entry : Entry) → entry.reply ≡ reply_to setup past entry.event → is_some entry.reply.fault ≡ true → groups_of setup past entry ≡ []
faulty_groups setup past entry same faulty =
    let unmet = fault_unmet past (is_lost past) (first_rule setup past entry.event) (sym (ap (λ (reply : Reply). is_some reply.fault) same) ∙ faulty) in
    unmap_alone setup past entry
    (ap (λ (reply : Reply). is_queued reply.answer) same ∙ unmet_unqueued setup past entry.event unmet.1)
    (ap (λ (reply : Reply). maps_some reply.settled) same
    ∙ (ap₂ (λ (lost met : Bool). maps_some (settled_by past (effects_of entry.event) lost met)) unmet.0 unmet.1 ∙ unmet_maps_none setup past entry.event unmet.1))
    ∙ unmet_writes_none setup past entry.event unmet.1

pub faulty_releases : FaultyReleases
faulty_releases setup history entry same faulty = record {
  released = freed setup (entry ∷ reverse history);
  grown =
      trace_goes_on setup history entry
      ∙ ap (λ (groups : List (List Step)). add_groups (Trace setup history) groups ++ map free (freed setup (entry ∷ reverse history)))
      (faulty_groups setup (reverse history) entry same faulty);
}

-- ---- the same of a state that says what it was and what it has become

pub lost_reply : (setup : Setup) (past : Past) (event : Event) (reply : Reply) → reply ≡ reply_to setup past event → is_lost past ≡ true → IsLostReply past event reply
lost_reply setup past event reply same lost = subst (IsLostReply past event) (sym same) (lost_replies setup past event lost)

pub lost_grows : (setup new : Setup) (history after : List Entry) (who : ℕ) (event : Event) (reply : Reply) → Run setup history → reply ≡ reply_to setup (reverse history) event
    → new ≡ setup → after ≡ history ++ record { who = who; event = event; reply = reply } ∷ [] → is_lost (reverse history) ≡ true → AddsGroups (host_writes setup (reverse history) event) (Trace setup history) (Trace new after)
lost_grows setup new history after who event reply run same kept grown lost =
    subst (AddsGroups (host_writes setup (reverse history) event) (Trace setup history)) (sym (ap₂ Trace kept grown))
    (lost_writes_back setup history (record { who = who; event = event; reply = reply }) run same lost)

pub faulty_grows : (setup new : Setup) (history after : List Entry) (who : ℕ) (event : Event) (reply : Reply) → reply ≡ reply_to setup (reverse history) event
    → new ≡ setup → after ≡ history ++ record { who = who; event = event; reply = reply } ∷ [] → is_some reply.fault ≡ true → AddsReleases (Trace setup history) (Trace new after)
faulty_grows setup new history after who event reply same kept grown faulty =
    subst (AddsReleases (Trace setup history)) (sym (ap₂ Trace kept grown)) (faulty_releases setup history (record { who = who; event = event; reply = reply }) same faulty)
