-- What holds of the steps of queue writes, host accesses and recordings holds of the steps of an entry.
use Rattle.std.proofs.Common.{ℕ, Bool, true, false, List, [], ◌∷◌, ◌++◌, length, Option, Some, None, is_none, option_and_then, map, sym, subst, if◌then◌else◌}
use Rattle.std.specs.List.{flat_map}
use Rattle.wg_types.specs.declared.handles.ObjRef.{ObjRef}
use Rattle.wg_types.specs.declared.mappings.Mapping.{Mapping}
use Rattle.wg_types.specs.declared.mappings.MapMode.{MapMode}
use Rattle.wg_types.specs.declared.mappings.MapMode.TheVariants.{Read as ReadMode, Write as WriteMode}
use Rattle.wg_trace.specs.declared.replies.Settlement.{Settlement}
use Rattle.wg_types.specs.declared.writes.QueueWrite.{QueueWrite}
use Rattle.wg_trace.specs.declared.steps.StepPlace.TheVariants.{Op, Host}
use Rattle.wg_rows.specs.Rows.{EachRow}
use Rattle.wg_orders.specs.Steps.{Step, StepPlace}
use Rattle.wg_orders.specs.Trace.{steps_in}
use Rattle.wg_model.specs.Recorded.{write_step, host_step}
use Rattle.wg_model.proofs.StepLaws.{each_joined}
use Rattle.wg_history.specs.Entries.{Entry, Past, effects_of}
use Rattle.wg_history.specs.declared.events.Setup.{Setup}
use Rattle.wg_history.specs.Loss.{Awaited, mapping, work, Wait}
use Rattle.wg_history.specs.Rules.{unmap_rule, settles_mapped, waits_of, mapped_at}
use Rattle.wg_history.specs.Answers.{Answer, Queued}
use Rattle.wg_history.specs.Steps.{group_of, write_groups, steps_at, written_back, read_back, unmap_groups, read_groups, host_groups}
use Rattle.wg_history.proofs.Declared.{steps_in_append}

-- of a step, if there is one, and of all steps of groups
abbrev pub If : (Step → Type 0) → Option Step → Type 0
If P None = Unit {0}
If P (Some step) = P step

abbrev pub Each : (Step → Type 0) → List (List Step) → Type 0
Each P groups = EachRow P (steps_in groups)

pub group_each : (P : Step → Type 0) (o : Option Step) → If P o → Each P (group_of o)
group_each P None h = tt
group_each P (Some step) h = (h, tt)

pub both_each : (P : Step → Type 0) (a b : List (List Step)) → Each P a → Each P b → Each P (a ++ b)
both_each P a b h k = subst (EachRow P) (sym (steps_in_append a b)) (each_joined P (steps_in a) (steps_in b) h k)

-- of queue writes and host accesses
abbrev pub Writes : (Step → Type 0) → Type 0
Writes P = (place : StepPlace) (write : QueueWrite) → If P (write_step place write)

abbrev pub Hosts : (Step → Type 0) → Type 0
Hosts P = (place : StepPlace) (buffer : ℕ) (m : Mapping) → If P (host_step place buffer m)

pub writes_each : (P : Step → Type 0) → Writes P → (answer : Answer) (write : QueueWrite) → Each P (write_groups answer write)
unfolding write_groups
writes_each P h (Queued op) write = group_each P (write_step (Op op) write) (h (Op op) write)
writes_each P h _ write = tt

written_each : (P : Step → Type 0) → Hosts P → (mode : MapMode) (place : StepPlace) (buffer : ℕ) (m : Mapping) → If P (written_back mode place buffer m)
written_each P h WriteMode place buffer m = h place buffer m
written_each P h ReadMode place buffer m = tt

read_each : (P : Step → Type 0) → Hosts P → (mode : MapMode) (place : StepPlace) (buffer : ℕ) (m : Mapping) → If P (read_back mode place buffer m)
read_each P h ReadMode place buffer m = h place buffer m
read_each P h WriteMode place buffer m = tt

unmap_each : (P : Step → Type 0) → Hosts P → (setup : Setup) (past : Past) (o : Option ObjRef) → Each P (unmap_groups setup past o)
unmap_each P h setup past None = tt
unmap_each P h setup past (Some buffer) = by_rule (is_none (unmap_rule setup past buffer))
  where
    by_mapping : (o : Option Mapping) → Each P (group_of (option_and_then (λ m. written_back m.mode (Host (length past)) buffer.number m) o))
    by_mapping None = tt
    by_mapping (Some m) = group_each P (written_back m.mode (Host (length past)) buffer.number m) (written_each P h m.mode (Host (length past)) buffer.number m)

    by_rule : (b : Bool) → Each P (if b then group_of (option_and_then (λ m. written_back m.mode (Host (length past)) buffer.number m) (mapped_at setup past buffer.number)) else [])
    by_rule true = by_mapping (mapped_at setup past buffer.number)
    by_rule false = tt

one_read : (P : Step → Type 0) → Hosts P → (at : ℕ) (settled : List Settlement) (promise : ℕ) (awaited : Awaited) → Each P (read_groups at settled promise awaited)
one_read P h at settled promise (work ops) = tt
one_read P h at settled promise (mapping buffer last m) = by_test (settles_mapped settled promise)
  where
    by_test : (b : Bool) → Each P (if b then group_of (read_back m.mode (Host at) buffer m) else [])
    by_test true = group_each P (read_back m.mode (Host at) buffer m) (read_each P h m.mode (Host at) buffer m)
    by_test false = tt

reads_each : (P : Step → Type 0) → Hosts P → (at : ℕ) (settled : List Settlement) (waits : List Wait) → Each P (flat_map (λ (wait : Wait). read_groups at settled wait.promise wait.awaited) waits)
reads_each P h at settled [] = tt
reads_each P h at settled (wait ∷ waits) =
    both_each P (read_groups at settled wait.promise wait.awaited) (flat_map (λ (w : Wait). read_groups at settled w.promise w.awaited) waits) (one_read P h at settled wait.promise wait.awaited) (reads_each P h at settled waits)

pub hosts_each : (P : Step → Type 0) → Hosts P → (setup : Setup) (past : Past) (entry : Entry) → Each P (host_groups setup past entry)
hosts_each P h setup past entry =
    both_each P (unmap_groups setup past (effects_of entry.event).unmapped) (flat_map (λ (wait : Wait). read_groups (length past) entry.reply.settled wait.promise wait.awaited) (waits_of entry past))
    (unmap_each P h setup past (effects_of entry.event).unmapped) (reads_each P h (length past) entry.reply.settled (waits_of entry past))

-- of submits
pub listed_each : (P : Step → Type 0) (past : Past) (op : ℕ) (buffers : List ObjRef) → EachRow (λ (buffer : ObjRef). EachRow P (steps_at (Op op) past buffer.number)) buffers
    → Each P (map (λ buffer. steps_at (Op op) past buffer.number) buffers)
listed_each P past op [] h = tt
listed_each P past op (buffer ∷ buffers) h =
    each_joined P (steps_at (Op op) past buffer.number) (steps_in (map (λ buffer. steps_at (Op op) past buffer.number) buffers)) h.0 (listed_each P past op buffers h.1)
