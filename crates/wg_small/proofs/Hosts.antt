-- Host accesses are to buffers that were made, at entries of the history.
use Rattle.std.specs.List.{flat_map, list_any}
use Rattle.std.proofs.Common.{◌≡◌, ℕ, ◌<◌, ◌≤◌, ◌==◌, ◌||◌, not, List, [], ◌∷◌, length, Bool, true, false, nat_lt, Option, Some, None, is_none, option_and_then, refl, sym, ◌∙◌, subst, arith, if◌then◌else◌, true≢false}
use Rattle.std.proofs.lemmas.Bool.{ltb-true, eq-eqb}
use Rattle.wg_rules.specs.declared.TheConstants.{OBJECT_IS_OF_DEVICE, OBJECT_IS_NOT_DROPPED}
use Rattle.wg_types.specs.declared.handles.ObjRef.{ObjRef}
use Rattle.wg_types.specs.declared.mappings.Mapping.{Mapping}
use Rattle.wg_types.specs.declared.mappings.MapMode.{MapMode}
use Rattle.wg_types.specs.declared.mappings.MapMode.TheVariants.{Read as ReadMode, Write as WriteMode}
use Rattle.wg_trace.specs.declared.replies.Reply.{Reply}
use Rattle.wg_trace.specs.declared.replies.Settlement.{Settlement}
use Rattle.wg_trace.specs.declared.replies.How.TheVariants.{Aborted, Rejected}
use Rattle.wg_trace.specs.declared.steps.StepPlace.TheVariants.{Host}
use Rattle.wg_rows.specs.Rows.{EachRow}
use Rattle.wg_orders.specs.Steps.{Step}
use Rattle.wg_model.specs.Touches.{touching}
use Rattle.wg_model.specs.Recorded.{host_name, host_touches, host_step}
use Rattle.wg_model.proofs.Unmet.{all_met}
use Rattle.wg_model.proofs.StepLaws.{each_joined}
use Rattle.wg_history.specs.declared.events.Setup.{Setup}
use Rattle.wg_history.specs.declared.events.Event.{Event}
use Rattle.wg_history.specs.declared.events.Event.TheVariants.{MapAsync, WorkDone}
use Rattle.wg_history.specs.declared.events.Promise.TheVariants.{Map as ForMap}
use Rattle.wg_history.specs.Entries.{effects_of, Entry, Past}
use Rattle.wg_history.specs.Objects.{count, is_own, is_buffer}
use Rattle.wg_history.specs.Loss.{is_lost, Awaited, mapping, work, Wait, promised, awaiting, is_map_of}
use Rattle.wg_history.specs.Rules.{is_dropped, unmap_rule, map_async_list, map_async_rule, settles_mapped, waits_of, mapped_at}
use Rattle.wg_history.specs.Answers.{own_settled, reply_to, IsRun}
use Rattle.wg_history.specs.Steps.{group_of, written_back, read_back, unmap_groups, read_groups, host_groups}
use Rattle.wg_history.proofs.Makers.{own_below}
use Rattle.wg_history.proofs.Mappings.{one_free, pending_new}
use Rattle.wg_history.proofs.Runs.{newest, others}
use Rattle.wg_history.proofs.Tests.{was_not}
use Rattle.wg_shaped.proofs.Groups.{If, Each, group_each, both_each}
use Rattle.wg_small.proofs.Tracing.{IsSaid}
use Rattle.wg_small.proofs.Doings.{doing_has}
use Rattle.wg_small.proofs.Objects.{within, within_closed, within_told, count_le, not_less}

abbrev pub Within : ℕ → Step → Type 0
Within most = IsSaid (within most)

one_host : (most at buffer : ℕ) (m : Mapping) → at < most → buffer < most → If (Within most) (host_step (Host at) buffer m)
one_host most at buffer m early made = by_size (m.lo == m.hi)
  where
    by_size : (b : Bool) → If (Within most) (if b then None else Some (touching (Host at) (host_name m.mode) (host_touches buffer m)))
    by_size true = tt
    by_size false = doing_has (within most) (within_closed most) (within_told most) (Host at) (host_name m.mode, host_touches buffer m) early ((made, λ e. made), tt)

written_within : (most at : ℕ) (mode : MapMode) (buffer : ℕ) (m : Mapping) → at < most → buffer < most → If (Within most) (written_back mode (Host at) buffer m)
written_within most at WriteMode buffer m early made = one_host most at buffer m early made
written_within most at ReadMode buffer m early made = tt

read_within : (most at : ℕ) (mode : MapMode) (buffer : ℕ) (m : Mapping) → at < most → buffer < most → If (Within most) (read_back mode (Host at) buffer m)
read_within most at ReadMode buffer m early made = one_host most at buffer m early made
read_within most at WriteMode buffer m early made = tt

unmap_met : (setup : Setup) (past : Past) (buffer : ObjRef) → is_none (unmap_rule setup past buffer) ≡ true → buffer.number < count past
unfolding unmap_rule
unmap_met setup past buffer e = own_below setup past _ buffer (all_met ((OBJECT_IS_OF_DEVICE, is_own setup past is_buffer buffer) ∷ ((OBJECT_IS_NOT_DROPPED, not (is_dropped setup past buffer.number)) ∷ [])) e).0

unmap_within : (setup : Setup) (past : Past) (most : ℕ) (o : Option ObjRef) → length past < most → Each (Within most) (unmap_groups setup past o)
unmap_within setup past most None early = tt
unmap_within setup past most (Some buffer) early = by_rule (is_none (unmap_rule setup past buffer)) refl
  where
    by_mapping : buffer.number < most → (o : Option Mapping) → Each (Within most) (group_of (option_and_then (λ m. written_back m.mode (Host (length past)) buffer.number m) o))
    by_mapping made None = tt
    by_mapping made (Some m) = group_each (Within most) (written_back m.mode (Host (length past)) buffer.number m) (written_within most (length past) m.mode buffer.number m early made)

    by_rule : (b : Bool) → is_none (unmap_rule setup past buffer) ≡ b → Each (Within most) (if b then group_of (option_and_then (λ m. written_back m.mode (Host (length past)) buffer.number m) (mapped_at setup past buffer.number)) else [])
    by_rule true e = by_mapping (let lt = unmap_met setup past buffer e in let some = count_le past in omega (arith, lt, some, early)) (mapped_at setup past buffer.number)
    by_rule false e = tt

-- A map that is kept is of a buffer that was made.
abbrev OfMade : ℕ → Awaited → Type 0
OfMade made (mapping buffer last m) = buffer < made
OfMade made (work ops) = Unit {0}

abbrev KeptIsOfMade : ℕ → List Settlement → Wait → Type 0
KeptIsOfMade made settled wait = settles_mapped settled wait.promise ≡ true → OfMade made wait.awaited

waits_made : (made : ℕ) (settled : List Settlement) (waits : List Wait) → ((n : ℕ) → made ≤ n → list_any (is_map_of n) waits ≡ false) → EachRow (KeptIsOfMade made settled) waits
waits_made made settled [] none = tt
waits_made made settled (wait ∷ waits) none = ((λ e. by_awaited wait.awaited (λ n le. first_false (is_map_of n wait) (list_any (is_map_of n) waits) (none n le))), waits_made made settled waits (λ n le. was_not (is_map_of n wait) (list_any (is_map_of n) waits) (none n le)))
  where
    first_false : (a b : Bool) → (a || b) ≡ false → a ≡ false
    first_false true b e = e
    first_false false b e = refl

    by_less : (buffer : ℕ) (b : Bool) → nat_lt buffer made ≡ b → ((n : ℕ) → made ≤ n → (buffer == n) ≡ false) → buffer < made
    by_less buffer true e none = ltb-true buffer made e
    by_less buffer false e none = absurd (true≢false (sym (eq-eqb buffer buffer refl) ∙ none buffer (not_less buffer made e)))

    by_awaited : (awaited : Awaited) → ((n : ℕ) → made ≤ n → is_map_of n (record { promise = wait.promise; awaited = awaited }) ≡ false) → OfMade made awaited
    by_awaited (mapping buffer last m) none = by_less buffer (nat_lt buffer made) refl none
    by_awaited (work ops) none = tt

map_met : (setup : Setup) (past : Past) (buffer : ObjRef) (mode offset size : ℕ) → is_none (map_async_rule setup past buffer mode offset size) ≡ true → buffer.number < count past
unfolding map_async_rule
map_met setup past buffer mode offset size e = own_below setup past _ buffer (all_met (map_async_list setup past buffer mode offset size) e).0

own_made : (setup : Setup) (past : Past) (event : Event) → EachRow (KeptIsOfMade (count past) (reply_to setup past event).settled) (promised past (effects_of event).form)
own_made setup past (MapAsync buffer mode offset size) = (by_rule (is_lost past) (is_none (map_async_rule setup past buffer mode offset size)) refl, tt)
  where
    by_rule : (lost met : Bool) → is_none (map_async_rule setup past buffer mode offset size) ≡ met → settles_mapped (own_settled past lost met (ForMap buffer mode offset size)) (length past) ≡ true → buffer.number < count past
    by_rule true met e f = absurd (true≢false (sym f ∙ one_free (length past) Aborted refl (length past)))
    by_rule false true e f = map_met setup past buffer mode offset size e
    by_rule false false e f = absurd (true≢false (sym f ∙ one_free (length past) Rejected refl (length past)))
own_made setup past WorkDone = ((λ e. tt), tt)
own_made setup past _ = tt

reads_within : (most made at : ℕ) (settled : List Settlement) (waits : List Wait) → at < most → made ≤ most → EachRow (KeptIsOfMade made settled) waits
    → Each (Within most) (flat_map (λ (wait : Wait). read_groups at settled wait.promise wait.awaited) waits)
reads_within most made at settled [] early le kept = tt
reads_within most made at settled (wait ∷ waits) early le kept =
    both_each (Within most) (read_groups at settled wait.promise wait.awaited) (flat_map (λ (w : Wait). read_groups at settled w.promise w.awaited) waits)
    (by_awaited wait.awaited kept.0) (reads_within most made at settled waits early le kept.1)
  where
    by_awaited : (awaited : Awaited) → (settles_mapped settled wait.promise ≡ true → OfMade made awaited) → Each (Within most) (read_groups at settled wait.promise awaited)
    by_awaited (work ops) of_made = tt
    by_awaited (mapping buffer last m) of_made = by_test (settles_mapped settled wait.promise) of_made
      where
        by_test : (b : Bool) → (b ≡ true → buffer < made) → Each (Within most) (if b then group_of (read_back m.mode (Host at) buffer m) else [])
        by_test true lt = group_each (Within most) (read_back m.mode (Host at) buffer m) (read_within most at m.mode buffer m early (let below = lt refl in omega (arith, below, le)))
        by_test false lt = tt

pub hosts_within : (setup : Setup) (entry : Entry) (older : Past) (most : ℕ) → IsRun setup (entry ∷ older) → length older < most → Each (Within most) (host_groups setup older entry)
hosts_within setup entry older most run early =
    both_each (Within most) (unmap_groups setup older (effects_of entry.event).unmapped) (flat_map (λ (wait : Wait). read_groups (length older) entry.reply.settled wait.promise wait.awaited) (waits_of entry older))
    (unmap_within setup older most (effects_of entry.event).unmapped early)
    (reads_within most (count older) (length older) entry.reply.settled (waits_of entry older) early (let some = count_le older in omega (arith, some, early))
    (each_joined (KeptIsOfMade (count older) entry.reply.settled) (awaiting older) (promised older (effects_of entry.event).form)
    (waits_made (count older) entry.reply.settled (awaiting older) (λ n le. pending_new setup older n (others setup entry older run) le))
    (subst (λ (reply : Reply). EachRow (KeptIsOfMade (count older) reply.settled) (promised older (effects_of entry.event).form)) (sym (newest setup entry older run)) (own_made setup older entry.event))))
