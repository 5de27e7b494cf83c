-- What the calls of a generated script do on a calm device: each is done, and leaves the device calm.
use Rattle.std.proofs.Common.{◌≡◌, ◌≤◌, ◌<◌, ◌⊎◌, ℕ, zero, suc, ◌+◌, ◌*◌, ◌%◌, ◌==◌, nat_lt, nat_le, max, Bool, true, false, not, cond, ◌&&◌, ◌||◌, if◌then◌else◌, Option, Some, None, is_some, is_none, unwrap_or, option_and_then, List, [], ◌∷◌, ◌++◌, length, map, flat_map, count_by, inl, inr, refl, ap, ap₂, sym, ◌∙◌, arith}
use Rattle.std.specs.List.{list_any}
use Rattle.std.specs.Option.{option_map, option_map_or, option_to_list, option_or}
use Rattle.std.proofs.lemmas.Bool.{le-leb, eq-eqb, ne_eqb, cases_lt}
use Rattle.std.proofs.lemmas.List.Sums.{sum_by-append, sum_by-cons}
use Rattle.wg_types.specs.declared.commands.On.{On}
use Rattle.wg_types.specs.declared.commands.On.TheVariants as on
use Rattle.wg_types.specs.declared.handles.Info.{Info}
use Rattle.wg_types.specs.declared.handles.Info.TheVariants as info
use Rattle.wg_types.specs.declared.handles.ObjRef.{ObjRef}
use Rattle.wg_trace.specs.declared.replies.Reply.{Reply}
use Rattle.wg_trace.specs.declared.steps.Sort.{Sort}
use Rattle.wg_types.specs.Commands.{Command}
use Rattle.wg_rows.specs.Rows.{printed}
use Rattle.wg_rows.specs.Runs.{Cell, PartRun, part_sort}
use Rattle.wg_rows.specs.Uses.{Change, same_change}
use Rattle.wg_orders.specs.Steps.{Step, StepPlace}
use Rattle.wg_orders.specs.Trace.{Item, StepItem, change_of, parts_used, bar, bars, add_step, clear_of, add_clear, to_clear, add_cleared, add_all, add_group, add_groups, free}
use Rattle.wg_model.specs.Rules.{Rule, first_unmet, AreMet}
use Rattle.wg_model.specs.Buffers.{copy_dst, has_usage, create_buffer_rules}
use Rattle.wg_model.specs.Equality.{same_bool}
use Rattle.wg_model.specs.Commands.{command_rules, no_buffer}
use Rattle.wg_model.specs.Recorded.{buffers_of, textures_of, query_sets_of, any_named}
use Rattle.wg_model.specs.Scopes.{first_clash}
use Rattle.wg_model.specs.Walk.{Verdict}
use Rattle.wg_encoder.specs.Recorders.{RecordingValue}
use Rattle.wg_history.specs.declared.events.Event.{Event}
use Rattle.wg_history.specs.declared.events.Event.TheVariants as event
use Rattle.wg_history.specs.Entries.{effects_of, Entry, Past}
use Rattle.wg_history.specs.Objects.{is_making, count, maker, info_at, is_buffer, is_encoder, is_command_buffer, as_buffer, is_made_valid, is_own, commands_at, sort_made, resource_at}
use Rattle.wg_history.specs.Infos.{same_kind, same_info}
use Rattle.wg_history.specs.Operations.{issued, completed, submit_uses, use_by, last_use}
use Rattle.wg_history.specs.Loss.{is_lost, Wait, unsettled, awaiting, is_map_of}
use Rattle.wg_history.specs.Rules.{dropped_at, is_dropped, is_destroyed, mapped_now, mapped_at, is_busy, write_buffer_list, write_buffer_rule, is_genuine, may_name, encoder_rules, recording_rules, finish_rule, any_used, submit_list, submit_rule}
use Rattle.wg_history.specs.Releases.{is_gone, is_due, was_released, freed_below, freed}
use Rattle.wg_history.specs.Budget.{bytes_made, bytes_at, is_live, live_below, live_bytes}
use Rattle.wg_history.specs.FirstRules.{budget_rules, create_buffer_rule, first_rule}
use Rattle.wg_history.specs.Answers.{reply_by, reply_to}
use Rattle.wg_history.specs.Steps.{groups_of}
use Rattle.wg_history.specs.Traces.{trace_after}
use Rattle.wg_history.proofs.Makers.{maker_stays, info_stays, made_more}
use Rattle.wg_history.proofs.Released.{resource_made}
use Rattle.wg_history.proofs.Holders.{undropped_held}
use Rattle.wg_history.proofs.AfterUse.{stands}
use Rattle.wg_gen.specs.declared.draws.Spot.{Spot}
use Rattle.wg_gen.specs.Generator.{buffer_info}
use Rattle.wg_gen.specs.Counts.{is_fault, is_free}
use Rattle.wg_gen.proofs.Facts.{device, device_maker, IsSpot, ref, buffer_handle, create_buffer, write, copy, finish, submit, made, queued, entry_of, IsBuffer, Calm, Encodes, Submits}

-- ---- releases in the trace

count_joined : {X : Type 0} (test : X → Bool) (xs ys : List X) → count_by test (xs ++ ys) ≡ count_by test xs + count_by test ys
count_joined test xs ys = sum_by-append (λ x. cond (test x) 1 0) xs ys

count_first : {X : Type 0} (test : X → Bool) (x : X) (xs : List X) → count_by test (x ∷ xs) ≡ cond (test x) 1 0 + count_by test xs
count_first test x xs = sum_by-cons (λ x. cond (test x) 1 0) x xs

-- Steps, barriers and clears release nothing.

no_bar : (rows : List (PartRun × Change)) → count_by is_free (map bar rows) ≡ 0
no_bar [] = refl
no_bar (row ∷ rows) = count_first is_free (bar row) (map bar rows) ∙ (omega arith ∙ no_bar rows)

same_step : (trace : List Item) (s : Step) → count_by is_free (add_step trace s) ≡ count_by is_free trace
same_step trace s =
    count_joined is_free trace (bars trace s ++ StepItem s ∷ [])
    ∙ (ap (λ k. count_by is_free trace + k) (count_joined is_free (bars trace s) (StepItem s ∷ []) ∙ ap (λ k. k + 0) (no_bar (printed part_sort same_change (flat_map (change_of trace s) (parts_used s.uses)))))
    ∙ omega arith)

same_clear : (trace : List Item) (place : StepPlace) (cells : List Cell) → count_by is_free (add_clear trace place cells) ≡ count_by is_free trace
same_clear trace place [] = refl
same_clear trace place (c ∷ cells) = same_step trace (clear_of place (c ∷ cells))

same_cleared : (trace : List Item) (s : Step) → count_by is_free (add_cleared trace s) ≡ count_by is_free trace
same_cleared trace s = same_step (add_clear trace s.place (to_clear trace (s ∷ []))) s ∙ same_clear trace s.place (to_clear trace (s ∷ []))

same_all : (trace : List Item) (steps : List Step) → count_by is_free (add_all trace steps) ≡ count_by is_free trace
same_all trace [] = refl
same_all trace (s ∷ steps) = same_all (add_cleared trace s) steps ∙ same_cleared trace s

same_group : (trace : List Item) (steps : List Step) → count_by is_free (add_group trace steps) ≡ count_by is_free trace
same_group trace [] = refl
same_group trace (s ∷ steps) = same_all (add_clear trace s.place (to_clear trace (s ∷ steps))) (s ∷ steps) ∙ same_clear trace s.place (to_clear trace (s ∷ steps))

same_groups : (trace : List Item) (groups : List (List Step)) → count_by is_free (add_groups trace groups) ≡ count_by is_free trace
same_groups trace [] = refl
same_groups trace (steps ∷ groups) = same_groups (add_group trace steps) groups ∙ same_group trace steps

freed_items : (objects : List (ℕ × Sort)) → count_by is_free (map free objects) ≡ length objects
freed_items [] = refl
freed_items (object ∷ objects) = count_first is_free (free object) (map free objects) ∙ (ap (λ k. 1 + k) (freed_items objects) ∙ omega arith)

-- An entry releases as many objects as it frees.
pub frees_more : (entry : Entry) (past : Past) → count_by is_free (trace_after device (entry ∷ past)) ≡ count_by is_free (trace_after device past) + length (freed device (entry ∷ past))
frees_more entry past =
    count_joined is_free (add_groups (trace_after device past) (groups_of device past entry)) (map free (freed device (entry ∷ past)))
    ∙ ap₂ ◌+◌ (same_groups (trace_after device past) (groups_of device past entry)) (freed_items (freed device (entry ∷ past)))

-- ---- what is not destroyed and not dropped

-- It is not due,
pub due_none : (past : Past) (n : ℕ) → dropped_at device past n ≡ None → is_destroyed device past n ≡ false → is_due device past n ≡ false
unfolding is_due
due_none past n undropped whole = by_memory (is_some (resource_at past n)) refl
  where
    by_memory : (b : Bool) → is_some (resource_at past n) ≡ b → (b && is_gone device past n && nat_le (last_use past n) (completed past)) ≡ false
    by_memory true e = ap (λ gone. gone && nat_le (last_use past n) (completed past)) (stands device past n whole (undropped_held device past n (resource_made past n e) (ap is_some undropped)))
    by_memory false e = refl

-- and where nothing is due nothing is freed.
freed_none : (past : Past) → ((n : ℕ) → is_due device past n ≡ false) → (m : ℕ) → freed_below device past m ≡ []
freed_none past due zero = refl
freed_none past due (suc m) = ap₂ ◌++◌ (freed_none past due m) (ap (λ (b : Bool). if b && not (was_released device past m) then option_to_list (option_map (λ sort. (m, sort)) (resource_at past m)) else []) (due m))

-- ---- what an entry leaves

-- the memory of what an entry made, if some entry did
abbrev memory_of : Option Entry → Option Sort
memory_of found = if option_map_or (λ (entry : Entry). is_made_valid entry.reply.answer) found false then option_and_then (λ (entry : Entry). sort_made entry.event) found else None

-- A buffer stays.
pub buffer_stays : (entry : Entry) (past : Past) (n : ℕ) → IsBuffer past n → IsBuffer (entry ∷ past) n
buffer_stays entry past n buffer = record {
  below = made_more (is_making entry.event) (count past) n buffer.below;
  info = info_stays past entry n buffer.below ∙ buffer.info;
  valid = ap (λ (found : Option Entry). option_map_or (λ (entry : Entry). is_made_valid entry.reply.answer) found false) (maker_stays past entry n buffer.below) ∙ buffer.valid;
  resource = ap memory_of (maker_stays past entry n buffer.below) ∙ buffer.resource;
  bytes = ap (λ (found : Option Entry). option_map_or (λ (entry : Entry). bytes_made entry.event) found 0) (maker_stays past entry n buffer.below) ∙ buffer.bytes;
}

-- An object without memory has none where an entry makes none.
pub resource_more : (entry : Entry) (past : Past) (n : ℕ) → sort_made entry.event ≡ None → resource_at past n ≡ None → resource_at (entry ∷ past) n ≡ None
resource_more entry past n none before = by_maker (is_making entry.event && count past == n)
  where
    by_valid : (b : Bool) → (if b then sort_made entry.event else None) ≡ None
    by_valid true = none
    by_valid false = refl

    by_maker : (b : Bool) → memory_of (if b then Some entry else maker past n) ≡ None
    by_maker true = by_valid (is_made_valid entry.reply.answer)
    by_maker false = before

-- An entry that loses, drops, destroys, maps, promises and completes nothing, and is met.
record IsCalm (entry : Entry) (past : Past) : Type 0 where
  replied : entry.reply ≡ reply_to device past entry.event
  lost : is_lost (entry ∷ past) ≡ false
  undropped : (n : ℕ) → dropped_at device (entry ∷ past) n ≡ None
  whole : (n : ℕ) → is_destroyed device (entry ∷ past) n ≡ false
  unmapped : (n : ℕ) → mapped_at device (entry ∷ past) n ≡ None
  quiet : awaiting (entry ∷ past) ≡ []
  incomplete : completed (entry ∷ past) ≡ 0
  issues : issued past ≤ issued (entry ∷ past)
  used : (n : ℕ) → use_by past entry n ≤ issued (entry ∷ past)
  met : is_fault entry ≡ false

max_most : (a b c : ℕ) → a ≤ c → b ≤ c → max a b ≤ c
max_most a b c first second = omega arith

-- It leaves a calm device calm.
calm_more : (k j : ℕ) (entry : Entry) (past : Past) → Calm k past → IsCalm entry past → ((n : ℕ) → n < j → IsBuffer (entry ∷ past) n) → ((n : ℕ) → j ≤ n → resource_at (entry ∷ past) n ≡ None) → Calm j (entry ∷ past)
calm_more k j entry past calm more buffers others = record {
  run = ap₂ (λ (reply : Reply) (replies : List Reply). reply ∷ replies) more.replied calm.run;
  lost = more.lost;
  undropped = more.undropped;
  whole = more.whole;
  unmapped = more.unmapped;
  quiet = more.quiet;
  buffers = buffers;
  others = others;
  incomplete = more.incomplete;
  unreleased = λ n. ap₂ ◌||◌ (due n) (calm.unreleased n);
  used = used;
  faults = count_first is_fault entry past ∙ ap₂ (λ (b : Bool) (m : ℕ). cond b 1 0 + m) more.met calm.faults;
  frees = frees_more entry past ∙ ap₂ ◌+◌ calm.frees (ap (λ (objects : List (ℕ × Sort)). length objects) (freed_none (entry ∷ past) due (count (entry ∷ past))));
}
  where
    due : (n : ℕ) → is_due device (entry ∷ past) n ≡ false
    due n = due_none (entry ∷ past) n (more.undropped n) (more.whole n)

    used : (n : ℕ) → last_use (entry ∷ past) n ≤ issued (entry ∷ past)
    used n = let here = more.used n in let before = calm.used n in let issues = more.issues in max_most (use_by past entry n) (last_use past n) (issued (entry ∷ past)) here (omega (arith, before, issues))

-- All eight buffers were made before, and this makes nothing with memory.
calm_same : (entry : Entry) (past : Past) → Calm 8 past → IsCalm entry past → sort_made entry.event ≡ None → Calm 8 (entry ∷ past)
calm_same entry past calm more none = calm_more 8 8 entry past calm more (λ n lt. buffer_stays entry past n (calm.buffers n lt)) (λ n le. resource_more entry past n none (calm.others n le))

-- Nothing was promised, and nothing is settled.
quiet_more : (k : ℕ) (past : Past) → Calm k past → unsettled [] (awaiting past ++ []) ≡ []
quiet_more k past calm = ap (λ (waits : List Wait). unsettled [] (waits ++ [])) calm.quiet

unmapped_more : (k : ℕ) (past : Past) (n : ℕ) → Calm k past → (b : Bool) → (if b then None else option_or (mapped_now [] (awaiting past ++ []) n) (mapped_at device past n)) ≡ None
unmapped_more k past n calm true = refl
unmapped_more k past n calm false = ap₂ option_or (ap (λ (waits : List Wait). mapped_now [] (waits ++ []) n) calm.quiet) (calm.unmapped n)

if_most : (b : Bool) (m : ℕ) → (if b then m else 0) ≤ m
if_most true m = omega arith
if_most false m = omega arith

-- ---- rules

-- the reply where the device is not lost and all rules are met
done : (past : Past) (asked : Event) → is_lost past ≡ false → first_rule device past asked ≡ None → reply_to device past asked ≡ reply_by past (effects_of asked) false None
done past asked kept met = ap₂ (λ (lost : Bool) (rule : Option ℕ). reply_by past (effects_of asked) lost rule) kept met

none_unmet : (rules : List Rule) → AreMet rules → first_unmet rules ≡ None
none_unmet [] met = refl
none_unmet (rule ∷ rules) met = ap (λ (b : Bool). if b then first_unmet rules else Some rule.0) met.0 ∙ none_unmet rules met.1

none_of : (first second : Option ℕ) → first ≡ None → second ≡ None → option_or first second ≡ None
none_of first second e f = ap₂ (λ (a b : Option ℕ). option_or a b) e f

own_known : (past : Past) (n : ℕ) (test : Info → Bool) (known : Info) → info_at past n ≡ Some known → test known ≡ true → is_own device past test (ref n) ≡ true
own_known past n test known e passes = ap (λ (found : Option Info). option_map_or test found false) e ∙ passes

undropped_met : (k : ℕ) (past : Past) (n : ℕ) → Calm k past → not (is_dropped device past n) ≡ true
undropped_met k past n calm = ap (λ (at : Option ℕ). not (is_some at)) (calm.undropped n)

idle : (k : ℕ) (past : Past) → Calm k past → (n : ℕ) → is_busy device past n ≡ false
idle k past calm n = ap₂ ◌||◌ (calm.whole n) (ap₂ ◌||◌ (ap is_some (calm.unmapped n)) (ap (list_any (is_map_of n)) calm.quiet))

none_passes : {X : Type 0} (test : X → Bool) → ((x : X) → test x ≡ false) → (xs : List X) → list_any test xs ≡ false
none_passes test fails [] = refl
none_passes test fails (x ∷ xs) = ap₂ ◌||◌ (fails x) (none_passes test fails xs)

unused : (names : Command → List ℕ) (test : ℕ → Bool) (past : Past) → ((n : ℕ) → test n ≡ false) → (buffers : List ObjRef) → any_used names test past buffers ≡ false
unused names test past fails buffers =
    none_passes (λ (buffer : ObjRef). any_named names test (commands_at past buffer.number))
    (λ buffer. none_passes (λ (kept : On × Command). list_any test (names kept.1)) (λ kept. none_passes test fails (names kept.1)) (commands_at past buffer.number)) buffers

-- ---- nothing has happened

pub calm_none : Calm 0 []
calm_none = record {
  run = refl;
  lost = refl;
  undropped = λ n. refl;
  whole = λ n. refl;
  unmapped = λ n. refl;
  quiet = refl;
  buffers = λ n lt. absurd (omega (arith, lt));
  others = λ n le. refl;
  incomplete = refl;
  unreleased = λ n. refl;
  used = λ n. omega arith;
  faults = refl;
  frees = refl;
}

-- ---- a buffer is created

-- The first of the buffers take 4096 bytes each at most.
live_most : (k : ℕ) (past : Past) → Calm k past → (m : ℕ) → m ≤ k → live_below device past m ≤ 4096 * m
live_most k past calm zero le = omega arith
live_most k past calm (suc m) le =
    let before : live_below device past m ≤ 4096 * m = live_most k past calm m (omega (arith, le)) in
    let here : (if is_live device past m then bytes_at past m else 0) ≤ 4096 = by_live (is_live device past m) (bytes_at past m) (calm.buffers m (omega (arith, le))).bytes in
    omega (arith, before, here)
  where
    by_live : (b : Bool) (size : ℕ) → size ≡ 4096 → (if b then size else 0) ≤ 4096
    by_live true size e = omega (arith, e)
    by_live false size e = omega arith

buffer_met : (k : ℕ) (past : Past) → Calm k past → count past ≡ k → k < 8 → first_rule device past create_buffer ≡ None
unfolding create_buffer_rule
buffer_met k past calm same few =
    let live : live_below device past (count past) ≤ 4096 * count past = live_most k past calm (count past) (omega (arith, same)) in
    let within = le-leb (live_bytes device past + 4096) 1000000 (omega (arith, live, same, few)) in
    none_unmet (create_buffer_rules device.limits buffer_info ++ budget_rules device past 4096) (refl, (refl, (refl, (refl, (refl, (within, tt))))))

pub buffer_answer : (k : ℕ) (past : Past) → Calm k past → count past ≡ k → k < 8 → reply_to device past create_buffer ≡ made past
buffer_answer k past calm same few = done past create_buffer calm.lost (buffer_met k past calm same few)

buffer_made : (past : Past) (who n : ℕ) → count past ≡ n → IsBuffer (entry_of who create_buffer (made past) ∷ past) n
buffer_made past who n same =
    let entry : Entry = entry_of who create_buffer (made past) in
    let new : (count past == n) ≡ true = eq-eqb (count past) n same in
    let here : maker (entry ∷ past) n ≡ Some entry = ap (λ (b : Bool). if b then Some entry else maker past n) new in
    record {
      below = omega (arith, same);
      info = ap (λ (b : Bool). if b then Some (info.Buffer buffer_info) else info_at past n) new;
      valid = ap (λ (found : Option Entry). option_map_or (λ (entry : Entry). is_made_valid entry.reply.answer) found false) here;
      resource = ap memory_of here;
      bytes = ap (λ (found : Option Entry). option_map_or (λ (entry : Entry). bytes_made entry.event) found 0) here;
    }

pub buffer_calm : (k : ℕ) (past : Past) (who : ℕ) → Calm k past → count past ≡ k → k < 8 → Calm (suc k) (entry_of who create_buffer (made past) ∷ past)
buffer_calm k past who calm same few = calm_more k (suc k) (entry_of who create_buffer (made past)) past calm more buffers others
  where
    more : IsCalm (entry_of who create_buffer (made past)) past
    more = record {
      replied = sym (buffer_answer k past calm same few);
      lost = calm.lost;
      undropped = calm.undropped;
      whole = calm.whole;
      unmapped = λ n. unmapped_more k past n calm (count past == n);
      quiet = quiet_more k past calm;
      incomplete = calm.incomplete;
      issues = omega arith;
      used = λ n. omega arith;
      met = refl;
    }

    buffers : (n : ℕ) → n < suc k → IsBuffer (entry_of who create_buffer (made past) ∷ past) n
    buffers n lt = by_order (cases_lt n k)
      where
        by_order : (n < k) ⊎ (k ≤ n) → IsBuffer (entry_of who create_buffer (made past) ∷ past) n
        by_order (inl below) = buffer_stays (entry_of who create_buffer (made past)) past n (calm.buffers n below)
        by_order (inr above) = buffer_made past who n (omega (arith, same, lt, above))

    others : (n : ℕ) → suc k ≤ n → resource_at (entry_of who create_buffer (made past) ∷ past) n ≡ None
    others n le = ap (λ (b : Bool). memory_of (if b then Some (entry_of who create_buffer (made past)) else maker past n)) (ne_eqb (count past) n (λ e. omega (arith, same, e, le))) ∙ calm.others n (omega (arith, le))

-- ---- a write

-- what is written or copied at a spot fits its buffer
spot_fits : (offset size : ℕ) → offset ≤ 1020 → size ≤ 128 → nat_le (offset + size) 4096 ≡ true
spot_fits offset size fits few = le-leb (offset + size) 4096 (omega (arith, fits, few))

write_met : (past : Past) (spot : Spot) → Calm 8 past → IsSpot spot → first_rule device past (write spot) ≡ None
unfolding write_buffer_rule
write_met past spot calm good =
    let source : IsBuffer past spot.source = calm.buffers spot.source good.source in
    let own = own_known past spot.source is_buffer (info.Buffer buffer_info) source.info refl in
    let undropped = undropped_met 8 past spot.source calm in
    let usage = ap (λ (found : Option Info). has_usage (unwrap_or (option_and_then as_buffer found) no_buffer).usage copy_dst) source.info in
    let aligned = ap (λ (m : ℕ). m == 0 && 64 % 4 == 0) good.aligned in
    let fits = ap (λ (found : Option Info). nat_le (spot.offset + 64) (unwrap_or (option_and_then as_buffer found) no_buffer).size) source.info ∙ spot_fits spot.offset 64 good.fits (omega arith) in
    let free = ap not (idle 8 past calm spot.source) in
    none_unmet (write_buffer_list device past (ref spot.source) spot.offset 64) (own, (undropped, (source.valid, (usage, (aligned, (fits, (free, tt)))))))

pub write_answer : (past : Past) (spot : Spot) → Calm 8 past → IsSpot spot → reply_to device past (write spot) ≡ queued past
write_answer past spot calm good = done past (write spot) calm.lost (write_met past spot calm good)

pub write_calm : (past : Past) (who : ℕ) (spot : Spot) → Calm 8 past → IsSpot spot → Calm 8 (entry_of who (write spot) (queued past) ∷ past)
write_calm past who spot calm good = calm_same (entry_of who (write spot) (queued past)) past calm more refl
  where
    more : IsCalm (entry_of who (write spot) (queued past)) past
    more = record {
      replied = sym (write_answer past spot calm good);
      lost = calm.lost;
      undropped = calm.undropped;
      whole = calm.whole;
      unmapped = λ n. unmapped_more 8 past n calm false;
      quiet = quiet_more 8 past calm;
      incomplete = calm.incomplete;
      issues = omega arith;
      used = λ n. if_most (spot.source == n) (issued past + 1);
      met = refl;
    }

-- ---- an encoder is created

pub create_answer : (past : Past) → Calm 8 past → reply_to device past event.CreateEncoder ≡ made past
create_answer past calm = done past event.CreateEncoder calm.lost refl

pub create_calm : (past : Past) (who : ℕ) → Calm 8 past → Calm 8 (entry_of who event.CreateEncoder (made past) ∷ past)
create_calm past who calm = calm_same (entry_of who event.CreateEncoder (made past)) past calm more refl
  where
    more : IsCalm (entry_of who event.CreateEncoder (made past)) past
    more = record {
      replied = sym (create_answer past calm);
      lost = calm.lost;
      undropped = calm.undropped;
      whole = calm.whole;
      unmapped = λ n. unmapped_more 8 past n calm (count past == n);
      quiet = quiet_more 8 past calm;
      incomplete = calm.incomplete;
      issues = omega arith;
      used = λ n. omega arith;
      met = refl;
    }

-- ---- a finish

-- a copy between two buffers meets its rules
copy_met : (spot : Spot) → IsSpot spot → Verdict device_maker None ((on.Encoder, copy spot) ∷ []) ≡ None
copy_met spot good =
    let aligned = ap (λ (m : ℕ). m == 0 && m == 0 && 128 % 4 == 0) good.aligned in
    let fits = ap (λ (b : Bool). b && b) (spot_fits spot.offset 128 good.fits (omega arith)) in
    let differ = ap not good.differ in
    none_unmet (command_rules 1 0 (copy spot)) (refl, (refl, (refl, (refl, (refl, (refl, (aligned, (fits, (differ, tt)))))))))

buffer_genuine : (past : Past) (n : ℕ) → IsBuffer past n → is_genuine device past (buffer_handle n) ≡ true
buffer_genuine past n buffer =
    ap₂ (λ (found : Option Info) (valid : Bool). option_map_or (same_kind (info.Buffer buffer_info)) found false && same_bool true valid && option_map_or (same_info (info.Buffer buffer_info)) found false)
    buffer.info buffer.valid

-- a buffer may stand in a command
unbarred : (past : Past) (encoder n : ℕ) → Calm 8 past → n < 8 → (not (is_genuine device past (buffer_handle n) && may_name device past encoder n)) ≡ false
unbarred past encoder n calm lt = ap₂ (λ (genuine may : Bool). not (genuine && may)) (buffer_genuine past n (calm.buffers n lt)) (ap (λ (at : Option ℕ). option_map_or (nat_lt encoder) at true) (calm.undropped n))

-- a copy on an encoder has no usage scope
no_scope : (b : Bool) → is_none (first_clash (if b then [] else [])) ≡ true
no_scope true = refl
no_scope false = refl

encoder_met : (past : Past) (who n : ℕ) → Calm 8 past → Encodes past who n → first_unmet (encoder_rules device past is_encoder (ref n)) ≡ None
encoder_met past who n calm encoder =
    let own = own_known past n is_encoder info.Encoder encoder.info refl in
    let undropped = undropped_met 8 past n calm in
    let open_ = ap not encoder.open_ in
    none_unmet (encoder_rules device past is_encoder (ref n)) (own, (undropped, (encoder.valid, (open_, tt))))

-- what the encoder has kept
abbrev recorded : Spot → RecordingValue
recorded spot = record { maker = device_maker; targets = None; commands = (on.Encoder, copy spot) ∷ [] }

recording_met : (past : Past) (n : ℕ) (spot : Spot) → Calm 8 past → IsSpot spot → first_unmet (recording_rules device past n (recorded spot)) ≡ None
recording_met past n spot calm good =
    let genuine = ap₂ (λ (source target : Bool). not ((source || (target || false)) || false)) (unbarred past n spot.source calm good.source) (unbarred past n spot.target calm good.target) in
    let compatible = no_scope (is_none (Verdict device_maker None (recorded spot).commands) && true) in
    none_unmet (recording_rules device past n (recorded spot)) (refl, (refl, (genuine, (compatible, tt))))

finish_met : (past : Past) (who n : ℕ) (spot : Spot) → Calm 8 past → IsSpot spot → Encodes past who n → first_rule device past (finish n spot) ≡ None
unfolding finish_rule
finish_met past who n spot calm good encoder = none_of _ _ (encoder_met past who n calm encoder) (none_of _ _ (copy_met spot good) (recording_met past n spot calm good))

pub finish_answer : (past : Past) (who n : ℕ) (spot : Spot) → Calm 8 past → IsSpot spot → Encodes past who n → reply_to device past (finish n spot) ≡ made past
finish_answer past who n spot calm good encoder = done past (finish n spot) calm.lost (finish_met past who n spot calm good encoder)

pub finish_calm : (past : Past) (who n : ℕ) (spot : Spot) → Calm 8 past → IsSpot spot → Encodes past who n → Calm 8 (entry_of who (finish n spot) (made past) ∷ past)
finish_calm past who n spot calm good encoder = calm_same (entry_of who (finish n spot) (made past)) past calm more refl
  where
    more : IsCalm (entry_of who (finish n spot) (made past)) past
    more = record {
      replied = sym (finish_answer past who n spot calm good encoder);
      lost = calm.lost;
      undropped = calm.undropped;
      whole = calm.whole;
      unmapped = λ m. unmapped_more 8 past m calm (count past == m);
      quiet = quiet_more 8 past calm;
      incomplete = calm.incomplete;
      issues = omega arith;
      used = λ m. omega arith;
      met = refl;
    }

-- ---- a submit

submit_met : (past : Past) (who n : ℕ) → Calm 8 past → Submits past who n → first_rule device past (submit n) ≡ None
unfolding submit_rule
submit_met past who n calm buffer =
    let own = own_known past n is_command_buffer info.CommandBuffer buffer.info refl in
    let undropped = undropped_met 8 past n calm in
    let fresh = ap (λ (b : Bool). not (b || false)) buffer.fresh in
    let free = ap not (unused buffers_of (is_busy device past) past (idle 8 past calm) (ref n ∷ [])) in
    let whole = ap₂ (λ (textures sets : Bool). not (textures || sets)) (unused textures_of (is_destroyed device past) past calm.whole (ref n ∷ [])) (unused query_sets_of (is_destroyed device past) past calm.whole (ref n ∷ [])) in
    none_unmet (submit_list device past (ref n ∷ [])) (own, (undropped, (buffer.valid, (fresh, (refl, (free, (whole, tt)))))))

pub submit_answer : (past : Past) (who n : ℕ) → Calm 8 past → Submits past who n → reply_to device past (submit n) ≡ queued past
submit_answer past who n calm buffer = done past (submit n) calm.lost (submit_met past who n calm buffer)

pub submit_calm : (past : Past) (who n : ℕ) → Calm 8 past → Submits past who n → Calm 8 (entry_of who (submit n) (queued past) ∷ past)
submit_calm past who n calm buffer = calm_same (entry_of who (submit n) (queued past)) past calm more refl
  where
    more : IsCalm (entry_of who (submit n) (queued past)) past
    more = record {
      replied = sym (submit_answer past who n calm buffer);
      lost = calm.lost;
      undropped = calm.undropped;
      whole = calm.whole;
      unmapped = λ m. unmapped_more 8 past m calm false;
      quiet = quiet_more 8 past calm;
      incomplete = calm.incomplete;
      issues = omega arith;
      used = λ m. if_most (submit_uses past (ref n ∷ []) m) (issued past + 1);
      met = refl;
    }
