-- What is mapped in a run lies within buffers.
use Rattle.std.specs.Prelude.{reverse, filter, cond}
use Rattle.std.specs.Option.{option_or}
use Rattle.std.proofs.Common.{◌≡◌, ℕ, ◌+◌, ◌≤◌, ◌==◌, ◌&&◌, not, List, [], ◌∷◌, ◌++◌, length, Bool, true, false, Option, Some, None, is_none, unwrap_or, option_and_then, refl, sym, ◌∙◌, subst, arith, if◌then◌else◌, true≢false}
use Rattle.std.proofs.lemmas.Bool.{leb-true}
use Rattle.wg_types.specs.declared.handles.ObjRef.{ObjRef}
use Rattle.wg_types.specs.declared.handles.Info.{Info}
use Rattle.wg_types.specs.declared.handles.Info.TheVariants.{Buffer}
use Rattle.wg_types.specs.declared.limits.Limits.{Limits}
use Rattle.wg_types.specs.declared.mappings.Mapping.{Mapping}
use Rattle.wg_types.specs.declared.mappings.MapMode.TheVariants.{Write as WriteMode}
use Rattle.wg_trace.specs.declared.replies.Answer.{Answer}
use Rattle.wg_trace.specs.declared.replies.Reply.{Reply}
use Rattle.wg_trace.specs.declared.replies.Settlement.{Settlement}
use Rattle.wg_trace.specs.declared.replies.How.TheVariants.{Aborted, Rejected}
use Rattle.wg_rows.specs.Rows.{EachRow}
use Rattle.wg_model.specs.Commands.{no_buffer}
use Rattle.wg_model.proofs.Unmet.{all_met}
use Rattle.wg_model.proofs.StepLaws.{each_joined}
use Rattle.wg_history.specs.declared.events.Setup.{Setup}
use Rattle.wg_history.specs.declared.events.Event.{Event}
use Rattle.wg_history.specs.declared.events.Event.TheVariants.{MapAsync, WorkDone}
use Rattle.wg_history.specs.declared.events.Promise.TheVariants.{Map as ForMap}
use Rattle.wg_history.specs.Entries.{effects_of, Entry, Past}
use Rattle.wg_history.specs.Objects.{is_making, count, info_made, unknown, as_buffer, info_at, is_valid, is_made_valid, buffer_at}
use Rattle.wg_history.specs.Loss.{is_lost, Awaited, mapping, work, Wait, promised, unsettled, settles, awaiting}
use Rattle.wg_history.specs.Rules.{map_async_list, map_async_rule, settles_mapped, mapped_with, mapped_made, mapped_in, mapped_now, unmaps, waits_of, mapped_at}
use Rattle.wg_history.specs.Answers.{own_settled, reply_to, IsRun}
use Rattle.wg_history.proofs.Makers.{made_met}
use Rattle.wg_history.proofs.Mappings.{one_free, refused_leaves}
use Rattle.wg_history.proofs.Runs.{newest, others}
use Rattle.wg_small.specs.Limits.{IsMappedWithin, MappingsAreWithinLimits}
use Rattle.wg_small.proofs.Limited.{IfKnown, made_known, valid_within}

-- the size of a valid buffer
pub buffer_size : (setup : Setup) (past : Past) (n : ℕ) → IsRun setup past → is_valid past n ≡ true → (unwrap_or (buffer_at past n) no_buffer).size ≤ setup.limits.max_buffer_size
buffer_size setup past n run valid = by_info (info_at past n) refl
  where
    by_info : (o : Option Info) → info_at past n ≡ o → (unwrap_or (option_and_then as_buffer o) no_buffer).size ≤ setup.limits.max_buffer_size
    by_info None e = omega arith
    by_info (Some (Buffer info)) e = valid_within setup past n (Buffer info) run valid e
    by_info (Some _) e = omega arith

-- a map that meets its rules
map_within : (setup : Setup) (past : Past) (buffer : ObjRef) (mode offset size : ℕ) → IsRun setup past → is_none (map_async_rule setup past buffer mode offset size) ≡ true → offset + size ≤ setup.limits.max_buffer_size
unfolding map_async_rule
map_within setup past buffer mode offset size run e =
    let met = all_met (map_async_list setup past buffer mode offset size) e in
    let fits : offset + size ≤ (unwrap_or (buffer_at past buffer.number) no_buffer).size = leb-true (offset + size) (unwrap_or (buffer_at past buffer.number) no_buffer).size met.1.1.1.1.1.0 in
    let whole : (unwrap_or (buffer_at past buffer.number) no_buffer).size ≤ setup.limits.max_buffer_size = buffer_size setup past buffer.number run met.1.1.0 in
    omega (arith, fits, whole)

-- what waits
abbrev IsAwaitedWithin : Limits → Awaited → Type 0
IsAwaitedWithin limits (mapping buffer last m) = m.hi ≤ limits.max_buffer_size
IsAwaitedWithin limits (work ops) = Unit {0}

abbrev WaitsWithin : Limits → List Wait → Type 0
WaitsWithin limits waits = EachRow (λ (wait : Wait). IsAwaitedWithin limits wait.awaited) waits

filtered : (P : Wait → Type 0) (test : Wait → Bool) (waits : List Wait) → EachRow P waits → EachRow P (filter test waits)
filtered P test [] h = tt
filtered P test (wait ∷ waits) h = by_test (test wait) (filtered P test waits h.1)
  where
    by_test : (b : Bool) → EachRow P (filter test waits) → EachRow P (cond b (wait ∷ filter test waits) (filter test waits))
    by_test true rest = (h.0, rest)
    by_test false rest = rest

still_within : (limits : Limits) (settled : List Settlement) (xs ys : List Wait) → WaitsWithin limits xs → WaitsWithin limits ys → WaitsWithin limits (unsettled settled (xs ++ ys))
still_within limits settled xs ys h k =
    filtered (λ (wait : Wait). IsAwaitedWithin limits wait.awaited) (λ (wait : Wait). not (settles settled wait.promise)) (xs ++ ys) (each_joined (λ (wait : Wait). IsAwaitedWithin limits wait.awaited) xs ys h k)

one_waits : (setup : Setup) (past : Past) (event : Event) → IsRun setup past → WaitsWithin setup.limits (awaiting past) → WaitsWithin setup.limits (unsettled (reply_to setup past event).settled (awaiting past ++ promised past (effects_of event).form))
one_waits setup past (MapAsync buffer mode offset size) run h = by_rule (is_none (map_async_rule setup past buffer mode offset size)) refl
  where
    by_rule : (b : Bool) → is_none (map_async_rule setup past buffer mode offset size) ≡ b → WaitsWithin setup.limits (unsettled (reply_to setup past (MapAsync buffer mode offset size)).settled (awaiting past ++ promised past (effects_of (MapAsync buffer mode offset size)).form))
    by_rule true e =
        still_within setup.limits (reply_to setup past (MapAsync buffer mode offset size)).settled (awaiting past) (promised past (effects_of (MapAsync buffer mode offset size)).form) h (map_within setup past buffer mode offset size run e, tt)
    by_rule false e = subst (WaitsWithin setup.limits) (sym (refused_leaves setup past buffer mode offset size e)) h
one_waits setup past WorkDone run h = still_within setup.limits (reply_to setup past WorkDone).settled (awaiting past) (promised past (effects_of WorkDone).form) h (tt, tt)
one_waits setup past event run h = still_within setup.limits (reply_to setup past event).settled (awaiting past) (promised past (effects_of event).form) h tt

all_wait : (setup : Setup) (past : Past) → IsRun setup past → WaitsWithin setup.limits (awaiting past)
all_wait setup [] run = tt
all_wait setup (entry ∷ older) run =
    subst (λ (reply : Reply). WaitsWithin setup.limits (unsettled reply.settled (awaiting older ++ promised older (effects_of entry.event).form))) (sym (newest setup entry older run))
    (one_waits setup older entry.event (others setup entry older run) (all_wait setup older (others setup entry older run)))

-- what is kept
abbrev pub IsKeptWithin : Limits → List Settlement → Wait → Type 0
IsKeptWithin limits settled wait = settles_mapped settled wait.promise ≡ true → IsAwaitedWithin limits wait.awaited

any_kept : (limits : Limits) (settled : List Settlement) (waits : List Wait) → WaitsWithin limits waits → EachRow (IsKeptWithin limits settled) waits
any_kept limits settled [] h = tt
any_kept limits settled (wait ∷ waits) h = ((λ e. h.0), any_kept limits settled waits h.1)

own_kept : (setup : Setup) (past : Past) (event : Event) → IsRun setup past → EachRow (IsKeptWithin setup.limits (reply_to setup past event).settled) (promised past (effects_of event).form)
own_kept setup past (MapAsync buffer mode offset size) run = (by_rule (is_lost past) (is_none (map_async_rule setup past buffer mode offset size)) refl, tt)
  where
    by_rule : (lost met : Bool) → is_none (map_async_rule setup past buffer mode offset size) ≡ met → settles_mapped (own_settled past lost met (ForMap buffer mode offset size)) (length past) ≡ true → offset + size ≤ setup.limits.max_buffer_size
    by_rule true met e f = absurd (true≢false (sym f ∙ one_free (length past) Aborted refl (length past)))
    by_rule false true e f = map_within setup past buffer mode offset size run e
    by_rule false false e f = absurd (true≢false (sym f ∙ one_free (length past) Rejected refl (length past)))
own_kept setup past WorkDone run = ((λ e. tt), tt)
own_kept setup past _ run = tt

pub kept_within : (setup : Setup) (entry : Entry) (older : Past) → IsRun setup (entry ∷ older) → EachRow (IsKeptWithin setup.limits entry.reply.settled) (waits_of entry older)
kept_within setup entry older run =
    each_joined (IsKeptWithin setup.limits entry.reply.settled) (awaiting older) (promised older (effects_of entry.event).form)
    (any_kept setup.limits entry.reply.settled (awaiting older) (all_wait setup older (others setup entry older run)))
    (subst (λ (reply : Reply). EachRow (IsKeptWithin setup.limits reply.settled) (promised older (effects_of entry.event).form)) (sym (newest setup entry older run)) (own_kept setup older entry.event (others setup entry older run)))

or_within : (limits : Limits) (a b : Option Mapping) → IsMappedWithin limits a → IsMappedWithin limits b → IsMappedWithin limits (option_or a b)
or_within limits None b h k = k
or_within limits (Some m) b h k = h

now_within : (limits : Limits) (settled : List Settlement) (waits : List Wait) (n : ℕ) → EachRow (IsKeptWithin limits settled) waits → IsMappedWithin limits (mapped_now settled waits n)
now_within limits settled [] n h = tt
now_within limits settled (wait ∷ waits) n h = or_within limits (mapped_now settled waits n) (mapped_in settled n wait.promise wait.awaited) (now_within limits settled waits n h.1) (by_awaited wait.awaited h.0)
  where
    by_awaited : (awaited : Awaited) → (settles_mapped settled wait.promise ≡ true → IsAwaitedWithin limits awaited) → IsMappedWithin limits (mapped_in settled n wait.promise awaited)
    by_awaited (work ops) kept = tt
    by_awaited (mapping buffer last m) kept = by_test (buffer == n) (settles_mapped settled wait.promise) kept
      where
        by_test : (b c : Bool) → (c ≡ true → m.hi ≤ limits.max_buffer_size) → IsMappedWithin limits (if b && c then Some m else None)
        by_test true true kept = kept refl
        by_test true false kept = tt
        by_test false c kept = tt

-- what is mapped at creation
with_within : (limits : Limits) (answer : Answer) (o : Option Info) → (is_made_valid answer ≡ true → IfKnown limits o) → IsMappedWithin limits (mapped_with answer o)
with_within limits answer None h = tt
with_within limits answer (Some (Buffer info)) h = by_test info.mapped (is_made_valid answer) h
  where
    by_test : (b c : Bool) → (c ≡ true → info.size ≤ limits.max_buffer_size) → IsMappedWithin limits (if b && c then Some (record { mode = WriteMode; lo = 0; hi = info.size }) else None)
    by_test true true h = h refl
    by_test true false h = tt
    by_test false c h = tt
with_within limits answer (Some _) h = tt

pub past_mapped : (setup : Setup) (past : Past) (n : ℕ) → IsRun setup past → IsMappedWithin setup.limits (mapped_at setup past n)
past_mapped setup [] n run = tt
past_mapped setup (entry ∷ older) n run = by_making (is_making entry.event && count older == n) (past_mapped setup older n (others setup entry older run))
  where
    by_unmaps : IsMappedWithin setup.limits (mapped_at setup older n) → (b : Bool) → IsMappedWithin setup.limits (if b then None else option_or (mapped_now entry.reply.settled (waits_of entry older) n) (mapped_at setup older n))
    by_unmaps before true = tt
    by_unmaps before false =
        or_within setup.limits (mapped_now entry.reply.settled (waits_of entry older) n) (mapped_at setup older n) (now_within setup.limits entry.reply.settled (waits_of entry older) n (kept_within setup entry older run)) before

    by_making : (b : Bool) → IsMappedWithin setup.limits (mapped_at setup older n) → IsMappedWithin setup.limits (if b then mapped_made entry else if unmaps setup older entry.event n then None else option_or (mapped_now entry.reply.settled (waits_of entry older) n) (mapped_at setup older n))
    by_making true before = with_within setup.limits entry.reply.answer (info_made unknown entry.event) (λ valid. made_known setup older entry.event unknown (made_met setup entry older (newest setup entry older run) valid))
    by_making false before = by_unmaps before (unmaps setup older entry.event n)

pub mappings_are_within_limits : MappingsAreWithinLimits
mappings_are_within_limits setup history n run = past_mapped setup (reverse history) n run
