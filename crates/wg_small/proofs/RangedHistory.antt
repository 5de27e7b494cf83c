-- In a run what is known of valid objects is small, and so are the ranges of what valid command buffers do.
use Rattle.std.specs.Prelude.{reverse}
use Rattle.std.specs.List.{list_any}
use Rattle.std.specs.Option.{option_or, option_map_or}
use Rattle.std.proofs.Common.{◌≡◌, ℕ, ◌≤◌, ◌==◌, ◌&&◌, not, List, [], ◌∷◌, ◌++◌, map, Bool, true, false, Option, Some, None, is_none, refl, sym, subst, arith, if◌then◌else◌, true≢false}
use Rattle.std.proofs.lemmas.Bool.{and_parts, or_parts, leb-true}
use Rattle.std.proofs.lemmas.List.{reverse-append, reverse-reverse}
use Rattle.wg_types.specs.declared.limits.Maker.{Maker}
use Rattle.wg_types.specs.Bindings.{resource_named, entries_named}
use Rattle.wg_types.specs.Commands.{named}
use Rattle.wg_types.specs.Handles.{HandleValue}
use Rattle.wg_types.specs.declared.bindings.GroupEntryOf.{GroupEntryOf}
use Rattle.wg_types.specs.declared.bindings.ResourceOf.{ResourceOf}
use Rattle.wg_types.specs.declared.bindings.ResourceOf.TheVariants.{Buffer as BufferOf, View as ViewOf, Sampler as SamplerOf}
use Rattle.wg_types.specs.declared.handles.Info.{Info}
use Rattle.wg_types.specs.declared.handles.Info.TheVariants.{Buffer, Texture, View}
use Rattle.wg_types.specs.declared.handles.ObjRef.{ObjRef}
use Rattle.wg_types.specs.declared.limits.Limits.{Limits}
use Rattle.wg_trace.specs.declared.steps.StepPlace.TheVariants.{Op}
use Rattle.wg_types.specs.declared.wanted.Wanted.{Wanted}
use Rattle.wg_limits.specs.Limits.{AreNoBetter, HaveFixed}
use Rattle.wg_limits.specs.declared.names.LimitName.TheVariants.{MaxBufferSize}
use Rattle.wg_rows.specs.Rows.{EachRow}
use Rattle.wg_readtrace.specs.Forms.{most_32, most_53}
use Rattle.wg_model.specs.Rules.{Rule, AreMet, first_unmet}
use Rattle.wg_model.specs.Groups.{group_rules}
use Rattle.wg_model.specs.Making.{known_buffer, known_texture, known_view, bound_entry, group_made}
use Rattle.wg_model.specs.Touches.{Doing, deed_of, placed}
use Rattle.wg_model.specs.Walk.{Verdict, verdict, open_pass, doings, deeds, Kept}
use Rattle.wg_types.specs.declared.render.TargetInfo.{TargetInfo}
use Rattle.wg_model.specs.Walk.{DeedsOf}
use Rattle.wg_model.proofs.StepLaws.{each_joined}
use Rattle.wg_model.proofs.Unmet.{all_met}
use Rattle.wg_history.specs.declared.events.Setup.{Setup}
use Rattle.wg_history.specs.declared.events.Event.{Event}
use Rattle.wg_history.specs.declared.events.Event.TheVariants.{CreateBuffer, CreateTexture, CreateView, CreateBindGroup, CreateQuerySet, Finish, FinishBundle}
use Rattle.wg_history.specs.Entries.{Past, deeds_by, effects_of}
use Rattle.wg_history.specs.Objects.{is_making, count, maker, info_made, known_in, info_at, is_valid, is_made_valid}
use Rattle.wg_history.specs.Loss.{is_lost}
use Rattle.wg_history.specs.Rules.{create_view_list, create_view_rule, is_genuine, is_barred, any_barred, encoder_rules, kept_rules, recording_rules, finish_rule, finish_bundle_rule}
use Rattle.wg_history.specs.GroupRules.{named_rules, group_named, create_bind_group_rule}
use Rattle.wg_history.specs.FirstRules.{first_rule}
use Rattle.wg_history.specs.Answers.{IsRun, answer_by}
use Rattle.wg_history.proofs.Makers.{made_met}
use Rattle.wg_history.proofs.Reached.{genuine_knows, double_not}
use Rattle.wg_history.proofs.Runs.{newest, others}
use Rattle.wg_history.proofs.Tests.{met_before, neither}
use Rattle.wg_shaped.proofs.Walked.{EachKept, Does, walked, each_done, kept_reverse}
use Rattle.wg_small.specs.Small.{HasSmallRanges}
use Rattle.wg_small.specs.Limits.{RecordsSmallRanges}
use Rattle.wg_small.proofs.Limited.{made_known}
use Rattle.wg_small.specs.Ranged.{RecordingsAreSmall}
use Rattle.wg_small.proofs.Known.{IsSmallTexture, AreSmallEntries, IsSmallInfo, IsSmallHandle, small_texture, no_texture_small}
use Rattle.wg_small.proofs.Meeting.{AreSmallNamed, IsSmallCommand}
use Rattle.wg_small.proofs.Copies.{IsSmallDoing, encoder_small}
use Rattle.wg_small.proofs.Passes.{pass_does_small}
use Rattle.wg_small.proofs.Bundled.{none_is, step_small, bundle_of_small}

-- What is known of valid objects is small.
abbrev AllSmall : Past → Type 0
AllSmall past = (n : ℕ) (known : Info) → is_valid past n ≡ true → info_at past n ≡ Some known → IsSmallInfo known

abbrev IfSmall : Option Info → Type 0
IfSmall None = Unit {0}
IfSmall (Some known) = IsSmallInfo known

known_small : (past : Past) (n : ℕ) → AllSmall past → is_valid past n ≡ true → IfSmall (info_at past n)
known_small past n all valid = by_info (info_at past n) refl
  where
    by_info : (o : Option Info) → info_at past n ≡ o → IfSmall o
    by_info None e = tt
    by_info (Some known) e = all n known valid e

texture_of_known : (o : Option Info) → IfSmall o → IsSmallTexture (known_texture o)
texture_of_known None h = no_texture_small
texture_of_known (Some (Texture known)) h = h
texture_of_known (Some _) h = no_texture_small

view_of_known : (o : Option Info) → IfSmall o → IsSmallTexture (known_view o).texture_info
view_of_known None h = no_texture_small
view_of_known (Some (View known)) h = h
view_of_known (Some _) h = no_texture_small

buffer_of_known : (o : Option Info) → IfSmall o → (known_buffer o).size ≤ most_53
buffer_of_known None h = omega arith
buffer_of_known (Some (Buffer known)) h = h
buffer_of_known (Some _) h = omega arith

-- what a group binds
bound_small : (setup : Setup) (older : Past) (entries : List (GroupEntryOf ObjRef)) → AllSmall older → AreMet (named_rules setup older (entries_named entries)) → AreSmallEntries (map (bound_entry (λ r. r) (known_in older)) entries)
bound_small setup older [] all met = tt
bound_small setup older (entry ∷ entries) all met = by_resource entry.resource met (bound_small setup older entries all)
  where
    by_resource : (resource : ResourceOf ObjRef) → AreMet (named_rules setup older (resource_named resource ∷ entries_named entries))
        → (AreMet (named_rules setup older (entries_named entries)) → AreSmallEntries (map (bound_entry (λ r. r) (known_in older)) entries))
        → AreSmallEntries (bound_entry (λ r. r) (known_in older) (record { binding = entry.binding; resource = resource }) ∷ map (bound_entry (λ r. r) (known_in older)) entries)
    by_resource (BufferOf buffer offset size) met rest = (buffer_of_known (info_at older buffer.number) (known_small older buffer.number all met.1.1.0), rest met.1.1.1)
    by_resource (ViewOf view) met rest = (view_of_known (info_at older view.number) (known_small older view.number all met.1.1.0), rest met.1.1.1)
    by_resource (SamplerOf sampler) met rest = (tt, rest met.1.1.1)

-- genuine handles
handle_small : (setup : Setup) (past : Past) (handle : HandleValue) → AllSmall past → is_genuine setup past handle ≡ true → IsSmallHandle handle
handle_small setup past handle all genuine valid =
    let knows = genuine_knows setup past handle genuine valid in
    all handle.reference.number handle.info knows.valid knows.known

objects_small : (setup : Setup) (past : Past) (encoder : ℕ) (objects : List (HandleValue × Wanted)) → AllSmall past → list_any (is_barred setup past encoder) objects ≡ false → AreSmallNamed objects
objects_small setup past encoder [] all e = tt
objects_small setup past encoder (object ∷ objects) all e =
    let parts : (is_barred setup past encoder object ≡ false) × (list_any (is_barred setup past encoder) objects ≡ false) = or_parts (is_barred setup past encoder object) (list_any (is_barred setup past encoder) objects) e in
    (handle_small setup past object.0 all (and_parts _ _ (double_not _ parts.0)).0, objects_small setup past encoder objects all parts.1)

commands_small : (setup : Setup) (past : Past) (encoder : ℕ) (commands : Kept) → AllSmall past → any_barred setup past encoder commands ≡ false → EachKept IsSmallCommand commands
commands_small setup past encoder [] all e = tt
commands_small setup past encoder (kept ∷ commands) all e =
    let parts : (list_any (is_barred setup past encoder) (named kept.1) ≡ false) × (any_barred setup past encoder commands ≡ false) = or_parts (list_any (is_barred setup past encoder) (named kept.1)) (any_barred setup past encoder commands) e in
    (objects_small setup past encoder (named kept.1) all parts.0, commands_small setup past encoder commands all parts.1)

not_true_false : (b : Bool) → not b ≡ true → b ≡ false
not_true_false true e = sym e
not_true_false false e = refl

-- the object that an event makes whose rules are met
few_queries : (limits : Limits) → HaveFixed limits → limits.max_queries_per_set ≤ most_32
few_queries limits fixed = let same : limits.max_queries_per_set ≡ 4096 = fixed.queries_per_set in omega (arith, same)

few_bytes : (limits : Limits) → AreNoBetter limits → limits.max_buffer_size ≤ most_53
few_bytes limits best = let most : limits.max_buffer_size ≤ 4294967296 = leb-true limits.max_buffer_size 4294967296 (best MaxBufferSize) in omega (arith, most)

made_small : (setup : Setup) (older : Past) (event : Event) → AreNoBetter setup.limits → HaveFixed setup.limits → AllSmall older
    → is_made_valid (answer_by older (effects_of event).form (not (is_lost older) && is_none (first_rule setup older event))) ≡ true → IfSmall (info_made (known_in older) event)
unfolding create_view_rule create_bind_group_rule finish_bundle_rule
made_small setup older (CreateBuffer info) best fixed all made =
    let within = made_known setup older (CreateBuffer info) (known_in older) made in
    let most : setup.limits.max_buffer_size ≤ most_53 = few_bytes setup.limits best in
    omega (arith, within, most)
made_small setup older (CreateTexture info) best fixed all made =
    let within = made_known setup older (CreateTexture info) (known_in older) made in
    small_texture setup.limits info best within.0 within.1
made_small setup older (CreateQuerySet info) best fixed all made =
    let within = made_known setup older (CreateQuerySet info) (known_in older) made in
    let most : setup.limits.max_queries_per_set ≤ most_32 = few_queries setup.limits fixed in
    omega (arith, within, most)
made_small setup older (CreateView texture desc) best fixed all made =
    let met : AreMet (create_view_list setup older texture desc) = all_met (create_view_list setup older texture desc) (and_parts (not (is_lost older)) (is_none (create_view_rule setup older texture desc)) made).1 in
    texture_of_known (info_at older texture.number) (known_small older texture.number all met.1.1.0)
made_small setup older (CreateBindGroup layout entries) best fixed all made =
    let rules : List Rule = named_rules setup older (group_named layout entries) in
    let more : List Rule = group_rules setup.limits (group_made (λ r. r) (known_in older) layout entries).layout_info.entries (group_made (λ r. r) (known_in older) layout entries).entries in
    let met = all_met (rules ++ more) (and_parts (not (is_lost older)) (is_none (create_bind_group_rule setup older layout entries)) made).1 in
    let those : AreMet (named_rules setup older (group_named layout entries)) = met_before rules more met in
    bound_small setup older entries all those.1.1.1
made_small setup older (FinishBundle encoder recording) best fixed all made =
    let rules : is_none (finish_bundle_rule setup older encoder recording) ≡ true = (and_parts (not (is_lost older)) (is_none (finish_bundle_rule setup older encoder recording)) made).1 in
    let later = neither (first_unmet (encoder_rules setup older _ encoder)) (option_or (Verdict recording.maker recording.targets recording.commands) (first_unmet (kept_rules setup older encoder.number recording))) rules in
    let last = neither (Verdict recording.maker recording.targets recording.commands) (first_unmet (kept_rules setup older encoder.number recording)) later.1 in
    let met : AreMet (kept_rules setup older encoder.number recording) = all_met (kept_rules setup older encoder.number recording) last.1 in
    bundle_of_small recording.maker recording.targets recording.commands
    (commands_small setup older encoder.number recording.commands all (not_true_false (any_barred setup older encoder.number recording.commands) met.1.0))
made_small setup older _ best fixed all made = tt

all_small : (setup : Setup) (past : Past) → AreNoBetter setup.limits → HaveFixed setup.limits → IsRun setup past → AllSmall past
all_small setup [] best fixed run n known valid e = absurd (true≢false (sym valid))
all_small setup (entry ∷ older) best fixed run n known valid e =
    by_maker (is_making entry.event && count older == n) valid e (all_small setup older best fixed (others setup entry older run) n known) (all_small setup older best fixed (others setup entry older run))
  where
    by_maker : (b : Bool) → option_map_or (λ entry. is_made_valid entry.reply.answer) (if b then Some entry else maker older n) false ≡ true → (if b then info_made (λ object. info_at older object.number) entry.event else info_at older n) ≡ Some known
        → (is_valid older n ≡ true → info_at older n ≡ Some known → IsSmallInfo known) → AllSmall older → IsSmallInfo known
    by_maker true valid e rest all = subst IfSmall e (made_small setup older entry.event best fixed all (made_met setup entry older (newest setup entry older run) valid))
    by_maker false valid e rest all = rest valid e

-- What a recording does.
recorded_does : (maker : Maker) → Does maker IsSmallCommand (λ on doing. IsSmallDoing doing)
recorded_does maker = record {
  on_encoder = λ depth command small e. encoder_small maker depth command small e;
  in_pass = λ number begin earlier command first smalls small e. pass_does_small maker begin earlier command first smalls small e;
}

placed_small : (done : List Doing) → EachRow IsSmallDoing done → EachRow HasSmallRanges (map (placed (Op 0)) (map deed_of done))
placed_small [] h = tt
placed_small (doing ∷ done) h = (step_small doing h.0, placed_small done h.1)

recorded_small : (maker : Maker) (targets : Option TargetInfo) (commands : Kept) → EachKept IsSmallCommand commands → EachRow HasSmallRanges (map (placed (Op 0)) (DeedsOf maker targets commands))
recorded_small maker (Some targets) commands small = tt
recorded_small maker None commands small = by_rules (is_none (verdict maker (reverse commands)) && is_none (open_pass (reverse commands))) refl
  where
    by_rules : (b : Bool) → is_none (verdict maker (reverse commands)) && is_none (open_pass (reverse commands)) ≡ b → EachRow HasSmallRanges (map (placed (Op 0)) (if b then deeds (reverse commands) else []))
    by_rules false e = tt
    by_rules true e =
        let parts : (is_none (verdict maker (reverse commands)) ≡ true) × (is_none (open_pass (reverse commands)) ≡ true) = and_parts (is_none (verdict maker (reverse commands))) (is_none (open_pass (reverse commands))) e in
        placed_small (doings (reverse commands))
        (each_done IsSmallDoing (reverse commands)
        (walked maker IsSmallCommand (λ on doing. IsSmallDoing doing) (recorded_does maker) (reverse commands) (kept_reverse IsSmallCommand commands small) (none_is (verdict maker (reverse commands)) parts.0) (none_is (open_pass (reverse commands)) parts.1)))

-- What a valid command buffer does.
event_small : (setup : Setup) (older : Past) (event : Event) → AllSmall older
    → is_made_valid (answer_by older (effects_of event).form (not (is_lost older) && is_none (first_rule setup older event))) ≡ true → EachRow HasSmallRanges (map (placed (Op 0)) (deeds_by event))
unfolding finish_rule
event_small setup older (Finish encoder recording) all made =
    let rules : is_none (finish_rule setup older encoder recording) ≡ true = (and_parts (not (is_lost older)) (is_none (finish_rule setup older encoder recording)) made).1 in
    let later = neither (first_unmet (encoder_rules setup older _ encoder)) (option_or (Verdict recording.maker recording.targets recording.commands) (first_unmet (recording_rules setup older encoder.number recording))) rules in
    let last = neither (Verdict recording.maker recording.targets recording.commands) (first_unmet (recording_rules setup older encoder.number recording)) later.1 in
    let met : AreMet (recording_rules setup older encoder.number recording) = all_met (recording_rules setup older encoder.number recording) last.1 in
    recorded_small recording.maker recording.targets recording.commands
    (commands_small setup older encoder.number recording.commands all (not_true_false (any_barred setup older encoder.number recording.commands) met.1.1.0))
event_small setup older _ all made = tt

past_small : (setup : Setup) (past : Past) → AreNoBetter setup.limits → HaveFixed setup.limits → IsRun setup past → EachRow RecordsSmallRanges past
past_small setup [] best fixed run = tt
past_small setup (entry ∷ older) best fixed run = (
  λ valid. event_small setup older entry.event (all_small setup older best fixed (others setup entry older run)) (made_met setup entry older (newest setup entry older run) valid),
  past_small setup older best fixed (others setup entry older run),
)

each_reverse : (past : Past) → EachRow RecordsSmallRanges past → EachRow RecordsSmallRanges (reverse past)
each_reverse [] h = tt
each_reverse (entry ∷ older) h = subst (EachRow RecordsSmallRanges) (sym (reverse-append (entry ∷ []) older)) (each_joined RecordsSmallRanges (reverse older) (entry ∷ []) (each_reverse older h.1) (h.0, tt))

pub recordings_are_small : RecordingsAreSmall
recordings_are_small setup history run best fixed = subst (EachRow RecordsSmallRanges) (reverse-reverse history) (each_reverse (reverse history) (past_small setup (reverse history) best fixed run))
