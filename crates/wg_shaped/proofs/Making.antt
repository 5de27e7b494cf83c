-- The groups are whole that commands set whose handles are genuine, so that each valid bundle of a history touches what they name.
use Rattle.std.specs.Prelude.{reverse}
use Rattle.std.specs.List.{list_all}
use Rattle.std.specs.Option.{option_or, option_map, option_map_or}
use Rattle.std.proofs.Common.{◌≡◌, ℕ, ◌+◌, ◌≤◌, ◌==◌, ◌&&◌, not, nat_lt, nat_le, List, [], ◌∷◌, ◌++◌, map, Bool, true, false, Option, Some, None, is_some, is_none, refl, sym, subst, arith, eq-eqb, if◌then◌else◌, true≢false}
use Rattle.std.specs.List.{list_any}
use Rattle.std.proofs.lemmas.Bool.{and_parts, and_from, or_parts, leb-true, le-leb, lt-ltb}
use Rattle.wg_types.specs.declared.limits.Maker.{Maker}
use Rattle.wg_types.specs.Kinds.{kind_of}
use Rattle.wg_types.specs.Wanted.{admits}
use Rattle.wg_types.specs.Bindings.{entry_of, resource_named, entries_named}
use Rattle.wg_types.specs.Formats.{row}
use Rattle.wg_types.specs.Handles.{HandleValue}
use Rattle.wg_types.specs.Commands.{Command, named}
use Rattle.wg_types.specs.declared.commands.CommandOf.TheVariants.{SetBindGroup}
use Rattle.wg_types.specs.declared.commands.On.{On}
use Rattle.wg_types.specs.declared.wanted.Wanted.{Wanted}
use Rattle.wg_types.specs.declared.wanted.Wanted.TheVariants as wanted
use Rattle.wg_types.specs.declared.bindings.BoundEntry.{BoundEntry}
use Rattle.wg_types.specs.declared.bindings.GroupEntryOf.{GroupEntryOf}
use Rattle.wg_types.specs.declared.bindings.LayoutEntry.{LayoutEntry}
use Rattle.wg_types.specs.declared.bindings.ResourceOf.{ResourceOf}
use Rattle.wg_types.specs.declared.bindings.ResourceOf.TheVariants.{Buffer, View, Sampler}
use Rattle.wg_types.specs.declared.formats.FormatAspects.{FormatAspects}
use Rattle.wg_types.specs.declared.formats.FormatAspects.TheVariants as aspects
use Rattle.wg_types.specs.declared.groups.GroupInfo.{GroupInfo}
use Rattle.wg_types.specs.declared.handles.Info.{Info}
use Rattle.wg_types.specs.declared.handles.Info.TheVariants.{View as ViewKind, Group as GroupKind}
use Rattle.wg_types.specs.declared.handles.ObjRef.{ObjRef}
use Rattle.wg_types.specs.declared.render.TargetInfo.{TargetInfo}
use Rattle.wg_types.specs.declared.textures.AspectWord.{AspectWord}
use Rattle.wg_types.specs.declared.textures.AspectWord.TheVariants.{All, DepthOnly, StencilOnly}
use Rattle.wg_types.specs.declared.textures.ViewInfo.{ViewInfo}
use Rattle.wg_rows.specs.Rows.{EachRow, in_range}
use Rattle.wg_rows.specs.Runs.{Aspect, Color, Depth, Stencil, Part, Subresource}
use Rattle.wg_model.specs.Rules.{Rule, AreMet, first_unmet}
use Rattle.wg_model.specs.Formats.{has_named, named_aspects}
use Rattle.wg_model.specs.Textures.{layer_count}
use Rattle.wg_model.specs.Subresources.{is_aspect_of}
use Rattle.wg_model.specs.Groups.{group_rules}
use Rattle.wg_model.specs.Making.{known_view, bound_resource, bound_entry, view_made, group_made}
use Rattle.wg_model.specs.Bound.{group_in, known_group}
use Rattle.wg_model.specs.Walk.{Verdict, bundle_of}
use Rattle.wg_model.proofs.Unmet.{all_met}
use Rattle.wg_subres.specs.Has.{view_has}
use Rattle.wg_history.specs.declared.events.Setup.{Setup}
use Rattle.wg_history.specs.declared.events.Event.{Event}
use Rattle.wg_history.specs.declared.events.Event.TheVariants.{CreateView, CreateBindGroup, FinishBundle}
use Rattle.wg_history.specs.Entries.{Entry, Past, effects_of}
use Rattle.wg_history.specs.Objects.{is_making, count, maker, info_made, known_in, info_at, is_valid, is_made_valid}
use Rattle.wg_history.specs.Loss.{is_lost}
use Rattle.wg_history.specs.Rules.{create_view_list, create_view_rule, is_genuine, is_barred, any_barred, encoder_rules, kept_rules, finish_bundle_rule}
use Rattle.wg_history.specs.GroupRules.{named_rules, group_named, create_bind_group_rule}
use Rattle.wg_history.specs.FirstRules.{first_rule}
use Rattle.wg_history.specs.Answers.{IsRun, answer_by}
use Rattle.wg_history.proofs.Makers.{made_met}
use Rattle.wg_history.proofs.Runs.{newest, others}
use Rattle.wg_history.proofs.Tests.{met_before}
use Rattle.wg_history.proofs.Reached.{Knows, genuine_knows, double_not}
use Rattle.wg_shaped.specs.Bundled.{MayStand, IsWholeResource, IsWholeEntry, IsWholeGroup, IsWholeCommand, TouchesWhatIsNamed, HistoryTouchesWhatItNames}
use Rattle.wg_shaped.proofs.Genuine.{or_none}
use Rattle.wg_shaped.proofs.Recorded.{none_is}
use Rattle.wg_shaped.proofs.Naming.{bundles_touch_what_they_name}

-- A valid view has a subresource.
abbrev Has : ViewInfo → Type 0
Has view = (p : Part) × (view_has view p ≡ true)

some_aspect : (word : AspectWord) (has : FormatAspects) → has_named word has ≡ true → (aspect : Aspect) × (is_aspect_of aspect (named_aspects word has) ≡ true)
some_aspect All aspects.Color e = (Color, refl)
some_aspect All aspects.Depth e = (Depth, refl)
some_aspect All aspects.DepthStencil e = (Depth, refl)
some_aspect All aspects.Stencil e = (Stencil, refl)
some_aspect DepthOnly aspects.Depth e = (Depth, refl)
some_aspect DepthOnly aspects.DepthStencil e = (Depth, refl)
some_aspect DepthOnly aspects.Color e = absurd (true≢false (sym e))
some_aspect DepthOnly aspects.Stencil e = absurd (true≢false (sym e))
some_aspect StencilOnly aspects.Stencil e = (Stencil, refl)
some_aspect StencilOnly aspects.DepthStencil e = (Stencil, refl)
some_aspect StencilOnly aspects.Color e = absurd (true≢false (sym e))
some_aspect StencilOnly aspects.Depth e = absurd (true≢false (sym e))

-- a range that has a number and ends within a count has its first number, below that count
first_in : (lo n most : ℕ) → nat_le 1 n && nat_le (lo + n) most ≡ true → (in_range lo (lo + n) lo && nat_lt lo most) ≡ true
first_in lo n most e =
    let tests : (nat_le 1 n ≡ true) × (nat_le (lo + n) most ≡ true) = and_parts (nat_le 1 n) (nat_le (lo + n) most) e in
    let some : 1 ≤ n = leb-true 1 n tests.0 in
    let within : lo + n ≤ most = leb-true (lo + n) most tests.1 in
    and_from (in_range lo (lo + n) lo) (nat_lt lo most)
    (and_from (nat_le lo lo) (nat_lt lo (lo + n)) (le-leb lo lo (omega arith)) (lt-ltb lo (lo + n) (omega (arith, some))))
    (lt-ltb lo most (omega (arith, some, within)))

view_had : (view : ViewInfo) → has_named view.aspect (row view.texture_info.format).aspects ≡ true → nat_le 1 view.mips && nat_le (view.base_mip + view.mips) view.texture_info.mips ≡ true
    → nat_le 1 view.layers && nat_le (view.base_layer + view.layers) (layer_count view.texture_info) ≡ true → Has view
view_had view named mips layers =
    let one : (aspect : Aspect) × (is_aspect_of aspect (named_aspects view.aspect (row view.texture_info.format).aspects) ≡ true) = some_aspect view.aspect (row view.texture_info.format).aspects named in (
      Subresource view.texture.number one.0 view.base_mip view.base_layer,
      and_from (view.texture.number == view.texture.number) _ (eq-eqb view.texture.number view.texture.number refl)
          (and_from (is_aspect_of one.0 (named_aspects view.aspect (row view.texture_info.format).aspects)) _ one.1
          (and_from (in_range view.base_mip (view.base_mip + view.mips) view.base_mip && nat_lt view.base_mip view.texture_info.mips) _ (first_in view.base_mip view.mips view.texture_info.mips mips)
          (first_in view.base_layer view.layers (layer_count view.texture_info) layers))),
    )

made_has : (setup : Setup) (older : Past) (event : Event) (known : ViewInfo) → info_made (known_in older) event ≡ Some (ViewKind known)
    → is_made_valid (answer_by older (effects_of event).form (not (is_lost older) && is_none (first_rule setup older event))) ≡ true → Has known
unfolding create_view_rule
made_has setup older (CreateView texture desc) known e made =
    let met : AreMet (create_view_list setup older texture desc) = all_met (create_view_list setup older texture desc) (and_parts (not (is_lost older)) (is_none (create_view_rule setup older texture desc)) made).1 in
    let same : view_made (λ r. r) (known_in older) texture desc ≡ known = cc in
    subst Has same (view_had (view_made (λ r. r) (known_in older) texture desc) met.1.1.1.0 met.1.1.1.1.0 met.1.1.1.1.1.0)
made_has setup older _ known e made = absurd (cc)

view_whole : (setup : Setup) (past : Past) (v : ℕ) (known : ViewInfo) → IsRun setup past → is_valid past v ≡ true → info_at past v ≡ Some (ViewKind known) → Has known
view_whole setup [] v known run valid e = absurd (true≢false (sym valid))
view_whole setup (entry ∷ older) v known run valid e = by_maker (is_making entry.event && count older == v) valid e (view_whole setup older v known (others setup entry older run))
  where
    by_maker : (b : Bool) → option_map_or (λ entry. is_made_valid entry.reply.answer) (if b then Some entry else maker older v) false ≡ true → (if b then info_made (λ object. info_at older object.number) entry.event else info_at older v) ≡ Some (ViewKind known)
        → (is_valid older v ≡ true → info_at older v ≡ Some (ViewKind known) → Has known) → Has known
    by_maker true valid e rest = made_has setup older entry.event known e (made_met setup entry older (newest setup entry older run) valid)
    by_maker false valid e rest = rest valid e

-- A valid group is whole.
bound_whole : (setup : Setup) (past : Past) (v : ℕ) (o : Option Info) → IsRun setup past → is_valid past v ≡ true → info_at past v ≡ o → option_map_or (λ known. admits wanted.View (kind_of known)) o false ≡ true → Has (known_view o)
bound_whole setup past v None run valid e own = absurd (true≢false (sym own))
bound_whole setup past v (Some (ViewKind known)) run valid e own = view_whole setup past v known run valid e
bound_whole setup past v (Some _) run valid e own = absurd (true≢false (sym own))

resource_whole : (setup : Setup) (older : Past) (resource : ResourceOf ObjRef) (more : List (ObjRef × Wanted)) → IsRun setup older → AreMet (named_rules setup older (resource_named resource ∷ more)) → IsWholeResource (bound_resource (λ r. r) (known_in older) resource)
resource_whole setup older (Buffer buffer offset size) more run met = tt
resource_whole setup older (Sampler sampler) more run met = tt
resource_whole setup older (View view) more run met = bound_whole setup older view.number (info_at older view.number) run met.1.1.0 refl (and_parts (view.device == setup.serial) _ met.0).1

abbrev asks : List LayoutEntry → BoundEntry → Bool
asks layout entry = is_some (entry_of layout entry.binding)

entries_whole : (setup : Setup) (older : Past) (layout : List LayoutEntry) (entries : List (GroupEntryOf ObjRef)) → IsRun setup older → AreMet (named_rules setup older (entries_named entries))
    → list_all (asks layout) (map (bound_entry (λ r. r) (known_in older)) entries) ≡ true → EachRow (IsWholeEntry layout) (map (bound_entry (λ r. r) (known_in older)) entries)
entries_whole setup older layout [] run met e = tt
entries_whole setup older layout (entry ∷ entries) run met e =
    let parts : (asks layout (bound_entry (λ r. r) (known_in older) entry) ≡ true) × (list_all (asks layout) (map (bound_entry (λ r. r) (known_in older)) entries) ≡ true) = and_parts (asks layout (bound_entry (λ r. r) (known_in older) entry)) (list_all (asks layout) (map (bound_entry (λ r. r) (known_in older)) entries)) e in
    (record { asked = parts.0; whole = resource_whole setup older entry.resource (entries_named entries) run met }, entries_whole setup older layout entries run met.1.1.1 parts.1)

-- what is met behind others
met_after : (xs ys : List Rule) → AreMet (xs ++ ys) → AreMet ys
met_after [] ys h = h
met_after (x ∷ xs) ys h = met_after xs ys h.1

made_whole : (setup : Setup) (older : Past) (event : Event) (group : GroupInfo) → IsRun setup older → info_made (known_in older) event ≡ Some (GroupKind group)
    → is_made_valid (answer_by older (effects_of event).form (not (is_lost older) && is_none (first_rule setup older event))) ≡ true → IsWholeGroup (Some group)
unfolding create_bind_group_rule
made_whole setup older (CreateBindGroup layout entries) group run e made =
    let new : GroupInfo = group_made (λ r. r) (known_in older) layout entries in
    let rules : List Rule = named_rules setup older (group_named layout entries) in
    let more : List Rule = group_rules setup.limits (group_made (λ r. r) (known_in older) layout entries).layout_info.entries (group_made (λ r. r) (known_in older) layout entries).entries in
    let met = all_met (rules ++ more) (and_parts (not (is_lost older)) (is_none (create_bind_group_rule setup older layout entries)) made).1 in
    let those : AreMet (named_rules setup older (group_named layout entries)) = met_before rules more met in
    let matched : AreMet more = met_after rules more met in
    let same : group_made (λ r. r) (known_in older) layout entries ≡ group = cc in
    subst (λ (g : GroupInfo). IsWholeGroup (Some g)) same
    (entries_whole setup older new.layout_info.entries entries run those.1.1.1 (and_parts _ (list_all (asks new.layout_info.entries) new.entries) matched.0).1)
made_whole setup older _ group run e made = absurd (cc)

group_whole : (setup : Setup) (past : Past) (g : ℕ) (group : GroupInfo) → IsRun setup past → is_valid past g ≡ true → info_at past g ≡ Some (GroupKind group) → IsWholeGroup (Some group)
group_whole setup [] g group run valid e = absurd (true≢false (sym valid))
group_whole setup (entry ∷ older) g group run valid e = by_maker (is_making entry.event && count older == g) valid e (group_whole setup older g group (others setup entry older run))
  where
    by_maker : (b : Bool) → option_map_or (λ entry. is_made_valid entry.reply.answer) (if b then Some entry else maker older g) false ≡ true → (if b then info_made (λ object. info_at older object.number) entry.event else info_at older g) ≡ Some (GroupKind group)
        → (is_valid older g ≡ true → info_at older g ≡ Some (GroupKind group) → IsWholeGroup (Some group)) → IsWholeGroup (Some group)
    by_maker true valid e rest = made_whole setup older entry.event group (others setup entry older run) e (made_met setup entry older (newest setup entry older run) valid)
    by_maker false valid e rest = rest valid e

-- So are the groups that genuine handles are of, which commands set.
handle_whole : (setup : Setup) (past : Past) (handle : HandleValue) → IsRun setup past → is_genuine setup past handle ≡ true → IsWholeGroup (known_group handle)
handle_whole setup past handle run genuine = by_valid handle.valid refl
  where
    by_info : (info : Info) → Knows past handle.reference.number info → IsWholeGroup (group_in info)
    by_info (GroupKind group) k = group_whole setup past handle.reference.number group run k.valid k.known
    by_info _ k = tt

    by_valid : (b : Bool) → handle.valid ≡ b → IsWholeGroup (if b then group_in handle.info else None)
    by_valid true e = by_info handle.info (genuine_knows setup past handle genuine e)
    by_valid false e = tt

genuine_first : (setup : Setup) (past : Past) (encoder : ℕ) (object : HandleValue × Wanted) (objects : List (HandleValue × Wanted)) → list_any (is_barred setup past encoder) (object ∷ objects) ≡ false → is_genuine setup past object.0 ≡ true
genuine_first setup past encoder object objects e =
    let parts : (is_barred setup past encoder object ≡ false) × (list_any (is_barred setup past encoder) objects ≡ false) = or_parts (is_barred setup past encoder object) (list_any (is_barred setup past encoder) objects) e in
    (and_parts _ _ (double_not _ parts.0)).0

command_whole : (setup : Setup) (past : Past) (encoder : ℕ) (command : Command) → IsRun setup past → list_any (is_barred setup past encoder) (named command) ≡ false → IsWholeCommand command
command_whole setup past encoder (SetBindGroup index None offsets) run e = tt
command_whole setup past encoder (SetBindGroup index (Some group) offsets) run e = handle_whole setup past group run (genuine_first setup past encoder (group, wanted.Group) [] e)
command_whole setup past encoder _ run e = tt

kept_whole : (setup : Setup) (past : Past) (encoder : ℕ) (commands : List (On × Command)) → IsRun setup past → any_barred setup past encoder commands ≡ false → EachRow (λ (kept : On × Command). IsWholeCommand kept.1) commands
kept_whole setup past encoder [] run e = tt
kept_whole setup past encoder (kept ∷ commands) run e =
    let parts : (list_any (is_barred setup past encoder) (named kept.1) ≡ false) × (any_barred setup past encoder commands ≡ false) = or_parts (list_any (is_barred setup past encoder) (named kept.1)) (any_barred setup past encoder commands) e in
    (command_whole setup past encoder kept.1 run parts.0, kept_whole setup past encoder commands run parts.1)

-- a bundle that is made
not_true_false : (b : Bool) → not b ≡ true → b ≡ false
not_true_false true e = sym e
not_true_false false e = refl

bundle_named : (setup : Setup) (older : Past) (encoder : ObjRef) (made_by : Maker) (targets : TargetInfo) (commands : List (On × Command)) → IsRun setup older → MayStand commands
    → is_none (finish_bundle_rule setup older encoder (record { maker = made_by; targets = Some targets; commands = commands })) ≡ true
    → TouchesWhatIsNamed (bundle_of made_by (Some targets) commands) commands
unfolding finish_bundle_rule
bundle_named setup older encoder made_by targets commands run stand rules =
    let later = or_none (first_unmet (encoder_rules setup older _ encoder)) (option_or (Verdict made_by (Some targets) commands) (first_unmet (kept_rules setup older encoder.number (record { maker = made_by; targets = Some targets; commands = commands })))) rules in
    let last = or_none (Verdict made_by (Some targets) commands) (first_unmet (kept_rules setup older encoder.number (record { maker = made_by; targets = Some targets; commands = commands }))) later.1 in
    let met : AreMet (kept_rules setup older encoder.number (record { maker = made_by; targets = Some targets; commands = commands })) = all_met (kept_rules setup older encoder.number (record { maker = made_by; targets = Some targets; commands = commands })) last.1 in
    bundles_touch_what_they_name made_by targets commands stand
    (kept_whole setup older encoder.number commands run (not_true_false (any_barred setup older encoder.number commands) met.1.0))
    (none_is (Verdict made_by (Some targets) commands) last.0)

abbrev made_bundle : ObjRef → Maker → TargetInfo → List (On × Command) → Event
made_bundle encoder made_by targets commands = FinishBundle encoder (record { maker = made_by; targets = Some targets; commands = commands })

-- No rule of a bundle's commands is unmet where its finish is accepted.
pub no_verdict : (setup : Setup) (older : Past) (encoder : ObjRef) (made_by : Maker) (targets : TargetInfo) (commands : List (On × Command))
    → is_none (finish_bundle_rule setup older encoder (record { maker = made_by; targets = Some targets; commands = commands })) ≡ true → Verdict made_by (Some targets) commands ≡ None
unfolding finish_bundle_rule
no_verdict setup older encoder made_by targets commands rules =
    let later = or_none (first_unmet (encoder_rules setup older _ encoder)) (option_or (Verdict made_by (Some targets) commands) (first_unmet (kept_rules setup older encoder.number (record { maker = made_by; targets = Some targets; commands = commands })))) rules in
    none_is (Verdict made_by (Some targets) commands)
    (or_none (Verdict made_by (Some targets) commands) (first_unmet (kept_rules setup older encoder.number (record { maker = made_by; targets = Some targets; commands = commands }))) later.1).0

-- A finish of a bundle encoder was accepted after some beginning of a run.
pub record WasAccepted (setup : Setup) (encoder : ObjRef) (made_by : Maker) (targets : TargetInfo) (commands : List (On × Command)) : Type 0 where
  pub older : Past
  pub run : IsRun setup older
  pub met : is_none (finish_bundle_rule setup older encoder (record { maker = made_by; targets = Some targets; commands = commands })) ≡ true

pub past_accepted : (setup : Setup) (past : Past) (bundle : ℕ) (encoder : ObjRef) (made_by : Maker) (targets : TargetInfo) (commands : List (On × Command)) → IsRun setup past → is_valid past bundle ≡ true
    → option_map (λ (entry : Entry). entry.event) (maker past bundle) ≡ Some (made_bundle encoder made_by targets commands) → WasAccepted setup encoder made_by targets commands
past_accepted setup [] bundle encoder made_by targets commands run valid e = absurd (true≢false (sym valid))
past_accepted setup (entry ∷ older) bundle encoder made_by targets commands run valid e =
    by_maker (is_making entry.event && count older == bundle) valid e (λ valid e. past_accepted setup older bundle encoder made_by targets commands (others setup entry older run) valid e)
  where
    made : entry.event ≡ made_bundle encoder made_by targets commands → is_made_valid (answer_by older (effects_of entry.event).form (not (is_lost older) && is_none (first_rule setup older entry.event))) ≡ true → WasAccepted setup encoder made_by targets commands
    made same met =
        let those : is_made_valid (answer_by older (effects_of (made_bundle encoder made_by targets commands)).form (not (is_lost older) && is_none (first_rule setup older (made_bundle encoder made_by targets commands)))) ≡ true = subst (λ (event : Event). is_made_valid (answer_by older (effects_of event).form (not (is_lost older) && is_none (first_rule setup older event))) ≡ true) same met in
        record {
          older = older;
          run = others setup entry older run;
          met = (and_parts (not (is_lost older)) (is_none (finish_bundle_rule setup older encoder (record { maker = made_by; targets = Some targets; commands = commands }))) those).1;
        }

    by_maker : (b : Bool) → option_map_or (λ entry. is_made_valid entry.reply.answer) (if b then Some entry else maker older bundle) false ≡ true → option_map (λ (entry : Entry). entry.event) (if b then Some entry else maker older bundle) ≡ Some (made_bundle encoder made_by targets commands)
        → (is_valid older bundle ≡ true → option_map (λ (entry : Entry). entry.event) (maker older bundle) ≡ Some (made_bundle encoder made_by targets commands) → WasAccepted setup encoder made_by targets commands)
        → WasAccepted setup encoder made_by targets commands
    by_maker true valid e rest = made (cc) (made_met setup entry older (newest setup entry older run) valid)
    by_maker false valid e rest = rest valid e

pub history_touches_what_it_names : HistoryTouchesWhatItNames
history_touches_what_it_names setup history bundle encoder made_by targets commands run valid e stand =
    let accepted : WasAccepted setup encoder made_by targets commands = past_accepted setup (reverse history) bundle encoder made_by targets commands run valid e in
    bundle_named setup accepted.older encoder made_by targets commands accepted.run stand accepted.met
