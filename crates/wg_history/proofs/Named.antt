-- What the rules on named objects tell of those to which the object that is made refers.
use Rattle.std.proofs.Common.{◌≡◌, ℕ, ◌<◌, List, [], ◌∷◌, ◌++◌, map, Bool, true, false, not, ◌&&◌, ◌||◌, ◌==◌, Option, Some, None, is_some, is_none, option_map, refl, ap, ap₂, sym, ◌∙◌, arith, true≢false, inl, inr}
use Rattle.std.specs.List.{list_any}
use Rattle.std.specs.Option.{option_map_or}
use Rattle.std.proofs.lemmas.Bool.{and_parts, or_cases, eqb-true}
use Rattle.wg_types.specs.Refs.{some_wanted, maybe_wanted}
use Rattle.wg_types.specs.Bindings.{resource_named, entries_named}
use Rattle.wg_types.specs.declared.wanted.Wanted.{Wanted}
use Rattle.wg_types.specs.declared.handles.Info.{Info}
use Rattle.wg_types.specs.declared.wanted.Wanted.TheVariants as wanted
use Rattle.wg_types.specs.declared.bindings.ResourceOf.{ResourceOf}
use Rattle.wg_types.specs.declared.bindings.ResourceOf.TheVariants.{Buffer, View, Sampler}
use Rattle.wg_types.specs.declared.bindings.GroupEntryOf.{GroupEntryOf}
use Rattle.wg_types.specs.declared.bindings.BoundEntry.{BoundEntry}
use Rattle.wg_model.specs.Rules.{Rule, AreMet}
use Rattle.wg_model.specs.Holding.{is_among}
use Rattle.wg_model.specs.Layouts.{pipeline_layout_rules}
use Rattle.wg_model.specs.Automatic.{derived_rules, get_layout_rules}
use Rattle.wg_model.specs.Groups.{group_rules}
use Rattle.wg_model.specs.Pipelines.{compute_pipeline_rules}
use Rattle.wg_model.specs.RenderPipelines.{render_pipeline_rules}
use Rattle.wg_model.specs.Making.{bound_resource, bound_entry, given_layouts, pipeline_layout_made, group_made, compute_made, render_made}
use Rattle.wg_model.proofs.Unmet.{all_met}
use Rattle.wg_history.specs.Entries.{Setup, Event, CreateView, CreatePipelineLayout, CreateBindGroup, CreateComputePipeline, CreateRenderPipeline, GetBindGroupLayout, FinishBundle, effects_of, Past}
use Rattle.wg_history.specs.Objects.{ObjRef, count, info_made, unknown, known_in, is_made_valid}
use Rattle.wg_history.specs.Facts.{facts_of}
use Rattle.wg_history.specs.Rules.{is_dropped, create_view_list, create_view_rule}
use Rattle.wg_history.specs.GroupRules.{named_rules, group_named, create_pipeline_layout_rule, create_bind_group_rule, create_compute_pipeline_rule, create_render_pipeline_rule, get_bind_group_layout_rule}
use Rattle.wg_history.specs.Held.{resource_number, number_of, refers_made}
use Rattle.wg_history.specs.Loss.{is_lost}
use Rattle.wg_history.specs.FirstRules.{first_rule}
use Rattle.wg_history.specs.Answers.{answer_by}
use Rattle.wg_history.proofs.Tests.{not_true, met_before}
use Rattle.wg_history.proofs.Makers.{own_below}

-- whether one of named objects has number n
abbrev pub names_one : List (ObjRef × Wanted) → ℕ → Bool
names_one objects n = list_any (λ (object : ObjRef × Wanted). object.0.number == n) objects

-- An object that was made, and is not dropped.
abbrev pub IsThere : Setup → Past → ℕ → Type 0
IsThere setup past n = (n < count past) × (is_dropped setup past n ≡ false)

named_met : (setup : Setup) (past : Past) (objects : List (ObjRef × Wanted)) (n : ℕ) → AreMet (named_rules setup past objects) → names_one objects n ≡ true → IsThere setup past n
named_met setup past [] n met e = absurd (true≢false (sym e))
named_met setup past (object ∷ objects) n met e = elim (or_cases (object.0.number == n) (names_one objects n) e) [
  | inl here ↦ (
      let same = eqb-true object.0.number n here in
      let lt : object.0.number < count past = own_below setup past _ object.0 met.0 in
      (omega (arith, lt, same), ap (is_dropped setup past) (sym same) ∙ not_true (is_dropped setup past object.0.number) met.1.0))
  | inr later ↦ named_met setup past objects n met.1.1.1 later
]

-- To what an object refers is among those that its event names.

layouts_among : (layouts : List (Option ObjRef)) (n : ℕ) → is_among (map (λ (layout : ObjRef). layout.number) (given_layouts (λ r. r) layouts)) n ≡ names_one (some_wanted wanted.GroupLayout layouts) n
layouts_among [] n = refl
layouts_among (None ∷ layouts) n = layouts_among layouts n
layouts_among (Some layout ∷ layouts) n = ap (λ b. layout.number == n || b) (layouts_among layouts n)

resource_same : (resource : ResourceOf ObjRef) → resource_number (bound_resource (λ r. r) unknown resource) ≡ (resource_named resource).0.number
resource_same (Buffer buffer offset size) = refl
resource_same (View view) = refl
resource_same (Sampler sampler) = refl

entries_among : (entries : List (GroupEntryOf ObjRef)) (n : ℕ) → is_among (map (λ (entry : BoundEntry). resource_number entry.resource) (map (bound_entry (λ r. r) unknown) entries)) n ≡ names_one (entries_named entries) n
entries_among [] n = refl
entries_among (entry ∷ entries) n = ap₂ (λ m b. m == n || b) (resource_same entry.resource) (entries_among entries n)

maybe_among : (layout : Option ObjRef) (n : ℕ) → is_among (number_of (option_map (λ (r : ObjRef). r) layout)) n ≡ names_one (maybe_wanted wanted.PipelineLayout layout) n
maybe_among None n = refl
maybe_among (Some layout) n = refl

-- whether an event makes a bundle, which refers to what its commands name
abbrev pub makes_bundle : Event → Bool
makes_bundle event = option_map_or (λ (info : Info). is_some (facts_of info).bundle) (info_made unknown event) false

-- What another valid object refers to when it is made was made, and was not dropped.
pub object_refers : (setup : Setup) (older : Past) (event : Event) (n : ℕ) → makes_bundle event ≡ false → is_made_valid (answer_by older (effects_of event).form (not (is_lost older) && is_none (first_rule setup older event))) ≡ true → is_among (refers_made event) n ≡ true → IsThere setup older n
unfolding create_view_rule create_pipeline_layout_rule create_bind_group_rule create_compute_pipeline_rule create_render_pipeline_rule get_bind_group_layout_rule
object_refers setup older (CreateView texture desc) n other made refers =
    let met = all_met (create_view_list setup older texture desc) (and_parts (not (is_lost older)) (is_none (create_view_rule setup older texture desc)) made).1 in
    let same : texture.number ≡ n = elim (or_cases (texture.number == n) false refers) [
      | inl here ↦ eqb-true texture.number n here
      | inr none ↦ absurd (true≢false (sym none))
    ] in
    let lt : texture.number < count older = own_below setup older _ texture met.0 in
    (omega (arith, lt, same), ap (is_dropped setup older) (sym same) ∙ not_true (is_dropped setup older texture.number) met.1.0)
object_refers setup older (CreatePipelineLayout layouts) n other made refers =
    let rules : List Rule = named_rules setup older (some_wanted wanted.GroupLayout layouts) in
    let more : List Rule = pipeline_layout_rules setup.limits (pipeline_layout_made (λ r. r) (known_in older) layouts).layouts_info in
    let met = all_met (rules ++ more) (and_parts (not (is_lost older)) (is_none (create_pipeline_layout_rule setup older layouts)) made).1 in
    named_met setup older (some_wanted wanted.GroupLayout layouts) n (met_before rules more met) (sym (layouts_among layouts n) ∙ refers)
object_refers setup older (CreateBindGroup layout entries) n other made refers =
    let rules : List Rule = named_rules setup older (group_named layout entries) in
    let more : List Rule = group_rules setup.limits (group_made (λ r. r) (known_in older) layout entries).layout_info.entries (group_made (λ r. r) (known_in older) layout entries).entries in
    let met = all_met (rules ++ more) (and_parts (not (is_lost older)) (is_none (create_bind_group_rule setup older layout entries)) made).1 in
    named_met setup older (group_named layout entries) n (met_before rules more met) (ap (λ b. layout.number == n || b) (sym (entries_among entries n)) ∙ refers)
object_refers setup older (CreateComputePipeline layout iface) n other made refers =
    let rules : List Rule = named_rules setup older (maybe_wanted wanted.PipelineLayout layout) in
    let more : List Rule = derived_rules setup.limits layout iface.entries ++ compute_pipeline_rules (compute_made (λ r. r) (known_in older) layout iface).layout_info.layouts_info iface.entries in
    let met = all_met (rules ++ more) (and_parts (not (is_lost older)) (is_none (create_compute_pipeline_rule setup older layout iface)) made).1 in
    named_met setup older (maybe_wanted wanted.PipelineLayout layout) n (met_before rules more met) (sym (maybe_among layout n) ∙ refers)
object_refers setup older (CreateRenderPipeline layout desc) n other made refers =
    let rules : List Rule = named_rules setup older (maybe_wanted wanted.PipelineLayout layout) in
    let more : List Rule = derived_rules setup.limits layout desc.iface ++ render_pipeline_rules setup.limits (render_made (λ r. r) (known_in older) layout desc).layout_info.layouts_info desc in
    let met = all_met (rules ++ more) (and_parts (not (is_lost older)) (is_none (create_render_pipeline_rule setup older layout desc)) made).1 in
    named_met setup older (maybe_wanted wanted.PipelineLayout layout) n (met_before rules more met) (sym (maybe_among layout n) ∙ refers)
object_refers setup older (GetBindGroupLayout pipeline index) n other made refers =
    let rules : List Rule = named_rules setup older ((pipeline, wanted.Pipeline) ∷ []) in
    let more : List Rule = get_layout_rules (known_in older pipeline) index in
    let met = all_met (rules ++ more) (and_parts (not (is_lost older)) (is_none (get_bind_group_layout_rule setup older pipeline index)) made).1 in
    named_met setup older ((pipeline, wanted.Pipeline) ∷ []) n (met_before rules more met) refers
object_refers setup older (FinishBundle encoder recording) n other made refers = absurd (true≢false other)
object_refers setup older _ n other made refers = absurd (true≢false (sym refers))
