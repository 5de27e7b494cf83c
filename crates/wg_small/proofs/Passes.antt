-- What passes and bundles touch is small.
use Rattle.std.specs.Prelude.{nat_lt}
use Rattle.std.specs.List.{flat_map, list_all}
use Rattle.std.specs.Option.{option_to_list}
use Rattle.std.proofs.Common.{◌≡◌, ℕ, ◌<◌, ◌≤◌, List, [], ◌∷◌, ◌++◌, map, Bool, true, false, Option, Some, None, arith, refl, if◌then◌else◌}
use Rattle.std.proofs.lemmas.Bool.{and_parts, ltb-true}
use Rattle.wg_types.specs.declared.limits.CommandLimits.{CommandLimits}
use Rattle.wg_types.specs.declared.limits.Maker.{Maker}
use Rattle.wg_types.specs.Handles.{HandleValue}
use Rattle.wg_types.specs.Commands.{Command, bracket, named, named_on}
use Rattle.wg_types.specs.Refs.{maybe_wanted}
use Rattle.wg_types.specs.Render.{color_named, targets_named, depth_named}
use Rattle.wg_types.specs.declared.bundles.BundleTouch.{BundleTouch}
use Rattle.wg_types.specs.declared.commands.Bracket.{Bracket}
use Rattle.wg_types.specs.declared.commands.Bracket.TheVariants as brackets
use Rattle.wg_types.specs.declared.commands.CommandOf.TheVariants.{BeginComputePass, BeginRenderPass, SetBindGroup, Dispatch, DispatchIndirect, SetVertexBuffer, SetIndexBuffer, DrawIndirect, DrawIndexedIndirect, BeginOcclusionQuery, ExecuteBundles}
use Rattle.wg_types.specs.declared.handles.Info.{Info}
use Rattle.wg_types.specs.declared.handles.Info.TheVariants.{Bundle}
use Rattle.wg_types.specs.declared.render.TargetInfo.{TargetInfo}
use Rattle.wg_types.specs.declared.wanted.Kind.{Kind}
use Rattle.wg_types.specs.declared.wanted.Kind.TheVariants as kind
use Rattle.wg_types.specs.declared.wanted.Wanted.{Wanted}
use Rattle.wg_types.specs.declared.wanted.Wanted.TheVariants as wanted
use Rattle.wg_types.specs.Refs.{all_wanted}
use Rattle.wg_rows.specs.Runs.{Cells, Bytes, Layers, Slices, Queries}
use Rattle.wg_rows.specs.Uses.{Write}
use Rattle.wg_readtrace.specs.Forms.{most_32}
use Rattle.wg_model.specs.Rules.{AreMet, first_unmet}
use Rattle.wg_model.specs.Commands.{common_rules, debug_rules, size_or_rest}
use Rattle.wg_model.specs.Textures.{extent}
use Rattle.wg_types.specs.Textures.{depth}
use Rattle.wg_model.specs.Bound.{set_places}
use Rattle.wg_model.specs.Bundles.{bundle_in, known_bundle, bundle_touch, known_touches, executed_touches}
use Rattle.wg_model.specs.Settings.{Settings, settings, group_given, given_rules, end_rules, ready_rules, indirect_rules, indirect_touch, layouts_set}
use Rattle.wg_model.specs.Compute.{compute_rules, dispatch_rules, dispatch_touches, compute_does}
use Rattle.wg_model.specs.Queries.{Occlusion, set_of_pass, count_given, begin_query_rules, pass_end_rules, query_begun_touches}
use Rattle.wg_model.specs.Attachments.{RenderBegin, ColorTarget, DepthTarget, color_view, color_attached, slice_fits, is_deep, handle_cells, sliced, color_cells, attach_kind, attached, attachment_usage, resolve_touches, color_touches, depth_touch, depth_touches, targets_touches, begin_rules, begun_rules}
use Rattle.wg_model.specs.Render.{RenderSet, render_set, bundle_set, touches_over, command_touches, bound_group_touches, render_rules, draws_rules, drawing_rules, pipeline_given_rules, render_does, render_does_by}
use Rattle.wg_model.specs.Settings.{pipeline_given}
use Rattle.wg_model.specs.Walk.{begun_rule, compute_rule, render_rule, rule_in, pass_rule, bundle_rule, bundle_verdict, pass_does}
use Rattle.wg_shaped.proofs.Recorded.{each_parts}
use Rattle.wg_small.specs.Small.{HaveSmallRange}
use Rattle.wg_small.proofs.Known.{AreSmall, AreSmallTouched, IsSmallInfo, IsSmallHandle, queries_small, attached_small, attachment_small}
use Rattle.wg_small.proofs.Bound.{IsSmallTouch, AreSmallTouches, mapped_small, both_touched, IsGivenSmall, AreSetSmall, given_small, more_set, bound_small, touched_places}
use Rattle.wg_shaped.proofs.Walked.{or_none}
use Rattle.wg_small.proofs.Meeting.{none_met, met_front, met_behind, AreSmallNamed, IsSmallCommand, AreSmallCommands, AreValid, all_valid, command_valid}
use Rattle.wg_small.proofs.Copies.{IsDoneSmall, range_small}

-- what is set in a compute pass
given_met : (command : Command) → IsSmallCommand command → AreMet (given_rules command) → IsGivenSmall (group_given command)
given_met (SetBindGroup index None offsets) small met = tt
given_met (SetBindGroup index (Some group) offsets) small met = given_small index (record { group = group; offsets = offsets }) small.0 met
given_met _ small met = tt

compute_given : (set : Settings) (command : Command) → AreMet (compute_rules set command) → AreMet (given_rules command)
compute_given set command met =
    met_front (given_rules command) (dispatch_rules set command)
    (met_behind (end_rules set.depth command) (given_rules command ++ dispatch_rules set command)
    (met_behind (debug_rules set.depth command) (end_rules set.depth command ++ (given_rules command ++ dispatch_rules set command)) met))

compute_dispatches : (set : Settings) (command : Command) → AreMet (compute_rules set command) → AreMet (dispatch_rules set command)
compute_dispatches set command met =
    met_behind (given_rules command) (dispatch_rules set command)
    (met_behind (end_rules set.depth command) (given_rules command ++ dispatch_rules set command)
    (met_behind (debug_rules set.depth command) (end_rules set.depth command ++ (given_rules command ++ dispatch_rules set command)) met))

compute_set : (maker : Maker) (earlier : List Command) → AreSmallCommands earlier → pass_rule maker BeginComputePass earlier ≡ None → AreSetSmall earlier
compute_set maker [] small e at = tt
compute_set maker (command ∷ earlier) small e at =
    let parts : (pass_rule maker BeginComputePass earlier ≡ None) × (compute_rule maker (settings earlier) command ≡ None) = or_none (pass_rule maker BeginComputePass earlier) (compute_rule maker (settings earlier) command) e in
    let own = or_none (first_unmet (common_rules maker.device (named_on kind.ComputePass command))) (first_unmet (compute_rules (settings earlier) command)) parts.1 in
    more_set command earlier (compute_set maker earlier small.1 parts.0) (given_met command small.0 (compute_given (settings earlier) command (none_met (compute_rules (settings earlier) command) own.1))) at

-- the bytes of an indirect call
indirect_small : (buffer : HandleValue) (offset bytes : ℕ) → buffer.valid ≡ true → IsSmallHandle buffer → AreMet (indirect_rules buffer offset bytes) → IsSmallTouch (indirect_touch buffer offset bytes)
indirect_small buffer offset bytes valid small met = range_small buffer offset bytes valid small met.1.1.0

compute_does_small : (maker : Maker) (earlier : List Command) (command : Command) → AreSmallCommands earlier → IsSmallCommand command → pass_rule maker BeginComputePass earlier ≡ None → compute_rule maker (settings earlier) command ≡ None
    → IsDoneSmall (compute_does (settings earlier) command)
unfolding compute_does
compute_does_small maker earlier (Dispatch x y z) smalls small before e = (bound_small earlier (layouts_set (settings earlier)) (compute_set maker earlier smalls before), tt)
compute_does_small maker earlier (DispatchIndirect buffer offset) smalls small before e =
    let own = or_none (first_unmet (common_rules maker.device (named_on kind.ComputePass (DispatchIndirect buffer offset)))) (first_unmet (compute_rules (settings earlier) (DispatchIndirect buffer offset))) e in
    let common = none_met (common_rules maker.device (named_on kind.ComputePass (DispatchIndirect buffer offset))) own.0 in
    let met = compute_dispatches (settings earlier) (DispatchIndirect buffer offset) (none_met (compute_rules (settings earlier) (DispatchIndirect buffer offset)) own.1) in (
      both_touched (dispatch_touches (settings earlier)) (indirect_touch buffer offset 12 ∷ []) (bound_small earlier (layouts_set (settings earlier)) (compute_set maker earlier smalls before))
          (indirect_small buffer offset 12 common.1.0 small.0 (met_behind (ready_rules (settings earlier)) (indirect_rules buffer offset 12) met), tt),
      tt,
    )
compute_does_small maker earlier _ smalls small before e = tt

-- what bundles touch that are executed
touched_small : (touches : List BundleTouch) → AreSmallTouched touches → AreSmallTouches (map bundle_touch touches)
touched_small [] h = tt
touched_small (touch ∷ touches) h = (h.0, touched_small touches h.1)

bundle_small : (bundle : HandleValue) → IsSmallHandle bundle → AreSmallTouches (known_touches (known_bundle bundle))
bundle_small bundle small = by_valid bundle.valid small
  where
    by_info : (known : Info) → IsSmallInfo known → AreSmallTouches (known_touches (bundle_in known))
    by_info (Bundle known) h = touched_small known.touches h
    by_info _ h = tt

    by_valid : (b : Bool) → (b ≡ true → IsSmallInfo bundle.info) → AreSmallTouches (known_touches (if b then bundle_in bundle.info else None))
    by_valid true h = by_info bundle.info (h refl)
    by_valid false h = tt

executed_small : (bundles : List HandleValue) → AreSmallNamed (all_wanted wanted.Bundle bundles) → AreSmallTouches (executed_touches bundles)
executed_small [] h = tt
executed_small (bundle ∷ bundles) h = both_touched (known_touches (known_bundle bundle)) (executed_touches bundles) (bundle_small bundle h.0) (executed_small bundles h.1)

-- what commands of render passes touch
abbrev AreSmallQueries : Option (ℕ × ℕ) → Type 0
AreSmallQueries None = Unit {0}
AreSmallQueries (Some set) = set.1 ≤ most_32

query_small : (queries : Option (ℕ × ℕ)) (occlusion : Occlusion) (index : ℕ) → AreSmallQueries queries → AreMet (begin_query_rules (count_given queries) occlusion index) → AreSmallTouches (query_begun_touches queries index)
query_small None occlusion index h met = tt
query_small (Some set) occlusion index h met = (let below : index < set.1 = ltb-true index set.1 met.1.0 in omega (arith, below, h), tt)

render_given : (limits : CommandLimits) (render : RenderSet) (command : Command) → AreMet (render_rules limits render command) → AreMet (given_rules command) × AreMet (drawing_rules limits render command)
render_given limits render command met =
    let both =
    met_behind (pipeline_given_rules render.targets (pipeline_given command)) (given_rules command ++ drawing_rules limits render command)
    (met_behind (draws_rules render.most render.draws command) (pipeline_given_rules render.targets (pipeline_given command) ++ (given_rules command ++ drawing_rules limits render command))
    (met_behind (pass_end_rules render.occlusion.active command) (draws_rules render.most render.draws command ++ (pipeline_given_rules render.targets (pipeline_given command) ++ (given_rules command ++ drawing_rules limits render command)))
    (met_behind (end_rules render.set.depth command) (pass_end_rules render.occlusion.active command ++ (draws_rules render.most render.draws command ++ (pipeline_given_rules render.targets (pipeline_given command) ++ (given_rules command ++ drawing_rules limits render command))))
    (met_behind (debug_rules render.set.depth command) (end_rules render.set.depth command ++ (pass_end_rules render.occlusion.active command ++ (draws_rules render.most render.draws command ++ (pipeline_given_rules render.targets (pipeline_given command) ++ (given_rules command ++ drawing_rules limits render command))))) met)))) in
    (met_front (given_rules command) (drawing_rules limits render command) both, met_behind (given_rules command) (drawing_rules limits render command) both)

drawn_small : (limits : CommandLimits) (render : RenderSet) (command : Command) → AreSmallQueries render.queries → IsSmallCommand command → AreValid (named command) → AreMet (given_rules command) → AreMet (drawing_rules limits render command)
    → AreSmallTouches (command_touches render.queries command)
drawn_small limits render (SetBindGroup index None offsets) queries small valid given met = tt
drawn_small limits render (SetBindGroup index (Some group) offsets) queries small valid given met =
    both_touched (bound_group_touches (Some (index, Some (record { group = group; offsets = offsets })))) [] (touched_places (set_places (Some (record { group = group; offsets = offsets }))) (given_small index (record { group = group; offsets = offsets }) small.0 given)) tt
drawn_small limits render (SetVertexBuffer slot None offset size) queries small valid given met = tt
drawn_small limits render (SetVertexBuffer slot (Some buffer) offset size) queries small valid given met = (range_small buffer offset (size_or_rest buffer offset size) valid.0 small.0 met.1.1.1.0, tt)
drawn_small limits render (SetIndexBuffer buffer format offset size) queries small valid given met = (range_small buffer offset (size_or_rest buffer offset size) valid.0 small.0 met.1.1.0, tt)
drawn_small limits render (DrawIndirect buffer offset) queries small valid given met =
    (range_small buffer offset 16 valid.0 small.0 (met_behind (ready_rules render.set) _ met).1.1.0, tt)
drawn_small limits render (DrawIndexedIndirect buffer offset) queries small valid given met =
    (range_small buffer offset 20 valid.0 small.0 (met_behind (ready_rules render.set) _ met).1.1.0, tt)
drawn_small limits render (BeginOcclusionQuery index) queries small valid given met = query_small render.queries render.occlusion index queries met
drawn_small limits render (ExecuteBundles bundles) queries small valid given met = both_touched (executed_touches bundles) [] (executed_small bundles small) tt
drawn_small limits render _ queries small valid given met = tt

command_small : (maker : Maker) (place : Kind) (render : RenderSet) (command : Command) → AreSmallQueries render.queries → IsSmallCommand command → first_unmet (common_rules maker.device (named_on place command)) ≡ None → first_unmet (render_rules maker.limits render command) ≡ None
    → AreSmallTouches (command_touches render.queries command)
command_small maker place render command queries small common own =
    let met = render_given maker.limits render command (none_met (render_rules maker.limits render command) own) in
    drawn_small maker.limits render command queries small (command_valid maker.device place command (none_met (common_rules maker.device (named_on place command)) common)) met.0 met.1

-- what attachments touch
abbrev IsSliceSmall : Option ℕ → Type 0
IsSliceSmall None = Unit {0}
IsSliceSmall (Some slice) = slice < most_32

one_sliced : (slice : Option ℕ) (run : Cells) → IsSliceSmall slice → HaveSmallRange run → HaveSmallRange (sliced slice run)
one_sliced None run k h = h
one_sliced (Some slice) (Slices object mip lo hi) k h = (h.0, omega (arith, k))
one_sliced (Some slice) (Bytes object lo hi) k h = h
one_sliced (Some slice) (Layers object of mip lo hi) k h = h
one_sliced (Some slice) (Queries object lo hi) k h = h

all_sliced : (slice : Option ℕ) (cells : List Cells) → IsSliceSmall slice → AreSmall cells → AreSmall (map (sliced slice) cells)
all_sliced slice [] k h = tt
all_sliced slice (run ∷ cells) k h = (one_sliced slice run k h.0, all_sliced slice cells k h.1)

slice_small : (target : ColorTarget) → IsSmallHandle target.view → slice_fits (color_attached target) ≡ true → IsSliceSmall target.depth_slice
slice_small target small e = by_slice target.depth_slice e
  where
    by_slice : (o : Option ℕ) → slice_fits (color_view target, o) ≡ true → IsSliceSmall o
    by_slice None e = tt
    by_slice (Some slice) e =
        let below : slice < depth (extent (color_view target).texture_info (color_view target).base_mip) = ltb-true slice (depth (extent (color_view target).texture_info (color_view target).base_mip)) (and_parts (is_deep (color_view target).dim) (nat_lt slice (depth (extent (color_view target).texture_info (color_view target).base_mip))) e).1 in
        let few : depth (extent (color_view target).texture_info (color_view target).base_mip) ≤ most_32 = (attachment_small target.view small).deep (color_view target).base_mip in
        omega (arith, below, few)

resolve_small : (resolve : Option HandleValue) → AreSmallNamed (maybe_wanted wanted.View resolve) → AreSmallTouches (resolve_touches resolve)
resolve_small None h = tt
resolve_small (Some view) h = mapped_small (attachment_usage, Write) (handle_cells view) (attached_small view h.0)

color_small : (target : ColorTarget) → AreSmallNamed (color_named (Some target)) → slice_fits (color_attached target) ≡ true → AreSmallTouches (color_touches (Some target))
color_small target h e =
    both_touched (map (attached (attachment_usage, attach_kind target.load target.store)) (color_cells target)) (resolve_touches target.resolve)
    (mapped_small (attachment_usage, attach_kind target.load target.store) (color_cells target) (all_sliced target.depth_slice (handle_cells target.view) (slice_small target h.0 e) (attached_small target.view h.0)))
    (resolve_small target.resolve h.1)

abbrev FitSlices : List ColorTarget → Bool
FitSlices targets = list_all (λ (target : ColorTarget). slice_fits (color_attached target)) targets

colors_small : (colors : List (Option ColorTarget)) → AreSmallNamed (flat_map color_named colors) → FitSlices (flat_map (λ (color : Option ColorTarget). option_to_list color) colors) ≡ true → AreSmallTouches (flat_map color_touches colors)
colors_small [] h e = tt
colors_small (None ∷ colors) h e = colors_small colors h e
colors_small (Some target ∷ colors) h e =
    let fits = and_parts (slice_fits (color_attached target)) (FitSlices (flat_map (λ (color : Option ColorTarget). option_to_list color) colors)) e in
    let named_so = each_parts (λ (object : HandleValue × Wanted). IsSmallHandle object.0) (color_named (Some target)) (flat_map color_named colors) h in
    both_touched (color_touches (Some target)) (flat_map color_touches colors) (color_small target named_so.0 fits.0) (colors_small colors named_so.1 fits.1)

depths_small : (target : DepthTarget) (cells : List Cells) → AreSmall cells → AreSmallTouches (map (depth_touch target) cells)
depths_small target [] h = tt
depths_small target (run ∷ cells) h = (h.0, depths_small target cells h.1)

depth_small : (depth : Option DepthTarget) → AreSmallNamed (depth_named depth) → AreSmallTouches (depth_touches depth)
depth_small None h = tt
depth_small (Some target) h = depths_small target (handle_cells target.view) (attached_small target.view h.0)

targets_small : (maker : Maker) (begin : RenderBegin) → IsSmallCommand (BeginRenderPass begin) → begun_rule maker (BeginRenderPass begin) ≡ None → AreSmallTouches (targets_touches begin)
unfolding targets_touches begin_rules
targets_small maker begin small e =
    let views = each_parts (λ (object : HandleValue × Wanted). IsSmallHandle object.0) (targets_named begin) (maybe_wanted wanted.Queries begin.queries) small in
    let two = each_parts (λ (object : HandleValue × Wanted). IsSmallHandle object.0) (flat_map color_named begin.colors) (depth_named begin.depth) views.0 in
    let met : AreMet (begin_rules maker.limits begin) = none_met (begin_rules maker.limits begin) (or_none (first_unmet (common_rules maker.device (named (BeginRenderPass begin)))) (first_unmet (begun_rules maker.limits (BeginRenderPass begin))) e).1 in
    both_touched (flat_map color_touches begin.colors) (depth_touches begin.depth) (colors_small begin.colors two.0 met.1.1.1.0) (depth_small begin.depth two.1)

set_small : (maker : Maker) (begin : RenderBegin) → IsSmallCommand (BeginRenderPass begin) → begun_rule maker (BeginRenderPass begin) ≡ None → AreSmallQueries (set_of_pass begin.queries)
set_small maker begin small e =
    let views = each_parts (λ (object : HandleValue × Wanted). IsSmallHandle object.0) (targets_named begin) (maybe_wanted wanted.Queries begin.queries) small in
    let valid =
    each_parts (λ (object : HandleValue × Wanted). object.0.valid ≡ true) (targets_named begin) (maybe_wanted wanted.Queries begin.queries)
    (all_valid maker.device (named (BeginRenderPass begin)) (none_met (common_rules maker.device (named (BeginRenderPass begin))) (or_none (first_unmet (common_rules maker.device (named (BeginRenderPass begin)))) (first_unmet (begun_rules maker.limits (BeginRenderPass begin))) e).0)) in
    by_queries begin.queries views.1 valid.1
  where
    by_queries : (o : Option HandleValue) → AreSmallNamed (maybe_wanted wanted.Queries o) → AreValid (maybe_wanted wanted.Queries o) → AreSmallQueries (set_of_pass o)
    by_queries None h v = tt
    by_queries (Some queries) h v = queries_small queries v.0 h.0

-- all that a render pass touches
begun_first : (maker : Maker) (begin : Command) (earlier : List Command) → pass_rule maker begin earlier ≡ None → begun_rule maker begin ≡ None
begun_first maker begin [] e = e
begun_first maker begin (command ∷ earlier) e = begun_first maker begin earlier (or_none (pass_rule maker begin earlier) (rule_in maker begin earlier command) e).0

pass_small : (maker : Maker) (begin : RenderBegin) (earlier : List Command) → IsSmallCommand (BeginRenderPass begin) → AreSmallCommands earlier → pass_rule maker (BeginRenderPass begin) earlier ≡ None
    → AreSmallTouches (touches_over (set_of_pass begin.queries) (targets_touches begin) earlier)
pass_small maker begin [] first small e = targets_small maker begin first e
pass_small maker begin (command ∷ earlier) first small e =
    let parts : (pass_rule maker (BeginRenderPass begin) earlier ≡ None) × (render_rule maker (render_set begin earlier) command ≡ None) = or_none (pass_rule maker (BeginRenderPass begin) earlier) (render_rule maker (render_set begin earlier) command) e in
    let own = or_none (first_unmet (common_rules maker.device (named_on kind.RenderPass command))) (first_unmet (render_rules maker.limits (render_set begin earlier) command)) parts.1 in
    both_touched (touches_over (set_of_pass begin.queries) (targets_touches begin) earlier) (command_touches (set_of_pass begin.queries) command) (pass_small maker begin earlier first small.1 parts.0)
    (command_small maker kind.RenderPass (render_set begin earlier) command (set_small maker begin first (begun_first maker (BeginRenderPass begin) earlier parts.0)) small.0 own.0 own.1)

render_small : (render : RenderSet) (b : Bracket) → AreSmallTouches render.touches → IsDoneSmall (render_does_by render b)
render_small render brackets.EndPass h = (h, tt)
render_small render _ h = tt

render_does_small : (maker : Maker) (begin : RenderBegin) (earlier : List Command) (command : Command) → IsSmallCommand (BeginRenderPass begin) → AreSmallCommands earlier → pass_rule maker (BeginRenderPass begin) earlier ≡ None
    → IsDoneSmall (render_does (render_set begin earlier) command)
unfolding render_does
render_does_small maker begin earlier command first small e = render_small (render_set begin earlier) (bracket command) (pass_small maker begin earlier first small e)

pub pass_does_small : (maker : Maker) (begin : Command) (earlier : List Command) (command : Command) → IsSmallCommand begin → AreSmallCommands earlier → IsSmallCommand command → pass_rule maker begin (command ∷ earlier) ≡ None → IsDoneSmall (pass_does begin earlier command)
pass_does_small maker BeginComputePass earlier command first smalls small e =
    let parts : (pass_rule maker BeginComputePass earlier ≡ None) × (compute_rule maker (settings earlier) command ≡ None) = or_none (pass_rule maker BeginComputePass earlier) (compute_rule maker (settings earlier) command) e in
    compute_does_small maker earlier command smalls small parts.0 parts.1
pass_does_small maker (BeginRenderPass begin) earlier command first smalls small e =
    render_does_small maker begin earlier command first smalls (or_none (pass_rule maker (BeginRenderPass begin) earlier) (render_rule maker (render_set begin earlier) command) e).0
pass_does_small maker _ earlier command first smalls small e = tt

-- and what a bundle does
pub bundle_over_small : (maker : Maker) (targets : TargetInfo) (earlier : List Command) → AreSmallCommands earlier → bundle_verdict maker targets earlier ≡ None → AreSmallTouches (touches_over None [] earlier)
bundle_over_small maker targets [] small e = tt
bundle_over_small maker targets (command ∷ earlier) small e =
    let parts = or_none (bundle_verdict maker targets earlier) (bundle_rule maker targets earlier command) e in
    let own = or_none (first_unmet (common_rules maker.device (named_on kind.BundleEncoder command))) (first_unmet (render_rules maker.limits (bundle_set targets earlier) command)) parts.1 in
    both_touched (touches_over None [] earlier) (command_touches None command) (bundle_over_small maker targets earlier small.1 parts.0)
    (command_small maker kind.BundleEncoder (bundle_set targets earlier) command tt small.0 own.0 own.1)
