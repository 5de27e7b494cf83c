-- What is known of the objects that calls make of others: by what these are known as (WebGPU, "Bind Group Creation", "Pipeline
-- Layout Creation", "Compute Pipeline Creation" and "Render Pipeline Creation").
use Rattle.std.specs.Prelude.{ℕ, ◌-◌, map, List, [], false, Option, Some, None, is_none, option_map, option_and_then, option_to_list, unwrap_or, if◌then◌else◌}
use Rattle.std.specs.List.{flat_map}
use Rattle.std.specs.Option.{option_map_or}
use Rattle.wg_types.specs.declared.handles.ObjRef.{ObjRef}
use Rattle.wg_types.specs.declared.handles.BufferInfo.{BufferInfo}
use Rattle.wg_types.specs.declared.handles.Info.{Info}
use Rattle.wg_types.specs.declared.handles.Info.TheVariants as info
use Rattle.wg_types.specs.declared.textures.AspectWord.TheVariants.{All}
use Rattle.wg_types.specs.declared.textures.ViewDim.TheVariants.{Two}
use Rattle.wg_types.specs.declared.textures.TextureInfo.{TextureInfo}
use Rattle.wg_types.specs.declared.textures.ViewDesc.{ViewDesc}
use Rattle.wg_types.specs.declared.textures.ViewInfo.{ViewInfo}
use Rattle.wg_types.specs.declared.bindings.SamplerKind.{SamplerKind}
use Rattle.wg_types.specs.declared.bindings.SamplerKind.TheVariants.{Filtering}
use Rattle.wg_types.specs.declared.bindings.ResourceOf.{ResourceOf}
use Rattle.wg_types.specs.declared.bindings.ResourceOf.TheVariants.{Buffer, View, Sampler}
use Rattle.wg_types.specs.declared.bindings.GroupEntryOf.{GroupEntryOf}
use Rattle.wg_types.specs.declared.bindings.BoundResource.{BoundResource}
use Rattle.wg_types.specs.declared.bindings.BoundResource.TheVariants.{Buffer as BoundBuffer, View as BoundView, Sampler as BoundSampler}
use Rattle.wg_types.specs.declared.bindings.BoundEntry.{BoundEntry}
use Rattle.wg_types.specs.declared.bindings.LayoutEntry.{LayoutEntry}
use Rattle.wg_types.specs.declared.bindings.IfaceEntry.{IfaceEntry}
use Rattle.wg_types.specs.declared.groups.GroupLayoutInfo.{GroupLayoutInfo}
use Rattle.wg_types.specs.declared.groups.PipelineLayoutInfo.{PipelineLayoutInfo}
use Rattle.wg_types.specs.declared.groups.GroupInfo.{GroupInfo}
use Rattle.wg_types.specs.declared.groups.Interface.{Interface}
use Rattle.wg_types.specs.declared.groups.ComputeInfo.{ComputeInfo}
use Rattle.wg_types.specs.declared.groups.RenderInfo.{RenderInfo}
use Rattle.wg_types.specs.declared.render.RenderDesc.{RenderDesc}
use Rattle.wg_model.specs.Commands.{no_buffer, buffer_or_none, no_texture, texture_or_none}
use Rattle.wg_model.specs.Views.{view_info}
use Rattle.wg_model.specs.Bound.{is_automatic}
use Rattle.wg_model.specs.Automatic.{automatic_layouts, entries_at, known_layouts}

-- What stands for what is known of an object that is of another kind or none, which rule 10 refuses before it counts.
abbrev pub no_view : ViewInfo
no_view = record { texture = record { device = 0; number = 0 }; texture_info = no_texture; dim = Two; aspect = All; base_mip = 0; mips = 0; base_layer = 0; layers = 0 }

-- a bind group layout with no entry
abbrev pub no_group_layout : GroupLayoutInfo
no_group_layout = record { entries = []; exclusive = None; pipeline = None }

-- a pipeline layout of no group
abbrev pub no_pipeline_layout : PipelineLayoutInfo
no_pipeline_layout = record { layouts = []; layouts_info = [] }

-- what is known of a view, or a view of nothing where the info is of something else
abbrev pub as_view : Info → ViewInfo
as_view (info.View known) = known
as_view _ = no_view

-- the kind of a sampler, or filtering where the info is of something else
abbrev pub as_sampler : Info → SamplerKind
as_sampler (info.Sampler known) = known
as_sampler _ = Filtering

-- what is known of a bind group layout, or one with no entry where the info is of something else
abbrev pub as_group_layout : Info → GroupLayoutInfo
as_group_layout (info.GroupLayout known) = known
as_group_layout _ = no_group_layout

-- what is known of a pipeline layout, or one of no group where the info is of something else
abbrev pub as_pipeline_layout : Info → PipelineLayoutInfo
as_pipeline_layout (info.PipelineLayout known) = known
as_pipeline_layout _ = no_pipeline_layout

-- what is known of an object, read as that of a kind
abbrev pub known_buffer : Option Info → BufferInfo
known_buffer known = option_map_or buffer_or_none known no_buffer

-- what is known of an object as a texture, and of none a texture of nothing
abbrev pub known_texture : Option Info → TextureInfo
known_texture known = option_map_or texture_or_none known no_texture

-- what is known of an object as a view, and of none a view of nothing
abbrev pub known_view : Option Info → ViewInfo
known_view known = option_map_or as_view known no_view

-- what is known of an object as a sampler, and of none a filtering one
abbrev pub known_sampler : Option Info → SamplerKind
known_sampler known = option_map_or as_sampler known Filtering

-- what is known of an object as a bind group layout, and of none one with no entry
abbrev pub known_group_layout : Option Info → GroupLayoutInfo
known_group_layout known = option_map_or as_group_layout known no_group_layout

-- what is known of an object as a pipeline layout, and of none one of no group
abbrev pub known_pipeline_layout : Option Info → PipelineLayoutInfo
known_pipeline_layout known = option_map_or as_pipeline_layout known no_pipeline_layout

-- Below, references stand for the objects that a call names, and of some objects something is known.

-- what an entry of a bind group binds: of a buffer what remains from the offset on where no size is given
abbrev pub bound_resource : {R : Type 0} → (R → ObjRef) → (R → Option Info) → ResourceOf R → BoundResource
bound_resource reference known (Buffer buffer offset size) = BoundBuffer (reference buffer) (known_buffer (known buffer)) offset (unwrap_or size ((known_buffer (known buffer)).size - offset))
bound_resource reference known (View view) = BoundView (reference view) (known_view (known view))
bound_resource reference known (Sampler sampler) = BoundSampler (reference sampler) (known_sampler (known sampler))

-- what is known of an entry of a bind group: its binding, and what it binds
abbrev pub bound_entry : {R : Type 0} → (R → ObjRef) → (R → Option Info) → GroupEntryOf R → BoundEntry
bound_entry reference known entry = record { binding = entry.binding; resource = bound_resource reference known entry.resource }

-- what is known of a view that is made: its texture, what is known of that, and what was asked
abbrev pub view_made : {R : Type 0} → (R → ObjRef) → (R → Option Info) → R → ViewDesc → ViewInfo
view_made reference known texture desc = view_info (known_texture (known texture)) (reference texture) desc

-- the bind group layouts that a pipeline layout refers to: those that are not null
abbrev pub given_layouts : {R : Type 0} → (R → ObjRef) → List (Option R) → List ObjRef
given_layouts reference layouts = flat_map (λ layout. option_to_list (option_map reference layout)) layouts

-- what is known of a pipeline layout that is made: the bind group layouts that it refers to, and what is known of each of its
-- layouts, in their order, where null is a layout with no entry
abbrev pub pipeline_layout_made : {R : Type 0} → (R → ObjRef) → (R → Option Info) → List (Option R) → PipelineLayoutInfo
pipeline_layout_made reference known layouts =
    record { layouts = given_layouts reference layouts; layouts_info = map (λ layout. known_group_layout (option_and_then known layout)) layouts }

-- what is known of a bind group that is made: its layout and its entries
abbrev pub group_made : {R : Type 0} → (R → ObjRef) → (R → Option Info) → R → List (GroupEntryOf R) → GroupInfo
group_made reference known layout entries = record { layout = reference layout; layout_info = known_group_layout (known layout); entries = map (bound_entry reference known) entries }

-- what a pipeline knows of its layout: what is known of the one that it names, or else a pipeline layout of the layouts that
-- it derives, each exclusive to none and got of none, of which there are none where kinds clash or a group is named that
-- cannot be
abbrev pub layout_made : {R : Type 0} → (R → Option Info) → Option R → List IfaceEntry → PipelineLayoutInfo
layout_made known None iface = record { layouts = []; layouts_info = automatic_layouts iface }
layout_made known (Some layout) iface = known_pipeline_layout (known layout)

-- what is known of a compute pipeline that is made: its layout, named or derived, and its interface
abbrev pub compute_made : {R : Type 0} → (R → ObjRef) → (R → Option Info) → Option R → Interface → ComputeInfo
compute_made reference known layout iface = record { layout = option_map reference layout; layout_info = layout_made known layout iface.entries; auto = is_none layout; iface = iface }

-- what is known of a render pipeline that is made: its layout, named or derived, and its description
abbrev pub render_made : {R : Type 0} → (R → ObjRef) → (R → Option Info) → Option R → RenderDesc → RenderInfo
render_made reference known layout desc = record { layout = option_map reference layout; layout_info = layout_made known layout desc.iface; auto = is_none layout; desc = desc }

-- A bind group layout that createBindGroupLayout makes is exclusive to no pipeline.
abbrev pub group_layout_made : List LayoutEntry → GroupLayoutInfo
group_layout_made entries = record { entries = entries; exclusive = None; pipeline = None }

-- One that getBindGroupLayout makes has the entries of a group of the pipeline's layout. It refers to the pipeline, and is exclusive
-- to it, by its number, where that derived its layout itself.
abbrev pub group_layout_got : {R : Type 0} → (R → ObjRef) → (R → Option Info) → R → ℕ → GroupLayoutInfo
group_layout_got reference known pipeline index =
    record {
      entries = entries_at (known_layouts (known pipeline)) index;
      exclusive = if option_map_or is_automatic (known pipeline) false then Some (reference pipeline).number else None;
      pipeline = Some (reference pipeline);
    }
