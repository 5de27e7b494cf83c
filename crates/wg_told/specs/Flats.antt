-- What the flat structs of the header stand for. One that has a value out of its range stands for nothing.
use Rattle.std.specs.Prelude.{ℕ, ◌+◌, nat_eq, nat_lt, List, [], ◌∷◌, length, Option, Some, None, option_map, option_and_then, if◌then◌else◌}
use Rattle.std.specs.List.{filter, list_all}
use Rattle.wg_types.specs.declared.bindings.BindingKind.{BindingKind}
use Rattle.wg_types.specs.declared.bindings.BindingKind.TheVariants as kind
use Rattle.wg_types.specs.declared.bindings.LayoutEntry.{LayoutEntry}
use Rattle.wg_types.specs.declared.bindings.IfaceEntry.{IfaceEntry}
use Rattle.wg_types.specs.declared.bindings.Stage.{Stage}
use Rattle.wg_types.specs.declared.bindings.Stage.TheVariants.{Compute}
use Rattle.wg_types.specs.declared.bindings.ResourceOf.{ResourceOf}
use Rattle.wg_types.specs.declared.bindings.ResourceOf.TheVariants as bound
use Rattle.wg_types.specs.declared.bindings.GroupEntryOf.{GroupEntryOf}
use Rattle.wg_types.specs.declared.formats.Format.{Format}
use Rattle.wg_types.specs.declared.handles.BufferInfo.{BufferInfo}
use Rattle.wg_types.specs.declared.textures.TextureInfo.{TextureInfo}
use Rattle.wg_types.specs.declared.textures.ViewAsked.{ViewAsked}
use Rattle.wg_types.specs.declared.textures.TextureSpot.{TextureSpot}
use Rattle.wg_types.specs.declared.textures.DataLayout.{DataLayout}
use Rattle.wg_types.specs.declared.vertex.VertexAttribute.{VertexAttribute}
use Rattle.wg_types.specs.declared.vertex.VertexBuffer.{VertexBuffer}
use Rattle.wg_types.specs.declared.vertex.VertexStep.{VertexStep}
use Rattle.wg_types.specs.declared.render.ColorTargetOf.{ColorTargetOf}
use Rattle.wg_types.specs.declared.render.DepthTargetOf.{DepthTargetOf}
use Rattle.wg_types.specs.declared.render.Viewport.{Viewport}
use Rattle.wg_types.specs.declared.commands.On.{On}
use Rattle.wg_types.specs.declared.commands.On.TheVariants.{Encoder, Pass}
use Rattle.wg_told.specs.declared.flats.FlatExtent.{FlatExtent}
use Rattle.wg_told.specs.declared.flats.FlatOrigin.{FlatOrigin}
use Rattle.wg_told.specs.declared.flats.FlatBuffer.{FlatBuffer}
use Rattle.wg_told.specs.declared.flats.FlatTexture.{FlatTexture}
use Rattle.wg_told.specs.declared.flats.FlatView.{FlatView}
use Rattle.wg_told.specs.declared.flats.FlatBinding.{FlatBinding}
use Rattle.wg_told.specs.declared.flats.FlatLayoutEntry.{FlatLayoutEntry}
use Rattle.wg_told.specs.declared.flats.FlatIfaceEntry.{FlatIfaceEntry}
use Rattle.wg_told.specs.declared.flats.FlatGroupEntry.{FlatGroupEntry}
use Rattle.wg_told.specs.declared.flats.FlatVertexBuffer.{FlatVertexBuffer}
use Rattle.wg_told.specs.declared.flats.FlatAttribute.{FlatAttribute}
use Rattle.wg_told.specs.declared.flats.FlatColor.{FlatColor}
use Rattle.wg_told.specs.declared.flats.FlatDepth.{FlatDepth}
use Rattle.wg_told.specs.declared.flats.FlatViewport.{FlatViewport}
use Rattle.wg_told.specs.declared.flats.FlatTexelLayout.{FlatTexelLayout}
use Rattle.wg_told.specs.declared.flats.FlatSpot.{FlatSpot}
use Rattle.wg_told.specs.Tables.{nth, maybe_nth, flag_of, left_out, wide_of, narrow_of, formats, sample_types, texture_dims, view_dims, aspects, buffer_bindings, sampler_kinds, storage_accesses, render_stages, vertex_steps, vertex_formats, load_ops, store_ops}

-- what each of a list stands for, if each stands for something
abbrev pub every : {F T : Type 0} → (F → Option T) → List F → Option (List T)
every means [] = Some []
every means (x ∷ xs) = option_and_then (λ one. option_map (λ more. one ∷ more) (every means xs)) (means x)

-- the three numbers of a flat extent
abbrev pub extent_of : FlatExtent → List ℕ
extent_of e = e.width ∷ e.height ∷ e.depth ∷ []

-- the three numbers of a flat origin
abbrev pub origin_of : FlatOrigin → List ℕ
origin_of o = o.x ∷ o.y ∷ o.z ∷ []

-- what a flat buffer asks for, if its values are ones
abbrev pub buffer_of : FlatBuffer → Option BufferInfo
buffer_of b = option_map (λ mapped. record { size = b.size; usage = b.usage; mapped = mapped }) (flag_of b.mapped)

-- what a flat texture asks for, if its values are ones
abbrev pub texture_of : FlatTexture → Option TextureInfo
texture_of t =
    option_and_then (λ format. option_map (λ dim. record {
      size = extent_of t.size;
      usage = t.usage;
      format = format;
      dim = dim;
      mips = t.mips;
      samples = t.samples;
    }) (nth texture_dims t.dim)) (nth formats t.format)

-- what a flat view asks for, if its values are ones
abbrev pub view_of : FlatView → Option ViewAsked
view_of v =
    option_and_then (λ dim. option_and_then (λ aspect. option_and_then (λ mips. option_map (λ layers. record {
      dim = dim;
      aspect = aspect;
      base_mip = v.base_mip;
      mips = mips;
      base_layer = v.base_layer;
      layers = layers;
    }) (narrow_of v.layers)) (narrow_of v.mips)) (nth aspects v.aspect)) (maybe_nth view_dims v.dim)

-- What a binding holds, by its kind: 1 to 3 a buffer, 4 a sampler, 5 a texture that is sampled, 6 one that is used as storage.

-- the kind of a flat binding that is a buffer, if its values are ones
abbrev pub buffer_binding_of : FlatBinding → Option BindingKind
buffer_binding_of b =
    option_and_then (λ binding. option_map (λ dynamic. kind.Buffer binding dynamic b.min_size) (flag_of b.dynamic)) (nth buffer_bindings b.kind)

-- the kind of a flat binding that is a texture, if its values are ones
abbrev pub texture_binding_of : FlatBinding → Option BindingKind
texture_binding_of b =
    option_and_then (λ sample. option_and_then (λ dim. option_map (λ multi. kind.Texture sample dim multi) (flag_of b.multi)) (nth view_dims b.dim)) (nth sample_types b.sample)

-- the kind of a flat binding that is a storage texture, if its values are ones
abbrev pub storage_binding_of : FlatBinding → Option BindingKind
storage_binding_of b =
    option_and_then (λ access. option_and_then (λ format. option_map (λ dim. kind.StorageTexture access format dim) (nth view_dims b.dim)) (nth formats b.format)) (nth storage_accesses b.access)

-- the kind of a flat binding, if its values are ones
abbrev pub binding_of : FlatBinding → Option BindingKind
binding_of b =
    if nat_eq b.kind 4 then option_map (λ sampler. kind.Sampler sampler) (nth sampler_kinds b.sampler)
    else if nat_eq b.kind 5 then texture_binding_of b
    else if nat_eq b.kind 6 then storage_binding_of b
    else buffer_binding_of b

-- the entry of a layout that a flat one is, if its values are ones
abbrev pub layout_entry_of : FlatLayoutEntry → Option LayoutEntry
layout_entry_of e = option_map (λ held. record { binding = e.binding; visibility = e.visibility; kind = held }) (binding_of e.holds)

-- what the shader of a stage uses
abbrev pub used_of : Stage → FlatIfaceEntry → Option IfaceEntry
used_of stage e = option_map (λ held. record { group = e.group; binding = e.binding; stage = stage; kind = held }) (binding_of e.holds)

-- the entry of a compute pipeline's interface that a flat one is, whose stage is not looked at, if its values are ones
abbrev pub compute_iface_of : FlatIfaceEntry → Option IfaceEntry
compute_iface_of e = used_of Compute e

-- the entry of a render pipeline's interface that a flat one is, if its values are ones
abbrev pub render_iface_of : FlatIfaceEntry → Option IfaceEntry
render_iface_of e = option_and_then (λ stage. used_of stage e) (nth render_stages e.stage)

-- what is bound: 1 a buffer, 2 a view, 3 a sampler
abbrev pub resource_of : FlatGroupEntry → Option (ResourceOf ℕ)
resource_of e =
    if nat_eq e.bound 1 then Some (bound.Buffer e.object e.offset (wide_of e.size))
    else if nat_eq e.bound 2 then Some (bound.View e.object)
    else if nat_eq e.bound 3 then Some (bound.Sampler e.object)
    else None

-- the entry of a bind group that a flat one is, if its values are ones
abbrev pub group_entry_of : FlatGroupEntry → Option (GroupEntryOf ℕ)
group_entry_of e = option_map (λ held. record { binding = e.binding; resource = held }) (resource_of e)

-- the attribute that a flat one is, if its values are ones
abbrev pub attribute_of : FlatAttribute → Option VertexAttribute
attribute_of a = option_map (λ format. record { format = format; offset = a.offset; location = a.location }) (nth vertex_formats a.format)

-- the attributes of the vertex buffer with this index
abbrev pub attributes_at : List FlatAttribute → ℕ → Option (List VertexAttribute)
attributes_at attributes n = every attribute_of (filter (λ a. nat_eq a.buffer n) attributes)

-- the vertex buffer of a slot with these attributes, by its step: a slot that is left out has none
abbrev pub slot_of : FlatVertexBuffer → List VertexAttribute → Option VertexStep → Option (Option VertexBuffer)
slot_of b [] None = Some None
slot_of b (attribute ∷ attributes) None = None
slot_of b own (Some step) = Some (Some (record { stride = b.stride; step = step; attributes = own }))

-- the vertex buffer that a flat one is, with its attributes, or none where its step is left out, if its values are ones
abbrev pub vertex_buffer_of : List FlatAttribute → ℕ → FlatVertexBuffer → Option (Option VertexBuffer)
vertex_buffer_of attributes n b = option_and_then (λ step. option_and_then (λ own. slot_of b own step) (attributes_at attributes n)) (maybe_nth vertex_steps b.step)

-- the vertex buffers from this index on
abbrev pub vertex_buffers_from : List FlatAttribute → ℕ → List FlatVertexBuffer → Option (List (Option VertexBuffer))
vertex_buffers_from attributes n [] = Some []
vertex_buffers_from attributes n (b ∷ bs) =
    option_and_then (λ one. option_map (λ more. one ∷ more) (vertex_buffers_from attributes (n + 1) bs)) (vertex_buffer_of attributes n b)

-- each attribute is one of a buffer that there is
abbrev pub vertex_buffers_of : List FlatVertexBuffer → List FlatAttribute → Option (List (Option VertexBuffer))
vertex_buffers_of buffers attributes =
    if list_all (λ a. nat_lt a.buffer (length buffers)) attributes then vertex_buffers_from attributes 0 buffers else None

-- a format that may be left out
abbrev pub format_of : ℕ → Option (Option Format)
format_of n = maybe_nth formats n

-- a color attachment
abbrev pub attached_of : FlatColor → Option (Option (ColorTargetOf ℕ))
attached_of c =
    option_and_then (λ slice. option_and_then (λ load. option_map (λ store. Some (record {
      view = c.view;
      depth_slice = slice;
      resolve = wide_of c.resolve;
      load = load;
      store = store;
    })) (nth store_ops c.store)) (nth load_ops c.load)) (narrow_of c.depth_slice)

-- one that may be left out
abbrev pub color_of : FlatColor → Option (Option (ColorTargetOf ℕ))
color_of c = if nat_eq c.view left_out then Some None else attached_of c

-- the depth attachment that a flat one is, if its values are ones
abbrev pub depth_attached_of : FlatDepth → Option (Option (DepthTargetOf ℕ))
depth_attached_of d =
    option_and_then (λ depth_load. option_and_then (λ depth_store. option_and_then (λ depth_read_only.
    option_and_then (λ stencil_load. option_and_then (λ stencil_store. option_map (λ stencil_read_only. Some (record {
      view = d.view;
      depth_load = depth_load;
      depth_clear = wide_of d.depth_clear;
      depth_store = depth_store;
      depth_read_only = depth_read_only;
      stencil_load = stencil_load;
      stencil_store = stencil_store;
      stencil_read_only = stencil_read_only;
    })) (flag_of d.stencil_read_only)) (maybe_nth store_ops d.stencil_store)) (maybe_nth load_ops d.stencil_load))
    (flag_of d.depth_read_only)) (maybe_nth store_ops d.depth_store)) (maybe_nth load_ops d.depth_load)

-- the depth attachment that a flat one is, or none where its view is left out, if its values are ones
abbrev pub depth_target_of : FlatDepth → Option (Option (DepthTargetOf ℕ))
depth_target_of d = if nat_eq d.view left_out then Some None else depth_attached_of d

-- the viewport that a flat one is, if its flags are ones
abbrev pub viewport_of : FlatViewport → Option Viewport
viewport_of v =
    option_and_then (λ left. option_map (λ above. record {
      x = v.x;
      left = left;
      y = v.y;
      above = above;
      width = v.width;
      height = v.height;
      min_depth = v.min_depth;
      max_depth = v.max_depth;
    }) (flag_of v.above)) (flag_of v.left)

-- the layout of texels that a flat one is, if its values are ones
abbrev pub layout_of : FlatTexelLayout → Option DataLayout
layout_of l =
    option_and_then (λ bytes. option_map (λ rows. record { offset = l.offset; bytes_per_row = bytes; rows_per_image = rows }) (narrow_of l.rows_per_image)) (narrow_of l.bytes_per_row)

-- the place in a texture that a flat one is, if its values are ones
abbrev pub spot_of : FlatSpot → Option TextureSpot
spot_of s = option_map (λ aspect. record { mip = s.mip; origin = origin_of s.origin; aspect = aspect }) (nth aspects s.aspect)

-- stands for the encoder itself in place of a pass
abbrev pub on_encoder : ℕ
on_encoder = 0xFFFF_FFFF

-- on what a command stands: the encoder, or the pass of a number
abbrev pub on_of : ℕ → On
on_of pass = if nat_eq pass on_encoder then Encoder else Pass pass
