-- Which calls and commands the arguments of the header stand for, over the numbers of objects. With a value out of its range they
-- stand for none.
use Rattle.std.specs.Prelude.{ℕ, List, Option, option_map, option_and_then}
use Rattle.wg_types.specs.declared.requests.RequestOf.{RequestOf}
use Rattle.wg_types.specs.declared.requests.RequestOf.TheVariants as request
use Rattle.wg_types.specs.declared.samplers.SamplerDesc.TheVariants.{Kind, Full}
use Rattle.wg_types.specs.declared.commands.CommandOf.{CommandOf}
use Rattle.wg_types.specs.declared.commands.CommandOf.TheVariants as command
use Rattle.wg_told.specs.declared.flats.FlatBuffer.{FlatBuffer}
use Rattle.wg_told.specs.declared.flats.FlatTexture.{FlatTexture}
use Rattle.wg_told.specs.declared.flats.FlatView.{FlatView}
use Rattle.wg_told.specs.declared.flats.FlatSampler.{FlatSampler}
use Rattle.wg_told.specs.declared.flats.FlatLayoutEntry.{FlatLayoutEntry}
use Rattle.wg_told.specs.declared.flats.FlatIfaceEntry.{FlatIfaceEntry}
use Rattle.wg_told.specs.declared.flats.FlatGroupEntry.{FlatGroupEntry}
use Rattle.wg_told.specs.declared.flats.FlatVertexBuffer.{FlatVertexBuffer}
use Rattle.wg_told.specs.declared.flats.FlatAttribute.{FlatAttribute}
use Rattle.wg_told.specs.declared.flats.FlatRender.{FlatRender}
use Rattle.wg_told.specs.declared.flats.FlatTarget.{FlatTarget}
use Rattle.wg_told.specs.declared.flats.FlatBundle.{FlatBundle}
use Rattle.wg_told.specs.declared.flats.FlatColor.{FlatColor}
use Rattle.wg_told.specs.declared.flats.FlatDepth.{FlatDepth}
use Rattle.wg_told.specs.declared.flats.FlatViewport.{FlatViewport}
use Rattle.wg_told.specs.declared.flats.FlatBufferCopy.{FlatBufferCopy}
use Rattle.wg_told.specs.declared.flats.FlatTexelCopy.{FlatTexelCopy}
use Rattle.wg_told.specs.declared.flats.FlatTextureCopy.{FlatTextureCopy}
use Rattle.wg_told.specs.declared.flats.FlatTextureWrite.{FlatTextureWrite}
use Rattle.wg_told.specs.Tables.{nth, maybe_nth, flag_of, wide_of, formats, sampler_kinds, index_formats, filters}
use Rattle.wg_told.specs.Flats.{every, extent_of, origin_of, buffer_of, texture_of, view_of, layout_entry_of, compute_iface_of, render_iface_of, group_entry_of, vertex_buffers_of, format_of, color_of, depth_target_of, viewport_of, layout_of, spot_of}
use Rattle.wg_told.specs.Fixed.{sampler_of, target_of, depth_of, primitive_of}

-- Calls.

-- the createBuffer that a flat buffer asks for, if its values are ones
abbrev pub create_buffer : FlatBuffer → Option (RequestOf ℕ)
create_buffer buffer = option_map (λ info. request.CreateBuffer info) (buffer_of buffer)

-- the createTexture that a flat texture asks for, if its values are ones
abbrev pub create_texture : FlatTexture → Option (RequestOf ℕ)
create_texture texture = option_map (λ info. request.CreateTexture info) (texture_of texture)

-- the createView that a flat view asks for, if its values are ones
abbrev pub create_view : ℕ → FlatView → Option (RequestOf ℕ)
create_view texture view = option_map (λ asked. request.CreateView texture asked) (view_of view)

-- the createSampler of a kind, if the number is one
abbrev pub create_sampler : ℕ → Option (RequestOf ℕ)
create_sampler kind = option_map (λ known. request.CreateSampler (Kind known)) (nth sampler_kinds kind)

-- the createSampler of a flat description, if its values are ones
abbrev pub create_described_sampler : FlatSampler → Option (RequestOf ℕ)
create_described_sampler sampler = option_map (λ fields. request.CreateSampler (Full fields)) (sampler_of sampler)

-- the createBindGroupLayout of flat entries, if their values are ones
abbrev pub create_bind_group_layout : List FlatLayoutEntry → Option (RequestOf ℕ)
create_bind_group_layout entries = option_map (λ held. request.CreateBindGroupLayout held) (every layout_entry_of entries)

-- the createBindGroup of flat entries, if their values are ones
abbrev pub create_bind_group : ℕ → List FlatGroupEntry → Option (RequestOf ℕ)
create_bind_group layout entries = option_map (λ held. request.CreateBindGroup layout held) (every group_entry_of entries)

-- the createComputePipeline of a flat interface, if its values are ones
abbrev pub create_compute_pipeline : ℕ → List FlatIfaceEntry → Option (RequestOf ℕ)
create_compute_pipeline layout iface =
    option_map (λ used. request.CreateComputePipeline (wide_of layout) (record { entries = used })) (every compute_iface_of iface)

-- the createRenderPipeline of flat descriptions, if their values are ones
abbrev pub create_render_pipeline : FlatRender → List FlatIfaceEntry → List FlatVertexBuffer → List FlatAttribute → List FlatTarget → Option (RequestOf ℕ)
create_render_pipeline render iface buffers attributes targets =
    option_and_then (λ primitive. option_and_then (λ depth. option_and_then (λ covers.
    option_and_then (λ used. option_and_then (λ read. option_map (λ drawn. request.CreateRenderPipeline (wide_of render.layout) (record {
      iface = used;
      buffers = read;
      targets = drawn;
      primitive = primitive;
      depth = depth;
      samples = render.samples;
      alpha_to_coverage = covers;
    }))
    (every target_of targets)) (vertex_buffers_of buffers attributes)) (every render_iface_of iface))
    (flag_of render.alpha_to_coverage)) (depth_of render)) (primitive_of render)

-- the createBundleEncoder of a flat description, if its values are ones
abbrev pub create_bundle_encoder : FlatBundle → List ℕ → Option (RequestOf ℕ)
create_bundle_encoder bundle colors =
    option_and_then (λ depth. option_and_then (λ depth_read_only. option_and_then (λ stencil_read_only. option_map (λ drawn.
    request.CreateBundleEncoder (record { colors = drawn; depth = depth; samples = bundle.samples; depth_read_only = depth_read_only; stencil_read_only = stencil_read_only }))
    (every format_of colors)) (flag_of bundle.stencil_read_only)) (flag_of bundle.depth_read_only)) (maybe_nth formats bundle.depth_format)

-- the writeTexture that a flat write asks for, if its values are ones
abbrev pub write_texture : FlatTextureWrite → Option (RequestOf ℕ)
write_texture write =
    option_and_then (λ layout. option_map (λ spot. request.WriteTexture write.spot.texture spot layout (extent_of write.size) write.data_size) (spot_of write.spot)) (layout_of write.layout)

-- the pushErrorScope of a filter, if the number is one
abbrev pub push_error_scope : ℕ → Option (RequestOf ℕ)
push_error_scope filter = option_map (λ caught. request.PushErrorScope caught) (nth filters filter)

-- Commands.

-- the beginRenderPass of flat attachments, if their values are ones
abbrev pub begin_render_pass : List FlatColor → FlatDepth → ℕ → ℕ → Option (CommandOf ℕ)
begin_render_pass colors depth queries max_draws =
    option_and_then (λ attached. option_map (λ drawn. command.BeginRenderPass (record { colors = drawn; depth = attached; queries = wide_of queries; max_draws = wide_of max_draws }))
    (every color_of colors)) (depth_target_of depth)

-- the copyBufferToBuffer that a flat copy asks for
abbrev pub copy_buffer_to_buffer : FlatBufferCopy → CommandOf ℕ
copy_buffer_to_buffer copy = command.CopyBufferToBuffer copy.source copy.source_offset copy.target copy.target_offset copy.size

-- the copyBufferToTexture that a flat copy asks for, if its values are ones
abbrev pub copy_buffer_to_texture : FlatTexelCopy → Option (CommandOf ℕ)
copy_buffer_to_texture copy =
    option_and_then (λ layout. option_map (λ spot. command.CopyBufferToTexture copy.buffer layout copy.spot.texture spot (extent_of copy.size)) (spot_of copy.spot)) (layout_of copy.layout)

-- the copyTextureToBuffer that a flat copy asks for, if its values are ones
abbrev pub copy_texture_to_buffer : FlatTexelCopy → Option (CommandOf ℕ)
copy_texture_to_buffer copy =
    option_and_then (λ layout. option_map (λ spot. command.CopyTextureToBuffer copy.buffer layout copy.spot.texture spot (extent_of copy.size)) (spot_of copy.spot)) (layout_of copy.layout)

-- the copyTextureToTexture that a flat copy asks for
abbrev pub copy_texture_to_texture : FlatTextureCopy → CommandOf ℕ
copy_texture_to_texture copy =
    command.CopyTextureToTexture copy.source copy.source_mip (origin_of copy.source_origin) copy.target copy.target_mip (origin_of copy.target_origin) (extent_of copy.size)

-- the setViewport of a flat viewport, if its flags are ones
abbrev pub set_viewport : FlatViewport → Option (CommandOf ℕ)
set_viewport viewport = option_map (λ known. command.SetViewport known) (viewport_of viewport)

-- the setIndexBuffer of a format, if the number is one
abbrev pub set_index_buffer : ℕ → ℕ → ℕ → ℕ → Option (CommandOf ℕ)
set_index_buffer buffer format offset size = option_map (λ known. command.SetIndexBuffer buffer known offset (wide_of size)) (nth index_formats format)
