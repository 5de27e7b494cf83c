-- The calls on render pipelines, render passes and draws: for each its keys, and what each holds, in the order in which they
-- are read.
use Rattle.std.specs.Prelude.{ℕ, codes, false, Result, Ok}
use Rattle.serde_json.specs.Data.{Data}
use Rattle.wg_types.specs.declared.commands.CommandOf.TheVariants.{BeginRenderPass, SetVertexBuffer, SetIndexBuffer, SetViewport, SetScissorRect, SetBlendConstant, SetStencilReference, Draw, DrawIndexed, DrawIndirect, DrawIndexedIndirect}
use Rattle.wg_types.specs.declared.requests.RequestOf.TheVariants.{CreateRenderPipeline}
use Rattle.wg_script.specs.Giving.{◌>>=◌}
use Rattle.wg_script.specs.Values.{whole_at, whole_or, whole_if, most_whole, most_short, flag_or, name_at}
use Rattle.wg_script.specs.Lists.{list_at, list_or_empty, null_or, item_if, item_or_null, name_item}
use Rattle.wg_script.specs.Words.{word_at}
use Rattle.wg_script.specs.RenderWords.{index_format_words}
use Rattle.wg_script.specs.BindingEntries.{staged_entry_of}
use Rattle.wg_script.specs.BindingCalls.{layout_at}
use Rattle.wg_script.specs.PassCalls.{bare_of, indirect_of}
use Rattle.wg_script.specs.RenderEntries.{vertex_buffer_of, color_target_of, depth_target_of}
use Rattle.wg_script.specs.FixedFunction.{target_of, fixed_keys}
use Rattle.wg_script.specs.CallOf.{Call}
use Rattle.wg_script.specs.Calling.{recording, beginning, making}
use Rattle.wg_script.specs.Readers.{Reader, gives, need, may, all_of, ◌▹◌, read_by}
use Rattle.wg_script.specs.Labels.{made_keys}

-- ---- render pipelines

-- createRenderPipeline: a vertex buffer or a target that is null is left out
abbrev pub create_render_keys : Reader Call
create_render_keys =
    gives (λ fixed layout iface buffers targets made. making (CreateRenderPipeline layout (record {
      iface = iface;
      buffers = buffers;
      targets = targets;
      primitive = fixed.primitive;
      depth = fixed.depth;
      samples = fixed.samples;
      alpha_to_coverage = fixed.alpha_to_coverage;
    })) made)
    ▹ all_of fixed_keys
    ▹ need (codes "layout") layout_at
    ▹ may (codes "iface") (list_or_empty staged_entry_of)
    ▹ may (codes "buffers") (list_or_empty (null_or vertex_buffer_of))
    ▹ may (codes "targets") (list_or_empty (null_or target_of))
    ▹ all_of made_keys

-- the reader of a createRenderPipeline
unfoldable pub create_render_of : Data → Result Call ℕ
create_render_of d = read_by create_render_keys d

-- ---- render passes

-- beginRenderPass: a color attachment that is null is left out, the pass may draw as often as it will where no count is given,
-- and the name that the call makes is that of the pass
abbrev pub begin_render_pass_keys : Reader Call
begin_render_pass_keys = gives (λ on colors depth queries max_draws made. beginning on (BeginRenderPass (record { colors = colors; depth = depth; queries = queries; max_draws = max_draws })) made)
    ▹ need (codes "on") name_at
    ▹ need (codes "colors") (list_at (null_or color_target_of))
    ▹ may (codes "depth") (item_if depth_target_of)
    ▹ may (codes "queries") (item_if name_item)
    ▹ may (codes "maxDrawCount") (whole_if most_whole)
    ▹ all_of made_keys

-- the reader of a beginRenderPass
unfoldable pub begin_render_pass_of : Data → Result Call ℕ
begin_render_pass_of d = read_by begin_render_pass_keys d

-- ---- what is set

-- setVertexBuffer: a buffer that is null leaves nothing set, and no size stands for what remains of the buffer from the offset on
abbrev pub set_vertex_buffer_keys : Reader Call
set_vertex_buffer_keys = gives (λ on slot buffer offset size. recording on (SetVertexBuffer slot buffer offset size))
    ▹ need (codes "on") name_at
    ▹ need (codes "slot") (whole_at most_short)
    ▹ need (codes "buffer") (item_or_null name_item)
    ▹ may (codes "offset") (whole_or most_whole 0)
    ▹ may (codes "size") (whole_if most_whole)

-- the reader of a setVertexBuffer
unfoldable pub set_vertex_buffer_of : Data → Result Call ℕ
set_vertex_buffer_of d = read_by set_vertex_buffer_keys d

-- setIndexBuffer: no size stands for what remains of the buffer from the offset on
abbrev pub set_index_buffer_keys : Reader Call
set_index_buffer_keys = gives (λ on buffer format offset size. recording on (SetIndexBuffer buffer format offset size))
    ▹ need (codes "on") name_at
    ▹ need (codes "buffer") name_at
    ▹ need (codes "format") (word_at index_format_words)
    ▹ may (codes "offset") (whole_or most_whole 0)
    ▹ may (codes "size") (whole_if most_whole)

-- the reader of a setIndexBuffer
unfoldable pub set_index_buffer_of : Data → Result Call ℕ
set_index_buffer_of d = read_by set_index_buffer_keys d

-- setViewport: each number stands for itself over 65536. Where nothing else is said, the viewport begins at the left upper corner
-- of what is attached, and has all depths
abbrev pub set_viewport_keys : Reader Call
set_viewport_keys =
    gives (λ on x left y above width height min_depth max_depth. recording on (SetViewport (record {
      x = x;
      left = left;
      y = y;
      above = above;
      width = width;
      height = height;
      min_depth = min_depth;
      max_depth = max_depth;
    })))
    ▹ need (codes "on") name_at
    ▹ may (codes "x") (whole_or most_whole 0)
    ▹ may (codes "left") (flag_or false)
    ▹ may (codes "y") (whole_or most_whole 0)
    ▹ may (codes "above") (flag_or false)
    ▹ need (codes "width") (whole_at most_whole)
    ▹ need (codes "height") (whole_at most_whole)
    ▹ may (codes "minDepth") (whole_or most_whole 0)
    ▹ may (codes "maxDepth") (whole_or most_whole 65536)

-- the reader of a setViewport
unfoldable pub set_viewport_of : Data → Result Call ℕ
set_viewport_of d = read_by set_viewport_keys d

-- setScissorRect
abbrev pub set_scissor_rect_keys : Reader Call
set_scissor_rect_keys = gives (λ on x y width height. recording on (SetScissorRect x y width height))
    ▹ need (codes "on") name_at
    ▹ need (codes "x") (whole_at most_short)
    ▹ need (codes "y") (whole_at most_short)
    ▹ need (codes "width") (whole_at most_short)
    ▹ need (codes "height") (whole_at most_short)

-- the reader of a setScissorRect
unfoldable pub set_scissor_rect_of : Data → Result Call ℕ
set_scissor_rect_of d = read_by set_scissor_rect_keys d

-- setBlendConstant
unfoldable pub set_blend_constant_of : Data → Result Call ℕ
set_blend_constant_of d = bare_of SetBlendConstant d

-- setStencilReference: the reference is not looked at further
abbrev pub set_stencil_reference_keys : Reader Call
set_stencil_reference_keys = gives (λ on reference. recording on SetStencilReference)
    ▹ need (codes "on") name_at
    ▹ need (codes "reference") (whole_at most_short)

-- the reader of a setStencilReference
unfoldable pub set_stencil_reference_of : Data → Result Call ℕ
set_stencil_reference_of d = read_by set_stencil_reference_keys d

-- ---- draws

-- draw
abbrev pub draw_keys : Reader Call
draw_keys = gives (λ on vertices instances first_vertex first_instance. recording on (Draw vertices instances first_vertex first_instance))
    ▹ need (codes "on") name_at
    ▹ need (codes "vertices") (whole_at most_short)
    ▹ may (codes "instances") (whole_or most_short 1)
    ▹ may (codes "firstVertex") (whole_or most_short 0)
    ▹ may (codes "firstInstance") (whole_or most_short 0)

-- the reader of a draw
unfoldable pub draw_of : Data → Result Call ℕ
draw_of d = read_by draw_keys d

-- drawIndexed: the number that is added to each index, modulo 2^32, is not looked at further
abbrev pub draw_indexed_keys : Reader Call
draw_indexed_keys = gives (λ on indices instances first_index first_instance base_vertex. recording on (DrawIndexed indices instances first_index first_instance))
    ▹ need (codes "on") name_at
    ▹ need (codes "indices") (whole_at most_short)
    ▹ may (codes "instances") (whole_or most_short 1)
    ▹ may (codes "firstIndex") (whole_or most_short 0)
    ▹ may (codes "firstInstance") (whole_or most_short 0)
    ▹ may (codes "baseVertex") (whole_or most_short 0)

-- the reader of a drawIndexed
unfoldable pub draw_indexed_of : Data → Result Call ℕ
draw_indexed_of d = read_by draw_indexed_keys d

-- drawIndirect
unfoldable pub draw_indirect_of : Data → Result Call ℕ
draw_indirect_of d = indirect_of d >>= λ c. Ok (recording c.on (DrawIndirect c.buffer c.offset))

-- drawIndexedIndirect
unfoldable pub draw_indexed_indirect_of : Data → Result Call ℕ
draw_indexed_indirect_of d = indirect_of d >>= λ c. Ok (recording c.on (DrawIndexedIndirect c.buffer c.offset))
