-- Which call an object is, or the first script rule that it breaks: for each call its keys, and what
-- each holds, in the order in which they are read. Calls on textures, bindings, compute passes, rendering,
-- queries, bundles and canvases have definitions of their own.
use Rattle.std.specs.Prelude.{ℕ, List, [], ◌∷◌, false, codes, Option, Some, None, option_and_then, Result, Err}
use Rattle.serde_json.specs.Data.{Data}
use Rattle.serde_json.specs.Find.{get, as_str}
use Rattle.wg_script.specs.Values.{whole_at, whole_or, whole_if, most_whole, most_short, flag_or, name_at}
use Rattle.wg_script.specs.Lists.{names_at}
use Rattle.wg_script.specs.Words.{word_at}
use Rattle.wg_script.specs.Readers.{Reader, gives, need, may, all_of, ◌▹◌, read_by}
use Rattle.wg_script.specs.Labels.{label_if, made_keys}
use Rattle.wg_script.specs.TextureCalls.{create_texture_of, create_view_of, write_texture_of, copy_buffer_to_texture_of, copy_texture_to_buffer_of, copy_texture_to_texture_of}
use Rattle.wg_script.specs.SamplerCalls.{create_sampler_of}
use Rattle.wg_script.specs.BindingCalls.{create_group_layout_of, create_pipeline_layout_of, create_group_of, create_compute_of, get_group_layout_of}
use Rattle.wg_script.specs.PassCalls.{bare_of, begin_compute_pass_of, end_of, set_pipeline_of, set_bind_group_of, dispatch_of, dispatch_indirect_of}
use Rattle.wg_script.specs.RenderCalls.{create_render_of, begin_render_pass_of, set_vertex_buffer_of, set_index_buffer_of, set_viewport_of, set_scissor_rect_of, set_blend_constant_of, set_stencil_reference_of, draw_of, draw_indexed_of, draw_indirect_of, draw_indexed_indirect_of}
use Rattle.wg_script.specs.QueryCalls.{create_queries_of, resolve_queries_of, begin_occlusion_of, end_occlusion_of}
use Rattle.wg_script.specs.BundleCalls.{create_bundle_encoder_of, finish_bundle_of, execute_bundles_of}
use Rattle.wg_script.specs.CanvasCalls.{create_canvas_of, configure_canvas_of, current_texture_of, present_of}
use Rattle.wg_types.specs.Words.{word_of}
use Rattle.wg_types.specs.declared.words.Word.{Word}
use Rattle.wg_types.specs.declared.words.Word.TheVariants as word
use Rattle.wg_script.specs.CallOf.{Call}
use Rattle.wg_types.specs.declared.commands.CommandOf.TheVariants.{CopyBufferToBuffer, ClearBuffer, PushDebugGroup, PopDebugGroup, InsertDebugMarker}
use Rattle.wg_trace.specs.declared.replies.Filter.{Filter}
use Rattle.wg_trace.specs.declared.replies.Filter.TheVariants as filter
use Rattle.wg_types.specs.declared.requests.RequestOf.{RequestOf}
use Rattle.wg_types.specs.declared.requests.RequestOf.TheVariants.{CreateBuffer, CreateEncoder, Finish, Submit, WriteBuffer, Destroy, Drop, Complete, PushErrorScope, PopErrorScope, Lose, WorkDone, MapAsync, Unmap}
use Rattle.wg_script.specs.Calling.{recording, asking, making}

-- createBuffer
abbrev pub create_buffer_keys : Reader Call
create_buffer_keys = gives (λ size usage mapped made. making (CreateBuffer (record { size = size; usage = usage; mapped = mapped })) made)
    ▹ need (codes "size") (whole_at most_whole)
    ▹ need (codes "usage") (whole_at most_short)
    ▹ may (codes "mapped") (flag_or false)
    ▹ all_of made_keys

-- the reader of a createBuffer
unfoldable pub create_buffer_of : Data → Result Call ℕ
create_buffer_of d = read_by create_buffer_keys d

-- createEncoder
unfoldable pub create_encoder_of : Data → Result Call ℕ
create_encoder_of d = read_by (gives (making CreateEncoder) ▹ all_of made_keys) d

-- finish
abbrev pub finish_keys : Reader Call
finish_keys = gives (λ on made. making (Finish on) made)
    ▹ need (codes "on") name_at
    ▹ all_of made_keys

-- the reader of a finish
unfoldable pub finish_of : Data → Result Call ℕ
finish_of d = read_by finish_keys d

-- submit
unfoldable pub submit_of : Data → Result Call ℕ
submit_of d = read_by (gives (λ buffers. asking (Submit buffers)) ▹ need (codes "buffers") names_at) d

-- writeBuffer
abbrev pub write_buffer_keys : Reader Call
write_buffer_keys = gives (λ buffer offset size. asking (WriteBuffer buffer offset size))
    ▹ need (codes "buffer") name_at
    ▹ need (codes "offset") (whole_at most_whole)
    ▹ need (codes "size") (whole_at most_whole)

-- the reader of a writeBuffer
unfoldable pub write_buffer_of : Data → Result Call ℕ
write_buffer_of d = read_by write_buffer_keys d

-- destroy
unfoldable pub destroy_of : Data → Result Call ℕ
destroy_of d = read_by (gives (λ dead. asking (Destroy dead)) ▹ need (codes "object") name_at) d

-- drop
unfoldable pub drop_of : Data → Result Call ℕ
drop_of d = read_by (gives (λ dropped. asking (Drop dropped)) ▹ need (codes "object") name_at) d

-- complete
unfoldable pub complete_of : Data → Result Call ℕ
complete_of d = read_by (gives (λ op. asking (Complete op)) ▹ need (codes "op") (whole_at most_whole)) d

-- the words of which faults an error scope catches (WebGPU, "GPUErrorFilter")
abbrev pub filter_words : List (List ℕ × Filter)
filter_words = (codes "validation", filter.Validation) ∷ (codes "out-of-memory", filter.OutOfMemory) ∷ (codes "internal", filter.Internal) ∷ []

-- pushErrorScope
abbrev pub push_error_scope_keys : Reader Call
push_error_scope_keys = gives (λ filter. asking (PushErrorScope filter)) ▹ need (codes "filter") (word_at filter_words)

-- the reader of a pushErrorScope
unfoldable pub push_error_scope_of : Data → Result Call ℕ
push_error_scope_of d = read_by push_error_scope_keys d

-- what is asked with no key but that of its word
abbrev pub keyless_of : RequestOf (List ℕ) → Data → Result Call ℕ
keyless_of request d = read_by (gives (asking request)) d

-- popErrorScope
unfoldable pub pop_error_scope_of : Data → Result Call ℕ
pop_error_scope_of d = keyless_of PopErrorScope d

-- workDone
unfoldable pub work_done_of : Data → Result Call ℕ
work_done_of d = keyless_of WorkDone d

-- lose
unfoldable pub lose_of : Data → Result Call ℕ
lose_of d = keyless_of Lose d

-- mapAsync: no size stands for what remains of the buffer from the offset on
abbrev pub map_async_keys : Reader Call
map_async_keys = gives (λ buffer mode offset size. asking (MapAsync buffer mode offset size))
    ▹ need (codes "buffer") name_at
    ▹ need (codes "mode") (whole_at most_short)
    ▹ may (codes "offset") (whole_or most_whole 0)
    ▹ may (codes "size") (whole_if most_whole)

-- the reader of a mapAsync
unfoldable pub map_async_of : Data → Result Call ℕ
map_async_of d = read_by map_async_keys d

-- unmap
unfoldable pub unmap_of : Data → Result Call ℕ
unmap_of d = read_by (gives (λ buffer. asking (Unmap buffer)) ▹ need (codes "buffer") name_at) d

-- ---- calls that are recorded

-- copyBufferToBuffer
abbrev pub copy_buffer_to_buffer_keys : Reader Call
copy_buffer_to_buffer_keys = gives (λ on source source_offset target target_offset size. recording on (CopyBufferToBuffer source source_offset target target_offset size))
    ▹ need (codes "on") name_at
    ▹ need (codes "source") name_at
    ▹ need (codes "sourceOffset") (whole_at most_whole)
    ▹ need (codes "target") name_at
    ▹ need (codes "targetOffset") (whole_at most_whole)
    ▹ need (codes "size") (whole_at most_whole)

-- the reader of a copyBufferToBuffer
unfoldable pub copy_buffer_to_buffer_of : Data → Result Call ℕ
copy_buffer_to_buffer_of d = read_by copy_buffer_to_buffer_keys d

-- clearBuffer: no size stands for what remains of the buffer from the offset on
abbrev pub clear_buffer_keys : Reader Call
clear_buffer_keys = gives (λ on buffer offset size. recording on (ClearBuffer buffer offset size))
    ▹ need (codes "on") name_at
    ▹ need (codes "buffer") name_at
    ▹ may (codes "offset") (whole_or most_whole 0)
    ▹ may (codes "size") (whole_if most_whole)

-- the reader of a clearBuffer
unfoldable pub clear_buffer_of : Data → Result Call ℕ
clear_buffer_of d = read_by clear_buffer_keys d

-- pushDebugGroup: the label of the group is not looked at further
abbrev pub push_debug_group_keys : Reader Call
push_debug_group_keys = gives (λ on label. recording on PushDebugGroup)
    ▹ need (codes "on") name_at
    ▹ may (codes "label") label_if

-- the reader of a pushDebugGroup
unfoldable pub push_debug_group_of : Data → Result Call ℕ
push_debug_group_of d = read_by push_debug_group_keys d

-- popDebugGroup
unfoldable pub pop_debug_group_of : Data → Result Call ℕ
pop_debug_group_of d = bare_of PopDebugGroup d

-- insertDebugMarker: the label of the marker is not looked at further
abbrev pub insert_debug_marker_keys : Reader Call
insert_debug_marker_keys = gives (λ on label. recording on InsertDebugMarker)
    ▹ need (codes "on") name_at
    ▹ may (codes "label") label_if

-- the reader of an insertDebugMarker
unfoldable pub insert_debug_marker_of : Data → Result Call ℕ
insert_debug_marker_of d = read_by insert_debug_marker_keys d

-- ---- which call

-- a call by its keys
abbrev pub call_as : Word → Data → Result Call ℕ
call_as word.CreateBuffer d = create_buffer_of d
call_as word.CreateTexture d = create_texture_of d
call_as word.CreateView d = create_view_of d
call_as word.CreateSampler d = create_sampler_of d
call_as word.CreateBindGroupLayout d = create_group_layout_of d
call_as word.CreatePipelineLayout d = create_pipeline_layout_of d
call_as word.CreateBindGroup d = create_group_of d
call_as word.CreateComputePipeline d = create_compute_of d
call_as word.CreateRenderPipeline d = create_render_of d
call_as word.GetBindGroupLayout d = get_group_layout_of d
call_as word.CreateQuerySet d = create_queries_of d
call_as word.CreateEncoder d = create_encoder_of d
call_as word.CreateBundleEncoder d = create_bundle_encoder_of d
call_as word.Finish d = finish_of d
call_as word.FinishBundle d = finish_bundle_of d
call_as word.Submit d = submit_of d
call_as word.WriteBuffer d = write_buffer_of d
call_as word.WriteTexture d = write_texture_of d
call_as word.Destroy d = destroy_of d
call_as word.Drop d = drop_of d
call_as word.Complete d = complete_of d
call_as word.PushErrorScope d = push_error_scope_of d
call_as word.PopErrorScope d = pop_error_scope_of d
call_as word.WorkDone d = work_done_of d
call_as word.Lose d = lose_of d
call_as word.MapAsync d = map_async_of d
call_as word.Unmap d = unmap_of d
call_as word.CopyBufferToBuffer d = copy_buffer_to_buffer_of d
call_as word.CopyBufferToTexture d = copy_buffer_to_texture_of d
call_as word.CopyTextureToBuffer d = copy_texture_to_buffer_of d
call_as word.CopyTextureToTexture d = copy_texture_to_texture_of d
call_as word.ClearBuffer d = clear_buffer_of d
call_as word.ResolveQuerySet d = resolve_queries_of d
call_as word.PushDebugGroup d = push_debug_group_of d
call_as word.PopDebugGroup d = pop_debug_group_of d
call_as word.InsertDebugMarker d = insert_debug_marker_of d
call_as word.BeginComputePass d = begin_compute_pass_of d
call_as word.End d = end_of d
call_as word.SetPipeline d = set_pipeline_of d
call_as word.SetBindGroup d = set_bind_group_of d
call_as word.Dispatch d = dispatch_of d
call_as word.DispatchIndirect d = dispatch_indirect_of d
call_as word.BeginRenderPass d = begin_render_pass_of d
call_as word.SetVertexBuffer d = set_vertex_buffer_of d
call_as word.SetIndexBuffer d = set_index_buffer_of d
call_as word.SetViewport d = set_viewport_of d
call_as word.SetScissorRect d = set_scissor_rect_of d
call_as word.SetBlendConstant d = set_blend_constant_of d
call_as word.SetStencilReference d = set_stencil_reference_of d
call_as word.Draw d = draw_of d
call_as word.DrawIndexed d = draw_indexed_of d
call_as word.DrawIndirect d = draw_indirect_of d
call_as word.DrawIndexedIndirect d = draw_indexed_indirect_of d
call_as word.BeginOcclusionQuery d = begin_occlusion_of d
call_as word.EndOcclusionQuery d = end_occlusion_of d
call_as word.ExecuteBundles d = execute_bundles_of d
call_as word.CreateCanvas d = create_canvas_of d
call_as word.ConfigureCanvas d = configure_canvas_of d
call_as word.CurrentTexture d = current_texture_of d
call_as word.Present d = present_of d

-- script rule 6: the word names no call, or there is no word
abbrev pub call_named : Option Word → Data → Result Call ℕ
call_named None d = Err 6
call_named (Some w) d = call_as w d

-- the call that an object is, by its key `do`; what is no object has no key
abbrev pub call_of : Data → Result Call ℕ
call_of d = call_named (option_and_then word_of (option_and_then as_str (get (codes "do") d))) d
