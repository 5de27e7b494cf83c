-- The first unmet rule of each event. Those of buffers, textures and query sets that are made end by the budget. WebGPU:
-- "Buffer Creation", "Texture Creation", "QuerySet Creation".
use Rattle.std.specs.Prelude.{ℕ, ◌+◌, nat_le, List, [], ◌∷◌, ◌++◌, Option, Some, None}
use Rattle.wg_rules.specs.declared.TheConstants.{BYTES_ARE_WITHIN_BUDGET, CALL_IS_NOT_LATE}
use Rattle.wg_types.specs.declared.handles.BufferInfo.{BufferInfo}
use Rattle.wg_types.specs.declared.handles.QueriesInfo.{QueriesInfo}
use Rattle.wg_types.specs.declared.handles.Info.TheVariants.{Queries}
use Rattle.wg_types.specs.declared.textures.TextureInfo.{TextureInfo}
use Rattle.wg_types.specs.declared.render.TargetInfo.{TargetInfo}
use Rattle.wg_model.specs.Rules.{Rule, first_unmet}
use Rattle.wg_model.specs.Buffers.{create_buffer_rules}
use Rattle.wg_model.specs.Textures.{create_texture_rules}
use Rattle.wg_model.specs.Queries.{create_queries_rules}
use Rattle.wg_model.specs.Samplers.{sampler_rules}
use Rattle.wg_model.specs.Bundles.{bundle_target_rules}
use Rattle.wg_model.specs.Memory.{texture_bytes, bytes_of}
use Rattle.wg_history.specs.Entries.{Setup, Event, CreateBuffer, CreateTexture, CreateView, CreateSampler, CreateBindGroupLayout, CreatePipelineLayout, CreateBindGroup, CreateComputePipeline, CreateRenderPipeline, GetBindGroupLayout, CreateQuerySet, CreateEncoder, CreateBundleEncoder, Finish, FinishBundle, Late, Submit, WriteBuffer, WriteTexture, Destroy, Drop, Complete, PushErrorScope, PopErrorScope, Lose, WorkDone, MapAsync, Unmap, Past}
use Rattle.wg_history.specs.Rules.{create_view_rule, destroy_rule, drop_rule, unmap_rule, map_async_rule, write_buffer_rule, write_texture_rule, finish_rule, finish_bundle_rule, submit_rule}
use Rattle.wg_history.specs.GroupRules.{create_bind_group_layout_rule, create_pipeline_layout_rule, create_bind_group_rule, create_compute_pipeline_rule, create_render_pipeline_rule, get_bind_group_layout_rule}
use Rattle.wg_history.specs.Budget.{live_bytes}

-- 13 what is live before the event and the new bytes are within the budget
abbrev pub budget_rules : Setup → Past → ℕ → List Rule
budget_rules setup past bytes = (BYTES_ARE_WITHIN_BUDGET, nat_le (live_bytes setup past + bytes) setup.budget) ∷ []

-- createBuffer
unfoldable pub create_buffer_rule : Setup → Past → BufferInfo → Option ℕ
create_buffer_rule setup past info = first_unmet (create_buffer_rules setup.limits info ++ budget_rules setup past info.size)

-- createTexture
unfoldable pub create_texture_rule : Setup → Past → TextureInfo → Option ℕ
create_texture_rule setup past info = first_unmet (create_texture_rules setup.limits info ++ budget_rules setup past (texture_bytes info))

-- createQuerySet
unfoldable pub create_query_set_rule : Setup → Past → QueriesInfo → Option ℕ
create_query_set_rule setup past info = first_unmet (create_queries_rules setup.limits info ++ budget_rules setup past (bytes_of (Queries info)))

-- createBundleEncoder, which takes nothing of the budget
unfoldable pub create_bundle_encoder_rule : Setup → TargetInfo → Option ℕ
create_bundle_encoder_rule setup targets = first_unmet (bundle_target_rules setup.limits targets)

-- The first unmet rule of an event that comes after a past. An event that meets all its rules is met. A recording call that
-- came after the end of its encoder or pass always has rule 14.
abbrev pub first_rule : Setup → Past → Event → Option ℕ
first_rule setup past (CreateBuffer info) = create_buffer_rule setup past info
first_rule setup past (CreateTexture info) = create_texture_rule setup past info
first_rule setup past (CreateView texture desc) = create_view_rule setup past texture desc
first_rule setup past (CreateSampler desc) = first_unmet (sampler_rules desc)
first_rule setup past (CreateBindGroupLayout entries) = create_bind_group_layout_rule setup entries
first_rule setup past (CreatePipelineLayout layouts) = create_pipeline_layout_rule setup past layouts
first_rule setup past (CreateBindGroup layout entries) = create_bind_group_rule setup past layout entries
first_rule setup past (CreateComputePipeline layout iface) = create_compute_pipeline_rule setup past layout iface
first_rule setup past (CreateRenderPipeline layout desc) = create_render_pipeline_rule setup past layout desc
first_rule setup past (GetBindGroupLayout pipeline index) = get_bind_group_layout_rule setup past pipeline index
first_rule setup past (CreateQuerySet info) = create_query_set_rule setup past info
first_rule setup past CreateEncoder = None
first_rule setup past (CreateBundleEncoder targets) = create_bundle_encoder_rule setup targets
first_rule setup past (Finish encoder recording) = finish_rule setup past encoder recording
first_rule setup past (FinishBundle encoder recording) = finish_bundle_rule setup past encoder recording
first_rule setup past (Late encoder) = Some CALL_IS_NOT_LATE
first_rule setup past (Submit buffers) = submit_rule setup past buffers
first_rule setup past (WriteBuffer buffer offset size) = write_buffer_rule setup past buffer offset size
first_rule setup past (WriteTexture texture spot layout size data_size) = write_texture_rule setup past texture spot layout size data_size
first_rule setup past (Destroy object) = destroy_rule setup past object
first_rule setup past (Drop object) = drop_rule setup past object
first_rule setup past (Complete op) = None
first_rule setup past (PushErrorScope filter) = None
first_rule setup past PopErrorScope = None
first_rule setup past Lose = None
first_rule setup past WorkDone = None
first_rule setup past (MapAsync buffer mode offset size) = map_async_rule setup past buffer mode offset size
first_rule setup past (Unmap buffer) = unmap_rule setup past buffer
