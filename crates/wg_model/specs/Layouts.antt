-- The rules of bind group layouts and pipeline layouts (WebGPU, "Bind Group Layout Creation" and "Pipeline Layout Creation").
use Rattle.std.specs.Prelude.{ℕ, Bool, true, false, not, ◌&&◌, ◌||◌, ◌==◌, nat_lt, nat_le, count_by, length, List, [], ◌∷◌, ◌++◌, is_none}
use Rattle.std.specs.List.{list_all, list_any}
use Rattle.wg_rules.specs.declared.TheConstants.{LAYOUT_BINDINGS_ARE_DISTINCT, LAYOUT_BINDINGS_ARE_WITHIN_LIMIT, LAYOUT_VISIBILITY_IS_KNOWN, VERTEX_STAGE_WRITES_NOTHING, MULTISAMPLED_BINDING_IS_2D_AND_NOT_FLOAT, STORAGE_TEXTURE_FORMAT_HAS_ACCESS, LAYOUT_STAGES_ARE_WITHIN_LIMITS, LAYOUT_DYNAMIC_BUFFERS_ARE_WITHIN_LIMITS, PIPELINE_LAYOUT_COUNT_IS_WITHIN_LIMIT, PIPELINE_LAYOUT_STAGES_ARE_WITHIN_LIMITS, PIPELINE_LAYOUT_DYNAMIC_BUFFERS_ARE_WITHIN_LIMITS, LAYOUTS_ARE_EXCLUSIVE_TO_NO_PIPELINE}
use Rattle.wg_types.specs.Formats.{row}
use Rattle.wg_types.specs.declared.limits.Limits.{Limits}
use Rattle.wg_types.specs.declared.formats.SampleType.{SampleType}
use Rattle.wg_types.specs.declared.formats.SampleType.TheVariants.{Float}
use Rattle.wg_types.specs.declared.formats.StorageAccesses.{StorageAccesses}
use Rattle.wg_types.specs.declared.bindings.BufferBinding.{BufferBinding}
use Rattle.wg_types.specs.declared.bindings.BufferBinding.TheVariants.{Uniform, Storage, ReadOnlyStorage}
use Rattle.wg_types.specs.declared.bindings.StorageAccess.{StorageAccess}
use Rattle.wg_types.specs.declared.bindings.StorageAccess.TheVariants.{ReadOnly, WriteOnly, ReadWrite}
use Rattle.wg_types.specs.declared.bindings.BindingKind.{BindingKind}
use Rattle.wg_types.specs.declared.bindings.BindingKind.TheVariants.{Buffer, Sampler, Texture, StorageTexture}
use Rattle.wg_types.specs.declared.bindings.LayoutEntry.{LayoutEntry}
use Rattle.wg_types.specs.declared.groups.GroupLayoutInfo.{GroupLayoutInfo}
use Rattle.wg_model.specs.Rules.{Rule}
use Rattle.wg_model.specs.Buffers.{has_usage}
use Rattle.wg_model.specs.Textures.{is_cube, is_2d_view}

-- The bits of the stages (WebGPU, "GPUShaderStage"): VERTEX 1, FRAGMENT 2, COMPUTE 4.
abbrev pub vertex_stage : ℕ
vertex_stage = 1

-- the bit of the fragment stage
abbrev pub fragment_stage : ℕ
fragment_stage = 2

-- the bit of the compute stage
abbrev pub compute_stage : ℕ
compute_stage = 4

-- the bits of all stages
abbrev pub stages : ℕ
stages = 7

-- whether a stage sees an entry
abbrev pub is_seen_by : ℕ → LayoutEntry → Bool
is_seen_by stage entry = has_usage entry.visibility stage

-- whether no two entries are of one binding
abbrev pub bindings_are_distinct : List LayoutEntry → Bool
bindings_are_distinct [] = true
bindings_are_distinct (entry ∷ entries) = not (list_any (λ (other : LayoutEntry). other.binding == entry.binding) entries) && bindings_are_distinct entries

-- whether an access of a storage texture writes it
abbrev pub is_written : StorageAccess → Bool
is_written ReadOnly = false
is_written WriteOnly = true
is_written ReadWrite = true

-- whether a buffer is bound as storage that may be written
abbrev pub is_storage : BufferBinding → Bool
is_storage Uniform = false
is_storage Storage = true
is_storage ReadOnlyStorage = false

-- whether shaders may write what a binding holds
abbrev pub may_write : BindingKind → Bool
may_write (Buffer binding dynamic min_size) = is_storage binding
may_write (Sampler sampler_type) = false
may_write (Texture sample dim multi) = false
may_write (StorageTexture access format dim) = is_written access

-- whether a sample type is float
abbrev pub is_float : SampleType → Bool
is_float Float = true
is_float _ = false

-- a texture with several samples is 2d and is not sampled as float
abbrev pub multi_fits : BindingKind → Bool
multi_fits (Texture sample dim multi) = not multi || (is_2d_view dim && not (is_float sample))
multi_fits _ = true

-- whether a format has an access as storage
abbrev pub has_access : StorageAccess → StorageAccesses → Bool
has_access ReadOnly storage = storage.read_only
has_access WriteOnly storage = storage.write_only
has_access ReadWrite storage = storage.read_write

-- a storage texture is no cube, and its format has the access
abbrev pub storage_fits : BindingKind → Bool
storage_fits (StorageTexture access format dim) = not (is_cube dim) && has_access access (row format).storage
storage_fits _ = true

-- The sorts of bindings that limits count.
abbrev pub is_uniform_binding : BufferBinding → Bool
is_uniform_binding Uniform = true
is_uniform_binding Storage = false
is_uniform_binding ReadOnlyStorage = false

-- whether an entry is a uniform buffer
abbrev pub is_uniform : BindingKind → Bool
is_uniform (Buffer binding dynamic min_size) = is_uniform_binding binding
is_uniform _ = false

-- a storage buffer, also one that is only read
abbrev pub is_storage_buffer : BindingKind → Bool
is_storage_buffer (Buffer binding dynamic min_size) = not (is_uniform_binding binding)
is_storage_buffer _ = false

-- whether an entry is a sampler
abbrev pub is_sampler : BindingKind → Bool
is_sampler (Sampler sampler_type) = true
is_sampler _ = false

-- whether an entry is a texture that is sampled
abbrev pub is_sampled_texture : BindingKind → Bool
is_sampled_texture (Texture sample dim multi) = true
is_sampled_texture _ = false

-- whether an entry is a storage texture
abbrev pub is_storage_texture : BindingKind → Bool
is_storage_texture (StorageTexture access format dim) = true
is_storage_texture _ = false

-- whether an entry is a buffer with an offset that is given later
abbrev pub is_dynamic : BindingKind → Bool
is_dynamic (Buffer binding dynamic min_size) = dynamic
is_dynamic _ = false

-- how many entries of a sort a stage sees
abbrev pub seen_count : (BindingKind → Bool) → ℕ → List LayoutEntry → ℕ
seen_count sort stage entries = count_by (λ (entry : LayoutEntry). is_seen_by stage entry && sort entry.kind) entries

-- whether a stage sees no more than it may
abbrev pub stage_fits : Limits → List LayoutEntry → ℕ → Bool
stage_fits limits entries stage =
    nat_le (seen_count is_sampled_texture stage entries) limits.max_sampled_textures_per_shader_stage
    && nat_le (seen_count is_sampler stage entries) limits.max_samplers_per_shader_stage
    && nat_le (seen_count is_storage_buffer stage entries) limits.max_storage_buffers_per_shader_stage
    && nat_le (seen_count is_storage_texture stage entries) limits.max_storage_textures_per_shader_stage
    && nat_le (seen_count is_uniform stage entries) limits.max_uniform_buffers_per_shader_stage

-- rules 136 and 141: no stage sees more entries of a sort than it may
abbrev pub stages_fit : Limits → List LayoutEntry → Bool
stages_fit limits entries = stage_fits limits entries vertex_stage && stage_fits limits entries fragment_stage && stage_fits limits entries compute_stage

-- how many entries of a sort are dynamic, whatever stages see them
abbrev pub dynamic_count : (BindingKind → Bool) → List LayoutEntry → ℕ
dynamic_count sort entries = count_by (λ (entry : LayoutEntry). is_dynamic entry.kind && sort entry.kind) entries

-- rules 137 and 142: there are no more dynamic uniform buffers, and dynamic storage buffers, than there may be
abbrev pub dynamic_fits : Limits → List LayoutEntry → Bool
dynamic_fits limits entries =
    nat_le (dynamic_count is_uniform entries) limits.max_dynamic_uniform_buffers_per_pipeline_layout
    && nat_le (dynamic_count is_storage_buffer entries) limits.max_dynamic_storage_buffers_per_pipeline_layout

-- createBindGroupLayout: 130 the bindings are distinct; 131 they are within the limit; 132 the visibility has no unknown
-- stage; 133 the vertex stage sees nothing that shaders may write; 134 a texture with several samples is 2d and not float;
-- 135 a storage texture is no cube, and its format has the access; 136 no stage sees more of a sort than it may; 137 no more
-- buffers are dynamic than may be.
abbrev pub group_layout_rules : Limits → List LayoutEntry → List Rule
group_layout_rules limits entries =
    (LAYOUT_BINDINGS_ARE_DISTINCT, bindings_are_distinct entries)
    ∷ ((LAYOUT_BINDINGS_ARE_WITHIN_LIMIT, list_all (λ (entry : LayoutEntry). nat_lt entry.binding limits.max_bindings_per_bind_group) entries)
    ∷ ((LAYOUT_VISIBILITY_IS_KNOWN, list_all (λ (entry : LayoutEntry). nat_le entry.visibility stages) entries)
    ∷ ((VERTEX_STAGE_WRITES_NOTHING, list_all (λ (entry : LayoutEntry). not (is_seen_by vertex_stage entry && may_write entry.kind)) entries)
    ∷ ((MULTISAMPLED_BINDING_IS_2D_AND_NOT_FLOAT, list_all (λ (entry : LayoutEntry). multi_fits entry.kind) entries)
    ∷ ((STORAGE_TEXTURE_FORMAT_HAS_ACCESS, list_all (λ (entry : LayoutEntry). storage_fits entry.kind) entries)
    ∷ ((LAYOUT_STAGES_ARE_WITHIN_LIMITS, stages_fit limits entries)
    ∷ ((LAYOUT_DYNAMIC_BUFFERS_ARE_WITHIN_LIMITS, dynamic_fits limits entries)
    ∷ [])))))))

-- the entries of several layouts together, of one that stands there twice also twice: 141 and 142 ask of these what 136 and
-- 137 ask of one layout
abbrev pub all_entries : List GroupLayoutInfo → List LayoutEntry
all_entries [] = []
all_entries (layout ∷ layouts) = layout.entries ++ all_entries layouts

-- The layouts of a pipeline together: 140 there are no more groups than may be; 141 no stage sees more of a sort in all of them
-- than it may; 142 no more buffers in all of them are dynamic than may be.
abbrev pub together_rules : Limits → List GroupLayoutInfo → List Rule
together_rules limits layouts =
    (PIPELINE_LAYOUT_COUNT_IS_WITHIN_LIMIT, nat_le (length layouts) limits.max_bind_groups)
    ∷ ((PIPELINE_LAYOUT_STAGES_ARE_WITHIN_LIMITS, stages_fit limits (all_entries layouts))
    ∷ ((PIPELINE_LAYOUT_DYNAMIC_BUFFERS_ARE_WITHIN_LIMITS, dynamic_fits limits (all_entries layouts))
    ∷ []))

-- whether any pipeline may use a layout
abbrev pub is_for_all : GroupLayoutInfo → Bool
is_for_all layout = is_none layout.exclusive

-- createPipelineLayout: 140 to 142, and 143 none of the layouts is exclusive to a pipeline.
abbrev pub pipeline_layout_rules : Limits → List GroupLayoutInfo → List Rule
pipeline_layout_rules limits layouts = together_rules limits layouts ++ (LAYOUTS_ARE_EXCLUSIVE_TO_NO_PIPELINE, list_all is_for_all layouts) ∷ []
