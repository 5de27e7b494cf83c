-- The limits of devices (WebGPU, "Limits"): what a device has where nothing is asked for, the best that one can ask for,
-- and what comes of asking (WebGPU, "requestDevice").
use Rattle.std.specs.Prelude.{◌≡◌, ℕ, ◌^◌, max, min, Bool, true, false, not, ◌&&◌, ◌||◌, IsTrue, nat_lt, nat_le, List, Option, Some, None, if◌then◌else◌}
use Rattle.std.specs.List.{find, list_all, list_any}
use Rattle.std.specs.Option.{option_map, unwrap_or}
use Rattle.std.specs.Int.{is_power_of_two}
use Rattle.wg_types.specs.declared.limits.Limits.{Limits}
use Rattle.wg_limits.specs.Names.{same_limit}
use Rattle.wg_limits.specs.declared.names.LimitName.{LimitName}
use Rattle.wg_limits.specs.declared.names.LimitName.TheVariants.{MaxTextureDimension1d, MaxTextureDimension2d, MaxTextureDimension3d, MaxTextureArrayLayers, MaxBindGroups, MaxBindingsPerBindGroup, MaxDynamicUniformBuffersPerPipelineLayout, MaxDynamicStorageBuffersPerPipelineLayout, MaxSampledTexturesPerShaderStage, MaxSamplersPerShaderStage, MaxStorageBuffersPerShaderStage, MaxStorageTexturesPerShaderStage, MaxUniformBuffersPerShaderStage, MaxUniformBufferBindingSize, MaxStorageBufferBindingSize, MinUniformBufferOffsetAlignment, MinStorageBufferOffsetAlignment, MaxVertexBuffers, MaxVertexAttributes, MaxVertexBufferArrayStride, MaxBufferSize, MaxColorAttachments, MaxComputeWorkgroupsPerDimension, MaxColorAttachmentBytesPerSample}

-- The limits of a device that is opened without asking for any. Of the bytes of a sample it has no bound: those are bounded only where
-- one asks for that.
abbrev pub default_limits : Limits
default_limits = record {
  max_texture_dimension_1d = 8192;
  max_texture_dimension_2d = 8192;
  max_texture_dimension_3d = 2048;
  max_texture_array_layers = 256;
  max_bind_groups = 4;
  max_bindings_per_bind_group = 1000;
  max_dynamic_uniform_buffers_per_pipeline_layout = 8;
  max_dynamic_storage_buffers_per_pipeline_layout = 4;
  max_sampled_textures_per_shader_stage = 16;
  max_samplers_per_shader_stage = 16;
  max_storage_buffers_per_shader_stage = 8;
  max_storage_textures_per_shader_stage = 4;
  max_uniform_buffers_per_shader_stage = 12;
  max_uniform_buffer_binding_size = 65536;
  max_storage_buffer_binding_size = 134217728;
  min_uniform_buffer_offset_alignment = 256;
  min_storage_buffer_offset_alignment = 256;
  max_vertex_buffers = 8;
  max_vertex_attributes = 16;
  max_vertex_buffer_array_stride = 2048;
  max_buffer_size = 268435456;
  max_color_attachments = 8;
  max_color_attachment_bytes_per_sample = None;
  max_compute_workgroups_per_dimension = 65535;
  max_queries_per_set = 4096;
}

-- The best limits that a device can have: those of the defaults but for these.
abbrev pub best_limits : Limits
best_limits = record default_limits {
  max_texture_dimension_1d = 16384;
  max_texture_dimension_2d = 16384;
  max_texture_dimension_3d = 4096;
  max_texture_array_layers = 2048;
  max_bindings_per_bind_group = 4000;
  max_dynamic_uniform_buffers_per_pipeline_layout = 16;
  max_dynamic_storage_buffers_per_pipeline_layout = 8;
  max_sampled_textures_per_shader_stage = 64;
  max_samplers_per_shader_stage = 32;
  max_storage_buffers_per_shader_stage = 32;
  max_storage_textures_per_shader_stage = 16;
  max_uniform_buffers_per_shader_stage = 24;
  max_uniform_buffer_binding_size = 1048576;
  max_storage_buffer_binding_size = 4294967296;
  max_vertex_attributes = 32;
  max_vertex_buffer_array_stride = 8192;
  max_buffer_size = 4294967296;
  max_color_attachment_bytes_per_sample = Some 128;
}

-- a limit by its name. A device without a bound of the bytes of a sample tells the default of WebGPU
abbrev pub limit_of : LimitName → Limits → ℕ
limit_of MaxTextureDimension1d limits = limits.max_texture_dimension_1d
limit_of MaxTextureDimension2d limits = limits.max_texture_dimension_2d
limit_of MaxTextureDimension3d limits = limits.max_texture_dimension_3d
limit_of MaxTextureArrayLayers limits = limits.max_texture_array_layers
limit_of MaxBindGroups limits = limits.max_bind_groups
limit_of MaxBindingsPerBindGroup limits = limits.max_bindings_per_bind_group
limit_of MaxDynamicUniformBuffersPerPipelineLayout limits = limits.max_dynamic_uniform_buffers_per_pipeline_layout
limit_of MaxDynamicStorageBuffersPerPipelineLayout limits = limits.max_dynamic_storage_buffers_per_pipeline_layout
limit_of MaxSampledTexturesPerShaderStage limits = limits.max_sampled_textures_per_shader_stage
limit_of MaxSamplersPerShaderStage limits = limits.max_samplers_per_shader_stage
limit_of MaxStorageBuffersPerShaderStage limits = limits.max_storage_buffers_per_shader_stage
limit_of MaxStorageTexturesPerShaderStage limits = limits.max_storage_textures_per_shader_stage
limit_of MaxUniformBuffersPerShaderStage limits = limits.max_uniform_buffers_per_shader_stage
limit_of MaxUniformBufferBindingSize limits = limits.max_uniform_buffer_binding_size
limit_of MaxStorageBufferBindingSize limits = limits.max_storage_buffer_binding_size
limit_of MinUniformBufferOffsetAlignment limits = limits.min_uniform_buffer_offset_alignment
limit_of MinStorageBufferOffsetAlignment limits = limits.min_storage_buffer_offset_alignment
limit_of MaxVertexBuffers limits = limits.max_vertex_buffers
limit_of MaxVertexAttributes limits = limits.max_vertex_attributes
limit_of MaxVertexBufferArrayStride limits = limits.max_vertex_buffer_array_stride
limit_of MaxBufferSize limits = limits.max_buffer_size
limit_of MaxColorAttachments limits = limits.max_color_attachments
limit_of MaxComputeWorkgroupsPerDimension limits = limits.max_compute_workgroups_per_dimension
limit_of MaxColorAttachmentBytesPerSample limits = unwrap_or limits.max_color_attachment_bytes_per_sample 32

-- whether a limit is an alignment: of those the smaller value is the better one, of any other limit the greater
abbrev pub is_alignment : LimitName → Bool
is_alignment MinUniformBufferOffsetAlignment = true
is_alignment MinStorageBufferOffsetAlignment = true
is_alignment _ = false

-- the better of two values
abbrev pub better : LimitName → ℕ → ℕ → ℕ
better name a b = if is_alignment name then min a b else max a b

-- whether the first value is no better than the second
abbrev pub no_better : LimitName → ℕ → ℕ → Bool
no_better name a b = if is_alignment name then nat_le b a else nat_le a b

-- Whether one can ask for a value: it is no better than the best, and an alignment is a power of two below 2^32.
abbrev pub can_ask : LimitName × ℕ → Bool
can_ask (name, value) =
    no_better name value (limit_of name best_limits) && (not (is_alignment name) || (is_power_of_two value && nat_lt value (2 ^ 32)))

-- What a device has of a limit where nothing is asked of it, and where a value is: the default, if that is better.
abbrev pub granted : LimitName → Option (LimitName × ℕ) → ℕ
granted name None = limit_of name default_limits
granted name (Some asked) = better name (limit_of name default_limits) asked.1

-- what a device has of a limit for all that is asked; where its name stands twice, the first one counts
abbrev pub limit_for : LimitName → List (LimitName × ℕ) → ℕ
limit_for name values = granted name (find (λ asked. same_limit asked.0 name) values)

-- what a device has of a limit that is no bound where it is not asked for
abbrev pub bound_for : LimitName → List (LimitName × ℕ) → Option ℕ
bound_for name values = option_map (λ asked. limit_for name values) (find (λ asked. same_limit asked.0 name) values)

-- the limits of a device for all that is asked
abbrev pub limits_for : List (LimitName × ℕ) → Limits
limits_for values = record {
  max_texture_dimension_1d = limit_for MaxTextureDimension1d values;
  max_texture_dimension_2d = limit_for MaxTextureDimension2d values;
  max_texture_dimension_3d = limit_for MaxTextureDimension3d values;
  max_texture_array_layers = limit_for MaxTextureArrayLayers values;
  max_bind_groups = limit_for MaxBindGroups values;
  max_bindings_per_bind_group = limit_for MaxBindingsPerBindGroup values;
  max_dynamic_uniform_buffers_per_pipeline_layout = limit_for MaxDynamicUniformBuffersPerPipelineLayout values;
  max_dynamic_storage_buffers_per_pipeline_layout = limit_for MaxDynamicStorageBuffersPerPipelineLayout values;
  max_sampled_textures_per_shader_stage = limit_for MaxSampledTexturesPerShaderStage values;
  max_samplers_per_shader_stage = limit_for MaxSamplersPerShaderStage values;
  max_storage_buffers_per_shader_stage = limit_for MaxStorageBuffersPerShaderStage values;
  max_storage_textures_per_shader_stage = limit_for MaxStorageTexturesPerShaderStage values;
  max_uniform_buffers_per_shader_stage = limit_for MaxUniformBuffersPerShaderStage values;
  max_uniform_buffer_binding_size = limit_for MaxUniformBufferBindingSize values;
  max_storage_buffer_binding_size = limit_for MaxStorageBufferBindingSize values;
  min_uniform_buffer_offset_alignment = limit_for MinUniformBufferOffsetAlignment values;
  min_storage_buffer_offset_alignment = limit_for MinStorageBufferOffsetAlignment values;
  max_vertex_buffers = limit_for MaxVertexBuffers values;
  max_vertex_attributes = limit_for MaxVertexAttributes values;
  max_vertex_buffer_array_stride = limit_for MaxVertexBufferArrayStride values;
  max_buffer_size = limit_for MaxBufferSize values;
  max_color_attachments = limit_for MaxColorAttachments values;
  max_color_attachment_bytes_per_sample = bound_for MaxColorAttachmentBytesPerSample values;
  max_compute_workgroups_per_dimension = limit_for MaxComputeWorkgroupsPerDimension values;
  max_queries_per_set = default_limits.max_queries_per_set;
}

-- the limits of a device for all that is asked, where one can ask for it
abbrev pub limits_asked : List (LimitName × ℕ) → Option Limits
limits_asked values = if list_all can_ask values then Some (limits_for values) else None

-- whether a limit is asked for
abbrev pub is_asked : LimitName → List (LimitName × ℕ) → Bool
is_asked name values = list_any (λ asked. same_limit asked.0 name) values

-- a value is no better than the best
abbrev pub IsNoBetter : LimitName → ℕ → Type 0
IsNoBetter name value = IsTrue (no_better name value (limit_of name best_limits))

-- A value is no worse than the default and no better than the best: the law that each limit is which is given for what is
-- asked.
abbrev pub IsBetween : LimitName → ℕ → Type 0
IsBetween name value = IsTrue (no_better name (limit_of name default_limits) value) × IsNoBetter name value

-- No limit is better than the best that a device can have.
abbrev pub AreNoBetter : Limits → Type 0
AreNoBetter limits = (name : LimitName) → IsNoBetter name (limit_of name limits)

-- What no device has otherwise than by default, since that is the best: recorders and the rules of their commands take these
-- numbers as they are.
pub record HaveFixed (limits : Limits) : Type 0 where
  pub bind_groups : limits.max_bind_groups ≡ default_limits.max_bind_groups
  pub vertex_buffers : limits.max_vertex_buffers ≡ default_limits.max_vertex_buffers
  pub color_attachments : limits.max_color_attachments ≡ default_limits.max_color_attachments
  pub compute_workgroups_per_dimension : limits.max_compute_workgroups_per_dimension ≡ default_limits.max_compute_workgroups_per_dimension
  pub uniform_buffer_offset_alignment : limits.min_uniform_buffer_offset_alignment ≡ default_limits.min_uniform_buffer_offset_alignment
  pub storage_buffer_offset_alignment : limits.min_storage_buffer_offset_alignment ≡ default_limits.min_storage_buffer_offset_alignment
  pub queries_per_set : limits.max_queries_per_set ≡ default_limits.max_queries_per_set
