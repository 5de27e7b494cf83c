-- The names of limits: the one table of how they are spelled (WebGPU, "Limits").
use Rattle.std.specs.Prelude.{ℕ, Bool, List, [], ◌∷◌, bytes_eq, codes, Option}
use Rattle.std.specs.List.{find}
use Rattle.wg_limits.specs.declared.names.LimitName.{LimitName}
use Rattle.wg_limits.specs.declared.names.LimitName.TheVariants.{MaxTextureDimension1d, MaxTextureDimension2d, MaxTextureDimension3d, MaxTextureArrayLayers, MaxBindGroups, MaxBindingsPerBindGroup, MaxDynamicUniformBuffersPerPipelineLayout, MaxDynamicStorageBuffersPerPipelineLayout, MaxSampledTexturesPerShaderStage, MaxSamplersPerShaderStage, MaxStorageBuffersPerShaderStage, MaxStorageTexturesPerShaderStage, MaxUniformBuffersPerShaderStage, MaxUniformBufferBindingSize, MaxStorageBufferBindingSize, MinUniformBufferOffsetAlignment, MinStorageBufferOffsetAlignment, MaxVertexBuffers, MaxVertexAttributes, MaxVertexBufferArrayStride, MaxBufferSize, MaxColorAttachments, MaxComputeWorkgroupsPerDimension, MaxColorAttachmentBytesPerSample}

-- the text of a name
abbrev pub limit_text : LimitName → List ℕ
limit_text MaxTextureDimension1d = codes "maxTextureDimension1D"
limit_text MaxTextureDimension2d = codes "maxTextureDimension2D"
limit_text MaxTextureDimension3d = codes "maxTextureDimension3D"
limit_text MaxTextureArrayLayers = codes "maxTextureArrayLayers"
limit_text MaxBindGroups = codes "maxBindGroups"
limit_text MaxBindingsPerBindGroup = codes "maxBindingsPerBindGroup"
limit_text MaxDynamicUniformBuffersPerPipelineLayout = codes "maxDynamicUniformBuffersPerPipelineLayout"
limit_text MaxDynamicStorageBuffersPerPipelineLayout = codes "maxDynamicStorageBuffersPerPipelineLayout"
limit_text MaxSampledTexturesPerShaderStage = codes "maxSampledTexturesPerShaderStage"
limit_text MaxSamplersPerShaderStage = codes "maxSamplersPerShaderStage"
limit_text MaxStorageBuffersPerShaderStage = codes "maxStorageBuffersPerShaderStage"
limit_text MaxStorageTexturesPerShaderStage = codes "maxStorageTexturesPerShaderStage"
limit_text MaxUniformBuffersPerShaderStage = codes "maxUniformBuffersPerShaderStage"
limit_text MaxUniformBufferBindingSize = codes "maxUniformBufferBindingSize"
limit_text MaxStorageBufferBindingSize = codes "maxStorageBufferBindingSize"
limit_text MinUniformBufferOffsetAlignment = codes "minUniformBufferOffsetAlignment"
limit_text MinStorageBufferOffsetAlignment = codes "minStorageBufferOffsetAlignment"
limit_text MaxVertexBuffers = codes "maxVertexBuffers"
limit_text MaxVertexAttributes = codes "maxVertexAttributes"
limit_text MaxVertexBufferArrayStride = codes "maxVertexBufferArrayStride"
limit_text MaxBufferSize = codes "maxBufferSize"
limit_text MaxColorAttachments = codes "maxColorAttachments"
limit_text MaxComputeWorkgroupsPerDimension = codes "maxComputeWorkgroupsPerDimension"
limit_text MaxColorAttachmentBytesPerSample = codes "maxColorAttachmentBytesPerSample"

-- all names, in the order in which callers in C number them
abbrev pub limit_names : List LimitName
limit_names =
    MaxTextureDimension1d ∷ MaxTextureDimension2d ∷ MaxTextureDimension3d ∷
    MaxTextureArrayLayers ∷ MaxBindGroups ∷ MaxBindingsPerBindGroup ∷
    MaxDynamicUniformBuffersPerPipelineLayout ∷ MaxDynamicStorageBuffersPerPipelineLayout ∷ MaxSampledTexturesPerShaderStage ∷
    MaxSamplersPerShaderStage ∷ MaxStorageBuffersPerShaderStage ∷ MaxStorageTexturesPerShaderStage ∷
    MaxUniformBuffersPerShaderStage ∷ MaxUniformBufferBindingSize ∷ MaxStorageBufferBindingSize ∷
    MinUniformBufferOffsetAlignment ∷ MinStorageBufferOffsetAlignment ∷ MaxVertexBuffers ∷
    MaxVertexAttributes ∷ MaxVertexBufferArrayStride ∷ MaxBufferSize ∷
    MaxColorAttachments ∷ MaxComputeWorkgroupsPerDimension ∷ MaxColorAttachmentBytesPerSample ∷ []

-- the limit that a text names
unfoldable pub limit_named : List ℕ → Option LimitName
limit_named s = find (λ name. bytes_eq (limit_text name) s) limit_names

-- whether two names are spelled the same
abbrev pub same_limit : LimitName → LimitName → Bool
same_limit a b = bytes_eq (limit_text a) (limit_text b)
