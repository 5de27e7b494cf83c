-- Names of limits and their texts.
use Rattle.std.proofs.Common.{◌≡◌, refl, Some}
use Rattle.wg_limits.specs.Names.{limit_text, limit_named}
use Rattle.wg_limits.specs.declared.names.LimitName.{LimitName}
use Rattle.wg_limits.specs.declared.names.LimitName.TheVariants.{MaxTextureDimension1d, MaxTextureDimension2d, MaxTextureDimension3d, MaxTextureArrayLayers, MaxBindGroups, MaxBindingsPerBindGroup, MaxDynamicUniformBuffersPerPipelineLayout, MaxDynamicStorageBuffersPerPipelineLayout, MaxSampledTexturesPerShaderStage, MaxSamplersPerShaderStage, MaxStorageBuffersPerShaderStage, MaxStorageTexturesPerShaderStage, MaxUniformBuffersPerShaderStage, MaxUniformBufferBindingSize, MaxStorageBufferBindingSize, MinUniformBufferOffsetAlignment, MinStorageBufferOffsetAlignment, MaxVertexBuffers, MaxVertexAttributes, MaxVertexBufferArrayStride, MaxBufferSize, MaxColorAttachments, MaxComputeWorkgroupsPerDimension, MaxColorAttachmentBytesPerSample}

pub text_names : (name : LimitName) → limit_named (limit_text name) ≡ Some name
unfolding limit_named
text_names MaxTextureDimension1d = refl
text_names MaxTextureDimension2d = refl
text_names MaxTextureDimension3d = refl
text_names MaxTextureArrayLayers = refl
text_names MaxBindGroups = refl
text_names MaxBindingsPerBindGroup = refl
text_names MaxDynamicUniformBuffersPerPipelineLayout = refl
text_names MaxDynamicStorageBuffersPerPipelineLayout = refl
text_names MaxSampledTexturesPerShaderStage = refl
text_names MaxSamplersPerShaderStage = refl
text_names MaxStorageBuffersPerShaderStage = refl
text_names MaxStorageTexturesPerShaderStage = refl
text_names MaxUniformBuffersPerShaderStage = refl
text_names MaxUniformBufferBindingSize = refl
text_names MaxStorageBufferBindingSize = refl
text_names MinUniformBufferOffsetAlignment = refl
text_names MinStorageBufferOffsetAlignment = refl
text_names MaxVertexBuffers = refl
text_names MaxVertexAttributes = refl
text_names MaxVertexBufferArrayStride = refl
text_names MaxBufferSize = refl
text_names MaxColorAttachments = refl
text_names MaxComputeWorkgroupsPerDimension = refl
text_names MaxColorAttachmentBytesPerSample = refl
