-- Words and their texts.
use Rattle.std.proofs.Common.{◌≡◌, refl, Some}
use Rattle.wg_trace.specs.declared.steps.StepName.{StepName}
use Rattle.wg_trace.specs.declared.steps.StepName.TheVariants as name
use Rattle.wg_types.specs.Words.{word_text, word_of, IsSpelledAsItsCall}
use Rattle.wg_types.specs.declared.words.Word.{Word}
use Rattle.wg_types.specs.declared.words.Word.TheVariants.{CreateBuffer, CreateTexture, CreateView, CreateSampler, CreateBindGroupLayout, CreatePipelineLayout, CreateBindGroup, CreateComputePipeline, CreateRenderPipeline, GetBindGroupLayout, CreateQuerySet, CreateEncoder, CreateBundleEncoder, BeginComputePass, BeginRenderPass, End, Finish, FinishBundle, PushDebugGroup, PopDebugGroup, Submit, WriteBuffer, WriteTexture, MapAsync, Unmap, WorkDone, Complete, Destroy, Drop, PushErrorScope, PopErrorScope, Lose, CopyBufferToBuffer, CopyBufferToTexture, CopyTextureToBuffer, CopyTextureToTexture, ClearBuffer, ResolveQuerySet, SetPipeline, SetBindGroup, SetVertexBuffer, SetIndexBuffer, Dispatch, DispatchIndirect, BeginOcclusionQuery, EndOcclusionQuery, ExecuteBundles, Draw, DrawIndexed, DrawIndirect, DrawIndexedIndirect, SetViewport, SetScissorRect, SetBlendConstant, SetStencilReference, InsertDebugMarker, CreateCanvas, ConfigureCanvas, CurrentTexture, Present}

pub text_names : (w : Word) → word_of (word_text w) ≡ Some w
unfolding word_of
text_names CreateBuffer = refl
text_names CreateTexture = refl
text_names CreateView = refl
text_names CreateSampler = refl
text_names CreateBindGroupLayout = refl
text_names CreatePipelineLayout = refl
text_names CreateBindGroup = refl
text_names CreateComputePipeline = refl
text_names CreateRenderPipeline = refl
text_names GetBindGroupLayout = refl
text_names CreateQuerySet = refl
text_names CreateEncoder = refl
text_names CreateBundleEncoder = refl
text_names BeginComputePass = refl
text_names BeginRenderPass = refl
text_names End = refl
text_names Finish = refl
text_names FinishBundle = refl
text_names PushDebugGroup = refl
text_names PopDebugGroup = refl
text_names Submit = refl
text_names WriteBuffer = refl
text_names WriteTexture = refl
text_names MapAsync = refl
text_names Unmap = refl
text_names WorkDone = refl
text_names Complete = refl
text_names Destroy = refl
text_names Drop = refl
text_names PushErrorScope = refl
text_names PopErrorScope = refl
text_names Lose = refl
text_names CopyBufferToBuffer = refl
text_names CopyBufferToTexture = refl
text_names CopyTextureToBuffer = refl
text_names CopyTextureToTexture = refl
text_names ClearBuffer = refl
text_names ResolveQuerySet = refl
text_names SetPipeline = refl
text_names SetBindGroup = refl
text_names SetVertexBuffer = refl
text_names SetIndexBuffer = refl
text_names Dispatch = refl
text_names DispatchIndirect = refl
text_names BeginOcclusionQuery = refl
text_names EndOcclusionQuery = refl
text_names ExecuteBundles = refl
text_names Draw = refl
text_names DrawIndexed = refl
text_names DrawIndirect = refl
text_names DrawIndexedIndirect = refl
text_names SetViewport = refl
text_names SetScissorRect = refl
text_names SetBlendConstant = refl
text_names SetStencilReference = refl
text_names InsertDebugMarker = refl
text_names CreateCanvas = refl
text_names ConfigureCanvas = refl
text_names CurrentTexture = refl
text_names Present = refl

pub steps_are_spelled : (step : StepName) → IsSpelledAsItsCall step
steps_are_spelled name.Clear = tt
steps_are_spelled name.WriteBuffer = refl
steps_are_spelled name.WriteTexture = refl
steps_are_spelled name.CopyBufferToBuffer = refl
steps_are_spelled name.CopyBufferToTexture = refl
steps_are_spelled name.CopyTextureToBuffer = refl
steps_are_spelled name.CopyTextureToTexture = refl
steps_are_spelled name.ClearBuffer = refl
steps_are_spelled name.ResolveQuerySet = refl
steps_are_spelled name.Dispatch = refl
steps_are_spelled name.RenderPass = tt
steps_are_spelled name.HostRead = tt
steps_are_spelled name.HostWrite = tt
