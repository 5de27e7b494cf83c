-- The words that name calls: the one table of how they are spelled.
use Rattle.std.specs.Prelude.{◌≡◌, ℕ, List, [], ◌∷◌, bytes_eq, codes, Option, Some, None, IfSome}
use Rattle.std.specs.List.{find}
use Rattle.wg_trace.specs.declared.steps.StepName.{StepName}
use Rattle.wg_trace.specs.declared.steps.StepName.TheVariants as name
use Rattle.wg_trace.specs.StepNames.{step_name_text}
use Rattle.wg_types.specs.declared.words.Verb.{Verb}
use Rattle.wg_types.specs.declared.words.Verb.TheVariants.{Call, Late}
use Rattle.wg_types.specs.declared.words.Word.{Word}
use Rattle.wg_types.specs.declared.words.Word.TheVariants.{CreateBuffer, CreateTexture, CreateView, CreateSampler, CreateBindGroupLayout, CreatePipelineLayout, CreateBindGroup, CreateComputePipeline, CreateRenderPipeline, GetBindGroupLayout, CreateQuerySet, CreateEncoder, CreateBundleEncoder, BeginComputePass, BeginRenderPass, End, Finish, FinishBundle, PushDebugGroup, PopDebugGroup, Submit, WriteBuffer, WriteTexture, MapAsync, Unmap, WorkDone, Complete, Destroy, Drop, PushErrorScope, PopErrorScope, Lose, CopyBufferToBuffer, CopyBufferToTexture, CopyTextureToBuffer, CopyTextureToTexture, ClearBuffer, ResolveQuerySet, SetPipeline, SetBindGroup, SetVertexBuffer, SetIndexBuffer, Dispatch, DispatchIndirect, BeginOcclusionQuery, EndOcclusionQuery, ExecuteBundles, Draw, DrawIndexed, DrawIndirect, DrawIndexedIndirect, SetViewport, SetScissorRect, SetBlendConstant, SetStencilReference, InsertDebugMarker, CreateCanvas, ConfigureCanvas, CurrentTexture, Present}

-- the text of a word
abbrev pub word_text : Word → List ℕ
word_text CreateBuffer = codes "createBuffer"
word_text CreateTexture = codes "createTexture"
word_text CreateView = codes "createView"
word_text CreateSampler = codes "createSampler"
word_text CreateBindGroupLayout = codes "createBindGroupLayout"
word_text CreatePipelineLayout = codes "createPipelineLayout"
word_text CreateBindGroup = codes "createBindGroup"
word_text CreateComputePipeline = codes "createComputePipeline"
word_text CreateRenderPipeline = codes "createRenderPipeline"
word_text GetBindGroupLayout = codes "getBindGroupLayout"
word_text CreateQuerySet = codes "createQuerySet"
word_text CreateEncoder = codes "createEncoder"
word_text CreateBundleEncoder = codes "createBundleEncoder"
word_text BeginComputePass = codes "beginComputePass"
word_text BeginRenderPass = codes "beginRenderPass"
word_text End = codes "end"
word_text Finish = codes "finish"
word_text FinishBundle = codes "finishBundle"
word_text PushDebugGroup = codes "pushDebugGroup"
word_text PopDebugGroup = codes "popDebugGroup"
word_text Submit = codes "submit"
word_text WriteBuffer = codes "writeBuffer"
word_text WriteTexture = codes "writeTexture"
word_text MapAsync = codes "mapAsync"
word_text Unmap = codes "unmap"
word_text WorkDone = codes "workDone"
word_text Complete = codes "complete"
word_text Destroy = codes "destroy"
word_text Drop = codes "drop"
word_text PushErrorScope = codes "pushErrorScope"
word_text PopErrorScope = codes "popErrorScope"
word_text Lose = codes "lose"
word_text CopyBufferToBuffer = codes "copyBufferToBuffer"
word_text CopyBufferToTexture = codes "copyBufferToTexture"
word_text CopyTextureToBuffer = codes "copyTextureToBuffer"
word_text CopyTextureToTexture = codes "copyTextureToTexture"
word_text ClearBuffer = codes "clearBuffer"
word_text ResolveQuerySet = codes "resolveQuerySet"
word_text SetPipeline = codes "setPipeline"
word_text SetBindGroup = codes "setBindGroup"
word_text SetVertexBuffer = codes "setVertexBuffer"
word_text SetIndexBuffer = codes "setIndexBuffer"
word_text Dispatch = codes "dispatch"
word_text DispatchIndirect = codes "dispatchIndirect"
word_text BeginOcclusionQuery = codes "beginOcclusionQuery"
word_text EndOcclusionQuery = codes "endOcclusionQuery"
word_text ExecuteBundles = codes "executeBundles"
word_text Draw = codes "draw"
word_text DrawIndexed = codes "drawIndexed"
word_text DrawIndirect = codes "drawIndirect"
word_text DrawIndexedIndirect = codes "drawIndexedIndirect"
word_text SetViewport = codes "setViewport"
word_text SetScissorRect = codes "setScissorRect"
word_text SetBlendConstant = codes "setBlendConstant"
word_text SetStencilReference = codes "setStencilReference"
word_text InsertDebugMarker = codes "insertDebugMarker"
word_text CreateCanvas = codes "createCanvas"
word_text ConfigureCanvas = codes "configureCanvas"
word_text CurrentTexture = codes "currentTexture"
word_text Present = codes "present"

-- the words of all calls
abbrev pub words : List Word
words =
    CreateBuffer ∷ CreateTexture ∷ CreateView ∷ CreateSampler ∷ CreateBindGroupLayout ∷ CreatePipelineLayout ∷ CreateBindGroup ∷ CreateComputePipeline ∷ CreateRenderPipeline ∷ GetBindGroupLayout ∷ CreateQuerySet ∷
    CreateEncoder ∷ CreateBundleEncoder ∷ BeginComputePass ∷ BeginRenderPass ∷ End ∷ Finish ∷ FinishBundle ∷ PushDebugGroup ∷ PopDebugGroup ∷
    Submit ∷ WriteBuffer ∷ WriteTexture ∷ MapAsync ∷ Unmap ∷ WorkDone ∷ Complete ∷
    Destroy ∷ Drop ∷ PushErrorScope ∷ PopErrorScope ∷ Lose ∷
    CopyBufferToBuffer ∷ CopyBufferToTexture ∷ CopyTextureToBuffer ∷ CopyTextureToTexture ∷ ClearBuffer ∷ ResolveQuerySet ∷
    SetPipeline ∷ SetBindGroup ∷ SetVertexBuffer ∷ SetIndexBuffer ∷ Dispatch ∷ DispatchIndirect ∷ BeginOcclusionQuery ∷ EndOcclusionQuery ∷ ExecuteBundles ∷
    Draw ∷ DrawIndexed ∷ DrawIndirect ∷ DrawIndexedIndirect ∷
    SetViewport ∷ SetScissorRect ∷ SetBlendConstant ∷ SetStencilReference ∷ InsertDebugMarker ∷
    CreateCanvas ∷ ConfigureCanvas ∷ CurrentTexture ∷ Present ∷ []

-- the call that a text names
unfoldable pub word_of : List ℕ → Option Word
word_of s = find (λ w. bytes_eq (word_text w) s) words

-- the event of an entry: the word of its call, or that it came too late
abbrev pub verb_text : Verb → List ℕ
verb_text (Call word) = word_text word
verb_text Late = codes "late"

-- the call that asks for a step, if one does by itself
abbrev pub step_word : StepName → Option Word
step_word name.Clear = None
step_word name.WriteBuffer = Some WriteBuffer
step_word name.WriteTexture = Some WriteTexture
step_word name.CopyBufferToBuffer = Some CopyBufferToBuffer
step_word name.CopyBufferToTexture = Some CopyBufferToTexture
step_word name.CopyTextureToBuffer = Some CopyTextureToBuffer
step_word name.CopyTextureToTexture = Some CopyTextureToTexture
step_word name.ClearBuffer = Some ClearBuffer
step_word name.ResolveQuerySet = Some ResolveQuerySet
step_word name.Dispatch = Some Dispatch
step_word name.RenderPass = None
step_word name.HostRead = None
step_word name.HostWrite = None

-- a step that a call asks for is spelled as the call
abbrev pub IsSpelledAsItsCall : StepName → Type 0
IsSpelledAsItsCall name = IfSome (step_word name) (λ word. step_name_text name ≡ word_text word)
