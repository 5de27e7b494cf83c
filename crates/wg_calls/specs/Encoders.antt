-- Encoders: which of them a call of a device ends, the recorder of a new one, and the passes that were begun on it. An encoder is one of
-- either kind, a command encoder or a bundle encoder, which has no passes.
use Rattle.std.specs.Prelude.{ℕ, nat_lt, Bool, true, Option, Some, None}
use Rattle.wg_types.specs.declared.handles.ObjRef.{ObjRef}
use Rattle.wg_types.specs.declared.handles.Info.{Info}
use Rattle.wg_types.specs.declared.handles.Info.TheVariants as info
use Rattle.wg_types.specs.declared.limits.Limits.{Limits}
use Rattle.wg_types.specs.declared.commands.On.{On}
use Rattle.wg_types.specs.declared.commands.On.TheVariants.{Encoder, Pass}
use Rattle.wg_types.specs.declared.requests.RequestOf.{RequestOf}
use Rattle.wg_types.specs.declared.requests.RequestOf.TheVariants.{CreateBuffer, CreateTexture, CreateView, CreateSampler, CreateBindGroupLayout, CreatePipelineLayout, CreateBindGroup, CreateComputePipeline, CreateRenderPipeline, GetBindGroupLayout, CreateQuerySet, CreateEncoder, CreateBundleEncoder, Finish, FinishBundle, Submit, WriteBuffer, WriteTexture, Destroy, Drop, Complete, PushErrorScope, PopErrorScope, Lose, WorkDone, MapAsync, Unmap}
use Rattle.wg_encoder.specs.Recorders.{RecorderValue}
use Rattle.wg_calls.specs.Calls.{opened_for, opened_with}

-- the encoder that a call of a device ends, if it ends one
abbrev pub ended_by : {R : Type 0} → RequestOf R → Option R
ended_by (Finish encoder) = Some encoder
ended_by (FinishBundle encoder) = Some encoder
ended_by (CreateBuffer known) = None
ended_by (CreateTexture known) = None
ended_by (CreateView texture asked) = None
ended_by (CreateSampler known) = None
ended_by (CreateBindGroupLayout entries) = None
ended_by (CreatePipelineLayout layouts) = None
ended_by (CreateBindGroup layout entries) = None
ended_by (CreateComputePipeline layout iface) = None
ended_by (CreateRenderPipeline layout desc) = None
ended_by (GetBindGroupLayout pipeline index) = None
ended_by (CreateQuerySet known) = None
ended_by CreateEncoder = None
ended_by (CreateBundleEncoder targets) = None
ended_by (Submit buffers) = None
ended_by (WriteBuffer buffer offset size) = None
ended_by (WriteTexture texture spot layout size data_size) = None
ended_by (Destroy object) = None
ended_by (Drop object) = None
ended_by (Complete op) = None
ended_by (PushErrorScope filter) = None
ended_by PopErrorScope = None
ended_by Lose = None
ended_by WorkDone = None
ended_by (MapAsync buffer mode offset size) = None
ended_by (Unmap buffer) = None

-- the recorder of an object that a device with these limits made, if it is an encoder; that of a bundle encoder has its targets
abbrev pub recorder_of : Limits → ObjRef → Info → Option RecorderValue
recorder_of limits encoder info.Encoder = Some (opened_for limits encoder)
recorder_of limits encoder (info.BundleEncoder targets) = Some (opened_with limits targets encoder)
recorder_of limits encoder (info.Buffer known) = None
recorder_of limits encoder (info.Texture known) = None
recorder_of limits encoder (info.View known) = None
recorder_of limits encoder (info.Sampler known) = None
recorder_of limits encoder (info.GroupLayout known) = None
recorder_of limits encoder (info.PipelineLayout known) = None
recorder_of limits encoder (info.Group known) = None
recorder_of limits encoder (info.Compute known) = None
recorder_of limits encoder (info.Render known) = None
recorder_of limits encoder (info.Queries known) = None
recorder_of limits encoder info.CommandBuffer = None
recorder_of limits encoder (info.Bundle known) = None

-- whether what a command stands on was begun, where so many passes were
abbrev pub is_begun : On → ℕ → Bool
is_begun Encoder passes = true
is_begun (Pass number) passes = nat_lt number passes
