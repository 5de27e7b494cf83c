-- The calls of a device over handles: which event each is, what is known of the object that it makes, and the handle of that.
use Rattle.std.specs.Prelude.{ℕ, [], map, Option, Some, None, option_map, option_and_then, if◌then◌else◌}
use Rattle.wg_types.specs.Handles.{HandleValue}
use Rattle.wg_types.specs.declared.handles.ObjRef.{ObjRef}
use Rattle.wg_types.specs.declared.handles.Info.{Info}
use Rattle.wg_types.specs.declared.handles.Info.TheVariants as info
use Rattle.wg_types.specs.declared.limits.Limits.{Limits}
use Rattle.wg_types.specs.declared.limits.Maker.{Maker}
use Rattle.wg_types.specs.declared.render.TargetInfo.{TargetInfo}
use Rattle.wg_types.specs.declared.textures.TextureInfo.{TextureInfo}
use Rattle.wg_types.specs.declared.textures.ViewAsked.{ViewAsked}
use Rattle.wg_types.specs.declared.textures.ViewDesc.{ViewDesc}
use Rattle.wg_types.specs.Bindings.{map_entry}
use Rattle.wg_types.specs.Samplers.{sampler_kind}
use Rattle.wg_trace.specs.declared.replies.Answer.{Answer}
use Rattle.wg_trace.specs.declared.replies.Answer.TheVariants.{Made, Queued, Promised, Plain, BadCompletion}
use Rattle.wg_types.specs.declared.requests.RequestOf.{RequestOf}
use Rattle.wg_types.specs.declared.requests.RequestOf.TheVariants.{CreateBuffer, CreateTexture, CreateView, CreateSampler, CreateBindGroupLayout, CreatePipelineLayout, CreateBindGroup, CreateComputePipeline, CreateRenderPipeline, GetBindGroupLayout, CreateQuerySet, CreateEncoder, CreateBundleEncoder, Finish, FinishBundle, Submit, WriteBuffer, WriteTexture, Destroy, Drop, Complete, PushErrorScope, PopErrorScope, Lose, WorkDone, MapAsync, Unmap}
use Rattle.wg_model.specs.Commands.{texture_of, no_texture, size_or_rest}
use Rattle.wg_model.specs.Making.{view_made, pipeline_layout_made, group_made, compute_made, render_made, group_layout_made, group_layout_got}
use Rattle.wg_model.specs.Views.{completed_view}
use Rattle.wg_model.specs.Walk.{command_limits, no_limits, no_targets, bundle_of}
use Rattle.wg_encoder.specs.Recorders.{RecorderValue, RecordingValue, after_take, targets_left}
use Rattle.wg_history.specs.declared.events.Event.{Event}
use Rattle.wg_history.specs.declared.events.Event.TheVariants as event

-- which object a handle is of
abbrev pub reference_of : HandleValue → ObjRef
reference_of handle = handle.reference

-- what a handle knows of its object
abbrev pub known_by : HandleValue → Option Info
known_by handle = Some handle.info

-- what a view's left-out parts are found by: what is known of a valid texture, and of an invalid one nothing
abbrev pub texture_if_valid : HandleValue → TextureInfo
texture_if_valid texture = if texture.valid then texture_of texture else no_texture

-- what is asked of a view of a texture, with the parts that are left out
abbrev pub view_asked : HandleValue → ViewAsked → ViewDesc
view_asked texture asked = completed_view (texture_if_valid texture) asked.dim asked.aspect asked.base_mip asked.mips asked.base_layer asked.layers

-- what stands for the maker of what is handed over without a recorder, which has no commands: the device of the encoder, with no limits
abbrev pub unlimited : ObjRef → Maker
unlimited encoder = record { device = encoder.device; limits = no_limits }

-- The event that a call of the device is. A finish and a finishBundle come here without a recorder, and have no commands; that of a
-- recorder is below.
abbrev pub event_asked : RequestOf HandleValue → Event
event_asked (CreateBuffer known) = event.CreateBuffer known
event_asked (CreateTexture known) = event.CreateTexture known
event_asked (CreateView texture asked) = event.CreateView texture.reference (view_asked texture asked)
event_asked (CreateSampler known) = event.CreateSampler known
event_asked (CreateBindGroupLayout entries) = event.CreateBindGroupLayout entries
event_asked (CreatePipelineLayout layouts) = event.CreatePipelineLayout (map (option_map reference_of) layouts)
event_asked (CreateBindGroup layout entries) = event.CreateBindGroup layout.reference (map (map_entry reference_of) entries)
event_asked (CreateComputePipeline layout iface) = event.CreateComputePipeline (option_map reference_of layout) iface
event_asked (CreateRenderPipeline layout desc) = event.CreateRenderPipeline (option_map reference_of layout) desc
event_asked (GetBindGroupLayout pipeline index) = event.GetBindGroupLayout pipeline.reference index
event_asked (CreateQuerySet known) = event.CreateQuerySet known
event_asked CreateEncoder = event.CreateEncoder
event_asked (CreateBundleEncoder targets) = event.CreateBundleEncoder targets
event_asked (Finish encoder) = event.Finish encoder.reference (record { maker = unlimited encoder.reference; targets = None; commands = [] })
event_asked (FinishBundle encoder) = event.FinishBundle encoder.reference (record { maker = unlimited encoder.reference; targets = Some no_targets; commands = [] })
event_asked (Submit buffers) = event.Submit (map reference_of buffers)
event_asked (WriteBuffer buffer offset size) = event.WriteBuffer buffer.reference offset size
event_asked (WriteTexture texture spot layout size data_size) = event.WriteTexture texture.reference spot layout size data_size
event_asked (Destroy object) = event.Destroy object.reference
event_asked (Drop object) = event.Drop object.reference
event_asked (Complete op) = event.Complete op
event_asked (PushErrorScope filter) = event.PushErrorScope filter
event_asked PopErrorScope = event.PopErrorScope
event_asked Lose = event.Lose
event_asked WorkDone = event.WorkDone
event_asked (MapAsync buffer mode offset size) = event.MapAsync buffer.reference mode offset (size_or_rest buffer offset size)
event_asked (Unmap buffer) = event.Unmap buffer.reference

-- What is known of the object that a call of the device makes, by what the handles of those that it names know. It carries along
-- what is known of these.
abbrev pub info_asked : RequestOf HandleValue → Option Info
info_asked (CreateBuffer known) = Some (info.Buffer known)
info_asked (CreateTexture known) = Some (info.Texture known)
info_asked (CreateView texture asked) = Some (info.View (view_made reference_of known_by texture (view_asked texture asked)))
info_asked (CreateSampler known) = Some (info.Sampler (sampler_kind known))
info_asked (CreateBindGroupLayout entries) = Some (info.GroupLayout (group_layout_made entries))
info_asked (CreatePipelineLayout layouts) = Some (info.PipelineLayout (pipeline_layout_made reference_of known_by layouts))
info_asked (CreateBindGroup layout entries) = Some (info.Group (group_made reference_of known_by layout entries))
info_asked (CreateComputePipeline layout iface) = Some (info.Compute (compute_made reference_of known_by layout iface))
info_asked (CreateRenderPipeline layout desc) = Some (info.Render (render_made reference_of known_by layout desc))
info_asked (GetBindGroupLayout pipeline index) = Some (info.GroupLayout (group_layout_got reference_of known_by pipeline index))
info_asked (CreateQuerySet known) = Some (info.Queries known)
info_asked CreateEncoder = Some info.Encoder
info_asked (CreateBundleEncoder targets) = Some (info.BundleEncoder targets)
info_asked (Finish encoder) = Some info.CommandBuffer
info_asked (FinishBundle encoder) = Some (info.Bundle (bundle_of (unlimited encoder.reference) (Some no_targets) []))
info_asked (Submit buffers) = None
info_asked (WriteBuffer buffer offset size) = None
info_asked (WriteTexture texture spot layout size data_size) = None
info_asked (Destroy object) = None
info_asked (Drop object) = None
info_asked (Complete op) = None
info_asked (PushErrorScope filter) = None
info_asked PopErrorScope = None
info_asked Lose = None
info_asked WorkDone = None
info_asked (MapAsync buffer mode offset size) = None
info_asked (Unmap buffer) = None

-- the recording that a recorder hands over
abbrev pub recording_of : RecorderValue → RecordingValue
recording_of recorder = record { maker = recorder.maker; targets = recorder.targets; commands = recorder.commands }

-- The end of an encoder with what its recorder hands over, which is that of a bundle encoder where it has targets, and what is known
-- of that which it makes.

-- the event that ends an encoder or a bundle encoder with a recording
abbrev pub finish_event : Option TargetInfo → ObjRef → RecordingValue → Event
finish_event None encoder recording = event.Finish encoder recording
finish_event (Some targets) encoder recording = event.FinishBundle encoder recording

-- what is known of what an end makes: a command buffer, or the bundle of a recording
abbrev pub finished_info : Option TargetInfo → RecordingValue → Info
finished_info None recording = info.CommandBuffer
finished_info (Some targets) recording = info.Bundle (bundle_of recording.maker recording.targets recording.commands)

-- the event that ends an encoder or a bundle encoder, with the commands that its recorder has kept
abbrev pub finish_of : ObjRef → RecorderValue → Event
finish_of encoder recorder = finish_event recorder.targets encoder (recording_of recorder)

-- what is known of what an end makes of a recorder
abbrev pub known_of_finish : RecorderValue → Info
known_of_finish recorder = finished_info recorder.targets (recording_of recorder)

-- the recorder once what it has kept was taken
abbrev pub taken_out : RecorderValue → RecorderValue
taken_out recorder = record recorder { targets = targets_left recorder.targets; commands = []; takes = after_take recorder.takes }

-- the handle of what an answer made, of which so much is known
abbrev pub handle_of : ℕ → Info → Answer → Option HandleValue
handle_of serial known (Made number valid) = Some (record { reference = record { device = serial; number = number }; valid = valid; info = known })
handle_of serial known (Queued op) = None
handle_of serial known Promised = None
handle_of serial known Plain = None
handle_of serial known BadCompletion = None

-- the handle of what a call made that was answered so, if it makes something
abbrev pub handle_made : ℕ → RequestOf HandleValue → Answer → Option HandleValue
handle_made serial request answer = option_and_then (λ known. handle_of serial known answer) (info_asked request)

-- a device as its recorders have it: by its number, and those of its limits by which commands are judged
abbrev pub maker_with : ℕ → Limits → Maker
maker_with device limits = record { device = device; limits = command_limits limits }

-- a recorder that was opened for an encoder of a device with these limits, and has kept nothing
abbrev pub opened_for : Limits → ObjRef → RecorderValue
opened_for limits encoder = record { maker = maker_with encoder.device limits; targets = None; encoder = Some encoder; commands = []; takes = 0; passes = 0 }

-- a recorder that is open for a bundle encoder of such a device, draws to these targets, and has kept nothing
abbrev pub opened_with : Limits → TargetInfo → ObjRef → RecorderValue
opened_with limits targets encoder = record { maker = maker_with encoder.device limits; targets = Some targets; encoder = Some encoder; commands = []; takes = 0; passes = 0 }
