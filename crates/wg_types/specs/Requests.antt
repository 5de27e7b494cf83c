-- What calls of a device name and make.
use Rattle.std.specs.Prelude.{List, [], ◌∷◌, map, Option, Some, None, option_map}
use Rattle.wg_types.specs.Bindings.{entries_named, map_entry}
use Rattle.wg_types.specs.Refs.{all_wanted, some_wanted, maybe_wanted}
use Rattle.wg_types.specs.declared.wanted.Kind.{Kind}
use Rattle.wg_types.specs.declared.wanted.Kind.TheVariants as kind
use Rattle.wg_types.specs.declared.wanted.Wanted.{Wanted}
use Rattle.wg_types.specs.declared.wanted.Wanted.TheVariants as wanted
pub use Rattle.wg_types.specs.declared.requests.RequestOf.{RequestOf}
use Rattle.wg_types.specs.declared.requests.RequestOf.TheVariants.{CreateBuffer, CreateTexture, CreateView, CreateSampler, CreateBindGroupLayout, CreatePipelineLayout, CreateBindGroup, CreateComputePipeline, CreateRenderPipeline, GetBindGroupLayout, CreateQuerySet, CreateEncoder, CreateBundleEncoder, Finish, FinishBundle, Submit, WriteBuffer, WriteTexture, Destroy, Drop, Complete, PushErrorScope, PopErrorScope, Lose, WorkDone, MapAsync, Unmap}

-- the kind of the object that a call makes, if it makes one
abbrev pub kind_made : {R : Type 0} → RequestOf R → Option Kind
kind_made (CreateBuffer info) = Some kind.Buffer
kind_made (CreateTexture info) = Some kind.Texture
kind_made (CreateView texture asked) = Some kind.View
kind_made (CreateSampler known) = Some kind.Sampler
kind_made (CreateBindGroupLayout entries) = Some kind.GroupLayout
kind_made (CreatePipelineLayout layouts) = Some kind.PipelineLayout
kind_made (CreateBindGroup layout entries) = Some kind.Group
kind_made (CreateComputePipeline layout iface) = Some kind.Compute
kind_made (CreateRenderPipeline layout desc) = Some kind.Render
kind_made (GetBindGroupLayout pipeline index) = Some kind.GroupLayout
kind_made (CreateQuerySet info) = Some kind.Queries
kind_made CreateEncoder = Some kind.Encoder
kind_made (CreateBundleEncoder targets) = Some kind.BundleEncoder
kind_made (Finish encoder) = Some kind.CommandBuffer
kind_made (FinishBundle encoder) = Some kind.Bundle
kind_made (Submit buffers) = None
kind_made (WriteBuffer buffer offset size) = None
kind_made (WriteTexture texture spot layout size data_size) = None
kind_made (Destroy object) = None
kind_made (Drop object) = None
kind_made (Complete op) = None
kind_made (PushErrorScope filter) = None
kind_made PopErrorScope = None
kind_made Lose = None
kind_made WorkDone = None
kind_made (MapAsync buffer mode offset size) = None
kind_made (Unmap buffer) = None

-- the objects that a call names, in the order of its keys, with what is wanted of each
abbrev pub named : {R : Type 0} → RequestOf R → List (R × Wanted)
named (CreateBuffer info) = []
named (CreateTexture info) = []
named (CreateView texture asked) = (texture, wanted.Texture) ∷ []
named (CreateSampler known) = []
named (CreateBindGroupLayout entries) = []
named (CreatePipelineLayout layouts) = some_wanted wanted.GroupLayout layouts
named (CreateBindGroup layout entries) = (layout, wanted.GroupLayout) ∷ entries_named entries
named (CreateComputePipeline layout iface) = maybe_wanted wanted.PipelineLayout layout
named (CreateRenderPipeline layout desc) = maybe_wanted wanted.PipelineLayout layout
named (GetBindGroupLayout pipeline index) = (pipeline, wanted.Pipeline) ∷ []
named (CreateQuerySet info) = []
named CreateEncoder = []
named (CreateBundleEncoder targets) = []
named (Finish encoder) = (encoder, wanted.Encoder) ∷ []
named (FinishBundle encoder) = (encoder, wanted.BundleEncoder) ∷ []
named (Submit buffers) = all_wanted wanted.CommandBuffer buffers
named (WriteBuffer buffer offset size) = (buffer, wanted.Buffer) ∷ []
named (WriteTexture texture spot layout size data_size) = (texture, wanted.Texture) ∷ []
named (Destroy object) = (object, wanted.Destroyable) ∷ []
named (Drop object) = (object, wanted.Object) ∷ []
named (Complete op) = []
named (PushErrorScope filter) = []
named PopErrorScope = []
named Lose = []
named WorkDone = []
named (MapAsync buffer mode offset size) = (buffer, wanted.Buffer) ∷ []
named (Unmap buffer) = (buffer, wanted.Buffer) ∷ []

-- the call with other objects in place of those that it names
abbrev pub map_refs : {R S : Type 0} → (R → S) → RequestOf R → RequestOf S
map_refs f (CreateBuffer info) = CreateBuffer info
map_refs f (CreateTexture info) = CreateTexture info
map_refs f (CreateView texture asked) = CreateView (f texture) asked
map_refs f (CreateSampler known) = CreateSampler known
map_refs f (CreateBindGroupLayout entries) = CreateBindGroupLayout entries
map_refs f (CreatePipelineLayout layouts) = CreatePipelineLayout (map (option_map f) layouts)
map_refs f (CreateBindGroup layout entries) = CreateBindGroup (f layout) (map (map_entry f) entries)
map_refs f (CreateComputePipeline layout iface) = CreateComputePipeline (option_map f layout) iface
map_refs f (CreateRenderPipeline layout desc) = CreateRenderPipeline (option_map f layout) desc
map_refs f (GetBindGroupLayout pipeline index) = GetBindGroupLayout (f pipeline) index
map_refs f (CreateQuerySet info) = CreateQuerySet info
map_refs f CreateEncoder = CreateEncoder
map_refs f (CreateBundleEncoder targets) = CreateBundleEncoder targets
map_refs f (Finish encoder) = Finish (f encoder)
map_refs f (FinishBundle encoder) = FinishBundle (f encoder)
map_refs f (Submit buffers) = Submit (map f buffers)
map_refs f (WriteBuffer buffer offset size) = WriteBuffer (f buffer) offset size
map_refs f (WriteTexture texture spot layout size data_size) = WriteTexture (f texture) spot layout size data_size
map_refs f (Destroy object) = Destroy (f object)
map_refs f (Drop object) = Drop (f object)
map_refs f (Complete op) = Complete op
map_refs f (PushErrorScope filter) = PushErrorScope filter
map_refs f PopErrorScope = PopErrorScope
map_refs f Lose = Lose
map_refs f WorkDone = WorkDone
map_refs f (MapAsync buffer mode offset size) = MapAsync (f buffer) mode offset size
map_refs f (Unmap buffer) = Unmap (f buffer)
