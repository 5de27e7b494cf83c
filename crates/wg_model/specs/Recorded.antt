-- The steps of queue writes, host accesses and recorded commands, and the resources that commands name (WebGPU, "Queues",
-- "Command Encoding" and "Resource Usages").
use Rattle.std.specs.Prelude.{ℕ, ◌==◌, Bool, ◌||◌, List, [], ◌∷◌, ◌++◌, map, Option, Some, None, if◌then◌else◌}
use Rattle.std.specs.List.{list_any, flat_map}
use Rattle.wg_types.specs.declared.writes.QueueWrite.{QueueWrite}
use Rattle.wg_types.specs.declared.writes.QueueWrite.TheVariants.{Buffer as BufferWrite, Texture as TextureWrite}
use Rattle.wg_trace.specs.declared.steps.StepName.{StepName}
use Rattle.wg_trace.specs.declared.steps.StepName.TheVariants as name
use Rattle.wg_types.specs.declared.commands.On.{On}
use Rattle.wg_types.specs.Handles.{HandleValue}
use Rattle.wg_types.specs.Commands.{Command, named}
use Rattle.wg_types.specs.declared.wanted.Wanted.{Wanted}
use Rattle.wg_types.specs.declared.wanted.Wanted.TheVariants as wanted
use Rattle.wg_types.specs.declared.bindings.BoundResource.{BoundResource}
use Rattle.wg_types.specs.declared.bindings.BoundResource.TheVariants.{Buffer as BoundBuffer, View as BoundView, Sampler as BoundSampler}
use Rattle.wg_types.specs.declared.bindings.BoundEntry.{BoundEntry}
use Rattle.wg_types.specs.declared.groups.GroupInfo.{GroupInfo}
use Rattle.wg_types.specs.declared.mappings.Mapping.{Mapping}
use Rattle.wg_types.specs.declared.mappings.MapMode.{MapMode}
use Rattle.wg_types.specs.declared.mappings.MapMode.TheVariants.{Read as ReadMode, Write as WriteMode}
use Rattle.wg_types.specs.declared.textures.TextureInfo.{TextureInfo}
use Rattle.wg_types.specs.declared.textures.TextureSpot.{TextureSpot}
use Rattle.wg_types.specs.declared.render.TargetInfo.{TargetInfo}
use Rattle.wg_types.specs.declared.limits.Maker.{Maker}
use Rattle.wg_types.specs.declared.textures.ViewInfo.{ViewInfo}
use Rattle.wg_rows.specs.Runs.{Bytes}
use Rattle.wg_rows.specs.Uses.{Usages, AccessKind, Read, Both}
use Rattle.wg_orders.specs.Steps.{Step, StepPlace}
use Rattle.wg_model.specs.Subresources.{has_no_texel}
use Rattle.wg_model.specs.Touches.{Touch, range_touches, copied_to, touching, placed}
use Rattle.wg_model.specs.Bound.{known_group}
use Rattle.wg_model.specs.Bundles.{known_bundle, buffer_in, texture_in, query_set_in, in_bundle}
use Rattle.wg_model.specs.Attachments.{attached_view}
use Rattle.wg_model.specs.Walk.{DeedsOf}

-- the step of a write to a buffer
abbrev pub write_buffer_step : StepPlace → ℕ → ℕ → ℕ → Step
write_buffer_step place object offset size = touching place name.WriteBuffer (range_touches object offset size)

-- the step of a write to a texture
abbrev pub write_texture_step : StepPlace → ℕ → TextureInfo → TextureSpot → List ℕ → Step
write_texture_step place object info spot size = touching place name.WriteTexture (copied_to object info spot size)

-- the step of a queue write, which writes the range of its buffer or copies to its texture; one of size 0 makes none
abbrev pub write_step : StepPlace → QueueWrite → Option Step
write_step place (BufferWrite buffer offset size) = if size == 0 then None else Some (write_buffer_step place buffer.number offset size)
write_step place (TextureWrite texture info spot layout size) =
    if has_no_texel size then None else Some (write_texture_step place texture.number info spot size)

-- Host accesses (WebGPU, "Buffer Mapping"): what a map for reading gives the caller is read; what is mapped for writing goes
-- back whole, with what the caller left as it was.

-- how a host access uses its buffer: as host-read, or as host-write
abbrev pub host_usage : MapMode → Usages
host_usage ReadMode = record { 0 = 1024 }
host_usage WriteMode = record { 0 = 2048 }

-- how a host access accesses its bytes: it reads them, or reads and writes them
abbrev pub host_kind : MapMode → AccessKind
host_kind ReadMode = Read
host_kind WriteMode = Both

-- the name of the step of a host access
abbrev pub host_name : MapMode → StepName
host_name ReadMode = name.HostRead
host_name WriteMode = name.HostWrite

-- what a host access touches: the range of the mapping
abbrev pub host_touches : ℕ → Mapping → List Touch
host_touches buffer m = (Bytes buffer m.lo m.hi, (host_usage m.mode, host_kind m.mode)) ∷ []

-- the step of a host access to the range of a mapping: of one for reading a host read, which uses the buffer as host-read and
-- reads it; of one for writing a host write, which uses it as host-write and reads and writes it; an empty range makes none
abbrev pub host_step : StepPlace → ℕ → Mapping → Option Step
host_step place buffer m = if m.lo == m.hi then None else Some (touching place (host_name m.mode) (host_touches buffer m))

-- the steps of a recording, which are none where it has a verdict or an open pass, and none of a bundle encoder's
abbrev pub StepsOf : StepPlace → Maker → Option TargetInfo → List (On × Command) → List Step
StepsOf place maker targets commands = map (placed place) (DeedsOf maker targets commands)

-- the number of the buffer that is bound, if one is
abbrev pub bound_buffer : BoundResource → List ℕ
bound_buffer (BoundBuffer buffer known offset size) = buffer.number ∷ []
bound_buffer (BoundView view known) = []
bound_buffer (BoundSampler sampler known) = []

-- the number of the texture of which a view is bound, if one is
abbrev pub bound_texture : BoundResource → List ℕ
bound_texture (BoundBuffer buffer known offset size) = []
bound_texture (BoundView view known) = known.texture.number ∷ []
bound_texture (BoundSampler sampler known) = []

-- what a group binds of a sort, by what a handle knows of it
abbrev pub in_group : (BoundResource → List ℕ) → Option GroupInfo → List ℕ
in_group which None = []
in_group which (Some group) = flat_map (λ (entry : BoundEntry). which entry.resource) group.entries

-- the number of the texture of a view, if it is known
abbrev pub in_view : Option ViewInfo → List ℕ
in_view None = []
in_view (Some view) = view.texture.number ∷ []

-- What resources are reached through an object that a command names: the buffer, the texture or the query set that it is, the
-- texture of which it is a view, the buffers that it binds and the textures whose views it binds, those that a bundle uses, or
-- none.
pub data Reaching : Type 0 where
  own_buffer : Reaching
  own_texture : Reaching
  own_queries : Reaching
  viewed_texture : Reaching
  bound_resources : Reaching
  bundled_resources : Reaching
  no_resource : Reaching

-- what resources are reached through an object, by what is wanted of it
abbrev pub reaching : Wanted → Reaching
reaching wanted.Buffer = own_buffer
reaching wanted.Texture = own_texture
reaching wanted.View = viewed_texture
reaching wanted.Sampler = no_resource
reaching wanted.GroupLayout = no_resource
reaching wanted.PipelineLayout = no_resource
reaching wanted.Group = bound_resources
reaching wanted.Pipeline = no_resource
reaching wanted.ComputePipeline = no_resource
reaching wanted.RenderPipeline = no_resource
reaching wanted.Queries = own_queries
reaching wanted.Destroyable = no_resource
reaching wanted.Encoder = no_resource
reaching wanted.BundleEncoder = no_resource
reaching wanted.CommandBuffer = no_resource
reaching wanted.Bundle = bundled_resources
reaching wanted.ComputePass = no_resource
reaching wanted.RenderPass = no_resource
reaching wanted.Pass = no_resource
reaching wanted.Binding = no_resource
reaching wanted.Drawing = no_resource
reaching wanted.Recording = no_resource
reaching wanted.Canvas = no_resource
reaching wanted.Object = no_resource

-- the numbers of the buffers that are reached
abbrev pub buffers_by : Reaching → HandleValue → List ℕ
buffers_by own_buffer object = object.reference.number ∷ []
buffers_by own_texture object = []
buffers_by own_queries object = []
buffers_by viewed_texture object = []
buffers_by bound_resources object = in_group bound_buffer (known_group object)
buffers_by bundled_resources object = in_bundle buffer_in (known_bundle object)
buffers_by no_resource object = []

-- the buffers that are reached through an object, by what is wanted of it
abbrev pub buffers_as : Wanted → HandleValue → List ℕ
buffers_as asked object = buffers_by (reaching asked) object

-- the numbers of the textures that are reached
abbrev pub textures_by : Reaching → HandleValue → List ℕ
textures_by own_buffer object = []
textures_by own_texture object = object.reference.number ∷ []
textures_by own_queries object = []
textures_by viewed_texture object = in_view (attached_view object)
textures_by bound_resources object = in_group bound_texture (known_group object)
textures_by bundled_resources object = in_bundle texture_in (known_bundle object)
textures_by no_resource object = []

-- the textures that are reached through an object, by what is wanted of it
abbrev pub textures_as : Wanted → HandleValue → List ℕ
textures_as asked object = textures_by (reaching asked) object

-- the numbers of the query sets that are reached
abbrev pub query_sets_by : Reaching → HandleValue → List ℕ
query_sets_by own_buffer object = []
query_sets_by own_texture object = []
query_sets_by own_queries object = object.reference.number ∷ []
query_sets_by viewed_texture object = []
query_sets_by bound_resources object = []
query_sets_by bundled_resources object = in_bundle query_set_in (known_bundle object)
query_sets_by no_resource object = []

-- the query sets that are reached through an object, by what is wanted of it
abbrev pub query_sets_as : Wanted → HandleValue → List ℕ
query_sets_as asked object = query_sets_by (reaching asked) object

-- the numbers that are reached through objects, one object after another
abbrev pub numbers_by : (Wanted → HandleValue → List ℕ) → List (HandleValue × Wanted) → List ℕ
numbers_by which [] = []
numbers_by which (object ∷ objects) = which object.1 object.0 ++ numbers_by which objects

-- the numbers of the buffers that a command names, itself, through a bind group or through a bundle, whether or not a step comes
-- of it
abbrev pub buffers_of : Command → List ℕ
buffers_of command = numbers_by buffers_as (named command)

-- the numbers of the textures that a command names, itself, through a view that it attaches, through a view in a bind group, or
-- through a bundle, whether or not a step comes of it
abbrev pub textures_of : Command → List ℕ
textures_of command = numbers_by textures_as (named command)

-- the numbers of the query sets that a command names, itself or through a bundle
abbrev pub query_sets_of : Command → List ℕ
query_sets_of command = numbers_by query_sets_as (named command)

-- the numbers of all resources that a command names: buffers, textures and query sets
abbrev pub resources : Command → List ℕ
resources command = buffers_of command ++ (textures_of command ++ query_sets_of command)

-- whether one of the objects that recorded commands name passes the test
abbrev pub any_named : (Command → List ℕ) → (ℕ → Bool) → List (On × Command) → Bool
any_named names test commands = list_any (λ kept. list_any test (names kept.1)) commands

-- whether one of the numbers of an object passes the test
abbrev pub names_by : (Wanted → HandleValue → List ℕ) → (ℕ → Bool) → HandleValue × Wanted → Bool
names_by which test object = list_any test (which object.1 object.0)

-- whether a resource that is reached through an object passes the test
abbrev pub names_resource : (ℕ → Bool) → HandleValue × Wanted → Bool
names_resource test object = names_by buffers_as test object || (names_by textures_as test object || names_by query_sets_as test object)

-- whether one of the objects passes a test that sees what its handle tells and what is wanted of it
abbrev pub any_object : (HandleValue × Wanted → Bool) → List (On × Command) → Bool
any_object holds commands = list_any (λ kept. list_any holds (named kept.1)) commands

-- whether a resource that recorded commands name passes the test
abbrev pub any_resource : (ℕ → Bool) → List (On × Command) → Bool
any_resource test commands = any_named resources test commands

-- whether recorded commands use object n
abbrev pub uses_resource : List (On × Command) → ℕ → Bool
uses_resource commands n = any_resource (λ r. r == n) commands

-- the numbers of all objects that recorded commands name themselves, in the order of the commands and each as often as it is
-- named: of a group its own, and not those of what it binds, of a view its own, and not that of its texture, and of a bundle
-- its own, and not those of what its commands name
abbrev pub names_within : List (On × Command) → List ℕ
names_within commands = flat_map (λ (kept : On × Command). map (λ (object : HandleValue × Wanted). object.0.reference.number) (named kept.1)) commands
