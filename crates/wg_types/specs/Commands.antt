-- Where commands may stand, which begin and end a pass, and the objects that they name (WebGPU, "Command Encoding", "Compute
-- Passes", "Render Passes", "Programmable Passes", "Bundles" and "Debug Markers").
use Rattle.std.specs.Prelude.{ℕ, Bool, true, false, List, [], ◌∷◌, map, Option, Some, None, option_map}
use Rattle.std.specs.List.{list_any}
use Rattle.wg_types.specs.Handles.{HandleValue}
use Rattle.wg_types.specs.Render.{begin_named, map_begin}
pub use Rattle.wg_types.specs.Refs.{first_of, all_wanted, maybe_wanted}
use Rattle.wg_types.specs.declared.wanted.Wanted.{Wanted}
use Rattle.wg_types.specs.declared.wanted.Wanted.TheVariants as wanted
use Rattle.wg_types.specs.declared.wanted.Kind.{Kind}
use Rattle.wg_types.specs.declared.wanted.Kind.TheVariants as kind
use Rattle.wg_types.specs.Wanted.{is_wanted, within}
use Rattle.wg_types.specs.declared.vertex.IndexFormat.{IndexFormat}
use Rattle.wg_types.specs.declared.render.RenderBeginOf.{RenderBeginOf}
use Rattle.wg_types.specs.declared.render.Viewport.{Viewport}
pub use Rattle.wg_types.specs.declared.commands.CommandOf.{CommandOf}
use Rattle.wg_types.specs.declared.commands.CommandOf.TheVariants.{BeginComputePass, BeginRenderPass, CopyBufferToBuffer, CopyBufferToTexture, CopyTextureToBuffer, CopyTextureToTexture, ClearBuffer, ResolveQuerySet, PushDebugGroup, PopDebugGroup, InsertDebugMarker, End, SetPipeline, SetBindGroup, Dispatch, DispatchIndirect, SetVertexBuffer, SetIndexBuffer, Draw, DrawIndexed, DrawIndirect, DrawIndexedIndirect, BeginOcclusionQuery, EndOcclusionQuery, ExecuteBundles, SetViewport, SetScissorRect, SetBlendConstant, SetStencilReference}
use Rattle.wg_types.specs.declared.commands.Bracket.{Bracket}
use Rattle.wg_types.specs.declared.commands.Bracket.TheVariants as brackets
use Rattle.wg_types.specs.declared.commands.CommandPlace.{CommandPlace}
use Rattle.wg_types.specs.declared.commands.CommandPlace.TheVariants.{Encoder, ComputePass, RenderPass, Bundle}

-- a command as its caller holds its objects
abbrev pub Command : Type 0
Command = CommandOf HandleValue

-- what a place of a kind is to the commands that stand on it: debug groups stand anywhere, an end on a pass, what sets pipelines
-- and groups on passes and bundle encoders, what draws on render passes and these, what begins and ends queries on render passes
abbrev pub serves_at : CommandPlace → List Wanted
serves_at Encoder = wanted.Encoder ∷ wanted.Recording ∷ []
serves_at ComputePass = wanted.ComputePass ∷ wanted.Pass ∷ wanted.Binding ∷ wanted.Recording ∷ []
serves_at RenderPass = wanted.RenderPass ∷ wanted.Pass ∷ wanted.Binding ∷ wanted.Drawing ∷ wanted.Recording ∷ []
serves_at Bundle = wanted.Binding ∷ wanted.Drawing ∷ wanted.Recording ∷ []

-- whether what a command asks of what it stands on is met by a place of a kind
abbrev pub stands : Wanted → CommandPlace → Bool
stands asked place = list_any (is_wanted asked) (serves_at place)

-- what a command asks of what it stands on: an encoder for the begin of a pass, copies, clears and resolves of query sets; a
-- pass for an end; a pass or a bundle encoder for what sets a pipeline or a bind group; a compute pass for dispatches; a
-- render pass or a bundle encoder for what sets a vertex or index buffer and for draws; a render pass for occlusion queries,
-- bundles that are executed, and what sets the viewport, the scissor rectangle, the blend constant or the stencil reference;
-- any of these for debug groups and markers
abbrev pub place_wanted : {R : Type 0} → CommandOf R → Wanted
place_wanted BeginComputePass = wanted.Encoder
place_wanted (BeginRenderPass begin) = wanted.Encoder
place_wanted (CopyBufferToBuffer source source_offset target target_offset size) = wanted.Encoder
place_wanted (CopyBufferToTexture buffer layout texture spot size) = wanted.Encoder
place_wanted (CopyTextureToBuffer buffer layout texture spot size) = wanted.Encoder
place_wanted (CopyTextureToTexture source source_mip source_origin target target_mip target_origin size) = wanted.Encoder
place_wanted (ClearBuffer buffer offset size) = wanted.Encoder
place_wanted (ResolveQuerySet queries first count buffer offset) = wanted.Encoder
place_wanted PushDebugGroup = wanted.Recording
place_wanted PopDebugGroup = wanted.Recording
place_wanted InsertDebugMarker = wanted.Recording
place_wanted End = wanted.Pass
place_wanted (SetPipeline pipeline) = wanted.Binding
place_wanted (SetBindGroup index group offsets) = wanted.Binding
place_wanted (Dispatch x y z) = wanted.ComputePass
place_wanted (DispatchIndirect buffer offset) = wanted.ComputePass
place_wanted (SetVertexBuffer slot buffer offset size) = wanted.Drawing
place_wanted (SetIndexBuffer buffer format offset size) = wanted.Drawing
place_wanted (Draw vertices instances first_vertex first_instance) = wanted.Drawing
place_wanted (DrawIndexed indices instances first_index first_instance) = wanted.Drawing
place_wanted (DrawIndirect buffer offset) = wanted.Drawing
place_wanted (DrawIndexedIndirect buffer offset) = wanted.Drawing
place_wanted (BeginOcclusionQuery index) = wanted.RenderPass
place_wanted EndOcclusionQuery = wanted.RenderPass
place_wanted (ExecuteBundles bundles) = wanted.RenderPass
place_wanted (SetViewport viewport) = wanted.RenderPass
place_wanted (SetScissorRect x y width height) = wanted.RenderPass
place_wanted SetBlendConstant = wanted.RenderPass
place_wanted SetStencilReference = wanted.RenderPass

-- whether a command may stand on a place of a kind
abbrev pub fits : {R : Type 0} → CommandOf R → CommandPlace → Bool
fits command place = stands (place_wanted command) place

-- what a command opens or closes, if it does
abbrev pub bracket : {R : Type 0} → CommandOf R → Bracket
bracket BeginComputePass = brackets.BeginComputePass
bracket (BeginRenderPass begin) = brackets.BeginRenderPass
bracket (CopyBufferToBuffer source source_offset target target_offset size) = brackets.Neither
bracket (CopyBufferToTexture buffer layout texture spot size) = brackets.Neither
bracket (CopyTextureToBuffer buffer layout texture spot size) = brackets.Neither
bracket (CopyTextureToTexture source source_mip source_origin target target_mip target_origin size) = brackets.Neither
bracket (ClearBuffer buffer offset size) = brackets.Neither
bracket (ResolveQuerySet queries first count buffer offset) = brackets.Neither
bracket PushDebugGroup = brackets.PushGroup
bracket PopDebugGroup = brackets.PopGroup
bracket InsertDebugMarker = brackets.Neither
bracket End = brackets.EndPass
bracket (SetPipeline pipeline) = brackets.Neither
bracket (SetBindGroup index group offsets) = brackets.Neither
bracket (Dispatch x y z) = brackets.Neither
bracket (DispatchIndirect buffer offset) = brackets.Neither
bracket (SetVertexBuffer slot buffer offset size) = brackets.Neither
bracket (SetIndexBuffer buffer format offset size) = brackets.Neither
bracket (Draw vertices instances first_vertex first_instance) = brackets.Neither
bracket (DrawIndexed indices instances first_index first_instance) = brackets.Neither
bracket (DrawIndirect buffer offset) = brackets.Neither
bracket (DrawIndexedIndirect buffer offset) = brackets.Neither
bracket (BeginOcclusionQuery index) = brackets.Neither
bracket EndOcclusionQuery = brackets.Neither
bracket (ExecuteBundles bundles) = brackets.Neither
bracket (SetViewport viewport) = brackets.Neither
bracket (SetScissorRect x y width height) = brackets.Neither
bracket SetBlendConstant = brackets.Neither
bracket SetStencilReference = brackets.Neither

-- the kind of the pass that a command begins, if it begins one
abbrev pub kind_begun_by : Bracket → Option Kind
kind_begun_by brackets.BeginComputePass = Some kind.ComputePass
kind_begun_by brackets.BeginRenderPass = Some kind.RenderPass
kind_begun_by brackets.EndPass = None
kind_begun_by brackets.PushGroup = None
kind_begun_by brackets.PopGroup = None
kind_begun_by brackets.Neither = None

-- the kind of the pass that a command begins, if it begins one
abbrev pub kind_begun : {R : Type 0} → CommandOf R → Option Kind
kind_begun command = kind_begun_by (bracket command)

-- whether a command begins a pass
abbrev pub begins_pass_by : Bracket → Bool
begins_pass_by brackets.BeginComputePass = true
begins_pass_by brackets.BeginRenderPass = true
begins_pass_by brackets.EndPass = false
begins_pass_by brackets.PushGroup = false
begins_pass_by brackets.PopGroup = false
begins_pass_by brackets.Neither = false

-- whether a command begins a pass
abbrev pub is_begin : {R : Type 0} → CommandOf R → Bool
is_begin command = begins_pass_by (bracket command)

-- whether a command ends a pass
abbrev pub ends_pass_by : Bracket → Bool
ends_pass_by brackets.BeginComputePass = false
ends_pass_by brackets.BeginRenderPass = false
ends_pass_by brackets.EndPass = true
ends_pass_by brackets.PushGroup = false
ends_pass_by brackets.PopGroup = false
ends_pass_by brackets.Neither = false

-- whether a command ends a pass
abbrev pub is_end : {R : Type 0} → CommandOf R → Bool
is_end command = ends_pass_by (bracket command)

-- What a command sets for those that come after it in the same pass. A group or a vertex buffer that is none unsets what is set
-- at its index or slot. A viewport and a scissor rectangle are looked at as they are set; the blend constant and the stencil
-- reference, at which no rule looks, are one.
pub data Setting (R : Type 0) : Type 0 where
  set_pipeline : (pipeline : R) → Setting R
  set_group : (index : ℕ) (group : Option R) (offsets : List ℕ) → Setting R
  set_vertex_buffer : (slot : ℕ) (buffer : Option R) (offset : ℕ) (size : Option ℕ) → Setting R
  set_index_buffer : (buffer : R) (format : IndexFormat) (offset : ℕ) (size : Option ℕ) → Setting R
  set_viewport : (viewport : Viewport) → Setting R
  set_scissor : (x y width height : ℕ) → Setting R
  set_unread : Setting R

-- What a command dispatches or draws.
pub data Running (R : Type 0) : Type 0 where
  dispatch : (x y z : ℕ) → Running R
  dispatch_indirect : (buffer : R) (offset : ℕ) → Running R
  draw : (vertices instances first_vertex first_instance : ℕ) → Running R
  draw_indexed : (indices instances first_index first_instance : ℕ) → Running R
  draw_indirect : (buffer : R) (offset : ℕ) → Running R
  draw_indexed_indirect : (buffer : R) (offset : ℕ) → Running R

-- What a command does with the queries of its pass: it begins the one of an index, or ends the one that is active.
pub data OcclusionCall : Type 0 where
  begin_occlusion : (index : ℕ) → OcclusionCall
  end_occlusion : OcclusionCall

-- What a command is to the pass that it begins or on which it stands: what the render pass begins with, something that is set,
-- something that is dispatched or drawn, a query's begin or end, or bundles that are executed.
pub data Act (R : Type 0) : Type 0 where
  begins : (begin : RenderBeginOf R) → Act R
  sets : (setting : Setting R) → Act R
  runs : (running : Running R) → Act R
  occludes : (call : OcclusionCall) → Act R
  executes : (bundles : List R) → Act R
  neither : Act R

-- what a command is to render passes: it begins one with these attachments, executes these bundles, or neither
abbrev pub act : {R : Type 0} → CommandOf R → Act R
act BeginComputePass = neither
act (BeginRenderPass begin) = begins begin
act (CopyBufferToBuffer source source_offset target target_offset size) = neither
act (CopyBufferToTexture buffer layout texture spot size) = neither
act (CopyTextureToBuffer buffer layout texture spot size) = neither
act (CopyTextureToTexture source source_mip source_origin target target_mip target_origin size) = neither
act (ClearBuffer buffer offset size) = neither
act (ResolveQuerySet queries first count buffer offset) = neither
act PushDebugGroup = neither
act PopDebugGroup = neither
act InsertDebugMarker = neither
act End = neither
act (SetPipeline pipeline) = sets (set_pipeline pipeline)
act (SetBindGroup index group offsets) = sets (set_group index group offsets)
act (Dispatch x y z) = runs (dispatch x y z)
act (DispatchIndirect buffer offset) = runs (dispatch_indirect buffer offset)
act (SetVertexBuffer slot buffer offset size) = sets (set_vertex_buffer slot buffer offset size)
act (SetIndexBuffer buffer format offset size) = sets (set_index_buffer buffer format offset size)
act (Draw vertices instances first_vertex first_instance) = runs (draw vertices instances first_vertex first_instance)
act (DrawIndexed indices instances first_index first_instance) = runs (draw_indexed indices instances first_index first_instance)
act (DrawIndirect buffer offset) = runs (draw_indirect buffer offset)
act (DrawIndexedIndirect buffer offset) = runs (draw_indexed_indirect buffer offset)
act (BeginOcclusionQuery index) = occludes (begin_occlusion index)
act EndOcclusionQuery = occludes end_occlusion
act (ExecuteBundles bundles) = executes bundles
act (SetViewport viewport) = sets (set_viewport viewport)
act (SetScissorRect x y width height) = sets (set_scissor x y width height)
act SetBlendConstant = sets set_unread
act SetStencilReference = sets set_unread

-- what the render pass begins with that a command begins, if it begins one
abbrev pub begin_in : {R : Type 0} → Act R → Option (RenderBeginOf R)
begin_in (begins begin) = Some begin
begin_in (sets setting) = None
begin_in (runs running) = None
begin_in (occludes call) = None
begin_in (executes bundles) = None
begin_in neither = None

-- the attachments with which a command begins a render pass, if it begins one
abbrev pub render_begun : {R : Type 0} → CommandOf R → Option (RenderBeginOf R)
render_begun command = begin_in (act command)

-- the objects that a command names, in the order of its keys, each with the kind that it has to be of: of a copy the source
-- and then the target, of a beginRenderPass the views that it attaches and then its query set, of a resolveQuerySet the query
-- set and then the buffer; a bind group or a vertex buffer that is none is not named
abbrev pub named : {R : Type 0} → CommandOf R → List (R × Wanted)
named BeginComputePass = []
named (BeginRenderPass begin) = begin_named begin
named (CopyBufferToBuffer source source_offset target target_offset size) = (source, wanted.Buffer) ∷ (target, wanted.Buffer) ∷ []
named (CopyBufferToTexture buffer layout texture spot size) = (buffer, wanted.Buffer) ∷ (texture, wanted.Texture) ∷ []
named (CopyTextureToBuffer buffer layout texture spot size) = (buffer, wanted.Buffer) ∷ (texture, wanted.Texture) ∷ []
named (CopyTextureToTexture source source_mip source_origin target target_mip target_origin size) = (source, wanted.Texture) ∷ (target, wanted.Texture) ∷ []
named (ClearBuffer buffer offset size) = (buffer, wanted.Buffer) ∷ []
named (ResolveQuerySet queries first count buffer offset) = (queries, wanted.Queries) ∷ (buffer, wanted.Buffer) ∷ []
named PushDebugGroup = []
named PopDebugGroup = []
named InsertDebugMarker = []
named End = []
named (SetPipeline pipeline) = (pipeline, wanted.Pipeline) ∷ []
named (SetBindGroup index group offsets) = maybe_wanted wanted.Group group
named (Dispatch x y z) = []
named (DispatchIndirect buffer offset) = (buffer, wanted.Buffer) ∷ []
named (SetVertexBuffer slot buffer offset size) = maybe_wanted wanted.Buffer buffer
named (SetIndexBuffer buffer format offset size) = (buffer, wanted.Buffer) ∷ []
named (Draw vertices instances first_vertex first_instance) = []
named (DrawIndexed indices instances first_index first_instance) = []
named (DrawIndirect buffer offset) = (buffer, wanted.Buffer) ∷ []
named (DrawIndexedIndirect buffer offset) = (buffer, wanted.Buffer) ∷ []
named (BeginOcclusionQuery index) = []
named EndOcclusionQuery = []
named (ExecuteBundles bundles) = all_wanted wanted.Bundle bundles
named (SetViewport viewport) = []
named (SetScissorRect x y width height) = []
named SetBlendConstant = []
named SetStencilReference = []

-- the objects that a command on something of a kind names, where a pipeline has to be one of such passes
abbrev pub named_on : {R : Type 0} → Kind → CommandOf R → List (R × Wanted)
named_on place command = map (λ object. (object.0, within place object.1)) (named command)

-- the command with other objects in place of those that it names
abbrev pub map_refs : {R S : Type 0} → (R → S) → CommandOf R → CommandOf S
map_refs f BeginComputePass = BeginComputePass
map_refs f (BeginRenderPass begin) = BeginRenderPass (map_begin f begin)
map_refs f (CopyBufferToBuffer source source_offset target target_offset size) = CopyBufferToBuffer (f source) source_offset (f target) target_offset size
map_refs f (CopyBufferToTexture buffer layout texture spot size) = CopyBufferToTexture (f buffer) layout (f texture) spot size
map_refs f (CopyTextureToBuffer buffer layout texture spot size) = CopyTextureToBuffer (f buffer) layout (f texture) spot size
map_refs f (CopyTextureToTexture source source_mip source_origin target target_mip target_origin size) = CopyTextureToTexture (f source) source_mip source_origin (f target) target_mip target_origin size
map_refs f (ClearBuffer buffer offset size) = ClearBuffer (f buffer) offset size
map_refs f (ResolveQuerySet queries first count buffer offset) = ResolveQuerySet (f queries) first count (f buffer) offset
map_refs f PushDebugGroup = PushDebugGroup
map_refs f PopDebugGroup = PopDebugGroup
map_refs f InsertDebugMarker = InsertDebugMarker
map_refs f End = End
map_refs f (SetPipeline pipeline) = SetPipeline (f pipeline)
map_refs f (SetBindGroup index group offsets) = SetBindGroup index (option_map f group) offsets
map_refs f (Dispatch x y z) = Dispatch x y z
map_refs f (DispatchIndirect buffer offset) = DispatchIndirect (f buffer) offset
map_refs f (SetVertexBuffer slot buffer offset size) = SetVertexBuffer slot (option_map f buffer) offset size
map_refs f (SetIndexBuffer buffer format offset size) = SetIndexBuffer (f buffer) format offset size
map_refs f (Draw vertices instances first_vertex first_instance) = Draw vertices instances first_vertex first_instance
map_refs f (DrawIndexed indices instances first_index first_instance) = DrawIndexed indices instances first_index first_instance
map_refs f (DrawIndirect buffer offset) = DrawIndirect (f buffer) offset
map_refs f (DrawIndexedIndirect buffer offset) = DrawIndexedIndirect (f buffer) offset
map_refs f (BeginOcclusionQuery index) = BeginOcclusionQuery index
map_refs f EndOcclusionQuery = EndOcclusionQuery
map_refs f (ExecuteBundles bundles) = ExecuteBundles (map f bundles)
map_refs f (SetViewport viewport) = SetViewport viewport
map_refs f (SetScissorRect x y width height) = SetScissorRect x y width height
map_refs f SetBlendConstant = SetBlendConstant
map_refs f SetStencilReference = SetStencilReference
