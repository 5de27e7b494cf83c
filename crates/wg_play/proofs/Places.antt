-- Which commands begin passes, and what a command stands on.
use Rattle.std.proofs.Common.{◌≡◌, true, false, Some, refl, arith, ◌⊎◌, inl, inr}
use Rattle.wg_types.specs.declared.wanted.Kind.{Kind}
use Rattle.wg_types.specs.declared.wanted.Kind.TheVariants as kind
use Rattle.wg_types.specs.declared.wanted.Wanted.{Wanted}
use Rattle.wg_types.specs.declared.wanted.Wanted.TheVariants as wanted
use Rattle.wg_types.specs.Wanted.{admits, is_wanted}
use Rattle.wg_types.specs.declared.commands.Bracket.{Bracket}
use Rattle.wg_types.specs.declared.commands.Bracket.TheVariants as brackets
use Rattle.wg_types.specs.declared.commands.CommandOf.{CommandOf}
use Rattle.wg_types.specs.declared.commands.CommandOf.TheVariants.{BeginComputePass, BeginRenderPass, CopyBufferToBuffer, CopyBufferToTexture, CopyTextureToBuffer, CopyTextureToTexture, ClearBuffer, ResolveQuerySet, PushDebugGroup, PopDebugGroup, InsertDebugMarker, End, SetPipeline, SetBindGroup, Dispatch, DispatchIndirect, SetVertexBuffer, SetIndexBuffer, Draw, DrawIndexed, DrawIndirect, DrawIndexedIndirect, BeginOcclusionQuery, EndOcclusionQuery, ExecuteBundles, SetViewport, SetScissorRect, SetBlendConstant, SetStencilReference}
use Rattle.wg_types.specs.Commands.{map_refs, bracket, place_wanted, kind_begun_by, kind_begun, begins_pass_by}
use Rattle.wg_names.specs.Uses.{wants_own}
use Rattle.wg_names.proofs.BoundLemmas.{place_own}
use Rattle.wg_play.specs.Found.{is_pass, has_recorder}

-- ---- the command that begins a pass

pub bracket_mapped : {R S : Type 0} (f : R → S) (command : CommandOf R) → bracket (map_refs f command) ≡ bracket command
bracket_mapped f BeginComputePass = refl
bracket_mapped f (BeginRenderPass begin) = refl
bracket_mapped f (CopyBufferToBuffer source source_offset target target_offset size) = refl
bracket_mapped f (CopyBufferToTexture buffer layout texture spot size) = refl
bracket_mapped f (CopyTextureToBuffer buffer layout texture spot size) = refl
bracket_mapped f (CopyTextureToTexture source source_mip source_origin target target_mip target_origin size) = refl
bracket_mapped f (ClearBuffer buffer offset size) = refl
bracket_mapped f (ResolveQuerySet queries first count buffer offset) = refl
bracket_mapped f PushDebugGroup = refl
bracket_mapped f PopDebugGroup = refl
bracket_mapped f InsertDebugMarker = refl
bracket_mapped f End = refl
bracket_mapped f (SetPipeline pipeline) = refl
bracket_mapped f (SetBindGroup index group offsets) = refl
bracket_mapped f (Dispatch x y z) = refl
bracket_mapped f (DispatchIndirect buffer offset) = refl
bracket_mapped f (SetVertexBuffer slot buffer offset size) = refl
bracket_mapped f (SetIndexBuffer buffer format offset size) = refl
bracket_mapped f (Draw vertices instances first_vertex first_instance) = refl
bracket_mapped f (DrawIndexed indices instances first_index first_instance) = refl
bracket_mapped f (DrawIndirect buffer offset) = refl
bracket_mapped f (DrawIndexedIndirect buffer offset) = refl
bracket_mapped f (BeginOcclusionQuery index) = refl
bracket_mapped f EndOcclusionQuery = refl
bracket_mapped f (ExecuteBundles bundles) = refl
bracket_mapped f (SetViewport viewport) = refl
bracket_mapped f (SetScissorRect x y width height) = refl
bracket_mapped f SetBlendConstant = refl
bracket_mapped f SetStencilReference = refl

-- it stands on an encoder
pub place_of_begin : {R : Type 0} (command : CommandOf R) (k : Kind) → kind_begun command ≡ Some k → place_wanted command ≡ wanted.Encoder
place_of_begin BeginComputePass k e = refl
place_of_begin (BeginRenderPass begin) k e = refl
place_of_begin (CopyBufferToBuffer source source_offset target target_offset size) k e = refl
place_of_begin (CopyBufferToTexture buffer layout texture spot size) k e = refl
place_of_begin (CopyTextureToBuffer buffer layout texture spot size) k e = refl
place_of_begin (CopyTextureToTexture source source_mip source_origin target target_mip target_origin size) k e = refl
place_of_begin (ClearBuffer buffer offset size) k e = refl
place_of_begin (ResolveQuerySet queries first count buffer offset) k e = refl
place_of_begin PushDebugGroup k e = absurd (cc)
place_of_begin PopDebugGroup k e = absurd (cc)
place_of_begin InsertDebugMarker k e = absurd (cc)
place_of_begin End k e = absurd (cc)
place_of_begin (SetPipeline pipeline) k e = absurd (cc)
place_of_begin (SetBindGroup index group offsets) k e = absurd (cc)
place_of_begin (Dispatch x y z) k e = absurd (cc)
place_of_begin (DispatchIndirect buffer offset) k e = absurd (cc)
place_of_begin (SetVertexBuffer slot buffer offset size) k e = absurd (cc)
place_of_begin (SetIndexBuffer buffer format offset size) k e = absurd (cc)
place_of_begin (Draw vertices instances first_vertex first_instance) k e = absurd (cc)
place_of_begin (DrawIndexed indices instances first_index first_instance) k e = absurd (cc)
place_of_begin (DrawIndirect buffer offset) k e = absurd (cc)
place_of_begin (DrawIndexedIndirect buffer offset) k e = absurd (cc)
place_of_begin (BeginOcclusionQuery index) k e = absurd (cc)
place_of_begin EndOcclusionQuery k e = absurd (cc)
place_of_begin (ExecuteBundles bundles) k e = absurd (cc)
place_of_begin (SetViewport viewport) k e = absurd (cc)
place_of_begin (SetScissorRect x y width height) k e = absurd (cc)
place_of_begin SetBlendConstant k e = absurd (cc)
place_of_begin SetStencilReference k e = absurd (cc)

pub begins_by : (b : Bracket) (k : Kind) → kind_begun_by b ≡ Some k → begins_pass_by b ≡ true
begins_by brackets.BeginComputePass k e = refl
begins_by brackets.BeginRenderPass k e = refl
begins_by brackets.EndPass k e = absurd (cc)
begins_by brackets.PushGroup k e = absurd (cc)
begins_by brackets.PopGroup k e = absurd (cc)
begins_by brackets.Neither k e = absurd (cc)

-- ---- where a command stands

pub is_encoder : (k : Kind) → admits wanted.Encoder k ≡ true → k ≡ kind.Encoder
is_encoder kind.Encoder e = refl
is_encoder _ e = absurd (cc)

pub is_bundle_encoder : (k : Kind) → admits wanted.BundleEncoder k ≡ true → k ≡ kind.BundleEncoder
is_bundle_encoder kind.BundleEncoder e = refl
is_bundle_encoder _ e = absurd (cc)

pub is_canvas : (k : Kind) → admits wanted.Canvas k ≡ true → k ≡ kind.Canvas
is_canvas kind.Canvas e = refl
is_canvas _ e = absurd (cc)

abbrev EncoderOrPass : Kind → Type 0
EncoderOrPass k = (has_recorder k ≡ true) ⊎ (is_pass k ≡ true)

-- no command stands on a canvas
no_canvas : {R : Type 0} (command : CommandOf R) → is_wanted wanted.Canvas (place_wanted command) ≡ false
no_canvas command = grind arith

-- what asks for the lane's own, and is no canvas, is met by encoders and passes alone
admitted : (w : Wanted) (k : Kind) → wants_own w ≡ true → is_wanted wanted.Canvas w ≡ false → admits w k ≡ true → EncoderOrPass k
admitted wanted.Encoder kind.Encoder p n e = inl refl
admitted wanted.BundleEncoder kind.BundleEncoder p n e = inl refl
admitted wanted.ComputePass kind.ComputePass p n e = inr refl
admitted wanted.RenderPass kind.RenderPass p n e = inr refl
admitted wanted.Pass kind.ComputePass p n e = inr refl
admitted wanted.Pass kind.RenderPass p n e = inr refl
admitted wanted.Binding kind.ComputePass p n e = inr refl
admitted wanted.Binding kind.RenderPass p n e = inr refl
admitted wanted.Binding kind.BundleEncoder p n e = inl refl
admitted wanted.Drawing kind.RenderPass p n e = inr refl
admitted wanted.Drawing kind.BundleEncoder p n e = inl refl
admitted wanted.Recording kind.Encoder p n e = inl refl
admitted wanted.Recording kind.BundleEncoder p n e = inl refl
admitted wanted.Recording kind.ComputePass p n e = inr refl
admitted wanted.Recording kind.RenderPass p n e = inr refl
admitted wanted.Encoder _ p n e = absurd (cc)
admitted wanted.BundleEncoder _ p n e = absurd (cc)
admitted wanted.ComputePass _ p n e = absurd (cc)
admitted wanted.RenderPass _ p n e = absurd (cc)
admitted wanted.Pass _ p n e = absurd (cc)
admitted wanted.Binding _ p n e = absurd (cc)
admitted wanted.Drawing _ p n e = absurd (cc)
admitted wanted.Recording _ p n e = absurd (cc)
admitted wanted.Canvas _ p n e = absurd (cc)
admitted _ k p n e = absurd (cc)

pub stands_on : {R : Type 0} (command : CommandOf R) (k : Kind) → admits (place_wanted command) k ≡ true → EncoderOrPass k
stands_on command k e = admitted (place_wanted command) k (place_own command) (no_canvas command) e
