-- Words are read as they are printed, and no byte of them is a space or a line end.
use Rattle.std.specs.Prelude.{Some}
use Rattle.std.proofs.Common.{◌≡◌, refl}
use Rattle.wg_trace.specs.declared.parts.Aspect.{Aspect}
use Rattle.wg_trace.specs.declared.parts.Aspect.TheVariants.{Color, Depth, Stencil}
use Rattle.wg_trace.specs.declared.parts.AccessKind.{AccessKind}
use Rattle.wg_trace.specs.declared.parts.AccessKind.TheVariants.{Read, Write, Both, Drop, ReadDrop}
use Rattle.wg_trace.specs.declared.steps.StepName.{StepName}
use Rattle.wg_trace.specs.declared.steps.StepName.TheVariants.{Clear, WriteBuffer, WriteTexture, CopyBufferToBuffer, CopyBufferToTexture, CopyTextureToBuffer, CopyTextureToTexture, ClearBuffer, ResolveQuerySet, Dispatch, RenderPass, HostRead, HostWrite}
use Rattle.wg_trace.specs.declared.steps.Sort.{Sort}
use Rattle.wg_trace.specs.declared.steps.Sort.TheVariants.{Buffer, Texture, Queries}
use Rattle.wg_trace.specs.StepNames.{step_name_text}
use Rattle.wg_print.specs.Items.{sort_text}
use Rattle.wg_print.specs.Parts.{aspect_text, access_kind_text}
use Rattle.wg_readtrace.specs.Words.{aspect_word, kind_word, name_word, sort_word}
use Rattle.wg_readback.proofs.Fields.{AreWordBytes}

pub aspect_read : (aspect : Aspect) → (aspect_word (aspect_text aspect) ≡ Some aspect) × AreWordBytes (aspect_text aspect)
aspect_read Color = (refl, refl)
aspect_read Depth = (refl, refl)
aspect_read Stencil = (refl, refl)

pub kind_read : (kind : AccessKind) → (kind_word (access_kind_text kind) ≡ Some kind) × AreWordBytes (access_kind_text kind)
kind_read Read = (refl, refl)
kind_read Write = (refl, refl)
kind_read Both = (refl, refl)
kind_read Drop = (refl, refl)
kind_read ReadDrop = (refl, refl)

pub sort_read : (sort : Sort) → (sort_word (sort_text sort) ≡ Some sort) × AreWordBytes (sort_text sort)
sort_read Buffer = (refl, refl)
sort_read Texture = (refl, refl)
sort_read Queries = (refl, refl)

pub name_read : (name : StepName) → (name_word (step_name_text name) ≡ Some name) × AreWordBytes (step_name_text name)
name_read Clear = (refl, refl)
name_read WriteBuffer = (refl, refl)
name_read WriteTexture = (refl, refl)
name_read CopyBufferToBuffer = (refl, refl)
name_read CopyBufferToTexture = (refl, refl)
name_read CopyTextureToBuffer = (refl, refl)
name_read CopyTextureToTexture = (refl, refl)
name_read ClearBuffer = (refl, refl)
name_read ResolveQuerySet = (refl, refl)
name_read Dispatch = (refl, refl)
name_read RenderPass = (refl, refl)
name_read HostRead = (refl, refl)
name_read HostWrite = (refl, refl)
