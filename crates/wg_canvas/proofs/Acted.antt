-- The texture that a maker gives is the one that its answer made.
use Rattle.std.proofs.Common.{◌≡◌, ℕ, Option, Some, ap, ap₂, sym, ◌∙◌}
use Rattle.wg_types.specs.Handles.{HandleValue}
use Rattle.wg_types.specs.declared.handles.Info.{Info}
use Rattle.wg_trace.specs.declared.replies.Answer.{Answer}
use Rattle.wg_trace.specs.declared.replies.Answer.TheVariants.{Made}
use Rattle.wg_types.specs.declared.requests.RequestOf.{RequestOf}
use Rattle.wg_types.specs.declared.requests.RequestOf.TheVariants.{CreateTexture}
use Rattle.wg_trace.specs.declared.replies.Reply.{Reply}
use Rattle.wg_types.specs.declared.textures.TextureInfo.{TextureInfo}
use Rattle.wg_canvas.specs.declared.canvas.Setting.{Setting}
use Rattle.wg_canvas.specs.declared.canvas.Stage.TheVariants.{Empty}
use Rattle.wg_types.specs.declared.canvases.CanvasCall.TheVariants.{Current as AskCurrent}
use Rattle.wg_canvas.specs.declared.canvas.Current.TheVariants.{Made as CurrentMade}
use Rattle.wg_canvas.specs.Makers.{IsMade}
use Rattle.wg_canvas.specs.Canvases.{CanvasValue, info_of, asked_at, texture_made, made_if, filled, filled_if, acted, act_made, IsAfter}

texture_is : (device : ℕ) (known : TextureInfo) (answer : Answer) (handle : HandleValue) → IsMade device known answer handle → texture_made device (CreateTexture known) answer ≡ Some handle
texture_is device known answer handle made =
    let f : ℕ → Info → Option HandleValue = λ d i. Some (record { reference = record { device = d; number = handle.reference.number }; valid = handle.valid; info = i }) in
    ap (texture_made device (CreateTexture known)) made.made ∙ ap₂ f (sym made.on) (sym made.knows)

-- A canvas that was filled is as the call makes it.
pub made_is : (device : ℕ) (old : CanvasValue) (reply : Reply) (new : CanvasValue) → IsAfter device old (CurrentMade reply) new → new ≡ acted old AskCurrent (act_made device old AskCurrent (Some reply))
made_is device old reply new after =
    let setting : Setting = after.0 in
    let texture : HandleValue = after.1 in
    let made : texture_made device (CreateTexture (info_of old setting)) reply.answer ≡ Some texture = texture_is device (info_of old setting) reply.answer texture after.3 in
    let asked : act_made device old AskCurrent (Some reply) ≡ Some texture = ap (λ stage. made_if device (asked_at old stage) (Some reply)) after.2 ∙ made in
    after.4 ∙ sym (ap (filled_if old) asked)
