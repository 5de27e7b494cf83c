-- Canvases: what each call asks of a device, if it asks something, and what becomes of the canvas (WebGPU, "Canvas Rendering"
-- and "GPUCanvasContext").
use Rattle.std.specs.Prelude.{◌≡◌, ℕ, ◌∷◌, [], Option, Some, None, option_map}
use Rattle.wg_types.specs.Handles.{HandleValue}
use Rattle.wg_types.specs.Kinds.{kind_of}
use Rattle.wg_types.specs.declared.formats.Format.{Format}
use Rattle.wg_types.specs.declared.formats.Format.TheVariants.{Rgba8Unorm, Bgra8Unorm, Rgba16Float}
use Rattle.wg_trace.specs.declared.replies.Answer.{Answer}
use Rattle.wg_trace.specs.declared.replies.Answer.TheVariants.{Made as AnswerMade}
use Rattle.wg_trace.specs.declared.replies.Reply.{Reply}
use Rattle.wg_types.specs.declared.handles.Info.TheVariants.{Texture as TextureInfoOf}
use Rattle.wg_types.specs.declared.requests.RequestOf.{RequestOf}
use Rattle.wg_types.specs.declared.requests.RequestOf.TheVariants.{CreateTexture, Destroy}
use Rattle.wg_types.specs.declared.textures.TextureInfo.{TextureInfo}
use Rattle.wg_types.specs.declared.textures.TextureDim.TheVariants.{Two}
use Rattle.wg_types.specs.declared.wanted.Kind.TheVariants.{Texture as OfTexture}
use Rattle.wg_canvas.specs.Makers.{IsMade}
use Rattle.wg_types.specs.declared.canvases.CanvasFormat.{CanvasFormat}
use Rattle.wg_types.specs.declared.canvases.CanvasFormat.TheVariants as format
use Rattle.wg_types.specs.declared.canvases.CanvasCall.{CanvasCall}
use Rattle.wg_types.specs.declared.canvases.CanvasCall.TheVariants.{Configure, Current as AskCurrent, Present}
use Rattle.wg_canvas.specs.declared.canvas.Setting.{Setting}
use Rattle.wg_canvas.specs.declared.canvas.Stage.{Stage}
use Rattle.wg_canvas.specs.declared.canvas.Stage.TheVariants.{Unset, Empty, Filled}
use Rattle.wg_canvas.specs.declared.canvas.Current.{Current}
use Rattle.wg_canvas.specs.declared.canvas.Current.TheVariants.{NotConfigured, Same, Made}

-- a canvas: its fixed extent, and whether it is configured, with a format and a usage, and has a current texture
pub record CanvasValue : Type 0 where
  pub width : ℕ
  pub height : ℕ
  pub stage : Stage

-- the format of textures that a format of canvases is
abbrev pub format_of : CanvasFormat → Format
format_of format.Rgba8unorm = Rgba8Unorm
format_of format.Bgra8unorm = Bgra8Unorm
format_of format.Rgba16float = Rgba16Float

-- the current texture, if there is one
abbrev pub texture_at : Stage → Option HandleValue
texture_at Unset = None
texture_at (Empty setting) = None
texture_at (Filled setting texture) = Some texture

-- the current texture of a canvas, if it has one
abbrev pub texture_of : CanvasValue → Option HandleValue
texture_of canvas = texture_at canvas.stage

-- what the texture of a canvas is made with: 2D, of the canvas's extent, with one layer, one mip level and one sample, and the
-- format and usage with which it was configured last
abbrev pub info_of : CanvasValue → Setting → TextureInfo
info_of canvas setting = record { size = canvas.width ∷ (canvas.height ∷ (1 ∷ [])); usage = setting.usage; format = format_of setting.format; dim = Two; mips = 1; samples = 1 }

-- ---- what a call asks

-- what a present or a configure asks: to destroy the current texture, if there is one
abbrev pub expiry_asked : CanvasValue → Option (RequestOf HandleValue)
expiry_asked canvas = option_map Destroy (texture_of canvas)

-- what a call for the current texture asks of a canvas that is configured and has none: to make one
abbrev pub asked_at : CanvasValue → Stage → Option (RequestOf HandleValue)
asked_at canvas Unset = None
asked_at canvas (Empty setting) = Some (CreateTexture (info_of canvas setting))
asked_at canvas (Filled setting texture) = None

-- what a call for the current texture asks of the maker: to make one, exactly where the canvas is configured and has none
abbrev pub texture_asked : CanvasValue → Option (RequestOf HandleValue)
texture_asked canvas = asked_at canvas canvas.stage

-- ---- what becomes of it

-- what a canvas is once its current texture was destroyed
abbrev pub expired_at : Stage → Stage
expired_at Unset = Unset
expired_at (Empty setting) = Empty setting
expired_at (Filled setting texture) = Empty setting

-- a canvas without its current texture
abbrev pub expired : CanvasValue → CanvasValue
expired canvas = record canvas { stage = expired_at canvas.stage }

-- a canvas that is configured with a format and a usage, without a current texture
abbrev pub configured : CanvasValue → CanvasFormat → ℕ → CanvasValue
configured canvas format usage = record canvas { stage = Empty (record { format = format; usage = usage }) }

-- what a canvas is once a texture was made for it, which is then current
abbrev pub filled_at : Stage → HandleValue → Stage
filled_at Unset texture = Unset
filled_at (Empty setting) texture = Filled setting texture
filled_at (Filled setting old) texture = Filled setting old

-- a canvas with this current texture, where it is configured and has none
abbrev pub filled : CanvasValue → HandleValue → CanvasValue
filled canvas texture = record canvas { stage = filled_at canvas.stage texture }

-- ---- what is answered of a current texture

-- Exactly where the canvas is not configured that is the answer, exactly where there is a current texture it stays, and exactly where
-- there is none in one that is configured a texture was made.
abbrev pub IsAnswered : Stage → Current → Type 0
IsAnswered stage NotConfigured = stage ≡ Unset
IsAnswered stage Same = (setting : Setting) × (texture : HandleValue) × (stage ≡ Filled setting texture)
IsAnswered stage (Made reply) = (setting : Setting) × (stage ≡ Empty setting)

-- the reply that a call for the current texture got, if it asked
abbrev pub reply_in : Current → Option Reply
reply_in NotConfigured = None
reply_in Same = None
reply_in (Made reply) = Some reply

-- What becomes of a canvas that is asked for its current texture: where one was made, valid or not, it has that.
abbrev pub IsAfter : ℕ → CanvasValue → Current → CanvasValue → Type 0
IsAfter device old NotConfigured new = new ≡ old
IsAfter device old Same new = new ≡ old
IsAfter device old (Made reply) new = (setting : Setting) × (texture : HandleValue) × (old.stage ≡ Empty setting) × IsMade device (info_of old setting) reply.answer texture × (new ≡ filled old texture)

-- the current texture, if there is one, is a texture
abbrev pub HasTexture : Stage → Type 0
HasTexture Unset = Unit {0}
HasTexture (Empty setting) = Unit {0}
HasTexture (Filled setting texture) = kind_of texture.info ≡ OfTexture

-- ---- any call of a canvas

-- what a call of a canvas asks of the maker, if anything
abbrev pub act_asked : CanvasValue → CanvasCall → Option (RequestOf HandleValue)
act_asked canvas (Configure format usage) = expiry_asked canvas
act_asked canvas AskCurrent = texture_asked canvas
act_asked canvas Present = expiry_asked canvas

-- the texture that an answer made on the device with this serial, where one was asked for
abbrev pub texture_made : ℕ → RequestOf HandleValue → Answer → Option HandleValue
texture_made device (CreateTexture known) (AnswerMade number valid) = Some (record { reference = record { device = device; number = number }; valid = valid; info = TextureInfoOf known })
texture_made device _ _ = None

-- the handle of the texture that was asked for and made, if one was
abbrev pub made_if : ℕ → Option (RequestOf HandleValue) → Option Reply → Option HandleValue
made_if device (Some request) (Some reply) = texture_made device request reply.answer
made_if device _ _ = None

-- what a call made that was replied to so, if it made something
abbrev pub act_made : ℕ → CanvasValue → CanvasCall → Option Reply → Option HandleValue
act_made device canvas call reply = made_if device (act_asked canvas call) reply

-- what becomes of a canvas at a call that made this, or made nothing
abbrev pub filled_if : CanvasValue → Option HandleValue → CanvasValue
filled_if canvas None = canvas
filled_if canvas (Some texture) = filled canvas texture

-- a canvas after a call of it, which made this
abbrev pub acted : CanvasValue → CanvasCall → Option HandleValue → CanvasValue
acted canvas (Configure format usage) made = configured canvas format usage
acted canvas AskCurrent made = filled_if canvas made
acted canvas Present made = expired canvas
