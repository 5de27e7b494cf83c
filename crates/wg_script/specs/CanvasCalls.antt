-- The calls of canvases: for each its keys, and what each holds, in the order in which they are read.
use Rattle.std.specs.Prelude.{ℕ, List, [], ◌∷◌, codes, Result}
use Rattle.serde_json.specs.Data.{Data}
use Rattle.wg_types.specs.declared.canvases.CanvasFormat.{CanvasFormat}
use Rattle.wg_types.specs.declared.canvases.CanvasFormat.TheVariants.{Rgba8unorm, Bgra8unorm, Rgba16float}
use Rattle.wg_types.specs.declared.canvases.CanvasCall.TheVariants.{Configure, Current, Present}
use Rattle.wg_types.specs.declared.canvases.CanvasOf.TheVariants.{Create, On}
use Rattle.wg_script.specs.Values.{whole_at, whole_or, most_short, name_at}
use Rattle.wg_script.specs.Words.{word_at}
use Rattle.wg_script.specs.CallOf.{Call}
use Rattle.wg_script.specs.Calling.{canvas_asking, canvas_making}
use Rattle.wg_script.specs.Readers.{Reader, gives, need, may, all_of, ◌▹◌, read_by}
use Rattle.wg_script.specs.Labels.{made_keys}

-- createCanvas
abbrev pub create_canvas_keys : Reader Call
create_canvas_keys = gives (λ width height made. canvas_making (Create width height) made)
    ▹ need (codes "width") (whole_at most_short)
    ▹ need (codes "height") (whole_at most_short)
    ▹ need (codes "as") name_at

-- the reader of a createCanvas
unfoldable pub create_canvas_of : Data → Result Call ℕ
create_canvas_of d = read_by create_canvas_keys d

-- the words of the formats of canvases (WebGPU, "GPUCanvasConfiguration")
abbrev pub canvas_words : List (List ℕ × CanvasFormat)
canvas_words = (codes "rgba8unorm", Rgba8unorm) ∷ (codes "bgra8unorm", Bgra8unorm) ∷ (codes "rgba16float", Rgba16float) ∷ []

-- configureCanvas: the usage of the textures is RENDER_ATTACHMENT where it is left out
abbrev pub configure_canvas_keys : Reader Call
configure_canvas_keys = gives (λ canvas format usage. canvas_asking (On canvas (Configure format usage)))
    ▹ need (codes "canvas") name_at
    ▹ need (codes "format") (word_at canvas_words)
    ▹ may (codes "usage") (whole_or most_short 16)

-- the reader of a configureCanvas
unfoldable pub configure_canvas_of : Data → Result Call ℕ
configure_canvas_of d = read_by configure_canvas_keys d

-- currentTexture
abbrev pub current_texture_keys : Reader Call
current_texture_keys = gives (λ canvas made. canvas_making (On canvas Current) made)
    ▹ need (codes "canvas") name_at
    ▹ all_of made_keys

-- the reader of a currentTexture
unfoldable pub current_texture_of : Data → Result Call ℕ
current_texture_of d = read_by current_texture_keys d

-- present
unfoldable pub present_of : Data → Result Call ℕ
present_of d = read_by (gives (λ canvas. canvas_asking (On canvas Present)) ▹ need (codes "canvas") name_at) d
