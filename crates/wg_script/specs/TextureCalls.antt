-- The calls on textures: for each its keys, and what each holds, in the order in which they are read.
use Rattle.std.specs.Prelude.{ℕ, codes, Result, Ok}
use Rattle.serde_json.specs.Data.{Data}
use Rattle.wg_types.specs.declared.textures.TextureInfo.{TextureInfo}
use Rattle.wg_types.specs.declared.textures.TextureSpot.{TextureSpot}
use Rattle.wg_types.specs.declared.textures.DataLayout.{DataLayout}
use Rattle.wg_types.specs.declared.textures.TextureDim.TheVariants.{Two}
use Rattle.wg_types.specs.declared.textures.AspectWord.TheVariants.{All}
use Rattle.wg_script.specs.Giving.{◌>>=◌}
use Rattle.wg_script.specs.Values.{whole_at, whole_or, whole_if, most_whole, most_short, name_at}
use Rattle.wg_script.specs.Lists.{triple_at, triple_or_zero}
use Rattle.wg_script.specs.Words.{word_at, word_or, word_if}
use Rattle.wg_script.specs.TextureWords.{format_words, texture_dim_words, view_dim_words, aspect_words}
use Rattle.wg_script.specs.CallOf.{Call}
use Rattle.wg_script.specs.declared.texture_calls.TexelCopy.{TexelCopy}
use Rattle.wg_types.specs.declared.commands.CommandOf.TheVariants.{CopyBufferToTexture, CopyTextureToBuffer, CopyTextureToTexture}
use Rattle.wg_types.specs.declared.requests.RequestOf.TheVariants.{CreateTexture, CreateView, WriteTexture}
use Rattle.wg_types.specs.declared.textures.ViewAsked.{ViewAsked}
use Rattle.wg_script.specs.Calling.{recording, asking, making}
use Rattle.wg_script.specs.Readers.{Reader, gives, need, may, all_of, ◌▹◌, read_by}
use Rattle.wg_script.specs.Labels.{made_keys}

-- ---- textures and views

-- what a texture is made with
abbrev pub texture_info_keys : Reader TextureInfo
texture_info_keys = gives (λ size usage format dim mips samples. record { size = size; usage = usage; format = format; dim = dim; mips = mips; samples = samples })
    ▹ need (codes "size") triple_at
    ▹ need (codes "usage") (whole_at most_short)
    ▹ need (codes "format") (word_at format_words)
    ▹ may (codes "dim") (word_or texture_dim_words Two)
    ▹ may (codes "mips") (whole_or most_short 1)
    ▹ may (codes "samples") (whole_or most_short 1)

-- createTexture
abbrev pub create_texture_keys : Reader Call
create_texture_keys = gives (λ info made. making (CreateTexture info) made)
    ▹ all_of texture_info_keys
    ▹ all_of made_keys

-- the reader of a createTexture
unfoldable pub create_texture_of : Data → Result Call ℕ
create_texture_of d = read_by create_texture_keys d

-- what of a texture a view takes: no dimension, no count of levels and no count of layers stand for
-- what the texture says
abbrev pub view_asked_keys : Reader ViewAsked
view_asked_keys = gives (λ dim aspect base_mip mips base_layer layers. record { dim = dim; aspect = aspect; base_mip = base_mip; mips = mips; base_layer = base_layer; layers = layers })
    ▹ may (codes "dim") (word_if view_dim_words)
    ▹ may (codes "aspect") (word_or aspect_words All)
    ▹ may (codes "baseMip") (whole_or most_short 0)
    ▹ may (codes "mips") (whole_if most_short)
    ▹ may (codes "baseLayer") (whole_or most_short 0)
    ▹ may (codes "layers") (whole_if most_short)

-- createView
abbrev pub create_view_keys : Reader Call
create_view_keys = gives (λ texture asked made. making (CreateView texture asked) made)
    ▹ need (codes "texture") name_at
    ▹ all_of view_asked_keys
    ▹ all_of made_keys

-- the reader of a createView
unfoldable pub create_view_of : Data → Result Call ℕ
create_view_of d = read_by create_view_keys d

-- ---- the parts of a copy

-- how texels lie in bytes
abbrev pub layout_keys : Reader DataLayout
layout_keys = gives (λ offset bytes_per_row rows_per_image. record { offset = offset; bytes_per_row = bytes_per_row; rows_per_image = rows_per_image })
    ▹ may (codes "offset") (whole_or most_whole 0)
    ▹ may (codes "bytesPerRow") (whole_if most_short)
    ▹ may (codes "rowsPerImage") (whole_if most_short)

-- where in a texture a copy begins
abbrev pub spot_keys : Reader TextureSpot
spot_keys = gives (λ mip origin aspect. record { mip = mip; origin = origin; aspect = aspect })
    ▹ may (codes "mip") (whole_or most_short 0)
    ▹ may (codes "origin") triple_or_zero
    ▹ may (codes "aspect") (word_or aspect_words All)

-- ---- writes and copies

-- writeTexture
abbrev pub write_texture_keys : Reader Call
write_texture_keys = gives (λ texture spot size layout data_size. asking (WriteTexture texture spot layout size data_size))
    ▹ need (codes "texture") name_at
    ▹ all_of spot_keys
    ▹ need (codes "size") triple_at
    ▹ all_of layout_keys
    ▹ need (codes "dataSize") (whole_at most_whole)

-- the reader of a writeTexture
unfoldable pub write_texture_of : Data → Result Call ℕ
write_texture_of d = read_by write_texture_keys d

-- a copy between a buffer and a texture
abbrev pub texel_copy_keys : Reader TexelCopy
texel_copy_keys = gives (λ on buffer layout texture spot size. record { on = on; buffer = buffer; layout = layout; texture = texture; spot = spot; size = size })
    ▹ need (codes "on") name_at
    ▹ need (codes "buffer") name_at
    ▹ all_of layout_keys
    ▹ need (codes "texture") name_at
    ▹ all_of spot_keys
    ▹ need (codes "size") triple_at

-- the reader of a copy between a buffer and a texture
unfoldable pub texel_copy_of : Data → Result TexelCopy ℕ
texel_copy_of d = read_by texel_copy_keys d

-- copyBufferToTexture
unfoldable pub copy_buffer_to_texture_of : Data → Result Call ℕ
copy_buffer_to_texture_of d = texel_copy_of d >>= λ c. Ok (recording c.on (CopyBufferToTexture c.buffer c.layout c.texture c.spot c.size))

-- copyTextureToBuffer
unfoldable pub copy_texture_to_buffer_of : Data → Result Call ℕ
copy_texture_to_buffer_of d = texel_copy_of d >>= λ c. Ok (recording c.on (CopyTextureToBuffer c.buffer c.layout c.texture c.spot c.size))

-- copyTextureToTexture
abbrev pub copy_texture_to_texture_keys : Reader Call
copy_texture_to_texture_keys = gives (λ on source source_mip source_origin target target_mip target_origin size. recording on (CopyTextureToTexture source source_mip source_origin target target_mip target_origin size))
    ▹ need (codes "on") name_at
    ▹ need (codes "source") name_at
    ▹ may (codes "sourceMip") (whole_or most_short 0)
    ▹ may (codes "sourceOrigin") triple_or_zero
    ▹ need (codes "target") name_at
    ▹ may (codes "targetMip") (whole_or most_short 0)
    ▹ may (codes "targetOrigin") triple_or_zero
    ▹ need (codes "size") triple_at

-- the reader of a copyTextureToTexture
unfoldable pub copy_texture_to_texture_of : Data → Result Call ℕ
copy_texture_to_texture_of d = read_by copy_texture_to_texture_keys d
