-- How many bytes a resource takes of the budget.
use Rattle.std.specs.Prelude.{ℕ, zero, suc, ◌+◌, ◌*◌}
use Rattle.wg_types.specs.declared.handles.Info.{Info}
use Rattle.wg_types.specs.declared.handles.Info.TheVariants.{Buffer, Texture, View, Sampler, GroupLayout, PipelineLayout, Group, Compute, Render, Queries, Encoder, BundleEncoder, CommandBuffer, Bundle}
use Rattle.wg_types.specs.declared.textures.TextureInfo.{TextureInfo}
use Rattle.wg_types.specs.Formats.{row}
use Rattle.wg_types.specs.Textures.{width, height, depth}
use Rattle.wg_model.specs.Commands.{query_bytes}
use Rattle.wg_model.specs.Textures.{extent}

-- the bytes of a mip level: its width, height and depth or layers, by samples, by the bytes of a texel of all aspects
abbrev pub level_bytes : TextureInfo → ℕ → ℕ
level_bytes info mip = width (extent info mip) * height (extent info mip) * depth (extent info mip) * info.samples * (row info.format).bytes

-- the bytes of the first mip levels of a texture
abbrev pub levels_bytes : TextureInfo → ℕ → ℕ
levels_bytes info zero = 0
levels_bytes info (suc mip) = levels_bytes info mip + level_bytes info mip

-- the bytes of all mip levels of a texture
unfoldable pub texture_bytes : TextureInfo → ℕ
texture_bytes info = levels_bytes info info.mips

-- the bytes of an object: of a buffer its size, of a texture those of all its mip levels, of a query set 8 for each query, and
-- of each other object 0
abbrev pub bytes_of : Info → ℕ
bytes_of (Buffer info) = info.size
bytes_of (Texture info) = texture_bytes info
bytes_of (View info) = 0
bytes_of (Sampler known) = 0
bytes_of (GroupLayout info) = 0
bytes_of (PipelineLayout info) = 0
bytes_of (Group info) = 0
bytes_of (Compute info) = 0
bytes_of (Render info) = 0
bytes_of (Queries info) = query_bytes * info.count
bytes_of Encoder = 0
bytes_of (BundleEncoder targets) = 0
bytes_of CommandBuffer = 0
bytes_of (Bundle info) = 0
