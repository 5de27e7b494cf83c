-- How many bytes a sample of all color attachments takes (WebGPU, "Calculating color attachment bytes per sample").
use Rattle.std.specs.Prelude.{ℕ, ◌+◌, nat_le, Bool, true, List, [], ◌∷◌, Option, Some, None}
use Rattle.std.specs.Int.{next_multiple_of}
use Rattle.wg_types.specs.Formats.{row}
use Rattle.wg_types.specs.declared.formats.Format.{Format}
use Rattle.wg_types.specs.declared.formats.TargetRow.{TargetRow}

-- where a sample ends that begins behind so many bytes: it begins at the next multiple of its alignment, and takes its cost; what
-- is no color format takes nothing
abbrev pub sample_end : ℕ → Option TargetRow → ℕ
sample_end bytes None = bytes
sample_end bytes (Some target) = next_multiple_of bytes target.alignment + target.cost

-- where a sample of a format ends that begins behind so many bytes; a format that is left out takes nothing
abbrev pub bytes_with : ℕ → Option Format → ℕ
bytes_with bytes None = bytes
bytes_with bytes (Some format) = sample_end bytes (row format).target

-- where samples of some formats end, one behind the other, the first of which begins behind so many bytes
abbrev pub bytes_after : ℕ → List (Option Format) → ℕ
bytes_after bytes [] = bytes
bytes_after bytes (format ∷ formats) = bytes_after (bytes_with bytes format) formats

-- the bytes that a sample of all of some color targets takes, in their order
abbrev pub bytes_per_sample : List (Option Format) → ℕ
bytes_per_sample formats = bytes_after 0 formats

-- whether a sample of all targets takes at most so many bytes, where a limit is given
abbrev pub sample_fits : Option ℕ → List (Option Format) → Bool
sample_fits None formats = true
sample_fits (Some most) formats = nat_le (bytes_per_sample formats) most
