-- The laws of bytes per sample.
use Rattle.std.specs.Prelude.{◌≡◌, ℕ, ◌+◌, ◌*◌, ◌%◌, ◌<◌, ◌≤◌, true, List, [], ◌∷◌, ◌++◌, Option, Some, None, length}
use Rattle.wg_types.specs.Formats.{row}
use Rattle.wg_types.specs.declared.formats.Format.{Format}
use Rattle.wg_types.specs.declared.formats.TargetRow.{TargetRow}
use Rattle.wg_model.specs.SampleBytes.{bytes_per_sample, sample_fits}

-- what a format is as that of a target, if it is a color format and not left out
abbrev pub target_row : Option Format → Option TargetRow
target_row None = None
target_row (Some format) = (row format).target

-- The sample of a target begins at the first multiple of its alignment that is not before the end of those before it, and takes
-- its cost from there on.
pub record BeginsAligned (before : ℕ) (target : TargetRow) (after : ℕ) : Type 0 where
  pub start : ℕ
  pub behind : before ≤ start
  pub aligned : start % target.alignment ≡ 0
  pub first : start < before + target.alignment
  pub ends : after ≡ start + target.cost

-- What a target adds: nothing where it is left out, or has no color format.
abbrev pub Adds : ℕ → Option TargetRow → ℕ → Type 0
Adds before None after = after ≡ before
Adds before (Some target) after = BeginsAligned before target after

-- Each target in turn adds what it takes, aligned, to the bytes of those before it, which are 0 for none.
abbrev pub BytesAreAdded : Type 0
BytesAreAdded = (bytes_per_sample [] ≡ 0) × ((formats : List (Option Format)) (format : Option Format) → Adds (bytes_per_sample formats) (target_row format) (bytes_per_sample (formats ++ format ∷ [])))

-- With more targets a sample takes no fewer bytes.
abbrev pub BytesGrow : Type 0
BytesGrow = (formats more : List (Option Format)) → bytes_per_sample formats ≤ bytes_per_sample (formats ++ more)

-- the bytes of a target without those that align it
abbrev pub cost_of : Option TargetRow → ℕ
cost_of None = 0
cost_of (Some target) = target.cost

-- the bytes of some targets without those that align them
abbrev pub costs : List (Option Format) → ℕ
costs [] = 0
costs (format ∷ formats) = cost_of (target_row format) + costs formats

-- A sample takes at least what its targets cost, and at most 3 bytes more for each of them, which align it.
abbrev pub BytesAreCosts : Type 0
BytesAreCosts = (formats : List (Option Format)) → (costs formats ≤ bytes_per_sample formats) × (bytes_per_sample formats ≤ costs formats + 3 * length formats)

-- A sample takes at most 16 bytes for each of its targets, what aligns it included, so that 8 targets fit the greatest limit.
abbrev pub EightFit : Type 0
EightFit = (formats : List (Option Format)) → (bytes_per_sample formats ≤ 16 * length formats) × (length formats ≤ 8 → sample_fits (Some 128) formats ≡ true)
