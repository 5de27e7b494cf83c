-- The laws of bytes per sample.
use Rattle.std.proofs.Common.{◌≡◌, refl, sym, subst, ℕ, ◌+◌, ◌*◌, ◌≤◌, Bool, true, false, List, [], ◌∷◌, ◌++◌, Option, Some, None, length, arith}
use Rattle.std.specs.Int.{next_multiple_of}
use Rattle.std.proofs.lemmas.Bool.{le-leb}
use Rattle.wg_types.specs.Formats.{row}
use Rattle.wg_types.specs.declared.formats.Format.{Format}
use Rattle.wg_types.specs.declared.formats.Format.TheVariants.{R8Unorm, Rg8Unorm, Rgba8Unorm, Rgba8UnormSrgb, Bgra8Unorm, R32Uint, R32Float, Rgba16Float, Rgba32Float, Depth16Unorm, Depth24Plus, Depth24PlusStencil8, Depth32Float, Stencil8}
use Rattle.wg_model.specs.SampleBytes.{bytes_with, bytes_after, bytes_per_sample}
use Rattle.wg_pipes.specs.SampleLaws.{target_row, BeginsAligned, Adds, BytesAreAdded, BytesGrow, cost_of, costs, BytesAreCosts, EightFit}

-- What one target adds, by its alignment.
one : (before cost : ℕ) (blends alpha : Bool) → BeginsAligned before (record { blends = blends; alpha = alpha; cost = cost; alignment = 1 }) (next_multiple_of before 1 + cost)
one before cost blends alpha = record { start = next_multiple_of before 1; behind = omega arith; aligned = omega arith; first = omega arith; ends = refl }

two : (before cost : ℕ) (blends alpha : Bool) → BeginsAligned before (record { blends = blends; alpha = alpha; cost = cost; alignment = 2 }) (next_multiple_of before 2 + cost)
two before cost blends alpha = record { start = next_multiple_of before 2; behind = omega arith; aligned = omega arith; first = omega arith; ends = refl }

four : (before cost : ℕ) (blends alpha : Bool) → BeginsAligned before (record { blends = blends; alpha = alpha; cost = cost; alignment = 4 }) (next_multiple_of before 4 + cost)
four before cost blends alpha = record { start = next_multiple_of before 4; behind = omega arith; aligned = omega arith; first = omega arith; ends = refl }

given_adds : (before : ℕ) (format : Format) → Adds before (row format).target (bytes_with before (Some format))
given_adds before R8Unorm = one before 1 true false
given_adds before Rg8Unorm = one before 2 true false
given_adds before Rgba8Unorm = one before 8 true true
given_adds before Rgba8UnormSrgb = one before 8 true true
given_adds before Bgra8Unorm = one before 8 true true
given_adds before R32Uint = four before 4 false false
given_adds before R32Float = four before 4 false false
given_adds before Rgba16Float = two before 8 true true
given_adds before Rgba32Float = four before 16 false true
given_adds before Depth16Unorm = refl
given_adds before Depth24Plus = refl
given_adds before Depth24PlusStencil8 = refl
given_adds before Depth32Float = refl
given_adds before Stencil8 = refl

adds : (before : ℕ) (format : Option Format) → Adds before (target_row format) (bytes_with before format)
adds before None = refl
adds before (Some format) = given_adds before format

-- Samples behind others.
after_joined : (bytes : ℕ) (formats more : List (Option Format)) → bytes_after bytes (formats ++ more) ≡ bytes_after (bytes_after bytes formats) more
after_joined bytes [] more = refl
after_joined bytes (format ∷ formats) more = after_joined (bytes_with bytes format) formats more

pub bytes_added : BytesAreAdded
bytes_added = (refl, λ formats format. subst (Adds (bytes_per_sample formats) (target_row format)) (sym (after_joined 0 formats (format ∷ []))) (adds (bytes_per_sample formats) format))

-- What a target takes at least and at most: its cost, and less than 4 bytes before it.
pub record Between (before cost after : ℕ) : Type 0 where
  pub least : before + cost ≤ after
  pub most : after ≤ before + cost + 3

given_between : (before : ℕ) (format : Format) → Between before (cost_of (row format).target) (bytes_with before (Some format))
given_between before R8Unorm = record { least = omega arith; most = omega arith }
given_between before Rg8Unorm = record { least = omega arith; most = omega arith }
given_between before Rgba8Unorm = record { least = omega arith; most = omega arith }
given_between before Rgba8UnormSrgb = record { least = omega arith; most = omega arith }
given_between before Bgra8Unorm = record { least = omega arith; most = omega arith }
given_between before R32Uint = record { least = omega arith; most = omega arith }
given_between before R32Float = record { least = omega arith; most = omega arith }
given_between before Rgba16Float = record { least = omega arith; most = omega arith }
given_between before Rgba32Float = record { least = omega arith; most = omega arith }
given_between before Depth16Unorm = record { least = omega arith; most = omega arith }
given_between before Depth24Plus = record { least = omega arith; most = omega arith }
given_between before Depth24PlusStencil8 = record { least = omega arith; most = omega arith }
given_between before Depth32Float = record { least = omega arith; most = omega arith }
given_between before Stencil8 = record { least = omega arith; most = omega arith }

between : (before : ℕ) (format : Option Format) → Between before (cost_of (target_row format)) (bytes_with before format)
between before None = record { least = omega arith; most = omega arith }
between before (Some format) = given_between before format

least_after : (bytes : ℕ) (formats : List (Option Format)) → bytes + costs formats ≤ bytes_after bytes formats
least_after bytes [] = omega arith
least_after bytes (format ∷ formats) =
    let here = between bytes format in
    let least = here.least in
    let rest = least_after (bytes_with bytes format) formats in
    omega (arith, least, rest)

most_after : (bytes : ℕ) (formats : List (Option Format)) → bytes_after bytes formats ≤ bytes + costs formats + 3 * length formats
most_after bytes [] = omega arith
most_after bytes (format ∷ formats) =
    let here = between bytes format in
    let most = here.most in
    let rest = most_after (bytes_with bytes format) formats in
    omega (arith, most, rest)

pub bytes_grow : BytesGrow
bytes_grow formats more =
    let rest = least_after (bytes_per_sample formats) more in
    rw (after_joined 0 formats more) (omega (arith, rest))

pub bytes_cost : BytesAreCosts
bytes_cost formats =
    let least = least_after 0 formats in
    let most = most_after 0 formats in
    (omega (arith, least), omega (arith, most))

-- A target takes at most 16 bytes behind a multiple of 16 that is not exceeded.
given_sixteen : (before n : ℕ) (format : Format) → before ≤ 16 * n → bytes_with before (Some format) ≤ 16 * (n + 1)
given_sixteen before n R8Unorm within = omega arith
given_sixteen before n Rg8Unorm within = omega arith
given_sixteen before n Rgba8Unorm within = omega arith
given_sixteen before n Rgba8UnormSrgb within = omega arith
given_sixteen before n Bgra8Unorm within = omega arith
given_sixteen before n R32Uint within = omega arith
given_sixteen before n R32Float within = omega arith
given_sixteen before n Rgba16Float within = omega arith
given_sixteen before n Rgba32Float within = omega arith
given_sixteen before n Depth16Unorm within = omega arith
given_sixteen before n Depth24Plus within = omega arith
given_sixteen before n Depth24PlusStencil8 within = omega arith
given_sixteen before n Depth32Float within = omega arith
given_sixteen before n Stencil8 within = omega arith

sixteen : (before n : ℕ) (format : Option Format) → before ≤ 16 * n → bytes_with before format ≤ 16 * (n + 1)
sixteen before n None within = omega arith
sixteen before n (Some format) within = given_sixteen before n format within

sixteen_after : (bytes n : ℕ) (formats : List (Option Format)) → bytes ≤ 16 * n → bytes_after bytes formats ≤ 16 * (n + length formats)
sixteen_after bytes n [] within = omega arith
sixteen_after bytes n (format ∷ formats) within =
    let rest = sixteen_after (bytes_with bytes format) (n + 1) formats (sixteen bytes n format within) in
    omega (arith, rest)

pub eight_fit : EightFit
eight_fit formats =
    let most = sixteen_after 0 0 formats (omega arith) in
    (omega (arith, most), λ few. le-leb (bytes_per_sample formats) 128 (omega (arith, most, few)))
