-- What formats are as those of targets takes few bytes, and a sum of bytes that is too great stays so.
use Rattle.std.proofs.Common.{◌≡◌, refl, sym, ap, ◌∙◌, ℕ, ◌<◌, ◌≤◌, nat_le, Bool, true, false, List, [], ◌∷◌, Option, Some, None, IfSome, if◌then◌else◌, arith}
use Rattle.std.proofs.lemmas.Bool.{leb-false, lt-leb}
use Rattle.wg_types.specs.Formats.{row}
use Rattle.wg_types.specs.declared.formats.Format.{Format}
use Rattle.wg_types.specs.declared.formats.Format.TheVariants.{R8Unorm, Rg8Unorm, Rgba8Unorm, Rgba8UnormSrgb, Bgra8Unorm, R32Uint, R32Float, Rgba16Float, Rgba32Float, Depth16Unorm, Depth24Plus, Depth24PlusStencil8, Depth32Float, Stencil8}
use Rattle.wg_types.specs.declared.formats.TargetRow.{TargetRow}
use Rattle.wg_model.specs.SampleBytes.{sample_end, bytes_with, bytes_after, bytes_per_sample, sample_fits}

-- each alignment is 1, 2 or 4, and no sample takes more than 16 bytes
pub rows_are_small : (format : Format) → IfSome (row format).target (λ (target : TargetRow). (0 < target.alignment) × (target.alignment ≤ 4) × (target.cost ≤ 16))
rows_are_small R8Unorm = (omega arith, omega arith, omega arith)
rows_are_small Rg8Unorm = (omega arith, omega arith, omega arith)
rows_are_small Rgba8Unorm = (omega arith, omega arith, omega arith)
rows_are_small Rgba8UnormSrgb = (omega arith, omega arith, omega arith)
rows_are_small Bgra8Unorm = (omega arith, omega arith, omega arith)
rows_are_small R32Uint = (omega arith, omega arith, omega arith)
rows_are_small R32Float = (omega arith, omega arith, omega arith)
rows_are_small Rgba16Float = (omega arith, omega arith, omega arith)
rows_are_small Rgba32Float = (omega arith, omega arith, omega arith)
rows_are_small Depth16Unorm = tt
rows_are_small Depth24Plus = tt
rows_are_small Depth24PlusStencil8 = tt
rows_are_small Depth32Float = tt
rows_are_small Stencil8 = tt

-- where a sample ends is not before where it begins
end_behind : (bytes : ℕ) (target : Option TargetRow) → bytes ≤ sample_end bytes target
end_behind bytes None = omega arith
end_behind bytes (Some target) = omega arith

with_behind : (bytes : ℕ) (format : Option Format) → bytes ≤ bytes_with bytes format
with_behind bytes None = omega arith
with_behind bytes (Some format) = end_behind bytes (row format).target

-- samples that follow end no sooner
pub after_behind : (bytes : ℕ) (formats : List (Option Format)) → bytes ≤ bytes_after bytes formats
after_behind bytes [] = omega arith
after_behind bytes (format ∷ formats) =
    let one : bytes ≤ bytes_with bytes format = with_behind bytes format in
    let more : bytes_with bytes format ≤ bytes_after (bytes_with bytes format) formats = after_behind (bytes_with bytes format) formats in
    omega (arith, one, more)

-- where there are more bytes than may be, there are with further formats
pub over_stays : (most bytes : ℕ) (formats : List (Option Format)) → nat_le bytes most ≡ false → nat_le (bytes_after bytes formats) most ≡ false
over_stays most bytes formats over =
    let more : most < bytes = leb-false bytes most over in
    let behind : bytes ≤ bytes_after bytes formats = after_behind bytes formats in
    lt-leb (bytes_after bytes formats) most (omega (arith, more, behind))

-- where a sample of one more format ends behind what may be, all of them do
pub stopped : (most bytes : ℕ) (given : Option ℕ) (all rest more : List (Option Format)) (shown format : Option Format) → given ≡ Some most → bytes_after bytes rest ≡ bytes_per_sample all
    → rest ≡ format ∷ more → shown ≡ format → None ≡ (if nat_le (bytes_with bytes shown) most then Some (bytes_with bytes shown) else None) → false ≡ sample_fits given all
stopped most bytes given all rest more shown format is same next known none =
    sym (ap (λ o. sample_fits o all) is
    ∙ (ap (λ n. nat_le n most) (sym same ∙ ap (bytes_after bytes) next)
    ∙ (ap (λ f. nat_le (bytes_after (bytes_with bytes f) more) most) (sym known)
    ∙ by_test (nat_le (bytes_with bytes shown) most) refl none))) where
      by_test : (b : Bool) → nat_le (bytes_with bytes shown) most ≡ b → None ≡ (if b then Some (bytes_with bytes shown) else None) → nat_le (bytes_after (bytes_with bytes shown) more) most ≡ false
      by_test true within e = absurd (cc)
      by_test false over e = over_stays most (bytes_with bytes shown) more over
