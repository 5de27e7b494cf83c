-- Words of a line.
use Rattle.std.specs.Prelude.{ℕ, suc, ◌+◌, ◌*◌, ◌-◌, ◌&&◌, ◌||◌, ◌==◌, nat_lt, List, [], ◌∷◌, ◌++◌, length, take, drop, bytes_eq, Option, Some, None, if◌then◌else◌}
use Rattle.std.specs.Option.{option_and_then, option_map}
use Rattle.std.specs.List.{find}
use Rattle.wg_trace.specs.declared.parts.Aspect.{Aspect}
use Rattle.wg_trace.specs.declared.parts.Aspect.TheVariants.{Color, Depth, Stencil}
use Rattle.wg_trace.specs.declared.parts.AccessKind.{AccessKind}
use Rattle.wg_trace.specs.declared.parts.AccessKind.TheVariants.{Read, Write, Both, Drop, ReadDrop}
use Rattle.wg_trace.specs.declared.steps.StepName.{StepName}
use Rattle.wg_trace.specs.declared.steps.StepName.TheVariants.{Clear, WriteBuffer, WriteTexture, CopyBufferToBuffer, CopyBufferToTexture, CopyTextureToBuffer, CopyTextureToTexture, ClearBuffer, ResolveQuerySet, Dispatch, RenderPass, HostRead, HostWrite}
use Rattle.wg_trace.specs.declared.steps.Sort.{Sort}
use Rattle.wg_trace.specs.declared.steps.Sort.TheVariants.{Buffer, Texture, Queries}
use Rattle.wg_trace.specs.declared.usages.Usages.{Usages}
use Rattle.wg_trace.specs.StepNames.{step_name_text}
use Rattle.wg_print.specs.Items.{sort_text}
use Rattle.wg_print.specs.Parts.{aspect_text, access_kind_text}
use Rattle.wg_print.specs.UsageSets.{usage_words}

-- how many bytes stand before the first space
abbrev pub gap_len : List ℕ → ℕ
gap_len [] = 0
gap_len (b ∷ bs) = if b == 32 then 0 else suc (gap_len bs)

-- the word behind one space, and what stands behind it
abbrev pub field : List ℕ → Option (List ℕ × List ℕ)
field [] = None
field (b ∷ bs) = if b == 32 then Some (take (gap_len bs) bs, drop (gap_len bs) bs) else None

-- digits most n w: the number n with the digits w behind it, if it is no greater than most
abbrev pub digits : ℕ → ℕ → List ℕ → Option ℕ
digits most n [] = Some n
digits most n (b ∷ bs) = if nat_lt b 48 || nat_lt 57 b then None else (if nat_lt most (n * 10 + (b - 48)) then None else digits most (n * 10 + (b - 48)) bs)

-- a number in decimal digits, without leading zeros
abbrev pub number_word : ℕ → List ℕ → Option ℕ
number_word most [] = None
number_word most (b ∷ bs) = if (b == 48) && nat_lt 1 (length (b ∷ bs)) then None else digits most 0 (b ∷ bs)

-- the first of these that is printed as the word
abbrev pub printed_as : {A : Type 0} → (A → List ℕ) → List A → List ℕ → Option A
printed_as text xs w = find (λ x. bytes_eq w (text x)) xs

-- the aspect that a word names, if one
abbrev pub aspect_word : List ℕ → Option Aspect
aspect_word w = printed_as aspect_text (Color ∷ Depth ∷ Stencil ∷ []) w

-- the kind of access that a word names, if one
abbrev pub kind_word : List ℕ → Option AccessKind
kind_word w = printed_as access_kind_text (Read ∷ Write ∷ Both ∷ Drop ∷ ReadDrop ∷ []) w

-- the name of a step that a word is, if one
abbrev pub name_word : List ℕ → Option StepName
name_word w =
    printed_as step_name_text
    (Clear ∷ WriteBuffer ∷ WriteTexture ∷ CopyBufferToBuffer ∷ CopyBufferToTexture ∷ CopyTextureToBuffer ∷ CopyTextureToTexture
    ∷ ClearBuffer ∷ ResolveQuerySet ∷ Dispatch ∷ RenderPass ∷ HostRead ∷ HostWrite ∷ [])
    w

-- the sort of resource that a letter names, if one
abbrev pub sort_word : List ℕ → Option Sort
sort_word w = printed_as sort_text (Buffer ∷ Texture ∷ Queries ∷ []) w

-- the bit of the usage that the word names
abbrev pub usage_word : List ℕ → Option ℕ
usage_word w = option_map (λ row. row.0) (printed_as (λ row. row.1) usage_words w)

-- Usages stand in the order of their bits, so a further one has a higher bit than the set so far.
abbrev pub with_bit : ℕ → Option ℕ → Option ℕ
with_bit set None = None
with_bit set (Some bit) = if nat_lt set bit then Some (set + bit) else None

-- a set of usages with that which a word names, if it names one of a higher bit
abbrev pub with_usage : ℕ → List ℕ → Option ℕ
with_usage set piece = with_bit set (usage_word piece)

-- the set so far, the bytes of the usage that is being read, and what is left; a '+' (43) parts two usages
abbrev pub set_from : ℕ → List ℕ → List ℕ → Option ℕ
set_from set piece [] = with_usage set piece
set_from set piece (b ∷ bs) = if b == 43 then option_and_then (λ more. set_from more [] bs) (with_usage set piece) else set_from set (piece ++ b ∷ []) bs

-- the usages of some bits
abbrev pub usages : ℕ → Usages
usages bits = record { 0 = bits }

-- the set of usages that a word names, if it is one
abbrev pub set_word : List ℕ → Option Usages
set_word w = option_map usages (set_from 0 [] w)
