-- The words of samplers: of how they filter, compare, and address what lies outside of a texture (WebGPU, "GPUFilterMode",
-- "GPUCompareFunction" and "GPUAddressMode").
use Rattle.std.specs.Prelude.{ℕ, List, [], ◌∷◌, codes, ⊤}
use Rattle.wg_types.specs.declared.samplers.FilterMode.{FilterMode}
use Rattle.wg_types.specs.declared.samplers.FilterMode.TheVariants.{Nearest, Linear}
use Rattle.wg_types.specs.declared.samplers.Compare.{Compare}
use Rattle.wg_types.specs.declared.samplers.Compare.TheVariants.{Never, Less, Equal, LessEqual, Greater, NotEqual, GreaterEqual, Always}

-- the words of filters
abbrev pub filter_words : List (List ℕ × FilterMode)
filter_words = (codes "nearest", Nearest) ∷ (codes "linear", Linear) ∷ []

-- the words of comparisons
abbrev pub compare_words : List (List ℕ × Compare)
compare_words =
    (codes "never", Never) ∷ (codes "less", Less) ∷ (codes "equal", Equal) ∷ (codes "less-equal", LessEqual)
    ∷ (codes "greater", Greater) ∷ (codes "not-equal", NotEqual) ∷ (codes "greater-equal", GreaterEqual) ∷ (codes "always", Always) ∷ []

-- the words of how what lies outside of a texture is addressed: no rule goes by these, and they stand for nothing
abbrev pub address_words : List (List ℕ × ⊤)
address_words = (codes "clamp-to-edge", tt) ∷ (codes "repeat", tt) ∷ (codes "mirror-repeat", tt) ∷ []
