-- The words of bindings: of their kinds, of samplers, of what is sampled, of how storage textures are accessed, and of the
-- stages of a render pipeline.
use Rattle.std.specs.Prelude.{ℕ, List, [], ◌∷◌, codes}
use Rattle.wg_types.specs.declared.bindings.BufferBinding.TheVariants as buffer
use Rattle.wg_types.specs.declared.bindings.SamplerKind.{SamplerKind}
use Rattle.wg_types.specs.declared.bindings.SamplerKind.TheVariants as sampler
use Rattle.wg_types.specs.declared.bindings.StorageAccess.{StorageAccess}
use Rattle.wg_types.specs.declared.bindings.StorageAccess.TheVariants as access
use Rattle.wg_types.specs.declared.bindings.Stage.{Stage}
use Rattle.wg_types.specs.declared.bindings.Stage.TheVariants as stage
use Rattle.wg_types.specs.declared.formats.SampleType.{SampleType}
use Rattle.wg_types.specs.declared.formats.SampleType.TheVariants as sample
use Rattle.wg_script.specs.declared.binding_words.KindWord.{KindWord}
use Rattle.wg_script.specs.declared.binding_words.KindWord.TheVariants as kind

-- the words of what an entry holds
abbrev pub kind_words : List (List ℕ × KindWord)
kind_words =
    (codes "uniform", kind.Buffer buffer.Uniform) ∷ (codes "storage", kind.Buffer buffer.Storage)
    ∷ (codes "read-only-storage", kind.Buffer buffer.ReadOnlyStorage) ∷ (codes "sampler", kind.Sampler)
    ∷ (codes "texture", kind.Texture) ∷ (codes "storage-texture", kind.StorageTexture) ∷ []

-- the words of the kinds of samplers
abbrev pub sampler_words : List (List ℕ × SamplerKind)
sampler_words = (codes "filtering", sampler.Filtering) ∷ (codes "non-filtering", sampler.NonFiltering) ∷ (codes "comparison", sampler.Comparison) ∷ []

-- the words of the sample types
abbrev pub sample_words : List (List ℕ × SampleType)
sample_words =
    (codes "float", sample.Float) ∷ (codes "unfilterable-float", sample.UnfilterableFloat) ∷ (codes "depth", sample.Depth)
    ∷ (codes "sint", sample.Sint) ∷ (codes "uint", sample.Uint) ∷ []

-- the words of the accesses of storage textures
abbrev pub access_words : List (List ℕ × StorageAccess)
access_words = (codes "read-only", access.ReadOnly) ∷ (codes "write-only", access.WriteOnly) ∷ (codes "read-write", access.ReadWrite) ∷ []

-- the words of the stages of a render pipeline
abbrev pub stage_words : List (List ℕ × Stage)
stage_words = (codes "vertex", stage.Vertex) ∷ (codes "fragment", stage.Fragment) ∷ []
