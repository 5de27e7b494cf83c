-- The test of kinds of bindings tells whether they are equal.
use Rattle.std.proofs.Common.{◌≡◌, ℕ, ◌==◌, Bool, true, false, refl, sym, ap, ap₂, ◌∙◌, eqb-true, eq-eqb, if◌then◌else◌}
use Rattle.std.specs.Prelude.{Decides}
use Rattle.std.proofs.lemmas.Bool.Decides.{Decides-and, Decides-like}
use Rattle.wg_types.specs.Formats.{format_number, same_format}
use Rattle.wg_types.specs.Textures.{view_dim_number}
use Rattle.wg_types.specs.declared.formats.Format.{Format}
use Rattle.wg_types.specs.declared.formats.Format.TheVariants.{R8Unorm, Rg8Unorm, Rgba8Unorm, Rgba8UnormSrgb, Bgra8Unorm, R32Uint, R32Float, Rgba16Float, Rgba32Float, Depth16Unorm, Depth24Plus, Depth24PlusStencil8, Depth32Float, Stencil8}
use Rattle.wg_types.specs.declared.formats.SampleType.{SampleType}
use Rattle.wg_types.specs.declared.formats.SampleType.TheVariants as sample_type
use Rattle.wg_types.specs.declared.textures.ViewDim.{ViewDim}
use Rattle.wg_types.specs.declared.textures.ViewDim.TheVariants as view_dim
use Rattle.wg_types.specs.declared.bindings.BufferBinding.{BufferBinding}
use Rattle.wg_types.specs.declared.bindings.BufferBinding.TheVariants.{Uniform, Storage, ReadOnlyStorage}
use Rattle.wg_types.specs.declared.bindings.SamplerKind.{SamplerKind}
use Rattle.wg_types.specs.declared.bindings.SamplerKind.TheVariants.{Filtering, NonFiltering, Comparison}
use Rattle.wg_types.specs.declared.bindings.StorageAccess.{StorageAccess}
use Rattle.wg_types.specs.declared.bindings.StorageAccess.TheVariants.{ReadOnly, WriteOnly, ReadWrite}
use Rattle.wg_types.specs.declared.bindings.BindingKind.{BindingKind}
use Rattle.wg_types.specs.declared.bindings.BindingKind.TheVariants as binding
use Rattle.wg_model.specs.Equality.{same_bool, sample_number, buffer_binding_number, sampler_number, access_number, same_view_dim, same_sample, same_buffer_binding, same_sampler, same_access, same_binding_kind}

-- Numbers, words by their numbers, and truths.
pub numbers_tell : (a b : ℕ) → Decides (a == b) (a ≡ b)
numbers_tell a b = (eqb-true a b, eq-eqb a b)

pub words_tell : {X : Type 0} (number : X → ℕ) (back : ℕ → X) → ((x : X) → back (number x) ≡ x) → (a b : X) → Decides (number a == number b) (a ≡ b)
words_tell number back is a b = (λ e. sym (is a) ∙ (ap back (eqb-true (number a) (number b) e) ∙ is b), λ e. eq-eqb (number a) (number b) (ap number e))

pub bools_tell : (a b : Bool) → Decides (same_bool a b) (a ≡ b)
bools_tell true true = (λ e. refl, λ e. refl)
bools_tell true false = (λ e. absurd (cc), λ e. absurd (cc))
bools_tell false true = (λ e. absurd (cc), λ e. absurd (cc))
bools_tell false false = (λ e. refl, λ e. refl)

-- Constructors and records of some parts.
pub like_two : {A B X : Type 0} (f : A → B → X) (a c : A) (b d : B) → (a ≡ c) × (b ≡ d) → f a b ≡ f c d
like_two f a c b d h = ap₂ f h.0 h.1

pub like_three : {A B C X : Type 0} (f : A → B → C → X) (a p : A) (b q : B) (c r : C) → ((a ≡ p) × (b ≡ q)) × (c ≡ r) → f a b c ≡ f p q r
like_three f a p b q c r h = ap (λ x. f x b c) h.0.0 ∙ (ap (λ x. f p x c) h.0.1 ∙ ap (λ x. f p q x) h.1)

pub like_four : {A B C D X : Type 0} (f : A → B → C → D → X) (a p : A) (b q : B) (c r : C) (d s : D) → (((a ≡ p) × (b ≡ q)) × (c ≡ r)) × (d ≡ s) → f a b c d ≡ f p q r s
like_four f a p b q c r d s h = ap (λ x. f x b c d) h.0.0.0 ∙ (ap (λ x. f p x c d) h.0.0.1 ∙ (ap (λ x. f p q x d) h.0.1 ∙ ap (λ x. f p q r x) h.1))

pub like_five : {A B C D E X : Type 0} (f : A → B → C → D → E → X) (a p : A) (b q : B) (c r : C) (d s : D) (e t : E) → ((((a ≡ p) × (b ≡ q)) × (c ≡ r)) × (d ≡ s)) × (e ≡ t) → f a b c d e ≡ f p q r s t
like_five f a p b q c r d s e t h = like_four (λ a b c d. f a b c d e) a p b q c r d s h.0 ∙ ap (λ x. f p q r s x) h.1

-- Words.
abbrev format_at : ℕ → Format
format_at n = if n == 0 then R8Unorm else if n == 1 then Rg8Unorm else if n == 2 then Rgba8Unorm else if n == 3 then Rgba8UnormSrgb else if n == 4 then Bgra8Unorm else if n == 5 then R32Uint else if n == 6 then R32Float else if n == 7 then Rgba16Float else if n == 8 then Rgba32Float else if n == 9 then Depth16Unorm else if n == 10 then Depth24Plus else if n == 11 then Depth24PlusStencil8 else if n == 12 then Depth32Float else Stencil8

format_back : (f : Format) → format_at (format_number f) ≡ f
format_back R8Unorm = refl
format_back Rg8Unorm = refl
format_back Rgba8Unorm = refl
format_back Rgba8UnormSrgb = refl
format_back Bgra8Unorm = refl
format_back R32Uint = refl
format_back R32Float = refl
format_back Rgba16Float = refl
format_back Rgba32Float = refl
format_back Depth16Unorm = refl
format_back Depth24Plus = refl
format_back Depth24PlusStencil8 = refl
format_back Depth32Float = refl
format_back Stencil8 = refl

pub formats_tell : (a b : Format) → Decides (same_format a b) (a ≡ b)
formats_tell a b = words_tell format_number format_at format_back a b

abbrev view_dim_at : ℕ → ViewDim
view_dim_at n = if n == 0 then view_dim.One else if n == 1 then view_dim.Two else if n == 2 then view_dim.TwoArray else if n == 3 then view_dim.Cube else if n == 4 then view_dim.CubeArray else view_dim.Three

view_dim_back : (d : ViewDim) → view_dim_at (view_dim_number d) ≡ d
view_dim_back view_dim.One = refl
view_dim_back view_dim.Two = refl
view_dim_back view_dim.TwoArray = refl
view_dim_back view_dim.Cube = refl
view_dim_back view_dim.CubeArray = refl
view_dim_back view_dim.Three = refl

pub view_dims_tell : (a b : ViewDim) → Decides (view_dim_number a == view_dim_number b) (a ≡ b)
view_dims_tell a b = words_tell view_dim_number view_dim_at view_dim_back a b

abbrev sample_at : ℕ → SampleType
sample_at n = if n == 0 then sample_type.Float else if n == 1 then sample_type.UnfilterableFloat else if n == 2 then sample_type.Depth else if n == 3 then sample_type.Sint else sample_type.Uint

sample_back : (s : SampleType) → sample_at (sample_number s) ≡ s
sample_back sample_type.Float = refl
sample_back sample_type.UnfilterableFloat = refl
sample_back sample_type.Depth = refl
sample_back sample_type.Sint = refl
sample_back sample_type.Uint = refl

samples_tell : (a b : SampleType) → Decides (same_sample a b) (a ≡ b)
samples_tell a b = words_tell sample_number sample_at sample_back a b

abbrev buffer_binding_at : ℕ → BufferBinding
buffer_binding_at n = if n == 0 then Uniform else if n == 1 then Storage else ReadOnlyStorage

buffer_binding_back : (b : BufferBinding) → buffer_binding_at (buffer_binding_number b) ≡ b
buffer_binding_back Uniform = refl
buffer_binding_back Storage = refl
buffer_binding_back ReadOnlyStorage = refl

buffer_bindings_tell : (a b : BufferBinding) → Decides (same_buffer_binding a b) (a ≡ b)
buffer_bindings_tell a b = words_tell buffer_binding_number buffer_binding_at buffer_binding_back a b

abbrev sampler_at : ℕ → SamplerKind
sampler_at n = if n == 0 then Filtering else if n == 1 then NonFiltering else Comparison

sampler_back : (k : SamplerKind) → sampler_at (sampler_number k) ≡ k
sampler_back Filtering = refl
sampler_back NonFiltering = refl
sampler_back Comparison = refl

pub samplers_tell : (a b : SamplerKind) → Decides (same_sampler a b) (a ≡ b)
samplers_tell a b = words_tell sampler_number sampler_at sampler_back a b

abbrev access_at : ℕ → StorageAccess
access_at n = if n == 0 then ReadOnly else if n == 1 then WriteOnly else ReadWrite

access_back : (a : StorageAccess) → access_at (access_number a) ≡ a
access_back ReadOnly = refl
access_back WriteOnly = refl
access_back ReadWrite = refl

accesses_tell : (a b : StorageAccess) → Decides (same_access a b) (a ≡ b)
accesses_tell a b = words_tell access_number access_at access_back a b

-- Kinds of bindings.
pub binding_kinds_tell : (a b : BindingKind) → Decides (same_binding_kind a b) (a ≡ b)
binding_kinds_tell (binding.Buffer a moves_a least_a) (binding.Buffer b moves_b least_b) =
    Decides-like _ (like_three binding.Buffer a b moves_a moves_b least_a least_b) (λ e. ((cc, cc), cc))
    (Decides-and _ (least_a == least_b) (Decides-and (same_buffer_binding a b) (same_bool moves_a moves_b) (buffer_bindings_tell a b) (bools_tell moves_a moves_b)) (numbers_tell least_a least_b))
binding_kinds_tell (binding.Sampler a) (binding.Sampler b) = let d = samplers_tell a b in (λ e. ap binding.Sampler (d.0 e), λ e. d.1 (cc))
binding_kinds_tell (binding.Texture a dim_a multi_a) (binding.Texture b dim_b multi_b) =
    Decides-like _ (like_three binding.Texture a b dim_a dim_b multi_a multi_b) (λ e. ((cc, cc), cc))
    (Decides-and _ (same_bool multi_a multi_b) (Decides-and (same_sample a b) (same_view_dim dim_a dim_b) (samples_tell a b) (view_dims_tell dim_a dim_b)) (bools_tell multi_a multi_b))
binding_kinds_tell (binding.StorageTexture a format_a dim_a) (binding.StorageTexture b format_b dim_b) =
    Decides-like _ (like_three binding.StorageTexture a b format_a format_b dim_a dim_b) (λ e. ((cc, cc), cc))
    (Decides-and _ (same_view_dim dim_a dim_b) (Decides-and (same_access a b) (same_format format_a format_b) (accesses_tell a b) (formats_tell format_a format_b)) (view_dims_tell dim_a dim_b))
binding_kinds_tell _ _ = (λ e. absurd (cc), λ e. absurd (cc))
