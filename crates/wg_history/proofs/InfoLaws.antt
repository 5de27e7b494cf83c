-- The tests of buffers, query sets, textures and views tell whether they are equal.
use Rattle.std.proofs.Common.{◌≡◌, ℕ, ◌==◌, Bool, ◌&&◌, List, refl, ap, ◌∙◌, if◌then◌else◌, bytes_eq}
use Rattle.std.specs.Prelude.{Decides}
use Rattle.std.proofs.lemmas.Bool.Decides.{Decides-and, Decides-like}
use Rattle.std.proofs.lemmas.Slice.Eq.{bytes_eq-Decides}
use Rattle.wg_types.specs.Formats.{same_format}
use Rattle.wg_types.specs.Textures.{texture_dim_number, view_dim_number, aspect_word_number, same_texture, same_view}
use Rattle.wg_types.specs.declared.formats.Format.{Format}
use Rattle.wg_types.specs.declared.textures.TextureDim.{TextureDim}
use Rattle.wg_types.specs.declared.textures.TextureDim.TheVariants as texture_dim
use Rattle.wg_types.specs.declared.textures.ViewDim.{ViewDim}
use Rattle.wg_types.specs.declared.textures.AspectWord.{AspectWord}
use Rattle.wg_types.specs.declared.textures.AspectWord.TheVariants.{All, DepthOnly, StencilOnly}
use Rattle.wg_types.specs.declared.textures.TextureInfo.{TextureInfo}
use Rattle.wg_types.specs.declared.textures.ViewInfo.{ViewInfo}
use Rattle.wg_types.specs.declared.handles.ObjRef.{ObjRef}
use Rattle.wg_types.specs.declared.handles.BufferInfo.{BufferInfo}
use Rattle.wg_types.specs.declared.handles.QueriesInfo.{QueriesInfo}
use Rattle.wg_model.specs.Equality.{same_bool, same_reference, same_buffer}
use Rattle.wg_formats.proofs.BindingKinds.{numbers_tell, words_tell, bools_tell, formats_tell, view_dims_tell}
use Rattle.wg_history.specs.Infos.{same_queries}

-- Words.
abbrev texture_dim_at : ℕ → TextureDim
texture_dim_at n = if n == 0 then texture_dim.One else if n == 1 then texture_dim.Two else texture_dim.Three

texture_dim_back : (d : TextureDim) → texture_dim_at (texture_dim_number d) ≡ d
texture_dim_back texture_dim.One = refl
texture_dim_back texture_dim.Two = refl
texture_dim_back texture_dim.Three = refl

abbrev aspect_word_at : ℕ → AspectWord
aspect_word_at n = if n == 0 then All else if n == 1 then DepthOnly else StencilOnly

aspect_word_back : (w : AspectWord) → aspect_word_at (aspect_word_number w) ≡ w
aspect_word_back All = refl
aspect_word_back DepthOnly = refl
aspect_word_back StencilOnly = refl

-- Buffers.
abbrev buffer_made : ℕ → ℕ → Bool → BufferInfo
buffer_made size usage mapped = record { size = size; usage = usage; mapped = mapped }

buffer_like : (a b : BufferInfo) → ((a.size ≡ b.size) × (a.usage ≡ b.usage)) × (a.mapped ≡ b.mapped) → a ≡ b
buffer_like a b h =
    ap (λ x. buffer_made x a.usage a.mapped) h.0.0
    ∙ (ap (λ x. buffer_made b.size x a.mapped) h.0.1
    ∙ ap (λ x. buffer_made b.size b.usage x) h.1)

pub buffers_tell : (a b : BufferInfo) → Decides (same_buffer a b) (a ≡ b)
buffers_tell a b =
    Decides-like (same_buffer a b) (buffer_like a b) (λ e. ((ap (λ x. x.size) e, ap (λ x. x.usage) e), ap (λ x. x.mapped) e))
    (Decides-and (a.size == b.size && a.usage == b.usage) (same_bool a.mapped b.mapped)
    (Decides-and (a.size == b.size) (a.usage == b.usage) (numbers_tell a.size b.size) (numbers_tell a.usage b.usage))
    (bools_tell a.mapped b.mapped))

-- Query sets.
abbrev queries_made : ℕ → QueriesInfo
queries_made count = record { count = count }

pub queries_tell : (a b : QueriesInfo) → Decides (same_queries a b) (a ≡ b)
queries_tell a b = Decides-like (a.count == b.count) (λ e. ap queries_made e) (λ e. ap (λ (x : QueriesInfo). x.count) e) (numbers_tell a.count b.count)

-- Textures.
abbrev texture_made : List ℕ → ℕ → Format → TextureDim → ℕ → ℕ → TextureInfo
texture_made size usage format dim mips samples = record { size = size; usage = usage; format = format; dim = dim; mips = mips; samples = samples }

abbrev TextureParts : TextureInfo → TextureInfo → Type 0
TextureParts a b = (((((a.size ≡ b.size) × (a.usage ≡ b.usage)) × (a.format ≡ b.format)) × (a.dim ≡ b.dim)) × (a.mips ≡ b.mips)) × (a.samples ≡ b.samples)

texture_like : (a b : TextureInfo) → TextureParts a b → a ≡ b
texture_like a b h =
    ap (λ x. texture_made x a.usage a.format a.dim a.mips a.samples) h.0.0.0.0.0
    ∙ (ap (λ x. texture_made b.size x a.format a.dim a.mips a.samples) h.0.0.0.0.1
    ∙ (ap (λ x. texture_made b.size b.usage x a.dim a.mips a.samples) h.0.0.0.1
    ∙ (ap (λ x. texture_made b.size b.usage b.format x a.mips a.samples) h.0.0.1
    ∙ (ap (λ x. texture_made b.size b.usage b.format b.dim x a.samples) h.0.1
    ∙ ap (λ x. texture_made b.size b.usage b.format b.dim b.mips x) h.1))))

texture_parts : (a b : TextureInfo) → a ≡ b → TextureParts a b
texture_parts a b e = (((((ap (λ x. x.size) e, ap (λ x. x.usage) e), ap (λ x. x.format) e), ap (λ x. x.dim) e), ap (λ x. x.mips) e), ap (λ x. x.samples) e)

pub textures_tell : (a b : TextureInfo) → Decides (same_texture a b) (a ≡ b)
textures_tell a b =
    Decides-like (same_texture a b) (texture_like a b) (texture_parts a b)
    (Decides-and _ (a.samples == b.samples)
    (Decides-and _ (a.mips == b.mips)
    (Decides-and _ (texture_dim_number a.dim == texture_dim_number b.dim)
    (Decides-and _ (same_format a.format b.format)
    (Decides-and (bytes_eq a.size b.size) (a.usage == b.usage) (bytes_eq-Decides a.size b.size) (numbers_tell a.usage b.usage))
    (formats_tell a.format b.format))
    (words_tell texture_dim_number texture_dim_at texture_dim_back a.dim b.dim))
    (numbers_tell a.mips b.mips))
    (numbers_tell a.samples b.samples))

-- Views.
abbrev reference_made : ℕ → ℕ → ObjRef
reference_made device number = record { device = device; number = number }

reference_like : (a b : ObjRef) → (a.device ≡ b.device) × (a.number ≡ b.number) → a ≡ b
reference_like a b h = ap (λ x. reference_made x a.number) h.0 ∙ ap (λ x. reference_made b.device x) h.1

pub references_tell : (a b : ObjRef) → Decides (same_reference a b) (a ≡ b)
references_tell a b =
    Decides-like (a.device == b.device && a.number == b.number) (reference_like a b) (λ e. (ap (λ x. x.device) e, ap (λ x. x.number) e))
    (Decides-and (a.device == b.device) (a.number == b.number) (numbers_tell a.device b.device) (numbers_tell a.number b.number))

abbrev view_made : ObjRef → TextureInfo → ViewDim → AspectWord → ℕ → ℕ → ℕ → ℕ → ViewInfo
view_made texture texture_info dim aspect base_mip mips base_layer layers = record { texture = texture; texture_info = texture_info; dim = dim; aspect = aspect; base_mip = base_mip; mips = mips; base_layer = base_layer; layers = layers }

abbrev ViewParts : ViewInfo → ViewInfo → Type 0
ViewParts a b = (((((((a.texture ≡ b.texture) × (a.texture_info ≡ b.texture_info)) × (a.dim ≡ b.dim)) × (a.aspect ≡ b.aspect)) × (a.base_mip ≡ b.base_mip)) × (a.mips ≡ b.mips)) × (a.base_layer ≡ b.base_layer)) × (a.layers ≡ b.layers)

view_like : (a b : ViewInfo) → ViewParts a b → a ≡ b
view_like a b h =
    ap (λ x. view_made x a.texture_info a.dim a.aspect a.base_mip a.mips a.base_layer a.layers) h.0.0.0.0.0.0.0
    ∙ (ap (λ x. view_made b.texture x a.dim a.aspect a.base_mip a.mips a.base_layer a.layers) h.0.0.0.0.0.0.1
    ∙ (ap (λ x. view_made b.texture b.texture_info x a.aspect a.base_mip a.mips a.base_layer a.layers) h.0.0.0.0.0.1
    ∙ (ap (λ x. view_made b.texture b.texture_info b.dim x a.base_mip a.mips a.base_layer a.layers) h.0.0.0.0.1
    ∙ (ap (λ x. view_made b.texture b.texture_info b.dim b.aspect x a.mips a.base_layer a.layers) h.0.0.0.1
    ∙ (ap (λ x. view_made b.texture b.texture_info b.dim b.aspect b.base_mip x a.base_layer a.layers) h.0.0.1
    ∙ (ap (λ x. view_made b.texture b.texture_info b.dim b.aspect b.base_mip b.mips x a.layers) h.0.1
    ∙ ap (λ x. view_made b.texture b.texture_info b.dim b.aspect b.base_mip b.mips b.base_layer x) h.1))))))

view_parts : (a b : ViewInfo) → a ≡ b → ViewParts a b
view_parts a b e = (((((((ap (λ x. x.texture) e, ap (λ x. x.texture_info) e), ap (λ x. x.dim) e), ap (λ x. x.aspect) e), ap (λ x. x.base_mip) e), ap (λ x. x.mips) e), ap (λ x. x.base_layer) e), ap (λ x. x.layers) e)

pub views_tell : (a b : ViewInfo) → Decides (same_view a b) (a ≡ b)
views_tell a b =
    Decides-like (same_view a b) (view_like a b) (view_parts a b)
    (Decides-and _ (a.layers == b.layers)
    (Decides-and _ (a.base_layer == b.base_layer)
    (Decides-and _ (a.mips == b.mips)
    (Decides-and _ (a.base_mip == b.base_mip)
    (Decides-and _ (aspect_word_number a.aspect == aspect_word_number b.aspect)
    (Decides-and _ (view_dim_number a.dim == view_dim_number b.dim)
    (Decides-and (a.texture.device == b.texture.device && a.texture.number == b.texture.number) (same_texture a.texture_info b.texture_info) (references_tell a.texture b.texture) (textures_tell a.texture_info b.texture_info))
    (view_dims_tell a.dim b.dim))
    (words_tell aspect_word_number aspect_word_at aspect_word_back a.aspect b.aspect))
    (numbers_tell a.base_mip b.base_mip))
    (numbers_tell a.mips b.mips))
    (numbers_tell a.base_layer b.base_layer))
    (numbers_tell a.layers b.layers))
