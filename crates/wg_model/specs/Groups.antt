-- What bind groups bind, and their rules (WebGPU, "Bind Group Creation").
use Rattle.std.specs.Prelude.{ℕ, ◌+◌, ◌%◌, Bool, true, false, not, ◌&&◌, ◌||◌, ◌==◌, nat_lt, nat_le, count_by, List, [], ◌∷◌, Option, is_some, option_and_then, if◌then◌else◌}
use Rattle.std.specs.List.{list_all}
use Rattle.std.specs.Option.{option_map_or}
use Rattle.wg_rules.specs.declared.TheConstants.{ENTRIES_MATCH_LAYOUT, ENTRY_RESOURCES_FIT_LAYOUT, BOUND_BUFFER_USAGE_FITS, BOUND_RANGES_FIT_BUFFERS, BOUND_SIZES_ARE_WITHIN_LIMITS, BOUND_TEXTURE_VIEWS_FIT, BOUND_STORAGE_VIEWS_FIT, BOUND_SAMPLERS_FIT}
use Rattle.wg_types.specs.Formats.{row, sampled_as, same_format}
use Rattle.wg_types.specs.Bindings.{entry_of}
use Rattle.wg_types.specs.declared.limits.Limits.{Limits}
use Rattle.wg_types.specs.declared.textures.ViewInfo.{ViewInfo}
use Rattle.wg_types.specs.declared.formats.SampleType.{SampleType}
use Rattle.wg_types.specs.declared.formats.SampleType.TheVariants.{Float, UnfilterableFloat, Depth, Sint, Uint}
use Rattle.wg_types.specs.declared.bindings.BufferBinding.{BufferBinding}
use Rattle.wg_types.specs.declared.bindings.BufferBinding.TheVariants.{Uniform, Storage, ReadOnlyStorage}
use Rattle.wg_types.specs.declared.bindings.SamplerKind.{SamplerKind}
use Rattle.wg_types.specs.declared.bindings.SamplerKind.TheVariants.{Filtering, NonFiltering, Comparison}
use Rattle.wg_types.specs.declared.bindings.BindingKind.{BindingKind}
use Rattle.wg_types.specs.declared.bindings.BindingKind.TheVariants.{Buffer, Sampler, Texture, StorageTexture}
use Rattle.wg_types.specs.declared.bindings.LayoutEntry.{LayoutEntry}
use Rattle.wg_types.specs.declared.bindings.BoundResource.{BoundResource}
use Rattle.wg_types.specs.declared.bindings.BoundResource.TheVariants.{Buffer as BoundBuffer, View as BoundView, Sampler as BoundSampler}
use Rattle.wg_types.specs.declared.bindings.BoundEntry.{BoundEntry}
use Rattle.wg_model.specs.Rules.{Rule}
use Rattle.wg_model.specs.Buffers.{has_usage}
use Rattle.wg_model.specs.Textures.{storage_binding}
use Rattle.wg_model.specs.Formats.{copied_aspect}
use Rattle.wg_model.specs.Layouts.{is_uniform_binding}
use Rattle.wg_model.specs.Equality.{same_bool, same_view_dim}

-- the usage UNIFORM of buffers
abbrev pub uniform : ℕ
uniform = 64

-- the usage STORAGE of buffers
abbrev pub storage : ℕ
storage = 128

-- the usage TEXTURE_BINDING of textures
abbrev pub texture_binding : ℕ
texture_binding = 4

-- rule 150: of each binding of the layout there is one entry, and each entry is of a binding of the layout
abbrev pub are_matched : List LayoutEntry → List BoundEntry → Bool
are_matched layout entries =
    list_all (λ (asked : LayoutEntry). count_by (λ (entry : BoundEntry). entry.binding == asked.binding) entries == 1) layout
    && list_all (λ (entry : BoundEntry). is_some (entry_of layout entry.binding)) entries

-- whether a test holds of each entry, with what the layout asks of its binding, if that has the binding
abbrev pub each_fits : (BindingKind → BoundResource → Bool) → List LayoutEntry → List BoundEntry → Bool
each_fits test layout entries = list_all (λ (entry : BoundEntry). option_map_or (λ (asked : LayoutEntry). test asked.kind entry.resource) (entry_of layout entry.binding) true) entries

-- a buffer, sampler or view is held as the kind asks
abbrev pub sort_fits : BindingKind → BoundResource → Bool
sort_fits (Buffer binding dynamic min_size) (BoundBuffer buffer info offset size) = true
sort_fits (Sampler sampler_type) (BoundSampler sampler info) = true
sort_fits (Texture sample dim multi) (BoundView view info) = true
sort_fits (StorageTexture access format dim) (BoundView view info) = true
sort_fits _ _ = false

-- the usage that a binding asks of its buffer
abbrev pub usage_asked : BufferBinding → ℕ
usage_asked Uniform = uniform
usage_asked Storage = storage
usage_asked ReadOnlyStorage = storage

-- rule 152: the usage of a buffer has what its entry asks for
abbrev pub usage_fits : BindingKind → BoundResource → Bool
usage_fits (Buffer binding dynamic min_size) (BoundBuffer buffer info offset size) = has_usage info.usage (usage_asked binding)
usage_fits _ _ = true

-- whether a number is a multiple of another; of 0 only 0 is
abbrev pub is_multiple : ℕ → ℕ → Bool
is_multiple n of_number = if of_number == 0 then n == 0 else n % of_number == 0

-- of what the offset of a bound buffer has to be a multiple, by the sort of its binding
abbrev pub alignment_asked : Limits → BufferBinding → ℕ
alignment_asked limits binding = if is_uniform_binding binding then limits.min_uniform_buffer_offset_alignment else limits.min_storage_buffer_offset_alignment

-- the greatest size of a bound buffer, by the sort of its binding
abbrev pub size_limit : Limits → BufferBinding → ℕ
size_limit limits binding = if is_uniform_binding binding then limits.max_uniform_buffer_binding_size else limits.max_storage_buffer_binding_size

-- the offset is aligned, the range is not empty, and the buffer has it
abbrev pub range_fits : Limits → BindingKind → BoundResource → Bool
range_fits limits (Buffer binding dynamic min_size) (BoundBuffer buffer info offset size) =
    is_multiple offset (alignment_asked limits binding) && not (size == 0) && nat_le (offset + size) info.size
range_fits limits _ _ = true

-- the size is neither above the limit nor below what is asked, and that of a storage buffer is a multiple of 4
abbrev pub size_fits : Limits → BindingKind → BoundResource → Bool
size_fits limits (Buffer binding dynamic min_size) (BoundBuffer buffer info offset size) =
    nat_le size (size_limit limits binding) && nat_le min_size size && (is_uniform_binding binding || size % 4 == 0)
size_fits limits _ _ = true

-- Whether a view that is sampled as this will do where that is asked: first what is asked. A view that is sampled as float,
-- and one that is sampled as depth, will do for unfilterable-float as well.
abbrev pub takes_sample : SampleType → SampleType → Bool
takes_sample Float Float = true
takes_sample UnfilterableFloat Float = true
takes_sample UnfilterableFloat UnfilterableFloat = true
takes_sample UnfilterableFloat Depth = true
takes_sample Depth Depth = true
takes_sample Sint Sint = true
takes_sample Uint Uint = true
takes_sample _ _ = false

-- what a view is sampled as, if it has one aspect alone
abbrev pub view_sampled : ViewInfo → Option SampleType
view_sampled info = option_and_then (sampled_as (row info.texture_info.format)) (copied_aspect info.aspect info.texture_info.format)

-- rule 155: a view that is sampled is of a texture with TEXTURE_BINDING, and has the sample type, the dimension and the
-- sampling that its entry asks for
abbrev pub view_fits : BindingKind → BoundResource → Bool
view_fits (Texture sample dim multi) (BoundView view info) =
    has_usage info.texture_info.usage texture_binding
    && option_map_or (takes_sample sample) (view_sampled info) false
    && same_view_dim dim info.dim
    && same_bool multi (nat_lt 1 info.texture_info.samples)
view_fits _ _ = true

-- rule 156: a view that is storage is of a texture with STORAGE_BINDING, has one mip level, and has the format and the
-- dimension that its entry asks for
abbrev pub storage_view_fits : BindingKind → BoundResource → Bool
storage_view_fits (StorageTexture access format dim) (BoundView view info) =
    has_usage info.texture_info.usage storage_binding
    && info.mips == 1
    && same_format format info.texture_info.format
    && same_view_dim dim info.dim
storage_view_fits _ _ = true

-- which samplers will do: first what is asked
abbrev pub takes_sampler : SamplerKind → SamplerKind → Bool
takes_sampler Filtering Filtering = true
takes_sampler Filtering NonFiltering = true
takes_sampler NonFiltering NonFiltering = true
takes_sampler Comparison Comparison = true
takes_sampler _ _ = false

-- rule 157: a sampler is of the kind that its entry asks for
abbrev pub sampler_fits : BindingKind → BoundResource → Bool
sampler_fits (Sampler sampler_type) (BoundSampler sampler info) = takes_sampler sampler_type info
sampler_fits _ _ = true

-- createBindGroup: 150 the entries name each binding of the layout once, and no other; 151 each holds a buffer, sampler or
-- view as the layout asks; 152 buffers have UNIFORM or STORAGE; 153 their offsets are aligned, and their ranges are not empty
-- and fit; 154 the sizes of ranges are as they have to be; 155 a view that is sampled has a texture with TEXTURE_BINDING, one
-- aspect, and sample type, dimension and samples as asked; 156 one that is storage has a texture with STORAGE_BINDING, one mip
-- level, and format and dimension as asked; 157 samplers are of a kind that will do.
abbrev pub group_rules : Limits → List LayoutEntry → List BoundEntry → List Rule
group_rules limits layout entries =
    (ENTRIES_MATCH_LAYOUT, are_matched layout entries)
    ∷ ((ENTRY_RESOURCES_FIT_LAYOUT, each_fits sort_fits layout entries)
    ∷ ((BOUND_BUFFER_USAGE_FITS, each_fits usage_fits layout entries)
    ∷ ((BOUND_RANGES_FIT_BUFFERS, each_fits (range_fits limits) layout entries)
    ∷ ((BOUND_SIZES_ARE_WITHIN_LIMITS, each_fits (size_fits limits) layout entries)
    ∷ ((BOUND_TEXTURE_VIEWS_FIT, each_fits view_fits layout entries)
    ∷ ((BOUND_STORAGE_VIEWS_FIT, each_fits storage_view_fits layout entries)
    ∷ ((BOUND_SAMPLERS_FIT, each_fits sampler_fits layout entries)
    ∷ [])))))))
