-- The kinds of samplers (WebGPU, "Sampler Creation").
use Rattle.std.specs.Prelude.{Bool, true, false, ◌||◌, is_some, if◌then◌else◌}
use Rattle.wg_types.specs.declared.bindings.SamplerKind.{SamplerKind}
use Rattle.wg_types.specs.declared.bindings.SamplerKind.TheVariants.{Comparison, Filtering, NonFiltering}
use Rattle.wg_types.specs.declared.samplers.FilterMode.{FilterMode}
use Rattle.wg_types.specs.declared.samplers.FilterMode.TheVariants.{Nearest, Linear}
use Rattle.wg_types.specs.declared.samplers.SamplerFields.{SamplerFields}
use Rattle.wg_types.specs.declared.samplers.SamplerDesc.{SamplerDesc}
use Rattle.wg_types.specs.declared.samplers.SamplerDesc.TheVariants.{Kind, Full}

-- whether a filter mixes what lies beside one another
abbrev pub is_linear : FilterMode → Bool
is_linear Nearest = false
is_linear Linear = true

-- the kind of a sampler that is described: one that compares; or else one that filters, where one of its three filters is
-- linear; or else one that does not filter
abbrev pub derived_kind : SamplerFields → SamplerKind
derived_kind fields =
    if is_some fields.compare
    then Comparison
    else if is_linear fields.mag_filter || (is_linear fields.min_filter || is_linear fields.mipmap_filter) then Filtering else NonFiltering

-- the kind of a sampler, as it is given or derived
abbrev pub sampler_kind : SamplerDesc → SamplerKind
sampler_kind (Kind kind) = kind
sampler_kind (Full fields) = derived_kind fields
