-- The rules of samplers (WebGPU, "Sampler Creation").
use Rattle.std.specs.Prelude.{nat_le, Bool, ◌&&◌, ◌||◌, List, [], ◌∷◌}
use Rattle.wg_rules.specs.declared.TheConstants.{LEVELS_OF_DETAIL_ARE_IN_ORDER, ANISOTROPY_FITS_FILTERS}
use Rattle.wg_types.specs.Samplers.{is_linear}
use Rattle.wg_types.specs.declared.samplers.SamplerFields.{SamplerFields}
use Rattle.wg_types.specs.declared.samplers.SamplerDesc.{SamplerDesc}
use Rattle.wg_types.specs.declared.samplers.SamplerDesc.TheVariants.{Kind, Full}
use Rattle.wg_model.specs.Rules.{Rule}

-- whether all filters of a sampler are linear
abbrev pub are_linear : SamplerFields → Bool
are_linear fields = is_linear fields.mag_filter && (is_linear fields.min_filter && is_linear fields.mipmap_filter)

-- createSampler: 405 the least level of detail is at most the greatest; 406 the anisotropy is at least 1, and where it is above
-- that, all filters are linear. One that is asked for by its kind alone has no rule.
abbrev pub sampler_rules : SamplerDesc → List Rule
sampler_rules (Kind kind) = []
sampler_rules (Full fields) =
    (LEVELS_OF_DETAIL_ARE_IN_ORDER, nat_le fields.lod_min fields.lod_max)
    ∷ ((ANISOTROPY_FITS_FILTERS, nat_le 1 fields.max_anisotropy && (nat_le fields.max_anisotropy 1 || are_linear fields))
    ∷ [])
