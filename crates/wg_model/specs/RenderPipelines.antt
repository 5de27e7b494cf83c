-- The rules of render pipelines (WebGPU, "Render Pipeline Creation").
use Rattle.std.specs.Prelude.{ℕ, ◌==◌, nat_le, Bool, true, not, ◌&&◌, ◌||◌, List, [], ◌∷◌, ◌++◌, Option, is_some, length}
use Rattle.std.specs.List.{list_all, list_any}
use Rattle.std.specs.Option.{option_map_or}
use Rattle.wg_rules.specs.declared.TheConstants.{INTERFACE_FITS_LAYOUT, PIPELINE_TARGETS_ARE_COLORS, PIPELINE_DEPTH_FORMAT_FITS, PIPELINE_HAS_TARGET, PIPELINE_SAMPLES_ARE_ALLOWED, SAMPLE_BYTES_ARE_WITHIN_LIMIT, ALPHA_TO_COVERAGE_FITS_TARGETS}
use Rattle.wg_types.specs.Formats.{row}
use Rattle.wg_types.specs.declared.formats.Format.{Format}
use Rattle.wg_types.specs.declared.limits.Limits.{Limits}
use Rattle.wg_types.specs.declared.groups.GroupLayoutInfo.{GroupLayoutInfo}
use Rattle.wg_types.specs.declared.fixed.Target.{Target}
use Rattle.wg_types.specs.declared.fixed.DepthState.{DepthState}
use Rattle.wg_types.specs.declared.render.RenderDesc.{RenderDesc}
use Rattle.wg_model.specs.Rules.{Rule}
use Rattle.wg_model.specs.Formats.{is_color, has_depth, has_stencil}
use Rattle.wg_model.specs.Pipelines.{offers}
use Rattle.wg_model.specs.Vertex.{layout_rules}
use Rattle.wg_model.specs.SampleBytes.{sample_fits}
use Rattle.wg_model.specs.FixedFunction.{target_formats, primitive_rules, blending_rules, depth_rules, writes_depth, told_to_write, first_covers}

-- whether a format passes a test, or is left out
abbrev pub passes : (Format → Bool) → Option Format → Bool
passes test format = option_map_or test format true

-- whether a format has depth or stencil, and what is told to be written is in it; of stencil that is when it is told without a word
-- of faces
abbrev pub depth_state_fits : DepthState → Bool
depth_state_fits depth =
    not (is_color depth.format)
    && ((not (writes_depth depth) || has_depth (row depth.format).aspects)
    && (not (told_to_write depth.stencil) || has_stencil (row depth.format).aspects))

-- whether a texture of a format may have four samples
abbrev pub is_multisampled : Format → Bool
is_multisampled format = (row format).multisampled

-- whether a count of samples is 1, or 4 where all formats allow that
abbrev pub samples_fit : ℕ → List (Option Format) → Bool → Bool
samples_fit samples targets depth_allows = samples == 1 || (samples == 4 && (list_all (passes is_multisampled) targets && depth_allows))

-- the rules of color targets: 163 there are no more than may be, those left out too, and all have color formats; then those of how
-- they blend; 411 a sample of all takes no more bytes than may be, where that limit was asked for
abbrev pub color_rules : Limits → List (Option Target) → List Rule
color_rules limits targets =
    (PIPELINE_TARGETS_ARE_COLORS, nat_le (length targets) limits.max_color_attachments && list_all (passes is_color) (target_formats targets))
    ∷ (blending_rules targets ++ (SAMPLE_BYTES_ARE_WITHIN_LIMIT, sample_fits limits.max_color_attachment_bytes_per_sample (target_formats targets)) ∷ [])

-- the rules of what is drawn to as a whole: 165 some target is given, or depth; 166 there are 1 or 4 samples, and with 4 all formats
-- allow that; 417 alphas tell which samples are covered only of 4 samples, and where the first target is given and has a format that
-- may blend and has alpha
abbrev pub whole_rules : RenderDesc → List Rule
whole_rules desc =
    (PIPELINE_HAS_TARGET, list_any (λ (target : Option Target). is_some target) desc.targets || is_some desc.depth)
    ∷ ((
      PIPELINE_SAMPLES_ARE_ALLOWED,
      samples_fit desc.samples (target_formats desc.targets)
          (option_map_or (λ (depth : DepthState). is_multisampled depth.format) desc.depth true),
    )
    ∷ ((ALPHA_TO_COVERAGE_FITS_TARGETS, not desc.alpha_to_coverage || (desc.samples == 4 && first_covers desc.targets))
    ∷ []))

-- createRenderPipeline, after the rules of its layout and its vertex buffers: those of what vertices make, and of color targets;
-- 164 the depth format has depth or stencil, and what is told to be written is in it; those of depth and stencil; and those of the
-- whole
abbrev pub target_rules : Limits → RenderDesc → List Rule
target_rules limits desc =
    primitive_rules desc.primitive
    ++ (color_rules limits desc.targets
    ++ ((PIPELINE_DEPTH_FORMAT_FITS, option_map_or depth_state_fits desc.depth true)
    ∷ (depth_rules desc.primitive.topology desc.depth ++ whole_rules desc)))

-- 160 the layout has each binding that a shader uses, visible to its stage and of the same kind
unfoldable pub render_pipeline_rules : Limits → List GroupLayoutInfo → RenderDesc → List Rule
render_pipeline_rules limits layouts desc =
    (INTERFACE_FITS_LAYOUT, list_all (offers layouts) desc.iface) ∷ (layout_rules limits desc.buffers ++ target_rules limits desc)
