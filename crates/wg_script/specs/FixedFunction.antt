-- What a createRenderPipeline says of fixed function: its targets and how they are blended, what it does with depth and stencil, what
-- its vertices make, and its samples. For each its keys, and what each holds.
use Rattle.std.specs.Prelude.{ℕ, codes, false, is_some, if◌then◌else◌, Some, None, Result, Ok}
use Rattle.serde_json.specs.Data.{Data}
use Rattle.serde_json.specs.Find.{as_str}
use Rattle.wg_types.specs.declared.formats.Format.{Format}
use Rattle.wg_types.specs.declared.samplers.Compare.TheVariants.{Always}
use Rattle.wg_types.specs.declared.fixed.BlendOperation.TheVariants.{Add}
use Rattle.wg_types.specs.declared.fixed.BlendFactor.TheVariants.{Zero, One}
use Rattle.wg_types.specs.declared.fixed.BlendComponent.{BlendComponent}
use Rattle.wg_types.specs.declared.fixed.BlendState.{BlendState}
use Rattle.wg_types.specs.declared.fixed.Target.{Target}
use Rattle.wg_types.specs.declared.fixed.StencilOperation.TheVariants.{Keep}
use Rattle.wg_types.specs.declared.fixed.StencilFace.{StencilFace}
use Rattle.wg_types.specs.declared.fixed.StencilState.{StencilState}
use Rattle.wg_types.specs.declared.fixed.StencilState.TheVariants.{Written, Faces}
use Rattle.wg_types.specs.declared.fixed.DepthState.{DepthState}
use Rattle.wg_types.specs.declared.fixed.Topology.TheVariants.{TriangleList}
use Rattle.wg_types.specs.declared.fixed.CullMode.TheVariants as cull
use Rattle.wg_types.specs.declared.fixed.PrimitiveState.{PrimitiveState}
use Rattle.wg_script.specs.declared.fixed_function.FixedFunction.{FixedFunction}
use Rattle.wg_script.specs.Giving.{◌>>=◌}
use Rattle.wg_script.specs.Values.{whole_or, most_short, flag, flag_or, none_or, value_or, value_at, has_any}
use Rattle.wg_script.specs.Lists.{item_if}
use Rattle.wg_script.specs.Words.{word, word_at, word_or, word_if}
use Rattle.wg_script.specs.TextureWords.{format_words}
use Rattle.wg_script.specs.RenderWords.{index_format_words}
use Rattle.wg_script.specs.SamplerWords.{compare_words}
use Rattle.wg_script.specs.FixedWords.{blend_operation_words, blend_factor_words, depth_compare_words, stencil_operation_words, topology_words, front_face_words, cull_words}
use Rattle.wg_script.specs.Readers.{Reader, gives, need, may, all_of, ◌▹◌, inner_by}

-- ---- targets

-- the keys of how colors are blended, or alphas
abbrev pub blend_component_keys : Reader BlendComponent
blend_component_keys = gives (λ operation src_factor dst_factor. record { operation = operation; src_factor = src_factor; dst_factor = dst_factor })
    ▹ may (codes "operation") (word_or blend_operation_words Add)
    ▹ may (codes "srcFactor") (word_or blend_factor_words One)
    ▹ may (codes "dstFactor") (word_or blend_factor_words Zero)

-- how colors are blended, or alphas
unfoldable pub blend_component_of : Data → Result BlendComponent ℕ
blend_component_of d = inner_by blend_component_keys d

-- the keys of how a target is blended
abbrev pub blend_keys : Reader BlendState
blend_keys = gives (λ color alpha. record { color = color; alpha = alpha })
    ▹ need (codes "color") (value_at blend_component_of)
    ▹ need (codes "alpha") (value_at blend_component_of)

-- how a target is blended
unfoldable pub blend_of : Data → Result BlendState ℕ
blend_of d = inner_by blend_keys d

-- a target of which the format alone is told: it does not blend, and all of its channels are written
abbrev pub plain_target : Format → Target
plain_target format = record { format = format; blend = None; write_mask = 15 }

-- the keys of a target that is described
abbrev pub described_target_keys : Reader Target
described_target_keys = gives (λ format blend write_mask. record { format = format; blend = blend; write_mask = write_mask })
    ▹ need (codes "format") (word_at format_words)
    ▹ may (codes "blend") (item_if blend_of)
    ▹ may (codes "writeMask") (whole_or most_short 15)

-- a target that is described
unfoldable pub described_target_of : Data → Result Target ℕ
described_target_of d = inner_by described_target_keys d

-- a target of a pipeline: the word of its format, or what describes it
unfoldable pub target_of : Data → Result Target ℕ
target_of d = if is_some (as_str d) then (word format_words d >>= λ format. Ok (plain_target format)) else described_target_of d

-- ---- depth and stencil

-- what is done with the stencil of faces of which nothing is told
abbrev pub plain_face : StencilFace
plain_face = record { compare = Always; fail_op = Keep; depth_fail_op = Keep; pass_op = Keep }

-- the keys of what is done with the stencil of fronts, or of backs
abbrev pub face_keys : Reader StencilFace
face_keys =
    gives (λ compare fail_op depth_fail_op pass_op. record { compare = compare; fail_op = fail_op; depth_fail_op = depth_fail_op; pass_op = pass_op })
    ▹ may (codes "compare") (word_or compare_words Always)
    ▹ may (codes "failOp") (word_or stencil_operation_words Keep)
    ▹ may (codes "depthFailOp") (word_or stencil_operation_words Keep)
    ▹ may (codes "passOp") (word_or stencil_operation_words Keep)

-- what is done with the stencil of fronts, or of backs
unfoldable pub face_of : Data → Result StencilFace ℕ
face_of d = inner_by face_keys d

-- the key of whether the stencil is written, where that is all that is told of it
abbrev pub written_keys : Reader StencilState
written_keys = gives (λ written. Written written)
    ▹ may (codes "stencilWrite") (flag_or false)

-- the keys of what is done with the stencil, where that is described. Of the bits that are read nothing is kept
abbrev pub faces_keys : Reader StencilState
faces_keys = gives (λ front back read_mask write_mask. Faces front back write_mask)
    ▹ may (codes "stencilFront") (value_or plain_face face_of)
    ▹ may (codes "stencilBack") (value_or plain_face face_of)
    ▹ may (codes "stencilReadMask") (whole_or most_short most_short)
    ▹ may (codes "stencilWriteMask") (whole_or most_short most_short)

-- the keys of what a pipeline does with depth and stencil, with those of the stencil
abbrev pub depth_state_keys : Reader StencilState → Reader DepthState
depth_state_keys stencil_keys =
    gives (λ format depth_write depth_compare stencil bias. record {
      format = format;
      depth_write = depth_write;
      depth_compare = depth_compare;
      stencil = stencil;
      bias = bias;
    })
    ▹ need (codes "format") (word_at format_words)
    ▹ may (codes "depthWrite") (value_or (Some false) (none_or flag))
    ▹ may (codes "depthCompare") (word_or depth_compare_words (Some Always))
    ▹ all_of stencil_keys
    ▹ may (codes "bias") (flag_or false)

-- what a pipeline does with depth and stencil, where of the stencil no more is told than whether it is written
unfoldable pub written_depth_of : Data → Result DepthState ℕ
written_depth_of d = inner_by (depth_state_keys written_keys) d

-- what a pipeline does with depth and stencil, where what it does with the stencil is described
unfoldable pub faced_depth_of : Data → Result DepthState ℕ
faced_depth_of d = inner_by (depth_state_keys faces_keys) d

-- What a pipeline does with depth and stencil. Script rule 8: where what is done with the stencil is described, whether it is written is
-- not told beside that.
unfoldable pub depth_state_of : Data → Result DepthState ℕ
depth_state_of d = if has_any faces_keys.optional d then faced_depth_of d else written_depth_of d

-- ---- what vertices make

-- what vertices make where nothing of that is told
abbrev pub plain_primitive : PrimitiveState
plain_primitive = record { topology = TriangleList; strip_index_format = None; cull_mode = cull.None }

-- the keys of what vertices make. Of which faces are fronts nothing is kept
abbrev pub primitive_keys : Reader PrimitiveState
primitive_keys =
    gives (λ topology strip_index_format front cull_mode. record { topology = topology; strip_index_format = strip_index_format; cull_mode = cull_mode })
    ▹ may (codes "topology") (word_or topology_words TriangleList)
    ▹ may (codes "stripIndexFormat") (word_if index_format_words)
    ▹ may (codes "frontFace") (word_or front_face_words tt)
    ▹ may (codes "cullMode") (word_or cull_words cull.None)

-- what vertices make
unfoldable pub primitive_of : Data → Result PrimitiveState ℕ
primitive_of d = inner_by primitive_keys d

-- ---- all that a createRenderPipeline says that takes no memory

-- the keys of depth and stencil, of samples and of what vertices make. Of the mask of samples nothing is kept
abbrev pub fixed_keys : Reader FixedFunction
fixed_keys =
    gives (λ depth samples primitive mask alpha_to_coverage. record {
      depth = depth;
      samples = samples;
      primitive = primitive;
      alpha_to_coverage = alpha_to_coverage;
    })
    ▹ may (codes "depth") (item_if depth_state_of)
    ▹ may (codes "samples") (whole_or most_short 1)
    ▹ may (codes "primitive") (value_or plain_primitive primitive_of)
    ▹ may (codes "mask") (whole_or most_short most_short)
    ▹ may (codes "alphaToCoverage") (flag_or false)
