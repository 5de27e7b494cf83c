-- The rules of compute pipelines (WebGPU, "Pipeline Creation"). Also WebGPU, "Compute Pipeline Creation",
-- "GPUProgrammableStage".
use Rattle.std.specs.Prelude.{ℕ, Bool, false, ◌&&◌, List, [], ◌∷◌, slice_get}
use Rattle.std.specs.List.{list_all}
use Rattle.std.specs.Option.{option_map_or}
use Rattle.wg_rules.specs.declared.TheConstants.{INTERFACE_FITS_LAYOUT}
use Rattle.wg_types.specs.Formats.{same_format}
use Rattle.wg_types.specs.Bindings.{entry_of}
use Rattle.wg_types.specs.declared.bindings.Stage.{Stage}
use Rattle.wg_types.specs.declared.bindings.Stage.TheVariants.{Vertex, Fragment, Compute}
use Rattle.wg_types.specs.declared.bindings.BindingKind.{BindingKind}
use Rattle.wg_types.specs.declared.bindings.BindingKind.TheVariants.{Buffer, Sampler, Texture, StorageTexture}
use Rattle.wg_types.specs.declared.bindings.LayoutEntry.{LayoutEntry}
use Rattle.wg_types.specs.declared.bindings.IfaceEntry.{IfaceEntry}
use Rattle.wg_types.specs.declared.groups.GroupLayoutInfo.{GroupLayoutInfo}
use Rattle.wg_model.specs.Rules.{Rule}
use Rattle.wg_model.specs.Layouts.{vertex_stage, fragment_stage, compute_stage, is_seen_by}
use Rattle.wg_model.specs.Equality.{same_bool, same_sampler, same_sample, same_view_dim, same_access, same_buffer_binding}

-- the bit of a stage
abbrev pub stage_bit : Stage → ℕ
stage_bit Vertex = vertex_stage
stage_bit Fragment = fragment_stage
stage_bit Compute = compute_stage

-- whether a shader may use a binding as it does: of a buffer neither dynamic offsets nor the least size count
abbrev pub same_use : BindingKind → BindingKind → Bool
same_use (Buffer a moves_a least_a) (Buffer b moves_b least_b) = same_buffer_binding a b
same_use (Sampler a) (Sampler b) = same_sampler a b
same_use (Texture a dim_a multi_a) (Texture b dim_b multi_b) = same_sample a b && same_view_dim dim_a dim_b && same_bool multi_a multi_b
same_use (StorageTexture a format_a dim_a) (StorageTexture b format_b dim_b) = same_access a b && same_format format_a format_b && same_view_dim dim_a dim_b
same_use _ _ = false

-- whether an entry of a layout is what a shader uses
abbrev pub serves : IfaceEntry → LayoutEntry → Bool
serves used entry = is_seen_by (stage_bit used.stage) entry && same_use entry.kind used.kind

-- whether the layout of its group has it
abbrev pub offers : List GroupLayoutInfo → IfaceEntry → Bool
offers layouts used = option_map_or (λ (layout : GroupLayoutInfo). option_map_or (serves used) (entry_of layout.entries used.binding) false) (slice_get layouts used.group) false

-- rule 160 of createComputePipeline: the layout offers each entry of the interface
abbrev pub compute_pipeline_rules : List GroupLayoutInfo → List IfaceEntry → List Rule
compute_pipeline_rules layouts iface = (INTERFACE_FITS_LAYOUT, list_all (offers layouts) iface) ∷ []
