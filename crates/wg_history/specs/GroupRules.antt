-- The first unmet rule of an event that makes a bind group, a layout or a pipeline (WebGPU, "Bind Group Creation", "Pipeline
-- Layout Creation", "Compute Pipeline Creation" and "Render Pipeline Creation").
use Rattle.std.specs.Prelude.{ℕ, not, List, [], ◌∷◌, ◌++◌, Option}
use Rattle.wg_rules.specs.declared.TheConstants.{OBJECT_IS_OF_DEVICE, OBJECT_IS_NOT_DROPPED, OBJECT_IS_VALID}
use Rattle.wg_types.specs.Wanted.{admits}
use Rattle.wg_types.specs.Kinds.{kind_of}
use Rattle.wg_types.specs.Refs.{some_wanted, maybe_wanted}
use Rattle.wg_types.specs.Bindings.{entries_named}
use Rattle.wg_types.specs.declared.wanted.Wanted.{Wanted}
use Rattle.wg_types.specs.declared.wanted.Wanted.TheVariants as wanted
use Rattle.wg_types.specs.declared.bindings.GroupEntryOf.{GroupEntryOf}
use Rattle.wg_types.specs.declared.bindings.LayoutEntry.{LayoutEntry}
use Rattle.wg_types.specs.declared.groups.Interface.{Interface}
use Rattle.wg_model.specs.Rules.{Rule, first_unmet}
use Rattle.wg_model.specs.Layouts.{group_layout_rules, pipeline_layout_rules}
use Rattle.wg_model.specs.Automatic.{derived_rules, get_layout_rules}
use Rattle.wg_model.specs.Groups.{group_rules}
use Rattle.wg_model.specs.Pipelines.{compute_pipeline_rules}
use Rattle.wg_model.specs.RenderPipelines.{render_pipeline_rules}
use Rattle.wg_types.specs.declared.render.RenderDesc.{RenderDesc}
use Rattle.wg_model.specs.Making.{pipeline_layout_made, group_made, compute_made, render_made}
use Rattle.wg_history.specs.Entries.{Setup, Past}
use Rattle.wg_history.specs.Objects.{ObjRef, known_in, is_own, is_valid}
use Rattle.wg_history.specs.Rules.{is_dropped}

-- The rules on each object that an event names, one object after another: 10 it is one of this device, of the kind that is
-- wanted; 11 it is not dropped; 12 it is valid.
abbrev pub named_rules : Setup → Past → List (ObjRef × Wanted) → List Rule
named_rules setup past [] = []
named_rules setup past (object ∷ objects) =
    (OBJECT_IS_OF_DEVICE, is_own setup past (λ known. admits object.1 (kind_of known)) object.0)
    ∷ ((OBJECT_IS_NOT_DROPPED, not (is_dropped setup past object.0.number))
    ∷ ((OBJECT_IS_VALID, is_valid past object.0.number)
    ∷ named_rules setup past objects))

-- createBindGroupLayout names no object.
unfoldable pub create_bind_group_layout_rule : Setup → List LayoutEntry → Option ℕ
create_bind_group_layout_rule setup entries = first_unmet (group_layout_rules setup.limits entries)

-- createPipelineLayout: the layouts that it names, of which a null is none, then the rules by what is known of them, to which a null
-- counts as a layout without an entry
unfoldable pub create_pipeline_layout_rule : Setup → Past → List (Option ObjRef) → Option ℕ
create_pipeline_layout_rule setup past layouts =
    first_unmet (named_rules setup past (some_wanted wanted.GroupLayout layouts)
    ++ pipeline_layout_rules setup.limits (pipeline_layout_made (λ r. r) (known_in past) layouts).layouts_info)

-- createBindGroup: the layout, then what the entries bind, then the rules by what is known of these
abbrev pub group_named : ObjRef → List (GroupEntryOf ObjRef) → List (ObjRef × Wanted)
group_named layout entries = (layout, wanted.GroupLayout) ∷ entries_named entries

-- the first unmet rule of a createBindGroup: those on the objects that it names, and then its own
unfoldable pub create_bind_group_rule : Setup → Past → ObjRef → List (GroupEntryOf ObjRef) → Option ℕ
create_bind_group_rule setup past layout entries =
    first_unmet (named_rules setup past (group_named layout entries)
    ++ group_rules setup.limits (group_made (λ r. r) (known_in past) layout entries).layout_info.entries (group_made (λ r. r) (known_in past) layout entries).entries)

-- createComputePipeline: the layout, or where there is none the rules of what is derived, then the rules by what is known of the
-- layout or was derived
unfoldable pub create_compute_pipeline_rule : Setup → Past → Option ObjRef → Interface → Option ℕ
create_compute_pipeline_rule setup past layout iface =
    first_unmet (named_rules setup past (maybe_wanted wanted.PipelineLayout layout)
    ++ (derived_rules setup.limits layout iface.entries
    ++ compute_pipeline_rules (compute_made (λ r. r) (known_in past) layout iface).layout_info.layouts_info iface.entries))

-- createRenderPipeline: likewise
unfoldable pub create_render_pipeline_rule : Setup → Past → Option ObjRef → RenderDesc → Option ℕ
create_render_pipeline_rule setup past layout desc =
    first_unmet (named_rules setup past (maybe_wanted wanted.PipelineLayout layout)
    ++ (derived_rules setup.limits layout desc.iface
    ++ render_pipeline_rules setup.limits (render_made (λ r. r) (known_in past) layout desc).layout_info.layouts_info desc))

-- getBindGroupLayout: the pipeline, then the rule by what is known of it
unfoldable pub get_bind_group_layout_rule : Setup → Past → ObjRef → ℕ → Option ℕ
get_bind_group_layout_rule setup past pipeline index =
    first_unmet (named_rules setup past ((pipeline, wanted.Pipeline) ∷ []) ++ get_layout_rules (known_in past pipeline) index)
