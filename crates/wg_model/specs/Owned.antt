-- That bind groups of the layouts of one pipeline do not serve another (WebGPU, "exclusivePipeline").
use Rattle.std.specs.Prelude.{◌≡◌, ℕ, ◌==◌, true, false, List, Option, Some, None, slice_get, slice_index_or}
use Rattle.wg_rules.specs.declared.TheConstants.{GROUPS_FIT_PIPELINE}
use Rattle.wg_types.specs.Handles.{HandleValue}
use Rattle.wg_types.specs.declared.groups.GroupLayoutInfo.{GroupLayoutInfo}
use Rattle.wg_types.specs.declared.commands.BoundGroup.{BoundGroup}
use Rattle.wg_model.specs.Rules.{first_unmet}
use Rattle.wg_model.specs.Equality.{same_owner}
use Rattle.wg_model.specs.Bound.{has_entries, layouts_in, info_set, bound_rules}
use Rattle.wg_model.specs.Settings.{Settings, ready_rules}
use Rattle.wg_types.specs.declared.groups.GroupInfo.{GroupInfo}

-- At an index at which a layout has an entry, a group is set whose layout is exclusive to this pipeline.
pub record IsOfOther (other : ℕ) (layouts : List GroupLayoutInfo) (groups : List (Option BoundGroup)) (index : ℕ) : Type 0 where
  pub layout : GroupLayoutInfo
  pub known : GroupInfo
  pub there : slice_get layouts index ≡ Some layout
  pub asked : has_entries layout ≡ true
  pub set : info_set (slice_index_or groups index None) ≡ Some known
  pub exclusive : known.layout_info.exclusive ≡ Some other

-- Where a layout of the pipeline in use has an entry, and the group that is set at its index is of a layout exclusive to a
-- pipeline that is not the owner, be the owner another one or none, 341 is the first unmet rule of what is bound.
abbrev pub OthersAreRefused : Type 0
OthersAreRefused = (owner : Option ℕ) (other : ℕ) (layouts : List GroupLayoutInfo) (groups : List (Option BoundGroup)) (index : ℕ)
    → IsOfOther other layouts groups index → same_owner owner (Some other) ≡ false
    → first_unmet (bound_rules owner layouts groups) ≡ Some GROUPS_FIT_PIPELINE

-- A dispatch or draw has rule 341 first unmet wherever another pipeline is set than that to which the layout of a group that
-- it asks for is exclusive, whether it has derived its layouts or not.
abbrev pub OthersDoNotRun : Type 0
OthersDoNotRun = (set : Settings) (pipeline : HandleValue) (other index : ℕ)
    → set.pipeline ≡ Some pipeline → IsOfOther other (layouts_in pipeline.info) set.groups index → (pipeline.reference.number == other) ≡ false
    → first_unmet (ready_rules set) ≡ Some GROUPS_FIT_PIPELINE
