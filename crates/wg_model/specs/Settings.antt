-- What is set in passes (WebGPU, "Programmable Passes"): the pipeline and the bind groups, with the rules that go by them, and
-- how many debug groups are open. The commands of a pass so far stand newest first. Also WebGPU, "Debug Markers", "Dispatch",
-- "Drawing".
use Rattle.std.specs.Prelude.{ℕ, ◌+◌, ◌-◌, ◌%◌, ◌==◌, nat_le, Bool, true, false, List, [], ◌∷◌, Option, Some, None, option_and_then, option_map, is_some, if◌then◌else◌}
use Rattle.std.specs.Option.{option_or}
use Rattle.wg_rules.specs.declared.TheConstants.{EVERY_DEBUG_GROUP_OF_PASS_IS_CLOSED, PIPELINE_IS_SET, INDIRECT_BUFFER_HAS_INDIRECT, INDIRECT_OFFSET_IS_ALIGNED, INDIRECT_ARGUMENTS_FIT_BUFFER}
use Rattle.wg_types.specs.Handles.{HandleValue}
use Rattle.wg_types.specs.Commands.{Command, bracket, Act, begins, sets, runs, occludes, executes, neither, act}
use Rattle.wg_types.specs.Commands.{Setting, set_pipeline, set_group, set_vertex_buffer, set_index_buffer, set_viewport, set_scissor, set_unread}
use Rattle.wg_types.specs.declared.commands.BoundGroup.{BoundGroup}
use Rattle.wg_types.specs.declared.groups.GroupLayoutInfo.{GroupLayoutInfo}
use Rattle.wg_types.specs.declared.commands.Bracket.{Bracket}
use Rattle.wg_types.specs.declared.commands.Bracket.TheVariants as brackets
use Rattle.wg_model.specs.Rules.{Rule}
use Rattle.wg_rows.specs.Uses.{Read}
use Rattle.wg_model.specs.Buffers.{has_usage}
use Rattle.wg_model.specs.Commands.{buffer_of}
use Rattle.wg_model.specs.Touches.{Touch, bytes_at, input_usage}
use Rattle.wg_model.specs.Bound.{known_group, layouts_in, owner_of, set_rules, unset_rules, bound_rules}

-- how many debug groups are open after one more command
abbrev pub depth_by : ℕ → Bracket → ℕ
depth_by depth brackets.BeginComputePass = depth
depth_by depth brackets.BeginRenderPass = depth
depth_by depth brackets.EndPass = depth
depth_by depth brackets.PushGroup = depth + 1
depth_by depth brackets.PopGroup = depth - 1
depth_by depth brackets.Neither = depth

-- how many debug groups are open after a command, of so many before
abbrev pub depth_after : ℕ → Command → ℕ
depth_after depth command = depth_by depth (bracket command)

-- how many debug groups of the pass are open
abbrev pub debug_depth : List Command → ℕ
debug_depth [] = 0
debug_depth (command ∷ earlier) = depth_after (debug_depth earlier) command

-- the pipeline that a setting sets, if it sets one
abbrev pub setting_pipeline : Setting HandleValue → Option HandleValue
setting_pipeline (set_pipeline pipeline) = Some pipeline
setting_pipeline (set_group index group offsets) = None
setting_pipeline (set_vertex_buffer slot buffer offset size) = None
setting_pipeline (set_index_buffer buffer format offset size) = None
setting_pipeline (set_viewport viewport) = None
setting_pipeline (set_scissor x y width height) = None
setting_pipeline set_unread = None

-- the pipeline that a command sets, by what it is to its pass
abbrev pub pipeline_given_by : Act HandleValue → Option HandleValue
pipeline_given_by (begins begin) = None
pipeline_given_by (sets setting) = setting_pipeline setting
pipeline_given_by (runs running) = None
pipeline_given_by (occludes call) = None
pipeline_given_by (executes bundles) = None
pipeline_given_by neither = None

-- the pipeline that a command sets, if it sets one
abbrev pub pipeline_given : Command → Option HandleValue
pipeline_given command = pipeline_given_by (act command)

-- whether a command unsets all that is set: bundles that are executed do, also none
abbrev pub unsets_by : Act HandleValue → Bool
unsets_by (begins begin) = false
unsets_by (sets setting) = false
unsets_by (runs running) = false
unsets_by (occludes call) = false
unsets_by (executes bundles) = true
unsets_by neither = false

-- whether a command unsets all that is set: bundles that are executed do
abbrev pub unsets : Command → Bool
unsets command = unsets_by (act command)

-- the pipeline that was set last, if one was since the pass began and since bundles were executed last
abbrev pub pipeline_set : List Command → Option HandleValue
pipeline_set [] = None
pipeline_set (command ∷ earlier) = if unsets command then None else option_or (pipeline_given command) (pipeline_set earlier)

-- what stands in a slot after one more command, which may put something into a slot, or empty one
abbrev pub slot_after : {X : Type 0} → Option (ℕ × Option X) → ℕ → Option X → Option X
slot_after None at before = before
slot_after (Some given) at before = if given.0 == at then given.1 else before

-- a group as it is set with some offsets
abbrev pub bound_with : List ℕ → HandleValue → BoundGroup
bound_with offsets group = record { group = group; offsets = offsets }

-- the index at which a setting sets a bind group, with the group, or with none where it unsets what is set there
abbrev pub setting_group : Setting HandleValue → Option (ℕ × Option BoundGroup)
setting_group (set_pipeline pipeline) = None
setting_group (set_group index group offsets) = Some (index, option_map (bound_with offsets) group)
setting_group (set_vertex_buffer slot buffer offset size) = None
setting_group (set_index_buffer buffer format offset size) = None
setting_group (set_viewport viewport) = None
setting_group (set_scissor x y width height) = None
setting_group set_unread = None

-- the group that a command sets or unsets, with its index and offsets, by what it is to its pass
abbrev pub group_given_by : Act HandleValue → Option (ℕ × Option BoundGroup)
group_given_by (begins begin) = None
group_given_by (sets setting) = setting_group setting
group_given_by (runs running) = None
group_given_by (occludes call) = None
group_given_by (executes bundles) = None
group_given_by neither = None

-- the index at which a command sets a bind group, with the group, or with none where it unsets what is set there
abbrev pub group_given : Command → Option (ℕ × Option BoundGroup)
group_given command = group_given_by (act command)

-- the group, with its offsets, that was set last at an index, if one was since the pass began and since bundles were executed
-- last; none where null was set last
abbrev pub group_set : List Command → ℕ → Option BoundGroup
group_set [] at = None
group_set (command ∷ earlier) at = if unsets command then None else slot_after (group_given command) at (group_set earlier at)

-- the groups that are set at the indexes 0 to 3
abbrev pub groups_set : List Command → List (Option BoundGroup)
groups_set earlier = group_set earlier 0 ∷ (group_set earlier 1 ∷ (group_set earlier 2 ∷ (group_set earlier 3 ∷ [])))

-- What is set in a pass.
pub record Settings : Type 0 where
  pub pipeline : Option HandleValue
  pub groups : List (Option BoundGroup)
  pub depth : ℕ

-- what is set after commands of a pass, and how many of its debug groups are open
abbrev pub settings : List Command → Settings
settings earlier = record { pipeline = pipeline_set earlier; groups = groups_set earlier; depth = debug_depth earlier }

-- the layouts of the groups of the pipeline that is set
abbrev pub pipeline_layouts : Option HandleValue → List GroupLayoutInfo
pipeline_layouts None = []
pipeline_layouts (Some pipeline) = layouts_in pipeline.info

-- the layouts of the groups of the pipeline that is set
abbrev pub layouts_set : Settings → List GroupLayoutInfo
layouts_set set = pipeline_layouts set.pipeline

-- the pipeline to which these count as exclusive, where that which is set derived them itself
abbrev pub owner_set : Settings → Option ℕ
owner_set set = option_and_then owner_of set.pipeline

-- the end of a pass (WebGPU, "end"): 310 no debug group of the pass is open
abbrev pub end_rules_by : ℕ → Bracket → List Rule
end_rules_by depth brackets.BeginComputePass = []
end_rules_by depth brackets.BeginRenderPass = []
end_rules_by depth brackets.EndPass = (EVERY_DEBUG_GROUP_OF_PASS_IS_CLOSED, depth == 0) ∷ []
end_rules_by depth brackets.PushGroup = []
end_rules_by depth brackets.PopGroup = []
end_rules_by depth brackets.Neither = []

-- the rule of the end of a pass: 310 no debug group of it is open
abbrev pub end_rules : ℕ → Command → List Rule
end_rules depth command = end_rules_by depth (bracket command)

-- the rules of a bind group that is set, or of null, which has nothing that its offsets could move
abbrev pub group_rules : ℕ → Option HandleValue → List ℕ → List Rule
group_rules index None offsets = unset_rules index offsets
group_rules index (Some group) offsets = set_rules index (known_group group) offsets

-- the rules of what a setting sets as a bind group, if it does
abbrev pub setting_group_rules : Setting HandleValue → List Rule
setting_group_rules (set_pipeline pipeline) = []
setting_group_rules (set_group index group offsets) = group_rules index group offsets
setting_group_rules (set_vertex_buffer slot buffer offset size) = []
setting_group_rules (set_index_buffer buffer format offset size) = []
setting_group_rules (set_viewport viewport) = []
setting_group_rules (set_scissor x y width height) = []
setting_group_rules set_unread = []

-- the rules of what a command sets as a bind group, by what it is to its pass
abbrev pub given_rules_by : Act HandleValue → List Rule
given_rules_by (begins begin) = []
given_rules_by (sets setting) = setting_group_rules setting
given_rules_by (runs running) = []
given_rules_by (occludes call) = []
given_rules_by (executes bundles) = []
given_rules_by neither = []

-- the rules of a bind group that a command sets, or of null
abbrev pub given_rules : Command → List Rule
given_rules command = given_rules_by (act command)

-- dispatches and draws: 340 a pipeline is set, and then the rules of the groups
abbrev pub ready_rules : Settings → List Rule
ready_rules set = (PIPELINE_IS_SET, is_some set.pipeline) ∷ bound_rules (owner_set set) (layouts_set set) set.groups

-- what is asked of an indirect buffer (WebGPU, "dispatchWorkgroupsIndirect" and "drawIndirect"): 344 it has INDIRECT 256; 345
-- the offset is a multiple of 4; 346 the bytes from there on fit
abbrev pub indirect_rules : HandleValue → ℕ → ℕ → List Rule
indirect_rules buffer offset bytes =
    (INDIRECT_BUFFER_HAS_INDIRECT, has_usage (buffer_of buffer).usage 256)
    ∷ ((INDIRECT_OFFSET_IS_ALIGNED, offset % 4 == 0)
    ∷ ((INDIRECT_ARGUMENTS_FIT_BUFFER, nat_le (offset + bytes) (buffer_of buffer).size)
    ∷ []))

-- an indirect call reads its numbers
abbrev pub indirect_touch : HandleValue → ℕ → ℕ → Touch
indirect_touch buffer offset bytes = (bytes_at buffer.reference.number offset bytes, (input_usage, Read))
