-- Compute passes (WebGPU, "Compute Passes"): the rules of the commands, and what they do.
use Rattle.std.specs.Prelude.{ℕ, nat_le, ◌&&◌, List, [], ◌∷◌, ◌++◌, Option, Some, None}
use Rattle.wg_rules.specs.declared.TheConstants.{WORKGROUPS_ARE_WITHIN_LIMIT}
use Rattle.wg_types.specs.Commands.{Command, Act, begins, sets, runs, occludes, executes, neither, act}
use Rattle.wg_types.specs.Commands.{Running, dispatch, dispatch_indirect, draw, draw_indexed, draw_indirect, draw_indexed_indirect}
use Rattle.wg_types.specs.Handles.{HandleValue}
use Rattle.wg_trace.specs.declared.steps.StepName.TheVariants as name
use Rattle.wg_model.specs.Rules.{Rule}
use Rattle.wg_model.specs.Commands.{debug_rules}
use Rattle.wg_model.specs.Touches.{Touch, Doing}
use Rattle.wg_model.specs.Bound.{bound_touches}
use Rattle.wg_model.specs.Settings.{Settings, given_rules, layouts_set, end_rules, ready_rules, indirect_rules, indirect_touch}

-- how many workgroups a dispatch may have in each dimension
abbrev pub most_workgroups : ℕ
most_workgroups = 65535

-- dispatchWorkgroups: 343 the counts are within the limit
abbrev pub count_rules : ℕ → ℕ → ℕ → List Rule
count_rules x y z = (WORKGROUPS_ARE_WITHIN_LIMIT, nat_le x most_workgroups && nat_le y most_workgroups && nat_le z most_workgroups) ∷ []

-- the rules of what dispatches: those of the pipeline and its groups, and then those of its counts or of its buffer
abbrev pub dispatching_rules : Settings → Running HandleValue → List Rule
dispatching_rules set (dispatch x y z) = ready_rules set ++ count_rules x y z
dispatching_rules set (dispatch_indirect buffer offset) = ready_rules set ++ indirect_rules buffer offset 12
dispatching_rules set (draw vertices instances first_vertex first_instance) = []
dispatching_rules set (draw_indexed indices instances first_index first_instance) = []
dispatching_rules set (draw_indirect buffer offset) = []
dispatching_rules set (draw_indexed_indirect buffer offset) = []

-- the rules of a dispatch, by what a command is to its pass
abbrev pub dispatch_rules_by : Settings → Act HandleValue → List Rule
dispatch_rules_by set (begins begin) = []
dispatch_rules_by set (sets setting) = []
dispatch_rules_by set (runs running) = dispatching_rules set running
dispatch_rules_by set (occludes call) = []
dispatch_rules_by set (executes bundles) = []
dispatch_rules_by set neither = []

-- the rules of a command that dispatches, over what is set; other commands have none
abbrev pub dispatch_rules : Settings → Command → List Rule
dispatch_rules set command = dispatch_rules_by set (act command)

-- the rules of a command of a compute pass, over what is set, but for those on the objects that it names: of debug groups, of
-- the end, of a group that is set, and of dispatches
abbrev pub compute_rules : Settings → Command → List Rule
compute_rules set command = debug_rules set.depth command ++ (end_rules set.depth command ++ (given_rules command ++ dispatch_rules set command))

-- a dispatch touches what the groups bind at the indexes where its pipeline's layout has an entry
abbrev pub dispatch_touches : Settings → List Touch
dispatch_touches set = bound_touches (layouts_set set) set.groups

-- what a dispatch does over what is set: it touches what its pipeline's groups bind, and an indirect one reads its counts as
-- well
abbrev pub dispatching_does : Settings → Running HandleValue → Option Doing
dispatching_does set (dispatch x y z) = Some (name.Dispatch, dispatch_touches set)
dispatching_does set (dispatch_indirect buffer offset) = Some (name.Dispatch, dispatch_touches set ++ indirect_touch buffer offset 12 ∷ [])
dispatching_does set (draw vertices instances first_vertex first_instance) = None
dispatching_does set (draw_indexed indices instances first_index first_instance) = None
dispatching_does set (draw_indirect buffer offset) = None
dispatching_does set (draw_indexed_indirect buffer offset) = None

-- what a dispatch does, by what a command is to its pass
abbrev pub compute_does_by : Settings → Act HandleValue → Option Doing
compute_does_by set (begins begin) = None
compute_does_by set (sets setting) = None
compute_does_by set (runs running) = dispatching_does set running
compute_does_by set (occludes call) = None
compute_does_by set (executes bundles) = None
compute_does_by set neither = None

-- what a command of the pass does, if it makes a step
unfoldable pub compute_does : Settings → Command → Option Doing
compute_does set command = compute_does_by set (act command)
