-- What null leaves of what commands have set, what a null layout asks for, and how often bundles draw (WebGPU, "setBindGroup",
-- "setVertexBuffer", "Pipeline Layout Creation" and "executeBundles").
use Rattle.std.specs.Prelude.{◌≡◌, ℕ, ◌+◌, ◌==◌, Bool, true, false, List, [], ◌∷◌, reverse, Option, Some, None, slice_get}
use Rattle.std.specs.List.{count_by, list_any}
use Rattle.wg_types.specs.Handles.{HandleValue}
use Rattle.wg_types.specs.Commands.{Command, Act, begins, sets, runs, occludes, executes, neither, act}
use Rattle.wg_types.specs.Commands.{Running, dispatch, dispatch_indirect, draw, draw_indexed, draw_indirect, draw_indexed_indirect}
use Rattle.wg_types.specs.declared.commands.CommandOf.TheVariants.{SetBindGroup, SetVertexBuffer, ExecuteBundles}
use Rattle.wg_types.specs.declared.commands.BoundGroup.{BoundGroup}
use Rattle.wg_types.specs.declared.commands.On.{On}
use Rattle.wg_types.specs.declared.groups.GroupLayoutInfo.{GroupLayoutInfo}
use Rattle.wg_types.specs.declared.handles.Info.{Info}
use Rattle.wg_types.specs.declared.handles.ObjRef.{ObjRef}
use Rattle.wg_types.specs.declared.limits.Maker.{Maker}
use Rattle.wg_types.specs.declared.render.TargetInfo.{TargetInfo}
use Rattle.wg_model.specs.Bound.{layout_fits, index_places}
use Rattle.wg_model.specs.Holding.{is_among}
use Rattle.wg_model.specs.Making.{pipeline_layout_made}
use Rattle.wg_model.specs.Settings.{pipeline_set, group_set}
use Rattle.wg_model.specs.Touches.{Touch}
use Rattle.wg_model.specs.Render.{vertex_set, index_set, touches_over, executed_draws, draws_of}
use Rattle.wg_model.specs.Walk.{Verdict, bundled, bundle_of}
use Rattle.wg_history.specs.declared.events.Setup.{Setup}
use Rattle.wg_history.specs.declared.events.Event.TheVariants.{CreatePipelineLayout, FinishBundle}
use Rattle.wg_history.specs.Entries.{Entry}
use Rattle.wg_history.specs.Objects.{is_valid}
use Rattle.wg_history.specs.Held.{refers_made}
use Rattle.wg_history.specs.Answers.{Run}
use Rattle.wg_history.specs.Exclusive.{event_at}
use Rattle.wg_shaped.specs.Bundled.{MayStand}

-- Where null is set as a bind group, none is set at its index, and all else is set as before; what a pass or a bundle touches stays, so
-- that a group that was set before counts in its scope.
pub record NullLeaves (earlier : List Command) (index : ℕ) (offsets : List ℕ) : Type 0 where
  pub unset : group_set (SetBindGroup index None offsets ∷ earlier) index ≡ None
  pub others : (at : ℕ) → (index == at) ≡ false → group_set (SetBindGroup index None offsets ∷ earlier) at ≡ group_set earlier at
  pub pipeline : pipeline_set (SetBindGroup index None offsets ∷ earlier) ≡ pipeline_set earlier
  pub vertex : (at : ℕ) → vertex_set (SetBindGroup index None offsets ∷ earlier) at ≡ vertex_set earlier at
  pub index_buffer : index_set (SetBindGroup index None offsets ∷ earlier) ≡ index_set earlier
  pub touches : (queries : Option (ℕ × ℕ)) (first : List Touch) → touches_over queries first (SetBindGroup index None offsets ∷ earlier) ≡ touches_over queries first earlier

-- Null as a bind group unsets what is set at its index.
abbrev pub NullUnsetsGroup : Type 0
NullUnsetsGroup = (earlier : List Command) (index : ℕ) (offsets : List ℕ) → NullLeaves earlier index offsets

-- Where null is set as a vertex buffer, none is set in its slot, and all else is set as before; what is touched stays.
pub record NullVertexLeaves (earlier : List Command) (slot offset : ℕ) (size : Option ℕ) : Type 0 where
  pub unset : vertex_set (SetVertexBuffer slot None offset size ∷ earlier) slot ≡ None
  pub others : (at : ℕ) → (slot == at) ≡ false → vertex_set (SetVertexBuffer slot None offset size ∷ earlier) at ≡ vertex_set earlier at
  pub pipeline : pipeline_set (SetVertexBuffer slot None offset size ∷ earlier) ≡ pipeline_set earlier
  pub groups : (at : ℕ) → group_set (SetVertexBuffer slot None offset size ∷ earlier) at ≡ group_set earlier at
  pub index_buffer : index_set (SetVertexBuffer slot None offset size ∷ earlier) ≡ index_set earlier
  pub touches : (queries : Option (ℕ × ℕ)) (first : List Touch) → touches_over queries first (SetVertexBuffer slot None offset size ∷ earlier) ≡ touches_over queries first earlier

-- Null as a vertex buffer unsets what is set in its slot.
abbrev pub NullUnsetsVertex : Type 0
NullUnsetsVertex = (earlier : List Command) (slot offset : ℕ) (size : Option ℕ) → NullVertexLeaves earlier slot offset size

-- A layout has no entry and is exclusive to no pipeline, so that any group fits it, or none, and it has nothing bound.
pub record IsBare (layout : GroupLayoutInfo) : Type 0 where
  pub entries : layout.entries ≡ []
  pub exclusive : layout.exclusive ≡ None
  pub fits : (owner : Option ℕ) (group : Option BoundGroup) → layout_fits owner layout group ≡ true
  pub binds : (group : Option BoundGroup) → index_places layout group ≡ []

-- Such a layout is at an index.
pub record HasBare (layouts : List GroupLayoutInfo) (index : ℕ) : Type 0 where
  pub layout : GroupLayoutInfo
  pub there : slice_get layouts index ≡ Some layout
  pub bare : IsBare layout

-- What is known of a pipeline layout has such a layout at the index of each null, whatever is known of others.
abbrev pub NullLayoutsAreBare : Type 0
NullLayoutsAreBare =
    (known : ObjRef → Option Info) (layouts : List (Option ObjRef)) (index : ℕ)
    → slice_get layouts index ≡ Some None
    → HasBare (pipeline_layout_made (λ r. r) known layouts).layouts_info index

-- whether a layout that is given, and no null, is the object of a number
abbrev pub is_layout : ℕ → Option ObjRef → Bool
is_layout n None = false
is_layout n (Some layout) = layout.number == n

-- A pipeline layout refers to the layouts that it is given, and for a null to no object.
abbrev pub OnlyGivenAreReferred : Type 0
OnlyGivenAreReferred = (layouts : List (Option ObjRef)) (n : ℕ) → is_among (refers_made (CreatePipelineLayout layouts)) n ≡ list_any (is_layout n) layouts

-- whether something that runs draws
abbrev pub running_is_draw : Running HandleValue → Bool
running_is_draw (dispatch x y z) = false
running_is_draw (dispatch_indirect buffer offset) = false
running_is_draw (draw vertices instances first_vertex first_instance) = true
running_is_draw (draw_indexed indices instances first_index first_instance) = true
running_is_draw (draw_indirect buffer offset) = true
running_is_draw (draw_indexed_indirect buffer offset) = true

-- whether a command draws, by what it is to its pass
abbrev pub is_draw_by : Act HandleValue → Bool
is_draw_by (begins begin) = false
is_draw_by (sets setting) = false
is_draw_by (runs running) = running_is_draw running
is_draw_by (occludes call) = false
is_draw_by (executes bundles) = false
is_draw_by neither = false

-- whether a command draws by itself
abbrev pub is_draw : Command → Bool
is_draw command = is_draw_by (act command)

-- A bundle draws as often as it has commands that draw, if no rule of its commands is unmet.
abbrev pub BundlesDrawTheirDraws : Type 0
BundlesDrawTheirDraws =
    (made_by : Maker) (targets : TargetInfo) (commands : List (On × Command))
    → MayStand commands
    → Verdict made_by (Some targets) commands ≡ None
    → (bundle_of made_by (Some targets) commands).draws ≡ count_by is_draw (bundled commands)

-- So does each valid bundle of a history whose replies are the right ones.
abbrev pub HistoryDrawsItsDraws : Type 0
HistoryDrawsItsDraws =
    (setup : Setup) (history : List Entry) (bundle : ℕ) (encoder : ObjRef) (made_by : Maker) (targets : TargetInfo) (commands : List (On × Command))
    → Run setup history
    → is_valid (reverse history) bundle ≡ true
    → event_at (reverse history) bundle ≡ Some (FinishBundle encoder (record { maker = made_by; targets = Some targets; commands = commands }))
    → MayStand commands
    → (bundle_of made_by (Some targets) commands).draws ≡ count_by is_draw (bundled commands)

-- A pass draws, by executing bundles, as often as they do, beside what it has drawn before, which this does not unset.
abbrev pub ExecutedBundlesAdd : Type 0
ExecutedBundlesAdd = (earlier : List Command) (bundles : List HandleValue) → draws_of (ExecuteBundles bundles ∷ earlier) ≡ draws_of earlier + executed_draws bundles
