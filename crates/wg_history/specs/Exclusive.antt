-- The laws of bind group layouts that getBindGroupLayout made (WebGPU, "getBindGroupLayout"): what entries they have, to which
-- pipeline they are exclusive, and so which pipelines the bind groups serve that were made for them.
use Rattle.std.specs.Prelude.{◌≡◌, ◌↔◌, ℕ, ◌==◌, true, false, List, reverse, Option, Some, None, option_map, slice_get, slice_index_or}
use Rattle.std.specs.Option.{option_map_or}
use Rattle.wg_rules.specs.declared.TheConstants.{GROUPS_FIT_PIPELINE}
use Rattle.wg_types.specs.Handles.{HandleValue}
use Rattle.wg_types.specs.declared.handles.Info.TheVariants.{GroupLayout, Group}
use Rattle.wg_types.specs.declared.bindings.GroupEntryOf.{GroupEntryOf}
use Rattle.wg_types.specs.declared.groups.GroupLayoutInfo.{GroupLayoutInfo}
use Rattle.wg_types.specs.declared.groups.GroupInfo.{GroupInfo}
use Rattle.wg_types.specs.declared.commands.BoundGroup.{BoundGroup}
use Rattle.wg_model.specs.Rules.{first_unmet}
use Rattle.wg_model.specs.Bound.{is_automatic, layouts_in, has_entries}
use Rattle.wg_model.specs.Automatic.{known_layouts}
use Rattle.wg_model.specs.Settings.{Settings, ready_rules}
use Rattle.wg_history.specs.Entries.{Setup, Event, CreateBindGroup, GetBindGroupLayout, Entry, Past}
use Rattle.wg_history.specs.Objects.{ObjRef, maker, info_at, is_valid}
use Rattle.wg_history.specs.Rules.{is_genuine}
use Rattle.wg_history.specs.Answers.{Run}

-- the event that made object n
abbrev pub event_at : Past → ℕ → Option Event
event_at past n = option_map (λ (entry : Entry). entry.event) (maker past n)

-- An event got a layout of this pipeline of the device, which derived its layouts itself.
pub record IsOfAutomatic (setup : Setup) (past : Past) (layout pipeline : ℕ) : Type 0 where
  pub index : ℕ
  pub got : event_at past layout ≡ Some (GetBindGroupLayout (record { device = setup.serial; number = pipeline }) index)
  pub automatic : option_map_or is_automatic (info_at past pipeline) false ≡ true

-- A bind group was made for such a layout.
pub record IsGroupOf (setup : Setup) (past : Past) (group pipeline : ℕ) : Type 0 where
  pub layout : ObjRef
  pub entries : List (GroupEntryOf ObjRef)
  pub made : event_at past group ≡ Some (CreateBindGroup layout entries)
  pub of_automatic : IsOfAutomatic setup past layout.number pipeline

-- The entries of a layout are those of the layout at an index of a pipeline.
pub record AreEntriesAt (layout : GroupLayoutInfo) (layouts : List GroupLayoutInfo) (index : ℕ) : Type 0 where
  pub one : GroupLayoutInfo
  pub there : slice_get layouts index ≡ Some one
  pub same : layout.entries ≡ one.entries

-- In a run, a valid layout that was got of a pipeline has the entries of that group of the pipeline's layout.
abbrev pub EntriesAreGot : Type 0
EntriesAreGot = (setup : Setup) (history : List Entry) (n index : ℕ) (pipeline : ObjRef) (layout : GroupLayoutInfo)
    → Run setup history → is_valid (reverse history) n ≡ true → info_at (reverse history) n ≡ Some (GroupLayout layout)
    → event_at (reverse history) n ≡ Some (GetBindGroupLayout pipeline index)
    → AreEntriesAt layout (known_layouts (info_at (reverse history) pipeline.number)) index

-- In a run, a valid layout is exclusive to a pipeline exactly where it was got of it, and the pipeline derived its layouts itself.
abbrev pub LayoutsAreExclusive : Type 0
LayoutsAreExclusive = (setup : Setup) (history : List Entry) (n pipeline : ℕ) (layout : GroupLayoutInfo)
    → Run setup history → is_valid (reverse history) n ≡ true → info_at (reverse history) n ≡ Some (GroupLayout layout)
    → (layout.exclusive ≡ Some pipeline) ↔ IsOfAutomatic setup (reverse history) n pipeline

-- In a run, what a valid bind group knows of its layout is exclusive to a pipeline exactly where the group was made for a
-- layout that was got of the pipeline, which derived its layouts itself.
abbrev pub GroupsAreExclusive : Type 0
GroupsAreExclusive = (setup : Setup) (history : List Entry) (n pipeline : ℕ) (group : GroupInfo)
    → Run setup history → is_valid (reverse history) n ≡ true → info_at (reverse history) n ≡ Some (Group group)
    → (group.layout_info.exclusive ≡ Some pipeline) ↔ IsGroupOf setup (reverse history) n pipeline

-- A bind group, valid or not, that was made for a layout of a pipeline which derived its layouts itself lets no other pipeline run,
-- automatic or not: 341 is the first unmet rule of a dispatch or a draw where it is set at an index at which the layout of the
-- pipeline that is set has an entry.
abbrev pub GroupsServeOne : Type 0
GroupsServeOne = (setup : Setup) (history : List Entry) (set : Settings) (pipeline : HandleValue) (bound : BoundGroup) (layout : GroupLayoutInfo) (other index : ℕ)
    → Run setup history
    → set.pipeline ≡ Some pipeline → slice_get (layouts_in pipeline.info) index ≡ Some layout → has_entries layout ≡ true
    → slice_index_or set.groups index None ≡ Some bound → is_genuine setup (reverse history) bound.group ≡ true
    → IsGroupOf setup (reverse history) bound.group.reference.number other
    → (pipeline.reference.number == other) ≡ false
    → first_unmet (ready_rules set) ≡ Some GROUPS_FIT_PIPELINE
