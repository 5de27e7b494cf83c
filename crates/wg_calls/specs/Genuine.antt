-- What is genuine stays so, and what genuine handles tell of bind groups.
use Rattle.std.specs.Prelude.{◌≡◌, ◌↔◌, ℕ, true, List, reverse, Some}
use mathlib.Core.List.{IsPrefix}
use Rattle.wg_types.specs.Handles.{HandleValue}
use Rattle.wg_types.specs.declared.groups.GroupInfo.{GroupInfo}
use Rattle.wg_model.specs.Bound.{known_group}
use Rattle.wg_history.specs.declared.events.Setup.{Setup}
use Rattle.wg_history.specs.Entries.{Entry}
use Rattle.wg_history.specs.Rules.{is_genuine}
use Rattle.wg_history.specs.Answers.{Run}
use Rattle.wg_history.specs.Exclusive.{IsGroupOf}

-- A handle that is genuine in a history is genuine in each history that begins with that one.
abbrev pub StaysGenuine : Type 0
StaysGenuine = (setup : Setup) (before after : List Entry) (handle : HandleValue)
    → IsPrefix before after → is_genuine setup (reverse before) handle ≡ true → is_genuine setup (reverse after) handle ≡ true

-- In a run, what a genuine handle knows of a valid bind group's layout is exclusive to a pipeline exactly where the group was made for
-- a layout that getBindGroupLayout made of that pipeline, which derived its layouts itself.
abbrev pub GroupsTellOwners : Type 0
GroupsTellOwners = (setup : Setup) (history : List Entry) (handle : HandleValue) (group : GroupInfo) (pipeline : ℕ)
    → Run setup history → is_genuine setup (reverse history) handle ≡ true → known_group handle ≡ Some group
    → (group.layout_info.exclusive ≡ Some pipeline) ↔ IsGroupOf setup (reverse history) handle.reference.number pipeline
