-- What a command does to what is set in a pass.
use Rattle.std.specs.Prelude.{ℕ, ◌+◌, Bool, List, [], ◌∷◌, Option, None, if◌then◌else◌}
use Rattle.std.specs.Option.{option_or}
use Rattle.wg_trace.specs.declared.steps.StepName.TheVariants.{Dispatch}
use Rattle.wg_types.specs.Commands.{Command}
use Rattle.wg_model.specs.Touches.{Touch, Doing}
use Rattle.wg_model.specs.Settings.{Settings, pipeline_given, slot_after, group_given, unsets, depth_after}

-- what stands in slots after one more command, which may put something into a slot, or empty one; the first of them has this
-- number
abbrev pub slots_after : {X : Type 0} → Option (ℕ × Option X) → ℕ → List (Option X) → List (Option X)
slots_after given at [] = []
slots_after given at (slot ∷ slots) = slot_after given at slot ∷ slots_after given (at + 1) slots

-- what stands in slots where all of them are emptied, or else as before
abbrev pub emptied : {X : Type 0} → Bool → List (Option X) → List (Option X)
emptied all [] = []
emptied all (slot ∷ slots) = (if all then None else slot) ∷ emptied all slots

-- what is set after one more command
abbrev pub settings_after : Settings → Command → Settings
settings_after set command =
    record {
      pipeline = if unsets command then None else option_or (pipeline_given command) set.pipeline;
      groups = emptied (unsets command) (slots_after (group_given command) 0 set.groups);
      depth = depth_after set.depth command;
    }

-- what is done by a dispatch that touches these
abbrev pub dispatching : List Touch → Doing
dispatching touches = (Dispatch, touches)
