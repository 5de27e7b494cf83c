-- The recordings of command buffers that may still be submitted.
use Rattle.std.specs.Prelude.{◌≡◌, ℕ, ◌+◌, ◌++◌, Bool, true, ◌||◌, ◌==◌, nat_eq, List, [], Option, Some, None, option_and_then, option_to_list, length, if◌then◌else◌}
use Rattle.std.specs.List.{list_any, flat_map, AllByRecursion}
use Rattle.std.specs.Map.{lookup}
use Rattle.std.specs.Option.{option_map_or}
use Rattle.wg_types.specs.declared.commands.On.{On}
use Rattle.wg_types.specs.Commands.{Command}
use Rattle.wg_trace.specs.declared.steps.Deed.{Deed}
use Rattle.wg_trace.specs.declared.steps.Used.{Used}
use Rattle.wg_types.specs.declared.handles.ObjRef.{ObjRef}
use Rattle.wg_model.specs.Walk.{DeedsOf}
use Rattle.wg_encoder.specs.Recorders.{RecordingValue}
use Rattle.wg_encoder.specs.Uses.{used_once}
use Rattle.wg_history.specs.declared.events.Setup.{Setup}
use Rattle.wg_history.specs.declared.events.Event.{Event}
use Rattle.wg_history.specs.Entries.{recording_in, submitted, effects_of, Past}
use Rattle.wg_history.specs.Objects.{maker}
use Rattle.wg_history.specs.Rules.{drops, is_dropped, consumes, is_consumed}

-- the recordings that are kept, each with the number of its command buffer, and for how many more there is room
pub record RecordingsValue : Type 0 where
  pub kept : List (ℕ × RecordingValue)
  pub spare : ℕ

-- the recordings that were given back, and for how many more there is room
pub record SpentValue : Type 0 where
  pub handed : List RecordingValue
  pub room : ℕ

-- what is kept of object n
abbrev pub kept_at : List (ℕ × RecordingValue) → ℕ → Option RecordingValue
kept_at kept n = lookup (nat_eq n) kept

-- the commands of a recording, or none where there is none
abbrev pub commands_of : Option RecordingValue → List (On × Command)
commands_of o = option_map_or (λ (recording : RecordingValue). recording.commands) o []

-- what the commands of a recording do, or nothing where there is none
abbrev pub deeds_of : Option RecordingValue → List Deed
deeds_of o = option_map_or (λ (recording : RecordingValue). DeedsOf recording.maker recording.targets recording.commands) o []

-- the recording of the finish that made object n
abbrev pub recording_at : Past → ℕ → Option RecordingValue
recording_at past n = option_and_then (λ entry. recording_in entry.event) (maker past n)

-- No submit of object n is accepted any more.
abbrev pub is_spent : Setup → Past → ℕ → Bool
is_spent setup past n = is_consumed setup past n || is_dropped setup past n

-- whether some object of a list is spent
abbrev pub any_spent : Setup → Past → List ObjRef → Bool
any_spent setup past buffers = list_any (λ buffer. is_spent setup past buffer.number) buffers

-- a recording, or none where it is forgotten
abbrev pub forgotten : Bool → Option RecordingValue → Option RecordingValue
forgotten b recording = if b then None else recording

-- what is left of the recording of object n, of which nothing is once it is spent
abbrev pub left_at : Setup → Past → ℕ → Option RecordingValue
left_at setup past n = forgotten (is_spent setup past n) (recording_at past n)

-- Of each object just that recording is kept which is left of it.
pub record AreLeft (setup : Setup) (past : Past) (kept : List (ℕ × RecordingValue)) : Type 0 where
  pub each : (n : ℕ) → kept_at kept n ≡ left_at setup past n

-- Two keep the same recording of each object.
pub record SameKept (old new : List (ℕ × RecordingValue)) : Type 0 where
  pub each : (n : ℕ) → kept_at new n ≡ kept_at old n

-- What passes a test is kept no more.
pub record Forgets (test : ℕ → Bool) (old new : List (ℕ × RecordingValue)) : Type 0 where
  pub each : (n : ℕ) → kept_at new n ≡ forgotten (test n) (kept_at old n)

-- a recording, if there is one, in place of what was kept, where a test passes
abbrev pub put : Bool → Option RecordingValue → Option RecordingValue → Option RecordingValue
put b None recording = recording
put b (Some new) recording = if b then Some new else recording

-- a recording was kept under a number that passes a test
abbrev pub WasKept : (ℕ → Bool) → List (ℕ × RecordingValue) → RecordingValue → Type 0
WasKept test kept recording = (n : ℕ) × ((test n ≡ true) × (kept_at kept n ≡ Some recording))

-- recordings are handed out behind those of a list, each of which was kept under a number that passes a test
pub record HandsOut (test : ℕ → Bool) (kept : List (ℕ × RecordingValue)) (old new : List RecordingValue) : Type 0 where
  pub more : List RecordingValue
  pub is : new ≡ old ++ more
  pub each : AllByRecursion (WasKept test kept) more

-- a recording is that of a command buffer of which no submit is accepted any more
abbrev pub WasSpent : Setup → Past → RecordingValue → Type 0
WasSpent setup past recording = (n : ℕ) × ((is_spent setup past n ≡ true) × (recording_at past n ≡ Some recording))

-- recordings are handed out behind those of a list, each that of a command buffer of which no submit is accepted any more
pub record HandsOutSpent (setup : Setup) (past : Past) (old new : List RecordingValue) : Type 0 where
  pub more : List RecordingValue
  pub is : new ≡ old ++ more
  pub each : AllByRecursion (WasSpent setup past) more

-- A recording, if there is one, is kept under a number.
pub record Keeps (number : ℕ) (more : Option RecordingValue) (old new : List (ℕ × RecordingValue)) : Type 0 where
  pub each : (n : ℕ) → kept_at new n ≡ put (number == n) more (kept_at old n)

-- whether an entry of this event spends object n
abbrev pub spends : Setup → Past → Event → ℕ → Bool
spends setup past event n = consumes setup past event n || drops (is_dropped setup past n) setup past event n

-- how many recordings an entry of this event spends at most: those that it lists, and one that it drops
abbrev pub most_spent : Event → ℕ
most_spent event = length (submitted event) + length (option_to_list (effects_of event).dropped)

-- what the command buffers of a list use, of those whose recordings are kept
abbrev pub uses_left : List (ℕ × RecordingValue) → List ObjRef → List Used
uses_left kept buffers = flat_map (λ buffer. used_once (commands_of (kept_at kept buffer.number))) buffers
