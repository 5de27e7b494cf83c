-- The laws of maps: a buffer is unmapped, pending or mapped, and a pending map waits for the last operation that uses its buffer.
use Rattle.std.specs.Prelude.{◌≡◌, ℕ, ◌<◌, ◌≤◌, true, false, List, [], ◌∷◌, All, count_by, reverse, None}
use Rattle.wg_types.specs.declared.commands.On.{On}
use Rattle.wg_types.specs.declared.commands.On.TheVariants.{Encoder, Pass}
use Rattle.wg_model.specs.Walk.{Kept, begins, has_ended}
use Rattle.wg_history.specs.Entries.{Setup, recorded_by, Entry, Past}
use Rattle.wg_history.specs.Operations.{last_use}
use Rattle.wg_history.specs.Loss.{Awaited, mapping, work, Wait, awaiting, is_map_of, is_pending}
use Rattle.wg_history.specs.Rules.{mapped_at}
use Rattle.wg_history.specs.Answers.{Run}

-- In a run at most one map of a buffer is pending.
abbrev pub MapsAreSingle : Type 0
MapsAreSingle = (setup : Setup) (history : List Entry) (n : ℕ) → Run setup history → count_by (is_map_of n) (awaiting (reverse history)) ≤ 1

-- In a run a buffer of which a map is pending is not mapped.
abbrev pub PendingIsUnmapped : Type 0
PendingIsUnmapped =
    (setup : Setup) (history : List Entry) (n : ℕ) → Run setup history → is_pending (reverse history) n ≡ true → mapped_at setup (reverse history) n ≡ None

-- A recorder keeps a command that stands on the encoder itself, or on a pass that was begun on it before and has not ended.
abbrev pub StandsOn : On → Kept → Type 0
StandsOn Encoder older = Unit {0}
StandsOn (Pass pass) older = (pass < begins older) × (has_ended older pass ≡ false)

-- All commands of a recording are such as a recorder keeps.
abbrev pub AllStand : Kept → Type 0
AllStand [] = Unit {0}
AllStand (kept ∷ older) = StandsOn kept.0 older × AllStand older

-- Each recording of a command buffer is such.
abbrev pub AreRecorded : Past → Type 0
AreRecorded [] = Unit {0}
AreRecorded (entry ∷ older) = AllStand (reverse (recorded_by entry.event)) × AreRecorded older

-- The number that a pending map waits for is that of the last operation which uses its buffer.
abbrev pub IsLastUse : Past → Awaited → Type 0
IsLastUse past (mapping buffer last m) = last ≡ last_use past buffer
IsLastUse past (work ops) = Unit {0}

-- In a run of recordings that recorders kept, a map waits for the last operation that uses its buffer: commands that are
-- accepted use no buffer as a texture or a query set, so no submit or write that meets its rules uses a buffer while a map of
-- it is pending.
abbrev pub MapsWaitForLast : Type 0
MapsWaitForLast = (setup : Setup) (history : List Entry) → Run setup history → AreRecorded (reverse history)
    → All (λ (wait : Wait). IsLastUse (reverse history) wait.awaited) (awaiting (reverse history))
