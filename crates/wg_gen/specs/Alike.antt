-- Every order of the turns of a generated script is counted alike.
use Rattle.std.specs.Prelude.{◌≡◌, ℕ, ◌+◌, ◌*◌, ◌≤◌, List, Some}
use Rattle.wg_history.specs.Entries.{Entry}
use Rattle.wg_play.specs.Play.{script_setup, Play}
use Rattle.wg_gen.specs.Generator.{phases_of, generated}
use Rattle.wg_gen.specs.Counts.{Tally, counts_in}

-- Each iteration makes four entries, two of which issue operations; creation, completion and destruction make the other 17. No
-- call has a fault, and each buffer is released.
abbrev pub counts_for : ℕ → ℕ → Tally
counts_for count lanes = record { entries = 17 + 4 * (count * lanes); ops = 2 * (count * lanes); faults = 0; frees = 8 }

-- So many iterations in so many lanes may be asked for: at least one of each, and at most 64 lanes.
pub record MayGenerate (count lanes : ℕ) : Type 0 where
  pub some : 1 ≤ count
  pub any : 1 ≤ lanes
  pub few : lanes ≤ 64
  pub all : count * lanes ≤ 8000

-- Whatever order the turns of the lanes are taken in, every history that the script gives is counted so.
abbrev pub CountsAlike : Type 0
CountsAlike = (count lanes : ℕ) → MayGenerate count lanes → (turns : List ℕ) (history : List Entry)
    → Play (script_setup (generated count lanes)) (phases_of count lanes) turns ≡ Some history
    → counts_in (script_setup (generated count lanes)) history ≡ counts_for count lanes
