-- What is played for a script.
use Rattle.std.specs.Prelude.{◌≡◌, ℕ, List, [], map, length, Some}
use Rattle.wg_history.specs.declared.events.Setup.{Setup}
use Rattle.wg_history.specs.Entries.{Entry}
use Rattle.wg_core.specs.Cores.{CoreValue}
use Rattle.wg_script.specs.CallOf.{BoundCall}
use Rattle.wg_names.specs.Bound.{IsBound}
use Rattle.wg_play.specs.Turns.{callers_of}
use Rattle.wg_play.specs.Play.{Play, Interleaves}
use Rattle.wg_play.specs.Played.{IsPlayedThrough}

-- The history of a closed device is what the script gives where its lanes take turns as the history itself says, and the device
-- was asked for nothing else: in each phase every lane gives its own entries, and nobody any other. Where the names of the script
-- are bound, each call was played as what it is, and every handle that a lane sees is genuine. Where the device has one caller, no
-- other history is given by turns of that one alone.
pub record IsPlayedOut (setup : Setup) (phases : List (List (List BoundCall))) (callers : ℕ) (state : CoreValue) (entries : ℕ) : Type 0 where
  pub play : Play setup phases (callers_of state.history) ≡ Some state.history
  pub entries_are : entries ≡ length state.history
  pub interleaves : Interleaves setup phases [] state.history
  pub through : IsBound phases → IsPlayedThrough setup phases state.history
  pub zeros : callers ≡ 1 → callers_of state.history ≡ map (λ e. 0) state.history
  pub only : callers ≡ 1 → (h : List Entry) → Play setup phases (map (λ e. 0) h) ≡ Some h → h ≡ state.history
