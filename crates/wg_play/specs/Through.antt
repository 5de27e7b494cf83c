-- The lanes of a history: each goes through its calls, which are kept or answered.
use Rattle.std.specs.Prelude.{◌≡◌, List, [], All, map}
use Rattle.wg_history.specs.declared.events.Setup.{Setup}
use Rattle.wg_history.specs.Entries.{Entry, Past}
use Rattle.wg_history.specs.Answers.{reply_to}
use Rattle.wg_play.specs.Lanes.{LaneState, settle, next_event}
use Rattle.wg_play.specs.Late.{Answered, IsAnsweredCall, after_calls}
use Rattle.wg_play.specs.Play.{after_}
use Rattle.wg_play.specs.Turns.{GivesEvents, after_all}

-- an entry of a history, which has the one reply to its event after some past
pub record IsReplied (setup : Setup) (entry : Entry) : Type 0 where
  pub past : Past
  pub is : entry.reply ≡ reply_to setup past entry.event

-- The entries take a lane through all its calls: each with an answer, where what makes an object is answered that this was made.
pub record GoesThrough (setup : Setup) (lane : LaneState) (entries : List Entry) : Type 0 where
  pub calls : List Answered
  pub are : map (λ call. call.0) calls ≡ lane.left
  pub answered : All IsAnsweredCall calls
  pub end : settle (after_all next_event (after_ setup) lane entries) ≡ record { sight = after_calls setup lane.sight calls; left = [] }

-- What is said of the calls of lanes with any answers is said of the lanes of each history.
abbrev pub LanesGoThrough : Type 0
LanesGoThrough = (setup : Setup) (lane : LaneState) (entries : List Entry) → All (IsReplied setup) entries → GivesEvents next_event (after_ setup) lane entries → GoesThrough setup lane entries
