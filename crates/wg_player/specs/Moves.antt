-- What a lane's body has done.
use Rattle.std.specs.Prelude.{◌≡◌, ◌⊎◌, ℕ, suc, ◌++◌, [], ◌∷◌, List, Option, Some, None, drop, length}
use mathlib.Core.List.{IsPrefix}
use Rattle.wg_history.specs.declared.events.Setup.{Setup}
use Rattle.wg_history.specs.Entries.{Entry}
use Rattle.wg_history.specs.declared.events.Event.{Event}
use Rattle.wg_turn.specs.Passes.{IsPassOf, IsSamePass, own_of}
use Rattle.wg_device.specs.Fronts.{Lock, DevicePass, setup_of, front_in, IsSoundIn}
use Rattle.wg_types.specs.Handles.{HandleValue}
use Rattle.wg_types.specs.declared.handles.Info.{Info}
use Rattle.wg_script.specs.CallOf.{BoundCall}
use Rattle.wg_play.specs.declared.seen.LaneSight.{LaneSight}
use Rattle.wg_play.specs.Sights.{Sight, sight_of}
use Rattle.wg_play.specs.Lanes.{LaneState, handle_known, event_of, answered_by, kept, settle, next_event, after_reply}

-- the entries are the lane's events in order, and take it to another
abbrev pub Goes : Setup → LaneState → List Entry → LaneState → Type 0
Goes setup w [] v = settle w ≡ settle v
Goes setup w (e ∷ es) v = (next_event w ≡ Some e.event) × Goes setup (after_reply setup w e.reply) es v

-- A pass made one entry, of this event, and the handle is of what the device made, if it made something, of which so much is known.
pub record PassHasAsked (setup : Setup) (event : Event) (known : Option Info) (handle : Option HandleValue) (made made_after : List Entry) : Type 0 where
  pub entry : Entry
  pub grown : made_after ≡ made ++ entry ∷ []
  pub event_is : entry.event ≡ event
  pub handle_is : handle ≡ handle_known setup known entry.reply.answer

-- An event was asked with a pass of a device, between two moments, and its handle is that of what it made.
abbrev pub HasAskedBy : Lock → Event → Option Info → Option HandleValue → DevicePass → DevicePass → Type 0
HasAskedBy lock event known handle old new = PassHasAsked (setup_of lock) event known handle (own_of old) (own_of new)

-- a pass made one entry, that of a call
pub record PassHasSent (setup : Setup) (sight sight_after : Sight) (call : BoundCall) (made made_after : List Entry) : Type 0 where
  pub entry : Entry
  pub grown : made_after ≡ made ++ entry ∷ []
  pub event : entry.event ≡ event_of sight call
  pub sent : kept sight call ≡ None
  pub sees : sight_after ≡ answered_by setup sight call entry.reply.answer

-- a call was kept, by a recorder or by a canvas, and made no entry
pub record PassHasKept (sight sight_after : Sight) (call : BoundCall) (made made_after : List Entry) : Type 0 where
  pub kept : kept sight call ≡ Some sight_after
  pub same : made_after ≡ made

-- a call was played, as an event or as a call that is none
abbrev pub HasPlayed : Setup → Sight → Sight → BoundCall → List Entry → List Entry → Type 0
HasPlayed setup sight sight_after call made made_after =
    PassHasSent setup sight sight_after call made made_after ⊎ PassHasKept sight sight_after call made made_after

-- A call was played with a pass of a device, by a lane that saw the one and then the other.
abbrev pub HasPlayedBy : Lock → LaneSight → LaneSight → BoundCall → DevicePass → DevicePass → Type 0
HasPlayedBy lock seen seen_after call old new = HasPlayed (setup_of lock) (sight_of seen) (sight_of seen_after) call (own_of old) (own_of new)

-- From one moment to another a pass saw more, and its own entries grew by those that take the one lane to the other.
pub record PassMoves (setup : Setup) (lock : Lock) (lane lane_after : LaneState) (old new : DevicePass) : Type 0 where
  pub entries : List Entry
  pub grown : own_of new ≡ own_of old ++ entries
  pub seen : IsPrefix (front_in lock old) (front_in lock new)
  pub number : new.number ≡ old.number
  pub of : IsPassOf lock old → IsPassOf lock new
  pub sound : IsSoundIn lock old → IsSoundIn lock new
  pub goes : Goes setup lane entries lane_after

-- the lane of a body, k calls on
abbrev pub lane_at : Sight → List BoundCall → ℕ → LaneState
lane_at sight calls k = record { sight = sight; left = drop k calls }

-- a pass went through all the calls of a lane
abbrev pub MovesThrough : Lock → List BoundCall → Sight → Sight → DevicePass → DevicePass → Type 0
MovesThrough lock calls sight sight_after old new =
    PassMoves (setup_of lock) lock (lane_at sight calls 0) (lane_at sight_after calls (length calls)) old new

-- two passes have met
pub record HaveMet (lock : Lock) (a b a_after b_after : DevicePass) : Type 0 where
  pub first : IsPassOf lock a_after × IsSamePass a a_after × IsSoundIn lock a_after
  pub second : IsPassOf lock b_after × IsSamePass b b_after × IsSoundIn lock b_after
  pub same : front_in lock a_after ≡ front_in lock b_after
  pub one : (front_in lock a_after ≡ front_in lock a) ⊎ (front_in lock a_after ≡ front_in lock b)
  pub begun_first : IsPrefix (front_in lock a) (front_in lock a_after)
  pub begun_second : IsPrefix (front_in lock b) (front_in lock a_after)

-- one pass met each of the others in turn
abbrev pub MeetsEach : Lock → DevicePass → List DevicePass → DevicePass → List DevicePass → Type 0
MeetsEach lock hub [] hub_after after = (hub_after ≡ hub) × (after ≡ [])
MeetsEach lock hub (p ∷ ps) hub_after after = (mid : DevicePass) × (q : DevicePass) × (rest : List DevicePass) × (after ≡ q ∷ rest)
    × HaveMet lock hub p mid q × MeetsEach lock mid ps hub_after rest

-- All passes are of this device.
abbrev pub ArePassesOf : Lock → List DevicePass → Type 0
ArePassesOf lock [] = Unit {0}
ArePassesOf lock (p ∷ ps) = IsPassOf lock p × ArePassesOf lock ps

-- All passes are sound in this device.
abbrev pub AreSoundIn : Lock → List DevicePass → Type 0
AreSoundIn lock [] = Unit {0}
AreSoundIn lock (p ∷ ps) = IsSoundIn lock p × AreSoundIn lock ps

-- Passes have met where they have seen this and no more, which begins with what each had seen.
abbrev pub MetAt : Lock → List Entry → List DevicePass → List DevicePass → Type 0
MetAt lock front [] [] = Unit {0}
MetAt lock front (p ∷ ps) (q ∷ qs) = IsPassOf lock q × IsSamePass p q × IsSoundIn lock q × (front_in lock q ≡ front)
    × IsPrefix (front_in lock p) front × MetAt lock front ps qs
MetAt lock front _ _ = ⊥

-- All passes have met, and see one history.
abbrev pub HaveAllMet : Lock → List DevicePass → List DevicePass → Type 0
HaveAllMet lock old new = (front : List Entry) × MetAt lock front old new

-- the passes have the numbers from n on, and are where they are after all have met at this front
abbrev pub AllPassesAt : Lock → ℕ → List DevicePass → List Entry → Type 0
AllPassesAt lock n [] front = Unit {0}
AllPassesAt lock n (p ∷ ps) front = (p.number ≡ n) × IsPassOf lock p × (front_in lock p ≡ front) × IsSoundIn lock p × AllPassesAt lock (suc n) ps front
