-- What a clause of a device says of its passes.
use Rattle.std.specs.Prelude.{◌≡◌, ◌+◌, ◌^◌, ◌<◌, ◌≤◌, ◌++◌, [], ◌∷◌, List}
use mathlib.Core.List.{IsPrefix}
use Rattle.wg_trace.specs.declared.replies.Reply.{Reply}
use Rattle.wg_history.specs.declared.events.Setup.{Setup}
use Rattle.wg_history.specs.declared.events.Event.{Event}
use Rattle.wg_history.specs.Entries.{Entry}
use Rattle.wg_history.specs.Answers.{Run}
use Rattle.wg_core.specs.Cores.{CoreValue, SpentValue}
use Rattle.wg_turn.specs.declared.lock.TurnLock.{TurnLock}
use Rattle.wg_turn.specs.declared.lock.Pass.{Pass}
use Rattle.wg_turn.specs.Entries.{entry, EndsWith}
use Rattle.wg_turn.specs.Passes.{IsPassOf, IsSound, front_of, own_of, number_of, calls_of, opened_with}

-- the turn lock of a device
abbrev pub Lock : Type 0
Lock = TurnLock CoreValue Setup Event Reply SpentValue

-- a pass of a device's lock
abbrev pub DevicePass : Type 0
DevicePass = Pass CoreValue Setup Event Reply SpentValue

-- the history of a core
abbrev pub history_of : CoreValue → List Entry
history_of core = core.history

-- what the lock's device was opened with
abbrev pub setup_of : Lock → Setup
setup_of lock = (opened_with lock).setup

-- the history that a pass has seen
abbrev pub front_in : Lock → DevicePass → List Entry
front_in lock pass = front_of history_of lock pass

-- what the pass has seen is a run, and since the opening it has just the pass's own entries of its number
abbrev pub IsSoundIn : Lock → DevicePass → Type 0
IsSoundIn lock pass = IsSound history_of (λ c. c.setup) Run lock pass

-- the pass is of this device, and may call once more
abbrev pub CanCall : Lock → DevicePass → Type 0
CanCall lock pass = IsPassOf lock pass × (calls_of pass < 2 ^ 40)

-- A pass after a call, which was made or was not for want of memory. It is of this device and has its number, its calls are as many
-- as they were or one more, it is sound if it was, and the history that it has seen begins with what it had seen.
pub record HasCalled (lock : Lock) (old new : DevicePass) : Type 0 where
  pub of : IsPassOf lock new
  pub number : number_of new ≡ number_of old
  pub calls : calls_of new ≤ calls_of old + 1
  pub no_fewer : calls_of old ≤ calls_of new
  pub sound : IsSoundIn lock old → IsSoundIn lock new
  pub seen : IsPrefix (front_in lock old) (front_in lock new)

-- The pass has made one call more and is sound, what it has seen ends with the event and its reply, and so do its own entries.
pub record IsAct (lock : Lock) (old new : DevicePass) (event : Event) (reply : Reply) : Type 0 where
  pub calls : calls_of new ≡ calls_of old + 1
  pub sound : IsSoundIn lock new
  pub ends : EndsWith (front_in lock old) (front_in lock new) (entry (number_of old) event reply)
  pub own : own_of new ≡ own_of old ++ entry (number_of old) event reply ∷ []

-- what the pass has seen and has made is as it was
abbrev pub HasNotMade : Lock → DevicePass → DevicePass → Type 0
HasNotMade lock old new = (front_in lock new ≡ front_in lock old) × (own_of new ≡ own_of old)
