-- A finish, of a bundle encoder too, and how what it took goes back where there was no memory.
use Rattle.std.specs.Prelude.{◌≡◌}
use Rattle.wg_encoder.specs.Recorders.{RecorderValue, IsTakenFrom, has_taken, restored}
use Rattle.wg_history.specs.declared.events.Event.{Event}
use Rattle.wg_history.specs.declared.events.Event.TheVariants.{Finish, FinishBundle}

-- the event has what the last take of the recorder gave
abbrev pub HasTaken : Event → RecorderValue → Type 0
HasTaken (Finish encoder recording) recorder = IsTakenFrom recording recorder
HasTaken (FinishBundle encoder recording) recorder = IsTakenFrom recording recorder
HasTaken _ recorder = ⊥

-- the recorder with that put back
abbrev pub given_back : Event → RecorderValue → RecorderValue
given_back (Finish encoder recording) recorder = restored recording recorder
given_back (FinishBundle encoder recording) recorder = restored recording recorder
given_back _ recorder = recorder

-- A recorder is as it was: of the same device and encoder, with the same targets, commands and passes, and ended exactly where it was; it
-- is equal to what it was but for how often it was taken, where that is at the end of its count.
pub record IsAsBefore (old new : RecorderValue) : Type 0 where
  pub maker : new.maker ≡ old.maker
  pub targets : new.targets ≡ old.targets
  pub encoder : new.encoder ≡ old.encoder
  pub commands : new.commands ≡ old.commands
  pub passes : new.passes ≡ old.passes
  pub ended : has_taken new ≡ has_taken old
