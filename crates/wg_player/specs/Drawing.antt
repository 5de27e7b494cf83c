-- What a call of a canvas has done with a pass.
use Rattle.std.specs.Prelude.{◌≡◌, [], List, Option, Some, None}
use Rattle.std.proofs.Common.{refl, append-nil}
use Rattle.std.proofs.Math.Nat.{le_refl, le-add_right}
use Rattle.wg_types.specs.Handles.{HandleValue}
use Rattle.wg_types.specs.declared.requests.RequestOf.{RequestOf}
use Rattle.wg_calls.specs.Calls.{event_asked, info_asked}
use Rattle.wg_history.specs.declared.events.Setup.{Setup}
use Rattle.wg_history.specs.Entries.{Entry}
use Rattle.wg_turn.specs.Passes.{own_of, calls_of}
use Rattle.wg_device.specs.Fronts.{Lock, DevicePass, setup_of, front_in, CanCall, HasCalled}
use Rattle.wg_player.specs.Moves.{PassHasAsked}

-- Where the call asked something of the device, the pass made one entry, of that, and this is the texture that was made for it, if one
-- was; where it asked nothing, the pass made no entry, and nothing was made.
abbrev pub HasAskedIf : Setup → Option (RequestOf HandleValue) → Option HandleValue → List Entry → List Entry → Type 0
HasAskedIf setup None given made made_after = (made_after ≡ made) × (given ≡ None)
HasAskedIf setup (Some request) given made made_after = PassHasAsked setup (event_asked request) (info_asked request) given made made_after

-- What a canvas asks was asked, if anything was, and what was made goes where it belongs.
pub record HasDrawn (setup : Setup) (asked : Option (RequestOf HandleValue)) (made made_after : List Entry) (goes : Option HandleValue → Type 0) : Type 0 where
  pub given : Option HandleValue
  pub was_asked : HasAskedIf setup asked given made made_after
  pub goes_to : goes given

-- What a canvas asks was asked with a pass of a device, between two moments, and what was made goes where it belongs.
abbrev pub HasDrawnBy : Lock → Option (RequestOf HandleValue) → DevicePass → DevicePass → (Option HandleValue → Type 0) → Type 0
HasDrawnBy lock asked old new goes = HasDrawn (setup_of lock) asked (own_of old) (own_of new) goes

-- A pass that may call, and does not, is one after a call too.
pub not_called : (lock : Lock) (pass : DevicePass) → CanCall lock pass → HasCalled lock pass pass
not_called lock pass can = record {
  of = can.0;
  number = refl;
  calls = le-add_right (calls_of pass) 1;
  no_fewer = le_refl (calls_of pass);
  sound = λ s. s;
  seen = ([], append-nil (front_in lock pass));
}
