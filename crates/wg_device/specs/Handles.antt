-- The handles that calls give, and when handles are genuine in what a pass has seen.
use Rattle.std.specs.Prelude.{◌≡◌, true, List, All, Some, reverse}
use Rattle.wg_types.specs.Handles.{HandleValue}
use Rattle.wg_types.specs.declared.textures.ViewAsked.{ViewAsked}
use Rattle.wg_types.specs.declared.textures.ViewDesc.{ViewDesc}
use Rattle.wg_types.specs.declared.wanted.Wanted.{Wanted}
use Rattle.wg_trace.specs.declared.replies.Reply.{Reply}
use Rattle.wg_types.specs.declared.requests.RequestOf.{RequestOf}
use Rattle.wg_history.specs.declared.events.Setup.{Setup}
use Rattle.wg_history.specs.Entries.{Entry}
use Rattle.wg_history.specs.Rules.{is_genuine}
use Rattle.wg_calls.specs.Calls.{handle_made}
use Rattle.wg_device.specs.Fronts.{Lock, DevicePass, setup_of, front_in}

-- the handle is of what a call of the device made that was replied to so
abbrev pub IsHandleOf : Lock → RequestOf HandleValue → Reply → HandleValue → Type 0
IsHandleOf lock request reply handle = handle_made (setup_of lock).serial request reply.answer ≡ Some handle

-- the handle is of an object of this device, and says of it what is so in this history
abbrev pub IsGenuine : Setup → List Entry → HandleValue → Type 0
IsGenuine setup history handle = is_genuine setup (reverse history) handle ≡ true

-- All handles that are named are genuine in a history.
abbrev pub AreGenuine : Setup → List Entry → List (HandleValue × Wanted) → Type 0
AreGenuine setup history handles = All (λ used. IsGenuine setup history used.0) handles

-- A handle is genuine in what a pass has seen.
abbrev pub IsGenuineIn : Lock → DevicePass → HandleValue → Type 0
IsGenuineIn lock pass handle = IsGenuine (setup_of lock) (front_in lock pass) handle

-- All handles that are named are genuine in what a pass has seen.
abbrev pub AreGenuineIn : Lock → DevicePass → List (HandleValue × Wanted) → Type 0
AreGenuineIn lock pass handles = AreGenuine (setup_of lock) (front_in lock pass) handles

-- a view that is asked for with no part left out
abbrev pub whole : ViewDesc → ViewAsked
whole desc = record {
  dim = Some desc.dim;
  aspect = desc.aspect;
  base_mip = desc.base_mip;
  mips = Some desc.mips;
  base_layer = desc.base_layer;
  layers = Some desc.layers;
}
