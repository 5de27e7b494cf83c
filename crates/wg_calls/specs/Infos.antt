-- What the caller of a call and the device know of the object that it makes.
use Rattle.std.specs.Prelude.{◌≡◌, All, Option}
use Rattle.wg_types.specs.Handles.{HandleValue}
use Rattle.wg_types.specs.declared.handles.ObjRef.{ObjRef}
use Rattle.wg_types.specs.declared.handles.Info.{Info}
use Rattle.wg_types.specs.declared.requests.RequestOf.{RequestOf}
use Rattle.wg_types.specs.Requests.{named}
use Rattle.wg_history.specs.Objects.{info_made}
use Rattle.wg_calls.specs.Calls.{reference_of, known_by, event_asked, info_asked}

-- Where the handle of each object that a call names knows what is known of its reference, so much is known of the object that
-- the call makes as of that which its event makes.
abbrev pub InfoIsMade : Type 0
InfoIsMade = (known : ObjRef → Option Info) (request : RequestOf HandleValue)
    → All (λ used. known (reference_of used.0) ≡ known_by used.0) (named request)
    → info_asked request ≡ info_made known (event_asked request)
