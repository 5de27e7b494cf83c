-- Every handle that a lane keeps is genuine in what has happened.
use Rattle.std.specs.Prelude.{◌≡◌, ◌≢◌, ℕ, true, List, All, Option, Some, None}
use Rattle.wg_types.specs.Handles.{HandleValue}
use Rattle.wg_canvas.specs.Canvases.{texture_of}
use Rattle.wg_history.specs.declared.events.Setup.{Setup}
use Rattle.wg_history.specs.Entries.{Past}
use Rattle.wg_history.specs.Rules.{is_genuine}
use Rattle.wg_script.specs.CallOf.{BoundCall}
use Rattle.wg_play.specs.declared.objects.Object.{Object}
use Rattle.wg_play.specs.declared.objects.Object.TheVariants as object
use Rattle.wg_play.specs.Sights.{Sight}
use Rattle.wg_play.specs.Lanes.{LaneState, next_event, starts, gathered}
use Rattle.wg_play.specs.Turns.{Midway, lane_at, turned}
use Rattle.wg_play.specs.Play.{after_}

-- the texture of a canvas, if it has one
abbrev pub TextureIsGenuine : Setup → Past → Option HandleValue → Type 0
TextureIsGenuine setup past None = Unit {0}
TextureIsGenuine setup past (Some texture) = is_genuine setup past texture ≡ true

-- what is said of the handle of an object, and of the texture of a canvas and of each name of one, if there is one; a pass has none
abbrev pub EachHandle : (HandleValue → Type 0) → (Option HandleValue → Type 0) → Object → Type 0
EachHandle OfObject OfTexture (object.Made handle recorder) = OfObject handle
EachHandle OfObject OfTexture (object.Pass encoder number) = Unit {0}
EachHandle OfObject OfTexture (object.Canvas canvas) = OfTexture (texture_of canvas)
EachHandle OfObject OfTexture (object.Shown texture) = OfTexture texture

-- The handle of an object is genuine in a past, and so is that of the texture of a canvas.
abbrev pub HandleIsGenuine : Setup → Past → Object → Type 0
HandleIsGenuine setup past what = EachHandle (λ handle. is_genuine setup past handle ≡ true) (TextureIsGenuine setup past) what

-- The handles of all objects are genuine in a past.
abbrev pub HandlesAreGenuine : Setup → Past → List Object → Type 0
HandlesAreGenuine setup past objects = All (HandleIsGenuine setup past) objects

-- what a lane sees, of what others have made and of its own, is genuine
abbrev pub SeesGenuine : Setup → Past → Sight → Type 0
SeesGenuine setup past sight = HandlesAreGenuine setup past sight.others × HandlesAreGenuine setup past sight.own

-- What all lanes see is genuine in a past.
abbrev pub LanesSee : Setup → Past → List LaneState → Type 0
LanesSee setup past lanes = All (λ lane. SeesGenuine setup past lane.sight) lanes

-- Where the objects of earlier phases are genuine in a past, so is all that the lanes of the next phase see as it begins.
abbrev pub StartsGenuine : Type 0
StartsGenuine = (setup : Setup) (past : Past) (objects : List Object) (lanes : List (List BoundCall)) → HandlesAreGenuine setup past objects → LanesSee setup past (starts objects lanes)

-- Where all that the lanes of a phase see is genuine in its past, whatever that is, and one of them takes a turn, then all that they
-- see after it is genuine in the past after it. The device's serial is not 0, as which a slot counts that stands for no object.
abbrev pub TurnsGenuine : Type 0
TurnsGenuine = (setup : Setup) → setup.serial ≢ 0
    → (before after : Midway next_event (after_ setup)) (n : ℕ)
    → turned next_event (after_ setup) setup before n (lane_at next_event (after_ setup) before.lanes n) ≡ Some after
    → LanesSee setup before.past before.lanes → LanesSee setup after.past after.lanes

-- Where all that the lanes of a phase see is genuine in a past, and what there was before them, so is what there is once the phase is
-- through.
abbrev pub GathersGenuine : Type 0
GathersGenuine = (setup : Setup) (past : Past) (objects : List Object) (lanes : List LaneState) → HandlesAreGenuine setup past objects → LanesSee setup past lanes → HandlesAreGenuine setup past (gathered objects lanes)
