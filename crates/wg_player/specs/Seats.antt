-- The bodies of a phase's lanes.
use Rattle.std.specs.Prelude.{◌≡◌, ℕ, zero, suc, ◌+◌, ◌++◌, [], ◌∷◌, List, true, length, map, flat_map}
use Rattle.wg_device.specs.declared.device.Device.{Device}
use Rattle.wg_device.specs.Fronts.{Lock, DevicePass}
use Rattle.wg_script.specs.CallOf.{BoundCall}
use Rattle.wg_play.specs.declared.objects.Object.{Object}
use Rattle.wg_play.specs.Sights.{Sight, SeesSame, sight_of}
use Rattle.wg_play.specs.Lanes.{count_made}
use Rattle.wg_player.specs.declared.lane.LaneRun.{LaneRun}
use Rattle.wg_player.specs.Moves.{MovesThrough, HaveAllMet}

-- the calls of lane n, or none where the phase has fewer lanes
abbrev pub calls_of : List (List BoundCall) → ℕ → List BoundCall
calls_of [] n = []
calls_of (calls ∷ lanes) zero = calls
calls_of (calls ∷ lanes) (suc n) = calls_of lanes n

-- the first slot of lane n, where the first of these lanes has that of `first`
abbrev pub first_of : ℕ → List (List BoundCall) → ℕ → ℕ
first_of first [] n = first
first_of first (calls ∷ lanes) zero = first
first_of first (calls ∷ lanes) (suc n) = first_of (first + count_made calls) lanes n

-- what lane n sees as its phase begins
abbrev pub sight_at : List Object → List (List BoundCall) → ℕ → Sight
sight_at objects lanes n = record { others = objects; first = first_of (length objects) lanes n; own = [] }

-- what a lane of a phase sees once it has made these
abbrev pub sight_with : List Object → List (List BoundCall) → ℕ → List Object → Sight
sight_with objects lanes n own = record { others = objects; first = first_of (length objects) lanes n; own = own }

module _ {G : Type 0} where
  -- a lane's body before it runs, and its pass
  abbrev pub BodyIsSeated : Device → List (List BoundCall) → List Object → DevicePass → LaneRun G → Type 0
  BodyIsSeated device lanes objects p b = (b.pass ≡ p) × (b.device.now ≡ device) × (b.calls.now ≡ calls_of lanes p.number)
      × (sight_of b.seen ≡ sight_at objects lanes p.number)

  abbrev pub BodiesAreSeated : Device → List (List BoundCall) → List Object → List DevicePass → List (LaneRun G) → Type 0
  BodiesAreSeated device lanes objects [] bodies = bodies ≡ []
  BodiesAreSeated device lanes objects (p ∷ ps) [] = ⊥
  BodiesAreSeated device lanes objects (p ∷ ps) (b ∷ bs) = BodyIsSeated device lanes objects p b × BodiesAreSeated device lanes objects ps bs

-- a body has run: what it was lent stays, and where it is through its pass has made the lane's entries
abbrev pub HasRun : {G : Type 0} → LaneRun G → LaneRun G → Type 0
HasRun b c = (c.device ≡ b.device) × (c.calls ≡ b.calls) × SeesSame b.seen c.seen
    × (c.through ≡ true → MovesThrough b.device.now.lock b.calls.now (sight_of b.seen) (sight_of c.seen) b.pass c.pass)

-- what each body did, from the pass that it was given: its pass afterwards, and what it made
abbrev pub HaveRun : Lock → List (List BoundCall) → List Object → List DevicePass → List (DevicePass × List Object) → Type 0
HaveRun lock lanes objects [] ends = ends ≡ []
HaveRun lock lanes objects (p ∷ ps) [] = ⊥
HaveRun lock lanes objects (p ∷ ps) (b ∷ bs) =
    MovesThrough lock (calls_of lanes p.number) (sight_at objects lanes p.number) (sight_with objects lanes p.number b.1) p b.0
    × HaveRun lock lanes objects ps bs

-- a phase was run: its lanes from these passes to those, which then met; and what was made
pub record HasRunPhase (lock : Lock) (lanes : List (List BoundCall)) (objects objects_after : List Object) (ps qs : List DevicePass) : Type 0 where
  pub ends : List (DevicePass × List Object)
  pub ran : HaveRun lock lanes objects ps ends
  pub met : HaveAllMet lock (map (λ b. b.0) ends) qs
  pub gathered : objects_after ≡ objects ++ flat_map (λ b. b.1) ends
