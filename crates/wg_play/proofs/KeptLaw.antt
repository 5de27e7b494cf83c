-- Every handle that a lane keeps is genuine: as a phase begins, at each turn, and once it is through.
use Rattle.std.proofs.Common.{◌≡◌, ◌≢◌, ℕ, zero, suc, ◌+◌, Option, Some, None, List, [], ◌∷◌, ◌++◌, length, set, refl, subst}
use Rattle.std.proofs.lemmas.List.Elements.{All-nil, All-cons, All-head, All-tail, All-append, All-set, All-weaker}
use Rattle.wg_trace.specs.declared.replies.Reply.{Reply}
use Rattle.wg_history.specs.declared.events.Setup.{Setup}
use Rattle.wg_history.specs.declared.events.Event.{Event}
use Rattle.wg_history.specs.Entries.{Entry, Past}
use Rattle.wg_history.specs.Answers.{reply_to}
use Rattle.wg_script.specs.CallOf.{BoundCall}
use Rattle.wg_play.specs.declared.objects.Object.{Object}
use Rattle.wg_play.specs.Sights.{Sight}
use Rattle.wg_play.specs.Lanes.{LaneState, next_of, next_event, after_of, settle, count_made, starts_from}
use Rattle.wg_play.specs.Turns.{Midway, lane_at, taken, turned}
use Rattle.wg_play.specs.Play.{after_}
use Rattle.wg_play.specs.Kept.{HandleIsGenuine, HandlesAreGenuine, SeesGenuine, LanesSee, StartsGenuine, TurnsGenuine, GathersGenuine}
use Rattle.wg_play.proofs.Keeping.{sees_more, settled_sees, answered_sees}

-- what one lane sees
abbrev LaneSees : Setup → Past → LaneState → Type 0
LaneSees setup past lane = SeesGenuine setup past lane.sight

-- ---- a phase begins

from_sees : (setup : Setup) (past : Past) (objects : List Object) (first : ℕ) (lanes : List (List BoundCall)) → HandlesAreGenuine setup past objects → LanesSee setup past (starts_from objects first lanes)
from_sees setup past objects first [] all = All-nil (LaneSees setup past)
from_sees setup past objects first (calls ∷ lanes) all =
    All-cons (LaneSees setup past) (record { sight = record { others = objects; first = first; own = [] }; left = calls }) (starts_from objects (first + count_made calls) lanes)
    (all, All-nil (HandleIsGenuine setup past)) (from_sees setup past objects (first + count_made calls) lanes all)

pub starts_genuine : StartsGenuine
starts_genuine setup past objects lanes all = from_sees setup past objects (length objects) lanes all

-- ---- a turn

lanes_more : (setup : Setup) (entry : Entry) (past : Past) (lanes : List LaneState) → LanesSee setup past lanes → LanesSee setup (entry ∷ past) lanes
lanes_more setup entry past lanes all = All-weaker (LaneSees setup past) (LaneSees setup (entry ∷ past)) (λ lane sees. sees_more setup entry past lane.sight sees) lanes all

lane_sees : (setup : Setup) (past : Past) (lanes : List LaneState) (n : ℕ) (w : LaneState) → LanesSee setup past lanes → lane_at next_event (after_ setup) lanes n ≡ Some w → LaneSees setup past w
lane_sees setup past [] n w all at = absurd (cc (at))
lane_sees setup past (lane ∷ lanes) zero w all at = let same : lane ≡ w = cc (at) in subst (LaneSees setup past) same (All-head (LaneSees setup past) lane lanes all)
lane_sees setup past (lane ∷ lanes) (suc n) w all at = lane_sees setup past lanes n w (All-tail (LaneSees setup past) lane lanes all) at

-- a lane at its next event, once that was replied to
after_sees : (setup : Setup) → setup.serial ≢ 0 → (entry : Entry) (past : Past) (sight : Sight) (left : List BoundCall) → SeesGenuine setup past sight
    → next_of sight left ≡ Some entry.event → entry.reply ≡ reply_to setup past entry.event → LaneSees setup (entry ∷ past) (after_of setup sight entry.reply left)
after_sees setup some entry past sight [] sees next replied = absurd (cc (next))
after_sees setup some entry past sight (call ∷ calls) sees next replied = answered_sees setup some entry past sight call sees (cc (next)) replied

taken_sees : (setup : Setup) → setup.serial ≢ 0 → (before after : Midway next_event (after_ setup)) (n : ℕ) (w : LaneState) (found : Option Event) → LaneSees setup before.past w
    → next_event w ≡ found → taken next_event (after_ setup) setup before n w found ≡ Some after → LanesSee setup before.past before.lanes → LanesSee setup after.past after.lanes
taken_sees setup some before after n w None sees next e all = absurd (cc (e))
taken_sees setup some before after n w (Some event) sees next e all =
    let reply : Reply = reply_to setup before.past event in
    let entry : Entry = record { who = n; event = event; reply = reply } in
    let now : Midway next_event (after_ setup) = record { past = entry ∷ before.past; lanes = set before.lanes n (after_ setup w reply) } in
    let same : now ≡ after = cc (e) in
    let here : LaneSees setup (entry ∷ before.past) (after_ setup w reply)
    = after_sees setup some entry before.past (settle w).sight (settle w).left (settled_sees setup before.past w.sight w.left sees) next refl in
    subst (λ (s : Midway next_event (after_ setup)). LanesSee setup s.past s.lanes) same
    (All-set (LaneSees setup (entry ∷ before.past)) before.lanes n (after_ setup w reply) here (lanes_more setup entry before.past before.lanes all))

pub turns_genuine : TurnsGenuine
turns_genuine setup some before after n e all = by_lane (lane_at next_event (after_ setup) before.lanes n) (λ w at. lane_sees setup before.past before.lanes n w all at) e
  where
    by_lane : (found : Option LaneState) → ((w : LaneState) → found ≡ Some w → LaneSees setup before.past w) → turned next_event (after_ setup) setup before n found ≡ Some after → LanesSee setup after.past after.lanes
    by_lane None sees turn = absurd (cc (turn))
    by_lane (Some w) sees turn = taken_sees setup some before after n w (next_event w) (sees w refl) refl turn all

-- ---- a phase is through

pub gathers_genuine : GathersGenuine
gathers_genuine setup past objects [] kept all = kept
gathers_genuine setup past objects (lane ∷ lanes) kept all =
    let own : List Object = (settle lane).sight.own in
    let sees : SeesGenuine setup past (settle lane).sight = settled_sees setup past lane.sight lane.left (All-head (LaneSees setup past) lane lanes all) in
    gathers_genuine setup past (objects ++ own) lanes (All-append (HandleIsGenuine setup past) objects own kept sees.1) (All-tail (LaneSees setup past) lane lanes all)
