-- A lane goes on by one call.
use Rattle.std.proofs.Common.{◌≡◌, ℕ, zero, suc, ◌+◌, ◌<◌, List, [], ◌∷◌, ◌++◌, length, drop, get_or, refl, ap, sym, ◌∙◌, subst, arith, append_assoc, append-nil, Option, Some, None, ⊎_elim}
use Rattle.std.specs.Option.{option_map_or}
use mathlib.Core.List.{IsPrefix}
use Rattle.wg_history.specs.declared.events.Setup.{Setup}
use Rattle.wg_history.specs.Entries.{Entry}
use Rattle.wg_turn.specs.Passes.{own_of}
use Rattle.wg_device.specs.Fronts.{Lock, DevicePass, HasCalled, front_in}
use Rattle.wg_script.specs.CallOf.{BoundCall}
use Rattle.wg_play.specs.Turns.{GivesEvents, after_all}
use Rattle.wg_play.specs.Sights.{Sight}
use Rattle.wg_play.specs.Lanes.{LaneState, kept, settled, settle, next_at, next_event, after_at, after_reply}
use Rattle.wg_player.specs.Moves.{Goes, PassHasSent, PassHasKept, HasPlayed, PassMoves, lane_at}

pub drop_at : {X : Type 0} (xs : List X) (i : ℕ) (x : X) → i < length xs → x ≡ get_or xs i x → drop i xs ≡ x ∷ drop (i + 1) xs
drop_at [] i x lt is = absurd (omega (arith, lt))
drop_at (y ∷ ys) zero x lt is = ap (λ z. z ∷ ys) (sym is)
drop_at (y ∷ ys) (suc i) x lt is = let e : suc i + 1 ≡ suc (i + 1) = omega arith in rw e (drop_at ys i x (omega arith) is)

goes_on : (setup : Setup) (w v : LaneState) (es : List Entry) (e : Entry) → Goes setup w es v → next_event v ≡ Some e.event → Goes setup w (es ++ e ∷ []) (after_reply setup v e.reply)
goes_on setup w v [] e is next = (ap next_at is ∙ next, ap (λ (u : LaneState). settle (after_at setup u e.reply)) is)
goes_on setup w v (d ∷ es) e goes next = (goes.0, goes_on setup (after_reply setup w d.reply) v es e goes.1 next)

-- a lane that settles as another stands for it
goes_as : (setup : Setup) (w v u : LaneState) (es : List Entry) → Goes setup w es v → settle v ≡ settle u → Goes setup w es u
goes_as setup w v u [] is same = is ∙ same
goes_as setup w v u (e ∷ es) goes same = (goes.0, goes_as setup (after_reply setup w e.reply) v u es goes.1 same)

-- a lane that goes to its end gives these entries
pub goes_gives : (setup : Setup) (w v : LaneState) (es : List Entry) → Goes setup w es v → next_event v ≡ None → GivesEvents next_event (after_reply setup) w es
goes_gives setup w v [] is end = ap next_at is ∙ end
goes_gives setup w v (e ∷ es) goes end = (goes.0, goes_gives setup (after_reply setup w e.reply) v es goes.1 end)

pub goes_after : (setup : Setup) (w v : LaneState) (es : List Entry) → Goes setup w es v → settle (after_all next_event (after_reply setup) w es) ≡ settle v
goes_after setup w v [] is = is
goes_after setup w v (e ∷ es) goes = goes_after setup (after_reply setup w e.reply) v es goes.1

-- how a lane settles by its first call
settled_on : (sight : Sight) (call : BoundCall) (calls : List BoundCall) (found : Option Sight) → kept sight call ≡ found
    → settled sight (call ∷ calls) ≡ option_map_or (λ (after : Sight). settled after calls) found (record { sight = sight; left = call ∷ calls })
settled_on sight call calls found is = ap (λ (o : Option Sight). option_map_or (λ (after : Sight). settled after calls) o (record { sight = sight; left = call ∷ calls })) is

prefix_then : {A : Type 0} (xs ys zs : List A) → IsPrefix xs ys → IsPrefix ys zs → IsPrefix xs zs
prefix_then xs ys zs p q = (p.0 ++ q.0, sym (append_assoc xs p.0 q.0) ∙ (ap (λ w. w ++ q.0) p.1 ∙ q.1))

prefix_self : {A : Type 0} (xs : List A) → IsPrefix xs xs
prefix_self xs = ([], append-nil xs)

pub moves_none : (setup : Setup) (lock : Lock) (lane : LaneState) (pass : DevicePass) → PassMoves setup lock lane lane pass pass
moves_none setup lock lane pass = record { entries = []; grown = sym (append-nil (own_of pass)); seen = prefix_self (front_in lock pass); number = refl; of = λ o. o; sound = λ s. s; goes = refl }

-- one call more, that was sent
moves_sent : (setup : Setup) (lock : Lock) (lane : LaneState) (sight sight_after : Sight) (call : BoundCall) (left : List BoundCall) (first old new : DevicePass)
    → PassMoves setup lock lane (record { sight = sight; left = call ∷ left }) first old
    → PassHasSent setup sight sight_after call (own_of old) (own_of new) → HasCalled lock old new
    → PassMoves setup lock lane (record { sight = sight_after; left = left }) first new
moves_sent setup lock lane sight sight_after call left first old new m p called =
    let here : LaneState = record { sight = sight; left = call ∷ left } in
    let settles : settle here ≡ here = settled_on sight call left None p.sent in
    let next : next_event here ≡ Some p.entry.event = ap next_at settles ∙ ap Some (sym p.event) in
    let after : after_reply setup here p.entry.reply ≡ record { sight = sight_after; left = left } =
    ap (λ (u : LaneState). after_at setup u p.entry.reply) settles ∙ ap (λ (s : Sight). record { sight = s; left = left }) (sym p.sees) in
    record {
      entries = m.entries ++ p.entry ∷ [];
      grown = p.grown ∙ (ap (λ l. l ++ p.entry ∷ []) m.grown ∙ append_assoc (own_of first) m.entries (p.entry ∷ []));
      seen = prefix_then (front_in lock first) (front_in lock old) (front_in lock new) m.seen called.seen;
      number = called.number ∙ m.number;
      of = λ _. called.of;
      sound = λ s. called.sound (m.sound s);
      goes = subst (Goes setup lane (m.entries ++ p.entry ∷ [])) after (goes_on setup lane here m.entries p.entry m.goes next);
    }

-- one call more, that was kept
moves_kept : (setup : Setup) (lock : Lock) (lane : LaneState) (sight sight_after : Sight) (call : BoundCall) (left : List BoundCall) (first old new : DevicePass)
    → PassMoves setup lock lane (record { sight = sight; left = call ∷ left }) first old
    → PassHasKept sight sight_after call (own_of old) (own_of new) → HasCalled lock old new
    → PassMoves setup lock lane (record { sight = sight_after; left = left }) first new
moves_kept setup lock lane sight sight_after call left first old new m p called = record {
  entries = m.entries;
  grown = p.same ∙ m.grown;
  seen = prefix_then (front_in lock first) (front_in lock old) (front_in lock new) m.seen called.seen;
  number = called.number ∙ m.number;
  of = λ _. called.of;
  sound = λ s. called.sound (m.sound s);
  goes = goes_as setup lane (record { sight = sight; left = call ∷ left }) (record { sight = sight_after; left = left }) m.entries m.goes (settled_on sight call left (Some sight_after) p.kept);
}

-- one call more of a list of calls
pub moves_at : (setup : Setup) (lock : Lock) (lane : LaneState) (sight sight_after : Sight) (calls : List BoundCall) (i : ℕ) (call : BoundCall) (first old new : DevicePass)
    → PassMoves setup lock lane (lane_at sight calls i) first old
    → HasPlayed setup sight sight_after call (own_of old) (own_of new) → HasCalled lock old new
    → i < length calls → call ≡ get_or calls i call
    → PassMoves setup lock lane (lane_at sight_after calls (i + 1)) first new
moves_at setup lock lane sight sight_after calls i call first old new m p called lt is =
    let here : PassMoves setup lock lane (record { sight = sight; left = call ∷ drop (i + 1) calls }) first old
    = subst (λ (left : List BoundCall). PassMoves setup lock lane (record { sight = sight; left = left }) first old) (drop_at calls i call lt is) m in
    ⊎_elim (λ h. moves_sent setup lock lane sight sight_after call (drop (i + 1) calls) first old new here h called)
    (λ h. moves_kept setup lock lane sight sight_after call (drop (i + 1) calls) first old new here h called) p
