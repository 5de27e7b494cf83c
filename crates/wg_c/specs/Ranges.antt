-- What the export tells of unset bytes, by the status that it returns: 0 OK, 2 NO_OBJECT, 3 CLOSED, 6 END.
use Rattle.std.specs.Prelude.{◌≡◌, ℕ, nat_eq, true, false, Option, Some, None, is_none, MatchBool}
use Rattle.wg_desk.specs.Seats.{handle_at}
use Rattle.wg_desk.specs.Desks.{FindsUnsetOn}
use Rattle.wg_c.specs.declared.ranges.ToldRange.{ToldRange}
use Rattle.wg_c.specs.Inners.{InnerValue}
use Rattle.wg_c.specs.Exports.{Over, IsShut}

-- On an open device, which stays as it is: the first unset bytes of the range were told, as many as stand together, or all are set, or
-- the number has no handle.
abbrev pub TellsUnset : ℕ → ℕ → ℕ → ToldRange → ToldRange → ℕ → InnerValue → InnerValue → Type 0
TellsUnset buffer from to before after status old new =
    (new ≡ old)
    × MatchBool (nat_eq status 0)
    ((is_none (handle_at old.desk.seats buffer) ≡ false) × FindsUnsetOn old.desk buffer from to (Some (after.from, after.to)))
    ((after ≡ before)
    × MatchBool (nat_eq status 6)
    ((is_none (handle_at old.desk.seats buffer) ≡ false) × FindsUnsetOn old.desk buffer from to None)
    ((status ≡ 2) × (is_none (handle_at old.desk.seats buffer) ≡ true)))

-- What a call for unset bytes tells.
abbrev pub UnsetRange : ℕ → ℕ → ℕ → Option InnerValue → Option InnerValue → ToldRange → ToldRange → ℕ → Type 0
UnsetRange buffer from to old new before after status = Over old new (IsShut new before after status) (TellsUnset buffer from to before after status)
