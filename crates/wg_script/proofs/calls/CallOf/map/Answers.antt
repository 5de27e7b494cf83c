use Rattle.std.proofs.Common.{refl}
use Rattle.wg_script.proofs.calls.CallOf.map.Goals as goal

pub returns-in_ok-map_maybe-in-Record : goal.returns-in_ok-map_maybe-in-Record
returns-in_ok-map_maybe-in-Record g c =
    rw c.in-Record.is (rw (c.in_ok-find-in-Record.ensures, c.in_ok-map-in-Record.ensures, c.in_ok-map_maybe-in-Record.ensures) refl)

pub returns-in_ok-map_maybe-in-Ask : goal.returns-in_ok-map_maybe-in-Ask
returns-in_ok-map_maybe-in-Ask g c =
    rw c.in-Ask.is (rw (c.in_ok-map-in-Ask.ensures, c.in_ok-map_maybe-in-Ask.ensures) refl)

pub returns-in_ok-map_maybe-in-Canvas : goal.returns-in_ok-map_maybe-in-Canvas
returns-in_ok-map_maybe-in-Canvas g c =
    rw c.in-Canvas.is (rw (c.in_ok-map-in-Canvas.ensures, c.in_ok-map_maybe-in-Canvas.ensures) refl)
