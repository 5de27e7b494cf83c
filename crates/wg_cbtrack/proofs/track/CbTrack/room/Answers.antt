use Rattle.std.proofs.Common.{rules, List, ◌++◌, ◌+◌, ◌≤◌, vec_len, vec_capacity, refl, sym, subst}
use Rattle.wg_cbtrack.specs.declared.kept.Kept.{Kept}
use Rattle.wg_cbtrack.specs.Items.{noted}
use Rattle.wg_cbtrack.specs.Track.{Holds}
use Rattle.wg_cbtrack.specs.Near.{FitsBeside}
use Rattle.wg_cbtrack.proofs.Nearby.{holds_ordered, holds_same, later_same}
use Rattle.wg_cbtrack.proofs.track.CbTrack.room.Goals as goal

pub step_after-requires : goal.step_after-requires
step_after-requires c = holds_ordered (noted c.self.inside.kept.items) c.self.inside.kept.items c.self.inside.rows c.self.invariant

pub invariant_of-result-2 : goal.invariant_of-result-2
invariant_of-result-2 c =
    let held : List Kept = c.self.inside.kept.items in
    let more : List Kept = c.in-Ok.after.kept.items in
    let now : Holds (noted held) held c.make_room.new.rows = holds_same (noted held) held c.self.inside.rows c.make_room.new.rows c.make_room.ensures.same c.self.invariant in
    let room : FitsBeside c.make_room.new.rows c.in-Ok.after.near = search rules in
    let places : vec_len c.reserve.new.self + vec_len c.in-Ok.after.kept ≤ vec_capacity c.reserve.new.self = search rules in (
      subst (λ xs. Holds (noted xs) xs c.make_room.new.rows) (sym c.reserve.ensures.items) now,
      λ later x. subst (λ xs. Holds (noted (xs ++ more)) (xs ++ more) later) (sym c.reserve.ensures.items) (later_same (noted (held ++ more)) (held ++ more) c.in-Ok.after.objects.items c.in-Ok.after.near c.self.inside.rows c.make_room.new.rows c.make_room.ensures.same (c.in-Ok.ensures.holds (noted held) held c.self.invariant refl) later x),
      c.in-Ok.ensures.ordered (noted held) held c.self.invariant,
      room,
      places,
    )
