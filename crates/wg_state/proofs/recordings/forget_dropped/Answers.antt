use Rattle.std.proofs.Common.{◌≡◌, reverse, Some, None, rules, arith}
use Rattle.wg_state.specs.Rows.{dropped_by}
use Rattle.wg_state.proofs.Recorded.{dropped_none, dropped_one, dropped_some}
use Rattle.wg_state.proofs.Handed.{handed_dropped}
use Rattle.wg_state.proofs.recordings.forget_dropped.Goals as goal

pub returns-in_default-clause-kept : goal.returns-in_default-clause-kept
returns-in_default-clause-kept c =
    let none : dropped_by c.args.setup (reverse c.args.book.now.entries) c.args.event.now ≡ None = search rules in
    dropped_none c.args.setup (reverse c.args.book.now.entries) c.args.event.now c.args.recordings.now.kept none

pub returns-clause-kept : goal.returns-clause-kept
returns-clause-kept c =
    let some : dropped_by c.args.setup (reverse c.args.book.now.entries) c.args.event.now ≡ Some c.in-Some.number = search rules in
    dropped_one c.args.setup (reverse c.args.book.now.entries) c.args.event.now c.in-Some.number c.args.recordings.now.kept c.forget.new.self.kept some c.forget.ensures.kept

pub forget-requires : goal.forget-requires
forget-requires c =
    let some : dropped_by c.args.setup (reverse c.args.book.now.entries) c.args.event.now ≡ Some c.in-Some.number = search rules in
    let one = dropped_some c.args.setup (reverse c.args.book.now.entries) c.args.event.now c.in-Some.number some in
    let room = c.requires.room in
    omega (arith, one, room)

pub returns-clause-room : goal.returns-clause-room
returns-clause-room c =
    let some : dropped_by c.args.setup (reverse c.args.book.now.entries) c.args.event.now ≡ Some c.in-Some.number = search rules in
    let one = dropped_some c.args.setup (reverse c.args.book.now.entries) c.args.event.now c.in-Some.number some in
    let room = c.forget.ensures.room in
    omega (arith, one, room)

pub returns-clause-handed : goal.returns-clause-handed
returns-clause-handed c =
    let some : dropped_by c.args.setup (reverse c.args.book.now.entries) c.args.event.now ≡ Some c.in-Some.number = search rules in
    handed_dropped c.args.setup (reverse c.args.book.now.entries) c.args.event.now c.in-Some.number c.args.recordings.now.kept _ _ some c.forget.ensures.handed
