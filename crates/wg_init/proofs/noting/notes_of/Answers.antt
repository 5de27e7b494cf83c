use Rattle.std.proofs.Common.{◌∙◌, ◌≤◌, length, sym, arith}
use Rattle.std.proofs.lemmas.List.{at_drop_all}
use Rattle.wg_bars.specs.Kept.{over, rows_in}
use Rattle.wg_bars.proofs.Here.{adds_more}
use Rattle.wg_init.specs.Effects.{rows_after, AreNotes}
use Rattle.wg_init.proofs.Notes.{access_step, over_is}
use Rattle.wg_init.proofs.noting.notes_of.Goals as goal

pub loop-access-preserved : goal.loop-access-preserved
loop-access-preserved c = (access_step c.args.kept.now.items c.args.fresh c.loop-access.fresh c.note_one.new.fresh c.args.accesses.now c.loop-access.access-index _ c.loop-access-test.true c.in_ok-note_one.ensures.notes c.loop-access.invariant.0, adds_more c.args.kept.now c.args.fresh c.loop-access.fresh c.note_one.new.fresh c.loop-access.invariant.1 c.in_ok-note_one.ensures.here)

pub returns-clause-noted : goal.returns-clause-noted
returns-clause-noted c =
    let past : length c.args.accesses.now ≤ c.loop-access.access-index = omega arith in
    let notes : AreNotes c.args.kept.now.items c.args.fresh c.args.accesses.now c.loop-access.fresh = λ object. sym (at_drop_all (λ xs. rows_after object xs (over c.loop-access.fresh object (rows_in c.args.kept.now.items object))) c.args.accesses.now c.loop-access.access-index past) ∙ c.loop-access.invariant.0 object in
    over_is c.args.kept.now.items c.args.fresh c.loop-access.fresh c.args.accesses.now notes
