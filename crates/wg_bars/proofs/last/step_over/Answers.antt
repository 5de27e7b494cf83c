use Rattle.std.proofs.Common.{◌≡◌, ◌∙◌, ◌++◌, ap, map}
use Rattle.wg_orders.specs.Trace.{bar}
use Rattle.wg_rows.specs.Sets.{sets}
use Rattle.wg_bars.specs.Changes.{all_changes}
use Rattle.wg_bars.specs.Kept.{with_notes}
use Rattle.wg_bars.specs.Last.{AreNotes}
use Rattle.wg_bars.proofs.Changes.{bars_are}
use Rattle.wg_bars.proofs.Noted.{over_is}
use Rattle.wg_bars.proofs.last.step_over.Goals as goal

pub returns-clause-bars : goal.returns-clause-bars
returns-clause-bars c = λ trace sorted keeps.
    let found = c.in_ok-found.ensures in
    let uses = c.in_ok-uses.ensures in
    let use_slice = c.as_slice.ensures in
    let set_slice = c.as_slice-2.ensures.value in
    let change_slice = c.as_slice-3.ensures.value in
    let changed : c.as_slice-3.result.now ≡ all_changes (with_notes c.args.kept.now.items c.args.fresh) (sets c.args.step.now.uses) = cc in
    c.in_ok-push_bars.ensures.bars ∙ ap (λ rows. c.args.items.now.items ++ map bar rows) changed ∙ ap (λ bars. c.args.items.now.items ++ bars) (bars_are (with_notes c.args.kept.now.items c.args.fresh) trace c.args.step.now sorted keeps)

pub returns-clause-noted : goal.returns-clause-noted
returns-clause-noted c =
    let use_slice = c.as_slice.ensures in
    let uses = c.in_ok-uses.ensures in
    let noted : AreNotes c.args.kept.now.items c.args.fresh c.in_ok-uses.uses.items c.in_ok-noted.noted = rw (← c.as_slice-4.ensures.value) c.in_ok-noted.ensures.notes in
    over_is c.args.kept.now.items c.args.fresh c.in_ok-noted.noted c.args.step.now c.in_ok-uses.uses.items (cc) noted
