use Rattle.std.proofs.Common.{◌≡◌, ◌∙◌, ap, map, subst, sym}
use Rattle.wg_orders.specs.Trace.{steps_of}
use Rattle.wg_bars.specs.Kept.{with_notes}
use Rattle.wg_init.specs.Rows.{SetRows, KeepsSet, RunsApart}
use Rattle.wg_init.specs.Unset.{written, unset_rows}
use Rattle.wg_init.proofs.Notes.{begun_apart, begun_keeps}
use Rattle.wg_init.proofs.UnsetCells.{unset_is, written_again}
use Rattle.wg_init.proofs.state.CellState.unset.Goals as goal

pub returns : goal.returns
returns c = λ trace keeps.
    let kept : SetRows = c.self.inside.kept.items in
    let rows : SetRows = with_notes kept c.in_ok-begun.begun in
    let found = c.in_ok-found.ensures in
    let cells = c.in_ok-cells.ensures in
    let access_slice = c.as_slice-accesses.ensures in
    let found_slice = c.as_slice.ensures.value in
    let apart : RunsApart rows = begun_apart kept c.in_ok-begun.begun c.in_ok-begun.ensures.same c.self.invariant.apart in
    let keeps_it : KeepsSet rows (steps_of trace) =
    begun_keeps kept c.in_ok-begun.begun (steps_of trace) c.in_ok-begun.ensures.same (subst (λ held. KeepsSet held.items (steps_of trace)) (sym c.self.view_is) keeps) in
    let value : c.in_ok-cells.cells.items ≡ map (λ row. row.0) (unset_rows rows c.args.step.now.accesses) = cc in
    ap (map written) value ∙ (written_again rows c.args.step.now.accesses apart ∙ unset_is rows trace c.args.step.now apart keeps_it)
