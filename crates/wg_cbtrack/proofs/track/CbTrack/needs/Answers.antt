use Rattle.std.proofs.Common.{◌∙◌, ap, sym, subst}
use Rattle.wg_rows.specs.Rows.{Apart}
use Rattle.wg_rows.specs.Runs.{cell_sort}
use Rattle.wg_rows.specs.Uses.{row_reads}
use Rattle.wg_orders.specs.Trace.{needs}
use Rattle.wg_cbtrack.specs.Group.{placed_all}
use Rattle.wg_cbtrack.specs.Items.{noted}
use Rattle.wg_cbtrack.specs.Leaves.{as_reads}
use Rattle.wg_cbtrack.proofs.Whole.{needs_again}
use Rattle.wg_cbtrack.proofs.track.CbTrack.needs.Goals as goal

pub returns-clause-printed : goal.returns-clause-printed
returns-clause-printed c = subst (Apart cell_sort) (sym (ap as_reads c.as_slice.ensures.value ∙ needs_again (noted c.self.inside.kept.items) c.self.inside.kept.items c.self.inside.rows c.self.invariant)) c.self.invariant.track.tidy.reads.1

pub returns-clause-cells : goal.returns-clause-cells
returns-clause-cells c = λ place cell. ap (λ rows. row_reads cell rows) (ap as_reads c.as_slice.ensures.value ∙ needs_again (noted c.self.inside.kept.items) c.self.inside.kept.items c.self.inside.rows c.self.invariant) ∙ (c.self.invariant.track.needs place cell ∙ ap (λ deeds. needs (placed_all place deeds) cell) c.self.view_is)
