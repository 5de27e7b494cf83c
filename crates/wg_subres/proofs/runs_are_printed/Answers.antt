use Rattle.wg_subres.proofs.Printed.{views_printed, copies_printed, cells_printed}
use Rattle.wg_subres.proofs.runs_are_printed.Goals as goal

pub returns-clause-views : goal.returns-clause-views
returns-clause-views c = views_printed

pub returns-clause-copies : goal.returns-clause-copies
returns-clause-copies c = copies_printed

pub returns-clause-cells : goal.returns-clause-cells
returns-clause-cells c = cells_printed
