use Rattle.std.proofs.Common.{◌∙◌, ap, sym, map}
use Rattle.wg_rows.specs.Runs.{Cells}
use Rattle.wg_rows.specs.Uses.{AccessKind}
use Rattle.wg_cbtrack.proofs.Placing.{needs_put}
use Rattle.wg_cbtrack.proofs.placed.want_one.Goals as goal

pub returns-clause-same : goal.returns-clause-same
returns-clause-same c = c.replace-2.ensures.items ∙ (needs_put c.args.wants.now.items c.args.needs.now.items _ _ _ c.requires.same ∙ ap (map (λ (row : Cells × AccessKind). row.0)) (sym c.replace.ensures.items))
