use Rattle.std.proofs.Common.{rules}
use Rattle.std.proofs.lemmas.Fn.{filter_same}
use Rattle.wg_maps.specs.Waits.{is_waiting}
use Rattle.wg_maps.proofs.waits.tidy.Goals as goal

pub returns-clause-items : goal.returns-clause-items
returns-clause-items c = filter_same _ (is_waiting c.args.promises.now.entries) _ (λ x b q k. search rules) _ _ c.retain.ensures.filtered
