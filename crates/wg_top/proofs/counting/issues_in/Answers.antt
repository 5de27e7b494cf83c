use Rattle.std.proofs.Common.{rules, tests, ◌∙◌}
use Rattle.std.proofs.lemmas.Iterator.{YieldsList-from_slice}
use Rattle.std.proofs.lemmas.Iterator.Consumers.{YieldsList-from_filter, count_from_yields_List}
use Rattle.std.proofs.lemmas.List.Sums.{length-filter}
use Rattle.wg_top.specs.Logged.{line_issued}
use Rattle.wg_top.proofs.counting.issues_in.Goals as goal

pub returns : goal.returns
returns c = count_from_yields_List c.filter.result _ c.count.ensures.ran (YieldsList-from_filter _ line_issued (YieldsList-from_slice c.args.lines.now cc) c.filter.ensures.closure (λ x b q k. search (rules, tests))) ∙ length-filter line_issued c.args.lines.now
