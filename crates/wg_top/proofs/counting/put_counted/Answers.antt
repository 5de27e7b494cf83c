use Rattle.std.proofs.Common.{rules}
use Rattle.wg_print.proofs.PrintingLemmas.{◌⨾◌, puts_as}
use Rattle.wg_top.proofs.counting.put_counted.Goals as goal

pub returns-clause-text : goal.returns-clause-text
returns-clause-text g c = puts_as (c.put_counts.ensures.text ⨾ c.put_more.ensures.text ⨾ c.put_all.ensures.text) (search rules)
