use Rattle.std.proofs.Common.{rules}
use Rattle.wg_print.proofs.PrintingLemmas.{◌⨾◌, puts_as}
use Rattle.wg_print.proofs.entries.put_settlement.Goals as goal

pub returns-clause-text : goal.returns-clause-text
returns-clause-text g c = puts_as (c.put_all.ensures.text ⨾ c.put_how.ensures.text) (search rules)
