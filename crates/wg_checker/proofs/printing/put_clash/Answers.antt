use Rattle.std.proofs.Common.{rules, append_assoc}
use Rattle.wg_print.proofs.PrintingLemmas.{◌⨾◌, puts_as}
use Rattle.wg_checker.proofs.printing.put_clash.Goals as goal

pub returns-clause-text : goal.returns-clause-text
returns-clause-text g c = puts_as (c.put_all.ensures.text ⨾ c.put_reader.ensures.text ⨾ c.put_all-2.ensures.text ⨾ c.put_cells.ensures.text ⨾ c.put_all-3.ensures.text) (search (rules, append_assoc))
