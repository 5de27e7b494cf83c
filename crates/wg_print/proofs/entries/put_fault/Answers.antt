use Rattle.std.proofs.Common.{rules, append_assoc}
use Rattle.wg_print.proofs.PrintingLemmas.{◌⨾◌, puts_as}
use Rattle.wg_print.proofs.entries.put_fault.Goals as goal

pub returns-in-Some-clause-text : goal.returns-in-Some-clause-text
returns-in-Some-clause-text g c = rw c.in-Some.is (puts_as (c.put_all.ensures.text ⨾ c.put_caught.ensures.text) (search (rules, append_assoc)))
