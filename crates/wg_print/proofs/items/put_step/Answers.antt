use Rattle.std.proofs.Common.{rules, append_assoc}
use Rattle.wg_print.proofs.PrintingLemmas.{◌⨾◌, puts_as}
use Rattle.wg_print.proofs.items.put_step.Goals as goal

pub returns-clause-text : goal.returns-clause-text
returns-clause-text g c = puts_as
    (c.put_all.ensures.text ⨾ c.put_place.ensures.text ⨾ c.put_all-2.ensures.text
    ⨾ rw c.as_slice.ensures at c.put_uses.ensures.text ⨾ rw c.as_slice-2.ensures at c.put_accesses.ensures.text)
    (search (rules, append_assoc))
