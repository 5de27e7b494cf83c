use Rattle.std.proofs.Common.{rules, append_assoc}
use Rattle.wg_print.specs.Entries.{entry_text}
use Rattle.wg_print.proofs.PrintingLemmas.{◌⨾◌, puts_as}
use Rattle.wg_print.proofs.entries.put_entry.Goals as goal

pub returns-clause-text : goal.returns-clause-text
unfolding entry_text
returns-clause-text g c = puts_as
    (c.put_all.ensures.text ⨾ c.put_answer.ensures.text ⨾ c.put_fault.ensures.text ⨾ rw c.as_slice.ensures at c.put_settled.ensures.text ⨾ c.word.ensures.text)
    (search (rules, append_assoc))
