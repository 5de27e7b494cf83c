use Rattle.wg_print.proofs.PrintingLemmas.{◌⨾◌}
use Rattle.wg_print.proofs.items.put_use.Goals as goal

pub returns-clause-text : goal.returns-clause-text
returns-clause-text g c =
    c.word.ensures.text ⨾ c.put_part.ensures.text ⨾ c.word-2.ensures.text ⨾ c.put_usages.ensures.text ⨾ c.word-3.ensures.text
