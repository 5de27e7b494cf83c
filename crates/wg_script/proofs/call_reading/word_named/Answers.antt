use Rattle.std.proofs.Common.{sym, ◌∙◌}
use Rattle.wg_script.proofs.CallWords.{found_word}
use Rattle.wg_script.proofs.call_reading.word_named.Goals as goal

pub returns-in-Some : goal.returns-in-Some
returns-in-Some c = found_word c.in-Some.word c.words_of.result.now c.args.text.now (sym c.in-Some.is ∙ c.word_among.ensures)
