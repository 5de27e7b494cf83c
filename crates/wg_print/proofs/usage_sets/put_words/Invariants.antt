use Rattle.std.specs.Prelude.{map}
use Rattle.std.proofs.Common.{◌≡◌, take}
use Rattle.wg_print.specs.Printing.{Puts}
use Rattle.wg_print.specs.Seen.{seen, reference}
use Rattle.wg_print.specs.UsageSets.{chosen_words, words_text}
use Rattle.wg_print.proofs.UsageWordLemmas.{joint_after}
use Rattle.wg_print.proofs.usage_sets.put_words.Given as goal

abbrev pub invariant-loop-usage : goal.invariant-loop-usage
invariant-loop-usage g l = record {
  same_reference : reference l.out ≡ reference l.fn.out;
  text : Puts (seen g.W.Sink.taken g.W.Sink.faults l.fn.out) (seen g.W.Sink.taken g.W.Sink.faults l.out) (words_text l.set.0 (map (λ w. (w.0.0, w.1.now)) (take l.usage-index l.words)));
  joint : l.joint ≡ joint_after (chosen_words l.set.0 (map (λ w. (w.0.0, w.1.now)) (take l.usage-index l.words)));
}
