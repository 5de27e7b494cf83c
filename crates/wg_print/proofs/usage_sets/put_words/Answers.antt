use Rattle.std.proofs.Common.{rules, arith, refl, sym, ◌∙◌, append_assoc}
use Rattle.wg_print.specs.UsageSets.{chosen_words, words_text}
use Rattle.wg_print.proofs.PrintingLemmas.{puts_none, puts_then, puts_as}
use Rattle.wg_print.proofs.UsageWordLemmas.{joint_after-more, chosen_words-hit, chosen_words-miss, puts_word, puts_no_word}
use Rattle.wg_print.proofs.usage_sets.put_words.Goals as goal
use Rattle.wg_print.proofs.usage_sets.put_words.Goals.{then-contains, else-contains}

pub loop-usage-init : goal.loop-usage-init
unfolding words_text chosen_words
loop-usage-init g c = record { same_reference = refl; text = puts_none _; joint = refl }

pub loop-usage-preserved : goal.loop-usage-preserved
loop-usage-preserved g c = elim c.if-contains.branch [
  | then-contains w ↦
      let hit = chosen_words-hit (λ w. (w.0.0, w.1.now)) c.args.set.0 c.args.words.now c.loop-usage.usage-index _ (omega arith) (sym (c.contains.ensures tt) ∙ w.if-contains.true) in
      record {
        same_reference = cc;
        text = rw w.out-is (puts_word _ _ _ _ _ _ _ hit c.loop-usage.invariant.text
            (puts_as (puts_then _ _ _ _ _ w.word.ensures.text w.word-then-contains.ensures.text) (rw (← c.loop-usage.invariant.joint) (search (rules, append_assoc)))));
        joint = rw (w.joint-is, hit) (sym (joint_after-more _ _));
      }
  | else-contains w ↦
      let miss = chosen_words-miss (λ w. (w.0.0, w.1.now)) c.args.set.0 c.args.words.now c.loop-usage.usage-index _ (omega arith) (sym (c.contains.ensures tt) ∙ w.if-contains.false) in
      record {
        same_reference = cc;
        text = rw w.out-is (puts_no_word _ _ _ _ _ miss c.loop-usage.invariant.text);
        joint = rw (w.joint-is, miss) c.loop-usage.invariant.joint;
      }
]
