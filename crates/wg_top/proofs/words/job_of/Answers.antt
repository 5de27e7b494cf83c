use Rattle.std.proofs.Common.{string_bytes, arith}
use Rattle.wg_top.proofs.Asking.{the_word, job_named, job_alone, job_with_lanes}
use Rattle.wg_top.proofs.words.job_of.Goals as goal

pub returns-in-len1 : goal.returns-in-len1
returns-in-len1 c = job_named c.args.words.now c.word-item.result c.named.result (omega arith) c.word-item.is (rw c.as_str.ensures.value at c.named.ensures)

pub returns-in-len2 : goal.returns-in-len2
returns-in-len2 c =
    job_alone c.args.words.now c.word-item-then-words-lt3.result c.count-item.result c.generation.result (omega arith) c.word-item-then-words-lt3.is c.count-item.is
    (the_word (string_bytes c.word-item-then-words-lt3.result) _ c.eq.result (rw c.as_str-then-words-lt3.ensures.value at c.eq.ensures) c.if-eq.true)
    (rw c.as_str-in-len2.ensures.value at c.generation.ensures)

pub returns-in-len3 : goal.returns-in-len3
returns-in-len3 c =
    job_with_lanes c.args.words.now c.word-item-then-words-lt4.result c.count-item-then-words-lt4.result c.lanes-item.result c.generation-in-len3.result (omega arith) c.word-item-then-words-lt4.is c.count-item-then-words-lt4.is c.lanes-item.is
    (the_word (string_bytes c.word-item-then-words-lt4.result) _ c.eq-then-words-lt4.result (rw c.as_str-then-words-lt4.ensures.value at c.eq-then-words-lt4.ensures) c.if-eq-2.true)
    (rw (c.as_str-in-len3.ensures.value, c.as_str-in-len3-2.ensures.value) at c.generation-in-len3.ensures)
