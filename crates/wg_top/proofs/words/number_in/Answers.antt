use Rattle.std.proofs.Common.{ℕ, List, get_or, arith, ap}
use Rattle.wg_top.proofs.Spelling.{spells_none, spells_empty, spells_parsed}
use Rattle.wg_top.proofs.words.number_in.Goals as goal

pub returns-in-49-to-57 : goal.returns-in-49-to-57
returns-in-49-to-57 c =
    let first = ap (λ (text : List ℕ). get_or text 0 0) c.as_bytes.ensures.value in
    rw c.ok.ensures.value (spells_parsed c.args.word.now c.parse.result (omega (arith, first)) c.parse.ensures.value.0)

pub returns-in_default : goal.returns-in_default
returns-in_default c = spells_empty c.args.word.now (omega arith)

pub returns-in_default-2 : goal.returns-in_default-2
returns-in_default-2 c = spells_none c.args.word.now (λ range. omega (arith, range.0, range.1, ap (λ (text : List ℕ). get_or text 0 0) c.as_bytes.ensures.value))

pub returns-in_default-3 : goal.returns-in_default-3
returns-in_default-3 c = spells_none c.args.word.now (λ range. omega (arith, range.0, range.1, ap (λ (text : List ℕ). get_or text 0 0) c.as_bytes.ensures.value))
