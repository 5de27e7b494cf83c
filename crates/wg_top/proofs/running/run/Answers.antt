use Rattle.wg_top.specs.declared.words.Job.TheVariants.{Run, Generate, Check}
use Rattle.wg_top.proofs.running.run.Goals as goal

pub returns-in-None-clause-complete : goal.returns-in-None-clause-complete
returns-in-None-clause-complete g c bytes script words left few read source sink = absurd (c.in-None.ensures Run (words, tt))

pub returns-in-None-clause-generated : goal.returns-in-None-clause-generated
returns-in-None-clause-generated g c count lanes asks sink = absurd (c.in-None.ensures (Generate count lanes) asks)

pub returns-in-None-clause-judged : goal.returns-in-None-clause-judged
returns-in-None-clause-judged g c bytes words left few source sink = absurd (c.in-None.ensures Check (words, tt))
