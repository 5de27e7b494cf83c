use Rattle.std.proofs.Common.{[]}
use Rattle.wg_readtrace.proofs.Drafts.{finished}
use Rattle.wg_readtrace.proofs.draft.TraceDraft.finish.Goals as goal

pub returns : goal.returns
returns c = finished c.close.new.self c.args.self (c.in_ok-close.ensures.items []) c.in_ok-close.ensures.none
