use Rattle.std.proofs.Common.{◌≡◌, ◌-◌, ◌++◌, take, drop, length, ap, ◌∙◌, rules}
use Rattle.std.specs.Prelude.{List}
use Rattle.wg_trace.specs.declared.replies.Waiting.{Waiting}
use Rattle.wg_queue.proofs.Due.{rotated_cut}
use Rattle.wg_queue.proofs.cut.Goals as goal

pub returns-clause-items : goal.returns-clause-items
returns-clause-items c =
    let ws = c.args.waiting.now.items in
    let items : c.truncate.new.self.items ≡ take (length ws - c.args.settled) (drop c.args.settled ws ++ take c.args.settled ws) = search rules in
    items ∙ rotated_cut ws c.args.settled (search rules)
