use Rattle.std.proofs.Common.{◌≡◌, ℕ, None, nat_eq, true, false, if◌then◌else◌, rules}
use Rattle.std.specs.Map.{lookup}
use Rattle.wg_maps.proofs.ListedLemmas.{settling_one, settling_past}
use Rattle.wg_maps.specs.Waits.{is_waiting}
use Rattle.wg_maps.proofs.waits.settle_one.Goals as goal

pub returns-then-is_waiting-clause-settling : goal.returns-then-is_waiting-clause-settling
returns-then-is_waiting-clause-settling c = λ completed first rest start due s.
    let is : is_waiting c.args.promises.now.entries c.args.wait.now ≡ true = search rules in
    settling_one completed first start c.args.promises.now.entries c.remove.new.self.entries c.args.wait.now rest c.args.mapped.now c.insert.new.self is due c.remove.ensures.updates.0 c.insert.ensures.buffers c.insert.ensures.spare s

pub returns-else-is_waiting-clause-settling : goal.returns-else-is_waiting-clause-settling
returns-else-is_waiting-clause-settling c = λ completed first rest start due s.
    let out : is_waiting c.args.promises.now.entries c.args.wait.now ≡ false = search rules in
    settling_past completed first start c.args.promises.now.entries c.args.wait.now rest c.args.mapped.now out s
