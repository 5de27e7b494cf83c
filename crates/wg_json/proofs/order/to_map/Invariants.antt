use Rattle.std.proofs.Common.{◌≡◌, ◌++◌, length}
use Rattle.wg_json.proofs.order.to_map.Given as goal

abbrev pub invariant-loop-key : goal.invariant-loop-key
invariant-loop-key l = l.members.items ++ l.map.entries ≡ l.fn.members.items

abbrev pub decreases-loop-key : goal.decreases-loop-key
decreases-loop-key l = length l.members.items
