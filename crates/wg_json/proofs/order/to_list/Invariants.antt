use Rattle.std.proofs.Common.{◌≡◌, ◌++◌}
use Rattle.wg_json.proofs.order.to_list.Given as goal

abbrev pub invariant-loop-member : goal.invariant-loop-member
invariant-loop-member l = l.members.items ++ l.member-iterator ≡ l.fn.map.entries
