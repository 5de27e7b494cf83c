use Rattle.std.proofs.Common.{◌≡◌, drop}
use Rattle.wg_json.specs.View.{members_view}
use Rattle.wg_script.specs.Limits.{values_asked, with_values}
use Rattle.wg_script.proofs.limits.values_asked.Given as goal

abbrev pub invariant-loop-member : goal.invariant-loop-member
invariant-loop-member l = with_values l.values (values_asked (members_view (drop l.member-index l.members))) ≡ values_asked (members_view l.members)
