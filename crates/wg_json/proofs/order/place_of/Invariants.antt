use Rattle.std.proofs.Common.{◌≡◌, drop}
use Rattle.wg_json.specs.Places.{place_from}
use Rattle.wg_json.proofs.order.place_of.Given as goal

abbrev pub invariant-loop-member : goal.invariant-loop-member
invariant-loop-member l = record {
  index : l.place ≡ l.member-index;
  rest : place_from l.place l.key (drop l.member-index l.members) ≡ place_from 0 l.key l.members;
}
