use Rattle.wg_c.proofs.Inside.{none_left}
use Rattle.wg_c.proofs.inner.Inner.next_item.Goals as goal

pub invariant_of-self-2 : goal.invariant_of-self-2
invariant_of-self-2 c = record {
  waiting = none_left c.self.inside.desk.setup c.self.inside.desk.history c.self.inside.items.items c.clear.new.self.items c.self.inside.told c.clear.ensures.items c.self.invariant.waiting;
  limits_are = c.self.invariant.limits_are;
}
