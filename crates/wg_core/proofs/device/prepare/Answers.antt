use Rattle.std.proofs.Common.{rules, arith}
use Rattle.wg_core.specs.Plans.{IsPlanOf}
use Rattle.wg_core.proofs.device.prepare.Goals as goal

pub returns-clause-prepared : goal.returns-clause-prepared
returns-clause-prepared c = record {
  planned =
      let plan : IsPlanOf c.reserve-3.new.self c.reserve-2.new.self c.args.event.now c.in_ok-plan.plan = search rules in
      rw c.reserve-4.ensures.setup (rw c.reserve-4.ensures.history plan);
  here = search rules;
  info_is = search rules;
  small = search rules;
  place = search rules;
  links = search rules;
  row = search rules;
  items_fit = search rules;
  spent_fit = search rules;
}
