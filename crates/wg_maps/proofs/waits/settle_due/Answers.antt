use Rattle.std.proofs.Common.{◌≡◌, ◌≤◌, refl, rules, arith}
use Rattle.std.proofs.lemmas.List.Elements.{All-tail}
use Rattle.wg_types.specs.declared.mappings.PendingMap.{PendingMap}
use Rattle.wg_maps.proofs.ListedLemmas.{settling_none}
use Rattle.wg_maps.proofs.waits.settle_due.Goals as goal

pub loop-wait-init : goal.loop-wait-init
loop-wait-init c = record {
  settling = settling_none _ _ _ _ c.requires.kept c.requires.listed;
  within = λ newest within. within;
  len = omega arith;
  capacity = refl;
  spare = omega arith;
}

pub loop-wait-preserved : goal.loop-wait-preserved
loop-wait-preserved c = record {
  settling = c.settle_one.ensures.settling c.args.completed _ _ _ c.in-Some.ensures.due (rw c.in-Some.ensures.items at c.loop-wait.invariant.settling);
  within = λ newest within. All-tail (λ (w : PendingMap). w.promise ≤ newest) _ _ (rw c.in-Some.ensures.items at (c.loop-wait.invariant.within newest within));
  len = search rules;
  capacity = search rules;
  spare = search rules;
}
