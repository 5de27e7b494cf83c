use Rattle.std.proofs.Common.{◌≡◌}
use Rattle.wg_core.specs.Cores.{IsTracked, HasRowsOf, LetsMoreGo}
use Rattle.wg_core.proofs.device.let_go_dead.Given as goal

abbrev pub invariant-loop : goal.invariant-loop
invariant-loop l = record {
  setup : l.state.setup ≡ l.initial.state.setup;
  history : l.state.history ≡ l.initial.state.history;
  gone : LetsMoreGo l.initial.state.gone l.state.gone;
  tracked : IsTracked l.initial.state.setup l.initial.state.history l.tracker;
  rows : HasRowsOf l.state.history l.state.gone l.tracker;
  handed : l.spent.handed ≡ l.initial.spent.handed;
}
