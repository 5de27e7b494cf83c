use Rattle.std.proofs.Common.{◌∙◌}
use Rattle.wg_history.specs.Traces.{Trace}
use Rattle.wg_orders.specs.Trace.{steps_of}
use Rattle.wg_core.proofs.Tracing.{lets_then}
use Rattle.wg_core.proofs.device.let_go_dead.Goals as goal

pub loop-preserved : goal.loop-preserved
loop-preserved c = record {
  setup = c.let_one_go.ensures.setup ∙ c.loop.invariant.setup;
  history = c.let_one_go.ensures.history ∙ c.loop.invariant.history;
  gone = lets_then c.args.state.now.gone c.loop.state.gone c.let_one_go.new.state.gone c.loop.invariant.gone c.let_one_go.ensures.gone;
  tracked = c.let_one_go.ensures.stands (steps_of (Trace c.args.state.now.setup c.args.state.now.history)) c.loop.invariant.tracked;
  rows = c.let_one_go.ensures.rows;
  handed = c.let_one_go.ensures.handed ∙ c.loop.invariant.handed;
}
