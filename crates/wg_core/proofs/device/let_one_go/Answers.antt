use Rattle.wg_core.proofs.Rows.{let_go_rows}
use Rattle.wg_core.proofs.device.let_one_go.Goals as goal

pub returns-clause-rows : goal.returns-clause-rows
returns-clause-rows c =
    let_go_rows c.args.state.now.setup c.args.state.now.history c.let_one_go.new.self.history c.args.state.now.gone c.let_one_go.new.self.gone c.in-Some.number c.args.tracker.now c.let_go.new.self c.requires.rows c.in-Some.ensures.dead c.in-Some.ensures.here
    c.let_one_go.ensures.history c.in-Some.ensures.gone c.let_go.ensures.last c.let_go.ensures.cells c.let_go.ensures.last_gone c.let_go.ensures.cells_gone
