use Rattle.wg_told.specs.Asked as asked
use Rattle.wg_c.proofs.commands.wethlorn_begin_render_pass.Goals as goal

pub returns : goal.returns
returns c = c.begin.ensures (asked.begin_render_pass c.args.colors.now c.args.depth.now c.args.queries c.args.max_draws) c.begin_render_pass.ensures
