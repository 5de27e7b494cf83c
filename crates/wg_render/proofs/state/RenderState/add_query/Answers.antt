use Rattle.wg_render.proofs.Grown.{after_begun}
use Rattle.wg_render.proofs.state.RenderState.add_query.Goals as goal

pub returns-clause-set : goal.returns-clause-set
returns-clause-set c = rw c.push_reserved.ensures.items (rw c.reserve.ensures.items (rw c.in_ok-note_begun.ensures.begun (rw c.in_ok-touch.ensures (after_begun _ _ (c.in-Some.object, c.in-Some.field-0-1) c.args.index c.self.view_is c.in-Some.is))))
