use Rattle.wg_types.proofs.render.RenderBeginOf.first.Goals as goal

pub returns : goal.returns
returns g c = rw c.as_slice.ensures at c.first_begun.ensures
