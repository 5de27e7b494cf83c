use Rattle.std.proofs.Common.{◌≡◌, drop}
use Rattle.wg_model.specs.Attachments.{attached_are_apart}
use Rattle.wg_render.specs.Attached.{attached_in}
use Rattle.wg_render.proofs.attachments.are_apart.Given as goal

abbrev pub invariant-loop-i : goal.invariant-loop-i
invariant-loop-i l = attached_are_apart (attached_in (drop l.i l.colors) l.depth) ≡ attached_are_apart (attached_in l.colors l.depth)
