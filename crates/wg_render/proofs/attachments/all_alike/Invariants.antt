use Rattle.std.proofs.Common.{◌≡◌, drop}
use Rattle.wg_model.specs.Attachments.{all_alike}
use Rattle.wg_render.specs.Attached.{drawn_in}
use Rattle.wg_render.proofs.attachments.all_alike.Given as goal

abbrev pub invariant-loop-i : goal.invariant-loop-i
invariant-loop-i l = all_alike (drawn_in (drop l.i l.colors) l.depth) ≡ all_alike (drawn_in l.colors l.depth)
