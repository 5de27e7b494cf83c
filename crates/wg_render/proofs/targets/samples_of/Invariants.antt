use Rattle.std.proofs.Common.{◌≡◌, drop}
use Rattle.wg_model.specs.Attachments.{samples_of}
use Rattle.wg_render.specs.Attached.{drawn_in}
use Rattle.wg_render.proofs.targets.samples_of.Given as goal

abbrev pub invariant-loop-color : goal.invariant-loop-color
invariant-loop-color l = samples_of (drawn_in (drop l.color-index l.colors) l.depth) ≡ samples_of (drawn_in l.colors l.depth)
