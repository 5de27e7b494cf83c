use Rattle.std.proofs.Common.{◌≡◌, drop}
use Rattle.wg_model.specs.Attachments.{extent_of}
use Rattle.wg_render.specs.Attached.{drawn_in}
use Rattle.wg_render.proofs.targets.drawn_extent.Given as goal

abbrev pub invariant-loop-color : goal.invariant-loop-color
invariant-loop-color l = extent_of (drawn_in (drop l.color-index l.colors) l.depth) ≡ extent_of (drawn_in l.colors l.depth)
