use Rattle.std.proofs.Common.{◌≡◌, drop}
use Rattle.std.specs.List.{list_all}
use Rattle.wg_model.specs.Attachments.{are_alike}
use Rattle.wg_render.specs.Attached.{drawn_in}
use Rattle.wg_render.proofs.attachments.is_like_all.Given as goal

abbrev pub invariant-loop-color : goal.invariant-loop-color
invariant-loop-color l = list_all (are_alike l.view) (drawn_in (drop l.color-index l.colors) l.depth) ≡ list_all (are_alike l.view) (drawn_in l.colors l.depth)
