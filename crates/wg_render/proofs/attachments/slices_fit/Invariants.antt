use Rattle.std.proofs.Common.{◌≡◌, drop}
use Rattle.std.specs.List.{list_all}
use Rattle.wg_model.specs.Attachments.{color_attached, slice_fits}
use Rattle.wg_render.specs.Attached.{given_of}
use Rattle.wg_render.proofs.attachments.slices_fit.Given as goal

abbrev pub invariant-loop-color : goal.invariant-loop-color
invariant-loop-color l = list_all (λ target. slice_fits (color_attached target)) (given_of (drop l.color-index l.colors)) ≡ list_all (λ target. slice_fits (color_attached target)) (given_of l.colors)
