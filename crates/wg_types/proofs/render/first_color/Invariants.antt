-- What is asked of the color attachments that are left is what is asked of all.
use Rattle.std.proofs.Common.{◌≡◌, drop}
use Rattle.std.specs.List.{flat_map}
use Rattle.wg_types.specs.Refs.{first_of}
use Rattle.wg_types.specs.Render.{color_named}
use Rattle.wg_types.proofs.render.first_color.Given as goal

abbrev pub invariant-loop-color : goal.invariant-loop-color
invariant-loop-color g l = first_of (g.A.Ask.asks l.asked) (flat_map color_named (drop l.color-index l.colors)) ≡ first_of (g.A.Ask.asks l.asked) (flat_map color_named l.colors)
