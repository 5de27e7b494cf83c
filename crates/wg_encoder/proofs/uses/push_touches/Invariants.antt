use Rattle.std.proofs.Common.{◌≡◌, ◌++◌, take}
use Rattle.std.specs.List.{flat_map}
use Rattle.wg_trace.specs.Added.{BeginsWith}
use Rattle.wg_types.specs.declared.bundles.BundleTouch.{BundleTouch}
use Rattle.wg_encoder.specs.Uses.{cells_uses}
use Rattle.wg_encoder.proofs.uses.push_touches.Given as goal

abbrev pub invariant-loop-touch : goal.invariant-loop-touch
invariant-loop-touch l =
    (l.uses.items ≡ l.initial.uses.items ++ flat_map (λ (touch : BundleTouch). cells_uses touch.cells) (take l.touch-index l.touches))
    × BeginsWith l.uses.items l.initial.uses.items
