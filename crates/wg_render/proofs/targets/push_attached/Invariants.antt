use Rattle.std.proofs.Common.{◌≡◌, ◌++◌, drop, map}
use Rattle.wg_model.specs.Attachments.{attached, sliced}
use Rattle.wg_render.proofs.targets.push_attached.Given as goal

abbrev pub invariant-loop-run : goal.invariant-loop-run
invariant-loop-run l = l.touches ++ map (attached l.how) (map (sliced l.slice) (drop l.run-index l.cells)) ≡ l.initial.touches ++ map (attached l.how) (map (sliced l.slice) l.cells)
