use Rattle.std.proofs.Common.{◌≡◌, ◌++◌, drop}
use Rattle.wg_model.specs.Bundles.{references_within}
use Rattle.wg_encoder.proofs.references.references_within.Given as goal

abbrev pub invariant-loop-kept : goal.invariant-loop-kept
invariant-loop-kept l = l.found.items ++ references_within (drop l.kept-index l.commands) ≡ references_within l.commands
