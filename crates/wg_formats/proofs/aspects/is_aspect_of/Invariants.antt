use Rattle.std.proofs.Common.{◌≡◌, drop}
use Rattle.wg_model.specs.Subresources.{is_aspect_of}
use Rattle.wg_formats.proofs.aspects.is_aspect_of.Given as goal

abbrev pub invariant-loop-other : goal.invariant-loop-other
invariant-loop-other l = is_aspect_of l.aspect (drop l.other-index l.aspects) ≡ is_aspect_of l.aspect l.aspects
