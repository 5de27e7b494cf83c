use Rattle.std.proofs.Common.{◌≡◌, drop}
use Rattle.wg_model.specs.Subresources.{aspects_meet}
use Rattle.wg_formats.proofs.aspects.aspects_meet.Given as goal

abbrev pub invariant-loop-aspect : goal.invariant-loop-aspect
invariant-loop-aspect l = aspects_meet (drop l.aspect-index l.aspects) l.others ≡ aspects_meet l.aspects l.others
