use Rattle.std.proofs.Common.{◌≡◌, drop, None}
use Rattle.wg_check.specs.Stories.{writer_met}
use Rattle.wg_check.proofs.stories.writer_met.Given as goal

abbrev pub invariant-loop-i : goal.invariant-loop-i
invariant-loop-i l = writer_met l.past l.reader (drop l.i l.story) ≡ writer_met None l.reader l.story
