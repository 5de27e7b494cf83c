use Rattle.std.proofs.Common.{arith}
use Rattle.wg_fading.proofs.Reading.{filled}
use Rattle.wg_fading.proofs.pages.fill_in.Goals as goal

pub returns-in_ok-resize-clause-each : goal.returns-in_ok-resize-clause-each
returns-in_ok-resize-clause-each c = λ j. rw c.in_ok-resize.ensures.items (filled c.args.page.now.places.items _ j (omega arith))
