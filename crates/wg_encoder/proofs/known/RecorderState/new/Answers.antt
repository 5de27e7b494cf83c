use Rattle.std.proofs.Common.{sym}
use Rattle.wg_encoder.proofs.known.RecorderState.new.Goals as goal

pub returns-in_default : goal.returns-in_default
returns-in_default c = λ maker. (sym c.in_default.ensures, c.new.ensures maker)

pub returns : goal.returns
returns c = λ maker. rw (← c.in-Some.ensures) (rw c.in_ok-new.ensures.ok (c.in_ok-state.ensures maker))
