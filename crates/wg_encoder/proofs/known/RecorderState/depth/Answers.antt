use Rattle.wg_encoder.proofs.KnownLemmas.{drawn_depth}
use Rattle.wg_encoder.proofs.known.RecorderState.depth.Goals as goal

pub returns-in-Bundle : goal.returns-in-Bundle
returns-in-Bundle c = λ maker targets commands h. drawn_depth c.deref.result.now _ c.depth.ensures maker targets commands (rw c.deref.ensures (rw c.in-Bundle.is at h))
