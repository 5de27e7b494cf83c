use Rattle.wg_encoder.proofs.Boxes.{same_bundle}
use Rattle.wg_encoder.proofs.known.RecorderState.note.Goals as goal

pub returns-in-Bundle-clause-err : goal.returns-in-Bundle-clause-err
returns-in-Bundle-clause-err c = same_bundle c.take.result c.args.self.now c.in-Bundle.state c.take.new.self c.deref_mut.result.now c.in-Bundle.is c.deref_mut.ensures.value c.take.ensures.err
