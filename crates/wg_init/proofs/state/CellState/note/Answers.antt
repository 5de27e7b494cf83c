use Rattle.std.proofs.Common.{subst}
use Rattle.wg_init.specs.Effects.{IsNoted}
use Rattle.wg_init.proofs.Notes.{after_apart}
use Rattle.wg_init.proofs.Effects.{noted_keeps}
use Rattle.wg_init.proofs.state.CellState.note.Goals as goal

pub invariant_of-self-2 : goal.invariant_of-self-2
invariant_of-self-2 c =
    let noted = rw c.as_slice.ensures at c.in_ok-note_in.ensures.noted in
    record {
      apart = after_apart c.self.inside.kept.items c.note_in.new.kept.items c.args.step.now.accesses noted c.self.invariant.apart;
      made = c.note_in.ensures.made;
    }

pub returns-clause-keeps : goal.returns-clause-keeps
returns-clause-keeps c = λ steps keeps.
    let noted = rw c.as_slice.ensures at c.in_ok-note_in.ensures.noted in
    noted_keeps c.args.self.now.items c.note_in.new.kept.items c.args.step.now steps (subst (λ kept. IsNoted kept.items c.args.step.now c.note_in.new.kept.items) c.self.view_is noted) keeps
