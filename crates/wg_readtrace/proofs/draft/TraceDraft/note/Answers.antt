use Rattle.std.proofs.Common.{◌∙◌, sym, ap, refl, ◌∷◌}
use Rattle.wg_trace.specs.declared.steps.Item.TheVariants as item
use Rattle.wg_readtrace.specs.declared.line.Line.{Line}
use Rattle.wg_readtrace.specs.declared.line.Line.TheVariants.{Bar, Free}
use Rattle.wg_readtrace.specs.Drafts.{items_with}
use Rattle.wg_readtrace.proofs.Drafts.{item_noted, step_noted}
use Rattle.wg_readtrace.proofs.draft.TraceDraft.note.Goals as goal

pub returns-in_ok-push-in-Bar-clause-items : goal.returns-in_ok-push-in-Bar-clause-items
returns-in_ok-push-in-Bar-clause-items c = λ lines.
    item_noted c.args.self.now c.close.new.self c.push.new.self (item.Bar c.in-Bar.part c.in-Bar.from c.in-Bar.to) (Bar c.in-Bar.part c.in-Bar.from c.in-Bar.to) lines c.in_ok-close-in-Bar.ensures.items c.in_ok-close-in-Bar.ensures.none c.in_ok-push-in-Bar.ensures.ok refl refl refl
    ∙ ap (λ (l : Line). items_with c.args.self.now (l ∷ lines)) (sym c.in-Bar.is)

pub returns-in_ok-close-in-Step-clause-items : goal.returns-in_ok-close-in-Step-clause-items
returns-in_ok-close-in-Step-clause-items c = λ lines.
    step_noted c.args.self.now c.close-in-Step.new.self c.in-Step.number c.in-Step.place c.in-Step.name lines c.in_ok-close-in-Step.ensures.items c.in_ok-close-in-Step.ensures.none c.in_ok-close-in-Step.ensures.uses c.in_ok-close-in-Step.ensures.accesses
    ∙ ap (λ (l : Line). items_with c.args.self.now (l ∷ lines)) (sym c.in-Step.is)

pub returns-in_ok-push-in-Free-clause-items : goal.returns-in_ok-push-in-Free-clause-items
returns-in_ok-push-in-Free-clause-items c = λ lines.
    item_noted c.args.self.now c.close-in-Free.new.self c.push-in-Free.new.self (item.Free c.in-Free.object c.in-Free.sort) (Free c.in-Free.object c.in-Free.sort) lines c.in_ok-close-in-Free.ensures.items c.in_ok-close-in-Free.ensures.none c.in_ok-push-in-Free.ensures.ok refl refl refl
    ∙ ap (λ (l : Line). items_with c.args.self.now (l ∷ lines)) (sym c.in-Free.is)
