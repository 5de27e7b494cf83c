use Rattle.std.proofs.Common.{◌∙◌, length, ap, sym, eqb-true, eq-eqb, true≢false}
use Rattle.std.proofs.lemmas.List.{nil_from_length}
use Rattle.wg_cbtrack.specs.Stands.{tracker_of}
use Rattle.wg_cbtrack.proofs.Whole.{none_added, some_added}
use Rattle.wg_cbtrack.proofs.plan.add_to.Goals as goal

pub returns-then-is_empty : goal.returns-then-is_empty
returns-then-is_empty c = λ f h. none_added (tracker_of c.args.last_rows.now c.args.set_rows.now) c.args.draft c.args.place c.args.track.now c.lent-lent.result.kept.now c.lent-lent.result.ends.now c.lent-lent.result.wants.now c.lent-lent.result.leaves.now f (nil_from_length c.lent-lent.result.kept.now (eqb-true (length c.lent-lent.result.kept.now) 0 (sym c.is_empty.ensures ∙ c.if-is_empty.true))) c.lent-lent.ensures h

pub returns : goal.returns
returns c = λ f h. some_added (tracker_of c.args.last_rows.now c.args.set_rows.now) c.in_ok-added.added c.args.place c.args.track.now c.lent-lent.result.kept.now c.lent-lent.result.ends.now c.lent-lent.result.wants.now c.lent-lent.result.leaves.now f (λ none. true≢false (sym (eq-eqb (length c.lent-lent.result.kept.now) 0 (ap length none)) ∙ (sym c.is_empty.ensures ∙ c.if-is_empty.false))) c.lent-lent.ensures (λ first rest track. c.in_ok-added.ensures f first rest track h)
