use Rattle.std.proofs.Common.{◌∙◌, sym}
use Rattle.wg_init.proofs.Notes.{effect_same}
use Rattle.wg_init.proofs.noting.sets_what_is_set.Goals as goal

pub returns-then-not-unsets-clause-same : goal.returns-then-not-unsets-clause-same
returns-then-not-unsets-clause-same c = λ covers.
    effect_same c.args.run c.args.kind c.args.rows.now (sym c.unsets.ensures ∙ c.if-not-unsets.true) c.requires (sym c.covers.ensures.test ∙ covers) (c.covers.ensures.same covers)
