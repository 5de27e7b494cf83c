use Rattle.std.proofs.Common.{◌∙◌, ap, sym}
use Rattle.wg_model.specs.Settings.{depth_after}
use Rattle.wg_encoder.proofs.BundleLemmas.{refused_stays, drawn_next}
use Rattle.wg_encoder.proofs.bundle.BundleState.take.Goals as goal

pub returns-in-Refused-clause-ok : goal.returns-in-Refused-clause-ok
returns-in-Refused-clause-ok c = λ targets earlier h. (refused_stays c.args.maker.now targets earlier c.args.command.now c.in-Refused.rule (let k = rw c.in-Refused.is at h in k.0), c.in_ok-after.ensures ∙ ap (λ n. depth_after n c.args.command.now) (c.depth.ensures c.args.maker.now targets earlier h))

pub returns-in-Some-clause-ok : goal.returns-in-Some-clause-ok
returns-in-Some-clause-ok c = λ targets earlier h. (drawn_next c.args.maker.now targets earlier c.args.command.now _ (rw c.in-Drawing.is at h) ∙ sym c.in-Some.ensures, c.in_ok-after.ensures ∙ ap (λ n. depth_after n c.args.command.now) (c.depth.ensures c.args.maker.now targets earlier h))
