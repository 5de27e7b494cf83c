-- What scopes of some uses come to.
use Rattle.std.proofs.Common.{◌≡◌, List, ◌++◌, ◌∙◌, ap₂, subst, sym}
use Rattle.wg_rows.specs.Sets.{with_uses, sets}
use Rattle.wg_rows.proofs.Sets.{sets_join}
use Rattle.wg_model.specs.Scopes.{Use, clash, clash_in, IsVerdict}
use Rattle.wg_model.proofs.Verdicts.{verdict_is}

pub merged : (uses more old other : List Use) → old ≡ sets uses → other ≡ sets more → with_uses other old ≡ sets (more ++ uses)
merged uses more old other e h = ap₂ with_uses h e ∙ sets_join.rows more uses

verdict_from : (uses : List Use) → IsVerdict uses (clash_in (sets uses))
unfolding clash
verdict_from uses = verdict_is uses

pub verdict_of : (uses rows : List Use) → rows ≡ sets uses → IsVerdict uses (clash_in rows)
verdict_of uses rows e = subst (λ r. IsVerdict uses (clash_in r)) (sym e) (verdict_from uses)
