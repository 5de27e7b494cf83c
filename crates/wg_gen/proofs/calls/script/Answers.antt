use Rattle.std.proofs.Common.{◌≡◌, List, sym, subst, rules}
use Rattle.wg_script.specs.CallOf.{BoundCall}
use Rattle.wg_names.specs.Bound.{IsBound}
use Rattle.wg_gen.specs.Generator.{phases_of}
use Rattle.wg_gen.proofs.Bound.{is_bound}
use Rattle.wg_gen.proofs.calls.script.Goals as goal

pub returns-clause-bound : goal.returns-clause-bound
returns-clause-bound c =
    let same : c.push-3.new.self ≡ phases_of c.args.count c.args.lanes = search rules in
    subst (λ (phases : List (List (List BoundCall))). IsBound phases) (sym same) (is_bound c.args.count c.args.lanes)
