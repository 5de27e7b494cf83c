use Rattle.std.proofs.Common.{◌≡◌, ℕ, List, true, option_map, Bor, sym, subst}
use Rattle.wg_gen.specs.Alike.{MayGenerate}
use Rattle.wg_top.proofs.Asking.{SpellsAlike, alike_some, alike_none, no_count, too_many}
use Rattle.wg_top.proofs.words.generation.Goals as goal
use Rattle.wg_top.proofs.words.generation.Goals.{in-Some+in_ok-number_in-in-Some, in-None}

pub returns-in_err-count : goal.returns-in_err-count
returns-in_err-count c = rw c.from_residual.ensures (no_count c.args.count.now (option_map (λ (word : Bor (List ℕ)). word.now) c.args.lanes) (rw c.in_err-count.was at c.number_in.ensures))

pub returns-else-may_generate : goal.returns-else-may_generate
returns-else-may_generate c =
    let alike : SpellsAlike (option_map (λ (word : Bor (List ℕ)). word.now) c.args.lanes) c.match-lanes.lanes =
    elim c.match-lanes.branch [ in-Some+in_ok-number_in-in-Some w ↦ alike_some _ _ _ _ w.in-Some.is w.lanes-is w.in_ok-number_in-in-Some.ensures | in-None w ↦ alike_none _ _ w.in-None.is w.lanes-is ] in
    too_many c.args.count.now (option_map (λ (word : Bor (List ℕ)). word.now) c.args.lanes) c.in_ok-count.count c.match-lanes.lanes c.in_ok-count.ensures alike
    (λ may. let yes : c.may_generate.result ≡ true = c.may_generate.ensures.no (subst (λ (lanes : ℕ). MayGenerate c.in_ok-count.count lanes) (sym c.unwrap_or.ensures) may) in cc)
