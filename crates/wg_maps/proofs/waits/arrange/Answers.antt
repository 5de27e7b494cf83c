use Rattle.std.proofs.Common.{rules}
use Rattle.std.proofs.lemmas.List.Sorted.{IsNonDecreasingBy-from_sort_by_key, answers_always}
use Rattle.wg_types.specs.declared.mappings.PendingMap.{PendingMap}
use Rattle.wg_maps.proofs.ArrangedLemmas.{sorted_arranged}
use Rattle.wg_maps.proofs.waits.arrange.Goals as goal

pub returns-clause-arranged : goal.returns-clause-arranged
returns-clause-arranged c =
    let rises = IsNonDecreasingBy-from_sort_by_key (λ (wait : PendingMap). wait.promise) _ c.in_ok-sort_by_key.ensures.sorted (λ a r q k. search rules) in
    let stable = c.sort_by_key.ensures.stable (λ (wait : PendingMap). wait.promise) (answers_always _ _ _ (λ f a r g h. search rules)) in
    sorted_arranged _ _ c.requires rises stable

pub returns-clause-in_order : goal.returns-clause-in_order
returns-clause-in_order c = IsNonDecreasingBy-from_sort_by_key (λ (wait : PendingMap). wait.promise) _ c.in_ok-sort_by_key.ensures.sorted (λ a r q k. search rules)
