use Rattle.std.proofs.lemmas.List.Filters.{dedup_is}
use Rattle.std.proofs.lemmas.List.Kept.{Contains-dedup_nat, AllPairs-from_increasing}
use Rattle.std.proofs.lemmas.List.Sorted.{Contains-permutation}
use Rattle.std.proofs.lemmas.Map.Keys.{IsStrictlyIncreasing-dedup}
use Rattle.wg_cbtrack.proofs.Owning.{rising_from, contains_from, among_from}
use Rattle.wg_cbtrack.proofs.owners.in_order.Goals as goal

pub returns-clause-rising : goal.returns-clause-rising
returns-clause-rising c =
    let is = dedup_is _ _ _ c.dedup.ensures.filtered in
    rw is (rising_from _ (AllPairs-from_increasing _ (IsStrictlyIncreasing-dedup _ c.sort_unstable.ensures.sorted)))

pub returns-clause-all : goal.returns-clause-all
returns-clause-all c = λ o e.
    let is = dedup_is _ _ _ c.dedup.ensures.filtered in
    let moved = c.sort_unstable.ensures.permutation in
    let found = Contains-dedup_nat _ o (Contains-permutation _ _ o moved (contains_from _ o e)) in
    rw is (among_from _ o found.0 found.1 found.2)
