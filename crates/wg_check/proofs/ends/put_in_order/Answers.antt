use Rattle.std.proofs.Common.{rules}
use Rattle.std.proofs.lemmas.List.Sorted.{answers_always}
use Rattle.wg_check.specs.Segments.{before}
use Rattle.wg_check.proofs.Sorting.{weak}
use Rattle.wg_check.proofs.ends.put_in_order.Goals as goal

pub returns-clause-sorted : goal.returns-clause-sorted
returns-clause-sorted c = c.in_ok-sort_by.ensures.sorted before weak (answers_always _ _ _ (λ f a r g h. search rules))
