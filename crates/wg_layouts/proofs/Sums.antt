-- Counts over two lists.
use Rattle.std.proofs.Common.{◌≡◌, ◌++◌, ◌+◌, List, Bool, cond, count_by}
use Rattle.std.proofs.lemmas.List.Sums.{sum_by-append}

pub count_by_append : {X : Type 0} (p : X → Bool) (xs ys : List X) → count_by p (xs ++ ys) ≡ count_by p xs + count_by p ys
count_by_append p xs ys = sum_by-append (λ x. cond (p x) 1 0) xs ys
