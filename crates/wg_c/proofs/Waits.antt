-- What is left to be told of settlements.
use Rattle.std.proofs.Common.{◌≡◌, ℕ, zero, suc, ◌+◌, List, [], ◌∷◌, Some, None, ap, drop, add-one}
use Rattle.std.specs.Prelude.{slice_get}
use Rattle.std.proofs.Math.Seq.{drop-nil}
use Rattle.wg_trace.specs.declared.replies.Settlement.{Settlement}

drop_suc : (xs : List Settlement) (n : ℕ) (x : Settlement) → slice_get xs n ≡ Some x → drop n xs ≡ x ∷ drop (suc n) xs
drop_suc [] n x e = cc
drop_suc (y ∷ xs) zero x e = let p : y ≡ x = cc in ap (λ z. z ∷ xs) p
drop_suc (y ∷ xs) (suc n) x e = drop_suc xs n x e

-- what is left at a place begins with what stands there
pub drop_some : (xs : List Settlement) (n : ℕ) (x : Settlement) → slice_get xs n ≡ Some x → drop n xs ≡ x ∷ drop (n + 1) xs
drop_some xs n x e = rw add-one (drop_suc xs n x e)

-- behind the last place nothing is left
pub drop_none : (xs : List Settlement) (n : ℕ) → slice_get xs n ≡ None → drop n xs ≡ []
drop_none [] n e = drop-nil n
drop_none (x ∷ xs) zero e = cc
drop_none (x ∷ xs) (suc n) e = drop_none xs n e
