-- What a list that is added to begins with.
use Rattle.std.proofs.Common.{◌≡◌, List, [], ◌∷◌, ◌++◌, sym, ap, ◌∙◌, append_assoc, append-nil}
use Rattle.wg_trace.specs.Added.{BeginsWith}

module _ {A : Type 0} where
  pub begins_self : (xs : List A) → BeginsWith xs xs
  begins_self xs = record { more = []; is = sym (append-nil xs) }

  pub begins_then : (xs ys zs : List A) → BeginsWith zs ys → BeginsWith ys xs → BeginsWith zs xs
  begins_then xs ys zs p q = record { more = q.more ++ p.more; is = p.is ∙ (ap (λ w. w ++ p.more) q.is ∙ append_assoc xs q.more p.more) }

  pub begins_more : (xs ys more : List A) → ys ≡ xs ++ more → BeginsWith ys xs
  begins_more xs ys more e = record { more = more; is = e }

  -- one more element
  pub begins_one : (xs ys : List A) (x : A) → ys ≡ xs ++ x ∷ [] → BeginsWith ys xs
  begins_one xs ys x e = begins_more xs ys (x ∷ []) e

  -- a list that stays as it is
  pub begins_same : (xs ys : List A) → ys ≡ xs → BeginsWith ys xs
  begins_same xs ys e = begins_more xs ys [] (e ∙ sym (append-nil xs))
