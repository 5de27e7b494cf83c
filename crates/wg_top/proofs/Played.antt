-- One more item of a fold.
use Rattle.std.proofs.Common.{◌≡◌, ℕ, ◌+◌, ◌<◌, List, [], ◌∷◌, length, take, get_or, fold, ap, sym, ◌∙◌}
use Rattle.std.proofs.lemmas.List.{take_more}
use Rattle.std.proofs.lemmas.List.Sums.{fold-append}

pub fold_more : {X S : Type 0} (f : S → X → S) (start : S) (xs : List X) (i : ℕ) (x : X) → i < length xs → x ≡ get_or xs i x → fold f start (take (i + 1) xs) ≡ f (fold f start (take i xs)) x
fold_more f start xs i x lt is = ap (fold f start) (take_more xs i x lt) ∙ (fold-append f start (take i xs) (get_or xs i x ∷ []) ∙ ap (f (fold f start (take i xs))) (sym is))
