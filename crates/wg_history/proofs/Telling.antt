-- Tests of lists, and of values that may be left out, tell whether they are equal where tests of their items do.
use Rattle.std.proofs.Common.{◌≡◌, Bool, List, [], ◌∷◌, Option, Some, None, refl, ap, ap₂}
use Rattle.std.specs.Prelude.{Decides}
use Rattle.std.proofs.lemmas.Bool.{and_parts, and_from}
use Rattle.wg_model.specs.Equality.{same_list, same_option}

-- Lists, where their items are told apart.
pub lists_tell : {X : Type 0} (same : X → X → Bool) → ((x y : X) → Decides (same x y) (x ≡ y)) → (xs ys : List X) → Decides (same_list same xs ys) (xs ≡ ys)
lists_tell same tell [] [] = (λ e. refl, λ e. refl)
lists_tell same tell [] (y ∷ ys) = (λ e. absurd (cc), λ e. absurd (cc))
lists_tell same tell (x ∷ xs) [] = (λ e. absurd (cc), λ e. absurd (cc))
lists_tell same tell (x ∷ xs) (y ∷ ys) =
    let first = tell x y in
    let rest = lists_tell same tell xs ys in
    (λ e. ap₂ ◌∷◌ (first.0 (and_parts (same x y) (same_list same xs ys) e).0) (rest.0 (and_parts (same x y) (same_list same xs ys) e).1), λ e. and_from (same x y) (same_list same xs ys) (first.1 (cc)) (rest.1 (cc)))

-- Values that may be left out, likewise.
pub options_tell : {X : Type 0} (same : X → X → Bool) → ((x y : X) → Decides (same x y) (x ≡ y)) → (a b : Option X) → Decides (same_option same a b) (a ≡ b)
options_tell same tell None None = (λ e. refl, λ e. refl)
options_tell same tell None (Some b) = (λ e. absurd (cc), λ e. absurd (cc))
options_tell same tell (Some a) None = (λ e. absurd (cc), λ e. absurd (cc))
options_tell {X} same tell (Some a) (Some b) = let d = tell a b in (λ e. ap (λ (x : X). Some x) (d.0 e), λ e. d.1 (cc))
