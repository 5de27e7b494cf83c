-- Tables of words as code holds them.
use Rattle.std.proofs.Common.{◌≡◌, ℕ, List, [], ◌∷◌, Bool, true, false, Option, Some, None, refl, ap, ◌∙◌, bytes_eq, Bor}
use Rattle.std.specs.Prelude.{cond}
use Rattle.std.specs.List.{find}
use Rattle.std.specs.Option.{option_map}
use Rattle.wg_script.specs.Words.{table, word_in}

first : {A B X : Type 0} (f : A → X) (g : B → X) (b : Bool) (x : A) (y : B) (r : Option A) (q : Option B)
    → f x ≡ g y → option_map f r ≡ option_map g q → option_map f (cond b (Some x) r) ≡ option_map g (cond b (Some y) q)
first f g true x y r q here later = ap Some here
first f g false x y r q here later = later

same : {X : Type 0} (rows : List (Bor (List ℕ) × X)) (s : List ℕ)
    → option_map (λ r. r.1) (find (λ r. bytes_eq r.0.now s) rows) ≡ word_in (table rows) s
same [] s = refl
same (r ∷ rows) s = first (λ r. r.1) (λ r. r.1) (bytes_eq r.0.now s) r (r.0.now, r.1) _ _ refl (same rows s)

pub word_found : {X : Type 0} (rows : List (Bor (List ℕ) × X)) (s : List ℕ) (r : Bor (List ℕ) × X)
    → Some r ≡ find (λ r. bytes_eq r.0.now s) rows → Some r.1 ≡ word_in (table rows) s
word_found rows s r h = ap (option_map (λ r. r.1)) h ∙ same rows s

pub no_word : {X : Type 0} (rows : List (Bor (List ℕ) × X)) (s : List ℕ)
    → None ≡ find (λ r. bytes_eq r.0.now s) rows → None ≡ word_in (table rows) s
no_word rows s h = ap (option_map (λ r. r.1)) h ∙ same rows s
