-- The call that a text names, found among some words.
use Rattle.std.proofs.Common.{◌≡◌, ℕ, List, [], ◌∷◌, Bool, true, false, Option, Some, None, refl, sym, ap, ◌∙◌, bytes_eq}
use Rattle.std.specs.Prelude.{cond}
use Rattle.std.specs.List.{find}
use Rattle.std.proofs.lemmas.Slice.Eq.{bytes_eq-Decides}
use Rattle.wg_types.specs.Words.{word_text, word_of}
use Rattle.wg_types.specs.declared.words.Word.{Word}
use Rattle.wg_types.proofs.WordLemmas.{text_names}

step : (b : Bool) (w v : Word) (ws : List Word) (s : List ℕ) → bytes_eq (word_text v) s ≡ b
    → Some w ≡ cond b (Some v) (find (λ x. bytes_eq (word_text x) s) ws)
    → (Some w ≡ find (λ x. bytes_eq (word_text x) s) ws → Some w ≡ word_of s) → Some w ≡ word_of s
step true w v ws s is h later = h ∙ sym (text_names v) ∙ ap word_of ((bytes_eq-Decides (word_text v) s).0 is)
step false w v ws s is h later = later h

pub found_word : (w : Word) (ws : List Word) (s : List ℕ) → Some w ≡ find (λ x. bytes_eq (word_text x) s) ws → Some w ≡ word_of s
found_word w [] s h = absurd (cc)
found_word w (v ∷ ws) s h = step _ w v ws s refl h (found_word w ws s)
