-- The words of a set of usages, one after another.
use Rattle.std.specs.Prelude.{codes, bit_and, map}
use Rattle.std.specs.List.{join_with_byte}
use Rattle.std.proofs.Common.{◌≡◌, ℕ, ◌+◌, ◌<◌, ◌==◌, List, [], ◌∷◌, ◌++◌, length, take, get_or, true, false, sym, ◌∙◌, ap, refl, append_assoc, append-nil}
use Rattle.std.proofs.lemmas.List.{take_more, map-append}
use Rattle.std.proofs.lemmas.List.Elements.{filter-append}
use Rattle.wg_print.specs.Printing.{Printer, Puts}
use Rattle.wg_print.specs.UsageSets.{chosen_words, words_text}
use Rattle.wg_print.proofs.PrintingLemmas.{puts_then, puts_as}

-- what stands before the next word
abbrev pub joint_after : List (List ℕ) → List ℕ
joint_after [] = []
joint_after (x ∷ xs) = codes "+"

pub joint_after-more : (xs : List (List ℕ)) (w : List ℕ) → joint_after (xs ++ w ∷ []) ≡ codes "+"
joint_after-more [] w = refl
joint_after-more (x ∷ xs) w = refl

join_with_byte-more : (xs : List (List ℕ)) (w : List ℕ) → join_with_byte 43 (xs ++ w ∷ []) ≡ join_with_byte 43 xs ++ (joint_after xs ++ w)
join_with_byte-more [] w = refl
join_with_byte-more (x ∷ []) w = refl
join_with_byte-more (x ∷ y ∷ xs) w =
    ap (λ t. x ++ (43 ∷ t)) (join_with_byte-more (y ∷ xs) w) ∙ sym (append_assoc x (43 ∷ join_with_byte 43 (y ∷ xs)) (codes "+" ++ w))

chosen_words-append : (set : ℕ) (ws vs : List (ℕ × List ℕ)) → chosen_words set (ws ++ vs) ≡ chosen_words set ws ++ chosen_words set vs
unfolding chosen_words
chosen_words-append set ws vs = rw (filter-append (λ w. bit_and set w.0 == w.0) ws vs) (map-append (λ w. w.1) _ _)

chosen_words-one : (set : ℕ) (w : ℕ × List ℕ) → bit_and set w.0 == w.0 ≡ true → chosen_words set (w ∷ []) ≡ w.1 ∷ []
unfolding chosen_words
chosen_words-one set w h = rw h refl

chosen_words-none : (set : ℕ) (w : ℕ × List ℕ) → bit_and set w.0 == w.0 ≡ false → chosen_words set (w ∷ []) ≡ []
unfolding chosen_words
chosen_words-none set w h = rw h refl

chosen_words-next : {X : Type 0} (f : X → ℕ × List ℕ) (set : ℕ) (xs : List X) (i : ℕ) (d : X) → i < length xs
    → chosen_words set (map f (take (i + 1) xs)) ≡ chosen_words set (map f (take i xs)) ++ chosen_words set (f (get_or xs i d) ∷ [])
chosen_words-next f set xs i d h =
    rw (take_more xs i d h, map-append f (take i xs) (get_or xs i d ∷ [])) (chosen_words-append set (map f (take i xs)) (f (get_or xs i d) ∷ []))

-- the next word is one of the set's
pub chosen_words-hit : {X : Type 0} (f : X → ℕ × List ℕ) (set : ℕ) (xs : List X) (i : ℕ) (d : X) → i < length xs → bit_and set (f (get_or xs i d)).0 == (f (get_or xs i d)).0 ≡ true
    → chosen_words set (map f (take (i + 1) xs)) ≡ chosen_words set (map f (take i xs)) ++ (f (get_or xs i d)).1 ∷ []
chosen_words-hit f set xs i d h hit =
    chosen_words-next f set xs i d h ∙ ap (λ t. chosen_words set (map f (take i xs)) ++ t) (chosen_words-one set (f (get_or xs i d)) hit)

-- the next word is none of the set's
pub chosen_words-miss : {X : Type 0} (f : X → ℕ × List ℕ) (set : ℕ) (xs : List X) (i : ℕ) (d : X) → i < length xs → bit_and set (f (get_or xs i d)).0 == (f (get_or xs i d)).0 ≡ false
    → chosen_words set (map f (take (i + 1) xs)) ≡ chosen_words set (map f (take i xs))
chosen_words-miss f set xs i d h miss =
    chosen_words-next f set xs i d h ∙ ap (λ t. chosen_words set (map f (take i xs)) ++ t) (chosen_words-none set (f (get_or xs i d)) miss) ∙ append-nil _

-- one more word
pub puts_word : (a b c : Printer) (set : ℕ) (ws vs : List (ℕ × List ℕ)) (w : List ℕ) → chosen_words set vs ≡ chosen_words set ws ++ w ∷ []
    → Puts a b (words_text set ws) → Puts b c (joint_after (chosen_words set ws) ++ w) → Puts a c (words_text set vs)
unfolding words_text
puts_word a b c set ws vs w e p q =
    puts_as (puts_then a b c (join_with_byte 43 (chosen_words set ws)) (joint_after (chosen_words set ws) ++ w) p q)
    (sym (join_with_byte-more (chosen_words set ws) w) ∙ ap (λ t. join_with_byte 43 t) (sym e))

-- no more words
pub puts_no_word : (a b : Printer) (set : ℕ) (ws vs : List (ℕ × List ℕ)) → chosen_words set vs ≡ chosen_words set ws
    → Puts a b (words_text set ws) → Puts a b (words_text set vs)
unfolding words_text
puts_no_word a b set ws vs e p = puts_as p (ap (λ t. join_with_byte 43 t) (sym e))
