-- Steps of the loop over a set of usages.
use Rattle.std.proofs.Common.{◌≡◌, ℕ, ◌+◌, ◌-◌, ◌<◌, ◌≤◌, List, [], ◌∷◌, ◌++◌, length, take, drop, get_or, Bool, Some, ap, sym, ◌≢◌, ◌∙◌, arith, if◌then◌else◌, length-drop}
use Rattle.std.specs.Option.{option_and_then}
use Rattle.std.proofs.lemmas.List.{take_more, drop_more, get_or-drop}
use Rattle.std.proofs.lemmas.Bool.{ne_eqb, eq-eqb}
use Rattle.wg_readtrace.specs.Words.{with_usage, set_from}

piece_more : (w : List ℕ) (start i : ℕ) → start ≤ i → i < length w → take (i + 1 - start) (drop start w) ≡ take (i - start) (drop start w) ++ get_or w i 0 ∷ []
piece_more w start i a b =
    let one : i + 1 - start ≡ (i - start) + 1 = omega arith in
    let at : start + (i - start) ≡ i = omega arith in
    let long : i - start < length (drop start w) = omega (arith, length-drop start w) in
    ap (λ (n : ℕ). take n (drop start w)) one ∙ (take_more (drop start w) (i - start) 0 long ∙ ap (λ (x : ℕ). take (i - start) (drop start w) ++ x ∷ []) (get_or-drop start w (i - start) 0 ∙ ap (λ (n : ℕ). get_or w n 0) at))

-- a byte of a usage
pub within_piece : (w : List ℕ) (set start i : ℕ) → start ≤ i → i < length w → get_or w i 0 ≢ 43 → set_from set (take (i + 1 - start) (drop start w)) (drop (i + 1) w) ≡ set_from set (take (i - start) (drop start w)) (drop i w)
within_piece w set start i a b ne =
    ap (λ (p : List ℕ). set_from set p (drop (i + 1) w)) (piece_more w start i a b)
    ∙ sym (ap (set_from set (take (i - start) (drop start w))) (drop_more w i 0 b) ∙ ap (λ (t : Bool). if t then option_and_then (λ more. set_from more [] (drop (i + 1) w)) (with_usage set (take (i - start) (drop start w))) else set_from set (take (i - start) (drop start w) ++ get_or w i 0 ∷ []) (drop (i + 1) w)) (ne_eqb (get_or w i 0) 43 ne))

-- a `+`
pub at_plus : (w : List ℕ) (set more start i : ℕ) → i < length w → get_or w i 0 ≡ 43 → with_usage set (take (i - start) (drop start w)) ≡ Some more → set_from more (take (i + 1 - (i + 1)) (drop (i + 1) w)) (drop (i + 1) w) ≡ set_from set (take (i - start) (drop start w)) (drop i w)
at_plus w set more start i b same e =
    let none : i + 1 - (i + 1) ≡ 0 = omega arith in
    ap (λ (n : ℕ). set_from more (take n (drop (i + 1) w)) (drop (i + 1) w)) none ∙ sym (ap (set_from set (take (i - start) (drop start w))) (drop_more w i 0 b) ∙ (ap (λ (t : Bool). if t then option_and_then (λ more. set_from more [] (drop (i + 1) w)) (with_usage set (take (i - start) (drop start w))) else set_from set (take (i - start) (drop start w) ++ get_or w i 0 ∷ []) (drop (i + 1) w)) (eq-eqb (get_or w i 0) 43 same) ∙ ap (option_and_then (λ more. set_from more [] (drop (i + 1) w))) e))
