-- The promises that are due stand at the front.
use Rattle.std.proofs.Common.{◌≡◌, ℕ, zero, suc, ◌<◌, ◌≤◌, nat_le, true, false, List, [], ◌∷◌, length, drop, take, ◌++◌, ◌+◌, ◌-◌, get_or, refl, ap, sym, ◌∙◌, arith, if◌then◌else◌}
use Rattle.std.specs.List.Sorted.{IsPartitionPoint}
use Rattle.std.proofs.lemmas.List.{length-drop, get_or-drop}
use Rattle.std.proofs.lemmas.List.Sorted.{IsNonDecreasingBy-drop}
use Rattle.std.proofs.lemmas.Bool.{lt-ltb, le-ltb, leb-true, leb-false}
use Rattle.wg_trace.specs.declared.replies.Waiting.{Waiting}
use Rattle.wg_model.specs.Promises.{still_waiting}
use Rattle.wg_queue.specs.Order.{IsInOrder}

none_due : (n : ℕ) (ws : List Waiting) → ((k : ℕ) (d : Waiting) → k < length ws → nat_le (get_or ws k d).last n ≡ false) → ws ≡ still_waiting n ws
none_due n [] later = refl
none_due n (w ∷ ws) later =
    ap (λ rest. w ∷ rest) (none_due n ws (λ k d lt. later (suc k) d (omega (arith, lt))))
    ∙ ap (λ b. if b then w ∷ still_waiting n ws else still_waiting n ws) (sym (lt-ltb n w.last (leb-false w.last n (later 0 w (omega arith)))))

pub still_dropped : (n : ℕ) (ws : List Waiting) (k : ℕ) → k ≤ length ws → IsPartitionPoint (λ (w : Waiting). nat_le w.last n ≡ true) (λ (w : Waiting). nat_le w.last n ≡ false) ws k → drop k ws ≡ still_waiting n ws
still_dropped n ws zero le point = none_due n ws (λ k d lt. point.1 k d (omega arith) lt)
still_dropped n [] (suc k) le point = absurd (omega (arith, le))
still_dropped n (w ∷ ws) (suc k) le point =
    still_dropped n ws k (omega (arith, le)) (λ i d lo hi. point.0 (suc i) d (omega arith) (omega (arith, hi)), λ i d lo hi. point.1 (suc i) d (omega (arith, lo)) (omega (arith, hi)))
    ∙ ap (λ b. if b then w ∷ still_waiting n ws else still_waiting n ws) (sym (le-ltb n w.last (leb-true w.last n (point.0 0 w (omega arith) (omega arith)))))

-- The first promises stand last, and are cut off.
pub rotated_cut : (ws : List Waiting) (k : ℕ) → k ≤ length ws → take (length ws - k) (drop k ws ++ take k ws) ≡ drop k ws
rotated_cut ws k le = ap (λ n. take n (drop k ws ++ take k ws)) (sym (length-drop k ws)) ∙ take_whole (drop k ws) (take k ws)
  where
    take_zero : (ys : List Waiting) → take 0 ys ≡ []
    take_zero [] = refl
    take_zero (y ∷ ys) = refl

    take_whole : (xs ys : List Waiting) → take (length xs) (xs ++ ys) ≡ xs
    take_whole [] ys = take_zero ys
    take_whole (x ∷ xs) ys = ap (λ zs. x ∷ zs) (take_whole xs ys)

-- What is in order is so without the first.
pub cut_in_order : (issued : ℕ) (ws : List Waiting) (k : ℕ) → k ≤ length ws → IsInOrder issued ws → IsInOrder issued (drop k ws)
cut_in_order issued ws k le order = record {
  rises = IsNonDecreasingBy-drop (λ (w : Waiting). w.last) k ws order.rises;
  issued_all = λ n d lt. let here = order.issued_all (k + n) d (let e = length-drop k ws in omega (arith, e, lt, le)) in let same = ap (λ (w : Waiting). w.last) (get_or-drop k ws n d) in omega (arith, here, same);
}
