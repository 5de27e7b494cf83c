-- The promises by their buffers, after a map more or some less.
use Rattle.std.proofs.Common.{◌≡◌, ℕ, Bool, true, false, not, ◌==◌, nat_eq, List, Option, Some, None, option_map, if◌then◌else◌, refl, sym, ap, ◌∙◌}
use Rattle.std.specs.List.Sorted.{IsNonDecreasingBy}
use Rattle.std.specs.Map.{lookup}
use Rattle.std.proofs.lemmas.List.Kept.{IsNonDecreasingBy-filter}
use Rattle.wg_types.specs.declared.mappings.PendingMap.{PendingMap}
use Rattle.wg_maps.specs.Mappings.{pending_of, without, with_map, is_due, still_pending, is_buffer_due}
use Rattle.wg_maps.specs.Waits.{promise_of, IsKept}
use Rattle.wg_maps.proofs.PendingLemmas.{found_with, found_without, without_none, found_settled, once_with, once_filter}

map_if : (b : Bool) (x y : Option PendingMap) → option_map (λ (wait : PendingMap). wait.promise) (if b then x else y) ≡ (if b then option_map (λ (wait : PendingMap). wait.promise) x else option_map (λ (wait : PendingMap). wait.promise) y)
map_if true x y = refl
map_if false x y = refl

pub kept_with : (pending : List PendingMap) (old new : List (ℕ × ℕ)) (wait : PendingMap) → pending_of pending wait.buffer ≡ None
    → IsNonDecreasingBy (λ (w : PendingMap). w.promise) (with_map pending wait)
    → ((buffer : ℕ) → lookup (nat_eq buffer) new ≡ (if nat_eq wait.buffer buffer then Some wait.promise else lookup (nat_eq buffer) old))
    → IsKept pending old → IsKept (with_map pending wait) new
kept_with pending old new wait none in_order puts kept = record {
  in_order = in_order;
  once = once_with pending wait none kept.once;
  by_buffer = λ buffer. puts buffer ∙ (ap (λ o. if nat_eq wait.buffer buffer then Some wait.promise else o) (kept.by_buffer buffer)
      ∙ (sym (map_if (wait.buffer == buffer) (Some wait) (pending_of pending buffer)) ∙ sym (ap (option_map (λ (w : PendingMap). w.promise)) (found_with pending wait none buffer))));
}

pub kept_without : (pending : List PendingMap) (old new : List (ℕ × ℕ)) (number : ℕ)
    → ((buffer : ℕ) → lookup (nat_eq buffer) new ≡ (if nat_eq number buffer then None else lookup (nat_eq buffer) old))
    → IsKept pending old → IsKept (without pending number) new
kept_without pending old new number puts kept = record {
  in_order = IsNonDecreasingBy-filter (λ (w : PendingMap). w.promise) (λ w. not (w.buffer == number)) pending kept.in_order;
  once = once_filter (λ w. not (w.buffer == number)) pending kept.once;
  by_buffer = λ buffer. puts buffer ∙ (ap (λ o. if nat_eq number buffer then None else o) (kept.by_buffer buffer)
      ∙ (sym (map_if (number == buffer) None (pending_of pending buffer)) ∙ sym (ap (option_map (λ (w : PendingMap). w.promise)) (found_without pending number buffer))));
}
