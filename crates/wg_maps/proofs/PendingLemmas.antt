-- Lists of pending maps.
use Rattle.std.proofs.Common.{◌≡◌, ℕ, zero, suc, ◌+◌, ◌<◌, ◌≤◌, Bool, true, false, not, ◌&&◌, ◌||◌, ◌==◌, nat_le, nat_lt, List, [], ◌∷◌, filter, map, insert, length, count_by, Option, Some, None, if◌then◌else◌, refl, sym, ap, subst, ◌∙◌, arith}
use Rattle.std.specs.List.Sorted.{IsPartitionPoint, IsNonDecreasing, IsNonDecreasingBy}
use Rattle.std.proofs.lemmas.List.{get_or-map, length-map}
use Rattle.std.proofs.lemmas.List.Kept.{IsNonDecreasingBy-filter}
use Rattle.std.proofs.lemmas.Bool.{lt-ltb, le-ltb, leb-true, leb-false, eqb-true, eqb-false, ne_eqb}
use Rattle.std.proofs.lemmas.List.Sums.{length-filter}
use Rattle.wg_types.specs.declared.mappings.MapDone.{MapDone}
use Rattle.wg_types.specs.declared.mappings.PendingMap.{PendingMap}
use Rattle.wg_maps.specs.Mappings.{pending_of, without, with_map, is_due, still_pending, is_buffer_due, map_done, due_maps, promises}
use Rattle.wg_maps.specs.Waits.{IsEachOnce}

-- which map a buffer has

none_after : (t : Bool) (wait : PendingMap) (rest : Option PendingMap) → (if t then Some wait else rest) ≡ None → (t ≡ false) × (rest ≡ None)
none_after true wait rest e = absurd (cc)
none_after false wait rest e = (refl, e)

pub found_with : (pending : List PendingMap) (new : PendingMap) → pending_of pending new.buffer ≡ None → (buffer : ℕ)
    → pending_of (with_map pending new) buffer ≡ (if new.buffer == buffer then Some new else pending_of pending buffer)
found_with [] new none buffer = refl
found_with (wait ∷ later) new none buffer = by_place (nat_lt new.promise wait.promise) (found_with later new parts.1 buffer)
  where
    parts : ((wait.buffer == new.buffer) ≡ false) × (pending_of later new.buffer ≡ None)
    parts = none_after (wait.buffer == new.buffer) wait (pending_of later new.buffer) none

    apart : (wait.buffer == buffer) ≡ true → (new.buffer == buffer) ≡ false
    apart e = ne_eqb new.buffer buffer (λ f. eqb-false wait.buffer new.buffer parts.0 (eqb-true wait.buffer buffer e ∙ sym f))

    turned : (p q : Bool) (z : Option PendingMap) → (p ≡ true → q ≡ false) → (if p then Some wait else (if q then Some new else z)) ≡ (if q then Some new else (if p then Some wait else z))
    turned true q z one = sym (ap (λ b. if b then Some new else Some wait) (one refl))
    turned false q z one = refl

    by_place : (b : Bool) → pending_of (with_map later new) buffer ≡ (if new.buffer == buffer then Some new else pending_of later buffer)
        → pending_of (if b then new ∷ wait ∷ later else wait ∷ with_map later new) buffer ≡ (if new.buffer == buffer then Some new else pending_of (wait ∷ later) buffer)
    by_place true e = refl
    by_place false e = ap (λ o. if wait.buffer == buffer then Some wait else o) e ∙ turned (wait.buffer == buffer) (new.buffer == buffer) (pending_of later buffer) apart

pub found_without : (pending : List PendingMap) (number buffer : ℕ) → pending_of (without pending number) buffer ≡ (if number == buffer then None else pending_of pending buffer)
found_without [] number buffer = by_test (number == buffer)
  where
    by_test : (b : Bool) → pending_of [] buffer ≡ (if b then None else pending_of [] buffer)
    by_test true = refl
    by_test false = refl
found_without (wait ∷ later) number buffer = by_test (wait.buffer == number) refl (found_without later number buffer)
  where
    gone : (t : Bool) → (wait.buffer == number) ≡ true → (number == buffer) ≡ t → (if t then None else pending_of later buffer) ≡ (if t then None else (if wait.buffer == buffer then Some wait else pending_of later buffer))
    gone true is e = refl
    gone false is e = sym (ap (λ b. if b then Some wait else pending_of later buffer) (ne_eqb wait.buffer buffer (λ f. eqb-false number buffer e (sym (eqb-true wait.buffer number is) ∙ f))))

    kept : (t : Bool) → (wait.buffer == number) ≡ false → (number == buffer) ≡ t → (if wait.buffer == buffer then Some wait else (if t then None else pending_of later buffer)) ≡ (if t then None else (if wait.buffer == buffer then Some wait else pending_of later buffer))
    kept true is e = ap (λ b. if b then Some wait else None) (ne_eqb wait.buffer buffer (λ f. eqb-false wait.buffer number is (f ∙ sym (eqb-true number buffer e))))
    kept false is e = refl

    by_test : (t : Bool) → (wait.buffer == number) ≡ t → pending_of (without later number) buffer ≡ (if number == buffer then None else pending_of later buffer)
        → pending_of (if not t then wait ∷ without later number else without later number) buffer ≡ (if number == buffer then None else pending_of (wait ∷ later) buffer)
    by_test true is e = e ∙ gone (number == buffer) is refl
    by_test false is e = ap (λ o. if wait.buffer == buffer then Some wait else o) e ∙ kept (number == buffer) is refl

pub without_none : (pending : List PendingMap) (buffer : ℕ) → pending_of pending buffer ≡ None → without pending buffer ≡ pending
without_none [] buffer none = refl
without_none (wait ∷ later) buffer none =
    let parts = none_after (wait.buffer == buffer) wait (pending_of later buffer) none in
    ap (λ t. if not t then wait ∷ without later buffer else without later buffer) parts.0 ∙ ap (λ waits. wait ∷ waits) (without_none later buffer parts.1)

filter_none : (test : PendingMap → Bool) (pending : List PendingMap) (buffer : ℕ) → pending_of pending buffer ≡ None → pending_of (filter test pending) buffer ≡ None
filter_none test [] buffer none = refl
filter_none test (wait ∷ later) buffer none = by_test (test wait) (filter_none test later buffer parts.1)
  where
    parts : ((wait.buffer == buffer) ≡ false) × (pending_of later buffer ≡ None)
    parts = none_after (wait.buffer == buffer) wait (pending_of later buffer) none

    by_test : (b : Bool) → pending_of (filter test later) buffer ≡ None → pending_of (if b then wait ∷ filter test later else filter test later) buffer ≡ None
    by_test true e = ap (λ t. if t then Some wait else pending_of (filter test later) buffer) parts.0 ∙ e
    by_test false e = e

none_due : (completed : ℕ) (pending : List PendingMap) (buffer : ℕ) → pending_of pending buffer ≡ None → is_buffer_due completed buffer pending ≡ false
none_due completed [] buffer none = refl
none_due completed (wait ∷ later) buffer none =
    let parts = none_after (wait.buffer == buffer) wait (pending_of later buffer) none in
    ap (λ t. (is_due completed wait && t) || is_buffer_due completed buffer later) parts.0 ∙ (by_due (is_due completed wait) (is_buffer_due completed buffer later) ∙ none_due completed later buffer parts.1)
  where
    by_due : (d b : Bool) → ((d && false) || b) ≡ b
    by_due true b = refl
    by_due false b = refl

pub found_settled : (completed : ℕ) (pending : List PendingMap) → IsEachOnce pending → (buffer : ℕ)
    → pending_of (still_pending completed pending) buffer ≡ (if is_buffer_due completed buffer pending then None else pending_of pending buffer)
found_settled completed [] once buffer = refl
found_settled completed (wait ∷ later) once buffer = by_due (is_due completed wait) (found_settled completed later once.1 buffer)
  where
    none : (wait.buffer == buffer) ≡ true → pending_of later buffer ≡ None
    none e = ap (pending_of later) (sym (eqb-true wait.buffer buffer e)) ∙ once.0

    gone : (t : Bool) → (wait.buffer == buffer) ≡ t → pending_of (still_pending completed later) buffer ≡ (if is_buffer_due completed buffer later then None else pending_of later buffer)
        → pending_of (still_pending completed later) buffer ≡ (if t || is_buffer_due completed buffer later then None else (if t then Some wait else pending_of later buffer))
    gone true e f = filter_none (λ w. not (is_due completed w)) later buffer (none e)
    gone false e f = f

    stays : (t : Bool) → (wait.buffer == buffer) ≡ t → pending_of (still_pending completed later) buffer ≡ (if is_buffer_due completed buffer later then None else pending_of later buffer)
        → (if t then Some wait else pending_of (still_pending completed later) buffer) ≡ (if is_buffer_due completed buffer later then None else (if t then Some wait else pending_of later buffer))
    stays true e f = sym (ap (λ b. if b then None else Some wait) (none_due completed later buffer (none e)))
    stays false e f = f

    by_due : (d : Bool) → pending_of (still_pending completed later) buffer ≡ (if is_buffer_due completed buffer later then None else pending_of later buffer)
        → pending_of (if not d then wait ∷ still_pending completed later else still_pending completed later) buffer ≡ (if (d && (wait.buffer == buffer)) || is_buffer_due completed buffer later then None else pending_of (wait ∷ later) buffer)
    by_due true f = gone (wait.buffer == buffer) refl f
    by_due false f = stays (wait.buffer == buffer) refl f

-- no buffer is pending twice

pub once_with : (pending : List PendingMap) (new : PendingMap) → pending_of pending new.buffer ≡ None → IsEachOnce pending → IsEachOnce (with_map pending new)
once_with [] new none once = (refl, tt)
once_with (wait ∷ later) new none once = by_place (nat_lt new.promise wait.promise) (once_with later new parts.1 once.1)
  where
    parts : ((wait.buffer == new.buffer) ≡ false) × (pending_of later new.buffer ≡ None)
    parts = none_after (wait.buffer == new.buffer) wait (pending_of later new.buffer) none

    by_place : (b : Bool) → IsEachOnce (with_map later new) → IsEachOnce (if b then new ∷ wait ∷ later else wait ∷ with_map later new)
    by_place true rest = (none, once)
    by_place false rest = (found_with later new parts.1 wait.buffer ∙ (ap (λ t. if t then Some new else pending_of later wait.buffer) (ne_eqb new.buffer wait.buffer (λ e. eqb-false wait.buffer new.buffer parts.0 (sym e))) ∙ once.0), rest)

pub once_filter : (test : PendingMap → Bool) (pending : List PendingMap) → IsEachOnce pending → IsEachOnce (filter test pending)
once_filter test [] once = tt
once_filter test (wait ∷ later) once = by_test (test wait) (once_filter test later once.1)
  where
    by_test : (b : Bool) → IsEachOnce (filter test later) → IsEachOnce (if b then wait ∷ filter test later else filter test later)
    by_test true rest = (filter_none test later wait.buffer once.0, rest)
    by_test false rest = rest

-- what stands in the order of promises

rises_map : {Y : Type 0} (f : PendingMap → Y) (n : Y → ℕ) (pending : List PendingMap) → IsNonDecreasingBy (λ (wait : PendingMap). n (f wait)) pending → IsNonDecreasingBy n (map f pending)
rises_map f n [] rises i j e le lt = absurd (omega (arith, lt))
rises_map f n (wait ∷ later) rises i j e le lt =
    let below : j < length (wait ∷ later) = subst (λ (m : ℕ). j < m) (length-map (wait ∷ later) f) lt in
    rw (get_or-map f (wait ∷ later) i wait e (omega (arith, le, below)), get_or-map f (wait ∷ later) j wait e below) (rises i j wait le below)

pub done_in_order : (waits : List PendingMap) → IsNonDecreasingBy (λ (wait : PendingMap). wait.promise) waits → IsNonDecreasingBy (λ (done : MapDone). done.promise) (map map_done waits)
done_in_order waits rises = rises_map map_done (λ (done : MapDone). done.promise) waits rises

pub promises_in_order : (pending : List PendingMap) → IsNonDecreasingBy (λ (wait : PendingMap). wait.promise) pending → IsNonDecreasing (promises pending)
promises_in_order pending rises = rises_map (λ (wait : PendingMap). wait.promise) (λ n. n) pending rises
