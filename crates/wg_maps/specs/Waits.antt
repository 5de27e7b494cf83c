-- The maps that are pending, as they are listed, and the promise of each by its buffer.
use Rattle.std.specs.Prelude.{◌≡◌, ℕ, ◌+◌, ◌≤◌, Bool, true, false, not, ◌==◌, nat_eq, List, [], ◌∷◌, filter, insert, length, Option, Some, None, option_map, All}
use Rattle.std.specs.List.Sorted.{IsNonDecreasingBy}
use Rattle.std.specs.Map.{lookup}
use Rattle.wg_types.specs.declared.mappings.PendingMap.{PendingMap}
use Rattle.wg_maps.specs.Mappings.{MappedValue, pending_of, with_map, still_pending, with_due, is_due}

-- the pending maps that are kept, and the room for more
pub record WaitsValue : Type 0 where
  -- the maps that are pending, in the order of their promises
  pub pending : List PendingMap
  -- for how many more there is room
  pub spare : ℕ

-- the promise of the pending map of a buffer, if there is one
abbrev pub promise_of : List PendingMap → ℕ → Option ℕ
promise_of pending buffer = option_map (λ (wait : PendingMap). wait.promise) (pending_of pending buffer)

-- no buffer is pending twice
abbrev pub IsEachOnce : List PendingMap → Type 0
IsEachOnce [] = Unit {0}
IsEachOnce (wait ∷ later) = (pending_of later wait.buffer ≡ None) × IsEachOnce later

-- the promises by their buffers are those of the maps, which stand in their order
pub record IsKept (pending : List PendingMap) (promises : List (ℕ × ℕ)) : Type 0 where
  pub in_order : IsNonDecreasingBy (λ (wait : PendingMap). wait.promise) pending
  pub once : IsEachOnce pending
  pub by_buffer : (buffer : ℕ) → lookup (nat_eq buffer) promises ≡ promise_of pending buffer

-- A map that is listed waits as long as its buffer has its promise.

-- whether a promise is this one
abbrev pub has_promise : Option ℕ → ℕ → Bool
has_promise None promise = false
has_promise (Some its) promise = its == promise

-- whether a map is the one of its buffer that waits, by the promises of buffers
abbrev pub is_waiting : List (ℕ × ℕ) → PendingMap → Bool
is_waiting promises wait = has_promise (lookup (nat_eq wait.buffer) promises) wait.promise

-- maps in the order of their promises
abbrev pub arranged : List PendingMap → List PendingMap
arranged [] = []
arranged (wait ∷ later) = with_map (arranged later) wait

-- the maps of a list that wait, in the order of their promises
abbrev pub waiting : List (ℕ × ℕ) → List PendingMap → List PendingMap
waiting promises listed = arranged (filter (is_waiting promises) listed)

-- no map of a list has this promise
abbrev pub IsUnlike : ℕ → List PendingMap → Type 0
IsUnlike promise [] = Unit {0}
IsUnlike promise (wait ∷ later) = ((promise == wait.promise) ≡ false) × IsUnlike promise later

-- no two maps of a list have one promise
abbrev pub AreUnlike : List PendingMap → Type 0
AreUnlike [] = Unit {0}
AreUnlike (wait ∷ later) = IsUnlike wait.promise later × AreUnlike later

-- What is listed stands in the order of the operations that it waits for, each promise once.
pub record IsListed (listed : List PendingMap) : Type 0 where
  pub in_order : IsNonDecreasingBy (λ (wait : PendingMap). wait.last) listed
  pub unlike : AreUnlike listed

-- no promise of a list is newer
abbrev pub IsWithin : ℕ → List PendingMap → Type 0
IsWithin newest listed = All (λ (wait : PendingMap). wait.promise ≤ newest) listed

-- a list of which some that waits no longer may be taken out
pub record IsTidied (promises : List (ℕ × ℕ)) (old new : List PendingMap) : Type 0 where
  pub same : waiting promises new ≡ waiting promises old
  pub listed : IsListed new
  pub within : (newest : ℕ) → IsWithin newest old → IsWithin newest new

-- a list with one more, in its place
pub record IsInserted (wait : PendingMap) (old new : List PendingMap) : Type 0 where
  pub place : ℕ
  pub items : new ≡ insert old place wait
  pub in_order : IsNonDecreasingBy (λ (other : PendingMap). other.last) new

-- whether the first of a list is not due, if there is one
abbrev pub starts_later : ℕ → List PendingMap → Bool
starts_later completed [] = true
starts_later completed (wait ∷ later) = not (is_due completed wait)

-- The maps that were pending and the buffers that were mapped when a completion came, and what it left so far: some of what is
-- due is taken out and mapped.
pub record IsSettling (completed : ℕ) (first : List PendingMap) (start : MappedValue)
    (promises : List (ℕ × ℕ)) (listed : List PendingMap) (mapped : MappedValue) : Type 0 where
  pub kept : IsKept (waiting promises listed) promises
  pub are_listed : IsListed listed
  pub still : still_pending completed (waiting promises listed) ≡ still_pending completed first
  pub due : with_due completed (waiting promises listed) mapped.buffers ≡ with_due completed first start.buffers
  pub room : start.spare + length (waiting promises listed) ≤ mapped.spare + length first

-- A settlement goes on past a map that is due.
abbrev pub Settles : PendingMap → List (ℕ × ℕ) → MappedValue → List (ℕ × ℕ) → MappedValue → Type 0
Settles wait promises mapped promises' mapped' =
    (completed : ℕ) (first rest : List PendingMap) (start : MappedValue) → is_due completed wait ≡ true
    → IsSettling completed first start promises (wait ∷ rest) mapped → IsSettling completed first start promises' rest mapped'
