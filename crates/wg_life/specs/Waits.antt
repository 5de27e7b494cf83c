-- What is kept beside rows, so that a release looks only at what may be due.
use Rattle.std.specs.Prelude.{◌≡◌, ℕ, zero, suc, ◌+◌, ◌<◌, ◌≤◌, Bool, true, false, not, ◌&&◌, ◌||◌, ◌==◌, nat_le, nat_lt, List, [], ◌∷◌, ◌++◌, length, filter, is_some, option_map, option_to_list, slice_index_or, if◌then◌else◌}
use Rattle.std.specs.List.{list_any}
use Rattle.std.specs.List.Sorted.{IsNonDecreasingBy}
use Rattle.wg_trace.specs.declared.steps.Sort.{Sort}
use Rattle.wg_counts.specs.Counts.{times}
use Rattle.wg_holders.specs.Holders.{Holdings, is_held}
use Rattle.wg_life.specs.declared.rows.Row.{Row}
use Rattle.wg_life.specs.declared.waiting.Wait.{Wait}
use Rattle.wg_life.specs.Lives.{row_at, sort_of, is_gone, with_release, below, Notes}

-- the mark of an object that is gone
abbrev pub gone_at : List Bool → ℕ → Bool
gone_at gone n = slice_index_or gone n false

-- marks, and the same with those that pass a test
pub record Losses (test : ℕ → Bool) (old new : List Bool) : Type 0 where
  pub len : length new ≡ length old
  pub each : (n : ℕ) → n < length old → gone_at new n ≡ test n || gone_at old n

-- The marks tell what is gone.
pub record IsGone (rows : List Row) (h : Holdings) (gone : List Bool) : Type 0 where
  pub made : length h.marks ≡ length rows
  pub each : (n : ℕ) → n < length rows → gone_at gone n ≡ is_gone (row_at rows n) (is_held h n)

-- whether a row waits for its release: it is of a resource that is gone and was not released
abbrev pub waits : Row → Bool → Bool
waits row gone = is_some row.resource && gone && not row.released

-- whether object n is a resource that is gone and not released
abbrev pub is_waiting : List Row → List Bool → ℕ → Bool
is_waiting rows gone n = waits (row_at rows n) (gone_at gone n)

-- whether an object waits once it is gone that did not wait before
abbrev pub will_wait : Row → Bool → Bool
will_wait row gone = is_some row.resource && not gone && not row.released

-- A row whose object is gone, or not, is due where it is a resource and every operation that uses it is complete.
abbrev pub is_due_where : ℕ → Bool → Row → Bool
is_due_where done gone row = is_some row.resource && gone && nat_le row.last done

-- released where it is due, if the test passes
abbrev pub with_due : ℕ → Bool → Bool → Row → Row
with_due done gone b row = with_release (b && is_due_where done gone row) row

-- what is released of object n now, where it was not released before
abbrev pub freed_row : List Row → List Bool → ℕ → ℕ → List (ℕ × Sort)
freed_row rows gone done n = if is_due_where done (gone_at gone n) (row_at rows n) && not (row_at rows n).released then option_to_list (option_map (λ sort. (n, sort)) (sort_of (row_at rows n))) else []

-- all that is released now, least numbers first
abbrev pub freed : List Row → List Bool → ℕ → List (ℕ × Sort)
freed rows gone done = below (freed_row rows gone done) (length rows)

-- the numbers below m that pass a test, least first
abbrev pub picked : (ℕ → Bool) → ℕ → List ℕ
picked test zero = []
picked test (suc m) = picked test m ++ (if test m then m ∷ [] else [])

-- a number put into its place in a list that rises
abbrev pub with_number : ℕ → List ℕ → List ℕ
with_number n [] = n ∷ []
with_number n (m ∷ ms) = if nat_lt n m then n ∷ m ∷ ms else m ∷ with_number n ms

-- what is listed may be due where all operations up to this one are complete
abbrev pub is_early : ℕ → Wait → Bool
is_early done wait = nat_le wait.last done

-- how many of what waits are due, where the operations up to this one are complete
abbrev pub early : ℕ → List Wait → ℕ
early done listed = length (filter (is_early done) listed)

-- whether the first of what waits is not due, if there is one
abbrev pub starts_late : ℕ → List Wait → Bool
starts_late done [] = true
starts_late done (wait ∷ listed) = not (is_early done wait)

-- a list with one more, in its place
pub record IsInserted (wait : Wait) (old new : List Wait) : Type 0 where
  pub in_order : IsNonDecreasingBy (λ (other : Wait). other.last) new
  pub len : length new ≡ length old + 1
  pub any : (test : Wait → Bool) → list_any test new ≡ list_any test (wait ∷ old)
  pub early : (done : ℕ) → early done new ≡ early done (wait ∷ old)

-- what is listed of object n, under an operation that is not after its last use
abbrev pub stands_for : List Row → ℕ → Wait → Bool
stands_for rows n wait = wait.number == n && nat_le wait.last (row_at rows n).last

-- All resources that are gone and not released are listed, in the order of the operations that they wait for, and no more than
-- that many.
pub record IsTidy (rows : List Row) (gone : List Bool) (listed : List Wait) : Type 0 where
  pub both : length gone ≡ length rows
  pub in_order : IsNonDecreasingBy (λ (wait : Wait). wait.last) listed
  pub are_listed : (n : ℕ) → n < length rows → is_waiting rows gone n ≡ true → list_any (stands_for rows n) listed ≡ true
  pub fits : length listed ≤ length (picked (is_waiting rows gone) (length rows))

-- what waited and does no more
abbrev pub is_taken_out : List Row → List Row → List Bool → ℕ → Bool
is_taken_out first rows gone n = is_waiting first gone n && not (is_waiting rows gone n)

-- The first rows of a release, and what it made of them so far: some are released, and their numbers are listed in some order.
pub record IsReleasing (done : ℕ) (first rows : List Row) (gone : List Bool) (listed : List Wait) (due : List ℕ) : Type 0 where
  pub tidy : IsTidy rows gone listed
  pub notes : Notes (λ n. with_due done (gone_at gone n) (row_at rows n).released) first rows
  pub due_len : length due ≡ length (picked (is_taken_out first rows gone) (length first))
  pub due_are : (n : ℕ) → times n due ≡ times n (picked (is_taken_out first rows gone) (length first))

-- object n with its sort of resource, if it is one
abbrev pub sort_at : List Row → ℕ → List (ℕ × Sort)
sort_at rows n = option_to_list (option_map (λ (sort : Sort). (n, sort)) (sort_of (row_at rows n)))
