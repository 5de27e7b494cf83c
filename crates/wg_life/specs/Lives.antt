-- What is noted of each object, and what is released.
use Rattle.std.specs.Prelude.{◌≡◌, ℕ, zero, suc, ◌+◌, ◌<◌, Bool, true, false, nat_lt, not, ◌&&◌, ◌||◌, nat_le, max, List, [], ◌∷◌, ◌++◌, length, Option, None, is_some, option_map, option_to_list, slice_index_or, if◌then◌else◌}
use Rattle.std.specs.Option.{option_map_or}
use Rattle.wg_fading.specs.Fading.{was_let_go}
use Rattle.wg_trace.specs.declared.steps.Sort.{Sort}
use Rattle.wg_holders.specs.Holders.{Holdings, mark_at, with_made, is_held}
use Rattle.wg_life.specs.declared.rows.Resource.{Resource}
use Rattle.wg_life.specs.declared.rows.Row.{Row}
use Rattle.wg_life.specs.declared.rows.Made.{Made}

-- what is kept of lives: what is noted of the objects by number, who holds them, which were let go, how many bytes resources
-- may have, and for how many more objects and holds there is room
pub record LifeValue : Type 0 where
  pub rows : List Row
  pub holdings : Holdings
  pub gone : List ℕ
  pub budget : ℕ
  pub spare : ℕ
  pub room : ℕ

-- the row of a new object, a resource or none
abbrev pub new_row : Option Resource → Row
new_row resource = record { resource = resource; destroyed = false; last = 0; released = false }

-- the row of no object
abbrev pub no_row : Row
no_row = new_row None

-- the row of object n
abbrev pub row_at : List Row → ℕ → Row
row_at rows n = slice_index_or rows n no_row

-- a row, destroyed where that is said
abbrev pub with_destroyed : Bool → Row → Row
with_destroyed b row = record row { destroyed = b || row.destroyed }

-- a row after an operation that uses its object
abbrev pub with_last : ℕ → Row → Row
with_last op row = record row { last = max op row.last }

-- the operation uses the object where the test passes
abbrev pub with_use : ℕ → Bool → Row → Row
with_use op b row = with_last (if b then op else 0) row

-- a row, released where that is said
abbrev pub with_release : Bool → Row → Row
with_release b row = record row { released = b || row.released }

-- An object is gone where it is destroyed or not held.
abbrev pub is_gone : Row → Bool → Bool
is_gone row held = row.destroyed || not held

-- The object of a row is due where it is a resource, is gone, and every operation that uses it is complete.
abbrev pub is_due_row : ℕ → Row → Bool → Bool
is_due_row done row held = is_some row.resource && is_gone row held && nat_le row.last done

-- whether object n is due, where the operations up to this one are complete
abbrev pub is_due : LifeValue → ℕ → ℕ → Bool
is_due v done n = is_due_row done (row_at v.rows n) (is_held v.holdings n)

-- Rows are what a note makes of rows before, by number.
pub record Notes (note : ℕ → Row → Row) (old new : List Row) : Type 0 where
  pub len : length new ≡ length old
  pub each : (n : ℕ) → n < length old → row_at new n ≡ note n (row_at old n)

-- the sort of resource of a row, if it is one of a resource
abbrev pub sort_of : Row → Option Sort
sort_of row = option_map (λ (resource : Resource). resource.sort) row.resource

-- what is released of object n now, where it was not released before
abbrev pub released_at : LifeValue → ℕ → ℕ → List (ℕ × Sort)
released_at v done n = if is_due v done n && not (row_at v.rows n).released then option_to_list (option_map (λ sort. (n, sort)) (sort_of (row_at v.rows n))) else []

-- lists of the numbers below m, least number first
abbrev pub below : (ℕ → List (ℕ × Sort)) → ℕ → List (ℕ × Sort)
below list zero = []
below list (suc m) = below list m ++ list m

-- all that is released now, least numbers first
abbrev pub releases : LifeValue → ℕ → List (ℕ × Sort)
releases v done = below (released_at v done) (length v.rows)

-- the bytes of a resource that is not released
abbrev pub live_of : Row → ℕ
live_of row = if row.released then 0 else option_map_or (λ (resource : Resource). resource.bytes) row.resource 0

-- the bytes of all resources that are not released
abbrev pub live_bytes : List Row → ℕ
live_bytes [] = 0
live_bytes (row ∷ rows) = live_of row + live_bytes rows

-- whether a row is of a resource that is not released
abbrev pub is_live : Row → Bool
is_live row = is_some row.resource && not row.released

-- how many resources are not released
abbrev pub live_count : List Row → ℕ
live_count [] = 0
live_count (row ∷ rows) = (if is_live row then 1 else 0) + live_count rows

-- holdings with one object more
abbrev pub with_object : Made → Holdings → Holdings
with_object made h = with_made made.encoder made.links h

-- whether nobody can reach object n, as it was dropped and is not held, and nothing is to be done for it, as it is no resource
-- that is not released
abbrev pub is_unreached : List Row → Holdings → ℕ → Bool
is_unreached rows h n = is_some (mark_at h.marks n).dropped && (not (is_held h n) && not (is_live (row_at rows n)))

-- whether object n is kept and dead
abbrev pub is_dead : LifeValue → ℕ → Bool
is_dead v n = (nat_lt n (length v.rows) && not (was_let_go v.gone n)) && is_unreached v.rows v.holdings n

-- What was let go is no resource that is not released.
abbrev pub AreOver : List ℕ → List Row → Type 0
AreOver gone rows = (n : ℕ) → was_let_go gone n ≡ true → is_live (row_at rows n) ≡ false

-- What was let go was made, is dropped, is not held, and is no resource that is not released.
pub record AreDead (rows : List Row) (h : Holdings) (gone : List ℕ) : Type 0 where
  pub made : (n : ℕ) → was_let_go gone n ≡ true → n < length rows
  pub dropped : (n : ℕ) → was_let_go gone n ≡ true → is_some (mark_at h.marks n).dropped ≡ true
  pub unheld : (n : ℕ) → was_let_go gone n ≡ true → is_held h n ≡ false
  pub over : AreOver gone rows
