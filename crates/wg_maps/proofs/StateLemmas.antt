-- How buffers stand after a map more or some less.
use Rattle.std.proofs.Common.{◌≡◌, ℕ, Bool, true, false, ◌&&◌, ◌||◌, ◌==◌, List, [], ◌∷◌, Option, Some, None, is_some, if◌then◌else◌, refl, sym, ap, ap₂, ◌∙◌}
use Rattle.std.specs.FinMap as table
use Rattle.std.proofs.lemmas.Bool.{eqb-true}
use Rattle.wg_types.specs.declared.mappings.MapState.TheVariants.{Unmapped, Pending, Mapped}
use Rattle.wg_types.specs.declared.mappings.Mapping.{Mapping}
use Rattle.wg_types.specs.declared.mappings.PendingMap.{PendingMap}
use Rattle.wg_maps.specs.Mappings.{Mappings, pending_of, has_pending, IsApart, state_with, without, with_map, is_due, with_due, is_buffer_due}
use Rattle.wg_maps.proofs.PendingLemmas.{found_with, found_without}
use Rattle.wg_maps.proofs.TableLemmas.{get_inserted, get_removed}

-- a map more

unmapped_parts : (wait : Option PendingMap) (mapping : Option Mapping) → state_with wait mapping ≡ Unmapped → (wait ≡ None) × (mapping ≡ None)
unmapped_parts (Some wait) mapping e = absurd (cc)
unmapped_parts None (Some mapping) e = absurd (cc)
unmapped_parts None None e = (refl, refl)

pub state_pending : (pending : List PendingMap) (mapped : Mappings) (new : PendingMap) → state_with (pending_of pending new.buffer) (table.get mapped new.buffer) ≡ Unmapped → (n : ℕ)
    → state_with (pending_of (with_map pending new) n) (table.get mapped n) ≡ (if new.buffer == n then Pending else state_with (pending_of pending n) (table.get mapped n))
state_pending pending mapped new free n =
    ap (λ o. state_with o (table.get mapped n)) (found_with pending new (unmapped_parts (pending_of pending new.buffer) (table.get mapped new.buffer) free).0 n) ∙ by_test (new.buffer == n)
  where
    by_test : (t : Bool) → state_with (if t then Some new else pending_of pending n) (table.get mapped n) ≡ (if t then Pending else state_with (pending_of pending n) (table.get mapped n))
    by_test true = refl
    by_test false = refl

pub apart_pending : (pending : List PendingMap) (mapped : Mappings) (new : PendingMap) → state_with (pending_of pending new.buffer) (table.get mapped new.buffer) ≡ Unmapped
    → IsApart pending mapped → IsApart (with_map pending new) mapped
apart_pending pending mapped new free apart n is = by_test (new.buffer == n) refl (sym (ap is_some (found_with pending new parts.0 n)) ∙ is)
  where
    parts : (pending_of pending new.buffer ≡ None) × (table.get mapped new.buffer ≡ None)
    parts = unmapped_parts (pending_of pending new.buffer) (table.get mapped new.buffer) free

    by_test : (t : Bool) → (new.buffer == n) ≡ t → is_some (if t then Some new else pending_of pending n) ≡ true → table.get mapped n ≡ None
    by_test true e some = ap (table.get mapped) (sym (eqb-true new.buffer n e)) ∙ parts.1
    by_test false e some = apart n some

-- a buffer that is mapped, or unmapped

pub state_mapped : (pending : List PendingMap) (mapped : Mappings) (buffer : ℕ) (mapping : Mapping) (n : ℕ)
    → state_with (pending_of (without pending buffer) n) (table.get (table.insert mapped buffer mapping) n) ≡ (if buffer == n then Mapped else state_with (pending_of pending n) (table.get mapped n))
state_mapped pending mapped buffer mapping n = ap₂ state_with (found_without pending buffer n) (get_inserted mapped buffer mapping n) ∙ by_test (buffer == n)
  where
    by_test : (t : Bool) → state_with (if t then None else pending_of pending n) (if t then Some mapping else table.get mapped n) ≡ (if t then Mapped else state_with (pending_of pending n) (table.get mapped n))
    by_test true = refl
    by_test false = refl

pub apart_mapped : (pending : List PendingMap) (mapped : Mappings) (buffer : ℕ) (mapping : Mapping) → IsApart pending mapped → IsApart (without pending buffer) (table.insert mapped buffer mapping)
apart_mapped pending mapped buffer mapping apart n is = get_inserted mapped buffer mapping n ∙ by_test (buffer == n) (sym (ap is_some (found_without pending buffer n)) ∙ is)
  where
    by_test : (t : Bool) → is_some (if t then None else pending_of pending n) ≡ true → (if t then Some mapping else table.get mapped n) ≡ None
    by_test true some = absurd (cc)
    by_test false some = apart n some

pub state_unmapped : (pending : List PendingMap) (mapped : Mappings) (buffer n : ℕ)
    → state_with (pending_of (without pending buffer) n) (table.get (table.remove mapped buffer) n) ≡ (if buffer == n then Unmapped else state_with (pending_of pending n) (table.get mapped n))
state_unmapped pending mapped buffer n = ap₂ state_with (found_without pending buffer n) (get_removed mapped buffer n) ∙ by_test (buffer == n)
  where
    by_test : (t : Bool) → state_with (if t then None else pending_of pending n) (if t then None else table.get mapped n) ≡ (if t then Unmapped else state_with (pending_of pending n) (table.get mapped n))
    by_test true = refl
    by_test false = refl

pub apart_unmapped : (pending : List PendingMap) (mapped : Mappings) (buffer : ℕ) → IsApart pending mapped → IsApart (without pending buffer) (table.remove mapped buffer)
apart_unmapped pending mapped buffer apart n is = get_removed mapped buffer n ∙ by_test (buffer == n) (sym (ap is_some (found_without pending buffer n)) ∙ is)
  where
    by_test : (t : Bool) → is_some (if t then None else pending_of pending n) ≡ true → (if t then None else table.get mapped n) ≡ None
    by_test true some = refl
    by_test false some = apart n some

-- maps that are settled

got_other : (completed : ℕ) (pending : List PendingMap) (mapped : Mappings) (n : ℕ) → is_buffer_due completed n pending ≡ false → table.get (with_due completed pending mapped) n ≡ table.get mapped n
got_other completed [] mapped n none = refl
got_other completed (wait ∷ later) mapped n none = by_due (is_due completed wait) none (λ m. got_other completed later m n)
  where
    by_or : (a b : Bool) → (a || b) ≡ false → (a ≡ false) × (b ≡ false)
    by_or true b e = absurd (cc)
    by_or false b e = (refl, e)

    by_due : (d : Bool) → ((d && (wait.buffer == n)) || is_buffer_due completed n later) ≡ false
        → ((m : Mappings) → is_buffer_due completed n later ≡ false → table.get (with_due completed later m) n ≡ table.get m n)
        → table.get (with_due completed later (if d then table.insert mapped wait.buffer wait.mapping else mapped)) n ≡ table.get mapped n
    by_due true e rest = let parts = by_or (wait.buffer == n) (is_buffer_due completed n later) e in
        rest (table.insert mapped wait.buffer wait.mapping) parts.1 ∙ (get_inserted mapped wait.buffer wait.mapping n ∙ ap (λ b. if b then Some wait.mapping else table.get mapped n) parts.0)
    by_due false e rest = rest mapped e

got_still : (completed : ℕ) (pending : List PendingMap) (mapped : Mappings) (n : ℕ) → is_some (table.get mapped n) ≡ true → is_some (table.get (with_due completed pending mapped) n) ≡ true
got_still completed [] mapped n is = is
got_still completed (wait ∷ later) mapped n is = by_due (is_due completed wait) (λ m. got_still completed later m n)
  where
    by_test : (t : Bool) → is_some (if t then Some wait.mapping else table.get mapped n) ≡ true
    by_test true = refl
    by_test false = is

    by_due : (d : Bool) → ((m : Mappings) → is_some (table.get m n) ≡ true → is_some (table.get (with_due completed later m) n) ≡ true)
        → is_some (table.get (with_due completed later (if d then table.insert mapped wait.buffer wait.mapping else mapped)) n) ≡ true
    by_due true rest = rest (table.insert mapped wait.buffer wait.mapping) (ap is_some (get_inserted mapped wait.buffer wait.mapping n) ∙ by_test (wait.buffer == n))
    by_due false rest = rest mapped is

got_due : (completed : ℕ) (pending : List PendingMap) (mapped : Mappings) (n : ℕ) → is_buffer_due completed n pending ≡ true → is_some (table.get (with_due completed pending mapped) n) ≡ true
got_due completed [] mapped n due = absurd (cc)
got_due completed (wait ∷ later) mapped n due = by_due (is_due completed wait) due (λ m. got_due completed later m n)
  where
    by_test : (t : Bool) → (wait.buffer == n) ≡ t → (t || is_buffer_due completed n later) ≡ true
        → ((m : Mappings) → is_buffer_due completed n later ≡ true → is_some (table.get (with_due completed later m) n) ≡ true)
        → is_some (table.get (with_due completed later (table.insert mapped wait.buffer wait.mapping)) n) ≡ true
    by_test true is e rest = got_still completed later (table.insert mapped wait.buffer wait.mapping) n (ap is_some (get_inserted mapped wait.buffer wait.mapping n ∙ ap (λ b. if b then Some wait.mapping else table.get mapped n) is))
    by_test false is e rest = rest (table.insert mapped wait.buffer wait.mapping) e

    by_due : (d : Bool) → ((d && (wait.buffer == n)) || is_buffer_due completed n later) ≡ true
        → ((m : Mappings) → is_buffer_due completed n later ≡ true → is_some (table.get (with_due completed later m) n) ≡ true)
        → is_some (table.get (with_due completed later (if d then table.insert mapped wait.buffer wait.mapping else mapped)) n) ≡ true
    by_due true e rest = by_test (wait.buffer == n) refl e rest
    by_due false e rest = rest mapped e

pub state_settled : (completed : ℕ) (pending still : List PendingMap) (mapped : Mappings) → ((n : ℕ) → pending_of still n ≡ (if is_buffer_due completed n pending then None else pending_of pending n)) → (n : ℕ)
    → state_with (pending_of still n) (table.get (with_due completed pending mapped) n) ≡ (if is_buffer_due completed n pending then Mapped else state_with (pending_of pending n) (table.get mapped n))
state_settled completed pending still mapped found n = ap (λ o. state_with o (table.get (with_due completed pending mapped) n)) (found n) ∙ by_test (is_buffer_due completed n pending) refl
  where
    some_mapped : (o : Option Mapping) → is_some o ≡ true → state_with None o ≡ Mapped
    some_mapped (Some mapping) e = refl
    some_mapped None e = absurd (cc)

    by_test : (t : Bool) → is_buffer_due completed n pending ≡ t
        → state_with (if t then None else pending_of pending n) (table.get (with_due completed pending mapped) n) ≡ (if t then Mapped else state_with (pending_of pending n) (table.get mapped n))
    by_test true e = some_mapped (table.get (with_due completed pending mapped) n) (got_due completed pending mapped n e)
    by_test false e = ap (state_with (pending_of pending n)) (got_other completed pending mapped n e)

pub apart_settled : (completed : ℕ) (pending still : List PendingMap) (mapped : Mappings) → ((n : ℕ) → pending_of still n ≡ (if is_buffer_due completed n pending then None else pending_of pending n))
    → IsApart pending mapped → IsApart still (with_due completed pending mapped)
apart_settled completed pending still mapped found apart n is = by_test (is_buffer_due completed n pending) refl (sym (ap is_some (found n)) ∙ is)
  where
    by_test : (t : Bool) → is_buffer_due completed n pending ≡ t → is_some (if t then None else pending_of pending n) ≡ true → table.get (with_due completed pending mapped) n ≡ None
    by_test true e some = absurd (cc)
    by_test false e some = got_other completed pending mapped n e ∙ apart n some

-- maps that are aborted
pub state_aborted : (pending : List PendingMap) (mapped : Mappings) → IsApart pending mapped → (n : ℕ)
    → state_with None (table.get mapped n) ≡ (if has_pending pending n then Unmapped else state_with (pending_of pending n) (table.get mapped n))
state_aborted pending mapped apart n = by_option (pending_of pending n) (apart n)
  where
    by_option : (o : Option PendingMap) → (is_some o ≡ true → table.get mapped n ≡ None) → state_with None (table.get mapped n) ≡ (if is_some o then Unmapped else state_with o (table.get mapped n))
    by_option (Some wait) free = ap (state_with None) (free refl)
    by_option None free = refl
