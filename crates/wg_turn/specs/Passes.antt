-- What a clause says of a lock and its passes.
use Rattle.std.specs.Prelude.{◌≡◌, ℕ, suc, ◌≤◌, map, List, [], ◌∷◌, ◌++◌, length, Option, Some}
use Rattle.atomic_table.specs.declared.shared.Seat.{Seat}
use Rattle.atomic_table.specs.Seated.{TableId}
use Rattle.wg_turn.specs.declared.view.View.{View}
use Rattle.wg_turn.specs.declared.view.Stage.TheVariants.{Idle}
use Rattle.wg_entry.specs.declared.Entry.{Entry}
use Rattle.wg_turn.specs.declared.lock.TurnLock.{TurnLock}
use Rattle.wg_turn.specs.declared.lock.Pass.{Pass}
use Rattle.wg_turn.specs.Entries.{who_of, made_by}
use mathlib.Core.List.{IsPrefix}

-- the seat is between two calls, of a table that was opened with y, under one number, after so many calls
pub record Rests {S E : Type 0} (table : TableId) (y : S) (callers number calls : ℕ) (seat : Seat (Option S) (View S E)) : Type 0 where
  pub of : seat.table_id ≡ table
  pub carries : seat.me.1 ≡ []
  pub opened : seat.me.0.opening ≡ Some y
  pub crew : seat.me.0.callers ≡ callers
  pub idle : seat.me.0.stage ≡ Idle
  pub numbered : seat.me.0.number ≡ number
  pub called : seat.me.0.calls ≡ calls
  pub one : length seat.me.0.owns ≡ 1

-- the entries of the one number that the seat keeps
abbrev pub head_of : {E : Type 0} → List (List E) → List E
head_of [] = []
head_of (o ∷ os) = o

module _ {S U C R L : Type 0} where
  -- the state that the lock was opened with
  abbrev pub opened_with : TurnLock S U C R L → S
  opened_with lock = lock.table.shared.key.state.value

  -- how many passes the lock has
  abbrev pub callers_of : TurnLock S U C R L → ℕ
  callers_of lock = lock.callers

  -- the number under which the pass calls
  abbrev pub number_of : Pass S U C R L → ℕ
  number_of pass = pass.number

  -- how many calls were made with the pass
  abbrev pub calls_of : Pass S U C R L → ℕ
  calls_of pass = pass.calls

  -- the entries since the opening that the pass has seen
  abbrev pub seen_since : Pass S U C R L → List (Entry C R)
  seen_since pass = pass.seat.me.0.since

  -- the entries that the pass made
  abbrev pub own_of : Pass S U C R L → List (Entry C R)
  own_of pass = head_of pass.seat.me.0.owns

  -- the seat is at the lock's table
  abbrev pub IsSeatOf : TurnLock S U C R L → Seat (Option S) (View S (Entry C R)) → Type 0
  IsSeatOf lock seat = seat.table_id ≡ lock.table.shared.table_id

  -- the pass is of this lock, and between two calls
  abbrev pub IsPassOf : TurnLock S U C R L → Pass S U C R L → Type 0
  IsPassOf lock pass = Rests lock.table.shared.table_id (opened_with lock) lock.callers pass.number pass.calls pass.seat

  -- the number, the calls and the own entries stay
  abbrev pub IsSamePass : Pass S U C R L → Pass S U C R L → Type 0
  IsSamePass old new = (number_of new ≡ number_of old) × (calls_of new ≡ calls_of old) × (own_of new ≡ own_of old)

  -- a pass that has made no calls, and has seen what the lock was opened with
  abbrev pub IsFresh : TurnLock S U C R L → ℕ → Pass S U C R L → Type 0
  IsFresh lock n pass = IsPassOf lock pass × (number_of pass ≡ n) × (calls_of pass ≡ 0) × (seen_since pass ≡ []) × (own_of pass ≡ [])

  -- the passes have the numbers from n on
  abbrev pub AreFresh : TurnLock S U C R L → ℕ → List (Pass S U C R L) → Type 0
  AreFresh lock n [] = Unit {0}
  AreFresh lock n (p ∷ ps) = IsFresh lock n p × AreFresh lock (suc n) ps

  -- all of the lock's passes, in the order of their numbers
  abbrev pub AreInOrder : TurnLock S U C R L → ℕ → List (Pass S U C R L) → Type 0
  AreInOrder lock n [] = Unit {0}
  AreInOrder lock n (p ∷ ps) = IsPassOf lock p × (number_of p ≡ n) × AreInOrder lock (suc n) ps

  -- a list begins with what each pass has seen
  abbrev pub HasSeen : List (Pass S U C R L) → List (Entry C R) → Type 0
  HasSeen [] log = Unit {0}
  HasSeen (p ∷ ps) log = IsPrefix (seen_since p) log × HasSeen ps log

  -- the seat stands in for the passes, whose numbers begin at n
  pub record IsGathered (lock : TurnLock S U C R L) (n : ℕ) (ps : List (Pass S U C R L)) (seat : Seat (Option S) (View S (Entry C R))) : Type 0 where
    pub of : IsSeatOf lock seat
    pub carries : seat.me.1 ≡ []
    pub opened : seat.me.0.opening ≡ Some (opened_with lock)
    pub idle : seat.me.0.stage ≡ Idle
    pub numbered : seat.me.0.number ≡ n
    pub owns : seat.me.0.owns ≡ map own_of ps
    pub seen : HasSeen ps seat.me.0.since

  -- the entries of each pass's number are its own, from the number n on
  abbrev pub AreOwn : ℕ → List (Pass S U C R L) → List (Entry C R) → Type 0
  AreOwn n [] log = Unit {0}
  AreOwn n (p ∷ ps) log = (made_by who_of n log ≡ own_of p) × AreOwn (suc n) ps log

  module _ (history : S → List (Entry C R)) where
    -- the history that the pass has seen
    abbrev pub front_of : TurnLock S U C R L → Pass S U C R L → List (Entry C R)
    front_of lock pass = history (opened_with lock) ++ seen_since pass

    -- what the pass has seen is legal, and since the opening it has just the pass's own entries of its number, and none of a number that no pass has
    pub record IsSound (setup : S → U) (legal : U → List (Entry C R) → Type 0) (lock : TurnLock S U C R L) (pass : Pass S U C R L) : Type 0 where
      pub lawful : legal (setup (opened_with lock)) (front_of lock pass)
      pub own : made_by who_of (number_of pass) (seen_since pass) ≡ own_of pass
      pub no_others : (n : ℕ) → callers_of lock ≤ n → made_by who_of n (seen_since pass) ≡ []

    -- each of the passes is sound
    abbrev pub AreSound : (S → U) → (U → List (Entry C R) → Type 0) → TurnLock S U C R L → List (Pass S U C R L) → Type 0
    AreSound setup legal lock [] = Unit {0}
    AreSound setup legal lock (p ∷ ps) = IsSound setup legal lock p × AreSound setup legal lock ps

    -- each pass has seen just this history
    abbrev pub FrontsAre : TurnLock S U C R L → List (Pass S U C R L) → List (Entry C R) → Type 0
    FrontsAre lock [] whole = Unit {0}
    FrontsAre lock (p ∷ ps) whole = (front_of lock p ≡ whole) × FrontsAre lock ps whole

    -- the histories that the passes have seen are beginnings of one
    abbrev pub FrontsBegin : TurnLock S U C R L → List (Pass S U C R L) → List (Entry C R) → Type 0
    FrontsBegin lock [] whole = Unit {0}
    FrontsBegin lock (p ∷ ps) whole = IsPrefix (front_of lock p) whole × FrontsBegin lock ps whole

    -- the state's history begins with what each pass has seen, and its entries since the opening are the passes' own, each once, and no others
    pub record IsWhole (lock : TurnLock S U C R L) (ps : List (Pass S U C R L)) (state : S) (entries : ℕ) : Type 0 where
      pub log : List (Entry C R)
      pub history_is : history state ≡ history (opened_with lock) ++ log
      pub fronts : FrontsBegin lock ps (history state)
      pub own : AreOwn 0 ps log
      pub no_others : (n : ℕ) → length ps ≤ n → made_by who_of n log ≡ []
      pub count : entries ≡ length log
