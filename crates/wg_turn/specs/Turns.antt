-- The rule of the turn lock, and what each of its steps tells.
-- Word 0 is the next ticket, word 1 the ticket that is served, and word 2 counts the entries since the opening. The one slot has the state.
use Rattle.std.specs.Prelude.{◌≡◌, ◌≢◌, ℕ, suc, ◌+◌, ◌*◌, ◌^◌, ◌<◌, ◌≤◌, nat_lt, if◌then◌else◌, List, [], ◌∷◌, ◌++◌, length, take, drop, Option, Some, None, ◌⊎◌}
use Rattle.std.specs.List.{sum_by}
use mathlib.Core.Option.{some, none}
use mathlib.Core.Option as maybe
use mathlib.Core.List.{IsPrefix}
use lib.ListN.{get_elem?}
use Rattle.atomic_table.specs.Table.{State, Me, Step, rest}
use Rattle.wg_turn.specs.Entries.{made_by}
use Rattle.wg_turn.specs.declared.view.View.{View}
use Rattle.wg_turn.specs.declared.view.Stage.{Stage}
use Rattle.wg_turn.specs.declared.view.Stage.TheVariants.{Idle, Waiting, Inside, Counted}

-- how many calls a pass may make
abbrev pub most_calls : ℕ
most_calls = 2 ^ 40

-- how many tickets a seat holds
abbrev pub waits : Stage → ℕ
waits Idle = 0
waits Waiting = 1
waits Inside = 1
waits Counted = 1

-- the seat has taken the state
abbrev pub IsIn : Stage → Type 0
IsIn Idle = ⊥
IsIn Waiting = ⊥
IsIn Inside = Unit {0}
IsIn Counted = Unit {0}

-- the lists are the entries of the callers from n on
abbrev pub Owns : {E : Type 0} → (E → ℕ) → ℕ → List (List E) → List E → Type 0
Owns who n [] log = Unit {0}
Owns who n (o ∷ os) log = (made_by who n log ≡ o) × Owns who (suc n) os log

-- the longer of two lists, and the first where they are as long
abbrev pub longer : {E : Type 0} → List E → List E → List E
longer xs ys = if nat_lt (length xs) (length ys) then ys else xs

-- the shorter of two lists, or the second of two that are equally long
abbrev pub shorter : {E : Type 0} → List E → List E → List E
shorter xs ys = if nat_lt (length xs) (length ys) then xs else ys

-- own entries with one more, of the first number
abbrev pub grown : {E : Type 0} → List (List E) → E → List (List E)
grown [] e = []
grown (o ∷ os) e = (o ++ e ∷ []) ∷ os

-- a seat's view, and the state if it has taken it
abbrev pub Seated : Type 0 → Type 0 → Type 0
Seated S E = Me (Option S) (View S E)

module _ {S E : Type 0} where
  abbrev pub view_calls : View S E → ℕ
  view_calls v = v.calls

  -- how many numbers a seat keeps
  abbrev pub width : View S E → ℕ
  width v = length v.owns

  abbrev pub waits_of : View S E → ℕ
  waits_of v = waits v.stage

  -- a seat keeps the number n
  abbrev pub Keeps : View S E → ℕ → Type 0
  Keeps v n = (v.number ≤ n) × (n < v.number + width v)

  -- of a seat that has seen the opening, and keeps the numbers from n on
  abbrev pub first_view : S → ℕ → ℕ → List (List E) → View S E
  first_view y crew n owns = record { opening = Some y; callers = crew; number = n; owns = owns; calls = 0; since = []; told = []; stage = Idle; ticket = 0; held = [] }

  -- what a join leaves of the seat that was joined
  abbrev pub spent_view : View S E
  spent_view = record { opening = None; callers = 0; number = 0; owns = []; calls = 0; since = []; told = []; stage = Idle; ticket = 0; held = [] }

  -- the ticket t was drawn
  abbrev pub waiting : ℕ → View S E → View S E
  waiting t v = record v { stage = Waiting; ticket = t; calls = v.calls + 1 }

  -- the state was taken, and these are all entries since the opening
  abbrev pub inside : List E → View S E → View S E
  inside log v = record v { stage = Inside; held = log }

  -- an entry was counted: it ends what the seat has seen, and its own entries
  abbrev pub counted : E → View S E → View S E
  counted e v = record v { stage = Counted; held = v.held ++ e ∷ []; since = v.held ++ e ∷ []; told = v.since; owns = grown v.owns e }

  -- the turn was passed on
  abbrev pub idle : View S E → View S E
  idle v = record v { stage = Idle; ticket = 0; held = [] }

  -- the first of its numbers, and the others
  abbrev pub dealt : View S E → View S E
  dealt v = record v { owns = take 1 v.owns }

  abbrev pub undealt : View S E → View S E
  undealt v = record v { number = v.number + 1; owns = drop 1 v.owns }

  -- a seat that has seen as much, and keeps no number
  abbrev pub witness : View S E → View S E
  witness v = record v { owns = []; calls = 0; told = [] }

  -- two seats in one, which has seen what either had seen
  abbrev pub both_views : View S E → View S E → View S E
  both_views v w = record v { owns = v.owns ++ w.owns; calls = v.calls + w.calls; since = longer w.since v.since; told = shorter w.since v.since }

  -- a draw
  abbrev pub drew : Step (Option S) → Seated S E → ℕ → Seated S E → Type 0
  drew st m r m' = m' ≡ (waiting r m.0, m.1)

  -- a count: the entry that was noted joins the log
  abbrev pub tallied : List E → Step (Option S) → Seated S E → ℕ → Seated S E → Type 0
  tallied noted st m r m' = (e : E) → noted ≡ e ∷ [] → m' ≡ (counted e m.0, m.1)

module _ {S E : Type 0} (who : E → ℕ) (stands : S → S → List E → Type 0) (ok : S → List E → Type 0) where
  -- what a seat knows of its front and its own entries
  pub record Sound (v : View S E) : Type 0 where
    pub told : IsPrefix v.told v.since
    -- what it has seen is legal after the opening
    pub legal : (y : S) → v.opening ≡ Some y → ok y v.since
    -- of its numbers, what it has seen has just its own entries
    pub seen : Owns who v.number v.owns v.since
    -- and none of a number that no seat has
    pub no_others : (n : ℕ) → v.callers ≤ n → made_by who n v.since ≡ []

  module _ (opening : S) (callers : ℕ) (log : List E) (ticket serving : ℕ) (homes : List (maybe.Option (Option S))) where
    -- A seat that waits has a ticket that was drawn and not yet served. One that has taken the state has the ticket that is served, and knows the whole log, to which its own entry may not be counted yet.
    abbrev pub AtStage : View S E → Stage → Type 0
    AtStage v Idle = Unit {0}
    AtStage v Waiting = (0 < width v) × (serving ≤ v.ticket) × (v.ticket < ticket)
    AtStage v Inside = (0 < width v) × (v.ticket ≡ serving) × (serving < ticket) × (v.held ≡ log) × (homes ≡ none ∷ []) × (length log ≤ serving)
    AtStage v Counted = (0 < width v) × (v.ticket ≡ serving) × (serving < ticket) × (v.held ≡ log) × (homes ≡ none ∷ []) × (length log ≤ suc serving)

    -- what the rule says of a seat that is not spent
    pub record Fits (v : View S E) : Type 0 where
      pub opened : v.opening ≡ Some opening
      pub crew : v.callers ≡ callers
      -- the log begins with what it has seen
      pub front : IsPrefix v.since log
      pub sound : Sound v
      -- of its numbers, the log has just its own entries
      pub own : Owns who v.number v.owns log
      pub range : v.number + width v ≤ callers
      pub few_calls : v.calls ≤ most_calls * width v
      pub stage : AtStage v v.stage

    -- the state is at home, or out with one seat
    abbrev pub Placed : List (View S E) → Type 0
    Placed views =
        ((x : S) × (homes ≡ some (Some x) ∷ []) × stands opening x log × (length log ≤ serving))
        ⊎ ((homes ≡ none ∷ []) × ((j : ℕ) × (v : View S E) × (get_elem? views j ≡ some v) × IsIn v.stage))

  -- The rule, which holds between any two steps. The log is all entries since the opening, and grows only where a count is raised.
  pub record Kept (opening : S) (callers : ℕ) (s : State (Option S) (View S E)) : Type 0 where
    pub log : List E
    pub ticket : ℕ
    pub serving : ℕ
    pub words : s.words ≡ ticket ∷ serving ∷ length log ∷ []
    pub placed : Placed opening callers log ticket serving s.homes s.views
    pub few : callers ≤ 65536
    -- each ticket is a call that some seat has made
    pub calls : sum_by view_calls s.views ≡ ticket
    -- each number is one that some seat keeps
    pub widths : sum_by width s.views ≡ callers
    -- each ticket was served, or some seat holds it
    pub waiting_seats : serving + sum_by waits_of s.views ≡ ticket
    -- no entry has a number that no seat keeps
    pub named : (n : ℕ) → callers ≤ n → made_by who n log ≡ []
    pub each : (j : ℕ) (v : View S E) → get_elem? s.views j ≡ some v → (v ≡ spent_view) ⊎ Fits opening callers log ticket serving s.homes v
    -- no two seats keep one number
    pub apart : (i j n : ℕ) (v w : View S E) → get_elem? s.views i ≡ some v → get_elem? s.views j ≡ some w → Keeps v n → Keeps w n → i ≡ j
    -- no two seats hold one ticket
    pub turns : (i j : ℕ) (v w : View S E) → get_elem? s.views i ≡ some v → get_elem? s.views j ≡ some w → 0 < waits_of v → 0 < waits_of w → v.ticket ≡ w.ticket → i ≡ j

  -- the seat took the state, which stands for all entries since the opening, and these begin with what it had seen
  abbrev pub Entered : Seated S E → Seated S E → Type 0
  Entered m m' = (x : S) × (log : List E) × (m' ≡ (inside log m.0, (0, Some x) ∷ m.1)) × ((y : S) → m.0.opening ≡ Some y → stands y x log) × IsPrefix m.0.since log

  -- a load of the ticket that is served: where it is the seat's, the seat takes the state
  abbrev pub entered : Step (Option S) → Seated S E → ℕ → Seated S E → Type 0
  entered st m r m' = (r ≡ m.0.ticket → Entered m m') × (r ≢ m.0.ticket → m' ≡ m)

  -- the turn passes on
  abbrev pub passed_on : Step (Option S) → Seated S E → ℕ → Seated S E → Type 0
  passed_on st m r m' = (m' ≡ (idle m.0, rest m.1)) × Sound m.0

  -- a load that teaches what the rule says of the seat
  abbrev pub learned : Step (Option S) → Seated S E → ℕ → Seated S E → Type 0
  learned st m r m' = (m' ≡ m) × Sound m.0
