-- What is kept beside the marks: how many holds each object has that are no objects, which encoders may be open, and what
-- waits for one.
use Rattle.std.specs.Prelude.{◌≡◌, ℕ, zero, suc, ◌+◌, ◌<◌, ◌≤◌, Bool, true, false, ◌==◌, nat_lt, List, [], ◌∷◌, length, Some, is_some, if◌then◌else◌}
use Rattle.std.specs.Option.{option_map_or}
use Rattle.wg_model.specs.Holding.{is_among, any_below}
use Rattle.wg_counts.specs.Counts.{CountsValue, own_at, is_counted, Falls, times}
use Rattle.wg_holders.specs.declared.marks.Mark.{Mark}
use Rattle.wg_holders.specs.declared.tokens.Awaited.{Awaited}
use Rattle.wg_holders.specs.Holders.{mark_at, list_at, is_open, is_unspent}

-- Marks are what a note makes of marks before, by number.
pub record Notes (note : ℕ → Mark → Mark) (old new : List Mark) : Type 0 where
  pub len : length new ≡ length old
  pub each : (n : ℕ) → n < length old → mark_at new n ≡ note n (mark_at old n)

-- Numbers.

-- the sum of a function over the numbers below n
abbrev pub sum_below : (ℕ → ℕ) → ℕ → ℕ
sum_below f zero = 0
sum_below f (suc m) = sum_below f m + f m

-- numbers that rise, from one bound to below another
abbrev pub Rises : ℕ → ℕ → List ℕ → Type 0
Rises low high [] = Unit {0}
Rises low high (e ∷ es) = (low ≤ e) × (e < high) × Rises (suc e) high es

-- Holds that are no objects.

-- what object b holds by naming it
abbrev pub held_by : List Mark → List (List ℕ) → ℕ → List ℕ
held_by marks names b = if is_unspent (mark_at marks b) then list_at names b else []

-- how often object n is held by naming it
abbrev pub named : List Mark → List (List ℕ) → ℕ → ℕ
named marks names n = sum_below (λ b. times n (held_by marks names b)) (length marks)

-- the hold of an object that was not dropped
abbrev pub lives : List Mark → ℕ → ℕ
lives marks n = if nat_lt n (length marks) then (if is_some (mark_at marks n).dropped then 0 else 1) else 0

-- how many objects were not dropped
abbrev pub living : List Mark → ℕ
living marks = sum_below (lives marks) (length marks)

-- how often object n waits for an open encoder
abbrev pub waits : List Awaited → ℕ → ℕ
waits [] n = 0
waits (wait ∷ awaited) n = (if wait.number == n then 1 else 0) + waits awaited n

-- Each object has one hold for not being dropped, one for waiting for an open encoder, and one for each time that a pending
-- command buffer names it.
pub record IsOwned (marks : List Mark) (names : List (List ℕ)) (awaited : List Awaited) (own : List ℕ) : Type 0 where
  pub own_len : length own ≡ length marks
  pub names_len : length names ≡ length marks
  pub own_are : (n : ℕ) → own_at own n ≡ lives marks n + waits awaited n + named marks names n

-- Encoders.

-- whether an object is an encoder that is open
abbrev pub is_open_at : List Mark → ℕ → Bool
is_open_at marks e = is_open (mark_at marks e)

-- whether the first of a list of encoders is open, if it has one
abbrev pub starts_open : List Mark → List ℕ → Bool
starts_open marks [] = true
starts_open marks (e ∷ opened) = is_open_at marks e

-- whether the first of a list is below number k
abbrev pub first_below : List ℕ → ℕ → Bool
first_below [] k = false
first_below (e ∷ opened) k = nat_lt e k

-- Every open encoder is listed, in the order of their numbers.
pub record Opens (marks : List Mark) (opened : List ℕ) : Type 0 where
  pub rises : Rises 0 (length marks) opened
  pub are_listed : (e : ℕ) → is_open_at marks e ≡ true → is_among opened e ≡ true

-- The first of a list tells for each number whether an encoder below it is open.
pub record IsFirstOpen (marks : List Mark) (opened : List ℕ) : Type 0 where
  pub tells : (k : ℕ) → any_below (is_open_at marks) k ≡ first_below opened k

-- What waits for an encoder.

-- whether an encoder that was made before the drop of object n is open
abbrev pub is_awaited_at : List Mark → ℕ → Bool
is_awaited_at marks n = option_map_or (any_below (is_open_at marks)) (mark_at marks n).dropped false

-- what was dropped, in the order of the drops
abbrev pub InOrder : List Mark → ℕ → List Awaited → Type 0
InOrder marks low [] = Unit {0}
InOrder marks low (wait ∷ awaited) = (low ≤ wait.made) × ((mark_at marks wait.number).dropped ≡ Some wait.made) × InOrder marks wait.made awaited

-- whether the first of what waits is awaited by an encoder that is open, if there is one
abbrev pub starts_awaited : List ℕ → List Awaited → Bool
starts_awaited opened [] = true
starts_awaited opened (wait ∷ awaited) = first_below opened wait.made

-- All dropped objects that wait for an open encoder are listed, in the order of their drops, and nothing twice.
pub record Drops (marks : List Mark) (awaited : List Awaited) : Type 0 where
  pub made_before : (n k : ℕ) → (mark_at marks n).dropped ≡ Some k → k ≤ length marks
  pub in_order : InOrder marks 0 awaited
  pub once : (n : ℕ) → waits awaited n ≤ 1
  pub are_listed : (n : ℕ) → is_awaited_at marks n ≡ true → 0 < waits awaited n

-- The lists of open encoders and of what waits for them are in order, with nothing at their fronts that is over.
pub record IsTidy (marks : List Mark) (opened : List ℕ) (awaited : List Awaited) : Type 0 where
  pub opens : Opens marks opened
  pub open_first : starts_open marks opened ≡ true
  pub drops : Drops marks awaited
  pub awaited_first : starts_awaited opened awaited ≡ true

-- Changes of counts.

-- holds that were ended: a part of them was this and is that
pub record Moves (from to : ℕ → ℕ) (old new : CountsValue) : Type 0 where
  pub len : length new.own ≡ length old.own
  pub own : (n : ℕ) → own_at new.own n + from n ≡ own_at old.own n + to n
  pub refers : new.refers ≡ old.refers
  pub falls : Falls old new
  pub spare : new.spare ≡ old.spare
  pub room : new.room ≡ old.room

-- holds that were added
pub record Raises (names : List ℕ) (old new : CountsValue) : Type 0 where
  pub len : length new.own ≡ length old.own
  pub own : (n : ℕ) → own_at new.own n ≡ own_at old.own n + times n names
  pub refers : new.refers ≡ old.refers
  pub fallen : new.fallen ≡ old.fallen
  pub same : (n : ℕ) → is_counted new.own new.refers n ≡ is_counted old.own old.refers n
  pub spare : new.spare ≡ old.spare
  pub room : old.room ≤ new.room + length names
