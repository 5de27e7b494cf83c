-- Holds of objects, counted: an object is held where it has a hold that is no object, or where a held object refers to it.
use Rattle.std.specs.Prelude.{◌≡◌, ℕ, zero, suc, ◌+◌, ◌-◌, Bool, true, not, ◌&&◌, ◌||◌, ◌==◌, nat_lt, List, [], ◌∷◌, ◌++◌, length, slice_index_or, if◌then◌else◌}
use Rattle.wg_model.specs.Holding.{Node, is_among, is_held_among}

-- what is kept of counts: how many holds each object has that are no objects, to which objects each refers, by number, which
-- objects fell since that list was cleared, in some order, which were let go, and for how many more objects and holds there is room
pub record CountsValue : Type 0 where
  pub own : List ℕ
  pub refers : List (List ℕ)
  pub fallen : List ℕ
  pub gone : List ℕ
  pub spare : ℕ
  pub room : ℕ

-- the holds of object n that are no objects, or 0
abbrev pub own_at : List ℕ → ℕ → ℕ
own_at own n = slice_index_or own n 0

-- the objects to which object n refers, or none
abbrev pub refers_in : List (List ℕ) → ℕ → List ℕ
refers_in refers n = slice_index_or refers n []

-- object n as a plain object: held by itself where it has a hold that is no object
abbrev pub node_at : List ℕ → List (List ℕ) → ℕ → Node
node_at own refers n = record { held = nat_lt 0 (own_at own n); refers = refers_in refers n }

-- the first n objects as plain objects
abbrev pub counted_below : List ℕ → List (List ℕ) → ℕ → List Node
counted_below own refers zero = []
counted_below own refers (suc n) = counted_below own refers n ++ node_at own refers n ∷ []

-- whether object n is held
unfoldable pub is_counted : List ℕ → List (List ℕ) → ℕ → Bool
is_counted own refers n = is_held_among (counted_below own refers (length own)) n

-- whether object n is held by counts
abbrev pub is_held : CountsValue → ℕ → Bool
is_held v n = is_counted v.own v.refers n

-- the holds of each object after one of object k more
abbrev pub one_more : ℕ → ℕ → ℕ → ℕ
one_more k n holds = if k == n then holds + 1 else holds

-- the holds of each object after one of object k less
abbrev pub one_less : ℕ → ℕ → ℕ → ℕ
one_less k n holds = if k == n then holds - 1 else holds

-- how often a list has a number
abbrev pub times : ℕ → List ℕ → ℕ
times n [] = 0
times n (m ∷ ms) = (if m == n then 1 else 0) + times n ms

-- numbers and what a note makes of them, by object
pub record Owns (note : ℕ → ℕ → ℕ) (old new : List ℕ) : Type 0 where
  pub len : length new ≡ length old
  pub each : (n : ℕ) → own_at new n ≡ (if nat_lt n (length old) then note n (own_at old n) else 0)

-- What fell, which was held and is not, is listed, once more than it was, and nothing that was not held is held.
pub record Falls (old new : CountsValue) : Type 0 where
  pub listed : (n : ℕ) → is_among new.fallen n ≡ is_among old.fallen n || (is_held old n && not (is_held new n))
  pub once : (n : ℕ) → times n new.fallen ≡ times n old.fallen + (if is_held old n && not (is_held new n) then 1 else 0)
  pub falls : (n : ℕ) → is_held new n ≡ true → is_held old n ≡ true
