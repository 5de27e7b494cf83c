-- What is held (WebGPU, "Internal Objects"): a test that goes over objects, which refer to earlier ones, from the newest on. In
-- a history it is the least relation of the sentences on holders.
use Rattle.std.specs.Prelude.{ℕ, zero, suc, Bool, false, not, ◌&&◌, ◌||◌, ◌==◌, List, [], ◌∷◌, ◌++◌, Option, is_some, slice_index_or}
use Rattle.std.specs.List.{list_any}
use Rattle.std.specs.Option.{option_map_or}

-- an object: whether it is held by something that is no object, and the numbers of those to which it refers
pub record Node : Type 0 where
  pub held : Bool
  pub refers : List ℕ

-- an object that nothing holds and that refers to none
abbrev pub nobody : Node
nobody = record { held = false; refers = [] }

-- whether a number is in a list
abbrev pub is_among : List ℕ → ℕ → Bool
is_among list n = list_any (λ m. m == n) list

-- one of these is held and refers to object n
abbrev pub has_holder : List Node → ℕ → Bool
has_holder nodes n = list_any (λ node. node.held && is_among node.refers n) nodes

-- the objects from number k on, in the order of their making, each with whether it is held: it is so by itself, or one that
-- was made later is held and refers to it
abbrev pub with_holders : ℕ → List Node → List Node
with_holders k [] = []
with_holders k (node ∷ newer) = record { held = node.held || has_holder (with_holders (suc k) newer) k; refers = node.refers } ∷ with_holders (suc k) newer

-- the objects with whether each is held: by itself, or by one that was made later, is held and refers to it
abbrev pub all_held : List Node → List Node
all_held nodes = with_holders 0 nodes

-- whether object n is held among plain objects
abbrev pub is_held_among : List Node → ℕ → Bool
is_held_among nodes n = (slice_index_or (all_held nodes) n nobody).held

-- What an object says of holders: how many objects there were when it was dropped, if it was; whether it is an encoder that
-- is open; the objects that it names, as a pending command buffer; and those to which it refers, being valid.
pub record Holds : Type 0 where
  pub dropped : Option ℕ
  pub opened : Bool
  pub names : List ℕ
  pub refers : List ℕ

-- whether some number below n passes the test
abbrev pub any_below : (ℕ → Bool) → ℕ → Bool
any_below test zero = false
any_below test (suc n) = test n || any_below test n

-- whether one of the first m objects names object n, as a command buffer that is pending
abbrev pub is_named_in : (ℕ → Holds) → ℕ → ℕ → Bool
is_named_in holds m n = any_below (λ b. is_among (holds b).names n) m

-- whether an encoder that was made before the drop of object n is open
abbrev pub is_awaited_in : (ℕ → Holds) → ℕ → Bool
is_awaited_in holds n = option_map_or (any_below (λ e. (holds e).opened)) (holds n).dropped false

-- whether something holds object n that is no object which refers to it
abbrev pub is_root_in : (ℕ → Holds) → ℕ → ℕ → Bool
is_root_in holds m n = not (is_some (holds n).dropped) || (is_named_in holds m n || is_awaited_in holds n)

-- what an object is to the test of what is held: whether it is held by itself, and to what it refers
abbrev pub node_in : (ℕ → Holds) → ℕ → ℕ → Node
node_in holds m n = record { held = is_root_in holds m n; refers = (holds n).refers }

-- the objects of numbers below n, among m
abbrev pub nodes_below : (ℕ → Holds) → ℕ → ℕ → List Node
nodes_below holds m zero = []
nodes_below holds m (suc n) = nodes_below holds m n ++ node_in holds m n ∷ []

-- all of m objects, by number
abbrev pub nodes_in : (ℕ → Holds) → ℕ → List Node
nodes_in holds m = nodes_below holds m m

-- whether object n of the first m objects is held
unfoldable pub is_held_in : (ℕ → Holds) → ℕ → ℕ → Bool
is_held_in holds m n = is_held_among (nodes_in holds m) n
