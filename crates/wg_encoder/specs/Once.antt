-- What is in a list, each once, and how that is kept.
use Rattle.std.specs.Prelude.{◌≡◌, ℕ, ◌-◌, Bool, List, [], ◌∷◌, ◌++◌, fold, if◌then◌else◌, vec_len, vec_capacity}
use Rattle.std.specs.List.{list_any}
use Rattle.indexmap.specs.IndexSet.{insert_all, spare}
use Rattle.wg_encoder.specs.declared.once.Once.{Once}
use Rattle.wg_encoder.specs.declared.once.Once.TheVariants.{Few, Many}

-- a list with one more element, where it has none that is the same
abbrev pub with_one : {A : Type 0} → (A → A → Bool) → List A → A → List A
with_one same xs x = if list_any (same x) xs then xs else xs ++ x ∷ []

-- each of a list once, in the order in which they first come
abbrev pub each_once : {A : Type 0} → (A → A → Bool) → List A → List A
each_once same xs = fold (with_one same) [] xs

-- the values that are kept, in the order in which they first came
abbrev pub values_of : {T : Type 0} → Once T → List T
values_of (Few list) = list.items
values_of (Many set) = set.keys

-- for how many more values there is room
abbrev pub room_of : {T : Type 0} → Once T → ℕ
room_of (Few list) = vec_capacity list - vec_len list
room_of (Many set) = spare set

-- No value is in a list twice: added one by one, all of them are.
abbrev pub AreOnce : {T : Type 0} → (T → T → Bool) → List T → Type 0
AreOnce same values = insert_all same [] values ≡ values
