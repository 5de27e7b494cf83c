-- What reads an object: the keys that it needs, those that may be left out, and what their values give, each key in one place.
use Rattle.std.specs.Prelude.{ℕ, List, [], ◌∷◌, ◌++◌, codes, Option, Result, Ok}
use Rattle.serde_json.specs.Data.{Data}
use Rattle.serde_json.specs.Find.{get}
use Rattle.wg_script.specs.Giving.{◌>>=◌}
use Rattle.wg_script.specs.Values.{check_keys, check_inner}

-- a reader of an object: the keys that it needs, those that it may have, and what is read of them
pub record Reader (X : Type 0) : Type 0 where
  pub needed : List (List ℕ)
  pub optional : List (List ℕ)
  pub read : Data → Result X ℕ

-- what gives this of no key
abbrev pub gives : {X : Type 0} → X → Reader X
gives x = record { needed = []; optional = []; read = λ d. Ok x }

-- what is read of an object by two readers, one after the other
abbrev pub then_read : {X Y : Type 0} → (Data → Result (X → Y) ℕ) → (Data → Result X ℕ) → Data → Result Y ℕ
then_read before value d = before d >>= λ f. value d >>= λ x. Ok (f x)

-- one more key that is needed
abbrev pub need : {X Y : Type 0} → List ℕ → (Option Data → Result X ℕ) → Reader (X → Y) → Reader Y
need key value before = record { needed = before.needed ++ key ∷ []; optional = before.optional; read = then_read before.read (λ d. value (get key d)) }

-- one more key that may be left out
abbrev pub may : {X Y : Type 0} → List ℕ → (Option Data → Result X ℕ) → Reader (X → Y) → Reader Y
may key value before = record { needed = before.needed; optional = before.optional ++ key ∷ []; read = then_read before.read (λ d. value (get key d)) }

-- one more key that is needed, whose value was read before
abbrev pub has : {X : Type 0} → List ℕ → Reader X → Reader X
has key before = record { needed = before.needed ++ key ∷ []; optional = before.optional; read = before.read }

-- the keys of another reader, for what it gives
abbrev pub all_of : {X Y : Type 0} → Reader X → Reader (X → Y) → Reader Y
all_of part before = record { needed = before.needed ++ part.needed; optional = before.optional ++ part.optional; read = then_read before.read part.read }

-- a value handed to a function
infixl 5 ◌▹◌
abbrev pub ◌▹◌ : {A B : Type 0} → A → (A → B) → B
x ▹ f = f x

-- a call with just these keys and that of its word, and what they give
abbrev pub read_by : {X : Type 0} → Reader X → Data → Result X ℕ
read_by reader d = check_keys (codes "do" ∷ reader.needed) reader.optional d >>= λ fine. reader.read d

-- an object inside a call with just these keys, and what they give
abbrev pub inner_by : {X : Type 0} → Reader X → Data → Result X ℕ
inner_by reader d = check_inner reader.needed reader.optional d >>= λ fine. reader.read d
