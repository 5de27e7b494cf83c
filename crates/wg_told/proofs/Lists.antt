-- What is read of a list, piece by piece.
use Rattle.std.proofs.Common.{◌≡◌, List, [], ◌∷◌, ◌++◌, Option, Some, None, refl, ap, append_assoc}
use Rattle.std.specs.Prelude.{option_map}

-- a list, and then what is left to be read
abbrev pub joined : {T : Type 0} → List T → Option (List T) → Option (List T)
joined xs rest = option_map (λ ys. xs ++ ys) rest

pub joined_next : {T : Type 0} (xs : List T) (y : T) (rest : Option (List T))
    → option_map (λ ys. (xs ++ y ∷ []) ++ ys) rest ≡ option_map (λ ys. xs ++ ys) (option_map (λ ys. y ∷ ys) rest)
joined_next xs y None = refl
joined_next xs y (Some ys) = ap Some (append_assoc xs (y ∷ []) ys)
