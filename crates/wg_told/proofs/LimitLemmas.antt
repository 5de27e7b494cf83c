-- Limits that callers in C ask for, and those that an adapter supports.
use Rattle.std.proofs.Common.{◌≡◌, ℕ, ◌+◌, Bool, true, false, cond, List, [], ◌∷◌, ◌++◌, Option, Some, None, refl, append_assoc}
use Rattle.std.specs.Prelude.{not, ◌&&◌}
use Rattle.std.specs.List.{cons_option, list_all, position_from}
use Rattle.std.specs.Option.{option_map_or}
use Rattle.std.proofs.lemmas.Bool.{and_parts}
use Rattle.wg_limits.specs.Limits.{can_ask}
use Rattle.wg_limits.specs.declared.names.LimitName.{LimitName}
use Rattle.wg_told.specs.declared.flats.FlatLimit.{FlatLimit}
use Rattle.wg_told.specs.Limits.{named_by, all_named, passes, is_supported, is_offered, failing, CanAll}

and_true : (a b : Bool) → a ≡ true → b ≡ true → a && b ≡ true
and_true true b e h = h
and_true false b e h = cc

-- What is named passes where nothing fails.
one_more : (passed : Bool) (place : ℕ) (later : Option ℕ) (rest : Bool) → cond (not passed) (Some place) later ≡ None → (later ≡ None → rest ≡ true) → passed && rest ≡ true
one_more true place later rest none more = more none
one_more false place later rest none more = cc

one_passes : (test : LimitName × ℕ → Bool) (one : Option (LimitName × ℕ)) (place : ℕ) (later : Option ℕ) (rest : List (LimitName × ℕ))
    → cond (not (option_map_or test one false)) (Some place) later ≡ None → (later ≡ None → list_all test rest ≡ true)
    → list_all test (cons_option one rest) ≡ true
one_passes test None place later rest none more = cc
one_passes test (Some one) place later rest none more = one_more (test one) place later (list_all test rest) none more

pub all_from : (test : LimitName × ℕ → Bool) (limits : List FlatLimit) (place : ℕ)
    → position_from (λ limit. not (passes test limit)) place limits ≡ None → list_all test (all_named limits) ≡ true
all_from test [] place none = refl
all_from test (limit ∷ limits) place none =
    one_passes test (named_by limit) place (position_from (λ other. not (passes test other)) (place + 1) limits) (all_named limits) none
    (all_from test limits (place + 1))

-- What an adapter offers can be asked for.
offered_can : (best values : List (LimitName × ℕ)) → list_all (is_offered best) values ≡ true → list_all can_ask values ≡ true
offered_can best [] h = refl
offered_can best (asked ∷ values) h =
    let both = and_parts (is_offered best asked) (list_all (is_offered best) values) h in
    and_true (can_ask asked) (list_all can_ask values) (and_parts (can_ask asked) (is_supported best asked) both.0).0 (offered_can best values both.1)

pub all_can : (best : List (LimitName × ℕ)) (limits : List FlatLimit) → failing (is_offered best) limits ≡ None → CanAll limits
all_can best limits none = offered_can best (all_named limits) (all_from (is_offered best) limits 0 none)

-- what was found and the next one, and then the rest
pub found_next : (found : List (LimitName × ℕ)) (one : LimitName × ℕ) (rest : List (LimitName × ℕ)) → (found ++ one ∷ []) ++ rest ≡ found ++ one ∷ rest
found_next found one rest = append_assoc found (one ∷ []) rest
