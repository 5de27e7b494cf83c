-- What a script asks for of limits: the key `limits` at its top.
use Rattle.std.specs.Prelude.{ℕ, List, [], ◌∷◌, ◌++◌, Option, Some, None, Result, Ok, Err}
use Rattle.serde_json.specs.Data.{Data, Members, no_members, member}
use Rattle.serde_json.specs.Find.{as_object}
use Rattle.wg_types.specs.declared.limits.Limits.{Limits}
use Rattle.wg_limits.specs.Names.{limit_named}
use Rattle.wg_limits.specs.Limits.{default_limits, limits_asked}
use Rattle.wg_limits.specs.declared.names.LimitName.{LimitName}
use Rattle.wg_script.specs.Giving.{◌>>=◌}
use Rattle.wg_script.specs.Values.{whole, most_whole}

-- a limit that a text names, or script rule 14
abbrev pub name_from : Option LimitName → Result LimitName ℕ
name_from None = Err 14
name_from (Some name) = Ok name

-- a value that is asked for, or script rule 14
abbrev pub value_from : Result ℕ ℕ → Result ℕ ℕ
value_from (Ok value) = Ok value
value_from (Err rule) = Err 14

-- a limit with its value. Script rule 14: the key is no name of a limit, or the value is no whole number in range
unfoldable pub value_asked : List ℕ → Data → Result (LimitName × ℕ) ℕ
value_asked key d = do
  name ← name_from (limit_named key)
  value ← value_from (whole most_whole d)
  Ok (name, value)

-- all members in turn
abbrev pub values_asked : Members → Result (List (LimitName × ℕ)) ℕ
values_asked no_members = Ok []
values_asked (member key d ms) = do
  first ← value_asked key d
  rest ← values_asked ms
  Ok (first ∷ rest)

-- what was read of the members, before what the rest of them give
abbrev pub with_values : List (LimitName × ℕ) → Result (List (LimitName × ℕ)) ℕ → Result (List (LimitName × ℕ)) ℕ
with_values front r = r >>= λ values. Ok (front ++ values)

-- the names and values of an object, or script rule 14
abbrev pub members_from : Option Members → Result (List (LimitName × ℕ)) ℕ
members_from None = Err 14
members_from (Some ms) = values_asked ms

-- the limits that are given for what is asked, or script rule 14
abbrev pub limits_from : Option Limits → Result Limits ℕ
limits_from None = Err 14
limits_from (Some limits) = Ok limits

-- Script rule 14: the value is no object, or one cannot ask for what it asks: a value is better than the best, or an alignment is no
-- power of two below 2^32.
abbrev pub limits_in : Data → Result Limits ℕ
limits_in d = members_from (as_object d) >>= λ values. limits_from (limits_asked values)

-- the limits of the script's device: the defaults where the key is left out
abbrev pub limits_at : Option Data → Result Limits ℕ
limits_at None = Ok default_limits
limits_at (Some d) = limits_in d
