-- Rules that are met, of which some stand before or behind others, and the objects that commands name.
use Rattle.std.specs.Prelude.{is_none}
use Rattle.std.proofs.Common.{◌≡◌, ℕ, List, [], ◌∷◌, ◌++◌, map, true, None, ap}
use Rattle.wg_types.specs.Handles.{HandleValue}
use Rattle.wg_types.specs.Commands.{Command, named}
use Rattle.wg_types.specs.Wanted.{within}
use Rattle.wg_types.specs.declared.wanted.Kind.{Kind}
use Rattle.wg_types.specs.declared.wanted.Wanted.{Wanted}
use Rattle.wg_rows.specs.Rows.{EachRow}
use Rattle.wg_model.specs.Rules.{Rule, first_unmet, AreMet}
use Rattle.wg_model.specs.Commands.{common_rules}
use Rattle.wg_model.proofs.Unmet.{all_met}
use Rattle.wg_small.proofs.Known.{IsSmallHandle}

pub none_met : (rules : List Rule) → first_unmet rules ≡ None → AreMet rules
none_met rules e = all_met rules (ap is_none e)

pub met_front : (xs ys : List Rule) → AreMet (xs ++ ys) → AreMet xs
met_front [] ys met = tt
met_front (x ∷ xs) ys met = (met.0, met_front xs ys met.1)

pub met_behind : (xs ys : List Rule) → AreMet (xs ++ ys) → AreMet ys
met_behind [] ys met = met
met_behind (x ∷ xs) ys met = met_behind xs ys met.1

-- what handles tell of objects is small
abbrev pub AreSmallNamed : List (HandleValue × Wanted) → Type 0
AreSmallNamed objects = EachRow (λ (object : HandleValue × Wanted). IsSmallHandle object.0) objects

abbrev pub IsSmallCommand : Command → Type 0
IsSmallCommand command = AreSmallNamed (named command)

abbrev pub AreSmallCommands : List Command → Type 0
AreSmallCommands commands = EachRow IsSmallCommand commands

-- objects of which the common rules are met are valid
abbrev pub AreValid : List (HandleValue × Wanted) → Type 0
AreValid objects = EachRow (λ (object : HandleValue × Wanted). object.0.valid ≡ true) objects

pub all_valid : (device : ℕ) (objects : List (HandleValue × Wanted)) → AreMet (common_rules device objects) → AreValid objects
all_valid device [] met = tt
all_valid device (object ∷ objects) met = (met.1.0, all_valid device objects met.1.1)

on_valid : (device : ℕ) (place : Kind) (objects : List (HandleValue × Wanted)) → AreMet (common_rules device (map (λ (object : HandleValue × Wanted). (object.0, within place object.1)) objects)) → AreValid objects
on_valid device place [] met = tt
on_valid device place (object ∷ objects) met = (met.1.0, on_valid device place objects met.1.1)

pub command_valid : (device : ℕ) (place : Kind) (command : Command) → AreMet (common_rules device (map (λ (object : HandleValue × Wanted). (object.0, within place object.1)) (named command))) → AreValid (named command)
command_valid device place command met = on_valid device place (named command) met
