-- How many phases a script has, and how many lanes a phase.
use Rattle.std.specs.Prelude.{◌≤◌, List, length, All}

-- at most 1,024 phases, each of at most 64 lanes
pub record IsSized {C : Type 0} (script : List (List (List C))) : Type 0 where
  pub phases : length script ≤ 1024
  pub lanes : All (λ lanes. length lanes ≤ 64) script
