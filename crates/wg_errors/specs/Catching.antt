-- Where faults go while each scope of a stack is the innermost one, told scope by scope.
use Rattle.std.specs.Prelude.{ℕ, List, [], ◌∷◌, length, map, if◌then◌else◌}
use Rattle.wg_trace.specs.declared.replies.FaultKind.{FaultKind}
use Rattle.wg_trace.specs.declared.replies.FaultKind.TheVariants as kind
use Rattle.wg_trace.specs.declared.replies.Filter.{Filter}
use Rattle.wg_trace.specs.declared.replies.Scope.{Scope}
use Rattle.wg_trace.specs.declared.replies.Caught.{Caught}
use Rattle.wg_trace.specs.declared.replies.Caught.TheVariants.{Scope as CaughtBy, Uncaptured}
use Rattle.wg_model.specs.ErrorScopes.{catches}
use Rattle.wg_errors.specs.declared.Catchers.{Catchers}

-- the filters of scopes
abbrev pub filters : List Scope → List Filter
filters scopes = map (λ (s : Scope). s.filter) scopes

-- where a fault of a kind goes
abbrev pub pick : Catchers → FaultKind → Caught
pick catchers kind.Validation = catchers.validation
pick catchers kind.OutOfMemory = catchers.memory

-- what is told of the innermost scope, of which it comes first
abbrev pub top : List Catchers → Catchers
top [] = record { validation = Uncaptured; memory = Uncaptured }
top (catchers ∷ outer) = catchers

-- what catches faults inside a scope with this filter, which has so many around it
abbrev pub within : Filter → ℕ → Catchers → Catchers
within filter place outer = record {
  validation = if catches filter kind.Validation then CaughtBy place else outer.validation;
  memory = if catches filter kind.OutOfMemory then CaughtBy place else outer.memory;
}

-- what is told of each scope of a stack with these filters, innermost first
abbrev pub told : List Filter → List Catchers
told [] = []
told (filter ∷ outer) = within filter (length outer) (top (told outer)) ∷ told outer
