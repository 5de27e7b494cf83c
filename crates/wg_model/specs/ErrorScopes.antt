-- Error scopes (WebGPU, "Error Scopes"). A stack of them stands outermost first.
use Rattle.std.specs.Prelude.{ℕ, ◌-◌, Bool, true, false, List, [], ◌∷◌, length, take, reverse, Option, Some, None, slice_get, slice_set, if◌then◌else◌}
use Rattle.wg_trace.specs.declared.replies.FaultKind.{FaultKind}
use Rattle.wg_trace.specs.declared.replies.FaultKind.TheVariants as kind
use Rattle.wg_trace.specs.declared.replies.Filter.{Filter}
use Rattle.wg_trace.specs.declared.replies.Filter.TheVariants as filter
use Rattle.wg_trace.specs.declared.replies.First.{First}
use Rattle.wg_trace.specs.declared.replies.Scope.{Scope}
use Rattle.wg_trace.specs.declared.replies.Caught.{Caught}
use Rattle.wg_trace.specs.declared.replies.Caught.TheVariants.{Scope as CaughtBy, Uncaptured}
use Rattle.wg_trace.specs.declared.replies.How.{How}
use Rattle.wg_trace.specs.declared.replies.How.TheVariants.{Null, Rejected, Error}

-- whether a scope with this filter catches faults of this kind: the filter is the kind
abbrev pub catches : Filter → FaultKind → Bool
catches filter.Validation kind.Validation = true
catches filter.Validation kind.OutOfMemory = false
catches filter.OutOfMemory kind.OutOfMemory = true
catches filter.OutOfMemory kind.Validation = false
catches filter.Internal kind.Validation = false
catches filter.Internal kind.OutOfMemory = false

-- the place of the innermost scope that catches faults of a kind, on a stack that is given innermost first
abbrev pub catcher_back : List Scope → FaultKind → Option ℕ
catcher_back [] kind = None
catcher_back (scope ∷ outer) kind = if catches scope.filter kind then Some (length outer) else catcher_back outer kind

-- the place of the innermost open scope that catches faults of a kind, if one does
abbrev pub catcher : List Scope → FaultKind → Option ℕ
catcher scopes kind = catcher_back (reverse scopes) kind

-- where a fault goes: to the scope of a place, or to none
abbrev pub caught_by : Option ℕ → Caught
caught_by None = Uncaptured
caught_by (Some place) = CaughtBy place

-- where a fault of a kind goes: to the innermost scope that catches it, or to none
abbrev pub deliver : List Scope → FaultKind → Caught
deliver scopes kind = caught_by (catcher scopes kind)

-- a scope keeps the first error that it receives
abbrev pub kept_first : Option First → First → Option First
kept_first None error = Some error
kept_first (Some first) error = Some first

-- the open scopes after a fault that the scope of a place catches, if it is there
abbrev pub filled : List Scope → ℕ → Option Scope → First → List Scope
filled scopes place None error = scopes
filled scopes place (Some scope) error = slice_set scopes place (record scope { first = kept_first scope.first error })

-- the stack after an error that went there
abbrev pub caught_in : Caught → First → List Scope → List Scope
caught_in (CaughtBy place) error scopes = filled scopes place (slice_get scopes place) error
caught_in Uncaptured error scopes = scopes

-- the stack after a delivery
abbrev pub delivered : List Scope → FaultKind → ℕ → List Scope
delivered scopes kind rule = caught_in (deliver scopes kind) (record { kind = kind; rule = rule }) scopes

-- how a pop settles by the first fault of its scope: by null where there is none
abbrev pub first_how : Option First → How
first_how None = Null
first_how (Some first) = Error first.kind first.rule

-- how a pop settles by the innermost scope: it is rejected where none is open
abbrev pub top_how : Option Scope → How
top_how None = Rejected
top_how (Some scope) = first_how scope.first

-- How a pop is settled (WebGPU, "popErrorScope"): on a lost device with null; on an empty stack it is rejected; else with
-- the first error of the innermost scope, or with null.
abbrev pub pop_how : Bool → List Scope → How
pop_how lost scopes = if lost then Null else top_how (slice_get scopes (length scopes - 1))

-- the stack after a pop, which on a lost device takes nothing away
abbrev pub popped : Bool → List Scope → List Scope
popped lost scopes = if lost then scopes else take (length scopes - 1) scopes
