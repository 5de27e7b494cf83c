-- What is told beside the scopes of a stack is where faults go.
use Rattle.std.proofs.Common.{◌≡◌, ℕ, zero, suc, List, [], ◌∷◌, ◌++◌, length, map, reverse, Bool, true, false, Option, Some, None, slice_get, get_or, refl, sym, ap, ◌∙◌, if◌then◌else◌}
use Rattle.std.proofs.lemmas.List.{reverse-append, length-map, map-append}
use Rattle.std.proofs.Math.Seq.{map-set_same}
use Rattle.wg_trace.specs.declared.replies.FaultKind.{FaultKind}
use Rattle.wg_trace.specs.declared.replies.FaultKind.TheVariants as kind
use Rattle.wg_trace.specs.declared.replies.Filter.{Filter}
use Rattle.wg_trace.specs.declared.replies.First.{First}
use Rattle.wg_trace.specs.declared.replies.Scope.{Scope}
use Rattle.wg_trace.specs.declared.replies.Caught.{Caught}
use Rattle.wg_trace.specs.declared.replies.Caught.TheVariants.{Scope as CaughtBy, Uncaptured}
use Rattle.wg_model.specs.ErrorScopes.{catches, catcher_back, caught_by, deliver, kept_first, filled, caught_in}
use Rattle.wg_errors.specs.declared.Catchers.{Catchers}
use Rattle.wg_errors.specs.Catching.{filters, pick, top, within, told}

picked : (kind : FaultKind) (filter : Filter) (place : ℕ) (outer : Catchers) → pick (within filter place outer) kind ≡ (if catches filter kind then CaughtBy place else pick outer kind)
picked kind.Validation filter place outer = refl
picked kind.OutOfMemory filter place outer = refl

none_told : (kind : FaultKind) → pick (top []) kind ≡ Uncaptured
none_told kind.Validation = refl
none_told kind.OutOfMemory = refl

told_back : (back : List Scope) (kind : FaultKind) → pick (top (told (filters back))) kind ≡ caught_by (catcher_back back kind)
told_back [] kind = none_told kind
told_back (scope ∷ outer) kind = picked kind scope.filter (length (filters outer)) (top (told (filters outer))) ∙ by_test (catches scope.filter kind) (told_back outer kind)
  where
    by_test : (b : Bool) → pick (top (told (filters outer))) kind ≡ caught_by (catcher_back outer kind) → (if b then CaughtBy (length (filters outer)) else pick (top (told (filters outer))) kind) ≡ caught_by (if b then Some (length outer) else catcher_back outer kind)
    by_test true e = ap CaughtBy (length-map outer (λ (s : Scope). s.filter))
    by_test false e = e

-- where a fault goes
pub picks : (scopes : List Scope) (catchers : List Catchers) (kind : FaultKind) → reverse catchers ≡ told (filters (reverse scopes)) → pick (top (reverse catchers)) kind ≡ deliver scopes kind
picks scopes catchers kind e = ap (λ cs. pick (top cs) kind) e ∙ told_back (reverse scopes) kind

turned : (scopes : List Scope) → filters (reverse scopes) ≡ reverse (filters scopes)
turned [] = refl
turned (scope ∷ later) =
    ap filters (reverse-append (scope ∷ []) later) ∙ (map-append (λ (s : Scope). s.filter) (reverse later) (scope ∷ [])
    ∙ (ap (λ l. l ++ scope.filter ∷ []) (turned later) ∙ sym (reverse-append (scope.filter ∷ []) (filters later))))

found : (xs : List Scope) (i : ℕ) (x : Scope) → slice_get xs i ≡ Some x → x ≡ get_or xs i x
found [] i x e = absurd (cc e)
found (y ∷ ys) zero x e = let same : y ≡ x = cc e in sym same
found (y ∷ ys) (suc i) x e = found ys i x e

same_filters : (caught : Caught) (error : First) (scopes : List Scope) → filters (caught_in caught error scopes) ≡ filters scopes
same_filters Uncaptured error scopes = refl
same_filters (CaughtBy place) error scopes = by_scope (slice_get scopes place) refl
  where
    by_scope : (o : Option Scope) → slice_get scopes place ≡ o → filters (filled scopes place o error) ≡ filters scopes
    by_scope None e = refl
    by_scope (Some scope) e = map-set_same (λ (s : Scope). s.filter) scopes place (record scope { first = kept_first scope.first error }) scope (ap (λ (s : Scope). s.filter) (found scopes place scope e))

-- an error that a scope keeps
pub keeps : (caught : Caught) (error : First) (scopes : List Scope) (catchers : List Catchers) → reverse catchers ≡ told (filters (reverse scopes)) → reverse catchers ≡ told (filters (reverse (caught_in caught error scopes)))
keeps caught error scopes catchers e = e ∙ ap told (turned scopes ∙ (ap reverse (sym (same_filters caught error scopes)) ∙ sym (turned (caught_in caught error scopes))))
