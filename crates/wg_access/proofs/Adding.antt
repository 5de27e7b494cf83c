-- The usage scope of a step of a pass.
use Rattle.std.proofs.Common.{◌≡◌, List, [], ◌∷◌, map, Bool, true, false, ◌&&◌, if◌then◌else◌, true≢false, refl, ap, sym, ◌∙◌}
use Rattle.std.specs.List.{filter, list_all}
use Rattle.wg_trace.specs.declared.steps.StepName.{StepName}
use Rattle.wg_trace.specs.declared.steps.Deed.{Deed}
use Rattle.wg_rows.specs.Sets.{sets}
use Rattle.wg_model.specs.Touches.{Touch, use_of, in_scope, scope_in, deed_of}
use Rattle.wg_model.specs.Scopes.{clash, clash_in}

-- where usage scopes have the parts of all touches, none is left out
none_left_out : (touches : List Touch) → list_all in_scope touches ≡ true → filter in_scope touches ≡ touches
none_left_out [] all = refl
none_left_out (touch ∷ touches) all = by_test (in_scope touch) (none_left_out touches) all
  where
    by_test : (b : Bool) → (list_all in_scope touches ≡ true → filter in_scope touches ≡ touches) → (b && list_all in_scope touches) ≡ true
        → (if b then touch ∷ filter in_scope touches else filter in_scope touches) ≡ touch ∷ touches
    by_test true rest all = ap (λ ts. touch ∷ ts) (rest all)
    by_test false rest all = absurd (true≢false (sym all))

-- the scope of touches clashes where their sets do
some_clash : (name : StepName) (touches : List Touch) → clash_in (sets (map use_of (filter in_scope touches))) ≡ clash (scope_in (name, touches))
unfolding clash
some_clash name touches = refl

-- the printed uses of a step that touches these are the sets of all
printed_uses : (name : StepName) (touches : List Touch) → (deed_of (name, touches)).uses ≡ sets (map use_of touches)
unfolding deed_of
printed_uses name touches = refl

-- where none is left out these are the step's own uses
pub all_clash : (deed : Deed) (name : StepName) (touches : List Touch) → deed ≡ deed_of (name, touches) → list_all in_scope touches ≡ true → clash_in deed.uses ≡ clash (scope_in (name, touches))
all_clash deed name touches e all =
    ap clash_in (ap (λ (d : Deed). d.uses) e ∙ (printed_uses name touches ∙ ap (λ ts. sets (map use_of ts)) (sym (none_left_out touches all))))
    ∙ some_clash name touches
