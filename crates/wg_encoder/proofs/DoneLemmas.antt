-- What is done after one more command.
use Rattle.std.proofs.Common.{◌≡◌, List, [], ◌∷◌, ◌++◌, map, Option, Some, None, refl, ap, ap₂, sym, ◌∙◌, append-nil}
use Rattle.std.specs.Option.{option_to_list, option_or}
use Rattle.wg_trace.specs.declared.steps.Deed.{Deed}
use Rattle.wg_trace.specs.declared.parts.Part.{Part}
use Rattle.wg_model.specs.Touches.{Doing, scope_in, deed_of}
use Rattle.wg_model.specs.Scopes.{Use, clash, first_clash}
use Rattle.wg_encoder.specs.declared.done.Done.{Done}
use Rattle.wg_encoder.specs.Done.{done_by_encoder, done_by_pass}

or_assoc : {X : Type 0} (a b c : Option X) → option_or (option_or a b) c ≡ option_or a (option_or b c)
or_assoc None b c = refl
or_assoc (Some x) b c = refl

pub or_none : {X : Type 0} (a : Option X) → option_or a None ≡ a
or_none None = refl
or_none (Some x) = refl

first_clash-append : (xs ys : List (List Use)) → first_clash (xs ++ ys) ≡ option_or (first_clash xs) (first_clash ys)
first_clash-append [] ys = refl
first_clash-append (x ∷ xs) ys = ap (λ r. option_or (clash x) r) (first_clash-append xs ys) ∙ sym (or_assoc (clash x) (first_clash xs) (first_clash ys))

map-append : {X Y : Type 0} (f : X → Y) (xs ys : List X) → map f (xs ++ ys) ≡ map f xs ++ map f ys
map-append f [] ys = refl
map-append f (x ∷ xs) ys = ap (λ zs. f x ∷ zs) (map-append f xs ys)

abbrev done_with : Option Part → List Deed → Done
done_with c d = record { clash = c; deeds = d }

-- a command that does nothing, and one on the encoder or of a pass that does something
pub after_nothing : (scopes : List (List Use)) (done : List Doing) → record { clash = first_clash (scopes ++ []); deeds = map deed_of (done ++ []) } ≡ done_with (first_clash scopes) (map deed_of done)
after_nothing scopes done = ap₂ done_with (ap first_clash (append-nil scopes)) (ap (map deed_of) (append-nil done))

pub after_encoder : (scopes : List (List Use)) (done : List Doing) (doing : Option Doing) → done_with (first_clash (scopes ++ [])) (map deed_of (done ++ option_to_list doing)) ≡ done_by_encoder (done_with (first_clash scopes) (map deed_of done)) doing
after_encoder scopes done None = after_nothing scopes done
after_encoder scopes done (Some doing) = ap₂ done_with (ap first_clash (append-nil scopes)) (map-append deed_of done (doing ∷ []))

pub after_pass : (scopes : List (List Use)) (done : List Doing) (doing : Option Doing) → done_with (first_clash (scopes ++ map scope_in (option_to_list doing))) (map deed_of (done ++ option_to_list doing)) ≡ done_by_pass (done_with (first_clash scopes) (map deed_of done)) doing
after_pass scopes done None = after_nothing scopes done
after_pass scopes done (Some doing) = ap₂ done_with (first_clash-append scopes (scope_in doing ∷ []) ∙ ap (option_or (first_clash scopes)) (or_none (clash (scope_in doing)))) (map-append deed_of done (doing ∷ []))
