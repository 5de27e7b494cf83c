-- What stands at a slot after a change of one recorder, and once more objects were made.
use Rattle.std.proofs.Common.{◌≡◌, ℕ, zero, suc, Option, Some, None, List, [], ◌∷◌, ◌++◌, length, refl, sym, ap, subst, ◌∙◌, inl, inr}
use Rattle.std.specs.Prelude.{option_and_then, option_map, slice_get, slice_set}
use Rattle.std.specs.Option.{option_map_or}
use Rattle.std.proofs.lemmas.Bool.{cases_eq}
use Rattle.wg_types.specs.declared.commands.On.TheVariants.{Encoder, Pass}
use Rattle.wg_encoder.specs.Recorders.{RecorderValue}
use Rattle.wg_play.specs.declared.objects.Object.{Object}
use Rattle.wg_play.specs.declared.objects.Object.TheVariants as object
use Rattle.wg_play.specs.declared.objects.Stand.{Stand}
use Rattle.wg_play.specs.Objects.{changed, recorder_in, recorder_at, stand_in, stand_at, with_recorder}

-- ---- a change of one recorder

set_tail : (o : Object) (os : List Object) (slot : ℕ) (change : RecorderValue → RecorderValue) (found : Option Object)
    → option_map_or (λ x. slice_set (o ∷ os) (suc slot) (changed x change)) found (o ∷ os) ≡ o ∷ option_map_or (λ x. slice_set os slot (changed x change)) found os
set_tail o os slot change None = refl
set_tail o os slot change (Some x) = refl

pub with_tail : (o : Object) (os : List Object) (slot : ℕ) (change : RecorderValue → RecorderValue) → with_recorder (o ∷ os) (suc slot) change ≡ o ∷ with_recorder os slot change
with_tail o os slot change = set_tail o os slot change (slice_get os slot)

pub own_at : (change : RecorderValue → RecorderValue) (objects : List Object) (slot : ℕ) → slice_get (with_recorder objects slot change) slot ≡ option_map (λ x. changed x change) (slice_get objects slot)
own_at change [] slot = refl
own_at change (o ∷ os) zero = refl
own_at change (o ∷ os) (suc slot) = ap (λ xs. slice_get xs (suc slot)) (with_tail o os slot change) ∙ own_at change os slot

pub other_at : (change : RecorderValue → RecorderValue) (objects : List Object) (slot on : ℕ) → (slot ≡ on → ⊥) → slice_get (with_recorder objects slot change) on ≡ slice_get objects on
other_at change [] slot on differs = refl
other_at change (o ∷ os) zero zero differs = absurd (differs refl)
other_at change (o ∷ os) zero (suc on) differs = refl
other_at change (o ∷ os) (suc slot) zero differs = ap (λ xs. slice_get xs zero) (with_tail o os slot change)
other_at change (o ∷ os) (suc slot) (suc on) differs = ap (λ xs. slice_get xs (suc on)) (with_tail o os slot change) ∙ other_at change os slot on (λ e. differs (ap (λ n. suc n) e))

recorder_changed : (change : RecorderValue → RecorderValue) (found : Option Object) → option_and_then recorder_in (option_map (λ x. changed x change) found) ≡ option_map change (option_and_then recorder_in found)
recorder_changed change None = refl
recorder_changed change (Some (object.Made handle recorder)) = refl
recorder_changed change (Some (object.Pass encoder number)) = refl
recorder_changed change (Some (object.Canvas canvas)) = refl
recorder_changed change (Some (object.Shown texture)) = refl

pub own_recorder : (change : RecorderValue → RecorderValue) (objects : List Object) (slot : ℕ) → recorder_at (with_recorder objects slot change) slot ≡ option_map change (recorder_at objects slot)
own_recorder change objects slot = ap (λ found. option_and_then recorder_in found) (own_at change objects slot) ∙ recorder_changed change (slice_get objects slot)

pub other_recorder : (change : RecorderValue → RecorderValue) (objects : List Object) (slot on : ℕ) → (slot ≡ on → ⊥) → recorder_at (with_recorder objects slot change) on ≡ recorder_at objects on
other_recorder change objects slot on differs = ap (λ found. option_and_then recorder_in found) (other_at change objects slot on differs)

pass_changed : (change : RecorderValue → RecorderValue) (found : Option Object) (encoder number : ℕ) → found ≡ Some (object.Pass encoder number) → option_map (λ x. changed x change) found ≡ Some (object.Pass encoder number)
pass_changed change found encoder number e = ap (λ x. option_map (λ y. changed y change) x) e

-- a change of a recorder changes no pass
pub pass_with : (change : RecorderValue → RecorderValue) (objects : List Object) (slot on encoder number : ℕ)
    → slice_get objects on ≡ Some (object.Pass encoder number) → slice_get (with_recorder objects slot change) on ≡ Some (object.Pass encoder number)
pass_with change objects slot on encoder number e = elim (cases_eq slot on) [
  | inl same ↦ subst (λ n. slice_get (with_recorder objects n change) on ≡ Some (object.Pass encoder number)) (sym same)
      (own_at change objects on ∙ pass_changed change (slice_get objects on) encoder number e)
  | inr differs ↦ other_at change objects slot on differs ∙ e
]

pub length_with : (change : RecorderValue → RecorderValue) (objects : List Object) (slot : ℕ) → length (with_recorder objects slot change) ≡ length objects
length_with change [] slot = refl
length_with change (o ∷ os) zero = refl
length_with change (o ∷ os) (suc slot) = ap length (with_tail o os slot change) ∙ ap (λ n. suc n) (length_with change os slot)

-- ---- more objects

pub at_append : (objects more : List Object) (on : ℕ) (o : Object) → slice_get objects on ≡ Some o → slice_get (objects ++ more) on ≡ Some o
at_append [] more on o e = absurd (cc)
at_append (x ∷ os) more zero o e = e
at_append (x ∷ os) more (suc on) o e = at_append os more on o e

pub recorder_append : (objects more : List Object) (on : ℕ) (r : RecorderValue) → recorder_at objects on ≡ Some r → recorder_at (objects ++ more) on ≡ Some r
recorder_append [] more on r e = absurd (cc)
recorder_append (x ∷ os) more zero r e = e
recorder_append (x ∷ os) more (suc on) r e = recorder_append os more on r e

pub at_new : (objects : List Object) (o : Object) → slice_get (objects ++ o ∷ []) (length objects) ≡ Some o
at_new [] o = refl
at_new (x ∷ objects) o = at_new objects o

pub recorder_new : (objects : List Object) (o : Object) → recorder_at (objects ++ o ∷ []) (length objects) ≡ recorder_in o
recorder_new objects o = ap (λ found. option_and_then recorder_in found) (at_new objects o)

-- ---- where a recording call stands

stand_found : (found : Option Object) (slot : ℕ) (r : RecorderValue) → option_and_then recorder_in found ≡ Some r
    → ◌≡◌ {A = Stand} (option_map_or (stand_in slot) found (record { encoder = slot; on = Encoder })) (record { encoder = slot; on = Encoder })
stand_found None slot r e = absurd (cc)
stand_found (Some (object.Made handle recorder)) slot r e = refl
stand_found (Some (object.Pass encoder number)) slot r e = absurd (cc)
stand_found (Some (object.Canvas canvas)) slot r e = absurd (cc)
stand_found (Some (object.Shown texture)) slot r e = absurd (cc)

pub stand_encoder : (objects : List Object) (slot : ℕ) (r : RecorderValue) → recorder_at objects slot ≡ Some r → stand_at objects slot ≡ record { encoder = slot; on = Encoder }
stand_encoder objects slot r e = stand_found (slice_get objects slot) slot r e

pub stand_pass : (objects : List Object) (slot encoder number : ℕ) → slice_get objects slot ≡ Some (object.Pass encoder number)
    → stand_at objects slot ≡ record { encoder = encoder; on = Pass number }
stand_pass objects slot encoder number e = ap (λ found. option_map_or (stand_in slot) found (record { encoder = slot; on = Encoder })) e
