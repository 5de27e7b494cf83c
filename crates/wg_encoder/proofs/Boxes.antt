-- A box with what it had is the box that it was.
use Rattle.std.proofs.Common.{◌≡◌, Result, Ok, Err, Option, Some, ap, ap₂, sym, ◌∙◌, OnErr}
use Rattle.std.specs.Box.{with_value}
use Rattle.std.specs.Global.{Global}
use Rattle.std.specs.declared.boxed.Box.{Box}
use Rattle.wg_encoder.specs.declared.bundle.BundleState.{BundleState}
use Rattle.wg_encoder.specs.declared.done.Done.{Done}
use Rattle.wg_encoder.specs.declared.known.RecorderState.{RecorderState}
use Rattle.wg_encoder.specs.declared.known.RecorderState.TheVariants.{Bundle}
use Rattle.wg_encoder.specs.declared.walk.Opened.{Opened}
use Rattle.wg_encoder.specs.declared.walk.Walk.{Walk}

-- where there is an error at all times, there is one with a result
refused_so : {A E : Type 0} (result : Result A E) (P : Type 0) → P → OnErr result P
refused_so (Ok a) P p = tt
refused_so (Err e) P p = p

refused_one : {A E : Type 0} (result : Result A E) (P Q : Type 0) → (P → Q) → OnErr result P → OnErr result Q
refused_one (Ok a) P Q f p = tt
refused_one (Err e) P Q f p = f p

-- a walk whose open pass took nothing
pub same_walk : {A E : Type 0} (result : Result A E) (walk : Walk) (old : Box Opened Global) (new : Opened) (done : Done) → walk.opened ≡ Some old → new ≡ old.value → done ≡ walk.done → OnErr result (record walk { opened = Some (with_value old new); done = done } ≡ walk)
same_walk result walk old new done e n d = refused_so result _ (ap₂ (λ (o : Option (Box Opened Global)) (made : Done). record walk { opened = o; done = made }) (ap (λ v. Some (with_value old v)) n ∙ sym e) d)

-- what is known of a bundle encoder that took nothing
pub same_bundle : {A E : Type 0} (result : Result A E) (known : RecorderState) (old : Box BundleState Global) (new state : BundleState) → known ≡ Bundle old → state ≡ old.value → OnErr result (new ≡ state) → OnErr result (Bundle (with_value old new) ≡ known)
same_bundle result known old new state e v same = refused_one result (new ≡ state) (Bundle (with_value old new) ≡ known) (λ h. ap (λ s. Bundle (with_value old s)) (h ∙ v) ∙ sym e) same
