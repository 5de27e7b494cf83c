-- What stands at a place after a change of one canvas.
use Rattle.std.proofs.Common.{◌≡◌, ◌≢◌, ℕ, zero, suc, Option, Some, None, List, [], ◌∷◌, ◌++◌, length, refl, ap, ◌∙◌}
use Rattle.std.specs.Prelude.{option_and_then, option_map, slice_get, slice_set}
use Rattle.std.specs.Option.{option_map_or}
use Rattle.wg_types.specs.Handles.{HandleValue}
use Rattle.wg_types.specs.declared.canvases.CanvasFormat.{CanvasFormat}
use Rattle.wg_types.specs.declared.canvases.CanvasCall.{CanvasCall}
use Rattle.wg_types.specs.declared.canvases.CanvasCall.TheVariants.{Configure, Current, Present}
use Rattle.wg_canvas.specs.Canvases.{CanvasValue, expired_at, filled_at, acted}
use Rattle.wg_canvas.specs.declared.canvas.Stage.{Stage}
use Rattle.wg_canvas.specs.declared.canvas.Stage.TheVariants.{Unset, Empty, Filled}
use Rattle.wg_encoder.specs.Recorders.{RecorderValue}
use Rattle.wg_play.specs.declared.objects.Object.{Object}
use Rattle.wg_play.specs.declared.objects.Object.TheVariants as object
use Rattle.wg_play.specs.Canvases.{canvas_in, canvas_at, redrawn, with_canvas}
use Rattle.wg_play.specs.Objects.{handle_in, changed, recorder_in, recorder_at, with_recorder}
use Rattle.wg_play.proofs.Slots.{with_tail}

-- ---- a change of one canvas

set_tail : (change : CanvasValue → CanvasValue) (o : Object) (os : List Object) (slot : ℕ) (found : Option Object)
    → option_map_or (λ x. slice_set (o ∷ os) (suc slot) (redrawn x change)) found (o ∷ os) ≡ o ∷ option_map_or (λ x. slice_set os slot (redrawn x change)) found os
set_tail change o os slot None = refl
set_tail change o os slot (Some x) = refl

pub redrawn_tail : (change : CanvasValue → CanvasValue) (o : Object) (os : List Object) (slot : ℕ) → with_canvas (o ∷ os) (suc slot) change ≡ o ∷ with_canvas os slot change
redrawn_tail change o os slot = set_tail change o os slot (slice_get os slot)

pub redrawn_own : (change : CanvasValue → CanvasValue) (objects : List Object) (slot : ℕ) → slice_get (with_canvas objects slot change) slot ≡ option_map (λ x. redrawn x change) (slice_get objects slot)
redrawn_own change [] slot = refl
redrawn_own change (o ∷ os) zero = refl
redrawn_own change (o ∷ os) (suc slot) = ap (λ xs. slice_get xs (suc slot)) (redrawn_tail change o os slot) ∙ redrawn_own change os slot

pub redrawn_other : (change : CanvasValue → CanvasValue) (objects : List Object) (slot on : ℕ) → (slot ≡ on → ⊥) → slice_get (with_canvas objects slot change) on ≡ slice_get objects on
redrawn_other change [] slot on differs = refl
redrawn_other change (o ∷ os) zero zero differs = absurd (differs refl)
redrawn_other change (o ∷ os) zero (suc on) differs = refl
redrawn_other change (o ∷ os) (suc slot) zero differs = ap (λ xs. slice_get xs zero) (redrawn_tail change o os slot)
redrawn_other change (o ∷ os) (suc slot) (suc on) differs =
    ap (λ xs. slice_get xs (suc on)) (redrawn_tail change o os slot) ∙ redrawn_other change os slot on (λ e. differs (ap (λ n. suc n) e))

pub redrawn_length : (change : CanvasValue → CanvasValue) (objects : List Object) (slot : ℕ) → length (with_canvas objects slot change) ≡ length objects
redrawn_length change [] slot = refl
redrawn_length change (o ∷ os) zero = refl
redrawn_length change (o ∷ os) (suc slot) = ap length (redrawn_tail change o os slot) ∙ ap (λ n. suc n) (redrawn_length change os slot)

-- it changes no recorder, no pass and no handle

recorder_redrawn : (change : CanvasValue → CanvasValue) (x : Object) → recorder_in (redrawn x change) ≡ recorder_in x
recorder_redrawn change (object.Made handle recorder) = refl
recorder_redrawn change (object.Pass encoder number) = refl
recorder_redrawn change (object.Canvas canvas) = refl
recorder_redrawn change (object.Shown texture) = refl

pub redrawn_recorder : (change : CanvasValue → CanvasValue) (objects : List Object) (slot on : ℕ) → recorder_at (with_canvas objects slot change) on ≡ recorder_at objects on
redrawn_recorder change [] slot on = refl
redrawn_recorder change (o ∷ os) zero zero = recorder_redrawn change o
redrawn_recorder change (o ∷ os) zero (suc on) = refl
redrawn_recorder change (o ∷ os) (suc slot) zero = ap (λ xs. recorder_at xs zero) (redrawn_tail change o os slot)
redrawn_recorder change (o ∷ os) (suc slot) (suc on) = ap (λ xs. recorder_at xs (suc on)) (redrawn_tail change o os slot) ∙ redrawn_recorder change os slot on

pass_redrawn : (change : CanvasValue → CanvasValue) (x : Object) (encoder number : ℕ) → x ≡ object.Pass encoder number → redrawn x change ≡ object.Pass encoder number
pass_redrawn change x encoder number e = ap (λ y. redrawn y change) e

pub redrawn_pass : (change : CanvasValue → CanvasValue) (objects : List Object) (slot on encoder number : ℕ)
    → slice_get objects on ≡ Some (object.Pass encoder number) → slice_get (with_canvas objects slot change) on ≡ Some (object.Pass encoder number)
redrawn_pass change [] slot on encoder number e = e
redrawn_pass change (o ∷ os) zero zero encoder number e =
    let same : o ≡ object.Pass encoder number = cc (e) in
    ap (λ (x : Object). Some x) (pass_redrawn change o encoder number same)
redrawn_pass change (o ∷ os) zero (suc on) encoder number e = e
redrawn_pass change (o ∷ os) (suc slot) zero encoder number e = ap (λ xs. slice_get xs zero) (redrawn_tail change o os slot) ∙ e
redrawn_pass change (o ∷ os) (suc slot) (suc on) encoder number e =
    ap (λ xs. slice_get xs (suc on)) (redrawn_tail change o os slot) ∙ redrawn_pass change os slot on encoder number e

pub redrawn_handle : (change : CanvasValue → CanvasValue) (x : Object) → handle_in (redrawn x change) ≡ handle_in x
redrawn_handle change (object.Made handle recorder) = refl
redrawn_handle change (object.Pass encoder number) = refl
redrawn_handle change (object.Canvas canvas) = refl
redrawn_handle change (object.Shown texture) = refl

-- ---- the canvas at a place

canvas_redrawn : (change : CanvasValue → CanvasValue) (found : Option Object) → option_and_then canvas_in (option_map (λ x. redrawn x change) found) ≡ option_map change (option_and_then canvas_in found)
canvas_redrawn change None = refl
canvas_redrawn change (Some (object.Made handle recorder)) = refl
canvas_redrawn change (Some (object.Pass encoder number)) = refl
canvas_redrawn change (Some (object.Canvas canvas)) = refl
canvas_redrawn change (Some (object.Shown texture)) = refl

pub own_canvas : (change : CanvasValue → CanvasValue) (objects : List Object) (slot : ℕ) → canvas_at (with_canvas objects slot change) slot ≡ option_map change (canvas_at objects slot)
own_canvas change objects slot = ap (λ found. option_and_then canvas_in found) (redrawn_own change objects slot) ∙ canvas_redrawn change (slice_get objects slot)

pub other_canvas : (change : CanvasValue → CanvasValue) (objects : List Object) (slot on : ℕ) → (slot ≡ on → ⊥) → canvas_at (with_canvas objects slot change) on ≡ canvas_at objects on
other_canvas change objects slot on differs = ap (λ found. option_and_then canvas_in found) (redrawn_other change objects slot on differs)

pub canvas_append : (objects more : List Object) (on : ℕ) (canvas : CanvasValue) → canvas_at objects on ≡ Some canvas → canvas_at (objects ++ more) on ≡ Some canvas
canvas_append [] more on canvas e = absurd (cc (e))
canvas_append (x ∷ os) more zero canvas e = e
canvas_append (x ∷ os) more (suc on) canvas e = canvas_append os more on canvas e

-- a change of a recorder changes no canvas

canvas_changed : (change : RecorderValue → RecorderValue) (x : Object) → canvas_in (changed x change) ≡ canvas_in x
canvas_changed change (object.Made handle recorder) = refl
canvas_changed change (object.Pass encoder number) = refl
canvas_changed change (object.Canvas canvas) = refl
canvas_changed change (object.Shown texture) = refl

pub recorder_canvas : (change : RecorderValue → RecorderValue) (objects : List Object) (slot on : ℕ) → canvas_at (with_recorder objects slot change) on ≡ canvas_at objects on
recorder_canvas change [] slot on = refl
recorder_canvas change (o ∷ os) zero zero = canvas_changed change o
recorder_canvas change (o ∷ os) zero (suc on) = refl
recorder_canvas change (o ∷ os) (suc slot) zero = ap (λ xs. canvas_at xs zero) (with_tail o os slot change)
recorder_canvas change (o ∷ os) (suc slot) (suc on) = ap (λ xs. canvas_at xs (suc on)) (with_tail o os slot change) ∙ recorder_canvas change os slot on

-- ---- a canvas that is configured stays so

filled_set : (stage : Stage) (texture : HandleValue) → stage ≢ Unset → filled_at stage texture ≢ Unset
filled_set Unset texture set e = set refl
filled_set (Empty setting) texture set e = cc (e)
filled_set (Filled setting old) texture set e = cc (e)

expired_set : (stage : Stage) → stage ≢ Unset → expired_at stage ≢ Unset
expired_set Unset set e = set refl
expired_set (Empty setting) set e = cc (e)
expired_set (Filled setting texture) set e = cc (e)

pub acted_set : (canvas : CanvasValue) (call : CanvasCall) (given : Option HandleValue) → canvas.stage ≢ Unset → (acted canvas call given).stage ≢ Unset
acted_set canvas (Configure format usage) given set e = cc (e)
acted_set canvas Current None set e = set e
acted_set canvas Current (Some texture) set e = filled_set canvas.stage texture set e
acted_set canvas Present given set e = expired_set canvas.stage set e

pub configured_set : (canvas : CanvasValue) (format : CanvasFormat) (usage : ℕ) (given : Option HandleValue) → (acted canvas (Configure format usage) given).stage ≢ Unset
configured_set canvas format usage given e = cc (e)
