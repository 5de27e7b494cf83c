-- What holds of the textures of canvases stays so as calls of canvases are made, where it holds of what the device makes for them.
use Rattle.std.proofs.Common.{◌≡◌, ℕ, zero, suc, Option, Some, None, List, [], ◌∷◌, ◌++◌, refl, sym, subst}
use Rattle.std.specs.Prelude.{All, option_and_then, option_map}
use Rattle.std.specs.Option.{option_map_or}
use Rattle.std.proofs.lemmas.List.Elements.{All-nil, All-cons, All-head, All-tail, All-append}
use Rattle.wg_types.specs.Handles.{HandleValue}
use Rattle.wg_types.specs.declared.canvases.CanvasCall.{CanvasCall}
use Rattle.wg_types.specs.declared.canvases.CanvasCall.TheVariants.{Configure, Current, Present}
use Rattle.wg_types.specs.declared.canvases.CanvasOf.{CanvasOf}
use Rattle.wg_types.specs.declared.canvases.CanvasOf.TheVariants.{Create, On}
use Rattle.wg_types.specs.declared.requests.RequestOf.TheVariants.{Destroy}
use Rattle.wg_types.specs.Commands.{Command, kind_begun}
use Rattle.wg_types.specs.declared.wanted.Kind.{Kind}
use Rattle.wg_encoder.specs.Recorders.{RecorderValue}
use Rattle.wg_canvas.specs.Canvases.{CanvasValue, texture_at, texture_of, act_asked, expired_at, filled_at, acted}
use Rattle.wg_canvas.specs.declared.canvas.Stage.{Stage}
use Rattle.wg_canvas.specs.declared.canvas.Stage.TheVariants.{Unset, Empty, Filled}
use Rattle.wg_play.specs.declared.objects.Object.{Object}
use Rattle.wg_play.specs.declared.objects.Object.TheVariants as object
use Rattle.wg_play.specs.declared.objects.Stand.{Stand}
use Rattle.wg_play.specs.Objects.{changed, with_recorder, recorded_by, recorded_on, passes_at, begun_by}
use Rattle.wg_play.specs.Sights.{Sight, place_in}
use Rattle.wg_play.specs.Canvases.{canvas_at, redrawn, canvas_asked, acted_at, shown_by, shown_at}
use Rattle.wg_play.specs.Lanes.{canvas_asks, new_canvas, drawn}
use Rattle.wg_play.specs.Kept.{EachHandle}
use Rattle.wg_play.proofs.Slots.{with_tail}
use Rattle.wg_play.proofs.Redrawn.{redrawn_tail}

pub drawn_first : (sight : Sight) (call : CanvasOf ℕ) (made : Option ℕ) (given : Option HandleValue) → (drawn sight call made given).first ≡ sight.first
drawn_first sight (Create width height) made given = refl
drawn_first sight (On canvas call) made given = refl

pub drawn_others : (sight : Sight) (call : CanvasOf ℕ) (made : Option ℕ) (given : Option HandleValue) → (drawn sight call made given).others ≡ sight.others
drawn_others sight (Create width height) made given = refl
drawn_others sight (On canvas call) made given = refl

pub all_front : (P : Object → Type 0) (xs ys : List Object) → All P (xs ++ ys) → All P xs
all_front P [] ys all = All-nil P
all_front P (x ∷ xs) ys all = All-cons P x xs (All-head P x (xs ++ ys) all) (all_front P xs ys (All-tail P x (xs ++ ys) all))

module _ (P : HandleValue → Type 0) (T : Option HandleValue → Type 0) (none : T None) where
  abbrev Has : List Object → Type 0
  Has objects = All (EachHandle P T) objects

  -- ---- a change of a recorder changes no handle

  changed_has : (change : RecorderValue → RecorderValue) (o : Object) → EachHandle P T o → EachHandle P T (changed o change)
  changed_has change (object.Made handle recorder) has = has
  changed_has change (object.Pass encoder number) has = tt
  changed_has change (object.Canvas canvas) has = has
  changed_has change (object.Shown texture) has = has

  pub recorder_has : (change : RecorderValue → RecorderValue) (objects : List Object) (place : ℕ) → Has objects → Has (with_recorder objects place change)
  recorder_has change [] place all = all
  recorder_has change (o ∷ os) zero all = All-cons (EachHandle P T) (changed o change) os (changed_has change o (All-head (EachHandle P T) o os all)) (All-tail (EachHandle P T) o os all)
  recorder_has change (o ∷ os) (suc place) all =
      subst Has (sym (with_tail o os place change))
      (All-cons (EachHandle P T) o (with_recorder os place change) (All-head (EachHandle P T) o os all) (recorder_has change os place (All-tail (EachHandle P T) o os all)))

  pass_has : (pass : Object) → EachHandle P T pass → (made : Option ℕ) (kind : Option Kind)
      → Has (option_map_or (λ (slot : ℕ). option_map_or (λ (k : Kind). pass ∷ []) kind []) made [])
  pass_has pass has None kind = All-nil (EachHandle P T)
  pass_has pass has (Some slot) None = All-nil (EachHandle P T)
  pass_has pass has (Some slot) (Some k) = All-cons (EachHandle P T) pass [] has (All-nil (EachHandle P T))

  pub noted_has : (objects : List Object) (stand : Stand) (command : Command) (made : Option ℕ) → Has objects → Has (recorded_on objects stand command ++ begun_by objects stand.encoder command made)
  noted_has objects stand command made all =
      All-append (EachHandle P T) (recorded_on objects stand command) (begun_by objects stand.encoder command made) (recorder_has (recorded_by stand.on command) objects stand.encoder all)
      (pass_has (object.Pass stand.encoder (passes_at objects stand.encoder)) tt made (kind_begun command))

  -- ---- a canvas

  expired_has : (stage : Stage) → T (texture_at (expired_at stage))
  expired_has Unset = none
  expired_has (Empty setting) = none
  expired_has (Filled setting texture) = none

  filled_has : (stage : Stage) (texture : HandleValue) → T (texture_at stage) → T (Some texture) → T (texture_at (filled_at stage texture))
  filled_has Unset texture old given = none
  filled_has (Empty setting) texture old given = given
  filled_has (Filled setting before) texture old given = old

  pub acted_has : (canvas : CanvasValue) (call : CanvasCall) (given : Option HandleValue) → T (texture_of canvas) → T given → T (texture_of (acted canvas call given))
  acted_has canvas (Configure format usage) given old new = none
  acted_has canvas Current None old new = old
  acted_has canvas Current (Some texture) old new = filled_has canvas.stage texture old new
  acted_has canvas Present given old new = expired_has canvas.stage

  -- ---- the objects

  redrawn_has : (call : CanvasCall) (given : Option HandleValue) (o : Object) → T given → EachHandle P T o → EachHandle P T (redrawn o (λ canvas. acted canvas call given))
  redrawn_has call given (object.Made handle recorder) new has = has
  redrawn_has call given (object.Pass encoder number) new has = tt
  redrawn_has call given (object.Canvas canvas) new has = acted_has canvas call given has new
  redrawn_has call given (object.Shown texture) new has = has

  acted_all : (call : CanvasCall) (given : Option HandleValue) (objects : List Object) (place : ℕ) → T given → Has objects → Has (acted_at objects place call given)
  acted_all call given [] place new all = all
  acted_all call given (o ∷ os) zero new all =
      All-cons (EachHandle P T) (redrawn o (λ canvas. acted canvas call given)) os (redrawn_has call given o new (All-head (EachHandle P T) o os all)) (All-tail (EachHandle P T) o os all)
  acted_all call given (o ∷ os) (suc place) new all =
      subst Has (sym (redrawn_tail (λ canvas. acted canvas call given) o os place))
      (All-cons (EachHandle P T) o (acted_at os place call given) (All-head (EachHandle P T) o os all) (acted_all call given os place new (All-tail (EachHandle P T) o os all)))

  pub canvas_has : (objects : List Object) (place : ℕ) → Has objects → T (option_and_then texture_of (canvas_at objects place))
  canvas_has [] place all = none
  canvas_has (object.Made handle recorder ∷ os) zero all = none
  canvas_has (object.Pass encoder number ∷ os) zero all = none
  canvas_has (object.Canvas canvas ∷ os) zero all = All-head (EachHandle P T) (object.Canvas canvas) os all
  canvas_has (object.Shown texture ∷ os) zero all = none
  canvas_has (o ∷ os) (suc place) all = canvas_has os place (All-tail (EachHandle P T) o os all)

  shown_has : (call : CanvasCall) (made : Option ℕ) (texture : Option HandleValue) → T texture → Has (shown_by call made texture)
  shown_has (Configure format usage) made texture has = All-nil (EachHandle P T)
  shown_has Current None texture has = All-nil (EachHandle P T)
  shown_has Current (Some slot) texture has = All-cons (EachHandle P T) (object.Shown texture) [] has (All-nil (EachHandle P T))
  shown_has Present made texture has = All-nil (EachHandle P T)

  new_has : (width height : ℕ) (made : Option ℕ) → Has (new_canvas width height made)
  new_has width height None = All-nil (EachHandle P T)
  new_has width height (Some slot) = All-cons (EachHandle P T) (object.Canvas (record { width = width; height = height; stage = Unset })) [] none (All-nil (EachHandle P T))

  -- what a lane has made, once a call of a canvas was kept or answered
  pub drawn_has : (sight : Sight) (call : CanvasOf ℕ) (made : Option ℕ) (given : Option HandleValue) → T given → Has sight.own → Has (drawn sight call made given).own
  drawn_has sight (Create width height) made given new all = All-append (EachHandle P T) sight.own (new_canvas width height made) all (new_has width height made)
  drawn_has sight (On canvas call) made given new all =
      let place : ℕ = place_in sight canvas in
      let after : Has (acted_at sight.own place call given) = acted_all call given sight.own place new all in
      All-append (EachHandle P T) (acted_at sight.own place call given) (shown_at (acted_at sight.own place call given) place call made) after
      (shown_has call made (option_and_then texture_of (canvas_at (acted_at sight.own place call given) place)) (canvas_has (acted_at sight.own place call given) place after))

  -- ---- and was so before one that asks nothing

  nothing_expires : (texture : Option HandleValue) → option_map Destroy texture ≡ None → T texture
  nothing_expires None e = none
  nothing_expires (Some texture) e = absurd (cc (e))

  acted_had : (canvas : CanvasValue) (call : CanvasCall) → act_asked canvas call ≡ None → T (texture_of (acted canvas call None)) → T (texture_of canvas)
  acted_had canvas (Configure format usage) asks new = nothing_expires (texture_of canvas) asks
  acted_had canvas Current asks new = new
  acted_had canvas Present asks new = nothing_expires (texture_of canvas) asks

  acted_before : (call : CanvasCall) (objects : List Object) (place : ℕ) → canvas_asked objects place call ≡ None → Has (acted_at objects place call None) → Has objects
  acted_before call [] place asks all = all
  acted_before call (object.Made handle recorder ∷ os) zero asks all = all
  acted_before call (object.Pass encoder number ∷ os) zero asks all = all
  acted_before call (object.Canvas canvas ∷ os) zero asks all =
      All-cons (EachHandle P T) (object.Canvas canvas) os (acted_had canvas call asks (All-head (EachHandle P T) (object.Canvas (acted canvas call None)) os all))
      (All-tail (EachHandle P T) (object.Canvas (acted canvas call None)) os all)
  acted_before call (object.Shown texture ∷ os) zero asks all = all
  acted_before call (o ∷ os) (suc place) asks all =
      let there : Has (o ∷ acted_at os place call None) = subst Has (redrawn_tail (λ canvas. acted canvas call None) o os place) all in
      All-cons (EachHandle P T) o os (All-head (EachHandle P T) o (acted_at os place call None) there) (acted_before call os place asks (All-tail (EachHandle P T) o (acted_at os place call None) there))

  pub drawn_had : (sight : Sight) (call : CanvasOf ℕ) (made : Option ℕ) → canvas_asks sight call ≡ None → Has (drawn sight call made None).own → Has sight.own
  drawn_had sight (Create width height) made asks all = all_front (EachHandle P T) sight.own (new_canvas width height made) all
  drawn_had sight (On canvas call) made asks all =
      let place : ℕ = place_in sight canvas in
      acted_before call sight.own place asks (all_front (EachHandle P T) (acted_at sight.own place call None) (shown_at (acted_at sight.own place call None) place call made) all)
