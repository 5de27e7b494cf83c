-- What stands at the places of a lane stays of its kind, and what a call makes is of the kind that it makes.
use Rattle.std.proofs.Common.{◌≡◌, ◌≢◌, ℕ, ◌+◌, ◌-◌, Bool, true, false, Option, Some, None, List, [], ◌∷◌, ◌++◌, length, map, refl, sym, ap, subst, ◌∙◌, inl, inr, arith, append_assoc, if◌then◌else◌}
use Rattle.std.specs.Prelude.{All, Contains, is_some, option_map, option_and_then, slice_get}
use Rattle.std.specs.Option.{option_map_or}
use Rattle.std.proofs.lemmas.Bool.{cases_eq}
use Rattle.std.proofs.lemmas.List.{append-nil, length-append}
use Rattle.std.proofs.lemmas.List.Elements.{All-head, All-tail, Contains-append_cases, Contains-push_cases}
use Rattle.wg_types.specs.Handles.{HandleValue}
use Rattle.wg_types.specs.Kinds.{kind_of}
use Rattle.wg_types.specs.Canvases.{named as canvas_named}
use Rattle.wg_types.specs.declared.limits.Limits.{Limits}
use Rattle.wg_types.specs.declared.canvases.CanvasFormat.{CanvasFormat}
use Rattle.wg_types.specs.declared.canvases.CanvasCall.{CanvasCall}
use Rattle.wg_types.specs.declared.canvases.CanvasCall.TheVariants.{Configure, Current, Present}
use Rattle.wg_types.specs.declared.canvases.CanvasOf.{CanvasOf}
use Rattle.wg_types.specs.declared.canvases.CanvasOf.TheVariants.{Create, On as OnCanvas}
use Rattle.wg_types.specs.Commands.{Command, bracket, kind_begun_by, kind_begun}
use Rattle.wg_types.specs.declared.commands.Bracket.{Bracket}
use Rattle.wg_types.specs.declared.commands.Bracket.TheVariants as brackets
use Rattle.wg_types.specs.declared.commands.On.{On}
use Rattle.wg_types.specs.declared.handles.Info.{Info}
use Rattle.wg_types.specs.declared.handles.Info.TheVariants as info
use Rattle.wg_trace.specs.declared.replies.Answer.{Answer}
use Rattle.wg_trace.specs.declared.replies.Answer.TheVariants.{Made, Queued, Promised, Plain, BadCompletion}
use Rattle.wg_types.specs.declared.requests.RequestOf.TheVariants.{Destroy}
use Rattle.wg_types.specs.declared.textures.TextureInfo.{TextureInfo}
use Rattle.wg_types.specs.declared.wanted.Wanted.TheVariants as wanted
use Rattle.wg_types.specs.declared.wanted.Kind.{Kind}
use Rattle.wg_types.specs.declared.wanted.Kind.TheVariants as kinds
use Rattle.wg_types.specs.declared.render.TargetInfo.{TargetInfo}
use Rattle.wg_canvas.specs.Canvases.{CanvasValue, HasTexture, texture_at, texture_of, texture_asked, asked_at as stage_asked, act_asked, info_of, filled_at, filled_if, acted}
use Rattle.wg_canvas.specs.declared.canvas.Setting.{Setting}
use Rattle.wg_canvas.specs.declared.canvas.Stage.{Stage}
use Rattle.wg_canvas.specs.declared.canvas.Stage.TheVariants.{Unset, Empty, Filled}
use Rattle.wg_encoder.specs.Recorders.{RecorderValue, recorded, targets_left}
use Rattle.wg_history.specs.declared.events.Setup.{Setup}
use Rattle.wg_calls.specs.Calls.{handle_of, taken_out}
use Rattle.wg_script.specs.CallOf.{BoundCall}
use Rattle.wg_script.specs.declared.calls.CallOf.TheVariants.{Record, Ask, Canvas}
use Rattle.wg_names.specs.Uses.{made_of}
use Rattle.wg_names.specs.Bound.{made_by, made_in, IsFound, CallIsBound, LaneIsBound, configured_in, configured_by, IsConfigured, CanvasIsSet, CallIsSet, LaneIsSet}
use Rattle.wg_play.specs.declared.objects.Object.{Object}
use Rattle.wg_play.specs.declared.objects.Object.TheVariants as object
use Rattle.wg_play.specs.declared.objects.Stand.{Stand}
use Rattle.wg_play.specs.Canvases.{canvas_in, canvas_at, redrawn, canvas_asked, given_by, acted_at, shown_at}
use Rattle.wg_calls.specs.Encoders.{is_begun, ended_by}
use Rattle.wg_play.specs.Objects.{changed, with_recorder, recorded_by, recorded_on, passes_at, begun_by, object_of}
use Rattle.wg_play.specs.Sights.{Sight, place_in, handle_in_sight}
use Rattle.wg_play.specs.Lanes.{canvas_asks, new_canvas, drawn, command_seen, stand_seen, handle_kept}
use Rattle.wg_play.specs.Late.{Answered, is_made, IsAnswerTo, IsAnsweredCall, after_call, after_calls}
use Rattle.wg_play.specs.Found.{is_pass, has_recorder, recorder_kind, IsShown, IsOf, StandsAt, IsSeenSet, CanvasIsSeen}
use Rattle.wg_play.proofs.Slots.{own_at, other_at, at_append, at_new, length_with}
use Rattle.wg_play.proofs.Redrawn.{redrawn_own, redrawn_other, redrawn_length, own_canvas, other_canvas, canvas_append, recorder_canvas, acted_set, configured_set}
use Rattle.wg_play.proofs.Drawn.{acted_has}
use Rattle.wg_play.proofs.Following.{ended_on, with_kept, after_record, after_ask, after_canvas, same_first, FitsSlot, handle_fits, MakesAs, same_kind, handle_kind}
use Rattle.wg_play.proofs.Lateness.{ended_length}
use Rattle.wg_play.proofs.Making.{call_length, begun_mapped, opens}
use Rattle.wg_play.proofs.Places.{is_canvas}
use Rattle.wg_play.proofs.Sending.{CanvasSeen, makes_as}
use Rattle.wg_play.proofs.Numbered.{all_configured, only, Slots, AreFrom, slots_of, first_from, from_back, made_more}

-- ---- a change of a recorder

-- it stays open for its encoder, and of its kind
abbrev StaysOpen : (RecorderValue → RecorderValue) → Type 0
StaysOpen change = (r : RecorderValue) → ((change r).encoder ≡ r.encoder) × (recorder_kind (change r) ≡ recorder_kind r)

of_changed : (change : RecorderValue → RecorderValue) → StaysOpen change → (k : Kind) (x : Object) → IsOf k x → IsOf k (changed x change)
of_changed change stays k (object.Pass encoder number) of = of
of_changed change stays k (object.Canvas canvas) of = of
of_changed change stays k (object.Shown texture) of = of
of_changed change stays k (object.Made handle found) of = (
  of.0,
  λ p. let was = of.1 p in record {
    is_open = record {
      recorder = change was.is_open.recorder;
      is = ap (option_map change) was.is_open.is;
      open_for = (stays was.is_open.recorder).0 ∙ was.is_open.open_for;
    };
    kind_is = (stays was.is_open.recorder).1 ∙ was.kind_is;
  },
)

stands_changed : (change : RecorderValue → RecorderValue) → StaysOpen change → (objects : List Object) (at place : ℕ) (k : Kind) → StandsAt objects place k → StandsAt (with_recorder objects at change) place k
stands_changed change stays objects at place k was = elim (cases_eq at place) [
  | inl same ↦ subst (λ n. StandsAt (with_recorder objects n change) place k) (sym same) (record {
    what = changed was.what change;
    is = own_at change objects place ∙ ap (option_map (λ (x : Object). changed x change)) was.is;
    of = of_changed change stays k was.what was.of;
  })
  | inr differs ↦ record { what = was.what; is = other_at change objects at place differs ∙ was.is; of = was.of }
]

pub stands_append : (objects more : List Object) (place : ℕ) (k : Kind) → StandsAt objects place k → StandsAt (objects ++ more) place k
stands_append objects more place k was = record { what = was.what; is = at_append objects more place was.what was.is; of = was.of }

recorded_open : (on : On) (command : Command) (b : Bool) (r : RecorderValue)
    → ((if b then recorded r on command else r).encoder ≡ r.encoder) × (recorder_kind (if b then recorded r on command else r) ≡ recorder_kind r)
recorded_open on command true r = (refl, refl)
recorded_open on command false r = (refl, refl)

left_kind : (targets : Option TargetInfo) → is_some (targets_left targets) ≡ is_some targets
left_kind None = refl
left_kind (Some targets) = refl

taken_open : StaysOpen taken_out
taken_open r = (refl, ap (λ (b : Bool). if b then kinds.BundleEncoder else kinds.Encoder) (left_kind r.targets))

recorded_stands : (objects : List Object) (stand : Stand) (command : Command) (place : ℕ) (k : Kind) → StandsAt objects place k → StandsAt (recorded_on objects stand command) place k
recorded_stands objects stand command place k was = stands_changed (recorded_by stand.on command) (λ r. recorded_open stand.on command (is_begun stand.on r.passes) r) objects stand.encoder place k was

ended_stands : (sight : Sight) (ended : Option ℕ) (place : ℕ) (k : Kind) → StandsAt sight.own place k → StandsAt (ended_on sight ended) place k
ended_stands sight None place k was = was
ended_stands sight (Some encoder) place k was = stands_changed taken_out taken_open sight.own (place_in sight encoder) place k was

kept_stands : (limits : Limits) (objects : List Object) (handle : Option HandleValue) (place : ℕ) (k : Kind) → StandsAt objects place k → StandsAt (with_kept limits objects handle) place k
kept_stands limits objects None place k was = was
kept_stands limits objects (Some handle) place k was = stands_append objects (object_of limits handle ∷ []) place k was

-- ---- a change of a canvas

-- a texture, if there is one
abbrev pub IsTexture : Option HandleValue → Type 0
IsTexture None = Unit {0}
IsTexture (Some texture) = kind_of texture.info ≡ kinds.Texture

texture_had : (stage : Stage) → HasTexture stage → IsTexture (texture_at stage)
texture_had Unset has = tt
texture_had (Empty setting) has = tt
texture_had (Filled setting texture) has = has

had_texture : (stage : Stage) → IsTexture (texture_at stage) → HasTexture stage
had_texture Unset has = tt
had_texture (Empty setting) has = tt
had_texture (Filled setting texture) has = has

-- What the device makes for a canvas is a texture.

handle_is : (setup : Setup) (known : TextureInfo) (answer : Answer) → IsTexture (handle_of setup.serial (info.Texture known) answer)
handle_is setup known (Made number valid) = refl
handle_is setup known (Queued op) = tt
handle_is setup known Promised = tt
handle_is setup known Plain = tt
handle_is setup known BadCompletion = tt

expiry_gives : (setup : Setup) (texture : Option HandleValue) (answer : Answer) → IsTexture (given_by setup (option_map Destroy texture) answer)
expiry_gives setup None answer = tt
expiry_gives setup (Some texture) answer = tt

stage_gives : (setup : Setup) (canvas : CanvasValue) (stage : Stage) (answer : Answer) → IsTexture (given_by setup (stage_asked canvas stage) answer)
stage_gives setup canvas Unset answer = tt
stage_gives setup canvas (Empty setting) answer = handle_is setup (info_of canvas setting) answer
stage_gives setup canvas (Filled setting texture) answer = tt

act_gives : (setup : Setup) (canvas : CanvasValue) (call : CanvasCall) (answer : Answer) → IsTexture (given_by setup (act_asked canvas call) answer)
act_gives setup canvas (Configure format usage) answer = expiry_gives setup (texture_of canvas) answer
act_gives setup canvas Current answer = stage_gives setup canvas canvas.stage answer
act_gives setup canvas Present answer = expiry_gives setup (texture_of canvas) answer

place_gives : (setup : Setup) (found : Option CanvasValue) (call : CanvasCall) (answer : Answer) → IsTexture (given_by setup (option_and_then (λ canvas. act_asked canvas call) found) answer)
place_gives setup None call answer = tt
place_gives setup (Some canvas) call answer = act_gives setup canvas call answer

pub canvas_gives : (setup : Setup) (sight : Sight) (call : CanvasOf ℕ) (answer : Answer) → IsTexture (given_by setup (canvas_asks sight call) answer)
canvas_gives setup sight (Create width height) answer = tt
canvas_gives setup sight (OnCanvas canvas call) answer = place_gives setup (canvas_at sight.own (place_in sight canvas)) call answer

of_redrawn : (call : CanvasCall) (given : Option HandleValue) → IsTexture given → (k : Kind) (x : Object) → IsOf k x → IsOf k (redrawn x (λ canvas. acted canvas call given))
of_redrawn call given new k (object.Made handle recorder) of = of
of_redrawn call given new k (object.Pass encoder number) of = of
of_redrawn call given new k (object.Canvas canvas) of =
    (of.0, had_texture (acted canvas call given).stage (acted_has (λ (handle : HandleValue). Unit {0}) IsTexture tt canvas call given (texture_had canvas.stage of.1) new))
of_redrawn call given new k (object.Shown texture) of = of

acted_stands : (call : CanvasCall) (given : Option HandleValue) → IsTexture given → (objects : List Object) (at place : ℕ) (k : Kind) → StandsAt objects place k → StandsAt (acted_at objects at call given) place k
acted_stands call given new objects at place k was = elim (cases_eq at place) [
  | inl same ↦ subst (λ n. StandsAt (acted_at objects n call given) place k) (sym same) (record {
    what = redrawn was.what (λ canvas. acted canvas call given);
    is = redrawn_own (λ canvas. acted canvas call given) objects place ∙ ap (option_map (λ (x : Object). redrawn x (λ canvas. acted canvas call given))) was.is;
    of = of_redrawn call given new k was.what was.of;
  })
  | inr differs ↦ record { what = was.what; is = redrawn_other (λ canvas. acted canvas call given) objects at place differs ∙ was.is; of = was.of }
]

drawn_stands : (setup : Setup) (sight : Sight) (call : CanvasOf ℕ) (made : Option ℕ) (answer : Answer) (place : ℕ) (k : Kind) → StandsAt sight.own place k
    → StandsAt (drawn sight call made (given_by setup (canvas_asks sight call) answer)).own place k
drawn_stands setup sight (Create width height) made answer place k was = stands_append sight.own (new_canvas width height made) place k was
drawn_stands setup sight (OnCanvas canvas call) made answer place k was =
    let at : ℕ = place_in sight canvas in
    let given : Option HandleValue = given_by setup (canvas_asked sight.own at call) answer in
    let objects : List Object = acted_at sight.own at call given in
    stands_append objects (shown_at objects at call made) place k
    (acted_stands call given (place_gives setup (canvas_at sight.own at) call answer) sight.own at place k was)

-- what stood before a call stands after it
pub call_stands : (setup : Setup) (sight : Sight) (call : BoundCall) (answer : Answer) (place : ℕ) (k : Kind) → StandsAt sight.own place k → StandsAt (after_call setup sight (call, answer)).own place k
call_stands setup sight (Record on command made) answer place k was =
    let stand : Stand = stand_seen sight on in
    let found : Command = command_seen sight command in
    subst (λ (s : Sight). StandsAt s.own place k) (sym (after_record setup sight on command made answer))
    (stands_append (recorded_on sight.own stand found) (begun_by sight.own stand.encoder found made) place k (recorded_stands sight.own stand found place k was))
call_stands setup sight (Ask request made) answer place k was =
    subst (λ (s : Sight). StandsAt s.own place k) (sym (after_ask setup sight request made answer))
    (kept_stands setup.limits (ended_on sight (ended_by request)) (handle_kept setup sight request made answer) place k (ended_stands sight (ended_by request) place k was))
call_stands setup sight (Canvas call made) answer place k was =
    subst (λ (s : Sight). StandsAt s.own place k) (sym (after_canvas setup sight call made answer)) (drawn_stands setup sight call made answer place k was)

-- ---- what a call makes

pub pass_kind : (b : Bracket) (k : Kind) → kind_begun_by b ≡ Some k → is_pass k ≡ true
pass_kind brackets.BeginComputePass k e = let same : kinds.ComputePass ≡ k = cc (e) in ap is_pass (sym same)
pass_kind brackets.BeginRenderPass k e = let same : kinds.RenderPass ≡ k = cc (e) in ap is_pass (sym same)
pass_kind brackets.EndPass k e = absurd (cc)
pass_kind brackets.PushGroup k e = absurd (cc)
pass_kind brackets.PopGroup k e = absurd (cc)
pass_kind brackets.Neither k e = absurd (cc)

new_pass : (sight : Sight) (stand : Stand) (found : Command) (slot : ℕ) (k : Kind) → kind_begun found ≡ Some k
    → StandsAt (recorded_on sight.own stand found ++ begun_by sight.own stand.encoder found (Some slot)) (length sight.own) k
new_pass sight stand found slot k begins =
    let pass : Object = object.Pass stand.encoder (passes_at sight.own stand.encoder) in
    let kept : List Object = recorded_on sight.own stand found in
    let one : begun_by sight.own stand.encoder found (Some slot) ≡ pass ∷ [] = ap (λ (o : Option Kind). option_map_or (λ (x : Kind). pass ∷ []) o []) begins in
    let count : length kept ≡ length sight.own = length_with (recorded_by stand.on found) sight.own stand.encoder in
    subst (λ (more : List Object). StandsAt (kept ++ more) (length sight.own) k) (sym one)
    (subst (λ n. StandsAt (kept ++ pass ∷ []) n k) count (record { what = pass; is = at_new kept pass; of = pass_kind (bracket found) k begins }))

of_handle : (limits : Limits) (handle : HandleValue) (k : Kind) → kind_of handle.info ≡ k → IsOf k (object_of limits handle)
of_handle limits handle k same = (
  same,
  λ p. let new = opens limits handle.reference handle.info (ap has_recorder same ∙ p) in record {
    is_open = record { recorder = new.recorder; is = new.is; open_for = new.open_for };
    kind_is = new.kind_is ∙ same;
  },
)

new_object : (limits : Limits) (objects : List Object) (handle : Option HandleValue) (slot : ℕ) (k : Kind) → FitsSlot handle (Some (slot, k)) → ((h : HandleValue) → handle ≡ Some h → kind_of h.info ≡ k)
    → StandsAt (with_kept limits objects handle) (length objects) k
new_object limits objects None slot k fits kind = absurd fits
new_object limits objects (Some handle) slot k fits kind =
    record { what = object_of limits handle; is = at_new objects (object_of limits handle); of = of_handle limits handle k (kind handle refl) }

-- The texture that a currentTexture shows of a canvas that is configured was made for it, or was there.

pub stage_filled : (canvas : CanvasValue) (given : Option HandleValue) → (filled_if canvas given).stage ≡ option_map_or (filled_at canvas.stage) given canvas.stage
stage_filled canvas None = refl
stage_filled canvas (Some texture) = refl

made_shown : (setup : Setup) (setting : Setting) (known : TextureInfo) (answer : Answer) → is_made answer ≡ true
    → IsShown (texture_at (option_map_or (filled_at (Empty setting)) (handle_of setup.serial (info.Texture known) answer) (Empty setting)))
made_shown setup setting known (Made number valid) made = refl
made_shown setup setting known (Queued op) made = absurd (cc (made))
made_shown setup setting known Promised made = absurd (cc (made))
made_shown setup setting known Plain made = absurd (cc (made))
made_shown setup setting known BadCompletion made = absurd (cc (made))

stage_shown : (setup : Setup) (canvas : CanvasValue) (answer : Answer) (stage : Stage) → stage ≢ Unset → HasTexture stage → is_made answer ≡ true
    → IsShown (texture_at (option_map_or (filled_at stage) (given_by setup (stage_asked canvas stage) answer) stage))
stage_shown setup canvas answer Unset set has made = absurd (set refl)
stage_shown setup canvas answer (Empty setting) set has made = made_shown setup setting (info_of canvas setting) answer made
stage_shown setup canvas answer (Filled setting texture) set has made = has

canvas_shown : (setup : Setup) (canvas : CanvasValue) (answer : Answer) → canvas.stage ≢ Unset → HasTexture canvas.stage → is_made answer ≡ true
    → IsShown (texture_of (filled_if canvas (given_by setup (texture_asked canvas) answer)))
canvas_shown setup canvas answer set has made =
    subst (λ (stage : Stage). IsShown (texture_at stage)) (sym (stage_filled canvas (given_by setup (texture_asked canvas) answer)))
    (stage_shown setup canvas answer canvas.stage set has made)

current_shown : (setup : Setup) (sight : Sight) (canvas : ℕ) (answer : Answer) → IsSeenSet sight canvas Current → is_made answer ≡ true
    → let at = place_in sight canvas in IsShown (option_and_then texture_of (canvas_at (acted_at sight.own at Current (given_by setup (canvas_asked sight.own at Current) answer)) at))
current_shown setup sight canvas answer seen made =
    let at : ℕ = place_in sight canvas in
    let given : Option CanvasValue → Option HandleValue = λ found. given_by setup (option_and_then (λ c. act_asked c Current) found) answer in
    subst (λ (found : Option CanvasValue). IsShown (option_and_then texture_of found))
    (sym (own_canvas (λ c. acted c Current (given (canvas_at sight.own at))) sight.own at))
    (subst (λ (found : Option CanvasValue). IsShown (option_and_then texture_of (option_map (λ c. acted c Current (given found)) found))) (sym seen.is)
    (canvas_shown setup seen.found answer (seen.set refl) seen.texture made))

drawn_makes : (setup : Setup) (sight : Sight) (call : CanvasOf ℕ) (made : Option ℕ) (answer : Answer) (slot : ℕ) (k : Kind) → IsAnswerTo (Canvas call made) answer → CanvasIsSeen sight call
    → made_of (Canvas call made) ≡ Some (slot, k) → StandsAt (drawn sight call made (given_by setup (canvas_asks sight call) answer)).own (length sight.own) k
drawn_makes setup sight call None answer slot k answered seen e = absurd (cc (e))
drawn_makes setup sight (Create width height) (Some name) answer slot k answered seen e =
    let new : Object = object.Canvas (record { width = width; height = height; stage = Unset }) in
    let same : Some kinds.Canvas ≡ Some k = same_kind name slot (Some kinds.Canvas) k e in
    record { what = new; is = at_new sight.own new; of = (cc (same), tt) }
drawn_makes setup sight (OnCanvas canvas (Configure format usage)) (Some name) answer slot k answered seen e = absurd (cc (e))
drawn_makes setup sight (OnCanvas canvas Current) (Some name) answer slot k answered seen e =
    let at : ℕ = place_in sight canvas in
    let given : Option HandleValue = given_by setup (canvas_asked sight.own at Current) answer in
    let objects : List Object = acted_at sight.own at Current given in
    let new : Object = object.Shown (option_and_then texture_of (canvas_at objects at)) in
    let same : Some kinds.CanvasTexture ≡ Some k = same_kind name slot (Some kinds.CanvasTexture) k e in
    let count : length objects ≡ length sight.own = redrawn_length (λ c. acted c Current given) sight.own at in
    record {
      what = new;
      is = subst (λ n. slice_get (objects ++ new ∷ []) n ≡ Some new) count (at_new objects new);
      of = (cc (same), current_shown setup sight canvas answer seen (answered refl));
    }
drawn_makes setup sight (OnCanvas canvas Present) (Some name) answer slot k answered seen e = absurd (cc (e))

-- it stands at the next place
pub call_makes : (setup : Setup) (sight : Sight) (call : BoundCall) (answer : Answer) (slot : ℕ) (k : Kind) → IsAnswerTo call answer → MakesAs sight call → made_of call ≡ Some (slot, k)
    → StandsAt (after_call setup sight (call, answer)).own (length sight.own) k
call_makes setup sight (Record on command None) answer slot k answered fit e = absurd (cc)
call_makes setup sight (Record on command (Some made)) answer slot k answered fit e =
    let found : Command = command_seen sight command in
    let begins : kind_begun found ≡ Some k = begun_mapped (handle_in_sight sight) command ∙ same_kind made slot (kind_begun command) k e in
    subst (λ (s : Sight). StandsAt s.own (length sight.own) k) (sym (after_record setup sight on command (Some made) answer)) (new_pass sight (stand_seen sight on) found made k begins)
call_makes setup sight (Ask request made) answer slot k answered fit e =
    let handle : Option HandleValue = handle_kept setup sight request made answer in
    let fits : FitsSlot handle (Some (slot, k)) = subst (FitsSlot handle) e (handle_fits setup sight request made answer answered) in
    subst (λ (s : Sight). StandsAt s.own (length sight.own) k) (sym (after_ask setup sight request made answer))
    (subst (λ n. StandsAt (with_kept setup.limits (ended_on sight (ended_by request)) handle) n k) (ended_length sight (ended_by request))
    (new_object setup.limits (ended_on sight (ended_by request)) handle slot k fits (handle_kind setup sight request made answer slot k fit e)))
call_makes setup sight (Canvas call made) answer slot k answered fit e =
    subst (λ (s : Sight). StandsAt s.own (length sight.own) k) (sym (after_canvas setup sight call made answer)) (drawn_makes setup sight call made answer slot k answered fit e)

-- ---- canvases that are configured

-- a canvas at a place that was configured
pub record IsSet (objects : List Object) (place : ℕ) : Type 0 where
  pub found : CanvasValue
  pub is : canvas_at objects place ≡ Some found
  pub set : found.stage ≢ Unset

set_append : (objects more : List Object) (place : ℕ) → IsSet objects place → IsSet (objects ++ more) place
set_append objects more place was = record { found = was.found; is = canvas_append objects more place was.found was.is; set = was.set }

set_recorded : (change : RecorderValue → RecorderValue) (objects : List Object) (at place : ℕ) → IsSet objects place → IsSet (with_recorder objects at change) place
set_recorded change objects at place was = record { found = was.found; is = recorder_canvas change objects at place ∙ was.is; set = was.set }

set_ended : (sight : Sight) (ended : Option ℕ) (place : ℕ) → IsSet sight.own place → IsSet (ended_on sight ended) place
set_ended sight None place was = was
set_ended sight (Some encoder) place was = set_recorded taken_out sight.own (place_in sight encoder) place was

set_kept : (limits : Limits) (objects : List Object) (handle : Option HandleValue) (place : ℕ) → IsSet objects place → IsSet (with_kept limits objects handle) place
set_kept limits objects None place was = was
set_kept limits objects (Some handle) place was = set_append objects (object_of limits handle ∷ []) place was

set_acted : (call : CanvasCall) (given : Option HandleValue) (objects : List Object) (at place : ℕ) → IsSet objects place → IsSet (acted_at objects at call given) place
set_acted call given objects at place was = elim (cases_eq at place) [
  | inl same ↦ subst (λ n. IsSet (acted_at objects n call given) place) (sym same) (record {
    found = acted was.found call given;
    is = own_canvas (λ canvas. acted canvas call given) objects place ∙ ap (option_map (λ canvas. acted canvas call given)) was.is;
    set = acted_set was.found call given was.set;
  })
  | inr differs ↦ record { found = was.found; is = other_canvas (λ canvas. acted canvas call given) objects at place differs ∙ was.is; set = was.set }
]

set_drawn : (sight : Sight) (call : CanvasOf ℕ) (made : Option ℕ) (given : Option HandleValue) (place : ℕ) → IsSet sight.own place → IsSet (drawn sight call made given).own place
set_drawn sight (Create width height) made given place was = set_append sight.own (new_canvas width height made) place was
set_drawn sight (OnCanvas canvas call) made given place was =
    let at : ℕ = place_in sight canvas in
    let objects : List Object = acted_at sight.own at call given in
    set_append objects (shown_at objects at call made) place (set_acted call given sight.own at place was)

-- it stays so at each call
call_leaves_set : (setup : Setup) (sight : Sight) (call : BoundCall) (answer : Answer) (place : ℕ) → IsSet sight.own place → IsSet (after_call setup sight (call, answer)).own place
call_leaves_set setup sight (Record on command made) answer place was =
    let stand : Stand = stand_seen sight on in
    let found : Command = command_seen sight command in
    subst (λ (s : Sight). IsSet s.own place) (sym (after_record setup sight on command made answer))
    (set_append (recorded_on sight.own stand found) (begun_by sight.own stand.encoder found made) place (set_recorded (recorded_by stand.on found) sight.own stand.encoder place was))
call_leaves_set setup sight (Ask request made) answer place was =
    subst (λ (s : Sight). IsSet s.own place) (sym (after_ask setup sight request made answer))
    (set_kept setup.limits (ended_on sight (ended_by request)) (handle_kept setup sight request made answer) place (set_ended sight (ended_by request) place was))
call_leaves_set setup sight (Canvas call made) answer place was =
    subst (λ (s : Sight). IsSet s.own place) (sym (after_canvas setup sight call made answer)) (set_drawn sight call made (given_by setup (canvas_asks sight call) answer) place was)

-- A canvas stands where one was made.
pub record IsCanvasAt (objects : List Object) (place : ℕ) : Type 0 where
  pub found : CanvasValue
  pub is : canvas_at objects place ≡ Some found
  pub texture : HasTexture found.stage

no_canvas_known : (known : Info) → kind_of known ≡ kinds.Canvas → ⊥
no_canvas_known (info.Buffer x) e = cc (e)
no_canvas_known (info.Texture x) e = cc (e)
no_canvas_known (info.View x) e = cc (e)
no_canvas_known (info.Sampler x) e = cc (e)
no_canvas_known (info.GroupLayout x) e = cc (e)
no_canvas_known (info.PipelineLayout x) e = cc (e)
no_canvas_known (info.Group x) e = cc (e)
no_canvas_known (info.Compute x) e = cc (e)
no_canvas_known (info.Render x) e = cc (e)
no_canvas_known (info.Queries x) e = cc (e)
no_canvas_known info.Encoder e = cc (e)
no_canvas_known (info.BundleEncoder x) e = cc (e)
no_canvas_known info.CommandBuffer e = cc (e)
no_canvas_known (info.Bundle x) e = cc (e)

canvas_of : (what : Object) (found : Option Object) → found ≡ Some what → IsOf kinds.Canvas what → (canvas : CanvasValue) × (option_and_then canvas_in found ≡ Some canvas) × HasTexture canvas.stage
canvas_of (object.Made handle recorder) found is of = absurd (no_canvas_known handle.info of.0)
canvas_of (object.Pass encoder number) found is of = absurd (cc (of))
canvas_of (object.Canvas canvas) found is of = (canvas, ap (option_and_then canvas_in) is, of.1)
canvas_of (object.Shown texture) found is of = absurd (cc (of.0))

pub canvas_stands : (objects : List Object) (place : ℕ) → StandsAt objects place kinds.Canvas → IsCanvasAt objects place
canvas_stands objects place was = let there = canvas_of was.what (slice_get objects place) was.is was.of in record { found = there.0; is = there.1; texture = there.2 }

-- and a configure sets it
drawn_sets : (sight : Sight) (canvas : ℕ) (format : CanvasFormat) (usage : ℕ) (made : Option ℕ) (given : Option HandleValue) → IsCanvasAt sight.own (place_in sight canvas)
    → IsSet (drawn sight (OnCanvas canvas (Configure format usage)) made given).own (place_in sight canvas)
drawn_sets sight canvas format usage made given was =
    let at : ℕ = place_in sight canvas in
    let call : CanvasCall = Configure format usage in
    let objects : List Object = acted_at sight.own at call given in
    set_append objects (shown_at objects at call made) at (record {
      found = acted was.found call given;
      is = own_canvas (λ c. acted c call given) sight.own at ∙ ap (option_map (λ c. acted c call given)) was.is;
      set = configured_set was.found format usage given;
    })

-- ---- calls one after another

-- the canvases of some slots were configured
abbrev pub AreSet : ℕ → List Object → List ℕ → Type 0
AreSet first own done = (canvas : ℕ) → Contains done canvas → IsSet own (canvas - first)

-- there is something for each slot that a lane has made, of the kind that was made
pub record HoldsFrom (first : ℕ) (own : List Object) (made : Slots) : Type 0 where
  pub count : length own ≡ length made
  pub stands : (slot : ℕ) (k : Kind) → Contains made (slot, k) → StandsAt own (slot - first) k

pub none_held : (first : ℕ) → HoldsFrom first [] []
none_held first = record { count = refl; stands = λ slot k there. absurd (omega (arith, there.1)) }

-- What a call of a canvas finds is seen.

same_found : (found : Option CanvasValue) (a b : CanvasValue) → found ≡ Some a → found ≡ Some b → a ≡ b
same_found found a b is was = cc (sym is ∙ was)

is_set : (sight : Sight) (done : List ℕ) (canvas : ℕ) (call : CanvasCall) (found : CanvasValue) → canvas_at sight.own (place_in sight canvas) ≡ Some found → AreSet sight.first sight.own done → IsConfigured done canvas call
    → call ≡ Current → found.stage ≢ Unset
is_set sight done canvas (Configure format usage) found is sets set e = absurd (cc (e))
is_set sight done canvas Current found is sets set e =
    let there = sets canvas set in
    subst (λ (c : CanvasValue). c.stage ≢ Unset) (same_found (canvas_at sight.own (place_in sight canvas)) there.found found there.is is) there.set
is_set sight done canvas Present found is sets set e = absurd (cc (e))

canvas_own : (sight : Sight) (made ours : Slots) (canvas : ℕ) → ((slot : ℕ) (k : Kind) → Contains ours (slot, k) → StandsAt sight.own (slot - sight.first) k)
    → All (IsFound made ours) ((canvas, wanted.Canvas) ∷ []) → IsCanvasAt sight.own (place_in sight canvas)
canvas_own sight made ours canvas own all =
    let found = All-head (IsFound made ours) (canvas, wanted.Canvas) [] all in
    canvas_stands sight.own (place_in sight canvas)
    (subst (λ k. StandsAt sight.own (place_in sight canvas) k) (is_canvas found.kind found.fits) (own canvas found.kind (found.own refl)))

pub canvas_seen : (sight : Sight) (made ours : Slots) (done : List ℕ) (call : CanvasOf ℕ) → ((slot : ℕ) (k : Kind) → Contains ours (slot, k) → StandsAt sight.own (slot - sight.first) k)
    → AreSet sight.first sight.own done → All (IsFound made ours) (canvas_named call) → CanvasIsSet done call → CanvasIsSeen sight call
canvas_seen sight made ours done (Create width height) own sets all set = tt
canvas_seen sight made ours done (OnCanvas canvas call) own sets all set =
    let there = canvas_own sight made ours canvas own all in
    record { found = there.found; is = there.is; texture = there.texture; set = is_set sight done canvas call there.found there.is sets set }

call_seen : (sight : Sight) (made ours : Slots) (done : List ℕ) (call : BoundCall) → ((slot : ℕ) (k : Kind) → Contains ours (slot, k) → StandsAt sight.own (slot - sight.first) k)
    → AreSet sight.first sight.own done → CallIsBound made ours call → CallIsSet done call → CanvasSeen sight call
call_seen sight made ours done call own sets bound set asked name is =
    canvas_seen sight made ours done asked own sets (subst (λ (c : BoundCall). CallIsBound made ours c) is bound) (subst (λ (c : BoundCall). CallIsSet done c) is set)

-- what a call configures is set after it

no_more : {X : Type 0} (x : X) → Contains [] x → ⊥
no_more x there = omega (arith, there.1)

drawn_set : (sight : Sight) (made ours : Slots) (call : CanvasOf ℕ) (name : Option ℕ) (given : Option HandleValue) → ((slot : ℕ) (k : Kind) → Contains ours (slot, k) → StandsAt sight.own (slot - sight.first) k)
    → All (IsFound made ours) (canvas_named call) → (canvas : ℕ) → Contains (configured_in call) canvas → IsSet (drawn sight call name given).own (canvas - sight.first)
drawn_set sight made ours (Create width height) name given own all canvas there = absurd (no_more canvas there)
drawn_set sight made ours (OnCanvas at (Configure format usage)) name given own all canvas there = elim (Contains-push_cases [] at canvas there) [
  | inl none ↦ absurd (no_more canvas none)
  | inr same ↦ subst (λ n. IsSet (drawn sight (OnCanvas at (Configure format usage)) name given).own (n - sight.first)) same
      (drawn_sets sight at format usage name given (canvas_own sight made ours at own all))
]
drawn_set sight made ours (OnCanvas at Current) name given own all canvas there = absurd (no_more canvas there)
drawn_set sight made ours (OnCanvas at Present) name given own all canvas there = absurd (no_more canvas there)

call_sets : (setup : Setup) (sight : Sight) (made ours : Slots) (call : BoundCall) (answer : Answer) → ((slot : ℕ) (k : Kind) → Contains ours (slot, k) → StandsAt sight.own (slot - sight.first) k)
    → CallIsBound made ours call → (canvas : ℕ) → Contains (configured_by call) canvas → IsSet (after_call setup sight (call, answer)).own (canvas - sight.first)
call_sets setup sight made ours (Record on command name) answer own bound canvas there = absurd (no_more canvas there)
call_sets setup sight made ours (Ask request name) answer own bound canvas there = absurd (no_more canvas there)
call_sets setup sight made ours (Canvas call name) answer own bound canvas there =
    subst (λ (s : Sight). IsSet s.own (canvas - sight.first)) (sym (after_canvas setup sight call name answer))
    (drawn_set sight made ours call name (given_by setup (canvas_asks sight call) answer) own bound canvas there)

one_set : (setup : Setup) (sight : Sight) (made ours : Slots) (done : List ℕ) (call : BoundCall) (answer : Answer) → ((slot : ℕ) (k : Kind) → Contains ours (slot, k) → StandsAt sight.own (slot - sight.first) k)
    → AreSet sight.first sight.own done → CallIsBound made ours call → AreSet sight.first (after_call setup sight (call, answer)).own (done ++ configured_by call)
one_set setup sight made ours done call answer own sets bound canvas there = elim (Contains-append_cases done (configured_by call) canvas there) [
  | inl old ↦ call_leaves_set setup sight call answer (canvas - sight.first) (sets canvas old)
  | inr new ↦ call_sets setup sight made ours call answer own bound canvas new
]

one_held : (setup : Setup) (sight : Sight) (made : Slots) (before : List BoundCall) (done : List ℕ) (call : BoundCall) (answer : Answer) → HoldsFrom sight.first sight.own (made_in before) → AreSet sight.first sight.own done → IsAnswerTo call answer
    → CallIsBound made (made_in before) call → CallIsSet done call → ((m : ℕ × Kind) → made_of call ≡ Some m → m.0 ≡ sight.first + length sight.own)
    → HoldsFrom sight.first (after_call setup sight (call, answer)).own (made_in (before ++ call ∷ []))
one_held setup sight made before done call answer was sets answered bound set here =
    let fit : MakesAs sight call = makes_as sight made (made_in before) call (λ slot k p there. was.stands slot k there)
    (call_seen sight made (made_in before) done call was.stands sets bound set) bound in
    let own : List Object = (after_call setup sight (call, answer)).own in
    let length_is : length own ≡ length sight.own + length (made_by call) = call_length setup sight call answer answered in
    let old : length sight.own ≡ length (made_in before) = was.count in
    let joined : length (made_in before ++ made_by call) ≡ length (made_in before) + length (made_by call) = length-append (made_in before) (made_by call) in
    subst (λ ms. HoldsFrom sight.first own ms) (sym (made_more before call)) (record {
      count = omega (arith, length_is, old, joined);
      stands = λ slot k there. elim (Contains-append_cases (made_in before) (made_by call) (slot, k) there) [
        | inl earlier ↦ call_stands setup sight call answer (slot - sight.first) k (was.stands slot k earlier)
        | inr new ↦ let makes : made_of call ≡ Some (slot, k) = only (made_of call) (slot, k) new in
            let next : slot ≡ sight.first + length sight.own = here (slot, k) makes in
            let place : length sight.own ≡ slot - sight.first = omega (arith, next) in
            subst (λ n. StandsAt own n k) place (call_makes setup sight call answer slot k answered fit makes)
      ];
    })

-- and the canvases that were configured are set
pub record HoldsSet (first : ℕ) (own : List Object) (made : Slots) (done : List ℕ) : Type 0 where
  pub held : HoldsFrom first own made
  pub sets : AreSet first own done

pub none_set : (first : ℕ) → HoldsSet first [] [] []
none_set first = record { held = none_held first; sets = λ canvas there. absurd (no_more canvas there) }

pub all_held : (setup : Setup) (made : Slots) (calls : List Answered) (before : List BoundCall) (done : List ℕ) (sight : Sight) → HoldsSet sight.first sight.own (made_in before) done → All IsAnsweredCall calls
    → LaneIsBound made (made_in before) (map (λ call. call.0) calls) → LaneIsSet done (map (λ call. call.0) calls)
    → AreFrom (sight.first + length sight.own) (slots_of (made_in (map (λ call. call.0) calls)))
    → HoldsSet (after_calls setup sight calls).first (after_calls setup sight calls).own (made_in (before ++ map (λ call. call.0) calls)) (done ++ all_configured (map (λ call. call.0) calls))
all_held setup made [] before done sight was answered bound set from =
    subst (λ (ns : List ℕ). HoldsSet sight.first sight.own (made_in (before ++ [])) ns) (sym (append-nil done))
    (subst (λ (cs : List BoundCall). HoldsSet sight.first sight.own (made_in cs) done) (sym (append-nil before)) was)
all_held setup made (call ∷ calls) before done sight was answered bound set from =
    let after : Sight = after_call setup sight call in
    let end : Sight = after_calls setup after calls in
    let here : IsAnsweredCall call = All-head IsAnsweredCall call calls answered in
    let rest : List BoundCall = map (λ (c : Answered). c.0) calls in
    let first_is : after.first ≡ sight.first = same_first setup sight call.0 call.1 in
    let length_is : length after.own ≡ length sight.own + length (made_by call.0) = call_length setup sight call.0 call.1 here in
    let grown : (sight.first + length sight.own) + length (made_by call.0) ≡ after.first + length after.own = omega (arith, first_is, length_is) in
    let one : HoldsSet sight.first after.own (made_in (before ++ call.0 ∷ [])) (done ++ configured_by call.0) = record {
      held = one_held setup sight made before done call.0 call.1 was.held was.sets here bound.0 set.0
          (first_from (sight.first + length sight.own) (made_of call.0) (made_in rest) from);
      sets = one_set setup sight made (made_in before) done call.0 call.1 was.held.stands was.sets bound.0;
    } in
    subst (λ (ns : List ℕ). HoldsSet end.first end.own (made_in (before ++ call.0 ∷ rest)) ns) (append_assoc done (configured_by call.0) (all_configured rest))
    (subst (λ (cs : List BoundCall). HoldsSet end.first end.own (made_in cs) ((done ++ configured_by call.0) ++ all_configured rest)) (append_assoc before (call.0 ∷ []) rest)
    (all_held setup (made ++ made_by call.0) calls (before ++ call.0 ∷ []) (done ++ configured_by call.0) after
    (subst (λ n. HoldsSet n after.own (made_in (before ++ call.0 ∷ [])) (done ++ configured_by call.0)) (sym first_is) one)
    (All-tail IsAnsweredCall call calls answered)
    (subst (λ ms. LaneIsBound (made ++ made_by call.0) ms rest) (sym (made_more before call.0)) bound.1)
    set.1
    (subst (λ n. AreFrom n (slots_of (made_in rest))) grown (from_back (sight.first + length sight.own) (made_by call.0) (made_in rest) from))))
