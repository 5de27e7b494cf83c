-- Each recorder of what a lane has made is of the device, so that what the lane ends is judged by the limits of that.
use Rattle.std.proofs.Common.{◌≡◌, ℕ, zero, suc, Bool, true, false, Option, Some, None, List, [], ◌∷◌, ◌++◌, map, refl, sym, ap, subst, ◌∙◌, if◌then◌else◌}
use Rattle.std.specs.Prelude.{All, IfSome, option_map, option_and_then}
use Rattle.std.specs.Option.{option_map_or}
use Rattle.std.proofs.lemmas.List.Elements.{All-nil, All-cons, All-head, All-tail, All-append}
use Rattle.wg_types.specs.Handles.{HandleValue}
use Rattle.wg_types.specs.declared.handles.ObjRef.{ObjRef}
use Rattle.wg_types.specs.declared.handles.Info.{Info}
use Rattle.wg_types.specs.declared.canvases.CanvasCall.{CanvasCall}
use Rattle.wg_types.specs.declared.canvases.CanvasCall.TheVariants.{Configure, Current, Present}
use Rattle.wg_types.specs.declared.canvases.CanvasOf.{CanvasOf}
use Rattle.wg_types.specs.declared.canvases.CanvasOf.TheVariants.{Create, On}
use Rattle.wg_types.specs.declared.commands.On.{On as Place}
use Rattle.wg_types.specs.declared.requests.RequestOf.{RequestOf}
use Rattle.wg_types.specs.declared.requests.RequestOf.TheVariants.{Finish, FinishBundle, Destroy}
use Rattle.wg_types.specs.declared.wanted.Kind.{Kind}
use Rattle.wg_types.specs.Commands.{Command, kind_begun}
use Rattle.wg_trace.specs.declared.replies.Answer.{Answer}
use Rattle.wg_canvas.specs.Canvases.{CanvasValue, texture_of, asked_at as stage_asked, act_asked, acted}
use Rattle.wg_canvas.specs.declared.canvas.Stage.{Stage}
use Rattle.wg_canvas.specs.declared.canvas.Stage.TheVariants.{Unset, Empty, Filled}
use Rattle.wg_encoder.specs.Recorders.{RecorderValue, recorded}
use Rattle.wg_history.specs.declared.events.Setup.{Setup}
use Rattle.wg_history.specs.declared.events.Event.{Event}
use Rattle.wg_history.specs.declared.events.Event.TheVariants.{Late}
use Rattle.wg_history.specs.Entries.{Entry}
use Rattle.wg_calls.specs.Calls.{event_asked, finish_of, recording_of, taken_out}
use Rattle.wg_calls.specs.Encoders.{ended_by, recorder_of, is_begun}
use Rattle.wg_calls.specs.Judged.{IsRecorderOf, IsJudgedBy}
use Rattle.wg_calls.proofs.Judged.{opened_own, is_judged}
use Rattle.wg_script.specs.CallOf.{BoundCall}
use Rattle.wg_script.specs.declared.calls.CallOf.TheVariants.{Record, Ask, Canvas}
use Rattle.wg_play.specs.declared.objects.Object.{Object}
use Rattle.wg_play.specs.declared.objects.Object.TheVariants as object
use Rattle.wg_play.specs.declared.objects.Stand.{Stand}
use Rattle.wg_play.specs.Canvases.{canvas_at, redrawn, with_canvas, acted_at, shown_by, shown_at, given_by}
use Rattle.wg_play.specs.Objects.{unknown, reference_at, recorder_in, recorder_at, changed, with_recorder, recorded_by, recorded_on, passes_at, begun_by, object_of}
use Rattle.wg_play.specs.Sights.{Sight, place_in}
use Rattle.wg_play.specs.Lanes.{canvas_asks, new_canvas, drawn, command_seen, stand_seen, finish_by, request_seen, event_sent, info_sent, event_of, handle_kept}
use Rattle.wg_play.specs.Late.{Answered, after_call, after_calls}
use Rattle.wg_play.specs.Found.{IsOpenFor}
use Rattle.wg_play.proofs.Slots.{with_tail}
use Rattle.wg_play.proofs.Redrawn.{redrawn_tail}
use Rattle.wg_play.proofs.Following.{ended_on, with_kept, after_record, after_ask, after_canvas}
use Rattle.wg_play.proofs.Makers.{kept_from}
use Rattle.wg_play.proofs.Running.{RunsAs}

-- What a call of the device ends has a recorder, which is open for it.
abbrev pub EndsOpen : Sight → RequestOf ℕ → Type 0
EndsOpen sight request = (encoder : ℕ) → ended_by request ≡ Some encoder → IsOpenFor (reference_at sight.own (place_in sight encoder)) (recorder_at sight.own (place_in sight encoder))

recorded_same : (on : Place) (command : Command) (recorder : RecorderValue) → (recorded_by on command recorder).maker ≡ recorder.maker
recorded_same on command recorder = by_begun (is_begun on recorder.passes)
  where
    by_begun : (b : Bool) → (let after : RecorderValue = if b then recorded recorder on command else recorder in after.maker) ≡ recorder.maker
    by_begun true = refl
    by_begun false = refl

module _ (setup : Setup) where
  -- the recorder of an object, if it has one, is of the device
  abbrev IsOwn : Object → Type 0
  IsOwn (object.Made handle recorder) = IfSome recorder (λ (r : RecorderValue). IsRecorderOf setup r)
  IsOwn (object.Pass encoder number) = Unit {0}
  IsOwn (object.Canvas canvas) = Unit {0}
  IsOwn (object.Shown texture) = Unit {0}

  abbrev AreOwn : List Object → Type 0
  AreOwn objects = All IsOwn objects

  -- ---- a change of a recorder

  changed_own : (change : RecorderValue → RecorderValue) → ((r : RecorderValue) → (change r).maker ≡ r.maker) → (o : Object) → IsOwn o → IsOwn (changed o change)
  changed_own change same (object.Made handle None) own = tt
  changed_own change same (object.Made handle (Some recorder)) own = same recorder ∙ own
  changed_own change same (object.Pass encoder number) own = tt
  changed_own change same (object.Canvas canvas) own = tt
  changed_own change same (object.Shown texture) own = tt

  recorder_own : (change : RecorderValue → RecorderValue) → ((r : RecorderValue) → (change r).maker ≡ r.maker) → (objects : List Object) (place : ℕ) → AreOwn objects
      → AreOwn (with_recorder objects place change)
  recorder_own change same [] place all = all
  recorder_own change same (o ∷ os) zero all = All-cons IsOwn (changed o change) os (changed_own change same o (All-head IsOwn o os all)) (All-tail IsOwn o os all)
  recorder_own change same (o ∷ os) (suc place) all =
      subst AreOwn (sym (with_tail o os place change))
      (All-cons IsOwn o (with_recorder os place change) (All-head IsOwn o os all) (recorder_own change same os place (All-tail IsOwn o os all)))

  pass_own : (encoder number : ℕ) (made : Option ℕ) (kind : Option Kind)
      → AreOwn (option_map_or (λ (slot : ℕ). option_map_or (λ (k : Kind). object.Pass encoder number ∷ []) kind []) made [])
  pass_own encoder number None kind = All-nil IsOwn
  pass_own encoder number (Some slot) None = All-nil IsOwn
  pass_own encoder number (Some slot) (Some k) = All-cons IsOwn (object.Pass encoder number) [] tt (All-nil IsOwn)

  noted_own : (objects : List Object) (stand : Stand) (command : Command) (made : Option ℕ) → AreOwn objects
      → AreOwn (recorded_on objects stand command ++ begun_by objects stand.encoder command made)
  noted_own objects stand command made all =
      All-append IsOwn (recorded_on objects stand command) (begun_by objects stand.encoder command made)
      (recorder_own (recorded_by stand.on command) (recorded_same stand.on command) objects stand.encoder all)
      (pass_own stand.encoder (passes_at objects stand.encoder) made (kind_begun command))

  ended_own : (sight : Sight) (ended : Option ℕ) → AreOwn sight.own → AreOwn (ended_on sight ended)
  ended_own sight None all = all
  ended_own sight (Some encoder) all = recorder_own taken_out (λ r. refl) sight.own (place_in sight encoder) all

  -- ---- what is made

  opened : (reference : ObjRef) (known : Info) → reference.device ≡ setup.serial → (found : Option RecorderValue) → recorder_of setup.limits reference known ≡ found
      → IfSome found (λ (r : RecorderValue). IsRecorderOf setup r)
  opened reference known own None is = tt
  opened reference known own (Some recorder) is = opened_own setup reference known recorder own is

  kept_own : (objects : List Object) (handle : Option HandleValue) → ((h : HandleValue) → handle ≡ Some h → h.reference.device ≡ setup.serial) → AreOwn objects
      → AreOwn (with_kept setup.limits objects handle)
  kept_own objects None own all = all
  kept_own objects (Some h) own all =
      All-append IsOwn objects (object_of setup.limits h ∷ []) all
      (All-cons IsOwn (object_of setup.limits h) [] (opened h.reference h.info (own h refl) (recorder_of setup.limits h.reference h.info) refl) (All-nil IsOwn))

  -- ---- calls of canvases

  redrawn_own : (change : CanvasValue → CanvasValue) (o : Object) → IsOwn o → IsOwn (redrawn o change)
  redrawn_own change (object.Made handle recorder) own = own
  redrawn_own change (object.Pass encoder number) own = tt
  redrawn_own change (object.Canvas canvas) own = tt
  redrawn_own change (object.Shown texture) own = tt

  acted_own : (change : CanvasValue → CanvasValue) (objects : List Object) (place : ℕ) → AreOwn objects → AreOwn (with_canvas objects place change)
  acted_own change [] place all = all
  acted_own change (o ∷ os) zero all = All-cons IsOwn (redrawn o change) os (redrawn_own change o (All-head IsOwn o os all)) (All-tail IsOwn o os all)
  acted_own change (o ∷ os) (suc place) all =
      subst AreOwn (sym (redrawn_tail change o os place))
      (All-cons IsOwn o (with_canvas os place change) (All-head IsOwn o os all) (acted_own change os place (All-tail IsOwn o os all)))

  shown_own : (call : CanvasCall) (made : Option ℕ) (texture : Option HandleValue) → AreOwn (shown_by call made texture)
  shown_own (Configure format usage) made texture = All-nil IsOwn
  shown_own Current None texture = All-nil IsOwn
  shown_own Current (Some slot) texture = All-cons IsOwn (object.Shown texture) [] tt (All-nil IsOwn)
  shown_own Present made texture = All-nil IsOwn

  new_own : (width height : ℕ) (made : Option ℕ) → AreOwn (new_canvas width height made)
  new_own width height None = All-nil IsOwn
  new_own width height (Some slot) = All-cons IsOwn (object.Canvas (record { width = width; height = height; stage = Unset })) [] tt (All-nil IsOwn)

  drawn_own : (sight : Sight) (call : CanvasOf ℕ) (made : Option ℕ) (given : Option HandleValue) → AreOwn sight.own → AreOwn (drawn sight call made given).own
  drawn_own sight (Create width height) made given all = All-append IsOwn sight.own (new_canvas width height made) all (new_own width height made)
  drawn_own sight (On canvas call) made given all =
      let place : ℕ = place_in sight canvas in
      let objects : List Object = acted_at sight.own place call given in
      All-append IsOwn objects (shown_at objects place call made) (acted_own (λ found. acted found call given) sight.own place all)
      (shown_own call made (option_and_then texture_of (canvas_at objects place)))

  -- ---- calls of a lane, one after another

  call_own : (sight : Sight) (call : BoundCall) (answer : Answer) → AreOwn sight.own → AreOwn (after_call setup sight (call, answer)).own
  call_own sight (Record on command made) answer all =
      subst (λ (s : Sight). AreOwn s.own) (sym (after_record setup sight on command made answer)) (noted_own sight.own (stand_seen sight on) (command_seen sight command) made all)
  call_own sight (Ask request made) answer all =
      subst (λ (s : Sight). AreOwn s.own) (sym (after_ask setup sight request made answer))
      (kept_own (ended_on sight (ended_by request)) (handle_kept setup sight request made answer) (λ h e. (kept_from setup (info_sent sight request) answer made h e).0)
      (ended_own sight (ended_by request) all))
  call_own sight (Canvas call made) answer all =
      subst (λ (s : Sight). AreOwn s.own) (sym (after_canvas setup sight call made answer))
      (drawn_own sight call made (given_by setup (canvas_asks sight call) answer) all)

  -- The recorders of what a lane has made are of the device, where it begins with nothing of its own.
  calls_own : (calls : List Answered) (sight : Sight) → AreOwn sight.own → AreOwn (after_calls setup sight calls).own
  calls_own [] sight all = all
  calls_own (call ∷ calls) sight all = calls_own calls (after_call setup sight call) (call_own sight call.0 call.1 all)

  pub lane_own : (others : List Object) (first : ℕ) (calls : List Answered) → AreOwn (after_calls setup (record { others = others; first = first; own = [] }) calls).own
  lane_own others first calls = calls_own calls (record { others = others; first = first; own = [] }) (All-nil IsOwn)

  -- ---- what a lane ends

  object_own : (o : Object) (recorder : RecorderValue) → IsOwn o → recorder_in o ≡ Some recorder → IsRecorderOf setup recorder
  object_own (object.Made handle None) recorder own is = absurd (cc (is))
  object_own (object.Made handle (Some found)) recorder own is =
      let same : found ≡ recorder = cc (is) in subst (λ (r : RecorderValue). IsRecorderOf setup r) same own
  object_own (object.Pass encoder number) recorder own is = absurd (cc (is))
  object_own (object.Canvas canvas) recorder own is = absurd (cc (is))
  object_own (object.Shown texture) recorder own is = absurd (cc (is))

  place_own : (objects : List Object) (place : ℕ) (recorder : RecorderValue) → AreOwn objects → recorder_at objects place ≡ Some recorder → IsRecorderOf setup recorder
  place_own [] place recorder all is = absurd (cc (is))
  place_own (o ∷ os) zero recorder all is = object_own o recorder (All-head IsOwn o os all) is
  place_own (o ∷ os) (suc place) recorder all is = place_own os place recorder (All-tail IsOwn o os all) is

  ended_judged : (sight : Sight) (encoder : ℕ) (other : Event) → AreOwn sight.own
      → IsOpenFor (reference_at sight.own (place_in sight encoder)) (recorder_at sight.own (place_in sight encoder))
      → IsJudgedBy setup (finish_by (recorder_at sight.own (place_in sight encoder)) other)
  ended_judged sight encoder other all opened_for =
      let recorder : RecorderValue = opened_for.recorder in
      let reference : ObjRef = reference_at sight.own (place_in sight encoder) in
      let judged : IsJudgedBy setup (finish_of reference recorder)
      = is_judged setup recorder.targets reference (recording_of recorder) (place_own sight.own (place_in sight encoder) recorder all opened_for.is) in
      let ends : finish_by (recorder_at sight.own (place_in sight encoder)) other ≡ finish_of reference recorder
      = ap (λ (found : Option RecorderValue). finish_by found other) opened_for.is
      ∙ ap (λ (found : Option ObjRef). option_map_or (λ (r : ObjRef). finish_of r recorder) found other) opened_for.open_for in
      subst (λ (event : Event). IsJudgedBy setup event) (sym ends) judged

  sent_judged : (sight : Sight) (request : RequestOf ℕ) → AreOwn sight.own → EndsOpen sight request → IsJudgedBy setup (event_sent sight request)
  sent_judged sight (Finish encoder) all ends = ended_judged sight encoder (event_asked (request_seen sight (Finish encoder))) all (ends encoder refl)
  sent_judged sight (FinishBundle encoder) all ends = ended_judged sight encoder (event_asked (request_seen sight (FinishBundle encoder))) all (ends encoder refl)
  sent_judged sight _ all ends = tt

  expiry_judged : (texture : Option HandleValue) → IsJudgedBy setup (option_map_or event_asked (option_map Destroy texture) (Late unknown.reference))
  expiry_judged None = tt
  expiry_judged (Some texture) = tt

  stage_judged : (canvas : CanvasValue) (stage : Stage) → IsJudgedBy setup (option_map_or event_asked (stage_asked canvas stage) (Late unknown.reference))
  stage_judged canvas Unset = tt
  stage_judged canvas (Empty setting) = tt
  stage_judged canvas (Filled setting texture) = tt

  canvas_judged : (found : Option CanvasValue) (call : CanvasCall)
      → IsJudgedBy setup (option_map_or event_asked (option_and_then (λ (canvas : CanvasValue). act_asked canvas call) found) (Late unknown.reference))
  canvas_judged None call = tt
  canvas_judged (Some canvas) (Configure format usage) = expiry_judged (texture_of canvas)
  canvas_judged (Some canvas) Current = stage_judged canvas canvas.stage
  canvas_judged (Some canvas) Present = expiry_judged (texture_of canvas)

  event_judged : (sight : Sight) (call : BoundCall) → AreOwn sight.own → ((request : RequestOf ℕ) (made : Option ℕ) → call ≡ Ask request made → EndsOpen sight request)
      → IsJudgedBy setup (event_of sight call)
  event_judged sight (Record on command made) all ends = tt
  event_judged sight (Ask request made) all ends = sent_judged sight request all (ends request made refl)
  event_judged sight (Canvas (Create width height) made) all ends = tt
  event_judged sight (Canvas (On canvas call) made) all ends = canvas_judged (canvas_at sight.own (place_in sight canvas)) call

  -- What a call of a lane became, if it ends an encoder, is judged by the limits of the device.
  pub entry_judged : (sight : Sight) (call : BoundCall) (found : Option Entry) → RunsAs setup sight call found → AreOwn sight.own
      → ((request : RequestOf ℕ) (made : Option ℕ) → call ≡ Ask request made → EndsOpen sight request)
      → (entry : Entry) → found ≡ Some entry → IsJudgedBy setup entry.event
  entry_judged sight call None runs all ends entry e = absurd (cc (e))
  entry_judged sight call (Some x) runs all ends entry e =
      let same : x ≡ entry = cc (e) in
      subst (λ (y : Entry). IsJudgedBy setup y.event) same (subst (λ (event : Event). IsJudgedBy setup event) runs.1 (event_judged sight call all ends))
