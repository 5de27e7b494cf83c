-- The entries that a lane gives take it through its calls.
use Rattle.std.proofs.Common.{◌≡◌, ℕ, true, not, ◌&&◌, is_none, Option, Some, None, List, [], ◌∷◌, refl, sym, ap, subst, ◌∙◌}
use Rattle.std.specs.Prelude.{All, is_some, unwrap_or, option_and_then}
use Rattle.std.specs.Option.{option_map_or}
use Rattle.std.proofs.lemmas.List.Elements.{All-nil, All-cons, All-head, All-tail}
use Rattle.wg_types.specs.Handles.{HandleValue}
use Rattle.wg_types.specs.Requests.{kind_made}
use Rattle.wg_types.specs.declared.canvases.CanvasCall.TheVariants.{Configure, Current, Present}
use Rattle.wg_types.specs.declared.canvases.CanvasOf.{CanvasOf}
use Rattle.wg_types.specs.declared.canvases.CanvasOf.TheVariants.{Create, On}
use Rattle.wg_types.specs.declared.handles.ObjRef.{ObjRef}
use Rattle.wg_trace.specs.declared.replies.Answer.{Answer}
use Rattle.wg_trace.specs.declared.replies.Reply.{Reply}
use Rattle.wg_types.specs.declared.requests.RequestOf.{RequestOf}
use Rattle.wg_types.specs.declared.requests.RequestOf.TheVariants.{CreateBuffer, CreateTexture, CreateView, CreateSampler, CreateBindGroupLayout, CreatePipelineLayout, CreateBindGroup, CreateComputePipeline, CreateRenderPipeline, GetBindGroupLayout, CreateQuerySet, CreateEncoder, CreateBundleEncoder, Finish, FinishBundle, Submit, WriteBuffer, WriteTexture, Destroy, Drop, Complete, PushErrorScope, PopErrorScope, Lose, WorkDone, MapAsync, Unmap}
use Rattle.wg_types.specs.declared.wanted.Kind.{Kind}
use Rattle.wg_types.specs.declared.render.TargetInfo.{TargetInfo}
use Rattle.wg_canvas.specs.Canvases.{CanvasValue, asked_at as stage_asked, act_asked}
use Rattle.wg_canvas.specs.declared.canvas.Stage.{Stage}
use Rattle.wg_canvas.specs.declared.canvas.Stage.TheVariants.{Unset, Empty, Filled}
use Rattle.wg_encoder.specs.Recorders.{RecorderValue, RecordingValue}
use Rattle.wg_calls.specs.Calls.{event_asked, recording_of, finish_event, finish_of}
use Rattle.wg_history.specs.declared.events.Event.{Event}
use Rattle.wg_history.specs.declared.events.Event.TheVariants.{Late}
use Rattle.wg_history.specs.declared.events.Setup.{Setup}
use Rattle.wg_history.specs.declared.events.Form.{Form}
use Rattle.wg_history.specs.declared.events.Form.TheVariants.{Making}
use Rattle.wg_history.specs.Entries.{Entry, Past, effects_of}
use Rattle.wg_history.specs.Answers.{answer_by, reply_to}
use Rattle.wg_history.specs.FirstRules.{first_rule}
use Rattle.wg_history.specs.Loss.{is_lost}
use Rattle.wg_script.specs.CallOf.{BoundCall}
use Rattle.wg_script.specs.declared.calls.CallOf.TheVariants.{Record, Ask, Canvas}
use Rattle.wg_names.specs.Uses.{made_as, made_of}
use Rattle.wg_play.specs.Canvases.{canvas_at}
use Rattle.wg_play.specs.Objects.{unknown, recorder_at}
use Rattle.wg_play.specs.Sights.{Sight, place_in}
use Rattle.wg_play.specs.Lanes.{LaneState, drawn, kept, finish_by, event_sent, event_of, answered_by, settled, settle, next_at, next_event, after_at}
use Rattle.wg_play.specs.Late.{IsAnswerTo, no_answer, IsAnsweredCall, is_made, after_call, after_calls}
use Rattle.wg_play.specs.Play.{after_}
use Rattle.wg_play.specs.Through.{IsReplied, GoesThrough, LanesGoThrough}
use Rattle.wg_play.specs.Turns.{GivesEvents, after_all}

-- ---- an event that makes an object is answered that it was made

abbrev form_of : Event → Form
form_of event = (effects_of event).form

made_reply : (setup : Setup) (past : Past) (event : Event) → form_of event ≡ Making → is_made (reply_to setup past event).answer ≡ true
made_reply setup past event e = ap (λ form. is_made (answer_by past form (not (is_lost past) && is_none (first_rule setup past event)))) e

by_targets : (targets : Option TargetInfo) (encoder : ObjRef) (recording : RecordingValue) → form_of (finish_event targets encoder recording) ≡ Making
by_targets None encoder recording = refl
by_targets (Some targets) encoder recording = refl

by_encoder : (found : Option ObjRef) (recorder : RecorderValue) (other : Event) → form_of other ≡ Making → form_of (option_map_or (λ encoder. finish_of encoder recorder) found other) ≡ Making
by_encoder None recorder other e = e
by_encoder (Some encoder) recorder other e = by_targets recorder.targets encoder (recording_of recorder)

by_recorder : (found : Option RecorderValue) (other : Event) → form_of other ≡ Making → form_of (finish_by found other) ≡ Making
by_recorder None other e = e
by_recorder (Some recorder) other e = by_encoder recorder.encoder recorder other e

sent_makes : (sight : Sight) (request : RequestOf ℕ) (k : Kind) → kind_made request ≡ Some k → form_of (event_sent sight request) ≡ Making
sent_makes sight (CreateBuffer known) k e = refl
sent_makes sight (CreateTexture known) k e = refl
sent_makes sight (CreateView texture asked) k e = refl
sent_makes sight (CreateSampler known) k e = refl
sent_makes sight (CreateBindGroupLayout entries) k e = refl
sent_makes sight (CreatePipelineLayout layouts) k e = refl
sent_makes sight (CreateBindGroup layout entries) k e = refl
sent_makes sight (CreateComputePipeline layout iface) k e = refl
sent_makes sight (CreateRenderPipeline layout desc) k e = refl
sent_makes sight (GetBindGroupLayout pipeline index) k e = refl
sent_makes sight (CreateQuerySet known) k e = refl
sent_makes sight CreateEncoder k e = refl
sent_makes sight (CreateBundleEncoder targets) k e = refl
sent_makes sight (Finish encoder) k e = by_recorder (recorder_at sight.own (place_in sight encoder)) _ refl
sent_makes sight (FinishBundle encoder) k e = by_recorder (recorder_at sight.own (place_in sight encoder)) _ refl
sent_makes sight (Submit buffers) k e = absurd (cc)
sent_makes sight (WriteBuffer buffer offset size) k e = absurd (cc)
sent_makes sight (WriteTexture texture spot layout size data_size) k e = absurd (cc)
sent_makes sight (Destroy object) k e = absurd (cc)
sent_makes sight (Drop object) k e = absurd (cc)
sent_makes sight (Complete op) k e = absurd (cc)
sent_makes sight (PushErrorScope filter) k e = absurd (cc)
sent_makes sight PopErrorScope k e = absurd (cc)
sent_makes sight Lose k e = absurd (cc)
sent_makes sight WorkDone k e = absurd (cc)
sent_makes sight (MapAsync buffer mode offset size) k e = absurd (cc)
sent_makes sight (Unmap buffer) k e = absurd (cc)

some_kind : (made : Option ℕ) (found : Option Kind) → is_some (made_as made found) ≡ true → (k : Kind) × (found ≡ Some k)
some_kind None found e = absurd (cc (e))
some_kind (Some slot) None e = absurd (cc (e))
some_kind (Some slot) (Some k) e = (k, refl)

-- So it is of a currentTexture that asks for one.

abbrev nothing_kept : Sight → Option (RequestOf HandleValue) → Option Sight
nothing_kept new asked = option_map_or (λ (request : RequestOf HandleValue). None) asked (Some new)

abbrev event_if : Option (RequestOf HandleValue) → Event
event_if asked = option_map_or event_asked asked (Late unknown.reference)

stage_makes : (new : Sight) (canvas : CanvasValue) (stage : Stage) → nothing_kept new (stage_asked canvas stage) ≡ None → form_of (event_if (stage_asked canvas stage)) ≡ Making
stage_makes new canvas Unset e = absurd (cc (e))
stage_makes new canvas (Empty setting) e = refl
stage_makes new canvas (Filled setting texture) e = absurd (cc (e))

abbrev current_of : Option CanvasValue → Option (RequestOf HandleValue)
current_of found = option_and_then (λ canvas. act_asked canvas Current) found

place_makes : (new : Sight) (found : Option CanvasValue) → nothing_kept new (current_of found) ≡ None → form_of (event_if (current_of found)) ≡ Making
place_makes new None e = absurd (cc (e))
place_makes new (Some canvas) e = stage_makes new canvas canvas.stage e

canvas_makes : (sight : Sight) (call : CanvasOf ℕ) (made : Option ℕ) → kept sight (Canvas call made) ≡ None → is_some (made_of (Canvas call made)) ≡ true → form_of (event_of sight (Canvas call made)) ≡ Making
canvas_makes sight call None unkept some = absurd (cc (some))
canvas_makes sight (Create width height) (Some slot) unkept some = absurd (cc (unkept))
canvas_makes sight (On canvas (Configure format usage)) (Some slot) unkept some = absurd (cc (some))
canvas_makes sight (On canvas Current) (Some slot) unkept some =
    place_makes (drawn sight (On canvas Current) (Some slot) None) (canvas_at sight.own (place_in sight canvas)) unkept
canvas_makes sight (On canvas Present) (Some slot) unkept some = absurd (cc (some))

replied_made : (setup : Setup) (entry : Entry) → IsReplied setup entry → form_of entry.event ≡ Making → is_made entry.reply.answer ≡ true
replied_made setup entry replied form = ap (λ (r : Reply). is_made r.answer) replied.is ∙ made_reply setup replied.past entry.event form

pub event_answered : (setup : Setup) (sight : Sight) (call : BoundCall) (entry : Entry) → kept sight call ≡ None → event_of sight call ≡ entry.event → IsReplied setup entry → IsAnswerTo call entry.reply.answer
event_answered setup sight (Record on command made) entry unkept is replied = tt
event_answered setup sight (Canvas call made) entry unkept is replied = λ some. replied_made setup entry replied (ap form_of (sym is) ∙ canvas_makes sight call made unkept some)
event_answered setup sight (Ask request made) entry unkept is replied = λ some.
    let kind = some_kind made (kind_made request) some in
    replied_made setup entry replied (ap form_of (sym is) ∙ sent_makes sight request kind.0 kind.1)

-- a call that is kept has no answer, so that any will do
pub kept_answered : (call : BoundCall) → IsAnswerTo call no_answer
kept_answered (Record on command made) = tt
kept_answered (Ask request made) = λ some. refl
kept_answered (Canvas call made) = λ some. refl

-- ---- a lane that keeps its next calls

module _ (setup : Setup) where
  abbrev pub GivesAll : LaneState → List Entry → Type 0
  GivesAll lane entries = GivesEvents next_event (after_ setup) lane entries

  abbrev pub end_of : LaneState → List Entry → LaneState
  end_of lane entries = settle (after_all next_event (after_ setup) lane entries)

  pub gives_same : (v w : LaneState) → settle v ≡ settle w → (entries : List Entry) → GivesAll v entries → GivesAll w entries
  gives_same v w same [] gives = ap next_at (sym same) ∙ gives
  gives_same v w same (e ∷ entries) gives =
      (ap next_at (sym same) ∙ gives.0, subst (λ (l : LaneState). GivesAll l entries) (ap (λ (l : LaneState). after_at setup l e.reply) same) gives.1)

  pub end_same : (v w : LaneState) → settle v ≡ settle w → (entries : List Entry) → end_of v entries ≡ end_of w entries
  end_same v w same [] = same
  end_same v w same (e ∷ entries) = ap (λ (l : LaneState). end_of l entries) (ap (λ (l : LaneState). after_at setup l e.reply) same)

  -- ---- one call

  abbrev lane_of : Sight → List BoundCall → LaneState
  lane_of sight calls = record { sight = sight; left = calls }

  abbrev Goes : List BoundCall → Type 0
  Goes calls = (sight : Sight) (entries : List Entry) → All (IsReplied setup) entries → GivesAll (lane_of sight calls) entries → GoesThrough setup (lane_of sight calls) entries

  pub settled_by : (sight : Sight) (call : BoundCall) (calls : List BoundCall) (found : Option Sight) → kept sight call ≡ found
      → settle (lane_of sight (call ∷ calls)) ≡ option_map_or (λ after. settled after calls) found (lane_of sight (call ∷ calls))
  settled_by sight call calls found is = ap (λ (o : Option Sight). option_map_or (λ after. settled after calls) o (lane_of sight (call ∷ calls))) is

  pub after_is : (sight : Sight) (call : BoundCall) (answer : Answer) (found : Option Sight) → kept sight call ≡ found → after_call setup sight (call, answer) ≡ unwrap_or found (answered_by setup sight call answer)
  after_is sight call answer found is = ap (λ (o : Option Sight). unwrap_or o (answered_by setup sight call answer)) is

  by_call : (call : BoundCall) (calls : List BoundCall) → Goes calls → (sight : Sight) (found : Option Sight) → kept sight call ≡ found → (entries : List Entry) → All (IsReplied setup) entries
      → GivesAll (lane_of sight (call ∷ calls)) entries → GoesThrough setup (lane_of sight (call ∷ calls)) entries
  by_call call calls goes sight (Some after) is entries replied gives =
      let same = settled_by sight call calls (Some after) is in
      let more = goes after entries replied (gives_same (lane_of sight (call ∷ calls)) (lane_of after calls) same entries gives) in
      let here = after_is sight call no_answer (Some after) is in
      record {
        calls = (call, no_answer) ∷ more.calls;
        are = ap (λ cs. call ∷ cs) more.are;
        answered = All-cons IsAnsweredCall (call, no_answer) more.calls (kept_answered call) more.answered;
        end = end_same (lane_of sight (call ∷ calls)) (lane_of after calls) same entries ∙ (more.end ∙ ap (λ (s : Sight). lane_of (after_calls setup s more.calls) []) (sym here));
      }
  by_call call calls goes sight None is [] replied gives = absurd (cc (ap next_at (sym (settled_by sight call calls None is)) ∙ gives))
  by_call call calls goes sight None is (e ∷ entries) replied gives =
      let same = settled_by sight call calls None is in
      let event : event_of sight call ≡ e.event = cc (ap next_at (sym same) ∙ gives.0) in
      let after : Sight = answered_by setup sight call e.reply.answer in
      let more = goes after entries (All-tail (IsReplied setup) e entries replied) (subst (λ (l : LaneState). GivesAll (after_at setup l e.reply) entries) same gives.1) in
      let here = after_is sight call e.reply.answer None is in
      record {
        calls = (call, e.reply.answer) ∷ more.calls;
        are = ap (λ cs. call ∷ cs) more.are;
        answered = All-cons IsAnsweredCall (call, e.reply.answer) more.calls (event_answered setup sight call e is event (All-head (IsReplied setup) e entries replied)) more.answered;
        end = ap (λ (l : LaneState). end_of (after_at setup l e.reply) entries) same ∙ (more.end ∙ ap (λ (s : Sight). lane_of (after_calls setup s more.calls) []) (sym here));
      }

  goes_through : (calls : List BoundCall) → Goes calls
  goes_through [] sight [] replied gives = record { calls = []; are = refl; answered = All-nil IsAnsweredCall; end = refl }
  goes_through [] sight (e ∷ entries) replied gives = absurd (cc (gives.0))
  goes_through (call ∷ calls) sight entries replied gives = by_call call calls (goes_through calls) sight (kept sight call) refl entries replied gives

pub lanes_go_through : LanesGoThrough
lanes_go_through setup lane entries replied gives = goes_through setup lane.left lane.sight entries replied gives
