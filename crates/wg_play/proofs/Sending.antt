-- What a call ends is its own lane's, and has a recorder of the kind that the call ends: so its event has the verb of the call, and
-- what is known of that which it makes is of the kind that the call makes.
use Rattle.std.proofs.Common.{◌≡◌, ℕ, true, Option, Some, None, [], ◌∷◌, refl, sym, ap, subst, ◌∙◌, inl, inr, if◌then◌else◌, true≢false}
use Rattle.std.specs.Prelude.{All, Contains, List, is_some, option_map, option_and_then, slice_get}
use Rattle.std.specs.Option.{option_map_or}
use Rattle.std.proofs.lemmas.List.Elements.{All-head}
use Rattle.wg_types.specs.Kinds.{kind_of}
use Rattle.wg_types.specs.Requests.{kind_made, named as asked_of}
use Rattle.wg_types.specs.declared.handles.ObjRef.{ObjRef}
use Rattle.wg_types.specs.declared.handles.Info.{Info}
use Rattle.wg_types.specs.declared.render.TargetInfo.{TargetInfo}
use Rattle.wg_types.specs.declared.canvases.CanvasOf.{CanvasOf}
use Rattle.wg_types.specs.declared.requests.RequestOf.{RequestOf}
use Rattle.wg_types.specs.declared.requests.RequestOf.TheVariants.{Finish, FinishBundle}
use Rattle.wg_types.specs.declared.wanted.Kind.{Kind}
use Rattle.wg_types.specs.declared.wanted.Kind.TheVariants as kinds
use Rattle.wg_types.specs.declared.wanted.Wanted.TheVariants as wanted
use Rattle.wg_types.specs.declared.words.Word.TheVariants as word
use Rattle.wg_encoder.specs.Recorders.{RecorderValue, RecordingValue}
use Rattle.wg_history.specs.declared.events.Event.{Event}
use Rattle.wg_types.specs.declared.words.Verb.{Verb}
use Rattle.wg_types.specs.declared.words.Verb.TheVariants.{Call}
use Rattle.wg_history.specs.Entries.{verb_of}
use Rattle.wg_calls.specs.Calls.{event_asked, info_asked, finish_event, finished_info, recording_of, finish_of, known_of_finish}
use Rattle.wg_script.specs.CallOf.{BoundCall}
use Rattle.wg_script.specs.declared.calls.CallOf.TheVariants.{Record, Ask, Canvas}
use Rattle.wg_names.specs.Bound.{IsFound, CallIsBound}
use Rattle.wg_play.specs.declared.objects.Object.{Object}
use Rattle.wg_play.specs.declared.objects.Object.TheVariants as object
use Rattle.wg_calls.specs.Encoders.{ended_by}
use Rattle.wg_play.specs.Objects.{unknown, handle_in, recorder_in, reference_at, recorder_at}
use Rattle.wg_play.specs.Sights.{Sight, place_in, handle_in_sight}
use Rattle.wg_play.specs.Lanes.{finish_by, finish_known, request_seen, event_sent, info_sent}
use Rattle.wg_play.specs.Found.{is_pass, has_recorder, IsOpenAs, IsOf, StandsAt, CanvasIsSeen}
use Rattle.wg_play.proofs.Ended.{is_finish}
use Rattle.wg_play.proofs.Following.{info_kind, MakesAs}
use Rattle.wg_play.proofs.Numbered.{Slots}
use Rattle.wg_play.proofs.Places.{is_encoder, is_bundle_encoder}

-- ---- the encoder that a call ends

-- it is the lane's own
pub record IsEnded (ours : Slots) (encoder : ℕ) : Type 0 where
  pub kind : Kind
  pub recorded : has_recorder kind ≡ true
  pub own : Contains ours (encoder, kind)

ends_encoder : (made ours : Slots) (encoder : ℕ) → All (IsFound made ours) ((encoder, wanted.Encoder) ∷ []) → Contains ours (encoder, kinds.Encoder)
ends_encoder made ours encoder all =
    let found = All-head (IsFound made ours) (encoder, wanted.Encoder) [] all in
    subst (λ k. Contains ours (encoder, k)) (is_encoder found.kind found.fits) (found.own refl)

ends_bundle_encoder : (made ours : Slots) (encoder : ℕ) → All (IsFound made ours) ((encoder, wanted.BundleEncoder) ∷ []) → Contains ours (encoder, kinds.BundleEncoder)
ends_bundle_encoder made ours encoder all =
    let found = All-head (IsFound made ours) (encoder, wanted.BundleEncoder) [] all in
    subst (λ k. Contains ours (encoder, k)) (is_bundle_encoder found.kind found.fits) (found.own refl)

pub finish_own : (made ours : Slots) (request : RequestOf ℕ) (encoder : ℕ) → All (IsFound made ours) (asked_of request) → ended_by request ≡ Some encoder → IsEnded ours encoder
finish_own made ours request encoder all e = elim (is_finish request encoder e) [
  | inl same ↦ record {
    kind = kinds.Encoder;
    recorded = refl;
    own = ends_encoder made ours encoder (subst (λ (r : RequestOf ℕ). All (IsFound made ours) (asked_of r)) same all);
  }
  | inr same ↦ record {
    kind = kinds.BundleEncoder;
    recorded = refl;
    own = ends_bundle_encoder made ours encoder (subst (λ (r : RequestOf ℕ). All (IsFound made ours) (asked_of r)) same all);
  }
]

-- ---- its recorder

no_pass : (k : Kind) → has_recorder k ≡ true → is_pass k ≡ true → ⊥
no_pass kinds.Encoder p q = cc (q)
no_pass kinds.BundleEncoder p q = cc (q)
no_pass _ p q = cc (p)

open_in : (k : Kind) (what : Object) (found : Option Object) → has_recorder k ≡ true → found ≡ Some what → IsOf k what → IsOpenAs k (option_map_or handle_in found unknown).reference (option_and_then recorder_in found)
open_in k (object.Pass encoder number) found p is of = absurd (no_pass k p of)
open_in k (object.Canvas canvas) found p is of = absurd (true≢false (sym p ∙ ap has_recorder of.0))
open_in k (object.Shown texture) found p is of = absurd (true≢false (sym p ∙ ap has_recorder of.0))
open_in k (object.Made handle recorder) found p is of =
    subst (λ (o : Option Object). IsOpenAs k (option_map_or handle_in o unknown).reference (option_and_then recorder_in o)) (sym is) (of.1 p)

pub open_at : (objects : List Object) (place : ℕ) (k : Kind) → has_recorder k ≡ true → StandsAt objects place k → IsOpenAs k (reference_at objects place) (recorder_at objects place)
open_at objects place k p was = open_in k was.what (slice_get objects place) p was.is was.of

-- ---- what it gives

pub record SendsAs (sight : Sight) (request : RequestOf ℕ) : Type 0 where
  pub verb : verb_of (event_sent sight request) ≡ verb_of (event_asked (request_seen sight request))
  pub makes : option_map kind_of (info_sent sight request) ≡ kind_made request

abbrev kind_by : Option TargetInfo → Kind
kind_by targets = if is_some targets then kinds.BundleEncoder else kinds.Encoder

encoder_verb : (targets : Option TargetInfo) (encoder : ObjRef) (recording : RecordingValue) → kind_by targets ≡ kinds.Encoder → verb_of (finish_event targets encoder recording) ≡ Call word.Finish
encoder_verb None encoder recording e = refl
encoder_verb (Some targets) encoder recording e = absurd (cc (e))

encoder_makes : (targets : Option TargetInfo) (recording : RecordingValue) → kind_by targets ≡ kinds.Encoder → kind_of (finished_info targets recording) ≡ kinds.CommandBuffer
encoder_makes None recording e = refl
encoder_makes (Some targets) recording e = absurd (cc (e))

bundle_verb : (targets : Option TargetInfo) (encoder : ObjRef) (recording : RecordingValue) → kind_by targets ≡ kinds.BundleEncoder → verb_of (finish_event targets encoder recording) ≡ Call word.FinishBundle
bundle_verb None encoder recording e = absurd (cc (e))
bundle_verb (Some targets) encoder recording e = refl

bundle_makes : (targets : Option TargetInfo) (recording : RecordingValue) → kind_by targets ≡ kinds.BundleEncoder → kind_of (finished_info targets recording) ≡ kinds.Bundle
bundle_makes None recording e = absurd (cc (e))
bundle_makes (Some targets) recording e = refl

verb_by : (k : Kind) (encoder : ObjRef) (found : Option RecorderValue) (other : Event) (verb : Verb)
    → ((targets : Option TargetInfo) (recording : RecordingValue) → kind_by targets ≡ k → verb_of (finish_event targets encoder recording) ≡ verb)
    → IsOpenAs k encoder found → verb_of (finish_by found other) ≡ verb
verb_by k encoder found other verb ends at =
    let recorder : RecorderValue = at.is_open.recorder in
    ap (λ (o : Option RecorderValue). verb_of (finish_by o other)) at.is_open.is
    ∙ (ap (λ (o : Option ObjRef). verb_of (option_map_or (λ e. finish_of e recorder) o other)) at.is_open.open_for ∙ ends recorder.targets (recording_of recorder) at.kind_is)

makes_by : (k : Kind) (encoder : ObjRef) (found : Option RecorderValue) (other : Option Info) (made : Kind)
    → ((targets : Option TargetInfo) (recording : RecordingValue) → kind_by targets ≡ k → kind_of (finished_info targets recording) ≡ made)
    → IsOpenAs k encoder found → option_map kind_of (finish_known found other) ≡ Some made
makes_by k encoder found other made ends at =
    let recorder : RecorderValue = at.is_open.recorder in
    ap (λ (o : Option RecorderValue). option_map kind_of (finish_known o other)) at.is_open.is
    ∙ (ap (λ (o : Option ObjRef). option_map kind_of (option_map_or (λ e. Some (known_of_finish recorder)) o other)) at.is_open.open_for
    ∙ ap (λ x. Some x) (ends recorder.targets (recording_of recorder) at.kind_is))

finish_sends : (sight : Sight) (slot : ℕ) → StandsAt sight.own (place_in sight slot) kinds.Encoder → SendsAs sight (Finish slot)
finish_sends sight slot was =
    let place : ℕ = place_in sight slot in
    let encoder : ObjRef = reference_at sight.own place in
    let at = open_at sight.own place kinds.Encoder refl was in
    record {
      verb = verb_by kinds.Encoder encoder (recorder_at sight.own place) (event_asked (request_seen sight (Finish slot))) (Call word.Finish) (λ targets. encoder_verb targets encoder) at;
      makes = makes_by kinds.Encoder encoder (recorder_at sight.own place) (info_asked (request_seen sight (Finish slot))) kinds.CommandBuffer encoder_makes at;
    }

bundle_sends : (sight : Sight) (slot : ℕ) → StandsAt sight.own (place_in sight slot) kinds.BundleEncoder → SendsAs sight (FinishBundle slot)
bundle_sends sight slot was =
    let place : ℕ = place_in sight slot in
    let encoder : ObjRef = reference_at sight.own place in
    let at = open_at sight.own place kinds.BundleEncoder refl was in
    record {
      verb = verb_by kinds.BundleEncoder encoder (recorder_at sight.own place) (event_asked (request_seen sight (FinishBundle slot))) (Call word.FinishBundle) (λ targets. bundle_verb targets encoder) at;
      makes = makes_by kinds.BundleEncoder encoder (recorder_at sight.own place) (info_asked (request_seen sight (FinishBundle slot))) kinds.Bundle bundle_makes at;
    }

-- the encoders of the lane's own stand at their places
abbrev pub OwnsEncoders : Sight → Slots → Type 0
OwnsEncoders sight ours = (slot : ℕ) (k : Kind) → has_recorder k ≡ true → Contains ours (slot, k) → StandsAt sight.own (place_in sight slot) k

pub sends_as : (sight : Sight) (made ours : Slots) (request : RequestOf ℕ) → OwnsEncoders sight ours → All (IsFound made ours) (asked_of request) → SendsAs sight request
sends_as sight made ours request owns all = by_ended (ended_by request) refl
  where
    event : Event
    event = event_asked (request_seen sight request)

    known : Option Info
    known = info_asked (request_seen sight request)

    by_ended : (ended : Option ℕ) → ended_by request ≡ ended → SendsAs sight request
    by_ended None none = record {
      verb = ap (λ (o : Option ℕ). verb_of (option_map_or (λ encoder. finish_by (recorder_at sight.own (place_in sight encoder)) event) o event)) none;
      makes = ap (λ (o : Option ℕ). option_map kind_of (option_map_or (λ encoder. finish_known (recorder_at sight.own (place_in sight encoder)) known) o known)) none
          ∙ info_kind (handle_in_sight sight) request;
    }
    by_ended (Some encoder) ends = elim (is_finish request encoder ends) [
      | inl same ↦ subst (λ (r : RequestOf ℕ). SendsAs sight r) (sym same)
          (finish_sends sight encoder (owns encoder kinds.Encoder refl (ends_encoder made ours encoder (subst (λ (r : RequestOf ℕ). All (IsFound made ours) (asked_of r)) same all))))
      | inr same ↦ subst (λ (r : RequestOf ℕ). SendsAs sight r) (sym same)
          (bundle_sends sight encoder (owns encoder kinds.BundleEncoder refl (ends_bundle_encoder made ours encoder (subst (λ (r : RequestOf ℕ). All (IsFound made ours) (asked_of r)) same all))))
    ]

-- and what a call of a canvas finds is seen
abbrev pub CanvasSeen : Sight → BoundCall → Type 0
CanvasSeen sight call = (asked : CanvasOf ℕ) (made : Option ℕ) → call ≡ Canvas asked made → CanvasIsSeen sight asked

pub makes_as : (sight : Sight) (made ours : Slots) (call : BoundCall) → OwnsEncoders sight ours → CanvasSeen sight call → CallIsBound made ours call → MakesAs sight call
makes_as sight made ours (Record on command slot) owns seen bound = tt
makes_as sight made ours (Ask request slot) owns seen bound = (sends_as sight made ours request owns bound).makes
makes_as sight made ours (Canvas call slot) owns seen bound = seen call slot refl
