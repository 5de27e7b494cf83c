-- What calls make: how many objects a lane has after a call, and what stands at the new place.
use Rattle.std.proofs.Common.{◌≡◌, ℕ, ◌+◌, nat_lt, Bool, true, false, Option, Some, None, List, [], ◌∷◌, ◌++◌, length, refl, sym, ap, ap₂, subst, ◌∙◌, ◌⊎◌, inl, inr, arith, if◌then◌else◌, true≢false}
use Rattle.std.specs.Prelude.{option_map, option_and_then, slice_get}
use Rattle.std.specs.Option.{option_map_or, option_to_list}
use Rattle.std.proofs.lemmas.Bool.Decides.{nat_tests}
use Rattle.std.proofs.lemmas.List.{length-append}
use Rattle.wg_types.specs.Handles.{HandleValue}
use Rattle.wg_types.specs.Kinds.{kind_of}
use Rattle.wg_types.specs.declared.limits.Limits.{Limits}
use Rattle.wg_types.specs.declared.handles.ObjRef.{ObjRef}
use Rattle.wg_types.specs.declared.handles.Info.{Info}
use Rattle.wg_types.specs.declared.handles.Info.TheVariants as info
use Rattle.wg_trace.specs.declared.replies.Answer.{Answer}
use Rattle.wg_types.specs.declared.wanted.Kind.{Kind}
use Rattle.wg_types.specs.declared.wanted.Kind.TheVariants as kind
use Rattle.wg_types.specs.declared.canvases.CanvasCall.{CanvasCall}
use Rattle.wg_types.specs.declared.canvases.CanvasCall.TheVariants.{Configure, Current, Present}
use Rattle.wg_types.specs.declared.canvases.CanvasOf.{CanvasOf}
use Rattle.wg_types.specs.declared.canvases.CanvasOf.TheVariants.{Create, On}
use Rattle.wg_types.specs.Canvases.{kind_shown}
use Rattle.wg_types.specs.declared.commands.On.TheVariants.{Encoder}
use Rattle.wg_types.specs.declared.commands.Bracket.{Bracket}
use Rattle.wg_types.specs.declared.commands.Bracket.TheVariants as brackets
use Rattle.wg_types.specs.declared.commands.CommandOf.{CommandOf}
use Rattle.wg_types.specs.Commands.{Command, map_refs, bracket, kind_begun_by, kind_begun, is_begin}
use Rattle.wg_types.specs.Requests.{kind_made}
use Rattle.wg_types.specs.declared.requests.RequestOf.{RequestOf}
use Rattle.wg_types.specs.declared.requests.RequestOf.TheVariants.{CreateBuffer, CreateTexture, CreateView, CreateSampler, CreateBindGroupLayout, CreatePipelineLayout, CreateBindGroup, CreateComputePipeline, CreateRenderPipeline, GetBindGroupLayout, CreateQuerySet, CreateEncoder, CreateBundleEncoder, Finish, FinishBundle, Submit, WriteBuffer, WriteTexture, Destroy, Drop, Complete, PushErrorScope, PopErrorScope, Lose, WorkDone, MapAsync, Unmap}
use Rattle.wg_canvas.specs.Canvases.{acted, texture_of}
use Rattle.wg_encoder.specs.Recorders.{RecorderValue, has_taken}
use Rattle.wg_history.specs.declared.events.Setup.{Setup}
use Rattle.wg_calls.specs.Calls.{opened_for, opened_with}
use Rattle.wg_script.specs.CallOf.{BoundCall}
use Rattle.wg_script.specs.declared.calls.CallOf.TheVariants.{Record, Ask, Canvas}
use Rattle.wg_names.specs.Uses.{made_as, made_of}
use Rattle.wg_names.specs.Bound.{made_by}
use Rattle.wg_play.specs.declared.objects.Object.{Object}
use Rattle.wg_play.specs.declared.objects.Object.TheVariants as object
use Rattle.wg_play.specs.declared.objects.Stand.{Stand}
use Rattle.wg_play.specs.Canvases.{canvas_at, given_by, acted_at, shown_by, shown_at}
use Rattle.wg_calls.specs.Encoders.{ended_by, recorder_of}
use Rattle.wg_play.specs.Objects.{recorder_at, with_recorder, recorded_by, recorded_on, passes_at, begun_by, object_of}
use Rattle.wg_play.specs.Sights.{Sight, place_in, handle_in_sight}
use Rattle.wg_play.specs.Lanes.{canvas_asks, new_canvas, drawn, command_seen, stand_seen, handle_kept}
use Rattle.wg_play.specs.Found.{is_pass, has_recorder, recorder_kind}
use Rattle.wg_play.specs.Late.{IsAnswerTo, after_call}
use Rattle.wg_play.proofs.Slots.{own_recorder, length_with, at_new, recorder_new, recorder_append, stand_encoder}
use Rattle.wg_play.proofs.Redrawn.{redrawn_length}
use Rattle.wg_play.proofs.Following.{ended_on, with_kept, after_record, after_ask, after_canvas, FitsSlot, handle_fits, fits_length, MakesAs, same_kind, handle_kind}
use Rattle.wg_play.proofs.Lateness.{ended_length}
use Rattle.wg_play.proofs.Places.{bracket_mapped, begins_by}

-- ---- how many objects there are

begun_length : (objects : List Object) (encoder : ℕ) (command : Command) (made : Option ℕ) (found : Option Kind) → kind_begun command ≡ found → length (begun_by objects encoder command made) ≡ length (option_to_list (made_as made found))
begun_length objects encoder command None found e = refl
begun_length objects encoder command (Some slot) None e = rw e refl
begun_length objects encoder command (Some slot) (Some k) e = rw e refl

pub begun_mapped : (f : ℕ → HandleValue) (command : CommandOf ℕ) → kind_begun (map_refs f command) ≡ kind_begun command
begun_mapped f command = ap kind_begun_by (bracket_mapped f command)

new_length : (width height : ℕ) (made : Option ℕ) → length (new_canvas width height made) ≡ length (option_to_list (made_as made (Some kind.Canvas)))
new_length width height None = refl
new_length width height (Some slot) = refl

shown_length : (call : CanvasCall) (made : Option ℕ) (texture : Option HandleValue) → length (shown_by call made texture) ≡ length (option_to_list (made_as made (kind_shown call)))
shown_length (Configure format usage) None texture = refl
shown_length (Configure format usage) (Some slot) texture = refl
shown_length Current None texture = refl
shown_length Current (Some slot) texture = refl
shown_length Present None texture = refl
shown_length Present (Some slot) texture = refl

drawn_length : (sight : Sight) (call : CanvasOf ℕ) (made : Option ℕ) (given : Option HandleValue) → length (drawn sight call made given).own ≡ length sight.own + length (made_by (Canvas call made))
drawn_length sight (Create width height) made given =
    length-append sight.own (new_canvas width height made) ∙ ap (λ n. length sight.own + n) (new_length width height made)
drawn_length sight (On canvas call) made given =
    let at : ℕ = place_in sight canvas in
    let objects : List Object = acted_at sight.own at call given in
    length-append objects (shown_at objects at call made)
    ∙ ap₂ (λ (m n : ℕ). m + n) (redrawn_length (λ found. acted found call given) sight.own at) (shown_length call made (option_and_then texture_of (canvas_at objects at)))

pub call_length : (setup : Setup) (sight : Sight) (call : BoundCall) (answer : Answer) → IsAnswerTo call answer
    → length (after_call setup sight (call, answer)).own ≡ length sight.own + length (made_by call)
call_length setup sight (Record on command made) answer answered =
    let stand : Stand = stand_seen sight on in
    let found : Command = command_seen sight command in
    let one : length (after_call setup sight (Record on command made, answer)).own ≡ length (recorded_on sight.own stand found) + length (begun_by sight.own stand.encoder found made)
    = ap (λ (s : Sight). length s.own) (after_record setup sight on command made answer) ∙ length-append (recorded_on sight.own stand found) (begun_by sight.own stand.encoder found made) in
    let same : length (recorded_on sight.own stand found) ≡ length sight.own = length_with (recorded_by stand.on found) sight.own stand.encoder in
    let more : length (begun_by sight.own stand.encoder found made) ≡ length (made_by (Record on command made))
    = begun_length sight.own stand.encoder found made (kind_begun command) (begun_mapped (handle_in_sight sight) command) in
    one ∙ omega (arith, same, more)
call_length setup sight (Ask request made) answer answered =
    let one : length (after_call setup sight (Ask request made, answer)).own ≡ length (ended_on sight (ended_by request)) + length (made_by (Ask request made))
    = ap (λ (s : Sight). length s.own) (after_ask setup sight request made answer)
    ∙ fits_length setup.limits (ended_on sight (ended_by request)) (handle_kept setup sight request made answer) (made_of (Ask request made)) (handle_fits setup sight request made answer answered) in
    let same : length (ended_on sight (ended_by request)) ≡ length sight.own = ended_length sight (ended_by request) in
    one ∙ omega (arith, same)
call_length setup sight (Canvas call made) answer answered =
    ap (λ (s : Sight). length s.own) (after_canvas setup sight call made answer) ∙ drawn_length sight call made (given_by setup (canvas_asks sight call) answer)

-- ---- the encoder that a call makes

-- it has not ended
pub record Fresh (objects : List Object) (slot : ℕ) : Type 0 where
  pub recorder : RecorderValue
  pub is : recorder_at objects slot ≡ Some recorder
  pub unended : has_taken recorder ≡ false

-- the recorder of an encoder that was made is open for it, and of its kind
pub record Opens (limits : Limits) (reference : ObjRef) (known : Info) : Type 0 where
  pub recorder : RecorderValue
  pub is : recorder_of limits reference known ≡ Some recorder
  pub open_for : recorder.encoder ≡ Some reference
  pub kind_is : recorder_kind recorder ≡ kind_of known
  pub unended : has_taken recorder ≡ false

pub opens : (limits : Limits) (reference : ObjRef) (known : Info) → has_recorder (kind_of known) ≡ true → Opens limits reference known
opens limits reference info.Encoder e = record { recorder = opened_for limits reference; is = refl; open_for = refl; kind_is = refl; unended = refl }
opens limits reference (info.BundleEncoder targets) e = record { recorder = opened_with limits targets reference; is = refl; open_for = refl; kind_is = refl; unended = refl }
opens limits reference (info.Buffer known) e = absurd (cc)
opens limits reference (info.Texture known) e = absurd (cc)
opens limits reference (info.View known) e = absurd (cc)
opens limits reference (info.Sampler known) e = absurd (cc)
opens limits reference (info.GroupLayout known) e = absurd (cc)
opens limits reference (info.PipelineLayout known) e = absurd (cc)
opens limits reference (info.Group known) e = absurd (cc)
opens limits reference (info.Compute known) e = absurd (cc)
opens limits reference (info.Render known) e = absurd (cc)
opens limits reference (info.Queries known) e = absurd (cc)
opens limits reference info.CommandBuffer e = absurd (cc)
opens limits reference (info.Bundle known) e = absurd (cc)

encoder_new : (limits : Limits) (objects : List Object) (handle : Option HandleValue) (on : ℕ) (k : Kind) → has_recorder k ≡ true → FitsSlot handle (Some (on, k)) → ((h : HandleValue) → handle ≡ Some h → kind_of h.info ≡ k)
    → Fresh (with_kept limits objects handle) (length objects)
encoder_new limits objects None on k p fits kind = absurd fits
encoder_new limits objects (Some handle) on k p fits kind =
    let new = opens limits handle.reference handle.info (ap has_recorder (kind handle refl) ∙ p) in
    record {
      recorder = new.recorder;
      is = recorder_new objects (object_of limits handle) ∙ new.is;
      unended = new.unended;
    }

not_recorded : (x k : Kind) → has_recorder x ≡ false → Some x ≡ Some k → has_recorder k ≡ true → ⊥
not_recorded x k none e p = let same : x ≡ k = cc (e) in true≢false (sym p ∙ (sym (ap has_recorder same) ∙ none))

pub no_encoder : (b : Bracket) (slot on : ℕ) (k : Kind) → has_recorder k ≡ true → made_as (Some slot) (kind_begun_by b) ≡ Some (on, k) → ⊥
no_encoder brackets.BeginComputePass slot on k p e = not_recorded kind.ComputePass k refl (same_kind slot on (Some kind.ComputePass) k e) p
no_encoder brackets.BeginRenderPass slot on k p e = not_recorded kind.RenderPass k refl (same_kind slot on (Some kind.RenderPass) k e) p
no_encoder brackets.EndPass slot on k p e = cc
no_encoder brackets.PushGroup slot on k p e = cc
no_encoder brackets.PopGroup slot on k p e = cc
no_encoder brackets.Neither slot on k p e = cc

-- no call of a canvas makes an encoder or a pass
pub makes_canvas : (call : CanvasOf ℕ) (made : Option ℕ) (on : ℕ) (k : Kind) → made_of (Canvas call made) ≡ Some (on, k) → (k ≡ kind.Canvas) ⊎ (k ≡ kind.CanvasTexture)
makes_canvas call None on k e = absurd (cc (e))
makes_canvas (Create width height) (Some slot) on k e = let same : Some kind.Canvas ≡ Some k = same_kind slot on (Some kind.Canvas) k e in inl (cc (same))
makes_canvas (On canvas (Configure format usage)) (Some slot) on k e = absurd (cc (e))
makes_canvas (On canvas Current) (Some slot) on k e = let same : Some kind.CanvasTexture ≡ Some k = same_kind slot on (Some kind.CanvasTexture) k e in inr (cc (same))
makes_canvas (On canvas Present) (Some slot) on k e = absurd (cc (e))

not_either : (test : Kind → Bool) (k : Kind) → test kind.Canvas ≡ false → test kind.CanvasTexture ≡ false → (k ≡ kind.Canvas) ⊎ (k ≡ kind.CanvasTexture) → test k ≡ true → ⊥
not_either test k first second (inl same) p = true≢false (sym p ∙ (ap test same ∙ first))
not_either test k first second (inr same) p = true≢false (sym p ∙ (ap test same ∙ second))

pub canvas_no_encoder : (call : CanvasOf ℕ) (made : Option ℕ) (on : ℕ) (k : Kind) → has_recorder k ≡ true → made_of (Canvas call made) ≡ Some (on, k) → ⊥
canvas_no_encoder call made on k p e = not_either has_recorder k refl refl (makes_canvas call made on k e) p

canvas_no_pass : (call : CanvasOf ℕ) (made : Option ℕ) (on : ℕ) (k : Kind) → is_pass k ≡ true → made_of (Canvas call made) ≡ Some (on, k) → ⊥
canvas_no_pass call made on k p e = not_either is_pass k refl refl (makes_canvas call made on k e) p

pub encoder_made : (setup : Setup) (sight : Sight) (call : BoundCall) (answer : Answer) (on : ℕ) (k : Kind) → has_recorder k ≡ true → IsAnswerTo call answer → MakesAs sight call → made_of call ≡ Some (on, k)
    → Fresh (after_call setup sight (call, answer)).own (length sight.own)
encoder_made setup sight (Record stand command None) answer on k p answered fit e = absurd (cc)
encoder_made setup sight (Record stand command (Some slot)) answer on k p answered fit e = absurd (no_encoder (bracket command) slot on k p e)
encoder_made setup sight (Ask request made) answer on k p answered fit e =
    let handle : Option HandleValue = handle_kept setup sight request made answer in
    let fits : FitsSlot handle (Some (on, k)) = subst (FitsSlot handle) e (handle_fits setup sight request made answer answered) in
    subst (λ (s : Sight). Fresh s.own (length sight.own)) (sym (after_ask setup sight request made answer))
    (subst (λ n. Fresh (with_kept setup.limits (ended_on sight (ended_by request)) handle) n) (ended_length sight (ended_by request))
    (encoder_new setup.limits (ended_on sight (ended_by request)) handle on k p fits (handle_kind setup sight request made answer on k fit e)))
encoder_made setup sight (Canvas call made) answer on k p answered fit e = absurd (canvas_no_encoder call made on k p e)

-- ---- the pass that a call makes

no_pass_made : (request : RequestOf ℕ) → option_map_or is_pass (kind_made request) false ≡ false
no_pass_made (CreateBuffer known) = refl
no_pass_made (CreateTexture known) = refl
no_pass_made (CreateView texture asked) = refl
no_pass_made (CreateSampler known) = refl
no_pass_made (CreateBindGroupLayout entries) = refl
no_pass_made (CreatePipelineLayout layouts) = refl
no_pass_made (CreateBindGroup layout entries) = refl
no_pass_made (CreateComputePipeline layout iface) = refl
no_pass_made (CreateRenderPipeline layout desc) = refl
no_pass_made (GetBindGroupLayout pipeline index) = refl
no_pass_made (CreateQuerySet known) = refl
no_pass_made CreateEncoder = refl
no_pass_made (CreateBundleEncoder targets) = refl
no_pass_made (Finish encoder) = refl
no_pass_made (FinishBundle encoder) = refl
no_pass_made (Submit buffers) = refl
no_pass_made (WriteBuffer buffer offset size) = refl
no_pass_made (WriteTexture texture spot layout size data_size) = refl
no_pass_made (Destroy object) = refl
no_pass_made (Drop object) = refl
no_pass_made (Complete op) = refl
no_pass_made (PushErrorScope filter) = refl
no_pass_made PopErrorScope = refl
no_pass_made Lose = refl
no_pass_made WorkDone = refl
no_pass_made (MapAsync buffer mode offset size) = refl
no_pass_made (Unmap buffer) = refl

no_pass : (request : RequestOf ℕ) (k : Kind) → is_pass k ≡ true → kind_made request ≡ Some k → ⊥
no_pass request k p e = true≢false (sym p ∙ (sym (ap (λ found. option_map_or is_pass found false) e) ∙ no_pass_made request))

-- The call that makes a pass begins one.
pub record Begins (call : BoundCall) : Type 0 where
  pub on : ℕ
  pub command : CommandOf ℕ
  pub slot : ℕ
  pub is : call ≡ Record on command (Some slot)
  pub kind : Kind
  pub kind_is : kind_begun command ≡ Some kind

pub pass_made : (call : BoundCall) (at : ℕ) (k : Kind) → is_pass k ≡ true → made_of call ≡ Some (at, k) → Begins call
pass_made (Record on command None) at k p e = absurd (cc)
pass_made (Record on command (Some slot)) at k p e = record { on = on; command = command; slot = slot; is = refl; kind = k; kind_is = same_kind slot at (kind_begun command) k e }
pass_made (Ask request None) at k p e = absurd (cc)
pass_made (Ask request (Some slot)) at k p e = absurd (no_pass request k p (same_kind slot at (kind_made request) k e))
pass_made (Canvas call made) at k p e = absurd (canvas_no_pass call made at k p e)

-- A pass that was begun, and its encoder's recorder.
pub record Begun (objects : List Object) (slot on : ℕ) (old : RecorderValue) : Type 0 where
  pub is : slice_get objects slot ≡ Some (object.Pass on old.passes)
  pub recorder : RecorderValue
  pub recorder_is : recorder_at objects on ≡ Some recorder
  pub taken : has_taken recorder ≡ has_taken old
  pub begun : nat_lt old.passes recorder.passes ≡ true

begun_is : (objects : List Object) (on slot : ℕ) (command : Command) (r : RecorderValue) (kind_of : Kind) → recorder_at objects on ≡ Some r → kind_begun command ≡ Some kind_of
    → begun_by objects on command (Some slot) ≡ object.Pass on r.passes ∷ []
begun_is objects on slot command r kind_of e k =
    ap (λ (found : Option Kind). option_map_or (λ (x : Kind). object.Pass on (passes_at objects on) ∷ []) found []) k
    ∙ ap (λ (found : Option RecorderValue). object.Pass on (option_map_or (λ (recorder : RecorderValue). recorder.passes) found 0) ∷ []) e

next : (n : ℕ) (b : Bool) → b ≡ true → nat_lt n (if b then n + 1 else n) ≡ true
next n true e = grind (arith, nat_tests)
next n false e = absurd (cc)

begun_at : (objects : List Object) (on : ℕ) (command : Command) (r : RecorderValue) (kind_of : Kind) → recorder_at objects on ≡ Some r → kind_begun command ≡ Some kind_of
    → Begun (with_recorder objects on (recorded_by Encoder command) ++ object.Pass on r.passes ∷ []) (length objects) on r
begun_at objects on command r kind_of e k =
    let kept : List Object = with_recorder objects on (recorded_by Encoder command) in
    let count : length kept ≡ length objects = length_with (recorded_by Encoder command) objects on in
    record {
      is = subst (λ n. slice_get (kept ++ object.Pass on r.passes ∷ []) n ≡ Some (object.Pass on r.passes)) count (at_new kept (object.Pass on r.passes));
      recorder = recorded_by Encoder command r;
      recorder_is = recorder_append kept (object.Pass on r.passes ∷ []) on (recorded_by Encoder command r) (own_recorder (recorded_by Encoder command) objects on ∙ ap (option_map (recorded_by Encoder command)) e);
      taken = refl;
      begun = next r.passes (is_begin command) (begins_by (bracket command) kind_of k);
    }

pub pass_begun : (setup : Setup) (sight : Sight) (on slot : ℕ) (command : CommandOf ℕ) (answer : Answer) (r : RecorderValue) (kind_of : Kind) → recorder_at sight.own (place_in sight on) ≡ Some r → kind_begun command ≡ Some kind_of
    → Begun (after_call setup sight (Record on command (Some slot), answer)).own (length sight.own) (place_in sight on) r
pass_begun setup sight on slot command answer r kind_of e k =
    let found : Command = command_seen sight command in
    let place : ℕ = place_in sight on in
    let begins : kind_begun found ≡ Some kind_of = begun_mapped (handle_in_sight sight) command ∙ k in
    let whole : (after_call setup sight (Record on command (Some slot), answer)).own ≡ with_recorder sight.own place (recorded_by Encoder found) ++ object.Pass place r.passes ∷ []
    = ap (λ (s : Sight). s.own) (after_record setup sight on command (Some slot) answer)
    ∙ (ap (λ (stand : Stand). recorded_on sight.own stand found ++ begun_by sight.own stand.encoder found (Some slot)) (stand_encoder sight.own place r e)
    ∙ ap (λ (pass : List Object). with_recorder sight.own place (recorded_by Encoder found) ++ pass) (begun_is sight.own place slot found r kind_of e begins)) in
    subst (λ objects. Begun objects (length sight.own) place r) (sym whole) (begun_at sight.own place found r kind_of e begins)
