-- The texture of each canvas of a lane was made for it, by an entry of a call of a canvas.
use Rattle.std.proofs.Common.{◌≡◌, ℕ, Option, Some, None, List, [], ◌∷◌, ◌++◌, map, refl, sym, subst, ◌∙◌, append_assoc, append-nil}
use Rattle.std.specs.Prelude.{All, option_map, option_and_then}
use Rattle.std.proofs.lemmas.List.Elements.{All-nil, All-cons, All-append}
use Rattle.wg_types.specs.Handles.{HandleValue}
use Rattle.wg_types.specs.Kinds.{kind_of}
use Rattle.wg_types.specs.declared.limits.Limits.{Limits}
use Rattle.wg_types.specs.declared.canvases.CanvasOf.{CanvasOf}
use Rattle.wg_types.specs.declared.handles.Info.{Info}
use Rattle.wg_trace.specs.declared.replies.Answer.{Answer}
use Rattle.wg_trace.specs.declared.replies.Answer.TheVariants.{Made}
use Rattle.wg_types.specs.declared.requests.RequestOf.{RequestOf}
use Rattle.wg_types.specs.declared.wanted.Kind.TheVariants as kinds
use Rattle.wg_history.specs.declared.events.Setup.{Setup}
use Rattle.wg_history.specs.Entries.{Entry}
use Rattle.wg_calls.specs.Calls.{event_asked, info_asked, handle_of, taken_out}
use Rattle.wg_script.specs.CallOf.{BoundCall}
use Rattle.wg_script.specs.declared.calls.CallOf.TheVariants.{Record, Ask, Canvas}
use Rattle.wg_play.specs.declared.objects.Object.{Object}
use Rattle.wg_play.specs.Canvases.{given_by}
use Rattle.wg_calls.specs.Encoders.{ended_by}
use Rattle.wg_play.specs.Objects.{object_of}
use Rattle.wg_play.specs.Sights.{Sight, place_in}
use Rattle.wg_play.specs.Lanes.{canvas_asks, command_seen, stand_seen, handle_kept}
use Rattle.wg_play.specs.Late.{after_call, after_calls}
use Rattle.wg_play.specs.Kept.{EachHandle}
use Rattle.wg_play.specs.Played.{PlayedCall, with_answer, IsDrawnAs, IsPlayedAs}
use Rattle.wg_play.proofs.Drawn.{recorder_has, noted_has, drawn_has}
use Rattle.wg_play.proofs.Following.{ended_on, with_kept, after_record, after_ask, after_canvas}
use Rattle.wg_play.proofs.Holding.{IsTexture, canvas_gives}
use Rattle.wg_play.proofs.Makers.{IsAnswer, handle_from}
use Rattle.wg_play.proofs.Counting.{IsMember}

-- one of these calls, which is of a canvas, has made a texture by its entry
pub record IsGivenBy (all : List PlayedCall) (texture : HandleValue) : Type 0 where
  pub call : CanvasOf ℕ
  pub made : Option ℕ
  pub entry : Entry
  pub there : IsMember {X = PlayedCall} (Canvas call made, Some entry) all
  pub answer : entry.reply.answer ≡ Made texture.reference.number texture.valid
  pub kind : kind_of texture.info ≡ kinds.Texture

abbrev pub GivenIf : List PlayedCall → Option HandleValue → Type 0
GivenIf all None = Unit {0}
GivenIf all (Some texture) = IsGivenBy all texture

abbrev pub Any : HandleValue → Type 0
Any handle = Unit {0}

abbrev pub Shows : List PlayedCall → List Object → Type 0
Shows all objects = All (EachHandle Any (GivenIf all)) objects

-- ---- what the device makes for a canvas

answer_of : (setup : Setup) (known : Option Info) (answer : Answer) (handle : HandleValue) → option_and_then (λ (x : Info). handle_of setup.serial x answer) known ≡ Some handle → IsAnswer setup answer handle
answer_of setup None answer handle e = absurd (cc (e))
answer_of setup (Some known) answer handle e = handle_from setup known answer handle e

given_answer : (setup : Setup) (asked : Option (RequestOf HandleValue)) (answer : Answer) (handle : HandleValue) → given_by setup asked answer ≡ Some handle → IsAnswer setup answer handle
given_answer setup None answer handle e = absurd (cc (e))
given_answer setup (Some request) answer handle e = answer_of setup (info_asked request) answer handle e

none_asked : (all : List PlayedCall) (setup : Setup) (asked : Option (RequestOf HandleValue)) (answer : Answer) → None ≡ option_map event_asked asked → GivenIf all (given_by setup asked answer)
none_asked all setup None answer e = tt
none_asked all setup (Some request) answer e = absurd (cc (e))

by_entry : (all : List PlayedCall) (setup : Setup) (sight : Sight) (call : CanvasOf ℕ) (made : Option ℕ) (entry : Entry) → IsMember {X = PlayedCall} (Canvas call made, Some entry) all
    → (found : Option HandleValue) → given_by setup (canvas_asks sight call) entry.reply.answer ≡ found → GivenIf all found
by_entry all setup sight call made entry there None e = tt
by_entry all setup sight call made entry there (Some texture) e = record {
  call = call;
  made = made;
  entry = entry;
  there = there;
  answer = (given_answer setup (canvas_asks sight call) entry.reply.answer texture e).1;
  kind = subst IsTexture e (canvas_gives setup sight call entry.reply.answer);
}

given_if : (all : List PlayedCall) (setup : Setup) (sight : Sight) (call : CanvasOf ℕ) (made : Option ℕ) (found : Option Entry) → IsMember {X = PlayedCall} (Canvas call made, found) all → IsDrawnAs sight call found
    → GivenIf all (given_by setup (canvas_asks sight call) (with_answer (Canvas call made, found)).1)
given_if all setup sight call made None there drawn = none_asked all setup (canvas_asks sight call) (with_answer (Canvas call made, None)).1 drawn
given_if all setup sight call made (Some entry) there drawn = by_entry all setup sight call made entry there (given_by setup (canvas_asks sight call) entry.reply.answer) refl

-- ---- calls of a lane, one after another

-- a call of a canvas was played as what it is
abbrev pub DrawnAs : Sight → BoundCall → Option Entry → Type 0
DrawnAs sight (Record on command made) found = Unit {0}
DrawnAs sight (Ask request made) found = Unit {0}
DrawnAs sight (Canvas call made) found = IsDrawnAs sight call found

pub drawn_so : (sight : Sight) (before : List BoundCall) (call : BoundCall) (found : Option Entry) → IsPlayedAs sight before call found → DrawnAs sight call found
drawn_so sight before (Record on command made) found how = tt
drawn_so sight before (Ask request made) found how = tt
drawn_so sight before (Canvas call made) found how = how

ended_shows : (all : List PlayedCall) (sight : Sight) (ended : Option ℕ) → Shows all sight.own → Shows all (ended_on sight ended)
ended_shows all sight None shows = shows
ended_shows all sight (Some encoder) shows = recorder_has Any (GivenIf all) tt taken_out sight.own (place_in sight encoder) shows

kept_shows : (all : List PlayedCall) (limits : Limits) (objects : List Object) (handle : Option HandleValue) → Shows all objects → Shows all (with_kept limits objects handle)
kept_shows all limits objects None shows = shows
kept_shows all limits objects (Some handle) shows =
    All-append (EachHandle Any (GivenIf all)) objects (object_of limits handle ∷ []) shows (All-cons (EachHandle Any (GivenIf all)) (object_of limits handle) [] tt (All-nil (EachHandle Any (GivenIf all))))

call_shows : (all : List PlayedCall) (setup : Setup) (sight : Sight) (call : BoundCall) (found : Option Entry) → IsMember {X = PlayedCall} (call, found) all → DrawnAs sight call found → Shows all sight.own
    → Shows all (after_call setup sight (with_answer (call, found))).own
call_shows all setup sight (Record on command made) found there drawn shows =
    subst (λ (s : Sight). Shows all s.own) (sym (after_record setup sight on command made (with_answer (Record on command made, found)).1))
    (noted_has Any (GivenIf all) tt sight.own (stand_seen sight on) (command_seen sight command) made shows)
call_shows all setup sight (Ask request made) found there drawn shows =
    let answer : Answer = (with_answer (Ask request made, found)).1 in
    subst (λ (s : Sight). Shows all s.own) (sym (after_ask setup sight request made answer))
    (kept_shows all setup.limits (ended_on sight (ended_by request)) (handle_kept setup sight request made answer) (ended_shows all sight (ended_by request) shows))
call_shows all setup sight (Canvas call made) found there drawn shows =
    let answer : Answer = (with_answer (Canvas call made, found)).1 in
    let given : Option HandleValue = given_by setup (canvas_asks sight call) answer in
    subst (λ (s : Sight). Shows all s.own) (sym (after_canvas setup sight call made answer))
    (drawn_has Any (GivenIf all) tt sight call made given (given_if all setup sight call made found there drawn) shows)

abbrev pub sight_with : Setup → Sight → List PlayedCall → Sight
sight_with setup start calls = after_calls setup start (map with_answer calls)

sight_more : (setup : Setup) (start : Sight) (calls : List PlayedCall) (call : PlayedCall) → sight_with setup start (calls ++ call ∷ []) ≡ after_call setup (sight_with setup start calls) (with_answer call)
sight_more setup start [] call = refl
sight_more setup start (first ∷ calls) call = sight_more setup (after_call setup start (with_answer first)) calls call

-- calls of these, each of which was played as what it is
pub record AreDrawn (all : List PlayedCall) (setup : Setup) (start : Sight) (calls : List PlayedCall) : Type 0 where
  pub drawn : (front : List PlayedCall) (call : PlayedCall) (back : List PlayedCall) → calls ≡ front ++ call ∷ back → DrawnAs (sight_with setup start front) call.0 call.1
  pub there : (front : List PlayedCall) (call : PlayedCall) (back : List PlayedCall) → calls ≡ front ++ call ∷ back → IsMember call all

all_show : (all : List PlayedCall) (setup : Setup) (start : Sight) (calls : List PlayedCall) → AreDrawn all setup start calls → (done rest : List PlayedCall) → calls ≡ done ++ rest
    → Shows all (sight_with setup start done).own → Shows all (sight_with setup start calls).own
all_show all setup start calls are done [] is shows =
    subst (λ (cs : List PlayedCall). Shows all (sight_with setup start cs).own) (sym (append-nil done) ∙ sym is) shows
all_show all setup start calls are done (call ∷ rest) is shows =
    all_show all setup start calls are (done ++ call ∷ []) rest (is ∙ sym (append_assoc done (call ∷ []) rest))
    (subst (λ (s : Sight). Shows all s.own) (sym (sight_more setup start done call))
    (call_shows all setup (sight_with setup start done) call.0 call.1 (are.there done call rest is) (are.drawn done call rest is) shows))

-- So it is of what a lane has made.
pub lane_shows : (all : List PlayedCall) (setup : Setup) (others : List Object) (first : ℕ) (calls : List PlayedCall) → AreDrawn all setup (record { others = others; first = first; own = [] }) calls
    → Shows all (sight_with setup (record { others = others; first = first; own = [] }) calls).own
lane_shows all setup others first calls are =
    all_show all setup (record { others = others; first = first; own = [] }) calls are [] calls refl (All-nil (EachHandle Any (GivenIf all)))
