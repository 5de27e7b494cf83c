-- The calls of a lane as they were played: what each became, and what the lane sees after them.
use Rattle.std.proofs.Common.{◌≡◌, ℕ, zero, suc, Bool, true, false, Option, Some, None, List, [], ◌∷◌, ◌++◌, map, refl, sym, ap, subst, ◌∙◌, if◌then◌else◌}
use Rattle.std.specs.Prelude.{All, option_map}
use Rattle.std.specs.Option.{option_map_or, option_to_list}
use Rattle.std.proofs.lemmas.List.Elements.{All-nil, All-cons, All-head, All-tail}
use Rattle.wg_types.specs.Handles.{HandleValue}
use Rattle.wg_types.specs.Commands.{Command}
use Rattle.wg_types.specs.declared.canvases.CanvasOf.{CanvasOf}
use Rattle.wg_types.specs.declared.commands.CommandOf.{CommandOf}
use Rattle.wg_types.specs.declared.requests.RequestOf.{RequestOf}
use Rattle.wg_encoder.specs.Recorders.{RecorderValue}
use Rattle.wg_history.specs.declared.events.Event.{Event}
use Rattle.wg_history.specs.declared.events.Event.TheVariants.{Late}
use Rattle.wg_history.specs.declared.events.Setup.{Setup}
use Rattle.wg_history.specs.Entries.{Entry, Past, verb_of}
use Rattle.wg_history.specs.Rules.{is_genuine}
use Rattle.wg_calls.specs.Calls.{event_asked}
use Rattle.wg_script.specs.CallOf.{BoundCall}
use Rattle.wg_script.specs.declared.calls.CallOf.TheVariants.{Record, Ask, Canvas}
use Rattle.wg_play.specs.declared.objects.Object.{Object}
use Rattle.wg_play.specs.declared.objects.Object.TheVariants as object
use Rattle.wg_play.specs.declared.objects.Stand.{Stand}
use Rattle.wg_play.specs.Objects.{unknown, changed, with_recorder, recorded_by, recorded_on, begun_by, is_late_on}
use Rattle.wg_play.specs.Sights.{Sight}
use Rattle.wg_play.specs.Lanes.{LaneState, canvas_asks, drawn, kept, settled, settle, next_at, answered_by, after_at, event_of, event_sent, request_seen, noted_on, command_seen, stand_seen}
use Rattle.wg_play.specs.Late.{no_answer, IsAnsweredCall, after_call, after_calls}
use Rattle.wg_play.specs.Through.{IsReplied}
use Rattle.wg_play.specs.Kept.{TextureIsGenuine, HandleIsGenuine, HandlesAreGenuine, SeesGenuine}
use Rattle.wg_play.specs.Played.{IsDrawnAs, PlayedCall, calls_in, entries_in, with_answer, is_late_after, IsRecordedAs, IsPlayedAs}
use Rattle.wg_play.proofs.Slots.{with_tail}
use Rattle.wg_play.proofs.Drawn.{drawn_others, all_front, drawn_had}
use Rattle.wg_play.proofs.Passage.{event_answered, kept_answered, GivesAll, end_of, gives_same, end_same, settled_by, after_is}

abbrev pub lane_with : Sight → List BoundCall → LaneState
lane_with sight calls = record { sight = sight; left = calls }

-- the event of a call of the device has the verb of that
abbrev pub HasVerb : Sight → RequestOf ℕ → Type 0
HasVerb sight request = verb_of (event_sent sight request) ≡ verb_of (event_asked (request_seen sight request))

module _ (setup : Setup) where
  -- a call was kept, or became this entry
  abbrev pub RunsAs : Sight → BoundCall → Option Entry → Type 0
  RunsAs sight call None = kept sight call ≡ Some (after_call setup sight (call, no_answer))
  RunsAs sight call (Some entry) = (kept sight call ≡ None) × (event_of sight call ≡ entry.event) × IsReplied setup entry

  abbrev pub Runs : Sight → List PlayedCall → Type 0
  Runs sight [] = Unit {0}
  Runs sight (call ∷ calls) = RunsAs sight call.0 call.1 × Runs (after_call setup sight (with_answer call)) calls

  -- ---- the entries that a lane gives, call by call

  pub record LaneRuns (sight : Sight) (calls : List BoundCall) (entries : List Entry) : Type 0 where
    pub plays : List PlayedCall
    pub are : calls_in plays ≡ calls
    pub own : entries_in plays ≡ entries
    pub runs : Runs sight plays

  abbrev LaneGoes : List BoundCall → Type 0
  LaneGoes calls = (sight : Sight) (entries : List Entry) → All (IsReplied setup) entries → GivesAll setup (lane_with sight calls) entries
      → LaneRuns sight calls entries

  call_runs : (call : BoundCall) (calls : List BoundCall) → LaneGoes calls → (sight : Sight) (found : Option Sight) → kept sight call ≡ found
      → (entries : List Entry) → All (IsReplied setup) entries
      → GivesAll setup (lane_with sight (call ∷ calls)) entries → LaneRuns sight (call ∷ calls) entries
  call_runs call calls goes sight (Some after) is entries replied gives =
      let same = settled_by setup sight call calls (Some after) is in
      let here : after_call setup sight (call, no_answer) ≡ after = after_is setup sight call no_answer (Some after) is in
      let more = goes after entries replied (gives_same setup (lane_with sight (call ∷ calls)) (lane_with after calls) same entries gives) in
      record {
        plays = (call, None) ∷ more.plays;
        are = ap (λ cs. call ∷ cs) more.are;
        own = more.own;
        runs = (is ∙ ap (λ (s : Sight). Some s) (sym here), subst (λ (s : Sight). Runs s more.plays) (sym here) more.runs);
      }
  call_runs call calls goes sight None is [] replied gives = absurd (cc (ap next_at (sym (settled_by setup sight call calls None is)) ∙ gives))
  call_runs call calls goes sight None is (e ∷ entries) replied gives =
      let same = settled_by setup sight call calls None is in
      let event : event_of sight call ≡ e.event = cc (ap next_at (sym same) ∙ gives.0) in
      let after : Sight = answered_by setup sight call e.reply.answer in
      let here : after_call setup sight (call, e.reply.answer) ≡ after = after_is setup sight call e.reply.answer None is in
      let more = goes after entries (All-tail (IsReplied setup) e entries replied)
      (subst (λ (l : LaneState). GivesAll setup (after_at setup l e.reply) entries) same gives.1) in
      record {
        plays = (call, Some e) ∷ more.plays;
        are = ap (λ cs. call ∷ cs) more.are;
        own = ap (λ (es : List Entry). e ∷ es) more.own;
        runs = ((is, event, All-head (IsReplied setup) e entries replied), subst (λ (s : Sight). Runs s more.plays) (sym here) more.runs);
      }

  pub lane_runs : (calls : List BoundCall) → LaneGoes calls
  lane_runs [] sight [] replied gives = record { plays = []; are = refl; own = refl; runs = tt }
  lane_runs [] sight (e ∷ entries) replied gives = absurd (cc (gives.0))
  lane_runs (call ∷ calls) sight entries replied gives = call_runs call calls (lane_runs calls) sight (kept sight call) refl entries replied gives

  -- ---- what the lane sees after some calls

  -- the entries of some calls take the lane to what it sees after them
  abbrev GoesTo : List PlayedCall → List BoundCall → Type 0
  GoesTo before more = (sight : Sight) → Runs sight before
      → end_of setup (lane_with sight (calls_in before ++ more)) (entries_in before)
      ≡ settle (lane_with (after_calls setup sight (map with_answer before)) more)

  call_goes : (call : BoundCall) (found : Option Entry) (before : List PlayedCall) (more : List BoundCall) → GoesTo before more → (sight : Sight)
      → RunsAs sight call found
      → Runs (after_call setup sight (with_answer (call, found))) before
      → end_of setup (lane_with sight (call ∷ (calls_in before ++ more))) (option_to_list found ++ entries_in before)
      ≡ settle (lane_with (after_calls setup (after_call setup sight (with_answer (call, found))) (map with_answer before)) more)
  call_goes call None before more goes sight here runs =
      let after : Sight = after_call setup sight (call, no_answer) in
      let calls : List BoundCall = calls_in before ++ more in
      end_same setup (lane_with sight (call ∷ calls)) (lane_with after calls) (settled_by setup sight call calls (Some after) here) (entries_in before)
      ∙ goes after runs
  call_goes call (Some e) before more goes sight here runs =
      let after : Sight = after_call setup sight (call, e.reply.answer) in
      let calls : List BoundCall = calls_in before ++ more in
      let is : after ≡ answered_by setup sight call e.reply.answer = after_is setup sight call e.reply.answer None here.0 in
      ap (λ (l : LaneState). end_of setup (after_at setup l e.reply) (entries_in before)) (settled_by setup sight call calls None here.0)
      ∙ (ap (λ (s : Sight). end_of setup (lane_with s calls) (entries_in before)) (sym is) ∙ goes after runs)

  pub goes_to : (before : List PlayedCall) (more : List BoundCall) → GoesTo before more
  goes_to [] more sight runs = refl
  goes_to (call ∷ before) more sight runs = call_goes call.0 call.1 before more (goes_to before more) sight runs.0 runs.1

  pub runs_front : (before rest : List PlayedCall) (sight : Sight) → Runs sight (before ++ rest) → Runs sight before
  runs_front [] rest sight runs = tt
  runs_front (call ∷ before) rest sight runs = (runs.0, runs_front before rest (after_call setup sight (with_answer call)) runs.1)

  pub runs_at : (before : List PlayedCall) (call : PlayedCall) (after : List PlayedCall) (sight : Sight) → Runs sight (before ++ call ∷ after)
      → RunsAs (after_calls setup sight (map with_answer before)) call.0 call.1
  runs_at [] call after sight runs = runs.0
  runs_at (first ∷ before) call after sight runs = runs_at before call after (after_call setup sight (with_answer first)) runs.1

  -- ---- its calls are answered

  one_answered : (sight : Sight) (call : BoundCall) (found : Option Entry) → RunsAs sight call found → IsAnsweredCall (with_answer (call, found))
  one_answered sight call None runs = kept_answered call
  one_answered sight call (Some e) runs = event_answered setup sight call e runs.0 runs.1 runs.2

  pub call_answered : (sight : Sight) (call : PlayedCall) → RunsAs sight call.0 call.1 → IsAnsweredCall (with_answer call)
  call_answered sight call runs = one_answered sight call.0 call.1 runs

  pub lane_answered : (calls : List PlayedCall) (sight : Sight) → Runs sight calls → All IsAnsweredCall (map with_answer calls)
  lane_answered [] sight runs = All-nil IsAnsweredCall
  lane_answered (call ∷ calls) sight runs =
      All-cons IsAnsweredCall (with_answer call) (map with_answer calls) (call_answered sight call runs.0)
      (lane_answered calls (after_call setup sight (with_answer call)) runs.1)

  -- ---- how a call was played

  late_kept : {X : Type 0} (late : Bool) (x y : X) → (if late then None else Some x) ≡ Some y → late ≡ false
  late_kept true x y e = absurd (cc (e))
  late_kept false x y e = refl

  late_sent : {X : Type 0} (late : Bool) (x : X) → (if late then None else Some x) ≡ None → late ≡ true
  late_sent true x e = refl
  late_sent false x e = absurd (cc (e))

  pub recorded_as : (sight : Sight) (before : List BoundCall) (on : ℕ) (command : CommandOf ℕ) (made : Option ℕ) (found : Option Entry)
      → RunsAs sight (Record on command made) found
      → is_late_on sight.own (stand_seen sight on) ≡ is_late_after sight before on → IsRecordedAs sight before on found
  recorded_as sight before on command made None runs same = record {
    late = sym (late_kept (is_late_on sight.own (stand_seen sight on)) (noted_on sight (stand_seen sight on) (command_seen sight command) made)
        (after_call setup sight (Record on command made, no_answer)) runs) ∙ same;
    event = λ entry e. absurd (cc (e));
  }
  recorded_as sight before on command made (Some e) runs same = record {
    late = sym (late_sent (is_late_on sight.own (stand_seen sight on)) (noted_on sight (stand_seen sight on) (command_seen sight command) made) runs.0)
        ∙ same;
    event = λ entry k. (let is : e ≡ entry = cc (k) in sym (runs.1 ∙ ap (λ (x : Entry). x.event) is));
  }

  pub asked_as : (sight : Sight) (before : List BoundCall) (request : RequestOf ℕ) (made : Option ℕ) (found : Option Entry)
      → RunsAs sight (Ask request made) found → HasVerb sight request → IsPlayedAs sight before (Ask request made) found
  asked_as sight before request made None runs verb = absurd (cc (runs))
  asked_as sight before request made (Some e) runs verb = record { entry = e; is = refl; event = sym runs.1; verb = sym (ap verb_of runs.1) ∙ verb }

  abbrev kept_if : Sight → Option (RequestOf HandleValue) → Option Sight
  kept_if new asked = option_map_or (λ (request : RequestOf HandleValue). None) asked (Some new)

  drawn_kept : (asked : Option (RequestOf HandleValue)) (new after : Sight) → kept_if new asked ≡ Some after → asked ≡ None
  drawn_kept None new after e = refl
  drawn_kept (Some request) new after e = absurd (cc (e))

  drawn_sent : (asked : Option (RequestOf HandleValue)) (new : Sight) (event : Event) → kept_if new asked ≡ None → option_map_or event_asked asked (Late unknown.reference) ≡ event
      → Some event ≡ option_map event_asked asked
  drawn_sent None new event e is = absurd (cc (e))
  drawn_sent (Some request) new event e is = ap (λ (x : Event). Some x) (sym is)

  pub drawn_as : (sight : Sight) (call : CanvasOf ℕ) (made : Option ℕ) (found : Option Entry) → RunsAs sight (Canvas call made) found → IsDrawnAs sight call found
  drawn_as sight call made None runs =
      let none : canvas_asks sight call ≡ None = drawn_kept (canvas_asks sight call) (drawn sight call made None) (after_call setup sight (Canvas call made, no_answer)) runs in
      sym (ap (option_map event_asked) none)
  drawn_as sight call made (Some e) runs = drawn_sent (canvas_asks sight call) (drawn sight call made None) e.event runs.0 runs.1

  -- ---- what is genuine once calls are kept was so before

  module _ (past : Past) where
    object_back : (change : RecorderValue → RecorderValue) (o : Object) → HandleIsGenuine setup past (changed o change) → HandleIsGenuine setup past o
    object_back change (object.Made handle recorder) genuine = genuine
    object_back change (object.Pass encoder number) genuine = tt
    object_back change (object.Canvas canvas) genuine = genuine
    object_back change (object.Shown texture) genuine = genuine

    objects_back : (change : RecorderValue → RecorderValue) (objects : List Object) (place : ℕ) → HandlesAreGenuine setup past (with_recorder objects place change)
        → HandlesAreGenuine setup past objects
    objects_back change [] place all = all
    objects_back change (o ∷ os) zero all =
        All-cons (HandleIsGenuine setup past) o os (object_back change o (All-head (HandleIsGenuine setup past) (changed o change) os all))
        (All-tail (HandleIsGenuine setup past) (changed o change) os all)
    objects_back change (o ∷ os) (suc place) all =
        let there : HandlesAreGenuine setup past (o ∷ with_recorder os place change) = subst (HandlesAreGenuine setup past) (with_tail o os place change) all in
        All-cons (HandleIsGenuine setup past) o os (All-head (HandleIsGenuine setup past) o (with_recorder os place change) there)
        (objects_back change os place (All-tail (HandleIsGenuine setup past) o (with_recorder os place change) there))

    noted_back : (sight : Sight) (stand : Stand) (command : Command) (made : Option ℕ) → SeesGenuine setup past (noted_on sight stand command made)
        → SeesGenuine setup past sight
    noted_back sight stand command made sees = (
      sees.0,
      objects_back (recorded_by stand.on command) sight.own stand.encoder
          (all_front (HandleIsGenuine setup past) (recorded_on sight.own stand command) (begun_by sight.own stand.encoder command made) sees.1),
    )

    by_late : (late : Bool) (sight noted after : Sight) → (SeesGenuine setup past noted → SeesGenuine setup past sight)
        → (if late then None else Some noted) ≡ Some after → SeesGenuine setup past after → SeesGenuine setup past sight
    by_late true sight noted after back e sees = absurd (cc (e))
    by_late false sight noted after back e sees = let same : noted ≡ after = cc (e) in back (subst (SeesGenuine setup past) (sym same) sees)

    kept_back : (sight : Sight) (call : BoundCall) (after : Sight) → kept sight call ≡ Some after → SeesGenuine setup past after
        → SeesGenuine setup past sight
    kept_back sight (Record on command made) after e sees =
        by_late (is_late_on sight.own (stand_seen sight on)) sight (noted_on sight (stand_seen sight on) (command_seen sight command) made) after
        (noted_back sight (stand_seen sight on) (command_seen sight command) made) e sees
    kept_back sight (Ask request made) after e sees = absurd (cc (e))
    kept_back sight (Canvas call made) after e sees =
        let asks = drawn_kept (canvas_asks sight call) (drawn sight call made None) after e in
        let same : kept_if (drawn sight call made None) None ≡ Some after = ap (kept_if (drawn sight call made None)) (sym asks) ∙ e in
        let is : drawn sight call made None ≡ after = cc (same) in
        let there : SeesGenuine setup past (drawn sight call made None) = subst (SeesGenuine setup past) (sym is) sees in (
          subst (HandlesAreGenuine setup past) (drawn_others sight call made None) there.0,
          drawn_had (λ handle. is_genuine setup past handle ≡ true) (TextureIsGenuine setup past) tt sight call made asks there.1,
        )

    call_back : (sight : Sight) (call : BoundCall) (calls : List BoundCall)
        → ((after : Sight) → SeesGenuine setup past (settled after calls).sight → SeesGenuine setup past after)
        → (found : Option Sight) → kept sight call ≡ found → SeesGenuine setup past
        (option_map_or (λ (after : Sight). settled after calls) found (lane_with sight (call ∷ calls))).sight → SeesGenuine setup past sight
    call_back sight call calls back None is sees = sees
    call_back sight call calls back (Some after) is sees = kept_back sight call after is (back after sees)

    pub settled_back : (calls : List BoundCall) (sight : Sight) → SeesGenuine setup past (settled sight calls).sight → SeesGenuine setup past sight
    settled_back [] sight sees = sees
    settled_back (call ∷ calls) sight sees = call_back sight call calls (settled_back calls) (kept sight call) refl sees
