-- A script whose names are bound is played through: each call as what it is, over what calls before it have made.
use Rattle.std.proofs.Common.{◌≡◌, ◌≢◌, ℕ, zero, suc, ◌+◌, ◌<◌, ◌≤◌, nat_lt, Bool, true, false, ◌||◌, Option, Some, None, List, [], ◌∷◌, ◌++◌, length, map, reverse, refl, ap, ap₂, sym, ◌∙◌, subst, inl, inr, arith, append_assoc, append-nil, if◌then◌else◌}
use Rattle.std.specs.Prelude.{All, Contains, slice_get}
use Rattle.std.specs.Option.{option_map_or}
use Rattle.std.specs.List.{flat_map, list_any}
use Rattle.std.proofs.lemmas.Bool.Decides.{nat_tests}
use Rattle.std.proofs.lemmas.List.{map-append}
use Rattle.std.proofs.lemmas.List.Concat.{flat_map-append}
use Rattle.std.proofs.lemmas.List.Elements.{All-nil, All-head, All-tail, All-weaker, Contains-append_left, Contains-append_right, Contains-append_cases}
use Rattle.wg_types.specs.Handles.{HandleValue}
use Rattle.wg_types.specs.declared.canvases.CanvasCall.TheVariants.{Configure, Current, Present}
use Rattle.wg_types.specs.declared.canvases.CanvasOf.{CanvasOf}
use Rattle.wg_types.specs.declared.canvases.CanvasOf.TheVariants.{Create, On}
use Rattle.wg_types.specs.declared.commands.CommandOf.{CommandOf}
use Rattle.wg_types.specs.declared.requests.RequestOf.{RequestOf}
use Rattle.wg_types.specs.declared.wanted.Kind.{Kind}
use Rattle.wg_types.specs.declared.wanted.Kind.TheVariants as kinds
use Rattle.wg_types.specs.declared.wanted.Wanted.{Wanted}
use Rattle.wg_history.specs.declared.events.Setup.{Setup}
use Rattle.wg_history.specs.Entries.{Entry, Past}
use Rattle.wg_history.specs.Rules.{is_genuine}
use Rattle.wg_script.specs.CallOf.{BoundCall}
use Rattle.wg_script.specs.declared.calls.CallOf.TheVariants.{Record, Ask, Canvas}
use Rattle.wg_names.specs.Uses.{made_of, uses_of}
use Rattle.wg_names.specs.Bound.{made_by, made_in, IsFound, IsBound}
use Rattle.wg_names.proofs.BoundLemmas.{found_uses}
use Rattle.wg_play.specs.declared.objects.Object.{Object}
use Rattle.wg_play.specs.declared.objects.Object.TheVariants as object
use Rattle.wg_play.specs.Objects.{unknown, handle_in, handle_at, is_late_on}
use Rattle.wg_play.specs.Sights.{Sight, place_in, handle_in_sight}
use Rattle.wg_play.specs.Lanes.{LaneState, settle, stand_seen, starts, next_event, count_made}
use Rattle.wg_play.specs.Turns.{entries_of_caller, after_all}
use Rattle.wg_play.specs.Play.{after_}
use Rattle.wg_play.specs.Late.{Answered as AnsweredCall, IsAnsweredCall, after_calls, slots_before, finishes, has_pass_ended}
use Rattle.wg_play.specs.Found.{IsShown, IsOf, SlotsStand, object_in_sight, SlotIsSeen, IsSeenBy, phase_of}
use Rattle.wg_play.specs.Kept.{HandleIsGenuine, HandlesAreGenuine, SeesGenuine, LanesSee}
use Rattle.wg_play.specs.Played.{PlayedCall, PlayedPhase, calls_in, entries_in, lanes_in, with_answer, answered_lanes, objects_next, objects_after, sight_after, seen_calls, with_sights, lanes_sights, phases_sights, seen_with, current_seen, ShowsCurrent, is_late_after, IsPlayedAs, IsOfCanvas, IsOfCall, StandsForMade, past_at, IsMoment, IsPlayedAt, PlayGoesThrough}
use Rattle.wg_play.proofs.Turning.{onto}
use Rattle.wg_play.proofs.Phases.{onto_back, onto_more}
use Rattle.wg_play.proofs.Keeping.{settled_sees}
use Rattle.wg_play.proofs.LateLaw.{first_after, late_is_finished}
use Rattle.wg_play.proofs.FoundLaw.{at_least, below, earlier_from, others_after, SeesAll, sees_before, bound_is_found, gathered_is_held}
use Rattle.wg_play.proofs.Numbered.{Slots, AreFrom, slots_of, from_zero, from_front, from_back, lane_in, lane_from, call_in}
use Rattle.wg_play.proofs.Backward.{play_back}
use Rattle.wg_play.proofs.Running.{HasVerb, RunsAs, Runs, lane_with, goes_to, runs_front, runs_at, lane_answered, recorded_as, asked_as, drawn_as, settled_back}
use Rattle.wg_play.proofs.Following.{same_kind}
use Rattle.wg_play.proofs.Encoders.{encoder_is}
use Rattle.wg_play.proofs.Makers.{lane_same, lanes_same, calls_more, made_among, IsFromCanvas, IsFrom, IsMadeAt, maker_contains, MadeFrom, none_made, lane_made, start_at, AllRun, all_answered, MadeAll, lanes_joined}
use Rattle.wg_play.proofs.Judged.{lane_own, entry_judged}
use Rattle.wg_play.proofs.Currents.{ShownFrom, ShownAll, plain_contains, lane_shown, none_shown, lanes_shown}
use Rattle.wg_play.proofs.PlayedPhases.{lanes_length, after_part, PhaseRuns, PhasesRun, entries_of, script_runs, phase_at, all_interleaved, lane_run_at, lane_sees_at}

-- what the calls of phases make, and all their calls
abbrev slots_in : List PlayedPhase → Slots
slots_in phases = flat_map (flat_map made_in) (map lanes_in phases)

abbrev calls_of : List PlayedPhase → List PlayedCall
calls_of phases = flat_map (λ (phase : PlayedPhase). flat_map (λ (calls : List PlayedCall). calls) phase.lanes) phases

lanes_make : (lanes : List (List PlayedCall)) → made_in (calls_in (flat_map (λ (calls : List PlayedCall). calls) lanes))
    ≡ flat_map made_in (map calls_in lanes)
lanes_make [] = refl
lanes_make (calls ∷ lanes) =
    let rest : List PlayedCall = flat_map (λ (cs : List PlayedCall). cs) lanes in
    ap (λ (cs : List BoundCall). made_in cs) (calls_more calls rest)
    ∙ (flat_map-append made_by (calls_in calls) (calls_in rest) ∙ ap (λ (ms : Slots). made_in (calls_in calls) ++ ms) (lanes_make lanes))

phases_make : (phases : List PlayedPhase) → made_in (calls_in (calls_of phases)) ≡ slots_in phases
phases_make [] = refl
phases_make (phase ∷ phases) =
    let here : List PlayedCall = flat_map (λ (cs : List PlayedCall). cs) phase.lanes in
    ap (λ (cs : List BoundCall). made_in cs) (calls_more here (calls_of phases))
    ∙ (flat_map-append made_by (calls_in here) (calls_in (calls_of phases)) ∙ ap₂ (λ (a b : Slots). a ++ b) (lanes_make phase.lanes) (phases_make phases))

-- ---- what a name stands for

kept_here : (P : Object → Type 0) (objects : List Object) (place : ℕ) (what : Object) → All P objects → slice_get objects place ≡ Some what → P what
kept_here P [] place what all is = absurd (cc (is))
kept_here P (x ∷ objects) zero what all is = let same : x ≡ what = cc (is) in subst P same (All-head P x objects all)
kept_here P (x ∷ objects) (suc place) what all is = kept_here P objects place what (All-tail P x objects all) is

module _ (setup : Setup) (some : setup.serial ≢ 0) where
  -- the texture of a canvas that a name stands for is genuine
  abbrev IsShownSo : Past → HandleValue → CanvasOf ℕ → Type 0
  IsShownSo past handle (Create width height) = Unit {0}
  IsShownSo past handle (On canvas call) = is_genuine setup past handle ≡ true

  of_canvas : (past : Past) (handle : HandleValue) (asked : CanvasOf ℕ) (found : Option Entry) → IsFromCanvas setup handle asked found → IsShownSo past handle asked → IsOfCanvas setup past handle asked found
  of_canvas past handle (Create width height) found from shown = tt
  of_canvas past handle (On canvas call) None from shown = shown
  of_canvas past handle (On canvas call) (Some entry) from shown = record { device = from.0; answer = from.1; genuine = shown }

  abbrev ShowsGenuine : Past → BoundCall → HandleValue → Type 0
  ShowsGenuine past call handle = (asked : CanvasOf ℕ) (made : Option ℕ) → call ≡ Canvas asked made → IsShownSo past handle asked

  of_object : (past : Past) (what : Object) (call : BoundCall) (found : Option Entry) → IsFrom setup (handle_in what) call found
      → HandleIsGenuine setup past what → ShowsGenuine past call (handle_in what) → IsOfCall setup past (handle_in what) call found
  of_object past what (Record on command made) found from kept shows = tt
  of_object past what (Canvas call made) found from kept shows = of_canvas past (handle_in what) call found from (shows call made refl)
  of_object past what (Ask request made) None from kept shows = absurd from
  of_object past (object.Made handle recorder) (Ask request made) (Some entry) from kept shows = record { device = from.0; answer = from.1; genuine = kept }
  of_object past (object.Pass encoder number) (Ask request made) (Some entry) from kept shows = absurd (some (sym from.0))
  of_object past (object.Canvas canvas) (Ask request made) (Some entry) from kept shows = absurd (some (sym from.0))
  of_object past (object.Shown None) (Ask request made) (Some entry) from kept shows = absurd (some (sym from.0))
  of_object past (object.Shown (Some texture)) (Ask request made) (Some entry) from kept shows = record { device = from.0; answer = from.1; genuine = kept }

  of_place : (past : Past) (objects : List Object) (place : ℕ) (maker : PlayedCall) → HandlesAreGenuine setup past objects
      → IsMadeAt setup objects place maker → ShowsGenuine past maker.0 (handle_at objects place) → IsOfCall setup past (handle_at objects place) maker.0 maker.1
  of_place past objects place maker kept made shows =
      let same : handle_at objects place ≡ handle_in made.what = ap (λ (o : Option Object). option_map_or handle_in o unknown) made.is in
      subst (λ (h : HandleValue). IsOfCall setup past h maker.0 maker.1) (sym same)
      (of_object past made.what maker.0 maker.1 made.of (kept_here (HandleIsGenuine setup past) objects place made.what kept made.is)
      (subst (ShowsGenuine past maker.0) same shows))

  -- a slot of the kind of a canvas's texture stands for one that is genuine

  shown_genuine : (past : Past) (what : Object) → IsOf kinds.CanvasTexture what → HandleIsGenuine setup past what → is_genuine setup past (handle_in what) ≡ true
  shown_genuine past (object.Made handle recorder) of kept = kept
  shown_genuine past (object.Pass encoder number) of kept = absurd (cc (of))
  shown_genuine past (object.Canvas canvas) of kept = absurd (cc (of.0))
  shown_genuine past (object.Shown None) of kept = absurd of.1
  shown_genuine past (object.Shown (Some texture)) of kept = kept

  kept_seen : (past : Past) (sight : Sight) (slot : ℕ) (what : Object) → SeesGenuine setup past sight → object_in_sight sight slot ≡ Some what → HandleIsGenuine setup past what
  kept_seen past sight slot what sees is = by_slot (nat_lt slot sight.first) is
    where
      by_slot : (b : Bool) → (if b then slice_get sight.others slot else slice_get sight.own (place_in sight slot)) ≡ Some what → HandleIsGenuine setup past what
      by_slot true e = kept_here (HandleIsGenuine setup past) sight.others slot what sees.0 e
      by_slot false e = kept_here (HandleIsGenuine setup past) sight.own (place_in sight slot) what sees.1 e

  abbrev SlotsShow : Past → Sight → Slots → Type 0
  SlotsShow past sight made = (slot : ℕ) → Contains made (slot, kinds.CanvasTexture) → is_genuine setup past (handle_in_sight sight slot) ≡ true

  slots_show : (past : Past) (sight : Sight) (made : Slots) → SeesAll sight made → SeesGenuine setup past sight → SlotsShow past sight made
  slots_show past sight made seen sees slot there =
      let found = seen slot kinds.CanvasTexture there in
      ap (λ (h : HandleValue). is_genuine setup past h) found.handle ∙ shown_genuine past found.what found.of (kept_seen past sight slot found.what sees found.is)

  canvas_shows : (past : Past) (sight : Sight) (made : Slots) (slot : ℕ) (k : Kind) → SlotsShow past sight made → Contains made (slot, k)
      → (asked : CanvasOf ℕ) (name : Option ℕ) → made_of (Canvas asked name) ≡ Some (slot, k) → IsShownSo past (handle_in_sight sight slot) asked
  canvas_shows past sight made slot k shows there (Create width height) name makes = tt
  canvas_shows past sight made slot k shows there (On canvas call) None makes = absurd (cc (makes))
  canvas_shows past sight made slot k shows there (On canvas (Configure format usage)) (Some name) makes = absurd (cc (makes))
  canvas_shows past sight made slot k shows there (On canvas Current) (Some name) makes =
      let same : Some kinds.CanvasTexture ≡ Some k = same_kind name slot (Some kinds.CanvasTexture) k makes in
      let is : k ≡ kinds.CanvasTexture = cc (same) in
      shows slot (subst (λ x. Contains made (slot, x)) is there)
  canvas_shows past sight made slot k shows there (On canvas Present) (Some name) makes = absurd (cc (makes))

  shows_by : (past : Past) (sight : Sight) (made : Slots) (slot : ℕ) (k : Kind) (call : BoundCall) → SlotsShow past sight made → Contains made (slot, k) → made_of call ≡ Some (slot, k)
      → ShowsGenuine past call (handle_in_sight sight slot)
  shows_by past sight made slot k call shows there makes asked name is =
      canvas_shows past sight made slot k shows there asked name (sym (ap (λ (c : BoundCall). made_of c) is) ∙ makes)

  other_handle : (sight : Sight) (slot : ℕ) → slot < sight.first → handle_in_sight sight slot ≡ handle_at sight.others slot
  other_handle sight slot less =
      let is : nat_lt slot sight.first ≡ true = grind (arith, nat_tests, less) in
      ap (λ (b : Bool). if b then handle_at sight.others slot else handle_at sight.own (place_in sight slot)) is

  own_handle : (sight : Sight) (slot : ℕ) → sight.first ≤ slot → handle_in_sight sight slot ≡ handle_at sight.own (place_in sight slot)
  own_handle sight slot from =
      let is : nat_lt slot sight.first ≡ false = grind (arith, nat_tests, from) in
      ap (λ (b : Bool). if b then handle_at sight.others slot else handle_at sight.own (place_in sight slot)) is

  -- each slot that was made before, in earlier phases or by the lane itself, stands for what its call made
  stands_for : (past : Past) (sight : Sight) (others ours : List PlayedCall) → AreFrom 0 (slots_of (made_in (calls_in others)))
      → AreFrom sight.first (slots_of (made_in (calls_in ours)))
      → length (made_in (calls_in others)) ≤ sight.first → MadeAll setup sight.others others → MadeFrom setup sight.first sight.own ours
      → SeesGenuine setup past sight → SlotsShow past sight (made_in (calls_in others) ++ made_in (calls_in ours))
      → (used : ℕ × Wanted) → IsFound (made_in (calls_in others) ++ made_in (calls_in ours)) (made_in (calls_in ours)) used
      → StandsForMade setup past sight (others ++ ours) used
  stands_for past sight others ours from_others from_ours short all own sees shows used found =
      let made : Slots = made_in (calls_in others) ++ made_in (calls_in ours) in
      elim (Contains-append_cases (made_in (calls_in others)) (made_in (calls_in ours)) (used.0, found.kind) found.stands) [
        | inl other ↦ let there = made_among others (used.0, found.kind) other in
            let low = below 0 (made_in (calls_in others)) used.0 found.kind from_others other in
            let less : used.0 < sight.first = omega (arith, low, short) in
            record {
              maker = there.maker;
              is_seen = Contains-append_left others ours there.maker there.is_there;
              kind = found.kind;
              makes = there.makes;
              fits = found.fits;
              of = subst (λ (h : HandleValue). IsOfCall setup past h there.maker.0 there.maker.1) (sym (other_handle sight used.0 less))
                  (of_place past sight.others used.0 there.maker sees.0 (all there.maker used.0 found.kind there.is_there there.makes)
                  (subst (ShowsGenuine past there.maker.0) (other_handle sight used.0 less) (shows_by past sight made used.0 found.kind there.maker.0 shows found.stands there.makes)));
            }
        | inr mine ↦ let there = made_among ours (used.0, found.kind) mine in
            let from = at_least sight.first (made_in (calls_in ours)) used.0 found.kind from_ours mine in
            record {
              maker = there.maker;
              is_seen = Contains-append_right others ours there.maker there.is_there;
              kind = found.kind;
              makes = there.makes;
              fits = found.fits;
              of = subst (λ (h : HandleValue). IsOfCall setup past h there.maker.0 there.maker.1) (sym (own_handle sight used.0 from))
                  (of_place past sight.own (place_in sight used.0) there.maker sees.1 (own there.maker used.0 found.kind there.is_there there.makes)
                  (subst (ShowsGenuine past there.maker.0) (own_handle sight used.0 from) (shows_by past sight made used.0 found.kind there.maker.0 shows found.stands there.makes)));
            }
      ]

  -- ---- what stands before each phase

  record StandsAll (objects : List Object) (phases : List PlayedPhase) (seen : List (Sight × PlayedCall)) : Type 0 where
    held : SlotsStand objects (slots_in phases)
    made : MadeAll setup objects (calls_of phases)
    shown : ShownAll objects seen

  stands_next : (done : List PlayedPhase) (phase : PlayedPhase) (later : List PlayedPhase) (objects : List Object) (seen : List (Sight × PlayedCall))
      → IsBound (map lanes_in (done ++ phase ∷ later)) → AllRun setup objects (length objects) phase.lanes
      → StandsAll objects done seen
      → StandsAll (objects_next setup objects phase.lanes) (done ++ phase ∷ []) (seen ++ lanes_sights setup objects (length objects) phase.lanes)
  stands_next done phase later objects seen bound runs was =
      let front : List (List (List BoundCall)) = map lanes_in done in
      let back : List (List (List BoundCall)) = map lanes_in later in
      let split : IsBound (front ++ lanes_in phase ∷ back) = subst IsBound (map-append lanes_in done (phase ∷ later)) bound in
      let same : phase_of (answered_lanes phase.lanes) ≡ lanes_in phase = lanes_same phase.lanes in
      let one : map lanes_in (done ++ phase ∷ []) ≡ front ++ lanes_in phase ∷ [] = map-append lanes_in done (phase ∷ []) in
      let held = gathered_is_held front back (answered_lanes phase.lanes)
      (subst (λ (ls : List (List BoundCall)). IsBound (front ++ ls ∷ back)) (sym same) split)
      (all_answered setup objects (length objects) phase.lanes runs) setup objects was.held in
      let before : Slots = slots_in done in
      let here : Slots = flat_map made_in (lanes_in phase) in
      let rest : Slots = flat_map (flat_map made_in) back in
      let whole : flat_map (flat_map made_in) (front ++ lanes_in phase ∷ back) ≡ before ++ (here ++ rest)
      = flat_map-append (flat_map made_in) front (lanes_in phase ∷ back) in
      let from : AreFrom 0 (slots_of (before ++ (here ++ rest)))
      = subst (λ (ms : Slots). AreFrom 0 (slots_of ms)) whole (subst (AreFrom 0) (sym split.numbered) (from_zero split.count)) in
      let count : length objects ≡ length before = was.held.count in
      let first : 0 + length before ≡ length objects = omega (arith, count) in
      let numbers : AreFrom (length objects) (slots_of here)
      = subst (λ n. AreFrom n (slots_of here)) first (from_front (0 + length before) here rest (from_back 0 before (here ++ rest) from)) in
      let end : calls_of (done ++ phase ∷ []) ≡ calls_of done ++ flat_map (λ (cs : List PlayedCall). cs) phase.lanes
      = flat_map-append (λ (p : PlayedPhase). flat_map (λ (cs : List PlayedCall). cs) p.lanes) done (phase ∷ []) ∙ ap
      (λ (cs : List PlayedCall). calls_of done ++ cs) (append-nil (flat_map (λ (cs : List PlayedCall). cs) phase.lanes)) in
      record {
        held = subst (λ (ps : List (List (List BoundCall))). SlotsStand (objects_next setup objects phase.lanes) (flat_map (flat_map made_in) ps))
            (ap (λ (ls : List (List BoundCall)). front ++ ls ∷ []) same ∙ sym one) held;
        made = subst (MadeAll setup (objects_next setup objects phase.lanes)) (sym end)
            (lanes_joined setup objects phase.lanes objects (calls_of done) was.made runs numbers);
        shown = lanes_shown setup objects phase.lanes objects seen was.shown runs numbers;
      }

  stands_at : (earlier done later : List PlayedPhase) (objects : List Object) (seen : List (Sight × PlayedCall)) (past : Past)
      → IsBound (map lanes_in (done ++ (earlier ++ later))) → PhasesRun setup some (earlier ++ later) objects past
      → StandsAll objects done seen
      → StandsAll (objects_after setup objects earlier) (done ++ earlier) (seen ++ phases_sights setup objects earlier)
  stands_at [] done later objects seen past bound run was =
      subst (λ (cs : List (Sight × PlayedCall)). StandsAll objects (done ++ []) cs) (sym (append-nil seen))
      (subst (λ (ps : List PlayedPhase). StandsAll objects ps seen) (sym (append-nil done)) was)
  stands_at (phase ∷ earlier) done later objects seen past bound run was =
      let more : List (Sight × PlayedCall) = lanes_sights setup objects (length objects) phase.lanes in
      let mid : List Object = objects_next setup objects phase.lanes in
      let next : StandsAll mid (done ++ phase ∷ []) (seen ++ more)
      = stands_next done phase (earlier ++ later) objects seen bound run.0.runs was in
      let after : List Object = objects_after setup mid earlier in
      subst (λ (cs : List (Sight × PlayedCall)). StandsAll after (done ++ phase ∷ earlier) cs) (append_assoc seen more (phases_sights setup mid earlier))
      (subst (λ (ps : List PlayedPhase). StandsAll after ps ((seen ++ more) ++ phases_sights setup mid earlier)) (append_assoc done (phase ∷ []) earlier)
      (stands_at earlier (done ++ phase ∷ []) later mid (seen ++ more) (onto past phase.entries)
      (subst (λ (ps : List PlayedPhase). IsBound (map lanes_in ps)) (sym (append_assoc done (phase ∷ []) (earlier ++ later))) bound) run.1 next))

  none_stands : StandsAll [] [] []
  none_stands = record {
    held = record { count = refl; stands = λ slot k there. absurd (omega (arith, there.1)) };
    made = λ maker slot k there makes. absurd (omega (arith, there.1));
    shown = λ before canvas name there. absurd (omega (arith, there.1));
  }

  -- ---- a call at its place

  how_by : (sight : Sight) (before : List BoundCall) (call : BoundCall) (found : Option Entry) → RunsAs setup sight call found
      → ((on : ℕ) (command : CommandOf ℕ) (made : Option ℕ) → call ≡ Record on command made → is_late_on sight.own
      (stand_seen sight on) ≡ is_late_after sight before on)
      → ((request : RequestOf ℕ) (made : Option ℕ) → call ≡ Ask request made → HasVerb sight request) → IsPlayedAs sight before call found
  how_by sight before (Record on command made) found runs late verb = recorded_as setup sight before on command made found runs (late on command made refl)
  how_by sight before (Ask request made) found runs late verb = asked_as setup sight before request made found runs (verb request made refl)
  how_by sight before (Canvas call made) found runs late verb = drawn_as setup sight call made found runs

  lane_split : (lanes_before lanes_after : List (List PlayedCall)) (before after : List PlayedCall) (call : PlayedCall)
      → map calls_in (lanes_before ++ (before ++ call ∷ after) ∷ lanes_after)
      ≡ map calls_in lanes_before ++ (calls_in before ++ call.0 ∷ calls_in after) ∷ map calls_in lanes_after
  lane_split lanes_before lanes_after before after call =
      map-append calls_in lanes_before ((before ++ call ∷ after) ∷ lanes_after)
      ∙ ap (λ (cs : List BoundCall). map calls_in lanes_before ++ cs ∷ map calls_in lanes_after) (calls_more before (call ∷ after))

  -- the script's calls, with this one at its place
  abbrev BoundAt : List PlayedPhase → List PlayedPhase → List (List PlayedCall) → List (List PlayedCall) → List BoundCall → Type 0
  BoundAt earlier later lanes_before lanes_after calls =
      IsBound (map lanes_in earlier ++ (map calls_in lanes_before ++ calls ∷ map calls_in lanes_after) ∷ map lanes_in later)

  late_at : (earlier later : List PlayedPhase) (lanes_before lanes_after : List (List PlayedCall)) (before after : List PlayedCall) (on : ℕ)
      (command : CommandOf ℕ) (made : Option ℕ)
      → BoundAt earlier later lanes_before lanes_after (calls_in before ++ Record on command made ∷ calls_in after) → All IsAnsweredCall (map with_answer before)
      → let sight = sight_after setup earlier lanes_before before in is_late_on sight.own (stand_seen sight on)
      ≡ is_late_after sight (calls_in before) on
  late_at earlier later lanes_before lanes_after before after on command made bound answered =
      let others : List Object = objects_after setup [] earlier in
      let first : ℕ = slots_before (map lanes_in earlier) (map calls_in lanes_before) in
      let sight : Sight = sight_after setup earlier lanes_before before in
      let call : BoundCall = Record on command made in
      let calls : List BoundCall = calls_in before ++ call ∷ calls_in after in
      let same : map (λ (c : AnsweredCall). c.0) (map with_answer before) ≡ calls_in before = lane_same before in
      let lane = lane_in (map lanes_in earlier) (map lanes_in later) (map calls_in lanes_before) (map calls_in lanes_after) calls bound.used in
      let parts : made_in calls ≡ made_in (calls_in before) ++ made_in (call ∷ calls_in after)
      = flat_map-append made_by (calls_in before) (call ∷ calls_in after) in
      let numbers : AreFrom first (slots_of (made_in (calls_in before))) = from_front first (made_in (calls_in before)) (made_in (call ∷ calls_in after))
      (subst (λ (ms : Slots). AreFrom first (slots_of ms)) parts
      (lane_from (map lanes_in earlier) (map lanes_in later) (map calls_in lanes_before) (map calls_in lanes_after) calls bound.count bound.numbered)) in
      late_is_finished (map lanes_in earlier) (map lanes_in later) (map calls_in lanes_before) (map calls_in lanes_after) (map with_answer before)
      (calls_in after) on command made
      (subst (λ (cs : List BoundCall). BoundAt earlier later lanes_before lanes_after (cs ++ call ∷ calls_in after))
      (sym same) bound) answered setup others
      ∙ ap₂ (λ (n : ℕ) (cs : List BoundCall). list_any (finishes n) cs || has_pass_ended sight.own (stand_seen sight on))
      (encoder_is setup others first (slots_in earlier) before on command made (calls_in after) lane numbers answered) same

  -- what a call of the device finds
  asked_at : (earlier later : List PlayedPhase) (lanes_before lanes_after : List (List PlayedCall)) (before after : List PlayedCall)
      (request : RequestOf ℕ) (made : Option ℕ)
      → BoundAt earlier later lanes_before lanes_after (calls_in before ++ Ask request made ∷ calls_in after) → All IsAnsweredCall (map with_answer before)
      → SlotsStand (objects_after setup [] earlier) (slots_in earlier)
      → IsSeenBy (sight_after setup earlier lanes_before before) (slots_in earlier ++ made_in (map (λ (c : AnsweredCall). c.0) (map with_answer before))) request
  asked_at earlier later lanes_before lanes_after before after request made bound answered holds =
      let call : BoundCall = Ask request made in
      bound_is_found (map lanes_in earlier) (map lanes_in later) (map calls_in lanes_before) (map calls_in lanes_after)
      (map with_answer before) call (calls_in after)
      (subst (λ (cs : List BoundCall). BoundAt earlier later lanes_before lanes_after (cs ++ call ∷ calls_in after)) (sym (lane_same before)) bound)
      answered setup (objects_after setup [] earlier) holds

  -- all that the lane sees is genuine
  genuine_at : (earlier : List PlayedPhase) (phase : PlayedPhase) (lanes_before lanes_after : List (List PlayedCall)) (before after : List PlayedCall)
      (call : PlayedCall) (others : List Object) (first : ℕ)
      → phase.lanes ≡ lanes_before ++ (before ++ call ∷ after) ∷ lanes_after → length others + length (flat_map made_in (map calls_in lanes_before)) ≡ first
      → PhaseRuns setup some others (onto [] (entries_of setup some earlier)) phase → Runs setup (start_at setup others first) before
      → (front : List Entry) → IsMoment phase (length lanes_before) before front
      → SeesGenuine setup (past_at earlier front) (after_calls setup (start_at setup others first) (map with_answer before))
  genuine_at earlier phase lanes_before lanes_after before after call others first lanes_are first_is here runs front moment =
      let past : Past = onto (onto [] (entries_of setup some earlier)) front in
      let start : Sight = start_at setup others first in
      let sight : Sight = after_calls setup start (map with_answer before) in
      let left : List BoundCall = call.0 ∷ calls_in after in
      let calls : List BoundCall = calls_in before ++ left in
      let split : lanes_in phase ≡ map calls_in lanes_before ++ calls ∷ map calls_in lanes_after
      = ap (λ (ls : List (List PlayedCall)). map calls_in ls) lanes_are ∙ lane_split lanes_before lanes_after before after call in
      let sees = lane_sees_at setup (map calls_in lanes_before) calls (map calls_in lanes_after) others (length others) 0 past front
      (subst (λ (ls : List (List BoundCall)). LanesSee setup past (after_part setup 0 (starts others ls) front)) split
      (here.genuine front moment.back moment.whole)) in
      let count : length (map calls_in lanes_before) ≡ length lanes_before = lanes_length lanes_before in
      let number : 0 + length (map calls_in lanes_before) ≡ length lanes_before = omega (arith, count) in
      let own : entries_of_caller (0 + length (map calls_in lanes_before)) front ≡ entries_in before = ap (λ n. entries_of_caller n front) number ∙ moment.own in
      let lane : LaneState = after_all next_event (after_ setup) (lane_with start calls) (entries_in before) in
      let there : SeesGenuine setup past lane.sight
      = subst (λ (es : List Entry). SeesGenuine setup past (after_all next_event (after_ setup) (lane_with start calls) es).sight) own
      (subst (λ n. SeesGenuine setup past (after_all next_event (after_ setup) (lane_with (start_at setup others n) calls)
      (entries_of_caller (0 + length (map calls_in lanes_before)) front)).sight) first_is sees) in
      let same : settle lane ≡ settle (lane_with sight left) = goes_to setup before left start runs in
      let at : SeesGenuine setup past sight = settled_back setup past left sight
      (subst (λ (l : LaneState). SeesGenuine setup past l.sight) same (settled_sees setup past lane.sight lane.left there)) in
      let log : List Entry = entries_of setup some earlier ++ front in
      let past_is : past ≡ reverse log = sym (onto_more (entries_of setup some earlier) front []) ∙ (onto_back log [] ∙ append-nil (reverse log)) in
      subst (λ (p : Past). SeesGenuine setup p sight) past_is at

  -- each name that the call uses stands for what was made as that
  names_at : (earlier later : List PlayedPhase) (lanes_before lanes_after : List (List PlayedCall)) (before after : List PlayedCall) (call : PlayedCall)
      → BoundAt earlier later lanes_before lanes_after (calls_in before ++ call.0 ∷ calls_in after)
      → SlotsStand (objects_after setup [] earlier) (slots_in earlier) → MadeAll setup (objects_after setup [] earlier) (calls_of earlier)
      → Runs setup (start_at setup (objects_after setup [] earlier) (slots_before (map lanes_in earlier) (map calls_in lanes_before))) before
      → (past : Past) → SeesGenuine setup past (sight_after setup earlier lanes_before before)
      → All (StandsForMade setup past (sight_after setup earlier lanes_before before) (seen_calls earlier before)) (uses_of call.0)
  names_at earlier later lanes_before lanes_after before after call bound holds made runs past sees =
      let others : List Object = objects_after setup [] earlier in
      let first : ℕ = slots_before (map lanes_in earlier) (map calls_in lanes_before) in
      let start : Sight = start_at setup others first in
      let sight : Sight = sight_after setup earlier lanes_before before in
      let left : List BoundCall = call.0 ∷ calls_in after in
      let calls : List BoundCall = calls_in before ++ left in
      let ours : Slots = made_in (calls_in before) in
      let same : made_in (calls_in (calls_of earlier)) ≡ slots_in earlier = phases_make earlier in
      let lane = lane_in (map lanes_in earlier) (map lanes_in later) (map calls_in lanes_before) (map calls_in lanes_after) calls bound.used in
      let found : All (IsFound (slots_in earlier ++ ours) ours) (uses_of call.0)
      = found_uses (slots_in earlier ++ ours) ours call.0 (call_in (slots_in earlier) [] (calls_in before) call.0 (calls_in after) lane) in
      let parts : made_in calls ≡ ours ++ made_in left = flat_map-append made_by (calls_in before) left in
      let numbers : AreFrom first (slots_of ours) = from_front first ours (made_in left)
      (subst (λ (ms : Slots). AreFrom first (slots_of ms)) parts
      (lane_from (map lanes_in earlier) (map lanes_in later) (map calls_in lanes_before) (map calls_in lanes_after) calls bound.count bound.numbered)) in
      let from_others : AreFrom 0 (slots_of (made_in (calls_in (calls_of earlier))))
      = subst (λ (ms : Slots). AreFrom 0 (slots_of ms)) (sym same)
      (earlier_from (map lanes_in earlier) ((map calls_in lanes_before ++ calls ∷ map calls_in lanes_after) ∷ map lanes_in later) bound.count bound.numbered) in
      let first_is : sight.first ≡ first = first_after setup (map with_answer before) start in
      let count : length (made_in (calls_in (calls_of earlier))) ≡ length (slots_in earlier) = ap (λ (ms : Slots). length ms) same in
      let short : length (made_in (calls_in (calls_of earlier))) ≤ sight.first = omega (arith, first_is, count) in
      let others_is : sight.others ≡ others = others_after setup (map with_answer before) start in
      let zero_is : first ≡ first + 0 = omega arith in
      let answered : All IsAnsweredCall (map with_answer before) = lane_answered setup before start runs in
      let seen : SeesAll sight (slots_in earlier ++ ours)
      = subst (λ (cs : List BoundCall). SeesAll sight (slots_in earlier ++ made_in cs)) (lane_same before)
      (sees_before (map lanes_in earlier) (map lanes_in later) (map calls_in lanes_before) (map calls_in lanes_after) (map with_answer before) call.0 (calls_in after)
      (subst (λ (cs : List BoundCall). BoundAt earlier later lanes_before lanes_after (cs ++ call.0 ∷ calls_in after)) (sym (lane_same before)) bound)
      answered setup others holds).seen in
      let shows : SlotsShow past sight (made_in (calls_in (calls_of earlier)) ++ ours)
      = subst (λ (ms : Slots). SlotsShow past sight (ms ++ ours)) (sym same) (slots_show past sight (slots_in earlier ++ ours) seen sees) in
      let own : MadeFrom setup sight.first sight.own before
      = lane_made setup before [] start (none_made setup first) runs (subst (λ n. AreFrom n (slots_of ours)) zero_is numbers) in
      All-weaker (IsFound (made_in (calls_in (calls_of earlier)) ++ ours) ours) (StandsForMade setup past sight (calls_of earlier ++ before))
      (λ used is. stands_for past sight (calls_of earlier) before from_others (subst (λ n. AreFrom n (slots_of ours)) (sym first_is) numbers) short
      (subst (λ (os : List Object). MadeAll setup os (calls_of earlier)) (sym others_is) made) own sees shows used is)
      (uses_of call.0) (subst (λ (ms : Slots). All (IsFound (ms ++ ours) ours) (uses_of call.0)) (sym same) found)

  -- each name of a texture that was there stands for that which its canvas had

  -- the texture that a name stands for
  shown_known : (texture : Option HandleValue) → IsShown texture → texture ≡ Some (handle_in (object.Shown texture))
  shown_known None is = absurd is
  shown_known (Some texture) is = refl

  shown_in_sight : (sight : Sight) (name : ℕ) (texture : Option HandleValue) → SlotIsSeen sight name kinds.CanvasTexture
      → object_in_sight sight name ≡ Some (object.Shown texture) → texture ≡ Some (handle_in_sight sight name)
  shown_in_sight sight name texture found is =
      let same : object.Shown texture ≡ found.what = cc (is, found.is) in
      let of : IsOf kinds.CanvasTexture (object.Shown texture) = subst (IsOf kinds.CanvasTexture) (sym same) found.of in
      shown_known texture of.1 ∙ ap (λ (h : HandleValue). Some h) (ap handle_in same ∙ sym found.handle)

  other_object : (sight : Sight) (name : ℕ) → name < sight.first → object_in_sight sight name ≡ slice_get sight.others name
  other_object sight name less =
      let is : nat_lt name sight.first ≡ true = grind (arith, nat_tests, less) in
      ap (λ (b : Bool). if b then slice_get sight.others name else slice_get sight.own (place_in sight name)) is

  own_object : (sight : Sight) (name : ℕ) → sight.first ≤ name → object_in_sight sight name ≡ slice_get sight.own (place_in sight name)
  own_object sight name from =
      let is : nat_lt name sight.first ≡ false = grind (arith, nat_tests, from) in
      ap (λ (b : Bool). if b then slice_get sight.others name else slice_get sight.own (place_in sight name)) is

  lanes_plain : (others : List Object) (first : ℕ) (lanes : List (List PlayedCall)) (before : Sight) (call : PlayedCall)
      → Contains {X = Sight × PlayedCall} (lanes_sights setup others first lanes) (before, call)
      → Contains {X = PlayedCall} (flat_map (λ (cs : List PlayedCall). cs) lanes) call
  lanes_plain others first [] before call there = absurd (omega (arith, there.1))
  lanes_plain others first (calls ∷ lanes) before call there =
      let rest : List PlayedCall = flat_map (λ (cs : List PlayedCall). cs) lanes in
      elim (Contains-append_cases (with_sights setup (start_at setup others first) calls) (lanes_sights setup others (first + count_made (calls_in calls)) lanes) (before, call) there) [
        | inl here ↦ Contains-append_left calls rest call (plain_contains setup (start_at setup others first) calls before call here)
        | inr later ↦ Contains-append_right calls rest call (lanes_plain others (first + count_made (calls_in calls)) lanes before call later)
      ]

  phases_plain : (objects : List Object) (phases : List PlayedPhase) (before : Sight) (call : PlayedCall)
      → Contains {X = Sight × PlayedCall} (phases_sights setup objects phases) (before, call) → Contains {X = PlayedCall} (calls_of phases) call
  phases_plain objects [] before call there = absurd (omega (arith, there.1))
  phases_plain objects (phase ∷ phases) before call there =
      let mid : List Object = objects_next setup objects phase.lanes in
      let here : List PlayedCall = flat_map (λ (cs : List PlayedCall). cs) phase.lanes in
      elim (Contains-append_cases (lanes_sights setup objects (length objects) phase.lanes) (phases_sights setup mid phases) (before, call) there) [
        | inl first ↦ Contains-append_left here (calls_of phases) call (lanes_plain objects (length objects) phase.lanes before call first)
        | inr later ↦ Contains-append_right here (calls_of phases) call (phases_plain mid phases before call later)
      ]

  current_at : (earlier later : List PlayedPhase) (lanes_before lanes_after : List (List PlayedCall)) (before after : List PlayedCall) (call : PlayedCall)
      → BoundAt earlier later lanes_before lanes_after (calls_in before ++ call.0 ∷ calls_in after)
      → SlotsStand (objects_after setup [] earlier) (slots_in earlier) → ShownAll (objects_after setup [] earlier) (phases_sights setup [] earlier)
      → Runs setup (start_at setup (objects_after setup [] earlier) (slots_before (map lanes_in earlier) (map calls_in lanes_before))) before
      → ShowsCurrent (sight_after setup earlier lanes_before before) (seen_with setup earlier lanes_before before)
  current_at earlier later lanes_before lanes_after before after call bound holds shown runs =
      let others : List Object = objects_after setup [] earlier in
      let first : ℕ = slots_before (map lanes_in earlier) (map calls_in lanes_before) in
      let start : Sight = start_at setup others first in
      let sight : Sight = sight_after setup earlier lanes_before before in
      let left : List BoundCall = call.0 ∷ calls_in after in
      let calls : List BoundCall = calls_in before ++ left in
      let ours : Slots = made_in (calls_in before) in
      let made : Slots = made_in (calls_in (calls_of earlier)) in
      let same : made ≡ slots_in earlier = phases_make earlier in
      let parts : made_in calls ≡ ours ++ made_in left = flat_map-append made_by (calls_in before) left in
      let numbers : AreFrom first (slots_of ours) = from_front first ours (made_in left)
      (subst (λ (ms : Slots). AreFrom first (slots_of ms)) parts
      (lane_from (map lanes_in earlier) (map lanes_in later) (map calls_in lanes_before) (map calls_in lanes_after) calls bound.count bound.numbered)) in
      let from_others : AreFrom 0 (slots_of made)
      = subst (λ (ms : Slots). AreFrom 0 (slots_of ms)) (sym same)
      (earlier_from (map lanes_in earlier) ((map calls_in lanes_before ++ calls ∷ map calls_in lanes_after) ∷ map lanes_in later) bound.count bound.numbered) in
      let first_is : sight.first ≡ first = first_after setup (map with_answer before) start in
      let count : length made ≡ length (slots_in earlier) = ap (λ (ms : Slots). length ms) same in
      let short : length made ≤ sight.first = omega (arith, first_is, count) in
      let others_is : sight.others ≡ others = others_after setup (map with_answer before) start in
      let zero_is : first ≡ first + 0 = omega arith in
      let seen : SeesAll sight (slots_in earlier ++ ours)
      = subst (λ (cs : List BoundCall). SeesAll sight (slots_in earlier ++ made_in cs)) (lane_same before)
      (sees_before (map lanes_in earlier) (map lanes_in later) (map calls_in lanes_before) (map calls_in lanes_after) (map with_answer before) call.0 (calls_in after)
      (subst (λ (cs : List BoundCall). BoundAt earlier later lanes_before lanes_after (cs ++ call.0 ∷ calls_in after)) (sym (lane_same before)) bound)
      (lane_answered setup before start runs) setup others holds).seen in
      let own : ShownFrom sight.first sight.own (with_sights setup start before)
      = lane_shown setup before [] start (none_shown setup first) runs (subst (λ n. AreFrom n (slots_of ours)) zero_is numbers) in
      λ then_seen canvas name there.
      elim (Contains-append_cases (phases_sights setup [] earlier) (with_sights setup start before) (then_seen, (Canvas (On canvas Current) (Some name), None)) there) [
        | inl other ↦ let slot : Contains made (name, kinds.CanvasTexture) = maker_contains (calls_of earlier) (Canvas (On canvas Current) (Some name), None) (name, kinds.CanvasTexture)
            (phases_plain [] earlier then_seen (Canvas (On canvas Current) (Some name), None) other) refl in
            let low = below 0 made name kinds.CanvasTexture from_others slot in
            let less : name < sight.first = omega (arith, low, short) in
            shown_in_sight sight name (current_seen then_seen canvas)
            (seen name kinds.CanvasTexture (Contains-append_left (slots_in earlier) ours (name, kinds.CanvasTexture) (subst (λ (ms : Slots). Contains ms (name, kinds.CanvasTexture)) same slot)))
            (other_object sight name less ∙ (ap (λ (os : List Object). slice_get os name) others_is ∙ shown then_seen canvas name other))
        | inr mine ↦ let slot : Contains ours (name, kinds.CanvasTexture) = maker_contains before (Canvas (On canvas Current) (Some name), None) (name, kinds.CanvasTexture)
            (plain_contains setup start before then_seen (Canvas (On canvas Current) (Some name), None) mine) refl in
            let least : first ≤ name = at_least first ours name kinds.CanvasTexture numbers slot in
            let from : sight.first ≤ name = omega (arith, least, first_is) in
            shown_in_sight sight name (current_seen then_seen canvas)
            (seen name kinds.CanvasTexture (Contains-append_right (slots_in earlier) ours (name, kinds.CanvasTexture) slot))
            (own_object sight name from ∙ own then_seen canvas name mine)
      ]

  played_at : (earlier later : List PlayedPhase) (phase : PlayedPhase) (lanes_before lanes_after : List (List PlayedCall)) (before after : List PlayedCall)
      (call : PlayedCall)
      → phase.lanes ≡ lanes_before ++ (before ++ call ∷ after) ∷ lanes_after → IsBound (map lanes_in (earlier ++ phase ∷ later))
      → PhasesRun setup some (earlier ++ phase ∷ later) [] []
      → IsPlayedAt setup earlier phase lanes_before before call
  played_at earlier later phase lanes_before lanes_after before after call lanes_are bound run =
      let others : List Object = objects_after setup [] earlier in
      let first : ℕ = slots_before (map lanes_in earlier) (map calls_in lanes_before) in
      let start : Sight = start_at setup others first in
      let sight : Sight = sight_after setup earlier lanes_before before in
      let stands : StandsAll others earlier (phases_sights setup [] earlier) = stands_at earlier [] (phase ∷ later) [] [] [] bound run none_stands in
      let here = phase_at setup some earlier phase later [] [] run in
      let first_is : length others + length (flat_map made_in (map calls_in lanes_before)) ≡ first
      = ap (λ n. n + length (flat_map made_in (map calls_in lanes_before))) stands.held.count in
      let lane : List PlayedCall = before ++ call ∷ after in
      let runs : Runs setup start lane = subst (λ n. Runs setup (start_at setup others n) lane) first_is
      (lane_run_at setup lanes_before lane lanes_after others (length others) (subst (AllRun setup others (length others)) lanes_are here.runs)) in
      let front_runs : Runs setup start before = runs_front setup before (call ∷ after) start runs in
      let bound_here : BoundAt earlier later lanes_before lanes_after (calls_in before ++ call.0 ∷ calls_in after)
      = subst IsBound (map-append lanes_in earlier (phase ∷ later)
      ∙ ap (λ (ls : List (List BoundCall)). map lanes_in earlier ++ ls ∷ map lanes_in later)
      (ap (λ (ls : List (List PlayedCall)). map calls_in ls) lanes_are ∙ lane_split lanes_before lanes_after before after call)) bound in
      let runs_here : RunsAs setup sight call.0 call.1 = runs_at setup before call after start runs in
      let asked : (request : RequestOf ℕ) (made : Option ℕ) → call.0 ≡ Ask request made
      → IsSeenBy sight (slots_in earlier ++ made_in (map (λ (c : AnsweredCall). c.0) (map with_answer before))) request
      = λ request made is. asked_at earlier later lanes_before lanes_after before after request made
      (subst (λ (c : BoundCall). BoundAt earlier later lanes_before lanes_after (calls_in before ++ c ∷ calls_in after)) is bound_here)
      (lane_answered setup before start front_runs) stands.held in
      record {
        how = how_by sight (calls_in before) call.0 call.1 runs_here
            (λ on command made is. late_at earlier later lanes_before lanes_after before after on command made
            (subst (λ (c : BoundCall). BoundAt earlier later lanes_before lanes_after (calls_in before ++ c ∷ calls_in after)) is bound_here)
            (lane_answered setup before start front_runs))
            (λ request made is. (asked request made is).verb);
        sees = λ front moment.
            let genuine = genuine_at earlier phase lanes_before lanes_after before after call others first lanes_are first_is here front_runs front moment in
            record {
              genuine = genuine;
              names = names_at earlier later lanes_before lanes_after before after call bound_here stands.held stands.made front_runs
                  (past_at earlier front) genuine;
            };
        current = current_at earlier later lanes_before lanes_after before after call bound_here stands.held stands.shown front_runs;
        judged = entry_judged setup sight call.0 call.1 runs_here (lane_own setup others first (map with_answer before)) (λ request made is. (asked request made is).ends);
      }

pub play_goes_through : PlayGoesThrough
play_goes_through setup some phases numbers history bound e =
    let back = play_back setup phases numbers history e in
    let run = script_runs setup some phases [] [] history (All-nil (HandleIsGenuine setup [])) back.lanes back.answered in
    let bound_plays : IsBound (map lanes_in run.plays) = subst IsBound (sym run.calls) bound in
    let turned : onto [] history ≡ reverse history = onto_back history [] ∙ append-nil (reverse history) in
    record {
      plays = run.plays;
      calls = run.calls;
      entries = run.entries;
      lanes = all_interleaved setup some run.plays [] [] run.run;
      each = λ earlier later phase lanes_before lanes_after before after call is lanes_are.
          played_at setup some earlier later phase lanes_before lanes_after before after call lanes_are
          (subst (λ (ps : List PlayedPhase). IsBound (map lanes_in ps)) is bound_plays)
          (subst (λ (ps : List PlayedPhase). PhasesRun setup some ps [] []) is run.run);
      kept = subst (λ (p : Past). HandlesAreGenuine setup p (objects_after setup [] run.plays)) turned run.kept;
    }
