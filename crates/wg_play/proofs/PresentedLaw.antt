-- The textures of canvases are never dropped, and the entry of a present destroys one: from then on it is refused, and it is released
-- once it is over.
use Rattle.std.proofs.Common.{◌≡◌, ℕ, Bool, true, false, ◌&&◌, ◌==◌, List, [], ◌∷◌, ◌++◌, length, map, reverse, Option, Some, None, is_some, is_none, refl, ap, sym, ◌∙◌, subst, inl, inr, append_assoc, append-nil, true≢false, if◌then◌else◌}
use Rattle.std.specs.Prelude.{All, option_map, option_and_then}
use Rattle.std.specs.Option.{option_map_or}
use Rattle.std.proofs.lemmas.Bool.{and_parts, and_from, eqb-true, eq-eqb}
use Rattle.std.proofs.lemmas.List.{reverse-append, reverse-reverse}
use Rattle.std.proofs.lemmas.List.Concat.{flat_map-append}
use Rattle.std.proofs.lemmas.List.Elements.{All-head}
use Rattle.wg_types.specs.Handles.{HandleValue}
use Rattle.wg_types.specs.Kinds.{kind_of}
use Rattle.wg_types.specs.Wanted.{admits}
use Rattle.wg_types.specs.Commands.{bracket, kind_begun}
use Rattle.wg_types.specs.Requests.{named as asked_of, map_refs as map_asked}
use Rattle.wg_types.specs.declared.canvases.CanvasCall.{CanvasCall}
use Rattle.wg_types.specs.declared.canvases.CanvasCall.TheVariants.{Configure, Current, Present}
use Rattle.wg_types.specs.declared.canvases.CanvasOf.{CanvasOf}
use Rattle.wg_types.specs.declared.canvases.CanvasOf.TheVariants.{Create, On}
use Rattle.wg_types.specs.declared.handles.Info.{Info}
use Rattle.wg_types.specs.declared.handles.Info.TheVariants as info
use Rattle.wg_types.specs.declared.handles.ObjRef.{ObjRef}
use Rattle.wg_trace.specs.declared.replies.Reply.{Reply}
use Rattle.wg_types.specs.declared.requests.RequestOf.{RequestOf}
use Rattle.wg_types.specs.declared.requests.RequestOf.TheVariants.{Drop as AskDrop, Destroy as AskDestroy}
use Rattle.wg_types.specs.declared.wanted.Kind.{Kind}
use Rattle.wg_types.specs.declared.wanted.Kind.TheVariants as kinds
use Rattle.wg_types.specs.declared.wanted.Wanted.TheVariants as wanted
use Rattle.wg_canvas.specs.Canvases.{CanvasValue, texture_of, asked_at as stage_asked, act_asked}
use Rattle.wg_canvas.specs.declared.canvas.Stage.{Stage}
use Rattle.wg_canvas.specs.declared.canvas.Stage.TheVariants.{Unset, Empty, Filled}
use Rattle.wg_history.specs.declared.events.Event.{Event}
use Rattle.wg_history.specs.declared.events.Event.TheVariants.{Drop, Destroy, Submit, WriteTexture}
use Rattle.wg_history.specs.declared.events.Setup.{Setup}
use Rattle.wg_history.specs.Entries.{Entry, Past, verb_of}
use Rattle.wg_history.specs.Answers.{IsRun, Run, reply_to}
use Rattle.wg_history.specs.Infos.{same_kind}
use Rattle.wg_history.specs.Objects.{count, has_memory, is_own, info_at}
use Rattle.wg_model.specs.Rules.{first_unmet}
use Rattle.wg_history.specs.Rules.{drop_list, drops, dropped_at, is_dropped, is_destroyed, is_genuine}
use Rattle.wg_expiry.proofs.Expired.{destroy_expires, stays_expired, submit_is_plain, submit_is_refused, write_is_plain, write_is_refused, freed_once_over}
use Rattle.wg_calls.specs.Calls.{event_asked}
use Rattle.wg_script.specs.CallOf.{BoundCall}
use Rattle.wg_script.specs.declared.calls.CallOf.TheVariants.{Record, Ask, Canvas}
use Rattle.wg_names.specs.Uses.{made_of}
use Rattle.wg_play.specs.declared.objects.Object.{Object}
use Rattle.wg_play.specs.Canvases.{canvas_at}
use Rattle.wg_play.specs.Sights.{Sight, place_in, handle_in_sight}
use Rattle.wg_play.specs.Lanes.{canvas_asks, request_seen, event_sent}
use Rattle.wg_play.specs.Late.{slots_before}
use Rattle.wg_play.specs.Found.{is_pass}
use Rattle.wg_play.specs.Kept.{TextureIsGenuine}
use Rattle.wg_play.specs.Played.{PlayedCall, PlayedPhase, calls_in, lanes_in, IsInterleaved, objects_after, sight_after, seen_calls, IsDrawnAs, IsOfCall, StandsForMade, IsMoment, SeesMade, IsPlayedAt, EachIsPlayed}
use Rattle.wg_play.specs.Presented.{HasExpired, GivenAt, PresentsExpire}
use Rattle.wg_play.proofs.Drawn.{canvas_has}
use Rattle.wg_play.proofs.Following.{same_kind as same_made}
use Rattle.wg_play.proofs.Making.{makes_canvas}
use Rattle.wg_play.proofs.Holding.{pass_kind}
use Rattle.wg_play.proofs.Turning.{onto}
use Rattle.wg_play.proofs.Phases.{onto_back, onto_more, run_before, answered_of, answered_parts}
use Rattle.wg_play.proofs.Givers.{entries_of, given_at}
use Rattle.wg_play.proofs.Counting.{IsMember, is_in, in_left, in_right, in_either, makes as makes_n, call_makes, lane_calls, all_calls, made_by_one}
use Rattle.wg_play.proofs.Shown.{Any, IsGivenBy, GivenIf, Shows, drawn_so, lane_shows}

-- ---- calls among all calls

in_lane : (lanes_before : List (List PlayedCall)) (calls : List PlayedCall) (lanes_after : List (List PlayedCall)) (call : PlayedCall) → IsMember call calls → IsMember call (lane_calls (lanes_before ++ calls ∷ lanes_after))
in_lane lanes_before calls lanes_after call there =
    subst (λ (cs : List PlayedCall). IsMember call cs) (sym (flat_map-append (λ (cs : List PlayedCall). cs) lanes_before (calls ∷ lanes_after)))
    (in_right (lane_calls lanes_before) (calls ++ lane_calls lanes_after) call (in_left calls (lane_calls lanes_after) call there))

in_phases : (earlier : List PlayedPhase) (phase : PlayedPhase) (later : List PlayedPhase) (call : PlayedCall) → IsMember call (lane_calls phase.lanes) → IsMember call (all_calls (earlier ++ phase ∷ later))
in_phases earlier phase later call there =
    subst (λ (cs : List PlayedCall). IsMember call cs) (sym (flat_map-append (λ (p : PlayedPhase). lane_calls p.lanes) earlier (phase ∷ later)))
    (in_right (all_calls earlier) (lane_calls phase.lanes ++ all_calls later) call (in_left (lane_calls phase.lanes) (all_calls later) call there))

in_earlier : (earlier more : List PlayedPhase) (call : PlayedCall) → IsMember call (all_calls earlier) → IsMember call (all_calls (earlier ++ more))
in_earlier earlier more call there =
    subst (λ (cs : List PlayedCall). IsMember call cs) (sym (flat_map-append (λ (p : PlayedPhase). lane_calls p.lanes) earlier more)) (in_left (all_calls earlier) (all_calls more) call there)

-- ---- which event a call of a canvas is

-- a destroy is of the current texture of its canvas
record DestroysAt (own : List Object) (texture : ObjRef) : Type 0 where
  place : ℕ
  handle : HandleValue
  is : option_and_then texture_of (canvas_at own place) ≡ Some handle
  of : texture ≡ handle.reference

abbrev event_if : Option (RequestOf HandleValue) → Option Event
event_if asked = option_map event_asked asked

expiry_destroys : (own : List Object) (place : ℕ) (texture : ObjRef) (found : Option HandleValue) → option_and_then texture_of (canvas_at own place) ≡ found
    → Some (Destroy texture) ≡ event_if (option_map AskDestroy found) → DestroysAt own texture
expiry_destroys own place texture None is e = absurd (cc (e))
expiry_destroys own place texture (Some handle) is e = let same : texture ≡ handle.reference = cc (e) in record { place = place; handle = handle; is = is; of = same }

stage_destroys : (own : List Object) (canvas : CanvasValue) (stage : Stage) (texture : ObjRef) → Some (Destroy texture) ≡ event_if (stage_asked canvas stage) → DestroysAt own texture
stage_destroys own canvas Unset texture e = absurd (cc (e))
stage_destroys own canvas (Empty setting) texture e = absurd (cc (e))
stage_destroys own canvas (Filled setting old) texture e = absurd (cc (e))

act_destroys : (own : List Object) (place : ℕ) (canvas : CanvasValue) (call : CanvasCall) (texture : ObjRef) → option_and_then texture_of (canvas_at own place) ≡ texture_of canvas
    → Some (Destroy texture) ≡ event_if (act_asked canvas call) → DestroysAt own texture
act_destroys own place canvas (Configure format usage) texture is e = expiry_destroys own place texture (texture_of canvas) is e
act_destroys own place canvas Current texture is e = stage_destroys own canvas canvas.stage texture e
act_destroys own place canvas Present texture is e = expiry_destroys own place texture (texture_of canvas) is e

place_destroys : (own : List Object) (place : ℕ) (found : Option CanvasValue) (call : CanvasCall) (texture : ObjRef) → canvas_at own place ≡ found
    → Some (Destroy texture) ≡ event_if (option_and_then (λ canvas. act_asked canvas call) found) → DestroysAt own texture
place_destroys own place None call texture is e = absurd (cc (e))
place_destroys own place (Some canvas) call texture is e = act_destroys own place canvas call texture (ap (option_and_then texture_of) is) e

canvas_destroys : (sight : Sight) (call : CanvasOf ℕ) (texture : ObjRef) → Some (Destroy texture) ≡ event_if (canvas_asks sight call) → DestroysAt sight.own texture
canvas_destroys sight (Create width height) texture e = absurd (cc (e))
canvas_destroys sight (On canvas call) texture e = place_destroys sight.own (place_in sight canvas) (canvas_at sight.own (place_in sight canvas)) call texture refl e

-- and no call of a canvas is a drop

stage_no_drop : (canvas : CanvasValue) (stage : Stage) (object : ObjRef) → Some (Drop object) ≡ event_if (stage_asked canvas stage) → ⊥
stage_no_drop canvas Unset object e = cc (e)
stage_no_drop canvas (Empty setting) object e = cc (e)
stage_no_drop canvas (Filled setting old) object e = cc (e)

expiry_no_drop : (found : Option HandleValue) (object : ObjRef) → Some (Drop object) ≡ event_if (option_map AskDestroy found) → ⊥
expiry_no_drop None object e = cc (e)
expiry_no_drop (Some handle) object e = cc (e)

act_no_drop : (found : Option CanvasValue) (call : CanvasCall) (object : ObjRef) → Some (Drop object) ≡ event_if (option_and_then (λ canvas. act_asked canvas call) found) → ⊥
act_no_drop None call object e = cc (e)
act_no_drop (Some canvas) (Configure format usage) object e = expiry_no_drop (texture_of canvas) object e
act_no_drop (Some canvas) Current object e = stage_no_drop canvas canvas.stage object e
act_no_drop (Some canvas) Present object e = expiry_no_drop (texture_of canvas) object e

canvas_no_drop : (sight : Sight) (call : CanvasOf ℕ) (object : ObjRef) → Some (Drop object) ≡ event_if (canvas_asks sight call) → ⊥
canvas_no_drop sight (Create width height) object e = cc (e)
canvas_no_drop sight (On canvas call) object e = act_no_drop (canvas_at sight.own (place_in sight canvas)) call object e

-- ---- a drop names what a call of the device has made

drop_asked : (f : ℕ → HandleValue) (request : RequestOf ℕ) (object : ObjRef) → verb_of (Drop object) ≡ verb_of (event_asked (map_asked f request)) → (slot : ℕ) × (request ≡ AskDrop slot)
drop_asked f (AskDrop slot) object e = (slot, refl)
drop_asked f _ object e = absurd (cc (e))

object_no_pass : (k : Kind) → admits wanted.Object k ≡ true → is_pass k ≡ true → ⊥
object_no_pass kinds.ComputePass e p = cc (e)
object_no_pass kinds.RenderPass e p = cc (e)
object_no_pass _ e p = cc (p)

-- a call of the device among these has made object n
record AskedFor (all : List PlayedCall) (n : ℕ) : Type 0 where
  request : RequestOf ℕ
  made : Option ℕ
  entry : Entry
  there : IsMember {X = PlayedCall} (Ask request made, Some entry) all
  makes : call_makes n (Ask request made, Some entry) ≡ true

object_asked : (setup : Setup) (past : Past) (all : List PlayedCall) (handle : HandleValue) (call : BoundCall) (found : Option Entry) (slot : ℕ) (k : Kind) → made_of call ≡ Some (slot, k) → admits wanted.Object k ≡ true
    → IsOfCall setup past handle call found → IsMember {X = PlayedCall} (call, found) all → AskedFor all handle.reference.number
object_asked setup past all handle (Record on command None) found slot k makes fits of there = absurd (cc (makes))
object_asked setup past all handle (Record on command (Some name)) found slot k makes fits of there =
    absurd (object_no_pass k fits (pass_kind (bracket command) k (same_made name slot (kind_begun command) k makes)))
object_asked setup past all handle (Canvas call made) found slot k makes fits of there = absurd (elim (makes_canvas call made slot k makes) [
  | inl canvas ↦ true≢false (sym fits ∙ ap (admits wanted.Object) canvas)
  | inr texture ↦ true≢false (sym fits ∙ ap (admits wanted.Object) texture)
])
object_asked setup past all handle (Ask request made) None slot k makes fits of there = absurd of
object_asked setup past all handle (Ask request made) (Some entry) slot k makes fits of there = record {
  request = request;
  made = made;
  entry = entry;
  there = there;
  makes = ap (makes_n handle.reference.number) of.answer ∙ eq-eqb handle.reference.number handle.reference.number refl;
}

-- ---- what was not dropped

drops_none : (dropped : Bool) (setup : Setup) (past : Past) (event : Event) (n : ℕ) → ((object : ObjRef) → event ≡ Drop object → object.number ≡ n → ⊥) → drops dropped setup past event n ≡ false
drops_none dropped setup past (Drop object) n none = by_number (object.number == n) refl
  where
    by_number : (b : Bool) → (object.number == n) ≡ b → (b && is_none (first_unmet (drop_list dropped setup past object))) ≡ false
    by_number true is = absurd (none object refl (eqb-true object.number n is))
    by_number false is = refl
drops_none dropped setup past _ n none = refl

abbrev NoDrop : List Entry → ℕ → Type 0
NoDrop log n = (front : List Entry) (entry : Entry) (back : List Entry) (object : ObjRef) → log ≡ front ++ entry ∷ back → entry.event ≡ Drop object → object.number ≡ n → ⊥

never_dropped : (setup : Setup) (past : Past) (n : ℕ) → NoDrop (reverse past) n → dropped_at setup past n ≡ None
never_dropped setup [] n none = refl
never_dropped setup (entry ∷ older) n none =
    let whole : reverse (entry ∷ older) ≡ reverse older ++ entry ∷ [] = reverse-append (entry ∷ []) older in
    let before : dropped_at setup older n ≡ None
    = never_dropped setup older n (λ front e back object is event number. none front e (back ++ entry ∷ []) object
    (whole ∙ (ap (λ (l : List Entry). l ++ entry ∷ []) is ∙ append_assoc front (e ∷ back) (entry ∷ []))) event number) in
    let here : drops (is_some (dropped_at setup older n)) setup older entry.event n ≡ false
    = drops_none (is_some (dropped_at setup older n)) setup older entry.event n (λ object event number. none (reverse older) entry [] object whole event number) in
    ap (λ (b : Bool). if b then Some (count older) else dropped_at setup older n) here ∙ before

-- ---- what a genuine handle of a texture names has memory

kind_held : (known found : Info) → kind_of known ≡ kinds.Texture → same_kind known found ≡ true → has_memory found ≡ true
kind_held (info.Texture a) (info.Texture b) e h = refl
kind_held (info.Texture a) (info.Buffer b) e h = refl
kind_held (info.Texture a) _ e h = absurd (cc)
kind_held _ _ e h = absurd (cc)

held_at : (known : Info) (found : Option Info) → kind_of known ≡ kinds.Texture → option_map_or (same_kind known) found false ≡ true → option_map_or has_memory found false ≡ true
held_at known None e h = absurd (true≢false (sym h))
held_at known (Some found) e h = kind_held known found e h

own_memory : (setup : Setup) (past : Past) (texture : HandleValue) → kind_of texture.info ≡ kinds.Texture → is_genuine setup past texture ≡ true → is_own setup past has_memory texture.reference ≡ true
own_memory setup past texture e genuine =
    let own : is_own setup past (same_kind texture.info) texture.reference ≡ true = (and_parts (is_own setup past (same_kind texture.info) texture.reference) _ (and_parts _ _ genuine).0).0 in
    let parts = and_parts (texture.reference.device == setup.serial) (option_map_or (same_kind texture.info) (info_at past texture.reference.number) false) own in
    and_from (texture.reference.device == setup.serial) (option_map_or has_memory (info_at past texture.reference.number) false) parts.0 (held_at texture.info (info_at past texture.reference.number) e parts.1)

-- ---- calls at their places

module _ (setup : Setup) (plays : List PlayedPhase) (each : EachIsPlayed setup plays) where
  abbrev sight_at : {front : List Entry} {entry : Entry} {call : BoundCall} → GivenAt plays front entry call → Sight
  sight_at at = sight_after setup at.earlier at.lanes_before at.before

  played : (front : List Entry) (entry : Entry) (call : BoundCall) (at : GivenAt plays front entry call) → IsPlayedAt setup at.earlier at.phase at.lanes_before at.before (call, Some entry)
  played front entry call at = each at.earlier at.later at.phase at.lanes_before at.lanes_after at.before at.after (call, Some entry) at.plays_are at.lanes_are

  sees : (front : List Entry) (entry : Entry) (call : BoundCall) (at : GivenAt plays front entry call) → SeesMade setup (reverse front) (sight_at at) (seen_calls at.earlier at.before) call
  sees front entry call at =
      let moment : IsMoment at.phase (length at.lanes_before) at.before at.first = record { back = entry ∷ at.last; whole = at.entries_are; own = at.own } in
      subst (λ (es : List Entry). SeesMade setup (reverse es) (sight_at at) (seen_calls at.earlier at.before) call) (sym at.front_is) ((played front entry call at).sees at.first moment)

  -- what is seen at a call is among all calls
  seen_in : (front : List Entry) (entry : Entry) (call : BoundCall) (at : GivenAt plays front entry call) (maker : PlayedCall) → IsMember maker (seen_calls at.earlier at.before) → IsMember maker (all_calls plays)
  seen_in front entry call at maker there =
      let lane : List PlayedCall = at.before ++ (call, Some entry) ∷ at.after in
      subst (λ (ps : List PlayedPhase). IsMember maker (all_calls ps)) (sym at.plays_are) (elim (in_either (all_calls at.earlier) at.before maker there) [
        | inl other ↦ in_earlier at.earlier (at.phase ∷ at.later) maker other
        | inr own ↦ in_phases at.earlier at.phase at.later maker (subst (λ (ls : List (List PlayedCall)). IsMember maker (lane_calls ls)) (sym at.lanes_are)
            (in_lane at.lanes_before lane at.lanes_after maker (in_left at.before ((call, Some entry) ∷ at.after) maker own)))
      ])

  -- ---- a drop

  drop_by : (front : List Entry) (entry : Entry) (object : ObjRef) (call : BoundCall) → entry.event ≡ Drop object → GivenAt plays front entry call → AskedFor (all_calls plays) object.number
  drop_by front entry object (Record on command made) event at = absurd (cc (sym event ∙ (played front entry (Record on command made) at).how.event entry refl))
  drop_by front entry object (Canvas call made) event at =
      absurd (canvas_no_drop (sight_at at) call object (ap (λ (e : Event). Some e) (sym event) ∙ (played front entry (Canvas call made) at).how))
  drop_by front entry object (Ask request made) event at =
      let sight : Sight = sight_at at in
      let how = (played front entry (Ask request made) at).how in
      let own : how.entry ≡ entry = cc (how.is) in
      let verb : verb_of (Drop object) ≡ verb_of (event_asked (request_seen sight request))
      = ap verb_of (sym event ∙ ap (λ (e : Entry). e.event) (sym own)) ∙ how.verb in
      let drop = drop_asked (handle_in_sight sight) request object verb in
      let slot : ℕ = drop.0 in
      let handle : HandleValue = handle_in_sight sight slot in
      let sent : Drop object ≡ Drop handle.reference
      = sym event ∙ (ap (λ (e : Entry). e.event) (sym own) ∙ (how.event ∙ ap (event_sent sight) drop.1)) in
      let same : object ≡ handle.reference = cc (sent) in
      let names : All (StandsForMade setup (reverse front) sight (seen_calls at.earlier at.before)) ((slot, wanted.Object) ∷ [])
      = subst (λ (r : RequestOf ℕ). All (StandsForMade setup (reverse front) sight (seen_calls at.earlier at.before)) (asked_of r)) drop.1 (sees front entry (Ask request made) at).names in
      let stands = All-head (StandsForMade setup (reverse front) sight (seen_calls at.earlier at.before)) (slot, wanted.Object) [] names in
      subst (AskedFor (all_calls plays)) (sym (ap (λ (o : ObjRef). o.number) same))
      (object_asked setup (reverse front) (all_calls plays) handle stands.maker.0 stands.maker.1 slot stands.kind stands.makes stands.fits stands.of
      (seen_in front entry (Ask request made) at stands.maker (is_in (seen_calls at.earlier at.before) stands.maker stands.is_seen)))

  -- ---- the textures of canvases

  canvas_shown : (front : List Entry) (entry : Entry) (call : BoundCall) (at : GivenAt plays front entry call) → Shows (all_calls plays) (sight_at at).own
  canvas_shown front entry call at =
      let calls : List PlayedCall = (call, Some entry) ∷ at.after in
      lane_shows (all_calls plays) setup (objects_after setup [] at.earlier) (slots_before (map lanes_in at.earlier) (map calls_in at.lanes_before)) at.before (record {
        drawn = λ done next rest is.
            let lane : at.before ++ calls ≡ done ++ next ∷ (rest ++ calls) = ap (λ (cs : List PlayedCall). cs ++ calls) is ∙ append_assoc done (next ∷ rest) calls in
            drawn_so (sight_after setup at.earlier at.lanes_before done) (calls_in done) next.0 next.1
            (each at.earlier at.later at.phase at.lanes_before at.lanes_after done (rest ++ calls) next at.plays_are
            (at.lanes_are ∙ ap (λ (cs : List PlayedCall). at.lanes_before ++ cs ∷ at.lanes_after) lane)).how;
        there = λ done next rest is. seen_in front entry call at next (in_right (all_calls at.earlier) at.before next
            (subst (λ (cs : List PlayedCall). IsMember next cs) (sym is) (in_right done (next ∷ rest) next (inl refl))));
      })

  module _ (all : All IsInterleaved plays) (run : Run setup (entries_of plays)) where
    -- no drop names one
    given_undropped : (texture : HandleValue) → IsGivenBy (all_calls plays) texture → NoDrop (entries_of plays) texture.reference.number
    given_undropped texture given front entry back object is event number =
        let drop = given_at plays all front entry back is in
        let asked : AskedFor (all_calls plays) texture.reference.number = subst (AskedFor (all_calls plays)) number (drop_by front entry object drop.call event drop.at) in
        made_by_one setup plays texture.reference.number (Ask asked.request asked.made, Some asked.entry) (Canvas given.call given.made, Some given.entry) all run
        (λ same. absurd (cc (ap (λ (c : PlayedCall). c.0) same)))
        asked.there given.there asked.makes (ap (makes_n texture.reference.number) given.answer ∙ eq-eqb texture.reference.number texture.reference.number refl)

-- ---- once it is destroyed

abbrev onto_all : List Entry → Past
onto_all log = onto [] log

turned : (log : List Entry) → onto_all log ≡ reverse log
turned log = onto_back log [] ∙ append-nil (reverse log)

replied_at : (setup : Setup) (log before : List Entry) (entry : Entry) (rest : List Entry) → Run setup log → log ≡ before ++ entry ∷ rest → entry.reply ≡ reply_to setup (reverse before) entry.event
replied_at setup log before entry rest run is =
    let whole : IsRun setup (onto_all (before ++ entry ∷ rest)) = subst (IsRun setup) (ap (λ (l : List Entry). reverse l) is ∙ sym (turned (before ++ entry ∷ rest))) run in
    let parts = answered_parts setup before (entry ∷ rest) [] (answered_of setup (before ++ entry ∷ rest) [] whole) in
    subst (λ (p : Past). entry.reply ≡ reply_to setup p entry.event) (turned before) parts.1.0

run_front : (setup : Setup) (log before rest : List Entry) → Run setup log → log ≡ before ++ rest → Run setup before
run_front setup log before rest run is =
    let whole : IsRun setup (onto (onto_all before) rest)
    = subst (IsRun setup) (ap (λ (l : List Entry). reverse l) is ∙ (sym (turned (before ++ rest)) ∙ onto_more before rest [])) run in
    subst (IsRun setup) (turned before) (run_before setup rest (onto_all before) whole)

undropped_in : (setup : Setup) (log : List Entry) (n : ℕ) → NoDrop log n → (before rest : List Entry) → log ≡ before ++ rest → is_dropped setup (reverse before) n ≡ false
undropped_in setup log n none before rest is =
    ap (λ (o : Option ℕ). is_some o) (never_dropped setup (reverse before) n (λ front e back object at event number.
    none front e (back ++ rest) object
    (is ∙ (ap (λ (l : List Entry). l ++ rest) (sym (reverse-reverse before) ∙ at) ∙ append_assoc front (e ∷ back) rest)) event number))

has_expired : (setup : Setup) (log front back : List Entry) (entry : Entry) (texture : HandleValue) → Run setup log → log ≡ front ++ entry ∷ back → entry.event ≡ Destroy texture.reference
    → kind_of texture.info ≡ kinds.Texture → is_genuine setup (reverse front) texture ≡ true → NoDrop log texture.reference.number → HasExpired setup (front ++ entry ∷ []) back texture.reference
has_expired setup log front back entry texture run is event kind genuine none =
    let n : ℕ = texture.reference.number in
    let upto : List Entry = front ++ entry ∷ [] in
    let whole : log ≡ upto ++ back = is ∙ sym (append_assoc front (entry ∷ []) back) in
    let there : is_destroyed setup (entry ∷ reverse front) n ≡ true
    = destroy_expires setup (reverse front) entry texture.reference event (own_memory setup (reverse front) texture kind genuine) (undropped_in setup log n none front (entry ∷ back) is) in
    let past_is : (between : List Entry) → reverse (upto ++ between) ≡ reverse between ++ (entry ∷ reverse front)
    = λ between. reverse-append upto between ∙ ap (λ (p : Past). reverse between ++ p) (reverse-append front (entry ∷ [])) in
    let destroyed : (between : List Entry) → is_destroyed setup (reverse (upto ++ between)) n ≡ true
    = λ between. subst (λ (p : Past). is_destroyed setup p n ≡ true) (sym (past_is between)) (stays_expired setup (reverse between) (entry ∷ reverse front) n there) in
    let reply : (between rest : List Entry) (later : Entry) → back ≡ between ++ later ∷ rest → later.reply ≡ reply_to setup (reverse (upto ++ between)) later.event
    = λ between rest later at. replied_at setup log (upto ++ between) later rest run
    (whole ∙ (ap (λ (l : List Entry). upto ++ l) at ∙ sym (append_assoc upto between (later ∷ rest)))) in
    record {
      submits = λ between rest later buffers at sent used.
          let past : Past = reverse (upto ++ between) in
          let same : later.reply ≡ reply_to setup past (Submit buffers) = reply between rest later at ∙ ap (reply_to setup past) sent in
          record {
            plain = ap (λ (r : Reply). r.answer) same ∙ submit_is_plain setup past buffers n (destroyed between) used;
            fault = λ live met. ap (λ (r : Reply). r.fault) same ∙ submit_is_refused setup past buffers n (destroyed between) used met live;
          };
      writes = λ between rest later target spot layout size data_size at sent number.
          let past : Past = reverse (upto ++ between) in
          let same : later.reply ≡ reply_to setup past (WriteTexture target spot layout size data_size) = reply between rest later at ∙ ap (reply_to setup past) sent in
          let gone : is_destroyed setup past target.number ≡ true = ap (is_destroyed setup past) number ∙ destroyed between in
          record {
            plain = ap (λ (r : Reply). r.answer) same ∙ write_is_plain setup past target spot layout size data_size gone;
            fault = λ live met. ap (λ (r : Reply). r.fault) same ∙ write_is_refused setup past target spot layout size data_size gone met live;
          };
      released = λ before rest at. freed_once_over setup before n (run_front setup log before rest run (whole ∙ at)) (undropped_in setup log n none before rest (whole ∙ at));
    }

pub presents_expire : PresentsExpire
presents_expire setup phases history run through front back entry call made texture is at event =
    let plays : List PlayedPhase = through.plays in
    let each : EachIsPlayed setup plays = through.each in
    let sight : Sight = sight_after setup at.earlier at.lanes_before at.before in
    let how : IsDrawnAs sight call (Some entry) = (played setup plays each front entry (Canvas call made) at).how in
    let destroys = canvas_destroys sight call texture (ap (λ (e : Event). Some e) (sym event) ∙ how) in
    let handle : HandleValue = destroys.handle in
    let genuine : is_genuine setup (reverse front) handle ≡ true
    = subst (TextureIsGenuine setup (reverse front)) destroys.is (canvas_has (λ h. is_genuine setup (reverse front) h ≡ true) (TextureIsGenuine setup (reverse front)) tt sight.own destroys.place
    (sees setup plays each front entry (Canvas call made) at).genuine.1) in
    let given : IsGivenBy (all_calls plays) handle
    = subst (GivenIf (all_calls plays)) destroys.is (canvas_has Any (GivenIf (all_calls plays)) tt sight.own destroys.place (canvas_shown setup plays each front entry (Canvas call made) at)) in
    let run_plays : Run setup (entries_of plays) = subst (Run setup) (sym through.entries) run in
    let none : NoDrop history handle.reference.number
    = subst (λ (l : List Entry). NoDrop l handle.reference.number) through.entries (given_undropped setup plays each through.lanes run_plays handle given) in
    let sent : entry.event ≡ Destroy handle.reference = event ∙ ap Destroy destroys.of in
    subst (λ (o : ObjRef). HasExpired setup (front ++ entry ∷ []) back o) (sym destroys.of)
    (has_expired setup history front back entry handle run is sent given.kind genuine none)
