-- What a call of a canvas is once it was played.
use Rattle.std.proofs.Common.{◌≡◌, ℕ, ◌<◌, ◌≤◌, List, [], ◌∷◌, ◌++◌, length, Option, Some, None, slice_get, slice_set, refl, ap, sym, ◌∙◌, subst, inl, inr, append-nil}
use Rattle.std.specs.Prelude.{option_map, option_and_then}
use Rattle.std.specs.Option.{option_map_or}
use Rattle.std.proofs.lemmas.Option.{slice_get_read, slice_get_past}
use Rattle.wg_types.specs.Handles.{HandleValue}
use Rattle.wg_types.specs.declared.handles.Info.TheVariants.{Texture}
use Rattle.wg_trace.specs.declared.replies.Answer.{Answer}
use Rattle.wg_trace.specs.declared.replies.Answer.TheVariants.{Made, Queued, Promised, Plain, BadCompletion}
use Rattle.wg_trace.specs.declared.replies.Reply.{Reply}
use Rattle.wg_types.specs.declared.requests.RequestOf.{RequestOf}
use Rattle.wg_types.specs.declared.requests.RequestOf.TheVariants.{CreateTexture, Destroy}
use Rattle.wg_types.specs.declared.textures.TextureInfo.{TextureInfo}
use Rattle.wg_types.specs.declared.canvases.CanvasCall.{CanvasCall}
use Rattle.wg_types.specs.declared.canvases.CanvasCall.TheVariants.{Configure, Current, Present}
use Rattle.wg_types.specs.declared.canvases.CanvasOf.TheVariants.{Create, On}
use Rattle.wg_canvas.specs.Makers.{IsMade, HasSent, sent_as}
use Rattle.wg_canvas.specs.Canvases.{CanvasValue, texture_of, info_of, asked_at as asked_in, texture_made, made_if, act_asked, act_made, acted}
use Rattle.wg_canvas.specs.declared.canvas.Stage.{Stage}
use Rattle.wg_canvas.specs.declared.canvas.Stage.TheVariants.{Unset, Empty, Filled}
use Rattle.wg_calls.specs.Calls.{event_asked, info_asked, handle_made}
use Rattle.wg_play.specs.Canvases.{canvas_in, redrawn, canvas_asked, acted_at, given_by, shown_at}
use Rattle.wg_play.specs.declared.objects.Object.{Object}
use Rattle.wg_play.specs.declared.objects.Object.TheVariants as object
use Rattle.wg_history.specs.declared.events.Setup.{Setup}
use Rattle.wg_history.specs.Entries.{Entry}
use Rattle.wg_history.specs.declared.events.Event.TheVariants.{Late}
use Rattle.wg_script.specs.declared.calls.CallOf.TheVariants.{Canvas}
use Rattle.wg_play.specs.Objects.{unknown}
use Rattle.wg_play.specs.Lanes.{handle_known, canvas_asks, new_canvas, with_own, drawn, drawn_on}
use Rattle.wg_play.specs.Sights.{Sight, place_in, with_more}
use Rattle.wg_player.specs.Moves.{HasPlayed}
use Rattle.wg_player.specs.Drawing.{HasAskedIf, HasDrawn}

-- ---- what a maker gives

some_is : {A : Type 0} (x y : A) → Some x ≡ Some y → x ≡ y
some_is x y e = cc

-- A handle of what an answer made is the texture that was asked for.
pub given : (device : ℕ) (known : TextureInfo) (answer : Answer) (handle : HandleValue) → handle_made device (CreateTexture known) answer ≡ Some handle → IsMade device known answer handle
given device known (Made number valid) handle e =
    let made : HandleValue = record { reference = record { device = device; number = number }; valid = valid; info = Texture known } in
    let P : HandleValue → Type 0 = λ h. IsMade device known (Made number valid) h in
    subst P (some_is made handle e) (record { on = refl; made = refl; knows = refl })
given device known (Queued op) handle e = absurd (cc)
given device known Promised handle e = absurd (cc)
given device known Plain handle e = absurd (cc)
given device known BadCompletion handle e = absurd (cc)

-- ---- what a canvas has asked

created_is : (setup : Setup) (known : TextureInfo) (answer : Answer) → texture_made setup.serial (CreateTexture known) answer ≡ handle_known setup (info_asked (CreateTexture known)) answer
created_is setup known (Made number valid) = refl
created_is setup known (Queued op) = refl
created_is setup known Promised = refl
created_is setup known Plain = refl
created_is setup known BadCompletion = refl

module _ {M : Type 0} (sent : M → List Entry) (who : M → ℕ) (setup : Setup) (old new : M) where
  as_some : (request : RequestOf HandleValue) (reply : Option Reply)
      → ((answer : Answer) → texture_made setup.serial request answer ≡ handle_known setup (info_asked request) answer)
      → HasSent sent who event_asked old new (Some request) reply
      → HasAskedIf setup (Some request) (made_if setup.serial (Some request) reply) (sent old) (sent new)
  as_some request (Some reply) same was = record { entry = sent_as (who old) (event_asked request) reply; grown = was; event_is = refl; handle_is = same reply.answer }
  as_some request None same was = absurd was

  as_none : (reply : Option Reply) → HasSent sent who event_asked old new None reply → HasAskedIf setup None (made_if setup.serial None reply) (sent old) (sent new)
  as_none (Some reply) was = absurd was
  as_none None was = (was, refl)

  as_expiry : (texture : Option HandleValue) (reply : Option Reply) → HasSent sent who event_asked old new (option_map Destroy texture) reply
      → HasAskedIf setup (option_map Destroy texture) (made_if setup.serial (option_map Destroy texture) reply) (sent old) (sent new)
  as_expiry None reply was = as_none reply was
  as_expiry (Some texture) reply was = as_some (Destroy texture) reply (λ answer. refl) was

  as_asked : (canvas : CanvasValue) (stage : Stage) (reply : Option Reply) → HasSent sent who event_asked old new (asked_in canvas stage) reply
      → HasAskedIf setup (asked_in canvas stage) (made_if setup.serial (asked_in canvas stage) reply) (sent old) (sent new)
  as_asked canvas Unset reply was = as_none reply was
  as_asked canvas (Empty setting) reply was = as_some (CreateTexture (info_of canvas setting)) reply (created_is setup (info_of canvas setting)) was
  as_asked canvas (Filled setting texture) reply was = as_none reply was

  as_act : (canvas : CanvasValue) (call : CanvasCall) (reply : Option Reply) → HasSent sent who event_asked old new (act_asked canvas call) reply
      → HasAskedIf setup (act_asked canvas call) (act_made setup.serial canvas call reply) (sent old) (sent new)
  as_act canvas (Configure format usage) reply was = as_expiry (texture_of canvas) reply was
  as_act canvas Current reply was = as_asked canvas canvas.stage reply was
  as_act canvas Present reply was = as_expiry (texture_of canvas) reply was

  pub drawn_as : (canvas after : CanvasValue) (call : CanvasCall) (reply : Option Reply) → HasSent sent who event_asked old new (act_asked canvas call) reply
      → after ≡ acted canvas call (act_made setup.serial canvas call reply)
      → HasDrawn setup (act_asked canvas call) (sent old) (sent new) (λ given. after ≡ acted canvas call given)
  drawn_as canvas after call reply was is = record { given = act_made setup.serial canvas call reply; was_asked = as_act canvas call reply was; goes_to = is }

-- ---- where the canvas stands

module _ (setup : Setup) (made made_after : List Entry) where
  pub drawn_in : (canvas after : CanvasValue) (call : CanvasCall) → HasDrawn setup (act_asked canvas call) made made_after (λ given. after ≡ acted canvas call given)
      → HasDrawn setup (option_and_then (λ c. act_asked c call) (canvas_in (object.Canvas canvas))) made made_after
      (λ given. object.Canvas after ≡ redrawn (object.Canvas canvas) (λ c. acted c call given))
  drawn_in canvas after call was = record { given = was.given; was_asked = was.was_asked; goes_to = ap object.Canvas was.goes_to }

  pub undrawn : (what : Object) (call : CanvasCall) → canvas_in what ≡ None → made_after ≡ made
      → HasDrawn setup (option_and_then (λ c. act_asked c call) (canvas_in what)) made made_after (λ given. what ≡ redrawn what (λ c. acted c call given))
  undrawn (object.Made handle recorder) call none same = record { given = None; was_asked = (same, refl); goes_to = refl }
  undrawn (object.Pass encoder number) call none same = record { given = None; was_asked = (same, refl); goes_to = refl }
  undrawn (object.Shown texture) call none same = record { given = None; was_asked = (same, refl); goes_to = refl }
  undrawn (object.Canvas canvas) call none same = absurd (cc)

  pub undrawn_past : (objects : List Object) (place : ℕ) (call : CanvasCall) → length objects ≤ place → made_after ≡ made
      → HasDrawn setup (canvas_asked objects place call) made made_after (λ given. objects ≡ acted_at objects place call given)
  undrawn_past objects place call past same =
      let none : slice_get objects place ≡ None = slice_get_past objects place past in
      let after = λ (given : Option HandleValue) (what : Option Object). option_map_or (λ x. slice_set objects place (redrawn x (λ c. acted c call given))) what objects in
      record {
        given = None;
        was_asked = subst (λ (what : Option Object). HasAskedIf setup (option_and_then (λ c. act_asked c call) (option_and_then canvas_in what)) None made made_after) (sym none) (same, refl);
        goes_to = sym (ap (after None) none);
      }

  pub drawn_at : (objects : List Object) (place : ℕ) (what changed : Object) (call : CanvasCall) → slice_get objects place ≡ Some what
      → HasDrawn setup (option_and_then (λ c. act_asked c call) (canvas_in what)) made made_after (λ given. changed ≡ redrawn what (λ c. acted c call given))
      → HasDrawn setup (canvas_asked objects place call) made made_after (λ given. slice_set objects place changed ≡ acted_at objects place call given)
  drawn_at objects place what changed call is was =
      let after = λ (given : Option HandleValue) (found : Option Object). option_map_or (λ x. slice_set objects place (redrawn x (λ c. acted c call given))) found objects in
      record {
        given = was.given;
        was_asked = subst (λ (found : Option Object). HasAskedIf setup (option_and_then (λ c. act_asked c call) (option_and_then canvas_in found)) was.given made made_after) (sym is) was.was_asked;
        goes_to = ap (slice_set objects place) was.goes_to ∙ sym (ap (after was.given) is);
      }

-- ---- the play

module _ (setup : Setup) (sight after : Sight) (own own_after : List Entry) where
  played_as : (canvas : ℕ) (call : CanvasCall) (made : Option ℕ) (asked : Option (RequestOf HandleValue)) (given : Option HandleValue) → canvas_asks sight (On canvas call) ≡ asked
      → HasAskedIf setup asked given own own_after → after ≡ drawn sight (On canvas call) made given → HasPlayed setup sight after (Canvas (On canvas call) made) own own_after
  played_as canvas call made None given e was is =
      let stays = λ (o : Option (RequestOf HandleValue)). option_map_or (λ request. None) o (Some (drawn sight (On canvas call) made None)) in
      inr (record { kept = ap stays e ∙ ap Some (sym (is ∙ ap (drawn sight (On canvas call) made) was.1)); same = was.0 })
  played_as canvas call made (Some request) given e was is =
      inl (record {
        entry = was.entry;
        grown = was.grown;
        event = was.event_is ∙ sym (ap (λ o. option_map_or event_asked o (Late unknown.reference)) e);
        sent = ap (λ o. option_map_or (λ request. None) o (Some (drawn sight (On canvas call) made None))) e;
        sees = is ∙ ap (drawn sight (On canvas call) made) (was.handle_is ∙ sym (ap (λ o. given_by setup o was.entry.reply.answer) e));
      })

  -- a call that asks something of a canvas
  pub drawn_played : (objects : List Object) (canvas : ℕ) (call : CanvasCall) (made : Option ℕ)
      → HasDrawn setup (canvas_asked sight.own (place_in sight canvas) call) own own_after (λ given. objects ≡ acted_at sight.own (place_in sight canvas) call given)
      → after ≡ with_more (with_own sight objects) (shown_at objects (place_in sight canvas) call made)
      → HasPlayed setup sight after (Canvas (On canvas call) made) own own_after
  drawn_played objects canvas call made was is =
      played_as canvas call made (canvas_asks sight (On canvas call)) was.given refl was.was_asked
      (is ∙ ap (λ (found : List Object). with_own sight (drawn_on found (place_in sight canvas) call made)) was.goes_to)

  -- a new canvas, with a name and without one
  pub created_kept : (width height slot : ℕ) → after ≡ with_more sight (new_canvas width height (Some slot)) → own_after ≡ own
      → HasPlayed setup sight after (Canvas (Create width height) (Some slot)) own own_after
  created_kept width height slot is same = inr (record { kept = ap Some (sym is); same = same })

  pub unnamed_kept : (width height : ℕ) → after ≡ sight → own_after ≡ own → HasPlayed setup sight after (Canvas (Create width height) None) own own_after
  unnamed_kept width height is same = inr (record { kept = ap Some (ap (with_own sight) (append-nil sight.own) ∙ sym is); same = same })
