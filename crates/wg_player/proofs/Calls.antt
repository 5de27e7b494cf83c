-- What one call of a lane is once it was played.
use Rattle.std.proofs.Common.{◌≡◌, ℕ, Bool, true, false, List, [], ◌∷◌, ◌++◌, Option, Some, None, if◌then◌else◌, refl, ap, ap₂, sym, ◌∙◌, subst, inl, inr}
use Rattle.wg_types.specs.declared.commands.CommandOf.{CommandOf}
use Rattle.wg_types.specs.Commands.{Command}
use Rattle.wg_types.specs.Handles.{HandleValue}
use Rattle.wg_types.specs.declared.handles.Info.{Info}
use Rattle.wg_types.specs.declared.handles.ObjRef.{ObjRef}
use Rattle.wg_types.specs.declared.limits.Limits.{Limits}
use Rattle.wg_trace.specs.declared.replies.Reply.{Reply}
use Rattle.wg_types.specs.declared.requests.RequestOf.{RequestOf}
use Rattle.wg_encoder.specs.Recorders.{noted}
use Rattle.wg_encoder.specs.declared.recorder.Noted.TheVariants.{Kept, Late as NotedLate}
use Rattle.wg_history.specs.declared.events.Setup.{Setup}
use Rattle.wg_history.specs.declared.events.Event.{Event}
use Rattle.wg_history.specs.declared.events.Event.TheVariants as event
use Rattle.wg_history.specs.Entries.{Entry}
use Rattle.wg_turn.specs.Entries.{entry}
use Rattle.wg_turn.specs.Passes.{own_of, number_of}
use Rattle.wg_device.specs.Fronts.{Lock, DevicePass, IsAct}
use Rattle.wg_script.specs.declared.calls.CallOf.TheVariants.{Record, Ask}
use Rattle.wg_play.specs.declared.objects.Stand.{Stand}
use Rattle.wg_play.specs.Objects.{reference_at, is_late_on}
use Rattle.wg_play.specs.Sights.{Sight}
use Rattle.wg_play.specs.Lanes.{command_seen, stand_seen, noted_on, kept, event_sent, info_sent, handle_known, taken_by, with_handle}
use Rattle.wg_player.specs.Moves.{PassHasAsked, HasPlayed}

-- ---- recording calls

kept_by : (sight : Sight) (on : ℕ) (command : CommandOf ℕ) (made : Option ℕ) (late : Bool) → is_late_on sight.own (stand_seen sight on) ≡ late
    → kept sight (Record on command made) ≡ (if late then None else Some (noted_on sight (stand_seen sight on) (command_seen sight command) made))
kept_by sight on command made late is = ap (λ (b : Bool). if b then None else Some (noted_on sight (stand_seen sight on) (command_seen sight command) made)) is

-- what was noted says whether the call was late
was_late : (late : Bool) → noted late ≡ NotedLate → late ≡ true
was_late true e = refl
was_late false e = absurd (cc)

was_kept : (late : Bool) → noted late ≡ Kept → late ≡ false
was_kept true e = absurd (cc)
was_kept false e = refl

noted_is : (sight after : Sight) (on : ℕ) (command : CommandOf ℕ) (made : Option ℕ) (stand : Stand) (found : Command)
    → stand ≡ stand_seen sight on → found ≡ command_seen sight command → after ≡ noted_on sight stand found made
    → after ≡ noted_on sight (stand_seen sight on) (command_seen sight command) made
noted_is sight after on command made stand found stands commands is =
    is ∙ (ap (λ (s : Stand). noted_on sight s found made) stands ∙ ap (λ (c : Command). noted_on sight (stand_seen sight on) c made) commands)

-- a recording call that is late is an event
pub late_on : (setup : Setup) (sight after : Sight) (on : ℕ) (command : CommandOf ℕ) (made : Option ℕ) (stand : Stand) (found : Command) (encoder : ObjRef) (who : ℕ) (reply : Reply) (own own_after : List Entry)
    → stand ≡ stand_seen sight on → found ≡ command_seen sight command → encoder ≡ reference_at sight.own stand.encoder
    → noted (is_late_on sight.own stand) ≡ NotedLate → after ≡ noted_on sight stand found made → own_after ≡ own ++ entry who (event.Late encoder) reply ∷ []
    → HasPlayed setup sight after (Record on command made) own own_after
late_on setup sight after on command made stand found encoder who reply own own_after stands commands encoders late is grown =
    let late_is : is_late_on sight.own (stand_seen sight on) ≡ true
    = was_late (is_late_on sight.own (stand_seen sight on)) (subst (λ (s : Stand). noted (is_late_on sight.own s) ≡ NotedLate) stands late) in
    inl (record {
      entry = entry who (event.Late encoder) reply;
      grown = grown;
      event = ap (λ (r : ObjRef). event.Late r) (encoders ∙ ap (λ (s : Stand). reference_at sight.own s.encoder) stands);
      sent = kept_by sight on command made true late_is;
      sees = noted_is sight after on command made stand found stands commands is;
    })

-- any other is kept
pub kept_on : (setup : Setup) (sight after : Sight) (on : ℕ) (command : CommandOf ℕ) (made : Option ℕ) (stand : Stand) (found : Command) (own : List Entry)
    → stand ≡ stand_seen sight on → found ≡ command_seen sight command
    → noted (is_late_on sight.own stand) ≡ Kept → after ≡ noted_on sight stand found made
    → HasPlayed setup sight after (Record on command made) own own
kept_on setup sight after on command made stand found own stands commands keeps is =
    let kept_is : is_late_on sight.own (stand_seen sight on) ≡ false
    = was_kept (is_late_on sight.own (stand_seen sight on)) (subst (λ (s : Stand). noted (is_late_on sight.own s) ≡ Kept) stands keeps) in
    inr (record {
      kept = kept_by sight on command made false kept_is ∙ ap Some (sym (noted_is sight after on command made stand found stands commands is));
      same = refl;
    })

-- ---- calls of the device

pub asked_as : (setup : Setup) (lock : Lock) (old new : DevicePass) (sent : Event) (known : Option Info) (handle : Option HandleValue) (reply : Reply)
    → IsAct lock old new sent reply → handle ≡ handle_known setup known reply.answer → PassHasAsked setup sent known handle (own_of old) (own_of new)
asked_as setup lock old new sent known handle reply act is = record {
  entry = entry (number_of old) sent reply;
  grown = act.own;
  event_is = refl;
  handle_is = is;
}

-- a call of the device, with what it made under a slot
pub sent_made : (setup : Setup) (limits : Limits) (sight taken after : Sight) (request : RequestOf ℕ) (slot : ℕ) (handle : Option HandleValue) (own own_after : List Entry)
    → PassHasAsked setup (event_sent sight request) (info_sent sight request) handle own own_after → taken ≡ taken_by sight (Ask request None) → limits ≡ setup.limits
    → after ≡ with_handle limits taken handle → HasPlayed setup sight after (Ask request (Some slot)) own own_after
sent_made setup limits sight taken after request slot handle own own_after asked took limited is = inl (record {
  entry = asked.entry;
  grown = asked.grown;
  event = asked.event_is;
  sent = refl;
  sees = is
      ∙ (ap₂ (λ (l : Limits) (s : Sight). with_handle l s handle) limited took
      ∙ ap (λ (h : Option HandleValue). with_handle setup.limits (taken_by sight (Ask request None)) h) asked.handle_is);
})

-- and with none
pub sent_plain : (setup : Setup) (sight after : Sight) (request : RequestOf ℕ) (handle : Option HandleValue) (own own_after : List Entry)
    → PassHasAsked setup (event_sent sight request) (info_sent sight request) handle own own_after → after ≡ taken_by sight (Ask request None)
    → HasPlayed setup sight after (Ask request None) own own_after
sent_plain setup sight after request handle own own_after asked took = inl (record {
  entry = asked.entry;
  grown = asked.grown;
  event = asked.event_is;
  sent = refl;
  sees = took;
})
