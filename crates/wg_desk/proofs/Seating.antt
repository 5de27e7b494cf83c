-- What is kept of objects, as calls go on.
use Rattle.std.proofs.Common.{◌≡◌, ◌⊎◌, inl, inr, ℕ, ◌+◌, Bool, true, false, ◌&&◌, ◌==◌, List, [], ◌∷◌, ◌++◌, length, reverse, Option, Some, None, is_some, is_none, slice_get, slice_set, refl, ap, sym, subst, ◌∙◌, arith, true≢false, length-append, if◌then◌else◌}
use Rattle.std.specs.Prelude.{IfSome, option_map, option_and_then, option_to_list}
use Rattle.std.specs.Option.{option_map_or}
use Rattle.std.proofs.lemmas.List.{reverse-append, append-nil}
use Rattle.std.proofs.lemmas.Bool.{cases_eq, ne_eqb}
use Rattle.wg_types.specs.Handles.{HandleValue}
use Rattle.wg_types.specs.declared.handles.Info.{Info}
use Rattle.wg_types.specs.declared.handles.ObjRef.{ObjRef}
use Rattle.wg_trace.specs.declared.replies.Answer.{Answer}
use Rattle.wg_trace.specs.declared.replies.Answer.TheVariants.{Made, Queued, Promised, Plain, BadCompletion}
use Rattle.wg_trace.specs.declared.replies.Reply.{Reply}
use Rattle.wg_history.specs.declared.events.Setup.{Setup}
use Rattle.wg_history.specs.declared.events.Event.{Event}
use Rattle.wg_history.specs.Entries.{Entry, Past, effects_of}
use Rattle.wg_history.specs.Objects.{is_making, count}
use Rattle.wg_model.specs.Rules.{first_unmet}
use Rattle.wg_history.specs.Rules.{drop_list, dropped_at, is_dropped, is_genuine}
use Rattle.wg_history.specs.Answers.{reply_to}
use Rattle.wg_calls.specs.Calls.{handle_of}
use Rattle.wg_calls.proofs.Genuine.{genuine_more, is_answered}
use Rattle.wg_state.proofs.NoteLemmas.{dropped_new}
use Rattle.wg_desk.specs.declared.seats.Seat.{Seat}
use Rattle.wg_desk.specs.Seats.{vacant, handle_at, emptied, emptied_at, seat_of, seat_made, IsSeated, AreSeated}
use Rattle.wg_desk.specs.Sent.{dropped_number, left_after}
use Rattle.wg_desk.specs.Desks.{MakesGenuine, IsNumber}
use Rattle.wg_desk.proofs.Lists.{get_same, set_cases, more_cases, changed_length}
use Rattle.wg_desk.proofs.Sending.{is_next}

-- A seat stays good as the history goes on.

still_genuine : (setup : Setup) (entry : Entry) (past : Past) (handle : Option HandleValue) → IfSome handle (λ h. is_genuine setup past h ≡ true) → IfSome handle (λ h. is_genuine setup (entry ∷ past) h ≡ true)
still_genuine setup entry past None genuine = tt
still_genuine setup entry past (Some handle) genuine = genuine_more setup entry past handle genuine

back : (history : List Entry) (entry : Entry) → reverse (history ++ entry ∷ []) ≡ entry ∷ reverse history
back history entry = reverse-append history (entry ∷ [])

-- What an event does not drop stays undropped.
still_undropped : (setup : Setup) (entry : Entry) (past : Past) (n : ℕ) → is_dropped setup past n ≡ false → (dropped_number entry.event ≡ Some n → ⊥) → is_dropped setup (entry ∷ past) n ≡ false
still_undropped setup entry past n undropped other =
    ap (λ (b : Bool). is_some (if b then Some (count past) else dropped_at setup past n)) (by_object (effects_of entry.event).dropped refl) ∙ undropped
  where
    by_object : (o : Option ObjRef) → (effects_of entry.event).dropped ≡ o → option_map_or (λ object. object.number == n && is_none (first_unmet (drop_list (is_dropped setup past n) setup past object))) o false ≡ false
    by_object None is = refl
    by_object (Some object) is =
        let apart : object.number ≡ n → ⊥ = λ same. other (ap (λ (o : Option ObjRef). option_map (λ (object : ObjRef). object.number) o) is ∙ ap (λ (k : ℕ). Some k) same) in
        ap (λ (b : Bool). b && is_none (first_unmet (drop_list (is_dropped setup past n) setup past object))) (ne_eqb object.number n apart)

still_undropped_in : (setup : Setup) (entry : Entry) (past : Past) (n : ℕ) (handle : Option HandleValue) → (dropped_number entry.event ≡ Some n → ⊥) → IfSome handle (λ _. is_dropped setup past n ≡ false) → IfSome handle (λ _. is_dropped setup (entry ∷ past) n ≡ false)
still_undropped_in setup entry past n None other undropped = tt
still_undropped_in setup entry past n (Some handle) other undropped = still_undropped setup entry past n undropped other

still_seated : (setup : Setup) (history : List Entry) (entry : Entry) (n : ℕ) (seat : Seat) → (dropped_number entry.event ≡ Some n → ⊥) → IsSeated setup history n seat → IsSeated setup (history ++ entry ∷ []) n seat
still_seated setup history entry n seat other is = record {
  genuine = subst (λ (past : Past). IfSome seat.handle (λ h. is_genuine setup past h ≡ true)) (sym (back history entry)) (still_genuine setup entry (reverse history) seat.handle is.genuine);
  number = is.number;
  undropped = subst (λ (past : Past). IfSome seat.handle (λ _. is_dropped setup past n ≡ false)) (sym (back history entry)) (still_undropped_in setup entry (reverse history) n seat.handle other is.undropped);
}

-- What a call makes is seated.

-- the number of the handle of an answer
handle_number : (serial n : ℕ) (known : Info) (answer : Answer) (handle : HandleValue) → IsNumber answer n → handle_of serial known answer ≡ Some handle → handle.reference.number ≡ n
handle_number serial n known (Made number valid) handle numbered made =
    let same : record { reference = record { device = serial; number = number }; valid = valid; info = known } ≡ handle = cc (made) in
    ap (λ (h : HandleValue). h.reference.number) (sym same) ∙ numbered number valid refl
handle_number serial n known (Queued op) handle numbered made = absurd (cc (made))
handle_number serial n known Promised handle numbered made = absurd (cc (made))
handle_number serial n known Plain handle numbered made = absurd (cc (made))
handle_number serial n known BadCompletion handle numbered made = absurd (cc (made))

made_number : (serial n : ℕ) (known : Option Info) (answer : Answer) (handle : HandleValue) → IsNumber answer n → option_and_then (λ known. handle_of serial known answer) known ≡ Some handle → handle.reference.number ≡ n
made_number serial n None answer handle numbered made = absurd (cc (made))
made_number serial n (Some known) answer handle numbered made = handle_number serial n known answer handle numbered made

some_handle : (serial : ℕ) (known : Info) (answer : Answer) (number : ℕ) (valid : Bool) → answer ≡ Made number valid → is_some (handle_of serial known answer) ≡ true
some_handle serial known answer number valid is = ap (λ (a : Answer). is_some (handle_of serial known a)) is

-- Seats of which that of one object is emptied.

vacant_seated : (setup : Setup) (history : List Entry) (n : ℕ) → IsSeated setup history n vacant
vacant_seated setup history n = record { genuine = tt; number = tt; undropped = tt }

left_seated : (setup : Setup) (history : List Entry) (seats : List Seat) (drop : Option ℕ)
    → ((n : ℕ) (seat : Seat) → slice_get seats n ≡ Some seat → (drop ≡ Some n → ⊥) → IsSeated setup history n seat) → length seats ≡ count (reverse history)
    → AreSeated setup history (option_map_or (emptied_at seats) drop seats)
left_seated setup history seats None each counted = record { count_is = counted; each = λ n seat is. each n seat is (λ e. absurd (cc (e))) }
left_seated setup history seats (Some d) each counted = by_seat (slice_get seats d) refl
  where
    by_cases : (was : Seat) → slice_get seats d ≡ Some was → (n : ℕ) (seat : Seat) → slice_get (slice_set seats d vacant) n ≡ Some seat → (n ≡ d) ⊎ (n ≡ d → ⊥)
        → (slice_get (slice_set seats d vacant) n ≡ slice_get seats n) ⊎ ((n ≡ d) × (slice_get (slice_set seats d vacant) n ≡ Some vacant)) → IsSeated setup history n seat
    by_cases was at n seat is (inl same) among =
        let here : slice_get (slice_set seats d vacant) n ≡ Some vacant = ap (λ (k : ℕ). slice_get (slice_set seats d vacant) k) same ∙ get_same seats d was vacant at in
        let free : vacant ≡ seat = cc (is, here) in
        subst (λ (s : Seat). IsSeated setup history n s) free (vacant_seated setup history n)
    by_cases was at n seat is (inr other) (inl same) = each n seat (sym same ∙ is) (λ e. other (let number : d ≡ n = cc (e) in sym number))
    by_cases was at n seat is (inr other) (inr found) = absurd (other found.0)

    by_seat : (found : Option Seat) → slice_get seats d ≡ found → AreSeated setup history (option_map_or (λ seat. slice_set seats d (emptied seat)) found seats)
    by_seat None is = record {
      count_is = counted;
      each = λ n seat at. each n seat at (λ e. let number : d ≡ n = cc (e) in absurd (let same : slice_get seats d ≡ Some seat = ap (λ (k : ℕ). slice_get seats k) number ∙ at in cc (is, same)));
    }
    by_seat (Some was) is = record {
      count_is = ap (λ (o : Option Seat). length (option_map_or (λ seat. slice_set seats d (emptied seat)) o seats)) (sym is) ∙ (changed_length seats d emptied ∙ counted);
      each = λ n seat at. by_cases was is n seat at (cases_eq n d) (set_cases seats d n vacant);
    }

module _ (setup : Setup) (history : List Entry) (seats : List Seat) (entry : Entry) (replied : entry.reply ≡ reply_to setup (reverse history) entry.event) where
  -- there is a handle exactly where the event makes an object
  gives : (known : Option Info) → is_making entry.event ≡ is_some known → is_some (option_and_then (λ known. handle_of setup.serial known entry.reply.answer) known) ≡ is_making entry.event
  gives None making = sym making
  gives (Some known) making =
      some_handle setup.serial known entry.reply.answer (count (reverse history)) _ (is_answered setup entry (reverse history) replied making) ∙ sym making

  counted : (makes : Bool) → is_making entry.event ≡ makes → count (reverse (history ++ entry ∷ [])) ≡ (if makes then count (reverse history) + 1 else count (reverse history))
  counted makes is = ap (λ (past : Past). count past) (back history entry) ∙ ap (λ (b : Bool). if b then count (reverse history) + 1 else count (reverse history)) is

  -- each but what the event drops
  each_but : (made : Option HandleValue) → AreSeated setup history seats
      → ((handle : HandleValue) → made ≡ Some handle → (is_genuine setup (entry ∷ reverse history) handle ≡ true) × (handle.reference.number ≡ count (reverse history)))
      → (n : ℕ) (seat : Seat) → slice_get (seats ++ option_to_list (option_map seat_of made)) n ≡ Some seat → (dropped_number entry.event ≡ Some n → ⊥) → IsSeated setup (history ++ entry ∷ []) n seat
  each_but None seated new n seat is other = still_seated setup history entry n seat other (seated.each n seat (ap (λ (list : List Seat). slice_get list n) (sym (append-nil seats)) ∙ is))
  each_but (Some handle) seated new n seat is other = by_cases (more_cases seats n (seat_of handle))
    where
      unborn : n ≡ length seats → is_dropped setup (reverse history) n ≡ false
      unborn last = let counted = seated.count_is in ap is_some (dropped_new setup (reverse history) n (omega (arith, last, counted)))

      new_seated : n ≡ length seats → IsSeated setup (history ++ entry ∷ []) n (seat_of handle)
      new_seated last = record {
        genuine = subst (λ (past : Past). is_genuine setup past handle ≡ true) (sym (back history entry)) (new handle refl).0;
        number = (new handle refl).1 ∙ (sym seated.count_is ∙ sym last);
        undropped = subst (λ (past : Past). is_dropped setup past n ≡ false) (sym (back history entry)) (still_undropped setup entry (reverse history) n (unborn last) other);
      }

      by_cases : (slice_get (seats ++ seat_of handle ∷ []) n ≡ slice_get seats n) ⊎ ((n ≡ length seats) × (slice_get (seats ++ seat_of handle ∷ []) n ≡ Some (seat_of handle)))
          → IsSeated setup (history ++ entry ∷ []) n seat
      by_cases (inl same) = still_seated setup history entry n seat other (seated.each n seat (sym same ∙ is))
      by_cases (inr found) =
          let same : seat_of handle ≡ seat = cc (is, found.1) in
          subst (λ (s : Seat). IsSeated setup (history ++ entry ∷ []) n s) same (new_seated found.0)

  count_with : (made : Option HandleValue) → AreSeated setup history seats → is_some made ≡ is_making entry.event → length (seats ++ option_to_list (option_map seat_of made)) ≡ count (reverse (history ++ entry ∷ []))
  count_with None seated makes = ap (λ (list : List Seat). length list) (append-nil seats) ∙ (seated.count_is ∙ sym (counted false (sym makes)))
  count_with (Some handle) seated makes = length-append seats (seat_of handle ∷ []) ∙ (ap (λ (k : ℕ). k + 1) seated.count_is ∙ sym (counted true (sym makes)))

  -- After an event of which so much is known of what it makes, there is a seat for each object still.
  pub sent_seated : (known : Option Info) → AreSeated setup history seats → MakesGenuine setup history entry.event known
      → AreSeated setup (history ++ entry ∷ []) (left_after entry.event (seats ++ option_to_list (seat_made setup known entry.reply.answer)))
  sent_seated known seated makes =
      let made : Option HandleValue = option_and_then (λ known. handle_of setup.serial known entry.reply.answer) known in
      left_seated setup (history ++ entry ∷ []) (seats ++ option_to_list (option_map seat_of made)) (dropped_number entry.event)
      (each_but made seated
      (λ handle is. (
        makes.genuine entry.who entry.reply handle replied is,
        made_number setup.serial (count (reverse history)) known entry.reply.answer handle
            (subst (λ (reply : Reply). IsNumber reply.answer (count (reverse history))) (sym replied) (is_next setup (reverse history) entry.event)) is,
      )))
      (count_with made seated (gives known makes.making))

-- A reply says the next number.
pub next_number : (setup : Setup) (history : List Entry) (seats : List Seat) (event : Event) (reply : Reply) → AreSeated setup history seats → reply ≡ reply_to setup (reverse history) event → IsNumber reply.answer (length seats)
next_number setup history seats event reply seated replied =
    subst (λ (n : ℕ). IsNumber reply.answer n) (sym seated.count_is)
    (subst (λ (r : Reply). IsNumber r.answer (count (reverse history))) (sym replied) (is_next setup (reverse history) event))

-- What a desk that sends an event keeps.

pub send_seated : (setup : Setup) (history after : List Entry) (seats more : List Seat) (who : ℕ) (event : Event) (reply : Reply) (known : Option Info)
    → AreSeated setup history seats → MakesGenuine setup history event known → reply ≡ reply_to setup (reverse history) event
    → after ≡ history ++ (record { who = who; event = event; reply = reply }) ∷ []
    → more ≡ left_after event (seats ++ option_to_list (seat_made setup known reply.answer))
    → AreSeated setup after more
send_seated setup history after seats more who event reply known seated makes replied entered grown =
    subst (λ (list : List Seat). AreSeated setup after list) (sym grown)
    (subst (λ (h : List Entry). AreSeated setup h (left_after event (seats ++ option_to_list (seat_made setup known reply.answer)))) (sym entered)
    (sent_seated setup history seats (record { who = who; event = event; reply = reply }) replied known seated makes))

-- The object of a seat with a handle was not dropped.
pub seat_undropped : (setup : Setup) (history : List Entry) (seats : List Seat) (n : ℕ) → AreSeated setup history seats → is_none (handle_at seats n) ≡ false → is_dropped setup (reverse history) n ≡ false
seat_undropped setup history seats n seated held = by_seat (slice_get seats n) refl held
  where
    by_handle : (handle : Option HandleValue) → IfSome handle (λ _. is_dropped setup (reverse history) n ≡ false) → is_none handle ≡ false → is_dropped setup (reverse history) n ≡ false
    by_handle None undropped e = absurd (true≢false e)
    by_handle (Some handle) undropped e = undropped

    by_seat : (found : Option Seat) → slice_get seats n ≡ found → is_none (option_and_then (λ (s : Seat). s.handle) found) ≡ false → is_dropped setup (reverse history) n ≡ false
    by_seat None at e = absurd (true≢false e)
    by_seat (Some seat) at e = by_handle seat.handle (seated.each n seat at).undropped e
