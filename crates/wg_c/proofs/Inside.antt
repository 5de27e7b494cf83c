-- What the desk has done, as what lies behind a device shows it.
use Rattle.std.proofs.Common.{◌≡◌, ℕ, ◌+◌, ◌-◌, ◌≤◌, ◌<◌, List, [], ◌∷◌, ◌++◌, Option, Some, None, drop, length, refl, ap, sym, ◌∙◌, subst, append-nil, length-append, length-drop, arith}
use Rattle.std.specs.Prelude.{IsSomeAnd, slice_get, option_to_list}
use Rattle.wg_types.specs.declared.handles.ObjRef.{ObjRef}
use Rattle.wg_trace.specs.declared.replies.Reply.{Reply}
use Rattle.wg_types.specs.declared.requests.RequestOf.{RequestOf}
use Rattle.wg_orders.specs.Trace.{Item}
use Rattle.wg_history.specs.declared.events.Setup.{Setup}
use Rattle.wg_encoder.specs.Recorders.{RecorderValue}
use Rattle.wg_history.specs.declared.events.Event.{Event}
use Rattle.wg_history.specs.declared.events.Event.TheVariants.{Late}
use Rattle.wg_history.specs.Entries.{Entry}
use Rattle.wg_history.specs.Traces.{Trace}
use Rattle.wg_history.specs.ReleaseLaws.{Grows}
use Rattle.wg_history.proofs.Growing.{releases_so_far}
use Rattle.wg_calls.specs.Calls.{finish_of, known_of_finish}
use Rattle.wg_desk.specs.Desks.{DeskValue, encoder_on, HasSent, HandsOutGrowth, IsNumber}
use Rattle.wg_desk.specs.Seats.{seat_made}
use Rattle.wg_desk.specs.Sent.{event_sent, seats_after}
use Rattle.wg_told.specs.declared.replies.ToldReply.{ToldReply}
use Rattle.wg_told.specs.declared.drains.ToldCounts.{ToldCounts}
use Rattle.wg_told.specs.declared.items.ToldItem.{ToldItem}
use Rattle.wg_told.specs.declared.items.ToldUse.{ToldUse}
use Rattle.wg_told.specs.declared.items.ToldAccess.{ToldAccess}
use Rattle.wg_told.specs.Drains.{items_told, uses_told, accesses_told, counts_told, fitting, over, room_in}
use Rattle.wg_told.specs.Replies.{reply_told}
use Rattle.wg_c.specs.declared.inner.Drained.TheVariants.{Told, Wants}
use Rattle.wg_c.specs.Inners.{InnerValue, AreWaiting, answer_to, HasDone, HasAsked, HasComeLate, HasFinished, Sheets, told_over, HasDrained}

-- an event that was sent
done_by : (old new : InnerValue) (event : Event) (reply : Reply)
    → new.desk.setup ≡ old.desk.setup → HasSent old.desk new.desk 0 event reply → HandsOutGrowth old.desk new.desk old.items new.items
    → new.told ≡ old.told → new.settled ≡ old.settled ++ reply.settled → HasDone old new event
done_by old new event reply setup sent grown still settled =
    let e : reply ≡ answer_to old event = sent.replied in
    record {
      setup = setup;
      sent = subst (λ (r : Reply). HasSent old.desk new.desk 0 event r) e sent;
      grown = grown;
      still = still;
      settled = subst (λ (r : Reply). new.settled ≡ old.settled ++ r.settled) e settled;
    }

pub asked_by : (old new : InnerValue) (request : RequestOf ℕ) (reply : Reply) (out : ToldReply)
    → new.desk.setup ≡ old.desk.setup → HasSent old.desk new.desk 0 (event_sent old.desk.seats request) reply
    → IsNumber reply.answer (length old.desk.seats) → HandsOutGrowth old.desk new.desk old.items new.items
    → new.desk.seats ≡ seats_after old.desk.setup old.desk.seats request reply.answer
    → new.told ≡ old.told → new.settled ≡ old.settled ++ reply.settled → out ≡ reply_told reply (length old.desk.history)
    → HasAsked old new request out
asked_by old new request reply out setup sent number grown seats still settled out_is =
    let R : Reply = answer_to old (event_sent old.desk.seats request) in
    let e : reply ≡ R = sent.replied in
    record {
      done = done_by old new (event_sent old.desk.seats request) reply setup sent grown still settled;
      seats = subst (λ (r : Reply). new.desk.seats ≡ seats_after old.desk.setup old.desk.seats request r.answer) e seats;
      number = subst (λ (r : Reply). IsNumber r.answer (length old.desk.seats)) e number;
      out_is = subst (λ (r : Reply). out ≡ reply_told r (length old.desk.history)) e out_is;
    }

-- of what is there, by what it is
some_by : {A : Type 0} (found : Option A) (P Q : A → Type 0) → ((a : A) → P a → Q a) → IsSomeAnd found P → IsSomeAnd found Q
some_by None P Q then held = held
some_by (Some a) P Q then held = then a held

late_by : (old new : InnerValue) (encoder : ObjRef) (reply : Reply) (out : ToldReply)
    → new.desk.setup ≡ old.desk.setup → HandsOutGrowth old.desk new.desk old.items new.items → new.desk.seats ≡ old.desk.seats
    → new.told ≡ old.told → new.settled ≡ old.settled ++ reply.settled → out ≡ reply_told reply (length old.desk.history)
    → HasSent old.desk new.desk 0 (Late encoder) reply → HasComeLate old new encoder out
late_by old new encoder reply out setup grown seats still settled out_is sent =
    let e : reply ≡ answer_to old (Late encoder) = sent.replied in
    record {
      done = done_by old new (Late encoder) reply setup sent grown still settled;
      seats = seats;
      out_is = subst (λ (r : Reply). out ≡ reply_told r (length old.desk.history)) e out_is;
    }

pub came_late : (old new : InnerValue) (recorder : RecorderValue) (reply : Reply) (out : ToldReply)
    → new.desk.setup ≡ old.desk.setup
    → IsSomeAnd (encoder_on old.desk recorder) (λ encoder. HasSent old.desk new.desk 0 (Late encoder) reply)
    → HandsOutGrowth old.desk new.desk old.items new.items → new.desk.seats ≡ old.desk.seats
    → new.told ≡ old.told → new.settled ≡ old.settled ++ reply.settled → out ≡ reply_told reply (length old.desk.history)
    → IsSomeAnd (encoder_on old.desk recorder) (λ encoder. HasComeLate old new encoder out)
came_late old new recorder reply out setup sent grown seats still settled out_is =
    some_by (encoder_on old.desk recorder) (λ encoder. HasSent old.desk new.desk 0 (Late encoder) reply) (λ encoder. HasComeLate old new encoder out)
    (λ encoder. late_by old new encoder reply out setup grown seats still settled out_is) sent

ended_by : (old new : InnerValue) (recorder : RecorderValue) (encoder : ObjRef) (reply : Reply) (out : ToldReply)
    → new.desk.setup ≡ old.desk.setup → HandsOutGrowth old.desk new.desk old.items new.items
    → new.desk.seats ≡ old.desk.seats ++ option_to_list (seat_made old.desk.setup (Some (known_of_finish recorder)) reply.answer)
    → IsNumber reply.answer (length old.desk.seats)
    → new.told ≡ old.told → new.settled ≡ old.settled ++ reply.settled → out ≡ reply_told reply (length old.desk.history)
    → HasSent old.desk new.desk 0 (finish_of encoder recorder) reply → HasFinished old new recorder encoder out
ended_by old new recorder encoder reply out setup grown seats number still settled out_is sent =
    let e : reply ≡ answer_to old (finish_of encoder recorder) = sent.replied in
    record {
      done = done_by old new (finish_of encoder recorder) reply setup sent grown still settled;
      seats = subst (λ (r : Reply). new.desk.seats ≡ old.desk.seats ++ option_to_list (seat_made old.desk.setup (Some (known_of_finish recorder)) r.answer)) e seats;
      number = subst (λ (r : Reply). IsNumber r.answer (length old.desk.seats)) e number;
      out_is = subst (λ (r : Reply). out ≡ reply_told r (length old.desk.history)) e out_is;
    }

pub finished_by : (old new : InnerValue) (recorder : RecorderValue) (reply : Reply) (out : ToldReply)
    → new.desk.setup ≡ old.desk.setup
    → IsSomeAnd (encoder_on old.desk recorder) (λ encoder. HasSent old.desk new.desk 0 (finish_of encoder recorder) reply)
    → HandsOutGrowth old.desk new.desk old.items new.items
    → new.desk.seats ≡ old.desk.seats ++ option_to_list (seat_made old.desk.setup (Some (known_of_finish recorder)) reply.answer)
    → IsNumber reply.answer (length old.desk.seats)
    → new.told ≡ old.told → new.settled ≡ old.settled ++ reply.settled → out ≡ reply_told reply (length old.desk.history)
    → IsSomeAnd (encoder_on old.desk recorder) (λ encoder. HasFinished old new recorder encoder out)
finished_by old new recorder reply out setup sent grown seats number still settled out_is =
    some_by (encoder_on old.desk recorder) (λ encoder. HasSent old.desk new.desk 0 (finish_of encoder recorder) reply) (λ encoder. HasFinished old new recorder encoder out)
    (λ encoder. ended_by old new recorder encoder reply out setup grown seats number still settled out_is) sent

-- What waits to be told.

pub none_waits : (setup : Setup) (history : List Entry) (items : List Item) (told : ℕ) → history ≡ [] → items ≡ [] → told ≡ 0 → AreWaiting setup history items told
none_waits setup history items told none empty untold = record {
  first = [];
  is_end = empty ∙ sym (ap (Trace setup) none);
  within = omega (arith, untold);
}

-- It does so after an event too.
pub waits_after : (old new : DeskValue) (who : ℕ) (event : Event) (reply : Reply) (items more : List Item) (told : ℕ)
    → new.setup ≡ old.setup → HasSent old new who event reply → HandsOutGrowth old new items more
    → AreWaiting old.setup old.history items told → AreWaiting new.setup new.history more told
waits_after old new who event reply items more told setup sent grown waits =
    let entry : Entry = record { who = who; event = event; reply = reply } in
    let before : List Item = Trace old.setup old.history in
    let goes : Grows before (Trace old.setup (old.history ++ entry ∷ [])) = (releases_so_far old.setup old.history (entry ∷ []) 0).grows in
    let is : waits.first ++ more ≡ Trace new.setup new.history = grown waits.first waits.is_end in
    let whole : waits.first ++ more ≡ before ++ goes.rest
    = is ∙ (ap (λ (s : Setup). Trace s new.history) setup ∙ (ap (Trace old.setup) sent.entered ∙ goes.grown)) in
    let long : length waits.first + length more ≡ length before + length goes.rest
    = sym (length-append waits.first more) ∙ (ap (λ (xs : List Item). length xs) whole ∙ length-append before goes.rest) in
    let short : length waits.first + length items ≡ length before
    = sym (length-append waits.first items) ∙ ap (λ (xs : List Item). length xs) waits.is_end in
    record { first = waits.first; is_end = is; within = omega (arith, long, short, waits.within) }

-- and after one that is of what is there
pub waits_after_some : {A : Type 0} (old new : DeskValue) (who : ℕ) (found : Option A) (event : A → Event) (reply : Reply) (items more : List Item) (told : ℕ)
    → new.setup ≡ old.setup → IsSomeAnd found (λ a. HasSent old new who (event a) reply) → HandsOutGrowth old new items more
    → AreWaiting old.setup old.history items told → AreWaiting new.setup new.history more told
waits_after_some old new who None event reply items more told setup sent grown waits = absurd sent
waits_after_some old new who (Some a) event reply items more told setup sent grown waits = waits_after old new who (event a) reply items more told setup sent grown waits

-- and where all were told
pub none_left : (setup : Setup) (history : List Entry) (items left : List Item) (told : ℕ) → left ≡ [] → AreWaiting setup history items told → AreWaiting setup history left 0
none_left setup history items left told none waits = record {
  first = waits.first ++ items;
  is_end = ap (λ (xs : List Item). (waits.first ++ items) ++ xs) none ∙ (append-nil (waits.first ++ items) ∙ waits.is_end);
  within = omega arith;
}

-- Drains of many items.

-- what waits to be told where more was told
pub waits_on : (setup : Setup) (history : List Entry) (items : List Item) (told more : ℕ) → more ≤ length items → AreWaiting setup history items told → AreWaiting setup history items more
waits_on setup history items told more short waits = record { first = waits.first; is_end = waits.is_end; within = short }

-- no more is told than there is
pub told_within : (items rest : List Item) (told more : ℕ) → rest ≡ drop told items → told ≤ length items → more ≤ length rest → told + more ≤ length items
told_within items rest told more is before short =
    let left : length rest ≡ length items - told = ap (λ (xs : List Item). length xs) is ∙ length-drop told items in
    omega (arith, left, before, short)

none_of : (xs : List Item) → length xs ≡ 0 → xs ≡ []
none_of [] e = refl
none_of (x ∷ xs) e = absurd (omega (arith, e))

-- three lists that are the same are the same sheets
sheets_same : (one other : Sheets) → one.items ≡ other.items → one.uses ≡ other.uses → one.accesses ≡ other.accesses → one ≡ other
sheets_same one other items uses accesses =
    ap (λ (xs : List ToldItem). record { items = xs; uses = one.uses; accesses = one.accesses }) items
    ∙ (ap (λ (xs : List ToldUse). record { items = other.items; uses = xs; accesses = one.accesses }) uses
    ∙ ap (λ (xs : List ToldAccess). record { items = other.items; uses = other.uses; accesses = xs }) accesses)

-- the next item has no room
pub wants_by : (old : InnerValue) (before after : Sheets) (rest : List Item) (item : Item) (taken counts : ToldCounts)
    → rest ≡ drop old.told old.items → slice_get old.items old.told ≡ Some item
    → taken ≡ counts_told (fitting (room_in before.items before.uses before.accesses) rest) → taken.items ≡ 0
    → after.items ≡ over (items_told (fitting (room_in before.items before.uses before.accesses) rest)) before.items
    → after.uses ≡ over (uses_told (fitting (room_in before.items before.uses before.accesses) rest)) before.uses
    → after.accesses ≡ over (accesses_told (fitting (room_in before.items before.uses before.accesses) rest)) before.accesses
    → counts ≡ counts_told (item ∷ [])
    → HasDrained old old before after (Wants counts)
wants_by old before after rest item taken counts left next took none items uses accesses wanted =
    let room = room_in before.items before.uses before.accesses in
    let empty : fitting room rest ≡ [] = none_of (fitting room rest) (sym (ap (λ (t : ToldCounts). t.items) took) ∙ none) in
    let untold : after ≡ before
    = sheets_same after before (items ∙ ap (λ (xs : List Item). over (items_told xs) before.items) empty)
    (uses ∙ ap (λ (xs : List Item). over (uses_told xs) before.uses) empty) (accesses ∙ ap (λ (xs : List Item). over (accesses_told xs) before.accesses) empty) in
    let some : IsSomeAnd (slice_get old.items old.told) (λ (x : Item). counts ≡ counts_told (x ∷ []))
    = subst (λ (o : Option Item). IsSomeAnd o (λ (x : Item). counts ≡ counts_told (x ∷ []))) (sym next) wanted in
    (ap (fitting room) (sym left) ∙ empty, some, untold, refl)

-- items were told
pub told_by : (old new : InnerValue) (before after : Sheets) (rest : List Item) (counts : ToldCounts)
    → rest ≡ drop old.told old.items
    → counts ≡ counts_told (fitting (room_in before.items before.uses before.accesses) rest) → (counts.items ≡ 0 → ⊥)
    → after.items ≡ over (items_told (fitting (room_in before.items before.uses before.accesses) rest)) before.items
    → after.uses ≡ over (uses_told (fitting (room_in before.items before.uses before.accesses) rest)) before.uses
    → after.accesses ≡ over (accesses_told (fitting (room_in before.items before.uses before.accesses) rest)) before.accesses
    → new ≡ record old { told = old.told + counts.items }
    → HasDrained old new before after (Told counts)
told_by old new before after rest counts left took some items uses accesses is =
    let room = room_in before.items before.uses before.accesses in
    let many : counts.items ≡ length (fitting room rest) = ap (λ (t : ToldCounts). t.items) took in
    let more : 0 < length (fitting room rest) = omega (arith, many, some) in
    let after_is : after ≡ told_over (fitting room rest) before = sheets_same after (told_over (fitting room rest) before) items uses accesses in
    let new_is : new ≡ record old { told = old.told + length (fitting room rest) } = is ∙ ap (λ (n : ℕ). record old { told = old.told + n }) many in
    subst (λ (xs : List Item). (0 < length (fitting room xs)) × (counts ≡ counts_told (fitting room xs)) × (after ≡ told_over (fitting room xs) before) × (new ≡ record old { told = old.told + length (fitting room xs) })) left
    (more, took, after_is, new_is)
