-- What contracts see of what lies behind a device, and what calls do to it.
use Rattle.std.specs.Prelude.{◌≡◌, ℕ, zero, suc, ◌+◌, ◌-◌, ◌^◌, ◌<◌, ◌≤◌, min, ◌++◌, drop, Bool, true, false, List, [], ◌∷◌, length, reverse, slice_get, Option, Some, None, is_none, IfSome, IsSomeAnd, option_to_list}
use Rattle.wg_types.specs.declared.commands.CommandOf.{CommandOf}
use Rattle.wg_types.specs.declared.commands.On.{On}
use Rattle.wg_types.specs.declared.limits.Limits.{Limits}
use Rattle.wg_trace.specs.declared.replies.Reply.{Reply}
use Rattle.wg_trace.specs.declared.replies.Settlement.{Settlement}
use Rattle.wg_types.specs.declared.requests.RequestOf.{RequestOf}
use Rattle.wg_types.specs.Commands.{map_refs as map_command}
use Rattle.wg_types.specs.declared.handles.ObjRef.{ObjRef}
use Rattle.wg_encoder.specs.declared.recorder.Noted.{Noted}
use Rattle.wg_encoder.specs.Recorders.{RecorderValue, is_late, recorded, noted, has_taken, most_takes}
use Rattle.wg_orders.specs.Trace.{Item}
use Rattle.wg_history.specs.declared.events.Setup.{Setup}
use Rattle.wg_history.specs.declared.events.Event.{Event}
use Rattle.wg_history.specs.declared.events.Event.TheVariants.{Late}
use Rattle.wg_history.specs.Entries.{Entry}
use Rattle.wg_history.specs.Answers.{reply_to}
use Rattle.wg_history.specs.Traces.{Trace}
use Rattle.wg_desk.specs.declared.desk.DeskError.{DeskError}
use Rattle.wg_desk.specs.declared.desk.DeskError.TheVariants.{NoMemory, NoObject, NoPass}
use Rattle.wg_desk.specs.Desks.{DeskValue, HasSent, HandsOutGrowth, IsUnchanged, IsNumber}
use Rattle.wg_calls.specs.Calls.{finish_of, known_of_finish}
use Rattle.wg_desk.specs.Seats.{found_at, seat_made}
use Rattle.wg_desk.specs.Sent.{event_sent, seats_after}
use Rattle.wg_told.specs.declared.replies.ToldReply.{ToldReply}
use Rattle.wg_told.specs.declared.replies.ToldSettlement.{ToldSettlement}
use Rattle.wg_told.specs.Replies.{reply_told, settlement_told}
use Rattle.wg_told.specs.declared.items.ToldItem.{ToldItem}
use Rattle.wg_told.specs.declared.items.ToldUse.{ToldUse}
use Rattle.wg_told.specs.declared.items.ToldAccess.{ToldAccess}
use Rattle.wg_told.specs.Drains.{items_told, uses_told, accesses_told, counts_told, fitting, over, room_in}
use Rattle.wg_c.specs.declared.inner.Drained.{Drained}
use Rattle.wg_c.specs.declared.inner.Drained.TheVariants.{Told, Wants, Ended}
use Rattle.wg_c.specs.declared.left.ToldLeft.{ToldLeft}

-- the desk, the items that were handed out and not let go, how many of these were told, and the settlements that are left to be told
pub record InnerValue : Type 0 where
  pub desk : DeskValue
  pub items : List Item
  pub told : ℕ
  pub settled : List Settlement

-- What waits to be told after a history: the items are the end of the trace, and no more of them were told than there are.
pub record AreWaiting (setup : Setup) (history : List Entry) (items : List Item) (told : ℕ) : Type 0 where
  pub first : List Item
  pub is_end : first ++ items ≡ Trace setup history
  pub within : told ≤ length items

-- a device with nothing on it, of which nothing was told
pub record IsOpened (new : InnerValue) (budget serial : ℕ) (limits : Limits) : Type 0 where
  pub setup : new.desk.setup ≡ record { serial = serial; budget = budget; limits = limits }
  pub history : new.desk.history ≡ []
  pub seats : new.desk.seats ≡ []
  pub items : new.items ≡ []
  pub told : new.told ≡ 0
  pub settled : new.settled ≡ []

-- nothing has changed
pub record NothingHasChanged (old new : InnerValue) : Type 0 where
  pub setup : new.desk.setup ≡ old.desk.setup
  pub desk : IsUnchanged old.desk new.desk
  pub items : new.items ≡ old.items
  pub told : new.told ≡ old.told
  pub settled : new.settled ≡ old.settled

-- the one reply to an event
abbrev pub answer_to : InnerValue → Event → Reply
answer_to old event = reply_to old.desk.setup (reverse old.desk.history) event

-- An event was sent: the history has its entry, of the caller 0, what came to the trace waits with the items, and what was settled with
-- the settlements.
pub record HasDone (old new : InnerValue) (event : Event) : Type 0 where
  pub setup : new.desk.setup ≡ old.desk.setup
  pub sent : HasSent old.desk new.desk 0 event (answer_to old event)
  pub grown : HandsOutGrowth old.desk new.desk old.items new.items
  pub still : new.told ≡ old.told
  pub settled : new.settled ≡ old.settled ++ (answer_to old event).settled

-- A call was made, and this is what was told of it.
pub record HasAsked (old new : InnerValue) (request : RequestOf ℕ) (out : ToldReply) : Type 0 where
  pub done : HasDone old new (event_sent old.desk.seats request)
  pub seats : new.desk.seats ≡ seats_after old.desk.setup old.desk.seats request (answer_to old (event_sent old.desk.seats request)).answer
  pub number : IsNumber (answer_to old (event_sent old.desk.seats request)).answer (length old.desk.seats)
  pub out_is : out ≡ reply_told (answer_to old (event_sent old.desk.seats request)) (length old.desk.history)

-- A command was noted on a recorder of a device: it was kept, or came late.
abbrev pub HasNoted : InnerValue → RecorderValue → RecorderValue → On → CommandOf ℕ → Noted → Type 0
HasNoted device old new on command answer = (answer ≡ noted (is_late old on)) × (new ≡ recorded old on (map_command (found_at device.desk.seats) command))

-- That a command came late was told the device, of the encoder of its recorder, and changed no seat.
pub record HasComeLate (old new : InnerValue) (encoder : ObjRef) (out : ToldReply) : Type 0 where
  pub done : HasDone old new (Late encoder)
  pub seats : new.desk.seats ≡ old.desk.seats
  pub out_is : out ≡ reply_told (answer_to old (Late encoder)) (length old.desk.history)

-- An encoder was ended with what its recorder had kept, and this is what was told of it.
pub record HasFinished (old new : InnerValue) (recorder : RecorderValue) (encoder : ObjRef) (out : ToldReply) : Type 0 where
  pub done : HasDone old new (finish_of encoder recorder)
  pub seats : new.desk.seats ≡ old.desk.seats ++ option_to_list (seat_made old.desk.setup (Some (known_of_finish recorder)) (answer_to old (finish_of encoder recorder)).answer)
  pub number : IsNumber (answer_to old (finish_of encoder recorder)).answer (length old.desk.seats)
  pub out_is : out ≡ reply_told (answer_to old (finish_of encoder recorder)) (length old.desk.history)

-- A recorder is as it was: it has the same commands and has ended exactly where it had, and is equal to what it was but for how often it
-- was taken from, where that is at the end of its count.
pub record IsHeld (old new : RecorderValue) : Type 0 where
  pub as_before : record new { takes = old.takes } ≡ old
  pub ended : has_taken new ≡ has_taken old
  pub same : old.takes < most_takes → new ≡ old

-- why a call was not made; want of memory is the one free reason
abbrev pub IsCause : DeskError → Bool → Bool → Type 0
IsCause NoMemory missing unbegun = Unit {0}
IsCause NoObject missing unbegun = missing ≡ true
IsCause NoPass missing unbegun = unbegun ≡ true

-- the item that was told last
abbrev pub last_of : List Item → ℕ → Option Item
last_of items zero = None
last_of items (suc n) = slice_get items n

-- the lists of a caller for items, for their uses and for their accesses
pub record Sheets : Type 0 where
  pub items : List ToldItem
  pub uses : List ToldUse
  pub accesses : List ToldAccess

-- the items that wait to be told for which there is room, from the next one on, up to one for which there is none
abbrev pub fitting_in : Sheets → InnerValue → List Item
fitting_in sheets a = fitting (room_in sheets.items sheets.uses sheets.accesses) (drop a.told a.items)

-- the lists of a caller with items over their beginnings, as each is told by itself
abbrev pub told_over : List Item → Sheets → Sheets
told_over told sheets = record {
  items = over (items_told told) sheets.items;
  uses = over (uses_told told) sheets.uses;
  accesses = over (accesses_told told) sheets.accesses;
}

-- What a drain of many items has done: as many were told as there was room for, and at least one; or there was no room for the next, and
-- it is told how much it takes; or all were told before, and the list is emptied.
abbrev pub HasDrained : InnerValue → InnerValue → Sheets → Sheets → Drained → Type 0
HasDrained old new before after (Told counts) =
    (0 < length (fitting_in before old)) × (counts ≡ counts_told (fitting_in before old)) × (after ≡ told_over (fitting_in before old) before)
    × (new ≡ record old { told = old.told + length (fitting_in before old) })
HasDrained old new before after (Wants counts) =
    (fitting_in before old ≡ []) × IsSomeAnd (slice_get old.items old.told) (λ item. counts ≡ counts_told (item ∷ [])) × (after ≡ before) × (new ≡ old)
HasDrained old new before after Ended = (old.told ≡ length old.items) × (after ≡ before) × (new ≡ record old { items = []; told = 0 })

-- how many items and settlements are left to be told, of these at most the greatest number of 64 bits
abbrev pub left_in : InnerValue → ToldLeft
left_in a = record { items = length a.items - a.told; settlements = min (length a.settled) (2 ^ 64 - 1) }

-- The next settlement was told, and nothing else changed.
pub record HasToldNext (old new : InnerValue) (out : ToldSettlement) : Type 0 where
  pub desk : new.desk ≡ old.desk
  pub items : new.items ≡ old.items
  pub still : new.told ≡ old.told
  pub next : IfSome (slice_get old.settled 0) (λ settlement. (old.settled ≡ settlement ∷ new.settled) × (out ≡ settlement_told settlement))
  pub some : is_none (slice_get old.settled 0) ≡ false
