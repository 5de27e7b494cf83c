-- What is kept of objects, by their numbers.
use Rattle.std.specs.Prelude.{◌≡◌, ℕ, Bool, true, false, List, length, reverse, slice_get, slice_set, Option, Some, None, IfSome, is_none, unwrap_or, option_map, option_and_then}
use Rattle.std.specs.List.{list_any}
use Rattle.std.specs.Option.{option_map_or}
use Rattle.wg_fading.specs.Fading.{was_let_go}
use Rattle.wg_types.specs.Handles.{HandleValue}
use Rattle.wg_types.specs.declared.handles.Info.{Info}
use Rattle.wg_types.specs.declared.handles.Info.TheVariants as info
use Rattle.wg_trace.specs.declared.replies.Answer.{Answer}
use Rattle.wg_types.specs.declared.wanted.Wanted.{Wanted}
use Rattle.wg_history.specs.declared.events.Setup.{Setup}
use Rattle.wg_history.specs.Entries.{Entry}
use Rattle.wg_history.specs.Objects.{count}
use Rattle.wg_history.specs.Rules.{is_dropped, is_genuine}
use Rattle.wg_calls.specs.Calls.{handle_of}
use Rattle.wg_desk.specs.declared.seats.Seat.{Seat}

-- what contracts see of all seats: each by its number, and for how many more there is room
pub record SeatsValue : Type 0 where
  pub items : List Seat
  pub spare : ℕ

-- a seat in which nothing is kept
abbrev pub vacant : Seat
vacant = record { handle = None }

-- Nothing was kept in the seats that were let go.
abbrev pub AreVacant : List ℕ → List Seat → Type 0
AreVacant gone seats = (n : ℕ) → was_let_go gone n ≡ true → slice_get seats n ≡ Some vacant

-- the handle at a number, until its object is dropped
abbrev pub handle_at : List Seat → ℕ → Option HandleValue
handle_at seats n = option_and_then (λ seat. seat.handle) (slice_get seats n)

-- Stands for no object. A call that names a number without a handle is not made, so that it is not met.
abbrev pub no_object : HandleValue
no_object = record { reference = record { device = 0; number = 0 }; valid = false; info = info.CommandBuffer }

-- the handle that a number stands for
abbrev pub found_at : List Seat → ℕ → HandleValue
found_at seats n = unwrap_or (handle_at seats n) no_object

-- whether a number that a call names has no handle
abbrev pub is_missing : List Seat → ℕ × Wanted → Bool
is_missing seats used = is_none (handle_at seats used.0)

-- whether some number that a call names has no handle
abbrev pub any_missing : List Seat → List (ℕ × Wanted) → Bool
any_missing seats useds = list_any (is_missing seats) useds

-- the seats with a change of the one of a number
abbrev pub changed_at : List Seat → ℕ → (Seat → Seat) → List Seat
changed_at seats n change = option_map_or (λ seat. slice_set seats n (change seat)) (slice_get seats n) seats

-- a seat with nothing kept there
abbrev pub emptied : Seat → Seat
emptied seat = vacant

-- the seats without the object of a number
abbrev pub emptied_at : List Seat → ℕ → List Seat
emptied_at seats n = changed_at seats n emptied

-- what is kept of an object that was made
abbrev pub seat_of : HandleValue → Seat
seat_of handle = record { handle = Some handle }

-- what is kept of what an answer of a device made, of which so much is known
abbrev pub seat_made : Setup → Option Info → Answer → Option Seat
seat_made setup known answer = option_map seat_of (option_and_then (λ known. handle_of setup.serial known answer) known)

-- What is kept at number n after a history: a handle that is genuine and of object n, which was not dropped, if one.
pub record IsSeated (setup : Setup) (history : List Entry) (n : ℕ) (seat : Seat) : Type 0 where
  pub genuine : IfSome seat.handle (λ handle. is_genuine setup (reverse history) handle ≡ true)
  pub number : IfSome seat.handle (λ handle. handle.reference.number ≡ n)
  pub undropped : IfSome seat.handle (λ _. is_dropped setup (reverse history) n ≡ false)

-- There is a seat for each object that was made, and each handle is genuine and of the object of its number, which was not dropped.
pub record AreSeated (setup : Setup) (history : List Entry) (seats : List Seat) : Type 0 where
  pub count_is : length seats ≡ count (reverse history)
  pub each : (n : ℕ) (seat : Seat) → slice_get seats n ≡ Some seat → IsSeated setup history n seat
