-- How many bytes of the budget are taken.
use Rattle.std.specs.Prelude.{ℕ, zero, suc, ◌+◌, Bool, not, ◌&&◌, is_some, if◌then◌else◌}
use Rattle.std.specs.Option.{option_map_or}
use Rattle.wg_model.specs.Memory.{bytes_of}
use Rattle.wg_history.specs.Entries.{Setup, Event, Past}
use Rattle.wg_history.specs.Objects.{count, maker, info_made, unknown, resource_at}
use Rattle.wg_history.specs.Releases.{is_released}

-- the bytes of the object that an event makes
abbrev pub bytes_made : Event → ℕ
bytes_made event = option_map_or bytes_of (info_made unknown event) 0

-- the bytes of object n, valid or not, or 0
abbrev pub bytes_at : Past → ℕ → ℕ
bytes_at past n = option_map_or (λ entry. bytes_made entry.event) (maker past n) 0

-- whether a resource is live: it is valid and not released; destroyed or dropped it still takes its bytes until then
abbrev pub is_live : Setup → Past → ℕ → Bool
is_live setup past n = is_some (resource_at past n) && not (is_released setup past n)

-- the bytes of those of the first n objects that are live
abbrev pub live_below : Setup → Past → ℕ → ℕ
live_below setup past zero = 0
live_below setup past (suc n) = live_below setup past n + (if is_live setup past n then bytes_at past n else 0)

-- the bytes of all live resources
abbrev pub live_bytes : Setup → Past → ℕ
live_bytes setup past = live_below setup past (count past)
