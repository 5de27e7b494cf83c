-- A source and a sink in memory, whose faults are listed.
use Rattle.std.specs.Prelude.{ℕ, ◌-◌, ◌||◌, ◌&&◌, ◌==◌, min, List, length, drop, ◌++◌, Bool, nat_lt, nat_le}
use Rattle.std.specs.List.{list_any}
use Rattle.wg_io.specs.Causes.{next_count}

-- the number is one of the list
abbrev pub is_listed : ℕ → List ℕ → Bool
is_listed n xs = list_any (λ x. x == n) xs

-- a source: the bytes left, how many a call gives at most, the calls that fail, and how many calls and faults there were
pub record Pending : Type 0 where
  pub left : List ℕ
  pub most : ℕ
  pub fails : List ℕ
  pub calls : ℕ
  pub faults : ℕ

-- the source after a call that failed
abbrev pub failed_source : Pending → Pending
failed_source s = record s { calls = next_count s.calls; faults = next_count s.faults }

-- the source after a call that gave its next n bytes
abbrev pub read_source : ℕ → Pending → Pending
read_source n s = record s { left = drop n s.left; calls = next_count s.calls }

-- how many bytes a read into so much room gives where it does not fail
abbrev pub read_len : Pending → ℕ → ℕ
read_len s room = min room (min s.most (length s.left))

-- a sink: the bytes taken, its room, how many a call takes at most, the calls that fail, and how many calls and faults there were
pub record Held : Type 0 where
  pub taken : List ℕ
  pub room : ℕ
  pub most : ℕ
  pub fails : List ℕ
  pub calls : ℕ
  pub faults : ℕ

-- the sink after a call that failed
abbrev pub failed_sink : Held → Held
failed_sink s = record s { calls = next_count s.calls; faults = next_count s.faults }

-- the sink after a call that took these bytes
abbrev pub write_sink : List ℕ → Held → Held
write_sink bytes s = record s { taken = s.taken ++ bytes; calls = next_count s.calls }

-- how many bytes a write of so many takes where it does not fail
abbrev pub write_len : Held → ℕ → ℕ
write_len s len = min len (min s.most (s.room - length s.taken))

-- the call is listed, or it has bytes to take and the room is full
abbrev pub refuses : Held → ℕ → Bool
refuses s len = is_listed (next_count s.calls) s.fails || (nat_lt 0 len && nat_le s.room (length s.taken))
