-- What a lane of a script sees of the objects, by their slots.
use Rattle.std.specs.Prelude.{◌≡◌, ℕ, ◌-◌, nat_lt, List, ◌++◌, if◌then◌else◌}
use Rattle.wg_types.specs.Handles.{HandleValue}
use Rattle.wg_play.specs.declared.objects.Object.{Object}
use Rattle.wg_play.specs.declared.seen.LaneSight.{LaneSight}
use Rattle.wg_play.specs.Objects.{handle_at}

-- The calls that make something are numbered from 0 in reading order, and that number is the slot of what they make. A lane
-- sees what earlier phases made, each at the place of its slot; and what it has made itself, whose slots are those from `first`
-- on. What other lanes of its phase make is not seen.
pub record Sight : Type 0 where
  pub others : List Object
  pub first : ℕ
  pub own : List Object

-- what a lane sees, as definitions have it
abbrev pub sight_of : LaneSight → Sight
sight_of seen = record { others = seen.others.now; first = seen.first; own = seen.own.items }

-- what others have made, and where the lane's own slots begin, stay
abbrev pub SeesSame : LaneSight → LaneSight → Type 0
SeesSame old new = (new.others ≡ old.others) × (new.first ≡ old.first)

-- The place of a slot among what the lane has made. A recording call, and what ends an encoder, name what the lane itself has
-- made.
abbrev pub place_in : Sight → ℕ → ℕ
place_in sight slot = slot - sight.first

-- what a slot stands for
abbrev pub handle_in_sight : Sight → ℕ → HandleValue
handle_in_sight sight slot = if nat_lt slot sight.first then handle_at sight.others slot else handle_at sight.own (place_in sight slot)

-- what is seen once the lane has made more
abbrev pub with_more : Sight → List Object → Sight
with_more sight objects = record sight { own = sight.own ++ objects }
