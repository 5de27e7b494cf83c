-- Segments: cells between two neighbouring ends of runs, which have one story. They have numbers in printed order.
use Rattle.std.specs.Prelude.{ℕ, zero, suc, Bool, true, false, not, ◌≡◌, ◌≤◌, ◌⊎◌, ◌&&◌, nat_lt, List, [], ◌∷◌, Option, Some, None, if◌then◌else◌}
use Rattle.wg_rows.specs.Rows.{in_range, list_before}
use Rattle.wg_check.specs.Stories.{Meeting, clash_from}
use Rattle.wg_check.specs.declared.stories.Access.{Access}
use Rattle.wg_check.specs.declared.events.CellDeed.{CellDeed}
use Rattle.wg_check.specs.declared.events.CellDeed.TheVariants.{Fence, Act}
pub use Rattle.wg_check.specs.declared.keys.Key.{Key}
pub use Rattle.wg_check.specs.declared.events.KeyEvent.{KeyEvent}
use Rattle.wg_check.specs.declared.ends.SegmentEvent.{SegmentEvent}
use Rattle.wg_check.specs.declared.segments.Spotted.{Spotted}

-- what a deed adds to the story behind it
abbrev pub then_on : CellDeed → ℕ → List Access → List Access → List Access
then_on Fence e fenced same = fenced
then_on (Act place reads writes) e fenced same = (record { place = place; reads = reads; writes = writes; epoch = e }) ∷ same

-- the story of a segment, behind e barriers
abbrev pub story_at : ℕ → ℕ → List SegmentEvent → List Access
story_at n e [] = []
story_at n e (v ∷ events) = if in_range v.lo v.hi n then then_on v.deed e (story_at n (suc e) events) (story_at n e events) else story_at n e events

-- The accesses are by steps from n on, each behind the one before.
abbrev pub Rises : ℕ → List Access → Type 0
Rises n [] = Unit {0}
Rises n (a ∷ story) = (n ≤ a.place) × Rises (suc a.place) story

-- whether an event is on some of the segments from lo up to but not including hi
abbrev pub touches : ℕ → ℕ → SegmentEvent → Bool
touches lo hi v = nat_lt v.lo hi && nat_lt lo v.hi

-- whether a reader comes before another, the end last
abbrev pub earlier : Option ℕ → Option ℕ → Bool
earlier None reader = false
earlier (Some k) None = true
earlier (Some k) (Some k2) = nat_lt k k2

-- a meeting, with its segment
abbrev pub at_segment : ℕ → Option Meeting → Option Spotted
at_segment n None = None
at_segment n (Some m) = Some (record { reader = m.reader; segment = n; writer = m.writer })

-- the first, unless the second has an earlier reader
abbrev pub better : Option Spotted → Option Spotted → Option Spotted
better None b = b
better (Some a) None = Some a
better (Some a) (Some b) = if earlier b.reader a.reader then Some b else Some a

-- the least clash of a segment, if it has one
abbrev pub clash_at : List SegmentEvent → ℕ → Option Spotted
clash_at events n = at_segment n (clash_from None (story_at n 0 events))

-- the least clash of so many segments from lo on
abbrev pub clash_among : List SegmentEvent → ℕ → ℕ → Option Spotted
clash_among events lo zero = None
clash_among events lo (suc n) = better (clash_at events lo) (clash_among events (suc lo) n)

-- The numbers of a key. Keys stand in the order of their numbers, which is printed order of the cells that stand there.
abbrev pub numbers : Key → List ℕ
numbers k = k.object ∷ (k.sort ∷ (k.aspect ∷ (k.mip ∷ (k.at ∷ []))))

-- whether a key stands before another
abbrev pub before : Key → Key → Bool
before a b = list_before (numbers a) (numbers b)

-- how many of these ends stand at a key or before it: the number of its segment
abbrev pub rank : List Key → Key → ℕ
rank [] k = 0
rank (e ∷ ends) k = if before k e then rank ends k else suc (rank ends k)

-- whether an event, a deed on the cells from lo up to but not including hi, is on a key
abbrev pub lies_in : Key → KeyEvent → Bool
lies_in k v = not (before k v.lo) && before k v.hi

-- the accesses to a key, behind e barriers
abbrev pub key_story : Key → ℕ → List KeyEvent → List Access
key_story k e [] = []
key_story k e (v ∷ events) = if lies_in k v then then_on v.deed e (key_story k (suc e) events) (key_story k e events) else key_story k e events

-- an event on segments in place of keys
abbrev pub ranked : List Key → KeyEvent → SegmentEvent
ranked ends v = record { lo = rank ends v.lo; hi = rank ends v.hi; deed = v.deed }

-- One of some keys is this.
abbrev pub Among : Key → List Key → Type 0
Among k [] = ⊥
Among k (e ∷ ends) = (k ≡ e) ⊎ Among k ends

-- The ends of all runs are among these.
abbrev pub EndsIn : List Key → List KeyEvent → Type 0
EndsIn ends [] = Unit {0}
EndsIn ends (v ∷ events) = Among v.lo ends × Among v.hi ends × EndsIn ends events
