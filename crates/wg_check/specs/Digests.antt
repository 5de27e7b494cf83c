-- What a list of deeds on a cell tells of its least reader that clashes, so that lists of deeds can be told together.
use Rattle.std.specs.Prelude.{ℕ, zero, suc, Bool, true, false, ◌||◌, ◌&&◌, nat_le, List, [], ◌∷◌, Option, Some, None, if◌then◌else◌}
use Rattle.std.specs.Option.{option_or}
use Rattle.wg_rows.specs.Rows.{in_range}
use Rattle.wg_check.specs.declared.events.CellDeed.{CellDeed}
use Rattle.wg_check.specs.declared.events.CellDeed.TheVariants.{Fence, Act}
use Rattle.wg_check.specs.declared.ends.SegmentEvent.{SegmentEvent}
pub use Rattle.wg_check.specs.declared.digests.Stretch.{Stretch}
pub use Rattle.wg_check.specs.declared.digests.Course.{Course}
pub use Rattle.wg_check.specs.declared.digests.Digest.{Digest}
pub use Rattle.wg_check.specs.declared.digests.Digest.TheVariants.{Open, Parted}
pub use Rattle.wg_check.specs.declared.segments.SegmentEntry.{SegmentEntry}
pub use Rattle.wg_check.specs.declared.segments.SegmentEntry.TheVariants.{Run, Known}
pub use Rattle.wg_check.specs.declared.segments.FoundClash.{FoundClash}
use Rattle.wg_check.specs.declared.segments.Spotted.{Spotted}
use Rattle.wg_check.specs.Stories.{writer_met}
use Rattle.wg_check.specs.Segments.{story_at, touches, earlier}

-- The stretch of no access; a stretch of accesses with no barrier between them has whether a step writes, whether two do, the
-- first reader, and the first reader beside which another step of the stretch writes.
abbrev pub no_access : Stretch
no_access = record { writes = false; many = false; first = None; met = None }

-- the stretch of one access
abbrev pub one_access : ℕ → Bool → Bool → Stretch
one_access place reads writes = record { writes = writes; many = false; first = if reads then Some place else None; met = None }

-- two stretches with no barrier between them, as one
abbrev pub stretched : Stretch → Stretch → Stretch
stretched x y =
    record {
      writes = x.writes || y.writes;
      many = x.many || (y.many || (x.writes && y.writes));
      first = option_or x.first y.first;
      met = option_or (if y.writes then x.first else x.met) (if x.writes then y.first else y.met);
    }

-- The course of no stretch; a course of whole stretches has its least reader that clashes where the last stretch before it
-- that writes does so once, or never; the same where it does so by two steps; and whether its own last stretch that writes
-- does so by two.
abbrev pub no_stretch : Course
no_stretch = record { calm = None; alarmed = None; leaves = None }

-- the course of one stretch
abbrev pub one_stretch : Stretch → Course
one_stretch s = record { calm = s.met; alarmed = s.first; leaves = if s.writes then Some s.many else None }

-- the least reader of a course that clashes, by whether the last stretch before it that writes does so by two steps
abbrev pub met_in : Course → Bool → Option ℕ
met_in course alarm = if alarm then course.alarmed else course.calm

-- whether the last stretch that writes does so by two steps, behind a course that leaves that open or says it
abbrev pub left_after : Option Bool → Bool → Bool
left_after None alarm = alarm
left_after (Some many) alarm = many

-- whether the last stretch that writes does so by two steps, behind a course
abbrev pub left_by : Course → Bool → Bool
left_by course alarm = left_after course.leaves alarm

-- two courses one after another, as one
abbrev pub followed : Course → Course → Course
followed x y =
    record {
      calm = option_or x.calm (met_in y (left_by x false));
      alarmed = option_or x.alarmed (met_in y (left_by x true));
      leaves = option_or y.leaves x.leaves;
    }

-- What no deed tells; what deeds tell is one stretch, or with a barrier among them the first, those between, and the last.
abbrev pub nothing : Digest
nothing = Open no_access

-- what one deed tells
abbrev pub deed_digest : CellDeed → Digest
deed_digest Fence = Parted no_access no_stretch no_access
deed_digest (Act place reads writes) = Open (one_access place reads writes)

-- what two lists of deeds tell one after another
abbrev pub joined : Digest → Digest → Digest
joined (Open x) (Open y) = Open (stretched x y)
joined (Open x) (Parted head course tail) = Parted (stretched x head) course tail
joined (Parted head course tail) (Open y) = Parted head course (stretched tail y)
joined (Parted head course tail) (Parted head2 course2 tail2) = Parted head (followed (followed course (one_stretch (stretched tail head2))) course2) tail2

-- the end as a reader, where the last stretch that writes does so by two steps
abbrev pub end_met : Bool → Option (Option ℕ)
end_met true = Some None
end_met false = None

-- a reader, or else what is given
abbrev pub or_else : Option ℕ → Option (Option ℕ) → Option (Option ℕ)
or_else None rest = rest
or_else (Some k) rest = Some (Some k)

-- the least reader of a course from the beginning, the end last
abbrev pub reader_of : Course → Option (Option ℕ)
reader_of course = or_else course.calm (end_met (left_by course false))

-- the least reader of what is told from the beginning, the end last
abbrev pub least_reader : Digest → Option (Option ℕ)
least_reader (Open s) = reader_of (one_stretch s)
least_reader (Parted head course tail) = reader_of (followed (followed (one_stretch head) course) (one_stretch tail))

-- what entries tell of a segment
abbrev pub digest_at : ℕ → List SegmentEntry → Digest
digest_at n [] = nothing
digest_at n (Known digest ∷ entries) = joined digest (digest_at n entries)
digest_at n (Run v ∷ entries) = if in_range v.lo v.hi n then joined (deed_digest v.deed) (digest_at n entries) else digest_at n entries

-- what entries tell of a segment behind what was told before
abbrev pub digest_onto : ℕ → Digest → List SegmentEntry → Digest
digest_onto n digest [] = digest
digest_onto n digest (Known other ∷ entries) = digest_onto n (joined digest other) entries
digest_onto n digest (Run v ∷ entries) = if in_range v.lo v.hi n then digest_onto n (joined digest (deed_digest v.deed)) entries else digest_onto n digest entries

-- whether an event is on all segments from lo up to but not including hi
abbrev pub spans : ℕ → ℕ → SegmentEvent → Bool
spans lo hi v = nat_le v.lo lo && nat_le hi v.hi

-- The entries for the segments from lo up to but not including hi: what is on all of them is told together.
abbrev pub narrowed : ℕ → ℕ → Digest → List SegmentEntry → List SegmentEntry
narrowed lo hi digest [] = Known digest ∷ []
narrowed lo hi digest (Known other ∷ entries) = narrowed lo hi (joined digest other) entries
narrowed lo hi digest (Run v ∷ entries) =
    if touches lo hi v
    then (if spans lo hi v then narrowed lo hi (joined digest (deed_digest v.deed)) entries else Known digest ∷ (Run v ∷ narrowed lo hi nothing entries))
    else narrowed lo hi digest entries

-- what is found in a segment, if a reader is
abbrev pub found_here : ℕ → Option (Option ℕ) → Option FoundClash
found_here n None = None
found_here n (Some reader) = Some (record { reader = reader; segment = n })

-- what entries find in a segment
abbrev pub found_at : List SegmentEntry → ℕ → Option FoundClash
found_at entries n = found_here n (least_reader (digest_onto n nothing entries))

-- the first, unless the second has an earlier reader
abbrev pub first_found : Option FoundClash → Option FoundClash → Option FoundClash
first_found None b = b
first_found (Some a) None = Some a
first_found (Some a) (Some b) = if earlier b.reader a.reader then Some b else Some a

-- the least reader of so many segments from lo on, with its first segment
abbrev pub found_among : List SegmentEntry → ℕ → ℕ → Option FoundClash
found_among entries lo zero = None
found_among entries lo (suc n) = first_found (found_at entries lo) (found_among entries (suc lo) n)

-- a reader with the writer that it meets
abbrev pub with_writer : FoundClash → Option ℕ → Option Spotted
with_writer found None = None
with_writer found (Some writer) = Some (record { reader = found.reader; segment = found.segment; writer = writer })

-- what is found in the segments, with the writer that it meets there
abbrev pub told : List SegmentEvent → Option FoundClash → Option Spotted
told events None = None
told events (Some f) = with_writer f (writer_met None f.reader (story_at f.segment 0 events))
