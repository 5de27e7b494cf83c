-- The lines of a trace.
use Rattle.std.specs.Prelude.{ℕ, ◌≤◌, Bool, true, false, ◌==◌, nat_lt, List, length, take, drop, codes, bytes_eq, Option, Some, None, if◌then◌else◌, ◌≡◌}
use Rattle.wg_trace.specs.declared.parts.Aspect.{Aspect}
use Rattle.wg_trace.specs.declared.parts.Aspect.TheVariants.{Color}
use Rattle.wg_trace.specs.declared.parts.PartRun.{PartRun}
use Rattle.wg_trace.specs.declared.parts.PartRun.TheVariants as part
use Rattle.wg_trace.specs.declared.parts.Cells.{Cells}
use Rattle.wg_trace.specs.declared.parts.Cells.TheVariants as cells
use Rattle.wg_trace.specs.declared.steps.StepPlace.{StepPlace}
use Rattle.wg_trace.specs.declared.steps.StepPlace.TheVariants.{Op, Host}
use Rattle.wg_trace.specs.declared.usages.Usages.{Usages}
use Rattle.wg_readtrace.specs.Words.{gap_len, field, number_word, aspect_word, kind_word, name_word, sort_word, set_word}
use Rattle.wg_readtrace.specs.declared.line.Line.{Line}
use Rattle.wg_readtrace.specs.declared.line.Line.TheVariants.{Bar, Step, Use, Acc, Free, End}

-- what was read, followed by more, or nothing
infixl 10 ◌>>=◌
abbrev pub ◌>>=◌ : {A B : Type 0} → Option A → (A → Option B) → Option B
None >>= f = None
(Some x) >>= f = f x

-- What is read, and what stands behind it in the line.
abbrev pub Read : Type 0 → Type 0
Read A = Option (A × List ℕ)

-- What was read from a line, with the place behind it, is what ought to be.
abbrev pub Reads : {A : Type 0} → List ℕ → Option (A × ℕ) → Read A → Type 0
Reads text None read = read ≡ None
Reads text (Some r) read = (read ≡ Some (r.0, drop r.1 text)) × (r.1 ≤ length text)

-- a word that f tells
abbrev pub word_as : {A : Type 0} → (List ℕ → Option A) → List ℕ → Read A
word_as f bs = field bs >>= λ w. f w.0 >>= λ x. Some (x, w.1)

-- the greatest number of an object, an operation, an entry, a step or a byte
abbrev pub most_53 : ℕ
most_53 = 9007199254740991

-- the greatest number of a mip level, a layer, a slice or a query
abbrev pub most_32 : ℕ
most_32 = 4294967295

-- a number of at most this, as the next word
abbrev pub number : ℕ → List ℕ → Read ℕ
number most bs = word_as (number_word most) bs

-- two numbers, the first below the second
abbrev pub range : ℕ → List ℕ → Read (ℕ × ℕ)
range most bs = do
  lo ← number most bs
  hi ← number most lo.1
  if nat_lt lo.0 hi.0 then Some ((lo.0, hi.0), hi.1) else None

-- a line behind which nothing stands
abbrev pub whole : List ℕ → Line → Option Line
whole bs line = if length bs == 0 then Some line else None

-- a buffer as a part, by its number
unfoldable pub buffer_part : List ℕ → Read PartRun
buffer_part bs = do
  object ← number most_53 bs
  Some (part.Buffer object.0, object.1)

-- a query set as a part, by its number
unfoldable pub query_part : List ℕ → Read PartRun
query_part bs = do
  object ← number most_53 bs
  Some (part.Queries object.0, object.1)

-- the layers of a texture as parts
unfoldable pub texture_part : List ℕ → Read PartRun
texture_part bs = do
  object ← number most_53 bs
  aspect ← word_as aspect_word object.1
  mip ← number most_32 aspect.1
  layers ← range most_32 mip.1
  Some (part.Texture object.0 aspect.0 mip.0 layers.0.0 layers.0.1, layers.1)

-- parts, by the letter of their sort
abbrev pub part_as : List ℕ → List ℕ → Read PartRun
part_as w bs = if bytes_eq w (codes "b") then buffer_part bs else (if bytes_eq w (codes "q") then query_part bs else (if bytes_eq w (codes "t") then texture_part bs else None))

-- parts, with the letter of their sort
unfoldable pub part_of : List ℕ → Read PartRun
part_of bs = do
  sort ← field bs
  part_as sort.0 sort.1

-- the bytes of a buffer
unfoldable pub bytes_of : List ℕ → Read Cells
bytes_of bs = do
  object ← number most_53 bs
  at ← range most_53 object.1
  Some (cells.Bytes object.0 at.0.0 at.0.1, at.1)

-- the queries of a query set
unfoldable pub queries_of : List ℕ → Read Cells
queries_of bs = do
  object ← number most_53 bs
  at ← range most_32 object.1
  Some (cells.Queries object.0 at.0.0 at.0.1, at.1)

-- the layers of a mip level of a texture as cells
unfoldable pub layers_of : List ℕ → Read Cells
layers_of bs = do
  object ← number most_53 bs
  aspect ← word_as aspect_word object.1
  mip ← number most_32 aspect.1
  layers ← range most_32 mip.1
  Some (cells.Layers object.0 aspect.0 mip.0 layers.0.0 layers.0.1, layers.1)

-- whether an aspect is color
abbrev pub is_color : Aspect → Bool
is_color Color = true
is_color _ = false

-- the slices of a mip level of a 3D texture, which has the aspect color
unfoldable pub slices_of : List ℕ → Read Cells
slices_of bs = do
  object ← number most_53 bs
  aspect ← word_as aspect_word object.1
  mip ← number most_32 aspect.1
  slices ← range most_32 mip.1
  if is_color aspect.0 then Some (cells.Slices object.0 mip.0 slices.0.0 slices.0.1, slices.1) else None

-- cells, by the letter of their sort
abbrev pub cells_as : List ℕ → List ℕ → Read Cells
cells_as w bs = if bytes_eq w (codes "b") then bytes_of bs else (if bytes_eq w (codes "q") then queries_of bs else (if bytes_eq w (codes "t") then layers_of bs else (if bytes_eq w (codes "s") then slices_of bs else None)))

-- cells, with the letter of their sort
unfoldable pub cells_of : List ℕ → Read Cells
cells_of bs = do
  sort ← field bs
  cells_as sort.0 sort.1

-- the set from which a part goes, or none where the word says so
abbrev pub from_word : List ℕ → Option (Option Usages)
from_word w = if bytes_eq w (codes "none") then Some None else (set_word w >>= λ set. Some (Some set))

-- the place of a step, by its word
abbrev pub place_as : List ℕ → List ℕ → Read StepPlace
place_as w bs = if bytes_eq w (codes "op") then (number most_53 bs >>= λ n. Some (Op n.0, n.1)) else (if bytes_eq w (codes "host") then (number most_53 bs >>= λ n. Some (Host n.0, n.1)) else None)

-- the place of a step: an operation, or an entry of the host
unfoldable pub place_of : List ℕ → Read StepPlace
place_of bs = do
  w ← field bs
  place_as w.0 w.1

-- the line of a barrier
unfoldable pub bar_of : List ℕ → Option Line
bar_of bs = do
  part ← part_of bs
  from ← word_as from_word part.1
  to ← word_as set_word from.1
  whole to.1 (Bar part.0 from.0 to.0)

-- the line of a step
unfoldable pub step_of : List ℕ → Option Line
step_of bs = do
  n ← number most_53 bs
  place ← place_of n.1
  name ← word_as name_word place.1
  whole name.1 (Step n.0 place.0 name.0)

-- the line of a use
unfoldable pub use_of : List ℕ → Option Line
use_of bs = do
  part ← part_of bs
  set ← word_as set_word part.1
  whole set.1 (Use part.0 set.0)

-- the line of an access
unfoldable pub acc_of : List ℕ → Option Line
acc_of bs = do
  kind ← word_as kind_word bs
  run ← cells_of kind.1
  whole run.1 (Acc kind.0 run.0)

-- the line of a release
unfoldable pub free_of : List ℕ → Option Line
free_of bs = do
  sort ← word_as sort_word bs
  object ← number most_53 sort.1
  whole object.1 (Free object.0 sort.0)

-- a line of a trace, by its first word
abbrev pub line_as : List ℕ → List ℕ → Option Line
line_as w bs =
    if bytes_eq w (codes "bar") then bar_of bs else (if bytes_eq w (codes "step") then step_of bs else (if bytes_eq w (codes "use") then use_of bs else (if bytes_eq w (codes "acc") then acc_of bs else (if bytes_eq w (codes "free") then free_of bs else (if bytes_eq w (codes "end") then whole bs End else None)))))

-- the line that a text is, without its end, by the first word, which has no space before it, and the forms behind it
unfoldable pub line_of : List ℕ → Option Line
line_of bs = line_as (take (gap_len bs) bs) (drop (gap_len bs) bs)
