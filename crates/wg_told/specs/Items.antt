-- What is told of the items of a trace. The numbers are those of the header.
use Rattle.std.specs.Prelude.{ℕ, List, [], Option, Some, None, length}
use Rattle.wg_trace.specs.declared.parts.Aspect.{Aspect}
use Rattle.wg_trace.specs.declared.parts.Aspect.TheVariants.{Color, Depth, Stencil}
use Rattle.wg_trace.specs.declared.parts.PartRun.{PartRun}
use Rattle.wg_trace.specs.declared.parts.PartRun.TheVariants as part
use Rattle.wg_trace.specs.declared.parts.Cells.{Cells}
use Rattle.wg_trace.specs.declared.parts.Cells.TheVariants as cells
use Rattle.wg_trace.specs.declared.parts.AccessKind.{AccessKind}
use Rattle.wg_trace.specs.declared.parts.AccessKind.TheVariants as kind
use Rattle.wg_trace.specs.declared.usages.Usages.{Usages}
use Rattle.wg_trace.specs.declared.steps.StepPlace.{StepPlace}
use Rattle.wg_trace.specs.declared.steps.StepPlace.TheVariants.{Op, Host}
use Rattle.wg_trace.specs.declared.steps.StepName.{StepName}
use Rattle.wg_trace.specs.declared.steps.StepName.TheVariants as name
use Rattle.wg_trace.specs.declared.steps.Step.{Step}
use Rattle.wg_trace.specs.declared.steps.Sort.{Sort}
use Rattle.wg_trace.specs.declared.steps.Sort.TheVariants as sort
use Rattle.wg_trace.specs.declared.steps.Item.{Item}
use Rattle.wg_trace.specs.declared.steps.Item.TheVariants.{Bar, Step as StepItem, Free}
use Rattle.wg_told.specs.declared.items.ToldRange.{ToldRange}
use Rattle.wg_told.specs.declared.items.ToldItem.{ToldItem}
use Rattle.wg_told.specs.declared.items.ToldUse.{ToldUse}
use Rattle.wg_told.specs.declared.items.ToldAccess.{ToldAccess}

-- the number of an aspect, from 1 on
abbrev pub aspect_number : Aspect → ℕ
aspect_number Color = 1
aspect_number Depth = 2
aspect_number Stencil = 3

-- a whole buffer or query set, or layers of an aspect and mip level of a texture
abbrev pub part_told : PartRun → ToldRange
part_told (part.Buffer object) = record { object = object; lo = 0; hi = 0; sort = 1; aspect = 0; mip = 0 }
part_told (part.Queries object) = record { object = object; lo = 0; hi = 0; sort = 2; aspect = 0; mip = 0 }
part_told (part.Texture object aspect mip lo hi) = record { object = object; lo = lo; hi = hi; sort = 3; aspect = aspect_number aspect; mip = mip }

-- a run of cells, as it is told: bytes of a buffer, queries, layers of a texture, or slices of a 3D texture, whose aspect is
-- color
abbrev pub cells_told : Cells → ToldRange
cells_told (cells.Bytes object lo hi) = record { object = object; lo = lo; hi = hi; sort = 1; aspect = 0; mip = 0 }
cells_told (cells.Queries object lo hi) = record { object = object; lo = lo; hi = hi; sort = 2; aspect = 0; mip = 0 }
cells_told (cells.Layers object aspect mip lo hi) = record { object = object; lo = lo; hi = hi; sort = 3; aspect = aspect_number aspect; mip = mip }
cells_told (cells.Slices object mip lo hi) = record { object = object; lo = lo; hi = hi; sort = 4; aspect = 1; mip = mip }

-- the number of a sort of resource, from 1 on
abbrev pub sort_number : Sort → ℕ
sort_number sort.Buffer = 1
sort_number sort.Queries = 2
sort_number sort.Texture = 3

-- the number of a name of a step, from 1 on
abbrev pub name_number : StepName → ℕ
name_number name.Clear = 1
name_number name.WriteBuffer = 2
name_number name.WriteTexture = 3
name_number name.CopyBufferToBuffer = 4
name_number name.CopyBufferToTexture = 5
name_number name.CopyTextureToBuffer = 6
name_number name.CopyTextureToTexture = 7
name_number name.ClearBuffer = 8
name_number name.ResolveQuerySet = 9
name_number name.Dispatch = 10
name_number name.RenderPass = 11
name_number name.HostRead = 12
name_number name.HostWrite = 13

-- the number of a kind of access, from 1 on
abbrev pub kind_number : AccessKind → ℕ
kind_number kind.Read = 1
kind_number kind.Write = 2
kind_number kind.Both = 3
kind_number kind.Drop = 4
kind_number kind.ReadDrop = 5

-- the set from which a barrier comes, as it is told, which of none is 0
abbrev pub from_told : Option Usages → ℕ
from_told None = 0
from_told (Some set) = set.0

-- 1 where a part had no use before, and else 0
abbrev pub fresh_told : Option Usages → ℕ
fresh_told None = 1
fresh_told (Some set) = 0

-- 1 where a step is on the host, and else 0
abbrev pub host_told : StepPlace → ℕ
host_told (Op number) = 0
host_told (Host entry) = 1

-- the number of the operation or the entry at which a step is
abbrev pub place_told : StepPlace → ℕ
place_told (Op number) = number
place_told (Host entry) = entry

-- the range of which nothing is told
abbrev pub blank_range : ToldRange
blank_range = record { object = 0; lo = 0; hi = 0; sort = 0; aspect = 0; mip = 0 }

-- the item of which nothing is told
abbrev pub blank_item : ToldItem
blank_item = record { what = 0; name = 0; part = blank_range; from = 0; to = 0; fresh = 0; host = 0; place = 0; uses = 0; accesses = 0 }

-- a barrier, as it is told, with its part, the sets of usages, and whether it comes from none
abbrev pub bar_told : PartRun → Option Usages → Usages → ToldItem
bar_told part from to = record blank_item { what = 1; part = part_told part; from = from_told from; to = to.0; fresh = fresh_told from }

-- a step, as it is told, with its name, its place, and how many uses and accesses it has
abbrev pub step_told : Step → ToldItem
step_told step = record blank_item {
  what = 2;
  name = name_number step.name;
  host = host_told step.place;
  place = place_told step.place;
  uses = length step.uses;
  accesses = length step.accesses;
}

-- a release, as it is told, with the object and its sort
abbrev pub free_told : ℕ → Sort → ToldItem
free_told object sort = record blank_item { what = 3; part = record blank_range { object = object; sort = sort_number sort } }

-- an item of a trace, as it is told: 1 a barrier, 2 a step, 3 a release
abbrev pub item_told : Item → ToldItem
item_told (Bar part from to) = bar_told part from to
item_told (StepItem step) = step_told step
item_told (Free object sort) = free_told object sort

-- a use of a step, as it is told
abbrev pub use_told : PartRun × Usages → ToldUse
use_told used = record { part = part_told used.0; usages = used.1.0 }

-- an access of a step, as it is told
abbrev pub access_told : Cells × AccessKind → ToldAccess
access_told access = record { cells = cells_told access.0; kind = kind_number access.1 }

-- the uses of an item, which is a step or has none
abbrev pub uses_of : Item → List (PartRun × Usages)
uses_of (Bar part from to) = []
uses_of (StepItem step) = step.uses
uses_of (Free object sort) = []

-- the accesses of an item, which is a step or has none
abbrev pub accesses_of : Item → List (Cells × AccessKind)
accesses_of (Bar part from to) = []
accesses_of (StepItem step) = step.accesses
accesses_of (Free object sort) = []
