-- Parts and cells of memory, and the runs of them that are printed (WebGPU, "Resource Usages" and "Textures").
use Rattle.std.specs.Prelude.{ℕ, ◌+◌, Bool, true, false, List, [], ◌∷◌, map, nat_lt}
pub use Rattle.wg_trace.specs.declared.parts.Aspect.{Aspect}
pub use Rattle.wg_trace.specs.declared.parts.Aspect.TheVariants.{Color, Depth, Stencil}
pub use Rattle.wg_trace.specs.declared.parts.Part.{Part}
pub use Rattle.wg_trace.specs.declared.parts.Part.TheVariants.{Buffer, Queries as QuerySet, Texture as Subresource}
pub use Rattle.wg_trace.specs.declared.parts.PartRun.{PartRun}
pub use Rattle.wg_trace.specs.declared.parts.PartRun.TheVariants.{Buffer as BufferPart, Queries as QueryPart, Texture as LayerParts}
pub use Rattle.wg_trace.specs.declared.parts.Cells.{Cells}
pub use Rattle.wg_trace.specs.declared.parts.Cells.TheVariants.{Bytes, Queries, Layers, Slices}
use Rattle.wg_rows.specs.Rows.{numbers, Sort, Spot, covers_spot}

-- A cell is a byte of a buffer, a subresource of a texture, a slice of a mip level of a 3D texture, or
-- one query.
pub data Cell : Type 0 where
  Byte : (object at : ℕ) → Cell
  Texels : (object : ℕ) (aspect : Aspect) (mip layer : ℕ) → Cell
  Slice : (object mip depth : ℕ) → Cell
  Query : (object at : ℕ) → Cell

-- Each cell lies in one part; a slice lies in layer 0 of its mip level.
abbrev pub part_of : Cell → Part
part_of (Byte object at) = Buffer object
part_of (Texels object aspect mip layer) = Subresource object aspect mip layer
part_of (Slice object mip depth) = Subresource object Color mip 0
part_of (Query object at) = QuerySet object

-- whether a part is one of a texture
abbrev pub is_texture : Part → Bool
is_texture (Subresource object aspect mip layer) = true
is_texture _ = false

-- aspects in printed order
abbrev pub aspect_number : Aspect → ℕ
aspect_number Color = 0
aspect_number Depth = 1
aspect_number Stencil = 2

-- the line of a run of parts: its object, sort (0 for buffers, 1 for query sets, 2 for textures, 3 for slices), aspect and mip
-- level; a part that is whole is the one place 0 of its line
abbrev pub part_line : PartRun → List ℕ
part_line (BufferPart object) = object ∷ (0 ∷ [])
part_line (LayerParts object aspect mip lo hi) = object ∷ (2 ∷ (aspect_number aspect ∷ (mip ∷ [])))
part_line (QueryPart object) = object ∷ (1 ∷ [])

-- the first place of a run of parts
abbrev pub part_lo : PartRun → ℕ
part_lo (LayerParts object aspect mip lo hi) = lo
part_lo _ = 0

-- the place behind the last of a run of parts
abbrev pub part_hi : PartRun → ℕ
part_hi (LayerParts object aspect mip lo hi) = hi
part_hi _ = 1

-- a run of parts with another range of places
abbrev pub part_widen : PartRun → ℕ → ℕ → PartRun
part_widen (BufferPart object) from to = BufferPart object
part_widen (LayerParts object aspect mip lo hi) from to = LayerParts object aspect mip from to
part_widen (QueryPart object) from to = QueryPart object

-- the runs of parts as a sort of runs
abbrev pub part_sort : Sort PartRun
part_sort = record { line = part_line; lo = part_lo; hi = part_hi; widen = part_widen }

-- the line and the place of a part
abbrev pub part_spot : Part → Spot
part_spot (Buffer object) = (object ∷ (0 ∷ []), 0)
part_spot (Subresource object aspect mip layer) = (object ∷ (2 ∷ (aspect_number aspect ∷ (mip ∷ []))), layer)
part_spot (QuerySet object) = (object ∷ (1 ∷ []), 0)

-- the line of a run of cells
abbrev pub cell_line : Cells → List ℕ
cell_line (Bytes object lo hi) = object ∷ (0 ∷ [])
cell_line (Layers object aspect mip lo hi) = object ∷ (2 ∷ (aspect_number aspect ∷ (mip ∷ [])))
cell_line (Slices object mip lo hi) = object ∷ (3 ∷ (mip ∷ []))
cell_line (Queries object lo hi) = object ∷ (1 ∷ [])

-- the first place of a run of cells
abbrev pub cell_lo : Cells → ℕ
cell_lo (Bytes object lo hi) = lo
cell_lo (Layers object aspect mip lo hi) = lo
cell_lo (Slices object mip lo hi) = lo
cell_lo (Queries object lo hi) = lo

-- the place behind the last of a run of cells
abbrev pub cell_hi : Cells → ℕ
cell_hi (Bytes object lo hi) = hi
cell_hi (Layers object aspect mip lo hi) = hi
cell_hi (Slices object mip lo hi) = hi
cell_hi (Queries object lo hi) = hi

-- a run of cells with another range of places
abbrev pub cell_widen : Cells → ℕ → ℕ → Cells
cell_widen (Bytes object lo hi) from to = Bytes object from to
cell_widen (Layers object aspect mip lo hi) from to = Layers object aspect mip from to
cell_widen (Slices object mip lo hi) from to = Slices object mip from to
cell_widen (Queries object lo hi) from to = Queries object from to

-- the runs of cells as a sort of runs
abbrev pub cell_sort : Sort Cells
cell_sort = record { line = cell_line; lo = cell_lo; hi = cell_hi; widen = cell_widen }

-- the line and the place of a cell
abbrev pub cell_spot : Cell → Spot
cell_spot (Byte object at) = (object ∷ (0 ∷ []), at)
cell_spot (Texels object aspect mip layer) = (object ∷ (2 ∷ (aspect_number aspect ∷ (mip ∷ []))), layer)
cell_spot (Slice object mip depth) = (object ∷ (3 ∷ (mip ∷ [])), depth)
cell_spot (Query object at) = (object ∷ (1 ∷ []), at)

-- whether a run has a part
unfoldable pub covers_part : PartRun → Part → Bool
covers_part run p = covers_spot part_sort run (part_spot p)

-- whether a run has a cell
unfoldable pub covers : Cells → Cell → Bool
covers run c = covers_spot cell_sort run (cell_spot c)

-- the parts of a run, in order
abbrev pub parts_in : PartRun → List Part
parts_in (BufferPart object) = Buffer object ∷ []
parts_in (LayerParts object aspect mip lo hi) = map (Subresource object aspect mip) (numbers lo hi)
parts_in (QueryPart object) = QuerySet object ∷ []

-- the cells of a run, in order
abbrev pub cells_in : Cells → List Cell
cells_in (Bytes object lo hi) = map (Byte object) (numbers lo hi)
cells_in (Layers object aspect mip lo hi) = map (Texels object aspect mip) (numbers lo hi)
cells_in (Slices object mip lo hi) = map (Slice object mip) (numbers lo hi)
cells_in (Queries object lo hi) = map (Query object) (numbers lo hi)

-- the run of one part
abbrev pub part_run : Part → PartRun
part_run (Buffer object) = BufferPart object
part_run (Subresource object aspect mip layer) = LayerParts object aspect mip layer (layer + 1)
part_run (QuerySet object) = QueryPart object

-- the run of one cell
abbrev pub cell_run : Cell → Cells
cell_run (Byte object at) = Bytes object at (at + 1)
cell_run (Texels object aspect mip layer) = Layers object aspect mip layer (layer + 1)
cell_run (Slice object mip depth) = Slices object mip depth (depth + 1)
cell_run (Query object at) = Queries object at (at + 1)

-- the parts that a run of cells lies in
abbrev pub run_part : Cells → PartRun
run_part (Bytes object lo hi) = BufferPart object
run_part (Layers object aspect mip lo hi) = LayerParts object aspect mip lo hi
run_part (Slices object mip lo hi) = LayerParts object Color mip 0 1
run_part (Queries object lo hi) = QueryPart object

-- the object of a part
abbrev pub object_of : Part → ℕ
object_of (Buffer object) = object
object_of (Subresource object aspect mip layer) = object
object_of (QuerySet object) = object

-- the object of a run of parts
abbrev pub run_object : PartRun → ℕ
run_object (BufferPart object) = object
run_object (LayerParts object aspect mip lo hi) = object
run_object (QueryPart object) = object

-- whether a run has a part
abbrev pub is_full : PartRun → Bool
is_full run = nat_lt (part_lo run) (part_hi run)
