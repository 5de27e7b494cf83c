-- The text of parts and of cells.
use Rattle.std.specs.Prelude.{ℕ, List, ◌++◌, codes, decimal}
use Rattle.wg_trace.specs.declared.parts.Aspect.{Aspect}
use Rattle.wg_trace.specs.declared.parts.Aspect.TheVariants.{Color, Depth, Stencil}
use Rattle.wg_trace.specs.declared.parts.PartRun.{PartRun}
use Rattle.wg_trace.specs.declared.parts.PartRun.TheVariants.{Buffer, Queries, Texture}
use Rattle.wg_trace.specs.declared.parts.Cells.{Cells}
use Rattle.wg_trace.specs.declared.parts.Cells.TheVariants.{Bytes, Queries as QueryCells, Layers, Slices}
use Rattle.wg_trace.specs.declared.parts.AccessKind.{AccessKind}
use Rattle.wg_trace.specs.declared.parts.AccessKind.TheVariants.{Read, Write, Both, Drop, ReadDrop}

-- the word of an aspect
abbrev pub aspect_text : Aspect → List ℕ
aspect_text Color = codes "color"
aspect_text Depth = codes "depth"
aspect_text Stencil = codes "stencil"

-- the word of a kind of access
abbrev pub access_kind_text : AccessKind → List ℕ
access_kind_text Read = codes "read"
access_kind_text Write = codes "write"
access_kind_text Both = codes "both"
access_kind_text Drop = codes "drop"
access_kind_text ReadDrop = codes "readdrop"

-- a buffer or a query set by its number alone, a texture with its aspect, mip level and layers
abbrev pub part_text : PartRun → List ℕ
part_text (Buffer object) = codes "b " ++ decimal object
part_text (Queries object) = codes "q " ++ decimal object
part_text (Texture object aspect mip lo hi) =
    codes "t " ++ decimal object ++ codes " " ++ aspect_text aspect ++ codes " " ++ decimal mip ++ codes " " ++ decimal lo ++ codes " " ++ decimal hi

-- bytes of a buffer, queries, layers of a texture, or slices of a 3D texture, whose aspect is color
abbrev pub cells_text : Cells → List ℕ
cells_text (Bytes object lo hi) = codes "b " ++ decimal object ++ codes " " ++ decimal lo ++ codes " " ++ decimal hi
cells_text (QueryCells object lo hi) = codes "q " ++ decimal object ++ codes " " ++ decimal lo ++ codes " " ++ decimal hi
cells_text (Layers object aspect mip lo hi) =
    codes "t " ++ decimal object ++ codes " " ++ aspect_text aspect ++ codes " " ++ decimal mip ++ codes " " ++ decimal lo ++ codes " " ++ decimal hi
cells_text (Slices object mip lo hi) =
    codes "s " ++ decimal object ++ codes " color " ++ decimal mip ++ codes " " ++ decimal lo ++ codes " " ++ decimal hi
