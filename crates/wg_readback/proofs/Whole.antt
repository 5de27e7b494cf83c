-- What the reader asks of each item, its ranges and its numbers together.
use Rattle.std.proofs.Common.{ℕ, ◌<◌, ◌≤◌, List, [], ◌∷◌}
use Rattle.wg_trace.specs.declared.parts.PartRun.{PartRun}
use Rattle.wg_trace.specs.declared.parts.PartRun.TheVariants.{Buffer, Queries, Texture}
use Rattle.wg_trace.specs.declared.parts.Cells.{Cells}
use Rattle.wg_trace.specs.declared.parts.Cells.TheVariants.{Bytes, Queries as QueryCells, Layers, Slices}
use Rattle.wg_trace.specs.declared.parts.AccessKind.{AccessKind}
use Rattle.wg_trace.specs.declared.usages.Usages.{Usages}
use Rattle.wg_trace.specs.declared.steps.Item.{Item}
use Rattle.wg_trace.specs.declared.steps.Item.TheVariants.{Bar, Step as StepItem, Free}
use Rattle.wg_rows.specs.Rows.{EachRow}
use Rattle.wg_rows.specs.Once.{AreOnce}
use Rattle.wg_readtrace.specs.Forms.{most_32, most_53}
use Rattle.wg_readback.specs.Shapes.{IsSet, IsFrom, HasPart, HasCell, IsShapedUse, IsShapedAccess, IsShapedItem}
use Rattle.wg_readback.specs.Printable.{IsSmallPart, AreSmallCells, IsSmallPlace, IsSmallUse, IsSmallAccess, IsSmallItem}

abbrev pub IsRange : ℕ → ℕ → ℕ → Type 0
IsRange most lo hi = (lo < hi) × (hi ≤ most)

abbrev pub IsPart : PartRun → Type 0
IsPart (Buffer object) = object ≤ most_53
IsPart (Queries object) = object ≤ most_53
IsPart (Texture object aspect mip lo hi) = (object ≤ most_53) × (mip ≤ most_32) × IsRange most_32 lo hi

abbrev pub AreCells : Cells → Type 0
AreCells (Bytes object lo hi) = (object ≤ most_53) × IsRange most_53 lo hi
AreCells (QueryCells object lo hi) = (object ≤ most_53) × IsRange most_32 lo hi
AreCells (Layers object aspect mip lo hi) = (object ≤ most_53) × (mip ≤ most_32) × IsRange most_32 lo hi
AreCells (Slices object mip lo hi) = (object ≤ most_53) × (mip ≤ most_32) × IsRange most_32 lo hi

abbrev pub AreUses : List (PartRun × Usages) → Type 0
AreUses [] = Unit {0}
AreUses (row ∷ rows) = IsPart row.0 × IsSet row.1 × AreUses rows

abbrev pub AreAccesses : List (Cells × AccessKind) → Type 0
AreAccesses [] = Unit {0}
AreAccesses (row ∷ rows) = AreCells row.0 × AreAccesses rows

abbrev pub IsItem : Item → Type 0
IsItem (Bar part from to) = IsPart part × IsFrom from × IsSet to
IsItem (StepItem step) = IsSmallPlace step.place × AreUses step.uses × AreAccesses step.accesses
IsItem (Free object sort) = object ≤ most_53

abbrev pub AreItems : List Item → Type 0
AreItems [] = Unit {0}
AreItems (item ∷ items) = IsItem item × AreItems items

part_whole : (run : PartRun) → HasPart run → IsSmallPart run → IsPart run
part_whole (Buffer object) has fits = fits
part_whole (Queries object) has fits = fits
part_whole (Texture object aspect mip lo hi) has fits = (fits.0, fits.1, (has, fits.2))

cells_whole : (run : Cells) → HasCell run → AreSmallCells run → AreCells run
cells_whole (Bytes object lo hi) has fits = (fits.0, (has, fits.1))
cells_whole (QueryCells object lo hi) has fits = (fits.0, (has, fits.1))
cells_whole (Layers object aspect mip lo hi) has fits = (fits.0, fits.1, (has, fits.2))
cells_whole (Slices object mip lo hi) has fits = (fits.0, fits.1, (has, fits.2))

uses_whole : (rows : List (PartRun × Usages)) → EachRow IsShapedUse rows → EachRow IsSmallUse rows → AreUses rows
uses_whole [] has fits = tt
uses_whole (row ∷ rows) has fits = (part_whole row.0 has.0.0 fits.0, has.0.1, uses_whole rows has.1 fits.1)

accesses_whole : (rows : List (Cells × AccessKind)) → EachRow IsShapedAccess rows → EachRow IsSmallAccess rows → AreAccesses rows
accesses_whole [] has fits = tt
accesses_whole (row ∷ rows) has fits = (cells_whole row.0 has.0 fits.0, accesses_whole rows has.1 fits.1)

item_whole : (item : Item) → IsShapedItem item → IsSmallItem item → IsItem item
item_whole (Bar part from to) has fits = (part_whole part has.0 fits, has.1, has.2)
item_whole (StepItem step) has fits = (fits.place, uses_whole step.uses has.0.uses fits.uses, accesses_whole step.accesses has.0.accesses fits.accesses)
item_whole (Free object sort) has fits = fits

pub items_whole : (items : List Item) → EachRow IsShapedItem items → EachRow IsSmallItem items → AreItems items
items_whole [] has fits = tt
items_whole (item ∷ items) has fits = (item_whole item has.0 fits.0, items_whole items has.1 fits.1)

pub items_once : (items : List Item) → EachRow IsShapedItem items → AreOnce items
items_once [] has = tt
items_once (Bar part from to ∷ items) has = items_once items has.1
items_once (StepItem step ∷ items) has = (has.0.1, items_once items has.1)
items_once (Free object sort ∷ items) has = items_once items has.1
