-- Usages, kinds of access and changes, which are the values of rows; and rows with them as they are printed (WebGPU, "Resource
-- Usages").
use Rattle.std.specs.Prelude.{Bool, true, false, ◌&&◌, List, [], ◌∷◌, Option, Some, None, ◌==◌, bit_and, bit_or, if◌then◌else◌, ◌≡◌}
pub use Rattle.wg_trace.specs.declared.parts.AccessKind.{AccessKind}
pub use Rattle.wg_trace.specs.declared.parts.AccessKind.TheVariants.{Read, Write, Both, Drop, ReadDrop}
pub use Rattle.wg_trace.specs.declared.usages.Usages.{Usages}
use Rattle.wg_rows.specs.Rows.{printed, any_row, Apart, Alike, AllFit}
use Rattle.wg_rows.specs.Runs.{Part, PartRun, Cell, Cells, part_sort, cell_sort, covers_part, covers}

-- A set of usages is a bit each, in printed order: 1 input, 2 constant, 4 storage, 8 storage-read, 16 attachment,
-- 32 attachment-read, 64 copy-src, 128 copy-dst, 256 query-write, 512 query-read, 1024 host-read, 2048 host-write,
-- 4096 clear.
abbrev pub clear_usage : Usages
clear_usage = record { 0 = 4096 }

-- whether two sets have the same usages
abbrev pub same_set : Usages → Usages → Bool
same_set a b = a.0 == b.0

-- the usages that only read: 1, 2, 8, 32, 64, 512 and 1024
abbrev pub only_reads : Usages → Bool
only_reads set = bit_and set.0 1643 == set.0

-- whether an access reads its cell: Both reads and then writes, and ReadDrop reads and then leaves it unset
abbrev pub kind_reads : AccessKind → Bool
kind_reads Read = true
kind_reads Write = false
kind_reads Both = true
kind_reads Drop = false
kind_reads ReadDrop = true

-- whether an access writes its cell: each does but a read
abbrev pub kind_writes : AccessKind → Bool
kind_writes Read = false
kind_writes Write = true
kind_writes Both = true
kind_writes Drop = true
kind_writes ReadDrop = true

-- whether an access leaves its cell unset
abbrev pub kind_unsets : AccessKind → Bool
kind_unsets Read = false
kind_unsets Write = false
kind_unsets Both = false
kind_unsets Drop = true
kind_unsets ReadDrop = true

-- whether two accesses are of the same kind
abbrev pub same_kind : AccessKind → AccessKind → Bool
same_kind Read Read = true
same_kind Write Write = true
same_kind Both Both = true
same_kind Drop Drop = true
same_kind ReadDrop ReadDrop = true
same_kind _ _ = false

-- What a barrier goes from and to.
abbrev pub Change : Type 0
Change = Option Usages × Usages

-- whether two sets from which parts change are the same, where a part without an earlier use has none
abbrev pub same_from : Option Usages → Option Usages → Bool
same_from None None = true
same_from (Some a) (Some b) = same_set a b
same_from _ _ = false

-- whether two changes are from the same set to the same set
abbrev pub same_change : Change → Change → Bool
same_change a b = same_from a.0 b.0 && same_set a.1 b.1

-- the printed form of uses
abbrev pub printed_uses : List (PartRun × Usages) → List (PartRun × Usages)
printed_uses rows = printed part_sort same_set rows

-- the printed form of accesses
abbrev pub printed_accesses : List (Cells × AccessKind) → List (Cells × AccessKind)
printed_accesses rows = printed cell_sort same_kind rows

-- Accesses in printed form that have the kinds of some rows which agree are the printed form of those.
abbrev pub AccessesPrinted : Type 0
AccessesPrinted = (found rows : List (Cells × AccessKind)) → AllFit cell_sort rows → Apart cell_sort found → Alike cell_sort same_kind found rows → found ≡ printed_accesses rows

-- Rows of uses in printed form that have the values of some rows which agree are the printed form of those.
abbrev pub UsesPrinted : Type 0
UsesPrinted = (found rows : List (PartRun × Usages)) → AllFit part_sort rows → Apart part_sort found → Alike part_sort same_set found rows → found ≡ printed_uses rows

-- Changes in printed form that are those of the parts used are the barriers.
abbrev pub BarsPrinted : Type 0
BarsPrinted = (found rows : List (PartRun × Change)) → AllFit part_sort rows → Apart part_sort found → Alike part_sort same_change found rows → found ≡ printed part_sort same_change rows

-- whether some row of accesses reads a cell
abbrev pub row_reads : Cell → List (Cells × AccessKind) → Bool
row_reads c rows = any_row (λ run. covers run c) kind_reads rows

-- whether some row of accesses writes a cell
abbrev pub row_writes : Cell → List (Cells × AccessKind) → Bool
row_writes c rows = any_row (λ run. covers run c) kind_writes rows

-- whether the last row that writes the cell leaves it unset
abbrev pub row_unsets : Cell → List (Cells × AccessKind) → Bool
row_unsets c [] = false
row_unsets c (row ∷ rows) = if row_writes c rows then row_unsets c rows else (covers row.0 c && kind_unsets row.1)

-- the usages of a set and of one more, or that one alone where there is no set
abbrev pub with_usage : Usages → Option Usages → Usages
with_usage usage None = usage
with_usage usage (Some set) = record { 0 = bit_or usage.0 set.0 }

-- the union of the usages that rows have at a part, if some row has the part
abbrev pub row_set : Part → List (PartRun × Usages) → Option Usages
row_set p [] = None
row_set p (row ∷ rows) = if covers_part row.0 p then Some (with_usage row.1 (row_set p rows)) else row_set p rows
