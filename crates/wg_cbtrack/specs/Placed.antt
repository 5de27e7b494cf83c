-- What a step finds that needs no clear inside, in printed form.
use Rattle.std.specs.Prelude.{◌≡◌, List, [], ◌<◌}
use Rattle.wg_trace.specs.declared.steps.Deed.{Deed}
use Rattle.wg_rows.specs.Rows.{Apart, EachRow}
use Rattle.wg_rows.specs.Cut.{put_all}
use Rattle.wg_rows.specs.Runs.{Cells, part_sort, cell_sort, cell_lo, cell_hi}
use Rattle.wg_rows.specs.Uses.{AccessKind, Read, same_kind}
use Rattle.wg_rows.specs.Sets.{UseRow}
use Rattle.wg_bars.specs.Changes.{ChangeRow}
use Rattle.wg_cbtrack.specs.declared.kept.Rows.{Rows}
use Rattle.wg_cbtrack.specs.Join.{inner_changes, opens}
use Rattle.wg_cbtrack.specs.Leaves.{with_pieces, unset_pieces, unwritten_pieces}

-- Rows are reads that cover something each.
abbrev pub AreReads : List (Cells × AccessKind) → Type 0
AreReads rows = EachRow (λ row. (row.1 ≡ Read) × (cell_lo row.0 < cell_hi row.0)) rows

-- A step needs no clear inside, and these are what it finds.
pub record IsPlaced (rows : Rows) (deed : Deed) (changes : List ChangeRow) (first opened : List UseRow) (pieces : List (Cells × AccessKind)) : Type 0 where
  pub apart : Apart part_sort deed.uses
  pub changes_are : changes ≡ inner_changes rows.ends.items deed.uses
  pub first_are : first ≡ opens rows.ends.items deed.uses
  pub opened_are : opened ≡ opens rows.starts.items deed.uses
  pub clear : [] ≡ with_pieces (unset_pieces rows.leaves.items) deed.accesses []
  pub wants : put_all cell_sort same_kind pieces rows.wants.items ≡ with_pieces (unwritten_pieces rows.leaves.items) deed.accesses rows.wants.items
  pub reads : AreReads pieces
