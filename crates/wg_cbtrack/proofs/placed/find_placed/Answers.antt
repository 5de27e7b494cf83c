use Rattle.std.proofs.Common.{◌≡◌, ◌∙◌, [], ap, ap₂, sym, subst, List}
use Rattle.wg_rows.specs.Rows.{Apart}
use Rattle.wg_rows.specs.Cut.{put_all}
use Rattle.wg_rows.specs.Runs.{Cells, part_sort, cell_sort}
use Rattle.wg_rows.specs.Uses.{AccessKind, same_kind}
use Rattle.wg_cbtrack.specs.Join.{inner_changes, opens}
use Rattle.wg_cbtrack.specs.Leaves.{with_pieces, unset_pieces, unwritten_pieces}
use Rattle.wg_cbtrack.specs.Placed.{AreReads}
use Rattle.wg_cbtrack.proofs.OfRuns.{parts_printed}
use Rattle.wg_cbtrack.proofs.placed.find_placed.Goals as goal

pub returns-clause-placed : goal.returns-clause-placed
returns-clause-placed c =
    let clear : [] ≡ with_pieces (unset_pieces c.as_slice-leaves.result.now) c.as_slice.result.now [] = rw c.in-Some.is at c.in_ok-pieces.ensures.clear in
    let wants : put_all cell_sort same_kind c.in-Some.pieces.items c.as_slice-wants.result.now ≡ with_pieces (unwritten_pieces c.as_slice-leaves.result.now) c.as_slice.result.now c.as_slice-wants.result.now = rw c.in-Some.is at c.in_ok-pieces.ensures.wants in
    record {
      apart = subst (Apart part_sort) c.as_slice-uses.ensures (parts_printed c.are_apart.result c.as_slice-uses.result.now c.are_apart.ensures c.if-not-are_apart.false);
      changes_are = c.in_ok-found.ensures.changes ∙ ap₂ inner_changes c.as_slice-3.ensures.value c.as_slice-uses.ensures;
      first_are = c.in_ok-found.ensures.first ∙ ap₂ opens c.as_slice-3.ensures.value c.as_slice-uses.ensures;
      opened_are = c.in_ok-found.ensures.opened ∙ ap₂ opens c.as_slice-4.ensures.value c.as_slice-uses.ensures;
      clear = clear ∙ ap₂ (λ (ls xs : List (Cells × AccessKind)). with_pieces (unset_pieces ls) xs []) c.as_slice-leaves.ensures.value c.as_slice.ensures;
      wants = ap (put_all cell_sort same_kind c.in-Some.pieces.items) (sym c.as_slice-wants.ensures.value) ∙ (wants ∙ (ap₂ (λ (ls xs : List (Cells × AccessKind)). with_pieces (unwritten_pieces ls) xs c.as_slice-wants.result.now) c.as_slice-leaves.ensures.value c.as_slice.ensures ∙ ap (with_pieces (unwritten_pieces c.args.rows.now.leaves.items) c.args.deed.now.accesses) c.as_slice-wants.ensures.value));
      reads = subst AreReads c.as_slice-2.ensures.value (c.are_reads.ensures c.if-not-are_reads.false);
    }
