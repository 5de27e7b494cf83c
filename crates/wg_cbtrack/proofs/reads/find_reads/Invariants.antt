use Rattle.std.proofs.Common.{◌≡◌, [], drop}
use Rattle.wg_rows.specs.Cut.{put_all}
use Rattle.wg_rows.specs.Runs.{cell_sort}
use Rattle.wg_rows.specs.Uses.{Read, same_kind}
use Rattle.wg_cbtrack.specs.Leaves.{AllOf, with_pieces, unset_pieces, unwritten_pieces}
use Rattle.wg_cbtrack.proofs.reads.find_reads.Given as goal

abbrev pub invariant-loop-access : goal.invariant-loop-access
invariant-loop-access l = (with_pieces (unset_pieces l.leaves) (drop l.access-index l.accesses) [] ≡ with_pieces (unset_pieces l.leaves) l.accesses []) × (with_pieces (unwritten_pieces l.leaves) (drop l.access-index l.accesses) (put_all cell_sort same_kind l.found.items l.wants) ≡ with_pieces (unwritten_pieces l.leaves) l.accesses l.wants) × AllOf Read (put_all cell_sort same_kind l.found.items l.wants)
