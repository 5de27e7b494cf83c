use Rattle.wg_rows.specs.Runs.{Bytes}
use Rattle.wg_rows.specs.Uses.{Read}
use Rattle.wg_cbtrack.proofs.Reading.{wants_next, clear_next}
use Rattle.wg_cbtrack.proofs.reads.find_reads.Goals as goal

pub loop-access-preserved : goal.loop-access-preserved
loop-access-preserved c = (
  clear_next c.args.leaves.now c.args.accesses.now c.loop-access.access-index (Bytes 0 0 0, Read) c.loop-access-test.true (c.in_ok-push_access.ensures.clear c.if-not-branch.false) c.loop-access.invariant.0,
  wants_next c.args.wants.now c.args.leaves.now c.args.accesses.now c.loop-access.found.items c.push_access.new.found.items c.loop-access.access-index (Bytes 0 0 0, Read) c.requires.tidy c.loop-access-test.true c.loop-access.invariant.2 (c.in_ok-push_access.ensures.wants c.if-not-branch.false) c.loop-access.invariant.1,
  c.in_ok-push_access.ensures.held c.if-not-branch.false,
)
