use Rattle.std.proofs.Common.{rules, ◌≡◌, []}
use Rattle.wg_cbtrack.specs.Stands.{tracker_of}
use Rattle.wg_cbtrack.proofs.Adding.{none_yet}
use Rattle.wg_cbtrack.proofs.draft.begin.Goals as goal

pub returns-clause-added : goal.returns-clause-added
returns-clause-added c =
    let items : c.new.result.items ≡ [] = search rules in
    none_yet (tracker_of c.args.last.now c.args.cells.now) (record { items = c.new.result; last = c.new-2.result; cells = c.new-3.result }) items c.new-2.ensures c.new-3.ensures c.rows.ensures.sorted c.rows-2.ensures.apart
