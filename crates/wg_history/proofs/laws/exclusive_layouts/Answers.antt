use Rattle.wg_history.proofs.Exclusive.{entries_are_got, groups_are_exclusive, groups_serve_one, layouts_are_exclusive}
use Rattle.wg_history.proofs.laws.exclusive_layouts.Goals as goal

pub returns : goal.returns
returns _ = record { entries = entries_are_got; layouts = layouts_are_exclusive; groups = groups_are_exclusive; serve = groups_serve_one }
