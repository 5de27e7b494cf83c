use Rattle.std.proofs.Common.{◌≡◌, drop}
use Rattle.wg_json.specs.View.{items_view}
use Rattle.wg_script.specs.Lists.{items_of, with_items}
use Rattle.wg_script.proofs.lists.items_in.Given as goal

abbrev pub invariant-loop-value : goal.invariant-loop-value
invariant-loop-value g l = with_items l.items (items_of g.F.ReadItem.reads (items_view (drop l.value-index l.values)))
    ≡ items_of g.F.ReadItem.reads (items_view l.values)
