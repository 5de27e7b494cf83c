use Rattle.std.proofs.Common.{◌∙◌, [], ◌∷◌}
use Rattle.wg_rows.specs.Runs.{BufferPart, part_sort}
use Rattle.wg_rows.specs.Uses.{clear_usage}
use Rattle.wg_rows.specs.Cut.{choose, inside, gaps}
use Rattle.wg_rows.specs.Sets.{UseRow}
use Rattle.wg_bars.specs.Changes.{change_from}
use Rattle.wg_cbtrack.specs.Alone.{IsAlone, AllAlone}
use Rattle.wg_cbtrack.proofs.Finding.{each_on, flat_on, spread_on, each_all, flat_all, changes_flat, opens_flat}
use Rattle.wg_cbtrack.proofs.found.find_all.Goals as goal

pub loop-row-preserved : goal.loop-row-preserved
loop-row-preserved c = (
  (spread_on c.args.uses.now c.loop-row.row-index (BufferPart 0, clear_usage) c.loop-row-test.true c.loop-row.invariant.0).1,
  each_on (λ u. IsAlone c.args.ends.now u.0) c.args.uses.now c.loop-row.row-index _ c.loop-row-test.true (c.in_ok-push_found.ensures.alone c.if-not-branch.false) c.loop-row.invariant.1,
  each_on (λ u. IsAlone c.args.starts.now u.0) c.args.uses.now c.loop-row.row-index _ c.loop-row-test.true (c.in_ok-push_opened.ensures.alone c.if-not-branch-2.false) c.loop-row.invariant.2,
  each_on (λ u. IsAlone c.args.last.now u.0) c.args.uses.now c.loop-row.row-index _ c.loop-row-test.true (c.is_alone.ensures c.if-not-is_alone.false) c.loop-row.invariant.3,
  flat_on (λ (u : UseRow). choose (change_from u.1) (inside part_sort u.0 c.args.ends.now)) c.args.uses.now c.loop-row.row-index _ c.loop-row.changes.items _ c.loop-row-test.true (c.in_ok-push_found.ensures.changes c.if-not-branch.false) c.loop-row.invariant.4,
  flat_on (λ (u : UseRow). gaps part_sort (u ∷ []) c.args.ends.now) c.args.uses.now c.loop-row.row-index _ c.loop-row.first.items _ c.loop-row-test.true (c.in_ok-push_found.ensures.first c.if-not-branch.false) c.loop-row.invariant.5,
  flat_on (λ (u : UseRow). gaps part_sort (u ∷ []) c.args.starts.now) c.args.uses.now c.loop-row.row-index _ c.loop-row.opened.items _ c.loop-row-test.true (c.in_ok-push_opened.ensures.first c.if-not-branch-2.false) c.loop-row.invariant.6,
)

pub returns : goal.returns
returns c =
    let ends : AllAlone c.args.ends.now c.args.uses.now = each_all (λ u. IsAlone c.args.ends.now u.0) c.args.uses.now c.loop-row.row-index c.loop-row-test.false c.loop-row.invariant.1 in
    let starts : AllAlone c.args.starts.now c.args.uses.now = each_all (λ u. IsAlone c.args.starts.now u.0) c.args.uses.now c.loop-row.row-index c.loop-row-test.false c.loop-row.invariant.2 in
    record {
      ends_alone = ends;
      starts_alone = starts;
      last_alone = each_all (λ u. IsAlone c.args.last.now u.0) c.args.uses.now c.loop-row.row-index c.loop-row-test.false c.loop-row.invariant.3;
      changes_are = flat_all (λ (u : UseRow). choose (change_from u.1) (inside part_sort u.0 c.args.ends.now)) c.args.uses.now c.loop-row.row-index c.loop-row.changes.items c.loop-row-test.false c.loop-row.invariant.4 ∙ changes_flat c.args.ends.now c.args.uses.now c.requires.spread ends;
      first_are = flat_all (λ (u : UseRow). gaps part_sort (u ∷ []) c.args.ends.now) c.args.uses.now c.loop-row.row-index c.loop-row.first.items c.loop-row-test.false c.loop-row.invariant.5 ∙ opens_flat c.args.ends.now c.args.uses.now c.requires.spread ends;
      opened_are = flat_all (λ (u : UseRow). gaps part_sort (u ∷ []) c.args.starts.now) c.args.uses.now c.loop-row.row-index c.loop-row.opened.items c.loop-row-test.false c.loop-row.invariant.6 ∙ opens_flat c.args.starts.now c.args.uses.now c.requires.spread starts;
    }
