use Rattle.std.proofs.Common.{rules, ◌≡◌, ◌∙◌, ap, ap₂}
use Rattle.wg_rows.specs.Cut.{put_all}
use Rattle.wg_rows.specs.Runs.{part_sort}
use Rattle.wg_rows.specs.Uses.{same_set}
use Rattle.wg_rows.specs.Sets.{sets}
use Rattle.wg_cbtrack.specs.Join.{opens, used_after}
use Rattle.wg_cbtrack.proofs.seen.see.Goals as goal

pub returns : goal.returns
returns c =
    let before : c.in_ok-before.before.items ≡ c.args.starts.now = search rules in
    let held : c.in_ok-held.held.items ≡ c.args.ends.now = search rules in
    let first : c.as_slice-2.result.now ≡ opens c.args.starts.now (sets c.args.uses.now) = c.as_slice-2.ensures.value ∙ (c.in_ok-first.ensures ∙ ap (opens c.args.starts.now) (c.as_slice.ensures.value ∙ c.in_ok-uses.ensures)) in
    record {
      starts = c.in_ok-starts_after.ensures ∙ ap₂ (put_all part_sort same_set) first before;
      ends = c.in_ok-ends_after.ensures ∙ ap₂ used_after (c.as_slice-3.ensures.value ∙ c.in_ok-uses.ensures) held;
    }
