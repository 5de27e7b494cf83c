use Rattle.std.proofs.Common.{◌≡◌, ℕ, List, ◌++◌, ◌∙◌, ap, map, subst, arith}
use Rattle.wg_orders.specs.Trace.{free}
use Rattle.wg_trace.specs.declared.steps.Sort.{Sort}
use Rattle.wg_life.specs.Lives.{releases, AreOver}
use Rattle.wg_life.specs.Waits.{freed, IsGone}
use Rattle.wg_life.proofs.Dead.{dead_rows}
use Rattle.wg_life.proofs.Gone.{gone_released, freed_releases}
use Rattle.wg_life.proofs.Kept.{within_by}
use Rattle.wg_life.proofs.life.Life.release.Goals as goal

pub invariant_of-self : goal.invariant_of-self
invariant_of-self c = record {
  tidy = c.release.ensures.tidy;
  marks = gone_released c.args.completed _ _ _ _ c.release.ensures.notes c.self.invariant.marks;
  dead = dead_rows _ _ _ _ c.release.ensures.notes.len (subst (λ (gone : List ℕ). AreOver gone c.release.new.rows.items) (c.release.ensures.gone ∙ c.self.invariant.rows_gone) c.release.ensures.over) c.self.invariant.dead;
  rows_gone = c.release.ensures.gone ∙ c.self.invariant.rows_gone;
  lost_gone = c.self.invariant.lost_gone;
  keys_gone = c.release.ensures.keys_gone ∙ c.self.invariant.keys_gone;
  none_fell = c.self.invariant.none_fell;
  kept = c.release.ensures.kept;
  within = within_by _ _ _ _ _ c.release.ensures.less.bytes c.self.invariant.kept c.release.ensures.kept c.self.invariant.within;
  none_due = c.release.ensures.none;
  rows_fit = omega (arith, c.release.ensures.rows_spare, c.self.invariant.rows_fit);
  lost_fit = c.self.invariant.lost_fit;
  listed_fit = let fit = c.self.invariant.listed_fit in let room = c.release.ensures.listed_room in let less = c.release.ensures.less.count in let old = c.self.invariant.kept.count in let now = c.release.ensures.kept.count in omega (arith, fit, room, less, old, now);
  due_fit = let fit = c.self.invariant.due_fit in let room = c.release.ensures.due_room in let less = c.release.ensures.less.count in let old = c.self.invariant.kept.count in let now = c.release.ensures.kept.count in omega (arith, fit, room, less, old, now);
  live_fit = c.release.ensures.less.places _ c.self.invariant.live_fit;
  holders_fit = c.self.invariant.holders_fit;
}

pub returns-clause-items : goal.returns-clause-items
returns-clause-items c =
    let marks : IsGone c.args.self.now.rows c.args.self.now.holdings c.self.inside.lost.items = rw (← c.self.view_is) c.self.invariant.marks in
    let same : freed c.args.self.now.rows c.self.inside.lost.items c.args.completed ≡ releases c.args.self.now c.args.completed = freed_releases c.args.self.now _ _ marks in
    let items : c.release.new.trace.items ≡ c.args.trace.now.items ++ map free (freed c.args.self.now.rows c.self.inside.lost.items c.args.completed) = rw (← c.self.view_is) c.release.ensures.items in
    items ∙ ap (λ (list : List (ℕ × Sort)). c.args.trace.now.items ++ map free list) same
