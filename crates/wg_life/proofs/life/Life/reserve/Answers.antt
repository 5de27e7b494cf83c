use Rattle.std.proofs.Common.{◌≡◌, ◌+◌, length, rules, arith}
use Rattle.wg_life.specs.Lives.{live_count}
use Rattle.wg_life.proofs.Bound.{listed_le}
use Rattle.wg_life.proofs.life.Life.reserve.Goals as goal

pub overflow_sub-more : goal.overflow_sub-more
overflow_sub-more c =
    let le = listed_le _ _ _ c.self.invariant.tidy in
    let e : c.in-Some.more ≡ live_count c.self.inside.rows.items + 1 = search rules in
    let f : c.len.result ≡ length c.self.inside.waiting.listed.items = search rules in
    omega (arith, le, e, f)
