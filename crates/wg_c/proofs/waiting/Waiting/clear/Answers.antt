use Rattle.std.proofs.Common.{◌≡◌, ap, length, arith}
use Rattle.wg_c.proofs.waiting.Waiting.clear.Goals as goal

pub returns : goal.returns
returns c =
    let none : length c.loop-settlement.self.left ≡ 0 = ap (λ xs. length xs) c.in_default.ensures.ended.0 in
    omega (arith, c.loop-settlement.invariant.0, c.loop-settlement.invariant.1, none)
