use Rattle.std.proofs.Common.{◌≡◌, ◌∙◌, ap, sym, map, length, take, drop, ◌-◌, arith}
use Rattle.std.proofs.lemmas.List.{length-map}
use Rattle.wg_told.specs.Items.{use_told, uses_of}
use Rattle.wg_told.specs.Drains.{over}
use Rattle.wg_told.proofs.Drained.{own_room, join_part, count_step}
use Rattle.wg_told.proofs.drains.put_uses.Goals as goal

pub put_own_uses-requires : goal.put_own_uses-requires
put_own_uses-requires c =
    let many : length c.uses_of-uses.result.now ≡ length (map use_told (uses_of c.item-item.result))
    = ap (λ us. length us) c.uses_of-uses.ensures ∙ sym (length-map (uses_of c.item-item.result) use_told) in
    let long : length c.loop-item.out ≡ length c.args.out.now = omega (arith, c.loop-item.auto.out) in
    (own_room (λ item. map use_told (uses_of item)) c.args.items.now c.loop-item.item-index c.item-item.result (length c.uses_of-uses.result.now) c.loop-item.count
    c.loop-item.out (length c.args.out.now) c.loop-item-test.true c.item-item.is many c.loop-item.invariant.1 c.requires long).1

pub loop-item-preserved : goal.loop-item-preserved
loop-item-preserved c =
    let many : length c.uses_of-uses.result.now ≡ length (map use_told (uses_of c.item-item.result))
    = ap (λ us. length us) c.uses_of-uses.ensures ∙ sym (length-map (uses_of c.item-item.result) use_told) in (
      join_part (λ item. map use_told (uses_of item)) c.args.items.now c.loop-item.item-index c.item-item.result c.loop-item.count c.loop-item.out c.put_own_uses.new.out
          c.args.out.now c.loop-item-test.true c.item-item.is c.loop-item.invariant.1 c.loop-item.invariant.0
          (c.put_own_uses.ensures ∙ ap (λ us. over (map use_told us) (take (length c.loop-item.out - c.loop-item.count) (drop c.loop-item.count c.loop-item.out))) c.uses_of-uses.ensures),
      count_step (λ item. map use_told (uses_of item)) c.args.items.now c.loop-item.item-index c.item-item.result c.loop-item.count (length c.uses_of-uses.result.now)
          c.loop-item-test.true c.item-item.is c.loop-item.invariant.1 many,
    )
