use Rattle.std.proofs.Common.{◌≡◌, ◌∙◌, ap, sym, map, length, take, drop, ◌-◌, arith}
use Rattle.std.proofs.lemmas.List.{length-map}
use Rattle.wg_told.specs.Items.{access_told, accesses_of}
use Rattle.wg_told.specs.Drains.{over}
use Rattle.wg_told.proofs.Drained.{own_room, join_part, count_step}
use Rattle.wg_told.proofs.drains.put_accesses.Goals as goal

pub put_own_accesses-requires : goal.put_own_accesses-requires
put_own_accesses-requires c =
    let many : length c.accesses_of-accesses.result.now ≡ length (map access_told (accesses_of c.item-item.result))
    = ap (λ us. length us) c.accesses_of-accesses.ensures ∙ sym (length-map (accesses_of c.item-item.result) access_told) in
    let long : length c.loop-item.out ≡ length c.args.out.now = omega (arith, c.loop-item.auto.out) in
    (own_room (λ item. map access_told (accesses_of item)) c.args.items.now c.loop-item.item-index c.item-item.result (length c.accesses_of-accesses.result.now) c.loop-item.count
    c.loop-item.out (length c.args.out.now) c.loop-item-test.true c.item-item.is many c.loop-item.invariant.1 c.requires long).1

pub loop-item-preserved : goal.loop-item-preserved
loop-item-preserved c =
    let many : length c.accesses_of-accesses.result.now ≡ length (map access_told (accesses_of c.item-item.result))
    = ap (λ us. length us) c.accesses_of-accesses.ensures ∙ sym (length-map (accesses_of c.item-item.result) access_told) in (
      join_part (λ item. map access_told (accesses_of item)) c.args.items.now c.loop-item.item-index c.item-item.result c.loop-item.count c.loop-item.out c.put_own_accesses.new.out
          c.args.out.now c.loop-item-test.true c.item-item.is c.loop-item.invariant.1 c.loop-item.invariant.0
          (c.put_own_accesses.ensures ∙ ap (λ us. over (map access_told us) (take (length c.loop-item.out - c.loop-item.count) (drop c.loop-item.count c.loop-item.out))) c.accesses_of-accesses.ensures),
      count_step (λ item. map access_told (accesses_of item)) c.args.items.now c.loop-item.item-index c.item-item.result c.loop-item.count (length c.accesses_of-accesses.result.now)
          c.loop-item-test.true c.item-item.is c.loop-item.invariant.1 many,
    )
