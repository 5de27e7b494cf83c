use Rattle.std.proofs.Common.{◌≡◌, ◌+◌, ◌-◌, Some, None, slice_index, refl, subst, rules, arith}
use Rattle.slab.specs.Slab.{Updates}
use Rattle.wg_life.specs.Lives.{row_at}
use Rattle.wg_life.proofs.Kept.{takes_some, kept_released}
use Rattle.wg_life.proofs.live.release_row.Goals as goal

pub overflow_sub-live : goal.overflow_sub-live
overflow_sub-live c =
    let is : (row_at c.args.rows.now.items c.args.number).resource ≡ Some c.in-Some.resource = search rules in
    let takes = takes_some _ _ c.args.number c.in-Some.resource is c.requires.live c.mark_released.ensures.notes in
    let e = takes.bytes in let f = c.requires.kept.bytes in omega (arith, e, f)

pub returns-in-Some-clause-kept : goal.returns-in-Some-clause-kept
returns-in-Some-clause-kept c =
    let is : (row_at c.args.rows.now.items c.args.number).resource ≡ Some c.in-Some.resource = search rules in
    let takes = takes_some _ _ c.args.number c.in-Some.resource is c.requires.live c.mark_released.ensures.notes in
    let e = takes.bytes in let f = c.requires.kept.bytes in
    let bytes : c.args.live.now.bytes ≡ c.args.live.now.bytes - c.in-Some.resource.bytes + c.in-Some.resource.bytes = omega (arith, e, f) in
    let key : c.key_in-key.result ≡ slice_index c.args.live.now.keys.items c.args.number = search rules in
    let updates = subst (λ k. Updates c.args.live.now.slab c.remove.new.self k None) key c.remove.ensures.updates in
    kept_released _ _ c.args.number c.in-Some.resource _ _ is c.requires.live c.mark_released.ensures.notes updates c.remove.ensures.len bytes refl c.requires.kept
