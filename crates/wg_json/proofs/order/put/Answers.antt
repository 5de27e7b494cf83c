use Rattle.std.proofs.Common.{sym, ap, ◌∙◌, arith}
use Rattle.wg_json.specs.Places.{place_from}
use Rattle.wg_json.proofs.Placing.{found_here, missing_here, inserted}
use Rattle.wg_json.proofs.order.put.Goals as goal

pub index_mut-requires : goal.index_mut-requires
index_mut-requires c =
    let h = ap (place_from 0 c.args.key.now) (sym c.as_slice.ensures.value) ∙ sym c.place_of.ensures ∙ c.in-Ok.is in
    let within = (found_here c.in-Ok.place (c.args.key, c.args.value) c.args.members.now.items h).0 in
    omega (arith, within, c.args.members.now.ok.0)

pub insert-requires : goal.insert-requires
insert-requires c =
    let h = ap (place_from 0 c.args.key.now) (sym c.as_slice.ensures.value) ∙ sym c.place_of.ensures ∙ c.in-Err.is in
    let within = (missing_here c.in-Err.place (c.args.key, c.args.value) c.args.members.now.items h).0 in
    omega (arith, within, c.args.members.now.ok.0)

pub returns-in-Ok : goal.returns-in-Ok
returns-in-Ok c =
    let h = ap (place_from 0 c.args.key.now) (sym c.as_slice.ensures.value) ∙ sym c.place_of.ensures ∙ c.in-Ok.is in
    (found_here c.in-Ok.place (c.args.key, c.args.value) c.args.members.now.items h).1

pub returns-in-Err : goal.returns-in-Err
returns-in-Err c =
    let h = ap (place_from 0 c.args.key.now) (sym c.as_slice.ensures.value) ∙ sym c.place_of.ensures ∙ c.in-Err.is in
    inserted c.insert.result c.in-Err.place (c.args.key, c.args.value) c.args.members.now.items c.insert.new.self.items c.insert.ensures.items h
