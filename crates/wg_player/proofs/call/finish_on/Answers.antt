use Rattle.std.proofs.Common.{◌≡◌, ◌<◌, ◌≤◌, length, Option, Some, IfOk, OnOk, slice_get, slice_set, refl, ap, sym, subst, arith}
use Rattle.std.specs.Prelude.{option_and_then}
use Rattle.std.specs.Option.{option_map_or}
use Rattle.std.proofs.lemmas.Option.{slice_get_read, slice_get_past}
use Rattle.std.proofs.lemmas.Result.{on_ok_weaker}
use Rattle.wg_turn.specs.Passes.{own_of}
use Rattle.wg_calls.specs.Calls.{event_asked, info_asked, taken_out}
use Rattle.wg_device.specs.Fronts.{setup_of}
use Rattle.wg_play.specs.declared.objects.Object.{Object}
use Rattle.wg_play.specs.Objects.{changed, recorder_in}
use Rattle.wg_play.specs.Lanes.{finish_by, finish_known}
use Rattle.wg_player.specs.Moves.{PassHasAsked}
use Rattle.wg_player.proofs.call.finish_on.Goals as goal

pub returns-then-index-len-clause-done : goal.returns-then-index-len-clause-done
returns-then-index-len-clause-done g c =
    let past : length c.args.own.now.items ≤ c.args.place = omega (arith, c.len.ensures, c.if-index-len.true) in
    subst (λ (found : Option Object). IfOk c.ask.result (λ handle. PassHasAsked (setup_of c.args.device.now.lock) (finish_by (option_and_then recorder_in found) (event_asked c.args.asked.now)) (finish_known (option_and_then recorder_in found) (info_asked c.args.asked.now)) handle (own_of c.args.pass.now) (own_of c.ask.new.pass)))
    (sym (slice_get_past c.args.own.now.items c.args.place past)) c.ask.ensures.done

pub returns-clause-done : goal.returns-clause-done
returns-clause-done g c =
    let within : c.args.place < length c.args.own.now.items = omega (arith, c.len.ensures, c.if-index-len.false) in
    let is : slice_get c.args.own.now.items c.args.place ≡ Some c.index_mut.result.now
    = slice_get_read c.args.own.now.items (length c.args.own.now.items) c.args.place c.index_mut.result.now refl within c.index_mut.ensures.value in
    subst (λ (found : Option Object). IfOk c.finish_in.result (λ handle. PassHasAsked (setup_of c.args.device.now.lock) (finish_by (option_and_then recorder_in found) (event_asked c.args.asked.now)) (finish_known (option_and_then recorder_in found) (info_asked c.args.asked.now)) handle (own_of c.args.pass.now) (own_of c.finish_in.new.pass)))
    (sym is) c.finish_in.ensures.done

pub returns-clause-taken : goal.returns-clause-taken
returns-clause-taken g c =
    let within : c.args.place < length c.args.own.now.items = omega (arith, c.len.ensures, c.if-index-len.false) in
    let is : slice_get c.args.own.now.items c.args.place ≡ Some c.index_mut.result.now
    = slice_get_read c.args.own.now.items (length c.args.own.now.items) c.args.place c.index_mut.result.now refl within c.index_mut.ensures.value in
    let set = slice_set c.args.own.now.items c.args.place in
    let after = λ (x : Object). changed x taken_out in
    subst (λ (found : Option Object). OnOk c.finish_in.result (set c.finish_in.new.object ≡ option_map_or (λ x. set (after x)) found c.args.own.now.items)) (sym is)
    (on_ok_weaker c.finish_in.result (λ e. ap set e) c.finish_in.ensures.taken)
