use Rattle.std.proofs.Common.{◌≡◌, ◌<◌, ◌≤◌, true, length, Option, Some, IfOk, OnOk, slice_get, slice_set, refl, ap, sym, subst, arith}
use Rattle.std.specs.Prelude.{option_and_then}
use Rattle.std.specs.Option.{option_map_or}
use Rattle.std.proofs.lemmas.Option.{slice_get_read, slice_get_past}
use Rattle.std.proofs.lemmas.Result.{on_ok_weaker}
use Rattle.wg_encoder.specs.Recorders.{noted}
use Rattle.wg_play.specs.declared.objects.Object.{Object}
use Rattle.wg_play.specs.Objects.{changed, recorder_in, is_late_by, recorded_by}
use Rattle.wg_play.proofs.objects.record_on.Goals as goal

pub returns-then-index-len-clause-noted : goal.returns-then-index-len-clause-noted
returns-then-index-len-clause-noted c =
    let past : length c.args.objects.now.items ≤ c.args.stand.encoder = omega (arith, c.len.ensures, c.if-index-len.true) in
    ap (λ (found : Option Object). noted (option_map_or (is_late_by c.args.stand.on) (option_and_then recorder_in found) true)) (sym (slice_get_past c.args.objects.now.items c.args.stand.encoder past))

pub returns-clause-noted : goal.returns-clause-noted
returns-clause-noted c =
    let within : c.args.stand.encoder < length c.args.objects.now.items = omega (arith, c.len.ensures, c.if-index-len.false) in
    let is : slice_get c.args.objects.now.items c.args.stand.encoder ≡ Some c.index_mut.result.now
    = slice_get_read c.args.objects.now.items (length c.args.objects.now.items) c.args.stand.encoder c.index_mut.result.now refl within c.index_mut.ensures.value in
    subst (λ (found : Option Object). IfOk c.record_in.result (λ answer. answer ≡ noted (option_map_or (is_late_by c.args.stand.on) (option_and_then recorder_in found) true))) (sym is) c.record_in.ensures.noted

pub returns-clause-after : goal.returns-clause-after
returns-clause-after c =
    let within : c.args.stand.encoder < length c.args.objects.now.items = omega (arith, c.len.ensures, c.if-index-len.false) in
    let is : slice_get c.args.objects.now.items c.args.stand.encoder ≡ Some c.index_mut.result.now
    = slice_get_read c.args.objects.now.items (length c.args.objects.now.items) c.args.stand.encoder c.index_mut.result.now refl within c.index_mut.ensures.value in
    let set = slice_set c.args.objects.now.items c.args.stand.encoder in
    let after = λ (x : Object). changed x (recorded_by c.args.stand.on c.args.command) in
    subst (λ (found : Option Object). OnOk c.record_in.result (set c.record_in.new.object ≡ option_map_or (λ x. set (after x)) found c.args.objects.now.items)) (sym is)
    (on_ok_weaker c.record_in.result (λ e. ap set e) c.record_in.ensures.after)
