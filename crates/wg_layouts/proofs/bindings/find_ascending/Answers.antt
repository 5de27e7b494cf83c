use Rattle.std.proofs.Common.{◌≡◌, ◌<◌, true, ◌∙◌, length, ◌/◌, arith}
use Rattle.wg_types.specs.Bindings.{entry_of}
use Rattle.wg_layouts.specs.Ascending.{ascends_from}
use Rattle.wg_layouts.proofs.Found.{found_there, found_after, found_before}
use Rattle.wg_layouts.proofs.bindings.find_ascending.Goals as goal

pub returns-then-entry-binding : goal.returns-then-entry-binding
returns-then-entry-binding c =
    found_there (length c.loop-rest.rest.now / 2) c.loop-rest.rest.now c.split_at.result.1.now c.in-Some.entry.now c.in-Some.after.now c.args.binding c.split_at.ensures.back c.in-Some.ensures.cases.0 c.loop-rest.invariant.0 c.if-entry-binding.true
    ∙ c.loop-rest.invariant.1

pub loop-rest-preserved-then-entry-binding-2 : goal.loop-rest-preserved-then-entry-binding-2
loop-rest-preserved-then-entry-binding-2 c =
    let found : (ascends_from 0 c.in-Some.after.now ≡ true) × (entry_of c.in-Some.after.now c.args.binding ≡ entry_of c.loop-rest.rest.now c.args.binding)
    = found_after (length c.loop-rest.rest.now / 2) c.loop-rest.rest.now c.split_at.result.1.now c.in-Some.entry.now c.in-Some.after.now c.args.binding c.split_at.ensures.back c.in-Some.ensures.cases.0 c.loop-rest.invariant.0 c.if-entry-binding-2.true in
    (found.0, found.1 ∙ c.loop-rest.invariant.1)

pub loop-rest-preserved : goal.loop-rest-preserved
loop-rest-preserved c =
    let below : c.args.binding < c.in-Some.entry.now.binding = omega (arith, c.if-entry-binding.false, c.if-entry-binding-2.false) in
    let found : (ascends_from 0 c.split_at.result.0.now ≡ true) × (entry_of c.split_at.result.0.now c.args.binding ≡ entry_of c.loop-rest.rest.now c.args.binding)
    = found_before (length c.loop-rest.rest.now / 2) c.loop-rest.rest.now c.split_at.result.0.now c.split_at.result.1.now c.in-Some.entry.now c.in-Some.after.now c.args.binding c.split_at.ensures.front c.split_at.ensures.back c.in-Some.ensures.cases.0 c.loop-rest.invariant.0 below in
    (found.0, found.1 ∙ c.loop-rest.invariant.1)
