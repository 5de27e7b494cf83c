use Rattle.std.proofs.Common.{◌++◌, ◌∷◌, List, map, reverse, ap, sym, subst, ◌∙◌, arith}
use Rattle.wg_trace.specs.declared.replies.Reply.{Reply}
use Rattle.wg_history.specs.Entries.{Entry}
use Rattle.wg_history.specs.Releases.{freed}
use Rattle.wg_orders.specs.Trace.{Item, steps_of, free}
use Rattle.wg_core.specs.Plans.{items_of}
use Rattle.wg_core.specs.Cores.{HasStepped}
use Rattle.wg_history.specs.Objects.{is_made_valid}
use Rattle.wg_core.proofs.Tracing.{tracked_next, answered_by}
use Rattle.wg_core.proofs.Rows.{next_rows}
use Rattle.wg_core.proofs.device.commit.Goals as goal

pub apply-requires-clause-ready : goal.apply-requires-clause-ready
apply-requires-clause-ready c = c.requires.prepared.planned.adds.ready

pub apply-requires-clause-room : goal.apply-requires-clause-room
apply-requires-clause-room c = let fits = c.requires.prepared.items_fit in omega (arith, fits)

pub make_row-requires : goal.make_row-requires
make_row-requires c = rw c.apply.ensures.spare c.requires.prepared.row

pub returns-clause-tracked : goal.returns-clause-tracked
returns-clause-tracked c =
    let entry : Entry = record { who = c.args.who; event = c.args.event; reply = c.args.ready.plan.reply } in
    rw c.add.ensures.setup
    (rw c.add.ensures.history
    (tracked_next c.args.state.now.setup c.args.state.now.history entry c.args.tracker.now c.make_row.new.tracker c.args.ready.plan.added c.args.ready.plan.made c.args.ready.plan.uses.items c.requires.tracked c.requires.prepared.planned
    (λ trace stands. c.make_row.ensures.stands (steps_of (trace ++ items_of c.args.ready.plan.added)) (c.apply.ensures.stands trace stands))))

pub returns-clause-rows : goal.returns-clause-rows
returns-clause-rows c =
    let entry : Entry = record { who = c.args.who; event = c.args.event; reply = c.args.ready.plan.reply } in
    rw c.add.ensures.history
    (rw c.add.ensures.gone
    (next_rows c.args.state.now.history c.args.state.now.gone entry c.args.ready.plan.made (is_made_valid c.args.ready.plan.reply.answer) c.args.tracker.now c.apply.new.tracker c.make_row.new.tracker c.requires.prepared.planned.made_is c.requires.rows
    c.apply.ensures.last c.apply.ensures.cells c.apply.ensures.last_gone c.apply.ensures.cells_gone
    c.make_row.ensures.last c.make_row.ensures.cells c.make_row.ensures.last_gone c.make_row.ensures.cells_gone))

pub returns-clause-answered : goal.returns-clause-answered
returns-clause-answered c =
    let entry : Entry = record { who = c.args.who; event = c.args.event; reply = c.args.ready.plan.reply } in
    subst (λ (reply : Reply). HasStepped c.args.state.now.setup c.args.state.now.history c.add.new.self.history c.args.who c.args.event reply c.args.items.now.items c.add.new.trace.items c.args.spent.now.handed c.add.new.spent.handed) (sym c.add.ensures.reply)
    (answered_by c.args.state.now.setup c.args.state.now.history c.add.new.self.history c.args.who c.args.event c.args.ready.plan.reply c.args.tracker.now c.args.ready.plan.added c.args.ready.plan.made c.args.ready.plan.uses.items _ _ _ _ c.args.state.now.run c.requires.tracked c.requires.prepared.planned c.add.ensures.history
    (c.add.ensures.trace ∙ ap (λ (items : List Item). items ++ map free (freed c.args.state.now.setup (entry ∷ reverse c.args.state.now.history))) c.apply.ensures.items) c.add.ensures.spent)
