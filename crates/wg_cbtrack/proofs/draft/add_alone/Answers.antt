use Rattle.std.proofs.Common.{◌∙◌, [], ◌∷◌, ap, sym, subst}
use Rattle.wg_orders.specs.Trace.{add_clear, to_clear}
use Rattle.wg_bars.specs.Kept.{with_notes}
use Rattle.wg_init.specs.Unset.{unset_rows}
use Rattle.wg_cbtrack.specs.Stands.{TrackerValue, tracker_of}
use Rattle.wg_cbtrack.specs.Cleared.{AreNeeded}
use Rattle.wg_cbtrack.proofs.Tracked.{wants_needed}
use Rattle.wg_cbtrack.proofs.Single.{reads_alone, alone_added}
use Rattle.wg_cbtrack.proofs.draft.add_alone.Goals as goal

pub returns : goal.returns
returns c = λ f h.
    let t : TrackerValue = tracker_of c.args.last_rows.now c.args.set_rows.now in
    let rows = c.in_ok-rows.ensures ∙ ap (unset_rows (with_notes c.args.set_rows.now.items c.args.draft.cells)) c.as_slice.ensures in
    let needed : AreNeeded (with_notes c.args.set_rows.now.items c.args.draft.cells) (c.args.step ∷ []) c.in_ok-rows.rows.items = subst (AreNeeded (with_notes c.args.set_rows.now.items c.args.draft.cells) (c.args.step ∷ [])) (sym rows) (wants_needed (with_notes c.args.set_rows.now.items c.args.draft.cells) (c.args.step ∷ []) c.args.step.accesses (reads_alone c.args.step)) in
    alone_added t c.in_ok-added.added c.args.step f (c.in_ok-added.ensures (λ trace. add_clear (f trace) c.args.step.place (to_clear (f trace) (c.args.step ∷ []))) (c.in_ok-cleared.ensures f (c.args.step ∷ []) needed h))
