use Rattle.std.proofs.Common.{◌∙◌, ◌<◌, sym, subst₂}
use Rattle.std.proofs.lemmas.Bool.{lt-ltb}
use Rattle.wg_rows.specs.Runs.{cell_lo, cell_hi}
use Rattle.wg_bars.proofs.Here.{none_added, note_kept}
use Rattle.wg_init.proofs.Notes.{one_noted, same_noted}
use Rattle.wg_init.proofs.noting.note_one.Goals as goal

pub returns-clause-notes : goal.returns-clause-notes
returns-clause-notes c =
    let not_empty = c.if-cell_hi-cell_lo.false in
    let full : cell_lo c.args.access.0 < cell_hi c.args.access.0 = subst₂ (λ a b. a < b) c.cell_lo.ensures c.cell_hi.ensures not_empty in
    let row = c.row_of.ensures in
    let object = c.row_object-object.ensures in
    let rows_before = c.in-Some.ensures.over in
    let rows = c.in_ok-changed.ensures in
    let held = c.from_vec.ensures in
    let set = rw row at (rw object at c.in_ok-set_note.ensures.set) in
    one_noted c.args.kept.now.items c.args.fresh.now c.set_note.new.notes c.args.access c.from_vec.result (sym c.writes.ensures ∙ c.if-not-writes.false) (lt-ltb (cell_lo c.args.access.0) (cell_hi c.args.access.0) full) (cc) set

pub returns-clause-here : goal.returns-clause-here
returns-clause-here c = note_kept c.args.kept.now c.args.fresh.now c.args.fresh.now c.set_note.new.notes c.row_object-object.result (none_added c.args.kept.now c.args.fresh.now) c.in-Some.ensures.here c.in_ok-set_note.ensures.added

pub returns-then-sets_what_is_set-clause-notes : goal.returns-then-sets_what_is_set-clause-notes
returns-then-sets_what_is_set-clause-notes c =
    let row = c.row_of.ensures in
    let object = c.row_object-object.ensures in
    let rows_before = rw row at (rw object at c.in-Some.ensures.over) in
    let same = c.sets_what_is_set.ensures.same c.if-sets_what_is_set.true in
    same_noted c.args.kept.now.items c.args.fresh.now c.args.access (rw rows_before at same)
