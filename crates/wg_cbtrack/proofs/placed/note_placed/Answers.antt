use Rattle.std.proofs.Common.{◌≡◌, ◌∙◌, ◌++◌, ◌∷◌, [], true, refl, ap, sym, subst}
use Rattle.wg_rows.specs.Rows.{Apart}
use Rattle.wg_rows.specs.Runs.{part_sort, cell_sort}
use Rattle.wg_rows.specs.Cut.{put_all}
use Rattle.wg_rows.specs.Uses.{Read, same_kind}
use Rattle.wg_cbtrack.specs.declared.kept.Kept.{Kept}
use Rattle.wg_cbtrack.specs.Join.{used_after}
use Rattle.wg_cbtrack.specs.Items.{noted}
use Rattle.wg_cbtrack.specs.Leaves.{AllOf, left_after}
use Rattle.wg_cbtrack.specs.Track.{Holds}
use Rattle.wg_cbtrack.specs.Next.{AreMore}
use Rattle.wg_cbtrack.specs.Placed.{AreReads}
use Rattle.wg_cbtrack.proofs.Nearby.{ends_apart}
use Rattle.wg_cbtrack.proofs.Opening.{alone_same}
use Rattle.wg_cbtrack.proofs.Placing.{PlacedRows, opened_apart, placed_more, placed_noted, placed_holds}
use Rattle.wg_cbtrack.proofs.placed.note_placed.Goals as goal

pub put_placed-requires-clause-ends : goal.put_placed-requires-clause-ends
put_placed-requires-clause-ends c = subst (Apart part_sort) (sym c.make_room.ensures.same.ends) (ends_apart (noted c.args.kept.now.items) c.args.kept.now.items c.args.rows.now.ends.items c.args.rows.now.wants.items c.args.rows.now.leaves.items c.requires.holds.track)

pub put_placed-requires-clause-wants : goal.put_placed-requires-clause-wants
put_placed-requires-clause-wants c = subst (AllOf Read) (sym c.make_room.ensures.same.wants) c.requires.holds.track.tidy.reads

pub put_placed-requires-clause-opened : goal.put_placed-requires-clause-opened
put_placed-requires-clause-opened c = subst (Apart part_sort) (sym c.as_slice-4.ensures.value) (opened_apart c.args.rows.now.starts.items c.args.deed.uses c.args.found.opened.items c.requires.holds.seen.starts.apart c.requires.placed.apart c.requires.placed.opened_are)

pub put_placed-requires-clause-reads : goal.put_placed-requires-clause-reads
put_placed-requires-clause-reads c = subst AreReads (sym c.as_slice-5.ensures.value) c.requires.placed.reads

pub put_placed-requires-clause-alone : goal.put_placed-requires-clause-alone
put_placed-requires-clause-alone c = λ t. alone_same c.args.rows.now.ends.items c.args.rows.now.starts.items c.args.rows.now.last.items c.args.deed.uses c.args.found.opened.items c.make_room.new.rows.ends.items c.make_room.new.rows.starts.items c.make_room.new.rows.last.items c.as_slice-3.result.now c.as_slice-4.result.now c.make_room.ensures.same.ends c.make_room.ensures.same.starts c.make_room.ensures.same.last c.as_slice-3.ensures c.as_slice-4.ensures.value (c.requires.alone t)

-- What is kept of the step,
abbrev step : goal.After-drop-opened-2 → Kept
step c = record { deed = c.args.deed; changes = c.from_vec.result; first = c.from_vec-2.result; is_noted = true }

-- the rows after it,
after : (c : goal.After-drop-opened-2) → PlacedRows c.args.rows.now c.put_placed.new.rows c.args.deed c.args.found.opened.items c.args.found.pieces.items
after c = record {
  ends = c.put_placed.ensures.ends ∙ (ap (λ us. used_after us c.make_room.new.rows.ends.items) c.as_slice-3.ensures ∙ ap (used_after c.args.deed.uses) c.make_room.ensures.same.ends);
  last = c.put_placed.ensures.last ∙ (ap (λ us. used_after us c.make_room.new.rows.last.items) c.as_slice-3.ensures ∙ ap (used_after c.args.deed.uses) c.make_room.ensures.same.last);
  starts = c.put_placed.ensures.starts ∙ (ap (λ us. used_after us c.make_room.new.rows.starts.items) c.as_slice-4.ensures.value ∙ ap (used_after c.args.found.opened.items) c.make_room.ensures.same.starts);
  wants = c.put_placed.ensures.wants ∙ (ap (λ ps. put_all cell_sort same_kind ps c.make_room.new.rows.wants.items) c.as_slice-5.ensures.value ∙ ap (put_all cell_sort same_kind c.args.found.pieces.items) c.make_room.ensures.same.wants);
  needs = c.put_placed.ensures.needs;
  leaves = c.put_placed.ensures.leaves ∙ (ap (λ xs. left_after xs c.make_room.new.rows.leaves.items) c.as_slice-6.ensures ∙ ap (left_after c.args.deed.accesses) c.make_room.ensures.same.leaves);
}

-- and that it follows what was kept.
more : (c : goal.After-drop-opened-2) → AreMore c.args.rows.now.ends.items [] c.args.deed (step c ∷ []) c.put_placed.new.rows.ends.items
more c = placed_more c.args.rows.now c.put_placed.new.rows (step c) c.args.deed c.args.found.changes.items c.args.found.first.items c.args.found.opened.items c.args.found.pieces.items refl c.from_vec.ensures c.from_vec-2.ensures refl c.requires.placed (after c)

held : (c : goal.After-drop-opened-2) → c.push_reserved.new.self.items ≡ c.args.kept.now.items ++ step c ∷ []
held c = c.push_reserved.ensures.items ∙ ap (λ xs. xs ++ step c ∷ []) c.reserve.ensures.items

pub returns-clause-holds : goal.returns-clause-holds
returns-clause-holds c = subst (λ xs. Holds (noted xs) xs c.put_placed.new.rows) (sym (held c)) (placed_holds c.args.rows.now c.put_placed.new.rows c.args.kept.now.items (step c) c.args.deed c.args.found.changes.items c.args.found.first.items c.args.found.opened.items c.args.found.pieces.items c.requires.holds c.requires.placed (after c) (more c))

pub returns-clause-noted : goal.returns-clause-noted
returns-clause-noted c = ap noted (held c) ∙ placed_noted c.args.rows.now c.put_placed.new.rows c.args.kept.now.items (step c) c.args.deed (more c)
