-- A tracker after one more step.
use Rattle.std.proofs.Common.{◌≡◌, Bool, true, false, not, ◌&&◌, ◌||◌, List, [], ◌∷◌, ◌++◌, refl, ap, ap₂, sym, ◌∙◌, subst, append_assoc, append-nil, if◌then◌else◌, true≢false}
use Rattle.std.proofs.lemmas.Bool.{and_parts}
use Rattle.wg_trace.specs.declared.steps.Deed.{Deed}
use Rattle.wg_trace.specs.declared.steps.StepName.TheVariants.{Clear}
use Rattle.wg_rows.specs.Runs.{Cells, Cell, PartRun, covers}
use Rattle.wg_rows.specs.Uses.{AccessKind, Write, Usages, same_kind, row_reads, row_writes, row_unsets}
use Rattle.wg_rows.specs.Sets.{UseRow, sets}
use Rattle.wg_orders.specs.Steps.{Step, StepPlace, reads, writes, unsets, placed}
use Rattle.wg_orders.specs.Trace.{clear_of, cells_of, needs}
use Rattle.wg_cbtrack.specs.Cleared.{uses_of, written}
use Rattle.wg_cbtrack.specs.declared.kept.Kept.{Kept}
use Rattle.wg_cbtrack.specs.Group.{placed_all, left, left_cells, clear_steps}
use Rattle.wg_cbtrack.specs.Join.{inner_changes, opens, used_after}
use Rattle.wg_cbtrack.specs.Items.{inner_steps, AreKept, noted}
use Rattle.wg_cbtrack.specs.Track.{inside_at, IsTrack}
use Rattle.wg_cbtrack.specs.Next.{clear_deed, IsKept, WithClear, AreMore, AreCells}
use Rattle.wg_rows.proofs.Told.{accesses_printed}
use Rattle.wg_orders.proofs.Built.{step_read_among}
use Rattle.wg_orders.proofs.Clears.{has_cell, write_rows, clear_writes, clear_unsets}
use Rattle.wg_init.proofs.UnsetCells.{filter_has, write_has, write_fit, alike_at_cells}
use Rattle.wg_cbtrack.proofs.Clearing.{clear_uses, none_cleared, written_more, needs_more}
use Rattle.wg_cbtrack.proofs.Split.{left_more}
use Rattle.wg_cbtrack.proofs.Items.{kept_more, steps_more}

pub placed_more : (place : StepPlace) (deeds : List Deed) (d : Deed) → placed_all place (deeds ++ d ∷ []) ≡ placed_all place deeds ++ placed place d ∷ []
placed_more place [] d = refl
placed_more place (x ∷ deeds) d = ap (λ steps. placed place x ∷ steps) (placed_more place deeds d)

-- The cells that a clear inside clears.
left_has : (inner : List Step) (s : Step) (c : Cell) → has_cell c (left_cells inner s) ≡ (reads s c && left inner c)
left_has inner s c = filter_has (λ c. reads s c && left inner c) (cells_of (s ∷ [])) c ∙ by_reads (reads s c) refl
  where
    and_true : (b : Bool) → (b && true) ≡ b
    and_true true = refl
    and_true false = refl

    by_reads : (r : Bool) → reads s c ≡ r → ((r && left inner c) && has_cell c (cells_of (s ∷ []))) ≡ (r && left inner c)
    by_reads true e = ap (λ b. left inner c && b) (step_read_among s c e) ∙ and_true (left inner c)
    by_reads false e = refl

-- What is left unset was written.
left_written : (c : Cell) (steps done : List Step) → (left done c ≡ true → written done c ≡ true) → left (done ++ steps) c ≡ true → written (done ++ steps) c ≡ true
left_written c [] done h e = subst (λ xs. written xs c ≡ true) (sym (append-nil done)) (h (subst (λ xs. left xs c ≡ true) (append-nil done) e))
left_written c (s ∷ steps) done h e = subst (λ xs. written xs c ≡ true) (append_assoc done (s ∷ []) steps) (left_written c steps (done ++ s ∷ []) (λ k. written_more c done s ∙ by_writes (writes s c) (sym (left_more c done s) ∙ k)) (subst (λ xs. left xs c ≡ true) (sym (append_assoc done (s ∷ []) steps)) e))
  where
    by_writes : (w : Bool) → (if w then unsets s c else left done c) ≡ true → (w || written done c) ≡ true
    by_writes true k = refl
    by_writes false k = h k

-- Clears inside write nothing that no step before wrote.
written_append : (c : Cell) (xs ys : List Step) → written (xs ++ ys) c ≡ (written xs c || written ys c)
written_append c [] ys = refl
written_append c (x ∷ xs) ys = ap (λ b. writes x c || b) (written_append c xs ys) ∙ assoc (writes x c) (written xs c) (written ys c)
  where
    assoc : (a b d : Bool) → (a || (b || d)) ≡ ((a || b) || d)
    assoc true b d = refl
    assoc false b d = refl

clear_written : (c : Cell) (place : StepPlace) (inner : List Step) (s : Step) → written (inner ++ clear_steps place (left_cells inner s)) c ≡ written inner c
clear_written c place inner s = by_cells (left_cells inner s) (λ e. left_written c inner [] (λ k. absurd (true≢false (sym k))) (and_parts (reads s c) (left inner c) (sym (left_has inner s c) ∙ e)).1)
  where
    by_cells : (cells : List Cell) → (has_cell c cells ≡ true → written inner c ≡ true) → written (inner ++ clear_steps place cells) c ≡ written inner c
    by_cells [] h = ap (λ xs. written xs c) (append-nil inner)
    by_cells (x ∷ cells) h = written_more c inner (clear_of place (x ∷ cells)) ∙ (ap (λ b. b || written inner c) (clear_writes place (x ∷ cells) c) ∙ by_has (has_cell c (x ∷ cells)) h)
      where
        by_has : (b : Bool) → (b ≡ true → written inner c ≡ true) → (b || written inner c) ≡ written inner c
        by_has true k = sym (k refl)
        by_has false k = refl

inner_written : (c : Cell) (steps inner : List Step) → written (inner ++ inner_steps inner steps) c ≡ written (inner ++ steps) c
inner_written c [] inner = refl
inner_written c (s ∷ steps) inner =
    ap (λ xs. written xs c) (sym (append_assoc inner (clear_steps s.place (left_cells inner s)) (s ∷ rest)) ∙ sym (append_assoc before (s ∷ []) rest))
    ∙ (inner_written c steps (before ++ s ∷ [])
    ∙ (written_append c (before ++ s ∷ []) steps
    ∙ (ap (λ b. b || written steps c) (written_append c before (s ∷ []) ∙ (ap (λ b. b || written (s ∷ []) c) (clear_written c s.place inner s) ∙ sym (written_append c inner (s ∷ []))))
    ∙ (sym (written_append c (inner ++ s ∷ []) steps)
    ∙ ap (λ xs. written xs c) (append_assoc inner (s ∷ []) steps)))))
  where
    before : List Step
    before = inner ++ clear_steps s.place (left_cells inner s)

    rest : List Step
    rest = inner_steps (before ++ s ∷ []) steps

-- The rows that are found are the clear inside.
clear_is : (place : StepPlace) (deeds : List Deed) (d : Deed) (kept : List Kept) (ends : List UseRow) (wants leaves clear wants_after leaves_after : List (Cells × AccessKind)) → IsTrack deeds kept ends wants leaves → AreCells wants leaves d.accesses clear wants_after leaves_after → clear ≡ (clear_of place (left_cells (inside_at place deeds) (placed place d))).accesses
unfolding covers reads
clear_is place deeds d kept ends wants leaves clear wants_after leaves_after track cells = accesses_printed clear (write_rows (left_cells (inside_at place deeds) (placed place d))) (write_fit (left_cells (inside_at place deeds) (placed place d))) cells.apart (alike_at_cells clear (write_rows (left_cells (inside_at place deeds) (placed place d))) (λ c v. cells.clear c v ∙ (ap (λ t. (row_reads c d.accesses && t) && same_kind v Write) (track.unsets place c) ∙ (ap (λ t. t && same_kind v Write) (sym (left_has (inside_at place deeds) (placed place d) c)) ∙ sym (write_has (left_cells (inside_at place deeds) (placed place d)) c v)))))

-- What is kept of one more step.
one_more : (place : StepPlace) (inner end after : List UseRow) (steps : List Step) (kept : List Kept) (s : Step) (deed : Deed) (is_noted : Bool) (k : Kept) → AreKept place inner steps kept end → placed place deed ≡ s → IsKept end deed is_noted k after → AreKept place inner (steps ++ s ∷ []) (kept ++ k ∷ []) after
one_more place inner end after steps kept s deed is_noted k h e is = subst (AreKept place inner (steps ++ s ∷ []) (kept ++ k ∷ [])) (sym (is.after ∙ ap (λ (t : Step). used_after (sets t.uses) end) e)) (kept_more place inner end steps kept s k h (ap (placed place) is.deed ∙ e) (is.changes ∙ ap (λ (t : Step). inner_changes end (sets t.uses)) e) (is.first ∙ ap (λ (t : Step). opens end (sets t.uses)) e))

more_kept : (place : StepPlace) (steps : List Step) (kept more : List Kept) (ends after : List UseRow) (s : Step) (d : Deed) (cells : List Cell) (rows : List (Cells × AccessKind)) → placed place d ≡ s → rows ≡ (clear_of place cells).accesses → AreKept place [] steps kept ends → AreMore ends rows d more after → AreKept place [] (steps ++ (clear_steps place cells ++ s ∷ [])) (kept ++ more) after
more_kept place steps kept more ends after s d [] [] p e h m = subst (λ xs. AreKept place [] (steps ++ s ∷ []) (kept ++ xs) after) (sym m.more) (one_more place [] ends after steps kept s d true m.step h p m.steps)
more_kept place steps kept more ends after s d (c ∷ cells) [] p e h m = absurd (none_cleared_more (none_cleared place (c ∷ cells) (sym e)))
  where
    none_cleared_more : c ∷ cells ≡ [] → ⊥
    none_cleared_more k = absurd (cc)
more_kept place steps kept more ends after s d [] (x ∷ rows) p e h m = absurd (cc)
more_kept place steps kept more ends after s d (c ∷ cells) (x ∷ rows) p e h m =
    subst (λ xs. AreKept place [] (steps ++ (clear_of place (c ∷ cells) ∷ (s ∷ []))) (kept ++ xs) after) (sym m.more)
    (subst (λ xs. AreKept place [] xs (kept ++ (m.clear ∷ (m.step ∷ []))) after) (append_assoc steps (clear_of place (c ∷ cells) ∷ []) (s ∷ []))
    (subst (λ xs. AreKept place [] ((steps ++ clear_of place (c ∷ cells) ∷ []) ++ s ∷ []) xs after) (append_assoc kept (m.clear ∷ []) (m.step ∷ []))
    (one_more place [] m.mid after (steps ++ clear_of place (c ∷ cells) ∷ []) (kept ++ m.clear ∷ []) s d true m.step (one_more place [] ends m.mid steps kept (clear_of place (c ∷ cells)) (clear_deed (x ∷ rows)) false m.clear h clear m.clears) p m.steps)))
  where
    clear : placed place (clear_deed (x ∷ rows)) ≡ clear_of place (c ∷ cells)
    clear = ap (λ (rows : List (Cells × AccessKind)). record { place = place; name = Clear; uses = uses_of rows; accesses = rows }) e ∙ ap (λ (uses : List (PartRun × Usages)). record { place = place; name = Clear; uses = uses; accesses = (clear_of place (c ∷ cells)).accesses }) (clear_uses place (c ∷ cells))

-- A tracker with one more step noted.
pub track_next : (deeds : List Deed) (d : Deed) (kept more : List Kept) (ends after : List UseRow) (wants leaves clear wants_after leaves_after : List (Cells × AccessKind)) → IsTrack deeds kept ends wants leaves → AreCells wants leaves d.accesses clear wants_after leaves_after → AreMore ends clear d more after → IsTrack (deeds ++ d ∷ []) (kept ++ more) after wants_after leaves_after
unfolding reads writes unsets
track_next deeds d kept more ends after wants leaves clear wants_after leaves_after track cells are = record {
  kept = λ place. subst (λ xs. AreKept place [] xs (kept ++ more) after) (sym (inside_more place)) (more_kept place (inside_at place deeds) kept more ends after (placed place d) d (left_cells (inside_at place deeds) (placed place d)) clear refl (clear_is place deeds d kept ends wants leaves clear wants_after leaves_after track cells) (track.kept place) are);
  needs = λ place c. cells.wants c ∙ (ap₂ (λ (n w : Bool). n || (not w && row_reads c d.accesses)) (track.needs place c) (track.writes place c ∙ inner_written c (placed_all place deeds) []) ∙ (sym (needs_more c (placed_all place deeds) (placed place d)) ∙ ap (λ xs. needs xs c) (sym (placed_more place deeds d))));
  writes = λ place c. cells.writes c ∙ (ap (λ w. row_writes c d.accesses || w) (track.writes place c ∙ sym (clear_written c place (inside_at place deeds) (placed place d))) ∙ (sym (written_more c (before place) (placed place d)) ∙ ap (λ xs. written xs c) (sym (whole place))));
  unsets = λ place c. cells.unsets c ∙ (ap (λ u. if row_writes c d.accesses then row_unsets c d.accesses else (if row_reads c d.accesses && u then false else u)) (track.unsets place c) ∙ (ap (λ u. if row_writes c d.accesses then row_unsets c d.accesses else u) (sym (cleared place c)) ∙ (sym (left_more c (before place) (placed place d)) ∙ ap (λ xs. left xs c) (sym (whole place)))));
  tidy = cells.tidy;
}
  where
    before : StepPlace → List Step
    before place = inside_at place deeds ++ clear_steps place (left_cells (inside_at place deeds) (placed place d))

    inside_more : (place : StepPlace) → inside_at place (deeds ++ d ∷ []) ≡ inside_at place deeds ++ (clear_steps place (left_cells (inside_at place deeds) (placed place d)) ++ placed place d ∷ [])
    inside_more place = ap (inner_steps []) (placed_more place deeds d) ∙ steps_more [] (placed_all place deeds) (placed place d)

    whole : (place : StepPlace) → inside_at place (deeds ++ d ∷ []) ≡ before place ++ placed place d ∷ []
    whole place = inside_more place ∙ sym (append_assoc (inside_at place deeds) (clear_steps place (left_cells (inside_at place deeds) (placed place d))) (placed place d ∷ []))

    cleared : (place : StepPlace) (c : Cell) → left (before place) c ≡ (if row_reads c d.accesses && left (inside_at place deeds) c then false else left (inside_at place deeds) c)
    cleared place c = by_cells (left_cells (inside_at place deeds) (placed place d)) ∙ ap (λ b. if b then false else left (inside_at place deeds) c) (left_has (inside_at place deeds) (placed place d) c)
      where
        by_cells : (xs : List Cell) → left (inside_at place deeds ++ clear_steps place xs) c ≡ (if has_cell c xs then false else left (inside_at place deeds) c)
        by_cells [] = ap (λ ys. left ys c) (append-nil (inside_at place deeds))
        by_cells (x ∷ xs) = left_more c (inside_at place deeds) (clear_of place (x ∷ xs)) ∙ ap₂ (λ (w u : Bool). if w then u else left (inside_at place deeds) c) (clear_writes place (x ∷ xs) c) (clear_unsets place (x ∷ xs) c)

-- What was noted grows by the step alone.
noted_append : (xs ys : List Kept) → noted (xs ++ ys) ≡ noted xs ++ noted ys
noted_append [] ys = refl
noted_append (x ∷ xs) ys = by_noted x.is_noted (noted_append xs ys)
  where
    by_noted : (b : Bool) → noted (xs ++ ys) ≡ noted xs ++ noted ys → (if b then x.deed ∷ noted (xs ++ ys) else noted (xs ++ ys)) ≡ (if b then x.deed ∷ noted xs else noted xs) ++ noted ys
    by_noted true h = ap (λ ds. x.deed ∷ ds) h
    by_noted false h = h

one_noted : (ends after : List UseRow) (d : Deed) (k : Kept) → IsKept ends d true k after → noted (k ∷ []) ≡ d ∷ []
one_noted ends after d k is = ap₂ (λ (b : Bool) (x : Deed). if b then x ∷ [] else []) is.is_noted is.deed

none_noted : (ends after : List UseRow) (d : Deed) (k : Kept) (more : List Kept) → IsKept ends d false k after → noted (k ∷ more) ≡ noted more
none_noted ends after d k more is = ap (λ (b : Bool). if b then k.deed ∷ noted more else noted more) is.is_noted

pub more_noted : (ends after : List UseRow) (rows : List (Cells × AccessKind)) (d : Deed) (more : List Kept) → AreMore ends rows d more after → noted more ≡ d ∷ []
more_noted ends after [] d more m = ap noted m.more ∙ one_noted ends after d m.step m.steps
more_noted ends after (x ∷ rows) d more m = ap noted m.more ∙ (none_noted ends m.mid (clear_deed (x ∷ rows)) m.clear (m.step ∷ []) m.clears ∙ one_noted m.mid after d m.step m.steps)

pub noted_more : (ends after : List UseRow) (rows : List (Cells × AccessKind)) (d : Deed) (deeds : List Deed) (held more : List Kept) → AreMore ends rows d more after → deeds ≡ noted held → noted (held ++ more) ≡ deeds ++ d ∷ []
noted_more ends after rows d deeds held more m e = noted_append held more ∙ ap₂ (λ (xs ys : List Deed). xs ++ ys) (sym e) (more_noted ends after rows d more m)

pub are_more : (ends after : List UseRow) (rows : List (Cells × AccessKind)) (d : Deed) (more : List Kept) → (rows ≡ [] → ⊥) → WithClear ends rows d more after → AreMore ends rows d more after
are_more ends after [] d more some m = absurd (some refl)
are_more ends after (x ∷ rows) d more some m = m
