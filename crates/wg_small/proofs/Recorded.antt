-- The steps of command buffers name objects that were made.
use Rattle.std.proofs.Common.{◌≡◌, ℕ, suc, ◌<◌, ◌≤◌, ◌&&◌, ◌||◌, List, [], ◌∷◌, map, Bool, true, false, nat_lt, nat_le, Option, Some, None, refl, sym, ◌∙◌, subst, arith, slice_get, if◌then◌else◌, length, true≢false}
use Rattle.std.specs.Option.{option_map_or}
use Rattle.std.proofs.lemmas.Bool.{and_from, or_right, ltb-true, lt-ltb, le-leb}
use Rattle.wg_trace.specs.declared.parts.AccessKind.{AccessKind}
use Rattle.wg_trace.specs.declared.steps.StepPlace.TheVariants.{Op}
use Rattle.wg_trace.specs.declared.steps.Deed.{Deed}
use Rattle.wg_rows.specs.Rows.{EachRow, in_range}
use Rattle.wg_rows.specs.Runs.{PartRun, Part, Cell, Byte, Texels, Slice, Query, Cells, Bytes, Layers, Slices, Queries, part_of, object_of, run_part, run_object, cell_line, covers, covers_part}
use Rattle.wg_rows.specs.Uses.{Usages, Read, Write, Both, Drop, ReadDrop, kind_reads, kind_writes, row_reads, row_writes, row_set, with_usage}
use Rattle.wg_orders.specs.Steps.{Step, reads, writes, set_of, IsDeclared}
use Rattle.wg_orders.specs.Laws.{Unused}
use Rattle.wg_model.specs.Touches.{placed}
use Rattle.wg_model.specs.Recorded.{uses_resource}
use Rattle.wg_model.specs.Walk.{DeedsOf}
use Rattle.wg_model.proofs.Sparing.{recorded_spare}
use Rattle.wg_model.proofs.StepLaws.{recorded_are_declared}
use Rattle.wg_encoder.specs.Recorders.{RecordingValue}
use Rattle.wg_history.specs.declared.events.Setup.{Setup}
use Rattle.wg_history.specs.Entries.{Entry, Past, recording_in, recorded_by, deeds_by}
use Rattle.wg_history.specs.Objects.{maker, is_valid}
use Rattle.wg_history.specs.Answers.{IsRun}
use Rattle.wg_history.specs.Steps.{steps_at}
use Rattle.wg_history.proofs.Unborn.{valid_unused}
use Rattle.wg_readback.specs.Shapes.{HasCell, IsShapedUse, IsShapedAccess, IsFilledStep}
use Rattle.wg_shaped.proofs.Touched.{recorded_filled}
use Rattle.wg_small.specs.Small.{IsPlaceWithin, IsPartWithin, AreCellsWithin}
use Rattle.wg_small.proofs.Tracing.{IsSaid}
use Rattle.wg_small.proofs.Objects.{within, first_part, first_object, first_covered, count_le, line_same, not_less}

-- No part of the objects from this one on is used.
abbrev SparesFrom : ℕ → List (PartRun × Usages) → Type 0
SparesFrom most rows = (p : Part) → most ≤ object_of p → row_set p rows ≡ None

uses_within : (most : ℕ) (rows : List (PartRun × Usages)) → SparesFrom most rows → EachRow IsShapedUse rows → EachRow (λ (row : PartRun × Usages). IsPartWithin most row.0) rows
uses_within most [] spares full = tt
uses_within most (row ∷ rows) spares full = (by_less (nat_lt (run_object row.0) most) refl, uses_within most rows (λ p le. later p (covers_part row.0 p) (spares p le)) full.1)
  where
    later : (p : Part) (b : Bool) → (if b then Some (with_usage row.1 (row_set p rows)) else row_set p rows) ≡ None → row_set p rows ≡ None
    later p true e = absurd (cc)
    later p false e = e

    set_first : (b : Bool) → b ≡ true → (if b then Some (with_usage row.1 (row_set (first_part row.0) rows)) else row_set (first_part row.0) rows) ≡ None → ⊥
    set_first true c e = cc
    set_first false c e = absurd (cc)

    by_less : (b : Bool) → nat_lt (run_object row.0) most ≡ b → run_object row.0 < most
    by_less true e = ltb-true (run_object row.0) most e
    by_less false e =
        absurd (set_first (covers_part row.0 (first_part row.0)) (first_covered row.0 full.0.0)
        (spares (first_part row.0) (subst (λ (n : ℕ). most ≤ n) (sym (first_object row.0)) (not_less (run_object row.0) most e))))

-- the cell at which a run begins
first_cell : Cells → Cell
first_cell (Bytes object lo hi) = Byte object lo
first_cell (Layers object aspect mip lo hi) = Texels object aspect mip lo
first_cell (Slices object mip lo hi) = Slice object mip lo
first_cell (Queries object lo hi) = Query object lo

cell_object : (run : Cells) → object_of (part_of (first_cell run)) ≡ run_object (run_part run)
unfolding first_cell
cell_object (Bytes object lo hi) = refl
cell_object (Layers object aspect mip lo hi) = refl
cell_object (Slices object mip lo hi) = refl
cell_object (Queries object lo hi) = refl

begins : (lo hi : ℕ) → lo < hi → in_range lo hi lo ≡ true
begins lo hi h = and_from (nat_le lo lo) (nat_lt lo hi) (le-leb lo lo (omega arith)) (lt-ltb lo hi h)

cell_covered : (run : Cells) → HasCell run → covers run (first_cell run) ≡ true
unfolding covers first_cell
cell_covered (Bytes object lo hi) h = and_from _ (in_range lo hi lo) (line_same (cell_line (Bytes object lo hi))) (begins lo hi h)
cell_covered (Layers object aspect mip lo hi) h = and_from _ (in_range lo hi lo) (line_same (cell_line (Layers object aspect mip lo hi))) (begins lo hi h)
cell_covered (Slices object mip lo hi) h = and_from _ (in_range lo hi lo) (line_same (cell_line (Slices object mip lo hi))) (begins lo hi h)
cell_covered (Queries object lo hi) h = and_from _ (in_range lo hi lo) (line_same (cell_line (Queries object lo hi))) (begins lo hi h)

-- Each kind of access reads or writes.
abbrev AreOf : ℕ → List (Cells × AccessKind) → Type 0
AreOf most rows = (c : Cell) → (row_reads c rows || row_writes c rows) ≡ true → object_of (part_of c) < most

reads_or_writes : (covered : Bool) (kind : AccessKind) (r w : Bool) → covered ≡ true → (((covered && kind_reads kind) || r) || ((covered && kind_writes kind) || w)) ≡ true
reads_or_writes true Read r w e = refl
reads_or_writes true Write r w e = or_right r true refl
reads_or_writes true Both r w e = refl
reads_or_writes true Drop r w e = or_right r true refl
reads_or_writes true ReadDrop r w e = refl
reads_or_writes false kind r w e = absurd (true≢false (sym e))

one_more : (a b r w : Bool) → (r || w) ≡ true → ((a || r) || (b || w)) ≡ true
one_more true b r w e = refl
one_more false true true w e = refl
one_more false true false w e = refl
one_more false false r w e = e

accesses_within : (most : ℕ) (rows : List (Cells × AccessKind)) → AreOf most rows → EachRow IsShapedAccess rows → EachRow (λ (row : Cells × AccessKind). AreCellsWithin most row.0) rows
accesses_within most [] are full = tt
accesses_within most (row ∷ rows) are full = (
  subst (λ (n : ℕ). n < most) (cell_object row.0) (are (first_cell row.0) (reads_or_writes (covers row.0 (first_cell row.0)) row.1 (row_reads (first_cell row.0) rows) (row_writes (first_cell row.0) rows) (cell_covered row.0 full.0))),
  accesses_within most rows (λ c e. are c (one_more (covers row.0 c && kind_reads row.1) (covers row.0 c && kind_writes row.1) (row_reads c rows) (row_writes c rows) e)) full.1,
)

-- A step that is declared and uses no part of later objects accesses none.
step_within : (most : ℕ) (step : Step) → IsPlaceWithin most step.place → IsDeclared step → ((p : Part) → most ≤ object_of p → set_of step p ≡ None) → IsFilledStep step → IsSaid (within most) step
unfolding set_of reads writes
step_within most step at declared spares filled = record {
  stands = at;
  uses = uses_within most step.uses spares filled.uses;
  accesses = accesses_within most step.accesses (λ c e. by_less c (nat_lt (object_of (part_of c)) most) refl (declared.used c e)) filled.accesses;
}
  where
    by_less : (c : Cell) (b : Bool) → nat_lt (object_of (part_of c)) most ≡ b → (set : Usages) × (row_set (part_of c) step.uses ≡ Some set) → object_of (part_of c) < most
    by_less c true e used = ltb-true (object_of (part_of c)) most e
    by_less c false e used = absurd (let none : row_set (part_of c) step.uses ≡ None = spares (part_of c) (not_less (object_of (part_of c)) most e) in let both : Some used.0 ≡ None = sym used.1 ∙ none in cc (both))

steps_within : (most op : ℕ) (deeds : List Deed) → op ≤ most → ((k : ℕ) (s : Step) → slice_get (map (placed (Op op)) deeds) k ≡ Some s → IsDeclared s) → ((n : ℕ) → most ≤ n → Unused n (map (placed (Op op)) deeds))
    → EachRow IsFilledStep (map (placed (Op op)) deeds) → EachRow (IsSaid (within most)) (map (placed (Op op)) deeds)
steps_within most op [] le declared unused filled = tt
steps_within most op (deed ∷ deeds) le declared unused filled = (
  step_within most (placed (Op op) deed) le (declared 0 (placed (Op op) deed) refl) (λ p more. unused (object_of p) more 0 (placed (Op op) deed) p refl refl) filled.0,
  steps_within most op deeds le (λ k s e. declared (suc k) s e) (λ n more k s p e o. unused n more (suc k) s p e o) filled.1,
)

made_within : (most op : ℕ) (o : Option Entry) → op ≤ most → ((n : ℕ) → most ≤ n → uses_resource (option_map_or (λ entry. recorded_by entry.event) o []) n ≡ false)
    → EachRow (IsSaid (within most)) (map (placed (Op op)) (option_map_or (λ entry. deeds_by entry.event) o []))
made_within most op None le unused = tt
made_within most op (Some entry) le unused = by_recording (recording_in entry.event) unused
  where
    by_recording : (o : Option RecordingValue) → ((n : ℕ) → most ≤ n → uses_resource (option_map_or (λ (recording : RecordingValue). recording.commands) o []) n ≡ false)
        → EachRow (IsSaid (within most)) (map (placed (Op op)) (option_map_or (λ (recording : RecordingValue). DeedsOf recording.maker recording.targets recording.commands) o []))
    by_recording None unused = tt
    by_recording (Some recording) unused =
        steps_within most op (DeedsOf recording.maker recording.targets recording.commands) le (λ k s e. (recorded_are_declared (Op op) recording.maker recording.targets recording.commands k s e).0)
        (λ n more. recorded_spare (Op op) recording.maker recording.targets recording.commands n (unused n more)) (recorded_filled (Op op) recording.maker recording.targets recording.commands)

pub valid_within : (setup : Setup) (past : Past) (most op b : ℕ) → IsRun setup past → length past ≤ most → op ≤ most → is_valid past b ≡ true → EachRow (IsSaid (within most)) (steps_at (Op op) past b)
valid_within setup past most op b run few le valid = made_within most op (maker past b) le (λ n more. valid_unused setup past b n run (let made = count_le past in omega (arith, made, few, more)) valid)
