-- What holds of all that a step touches holds of the rows of the step.
use Rattle.std.specs.Prelude.{Some, filter, cond}
use Rattle.std.proofs.Common.{◌≡◌, List, [], ◌∷◌, map, Bool, true, false, if◌then◌else◌, refl, sym, ◌∙◌}
use Rattle.wg_trace.specs.declared.parts.AccessKind.{AccessKind}
use Rattle.wg_rows.specs.Rows.{EachRow, Apart}
use Rattle.wg_rows.specs.Runs.{Part, PartRun, Cells, part_run, part_sort, cell_sort, run_part, covers_part}
use Rattle.wg_rows.specs.Uses.{Usages, row_set, with_usage, same_kind}
use Rattle.wg_rows.specs.Sets.{UseRow, sets}
use Rattle.wg_rows.proofs.Sets.{sets_row, sets_apart}
use Rattle.wg_orders.specs.Steps.{StepPlace}
use Rattle.wg_model.specs.Touches.{Touch, Doing, use_of, access_of, has_cells, deed_of, step_of}
use Rattle.wg_readback.specs.Shapes.{HasPart}
use Rattle.wg_readback.proofs.Rows.{printed_each}
use Rattle.wg_small.proofs.Tracing.{Said, IsSaid, Closed}

-- It is told by the parts: it holds of a run that has a part where it does of each part that the run covers, and of each such part
-- where it does of the run.
abbrev pub OfParts : (PartRun → Type 0) → PartRun → Type 0
OfParts part run = (p : Part) → covers_part run p ≡ true → part (part_run p)

pub record IsTold (part : PartRun → Type 0) : Type 0 where
  pub each : (run : PartRun) → part run → OfParts part run
  pub whole : (run : PartRun) → HasPart run → OfParts part run → part run

-- rows that cover parts of which it holds
abbrev EachUse : (PartRun → Type 0) → List UseRow → Type 0
EachUse part rows = EachRow (λ (row : PartRun × Usages). part row.0) rows

covered : (part : PartRun → Type 0) → IsTold part → (p : Part) (set : Usages) (rows : List UseRow) → EachUse part rows → row_set p rows ≡ Some set → part (part_run p)
covered part told p set [] h e = absurd (cc)
covered part told p set (row ∷ rows) h e = by_cover (covers_part row.0 p) refl e (λ f. covered part told p set rows h.1 f)
  where
    by_cover : (b : Bool) → covers_part row.0 p ≡ b → (if b then Some (with_usage row.1 (row_set p rows)) else row_set p rows) ≡ Some set → (row_set p rows ≡ Some set → part (part_run p)) → part (part_run p)
    by_cover true c f rest = told.each row.0 h.0 p c
    by_cover false c f rest = rest f

-- a row of rows has its parts set
abbrev IsSetIn : List UseRow → UseRow → Type 0
IsSetIn rows row = (p : Part) → covers_part row.0 p ≡ true → (set : Usages) × (row_set p rows ≡ Some set)

set_later : (first : UseRow) (rows these : List UseRow) → EachRow (IsSetIn rows) these → EachRow (IsSetIn (first ∷ rows)) these
set_later first rows [] h = tt
set_later first rows (row ∷ these) h = ((λ p c. by_cover p (covers_part first.0 p) (h.0 p c)), set_later first rows these h.1)
  where
    by_cover : (p : Part) (b : Bool) → (set : Usages) × (row_set p rows ≡ Some set) → (set : Usages) × ((if b then Some (with_usage first.1 (row_set p rows)) else row_set p rows) ≡ Some set)
    by_cover p true found = (with_usage first.1 (row_set p rows), refl)
    by_cover p false found = found

all_set : (rows : List UseRow) → EachRow (IsSetIn rows) rows
all_set [] = tt
all_set (row ∷ rows) = ((λ p c. by_cover p (covers_part row.0 p) c), set_later row rows rows (all_set rows))
  where
    by_cover : (p : Part) (b : Bool) → b ≡ true → (set : Usages) × ((if b then Some (with_usage row.1 (row_set p rows)) else row_set p rows) ≡ Some set)
    by_cover p true c = (with_usage row.1 (row_set p rows), refl)
    by_cover p false c = absurd (cc)

found_all : (part : PartRun → Type 0) → IsTold part → (rows found these : List UseRow) → EachUse part rows → ((p : Part) → row_set p found ≡ row_set p rows) → Apart part_sort these → EachRow (IsSetIn found) these → EachUse part these
found_all part told rows found [] h same apart in_found = tt
found_all part told rows found (row ∷ these) h same apart in_found = (
  told.whole row.0 apart.0 (λ p c. let set = in_found.0 p c in covered part told p set.0 rows h (sym (same p) ∙ set.1)),
  found_all part told rows found these h same apart.2 in_found.1,
)

pub sets_have : (part : PartRun → Type 0) → IsTold part → (rows : List UseRow) → EachUse part rows → EachUse part (sets rows)
sets_have part told rows h = found_all part told rows (sets rows) (sets rows) h (λ p. sets_row p rows) (sets_apart rows) (all_set (sets rows))

-- what is touched
abbrev pub TouchHas : Said → Touch → Type 0
TouchHas said touch = said.part (run_part touch.0) × (has_cells (access_of touch) ≡ true → said.cells touch.0)

uses_have : (said : Said) (touches : List Touch) → EachRow (TouchHas said) touches → EachUse said.part (map use_of touches)
uses_have said [] h = tt
uses_have said (touch ∷ touches) h = (h.0.0, uses_have said touches h.1)

accesses_have : (said : Said) (touches : List Touch) → EachRow (TouchHas said) touches → EachRow (λ (row : Cells × AccessKind). said.cells row.0) (filter has_cells (map access_of touches))
accesses_have said [] h = tt
accesses_have said (touch ∷ touches) h = by_test (has_cells (access_of touch)) refl (accesses_have said touches h.1)
  where
    by_test : (b : Bool) → has_cells (access_of touch) ≡ b → EachRow (λ (row : Cells × AccessKind). said.cells row.0) (filter has_cells (map access_of touches))
        → EachRow (λ (row : Cells × AccessKind). said.cells row.0) (cond b (access_of touch ∷ filter has_cells (map access_of touches)) (filter has_cells (map access_of touches)))
    by_test true e rest = (h.0.1 e, rest)
    by_test false e rest = rest

pub doing_has : (said : Said) → Closed said → IsTold said.part → (place : StepPlace) (doing : Doing) → said.place place → EachRow (TouchHas said) doing.1 → IsSaid said (step_of place doing)
unfolding deed_of
doing_has said closed told place doing at h = record {
  stands = at;
  uses = sets_have said.part told (map use_of doing.1) (uses_have said doing.1 h);
  accesses = printed_each cell_sort same_kind (λ (row : Cells × AccessKind). said.cells row.0) (λ x r met p q. closed.cells_joined x.0 r.0 met p q) (filter has_cells (map access_of doing.1)) (accesses_have said doing.1 h);
}
