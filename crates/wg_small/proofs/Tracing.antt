-- What holds of the places, parts and cells of the steps of works holds of those of their trace, with its barriers and clears.
use Rattle.std.specs.Prelude.{Option, Some, None, filter, cond}
use Rattle.std.specs.List.{flat_map}
use Rattle.std.specs.Option.{option_map_or}
use Rattle.std.proofs.Common.{◌≡◌, ℕ, true, false, List, [], ◌∷◌, ◌++◌, map, length, Bool, ◌&&◌, if◌then◌else◌}
use Rattle.wg_trace.specs.declared.parts.AccessKind.{AccessKind}
use Rattle.wg_rows.specs.Rows.{meet, printed, EachRow}
use Rattle.wg_rows.specs.Runs.{Part, PartRun, Cell, Cells, part_of, is_texture, part_run, cell_run, parts_in, cells_in, part_sort, cell_sort}
use Rattle.wg_rows.specs.Uses.{Usages, clear_usage, only_reads, same_set, same_kind, Write, Change, same_change}
use Rattle.wg_rows.proofs.Put.{both_of}
use Rattle.wg_rows.proofs.Cut.{each_append}
use Rattle.wg_readback.proofs.Rows.{printed_each}
use Rattle.wg_orders.specs.Steps.{Step, StepPlace, set_of}
use Rattle.wg_orders.specs.Trace.{Item, StepItem, Sort, steps_of, is_unset, last_set, change_between, change_of, parts_used, bar, bars, add_step, clear_of, add_clear, needs, cells_of, to_clear, add_cleared, add_all, add_group, add_groups, Work, free, add_work, steps_in}
use Rattle.wg_small.specs.Small.{StepHas, ItemHas}

-- It holds of each part and each cell of a run where it does of the run, and of two runs joined where it does of each.
abbrev pub CellHas : (PartRun → Type 0) → (Cells → Type 0) → Cell → Type 0
CellHas part cells c = cells (cell_run c) × part (part_run (part_of c))

pub record IsClosed (part : PartRun → Type 0) (cells : Cells → Type 0) : Type 0 where
  pub parts : (run : PartRun) → part run → EachRow (λ (p : Part). part (part_run p)) (parts_in run)
  pub part_joined : (x r : PartRun) → meet part_sort x r ≡ true → part x → part r → part (both_of part_sort x r)
  pub singles : (run : Cells) → cells run → EachRow (CellHas part cells) (cells_in run)
  pub cells_joined : (x r : Cells) → meet cell_sort x r ≡ true → cells x → cells r → cells (both_of cell_sort x r)

-- barriers
abbrev ChangeHas : (PartRun → Type 0) → PartRun × Change → Type 0
ChangeHas part row = part row.0

between_has : (part : PartRun → Type 0) (p : Part) (from : Option Usages) (to : Usages) → part (part_run p) → EachRow (ChangeHas part) (change_between p from to)
between_has part p None to h = by_test (is_texture p)
  where
    by_test : (b : Bool) → EachRow (ChangeHas part) (if b then (part_run p, (None, to)) ∷ [] else [])
    by_test true = (h, tt)
    by_test false = tt
between_has part p (Some from) to h = by_test (same_set from to && only_reads to)
  where
    by_test : (b : Bool) → EachRow (ChangeHas part) (if b then [] else (part_run p, (Some from, to)) ∷ [])
    by_test true = tt
    by_test false = (h, tt)

change_has : (part : PartRun → Type 0) (trace : List Item) (s : Step) (p : Part) → part (part_run p) → EachRow (ChangeHas part) (change_of trace s p)
change_has part trace s p h = by_set (set_of s p)
  where
    by_set : (o : Option Usages) → EachRow (ChangeHas part) (option_map_or (change_between p (last_set p (steps_of trace) (length (steps_of trace)))) o [])
    by_set None = tt
    by_set (Some set) = between_has part p (last_set p (steps_of trace) (length (steps_of trace))) set h

changes_have : (part : PartRun → Type 0) (trace : List Item) (s : Step) (parts : List Part) → EachRow (λ (p : Part). part (part_run p)) parts → EachRow (ChangeHas part) (flat_map (change_of trace s) parts)
changes_have part trace s [] h = tt
changes_have part trace s (p ∷ parts) h = each_append (ChangeHas part) (change_of trace s p) (flat_map (change_of trace s) parts) (change_has part trace s p h.0) (changes_have part trace s parts h.1)

-- what is said, all together
pub record Said : Type 1 where
  pub place : StepPlace → Type 0
  pub part : PartRun → Type 0
  pub cells : Cells → Type 0
  pub object : ℕ → Type 0

abbrev pub IsSaid : Said → Step → Type 0
IsSaid said = StepHas said.place said.part said.cells

abbrev pub IsSaidItem : Said → Item → Type 0
IsSaidItem said = ItemHas said.place said.part said.cells said.object

abbrev pub Closed : Said → Type 0
Closed said = IsClosed said.part said.cells

used_parts : (said : Said) → Closed said → (rows : List (PartRun × Usages)) → EachRow (λ (row : PartRun × Usages). said.part row.0) rows → EachRow (λ (p : Part). said.part (part_run p)) (parts_used rows)
used_parts said closed [] h = tt
used_parts said closed (row ∷ rows) h = each_append (λ (p : Part). said.part (part_run p)) (parts_in row.0) (parts_used rows) (closed.parts row.0 h.0) (used_parts said closed rows h.1)

map_bar : (said : Said) (rows : List (PartRun × Change)) → EachRow (ChangeHas said.part) rows → EachRow (IsSaidItem said) (map bar rows)
map_bar said [] h = tt
map_bar said (row ∷ rows) h = (h.0, map_bar said rows h.1)

bars_have : (said : Said) → Closed said → (trace : List Item) (s : Step) → IsSaid said s → EachRow (IsSaidItem said) (bars trace s)
bars_have said closed trace s h =
    map_bar said (printed part_sort same_change (flat_map (change_of trace s) (parts_used s.uses)))
    (printed_each part_sort same_change (ChangeHas said.part) (λ x r met p q. closed.part_joined x.0 r.0 met p q) (flat_map (change_of trace s) (parts_used s.uses))
    (changes_have said.part trace s (parts_used s.uses) (used_parts said closed s.uses h.uses)))

step_added : (said : Said) → Closed said → (trace : List Item) (s : Step) → EachRow (IsSaidItem said) trace → IsSaid said s → EachRow (IsSaidItem said) (add_step trace s)
step_added said closed trace s h k = each_append (IsSaidItem said) trace (bars trace s ++ StepItem s ∷ []) h (each_append (IsSaidItem said) (bars trace s) (StepItem s ∷ []) (bars_have said closed trace s k) (k, tt))

-- clears
abbrev CellsHave : Said → List Cell → Type 0
CellsHave said cells = EachRow (CellHas said.part said.cells) cells

clear_uses : (said : Said) (cells : List Cell) → CellsHave said cells → EachRow (λ (row : PartRun × Usages). said.part row.0) (map (λ (c : Cell). (part_run (part_of c), clear_usage)) cells)
clear_uses said [] h = tt
clear_uses said (c ∷ cells) h = (h.0.1, clear_uses said cells h.1)

clear_accesses : (said : Said) (cells : List Cell) → CellsHave said cells → EachRow (λ (row : Cells × AccessKind). said.cells row.0) (map (λ (c : Cell). (cell_run c, Write)) cells)
clear_accesses said [] h = tt
clear_accesses said (c ∷ cells) h = (h.0.0, clear_accesses said cells h.1)

clear_has : (said : Said) → Closed said → (place : StepPlace) (cells : List Cell) → said.place place → CellsHave said cells → IsSaid said (clear_of place cells)
clear_has said closed place cells at h = record {
  stands = at;
  uses = printed_each part_sort same_set (λ (row : PartRun × Usages). said.part row.0) (λ x r met p q. closed.part_joined x.0 r.0 met p q) (map (λ (c : Cell). (part_run (part_of c), clear_usage)) cells) (clear_uses said cells h);
  accesses = printed_each cell_sort same_kind (λ (row : Cells × AccessKind). said.cells row.0) (λ x r met p q. closed.cells_joined x.0 r.0 met p q) (map (λ (c : Cell). (cell_run c, Write)) cells) (clear_accesses said cells h);
}

clear_added : (said : Said) → Closed said → (trace : List Item) (place : StepPlace) (cells : List Cell) → EachRow (IsSaidItem said) trace → said.place place → CellsHave said cells → EachRow (IsSaidItem said) (add_clear trace place cells)
clear_added said closed trace place [] h at k = h
clear_added said closed trace place (c ∷ cells) h at k = step_added said closed trace (clear_of place (c ∷ cells)) h (clear_has said closed place (c ∷ cells) at k)

-- the cells that steps access, and those of them that are cleared
accessed_cells : (said : Said) → Closed said → (rows : List (Cells × AccessKind)) → EachRow (λ (row : Cells × AccessKind). said.cells row.0) rows → CellsHave said (flat_map (λ (row : Cells × AccessKind). cells_in row.0) rows)
accessed_cells said closed [] h = tt
accessed_cells said closed (row ∷ rows) h = each_append (CellHas said.part said.cells) (cells_in row.0) (flat_map (λ (row : Cells × AccessKind). cells_in row.0) rows) (closed.singles row.0 h.0) (accessed_cells said closed rows h.1)

steps_cells : (said : Said) → Closed said → (steps : List Step) → EachRow (IsSaid said) steps → CellsHave said (cells_of steps)
steps_cells said closed [] h = tt
steps_cells said closed (s ∷ steps) h = each_append (CellHas said.part said.cells) (flat_map (λ (row : Cells × AccessKind). cells_in row.0) s.accesses) (cells_of steps) (accessed_cells said closed s.accesses h.0.accesses) (steps_cells said closed steps h.1)

filtered : (P : Cell → Type 0) (test : Cell → Bool) (cells : List Cell) → EachRow P cells → EachRow P (filter test cells)
filtered P test [] h = tt
filtered P test (c ∷ cells) h = by_test (test c) (filtered P test cells h.1)
  where
    by_test : (b : Bool) → EachRow P (filter test cells) → EachRow P (cond b (c ∷ filter test cells) (filter test cells))
    by_test true rest = (h.0, rest)
    by_test false rest = rest

cleared : (said : Said) → Closed said → (trace : List Item) (steps : List Step) → EachRow (IsSaid said) steps → CellsHave said (to_clear trace steps)
cleared said closed trace steps h = filtered (CellHas said.part said.cells) (λ c. needs steps c && is_unset (steps_of trace) c) (cells_of steps) (steps_cells said closed steps h)

-- steps, groups and works
all_added : (said : Said) → Closed said → (trace : List Item) (steps : List Step) → EachRow (IsSaidItem said) trace → EachRow (IsSaid said) steps → EachRow (IsSaidItem said) (add_all trace steps)
all_added said closed trace [] h k = h
all_added said closed trace (s ∷ steps) h k =
    all_added said closed (add_cleared trace s) steps
    (step_added said closed (add_clear trace s.place (to_clear trace (s ∷ []))) s (clear_added said closed trace s.place (to_clear trace (s ∷ [])) h k.0.stands (cleared said closed trace (s ∷ []) (k.0, tt))) k.0) k.1

group_added : (said : Said) → Closed said → (trace : List Item) (steps : List Step) → EachRow (IsSaidItem said) trace → EachRow (IsSaid said) steps → EachRow (IsSaidItem said) (add_group trace steps)
group_added said closed trace [] h k = h
group_added said closed trace (s ∷ steps) h k =
    all_added said closed (add_clear trace s.place (to_clear trace (s ∷ steps))) (s ∷ steps)
    (clear_added said closed trace s.place (to_clear trace (s ∷ steps)) h k.0.stands (cleared said closed trace (s ∷ steps) k)) k

pub each_parts : {A : Type 0} (P : A → Type 0) (xs ys : List A) → EachRow P (xs ++ ys) → EachRow P xs × EachRow P ys
each_parts P [] ys h = (tt, h)
each_parts P (x ∷ xs) ys h = let parts : EachRow P xs × EachRow P ys = each_parts P xs ys h.1 in ((h.0, parts.0), parts.1)

groups_added : (said : Said) → Closed said → (trace : List Item) (groups : List (List Step)) → EachRow (IsSaidItem said) trace → EachRow (IsSaid said) (steps_in groups) → EachRow (IsSaidItem said) (add_groups trace groups)
groups_added said closed trace [] h k = h
groups_added said closed trace (steps ∷ groups) h k =
    let parts : EachRow (IsSaid said) steps × EachRow (IsSaid said) (steps_in groups) = each_parts (IsSaid said) steps (steps_in groups) k in
    groups_added said closed (add_group trace steps) groups (group_added said closed trace steps h parts.0) parts.1

freed_said : (said : Said) (freed : List (ℕ × Sort)) → EachRow (λ (object : ℕ × Sort). said.object object.0) freed → EachRow (IsSaidItem said) (map free freed)
freed_said said [] h = tt
freed_said said (object ∷ freed) h = (h.0, freed_said said freed h.1)

pub work_added : (said : Said) → Closed said → (trace : List Item) (w : Work) → EachRow (IsSaidItem said) trace → EachRow (IsSaid said) (steps_in w.groups) → EachRow (λ (object : ℕ × Sort). said.object object.0) w.freed
    → EachRow (IsSaidItem said) (add_work trace w)
work_added said closed trace w h k f = each_append (IsSaidItem said) (add_groups trace w.groups) (map free w.freed) (groups_added said closed trace w.groups h k) (freed_said said w.freed f)
