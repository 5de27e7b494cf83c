-- The trace of works has its shape.
use Rattle.std.specs.Prelude.{Option, Some, None}
use Rattle.std.specs.List.{flat_map}
use Rattle.std.specs.Option.{option_or, option_map_or}
use Rattle.std.proofs.Common.{ℕ, zero, suc, List, [], ◌∷◌, ◌++◌, map, length, Bool, true, false, ◌&&◌, if◌then◌else◌, lit<}
use Rattle.wg_trace.specs.declared.parts.PartRun.{PartRun}
use Rattle.wg_trace.specs.declared.usages.Usages.{Usages}
use Rattle.wg_rows.specs.Rows.{printed, EachRow}
use Rattle.wg_rows.specs.Runs.{Part, PartRun, Cell, part_of, is_texture, part_run, part_sort}
use Rattle.wg_rows.specs.Uses.{clear_usage, only_reads, same_set, Change, same_change}
use Rattle.wg_rows.proofs.Cut.{each_append}
use Rattle.wg_rows.proofs.Runs.{part_widens}
use Rattle.wg_orders.specs.Steps.{Step, StepPlace, set_of}
use Rattle.wg_orders.specs.Trace.{Item, Bar, StepItem, Free, Sort, steps_of, latest, set_at, last_set, change_between, change_of, parts_used, bar, bars, add_step, clear_of, add_clear, to_clear, add_cleared, add_all, add_group, add_groups, Work, free, add_work, after_works, steps_in, work_steps}
use Rattle.wg_readback.specs.Shapes.{IsSet, IsFrom, IsShapedUse, IsShapedStep, IsShapedItem, GoOn, BarsLead, IsShaped}
use Rattle.wg_readback.specs.Laws.{TraceIsShaped}
use Rattle.wg_readback.proofs.Rows.{printed_each, IsFilled, filled_joins, part_filled, row_set_is, written_shaped}

-- the set of the last use of a part
steps_shaped : (trace : List Item) → EachRow IsShapedItem trace → EachRow IsShapedStep (steps_of trace)
steps_shaped [] h = tt
steps_shaped (Bar part from to ∷ items) h = steps_shaped items h.1
steps_shaped (StepItem step ∷ items) h = (h.0, steps_shaped items h.1)
steps_shaped (Free object sort ∷ items) h = steps_shaped items h.1

set_of_shaped : (s : Step) (p : Part) → IsShapedStep s → IsFrom (set_of s p)
unfolding set_of
set_of_shaped s p h = row_set_is p s.uses h.0.uses

set_at_shaped : (p : Part) (steps : List Step) (k : ℕ) → EachRow IsShapedStep steps → IsFrom (set_at p steps k)
set_at_shaped p [] k h = tt
set_at_shaped p (s ∷ steps) zero h = set_of_shaped s p h.0
set_at_shaped p (s ∷ steps) (suc k) h = set_at_shaped p steps k h.1

latest_shaped : (f : ℕ → Option Usages) → ((k : ℕ) → IsFrom (f k)) → (n : ℕ) → IsFrom (latest f n)
latest_shaped f h zero = tt
latest_shaped f h (suc n) = by_one (f n) (h n) (latest_shaped f h n)
  where
    by_one : (o : Option Usages) → IsFrom o → IsFrom (latest f n) → IsFrom (option_or o (latest f n))
    by_one None a b = b
    by_one (Some set) a b = a

-- a change of a part
abbrev IsChange : Change → Type 0
IsChange change = IsFrom change.0 × IsSet change.1

between_shaped : (p : Part) (from : Option Usages) (to : Usages) → IsFrom from → IsSet to → EachRow (IsFilled part_sort IsChange) (change_between p from to)
between_shaped p None to h k = by_test (is_texture p)
  where
    by_test : (b : Bool) → EachRow (IsFilled part_sort IsChange) (if b then (part_run p, (None, to)) ∷ [] else [])
    by_test true = ((part_filled p, (tt, k)), tt)
    by_test false = tt
between_shaped p (Some from) to h k = by_test (same_set from to && only_reads to)
  where
    by_test : (b : Bool) → EachRow (IsFilled part_sort IsChange) (if b then [] else (part_run p, (Some from, to)) ∷ [])
    by_test true = tt
    by_test false = ((part_filled p, (h, k)), tt)

change_shaped : (trace : List Item) (s : Step) (p : Part) → EachRow IsShapedItem trace → IsShapedStep s → EachRow (IsFilled part_sort IsChange) (change_of trace s p)
change_shaped trace s p h k = by_set (set_of s p) (set_of_shaped s p k)
  where
    last : IsFrom (last_set p (steps_of trace) (length (steps_of trace)))
    last = latest_shaped (set_at p (steps_of trace)) (λ n. set_at_shaped p (steps_of trace) n (steps_shaped trace h)) (length (steps_of trace))

    by_set : (o : Option Usages) → IsFrom o → EachRow (IsFilled part_sort IsChange) (option_map_or (change_between p (last_set p (steps_of trace) (length (steps_of trace)))) o [])
    by_set None a = tt
    by_set (Some set) a = between_shaped p (last_set p (steps_of trace) (length (steps_of trace))) set last a

changes_shaped : (trace : List Item) (s : Step) (parts : List Part) → EachRow IsShapedItem trace → IsShapedStep s → EachRow (IsFilled part_sort IsChange) (flat_map (change_of trace s) parts)
changes_shaped trace s [] h k = tt
changes_shaped trace s (p ∷ parts) h k = each_append (IsFilled part_sort IsChange) (change_of trace s p) (flat_map (change_of trace s) parts) (change_shaped trace s p h k) (changes_shaped trace s parts h k)

map_bar : (rows : List (PartRun × Change)) → EachRow (IsFilled part_sort IsChange) rows → EachRow IsShapedItem (map bar rows)
map_bar [] h = tt
map_bar (row ∷ rows) h = ((h.0.0, h.0.1.0, h.0.1.1), map_bar rows h.1)

bars_shaped : (trace : List Item) (s : Step) → EachRow IsShapedItem trace → IsShapedStep s → EachRow IsShapedItem (bars trace s)
bars_shaped trace s h k =
    map_bar (printed part_sort same_change (flat_map (change_of trace s) (parts_used s.uses)))
    (printed_each part_sort same_change (IsFilled part_sort IsChange) (filled_joins part_sort IsChange part_widens) (flat_map (change_of trace s) (parts_used s.uses)) (changes_shaped trace s (parts_used s.uses) h k))

-- two traces, one behind the other
go_on_more : (xs ys : List Item) → GoOn xs → GoOn (xs ++ ys)
go_on_more [] ys h = absurd h
go_on_more (Bar part from to ∷ xs) ys h = tt
go_on_more (StepItem step ∷ xs) ys h = tt
go_on_more (Free object sort ∷ xs) ys h = absurd h

bars_more : (xs ys : List Item) → BarsLead xs → BarsLead ys → BarsLead (xs ++ ys)
bars_more [] ys h k = k
bars_more (Bar part from to ∷ xs) ys h k = (go_on_more xs ys h.0, bars_more xs ys h.1 k)
bars_more (StepItem step ∷ xs) ys h k = bars_more xs ys h k
bars_more (Free object sort ∷ xs) ys h k = bars_more xs ys h k

shaped_more : (xs ys : List Item) → IsShaped xs → IsShaped ys → IsShaped (xs ++ ys)
shaped_more xs ys h k = record { items = each_append IsShapedItem xs ys h.items k.items; bars = bars_more xs ys h.bars k.bars }

-- bars with a step behind them
go_step : (rows : List (PartRun × Change)) (s : Step) → GoOn (map bar rows ++ StepItem s ∷ [])
go_step [] s = tt
go_step (row ∷ rows) s = tt

bars_step : (rows : List (PartRun × Change)) (s : Step) → BarsLead (map bar rows ++ StepItem s ∷ [])
bars_step [] s = tt
bars_step (row ∷ rows) s = (go_step rows s, bars_step rows s)

step_added : (trace : List Item) (s : Step) → IsShaped trace → IsShapedStep s → IsShaped (add_step trace s)
step_added trace s h k =
    shaped_more trace (bars trace s ++ StepItem s ∷ []) h
    (record {
      items = each_append IsShapedItem (bars trace s) (StepItem s ∷ []) (bars_shaped trace s h.items k) (k, tt);
      bars = bars_step (printed part_sort same_change (flat_map (change_of trace s) (parts_used s.uses))) s;
    })

-- clears
clears_uses : (cells : List Cell) → EachRow IsShapedUse (map (λ (c : Cell). (part_run (part_of c), clear_usage)) cells)
clears_uses [] = tt
clears_uses (c ∷ cells) = ((part_filled (part_of c), (lit< tt, lit< tt)), clears_uses cells)

clear_shaped : (place : StepPlace) (cells : List Cell) → IsShapedStep (clear_of place cells)
clear_shaped place cells = (
  record {
    uses = printed_each part_sort same_set (IsFilled part_sort IsSet) (filled_joins part_sort IsSet part_widens) (map (λ (c : Cell). (part_run (part_of c), clear_usage)) cells) (clears_uses cells);
    accesses = (written_shaped cells).0;
  },
  (written_shaped cells).1,
)

clear_added : (trace : List Item) (place : StepPlace) (cells : List Cell) → IsShaped trace → IsShaped (add_clear trace place cells)
clear_added trace place [] h = h
clear_added trace place (c ∷ cells) h = step_added trace (clear_of place (c ∷ cells)) h (clear_shaped place (c ∷ cells))

-- steps, groups and works
all_added : (trace : List Item) (steps : List Step) → IsShaped trace → EachRow IsShapedStep steps → IsShaped (add_all trace steps)
all_added trace [] h k = h
all_added trace (s ∷ steps) h k =
    all_added (add_cleared trace s) steps (step_added (add_clear trace s.place (to_clear trace (s ∷ []))) s (clear_added trace s.place (to_clear trace (s ∷ [])) h) k.0) k.1

group_added : (trace : List Item) (steps : List Step) → IsShaped trace → EachRow IsShapedStep steps → IsShaped (add_group trace steps)
group_added trace [] h k = h
group_added trace (s ∷ steps) h k = all_added (add_clear trace s.place (to_clear trace (s ∷ steps))) (s ∷ steps) (clear_added trace s.place (to_clear trace (s ∷ steps)) h) k

each_parts : {A : Type 0} (P : A → Type 0) (xs ys : List A) → EachRow P (xs ++ ys) → EachRow P xs × EachRow P ys
each_parts P [] ys h = (tt, h)
each_parts P (x ∷ xs) ys h = let parts : EachRow P xs × EachRow P ys = each_parts P xs ys h.1 in ((h.0, parts.0), parts.1)

groups_added : (trace : List Item) (groups : List (List Step)) → IsShaped trace → EachRow IsShapedStep (steps_in groups) → IsShaped (add_groups trace groups)
groups_added trace [] h k = h
groups_added trace (steps ∷ groups) h k =
    let parts : EachRow IsShapedStep steps × EachRow IsShapedStep (steps_in groups) = each_parts IsShapedStep steps (steps_in groups) k in
    groups_added (add_group trace steps) groups (group_added trace steps h parts.0) parts.1

freed_shaped : (freed : List (ℕ × Sort)) → IsShaped (map free freed)
freed_shaped [] = record { items = tt; bars = tt }
freed_shaped (object ∷ freed) = record { items = (tt, (freed_shaped freed).items); bars = (freed_shaped freed).bars }

works_added : (trace : List Item) (works : List Work) → IsShaped trace → EachRow IsShapedStep (work_steps works) → IsShaped (after_works trace works)
works_added trace [] h k = h
works_added trace (w ∷ works) h k =
    let parts : EachRow IsShapedStep (steps_in w.groups) × EachRow IsShapedStep (work_steps works) = each_parts IsShapedStep (steps_in w.groups) (work_steps works) k in
    works_added (add_work trace w) works (shaped_more (add_groups trace w.groups) (map free w.freed) (groups_added trace w.groups h parts.0) (freed_shaped w.freed)) parts.1

pub trace_is_shaped : TraceIsShaped
trace_is_shaped works k = works_added [] works (record { items = tt; bars = tt }) k
