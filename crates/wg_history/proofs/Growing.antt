-- The trace of a beginning of a history is the beginning of its trace.
use Rattle.std.proofs.Common.{List, [], ◌∷◌, ◌++◌, map, reverse, refl, ap, sym, ◌∙◌, subst, append-nil}
use Rattle.std.proofs.lemmas.List.{append_assoc, reverse-append}
use Rattle.wg_orders.specs.Steps.{Step, StepPlace}
use Rattle.wg_rows.specs.Runs.{Cell}
use Rattle.wg_orders.specs.Trace.{Item, StepItem, bars, add_step, clear_of, add_clear, to_clear, add_cleared, add_all, add_group, add_groups, free}
use Rattle.wg_history.specs.Entries.{Setup, Past}
use Rattle.wg_history.specs.Steps.{groups_of}
use Rattle.wg_history.specs.Releases.{freed}
use Rattle.wg_history.specs.Traces.{Trace, trace_after}
use Rattle.wg_history.specs.ReleaseLaws.{Grows, ReleasesSoFar}
use Rattle.wg_history.proofs.Released.{freed_once}

same : (trace : List Item) → Grows trace trace
same trace = record { rest = []; grown = sym (append-nil trace) }

then : (old mid new : List Item) → Grows old mid → Grows mid new → Grows old new
then old mid new a b = record {
  rest = a.rest ++ b.rest;
  grown = b.grown ∙ (ap (λ xs. xs ++ b.rest) a.grown ∙ append_assoc old a.rest b.rest);
}

by_step : (trace : List Item) (s : Step) → Grows trace (add_step trace s)
by_step trace s = record { rest = bars trace s ++ StepItem s ∷ []; grown = refl }

by_clear : (trace : List Item) (place : StepPlace) (cells : List Cell) → Grows trace (add_clear trace place cells)
by_clear trace place [] = same trace
by_clear trace place (c ∷ cells) = by_step trace (clear_of place (c ∷ cells))

by_cleared : (trace : List Item) (s : Step) → Grows trace (add_cleared trace s)
by_cleared trace s = then trace (add_clear trace s.place (to_clear trace (s ∷ []))) (add_cleared trace s) (by_clear trace s.place (to_clear trace (s ∷ []))) (by_step (add_clear trace s.place (to_clear trace (s ∷ []))) s)

by_all : (trace : List Item) (steps : List Step) → Grows trace (add_all trace steps)
by_all trace [] = same trace
by_all trace (s ∷ steps) = then trace (add_cleared trace s) (add_all (add_cleared trace s) steps) (by_cleared trace s) (by_all (add_cleared trace s) steps)

by_group : (trace : List Item) (steps : List Step) → Grows trace (add_group trace steps)
by_group trace [] = same trace
by_group trace (s ∷ steps) =
    let cleared : List Item = add_clear trace s.place (to_clear trace (s ∷ steps)) in
    then trace cleared (add_all cleared (s ∷ steps)) (by_clear trace s.place (to_clear trace (s ∷ steps))) (by_all cleared (s ∷ steps))

by_groups : (trace : List Item) (groups : List (List Step)) → Grows trace (add_groups trace groups)
by_groups trace [] = same trace
by_groups trace (steps ∷ groups) = then trace (add_group trace steps) (add_groups (add_group trace steps) groups) (by_group trace steps) (by_groups (add_group trace steps) groups)

by_past : (setup : Setup) (new past : Past) → Grows (trace_after setup past) (trace_after setup (new ++ past))
by_past setup [] past = same (trace_after setup past)
by_past setup (entry ∷ new) past =
    let older : List Item = trace_after setup (new ++ past) in
    let worked : List Item = add_groups older (groups_of setup (new ++ past) entry) in
    then (trace_after setup past) older (trace_after setup (entry ∷ (new ++ past))) (by_past setup new past)
    (then older worked (trace_after setup (entry ∷ (new ++ past))) (by_groups older (groups_of setup (new ++ past) entry)) (record { rest = map free (freed setup (entry ∷ (new ++ past))); grown = refl }))

pub releases_so_far : ReleasesSoFar
releases_so_far setup before later n = record {
  grows = subst (λ (past : Past). Grows (Trace setup before) (trace_after setup past)) (sym (reverse-append before later)) (by_past setup (reverse later) (reverse before));
  once = freed_once setup before n;
}
