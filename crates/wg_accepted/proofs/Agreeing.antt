-- The barriers of a history's trace are enough.
use Rattle.std.proofs.Common.{ℕ, List, reverse, Some, None, refl, ap, sym, ◌∙◌, subst, slice_get}
use Rattle.wg_orders.specs.Trace.{Item, steps_of, trace_of}
use Rattle.wg_orders.specs.Orders.{AreDeclared, IsOrder, Keeps, Same, SameAt}
use Rattle.wg_orders.proofs.Sound.{Sound, are_barred, declared_at}
use Rattle.wg_orders.proofs.Settle.{same_order}
use Rattle.wg_orders.proofs.Built.{trace_sound}
use Rattle.wg_orders.proofs.Moved.{some_differs}
use Rattle.wg_history.specs.declared.events.Setup.{Setup}
use Rattle.wg_history.specs.Entries.{Past}
use Rattle.wg_history.specs.Traces.{Trace, works}
use Rattle.wg_history.proofs.Every.{trace_works, steps_works, all_declared}
use Rattle.wg_accepted.specs.Agreeing.{SeenAsPrinted, NoneDiffers, VerdictIsNone}

declared : (setup : Setup) (past : Past) → AreDeclared (works setup past)
declared setup past k s e = all_declared setup past k s (ap (λ xs. slice_get xs k) (sym (steps_works setup past)) ∙ e)

sound : (setup : Setup) (past : Past) → Sound (trace_of (works setup past))
sound setup past = trace_sound (works setup past) (declared setup past)

pub seen_as_printed : SeenAsPrinted
seen_as_printed setup history c order =
    subst (λ (trace : List Item). IsOrder order (steps_of trace) c → Keeps order trace c → Same order (steps_of trace) c) (trace_works setup (reverse history))
    (λ is keeps. same_order order (trace_of (works setup (reverse history))) c (are_barred (trace_of (works setup (reverse history))) (sound setup (reverse history))) (declared_at (trace_of (works setup (reverse history))) c (sound setup (reverse history))) is keeps)

pub none_differs : NoneDiffers
none_differs setup history reader c writer d =
    let found : (order : List ℕ) × IsOrder order (steps_of (Trace setup history)) c × Keeps order (Trace setup history) c × (SameAt order (steps_of (Trace setup history)) c reader → ⊥) = some_differs (Trace setup history) reader c writer d in
    found.3 (seen_as_printed setup history c found.0 found.1 found.2 reader d.reads)

pub verdict_is_none : VerdictIsNone
verdict_is_none setup history None v = refl
verdict_is_none setup history (Some clash) v = absurd (none_differs setup history clash.reader v.at clash.writer v.differs)
