-- The verdict is the least clash of the trace, and tells what orders show.
use Rattle.std.proofs.Common.{◌≡◌, ℕ, zero, suc, ◌+◌, ◌≤◌, List, [], ◌∷◌, length, map, true, false, Option, Some, None, refl, ap, ap₂, sym, subst, ◌∙◌, ◌⊎◌, inl, inr, arith, slice_get}
use Rattle.std.specs.Option.{option_and_then}
use Rattle.std.proofs.lemmas.Bool.{cases_Bool}
use Rattle.wg_rows.specs.Runs.{Cell, Byte, Texels, Slice, Query, cell_run}
use Rattle.wg_rows.specs.Once.{AreOnce}
use Rattle.wg_rows.proofs.Printed.{Compared, Less_than, Same_line, More_than, compare_lines}
use Rattle.wg_orders.specs.Trace.{Item, steps_of}
use Rattle.wg_orders.specs.Orders.{Differs, IsOrder, Keeps, SameAt}
use Rattle.wg_orders.proofs.Check.{none_differs}
use Rattle.wg_orders.proofs.Moved.{some_differs}
use Rattle.wg_check.specs.declared.stories.Access.{Access}
use Rattle.wg_check.specs.declared.ends.SegmentEvent.{SegmentEvent}
use Rattle.wg_check.specs.declared.segments.Spotted.{Spotted}
use Rattle.wg_check.specs.Stories.{clash_from}
use Rattle.wg_check.specs.Segments.{Key, numbers, before, rank, ranked, story_at, at_segment, clash_among, Among, EndsIn}
use Rattle.wg_check.specs.Keys.{cell_key, key_events}
use Rattle.wg_check.specs.Cells.{cell_from, end_at, with_cell, clash_of}
use Rattle.wg_check.specs.Ends.{Ascending}
use Rattle.wg_check.specs.Verdict.{Clash, StandsBefore, IsAtMost, IsVerdict, TellsOrders, IsFirst, SegmentsTell}
use Rattle.wg_check.proofs.Ranks.{rank_most, rank_less}
use Rattle.wg_check.proofs.Laws.{AmongIs, among_is, verdict_is}
use Rattle.wg_check.proofs.Bridge.{stories}
use Rattle.wg_check.proofs.Sorting.{same_key}
use Rattle.wg_check.proofs.Placing.{SegmentCell, segment_cell, same_aspect, cell_found}

-- Cells at one key are the same.
same_cell : (c d : Cell) → cell_key c ≡ cell_key d → c ≡ d
same_cell (Byte o x) (Byte q y) e = ap₂ Byte (ap (λ (k : Key). k.object) e) (ap (λ (k : Key). k.at) e)
same_cell (Query o x) (Query q y) e = ap₂ Query (ap (λ (k : Key). k.object) e) (ap (λ (k : Key). k.at) e)
same_cell (Texels o a m x) (Texels q b n y) e =
    let object : o ≡ q = ap (λ (k : Key). k.object) e in
    let aspect : a ≡ b = same_aspect a b (ap (λ (k : Key). k.aspect) e) in
    let mip : m ≡ n = ap (λ (k : Key). k.mip) e in
    let at : x ≡ y = ap (λ (k : Key). k.at) e in
    cc
same_cell (Slice o m x) (Slice q n y) e =
    let object : o ≡ q = ap (λ (k : Key). k.object) e in
    let mip : m ≡ n = ap (λ (k : Key). k.mip) e in
    let at : x ≡ y = ap (λ (k : Key). k.at) e in
    cc
same_cell (Byte o x) (Query q y) e = absurd (omega (arith, ap (λ (k : Key). k.sort) e))
same_cell (Byte o x) (Texels q b n y) e = absurd (omega (arith, ap (λ (k : Key). k.sort) e))
same_cell (Byte o x) (Slice q n y) e = absurd (omega (arith, ap (λ (k : Key). k.sort) e))
same_cell (Query o x) (Byte q y) e = absurd (omega (arith, ap (λ (k : Key). k.sort) e))
same_cell (Query o x) (Texels q b n y) e = absurd (omega (arith, ap (λ (k : Key). k.sort) e))
same_cell (Query o x) (Slice q n y) e = absurd (omega (arith, ap (λ (k : Key). k.sort) e))
same_cell (Texels o a m x) (Byte q y) e = absurd (omega (arith, ap (λ (k : Key). k.sort) e))
same_cell (Texels o a m x) (Query q y) e = absurd (omega (arith, ap (λ (k : Key). k.sort) e))
same_cell (Texels o a m x) (Slice q n y) e = absurd (omega (arith, ap (λ (k : Key). k.sort) e))
same_cell (Slice o m x) (Byte q y) e = absurd (omega (arith, ap (λ (k : Key). k.sort) e))
same_cell (Slice o m x) (Query q y) e = absurd (omega (arith, ap (λ (k : Key). k.sort) e))
same_cell (Slice o m x) (Texels q b n y) e = absurd (omega (arith, ap (λ (k : Key). k.sort) e))

get_among : (ends : List Key) (i : ℕ) (k : Key) → slice_get ends i ≡ Some k → Among k ends
get_among [] i k e = absurd (cc)
get_among (x ∷ ends) zero k e = let same : k ≡ x = cc in inl same
get_among (x ∷ ends) (suc i) k e = inr (get_among ends i k e)

-- a cell of a segment no lower, against the cell at the end that begins a segment
cell_first : (ends : List Key) (c d : Cell) → Among (cell_key c) ends → rank ends (cell_key c) ≤ rank ends (cell_key d) → StandsBefore c d ⊎ (c ≡ d)
cell_first ends c d among l = by_order (compare_lines (numbers (cell_key c)) (numbers (cell_key d)))
  where
    by_order : Compared (numbers (cell_key c)) (numbers (cell_key d)) → StandsBefore c d ⊎ (c ≡ d)
    by_order (Less_than less) = inl less
    by_order (Same_line same) = inr (same_cell c d (same_key (cell_key c) (cell_key d) same))
    by_order (More_than more) = absurd (omega (arith, l, rank_less ends (cell_key d) (cell_key c) more among))

at_most : (s : Spotted) (ends : List Key) (c d : Cell) (reader : Option ℕ) (j : ℕ) → Among (cell_key c) ends → rank ends (cell_key c) ≡ s.segment → IsFirst s reader (rank ends (cell_key d)) j → IsAtMost s.reader c s.writer reader d j
at_most s ends c d reader j among ranks (inl first) = inl first
at_most s ends c d reader j among ranks (inr (same, inl less)) = inr (same, inl (by_before (cases_Bool (before (cell_key c) (cell_key d)))))
  where
    by_before : (before (cell_key c) (cell_key d) ≡ true) ⊎ (before (cell_key c) (cell_key d) ≡ false) → before (cell_key c) (cell_key d) ≡ true
    by_before (inl less_here) = less_here
    by_before (inr behind) = absurd (omega (arith, ranks, less, rank_most ends (cell_key d) (cell_key c) behind))
at_most s ends c d reader j among ranks (inr (same, inr at)) = inr (same, by_cell (cell_first ends c d among (omega (arith, ranks, at.0))))
  where
    by_cell : StandsBefore c d ⊎ (c ≡ d) → StandsBefore c d ⊎ ((c ≡ d) × (s.writer ≤ j))
    by_cell (inl stands) = inl stands
    by_cell (inr it) = inr (it, at.1)

pub verdict_told : (trace : List Item) (ends : List Key) → AreOnce trace → Ascending ends → EndsIn ends (key_events 0 trace) → IsVerdict trace (clash_of trace ends (clash_among (map (ranked ends) (key_events 0 trace)) 0 (suc (length ends))))
verdict_told trace ends once up within = by_found (clash_among events 0 (suc (length ends))) (among_is events 0 (suc (length ends))) (verdict_is trace cell_key (key_events 0 trace) ends (record { stories = λ c. stories c 0 0 trace once; within = within }))
  where
    events : List SegmentEvent
    events = map (ranked ends) (key_events 0 trace)

    by_found : (found : Option Spotted) → AmongIs events 0 (suc (length ends)) found → SegmentsTell trace cell_key ends found → IsVerdict trace (clash_of trace ends found)
    by_found None is tells = λ reader c j d. tells c reader j d
    by_found (Some s) is tells = by_story (story_at s.segment 0 events) refl
      where
        by_story : (story : List Access) → story_at s.segment 0 events ≡ story → IsVerdict trace (clash_of trace ends (Some s))
        by_story [] e = let none : None ≡ Some s = ap (λ (story : List Access). at_segment s.segment (clash_from None story)) (sym e) ∙ is.is in absurd (cc)
        by_story (a ∷ rest) e = at (segment_cell trace ends s.segment a rest up within e)
          where
            at : SegmentCell ends s.segment → IsVerdict trace (clash_of trace ends (Some s))
            at has = subst (IsVerdict trace) (sym clash) (record {
              at = has.cell;
              single = refl;
              differs = differs;
              least = λ reader d j h. at_most s ends has.cell d reader j (get_among ends has.index (cell_key has.cell) has.first) has.ranks (tells.first d reader j h);
            })
              where
                differs : Differs trace s.reader has.cell s.writer
                differs = tells.differs has.cell has.ranks

                end : end_at ends s.segment ≡ Some (cell_key has.cell)
                end = ap (end_at ends) has.number ∙ has.first

                from_zero : s.writer ≡ 0 + s.writer
                from_zero = omega arith

                clash : clash_of trace ends (Some s) ≡ Some (record { reader = s.reader; writer = s.writer; cell = cell_run has.cell })
                clash = ap (λ (o : Option Key). with_cell s (option_and_then (λ k. cell_from 0 s.writer k trace) o)) end ∙ ap (with_cell s) (ap (λ (n : ℕ). cell_from 0 n (cell_key has.cell) trace) from_zero ∙ cell_found has.cell trace 0 s.writer differs.writes)

pub verdict_from : (items : List Item) (ends : List Key) (events : List SegmentEvent) (found : Option Spotted) (clash : Option Clash) (count : ℕ) → AreOnce items → Ascending ends → EndsIn ends (key_events 0 items) → events ≡ map (ranked ends) (key_events 0 items) → count ≡ suc (length ends) → found ≡ clash_among events 0 count → clash ≡ clash_of items ends found → IsVerdict items clash
verdict_from items ends events found clash count once up within are all is tells = subst (IsVerdict items) (sym (tells ∙ ap (clash_of items ends) (is ∙ ap₂ (λ (events : List SegmentEvent) (n : ℕ). clash_among events 0 n) are all))) (verdict_told items ends once up within)

pub orders_told : (trace : List Item) (found : Option Clash) → IsVerdict trace found → TellsOrders trace found
orders_told trace None none = λ c order is keeps. none_differs trace c order (λ reader j d. none reader c j d) is keeps
orders_told trace (Some clash) v =
    let found : (order : List ℕ) × IsOrder order (steps_of trace) v.at × Keeps order trace v.at × (SameAt order (steps_of trace) v.at clash.reader → ⊥) = some_differs trace clash.reader v.at clash.writer v.differs in
    record { at = v.at; single = v.single; reads = v.differs.reads; order = found.0; is_order = found.1; keeps = found.2; other = found.3 }
