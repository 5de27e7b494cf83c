-- The cells found that a step reads and that are unset are those of the definition.
use Rattle.std.proofs.Common.{◌≡◌, ℕ, ◌+◌, ◌<◌, ◌≤◌, min, max, List, [], ◌∷◌, ◌++◌, map, Bool, true, false, not, ◌&&◌, ◌||◌, refl, ap, ap₂, sym, ◌∙◌, ◌⊎◌, inl, inr, arith, if◌then◌else◌, true≢false, nat_lt, filter}
use Rattle.std.proofs.lemmas.Bool.{lt-ltb, or_cases, and_parts}
use Rattle.wg_rows.specs.Runs.{Cells, Bytes, Layers, Slices, Queries, Cell, Byte, Texels, Slice, Query, cell_sort, cell_line, cell_lo, cell_hi, cell_widen, cell_spot, cell_run, covers}
use Rattle.wg_rows.specs.Uses.{AccessKind, Write, kind_reads, same_kind, printed_accesses}
use Rattle.wg_orders.specs.Steps.{Step, reads, writes}
use Rattle.wg_orders.specs.Trace.{Item, is_unset, steps_of, needs, cells_of, to_clear}
use Rattle.wg_rows.specs.Rows.{line_object, list_eq, Spot, in_range, covers_spot, put, EachRow, Apart, any_row, has_value, Alike, Fits, AllFit}
use Rattle.wg_rows.specs.Cut.{put_all}
use Rattle.wg_num.specs.Runs.{Runs, in_run, is_in, AreApart, full_run, missing_runs}
use Rattle.wg_bars.specs.Kept.{rows_in}
use Rattle.wg_init.specs.Rows.{row_of, row_object, SetRows, runs_in, set_at, KeepsSet, RunsApart}
use Rattle.wg_init.specs.Effects.{is_full}
use Rattle.wg_init.specs.Unset.{written, cells_at, unset_in, unset_rows}
use Rattle.wg_rows.proofs.Put.{any, Each_value, put_const, put_any, list_eq_true}
use Rattle.wg_rows.proofs.Runs.{cell_widens, single_cell}
use Rattle.wg_rows.proofs.Printed.{put_apart, respects}
use Rattle.wg_rows.proofs.Told.{accesses_tell, accesses_printed}
use Rattle.wg_orders.proofs.Clears.{has_cell, write_rows, each_write}
use Rattle.wg_orders.proofs.Built.{step_read_among}
use Rattle.wg_num.proofs.Members.{missing_in, missing_apart}
use Rattle.wg_rows.proofs.Sets.{covered}
use Rattle.wg_init.proofs.Effects.{row_object_is}

-- Runs that end no later than a number.
abbrev AllUpTo : ℕ → Runs → Type 0
AllUpTo hi [] = Unit {0}
AllUpTo hi (x ∷ xs) = (x.1 ≤ hi) × AllUpTo hi xs

up_to_append : (hi : ℕ) (xs ys : Runs) → AllUpTo hi xs → AllUpTo hi ys → AllUpTo hi (xs ++ ys)
up_to_append hi [] ys a b = b
up_to_append hi (x ∷ xs) ys a b = (a.0, up_to_append hi xs ys a.1 b)

full_up_to : (lo hi top : ℕ) → hi ≤ top → AllUpTo top (full_run lo hi)
full_up_to lo hi top l = by_test (nat_lt lo hi)
  where
    by_test : (b : Bool) → AllUpTo top (if b then (lo, hi) ∷ [] else [])
    by_test true = (l, tt)
    by_test false = tt

missing_up_to : (lo hi : ℕ) (runs : Runs) → AllUpTo hi (missing_runs lo hi runs)
missing_up_to lo hi [] = full_up_to lo hi hi (omega arith)
missing_up_to lo hi (x ∷ xs) = up_to_append hi (full_run lo (min hi x.0)) (missing_runs (max lo x.1) hi xs) (full_up_to lo (min hi x.0) hi (omega arith)) (missing_up_to (max lo x.1) hi xs)

widen_covers : (run : Cells) (a b : ℕ) (spot : Spot) → covers_spot cell_sort (cell_widen run a b) spot ≡ (list_eq (cell_line run) spot.0 && in_range a b spot.1)
widen_covers (Bytes o lo hi) a b spot = refl
widen_covers (Layers o x m lo hi) a b spot = refl
widen_covers (Slices o m lo hi) a b spot = refl
widen_covers (Queries o lo hi) a b spot = refl

widen_full : (run : Cells) (a b : ℕ) → a < b → cell_lo (cell_widen run a b) < cell_hi (cell_widen run a b)
widen_full (Bytes o lo hi) a b l = l
widen_full (Layers o x m lo hi) a b l = l
widen_full (Slices o m lo hi) a b l = l
widen_full (Queries o lo hi) a b l = l

-- Runs as cells.
at_value : (run : Cells) (from : ℕ) (runs : Runs) (spot : Spot) (v : AccessKind) → AreApart from runs → AllUpTo (cell_hi run) runs → has_value cell_sort same_kind spot v (cells_at run runs) ≡ ((list_eq (cell_line run) spot.0 && is_in runs spot.1) && same_kind v Write)
at_value run from [] spot v a u = none (list_eq (cell_line run) spot.0) (same_kind v Write)
  where
    none : (k s : Bool) → false ≡ ((k && false) && s)
    none true s = refl
    none false s = refl
at_value run from (x ∷ xs) spot v a u = ap₂ (λ p q. (p && same_kind v Write) || q) (widen_covers run (min x.0 (cell_hi run)) (min x.1 (cell_hi run)) spot ∙ ap₂ (λ (lo hi : ℕ). list_eq (cell_line run) spot.0 && in_range lo hi spot.1) (low x.0 x.1 (cell_hi run) a.1 u.0) (high x.1 (cell_hi run) u.0)) (at_value run (x.1 + 1) xs spot v a.2 u.1) ∙ by_all (list_eq (cell_line run) spot.0) (in_run x.0 x.1 spot.1) (is_in xs spot.1) (same_kind v Write)
  where
    low : (a b h : ℕ) → a < b → b ≤ h → min a h ≡ a
    low a b h l k = omega arith

    high : (b h : ℕ) → b ≤ h → min b h ≡ b
    high b h k = omega arith

    by_all : (k i r s : Bool) → (((k && i) && s) || ((k && r) && s)) ≡ ((k && (i || r)) && s)
    by_all true true r true = refl
    by_all true true true false = refl
    by_all true true false false = refl
    by_all true false r s = refl
    by_all false i r s = refl

-- Rows that are each written.
abbrev pub Written : List (Cells × AccessKind) → Type 0
Written rows = Each_value Write rows × Apart cell_sort rows

pub fits_written : (r : Cells × AccessKind) (rows : List (Cells × AccessKind)) → r.1 ≡ Write → Each_value Write rows → EachRow (Fits cell_sort r) rows
fits_written r [] e h = tt
fits_written r (y ∷ ys) e h = (λ spot p q. e ∙ sym h.0, fits_written r ys e h.1)

all_written : (run : Cells) (from : ℕ) (runs : Runs) (rows : List (Cells × AccessKind)) → AreApart from runs → AllUpTo (cell_hi run) runs → Written rows → Written (put_all cell_sort same_kind (cells_at run runs) rows)
all_written run from [] rows a u w = w
all_written run from (x ∷ xs) rows a u w =
    let full : min x.0 (cell_hi run) < min x.1 (cell_hi run) = omega (arith, a.1, u.0) in
    all_written run (x.1 + 1) xs (put cell_sort same_kind (cell_widen run (min x.0 (cell_hi run)) (min x.1 (cell_hi run)), Write) rows) a.2 u.1 (put_const cell_sort same_kind Write (cell_widen run (min x.0 (cell_hi run)) (min x.1 (cell_hi run)), Write) rows refl w.0, put_apart cell_sort same_kind accesses_tell (cell_widen run (min x.0 (cell_hi run)) (min x.1 (cell_hi run)), Write) rows (widen_full run (min x.0 (cell_hi run)) (min x.1 (cell_hi run)) full) w.1 (fits_written (cell_widen run (min x.0 (cell_hi run)) (min x.1 (cell_hi run)), Write) rows refl w.0))

pub put_all_any : (ps rows : List (Cells × AccessKind)) (spot : Spot) (v : AccessKind) → has_value cell_sort same_kind spot v (put_all cell_sort same_kind ps rows) ≡ (has_value cell_sort same_kind spot v ps || has_value cell_sort same_kind spot v rows)
put_all_any [] rows spot v = refl
put_all_any (p ∷ ps) rows spot v = put_all_any ps (put cell_sort same_kind p rows) spot v ∙ (ap (λ t. has_value cell_sort same_kind spot v ps || t) (put_any cell_sort same_kind spot (same_kind v) cell_widens (respects cell_sort same_kind accesses_tell v) p rows) ∙ moved (has_value cell_sort same_kind spot v ps) (covers_spot cell_sort p.0 spot && same_kind v p.1) (has_value cell_sort same_kind spot v rows))
  where
    moved : (a b c : Bool) → (a || (b || c)) ≡ ((b || a) || c)
    moved true true c = refl
    moved true false c = refl
    moved false true c = refl
    moved false false c = refl

pub unset_written : (kept : SetRows) (xs : List (Cells × AccessKind)) → RunsApart kept → Written (unset_rows kept xs)
unset_written kept [] apart = (tt, tt)
unset_written kept (x ∷ xs) apart = by_test (kind_reads x.1 && is_full x.0) (unset_written kept xs apart)
  where
    by_test : (b : Bool) → Written (unset_rows kept xs) → Written (if b then put_all cell_sort same_kind (unset_in kept x.0) (unset_rows kept xs) else unset_rows kept xs)
    by_test true w = all_written x.0 0 (missing_runs (cell_lo x.0) (cell_hi x.0) (runs_in (rows_in kept (row_object (row_of x.0))) (cell_line x.0))) (unset_rows kept xs) (missing_apart 0 0 (cell_lo x.0) (cell_hi x.0) (runs_in (rows_in kept (row_object (row_of x.0))) (cell_line x.0)) (omega arith) (apart (row_object (row_of x.0)) (cell_line x.0))) (missing_up_to (cell_lo x.0) (cell_hi x.0) (runs_in (rows_in kept (row_object (row_of x.0))) (cell_line x.0))) w
    by_test false w = w

-- Rows that are each written are their cells written.
cells_written : (rows : List (Cells × AccessKind)) → Each_value Write rows → map written (map (λ row. row.0) rows) ≡ rows
cells_written [] h = refl
cells_written (x ∷ xs) h = ap₂ ◌∷◌ (ap (λ (kind : AccessKind). (x.0, kind)) (sym h.0)) (cells_written xs h.1)

pub written_again : (kept : SetRows) (xs : List (Cells × AccessKind)) → RunsApart kept → map written (map (λ row. row.0) (unset_rows kept xs)) ≡ unset_rows kept xs
written_again kept xs apart = cells_written (unset_rows kept xs) (unset_written kept xs apart).0

-- whether some row that passes covers
abbrev pub reads_at : Spot → List (Cells × AccessKind) → Bool
reads_at spot rows = any_row (λ run. covers_spot cell_sort run spot) kind_reads rows

pub unset_value : (kept : SetRows) (xs : List (Cells × AccessKind)) (spot : Spot) (v : AccessKind) → RunsApart kept → has_value cell_sort same_kind spot v (unset_rows kept xs) ≡ ((reads_at spot xs && not (set_at kept spot)) && same_kind v Write)
unset_value kept [] spot v apart = refl
unset_value kept (x ∷ xs) spot v apart = by_tests (kind_reads x.1) (is_full x.0) refl (unset_value kept xs spot v apart)
  where
    runs : Runs
    runs = runs_in (rows_in kept (row_object (row_of x.0))) (cell_line x.0)

    one : has_value cell_sort same_kind spot v (unset_in kept x.0) ≡ ((list_eq (cell_line x.0) spot.0 && (in_run (cell_lo x.0) (cell_hi x.0) spot.1 && not (is_in (runs_in (rows_in kept (row_object (row_of x.0))) (cell_line x.0)) spot.1))) && same_kind v Write)
    one = at_value x.0 0 (missing_runs (cell_lo x.0) (cell_hi x.0) (runs_in (rows_in kept (row_object (row_of x.0))) (cell_line x.0))) spot v (missing_apart 0 0 (cell_lo x.0) (cell_hi x.0) (runs_in (rows_in kept (row_object (row_of x.0))) (cell_line x.0)) (omega arith) (apart (row_object (row_of x.0)) (cell_line x.0))) (missing_up_to (cell_lo x.0) (cell_hi x.0) (runs_in (rows_in kept (row_object (row_of x.0))) (cell_line x.0))) ∙ ap (λ t. (list_eq (cell_line x.0) spot.0 && t) && same_kind v Write) (missing_in 0 (cell_lo x.0) (cell_hi x.0) spot.1 (runs_in (rows_in kept (row_object (row_of x.0))) (cell_line x.0)) (apart (row_object (row_of x.0)) (cell_line x.0)))

    -- at a spot of the run's line its runs are those of the line
    here : (k : Bool) → list_eq (cell_line x.0) spot.0 ≡ k → ((k && (in_run (cell_lo x.0) (cell_hi x.0) spot.1 && not (is_in (runs_in (rows_in kept (row_object (row_of x.0))) (cell_line x.0)) spot.1))) && same_kind v Write) ≡ (((k && in_range (cell_lo x.0) (cell_hi x.0) spot.1) && not (set_at kept spot)) && same_kind v Write)
    here true e = ap (λ t. (in_run (cell_lo x.0) (cell_hi x.0) spot.1 && not t) && same_kind v Write) (ap₂ (λ (o : ℕ) (line : List ℕ). is_in (runs_in (rows_in kept o) line) spot.1) (sym (row_object_is x.0) ∙ ap line_object (list_eq_true (cell_line x.0) spot.0 e)) (list_eq_true (cell_line x.0) spot.0 e))
    here false e = refl

    joined : (c r s w : Bool) → (((c && s) && w) || ((r && s) && w)) ≡ ((((c && true) || r) && s) && w)
    joined true r true true = refl
    joined true true true false = refl
    joined true false true false = refl
    joined true true false w = refl
    joined true false false w = refl
    joined false r s w = refl

    none : (c r s w : Bool) → ((r && s) && w) ≡ ((((c && false) || r) && s) && w)
    none true r s w = refl
    none false r s w = refl

    empty : is_full x.0 ≡ false → covers_spot cell_sort x.0 spot ≡ false
    empty e = by_cover (covers_spot cell_sort x.0 spot) refl
      where
        by_cover : (b : Bool) → covers_spot cell_sort x.0 spot ≡ b → b ≡ false
        by_cover true k = let inner : (cell_line x.0 ≡ spot.0) × (cell_lo x.0 ≤ spot.1) × (spot.1 < cell_hi x.0) = covered cell_sort x.0 spot k in absurd (true≢false (sym (lt-ltb (cell_lo x.0) (cell_hi x.0) (omega (arith, inner.1, inner.2))) ∙ e))
        by_cover false k = refl

    by_tests : (r f : Bool) → is_full x.0 ≡ f → has_value cell_sort same_kind spot v (unset_rows kept xs) ≡ ((reads_at spot xs && not (set_at kept spot)) && same_kind v Write) → has_value cell_sort same_kind spot v (if r && f then put_all cell_sort same_kind (unset_in kept x.0) (unset_rows kept xs) else unset_rows kept xs) ≡ ((((covers_spot cell_sort x.0 spot && r) || reads_at spot xs) && not (set_at kept spot)) && same_kind v Write)
    by_tests true true e h = put_all_any (unset_in kept x.0) (unset_rows kept xs) spot v ∙ (ap₂ ◌||◌ (one ∙ here (list_eq (cell_line x.0) spot.0) refl) h ∙ joined (covers_spot cell_sort x.0 spot) (reads_at spot xs) (not (set_at kept spot)) (same_kind v Write))
    by_tests true false e h = h ∙ sym (ap (λ c. (((c && true) || reads_at spot xs) && not (set_at kept spot)) && same_kind v Write) (empty e))
    by_tests false f e h = h ∙ none (covers_spot cell_sort x.0 spot) (reads_at spot xs) (not (set_at kept spot)) (same_kind v Write)

-- The definition's cells.
pub filter_has : (test : Cell → Bool) (cells : List Cell) (c : Cell) → has_cell c (filter test cells) ≡ (test c && has_cell c cells)
filter_has test [] c = none (test c)
  where
    none : (b : Bool) → false ≡ (b && false)
    none true = refl
    none false = refl
filter_has test (d ∷ cells) c = by_tests (test d) (covers (cell_run d) c) refl refl (filter_has test cells c)
  where
    by_tests : (b k : Bool) → test d ≡ b → covers (cell_run d) c ≡ k → has_cell c (filter test cells) ≡ (test c && has_cell c cells) → has_cell c (if b then d ∷ filter test cells else filter test cells) ≡ (test c && (k || has_cell c cells))
    by_tests true true e f h = ap (λ t. t || has_cell c (filter test cells)) f ∙ sym (ap (λ t. t && true) (ap test (sym (single_cell d c f)) ∙ e))
    by_tests true false e f h = ap (λ t. t || has_cell c (filter test cells)) f ∙ h
    by_tests false true e f h = h ∙ (ap (λ t. t && has_cell c cells) no ∙ sym (ap (λ t. t && true) no))
      where
        no : test c ≡ false
        no = ap test (sym (single_cell d c f)) ∙ e
    by_tests false false e f h = h

pub needs_one : (s : Step) (c : Cell) → needs (s ∷ []) c ≡ reads s c
needs_one s c = by_tests (reads s c) (writes s c)
  where
    by_tests : (r w : Bool) → (r || (not w && false)) ≡ r
    by_tests true w = refl
    by_tests false true = refl
    by_tests false false = refl

pub to_clear_has : (trace : List Item) (s : Step) (c : Cell) → has_cell c (to_clear trace (s ∷ [])) ≡ (reads s c && is_unset (steps_of trace) c)
to_clear_has trace s c = filter_has (λ c. needs (s ∷ []) c && is_unset (steps_of trace) c) (cells_of (s ∷ [])) c ∙ (ap (λ t. (t && is_unset (steps_of trace) c) && has_cell c (cells_of (s ∷ []))) (needs_one s c) ∙ by_read (reads s c) refl)
  where
    by_read : (r : Bool) → reads s c ≡ r → ((r && is_unset (steps_of trace) c) && has_cell c (cells_of (s ∷ []))) ≡ (r && is_unset (steps_of trace) c)
    by_read true e = ap (λ t. is_unset (steps_of trace) c && t) (step_read_among s c e) ∙ and_true (is_unset (steps_of trace) c)
      where
        and_true : (b : Bool) → (b && true) ≡ b
        and_true true = refl
        and_true false = refl
    by_read false e = refl

pub write_has : (cells : List Cell) (c : Cell) (v : AccessKind) → has_value cell_sort same_kind (cell_spot c) v (write_rows cells) ≡ (has_cell c cells && same_kind v Write)
unfolding covers
write_has [] c v = refl
write_has (d ∷ cells) c v = ap (λ t. (covers_spot cell_sort (cell_run d) (cell_spot c) && same_kind v Write) || t) (write_has cells c v) ∙ share (covers_spot cell_sort (cell_run d) (cell_spot c)) (any (λ d. covers_spot cell_sort (cell_run d) (cell_spot c)) cells) (same_kind v Write)
  where
    share : (a b c : Bool) → ((a && c) || (b && c)) ≡ ((a || b) && c)
    share true b true = refl
    share true true false = refl
    share true false false = refl
    share false b c = refl

pub write_fit : (cells : List Cell) → AllFit cell_sort (write_rows cells)
write_fit [] = tt
write_fit (c ∷ cells) = (one c, fits_written (cell_run c, Write) (write_rows cells) refl (each_write cells), write_fit cells)
  where
    one : (c : Cell) → cell_lo (cell_run c) < cell_hi (cell_run c)
    one (Byte a n) = omega arith
    one (Texels a b m n) = omega arith
    one (Slice a m n) = omega arith
    one (Query a n) = omega arith

-- What a run covers is the spot of a cell.
cell_at : (run : Cells) (spot : Spot) → covers_spot cell_sort run spot ≡ true → (c : Cell) × (cell_spot c ≡ spot)
cell_at (Bytes o lo hi) spot e = (Byte o spot.1, ap (λ (line : List ℕ). (line, spot.1)) (covered cell_sort (Bytes o lo hi) spot e).0)
cell_at (Layers o a m lo hi) spot e = (Texels o a m spot.1, ap (λ (line : List ℕ). (line, spot.1)) (covered cell_sort (Layers o a m lo hi) spot e).0)
cell_at (Slices o m lo hi) spot e = (Slice o m spot.1, ap (λ (line : List ℕ). (line, spot.1)) (covered cell_sort (Slices o m lo hi) spot e).0)
cell_at (Queries o lo hi) spot e = (Query o spot.1, ap (λ (line : List ℕ). (line, spot.1)) (covered cell_sort (Queries o lo hi) spot e).0)

has_at_cell : (spot : Spot) (v : AccessKind) (rows : List (Cells × AccessKind)) → has_value cell_sort same_kind spot v rows ≡ true → (c : Cell) × (cell_spot c ≡ spot)
has_at_cell spot v [] e = absurd (true≢false (sym e))
has_at_cell spot v (x ∷ xs) e = by_case (or_cases (covers_spot cell_sort x.0 spot && same_kind v x.1) (has_value cell_sort same_kind spot v xs) e) (has_at_cell spot v xs)
  where
    by_case : ((covers_spot cell_sort x.0 spot && same_kind v x.1) ≡ true) ⊎ (has_value cell_sort same_kind spot v xs ≡ true) → (has_value cell_sort same_kind spot v xs ≡ true → (c : Cell) × (cell_spot c ≡ spot)) → (c : Cell) × (cell_spot c ≡ spot)
    by_case (inl k) rest = cell_at x.0 spot (and_parts (covers_spot cell_sort x.0 spot) (same_kind v x.1) k).0
    by_case (inr k) rest = rest k

pub alike_at_cells : (xs ys : List (Cells × AccessKind)) → ((c : Cell) (v : AccessKind) → has_value cell_sort same_kind (cell_spot c) v xs ≡ has_value cell_sort same_kind (cell_spot c) v ys) → Alike cell_sort same_kind xs ys
alike_at_cells xs ys h spot v = by_values (has_value cell_sort same_kind spot v xs) (has_value cell_sort same_kind spot v ys) refl refl
  where
    at_cell : (c : Cell) × (cell_spot c ≡ spot) → has_value cell_sort same_kind spot v xs ≡ has_value cell_sort same_kind spot v ys
    at_cell found = ap (λ s. has_value cell_sort same_kind s v xs) (sym found.1) ∙ (h found.0 v ∙ ap (λ s. has_value cell_sort same_kind s v ys) found.1)

    by_values : (a b : Bool) → has_value cell_sort same_kind spot v xs ≡ a → has_value cell_sort same_kind spot v ys ≡ b → has_value cell_sort same_kind spot v xs ≡ has_value cell_sort same_kind spot v ys
    by_values true b e f = at_cell (has_at_cell spot v xs e)
    by_values false true e f = at_cell (has_at_cell spot v ys f)
    by_values false false e f = e ∙ sym f

-- The cells to clear.
pub unset_is : (kept : SetRows) (trace : List Item) (s : Step) → RunsApart kept → KeepsSet kept (steps_of trace) → unset_rows kept s.accesses ≡ printed_accesses (write_rows (to_clear trace (s ∷ [])))
unfolding covers reads
unset_is kept trace s apart keeps = accesses_printed (unset_rows kept s.accesses) (write_rows (to_clear trace (s ∷ []))) (write_fit (to_clear trace (s ∷ []))) (unset_written kept s.accesses apart).1 (alike_at_cells (unset_rows kept s.accesses) (write_rows (to_clear trace (s ∷ []))) at_cell)
  where
    at_cell : (c : Cell) (v : AccessKind) → has_value cell_sort same_kind (cell_spot c) v (unset_rows kept s.accesses) ≡ has_value cell_sort same_kind (cell_spot c) v (write_rows (to_clear trace (s ∷ [])))
    at_cell c v =
        unset_value kept s.accesses (cell_spot c) v apart
        ∙ (ap (λ t. (reads_at (cell_spot c) s.accesses && not t) && same_kind v Write) (keeps c)
        ∙ (ap (λ t. (reads_at (cell_spot c) s.accesses && t) && same_kind v Write) (twice (is_unset (steps_of trace) c))
        ∙ (ap (λ t. t && same_kind v Write) (sym (to_clear_has trace s c))
        ∙ sym (write_has (to_clear trace (s ∷ [])) c v))))
      where
        twice : (b : Bool) → not (not b) ≡ b
        twice true = refl
        twice false = refl
