-- Cells that are given once do not overlap.
use Rattle.std.specs.Prelude.{nat_lt, nat_le}
use Rattle.std.proofs.Common.{◌≡◌, ℕ, ◌<◌, ◌≤◌, max, List, [], ◌∷◌, ◌++◌, true, false, ◌&&◌, ap, sym, refl, ◌∙◌, arith, true≢false}
use Rattle.std.proofs.lemmas.Bool.{and_parts, and_from, false_from_ne_true, ltb-true, lt-ltb, le-leb}
use Rattle.wg_trace.specs.declared.parts.AccessKind.{AccessKind}
use Rattle.wg_rows.specs.Rows.{list_eq, in_range}
use Rattle.wg_rows.specs.Runs.{Cell, Byte, Texels, Slice, Query, Cells, Bytes, Queries, Layers, Slices, cell_line, cell_lo, cell_hi, cell_spot, covers}
use Rattle.wg_rows.specs.Once.{NoneCovers, OneCovers}
use Rattle.wg_rows.proofs.Put.{list_eq_refl}
use Rattle.wg_readtrace.specs.Given.{overlap, is_given}
use Rattle.wg_readback.proofs.Whole.{AreCells, AreAccesses}

-- the cell of a run's line at a place
pub cell_at : Cells → ℕ → Cell
cell_at (Bytes object lo hi) at = Byte object at
cell_at (Layers object aspect mip lo hi) at = Texels object aspect mip at
cell_at (Slices object mip lo hi) at = Slice object mip at
cell_at (Queries object lo hi) at = Query object at

pub spot_at : (run : Cells) (at : ℕ) → cell_spot (cell_at run at) ≡ (cell_line run, at)
unfolding cell_at
spot_at (Bytes object lo hi) at = refl
spot_at (Layers object aspect mip lo hi) at = refl
spot_at (Slices object mip lo hi) at = refl
spot_at (Queries object lo hi) at = refl

full : (run : Cells) → AreCells run → cell_lo run < cell_hi run
full (Bytes object lo hi) h = h.1.0
full (Layers object aspect mip lo hi) h = h.2.0
full (Slices object mip lo hi) h = h.2.0
full (Queries object lo hi) h = h.1.0

within : (lo hi at : ℕ) → lo ≤ at → at < hi → in_range lo hi at ≡ true
within lo hi at l h = and_from (nat_le lo at) (nat_lt at hi) (le-leb lo at l) (lt-ltb at hi h)

covered : (run other : Cells) (at : ℕ) → list_eq (cell_line run) (cell_line other) ≡ true → cell_lo run ≤ at → at < cell_hi run → covers run (cell_at other at) ≡ true
unfolding covers
covered run other at e l h =
    ap (λ (spot : List ℕ × ℕ). list_eq (cell_line run) spot.0 && in_range (cell_lo run) (cell_hi run) spot.1) (spot_at other at)
    ∙ and_from (list_eq (cell_line run) (cell_line other)) (in_range (cell_lo run) (cell_hi run) at) e (within (cell_lo run) (cell_hi run) at l h)

-- two runs with no common cell do not overlap
no_overlap : (run old : Cells) → AreCells run → AreCells old → ((c : Cell) → covers old c ≡ true → covers run c ≡ false) → overlap run old ≡ false
unfolding overlap
no_overlap run old r o apart =
    false_from_ne_true (list_eq (cell_line run) (cell_line old) && (nat_lt (cell_lo run) (cell_hi old) && nat_lt (cell_lo old) (cell_hi run))) (λ e.
    let parts : (list_eq (cell_line run) (cell_line old) ≡ true) × (nat_lt (cell_lo run) (cell_hi old) && nat_lt (cell_lo old) (cell_hi run) ≡ true) = and_parts (list_eq (cell_line run) (cell_line old)) (nat_lt (cell_lo run) (cell_hi old) && nat_lt (cell_lo old) (cell_hi run)) e in
    let ends : (nat_lt (cell_lo run) (cell_hi old) ≡ true) × (nat_lt (cell_lo old) (cell_hi run) ≡ true) = and_parts (nat_lt (cell_lo run) (cell_hi old)) (nat_lt (cell_lo old) (cell_hi run)) parts.1 in
    let first : cell_lo run < cell_hi old = ltb-true (cell_lo run) (cell_hi old) ends.0 in
    let second : cell_lo old < cell_hi run = ltb-true (cell_lo old) (cell_hi run) ends.1 in
    let run_full : cell_lo run < cell_hi run = full run r in
    let old_full : cell_lo old < cell_hi old = full old o in
    let by_old : covers old (cell_at old (max (cell_lo run) (cell_lo old))) ≡ true = covered old old (max (cell_lo run) (cell_lo old)) (list_eq_refl (cell_line old)) (omega arith) (omega arith) in
    let by_run : covers run (cell_at old (max (cell_lo run) (cell_lo old))) ≡ true = covered run old (max (cell_lo run) (cell_lo old)) parts.0 (omega arith) (omega arith) in
    true≢false (sym by_run ∙ apart (cell_at old (max (cell_lo run) (cell_lo old))) by_old))

-- No row has a cell of a run, of these runs, or of rows before it.
abbrev IsApart : Cells → List (Cells × AccessKind) → Type 0
IsApart old [] = Unit {0}
IsApart old (row ∷ rows) = (overlap row.0 old ≡ false) × IsApart old rows

abbrev AllApart : List Cells → List (Cells × AccessKind) → Type 0
AllApart [] rows = Unit {0}
AllApart (old ∷ olds) rows = IsApart old rows × AllApart olds rows

abbrev pub AreNew : List Cells → List (Cells × AccessKind) → Type 0
AreNew olds [] = Unit {0}
AreNew olds (row ∷ rows) = (is_given olds row.0 ≡ false) × AreNew (olds ++ row.0 ∷ []) rows

first_new : (olds : List Cells) (row : Cells × AccessKind) (rows : List (Cells × AccessKind)) → AllApart olds (row ∷ rows) → is_given olds row.0 ≡ false
first_new [] row rows h = refl
first_new (old ∷ olds) row rows h = rw h.0.0 (first_new olds row rows h.1)

rest_apart : (olds : List Cells) (row : Cells × AccessKind) (rows : List (Cells × AccessKind)) → AllApart olds (row ∷ rows) → IsApart row.0 rows → AllApart (olds ++ row.0 ∷ []) rows
rest_apart [] row rows h k = (k, tt)
rest_apart (old ∷ olds) row rows h k = (h.0.1, rest_apart olds row rows h.1 k)

run_apart : (old : Cells) (rows : List (Cells × AccessKind)) → AreCells old → AreAccesses rows → ((c : Cell) → covers old c ≡ true → NoneCovers c rows) → IsApart old rows
run_apart old [] o a h = tt
run_apart old (row ∷ rows) o a h = (no_overlap row.0 old a.0 o (λ c e. (h c e).0), run_apart old rows o a.1 (λ c e. (h c e).1))

new_from : (olds : List Cells) (rows : List (Cells × AccessKind)) → AreAccesses rows → ((c : Cell) → OneCovers c rows) → AllApart olds rows → AreNew olds rows
new_from olds [] a h k = tt
new_from olds (row ∷ rows) a h k =
    (first_new olds row rows k, new_from (olds ++ row.0 ∷ []) rows a.1 (λ c. (h c).1) (rest_apart olds row rows k (run_apart row.0 rows a.0 a.1 (λ c e. (h c).0 e))))

-- rows that cover no cell twice
pub once_new : (rows : List (Cells × AccessKind)) → AreAccesses rows → ((c : Cell) → OneCovers c rows) → AreNew [] rows
once_new rows a h = new_from [] rows a h tt
