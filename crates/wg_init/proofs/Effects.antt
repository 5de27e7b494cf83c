-- Rows after accesses keep what is not unset.
use Rattle.std.proofs.Common.{◌≡◌, ℕ, List, [], ◌∷◌, ◌++◌, Bool, true, false, not, ◌&&◌, ◌||◌, ◌==◌, refl, ap, ap₂, sym, ◌∙◌, arith, if◌then◌else◌, true≢false, nat_lt}
use Rattle.std.proofs.lemmas.Bool.{eq-eqb}
use Rattle.std.proofs.lemmas.Bool.Decides.{nat_tests}
use Rattle.wg_rows.specs.Runs.{Cells, Bytes, Layers, Slices, Queries, Cell, cell_sort, cell_line, cell_lo, cell_hi, cell_spot, covers}
use Rattle.wg_rows.specs.Uses.{AccessKind, kind_writes, kind_unsets, row_writes, row_unsets}
use Rattle.wg_orders.specs.Steps.{Step, writes, unsets}
use Rattle.wg_rows.specs.Rows.{line_object, list_eq, Spot, in_range, covers_spot}
use Rattle.wg_orders.specs.Trace.{is_unset}
use Rattle.wg_num.specs.Runs.{Runs, in_run, is_in, insert_run, remove_run, with_run, cut_runs}
use Rattle.wg_bars.specs.Kept.{rows_in}
use Rattle.wg_init.specs.Rows.{row_line, row_of, row_object, SetRow, SetRows, runs_in, set_at, KeepsSet}
use Rattle.wg_init.specs.Effects.{effect, with_effect, is_full, changes_at, rows_after, IsAfter, IsNoted}
use Rattle.wg_rows.proofs.Put.{list_eq_true, list_eq_refl}
use Rattle.wg_orders.proofs.Steps.{is_unset_more}
use Rattle.wg_num.proofs.Members.{with_in, cut_in}

pub row_line_is : (run : Cells) → row_line (row_of run) ≡ cell_line run
row_line_is (Bytes o lo hi) = refl
row_line_is (Layers o a m lo hi) = refl
row_line_is (Slices o m lo hi) = refl
row_line_is (Queries o lo hi) = refl

pub row_object_is : (run : Cells) → line_object (cell_line run) ≡ row_object (row_of run)
row_object_is (Bytes o lo hi) = refl
row_object_is (Layers o a m lo hi) = refl
row_object_is (Slices o m lo hi) = refl
row_object_is (Queries o lo hi) = refl

effect_in : (kind : AccessKind) (lo hi n : ℕ) (runs : Runs) → nat_lt lo hi ≡ true → is_in (effect kind lo hi runs) n ≡ (if in_run lo hi n then not (kind_unsets kind) else is_in runs n)
effect_in kind lo hi n runs full = by_kind (kind_unsets kind)
  where
    taken : (a b : Bool) → (a && not b) ≡ (if b then false else a)
    taken true true = refl
    taken true false = refl
    taken false true = refl
    taken false false = refl

    added : (a b : Bool) → (b || a) ≡ (if b then true else a)
    added a true = refl
    added a false = refl

    by_kind : (b : Bool) → is_in (if b then remove_run lo hi runs else insert_run lo hi runs) n ≡ (if in_run lo hi n then not b else is_in runs n)
    by_kind true = ap (λ t. is_in (if t then cut_runs lo hi runs else runs) n) full ∙ (cut_in lo hi n runs ∙ taken (is_in runs n) (in_run lo hi n))
    by_kind false = ap (λ t. is_in (if t then with_run lo hi runs else runs) n) full ∙ (with_in lo hi n runs ∙ added (is_in runs n) (in_run lo hi n))

-- The runs of a line after one access.
pub runs_with : (run : Cells) (kind : AccessKind) (rows : List SetRow) (line : List ℕ) → runs_in (with_effect run kind rows) line ≡ (if list_eq (cell_line run) line then effect kind (cell_lo run) (cell_hi run) (runs_in rows line) else runs_in rows line)
runs_with run kind [] line = ap (λ l. if list_eq l line then effect kind (cell_lo run) (cell_hi run) [] else []) (row_line_is run)
runs_with run kind (x ∷ xs) line = by_row (list_eq (row_line x.0) (cell_line run)) refl (runs_with run kind xs line)
  where
    here : (b : Bool) → row_line x.0 ≡ cell_line run → (if list_eq (row_line x.0) line then effect kind (cell_lo run) (cell_hi run) x.1 else runs_in xs line) ≡ (if list_eq (cell_line run) line then effect kind (cell_lo run) (cell_hi run) (if list_eq (row_line x.0) line then x.1 else runs_in xs line) else (if list_eq (row_line x.0) line then x.1 else runs_in xs line))
    here b e = ap (λ l. if list_eq l line then effect kind (cell_lo run) (cell_hi run) x.1 else runs_in xs line) e ∙ (same (list_eq (cell_line run) line) ∙ sym (ap (λ l. if list_eq (cell_line run) line then effect kind (cell_lo run) (cell_hi run) (if list_eq l line then x.1 else runs_in xs line) else (if list_eq l line then x.1 else runs_in xs line)) e))
      where
        same : (t : Bool) → (if t then effect kind (cell_lo run) (cell_hi run) x.1 else runs_in xs line) ≡ (if t then effect kind (cell_lo run) (cell_hi run) (if t then x.1 else runs_in xs line) else (if t then x.1 else runs_in xs line))
        same true = refl
        same false = refl

    other : list_eq (row_line x.0) (cell_line run) ≡ false → (a b : Bool) → list_eq (row_line x.0) line ≡ a → list_eq (cell_line run) line ≡ b → (if a then x.1 else (if b then effect kind (cell_lo run) (cell_hi run) (runs_in xs line) else runs_in xs line)) ≡ (if b then effect kind (cell_lo run) (cell_hi run) (if a then x.1 else runs_in xs line) else (if a then x.1 else runs_in xs line))
    other e true true f g = absurd (true≢false (sym (list_eq_refl line) ∙ (ap₂ list_eq (sym (list_eq_true (row_line x.0) line f)) (sym (list_eq_true (cell_line run) line g)) ∙ e)))
    other e true false f g = refl
    other e false true f g = refl
    other e false false f g = refl

    by_row : (b : Bool) → list_eq (row_line x.0) (cell_line run) ≡ b → runs_in (with_effect run kind xs) line ≡ (if list_eq (cell_line run) line then effect kind (cell_lo run) (cell_hi run) (runs_in xs line) else runs_in xs line) → runs_in (if b then (x.0, effect kind (cell_lo run) (cell_hi run) x.1) ∷ xs else x ∷ with_effect run kind xs) line ≡ (if list_eq (cell_line run) line then effect kind (cell_lo run) (cell_hi run) (if list_eq (row_line x.0) line then x.1 else runs_in xs line) else (if list_eq (row_line x.0) line then x.1 else runs_in xs line))
    by_row true e h = here true (list_eq_true (row_line x.0) (cell_line run) e)
    by_row false e h = ap (λ r. if list_eq (row_line x.0) line then x.1 else r) h ∙ other e (list_eq (row_line x.0) line) (list_eq (cell_line run) line) refl refl

-- what accesses make of a cell that is set or not
abbrev pub after : Spot → List (Cells × AccessKind) → Bool → Bool
after spot [] b = b
after spot (x ∷ xs) b = after spot xs (if kind_writes x.1 && covers_spot cell_sort x.0 spot then not (kind_unsets x.1) else b)

empty_covers : (lo hi n : ℕ) → nat_lt lo hi ≡ false → in_range lo hi n ≡ false
empty_covers lo hi n e = grind (arith, nat_tests)

rows_are : (object : ℕ) (xs : List (Cells × AccessKind)) (rows : List SetRow) (spot : Spot) → line_object spot.0 ≡ object → is_in (runs_in (rows_after object xs rows) spot.0) spot.1 ≡ after spot xs (is_in (runs_in rows spot.0) spot.1)
rows_are object [] rows spot e = refl
rows_are object (x ∷ xs) rows spot e = rows_are object xs (if changes_at object x then with_effect x.0 x.1 rows else rows) spot e ∙ ap (after spot xs) (by_tests (kind_writes x.1) (is_full x.0) (row_object (row_of x.0) == object) refl refl)
  where
    same : (a : Bool) (t : Bool) → (if a then t else t) ≡ t
    same true t = refl
    same false t = refl

    in_line : (k r u : Bool) (old : Bool) → (if k then (if r then u else old) else old) ≡ (if k && r then u else old)
    in_line true r u old = refl
    in_line false r u old = refl

    pushed : (k : Bool) (a b : Runs) → is_in (if k then a else b) spot.1 ≡ (if k then is_in a spot.1 else is_in b spot.1)
    pushed true a b = refl
    pushed false a b = refl

    by_tests : (w f o : Bool) → is_full x.0 ≡ f → (row_object (row_of x.0) == object) ≡ o → is_in (runs_in (if (w && f) && o then with_effect x.0 x.1 rows else rows) spot.0) spot.1 ≡ (if w && covers_spot cell_sort x.0 spot then not (kind_unsets x.1) else is_in (runs_in rows spot.0) spot.1)
    by_tests false f o g h = refl
    by_tests true false o g h = sym (ap (λ t. if t then not (kind_unsets x.1) else is_in (runs_in rows spot.0) spot.1) (ap (λ t. list_eq (cell_line x.0) spot.0 && t) (empty_covers (cell_lo x.0) (cell_hi x.0) spot.1 g) ∙ and_false (list_eq (cell_line x.0) spot.0)))
      where
        and_false : (k : Bool) → (k && false) ≡ false
        and_false true = refl
        and_false false = refl
    by_tests true true false g h = sym (ap (λ t. if t then not (kind_unsets x.1) else is_in (runs_in rows spot.0) spot.1) (not_here (list_eq (cell_line x.0) spot.0) refl))
      where
        not_here : (k : Bool) → list_eq (cell_line x.0) spot.0 ≡ k → (k && in_range (cell_lo x.0) (cell_hi x.0) spot.1) ≡ false
        not_here true k = absurd (true≢false (sym (eq-eqb (row_object (row_of x.0)) object (sym (row_object_is x.0) ∙ (ap line_object (list_eq_true (cell_line x.0) spot.0 k) ∙ e))) ∙ h))
        not_here false k = refl
    by_tests true true true g h =
        ap (λ r. is_in r spot.1) (runs_with x.0 x.1 rows spot.0)
        ∙ (pushed (list_eq (cell_line x.0) spot.0) (effect x.1 (cell_lo x.0) (cell_hi x.0) (runs_in rows spot.0)) (runs_in rows spot.0)
        ∙ (ap (λ t. if list_eq (cell_line x.0) spot.0 then t else is_in (runs_in rows spot.0) spot.1) (effect_in x.1 (cell_lo x.0) (cell_hi x.0) spot.1 (runs_in rows spot.0) g)
        ∙ in_line (list_eq (cell_line x.0) spot.0) (in_run (cell_lo x.0) (cell_hi x.0) spot.1) (not (kind_unsets x.1)) (is_in (runs_in rows spot.0) spot.1)))

after_is : (c : Cell) (xs : List (Cells × AccessKind)) (b : Bool) → after (cell_spot c) xs b ≡ (if row_writes c xs then not (row_unsets c xs) else b)
unfolding covers
after_is c [] b = refl
after_is c (x ∷ xs) b = after_is c xs (if kind_writes x.1 && covers_spot cell_sort x.0 (cell_spot c) then not (kind_unsets x.1) else b) ∙ by_tests (row_writes c xs) (covers_spot cell_sort x.0 (cell_spot c)) (kind_writes x.1)
  where
    by_tests : (w d k : Bool) → (if w then not (row_unsets c xs) else (if k && d then not (kind_unsets x.1) else b)) ≡ (if (d && k) || w then not (if w then row_unsets c xs else (d && kind_unsets x.1)) else b)
    by_tests true true true = refl
    by_tests true true false = refl
    by_tests true false k = refl
    by_tests false true true = refl
    by_tests false true false = refl
    by_tests false false true = refl
    by_tests false false false = refl

-- The cells that are set after accesses.
pub set_after : (kept noted : SetRows) (xs : List (Cells × AccessKind)) (c : Cell) → IsAfter kept xs noted → set_at noted (cell_spot c) ≡ (if row_writes c xs then not (row_unsets c xs) else set_at kept (cell_spot c))
set_after kept noted xs c is =
    ap (λ rows. is_in (runs_in rows (cell_spot c).0) (cell_spot c).1) (is (line_object (cell_spot c).0))
    ∙ (rows_are (line_object (cell_spot c).0) xs (rows_in kept (line_object (cell_spot c).0)) (cell_spot c) refl
    ∙ after_is c xs (set_at kept (cell_spot c)))

-- A state with a step noted stands for the steps with it.
pub noted_keeps : (kept noted : SetRows) (s : Step) (steps : List Step) → IsNoted kept s noted → KeepsSet kept steps → KeepsSet noted (steps ++ s ∷ [])
unfolding writes unsets
noted_keeps kept noted s steps is keeps c =
    set_after kept noted s.accesses c is
    ∙ (by_writes (row_writes c s.accesses) (row_unsets c s.accesses)
    ∙ sym (ap not (is_unset_more c steps s)))
  where
    by_writes : (w u : Bool) → (if w then not u else set_at kept (cell_spot c)) ≡ not (if w then u else is_unset steps c)
    by_writes true u = refl
    by_writes false u = keeps c
