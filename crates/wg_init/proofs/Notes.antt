-- Notes of accesses.
use Rattle.std.proofs.Common.{◌≡◌, ℕ, ◌+◌, ◌<◌, ◌&&◌, List, [], ◌∷◌, length, drop, get_or, Bool, true, false, ◌==◌, refl, ap, sym, ◌∙◌, if◌then◌else◌, subst, eqb-true, true≢false, nat_lt, arith}
use Rattle.std.proofs.lemmas.List.{at_drop_more}
use Rattle.wg_rows.specs.Runs.{Cells, cell_spot, cell_line, cell_lo, cell_hi}
use Rattle.wg_rows.specs.Uses.{AccessKind, kind_writes, kind_unsets}
use Rattle.wg_orders.specs.Steps.{Step}
use Rattle.std.proofs.lemmas.Bool.{ltb-true, lt-leb}
use Rattle.wg_rows.specs.Rows.{line_object, list_eq}
use Rattle.wg_num.specs.Runs.{Runs, AreApart, is_in, insert_run, remove_run, with_run, cut_runs, covers_run}
use Rattle.wg_num.proofs.Members.{with_apart, cut_apart}
use Rattle.wg_init.proofs.Effects.{runs_with}
use Rattle.wg_bars.specs.Kept.{rows_in, over, with_notes, SetsNote, SameRows}
use Rattle.wg_init.specs.Rows.{row_line, row_of, row_object, SetRow, SetRows, runs_in, KeepsSet, RunsApart}
use Rattle.wg_init.specs.Effects.{effect, with_effect, is_full, changes_at, rows_after, IsAfter, AreNotes, NotesOne}
use Rattle.wg_bars.proofs.Notes.{noted_rows}

pub one_noted : (kept : SetRows) (fresh set : List (ℕ × List SetRow)) (x : Cells × AccessKind) (rows : List SetRow) → kind_writes x.1 ≡ true → is_full x.0 ≡ true → rows ≡ with_effect x.0 x.1 (over fresh (row_object (row_of x.0)) (rows_in kept (row_object (row_of x.0)))) → SetsNote fresh (row_object (row_of x.0)) rows set → NotesOne kept fresh x set
one_noted kept fresh set x rows w f e sets object =
    sets object (rows_in kept object)
    ∙ (ap (λ (r : List SetRow). if row_object (row_of x.0) == object then r else over fresh object (rows_in kept object)) e
    ∙ (by_same (row_object (row_of x.0) == object) refl
    ∙ sym (ap (λ t. if t && (row_object (row_of x.0) == object) then with_effect x.0 x.1 (over fresh object (rows_in kept object)) else over fresh object (rows_in kept object)) both)))
  where
    both : (kind_writes x.1 && is_full x.0) ≡ true
    both = ap (λ t. t && is_full x.0) w ∙ f

    by_same : (b : Bool) → (row_object (row_of x.0) == object) ≡ b → (if b then with_effect x.0 x.1 (over fresh (row_object (row_of x.0)) (rows_in kept (row_object (row_of x.0)))) else over fresh object (rows_in kept object)) ≡ (if b then with_effect x.0 x.1 (over fresh object (rows_in kept object)) else over fresh object (rows_in kept object))
    by_same true e = ap (λ n. with_effect x.0 x.1 (over fresh n (rows_in kept n))) (eqb-true (row_object (row_of x.0)) object e)
    by_same false e = refl

-- Covered cells stay as they are,
pub effect_same : (run : Cells) (kind : AccessKind) (rows : List SetRow) → kind_unsets kind ≡ false → cell_lo run < cell_hi run → covers_run (cell_lo run) (cell_hi run) (runs_in rows (cell_line run)) ≡ true → insert_run (cell_lo run) (cell_hi run) (runs_in rows (cell_line run)) ≡ runs_in rows (cell_line run) → with_effect run kind rows ≡ rows
effect_same run kind [] sets full covers same = absurd (true≢false (sym covers ∙ lt-leb (cell_hi run) (cell_lo run) full))
effect_same run kind (x ∷ xs) sets full covers same = by_row (list_eq (row_line x.0) (cell_line run)) covers same (effect_same run kind xs sets full)
  where
    by_row : (b : Bool) → covers_run (cell_lo run) (cell_hi run) (if b then x.1 else runs_in xs (cell_line run)) ≡ true → insert_run (cell_lo run) (cell_hi run) (if b then x.1 else runs_in xs (cell_line run)) ≡ (if b then x.1 else runs_in xs (cell_line run)) → (covers_run (cell_lo run) (cell_hi run) (runs_in xs (cell_line run)) ≡ true → insert_run (cell_lo run) (cell_hi run) (runs_in xs (cell_line run)) ≡ runs_in xs (cell_line run) → with_effect run kind xs ≡ xs) → (if b then (x.0, effect kind (cell_lo run) (cell_hi run) x.1) ∷ xs else x ∷ with_effect run kind xs) ≡ x ∷ xs
    by_row true c h rest = ap (λ (runs : Runs). (x.0, runs) ∷ xs) (ap (λ b. if b then remove_run (cell_lo run) (cell_hi run) x.1 else insert_run (cell_lo run) (cell_hi run) x.1) sets ∙ h)
    by_row false c h rest = ap (λ more. x ∷ more) (rest c h)

-- so that their write is no note.
pub same_noted : (kept : SetRows) (fresh : List (ℕ × List SetRow)) (x : Cells × AccessKind) → with_effect x.0 x.1 (over fresh (row_object (row_of x.0)) (rows_in kept (row_object (row_of x.0)))) ≡ over fresh (row_object (row_of x.0)) (rows_in kept (row_object (row_of x.0))) → NotesOne kept fresh x fresh
same_noted kept fresh x same object = by_parts (kind_writes x.1 && is_full x.0) (row_object (row_of x.0) == object) refl
  where
    by_parts : (w b : Bool) → (row_object (row_of x.0) == object) ≡ b → over fresh object (rows_in kept object) ≡ (if w && b then with_effect x.0 x.1 (over fresh object (rows_in kept object)) else over fresh object (rows_in kept object))
    by_parts false b e = refl
    by_parts true false e = refl
    by_parts true true e = subst (λ n. over fresh n (rows_in kept n) ≡ with_effect x.0 x.1 (over fresh n (rows_in kept n))) (eqb-true (row_object (row_of x.0)) object e) (sym same)

-- One more access.
pub access_step : (kept : SetRows) (old fresh noted : List (ℕ × List SetRow)) (xs : List (Cells × AccessKind)) (i : ℕ) (d : Cells × AccessKind) → i < length xs → NotesOne kept fresh (get_or xs i d) noted → ((object : ℕ) → rows_after object (drop i xs) (over fresh object (rows_in kept object)) ≡ rows_after object xs (over old object (rows_in kept object))) → (object : ℕ) → rows_after object (drop (i + 1) xs) (over noted object (rows_in kept object)) ≡ rows_after object xs (over old object (rows_in kept object))
access_step kept old fresh noted xs i d l one h object =
    ap (rows_after object (drop (i + 1) xs)) (one object)
    ∙ (sym (at_drop_more (λ ys. rows_after object ys (over fresh object (rows_in kept object))) xs i d l) ∙ h object)

-- Notes of accesses are what these make of rows with earlier notes.
pub over_is : (kept : SetRows) (old new : List (ℕ × List SetRow)) (xs : List (Cells × AccessKind)) → AreNotes kept old xs new → IsAfter (with_notes kept old) xs (with_notes kept new)
over_is kept old new xs notes object =
    noted_rows kept new object
    ∙ (notes object
    ∙ ap (rows_after object xs) (sym (noted_rows kept old object)))

-- The steps of a note: notes over those of objects that have no rows yet, rows made of these, notes put in place.
pub note_is : (kept grown noted : SetRows) (xs : List (Cells × AccessKind)) (begun fresh : List (ℕ × List SetRow)) → ((object : ℕ) → over begun object (rows_in kept object) ≡ rows_in kept object) → AreNotes kept begun xs fresh → SameRows kept grown → noted ≡ with_notes grown fresh → IsAfter kept xs noted
note_is kept grown noted xs begun fresh none notes same put object =
    ap (λ rows. rows_in rows object) put
    ∙ (noted_rows grown fresh object
    ∙ (ap (over fresh object) (same object)
    ∙ (notes object
    ∙ ap (rows_after object xs) (none object))))

-- The runs stay apart.
effect_apart : (kind : AccessKind) (lo hi : ℕ) (runs : Runs) → AreApart 0 runs → AreApart 0 (effect kind lo hi runs)
effect_apart kind lo hi runs a = by_kind (kind_unsets kind) (nat_lt lo hi) refl
  where
    by_kind : (u b : Bool) → nat_lt lo hi ≡ b → AreApart 0 (if u then (if b then cut_runs lo hi runs else runs) else (if b then with_run lo hi runs else runs))
    by_kind true true e = cut_apart 0 lo hi runs (ltb-true lo hi e) a
    by_kind false true e = with_apart 0 lo hi runs (omega arith) (ltb-true lo hi e) a
    by_kind true false e = a
    by_kind false false e = a

abbrev LinesApart : List SetRow → Type 0
LinesApart rows = (line : List ℕ) → AreApart 0 (runs_in rows line)

rows_apart : (object : ℕ) (xs : List (Cells × AccessKind)) (rows : List SetRow) → LinesApart rows → LinesApart (rows_after object xs rows)
rows_apart object [] rows a = a
rows_apart object (x ∷ xs) rows a = rows_apart object xs (if changes_at object x then with_effect x.0 x.1 rows else rows) (by_change (changes_at object x))
  where
    by_line : (b : Bool) (line : List ℕ) → AreApart 0 (if b then effect x.1 (cell_lo x.0) (cell_hi x.0) (runs_in rows line) else runs_in rows line)
    by_line true line = effect_apart x.1 (cell_lo x.0) (cell_hi x.0) (runs_in rows line) (a line)
    by_line false line = a line

    by_change : (b : Bool) → LinesApart (if b then with_effect x.0 x.1 rows else rows)
    by_change true line = subst (AreApart 0) (sym (runs_with x.0 x.1 rows line)) (by_line (list_eq (cell_line x.0) line) line)
    by_change false line = a line

pub after_apart : (kept noted : SetRows) (xs : List (Cells × AccessKind)) → IsAfter kept xs noted → RunsApart kept → RunsApart noted
after_apart kept noted xs is apart object line = subst (λ rows. AreApart 0 (runs_in rows line)) (sym (is object)) (rows_apart object xs (rows_in kept object) (apart object) line)

-- Rows with notes over them that change none are apart, and stand for the same steps.
pub begun_apart : (kept : SetRows) (fresh : List (ℕ × List SetRow)) → ((object : ℕ) → over fresh object (rows_in kept object) ≡ rows_in kept object) → RunsApart kept → RunsApart (with_notes kept fresh)
begun_apart kept fresh same apart object line = subst (λ rows. AreApart 0 (runs_in rows line)) (sym (noted_rows kept fresh object ∙ same object)) (apart object line)

pub begun_keeps : (kept : SetRows) (fresh : List (ℕ × List SetRow)) (steps : List Step) → ((object : ℕ) → over fresh object (rows_in kept object) ≡ rows_in kept object) → KeepsSet kept steps → KeepsSet (with_notes kept fresh) steps
begun_keeps kept fresh steps same keeps c =
    ap (λ rows. is_in (runs_in rows (cell_spot c).0) (cell_spot c).1) (noted_rows kept fresh (line_object (cell_spot c).0) ∙ same (line_object (cell_spot c).0)) ∙ keeps c
