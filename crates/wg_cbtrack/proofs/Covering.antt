-- Accesses to cells that rows cover, which change nothing.
use Rattle.std.proofs.Common.{◌≡◌, ℕ, zero, suc, ◌<◌, ◌≤◌, List, [], ◌∷◌, ◌++◌, Bool, true, false, ◌||◌, ◌&&◌, Option, Some, None, refl, ap, sym, ◌∙◌, subst, arith, if◌then◌else◌, true≢false, length, get_or}
use Rattle.std.specs.Option.{option_map_or, option_and_then}
use Rattle.std.proofs.lemmas.Bool.{lt-ltb, or_right}
use Rattle.wg_rows.specs.Rows.{Spot, covers_spot, EachRow, Apart, Fits, list_eq, has_value, put}
use Rattle.wg_rows.specs.Cut.{value_at, inside, put_all, overwrite}
use Rattle.wg_rows.specs.Runs.{Cells, cell_sort, cell_line, cell_lo, cell_hi}
use Rattle.wg_rows.specs.Uses.{AccessKind, Read, Write, Drop, same_kind, kind_writes, kind_unsets}
use Rattle.wg_init.specs.Effects.{is_full}
use Rattle.wg_rows.proofs.Put.{list_eq_true, put_any, Respects}
use Rattle.wg_rows.proofs.Printed.{covers_from, put_apart, respects, rows_unique}
use Rattle.wg_rows.proofs.Runs.{cell_widens}
use Rattle.wg_rows.proofs.Sets.{covered}
use Rattle.wg_rows.proofs.Told.{accesses_tell}
use Rattle.wg_rows.proofs.Values.{Loose, apart_loose, inside_value, inside_loose, choose_value, choose_loose, gaps_are, has_at, overwrite_value, overwrite_apart}
use Rattle.wg_rows.proofs.Chained.{put_all_more}
use Rattle.wg_cbtrack.specs.Leaves.{AllOf, AreTidy, left_kind, cleared_kind, unset_pieces, unwritten_pieces}
use Rattle.wg_cbtrack.specs.Covered.{CoveredBy}
use Rattle.wg_cbtrack.proofs.Local.{same_values}
use Rattle.wg_cbtrack.proofs.Leaving.{cell_clips, put_any_all, put_each, unwritten_are, each_from, each_to}

-- A row shows its value.
shown_at : (rows : List (Cells × AccessKind)) (i : ℕ) (d : Cells × AccessKind) (spot : Spot) → Loose cell_sort rows → i < length rows → covers_spot cell_sort (get_or rows i d).0 spot ≡ true → value_at cell_sort spot rows ≡ Some (get_or rows i d).1
shown_at [] i d spot l n e = absurd (omega arith)
shown_at (x ∷ xs) zero d spot l n e = ap (λ b. if b then Some x.1 else value_at cell_sort spot xs) e
shown_at (x ∷ xs) (suc i) d spot l n e = by_cover (covers_spot cell_sort x.0 spot) refl (shown_at xs i d spot l.2 (omega arith) e)
  where
    by_cover : (b : Bool) → covers_spot cell_sort x.0 spot ≡ b → value_at cell_sort spot xs ≡ Some (get_or xs i d).1 → (if b then Some x.1 else value_at cell_sort spot xs) ≡ Some (get_or xs i d).1
    by_cover true k h = let none_is_some : None ≡ Some (get_or xs i d).1 = sym (l.1 spot k) ∙ h in absurd (cc)
    by_cover false k h = h

pub covered_at : (rows : List (Cells × AccessKind)) (i : ℕ) (d : Cells × AccessKind) (run : Cells) (kind : AccessKind) → Apart cell_sort rows → i < length rows → (get_or rows i d).1 ≡ kind → list_eq (cell_line (get_or rows i d).0) (cell_line run) ≡ true → cell_lo (get_or rows i d).0 ≤ cell_lo run → cell_hi run ≤ cell_hi (get_or rows i d).0 → CoveredBy rows run kind
covered_at rows i d run kind a n k e lo hi = λ spot c.
    let of_run : (cell_line run ≡ spot.0) × (cell_lo run ≤ spot.1) × (spot.1 < cell_hi run) = covered cell_sort run spot c in
    shown_at rows i d spot (apart_loose cell_sort rows a) n (covers_from cell_sort (get_or rows i d).0 spot (list_eq_true (cell_line (get_or rows i d).0) (cell_line run) e ∙ of_run.0) (omega (arith, lo, of_run.1)) (omega (arith, hi, of_run.2))) ∙ ap Some k

-- Rows that show nothing are none.
nothing : (rows : List (Cells × AccessKind)) → Loose cell_sort rows → ((spot : Spot) → value_at cell_sort spot rows ≡ None) → rows ≡ []
nothing [] l h = refl
nothing (x ∷ xs) l h =
    let itself : covers_spot cell_sort x.0 (cell_line x.0, cell_lo x.0) ≡ true = covers_from cell_sort x.0 (cell_line x.0, cell_lo x.0) refl (omega arith) (omega (arith, l.0)) in
    let none_is_some : None ≡ Some x.1 = sym (h (cell_line x.0, cell_lo x.0)) ∙ ap (λ b. if b then Some x.1 else value_at cell_sort (cell_line x.0, cell_lo x.0) xs) itself in
    absurd (cc)

pub covered_unset : (leaves : List (Cells × AccessKind)) (run : Cells) → Apart cell_sort leaves → CoveredBy leaves run Write → unset_pieces leaves run ≡ []
covered_unset leaves run a h = nothing (unset_pieces leaves run) (choose_loose cell_sort cleared_kind (inside cell_sort run leaves) inner) (λ spot. choose_value cell_sort cleared_kind (inside cell_sort run leaves) spot inner ∙ (ap (option_and_then cleared_kind) (inside_value cell_sort cell_clips run leaves spot) ∙ by_cover spot (covers_spot cell_sort run spot) refl))
  where
    inner : Loose cell_sort (inside cell_sort run leaves)
    inner = inside_loose cell_sort cell_clips run leaves (apart_loose cell_sort leaves a)

    by_cover : (spot : Spot) (b : Bool) → covers_spot cell_sort run spot ≡ b → option_and_then cleared_kind (if b then value_at cell_sort spot leaves else None) ≡ None
    by_cover spot true k = ap (option_and_then cleared_kind) (h spot k)
    by_cover spot false k = refl

pub covered_gaps : (leaves : List (Cells × AccessKind)) (run : Cells) → Apart cell_sort leaves → cell_lo run < cell_hi run → CoveredBy leaves run Write → unwritten_pieces leaves run ≡ []
covered_gaps leaves run a n h = nothing (unwritten_pieces leaves run) (apart_loose cell_sort (unwritten_pieces leaves run) found.0) (λ spot. found.1 spot ∙ by_cover spot (covers_spot cell_sort run spot) refl)
  where
    found : Apart cell_sort (unwritten_pieces leaves run) × ((spot : Spot) → value_at cell_sort spot (unwritten_pieces leaves run) ≡ option_map_or (λ (v : AccessKind). None) (value_at cell_sort spot leaves) (value_at cell_sort spot ((run, Read) ∷ [])))
    found = gaps_are cell_sort cell_clips ((run, Read) ∷ []) leaves (n, tt, tt) (apart_loose cell_sort leaves a)

    or_none : (o : Option AccessKind) → ◌≡◌ {A = Option AccessKind} (option_map_or (λ (v : AccessKind). None) o None) None
    or_none None = refl
    or_none (Some v) = refl

    by_cover : (spot : Spot) (b : Bool) → covers_spot cell_sort run spot ≡ b → option_map_or (λ (v : AccessKind). None) (value_at cell_sort spot leaves) (if b then Some Read else None) ≡ None
    by_cover spot true k = ap (λ (o : Option AccessKind). option_map_or (λ (v : AccessKind). None) o (Some Read)) (h spot k)
    by_cover spot false k = or_none (value_at cell_sort spot leaves)

-- What stands and is put again changes nothing.
pub fits_reads : (run : Cells) (rows : List (Cells × AccessKind)) → EachRow (λ row. row.1 ≡ Read) rows → EachRow (Fits cell_sort (run, Read)) rows
fits_reads run [] h = tt
fits_reads run (x ∷ xs) h = (λ spot p q. sym h.0, fits_reads run xs h.1)

pub put_same : (wants : List (Cells × AccessKind)) (run : Cells) → EachRow (λ row. row.1 ≡ Read) wants → Apart cell_sort wants → cell_lo run < cell_hi run → CoveredBy wants run Read → put cell_sort same_kind (run, Read) wants ≡ wants
put_same wants run reads a n h = rows_unique cell_sort same_kind accesses_tell (put cell_sort same_kind (run, Read) wants) wants (put_apart cell_sort same_kind accesses_tell (run, Read) wants n a (fits_reads run wants reads)) a (λ spot v. put_any cell_sort same_kind spot (same_kind v) cell_widens (respects cell_sort same_kind accesses_tell v) (run, Read) wants ∙ by_cover spot v (covers_spot cell_sort run spot) refl)
  where
    or_itself : (b : Bool) → (b || b) ≡ b
    or_itself true = refl
    or_itself false = refl

    by_cover : (spot : Spot) (v : AccessKind) (b : Bool) → covers_spot cell_sort run spot ≡ b → ((b && same_kind v Read) || has_value cell_sort same_kind spot v wants) ≡ has_value cell_sort same_kind spot v wants
    by_cover spot v true k =
        let held : has_value cell_sort same_kind spot v wants ≡ same_kind v Read = has_at cell_sort same_kind spot v wants (apart_loose cell_sort wants a) ∙ ap (λ (o : Option AccessKind). option_map_or (same_kind v) o false) (h spot k) in
        ap (λ b. same_kind v Read || b) held ∙ (or_itself (same_kind v Read) ∙ sym held)
    by_cover spot v false k = refl

pub over_same : (leaves : List (Cells × AccessKind)) (run : Cells) → Apart cell_sort leaves → cell_lo run < cell_hi run → CoveredBy leaves run Write → overwrite cell_sort same_kind (run, Write) leaves ≡ leaves
over_same leaves run a n h = same_values cell_sort same_kind accesses_tell (overwrite cell_sort same_kind (run, Write) leaves) leaves (overwrite_apart cell_sort same_kind accesses_tell cell_clips (run, Write) leaves n a) a (λ spot. overwrite_value cell_sort same_kind accesses_tell cell_clips (run, Write) leaves spot n a ∙ by_cover spot (covers_spot cell_sort run spot) refl)
  where
    by_cover : (spot : Spot) (b : Bool) → covers_spot cell_sort run spot ≡ b → (if b then Some Write else value_at cell_sort spot leaves) ≡ value_at cell_sort spot leaves
    by_cover spot true k = sym (h spot k)
    by_cover spot false k = refl

-- What an access writes over what was written so leaves that as it was.
pub left_same : (rows : List (Cells × AccessKind)) (x : Cells × AccessKind) → Apart cell_sort rows → kind_unsets x.1 ≡ false → cell_lo x.0 < cell_hi x.0 → CoveredBy rows x.0 Write → rows ≡ (if kind_writes x.1 && is_full x.0 then overwrite cell_sort same_kind (x.0, left_kind x.1) rows else rows)
left_same rows x a u n c = by_test (kind_writes x.1 && is_full x.0)
  where
    by_test : (b : Bool) → rows ≡ (if b then overwrite cell_sort same_kind (x.0, left_kind x.1) rows else rows)
    by_test true = sym (ap (λ (b : Bool). overwrite cell_sort same_kind (x.0, if b then Drop else Write) rows) u ∙ over_same rows x.0 a n c)
    by_test false = refl

-- Reads that are put among reads.
reads_respect : Respects same_kind (same_kind Read)
reads_respect = respects cell_sort same_kind accesses_tell Read

is_read : (o : Option AccessKind) → option_map_or (same_kind Read) o false ≡ true → o ≡ Some Read
is_read None e = absurd (true≢false (sym e))
is_read (Some k) e = ap Some (sym (accesses_tell.equal Read k e))

pub covered_more : (ps wants : List (Cells × AccessKind)) (run : Cells) → AllOf Read wants → AllOf Read (put_all cell_sort same_kind ps wants) → CoveredBy wants run Read → CoveredBy (put_all cell_sort same_kind ps wants) run Read
covered_more ps wants run reads more h = λ spot c.
    let held : has_value cell_sort same_kind spot Read wants ≡ true = has_at cell_sort same_kind spot Read wants (apart_loose cell_sort wants reads.1) ∙ ap (λ (o : Option AccessKind). option_map_or (same_kind Read) o false) (h spot c) in
    is_read (value_at cell_sort spot (put_all cell_sort same_kind ps wants)) (sym (has_at cell_sort same_kind spot Read (put_all cell_sort same_kind ps wants) (apart_loose cell_sort (put_all cell_sort same_kind ps wants) more.1)) ∙ (put_any_all spot (same_kind Read) reads_respect ps wants ∙ or_right (has_value cell_sort same_kind spot Read ps) (has_value cell_sort same_kind spot Read wants) held))

-- a read that is wanted already,
pub put_held : (ps wants : List (Cells × AccessKind)) (run : Cells) → AllOf Read wants → AllOf Read (put_all cell_sort same_kind ps wants) → cell_lo run < cell_hi run → CoveredBy wants run Read → put_all cell_sort same_kind ps wants ≡ put_all cell_sort same_kind ((run, Read) ∷ []) (put_all cell_sort same_kind ps wants)
put_held ps wants run reads more n c = sym (put_same (put_all cell_sort same_kind ps wants) run more.0 more.1 n (covered_more ps wants run reads more c))

-- and one that is put behind others.
pub put_behind_all : (ps later wants : List (Cells × AccessKind)) (run : Cells) → later ≡ ps ++ (run, Read) ∷ [] → put_all cell_sort same_kind later wants ≡ put_all cell_sort same_kind ((run, Read) ∷ []) (put_all cell_sort same_kind ps wants)
put_behind_all ps later wants run e = ap (λ qs. put_all cell_sort same_kind qs wants) e ∙ put_all_more cell_sort same_kind ps ((run, Read) ∷ []) wants

reads_put : (wants leaves ps : List (Cells × AccessKind)) (run : Cells) → AreTidy wants leaves → cell_lo run < cell_hi run → AllOf Read (put_all cell_sort same_kind ps wants) → AllOf Read (put_all cell_sort same_kind (unwritten_pieces leaves run) (put_all cell_sort same_kind ps wants))
reads_put wants leaves ps run tidy n reads =
    let pieces = unwritten_are leaves tidy.left tidy.written run (lt-ltb (cell_lo run) (cell_hi run) n) in
    let all = put_each Read (unwritten_pieces leaves run) (put_all cell_sort same_kind ps wants) pieces.0 pieces.1 (each_from Read (put_all cell_sort same_kind ps wants) reads.0) reads.1 in
    (each_to Read (put_all cell_sort same_kind (unwritten_pieces leaves run) (put_all cell_sort same_kind ps wants)) all.0, all.1)

pub held_more : (wants leaves ps later : List (Cells × AccessKind)) (run : Cells) → AreTidy wants leaves → cell_lo run < cell_hi run → AllOf Read (put_all cell_sort same_kind ps wants) → put_all cell_sort same_kind later wants ≡ put_all cell_sort same_kind (unwritten_pieces leaves run) (put_all cell_sort same_kind ps wants) → AllOf Read (put_all cell_sort same_kind later wants)
held_more wants leaves ps later run tidy n reads e = subst (AllOf Read) (sym e) (reads_put wants leaves ps run tidy n reads)
