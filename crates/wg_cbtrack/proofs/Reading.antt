-- What accesses read, found from the first of them on.
use Rattle.std.proofs.Common.{◌≡◌, ℕ, ◌<◌, ◌+◌, Bool, true, false, not, ◌&&◌, ◌||◌, List, [], ◌∷◌, drop, length, get_or, refl, ap, sym, ◌∙◌, if◌then◌else◌}
use Rattle.wg_rows.specs.Rows.{Spot, Apart, has_value}
use Rattle.wg_rows.specs.Cut.{put_all}
use Rattle.wg_rows.specs.Runs.{Cells, cell_sort}
use Rattle.wg_rows.specs.Uses.{AccessKind, Read, same_kind, kind_reads, row_writes}
use Rattle.wg_init.specs.Effects.{is_full}
use Rattle.wg_rows.proofs.Put.{Each_value}
use Rattle.wg_rows.proofs.Printed.{respects, rows_unique}
use Rattle.wg_rows.proofs.Told.{accesses_tell}
use Rattle.wg_rows.proofs.Values.{Loose}
use Rattle.wg_cbtrack.specs.Leaves.{AllOf, AreTidy, with_pieces, unset_pieces, unwritten_pieces}
use Rattle.wg_cbtrack.proofs.Leaving.{each_from, put_each, put_any_all, PiecesAre, WithPieces, pieces_put, unwritten_are}
use Rattle.wg_cbtrack.proofs.Placing.{next}

-- Reads may be put among reads in any order,
put_swap : (ps qs rows : List (Cells × AccessKind)) → Loose cell_sort ps → Each_value Read ps → Loose cell_sort qs → Each_value Read qs → Each_value Read rows → Apart cell_sort rows → put_all cell_sort same_kind ps (put_all cell_sort same_kind qs rows) ≡ put_all cell_sort same_kind qs (put_all cell_sort same_kind ps rows)
put_swap ps qs rows lp ep lq eq h a =
    let first = put_each Read ps rows lp ep h a in
    let second = put_each Read qs rows lq eq h a in
    rows_unique cell_sort same_kind accesses_tell (put_all cell_sort same_kind ps (put_all cell_sort same_kind qs rows)) (put_all cell_sort same_kind qs (put_all cell_sort same_kind ps rows)) (put_each Read ps (put_all cell_sort same_kind qs rows) lp ep second.0 second.1).1 (put_each Read qs (put_all cell_sort same_kind ps rows) lq eq first.0 first.1).1 (λ spot v. both spot v ps qs ∙ (swap (has_value cell_sort same_kind spot v ps) (has_value cell_sort same_kind spot v qs) (has_value cell_sort same_kind spot v rows) ∙ sym (both spot v qs ps)))
  where
    both : (spot : Spot) (v : AccessKind) (xs ys : List (Cells × AccessKind)) → has_value cell_sort same_kind spot v (put_all cell_sort same_kind xs (put_all cell_sort same_kind ys rows)) ≡ (has_value cell_sort same_kind spot v xs || (has_value cell_sort same_kind spot v ys || has_value cell_sort same_kind spot v rows))
    both spot v xs ys = put_any_all spot (same_kind v) (respects cell_sort same_kind accesses_tell v) xs (put_all cell_sort same_kind ys rows) ∙ ap (λ t. has_value cell_sort same_kind spot v xs || t) (put_any_all spot (same_kind v) (respects cell_sort same_kind accesses_tell v) ys rows)

    swap : (b c d : Bool) → (b || (c || d)) ≡ (c || (b || d))
    swap true true d = refl
    swap true false d = refl
    swap false true d = refl
    swap false false d = refl

-- so those of one access may be put before those of the accesses behind it.
put_through : (wants leaves ps xs rows : List (Cells × AccessKind)) → AreTidy wants leaves → AllOf Read rows → Loose cell_sort ps → Each_value Read ps → put_all cell_sort same_kind ps (with_pieces (unwritten_pieces leaves) xs rows) ≡ with_pieces (unwritten_pieces leaves) xs (put_all cell_sort same_kind ps rows)
put_through wants leaves ps [] rows tidy reads l e = refl
put_through wants leaves ps (x ∷ xs) rows tidy reads l e = by_test (kind_reads x.1) (is_full x.0) refl (put_through wants leaves ps xs rows tidy reads l e)
  where
    each : PiecesAre Read (λ c. not (row_writes c leaves)) (unwritten_pieces leaves)
    each = unwritten_are leaves tidy.left tidy.written

    inner : WithPieces Read (λ c. not (row_writes c leaves)) (unwritten_pieces leaves) xs rows
    inner = pieces_put Read (λ c. not (row_writes c leaves)) (unwritten_pieces leaves) each xs rows (each_from Read rows reads.0) reads.1

    by_test : (k f : Bool) → is_full x.0 ≡ f → put_all cell_sort same_kind ps (with_pieces (unwritten_pieces leaves) xs rows) ≡ with_pieces (unwritten_pieces leaves) xs (put_all cell_sort same_kind ps rows) → put_all cell_sort same_kind ps (if k && f then put_all cell_sort same_kind (unwritten_pieces leaves x.0) (with_pieces (unwritten_pieces leaves) xs rows) else with_pieces (unwritten_pieces leaves) xs rows) ≡ (if k && f then put_all cell_sort same_kind (unwritten_pieces leaves x.0) (with_pieces (unwritten_pieces leaves) xs (put_all cell_sort same_kind ps rows)) else with_pieces (unwritten_pieces leaves) xs (put_all cell_sort same_kind ps rows))
    by_test true true g h = put_swap ps (unwritten_pieces leaves x.0) (with_pieces (unwritten_pieces leaves) xs rows) l e (each x.0 g).0 (each x.0 g).1 inner.0 inner.1 ∙ ap (put_all cell_sort same_kind (unwritten_pieces leaves x.0)) h
    by_test true false g h = h
    by_test false f g h = h

first_put : (wants leaves xs rows : List (Cells × AccessKind)) (x : Cells × AccessKind) → AreTidy wants leaves → AllOf Read rows → with_pieces (unwritten_pieces leaves) (x ∷ xs) rows ≡ with_pieces (unwritten_pieces leaves) xs (with_pieces (unwritten_pieces leaves) (x ∷ []) rows)
first_put wants leaves xs rows x tidy reads = by_test (kind_reads x.1) (is_full x.0) refl
  where
    by_test : (k f : Bool) → is_full x.0 ≡ f → (if k && f then put_all cell_sort same_kind (unwritten_pieces leaves x.0) (with_pieces (unwritten_pieces leaves) xs rows) else with_pieces (unwritten_pieces leaves) xs rows) ≡ with_pieces (unwritten_pieces leaves) xs (if k && f then put_all cell_sort same_kind (unwritten_pieces leaves x.0) rows else rows)
    by_test true true g =
        let one = unwritten_are leaves tidy.left tidy.written x.0 g in
        put_through wants leaves (unwritten_pieces leaves x.0) xs rows tidy reads one.0 one.1
    by_test true false g = refl
    by_test false f g = refl

-- The next access: what it reads that is not written,
pub wants_next : (wants leaves xs found later : List (Cells × AccessKind)) (i : ℕ) (d : Cells × AccessKind) → AreTidy wants leaves → i < length xs → AllOf Read (put_all cell_sort same_kind found wants) → put_all cell_sort same_kind later wants ≡ with_pieces (unwritten_pieces leaves) (get_or xs i d ∷ []) (put_all cell_sort same_kind found wants) → with_pieces (unwritten_pieces leaves) (drop i xs) (put_all cell_sort same_kind found wants) ≡ with_pieces (unwritten_pieces leaves) xs wants → with_pieces (unwritten_pieces leaves) (drop (i + 1) xs) (put_all cell_sort same_kind later wants) ≡ with_pieces (unwritten_pieces leaves) xs wants
wants_next wants leaves xs found later i d tidy l reads one is = ap (with_pieces (unwritten_pieces leaves) (drop (i + 1) xs)) one ∙ (sym (first_put wants leaves (drop (i + 1) xs) (put_all cell_sort same_kind found wants) (get_or xs i d) tidy reads) ∙ (ap (λ (ys : List (Cells × AccessKind)). with_pieces (unwritten_pieces leaves) ys (put_all cell_sort same_kind found wants)) (sym (next xs i d l)) ∙ is))

-- and nothing of it that is left unset.
pub clear_next : (leaves xs : List (Cells × AccessKind)) (i : ℕ) (d : Cells × AccessKind) → i < length xs → ((kind_reads (get_or xs i d).1 && is_full (get_or xs i d).0) ≡ true → unset_pieces leaves (get_or xs i d).0 ≡ []) → with_pieces (unset_pieces leaves) (drop i xs) [] ≡ with_pieces (unset_pieces leaves) xs [] → with_pieces (unset_pieces leaves) (drop (i + 1) xs) [] ≡ with_pieces (unset_pieces leaves) xs []
clear_next leaves xs i d l none is = by_test (kind_reads (get_or xs i d).1 && is_full (get_or xs i d).0) refl ∙ (ap (λ (ys : List (Cells × AccessKind)). with_pieces (unset_pieces leaves) ys []) (sym (next xs i d l)) ∙ is)
  where
    by_test : (b : Bool) → (kind_reads (get_or xs i d).1 && is_full (get_or xs i d).0) ≡ b → with_pieces (unset_pieces leaves) (drop (i + 1) xs) [] ≡ (if b then put_all cell_sort same_kind (unset_pieces leaves (get_or xs i d).0) (with_pieces (unset_pieces leaves) (drop (i + 1) xs) []) else with_pieces (unset_pieces leaves) (drop (i + 1) xs) [])
    by_test true e = sym (ap (λ ps. put_all cell_sort same_kind ps (with_pieces (unset_pieces leaves) (drop (i + 1) xs) [])) (none e))
    by_test false e = refl
