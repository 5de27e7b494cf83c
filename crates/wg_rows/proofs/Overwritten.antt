-- What holds of the lines of rows holds after one is put, and after one is written over others.
use Rattle.std.proofs.Common.{◌≡◌, ℕ, ◌<◌, List, [], ◌∷◌, Bool, true, false, Option, Some, None, refl, ap, sym, ◌∙◌, subst}
use Rattle.wg_rows.specs.Rows.{Sort, meet, run_before, joined, put_at, put, EachRow, Apart}
use Rattle.wg_rows.specs.Cut.{cut_row, cut, overwrite}
use Rattle.wg_rows.proofs.Put.{Widens, both_of, joined_some}
use Rattle.wg_rows.proofs.Printed.{each_row_map}
use Rattle.wg_rows.proofs.Cut.{Clips, Piece, cut_pieces, each_cut}

pub each_put : {R V : Type 0} (sort : Sort R) (same : V → V → Bool) (P : List ℕ → Type 0) → Widens sort → (r : R × V) (rows : List (R × V)) → P (sort.line r.0) → EachRow (λ x. P (sort.line x.0)) rows → EachRow (λ x. P (sort.line x.0)) (put sort same r rows)
each_put sort same P widens r [] p h = (p, tt)
each_put {R} {V} sort same P widens r (x ∷ xs) p h = by_joined (joined sort same x r) refl (run_before sort r.0 x.0) (λ row q. each_put sort same P widens row xs q h.1)
  where
    by_joined : (o : Option (R × V)) → joined sort same x r ≡ o → (b : Bool) → ((row : R × V) → P (sort.line row.0) → EachRow (λ x. P (sort.line x.0)) (put sort same row xs)) → EachRow (λ x. P (sort.line x.0)) (put_at (λ row. put sort same row xs) r x xs b o)
    by_joined (Some both) e b later =
        let joins : (same x.1 r.1 ≡ true) × (meet sort x.0 r.0 ≡ true) × (both.0 ≡ both_of sort x.0 r.0) × (both.1 ≡ r.1) = joined_some sort same x r both e in
        later both (subst P (sym (ap sort.line joins.2 ∙ (widens x.0 r.0 joins.1).0)) h.0)
    by_joined None e true later = (p, h)
    by_joined None e false later = (h.0, later r p)

full_rows : {R V : Type 0} (sort : Sort R) (rows : List (R × V)) (Q : R × V → Type 0) → Apart sort rows → EachRow Q rows → EachRow (λ x. (sort.lo x.0 < sort.hi x.0) × Q x) rows
full_rows sort [] Q a h = tt
full_rows sort (x ∷ xs) Q a h = ((a.0, h.0), full_rows sort xs Q a.2 h.1)

pub each_overwrite : {R V : Type 0} (sort : Sort R) (same : V → V → Bool) (P : List ℕ → Type 0) → Widens sort → Clips sort → (r : R × V) (rows : List (R × V)) → P (sort.line r.0) → Apart sort rows → EachRow (λ x. P (sort.line x.0)) rows → EachRow (λ x. P (sort.line x.0)) (overwrite sort same r rows)
each_overwrite {R} {V} sort same P widens clips r rows p a h = each_put sort same P widens r (cut sort r.0 rows) p (each_cut sort r.0 (λ x. (sort.lo x.0 < sort.hi x.0) × P (sort.line x.0)) (λ x. P (sort.line x.0)) (λ x k. each_row_map (Piece sort x) (λ y. P (sort.line y.0)) (λ y g. subst P (sym g.line) k.1) (cut_row sort r.0 x) (cut_pieces sort clips r.0 x k.0)) rows (full_rows sort rows (λ x. P (sort.line x.0)) a h))
