-- What is known of the touches of a bundle is of usage scopes.
use Rattle.std.specs.Prelude.{filter}
use Rattle.std.proofs.Common.{◌≡◌, ℕ, ◌==◌, List, [], ◌∷◌, ◌++◌, map, Bool, true, false, cond, ap, refl, sym, ◌∙◌, true≢false}
use Rattle.std.proofs.lemmas.Bool.{and_parts}
use Rattle.wg_types.specs.declared.bundles.BundleTouch.{BundleTouch}
use Rattle.wg_types.specs.declared.bundles.BundleUse.{BundleUse}
use Rattle.wg_types.specs.declared.bundles.BundleUse.TheVariants.{Input, Constant, StorageRead, Storage as StorageUse}
use Rattle.wg_rows.specs.Rows.{EachRow}
use Rattle.wg_rows.specs.Runs.{PartRun, BufferPart, LayerParts, QueryPart, Cells, Bytes, Layers, Slices, Queries, part_sort, cell_sort, run_part}
use Rattle.wg_rows.specs.Uses.{AccessKind, same_kind, printed_accesses}
use Rattle.wg_rows.specs.Sets.{UseRow, sets}
use Rattle.wg_model.specs.Touches.{Touch, use_of, access_of, has_cells, is_scoped, deed_of}
use Rattle.wg_model.specs.Bundles.{bundle_how, is_used_so, no_cells, part_touched, cells_touched, touched_so, bundle_touches}
use Rattle.wg_model.proofs.StepLaws.{each_joined}
use Rattle.wg_history.proofs.PrintedRuns.{EachRun, Widened, printed_each, sets_each}
use Rattle.wg_shaped.proofs.Scoping.{Told, Reads, Stores, Attaches, WritesQueries, AreTold}
use Rattle.wg_shaped.proofs.Telling.{IsScoped}

abbrev IsScopedPart : PartRun → Type 0
IsScopedPart run = IsScoped (no_cells run)

part_widened : Widened part_sort IsScopedPart
part_widened (BufferPart object) from to e = e
part_widened (LayerParts object aspect mip lo hi) from to e = e
part_widened (QueryPart object) from to e = e

cells_widened : Widened cell_sort IsScoped
cells_widened (Bytes object lo hi) from to e = e
cells_widened (Layers object aspect mip lo hi) from to e = e
cells_widened (Slices object mip lo hi) from to e = e
cells_widened (Queries object lo hi) from to e = e

part_scoped : (run : Cells) → IsScoped run → IsScopedPart (run_part run)
part_scoped (Bytes object lo hi) e = refl
part_scoped (Layers object aspect mip lo hi) e = refl
part_scoped (Slices object mip lo hi) e = refl
part_scoped (Queries object lo hi) e = e

-- what is used as bundles use it is no query
no_query : (used : BundleUse) → 256 == (bundle_how used).0.0 ≡ false
no_query Input = refl
no_query Constant = refl
no_query StorageRead = refl
no_query StorageUse = refl

used_scoped : (used : BundleUse) (t : Touch) → Told t → is_used_so used t ≡ true → IsScoped t.0
used_scoped used t (Reads s r w a k) e = s
used_scoped used t (Stores s r w a k) e = s
used_scoped used t (Attaches s r w a) e = s
used_scoped used t (WritesQueries s q k) e =
    absurd (true≢false (sym (and_parts (t.1.0.0 == (bundle_how used).0.0) (same_kind t.1.1 (bundle_how used).1) e).0 ∙ (ap (λ (n : ℕ). n == (bundle_how used).0.0) q ∙ no_query used)))

abbrev AreScoped : List Touch → Type 0
AreScoped touches = EachRow (λ (t : Touch). IsScoped t.0) touches

filtered_scoped : (used : BundleUse) (touches : List Touch) → AreTold touches → AreScoped (filter (is_used_so used) touches)
filtered_scoped used [] told = tt
filtered_scoped used (t ∷ touches) told = by_test (is_used_so used t) refl (filtered_scoped used touches told.1)
  where
    by_test : (b : Bool) → is_used_so used t ≡ b → AreScoped (filter (is_used_so used) touches) → AreScoped (cond b (t ∷ filter (is_used_so used) touches) (filter (is_used_so used) touches))
    by_test true e rest = (used_scoped used t told.0 e, rest)
    by_test false e rest = rest

uses_scoped : (touches : List Touch) → AreScoped touches → EachRun IsScopedPart (map use_of touches)
uses_scoped [] h = tt
uses_scoped (t ∷ touches) h = (part_scoped t.0 h.0, uses_scoped touches h.1)

accesses_scoped : (touches : List Touch) → AreScoped touches → EachRun IsScoped (filter has_cells (map access_of touches))
accesses_scoped [] h = tt
accesses_scoped (t ∷ touches) h = by_test (has_cells (access_of t)) (accesses_scoped touches h.1)
  where
    by_test : (b : Bool) → EachRun IsScoped (filter has_cells (map access_of touches)) → EachRun IsScoped (cond b (access_of t ∷ filter has_cells (map access_of touches)) (filter has_cells (map access_of touches)))
    by_test true rest = (h.0, rest)
    by_test false rest = rest

-- the touches of a bundle
abbrev pub AreFairTouches : List BundleTouch → Type 0
AreFairTouches touches = EachRow (λ (touch : BundleTouch). is_scoped touch.cells ≡ true) touches

parts_fair : (used : BundleUse) (rows : List UseRow) → EachRun IsScopedPart rows → AreFairTouches (map (part_touched used) rows)
parts_fair used [] h = tt
parts_fair used (row ∷ rows) h = (h.0, parts_fair used rows h.1)

cells_fair : (used : BundleUse) (rows : List (Cells × AccessKind)) → EachRun IsScoped rows → AreFairTouches (map (cells_touched used) rows)
cells_fair used [] h = tt
cells_fair used (row ∷ rows) h = (h.0, cells_fair used rows h.1)

so_fair : (used : BundleUse) (touches : List Touch) → AreTold touches → AreFairTouches (touched_so used touches)
unfolding deed_of
so_fair used touches told =
    let these : List Touch = filter (is_used_so used) touches in
    let scoped : AreScoped these = filtered_scoped used touches told in
    each_joined (λ (touch : BundleTouch). is_scoped touch.cells ≡ true) (map (part_touched used) (sets (map use_of these))) (map (cells_touched used) (printed_accesses (filter has_cells (map access_of these))))
    (parts_fair used (sets (map use_of these)) (sets_each IsScopedPart part_widened (map use_of these) (uses_scoped these scoped)))
    (cells_fair used (printed_accesses (filter has_cells (map access_of these))) (printed_each cell_sort same_kind IsScoped cells_widened (filter has_cells (map access_of these)) (accesses_scoped these scoped)))

both_fair : (xs ys : List BundleTouch) → AreFairTouches xs → AreFairTouches ys → AreFairTouches (xs ++ ys)
both_fair xs ys h k = each_joined (λ (touch : BundleTouch). is_scoped touch.cells ≡ true) xs ys h k

pub touches_fair : (touches : List Touch) → AreTold touches → AreFairTouches (bundle_touches touches)
unfolding bundle_touches
touches_fair touches told =
    both_fair (touched_so Input touches) _ (so_fair Input touches told)
    (both_fair (touched_so Constant touches) _ (so_fair Constant touches told)
    (both_fair (touched_so StorageRead touches) _ (so_fair StorageRead touches told) (so_fair StorageUse touches told)))
