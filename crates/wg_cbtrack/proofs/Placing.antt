-- What a tracker holds after a step that is noted in place.
use Rattle.std.proofs.Common.{◌≡◌, ℕ, ◌<◌, ◌+◌, List, [], ◌∷◌, ◌++◌, Bool, true, false, map, take, drop, length, get_or, refl, ap, ap₂, sym, ◌∙◌, arith, subst, drop-cons, add-one, if◌then◌else◌, ◌&&◌}
use Rattle.std.proofs.lemmas.Bool.{ltb-true}
use Rattle.std.proofs.lemmas.List.{map-append, take-map, drop-map}
use Rattle.wg_trace.specs.declared.steps.Deed.{Deed}
use Rattle.wg_rows.specs.Rows.{Sort, Apart, put}
use Rattle.wg_rows.specs.Cut.{put_all, overwrite}
use Rattle.wg_rows.specs.Runs.{BufferPart, LayerParts, QueryPart, Cells, Bytes, Layers, Slices, Queries, part_sort, cell_sort, part_lo, part_hi, cell_lo, cell_hi}
use Rattle.wg_rows.specs.Uses.{AccessKind, Read, same_set, same_kind, kind_writes}
use Rattle.wg_rows.specs.Sets.{UseRow, sets}
use Rattle.wg_rows.proofs.Order.{sets_kept}
use Rattle.wg_rows.proofs.Printed.{put_apart}
use Rattle.wg_rows.proofs.Put.{Each_value, put_const}
use Rattle.wg_rows.proofs.Sets.{part_clips}
use Rattle.wg_rows.proofs.Told.{uses_tell, accesses_tell}
use Rattle.wg_rows.proofs.Values.{overwrite_apart}
use Rattle.wg_init.specs.Effects.{is_full}
use Rattle.wg_inplace.specs.Place.{Whole}
use Rattle.wg_bars.specs.Changes.{ChangeRow}
use Rattle.wg_cbtrack.specs.declared.kept.Kept.{Kept}
use Rattle.wg_cbtrack.specs.declared.kept.Rows.{Rows}
use Rattle.wg_cbtrack.specs.Join.{inner_changes, opens, used_after}
use Rattle.wg_cbtrack.specs.Items.{noted}
use Rattle.wg_cbtrack.specs.Leaves.{AllOf, left_kind, left_after}
use Rattle.wg_cbtrack.specs.Track.{IsTrack, Holds}
use Rattle.wg_cbtrack.specs.Seen.{AreSeen}
use Rattle.wg_cbtrack.specs.Next.{AreMore}
use Rattle.wg_cbtrack.specs.Placed.{AreReads, IsPlaced}
use Rattle.wg_cbtrack.proofs.Joins.{opens_are}
use Rattle.wg_cbtrack.proofs.Leaving.{cell_clips, cells_are, each_from, each_to, fits_each}
use Rattle.wg_cbtrack.proofs.Nexts.{track_next, noted_more}
use Rattle.wg_cbtrack.proofs.Seeing.{see_next}
use Rattle.wg_cbtrack.proofs.Opening.{opened_put}

pub part_whole : Whole part_sort
part_whole (BufferPart a) = refl
part_whole (LayerParts a b c x y) = refl
part_whole (QueryPart a) = refl

pub cell_whole : Whole cell_sort
cell_whole (Bytes a x y) = refl
cell_whole (Layers a b c x y) = refl
cell_whole (Slices a b x y) = refl
cell_whole (Queries a x y) = refl

-- None or one that is put is what it is.
pub few_put : {R V : Type 0} (sort : Sort R) (same : V → V → Bool) (xs : List (R × V)) → length xs < 2 → xs ≡ put_all sort same xs []
few_put sort same [] l = refl
few_put sort same (x ∷ []) l = refl
few_put sort same (x ∷ (y ∷ ys)) l = absurd (omega (arith, l))

-- The cells that are needed are those of what is wanted.
pub needs_put : (wants : List (Cells × AccessKind)) (needs : List Cells) (i n : ℕ) (all : Cells × AccessKind) → needs ≡ map (λ (row : Cells × AccessKind). row.0) wants → take i needs ++ (all.0 ∷ drop n needs) ≡ map (λ (row : Cells × AccessKind). row.0) (take i wants ++ (all ∷ drop n wants))
needs_put wants needs i n all e = ap₂ (λ (xs ys : List Cells). xs ++ (all.0 ∷ ys)) (ap (take i) e ∙ take-map (λ (row : Cells × AccessKind). row.0) i wants) (ap (drop n) e ∙ drop-map (λ (row : Cells × AccessKind). row.0) n wants) ∙ sym (map-append (λ (row : Cells × AccessKind). row.0) (take i wants) (all ∷ drop n wants))

pub next : {A : Type 0} (xs : List A) (i : ℕ) (d : A) → i < length xs → drop i xs ≡ get_or xs i d ∷ drop (i + 1) xs
next xs i d l = drop-cons xs i d l ∙ ap (λ n. get_or xs i d ∷ drop n xs) (sym (add-one i))

fewer : {A : Type 0} (xs : List A) (i : ℕ) (d : A) → i < length xs → length (drop i xs) ≡ length (drop (i + 1) xs) + 1
fewer xs i d l = ap length (next xs i d l) ∙ sym (add-one (length (drop (i + 1) xs)))

-- The next use.
pub record UsesOn (uses rows0 rows next : List UseRow) (i : ℕ) (d : UseRow) : Type 0 where
  pub full : part_lo (get_or uses i d).0 < part_hi (get_or uses i d).0
  pub on : next ≡ overwrite part_sort same_set (get_or uses i d) rows → (used_after (drop (i + 1) uses) next ≡ used_after uses rows0) × Apart part_sort next × Apart part_sort (drop (i + 1) uses)
  pub fewer : length (drop i uses) ≡ length (drop (i + 1) uses) + 1

pub uses_on : (uses rows0 rows later : List UseRow) (i : ℕ) (d : UseRow) → i < length uses → used_after (drop i uses) rows ≡ used_after uses rows0 → Apart part_sort rows → Apart part_sort (drop i uses) → UsesOn uses rows0 rows later i d
uses_on uses rows0 rows later i d l is a u =
    let more : drop i uses ≡ get_or uses i d ∷ drop (i + 1) uses = next uses i d l in
    let first : Apart part_sort (get_or uses i d ∷ drop (i + 1) uses) = subst (Apart part_sort) more u in
    record {
      full = first.0;
      on = λ e. (ap (used_after (drop (i + 1) uses)) e ∙ (ap (λ us. used_after us rows) (sym more) ∙ is), subst (Apart part_sort) (sym e) (overwrite_apart part_sort same_set uses_tell part_clips (get_or uses i d) rows first.0 a), first.2);
      fewer = fewer uses i d l;
    }

-- The next access.
pub record LeavesOn (xs rows0 rows later : List (Cells × AccessKind)) (i : ℕ) (d : Cells × AccessKind) : Type 0 where
  pub on : later ≡ (if kind_writes (get_or xs i d).1 && is_full (get_or xs i d).0 then overwrite cell_sort same_kind ((get_or xs i d).0, left_kind (get_or xs i d).1) rows else rows) → (left_after (drop (i + 1) xs) later ≡ left_after xs rows0) × Apart cell_sort later
  pub fewer : length (drop i xs) ≡ length (drop (i + 1) xs) + 1

left_apart : (x : Cells × AccessKind) (rows : List (Cells × AccessKind)) → Apart cell_sort rows → Apart cell_sort (if kind_writes x.1 && is_full x.0 then overwrite cell_sort same_kind (x.0, left_kind x.1) rows else rows)
left_apart x rows a = by_tests (kind_writes x.1) (is_full x.0) refl
  where
    by_tests : (b c : Bool) → is_full x.0 ≡ c → Apart cell_sort (if b && c then overwrite cell_sort same_kind (x.0, left_kind x.1) rows else rows)
    by_tests true true e = overwrite_apart cell_sort same_kind accesses_tell cell_clips (x.0, left_kind x.1) rows (ltb-true (cell_lo x.0) (cell_hi x.0) e) a
    by_tests true false e = a
    by_tests false c e = a

pub leaves_on : (xs rows0 rows later : List (Cells × AccessKind)) (i : ℕ) (d : Cells × AccessKind) → i < length xs → left_after (drop i xs) rows ≡ left_after xs rows0 → Apart cell_sort rows → LeavesOn xs rows0 rows later i d
leaves_on xs rows0 rows later i d l is a = record {
  on = λ e. (ap (left_after (drop (i + 1) xs)) e ∙ (ap (λ ys. left_after ys rows) (sym (next xs i d l)) ∙ is), subst (Apart cell_sort) (sym e) (left_apart (get_or xs i d) rows a));
  fewer = fewer xs i d l;
}

-- The next read.
pub record WantsOn (ps rows0 rows later : List (Cells × AccessKind)) (i : ℕ) (d : Cells × AccessKind) : Type 0 where
  pub on : later ≡ put cell_sort same_kind (get_or ps i d) rows → (put_all cell_sort same_kind (drop (i + 1) ps) later ≡ put_all cell_sort same_kind ps rows0) × AllOf Read later × AreReads (drop (i + 1) ps)
  pub fewer : length (drop i ps) ≡ length (drop (i + 1) ps) + 1

all_put : (r : Cells × AccessKind) (rows : List (Cells × AccessKind)) → r.1 ≡ Read → cell_lo r.0 < cell_hi r.0 → AllOf Read rows → AllOf Read (put cell_sort same_kind r rows)
all_put r rows k n a =
    let values : Each_value Read rows = each_from Read rows a.0 in
    (each_to Read (put cell_sort same_kind r rows) (put_const cell_sort same_kind Read r rows k values), put_apart cell_sort same_kind accesses_tell r rows n a.1 (fits_each Read r rows k values))

pub wants_on : (ps rows0 rows later : List (Cells × AccessKind)) (i : ℕ) (d : Cells × AccessKind) → i < length ps → put_all cell_sort same_kind (drop i ps) rows ≡ put_all cell_sort same_kind ps rows0 → AllOf Read rows → AreReads (drop i ps) → WantsOn ps rows0 rows later i d
wants_on ps rows0 rows later i d l is a r =
    let more : drop i ps ≡ get_or ps i d ∷ drop (i + 1) ps = next ps i d l in
    let reads : AreReads (get_or ps i d ∷ drop (i + 1) ps) = subst AreReads more r in
    record {
      on = λ e. (ap (put_all cell_sort same_kind (drop (i + 1) ps)) e ∙ (ap (λ qs. put_all cell_sort same_kind qs rows) (sym more) ∙ is), subst (AllOf Read) (sym e) (all_put (get_or ps i d) rows reads.0.0 reads.0.1 a), reads.1);
      fewer = fewer ps i d l;
    }

-- The uses that open parts are in printed form.
pub opened_apart : (rows us first : List UseRow) → Apart part_sort rows → Apart part_sort us → first ≡ opens rows us → Apart part_sort first
opened_apart rows us first a u e = subst (Apart part_sort) (sym e) (opens_are rows us a u).0

-- The rows after such a step.
pub record PlacedRows (rows later : Rows) (d : Deed) (opened : List UseRow) (pieces : List (Cells × AccessKind)) : Type 0 where
  pub ends : later.ends.items ≡ used_after d.uses rows.ends.items
  pub last : later.last.items ≡ used_after d.uses rows.last.items
  pub starts : later.starts.items ≡ used_after opened rows.starts.items
  pub wants : later.wants.items ≡ put_all cell_sort same_kind pieces rows.wants.items
  pub needs : later.needs.items ≡ map (λ row. row.0) later.wants.items
  pub leaves : later.leaves.items ≡ left_after d.accesses rows.leaves.items

pub placed_more : (rows later : Rows) (k : Kept) (d : Deed) (changes : List ChangeRow) (first opened : List UseRow) (pieces : List (Cells × AccessKind)) → k.deed ≡ d → k.changes ≡ changes → k.first ≡ first → k.is_noted ≡ true → IsPlaced rows d changes first opened pieces → PlacedRows rows later d opened pieces → AreMore rows.ends.items [] d (k ∷ []) later.ends.items
placed_more rows later k d changes first opened pieces kd kc kf kn placed to =
    let same : d.uses ≡ sets d.uses = sets_kept d.uses placed.apart in
    record {
      step = k;
      more = refl;
      steps = record {
        deed = kd;
        changes = kc ∙ (placed.changes_are ∙ ap (inner_changes rows.ends.items) same);
        first = kf ∙ (placed.first_are ∙ ap (opens rows.ends.items) same);
        is_noted = kn;
        after = to.ends ∙ ap (λ us. used_after us rows.ends.items) same;
      };
    }

pub placed_noted : (rows later : Rows) (held : List Kept) (k : Kept) (d : Deed) → AreMore rows.ends.items [] d (k ∷ []) later.ends.items → noted (held ++ k ∷ []) ≡ noted held ++ d ∷ []
placed_noted rows later held k d m = noted_more rows.ends.items later.ends.items [] d (noted held) held (k ∷ []) m refl

pub placed_holds : (rows later : Rows) (held : List Kept) (k : Kept) (d : Deed) (changes : List ChangeRow) (first opened : List UseRow) (pieces : List (Cells × AccessKind)) → Holds (noted held) held rows → IsPlaced rows d changes first opened pieces → PlacedRows rows later d opened pieces → AreMore rows.ends.items [] d (k ∷ []) later.ends.items → Holds (noted (held ++ k ∷ [])) (held ++ k ∷ []) later
placed_holds rows later held k d changes first opened pieces h placed to m =
    let same : d.uses ≡ sets d.uses = sets_kept d.uses placed.apart in
    let grows : noted (held ++ k ∷ []) ≡ noted held ++ d ∷ [] = placed_noted rows later held k d m in
    record {
      track = subst (λ ds. IsTrack ds (held ++ k ∷ []) later.ends.items later.wants.items later.leaves.items) (sym grows) (track_next (noted held) d held (k ∷ []) rows.ends.items later.ends.items rows.wants.items rows.leaves.items [] later.wants.items later.leaves.items h.track (cells_are rows.wants.items rows.leaves.items d.accesses [] later.wants.items rows.leaves.items later.leaves.items h.track.tidy placed.clear (to.wants ∙ placed.wants) refl to.leaves) m);
      seen = subst (λ ds. AreSeen ds later.starts.items later.last.items) (sym grows) (see_next (noted held) d rows.starts.items rows.last.items later.starts.items later.last.items h.seen (to.starts ∙ (opened_put rows.starts.items d.uses opened h.seen.starts.apart placed.apart placed.opened_are ∙ ap (λ xs. put_all part_sort same_set xs rows.starts.items) (placed.opened_are ∙ ap (opens rows.starts.items) same))) (to.last ∙ ap (λ us. used_after us rows.last.items) same));
      needs = to.needs;
    }
