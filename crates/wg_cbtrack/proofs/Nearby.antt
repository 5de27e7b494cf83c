-- One more step over the rows of the objects that it touches is one over all rows.
use Rattle.std.proofs.Common.{◌≡◌, ℕ, Bool, true, false, not, ◌&&◌, ◌||◌, List, [], ◌∷◌, ◌++◌, map, Option, Some, None, refl, ap, ap₂, sym, ◌∙◌, subst, if◌then◌else◌, true≢false}
use Rattle.std.specs.Option.{option_or, option_and_then, option_map_or}
use Rattle.std.proofs.lemmas.Bool.{and_parts}
use Rattle.wg_trace.specs.declared.steps.Deed.{Deed}
use Rattle.wg_trace.specs.declared.steps.StepPlace.TheVariants.{Host}
use Rattle.wg_rows.specs.Runs.{PartRun, BufferPart, LayerParts, QueryPart, Part, Buffer, Subresource, QuerySet, part_sort, part_line, part_lo, part_spot, run_part, covers_part, Cells, Bytes, Layers, Slices, Queries, Cell, Byte, Texels, Slice, Query, cell_sort, cell_line, cell_lo, cell_spot, covers}
use Rattle.wg_rows.specs.Rows.{line_object, Sort, Spot, covers_spot, EachRow, Apart, any_row, has_value, printed}
use Rattle.wg_rows.specs.Cut.{value_at, inside, gaps, choose, put_all}
use Rattle.wg_rows.specs.Uses.{Usages, AccessKind, Read, Write, same_set, same_kind, same_change, clear_usage, kind_reads, kind_writes, kind_unsets, row_reads, row_writes, row_unsets, row_set, with_usage}
use Rattle.wg_rows.specs.Sets.{UseRow, sets}
use Rattle.wg_orders.specs.Steps.{Step, StepPlace}
use Rattle.wg_bars.specs.Changes.{change_from}
use Rattle.wg_cbtrack.specs.Cleared.{uses_of}
use Rattle.wg_rows.proofs.Runs.{part_widens}
use Rattle.wg_rows.proofs.Printed.{each_row_map}
use Rattle.wg_rows.proofs.Told.{uses_tell, accesses_tell}
use Rattle.wg_rows.proofs.Values.{Loose, apart_loose, AreFree, all_put, has_at}
use Rattle.wg_rows.proofs.Sets.{sets_are}
use Rattle.wg_cbtrack.specs.declared.kept.Kept.{Kept}
use Rattle.wg_cbtrack.specs.declared.kept.Rows.{Rows}
use Rattle.wg_cbtrack.specs.Owners.{among, rows_among, Ordered, AreExchanged}
use Rattle.wg_cbtrack.specs.Near.{use_object, access_object, cells_object, AreOrdered, AreNear, AreSameRows, AreAllExchanged}
use Rattle.wg_cbtrack.specs.Leaves.{AreTidy}
use Rattle.wg_cbtrack.specs.Join.{fold, inner_changes, opens, used_after}
use Rattle.wg_cbtrack.specs.Items.{AreKept, noted}
use Rattle.wg_cbtrack.specs.Track.{inside_at, IsTrack, Holds}
use Rattle.wg_cbtrack.specs.Seen.{AreSeen}
use Rattle.wg_cbtrack.specs.Next.{clear_deed, IsKept, AreMore, AreCells, IsStep, IsSeen, HoldsAfter, FollowsNear}
use Rattle.wg_cbtrack.proofs.Owning.{each_filter, ordered_map, exchanged_map}
use Rattle.wg_cbtrack.proofs.Local.{Keeps, value_among, none_at, apart_ordered, apart_filter, exchanged_value, exchanged_apart, exchanged_each, inside_among, gaps_among, same_values, exchanged_is, each_shown}
use Rattle.wg_rows.proofs.Overwritten.{each_put}
use Rattle.wg_cbtrack.proofs.Joins.{opens_are, used_are, step_used}
use Rattle.wg_cbtrack.proofs.Leaving.{any_loose, writes_loose, unsets_loose}
use Rattle.wg_cbtrack.proofs.Nexts.{track_next, noted_more}
use Rattle.wg_cbtrack.proofs.Seeing.{see_next}
use Rattle.wg_cbtrack.proofs.Whole.{tracks_with, seen_with}

pub part_keeps : Keeps part_sort
part_keeps (BufferPart a) lo hi = refl
part_keeps (LayerParts a b c x y) lo hi = refl
part_keeps (QueryPart a) lo hi = refl

-- Uses of some objects.
abbrev pub AreUses : List ℕ → List UseRow → Type 0
AreUses os us = EachRow (λ u. among os (use_object u) ≡ true) us

abbrev pub AreAccesses : List ℕ → List (Cells × AccessKind) → Type 0
AreAccesses os xs = EachRow (λ x. among os (access_object x) ≡ true) xs

-- The first part of a run, and its first cell.
abbrev first_part : PartRun → Part
first_part (BufferPart a) = Buffer a
first_part (LayerParts a b c lo hi) = Subresource a b c lo
first_part (QueryPart a) = QuerySet a

part_first : (run : PartRun) → part_spot (first_part run) ≡ (part_line run, part_lo run)
part_first (BufferPart a) = refl
part_first (LayerParts a b c lo hi) = refl
part_first (QueryPart a) = refl

abbrev first_cell : Cells → Cell
first_cell (Bytes a lo hi) = Byte a lo
first_cell (Layers a b c lo hi) = Texels a b c lo
first_cell (Slices a b lo hi) = Slice a b lo
first_cell (Queries a lo hi) = Query a lo

cell_first : (run : Cells) → cell_spot (first_cell run) ≡ (cell_line run, cell_lo run)
cell_first (Bytes a lo hi) = refl
cell_first (Layers a b c lo hi) = refl
cell_first (Slices a b lo hi) = refl
cell_first (Queries a lo hi) = refl

clear_object : (run : Cells) → line_object (part_line (run_part run)) ≡ cells_object run
clear_object (Bytes a lo hi) = refl
clear_object (Layers a b c lo hi) = refl
clear_object (Slices a b lo hi) = refl
clear_object (Queries a lo hi) = refl

is_true : (b : Bool) → (b ≡ false → ⊥) → b ≡ true
is_true true h = refl
is_true false h = absurd (h refl)

-- A row that covers nothing at a spot of another object.
other_line : {R : Type 0} (sort : Sort R) (os : List ℕ) (run : R) (spot : Spot) → among os (line_object spot.0) ≡ false → among os (line_object (sort.line run)) ≡ true → covers_spot sort run spot ≡ false
other_line {R} sort os run spot e h = by_cover (none_at sort os spot ((run, true) ∷ []) e (h, tt)) (covers_spot sort run spot) refl
  where
    by_cover : value_at sort spot ((run, true) ∷ []) ≡ None → (b : Bool) → covers_spot sort run spot ≡ b → b ≡ false
    by_cover n true k = let some_is_none : Some true ≡ None = sym (ap (λ b. if b then Some true else None) k) ∙ n in absurd (cc)
    by_cover n false k = refl

none_set : (os : List ℕ) (p : Part) (us : List UseRow) → among os (line_object ((part_spot p).0)) ≡ false → AreUses os us → row_set p us ≡ None
unfolding covers_part
none_set os p [] e h = refl
none_set os p (u ∷ us) e h = by_cover (covers_spot part_sort u.0 (part_spot p)) (other_line part_sort os u.0 (part_spot p) e h.0) ∙ none_set os p us e h.1
  where
    by_cover : (b : Bool) → b ≡ false → (if b then Some (with_usage u.1 (row_set p us)) else row_set p us) ≡ row_set p us
    by_cover b k = ap (λ b. if b then Some (with_usage u.1 (row_set p us)) else row_set p us) k

-- The sets of uses of some objects are of these objects.
pub sets_uses : (os : List ℕ) (us : List UseRow) → AreUses os us → AreUses os (sets us)
sets_uses os us h = each_shown part_sort (λ u. among os (use_object u) ≡ true) (sets us) (apart_loose part_sort (sets us) (sets_are us).0) (λ x n e. is_true (among os (use_object x)) (λ k. none_is_some x.1 (sym (sym (ap (λ spot. value_at part_sort spot (sets us)) (part_first x.0)) ∙ ((sets_are us).1 (first_part x.0) ∙ none_set os (first_part x.0) us (ap (λ (spot : Spot). among os (line_object spot.0)) (part_first x.0) ∙ k) h)) ∙ e)))
  where
    none_is_some : (v : Usages) → None ≡ Some v → ⊥
    none_is_some v e = absurd (cc)

each_printed : (P : List ℕ → Type 0) (rows : List UseRow) → EachRow (λ (x : UseRow). P (part_line x.0)) rows → EachRow (λ (x : UseRow). P (part_line x.0)) (printed part_sort same_set rows)
each_printed P [] h = tt
each_printed P (r ∷ rows) h = each_put part_sort same_set P part_widens r (printed part_sort same_set rows) h.0 (each_printed P rows h.1)

clear_uses : (os : List ℕ) (rows : List (Cells × AccessKind)) → AreAccesses os rows → AreUses os (uses_of rows)
clear_uses os rows h = each_printed (λ line. among os (line_object line) ≡ true) (map (λ row. (run_part row.0, clear_usage)) rows) (each rows h)
  where
    each : (xs : List (Cells × AccessKind)) → AreAccesses os xs → AreUses os (map (λ row. (run_part row.0, clear_usage)) xs)
    each [] k = tt
    each (x ∷ xs) k = (ap (among os) (clear_object x.0) ∙ k.0, each xs k.1)

-- What uses find is told by the rows of their objects.
fold_same : {W : Type 0} (same : W → W → Bool) (f g : UseRow → List (PartRun × W)) (us : List UseRow) → EachRow (λ u. f u ≡ g u) us → fold same f us ≡ fold same g us
fold_same same f g [] h = refl
fold_same same f g (u ∷ us) h = ap₂ (put_all part_sort same) h.0 (fold_same same f g us h.1)

pub opens_among : (os : List ℕ) (inner us : List UseRow) → AreUses os us → opens (rows_among use_object os inner) us ≡ opens inner us
opens_among os inner us h = fold_same same_set (λ u. gaps part_sort (u ∷ []) (rows_among use_object os inner)) (λ u. gaps part_sort (u ∷ []) inner) us (each_row_map (λ u. among os (use_object u) ≡ true) (λ u. gaps part_sort (u ∷ []) (rows_among use_object os inner) ≡ gaps part_sort (u ∷ []) inner) (λ u k. gaps_among part_sort part_keeps os (u ∷ []) inner (k, tt)) us h)

pub changes_among : (os : List ℕ) (inner us : List UseRow) → AreUses os us → inner_changes (rows_among use_object os inner) us ≡ inner_changes inner us
changes_among os inner us h = fold_same same_change (λ u. choose (change_from u.1) (inside part_sort u.0 (rows_among use_object os inner))) (λ u. choose (change_from u.1) (inside part_sort u.0 inner)) us (each_row_map (λ u. among os (use_object u) ≡ true) (λ u. choose (change_from u.1) (inside part_sort u.0 (rows_among use_object os inner)) ≡ choose (change_from u.1) (inside part_sort u.0 inner)) (λ u k. ap (choose (change_from u.1)) (inside_among part_sort os u.0 inner k)) us h)

-- Rows that are as others away from some objects.
pub record AreFar (os : List ℕ) (rows next : List UseRow) : Type 0 where
  pub apart : Apart part_sort next
  pub far : (spot : Spot) → among os (line_object spot.0) ≡ false → value_at part_sort spot rows ≡ value_at part_sort spot next

far_then : (os : List ℕ) (rows mid next : List UseRow) → AreFar os rows mid → AreFar os mid next → AreFar os rows next
far_then os rows mid next h k = record { apart = k.apart; far = λ spot e. h.far spot e ∙ k.far spot e }

used_far : (os : List ℕ) (us rows : List UseRow) → AreUses os us → Loose part_sort us → Apart part_sort rows → AreFar os rows (used_after us rows)
used_far os us rows h l a = record {
  apart = (used_are us rows l a).0;
  far = λ spot e. sym ((used_are us rows l a).1 spot ∙ ap (λ o. option_or o (value_at part_sort spot rows)) (none_at part_sort os spot us e h));
}

used_among : (os : List ℕ) (us rows : List UseRow) → AreUses os us → Loose part_sort us → Apart part_sort rows → used_after us (rows_among use_object os rows) ≡ rows_among use_object os (used_after us rows)
used_among os us rows h l a = same_values part_sort same_set uses_tell (used_after us (rows_among use_object os rows)) (rows_among use_object os (used_after us rows)) small.0 (apart_filter part_sort (λ x. among os (use_object x)) (used_after us rows) all.0) (λ spot. small.1 spot ∙ (ap (option_or (value_at part_sort spot us)) (value_among part_sort os spot rows) ∙ (by_among spot (among os (line_object spot.0)) refl ∙ (ap (λ (o : Option Usages). if among os (line_object spot.0) then o else None) (sym (all.1 spot)) ∙ sym (value_among part_sort os spot (used_after us rows))))))
  where
    all : Apart part_sort (used_after us rows) × ((spot : Spot) → value_at part_sort spot (used_after us rows) ≡ option_or (value_at part_sort spot us) (value_at part_sort spot rows))
    all = used_are us rows l a

    small : Apart part_sort (used_after us (rows_among use_object os rows)) × ((spot : Spot) → value_at part_sort spot (used_after us (rows_among use_object os rows)) ≡ option_or (value_at part_sort spot us) (value_at part_sort spot (rows_among use_object os rows)))
    small = used_are us (rows_among use_object os rows) l (apart_filter part_sort (λ x. among os (use_object x)) rows a)

    by_among : (spot : Spot) (b : Bool) → among os (line_object spot.0) ≡ b → option_or (value_at part_sort spot us) (if b then value_at part_sort spot rows else None) ≡ (if b then option_or (value_at part_sort spot us) (value_at part_sort spot rows) else None)
    by_among spot true e = refl
    by_among spot false e = ap (λ (o : Option Usages). option_or o None) (none_at part_sort os spot us e h)

-- Rows of some objects are those of the next rows, which are as the rows before elsewhere.
pub record AreNext (os : List ℕ) (rows near next : List UseRow) : Type 0 where
  pub near_is : near ≡ rows_among use_object os next
  pub far : AreFar os rows next

next_apart : (os : List ℕ) (rows near next : List UseRow) → AreNext os rows near next → Apart part_sort near
next_apart os rows near next h = subst (Apart part_sort) (sym h.near_is) (apart_filter part_sort (λ x. among os (use_object x)) next h.far.apart)

next_after : (os : List ℕ) (rows near after next : List UseRow) → AreNext os rows near next → Apart part_sort rows → AreExchanged use_object os near rows after → after ≡ next
next_after os rows near after next h a k = exchanged_is part_sort same_set uses_tell os near rows after next (next_apart os rows near next h) a h.far.apart k (λ spot f. ap (value_at part_sort spot) h.near_is ∙ (value_among part_sort os spot next ∙ ap (λ b. if b then value_at part_sort spot next else None) f)) h.far.far

-- What is kept of a step.
kept_among : (os : List ℕ) (ends later : List UseRow) (d : Deed) (was_noted : Bool) (k : Kept) → AreUses os d.uses → Apart part_sort ends → IsKept (rows_among use_object os ends) d was_noted k later → IsKept ends d was_noted k (used_after (sets d.uses) ends) × AreNext os ends later (used_after (sets d.uses) ends)
kept_among os ends later d was_noted k h a is = (
  record {
    deed = is.deed;
    changes = is.changes ∙ changes_among os ends (sets d.uses) (sets_uses os d.uses h);
    first = is.first ∙ opens_among os ends (sets d.uses) (sets_uses os d.uses h);
    is_noted = is.is_noted;
    after = refl;
  },
  record { near_is = is.after ∙ used_among os (sets d.uses) ends (sets_uses os d.uses h) loose a; far = used_far os (sets d.uses) ends (sets_uses os d.uses h) loose a },
)
  where
    loose : Loose part_sort (sets d.uses)
    loose = apart_loose part_sort (sets d.uses) (sets_are d.uses).0

with_after : (ends later next : List UseRow) (d : Deed) (was_noted : Bool) (k : Kept) → later ≡ next → IsKept ends d was_noted k next → IsKept ends d was_noted k later
with_after ends later next d was_noted k e is = subst (IsKept ends d was_noted k) (sym e) is

more_among : (os : List ℕ) (ends near after : List UseRow) (clear : List (Cells × AccessKind)) (d : Deed) (more : List Kept) → AreUses os d.uses → AreAccesses os clear → Apart part_sort ends → AreMore (rows_among use_object os ends) clear d more near → AreExchanged use_object os near ends after → AreMore ends clear d more after
more_among os ends near after [] d more h c a m k =
    let kept = kept_among os ends near d true m.step h a m.steps in
    record { step = m.step; more = m.more; steps = with_after ends after (used_after (sets d.uses) ends) d true m.step (next_after os ends near after (used_after (sets d.uses) ends) kept.1 a k) kept.0 }
more_among os ends near after (x ∷ rows) d more h c a m k =
    let cleared = kept_among os ends m.mid (clear_deed (x ∷ rows)) false m.clear (clear_uses os (x ∷ rows) c) a m.clears in
    let mid : List UseRow = used_after (sets (uses_of (x ∷ rows))) ends in
    let kept = kept_among os mid near d true m.step h cleared.1.far.apart (subst (λ xs. IsKept xs d true m.step near) cleared.1.near_is m.steps) in
    let next : AreNext os ends near (used_after (sets d.uses) mid) = record { near_is = kept.1.near_is; far = far_then os ends mid (used_after (sets d.uses) mid) cleared.1.far kept.1.far } in
    record {
      clear = m.clear;
      mid = mid;
      step = m.step;
      more = m.more;
      clears = cleared.0;
      steps = with_after mid after (used_after (sets d.uses) mid) d true m.step (next_after os ends near after (used_after (sets d.uses) mid) next a k) kept.0;
    }

kept_apart : (ends later : List UseRow) (d : Deed) (was_noted : Bool) (k : Kept) → Apart part_sort ends → IsKept ends d was_noted k later → Apart part_sort later
kept_apart ends later d was_noted k a is = subst (Apart part_sort) (sym is.after) (used_are (sets d.uses) ends (apart_loose part_sort (sets d.uses) (sets_are d.uses).0) a).0

more_apart : (ends near : List UseRow) (clear : List (Cells × AccessKind)) (d : Deed) (more : List Kept) → Apart part_sort ends → AreMore ends clear d more near → Apart part_sort near
more_apart ends near [] d more a m = kept_apart ends near d true m.step a m.steps
more_apart ends near (x ∷ rows) d more a m = kept_apart m.mid near d true m.step (kept_apart ends m.mid (clear_deed (x ∷ rows)) false m.clear a m.clears) m.steps

-- The first and the last sets.
last_next : (os : List ℕ) (us rows near : List UseRow) → AreUses os us → Apart part_sort rows → near ≡ used_after (sets us) (rows_among use_object os rows) → AreNext os rows near (used_after (sets us) rows)
last_next os us rows near h a e = record { near_is = e ∙ used_among os (sets us) rows (sets_uses os us h) loose a; far = used_far os (sets us) rows (sets_uses os us h) loose a }
  where
    loose : Loose part_sort (sets us)
    loose = apart_loose part_sort (sets us) (sets_are us).0

first_next : (os : List ℕ) (us rows near : List UseRow) → AreUses os us → Apart part_sort rows → near ≡ put_all part_sort same_set (opens (rows_among use_object os rows) (sets us)) (rows_among use_object os rows) → AreNext os rows near (put_all part_sort same_set (opens rows (sets us)) rows)
first_next os us rows near h a e = record { near_is = near_is ∙ small_is; far = record { apart = all.0; far = λ spot f. sym (all.1 spot ∙ ap (λ o. option_or o (value_at part_sort spot rows)) (none_opened spot f)) } }
  where
    first : List UseRow
    first = opens rows (sets us)

    next : List UseRow
    next = put_all part_sort same_set first rows

    near_is : near ≡ put_all part_sort same_set first (rows_among use_object os rows)
    near_is = e ∙ ap (λ xs. put_all part_sort same_set xs (rows_among use_object os rows)) (opens_among os rows (sets us) (sets_uses os us h))

    found : Apart part_sort first × ((spot : Spot) → value_at part_sort spot first ≡ option_and_then (λ to. option_map_or (λ (v : Usages). None) (value_at part_sort spot rows) (Some to)) (value_at part_sort spot (sets us)))
    found = opens_are rows (sets us) a (sets_are us).0

    none_opened : (spot : Spot) → among os (line_object spot.0) ≡ false → value_at part_sort spot first ≡ None
    none_opened spot f = found.1 spot ∙ ap (option_and_then (λ to. option_map_or (λ (v : Usages). None) (value_at part_sort spot rows) (Some to))) (none_at part_sort os spot (sets us) f (sets_uses os us h))

    free_by : (i o : Option Usages) (v : Usages) → option_and_then (λ (to : Usages). option_map_or (λ (v : Usages). None) i (Some to)) o ≡ Some v → i ≡ None
    free_by None o v f = refl
    free_by (Some w) None v f = absurd (cc)
    free_by (Some w) (Some to) v f = absurd (cc)

    are_free : AreFree part_sort first rows
    are_free spot v f = free_by (value_at part_sort spot rows) (value_at part_sort spot (sets us)) v (sym (found.1 spot) ∙ f)

    small_free : AreFree part_sort first (rows_among use_object os rows)
    small_free spot v f = value_among part_sort os spot rows ∙ (ap (λ (o : Option Usages). if among os (line_object spot.0) then o else None) (are_free spot v f) ∙ none (among os (line_object spot.0)))
      where
        none : (b : Bool) → ◌≡◌ {A = Option Usages} (if b then None else None) None
        none true = refl
        none false = refl

    all : Apart part_sort next × ((spot : Spot) → value_at part_sort spot next ≡ option_or (value_at part_sort spot first) (value_at part_sort spot rows))
    all = all_put part_sort same_set uses_tell first rows (apart_loose part_sort first found.0) a are_free

    small : Apart part_sort (put_all part_sort same_set first (rows_among use_object os rows)) × ((spot : Spot) → value_at part_sort spot (put_all part_sort same_set first (rows_among use_object os rows)) ≡ option_or (value_at part_sort spot first) (value_at part_sort spot (rows_among use_object os rows)))
    small = all_put part_sort same_set uses_tell first (rows_among use_object os rows) (apart_loose part_sort first found.0) (apart_filter part_sort (λ x. among os (use_object x)) rows a) small_free

    by_among : (spot : Spot) (b : Bool) → among os (line_object spot.0) ≡ b → option_or (value_at part_sort spot first) (if b then value_at part_sort spot rows else None) ≡ (if b then option_or (value_at part_sort spot first) (value_at part_sort spot rows) else None)
    by_among spot true f = refl
    by_among spot false f = ap (λ (o : Option Usages). option_or o None) (none_opened spot f)

    small_is : put_all part_sort same_set first (rows_among use_object os rows) ≡ rows_among use_object os next
    small_is = same_values part_sort same_set uses_tell (put_all part_sort same_set first (rows_among use_object os rows)) (rows_among use_object os next) small.0 (apart_filter part_sort (λ x. among os (use_object x)) next all.0) (λ spot. small.1 spot ∙ (ap (option_or (value_at part_sort spot first)) (value_among part_sort os spot rows) ∙ (by_among spot (among os (line_object spot.0)) refl ∙ (ap (λ (o : Option Usages). if among os (line_object spot.0) then o else None) (sym (all.1 spot)) ∙ sym (value_among part_sort os spot next)))))

-- The cells.
tidy_among : (os : List ℕ) (wants leaves : List (Cells × AccessKind)) → AreTidy wants leaves → AreTidy (rows_among access_object os wants) (rows_among access_object os leaves)
tidy_among os wants leaves tidy = record {
  reads = (each_filter (λ row. row.1 ≡ Read) (λ x. among os (access_object x)) wants tidy.reads.0, apart_filter cell_sort (λ x. among os (access_object x)) wants tidy.reads.1);
  left = apart_filter cell_sort (λ x. among os (access_object x)) leaves tidy.left;
  written = λ c kind e. by_among c kind (among os (line_object ((cell_spot c).0))) (sym (value_among cell_sort os (cell_spot c) leaves) ∙ e);
}
  where
    by_among : (c : Cell) (kind : AccessKind) (b : Bool) → (if b then value_at cell_sort (cell_spot c) leaves else None) ≡ Some kind → kind_writes kind ≡ true
    by_among c kind true e = tidy.written c kind e
    by_among c kind false e = absurd (cc)

none_any : (os : List ℕ) (spot : Spot) (test : AccessKind → Bool) (xs : List (Cells × AccessKind)) → among os (line_object spot.0) ≡ false → AreAccesses os xs → any_row (λ run. covers_spot cell_sort run spot) test xs ≡ false
none_any os spot test [] e h = refl
none_any os spot test (x ∷ xs) e h = ap (λ b. (b && test x.1) || any_row (λ run. covers_spot cell_sort run spot) test xs) (other_line cell_sort os x.0 spot e h.0) ∙ none_any os spot test xs e h.1

none_read : (os : List ℕ) (c : Cell) (xs : List (Cells × AccessKind)) → among os (line_object ((cell_spot c).0)) ≡ false → AreAccesses os xs → row_reads c xs ≡ false
unfolding covers
none_read os c xs e h = none_any os (cell_spot c) kind_reads xs e h

none_written : (os : List ℕ) (c : Cell) (xs : List (Cells × AccessKind)) → among os (line_object ((cell_spot c).0)) ≡ false → AreAccesses os xs → row_writes c xs ≡ false
unfolding covers
none_written os c xs e h = none_any os (cell_spot c) kind_writes xs e h

reads_loose : (c : Cell) (rows : List (Cells × AccessKind)) → Loose cell_sort rows → row_reads c rows ≡ option_map_or kind_reads (value_at cell_sort (cell_spot c) rows) false
unfolding covers
reads_loose c rows l = any_loose (cell_spot c) kind_reads rows l

-- The clear inside is of the objects of the accesses.
clear_among : (os : List ℕ) (asked leaves accesses clear asked_after leaves_after : List (Cells × AccessKind)) → AreAccesses os accesses → AreCells asked leaves accesses clear asked_after leaves_after → AreAccesses os clear
clear_among os asked leaves accesses clear asked_after leaves_after h cells = each_shown cell_sort (λ x. among os (access_object x) ≡ true) clear (apart_loose cell_sort clear cells.apart) (λ x n e. is_true (among os (access_object x)) (λ k. not_read x k (read x e)))
  where
    read : (x : Cells × AccessKind) → value_at cell_sort (cell_line x.0, cell_lo x.0) clear ≡ Some x.1 → row_reads (first_cell x.0) accesses ≡ true
    read x e =
        let has : has_value cell_sort same_kind (cell_spot (first_cell x.0)) x.1 clear ≡ true = has_at cell_sort same_kind (cell_spot (first_cell x.0)) x.1 clear (apart_loose cell_sort clear cells.apart) ∙ (ap (λ (o : Option AccessKind). option_map_or (same_kind x.1) o false) (ap (λ spot. value_at cell_sort spot clear) (cell_first x.0) ∙ e) ∙ accesses_tell.itself x.1) in
        (and_parts (row_reads (first_cell x.0) accesses) (row_unsets (first_cell x.0) leaves) (and_parts (row_reads (first_cell x.0) accesses && row_unsets (first_cell x.0) leaves) (same_kind x.1 Write) (sym (cells.clear (first_cell x.0) x.1) ∙ has)).0).0

    not_read : (x : Cells × AccessKind) → among os (access_object x) ≡ false → row_reads (first_cell x.0) accesses ≡ true → ⊥
    not_read x k e = true≢false (sym e ∙ none_read os (first_cell x.0) accesses (ap (λ (spot : Spot). among os (line_object spot.0)) (cell_first x.0) ∙ k) h)

cells_among : (os : List ℕ) (wants leaves accesses clear near_wants near_leaves wants_after leaves_after : List (Cells × AccessKind)) → AreTidy wants leaves → AreAccesses os accesses → AreCells (rows_among access_object os wants) (rows_among access_object os leaves) accesses clear near_wants near_leaves → AreExchanged access_object os near_wants wants wants_after → AreExchanged access_object os near_leaves leaves leaves_after → AreCells wants leaves accesses clear wants_after leaves_after
cells_among os wants leaves accesses clear near_wants near_leaves wants_after leaves_after tidy h cells w l = record {
  apart = cells.apart;
  clear = λ c v. cells.clear c v ∙ by_clear c v (at c) refl;
  wants = λ c. reads_loose c wants_after (apart_loose cell_sort wants_after wants_apart) ∙ (ap (λ (o : Option AccessKind). option_map_or kind_reads o false) (exchanged_value cell_sort os near_wants wants wants_after (cell_spot c) w) ∙ by_wants c (at c) refl);
  writes = λ c. writes_loose c leaves_after (apart_loose cell_sort leaves_after leaves_apart) ∙ (ap (λ (o : Option AccessKind). option_map_or kind_writes o false) (exchanged_value cell_sort os near_leaves leaves leaves_after (cell_spot c) l) ∙ by_writes c (at c) refl);
  unsets = λ c. unsets_loose c leaves_after (apart_loose cell_sort leaves_after leaves_apart) ∙ (ap (λ (o : Option AccessKind). option_map_or kind_unsets o false) (exchanged_value cell_sort os near_leaves leaves leaves_after (cell_spot c) l) ∙ by_unsets c (at c) refl);
  tidy = record {
    reads = (exchanged_each access_object (λ row. row.1 ≡ Read) os near_wants wants wants_after cells.tidy.reads.0 tidy.reads.0 w, wants_apart);
    left = leaves_apart;
    written = λ c kind e. by_written c kind (at c) (sym (exchanged_value cell_sort os near_leaves leaves leaves_after (cell_spot c) l) ∙ e);
  };
}
  where
    at : Cell → Bool
    at c = among os (line_object ((cell_spot c).0))

    wants_apart : Apart cell_sort wants_after
    wants_apart = exchanged_apart cell_sort os near_wants wants wants_after cells.tidy.reads.1 tidy.reads.1 w

    leaves_apart : Apart cell_sort leaves_after
    leaves_apart = exchanged_apart cell_sort os near_leaves leaves leaves_after cells.tidy.left tidy.left l

    loose : (rows : List (Cells × AccessKind)) → Apart cell_sort rows → Loose cell_sort rows
    loose rows a = apart_loose cell_sort rows a

    few : (rows : List (Cells × AccessKind)) → Apart cell_sort rows → Loose cell_sort (rows_among access_object os rows)
    few rows a = apart_loose cell_sort (rows_among access_object os rows) (apart_filter cell_sort (λ x. among os (access_object x)) rows a)

    value_same : (c : Cell) (rows : List (Cells × AccessKind)) → at c ≡ true → value_at cell_sort (cell_spot c) (rows_among access_object os rows) ≡ value_at cell_sort (cell_spot c) rows
    value_same c rows e = value_among cell_sort os (cell_spot c) rows ∙ ap (λ b. if b then value_at cell_sort (cell_spot c) rows else None) e

    reads_same : (c : Cell) → at c ≡ true → row_reads c (rows_among access_object os wants) ≡ row_reads c wants
    reads_same c e = reads_loose c (rows_among access_object os wants) (few wants tidy.reads.1) ∙ (ap (λ (o : Option AccessKind). option_map_or kind_reads o false) (value_same c wants e) ∙ sym (reads_loose c wants (loose wants tidy.reads.1)))

    writes_same : (c : Cell) → at c ≡ true → row_writes c (rows_among access_object os leaves) ≡ row_writes c leaves
    writes_same c e = writes_loose c (rows_among access_object os leaves) (few leaves tidy.left) ∙ (ap (λ (o : Option AccessKind). option_map_or kind_writes o false) (value_same c leaves e) ∙ sym (writes_loose c leaves (loose leaves tidy.left)))

    unsets_same : (c : Cell) → at c ≡ true → row_unsets c (rows_among access_object os leaves) ≡ row_unsets c leaves
    unsets_same c e = unsets_loose c (rows_among access_object os leaves) (few leaves tidy.left) ∙ (ap (λ (o : Option AccessKind). option_map_or kind_unsets o false) (value_same c leaves e) ∙ sym (unsets_loose c leaves (loose leaves tidy.left)))

    by_clear : (c : Cell) (v : AccessKind) (b : Bool) → at c ≡ b → ((row_reads c accesses && row_unsets c (rows_among access_object os leaves)) && same_kind v Write) ≡ ((row_reads c accesses && row_unsets c leaves) && same_kind v Write)
    by_clear c v true e = ap (λ u. (row_reads c accesses && u) && same_kind v Write) (unsets_same c e)
    by_clear c v false e = ap (λ r. (r && row_unsets c (rows_among access_object os leaves)) && same_kind v Write) (none_read os c accesses e h) ∙ sym (ap (λ r. (r && row_unsets c leaves) && same_kind v Write) (none_read os c accesses e h))

    or_none : (x y : Bool) → (x || (y && false)) ≡ x
    or_none true y = refl
    or_none false true = refl
    or_none false false = refl

    by_wants : (c : Cell) (b : Bool) → at c ≡ b → option_map_or kind_reads (if b then value_at cell_sort (cell_spot c) near_wants else value_at cell_sort (cell_spot c) wants) false ≡ (row_reads c wants || (not (row_writes c leaves) && row_reads c accesses))
    by_wants c true e = sym (reads_loose c near_wants (loose near_wants cells.tidy.reads.1)) ∙ (cells.wants c ∙ ap₂ (λ (r k : Bool). r || (not k && row_reads c accesses)) (reads_same c e) (writes_same c e))
    by_wants c false e = sym (reads_loose c wants (loose wants tidy.reads.1)) ∙ (sym (or_none (row_reads c wants) (not (row_writes c leaves))) ∙ ap (λ r. row_reads c wants || (not (row_writes c leaves) && r)) (sym (none_read os c accesses e h)))

    by_writes : (c : Cell) (b : Bool) → at c ≡ b → option_map_or kind_writes (if b then value_at cell_sort (cell_spot c) near_leaves else value_at cell_sort (cell_spot c) leaves) false ≡ (row_writes c accesses || row_writes c leaves)
    by_writes c true e = sym (writes_loose c near_leaves (loose near_leaves cells.tidy.left)) ∙ (cells.writes c ∙ ap (λ k. row_writes c accesses || k) (writes_same c e))
    by_writes c false e = sym (writes_loose c leaves (loose leaves tidy.left)) ∙ ap (λ k. k || row_writes c leaves) (sym (none_written os c accesses e h))

    by_unsets : (c : Cell) (b : Bool) → at c ≡ b → option_map_or kind_unsets (if b then value_at cell_sort (cell_spot c) near_leaves else value_at cell_sort (cell_spot c) leaves) false ≡ (if row_writes c accesses then row_unsets c accesses else (if row_reads c accesses && row_unsets c leaves then false else row_unsets c leaves))
    by_unsets c true e = sym (unsets_loose c near_leaves (loose near_leaves cells.tidy.left)) ∙ (cells.unsets c ∙ ap (λ u. if row_writes c accesses then row_unsets c accesses else (if row_reads c accesses && u then false else u)) (unsets_same c e))
    by_unsets c false e = sym (unsets_loose c leaves (loose leaves tidy.left)) ∙ ap₂ (λ (k r : Bool). if k then row_unsets c accesses else (if r && row_unsets c leaves then false else row_unsets c leaves)) (sym (none_written os c accesses e h)) (sym (none_read os c accesses e h))

    by_written : (c : Cell) (kind : AccessKind) (b : Bool) → (if b then value_at cell_sort (cell_spot c) near_leaves else value_at cell_sort (cell_spot c) leaves) ≡ Some kind → kind_writes kind ≡ true
    by_written c kind true e = cells.tidy.written c kind e
    by_written c kind false e = tidy.written c kind e

-- One more step.
pub step_among : (os : List ℕ) (ends : List UseRow) (wants leaves : List (Cells × AccessKind)) (d : Deed) (more : List Kept) (near_ends ends_after : List UseRow) (near_wants near_leaves wants_after leaves_after : List (Cells × AccessKind)) → AreUses os d.uses → AreAccesses os d.accesses → Apart part_sort ends → AreTidy wants leaves → IsStep (rows_among use_object os ends) (rows_among access_object os wants) (rows_among access_object os leaves) d more near_ends near_wants near_leaves → AreExchanged use_object os near_ends ends ends_after → AreExchanged access_object os near_wants wants wants_after → AreExchanged access_object os near_leaves leaves leaves_after → IsStep ends wants leaves d more ends_after wants_after leaves_after
step_among os ends wants leaves d more near_ends ends_after near_wants near_leaves wants_after leaves_after us xs a tidy step e w l =
    let cells : AreCells (rows_among access_object os wants) (rows_among access_object os leaves) d.accesses step.clear near_wants near_leaves = step.cells (tidy_among os wants leaves tidy) in
    record {
      clear = step.clear;
      cells = λ _. cells_among os wants leaves d.accesses step.clear near_wants near_leaves wants_after leaves_after tidy xs cells w l;
      kept = more_among os ends near_ends ends_after step.clear d more us (clear_among os (rows_among access_object os wants) (rows_among access_object os leaves) d.accesses step.clear near_wants near_leaves xs cells) a step.kept e;
    }

-- What a tracker holds stands in the order of its objects.
all_apart : (place : StepPlace) (inner : List UseRow) (steps : List Step) (held : List Kept) (end : List UseRow) → AreKept place inner steps held end → Apart part_sort inner → Apart part_sort end
all_apart place inner [] [] end h a = subst (Apart part_sort) h a
all_apart place inner [] (k ∷ more) end h a = absurd h
all_apart place inner (s ∷ steps) [] end h a = absurd h
all_apart place inner (s ∷ steps) (k ∷ more) end h a = all_apart place (used_after (sets s.uses) inner) steps more end h.3 (step_used s inner a).0

pub ends_apart : (deeds : List Deed) (held : List Kept) (ends : List UseRow) (wants leaves : List (Cells × AccessKind)) → IsTrack deeds held ends wants leaves → Apart part_sort ends
ends_apart deeds held ends wants leaves h = all_apart (Host 0) [] (inside_at (Host 0) deeds) held ends (h.kept (Host 0)) tt

needs_ordered : (wants : List (Cells × AccessKind)) (found : List Cells) → Apart cell_sort wants → found ≡ map (λ row. row.0) wants → Ordered cells_object found
needs_ordered wants found a e = subst (Ordered cells_object) (sym e) (ordered_map cells_object (λ row. row.0) wants (apart_ordered cell_sort wants a))

pub holds_ordered : (deeds : List Deed) (held : List Kept) (rows : Rows) → Holds deeds held rows → AreOrdered rows
holds_ordered deeds held rows h = record {
  ends = apart_ordered part_sort rows.ends.items (ends_apart deeds held rows.ends.items rows.wants.items rows.leaves.items h.track);
  wants = apart_ordered cell_sort rows.wants.items h.track.tidy.reads.1;
  leaves = apart_ordered cell_sort rows.leaves.items h.track.tidy.left;
  starts = apart_ordered part_sort rows.starts.items h.seen.starts.apart;
  last = apart_ordered part_sort rows.last.items h.seen.ends.apart;
  needs = needs_ordered rows.wants.items rows.needs.items h.track.tidy.reads.1 h.needs;
}

-- It is the same, whatever room there is.
pub holds_same : (deeds : List Deed) (held : List Kept) (rows after : Rows) → AreSameRows rows after → Holds deeds held rows → Holds deeds held after
holds_same deeds held rows after same h = record {
  track = tracks_with deeds held rows.ends.items rows.wants.items rows.leaves.items after.ends.items after.wants.items after.leaves.items (sym same.ends) (sym same.wants) (sym same.leaves) h.track;
  seen = seen_with deeds rows.starts.items rows.last.items after.starts.items after.last.items (sym same.starts) (sym same.last) h.seen;
  needs = same.needs ∙ (h.needs ∙ ap (map (λ row. row.0)) (sym same.wants));
}

over_same : {T : Type 0} (object : T → ℕ) (os : List ℕ) (mine rows now after : List T) → now ≡ rows → AreExchanged object os mine now after → AreExchanged object os mine rows after
over_same object os mine rows now after e h = subst (λ xs. AreExchanged object os mine xs after) e h

pub later_same : (deeds : List Deed) (held : List Kept) (os : List ℕ) (near rows now : Rows) → AreSameRows rows now → HoldsAfter deeds held os near rows → HoldsAfter deeds held os near now
later_same deeds held os near rows now same h = λ later x. h later (record {
  ends = over_same use_object os near.ends.items rows.ends.items now.ends.items later.ends.items same.ends x.ends;
  wants = over_same access_object os near.wants.items rows.wants.items now.wants.items later.wants.items same.wants x.wants;
  leaves = over_same access_object os near.leaves.items rows.leaves.items now.leaves.items later.leaves.items same.leaves x.leaves;
  starts = over_same use_object os near.starts.items rows.starts.items now.starts.items later.starts.items same.starts x.starts;
  last = over_same use_object os near.last.items rows.last.items now.last.items later.last.items same.last x.last;
  needs = over_same cells_object os near.needs.items rows.needs.items now.needs.items later.needs.items same.needs x.needs;
})

-- What follows all that a tracker holds.
pub step_with : (ends : List UseRow) (wants leaves : List (Cells × AccessKind)) (ends2 : List UseRow) (wants2 leaves2 : List (Cells × AccessKind)) (d : Deed) (more : List Kept) (ends_after : List UseRow) (wants_after leaves_after : List (Cells × AccessKind)) → ends ≡ ends2 → wants ≡ wants2 → leaves ≡ leaves2 → IsStep ends wants leaves d more ends_after wants_after leaves_after → IsStep ends2 wants2 leaves2 d more ends_after wants_after leaves_after
step_with ends wants leaves ends2 wants2 leaves2 d more ends_after wants_after leaves_after e w l h = subst (λ x. IsStep x wants2 leaves2 d more ends_after wants_after leaves_after) e (subst (λ y. IsStep ends y leaves2 d more ends_after wants_after leaves_after) w (subst (λ z. IsStep ends wants z d more ends_after wants_after leaves_after) l h))

pub seen_over : (first last uses first2 last2 uses2 first_after last_after : List UseRow) → first ≡ first2 → last ≡ last2 → uses ≡ uses2 → IsSeen first last uses first_after last_after → IsSeen first2 last2 uses2 first_after last_after
seen_over first last uses first2 last2 uses2 first_after last_after f l u h = subst (λ x. IsSeen x last2 uses2 first_after last_after) f (subst (λ y. IsSeen first y uses2 first_after last_after) l (subst (λ z. IsSeen first last z first_after last_after) u h))

pub follows_near : (rows found near : Rows) (d : Deed) (more : List Kept) (os : List ℕ) → AreUses os d.uses → AreAccesses os d.accesses → AreNear os rows found → IsStep found.ends.items found.wants.items found.leaves.items d more near.ends.items near.wants.items near.leaves.items → IsSeen found.starts.items found.last.items d.uses near.starts.items near.last.items → near.needs.items ≡ map (λ row. row.0) near.wants.items → FollowsNear rows d more os near
follows_near rows found near d more os us xs are step seen needs = record {
  ordered = λ deeds held h. record {
    ends = apart_ordered part_sort near.ends.items (more_apart (rows_among use_object os rows.ends.items) near.ends.items over.clear d more (apart_filter part_sort (λ x. among os (use_object x)) rows.ends.items (apart deeds held h)) over.kept);
    wants = apart_ordered cell_sort near.wants.items (tidy deeds held h).reads.1;
    leaves = apart_ordered cell_sort near.leaves.items (tidy deeds held h).left;
    starts = apart_ordered part_sort near.starts.items (next_apart os rows.starts.items near.starts.items (put_all part_sort same_set (opens rows.starts.items (sets d.uses)) rows.starts.items) (first deeds held h));
    last = apart_ordered part_sort near.last.items (next_apart os rows.last.items near.last.items (used_after (sets d.uses) rows.last.items) (last deeds held h));
    needs = needs_ordered near.wants.items near.needs.items (tidy deeds held h).reads.1 needs;
  };
  grows = grows;
  holds = λ deeds held h e later x. holds deeds held h e later x (step_among os rows.ends.items rows.wants.items rows.leaves.items d more near.ends.items later.ends.items near.wants.items near.leaves.items later.wants.items later.leaves.items us xs (apart deeds held h) h.track.tidy over x.ends x.wants x.leaves);
}
  where
    over : IsStep (rows_among use_object os rows.ends.items) (rows_among access_object os rows.wants.items) (rows_among access_object os rows.leaves.items) d more near.ends.items near.wants.items near.leaves.items
    over = step_with found.ends.items found.wants.items found.leaves.items (rows_among use_object os rows.ends.items) (rows_among access_object os rows.wants.items) (rows_among access_object os rows.leaves.items) d more near.ends.items near.wants.items near.leaves.items are.ends are.wants are.leaves step

    apart : (deeds : List Deed) (held : List Kept) → Holds deeds held rows → Apart part_sort rows.ends.items
    apart deeds held h = ends_apart deeds held rows.ends.items rows.wants.items rows.leaves.items h.track

    tidy : (deeds : List Deed) (held : List Kept) → Holds deeds held rows → AreTidy near.wants.items near.leaves.items
    tidy deeds held h = (over.cells (tidy_among os rows.wants.items rows.leaves.items h.track.tidy)).tidy

    first : (deeds : List Deed) (held : List Kept) → Holds deeds held rows → AreNext os rows.starts.items near.starts.items (put_all part_sort same_set (opens rows.starts.items (sets d.uses)) rows.starts.items)
    first deeds held h = first_next os d.uses rows.starts.items near.starts.items us h.seen.starts.apart (seen.starts ∙ ap (λ xs. put_all part_sort same_set (opens xs (sets d.uses)) xs) are.starts)

    last : (deeds : List Deed) (held : List Kept) → Holds deeds held rows → AreNext os rows.last.items near.last.items (used_after (sets d.uses) rows.last.items)
    last deeds held h = last_next os d.uses rows.last.items near.last.items us h.seen.ends.apart (seen.ends ∙ ap (used_after (sets d.uses)) are.last)

    grows : (deeds : List Deed) (held : List Kept) → Holds deeds held rows → deeds ≡ noted held → noted (held ++ more) ≡ deeds ++ d ∷ []
    grows deeds held h e = noted_more (rows_among use_object os rows.ends.items) near.ends.items over.clear d deeds held more over.kept e

    holds : (deeds : List Deed) (held : List Kept) → Holds deeds held rows → deeds ≡ noted held → (later : Rows) → AreAllExchanged os near rows later → IsStep rows.ends.items rows.wants.items rows.leaves.items d more later.ends.items later.wants.items later.leaves.items → Holds (noted (held ++ more)) (held ++ more) later
    holds deeds held h e later x next = record {
      track = subst (λ ds. IsTrack ds (held ++ more) later.ends.items later.wants.items later.leaves.items) (sym (grows deeds held h e)) (track_next deeds d held more rows.ends.items later.ends.items rows.wants.items rows.leaves.items next.clear later.wants.items later.leaves.items h.track (next.cells h.track.tidy) next.kept);
      seen = subst (λ ds. AreSeen ds later.starts.items later.last.items) (sym (grows deeds held h e)) (see_next deeds d rows.starts.items rows.last.items later.starts.items later.last.items h.seen (next_after os rows.starts.items near.starts.items later.starts.items (put_all part_sort same_set (opens rows.starts.items (sets d.uses)) rows.starts.items) (first deeds held h) h.seen.starts.apart x.starts) (next_after os rows.last.items near.last.items later.last.items (used_after (sets d.uses) rows.last.items) (last deeds held h) h.seen.ends.apart x.last));
      needs = exchanged_map cells_object (λ row. row.0) os near.wants.items rows.wants.items later.wants.items later.needs.items x.wants (subst (λ ys. AreExchanged cells_object os ys (map (λ row. row.0) rows.wants.items) later.needs.items) needs (over_same cells_object os near.needs.items (map (λ row. row.0) rows.wants.items) rows.needs.items later.needs.items h.needs x.needs));
    }
