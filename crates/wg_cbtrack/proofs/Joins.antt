-- Barriers between inner uses, joined with those of first uses, are the barriers.
use Rattle.std.proofs.Common.{◌≡◌, ℕ, List, [], ◌∷◌, length, map, Bool, true, false, Option, Some, None, refl, ap, ap₂, sym, ◌∙◌, if◌then◌else◌, flat_map, subst}
use Rattle.std.specs.Option.{option_or, option_and_then, option_map_or}
use Rattle.std.proofs.lemmas.Bool.{lt-ltb}
use Rattle.wg_rows.specs.Rows.{line_object, Spot, covers_spot, Apart}
use Rattle.wg_rows.specs.Cut.{value_at, inside, gaps, choose, overwrite}
use Rattle.wg_rows.specs.Runs.{PartRun, Part, part_sort, part_spot, part_lo, part_hi, is_texture, is_full, object_of}
use Rattle.wg_rows.specs.Uses.{Usages, same_set, Change, same_change}
use Rattle.wg_rows.specs.Sets.{UseRow, sets}
use Rattle.wg_orders.specs.Steps.{Step, set_of}
use Rattle.wg_orders.specs.Trace.{Item, change_of, parts_used, bar, bars, steps_of, last_set, add_step}
use Rattle.wg_bars.specs.Kept.{rows_in}
use Rattle.wg_bars.specs.Changes.{change_from, all_changes}
use Rattle.wg_bars.specs.Last.{LastRows, kept_set, AreSorted, AreRowsOf, KeepsLast, rows_noted}
use Rattle.wg_cbtrack.specs.Join.{fold, inner_changes, opens, joined_changes, KeepBoth, used_after}
use Rattle.wg_rows.proofs.Told.{uses_tell, changes_tell}
use Rattle.wg_rows.proofs.Printed.{Tells}
use Rattle.wg_rows.proofs.Values.{inside_value, Loose, apart_loose, inside_loose, choose_value, choose_loose, AreFree, all_put, gaps_are, printed_by_values, overwrite_value, overwrite_apart}
use Rattle.wg_bars.proofs.Parts.{second_is, part_object_is, part_texture_is}
use Rattle.wg_rows.proofs.Sets.{part_clips, same_at_parts, alone, sets_are}
use Rattle.wg_orders.proofs.Sound.{steps_added}
use Rattle.wg_orders.proofs.Steps.{last_set_more}
use Rattle.wg_bars.proofs.Noted.{noted_are, each_noted}
use Rattle.wg_bars.proofs.Changes.{change_at, AllAre, all_are, wanted, each_of, all_fit, wanted_all}

abbrev PiecesAre : {W : Type 0} → (UseRow → List (PartRun × W)) → (Spot → Usages → Option W) → Type 0
PiecesAre {W} pieces at = (u : UseRow) → is_full u.0 ≡ true → Loose part_sort (pieces u) × ((spot : Spot) → value_at part_sort spot (pieces u) ≡ (if covers_spot part_sort u.0 spot then at spot u.1 else None))

abbrev FoldIs : {W : Type 0} → (W → W → Bool) → (UseRow → List (PartRun × W)) → (Spot → Usages → Option W) → List UseRow → Type 0
FoldIs {W} same pieces at us = Apart part_sort (fold same pieces us) × ((spot : Spot) → value_at part_sort spot (fold same pieces us) ≡ option_and_then (at spot) (value_at part_sort spot us))

fold_is : {W : Type 0} (same : W → W → Bool) → Tells part_sort same → (pieces : UseRow → List (PartRun × W)) (at : Spot → Usages → Option W) → PiecesAre pieces at → (us : List UseRow) → Apart part_sort us → FoldIs same pieces at us
fold_is same tells pieces at each [] a = (tt, λ spot. refl)
fold_is {W} same tells pieces at each (u ∷ us) a = go (fold_is same tells pieces at each us a.2)
  where
    one : Loose part_sort (pieces u) × ((spot : Spot) → value_at part_sort spot (pieces u) ≡ (if covers_spot part_sort u.0 spot then at spot u.1 else None))
    one = each u (lt-ltb (part_lo u.0) (part_hi u.0) a.0)

    go : FoldIs same pieces at us → FoldIs same pieces at (u ∷ us)
    go h = (put.0, λ spot. put.1 spot ∙ (ap₂ option_or (one.1 spot) (h.1 spot) ∙ by_cover spot (covers_spot part_sort u.0 spot) refl))
      where
        none : (spot : Spot) → covers_spot part_sort u.0 spot ≡ true → option_and_then (at spot) (value_at part_sort spot us) ≡ None
        none spot k = ap (option_and_then (at spot)) ((apart_loose part_sort (u ∷ us) a).1 spot k)

        are_free : AreFree part_sort (pieces u) (fold same pieces us)
        are_free spot w e = h.1 spot ∙ free_by (covers_spot part_sort u.0 spot) refl (sym (one.1 spot) ∙ e)
          where
            free_by : (b : Bool) → covers_spot part_sort u.0 spot ≡ b → (if b then at spot u.1 else None) ≡ Some w → option_and_then (at spot) (value_at part_sort spot us) ≡ None
            free_by true k f = none spot k
            free_by false k f = absurd (cc)

        put : Apart part_sort (fold same pieces (u ∷ us)) × ((spot : Spot) → value_at part_sort spot (fold same pieces (u ∷ us)) ≡ option_or (value_at part_sort spot (pieces u)) (value_at part_sort spot (fold same pieces us)))
        put = all_put part_sort same tells (pieces u) (fold same pieces us) one.0 h.0 are_free

        or_none : (o : Option W) → option_or o None ≡ o
        or_none None = refl
        or_none (Some c) = refl

        by_cover : (spot : Spot) (b : Bool) → covers_spot part_sort u.0 spot ≡ b → option_or (if b then at spot u.1 else None) (option_and_then (at spot) (value_at part_sort spot us)) ≡ option_and_then (at spot) (if b then Some u.1 else value_at part_sort spot us)
        by_cover spot true k = ap (option_or (at spot u.1)) (none spot k) ∙ or_none (at spot u.1)
        by_cover spot false k = refl

inner_pieces : (inner : List UseRow) → Apart part_sort inner → PiecesAre (λ u. choose (change_from u.1) (inside part_sort u.0 inner)) (λ spot to. option_and_then (change_from to) (value_at part_sort spot inner))
inner_pieces inner sorted u full = (choose_loose part_sort (change_from u.1) (inside part_sort u.0 inner) loose, λ spot. choose_value part_sort (change_from u.1) (inside part_sort u.0 inner) spot loose ∙ (ap (option_and_then (change_from u.1)) (inside_value part_sort part_clips u.0 inner spot) ∙ by_cover spot (covers_spot part_sort u.0 spot) refl))
  where
    loose : Loose part_sort (inside part_sort u.0 inner)
    loose = inside_loose part_sort part_clips u.0 inner (apart_loose part_sort inner sorted)

    by_cover : (spot : Spot) (b : Bool) → covers_spot part_sort u.0 spot ≡ b → option_and_then (change_from u.1) (if b then value_at part_sort spot inner else None) ≡ (if b then option_and_then (change_from u.1) (value_at part_sort spot inner) else None)
    by_cover spot true k = refl
    by_cover spot false k = refl

open_pieces : (inner : List UseRow) → Apart part_sort inner → PiecesAre (λ u. gaps part_sort (u ∷ []) inner) (λ spot to. option_map_or (λ (v : Usages). None) (value_at part_sort spot inner) (Some to))
open_pieces inner sorted u full = (apart_loose part_sort (gaps part_sort (u ∷ []) inner) found.0, λ spot. found.1 spot ∙ by_cover spot (covers_spot part_sort u.0 spot) refl)
  where
    found : Apart part_sort (gaps part_sort (u ∷ []) inner) × ((spot : Spot) → value_at part_sort spot (gaps part_sort (u ∷ []) inner) ≡ option_map_or (λ (v : Usages). None) (value_at part_sort spot inner) (value_at part_sort spot (u ∷ [])))
    found = gaps_are part_sort part_clips (u ∷ []) inner (alone u full) (apart_loose part_sort inner sorted)

    none : (o : Option Usages) → ◌≡◌ {A = Option Usages} (option_map_or (λ (v : Usages). None) o None) None
    none None = refl
    none (Some v) = refl

    by_cover : (spot : Spot) (b : Bool) → covers_spot part_sort u.0 spot ≡ b → option_map_or (λ (v : Usages). None) (value_at part_sort spot inner) (if b then Some u.1 else None) ≡ (if b then option_map_or (λ (v : Usages). None) (value_at part_sort spot inner) (Some u.1) else None)
    by_cover spot true k = refl
    by_cover spot false k = none (value_at part_sort spot inner)

pub opens_are : (inner us : List UseRow) → Apart part_sort inner → Apart part_sort us → FoldIs same_set (λ u. gaps part_sort (u ∷ []) inner) (λ spot to. option_map_or (λ (v : Usages). None) (value_at part_sort spot inner) (Some to)) us
opens_are inner us si a = fold_is same_set uses_tell (λ u. gaps part_sort (u ∷ []) inner) (λ spot to. option_map_or (λ (v : Usages). None) (value_at part_sort spot inner) (Some to)) (open_pieces inner si) us a

pub bars_split : (outer : LastRows) (inner : List UseRow) (trace : List Item) (s : Step) → AreSorted outer → Apart part_sort inner → KeepBoth outer inner (steps_of trace) → map bar (joined_changes outer inner (sets s.uses)) ≡ bars trace s
unfolding set_of
bars_split outer inner trace s so si keep = ap (map bar) (printed_by_values part_sort same_change changes_tell (joined_changes outer inner (sets s.uses)) (flat_map (change_of trace s) (parts_used s.uses)) (all_fit (wanted trace s) (flat_map (change_of trace s) (parts_used s.uses)) (each_of trace s (parts_used s.uses))) joined.0 (same_at_parts (joined_changes outer inner (sets s.uses)) (flat_map (change_of trace s) (parts_used s.uses)) at_part))
  where
    us_apart : Apart part_sort (sets s.uses)
    us_apart = (sets_are s.uses).0

    changed : FoldIs same_change (λ u. choose (change_from u.1) (inside part_sort u.0 inner)) (λ spot to. option_and_then (change_from to) (value_at part_sort spot inner)) (sets s.uses)
    changed = fold_is same_change changes_tell (λ u. choose (change_from u.1) (inside part_sort u.0 inner)) (λ spot to. option_and_then (change_from to) (value_at part_sort spot inner)) (inner_pieces inner si) (sets s.uses) us_apart

    opened : FoldIs same_set (λ u. gaps part_sort (u ∷ []) inner) (λ spot to. option_map_or (λ (v : Usages). None) (value_at part_sort spot inner) (Some to)) (sets s.uses)
    opened = opens_are inner (sets s.uses) si us_apart

    first : AllAre outer (opens inner (sets s.uses))
    first = all_are outer (opens inner (sets s.uses)) so opened.0

    first_value : (spot : Spot) → value_at part_sort spot (all_changes outer (opens inner (sets s.uses))) ≡ option_and_then (λ to. change_at (second_is 2 spot.0) (value_at part_sort spot (rows_in outer (line_object spot.0))) to) (option_and_then (λ to. option_map_or (λ (v : Usages). None) (value_at part_sort spot inner) (Some to)) (value_at part_sort spot (sets s.uses)))
    first_value spot = first.1 spot ∙ ap (option_and_then (λ to. change_at (second_is 2 spot.0) (value_at part_sort spot (rows_in outer (line_object spot.0))) to)) (opened.1 spot)

    are_free : AreFree part_sort (all_changes outer (opens inner (sets s.uses))) (inner_changes inner (sets s.uses))
    are_free spot w e = changed.1 spot ∙ by_values (value_at part_sort spot (sets s.uses)) (value_at part_sort spot inner) (sym (first_value spot) ∙ e)
      where
        by_values : (o i : Option Usages) → option_and_then (λ to. change_at (second_is 2 spot.0) (value_at part_sort spot (rows_in outer (line_object spot.0))) to) (option_and_then (λ to. option_map_or (λ (v : Usages). None) i (Some to)) o) ≡ Some w → option_and_then (λ to. option_and_then (change_from to) i) o ≡ None
        by_values None i f = refl
        by_values (Some to) None f = refl
        by_values (Some to) (Some v) f = absurd (cc)

    joined : Apart part_sort (joined_changes outer inner (sets s.uses)) × ((spot : Spot) → value_at part_sort spot (joined_changes outer inner (sets s.uses)) ≡ option_or (value_at part_sort spot (all_changes outer (opens inner (sets s.uses)))) (value_at part_sort spot (inner_changes inner (sets s.uses))))
    joined = all_put part_sort same_change changes_tell (all_changes outer (opens inner (sets s.uses))) (inner_changes inner (sets s.uses)) (apart_loose part_sort (all_changes outer (opens inner (sets s.uses))) first.0) changed.0 are_free

    by_all : (spot : Spot) (t : Bool) (o i r : Option Usages) → option_or (option_and_then (λ to. change_at t r to) (option_and_then (λ to. option_map_or (λ (v : Usages). None) i (Some to)) o)) (option_and_then (λ to. option_and_then (change_from to) i) o) ≡ option_and_then (λ to. change_at t (option_or i r) to) o
    by_all spot t None i r = refl
    by_all spot t (Some to) None r = or_none (change_at t r to)
      where
        or_none : (o : Option Change) → option_or o None ≡ o
        or_none None = refl
        or_none (Some c) = refl
    by_all spot t (Some to) (Some v) r = refl

    at_part : (p : Part) → value_at part_sort (part_spot p) (joined_changes outer inner (sets s.uses)) ≡ value_at part_sort (part_spot p) (flat_map (change_of trace s) (parts_used s.uses))
    at_part p =
        joined.1 (part_spot p)
        ∙ (ap₂ option_or (first_value (part_spot p)) (changed.1 (part_spot p))
        ∙ (by_all (part_spot p) (second_is 2 (part_spot p).0) (value_at part_sort (part_spot p) (sets s.uses)) (value_at part_sort (part_spot p) inner) (value_at part_sort (part_spot p) (rows_in outer (line_object (part_spot p).0)))
        ∙ (ap₂ (λ (t : Bool) (n : ℕ). option_and_then (λ to. change_at t (option_or (value_at part_sort (part_spot p) inner) (value_at part_sort (part_spot p) (rows_in outer n))) to) (value_at part_sort (part_spot p) (sets s.uses))) (part_texture_is p) (part_object_is p)
        ∙ (ap₂ (λ (o last : Option Usages). option_and_then (λ to. change_at (is_texture p) last to) o) ((sets_are s.uses).1 p) (sym (keep p))
        ∙ sym (wanted_all trace s p)))))

-- Rows after uses.
abbrev pub UsedAfter : List UseRow → List UseRow → Type 0
UsedAfter us rows = Apart part_sort (used_after us rows) × ((spot : Spot) → value_at part_sort spot (used_after us rows) ≡ option_or (value_at part_sort spot us) (value_at part_sort spot rows))

pub used_are : (us rows : List UseRow) → Loose part_sort us → Apart part_sort rows → UsedAfter us rows
used_are [] rows l a = (a, λ spot. refl)
used_are (u ∷ us) rows l a = go (used_are us (overwrite part_sort same_set u rows) l.2 (overwrite_apart part_sort same_set uses_tell part_clips u rows l.0 a))
  where
    by_cover : (spot : Spot) (b : Bool) → covers_spot part_sort u.0 spot ≡ b → option_or (value_at part_sort spot us) (if b then Some u.1 else value_at part_sort spot rows) ≡ option_or (if b then Some u.1 else value_at part_sort spot us) (value_at part_sort spot rows)
    by_cover spot true k = ap (λ o. option_or o (Some u.1)) (l.1 spot k)
    by_cover spot false k = refl

    go : UsedAfter us (overwrite part_sort same_set u rows) → UsedAfter (u ∷ us) rows
    go next = (next.0, λ spot. next.1 spot ∙ (ap (option_or (value_at part_sort spot us)) (overwrite_value part_sort same_set uses_tell part_clips u rows spot l.0 a) ∙ by_cover spot (covers_spot part_sort u.0 spot) refl))

pub step_used : (s : Step) (rows : List UseRow) → Apart part_sort rows → UsedAfter (sets s.uses) rows
step_used s rows a = used_are (sets s.uses) rows (apart_loose part_sort (sets s.uses) (sets_are s.uses).0) a

-- One more step, noted in the inner rows.
pub keep_more : (outer : LastRows) (inner : List UseRow) (trace : List Item) (s : Step) → Apart part_sort inner → KeepBoth outer inner (steps_of trace) → KeepBoth outer (used_after (sets s.uses) inner) (steps_of (add_step trace s))
unfolding set_of
keep_more outer inner trace s sorted keep p =
    ap (λ steps. last_set p steps (length steps)) (steps_added trace s)
    ∙ (last_set_more p (steps_of trace) s
    ∙ (ap (option_or (set_of s p)) (keep p)
    ∙ (or_assoc (set_of s p) (value_at part_sort (part_spot p) inner) (kept_set outer p)
    ∙ sym (ap (λ o. option_or o (kept_set outer p)) ((step_used s inner sorted).1 (part_spot p) ∙ ap (λ o. option_or o (value_at part_sort (part_spot p) inner)) ((sets_are s.uses).1 p))))))
  where
    or_assoc : (a b d : Option Usages) → option_or a (option_or b d) ≡ option_or (option_or a b) d
    or_assoc None b d = refl
    or_assoc (Some v) b d = refl

-- After the inner rows are noted over those of before, these stand for the trace.
pub ends_keep : (outer after : LastRows) (inner : List UseRow) (steps : List Step) → AreSorted outer → Apart part_sort inner → ((object : ℕ) → rows_in after object ≡ rows_noted object inner (rows_in outer object)) → KeepBoth outer inner steps → KeepsLast after steps
ends_keep outer after inner steps so si is keep p =
    ap (value_at part_sort (part_spot p)) (is (object_of p))
    ∙ ((noted_are (object_of p) inner (rows_in outer (object_of p)) (apart_loose part_sort inner si) (so (object_of p)).0).1 (part_spot p) (part_object_is p)
    ∙ sym (keep p))

pub ends_sorted : (outer after : LastRows) (inner : List UseRow) → AreSorted outer → Apart part_sort inner → ((object : ℕ) → rows_in after object ≡ rows_noted object inner (rows_in outer object)) → AreSorted after
ends_sorted outer after inner so si is object = subst (AreRowsOf object) (sym (is object)) ((noted_are object inner (rows_in outer object) (apart_loose part_sort inner si) (so object).0).0, each_noted object inner (rows_in outer object) (apart_loose part_sort inner si) (so object).0 (so object).1)
