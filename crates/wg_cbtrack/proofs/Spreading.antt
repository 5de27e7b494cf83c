-- Uses of which each is the only one of its object, over rows that have no other part of it.
use Rattle.std.proofs.Common.{◌≡◌, ℕ, ◌<◌, min, max, List, [], ◌∷◌, ◌++◌, Bool, true, false, ◌||◌, ◌&&◌, ◌==◌, Option, Some, None, refl, ap, ap₂, sym, ◌∙◌, arith, if◌then◌else◌, nat_lt, subst, true≢false, eqb-true, eq-eqb, length, drop, get_or, drop-cons, add-one, ◌+◌}
use Rattle.std.specs.List.{flat_map}
use Rattle.std.proofs.lemmas.Bool.{and_parts, ltb-true, or_left}
use Rattle.wg_rows.specs.Rows.{Spot, line_object, covers_spot, EachRow, Apart, list_eq, list_before, run_before, joined, touch, put_at, put}
use Rattle.wg_rows.specs.Cut.{value_at, put_all, overwrite}
use Rattle.wg_rows.specs.Runs.{PartRun, part_sort, part_line, part_lo, part_hi}
use Rattle.wg_rows.specs.Uses.{Usages, same_set}
use Rattle.wg_rows.specs.Sets.{UseRow}
use Rattle.wg_rows.proofs.Put.{list_eq_true}
use Rattle.wg_rows.proofs.Told.{uses_tell}
use Rattle.wg_rows.proofs.Sets.{part_clips}
use Rattle.wg_rows.proofs.Values.{overwrite_value, overwrite_apart}
use Rattle.wg_rows.proofs.Printed.{each_row_map}
use Rattle.wg_cbtrack.specs.Owners.{among, rows_of, rows_below, rows_above, Ordered, AreExchanged}
use Rattle.wg_cbtrack.specs.Near.{use_object}
use Rattle.wg_cbtrack.specs.Join.{fold, used_after}
use Rattle.wg_cbtrack.specs.Alone.{some, with_set, IsAlone, is_below, are_spread, Spread, AllAlone}
use Rattle.wg_cbtrack.proofs.Owning.{first_of, exchanged_one, each_append}
use Rattle.wg_cbtrack.proofs.Local.{line_at, lines_before, value_of, apart_ordered, exchanged_value, exchanged_apart, same_values}

-- Uses that were tested are spread.
below_all : (u : UseRow) (us : List UseRow) → is_below u us ≡ true → Spread us → EachRow (λ v. use_object u < use_object v) us
below_all u [] e h = tt
below_all u (v ∷ us) e h = let first : use_object u < use_object v = ltb-true (use_object u) (use_object v) e in (first, each_row_map (λ w. use_object v < use_object w) (λ w. use_object u < use_object w) (λ w l. omega (arith, first, l)) us h.1)

pub spread_told : (us : List UseRow) → are_spread us ≡ true → Spread us
spread_told [] e = tt
spread_told (u ∷ us) e =
    let tests : (nat_lt (part_lo u.0) (part_hi u.0) ≡ true) × ((is_below u us && are_spread us) ≡ true) = and_parts (nat_lt (part_lo u.0) (part_hi u.0)) (is_below u us && are_spread us) e in
    let both : (is_below u us ≡ true) × (are_spread us ≡ true) = and_parts (is_below u us) (are_spread us) tests.1 in
    let rest : Spread us = spread_told us both.1 in
    (ltb-true (part_lo u.0) (part_hi u.0) tests.0, below_all u us both.0 rest, rest)

-- A use in place of what its object has.
abbrev pub PutsOne : UseRow → List UseRow → List UseRow → Type 0
PutsOne u rows next = next ≡ rows_below use_object (use_object u) rows ++ (u ∷ rows_above use_object (use_object u) rows)

none_exchanged : {T : Type 0} (object : T → ℕ) (mine rows : List T) → Ordered object rows → AreExchanged object [] mine rows rows
none_exchanged object mine rows a = record { ordered = a; each = λ o. refl }

put_exchanged : (u : UseRow) (rows next : List UseRow) → Apart part_sort rows → PutsOne u rows next → AreExchanged use_object (use_object u ∷ []) (u ∷ []) rows next
put_exchanged u rows next a e = exchanged_one use_object [] (use_object u) (u ∷ []) rows rows next (tt, tt) (none_exchanged use_object (u ∷ []) rows (apart_ordered part_sort rows a)) (e ∙ ap (λ xs. rows_below use_object (use_object u) rows ++ (xs ++ rows_above use_object (use_object u) rows)) (sym (first_of use_object u [])))

no_value : (spot : Spot) (run : PartRun) (set : Option Usages) → covers_spot part_sort run spot ≡ false → value_at part_sort spot (with_set run set) ≡ None
no_value spot run None e = refl
no_value spot run (Some v) e = ap (λ (b : Bool). if b then Some v else None) e

pub put_is : (u : UseRow) (rows next : List UseRow) → part_lo u.0 < part_hi u.0 → Apart part_sort rows → IsAlone rows u.0 → PutsOne u rows next → next ≡ overwrite part_sort same_set u rows
put_is u rows next n a alone e = same_values part_sort same_set uses_tell next (overwrite part_sort same_set u rows) (exchanged_apart part_sort (use_object u ∷ []) (u ∷ []) rows next (n, tt, tt) a ex) (overwrite_apart part_sort same_set uses_tell part_clips u rows n a) (λ spot. exchanged_value part_sort (use_object u ∷ []) (u ∷ []) rows next spot ex ∙ (by_object spot (line_object spot.0 == use_object u) refl (covers_spot part_sort u.0 spot) refl ∙ sym (overwrite_value part_sort same_set uses_tell part_clips u rows spot n a)))
  where
    ex : AreExchanged use_object (use_object u ∷ []) (u ∷ []) rows next
    ex = put_exchanged u rows next a e

    none : (spot : Spot) → (line_object spot.0 == use_object u) ≡ true → covers_spot part_sort u.0 spot ≡ false → value_at part_sort spot rows ≡ None
    none spot k f = sym (value_of part_sort spot rows) ∙ (ap (λ o. value_at part_sort spot (rows_of use_object o rows)) (eqb-true (line_object spot.0) (use_object u) k) ∙ (ap (value_at part_sort spot) alone.1 ∙ no_value spot u.0 alone.0 f))

    by_object : (spot : Spot) (b : Bool) → (line_object spot.0 == use_object u) ≡ b → (c : Bool) → covers_spot part_sort u.0 spot ≡ c → (if among (use_object u ∷ []) (line_object spot.0) then value_at part_sort spot (u ∷ []) else value_at part_sort spot rows) ≡ (if covers_spot part_sort u.0 spot then Some u.1 else value_at part_sort spot rows)
    by_object spot true k true f = ap₂ (λ (x y : Bool). if x || false then (if y then Some u.1 else None) else value_at part_sort spot rows) k f ∙ sym (ap (λ (y : Bool). if y then Some u.1 else value_at part_sort spot rows) f)
    by_object spot true k false f = ap₂ (λ (x y : Bool). if x || false then (if y then Some u.1 else None) else value_at part_sort spot rows) k f ∙ (sym (none spot k f) ∙ sym (ap (λ (y : Bool). if y then Some u.1 else value_at part_sort spot rows) f))
    by_object spot false k true f = absurd (true≢false (sym (eq-eqb (line_object spot.0) (use_object u) (ap line_object (sym (line_at part_sort u.0 spot f)))) ∙ k))
    by_object spot false k false f = ap (λ (x : Bool). if x || false then value_at part_sort spot (u ∷ []) else value_at part_sort spot rows) k ∙ sym (ap (λ (y : Bool). if y then Some u.1 else value_at part_sort spot rows) f)

-- Uses of other objects stand as they did.
still_alone : (u v : UseRow) (rows next : List UseRow) → Apart part_sort rows → PutsOne u rows next → use_object u < use_object v → IsAlone rows v.0 → IsAlone next v.0
still_alone u v rows next a e l alone = (alone.0, (put_exchanged u rows next a e).each (use_object v) ∙ (ap (λ (b : Bool). if b || false then rows_of use_object (use_object v) (u ∷ []) else rows_of use_object (use_object v) rows) (other (use_object v == use_object u) refl) ∙ alone.1))
  where
    other : (b : Bool) → (use_object v == use_object u) ≡ b → b ≡ false
    other true k = let same : use_object v ≡ use_object u = eqb-true (use_object v) (use_object u) k in absurd (omega (arith, same, l))
    other false k = refl

pub record NextAlone (u : UseRow) (us rows next : List UseRow) : Type 0 where
  pub is : used_after us next ≡ used_after (u ∷ us) rows
  pub apart : Apart part_sort next
  pub spread : Spread us
  pub alone : AllAlone next us

pub next_alone : (u : UseRow) (us rows next : List UseRow) → Apart part_sort rows → Spread (u ∷ us) → AllAlone rows (u ∷ us) → PutsOne u rows next → NextAlone u us rows next
next_alone u us rows next a h alone e = record {
  is = ap (used_after us) (put_is u rows next h.0 a alone.0 e);
  apart = exchanged_apart part_sort (use_object u ∷ []) (u ∷ []) rows next (h.0, tt, tt) a (put_exchanged u rows next a e);
  spread = h.2;
  alone = each us h.1 alone.1;
}
  where
    each : (vs : List UseRow) → EachRow (λ v. use_object u < use_object v) vs → AllAlone rows vs → AllAlone next vs
    each [] l k = tt
    each (v ∷ vs) l k = (still_alone u v rows next a e l.0 k.0, each vs l.1 k.1)

-- The next use of a list.
pub one_held : (run : PartRun) (rows : List UseRow) → IsAlone rows run → (held : Option UseRow) × (rows_of use_object (line_object (part_line run)) rows ≡ some held)
one_held run rows alone = by_set alone.0 alone.1
  where
    by_set : (set : Option Usages) → rows_of use_object (line_object (part_line run)) rows ≡ with_set run set → (held : Option UseRow) × (rows_of use_object (line_object (part_line run)) rows ≡ some held)
    by_set None e = (None, e)
    by_set (Some v) e = (Some (run, v), e)

next_of : (uses : List UseRow) (i : ℕ) (d : UseRow) → i < length uses → drop i uses ≡ get_or uses i d ∷ drop (i + 1) uses
next_of uses i d l = drop-cons uses i d l ∙ ap (λ n. get_or uses i d ∷ drop n uses) (sym (add-one i))

first_alone : (rows us vs : List UseRow) (u : UseRow) → us ≡ u ∷ vs → AllAlone rows us → IsAlone rows u.0
first_alone rows us vs u e h = first (subst (AllAlone rows) e h)
  where
    first : AllAlone rows (u ∷ vs) → IsAlone rows u.0
    first k = k.0

pub alone_at : (uses rows : List UseRow) (i : ℕ) (d : UseRow) → i < length uses → AllAlone rows (drop i uses) → IsAlone rows (get_or uses i d).0
alone_at uses rows i d l h = first_alone rows (drop i uses) (drop (i + 1) uses) (get_or uses i d) (next_of uses i d l) h

pub record GoesOn (uses rows0 next : List UseRow) (i : ℕ) : Type 0 where
  pub is : used_after (drop (i + 1) uses) next ≡ used_after uses rows0
  pub apart : Apart part_sort next
  pub spread : Spread (drop (i + 1) uses)
  pub alone : AllAlone next (drop (i + 1) uses)
  pub fewer : length (drop i uses) ≡ length (drop (i + 1) uses) + 1

pub goes_on : (uses rows0 rows next : List UseRow) (i : ℕ) (d : UseRow) → i < length uses → used_after (drop i uses) rows ≡ used_after uses rows0 → Apart part_sort rows → Spread (drop i uses) → AllAlone rows (drop i uses) → PutsOne (get_or uses i d) rows next → GoesOn uses rows0 next i
goes_on uses rows0 rows next i d l is a s h e =
    let more : drop i uses ≡ get_or uses i d ∷ drop (i + 1) uses = next_of uses i d l in
    let on : NextAlone (get_or uses i d) (drop (i + 1) uses) rows next = next_alone (get_or uses i d) (drop (i + 1) uses) rows next a (subst Spread more s) (subst (AllAlone rows) more h) e in
    record {
      is = on.is ∙ (ap (λ us. used_after us rows) (sym more) ∙ is);
      apart = on.apart;
      spread = on.spread;
      alone = on.alone;
      fewer = ap length more ∙ sym (add-one (length (drop (i + 1) uses)));
    }

-- Pieces of such uses, of one run each, are in printed form as they come.
abbrev pub one_piece : {W : Type 0} → PartRun → Option W → List (PartRun × W)
one_piece run None = []
one_piece run (Some w) = (run, w) ∷ []

front : {W : Type 0} (same : W → W → Bool) (r : PartRun × W) (ys : List (PartRun × W)) → EachRow (λ (y : PartRun × W). line_object (part_line r.0) < line_object (part_line y.0)) ys → put part_sort same r ys ≡ r ∷ ys
front same r [] h = refl
front {W} same r (y ∷ ys) h = ap₂ (λ (b : Bool) (o : Option (PartRun × W)). put_at (λ row. put part_sort same row ys) r y ys b o) before none
  where
    before : run_before part_sort r.0 y.0 ≡ true
    before = or_left (list_before (part_line r.0) (part_line y.0)) (list_eq (part_line r.0) (part_line y.0) && nat_lt (part_lo r.0) (part_lo y.0)) (lines_before (part_line r.0) (part_line y.0) h.0)

    apart : (b : Bool) → list_eq (part_line y.0) (part_line r.0) ≡ b → b ≡ false
    apart true k = let same_object : line_object (part_line y.0) ≡ line_object (part_line r.0) = ap line_object (list_eq_true (part_line y.0) (part_line r.0) k) in absurd (omega (arith, same_object, h.0))
    apart false k = refl

    and_none : (b : Bool) → (b && false) ≡ false
    and_none true = refl
    and_none false = refl

    none : joined part_sort same y r ≡ None
    none = ap (λ (b : Bool). if b then Some (part_sort.widen y.0 (min (part_lo y.0) (part_lo r.0)) (max (part_hi y.0) (part_hi r.0)), r.1) else None) (ap (λ (b : Bool). same y.1 r.1 && (b && touch (part_lo y.0) (part_hi y.0) (part_lo r.0) (part_hi r.0))) (apart (list_eq (part_line y.0) (part_line r.0)) refl) ∙ and_none (same y.1 r.1))

behind_all : {W : Type 0} (pieces : UseRow → List (PartRun × W)) (o : ℕ) (us : List UseRow) → EachRow (λ v. o < use_object v) us → EachRow (λ u. (w : Option W) × (pieces u ≡ one_piece u.0 w)) us → EachRow (λ (y : PartRun × W). o < line_object (part_line y.0)) (flat_map pieces us)
behind_all pieces o [] l h = tt
behind_all {W} pieces o (u ∷ us) l h = each_append (λ (y : PartRun × W). o < line_object (part_line y.0)) (pieces u) (flat_map pieces us) (subst (EachRow (λ (y : PartRun × W). o < line_object (part_line y.0))) (sym h.0.1) (one h.0.0)) (behind_all pieces o us l.1 h.1)
  where
    one : (w : Option W) → EachRow (λ (y : PartRun × W). o < line_object (part_line y.0)) (one_piece u.0 w)
    one None = tt
    one (Some w) = (l.0, tt)

pub fold_flat : {W : Type 0} (same : W → W → Bool) (pieces : UseRow → List (PartRun × W)) (us : List UseRow) → Spread us → EachRow (λ u. (w : Option W) × (pieces u ≡ one_piece u.0 w)) us → fold same pieces us ≡ flat_map pieces us
fold_flat same pieces [] s h = refl
fold_flat {W} same pieces (u ∷ us) s h = ap₂ (put_all part_sort same) h.0.1 (fold_flat same pieces us s.2 h.1) ∙ (one h.0.0 ∙ ap (λ xs. xs ++ flat_map pieces us) (sym h.0.1))
  where
    one : (w : Option W) → put_all part_sort same (one_piece u.0 w) (flat_map pieces us) ≡ one_piece u.0 w ++ flat_map pieces us
    one None = refl
    one (Some w) = front same (u.0, w) (flat_map pieces us) (behind_all pieces (use_object u) us s.1 h.1)
