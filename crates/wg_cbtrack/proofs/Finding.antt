-- What uses find in rows that have no other part of their objects.
use Rattle.std.proofs.Common.{◌≡◌, ℕ, ◌<◌, ◌≤◌, min, max, List, [], ◌∷◌, ◌++◌, Bool, true, false, ◌||◌, ◌&&◌, ◌==◌, Option, Some, None, refl, ap, ap₂, sym, ◌∙◌, arith, if◌then◌else◌, nat_lt, subst, append-nil, append_assoc, eq-eqb, cond, length, drop, get_or, drop-cons, add-one, ◌+◌}
use Rattle.std.proofs.lemmas.List.{drop_all}
use Rattle.std.specs.List.{flat_map}
use Rattle.std.proofs.lemmas.Bool.{lt-ltb, or_left}
use Rattle.std.proofs.lemmas.Bool.Decides.{nat_tests}
use Rattle.wg_rows.specs.Rows.{Sort, line_object, EachRow, list_eq}
use Rattle.wg_rows.specs.Cut.{cut, inside, gaps, choose, choose_one}
use Rattle.wg_rows.specs.Runs.{PartRun, BufferPart, LayerParts, QueryPart, part_sort, part_line, part_lo, part_hi}
use Rattle.wg_rows.specs.Uses.{Usages, Change, same_set, same_change}
use Rattle.wg_rows.specs.Sets.{UseRow}
use Rattle.wg_rows.proofs.Put.{list_eq_refl}
use Rattle.wg_bars.specs.Changes.{ChangeRow, change_from}
use Rattle.wg_cbtrack.specs.Owners.{among, rows_of, rows_among}
use Rattle.wg_cbtrack.specs.Near.{use_object}
use Rattle.wg_cbtrack.specs.Join.{inner_changes, opens}
use Rattle.wg_cbtrack.specs.Alone.{with_set, IsAlone, Spread, AllAlone}
use Rattle.wg_cbtrack.proofs.Local.{Keeps, of_row, inside_among, gaps_among}
use Rattle.wg_cbtrack.proofs.Nearby.{part_keeps}
use Rattle.wg_cbtrack.proofs.Spreading.{one_piece, fold_flat}

or_false : (b : Bool) → (b || false) ≡ b
or_false true = refl
or_false false = refl

one_among : {T : Type 0} (object : T → ℕ) (o : ℕ) (rows : List T) → rows_among object (o ∷ []) rows ≡ rows_of object o rows
one_among object o [] = refl
one_among {T} object o (x ∷ xs) = ap₂ (λ (b : Bool) (ys : List T). cond b (x ∷ ys) ys) (or_false (object x == o)) (one_among object o xs)

itself : (o : ℕ) → among (o ∷ []) o ≡ true
itself o = or_left (o == o) false (eq-eqb o o refl)

pub inside_about : {R V : Type 0} (sort : Sort R) (r : R) (rows : List (R × V)) → inside sort r (rows_of (of_row sort) (line_object (sort.line r)) rows) ≡ inside sort r rows
inside_about sort r rows = ap (inside sort r) (sym (one_among (of_row sort) (line_object (sort.line r)) rows)) ∙ inside_among sort (line_object (sort.line r) ∷ []) r rows (itself (line_object (sort.line r)))

pub gaps_about : {R V W : Type 0} (sort : Sort R) → Keeps sort → (u : R × W) (rows : List (R × V)) → gaps sort (u ∷ []) (rows_of (of_row sort) (line_object (sort.line u.0)) rows) ≡ gaps sort (u ∷ []) rows
gaps_about sort keeps u rows = ap (gaps sort (u ∷ [])) (sym (one_among (of_row sort) (line_object (sort.line u.0)) rows)) ∙ gaps_among sort keeps (line_object (sort.line u.0) ∷ []) (u ∷ []) rows (itself (line_object (sort.line u.0)), tt)

max_itself : (n : ℕ) → max n n ≡ n
max_itself n = omega arith

min_itself : (n : ℕ) → min n n ≡ n
min_itself n = omega arith

not_less : (n : ℕ) → nat_lt n n ≡ false
not_less n = grind (arith, nat_tests)

widen_itself : (run : PartRun) → part_sort.widen run (part_lo run) (part_hi run) ≡ run
widen_itself (BufferPart a) = refl
widen_itself (LayerParts a b c x y) = refl
widen_itself (QueryPart a) = refl

inside_itself : (run : PartRun) (set : Option Usages) → part_lo run < part_hi run → inside part_sort run (with_set run set) ≡ with_set run set
inside_itself run None n = refl
inside_itself run (Some v) n = ap₂ (λ (b : Bool) (x : PartRun). (if b then (x, v) ∷ [] else []) ++ []) test (ap₂ (part_sort.widen run) (max_itself (part_lo run)) (min_itself (part_hi run)) ∙ widen_itself run)
  where
    test : (list_eq (part_line run) (part_line run) && nat_lt (max (part_lo run) (part_lo run)) (min (part_hi run) (part_hi run))) ≡ true
    test = ap₂ (λ (a b : Bool). a && b) (list_eq_refl (part_line run)) (ap₂ nat_lt (max_itself (part_lo run)) (min_itself (part_hi run)) ∙ lt-ltb (part_lo run) (part_hi run) n)

pub inside_alone : (rows : List UseRow) (run : PartRun) (set : Option Usages) → part_lo run < part_hi run → rows_of use_object (line_object (part_line run)) rows ≡ with_set run set → inside part_sort run rows ≡ with_set run set
inside_alone rows run set n e = sym (inside_about part_sort run rows) ∙ (ap (inside part_sort run) e ∙ inside_itself run set n)

cut_itself : {W : Type 0} (run : PartRun) (w : W) → cut part_sort run ((run, w) ∷ []) ≡ []
cut_itself {W} run w = ap₂ (λ (a : Bool) (xs : List (PartRun × W)). (if a then xs else (run, w) ∷ []) ++ []) (list_eq_refl (part_line run)) (ap₂ (λ (a b : Bool). (if a then (part_sort.widen run (part_lo run) (min (part_hi run) (part_lo run)), w) ∷ [] else []) ++ (if b then (part_sort.widen run (max (part_lo run) (part_hi run)) (part_hi run), w) ∷ [] else [])) (not_less (part_lo run)) (not_less (part_hi run)))

-- the use itself, where its object has nothing
abbrev pub opened : UseRow → Option Usages → List UseRow
opened u None = u ∷ []
opened u (Some v) = []

gaps_itself : (u : UseRow) (set : Option Usages) → gaps part_sort (u ∷ []) (with_set u.0 set) ≡ opened u set
gaps_itself u None = refl
gaps_itself u (Some v) = cut_itself u.0 u.1

pub gaps_alone : (rows : List UseRow) (u : UseRow) (set : Option Usages) → rows_of use_object (use_object u) rows ≡ with_set u.0 set → gaps part_sort (u ∷ []) rows ≡ opened u set
gaps_alone rows u set e = sym (gaps_about part_sort part_keeps u rows) ∙ (ap (gaps part_sort (u ∷ [])) e ∙ gaps_itself u set)

-- What one use finds.
pub no_change : (rows : List UseRow) (u : UseRow) (set : Option Usages) → part_lo u.0 < part_hi u.0 → rows_of use_object (use_object u) rows ≡ with_set u.0 set → set ≡ None → (xs : List ChangeRow) → xs ≡ xs ++ choose (change_from u.1) (inside part_sort u.0 rows)
no_change rows u set n e is xs = sym (ap (λ ys. xs ++ choose (change_from u.1) ys) (inside_alone rows u.0 set n e ∙ ap (with_set u.0) is) ∙ append-nil xs)

pub yes_change : (rows : List UseRow) (u : UseRow) (set : Option Usages) (v : Usages) → part_lo u.0 < part_hi u.0 → rows_of use_object (use_object u) rows ≡ with_set u.0 set → set ≡ Some v → choose_one u.0 (change_from u.1 v) ≡ choose (change_from u.1) (inside part_sort u.0 rows)
yes_change rows u set v n e is = sym (ap (choose (change_from u.1)) (inside_alone rows u.0 set n e ∙ ap (with_set u.0) is) ∙ append-nil (choose_one u.0 (change_from u.1 v)))

pub yes_open : (rows : List UseRow) (u : UseRow) (set : Option Usages) → rows_of use_object (use_object u) rows ≡ with_set u.0 set → set ≡ None → u ∷ [] ≡ gaps part_sort (u ∷ []) rows
yes_open rows u set e is = sym (gaps_alone rows u set e ∙ ap (opened u) is)

pub no_open : (rows : List UseRow) (u : UseRow) (set : Option Usages) (v : Usages) → rows_of use_object (use_object u) rows ≡ with_set u.0 set → set ≡ Some v → (xs : List UseRow) → xs ≡ xs ++ gaps part_sort (u ∷ []) rows
no_open rows u set v e is xs = sym (ap (λ ys. xs ++ ys) (gaps_alone rows u set e ∙ ap (opened u) is) ∙ append-nil xs)

-- The next use of a list.
next_of : (uses : List UseRow) (i : ℕ) (d : UseRow) → i < length uses → drop i uses ≡ get_or uses i d ∷ drop (i + 1) uses
next_of uses i d l = drop-cons uses i d l ∙ ap (λ n. get_or uses i d ∷ drop n uses) (sym (add-one i))

pub each_on : (P : UseRow → Type 0) (uses : List UseRow) (i : ℕ) (d : UseRow) → i < length uses → P (get_or uses i d) → (EachRow P (drop i uses) → EachRow P uses) → EachRow P (drop (i + 1) uses) → EachRow P uses
each_on P uses i d l p h rest = h (subst (EachRow P) (sym (next_of uses i d l)) (p, rest))

pub flat_on : {W : Type 0} (f : UseRow → List W) (uses : List UseRow) (i : ℕ) (d : UseRow) (out next : List W) → i < length uses → next ≡ out ++ f (get_or uses i d) → out ++ flat_map f (drop i uses) ≡ flat_map f uses → next ++ flat_map f (drop (i + 1) uses) ≡ flat_map f uses
flat_on f uses i d out next l e h = ap (λ xs. xs ++ flat_map f (drop (i + 1) uses)) e ∙ (append_assoc out (f (get_or uses i d)) (flat_map f (drop (i + 1) uses)) ∙ (ap (λ us. out ++ flat_map f us) (sym (next_of uses i d l)) ∙ h))

pub spread_on : (uses : List UseRow) (i : ℕ) (d : UseRow) → i < length uses → Spread (drop i uses) → (part_lo (get_or uses i d).0 < part_hi (get_or uses i d).0) × Spread (drop (i + 1) uses)
spread_on uses i d l h = both (subst Spread (next_of uses i d l) h)
  where
    both : Spread (get_or uses i d ∷ drop (i + 1) uses) → (part_lo (get_or uses i d).0 < part_hi (get_or uses i d).0) × Spread (drop (i + 1) uses)
    both k = (k.0, k.2)

pub each_all : (P : UseRow → Type 0) (uses : List UseRow) (i : ℕ) → length uses ≤ i → (EachRow P (drop i uses) → EachRow P uses) → EachRow P uses
each_all P uses i l h = h (subst (EachRow P) (sym (drop_all i uses l)) tt)

pub flat_all : {W : Type 0} (f : UseRow → List W) (uses : List UseRow) (i : ℕ) (out : List W) → length uses ≤ i → out ++ flat_map f (drop i uses) ≡ flat_map f uses → out ≡ flat_map f uses
flat_all f uses i out l h = sym (append-nil out) ∙ (ap (λ us. out ++ flat_map f us) (sym (drop_all i uses l)) ∙ h)

-- One piece each.
change_piece : (rows : List UseRow) (u : UseRow) → part_lo u.0 < part_hi u.0 → IsAlone rows u.0 → (w : Option Change) × (choose (change_from u.1) (inside part_sort u.0 rows) ≡ one_piece u.0 w)
change_piece rows u n alone = by_set alone.0 (inside_alone rows u.0 alone.0 n alone.1)
  where
    chosen : (o : Option Change) → choose_one u.0 o ++ [] ≡ one_piece u.0 o
    chosen None = refl
    chosen (Some w) = refl

    by_set : (set : Option Usages) → inside part_sort u.0 rows ≡ with_set u.0 set → (w : Option Change) × (choose (change_from u.1) (inside part_sort u.0 rows) ≡ one_piece u.0 w)
    by_set None e = (None, ap (choose (change_from u.1)) e)
    by_set (Some v) e = (change_from u.1 v, ap (choose (change_from u.1)) e ∙ chosen (change_from u.1 v))

open_piece : (rows : List UseRow) (u : UseRow) → IsAlone rows u.0 → (w : Option Usages) × (gaps part_sort (u ∷ []) rows ≡ one_piece u.0 w)
open_piece rows u alone = by_set alone.0 (gaps_alone rows u alone.0 alone.1)
  where
    by_set : (set : Option Usages) → gaps part_sort (u ∷ []) rows ≡ opened u set → (w : Option Usages) × (gaps part_sort (u ∷ []) rows ≡ one_piece u.0 w)
    by_set None e = (Some u.1, e)
    by_set (Some v) e = (None, e)

pub changes_flat : (rows us : List UseRow) → Spread us → AllAlone rows us → flat_map (λ (u : UseRow). choose (change_from u.1) (inside part_sort u.0 rows)) us ≡ inner_changes rows us
changes_flat rows us s h = sym (fold_flat same_change (λ u. choose (change_from u.1) (inside part_sort u.0 rows)) us s (each us s h))
  where
    each : (vs : List UseRow) → Spread vs → AllAlone rows vs → EachRow (λ u. (w : Option Change) × (choose (change_from u.1) (inside part_sort u.0 rows) ≡ one_piece u.0 w)) vs
    each [] s h = tt
    each (v ∷ vs) s h = (change_piece rows v s.0 h.0, each vs s.2 h.1)

pub opens_flat : (rows us : List UseRow) → Spread us → AllAlone rows us → flat_map (λ (u : UseRow). gaps part_sort (u ∷ []) rows) us ≡ opens rows us
opens_flat rows us s h = sym (fold_flat same_set (λ u. gaps part_sort (u ∷ []) rows) us s (each us h))
  where
    each : (vs : List UseRow) → AllAlone rows vs → EachRow (λ u. (w : Option Usages) × (gaps part_sort (u ∷ []) rows ≡ one_piece u.0 w)) vs
    each [] h = tt
    each (v ∷ vs) h = (open_piece rows v h.0, each vs h.1)
