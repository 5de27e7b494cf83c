-- Notes of objects whose rows were not let go.
use Rattle.std.proofs.Common.{◌≡◌, ℕ, zero, suc, ◌<◌, ◌≤◌, ◌+◌, List, [], ◌∷◌, ◌++◌, length, length-set, Bool, true, false, not, ◌&&◌, ◌||◌, ◌==◌, nat_lt, refl, ap, ap₂, sym, ◌∙◌, inl, inr, arith, if◌then◌else◌, true≢false, set, drop, append_assoc, Some, slice_get}
use Rattle.std.specs.Prelude.{max}
use Rattle.std.proofs.lemmas.List.{get_or_past, drop_more}
use Rattle.std.proofs.lemmas.Option.{slice_get_within, get_or_from_slice_get}
use Rattle.std.proofs.lemmas.Bool.{and_parts, or_cases, ltb-true, eqb-true, eq-eqb}
use Rattle.wg_fading.specs.Fading.{FadingValue, was_let_go, is_kept}
use Rattle.wg_bars.specs.Kept.{rows_in, over, with_rows, with_notes, is_noted, SetsNote, AddsNote, AddsKept, AreHere, AreMade, AreBegun}

-- No notes have no objects.
pub none_here : {A : Type 0} (kept : FadingValue (List A)) → AreHere kept []
none_here kept object noted = absurd (true≢false (sym noted))

pub none_added : {A : Type 0} (kept : FadingValue (List A)) (fresh : List (ℕ × List A)) → AddsKept kept fresh fresh
none_added kept fresh object noted = ap (λ (b : Bool). b || is_kept kept object) noted

or_right : (a b : Bool) → b ≡ true → (a || b) ≡ true
or_right true b e = refl
or_right false b e = e

-- Notes of an object more, whose rows were not let go.
pub note_kept : {A : Type 0} (kept : FadingValue (List A)) (old fresh new : List (ℕ × List A)) (object : ℕ) → AddsKept kept old fresh → (is_noted fresh object || is_kept kept object) ≡ true → AddsNote fresh object new → AddsKept kept old new
note_kept {A} kept old fresh new object adds here added other noted = by_same (object == other) refl (sym (added other) ∙ noted)
  where
    at_object : (is_noted old object || is_kept kept object) ≡ true
    at_object = elim (or_cases (is_noted fresh object) (is_kept kept object) here) [
      | inl before ↦ adds object before
      | inr is ↦ or_right (is_noted old object) (is_kept kept object) is
    ]

    by_same : (b : Bool) → (object == other) ≡ b → (if b then true else is_noted fresh other) ≡ true → (is_noted old other || is_kept kept other) ≡ true
    by_same true same e = ap (λ (n : ℕ). is_noted old n || is_kept kept n) (sym (eqb-true object other same)) ∙ at_object
    by_same false same e = adds other e

-- Notes beyond those of objects that are here are of such objects.
pub adds_more : {A : Type 0} (kept : FadingValue (List A)) (old fresh new : List (ℕ × List A)) → AddsKept kept old fresh → AddsKept kept fresh new → AddsKept kept old new
adds_more kept old fresh new first second object noted = elim (or_cases (is_noted fresh object) (is_kept kept object) (second object noted)) [
  | inl before ↦ first object before
  | inr is ↦ or_right (is_noted old object) (is_kept kept object) is
]

pub adds_here : {A : Type 0} (kept : FadingValue (List A)) (old new : List (ℕ × List A)) → AreHere kept old → AddsKept kept old new → AreHere kept new
adds_here kept old new here adds object noted = elim (or_cases (is_noted old object) (is_kept kept object) (adds object noted)) [
  | inl before ↦ here object before
  | inr is ↦ is
]

-- The first of notes that are here, and the others after it is put in place.
first_noted : {A : Type 0} (object : ℕ) (rows : List A) (more : List (ℕ × List A)) → is_noted ((object, rows) ∷ more) object ≡ true
first_noted object rows more = ap (λ (b : Bool). if b then true else is_noted more object) (eq-eqb object object refl)

pub first_here : {A : Type 0} (kept : FadingValue (List A)) (object : ℕ) (rows : List A) (more : List (ℕ × List A)) → AreHere kept ((object, rows) ∷ more) → is_kept kept object ≡ true
first_here kept object rows more here = here object (first_noted object rows more)

pub rest_here : {A : Type 0} (kept placed : FadingValue (List A)) (object : ℕ) (rows : List A) (more : List (ℕ × List A)) → AreHere kept ((object, rows) ∷ more) → placed.items ≡ set kept.items object rows → placed.gone ≡ kept.gone → AreHere placed more
rest_here {A} kept placed object rows more here items gone other noted =
    ap₂ (λ (n : ℕ) (ns : List ℕ). nat_lt other n && not (was_let_go ns other)) (ap length items ∙ length-set kept.items object rows) gone
    ∙ here other (by_same (object == other))
  where
    by_same : (b : Bool) → (if b then true else is_noted more other) ≡ true
    by_same true = refl
    by_same false = noted

set_rows : {A : Type 0} (kept : List (List A)) (object : ℕ) (rows : List A) → object < length kept → with_rows kept object rows ≡ set kept object rows
set_rows [] object rows lt = absurd (omega (arith, lt))
set_rows (x ∷ xs) zero rows lt = refl
set_rows (x ∷ xs) (suc object) rows lt = ap (λ ys. x ∷ ys) (set_rows xs object rows (omega (arith, lt)))

pub kept_within : {A : Type 0} (kept : FadingValue (List A)) (object : ℕ) → is_kept kept object ≡ true → object < length kept.items
kept_within kept object is = ltb-true object (length kept.items) (and_parts (nat_lt object (length kept.items)) (not (was_let_go kept.gone object)) is).0

pub rest_placed : {A : Type 0} (kept : FadingValue (List A)) (object : ℕ) (rows : List A) (more : List (ℕ × List A)) → AreHere kept ((object, rows) ∷ more) → with_notes (set kept.items object rows) more ≡ with_notes kept.items ((object, rows) ∷ more)
rest_placed kept object rows more here = ap (λ items. with_notes items more) (sym (set_rows kept.items object rows (kept_within kept object (first_here kept object rows more here))))

-- Rows with notes over them reach at least as far.
rows_longer : {A : Type 0} (kept : List (List A)) (object : ℕ) (rows : List A) → length kept ≤ length (with_rows kept object rows)
rows_longer [] zero rows = omega arith
rows_longer [] (suc object) rows = omega arith
rows_longer (x ∷ xs) zero rows = omega arith
rows_longer (x ∷ xs) (suc object) rows = omega (arith, rows_longer xs object rows)

pub notes_longer : {A : Type 0} (kept : List (List A)) (fresh : List (ℕ × List A)) → length kept ≤ length (with_notes kept fresh)
notes_longer kept [] = omega arith
notes_longer kept (f ∷ fs) = omega (arith, rows_longer kept f.0 f.1, notes_longer (with_rows kept f.0 f.1) fs)

-- What was let go had rows, which stay.
pub made_longer : {A : Type 0} (kept other : FadingValue (List A)) → AreMade kept → other.gone ≡ kept.gone → length kept.items ≤ length other.items → AreMade other
made_longer kept other made gone longer object was =
    let lt : object < length kept.items = made object (ap (λ ns. was_let_go ns object) (sym gone) ∙ was) in
    omega (arith, lt, longer)

-- Notes of objects that have no rows yet, one more of which has none.
pub begun_none : {A : Type 0} (kept : FadingValue (List A)) → AreBegun kept (length kept.items) []
begun_none kept = record { past = λ object noted. absurd (true≢false (sym noted)); within = λ object noted. absurd (true≢false (sym noted)); same = λ object. refl }

pub begun_more : {A : Type 0} (kept : FadingValue (List A)) (next : ℕ) (fresh new : List (ℕ × List A)) → AreBegun kept next fresh → length kept.items ≤ next → SetsNote fresh next [] new → AddsNote fresh next new → AreBegun kept (next + 1) new
begun_more {A} kept next fresh new begun past sets added =
    record {
      past = λ object noted. past_by object (next == object) refl (sym (added object) ∙ noted);
      within = λ object noted. within_by object (next == object) refl (sym (added object) ∙ noted);
      same = λ object. sets object (rows_in kept.items object) ∙ same_by object (next == object) refl;
    }
  where
    past_by : (object : ℕ) (b : Bool) → (next == object) ≡ b → (if b then true else is_noted fresh object) ≡ true → length kept.items ≤ object
    past_by object true same e = let at : next ≡ object = eqb-true next object same in omega (arith, at, past)
    past_by object false same e = begun.past object e

    within_by : (object : ℕ) (b : Bool) → (next == object) ≡ b → (if b then true else is_noted fresh object) ≡ true → object < next + 1
    within_by object true same e = let at : next ≡ object = eqb-true next object same in omega (arith, at)
    within_by object false same e = let lt : object < next = begun.within object e in omega (arith, lt)

    same_by : (object : ℕ) (b : Bool) → (next == object) ≡ b → (if b then [] else over fresh object (rows_in kept.items object)) ≡ rows_in kept.items object
    same_by object true same = let at : next ≡ object = eqb-true next object same in sym (get_or_past kept.items object [] (omega (arith, at, past)))
    same_by object false same = begun.same object

pub begun_all : {A : Type 0} (kept : FadingValue (List A)) (next end : ℕ) (fresh : List (ℕ × List A)) → AreBegun kept next fresh → next ≤ max end (length kept.items) → AreBegun kept end fresh
begun_all kept next end fresh begun few =
    record {
      past = begun.past;
      within = λ object noted. omega (arith, begun.past object noted, begun.within object noted, few);
      same = begun.same;
    }

-- A copy of a list, made of its elements one after another.
pub copy_more : {A : Type 0} (all copied more : List A) (i : ℕ) (x : A) → slice_get all i ≡ Some x → copied ++ drop i all ≡ all → more ≡ copied ++ x ∷ [] → more ++ drop (i + 1) all ≡ all
copy_more all copied more i x is before added =
    let one : drop i all ≡ x ∷ drop (i + 1) all = drop_more all i x (slice_get_within all i x is) ∙ ap (λ y. y ∷ drop (i + 1) all) (get_or_from_slice_get all i x x is) in
    ap (λ xs. xs ++ drop (i + 1) all) added ∙ (append_assoc copied (x ∷ []) (drop (i + 1) all) ∙ (ap (λ ys. copied ++ ys) (sym one) ∙ before))
