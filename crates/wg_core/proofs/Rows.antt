-- The tracker has rows of each object.
use Rattle.std.proofs.Common.{◌≡◌, ℕ, ◌+◌, ◌<◌, Bool, true, false, not, ◌&&◌, nat_lt, List, [], ◌∷◌, ◌++◌, length, length-set, set, Option, None, Some, is_some, reverse, refl, sym, ap, ◌∙◌, append-nil, if◌then◌else◌}
use Rattle.std.specs.Option.{option_map}
use Rattle.std.proofs.lemmas.Bool.{lt-ltb}
use Rattle.std.proofs.lemmas.List.{length_push, reverse-append}
use Rattle.wg_fading.specs.Fading.{FadingValue, was_let_go}
use Rattle.wg_bars.specs.Kept.{with_notes, gone_with, AreHere}
use Rattle.wg_bars.proofs.Here.{rest_here, rest_placed}
use Rattle.wg_cbtrack.specs.Adds.{now_of}
use Rattle.wg_cbtrack.specs.Plans.{PlanValue}
use Rattle.wg_cbtrack.specs.Ready.{IsReady}
use Rattle.wg_cbtrack.specs.Stands.{TrackerValue, kept_last, kept_cells}
use Rattle.wg_history.specs.declared.events.Setup.{Setup}
use Rattle.wg_history.specs.Entries.{Entry, Past}
use Rattle.wg_history.specs.Objects.{is_making, count, known_in, made_info}
use Rattle.wg_life.specs.declared.rows.Made.{Made}
use Rattle.wg_state.specs.Gone.{IsDead}
use Rattle.wg_state.specs.Rows.{made_by, object_made}
use Rattle.wg_state.proofs.MadeLemmas.{making_info, made_any}
use Rattle.wg_core.specs.Cores.{HasRowsOf, with_next}

pub no_rows : (history : List Entry) (gone : List ℕ) (tracker : TrackerValue) → history ≡ [] → gone ≡ [] → tracker ≡ record { last = []; cells = []; last_gone = []; cells_gone = []; spare = 0 } → HasRowsOf history gone tracker
no_rows history gone tracker none all is = record {
  last = ap (λ (t : TrackerValue). length t.last) is ∙ ap (λ (entries : List Entry). count (reverse entries)) (sym none);
  cells = ap (λ (t : TrackerValue). length t.cells) is ∙ ap (λ (entries : List Entry). count (reverse entries)) (sym none);
  last_gone = ap (λ (t : TrackerValue). t.last_gone) is ∙ sym all;
  cells_gone = ap (λ (t : TrackerValue). t.cells_gone) is ∙ sym all;
}

pub same_rows : (history : List Entry) (gone : List ℕ) (old new : TrackerValue) → HasRowsOf history gone old → new.last ≡ old.last → new.cells ≡ old.cells → new.last_gone ≡ old.last_gone → new.cells_gone ≡ old.cells_gone → HasRowsOf history gone new
same_rows history gone old new rows last cells last_gone cells_gone = record {
  last = ap length last ∙ rows.last;
  cells = ap length cells ∙ rows.cells;
  last_gone = last_gone ∙ rows.last_gone;
  cells_gone = cells_gone ∙ rows.cells_gone;
}

-- notes of objects that have rows make no others

notes_as_long : {A : Type 0} (kept : FadingValue (List A)) (fresh : List (ℕ × List A)) → AreHere kept fresh → length (with_notes kept.items fresh) ≡ length kept.items
notes_as_long kept [] here = refl
notes_as_long {A} kept (note ∷ fresh) here =
    let placed : FadingValue (List A) = record { items = set kept.items note.0 note.1; gone = kept.gone; spare = kept.spare } in
    ap length (sym (rest_placed kept note.0 note.1 fresh here))
    ∙ (notes_as_long placed fresh (rest_here kept placed note.0 note.1 fresh here refl refl) ∙ length-set kept.items note.0 note.1)

pub applied_last : (old new : TrackerValue) (plan : PlanValue) → IsReady old plan → new ≡ now_of old plan.draft → length new.last ≡ length old.last
applied_last old new plan ready is = ap (λ (t : TrackerValue). length t.last) is ∙ notes_as_long (kept_last old) plan.draft.last ready.here.last

pub applied_cells : (old new : TrackerValue) (plan : PlanValue) → IsReady old plan → new ≡ now_of old plan.draft → length new.cells ≡ length old.cells
applied_cells old new plan ready is = ap (λ (t : TrackerValue). length t.cells) is ∙ notes_as_long (kept_cells old) plan.draft.cells ready.here.cells

-- an entry makes at most one object

some_mapped : {A B : Type 0} (f : A → B) (o : Option A) → is_some (option_map f o) ≡ is_some o
some_mapped f None = refl
some_mapped f (Some x) = refl

makes_one : (past : Past) (entry : Entry) (valid : Bool) → is_some (made_by entry.event valid) ≡ is_making entry.event
makes_one past entry valid =
    ap is_some (sym (made_any past entry.event valid)) ∙ (some_mapped (object_made entry.event valid) (made_info past entry.event) ∙ sym (making_info (known_in past) entry.event))

next_length : {A : Type 0} (made : Bool) (rows : List (List A)) (n : ℕ) → length rows ≡ n → length (with_next made rows) ≡ (if made then n + 1 else n)
next_length true rows n is = length_push rows [] ∙ ap (λ k. k + 1) is
next_length false rows n is = is

pub next_rows : (history : List Entry) (gone : List ℕ) (entry : Entry) (made : Option Made) (valid : Bool) (old applied new : TrackerValue) → made ≡ made_by entry.event valid → HasRowsOf history gone old
    → length applied.last ≡ length old.last → length applied.cells ≡ length old.cells → applied.last_gone ≡ old.last_gone → applied.cells_gone ≡ old.cells_gone
    → new.last ≡ with_next (is_some made) applied.last → new.cells ≡ with_next (is_some made) applied.cells → new.last_gone ≡ applied.last_gone → new.cells_gone ≡ applied.cells_gone → HasRowsOf (history ++ entry ∷ []) gone new
next_rows history gone entry made valid old applied new is rows same_last same_cells same_last_gone same_cells_gone last cells last_gone cells_gone =
    let making : is_some made ≡ is_making entry.event = ap is_some is ∙ makes_one (reverse history) entry valid in
    let counted : (if is_some made then count (reverse history) + 1 else count (reverse history)) ≡ count (reverse (history ++ entry ∷ [])) =
    ap (λ (b : Bool). if b then count (reverse history) + 1 else count (reverse history)) making ∙ sym (ap count (reverse-append history (entry ∷ []))) in
    record {
      last = ap length last ∙ (next_length (is_some made) applied.last (count (reverse history)) (same_last ∙ rows.last) ∙ counted);
      cells = ap length cells ∙ (next_length (is_some made) applied.cells (count (reverse history)) (same_cells ∙ rows.cells) ∙ counted);
      last_gone = last_gone ∙ (same_last_gone ∙ rows.last_gone);
      cells_gone = cells_gone ∙ (same_cells_gone ∙ rows.cells_gone);
    }

-- the rows of an object that was made and is kept are let go

kept_if : (made gone : Bool) → made ≡ true → gone ≡ false → (made && not gone) ≡ true
kept_if true false m g = refl
kept_if true true m g = sym g
kept_if false g m n = m

gone_one : {A : Type 0} (kept : FadingValue (List A)) (gone : List ℕ) (n made : ℕ) → length kept.items ≡ made → kept.gone ≡ gone → n < made → was_let_go gone n ≡ false → gone_with kept n ≡ gone ++ n ∷ []
gone_one kept gone n made long is less here =
    ap (λ (b : Bool). if b then kept.gone ++ n ∷ [] else kept.gone)
    (kept_if (nat_lt n (length kept.items)) (was_let_go kept.gone n) (ap (nat_lt n) long ∙ lt-ltb n made less) (ap (λ (ns : List ℕ). was_let_go ns n) is ∙ here))
    ∙ ap (λ (ns : List ℕ). ns ++ n ∷ []) is

pub let_go_rows : (setup : Setup) (history later : List Entry) (gone after : List ℕ) (n : ℕ) (old new : TrackerValue) → HasRowsOf history gone old → IsDead setup (reverse history) n → was_let_go gone n ≡ false → later ≡ history → after ≡ gone ++ n ∷ []
    → new.last ≡ old.last → new.cells ≡ old.cells → new.last_gone ≡ gone_with (kept_last old) n → new.cells_gone ≡ gone_with (kept_cells old) n → HasRowsOf later after new
let_go_rows setup history later gone after n old new rows dead here same is last cells last_gone cells_gone = record {
  last = ap length last ∙ (rows.last ∙ ap (λ (entries : List Entry). count (reverse entries)) (sym same));
  cells = ap length cells ∙ (rows.cells ∙ ap (λ (entries : List Entry). count (reverse entries)) (sym same));
  last_gone = last_gone ∙ (gone_one (kept_last old) gone n (count (reverse history)) rows.last rows.last_gone dead.made here ∙ sym is);
  cells_gone = cells_gone ∙ (gone_one (kept_cells old) gone n (count (reverse history)) rows.cells rows.cells_gone dead.made here ∙ sym is);
}

pub kept_rows : (history later : List Entry) (gone after : List ℕ) (tracker : TrackerValue) → HasRowsOf history gone tracker → later ≡ history → after ≡ gone ++ [] → HasRowsOf later after tracker
kept_rows history later gone after tracker rows same is = record {
  last = rows.last ∙ ap (λ (entries : List Entry). count (reverse entries)) (sym same);
  cells = rows.cells ∙ ap (λ (entries : List Entry). count (reverse entries)) (sym same);
  last_gone = rows.last_gone ∙ (sym (append-nil gone) ∙ sym is);
  cells_gone = rows.cells_gone ∙ (sym (append-nil gone) ∙ sym is);
}
