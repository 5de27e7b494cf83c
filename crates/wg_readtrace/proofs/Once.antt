-- A step that is read gives no cell twice.
use Rattle.std.specs.Prelude.{Option, Some, None, Result, Ok, Err, nat_lt, nat_le}
use Rattle.std.proofs.Common.{◌≡◌, ℕ, suc, ◌<◌, ◌≤◌, List, [], ◌∷◌, ◌++◌, Bool, true, false, not, ◌&&◌, if◌then◌else◌, ap, sym, refl, ◌∙◌, arith, true≢false, subst}
use Rattle.std.specs.List.{list_any}
use Rattle.std.proofs.lemmas.Bool.{and_parts, and_from, or_parts, false_from_ne_true, ltb-true, lt-ltb, leb-true}
use Rattle.wg_trace.specs.declared.parts.AccessKind.{AccessKind}
use Rattle.wg_trace.specs.declared.steps.Item.{Item}
use Rattle.wg_rows.specs.Rows.{list_eq, in_range}
use Rattle.wg_rows.specs.Runs.{Cell, Cells, cell_line, cell_lo, cell_hi, cell_spot, covers}
use Rattle.wg_rows.specs.Once.{NoneCovers, OneCovers, AreOnce}
use Rattle.wg_rows.proofs.Put.{list_eq_true, list_eq_refl}
use Rattle.wg_readtrace.specs.declared.line.Line.{Line}
use Rattle.wg_readtrace.specs.declared.line.Line.TheVariants.{Bar, Step, Use, Acc, Free, End}
use Rattle.wg_readtrace.specs.Forms.{line_of}
use Rattle.wg_readtrace.specs.Given.{overlap}
use Rattle.wg_readtrace.specs.Reading.{is_end, steps_in, may_stand, last_line, is_none_left, given_by, gives_again, judged, then_read, onto, read_from, items_of, accesses_in, as_items}

-- a cell of two runs makes them overlap
shared : (a b : Cells) (c : Cell) → covers b c ≡ true → covers a c ≡ true → overlap a b ≡ true
unfolding overlap covers
shared a b c in_b in_a =
    let pa : (list_eq (cell_line a) (cell_spot c).0 ≡ true) × (in_range (cell_lo a) (cell_hi a) (cell_spot c).1 ≡ true) = and_parts (list_eq (cell_line a) (cell_spot c).0) (in_range (cell_lo a) (cell_hi a) (cell_spot c).1) in_a in
    let pb : (list_eq (cell_line b) (cell_spot c).0 ≡ true) × (in_range (cell_lo b) (cell_hi b) (cell_spot c).1 ≡ true) = and_parts (list_eq (cell_line b) (cell_spot c).0) (in_range (cell_lo b) (cell_hi b) (cell_spot c).1) in_b in
    let ra : (nat_le (cell_lo a) (cell_spot c).1 ≡ true) × (nat_lt (cell_spot c).1 (cell_hi a) ≡ true) = and_parts (nat_le (cell_lo a) (cell_spot c).1) (nat_lt (cell_spot c).1 (cell_hi a)) pa.1 in
    let rb : (nat_le (cell_lo b) (cell_spot c).1 ≡ true) × (nat_lt (cell_spot c).1 (cell_hi b) ≡ true) = and_parts (nat_le (cell_lo b) (cell_spot c).1) (nat_lt (cell_spot c).1 (cell_hi b)) pb.1 in
    let la : cell_lo a ≤ (cell_spot c).1 = leb-true (cell_lo a) (cell_spot c).1 ra.0 in
    let lb : cell_lo b ≤ (cell_spot c).1 = leb-true (cell_lo b) (cell_spot c).1 rb.0 in
    let ua : (cell_spot c).1 < cell_hi a = ltb-true (cell_spot c).1 (cell_hi a) ra.1 in
    let ub : (cell_spot c).1 < cell_hi b = ltb-true (cell_spot c).1 (cell_hi b) rb.1 in
    let lines : cell_line a ≡ cell_line b = list_eq_true (cell_line a) (cell_spot c).0 pa.0 ∙ sym (list_eq_true (cell_line b) (cell_spot c).0 pb.0) in
    and_from (list_eq (cell_line a) (cell_line b)) (nat_lt (cell_lo a) (cell_hi b) && nat_lt (cell_lo b) (cell_hi a))
    (ap (list_eq (cell_line a)) (sym lines) ∙ list_eq_refl (cell_line a))
    (and_from (nat_lt (cell_lo a) (cell_hi b)) (nat_lt (cell_lo b) (cell_hi a)) (lt-ltb (cell_lo a) (cell_hi b) (omega arith)) (lt-ltb (cell_lo b) (cell_hi a) (omega arith)))

apart : (a b : Cells) (c : Cell) → overlap a b ≡ false → covers b c ≡ true → covers a c ≡ false
apart a b c none in_b = false_from_ne_true (covers a c) (λ in_a. true≢false (sym (shared a b c in_b in_a) ∙ none))

-- No row has a cell of these runs.
abbrev Clear : List Cells → List (Cells × AccessKind) → Type 0
Clear [] rows = Unit {0}
Clear (run ∷ runs) rows = ((c : Cell) → covers run c ≡ true → NoneCovers c rows) × Clear runs rows

clear_none : (runs : List Cells) → Clear runs []
clear_none [] = tt
clear_none (run ∷ runs) = (λ c e. tt, clear_none runs)

clear_first : (runs : List Cells) (run : Cells) (rows : List (Cells × AccessKind)) → Clear (runs ++ run ∷ []) rows → Clear runs rows
clear_first [] run rows h = tt
clear_first (r ∷ runs) run rows h = (h.0, clear_first runs run rows h.1)

clear_last : (runs : List Cells) (run : Cells) (rows : List (Cells × AccessKind)) → Clear (runs ++ run ∷ []) rows → (c : Cell) → covers run c ≡ true → NoneCovers c rows
clear_last [] run rows h = h.0
clear_last (r ∷ runs) run rows h = clear_last runs run rows h.1

clear_more : (runs : List Cells) (run : Cells) (kind : AccessKind) (rows : List (Cells × AccessKind)) → list_any (overlap run) runs ≡ false → Clear runs rows → Clear runs ((run, kind) ∷ rows)
clear_more [] run kind rows none h = tt
clear_more (r ∷ runs) run kind rows none h =
    let p : (overlap run r ≡ false) × (list_any (overlap run) runs ≡ false) = or_parts (overlap run r) (list_any (overlap run) runs) none in
    (λ c e. (apart run r c p.0 e, h.0 c e), clear_more runs run kind rows p.1 h.1)

-- Lines behind these give each step no cell twice, and the step at hand none that it has.
record Fine (before lines : List Line) : Type 0 where
  items : AreOnce (items_of lines)
  once : (c : Cell) → OneCovers c (accesses_in lines)
  clear : Clear (given_by before) (accesses_in lines)

abbrev AreFine : List Line → Result (List Line) (ℕ × ℕ) → Type 0
AreFine before (Ok lines) = Fine before lines
AreFine before (Err e) = Unit {0}

abbrev Fresh : List Cells → Result Line (ℕ × ℕ) → Type 0
Fresh rows (Ok line) = gives_again rows line ≡ false
Fresh rows (Err e) = Unit {0}

judged_fresh : (n : ℕ) (is_last : Bool) (last : Option Line) (steps : ℕ) (rows : List Cells) (line : Option Line) → Fresh rows (judged n is_last last steps rows line)
judged_fresh n is_last last steps rows None = tt
judged_fresh n is_last last steps rows (Some line) = by_tests (not (may_stand last steps line)) (is_last && not (is_end line)) (gives_again rows line) refl
  where
    by_tests : (a b t : Bool) → gives_again rows line ≡ t → Fresh rows (if a then Err (3, n) else (if b then Err (3, n) else (if t then Err (4, n) else Ok line)))
    by_tests true b t e = tt
    by_tests false true t e = tt
    by_tests false false true e = tt
    by_tests false false false e = e

line_more : (before : List Line) (line : Line) (lines : List Line) → gives_again (given_by before) line ≡ false → Fine (line ∷ before) lines → Fine before (line ∷ lines)
line_more before (Bar part from to) lines e h = record { items = h.items; once = λ c. tt; clear = clear_none (given_by before) }
line_more before (Step number place name) lines e h = record { items = (h.once, h.items); once = λ c. tt; clear = clear_none (given_by before) }
line_more before (Use part set) lines e h = record { items = h.items; once = h.once; clear = h.clear }
line_more before (Acc kind cells) lines e h = record {
  items = h.items;
  once = λ c. (clear_last (given_by before) cells (accesses_in lines) h.clear c, h.once c);
  clear = clear_more (given_by before) cells kind (accesses_in lines) e (clear_first (given_by before) cells (accesses_in lines) h.clear);
}
line_more before (Free object sort) lines e h = record { items = h.items; once = λ c. tt; clear = clear_none (given_by before) }
line_more before End lines e h = record { items = h.items; once = λ c. tt; clear = clear_none (given_by before) }

by_rest : (before : List Line) (line : Line) (r : Result (List Line) (ℕ × ℕ)) → gives_again (given_by before) line ≡ false → AreFine (line ∷ before) r → AreFine before (onto line r)
by_rest before line (Ok lines) e h = line_more before line lines e h
by_rest before line (Err x) e h = tt

by_judged : (before : List Line) (more : Line → Result (List Line) (ℕ × ℕ)) (r : Result Line (ℕ × ℕ)) → Fresh (given_by before) r → ((line : Line) → AreFine (line ∷ before) (more line)) → AreFine before (then_read more r)
by_judged before more (Ok line) e h = by_rest before line (more line) e (h line)
by_judged before more (Err x) e h = tt

lines_fine : (n : ℕ) (before : List Line) (texts : List (List ℕ)) → AreFine before (read_from n before texts)
lines_fine n before [] = record { items = tt; once = λ c. tt; clear = clear_none (given_by before) }
lines_fine n before (text ∷ texts) =
    by_judged before (λ line. read_from (suc n) (line ∷ before) texts) (judged n (is_none_left texts) (last_line before) (steps_in before) (given_by before) (line_of text))
    (judged_fresh n (is_none_left texts) (last_line before) (steps_in before) (given_by before) (line_of text))
    (λ line. lines_fine (suc n) (line ∷ before) texts)

pub items_once : (n : ℕ) (texts : List (List ℕ)) (lines : List Line) → read_from n [] texts ≡ Ok lines → AreOnce (items_of lines)
items_once n texts lines e = fine.items
  where
    fine : Fine [] lines
    fine = subst (AreFine []) e (lines_fine n [] texts)

-- so does each trace that is read
pub once_of : (n : ℕ) (texts : List (List ℕ)) (items : List Item) → as_items (read_from n [] texts) ≡ Ok items → AreOnce items
once_of n texts items e = by_lines (read_from n [] texts) refl e
  where
    by_lines : (r : Result (List Line) (ℕ × ℕ)) → read_from n [] texts ≡ r → as_items r ≡ Ok items → AreOnce items
    by_lines (Ok lines) h k = let same : items_of lines ≡ items = cc in subst AreOnce same (items_once n texts lines h)
    by_lines (Err x) h k = cc
