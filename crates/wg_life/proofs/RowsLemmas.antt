-- Rows after notes.
use Rattle.std.proofs.Common.{◌≡◌, ℕ, ◌+◌, ◌<◌, Bool, true, false, ◌||◌, List, [], ◌∷◌, length, take, get_or, refl, sym, ap, ◌∙◌, arith}
use Rattle.std.specs.List.{list_any}
use Rattle.std.proofs.Math.Nat.{zero-max}
use Rattle.std.proofs.lemmas.List.{take_more}
use Rattle.std.proofs.lemmas.List.Folds.{list_any-append}
use Rattle.wg_life.specs.declared.rows.Row.{Row}
use Rattle.wg_life.specs.Lives.{row_at, with_last, with_use, Notes}

-- A note of a test changes nothing where it fails, and twice it is one of either test.
pub record IsMark (put : Bool → Row → Row) : Type 0 where
  pub none : (row : Row) → put false row ≡ row
  pub twice : (a b : Bool) (row : Row) → put b (put a row) ≡ put (a || b) row

last_none : (row : Row) → with_last 0 row ≡ row
last_none row = ap {B = Row} (λ last. record row { last = last }) (zero-max row.last)

pub marks_use : (op : ℕ) → IsMark (with_use op)
marks_use op = record { none = last_none; twice = by_cases }
  where
    by_cases : (a b : Bool) (row : Row) → with_use op b (with_use op a row) ≡ with_use op (a || b) row
    by_cases true true row = ap {B = Row} (λ last. record row { last = last }) (omega arith)
    by_cases true false row = last_none (with_use op true row)
    by_cases false b row = ap (with_use op b) (last_none row)

-- the same note in other words
Notes_as : (f g : ℕ → Row → Row) (old new : List Row) → ((n : ℕ) (row : Row) → f n row ≡ g n row) → Notes f old new → Notes g old new
Notes_as f g old new same notes = record { len = notes.len; each = λ n lt. notes.each n lt ∙ same n (row_at old n) }

-- one note after another
Notes_then : (f g : ℕ → Row → Row) (old mid new : List Row) → Notes f old mid → Notes g mid new → Notes (λ n row. g n (f n row)) old new
Notes_then f g old mid new first second = record {
  len = second.len ∙ first.len;
  each = λ n lt. second.each n (let e = first.len in omega (arith, lt, e)) ∙ ap (g n) (first.each n lt);
}

-- a note for one more of a list
pub Notes_more : {X : Type 0} (put : Bool → Row → Row) → IsMark put → (test : X → ℕ → Bool) (xs : List X) (i : ℕ) (d : X) (old mid new : List Row) → i < length xs → Notes (λ n. put (list_any (λ y. test y n) (take i xs))) old mid → Notes (λ n. put (test (get_or xs i d) n)) mid new → Notes (λ n. put (list_any (λ y. test y n) (take (i + 1) xs))) old new
Notes_more put mark test xs i d old mid new lt before one =
    Notes_as (λ n row. put (test (get_or xs i d) n) (put (list_any (λ y. test y n) (take i xs)) row)) (λ n. put (list_any (λ y. test y n) (take (i + 1) xs))) old new
    (λ n row. mark.twice (list_any (λ y. test y n) (take i xs)) (test (get_or xs i d) n) row ∙ ap (λ b. put b row) (sym (ap (list_any (λ y. test y n)) (take_more xs i d lt) ∙ (list_any-append (λ y. test y n) (take i xs) (get_or xs i d ∷ []) ∙ ap (λ b. list_any (λ y. test y n) (take i xs) || b) (or_no (test (get_or xs i d) n))))))
    (Notes_then (λ n. put (list_any (λ y. test y n) (take i xs))) (λ n. put (test (get_or xs i d) n)) old mid new before one)
  where
    or_no : (b : Bool) → (b || false) ≡ b
    or_no true = refl
    or_no false = refl
