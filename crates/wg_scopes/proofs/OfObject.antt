-- The rows of an object stand beside each other.
use Rattle.std.proofs.Common.{length, take, drop, ◌-◌, ◌≡◌, ℕ, ◌<◌, ◌≤◌, ◌==◌, ◌||◌, ◌&&◌, nat_lt, Bool, true, false, List, [], ◌∷◌, refl, ap, sym, ◌∙◌, inl, inr, arith, if◌then◌else◌, true≢false}
use Rattle.std.proofs.lemmas.List.{length-drop, take_all}
use Rattle.std.proofs.lemmas.Bool.Decides.{nat_tests}
use Rattle.wg_rows.specs.Rows.{list_before, Apart, After, EachRow}
use Rattle.wg_rows.specs.Runs.{PartRun, BufferPart, LayerParts, QueryPart, part_sort, part_line, run_object}
use Rattle.wg_rows.specs.Sets.{UseRow}
use Rattle.wg_scopes.specs.OfObject.{rows_with, skipped, taken}

abbrev head : List ℕ → ℕ
head [] = 0
head (x ∷ xs) = x

head_is : (run : PartRun) → head (part_line run) ≡ run_object run
head_is (BufferPart object) = refl
head_is (LayerParts object aspect mip lo hi) = refl
head_is (QueryPart object) = refl

head_le : (xs ys : List ℕ) → list_before xs ys ≡ true → head xs ≤ head ys
head_le [] ys e = omega arith
head_le (x ∷ xs) [] e = absurd (true≢false (sym e))
head_le (x ∷ xs) (y ∷ ys) e = by_rest x y (list_before xs ys) e
  where
    by_rest : (a b : ℕ) (t : Bool) → nat_lt a b || ((a == b) && t) ≡ true → a ≤ b
    by_rest a b true h = grind (arith, nat_tests, h)
    by_rest a b false h = grind (arith, nat_tests, h)

object_le : (r x : UseRow) → After part_sort r x → run_object r.0 ≤ run_object x.0
object_le r x (inl before) = omega (arith, head_le (part_line r.0) (part_line x.0) before, head_is r.0, head_is x.0)
object_le r x (inr same) = omega (arith, ap head same.0, head_is r.0, head_is x.0)

none_more : (object : ℕ) (r : UseRow) (rows : List UseRow) → object < run_object r.0 → EachRow (After part_sort r) rows → rows_with object rows ≡ []
none_more object r [] l after = refl
none_more object r (x ∷ rows) l after = rw (other (run_object x.0) (omega (arith, l, object_le r x after.0))) (none_more object r rows l after.1)
  where
    other : (n : ℕ) → object < n → n == object ≡ false
    other n h = grind (arith, nat_tests, h)

all_taken : (object : ℕ) (rows : List UseRow) → Apart part_sort rows → EachRow (λ row. object ≤ run_object row.0) rows → taken object rows ≡ rows_with object rows
all_taken object [] a each = refl
all_taken object (r ∷ rows) a each = by_same (run_object r.0 == object) refl (all_taken object rows a.2 each.1)
  where
    by_same : (b : Bool) → (run_object r.0 == object) ≡ b → taken object rows ≡ rows_with object rows → taken object (r ∷ rows) ≡ rows_with object (r ∷ rows)
    by_same true e h = rw e (ap (λ more. r ∷ more) h)
    by_same false e h = rw e (sym (none_more object r rows (more (run_object r.0) each.0 e) a.1))
      where
        more : (n : ℕ) → object ≤ n → n == object ≡ false → object < n
        more n l k = grind (arith, nat_tests, l, k)

rest_at_least : (object : ℕ) (r : UseRow) (rows : List UseRow) → object ≤ run_object r.0 → EachRow (After part_sort r) rows → EachRow (λ row. object ≤ run_object row.0) rows
rest_at_least object r [] l after = tt
rest_at_least object r (x ∷ rows) l after = (omega (arith, l, object_le r x after.0), rest_at_least object r rows l after.1)

pub rows_are : (object : ℕ) (rows : List UseRow) → Apart part_sort rows → taken object (skipped object rows) ≡ rows_with object rows
rows_are object [] a = refl
rows_are object (r ∷ rows) a = by_less (nat_lt (run_object r.0) object) refl (rows_are object rows a.2)
  where
    by_less : (b : Bool) → nat_lt (run_object r.0) object ≡ b → taken object (skipped object rows) ≡ rows_with object rows → taken object (if b then skipped object rows else r ∷ rows) ≡ rows_with object (r ∷ rows)
    by_less true e h = h ∙ sym (rw (other (run_object r.0) e) refl)
      where
        other : (n : ℕ) → nat_lt n object ≡ true → n == object ≡ false
        other n k = grind (arith, nat_tests, k)
    by_less false e h = all_taken object (r ∷ rows) a (least (run_object r.0) e, rest_at_least object r rows (least (run_object r.0) e) a.1)
      where
        least : (n : ℕ) → nat_lt n object ≡ false → object ≤ n
        least n k = grind (arith, nat_tests, k)

-- Rows of an object keep the form.
rows_after : (object : ℕ) (r : UseRow) (rows : List UseRow) → EachRow (After part_sort r) rows → EachRow (After part_sort r) (rows_with object rows)
rows_after object r [] after = tt
rows_after object r (x ∷ rows) after = by_same (run_object x.0 == object) (rows_after object r rows after.1)
  where
    by_same : (b : Bool) → EachRow (After part_sort r) (rows_with object rows) → EachRow (After part_sort r) (if b then x ∷ rows_with object rows else rows_with object rows)
    by_same true rest = (after.0, rest)
    by_same false rest = rest

pub rows_apart : (object : ℕ) (rows : List UseRow) → Apart part_sort rows → Apart part_sort (rows_with object rows)
rows_apart object [] a = tt
rows_apart object (r ∷ rows) a = by_same (run_object r.0 == object) (rows_apart object rows a.2)
  where
    by_same : (b : Bool) → Apart part_sort (rows_with object rows) → Apart part_sort (if b then r ∷ rows_with object rows else rows_with object rows)
    by_same true rest = (a.0, rows_after object r rows a.1, rest)
    by_same false rest = rest

pub whole : {X : Type 0} (n : ℕ) (xs : List X) → take (length xs - n) (drop n xs) ≡ drop n xs
whole n xs = take_all (length xs - n) (drop n xs) (omega (arith, length-drop n xs))
