-- What is kept beside rows, as they change.
use Rattle.std.proofs.Common.{◌≡◌, ◌≢◌, ℕ, ◌<◌, ◌≤◌, Bool, true, false, not, ◌&&◌, ◌||◌, ◌==◌, nat_le, List, [], ◌∷◌, ◌++◌, length, Option, Some, None, is_some, inl, inr, refl, sym, ap, ap₂, ◌∙◌, arith, subst, true≢false}
use Rattle.std.specs.List.{list_any}
use Rattle.std.proofs.lemmas.Bool.{and_parts, and_from, cases_eq, cases_lt, eq-eqb, ne_eqb}
use Rattle.std.proofs.lemmas.Bool.Decides.{nat_tests}
use Rattle.std.proofs.lemmas.List.{get_or_append_left, get_or_push, get_or_past, length_push}
use Rattle.std.proofs.lemmas.List.Sorted.{IsNonDecreasingBy-short}
use Rattle.wg_life.specs.declared.rows.Resource.{Resource}
use Rattle.wg_life.specs.declared.rows.Row.{Row}
use Rattle.wg_life.specs.declared.waiting.Wait.{Wait}
use Rattle.wg_life.specs.Lives.{new_row, no_row, row_at, with_destroyed, with_use, Notes}
use Rattle.wg_life.specs.Waits.{gone_at, waits, is_waiting, will_wait, picked, stands_for, Losses, IsInserted, IsTidy}
use Rattle.wg_life.proofs.Picked.{picked_same, picked_none, picked_with, length_with}

pub any_more : {X : Type 0} (p q : X → Bool) (xs : List X) → ((x : X) → p x ≡ true → q x ≡ true) → list_any p xs ≡ true → list_any q xs ≡ true
any_more p q [] more is = absurd (true≢false (sym is))
any_more p q (x ∷ xs) more is = by_first (p x) (q x) (more x) is (any_more p q xs more)
  where
    by_first : (a b : Bool) → (a ≡ true → b ≡ true) → (a || list_any p xs) ≡ true → (list_any p xs ≡ true → list_any q xs ≡ true) → (b || list_any q xs) ≡ true
    by_first a true one is rest = refl
    by_first true false one is rest = absurd (true≢false (sym (one refl)))
    by_first false false one is rest = rest is

pub or_right : (a b : Bool) → b ≡ true → (a || b) ≡ true
or_right true b e = refl
or_right false b e = e

pub or_left : (a b : Bool) → a ≡ true → (a || b) ≡ true
or_left true b e = refl
or_left false b e = absurd (true≢false (sym e))

stands_later : (wait : Wait) (n a b : ℕ) → a ≤ b → (wait.number == n && nat_le wait.last a) ≡ true → (wait.number == n && nat_le wait.last b) ≡ true
stands_later wait n a b le e = and_from _ _ (and_parts (wait.number == n) (nat_le wait.last a) e).0 (let f = (and_parts (wait.number == n) (nat_le wait.last a) e).1 in grind (arith, nat_tests, le, f))

-- What is listed of an object stands for it after a later use.
pub stands_on : (rows new : List Row) (listed : List Wait) (n : ℕ) → (row_at rows n).last ≤ (row_at new n).last → list_any (stands_for rows n) listed ≡ true → list_any (stands_for new n) listed ≡ true
stands_on rows new listed n le is = any_more (stands_for rows n) (stands_for new n) listed (λ wait. stands_later wait n (row_at rows n).last (row_at new n).last le) is

-- Rows of which the same wait, and of which no use was taken back.
tidy_by : (rows new : List Row) (gone gone' : List Bool) (listed : List Wait) → length new ≡ length rows → length gone' ≡ length gone → ((n : ℕ) → n < length rows → is_waiting new gone' n ≡ is_waiting rows gone n) → ((n : ℕ) → n < length rows → (row_at rows n).last ≤ (row_at new n).last) → IsTidy rows gone listed → IsTidy new gone' listed
tidy_by rows new gone gone' listed len len' same later tidy = record {
  both = len' ∙ (tidy.both ∙ sym len);
  in_order = tidy.in_order;
  are_listed = λ n lt is.
      let less : n < length rows = subst (λ k. n < k) len lt in
      stands_on rows new listed n (later n less) (tidy.are_listed n less (sym (same n less) ∙ is));
  fits = subst (λ k. length listed ≤ k) (sym (ap (λ k. length (picked (is_waiting new gone') k)) len ∙ ap length (picked_same (is_waiting new gone') (is_waiting rows gone) (length rows) same))) tidy.fits;
}

pub tidy_destroyed : (number : ℕ) (rows new : List Row) (gone : List Bool) (listed : List Wait) → Notes (λ n. with_destroyed (number == n)) rows new → IsTidy rows gone listed → IsTidy new gone listed
tidy_destroyed number rows new gone listed notes tidy = tidy_by rows new gone gone listed notes.len refl
    (λ n lt. ap (λ (row : Row). waits row (gone_at gone n)) (notes.each n lt))
    (λ n lt. let e = ap (λ (row : Row). row.last) (notes.each n lt) in omega (arith, e))
    tidy

pub tidy_used : (op number : ℕ) (rows new : List Row) (gone : List Bool) (listed : List Wait) → Notes (λ n. with_use op (number == n)) rows new → IsTidy rows gone listed → IsTidy new gone listed
tidy_used op number rows new gone listed notes tidy = tidy_by rows new gone gone listed notes.len refl
    (λ n lt. ap (λ (row : Row). waits row (gone_at gone n)) (notes.each n lt))
    (λ n lt. subst (λ (row : Row). (row_at rows n).last ≤ row.last) (sym (notes.each n lt)) (omega arith))
    tidy

pub tidy_none : IsTidy [] [] []
tidy_none = record { both = refl; in_order = IsNonDecreasingBy-short (λ (wait : Wait). wait.last) [] (omega arith); are_listed = λ n lt is. absurd (omega (arith, lt)); fits = omega arith }

-- one object more

pub tidy_added : (resource : Option Resource) (rows : List Row) (gone : List Bool) (listed : List Wait) → IsTidy rows gone listed → IsTidy (rows ++ new_row resource ∷ []) (gone ++ false ∷ []) listed
tidy_added resource rows gone listed tidy = record {
  both = let e = length_push rows (new_row resource) in let f = length_push gone false in let h = tidy.both in omega (arith, e, f, h);
  in_order = tidy.in_order;
  are_listed = λ n lt is. elim (cases_lt n (length rows)) [
    | inl less ↦ (let e = ap (λ (row : Row). row.last) (old n less) in stands_on rows more listed n (omega (arith, e)) (tidy.are_listed n less (sym (old_waits n less) ∙ is)))
    | inr past ↦ (let e = length_push rows (new_row resource) in let here : n ≡ length rows = omega (arith, lt, past, e) in absurd (true≢false (sym is ∙ (ap (is_waiting more marks) here ∙ new_waits))))
  ];
  fits = subst (λ k. length listed ≤ k) (sym (ap (λ k. length (picked (is_waiting more marks) k)) (length_push rows (new_row resource)) ∙ ap length (picked_none (is_waiting more marks) (length rows) new_waits ∙ picked_same (is_waiting more marks) (is_waiting rows gone) (length rows) old_waits))) tidy.fits;
}
  where
    more : List Row
    more = rows ++ new_row resource ∷ []

    marks : List Bool
    marks = gone ++ false ∷ []

    old : (n : ℕ) → n < length rows → row_at more n ≡ row_at rows n
    old n lt = get_or_append_left rows (new_row resource ∷ []) no_row n lt

    old_waits : (n : ℕ) → n < length rows → is_waiting more marks n ≡ is_waiting rows gone n
    old_waits n lt = ap₂ waits (old n lt) (get_or_append_left gone (false ∷ []) false n (subst (λ k. n < k) (sym tidy.both) lt))

    no_wait : (o : Option Resource) → waits (new_row o) false ≡ false
    no_wait None = refl
    no_wait (Some resource) = refl

    new_waits : is_waiting more marks (length rows) ≡ false
    new_waits = ap₂ waits (get_or_push rows (new_row resource) no_row (length rows) refl) (get_or_push gone false false (length rows) tidy.both) ∙ no_wait resource

-- what is gone now

wait_by : (row : Row) (g : Bool) → will_wait row g ≡ false → waits row true ≡ waits row g
wait_by row g e = by_cases (is_some row.resource) g row.released e
  where
    by_cases : (r g l : Bool) → (r && not g && not l) ≡ false → (r && true && not l) ≡ (r && g && not l)
    by_cases false g l e = refl
    by_cases true true l e = refl
    by_cases true false true e = refl
    by_cases true false false e = absurd (true≢false e)

pub tidy_lost : (number : ℕ) (rows : List Row) (gone gone' : List Bool) (listed : List Wait) → will_wait (row_at rows number) (gone_at gone number) ≡ false → Losses (λ n. number == n) gone gone' → IsTidy rows gone listed → IsTidy rows gone' listed
tidy_lost number rows gone gone' listed out losses tidy = tidy_by rows rows gone gone' listed refl losses.len same (λ n lt. omega arith) tidy
  where
    same : (n : ℕ) → n < length rows → is_waiting rows gone' n ≡ is_waiting rows gone n
    same n lt = ap (waits (row_at rows n)) (losses.each n (subst (λ k. n < k) (sym tidy.both) lt)) ∙ elim (cases_eq number n) [
      | inl here ↦ ap (λ b. waits (row_at rows n) (b || gone_at gone n)) (eq-eqb number n here) ∙ wait_by (row_at rows n) (gone_at gone n) (ap (λ k. will_wait (row_at rows k) (gone_at gone k)) (sym here) ∙ out)
      | inr other ↦ ap (λ b. waits (row_at rows n) (b || gone_at gone n)) (ne_eqb number n other)
    ]

-- what will wait was made, and doesn't wait yet
pub will_made : (rows : List Row) (gone : List Bool) (n : ℕ) → will_wait (row_at rows n) (gone_at gone n) ≡ true → n < length rows
will_made rows gone n e = elim (cases_lt n (length rows)) [
  | inl less ↦ less
  | inr past ↦ absurd (true≢false (sym e ∙ ap (λ (row : Row). will_wait row (gone_at gone n)) (get_or_past rows n no_row past)))
]

pub will_now : (row : Row) (g : Bool) → will_wait row g ≡ true → (waits row true ≡ true) × (waits row g ≡ false)
will_now row g e = by_cases (is_some row.resource) g row.released e
  where
    by_cases : (r g l : Bool) → (r && not g && not l) ≡ true → ((r && true && not l) ≡ true) × ((r && g && not l) ≡ false)
    by_cases true false false e = (refl, refl)
    by_cases true false true e = absurd (true≢false (sym e))
    by_cases true true l e = absurd (true≢false (sym e))
    by_cases false g l e = absurd (true≢false (sym e))

pub tidy_listed : (k : ℕ) (rows : List Row) (gone gone' : List Bool) (listed listed' : List Wait) → will_wait (row_at rows k) (gone_at gone k) ≡ true → Losses (λ n. k == n) gone gone' → IsInserted (record { last = (row_at rows k).last; number = k }) listed listed' → IsTidy rows gone listed → IsTidy rows gone' listed'
tidy_listed k rows gone gone' listed listed' will losses inserted tidy = record {
  both = losses.len ∙ tidy.both;
  in_order = inserted.in_order;
  are_listed = λ n lt is.
      inserted.any (stands_for rows n) ∙ elim (cases_eq k n) [
        | inl here ↦ or_left (k == n && nat_le (row_at rows k).last (row_at rows n).last) (list_any (stands_for rows n) listed) (and_from _ _ (eq-eqb k n here) (let f = ap (λ k. (row_at rows k).last) here in grind (arith, nat_tests, f)))
        | inr other ↦ or_right (k == n && nat_le (row_at rows k).last (row_at rows n).last) (list_any (stands_for rows n) listed) (tidy.are_listed n lt (sym (others n lt (λ e. other (sym e))) ∙ is))
      ];
  fits =
      let e = ap length (picked_with (is_waiting rows gone) (is_waiting rows gone') (length rows) k made (will_now (row_at rows k) (gone_at gone k) will).1 within others) in
      let more = length_with k (picked (is_waiting rows gone) (length rows)) in
      let fits = tidy.fits in
      let len = inserted.len in
      omega (arith, e, more, fits, len);
}
  where
    made : k < length rows
    made = will_made rows gone k will

    within : is_waiting rows gone' k ≡ true
    within = ap (waits (row_at rows k)) (losses.each k (subst (λ m. k < m) (sym tidy.both) made) ∙ ap (λ b. b || gone_at gone k) (eq-eqb k k refl)) ∙ (will_now (row_at rows k) (gone_at gone k) will).0

    others : (n : ℕ) → n < length rows → n ≢ k → is_waiting rows gone' n ≡ is_waiting rows gone n
    others n lt other = ap (waits (row_at rows n)) (losses.each n (subst (λ m. n < m) (sym tidy.both) lt) ∙ ap (λ b. b || gone_at gone n) (ne_eqb k n (λ e. other (sym e))))
