-- What a release makes of rows and of what is kept beside them.
use Rattle.std.proofs.Common.{◌≡◌, ◌≢◌, ℕ, ◌+◌, ◌<◌, ◌≤◌, Bool, true, false, not, ◌&&◌, ◌||◌, ◌==◌, nat_le, List, [], ◌∷◌, ◌++◌, suc, length, filter, insert, take, drop, get_or, is_some, option_map, option_to_list, inl, inr, refl, sym, ap, ap₂, ◌∙◌, arith, subst, if◌then◌else◌, true≢false}
use Rattle.std.specs.List.{flat_map, list_any}
use Rattle.std.specs.List.Sorted.{IsNonDecreasingBy, IsPartitionPoint, IsPermutation, IsSorted}
use Rattle.std.specs.Ordering.{nat_cmp}
use Rattle.std.proofs.lemmas.Bool.{and_from, cases_eq, cases_lt, eq-eqb, ne_eqb}
use Rattle.std.proofs.lemmas.Bool.Decides.{nat_tests}
use Rattle.std.proofs.lemmas.List.{length_push, get_or_past, take-append-drop}
use Rattle.std.proofs.lemmas.List.Sorted.{IsNonDecreasingBy-drop, IsNonDecreasingBy-insert, IsNonDecreasingBy-from_sort}
use Rattle.wg_trace.specs.declared.steps.Sort.{Sort}
use Rattle.wg_counts.specs.Counts.{times}
use Rattle.wg_counts.proofs.Sums.{times_push}
use Rattle.wg_life.specs.declared.rows.Row.{Row}
use Rattle.wg_life.specs.declared.waiting.Wait.{Wait}
use Rattle.wg_life.specs.Lives.{no_row, row_at, sort_of, with_release, Notes}
use Rattle.wg_life.specs.Waits.{gone_at, waits, is_waiting, is_due_where, with_due, freed_row, freed, picked, with_number, is_early, early, starts_late, stands_for, IsInserted, IsTidy, is_taken_out, IsReleasing, sort_at}
use Rattle.wg_life.proofs.Picked.{picked_nothing, picked_with, picked_rises, flat_picked, length_with, times_with, times_permuted, rising_same}
use Rattle.wg_life.proofs.Tidy.{or_left, or_right, stands_on}

-- one more in its place

any_swap : (a b c : Bool) → (a || (b || c)) ≡ (b || (a || c))
any_swap true true c = refl
any_swap true false c = refl
any_swap false b c = refl

any_within : {X : Type 0} (test : X → Bool) (x : X) (xs ys : List X) → list_any test (xs ++ x ∷ ys) ≡ (test x || list_any test (xs ++ ys))
any_within test x [] ys = refl
any_within test x (y ∷ xs) ys = ap (λ b. test y || b) (any_within test x xs ys) ∙ any_swap (test y) (test x) (list_any test (xs ++ ys))

count_within : {X : Type 0} (test : X → Bool) (x : X) (xs ys : List X) → length (filter test (xs ++ x ∷ ys)) ≡ length (filter test (x ∷ (xs ++ ys)))
count_within test x [] ys = refl
count_within {X = X} test x (y ∷ xs) ys = by_tests (test x) (test y) (filter test (xs ++ x ∷ ys)) (filter test (xs ++ ys)) (count_within test x xs ys)
  where
    by_tests : (a b : Bool) (more less : List X) → length more ≡ length (if a then x ∷ less else less) → length (if b then y ∷ more else more) ≡ length (if a then x ∷ (if b then y ∷ less else less) else (if b then y ∷ less else less))
    by_tests true true more less e = omega (arith, e)
    by_tests true false more less e = e
    by_tests false true more less e = omega (arith, e)
    by_tests false false more less e = e

length_within : {X : Type 0} (x : X) (xs ys : List X) → length (xs ++ x ∷ ys) ≡ length (xs ++ ys) + 1
length_within x [] ys = omega arith
length_within x (y ∷ xs) ys = let e = length_within x xs ys in omega (arith, e)

pub inserted_at : (wait : Wait) (listed : List Wait) (i : ℕ) → i ≤ length listed → IsNonDecreasingBy (λ (other : Wait). other.last) listed → IsPartitionPoint (λ (other : Wait). nat_le other.last wait.last ≡ true) (λ (other : Wait). nat_le other.last wait.last ≡ false) listed i → IsInserted wait listed (insert listed i wait)
inserted_at wait listed i le rises point = record {
  in_order = IsNonDecreasingBy-insert (λ (other : Wait). other.last) listed i wait rises le
      (λ k d lt. let e = point.0 k d (omega arith) lt in grind (arith, nat_tests, e))
      (λ k d lo hi. let e = point.1 k d lo hi in grind (arith, nat_tests, e));
  len = length_within wait (take i listed) (drop i listed) ∙ ap (λ xs. length xs + 1) (take-append-drop i listed);
  any = λ test. any_within test wait (take i listed) (drop i listed) ∙ ap (λ xs. test wait || list_any test xs) (take-append-drop i listed);
  early = λ done. count_within (is_early done) wait (take i listed) (drop i listed) ∙ ap (λ xs. early done (wait ∷ xs)) (take-append-drop i listed);
}

-- what waits was made
pub waits_made : (rows : List Row) (gone : List Bool) (n : ℕ) → is_waiting rows gone n ≡ true → n < length rows
waits_made rows gone n e = elim (cases_lt n (length rows)) [
  | inl less ↦ less
  | inr past ↦ absurd (true≢false (sym e ∙ ap (λ (row : Row). waits row (gone_at gone n)) (get_or_past rows n no_row past)))
]

-- the first of what is listed is taken out

first_other : (rows : List Row) (wait : Wait) (listed : List Wait) (n : ℕ) → wait.number ≢ n → list_any (stands_for rows n) (wait ∷ listed) ≡ true → list_any (stands_for rows n) listed ≡ true
first_other rows wait listed n other is = sym (ap (λ b. (b && nat_le wait.last (row_at rows n).last) || list_any (stands_for rows n) listed) (ne_eqb wait.number n other)) ∙ is

pub step_gone : (done : ℕ) (first rows : List Row) (gone : List Bool) (wait : Wait) (listed : List Wait) (due : List ℕ) → is_waiting rows gone wait.number ≡ false → IsReleasing done first rows gone (wait ∷ listed) due → IsReleasing done first rows gone listed due
step_gone done first rows gone wait listed due out before = record {
  tidy = record {
    both = before.tidy.both;
    in_order = IsNonDecreasingBy-drop (λ (wait : Wait). wait.last) 1 (wait ∷ listed) before.tidy.in_order;
    are_listed = λ n lt is. first_other rows wait listed n (λ e. true≢false (sym is ∙ (ap (is_waiting rows gone) (sym e) ∙ out))) (before.tidy.are_listed n lt is);
    fits = let fits = before.tidy.fits in omega (arith, fits);
  };
  notes = before.notes;
  due_len = before.due_len;
  due_are = before.due_are;
}

pub step_later : (done : ℕ) (first rows : List Row) (gone : List Bool) (wait : Wait) (listed listed' : List Wait) (due : List ℕ) → IsInserted (record { last = (row_at rows wait.number).last; number = wait.number }) listed listed' → IsReleasing done first rows gone (wait ∷ listed) due → IsReleasing done first rows gone listed' due
step_later done first rows gone wait listed listed' due inserted before = record {
  tidy = record {
    both = before.tidy.both;
    in_order = inserted.in_order;
    are_listed = λ n lt is. inserted.any (stands_for rows n) ∙ elim (cases_eq wait.number n) [
      | inl here ↦ or_left (wait.number == n && nat_le (row_at rows wait.number).last (row_at rows n).last) (list_any (stands_for rows n) listed) (and_from _ _ (eq-eqb wait.number n here) (let e = ap (λ k. (row_at rows k).last) here in grind (arith, nat_tests, e)))
      | inr other ↦ or_right (wait.number == n && nat_le (row_at rows wait.number).last (row_at rows n).last) (list_any (stands_for rows n) listed) (first_other rows wait listed n other (before.tidy.are_listed n lt is))
    ];
    fits = let fits = before.tidy.fits in let len = inserted.len in omega (arith, fits, len);
  };
  notes = before.notes;
  due_len = before.due_len;
  due_are = before.due_are;
}

now_released : (done : ℕ) (g : Bool) (row : Row) → waits row g ≡ true → nat_le row.last done ≡ true → (is_due_where done g row || row.released) ≡ true
now_released done g row w c = by_cases (is_some row.resource) g row.released (nat_le row.last done) w c
  where
    by_cases : (r g l c : Bool) → (r && g && not l) ≡ true → c ≡ true → ((r && g && c) || l) ≡ true
    by_cases false g l c w e = absurd (true≢false (sym w))
    by_cases true false l c w e = absurd (true≢false (sym w))
    by_cases true true l true w e = refl
    by_cases true true l false w e = absurd (true≢false (sym e))

pub not_released : (row : Row) (g : Bool) → waits row g ≡ true → row.released ≡ false
not_released row g w = by_cases (is_some row.resource) g row.released w
  where
    by_cases : (r g l : Bool) → (r && g && not l) ≡ true → l ≡ false
    by_cases false g l w = absurd (true≢false (sym w))
    by_cases true false l w = absurd (true≢false (sym w))
    by_cases true true true w = absurd (true≢false (sym w))
    by_cases true true false w = refl

waits_no_more : (row : Row) (g : Bool) → row.released ≡ true → waits row g ≡ false
waits_no_more row g e = ap (λ b. is_some row.resource && g && not b) e ∙ by_cases (is_some row.resource) g
  where
    by_cases : (r g : Bool) → (r && g && false) ≡ false
    by_cases false g = refl
    by_cases true false = refl
    by_cases true true = refl

pub step_released : (done : ℕ) (first rows new : List Row) (gone : List Bool) (wait : Wait) (listed : List Wait) (due : List ℕ) → is_waiting rows gone wait.number ≡ true → nat_le (row_at rows wait.number).last done ≡ true → Notes (λ n. with_release (wait.number == n)) rows new → IsReleasing done first rows gone (wait ∷ listed) due → IsReleasing done first new gone listed (due ++ wait.number ∷ [])
step_released done first rows new gone wait listed due waiting complete notes before = record {
  tidy = record {
    both = before.tidy.both ∙ sym notes.len;
    in_order = IsNonDecreasingBy-drop (λ (wait : Wait). wait.last) 1 (wait ∷ listed) before.tidy.in_order;
    are_listed = λ n lt is.
        let less : n < length rows = subst (λ m. n < m) notes.len lt in
        let other : n ≢ wait.number = λ e. true≢false (sym is ∙ (ap (is_waiting new gone) e ∙ out)) in
        stands_on rows new listed n (let e = ap (λ (row : Row). row.last) (others n less other) in omega (arith, e))
        (first_other rows wait listed n (λ e. other (sym e)) (before.tidy.are_listed n less (sym (others_wait n less other) ∙ is)));
    fits =
        let e = ap length (picked_with (is_waiting new gone) (is_waiting rows gone) (length rows) wait.number made out waiting (λ n lt other. sym (others_wait n lt other))) in
        let f = ap (λ m. length (picked (is_waiting new gone) m)) notes.len in
        let more = length_with wait.number (picked (is_waiting new gone) (length rows)) in
        let fits = before.tidy.fits in
        omega (arith, e, f, more, fits);
  };
  notes = record {
    len = notes.len ∙ before.notes.len;
    each = λ n lt.
        let less : n < length rows = subst (λ m. n < m) (sym before.notes.len) lt in
        elim (cases_eq n wait.number) [
          | inl same ↦ subst (λ k. row_at new k ≡ with_due done (gone_at gone k) (row_at new k).released (row_at first k)) (sym same) here
          | inr other ↦ others n less other ∙ (before.notes.each n lt ∙ ap (λ (row : Row). with_due done (gone_at gone n) row.released (row_at first n)) (sym (others n less other)))
        ];
  };
  due_len = let e = length_push due wait.number in let f = ap length taken in let g = length_with wait.number (picked (is_taken_out first rows gone) (length first)) in let h = before.due_len in omega (arith, e, f, g, h);
  due_are = λ n. let e = times_push n wait.number due in let f = ap (times n) taken in let g = times_with n wait.number (picked (is_taken_out first rows gone) (length first)) in let h = before.due_are n in omega (arith, e, f, g, h);
}
  where
    and_no : (b : Bool) → (b && false) ≡ false
    and_no true = refl
    and_no false = refl

    made : wait.number < length rows
    made = waits_made rows gone wait.number waiting

    made_first : wait.number < length first
    made_first = subst (λ m. wait.number < m) before.notes.len made

    others : (n : ℕ) → n < length rows → n ≢ wait.number → row_at new n ≡ row_at rows n
    others n lt other = notes.each n lt ∙ ap (λ b. with_release b (row_at rows n)) (ne_eqb wait.number n (λ e. other (sym e)))

    others_wait : (n : ℕ) → n < length rows → n ≢ wait.number → is_waiting new gone n ≡ is_waiting rows gone n
    others_wait n lt other = ap (λ (row : Row). waits row (gone_at gone n)) (others n lt other)

    at : row_at new wait.number ≡ with_release true (row_at rows wait.number)
    at = notes.each wait.number made ∙ ap (λ b. with_release b (row_at rows wait.number)) (eq-eqb wait.number wait.number refl)

    is_released : (row_at new wait.number).released ≡ true
    is_released = ap (λ (row : Row). row.released) at

    out : is_waiting new gone wait.number ≡ false
    out = waits_no_more (row_at new wait.number) (gone_at gone wait.number) is_released

    -- it is as it was at first
    same : row_at rows wait.number ≡ row_at first wait.number
    same = before.notes.each wait.number made_first ∙ ap (λ b. with_due done (gone_at gone wait.number) b (row_at first wait.number)) (not_released (row_at rows wait.number) (gone_at gone wait.number) waiting)

    waited : is_waiting first gone wait.number ≡ true
    waited = ap (λ (row : Row). waits row (gone_at gone wait.number)) (sym same) ∙ waiting

    taken : picked (is_taken_out first new gone) (length first) ≡ with_number wait.number (picked (is_taken_out first rows gone) (length first))
    taken = picked_with (is_taken_out first rows gone) (is_taken_out first new gone) (length first) wait.number made_first
        (ap (λ b. is_waiting first gone wait.number && not b) waiting ∙ and_no (is_waiting first gone wait.number))
        (ap₂ (λ a b. a && not b) waited out)
        (λ n lt other. ap (λ (b : Bool). is_waiting first gone n && not b) (others_wait n (subst (λ m. n < m) (sym before.notes.len) lt) other))

    here : row_at new wait.number ≡ with_due done (gone_at gone wait.number) (row_at new wait.number).released (row_at first wait.number)
    here = at ∙ (ap (with_release true) same
        ∙ (ap {B = Row} (λ b. record (row_at first wait.number) { released = b }) (sym (now_released done (gone_at gone wait.number) (row_at first wait.number) waited (ap (λ (row : Row). nat_le row.last done) (sym same) ∙ complete)))
        ∙ ap (λ b. with_due done (gone_at gone wait.number) b (row_at first wait.number)) (sym is_released)))

-- the start

pub releasing_none : (done : ℕ) (rows : List Row) (gone : List Bool) (listed : List Wait) (due : List ℕ) → due ≡ [] → IsTidy rows gone listed → IsReleasing done rows rows gone listed due
releasing_none done rows gone listed due none tidy = record {
  tidy = tidy;
  notes = record { len = refl; each = λ n lt. sym (ap {B = Row} (λ b. record (row_at rows n) { released = b }) (by_cases (row_at rows n).released (is_due_where done (gone_at gone n) (row_at rows n)))) };
  due_len = ap length start;
  due_are = λ n. ap (times n) start;
}
  where
    by_cases : (l x : Bool) → ((l && x) || l) ≡ l
    by_cases true true = refl
    by_cases true false = refl
    by_cases false x = refl

    never : (b : Bool) → (b && not b) ≡ false
    never true = refl
    never false = refl

    start : due ≡ picked (is_taken_out rows rows gone) (length rows)
    start = none ∙ sym (picked_nothing (is_taken_out rows rows gone) (length rows) (λ n lt. never (is_waiting rows gone n)))

-- the end

none_early : (done : ℕ) (listed : List Wait) → ((i : ℕ) (d : Wait) → i < length listed → nat_le (get_or listed i d).last done ≡ false) → (n last : ℕ) → list_any (λ (wait : Wait). wait.number == n && nat_le wait.last last) listed ≡ true → nat_le last done ≡ false
none_early done [] late n last is = absurd (true≢false (sym is))
none_early done (wait ∷ listed) late n last is = by_first (nat_le wait.last last) (wait.number == n) refl is (none_early done listed (λ i d lt. late (suc i) d (omega (arith, lt))) n last)
  where
    by_first : (a b : Bool) → nat_le wait.last last ≡ a → ((b && a) || list_any (λ (wait : Wait). wait.number == n && nat_le wait.last last) listed) ≡ true → (list_any (λ (wait : Wait). wait.number == n && nat_le wait.last last) listed ≡ true → nat_le last done ≡ false) → nat_le last done ≡ false
    by_first true b le is rest = let here : nat_le wait.last done ≡ false = late 0 wait (omega arith) in grind (arith, nat_tests, le, here)
    by_first false true le is rest = rest is
    by_first false false le is rest = rest is

all_late : (done : ℕ) (listed : List Wait) → starts_late done listed ≡ true → IsNonDecreasingBy (λ (wait : Wait). wait.last) listed → (i : ℕ) (d : Wait) → i < length listed → nat_le (get_or listed i d).last done ≡ false
all_late done [] late rises i d lt = absurd (omega (arith, lt))
all_late done (wait ∷ listed) late rises i d lt = let here : nat_le wait.last done ≡ false = not_true (nat_le wait.last done) late in let le : wait.last ≤ (get_or (wait ∷ listed) i d).last = rises 0 i d (omega arith) lt in grind (arith, nat_tests, here, le)
  where
    not_true : (b : Bool) → not b ≡ true → b ≡ false
    not_true true e = absurd (true≢false (sym e))
    not_true false e = refl

still_runs : (done : ℕ) (first rows : List Row) (gone : List Bool) (listed : List Wait) (due : List ℕ) → starts_late done listed ≡ true → IsReleasing done first rows gone listed due → (n : ℕ) → n < length first → is_waiting rows gone n ≡ true → nat_le (row_at rows n).last done ≡ false
still_runs done first rows gone listed due late now n lt waiting = none_early done listed (all_late done listed late now.tidy.in_order) n (row_at rows n).last (now.tidy.are_listed n (subst (λ m. n < m) (sym now.notes.len) lt) waiting)

-- Tests of one row: whether it is a resource (r), is gone (d), was released before (l) and is now (b), and its uses
-- are complete (c).

released_all : (r d l c b : Bool) → b ≡ ((b && (r && d && c)) || l) → ((r && d && not b) ≡ true → c ≡ false) → ((b && (r && d && c)) || l) ≡ ((r && d && c) || l)
released_all r d l c true is runs = refl
released_all false d l c false is runs = refl
released_all true false l c false is runs = refl
released_all true true l true false is runs = absurd (true≢false (runs refl))
released_all true true l false false is runs = refl

taken_all : {A : Type 0} (r d l c b : Bool) (x : List A) → b ≡ ((b && (r && d && c)) || l) → ((r && d && not b) ≡ true → c ≡ false) → (if (r && d && not l) && not (r && d && not b) then x else []) ≡ (if (r && d && c) && not l then x else [])
taken_all false d l c b x is runs = refl
taken_all true false l c b x is runs = refl
taken_all true true true true b x is runs = refl
taken_all true true true false b x is runs = refl
taken_all true true false true true x is runs = refl
taken_all true true false true false x is runs = absurd (true≢false (runs refl))
taken_all true true false false true x is runs = absurd (true≢false is)
taken_all true true false false false x is runs = refl

runs : {done : ℕ} (first rows : List Row) (gone : List Bool) (listed : List Wait) (due : List ℕ) → starts_late done listed ≡ true → IsReleasing done first rows gone listed due → (n : ℕ) → n < length first → (is_some (row_at first n).resource && gone_at gone n && not (row_at rows n).released) ≡ true → nat_le (row_at first n).last done ≡ false
runs {done} first rows gone listed due late now n lt is =
    let e = now.notes.each n lt in
    sym (ap (λ (row : Row). nat_le row.last done) e)
    ∙ still_runs done first rows gone listed due late now n lt (ap (λ (row : Row). is_some row.resource && gone_at gone n && not (row_at rows n).released) e ∙ is)

pub marked_due : (done : ℕ) (first rows : List Row) (gone : List Bool) (listed : List Wait) (due : List ℕ) → starts_late done listed ≡ true → IsReleasing done first rows gone listed due → Notes (λ n. with_due done (gone_at gone n) true) first rows
marked_due done first rows gone listed due late now = record {
  len = now.notes.len;
  each = λ n lt. now.notes.each n lt ∙ ap {B = Row} (λ b. record (row_at first n) { released = b })
      (released_all (is_some (row_at first n).resource) (gone_at gone n) (row_at first n).released (nat_le (row_at first n).last done) (row_at rows n).released
      (ap (λ (row : Row). row.released) (now.notes.each n lt)) (runs first rows gone listed due late now n lt));
}

pub pushed_due : (done : ℕ) (first rows : List Row) (gone : List Bool) (listed : List Wait) (due sorted : List ℕ) → IsPermutation due sorted → IsSorted nat_cmp sorted → starts_late done listed ≡ true → IsReleasing done first rows gone listed due → flat_map (sort_at rows) sorted ≡ freed first gone done
pushed_due done first rows gone listed due sorted permuted rises late now =
    ap (flat_map (sort_at rows)) (rising_same sorted (picked (is_taken_out first rows gone) (length first)) (IsNonDecreasingBy-from_sort (λ n. n) sorted rises) (picked_rises (is_taken_out first rows gone) (length first)) (λ n. times_permuted n due sorted permuted ∙ now.due_are n))
    ∙ flat_picked (sort_at rows) (freed_row first gone done) (is_taken_out first rows gone) (length first) each
  where
    each : (n : ℕ) → n < length first → (if is_taken_out first rows gone n then sort_at rows n else []) ≡ freed_row first gone done n
    each n lt =
        let e = now.notes.each n lt in
        ap₂ (λ (b : Bool) (x : List (ℕ × Sort)). if is_waiting first gone n && not b then x else [])
        (ap (λ (row : Row). is_some row.resource && gone_at gone n && not (row_at rows n).released) e)
        (ap (λ (row : Row). option_to_list (option_map (λ (sort : Sort). (n, sort)) (sort_of row))) e)
        ∙ taken_all (is_some (row_at first n).resource) (gone_at gone n) (row_at first n).released (nat_le (row_at first n).last done) (row_at rows n).released
        (option_to_list (option_map (λ (sort : Sort). (n, sort)) (sort_of (row_at first n))))
        (ap (λ (row : Row). row.released) e) (runs first rows gone listed due late now n lt)
