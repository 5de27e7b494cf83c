-- What is kept of the resources that are not released, as rows change.
use Rattle.std.proofs.Common.{slice_index, ◌≡◌, ◌≢◌, ℕ, zero, suc, ◌+◌, ◌<◌, ◌≤◌, Bool, true, false, not, ◌&&◌, ◌==◌, List, [], ◌∷◌, ◌++◌, length, Option, Some, None, is_some, inl, inr, refl, sym, ap, ap₂, ◌∙◌, arith, subst, if◌then◌else◌, true≢false, IfSome, count_by}
use Rattle.std.specs.Option.{option_map_or}
use Rattle.std.proofs.lemmas.Bool.{cases_lt, eq-eqb, ne_eqb}
use Rattle.std.proofs.lemmas.List.{get_or_append_left, get_or_past, get_or_push, length_push}
use Rattle.slab.specs.Slab.{get, slab_len, Updates}
use Rattle.wg_life.specs.declared.rows.Resource.{Resource}
use Rattle.wg_life.specs.declared.rows.Row.{Row}
use Rattle.wg_life.specs.declared.live.Live.{Live}
use Rattle.wg_life.specs.Lives.{no_row, new_row, row_at, with_destroyed, with_use, with_release, is_live, live_of, live_bytes, live_count, Notes}
use Rattle.wg_life.specs.Living.{IsKept, IsLess}

abbrev one_of : Row → ℕ
one_of row = if is_live row then 1 else 0

abbrev total : (Row → ℕ) → List Row → ℕ
total f [] = 0
total f (row ∷ rows) = f row + total f rows

bytes_total : (rows : List Row) → live_bytes rows ≡ total live_of rows
bytes_total [] = refl
bytes_total (row ∷ rows) = ap (λ n. live_of row + n) (bytes_total rows)

count_total : (rows : List Row) → live_count rows ≡ total one_of rows
count_total [] = refl
count_total (row ∷ rows) = ap (λ n. one_of row + n) (count_total rows)

total_push : (f : Row → ℕ) (rows : List Row) (row : Row) → total f (rows ++ row ∷ []) ≡ total f rows + f row
total_push f [] row = omega arith
total_push f (first ∷ rows) row = let e = total_push f rows row in omega (arith, e)

total_same : (f : Row → ℕ) (rows new : List Row) → length new ≡ length rows → ((n : ℕ) → n < length rows → f (row_at new n) ≡ f (row_at rows n)) → total f new ≡ total f rows
total_same f [] [] len same = refl
total_same f [] (row ∷ new) len same = absurd (omega (arith, len))
total_same f (row ∷ rows) [] len same = absurd (omega (arith, len))
total_same f (row ∷ rows) (row' ∷ new) len same = ap₂ ◌+◌ (same 0 (omega arith)) (total_same f rows new (omega (arith, len)) (λ n lt. same (suc n) (omega (arith, lt))))

-- one row is changed
total_one : (f : Row → ℕ) (rows new : List Row) (k : ℕ) → length new ≡ length rows → k < length rows → ((n : ℕ) → n < length rows → n ≢ k → row_at new n ≡ row_at rows n) → total f new + f (row_at rows k) ≡ total f rows + f (row_at new k)
total_one f [] new k len made same = absurd (omega (arith, made))
total_one f (row ∷ rows) [] k len made same = absurd (omega (arith, len))
total_one f (row ∷ rows) (row' ∷ new) zero len made same =
    let e = total_same f rows new (omega (arith, len)) (λ n lt. ap f (same (suc n) (omega (arith, lt)) (λ e. absurd (omega (arith, e))))) in
    omega (arith, e)
total_one f (row ∷ rows) (row' ∷ new) (suc k) len made same =
    let e = total_one f rows new k (omega (arith, len)) (omega (arith, made)) (λ n lt other. same (suc n) (omega (arith, lt)) (λ e. other (omega (arith, e)))) in
    let first : f row' ≡ f row = ap f (same 0 (omega arith) (λ e. absurd (omega (arith, e)))) in
    omega (arith, e, first)

-- one object more

bytes_push : (rows : List Row) (row : Row) → live_bytes (rows ++ row ∷ []) ≡ live_bytes rows + live_of row
bytes_push rows row = let e = bytes_total (rows ++ row ∷ []) in let f = bytes_total rows in let h = total_push live_of rows row in omega (arith, e, f, h)

pub count_push : (rows : List Row) (row : Row) → live_count (rows ++ row ∷ []) ≡ live_count rows + one_of row
count_push rows row = let e = count_total (rows ++ row ∷ []) in let f = count_total rows in let h = total_push one_of rows row in omega (arith, e, f, h)

-- its key
added_key : (live live' : Live) (rows : List Row) (row : Row) (key : ℕ) → length live.keys.items ≡ length rows → live'.keys.items ≡ live.keys.items ++ key ∷ [] → ((n : ℕ) → n < length rows → slice_index live'.keys.items n ≡ slice_index live.keys.items n) × (slice_index live'.keys.items (length rows) ≡ key)
added_key live live' rows row key len keys = (
  (λ n lt. ap (λ list. slice_index list n) keys ∙ get_or_append_left live.keys.items (key ∷ []) 0 n (subst (λ m. n < m) (sym len) lt)),
  ap (λ list. slice_index list (length rows)) keys ∙ get_or_push live.keys.items key 0 (length rows) len,
)

pub kept_none : (rows : List Row) (live live' : Live) → live'.slab ≡ live.slab → live'.bytes ≡ live.bytes → live'.keys.items ≡ live.keys.items ++ 0 ∷ [] → IsKept rows live → IsKept (rows ++ new_row None ∷ []) live'
kept_none rows live live' slab bytes keys kept = record {
  count = let e = count_push rows (new_row None) in let h = kept.count in let f = ap slab_len slab in omega (arith, e, h, f);
  bytes = let e = bytes_push rows (new_row None) in let h = kept.bytes in omega (arith, e, h, bytes);
  len = let e = ap length keys in let f = length_push live.keys.items 0 in let g = length_push rows (new_row None) in let h = kept.len in omega (arith, e, f, g, h);
  under_key = λ n lt is. elim (cases_lt n (length rows)) [
    | inl less ↦ ap₂ get slab ((added_key live live' rows (new_row None) 0 kept.len keys).0 n less) ∙ kept.under_key n less (ap is_live (sym (get_or_append_left rows (new_row None ∷ []) no_row n less)) ∙ is)
    | inr past ↦ (let e = length_push rows (new_row None) in let here : length rows ≡ n = omega (arith, lt, past, e) in absurd (true≢false (sym is ∙ ap is_live (get_or_push rows (new_row None) no_row n here))))
  ];
}

pub kept_some : (rows : List Row) (resource : Resource) (key : ℕ) (live live' : Live) → get live.slab key ≡ None → Updates live.slab live'.slab key (Some (length rows)) → slab_len live'.slab ≡ slab_len live.slab + 1 → live'.bytes ≡ live.bytes + resource.bytes → live'.keys.items ≡ live.keys.items ++ key ∷ [] → IsKept rows live → IsKept (rows ++ new_row (Some resource) ∷ []) live'
kept_some rows resource key live live' vacant updates more bytes keys kept = record {
  count = let e = count_push rows (new_row (Some resource)) in let h = kept.count in omega (arith, e, h, more);
  bytes = let e = bytes_push rows (new_row (Some resource)) in let h = kept.bytes in omega (arith, e, h, bytes);
  len = let e = ap length keys in let f = length_push live.keys.items key in let g = length_push rows (new_row (Some resource)) in let h = kept.len in omega (arith, e, f, g, h);
  under_key = λ n lt is. elim (cases_lt n (length rows)) [
    | inl less ↦ (let had = kept.under_key n less (ap is_live (sym (get_or_append_left rows (new_row (Some resource) ∷ []) no_row n less)) ∙ is) in
        ap (get live'.slab) ((added_key live live' rows (new_row (Some resource)) key kept.len keys).0 n less) ∙ (updates.others (slice_index live.keys.items n) (λ e. some_none n (sym had ∙ (ap (get live.slab) e ∙ vacant))) ∙ had))
    | inr past ↦ (let e = length_push rows (new_row (Some resource)) in let here : length rows ≡ n = omega (arith, lt, past, e) in
        ap (λ m. get live'.slab (slice_index live'.keys.items m)) (sym here) ∙ (ap (get live'.slab) (added_key live live' rows (new_row (Some resource)) key kept.len keys).1 ∙ (updates.changed ∙ ap Some here)))
  ];
}
  where
    some_none : (n : ℕ) → Some n ≡ None → ⊥
    some_none n e = cc

pub kept_nothing : (live : Live) → live.slab.slots ≡ [] → live.bytes ≡ 0 → live.keys.items ≡ [] → IsKept [] live
kept_nothing live slots bytes keys = record {
  count = ap (count_by is_some) slots;
  bytes = bytes;
  len = ap length keys;
  under_key = λ n lt is. absurd (omega (arith, lt));
}

-- The budget holds with it.
pub bytes_fit : (rows : List Row) (o : Option Resource) (budget : ℕ) → live_bytes rows ≤ budget → IfSome o (λ (resource : Resource). live_bytes rows + resource.bytes ≤ budget) → live_bytes (rows ++ new_row o ∷ []) ≤ budget
bytes_fit rows None budget within fits = let e = bytes_push rows (new_row None) in omega (arith, e, within)
bytes_fit rows (Some resource) budget within fits = let e = bytes_push rows (new_row (Some resource)) in omega (arith, e, fits)

-- a note that leaves what is live

pub live_by : (rows new : List Row) → length new ≡ length rows → ((n : ℕ) → n < length rows → ((row_at new n).resource ≡ (row_at rows n).resource) × ((row_at new n).released ≡ (row_at rows n).released)) → live_count new ≡ live_count rows
live_by rows new len same =
    count_total new ∙ (total_same one_of rows new len (λ n lt. ap₂ (λ (o : Option Resource) (b : Bool). if is_some o && not b then 1 else 0) (same n lt).0 (same n lt).1) ∙ sym (count_total rows))

kept_by : (rows new : List Row) (live : Live) → length new ≡ length rows → ((n : ℕ) → n < length rows → ((row_at new n).resource ≡ (row_at rows n).resource) × ((row_at new n).released ≡ (row_at rows n).released)) → IsKept rows live → IsKept new live
kept_by rows new live len same kept = record {
  count = kept.count ∙ sym (live_by rows new len same);
  bytes = kept.bytes ∙ sym (bytes_total new ∙ (total_same live_of rows new len (λ n lt. ap₂ (λ (o : Option Resource) (b : Bool). if b then 0 else option_map_or (λ (resource : Resource). resource.bytes) o 0) (same n lt).0 (same n lt).1) ∙ sym (bytes_total rows)));
  len = kept.len ∙ sym len;
  under_key = λ n lt is. let less : n < length rows = subst (λ m. n < m) len lt in kept.under_key n less (sym (same_live n less) ∙ is);
}
  where
    same_live : (n : ℕ) → n < length rows → is_live (row_at new n) ≡ is_live (row_at rows n)
    same_live n lt = ap₂ (λ (o : Option Resource) (b : Bool). is_some o && not b) (same n lt).0 (same n lt).1

pub kept_used : (op number : ℕ) (rows new : List Row) (live : Live) → Notes (λ n. with_use op (number == n)) rows new → IsKept rows live → IsKept new live
kept_used op number rows new live notes kept = kept_by rows new live notes.len (λ n lt. (ap (λ (row : Row). row.resource) (notes.each n lt), ap (λ (row : Row). row.released) (notes.each n lt))) kept

pub kept_destroyed : (number : ℕ) (rows new : List Row) (live : Live) → Notes (λ n. with_destroyed (number == n)) rows new → IsKept rows live → IsKept new live
kept_destroyed number rows new live notes kept = kept_by rows new live notes.len (λ n lt. (ap (λ (row : Row). row.resource) (notes.each n lt), ap (λ (row : Row). row.released) (notes.each n lt))) kept

-- Bytes that were kept fit the budget as before.
pub within_by : (rows new : List Row) (live live' : Live) (budget : ℕ) → live'.bytes ≤ live.bytes → IsKept rows live → IsKept new live' → live_bytes rows ≤ budget → live_bytes new ≤ budget
within_by rows new live live' budget le before after within = let e = before.bytes in let f = after.bytes in omega (arith, le, e, f, within)

-- a release

live_made : (rows : List Row) (n : ℕ) → is_live (row_at rows n) ≡ true → n < length rows
live_made rows n e = elim (cases_lt n (length rows)) [
  | inl less ↦ less
  | inr past ↦ absurd (true≢false (sym e ∙ ap is_live (get_or_past rows n no_row past)))
]

live_now : (row : Row) → is_live row ≡ true → (◌≡◌ {A = ℕ} (one_of row) 1) × (live_of row ≡ option_map_or (λ (resource : Resource). resource.bytes) row.resource 0)
live_now row e = (ap (λ b. if b then 1 else 0) e, ap (λ b. if b then 0 else option_map_or (λ (resource : Resource). resource.bytes) row.resource 0) (by_cases (is_some row.resource) row.released e))
  where
    by_cases : (r l : Bool) → (r && not l) ≡ true → l ≡ false
    by_cases true false e = refl
    by_cases true true e = absurd (true≢false (sym e))
    by_cases false l e = absurd (true≢false (sym e))

released_none : (row : Row) → (◌≡◌ {A = ℕ} (one_of (with_release true row)) 0) × (◌≡◌ {A = ℕ} (live_of (with_release true row)) 0)
released_none row = (by_case (is_some row.resource), refl)
  where
    by_case : (r : Bool) → ◌≡◌ {A = ℕ} (if (r && false) then 1 else 0) 0
    by_case true = refl
    by_case false = refl

-- what a release takes off
pub record Takes (rows new : List Row) (size : ℕ) : Type 0 where
  pub count : live_count new + 1 ≡ live_count rows
  pub bytes : live_bytes new + size ≡ live_bytes rows

pub takes : (rows new : List Row) (k : ℕ) → is_live (row_at rows k) ≡ true → Notes (λ n. with_release (k == n)) rows new → Takes rows new (option_map_or (λ (resource : Resource). resource.bytes) (row_at rows k).resource 0)
takes rows new k live notes = record {
  count =
      let e = total_one one_of rows new k notes.len made others in
      let a = count_total rows in
      let b = count_total new in
      let one = (live_now (row_at rows k) live).0 in
      let none : one_of (row_at new k) ≡ 0 = ap one_of at ∙ (released_none (row_at rows k)).0 in
      omega (arith, e, a, b, one, none);
  bytes =
      let e = total_one live_of rows new k notes.len made others in
      let a = bytes_total rows in
      let b = bytes_total new in
      let one = (live_now (row_at rows k) live).1 in
      let none : live_of (row_at new k) ≡ 0 = ap live_of at ∙ (released_none (row_at rows k)).1 in
      omega (arith, e, a, b, one, none);
}
  where
    made : k < length rows
    made = live_made rows k live

    others : (n : ℕ) → n < length rows → n ≢ k → row_at new n ≡ row_at rows n
    others n lt other = notes.each n lt ∙ ap (λ b. with_release b (row_at rows n)) (ne_eqb k n (λ e. other (sym e)))

    at : row_at new k ≡ with_release true (row_at rows k)
    at = notes.each k made ∙ ap (λ b. with_release b (row_at rows k)) (eq-eqb k k refl)

pub takes_some : (rows new : List Row) (k : ℕ) (resource : Resource) → (row_at rows k).resource ≡ Some resource → is_live (row_at rows k) ≡ true → Notes (λ n. with_release (k == n)) rows new → Takes rows new resource.bytes
takes_some rows new k resource is live notes = subst (Takes rows new) (ap (λ (o : Option Resource). option_map_or (λ (resource : Resource). resource.bytes) o 0) is) (takes rows new k live notes)

pub kept_released : (rows new : List Row) (k : ℕ) (resource : Resource) (live live' : Live) → (row_at rows k).resource ≡ Some resource → is_live (row_at rows k) ≡ true → Notes (λ n. with_release (k == n)) rows new → Updates live.slab live'.slab (slice_index live.keys.items k) None → slab_len live'.slab + 1 ≡ slab_len live.slab → live.bytes ≡ live'.bytes + resource.bytes → live'.keys.items ≡ live.keys.items → IsKept rows live → IsKept new live'
kept_released rows new k resource live live' is live_k notes updates count bytes keys kept = record {
  count = let e = takes.count in let f = kept.count in omega (arith, e, f, count);
  bytes = let e = takes.bytes in let f = kept.bytes in omega (arith, e, f, bytes);
  len = ap length keys ∙ (kept.len ∙ sym notes.len);
  under_key = λ n lt is.
      let less : n < length rows = subst (λ m. n < m) notes.len lt in
      let other : n ≢ k = λ e. true≢false (sym is ∙ (ap (λ m. is_live (row_at new m)) e ∙ out)) in
      let had = kept.under_key n less (ap is_live (sym (others n less other)) ∙ is) in
      ap (λ list. get live'.slab (slice_index list n)) keys ∙ (updates.others (slice_index live.keys.items n) (λ e. other (same_number n k (sym had ∙ (ap (get live.slab) e ∙ kept.under_key k made live_k)))) ∙ had);
}
  where
    takes : Takes rows new resource.bytes
    takes = takes_some rows new k resource is live_k notes

    made : k < length rows
    made = live_made rows k live_k

    others : (n : ℕ) → n < length rows → n ≢ k → row_at new n ≡ row_at rows n
    others n lt other = notes.each n lt ∙ ap (λ b. with_release b (row_at rows n)) (ne_eqb k n (λ e. other (sym e)))

    no_more : (r : Bool) → (r && false) ≡ false
    no_more true = refl
    no_more false = refl

    out : is_live (row_at new k) ≡ false
    out = ap is_live (notes.each k made ∙ ap (λ b. with_release b (row_at rows k)) (eq-eqb k k refl)) ∙ no_more (is_some (row_at rows k).resource)

    same_number : (n m : ℕ) → Some n ≡ Some m → n ≡ m
    same_number n m e = cc

-- less and less

pub less_same : (live : Live) → IsLess live live
less_same live = record { bytes = omega arith; count = omega arith; places = λ more has. has }

pub less_then : (old mid new : Live) → IsLess old mid → IsLess mid new → IsLess old new
less_then old mid new first second = record {
  bytes = let e = first.bytes in let f = second.bytes in omega (arith, e, f);
  count = let e = first.count in let f = second.count in omega (arith, e, f);
  places = λ more has. second.places more (first.places more has);
}
