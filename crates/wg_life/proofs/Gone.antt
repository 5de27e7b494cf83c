-- Marks of what is gone, as rows and holdings change.
use Rattle.std.proofs.Common.{◌≡◌, ℕ, ◌+◌, ◌<◌, Bool, true, false, not, ◌&&◌, ◌||◌, ◌==◌, nat_le, List, [], ◌∷◌, ◌++◌, length, take, get_or, Option, is_some, option_map, option_to_list, inl, inr, refl, sym, ap, ap₂, ◌∙◌, arith, subst, if◌then◌else◌, true≢false}
use Rattle.std.proofs.lemmas.Bool.{cases_lt}
use Rattle.std.proofs.lemmas.List.{get_or_append_left, get_or_push, length_push, take_more}
use Rattle.std.proofs.lemmas.List.Folds.{list_any-append}
use Rattle.wg_model.specs.Holding.{is_among}
use Rattle.wg_trace.specs.declared.steps.Sort.{Sort}
use Rattle.wg_holders.specs.Holders.{Holdings, HoldersValue, no_holdings, is_held, Falls}
use Rattle.wg_life.specs.declared.rows.Resource.{Resource}
use Rattle.wg_life.specs.declared.rows.Row.{Row}
use Rattle.wg_life.specs.Lives.{LifeValue, no_row, new_row, row_at, with_destroyed, with_use, sort_of, released_at, releases, Notes}
use Rattle.wg_life.specs.Waits.{gone_at, with_due, freed_row, freed, Losses, IsGone}
use Rattle.wg_life.proofs.Picked.{below_same}

-- marks of a list, one after another

or_swap : (a b c : Bool) → (b || (a || c)) ≡ ((a || b) || c)
or_swap true true c = refl
or_swap true false c = refl
or_swap false b c = refl

or_no : (b : Bool) → (b || false) ≡ b
or_no true = refl
or_no false = refl

pub losses_none : (list : List ℕ) (gone : List Bool) → Losses (is_among (take 0 list)) gone gone
losses_none list gone = record { len = refl; each = λ n lt. refl }

among_more : (list : List ℕ) (i k n : ℕ) → i < length list → k ≡ get_or list i k → is_among (take (i + 1) list) n ≡ (is_among (take i list) n || (k == n))
among_more list i k n lt is =
    ap (λ xs. is_among xs n) (take_more list i k lt)
    ∙ (list_any-append (λ m. m == n) (take i list) (get_or list i k ∷ [])
    ∙ ap (λ b. is_among (take i list) n || b) (or_no (get_or list i k == n) ∙ ap (λ m. m == n) (sym is)))

pub losses_more : (list : List ℕ) (i k : ℕ) (old mid new : List Bool) → i < length list → k ≡ get_or list i k → Losses (is_among (take i list)) old mid → Losses (λ n. k == n) mid new → Losses (is_among (take (i + 1) list)) old new
losses_more list i k old mid new lt is before one = record {
  len = one.len ∙ before.len;
  each = λ n less.
      one.each n (subst (λ m. n < m) (sym before.len) less)
      ∙ (ap (λ b. (k == n) || b) (before.each n less)
      ∙ (or_swap (is_among (take i list) n) (k == n) (gone_at old n)
      ∙ ap (λ b. b || gone_at old n) (sym (among_more list i k n lt is))));
}

-- rows that keep what is destroyed

gone_by : (rows new : List Row) (h : Holdings) (gone : List Bool) → length new ≡ length rows → ((n : ℕ) → n < length rows → (row_at new n).destroyed ≡ (row_at rows n).destroyed) → IsGone rows h gone → IsGone new h gone
gone_by rows new h gone len same before = record {
  made = before.made ∙ sym len;
  each = λ n lt. let less : n < length rows = subst (λ m. n < m) len lt in before.each n less ∙ ap (λ b. b || not (is_held h n)) (sym (same n less));
}

pub gone_used : (op number : ℕ) (rows new : List Row) (h : Holdings) (gone : List Bool) → Notes (λ n. with_use op (number == n)) rows new → IsGone rows h gone → IsGone new h gone
gone_used op number rows new h gone notes before = gone_by rows new h gone notes.len (λ n lt. ap (λ (row : Row). row.destroyed) (notes.each n lt)) before

pub gone_released : (done : ℕ) (rows new : List Row) (h : Holdings) (gone : List Bool) → Notes (λ n. with_due done (gone_at gone n) true) rows new → IsGone rows h gone → IsGone new h gone
gone_released done rows new h gone notes before = gone_by rows new h gone notes.len (λ n lt. ap (λ (row : Row). row.destroyed) (notes.each n lt)) before

-- a destroy

pub gone_destroyed : (number : ℕ) (rows new : List Row) (h : Holdings) (gone gone' : List Bool) → length gone ≡ length rows → Notes (λ n. with_destroyed (number == n)) rows new → Losses (λ n. number == n) gone gone' → IsGone rows h gone → IsGone new h gone'
gone_destroyed number rows new h gone gone' both notes losses before = record {
  made = before.made ∙ sym notes.len;
  each = λ n lt.
      let less : n < length rows = subst (λ m. n < m) notes.len lt in
      losses.each n (subst (λ m. n < m) (sym both) less)
      ∙ (ap (λ b. (number == n) || b) (before.each n less)
      ∙ (or_assoc (number == n) (row_at rows n).destroyed (not (is_held h n))
      ∙ ap (λ (row : Row). row.destroyed || not (is_held h n)) (sym (notes.each n less))));
}
  where
    or_assoc : (a b c : Bool) → (a || (b || c)) ≡ ((a || b) || c)
    or_assoc true b c = refl
    or_assoc false b c = refl

-- a fall

fell : (a b d : Bool) → (b ≡ true → a ≡ true) → ((a && not b) || (d || not a)) ≡ (d || not b)
fell true true true back = refl
fell true true false back = refl
fell true false true back = refl
fell true false false back = refl
fell false true d back = absurd (true≢false (sym (back refl)))
fell false false d back = refl

pub gone_fell : (rows : List Row) (old new : HoldersValue) (gone gone' : List Bool) → length gone ≡ length rows → old.fallen ≡ [] → Falls old new → length new.holdings.marks ≡ length old.holdings.marks → Losses (is_among new.fallen) gone gone' → IsGone rows old.holdings gone → IsGone rows new.holdings gone'
gone_fell rows old new gone gone' both none falls len losses before = record {
  made = len ∙ before.made;
  each = λ n lt.
      losses.each n (subst (λ m. n < m) (sym both) lt)
      ∙ (ap₂ ◌||◌ (falls.listed n ∙ ap (λ list. is_among list n || (is_held old.holdings n && not (is_held new.holdings n))) none) (before.each n lt)
      ∙ fell (is_held old.holdings n) (is_held new.holdings n) (row_at rows n).destroyed (falls.falls n));
}

-- one object more

pub gone_added : (resource : Option Resource) (rows : List Row) (old new : Holdings) (gone : List Bool) → length gone ≡ length rows → length new.marks ≡ length old.marks + 1 → ((n : ℕ) → n < length old.marks → is_held new n ≡ is_held old n) → is_held new (length old.marks) ≡ true → IsGone rows old gone → IsGone (rows ++ new_row resource ∷ []) new (gone ++ false ∷ [])
gone_added resource rows old new gone both len same held before = record {
  made = let e = length_push rows (new_row resource) in let h = before.made in omega (arith, e, h, len);
  each = λ n lt. elim (cases_lt n (length rows)) [
    | inl less ↦ get_or_append_left gone (false ∷ []) false n (subst (λ m. n < m) (sym both) less)
        ∙ (before.each n less
        ∙ ap₂ (λ a b. a || not b) (ap (λ (row : Row). row.destroyed) (sym (get_or_append_left rows (new_row resource ∷ []) no_row n less))) (sym (same n (subst (λ m. n < m) (sym before.made) less))))
    | inr past ↦ (let e = length_push rows (new_row resource) in let here : n ≡ length rows = omega (arith, lt, past, e) in
        get_or_push gone false false n (both ∙ sym here)
        ∙ ap₂ (λ a b. a || not b) (ap (λ (row : Row). row.destroyed) (sym (get_or_push rows (new_row resource) no_row n (sym here)))) (sym (ap (is_held new) (here ∙ sym before.made) ∙ held)))
  ];
}

pub gone_none : IsGone [] no_holdings []
gone_none = record { made = refl; each = λ n lt. absurd (omega (arith, lt)) }

-- what is due, by marks and by what is held

pub freed_releases : (v : LifeValue) (gone : List Bool) (done : ℕ) → IsGone v.rows v.holdings gone → freed v.rows gone done ≡ releases v done
freed_releases v gone done marks = below_same (freed_row v.rows gone done) (released_at v done) (length v.rows)
    (λ n lt. ap (λ b. if (is_some (row_at v.rows n).resource && b && nat_le (row_at v.rows n).last done) && not (row_at v.rows n).released then option_to_list (option_map (λ (sort : Sort). (n, sort)) (sort_of (row_at v.rows n))) else []) (marks.each n lt))
