-- A writer differs exactly where it meets the reader: barriers are counted.
use Rattle.std.proofs.Common.{◌≡◌, ℕ, zero, suc, ◌<◌, ◌≤◌, List, [], ◌∷◌, length, Bool, true, false, ◌&&◌, ◌||◌, Option, Some, None, refl, ap, sym, subst, ◌∙◌, ◌⊎◌, inl, inr, arith, true≢false, ◌≢◌, ◌==◌, if◌then◌else◌}
use Rattle.std.proofs.lemmas.Bool.{cases_eq, cases_lt, cases_order, cases_Bool, ne_eqb}
use Rattle.wg_rows.specs.Runs.{Part, Cell, part_of, covers_part}
use Rattle.wg_orders.specs.Steps.{writes}
use Rattle.wg_orders.specs.Trace.{Item, Bar, StepItem, Free, steps_of, has_bar, writes_at, writer, last_writer}
use Rattle.wg_orders.specs.Orders.{Parted, IsBefore, Differs}
use Rattle.wg_orders.proofs.Latest.{Latest, Nothing, Found, latest_is}
use Rattle.wg_orders.proofs.Readers.{writer_some, no_writer, last_writer_is, at_within}
use Rattle.wg_check.specs.Clashes.{epoch, doings}
use Rattle.wg_check.specs.Doings.{IsLast, IsEnd, Unordered, Beside_seen, Is_seen, Behind_reader, Beside_end, Meets}

pub rising : (p : Part) (items : List Item) (x y : ℕ) → x ≤ y → epoch p items x ≤ epoch p items y
rising p [] x y l = omega arith
rising p (Bar parts from to ∷ items) x y l = by_cover (covers_part parts p) (rising p items x y l)
  where
    by_cover : (b : Bool) → epoch p items x ≤ epoch p items y → (if b then suc (epoch p items x) else epoch p items x) ≤ (if b then suc (epoch p items y) else epoch p items y)
    by_cover true h = omega arith
    by_cover false h = h
rising p (StepItem s ∷ items) zero y l = omega arith
rising p (StepItem s ∷ items) (suc x) zero l = absurd (omega arith)
rising p (StepItem s ∷ items) (suc x) (suc y) l = rising p items x y (omega arith)
rising p (Free object sort ∷ items) x y l = rising p items x y l

-- a barrier at or before y
some_bar : (p : Part) (items : List Item) (y : ℕ) → 0 < epoch p items y → (m : ℕ) × (m ≤ y) × (has_bar p items m ≡ true)
some_bar p [] y l = absurd (omega arith)
some_bar p (Bar parts from to ∷ items) y l = by_cover (covers_part parts p) refl l (some_bar p items y)
  where
    up : (b : Bool) → ((m : ℕ) × (m ≤ y) × (has_bar p items m ≡ true)) → (m : ℕ) × (m ≤ y) × ((((m == 0) && b) || has_bar p items m) ≡ true)
    up b h = (h.0, h.1, at ((h.0 == 0) && b))
      where
        at : (a : Bool) → (a || has_bar p items h.0) ≡ true
        at true = refl
        at false = h.2

    by_cover : (b : Bool) → covers_part parts p ≡ b → 0 < (if b then suc (epoch p items y) else epoch p items y) → (0 < epoch p items y → (m : ℕ) × (m ≤ y) × (has_bar p items m ≡ true)) → (m : ℕ) × (m ≤ y) × ((((m == 0) && b) || has_bar p items m) ≡ true)
    by_cover true e l h = (0, omega arith, refl)
    by_cover false e l h = up false (h l)
some_bar p (StepItem s ∷ items) zero l = absurd (omega arith)
some_bar p (StepItem s ∷ items) (suc y) l = let h : (m : ℕ) × (m ≤ y) × (has_bar p items m ≡ true) = some_bar p items y l in (suc h.0, omega (arith, h.1), h.2)
some_bar p (Free object sort ∷ items) y l = some_bar p items y l

bar_counts : (p : Part) (items : List Item) (m y : ℕ) → m ≤ y → has_bar p items m ≡ true → 0 < epoch p items y
bar_counts p [] m y l h = absurd (true≢false (sym h))
bar_counts p (Bar parts from to ∷ items) m y l h = by_cover (covers_part parts p) h (bar_counts p items m y l)
  where
    by_cover : (b : Bool) → (((m == 0) && b) || has_bar p items m) ≡ true → (has_bar p items m ≡ true → 0 < epoch p items y) → 0 < (if b then suc (epoch p items y) else epoch p items y)
    by_cover true h on = omega arith
    by_cover false h on = at (m == 0) h
      where
        at : (a : Bool) → ((a && false) || has_bar p items m) ≡ true → 0 < epoch p items y
        at true h = on h
        at false h = on h
bar_counts p (StepItem s ∷ items) zero y l h = absurd (true≢false (sym h))
bar_counts p (StepItem s ∷ items) (suc m) zero l h = absurd (omega arith)
bar_counts p (StepItem s ∷ items) (suc m) (suc y) l h = bar_counts p items m y (omega arith) h
bar_counts p (Free object sort ∷ items) m y l h = bar_counts p items m y l h

-- A barrier stands between two steps exactly where more stand before the second.
pub parted_less : (p : Part) (items : List Item) (x y : ℕ) → Parted items p x y → epoch p items x < epoch p items y
parted_less p [] x y h = absurd (true≢false (sym h.3))
parted_less p (Bar parts from to ∷ items) x y h = by_cover (covers_part parts p) (parted_less p items x y (h.0, h.1, h.2, bar_of (covers_part parts p) h.0 h.1 h.3))
  where
    bar_of : (b : Bool) → (m : ℕ) → x < m → (((m == 0) && b) || has_bar p items m) ≡ true → has_bar p items m ≡ true
    bar_of b zero l h = absurd (omega arith)
    bar_of b (suc m) l h = sym (ap (λ (a : Bool). (a && b) || has_bar p items (suc m)) (ne_eqb (suc m) 0 (λ e. omega (arith, e)))) ∙ h

    by_cover : (b : Bool) → epoch p items x < epoch p items y → (if b then suc (epoch p items x) else epoch p items x) < (if b then suc (epoch p items y) else epoch p items y)
    by_cover true h = omega arith
    by_cover false h = h
parted_less p (StepItem s ∷ items) zero zero h = absurd (omega (arith, h.1, h.2))
parted_less p (StepItem s ∷ items) zero (suc y) h = by_place h.0 h.1 h.2 h.3
  where
    by_place : (m : ℕ) → 0 < m → m ≤ suc y → has_bar p (StepItem s ∷ items) m ≡ true → 0 < epoch p items y
    by_place zero a b e = absurd (omega arith)
    by_place (suc m) a b e = bar_counts p items m y (omega arith) e
parted_less p (StepItem s ∷ items) (suc x) zero h = absurd (omega (arith, h.1, h.2))
parted_less p (StepItem s ∷ items) (suc x) (suc y) h = by_place (λ inner. parted_less p items x y inner) h.0 h.1 h.2 h.3
  where
    by_place : (Parted items p x y → epoch p items x < epoch p items y) → (m : ℕ) → suc x < m → m ≤ suc y → has_bar p (StepItem s ∷ items) m ≡ true → epoch p items x < epoch p items y
    by_place on zero a b e = absurd (omega arith)
    by_place on (suc m) a b e = on (m, omega arith, omega arith, e)
parted_less p (Free object sort ∷ items) x y h = parted_less p items x y h

pub less_parted : (p : Part) (items : List Item) (x y : ℕ) → epoch p items x < epoch p items y → Parted items p x y
less_parted p [] x y l = absurd (omega arith)
less_parted p (Bar parts from to ∷ items) x y l = by_cover (covers_part parts p) l (less_parted p items x y)
  where
    up : (b : Bool) → Parted items p x y → (m : ℕ) × (x < m) × (m ≤ y) × ((((m == 0) && b) || has_bar p items m) ≡ true)
    up b h = (h.0, h.1, h.2, at ((h.0 == 0) && b))
      where
        at : (a : Bool) → (a || has_bar p items h.0) ≡ true
        at true = refl
        at false = h.3

    by_cover : (b : Bool) → (if b then suc (epoch p items x) else epoch p items x) < (if b then suc (epoch p items y) else epoch p items y) → (epoch p items x < epoch p items y → Parted items p x y) → (m : ℕ) × (x < m) × (m ≤ y) × ((((m == 0) && b) || has_bar p items m) ≡ true)
    by_cover true l on = up true (on (omega arith))
    by_cover false l on = up false (on l)
less_parted p (StepItem s ∷ items) zero zero l = absurd (omega arith)
less_parted p (StepItem s ∷ items) zero (suc y) l = let h : (m : ℕ) × (m ≤ y) × (has_bar p items m ≡ true) = some_bar p items y l in (suc h.0, omega arith, omega (arith, h.1), h.2)
less_parted p (StepItem s ∷ items) (suc x) zero l = absurd (omega arith)
less_parted p (StepItem s ∷ items) (suc x) (suc y) l = let h : Parted items p x y = less_parted p items x y l in (suc h.0, omega (arith, h.1), omega (arith, h.2), h.3)
less_parted p (Free object sort ∷ items) x y l = less_parted p items x y l

last_from : (trace : List Item) (c : Cell) (n p : ℕ) → last_writer c (steps_of trace) n ≡ Some p → IsLast (doings c trace) n p
last_from trace c n p e = by_cases (latest_is (writer c (steps_of trace)) n)
  where
    unwritten : (j : ℕ) → writer c (steps_of trace) j ≡ None → (writes_at c (steps_of trace) j ≡ true) ⊎ (writes_at c (steps_of trace) j ≡ false) → writes_at c (steps_of trace) j ≡ false
    unwritten j none (inl w) = absurd (no_writer c (steps_of trace) j w none)
    unwritten j none (inr w) = w

    by_cases : Latest (writer c (steps_of trace)) n → IsLast (doings c trace) n p
    by_cases (Nothing none all) = let k : None ≡ Some p = sym none ∙ e in absurd (cc)
    by_cases (Found w v found under written rest) =
        let a : (writes_at c (steps_of trace) w ≡ true) × (w ≡ v) = writer_some c (steps_of trace) w v written in
        let k : Some v ≡ Some p = sym found ∙ e in
        let same : w ≡ p = cc in
        record {
          below = omega arith;
          writes = ap (writes_at c (steps_of trace)) (sym same) ∙ a.0;
          last = λ j above below. unwritten j (rest j (omega arith) below) (cases_Bool (writes_at c (steps_of trace) j));
        }

-- A writer below n: the last one there.
some_last : (trace : List Item) (c : Cell) (n j : ℕ) → j < n → writes_at c (steps_of trace) j ≡ true → (p : ℕ) × (j ≤ p) × (last_writer c (steps_of trace) n ≡ Some p)
some_last trace c n j below w = by_cases (latest_is (writer c (steps_of trace)) n)
  where
    by_cases : Latest (writer c (steps_of trace)) n → (p : ℕ) × (j ≤ p) × (last_writer c (steps_of trace) n ≡ Some p)
    by_cases (Nothing none all) = absurd (no_writer c (steps_of trace) j w (all j below))
    by_cases (Found p v found under written rest) = (v, at (cases_lt p j), found)
      where
        same : p ≡ v
        same = (writer_some c (steps_of trace) p v written).1

        at : (p < j) ⊎ (j ≤ p) → j ≤ v
        at (inl less) = absurd (no_writer c (steps_of trace) j w (rest j less below))
        at (inr l) = omega (arith, same)

last_to : (trace : List Item) (c : Cell) (n p : ℕ) → IsLast (doings c trace) n p → last_writer c (steps_of trace) n ≡ Some p
last_to trace c n p h = at (some_last trace c n p h.below h.writes)
  where
    at : ((q : ℕ) × (p ≤ q) × (last_writer c (steps_of trace) n ≡ Some q)) → last_writer c (steps_of trace) n ≡ Some p
    at l = by_order (cases_lt p l.0)
      where
        w : (l.0 < n) × (writes_at c (steps_of trace) l.0 ≡ true)
        w = last_writer_is c (steps_of trace) n l.0 l.2

        by_order : (p < l.0) ⊎ (l.0 ≤ p) → last_writer c (steps_of trace) n ≡ Some p
        by_order (inl less) = absurd (true≢false (sym w.1 ∙ h.last l.0 less w.0))
        by_order (inr more) = let same : l.0 ≡ p = omega (arith, l.1) in l.2 ∙ ap Some same

end_from : (trace : List Item) (c : Cell) (p : ℕ) → IsLast (doings c trace) (length (steps_of trace)) p → IsEnd (doings c trace) p
end_from trace c p h = record { writes = h.writes; last = λ j above. at j above (cases_Bool (writes_at c (steps_of trace) j)) }
  where
    at : (j : ℕ) → p < j → (writes_at c (steps_of trace) j ≡ true) ⊎ (writes_at c (steps_of trace) j ≡ false) → writes_at c (steps_of trace) j ≡ false
    at j above (inl w) = h.last j above (at_within (λ s. writes s c) (steps_of trace) j w)
    at j above (inr w) = w

end_to : (trace : List Item) (c : Cell) (p : ℕ) → IsEnd (doings c trace) p → IsLast (doings c trace) (length (steps_of trace)) p
end_to trace c p h = record { below = at_within (λ s. writes s c) (steps_of trace) p h.writes; writes = h.writes; last = λ j above below. h.last j above }

-- Where no barrier stands between, the counts are equal.
not_parted : (p : Part) (trace : List Item) (x y : ℕ) → x ≤ y → ¬ Parted trace p x y → epoch p trace x ≡ epoch p trace y
not_parted p trace x y l none = by_less (cases_lt (epoch p trace x) (epoch p trace y))
  where
    by_less : (epoch p trace x < epoch p trace y) ⊎ (epoch p trace y ≤ epoch p trace x) → epoch p trace x ≡ epoch p trace y
    by_less (inl less) = absurd (none (less_parted p trace x y less))
    by_less (inr more) = omega (arith, rising p trace x y l)

pub differs_meets : (trace : List Item) (c : Cell) (reader : Option ℕ) (j : ℕ) → Differs trace reader c j → Meets (doings c trace) reader j
differs_meets trace c (Some k) j d = record { reads = d.reads; writes = d.writes; how = by_how d.how }
  where
    by_how : ((last_writer c (steps_of trace) k ≡ Some j) × ¬ IsBefore trace c (Some j) (Some k)) ⊎ ((last_writer c (steps_of trace) k ≢ Some j) × (¬ IsBefore trace c (Some k) (Some j)) × ((p : ℕ) → last_writer c (steps_of trace) k ≡ Some p → ¬ IsBefore trace c (Some j) (Some p))) → Unordered (doings c trace) j (Some k)
    by_how (inl h) = let l : IsLast (doings c trace) k j = last_from trace c k j h.0 in Is_seen l (not_parted (part_of c) trace j k (omega (arith, l.below)) h.1)
    by_how (inr h) = by_order (cases_order j k)
      where
        by_order : (j ≡ k) ⊎ ((j < k) ⊎ (k < j)) → Unordered (doings c trace) j (Some k)
        by_order (inl same) = absurd (d.other (ap Some (sym same)))
        by_order (inr (inl less)) = seen (some_last trace c k j less d.writes)
          where
            seen : ((p : ℕ) × (j ≤ p) × (last_writer c (steps_of trace) k ≡ Some p)) → Unordered (doings c trace) j (Some k)
            seen s = by_same (cases_eq j s.0)
              where
                by_same : (j ≡ s.0) ⊎ (j ≡ s.0 → ⊥) → Unordered (doings c trace) j (Some k)
                by_same (inl same) = absurd (h.0 (s.2 ∙ ap Some (sym same)))
                by_same (inr other) = let ne : j ≢ s.0 = other in Beside_seen s.0 (last_from trace c k s.0 s.2) (omega (arith, s.1)) (not_parted (part_of c) trace j s.0 s.1 (h.2 s.0 s.2))
        by_order (inr (inr more)) = Behind_reader more (sym (not_parted (part_of c) trace k j (omega arith) h.1))
differs_meets trace c None j d = record { reads = tt; writes = d.writes; how = by_how d.how }
  where
    by_how : ((last_writer c (steps_of trace) (length (steps_of trace)) ≡ Some j) × ¬ IsBefore trace c (Some j) None) ⊎ ((last_writer c (steps_of trace) (length (steps_of trace)) ≢ Some j) × (¬ IsBefore trace c None (Some j)) × ((p : ℕ) → last_writer c (steps_of trace) (length (steps_of trace)) ≡ Some p → ¬ IsBefore trace c (Some j) (Some p))) → Unordered (doings c trace) j None
    by_how (inl h) = absurd (h.1 tt)
    by_how (inr h) = seen (some_last trace c (length (steps_of trace)) j (at_within (λ s. writes s c) (steps_of trace) j d.writes) d.writes)
      where
        seen : ((p : ℕ) × (j ≤ p) × (last_writer c (steps_of trace) (length (steps_of trace)) ≡ Some p)) → Unordered (doings c trace) j None
        seen s = by_same (cases_eq j s.0)
          where
            by_same : (j ≡ s.0) ⊎ (j ≡ s.0 → ⊥) → Unordered (doings c trace) j None
            by_same (inl same) = absurd (h.0 (s.2 ∙ ap Some (sym same)))
            by_same (inr other) = let ne : j ≢ s.0 = other in Beside_end s.0 (end_from trace c s.0 (last_from trace c (length (steps_of trace)) s.0 s.2)) (omega (arith, s.1)) (not_parted (part_of c) trace j s.0 s.1 (h.2 s.0 s.2))

pub meets_differs : (trace : List Item) (c : Cell) (reader : Option ℕ) (j : ℕ) → Meets (doings c trace) reader j → Differs trace reader c j
meets_differs trace c (Some k) j m = by_how m.how
  where
    once : (p q : ℕ) → last_writer c (steps_of trace) k ≡ Some p → last_writer c (steps_of trace) k ≡ Some q → p ≡ q
    once p q a b = let h : Some p ≡ Some q = sym a ∙ b in cc

    by_how : Unordered (doings c trace) j (Some k) → Differs trace (Some k) c j
    by_how (Beside_seen p last less same) = record {
      reads = m.reads;
      writes = m.writes;
      other = λ e. let h : k ≡ j = cc in omega (arith, last.below);
      how = inr (
        (λ e. let h : j ≡ p = once j p e (last_to trace c k p last) in omega arith),
        (λ b. omega (arith, parted_less (part_of c) trace k j b, same, rising (part_of c) trace p k (omega (arith, last.below)))),
        (λ q e b. let h : q ≡ p = once q p e (last_to trace c k p last) in omega (arith, parted_less (part_of c) trace j p (subst (λ (x : ℕ). Parted trace (part_of c) j x) h b), same)),
      );
    }
    by_how (Is_seen last same) = record {
      reads = m.reads;
      writes = m.writes;
      other = λ e. let h : k ≡ j = cc in omega (arith, last.below);
      how = inl (last_to trace c k j last, λ b. omega (arith, parted_less (part_of c) trace j k b, same));
    }
    by_how (Behind_reader behind same) = record {
      reads = m.reads;
      writes = m.writes;
      other = λ e. let h : k ≡ j = cc in omega arith;
      how = inr (
        (λ e. omega (arith, (last_writer_is c (steps_of trace) k j e).0)),
        (λ b. omega (arith, parted_less (part_of c) trace k j b, same)),
        (λ q e b. omega (arith, (last_writer_is c (steps_of trace) k q e).0, b.1, b.2)),
      );
    }
meets_differs trace c None j m = by_how m.how
  where
    once : (p q : ℕ) → last_writer c (steps_of trace) (length (steps_of trace)) ≡ Some p → last_writer c (steps_of trace) (length (steps_of trace)) ≡ Some q → p ≡ q
    once p q a b = let h : Some p ≡ Some q = sym a ∙ b in cc

    by_how : Unordered (doings c trace) j None → Differs trace None c j
    by_how (Beside_end p end less same) = record {
      reads = tt;
      writes = m.writes;
      other = λ e. absurd (cc);
      how = inr (
        (λ e. let h : j ≡ p = once j p e (last_to trace c (length (steps_of trace)) p (end_to trace c p end)) in omega arith),
        (λ b. b),
        (λ q e b. let h : q ≡ p = once q p e (last_to trace c (length (steps_of trace)) p (end_to trace c p end)) in omega (arith, parted_less (part_of c) trace j p (subst (λ (x : ℕ). Parted trace (part_of c) j x) h b), same)),
      );
    }
