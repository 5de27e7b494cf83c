-- The least clash of the segments is the least clash of all cells.
use Rattle.std.proofs.Common.{◌≡◌, ℕ, zero, suc, ◌+◌, ◌<◌, ◌≤◌, List, length, map, Bool, true, false, nat_lt, Option, Some, None, refl, ap, sym, subst, ◌∙◌, ◌≢◌, ◌⊎◌, inl, inr, arith, if◌then◌else◌, true≢false}
use Rattle.std.proofs.lemmas.Bool.{cases_eq, cases_lt, cases_order, ltb-true, lt-ltb}
use Rattle.wg_rows.specs.Runs.{Cell}
use Rattle.wg_orders.specs.Trace.{Item}
use Rattle.wg_orders.specs.Orders.{Differs}
use Rattle.wg_check.specs.Stories.{Meeting}
use Rattle.wg_check.specs.declared.ends.SegmentEvent.{SegmentEvent}
use Rattle.wg_check.specs.declared.segments.Spotted.{Spotted}
use Rattle.wg_check.specs.Stories.{clash_from}
use Rattle.wg_check.specs.Doings.{NotAfter, FromStep, IsClash}
use Rattle.wg_check.specs.Clashes.{doings, story}
use Rattle.wg_check.specs.declared.stories.Access.{Access}
use Rattle.wg_check.specs.Verdict.{Segmented, IsFirst, SegmentsTell}
use Rattle.wg_check.specs.Segments.{story_at, earlier, at_segment, better, clash_at, clash_among, Key, rank, KeyEvent, ranked}
use Rattle.wg_check.proofs.Ranks.{rank_within, story_ranked}
use Rattle.wg_check.proofs.Differing.{differs_meets, meets_differs}
use Rattle.wg_check.proofs.Telling.{cell_clash}

-- The first stands before the second: by reader, then by segment.
abbrev pub Leads : Spotted → Option ℕ → ℕ → Type 0
Leads s reader n = (earlier s.reader reader ≡ true) ⊎ ((s.reader ≡ reader) × (s.segment ≤ n))

pub record LeastOf (events : List SegmentEvent) (lo n : ℕ) (s : Spotted) : Type 0 where
  pub lower : lo ≤ s.segment
  pub upper : s.segment < lo + n
  pub is : clash_at events s.segment ≡ Some s
  pub leads : (m : ℕ) (t : Spotted) → lo ≤ m → m < lo + n → clash_at events m ≡ Some t → Leads s t.reader m

abbrev pub AmongIs : List SegmentEvent → ℕ → ℕ → Option Spotted → Type 0
AmongIs events lo n None = (m : ℕ) → lo ≤ m → m < lo + n → clash_at events m ≡ None
AmongIs events lo n (Some s) = LeastOf events lo n s

compare : (a b : Option ℕ) → earlier a b ≡ false → (a ≡ b) ⊎ (earlier b a ≡ true)
compare None None e = inl refl
compare None (Some y) e = inr refl
compare (Some x) None e = absurd (true≢false e)
compare (Some x) (Some y) e = by_order (cases_order x y)
  where
    by_order : (x ≡ y) ⊎ ((x < y) ⊎ (y < x)) → (Some x ≡ Some y) ⊎ (nat_lt y x ≡ true)
    by_order (inl same) = inl (ap Some same)
    by_order (inr (inl less)) = absurd (true≢false (sym (lt-ltb x y less) ∙ e))
    by_order (inr (inr more)) = inr (lt-ltb y x more)

earlier_on : (a b c : Option ℕ) → earlier a b ≡ true → earlier b c ≡ true → earlier a c ≡ true
earlier_on None b c e h = absurd (true≢false (sym e))
earlier_on (Some x) None c e h = absurd (true≢false (sym h))
earlier_on (Some x) (Some y) None e h = refl
earlier_on (Some x) (Some y) (Some z) e h = let a : x < y = ltb-true x y e in let b : y < z = ltb-true y z h in lt-ltb x z (omega arith)

at_is : (n : ℕ) (o : Option Meeting) (t : Spotted) → at_segment n o ≡ Some t → t.segment ≡ n
at_is n None t e = absurd (cc)
at_is n (Some m) t e = let h : record { reader = m.reader; segment = n; writer = m.writer } ≡ t = cc in ap (λ (s : Spotted). s.segment) (sym h)

pub among_is : (events : List SegmentEvent) (lo n : ℕ) → AmongIs events lo n (clash_among events lo n)
among_is events lo zero = λ m l u. absurd (omega arith)
among_is events lo (suc n) = by_both (clash_at events lo) (clash_among events (suc lo) n) refl (among_is events (suc lo) n)
  where
    first_or : (m : ℕ) → lo ≤ m → m < lo + suc n → (m ≡ lo) ⊎ ((suc lo ≤ m) × (m < suc lo + n))
    first_or m l u = at (cases_eq m lo)
      where
        at : (m ≡ lo) ⊎ (m ≡ lo → ⊥) → (m ≡ lo) ⊎ ((suc lo ≤ m) × (m < suc lo + n))
        at (inl same) = inl same
        at (inr other) = let ne : m ≢ lo = other in inr (omega arith, omega arith)

    by_both : (a b : Option Spotted) → clash_at events lo ≡ a → AmongIs events (suc lo) n b → AmongIs events lo (suc n) (better a b)
    by_both None None e h = λ m l u. at m (first_or m l u)
      where
        at : (m : ℕ) → (m ≡ lo) ⊎ ((suc lo ≤ m) × (m < suc lo + n)) → clash_at events m ≡ None
        at m (inl same) = ap (clash_at events) same ∙ e
        at m (inr r) = h m r.0 r.1
    by_both None (Some b) e h = record { lower = omega (arith, h.lower); upper = omega (arith, h.upper); is = h.is; leads = λ m t l u found. at m t found (first_or m l u) }
      where
        at : (m : ℕ) (t : Spotted) → clash_at events m ≡ Some t → (m ≡ lo) ⊎ ((suc lo ≤ m) × (m < suc lo + n)) → Leads b t.reader m
        at m t found (inl same) = let k : None ≡ Some t = sym e ∙ (ap (clash_at events) (sym same) ∙ found) in absurd (cc)
        at m t found (inr r) = h.leads m t r.0 r.1 found
    by_both (Some a) None e h = record { lower = omega (arith, spot); upper = omega (arith, spot); is = ap (clash_at events) spot ∙ e; leads = λ m t l u found. at m t found (first_or m l u) }
      where
        spot : a.segment ≡ lo
        spot = at_is lo (clash_from None (story_at lo 0 events)) a e

        at : (m : ℕ) (t : Spotted) → clash_at events m ≡ Some t → (m ≡ lo) ⊎ ((suc lo ≤ m) × (m < suc lo + n)) → Leads a t.reader m
        at m t found (inl same) =
            let k : Some a ≡ Some t = sym e ∙ (ap (clash_at events) (sym same) ∙ found) in
            let q : a ≡ t = cc in
            inr (ap (λ (s : Spotted). s.reader) q, omega (arith, spot))
        at m t found (inr r) = let k : None ≡ Some t = sym (h m r.0 r.1) ∙ found in absurd (cc)
    by_both (Some a) (Some b) e h = by_reader (earlier b.reader a.reader) refl
      where
        spot : a.segment ≡ lo
        spot = at_is lo (clash_from None (story_at lo 0 events)) a e

        is_a : (m : ℕ) (t : Spotted) → clash_at events m ≡ Some t → m ≡ lo → a ≡ t
        is_a m t found same = let k : Some a ≡ Some t = sym e ∙ (ap (clash_at events) (sym same) ∙ found) in cc

        by_reader : (t : Bool) → earlier b.reader a.reader ≡ t → AmongIs events lo (suc n) (if t then Some b else Some a)
        by_reader true less = record { lower = omega (arith, h.lower); upper = omega (arith, h.upper); is = h.is; leads = λ m t l u found. at m t found (first_or m l u) }
          where
            at : (m : ℕ) (t : Spotted) → clash_at events m ≡ Some t → (m ≡ lo) ⊎ ((suc lo ≤ m) × (m < suc lo + n)) → Leads b t.reader m
            at m t found (inl same) = inl (subst (λ (s : Spotted). earlier b.reader s.reader ≡ true) (is_a m t found same) less)
            at m t found (inr r) = h.leads m t r.0 r.1 found
        by_reader false not_less = record { lower = omega (arith, spot); upper = omega (arith, spot); is = ap (clash_at events) spot ∙ e; leads = λ m t l u found. at m t found (first_or m l u) }
          where
            from_b : (m : ℕ) (t : Spotted) → suc lo ≤ m → (b.reader ≡ a.reader) ⊎ (earlier a.reader b.reader ≡ true) → Leads b t.reader m → Leads a t.reader m
            from_b m t l (inl same) (inl less) = inl (ap (λ (r : Option ℕ). earlier r t.reader) (sym same) ∙ less)
            from_b m t l (inl same) (inr both) = inr (sym same ∙ both.0, omega (arith, spot))
            from_b m t l (inr less) (inl more) = inl (earlier_on a.reader b.reader t.reader less more)
            from_b m t l (inr less) (inr both) = inl (subst (λ (r : Option ℕ). earlier a.reader r ≡ true) both.0 less)

            at : (m : ℕ) (t : Spotted) → clash_at events m ≡ Some t → (m ≡ lo) ⊎ ((suc lo ≤ m) × (m < suc lo + n)) → Leads a t.reader m
            at m t found (inl same) = inr (ap (λ (s : Spotted). s.reader) (is_a m t found same), omega (arith, spot))
            at m t found (inr r) = from_b m t r.0 (compare b.reader a.reader not_less) (h.leads m t r.0 r.1 found)

clash_ranked : (trace : List Item) (key : Cell → Key) (events : List KeyEvent) (ends : List Key) → Segmented trace key events ends → (c : Cell) → clash_at (map (ranked ends) events) (rank ends (key c)) ≡ at_segment (rank ends (key c)) (clash_from None (story c trace))
clash_ranked trace key events ends is c = ap (λ (s : List Access). at_segment (rank ends (key c)) (clash_from None s)) (story_ranked ends (key c) 0 events is.within ∙ is.stories c)

not_after : (a b : Option ℕ) (i j : ℕ) → NotAfter a i b j → (earlier a b ≡ true) ⊎ ((a ≡ b) × (i ≤ j))
not_after None None i j l = inr (refl, l)
not_after None (Some y) i j l = absurd l
not_after (Some x) None i j l = inl refl
not_after (Some x) (Some y) i j (inl less) = inl (lt-ltb x y less)
not_after (Some x) (Some y) i j (inr same) = inr (ap Some same.0, same.1)

from_start : (reader : Option ℕ) → FromStep 0 reader
from_start None = tt
from_start (Some k) = omega arith

pub verdict_is : (trace : List Item) (key : Cell → Key) (events : List KeyEvent) (ends : List Key) → Segmented trace key events ends → SegmentsTell trace key ends (clash_among (map (ranked ends) events) 0 (suc (length ends)))
verdict_is trace key events ends is = by_found (clash_among (map (ranked ends) events) 0 (suc (length ends))) (among_is (map (ranked ends) events) 0 (suc (length ends)))
  where
    within : (c : Cell) → rank ends (key c) < 0 + suc (length ends)
    within c = omega (arith, rank_within ends (key c))

    -- a writer that differs at a cell gives a clash of its segment that does not come after it
    spotted : (c : Cell) (reader : Option ℕ) (j : ℕ) → Differs trace reader c j → (t : Spotted) × (clash_at (map (ranked ends) events) (rank ends (key c)) ≡ Some t) × NotAfter t.reader t.writer reader j
    spotted c reader j d = by_clash (clash_from None (story c trace)) (clash_ranked trace key events ends is c) (cell_clash trace c)
      where
        by_clash : (o : Option Meeting) → clash_at (map (ranked ends) events) (rank ends (key c)) ≡ at_segment (rank ends (key c)) o → IsClash (doings c trace) 0 o → (t : Spotted) × (clash_at (map (ranked ends) events) (rank ends (key c)) ≡ Some t) × NotAfter t.reader t.writer reader j
        by_clash None e h = absurd (h reader j (from_start reader) (differs_meets trace c reader j d))
        by_clash (Some m) e h = (record { reader = m.reader; segment = rank ends (key c); writer = m.writer }, e, h.least reader j (from_start reader) (differs_meets trace c reader j d))

    by_found : (found : Option Spotted) → AmongIs (map (ranked ends) events) 0 (suc (length ends)) found → SegmentsTell trace key ends found
    by_found None h = λ c reader j d. none reader j (rank ends (key c)) (within c) (spotted c reader j d)
      where
        none : (reader : Option ℕ) (j n : ℕ) → n < 0 + suc (length ends) → ((t : Spotted) × (clash_at (map (ranked ends) events) n ≡ Some t) × NotAfter t.reader t.writer reader j) → ⊥
        none reader j n l s = let k : None ≡ Some s.0 = sym (h n (omega arith) l) ∙ s.1 in absurd (cc)
    by_found (Some s) h = record { differs = differs; first = λ c reader j d. first c reader j (spotted c reader j d) }
      where
        differs : (c : Cell) → rank ends (key c) ≡ s.segment → Differs trace s.reader c s.writer
        differs c same = by_clash (clash_from None (story c trace)) (sym (clash_ranked trace key events ends is c) ∙ (ap (clash_at (map (ranked ends) events)) same ∙ h.is)) (cell_clash trace c)
          where
            by_clash : (o : Option Meeting) → at_segment (rank ends (key c)) o ≡ Some s → IsClash (doings c trace) 0 o → Differs trace s.reader c s.writer
            by_clash None e k = absurd (cc)
            by_clash (Some m) e k =
                let q : record { reader = m.reader; segment = rank ends (key c); writer = m.writer } ≡ s = cc in
                subst (λ (s : Spotted). Differs trace s.reader c s.writer) q (meets_differs trace c m.reader m.writer k.meets)

        first : (c : Cell) (reader : Option ℕ) (j : ℕ) → ((t : Spotted) × (clash_at (map (ranked ends) events) (rank ends (key c)) ≡ Some t) × NotAfter t.reader t.writer reader j) → IsFirst s reader (rank ends (key c)) j
        first c reader j t = by_leads (h.leads (rank ends (key c)) t.0 (omega arith) (within c) t.1) (not_after t.0.reader reader t.0.writer j t.2)
          where
            same_segment : rank ends (key c) ≡ s.segment → s ≡ t.0
            same_segment same = let k : Some s ≡ Some t.0 = sym h.is ∙ (ap (clash_at (map (ranked ends) events)) (sym same) ∙ t.1) in cc

            by_leads : Leads s t.0.reader (rank ends (key c)) → (earlier t.0.reader reader ≡ true) ⊎ ((t.0.reader ≡ reader) × (t.0.writer ≤ j)) → IsFirst s reader (rank ends (key c)) j
            by_leads (inl a) (inl b) = inl (earlier_on s.reader t.0.reader reader a b)
            by_leads (inl a) (inr b) = inl (subst (λ (r : Option ℕ). earlier s.reader r ≡ true) b.0 a)
            by_leads (inr a) (inl b) = inl (ap (λ (r : Option ℕ). earlier r reader) a.0 ∙ b)
            by_leads (inr a) (inr b) = inr (a.0 ∙ b.0, at (cases_lt s.segment (rank ends (key c))))
              where
                at : (s.segment < rank ends (key c)) ⊎ (rank ends (key c) ≤ s.segment) → (s.segment < rank ends (key c)) ⊎ ((s.segment ≡ rank ends (key c)) × (s.writer ≤ j))
                at (inl less) = inl less
                at (inr more) =
                    let same : rank ends (key c) ≡ s.segment = omega (arith, a.1) in
                    inr (sym same, omega (arith, ap (λ (s : Spotted). s.writer) (same_segment same), b.1))
