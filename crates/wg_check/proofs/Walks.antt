-- The walk over a story finds its least clash.
use Rattle.std.proofs.Common.{◌≡◌, ℕ, suc, ◌<◌, ◌≤◌, List, [], ◌∷◌, Bool, true, false, not, Option, Some, None, refl, ap, sym, subst, ◌∙◌, ◌⊎◌, inl, inr, arith, true≢false, ◌≢◌, ◌==◌, if◌then◌else◌}
use Rattle.std.specs.Option.{option_map}
use Rattle.std.proofs.lemmas.Bool.{cases_eq, cases_lt, cases_order, eqb-true, eqb-false}
use Rattle.wg_check.specs.declared.stories.Access.{Access}
use Rattle.wg_check.specs.declared.stories.Past.{Past}
use Rattle.wg_check.specs.Stories.{Meeting}
use Rattle.wg_check.specs.Stories.{next_writer, first_of, after, later, writer_for, at_end, or_on, clash_from}
use Rattle.wg_check.specs.Doings.{Doings, Rising, IsStory, IsLast, IsEnd, Unordered, Beside_seen, Is_seen, Behind_reader, Beside_end, Meets, NotAfter, FromStep, IsClash}

-- What is known of the steps below n.
pub record PastAt (d : Doings) (n : ℕ) (p : Past) : Type 0 where
  pub last : IsLast d n p.last
  pub epoch : d.epoch p.last ≡ p.epoch
  pub writes : d.writes p.first ≡ true
  pub within : p.first ≤ p.last
  pub first_epoch : d.epoch p.first ≡ p.epoch
  pub first : (j : ℕ) → d.writes j ≡ true → d.epoch j ≡ p.epoch → p.first ≤ j

abbrev pub PastIs : Doings → ℕ → Option Past → Type 0
PastIs d n None = (j : ℕ) → j < n → d.writes j ≡ false
PastIs d n (Some p) = PastAt d n p

-- What is known of the steps behind k.
pub record NextAt (d : Doings) (k : ℕ) (w : Access) : Type 0 where
  pub behind : k < w.place
  pub writes : d.writes w.place ≡ true
  pub epoch : d.epoch w.place ≡ w.epoch
  pub next : (j : ℕ) → k < j → d.writes j ≡ true → w.place ≤ j

abbrev pub NextIs : Doings → ℕ → Option Access → Type 0
NextIs d k None = (j : ℕ) → k < j → d.writes j ≡ true → ⊥
NextIs d k (Some w) = NextAt d k w

-- The least writer for one reader.
abbrev pub ClashAt : Doings → ℕ → Option ℕ → Type 0
ClashAt d k None = (j : ℕ) → Meets d (Some k) j → ⊥
ClashAt d k (Some j) = Meets d (Some k) j × ((i : ℕ) → Meets d (Some k) i → j ≤ i)

no : {b : Bool} → b ≡ true → b ≡ false → ⊥
no h e = true≢false (sym h ∙ e)

last_once : (d : Doings) (k p q : ℕ) → IsLast d k p → IsLast d k q → p ≡ q
last_once d k p q a b = by_order (cases_order p q)
  where
    by_order : (p ≡ q) ⊎ ((p < q) ⊎ (q < p)) → p ≡ q
    by_order (inl same) = same
    by_order (inr (inl less)) = absurd (no b.writes (a.last q less b.below))
    by_order (inr (inr more)) = absurd (no a.writes (b.last p more a.below))

next_is : (d : Doings) (k n : ℕ) (story : List Access) → k < n → ((j : ℕ) → k < j → j < n → d.writes j ≡ false) → IsStory d n story → NextIs d k (next_writer story)
next_is d k n [] l none all = λ j past w. by_side j past w (cases_lt j n)
  where
    by_side : (j : ℕ) → k < j → d.writes j ≡ true → (j < n) ⊎ (n ≤ j) → ⊥
    by_side j past w (inl below) = no w (none j past below)
    by_side j past w (inr above) = no w (all j above).1
next_is d k n (a ∷ rest) l none h = by_writes a.writes refl (λ gap. next_is d k (suc a.place) rest (omega (arith, h.0.behind)) gap h.1)
  where
    gap_to : (j : ℕ) → k < j → j < a.place → d.writes j ≡ false
    gap_to j past below = by_side (cases_lt j n)
      where
        by_side : (j < n) ⊎ (n ≤ j) → d.writes j ≡ false
        by_side (inl under) = none j past under
        by_side (inr above) = (h.0.between j above below).1

    by_writes : (b : Bool) → a.writes ≡ b → (((j : ℕ) → k < j → j < suc a.place → d.writes j ≡ false) → NextIs d k (next_writer rest)) → NextIs d k (if b then Some a else next_writer rest)
    by_writes true e on = record {
      behind = omega (arith, h.0.behind);
      writes = h.0.writes ∙ e;
      epoch = h.0.epoch;
      next = λ j past w. by_side j past w (cases_lt j a.place);
    }
      where
        by_side : (j : ℕ) → k < j → d.writes j ≡ true → (j < a.place) ⊎ (a.place ≤ j) → a.place ≤ j
        by_side j past w (inl below) = absurd (no w (gap_to j past below))
        by_side j past w (inr above) = above
    by_writes false e on = on (λ j past below. at_or_below j past below (cases_eq j a.place))
      where
        at_or_below : (j : ℕ) → k < j → j < suc a.place → (j ≡ a.place) ⊎ (j ≡ a.place → ⊥) → d.writes j ≡ false
        at_or_below j past below (inl same) = ap d.writes same ∙ (h.0.writes ∙ e)
        at_or_below j past below (inr other) = let ne : j ≢ a.place = other in gap_to j past (omega arith)

-- the writers behind a reader, where the ones before it are out
later_right : (d : Doings) (a : Access) (next : Option Access) → Rising d → d.reads a.place ≡ true → d.epoch a.place ≡ a.epoch → NextIs d a.place next → ((j : ℕ) → Meets d (Some a.place) j → (a.place < j) × (d.epoch j ≡ d.epoch a.place)) → ClashAt d a.place (later a next)
later_right d a None up r e next only = λ j m. next j (only j m).0 m.writes
later_right d a (Some w) up r e next only = by_epoch (w.epoch == a.epoch) refl
  where
    by_epoch : (b : Bool) → (w.epoch == a.epoch) ≡ b → ClashAt d a.place (if b then Some w.place else None)
    by_epoch true same = let q : w.epoch ≡ a.epoch = eqb-true w.epoch a.epoch same in (record { reads = r; writes = next.writes; how = Behind_reader next.behind (next.epoch ∙ (q ∙ sym e)) }, λ i m. next.next i (only i m).0 m.writes)
    by_epoch false other = λ j m.
        let o : (a.place < j) × (d.epoch j ≡ d.epoch a.place) = only j m in
        let ne : w.epoch ≢ a.epoch = eqb-false w.epoch a.epoch other in
        let behind : w.place ≤ j = next.next j o.0 m.writes in
        absurd (omega (arith, next.epoch, e, o.1, up w.place j behind, up a.place w.place (omega (arith, next.behind))))

reader_right : (d : Doings) (a : Access) (past : Option Past) (next : Option Access) → Rising d → d.reads a.place ≡ true → d.epoch a.place ≡ a.epoch → PastIs d a.place past → NextIs d a.place next → ClashAt d a.place (writer_for past a next)
reader_right d a None next up r e past n = later_right d a next up r e n (λ j m. by_how j m.writes m.how)
  where
    by_how : (j : ℕ) → d.writes j ≡ true → Unordered d j (Some a.place) → (a.place < j) × (d.epoch j ≡ d.epoch a.place)
    by_how j w (Beside_seen p last below same) = absurd (no last.writes (past p last.below))
    by_how j w (Is_seen last same) = absurd (no w (past j last.below))
    by_how j w (Behind_reader behind same) = (behind, same)
reader_right d a (Some p) next up r e past n = by_first (p.first == p.last) refl
  where
    by_how : (j : ℕ) → d.writes j ≡ true → Unordered d j (Some a.place) → ((p.first ≤ j) × (j < p.last)) ⊎ (((j ≡ p.last) × (d.epoch j ≡ d.epoch a.place)) ⊎ ((a.place < j) × (d.epoch j ≡ d.epoch a.place)))
    by_how j w (Beside_seen q last below same) =
        let k : q ≡ p.last = last_once d a.place q p.last last past.last in
        inl (past.first j w (same ∙ (ap d.epoch k ∙ past.epoch)), omega arith)
    by_how j w (Is_seen last same) = inr (inl (last_once d a.place j p.last last past.last, same))
    by_how j w (Behind_reader behind same) = inr (inr (behind, same))

    least : (j : ℕ) → ((p.first ≤ j) × (j < p.last)) ⊎ (((j ≡ p.last) × (d.epoch j ≡ d.epoch a.place)) ⊎ ((a.place < j) × (d.epoch j ≡ d.epoch a.place))) → p.first ≤ j
    least j (inl h) = h.0
    least j (inr (inl h)) = omega (arith, h.0, past.within)
    least j (inr (inr h)) = omega (arith, h.0, past.within, past.last.below)

    by_epoch : (b : Bool) → (p.epoch == a.epoch) ≡ b → p.first ≡ p.last → ClashAt d a.place (if b then Some p.last else later a next)
    by_epoch true same one = (record { reads = r; writes = past.last.writes; how = Is_seen past.last (past.epoch ∙ (eqb-true p.epoch a.epoch same ∙ sym e)) }, λ i m. omega (arith, one, least i (by_how i m.writes m.how)))
    by_epoch false other one = later_right d a next up r e n (λ j m. behind j (by_how j m.writes m.how))
      where
        behind : (j : ℕ) → ((p.first ≤ j) × (j < p.last)) ⊎ (((j ≡ p.last) × (d.epoch j ≡ d.epoch a.place)) ⊎ ((a.place < j) × (d.epoch j ≡ d.epoch a.place))) → (a.place < j) × (d.epoch j ≡ d.epoch a.place)
        behind j (inl h) = absurd (omega (arith, h.0, h.1, one))
        behind j (inr (inl h)) = absurd (eqb-false p.epoch a.epoch other (sym past.epoch ∙ (ap d.epoch (sym h.0) ∙ (h.1 ∙ e))))
        behind j (inr (inr h)) = h

    by_first : (b : Bool) → (p.first == p.last) ≡ b → ClashAt d a.place (if not b then Some p.first else (if p.epoch == a.epoch then Some p.last else later a next))
    by_first true same = by_epoch (p.epoch == a.epoch) refl (eqb-true p.first p.last same)
    by_first false other =
        let ne : p.first ≢ p.last = eqb-false p.first p.last other in
        (record { reads = r; writes = past.writes; how = Beside_seen p.last past.last (omega (arith, past.within)) (past.first_epoch ∙ sym past.epoch) }, λ i m. least i (by_how i m.writes m.how))

past_on : (d : Doings) (n k : ℕ) (past : Option Past) → n ≤ k → ((j : ℕ) → n ≤ j → j < k → d.writes j ≡ false) → PastIs d n past → PastIs d k past
past_on d n k None l none past = λ j below. by_side j below (cases_lt j n)
  where
    by_side : (j : ℕ) → j < k → (j < n) ⊎ (n ≤ j) → d.writes j ≡ false
    by_side j below (inl under) = past j under
    by_side j below (inr above) = none j above below
past_on d n k (Some p) l none past = record {
  last = record { below = omega (arith, past.last.below); writes = past.last.writes; last = λ j above below. by_side j above below (cases_lt j n) };
  epoch = past.epoch;
  writes = past.writes;
  within = past.within;
  first_epoch = past.first_epoch;
  first = past.first;
}
  where
    by_side : (j : ℕ) → p.last < j → j < k → (j < n) ⊎ (n ≤ j) → d.writes j ≡ false
    by_side j past_last below (inl under) = past.last.last j past_last under
    by_side j past_last below (inr above) = none j above below

after_right : (d : Doings) (a : Access) (past : Option Past) → Rising d → d.writes a.place ≡ a.writes → d.epoch a.place ≡ a.epoch → PastIs d a.place past → PastIs d (suc a.place) (after past a)
after_right d a past up w e h = by_writes a.writes refl
  where
    top : (j : ℕ) → a.place ≤ j → j < suc a.place → a.writes ≡ false → d.writes j ≡ false
    top j above below f = let same : j ≡ a.place = omega arith in ap d.writes same ∙ (w ∙ f)

    first : (past : Option Past) → PastIs d a.place past → a.writes ≡ true → PastAt d (suc a.place) (record { last = a.place; first = first_of past a; epoch = a.epoch })
    first None h t = record {
      last = record { below = omega arith; writes = w ∙ t; last = λ j above below. absurd (omega arith) };
      epoch = e;
      writes = w ∙ t;
      within = omega arith;
      first_epoch = e;
      first = λ j writes same. by_side j writes (cases_lt j a.place);
    }
      where
        by_side : (j : ℕ) → d.writes j ≡ true → (j < a.place) ⊎ (a.place ≤ j) → a.place ≤ j
        by_side j writes (inl below) = absurd (no writes (h j below))
        by_side j writes (inr above) = above
    first (Some p) h t = by_epoch (p.epoch == a.epoch) refl
      where
        by_epoch : (b : Bool) → (p.epoch == a.epoch) ≡ b → PastAt d (suc a.place) (record { last = a.place; first = if b then p.first else a.place; epoch = a.epoch })
        by_epoch true same =
            let q : p.epoch ≡ a.epoch = eqb-true p.epoch a.epoch same in
            record {
              last = record { below = omega arith; writes = w ∙ t; last = λ j above below. absurd (omega arith) };
              epoch = e;
              writes = h.writes;
              within = omega (arith, h.within, h.last.below);
              first_epoch = h.first_epoch ∙ q;
              first = λ j writes at. h.first j writes (at ∙ sym q);
            }
        by_epoch false other = record {
          last = record { below = omega arith; writes = w ∙ t; last = λ j above below. absurd (omega arith) };
          epoch = e;
          writes = w ∙ t;
          within = omega arith;
          first_epoch = e;
          first = λ j writes at. by_side j writes at (cases_lt j a.place);
        }
          where
            ne : p.epoch ≢ a.epoch
            ne = eqb-false p.epoch a.epoch other

            under : (j : ℕ) → d.writes j ≡ true → j < a.place → (p.last < j) ⊎ (j ≤ p.last) → j ≤ p.last
            under j writes below (inl past_last) = absurd (no writes (h.last.last j past_last below))
            under j writes below (inr l) = l

            by_side : (j : ℕ) → d.writes j ≡ true → d.epoch j ≡ a.epoch → (j < a.place) ⊎ (a.place ≤ j) → a.place ≤ j
            by_side j writes at (inl below) =
                let l : j ≤ p.last = under j writes below (cases_lt p.last j) in
                absurd (ne (omega (arith, h.epoch, e, at, up j p.last l, up p.last a.place (omega (arith, h.last.below)))))
            by_side j writes at (inr above) = above

    by_writes : (b : Bool) → a.writes ≡ b → PastIs d (suc a.place) (if b then Some (record { last = a.place; first = first_of past a; epoch = a.epoch }) else past)
    by_writes true t = first past h t
    by_writes false f = past_on d a.place (suc a.place) past (omega arith) (λ j above below. top j above below f) h

end_right : (d : Doings) (n : ℕ) (past : Option Past) → PastIs d n past → ((k : ℕ) → n ≤ k → (d.reads k ≡ false) × (d.writes k ≡ false)) → IsClash d n (option_map (λ j. record { reader = None; writer = j }) (at_end past))
end_right d n past h none = by_past past h
  where
    no_step : (k j : ℕ) → n ≤ k → Meets d (Some k) j → ⊥
    no_step k j l m = no m.reads (none k l).0

    below : (j : ℕ) → d.writes j ≡ true → (j < n) ⊎ (n ≤ j) → j < n
    below j w (inl under) = under
    below j w (inr above) = absurd (no w (none j above).1)

    end_of : (p : Past) → PastAt d n p → (q : ℕ) → IsEnd d q → q ≡ p.last
    end_of p h q end = by_order (cases_order q p.last)
      where
        by_order : (q ≡ p.last) ⊎ ((q < p.last) ⊎ (p.last < q)) → q ≡ p.last
        by_order (inl same) = same
        by_order (inr (inl less)) = absurd (no h.last.writes (end.last p.last less))
        by_order (inr (inr more)) = absurd (no end.writes (h.last.last q more (below q end.writes (cases_lt q n))))

    meets_end : (p : Past) → PastAt d n p → (j : ℕ) → d.writes j ≡ true → Unordered d j None → (p.first ≤ j) × (j < p.last)
    meets_end p h j w (Beside_end q end less same) = let k : q ≡ p.last = end_of p h q end in (h.first j w (same ∙ (ap d.epoch k ∙ h.epoch)), omega arith)

    none_ends : (j : ℕ) → ((i : ℕ) → i < n → d.writes i ≡ false) → Unordered d j None → ⊥
    none_ends j all (Beside_end q end less same) = no end.writes (all q (below q end.writes (cases_lt q n)))

    last_of_all : (p : Past) → PastAt d n p → (j : ℕ) → p.last < j → (j < n) ⊎ (n ≤ j) → d.writes j ≡ false
    last_of_all p h j l (inl under) = h.last.last j l under
    last_of_all p h j l (inr above) = (none j above).1

    by_first : (p : Past) → PastAt d n p → (b : Bool) → (p.first == p.last) ≡ b → IsClash d n (option_map (λ j. record { reader = None; writer = j }) (if b then None else Some p.first))
    by_first p h true same = alone
      where
        alone : (reader : Option ℕ) (j : ℕ) → FromStep n reader → Meets d reader j → ⊥
        alone (Some k) j l m = no_step k j l m
        alone None j l m =
            let q : p.first ≡ p.last = eqb-true p.first p.last same in
            let r : (p.first ≤ j) × (j < p.last) = meets_end p h j m.writes m.how in
            omega (arith, r.0, r.1)
    by_first p h false other =
        let ne : p.first ≢ p.last = eqb-false p.first p.last other in
        record {
          meets = record { reads = tt; writes = h.writes; how = Beside_end p.last (record { writes = h.last.writes; last = λ j l. last_of_all p h j l (cases_lt j n) }) (omega (arith, h.within)) (h.first_epoch ∙ sym h.epoch) };
          least = λ reader j l m. least reader j l m;
        }
      where
        least : (reader : Option ℕ) (j : ℕ) → FromStep n reader → Meets d reader j → NotAfter None p.first reader j
        least None j l m = (meets_end p h j m.writes m.how).0
        least (Some k) j l m = no_step k j l m

    by_past : (past : Option Past) → PastIs d n past → IsClash d n (option_map (λ j. record { reader = None; writer = j }) (at_end past))
    by_past None h = alone
      where
        alone : (reader : Option ℕ) (j : ℕ) → FromStep n reader → Meets d reader j → ⊥
        alone (Some k) j l m = no_step k j l m
        alone None j l m = none_ends j h m.how
    by_past (Some p) h = by_first p h (p.first == p.last) refl

-- The walk over what is left of a story.
pub clash_right : (d : Doings) → Rising d → (n : ℕ) (past : Option Past) (story : List Access) → PastIs d n past → IsStory d n story → IsClash d n (clash_from past story)
clash_right d up n past [] h s = end_right d n past h s
clash_right d up n past (a ∷ story) h s = by_reads a.reads refl (clash_right d up (suc a.place) (after past a) story (after_right d a past up s.0.writes s.0.epoch now) s.1)
  where
    now : PastIs d a.place past
    now = past_on d n a.place past s.0.behind (λ j above below. (s.0.between j above below).1) h

    place_of : (k : ℕ) → n ≤ k → d.reads k ≡ true → (k ≡ a.place) ⊎ ((k < a.place) ⊎ (a.place < k)) → (k ≡ a.place) ⊎ (suc a.place ≤ k)
    place_of k l r (inl same) = inl same
    place_of k l r (inr (inl less)) = absurd (no r (s.0.between k l less).0)
    place_of k l r (inr (inr more)) = inr (omega arith)

    skip : (rest : Option Meeting) → ((j : ℕ) → Meets d (Some a.place) j → ⊥) → IsClash d (suc a.place) rest → IsClash d n rest
    skip None none right = alone
      where
        alone : (reader : Option ℕ) (j : ℕ) → FromStep n reader → Meets d reader j → ⊥
        alone None j l m = right None j tt m
        alone (Some k) j l m = by_place (place_of k l m.reads (cases_order k a.place))
          where
            by_place : (k ≡ a.place) ⊎ (suc a.place ≤ k) → ⊥
            by_place (inl same) = none j (subst (λ (x : ℕ). Meets d (Some x) j) same m)
            by_place (inr more) = right (Some k) j more m
    skip (Some best) none right = record { meets = right.meets; least = least }
      where
        least : (reader : Option ℕ) (j : ℕ) → FromStep n reader → Meets d reader j → NotAfter best.reader best.writer reader j
        least None j l m = right.least None j tt m
        least (Some k) j l m = by_place (place_of k l m.reads (cases_order k a.place))
          where
            by_place : (k ≡ a.place) ⊎ (suc a.place ≤ k) → NotAfter best.reader best.writer (Some k) j
            by_place (inl same) = absurd (none j (subst (λ (x : ℕ). Meets d (Some x) j) same m))
            by_place (inr more) = right.least (Some k) j more m

    by_writer : (found : Option ℕ) (rest : Option Meeting) → ClashAt d a.place found → IsClash d (suc a.place) rest → IsClash d n (or_on a.place found rest)
    by_writer None rest none right = skip rest none right
    by_writer (Some j) rest found right = record { meets = found.0; least = least }
      where
        least : (reader : Option ℕ) (i : ℕ) → FromStep n reader → Meets d reader i → NotAfter (Some a.place) j reader i
        least None i l m = tt
        least (Some k) i l m = by_place (place_of k l m.reads (cases_order k a.place))
          where
            by_place : (k ≡ a.place) ⊎ (suc a.place ≤ k) → (a.place < k) ⊎ ((a.place ≡ k) × (j ≤ i))
            by_place (inl same) = inr (sym same, found.1 i (subst (λ (x : ℕ). Meets d (Some x) i) same m))
            by_place (inr more) = inl (omega arith)

    by_reads : (b : Bool) → a.reads ≡ b → IsClash d (suc a.place) (clash_from (after past a) story) → IsClash d n (or_on a.place (if b then writer_for past a (next_writer story) else None) (clash_from (after past a) story))
    by_reads true e right = by_writer (writer_for past a (next_writer story)) (clash_from (after past a) story) (reader_right d a past (next_writer story) up (s.0.reads ∙ e) s.0.epoch now (next_is d a.place (suc a.place) story (omega arith) (λ j above below. absurd (omega arith)) s.1)) right
    by_reads false e right = skip (clash_from (after past a) story) (λ j m. no m.reads (s.0.reads ∙ e)) right

pub story_clash : (d : Doings) → Rising d → (story : List Access) → IsStory d 0 story → IsClash d 0 (clash_from None story)
story_clash d up story s = clash_right d up 0 None story (λ j below. absurd (omega arith)) s
