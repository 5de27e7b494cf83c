-- The passes of an opening.
use Rattle.std.proofs.Common.{◌≡◌, ℕ, suc, ◌+◌, ◌<◌, List, [], ◌∷◌, ◌++◌, length, replicate, Option, refl, ap, sym, ◌∙◌, subst, arith, append-nil}
use Rattle.std.proofs.lemmas.List.{length-replicate}
use Rattle.atomic_table.specs.declared.shared.Seat.{Seat}
use Rattle.wg_turn.specs.declared.view.View.{View}
use Rattle.wg_entry.specs.declared.Entry.{Entry}
use Rattle.wg_turn.specs.declared.lock.TurnLock.{TurnLock}
use Rattle.wg_turn.specs.declared.lock.Pass.{Pass}
use Rattle.wg_turn.specs.Turns.{first_view, dealt, undealt, width}
use Rattle.wg_turn.specs.Entries.{who_of, made_by}
use Rattle.wg_turn.specs.Passes.{opened_with, IsFresh, AreFresh, AreSound, FrontsAre, head_of}

module _ {S E : Type 0} where
  -- the first of k numbers, and the others
  pub deal_first : (y : S) (crew n k m : ℕ) (v : View S E) → v ≡ first_view y crew n (replicate k []) → k ≡ suc m → dealt v ≡ first_view y crew n ([] ∷ [])
  deal_first y crew n k m v e more = ap dealt e ∙ ap (λ (j : ℕ). dealt (first_view y crew n (replicate j []))) more

  pub more_left : (y : S) (crew n k : ℕ) (v : View S E) → v ≡ first_view y crew n (replicate k []) → 0 < k → 0 < width v
  more_left y crew n k v e some = let long : length {A = List E} (replicate k []) ≡ k = length-replicate k [] in let is : width v ≡ length {A = List E} (replicate k []) = ap width e in omega arith

  pub deal_others : (y : S) (crew n k m : ℕ) (v : View S E) → v ≡ first_view y crew n (replicate k []) → k ≡ suc m → undealt v ≡ first_view y crew (n + 1) (replicate m [])
  deal_others y crew n k m v e more = ap undealt e ∙ ap (λ (j : ℕ). undealt (first_view y crew n (replicate j []))) more

module _ {S U C R L : Type 0} (lock : TurnLock S U C R L) where
  pub fresh_one : (n : ℕ) (seat : Seat (Option S) (View S (Entry C R))) → seat.table_id ≡ lock.table.shared.table_id → seat.me ≡ (first_view (opened_with lock) lock.callers n ([] ∷ []), []) → IsFresh lock n record { seat = seat; number = n; calls = 0 }
  fresh_one n seat of e = (
    record { of = of; carries = ap (λ m. m.1) e; opened = ap (λ m. m.0.opening) e; crew = ap (λ m. m.0.callers) e; idle = ap (λ m. m.0.stage) e; numbered = ap (λ m. m.0.number) e; called = ap (λ m. m.0.calls) e; one = ap (λ m. length m.0.owns) e },
    refl,
    refl,
    ap (λ m. m.0.since) e,
    ap (λ m. head_of m.0.owns) e,
  )

  pub fresh_more : (n m : ℕ) (ps : List (Pass S U C R L)) (p : Pass S U C R L) → n + length ps ≡ m → AreFresh lock n ps → IsFresh lock m p → AreFresh lock n (ps ++ p ∷ [])
  fresh_more n m [] p is a b = (subst (λ (k : ℕ). IsFresh lock k p) (let e : m ≡ n = omega arith in e) b, tt)
  fresh_more n m (q ∷ ps) p is a b = (a.0, fresh_more (suc n) m ps p (omega arith) a.1 b)

  pub fresh_sound : (history : S → List (Entry C R)) (setup : S → U) (legal : U → List (Entry C R) → Type 0) → legal (setup (opened_with lock)) (history (opened_with lock)) → (n : ℕ) (ps : List (Pass S U C R L)) → AreFresh lock n ps
      → AreSound history setup legal lock ps
  fresh_sound history setup legal lawful n [] h = tt
  fresh_sound history setup legal lawful n (p ∷ ps) h = let y = opened_with lock in let since = h.0.3 in (
    record {
      lawful = subst (λ (l : List (Entry C R)). legal (setup y) (history y ++ l)) (sym since) (subst (legal (setup y)) (sym (append-nil (history y))) lawful);
      own = ap (made_by who_of p.number) since ∙ sym h.0.4;
      no_others = λ k le. ap (made_by who_of k) since;
    },
    fresh_sound history setup legal lawful (suc n) ps h.1,
  )

  pub fresh_fronts : (history : S → List (Entry C R)) (whole : List (Entry C R)) → history (opened_with lock) ≡ whole → (n : ℕ) (ps : List (Pass S U C R L)) → AreFresh lock n ps → FrontsAre history lock ps whole
  fresh_fronts history whole is n [] h = tt
  fresh_fronts history whole is n (p ∷ ps) h = (ap (λ (l : List (Entry C R)). history (opened_with lock) ++ l) h.0.3 ∙ append-nil (history (opened_with lock)) ∙ is, fresh_fronts history whole is (suc n) ps h.1)
