-- The passes of a close.
use Rattle.std.proofs.Common.{◌≡◌, ℕ, suc, ◌+◌, List, [], ◌∷◌, ◌++◌, length, Option, refl, ◌∙◌, arith}
use mathlib.Core.List.{IsPrefix}
use Rattle.atomic_table.specs.declared.shared.Seat.{Seat}
use Rattle.wg_turn.specs.declared.view.View.{View}
use Rattle.wg_turn.specs.declared.view.Stage.TheVariants.{Idle}
use Rattle.wg_entry.specs.declared.Entry.{Entry}
use Rattle.wg_turn.specs.declared.lock.TurnLock.{TurnLock}
use Rattle.wg_turn.specs.declared.lock.Pass.{Pass}
use Rattle.wg_turn.specs.Passes.{IsPassOf, AreInOrder, IsGathered, HasSeen, seen_since, head_of}
use Rattle.wg_turn.proofs.Lists.{prefix_self, prefix_trans}

one_list : {A : Type 0} (os : List (List A)) → length os ≡ 1 → os ≡ head_of os ∷ []
one_list [] e = absurd (omega arith)
one_list (o ∷ []) e = refl
one_list (o ∷ p ∷ os) e = absurd (omega arith)

module _ {S U C R L : Type 0} (lock : TurnLock S U C R L) where
  pub in_order_at : (n m : ℕ) (ps : List (Pass S U C R L)) (p : Pass S U C R L) (rest : List (Pass S U C R L)) → n + length ps ≡ m → AreInOrder lock n (ps ++ p ∷ rest) → IsPassOf lock p × (p.number ≡ m)
  in_order_at n m [] p rest is h = (h.0, h.1 ∙ (let e : n ≡ m = omega arith in e))
  in_order_at n m (q ∷ ps) p rest is h = in_order_at (suc n) m ps p rest (omega arith) h.2

  pub gathered_one : (n : ℕ) (p : Pass S U C R L) → IsPassOf lock p → p.number ≡ n → IsGathered lock n (p ∷ []) p.seat
  gathered_one n p r is = record { of = r.of; carries = r.carries; opened = r.opened; idle = r.idle; numbered = r.numbered ∙ is; owns = one_list p.seat.me.0.owns r.one; seen = (prefix_self (seen_since p), tt) }

  seen_more : (ps : List (Pass S U C R L)) (xs ys : List (Entry C R)) → IsPrefix xs ys → HasSeen ps xs → HasSeen ps ys
  seen_more [] xs ys p h = tt
  seen_more (q ∷ ps) xs ys p h = (prefix_trans (seen_since q) xs ys h.0 p, seen_more ps xs ys p h.1)

  pub gathered_more : (n : ℕ) (p : Pass S U C R L) (ps : List (Pass S U C R L)) (others seat : Seat (Option S) (View S (Entry C R))) → IsPassOf lock p → p.number ≡ n → IsGathered lock (n + 1) ps others
      → seat.table_id ≡ p.seat.table_id → seat.me.1 ≡ p.seat.me.1 → seat.me.0.stage ≡ Idle → seat.me.0.opening ≡ p.seat.me.0.opening → seat.me.0.number ≡ p.seat.me.0.number
      → seat.me.0.owns ≡ p.seat.me.0.owns ++ others.me.0.owns → IsPrefix p.seat.me.0.since seat.me.0.since → IsPrefix others.me.0.since seat.me.0.since → IsGathered lock n (p ∷ ps) seat
  gathered_more n p ps others seat r is h of carries idle opened number owns here there = record {
    of = of ∙ r.of;
    carries = carries ∙ r.carries;
    opened = opened ∙ r.opened;
    idle = idle;
    numbered = number ∙ r.numbered ∙ is;
    owns = owns ∙ (λ i. one_list p.seat.me.0.owns r.one i ++ h.owns i);
    seen = (here, seen_more ps others.me.0.since seat.me.0.since there h.seen);
  }
