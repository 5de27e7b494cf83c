-- What the last state of the table says.
use Rattle.std.proofs.Common.{◌≡◌, ◌≢◌, ℕ, suc, ◌<◌, List, [], ◌∷◌, ◌++◌, map, length, Option, Some, ap, sym, ◌∙◌, subst, arith, ⊎_elim}
use Rattle.std.proofs.lemmas.List.{length-map}
use mathlib.Core.Option.{some, some-injective}
use mathlib.Core.List.{IsPrefix}
use lib.ListN.{get_elem?}
use Rattle.atomic_table.specs.Table.{State, Final, Seen}
use Rattle.atomic_table.specs.declared.shared.Seat.{Seat}
use Rattle.wg_turn.specs.declared.view.View.{View}
use Rattle.wg_turn.specs.declared.view.Stage.TheVariants.{Idle}
use Rattle.wg_entry.specs.declared.Entry.{Entry}
use Rattle.wg_turn.specs.declared.lock.TurnLock.{TurnLock}
use Rattle.wg_turn.specs.declared.lock.Pass.{Pass}
use Rattle.wg_turn.specs.Entries.{who_of, Stands, Lawful}
use Rattle.wg_turn.specs.Turns.{IsIn, Owns, width, waits_of, Kept}
use Rattle.wg_turn.specs.Passes.{opened_with, IsGathered, HasSeen, AreOwn, FrontsBegin, IsWhole, own_of, seen_since}
use Rattle.wg_turn.proofs.Lists.{prefix_trans, prefix_under, total_two}
use Rattle.wg_turn.proofs.Keeping.{fits, wide_of, waits_in}

pub same_one : {A : Type 0} (x y : A) → Some x ≡ Some y → x ≡ y
same_one x y e = cc

module _ {S E : Type 0} (who : E → ℕ) (stands : S → S → List E → Type 0) (ok : S → List E → Type 0) (opening : S) (callers : ℕ) where
  -- where one idle seat keeps all numbers, the state is at home
  pub home_at_last : (s : State (Option S) (View S E)) (r : Kept who stands ok opening callers s) (id : ℕ) (v : View S E) → get_elem? s.views id ≡ some v → v.stage ≡ Idle → width v ≡ callers → (x : S) × (s.homes ≡ some (Some x) ∷ []) × stands opening x r.log
  home_at_last s r id v at st all = ⊎_elim (λ h. (h.0, h.1, h.2))
      (λ h. let j = h.1.0 in let u = h.1.1 in let e = h.1.2 in let wait : waits_of u ≡ 1 = waits_in u.stage h.1.3 in
      let wide = wide_of who stands ok opening callers s r j u e (omega arith) in
      let ne : id ≢ j = λ q. let is : u ≡ v = some-injective u v (sym e ∙ ap (get_elem? s.views) (sym q) ∙ at) in subst IsIn st (subst (λ (z : View S E). IsIn z.stage) is h.1.3) in
      let two = total_two width s.views id j v u ne at e in let sum = r.widths in absurd (omega arith))
      r.placed

module _ {S U C R L : Type 0} (lock : TurnLock S U C R L) where
  are_own : (n : ℕ) (ps : List (Pass S U C R L)) (log : List (Entry C R)) → Owns who_of n (map own_of ps) log → AreOwn n ps log
  are_own n [] log h = tt
  are_own n (p ∷ ps) log h = (h.0, are_own (suc n) ps log h.1)

  fronts_begin : (history : S → List (Entry C R)) (ps : List (Pass S U C R L)) (since log whole : List (Entry C R)) → HasSeen ps since → IsPrefix since log → whole ≡ history (opened_with lock) ++ log → FrontsBegin history lock ps whole
  fronts_begin history [] since log whole h p is = tt
  fronts_begin history (q ∷ ps) since log whole h p is =
      let base : List (Entry C R) = history (opened_with lock) in let seen : List (Entry C R) = seen_since q in
      (subst (IsPrefix (base ++ seen)) (sym is) (prefix_under base seen log (prefix_trans seen since log h.0 p)), fronts_begin history ps since log whole h.1 p is)

  pub whole_of : (setup : S → U) (history : S → List (Entry C R)) (legal : U → List (Entry C R) → Type 0) (ps : List (Pass S U C R L)) (seat : Seat (Option S) (View S (Entry C R))) → IsGathered lock 0 ps seat
      → length ps ≡ lock.table.shared.key.callers → 0 < lock.table.shared.key.callers → (ws : List ℕ) (xs : List (Option S))
      → Final (Seen (Kept who_of (Stands setup history) (Lawful setup history legal) (opened_with lock) lock.table.shared.key.callers) seat.id seat.me.0) ws xs → (entries : ℕ) (found : Option S) → get_elem? ws 2 ≡ some entries
      → get_elem? xs 0 ≡ some found → (state : S) × (found ≡ Some state) × (setup state ≡ setup (opened_with lock)) × IsWhole history lock ps state entries
  whole_of setup history legal ps seat gathered long some_caller ws xs final entries found counted taken =
      let stands = Stands setup history in let ok = Lawful setup history legal in let y = opened_with lock in let k : ℕ = lock.table.shared.key.callers in
      let s = final.0 in let r = final.1.0 in let at = final.1.1 in let v = seat.me.0 in
      let wide : width v ≡ k = ap length gathered.owns ∙ length-map ps own_of ∙ long in
      let home = home_at_last who_of stands ok y k s r seat.id v at gathered.idle wide in let x : S = home.0 in
      let f = fits who_of stands ok y k s r seat.id v at (omega arith) in
      let own : Owns who_of 0 (map own_of ps) r.log = subst (λ (z : ℕ × List (List (Entry C R))). Owns who_of z.0 z.1 r.log) (λ i. (gathered.numbered i, gathered.owns i)) f.own in (
        x,
        some-injective found (Some x) (sym taken ∙ final.4 0 (Some x) (ap (λ h. get_elem? h 0) home.1)),
        home.2.0,
        record {
          log = r.log;
          history_is = home.2.1;
          fronts = fronts_begin history ps v.since r.log (history x) gathered.seen f.front home.2.1;
          own = are_own 0 ps r.log own;
          no_others = λ n le. r.named n (omega arith);
          count = some-injective entries (length r.log) (sym counted ∙ ap (λ w. get_elem? w 2) (sym final.2 ∙ r.words));
        },
      )
