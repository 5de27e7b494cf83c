-- The splits and joins of seats keep the rule.
use Rattle.std.proofs.Common.{◌≡◌, ◌≢◌, ℕ, zero, suc, ◌+◌, ◌*◌, ◌<◌, ◌≤◌, ◌⊎◌, List, [], ◌∷◌, ◌++◌, length, set, take, drop, replicate, Option, Some, None, refl, ap, sym, ◌∙◌, subst, arith, inl, inr, ⊎_elim, length-append}
use Rattle.std.proofs.lemmas.List.{length-replicate}
use Rattle.std.proofs.lemmas.List.Sums.{sum_by_push}
use mathlib.Core.Option.{some, some-injective, some-ne-none}
use mathlib.Core.List.{IsPrefix}
use lib.ListN.{get_elem?}
use native.Mathlib.Decide.{dec_lt}
use Rattle.atomic_table.specs.Table.{State, Splits, Joins, opening as opening_state}
use Rattle.atomic_table.proofs.Lists.{at_set, set_else, at_longer}
use Rattle.wg_turn.specs.declared.view.View.{View}
use Rattle.wg_turn.specs.declared.view.Stage.TheVariants.{Idle}
use Rattle.wg_turn.specs.Entries.{made_by}
use Rattle.wg_turn.specs.Turns.{most_calls, waits, IsIn, Owns, view_calls, width, waits_of, Keeps, first_view, spent_view, dealt, undealt, witness, both_views, longer, shorter, Sound, Fits, Placed, Kept}
use Rattle.wg_turn.proofs.Lists.{prefix_shorter, total_set, owns_between, owns_append, owns_first, owns_others, owns_none, by_length}
use Rattle.wg_turn.proofs.Keeping.{fits, placed_kept}

at_end : {A : Type 0} (l : List A) (a b : A) (j : ℕ) → get_elem? (l ++ a ∷ []) j ≡ some b → (get_elem? l j ≡ some b) ⊎ ((j ≡ length l) × (a ≡ b))
at_end [] a b zero e = inr (refl, some-injective a b e)
at_end [] a b (suc j) e = absurd (some-ne-none b (sym e))
at_end (x ∷ xs) a b zero e = inl e
at_end (x ∷ xs) a b (suc j) e = ⊎_elim inl (λ h. inr (ap suc h.0, h.1)) (at_end xs a b j e)

one_and_others : {A : Type 0} (os : List A) → 0 < length os → (length (take 1 os) ≡ 1) × (length (drop 1 os) + 1 ≡ length os)
one_and_others [] h = absurd (omega arith)
one_and_others (o ∷ os) h = (refl, omega arith)

one_opening : {A : Type 0} (x y : A) → Some x ≡ Some y → x ≡ y
one_opening x y e = cc

below_or : (n m : ℕ) → (n < m) ⊎ (m ≤ n)
below_or n m = elim (dec_lt n m) as (λ _. (n < m) ⊎ (m ≤ n)) [ yes p ↦ inl p | no p ↦ inr (omega arith) ]

module _ {S E : Type 0} (who : E → ℕ) (stands : S → S → List E → Type 0) (ok : S → List E → Type 0) (opening : S) (callers : ℕ) where
  abbrev V : Type 0
  V = View S E

  abbrev St : Type 0
  St = State (Option S) V

  abbrev K : St → Type 0
  K = Kept who stands ok opening callers

  abbrev F : (s : St) → K s → V → Type 0
  F s r = Fits who stands ok opening callers r.log r.ticket r.serving s.homes

  owns_empty : (n : ℕ) (os : List (List E)) (log : List E) → length os ≡ 0 → Owns who n os log
  owns_empty n [] log e = tt
  owns_empty n (o ∷ os) log e = absurd (omega arith)

  idle_waits : (v : V) → v.stage ≡ Idle → waits_of v ≡ 0
  idle_waits v e = ap waits e

  -- a seat that names its opening is not spent
  live : (s : St) (r : K s) (id : ℕ) (v : V) (y : S) → get_elem? s.views id ≡ some v → v.opening ≡ Some y → F s r v
  live s r id v y at opens = ⊎_elim (λ e. let bad : None ≡ Some y = ap (λ (z : V). z.opening) (sym e) ∙ opens in absurd (cc)) (λ f. f) (r.each id v at)

  abbrev Role : List V → ℕ → V → V → ℕ → V → Type 0
  Role views id a b j u = (((j ≡ id) × (a ≡ u)) ⊎ ((j ≢ id) × (get_elem? views j ≡ some u))) ⊎ ((j ≡ length (set views id a)) × (b ≡ u))

  role : (views : List V) (id : ℕ) (a b : V) (j : ℕ) (u : V) → get_elem? (set views id a ++ b ∷ []) j ≡ some u → Role views id a b j u
  role views id a b j u e = ⊎_elim (λ h. inl (at_set views id j a u h)) (λ h. inr h) (at_end (set views id a) b u j e)

  -- an idle seat gives way to two
  split_kept : (s : St) (r : K s) (id : ℕ) (v a b : V) → get_elem? s.views id ≡ some v → v.stage ≡ Idle → waits_of a ≡ 0 → waits_of b ≡ 0 → a.calls + b.calls ≡ v.calls → width a + width b ≡ width v
      → ((n : ℕ) → Keeps a n → Keeps v n) → ((n : ℕ) → Keeps b n → Keeps v n) → ((n : ℕ) → Keeps a n → ¬ Keeps b n) → F s r a → F s r b → K record { words = s.words; homes = s.homes; views = set s.views id a ++ b ∷ [] }
  split_kept s r id v a b at st ia ib calls wide ka kb apart fa fb =
      let iv : waits_of v ≡ 0 = idle_waits v st in record {
        log = r.log;
        ticket = r.ticket;
        serving = r.serving;
        words = r.words;
        placed = ⊎_elim inl (λ h. inr (h.0, (h.1.0, h.1.1, at_longer (set s.views id a) (b ∷ []) h.1.0 h.1.1 h.1.2, h.1.3))) (placed_kept who stands ok opening callers s id v a r.log r.ticket r.ticket r.serving s.homes at (λ h. subst IsIn st h) r.placed);
        few = r.few;
        calls = (let h = total_set view_calls s.views id v a at in let k = r.calls in sum_by_push view_calls (set s.views id a) b ∙ omega arith);
        widths = (let h = total_set width s.views id v a at in let k = r.widths in sum_by_push width (set s.views id a) b ∙ omega arith);
        waiting_seats = (let h = total_set waits_of s.views id v a at in let k = r.waiting_seats in let p = sum_by_push waits_of (set s.views id a) b in omega arith);
        named = r.named;
        each = λ j u e. ⊎_elim (λ h. ⊎_elim (λ k. inr (subst (F s r) k.1 fa)) (λ k. r.each j u k.1) h) (λ h. inr (subst (F s r) h.1 fb)) (role s.views id a b j u e);
        apart = λ i j n x y ex ey kx ky. ⊎_elim
            (λ h. ⊎_elim
            (λ k. ⊎_elim
            (λ p. ⊎_elim (λ q. k.0 ∙ sym q.0) (λ q. absurd (q.0 (sym (r.apart id j n v y at q.1 (ka n (has n x a k.1 kx)) ky)))) p)
            (λ p. absurd (apart n (has n x a k.1 kx) (has n y b p.1 ky))) (role s.views id a b j y ey))
            (λ k. ⊎_elim
            (λ p. ⊎_elim (λ q. absurd (k.0 (r.apart i id n x v k.1 at kx (ka n (has n y a q.1 ky))))) (λ q. r.apart i j n x y k.1 q.1 kx ky) p)
            (λ p. absurd (k.0 (r.apart i id n x v k.1 at kx (kb n (has n y b p.1 ky))))) (role s.views id a b j y ey)) h)
            (λ h. ⊎_elim
            (λ p. ⊎_elim (λ q. absurd (apart n (has n y a q.1 ky) (has n x b h.1 kx))) (λ q. absurd (q.0 (sym (r.apart id j n v y at q.1 (kb n (has n x b h.1 kx)) ky)))) p)
            (λ p. h.0 ∙ sym p.0) (role s.views id a b j y ey))
            (role s.views id a b i x ex);
        turns = λ i j x y ex ey wx wy e. r.turns i j x y (old_one s.views id a b i x ia ib ex wx) (old_one s.views id a b j y ia ib ey wy) wx wy e;
      } where
        has : (n : ℕ) (u w : V) → w ≡ u → Keeps u n → Keeps w n
        has n u w e k = subst (λ (z : V). Keeps z n) (sym e) k

        old_one : (views : List V) (id : ℕ) (a b : V) (j : ℕ) (u : V) → waits_of a ≡ 0 → waits_of b ≡ 0 → get_elem? (set views id a ++ b ∷ []) j ≡ some u → 0 < waits_of u → get_elem? views j ≡ some u
        old_one views id a b j u ia ib e h = ⊎_elim (λ p. ⊎_elim (λ q. let z : waits_of a ≡ waits_of u = ap waits_of q.1 in absurd (omega arith)) (λ q. q.1) p) (λ p. let z : waits_of b ≡ waits_of u = ap waits_of p.1 in absurd (omega arith)) (role views id a b j u e)

  idle_fits : (s : St) (r : K s) (v : V) → v.stage ≡ Idle → v.opening ≡ Some opening → v.callers ≡ callers → IsPrefix v.since r.log → Sound who stands ok v → Owns who v.number v.owns r.log → v.number + width v ≤ callers → v.calls ≤ most_calls * width v → F s r v
  idle_fits s r v st opened crew front sound own range few = record { opened = opened; crew = crew; front = front; sound = sound; own = own; range = range; few_calls = few; stage = subst (λ q. Rattle.wg_turn.specs.Turns.AtStage who stands ok opening callers r.log r.ticket r.serving s.homes v q) (sym st) tt }

  -- the seat keeps the first of its numbers, and a new seat has the others
  pub deals : (id : ℕ) (v : V) → v.stage ≡ Idle → 0 < width v → v.calls ≡ 0 → Splits K id v (dealt v) (undealt v)
  deals id v st wide none_made s r at =
      let f = fits who stands ok opening callers s r id v at wide in let parts = one_and_others v.owns wide in let range : v.number + width v ≤ callers = f.range in
      let one : length (take 1 v.owns) ≡ 1 = parts.0 in let others : length (drop 1 v.owns) + 1 ≡ length v.owns = parts.1 in
      split_kept s r id v (dealt v) (undealt v) at st (idle_waits v st) (idle_waits v st) (omega arith) (omega arith)
      (λ n k. let a = k.0 in let b : n < v.number + length (take 1 v.owns) = k.1 in (a, omega arith))
      (λ n k. let a : v.number + 1 ≤ n = k.0 in let b : n < v.number + 1 + length (drop 1 v.owns) = k.1 in (omega arith, omega arith))
      (λ n k h. let a : n < v.number + length (take 1 v.owns) = k.1 in let b : v.number + 1 ≤ n = h.0 in absurd (omega arith))
      (idle_fits s r (dealt v) st f.opened f.crew f.front record { told = f.sound.told; legal = f.sound.legal; seen = owns_first who v.number v.owns v.since f.sound.seen; no_others = f.sound.no_others } (owns_first who v.number v.owns r.log f.own) (omega arith) (omega arith))
      (idle_fits s r (undealt v) st f.opened f.crew f.front record { told = f.sound.told; legal = f.sound.legal; seen = owns_others who v.number v.owns v.since f.sound.seen; no_others = f.sound.no_others } (owns_others who v.number v.owns r.log f.own) (omega arith) (omega arith))

  -- a new seat has seen as much
  pub tells : (id : ℕ) (v : V) → v.stage ≡ Idle → 0 < width v → Splits K id v v (witness v)
  tells id v st wide s r at =
      let f = fits who stands ok opening callers s r id v at wide in let range : v.number + width v ≤ callers = f.range in
      split_kept s r id v v (witness v) at st (idle_waits v st) (idle_waits v st) (omega arith) (omega arith)
      (λ n k. k)
      (λ n k. let a : v.number ≤ n = k.0 in let b : n < v.number + 0 = k.1 in absurd (omega arith))
      (λ n k h. let a : v.number ≤ n = h.0 in let b : n < v.number + 0 = h.1 in absurd (omega arith))
      f
      (idle_fits s r (witness v) st f.opened f.crew f.front record { told = (v.since, refl); legal = f.sound.legal; seen = tt; no_others = f.sound.no_others } tt (omega arith) (omega arith))

  abbrev Taken : List V → ℕ → ℕ → V → ℕ → V → Type 0
  Taken views id other both j u = ((j ≡ other) × (spent_view ≡ u)) ⊎ (((j ≡ id) × (both ≡ u)) ⊎ ((j ≢ id) × (j ≢ other) × (get_elem? views j ≡ some u)))

  taken : (views : List V) (id other : ℕ) (both : V) (j : ℕ) (u : V) → get_elem? (set (set views id both) other spent_view) j ≡ some u → Taken views id other both j u
  taken views id other both j u e = ⊎_elim (λ h. inl h) (λ h. inr (⊎_elim (λ k. inl k) (λ k. inr (k.0, h.0, k.1)) (at_set views id j both u h.1))) (at_set (set views id both) other j spent_view u e)

  none_kept : (u : V) (n : ℕ) → spent_view ≡ u → ¬ Keeps u n
  none_kept u n e k = let z : 0 ≡ width u = ap width e in let y : 0 ≡ u.number = ap (λ (q : V). q.number) e in let a = k.0 in let b = k.1 in absurd (omega arith)

  still : (views : List V) (id other : ℕ) (both : V) (j : ℕ) (u : V) → waits_of both ≡ 0 → Taken views id other both j u → 0 < waits_of u → get_elem? views j ≡ some u
  still views id other both j u ib t h = ⊎_elim (λ p. let z : 0 ≡ waits_of u = ap waits_of p.1 in absurd (omega arith)) (λ p. ⊎_elim (λ q. let z : waits_of both ≡ waits_of u = ap waits_of q.1 in absurd (omega arith)) (λ q. q.2) p) t

  join_owns : (v w : V) → (width w ≡ 0) ⊎ (w.number ≡ v.number + width v) → (log : List E) → Owns who v.number v.owns log → Owns who w.number w.owns log → Owns who v.number (v.owns ++ w.owns) log
  join_owns v w next log a b = ⊎_elim (λ z. owns_append who v.number (v.number + width v) v.owns w.owns log refl a (owns_empty (v.number + width v) w.owns log z)) (λ z. owns_append who v.number w.number v.owns w.owns log (sym z) a b) next

  front_of_both : (s : St) (r : K s) (v w : V) → F s r v → F s r w → IsPrefix (longer w.since v.since) r.log
  front_of_both s r v w f g = by_length w.since v.since (λ l t. IsPrefix l r.log) (λ _. f.front) (λ _. g.front)

  -- a number of two seats that are joined is no third seat's
  crossed : (s : St) (r : K s) (id : ℕ) (v : V) (other : ℕ) (w : V) → get_elem? s.views id ≡ some v → get_elem? s.views other ≡ some w → (width w ≡ 0) ⊎ (w.number ≡ v.number + width v)
      → (n : ℕ) (u : V) (j : ℕ) → j ≢ id → j ≢ other → get_elem? s.views j ≡ some u → Keeps u n → ¬ Keeps (both_views v w) n
  crossed s r id v other w at at_w next n u j a b e k both =
      let lo : v.number ≤ n = both.0 in let hi : n < v.number + length (v.owns ++ w.owns) = both.1 in let sum = length-append v.owns w.owns in
      ⊎_elim
      (λ mine. absurd (a (r.apart j id n u v e at k (lo, mine))))
      (λ beyond. ⊎_elim (λ z. let z' : length w.owns ≡ 0 = z in absurd (omega arith)) (λ z. absurd (b (r.apart j other n u w e at_w k (omega arith, (let z' : w.number ≡ v.number + length v.owns = z in omega arith))))) next)
      (below_or n (v.number + width v))

  both_fit : (s : St) (r : K s) (v w : V) → v.stage ≡ Idle → 0 < width v → (width w ≡ 0) ⊎ (w.number ≡ v.number + width v) → F s r v → F s r w → F s r (both_views v w)
  both_fit s r v w sv wide next f g =
      let sum = length-append v.owns w.owns in let rv : v.number + width v ≤ callers = f.range in let rw' : w.number + width w ≤ callers = g.range in
      let cv : v.calls ≤ most_calls * width v = f.few_calls in let cw : w.calls ≤ most_calls * width w = g.few_calls in
      idle_fits s r (both_views v w) sv f.opened f.crew (front_of_both s r v w f g)
      record {
        told = by_length w.since v.since (λ l t. IsPrefix t l) (λ le. prefix_shorter w.since v.since r.log g.front f.front le) (λ le. prefix_shorter v.since w.since r.log f.front g.front le);
        legal = λ y o. by_length w.since v.since (λ l t. ok y l) (λ _. f.sound.legal y o) (λ _. subst (λ (z : S). ok z w.since) (one_opening opening y (sym f.opened ∙ o)) (g.sound.legal opening g.opened));
        no_others = λ n le. by_length w.since v.since (λ l t. made_by who n l ≡ []) (λ _. f.sound.no_others n le) (λ _. g.sound.no_others n (let a : v.callers ≡ callers = f.crew in let b : w.callers ≡ callers = g.crew in omega arith));
        seen = join_owns v w next (longer w.since v.since)
            (by_length w.since v.since (λ l t. Owns who v.number v.owns l) (λ _. f.sound.seen) (λ le. owns_between who v.number v.owns v.since w.since r.log (prefix_shorter v.since w.since r.log f.front g.front le) g.front f.sound.seen f.own))
            (by_length w.since v.since (λ l t. Owns who w.number w.owns l) (λ le. owns_between who w.number w.owns w.since v.since r.log (prefix_shorter w.since v.since r.log g.front f.front le) f.front g.sound.seen g.own) (λ _. g.sound.seen));
      }
      (join_owns v w next r.log f.own g.own)
      (⊎_elim (λ z. let z' : length w.owns ≡ 0 = z in omega arith) (λ z. let z' : w.number ≡ v.number + length v.owns = z in omega arith) next)
      (omega arith)

  -- a seat takes in another, whose numbers follow its own, or which has none
  pub joins : (id : ℕ) (v : V) (other : ℕ) (w : V) (y : S) → v.stage ≡ Idle → w.stage ≡ Idle → 0 < width v → w.opening ≡ Some y → (width w ≡ 0) ⊎ (w.number ≡ v.number + width v) → Joins K id v other w (both_views v w) spent_view
  joins id v other w y sv sw wide opens next s r at apart there =
      let both : V = both_views v w in let spent : V = spent_view in
      let at_w : get_elem? s.views other ≡ some w = sym (set_else s.views id other both apart) ∙ there in
      let f = fits who stands ok opening callers s r id v at wide in let g = live s r other w y at_w opens in
      let sum : width both ≡ width v + width w = length-append v.owns w.owns in
      let iv : waits_of v ≡ 0 = idle_waits v sv in let iw : waits_of w ≡ 0 = idle_waits w sw in
      let first : List V = set s.views id both in
      let roles : (j : ℕ) (u : V) → get_elem? (set first other spent) j ≡ some u → Taken s.views id other both j u = taken s.views id other both in
      record {
        log = r.log;
        ticket = r.ticket;
        serving = r.serving;
        words = r.words;
        placed = placed_kept who stands ok opening callers (record { words = s.words; homes = s.homes; views = first }) other w spent r.log r.ticket r.ticket r.serving s.homes there (λ h. subst IsIn sw h)
            (placed_kept who stands ok opening callers s id v both r.log r.ticket r.ticket r.serving s.homes at (λ h. subst IsIn sv h) r.placed);
        few = r.few;
        calls = (let h = total_set view_calls s.views id v both at in let k = total_set view_calls first other w spent there in let p = r.calls in omega arith);
        widths = (let h = total_set width s.views id v both at in let k = total_set width first other w spent there in let p = r.widths in omega arith);
        waiting_seats = (let h = total_set waits_of s.views id v both at in let k = total_set waits_of first other w spent there in let p = r.waiting_seats in omega arith);
        named = r.named;
        each = λ j u e. ⊎_elim (λ h. inl (sym h.1)) (λ h. ⊎_elim (λ k. inr (subst (F s r) k.1 (both_fit s r v w sv wide next f g))) (λ k. r.each j u k.2) h) (roles j u e);
        apart = λ i j n a b ea eb ka kb. ⊎_elim
            (λ h. absurd (none_kept a n h.1 ka))
            (λ h. ⊎_elim
            (λ k. absurd (none_kept b n k.1 kb))
            (λ k. ⊎_elim
            (λ p. ⊎_elim (λ q. p.0 ∙ sym q.0) (λ q. absurd (crossed s r id v other w at at_w next n b j q.0 q.1 q.2 kb (subst (λ (z : V). Keeps z n) (sym p.1) ka))) k)
            (λ p. ⊎_elim (λ q. absurd (crossed s r id v other w at at_w next n a i p.0 p.1 p.2 ka (subst (λ (z : V). Keeps z n) (sym q.1) kb))) (λ q. r.apart i j n a b p.2 q.2 ka kb) k)
            h)
            (roles j b eb))
            (roles i a ea);
        turns = λ i j a b ea eb wa wb e. r.turns i j a b (still s.views id other both i a iv (roles i a ea) wa) (still s.views id other both j b iv (roles j b eb) wb) wa wb e;
      }

  -- the table at the opening
  pub opens : callers ≤ 65536 → stands opening opening [] → ok opening [] → K (opening_state (0 ∷ 0 ∷ 0 ∷ []) (Some opening ∷ []) (first_view opening callers 0 (replicate callers [])))
  opens few stood lawful =
      let wide : length {A = List E} (replicate callers []) ≡ callers = length-replicate callers [] in record {
        log = [];
        ticket = 0;
        serving = 0;
        words = refl;
        placed = inl (opening, refl, stood, omega arith);
        few = few;
        calls = refl;
        widths = omega arith;
        waiting_seats = refl;
        named = λ n le. refl;
        each = λ j u e. inr (alone j u e (λ z. Fits who stands ok opening callers [] 0 0 (some (Some opening) ∷ []) z) record {
          opened = refl;
          crew = refl;
          front = ([], refl);
          sound = record { told = ([], refl); legal = λ y o. subst (λ (z : S). ok z []) (one_opening opening y o) lawful; seen = owns_none who 0 callers; no_others = λ n le. refl };
          own = owns_none who 0 callers;
          range = omega arith;
          few_calls = omega arith;
          stage = tt;
        });
        apart = λ i j n v w ei ej kv kw. first_place i v ei ∙ sym (first_place j w ej);
        turns = λ i j v w ei ej a b e. first_place i v ei ∙ sym (first_place j w ej);
      } where
        alone : (j : ℕ) (u : V) → get_elem? (first_view opening callers 0 (replicate callers []) ∷ []) j ≡ some u → (Q : V → Type 0) → Q (first_view opening callers 0 (replicate callers [])) → Q u
        alone zero u e Q q = subst Q (some-injective _ u e) q
        alone (suc j) u e Q q = absurd (some-ne-none u (sym e))

        first_place : (j : ℕ) (u : V) → get_elem? (first_view opening callers 0 (replicate callers []) ∷ []) j ≡ some u → j ≡ 0
        first_place zero u e = refl
        first_place (suc j) u e = absurd (some-ne-none u (sym e))
