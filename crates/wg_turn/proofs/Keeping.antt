-- The steps of a call keep the rule.
use Rattle.std.proofs.Common.{◌≡◌, ◌≢◌, ℕ, zero, suc, ◌+◌, ◌*◌, ◌%◌, ◌^◌, ◌<◌, ◌≤◌, List, [], ◌∷◌, ◌++◌, length, set, slice_set, slice_index, Option, Some, refl, ap, sym, ◌∙◌, subst, arith, inl, inr, ⊎_elim, mod-eq_of_lt, length-append}
use Rattle.std.specs.List.{sum_by}
use Rattle.std.proofs.lemmas.List.Sums.{sum_by-cons}
use mathlib.Core.Option.{some, none, some-injective, some-ne-none}
use mathlib.Core.Option as maybe
use mathlib.Core.List.{IsPrefix}
use mathlib.Core.Logic.{dite}
use mathlib.Core.Path.{Path}
use native.Mathlib.Decide.{ℕ_discrete}
use lib.ListN.{get_elem?}
use Rattle.atomic_table.specs.Table.{State, Act, keeps, takes, gives, step, Valid, homes_after, carried_after, Allows}
use Rattle.atomic_table.proofs.Lists.{at_set, set_else, set_again}
use Rattle.wg_turn.specs.declared.view.View.{View}
use Rattle.wg_turn.specs.declared.view.Stage.{Stage}
use Rattle.wg_turn.specs.declared.view.Stage.TheVariants.{Idle, Waiting, Inside, Counted}
use Rattle.wg_turn.specs.Entries.{made_by}
use Rattle.wg_turn.specs.Turns.{most_calls, waits, IsIn, Owns, grown, Seated, view_calls, width, waits_of, Keeps, waiting, inside, counted, idle, drew, AtStage, Fits, Placed, Kept, entered, tallied, passed_on, learned}
use Rattle.wg_turn.proofs.Lists.{prefix_self, prefix_more, total_set, made_else, owns_else, owns_mine}

-- a bound on each seat bounds the sums
total_bound : {V : Type 0} (f g : V → ℕ) (vs : List V) → ((j : ℕ) (u : V) → get_elem? vs j ≡ some u → f u ≤ most_calls * g u) → sum_by f vs ≤ most_calls * sum_by g vs
total_bound f g [] h = omega arith
total_bound f g (v ∷ vs) h = let a = h zero v refl in let b = total_bound f g vs (λ j u e. h (suc j) u e) in omega (arith, sum_by-cons f v vs, sum_by-cons g v vs)

some_one : {A : Type 0} (x y : A) → Some x ≡ Some y → x ≡ y
some_one x y e = cc

pub set_at : {A : Type 0} (l : List A) (i : ℕ) (a b : A) → get_elem? l i ≡ some a → get_elem? (set l i b) i ≡ some b
set_at [] i a b e = absurd (some-ne-none a (sym e))
set_at (x ∷ xs) zero a b e = refl
set_at (x ∷ xs) (suc i) a b e = set_at xs i a b e

one_entry : {A : Type 0} (x y : A) → Path (List A) (x ∷ []) (y ∷ []) → x ≡ y
one_entry x y e = cc

length_grown : {E : Type 0} (os : List (List E)) (e : E) → length (grown os e) ≡ length os
length_grown [] e = refl
length_grown (o ∷ os) e = refl

abbrev Front : {E : Type 0} → List E → List E → Type 0
Front xs ys = IsPrefix xs ys

pub waits_in : (st : Stage) → IsIn st → waits st ≡ 1
waits_in Idle h = absurd h
waits_in Waiting h = absurd h
waits_in Inside h = refl
waits_in Counted h = refl

module _ {S E : Type 0} (who : E → ℕ) (stands : S → S → List E → Type 0) (ok : S → List E → Type 0) (opening : S) (callers : ℕ) where
  abbrev pub V : Type 0
  V = View S E

  abbrev pub St : Type 0
  St = State (Option S) V

  abbrev pub Homes : Type 0
  Homes = List (maybe.Option (Option S))

  abbrev pub K : St → Type 0
  K = Kept who stands ok opening callers

  abbrev pub F : List E → ℕ → ℕ → Homes → V → Type 0
  F = Fits who stands ok opening callers

  abbrev pub At : List E → ℕ → ℕ → Homes → V → Stage → Type 0
  At = AtStage who stands ok opening callers

  abbrev pub P : List E → ℕ → ℕ → Homes → List V → Type 0
  P = Placed who stands ok opening callers

  -- a seat with a number is not spent
  pub fits : (s : St) (r : K s) (id : ℕ) (v : V) → get_elem? s.views id ≡ some v → 0 < width v → F r.log r.ticket r.serving s.homes v
  fits s r id v at wide = ⊎_elim (λ e. let none_kept : width v ≡ 0 = ap width e in absurd (omega arith)) (λ f. f) (r.each id v at)

  pub ticket_small : (s : St) (r : K s) → r.ticket ≤ 2 ^ 56
  ticket_small s r =
      let b = total_bound view_calls width s.views (λ j u e. ⊎_elim (λ p. let z : u.calls ≡ 0 = ap view_calls p in omega arith) (λ f. f.few_calls) (r.each j u e)) in
      let c = r.calls in let w = r.widths in let f = r.few in omega arith

  same_keeps : (v w a : V) (n : ℕ) → w ≡ a → width w ≡ width v → w.number ≡ v.number → Keeps a n → Keeps v n
  same_keeps v w a n e wide num k =
      let one : width w ≡ width a = ap width e in let two : w.number ≡ a.number = ap (λ (z : V). z.number) e in
      let lo : a.number ≤ n = k.0 in let hi : n < a.number + width a = k.1 in (omega arith, omega arith)

  -- the seat id moves from v to w, and with it the log, the words and the homes
  pub rebuilt : (s : St) (r : K s) (id : ℕ) (v w : V) (log : List E) (ticket serving : ℕ) (homes : Homes) (ws : List ℕ) → ws ≡ ticket ∷ serving ∷ length log ∷ [] → get_elem? s.views id ≡ some v
      → width w ≡ width v → w.number ≡ v.number → ticket + v.calls ≡ r.ticket + w.calls → serving + r.ticket + waits_of w ≡ r.serving + ticket + waits_of v
      → ((n : ℕ) → callers ≤ n → made_by who n log ≡ []) → P log ticket serving homes (set s.views id w) → F log ticket serving homes w
      → ((j : ℕ) (u : V) → j ≢ id → get_elem? s.views j ≡ some u → F r.log r.ticket r.serving s.homes u → F log ticket serving homes u)
      → ((j : ℕ) (u : V) → j ≢ id → get_elem? s.views j ≡ some u → 0 < waits_of u → 0 < waits_of w → w.ticket ≢ u.ticket) → K record { words = ws; homes = homes; views = set s.views id w }
  rebuilt s r id v w log ticket serving homes ws is at wide num c t named placed mine others alone = record {
    log = log;
    ticket = ticket;
    serving = serving;
    words = is;
    placed = placed;
    few = r.few;
    calls = (let h = total_set view_calls s.views id v w at in let k = r.calls in omega arith);
    widths = (let h = total_set width s.views id v w at in let k = r.widths in omega arith);
    waiting_seats = (let h = total_set waits_of s.views id v w at in let k = r.waiting_seats in omega arith);
    named = named;
    each = λ j u e. ⊎_elim (λ h. inr (subst (F log ticket serving homes) h.1 mine)) (λ h. ⊎_elim inl (λ f. inr (others j u h.0 h.1 f)) (r.each j u h.1)) (at_set s.views id j w u e);
    apart = λ i j n a b ea eb ka kb. ⊎_elim
        (λ h. ⊎_elim (λ k. h.0 ∙ sym k.0) (λ k. h.0 ∙ r.apart id j n v b at k.1 (same_keeps v w a n h.1 wide num ka) kb) (at_set s.views id j w b eb))
        (λ h. ⊎_elim (λ k. r.apart i id n a v h.1 at ka (same_keeps v w b n k.1 wide num kb) ∙ sym k.0) (λ k. r.apart i j n a b h.1 k.1 ka kb) (at_set s.views id j w b eb))
        (at_set s.views id i w a ea);
    turns = λ i j a b ea eb wa wb e. ⊎_elim
        (λ h. ⊎_elim (λ k. h.0 ∙ sym k.0)
        (λ k. absurd (alone j b k.0 k.1 wb (subst (λ (z : V). 0 < waits_of z) (sym h.1) wa) (ap (λ (z : V). z.ticket) h.1 ∙ e))) (at_set s.views id j w b eb))
        (λ h. ⊎_elim (λ k. absurd (alone i a h.0 h.1 wa (subst (λ (z : V). 0 < waits_of z) (sym k.1) wb) (ap (λ (z : V). z.ticket) k.1 ∙ sym e)))
        (λ k. r.turns i j a b h.1 k.1 wa wb e) (at_set s.views id j w b eb))
        (at_set s.views id i w a ea);
  }

  -- a seat that is not inside may move where the log, the served ticket and the homes stay
  pub placed_kept : (s : St) (id : ℕ) (v w : V) (log : List E) (t t' serving : ℕ) (homes : Homes) → get_elem? s.views id ≡ some v → ¬ IsIn v.stage → P log t serving homes s.views → P log t' serving homes (set s.views id w)
  placed_kept s id v w log t t' serving homes at out = ⊎_elim inl (λ h. inr (
    h.0,
    (h.1.0, h.1.1, set_else s.views id h.1.0 w (λ e. out (subst (λ (z : V). IsIn z.stage) (some-injective h.1.1 v (sym h.1.2 ∙ ap (get_elem? s.views) e ∙ at)) h.1.3)) ∙ h.1.2, h.1.3),
  ))

  -- a seat of another number, where the log stays
  restaged : (log : List E) (t t' sv sv' : ℕ) (hs hs' : Homes) (u : V) → F log t sv hs u → At log t' sv' hs' u u.stage → F log t' sv' hs' u
  restaged log t t' sv sv' hs hs' u f a = record { opened = f.opened; crew = f.crew; front = f.front; sound = f.sound; own = f.own; range = f.range; few_calls = f.few_calls; stage = a }

  abbrev Goes : St → ℕ → ℕ → Seated S E → (ℕ → ℕ) → (ℕ → Seated S E → Type 0) → List ℕ → Type 0
  Goes s i id me f then ws = (w : V) × (a : Act (Option S)) × Valid s.homes me.1 a
      × K record { words = slice_set ws i (f (slice_index ws i)); homes = homes_after s.homes me.1 a; views = set s.views id w } × then (slice_index ws i) (w, carried_after me.1 a)

  unmoved : (s : St) (r : K s) (id : ℕ) (v : V) → get_elem? s.views id ≡ some v → K record { words = r.ticket ∷ r.serving ∷ length r.log ∷ []; homes = s.homes; views = set s.views id v }
  unmoved s r id v at = subst (λ (z : List ℕ × List V). K record { words = z.0; homes = s.homes; views = z.1 }) (λ k. (r.words k, sym (set_again s.views id v at) k)) r

  waits_wide : (log : List E) (t sv : ℕ) (hs : Homes) (u : V) (st : Stage) → At log t sv hs u st → 0 < waits st → 0 < width u
  waits_wide log t sv hs u Idle a h = absurd (omega arith)
  waits_wide log t sv hs u Waiting a h = a.0
  waits_wide log t sv hs u Inside a h = a.0
  waits_wide log t sv hs u Counted a h = a.0

  -- a seat that waits has a number
  pub wide_of : (s : St) (r : K s) (j : ℕ) (u : V) → get_elem? s.views j ≡ some u → 0 < waits_of u → 0 < width u
  wide_of s r j u e h = ⊎_elim (λ p. let z : waits_of u ≡ 0 = ap waits_of p in absurd (omega arith)) (λ f. waits_wide r.log r.ticket r.serving s.homes u u.stage f.stage h) (r.each j u e)

  -- a draw

  drawn_stage : (log : List E) (t sv : ℕ) (hs : Homes) (u : V) (st : Stage) → At log t sv hs u st → At log (t + 1) sv hs u st
  drawn_stage log t sv hs u Idle a = tt
  drawn_stage log t sv hs u Waiting a = (a.0, a.1, (let h = a.2 in omega arith))
  drawn_stage log t sv hs u Inside a = (a.0, a.1, (let h = a.2 in omega arith), a.3, a.4, a.5)
  drawn_stage log t sv hs u Counted a = (a.0, a.1, (let h = a.2 in omega arith), a.3, a.4, a.5)

  -- the ticket of another seat that waits is below the next
  below : (log : List E) (t sv : ℕ) (hs : Homes) (u : V) (st : Stage) → At log t sv hs u st → 0 < waits st → u.ticket < t
  below log t sv hs u Idle a h = absurd (omega arith)
  below log t sv hs u Waiting a h = a.2
  below log t sv hs u Inside a h = let e = a.1 in let l = a.2 in omega arith
  below log t sv hs u Counted a h = let e = a.1 in let l = a.2 in omega arith

  pub draws : (n id : ℕ) (me : Seated S E) → me.0.stage ≡ Idle → 0 < width me.0 → me.0.calls < most_calls * width me.0 → Allows K n id me 0 (λ x. (x + 1) % 2 ^ 64) (drew (step n 0 1 0 none) me)
  draws n id me st wide few s r size at small =
      let v : V = me.0 in let t : ℕ = r.ticket in let w : V = waiting t v in let f = fits s r id v at wide in let low = ticket_small s r in
      let is : (t + 1) % 2 ^ 64 ≡ t + 1 = mod-eq_of_lt (omega arith) in
      let rest_v : waits_of v ≡ 0 = ap waits st in
      let behind : r.serving ≤ t = (let k = r.waiting_seats in omega arith) in
      subst (Goes s 0 id me (λ x. (x + 1) % 2 ^ 64) (drew (step n 0 1 0 none) me)) (sym r.words) (
        w,
        keeps,
        tt,
        rebuilt s r id v w r.log (t + 1) r.serving s.homes ((t + 1) % 2 ^ 64 ∷ r.serving ∷ length r.log ∷ []) (ap (λ (k : ℕ). k ∷ r.serving ∷ length r.log ∷ []) is) at refl refl (omega arith) (omega arith) r.named
            (placed_kept s id v w r.log t (t + 1) r.serving s.homes at (λ h. subst IsIn st h) r.placed)
            record { opened = f.opened; crew = f.crew; front = f.front; sound = record { told = f.sound.told; legal = f.sound.legal; seen = f.sound.seen; no_others = f.sound.no_others }; own = f.own; range = f.range; few_calls = omega arith; stage = (wide, behind, (let g : t < t + 1 = omega arith in g)) }
            (λ j u ne e g. restaged r.log t (t + 1) r.serving r.serving s.homes s.homes u g (drawn_stage r.log t r.serving s.homes u u.stage g.stage))
            (λ j u ne e a b same. let g = fits s r j u e (wide_of s r j u e a) in let l = below r.log t r.serving s.homes u u.stage g.stage a in omega arith),
        refl,
      )

  -- a load of the ticket that is served

  homes_out : (log : List E) (t sv : ℕ) (hs : Homes) (u : V) (st : Stage) → At log t sv hs u st → At log t sv (none ∷ []) u st
  homes_out log t sv hs u Idle a = tt
  homes_out log t sv hs u Waiting a = a
  homes_out log t sv hs u Inside a = (a.0, a.1, a.2, a.3, refl, a.5)
  homes_out log t sv hs u Counted a = (a.0, a.1, a.2, a.3, refl, a.5)

  in_ticket : (log : List E) (t sv : ℕ) (hs : Homes) (u : V) (st : Stage) → At log t sv hs u st → IsIn st → u.ticket ≡ sv
  in_ticket log t sv hs u Idle a h = absurd h
  in_ticket log t sv hs u Waiting a h = absurd h
  in_ticket log t sv hs u Inside a h = a.1
  in_ticket log t sv hs u Counted a h = a.1

  -- where a seat waits for the ticket that is served, the state is at home
  at_home : (s : St) (r : K s) (id : ℕ) (v : V) → get_elem? s.views id ≡ some v → v.stage ≡ Waiting → v.ticket ≡ r.serving → (x : S) × (s.homes ≡ some (Some x) ∷ []) × stands opening x r.log × (length r.log ≤ r.serving)
  at_home s r id v at st turn = ⊎_elim (λ h. h)
      (λ h. let j = h.1.0 in let u = h.1.1 in let e = h.1.2 in let wait : waits_of u ≡ 1 = waits_in u.stage h.1.3 in let mine : waits_of v ≡ 1 = ap waits st in
      let g = fits s r j u e (wide_of s r j u e (omega arith)) in
      let same = r.turns j id u v e at (omega arith) (omega arith) (in_ticket r.log r.ticket r.serving s.homes u u.stage g.stage h.1.3 ∙ sym turn) in
      let is : u ≡ v = some-injective u v (sym e ∙ ap (get_elem? s.views) same ∙ at) in
      absurd (subst IsIn st (subst (λ (z : V). IsIn z.stage) is h.1.3)))
      r.placed

  pub enters : (n id : ℕ) (me : Seated S E) → me.0.stage ≡ Waiting → 0 < width me.0 → Allows K n id me 1 (λ x. x) (entered who stands ok (step n 1 0 0 none) me)
  enters n id me st wide s r size at small = let v : V = me.0 in let then : ℕ → Seated S E → Type 0 = entered who stands ok (step n 1 0 0 none) me in
      subst (Goes s 1 id me (λ x. x) then) (sym r.words) (dite (ℕ_discrete r.serving v.ticket)
      (λ hit. let home = at_home s r id v at st (sym hit) in let x : S = home.0 in let f = fits s r id v at wide in let log : List E = r.log in
      let w : V = inside log v in let hs : s.homes ≡ some (Some x) ∷ [] = home.1 in let waited = subst (At log r.ticket r.serving s.homes v) st f.stage in
      let went : waits_of v ≡ 1 = ap waits st in (
        w,
        takes 0 (Some x),
        ap (λ (h : Homes). get_elem? h 0) hs,
        subst (λ (h : Homes). K record { words = r.ticket ∷ r.serving ∷ length log ∷ []; homes = slice_set h 0 none; views = set s.views id w }) (sym hs)
            (rebuilt s r id v w log r.ticket r.serving (none ∷ []) (r.ticket ∷ r.serving ∷ length log ∷ []) refl at refl refl refl (omega arith) r.named
            (inr (refl, (id, w, set_at s.views id v w at, tt)))
            record { opened = f.opened; crew = f.crew; front = f.front; sound = record { told = f.sound.told; legal = f.sound.legal; seen = f.sound.seen; no_others = f.sound.no_others }; own = f.own; range = f.range; few_calls = f.few_calls; stage = (wide, sym hit, (let lt = waited.2 in omega arith), refl, refl, home.3) }
            (λ j u ne e g. restaged log r.ticket r.ticket r.serving r.serving s.homes (none ∷ []) u g (homes_out log r.ticket r.serving s.homes u u.stage g.stage))
            (λ j u ne e a b same. ne (r.turns j id u v e at a (omega arith) (sym same)))),
        ((λ _. (x, log, refl, (λ y e. subst (λ (z : S). stands z x log) (some_one opening y (sym f.opened ∙ e)) home.2), f.front)), λ miss. absurd (miss hit)),
      ))
      (λ miss. (v, keeps, tt, unmoved s r id v at, ((λ hit. absurd (miss hit)), λ _. refl))))

  pub learns : (n id word : ℕ) (me : Seated S E) → word < 3 → 0 < width me.0 → Allows K n id me word (λ x. x) (learned who stands ok (step n word 0 0 none) me)
  learns n id zero me lt wide s r size at small = subst (Goes s 0 id me (λ x. x) (learned who stands ok (step n 0 0 0 none) me)) (sym r.words) (me.0, keeps, tt, unmoved s r id me.0 at, (refl, (fits s r id me.0 at wide).sound))
  learns n id (suc zero) me lt wide s r size at small = subst (Goes s 1 id me (λ x. x) (learned who stands ok (step n 1 0 0 none) me)) (sym r.words) (me.0, keeps, tt, unmoved s r id me.0 at, (refl, (fits s r id me.0 at wide).sound))
  learns n id (suc (suc zero)) me lt wide s r size at small = subst (Goes s 2 id me (λ x. x) (learned who stands ok (step n 2 0 0 none) me)) (sym r.words) (me.0, keeps, tt, unmoved s r id me.0 at, (refl, (fits s r id me.0 at wide).sound))
  learns n id (suc (suc (suc word))) me lt wide s r size at small = absurd (omega arith)

  -- a count

  not_inside : (log log' : List E) (t sv : ℕ) (hs : Homes) (u : V) (st : Stage) → At log t sv hs u st → (0 < waits st → u.ticket ≢ sv) → At log' t sv hs u st
  not_inside log log' t sv hs u Idle a ne = tt
  not_inside log log' t sv hs u Waiting a ne = a
  not_inside log log' t sv hs u Inside a ne = absurd (ne (omega arith) a.1)
  not_inside log log' t sv hs u Counted a ne = absurd (ne (omega arith) a.1)

  pub tallies : (n id : ℕ) (me : Seated S E) (noted : List E) (e : E) → noted ≡ e ∷ [] → me.0.stage ≡ Inside → width me.0 ≡ 1 → who e ≡ me.0.number → ok opening (me.0.held ++ e ∷ [])
      → Allows K n id me 2 (λ x. (x + 1) % 2 ^ 64) (tallied noted (step n 2 1 0 none) me)
  tallies n id me noted e said st one mine lawful s r size at small =
      let v : V = me.0 in let then : ℕ → Seated S E → Type 0 = tallied noted (step n 2 1 0 none) me in let w : V = counted e v in
      let wide : 0 < width v = omega arith in let f = fits s r id v at wide in let log : List E = r.log in let log' : List E = log ++ e ∷ [] in
      let in_turn = subst (At log r.ticket r.serving s.homes v) st f.stage in let held : v.held ≡ log = in_turn.3 in let low = ticket_small s r in let long = length-append log (e ∷ []) in
      let turn : v.ticket ≡ r.serving = in_turn.1 in let ahead : r.serving < r.ticket = in_turn.2 in let few : length log ≤ r.serving = in_turn.5 in
      let is : (length log + 1) % 2 ^ 64 ≡ length log' = mod-eq_of_lt (omega arith) ∙ omega arith in
      let grew : v.held ++ e ∷ [] ≡ log' = ap (λ (l : List E). l ++ e ∷ []) held in let waits_v : waits_of v ≡ 1 = ap waits st in
      let same_width : width w ≡ width v = length_grown v.owns e in
      let own : Owns who v.number (grown v.owns e) log' = owns_mine who v.number v.owns log e one mine f.own in
      let other : (j : ℕ) (u : V) → ¬ (j ≡ id) → get_elem? s.views j ≡ some u → 0 < waits_of u → u.ticket ≢ r.serving = λ j u ne a b c. ne (r.turns j id u v a at b (omega arith) (c ∙ sym turn)) in
      let strangers : (k : ℕ) → callers ≤ k → made_by who k log' ≡ [] = λ k le. made_else who k log e (let g : v.number + width v ≤ callers = f.range in λ q. absurd (omega arith)) ∙ r.named k le in
      subst (Goes s 2 id me (λ x. (x + 1) % 2 ^ 64) then) (sym r.words) (
        w,
        keeps,
        tt,
        rebuilt s r id v w log' r.ticket r.serving s.homes (r.ticket ∷ r.serving ∷ (length log + 1) % 2 ^ 64 ∷ []) (ap (λ (k : ℕ). r.ticket ∷ r.serving ∷ k ∷ []) is) at same_width refl refl (omega arith)
            strangers
            (inr (in_turn.4, (id, w, set_at s.views id v w at, tt)))
            record {
              opened = f.opened;
              crew = f.crew;
              front = subst (λ (l : List E). Front l log') (sym grew) (prefix_self log');
              sound = record {
                told = subst (λ (l : List E). Front v.since (l ++ e ∷ [])) (sym held) (prefix_more v.since log e f.front);
                legal = λ y q. subst (λ (z : S). ok z (v.held ++ e ∷ [])) (some_one opening y (sym f.opened ∙ q)) lawful;
                seen = subst (λ (l : List E). Owns who v.number (grown v.owns e) l) (sym grew) own;
                no_others = λ k le. subst (λ (l : List E). made_by who k l ≡ []) (sym grew) (strangers k (let g : v.callers ≡ callers = f.crew in omega arith));
              };
              own = own;
              range = (let g : v.number + width v ≤ callers = f.range in omega arith);
              few_calls = (let g : v.calls ≤ most_calls * width v = f.few_calls in omega arith);
              stage = ((let g : width w ≡ 1 = same_width ∙ one in omega arith), turn, ahead, grew, in_turn.4, (omega arith));
            }
            (λ j u ne a g. record {
              opened = g.opened;
              crew = g.crew;
              front = prefix_more u.since log e g.front;
              sound = g.sound;
              own = owns_else who u.number u.owns log e (λ k lo hi q. ne (r.apart j id k u v a at (lo, hi) (omega arith, omega arith))) g.own;
              range = g.range;
              few_calls = g.few_calls;
              stage = not_inside log log' r.ticket r.serving s.homes u u.stage g.stage (λ b. other j u ne a b);
            })
            (λ j u ne a b c same. other j u ne a b (sym same ∙ turn)),
        λ d told. ap (λ (q : E). (counted q v, me.1)) (one_entry e d (sym said ∙ told)),
      )

  -- the turn passes on

  next_turn : (log : List E) (t sv : ℕ) (hs hs' : Homes) (u : V) (st : Stage) → At log t sv hs u st → (0 < waits st → u.ticket ≢ sv) → At log t (sv + 1) hs' u st
  next_turn log t sv hs hs' u Idle a ne = tt
  next_turn log t sv hs hs' u Waiting a ne = let lo = a.1 in let other = ne (omega arith) in (a.0, omega arith, a.2)
  next_turn log t sv hs hs' u Inside a ne = absurd (ne (omega arith) a.1)
  next_turn log t sv hs hs' u Counted a ne = absurd (ne (omega arith) a.1)

  abbrev InTurn : List E → ℕ → ℕ → Homes → V → Type 0
  InTurn log t sv hs v = (v.ticket ≡ sv) × (sv < t) × (v.held ≡ log) × (hs ≡ none ∷ []) × (length log ≤ suc sv)

  in_turns : (log : List E) (t sv : ℕ) (hs : Homes) (v : V) (st : Stage) → At log t sv hs v st → IsIn st → InTurn log t sv hs v
  in_turns log t sv hs v Idle a h = absurd h
  in_turns log t sv hs v Waiting a h = absurd h
  in_turns log t sv hs v Inside a h = let few = a.5 in (a.1, a.2, a.3, a.4, omega arith)
  in_turns log t sv hs v Counted a h = (a.1, a.2, a.3, a.4, a.5)

  pub passes_on : (n id : ℕ) (me : Seated S E) (x : S) → IsIn me.0.stage → 0 < width me.0 → me.1 ≡ (0, Some x) ∷ [] → stands opening x me.0.held → Allows K n id me 1 (λ x. (x + 1) % 2 ^ 64) (passed_on who stands ok (step n 1 1 0 none) me)
  passes_on n id me x st wide has stood s r size at small =
      let v : V = me.0 in let then : ℕ → Seated S E → Type 0 = passed_on who stands ok (step n 1 1 0 none) me in let w : V = idle v in
      let f = fits s r id v at wide in let log : List E = r.log in let turn = in_turns log r.ticket r.serving s.homes v v.stage f.stage st in let low = ticket_small s r in
      let mine : v.ticket ≡ r.serving = turn.0 in let ahead : r.serving < r.ticket = turn.1 in let few : length log ≤ suc r.serving = turn.4 in
      let is : (r.serving + 1) % 2 ^ 64 ≡ r.serving + 1 = mod-eq_of_lt (omega arith) in let waits_v : waits_of v ≡ 1 = waits_in v.stage st in
      let back : Homes = some (Some x) ∷ [] in
      let other : (j : ℕ) (u : V) → ¬ (j ≡ id) → get_elem? s.views j ≡ some u → 0 < waits_of u → u.ticket ≢ r.serving = λ j u ne a b c. ne (r.turns j id u v a at b (omega arith) (c ∙ sym mine)) in
      let homes_is : homes_after s.homes me.1 gives ≡ back = ap (λ (cs : List (ℕ × Option S)). homes_after s.homes cs gives) has ∙ ap (λ (h : Homes). slice_set h 0 (some (Some x))) turn.3 in
      subst (Goes s 1 id me (λ x. (x + 1) % 2 ^ 64) then) (sym r.words) (
        w,
        gives,
        tt,
        subst (λ (h : Homes). K record { words = r.ticket ∷ (r.serving + 1) % 2 ^ 64 ∷ length log ∷ []; homes = h; views = set s.views id w }) (sym homes_is)
            (rebuilt s r id v w log r.ticket (r.serving + 1) back (r.ticket ∷ (r.serving + 1) % 2 ^ 64 ∷ length log ∷ []) (ap (λ (k : ℕ). r.ticket ∷ k ∷ length log ∷ []) is) at refl refl refl (omega arith) r.named
            (inl (x, refl, subst (stands opening x) turn.2 stood, omega arith))
            record { opened = f.opened; crew = f.crew; front = f.front; sound = record { told = f.sound.told; legal = f.sound.legal; seen = f.sound.seen; no_others = f.sound.no_others }; own = f.own; range = f.range; few_calls = f.few_calls; stage = tt }
            (λ j u ne e g. restaged log r.ticket r.ticket r.serving (r.serving + 1) s.homes back u g (next_turn log r.ticket r.serving s.homes back u u.stage g.stage (λ b. other j u ne e b)))
            (λ j u ne e a b same. absurd (omega arith))),
        (refl, f.sound),
      )
