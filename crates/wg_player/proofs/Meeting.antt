-- One pass that meets all others twice brings all to one front.
use Rattle.std.proofs.Common.{◌≡◌, ⊎_elim, List, [], ◌∷◌, ◌++◌, length, refl, ap, sym, ◌∙◌, subst, arith, append_assoc, append-nil, length-append}
use mathlib.Core.List.{IsPrefix}
use Rattle.wg_history.specs.Entries.{Entry}
use Rattle.wg_turn.specs.Passes.{IsPassOf, IsSamePass}
use Rattle.wg_device.specs.Fronts.{Lock, DevicePass, front_in, IsSoundIn}
use Rattle.wg_player.specs.Moves.{HaveMet, MeetsEach, ArePassesOf, MetAt, HaveAllMet}

module _ {A : Type 0} where
  prefix_then : (xs ys zs : List A) → IsPrefix xs ys → IsPrefix ys zs → IsPrefix xs zs
  prefix_then xs ys zs p q = (p.0 ++ q.0, sym (append_assoc xs p.0 q.0) ∙ (ap (λ w. w ++ q.0) p.1 ∙ q.1))

  prefix_self : (xs : List A) → IsPrefix xs xs
  prefix_self xs = ([], append-nil xs)

  none_at : (xs : List A) → length xs ≡ 0 → xs ≡ []
  none_at [] e = refl
  none_at (x ∷ xs) e = absurd (omega arith)

  -- two lists that begin each other are one
  prefix_both : (xs ys : List A) → IsPrefix xs ys → IsPrefix ys xs → xs ≡ ys
  prefix_both xs ys p q =
      let short : length p.0 ≡ 0 = omega (arith, ap length p.1, ap length q.1, length-append xs p.0, length-append ys q.0) in
      sym (append-nil xs) ∙ (ap (λ (w : List A). xs ++ w) (sym (none_at p.0 short)) ∙ p.1)

module _ (lock : Lock) where
  same_then : (a b c : DevicePass) → IsSamePass a b → IsSamePass b c → IsSamePass a c
  same_then a b c x y = (y.0 ∙ x.0, y.1 ∙ x.1, y.2 ∙ x.2)

  pub hub_grows : (h h2 : DevicePass) (ps qs : List DevicePass) → MeetsEach lock h ps h2 qs → IsPrefix (front_in lock h) (front_in lock h2)
  hub_grows h h2 [] qs t = subst (λ (z : DevicePass). IsPrefix (front_in lock h) (front_in lock z)) (sym t.0) (prefix_self (front_in lock h))
  hub_grows h h2 (p ∷ ps) qs t = prefix_then (front_in lock h) (front_in lock t.0) (front_in lock h2) t.4.begun_first (hub_grows t.0 h2 ps t.2 t.5)

  pub hub_same : (h h2 : DevicePass) (ps qs : List DevicePass) → IsPassOf lock h → IsSoundIn lock h → MeetsEach lock h ps h2 qs → IsPassOf lock h2 × IsSamePass h h2 × IsSoundIn lock h2
  hub_same h h2 [] qs of sound t = subst (λ (z : DevicePass). IsPassOf lock z × IsSamePass h z × IsSoundIn lock z) (sym t.0) (of, (refl, refl, refl), sound)
  hub_same h h2 (p ∷ ps) qs of sound t =
      let first = t.4.first in let more = hub_same t.0 h2 ps t.2 first.0 first.2 t.5 in (more.0, same_then h t.0 h2 first.1 more.1, more.2)

  pub passes_after : (h h2 : DevicePass) (ps qs : List DevicePass) → MeetsEach lock h ps h2 qs → ArePassesOf lock qs
  passes_after h h2 [] qs t = subst (ArePassesOf lock) (sym t.1) tt
  passes_after h h2 (p ∷ ps) qs t = subst (ArePassesOf lock) (sym t.3) (t.4.second.0, passes_after t.0 h2 ps t.2 t.5)

  -- a hub that has seen all stays at its front
  stays : (h p mid q : DevicePass) → HaveMet lock h p mid q → IsPrefix (front_in lock p) (front_in lock h) → front_in lock mid ≡ front_in lock h
  stays h p mid q m seen = ⊎_elim (λ e. e) (λ e. prefix_both (front_in lock mid) (front_in lock h) (subst (λ (l : List Entry). IsPrefix l (front_in lock h)) (sym e) seen) m.begun_first) m.one

  -- the second time all come to the hub's front
  pub second_time : (h h1 h2 : DevicePass) (ps qs rs : List DevicePass) → MeetsEach lock h ps h1 qs → (front : List Entry) → IsPrefix (front_in lock h1) front
      → (k : DevicePass) → front_in lock k ≡ front → MeetsEach lock k qs h2 rs → (front_in lock h2 ≡ front) × MetAt lock front ps rs
  second_time h h1 h2 [] qs rs t front up k at u =
      let v : MeetsEach lock k [] h2 rs = subst (λ l. MeetsEach lock k l h2 rs) t.1 u in
      (ap (front_in lock) v.0 ∙ at, subst (MetAt lock front []) (sym v.1) tt)
  second_time h h1 h2 (p ∷ ps) qs rs t front up k at u =
      let q = t.1 in let mid = t.0 in
      let v : MeetsEach lock k (q ∷ t.2) h2 rs = subst (λ l. MeetsEach lock k l h2 rs) t.3 u in
      let mid_up : IsPrefix (front_in lock mid) front = prefix_then (front_in lock mid) (front_in lock h1) front (hub_grows mid h1 ps t.2 t.5) up in
      let q_up : IsPrefix (front_in lock q) front = subst (λ (l : List Entry). IsPrefix l front) t.4.same mid_up in
      let q_under : IsPrefix (front_in lock q) (front_in lock k) = subst (λ (l : List Entry). IsPrefix (front_in lock q) l) (sym at) q_up in
      let still : front_in lock v.0 ≡ front = stays k q v.0 v.1 v.4 q_under ∙ at in
      let more = second_time mid h1 h2 ps t.2 v.2 t.5 front up v.0 still v.5 in
      let p_up : IsPrefix (front_in lock p) front = prefix_then (front_in lock p) (front_in lock mid) front t.4.begun_second mid_up in (
        more.0,
        subst (MetAt lock front (p ∷ ps)) (sym v.3)
            (v.4.second.0, same_then p q v.1 t.4.second.1 v.4.second.1, v.4.second.2, sym v.4.same ∙ still, p_up, more.1),
      )

  pub told_twice : (h h1 h2 : DevicePass) (ps qs rs : List DevicePass) → IsPassOf lock h → IsSoundIn lock h → MeetsEach lock h ps h1 qs → MeetsEach lock h1 qs h2 rs → HaveAllMet lock (h ∷ ps) (h2 ∷ rs)
  told_twice h h1 h2 ps qs rs of sound t u =
      let one = hub_same h h1 ps qs of sound t in let two = hub_same h1 h2 qs rs one.0 one.2 u in
      let all = second_time h h1 h2 ps qs rs t (front_in lock h1) (prefix_self (front_in lock h1)) h1 refl u in
      (front_in lock h1, (two.0, same_then h h1 h2 one.1 two.1, two.2, all.0, hub_grows h h1 ps qs t, all.1))
