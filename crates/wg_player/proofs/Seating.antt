-- Lists of bodies, from the last.
use Rattle.std.proofs.Common.{◌≡◌, ℕ, List, [], ◌∷◌, ◌++◌, suc, arith, slice_get, Some, true, All, map, flat_map, reverse, length, refl, ap, sym, ◌∙◌, subst, append_assoc}
use Rattle.std.proofs.lemmas.List.{reverse-append}
use Rattle.std.proofs.lemmas.List.Elements.{All-cons, All-head, All-tail}
use Rattle.wg_history.specs.Entries.{Entry}
use Rattle.wg_device.specs.declared.device.Device.{Device}
use Rattle.wg_player.proofs.Played.{can_meet}
use Rattle.wg_device.specs.Fronts.{DevicePass}
use Rattle.wg_script.specs.CallOf.{BoundCall}
use Rattle.wg_play.specs.declared.objects.Object.{Object}
use Rattle.wg_play.specs.Sights.{Sight, sight_of}
use Rattle.wg_player.specs.declared.lane.LaneRun.{LaneRun}
use Rattle.wg_device.specs.Fronts.{setup_of}
use Rattle.wg_player.specs.Moves.{PassMoves, lane_at, AllPassesAt, ArePassesOf, AreSoundIn, HaveAllMet}
use Rattle.wg_player.specs.Seats.{calls_of, first_of, sight_at, sight_with, BodyIsSeated, BodiesAreSeated, HaveRun, HasRun, HasRunPhase}

pub map_back : {A B : Type 0} (f : A → B) (whole ps ps_after : List B) (old left : List A) (b : A) → whole ≡ ps ++ map f (reverse old) → old ≡ left ++ b ∷ [] → ps_after ≡ ps ++ f b ∷ [] → whole ≡ ps_after ++ map f (reverse left)
map_back f whole ps ps_after old left b w is more =
    w ∙ (ap (λ l. ps ++ map f l) (ap reverse is ∙ reverse-append left (b ∷ [])) ∙ (sym (append_assoc ps (f b ∷ []) (map f (reverse left))) ∙ ap (λ l. l ++ map f (reverse left)) (sym more)))

pub flat_back : {A B : Type 0} (f : A → List B) (whole ms ms_after : List B) (old left : List A) (b : A) → whole ≡ ms ++ flat_map f (reverse old) → old ≡ left ++ b ∷ [] → ms_after ≡ ms ++ f b → whole ≡ ms_after ++ flat_map f (reverse left)
flat_back f whole ms ms_after old left b w is more =
    w ∙ (ap (λ l. ms ++ flat_map f l) (ap reverse is ∙ reverse-append left (b ∷ [])) ∙ (sym (append_assoc ms (f b) (flat_map f (reverse left))) ∙ ap (λ l. l ++ flat_map f (reverse left)) (sym more)))

pub all_back : {A : Type 0} (P : A → Type 0) (X : Type 0) (old left : List A) (b : A) → (All P (reverse old) → X) → old ≡ left ++ b ∷ [] → P b → All P (reverse left) → X
all_back P X old left b f is here h = f (subst (All P) (sym (ap reverse is ∙ reverse-append left (b ∷ []))) (All-cons P b (reverse left) here h))

-- two lists, element by element
abbrev Paired : {A : Type 0} → (A → A → Type 0) → List A → List A → Type 0
Paired R [] ys = ys ≡ []
Paired R (x ∷ xs) [] = ⊥
Paired R (x ∷ xs) (y ∷ ys) = R x y × Paired R xs ys

module _ {A : Type 0} (R : A → A → Type 0) where
  none_at : (xs : List A) → length xs ≡ 0 → xs ≡ []
  none_at [] e = refl
  none_at (x ∷ xs) e = absurd (omega arith)

  paired_of : (xs ys : List A) → length ys ≡ length xs → ((i : ℕ) (x : A) → slice_get xs i ≡ Some x → (y : A) × (slice_get ys i ≡ Some y) × R x y) → Paired R xs ys
  paired_of [] ys e f = none_at ys e
  paired_of (x ∷ xs) [] e f = absurd (omega arith)
  paired_of (x ∷ xs) (y ∷ ys) e f =
      let first = f 0 x refl in let same : y ≡ first.0 = cc (first.1) in
      (subst (λ (z : A). R x z) (sym same) first.2, paired_of xs ys (omega arith) (λ i z at. f (suc i) z at))

  paired_more : (xs ys : List A) (x y : A) → Paired R xs ys → R x y → Paired R (xs ++ x ∷ []) (ys ++ y ∷ [])
  paired_more [] ys x y p r = subst (λ l. Paired R (x ∷ []) (l ++ y ∷ [])) (sym p) (r, refl)
  paired_more (a ∷ xs) [] x y p r = absurd p
  paired_more (a ∷ xs) (b ∷ ys) x y p r = (p.0, paired_more xs ys x y p.1 r)

  paired_back : (xs ys : List A) → Paired R xs ys → Paired R (reverse xs) (reverse ys)
  paired_back [] ys p = subst (λ l. Paired R [] (reverse l)) (sym p) refl
  paired_back (x ∷ xs) [] p = absurd p
  paired_back (x ∷ xs) (y ∷ ys) p =
      let a = reverse-append (x ∷ []) xs in let b = reverse-append (y ∷ []) ys in
      subst (λ l. Paired R l (reverse (y ∷ ys))) (sym a) (subst (λ l. Paired R (reverse xs ++ x ∷ []) l) (sym b) (paired_more (reverse xs) (reverse ys) x y (paired_back xs ys p.1) p.0))

module _ {G : Type 0} (device : Device) (lanes : List (List BoundCall)) (others : List Object) where
  -- what a body sees once it has run
  sees_after : (p : DevicePass) (b c : LaneRun G) → BodyIsSeated device lanes others p b → HasRun b c → sight_of c.seen ≡ sight_with others lanes p.number c.seen.own.items
  sees_after p b c s r =
      let before : c.seen.others.now ≡ others = ap (λ x. x.now) r.2.0 ∙ ap (λ (x : Sight). x.others) s.3 in
      let slot : c.seen.first ≡ first_of (length others) lanes p.number = r.2.1 ∙ ap (λ (x : Sight). x.first) s.3 in
      ap (λ (o : List Object). record { others = o; first = c.seen.first; own = c.seen.own.items }) before
      ∙ ap (λ (f : ℕ). record { others = others; first = f; own = c.seen.own.items }) slot

  ran_one : (p : DevicePass) (b c : LaneRun G) → BodyIsSeated device lanes others p b → HasRun b c → c.through ≡ true
      → PassMoves (setup_of device.lock) device.lock (lane_at (sight_at others lanes p.number) (calls_of lanes p.number) 0) (lane_at (sight_with others lanes p.number c.seen.own.items) (calls_of lanes p.number) (length (calls_of lanes p.number))) p c.pass
  ran_one p b c s r through =
      let m = r.3 through in
      subst (λ (x : Sight). PassMoves (setup_of device.lock) device.lock (lane_at (sight_at others lanes p.number) (calls_of lanes p.number) 0) (lane_at x (calls_of lanes p.number) (length (calls_of lanes p.number))) p c.pass) (sees_after p b c s r)
      (subst (λ (x : Sight). PassMoves (setup_of device.lock) device.lock (lane_at x (calls_of lanes p.number) 0) (lane_at (sight_of c.seen) (calls_of lanes p.number) (length (calls_of lanes p.number))) p c.pass) s.3
      (subst (λ (cs : List BoundCall). PassMoves (setup_of device.lock) device.lock (lane_at (sight_of b.seen) cs 0) (lane_at (sight_of c.seen) cs (length cs)) p c.pass) s.2
      (subst (λ (d : Device). PassMoves (setup_of d.lock) d.lock (lane_at (sight_of b.seen) b.calls.now 0) (lane_at (sight_of c.seen) b.calls.now (length b.calls.now)) p c.pass) s.1
      (subst (λ (q : DevicePass). PassMoves (setup_of b.device.now.lock) b.device.now.lock (lane_at (sight_of b.seen) b.calls.now 0) (lane_at (sight_of c.seen) b.calls.now (length b.calls.now)) q c.pass) s.0 m))))

  have_run : (ps : List DevicePass) (bs cs : List (LaneRun G)) → BodiesAreSeated device lanes others ps bs → Paired HasRun bs cs → All (λ c. c.through ≡ true) cs
      → HaveRun device.lock lanes others ps (map (λ c. (c.pass, c.seen.own.items)) cs)
  have_run [] bs cs s r t = let none = subst (λ l. Paired HasRun l cs) s r in ap (map (λ c. (c.pass, c.seen.own.items))) none
  have_run (p ∷ ps) [] cs s r t = absurd s
  have_run (p ∷ ps) (b ∷ bs) [] s r t = absurd r
  have_run (p ∷ ps) (b ∷ bs) (c ∷ cs) s r t = (ran_one p b c s.0 r.0 (All-head (λ (x : LaneRun G). x.through ≡ true) c cs t), have_run ps bs cs s.1 r.1 (All-tail (λ (x : LaneRun G). x.through ≡ true) c cs t))

  pub all_ran : (ps : List DevicePass) (bs cs : List (LaneRun G)) → BodiesAreSeated device lanes others ps (reverse bs) → length cs ≡ length bs
      → ((i : ℕ) (b : LaneRun G) → slice_get bs i ≡ Some b → (c : LaneRun G) × (slice_get cs i ≡ Some c) × HasRun b c) → All (λ c. c.through ≡ true) (reverse cs)
      → HaveRun device.lock lanes others ps (map (λ c. (c.pass, c.seen.own.items)) (reverse cs))
  all_ran ps bs cs s same f t = have_run ps (reverse bs) (reverse cs) s (paired_back HasRun bs cs (paired_of HasRun bs cs same f)) t

firsts : {G : Type 0} (cs : List (LaneRun G)) → map (λ (b : DevicePass × List Object). b.0) (map (λ (c : LaneRun G). (c.pass, c.seen.own.items)) cs) ≡ map (λ c. c.pass) cs
firsts [] = refl
firsts (c ∷ cs) = ap (λ l. c.pass ∷ l) (firsts cs)

seconds : {G : Type 0} (cs : List (LaneRun G)) → flat_map (λ (b : DevicePass × List Object). b.1) (map (λ (c : LaneRun G). (c.pass, c.seen.own.items)) cs) ≡ flat_map (λ c. c.seen.own.items) cs
seconds [] = refl
seconds (c ∷ cs) = ap (λ l. c.seen.own.items ++ l) (seconds cs)

module _ {G : Type 0} (device : Device) (lanes : List (List BoundCall)) (objects : List Object) (front : List Entry) (ps : List DevicePass) (bs cs : List (LaneRun G)) (mids : List DevicePass) where
  pub phase_ready : AllPassesAt device.lock 0 ps front → HaveRun device.lock lanes objects ps (map (λ c. (c.pass, c.seen.own.items)) (reverse cs)) → mids ≡ map (λ c. c.pass) (reverse cs)
      → ArePassesOf device.lock mids × AreSoundIn device.lock mids
  phase_ready at ran is =
      let both = can_meet device.lock 0 lanes objects front ps (map (λ (c : LaneRun G). (c.pass, c.seen.own.items)) (reverse cs)) at ran in
      subst (λ l. ArePassesOf device.lock l × AreSoundIn device.lock l) (firsts (reverse cs) ∙ sym is) both

  pub phase_done : (made objects_after : List Object) (qs : List DevicePass) → HaveRun device.lock lanes objects ps (map (λ c. (c.pass, c.seen.own.items)) (reverse cs)) → mids ≡ map (λ c. c.pass) (reverse cs)
      → HaveAllMet device.lock mids qs → made ≡ flat_map (λ c. c.seen.own.items) (reverse cs) → objects_after ≡ objects ++ made → HasRunPhase device.lock lanes objects objects_after ps qs
  phase_done made objects_after qs ran is met made_is gathered = record {
    ends = map (λ (c : LaneRun G). (c.pass, c.seen.own.items)) (reverse cs);
    ran = ran;
    met = subst (λ l. HaveAllMet device.lock l qs) (is ∙ sym (firsts (reverse cs))) met;
    gathered = gathered ∙ ap (λ l. objects ++ l) (made_is ∙ sym (seconds (reverse cs)));
  }
