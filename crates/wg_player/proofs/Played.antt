-- What a phase added to the common front is just what its lanes give.
use Rattle.std.proofs.Common.{◌≡◌, ℕ, suc, ◌+◌, ◌≤◌, List, [], ◌∷◌, ◌++◌, map, drop, take, take_all, length, refl, ap, sym, ◌∙◌, subst, arith, append-nil, None}
use Rattle.wg_history.specs.Entries.{Entry}
use Rattle.wg_turn.specs.Passes.{IsSamePass, own_of, opened_with, seen_since}
use Rattle.wg_device.specs.Fronts.{Lock, DevicePass, front_in, setup_of, IsSoundIn}
use Rattle.wg_script.specs.CallOf.{BoundCall}
use Rattle.wg_play.specs.declared.objects.Object.{Object}
use Rattle.wg_play.specs.Turns.{entries_of_caller, GivesEvents, AllGive}
use Rattle.wg_play.specs.Sights.{Sight}
use Rattle.wg_play.specs.Lanes.{LaneState, settled, starts_from, next_at, next_event, count_made}
use Rattle.wg_play.specs.Play.{after_}
use Rattle.wg_play.proofs.Parts.{part_of}
use Rattle.wg_player.specs.Moves.{PassMoves, lane_at, MetAt, AllPassesAt, ArePassesOf, AreSoundIn}
use Rattle.wg_player.specs.Seats.{calls_of, first_of, sight_at, sight_with, HaveRun}
use Rattle.wg_player.proofs.Going.{goes_gives}

-- a lane is through after as many calls as it has
pub drop_all : {A : Type 0} (xs : List A) → drop (length xs) xs ≡ []
drop_all [] = refl
drop_all (x ∷ xs) = drop_all xs

ends : (sight : Sight) (calls : List BoundCall) → next_event (lane_at sight calls (length calls)) ≡ None
ends sight calls = ap (λ (l : List BoundCall). next_at (settled sight l)) (drop_all calls)

module _ (lock : Lock) (others : List Object) (front part : List Entry) (empty : (opened_with lock).history ≡ []) where
  pub seen_is : (p : DevicePass) (l : List Entry) → front_in lock p ≡ l → seen_since p ≡ l
  seen_is p l e = ap (λ (h : List Entry). h ++ seen_since p) (sym empty) ∙ e

  -- what a sound pass has of its number is its own
  mine : (p : DevicePass) (n : ℕ) (l : List Entry) → p.number ≡ n → front_in lock p ≡ l → IsSoundIn lock p → entries_of_caller n l ≡ own_of p
  mine p n l is at sound = subst (λ m. entries_of_caller m l ≡ own_of p) is (subst (λ (k : List Entry). entries_of_caller p.number k ≡ own_of p) (seen_is p l at) sound.own)

  -- the part's entries of one pass are those of its lane
  pub gives_one : (n : ℕ) (w v : LaneState) (p b q : DevicePass) → p.number ≡ n → front_in lock p ≡ front → IsSoundIn lock p
      → (m : PassMoves (setup_of lock) lock w v p b)
      → IsSamePass b q → IsSoundIn lock q → front_in lock q ≡ front ++ part → entries_of_caller n part ≡ m.entries
  gives_one n w v p b q is at sound m same sound_after at_after =
      part_of n front part (own_of p) (own_of q) m.entries (mine p n front is at sound) (mine q n (front ++ part) (same.0 ∙ (m.number ∙ is)) at_after sound_after) (same.2 ∙ m.grown)

  -- the lanes from n on, the first of which has its first slot here
  pub all_gave : (n first : ℕ) (lanes phase : List (List BoundCall)) (ps qs : List DevicePass) (bs : List (DevicePass × List Object))
      → ((k : ℕ) → calls_of phase k ≡ calls_of lanes (n + k)) → ((k : ℕ) → first_of first phase k ≡ first_of (length others) lanes (n + k)) → length phase ≤ length ps
      → AllPassesAt lock n ps front → HaveRun lock lanes others ps bs → MetAt lock (front ++ part) (map (λ (b : DevicePass × List Object). b.0) bs) qs
      → AllGive next_event (after_ (setup_of lock)) n (starts_from others first phase) part
  all_gave n first lanes [] ps qs bs rest slots le at run met = tt
  all_gave n first lanes (calls ∷ phase) [] qs bs rest slots le at run met = absurd (omega (arith, le))
  all_gave n first lanes (calls ∷ phase) (p ∷ ps) qs [] rest slots le at run met = absurd run
  all_gave n first lanes (calls ∷ phase) (p ∷ ps) [] (b ∷ bs) rest slots le at run met = absurd met
  all_gave n first lanes (calls ∷ phase) (p ∷ ps) (q ∷ qs) (b ∷ bs) rest slots le at run met =
      let m = run.0 in
      let n_is : n + 0 ≡ n = omega arith in
      let these : calls ≡ calls_of lanes p.number = rest 0 ∙ ap (calls_of lanes) (n_is ∙ sym at.0) in
      let slot : first ≡ first_of (length others) lanes p.number = slots 0 ∙ ap (first_of (length others) lanes) (n_is ∙ sym at.0) in
      let w : LaneState = lane_at (sight_at others lanes p.number) (calls_of lanes p.number) 0 in
      let v : LaneState = lane_at (sight_with others lanes p.number b.1) (calls_of lanes p.number) (length (calls_of lanes p.number)) in
      let es = gives_one n w v p b.0 q at.0 at.2 at.3 m met.1 met.2 met.3 in
      let gives = goes_gives (setup_of lock) w v m.entries m.goes (ends (sight_with others lanes p.number b.1) (calls_of lanes p.number)) in
      let here : LaneState = record { sight = record { others = others; first = first; own = [] }; left = calls } in (
        subst (λ (l : List Entry). GivesEvents next_event (after_ (setup_of lock)) here l) (sym es)
            (subst (λ (f : ℕ). GivesEvents next_event (after_ (setup_of lock)) (record { sight = record { others = others; first = f; own = [] }; left = calls }) m.entries) (sym slot)
            (subst (λ (cs : List BoundCall). GivesEvents next_event (after_ (setup_of lock)) (record { sight = sight_at others lanes p.number; left = cs }) m.entries) (sym these) gives)),
        all_gave (suc n) (first + count_made calls) lanes phase ps qs bs (λ k. let e : n + suc k ≡ suc n + k = omega arith in rest (suc k) ∙ ap (calls_of lanes) e)
            (λ k. let e : n + suc k ≡ suc n + k = omega arith in slots (suc k) ∙ ap (first_of (length others) lanes) e) (omega arith) at.4 run.1 met.5,
      )

-- the passes can meet
pub can_meet : (lock : Lock) (n : ℕ) (lanes : List (List BoundCall)) (others : List Object) (front : List Entry) (ps : List DevicePass) (bs : List (DevicePass × List Object)) → AllPassesAt lock n ps front → HaveRun lock lanes others ps bs
    → ArePassesOf lock (map (λ b. b.0) bs) × AreSoundIn lock (map (λ b. b.0) bs)
can_meet lock n lanes others front [] bs at run = subst (λ (l : List (DevicePass × List Object)). ArePassesOf lock (map (λ b. b.0) l) × AreSoundIn lock (map (λ b. b.0) l)) (sym run) (tt, tt)
can_meet lock n lanes others front (p ∷ ps) [] at run = absurd run
can_meet lock n lanes others front (p ∷ ps) (b ∷ bs) at run =
    let more = can_meet lock (suc n) lanes others front ps bs at.4 run.1 in ((run.0.of at.1, more.0), (run.0.sound at.3, more.1))

-- a slice that was lent whole and written back
pub whole_again : {A : Type 0} (new old : List A) (len : ℕ) → length new ≡ len → length old ≡ len → take len (new ++ drop (length new) old) ≡ new
whole_again new old len a b =
    let none : drop (length new) old ≡ [] = ap (λ k. drop k old) (a ∙ sym b) ∙ drop_all old in
    ap (λ l. take len (new ++ l)) none ∙ (ap (take len) (append-nil new) ∙ take_all len new (omega (arith, a)))
