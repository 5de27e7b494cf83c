-- Of lists of numbers that begin one another only one is legal.
use Rattle.std.proofs.Common.{◌≡◌, ◌⊎◌, inl, inr, ⊎_elim, ℕ, Bool, true, false, List, [], ◌∷◌, ◌++◌, reverse, map, Option, Some, None, option_map, option_and_then, if◌then◌else◌, refl, ap, sym, ◌∙◌, append-nil}
use mathlib.Core.List.{IsPrefix}
use Rattle.wg_history.specs.declared.events.Event.{Event}
use Rattle.wg_history.specs.declared.events.Setup.{Setup}
use Rattle.wg_history.specs.Entries.{Entry, Past}
use Rattle.wg_trace.specs.declared.replies.Reply.{Reply}
use Rattle.wg_script.specs.CallOf.{BoundCall}
use Rattle.wg_play.specs.Turns.{Midway, phase_by, through, turned, lane_at}
use Rattle.wg_play.specs.declared.objects.Object.{Object}
use Rattle.wg_play.specs.Lanes.{starts, gathered, next_event}
use Rattle.wg_play.specs.Play.{after_, phases_by, Play}

module _ {W : Type 0} (next : W → Option Event) (after : W → Reply → W) where
  abbrev Left : Type 0
  Left = Midway next after × List ℕ

  abbrev ended : Midway next after → List ℕ → Option Left
  ended s ns = Some (s, ns)

  left_more : (a b : Left) (ms : List ℕ) → Some a ≡ Some b → ended a.0 (a.1 ++ ms) ≡ ended b.0 (b.1 ++ ms)
  left_more a b ms h = let same : a ≡ b = cc (h) in ap (λ (p : Left). ended p.0 (p.1 ++ ms)) same

  at_end : (b : Bool) (s t : Midway next after) (r ms : List ℕ) (other : Option Left) → (if b then ended s [] else None) ≡ ended t r → (if b then ended s ms else other) ≡ ended t (r ++ ms)
  at_end true s t r ms other h = left_more (s, []) (t, r) ms h
  at_end false s t r ms other h = absurd (cc (h))

  at_turn : (f g : Midway next after → Option Left) (b : Bool) (o : Option (Midway next after)) (s t : Midway next after) (ns r ms : List ℕ) → ((u : Midway next after) → f u ≡ ended t r → g u ≡ ended t (r ++ ms))
      → (if b then ended s ns else option_and_then f o) ≡ ended t r → (if b then ended s (ns ++ ms) else option_and_then g o) ≡ ended t (r ++ ms)
  at_turn f g true o s t ns r ms ih h = left_more (s, ns) (t, r) ms h
  at_turn f g false None s t ns r ms ih h = absurd (cc (h))
  at_turn f g false (Some u) s t ns r ms ih h = ih u h

  -- numbers that a phase doesn't need are left
  phase_more : (setup : Setup) (ns ms : List ℕ) (s t : Midway next after) (r : List ℕ) → phase_by next after setup ns s ≡ ended t r → phase_by next after setup (ns ++ ms) s ≡ ended t (r ++ ms)
  phase_more setup [] [] s t r h = at_end (through next after s.lanes) s t r [] None h
  phase_more setup [] (m ∷ ms) s t r h = at_end (through next after s.lanes) s t r (m ∷ ms) (option_and_then (phase_by next after setup ms) (turned next after setup s m (lane_at next after s.lanes m))) h
  phase_more setup (n ∷ ns) ms s t r h = at_turn (phase_by next after setup ns) (phase_by next after setup (ns ++ ms)) (through next after s.lanes) (turned next after setup s n (lane_at next after s.lanes n)) s t (n ∷ ns) r ms (λ u k. phase_more setup ns ms u t r k) h

module _ (setup : Setup) where
  abbrev Ends : Type 0
  Ends = Midway next_event (after_ setup) × List ℕ

  by_phase : (f : Ends → Option Past) (o more : Option Ends) (m : ℕ) (ms : List ℕ) (h : Past)
      → ((p : Ends) → o ≡ Some p → more ≡ Some (p.0, p.1 ++ m ∷ ms)) → ((p : Ends) → f p ≡ Some h → f (p.0, p.1 ++ m ∷ ms) ≡ None)
      → option_and_then f o ≡ Some h → option_and_then f more ≡ None
  by_phase f None more m ms h grows ih is = absurd (cc (is))
  by_phase f (Some p) more m ms h grows ih is = ap (option_and_then f) (grows p refl) ∙ ih p is

  -- a list that goes on after a legal one is not legal
  pub phases_none : (phases : List (List (List BoundCall))) (objects : List Object) (ns : List ℕ) (m : ℕ) (ms : List ℕ) (past h : Past) → phases_by setup phases objects ns past ≡ Some h → phases_by setup phases objects (ns ++ m ∷ ms) past ≡ None
  phases_none [] objects [] m ms past h is = refl
  phases_none [] objects (n ∷ ns) m ms past h is = absurd (cc (is))
  phases_none (phase ∷ phases) objects ns m ms past h is =
      let st : Midway next_event (after_ setup) = record { past = past; lanes = starts objects phase } in
      by_phase (λ p. phases_by setup phases (gathered objects p.0.lanes) p.1 p.0.past) (phase_by next_event (after_ setup) setup ns st) (phase_by next_event (after_ setup) setup (ns ++ m ∷ ms) st) m ms h
      (λ p e. phase_more next_event (after_ setup) setup ns (m ∷ ms) st p.0 p.1 e)
      (λ p e. phases_none phases (gathered objects p.0.lanes) p.1 m ms p.0.past h e) is

  some_past : (o : Option Past) (h : List Entry) → option_map reverse o ≡ Some h → (p : Past) × (o ≡ Some p)
  some_past None h is = absurd (cc (is))
  some_past (Some p) h is = (p, refl)

  by_rest : (phases : List (List (List BoundCall))) (ns rest ms : List ℕ) (h k : List Entry) → ns ++ rest ≡ ms → Play setup phases ns ≡ Some h → Play setup phases ms ≡ Some k → h ≡ k
  by_rest phases ns [] ms h k is a b = let same : ns ≡ ms = sym (append-nil ns) ∙ is in cc (sym a ∙ (ap (Play setup phases) same ∙ b))
  by_rest phases ns (m ∷ rest) ms h k is a b =
      let p = some_past (phases_by setup phases [] ns []) h a in
      let none = ap (option_map reverse) (phases_none phases [] ns m rest [] p.0 p.1) in
      absurd (cc (sym none ∙ (ap (Play setup phases) is ∙ b)))

  abbrev zeros : List Entry → List ℕ
  zeros log = map (λ e. 0) log

  zeros_begin : (a b : List Entry) → IsPrefix (zeros a) (zeros b) ⊎ IsPrefix (zeros b) (zeros a)
  zeros_begin [] b = inl (zeros b, refl)
  zeros_begin (x ∷ a) [] = inr (zeros (x ∷ a), refl)
  zeros_begin (x ∷ a) (y ∷ b) = ⊎_elim (λ p. inl (p.0, ap (λ (l : List ℕ). 0 ∷ l) p.1)) (λ p. inr (p.0, ap (λ (l : List ℕ). 0 ∷ l) p.1)) (zeros_begin a b)

  -- where lane 0 alone takes turns there is one history
  pub one_zero : (phases : List (List (List BoundCall))) (h k : List Entry) → Play setup phases (map (λ e. 0) h) ≡ Some h → Play setup phases (map (λ e. 0) k) ≡ Some k → h ≡ k
  one_zero phases h k a b = ⊎_elim (λ p. by_rest phases (zeros h) p.0 (zeros k) h k p.1 a b) (λ p. sym (by_rest phases (zeros k) p.0 (zeros h) k h p.1 b a)) (zeros_begin h k)
