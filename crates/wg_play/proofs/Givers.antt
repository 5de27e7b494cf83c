-- Each entry of a history that was played was given by a call, at its place.
use Rattle.std.proofs.Common.{◌≡◌, ℕ, zero, suc, List, [], ◌∷◌, ◌++◌, length, get_or, Option, Some, None, refl, ap, ap₂, sym, ◌∙◌, subst, ◌⊎◌, inl, inr, append_assoc, ◌==◌}
use Rattle.std.specs.Prelude.{All}
use Rattle.std.specs.List.{flat_map}
use Rattle.std.proofs.lemmas.List.Elements.{All-head, All-tail, filter-append}
use Rattle.wg_history.specs.Entries.{Entry}
use Rattle.wg_script.specs.CallOf.{BoundCall}
use Rattle.wg_play.specs.Turns.{entries_of_caller}
use Rattle.wg_play.specs.Played.{PlayedCall, PlayedPhase, entries_in, IsInterleaved}
use Rattle.wg_play.specs.Presented.{GivenAt}
use Rattle.wg_play.proofs.Turning.{same_caller}

-- ---- an element of a list that goes on

no_element : {X : Type 0} (front : List X) (x : X) (back : List X) → [] ≡ front ++ x ∷ back → ⊥
no_element [] x back e = cc (e)
no_element (y ∷ front) x back e = cc (e)

record Within {X : Type 0} (xs front : List X) (x : X) : Type 0 where
  rest : List X
  is : xs ≡ front ++ x ∷ rest

record Beyond {X : Type 0} (xs ys front : List X) (x : X) (back : List X) : Type 0 where
  more : List X
  front_is : front ≡ xs ++ more
  is : ys ≡ more ++ x ∷ back

cut : {X : Type 0} (xs ys front : List X) (x : X) (back : List X) → xs ++ ys ≡ front ++ x ∷ back → Within xs front x ⊎ Beyond xs ys front x back
cut [] ys front x back e = inr (record { more = front; front_is = refl; is = e })
cut (y ∷ xs) ys [] x back e = let same : y ≡ x = cc (e) in inl (record { rest = xs; is = ap (λ z. z ∷ xs) same })
cut (y ∷ xs) ys (z ∷ front) x back e =
    let same : y ≡ z = cc (e) in
    let rest : xs ++ ys ≡ front ++ x ∷ back = cc (e) in
    elim (cut xs ys front x back rest) [
      | inl here ↦ inl (record { rest = here.rest; is = ap₂ (λ a rest. a ∷ rest) same here.is })
      | inr there ↦ inr (record { more = there.more; front_is = ap₂ (λ a rest. a ∷ rest) (sym same) there.front_is; is = there.is })
    ]

-- ---- in a lane

record InLane (calls : List PlayedCall) (front : List Entry) (entry : Entry) : Type 0 where
  before : List PlayedCall
  after : List PlayedCall
  call : BoundCall
  is : calls ≡ before ++ (call, Some entry) ∷ after
  own : entries_in before ≡ front

abbrev LaneGives : List PlayedCall → Type 0
LaneGives calls = (front : List Entry) (entry : Entry) (back : List Entry) → entries_in calls ≡ front ++ entry ∷ back → InLane calls front entry

by_found : (call : BoundCall) (found : Option Entry) (calls : List PlayedCall) → LaneGives calls → LaneGives ((call, found) ∷ calls)
by_found call None calls gives front entry back e =
    let rest = gives front entry back e in
    record { before = (call, None) ∷ rest.before; after = rest.after; call = rest.call; is = ap (λ cs. (call, None) ∷ cs) rest.is; own = rest.own }
by_found call (Some x) calls gives [] entry back e =
    let same : x ≡ entry = cc (e) in
    record { before = []; after = calls; call = call; is = ap (λ y. (call, Some y) ∷ calls) same; own = refl }
by_found call (Some x) calls gives (y ∷ front) entry back e =
    let same : x ≡ y = cc (e) in
    let there : entries_in calls ≡ front ++ entry ∷ back = cc (e) in
    let rest = gives front entry back there in
    record {
      before = (call, Some x) ∷ rest.before;
      after = rest.after;
      call = rest.call;
      is = ap (λ cs. (call, Some x) ∷ cs) rest.is;
      own = ap₂ (λ a rest. a ∷ rest) same rest.own;
    }

in_lane : (calls : List PlayedCall) → LaneGives calls
in_lane [] front entry back e = absurd (no_element front entry back e)
in_lane (call ∷ calls) front entry back e = by_found call.0 call.1 calls (in_lane calls) front entry back e

-- ---- in a phase

record InLanes (lanes : List (List PlayedCall)) (n : ℕ) (front : List Entry) (entry : Entry) : Type 0 where
  lanes_before : List (List PlayedCall)
  lanes_after : List (List PlayedCall)
  before : List PlayedCall
  after : List PlayedCall
  call : BoundCall
  is : lanes ≡ lanes_before ++ (before ++ (call, Some entry) ∷ after) ∷ lanes_after
  number : length lanes_before ≡ n
  own : entries_in before ≡ front

in_lanes : (lanes : List (List PlayedCall)) (n : ℕ) (front : List Entry) (entry : Entry) (back : List Entry) → entries_in (get_or lanes n []) ≡ front ++ entry ∷ back → InLanes lanes n front entry
in_lanes [] n front entry back e = absurd (no_element front entry back e)
in_lanes (calls ∷ lanes) zero front entry back e =
    let here = in_lane calls front entry back e in
    record {
      lanes_before = [];
      lanes_after = lanes;
      before = here.before;
      after = here.after;
      call = here.call;
      is = ap (λ cs. cs ∷ lanes) here.is;
      number = refl;
      own = here.own;
    }
in_lanes (calls ∷ lanes) (suc n) front entry back e =
    let there = in_lanes lanes n front entry back e in
    record {
      lanes_before = calls ∷ there.lanes_before;
      lanes_after = there.lanes_after;
      before = there.before;
      after = there.after;
      call = there.call;
      is = ap (λ ls. calls ∷ ls) there.is;
      number = ap (λ m. suc m) there.number;
      own = there.own;
    }

in_phase : (phase : PlayedPhase) → IsInterleaved phase → (front : List Entry) (entry : Entry) (back : List Entry) → phase.entries ≡ front ++ entry ∷ back
    → InLanes phase.lanes entry.who (entries_of_caller entry.who front) entry
in_phase phase own front entry back e =
    let n : ℕ = entry.who in
    let parts : entries_of_caller n phase.entries ≡ entries_of_caller n front ++ entry ∷ entries_of_caller n back
    = ap (entries_of_caller n) e ∙ (filter-append (λ (x : Entry). x.who == n) front (entry ∷ back) ∙ ap (λ es. entries_of_caller n front ++ es) (same_caller n entry back refl)) in
    in_lanes phase.lanes n (entries_of_caller n front) entry (entries_of_caller n back) (sym (own n) ∙ parts)

-- ---- in a history

abbrev pub entries_of : List PlayedPhase → List Entry
entries_of plays = flat_map (λ (phase : PlayedPhase). phase.entries) plays

pub record IsGiven (plays : List PlayedPhase) (front : List Entry) (entry : Entry) : Type 0 where
  pub call : BoundCall
  pub at : GivenAt plays front entry call

pub given_at : (plays : List PlayedPhase) → All IsInterleaved plays → (front : List Entry) (entry : Entry) (back : List Entry) → entries_of plays ≡ front ++ entry ∷ back → IsGiven plays front entry
given_at [] all front entry back e = absurd (no_element front entry back e)
given_at (phase ∷ plays) all front entry back e = elim (cut phase.entries (entries_of plays) front entry back e) [
  | inl here ↦ let lane = in_phase phase (All-head IsInterleaved phase plays all) front entry here.rest here.is in
      record {
        call = lane.call;
        at = record {
          earlier = [];
          later = plays;
          phase = phase;
          lanes_before = lane.lanes_before;
          lanes_after = lane.lanes_after;
          before = lane.before;
          after = lane.after;
          plays_are = refl;
          lanes_are = lane.is;
          first = front;
          last = here.rest;
          entries_are = here.is;
          own = subst (λ n. entries_of_caller n front ≡ entries_in lane.before) (sym lane.number) (sym lane.own);
          front_is = refl;
        };
      }
  | inr there ↦ let given = given_at plays (All-tail IsInterleaved phase plays all) there.more entry back there.is in
      record {
        call = given.call;
        at = record {
          earlier = phase ∷ given.at.earlier;
          later = given.at.later;
          phase = given.at.phase;
          lanes_before = given.at.lanes_before;
          lanes_after = given.at.lanes_after;
          before = given.at.before;
          after = given.at.after;
          plays_are = ap (λ ps. phase ∷ ps) given.at.plays_are;
          lanes_are = given.at.lanes_are;
          first = given.at.first;
          last = given.at.last;
          entries_are = given.at.entries_are;
          own = given.at.own;
          front_is = there.front_is ∙ (ap (λ es. phase.entries ++ es) given.at.front_is ∙ sym (append_assoc phase.entries (entries_of given.at.earlier) given.at.first));
        };
      }
]
