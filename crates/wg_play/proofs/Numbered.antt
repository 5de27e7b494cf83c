-- The slots that a lane makes are the numbers from its first on, and its calls are bound by what it makes.
use Rattle.std.proofs.Common.{◌≡◌, ℕ, zero, suc, ◌+◌, Option, Some, None, List, [], ◌∷◌, ◌++◌, length, map, refl, sym, ap, subst, ◌∙◌, inl, inr, arith, append_assoc}
use Rattle.std.specs.Prelude.{All, Contains}
use Rattle.std.specs.List.{flat_map}
use Rattle.std.specs.Option.{option_map_or, option_to_list}
use Rattle.std.proofs.lemmas.List.{append-nil, length-append}
use Rattle.std.proofs.lemmas.List.Concat.{flat_map-append}
use Rattle.std.proofs.lemmas.List.Elements.{All-head, All-tail, Contains-push_cases}
use Rattle.wg_types.specs.declared.wanted.Kind.{Kind}
use Rattle.wg_script.specs.CallOf.{BoundCall}
use Rattle.wg_names.specs.Bound.{Made, made_by, made_in, all_made, numbers_below, CallIsBound, LaneIsBound, PhasesAreBound, configured_by, CallIsSet, LaneIsSet}
use Rattle.wg_play.specs.Late.{slots_before}

abbrev pub Slots : Type 0
Slots = Made ℕ

-- ---- slots from a number on

abbrev pub AreFrom : ℕ → List ℕ → Type 0
AreFrom k [] = Unit {0}
AreFrom k (x ∷ xs) = (x ≡ k) × AreFrom (k + 1) xs

from_push : (k : ℕ) (xs : List ℕ) → AreFrom k xs → AreFrom k (xs ++ (k + length xs) ∷ [])
from_push k [] from = (omega arith, tt)
from_push k (x ∷ xs) from =
    let e : (k + 1) + length xs ≡ k + length (x ∷ xs) = omega arith in
    (from.0, subst (λ n. AreFrom (k + 1) (xs ++ n ∷ [])) e (from_push (k + 1) xs from.1))

length_numbers : (n : ℕ) → length (numbers_below n) ≡ n
length_numbers zero = refl
length_numbers (suc n) =
    let e : length (numbers_below n ++ n ∷ []) ≡ length (numbers_below n) + 1 = length-append (numbers_below n) (n ∷ []) in
    let ih : length (numbers_below n) ≡ n = length_numbers n in
    e ∙ omega (arith, ih)

pub from_zero : (n : ℕ) → AreFrom 0 (numbers_below n)
from_zero zero = tt
from_zero (suc n) =
    let ih : length (numbers_below n) ≡ n = length_numbers n in
    let e : 0 + length (numbers_below n) ≡ n = omega (arith, ih) in
    subst (λ m. AreFrom 0 (numbers_below n ++ m ∷ [])) e (from_push 0 (numbers_below n) (from_zero n))

abbrev pub slots_of : Slots → List ℕ
slots_of ms = map (λ m. m.0) ms

pub from_front : (k : ℕ) (front rest : Slots) → AreFrom k (slots_of (front ++ rest)) → AreFrom k (slots_of front)
from_front k [] rest from = tt
from_front k (m ∷ front) rest from = (from.0, from_front (k + 1) front rest from.1)

pub from_back : (k : ℕ) (front rest : Slots) → AreFrom k (slots_of (front ++ rest)) → AreFrom (k + length front) (slots_of rest)
from_back k [] rest from = let e : k ≡ k + 0 = omega arith in subst (λ n. AreFrom n (slots_of rest)) e from
from_back k (m ∷ front) rest from =
    let e : (k + 1) + length front ≡ k + length (m ∷ front) = omega arith in
    subst (λ n. AreFrom n (slots_of rest)) e (from_back (k + 1) front rest from.1)

-- the slot that the first of some calls makes
pub first_from : (k : ℕ) (made : Option (ℕ × Kind)) (rest : Slots) → AreFrom k (slots_of (option_to_list made ++ rest)) → (m : ℕ × Kind) → made ≡ Some m → m.0 ≡ k
first_from k None rest from m e = absurd (cc)
first_from k (Some x) rest from m e = ap (λ (o : Option (ℕ × Kind)). option_map_or (λ (y : ℕ × Kind). y.0) o 0) (sym e) ∙ from.0

-- ---- a lane of a script

pub all_at : {X : Type 0} (P : X → Type 0) (xs ys : List X) (y : X) → All P (xs ++ y ∷ ys) → P y
all_at P [] ys y all = All-head P y ys all
all_at P (x ∷ xs) ys y all = all_at P xs ys y (All-tail P x (xs ++ y ∷ ys) all)

pub phase_at : (made : Slots) (earlier later : List (List (List BoundCall))) (lanes : List (List BoundCall)) → PhasesAreBound made (earlier ++ lanes ∷ later)
    → All (LaneIsBound (made ++ flat_map (flat_map made_in) earlier) []) lanes
phase_at made [] later lanes bound = subst (λ ms. All (LaneIsBound ms []) lanes) (sym (append-nil made)) bound.0
phase_at made (phase ∷ earlier) later lanes bound =
    subst (λ ms. All (LaneIsBound ms []) lanes) (append_assoc made (flat_map made_in phase) (flat_map (flat_map made_in) earlier))
    (phase_at (made ++ flat_map made_in phase) earlier later lanes bound.1)

-- it is bound, by what earlier phases made
pub lane_in : (earlier later : List (List (List BoundCall))) (lanes lanes_after : List (List BoundCall)) (calls : List BoundCall) → PhasesAreBound [] (earlier ++ (lanes ++ calls ∷ lanes_after) ∷ later)
    → LaneIsBound (flat_map (flat_map made_in) earlier) [] calls
lane_in earlier later lanes lanes_after calls bound =
    all_at (LaneIsBound (flat_map (flat_map made_in) earlier) []) lanes lanes_after calls (phase_at [] earlier later (lanes ++ calls ∷ lanes_after) bound)

-- the slots that it makes
pub lane_from : (earlier later : List (List (List BoundCall))) (lanes lanes_after : List (List BoundCall)) (calls : List BoundCall) (count : ℕ)
    → all_made (earlier ++ (lanes ++ calls ∷ lanes_after) ∷ later) ≡ numbers_below count → AreFrom (slots_before earlier lanes) (slots_of (made_in calls))
lane_from earlier later lanes lanes_after calls count numbered =
    let before : Slots = flat_map (flat_map made_in) earlier in
    let beside : Slots = flat_map made_in lanes in
    let own : Slots = made_in calls ++ flat_map made_in lanes_after in
    let rest : Slots = flat_map (flat_map made_in) later in
    let phase : flat_map made_in (lanes ++ calls ∷ lanes_after) ≡ beside ++ own = flat_map-append made_in lanes (calls ∷ lanes_after) in
    let whole : flat_map (flat_map made_in) (earlier ++ (lanes ++ calls ∷ lanes_after) ∷ later) ≡ before ++ ((beside ++ own) ++ rest)
    = flat_map-append (flat_map made_in) earlier ((lanes ++ calls ∷ lanes_after) ∷ later) ∙ ap (λ ms. before ++ (ms ++ rest)) phase in
    let all : AreFrom 0 (slots_of (before ++ ((beside ++ own) ++ rest))) = subst (λ ms. AreFrom 0 (slots_of ms)) whole (subst (AreFrom 0) (sym numbered) (from_zero count)) in
    let here : AreFrom (0 + length before + length beside) (slots_of own) = from_back (0 + length before) beside own (from_front (0 + length before) (beside ++ own) rest (from_back 0 before ((beside ++ own) ++ rest) all)) in
    let e : 0 + length before + length beside ≡ length before + length beside = omega arith in
    from_front (length before + length beside) (made_in calls) (flat_map made_in lanes_after) (subst (λ n. AreFrom n (slots_of own)) e here)

-- ---- a lane up to one of its calls

pub call_in : (made ours : Slots) (front : List BoundCall) (call : BoundCall) (rest : List BoundCall) → LaneIsBound made ours (front ++ call ∷ rest) → CallIsBound (made ++ made_in front) (ours ++ made_in front) call
call_in made ours [] call rest bound = subst (λ ms. CallIsBound ms (ours ++ []) call) (sym (append-nil made)) (subst (λ ms. CallIsBound made ms call) (sym (append-nil ours)) bound.0)
call_in made ours (x ∷ front) call rest bound =
    subst (λ ms. CallIsBound ms (ours ++ (made_by x ++ made_in front)) call) (append_assoc made (made_by x) (made_in front))
    (subst (λ ms. CallIsBound ((made ++ made_by x) ++ made_in front) ms call) (append_assoc ours (made_by x) (made_in front))
    (call_in (made ++ made_by x) (ours ++ made_by x) front call rest bound.1))

pub lane_front : (made ours : Slots) (front rest : List BoundCall) → LaneIsBound made ours (front ++ rest) → LaneIsBound made ours front
lane_front made ours [] rest bound = tt
lane_front made ours (x ∷ front) rest bound = (bound.0, lane_front (made ++ made_by x) (ours ++ made_by x) front rest bound.1)

-- the canvases that calls configure
abbrev pub all_configured : List BoundCall → List ℕ
all_configured calls = flat_map configured_by calls

pub lane_set : (earlier later : List (List (List BoundCall))) (lanes lanes_after : List (List BoundCall)) (calls : List BoundCall) → All (All (LaneIsSet [])) (earlier ++ (lanes ++ calls ∷ lanes_after) ∷ later) → LaneIsSet [] calls
lane_set earlier later lanes lanes_after calls set =
    all_at (LaneIsSet []) lanes lanes_after calls (all_at (All (LaneIsSet [])) earlier later (lanes ++ calls ∷ lanes_after) set)

pub set_in : (done : List ℕ) (front : List BoundCall) (call : BoundCall) (rest : List BoundCall) → LaneIsSet done (front ++ call ∷ rest) → CallIsSet (done ++ all_configured front) call
set_in done [] call rest set = subst (λ (ns : List ℕ). CallIsSet ns call) (sym (append-nil done)) set.0
set_in done (x ∷ front) call rest set =
    subst (λ (ns : List ℕ). CallIsSet ns call) (append_assoc done (configured_by x) (all_configured front)) (set_in (done ++ configured_by x) front call rest set.1)

pub set_front : (done : List ℕ) (front rest : List BoundCall) → LaneIsSet done (front ++ rest) → LaneIsSet done front
set_front done [] rest set = tt
set_front done (x ∷ front) rest set = (set.0, set_front (done ++ configured_by x) front rest set.1)

pub made_more : (before : List BoundCall) (call : BoundCall) → made_in (before ++ call ∷ []) ≡ made_in before ++ made_by call
made_more before call = flat_map-append made_by before (call ∷ []) ∙ ap (λ ms. made_in before ++ ms) (append-nil (made_by call))

pub only : (o : Option (ℕ × Kind)) (m : ℕ × Kind) → Contains (option_to_list o) m → o ≡ Some m
only None m there = absurd (omega (arith, there.1))
only (Some x) m there = elim (Contains-push_cases [] x m there) [ inl none ↦ absurd (omega (arith, none.1)) | inr same ↦ ap (λ y. Some y) same ]
