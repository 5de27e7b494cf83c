-- Of a draft of which no name is refused each used name was made by an earlier visible call.
use Rattle.std.proofs.Common.{◌≡◌, ℕ, ◌+◌, ◌<◌, List, [], ◌∷◌, ◌++◌, map, Bool, true, false, Option, Some, None, Ok, refl, sym, ap, subst, inl, inr, arith, append_assoc, ◌∙◌}
use Rattle.std.specs.Prelude.{◌⊎◌, ◌==◌, nat_lt, bytes_eq, All, Contains, ⊤, if◌then◌else◌}
use Rattle.std.specs.List.{flat_map}
use Rattle.std.specs.Option.{option_to_list, option_map_or}
use Rattle.std.proofs.lemmas.List.{append-nil}
use Rattle.std.proofs.lemmas.Bool.{or_cases, or_right, and_parts, ltb-true, eqb-true}
use Rattle.std.proofs.lemmas.List.Elements.{All-nil, All-cons, All-head, All-tail, Contains-append_left, Contains-append_right, Contains-push}
use Rattle.std.proofs.lemmas.Slice.Eq.{bytes_eq-Decides}
use Rattle.wg_script.specs.CallOf.{Call}
use Rattle.wg_names.specs.Uses.{uses_of, made_of, admits, wants_own}
use Rattle.wg_names.specs.Names.{Names, kind_in, is_own, is_visible, check_use}
use Rattle.wg_names.specs.Script.{check_uses, uses_by, with_setting, call_bound, walk, lane_bound, phase_bound}
use Rattle.wg_names.specs.Bound.{Made, made_by, made_in, IsFound, IsOn, CallIsBound, LaneIsBound, PhasesAreBound}
use Rattle.wg_script.specs.declared.calls.CallOf.{CallOf}
use Rattle.wg_script.specs.declared.calls.CallOf.TheVariants.{Record, Ask, Canvas}
use Rattle.wg_types.specs.declared.commands.CommandOf.{CommandOf}
use Rattle.wg_types.specs.Commands.{place_wanted, named, named_on}
use Rattle.wg_types.specs.Requests.{named as asked_of}
use Rattle.wg_types.specs.Canvases.{named as canvas_named}
use Rattle.wg_types.specs.declared.canvases.CanvasCall.TheVariants.{Configure, Current, Present}
use Rattle.wg_types.specs.declared.canvases.CanvasOf.TheVariants.{Create, On}
use Rattle.wg_types.specs.Wanted.{pipelines_on, within}
use Rattle.wg_types.specs.declared.wanted.Kind.TheVariants as kind
use Rattle.wg_types.specs.declared.wanted.Wanted.TheVariants as wanted
use Rattle.wg_types.specs.declared.wanted.Kind.{Kind}
use Rattle.wg_types.specs.declared.wanted.Wanted.{Wanted}
use Rattle.wg_names.specs.declared.known.Mark.{Mark}
use Rattle.wg_names.proofs.Passing.{bind_ok, stands_of, Makes, Passes, passes_of}

abbrev pub MadeNames : Type 0
MadeNames = Made (List ℕ)

-- ---- what a lane sees

-- what a lane sees was made in the first list, and what it made itself in the second
abbrev Sees : ℕ → ℕ → Names → MadeNames → MadeNames → Type 0
Sees p l names made ours = (name : List ℕ) (mark : Mark) → names.marks name ≡ Some mark
    → (is_visible p l mark ≡ true → Contains made (name, mark.kind)) × (is_own p l mark ≡ true → Contains ours (name, mark.kind))

uses_found : (p l : ℕ) (names : Names) (made ours : MadeNames) → Sees p l names made ours → (us : List (List ℕ × Wanted)) (fine : ⊤) → check_uses names p l us ≡ Ok fine → All (IsFound made ours) us
uses_found p l names made ours sees [] fine e = All-nil (IsFound made ours)
uses_found p l names made ours sees (u ∷ us) fine e =
    let step = bind_ok (check_use names p l u) (λ done. check_uses names p l us) fine e in
    let found = stands_of p l u.1 (names.marks u.0) step.0 step.1 in
    let seen = sees u.0 found.mark found.is in
    All-cons (IsFound made ours) u us
    (record { kind = found.mark.kind; stands = seen.0 found.visible; fits = found.admits; own = λ want. seen.1 (found.own want) })
    (uses_found p l names made ours sees us fine step.2)

-- a command asks for an encoder, a bundle encoder or a pass of its own lane to stand on
pub place_own : {R : Type 0} (command : CommandOf R) → wants_own (place_wanted command) ≡ true
place_own command = grind arith

-- a recording call, and a call of the device
on_found : (p l : ℕ) (names : Names) (made ours : MadeNames) → Sees p l names made ours → (on : List ℕ) (command : CommandOf (List ℕ)) (fine : ⊤)
    → check_uses names p l ((on, place_wanted command) ∷ named_on (kind_in names on) command) ≡ Ok fine → IsOn made ours on command
on_found p l names made ours sees on command fine e =
    let step = bind_ok (check_use names p l (on, place_wanted command)) (λ done. check_uses names p l (named_on (kind_in names on) command)) fine e in
    let found = stands_of p l (place_wanted command) (names.marks on) step.0 step.1 in
    let seen = sees on found.mark found.is in
    let same : kind_in names on ≡ found.mark.kind = ap (λ mark. option_map_or (λ m. m.kind) mark kind.Encoder) found.is in
    record {
      place = kind_in names on;
      stands = let P : Kind → Type 0 = λ k. Contains made (on, k) in subst P (sym same) (seen.0 found.visible);
      own = let P : Kind → Type 0 = λ k. Contains ours (on, k) in subst P (sym same) (seen.1 (found.own (place_own command)));
      takes = ap (admits (place_wanted command)) same ∙ found.admits;
      found = uses_found p l names made ours sees (named_on (kind_in names on) command) fine step.2;
    }

call_found : (p l : ℕ) (names : Names) (made ours : MadeNames) → Sees p l names made ours → (call : Call) (fine : ⊤) → check_uses names p l (uses_by names call) ≡ Ok fine → CallIsBound made ours call
call_found p l names made ours sees (Record on command name) fine e = on_found p l names made ours sees on command fine e
call_found p l names made ours sees (Ask request name) fine e = uses_found p l names made ours sees (asked_of request) fine e
call_found p l names made ours sees (Canvas call name) fine e = uses_found p l names made ours sees (canvas_named call) fine e

-- What is wanted on something of a kind is wanted.
compute_pipeline : (k : Kind) → admits wanted.ComputePipeline k ≡ true → admits wanted.Pipeline k ≡ true
compute_pipeline kind.Compute e = refl
compute_pipeline _ e = absurd (cc)

render_pipeline : (k : Kind) → admits wanted.RenderPipeline k ≡ true → admits wanted.Pipeline k ≡ true
render_pipeline kind.Render e = refl
render_pipeline _ e = absurd (cc)

pipelines : (place k : Kind) → admits (pipelines_on place) k ≡ true → admits wanted.Pipeline k ≡ true
pipelines kind.ComputePass k e = compute_pipeline k e
pipelines kind.RenderPass k e = render_pipeline k e
pipelines kind.BundleEncoder k e = render_pipeline k e
pipelines _ k e = e

within_admits : (place : Kind) (want : Wanted) (k : Kind) → admits (within place want) k ≡ true → admits want k ≡ true
within_admits place wanted.Pipeline k e = pipelines place k e
within_admits place _ k e = e

-- What asks for the lane's own asks for it on something of a kind, too.
within_own : (place : Kind) (want : Wanted) → wants_own want ≡ true → wants_own (within place want) ≡ true
within_own place wanted.Pipeline e = absurd (cc)
within_own place _ e = e

found_within : {R : Type 0} (made ours : Made R) (place : Kind) (keys : List (R × Wanted)) → All (IsFound made ours) (map (λ key. (key.0, within place key.1)) keys) → All (IsFound made ours) keys
found_within made ours place [] all = All-nil (IsFound made ours)
found_within made ours place (key ∷ keys) all =
    let first = All-head (IsFound made ours) (key.0, within place key.1) (map (λ key. (key.0, within place key.1)) keys) all in
    All-cons (IsFound made ours) key keys
    (record { kind = first.kind; stands = first.stands; fits = within_admits place key.1 first.kind first.fits; own = λ want. first.own (within_own place key.1 want) })
    (found_within made ours place keys (All-tail (IsFound made ours) (key.0, within place key.1) (map (λ key. (key.0, within place key.1)) keys) all))

-- each name that a call uses was made, and stands for what is wanted
pub found_uses : {R : Type 0} (made ours : Made R) (call : CallOf R) → CallIsBound made ours call → All (IsFound made ours) (uses_of call)
found_uses made ours (Record on command name) bound =
    All-cons (IsFound made ours) (on, place_wanted command) (named command)
    (record { kind = bound.place; stands = bound.stands; fits = bound.takes; own = λ want. bound.own })
    (found_within made ours bound.place (named command) bound.found)
found_uses made ours (Ask request name) bound = bound
found_uses made ours (Canvas call name) bound = bound

-- ---- what calls of a lane add

-- each name stands for what it did, or was made in this lane and is in the list
abbrev Adds : ℕ → ℕ → Names → Names → MadeNames → Type 0
Adds p l old new made = (name : List ℕ) (mark : Mark) → new.marks name ≡ Some mark
    → (old.marks name ≡ Some mark) ⊎ ((mark.phase ≡ p) × (mark.lane ≡ l) × Contains made (name, mark.kind))

-- the only name of a list
only_made : (m : List ℕ × Kind) (name : List ℕ) (kind : Kind) → m.0 ≡ name → m.1 ≡ kind → Contains (m ∷ []) (name, kind)
only_made m name kind name_is kind_is =
    let P : List ℕ × Kind → Type 0 = λ q. Contains (m ∷ []) q in
    let there : (m.0, m.1) ≡ (name, kind) = cc in
    subst P there (Contains-push [] m)

-- what a name stands for, once one more was made
one_more : (p l : ℕ) (names : Names) (m : List ℕ × Kind) (name : List ℕ) (mark : Mark) (b : Bool) → bytes_eq m.0 name ≡ b
    → (let found : Option Mark = if b then Some (record { kind = m.1; phase = p; lane = l; slot = names.made }) else names.marks name in found) ≡ Some mark
    → (names.marks name ≡ Some mark) ⊎ ((mark.phase ≡ p) × (mark.lane ≡ l) × Contains (m ∷ []) (name, mark.kind))
one_more p l names m name mark true same is =
    let mark_is : (let k : Mark = record { kind = m.1; phase = p; lane = l; slot = names.made } in k) ≡ mark = cc is in
    let name_is : m.0 ≡ name = (bytes_eq-Decides m.0 name).0 same in
    let kind_is : m.1 ≡ mark.kind = ap (λ (k : Mark). k.kind) mark_is in
    inr (sym (ap (λ (k : Mark). k.phase) mark_is), sym (ap (λ (k : Mark). k.lane) mark_is), only_made m name mark.kind name_is kind_is)
one_more p l names m name mark false other is = inl is

adds_made : (p l : ℕ) (names more : Names) (o : Option (List ℕ × Kind)) → Makes p l names more o → Adds p l names more (option_to_list o)
adds_made p l names more None same name mark is = inl (let P : Names → Type 0 = λ ns. ns.marks name ≡ Some mark in subst P (sym same) is)
adds_made p l names more (Some m) made name mark is =
    one_more p l names m name mark (bytes_eq m.0 name) refl (let P : Names → Type 0 = λ ns. ns.marks name ≡ Some mark in subst P (sym made.2) is)

adds_then : (p l : ℕ) (a b c : Names) (xs ys : MadeNames) → Adds p l a b xs → Adds p l b c ys → Adds p l a c (xs ++ ys)
adds_then p l a b c xs ys f g name mark is = elim (g name mark is) [
  | inl old ↦ elim (f name mark old) [
    | inl older ↦ inl older
    | inr there ↦ inr (there.0, there.1, Contains-append_left xs ys (name, mark.kind) there.2)
  ]
  | inr there ↦ inr (there.0, there.1, Contains-append_right xs ys (name, mark.kind) there.2)
]

sees_more : (p l : ℕ) (names more : Names) (made ours extra : MadeNames) → Sees p l names made ours → Adds p l names more extra → Sees p l more (made ++ extra) (ours ++ extra)
sees_more p l names more made ours extra sees adds name mark is = elim (adds name mark is) [
  | inl old ↦ (
    λ visible. Contains-append_left made extra (name, mark.kind) ((sees name mark old).0 visible),
    λ own. Contains-append_left ours extra (name, mark.kind) ((sees name mark old).1 own),
  )
  | inr there ↦ (
    λ visible. Contains-append_right made extra (name, mark.kind) there.2,
    λ own. Contains-append_right ours extra (name, mark.kind) there.2,
  )
]

-- what a call says of canvases leaves what names stand for
pub setting_marks : (call : Call) (names : Names) (name : List ℕ) → (with_setting call names).marks name ≡ names.marks name
setting_marks (Record on command made) names name = refl
setting_marks (Ask request made) names name = refl
setting_marks (Canvas (Create width height) made) names name = refl
setting_marks (Canvas (On canvas (Configure format usage)) made) names name = refl
setting_marks (Canvas (On canvas Current) made) names name = refl
setting_marks (Canvas (On canvas Present) made) names name = refl

adds_call : (p l : ℕ) (names more : Names) (call : Call) → Passes p l names more call → Adds p l names more (made_by call)
adds_call p l names more call passes name mark is =
    adds_made p l names passes.mid (made_of call) passes.makes name mark (sym (setting_marks call passes.mid name) ∙ (ap (λ (ns : Names). ns.marks name) passes.after ∙ is))

lane_adds : (p l i : ℕ) (names : Names) (calls : List Call) (end : Names) → walk (call_bound p l) i names calls ≡ Ok end → Adds p l names end (made_in calls)
lane_adds p l i names [] end e = λ name mark is. inl (let P : Names → Type 0 = λ ns. ns.marks name ≡ Some mark in subst P (let same : end ≡ names = cc in same) is)
lane_adds p l i names (call ∷ calls) end e =
    let step = bind_ok (call_bound p l i names call) (λ more. walk (call_bound p l) (i + 1) more calls) end e in
    let passes = passes_of p l i names step.0 call step.1 in
    adds_then p l names step.0 end (made_by call) (made_in calls) (adds_call p l names step.0 call passes)
    (lane_adds p l (i + 1) step.0 calls end step.2)

lane_is_bound : (p l i : ℕ) (names : Names) (made ours : MadeNames) → Sees p l names made ours → (calls : List Call) (end : Names)
    → walk (call_bound p l) i names calls ≡ Ok end → LaneIsBound made ours calls
lane_is_bound p l i names made ours sees [] end e = tt
lane_is_bound p l i names made ours sees (call ∷ calls) end e =
    let step = bind_ok (call_bound p l i names call) (λ more. walk (call_bound p l) (i + 1) more calls) end e in
    let passes = passes_of p l i names step.0 call step.1 in (
      call_found p l names made ours sees call passes.fine passes.uses,
      lane_is_bound p l (i + 1) step.0 (made ++ made_by call) (ours ++ made_by call)
          (sees_more p l names step.0 made ours (made_by call) sees (adds_call p l names step.0 call passes)) calls end step.2,
    )

-- ---- the lanes of a phase

-- at lane l of phase p each name was made before the phase, or by an earlier lane of it
abbrev pub Splits : ℕ → ℕ → Names → MadeNames → MadeNames → Type 0
Splits p l names before beside = (name : List ℕ) (mark : Mark) → names.marks name ≡ Some mark
    → ((mark.phase < p) × Contains before (name, mark.kind)) ⊎ ((mark.phase ≡ p) × (mark.lane < l) × Contains beside (name, mark.kind))

not_visible : (p l : ℕ) (mark : Mark) → mark.phase ≡ p → mark.lane < l → is_visible p l mark ≡ true → ⊥
not_visible p l mark phase lane visible = elim (or_cases (nat_lt mark.phase p) (is_own p l mark) visible) [
  | inl e ↦ (let lt : mark.phase < p = ltb-true mark.phase p e in omega arith)
  | inr e ↦ (let same : mark.lane ≡ l = eqb-true mark.lane l (and_parts (mark.phase == p) (mark.lane == l) e).1 in omega arith)
]

not_own : (p l : ℕ) (mark : Mark) → mark.phase < p → is_own p l mark ≡ true → ⊥
not_own p l mark phase own =
    let same : mark.phase ≡ p = eqb-true mark.phase p (and_parts (mark.phase == p) (mark.lane == l) own).0 in
    omega arith

-- a lane that has made nothing yet
lane_sees : (p l : ℕ) (names : Names) (before beside : MadeNames) → Splits p l names before beside → Sees p l names before []
lane_sees p l names before beside splits name mark is = elim (splits name mark is) [
  | inl there ↦ (λ visible. there.1, λ own. absurd (not_own p l mark there.0 own))
  | inr here ↦ (
    λ visible. absurd (not_visible p l mark here.0 here.1 visible),
    λ own. absurd (not_visible p l mark here.0 here.1 (or_right (nat_lt mark.phase p) (is_own p l mark) own)),
  )
]

splits_more : (p l : ℕ) (names more : Names) (before beside made : MadeNames) → Splits p l names before beside → Adds p l names more made
    → Splits p (l + 1) more before (beside ++ made)
splits_more p l names more before beside made splits adds name mark is = elim (adds name mark is) [
  | inl old ↦ elim (splits name mark old) [
    | inl there ↦ inl there
    | inr here ↦ inr (here.0, omega (arith, here.1), Contains-append_left beside made (name, mark.kind) here.2)
  ]
  | inr new ↦ inr (new.0, omega (arith, new.1), Contains-append_right beside made (name, mark.kind) new.2)
]

-- what a lane has made is split off after it, and as a lane begins nothing is its own
pub splits_own : (p l : ℕ) (names : Names) (before beside : MadeNames) → Splits p l names before beside → (name : List ℕ) (mark : Mark) → names.marks name ≡ Some mark → is_own p l mark ≡ true → ⊥
splits_own p l names before beside splits name mark is own = elim (splits name mark is) [
  | inl there ↦ not_own p l mark there.0 own
  | inr here ↦ not_visible p l mark here.0 here.1 (or_right (nat_lt mark.phase p) (is_own p l mark) own)
]

pub lane_splits : (p l : ℕ) (names more : Names) (before beside : MadeNames) → Splits p l names before beside → (lane : List Call) → lane_bound p l names lane ≡ Ok more → Splits p (l + 1) more before (beside ++ made_in lane)
lane_splits p l names more before beside splits lane e = splits_more p l names more before beside (made_in lane) splits (lane_adds p l 0 names lane more e)

-- the lanes of a phase are bound, and what their names stand for splits at the last lane
record Phase (p : ℕ) (end : Names) (before made : MadeNames) (lanes : List (List Call)) : Type 0 where
  bound : All (LaneIsBound before []) lanes
  last : ℕ
  splits : Splits p last end before made

lanes_are_bound : (p l : ℕ) (names : Names) (before beside : MadeNames) → Splits p l names before beside → (lanes : List (List Call)) (end : Names)
    → walk (lane_bound p) l names lanes ≡ Ok end → Phase p end before (beside ++ flat_map made_in lanes) lanes
lanes_are_bound p l names before beside splits [] end e =
    let same : names ≡ end = cc in
    let P : Names → Type 0 = λ ns. Splits p l ns before (beside ++ []) in
    let Q : MadeNames → Type 0 = λ made. Splits p l names before made in
    record { bound = All-nil (LaneIsBound before []); last = l; splits = subst P same (subst Q (sym (append-nil beside)) splits) }
lanes_are_bound p l names before beside splits (lane ∷ lanes) end e =
    let step = bind_ok (lane_bound p l names lane) (λ more. walk (lane_bound p) (l + 1) more lanes) end e in
    let adds = lane_adds p l 0 names lane step.0 step.1 in
    let rest = lanes_are_bound p (l + 1) step.0 before (beside ++ made_in lane) (splits_more p l names step.0 before beside (made_in lane) splits adds) lanes end step.2 in
    let Q : MadeNames → Type 0 = λ made. Splits p rest.last end before made in
    record {
      bound = All-cons (LaneIsBound before []) lane lanes (lane_is_bound p l 0 names before [] (lane_sees p l names before beside splits) lane step.0 step.1) rest.bound;
      last = rest.last;
      splits = subst Q (append_assoc beside (made_in lane) (flat_map made_in lanes)) rest.splits;
    }

-- ---- the phases

next_phase : (p l : ℕ) (names : Names) (before made : MadeNames) → Splits p l names before made → Splits (p + 1) 0 names (before ++ made) []
next_phase p l names before made splits name mark is = elim (splits name mark is) [
  | inl there ↦ inl (omega (arith, there.0), Contains-append_left before made (name, mark.kind) there.1)
  | inr here ↦ inl (omega (arith, here.0), Contains-append_right before made (name, mark.kind) here.2)
]

pub phases_are_bound : (p : ℕ) (names : Names) (before : MadeNames) → Splits p 0 names before [] → (phases : List (List (List Call))) (end : Names)
    → walk phase_bound p names phases ≡ Ok end → PhasesAreBound before phases
phases_are_bound p names before splits [] end e = tt
phases_are_bound p names before splits (lanes ∷ phases) end e =
    let step = bind_ok (phase_bound p names lanes) (λ more. walk phase_bound (p + 1) more phases) end e in
    let phase = lanes_are_bound p 0 names before [] splits lanes step.0 step.1 in
    (phase.bound, phases_are_bound (p + 1) step.0 (before ++ flat_map made_in lanes) (next_phase p phase.last step.0 before (flat_map made_in lanes) phase.splits) phases end step.2)

pub phase_splits : (p : ℕ) (names more : Names) (before : MadeNames) → Splits p 0 names before [] → (lanes : List (List Call)) → phase_bound p names lanes ≡ Ok more → Splits (p + 1) 0 more (before ++ flat_map made_in lanes) []
phase_splits p names more before splits lanes e =
    let phase = lanes_are_bound p 0 names before [] splits lanes more e in
    next_phase p phase.last more before (flat_map made_in lanes) phase.splits
