-- What holds of calls with names holds of them with anything in place of each name, and so with slots.
use Rattle.std.proofs.Common.{◌≡◌, List, [], ◌∷◌, ◌++◌, map, Option, Some, None, Ok, refl, sym, ap, ap₂, subst, ◌∙◌, arith}
use Rattle.std.specs.Prelude.{All, Contains, option_map}
use Rattle.std.specs.List.{flat_map}
use Rattle.std.specs.Option.{option_to_list}
use Rattle.std.proofs.lemmas.List.{map-append}
use Rattle.std.proofs.lemmas.List.Elements.{All-nil, All-cons, All-map, All-weaker, All-contains, Contains-append_left, Contains-append_right, Contains-push}
use Rattle.wg_types.specs.declared.wanted.Kind.{Kind}
use Rattle.wg_types.specs.declared.wanted.Wanted.{Wanted}
use Rattle.wg_types.specs.declared.wanted.Wanted.TheVariants as wanted
use Rattle.wg_types.specs.Wanted.{within}
use Rattle.wg_types.specs.Refs.{all_wanted, some_wanted, maybe_wanted}
use Rattle.wg_types.specs.Render.{color_named, depth_named, targets_named, begin_named, map_color, map_depth, map_begin}
use Rattle.wg_types.specs.declared.render.ColorTargetOf.{ColorTargetOf}
use Rattle.wg_types.specs.declared.render.DepthTargetOf.{DepthTargetOf}
use Rattle.wg_types.specs.declared.render.RenderBeginOf.{RenderBeginOf}
use Rattle.wg_types.specs.Bindings.{resource_named, entries_named, map_resource, map_entry}
use Rattle.wg_types.specs.declared.bindings.ResourceOf.{ResourceOf}
use Rattle.wg_types.specs.declared.bindings.ResourceOf.TheVariants.{Buffer, View, Sampler}
use Rattle.wg_types.specs.declared.bindings.GroupEntryOf.{GroupEntryOf}
use Rattle.wg_types.specs.Commands.{place_wanted, kind_begun, named, named_on, map_refs}
use Rattle.wg_types.specs.declared.commands.CommandOf.{CommandOf}
use Rattle.wg_types.specs.Requests.{kind_made, named as asked_of, map_refs as map_asked}
use Rattle.wg_types.specs.declared.requests.RequestOf.{RequestOf}
use Rattle.wg_types.specs.declared.requests.RequestOf.TheVariants.{CreatePipelineLayout, CreateBindGroup, CreateComputePipeline, CreateRenderPipeline, Submit}
use Rattle.wg_script.specs.CallOf.{Call, map_call}
use Rattle.wg_script.specs.declared.calls.CallOf.{CallOf}
use Rattle.wg_types.specs.Canvases.{kind_made as canvas_made, named as canvas_named, map_canvas}
use Rattle.wg_types.specs.declared.canvases.CanvasCall.TheVariants.{Configure, Current, Present}
use Rattle.wg_types.specs.declared.canvases.CanvasOf.{CanvasOf}
use Rattle.wg_types.specs.declared.canvases.CanvasOf.TheVariants.{Create, On}
use Rattle.wg_script.specs.declared.calls.CallOf.TheVariants.{Record, Ask, Canvas}
use Rattle.wg_names.specs.Uses.{made_as, admits}
use Rattle.wg_names.specs.Names.{Names, no_names, slot_in}
use Rattle.wg_names.specs.Script.{phases_bound, map_lane, map_phase, map_phases}
use Rattle.wg_names.specs.Bound.{Made, made_by, made_in, IsFound, CallIsBound, LaneIsBound, PhasesAreBound, configured_by, CallIsSet, LaneIsSet, all_made, IsBound, IsBoundFrom}
use Rattle.wg_names.proofs.BoundLemmas.{Splits, phases_are_bound}
use Rattle.wg_names.proofs.Setting.{phases_are_set}
use Rattle.wg_names.proofs.Keeping.{all_keep}

-- what stands beside a name stays
abbrev other : {R S K : Type 0} → (R → S) → R × K → S × K
other f x = (f x.0, x.1)

-- ---- a call

-- an object that may be left out
maybe_mapped : {R S : Type 0} (f : R → S) (want : Wanted) (x : Option R) → maybe_wanted want (option_map f x) ≡ map (other f) (maybe_wanted want x)
maybe_mapped f want None = refl
maybe_mapped f want (Some x) = refl

-- a list of objects
all_named : {R S : Type 0} (f : R → S) (want : Wanted) (xs : List R) → all_wanted want (map f xs) ≡ map (other f) (all_wanted want xs)
all_named f want [] = refl
all_named f want (x ∷ xs) = ap (λ rest. (f x, want) ∷ rest) (all_named f want xs)

-- a list of objects of which some may be left out
some_named : {R S : Type 0} (f : R → S) (want : Wanted) (xs : List (Option R)) → some_wanted want (map (option_map f) xs) ≡ map (other f) (some_wanted want xs)
some_named f want [] = refl
some_named f want (x ∷ xs) = ap₂ (λ a b. a ++ b) (maybe_mapped f want x) (some_named f want xs) ∙ sym (map-append (other f) (maybe_wanted want x) (some_wanted want xs))

-- the views of attachments, and the query set after them

color_mapped : {R S : Type 0} (f : R → S) (color : Option (ColorTargetOf R)) → color_named (option_map (map_color f) color) ≡ map (other f) (color_named color)
color_mapped f None = refl
color_mapped f (Some target) = ap (λ rest. (f target.view, wanted.View) ∷ rest) (maybe_mapped f wanted.View target.resolve)

colors_mapped : {R S : Type 0} (f : R → S) (colors : List (Option (ColorTargetOf R))) → flat_map color_named (map (option_map (map_color f)) colors) ≡ map (other f) (flat_map color_named colors)
colors_mapped f [] = refl
colors_mapped f (color ∷ colors) = ap₂ (λ a b. a ++ b) (color_mapped f color) (colors_mapped f colors) ∙ sym (map-append (other f) (color_named color) (flat_map color_named colors))

depth_mapped : {R S : Type 0} (f : R → S) (depth : Option (DepthTargetOf R)) → depth_named (option_map (map_depth f) depth) ≡ map (other f) (depth_named depth)
depth_mapped f None = refl
depth_mapped f (Some target) = refl

targets_mapped : {R S : Type 0} (f : R → S) (begin : RenderBeginOf R) → targets_named (map_begin f begin) ≡ map (other f) (targets_named begin)
targets_mapped f begin = ap₂ (λ a b. a ++ b) (colors_mapped f begin.colors) (depth_mapped f begin.depth) ∙ sym (map-append (other f) (flat_map color_named begin.colors) (depth_named begin.depth))

begin_mapped : {R S : Type 0} (f : R → S) (begin : RenderBeginOf R) → begin_named (map_begin f begin) ≡ map (other f) (begin_named begin)
begin_mapped f begin = ap₂ (λ a b. a ++ b) (targets_mapped f begin) (maybe_mapped f wanted.Queries begin.queries) ∙ sym (map-append (other f) (targets_named begin) (maybe_wanted wanted.Queries begin.queries))

command_named : {R S : Type 0} (f : R → S) (command : CommandOf R) → named (map_refs f command) ≡ map (other f) (named command)
command_named f command = grind (arith, begin_mapped, all_named, maybe_mapped)

command_place : {R S : Type 0} (f : R → S) (command : CommandOf R) → place_wanted (map_refs f command) ≡ place_wanted command
command_place f command = grind arith

command_kind : {R S : Type 0} (f : R → S) (command : CommandOf R) → kind_begun (map_refs f command) ≡ kind_begun command
command_kind f command = grind arith

resource_mapped : {R S : Type 0} (f : R → S) (r : ResourceOf R) → resource_named (map_resource f r) ≡ other f (resource_named r)
resource_mapped f (Buffer buffer offset size) = refl
resource_mapped f (View view) = refl
resource_mapped f (Sampler sampler) = refl

entries_mapped : {R S : Type 0} (f : R → S) (xs : List (GroupEntryOf R)) → entries_named (map (map_entry f) xs) ≡ map (other f) (entries_named xs)
entries_mapped f [] = refl
entries_mapped f (x ∷ xs) = ap₂ (λ a b. a ∷ b) (resource_mapped f x.resource) (entries_mapped f xs)

request_named : {R S : Type 0} (f : R → S) (request : RequestOf R) → asked_of (map_asked f request) ≡ map (other f) (asked_of request)
request_named f (CreatePipelineLayout layouts) = some_named f wanted.GroupLayout layouts
request_named f (CreateBindGroup layout entries) = ap (λ rest. (f layout, wanted.GroupLayout) ∷ rest) (entries_mapped f entries)
request_named f (CreateComputePipeline layout iface) = maybe_mapped f wanted.PipelineLayout layout
request_named f (CreateRenderPipeline layout desc) = maybe_mapped f wanted.PipelineLayout layout
request_named f (Submit buffers) = all_named f wanted.CommandBuffer buffers
request_named f _ = refl

request_kind : {R S : Type 0} (f : R → S) (request : RequestOf R) → kind_made (map_asked f request) ≡ kind_made request
request_kind f request = grind arith

canvas_kind : {R S : Type 0} (f : R → S) (call : CanvasOf R) → canvas_made (map_canvas f call) ≡ canvas_made call
canvas_kind f (Create width height) = refl
canvas_kind f (On canvas call) = refl

canvases_named : {R S : Type 0} (f : R → S) (call : CanvasOf R) → canvas_named (map_canvas f call) ≡ map (other f) (canvas_named call)
canvases_named f (Create width height) = refl
canvases_named f (On canvas call) = refl

wanted_mapped : {R S : Type 0} (f : R → S) (place : Kind) (keys : List (R × Wanted)) → map (λ key. (key.0, within place key.1)) (map (other f) keys) ≡ map (other f) (map (λ key. (key.0, within place key.1)) keys)
wanted_mapped f place [] = refl
wanted_mapped f place (key ∷ keys) = ap (λ rest. (f key.0, within place key.1) ∷ rest) (wanted_mapped f place keys)

on_mapped : {R S : Type 0} (f : R → S) (place : Kind) (command : CommandOf R) → named_on place (map_refs f command) ≡ map (other f) (named_on place command)
on_mapped f place command = ap (map (λ key. (key.0, within place key.1))) (command_named f command) ∙ wanted_mapped f place (named command)

as_mapped : {R S : Type 0} (f : R → S) (made : Option R) (kind : Option Kind) → option_to_list (made_as (option_map f made) kind) ≡ map (other f) (option_to_list (made_as made kind))
as_mapped f None kind = refl
as_mapped f (Some name) None = refl
as_mapped f (Some name) (Some kind) = refl

made_mapped : {R S : Type 0} (f : R → S) (call : CallOf R) → made_by (map_call f call) ≡ map (other f) (made_by call)
made_mapped f (Record on command made) = ap (λ kind. option_to_list (made_as (option_map f made) kind)) (command_kind f command) ∙ as_mapped f made (kind_begun command)
made_mapped f (Ask request made) = ap (λ kind. option_to_list (made_as (option_map f made) kind)) (request_kind f request) ∙ as_mapped f made (kind_made request)
made_mapped f (Canvas call made) = ap (λ kind. option_to_list (made_as (option_map f made) kind)) (canvas_kind f call) ∙ as_mapped f made (canvas_made call)

-- ---- lists

flat_mapped : {X Y A B : Type 0} (g : X → List A) (h : Y → List B) (m : X → Y) (s : A → B) → ((x : X) → h (m x) ≡ map s (g x)) → (xs : List X) → flat_map h (map m xs) ≡ map s (flat_map g xs)
flat_mapped g h m s one [] = refl
flat_mapped g h m s one (x ∷ xs) = ap₂ (λ a b. a ++ b) (one x) (flat_mapped g h m s one xs) ∙ sym (map-append s (g x) (flat_map g xs))

made_in_mapped : {R S : Type 0} (f : R → S) (calls : List (CallOf R)) → made_in (map_lane f calls) ≡ map (other f) (made_in calls)
made_in_mapped f calls = flat_mapped made_by made_by (map_call f) (other f) (made_mapped f) calls

lanes_mapped : {R S : Type 0} (f : R → S) (lanes : List (List (CallOf R))) → flat_map made_in (map_phase f lanes) ≡ map (other f) (flat_map made_in lanes)
lanes_mapped f lanes = flat_mapped made_in made_in (map_lane f) (other f) (made_in_mapped f) lanes

phases_mapped : {R S : Type 0} (f : R → S) (phases : List (List (List (CallOf R)))) → flat_map (flat_map made_in) (map_phases f phases) ≡ map (other f) (flat_map (flat_map made_in) phases)
phases_mapped f phases = flat_mapped (flat_map made_in) (flat_map made_in) (map_phase f) (other f) (lanes_mapped f) phases

firsts_mapped : {R S K : Type 0} (f : R → S) (made : List (R × K)) → map (λ m. m.0) (map (other f) made) ≡ map f (map (λ m. m.0) made)
firsts_mapped f [] = refl
firsts_mapped f (m ∷ made) = ap (λ rest. f m.0 ∷ rest) (firsts_mapped f made)

all_made_mapped : {R S : Type 0} (f : R → S) (phases : List (List (List (CallOf R)))) → all_made (map_phases f phases) ≡ map f (all_made phases)
all_made_mapped f phases = ap (map (λ m. m.0)) (phases_mapped f phases) ∙ firsts_mapped f (flat_map (flat_map made_in) phases)

-- ---- what is used

contained : {X Y : Type 0} (s : X → Y) (xs : List X) → All (λ x. Contains (map s xs) (s x)) xs
contained s [] = All-nil (λ x. Contains (map s []) (s x))
contained s (x ∷ xs) = All-cons (λ y. Contains (map s (x ∷ xs)) (s y)) x xs
    (Contains-append_left (s x ∷ []) (map s xs) (s x) (Contains-push [] (s x)))
    (All-weaker (λ y. Contains (map s xs) (s y)) (λ y. Contains (map s (x ∷ xs)) (s y)) (λ y there. Contains-append_right (s x ∷ []) (map s xs) (s y) there) xs (contained s xs))

there : {R S K : Type 0} (f : R → S) (made : List (R × K)) (m : R × K) → Contains made m → Contains (map (other f) made) (other f m)
there f made m = All-contains (λ m. Contains (map (other f) made) (other f m)) made m (contained (other f) made)

found_mapped : {R S : Type 0} (f : R → S) (made ours : Made R) (key : R × Wanted) → IsFound made ours key → IsFound (map (other f) made) (map (other f) ours) (other f key)
found_mapped f made ours key found = record {
  kind = found.kind;
  stands = there f made (key.0, found.kind) found.stands;
  fits = found.fits;
  own = λ want. there f ours (key.0, found.kind) (found.own want);
}

all_mapped : {R S : Type 0} (f : R → S) (made ours : Made R) (keys : List (R × Wanted)) (mapped : List (S × Wanted)) → mapped ≡ map (other f) keys → All (IsFound made ours) keys → All (IsFound (map (other f) made) (map (other f) ours)) mapped
all_mapped {R} {S} f made ours keys mapped same all =
    let P : List (S × Wanted) → Type 0 = λ us. All (IsFound (map (other f) made) (map (other f) ours)) us in
    subst P (sym same)
    (All-map (IsFound (map (other f) made) (map (other f) ours)) (other f) keys
    (All-weaker (IsFound made ours) (λ u. IsFound (map (other f) made) (map (other f) ours) (other f u)) (found_mapped f made ours) keys all))

call_mapped : {R S : Type 0} (f : R → S) (made ours : Made R) (call : CallOf R) → CallIsBound made ours call → CallIsBound (map (other f) made) (map (other f) ours) (map_call f call)
call_mapped f made ours (Record on command name) bound = record {
  place = bound.place;
  stands = there f made (on, bound.place) bound.stands;
  own = there f ours (on, bound.place) bound.own;
  takes = ap (λ want. admits want bound.place) (command_place f command) ∙ bound.takes;
  found = all_mapped f made ours (named_on bound.place command) (named_on bound.place (map_refs f command)) (on_mapped f bound.place command) bound.found;
}
call_mapped f made ours (Ask request name) bound = all_mapped f made ours (asked_of request) (asked_of (map_asked f request)) (request_named f request) bound
call_mapped f made ours (Canvas call name) bound = all_mapped f made ours (canvas_named call) (canvas_named (map_canvas f call)) (canvases_named f call) bound

grown : {R S : Type 0} (f : R → S) (made : Made R) (call : CallOf R) → map (other f) (made ++ made_by call) ≡ map (other f) made ++ made_by (map_call f call)
grown f made call = map-append (other f) made (made_by call) ∙ ap (λ ms. map (other f) made ++ ms) (sym (made_mapped f call))

lane_mapped : {R S : Type 0} (f : R → S) (made ours : Made R) (calls : List (CallOf R)) → LaneIsBound made ours calls → LaneIsBound (map (other f) made) (map (other f) ours) (map_lane f calls)
lane_mapped f made ours [] bound = tt
lane_mapped {R} {S} f made ours (call ∷ calls) bound =
    let P : Made S → Type 0 = λ ms. LaneIsBound ms (map (other f) (ours ++ made_by call)) (map_lane f calls) in
    let Q : Made S → Type 0 = λ ms. LaneIsBound (map (other f) made ++ made_by (map_call f call)) ms (map_lane f calls) in
    let rest = lane_mapped f (made ++ made_by call) (ours ++ made_by call) calls bound.1 in
    (call_mapped f made ours call bound.0, subst Q (grown f ours call) (subst P (grown f made call) rest))

bound_mapped : {R S : Type 0} (f : R → S) (made : Made R) (phases : List (List (List (CallOf R)))) → PhasesAreBound made phases → PhasesAreBound (map (other f) made) (map_phases f phases)
bound_mapped f made [] bound = tt
bound_mapped {R} {S} f made (lanes ∷ phases) bound =
    let P : Made S → Type 0 = λ ms. PhasesAreBound ms (map_phases f phases) in
    let later : map (other f) (made ++ flat_map made_in lanes) ≡ map (other f) made ++ flat_map made_in (map_phase f lanes)
    = map-append (other f) made (flat_map made_in lanes) ∙ ap (λ ms. map (other f) made ++ ms) (sym (lanes_mapped f lanes)) in (
      All-map (LaneIsBound (map (other f) made) []) (map_lane f) lanes
          (All-weaker (LaneIsBound made []) (λ calls. LaneIsBound (map (other f) made) [] (map_lane f calls)) (lane_mapped f made []) lanes bound.0),
      subst P later (bound_mapped f (made ++ flat_map made_in lanes) phases bound.1),
    )

-- ---- configured canvases

configured_mapped : {R S : Type 0} (f : R → S) (call : CallOf R) → configured_by (map_call f call) ≡ map f (configured_by call)
configured_mapped f (Record on command made) = refl
configured_mapped f (Ask request made) = refl
configured_mapped f (Canvas (Create width height) made) = refl
configured_mapped f (Canvas (On canvas (Configure format usage)) made) = refl
configured_mapped f (Canvas (On canvas Current) made) = refl
configured_mapped f (Canvas (On canvas Present) made) = refl

call_set : {R S : Type 0} (f : R → S) (done : List R) (call : CallOf R) → CallIsSet done call → CallIsSet (map f done) (map_call f call)
call_set f done (Record on command made) set = tt
call_set f done (Ask request made) set = tt
call_set f done (Canvas (Create width height) made) set = tt
call_set f done (Canvas (On canvas (Configure format usage)) made) set = tt
call_set f done (Canvas (On canvas Current) made) set = All-contains (λ c. Contains (map f done) (f c)) done canvas (contained f done) set
call_set f done (Canvas (On canvas Present) made) set = tt

lane_set : {R S : Type 0} (f : R → S) (done : List R) (calls : List (CallOf R)) → LaneIsSet done calls → LaneIsSet (map f done) (map_lane f calls)
lane_set f done [] set = tt
lane_set {R} {S} f done (call ∷ calls) set =
    let P : List S → Type 0 = λ cs. LaneIsSet cs (map_lane f calls) in
    let more : map f (done ++ configured_by call) ≡ map f done ++ configured_by (map_call f call) = map-append f done (configured_by call) ∙ ap (λ cs. map f done ++ cs) (sym (configured_mapped f call)) in
    (call_set f done call set.0, subst P more (lane_set f (done ++ configured_by call) calls set.1))

all_set : {R S : Type 0} (f : R → S) (phases : List (List (List (CallOf R)))) → All (All (LaneIsSet [])) phases → All (All (LaneIsSet [])) (map_phases f phases)
all_set f phases set = All-map (All (LaneIsSet [])) (map_phase f) phases
    (All-weaker (All (LaneIsSet [])) (λ lanes. All (LaneIsSet []) (map_phase f lanes))
    (λ lanes all. All-map (LaneIsSet []) (map_lane f) lanes (All-weaker (LaneIsSet []) (λ calls. LaneIsSet [] (map_lane f calls)) (λ calls one. lane_set f [] calls one) lanes all)) phases set)

-- ---- the whole script

pub bound_of : (phases : List (List (List Call))) (end : Names) → phases_bound phases ≡ Ok end → IsBound (map_phases (slot_in end) phases)
bound_of phases end e =
    let none : Splits 0 0 no_names [] [] = λ name mark is. absurd (cc) in
    let all = all_keep phases end e in
    record {
      used = bound_mapped (slot_in end) [] phases (phases_are_bound 0 no_names [] none phases end e);
      set = all_set (slot_in end) phases (phases_are_set 0 no_names [] none (λ name unmade. refl) phases end e);
      count = end.made;
      numbered = all_made_mapped (slot_in end) phases ∙ all.slots;
    }

pub from_of : (phases : List (List (List Call))) (end : Names) → phases_bound phases ≡ Ok end → IsBoundFrom phases (map_phases (slot_in end) phases)
from_of phases end e =
    let all = all_keep phases end e in
    record { slot = slot_in end; same = refl; formed = all.formed; once = all.once }
