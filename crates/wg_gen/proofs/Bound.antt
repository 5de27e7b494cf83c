-- The names of a generated script are bound.
use Rattle.std.proofs.Common.{◌≡◌, ◌<◌, ℕ, zero, suc, ◌+◌, ◌*◌, List, [], ◌∷◌, ◌++◌, length, map, inl, inr, refl, sym, ap, ap₂, subst, ◌∙◌, arith, append_assoc}
use Rattle.std.specs.Prelude.{All, Contains}
use Rattle.std.specs.List.{flat_map}
use Rattle.std.proofs.lemmas.Bool.{cases_eq}
use Rattle.std.proofs.lemmas.List.{append-nil, map-append}
use Rattle.std.proofs.lemmas.List.Elements.{All-nil, All-cons, All-head, All-tail, Contains-append_left, Contains-push}
use Rattle.wg_types.specs.declared.commands.CommandOf.TheVariants.{CopyBufferToBuffer}
use Rattle.wg_types.specs.declared.wanted.Kind.{Kind}
use Rattle.wg_types.specs.declared.wanted.Kind.TheVariants as kind
use Rattle.wg_types.specs.declared.wanted.Wanted.TheVariants as wanted
use Rattle.wg_names.specs.Bound.{Made, made_in, IsFound, IsOn, LaneIsBound, LaneIsSet, all_made, numbers_below, IsBound}
use Rattle.wg_script.specs.CallOf.{BoundCall}
use Rattle.wg_gen.specs.declared.draws.Spot.{Spot}
use Rattle.wg_gen.specs.Generator.{spots, eight, creation, iterations, lane_of, lanes_from, ending, phases_of}
use Rattle.wg_gen.proofs.Facts.{IsSpot}
use Rattle.wg_gen.proofs.Spots.{spots_are, spots_length}
use Rattle.wg_gen.proofs.Stages.{creations, destructions}

-- ---- what is used was made

-- the first k buffers
abbrev buffers : ℕ → Made ℕ
buffers zero = []
buffers (suc k) = buffers k ++ (k, kind.Buffer) ∷ []

buffer_in : (k n : ℕ) → n < k → Contains (buffers k) (n, kind.Buffer)
buffer_in zero n lt = absurd (omega (arith, lt))
buffer_in (suc k) n lt = elim (cases_eq n k) [
  | inl same ↦ subst (λ (m : ℕ). Contains (buffers k ++ (k, kind.Buffer) ∷ []) (m, kind.Buffer)) (sym same) (Contains-push (buffers k) (k, kind.Buffer))
  | inr differs ↦ Contains-append_left (buffers k) ((k, kind.Buffer) ∷ []) (n, kind.Buffer) (buffer_in k n (omega (arith, lt, differs)))
]

-- The eight buffers are among what was made.
abbrev HasBuffers : Made ℕ → Type 0
HasBuffers made = (n : ℕ) → n < 8 → Contains made (n, kind.Buffer)

has_more : (made extra : Made ℕ) → HasBuffers made → HasBuffers (made ++ extra)
has_more made extra has n lt = Contains-append_left made extra (n, kind.Buffer) (has n lt)

buffer_found : (made ours : Made ℕ) (n : ℕ) → n < 8 → HasBuffers made → IsFound made ours (n, wanted.Buffer)
buffer_found made ours n lt has = record { kind = kind.Buffer; stands = has n lt; fits = refl; own = λ e. absurd (cc) }

destroyed_found : (made ours : Made ℕ) (n : ℕ) → n < 8 → HasBuffers made → IsFound made ours (n, wanted.Destroyable)
destroyed_found made ours n lt has = record { kind = kind.Buffer; stands = has n lt; fits = refl; own = λ e. absurd (cc) }

all_one : {X : Type 0} (P : X → Type 0) (x : X) → P x → All P (x ∷ [])
all_one P x is = All-cons P x [] is (All-nil P)

-- ---- the lanes of each phase

-- Creations use nothing.
creations_bound : (made ours : Made ℕ) (k n : ℕ) → LaneIsBound made ours (creations k n)
creations_bound made ours k zero = tt
creations_bound made ours k (suc n) = (All-nil (IsFound made ours), creations_bound (made ++ (k, kind.Buffer) ∷ []) (ours ++ (k, kind.Buffer) ∷ []) (suc k) n)

-- An iteration uses buffers, and the encoder and the command buffer that it makes.
iterations_bound : (made ours : Made ℕ) (slot : ℕ) (list : List Spot) → HasBuffers made → All IsSpot list → LaneIsBound made ours (iterations slot list)
iterations_bound made ours slot [] has are = tt
iterations_bound made ours slot (spot ∷ list) has are =
    let is : IsSpot spot = All-head IsSpot spot list are in
    let encoder : ℕ × Kind = (slot, kind.Encoder) in
    let commands : ℕ × Kind = (slot + 1, kind.CommandBuffer) in
    let made_written : Made ℕ = made ++ [] in
    let ours_written : Made ℕ = ours ++ [] in
    let made_opened : Made ℕ = made_written ++ encoder ∷ [] in
    let ours_opened : Made ℕ = ours_written ++ encoder ∷ [] in
    let made_copied : Made ℕ = made_opened ++ [] in
    let ours_copied : Made ℕ = ours_opened ++ [] in
    let made_finished : Made ℕ = made_copied ++ commands ∷ [] in
    let ours_finished : Made ℕ = ours_copied ++ commands ∷ [] in
    let has_opened : HasBuffers made_opened = has_more made_written (encoder ∷ []) (has_more made [] has) in
    let has_finished : HasBuffers made_finished = has_more made_copied (commands ∷ []) (has_more made_opened [] has_opened) in
    let stands : Contains made_opened encoder = Contains-push made_written encoder in
    let own : Contains ours_opened encoder = Contains-push ours_written encoder in
    let writes : All (IsFound made ours) ((spot.source, wanted.Buffer) ∷ []) = all_one (IsFound made ours) (spot.source, wanted.Buffer) (buffer_found made ours spot.source is.source has) in
    let copies : IsOn made_opened ours_opened slot (CopyBufferToBuffer spot.source spot.offset spot.target spot.offset 128) = record {
      place = kind.Encoder;
      stands = stands;
      own = own;
      takes = refl;
      found = All-cons (IsFound made_opened ours_opened) (spot.source, wanted.Buffer) ((spot.target, wanted.Buffer) ∷ []) (buffer_found made_opened ours_opened spot.source is.source has_opened)
          (all_one (IsFound made_opened ours_opened) (spot.target, wanted.Buffer) (buffer_found made_opened ours_opened spot.target is.target has_opened));
    } in
    let finishes : All (IsFound made_copied ours_copied) ((slot, wanted.Encoder) ∷ []) = all_one (IsFound made_copied ours_copied) (slot, wanted.Encoder) (record {
      kind = kind.Encoder;
      stands = Contains-append_left made_opened [] encoder stands;
      fits = refl;
      own = λ e. Contains-append_left ours_opened [] encoder own;
    }) in
    let submits : All (IsFound made_finished ours_finished) ((slot + 1, wanted.CommandBuffer) ∷ []) = all_one (IsFound made_finished ours_finished) (slot + 1, wanted.CommandBuffer) (record {
      kind = kind.CommandBuffer;
      stands = Contains-push made_copied commands;
      fits = refl;
      own = λ e. absurd (cc);
    }) in
    let rest : LaneIsBound (made_finished ++ []) (ours_finished ++ []) (iterations (slot + 2) list) =
    iterations_bound (made_finished ++ []) (ours_finished ++ []) (slot + 2) list (has_more made_finished [] has_finished) (All-tail IsSpot spot list are) in
    (writes, (All-nil (IsFound made_written ours_written), (copies, (finishes, (submits, rest)))))

lanes_bound : (made : Made ℕ) (count lane lanes : ℕ) → HasBuffers made → All (LaneIsBound made []) (lanes_from count lane lanes)
lanes_bound made count lane zero has = All-nil (LaneIsBound made [])
lanes_bound made count lane (suc lanes) has =
    All-cons (LaneIsBound made []) (lane_of count lane) (lanes_from count (suc lane) lanes)
    (iterations_bound made [] (8 + 2 * (lane * count)) (spots count (lane + 1)) has (spots_are count (lane + 1))) (lanes_bound made count (suc lane) lanes has)

destructions_bound : (made ours : Made ℕ) (k n : ℕ) → k + n ≡ 8 → HasBuffers made → LaneIsBound made ours (destructions k n)
destructions_bound made ours k zero all has = tt
destructions_bound made ours k (suc n) all has = (
  all_one (IsFound made ours) (k, wanted.Destroyable) (destroyed_found made ours k (omega (arith, all)) has),
  destructions_bound (made ++ []) (ours ++ []) (suc k) n (omega (arith, all)) (has_more made [] has),
)

-- ---- canvases, of which there are none

abbrev IsSet : List BoundCall → Type 0
IsSet calls = LaneIsSet [] calls

creations_set : (done : List ℕ) (k n : ℕ) → LaneIsSet done (creations k n)
creations_set done k zero = tt
creations_set done k (suc n) = (tt, creations_set (done ++ []) (suc k) n)

iterations_set : (done : List ℕ) (slot : ℕ) (list : List Spot) → LaneIsSet done (iterations slot list)
iterations_set done slot [] = tt
iterations_set done slot (spot ∷ list) =
    (tt, (tt, (tt, (tt, (tt, iterations_set (done ++ [] ++ [] ++ [] ++ [] ++ []) (slot + 2) list)))))

lanes_set : (count lane lanes : ℕ) → All IsSet (lanes_from count lane lanes)
lanes_set count lane zero = All-nil IsSet
lanes_set count lane (suc lanes) =
    All-cons IsSet (lane_of count lane) (lanes_from count (suc lane) lanes)
    (iterations_set [] (8 + 2 * (lane * count)) (spots count (lane + 1))) (lanes_set count (suc lane) lanes)

destructions_set : (done : List ℕ) (k n : ℕ) → LaneIsSet done (destructions k n)
destructions_set done k zero = tt
destructions_set done k (suc n) = (tt, destructions_set (done ++ []) (suc k) n)

phases_set : (count lanes : ℕ) → All (All IsSet) (phases_of count lanes)
phases_set count lanes =
    let end : List (List BoundCall) = ending (count * lanes) ∷ [] in
    let at_end : All IsSet end = all_one IsSet (ending (count * lanes)) (tt, destructions_set [] 0 8) in
    All-cons (All IsSet) (map creation eight ∷ []) (lanes_from count 0 lanes ∷ end ∷ []) (all_one IsSet (map creation eight) (creations_set [] 0 8))
    (All-cons (All IsSet) (lanes_from count 0 lanes) (end ∷ []) (lanes_set count 0 lanes) (all_one (All IsSet) end at_end))

-- ---- the slots that are made

-- so many numbers, from one of them on
abbrev numbers_from : ℕ → ℕ → List ℕ
numbers_from first zero = []
numbers_from first (suc n) = first ∷ numbers_from (first + 1) n

numbers_then : (first n m : ℕ) → numbers_from first n ++ numbers_from (first + n) m ≡ numbers_from first (n + m)
numbers_then first zero m = ap₂ numbers_from (let none : first + 0 ≡ first = omega arith in none) (let same : m ≡ 0 + m = omega arith in same)
numbers_then first (suc n) m =
    ap (λ (k : ℕ). first ∷ numbers_from (first + 1) n ++ numbers_from k m) (let next : first + suc n ≡ first + 1 + n = omega arith in next)
    ∙ ap (λ (xs : List ℕ). first ∷ xs) (numbers_then (first + 1) n m)
    ∙ ap (numbers_from first) (let more : suc (n + m) ≡ suc n + m = omega arith in more)

below_then : (first n : ℕ) → numbers_below first ++ numbers_from first n ≡ numbers_below (first + n)
below_then first zero = append-nil (numbers_below first) ∙ ap numbers_below (let none : first ≡ first + 0 = omega arith in none)
below_then first (suc n) =
    sym (append_assoc (numbers_below first) (first ∷ []) (numbers_from (first + 1) n))
    ∙ ap (λ (k : ℕ). numbers_below k ++ numbers_from (first + 1) n) (let next : suc first ≡ first + 1 = omega arith in next)
    ∙ below_then (first + 1) n
    ∙ ap numbers_below (let more : first + 1 + n ≡ first + suc n = omega arith in more)

abbrev slots_of : Made ℕ → List ℕ
slots_of made = map (λ m. m.0) made

-- an iteration makes two
iterations_make : (slot : ℕ) (list : List Spot) → slots_of (made_in (iterations slot list)) ≡ numbers_from slot (2 * length list)
iterations_make slot [] = refl
iterations_make slot (spot ∷ list) =
    ap (λ (xs : List ℕ). slot ∷ (slot + 1) ∷ xs) (iterations_make (slot + 2) list)
    ∙ ap (λ (k : ℕ). slot ∷ (slot + 1) ∷ numbers_from k (2 * length list)) (let next : slot + 2 ≡ slot + 1 + 1 = omega arith in next)
    ∙ ap (numbers_from slot) (let twice : suc (suc (2 * length list)) ≡ 2 * suc (length list) = omega arith in twice)

lane_makes : (count lane : ℕ) → slots_of (made_in (lane_of count lane)) ≡ numbers_from (8 + 2 * (lane * count)) (2 * count)
lane_makes count lane = iterations_make (8 + 2 * (lane * count)) (spots count (lane + 1)) ∙ ap (λ (n : ℕ). numbers_from (8 + 2 * (lane * count)) (2 * n)) (spots_length count (lane + 1))

suc_times : (lane count : ℕ) → 8 + 2 * (suc lane * count) ≡ 8 + 2 * (lane * count) + 2 * count
suc_times lane count = omega arith

times_suc : (count lanes : ℕ) → 2 * count + 2 * (count * lanes) ≡ 2 * (count * suc lanes)
times_suc count lanes = omega arith

times_zero : (count : ℕ) → 0 ≡ 2 * (count * 0)
times_zero count = omega arith

lanes_make : (count lane lanes : ℕ) → slots_of (flat_map made_in (lanes_from count lane lanes)) ≡ numbers_from (8 + 2 * (lane * count)) (2 * (count * lanes))
lanes_make count lane zero = ap (numbers_from (8 + 2 * (lane * count))) (times_zero count)
lanes_make count lane (suc lanes) =
    let first : ℕ = 8 + 2 * (lane * count) in
    map-append (λ m. m.0) (made_in (lane_of count lane)) (flat_map made_in (lanes_from count (suc lane) lanes))
    ∙ ap₂ (λ (xs ys : List ℕ). xs ++ ys) (lane_makes count lane) (lanes_make count (suc lane) lanes ∙ ap (λ (k : ℕ). numbers_from k (2 * (count * lanes))) (suc_times lane count))
    ∙ (numbers_then first (2 * count) (2 * (count * lanes)) ∙ ap (numbers_from first) (times_suc count lanes))

-- The buffers come first, then what the lanes make; the last phase makes nothing.
all_numbered : (count lanes : ℕ) → all_made (phases_of count lanes) ≡ numbers_below (8 + 2 * (count * lanes))
all_numbered count lanes =
    let made : Made ℕ = flat_map made_in (lanes_from count 0 lanes) in
    ap (λ (xs : Made ℕ). numbers_below 8 ++ slots_of xs) (append-nil made)
    ∙ ap (λ (xs : List ℕ). numbers_below 8 ++ xs) (lanes_make count 0 lanes)
    ∙ ap (λ (first : ℕ). numbers_below 8 ++ numbers_from first (2 * (count * lanes))) (let none : 8 + 2 * (0 * count) ≡ 8 = omega arith in none)
    ∙ below_then 8 (2 * (count * lanes))

-- ---- the script

pub is_bound : (count lanes : ℕ) → IsBound (phases_of count lanes)
is_bound count lanes =
    let made : Made ℕ = flat_map made_in (map creation eight ∷ []) in
    let has : HasBuffers made = buffer_in 8 in
    let later : Made ℕ = made ++ flat_map made_in (lanes_from count 0 lanes) in
    let has_later : HasBuffers later = has_more made (flat_map made_in (lanes_from count 0 lanes)) has in
    let at_end : LaneIsBound later [] (ending (count * lanes)) = (All-nil (IsFound later []), destructions_bound (later ++ []) [] 0 8 refl (has_more later [] has_later)) in
    record {
      used = (
        all_one (LaneIsBound [] []) (map creation eight) (creations_bound [] [] 0 8),
        (lanes_bound made count 0 lanes has, (all_one (LaneIsBound later []) (ending (count * lanes)) at_end, tt)),
      );
      set = phases_set count lanes;
      count = 8 + 2 * (count * lanes);
      numbered = all_numbered count lanes;
    }
