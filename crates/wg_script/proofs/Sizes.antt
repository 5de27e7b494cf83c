-- A draft that was read has few phases, and each phase few lanes.
use Rattle.std.proofs.Common.{◌≡◌, ℕ, ◌+◌, ◌≤◌, suc, List, [], ◌∷◌, length, Bool, true, false, Option, Some, None, Result, Ok, Err, refl, ap, subst, arith}
use Rattle.std.specs.Prelude.{All, nat_le, if◌then◌else◌}
use Rattle.std.proofs.lemmas.Bool.{leb-true}
use Rattle.std.proofs.lemmas.List.Elements.{All-nil, All-cons}
use Rattle.serde_json.specs.Data.{Data, Items, no_items, item}
use Rattle.serde_json.specs.Events.{items_len}
use Rattle.serde_json.specs.Find.{as_array}
use Rattle.wg_script.specs.CallOf.{Call}
use Rattle.wg_script.specs.Giving.{◌>>=◌}
use Rattle.wg_script.specs.Draft.{Stop, each, lane_of, phase_items, phase_of, check_top, budget_of, listed_of, limits_of, phases_of, top_of, json_of, draft_read, draft_of}
use Rattle.wg_script.specs.Sizes.{IsSized}
use Rattle.wg_script.specs.declared.draft.ScriptDraft.{ScriptDraft}
use Rattle.wg_script.specs.declared.draft.Place.TheVariants as place

-- both steps of a reading
both : {A B E : Type 0} (r : Result A E) (f : A → Result B E) (y : B) → r >>= f ≡ Ok y → (x : A) × (r ≡ Ok x) × (f x ≡ Ok y)
both (Ok x) f y e = (x, refl, e)
both (Err z) f y e = absurd (cc)

-- what was read of a list has its length, and each item of it has what was shown of each
record Each {X : Type 0} (P : X → Type 0) (ds : Items) (xs : List X) : Type 0 where
  length : length xs ≡ items_len ds
  all : All P xs

each_of : {X : Type 0} (P : X → Type 0) (f : ℕ → ℕ → Data → Result (X × ℕ) Stop) → ((i n : ℕ) (d : Data) (x : X × ℕ) → f i n d ≡ Ok x → P x.0)
    → (i n : ℕ) (ds : Items) (xs : List X × ℕ) → each f i n ds ≡ Ok xs → Each P ds xs.0
each_of {X} P f one i n no_items xs e =
    let same : [] ≡ xs.0 = cc in
    let Q : List X → Type 0 = λ ys. Each P no_items ys in
    subst Q same (record { length = refl; all = All-nil P })
each_of {X} P f one i n (item d ds) xs e =
    let first = both (f i n d) (λ x. each f (i + 1) x.1 ds >>= λ ys. Ok (x.0 ∷ ys.0, ys.1)) xs e in
    let later = both (each f (i + 1) first.0.1 ds) (λ ys. Ok (first.0.0 ∷ ys.0, ys.1)) xs first.2 in
    let rest = each_of P f one (i + 1) first.0.1 ds later.0 later.1 in
    let same : first.0.0 ∷ later.0.0 ≡ xs.0 = cc (later.2) in
    let Q : List X → Type 0 = λ ys. Each P (item d ds) ys in
    subst Q same (record {
      length = ap (λ k. suc k) rest.length;
      all = All-cons P first.0.0 later.0.0 (one i n d first.0 first.1) rest.all;
    })

-- ---- a phase

abbrev IsFew : List (List Call) → Type 0
IsFew lanes = length lanes ≤ 64

few_lanes : (p n : ℕ) (ds : Items) (x : List (List Call) × ℕ) (b : Bool) → nat_le (items_len ds) 64 ≡ b
    → (let r : Result (List (List Call) × ℕ) Stop = if b then each (lane_of p) 0 n ds else Err (4, place.Phase p) in r) ≡ Ok x → IsFew x.0
few_lanes p n ds x true few e =
    let read = each_of (λ lane. Unit {0}) (lane_of p) (λ i m d y same. tt) 0 n ds x e in
    let fits : items_len ds ≤ 64 = leb-true (items_len ds) 64 few in
    let long = read.length in
    omega arith
few_lanes p n ds x false few e = absurd (cc)

phase_few : (p n : ℕ) (items : Option Items) (x : List (List Call) × ℕ) → phase_items p n items ≡ Ok x → IsFew x.0
phase_few p n None x e = absurd (cc)
phase_few p n (Some ds) x e = few_lanes p n ds x (nat_le (items_len ds) 64) refl e

phase_is_few : (p n : ℕ) (d : Data) (x : List (List Call) × ℕ) → phase_of p n d ≡ Ok x → IsFew x.0
unfolding phase_of
phase_is_few p n d x e = phase_few p n (as_array d) x e

-- ---- the top

few_phases : (ds : Items) (x : List (List (List Call)) × ℕ) (b : Bool) → nat_le (items_len ds) 1024 ≡ b
    → (let r : Result (List (List (List Call)) × ℕ) Stop = if b then each phase_of 0 0 ds else Err (3, place.None) in r) ≡ Ok x → IsSized x.0
few_phases ds x true few e =
    let read = each_of IsFew phase_of phase_is_few 0 0 ds x e in
    let fits : items_len ds ≤ 1024 = leb-true (items_len ds) 1024 few in
    let long = read.length in
    record { phases = omega arith; lanes = read.all }
few_phases ds x false few e = absurd (cc)

top_sized : (d : Data) (draft : ScriptDraft) → top_of d ≡ Ok draft → IsSized draft.phases
unfolding top_of
top_sized d draft e =
    let fine = both (check_top d) (λ _. budget_of d >>= λ budget. listed_of d >>= λ listed. limits_of d >>= λ limits. phases_of listed >>= λ phases. Ok (record { budget = budget; limits = limits; phases = phases.0 })) draft e in
    let budget = both (budget_of d) (λ budget. listed_of d >>= λ listed. limits_of d >>= λ limits. phases_of listed >>= λ phases. Ok (record { budget = budget; limits = limits; phases = phases.0 })) draft fine.2 in
    let listed = both (listed_of d) (λ listed. limits_of d >>= λ limits. phases_of listed >>= λ phases. Ok (record { budget = budget.0; limits = limits; phases = phases.0 })) draft budget.2 in
    let limits = both (limits_of d) (λ limits. phases_of listed.0 >>= λ phases. Ok (record { budget = budget.0; limits = limits; phases = phases.0 })) draft listed.2 in
    let phases = both (phases_of listed.0) (λ phases. Ok (record { budget = budget.0; limits = limits.0; phases = phases.0 })) draft limits.2 in
    let sized = few_phases listed.0 phases.0 (nat_le (items_len listed.0) 1024) refl phases.1 in
    let same : phases.0.0 ≡ draft.phases = cc (phases.2) in
    let P : List (List (List Call)) → Type 0 = λ all. IsSized all in
    subst P same sized

read_sized : (d : Option Data) (draft : ScriptDraft) → draft_read d ≡ Ok draft → IsSized draft.phases
read_sized None draft e = absurd (cc)
read_sized (Some d) draft e = top_sized d draft e

pub draft_sized : (bytes : List ℕ) (draft : ScriptDraft) → draft_of bytes ≡ Ok draft → IsSized draft.phases
draft_sized bytes draft e = read_sized (json_of bytes) draft e
