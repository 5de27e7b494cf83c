-- The test of what is held, taken apart and put together.
use Rattle.std.proofs.Common.{◌≡◌, ℕ, zero, suc, ◌+◌, ◌-◌, ◌<◌, ◌≤◌, Bool, true, ◌&&◌, ◌||◌, inl, inr, List, [], ◌∷◌, length, get_or, drop, length-drop, refl, sym, ap, ◌∙◌, add-zero, arith, ◌⊎◌}
use Rattle.std.proofs.lemmas.Bool.{cases_lt, or_cases, or_left, or_right, and_parts, and_from, false≢true}
use Rattle.std.proofs.lemmas.List.{get_or_past, get_or_default, get_or-drop, length_push, get_or_append_left, get_or_push}
use Rattle.std.proofs.lemmas.List.Folds.{Any-from_list_any, list_any_at}
use Rattle.wg_model.specs.Holding.{Node, nobody, is_among, has_holder, with_holders, all_held, is_held_among, Holds, any_below, is_root_in, node_in, nodes_below, nodes_in, is_held_in}

-- tests of some number below a bound

pub record Below (test : ℕ → Bool) (m : ℕ) : Type 0 where
  pub n : ℕ
  pub lt : n < m
  pub passes : test n ≡ true

pub below_from : (test : ℕ → Bool) (m : ℕ) → any_below test m ≡ true → Below test m
below_from test zero e = absurd (false≢true e)
below_from test (suc m) e = elim (or_cases (test m) (any_below test m) e) [
  | inl here ↦ record { n = m; lt = omega arith; passes = here }
  | inr later ↦ (let rest = below_from test m later in let lt = rest.lt in record { n = rest.n; lt = omega (arith, lt); passes = rest.passes })
]

pub below_to : (test : ℕ → Bool) (m n : ℕ) → n < m → test n ≡ true → any_below test m ≡ true
below_to test zero n lt e = absurd (omega (arith, lt))
below_to test (suc m) n lt e = elim (cases_lt n m) [
  | inl less ↦ or_right (test m) (any_below test m) (below_to test m n less e)
  | inr more ↦ (let same : m ≡ n = omega (arith, lt, more) in or_left (test m) (any_below test m) (ap test same ∙ e))
]

-- the list of nodes

length-with_holders : (nodes : List Node) (k : ℕ) → length (with_holders k nodes) ≡ length nodes
length-with_holders [] k = refl
length-with_holders (node ∷ newer) k = ap suc (length-with_holders newer (suc k))

-- the object at a place, with whether it is held
held_at : (nodes : List Node) (k i : ℕ) → i < length nodes → get_or (with_holders k nodes) i nobody ≡ record { held = (get_or nodes i nobody).held || has_holder (drop (suc i) (with_holders k nodes)) (k + i); refers = (get_or nodes i nobody).refers }
held_at [] k i lt = absurd (omega (arith, lt))
held_at (node ∷ newer) k zero lt = rw add-zero refl
held_at (node ∷ newer) k (suc i) lt =
    let e : k + suc i ≡ suc k + i = omega arith in
    let less : i < length newer = omega (arith, lt) in
    rw e (held_at newer (suc k) i less)

all_at : (nodes : List Node) (n : ℕ) → n < length nodes → get_or (all_held nodes) n nobody ≡ record { held = (get_or nodes n nobody).held || has_holder (drop (suc n) (all_held nodes)) n; refers = (get_or nodes n nobody).refers }
all_at nodes n lt =
    let e : 0 + n ≡ n = omega arith in
    let h = held_at nodes 0 n lt in rw e at h

pub held_inside : (nodes : List Node) (n : ℕ) → is_held_among nodes n ≡ true → n < length nodes
held_inside nodes n e = elim (cases_lt n (length nodes)) [
  | inl lt ↦ lt
  | inr ge ↦ (let le : length (all_held nodes) ≤ n = omega (arith, length-with_holders nodes 0) in
      absurd (false≢true (sym (ap (λ (x : Node). x.held) (get_or_past (all_held nodes) n nobody le)) ∙ e)))
]

pub record HolderAmong (nodes : List Node) (n : ℕ) : Type 0 where
  pub m : ℕ
  pub after : n < m
  pub inside : m < length nodes
  pub held : is_held_among nodes m ≡ true
  pub refers : is_among (get_or nodes m nobody).refers n ≡ true

pub among_cases : (nodes : List Node) (n : ℕ) → is_held_among nodes n ≡ true → ((get_or nodes n nobody).held ≡ true) ⊎ HolderAmong nodes n
among_cases nodes n e =
    let lt = held_inside nodes n e in
    let here = sym (ap (λ (x : Node). x.held) (all_at nodes n lt)) ∙ e in
    elim (or_cases _ _ here) [
      | inl own ↦ inl own
      | inr other ↦ (
          let some = Any-from_list_any (λ node. node.held && is_among node.refers n) (drop (suc n) (all_held nodes)) other in
          let m = suc n + some.0 in
          let parts : (some.1.held ≡ true) × (is_among some.1.refers n ≡ true) = and_parts _ _ some.4 in
          let size = length-drop (suc n) (all_held nodes) in
          let less : m < length nodes = omega (arith, some.2, size, length-with_holders nodes 0) in
          let less_all : m < length (all_held nodes) = omega (arith, less, length-with_holders nodes 0) in
          let at : get_or (all_held nodes) m nobody ≡ some.1 = get_or_default (all_held nodes) m nobody some.1 less_all ∙ sym (get_or-drop (suc n) (all_held nodes) some.0 some.1) ∙ some.3 in
          inr (record {
            m = m;
            after = omega arith;
            inside = less;
            held = ap (λ (x : Node). x.held) at ∙ parts.0;
            refers = ap (λ (x : Node). is_among x.refers n) (sym (all_at nodes m less) ∙ at) ∙ parts.1;
          }))
    ]

pub among_own : (nodes : List Node) (n : ℕ) → n < length nodes → (get_or nodes n nobody).held ≡ true → is_held_among nodes n ≡ true
among_own nodes n lt own = ap (λ (x : Node). x.held) (all_at nodes n lt) ∙ or_left _ _ own

pub among_other : (nodes : List Node) (m n : ℕ) → n < m → is_held_among nodes m ≡ true → is_among (get_or nodes m nobody).refers n ≡ true → is_held_among nodes n ≡ true
among_other nodes m n less is refers =
    let lt = held_inside nodes m is in
    let here : n < length nodes = omega (arith, lt, less) in
    let j = m - suc n in
    let same : suc n + j ≡ m = omega (arith, less) in
    let at : get_or (drop (suc n) (all_held nodes)) j nobody ≡ get_or (all_held nodes) m nobody = get_or-drop (suc n) (all_held nodes) j nobody ∙ ap (λ i. get_or (all_held nodes) i nobody) same in
    let holds : ((get_or (all_held nodes) m nobody).held && is_among (get_or (all_held nodes) m nobody).refers n) ≡ true = and_from _ _ is (ap (λ (x : Node). is_among x.refers n) (all_at nodes m lt) ∙ refers) in
    let size = length-drop (suc n) (all_held nodes) in
    let inside : j < length (drop (suc n) (all_held nodes)) = omega (arith, size, length-with_holders nodes 0, lt, less) in
    let other = list_any_at (λ node. node.held && is_among node.refers n) (drop (suc n) (all_held nodes)) j nobody inside (ap (λ (x : Node). x.held && is_among x.refers n) at ∙ holds) in
    ap (λ (x : Node). x.held) (all_at nodes n here) ∙ or_right _ _ other

-- the nodes of objects

length-nodes : (holds : ℕ → Holds) (m n : ℕ) → length (nodes_below holds m n) ≡ n
length-nodes holds m zero = refl
length-nodes holds m (suc n) = length_push (nodes_below holds m n) (node_in holds m n) ∙ (ap (λ k. k + 1) (length-nodes holds m n) ∙ omega arith)

node_at : (holds : ℕ → Holds) (m k n : ℕ) → n < k → get_or (nodes_below holds m k) n nobody ≡ node_in holds m n
node_at holds m zero n lt = absurd (omega (arith, lt))
node_at holds m (suc k) n lt = elim (cases_lt n k) [
  | inl less ↦ get_or_append_left (nodes_below holds m k) (node_in holds m k ∷ []) nobody n (let e = length-nodes holds m k in omega (arith, less, e)) ∙ node_at holds m k n less
  | inr more ↦ (let same : n ≡ k = omega (arith, lt, more) in
      rw same (get_or_push (nodes_below holds m k) (node_in holds m k) nobody k (length-nodes holds m k)))
]

-- Of the first m objects, what is held was made,
pub held_within : (holds : ℕ → Holds) (m n : ℕ) → is_held_in holds m n ≡ true → n < m
unfolding is_held_in
held_within holds m n e = let lt = held_inside (nodes_in holds m) n e in let same = length-nodes holds m m in omega (arith, lt, same)

-- a later one that is held and refers to object n
pub record Holder (holds : ℕ → Holds) (m n : ℕ) : Type 0 where
  pub k : ℕ
  pub after : n < k
  pub inside : k < m
  pub held : is_held_in holds m k ≡ true
  pub refers : is_among (holds k).refers n ≡ true

-- and is held by itself or by a holder;
pub held_cases : (holds : ℕ → Holds) (m n : ℕ) → is_held_in holds m n ≡ true → (is_root_in holds m n ≡ true) ⊎ Holder holds m n
unfolding is_held_in
held_cases holds m n e = elim (among_cases (nodes_in holds m) n e) [
  | inl own ↦ inl (sym (ap (λ (x : Node). x.held) (node_at holds m m n (held_within holds m n e))) ∙ own)
  | inr holder ↦ (
      let inside = holder.inside in
      let size = length-nodes holds m m in
      let below : holder.m < m = omega (arith, inside, size) in
      inr (record {
        k = holder.m;
        after = holder.after;
        inside = below;
        held = holder.held;
        refers = sym (ap (λ (x : Node). is_among x.refers n) (node_at holds m m holder.m below)) ∙ holder.refers;
      }))
]

-- what is a root is held,
pub root_held : (holds : ℕ → Holds) (m n : ℕ) → n < m → is_root_in holds m n ≡ true → is_held_in holds m n ≡ true
unfolding is_held_in
root_held holds m n lt root = among_own (nodes_in holds m) n (let size = length-nodes holds m m in omega (arith, lt, size)) (ap (λ (x : Node). x.held) (node_at holds m m n lt) ∙ root)

-- and so is that to which a later one refers that is held.
pub referred_held : (holds : ℕ → Holds) (m k n : ℕ) → n < k → is_held_in holds m k ≡ true → is_among (holds k).refers n ≡ true → is_held_in holds m n ≡ true
unfolding is_held_in
referred_held holds m k n less held refers = among_other (nodes_in holds m) k n less held (ap (λ (x : Node). is_among x.refers n) (node_at holds m m k (held_within holds m k held)) ∙ refers)
