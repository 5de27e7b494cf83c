-- An object is held exactly where its count is not 0.
use Rattle.std.proofs.Common.{◌≡◌, ◌≢◌, ℕ, zero, suc, ◌+◌, ◌-◌, ◌<◌, ◌≤◌, Bool, true, false, not, ◌&&◌, ◌||◌, nat_lt, List, [], ◌∷◌, ◌++◌, length, length-set, set, get_or, drop, inl, inr, refl, sym, ap, ap₂, ◌∙◌, arith, if◌then◌else◌, true≢false}
use Rattle.std.proofs.lemmas.Bool.{cases_eq, cases_lt, eq-eqb, lt-ltb, ltb-true, false_from_ne_true}
use Rattle.std.proofs.lemmas.List.{get_or-set_same, get_or-set_other, get_or_append_left, get_or_push, get_or_past, get_or_read, drop_more, length_push}
use Rattle.wg_model.specs.Holding.{Node, nobody, is_among, is_held_among}
use Rattle.wg_counts.specs.Counts.{own_at, refers_in, node_at, counted_below, is_counted, times}
use Rattle.wg_counts.specs.Kept.{count_at, is_alive, sum_alive, references, living, AreHolders, GoBack, AreWithin, IsKept, HaveFallen}
use Rattle.wg_model.proofs.Holding.{held_inside, among_cases, among_own, among_other}
use Rattle.wg_counts.proofs.Sums.{sum_same, sum_weights, sum_some, alive_set, times_here, times_at, times_other, times_le, among_times, times_among}

pub length-counted_below : (own : List ℕ) (refers : List (List ℕ)) (m : ℕ) → length (counted_below own refers m) ≡ m
length-counted_below own refers zero = refl
length-counted_below own refers (suc m) = let e = length-counted_below own refers m in let f = length_push (counted_below own refers m) (node_at own refers m) in omega (arith, e, f)

pub counted_at : (own : List ℕ) (refers : List (List ℕ)) (m k : ℕ) → k < m → get_or (counted_below own refers m) k nobody ≡ node_at own refers k
counted_at own refers zero k lt = absurd (omega (arith, lt))
counted_at own refers (suc m) k lt =
    let size = length-counted_below own refers m in
    elim (cases_lt k m) [
      | inl less ↦ get_or_append_left (counted_below own refers m) (node_at own refers m ∷ []) nobody k (omega (arith, size, less)) ∙ counted_at own refers m k less
      | inr more ↦ (let e : m ≡ k = omega (arith, lt, more) in get_or_push (counted_below own refers m) (node_at own refers m) nobody k (size ∙ e) ∙ ap (node_at own refers) e)
    ]

record Referrer (alive : ℕ → Bool) (refers : ℕ → List ℕ) (n m : ℕ) : Type 0 where
  k : ℕ
  lt : k < m
  is : alive k ≡ true
  to : is_among (refers k) n ≡ true

referrer_of : (alive : ℕ → Bool) (refers : ℕ → List ℕ) (n m : ℕ) → 0 < sum_alive alive (λ k. times n (refers k)) m → Referrer alive refers n m
referrer_of alive refers n zero h = absurd (omega (arith, h))
referrer_of alive refers n (suc m) h = by_alive (alive m) refl h (referrer_of alive refers n m)
  where
    by_alive : (b : Bool) → alive m ≡ b → 0 < sum_alive alive (λ k. times n (refers k)) m + (if b then times n (refers m) else 0) → (0 < sum_alive alive (λ k. times n (refers k)) m → Referrer alive refers n m) → Referrer alive refers n (suc m)
    by_alive true e h rest = elim (cases_lt 0 (times n (refers m))) [
      | inl some ↦ record { k = m; lt = omega arith; is = e; to = among_times (refers m) n some }
      | inr none ↦ (let found = rest (omega (arith, h, none)) in let lt = found.lt in record { k = found.k; lt = omega (arith, lt); is = found.is; to = found.to })
    ]
    by_alive false e h rest = let found = rest (omega (arith, h)) in let lt = found.lt in record { k = found.k; lt = omega (arith, lt); is = found.is; to = found.to }

held_upto : (own : ℕ → ℕ) (refers : ℕ → List ℕ) (counts : List ℕ) (nodes : List Node) (fuel n : ℕ) → AreHolders own refers counts → GoBack refers → length nodes ≡ length counts
    → ((k : ℕ) → k < length counts → (get_or nodes k nobody).held ≡ nat_lt 0 (own k)) → ((k : ℕ) → k < length counts → (get_or nodes k nobody).refers ≡ refers k)
    → length counts ≤ n + fuel → n < length counts → (is_alive counts n ≡ true → is_held_among nodes n ≡ true) × (is_held_among nodes n ≡ true → is_alive counts n ≡ true)
held_upto own refers counts nodes zero n are back len roots lists le lt = absurd (omega (arith, le, lt))
held_upto own refers counts nodes (suc fuel) n are back len roots lists le lt =
    let rest : (m : ℕ) → n < m → m < length counts → (is_alive counts m ≡ true → is_held_among nodes m ≡ true) × (is_held_among nodes m ≡ true → is_alive counts m ≡ true) = λ m after inside. held_upto own refers counts nodes fuel m are back len roots lists (omega (arith, le, after)) inside in
    (there rest, here rest)
  where
    there : ((m : ℕ) → n < m → m < length counts → (is_alive counts m ≡ true → is_held_among nodes m ≡ true) × (is_held_among nodes m ≡ true → is_alive counts m ≡ true)) → is_alive counts n ≡ true → is_held_among nodes n ≡ true
    there rest e =
        let was = are.each n in
        let some : 0 < count_at counts n = ltb-true 0 (count_at counts n) e in
        elim (cases_lt 0 (own n)) [
          | inl own_some ↦ among_own nodes n (omega (arith, lt, len)) (roots n lt ∙ lt-ltb 0 (own n) own_some)
          | inr none ↦ (
              let found = referrer_of (is_alive counts) refers n (length counts) (omega (arith, was, some, none)) in
              let after : n < found.k = back.back found.k n found.to in
              among_other nodes found.k n after ((rest found.k after found.lt).0 found.is) (ap (λ list. is_among list n) (lists found.k found.lt) ∙ found.to))
        ]

    here : ((m : ℕ) → n < m → m < length counts → (is_alive counts m ≡ true → is_held_among nodes m ≡ true) × (is_held_among nodes m ≡ true → is_alive counts m ≡ true)) → is_held_among nodes n ≡ true → is_alive counts n ≡ true
    here rest e =
        let was = are.each n in
        elim (among_cases nodes n e) [
          | inl root ↦ (let some : 0 < own n = ltb-true 0 (own n) (sym (roots n lt) ∙ root) in lt-ltb 0 (count_at counts n) (omega (arith, was, some)))
          | inr holder ↦ (
              let after = holder.after in
              let inside = holder.inside in
              let below : holder.m < length counts = omega (arith, inside, len) in
              let some = sum_some (is_alive counts) (λ k. times n (refers k)) holder.m (length counts) below ((rest holder.m after below).1 holder.held) (times_among (refers holder.m) n (ap (λ list. is_among list n) (sym (lists holder.m below)) ∙ holder.refers)) in
              lt-ltb 0 (count_at counts n) (omega (arith, was, some)))
        ]

pub counts_held : (own : List ℕ) (refers : List (List ℕ)) (counts : List ℕ) (n : ℕ) → IsKept own refers counts → is_alive counts n ≡ is_counted own refers n
unfolding is_counted
counts_held own refers counts n kept = elim (cases_lt n (length counts)) [
  | inl lt ↦ (let both = held_upto (own_at own) (refers_in refers) counts nodes (length counts) n kept.holders kept.back len roots lists (omega arith) lt in
      by_values (is_alive counts n) (is_held_among nodes n) both.0 both.1)
  | inr past ↦ (let none : count_at counts n ≡ 0 = get_or_past counts n 0 past in
      ap (nat_lt 0) none ∙ sym (false_from_ne_true (is_held_among nodes n) (λ e. let lt = held_inside nodes n e in absurd (omega (arith, lt, len, past)))))
]
  where
    by_values : (a b : Bool) → (a ≡ true → b ≡ true) → (b ≡ true → a ≡ true) → a ≡ b
    by_values true b f g = sym (f refl)
    by_values false true f g = g refl
    by_values false false f g = refl

    nodes : List Node
    nodes = counted_below own refers (length own)

    len : length (counted_below own refers (length own)) ≡ length counts
    len = length-counted_below own refers (length own) ∙ kept.owns

    roots : (k : ℕ) → k < length counts → (get_or (counted_below own refers (length own)) k nobody).held ≡ nat_lt 0 (own_at own k)
    roots k lt = let e = kept.owns in ap (λ (x : Node). x.held) (counted_at own refers (length own) k (omega (arith, lt, e)))

    lists : (k : ℕ) → k < length counts → (get_or (counted_below own refers (length own)) k nobody).refers ≡ refers_in refers k
    lists k lt = let e = kept.owns in ap (λ (x : Node). x.refers) (counted_at own refers (length own) k (omega (arith, lt, e)))

-- where the same are alive, the same are held
pub held_same : (own : List ℕ) (refers : List (List ℕ)) (counts next : List ℕ) (lists : List (List ℕ)) (after : List ℕ) (n : ℕ) → IsKept own refers counts → IsKept next lists after → is_alive after n ≡ is_alive counts n → is_counted next lists n ≡ is_counted own refers n
held_same own refers counts next lists after n kept later same = sym (counts_held next lists after n later) ∙ (same ∙ counts_held own refers counts n kept)

pub same_count : (counts : List ℕ) (k c : ℕ) → k < length counts → c ≡ get_or counts k c → c ≡ count_at counts k
same_count counts k c lt e = get_or_read counts k c lt e 0

-- A hold more of an object that is alive.

pub alive_more : (counts : List ℕ) (k c : ℕ) → k < length counts → c ≡ count_at counts k → 0 < c → (i : ℕ) → is_alive (set counts k (c + 1)) i ≡ is_alive counts i
alive_more counts k c lt is some i = elim (cases_eq i k) [
  | inl same ↦ rw same (ap (nat_lt 0) (get_or-set_same counts k (c + 1) 0 lt) ∙ (lt-ltb 0 (c + 1) (omega arith) ∙ sym (lt-ltb 0 (count_at counts k) (omega (arith, is, some)))))
  | inr other ↦ sym (alive_set counts k (c + 1) i other)
]

sums_more : (counts : List ℕ) (k c : ℕ) → k < length counts → c ≡ count_at counts k → 0 < c → (weight : ℕ → ℕ) → sum_alive (is_alive (set counts k (c + 1))) weight (length (set counts k (c + 1))) ≡ sum_alive (is_alive counts) weight (length counts)
sums_more counts k c lt is some weight = ap (sum_alive (is_alive (set counts k (c + 1))) weight) (length-set counts k (c + 1)) ∙ sum_same (is_alive (set counts k (c + 1))) (is_alive counts) weight (length counts) (λ i inside. alive_more counts k c lt is some i)

pub living_more : (counts : List ℕ) (k c : ℕ) → k < length counts → c ≡ count_at counts k → 0 < c → living (set counts k (c + 1)) ≡ living counts
living_more counts k c lt is some = sums_more counts k c lt is some (λ m. 1)

pub within_more : (taken : ℕ) (counts : List ℕ) (k c : ℕ) → k < length counts → c ≡ count_at counts k → AreWithin taken counts → AreWithin (taken + 1) (set counts k (c + 1))
within_more taken counts k c lt is within = record {
  each = λ n. elim (cases_eq n k) [
    | inl same ↦ (let now : count_at (set counts k (c + 1)) n ≡ c + 1 = rw same (get_or-set_same counts k (c + 1) 0 lt) in
        let was = within.each k in
        omega (arith, now, was, is))
    | inr other ↦ (let now = get_or-set_other counts k n (c + 1) 0 other in
        let was = within.each n in
        omega (arith, now, was))
  ];
}

pub kept_more : (own : List ℕ) (refers : List (List ℕ)) (counts : List ℕ) (k o c : ℕ) → IsKept own refers counts → k < length counts → o ≡ own_at own k → c ≡ count_at counts k → 0 < c → IsKept (set own k (o + 1)) refers (set counts k (c + 1))
kept_more own refers counts k o c kept lt own_is is some = record {
  holders = record {
    each = λ n.
        let was = kept.holders.each n in
        let sums = sums_more counts k c lt is some (λ m. times n (refers_in refers m)) in
        elim (cases_eq n k) [
          | inl same ↦ (let now : count_at (set counts k (c + 1)) n ≡ c + 1 = rw same (get_or-set_same counts k (c + 1) 0 lt) in
              let lt_own : k < length own = (let e = kept.owns in omega (arith, lt, e)) in
              let own_now : own_at (set own k (o + 1)) n ≡ o + 1 = rw same (get_or-set_same own k (o + 1) 0 lt_own) in
              let old : count_at counts n ≡ count_at counts k = ap (count_at counts) same in
              let own_old : own_at own n ≡ own_at own k = ap (own_at own) same in
              omega (arith, was, sums, now, own_now, old, own_old, own_is, is))
          | inr other ↦ (let now = get_or-set_other counts k n (c + 1) 0 other in
              let own_now = get_or-set_other own k n (o + 1) 0 other in
              omega (arith, was, sums, now, own_now))
        ];
  };
  back = kept.back;
  owns = length-set own k (o + 1) ∙ (kept.owns ∙ sym (length-set counts k (c + 1)));
  lists = kept.lists ∙ sym (length-set counts k (c + 1));
}

-- counts with a hold more of an object that is held
pub record HasOneMore (own : List ℕ) (refers : List (List ℕ)) (counts : List ℕ) (k o c : ℕ) : Type 0 where
  pub lt : k < length counts
  pub is : c ≡ count_at counts k
  pub some : 0 < c
  pub kept : IsKept (set own k (o + 1)) refers (set counts k (c + 1))
  pub same : (n : ℕ) → is_counted (set own k (o + 1)) refers n ≡ is_counted own refers n

pub held_more : (own : List ℕ) (refers : List (List ℕ)) (counts : List ℕ) (k o c : ℕ) → IsKept own refers counts → is_counted own refers k ≡ true → k < length own → o ≡ get_or own k o → c ≡ get_or counts k c
    → HasOneMore own refers counts k o c
held_more own refers counts k o c kept held inside own_is count_is =
    let owns = kept.owns in
    let lt : k < length counts = omega (arith, inside, owns) in
    let is = same_count counts k c lt count_is in
    let some : 0 < c = omega (arith, is, ltb-true 0 (count_at counts k) (counts_held own refers counts k kept ∙ held)) in
    let more = kept_more own refers counts k o c kept lt (same_count own k o inside own_is) is some in
    record {
      lt = lt;
      is = is;
      some = some;
      kept = more;
      same = λ n. held_same own refers counts (set own k (o + 1)) refers (set counts k (c + 1)) n kept more (alive_more counts k c lt is some n);
    }

-- The references of a new object are counted one after another.

pub raised_next : (counts list : List ℕ) (i c : ℕ) → i < length list → get_or list i 0 < length counts → c ≡ count_at counts (get_or list i 0) → (n : ℕ) → count_at (set counts (get_or list i 0) (c + 1)) n + times n (drop (i + 1) list) ≡ count_at counts n + times n (drop i list)
raised_next counts list i c lt inside is n =
    let more : times n (drop i list) ≡ times n (get_or list i 0 ∷ drop (i + 1) list) = ap (λ xs. times n xs) (drop_more list i 0 lt) in
    elim (cases_eq n (get_or list i 0)) [
      | inl same ↦ (let now : count_at (set counts (get_or list i 0) (c + 1)) n ≡ c + 1 = rw same (get_or-set_same counts (get_or list i 0) (c + 1) 0 inside) in
          let old : count_at counts n ≡ count_at counts (get_or list i 0) = ap (count_at counts) same in
          let one : times n (get_or list i 0 ∷ drop (i + 1) list) ≡ 1 + times n (drop (i + 1) list) = ap (λ b. (if b then 1 else 0) + times n (drop (i + 1) list)) (eq-eqb (get_or list i 0) n (sym same)) in
          omega (arith, more, now, old, one, is))
      | inr other ↦ (let now = get_or-set_other counts (get_or list i 0) n (c + 1) 0 other in
          let none = times_other (drop (i + 1) list) (get_or list i 0) n other in
          omega (arith, more, now, none))
    ]

-- a count that is raised next is at most the old one and the number of references
pub raised_room : (counts first list : List ℕ) (i : ℕ) → i < length list → count_at counts (get_or list i 0) + times (get_or list i 0) (drop i list) ≡ count_at first (get_or list i 0) + times (get_or list i 0) list → count_at counts (get_or list i 0) + 1 ≤ count_at first (get_or list i 0) + length list
raised_room counts first list i lt each =
    let more : times (get_or list i 0) (drop i list) ≡ times (get_or list i 0) (get_or list i 0 ∷ drop (i + 1) list) = ap (λ xs. times (get_or list i 0) xs) (drop_more list i 0 lt) in
    let one = times_here (drop (i + 1) list) (get_or list i 0) in
    let le = times_le list (get_or list i 0) in
    omega (arith, each, more, one, le)

-- A new object, which refers to objects that are alive.

added_count : (raised : List ℕ) (n : ℕ) → n ≢ length raised → count_at (raised ++ 1 ∷ []) n ≡ count_at raised n
added_count raised n other = elim (cases_lt n (length raised)) [
  | inl lt ↦ get_or_append_left raised (1 ∷ []) 0 n lt
  | inr past ↦ (let size = length_push raised 1 in get_or_past (raised ++ 1 ∷ []) n 0 (omega (arith, size, past, other)) ∙ sym (get_or_past raised n 0 past))
]

alive_raised : (counts raised list : List ℕ) → ((n : ℕ) → count_at raised n ≡ count_at counts n + times n list) → ((n : ℕ) → is_among list n ≡ true → is_alive counts n ≡ true) → (n : ℕ) → is_alive raised n ≡ is_alive counts n
alive_raised counts raised list each held n = elim (cases_lt 0 (times n list)) [
  | inl some ↦ (let e = each n in lt-ltb 0 (count_at raised n) (omega (arith, e, some)) ∙ sym (held n (among_times list n some)))
  | inr none ↦ (let e = each n in let same : count_at raised n ≡ count_at counts n = omega (arith, e, none) in ap (nat_lt 0) same)
]

pub alive_added : (counts raised list : List ℕ) → length raised ≡ length counts → ((n : ℕ) → count_at raised n ≡ count_at counts n + times n list) → ((n : ℕ) → is_among list n ≡ true → is_alive counts n ≡ true) → (n : ℕ) → n ≢ length counts → is_alive (raised ++ 1 ∷ []) n ≡ is_alive counts n
alive_added counts raised list len each held n other = ap (nat_lt 0) (added_count raised n (λ e. other (e ∙ len))) ∙ alive_raised counts raised list each held n

sums_added : (counts raised list : List ℕ) → length raised ≡ length counts → ((n : ℕ) → count_at raised n ≡ count_at counts n + times n list) → ((n : ℕ) → is_among list n ≡ true → is_alive counts n ≡ true) → (weight : ℕ → ℕ) → sum_alive (is_alive (raised ++ 1 ∷ [])) weight (length (raised ++ 1 ∷ [])) ≡ sum_alive (is_alive counts) weight (length counts) + weight (length counts)
sums_added counts raised list len each held weight =
    let size : length (raised ++ 1 ∷ []) ≡ suc (length counts) = (let e = length_push raised 1 in omega (arith, e, len)) in
    let before : sum_alive (is_alive (raised ++ 1 ∷ [])) weight (length counts) ≡ sum_alive (is_alive counts) weight (length counts) = sum_same (is_alive (raised ++ 1 ∷ [])) (is_alive counts) weight (length counts) (λ k lt. alive_added counts raised list len each held k (λ e. omega (arith, e, lt))) in
    let new : is_alive (raised ++ 1 ∷ []) (length counts) ≡ true = ap (nat_lt 0) (get_or_push raised 1 0 (length counts) len) in
    ap (sum_alive (is_alive (raised ++ 1 ∷ [])) weight) size ∙ ap₂ ◌+◌ before (ap (λ b. if b then weight (length counts) else 0) new)

pub living_added : (counts raised list : List ℕ) → length raised ≡ length counts → ((n : ℕ) → count_at raised n ≡ count_at counts n + times n list) → ((n : ℕ) → is_among list n ≡ true → is_alive counts n ≡ true) → living (raised ++ 1 ∷ []) ≡ living counts + 1
living_added counts raised list len each held = sums_added counts raised list len each held (λ m. 1)

pub within_added : (taken : ℕ) (counts raised list : List ℕ) → length raised ≡ length counts → ((n : ℕ) → count_at raised n ≡ count_at counts n + times n list) → AreWithin taken counts → AreWithin (taken + (length list + 1)) (raised ++ 1 ∷ [])
within_added taken counts raised list len each within = record {
  each = λ n. elim (cases_eq n (length raised)) [
    | inl same ↦ (let now = get_or_push raised 1 0 n (sym same) in omega (arith, now))
    | inr other ↦ (let now = added_count raised n other in
        let e = each n in
        let was = within.each n in
        let le = times_le list n in
        omega (arith, now, e, was, le))
  ];
}

pub kept_added : (own : List ℕ) (refers : List (List ℕ)) (counts raised list : List ℕ) → IsKept own refers counts → length raised ≡ length counts → ((n : ℕ) → count_at raised n ≡ count_at counts n + times n list) → ((n : ℕ) → is_among list n ≡ true → n < length own) → ((n : ℕ) → is_among list n ≡ true → is_counted own refers n ≡ true) → IsKept (own ++ 1 ∷ []) (refers ++ list ∷ []) (raised ++ 1 ∷ [])
kept_added own refers counts raised list kept len each back held = record {
  holders = record {
    each = λ n.
        let was = kept.holders.each n in
        let weights : sum_alive (is_alive counts) (λ m. times n (refers_in (refers ++ list ∷ []) m)) (length counts) ≡ references counts (refers_in refers) n = sum_weights (is_alive counts) (λ m. times n (refers_in (refers ++ list ∷ []) m)) (λ m. times n (refers_in refers m)) (length counts) (λ k lt. ap (λ xs. times n xs) (lists_old k (λ e. omega (arith, e, lt)))) in
        let new : times n (refers_in (refers ++ list ∷ []) (length counts)) ≡ times n list = ap (λ xs. times n xs) lists_new in
        let sums = sums_added counts raised list len each alive (λ m. times n (refers_in (refers ++ list ∷ []) m)) in
        let e = each n in
        elim (cases_eq n (length counts)) [
          | inl same ↦ (let now = get_or_push raised 1 0 n (len ∙ sym same) in
              let own_now = get_or_push own 1 0 n (kept.owns ∙ sym same) in
              let none = get_or_past raised n 0 (omega (arith, len, same)) in
              omega (arith, was, weights, new, sums, e, now, own_now, none))
          | inr other ↦ (let now = added_count raised n (λ f. other (f ∙ len)) in
              let own_now = added_count own n (λ f. other (f ∙ kept.owns)) in
              omega (arith, was, weights, new, sums, e, now, own_now))
        ];
  };
  back = record {
    back = λ m n e. elim (cases_eq m (length counts)) [
      | inl same ↦ (let lt = back n (ap (λ xs. is_among xs n) (sym (ap (refers_in (refers ++ list ∷ [])) same ∙ lists_new)) ∙ e) in let owns = kept.owns in omega (arith, lt, owns, same))
      | inr other ↦ kept.back.back m n (ap (λ xs. is_among xs n) (sym (lists_old m other)) ∙ e)
    ];
  };
  owns = length_push own 1 ∙ (ap (λ n. n + 1) (kept.owns ∙ sym len) ∙ sym (length_push raised 1));
  lists = length_push refers list ∙ (ap (λ n. n + 1) (kept.lists ∙ sym len) ∙ sym (length_push raised 1));
}
  where
    alive : (n : ℕ) → is_among list n ≡ true → is_alive counts n ≡ true
    alive n e = counts_held own refers counts n kept ∙ held n e

    lists_new : refers_in (refers ++ list ∷ []) (length counts) ≡ list
    lists_new = get_or_push refers list [] (length counts) kept.lists

    lists_old : (m : ℕ) → m ≢ length counts → refers_in (refers ++ list ∷ []) m ≡ refers_in refers m
    lists_old m other = elim (cases_lt m (length refers)) [
      | inl lt ↦ get_or_append_left refers (list ∷ []) [] m lt
      | inr past ↦ (let size = length_push refers list in let lists = kept.lists in get_or_past (refers ++ list ∷ []) m [] (omega (arith, size, past, other, lists)) ∙ sym (get_or_past refers m [] past))
    ]

pub held_added : (own : List ℕ) (refers : List (List ℕ)) (counts raised list : List ℕ) → IsKept own refers counts → length raised ≡ length counts → ((n : ℕ) → count_at raised n ≡ count_at counts n + times n list) → ((n : ℕ) → is_among list n ≡ true → n < length own) → ((n : ℕ) → is_among list n ≡ true → is_counted own refers n ≡ true) → (n : ℕ) → n < length own → is_counted (own ++ 1 ∷ []) (refers ++ list ∷ []) n ≡ is_counted own refers n
held_added own refers counts raised list kept len each back held n lt =
    let owns = kept.owns in
    held_same own refers counts (own ++ 1 ∷ []) (refers ++ list ∷ []) (raised ++ 1 ∷ []) n kept (kept_added own refers counts raised list kept len each back held) (alive_added counts raised list len each (λ m e. counts_held own refers counts m kept ∙ held m e) n (λ e. omega (arith, e, lt, owns)))

-- counts with a new object of one hold, whose references were counted
pub record HasAdded (own : List ℕ) (refers : List (List ℕ)) (counts raised list : List ℕ) : Type 0 where
  pub kept : IsKept (own ++ 1 ∷ []) (refers ++ list ∷ []) (raised ++ 1 ∷ [])
  pub lives : living (raised ++ 1 ∷ []) ≡ living counts + 1
  pub within : (taken : ℕ) → AreWithin taken counts → AreWithin (taken + (length list + 1)) (raised ++ 1 ∷ [])
  pub same : (n : ℕ) → n < length own → is_counted (own ++ 1 ∷ []) (refers ++ list ∷ []) n ≡ is_counted own refers n

pub object_added : (own : List ℕ) (refers : List (List ℕ)) (counts raised list items : List ℕ) → IsKept own refers counts → length raised ≡ length counts → ((n : ℕ) → count_at raised n ≡ count_at counts n + times n items) → items ≡ list
    → ((n : ℕ) → is_among list n ≡ true → n < length own) → ((n : ℕ) → is_among list n ≡ true → is_counted own refers n ≡ true) → HasAdded own refers counts raised list
object_added own refers counts raised list items kept len counted items_are back held = record {
  kept = kept_added own refers counts raised list kept len each back held;
  lives = living_added counts raised list len each (λ n e. counts_held own refers counts n kept ∙ held n e);
  within = λ taken. within_added taken counts raised list len each;
  same = held_added own refers counts raised list kept len each back held;
}
  where
    each : (n : ℕ) → count_at raised n ≡ count_at counts n + times n list
    each n = counted n ∙ ap (λ xs. count_at counts n + times n xs) items_are

-- A hold that ended.

pub owns_lowered : (own : List ℕ) (refers : ℕ → List ℕ) (counts : List ℕ) (k o : ℕ) → 0 < own_at own k → k < length own → o ≡ own_at own k → AreHolders (own_at own) refers counts → AreHolders (λ n. own_at (set own k (o - 1)) n + times n (k ∷ [])) refers counts
owns_lowered own refers counts k o some lt is are = record {
  each = λ n.
      let was = are.each n in
      elim (cases_eq n k) [
        | inl same ↦ (let now : own_at (set own k (o - 1)) n ≡ o - 1 = rw same (get_or-set_same own k (o - 1) 0 lt) in
            let old : own_at own n ≡ own_at own k = ap (own_at own) same in
            let one : times n (k ∷ []) ≡ 1 + times n [] = times_at [] k n same in
            omega (arith, was, now, old, one, is, some))
        | inr other ↦ (let now = get_or-set_other own k n (o - 1) 0 other in
            let none = times_other [] k n other in
            omega (arith, was, now, none))
      ];
}

pub kept_lowered : (own : List ℕ) (refers : List (List ℕ)) (counts fallen : List ℕ) (k o : ℕ) (next_own next after : List ℕ) → IsKept own refers counts → next_own ≡ set own k o → AreHolders (own_at next_own) (refers_in refers) next → HaveFallen counts fallen next after → IsKept next_own refers next
kept_lowered own refers counts fallen k o next_own next after kept is holders falls = record {
  holders = holders;
  back = kept.back;
  owns = ap length is ∙ (length-set own k o ∙ (kept.owns ∙ sym falls.len));
  lists = kept.lists ∙ sym falls.len;
}

-- nothing that was not alive is alive
alive_before : (counts fallen next after : List ℕ) → HaveFallen counts fallen next after → (n : ℕ) → is_alive next n ≡ true → is_alive counts n ≡ true
alive_before counts fallen next after falls n e =
    let some = ltb-true 0 (count_at next n) e in
    let below = falls.below n in
    lt-ltb 0 (count_at counts n) (omega (arith, some, below))

pub listed_fallen : (own : List ℕ) (refers : List (List ℕ)) (counts fallen next_own next after : List ℕ) → IsKept own refers counts → IsKept next_own refers next → HaveFallen counts fallen next after → (n : ℕ) → is_among after n ≡ is_among fallen n || (is_counted own refers n && not (is_counted next_own refers n))
listed_fallen own refers counts fallen next_own next after kept later falls n = falls.listed n ∙ ap₂ (λ a b. is_among fallen n || (a && not b)) (counts_held own refers counts n kept) (counts_held next_own refers next n later)

pub once_fallen : (own : List ℕ) (refers : List (List ℕ)) (counts fallen next_own next after : List ℕ) → IsKept own refers counts → IsKept next_own refers next → HaveFallen counts fallen next after
    → (n : ℕ) → times n after ≡ times n fallen + (if is_counted own refers n && not (is_counted next_own refers n) then 1 else 0)
once_fallen own refers counts fallen next_own next after kept later falls n =
    by_alive (is_alive counts n) (is_alive next n) (alive_before counts fallen next after falls n) (falls.once n)
    ∙ ap₂ (λ a b. times n fallen + (if a && not b then 1 else 0)) (counts_held own refers counts n kept) (counts_held next_own refers next n later)
  where
    by_alive : (a b : Bool) → (b ≡ true → a ≡ true) → times n after + (if b then 1 else 0) ≡ times n fallen + (if a then 1 else 0) → times n after ≡ times n fallen + (if a && not b then 1 else 0)
    by_alive true true less e = omega (arith, e)
    by_alive true false less e = omega (arith, e)
    by_alive false true less e = absurd (true≢false (sym (less refl)))
    by_alive false false less e = omega (arith, e)

pub held_before : (own : List ℕ) (refers : List (List ℕ)) (counts fallen next_own next after : List ℕ) → IsKept own refers counts → IsKept next_own refers next → HaveFallen counts fallen next after → (n : ℕ) → is_counted next_own refers n ≡ true → is_counted own refers n ≡ true
held_before own refers counts fallen next_own next after kept later falls n e =
    sym (counts_held own refers counts n kept) ∙ alive_before counts fallen next after falls n (counts_held next_own refers next n later ∙ e)
