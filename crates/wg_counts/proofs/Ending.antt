-- A hold ends, and what falls by it is listed.
use Rattle.std.proofs.Common.{◌≡◌, ℕ, ◌+◌, ◌-◌, ◌<◌, ◌≤◌, Bool, true, false, not, ◌&&◌, ◌||◌, ◌==◌, nat_lt, List, [], ◌∷◌, ◌++◌, length, length-set, set, get_or, drop, inl, inr, refl, sym, ap, ap₂, subst, ◌∙◌, arith, if◌then◌else◌, true≢false}
use Rattle.std.proofs.lemmas.Bool.{cases_eq, cases_lt, eq-eqb, ne_eqb, eqb-true, lt-ltb, or_cases, or_left, or_right}
use Rattle.std.proofs.lemmas.List.{get_or-set_same, get_or-set_other, drop_more, drop_all, drop-append-le, length_push, append-nil}
use Rattle.std.proofs.lemmas.List.Folds.{list_any-append}
use Rattle.wg_model.specs.Holding.{is_among}
use Rattle.wg_counts.specs.Counts.{times}
use Rattle.wg_counts.specs.Kept.{count_at, is_alive, sum_alive, references, living, AreHolders, pending, IsEnding}
use Rattle.wg_counts.proofs.Sums.{sum_same, sum_less, held_inside, living_some, alive_set, times_here, times_at, times_other, times_push, pending_push, one_if, one_true, one_false, at_same, at_other}

holders_as : (own other : ℕ → ℕ) (refers : ℕ → List ℕ) (counts : List ℕ) → ((n : ℕ) → own n ≡ other n) → AreHolders own refers counts → AreHolders other refers counts
holders_as own other refers counts same are = record { each = λ n. are.each n ∙ ap (λ k. k + references counts refers n) (same n) }

pub among_push : (list : List ℕ) (k n : ℕ) → is_among (list ++ k ∷ []) n ≡ (is_among list n || (k == n))
among_push list k n = list_any-append (λ m. m == n) list (k ∷ []) ∙ ap (λ b. is_among list n || b) (or_none (k == n))
  where
    or_none : (b : Bool) → (b || false) ≡ b
    or_none true = refl
    or_none false = refl

or_and_not : (a b : Bool) → a ≡ (a || (b && not b))
or_and_not true b = refl
or_and_not false true = refl
or_and_not false false = refl

pub ending_start : (own : ℕ → ℕ) (refers : ℕ → List ℕ) (counts fallen : List ℕ) (k : ℕ) → k < length counts → AreHolders (λ n. own n + times n (k ∷ [])) refers counts → IsEnding own refers counts fallen counts fallen (length fallen) (k ∷ [])
ending_start own refers counts fallen k lt are =
    let none : drop (length fallen) fallen ≡ [] = drop_all (length fallen) fallen (omega arith) in
    record {
      falls = record { len = refl; below = λ n. omega arith; listed = λ n. or_and_not (is_among fallen n) (is_alive counts n); once = λ n. refl; room = refl };
      holders = rw none (holders_as (λ n. own n + times n (k ∷ [])) (λ n. own n + (times n (k ∷ []) + 0)) refers counts (λ n. omega arith) are);
      inside = λ n e. absurd (true≢false (sym e ∙ ap (λ list. is_among list n) none));
      reached = omega arith;
    }

-- the object whose hold is to end has one
pub ending_held : (own : ℕ → ℕ) (refers : ℕ → List ℕ) (first before counts fallen : List ℕ) (place : ℕ) (k : ℕ) (rest : List ℕ) → IsEnding own refers first before counts fallen place (k ∷ rest) → 0 < count_at counts k
ending_held own refers first before counts fallen place k rest ending =
    let was = ending.holders.each k in
    let one = times_here rest k in
    omega (arith, was, one)

-- A count above 1 falls by 1, and all stay alive.
lowered_some : (own : ℕ → ℕ) (refers : ℕ → List ℕ) (first before counts fallen : List ℕ) (place : ℕ) (k : ℕ) (rest : List ℕ) → IsEnding own refers first before counts fallen place (k ∷ rest) → 1 < count_at counts k → IsEnding own refers first before (set counts k (count_at counts k - 1)) fallen place rest
lowered_some own refers first before counts fallen place k rest ending above = record {
  falls = record {
    len = size ∙ ending.falls.len;
    below = λ n. elim (cases_eq n k) [
      | inl same ↦ (let now : count_at (set counts k (count_at counts k - 1)) n ≡ count_at counts k - 1 = rw same here in
          let old : count_at counts n ≡ count_at counts k = ap (count_at counts) same in
          let was = ending.falls.below n in
          omega (arith, now, old, was))
      | inr other ↦ (let now : count_at (set counts k (count_at counts k - 1)) n ≡ count_at counts n = get_or-set_other counts k n (count_at counts k - 1) 0 other in
          let was = ending.falls.below n in
          omega (arith, now, was))
    ];
    listed = λ n. ending.falls.listed n ∙ ap (λ b. is_among before n || (is_alive first n && not b)) (sym (still n));
    once = λ n. ap (λ b. times n fallen + (if b then 1 else 0)) (still n) ∙ ending.falls.once n;
    room = (let was = ending.falls.room in let now = sums (λ m. 1) in omega (arith, was, now));
  };
  holders = record {
    each = λ n.
        let was = ending.holders.each n in
        let now = sums (λ m. times n (refers m)) in
        elim (cases_eq n k) [
          | inl same ↦ (let here_now : count_at (set counts k (count_at counts k - 1)) n ≡ count_at counts k - 1 = rw same here in
              let old : count_at counts n ≡ count_at counts k = ap (count_at counts) same in
              let one : times n (k ∷ rest) ≡ 1 + times n rest = times_at rest k n same in
              omega (arith, was, now, here_now, old, one, above))
          | inr other ↦ (let there : count_at (set counts k (count_at counts k - 1)) n ≡ count_at counts n = get_or-set_other counts k n (count_at counts k - 1) 0 other in
              let none = times_other rest k n other in
              omega (arith, was, now, there, none))
        ];
  };
  inside = ending.inside;
  reached = ending.reached;
}
  where
    lt : k < length counts
    lt = held_inside counts k (omega (arith, above))

    size : length (set counts k (count_at counts k - 1)) ≡ length counts
    size = length-set counts k (count_at counts k - 1)

    here : count_at (set counts k (count_at counts k - 1)) k ≡ count_at counts k - 1
    here = get_or-set_same counts k (count_at counts k - 1) 0 lt

    still : (i : ℕ) → is_alive (set counts k (count_at counts k - 1)) i ≡ is_alive counts i
    still i = elim (cases_eq i k) [
      | inl same ↦ rw same (ap (nat_lt 0) here ∙ (lt-ltb 0 (count_at counts k - 1) (omega (arith, above)) ∙ sym (lt-ltb 0 (count_at counts k) (omega (arith, above)))))
      | inr other ↦ sym (alive_set counts k (count_at counts k - 1) i other)
    ]

    sums : (weight : ℕ → ℕ) → sum_alive (is_alive (set counts k (count_at counts k - 1))) weight (length (set counts k (count_at counts k - 1))) ≡ sum_alive (is_alive counts) weight (length counts)
    sums weight = ap (sum_alive (is_alive (set counts k (count_at counts k - 1))) weight) size ∙ sum_same (is_alive (set counts k (count_at counts k - 1))) (is_alive counts) weight (length counts) (λ i inside. still i)

-- A last hold ends: the object is listed, and its references are holds that end next.
lowered_last : (own : ℕ → ℕ) (refers : ℕ → List ℕ) (first before counts fallen : List ℕ) (place : ℕ) (k : ℕ) (rest : List ℕ) → IsEnding own refers first before counts fallen place (k ∷ rest) → count_at counts k ≡ 1 → IsEnding own refers first before (set counts k 0) (fallen ++ k ∷ []) place rest
lowered_last own refers first before counts fallen place k rest ending one_left = record {
  falls = record {
    len = size ∙ ending.falls.len;
    below = λ n. elim (cases_eq n k) [
      | inl same ↦ (let now : count_at (set counts k 0) n ≡ 0 = rw same here in omega (arith, now))
      | inr other ↦ (let now : count_at (set counts k 0) n ≡ count_at counts n = get_or-set_other counts k n 0 0 other in
          let was = ending.falls.below n in
          omega (arith, now, was))
    ];
    listed = λ n. among_push fallen k n ∙ elim (cases_eq n k) [
      | inl same ↦ or_right (is_among fallen n) (k == n) (eq-eqb k n (sym same)) ∙ sym (or_right (is_among before n) (is_alive first n && not (is_alive (set counts k 0) n)) (rw same (ap₂ (λ a b. a && not b) alive_first dead)))
      | inr other ↦ ap (λ b. is_among fallen n || b) (ne_eqb k n (λ e. other (sym e))) ∙ (or_none (is_among fallen n) ∙ (ending.falls.listed n ∙ ap (λ b. is_among before n || (is_alive first n && not b)) (alive_set counts k 0 n other)))
    ];
    once = λ n.
        let was = ending.falls.once n in
        let more = times_push n k fallen in
        elim (cases_eq n k) [
          | inl same ↦ (let one = at_same k n (sym same) in
              let some = one_true (is_alive counts n) (ap (is_alive counts) same ∙ alive) in
              let none = one_false (is_alive (set counts k 0) n) (ap (is_alive (set counts k 0)) same ∙ dead) in
              omega (arith, was, more, one, some, none))
          | inr other ↦ (let one = at_other k n (λ e. other (sym e)) in
              let there = ap one_if (sym (alive_set counts k 0 n other)) in
              omega (arith, was, more, one, there))
        ];
    room = (let was = ending.falls.room in let now = sums (λ m. 1) in let more = length_push fallen k in omega (arith, was, now, more));
  };
  holders = record {
    each = λ n.
        let was = ending.holders.each n in
        let now = sums (λ m. times n (refers m)) in
        let more : pending refers (drop place (fallen ++ k ∷ [])) n ≡ pending refers (drop place fallen) n + times n (refers k) = rw left (pending_push refers (drop place fallen) k n) in
        elim (cases_eq n k) [
          | inl same ↦ (let here_now : count_at (set counts k 0) n ≡ 0 = rw same here in
              let old : count_at counts n ≡ count_at counts k = ap (count_at counts) same in
              let one : times n (k ∷ rest) ≡ 1 + times n rest = times_at rest k n same in
              omega (arith, was, now, more, here_now, old, one, one_left))
          | inr other ↦ (let there : count_at (set counts k 0) n ≡ count_at counts n = get_or-set_other counts k n 0 0 other in
              let none = times_other rest k n other in
              omega (arith, was, now, more, there, none))
        ];
  };
  inside = λ n e. elim (or_cases (is_among (drop place fallen) n) (k == n) (sym (among_push (drop place fallen) k n) ∙ (ap (λ list. is_among list n) (sym left) ∙ e))) [
    | inl old ↦ ending.inside n old
    | inr new ↦ (let same = eqb-true k n new in let size_first = ending.falls.len in omega (arith, same, lt, size_first))
  ];
  reached = (let was = ending.reached in let more = length_push fallen k in omega (arith, was, more));
}
  where
    or_none : (b : Bool) → (b || false) ≡ b
    or_none true = refl
    or_none false = refl

    lt : k < length counts
    lt = held_inside counts k (omega (arith, one_left))

    size : length (set counts k 0) ≡ length counts
    size = length-set counts k 0

    here : count_at (set counts k 0) k ≡ 0
    here = get_or-set_same counts k 0 0 lt

    alive : is_alive counts k ≡ true
    alive = lt-ltb 0 (count_at counts k) (omega (arith, one_left))

    alive_first : is_alive first k ≡ true
    alive_first = let was = ending.falls.below k in lt-ltb 0 (count_at first k) (omega (arith, was, one_left))

    dead : is_alive (set counts k 0) k ≡ false
    dead = ap (nat_lt 0) here

    left : drop place (fallen ++ k ∷ []) ≡ drop place fallen ++ k ∷ []
    left = drop-append-le place fallen (k ∷ []) ending.reached

    sums : (weight : ℕ → ℕ) → sum_alive (is_alive counts) weight (length counts) ≡ sum_alive (is_alive (set counts k 0)) weight (length (set counts k 0)) + weight k
    sums weight = sum_less (is_alive counts) (is_alive (set counts k 0)) weight k (length counts) lt alive dead (λ i other. alive_set counts k 0 i other) ∙ ap (λ m. sum_alive (is_alive (set counts k 0)) weight m + weight k) (sym size)

pub ending_lower : (own : ℕ → ℕ) (refers : ℕ → List ℕ) (first before counts fallen next after : List ℕ) (place : ℕ) (k : ℕ) (rest : List ℕ) → IsEnding own refers first before counts fallen place (k ∷ rest) → next ≡ set counts k (count_at counts k - 1) → after ≡ fallen ++ (if count_at counts k == 1 then k ∷ [] else []) → IsEnding own refers first before next after place rest
ending_lower own refers first before counts fallen next after place k rest ending counts_are fallen_are =
    let held = ending_held own refers first before counts fallen place k rest ending in
    elim (cases_lt 1 (count_at counts k)) [
      | inl above ↦ (
          let same : after ≡ fallen = fallen_are ∙ (ap (λ b. fallen ++ (if b then k ∷ [] else [])) (ne_eqb (count_at counts k) 1 (λ e. absurd (omega (arith, e, above)))) ∙ append-nil fallen) in
          rw (counts_are, same) (lowered_some own refers first before counts fallen place k rest ending above))
      | inr last ↦ (
          let one : count_at counts k ≡ 1 = omega (arith, held, last) in
          let more : after ≡ fallen ++ k ∷ [] = fallen_are ∙ ap (λ b. fallen ++ (if b then k ∷ [] else [])) (eq-eqb (count_at counts k) 1 one) in
          let zeroed : next ≡ set counts k 0 = counts_are ∙ ap (set counts k) (omega (arith, one)) in
          rw (zeroed, more) (lowered_last own refers first before counts fallen place k rest ending one))
    ]

-- the references of the next that fell
pub ending_next : (own : ℕ → ℕ) (refers : ℕ → List ℕ) (first before counts fallen : List ℕ) (place : ℕ) → IsEnding own refers first before counts fallen place [] → place < length fallen → IsEnding own refers first before counts fallen (place + 1) (refers (get_or fallen place 0))
ending_next own refers first before counts fallen place ending lt =
    let more : drop place fallen ≡ get_or fallen place 0 ∷ drop (place + 1) fallen = drop_more fallen place 0 lt in
    record {
      falls = ending.falls;
      holders = holders_as (λ n. own n + (times n [] + pending refers (drop place fallen) n)) (λ n. own n + (times n (refers (get_or fallen place 0)) + pending refers (drop (place + 1) fallen) n)) refers counts (λ n. let e : pending refers (drop place fallen) n ≡ times n (refers (get_or fallen place 0)) + pending refers (drop (place + 1) fallen) n = ap (λ list. pending refers list n) more in omega (arith, e)) ending.holders;
      inside = λ n e. ending.inside n (ap (λ list. is_among list n) more ∙ or_right (get_or fallen place 0 == n) (is_among (drop (place + 1) fallen) n) e);
      reached = omega (arith, lt);
    }

-- what fell next is an object
pub ending_inside : (own : ℕ → ℕ) (refers : ℕ → List ℕ) (first before counts fallen : List ℕ) (place : ℕ) → IsEnding own refers first before counts fallen place [] → place < length fallen → get_or fallen place 0 < length first
ending_inside own refers first before counts fallen place ending lt =
    ending.inside (get_or fallen place 0) (ap (λ list. is_among list (get_or fallen place 0)) (drop_more fallen place 0 lt) ∙ or_left (get_or fallen place 0 == get_or fallen place 0) (is_among (drop (place + 1) fallen) (get_or fallen place 0)) (eq-eqb (get_or fallen place 0) (get_or fallen place 0) refl))

pub ending_end : (own : ℕ → ℕ) (refers : ℕ → List ℕ) (first before counts fallen : List ℕ) (place : ℕ) → IsEnding own refers first before counts fallen place [] → length fallen ≤ place → AreHolders own refers counts
ending_end own refers first before counts fallen place ending all =
    holders_as (λ n. own n + (times n [] + pending refers (drop place fallen) n)) own refers counts (λ n. let e : pending refers (drop place fallen) n ≡ 0 = ap (λ list. pending refers list n) (drop_all place fallen all) in omega (arith, e)) ending.holders

-- there is room for what falls
pub ending_room : (own : ℕ → ℕ) (refers : ℕ → List ℕ) (first before counts fallen : List ℕ) (place : ℕ) (k : ℕ) (rest : List ℕ) → IsEnding own refers first before counts fallen place (k ∷ rest) → length fallen < length before + living first
ending_room own refers first before counts fallen place k rest ending =
    let some = living_some counts k (ending_held own refers first before counts fallen place k rest ending) in
    let was = ending.falls.room in
    omega (arith, some, was)

-- the next of the references of an object that fell
pub ending_turn : (own : ℕ → ℕ) (refers : ℕ → List ℕ) (first before counts fallen : List ℕ) (place : ℕ) (list : List ℕ) (i : ℕ) → IsEnding own refers first before counts fallen place (drop i list) → i < length list → IsEnding own refers first before counts fallen place (get_or list i 0 ∷ drop (i + 1) list)
ending_turn own refers first before counts fallen place list i ending lt = subst (λ rest. IsEnding own refers first before counts fallen place rest) (drop_more list i 0 lt) ending
