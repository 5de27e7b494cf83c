-- The references that are kept, as objects are added and holds end.
use Rattle.std.proofs.Common.{◌≡◌, ◌≢◌, ℕ, ◌+◌, ◌-◌, ◌<◌, ◌≤◌, Bool, true, false, ◌||◌, ◌==◌, nat_lt, List, [], ◌∷◌, ◌++◌, length, length-set, set, get_or, drop, inl, inr, refl, sym, ap, ap₂, subst, ◌∙◌, arith, if◌then◌else◌}
use Rattle.std.proofs.lemmas.Bool.{cases_eq, cases_lt, eq-eqb, ne_eqb, lt-ltb, or_left, or_right}
use Rattle.std.proofs.lemmas.List.{get_or-set_same, get_or-set_other, get_or_append_left, get_or_push, get_or_past, drop_more, drop_all, drop-append-le, length_push, append-nil}
use Rattle.wg_model.specs.Holding.{is_among}
use Rattle.wg_counts.specs.Counts.{refers_in, is_counted, times}
use Rattle.wg_counts.specs.Kept.{count_at, is_alive, ReferencesAreKept, IsKept}
use Rattle.wg_counts.proofs.Sums.{held_inside, alive_set, times_here, times_push, times_among, one_if, one_true, one_false, at_same, at_other}
use Rattle.wg_counts.proofs.Keeping.{counts_held, alive_more, alive_added}
use Rattle.wg_counts.proofs.Ending.{among_push}

one_le : (b : Bool) → (if b then 1 else 0) ≤ 1
one_le true = omega arith
one_le false = omega arith

pub left_none : ReferencesAreKept (refers_in []) [] [] []
left_none = record { len = refl; once = λ n. let le = one_le (is_alive [] n) in omega (arith, le); each = λ n. get_or_past [] n [] (omega arith) ∙ sym (none (is_alive [] n || false) n) }
  where
    none : (b : Bool) (n : ℕ) → (if b then refers_in [] n else []) ≡ []
    none true n = get_or_past [] n [] (omega arith)
    none false n = refl

-- one object more
pub left_added : (own : List ℕ) (referred refers : List (List ℕ)) (counts raised list items : List ℕ) → IsKept own referred counts → length raised ≡ length counts → ((n : ℕ) → count_at raised n ≡ count_at counts n + times n items) → items ≡ list
    → ((n : ℕ) → is_among list n ≡ true → is_counted own referred n ≡ true) → ReferencesAreKept (refers_in referred) counts [] refers → ReferencesAreKept (refers_in (referred ++ list ∷ [])) (raised ++ 1 ∷ []) [] (refers ++ list ∷ [])
left_added own referred refers counts raised list items kept len counted items_are held left = record {
  len = length_push refers list ∙ (ap (λ n. n + 1) (left.len ∙ sym len) ∙ sym (length_push raised 1));
  once = λ n. let le = one_le (is_alive (raised ++ 1 ∷ []) n) in omega (arith, le);
  each = each;
}
  where
    all : (n : ℕ) → count_at raised n ≡ count_at counts n + times n list
    all n = counted n ∙ ap (λ xs. count_at counts n + times n xs) items_are

    alive : (n : ℕ) → n ≢ length counts → is_alive (raised ++ 1 ∷ []) n ≡ is_alive counts n
    alive n other = alive_added counts raised list len all (λ m e. counts_held own referred counts m kept ∙ held m e) n other

    each : (n : ℕ) → refers_in (refers ++ list ∷ []) n ≡ (if is_alive (raised ++ 1 ∷ []) n || false then refers_in (referred ++ list ∷ []) n else [])
    each n = elim (cases_lt n (length counts)) [
      | inl less ↦
          get_or_append_left refers (list ∷ []) [] n (let e = left.len in omega (arith, e, less))
          ∙ (left.each n ∙ ap₂ (λ b xs. if b || false then xs else []) (sym (alive n (λ e. omega (arith, e, less)))) (sym (get_or_append_left referred (list ∷ []) [] n (let e = kept.lists in omega (arith, e, less)))))
      | inr past ↦ elim (cases_eq n (length counts)) [
        | inl here ↦
            get_or_push refers list [] n (left.len ∙ sym here)
            ∙ sym (ap₂ (λ b xs. if b || false then xs else []) (ap (nat_lt 0) (get_or_push raised 1 0 n (len ∙ sym here))) (get_or_push referred list [] n (kept.lists ∙ sym here)))
        | inr other ↦
            get_or_past (refers ++ list ∷ []) n [] (let size = length_push refers list in let e = left.len in omega (arith, size, e, past, other))
            ∙ sym (ap (λ b. if b || false then refers_in (referred ++ list ∷ []) n else []) (alive n other ∙ ap (nat_lt 0) (get_or_past counts n 0 past)))
      ]
    ]

-- where the same are alive
left_same : (referred : ℕ → List ℕ) (counts next later : List ℕ) (refers : List (List ℕ)) → length next ≡ length counts → ((n : ℕ) → is_alive next n ≡ is_alive counts n) → ReferencesAreKept referred counts later refers → ReferencesAreKept referred next later refers
left_same referred counts next later refers len same left = record {
  len = left.len ∙ sym len;
  once = λ n. let was = left.once n in let e = ap one_if (same n) in omega (arith, was, e);
  each = λ n. left.each n ∙ ap (λ b. if b || is_among later n then referred n else []) (sym (same n));
}

pub left_more : (referred : ℕ → List ℕ) (counts : List ℕ) (k c : ℕ) (refers : List (List ℕ)) → k < length counts → c ≡ count_at counts k → 0 < c → ReferencesAreKept referred counts [] refers → ReferencesAreKept referred (set counts k (c + 1)) [] refers
left_more referred counts k c refers lt is some left = left_same referred counts (set counts k (c + 1)) [] refers (length-set counts k (c + 1)) (alive_more counts k c lt is some) left

-- what is to be gone through, at first and at last
pub left_start : (referred : ℕ → List ℕ) (counts fallen : List ℕ) (refers : List (List ℕ)) (place : ℕ) → length fallen ≤ place → ReferencesAreKept referred counts [] refers → ReferencesAreKept referred counts (drop place fallen) refers
left_start referred counts fallen refers place all left = rw (drop_all place fallen all) left

pub left_end : (referred : ℕ → List ℕ) (counts fallen : List ℕ) (refers : List (List ℕ)) (place : ℕ) → length fallen ≤ place → ReferencesAreKept referred counts (drop place fallen) refers → ReferencesAreKept referred counts [] refers
left_end referred counts fallen refers place all left = subst (λ later. ReferencesAreKept referred counts later refers) (drop_all place fallen all) left

-- A count above 1 falls by 1, and all stay alive.
left_some : (referred : ℕ → List ℕ) (counts later : List ℕ) (k : ℕ) (refers : List (List ℕ)) → 1 < count_at counts k → ReferencesAreKept referred counts later refers → ReferencesAreKept referred (set counts k (count_at counts k - 1)) later refers
left_some referred counts later k refers above left = left_same referred counts (set counts k (count_at counts k - 1)) later refers (length-set counts k (count_at counts k - 1)) still left
  where
    still : (i : ℕ) → is_alive (set counts k (count_at counts k - 1)) i ≡ is_alive counts i
    still i = elim (cases_eq i k) [
      | inl same ↦ rw same (ap (nat_lt 0) (get_or-set_same counts k (count_at counts k - 1) 0 (held_inside counts k (omega (arith, above)))) ∙ (lt-ltb 0 (count_at counts k - 1) (omega (arith, above)) ∙ sym (lt-ltb 0 (count_at counts k) (omega (arith, above)))))
      | inr other ↦ sym (alive_set counts k (count_at counts k - 1) i other)
    ]

-- A last hold ends, and the references of the object are still to be gone through.
left_last : (referred : ℕ → List ℕ) (counts later : List ℕ) (k : ℕ) (refers : List (List ℕ)) → count_at counts k ≡ 1 → ReferencesAreKept referred counts later refers → ReferencesAreKept referred (set counts k 0) (later ++ k ∷ []) refers
left_last referred counts later k refers one left = record {
  len = left.len ∙ sym (length-set counts k 0);
  once = λ n.
      let was = left.once n in
      let more = times_push n k later in
      elim (cases_eq n k) [
        | inl same ↦ (let here = at_same k n (sym same) in
            let some = one_true (is_alive counts n) (ap (is_alive counts) same ∙ alive) in
            let none = one_false (is_alive (set counts k 0) n) (ap (is_alive (set counts k 0)) same ∙ dead) in
            omega (arith, was, more, here, some, none))
        | inr other ↦ (let there = at_other k n (λ e. other (sym e)) in
            let same = ap one_if (alive_set counts k 0 n other) in
            omega (arith, was, more, there, same))
      ];
  each = λ n. elim (cases_eq n k) [
    | inl same ↦ left.each n
        ∙ (ap (λ b. if b then referred n else []) (or_left (is_alive counts n) (is_among later n) (ap (is_alive counts) same ∙ alive))
        ∙ sym (ap (λ b. if b then referred n else []) (or_right (is_alive (set counts k 0) n) (is_among (later ++ k ∷ []) n) (among_push later k n ∙ or_right (is_among later n) (k == n) (eq-eqb k n (sym same))))))
    | inr other ↦ left.each n
        ∙ ap₂ (λ a b. if a || b then referred n else []) (alive_set counts k 0 n other) (sym (among_push later k n ∙ (ap (λ b. is_among later n || b) (ne_eqb k n (λ e. other (sym e))) ∙ or_none (is_among later n))))
  ];
}
  where
    or_none : (b : Bool) → (b || false) ≡ b
    or_none true = refl
    or_none false = refl

    lt : k < length counts
    lt = held_inside counts k (omega (arith, one))

    alive : is_alive counts k ≡ true
    alive = lt-ltb 0 (count_at counts k) (omega (arith, one))

    dead : is_alive (set counts k 0) k ≡ false
    dead = ap (nat_lt 0) (get_or-set_same counts k 0 0 lt)

pub left_lower : (referred : ℕ → List ℕ) (counts fallen next after : List ℕ) (place k : ℕ) (refers : List (List ℕ)) → place ≤ length fallen → 0 < count_at counts k → next ≡ set counts k (count_at counts k - 1) → after ≡ fallen ++ (if count_at counts k == 1 then k ∷ [] else []) → ReferencesAreKept referred counts (drop place fallen) refers → ReferencesAreKept referred next (drop place after) refers
left_lower referred counts fallen next after place k refers reached held counts_are fallen_are left = elim (cases_lt 1 (count_at counts k)) [
  | inl above ↦ (
      let same : after ≡ fallen = fallen_are ∙ (ap (λ b. fallen ++ (if b then k ∷ [] else [])) (ne_eqb (count_at counts k) 1 (λ e. absurd (omega (arith, e, above)))) ∙ append-nil fallen) in
      rw (counts_are, same) (left_some referred counts (drop place fallen) k refers above left))
  | inr last ↦ (
      let one : count_at counts k ≡ 1 = omega (arith, held, last) in
      let more : drop place after ≡ drop place fallen ++ k ∷ [] = ap (drop place) (fallen_are ∙ ap (λ b. fallen ++ (if b then k ∷ [] else [])) (eq-eqb (count_at counts k) 1 one)) ∙ drop-append-le place fallen (k ∷ []) reached in
      let zeroed : next ≡ set counts k 0 = counts_are ∙ ap (set counts k) (omega (arith, one)) in
      rw (zeroed, more) (left_last referred counts (drop place fallen) k refers one left))
]

-- the references of the next that fell are taken out

pub record IsTaken (referred : ℕ → List ℕ) (counts later : List ℕ) (refers : List (List ℕ)) (fell : ℕ) : Type 0 where
  pub is : refers_in refers fell ≡ referred fell
  pub left : ReferencesAreKept referred counts later (set refers fell [])

taken : (referred : ℕ → List ℕ) (counts later : List ℕ) (refers : List (List ℕ)) (fell : ℕ) → ReferencesAreKept referred counts (fell ∷ later) refers → IsTaken referred counts later refers fell
taken referred counts later refers fell before = record {
  is = before.each fell ∙ ap (λ b. if b then referred fell else []) (or_right (is_alive counts fell) (is_among (fell ∷ later) fell) (or_left (fell == fell) (is_among later fell) (eq-eqb fell fell refl)));
  left = record {
    len = length-set refers fell [] ∙ before.len;
    once = λ n. less (if fell == n then 1 else 0) (times n later) (if is_alive counts n then 1 else 0) (before.once n);
    each = λ n. elim (cases_eq n fell) [
      | inl same ↦ rw same (emptied ∙ sym (ap₂ (λ a b. if a || b then referred fell else []) dead gone))
      | inr other ↦ get_or-set_other refers fell n [] [] other ∙ (before.each n ∙ ap (λ b. if is_alive counts n || (b || is_among later n) then referred n else []) (ne_eqb fell n (λ e. other (sym e))))
    ];
  };
}
  where
    less : (a b c : ℕ) → a + b + c ≤ 1 → b + c ≤ 1
    less a b c le = omega (arith, le)

    emptied : refers_in (set refers fell []) fell ≡ []
    emptied = elim (cases_lt fell (length refers)) [
      | inl lt ↦ get_or-set_same refers fell [] [] lt
      | inr past ↦ get_or_past (set refers fell []) fell [] (let e = length-set refers fell [] in omega (arith, e, past))
    ]

    dead : is_alive counts fell ≡ false
    dead = by_count (is_alive counts fell) (let was = before.once fell in let here = times_here later fell in omega (arith, was, here))
      where
        by_count : (b : Bool) → (if b then 1 else 0) ≤ 0 → b ≡ false
        by_count true le = absurd (omega (arith, le))
        by_count false le = refl

    gone : is_among later fell ≡ false
    gone = by_among (is_among later fell) refl
      where
        by_among : (b : Bool) → is_among later fell ≡ b → b ≡ false
        by_among true e = absurd (let some = times_among later fell e in let was = before.once fell in let here = times_here later fell in omega (arith, some, was, here))
        by_among false e = refl

pub left_next : (referred : ℕ → List ℕ) (counts fallen : List ℕ) (refers : List (List ℕ)) (place fell : ℕ) → place < length fallen → fell ≡ get_or fallen place 0 → ReferencesAreKept referred counts (drop place fallen) refers → IsTaken referred counts (drop (place + 1) fallen) refers fell
left_next referred counts fallen refers place fell lt is left =
    taken referred counts (drop (place + 1) fallen) refers fell (subst (λ later. ReferencesAreKept referred counts later refers) (drop_more fallen place 0 lt ∙ ap (λ k. k ∷ drop (place + 1) fallen) (sym is)) left)

-- what fell next is an object
pub taken_inside : (referred : ℕ → List ℕ) (counts later : List ℕ) (refers : List (List ℕ)) (fell n : ℕ) → ReferencesAreKept referred counts later refers → fell ≡ n → n < length counts → fell < length refers
taken_inside referred counts later refers fell n left is lt = let e = left.len in omega (arith, e, is, lt)
