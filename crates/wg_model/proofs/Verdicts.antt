-- Each scope has its verdict: the first of the parts, in order, whose set of all uses has usages that may not stand together.
use Rattle.std.proofs.Common.{◌≡◌, ℕ, ◌<◌, ◌≤◌, List, [], ◌∷◌, ◌++◌, Bool, true, false, ◌||◌, ◌&&◌, ◌==◌, Option, Some, None, refl, ap, ap₂, sym, ◌∙◌, ◌⊎◌, inl, inr, arith, if◌then◌else◌, true≢false, bit_and, bit_or, eqb-true, eq-eqb, subst, nat_lt, length}
use Rattle.std.proofs.lemmas.Nat.Bits.{same_from_bits, bit_at_and, bit_at_or}
use Rattle.std.specs.Int.{bit_at}
use Rattle.wg_rows.specs.Rows.{list_before, Apart, After, EachRow, covers_spot}
use Rattle.wg_rows.specs.Cut.{value_at}
use Rattle.wg_rows.specs.Runs.{Part, PartRun, BufferPart, LayerParts, QueryPart, Buffer, Subresource, QuerySet, part_sort, part_spot, part_line, part_lo, part_hi, aspect_number, covers_part}
use Rattle.wg_rows.specs.Uses.{Usages, row_set, with_usage}
use Rattle.wg_rows.specs.Sets.{UseRow, sets}
use Rattle.wg_rows.proofs.Printed.{covers_from, no_overlap}
use Rattle.wg_rows.proofs.Sets.{covered, sets_row, sets_apart, apart_set}
use Rattle.std.proofs.lemmas.Bool.{or_cases}
use Rattle.std.proofs.lemmas.Bool.Decides.{nat_tests}
use Rattle.std.proofs.lemmas.Option.{same_Some}
use Rattle.wg_model.specs.Scopes.{Use, is_within, agree, Among, ClashAt, part_key, IsVerdict, may_stand, first_part, clash_in, clash, VerdictIs}

-- Usages among these, bit by bit.
within_bits : (m : ℕ) (a : Usages) → is_within m a ≡ true → (i : ℕ) → bit_at a.0 i ≤ bit_at m i
within_bits m a e i = omega (arith, bit_at_or a.0 m i, ap (λ n. bit_at n i) (eqb-true (bit_or a.0 m) m e))

bits_within : (m : ℕ) (a : Usages) → ((i : ℕ) → bit_at a.0 i ≤ bit_at m i) → is_within m a ≡ true
bits_within m a below = eq-eqb (bit_or a.0 m) m (same_from_bits (bit_or a.0 m) m (λ i. omega (arith, bit_at_or a.0 m i, below i)))

-- a union is within where both are
both_within : (m : ℕ) (a b : Usages) → is_within m a ≡ true → is_within m b ≡ true → is_within m (with_usage a (Some b)) ≡ true
both_within m a b e h = bits_within m (with_usage a (Some b)) (λ i. omega (arith, bit_at_or a.0 b.0 i, within_bits m a e i, within_bits m b h i))

left_within : (m : ℕ) (a b : Usages) → is_within m (with_usage a (Some b)) ≡ true → is_within m a ≡ true
left_within m a b e = bits_within m a (λ i. omega (arith, bit_at_or a.0 b.0 i, within_bits m (with_usage a (Some b)) e i))

right_within : (m : ℕ) (a b : Usages) → is_within m (with_usage a (Some b)) ≡ true → is_within m b ≡ true
right_within m a b e = bits_within m b (λ i. omega (arith, bit_at_or a.0 b.0 i, within_bits m (with_usage a (Some b)) e i))

union_within : (m : ℕ) (a b : Usages) → is_within m (with_usage a (Some b)) ≡ is_within m a && is_within m b
union_within m a b = by_both (is_within m a) (is_within m b) refl refl
  where
    not_left : is_within m a ≡ false → (t : Bool) → is_within m (with_usage a (Some b)) ≡ t → is_within m (with_usage a (Some b)) ≡ false
    not_left e true h = absurd (true≢false (sym (left_within m a b h) ∙ e))
    not_left e false h = h

    not_right : is_within m b ≡ false → (t : Bool) → is_within m (with_usage a (Some b)) ≡ t → is_within m (with_usage a (Some b)) ≡ false
    not_right e true h = absurd (true≢false (sym (right_within m a b h) ∙ e))
    not_right e false h = h

    by_both : (x y : Bool) → is_within m a ≡ x → is_within m b ≡ y → is_within m (with_usage a (Some b)) ≡ x && y
    by_both true true e h = both_within m a b e h
    by_both true false e h = not_right h (is_within m (with_usage a (Some b))) refl
    by_both false y e h = not_left e (is_within m (with_usage a (Some b))) refl

-- what is within two that share nothing is empty, and within the third
apart_within : (m n o : ℕ) (a : Usages) → bit_and m n ≡ 0 → is_within m a ≡ true → is_within n a ≡ true → is_within o a ≡ true
apart_within m n o a none e h = bits_within o a (λ i. omega (arith, within_bits m a e i, within_bits n a h i, bit_at_and m n i, ap (λ x. bit_at x i) none, zero_bit i))
  where
    zero_bit : (i : ℕ) → bit_at 0 i ≡ 0
    zero_bit i = omega (arith, bit_at_and 0 m i)

-- Whether usages are within each of the three.
pub record Kinds : Type 0 where
  pub reading : Bool
  pub storing : Bool
  pub attached : Bool

abbrev kinds_of : Usages → Kinds
kinds_of a = record { reading = is_within 43 a; storing = is_within 4 a; attached = is_within 16 a }

-- Those within two are within all.
pub record IsOne (k : Kinds) : Type 0 where
  pub first : k.reading ≡ true → k.storing ≡ true → k.attached ≡ true
  pub second : k.reading ≡ true → k.attached ≡ true → k.storing ≡ true
  pub third : k.storing ≡ true → k.attached ≡ true → k.reading ≡ true

is_one : (a : Usages) → IsOne (kinds_of a)
is_one a = record { first = apart_within 43 4 16 a refl; second = apart_within 43 16 4 a refl; third = apart_within 4 16 43 a refl }

abbrev kinds_agree : Kinds → Kinds → Bool
kinds_agree a b = (a.reading && b.reading) || (a.storing && b.storing) || (a.attached && b.attached)

-- A use that agrees with each of two that agree agrees with their union.
join_agree : (r a b : Kinds) → IsOne r → IsOne a → IsOne b → kinds_agree r a ≡ true → kinds_agree r b ≡ true → kinds_agree a b ≡ true → (r.reading && (a.reading && b.reading)) || (r.storing && (a.storing && b.storing)) || (r.attached && (a.attached && b.attached)) ≡ true
join_agree r a b or oa ob e f g = go r.reading r.storing r.attached a.reading a.storing a.attached b.reading b.storing b.attached or.first or.second or.third oa.first oa.second oa.third ob.first ob.second ob.third e f g
  where
    go : (r1 r2 r3 a1 a2 a3 b1 b2 b3 : Bool) → (r1 ≡ true → r2 ≡ true → r3 ≡ true) → (r1 ≡ true → r3 ≡ true → r2 ≡ true) → (r2 ≡ true → r3 ≡ true → r1 ≡ true) → (a1 ≡ true → a2 ≡ true → a3 ≡ true) → (a1 ≡ true → a3 ≡ true → a2 ≡ true) → (a2 ≡ true → a3 ≡ true → a1 ≡ true) → (b1 ≡ true → b2 ≡ true → b3 ≡ true) → (b1 ≡ true → b3 ≡ true → b2 ≡ true) → (b2 ≡ true → b3 ≡ true → b1 ≡ true) → (r1 && a1) || (r2 && a2) || (r3 && a3) ≡ true → (r1 && b1) || (r2 && b2) || (r3 && b3) ≡ true → (a1 && b1) || (a2 && b2) || (a3 && b3) ≡ true → (r1 && (a1 && b1)) || (r2 && (a2 && b2)) || (r3 && (a3 && b3)) ≡ true
    go r1 r2 r3 a1 a2 a3 b1 b2 b3 p q s t u v w x y e f g = grind (arith, p, q, s, t, u, v, w, x, y, e, f, g)

stands_union : (a b : Usages) → may_stand (with_usage a (Some b)) ≡ agree a b
stands_union a b = ap₂ ◌||◌ (ap₂ ◌||◌ (union_within 43 a b) (union_within 4 a b)) (union_within 16 a b)

agree_union : (r a b : Usages) → agree r a ≡ true → agree r b ≡ true → agree a b ≡ true → agree r (with_usage a (Some b)) ≡ true
agree_union r a b e f g =
    ap₂ ◌||◌ (ap₂ ◌||◌ (ap (λ t. is_within 43 r && t) (union_within 43 a b)) (ap (λ t. is_within 4 r && t) (union_within 4 a b))) (ap (λ t. is_within 16 r && t) (union_within 16 a b))
    ∙ join_agree (kinds_of r) (kinds_of a) (kinds_of b) (is_one r) (is_one a) (is_one b) e f g

and_same : (b : Bool) → b && b ≡ b
and_same true = refl
and_same false = refl

agree_itself : (a : Usages) → agree a a ≡ may_stand a
agree_itself a = ap₂ ◌||◌ (ap₂ ◌||◌ (and_same (is_within 43 a)) (and_same (is_within 4 a))) (and_same (is_within 16 a))

-- what stands as a part of a union stands alone
right_stands : (a b : Usages) → may_stand (with_usage a (Some b)) ≡ true → may_stand b ≡ true
right_stands a b e = by_kinds (is_within 43 a) (is_within 43 b) (is_within 4 a) (is_within 4 b) (is_within 16 a) (is_within 16 b) (sym (stands_union a b) ∙ e)
  where
    by_kinds : (p q r s t u : Bool) → (p && q) || (r && s) || (t && u) ≡ true → q || s || u ≡ true
    by_kinds p true r s t u h = refl
    by_kinds p false r true t u h = refl
    by_kinds p false r false t true h = refl
    by_kinds true false true false true false h = h
    by_kinds true false true false false false h = h
    by_kinds true false false false true false h = h
    by_kinds true false false false false false h = h
    by_kinds false false true false true false h = h
    by_kinds false false true false false false h = h
    by_kinds false false false false true false h = h
    by_kinds false false false false false false h = h

-- A use of a part that agrees with each other use of it agrees with their union, or else it clashes with one.
abbrev Against : Use → List Use → Part → Type 0
Against r uses p = (b : Use) × (Among b uses × (covers_part b.0 p ≡ true) × (agree r.1 b.1 ≡ false))

agree_all : (r : Use) (uses : List Use) (p : Part) (set : Usages) → row_set p uses ≡ Some set → may_stand set ≡ true → (agree r.1 set ≡ true) ⊎ Against r uses p
agree_all r [] p set e h = absurd (cc)
agree_all r (x ∷ uses) p set e h = by_cover (covers_part x.0 p) refl e (agree_all r uses p)
  where
    Rest : Type 0
    Rest = (set : Usages) → row_set p uses ≡ Some set → may_stand set ≡ true → (agree r.1 set ≡ true) ⊎ Against r uses p

    more : Against r uses p → Against r (x ∷ uses) p
    more found = (found.0, (inr found.1.0, found.1.1, found.1.2))

    with_rest : (o : Option Usages) → row_set p uses ≡ o → agree r.1 x.1 ≡ true → may_stand (with_usage x.1 o) ≡ true → Rest → (agree r.1 (with_usage x.1 o) ≡ true) ⊎ Against r (x ∷ uses) p
    with_rest None k a s rest = inl a
    with_rest (Some old) k a s rest = elim (rest old k (right_stands x.1 old s)) [ inl b ↦ inl (agree_union r.1 x.1 old a b (sym (stands_union x.1 old) ∙ s)) | inr found ↦ inr (more found) ]

    by_agree : (b : Bool) → agree r.1 x.1 ≡ b → covers_part x.0 p ≡ true → may_stand (with_usage x.1 (row_set p uses)) ≡ true → Rest → (agree r.1 (with_usage x.1 (row_set p uses)) ≡ true) ⊎ Against r (x ∷ uses) p
    by_agree true a c s rest = with_rest (row_set p uses) refl a s rest
    by_agree false a c s rest = inr (x, (inl refl, c, a))

    by_cover : (b : Bool) → covers_part x.0 p ≡ b → (if b then Some (with_usage x.1 (row_set p uses)) else row_set p uses) ≡ Some set → Rest → (agree r.1 set ≡ true) ⊎ Against r (x ∷ uses) p
    by_cover true c k rest =
        let same : with_usage x.1 (row_set p uses) ≡ set = same_Some (with_usage x.1 (row_set p uses)) set k in
        subst (λ s. (agree r.1 s ≡ true) ⊎ Against r (x ∷ uses) p) same (by_agree (agree r.1 x.1) refl c (ap may_stand same ∙ h) rest)
    by_cover false c k rest = elim (rest set k h) [ inl a ↦ inl a | inr found ↦ inr (more found) ]

later : (u : Use) (uses : List Use) (p : Part) → ClashAt uses p → ClashAt (u ∷ uses) p
later u uses p c = record { a = c.a; b = c.b; a_among = inr c.a_among; b_among = inr c.b_among; a_of = c.a_of; b_of = c.b_of; differ = c.differ }

-- Uses clash on a part, or its set may stand.
clash_or_stands : (uses : List Use) (p : Part) → ClashAt uses p ⊎ ((set : Usages) → row_set p uses ≡ Some set → may_stand set ≡ true)
clash_or_stands [] p = inr (λ set e. absurd (cc))
clash_or_stands (r ∷ uses) p = elim (clash_or_stands uses p) [ inl c ↦ inl (later r uses p c) | inr rest ↦ by_cover (covers_part r.0 p) refl rest ]
  where
    Rest : Type 0
    Rest = (set : Usages) → row_set p uses ≡ Some set → may_stand set ≡ true

    Answer : Option Usages → Type 0
    Answer o = ClashAt (r ∷ uses) p ⊎ ((set : Usages) → o ≡ Some set → may_stand set ≡ true)

    with_rest : (o : Option Usages) → row_set p uses ≡ o → covers_part r.0 p ≡ true → may_stand r.1 ≡ true → Rest → Answer (Some (with_usage r.1 o))
    with_rest None k c s rest = inr (λ set e. ap may_stand (sym (same_Some r.1 set e)) ∙ s)
    with_rest (Some old) k c s rest = elim (agree_all r uses p old k (rest old k)) [
      | inl a ↦ inr (λ set e. ap may_stand (sym (same_Some (with_usage r.1 (Some old)) set e)) ∙ (stands_union r.1 old ∙ a))
      | inr found ↦ inl (record { a = r; b = found.0; a_among = inl refl; b_among = inr found.1.0; a_of = c; b_of = found.1.1; differ = found.1.2 })
    ]

    by_stand : (b : Bool) → may_stand r.1 ≡ b → covers_part r.0 p ≡ true → Rest → Answer (Some (with_usage r.1 (row_set p uses)))
    by_stand true s c rest = with_rest (row_set p uses) refl c s rest
    by_stand false s c rest = inl (record { a = r; b = r; a_among = inl refl; b_among = inl refl; a_of = c; b_of = c; differ = agree_itself r.1 ∙ s })

    by_cover : (b : Bool) → covers_part r.0 p ≡ b → Rest → Answer (if b then Some (with_usage r.1 (row_set p uses)) else row_set p uses)
    by_cover true c rest = by_stand (may_stand r.1) refl c rest
    by_cover false c rest = inr rest

-- The set of a part has the usages of each use of it.
among_set : (b : Use) (uses : List Use) (p : Part) → Among b uses → covers_part b.0 p ≡ true → (set : Usages) × (row_set p uses ≡ Some set)
among_set b [] p i c = absurd i
among_set b (x ∷ uses) p i c = by_cover (covers_part x.0 p) refl i (among_set b uses p)
  where
    by_cover : (t : Bool) → covers_part x.0 p ≡ t → (b ≡ x) ⊎ Among b uses → (Among b uses → covers_part b.0 p ≡ true → (set : Usages) × (row_set p uses ≡ Some set)) → (set : Usages) × ((if t then Some (with_usage x.1 (row_set p uses)) else row_set p uses) ≡ Some set)
    by_cover true k j rest = (with_usage x.1 (row_set p uses), refl)
    by_cover false k (inl same) rest = absurd (true≢false (sym c ∙ (ap (λ (u : Use). covers_part u.0 p) same ∙ k)))
    by_cover false k (inr j) rest = rest j c

one_within : (m : ℕ) (x : Usages) (o : Option Usages) → is_within m (with_usage x o) ≡ true → is_within m x ≡ true
one_within m x None e = e
one_within m x (Some old) e = left_within m x old e

rest_within : (m : ℕ) (x old : Usages) (o : Option Usages) → o ≡ Some old → is_within m (with_usage x o) ≡ true → is_within m old ≡ true
rest_within m x old None k e = absurd (cc)
rest_within m x old (Some s) k e = ap (is_within m) (sym (same_Some s old k)) ∙ right_within m x s e

among_within : (m : ℕ) (b : Use) (uses : List Use) (p : Part) (set : Usages) → Among b uses → covers_part b.0 p ≡ true → row_set p uses ≡ Some set → is_within m set ≡ true → is_within m b.1 ≡ true
among_within m b [] p set i c e w = absurd i
among_within m b (x ∷ uses) p set i c e w = by_cover (covers_part x.0 p) refl i e (among_within m b uses p)
  where
    Rest : Type 0
    Rest = (set : Usages) → Among b uses → covers_part b.0 p ≡ true → row_set p uses ≡ Some set → is_within m set ≡ true → is_within m b.1 ≡ true

    by_cover : (t : Bool) → covers_part x.0 p ≡ t → (b ≡ x) ⊎ Among b uses → (if t then Some (with_usage x.1 (row_set p uses)) else row_set p uses) ≡ Some set → Rest → is_within m b.1 ≡ true
    by_cover true k (inl same) h rest = ap (λ (u : Use). is_within m u.1) same ∙ one_within m x.1 (row_set p uses) (ap (is_within m) (same_Some (with_usage x.1 (row_set p uses)) set h) ∙ w)
    by_cover true k (inr j) h rest =
        let found : (s : Usages) × (row_set p uses ≡ Some s) = among_set b uses p j c in
        rest found.0 j c found.1 (rest_within m x.1 found.0 (row_set p uses) found.1 (ap (is_within m) (same_Some (with_usage x.1 (row_set p uses)) set h) ∙ w))
    by_cover false k (inl same) h rest = absurd (true≢false (sym c ∙ (ap (λ (u : Use). covers_part u.0 p) same ∙ k)))
    by_cover false k (inr j) h rest = rest set j c h w

-- So where the set may stand no uses clash.
no_clash : (uses : List Use) (p : Part) (set : Usages) → row_set p uses ≡ Some set → may_stand set ≡ true → ClashAt uses p → ⊥
no_clash uses p set e s c = by_kind (or_cases (is_within 43 set || is_within 4 set) (is_within 16 set) s)
  where
    in_a : (m : ℕ) → is_within m set ≡ true → is_within m c.a.1 ≡ true
    in_a m w = among_within m c.a uses p set c.a_among c.a_of e w

    in_b : (m : ℕ) → is_within m set ≡ true → is_within m c.b.1 ≡ true
    in_b m w = among_within m c.b uses p set c.b_among c.b_of e w

    first_one : (p1 q1 r t : Bool) → p1 ≡ true → q1 ≡ true → ((p1 && q1) || r) || t ≡ true
    first_one true true r t h k = refl
    first_one true false r t h k = absurd (cc)
    first_one false q1 r t h k = absurd (cc)

    second_one : (t p1 q1 r : Bool) → p1 ≡ true → q1 ≡ true → (t || (p1 && q1)) || r ≡ true
    second_one true p1 q1 r h k = refl
    second_one false true true r h k = refl
    second_one false true false r h k = absurd (cc)
    second_one false false q1 r h k = absurd (cc)

    third_one : (t p1 q1 : Bool) → p1 ≡ true → q1 ≡ true → t || (p1 && q1) ≡ true
    third_one true p1 q1 h k = refl
    third_one false true true h k = refl
    third_one false true false h k = absurd (cc)
    third_one false false q1 h k = absurd (cc)

    clashes : agree c.a.1 c.b.1 ≡ true → ⊥
    clashes h = true≢false (sym h ∙ c.differ)

    by_first : (is_within 43 set ≡ true) ⊎ (is_within 4 set ≡ true) → ⊥
    by_first (inl w) = clashes (first_one (is_within 43 c.a.1) (is_within 43 c.b.1) (is_within 4 c.a.1 && is_within 4 c.b.1) (is_within 16 c.a.1 && is_within 16 c.b.1) (in_a 43 w) (in_b 43 w))
    by_first (inr w) = clashes (second_one (is_within 43 c.a.1 && is_within 43 c.b.1) (is_within 4 c.a.1) (is_within 4 c.b.1) (is_within 16 c.a.1 && is_within 16 c.b.1) (in_a 4 w) (in_b 4 w))

    by_kind : (is_within 43 set || is_within 4 set ≡ true) ⊎ (is_within 16 set ≡ true) → ⊥
    by_kind (inl h) = by_first (or_cases (is_within 43 set) (is_within 4 set) h)
    by_kind (inr w) = clashes (third_one ((is_within 43 c.a.1 && is_within 43 c.b.1) || (is_within 4 c.a.1 && is_within 4 c.b.1)) (is_within 16 c.a.1) (is_within 16 c.b.1) (in_a 16 w) (in_b 16 w))

-- Rows in order: all sets may stand, or the first that may not is that of the least part.
all_stand : (rows : List UseRow) (p : Part) (set : Usages) → clash_in rows ≡ None → value_at part_sort (part_spot p) rows ≡ Some set → may_stand set ≡ true
all_stand [] p set e v = absurd (cc)
all_stand (row ∷ rows) p set e v = by_stand (may_stand row.1) refl e (covers_spot part_sort row.0 (part_spot p)) v (all_stand rows p set)
  where
    by_stand : (b : Bool) → may_stand row.1 ≡ b → (if b then clash_in rows else Some (first_part row.0)) ≡ None → (t : Bool) → (if t then Some row.1 else value_at part_sort (part_spot p) rows) ≡ Some set → (clash_in rows ≡ None → value_at part_sort (part_spot p) rows ≡ Some set → may_stand set ≡ true) → may_stand set ≡ true
    by_stand true s k true w rest = ap may_stand (sym (same_Some row.1 set w)) ∙ s
    by_stand true s k false w rest = rest k w
    by_stand false s k t w rest = absurd (cc)

key_is : (run : PartRun) → part_key (first_part run) ≡ part_line run ++ part_lo run ∷ []
key_is (BufferPart object) = refl
key_is (LayerParts object aspect mip lo hi) = refl
key_is (QueryPart object) = refl

first_spot : (run : PartRun) → part_lo run < part_hi run → covers_spot part_sort run (part_spot (first_part run)) ≡ true
first_spot (BufferPart object) h = covers_from part_sort (BufferPart object) (part_spot (Buffer object)) refl (omega arith) (omega arith)
first_spot (LayerParts object aspect mip lo hi) h = covers_from part_sort (LayerParts object aspect mip lo hi) (part_spot (Subresource object aspect mip lo)) refl (omega arith) h
first_spot (QueryPart object) h = covers_from part_sort (QueryPart object) (part_spot (QuerySet object)) refl (omega arith) (omega arith)

same_line : (xs : List ℕ) (a b : ℕ) → b ≤ a → list_before (xs ++ a ∷ []) (xs ++ b ∷ []) ≡ false
same_line [] a b h = grind (arith, nat_tests, h)
same_line (x ∷ xs) a b h = rw (same_line xs a b h) (grind (arith, nat_tests))

head_first : (x y : ℕ) (t u : Bool) → nat_lt x y || ((x == y) && t) ≡ true → (t ≡ true → u ≡ false) → nat_lt y x || ((y == x) && u) ≡ false
head_first x y true true h f = absurd (true≢false (f refl))
head_first x y true false h f = grind (arith, nat_tests, h)
head_first x y false u h f = grind (arith, nat_tests, h)

lines_apart : (xs ys us vs : List ℕ) → length xs ≡ length ys → list_before xs ys ≡ true → list_before (ys ++ vs) (xs ++ us) ≡ false
lines_apart [] [] us vs len h = absurd (true≢false (sym h))
lines_apart [] (y ∷ ys) us vs len h = absurd (omega (arith, len))
lines_apart (x ∷ xs) [] us vs len h = absurd (true≢false (sym h))
lines_apart (x ∷ xs) (y ∷ ys) us vs len h = head_first x y (list_before xs ys) (list_before (ys ++ vs) (xs ++ us)) h (λ k. lines_apart xs ys us vs (omega (arith, len)) k)

-- A part whose line stands behind that of a run does not stand before the run's first.
line_behind : (run : PartRun) (other : Part) → list_before (part_line run) (part_spot other).0 ≡ true → list_before (part_key other) (part_key (first_part run)) ≡ false
line_behind (BufferPart a) (Buffer b) h = lines_apart (a ∷ (0 ∷ [])) (b ∷ (0 ∷ [])) (0 ∷ []) (0 ∷ []) refl h
line_behind (BufferPart a) (QuerySet b) h = lines_apart (a ∷ (0 ∷ [])) (b ∷ (1 ∷ [])) (0 ∷ []) (0 ∷ []) refl h
line_behind (BufferPart a) (Subresource b aspect mip layer) h = lines_apart (a ∷ (0 ∷ [])) (b ∷ (2 ∷ [])) (0 ∷ []) (aspect_number aspect ∷ (mip ∷ (layer ∷ []))) refl h
line_behind (QueryPart a) (Buffer b) h = lines_apart (a ∷ (1 ∷ [])) (b ∷ (0 ∷ [])) (0 ∷ []) (0 ∷ []) refl h
line_behind (QueryPart a) (QuerySet b) h = lines_apart (a ∷ (1 ∷ [])) (b ∷ (1 ∷ [])) (0 ∷ []) (0 ∷ []) refl h
line_behind (QueryPart a) (Subresource b aspect mip layer) h = lines_apart (a ∷ (1 ∷ [])) (b ∷ (2 ∷ [])) (0 ∷ []) (aspect_number aspect ∷ (mip ∷ (layer ∷ []))) refl h
line_behind (LayerParts a aspect mip lo hi) (Buffer b) h = lines_apart (a ∷ (2 ∷ [])) (b ∷ (0 ∷ [])) (aspect_number aspect ∷ (mip ∷ (lo ∷ []))) (0 ∷ []) refl h
line_behind (LayerParts a aspect mip lo hi) (QuerySet b) h = lines_apart (a ∷ (2 ∷ [])) (b ∷ (1 ∷ [])) (aspect_number aspect ∷ (mip ∷ (lo ∷ []))) (0 ∷ []) refl h
line_behind (LayerParts a aspect mip lo hi) (Subresource b aspect2 mip2 layer) h = lines_apart (a ∷ (2 ∷ (aspect_number aspect ∷ (mip ∷ [])))) (b ∷ (2 ∷ (aspect_number aspect2 ∷ (mip2 ∷ [])))) (lo ∷ []) (layer ∷ []) refl h

at_line : (run : PartRun) (other : Part) → part_line run ≡ (part_spot other).0 → part_lo run ≤ (part_spot other).1 → list_before (part_key other) (part_key (first_part run)) ≡ false
at_line run other e l = ap (list_before (part_key other)) (key_is run ∙ ap (λ line. line ++ part_lo run ∷ []) e) ∙ same_line (part_spot other).0 (part_spot other).1 (part_lo run) l

in_run : (run : PartRun) (other : Part) → covers_spot part_sort run (part_spot other) ≡ true → list_before (part_key other) (part_key (first_part run)) ≡ false
in_run run other c = let k : (part_line run ≡ (part_spot other).0) × (part_lo run ≤ (part_spot other).1) × ((part_spot other).1 < part_hi run) = covered part_sort run (part_spot other) c in at_line run other k.0 k.1

in_later : (row y : UseRow) (other : Part) → part_lo row.0 < part_hi row.0 → After part_sort row y → covers_spot part_sort y.0 (part_spot other) ≡ true → list_before (part_key other) (part_key (first_part row.0)) ≡ false
in_later row y other n after c =
    let k : (part_line y.0 ≡ (part_spot other).0) × (part_lo y.0 ≤ (part_spot other).1) × ((part_spot other).1 < part_hi y.0) = covered part_sort y.0 (part_spot other) c in
    elim after [
      | inl before ↦ line_behind row.0 other (ap (list_before (part_line row.0)) (sym k.0) ∙ before)
      | inr gap ↦ at_line row.0 other (gap.0 ∙ k.0) (elim gap.1 [ inl less ↦ omega (arith, k.1, n, less) | inr same ↦ omega (arith, k.1, n, same.0) ])
    ]

in_rest : (row : UseRow) (rows : List UseRow) (other : Part) (set : Usages) → part_lo row.0 < part_hi row.0 → EachRow (After part_sort row) rows → value_at part_sort (part_spot other) rows ≡ Some set → list_before (part_key other) (part_key (first_part row.0)) ≡ false
in_rest row [] other set n after v = absurd (cc)
in_rest row (y ∷ rows) other set n after v = by_cover (covers_spot part_sort y.0 (part_spot other)) refl v (in_rest row rows other set n after.1)
  where
    by_cover : (b : Bool) → covers_spot part_sort y.0 (part_spot other) ≡ b → (if b then Some y.1 else value_at part_sort (part_spot other) rows) ≡ Some set → (value_at part_sort (part_spot other) rows ≡ Some set → list_before (part_key other) (part_key (first_part row.0)) ≡ false) → list_before (part_key other) (part_key (first_part row.0)) ≡ false
    by_cover true c w rest = in_later row y other n after.0 c
    by_cover false c w rest = rest w

none_here : (row : UseRow) (rows : List UseRow) (p : Part) (set : Usages) → EachRow (After part_sort row) rows → covers_spot part_sort row.0 (part_spot p) ≡ true → value_at part_sort (part_spot p) rows ≡ Some set → ⊥
none_here row [] p set after c v = absurd (cc)
none_here row (y ∷ rows) p set after c v = by_cover (covers_spot part_sort y.0 (part_spot p)) refl v (none_here row rows p set after.1 c)
  where
    by_cover : (b : Bool) → covers_spot part_sort y.0 (part_spot p) ≡ b → (if b then Some y.1 else value_at part_sort (part_spot p) rows) ≡ Some set → (value_at part_sort (part_spot p) rows ≡ Some set → ⊥) → ⊥
    by_cover true k w rest = no_overlap part_sort row y (part_spot p) after.0 c k
    by_cover false k w rest = rest w

-- The first row whose set may not stand has the part found, and no part before it has such a set.
pub record Found (rows : List UseRow) (p : Part) : Type 0 where
  pub set : Usages
  pub here : value_at part_sort (part_spot p) rows ≡ Some set
  pub bad : may_stand set ≡ false
  pub least : (other : Part) (s : Usages) → value_at part_sort (part_spot other) rows ≡ Some s → may_stand s ≡ false → list_before (part_key other) (part_key p) ≡ false

found_in : (rows : List UseRow) (p : Part) → Apart part_sort rows → clash_in rows ≡ Some p → Found rows p
found_in [] p a e = absurd (cc)
found_in (row ∷ rows) p a e = by_stand (may_stand row.1) refl e (found_in rows p a.2)
  where
    first_found : may_stand row.1 ≡ false → Found (row ∷ rows) (first_part row.0)
    first_found s = record {
      set = row.1;
      here = ap (λ b. if b then Some row.1 else value_at part_sort (part_spot (first_part row.0)) rows) (first_spot row.0 a.0);
      bad = s;
      least = λ other t v b. by_cover other t (covers_spot part_sort row.0 (part_spot other)) refl v;
    }
      where
        by_cover : (other : Part) (t : Usages) (b : Bool) → covers_spot part_sort row.0 (part_spot other) ≡ b → (if b then Some row.1 else value_at part_sort (part_spot other) rows) ≡ Some t → list_before (part_key other) (part_key (first_part row.0)) ≡ false
        by_cover other t true c w = in_run row.0 other c
        by_cover other t false c w = in_rest row rows other t a.0 a.1 w

    later_found : may_stand row.1 ≡ true → Found rows p → Found (row ∷ rows) p
    later_found s f = record {
      set = f.set;
      here = at_here (covers_spot part_sort row.0 (part_spot p)) refl;
      bad = f.bad;
      least = λ other t v b. by_cover other t (covers_spot part_sort row.0 (part_spot other)) v b;
    }
      where
        at_here : (b : Bool) → covers_spot part_sort row.0 (part_spot p) ≡ b → (if b then Some row.1 else value_at part_sort (part_spot p) rows) ≡ Some f.set
        at_here true c = absurd (overlap c)
          where
            overlap : covers_spot part_sort row.0 (part_spot p) ≡ true → ⊥
            overlap c = none_here row rows p f.set a.1 c f.here
        at_here false c = f.here

        by_cover : (other : Part) (t : Usages) (b : Bool) → (if b then Some row.1 else value_at part_sort (part_spot other) rows) ≡ Some t → may_stand t ≡ false → list_before (part_key other) (part_key p) ≡ false
        by_cover other t true w h = absurd (true≢false (sym s ∙ (ap may_stand (same_Some row.1 t w) ∙ h)))
        by_cover other t false w h = f.least other t w h

    by_stand : (b : Bool) → may_stand row.1 ≡ b → (if b then clash_in rows else Some (first_part row.0)) ≡ Some p → (clash_in rows ≡ Some p → Found rows p) → Found (row ∷ rows) p
    by_stand true s k rest = later_found s (rest k)
    by_stand false s k rest = subst (λ q. Found (row ∷ rows) q) (same_Some (first_part row.0) p k) (first_found s)

-- Each scope has its verdict.
value_is : (uses : List Use) (p : Part) → value_at part_sort (part_spot p) (sets uses) ≡ row_set p uses
value_is uses p = sym (apart_set p (sets uses) (sets_apart uses)) ∙ sets_row p uses

clash_bad : (uses : List Use) (p : Part) (set : Usages) → row_set p uses ≡ Some set → ClashAt uses p → (b : Bool) → may_stand set ≡ b → may_stand set ≡ false
clash_bad uses p set e c true s = absurd (no_clash uses p set e s c)
clash_bad uses p set e c false s = s

verdict_at : (uses : List Use) (v : Option Part) → clash_in (sets uses) ≡ v → IsVerdict uses v
verdict_at uses None e = λ p c.
    let found : (set : Usages) × (row_set p uses ≡ Some set) = among_set c.a uses p c.a_among c.a_of in
    no_clash uses p found.0 found.1 (all_stand (sets uses) p found.0 e (value_is uses p ∙ found.1)) c
verdict_at uses (Some p) e = (clashes (clash_or_stands uses p), least)
  where
    f : Found (sets uses) p
    f = found_in (sets uses) p (sets_apart uses) e

    clashes : ClashAt uses p ⊎ ((set : Usages) → row_set p uses ≡ Some set → may_stand set ≡ true) → ClashAt uses p
    clashes (inl c) = c
    clashes (inr stands) = absurd (true≢false (sym (stands f.set (sym (value_is uses p) ∙ f.here)) ∙ f.bad))

    least : (other : Part) → ClashAt uses other → list_before (part_key other) (part_key p) ≡ false
    least other c =
        let found : (set : Usages) × (row_set other uses ≡ Some set) = among_set c.a uses other c.a_among c.a_of in
        f.least other found.0 (value_is uses other ∙ found.1) (clash_bad uses other found.0 found.1 c (may_stand found.0) refl)

pub verdict_is : VerdictIs
unfolding clash
verdict_is uses = verdict_at uses (clash_in (sets uses)) refl
