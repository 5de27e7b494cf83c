-- A row is put behind rows that end before it.
use Rattle.std.proofs.Common.{◌≡◌, ◌<◌, ◌≤◌, min, max, List, [], ◌∷◌, ◌++◌, Bool, true, false, ◌||◌, ◌&&◌, not, Option, Some, None, refl, ap, ap₂, sym, ◌∙◌, ◌⊎◌, inl, inr, arith, if◌then◌else◌, nat_le, nat_lt, reverse, subst}
use Rattle.std.proofs.lemmas.Bool.{and_parts, and_from, or_left, or_right, or_cases, le-leb, lt-ltb, leb-true, ltb-true}
use Rattle.std.proofs.lemmas.List.{reverse-append}
use Rattle.wg_rows.specs.Rows.{Sort, touch, list_eq, list_before, meet, run_before, put_at, put, EachRow}
use Rattle.wg_rows.specs.Cut.{put_all}
use Rattle.wg_rows.specs.Chained.{ends_before, is_clear, AllClear, Chained}
use Rattle.wg_rows.proofs.Put.{list_eq_true, list_eq_refl}
use Rattle.wg_rows.proofs.Printed.{before_not_self, before_trans}

-- What it says that a run ends before another.
data Stands {R : Type 0} (sort : Sort R) (a b : R) : Type 0 where
  Line_before : list_before (sort.line a) (sort.line b) ≡ true → Stands sort a b
  Ends_before : sort.line a ≡ sort.line b → sort.hi a ≤ sort.lo b → Stands sort a b

full_from : {R : Type 0} (sort : Sort R) (a b : R) → ends_before sort a b ≡ true → (sort.lo a < sort.hi a) × (sort.lo b < sort.hi b)
full_from sort a b e =
    let full : ((nat_lt (sort.lo a) (sort.hi a) && nat_lt (sort.lo b) (sort.hi b)) ≡ true) × ((list_before (sort.line a) (sort.line b) || (list_eq (sort.line a) (sort.line b) && nat_le (sort.hi a) (sort.lo b))) ≡ true) = and_parts (nat_lt (sort.lo a) (sort.hi a) && nat_lt (sort.lo b) (sort.hi b)) (list_before (sort.line a) (sort.line b) || (list_eq (sort.line a) (sort.line b) && nat_le (sort.hi a) (sort.lo b))) e in
    let each : (nat_lt (sort.lo a) (sort.hi a) ≡ true) × (nat_lt (sort.lo b) (sort.hi b) ≡ true) = and_parts (nat_lt (sort.lo a) (sort.hi a)) (nat_lt (sort.lo b) (sort.hi b)) full.0 in
    (ltb-true (sort.lo a) (sort.hi a) each.0, ltb-true (sort.lo b) (sort.hi b) each.1)

stands_from : {R : Type 0} (sort : Sort R) (a b : R) → ends_before sort a b ≡ true → Stands sort a b
stands_from sort a b e = by_case (or_cases (list_before (sort.line a) (sort.line b)) (list_eq (sort.line a) (sort.line b) && nat_le (sort.hi a) (sort.lo b)) (and_parts (nat_lt (sort.lo a) (sort.hi a) && nat_lt (sort.lo b) (sort.hi b)) (list_before (sort.line a) (sort.line b) || (list_eq (sort.line a) (sort.line b) && nat_le (sort.hi a) (sort.lo b))) e).1)
  where
    by_case : (list_before (sort.line a) (sort.line b) ≡ true) ⊎ ((list_eq (sort.line a) (sort.line b) && nat_le (sort.hi a) (sort.lo b)) ≡ true) → Stands sort a b
    by_case (inl h) = Line_before h
    by_case (inr h) = let tests : (list_eq (sort.line a) (sort.line b) ≡ true) × (nat_le (sort.hi a) (sort.lo b) ≡ true) = and_parts (list_eq (sort.line a) (sort.line b)) (nat_le (sort.hi a) (sort.lo b)) h in Ends_before (list_eq_true (sort.line a) (sort.line b) tests.0) (leb-true (sort.hi a) (sort.lo b) tests.1)

to_ends : {R : Type 0} (sort : Sort R) (a b : R) → sort.lo a < sort.hi a → sort.lo b < sort.hi b → Stands sort a b → ends_before sort a b ≡ true
to_ends sort a b full_a full_b h = and_from (nat_lt (sort.lo a) (sort.hi a) && nat_lt (sort.lo b) (sort.hi b)) (list_before (sort.line a) (sort.line b) || (list_eq (sort.line a) (sort.line b) && nat_le (sort.hi a) (sort.lo b))) (and_from (nat_lt (sort.lo a) (sort.hi a)) (nat_lt (sort.lo b) (sort.hi b)) (lt-ltb (sort.lo a) (sort.hi a) full_a) (lt-ltb (sort.lo b) (sort.hi b) full_b)) (by_case h)
  where
    by_case : Stands sort a b → (list_before (sort.line a) (sort.line b) || (list_eq (sort.line a) (sort.line b) && nat_le (sort.hi a) (sort.lo b))) ≡ true
    by_case (Line_before h) = or_left (list_before (sort.line a) (sort.line b)) (list_eq (sort.line a) (sort.line b) && nat_le (sort.hi a) (sort.lo b)) h
    by_case (Ends_before e l) = or_right (list_before (sort.line a) (sort.line b)) (list_eq (sort.line a) (sort.line b) && nat_le (sort.hi a) (sort.lo b)) (and_from (list_eq (sort.line a) (sort.line b)) (nat_le (sort.hi a) (sort.lo b)) (ap (list_eq (sort.line a)) (sym e) ∙ list_eq_refl (sort.line a)) (le-leb (sort.hi a) (sort.lo b) l))

is_false : (b : Bool) → (b ≡ true → ⊥) → b ≡ false
is_false true h = absurd (h refl)
is_false false h = refl

not_meeting : {R : Type 0} (sort : Sort R) (a b c : R) → sort.lo b < sort.hi b → Stands sort a b → Stands sort b c → meet sort a c ≡ true → ⊥
not_meeting sort a b c full ab bc m = by_case ab bc
  where
    tests : (list_eq (sort.line a) (sort.line c) ≡ true) × (touch (sort.lo a) (sort.hi a) (sort.lo c) (sort.hi c) ≡ true)
    tests = and_parts (list_eq (sort.line a) (sort.line c)) (touch (sort.lo a) (sort.hi a) (sort.lo c) (sort.hi c)) m

    same_line : sort.line a ≡ sort.line c
    same_line = list_eq_true (sort.line a) (sort.line c) tests.0

    reaches : sort.lo c ≤ sort.hi a
    reaches = leb-true (sort.lo c) (sort.hi a) (and_parts (nat_le (sort.lo a) (sort.hi c)) (nat_le (sort.lo c) (sort.hi a)) tests.1).1

    loop : list_before (sort.line a) (sort.line c) ≡ true → ⊥
    loop h = before_not_self (sort.line a) (ap (list_before (sort.line a)) same_line ∙ h)

    by_case : Stands sort a b → Stands sort b c → ⊥
    by_case (Line_before h) (Line_before k) = loop (before_trans (sort.line a) (sort.line b) (sort.line c) h k)
    by_case (Line_before h) (Ends_before e l) = loop (ap (list_before (sort.line a)) (sym e) ∙ h)
    by_case (Ends_before e l) (Line_before k) = loop (ap (λ line. list_before line (sort.line c)) e ∙ k)
    by_case (Ends_before e l) (Ends_before e2 l2) = omega (arith, l, l2, full, reaches)

stands_trans : {R : Type 0} (sort : Sort R) (a b c : R) → sort.lo b < sort.hi b → Stands sort a b → Stands sort b c → Stands sort a c
stands_trans sort a b c full (Line_before h) (Line_before k) = Line_before (before_trans (sort.line a) (sort.line b) (sort.line c) h k)
stands_trans sort a b c full (Line_before h) (Ends_before e l) = Line_before (ap (list_before (sort.line a)) (sym e) ∙ h)
stands_trans sort a b c full (Ends_before e l) (Line_before k) = Line_before (ap (λ line. list_before line (sort.line c)) e ∙ k)
stands_trans sort a b c full (Ends_before e l) (Ends_before e2 l2) = Ends_before (e ∙ e2) (omega (arith, l, l2, full))

pub ends_trans : {R : Type 0} (sort : Sort R) (a b c : R) → ends_before sort a b ≡ true → ends_before sort b c ≡ true → ends_before sort a c ≡ true
ends_trans sort a b c h k = to_ends sort a c (full_from sort a b h).0 (full_from sort b c k).1 (stands_trans sort a b c (full_from sort a b h).1 (stands_from sort a b h) (stands_from sort b c k))

clear_from : {R V : Type 0} (sort : Sort R) (same : V → V → Bool) (x y z : R × V) → ends_before sort x.0 y.0 ≡ true → ends_before sort y.0 z.0 ≡ true → is_clear sort same x z ≡ true
clear_from sort same x y z h k = and_from (ends_before sort x.0 z.0) (not (same x.1 z.1 && meet sort x.0 z.0)) (ends_trans sort x.0 y.0 z.0 h k) (ap not (is_false (same x.1 z.1 && meet sort x.0 z.0) (λ m. not_meeting sort x.0 y.0 z.0 (full_from sort x.0 y.0 h).1 (stands_from sort x.0 y.0 h) (stands_from sort y.0 z.0 k) (and_parts (same x.1 z.1) (meet sort x.0 z.0) m).1)))

not_before : {R : Type 0} (sort : Sort R) (a b : R) → ends_before sort a b ≡ true → run_before sort b a ≡ true → ⊥
not_before sort a b h m = by_case (stands_from sort a b h) (or_cases (list_before (sort.line b) (sort.line a)) (list_eq (sort.line b) (sort.line a) && nat_lt (sort.lo b) (sort.lo a)) m)
  where
    by_case : Stands sort a b → (list_before (sort.line b) (sort.line a) ≡ true) ⊎ ((list_eq (sort.line b) (sort.line a) && nat_lt (sort.lo b) (sort.lo a)) ≡ true) → ⊥
    by_case (Line_before k) (inl l) = before_not_self (sort.line a) (before_trans (sort.line a) (sort.line b) (sort.line a) k l)
    by_case (Line_before k) (inr l) = before_not_self (sort.line a) (ap (list_before (sort.line a)) (sym (list_eq_true (sort.line b) (sort.line a) (and_parts (list_eq (sort.line b) (sort.line a)) (nat_lt (sort.lo b) (sort.lo a)) l).0)) ∙ k)
    by_case (Ends_before e n) (inl l) = before_not_self (sort.line a) (ap (λ line. list_before line (sort.line a)) e ∙ l)
    by_case (Ends_before e n) (inr l) = omega (arith, n, (full_from sort a b h).0, ltb-true (sort.lo b) (sort.lo a) (and_parts (list_eq (sort.line b) (sort.line a)) (nat_lt (sort.lo b) (sort.lo a)) l).1)

not_false : (b : Bool) → not b ≡ true → b ≡ false
not_false true e = sym e
not_false false e = refl

clear_put : {R V : Type 0} (sort : Sort R) (same : V → V → Bool) (r x : R × V) (xs : List (R × V)) → is_clear sort same x r ≡ true → put sort same r (x ∷ xs) ≡ x ∷ put sort same r xs
clear_put {R} {V} sort same r x xs e =
    let tests : (ends_before sort x.0 r.0 ≡ true) × (not (same x.1 r.1 && meet sort x.0 r.0) ≡ true) = and_parts (ends_before sort x.0 r.0) (not (same x.1 r.1 && meet sort x.0 r.0)) e in
    ap₂ (λ (b : Bool) (o : Option (R × V)). put_at (λ row. put sort same row xs) r x xs b o) (is_false (run_before sort r.0 x.0) (not_before sort x.0 r.0 tests.0)) (ap (λ (b : Bool). if b then Some (sort.widen x.0 (min (sort.lo x.0) (sort.lo r.0)) (max (sort.hi x.0) (sort.hi r.0)), r.1) else None) (not_false (same x.1 r.1 && meet sort x.0 r.0) tests.1))

-- A row that all rows in front stand clear of is put among those behind.
pub put_behind : {R V : Type 0} (sort : Sort R) (same : V → V → Bool) (r : R × V) (front back : List (R × V)) → AllClear sort same r front → put sort same r (front ++ back) ≡ front ++ put sort same r back
put_behind sort same r [] back h = refl
put_behind sort same r (x ∷ xs) back h = clear_put sort same r x (xs ++ back) h.0 ∙ ap (λ rows. x ∷ rows) (put_behind sort same r xs back h.1)

each_more : {A : Type 0} (P : A → Type 0) (xs : List A) (y : A) → EachRow P xs → P y → EachRow P (xs ++ (y ∷ []))
each_more P [] y h p = (p, tt)
each_more P (x ∷ xs) y h p = (h.0, each_more P xs y h.1 p)

each_less : {A : Type 0} (P : A → Type 0) (xs : List A) (y : A) → EachRow P (xs ++ (y ∷ [])) → EachRow P xs
each_less P [] y h = tt
each_less P (x ∷ xs) y h = (h.0, each_less P xs y h.1)

each_last : {A : Type 0} (P : A → Type 0) (xs : List A) (y : A) → EachRow P (xs ++ (y ∷ [])) → P y
each_last P [] y h = h.0
each_last P (x ∷ xs) y h = each_last P xs y h.1

-- Where the last of chained rows stands clear, all do.
pub all_clear : {R V : Type 0} (sort : Sort R) (same : V → V → Bool) (r : R × V) (xs : List (R × V)) (y : R × V) → Chained sort (xs ++ (y ∷ [])) → is_clear sort same y r ≡ true → AllClear sort same r (xs ++ (y ∷ []))
all_clear sort same r [] y h e = (e, tt)
all_clear sort same r (x ∷ xs) y h e = (clear_from sort same x y r (each_last (λ z. ends_before sort x.0 z.0 ≡ true) xs y h.0) (and_parts (ends_before sort y.0 r.0) (not (same y.1 r.1 && meet sort y.0 r.0)) e).0, all_clear sort same r xs y h.1 e)

pub chained_less : {R V : Type 0} (sort : Sort R) (xs : List (R × V)) (y : R × V) → Chained sort (xs ++ (y ∷ [])) → Chained sort xs
chained_less sort [] y h = tt
chained_less sort (x ∷ xs) y h = (each_less (λ z. ends_before sort x.0 z.0 ≡ true) xs y h.0, chained_less sort xs y h.1)

-- Chained rows with one more, before which the last ends.
pub chained_more : {R V : Type 0} (sort : Sort R) (xs : List (R × V)) (y z : R × V) → Chained sort (xs ++ (y ∷ [])) → ends_before sort y.0 z.0 ≡ true → Chained sort ((xs ++ (y ∷ [])) ++ (z ∷ []))
chained_more sort [] y z h e = ((e, tt), (tt, tt))
chained_more sort (x ∷ xs) y z h e = (each_more (λ w. ends_before sort x.0 w.0 ≡ true) (xs ++ (y ∷ [])) z h.0 (ends_trans sort x.0 y.0 z.0 (each_last (λ w. ends_before sort x.0 w.0 ≡ true) xs y h.0) e), chained_more sort xs y z h.1 e)

-- The same for rows of which the last is known.
pub followed : {R V : Type 0} (sort : Sort R) (rows rest : List (R × V)) (y z : R × V) → rows ≡ rest ++ (y ∷ []) → ends_before sort y.0 z.0 ≡ true → Chained sort rows → Chained sort (rows ++ (z ∷ []))
followed sort rows rest y z e h chained = subst (λ xs. Chained sort (xs ++ (z ∷ []))) (sym e) (chained_more sort rest y z (subst (Chained sort) e chained) h)

pub without_last : {R V : Type 0} (sort : Sort R) (rows rest : List (R × V)) (y : R × V) → rows ≡ rest ++ (y ∷ []) → Chained sort rows → Chained sort rest
without_last sort rows rest y e chained = chained_less sort rest y (subst (Chained sort) e chained)

between : {A : Type 0} (xs ys : List A) (y : A) → (xs ++ (y ∷ [])) ++ ys ≡ xs ++ (y ∷ ys)
between [] ys y = refl
between (x ∷ xs) ys y = ap (λ rows. x ∷ rows) (between xs ys y)

-- A row moved from those in front to those behind, which are held from last to first.
pub moved : {A : Type 0} (front rest back more : List A) (y : A) → front ≡ rest ++ (y ∷ []) → more ≡ back ++ (y ∷ []) → rest ++ reverse more ≡ front ++ reverse back
moved front rest back more y e h = ap (λ rows. rest ++ reverse rows) h ∙ (ap (λ rows. rest ++ rows) (reverse-append back (y ∷ [])) ∙ (sym (between rest (reverse back) y) ∙ ap (λ rows. rows ++ reverse back) (sym e)))

-- Rows put after others.
pub put_all_more : {R V : Type 0} (sort : Sort R) (same : V → V → Bool) (ps more rows : List (R × V)) → put_all sort same (ps ++ more) rows ≡ put_all sort same more (put_all sort same ps rows)
put_all_more sort same [] more rows = refl
put_all_more sort same (p ∷ ps) more rows = put_all_more sort same ps more (put sort same p rows)
