-- Runs that lie apart, by their ends.
use Rattle.std.specs.Prelude.{Some, None, nat_lt}
use Rattle.std.proofs.Common.{◌≡◌, ℕ, ◌-◌, ◌<◌, ◌≤◌, ◌==◌, ◌&&◌, ◌||◌, List, [], ◌∷◌, ◌++◌, Bool, true, false, if◌then◌else◌, ap, sym, refl, ◌∙◌, arith, true≢false, ◌⊎◌, inl, inr}
use Rattle.std.specs.declared.cmp.Ordering.{Ordering}
use Rattle.std.specs.Ordering.{MatchOrdering, ordering_then, nat_cmp, is_eq, is_lt, is_gt}
use Rattle.std.specs.declared.cmp.Ordering.TheVariants.{Less, Equal, Greater}
use Rattle.std.specs.Cmp.{nat_cmp_is}
use Rattle.std.proofs.lemmas.Cmp.{ranked}
use Rattle.std.proofs.lemmas.Map.Lookups.{exact_unsigned}
use Rattle.std.proofs.lemmas.List.Folds.{list_any-append}
use Rattle.std.proofs.lemmas.Bool.{and_parts, and_from, or_cases, or_left, or_right, ltb-true, lt-ltb, eqb-true, eq-eqb, cases_lt}
use Rattle.wg_rows.specs.Rows.{list_eq}
use Rattle.wg_rows.proofs.Put.{list_eq_true, list_eq_refl}
use Rattle.wg_rows.specs.Runs.{Cells, Bytes, Queries, Layers, Slices, cell_line, cell_lo, cell_hi}
use Rattle.wg_readtrace.specs.Given.{overlap, is_given, IsFull, Line, line_of, line_cmp, same_line, Place, place_cmp, Ends, Tells}

-- Lines as lists, and as tuples.
key : List ℕ → Line
key (o ∷ s ∷ []) = (o, s, 0, 0)
key (o ∷ s ∷ m ∷ []) = (o, s, 0, m)
key (o ∷ s ∷ a ∷ m ∷ []) = (o, s, a, m)
key _ = (0, 0, 0, 0)

line_is : (run : Cells) → line_of run ≡ key (cell_line run)
unfolding key
line_is (Bytes object lo hi) = refl
line_is (Queries object lo hi) = refl
line_is (Layers object aspect mip lo hi) = refl
line_is (Slices object mip lo hi) = refl

list_of : Line → List ℕ
list_of line = if line.1 == 3 then line.0 ∷ (line.1 ∷ (line.3 ∷ [])) else (if line.1 == 2 then line.0 ∷ (line.1 ∷ (line.2 ∷ (line.3 ∷ []))) else line.0 ∷ (line.1 ∷ []))

list_is : (run : Cells) → cell_line run ≡ list_of (line_of run)
unfolding list_of
list_is (Bytes object lo hi) = refl
list_is (Queries object lo hi) = refl
list_is (Layers object aspect mip lo hi) = refl
list_is (Slices object mip lo hi) = refl

pub record Over (a b : Cells) : Type 0 where
  pub line : line_of a ≡ line_of b
  pub below : cell_lo a < cell_hi b
  pub above : cell_lo b < cell_hi a

pub over : (a b : Cells) → overlap a b ≡ true → Over a b
unfolding overlap
over a b e =
    let p : (list_eq (cell_line a) (cell_line b) ≡ true) × ((nat_lt (cell_lo a) (cell_hi b) && nat_lt (cell_lo b) (cell_hi a)) ≡ true) = and_parts (list_eq (cell_line a) (cell_line b)) (nat_lt (cell_lo a) (cell_hi b) && nat_lt (cell_lo b) (cell_hi a)) e in
    let q : (nat_lt (cell_lo a) (cell_hi b) ≡ true) × (nat_lt (cell_lo b) (cell_hi a) ≡ true) = and_parts (nat_lt (cell_lo a) (cell_hi b)) (nat_lt (cell_lo b) (cell_hi a)) p.1 in
    record {
      line = line_is a ∙ (ap key (list_eq_true (cell_line a) (cell_line b) p.0) ∙ sym (line_is b));
      below = ltb-true (cell_lo a) (cell_hi b) q.0;
      above = ltb-true (cell_lo b) (cell_hi a) q.1;
    }

both : (s t : Bool) → s ≡ true → t ≡ true → (s && t) ≡ true
both s t a b = rw (a, b) refl

pub over_from : (a b : Cells) → line_of a ≡ line_of b → cell_lo a < cell_hi b → cell_lo b < cell_hi a → overlap a b ≡ true
unfolding overlap
over_from a b e l u =
    both (list_eq (cell_line a) (cell_line b)) (nat_lt (cell_lo a) (cell_hi b) && nat_lt (cell_lo b) (cell_hi a))
    (ap (list_eq (cell_line a)) (sym (list_is a ∙ (ap list_of e ∙ sym (list_is b)))) ∙ list_eq_refl (cell_line a))
    (both (nat_lt (cell_lo a) (cell_hi b)) (nat_lt (cell_lo b) (cell_hi a)) (lt-ltb (cell_lo a) (cell_hi b) l) (lt-ltb (cell_lo b) (cell_hi a) u))

-- The order of places.
both_equal : (o p : Ordering) → ordering_then o p ≡ Equal → (o ≡ Equal) × (p ≡ Equal)
both_equal Less p e = cc
both_equal Equal p e = (refl, e)
both_equal Greater p e = cc

same_number : (x y : ℕ) → nat_cmp x y ≡ Equal → x ≡ y
same_number x y e = exact_unsigned x y e

pub exact_line : (x y : Line) → line_cmp x y ≡ Equal → x ≡ y
exact_line x y e =
    let c : (ordering_then (ordering_then (nat_cmp x.0 y.0) (nat_cmp x.1 y.1)) (nat_cmp x.2 y.2) ≡ Equal) × (nat_cmp x.3 y.3 ≡ Equal) = both_equal (ordering_then (ordering_then (nat_cmp x.0 y.0) (nat_cmp x.1 y.1)) (nat_cmp x.2 y.2)) (nat_cmp x.3 y.3) e in
    let b : (ordering_then (nat_cmp x.0 y.0) (nat_cmp x.1 y.1) ≡ Equal) × (nat_cmp x.2 y.2 ≡ Equal) = both_equal (ordering_then (nat_cmp x.0 y.0) (nat_cmp x.1 y.1)) (nat_cmp x.2 y.2) c.0 in
    let a : (nat_cmp x.0 y.0 ≡ Equal) × (nat_cmp x.1 y.1 ≡ Equal) = both_equal (nat_cmp x.0 y.0) (nat_cmp x.1 y.1) b.0 in
    ap (λ (v : ℕ). (v, x.1, x.2, x.3)) (same_number x.0 y.0 a.0)
    ∙ (ap (λ (v : ℕ). (y.0, v, x.2, x.3)) (same_number x.1 y.1 a.1)
    ∙ (ap (λ (v : ℕ). (y.0, y.1, v, x.3)) (same_number x.2 y.2 b.1)
    ∙ ap (λ (v : ℕ). (y.0, y.1, y.2, v)) (same_number x.3 y.3 c.1)))

number_itself : (x : ℕ) → nat_cmp x x ≡ Equal
number_itself x = sym (nat_cmp_is x x Equal refl)

line_itself : (x : Line) → line_cmp x x ≡ Equal
line_itself x = rw (number_itself x.0, number_itself x.1, number_itself x.2, number_itself x.3) refl

place_itself : (x : Place) → place_cmp x x ≡ Equal
place_itself x = rw (line_itself x.0, number_itself x.1) refl

exact_place : (x y : Place) → place_cmp x y ≡ Equal → x ≡ y
exact_place x y e =
    let c : (line_cmp x.0 y.0 ≡ Equal) × (nat_cmp x.1 y.1 ≡ Equal) = both_equal (line_cmp x.0 y.0) (nat_cmp x.1 y.1) e in
    ap (λ (v : Line). (v, x.1)) (exact_line x.0 y.0 c.0) ∙ ap (λ (v : ℕ). (y.0, v)) (same_number x.1 y.1 c.1)

-- by what a comparison of numbers answers
above_from : (x y : ℕ) → is_gt (nat_cmp x y) ≡ false → x ≤ y
above_from x y e = by_case (nat_cmp x y) (ranked x y (nat_cmp x y) refl) e
  where
    by_case : (o : Ordering) → MatchOrdering o (x < y) (x ≡ y) (y < x) → is_gt o ≡ false → x ≤ y
    by_case Less h k = omega (arith, h)
    by_case Equal h k = omega (arith, h)
    by_case Greater h k = absurd (true≢false k)

below_from : (x y : ℕ) → is_lt (nat_cmp x y) ≡ false → y ≤ x
below_from x y e = by_case (nat_cmp x y) (ranked x y (nat_cmp x y) refl) e
  where
    by_case : (o : Ordering) → MatchOrdering o (x < y) (x ≡ y) (y < x) → is_lt o ≡ false → y ≤ x
    by_case Less h k = absurd (true≢false k)
    by_case Equal h k = omega (arith, h)
    by_case Greater h k = omega (arith, h)

above_is : (x y : ℕ) → x ≤ y → is_gt (nat_cmp x y) ≡ false
above_is x y l = by_case (nat_cmp x y) (ranked x y (nat_cmp x y) refl)
  where
    by_case : (o : Ordering) → MatchOrdering o (x < y) (x ≡ y) (y < x) → is_gt o ≡ false
    by_case Less h = refl
    by_case Equal h = refl
    by_case Greater h = absurd (omega (arith, h))

-- Places of one line.
in_line : (line : Line) (x y : ℕ) → place_cmp (line, x) (line, y) ≡ nat_cmp x y
in_line line x y = ap (λ (o : Ordering). ordering_then o (nat_cmp x y)) (line_itself line)

-- a place from which a place of a line is not below, and above which another of that line is not, is of the line
between : (line : Line) (place : Place) (low high : ℕ) → is_lt (place_cmp place (line, low)) ≡ false → is_gt (place_cmp place (line, high)) ≡ false → (place.0 ≡ line) × (low ≤ place.1) × (place.1 ≤ high)
between line place low high a b = by_case (line_cmp place.0 line) refl a b
  where
    by_case : (o : Ordering) → line_cmp place.0 line ≡ o → is_lt (ordering_then o (nat_cmp place.1 low)) ≡ false → is_gt (ordering_then o (nat_cmp place.1 high)) ≡ false → (place.0 ≡ line) × (low ≤ place.1) × (place.1 ≤ high)
    by_case Less e a b = absurd (true≢false a)
    by_case Equal e a b = (exact_line place.0 line e, below_from place.1 low a, above_from place.1 high b)
    by_case Greater e a b = absurd (true≢false b)

-- Whether the ends meet a run.
none_meets : (ends : Ends) (rows : List Cells) (run : Cells) → Tells ends rows → ((place : Place) → is_gt (place_cmp place (line_of run, cell_hi run - 1)) ≡ false → ends place ≡ None) → is_given rows run ≡ false
none_meets ends rows run t none = by_test (is_given rows run) refl
  where
    by_test : (b : Bool) → is_given rows run ≡ b → b ≡ false
    by_test true e =
        let f : (at : ℕ) × (end : ℕ) × (ends (line_of run, at) ≡ Some end) × (cell_lo run < end) × (at < cell_hi run) = t.found run e in
        let near : is_gt (place_cmp (line_of run, f.0) (line_of run, cell_hi run - 1)) ≡ false = ap is_gt (in_line (line_of run) f.0 (cell_hi run - 1)) ∙ above_is f.0 (cell_hi run - 1) (omega (arith, f.4)) in
        let no : ends (line_of run, f.0) ≡ None = none (line_of run, f.0) near in
        let yes : ends (line_of run, f.0) ≡ Some f.1 = f.2 in
        cc
    by_test false e = refl

same_some : (x y : ℕ) → Some x ≡ Some y → x ≡ y
same_some x y e = cc

record Last (ends : Ends) (run : Cells) (place : Place) (end : ℕ) : Type 0 where
  here : ends place ≡ Some end
  near : is_gt (place_cmp place (line_of run, cell_hi run - 1)) ≡ false
  last : (q : Place) → is_gt (place_cmp q (line_of run, cell_hi run - 1)) ≡ false → (v : ℕ) → ends q ≡ Some v → is_lt (place_cmp place q) ≡ false

-- the last end before the run's is in its line and reaches it just where some end meets it
last_meets : (ends : Ends) (rows : List Cells) (run : Cells) (place : Place) (end : ℕ) → Tells ends rows → IsFull run → Last ends run place end → is_given rows run ≡ true → (place.0 ≡ line_of run) × (cell_lo run < end)
last_meets ends rows run place end t full l e = (b.0, by_order (cases_lt f.0 place.1))
  where
    f : (at : ℕ) × (end : ℕ) × (ends (line_of run, at) ≡ Some end) × (cell_lo run < end) × (at < cell_hi run)
    f = t.found run e

    near : is_gt (place_cmp (line_of run, f.0) (line_of run, cell_hi run - 1)) ≡ false
    near = ap is_gt (in_line (line_of run) f.0 (cell_hi run - 1)) ∙ above_is f.0 (cell_hi run - 1) (omega (arith, f.4))

    b : (place.0 ≡ line_of run) × (f.0 ≤ place.1) × (place.1 ≤ cell_hi run - 1)
    b = between (line_of run) place f.0 (cell_hi run - 1) (l.last (line_of run, f.0) near f.1 f.2) l.near

    here : ends (line_of run, place.1) ≡ Some end
    here = ap (λ (line : Line). ends (line, place.1)) (sym b.0) ∙ l.here

    by_order : (f.0 < place.1) ⊎ (place.1 ≤ f.0) → cell_lo run < end
    by_order (inl h) =
        let apart : f.1 ≤ place.1 = t.apart (line_of run) f.0 f.1 place.1 end f.2 here h in
        let longer : place.1 < end = t.full (line_of run) place.1 end here in
        omega (arith, f.3)
    by_order (inr h) =
        let alike : place.1 ≡ f.0 = omega (arith, h, b.1) in
        let same : ends (line_of run, place.1) ≡ Some f.1 = ap (λ (x : ℕ). ends (line_of run, x)) alike ∙ f.2 in
        let ends_alike : end ≡ f.1 = same_some end f.1 (sym here ∙ same) in
        omega (arith, f.3)

both_lines : (x y : Line) → same_line x y ≡ true → x ≡ y
both_lines x y e =
    let a : ((x.0 == y.0) ≡ true) × (((x.1 == y.1) && ((x.2 == y.2) && (x.3 == y.3))) ≡ true) = and_parts (x.0 == y.0) ((x.1 == y.1) && ((x.2 == y.2) && (x.3 == y.3))) e in
    let b : ((x.1 == y.1) ≡ true) × (((x.2 == y.2) && (x.3 == y.3)) ≡ true) = and_parts (x.1 == y.1) ((x.2 == y.2) && (x.3 == y.3)) a.1 in
    let c : ((x.2 == y.2) ≡ true) × ((x.3 == y.3) ≡ true) = and_parts (x.2 == y.2) (x.3 == y.3) b.1 in
    ap (λ (v : ℕ). (v, x.1, x.2, x.3)) (eqb-true x.0 y.0 a.0)
    ∙ (ap (λ (v : ℕ). (y.0, v, x.2, x.3)) (eqb-true x.1 y.1 b.0)
    ∙ (ap (λ (v : ℕ). (y.0, y.1, v, x.3)) (eqb-true x.2 y.2 c.0)
    ∙ ap (λ (v : ℕ). (y.0, y.1, y.2, v)) (eqb-true x.3 y.3 c.1)))

line_alike : (x : Line) → same_line x x ≡ true
line_alike x = rw (eq-eqb x.0 x.0 refl, eq-eqb x.1 x.1 refl, eq-eqb x.2 x.2 refl, eq-eqb x.3 x.3 refl) refl

alike : (s t : Bool) → (s ≡ true → t ≡ true) → (t ≡ true → s ≡ true) → s ≡ t
alike true t f g = sym (f refl)
alike false true f g = g refl
alike false false f g = refl

-- what the search answers
pub is_met : (ends : Ends) (rows : List Cells) (run : Cells) (place : Place) (end : ℕ) → Tells ends rows → IsFull run → ends place ≡ Some end → is_gt (place_cmp place (line_of run, cell_hi run - 1)) ≡ false
    → ((q : Place) → is_gt (place_cmp q (line_of run, cell_hi run - 1)) ≡ false → (v : ℕ) → ends q ≡ Some v → is_lt (place_cmp place q) ≡ false)
    → (same_line place.0 (line_of run) && nat_lt (cell_lo run) end) ≡ is_given rows run
is_met ends rows run place end t full here near last = alike (same_line place.0 (line_of run) && nat_lt (cell_lo run) end) (is_given rows run) to from
  where
    to : (same_line place.0 (line_of run) && nat_lt (cell_lo run) end) ≡ true → is_given rows run ≡ true
    to e =
        let p : (same_line place.0 (line_of run) ≡ true) × (nat_lt (cell_lo run) end ≡ true) = and_parts (same_line place.0 (line_of run)) (nat_lt (cell_lo run) end) e in
        let line : place.0 ≡ line_of run = both_lines place.0 (line_of run) p.0 in
        let there : ends (line_of run, place.1) ≡ Some end = ap (λ (l : Line). ends (l, place.1)) (sym line) ∙ here in
        let high : is_gt (nat_cmp place.1 (cell_hi run - 1)) ≡ false = sym (ap is_gt (ap (λ (l : Line). place_cmp (l, place.1) (line_of run, cell_hi run - 1)) line ∙ in_line (line_of run) place.1 (cell_hi run - 1))) ∙ near in
        let below : place.1 ≤ cell_hi run - 1 = above_from place.1 (cell_hi run - 1) high in
        t.given run place.1 end there (ltb-true (cell_lo run) end p.1) (omega (arith, full, below))

    from : is_given rows run ≡ true → (same_line place.0 (line_of run) && nat_lt (cell_lo run) end) ≡ true
    from e =
        let m : (place.0 ≡ line_of run) × (cell_lo run < end) = last_meets ends rows run place end t full (record { here = here; near = near; last = last }) e in
        and_from (same_line place.0 (line_of run)) (nat_lt (cell_lo run) end) (ap (λ (l : Line). same_line l (line_of run)) m.0 ∙ line_alike (line_of run)) (lt-ltb (cell_lo run) end m.1)

pub is_none_met : (ends : Ends) (rows : List Cells) (run : Cells) → Tells ends rows → ((place : Place) → is_gt (place_cmp place (line_of run, cell_hi run - 1)) ≡ false → ends place ≡ None) → false ≡ is_given rows run
is_none_met ends rows run t none = sym (none_meets ends rows run t none)

-- One run more.
is_equal : (o : Ordering) → is_eq o ≡ true → o ≡ Equal
is_equal Less e = absurd (true≢false (sym e))
is_equal Equal e = refl
is_equal Greater e = absurd (true≢false (sym e))

data Either (P Q : Type 0) : Type 0 where
  New : P → Either P Q
  Old : Q → Either P Q

-- where a run begins
abbrev begin : Cells → Place
begin run = (line_of run, cell_lo run)

-- the end at a place, with a run more
abbrev At : Ends → Ends → Place → ℕ → Place → Type 0
At ends ends2 k hi q = Either ((k ≡ q) × (ends2 q ≡ Some hi)) ((ends2 q ≡ ends q) × (k ≡ q → ⊥))

more_at : (ends ends2 : Ends) (k : Place) (hi : ℕ) → ((q : Place) → ends2 q ≡ (if is_eq (place_cmp k q) then Some hi else ends q)) → (q : Place) → At ends ends2 k hi q
more_at ends ends2 k hi h q = by_test (is_eq (place_cmp k q)) refl (h q)
  where
    by_test : (b : Bool) → is_eq (place_cmp k q) ≡ b → ends2 q ≡ (if b then Some hi else ends q) → At ends ends2 k hi q
    by_test true e g = New (exact_place k q (is_equal (place_cmp k q) e), g)
    by_test false e g = Old (g, λ same. true≢false (sym (ap (λ (p : Place). is_eq (place_cmp k p)) (sym same) ∙ ap is_eq (place_itself k)) ∙ e))

pub one_more : (ends ends2 : Ends) (rows : List Cells) (run : Cells) → Tells ends rows → IsFull run → is_given rows run ≡ false
    → ((q : Place) → ends2 q ≡ (if is_eq (place_cmp (begin run) q) then Some (cell_hi run) else ends q)) → Tells ends2 (rows ++ run ∷ [])
one_more ends ends2 rows run t full fresh h = record { found = found; given = given; full = longer; apart = apart }
  where
    case : (q : Place) → At ends ends2 (begin run) (cell_hi run) q
    case q = more_at ends ends2 (begin run) (cell_hi run) h q

    -- no end of the line meets the run
    clash : (at end : ℕ) → ends (line_of run, at) ≡ Some end → cell_lo run < end → at < cell_hi run → ⊥
    clash at end e l u = true≢false (sym (t.given run at end e l u) ∙ fresh)

    found : (c : Cells) → is_given (rows ++ run ∷ []) c ≡ true → (at : ℕ) × (end : ℕ) × (ends2 (line_of c, at) ≡ Some end) × (cell_lo c < end) × (at < cell_hi c)
    found c e = by_either (or_cases (is_given rows c) (overlap c run || false) (sym (list_any-append (overlap c) rows (run ∷ [])) ∙ e))
      where
        by_old : (at end : ℕ) → ends (line_of c, at) ≡ Some end → cell_lo c < end → at < cell_hi c → At ends ends2 (begin run) (cell_hi run) (line_of c, at)
            → (at : ℕ) × (end : ℕ) × (ends2 (line_of c, at) ≡ Some end) × (cell_lo c < end) × (at < cell_hi c)
        by_old at end e l u (New n) =
            let there : ends (line_of run, cell_lo run) ≡ Some end = ap ends n.0 ∙ e in
            absurd (clash (cell_lo run) end there (t.full (line_of run) (cell_lo run) end there) full)
        by_old at end e l u (Old o) = (at, end, o.0 ∙ e, l, u)

        by_new : Over c run → At ends ends2 (begin run) (cell_hi run) (line_of c, cell_lo run)
            → (at : ℕ) × (end : ℕ) × (ends2 (line_of c, at) ≡ Some end) × (cell_lo c < end) × (at < cell_hi c)
        by_new v (New n) = (cell_lo run, cell_hi run, n.1, v.below, v.above)
        by_new v (Old o) = absurd (o.1 (ap (λ (l : Line). (l, cell_lo run)) (sym v.line)))

        overlaps : (b : Bool) → (b || false) ≡ true → b ≡ true
        overlaps true e = refl
        overlaps false e = e

        by_either : (is_given rows c ≡ true) ⊎ ((overlap c run || false) ≡ true) → (at : ℕ) × (end : ℕ) × (ends2 (line_of c, at) ≡ Some end) × (cell_lo c < end) × (at < cell_hi c)
        by_either (inl g) =
            let f : (at : ℕ) × (end : ℕ) × (ends (line_of c, at) ≡ Some end) × (cell_lo c < end) × (at < cell_hi c) = t.found c g in
            by_old f.0 f.1 f.2 f.3 f.4 (case (line_of c, f.0))
        by_either (inr g) = by_new (over c run (overlaps (overlap c run) g)) (case (line_of c, cell_lo run))

    given : (c : Cells) (at end : ℕ) → ends2 (line_of c, at) ≡ Some end → cell_lo c < end → at < cell_hi c → is_given (rows ++ run ∷ []) c ≡ true
    given c at end e l u = list_any-append (overlap c) rows (run ∷ []) ∙ by_case (case (line_of c, at))
      where
        by_case : At ends ends2 (begin run) (cell_hi run) (line_of c, at) → (is_given rows c || (overlap c run || false)) ≡ true
        by_case (New n) =
            let place : cell_lo run ≡ at = ap (λ (p : Place). p.1) n.0 in
            let end_is : end ≡ cell_hi run = same_some end (cell_hi run) (sym e ∙ n.1) in
            or_right (is_given rows c) (overlap c run || false) (or_left (overlap c run) false (over_from c run (sym (ap (λ (p : Place). p.0) n.0)) (omega (arith, l, end_is)) (omega (arith, place, u))))
        by_case (Old o) = or_left (is_given rows c) (overlap c run || false) (t.given c at end (sym o.0 ∙ e) l u)

    longer : (line : Line) (at end : ℕ) → ends2 (line, at) ≡ Some end → at < end
    longer line at end e = by_case (case (line, at))
      where
        by_case : At ends ends2 (begin run) (cell_hi run) (line, at) → at < end
        by_case (New n) = omega (arith, full, ap (λ (p : Place). p.1) n.0, same_some end (cell_hi run) (sym e ∙ n.1))
        by_case (Old o) = t.full line at end (sym o.0 ∙ e)

    apart : (line : Line) (at end at2 end2 : ℕ) → ends2 (line, at) ≡ Some end → ends2 (line, at2) ≡ Some end2 → at < at2 → end ≤ at2
    apart line at end at2 end2 e e2 l = by_cases (case (line, at)) (case (line, at2))
      where
        by_cases : At ends ends2 (begin run) (cell_hi run) (line, at)
            → At ends ends2 (begin run) (cell_hi run) (line, at2)
            → end ≤ at2
        by_cases (New n) (New m) = absurd (omega (arith, l, ap (λ (p : Place). p.1) n.0, ap (λ (p : Place). p.1) m.0))
        by_cases (New n) (Old o) =
            let there : ends (line_of run, at2) ≡ Some end2 = ap (λ (x : Line). ends (x, at2)) (ap (λ (p : Place). p.0) n.0) ∙ (sym o.0 ∙ e2) in
            let longer2 : at2 < end2 = t.full (line_of run) at2 end2 there in
            let place : cell_lo run ≡ at = ap (λ (p : Place). p.1) n.0 in
            let end_is : end ≡ cell_hi run = same_some end (cell_hi run) (sym e ∙ n.1) in
            by_order there longer2 place end_is (cases_lt at2 (cell_hi run))
          where
            by_order : ends (line_of run, at2) ≡ Some end2 → at2 < end2 → cell_lo run ≡ at → end ≡ cell_hi run → (at2 < cell_hi run) ⊎ (cell_hi run ≤ at2) → end ≤ at2
            by_order there longer2 place end_is (inl k) = absurd (clash at2 end2 there (omega (arith, place, l, longer2)) k)
            by_order there longer2 place end_is (inr k) = omega (arith, end_is, k)
        by_cases (Old o) (New n) =
            let there : ends (line_of run, at) ≡ Some end = ap (λ (x : Line). ends (x, at)) (ap (λ (p : Place). p.0) n.0) ∙ (sym o.0 ∙ e) in
            let place : cell_lo run ≡ at2 = ap (λ (p : Place). p.1) n.0 in
            by_order there place (cases_lt at2 end)
          where
            by_order : ends (line_of run, at) ≡ Some end → cell_lo run ≡ at2 → (at2 < end) ⊎ (end ≤ at2) → end ≤ at2
            by_order there place (inl k) = absurd (clash at end there (omega (arith, place, k)) (omega (arith, l, place, full)))
            by_order there place (inr k) = k
        by_cases (Old o) (Old p) = t.apart line at end at2 end2 (sym o.0 ∙ e) (sym p.0 ∙ e2) l

-- the place before an end
abbrev before_end : Line → ℕ → Place
before_end line high = (line, high - 1)

-- The same, where what the code computes stands for the run's line and ends.
pub is_met_at : (ends : Ends) (rows : List Cells) (run : Cells) (place : Place) (end : ℕ) (line : Line) (high lo : ℕ) → line ≡ line_of run → high ≡ cell_hi run → lo ≡ cell_lo run → Tells ends rows → IsFull run → ends place ≡ Some end
    → is_gt (place_cmp place (line, high - 1)) ≡ false → ((q : Place) → is_gt (place_cmp q (line, high - 1)) ≡ false → (v : ℕ) → ends q ≡ Some v → is_lt (place_cmp place q) ≡ false)
    → (same_line place.0 line && nat_lt lo end) ≡ is_given rows run
is_met_at ends rows run place end line high lo a b d t full here near last =
    ap (λ (l : Line). same_line place.0 l && nat_lt lo end) a
    ∙ (ap (λ (n : ℕ). same_line place.0 (line_of run) && nat_lt n end) d
    ∙ is_met ends rows run place end t full here (sym (ap (λ (p : Place). is_gt (place_cmp place p)) (at_is line high run a b)) ∙ near)
    (λ q k v e. last q (ap (λ (p : Place). is_gt (place_cmp q p)) (at_is line high run a b) ∙ k) v e))
  where
    at_is : (line : Line) (high : ℕ) (run : Cells) → line ≡ line_of run → high ≡ cell_hi run → before_end line high ≡ before_end (line_of run) (cell_hi run)
    at_is line high run a b = ap (λ (l : Line). before_end l high) a ∙ ap (before_end (line_of run)) b

pub is_none_met_at : (ends : Ends) (rows : List Cells) (run : Cells) (line : Line) (high : ℕ) → line ≡ line_of run → high ≡ cell_hi run → Tells ends rows → ((place : Place) → is_gt (place_cmp place (line, high - 1)) ≡ false → ends place ≡ None) → false ≡ is_given rows run
is_none_met_at ends rows run line high a b t none =
    is_none_met ends rows run t (λ place k. none place (ap (λ (p : Place). is_gt (place_cmp place p)) (ap (λ (l : Line). before_end l high) a ∙ ap (before_end (line_of run)) b) ∙ k))

pub one_more_at : (ends ends2 : Ends) (rows : List Cells) (run : Cells) (line : Line) (lo high : ℕ) → line ≡ line_of run → lo ≡ cell_lo run → high ≡ cell_hi run → Tells ends rows → IsFull run → is_given rows run ≡ false
    → ((q : Place) → ends2 q ≡ (if is_eq (place_cmp (line, lo) q) then Some high else ends q)) → Tells ends2 (rows ++ run ∷ [])
one_more_at ends ends2 rows run line lo high a b d t full fresh h =
    one_more ends ends2 rows run t full fresh
    (λ q. h q ∙ (ap (λ (l : Line). if is_eq (place_cmp (l, lo) q) then Some high else ends q) a
    ∙ (ap (λ (n : ℕ). if is_eq (place_cmp (line_of run, n) q) then Some high else ends q) b
    ∙ ap (λ (n : ℕ). if is_eq (place_cmp (begin run) q) then Some n else ends q) d)))
