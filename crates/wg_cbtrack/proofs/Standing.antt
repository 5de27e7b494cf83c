-- Where the rows of an object begin, and what stands there.
use Rattle.std.specs.Prelude.{slice_set}
use Rattle.std.proofs.Common.{◌≡◌, ◌++◌, take, drop, ℕ, zero, suc, ◌<◌, ◌≤◌, List, [], ◌∷◌, length, get_or, false, ◌==◌, Option, Some, None, ◌⊎◌, inl, inr, refl, ap, ap₂, sym, ◌∙◌, arith, nat_lt, eq-eqb}
use Rattle.std.proofs.lemmas.Bool.{cases_order, lt-ltb}
use Rattle.wg_rows.specs.Rows.{EachRow}
use Rattle.wg_cbtrack.specs.Owners.{rows_of, rows_below, rows_above, Ordered}
use Rattle.wg_cbtrack.specs.Alone.{some}
use Rattle.wg_cbtrack.proofs.Owning.{three, front_is, back_is, kept, dropped, none_kept, each_map, each_at, less_no, same_no, same_not}

none_below : {T : Type 0} (object : T → ℕ) (o : ℕ) (x : T) (xs : List T) → o ≤ object x → EachRow (λ y. object x ≤ object y) xs → rows_below object o (x ∷ xs) ≡ []
none_below object o x xs l h = none_kept (λ x. nat_lt (object x) o) (x ∷ xs) (less_no (object x) o l, each_map (λ y. object x ≤ object y) (λ y. nat_lt (object y) o ≡ false) (λ y k. less_no (object y) o (omega (arith, k, l))) xs h)

none_of : {T : Type 0} (object : T → ℕ) (o : ℕ) (x : T) (xs : List T) → o < object x → EachRow (λ y. object x ≤ object y) xs → rows_of object o (x ∷ xs) ≡ []
none_of object o x xs l h = none_kept (λ x. object x == o) (x ∷ xs) (same_not (object x) o l, each_map (λ y. object x ≤ object y) (λ y. (object y == o) ≡ false) (λ y k. same_not (object y) o (omega (arith, k, l))) xs h)

-- Rows of an object begin behind lesser ones, and before those that are not.
pub begins : {T : Type 0} (object : T → ℕ) (o : ℕ) (xs : List T) (i : ℕ) → Ordered object xs → i ≤ length xs → ((j : ℕ) (d : T) → i ≡ suc j → object (get_or xs j d) < o) → ((d : T) → i < length xs → o ≤ object (get_or xs i d)) → i ≡ length (rows_below object o xs)
begins object o [] i a l lo hi = omega arith
begins object o (x ∷ xs) zero a l lo hi = ap length (sym (none_below object o x xs (hi x (omega arith)) a.0))
begins object o (x ∷ xs) (suc zero) a l lo hi = ap suc (begins object o xs zero a.1 (omega arith) (λ j d k. absurd (omega arith)) (λ d k. hi d (omega arith))) ∙ ap length (sym (kept (λ x. nat_lt (object x) o) x xs (lt-ltb (object x) o (lo zero x refl))))
begins object o (x ∷ xs) (suc (suc i)) a l lo hi =
    let least : object x ≤ object (get_or xs i x) = each_at (λ y. object x ≤ object y) xs i x (omega arith) a.0 in
    let less : object (get_or xs i x) < o = lo (suc i) x refl in
    ap suc (begins object o xs (suc i) a.1 (omega arith) (λ j d k. lo (suc j) d (ap suc k)) (λ d k. hi d (omega arith)))
    ∙ ap length (sym (kept (λ x. nat_lt (object x) o) x xs (lt-ltb (object x) o (omega (arith, least, less)))))

-- What stands where they begin.
pub record StandsAt {T : Type 0} (object : T → ℕ) (o : ℕ) (xs : List T) (i : ℕ) : Type 0 where
  pub behind : length xs ≤ i → rows_of object o xs ≡ []
  pub other : (d : T) → i < length xs → (object (get_or xs i d) ≡ o → ⊥) → rows_of object o xs ≡ []
  pub one : (d e : T) → i < length xs → object (get_or xs i d) ≡ o → (suc i < length xs → object (get_or xs (suc i) e) ≡ o → ⊥) → rows_of object o xs ≡ get_or xs i d ∷ []
  pub some : (d : T) → i < length xs → object (get_or xs i d) ≡ o → rows_of object o xs ≡ [] → ⊥

pub stands_at : {T : Type 0} (object : T → ℕ) (o : ℕ) (xs : List T) (i : ℕ) → Ordered object xs → i ≡ length (rows_below object o xs) → StandsAt object o xs i
stands_at object o [] i a e = record { behind = λ l. refl; other = λ d l k. refl; one = λ d f l k n. absurd (omega (arith, l)); some = λ d l k n. absurd (omega (arith, l)) }
stands_at {T} object o (x ∷ xs) i a e = by_order (cases_order (object x) o) i e (λ j f. stands_at object o xs j a.1 f)
  where
    next : (j : ℕ) → StandsAt object o xs j → object x < o → StandsAt object o (x ∷ xs) (suc j)
    next j rest l =
        let same : rows_of object o (x ∷ xs) ≡ rows_of object o xs = dropped (λ x. object x == o) x xs (same_no (object x) o l) in
        record {
          behind = λ k. same ∙ rest.behind (omega arith);
          other = λ d k n. same ∙ rest.other d (omega arith) n;
          one = λ d g k m n. same ∙ rest.one d g (omega arith) m (λ p. n (omega arith));
          some = λ d k m n. rest.some d (omega arith) m (sym same ∙ n);
        }

    not_none : (y : T) (ys : List T) → y ∷ ys ≡ [] → ⊥
    not_none y ys e = absurd (cc)

    last : (ys : List T) → object x ≡ o → EachRow (λ y. object x ≤ object y) ys → Ordered object ys → (f : T) → (1 < length (x ∷ ys) → object (get_or ys 0 f) ≡ o → ⊥) → rows_of object o ys ≡ []
    last [] k h b f n = refl
    last (y ∷ ys) k h b f n = by_y (cases_order (object y) o)
      where
        by_y : (object y ≡ o) ⊎ ((object y < o) ⊎ (o < object y)) → rows_of object o (y ∷ ys) ≡ []
        by_y (inl m) = absurd (n (omega arith) m)
        by_y (inr (inl m)) = let least : object x ≤ object y = h.0 in absurd (omega (arith, m, k, least))
        by_y (inr (inr m)) = none_of object o y ys m b.0

    by_order : (object x ≡ o) ⊎ ((object x < o) ⊎ (o < object x)) → (i : ℕ) → i ≡ length (rows_below object o (x ∷ xs)) → ((j : ℕ) → j ≡ length (rows_below object o xs) → StandsAt object o xs j) → StandsAt object o (x ∷ xs) i
    by_order (inr (inl l)) zero f rest = let long : zero ≡ suc (length (rows_below object o xs)) = f ∙ ap length (kept (λ x. nat_lt (object x) o) x xs (lt-ltb (object x) o l)) in absurd (omega (arith, long))
    by_order (inr (inl l)) (suc j) f rest = let long : suc j ≡ suc (length (rows_below object o xs)) = f ∙ ap length (kept (λ x. nat_lt (object x) o) x xs (lt-ltb (object x) o l)) in next j (rest j (omega (arith, long))) l
    by_order (inr (inr l)) (suc j) f rest = let none : suc j ≡ zero = f ∙ ap length (none_below object o x xs (omega (arith, l)) a.0) in absurd (omega (arith, none))
    by_order (inr (inr l)) zero f rest = record { behind = λ k. none_of object o x xs l a.0; other = λ d k n. none_of object o x xs l a.0; one = λ d g k m n. absurd (omega (arith, m, l)); some = λ d k m n. absurd (omega (arith, m, l)) }
    by_order (inl k) (suc j) f rest = let none : suc j ≡ zero = f ∙ ap length (none_below object o x xs (omega (arith, k)) a.0) in absurd (omega (arith, none))
    by_order (inl k) zero f rest = record {
      behind = λ m. absurd (omega arith);
      other = λ d m n. absurd (n k);
      one = λ d g m n p. kept (λ x. object x == o) x xs (eq-eqb (object x) o k) ∙ ap (λ ys. x ∷ ys) (last xs k a.0 a.1 g p);
      some = λ d m n e. not_none x (rows_of object o xs) (sym (kept (λ x. object x == o) x xs (eq-eqb (object x) o k)) ∙ e);
    }

-- One row set, or put in.
set_there : {T : Type 0} (below above : List T) (y row : T) → slice_set (below ++ (y ∷ above)) (length below) row ≡ below ++ (row ∷ above)
set_there [] above y row = refl
set_there (x ∷ below) above y row = ap (λ xs. x ∷ xs) (set_there below above y row)

pub set_is : {T : Type 0} (object : T → ℕ) (o : ℕ) (xs : List T) (i : ℕ) (row y : T) → Ordered object xs → i ≡ length (rows_below object o xs) → rows_of object o xs ≡ y ∷ [] → slice_set xs i row ≡ rows_below object o xs ++ (row ∷ rows_above object o xs)
set_is object o xs i row y a e one = ap₂ (λ ys j. slice_set ys j row) (three object o xs a ∙ ap (λ mid. rows_below object o xs ++ (mid ++ rows_above object o xs)) one) e ∙ set_there (rows_below object o xs) (rows_above object o xs) y row

pub put_is_there : {T : Type 0} (object : T → ℕ) (o : ℕ) (xs : List T) (i : ℕ) (row : T) → Ordered object xs → i ≡ length (rows_below object o xs) → rows_of object o xs ≡ [] → take i xs ++ row ∷ drop i xs ≡ rows_below object o xs ++ (row ∷ rows_above object o xs)
put_is_there object o xs i row a e none = ap₂ (λ ys zs. ys ++ (row ∷ zs)) (front_is object o xs i a e) (back_is object o xs i a (let zero_long : length (rows_of object o xs) ≡ 0 = ap length none in omega (arith, e, zero_long)))

pub set_held : {T : Type 0} (object : T → ℕ) (o : ℕ) (xs : List T) (i : ℕ) (row : T) (held : Option T) → Ordered object xs → i ≡ length (rows_below object o xs) → rows_of object o xs ≡ some held → (rows_of object o xs ≡ [] → ⊥) → slice_set xs i row ≡ rows_below object o xs ++ (row ∷ rows_above object o xs)
set_held object o xs i row None a e one there = absurd (there one)
set_held object o xs i row (Some y) a e one there = set_is object o xs i row y a e one
