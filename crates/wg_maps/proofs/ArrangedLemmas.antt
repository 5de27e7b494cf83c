-- Maps in the order of their promises, and what a filter keeps of them.
use Rattle.std.proofs.Common.{◌≡◌, ℕ, zero, suc, ◌+◌, ◌<◌, ◌≤◌, Bool, true, false, not, ◌&&◌, ◌==◌, nat_lt, List, [], ◌∷◌, filter, insert, take, length, get_or, if◌then◌else◌, refl, sym, ap, ◌∙◌, arith, All}
use Rattle.std.specs.List.Sorted.{IsNonDecreasingBy, IsStableByKey, ties}
use Rattle.std.specs.Ordering.{nat_cmp, is_lt}
use Rattle.std.proofs.lemmas.Bool.{lt-ltb, ltb-true, ne_eqb, eqb-true, eqb-false}
use Rattle.std.proofs.lemmas.Bool.Decides.{nat_tests}
use Rattle.std.proofs.lemmas.List.Elements.{All-nil, All-cons, All-head, All-tail, All-get_or, All-from_get_or, filter_agree}
use Rattle.std.proofs.lemmas.List.Sorted.{IsNonDecreasingBy-drop, IsNonDecreasingBy-short}
use Rattle.wg_types.specs.declared.mappings.PendingMap.{PendingMap}
use Rattle.wg_maps.specs.Mappings.{with_map, is_latest}
use Rattle.wg_maps.specs.Waits.{arranged, IsUnlike, AreUnlike}

-- lists in the order of their promises

abbrev pub Rises : List PendingMap → Type 0
Rises ws = IsNonDecreasingBy (λ (wait : PendingMap). wait.promise) ws

tail : (w : PendingMap) (ws : List PendingMap) → Rises (w ∷ ws) → Rises ws
tail w ws rises = IsNonDecreasingBy-drop (λ (wait : PendingMap). wait.promise) 1 (w ∷ ws) rises

-- none comes before the first
from_first : (w : PendingMap) (ws : List PendingMap) → Rises (w ∷ ws) → (n : ℕ) → n ≤ w.promise → All (λ (x : PendingMap). n ≤ x.promise) (w ∷ ws)
from_first w ws rises n le k d lt = let e = rises 0 k d (omega arith) lt in omega (arith, le, e)

after_first : (w : PendingMap) (ws : List PendingMap) → Rises (w ∷ ws) → (n : ℕ) → n < w.promise → All (λ (x : PendingMap). n < x.promise) (w ∷ ws)
after_first w ws rises n less k d lt = let e = rises 0 k d (omega arith) lt in omega (arith, less, e)

rises_cons : (w : PendingMap) (ws : List PendingMap) → All (λ (x : PendingMap). w.promise ≤ x.promise) ws → Rises ws → Rises (w ∷ ws)
rises_cons w ws all rises zero zero d le lt = omega arith
rises_cons w ws all rises zero (suc j) d le lt = all j d (omega (arith, lt))
rises_cons w ws all rises (suc i) zero d le lt = absurd (omega (arith, le))
rises_cons w ws all rises (suc i) (suc j) d le lt = rises i j d (omega (arith, le)) (omega (arith, lt))

less_is : (m n : ℕ) → nat_lt m n ≡ true → m < n
less_is m n e = ltb-true m n e

not_less : (m n : ℕ) → nat_lt m n ≡ false → n ≤ m
not_less m n e = grind (arith, nat_tests, e)

-- one map more

pub all_with : (P : PendingMap → Type 0) (ws : List PendingMap) (new : PendingMap) → P new → All P ws → All P (with_map ws new)
all_with P [] new p all = All-cons P new [] p all
all_with P (w ∷ ws) new p all = by_place (nat_lt new.promise w.promise) (all_with P ws new p (All-tail P w ws all))
  where
    by_place : (b : Bool) → All P (with_map ws new) → All P (if b then new ∷ w ∷ ws else w ∷ with_map ws new)
    by_place true rest = All-cons P new (w ∷ ws) p all
    by_place false rest = All-cons P w (with_map ws new) (All-head P w ws all) rest

rises_with : (ws : List PendingMap) (new : PendingMap) → Rises ws → Rises (with_map ws new)
rises_with [] new rises = IsNonDecreasingBy-short (λ (wait : PendingMap). wait.promise) (new ∷ []) (omega arith)
rises_with (w ∷ ws) new rises = by_place (nat_lt new.promise w.promise) refl (rises_with ws new (tail w ws rises))
  where
    by_place : (b : Bool) → nat_lt new.promise w.promise ≡ b → Rises (with_map ws new) → Rises (if b then new ∷ w ∷ ws else w ∷ with_map ws new)
    by_place true e rest = rises_cons new (w ∷ ws) (from_first w ws rises new.promise (let less = less_is new.promise w.promise e in omega (arith, less))) rises
    by_place false e rest =
        rises_cons w (with_map ws new) (all_with (λ (x : PendingMap). w.promise ≤ x.promise) ws new (not_less new.promise w.promise e)
        (All-tail (λ (x : PendingMap). w.promise ≤ x.promise) w ws (from_first w ws rises w.promise (omega arith)))) rest

pub arranged_rises : (ws : List PendingMap) → Rises (arranged ws)
arranged_rises [] = IsNonDecreasingBy-short (λ (wait : PendingMap). wait.promise) [] (omega arith)
arranged_rises (w ∷ ws) = rises_with (arranged ws) w (arranged_rises ws)

pub all_arranged : (P : PendingMap → Type 0) (ws : List PendingMap) → All P ws → All P (arranged ws)
all_arranged P [] all = all
all_arranged P (w ∷ ws) all = all_with P (arranged ws) w (All-head P w ws all) (all_arranged P ws (All-tail P w ws all))

pub length_with : (ws : List PendingMap) (new : PendingMap) → length (with_map ws new) ≡ length ws + 1
length_with [] new = refl
length_with (w ∷ ws) new = by_place (nat_lt new.promise w.promise) (length_with ws new)
  where
    by_place : (b : Bool) → length (with_map ws new) ≡ length ws + 1 → length (if b then new ∷ w ∷ ws else w ∷ with_map ws new) ≡ length (w ∷ ws) + 1
    by_place true e = omega arith
    by_place false e = omega (arith, e)

pub length_arranged : (ws : List PendingMap) → length (arranged ws) ≡ length ws
length_arranged [] = refl
length_arranged (w ∷ ws) = let e = length_with (arranged ws) w in let f = length_arranged ws in omega (arith, e, f)

-- Two maps of different promises come into their places in either order.
commutes : (ws : List PendingMap) (a b : PendingMap) → (a.promise == b.promise) ≡ false → with_map (with_map ws a) b ≡ with_map (with_map ws b) a
commutes [] a b apart = by_order (nat_lt a.promise b.promise) (one_less a.promise b.promise apart)
  where
    one_less : (m n : ℕ) → (m == n) ≡ false → nat_lt n m ≡ not (nat_lt m n)
    one_less m n e = grind (arith, nat_tests, e)

    by_order : (t : Bool) → nat_lt b.promise a.promise ≡ not t → (if nat_lt b.promise a.promise then b ∷ a ∷ [] else a ∷ b ∷ []) ≡ (if t then a ∷ b ∷ [] else b ∷ a ∷ [])
    by_order true e = ap (λ s. if s then b ∷ a ∷ [] else a ∷ b ∷ []) e
    by_order false e = ap (λ s. if s then b ∷ a ∷ [] else a ∷ b ∷ []) e
commutes (w ∷ ws) a b apart = by_places (nat_lt a.promise w.promise) (nat_lt b.promise w.promise) refl refl (commutes ws a b apart)
  where
    one_less : (m n : ℕ) → (m == n) ≡ false → nat_lt n m ≡ not (nat_lt m n)
    one_less m n e = grind (arith, nat_tests, e)

    first : (m n k : ℕ) → nat_lt m k ≡ true → nat_lt n k ≡ false → nat_lt n m ≡ false
    first m n k e f = grind (arith, nat_tests, e, f)

    with_one : PendingMap → Bool → List PendingMap
    with_one new before = if before then new ∷ w ∷ ws else w ∷ with_map ws new

    both : (t : Bool) → nat_lt b.promise a.promise ≡ not t → (if nat_lt b.promise a.promise then b ∷ a ∷ w ∷ ws else a ∷ b ∷ w ∷ ws) ≡ (if t then a ∷ b ∷ w ∷ ws else b ∷ a ∷ w ∷ ws)
    both true e = ap (λ s. if s then b ∷ a ∷ w ∷ ws else a ∷ b ∷ w ∷ ws) e
    both false e = ap (λ s. if s then b ∷ a ∷ w ∷ ws else a ∷ b ∷ w ∷ ws) e

    by_places : (x y : Bool) → nat_lt a.promise w.promise ≡ x → nat_lt b.promise w.promise ≡ y → with_map (with_map ws a) b ≡ with_map (with_map ws b) a
        → with_map (with_one a x) b ≡ with_map (with_one b y) a
    by_places true true e f rest =
        ap (λ s. if nat_lt b.promise a.promise then b ∷ a ∷ w ∷ ws else a ∷ with_one b s) f
        ∙ (both (nat_lt a.promise b.promise) (one_less a.promise b.promise apart)
        ∙ sym (ap (λ s. if nat_lt a.promise b.promise then a ∷ b ∷ w ∷ ws else b ∷ with_one a s) e))
    by_places true false e f rest =
        ap (λ s. if s then b ∷ a ∷ w ∷ ws else a ∷ with_map (w ∷ ws) b) (first a.promise b.promise w.promise e f)
        ∙ (ap (λ s. a ∷ with_one b s) f
        ∙ sym (ap (λ s. if s then a ∷ w ∷ with_map ws b else w ∷ with_map (with_map ws b) a) e))
    by_places false true e f rest =
        ap (λ s. if s then b ∷ w ∷ with_map ws a else w ∷ with_map (with_map ws a) b) f
        ∙ sym (ap (λ s. if s then a ∷ b ∷ w ∷ ws else b ∷ with_map (w ∷ ws) a) (first b.promise a.promise w.promise f e)
        ∙ ap (λ s. b ∷ with_one a s) e)
    by_places false false e f rest =
        ap (λ s. if s then b ∷ w ∷ with_map ws a else w ∷ with_map (with_map ws a) b) f
        ∙ (ap (λ xs. w ∷ xs) rest
        ∙ sym (ap (λ s. if s then a ∷ w ∷ with_map ws b else w ∷ with_map (with_map ws b) a) e))

-- what a filter keeps of one map more

-- one that comes before all others
comes_first : (t : PendingMap → Bool) (new : PendingMap) (ws : List PendingMap) → All (λ (w : PendingMap). new.promise < w.promise) ws → with_map (filter t ws) new ≡ new ∷ filter t ws
comes_first t new [] all = refl
comes_first t new (w ∷ ws) all = by_test (t w) (comes_first t new ws (All-tail (λ (x : PendingMap). new.promise < x.promise) w ws all))
  where
    by_test : (b : Bool) → with_map (filter t ws) new ≡ new ∷ filter t ws → with_map (if b then w ∷ filter t ws else filter t ws) new ≡ new ∷ (if b then w ∷ filter t ws else filter t ws)
    by_test true e = ap (λ b. if b then new ∷ w ∷ filter t ws else w ∷ with_map (filter t ws) new) (lt-ltb new.promise w.promise (All-head (λ (x : PendingMap). new.promise < x.promise) w ws all))
    by_test false e = e

pub filter_out : (t : PendingMap → Bool) (ws : List PendingMap) (new : PendingMap) → t new ≡ false → filter t (with_map ws new) ≡ filter t ws
filter_out t [] new out = ap (λ b. if b then new ∷ [] else []) out
filter_out t (w ∷ ws) new out = by_place (nat_lt new.promise w.promise) (filter_out t ws new out)
  where
    by_place : (b : Bool) → filter t (with_map ws new) ≡ filter t ws → filter t (if b then new ∷ w ∷ ws else w ∷ with_map ws new) ≡ filter t (w ∷ ws)
    by_place true e = ap (λ b. if b then new ∷ filter t (w ∷ ws) else filter t (w ∷ ws)) out
    by_place false e = ap (λ xs. if t w then w ∷ xs else xs) e

filter_in : (t : PendingMap → Bool) (ws : List PendingMap) (new : PendingMap) → t new ≡ true → Rises ws → filter t (with_map ws new) ≡ with_map (filter t ws) new
filter_in t [] new is rises = ap (λ b. if b then new ∷ [] else []) is
filter_in t (w ∷ ws) new is rises = by_place (nat_lt new.promise w.promise) refl (filter_in t ws new is (tail w ws rises))
  where
    by_test : nat_lt new.promise w.promise ≡ false → (b : Bool) → (if b then w ∷ with_map (filter t ws) new else with_map (filter t ws) new) ≡ with_map (if b then w ∷ filter t ws else filter t ws) new
    by_test after true = sym (ap (λ b. if b then new ∷ w ∷ filter t ws else w ∷ with_map (filter t ws) new) after)
    by_test after false = refl

    by_place : (b : Bool) → nat_lt new.promise w.promise ≡ b → filter t (with_map ws new) ≡ with_map (filter t ws) new
        → filter t (if b then new ∷ w ∷ ws else w ∷ with_map ws new) ≡ with_map (filter t (w ∷ ws)) new
    by_place true before e =
        ap (λ b. if b then new ∷ filter t (w ∷ ws) else filter t (w ∷ ws)) is
        ∙ sym (comes_first t new (w ∷ ws) (after_first w ws rises new.promise (less_is new.promise w.promise before)))
    by_place false after e = ap (λ xs. if t w then w ∷ xs else xs) e ∙ by_test after (t w)

pub filter_arranged : (t : PendingMap → Bool) (ws : List PendingMap) → filter t (arranged ws) ≡ arranged (filter t ws)
filter_arranged t [] = refl
filter_arranged t (w ∷ ws) = by_test (t w) refl (filter_arranged t ws)
  where
    by_test : (b : Bool) → t w ≡ b → filter t (arranged ws) ≡ arranged (filter t ws) → filter t (with_map (arranged ws) w) ≡ arranged (if b then w ∷ filter t ws else filter t ws)
    by_test true is e = filter_in t (arranged ws) w is (arranged_rises ws) ∙ ap (λ xs. with_map xs w) e
    by_test false out e = filter_out t (arranged ws) w out ∙ e

-- what a filter keeps is arranged alike, wherever one more stands
pub arranged_insert : (t : PendingMap → Bool) (ws : List PendingMap) (i : ℕ) (new : PendingMap) → t new ≡ true → IsUnlike new.promise ws
    → arranged (filter t (insert ws i new)) ≡ with_map (arranged (filter t ws)) new
arranged_insert t ws zero new is unlike = ap (λ b. arranged (if b then new ∷ filter t ws else filter t ws)) is
arranged_insert t [] (suc i) new is unlike = ap (λ b. arranged (if b then new ∷ [] else [])) is
arranged_insert t (w ∷ ws) (suc i) new is unlike = by_test (t w) (arranged_insert t ws i new is unlike.1)
  where
    by_test : (b : Bool) → arranged (filter t (insert ws i new)) ≡ with_map (arranged (filter t ws)) new
        → arranged (if b then w ∷ filter t (insert ws i new) else filter t (insert ws i new)) ≡ with_map (arranged (if b then w ∷ filter t ws else filter t ws)) new
    by_test true e = ap (λ xs. with_map xs w) e ∙ commutes (arranged (filter t ws)) new w unlike.0
    by_test false e = e

-- lists of different promises

pub unlike_filter : (t : PendingMap → Bool) (n : ℕ) (ws : List PendingMap) → IsUnlike n ws → IsUnlike n (filter t ws)
unlike_filter t n [] unlike = tt
unlike_filter t n (w ∷ ws) unlike = by_test (t w) (unlike_filter t n ws unlike.1)
  where
    by_test : (b : Bool) → IsUnlike n (filter t ws) → IsUnlike n (if b then w ∷ filter t ws else filter t ws)
    by_test true rest = (unlike.0, rest)
    by_test false rest = rest

pub are_unlike_filter : (t : PendingMap → Bool) (ws : List PendingMap) → AreUnlike ws → AreUnlike (filter t ws)
are_unlike_filter t [] unlike = tt
are_unlike_filter t (w ∷ ws) unlike = by_test (t w) (are_unlike_filter t ws unlike.1)
  where
    by_test : (b : Bool) → AreUnlike (filter t ws) → AreUnlike (if b then w ∷ filter t ws else filter t ws)
    by_test true rest = (unlike_filter t w.promise ws unlike.0, rest)
    by_test false rest = rest

unlike_take : (n k : ℕ) (ws : List PendingMap) → IsUnlike n ws → IsUnlike n (take k ws)
unlike_take n zero ws unlike = tt
unlike_take n (suc k) [] unlike = tt
unlike_take n (suc k) (w ∷ ws) unlike = (unlike.0, unlike_take n k ws unlike.1)

pub are_unlike_take : (k : ℕ) (ws : List PendingMap) → AreUnlike ws → AreUnlike (take k ws)
are_unlike_take zero ws unlike = tt
are_unlike_take (suc k) [] unlike = tt
are_unlike_take (suc k) (w ∷ ws) unlike = (unlike_take w.promise k ws unlike.0, are_unlike_take k ws unlike.1)

turned : (m n : ℕ) → (m == n) ≡ false → (n == m) ≡ false
turned m n e = ne_eqb n m (λ f. eqb-false m n e (sym f))

unlike_insert : (n : ℕ) (ws : List PendingMap) (i : ℕ) (new : PendingMap) → (n == new.promise) ≡ false → IsUnlike n ws → IsUnlike n (insert ws i new)
unlike_insert n ws zero new apart unlike = (apart, unlike)
unlike_insert n [] (suc i) new apart unlike = (apart, tt)
unlike_insert n (w ∷ ws) (suc i) new apart unlike = (unlike.0, unlike_insert n ws i new apart unlike.1)

pub are_unlike_insert : (ws : List PendingMap) (i : ℕ) (new : PendingMap) → IsUnlike new.promise ws → AreUnlike ws → AreUnlike (insert ws i new)
are_unlike_insert ws zero new apart unlike = (apart, unlike)
are_unlike_insert [] (suc i) new apart unlike = (tt, tt)
are_unlike_insert (w ∷ ws) (suc i) new apart unlike = (unlike_insert w.promise ws i new (turned new.promise w.promise apart.0) unlike.0, are_unlike_insert ws i new apart.1 unlike.1)

-- a promise that comes after all

latest_with : (ws : List PendingMap) (w : PendingMap) (n : ℕ) → is_latest (with_map ws w) n ≡ true → (nat_lt w.promise n ≡ true) × (is_latest ws n ≡ true)
latest_with [] w n e = both (nat_lt w.promise n) true e
  where
    both : (a b : Bool) → (a && b) ≡ true → (a ≡ true) × (b ≡ true)
    both true b e = (refl, e)
    both false b e = absurd (cc)
latest_with (x ∷ ws) w n e = by_place (nat_lt w.promise x.promise) e (latest_with ws w n)
  where
    both : (a b : Bool) → (a && b) ≡ true → (a ≡ true) × (b ≡ true)
    both true b e = (refl, e)
    both false b e = absurd (cc)

    by_place : (b : Bool) → is_latest (if b then w ∷ x ∷ ws else x ∷ with_map ws w) n ≡ true → (is_latest (with_map ws w) n ≡ true → (nat_lt w.promise n ≡ true) × (is_latest ws n ≡ true))
        → (nat_lt w.promise n ≡ true) × (is_latest (x ∷ ws) n ≡ true)
    by_place true h rest = both (nat_lt w.promise n) (is_latest (x ∷ ws) n) h
    by_place false h rest =
        let parts = both (nat_lt x.promise n) (is_latest (with_map ws w) n) h in
        let later = rest parts.1 in
        (later.0, ap (λ b. b && is_latest ws n) parts.0 ∙ later.1)

pub unlike_latest : (ws : List PendingMap) (n : ℕ) → is_latest (arranged ws) n ≡ true → IsUnlike n ws
unlike_latest [] n e = tt
unlike_latest (w ∷ ws) n e =
    let parts = latest_with (arranged ws) w n e in
    (ne_eqb n w.promise (λ same. absurd (let less = less_is w.promise n parts.0 in omega (arith, less, same))), unlike_latest ws n parts.1)

pub unlike_newer : (ws : List PendingMap) (n newest : ℕ) → newest < n → All (λ (wait : PendingMap). wait.promise ≤ newest) ws → IsUnlike n ws
unlike_newer [] n newest newer within = tt
unlike_newer (w ∷ ws) n newest newer within = (
  ne_eqb n w.promise (λ same. absurd (let le = All-head (λ (x : PendingMap). x.promise ≤ newest) w ws within in omega (arith, newer, le, same))),
  unlike_newer ws n newest newer (All-tail (λ (x : PendingMap). x.promise ≤ newest) w ws within),
)

-- Two lists in the order of their promises that have the same maps of each promise are the same.

abbrev of_promise : PendingMap → PendingMap → Bool
of_promise x w = x.promise == w.promise

later_none : (x : PendingMap) (ws : List PendingMap) → All (λ (w : PendingMap). x.promise < w.promise) ws → filter (of_promise x) ws ≡ []
later_none x [] all = refl
later_none x (w ∷ ws) all =
    ap (λ b. if b then w ∷ filter (of_promise x) ws else filter (of_promise x) ws) (ne_eqb x.promise w.promise (λ same. absurd (let less = All-head (λ (y : PendingMap). x.promise < y.promise) w ws all in omega (arith, less, same))))
    ∙ later_none x ws (All-tail (λ (y : PendingMap). x.promise < y.promise) w ws all)

first_of : (x : PendingMap) (xs : List PendingMap) → filter (of_promise x) (x ∷ xs) ≡ x ∷ filter (of_promise x) xs
first_of x xs = ap (λ b. if b then x ∷ filter (of_promise x) xs else filter (of_promise x) xs) (same x.promise)
  where
    same : (n : ℕ) → (n == n) ≡ true
    same n = grind (arith, nat_tests)

not_later : (x y : PendingMap) (xs ys : List PendingMap) → Rises (y ∷ ys) → filter (of_promise x) (x ∷ xs) ≡ filter (of_promise x) (y ∷ ys) → y.promise ≤ x.promise
not_later x y xs ys rises same = by_test (nat_lt x.promise y.promise) refl
  where
    by_test : (b : Bool) → nat_lt x.promise y.promise ≡ b → y.promise ≤ x.promise
    by_test true e =
        let none = later_none x (y ∷ ys) (after_first y ys rises x.promise (less_is x.promise y.promise e)) in
        let some : x ∷ filter (of_promise x) xs ≡ [] = sym (first_of x xs) ∙ (same ∙ none) in
        absurd (cc)
    by_test false e = not_less x.promise y.promise e

same_rising : (xs ys : List PendingMap) → Rises xs → Rises ys → ((x : PendingMap) → filter (of_promise x) xs ≡ filter (of_promise x) ys) → xs ≡ ys
same_rising [] [] rises other same = refl
same_rising [] (y ∷ ys) rises other same = absurd (let e : [] ≡ y ∷ filter (of_promise y) ys = same y ∙ first_of y ys in cc)
same_rising (x ∷ xs) [] rises other same = absurd (let e : x ∷ filter (of_promise x) xs ≡ [] = sym (first_of x xs) ∙ same x in cc)
same_rising (x ∷ xs) (y ∷ ys) rises other same = ap (λ z. z ∷ xs) first ∙ ap (λ zs. y ∷ zs) (same_rising xs ys (tail x xs rises) (tail y ys other) rest)
  where
    promise_is : (x.promise == y.promise) ≡ true
    promise_is =
        let le = not_later x y xs ys other (same x) in
        let ge = not_later y x ys xs rises (sym (same y)) in
        grind (arith, nat_tests, le, ge)

    heads : x ∷ filter (of_promise x) xs ≡ y ∷ filter (of_promise x) ys
    heads = sym (first_of x xs) ∙ (same x ∙ ap (λ b. if b then y ∷ filter (of_promise x) ys else filter (of_promise x) ys) promise_is)

    first : x ≡ y
    first = let e : x ∷ filter (of_promise x) xs ≡ y ∷ filter (of_promise x) ys = heads in cc

    rest : (z : PendingMap) → filter (of_promise z) xs ≡ filter (of_promise z) ys
    rest z = by_test (of_promise z x) (of_promise z y) (ap (of_promise z) first) (same z)
      where
        by_test : (a b : Bool) → a ≡ b → (if a then x ∷ filter (of_promise z) xs else filter (of_promise z) xs) ≡ (if b then y ∷ filter (of_promise z) ys else filter (of_promise z) ys) → filter (of_promise z) xs ≡ filter (of_promise z) ys
        by_test true true e f = cc
        by_test false false e f = f
        by_test true false e f = absurd (cc)
        by_test false true e f = absurd (cc)

-- of each promise there is one at most, which is arranged alone
none_of : (x : PendingMap) (w : PendingMap) (ws : List PendingMap) → of_promise x w ≡ true → IsUnlike w.promise ws → filter (of_promise x) ws ≡ []
none_of x w [] is unlike = refl
none_of x w (y ∷ ws) is unlike =
    ap (λ b. if b then y ∷ filter (of_promise x) ws else filter (of_promise x) ws) (ap (λ n. n == y.promise) (eqb-true x.promise w.promise is) ∙ unlike.0)
    ∙ none_of x w ws is unlike.1

arranged_of : (x : PendingMap) (ws : List PendingMap) → AreUnlike ws → filter (of_promise x) (arranged ws) ≡ filter (of_promise x) ws
arranged_of x ws unlike = filter_arranged (of_promise x) ws ∙ alone ws unlike
  where
    alone : (ws : List PendingMap) → AreUnlike ws → arranged (filter (of_promise x) ws) ≡ filter (of_promise x) ws
    alone [] unlike = refl
    alone (w ∷ ws) unlike = by_test (of_promise x w) refl (alone ws unlike.1)
      where
        by_test : (b : Bool) → of_promise x w ≡ b → arranged (filter (of_promise x) ws) ≡ filter (of_promise x) ws
            → arranged (if b then w ∷ filter (of_promise x) ws else filter (of_promise x) ws) ≡ (if b then w ∷ filter (of_promise x) ws else filter (of_promise x) ws)
        by_test true is e = ap (λ xs. arranged (w ∷ xs)) (none_of x w ws is unlike.0) ∙ sym (ap (λ xs. w ∷ xs) (none_of x w ws is unlike.0))
        by_test false is e = e

-- a stable sort by promises arranges what has each promise once
pub sorted_arranged : (ws sorted : List PendingMap) → AreUnlike ws → Rises sorted → IsStableByKey (λ (wait : PendingMap). wait.promise) nat_cmp ws sorted → sorted ≡ arranged ws
sorted_arranged ws sorted unlike rises stable = same_rising sorted (arranged ws) rises (arranged_rises ws) (λ x. kept x sorted ∙ (stable x ∙ (sym (kept x ws) ∙ sym (arranged_of x ws unlike))))
  where
    tied : (x w : PendingMap) → of_promise x w ≡ ties (λ (y z : PendingMap). is_lt (nat_cmp y.promise z.promise)) x w
    tied x w = by_numbers x.promise w.promise
      where
        by_numbers : (m n : ℕ) → (m == n) ≡ (not (is_lt (nat_cmp m n)) && not (is_lt (nat_cmp n m)))
        by_numbers m n = grind (arith, nat_tests)

    kept : (x : PendingMap) (xs : List PendingMap) → filter (of_promise x) xs ≡ filter (ties (λ (y z : PendingMap). is_lt (nat_cmp y.promise z.promise)) x) xs
    kept x xs = filter_agree (of_promise x) (ties (λ (y z : PendingMap). is_lt (nat_cmp y.promise z.promise)) x) (tied x) xs
