-- The maps that wait of those that are listed, after one more or some less.
use Rattle.std.proofs.Common.{◌≡◌, ℕ, zero, suc, ◌+◌, ◌<◌, ◌≤◌, Bool, true, false, not, ◌&&◌, ◌==◌, nat_eq, nat_le, nat_lt, List, [], ◌∷◌, filter, insert, take, length, get_or, Option, Some, None, option_map, option_to_list, if◌then◌else◌, refl, sym, ap, ap₂, ◌∙◌, subst, arith, All}
use Rattle.std.specs.List.Sorted.{IsNonDecreasingBy, IsPartitionPoint}
use Rattle.std.specs.Map.{lookup}
use Rattle.std.specs.Ordering.{nat_cmp}
use Rattle.std.specs.FinMap as table
use Rattle.std.specs.FinMap.{nat_cmp-IsAntisymmetric, same_map}
use Rattle.std.specs.Cmp.{nat_cmp_total}
use Rattle.std.proofs.lemmas.Bool.{eqb-true, eqb-false, ne_eqb}
use Rattle.std.proofs.lemmas.Bool.Decides.{nat_tests}
use Rattle.std.proofs.lemmas.List.{take_all}
use Rattle.std.proofs.lemmas.List.Elements.{All-nil, All-cons, All-head, All-tail, All-filter}
use Rattle.std.proofs.lemmas.List.Kept.{IsNonDecreasingBy-filter}
use Rattle.std.proofs.lemmas.List.Sorted.{IsNonDecreasingBy-drop}
use Rattle.wg_types.specs.declared.mappings.Mapping.{Mapping}
use Rattle.wg_types.specs.declared.mappings.PendingMap.{PendingMap}
use Rattle.wg_maps.specs.Mappings.{MappedValue, Mappings, pending_of, maps_of, without, with_map, is_latest, is_due, still_pending, with_due, promises}
use Rattle.wg_maps.specs.Waits.{promise_of, IsEachOnce, IsKept, has_promise, is_waiting, arranged, waiting, IsUnlike, AreUnlike, IsListed, IsWithin, IsTidied, IsInserted, starts_later, IsSettling}
use Rattle.wg_maps.proofs.TableLemmas.{get_inserted}
use Rattle.wg_maps.proofs.PendingLemmas.{without_none}
use Rattle.wg_maps.proofs.KeptLemmas.{kept_with, kept_without}
use Rattle.wg_maps.proofs.ArrangedLemmas.{Rises, arranged_rises, all_arranged, length_with, length_arranged, filter_out, filter_arranged, arranged_insert, are_unlike_filter, are_unlike_take, are_unlike_insert, unlike_latest}

-- filters

filter_where : (p q : PendingMap → Bool) (ws : List PendingMap) → All (λ (w : PendingMap). p w ≡ q w) ws → filter p ws ≡ filter q ws
filter_where p q [] same = refl
filter_where p q (w ∷ ws) same = by_test (p w) (q w) (All-head (λ (x : PendingMap). p x ≡ q x) w ws same) (filter_where p q ws (All-tail (λ (x : PendingMap). p x ≡ q x) w ws same))
  where
    by_test : (a b : Bool) → a ≡ b → filter p ws ≡ filter q ws → (if a then w ∷ filter p ws else filter p ws) ≡ (if b then w ∷ filter q ws else filter q ws)
    by_test a b e f = ap (λ t. if t then w ∷ filter p ws else filter p ws) e ∙ ap (λ xs. if b then w ∷ xs else xs) f

filter_both : (p q : PendingMap → Bool) (ws : List PendingMap) → filter q (filter p ws) ≡ filter (λ w. p w && q w) ws
filter_both p q [] = refl
filter_both p q (w ∷ ws) = by_test (p w) (filter_both p q ws)
  where
    by_test : (b : Bool) → filter q (filter p ws) ≡ filter (λ w. p w && q w) ws
        → filter q (if b then w ∷ filter p ws else filter p ws) ≡ (if b && q w then w ∷ filter (λ w. p w && q w) ws else filter (λ w. p w && q w) ws)
    by_test true e = ap (λ xs. if q w then w ∷ xs else xs) e
    by_test false e = e

filter_turned : (p q : PendingMap → Bool) (ws : List PendingMap) → filter q (filter p ws) ≡ filter p (filter q ws)
filter_turned p q ws = filter_both p q ws ∙ (filter_where (λ w. p w && q w) (λ w. q w && p w) ws (λ k d lt. either (p (get_or ws k d)) (q (get_or ws k d))) ∙ sym (filter_both q p ws))
  where
    either : (a b : Bool) → (a && b) ≡ (b && a)
    either true true = refl
    either true false = refl
    either false true = refl
    either false false = refl

filter_again : (p : PendingMap → Bool) (ws : List PendingMap) → filter p (filter p ws) ≡ filter p ws
filter_again p ws = filter_both p p ws ∙ filter_where (λ w. p w && p w) p ws (λ k d lt. twice (p (get_or ws k d)))
  where
    twice : (a : Bool) → (a && a) ≡ a
    twice true = refl
    twice false = refl

filter_all : (p : PendingMap → Bool) (ws : List PendingMap) → All (λ (w : PendingMap). p w ≡ true) ws → filter p ws ≡ ws
filter_all p [] all = refl
filter_all p (w ∷ ws) all =
    ap (λ b. if b then w ∷ filter p ws else filter p ws) (All-head (λ (x : PendingMap). p x ≡ true) w ws all)
    ∙ ap (λ xs. w ∷ xs) (filter_all p ws (All-tail (λ (x : PendingMap). p x ≡ true) w ws all))

length_filter_le : (p : PendingMap → Bool) (ws : List PendingMap) → length (filter p ws) ≤ length ws
length_filter_le p [] = omega arith
length_filter_le p (w ∷ ws) = by_test (p w) (length_filter_le p ws)
  where
    by_test : (b : Bool) → length (filter p ws) ≤ length ws → length (if b then w ∷ filter p ws else filter p ws) ≤ length (w ∷ ws)
    by_test true le = omega (arith, le)
    by_test false le = omega (arith, le)

pub length_waiting : (known : List (ℕ × ℕ)) (listed : List PendingMap) → length (waiting known listed) ≤ length listed
length_waiting known listed = let e = length_arranged (filter (is_waiting known) listed) in let le = length_filter_le (is_waiting known) listed in omega (arith, e, le)

pub length_without : (pending : List PendingMap) (buffer : ℕ) → length (without pending buffer) ≤ length pending
length_without pending buffer = length_filter_le (λ w. not (w.buffer == buffer)) pending

-- the same promises, in other places

pub waiting_same : (old new : List (ℕ × ℕ)) (listed : List PendingMap) → ((buffer : ℕ) → lookup (nat_eq buffer) new ≡ lookup (nat_eq buffer) old) → waiting new listed ≡ waiting old listed
waiting_same old new listed same = ap arranged (filter_where (is_waiting new) (is_waiting old) listed (λ k d lt. ap (λ o. has_promise o (get_or listed k d).promise) (same (get_or listed k d).buffer)))

pub kept_same : (old new : List (ℕ × ℕ)) (listed : List PendingMap) → ((buffer : ℕ) → lookup (nat_eq buffer) new ≡ lookup (nat_eq buffer) old)
    → IsKept (waiting old listed) old → IsKept (waiting new listed) new
kept_same old new listed same kept = subst (λ ws. IsKept ws new) (sym (waiting_same old new listed same)) record {
  in_order = kept.in_order;
  once = kept.once;
  by_buffer = λ buffer. same buffer ∙ kept.by_buffer buffer;
}

-- what waits no longer is taken out

pub listed_filter : (t : PendingMap → Bool) (listed : List PendingMap) → IsListed listed → IsListed (filter t listed)
listed_filter t listed is = record {
  in_order = IsNonDecreasingBy-filter (λ (w : PendingMap). w.last) t listed is.in_order;
  unlike = are_unlike_filter t listed is.unlike;
}

pub tidied : (known : List (ℕ × ℕ)) (old new : List PendingMap) → new ≡ filter (is_waiting known) old → IsListed old → IsTidied known old new
tidied known old new e is = subst (IsTidied known old) (sym e) record {
  same = ap arranged (filter_again (is_waiting known) old);
  listed = listed_filter (is_waiting known) old is;
  within = λ newest within. All-filter (is_waiting known) (λ (w : PendingMap). w.promise ≤ newest) old within;
}

pub tidied_none : (known : List (ℕ × ℕ)) (listed : List PendingMap) → IsListed listed → IsTidied known listed listed
tidied_none known listed is = record { same = refl; listed = is; within = λ newest within. within }

pub unlike_tidied : (known : List (ℕ × ℕ)) (old new : List PendingMap) (promise : ℕ) → new ≡ filter (is_waiting known) old → is_latest (waiting known old) promise ≡ true → IsUnlike promise new
unlike_tidied known old new promise e latest = subst (IsUnlike promise) (sym e) (unlike_latest (filter (is_waiting known) old) promise latest)

-- one map more

abbrev pub Puts : List (ℕ × ℕ) → List (ℕ × ℕ) → PendingMap → Type 0
Puts old new wait = (buffer : ℕ) → lookup (nat_eq buffer) new ≡ (if nat_eq wait.buffer buffer then Some wait.promise else lookup (nat_eq buffer) old)

no_promise : (o : Option PendingMap) → o ≡ None → option_map (λ (wait : PendingMap). wait.promise) o ≡ None
no_promise o e = ap (option_map (λ (wait : PendingMap). wait.promise)) e

same_number : (n : ℕ) → (n == n) ≡ true
same_number n = grind (arith, nat_tests)

waits_now : (old new : List (ℕ × ℕ)) (wait : PendingMap) → Puts old new wait → is_waiting new wait ≡ true
waits_now old new wait puts =
    ap (λ o. has_promise o wait.promise) (puts wait.buffer ∙ ap (λ b. if b then Some wait.promise else lookup (nat_eq wait.buffer) old) (same_number wait.buffer))
    ∙ same_number wait.promise

others_alike : (old new : List (ℕ × ℕ)) (wait : PendingMap) (ws : List PendingMap) → Puts old new wait → lookup (nat_eq wait.buffer) old ≡ None → IsUnlike wait.promise ws → filter (is_waiting new) ws ≡ filter (is_waiting old) ws
others_alike old new wait [] puts none unlike = refl
others_alike old new wait (w ∷ ws) puts none unlike =
    ap (λ b. if b then w ∷ filter (is_waiting new) ws else filter (is_waiting new) ws) alike
    ∙ ap (λ xs. if is_waiting old w then w ∷ xs else xs) (others_alike old new wait ws puts none unlike.1)
  where
    by_buffer : (b : Bool) → (wait.buffer == w.buffer) ≡ b → has_promise (if b then Some wait.promise else lookup (nat_eq w.buffer) old) w.promise ≡ has_promise (lookup (nat_eq w.buffer) old) w.promise
    by_buffer true e = unlike.0 ∙ sym (ap (λ o. has_promise o w.promise) (ap (λ n. lookup (nat_eq n) old) (sym (eqb-true wait.buffer w.buffer e)) ∙ none))
    by_buffer false e = refl

    alike : is_waiting new w ≡ is_waiting old w
    alike = ap (λ o. has_promise o w.promise) (puts w.buffer) ∙ by_buffer (wait.buffer == w.buffer) refl

pub waiting_with : (old new : List (ℕ × ℕ)) (listed after : List PendingMap) (wait : PendingMap) → IsKept (waiting old listed) old → Puts old new wait → pending_of (waiting old listed) wait.buffer ≡ None
    → IsUnlike wait.promise listed → IsInserted wait listed after → waiting new after ≡ with_map (waiting old listed) wait
waiting_with old new listed after wait kept puts none unlike put =
    ap (waiting new) put.items
    ∙ (arranged_insert (is_waiting new) listed put.place wait (waits_now old new wait puts) unlike
    ∙ ap (λ ws. with_map (arranged ws) wait) (others_alike old new wait listed puts (kept.by_buffer wait.buffer ∙ no_promise (pending_of (waiting old listed) wait.buffer) none) unlike))

pub kept_added : (old new : List (ℕ × ℕ)) (listed after : List PendingMap) (wait : PendingMap) → IsKept (waiting old listed) old → Puts old new wait → pending_of (waiting old listed) wait.buffer ≡ None
    → IsUnlike wait.promise listed → IsInserted wait listed after → IsKept (waiting new after) new
kept_added old new listed after wait kept puts none unlike put =
    let e = waiting_with old new listed after wait kept puts none unlike put in
    let rises : Rises (with_map (waiting old listed) wait) = subst Rises e (arranged_rises (filter (is_waiting new) after)) in
    subst (λ ws. IsKept ws new) (sym e) (kept_with (waiting old listed) old new wait none rises puts kept)

pub listed_added : (listed after : List PendingMap) (wait : PendingMap) → IsListed listed → IsUnlike wait.promise listed → IsInserted wait listed after → IsListed after
listed_added listed after wait is unlike put = record {
  in_order = put.in_order;
  unlike = subst AreUnlike (sym put.items) (are_unlike_insert listed put.place wait unlike is.unlike);
}

pub within_added : (listed after : List PendingMap) (wait : PendingMap) (newest later : ℕ) → newest ≤ later → wait.promise ≤ later → IsWithin newest listed → IsInserted wait listed after → IsWithin later after
within_added listed after wait newest later le is within put = subst (IsWithin later) (sym put.items) (all_insert listed put.place (λ k d lt. let e = within k d lt in omega (arith, e, le)))
  where
    all_insert : (ws : List PendingMap) (i : ℕ) → IsWithin later ws → IsWithin later (insert ws i wait)
    all_insert ws zero all = All-cons (λ (w : PendingMap). w.promise ≤ later) wait ws is all
    all_insert [] (suc i) all = All-cons (λ (w : PendingMap). w.promise ≤ later) wait [] is all
    all_insert (w ∷ ws) (suc i) all = All-cons (λ (x : PendingMap). x.promise ≤ later) w (insert ws i wait) (All-head (λ (x : PendingMap). x.promise ≤ later) w ws all) (all_insert ws i (All-tail (λ (x : PendingMap). x.promise ≤ later) w ws all))

-- a map less

abbrev pub Takes : List (ℕ × ℕ) → List (ℕ × ℕ) → ℕ → Type 0
Takes old new number = (buffer : ℕ) → lookup (nat_eq buffer) new ≡ (if nat_eq number buffer then None else lookup (nat_eq buffer) old)

pub waiting_without : (old new : List (ℕ × ℕ)) (listed : List PendingMap) (number : ℕ) → Takes old new number → waiting new listed ≡ without (waiting old listed) number
waiting_without old new listed number takes =
    ap arranged (filter_where (is_waiting new) (λ w. is_waiting old w && not (w.buffer == number)) listed (λ k d lt. one (get_or listed k d)) ∙ sym (filter_both (is_waiting old) (λ w. not (w.buffer == number)) listed))
    ∙ sym (filter_arranged (λ w. not (w.buffer == number)) (filter (is_waiting old) listed))
  where
    one : (w : PendingMap) → is_waiting new w ≡ (is_waiting old w && not (w.buffer == number))
    one w = ap (λ o. has_promise o w.promise) (takes w.buffer) ∙ by_buffer (number == w.buffer) (w.buffer == number) (turned number w.buffer) (is_waiting old w) refl
      where
        turned : (m n : ℕ) → (m == n) ≡ (n == m)
        turned m n = grind (arith, nat_tests)

        by_buffer : (a b : Bool) → a ≡ b → (t : Bool) → is_waiting old w ≡ t → has_promise (if a then None else lookup (nat_eq w.buffer) old) w.promise ≡ (t && not b)
        by_buffer true true e true f = refl
        by_buffer true true e false f = refl
        by_buffer false false e true f = f
        by_buffer false false e false f = f
        by_buffer true false e t f = absurd (cc)
        by_buffer false true e t f = absurd (cc)

pub kept_taken : (old new : List (ℕ × ℕ)) (listed : List PendingMap) (number : ℕ) → Takes old new number → IsKept (waiting old listed) old → IsKept (waiting new listed) new
kept_taken old new listed number takes kept = subst (λ ws. IsKept ws new) (sym (waiting_without old new listed number takes)) (kept_without (waiting old listed) old new number takes kept)

-- the map of a buffer
pub only_one : (pending : List PendingMap) (buffer : ℕ) → IsEachOnce pending → promises (maps_of pending buffer) ≡ option_to_list (promise_of pending buffer)
only_one [] buffer once = refl
only_one (wait ∷ later) buffer once = by_test (wait.buffer == buffer) refl (only_one later buffer once.1)
  where
    by_test : (b : Bool) → (wait.buffer == buffer) ≡ b → promises (maps_of later buffer) ≡ option_to_list (promise_of later buffer)
        → promises (if b then wait ∷ maps_of later buffer else maps_of later buffer) ≡ option_to_list (option_map (λ (w : PendingMap). w.promise) (if b then Some wait else pending_of later buffer))
    by_test true e rest =
        let none : pending_of later buffer ≡ None = ap (pending_of later) (sym (eqb-true wait.buffer buffer e)) ∙ once.0 in
        ap (λ xs. wait.promise ∷ xs) (rest ∙ ap (λ o. option_to_list (option_map (λ (w : PendingMap). w.promise) o)) none)
    by_test false e rest = rest

-- What is due.

none_due : (n : ℕ) (ws : List PendingMap) → ((k : ℕ) (d : PendingMap) → k < length ws → nat_le (get_or ws k d).last n ≡ false) → [] ≡ filter (is_due n) ws
none_due n [] later = refl
none_due n (w ∷ ws) later =
    none_due n ws (λ k d lt. later (suc k) d (omega (arith, lt))) ∙ ap (λ b. if b then w ∷ filter (is_due n) ws else filter (is_due n) ws) (sym (later 0 w (omega arith)))

pub due_taken : (n : ℕ) (ws : List PendingMap) (k : ℕ) → k ≤ length ws → IsPartitionPoint (λ (w : PendingMap). nat_le w.last n ≡ true) (λ (w : PendingMap). nat_le w.last n ≡ false) ws k → take k ws ≡ filter (is_due n) ws
due_taken n ws zero le point = none_due n ws (λ k d lt. point.1 k d (omega arith) lt)
due_taken n [] (suc k) le point = absurd (omega (arith, le))
due_taken n (w ∷ ws) (suc k) le point =
    ap (λ rest. w ∷ rest) (due_taken n ws k (omega (arith, le)) (λ i d lo hi. point.0 (suc i) d (omega arith) (omega (arith, hi)), λ i d lo hi. point.1 (suc i) d (omega (arith, lo)) (omega (arith, hi))))
    ∙ ap (λ b. if b then w ∷ filter (is_due n) ws else filter (is_due n) ws) (sym (point.0 0 w (omega arith) (omega arith)))

pub due_waiting : (known : List (ℕ × ℕ)) (listed : List PendingMap) (completed count : ℕ) → take count listed ≡ filter (is_due completed) listed
    → arranged (filter (is_waiting known) (take count listed)) ≡ filter (is_due completed) (waiting known listed)
due_waiting known listed completed count e =
    ap (λ ws. arranged (filter (is_waiting known) ws)) e
    ∙ (ap arranged (filter_turned (is_due completed) (is_waiting known) listed)
    ∙ sym (filter_arranged (is_due completed) (filter (is_waiting known) listed)))

pub unlike_first : (known : List (ℕ × ℕ)) (listed : List PendingMap) (count : ℕ) → IsListed listed → AreUnlike (filter (is_waiting known) (take count listed))
unlike_first known listed count is = are_unlike_filter (is_waiting known) (take count listed) (are_unlike_take count listed is.unlike)

pub all_waiting : (known : List (ℕ × ℕ)) (listed : List PendingMap) (count : ℕ) → length listed ≤ count → arranged (filter (is_waiting known) (take count listed)) ≡ waiting known listed
all_waiting known listed count le = ap (λ ws. arranged (filter (is_waiting known) ws)) (take_all count listed le)

-- One that is listed first and due is settled.

listed_rest : (w : PendingMap) (ws : List PendingMap) → IsListed (w ∷ ws) → IsListed ws
listed_rest w ws is = record {
  in_order = IsNonDecreasingBy-drop (λ (x : PendingMap). x.last) 1 (w ∷ ws) is.in_order;
  unlike = is.unlike.1;
}

none_with : (pending : List PendingMap) (new : PendingMap) (buffer : ℕ) → pending_of pending buffer ≡ None → (new.buffer == buffer) ≡ false → pending_of (with_map pending new) buffer ≡ None
none_with [] new buffer none apart = ap (λ b. if b then Some new else None) apart
none_with (w ∷ ws) new buffer none apart = by_place (nat_lt new.promise w.promise) (none_with ws new buffer parts.1 apart)
  where
    split : (t : Bool) (rest : Option PendingMap) → (if t then Some w else rest) ≡ None → (t ≡ false) × (rest ≡ None)
    split true rest e = absurd (cc)
    split false rest e = (refl, e)

    parts : ((w.buffer == buffer) ≡ false) × (pending_of ws buffer ≡ None)
    parts = split (w.buffer == buffer) (pending_of ws buffer) none

    by_place : (b : Bool) → pending_of (with_map ws new) buffer ≡ None → pending_of (if b then new ∷ w ∷ ws else w ∷ with_map ws new) buffer ≡ None
    by_place true rest = ap (λ b. if b then Some new else pending_of (w ∷ ws) buffer) apart ∙ none
    by_place false rest = ap (λ b. if b then Some w else pending_of (with_map ws new) buffer) parts.0 ∙ rest

-- no other map of its buffer waits
none_else : (known : List (ℕ × ℕ)) (wait : PendingMap) (ws : List PendingMap) → lookup (nat_eq wait.buffer) known ≡ Some wait.promise → IsUnlike wait.promise ws → pending_of (waiting known ws) wait.buffer ≡ None
none_else known wait [] its unlike = refl
none_else known wait (w ∷ ws) its unlike = by_test (is_waiting known w) refl (none_else known wait ws its unlike.1)
  where
    by_test : (b : Bool) → is_waiting known w ≡ b → pending_of (waiting known ws) wait.buffer ≡ None → pending_of (arranged (if b then w ∷ filter (is_waiting known) ws else filter (is_waiting known) ws)) wait.buffer ≡ None
    by_test true is none = none_with (waiting known ws) w wait.buffer none (ne_eqb w.buffer wait.buffer (λ same.
        let e : is_waiting known w ≡ (wait.promise == w.promise) = ap (λ o. has_promise o w.promise) (ap (λ n. lookup (nat_eq n) known) same ∙ its) in
        absurd (let f : true ≡ false = sym is ∙ (e ∙ unlike.0) in cc)))
    by_test false is none = none

its_promise : (o : Option ℕ) (promise : ℕ) → has_promise o promise ≡ true → o ≡ Some promise
its_promise None promise e = absurd (cc)
its_promise (Some its) promise e = ap Some (eqb-true its promise e)

waiting_first : (known : List (ℕ × ℕ)) (wait : PendingMap) (ws : List PendingMap) → is_waiting known wait ≡ true → waiting known (wait ∷ ws) ≡ with_map (waiting known ws) wait
waiting_first known wait ws is = ap (λ b. arranged (if b then wait ∷ filter (is_waiting known) ws else filter (is_waiting known) ws)) is

waiting_past : (known : List (ℕ × ℕ)) (wait : PendingMap) (ws : List PendingMap) → is_waiting known wait ≡ false → waiting known (wait ∷ ws) ≡ waiting known ws
waiting_past known wait ws out = ap (λ b. arranged (if b then wait ∷ filter (is_waiting known) ws else filter (is_waiting known) ws)) out

-- what is mapped of one more that is due

inserts_commute : (mapped : Mappings) (a b : ℕ) (x y : Mapping) → (a == b) ≡ false → table.insert (table.insert mapped a x) b y ≡ table.insert (table.insert mapped b y) a x
inserts_commute mapped a b x y apart = same_map nat_cmp_total nat_cmp-IsAntisymmetric (table.insert (table.insert mapped a x) b y) (table.insert (table.insert mapped b y) a x) (λ q.
    get_inserted (table.insert mapped a x) b y q
    ∙ (ap (λ o. if nat_eq b q then Some y else o) (get_inserted mapped a x q)
    ∙ (by_keys q (nat_eq a q) (nat_eq b q) refl refl
    ∙ sym (get_inserted (table.insert mapped b y) a x q ∙ ap (λ o. if nat_eq a q then Some x else o) (get_inserted mapped b y q)))))
  where
    by_keys : (q : ℕ) (s t : Bool) → nat_eq a q ≡ s → nat_eq b q ≡ t → (if t then Some y else (if s then Some x else table.get mapped q)) ≡ (if s then Some x else (if t then Some y else table.get mapped q))
    by_keys q true true e f = absurd (eqb-false a b apart (eqb-true a q e ∙ sym (eqb-true b q f)))
    by_keys q true false e f = refl
    by_keys q false true e f = refl
    by_keys q false false e f = refl

due_with : (completed : ℕ) (ws : List PendingMap) (wait : PendingMap) (mapped : Mappings) → is_due completed wait ≡ true → pending_of ws wait.buffer ≡ None
    → with_due completed (with_map ws wait) mapped ≡ with_due completed ws (table.insert mapped wait.buffer wait.mapping)
due_with completed [] wait mapped due none = ap (λ b. if b then table.insert mapped wait.buffer wait.mapping else mapped) due
due_with completed (w ∷ ws) wait mapped due none = by_place (nat_lt wait.promise w.promise) (λ m. due_with completed ws wait m due parts.1)
  where
    split : (t : Bool) (rest : Option PendingMap) → (if t then Some w else rest) ≡ None → (t ≡ false) × (rest ≡ None)
    split true rest e = absurd (cc)
    split false rest e = (refl, e)

    parts : ((w.buffer == wait.buffer) ≡ false) × (pending_of ws wait.buffer ≡ None)
    parts = split (w.buffer == wait.buffer) (pending_of ws wait.buffer) none

    by_due : (b : Bool) → table.insert (if b then table.insert mapped w.buffer w.mapping else mapped) wait.buffer wait.mapping
        ≡ (if b then table.insert (table.insert mapped wait.buffer wait.mapping) w.buffer w.mapping else table.insert mapped wait.buffer wait.mapping)
    by_due true = inserts_commute mapped w.buffer wait.buffer w.mapping wait.mapping parts.0
    by_due false = refl

    by_place : (b : Bool) → ((m : Mappings) → with_due completed (with_map ws wait) m ≡ with_due completed ws (table.insert m wait.buffer wait.mapping))
        → with_due completed (if b then wait ∷ w ∷ ws else w ∷ with_map ws wait) mapped ≡ with_due completed (w ∷ ws) (table.insert mapped wait.buffer wait.mapping)
    by_place true rest = ap (λ b. with_due completed (w ∷ ws) (if b then table.insert mapped wait.buffer wait.mapping else mapped)) due
    by_place false rest = rest (if is_due completed w then table.insert mapped w.buffer w.mapping else mapped) ∙ ap (with_due completed ws) (by_due (is_due completed w))

-- the steps of a settlement

pub settling_none : (completed : ℕ) (known : List (ℕ × ℕ)) (listed : List PendingMap) (mapped : MappedValue) → IsKept (waiting known listed) known → IsListed listed
    → IsSettling completed (waiting known listed) mapped known listed mapped
settling_none completed known listed mapped kept is = record { kept = kept; are_listed = is; still = refl; due = refl; room = omega arith }

pub settling_past : (completed : ℕ) (first : List PendingMap) (start : MappedValue) (known : List (ℕ × ℕ)) (wait : PendingMap) (rest : List PendingMap) (mapped : MappedValue)
    → is_waiting known wait ≡ false → IsSettling completed first start known (wait ∷ rest) mapped → IsSettling completed first start known rest mapped
settling_past completed first start known wait rest mapped out s =
    let e = waiting_past known wait rest out in
    record {
      kept = subst (λ ws. IsKept ws known) e s.kept;
      are_listed = listed_rest wait rest s.are_listed;
      still = ap (still_pending completed) (sym e) ∙ s.still;
      due = ap (λ ws. with_due completed ws mapped.buffers) (sym e) ∙ s.due;
      room = subst (λ (ws : List PendingMap). start.spare + length ws ≤ mapped.spare + length first) e s.room;
    }

pub settling_one : (completed : ℕ) (first : List PendingMap) (start : MappedValue) (old new : List (ℕ × ℕ)) (wait : PendingMap) (rest : List PendingMap) (mapped after : MappedValue)
    → is_waiting old wait ≡ true → is_due completed wait ≡ true → Takes old new wait.buffer
    → after.buffers ≡ table.insert mapped.buffers wait.buffer wait.mapping → mapped.spare ≤ after.spare + 1
    → IsSettling completed first start old (wait ∷ rest) mapped → IsSettling completed first start new rest after
settling_one completed first start old new wait rest mapped after is due takes buffers spare s = record {
  kept = subst (λ ws. IsKept ws new) (ap (λ ws. without ws wait.buffer) split ∙ (alone ∙ sym left)) (kept_without (waiting old (wait ∷ rest)) old new wait.buffer takes s.kept);
  are_listed = listed_rest wait rest s.are_listed;
  still = ap (still_pending completed) left ∙ (sym (filter_out (λ w. not (is_due completed w)) (waiting old rest) wait (ap not due)) ∙ (ap (still_pending completed) (sym split) ∙ s.still));
  due = ap₂ (with_due completed) left buffers ∙ (sym (due_with completed (waiting old rest) wait mapped.buffers due none) ∙ (ap (λ ws. with_due completed ws mapped.buffers) (sym split) ∙ s.due));
  room = let e = ap length left in let f = ap length split in let g = length_with (waiting old rest) wait in let h = s.room in omega (arith, e, f, g, h, spare);
}
  where
    none : pending_of (waiting old rest) wait.buffer ≡ None
    none = none_else old wait rest (its_promise (lookup (nat_eq wait.buffer) old) wait.promise is) s.are_listed.unlike.0

    split : waiting old (wait ∷ rest) ≡ with_map (waiting old rest) wait
    split = waiting_first old wait rest is

    left : waiting new rest ≡ waiting old rest
    left = waiting_without old new rest wait.buffer takes ∙ without_none (waiting old rest) wait.buffer none

    alone : without (with_map (waiting old rest) wait) wait.buffer ≡ waiting old rest
    alone = filter_out (λ w. not (w.buffer == wait.buffer)) (waiting old rest) wait (ap not (same_number wait.buffer)) ∙ without_none (waiting old rest) wait.buffer none

-- where the first that is listed is not due, none is
later_all : (completed : ℕ) (ws : List PendingMap) → IsNonDecreasingBy (λ (w : PendingMap). w.last) ws → starts_later completed ws ≡ true → All (λ (w : PendingMap). not (is_due completed w) ≡ true) ws
later_all completed [] rises later = All-nil (λ (w : PendingMap). not (is_due completed w) ≡ true)
later_all completed (w ∷ ws) rises later = λ k d lt. by_numbers w.last (get_or (w ∷ ws) k d).last (rises 0 k d (omega arith) lt) later
  where
    by_numbers : (m n : ℕ) → m ≤ n → not (nat_le m completed) ≡ true → not (nat_le n completed) ≡ true
    by_numbers m n le e = grind (arith, nat_tests, le, e)

none_mapped : (completed : ℕ) (ws : List PendingMap) (mapped : Mappings) → All (λ (w : PendingMap). not (is_due completed w) ≡ true) ws → with_due completed ws mapped ≡ mapped
none_mapped completed [] mapped later = refl
none_mapped completed (w ∷ ws) mapped later =
    ap (λ b. with_due completed ws (if b then table.insert mapped w.buffer w.mapping else mapped)) (is_not (is_due completed w) (All-head (λ (x : PendingMap). not (is_due completed x) ≡ true) w ws later))
    ∙ none_mapped completed ws mapped (All-tail (λ (x : PendingMap). not (is_due completed x) ≡ true) w ws later)
  where
    is_not : (b : Bool) → not b ≡ true → b ≡ false
    is_not true e = absurd (cc)
    is_not false e = refl

later_waiting : (completed : ℕ) (known : List (ℕ × ℕ)) (listed : List PendingMap) → IsListed listed → starts_later completed listed ≡ true → All (λ (w : PendingMap). not (is_due completed w) ≡ true) (waiting known listed)
later_waiting completed known listed is later =
    all_arranged (λ (w : PendingMap). not (is_due completed w) ≡ true) (filter (is_waiting known) listed)
    (All-filter (is_waiting known) (λ (w : PendingMap). not (is_due completed w) ≡ true) listed (later_all completed listed is.in_order later))

pub settled_pending : (completed : ℕ) (first : List PendingMap) (start : MappedValue) (known : List (ℕ × ℕ)) (listed : List PendingMap) (mapped : MappedValue)
    → IsSettling completed first start known listed mapped → starts_later completed listed ≡ true → waiting known listed ≡ still_pending completed first
settled_pending completed first start known listed mapped s later =
    sym (filter_all (λ w. not (is_due completed w)) (waiting known listed) (later_waiting completed known listed s.are_listed later)) ∙ s.still

pub settled_mapped : (completed : ℕ) (first : List PendingMap) (start : MappedValue) (known : List (ℕ × ℕ)) (listed : List PendingMap) (mapped : MappedValue)
    → IsSettling completed first start known listed mapped → starts_later completed listed ≡ true → mapped.buffers ≡ with_due completed first start.buffers
settled_mapped completed first start known listed mapped s later =
    sym (none_mapped completed (waiting known listed) mapped.buffers (later_waiting completed known listed s.are_listed later)) ∙ s.due
