-- Cells of one segment have one story.
use Rattle.std.proofs.Common.{◌≡◌, ℕ, suc, ◌<◌, ◌≤◌, List, [], ◌∷◌, length, map, Bool, true, false, not, ◌&&◌, nat_lt, nat_le, refl, ap, ap₂, sym, ◌∙◌, ◌⊎◌, inl, inr, arith, if◌then◌else◌, true≢false}
use Rattle.std.proofs.lemmas.Bool.{cases_Bool, lt-ltb, le-ltb, le-leb, lt-leb}
use Rattle.wg_rows.specs.Rows.{in_range, list_before}
use Rattle.wg_rows.proofs.Printed.{before_not_self, before_trans, Compared, Less_than, Same_line, More_than, compare_lines}
use Rattle.wg_check.specs.declared.stories.Access.{Access}
use Rattle.wg_check.specs.Segments.{then_on, story_at, Key, numbers, before, rank, KeyEvent, lies_in, key_story, ranked, Among, EndsIn}

-- a is at b or before it
abbrev pub AtMost : Key → Key → Type 0
AtMost a b = before b a ≡ false

pub less_not : (a b : Key) → before a b ≡ true → before b a ≡ false
less_not a b l = by_cases (cases_Bool (before b a))
  where
    by_cases : (before b a ≡ true) ⊎ (before b a ≡ false) → before b a ≡ false
    by_cases (inl h) = absurd (before_not_self (numbers a) (before_trans (numbers a) (numbers b) (numbers a) l h))
    by_cases (inr h) = h

-- a is at b or before it, and b is before c
pub most_less : (a b c : Key) → AtMost a b → before b c ≡ true → before a c ≡ true
most_less a b c l h = by_order (compare_lines (numbers a) (numbers b))
  where
    by_order : Compared (numbers a) (numbers b) → before a c ≡ true
    by_order (Less_than less) = before_trans (numbers a) (numbers b) (numbers c) less h
    by_order (Same_line same) = ap (λ (x : List ℕ). list_before x (numbers c)) same ∙ h
    by_order (More_than more) = absurd (true≢false (sym more ∙ l))

pub rank_most : (ends : List Key) (a b : Key) → AtMost a b → rank ends a ≤ rank ends b
rank_most [] a b l = omega arith
rank_most (e ∷ ends) a b l = by_end (before b e) (before a e) refl refl (rank_most ends a b l)
  where
    by_end : (t u : Bool) → before b e ≡ t → before a e ≡ u → rank ends a ≤ rank ends b → (if u then rank ends a else suc (rank ends a)) ≤ (if t then rank ends b else suc (rank ends b))
    by_end true true x y h = h
    by_end true false x y h = absurd (true≢false (sym (most_less a b e l x) ∙ y))
    by_end false true x y h = omega arith
    by_end false false x y h = omega arith

pub rank_less : (ends : List Key) (a b : Key) → before a b ≡ true → Among b ends → rank ends a < rank ends b
rank_less [] a b l among = absurd among
rank_less (e ∷ ends) a b l (inl same) = by_ends (before a e) (before b e) refl refl
  where
    by_ends : (t u : Bool) → before a e ≡ t → before b e ≡ u → (if t then rank ends a else suc (rank ends a)) < (if u then rank ends b else suc (rank ends b))
    by_ends false u x y = absurd (true≢false (sym l ∙ (ap (before a) same ∙ x)))
    by_ends true true x y = absurd (before_not_self (numbers b) (ap (before b) same ∙ y))
    by_ends true false x y = omega (arith, rank_most ends a b (less_not a b l))
rank_less (e ∷ ends) a b l (inr among) = by_ends (before a e) (before b e) refl refl (rank_less ends a b l among)
  where
    by_ends : (t u : Bool) → before a e ≡ t → before b e ≡ u → rank ends a < rank ends b → (if t then rank ends a else suc (rank ends a)) < (if u then rank ends b else suc (rank ends b))
    by_ends true true x y h = h
    by_ends true false x y h = omega arith
    by_ends false true x y h = absurd (true≢false (sym (before_trans (numbers a) (numbers b) (numbers e) l y) ∙ x))
    by_ends false false x y h = omega arith

pub rank_within : (ends : List Key) (k : Key) → rank ends k < suc (length ends)
rank_within [] k = omega arith
rank_within (e ∷ ends) k = by_end (before k e) (rank_within ends k)
  where
    by_end : (t : Bool) → rank ends k < suc (length ends) → (if t then rank ends k else suc (rank ends k)) < suc (suc (length ends))
    by_end true h = omega arith
    by_end false h = omega arith

-- A run covers a segment exactly where it covers each key of it.
lies_ranked : (ends : List Key) (k : Key) (v : KeyEvent) → Among v.lo ends → Among v.hi ends → in_range (rank ends v.lo) (rank ends v.hi) (rank ends k) ≡ lies_in k v
lies_ranked ends k v lo hi = ap₂ ◌&&◌ (below (before k v.lo) refl) (above (before k v.hi) refl)
  where
    below : (t : Bool) → before k v.lo ≡ t → nat_le (rank ends v.lo) (rank ends k) ≡ not t
    below true e = lt-leb (rank ends v.lo) (rank ends k) (rank_less ends k v.lo e lo)
    below false e = le-leb (rank ends v.lo) (rank ends k) (rank_most ends v.lo k e)

    above : (t : Bool) → before k v.hi ≡ t → nat_lt (rank ends k) (rank ends v.hi) ≡ t
    above true e = lt-ltb (rank ends k) (rank ends v.hi) (rank_less ends k v.hi e hi)
    above false e = le-ltb (rank ends k) (rank ends v.hi) (rank_most ends v.hi k e)

pub story_ranked : (ends : List Key) (k : Key) (e : ℕ) (events : List KeyEvent) → EndsIn ends events → story_at (rank ends k) e (map (ranked ends) events) ≡ key_story k e events
story_ranked ends k e [] h = refl
story_ranked ends k e (v ∷ events) h = together (in_range (rank ends v.lo) (rank ends v.hi) (rank ends k)) (lies_in k v) (lies_ranked ends k v h.0 h.1) (story_ranked ends k (suc e) events h.2) (story_ranked ends k e events h.2)
  where
    together : (t u : Bool) → t ≡ u → {a b c d : List Access} → a ≡ b → c ≡ d → (if t then then_on v.deed e a c else c) ≡ (if u then then_on v.deed e b d else d)
    together t u same {a} {b} {c} {d} x y = ap (λ (t : Bool). if t then then_on v.deed e a c else c) same ∙ ap₂ (λ (p q : List Access). if u then then_on v.deed e p q else q) x y
