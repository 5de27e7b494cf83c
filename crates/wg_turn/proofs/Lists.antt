-- Beginnings of one list, the entries of one caller, and sums over seats.
use Rattle.std.proofs.Common.{◌≡◌, ◌≢◌, ℕ, zero, suc, ◌+◌, ◌<◌, ◌≤◌, eqb, cond, Bool, true, false, ltb, List, [], ◌∷◌, ◌++◌, length, set, take, drop, replicate, refl, ap, sym, ◌∙◌, subst, arith, append_assoc, append-nil, length-append}
use Rattle.std.specs.List.{sum_by}
use Rattle.std.proofs.lemmas.List.Sums.{sum_by-cons}
use Rattle.std.proofs.lemmas.List.Elements.{filter-append}
use Rattle.std.proofs.lemmas.Bool.Decides.{nat_tests}
use mathlib.Core.Option.{some, some-injective, some-ne-none}
use mathlib.Core.List.{IsPrefix}
use lib.ListN.{get_elem?}
use Rattle.wg_turn.specs.Entries.{made_by}
use Rattle.wg_turn.specs.Turns.{Owns, grown, longer, shorter}

module _ {A : Type 0} where
  pub prefix_self : (xs : List A) → IsPrefix xs xs
  prefix_self xs = ([], append-nil xs)

  pub prefix_trans : (xs ys zs : List A) → IsPrefix xs ys → IsPrefix ys zs → IsPrefix xs zs
  prefix_trans xs ys zs p q = (p.0 ++ q.0, sym (append_assoc xs p.0 q.0) ∙ (ap (λ w. w ++ q.0) p.1 ∙ q.1))

  pub prefix_more : (xs ys : List A) (e : A) → IsPrefix xs ys → IsPrefix xs (ys ++ e ∷ [])
  prefix_more xs ys e p = prefix_trans xs ys (ys ++ e ∷ []) p (e ∷ [], refl)

  -- of two beginnings of one list the shorter begins the longer
  pub prefix_shorter : (xs ys zs : List A) → IsPrefix xs zs → IsPrefix ys zs → length xs ≤ length ys → IsPrefix xs ys
  prefix_shorter [] ys zs p q le = (ys, refl)
  prefix_shorter (x ∷ xs) [] zs p q le = absurd (omega arith)
  prefix_shorter (x ∷ xs) (y ∷ ys) [] p q le = absurd (cc (p.1))
  prefix_shorter (x ∷ xs) (y ∷ ys) (z ∷ zs) p q le =
      let heads : x ≡ y = cc (p.1, q.1) in
      let rest = prefix_shorter xs ys zs (p.0, cc (p.1)) (q.0, cc (q.1)) (omega arith) in
      (rest.0, cc (heads, rest.1))

  pub total_set : (f : A → ℕ) (xs : List A) (j : ℕ) (v w : A) → get_elem? xs j ≡ some v → sum_by f (set xs j w) + f v ≡ sum_by f xs + f w
  total_set f [] j v w e = absurd (some-ne-none v (sym e))
  total_set f (x ∷ xs) zero v w e = let same : f x ≡ f v = ap f (some-injective x v e) in omega (arith, sum_by-cons f w xs, sum_by-cons f x xs)
  total_set f (x ∷ xs) (suc j) v w e = let h = total_set f xs j v w e in omega (arith, sum_by-cons f x (set xs j w), sum_by-cons f x xs)

  pub total_one : (f : A → ℕ) (xs : List A) (j : ℕ) (w : A) → get_elem? xs j ≡ some w → f w ≤ sum_by f xs
  total_one f [] j w b = absurd (some-ne-none w (sym b))
  total_one f (x ∷ xs) zero w b = let same : f x ≡ f w = ap f (some-injective x w b) in omega (arith, sum_by-cons f x xs)
  total_one f (x ∷ xs) (suc j) w b = omega (arith, sum_by-cons f x xs, total_one f xs j w b)

  -- one of two seats, and the sum of both
  pub total_two : (f : A → ℕ) (xs : List A) (i j : ℕ) (v w : A) → i ≢ j → get_elem? xs i ≡ some v → get_elem? xs j ≡ some w → f v + f w ≤ sum_by f xs
  total_two f [] i j v w ne a b = absurd (some-ne-none v (sym a))
  total_two f (x ∷ xs) zero zero v w ne a b = absurd (ne refl)
  total_two f (x ∷ xs) zero (suc j) v w ne a b = let same : f x ≡ f v = ap f (some-injective x v a) in omega (arith, sum_by-cons f x xs, total_one f xs j w b)
  total_two f (x ∷ xs) (suc i) zero v w ne a b = let same : f x ≡ f w = ap f (some-injective x w b) in omega (arith, sum_by-cons f x xs, total_one f xs i v a)
  total_two f (x ∷ xs) (suc i) (suc j) v w ne a b = omega (arith, sum_by-cons f x xs, total_two f xs i j v w (λ e. ne (ap suc e)) a b)

module _ {E : Type 0} (who : E → ℕ) where
  pub made_else : (n : ℕ) (log : List E) (e : E) → who e ≢ n → made_by who n (log ++ e ∷ []) ≡ made_by who n log
  made_else n log e ne = filter-append (λ x. eqb (who x) n) log (e ∷ []) ∙ (let no : eqb (who e) n ≡ false = grind (arith, nat_tests) in ap (λ b. made_by who n log ++ cond b (e ∷ []) []) no ∙ append-nil (made_by who n log))

  pub made_mine : (n : ℕ) (log : List E) (e : E) → who e ≡ n → made_by who n (log ++ e ∷ []) ≡ made_by who n log ++ e ∷ []
  made_mine n log e is = filter-append (λ x. eqb (who x) n) log (e ∷ []) ∙ (let yes : eqb (who e) n ≡ true = grind (arith, nat_tests) in ap (λ b. made_by who n log ++ cond b (e ∷ []) []) yes)

  pub owns_else : (n : ℕ) (os : List (List E)) (log : List E) (e : E) → ((k : ℕ) → n ≤ k → k < n + length os → who e ≢ k) → Owns who n os log → Owns who n os (log ++ e ∷ [])
  owns_else n [] log e ne own = tt
  owns_else n (o ∷ os) log e ne own = (made_else n log e (ne n (omega arith) (omega arith)) ∙ own.0, owns_else (suc n) os log e (λ k a b. ne k (omega arith) (omega arith)) own.1)

  pub owns_mine : (n : ℕ) (os : List (List E)) (log : List E) (e : E) → length os ≡ 1 → who e ≡ n → Owns who n os log → Owns who n (grown os e) (log ++ e ∷ [])
  owns_mine n [] log e one is own = absurd (omega arith)
  owns_mine n (o ∷ []) log e one is own = (made_mine n log e is ∙ ap (λ l. l ++ e ∷ []) own.0, tt)
  owns_mine n (o ∷ p ∷ os) log e one is own = absurd (omega arith)

  none_left : (l : List E) → length l ≡ 0 → l ≡ []
  none_left [] e = refl
  none_left (x ∷ xs) e = absurd (omega arith)

  -- what both a beginning and the whole have of a caller, each list between has
  pub made_between : (n : ℕ) (a b c o : List E) → IsPrefix a b → IsPrefix b c → made_by who n a ≡ o → made_by who n c ≡ o → made_by who n b ≡ o
  made_between n a b c o p q x y =
      let f : List E → List E = made_by who n in
      let one : f a ++ f p.0 ≡ f b = sym (filter-append (λ x. eqb (who x) n) a p.0) ∙ ap f p.1 in
      let two : f b ++ f q.0 ≡ f c = sym (filter-append (λ x. eqb (who x) n) b q.0) ∙ ap f q.1 in
      let short : length (f p.0) ≡ 0 = omega (arith, ap length one, ap length two, ap length x, ap length y, length-append (f a) (f p.0), length-append (f b) (f q.0)) in
      sym one ∙ (ap (λ l. f a ++ l) (none_left (f p.0) short) ∙ append-nil (f a)) ∙ x

  pub owns_between : (n : ℕ) (os : List (List E)) (a b c : List E) → IsPrefix a b → IsPrefix b c → Owns who n os a → Owns who n os c → Owns who n os b
  owns_between n [] a b c p q x y = tt
  owns_between n (o ∷ os) a b c p q x y = (made_between n a b c o p q x.0 y.0, owns_between (suc n) os a b c p q x.1 y.1)

  pub owns_append : (n m : ℕ) (os ps : List (List E)) (log : List E) → n + length os ≡ m → Owns who n os log → Owns who m ps log → Owns who n (os ++ ps) log
  owns_append n m [] ps log e x y = let same : n ≡ m = omega arith in subst (λ k. Owns who k ps log) (sym same) y
  owns_append n m (o ∷ os) ps log e x y = (x.0, owns_append (suc n) m os ps log (omega arith) x.1 y)

  pub owns_first : (n : ℕ) (os : List (List E)) (log : List E) → Owns who n os log → Owns who n (take 1 os) log
  owns_first n [] log x = tt
  owns_first n (o ∷ os) log x = (x.0, tt)

  pub owns_others : (n : ℕ) (os : List (List E)) (log : List E) → Owns who n os log → Owns who (n + 1) (drop 1 os) log
  owns_others n [] log x = tt
  owns_others n (o ∷ os) log x = let same : suc n ≡ n + 1 = omega arith in subst (λ k. Owns who k os log) same x.1

  pub owns_none : (n k : ℕ) → Owns who n (replicate k []) []
  owns_none n zero = tt
  owns_none n (suc k) = (refl, owns_none (suc n) k)

pub by_length : {E : Type 0} (xs ys : List E) (P : List E → List E → Type 0) → (length xs ≤ length ys → P ys xs) → (length ys ≤ length xs → P xs ys) → P (longer xs ys) (shorter xs ys)
by_length {E} xs ys P a b = pick (ltb (length xs) (length ys)) refl where
  pick : (t : Bool) → ltb (length xs) (length ys) ≡ t → P (longer xs ys) (shorter xs ys)
  pick true e = subst (λ (t : Bool). P (cond t ys xs) (cond t xs ys)) (sym e) (a (grind (arith, nat_tests)))
  pick false e = subst (λ (t : Bool). P (cond t ys xs) (cond t xs ys)) (sym e) (b (grind (arith, nat_tests)))

-- the longer list begins with both, where it begins with the shorter
pub of_both : {A : Type 0} (xs ys l : List A) → l ≡ longer xs ys → IsPrefix (shorter xs ys) l → IsPrefix xs l × IsPrefix ys l
of_both xs ys l is p = by_length xs ys (λ a b. l ≡ a → IsPrefix b l → IsPrefix xs l × IsPrefix ys l)
    (λ _ e q. (q, subst (λ z. IsPrefix ys z) (sym e) (prefix_self ys))) (λ _ e q. (subst (λ z. IsPrefix xs z) (sym e) (prefix_self xs), q)) is p

-- the same list before both
pub prefix_under : {A : Type 0} (base xs ys : List A) → IsPrefix xs ys → IsPrefix (base ++ xs) (base ++ ys)
prefix_under base xs ys p = (p.0, append_assoc base xs p.0 ∙ ap (λ l. base ++ l) p.1)
