-- What command buffers name, and that nothing of it is kept once they are spent.
use Rattle.std.proofs.Common.{◌≡◌, ◌≢◌, ℕ, ◌+◌, ◌<◌, Bool, true, false, ◌==◌, List, [], ◌∷◌, ◌++◌, length, None, inl, inr, refl, sym, ap, subst, ◌∙◌, arith, true≢false, slice_set, if◌then◌else◌}
use Rattle.std.proofs.lemmas.Bool.{cases_eq, cases_lt, eq-eqb, ne_eqb}
use Rattle.std.proofs.lemmas.List.{length_push, get_or_past, get_or_append_left, get_or-set_same, get_or-set_other, length-set}
use Rattle.wg_counts.specs.Counts.{CountsValue, times}
use Rattle.wg_holders.specs.declared.marks.Mark.{Mark}
use Rattle.wg_holders.specs.declared.tokens.Awaited.{Awaited}
use Rattle.wg_holders.specs.Holders.{HoldersValue, no_mark, new_mark, mark_at, list_at, is_unspent, with_ended, with_consumed, with_dropped, AreGivenBack, Marks}
use Rattle.wg_holders.specs.Tokens.{Notes, held_by, lives, living, waits, IsOwned, IsTidy, Opens, Drops, Moves}
use Rattle.wg_holders.proofs.Sums.{sum_same}
use Rattle.wg_holders.proofs.MarkLemmas.{field_same, field_other, dropped_spent, mark_more, mark_last}
use Rattle.wg_holders.proofs.HeldLemmas.{holdings_of, value_of}
use Rattle.wg_holders.proofs.StepLemmas.{kept_consumed, kept_dropping}

-- what a command buffer holds is what is kept of its names
pub held_left : (marks : List Mark) (names : List (List ℕ)) (b : ℕ) → AreGivenBack marks names → held_by marks names b ≡ list_at names b
held_left marks names b given_back = by_test (is_unspent (mark_at marks b)) refl
  where
    by_test : (u : Bool) → is_unspent (mark_at marks b) ≡ u → held_by marks names b ≡ list_at names b
    by_test true e = ap (λ u. if u then list_at names b else []) e
    by_test false e = ap (λ u. if u then list_at names b else []) e ∙ sym (given_back.each b e)

-- names that are taken out

emptied_here : (names : List (List ℕ)) (n : ℕ) → list_at (slice_set names n []) n ≡ []
emptied_here names n = elim (cases_lt n (length names)) [
  | inl less ↦ get_or-set_same names n [] [] less
  | inr past ↦ get_or_past (slice_set names n []) n [] (let e = length-set names n [] in omega (arith, e, past))
]

emptied_other : (names : List (List ℕ)) (k n : ℕ) → k ≢ n → list_at (slice_set names k []) n ≡ list_at names n
emptied_other names k n other = get_or-set_other names k n [] [] (λ e. other (sym e))

-- nothing is kept of what is spent

pub back_none : AreGivenBack [] []
back_none = record { each = λ n is. get_or_past [] n [] (omega arith) }

pub back_added : (marks marks' : List Mark) (names names' : List (List ℕ)) (encoder : Bool) (more : List ℕ) → marks' ≡ marks ++ new_mark encoder ∷ [] → names' ≡ names ++ more ∷ [] → length names ≡ length marks → AreGivenBack marks names → AreGivenBack marks' names'
back_added marks marks' names names' encoder more marks_are names_are len given_back = rw (marks_are, names_are) (record { each = each })
  where
    each : (n : ℕ) → is_unspent (mark_at (marks ++ new_mark encoder ∷ []) n) ≡ false → list_at (names ++ more ∷ []) n ≡ []
    each n is = elim (cases_lt n (length marks)) [
      | inl less ↦ get_or_append_left names (more ∷ []) [] n (omega (arith, less, len)) ∙ given_back.each n (sym (ap is_unspent (mark_more marks encoder n less)) ∙ is)
      | inr past ↦ elim (cases_eq n (length marks)) [
        | inl here ↦ absurd (true≢false (sym (ap is_unspent (mark_last marks encoder n here)) ∙ is))
        | inr other ↦ get_or_past (names ++ more ∷ []) n [] (let p = length_push names more in omega (arith, p, len, past, other))
      ]
    ]

back_same : (old new : List Mark) (names : List (List ℕ)) → ((n : ℕ) → is_unspent (mark_at new n) ≡ is_unspent (mark_at old n)) → AreGivenBack old names → AreGivenBack new names
back_same old new names same given_back = record { each = λ n is. given_back.each n (sym (same n) ∙ is) }

back_taken : (number : ℕ) (old new : List Mark) (names : List (List ℕ)) → ((b : ℕ) → number ≢ b → is_unspent (mark_at new b) ≡ is_unspent (mark_at old b)) → AreGivenBack old names → AreGivenBack new (slice_set names number [])
back_taken number old new names same given_back = record { each = each }
  where
    each : (n : ℕ) → is_unspent (mark_at new n) ≡ false → list_at (slice_set names number []) n ≡ []
    each n is = elim (cases_eq number n) [
      | inl here ↦ ap (list_at (slice_set names number [])) (sym here) ∙ emptied_here names number
      | inr other ↦ emptied_other names number n other ∙ given_back.each n (sym (same n other) ∙ is)
    ]

-- marks that change, and names that are kept or taken out with that
pub record AreKept (marks marks' : List Mark) (names names' : List (List ℕ)) : Type 0 where
  pub unspent : (n : ℕ) → is_unspent (mark_at marks' n) ≡ true → is_unspent (mark_at marks n) ≡ true
  pub names_len : length names' ≡ length names
  pub names_are : (n : ℕ) → is_unspent (mark_at marks' n) ≡ true → list_at names' n ≡ list_at names n
  pub given_back : AreGivenBack marks' names'

pub kept_ended : (number : ℕ) (marks marks' : List Mark) (names : List (List ℕ)) → Notes (λ n. with_ended (number == n)) marks marks' → AreGivenBack marks names → AreKept marks marks' names names
kept_ended number marks marks' names notes given_back = record {
  unspent = λ n is. sym (same n) ∙ is;
  names_len = refl;
  names_are = λ n is. refl;
  given_back = back_same marks marks' names same given_back;
}
  where
    same : (n : ℕ) → is_unspent (mark_at marks' n) ≡ is_unspent (mark_at marks n)
    same = field_same is_unspent (λ n. with_ended (number == n)) marks marks' (λ n mark. refl) notes

kept_taken : (number : ℕ) (marks marks' : List Mark) (names : List (List ℕ)) → length names ≡ length marks → ((n : ℕ) → is_unspent (mark_at marks' n) ≡ true → is_unspent (mark_at marks n) ≡ true)
    → ((b : ℕ) → number ≢ b → is_unspent (mark_at marks' b) ≡ is_unspent (mark_at marks b)) → (number < length marks → is_unspent (mark_at marks' number) ≡ false) → AreGivenBack marks names → AreKept marks marks' names (slice_set names number [])
kept_taken number marks marks' names len unspent same spent given_back = record {
  unspent = unspent;
  names_len = length-set names number [];
  names_are = same_names;
  given_back = back_taken number marks marks' names same given_back;
}
  where
    same_names : (n : ℕ) → is_unspent (mark_at marks' n) ≡ true → list_at (slice_set names number []) n ≡ list_at names n
    same_names n is = elim (cases_eq number n) [
      | inl here ↦ elim (cases_lt n (length marks)) [
        | inl less ↦ absurd (true≢false (sym is ∙ (ap (λ k. is_unspent (mark_at marks' k)) (sym here) ∙ spent (omega (arith, here, less)))))
        | inr past ↦ (ap (list_at (slice_set names number [])) (sym here) ∙ emptied_here names number) ∙ sym (get_or_past names n [] (omega (arith, past, len)))
      ]
      | inr other ↦ emptied_other names number n other
    ]

unspent_before : (note : ℕ → Mark → Mark) (old new : List Mark) → ((n : ℕ) (mark : Mark) → is_unspent (note n mark) ≡ true → is_unspent mark ≡ true) → Notes note old new → (n : ℕ) → is_unspent (mark_at new n) ≡ true → is_unspent (mark_at old n) ≡ true
unspent_before note old new less notes n is = elim (cases_lt n (length old)) [
  | inl below ↦ less n (mark_at old n) (sym (ap is_unspent (notes.each n below)) ∙ is)
  | inr past ↦ ap is_unspent (get_or_past old n no_mark past)
]

consumed_before : (b : Bool) (mark : Mark) → is_unspent (with_consumed b mark) ≡ true → is_unspent mark ≡ true
consumed_before false mark is = is
consumed_before true mark is = absurd (true≢false (sym is))

dropped_before : (k : ℕ) (b : Bool) (mark : Mark) → is_unspent (with_dropped k b mark) ≡ true → is_unspent mark ≡ true
dropped_before k false mark is = is
dropped_before k true mark is = absurd (true≢false (sym is ∙ dropped_spent k mark))

-- all holds that are no objects, without the names of what is spent
owned_taken : (number : ℕ) (marks : List Mark) (names : List (List ℕ)) (awaited : List Awaited) (own : List ℕ) → (number < length marks → is_unspent (mark_at marks number) ≡ false) → IsOwned marks names awaited own → IsOwned marks (slice_set names number []) awaited own
owned_taken number marks names awaited own spent owned = record {
  own_len = owned.own_len;
  names_len = length-set names number [] ∙ owned.names_len;
  own_are = λ n. owned.own_are n ∙ ap (λ k. lives marks n + waits awaited n + k)
      (sym (sum_same (λ b. times n (held_by marks (slice_set names number []) b)) (λ b. times n (held_by marks names b)) (length marks) (λ b lt. ap (times n) (held b lt))));
}
  where
    held : (b : ℕ) → b < length marks → held_by marks (slice_set names number []) b ≡ held_by marks names b
    held b lt = elim (cases_eq number b) [
      | inl here ↦ (
          let none : is_unspent (mark_at marks b) ≡ false = ap (λ k. is_unspent (mark_at marks k)) (sym here) ∙ spent (omega (arith, here, lt)) in
          ap (λ u. if u then list_at (slice_set names number []) b else []) none ∙ sym (ap (λ u. if u then list_at names b else []) none))
      | inr other ↦ ap (λ list. if is_unspent (mark_at marks b) then list else []) (emptied_other names number b other)
    ]

-- all that is kept, once a command buffer is consumed
pub record IsConsumed (marks marks' : List Mark) (names names' : List (List ℕ)) (opened : List ℕ) (awaited : List Awaited) (own : List ℕ) : Type 0 where
  pub tidy : IsTidy marks' opened awaited
  pub owned : IsOwned marks' names' awaited own
  pub kept : AreKept marks marks' names names'

pub consumed_all : (number : ℕ) (list taken : List ℕ) (marks marks' : List Mark) (names names' : List (List ℕ)) (opened : List ℕ) (awaited : List Awaited) (first last : CountsValue) → list ≡ taken → taken ≡ list_at names number → names' ≡ slice_set names number [] → Moves (λ n. times n list) (λ n. 0) first last → Notes (λ n. with_consumed (number == n)) marks marks' → IsTidy marks opened awaited → IsOwned marks names awaited first.own → AreGivenBack marks names → IsConsumed marks marks' names names' opened awaited last.own
consumed_all number list taken marks marks' names names' opened awaited first last list_is taken_is names_are moves notes tidy owned given_back =
    let kept = kept_consumed number list marks marks' names opened awaited first last (list_is ∙ (taken_is ∙ sym (held_left marks names number given_back))) moves notes tidy owned in
    rw names_are (record {
      tidy = kept.tidy;
      owned = owned_taken number marks' names awaited last.own (λ lt. spent (let e = notes.len in omega (arith, e, lt))) kept.owned;
      kept = kept_taken number marks marks' names owned.names_len (unspent_before (λ n. with_consumed (number == n)) marks marks' (λ n mark. consumed_before (number == n) mark) notes)
          (λ b other. field_other is_unspent (λ n. with_consumed (number == n)) marks marks' b (λ mark. ap (λ b. is_unspent (with_consumed b mark)) (ne_eqb number b other)) notes)
          spent given_back;
    })
  where
    spent : number < length marks → is_unspent (mark_at marks' number) ≡ false
    spent lt = ap is_unspent (notes.each number lt) ∙ ap (λ b. is_unspent (with_consumed b (mark_at marks number))) (eq-eqb number number refl)

-- and once an object is dropped and waits, before that is looked at
pub record IsDropped (marks marks' : List Mark) (names names' : List (List ℕ)) (opened : List ℕ) (awaited : List Awaited) (own : List ℕ) : Type 0 where
  pub opens : Opens marks' opened
  pub drops : Drops marks' awaited
  pub owned : IsOwned marks' names' awaited own
  pub less : living marks' + 1 ≡ living marks
  pub kept : AreKept marks marks' names names'

pub dropped_all : (number made : ℕ) (list taken : List ℕ) (marks marks' : List Mark) (names names' : List (List ℕ)) (opened : List ℕ) (awaited awaited' : List Awaited) (first last : CountsValue) → made ≡ length marks → number < made → (mark_at marks number).dropped ≡ None → list ≡ taken → taken ≡ list_at names number → names' ≡ slice_set names number [] → Moves (λ n. times n list) (λ n. 0) first last → Notes (λ n. with_dropped made (number == n)) marks marks' → awaited' ≡ awaited ++ record { number = number; made = made } ∷ [] → IsTidy marks opened awaited → IsOwned marks names awaited first.own → AreGivenBack marks names → IsDropped marks marks' names names' opened awaited' last.own
dropped_all number made list taken marks marks' names names' opened awaited awaited' first last all lt none list_is taken_is names_are moves notes pushed tidy owned given_back =
    let dropping = kept_dropping number made list marks marks' names opened awaited awaited' first last all lt none (list_is ∙ (taken_is ∙ sym (held_left marks names number given_back))) moves notes pushed tidy owned in
    rw names_are (record {
      opens = dropping.opens;
      drops = dropping.drops;
      owned = owned_taken number marks' names awaited' last.own (λ lt. spent (let e = notes.len in omega (arith, e, lt))) dropping.owned;
      less = dropping.less;
      kept = kept_taken number marks marks' names owned.names_len (unspent_before (λ n. with_dropped made (number == n)) marks marks' (λ n mark. dropped_before made (number == n) mark) notes)
          (λ b other. field_other is_unspent (λ n. with_dropped made (number == n)) marks marks' b (λ mark. ap (λ b. is_unspent (with_dropped made b mark)) (ne_eqb number b other)) notes)
          spent given_back;
    })
  where
    spent : number < length marks → is_unspent (mark_at marks' number) ≡ false
    spent lt = ap is_unspent (notes.each number lt) ∙ (ap (λ b. is_unspent (with_dropped made b (mark_at marks number))) (eq-eqb number number refl) ∙ dropped_spent made (mark_at marks number))

-- what contracts see of it
pub marks_view : (note : ℕ → Mark → Mark) (old : HoldersValue) (marks marks' : List Mark) (names names' : List (List ℕ)) (refers' : List (List ℕ)) (counts : CountsValue) (spare : ℕ) → value_of marks names counts spare ≡ old → refers' ≡ counts.refers → Notes note marks marks' → AreKept marks marks' names names' → Marks note old.holdings (holdings_of marks' names' refers')
marks_view note old marks marks' names names' refers' counts spare view refers notes kept =
    subst (λ (value : HoldersValue). Marks note value.holdings (holdings_of marks' names' refers')) view (record {
      len = notes.len;
      each = notes.each;
      unspent = kept.unspent;
      names_len = kept.names_len;
      names = kept.names_are;
      given_back = λ _. kept.given_back;
      refers = refers;
    })
