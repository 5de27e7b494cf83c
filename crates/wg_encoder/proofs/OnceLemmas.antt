-- What is in a list, each once.
use Rattle.std.proofs.Common.{◌≡◌, ℕ, Bool, true, false, ◌||◌, ◌==◌, nat_eq, true≢false, List, [], ◌∷◌, ◌++◌, map, fold, refl, ap, ap₂, sym, subst, ◌∙◌, append-nil, if◌then◌else◌}
use Rattle.std.specs.List.{list_any, flat_map}
use Rattle.std.proofs.lemmas.Bool.{and_parts, eqb-true}
use Rattle.std.proofs.lemmas.List.Folds.{list_any-append}
use Rattle.std.proofs.lemmas.Grind.{flat_map-append}
use Rattle.indexmap.specs.IndexSet.{insert_all}
use Rattle.wg_types.specs.Members.{SameMembers}
use Rattle.wg_types.specs.Handles.{HandleValue}
use Rattle.wg_types.specs.declared.commands.On.{On}
use Rattle.wg_types.specs.Commands.{Command, named}
use Rattle.wg_types.specs.declared.wanted.Wanted.{Wanted}
use Rattle.wg_trace.specs.declared.steps.Used.{Used}
use Rattle.wg_trace.specs.declared.steps.Sort.{Sort}
use Rattle.wg_trace.specs.declared.steps.Sort.TheVariants.{Buffer, Texture, Queries}
use Rattle.wg_trace.specs.contracts.steps.UsedPartialEq.TheImpl.{eq-value}
use Rattle.wg_model.specs.Recorded.{names_within}
use Rattle.wg_encoder.specs.Once.{with_one, each_once, values_of, AreOnce}
use Rattle.wg_encoder.specs.Uses.{uses_in, uses_within, used_once, named_once, is_sort, same_used}
use Rattle.wg_encoder.specs.declared.naming.Naming.{Naming}
use Rattle.wg_encoder.specs.declared.naming.Named.{Named}
use Rattle.wg_encoder.specs.Naming.{IsNamedBy, AreNamedOnce}

-- One list after another.
fold_after : {A : Type 0} (f : List A → A → List A) (start xs ys : List A) → fold f start (xs ++ ys) ≡ fold f (fold f start xs) ys
fold_after f start [] ys = refl
fold_after f start (x ∷ xs) ys = fold_after f (f start x) xs ys

-- What is put into a set after a list is each of both lists once.
once_more : {A : Type 0} (same : A → A → Bool) (old new xs ys : List A) → old ≡ each_once same xs → new ≡ insert_all same old ys → new ≡ each_once same (xs ++ ys)
once_more same old new xs ys e is = is ∙ (ap (λ zs. fold (with_one same) zs ys) e ∙ sym (fold_after (with_one same) [] xs ys))

used_is : (x y : Used) → eq-value.it x y ≡ same_used x y
used_is x y = by_sorts x.number y.number x.sort y.sort
  where
    by_sorts : (n m : ℕ) (s t : Sort) → eq-value.it (record { number = n; sort = s }) (record { number = m; sort = t }) ≡ same_used (record { number = n; sort = s }) (record { number = m; sort = t })
    by_sorts n m Buffer Buffer = refl
    by_sorts n m Buffer Texture = refl
    by_sorts n m Buffer Queries = refl
    by_sorts n m Texture Buffer = refl
    by_sorts n m Texture Texture = refl
    by_sorts n m Texture Queries = refl
    by_sorts n m Queries Buffer = refl
    by_sorts n m Queries Texture = refl
    by_sorts n m Queries Queries = refl

used_more : (old new xs ys : List Used) → old ≡ each_once same_used xs → new ≡ insert_all eq-value.it old ys → new ≡ each_once same_used (xs ++ ys)
used_more old new xs ys e is = once_more same_used old new xs ys e (is ∙ ap (λ (same : Used → Used → Bool). insert_all same old ys) (λ i x y. used_is x y i))

-- what one more command names comes behind what those before it name
more_within : {T : Type 0} (f : On × Command → List T) (commands : List (On × Command)) (kept : On × Command) → flat_map f (commands ++ kept ∷ []) ≡ flat_map f commands ++ f kept
more_within f commands kept = flat_map-append f commands (kept ∷ []) ∙ ap (λ rest. flat_map f commands ++ rest) (append-nil (f kept))

pub named_more : (commands : List (On × Command)) (on : On) (command : Command) (old new : Naming) (one : Named) → AreNamedOnce commands old → IsNamedBy command one
    → values_of new.uses ≡ insert_all eq-value.it (values_of old.uses) one.uses.items → values_of new.objects ≡ insert_all nat_eq (values_of old.objects) one.objects.items → AreNamedOnce (commands ++ (on, command) ∷ []) new
named_more commands on command old new one are is uses objects = record {
  uses =
      used_more (values_of old.uses) (values_of new.uses) (uses_within commands) one.uses.items are.uses uses
      ∙ ap (each_once same_used) (ap (λ more. uses_within commands ++ more) is.uses ∙ sym (more_within (λ (kept : On × Command). uses_in (named kept.1)) commands (on, command)));
  objects =
      once_more nat_eq (values_of old.objects) (values_of new.objects) (names_within commands) one.objects.items are.objects objects
      ∙ ap (each_once nat_eq) (ap (λ more. names_within commands ++ more) is.objects ∙ sym (more_within (λ (kept : On × Command). map (λ (object : HandleValue × Wanted). object.0.reference.number) (named kept.1)) commands (on, command)));
}

-- What is put once each into a list of which nothing is there twice leaves nothing twice.
once_stays : {A : Type 0} (same : A → A → Bool) (xs : List A) (x : A) → AreOnce same xs → AreOnce same (with_one same xs x)
once_stays {A} same xs x once = by_any (list_any (same x) xs) refl
  where
    by_any : (b : Bool) → list_any (same x) xs ≡ b → AreOnce same (if b then xs else xs ++ x ∷ [])
    by_any true e = once
    by_any false e = fold_after (with_one same) [] xs (x ∷ []) ∙ (ap (λ zs. with_one same zs x) once ∙ ap (λ (b : Bool). if b then xs else xs ++ x ∷ []) e)

all_once : {A : Type 0} (same : A → A → Bool) (start xs : List A) → AreOnce same start → AreOnce same (fold (with_one same) start xs)
all_once same start [] once = once
all_once same start (x ∷ xs) once = all_once same (with_one same start x) xs (once_stays same start x once)

-- The resources that commands use, each once, and the objects that they name.
pub uses_once : (commands : List (On × Command)) (uses : List Used) → uses ≡ used_once commands → AreOnce eq-value.it uses
uses_once commands uses e =
    let same : AreOnce same_used (used_once commands) = all_once same_used [] (uses_within commands) refl in
    subst (λ (test : Used → Used → Bool). AreOnce test uses) (λ i x y. sym (used_is x y) i) (subst (AreOnce same_used) (sym e) same)

pub objects_once : (commands : List (On × Command)) (objects : List ℕ) → objects ≡ named_once commands → AreOnce nat_eq objects
objects_once commands objects e = subst (AreOnce nat_eq) (sym e) (all_once nat_eq [] (names_within commands) refl)

-- What is kept of commands is kept where the same values are, since nothing is there twice.
pub kept_once : (old new : Naming) → (AreOnce eq-value.it (values_of old.uses) → values_of new.uses ≡ values_of old.uses) → (AreOnce nat_eq (values_of old.objects) → values_of new.objects ≡ values_of old.objects)
    → (commands : List (On × Command)) → AreNamedOnce commands old → AreNamedOnce commands new
kept_once old new uses objects commands are = record {
  uses = uses (uses_once commands (values_of old.uses) are.uses) ∙ are.uses;
  objects = objects (objects_once commands (values_of old.objects) are.objects) ∙ are.objects;
}

-- Each once, they are the same members.

or_once : (a b : Bool) → a || b ≡ (a || b) || a
or_once true b = refl
or_once false true = refl
or_once false false = refl

or_later : (a b c : Bool) → b ≡ b || c → a || b ≡ (a || b) || c
or_later true b c e = refl
or_later false b c e = e

or_none : (a b : Bool) → a || (b || false) ≡ a || b
or_none true b = refl
or_none false true = refl
or_none false false = refl

module _ {A : Type 0} (same : A → A → Bool) (tells : (x y : A) → same x y ≡ true → x ≡ y) where
  -- what is there already changes no answer
  found : (test : A → Bool) (xs : List A) (k : A) → list_any (same k) xs ≡ true → list_any test xs ≡ list_any test xs || test k
  found test [] k e = absurd (true≢false (sym e))
  found test (x ∷ xs) k e = by_same (same k x) refl (found test xs k)
    where
      by_same : (b : Bool) → same k x ≡ b → (list_any (same k) xs ≡ true → list_any test xs ≡ list_any test xs || test k) → list_any test (x ∷ xs) ≡ list_any test (x ∷ xs) || test k
      by_same true f rest = subst (λ z. list_any test (x ∷ xs) ≡ list_any test (x ∷ xs) || test z) (sym (tells k x f)) (or_once (test x) (list_any test xs))
      by_same false f rest = or_later (test x) (list_any test xs) (test k) (rest (sym (ap (λ b. b || list_any (same k) xs) f) ∙ e))

  one_more : (test : A → Bool) (xs : List A) (k : A) → list_any test (with_one same xs k) ≡ list_any test xs || test k
  one_more test xs k = by_any (list_any (same k) xs) refl
    where
      by_any : (b : Bool) → list_any (same k) xs ≡ b → list_any test (with_one same xs k) ≡ list_any test xs || test k
      by_any true e = ap (λ b. list_any test (if b then xs else xs ++ k ∷ [])) e ∙ found test xs k e
      by_any false e = ap (λ b. list_any test (if b then xs else xs ++ k ∷ [])) e ∙ (list_any-append test xs (k ∷ []) ∙ or_none (list_any test xs) (test k))

  or_assoc : (a b c : Bool) → (a || b) || c ≡ a || (b || c)
  or_assoc true b c = refl
  or_assoc false b c = refl

  all_more : (test : A → Bool) (start xs : List A) → list_any test (fold (with_one same) start xs) ≡ list_any test start || list_any test xs
  all_more test start [] = or_nothing (list_any test start)
    where
      or_nothing : (b : Bool) → b ≡ b || false
      or_nothing true = refl
      or_nothing false = refl
  all_more test start (x ∷ xs) = all_more test (with_one same start x) xs ∙ (ap (λ b. b || list_any test xs) (one_more test start x) ∙ or_assoc (list_any test start) (test x) (list_any test xs))

  pub same_once : (xs : List A) → SameMembers (each_once same xs) xs
  same_once xs test = all_more test [] xs

sort_tells : (s t : Sort) → is_sort s t ≡ true → s ≡ t
sort_tells Buffer Buffer e = refl
sort_tells Buffer Texture e = absurd (true≢false (sym e))
sort_tells Buffer Queries e = absurd (true≢false (sym e))
sort_tells Texture Buffer e = absurd (true≢false (sym e))
sort_tells Texture Texture e = refl
sort_tells Texture Queries e = absurd (true≢false (sym e))
sort_tells Queries Buffer e = absurd (true≢false (sym e))
sort_tells Queries Texture e = absurd (true≢false (sym e))
sort_tells Queries Queries e = refl

used_tells : (x y : Used) → same_used x y ≡ true → x ≡ y
used_tells x y e =
    let both = and_parts (x.number == y.number) (is_sort x.sort y.sort) e in
    ap₂ {C = Used} (λ n s. record { number = n; sort = s }) (eqb-true x.number y.number both.0) (sort_tells x.sort y.sort both.1)

pub same_numbers : (xs : List ℕ) → SameMembers (each_once nat_eq xs) xs
same_numbers xs = same_once nat_eq eqb-true xs

pub same_uses : (xs : List Used) → SameMembers (each_once same_used xs) xs
same_uses xs = same_once same_used used_tells xs
