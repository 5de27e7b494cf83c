-- Of a draft of which no name is refused the made names are well formed, differ, and have the slots from 0 on.
use Rattle.std.proofs.Common.{◌≡◌, ℕ, ◌+◌, List, [], ◌∷◌, ◌++◌, map, true, false, Option, Some, None, Result, Ok, refl, sym, ap₂, subst, ◌∙◌, inl, inr, append_assoc}
use native.Mathlib.Numerals.{unary_clauses}
use Rattle.std.specs.Prelude.{bytes_eq, All, is_none}
use Rattle.std.specs.List.{flat_map, IsDistinct, list_any}
use Rattle.std.specs.Option.{option_to_list}
use Rattle.std.proofs.lemmas.List.{append-nil, map-append}
use Rattle.std.proofs.lemmas.Bool.{cases_Bool, false_from_ne_true}
use Rattle.std.proofs.lemmas.Cmp.{nat_list_eq_equiv}
use Rattle.std.proofs.lemmas.Map.Keys.{IsDistinct-push}
use Rattle.std.proofs.lemmas.List.Elements.{All-nil, All-head, All-tail, All-push, All-weaker}
use Rattle.std.proofs.lemmas.Slice.Eq.{bytes_eq-Decides}
use Rattle.wg_script.specs.CallOf.{Call}
use Rattle.wg_script.specs.Draft.{Stop}
use Rattle.wg_names.specs.Uses.{made_of}
use Rattle.wg_names.specs.Names.{Names, no_names, with_name, slot_in, is_name}
use Rattle.wg_names.specs.Script.{with_setting, call_bound, walk, lane_bound, phase_bound, phases_bound}
use Rattle.wg_names.specs.Bound.{made_by, made_in, numbers_below}
use Rattle.wg_types.specs.declared.wanted.Kind.{Kind}
use Rattle.wg_script.specs.declared.calls.CallOf.TheVariants.{Record, Ask, Canvas}
use Rattle.wg_types.specs.declared.canvases.CanvasCall.TheVariants.{Configure, Current, Present}
use Rattle.wg_types.specs.declared.canvases.CanvasOf.TheVariants.{Create, On}
use Rattle.wg_names.proofs.Passing.{bind_ok, Makes, Passes, passes_of}
use Rattle.wg_names.proofs.BoundLemmas.{MadeNames}

-- the names of a list are well formed and differ, each stands for something, and they have the slots from 0 on
pub record Keeps (names : Names) (made : MadeNames) : Type 0 where
  pub formed : All (λ name. is_name name ≡ true) (map (λ m. m.0) made)
  pub once : IsDistinct bytes_eq (map (λ m. m.0) made)
  pub kept : All (λ name. is_none (names.marks name) ≡ false) (map (λ m. m.0) made)
  pub slots : map (slot_in names) (map (λ m. m.0) made) ≡ numbers_below names.made

abbrev IsMadeIn : Names → List ℕ → Type 0
IsMadeIn names name = is_none (names.marks name) ≡ false

some_kept : (p l : ℕ) (names : Names) (name : List ℕ) (kind : Kind) (other : List ℕ) → IsMadeIn names other → IsMadeIn (with_name p l name kind names) other
some_kept p l names name kind other kept = elim (cases_Bool (bytes_eq name other)) [ inl same ↦ rw same refl | inr differs ↦ rw differs kept ]

own_kept : (p l : ℕ) (names : Names) (name : List ℕ) (kind : Kind) → IsMadeIn (with_name p l name kind names) name
own_kept p l names name kind = let same : bytes_eq name name ≡ true = (bytes_eq-Decides name name).1 refl in rw same refl

own_slot : (p l : ℕ) (names : Names) (name : List ℕ) (kind : Kind) → slot_in (with_name p l name kind names) name ≡ names.made
own_slot p l names name kind = let same : bytes_eq name name ≡ true = (bytes_eq-Decides name name).1 refl in rw same refl

-- a name that was not made differs from one that was
differs_from : (names : Names) (name other : List ℕ) → names.marks name ≡ None → IsMadeIn names other → bytes_eq name other ≡ false
differs_from names name other none here = false_from_ne_true (bytes_eq name other)
    (λ same. let is : name ≡ other = (bytes_eq-Decides name other).0 same in
    let gone : names.marks other ≡ None = let P : List ℕ → Type 0 = λ n. names.marks n ≡ None in subst P is none in
    let there : is_none (names.marks other) ≡ true = rw gone refl in cc)

not_among : (names : Names) (name : List ℕ) → names.marks name ≡ None → (others : List (List ℕ)) → All (IsMadeIn names) others → list_any (bytes_eq name) others ≡ false
not_among names name none [] kept = refl
not_among names name none (other ∷ others) kept =
    let differs : bytes_eq name other ≡ false = differs_from names name other none (All-head (IsMadeIn names) other others kept) in
    rw differs (not_among names name none others (All-tail (IsMadeIn names) other others kept))

-- the slots of the names that were made before stay
same_slot : (p l : ℕ) (names : Names) (name : List ℕ) (kind : Kind) (other : List ℕ) → bytes_eq name other ≡ false → slot_in (with_name p l name kind names) other ≡ slot_in names other
same_slot p l names name kind other differs = rw differs refl

same_slots : (p l : ℕ) (names : Names) (name : List ℕ) (kind : Kind) → names.marks name ≡ None → (others : List (List ℕ)) → All (IsMadeIn names) others
    → map (slot_in (with_name p l name kind names)) others ≡ map (slot_in names) others
same_slots p l names name kind none [] kept = refl
same_slots p l names name kind none (other ∷ others) kept =
    ap₂ (λ n ns. n ∷ ns) (same_slot p l names name kind other (differs_from names name other none (All-head (IsMadeIn names) other others kept)))
    (same_slots p l names name kind none others (All-tail (IsMadeIn names) other others kept))

one_number_more : (n : ℕ) → numbers_below (n + 1) ≡ numbers_below n ++ n ∷ []
one_number_more n = simp unary_clauses refl

slots_more : (p l : ℕ) (names : Names) (name : List ℕ) (kind : Kind) → names.marks name ≡ None → (others : List (List ℕ)) → All (IsMadeIn names) others
    → map (slot_in names) others ≡ numbers_below names.made → map (slot_in (with_name p l name kind names)) (others ++ name ∷ []) ≡ numbers_below (names.made + 1)
slots_more p l names name kind none others kept slots =
    map-append (slot_in (with_name p l name kind names)) others (name ∷ [])
    ∙ (ap₂ (λ ns n. ns ++ n ∷ []) (same_slots p l names name kind none others kept ∙ slots) (own_slot p l names name kind)
    ∙ sym (one_number_more names.made))

keeps_made : (p l : ℕ) (names more : Names) (made : MadeNames) (o : Option (List ℕ × Kind)) → Makes p l names more o → Keeps names made → Keeps more (made ++ option_to_list o)
keeps_made p l names more made None same keeps =
    let P : Names → Type 0 = λ ns. Keeps ns (made ++ []) in
    let Q : MadeNames → Type 0 = λ ms. Keeps names ms in
    subst P same (subst Q (sym (append-nil made)) keeps)
keeps_made p l names more made (Some m) makes keeps =
    let firsts : List (List ℕ) = map (λ (k : List ℕ × Kind). k.0) made in
    let P : Names → Type 0 = λ ns. Keeps ns (made ++ m ∷ []) in
    let shape : map (λ (k : List ℕ × Kind). k.0) (made ++ m ∷ []) ≡ firsts ++ m.0 ∷ [] = map-append (λ (k : List ℕ × Kind). k.0) made (m ∷ []) in
    let Formed : List (List ℕ) → Type 0 = λ ns. All (λ name. is_name name ≡ true) ns in
    let Once : List (List ℕ) → Type 0 = λ ns. IsDistinct bytes_eq ns in
    let Kept : List (List ℕ) → Type 0 = λ ns. All (IsMadeIn (with_name p l m.0 m.1 names)) ns in
    let Slots : List (List ℕ) → Type 0 = λ ns. map (slot_in (with_name p l m.0 m.1 names)) ns ≡ numbers_below (names.made + 1) in
    let old : Kept firsts = All-weaker (IsMadeIn names) (IsMadeIn (with_name p l m.0 m.1 names)) (some_kept p l names m.0 m.1) firsts keeps.kept in
    subst P makes.2 (record {
      formed = subst Formed (sym shape) (All-push (λ name. is_name name ≡ true) firsts m.0 keeps.formed makes.0);
      once = subst Once (sym shape) (IsDistinct-push nat_list_eq_equiv firsts m.0 keeps.once (not_among names m.0 makes.1 firsts keeps.kept));
      kept = subst Kept (sym shape) (All-push (IsMadeIn (with_name p l m.0 m.1 names)) firsts m.0 old (own_kept p l names m.0 m.1));
      slots = subst Slots (sym shape) (slots_more p l names m.0 m.1 makes.1 firsts keeps.kept keeps.slots);
    })

-- what each item of a list keeps, the list keeps
abbrev KeepsOn : {X : Type 0} → (ℕ → Names → X → Result Names Stop) → (X → MadeNames) → Type 0
KeepsOn {X} f g = (i : ℕ) (names : Names) (x : X) (more : Names) (made : MadeNames) → f i names x ≡ Ok more → Keeps names made → Keeps more (made ++ g x)

walk_keeps : {X : Type 0} (f : ℕ → Names → X → Result Names Stop) (g : X → MadeNames) → KeepsOn f g → (i : ℕ) (names : Names) (xs : List X) (end : Names) (made : MadeNames)
    → walk f i names xs ≡ Ok end → Keeps names made → Keeps end (made ++ flat_map g xs)
walk_keeps f g on i names [] end made e keeps =
    let same : names ≡ end = cc in
    let P : Names → Type 0 = λ ns. Keeps ns (made ++ []) in
    let Q : MadeNames → Type 0 = λ ms. Keeps names ms in
    subst P same (subst Q (sym (append-nil made)) keeps)
walk_keeps f g on i names (x ∷ xs) end made e keeps =
    let step = bind_ok (f i names x) (λ more. walk f (i + 1) more xs) end e in
    let Q : MadeNames → Type 0 = λ ms. Keeps end ms in
    subst Q (append_assoc made (g x) (flat_map g xs))
    (walk_keeps f g on (i + 1) step.0 xs end (made ++ g x) step.2 (on i names x step.0 made step.1 keeps))

-- what a call says of canvases leaves all that
keeps_set : (call : Call) (names : Names) (made : MadeNames) → Keeps names made → Keeps (with_setting call names) made
keeps_set (Record on command name) names made keeps = keeps
keeps_set (Ask request name) names made keeps = keeps
keeps_set (Canvas (Create width height) name) names made keeps = keeps
keeps_set (Canvas (On canvas (Configure format usage)) name) names made keeps = record { formed = keeps.formed; once = keeps.once; kept = keeps.kept; slots = keeps.slots }
keeps_set (Canvas (On canvas Current) name) names made keeps = keeps
keeps_set (Canvas (On canvas Present) name) names made keeps = keeps

call_keeps : (p l : ℕ) → KeepsOn (call_bound p l) made_by
call_keeps p l i names call more made e keeps =
    let passes : Passes p l names more call = passes_of p l i names more call e in
    let P : Names → Type 0 = λ ns. Keeps ns (made ++ made_by call) in
    subst P passes.after (keeps_set call passes.mid (made ++ made_by call) (keeps_made p l names passes.mid made (made_of call) passes.makes keeps))

lane_keeps : (p : ℕ) → KeepsOn (lane_bound p) made_in
lane_keeps p l names calls more made e keeps = walk_keeps (call_bound p l) made_by (call_keeps p l) 0 names calls more made e keeps

phase_keeps : KeepsOn phase_bound (flat_map made_in)
phase_keeps p names lanes more made e keeps = walk_keeps (lane_bound p) made_in (lane_keeps p) 0 names lanes more made e keeps

pub all_keep : (phases : List (List (List Call))) (end : Names) → phases_bound phases ≡ Ok end → Keeps end (flat_map (flat_map made_in) phases)
unfolding IsDistinct
all_keep phases end e =
    let start : Keeps no_names [] = record { formed = All-nil (λ name. is_name name ≡ true); once = tt; kept = All-nil (IsMadeIn no_names); slots = refl } in
    walk_keeps phase_bound (flat_map made_in) phase_keeps 0 no_names phases end [] e start
