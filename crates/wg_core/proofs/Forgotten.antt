-- What was let go is not read: what an event names and what a submit uses was not, and commands of an open encoder may not name it.
use Rattle.std.proofs.Common.{◌≡◌, ℕ, Bool, true, false, not, ◌&&◌, ◌||◌, ◌==◌, nat_lt, List, [], ◌∷◌, map, Option, Some, None, is_some, is_none, option_to_list, inl, inr, refl, sym, ap, ap₂, ◌∙◌, if◌then◌else◌, true≢false}
use Rattle.std.specs.Option.{option_map_or, option_or}
use Rattle.std.specs.List.{list_any, flat_map}
use Rattle.std.proofs.lemmas.Bool.{cases_lt, lt-ltb, ltb-true, eq-eqb, false_from_ne_true}
use Rattle.wg_fading.specs.Fading.{was_let_go}
use Rattle.wg_rules.specs.declared.TheConstants.{OBJECT_IS_OF_DEVICE, OBJECT_IS_NOT_DROPPED, OBJECT_IS_VALID}
use Rattle.wg_types.specs.Refs.{first_of, some_wanted, maybe_wanted}
use Rattle.wg_types.specs.Handles.{HandleValue}
use Rattle.wg_types.specs.Wanted.{admits}
use Rattle.wg_types.specs.Kinds.{kind_of}
use Rattle.wg_types.specs.Commands.{Command}
use Rattle.wg_types.specs.declared.commands.On.{On}
use Rattle.wg_types.specs.declared.handles.Info.{Info}
use Rattle.wg_types.specs.declared.handles.ObjRef.{ObjRef}
use Rattle.wg_trace.specs.declared.steps.Used.{Used}
use Rattle.wg_types.specs.declared.wanted.Wanted.{Wanted}
use Rattle.wg_model.specs.Recorded.{any_object}
use Rattle.wg_model.specs.Rules.{first_unmet}
use Rattle.wg_model.proofs.Unmet.{all_met}
use Rattle.wg_history.specs.declared.events.Setup.{Setup}
use Rattle.wg_history.specs.Answers.{IsRun}
use Rattle.wg_history.specs.Entries.{Past}
use Rattle.wg_model.specs.Equality.{same_bool}
use Rattle.wg_history.specs.Infos.{same_kind, same_info}
use Rattle.wg_history.specs.Objects.{count, info_at, is_own, is_valid}
use Rattle.wg_history.specs.Held.{is_open}
use Rattle.wg_history.specs.Rules.{dropped_at, is_dropped, is_consumed, is_genuine, may_name, is_barred, any_barred, listed_rules}
use Rattle.wg_history.specs.GroupRules.{named_rules}
use Rattle.wg_history.proofs.Holders.{rooted, awaited_root}
use Rattle.wg_history.proofs.Reached.{listed_held}
use Rattle.wg_state.specs.Gone.{any_gone, uses_gone, is_here, AreDead}
use Rattle.wg_state.specs.Uses.{uses_of}
use Rattle.wg_state.proofs.Places.{info_none}
use Rattle.wg_state.proofs.UsesLemmas.{submit_used}
use Rattle.wg_core.specs.Naming.{object_rule, rule_here, is_barred_here}
use Rattle.wg_core.proofs.Naming.{named_found}

-- an object that is not of this device, since none of its number was made
unmade_own : (setup : Setup) (past : Past) (kind : Info → Bool) (object : ObjRef) → is_here [] past object.number ≡ false → is_own setup past kind object ≡ false
unmade_own setup past kind object out = elim (cases_lt object.number (count past)) [
  | inl less ↦ absurd (true≢false (sym (ap (λ b. b && true) (lt-ltb object.number (count past) less)) ∙ out))
  | inr more ↦ ap (λ (o : Option Info). object.device == setup.serial && option_map_or kind o false) (info_none past object.number more) ∙ none (object.device == setup.serial)
]
  where
    none : (b : Bool) → (b && false) ≡ false
    none true = refl
    none false = refl

-- what is not here was not made, or was let go
unmade : (gone : List ℕ) (past : Past) (n : ℕ) → is_here gone past n ≡ false → was_let_go gone n ≡ false → is_here [] past n ≡ false
unmade gone past n out here = by (nat_lt n (count past)) (was_let_go gone n) out here
  where
    by : (a b : Bool) → (a && not b) ≡ false → b ≡ false → (a && true) ≡ false
    by true true out here = absurd (true≢false here)
    by true false out here = absurd (true≢false out)
    by false b out here = refl

-- the rules on what is named

pub rule_as : (gone : List ℕ) (setup : Setup) (past : Past) (object : ObjRef × Wanted) → was_let_go gone object.0.number ≡ false → rule_here gone setup past object ≡ object_rule setup past object
rule_as gone setup past object here = by (is_here gone past object.0.number) refl
  where
    by : (b : Bool) → is_here gone past object.0.number ≡ b → (if b then object_rule setup past object else Some OBJECT_IS_OF_DEVICE) ≡ object_rule setup past object
    by true e = refl
    by false e = sym (ap (λ own. if own then (if not (is_dropped setup past object.0.number) then (if is_valid past object.0.number then None else Some OBJECT_IS_VALID) else Some OBJECT_IS_NOT_DROPPED) else Some OBJECT_IS_OF_DEVICE) (unmade_own setup past (λ known. admits object.1 (kind_of known)) object.0 (unmade gone past object.0.number e here)))

record Both (a b : Bool) : Type 0 where
  left : a ≡ false
  right : b ≡ false

or_parts : (a b : Bool) → (a || b) ≡ false → Both a b
or_parts false false e = record { left = refl; right = refl }
or_parts true b e = absurd (true≢false e)
or_parts false true e = absurd (true≢false e)

pub named_as : (gone : List ℕ) (setup : Setup) (past : Past) (objects : List (ObjRef × Wanted)) → any_gone gone (map (λ named. named.0) objects) ≡ false → first_of (rule_here gone setup past) objects ≡ first_of (object_rule setup past) objects
named_as gone setup past [] none = refl
named_as gone setup past (object ∷ objects) none =
    let both = or_parts (was_let_go gone object.0.number) (any_gone gone (map (λ named. named.0) objects)) none in
    ap₂ option_or (rule_as gone setup past object both.left) (named_as gone setup past objects both.right)

pub named_here : (gone : List ℕ) (setup : Setup) (past : Past) (objects : List (ObjRef × Wanted)) → any_gone gone (map (λ named. named.0) objects) ≡ false → first_of (rule_here gone setup past) objects ≡ first_unmet (named_rules setup past objects)
named_here gone setup past objects none = named_as gone setup past objects none ∙ named_found setup past objects

some_named : (w : Wanted) (objects : List (Option ObjRef)) → map (λ named. named.0) (some_wanted w objects) ≡ flat_map option_to_list objects
some_named w [] = refl
some_named w (None ∷ objects) = some_named w objects
some_named w (Some object ∷ objects) = ap (λ rest. object ∷ rest) (some_named w objects)

-- nor are those that may be left out
pub some_here : (gone : List ℕ) (w : Wanted) (objects : List (Option ObjRef)) → any_gone gone (flat_map option_to_list objects) ≡ false → any_gone gone (map (λ named. named.0) (some_wanted w objects)) ≡ false
some_here gone w objects none = ap (any_gone gone) (some_named w objects) ∙ none

pub maybe_here : (gone : List ℕ) (setup : Setup) (past : Past) (w : Wanted) (o : Option ObjRef) → any_gone gone (option_to_list o) ≡ false → first_of (rule_here gone setup past) (maybe_wanted w o) ≡ first_unmet (named_rules setup past (maybe_wanted w o))
maybe_here gone setup past w None none = named_here gone setup past [] refl
maybe_here gone setup past w (Some object) none = named_here gone setup past ((object, w) ∷ []) none

-- what commands name

pub barred_gone : (setup : Setup) (past : Past) (gone : List ℕ) (e n : ℕ) → AreDead setup past gone → is_open setup past e ≡ true → was_let_go gone n ≡ true → may_name setup past e n ≡ false
barred_gone setup past gone e n dead opened went = by (dropped_at setup past n) refl
  where
    by : (o : Option ℕ) → dropped_at setup past n ≡ o → option_map_or (nat_lt e) o true ≡ false
    by None is = absurd (true≢false (sym (dead n went).dropped ∙ ap is_some is))
    by (Some k) is = false_from_ne_true (nat_lt e k) (λ lt. true≢false (sym (rooted setup past n (dead n went).made (awaited_root setup past n k e is (ltb-true e k lt) opened)) ∙ (dead n went).unheld))

pub barred_same : (gone : List ℕ) (setup : Setup) (past : Past) (encoder : ℕ) (commands : List (On × Command)) → ((n : ℕ) → was_let_go gone n ≡ true → may_name setup past encoder n ≡ false) → any_object (is_barred_here gone setup past encoder) commands ≡ any_barred setup past encoder commands
barred_same gone setup past encoder commands barred = ap (λ (test : HandleValue × Wanted → Bool). any_object test commands) (λ i object. each object i)
  where
    none : (b : Bool) → (b && false) ≡ false
    none true = refl
    none false = refl

    each : (object : HandleValue × Wanted) → is_barred_here gone setup past encoder object ≡ is_barred setup past encoder object
    each object = by (is_here gone past object.0.reference.number) (was_let_go gone object.0.reference.number) refl refl
      where
        by : (a b : Bool) → is_here gone past object.0.reference.number ≡ a → was_let_go gone object.0.reference.number ≡ b → (not a || is_barred setup past encoder object) ≡ is_barred setup past encoder object
        by true b here went = refl
        by false true here went = sym (ap (λ may. not (is_genuine setup past object.0 && may)) (barred object.0.reference.number went) ∙ ap not (none (is_genuine setup past object.0)))
        by false false here went = sym (ap (λ own. not (((own && same_bool object.0.valid (is_valid past object.0.reference.number)) && (not object.0.valid || option_map_or (same_info object.0.info) (info_at past object.0.reference.number) false)) && may_name setup past encoder object.0.reference.number)) (unmade_own setup past (same_kind object.0.info) object.0.reference (unmade gone past object.0.reference.number here went)))

-- what a submit uses

uses_none : (gone : List ℕ) (uses : List Used) → ((n : ℕ) → list_any (λ (used : Used). used.number == n) uses ≡ true → was_let_go gone n ≡ false) → uses_gone gone uses ≡ false
uses_none gone [] here = refl
uses_none gone (used ∷ uses) here =
    ap₂ ◌||◌ (here used.number (or_left (used.number == used.number) _ (eq-eqb used.number used.number refl)))
    (uses_none gone uses (λ n is. here n (or_right (used.number == n) _ is)))
  where
    or_left : (a b : Bool) → a ≡ true → (a || b) ≡ true
    or_left true b e = refl
    or_left false b e = absurd (true≢false (sym e))

    or_right : (a b : Bool) → b ≡ true → (a || b) ≡ true
    or_right true b e = refl
    or_right false b e = e

pub uses_kept : (setup : Setup) (past : Past) (gone : List ℕ) (buffers : List ObjRef) → AreDead setup past gone → IsRun setup past → None ≡ first_unmet (listed_rules setup past buffers) → list_any (λ buffer. is_consumed setup past buffer.number) buffers ≡ false → uses_gone gone (uses_of past buffers) ≡ false
uses_kept setup past gone buffers dead run listed consumed = uses_none gone (uses_of past buffers)
    (λ n used. false_from_ne_true (was_let_go gone n) (λ went. true≢false (sym (listed_held setup past buffers n run (all_met (listed_rules setup past buffers) (ap is_none (sym listed))) consumed (sym (submit_used past buffers n) ∙ used)) ∙ (dead n went).unheld)))
