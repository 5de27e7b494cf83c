-- A value level by level, and lists of items that grow at their end.
use Rattle.std.proofs.Common.{◌≡◌, ℕ, List, [], ◌∷◌, ◌++◌, length, Option, Some, None, Vec, Global, Bor, true, false, Ordering, Less, Equal, Greater, is_eq, nat_cmp, bytes_eq, refl, ap, ◌∙◌, suc, rules}
use Rattle.std.proofs.lemmas.Map.Text.{is_eq-slice_cmp}
use Rattle.std.specs.Ordering.{match_ordering}
use Rattle.std.specs.Cmp.Lexicographic.{slice_cmp}
use Rattle.serde_json.specs.Find.{get_member}
use Rattle.json.specs.Token.{Token}
use Rattle.json.specs.Json.{parse_map}
use Rattle.serde_json.specs.Data.{array, object, Items, no_items, item}
use Rattle.serde_json.specs.Events.{items_len}
use Rattle.wg_json.specs.View.{view, items_view, members_view}
use Rattle.wg_json.specs.declared.value.Value.{Value, Array, Object, the_lemmas}

pub view-Array : (v : Vec Value Global) → view (Array v) ≡ array (items_view v.items)
view-Array v = search (rules, the_lemmas)

pub view-Object : (m : Vec (Bor (List ℕ) × Value) Global) → view (Object m) ≡ object (members_view m.items)
view-Object m = search (rules, the_lemmas)

-- items that were read, before those that come
abbrev pub items_before : List Value → Items → Items
items_before [] rest = rest
items_before (v ∷ vs) rest = item (view v) (items_before vs rest)

pub items_before-no_items : (vs : List Value) → items_before vs no_items ≡ items_view vs
items_before-no_items [] = refl
items_before-no_items (v ∷ vs) = ap (item (view v)) (items_before-no_items vs)

items_push : (vs : List Value) (v : Value) (rest : Items) → items_before vs (item (view v) rest) ≡ items_before (vs ++ v ∷ []) rest
items_push [] v rest = refl
items_push (w ∷ vs) v rest = ap (item (view w)) (items_push vs v rest)

pub one_more_item : (vs : List Value) (v : Value) (r : Option (Items × List Token)) → parse_map (items_before vs) (parse_map (item (view v)) r) ≡ parse_map (items_before (vs ++ v ∷ [])) r
one_more_item vs v None = refl
one_more_item vs v (Some p) = ap (λ ds. Some (ds, p.1)) (items_push vs v p.0)

pub none_before : (r : Option (Items × List Token)) → r ≡ parse_map (λ a. a) r
none_before None = refl
none_before (Some p) = refl

-- the items of values are as many as these
pub items_len-items_view : (vs : List Value) → items_len (items_view vs) ≡ length vs
items_len-items_view [] = refl
items_len-items_view (v ∷ vs) = ap suc (items_len-items_view vs)

-- ---- a key among members

equal : {X : Type 0} (o : Ordering) (a b c : X) → is_eq o ≡ true → match_ordering o a b c ≡ b
equal Less a b c e = absurd (cc)
equal Equal a b c e = refl
equal Greater a b c e = absurd (cc)

unequal : {X : Type 0} (o : Ordering) (a b : X) → is_eq o ≡ false → match_ordering o a b a ≡ a
unequal Less a b e = refl
unequal Equal a b e = absurd (cc)
unequal Greater a b e = refl

pub get_here : (key : List ℕ) (m : Bor (List ℕ) × Value) (ms : List (Bor (List ℕ) × Value)) → bytes_eq key m.0.now ≡ true
    → get_member key (members_view (m ∷ ms)) ≡ Some (view m.1)
get_here key m ms e = equal (slice_cmp nat_cmp key m.0.now) _ _ _ (is_eq-slice_cmp key m.0.now ∙ e)

pub get_later : (key : List ℕ) (m : Bor (List ℕ) × Value) (ms : List (Bor (List ℕ) × Value)) → bytes_eq key m.0.now ≡ false
    → get_member key (members_view (m ∷ ms)) ≡ get_member key (members_view ms)
get_later key m ms e = unequal (slice_cmp nat_cmp key m.0.now) _ _ (is_eq-slice_cmp key m.0.now ∙ e)
