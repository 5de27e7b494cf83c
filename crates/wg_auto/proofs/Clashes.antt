-- The first two uses of one place that are of different kinds.
use Rattle.std.proofs.Common.{◌≡◌, ℕ, List, [], ◌∷◌, Option, Some, None, is_some, unwrap_or, ◌⊎◌, inl, inr, ⊎_elim, true, false, Bool, not, ◌==◌, ◌&&◌, ◌||◌, if◌then◌else◌, refl, arith, true≢false, ap, ap₂, subst, sym, ◌∙◌}
use Rattle.std.specs.List.{list_all, list_any}
use Rattle.std.proofs.lemmas.Bool.Decides.{nat_tests}
use Rattle.std.proofs.lemmas.Bool.{or_left, or_right}
use Rattle.wg_auto.proofs.Walked.{first_of, second_of, after_first}
use Rattle.wg_types.specs.declared.bindings.BindingKind.{BindingKind}
use Rattle.wg_types.specs.declared.bindings.BindingKind.TheVariants.{Buffer, Sampler, Texture, StorageTexture}
use Rattle.wg_types.specs.declared.bindings.IfaceEntry.{IfaceEntry}
use Rattle.wg_model.specs.Pipelines.{same_use}
use Rattle.wg_model.specs.Equality.{same_bool, same_sample, same_view_dim, same_access, sample_number, access_number, buffer_binding_number, sampler_number}
use Rattle.wg_types.specs.Formats.{same_format, format_number}
use Rattle.wg_types.specs.Textures.{view_dim_number}
use Rattle.wg_model.specs.Automatic.{is_use_of, uses_of, differ, clash_at, kinds_agree}
use Rattle.wg_auto.specs.Automatic.{place_before, IsLeastClash}
use Rattle.wg_auto.specs.Walks.{in_order, use_before, is_clash, first_clash, SameUses}

-- kinds that are equal to a third are equal
bool_self : (a : Bool) → same_bool a a ≡ true
bool_self true = refl
bool_self false = refl

pub use_self : (a : BindingKind) → same_use a a ≡ true
use_self (Buffer a moves least) = grind (arith, nat_tests)
use_self (Sampler a) = grind (arith, nat_tests)
use_self (Texture a dim multi) = grind (arith, nat_tests, bool_self multi)
use_self (StorageTexture a format dim) = grind (arith, nat_tests)

bool_chain : (a b c : Bool) → same_bool a b ≡ true → same_bool a c ≡ same_bool b c
bool_chain true true c e = refl
bool_chain false false c e = refl
bool_chain true false c e = absurd (true≢false (sym e))
bool_chain false true c e = absurd (true≢false (sym e))

number_chain : (a b c : ℕ) → (a == b) ≡ true → (a == c) ≡ (b == c)
number_chain a b c e = let same : a ≡ b = grind (arith, nat_tests, e) in ap (λ (n : ℕ). n == c) same

three_chain : (x y z a a2 b b2 c c2 : Bool) → (x && y && z) ≡ true → (x ≡ true → a ≡ a2) → (y ≡ true → b ≡ b2) → (z ≡ true → c ≡ c2) → (a && b && c) ≡ (a2 && b2 && c2)
three_chain x y z a a2 b b2 c c2 e f g h = ap₂ ◌&&◌ (ap₂ ◌&&◌ (f (first_of x y (first_of (x && y) z e))) (g (second_of x y (first_of (x && y) z e)))) (h (second_of (x && y) z e))

pub use_chain : (a b c : BindingKind) → same_use a b ≡ true → same_use a c ≡ same_use b c
use_chain (Buffer a moves_a least_a) (Buffer b moves_b least_b) (Buffer c moves_c least_c) e = number_chain (buffer_binding_number a) (buffer_binding_number b) (buffer_binding_number c) e
use_chain (Buffer a moves_a least_a) (Buffer b moves_b least_b) (Sampler c) e = refl
use_chain (Buffer a moves_a least_a) (Buffer b moves_b least_b) (Texture c dim_c multi_c) e = refl
use_chain (Buffer a moves_a least_a) (Buffer b moves_b least_b) (StorageTexture c format_c dim_c) e = refl
use_chain (Buffer a moves_a least_a) (Sampler b) c e = absurd (true≢false (sym e))
use_chain (Buffer a moves_a least_a) (Texture b dim_b multi_b) c e = absurd (true≢false (sym e))
use_chain (Buffer a moves_a least_a) (StorageTexture b format_b dim_b) c e = absurd (true≢false (sym e))
use_chain (Sampler a) (Buffer b moves_b least_b) c e = absurd (true≢false (sym e))
use_chain (Sampler a) (Sampler b) (Buffer c moves_c least_c) e = refl
use_chain (Sampler a) (Sampler b) (Sampler c) e = number_chain (sampler_number a) (sampler_number b) (sampler_number c) e
use_chain (Sampler a) (Sampler b) (Texture c dim_c multi_c) e = refl
use_chain (Sampler a) (Sampler b) (StorageTexture c format_c dim_c) e = refl
use_chain (Sampler a) (Texture b dim_b multi_b) c e = absurd (true≢false (sym e))
use_chain (Sampler a) (StorageTexture b format_b dim_b) c e = absurd (true≢false (sym e))
use_chain (Texture a dim_a multi_a) (Buffer b moves_b least_b) c e = absurd (true≢false (sym e))
use_chain (Texture a dim_a multi_a) (Sampler b) c e = absurd (true≢false (sym e))
use_chain (Texture a dim_a multi_a) (Texture b dim_b multi_b) (Buffer c moves_c least_c) e = refl
use_chain (Texture a dim_a multi_a) (Texture b dim_b multi_b) (Sampler c) e = refl
use_chain (Texture a dim_a multi_a) (Texture b dim_b multi_b) (Texture c dim_c multi_c) e = three_chain (same_sample a b) (same_view_dim dim_a dim_b) (same_bool multi_a multi_b) (same_sample a c) (same_sample b c) (same_view_dim dim_a dim_c) (same_view_dim dim_b dim_c) (same_bool multi_a multi_c) (same_bool multi_b multi_c) e (number_chain (sample_number a) (sample_number b) (sample_number c)) (number_chain (view_dim_number dim_a) (view_dim_number dim_b) (view_dim_number dim_c)) (bool_chain multi_a multi_b multi_c)
use_chain (Texture a dim_a multi_a) (Texture b dim_b multi_b) (StorageTexture c format_c dim_c) e = refl
use_chain (Texture a dim_a multi_a) (StorageTexture b format_b dim_b) c e = absurd (true≢false (sym e))
use_chain (StorageTexture a format_a dim_a) (Buffer b moves_b least_b) c e = absurd (true≢false (sym e))
use_chain (StorageTexture a format_a dim_a) (Sampler b) c e = absurd (true≢false (sym e))
use_chain (StorageTexture a format_a dim_a) (Texture b dim_b multi_b) c e = absurd (true≢false (sym e))
use_chain (StorageTexture a format_a dim_a) (StorageTexture b format_b dim_b) (Buffer c moves_c least_c) e = refl
use_chain (StorageTexture a format_a dim_a) (StorageTexture b format_b dim_b) (Sampler c) e = refl
use_chain (StorageTexture a format_a dim_a) (StorageTexture b format_b dim_b) (Texture c dim_c multi_c) e = refl
use_chain (StorageTexture a format_a dim_a) (StorageTexture b format_b dim_b) (StorageTexture c format_c dim_c) e = three_chain (same_access a b) (same_format format_a format_b) (same_view_dim dim_a dim_b) (same_access a c) (same_access b c) (same_format format_a format_c) (same_format format_b format_c) (same_view_dim dim_a dim_c) (same_view_dim dim_b dim_c) e (number_chain (access_number a) (access_number b) (access_number c)) (number_chain (format_number format_a) (format_number format_b) (format_number format_c)) (number_chain (view_dim_number dim_a) (view_dim_number dim_b) (view_dim_number dim_c))

-- whether uses are of a kind
abbrev pub all_like : BindingKind → List IfaceEntry → Bool
all_like kind uses = list_all (λ (used : IfaceEntry). same_use kind used.kind) uses

-- whether they are of one kind
abbrev pub alike : List IfaceEntry → Bool
alike [] = true
alike (used ∷ uses) = all_like used.kind uses

like_chain : (a b : BindingKind) (uses : List IfaceEntry) → same_use a b ≡ true → all_like a uses ≡ all_like b uses
like_chain a b [] e = refl
like_chain a b (used ∷ uses) e = ap₂ ◌&&◌ (use_chain a b used.kind e) (like_chain a b uses e)

none_differs : (kind : BindingKind) (uses : List IfaceEntry) → all_like kind uses ≡ true → list_any (λ (b : IfaceEntry). not (same_use kind b.kind)) uses ≡ false
none_differs kind [] e = refl
none_differs kind (used ∷ uses) e = ap₂ ◌||◌ (ap not (first_of (same_use kind used.kind) (all_like kind uses) e)) (none_differs kind uses (second_of (same_use kind used.kind) (all_like kind uses) e))

none_differ : (kind : BindingKind) (uses all : List IfaceEntry) → all_like kind uses ≡ true → all_like kind all ≡ true → list_any (λ (a : IfaceEntry). list_any (λ (b : IfaceEntry). not (same_use a.kind b.kind)) all) uses ≡ false
none_differ kind [] all e f = refl
none_differ kind (used ∷ uses) all e f =
    let same : same_use kind used.kind ≡ true = first_of (same_use kind used.kind) (all_like kind uses) e in
    let here : list_any (λ (b : IfaceEntry). not (same_use used.kind b.kind)) all ≡ false = none_differs used.kind all (sym (like_chain kind used.kind all same) ∙ f) in
    ap₂ ◌||◌ here (none_differ kind uses all (second_of (same_use kind used.kind) (all_like kind uses) e) f)

pub alike_agree : (uses : List IfaceEntry) → alike uses ≡ true → differ uses ≡ false
alike_agree [] e = refl
alike_agree (used ∷ uses) e =
    let all : all_like used.kind (used ∷ uses) ≡ true = ap₂ ◌&&◌ (use_self used.kind) e in
    none_differ used.kind (used ∷ uses) (used ∷ uses) all all

-- whether a use stands in front of which no other is
abbrev pub none_before : IfaceEntry → List IfaceEntry → Bool
none_before used uses = list_all (λ (later : IfaceEntry). not (use_before later used)) uses

-- what none comes before, and is of another place that is not behind it, is of none
none_at : (group binding : ℕ) (used : IfaceEntry) (uses : List IfaceEntry) → place_before group binding used.group used.binding ≡ true → none_before used uses ≡ true → uses_of group binding uses ≡ []
none_at group binding used [] before after = refl
none_at group binding used (later ∷ uses) before after = by_place (is_use_of group binding later) refl (none_at group binding used uses before (second_of (not (use_before later used)) (none_before used uses) after))
  where
    not_this : is_use_of group binding later ≡ true → not (use_before later used) ≡ true → true ≡ false
    not_this own after = grind (arith, nat_tests, own, after, before)

    by_place : (b : Bool) → is_use_of group binding later ≡ b → uses_of group binding uses ≡ [] → (if b then later ∷ uses_of group binding uses else uses_of group binding uses) ≡ []
    by_place true e rest = absurd (true≢false (not_this e (first_of (not (use_before later used)) (none_before used uses) after)))
    by_place false e rest = rest

-- One use more in front of those that are of one kind.
with_first : (group binding : ℕ) (used next : IfaceEntry) (uses : List IfaceEntry) → none_before next uses ≡ true → use_before next used ≡ false → is_clash used next ≡ false → alike (uses_of group binding (next ∷ uses)) ≡ true → alike (uses_of group binding (used ∷ next ∷ uses)) ≡ true
with_first group binding used next uses after order clash rest = by_place (is_use_of group binding used) (is_use_of group binding next) refl refl rest
  where
    same_kind : is_use_of group binding used ≡ true → is_use_of group binding next ≡ true → same_use used.kind next.kind ≡ true
    same_kind e f = grind (arith, nat_tests, e, f, clash)

    is_behind : is_use_of group binding used ≡ true → is_use_of group binding next ≡ false → place_before group binding next.group next.binding ≡ true
    is_behind e f = grind (arith, nat_tests, e, f, order)

    by_place : (b c : Bool) → is_use_of group binding used ≡ b → is_use_of group binding next ≡ c
        → alike (if c then next ∷ uses_of group binding uses else uses_of group binding uses) ≡ true
        → alike (if b then used ∷ (if c then next ∷ uses_of group binding uses else uses_of group binding uses) else (if c then next ∷ uses_of group binding uses else uses_of group binding uses)) ≡ true
    by_place true true e f rest = ap₂ ◌&&◌ (same_kind e f) (like_chain used.kind next.kind (uses_of group binding uses) (same_kind e f) ∙ rest)
    by_place true false e f rest = ap (all_like used.kind) (none_at group binding next uses (is_behind e f) after)
    by_place false c e f rest = rest

-- whether a place comes before another, if there is that
abbrev pub is_ahead : ℕ → ℕ → Option (ℕ × ℕ) → Bool
is_ahead group binding None = true
is_ahead group binding (Some place) = place_before group binding place.0 place.1

itself_not_before : (used : IfaceEntry) → not (use_before used used) ≡ true
itself_not_before used = grind (arith, nat_tests)

pub alike_ahead : (group binding : ℕ) (uses : List IfaceEntry) → in_order uses ≡ true → is_ahead group binding (first_clash uses) ≡ true → alike (uses_of group binding uses) ≡ true
alike_ahead group binding [] order ahead = refl
alike_ahead group binding (used ∷ []) order ahead = by_place (is_use_of group binding used)
  where
    by_place : (b : Bool) → alike (if b then used ∷ [] else []) ≡ true
    by_place true = refl
    by_place false = refl
alike_ahead group binding (used ∷ next ∷ uses) order ahead =
    by_clash (is_clash used next) refl ahead (alike_ahead group binding (next ∷ uses) (second_of (not (use_before next used)) (in_order (next ∷ uses)) order))
  where
    back : not (use_before next used) ≡ true → use_before next used ≡ false
    back e = grind (arith, e)

    by_clash : (b : Bool) → is_clash used next ≡ b → is_ahead group binding (if b then Some (used.group, used.binding) else first_clash (next ∷ uses)) ≡ true → (is_ahead group binding (first_clash (next ∷ uses)) ≡ true → alike (uses_of group binding (next ∷ uses)) ≡ true) → alike (uses_of group binding (used ∷ next ∷ uses)) ≡ true
    by_clash true e ahead rest = ap alike (none_at group binding used (used ∷ next ∷ uses) ahead (ap₂ ◌&&◌ (itself_not_before used) (after_first used (next ∷ uses) order)))
    by_clash false e ahead rest = with_first group binding used next uses (after_first next uses (second_of (not (use_before next used)) (in_order (next ∷ uses)) order)) (back (first_of (not (use_before next used)) (in_order (next ∷ uses)) order)) e (rest ahead)

any_more : (p q : IfaceEntry → Bool) (xs : List IfaceEntry) → ((x : IfaceEntry) → p x ≡ true → q x ≡ true) → list_any p xs ≡ true → list_any q xs ≡ true
any_more p q [] h e = e
any_more p q (x ∷ xs) h e = by_first (p x) refl e (any_more p q xs h)
  where
    by_first : (b : Bool) → p x ≡ b → (b || list_any p xs) ≡ true → (list_any p xs ≡ true → list_any q xs ≡ true) → (q x || list_any q xs) ≡ true
    by_first true f e rest = or_left (q x) (list_any q xs) (h x f)
    by_first false f e rest = or_right (q x) (list_any q xs) (rest e)

more_differ : (a : IfaceEntry) (uses : List IfaceEntry) → differ uses ≡ true → differ (a ∷ uses) ≡ true
more_differ a uses e = or_right (list_any (λ (b : IfaceEntry). not (same_use a.kind b.kind)) (a ∷ uses)) (list_any (λ (c : IfaceEntry). list_any (λ (b : IfaceEntry). not (same_use c.kind b.kind)) (a ∷ uses)) uses)
    (any_more (λ (c : IfaceEntry). list_any (λ (b : IfaceEntry). not (same_use c.kind b.kind)) uses) (λ (c : IfaceEntry). list_any (λ (b : IfaceEntry). not (same_use c.kind b.kind)) (a ∷ uses)) uses
    (λ c h. or_right (not (same_use c.kind a.kind)) (list_any (λ (b : IfaceEntry). not (same_use c.kind b.kind)) uses) h) e)

clash_here : (used next : IfaceEntry) (uses : List IfaceEntry) → is_clash used next ≡ true → differ (uses_of used.group used.binding (used ∷ next ∷ uses)) ≡ true
clash_here used next uses clash = by_place (is_use_of used.group used.binding used) (is_use_of used.group used.binding next) (grind (arith, nat_tests)) (grind (arith, nat_tests, clash))
  where
    other_kind : not (same_use used.kind next.kind) ≡ true
    other_kind = second_of (used.group == next.group && used.binding == next.binding) (not (same_use used.kind next.kind)) clash

    by_place : (b c : Bool) → b ≡ true → c ≡ true → differ (if b then used ∷ (if c then next ∷ uses_of used.group used.binding uses else uses_of used.group used.binding uses) else (if c then next ∷ uses_of used.group used.binding uses else uses_of used.group used.binding uses)) ≡ true
    by_place true true e f = or_left (list_any (λ (b : IfaceEntry). not (same_use used.kind b.kind)) (used ∷ next ∷ uses_of used.group used.binding uses)) (list_any (λ (a : IfaceEntry). list_any (λ (b : IfaceEntry). not (same_use a.kind b.kind)) (used ∷ next ∷ uses_of used.group used.binding uses)) (next ∷ uses_of used.group used.binding uses))
        (or_right (not (same_use used.kind used.kind)) (not (same_use used.kind next.kind) || list_any (λ (b : IfaceEntry). not (same_use used.kind b.kind)) (uses_of used.group used.binding uses)) (or_left (not (same_use used.kind next.kind)) (list_any (λ (b : IfaceEntry). not (same_use used.kind b.kind)) (uses_of used.group used.binding uses)) other_kind))
    by_place false c e f = absurd (true≢false (sym e))
    by_place true false e f = absurd (true≢false (sym f))

pub clash_differs : (uses : List IfaceEntry) (group binding : ℕ) → first_clash uses ≡ Some (group, binding) → differ (uses_of group binding uses) ≡ true
clash_differs [] group binding e = absurd (true≢false (sym (ap is_some e)))
clash_differs (used ∷ []) group binding e = absurd (true≢false (sym (ap is_some e)))
clash_differs (used ∷ next ∷ uses) group binding e = by_clash (is_clash used next) refl e (clash_differs (next ∷ uses) group binding)
  where
    by_place : (b : Bool) → differ (uses_of group binding (next ∷ uses)) ≡ true → differ (if b then used ∷ uses_of group binding (next ∷ uses) else uses_of group binding (next ∷ uses)) ≡ true
    by_place true e = more_differ used (uses_of group binding (next ∷ uses)) e
    by_place false e = e

    by_clash : (b : Bool) → is_clash used next ≡ b → (if b then Some (used.group, used.binding) else first_clash (next ∷ uses)) ≡ Some (group, binding) → (first_clash (next ∷ uses) ≡ Some (group, binding) → differ (uses_of group binding (next ∷ uses)) ≡ true) → differ (uses_of group binding (used ∷ next ∷ uses)) ≡ true
    by_clash true f e rest = subst (λ (p : ℕ × ℕ). differ (uses_of p.0 p.1 (used ∷ next ∷ uses)) ≡ true) (ap (λ (o : Option (ℕ × ℕ)). unwrap_or o (0, 0)) e) (clash_here used next uses f)
    by_clash false f e rest = by_place (is_use_of group binding used) (rest e)

-- No two uses of one place are of different kinds.
pub none_clash : (iface uses : List IfaceEntry) → in_order uses ≡ true → SameUses uses iface → first_clash uses ≡ None → (group binding : ℕ) → clash_at iface group binding ≡ false
none_clash iface uses order same none group binding =
    ap differ (sym (same group binding)) ∙ alike_agree (uses_of group binding uses) (alike_ahead group binding uses order (ap (is_ahead group binding) none))

-- Whether kinds agree is whether there is a clash.
all_pass : (p : IfaceEntry → Bool) (xs : List IfaceEntry) → ((x : IfaceEntry) → p x ≡ true) → list_all p xs ≡ true
all_pass p [] passes = refl
all_pass p (x ∷ xs) passes = ap₂ ◌&&◌ (passes x) (all_pass p xs passes)

pub agree_all : (iface : List IfaceEntry) → ((group binding : ℕ) → clash_at iface group binding ≡ false) → kinds_agree iface ≡ true
agree_all iface none = all_pass (λ (used : IfaceEntry). not (clash_at iface used.group used.binding)) iface (λ used. ap not (none used.group used.binding))

agree_some : (iface xs : List IfaceEntry) (group binding : ℕ) → list_all (λ (used : IfaceEntry). not (clash_at iface used.group used.binding)) xs ≡ true → (uses_of group binding xs ≡ []) ⊎ (clash_at iface group binding ≡ false)
agree_some iface [] group binding agree = inl refl
agree_some iface (used ∷ xs) group binding agree = by_place (is_use_of group binding used) refl (agree_some iface xs group binding (second_of (not (clash_at iface used.group used.binding)) (list_all (λ (used : IfaceEntry). not (clash_at iface used.group used.binding)) xs) agree))
  where
    here : used.group ≡ group → used.binding ≡ binding → clash_at iface group binding ≡ false
    here e f = let free : clash_at iface used.group used.binding ≡ false = grind (arith, first_of (not (clash_at iface used.group used.binding)) (list_all (λ (used : IfaceEntry). not (clash_at iface used.group used.binding)) xs) agree) in
        ap₂ (clash_at iface) (sym e) (sym f) ∙ free

    by_place : (b : Bool) → is_use_of group binding used ≡ b → (uses_of group binding xs ≡ []) ⊎ (clash_at iface group binding ≡ false) → ((if b then used ∷ uses_of group binding xs else uses_of group binding xs) ≡ []) ⊎ (clash_at iface group binding ≡ false)
    by_place true e rest = inr (here (grind (arith, nat_tests, e)) (grind (arith, nat_tests, e)))
    by_place false e rest = rest

pub agree_none : (iface : List IfaceEntry) → kinds_agree iface ≡ true → (group binding : ℕ) → clash_at iface group binding ≡ false
agree_none iface agree group binding = ⊎_elim (λ e. ap differ e) (λ e. e) (agree_some iface iface group binding agree)

disagreeing : (iface : List IfaceEntry) (group binding : ℕ) → clash_at iface group binding ≡ true → kinds_agree iface ≡ false
disagreeing iface group binding clash = by_kinds (kinds_agree iface) refl
  where
    by_kinds : (agree : Bool) → kinds_agree iface ≡ agree → agree ≡ false
    by_kinds true e = absurd (true≢false (sym clash ∙ agree_none iface e group binding))
    by_kinds false e = refl

pub least_clash : (iface uses : List IfaceEntry) (group binding : ℕ) → in_order uses ≡ true → SameUses uses iface → first_clash uses ≡ Some (group, binding) → IsLeastClash iface group binding
least_clash iface uses group binding order same found = record {
  disagree = disagreeing iface group binding clashes;
  clashes = clashes;
  least = λ group2 binding2 clash. by_ahead group2 binding2 clash (place_before group2 binding2 group binding) refl;
}
  where
    clashes : clash_at iface group binding ≡ true
    clashes = ap differ (sym (same group binding)) ∙ clash_differs uses group binding found

    by_ahead : (group2 binding2 : ℕ) → clash_at iface group2 binding2 ≡ true → (b : Bool) → place_before group2 binding2 group binding ≡ b → b ≡ false
    by_ahead group2 binding2 clash true e = sym clash ∙ (ap differ (sym (same group2 binding2)) ∙ alike_agree (uses_of group2 binding2 uses) (alike_ahead group2 binding2 uses order (ap (is_ahead group2 binding2) found ∙ e)))
    by_ahead group2 binding2 clash false e = refl
