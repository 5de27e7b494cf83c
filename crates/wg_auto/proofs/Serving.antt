-- The least layouts serve, and others that serve cover them.
use Rattle.std.proofs.Common.{◌≡◌, ◌*◌, ◌^◌, ◌<◌, ℕ, zero, suc, max, List, [], ◌∷◌, Option, Some, None, is_some, true, false, Bool, not, ◌==◌, ◌&&◌, ◌||◌, bit_or, bit_and, if◌then◌else◌, slice_get, refl, ap, ap₂, sym, subst, ◌∙◌, arith, true≢false, unwrap_or}
use Rattle.std.specs.List.{fold, list_all, list_any}
use Rattle.std.specs.Option.{option_map_or}
use Rattle.std.specs.Int.{bit_at}
use Rattle.std.specs.Int.Bits.{or_add_and, or_zero_r}
use Rattle.std.proofs.lemmas.Bool.Decides.{nat_tests}
use Rattle.std.proofs.lemmas.Nat.{or_comm}
use Rattle.std.proofs.lemmas.Nat.Bits.{same_from_bits, bit_at_or, bit_at-lt, and_pow}
use Rattle.wg_types.specs.Bindings.{entry_of}
use Rattle.wg_types.specs.declared.bindings.Stage.{Stage}
use Rattle.wg_types.specs.declared.bindings.Stage.TheVariants.{Vertex, Fragment, Compute}
use Rattle.wg_types.specs.declared.bindings.BindingKind.{BindingKind}
use Rattle.wg_types.specs.declared.bindings.BindingKind.TheVariants.{Buffer, Sampler, Texture, StorageTexture}
use Rattle.wg_types.specs.declared.bindings.LayoutEntry.{LayoutEntry}
use Rattle.wg_types.specs.declared.bindings.IfaceEntry.{IfaceEntry}
use Rattle.wg_types.specs.declared.groups.GroupLayoutInfo.{GroupLayoutInfo}
use Rattle.wg_model.specs.Pipelines.{stage_bit, same_use, serves, offers}
use Rattle.wg_model.specs.Buffers.{has_usage}
use Rattle.wg_model.specs.Layouts.{is_seen_by}
use Rattle.wg_model.specs.Equality.{of_binding}
use Rattle.wg_model.specs.Automatic.{uses_of, is_use_of, kinds_agree, plain, differ, entries_at}
use Rattle.wg_auto.specs.Automatic.{stages_of, entries_for, AreLeast, IsCovered, AreCovered}
use Rattle.wg_auto.proofs.Walked.{first_of, second_of}
use Rattle.wg_auto.proofs.Clashes.{agree_none}

-- Bits that a set has.
abbrev pub Has : ℕ → ℕ → Type 0
Has set bits = bit_or set bits ≡ set

max_assoc : (a b c : ℕ) → max (max a b) c ≡ max a (max b c)
max_assoc a b c = omega arith

bits_assoc : (a b c i : ℕ) → bit_at (bit_or (bit_or a b) c) i ≡ bit_at (bit_or a (bit_or b c)) i
bits_assoc a b c i = bit_at_or (bit_or a b) c i ∙ (ap (λ n. max n (bit_at c i)) (bit_at_or a b i) ∙ (max_assoc (bit_at a i) (bit_at b i) (bit_at c i) ∙ (sym (ap (max (bit_at a i)) (bit_at_or b c i)) ∙ sym (bit_at_or a (bit_or b c) i))))

bit_or_assoc : (a b c : ℕ) → bit_or (bit_or a b) c ≡ bit_or a (bit_or b c)
bit_or_assoc a b c = same_from_bits (bit_or (bit_or a b) c) (bit_or a (bit_or b c)) (bits_assoc a b c)

or_itself : (a : ℕ) → bit_or a a ≡ a
or_itself a = same_from_bits (bit_or a a) a (λ i. bit_at_or a a i ∙ omega arith)

-- a set with more bits has what it had, and these
has_more : (set bits more : ℕ) → Has set bits → Has (bit_or set more) bits
has_more set bits more has = bit_or_assoc set more bits ∙ (ap (bit_or set) (or_comm more bits) ∙ (sym (bit_or_assoc set bits more) ∙ ap (λ n. bit_or n more) has))

has_added : (set more : ℕ) → Has (bit_or set more) more
has_added set more = bit_or_assoc set more more ∙ ap (bit_or set) (or_itself more)

has_both : (set a b : ℕ) → Has set a → Has set b → Has set (bit_or a b)
has_both set a b has has2 = sym (bit_or_assoc set a b) ∙ (ap (λ n. bit_or n b) has ∙ has2)

-- a stage's bit is there where it is seen
one_or_none : (v k : ℕ) → not (bit_and v (2 ^ k) == 0) ≡ true → bit_and v (2 ^ k) ≡ 2 ^ k
one_or_none v k e = by_bit (bit_at v k) (bit_at-lt v k) (and_pow v k)
  where
    by_bit : (b : ℕ) → b < 2 → bit_and v (2 ^ k) ≡ b * 2 ^ k → bit_and v (2 ^ k) ≡ 2 ^ k
    by_bit zero lt is = let none : bit_and v (2 ^ k) ≡ 0 = is ∙ omega arith in absurd (true≢false (sym e ∙ ap (λ (n : ℕ). not (n == 0)) none))
    by_bit (suc zero) lt is = is ∙ omega arith
    by_bit (suc (suc b)) lt is = absurd (omega (arith, lt))

has_and : (set bits : ℕ) → bit_and set bits ≡ bits → Has set bits
has_and set bits e = let sum = or_add_and set bits in omega (arith, sum, e)

and_has : (set bits : ℕ) → Has set bits → bit_and set bits ≡ bits
and_has set bits has = let sum = or_add_and set bits in omega (arith, sum, has)

stage_has : (set : ℕ) (stage : Stage) → has_usage set (stage_bit stage) ≡ true → Has set (stage_bit stage)
stage_has set Vertex e = has_and set 1 (one_or_none set 0 e)
stage_has set Fragment e = has_and set 2 (one_or_none set 1 e)
stage_has set Compute e = has_and set 4 (one_or_none set 2 e)

has_stage : (set : ℕ) (stage : Stage) → Has set (stage_bit stage) → has_usage set (stage_bit stage) ≡ true
has_stage set Vertex has = ap (λ (n : ℕ). not (n == 0)) (and_has set 1 has)
has_stage set Fragment has = ap (λ (n : ℕ). not (n == 0)) (and_has set 2 has)
has_stage set Compute has = ap (λ (n : ℕ). not (n == 0)) (and_has set 4 has)

abbrev pub with_stage : ℕ → IfaceEntry → ℕ
with_stage seen used = bit_or seen (stage_bit used.stage)

fold_has : (bits set : ℕ) (uses : List IfaceEntry) → Has set bits → Has (fold with_stage set uses) bits
fold_has bits set [] has = has
fold_has bits set (used ∷ uses) has = fold_has bits (with_stage set used) uses (has_more set bits (stage_bit used.stage) has)

has_fold : (set seen : ℕ) (uses : List IfaceEntry) → Has set seen → list_all (λ (used : IfaceEntry). has_usage set (stage_bit used.stage)) uses ≡ true → Has set (fold with_stage seen uses)
has_fold set seen [] has all = has
has_fold set seen (used ∷ uses) has all =
    let here : has_usage set (stage_bit used.stage) ≡ true = first_of (has_usage set (stage_bit used.stage)) (list_all (λ (v : IfaceEntry). has_usage set (stage_bit v.stage)) uses) all in
    let rest : list_all (λ (v : IfaceEntry). has_usage set (stage_bit v.stage)) uses ≡ true = second_of (has_usage set (stage_bit used.stage)) (list_all (λ (v : IfaceEntry). has_usage set (stage_bit v.stage)) uses) all in
    has_fold set (with_stage seen used) uses (has_both set seen (stage_bit used.stage) has (stage_has set used.stage here)) rest

-- neither dynamic offsets nor least sizes count
right_plain : (a b : BindingKind) → same_use a (plain b) ≡ same_use a b
right_plain (Buffer a moves_a least_a) (Buffer b moves_b least_b) = refl
right_plain (Buffer a moves_a least_a) (Sampler b) = refl
right_plain (Buffer a moves_a least_a) (Texture b dim_b multi_b) = refl
right_plain (Buffer a moves_a least_a) (StorageTexture b format_b dim_b) = refl
right_plain (Sampler a) (Buffer b moves_b least_b) = refl
right_plain (Sampler a) (Sampler b) = refl
right_plain (Sampler a) (Texture b dim_b multi_b) = refl
right_plain (Sampler a) (StorageTexture b format_b dim_b) = refl
right_plain (Texture a dim_a multi_a) (Buffer b moves_b least_b) = refl
right_plain (Texture a dim_a multi_a) (Sampler b) = refl
right_plain (Texture a dim_a multi_a) (Texture b dim_b multi_b) = refl
right_plain (Texture a dim_a multi_a) (StorageTexture b format_b dim_b) = refl
right_plain (StorageTexture a format_a dim_a) (Buffer b moves_b least_b) = refl
right_plain (StorageTexture a format_a dim_a) (Sampler b) = refl
right_plain (StorageTexture a format_a dim_a) (Texture b dim_b multi_b) = refl
right_plain (StorageTexture a format_a dim_a) (StorageTexture b format_b dim_b) = refl

left_plain : (a b : BindingKind) → same_use (plain a) b ≡ same_use a b
left_plain (Buffer a moves_a least_a) (Buffer b moves_b least_b) = refl
left_plain (Buffer a moves_a least_a) (Sampler b) = refl
left_plain (Buffer a moves_a least_a) (Texture b dim_b multi_b) = refl
left_plain (Buffer a moves_a least_a) (StorageTexture b format_b dim_b) = refl
left_plain (Sampler a) (Buffer b moves_b least_b) = refl
left_plain (Sampler a) (Sampler b) = refl
left_plain (Sampler a) (Texture b dim_b multi_b) = refl
left_plain (Sampler a) (StorageTexture b format_b dim_b) = refl
left_plain (Texture a dim_a multi_a) (Buffer b moves_b least_b) = refl
left_plain (Texture a dim_a multi_a) (Sampler b) = refl
left_plain (Texture a dim_a multi_a) (Texture b dim_b multi_b) = refl
left_plain (Texture a dim_a multi_a) (StorageTexture b format_b dim_b) = refl
left_plain (StorageTexture a format_a dim_a) (Buffer b moves_b least_b) = refl
left_plain (StorageTexture a format_a dim_a) (Sampler b) = refl
left_plain (StorageTexture a format_a dim_a) (Texture b dim_b multi_b) = refl
left_plain (StorageTexture a format_a dim_a) (StorageTexture b format_b dim_b) = refl

all_imply : (p q : IfaceEntry → Bool) (xs : List IfaceEntry) → ((x : IfaceEntry) → p x ≡ true → q x ≡ true) → list_all p xs ≡ true → list_all q xs ≡ true
all_imply p q [] h e = refl
all_imply p q (x ∷ xs) h e = ap₂ ◌&&◌ (h x (first_of (p x) (list_all p xs) e)) (all_imply p q xs h (second_of (p x) (list_all p xs) e))

-- what is offered, by the entries of a group
offers_at : (others : List GroupLayoutInfo) (used : IfaceEntry) → offers others used ≡ option_map_or (serves used) (entry_of (entries_at others used.group) used.binding) false
offers_at others used = by_layout (slice_get others used.group)
  where
    by_layout : (o : Option GroupLayoutInfo) → option_map_or (λ (layout : GroupLayoutInfo). option_map_or (serves used) (entry_of layout.entries used.binding) false) o false ≡ option_map_or (serves used) (entry_of (option_map_or (λ (layout : GroupLayoutInfo). layout.entries) o []) used.binding) false
    by_layout None = refl
    by_layout (Some layout) = refl

-- whether an entry is found that serves
abbrev pub found_serves : Option LayoutEntry → IfaceEntry → Bool
found_serves found used = option_map_or (serves used) found false

own_group : (group binding : ℕ) (used : IfaceEntry) → is_use_of group binding used ≡ true → used.group ≡ group
own_group group binding used e = grind (arith, nat_tests, e)

own_binding : (group binding : ℕ) (used : IfaceEntry) → is_use_of group binding used ≡ true → used.binding ≡ binding
own_binding group binding used e = grind (arith, nat_tests, e)

uses_served : (others : List GroupLayoutInfo) (group binding : ℕ) (xs : List IfaceEntry) → list_all (offers others) xs ≡ true → list_all (found_serves (entry_of (entries_at others group) binding)) (uses_of group binding xs) ≡ true
uses_served others group binding [] e = refl
uses_served others group binding (used ∷ xs) e = by_place (is_use_of group binding used) refl (uses_served others group binding xs (second_of (offers others used) (list_all (offers others) xs) e))
  where
    found : ℕ → ℕ → Option LayoutEntry
    found g b = entry_of (entries_at others g) b

    here : is_use_of group binding used ≡ true → found_serves (found group binding) used ≡ true
    here own = sym (ap₂ (λ g b. found_serves (found g b) used) (own_group group binding used own) (own_binding group binding used own)) ∙ (sym (offers_at others used) ∙ first_of (offers others used) (list_all (offers others) xs) e)

    by_place : (b : Bool) → is_use_of group binding used ≡ b → list_all (found_serves (found group binding)) (uses_of group binding xs) ≡ true → list_all (found_serves (found group binding)) (if b then used ∷ uses_of group binding xs else uses_of group binding xs) ≡ true
    by_place true own rest = ap₂ ◌&&◌ (here own) rest
    by_place false own rest = rest

-- the first of some entries
abbrev pub first_entry : List LayoutEntry → Option LayoutEntry
first_entry [] = None
first_entry (entry ∷ entries) = Some entry

entry_first : (binding : ℕ) (entries : List LayoutEntry) → entry_of entries binding ≡ first_entry (of_binding binding entries)
entry_first binding [] = refl
entry_first binding (entry ∷ entries) = by_binding (entry.binding == binding) (entry_first binding entries)
  where
    by_binding : (b : Bool) → entry_of entries binding ≡ first_entry (of_binding binding entries) → (if b then Some entry else entry_of entries binding) ≡ first_entry (if b then entry ∷ of_binding binding entries else of_binding binding entries)
    by_binding true rest = refl
    by_binding false rest = rest

covering : (others : List GroupLayoutInfo) (group binding : ℕ) (uses : List IfaceEntry) (entry : LayoutEntry) → list_all (found_serves (entry_of (entries_at others group) binding)) uses ≡ true → first_entry (entries_for binding uses) ≡ Some entry → IsCovered others group binding entry
covering others group binding [] entry served e = absurd (true≢false (sym (ap is_some e)))
covering others group binding (used ∷ uses) entry served e = by_found (entry_of (entries_at others group) binding) refl served
  where
    least : LayoutEntry
    least = record { binding = binding; visibility = stages_of (used ∷ uses); kind = plain used.kind }

    covers : (o : Option LayoutEntry) → entry_of (entries_at others group) binding ≡ o → list_all (found_serves o) (used ∷ uses) ≡ true → IsCovered others group binding least
    covers None there served = absurd (true≢false (sym served))
    covers (Some other) there served =
        let here : serves used other ≡ true = first_of (serves used other) (list_all (found_serves (Some other)) uses) served in
        record {
          other = other;
          there = there;
          kind = right_plain other.kind used.kind ∙ second_of (is_seen_by (stage_bit used.stage) other) (same_use other.kind used.kind) here;
          stages = has_fold other.visibility 0 (used ∷ uses) (or_zero_r other.visibility) (all_imply (found_serves (Some other)) (λ (v : IfaceEntry). has_usage other.visibility (stage_bit v.stage)) (used ∷ uses) (λ v h. first_of (is_seen_by (stage_bit v.stage) other) (same_use other.kind v.kind) h) served);
        }

    by_found : (o : Option LayoutEntry) → entry_of (entries_at others group) binding ≡ o → list_all (found_serves o) (used ∷ uses) ≡ true → IsCovered others group binding entry
    by_found o there served = subst (IsCovered others group binding) (ap (λ (o : Option LayoutEntry). unwrap_or o least) e) (covers o there served)

pub least_covered : (iface : List IfaceEntry) (layouts others : List GroupLayoutInfo) → AreLeast iface layouts → list_all (offers others) iface ≡ true → AreCovered others layouts
least_covered iface layouts others least offered group binding entry there =
    covering others group binding (uses_of group binding iface) entry (uses_served others group binding iface offered)
    (sym (ap first_entry (least.entries group binding)) ∙ (sym (entry_first binding (entries_at layouts group)) ∙ there))

all_seen : (set : ℕ) (uses : List IfaceEntry) → list_all (λ (v : IfaceEntry). has_usage (fold with_stage set uses) (stage_bit v.stage)) uses ≡ true
all_seen set [] = refl
all_seen set (used ∷ uses) = ap₂ ◌&&◌ (has_stage (fold with_stage (with_stage set used) uses) used.stage (fold_has (stage_bit used.stage) (with_stage set used) uses (has_added set (stage_bit used.stage)))) (all_seen (with_stage set used) uses)

none_other : (kind : BindingKind) (uses : List IfaceEntry) → list_any (λ (b : IfaceEntry). not (same_use kind b.kind)) uses ≡ false → list_all (λ (v : IfaceEntry). same_use kind v.kind) uses ≡ true
none_other kind [] e = refl
none_other kind (used ∷ uses) e = by_kind (same_use kind used.kind) e (none_other kind uses)
  where
    by_kind : (b : Bool) → (not b || list_any (λ (b : IfaceEntry). not (same_use kind b.kind)) uses) ≡ false → (list_any (λ (b : IfaceEntry). not (same_use kind b.kind)) uses ≡ false → list_all (λ (v : IfaceEntry). same_use kind v.kind) uses ≡ true) → (b && list_all (λ (v : IfaceEntry). same_use kind v.kind) uses) ≡ true
    by_kind true e rest = rest e
    by_kind false e rest = absurd (true≢false e)

first_false : (x y : Bool) → (x || y) ≡ false → x ≡ false
first_false true y e = absurd (true≢false e)
first_false false y e = refl

all_both : (p q : IfaceEntry → Bool) (xs : List IfaceEntry) → list_all p xs ≡ true → list_all q xs ≡ true → list_all (λ (x : IfaceEntry). p x && q x) xs ≡ true
all_both p q [] e f = refl
all_both p q (x ∷ xs) e f = ap₂ ◌&&◌ (ap₂ ◌&&◌ (first_of (p x) (list_all p xs) e) (first_of (q x) (list_all q xs) f)) (all_both p q xs (second_of (p x) (list_all p xs) e) (second_of (q x) (list_all q xs) f))

served_here : (binding : ℕ) (uses : List IfaceEntry) → differ uses ≡ false → list_all (found_serves (first_entry (entries_for binding uses))) uses ≡ true
served_here binding [] e = refl
served_here binding (used ∷ uses) e = all_both (λ (v : IfaceEntry). has_usage (stages_of (used ∷ uses)) (stage_bit v.stage)) (λ (v : IfaceEntry). same_use (plain used.kind) v.kind) (used ∷ uses) (all_seen 0 (used ∷ uses))
    (all_imply (λ (v : IfaceEntry). same_use used.kind v.kind) (λ (v : IfaceEntry). same_use (plain used.kind) v.kind) (used ∷ uses) (λ v h. left_plain used.kind v.kind ∙ h)
    (none_other used.kind (used ∷ uses) (first_false (list_any (λ (b : IfaceEntry). not (same_use used.kind b.kind)) (used ∷ uses)) (list_any (λ (a : IfaceEntry). list_any (λ (b : IfaceEntry). not (same_use a.kind b.kind)) (used ∷ uses)) uses) e)))

-- what holds of the uses of each place holds of all
each_place : (q : ℕ → ℕ → IfaceEntry → Bool) (xs : List IfaceEntry) → ((group binding : ℕ) → list_all (q group binding) (uses_of group binding xs) ≡ true) → list_all (λ (used : IfaceEntry). q used.group used.binding used) xs ≡ true
each_place q [] h = refl
each_place q (used ∷ xs) h = ap₂ ◌&&◌ (own (is_use_of used.group used.binding used) (grind (arith, nat_tests)) (h used.group used.binding)) (each_place q xs (λ group binding. rest group binding (is_use_of group binding used) (h group binding)))
  where
    own : (b : Bool) → b ≡ true → list_all (q used.group used.binding) (if b then used ∷ uses_of used.group used.binding xs else uses_of used.group used.binding xs) ≡ true → q used.group used.binding used ≡ true
    own true e h = first_of (q used.group used.binding used) (list_all (q used.group used.binding) (uses_of used.group used.binding xs)) h
    own false e h = absurd (true≢false (sym e))

    rest : (group binding : ℕ) (b : Bool) → list_all (q group binding) (if b then used ∷ uses_of group binding xs else uses_of group binding xs) ≡ true → list_all (q group binding) (uses_of group binding xs) ≡ true
    rest group binding true h = second_of (q group binding used) (list_all (q group binding) (uses_of group binding xs)) h
    rest group binding false h = h

pub least_serve : (iface : List IfaceEntry) (layouts : List GroupLayoutInfo) → kinds_agree iface ≡ true → AreLeast iface layouts → list_all (offers layouts) iface ≡ true
least_serve iface layouts agree least =
    all_imply (λ (used : IfaceEntry). found_serves (entry_of (entries_at layouts used.group) used.binding) used) (offers layouts) iface (λ used h. offers_at layouts used ∙ h)
    (each_place (λ group binding. found_serves (entry_of (entries_at layouts group) binding)) iface (λ group binding.
    ap (λ (o : Option LayoutEntry). list_all (found_serves o) (uses_of group binding iface)) (entry_first binding (entries_at layouts group) ∙ ap first_entry (least.entries group binding))
    ∙ served_here binding (uses_of group binding iface) (agree_none iface agree group binding)))
