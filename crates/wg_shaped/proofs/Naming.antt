-- A bundle touches the resources that its commands name.
use Rattle.std.proofs.Common.{◌≡◌, ℕ, ◌+◌, ◌==◌, Bool, true, false, ◌&&◌, ◌||◌, List, [], ◌∷◌, ◌++◌, map, reverse, Option, Some, None, is_some, refl, ap, ap₂, sym, subst, ◌∙◌, ◌⊎◌, inl, inr, true≢false, append-nil, append_assoc, eqb-true, eq-eqb}
use Rattle.std.specs.List.{list_any, flat_map}
use Rattle.std.specs.Option.{option_map_or}
use Rattle.std.proofs.lemmas.Bool.{and_parts, and_from, or_cases, or_left, or_right}
use Rattle.std.proofs.lemmas.List.Folds.{list_any-append}
use Rattle.wg_types.specs.declared.limits.Maker.{Maker}
use Rattle.wg_types.specs.Bindings.{entry_of}
use Rattle.wg_types.specs.Handles.{HandleValue}
use Rattle.wg_types.specs.Commands.{Command, fits}
use Rattle.wg_types.specs.declared.commands.CommandPlace.TheVariants.{Bundle}
use Rattle.wg_types.specs.declared.commands.CommandOf.TheVariants.{PushDebugGroup, PopDebugGroup, InsertDebugMarker, SetPipeline, SetBindGroup, SetVertexBuffer, SetIndexBuffer, Draw, DrawIndexed, DrawIndirect, DrawIndexedIndirect}
use Rattle.wg_types.specs.declared.commands.On.{On}
use Rattle.wg_types.specs.declared.wanted.Wanted.TheVariants as wanted
use Rattle.wg_types.specs.declared.bindings.BoundEntry.{BoundEntry}
use Rattle.wg_types.specs.declared.bindings.BoundResource.{BoundResource}
use Rattle.wg_types.specs.declared.bindings.BoundResource.TheVariants.{Buffer as BoundBuffer, View as BoundView, Sampler as BoundSampler}
use Rattle.wg_types.specs.declared.bindings.LayoutEntry.{LayoutEntry}
use Rattle.wg_types.specs.declared.bundles.BundleTouch.{BundleTouch}
use Rattle.wg_types.specs.declared.groups.GroupInfo.{GroupInfo}
use Rattle.wg_types.specs.declared.render.TargetInfo.{TargetInfo}
use Rattle.wg_types.specs.declared.textures.ViewInfo.{ViewInfo}
use Rattle.wg_rows.specs.Rows.{EachRow, in_range, list_eq}
use Rattle.wg_rows.specs.Runs.{Part, Buffer, Subresource, QuerySet, Color, aspect_number, Cells, Bytes, Layers, Slices, Queries, BufferPart, run_part, covers_part}
use Rattle.wg_rows.specs.Uses.{Usages, AccessKind, Read}
use Rattle.wg_rows.proofs.Put.{list_eq_true}
use Rattle.wg_rows.proofs.Runs.{tags_differ, part_self, single_part}
use Rattle.wg_model.specs.Subresources.{view_cells}
use Rattle.wg_model.specs.Commands.{size_or_rest}
use Rattle.wg_model.specs.Touches.{Touch, use_of, input_usage}
use Rattle.wg_model.specs.Bound.{Place, known_group, place_of, entry_places, places_in, resource_cells, place_touches, kind_touch}
use Rattle.wg_model.specs.Bundles.{bundle_touch, in_bundle}
use Rattle.wg_model.specs.Settings.{bound_with}
use Rattle.wg_model.specs.Render.{bundle_set, command_touches, bound_group_touches, touches_over}
use Rattle.wg_model.specs.Walk.{Verdict, bundled, bundle_of, recorded_touches}
use Rattle.wg_model.specs.Recorded.{in_group, any_named}
use Rattle.wg_model.proofs.Sparing.{any_reversed}
use Rattle.wg_subres.specs.Has.{view_has, is_covered}
use Rattle.wg_subres.proofs.Lying.{runs_of_view}
use Rattle.wg_subres.proofs.Covered.{views_cover}
use Rattle.wg_history.proofs.BundleTouches.{Word, buffer_word, texture_word, query_word, numbers_in, reached_by, bound_by, reached_of, bundle_uses}
use Rattle.wg_shaped.specs.Bundled.{part_is_used, AreAlike, MayStand, IsWholeResource, IsWholeEntry, IsWholeGroup, IsWholeCommand, BundlesTouchWhatTheyName}
use Rattle.wg_shaped.proofs.Known.{same_test, all_and, used_is, used_joined}
use Rattle.wg_shaped.proofs.Standing.{each_back, each_second, all_fit, bundles_are_known}

-- the resource of a part, if it is of a sort
abbrev numbers_at : Word → Part → List ℕ
numbers_at buffer_word (Buffer object) = object ∷ []
numbers_at texture_word (Subresource object aspect mip layer) = object ∷ []
numbers_at query_word (QuerySet object) = object ∷ []
numbers_at _ _ = []

-- Cells are of the resource of each part in which they lie.
numbers_bytes : (word : Word) (object lo hi : ℕ) → numbers_at word (Buffer object) ≡ numbers_in word (Bytes object lo hi)
numbers_bytes buffer_word object lo hi = refl
numbers_bytes texture_word object lo hi = refl
numbers_bytes query_word object lo hi = refl

numbers_slices : (word : Word) (object mip lo hi : ℕ) → numbers_at word (Subresource object Color mip 0) ≡ numbers_in word (Slices object mip lo hi)
numbers_slices buffer_word object mip lo hi = refl
numbers_slices texture_word object mip lo hi = refl
numbers_slices query_word object mip lo hi = refl

numbers_queries : (word : Word) (object lo hi : ℕ) → numbers_at word (QuerySet object) ≡ numbers_in word (Queries object lo hi)
numbers_queries buffer_word object lo hi = refl
numbers_queries texture_word object lo hi = refl
numbers_queries query_word object lo hi = refl

numbers_lie : (word : Word) (run : Cells) (p : Part) → covers_part (run_part run) p ≡ true → numbers_at word p ≡ numbers_in word run
unfolding covers_part
numbers_lie word (Bytes object lo hi) p e = ap (numbers_at word) (sym (single_part (Buffer object) p e)) ∙ numbers_bytes word object lo hi
numbers_lie word (Slices object mip lo hi) p e = ap (numbers_at word) (sym (single_part (Subresource object Color mip 0) p e)) ∙ numbers_slices word object mip lo hi
numbers_lie word (Queries object lo hi) p e = ap (numbers_at word) (sym (single_part (QuerySet object) p e)) ∙ numbers_queries word object lo hi
numbers_lie word (Layers object aspect mip lo hi) (Buffer o) e = absurd (tags_differ _ _ e)
numbers_lie word (Layers object aspect mip lo hi) (QuerySet o) e = absurd (tags_differ _ _ e)
numbers_lie word (Layers object aspect mip lo hi) (Subresource o a m layer) e = by_word word
  where
    line : object ∷ (2 ∷ (aspect_number aspect ∷ (mip ∷ []))) ≡ o ∷ (2 ∷ (aspect_number a ∷ (m ∷ [])))
    line = list_eq_true (object ∷ (2 ∷ (aspect_number aspect ∷ (mip ∷ [])))) (o ∷ (2 ∷ (aspect_number a ∷ (m ∷ [])))) (and_parts (list_eq (object ∷ (2 ∷ (aspect_number aspect ∷ (mip ∷ [])))) (o ∷ (2 ∷ (aspect_number a ∷ (m ∷ []))))) (in_range lo hi layer) e).0

    same : object ≡ o
    same = let equal = line in cc

    by_word : (word : Word) → numbers_at word (Subresource o a m layer) ≡ numbers_in word (Layers object aspect mip lo hi)
    by_word buffer_word = refl
    by_word texture_word = ap (λ n. n ∷ []) (sym same)
    by_word query_word = refl

-- So touches of a part of a resource that passes a test are known to be of one that does.
known_numbers : (word : Word) (test : ℕ → Bool) (p : Part) (known : List BundleTouch) → list_any test (numbers_at word p) ≡ true → part_is_used p (map bundle_touch known) ≡ true → list_any test (flat_map (λ (touch : BundleTouch). numbers_in word touch.cells) known) ≡ true
known_numbers word test p [] own e = absurd (true≢false (sym e))
known_numbers word test p (touch ∷ known) own e =
    list_any-append test (numbers_in word touch.cells) (flat_map (λ (touch : BundleTouch). numbers_in word touch.cells) known)
    ∙ by_cases (or_cases (covers_part (run_part touch.cells) p && true) (part_is_used p (map bundle_touch known)) e) (λ later. known_numbers word test p known own later)
  where
    by_cases : (covers_part (run_part touch.cells) p && true ≡ true) ⊎ (part_is_used p (map bundle_touch known) ≡ true)
        → (part_is_used p (map bundle_touch known) ≡ true → list_any test (flat_map (λ (touch : BundleTouch). numbers_in word touch.cells) known) ≡ true)
        → list_any test (numbers_in word touch.cells) || list_any test (flat_map (λ (touch : BundleTouch). numbers_in word touch.cells) known) ≡ true
    by_cases (inl here) rest = or_left (list_any test (numbers_in word touch.cells)) _ (sym (ap (list_any test) (numbers_lie word touch.cells p (and_parts (covers_part (run_part touch.cells) p) true here).0)) ∙ own)
    by_cases (inr later) rest = or_right (list_any test (numbers_in word touch.cells)) _ (rest later)

-- Touches use a part of a resource that passes a test.
pub record Uses (word : Word) (test : ℕ → Bool) (touches : List Touch) : Type 0 where
  pub part : Part
  pub own : list_any test (numbers_at word part) ≡ true
  pub used : part_is_used part touches ≡ true

uses_left : (word : Word) (test : ℕ → Bool) (xs ys : List Touch) → Uses word test xs → Uses word test (xs ++ ys)
uses_left word test xs ys uses = record { part = uses.part; own = uses.own; used = used_joined uses.part xs ys ∙ or_left (part_is_used uses.part xs) (part_is_used uses.part ys) uses.used }

uses_right : (word : Word) (test : ℕ → Bool) (xs ys : List Touch) → Uses word test ys → Uses word test (xs ++ ys)
uses_right word test xs ys uses = record { part = uses.part; own = uses.own; used = used_joined uses.part xs ys ∙ or_right (part_is_used uses.part xs) (part_is_used uses.part ys) uses.used }

-- what is bound
buffer_used : (test : ℕ → Bool) (object lo hi : ℕ) (how : Usages × AccessKind) → list_any test (object ∷ []) ≡ true → Uses buffer_word test ((Bytes object lo hi, how) ∷ [])
buffer_used test object lo hi how e = record {
  part = Buffer object;
  own = e;
  used = or_left (covers_part (BufferPart object) (Buffer object) && true) false (and_from (covers_part (BufferPart object) (Buffer object)) true (part_self (Buffer object)) refl);
}

cells_cover : (how : Usages × AccessKind) (p : Part) (cells : List Cells) → part_is_used p (map (λ (run : Cells). (run, how)) cells) ≡ is_covered (map run_part cells) p
cells_cover how p [] = refl
cells_cover how p (run ∷ cells) = ap₂ ◌||◌ (all_and (covers_part (run_part run) p)) (cells_cover how p cells)

view_numbers : (test : ℕ → Bool) (view : ViewInfo) (p : Part) → view_has view p ≡ true → list_any test (view.texture.number ∷ []) ≡ true → list_any test (numbers_at texture_word p) ≡ true
view_numbers test view (Subresource object aspect mip layer) has e = ap (λ n. list_any test (n ∷ [])) (sym (eqb-true view.texture.number object (and_parts (view.texture.number == object) _ has).0)) ∙ e
view_numbers test view (Buffer object) has e = absurd (true≢false (sym has))
view_numbers test view (QuerySet object) has e = absurd (true≢false (sym has))

resource_uses : (word : Word) (test : ℕ → Bool) (how : Usages × AccessKind) (moved : ℕ) (resource : BoundResource) → IsWholeResource resource → list_any test (bound_by word resource) ≡ true → Uses word test (map (λ (run : Cells). (run, how)) (resource_cells moved resource))
resource_uses buffer_word test how moved (BoundBuffer buffer known offset size) whole e = buffer_used test buffer.number (offset + moved) (offset + moved + size) how e
resource_uses texture_word test how moved (BoundView view known) whole e = record {
  part = whole.0;
  own = view_numbers test known whole.0 whole.1 e;
  used = cells_cover how whole.0 (view_cells known) ∙ (ap (λ runs. is_covered runs whole.0) (runs_of_view known) ∙ (views_cover known whole.0 ∙ whole.1));
}
resource_uses buffer_word test how moved (BoundView view known) whole e = absurd (true≢false (sym e))
resource_uses buffer_word test how moved (BoundSampler sampler known) whole e = absurd (true≢false (sym e))
resource_uses texture_word test how moved (BoundBuffer buffer known offset size) whole e = absurd (true≢false (sym e))
resource_uses texture_word test how moved (BoundSampler sampler known) whole e = absurd (true≢false (sym e))
resource_uses query_word test how moved resource whole e = absurd (true≢false (sym e))

entry_uses : (word : Word) (test : ℕ → Bool) (layout : List LayoutEntry) (offsets : List ℕ) (entry : BoundEntry) → IsWholeEntry layout entry → list_any test (bound_by word entry.resource) ≡ true → Uses word test (flat_map place_touches (entry_places layout offsets entry))
entry_uses word test layout offsets entry whole e = by_found (entry_of layout entry.binding) whole.asked
  where
    by_found : (o : Option LayoutEntry) → is_some o ≡ true → Uses word test (flat_map place_touches (option_map_or (λ (asked : LayoutEntry). place_of layout offsets asked entry.resource ∷ []) o []))
    by_found None some = absurd (true≢false (sym some))
    by_found (Some asked) some =
        uses_left word test (place_touches (place_of layout offsets asked entry.resource)) []
        (resource_uses word test (kind_touch asked.kind) (place_of layout offsets asked entry.resource).moved entry.resource whole.whole e)

places_joined : (xs ys : List Place) → flat_map place_touches (xs ++ ys) ≡ flat_map place_touches xs ++ flat_map place_touches ys
places_joined [] ys = refl
places_joined (x ∷ xs) ys = ap (λ rest. place_touches x ++ rest) (places_joined xs ys) ∙ sym (append_assoc (place_touches x) (flat_map place_touches xs) (flat_map place_touches ys))

entries_use : (word : Word) (test : ℕ → Bool) (layout : List LayoutEntry) (offsets : List ℕ) (entries : List BoundEntry) → EachRow (IsWholeEntry layout) entries → list_any test (flat_map (λ (entry : BoundEntry). bound_by word entry.resource) entries) ≡ true → Uses word test (flat_map place_touches (flat_map (entry_places layout offsets) entries))
entries_use word test layout offsets [] each e = absurd (true≢false (sym e))
entries_use word test layout offsets (entry ∷ entries) each e =
    subst (Uses word test) (sym (places_joined (entry_places layout offsets entry) (flat_map (entry_places layout offsets) entries)))
    (by_cases (or_cases (list_any test (bound_by word entry.resource)) (list_any test (flat_map (λ (entry : BoundEntry). bound_by word entry.resource) entries)) (sym (list_any-append test (bound_by word entry.resource) (flat_map (λ (entry : BoundEntry). bound_by word entry.resource) entries)) ∙ e))
    (λ later. entries_use word test layout offsets entries each.1 later))
  where
    by_cases : (list_any test (bound_by word entry.resource) ≡ true) ⊎ (list_any test (flat_map (λ (entry : BoundEntry). bound_by word entry.resource) entries) ≡ true)
        → (list_any test (flat_map (λ (entry : BoundEntry). bound_by word entry.resource) entries) ≡ true → Uses word test (flat_map place_touches (flat_map (entry_places layout offsets) entries)))
        → Uses word test (flat_map place_touches (entry_places layout offsets entry) ++ flat_map place_touches (flat_map (entry_places layout offsets) entries))
    by_cases (inl here) rest = uses_left word test (flat_map place_touches (entry_places layout offsets entry)) (flat_map place_touches (flat_map (entry_places layout offsets) entries)) (entry_uses word test layout offsets entry each.0 here)
    by_cases (inr later) rest = uses_right word test (flat_map place_touches (entry_places layout offsets entry)) (flat_map place_touches (flat_map (entry_places layout offsets) entries)) (rest later)

info_uses : (word : Word) (test : ℕ → Bool) (known : Option GroupInfo) (offsets : List ℕ) → IsWholeGroup known → list_any test (in_group (bound_by word) known) ≡ true → Uses word test (flat_map place_touches (option_map_or (λ (group : GroupInfo). places_in group offsets) known []))
info_uses word test None offsets whole e = absurd (true≢false (sym e))
info_uses word test (Some group) offsets whole e = entries_use word test group.layout_info.entries offsets group.entries whole e

group_reached : (word : Word) (test : ℕ → Bool) (group : HandleValue) → list_any test (reached_by word wanted.Group group) ≡ true → list_any test (in_group (bound_by word) (known_group group)) ≡ true
group_reached buffer_word test group e = e
group_reached texture_word test group e = e
group_reached query_word test group e = absurd (true≢false (sym e))

-- what commands name that may stand on a bundle encoder
input_uses : (word : Word) (test : ℕ → Bool) (buffer : HandleValue) (lo hi : ℕ) → list_any test (reached_by word wanted.Buffer buffer ++ []) ≡ true → Uses word test ((Bytes buffer.reference.number lo hi, (input_usage, Read)) ∷ [])
input_uses buffer_word test buffer lo hi e = buffer_used test buffer.reference.number lo hi (input_usage, Read) e
input_uses texture_word test buffer lo hi e = absurd (true≢false (sym e))
input_uses query_word test buffer lo hi e = absurd (true≢false (sym e))

no_pipeline : (word : Word) (test : ℕ → Bool) (pipeline : HandleValue) → list_any test (reached_by word wanted.Pipeline pipeline ++ []) ≡ false
no_pipeline buffer_word test pipeline = refl
no_pipeline texture_word test pipeline = refl
no_pipeline query_word test pipeline = refl

command_uses : (word : Word) (test : ℕ → Bool) (command : Command) → fits command Bundle ≡ true → IsWholeCommand command → list_any test (reached_of (reached_by word) command) ≡ true → Uses word test (command_touches None command)
command_uses word test (SetBindGroup index None offsets) f whole e = absurd (true≢false (sym e))
command_uses word test (SetBindGroup index (Some group) offsets) f whole e =
    uses_left word test (bound_group_touches (Some (index, Some (bound_with offsets group)))) []
    (info_uses word test (known_group group) offsets whole (group_reached word test group (ap (list_any test) (sym (append-nil (reached_by word wanted.Group group))) ∙ e)))
command_uses word test (SetVertexBuffer slot None offset size) f whole e = absurd (true≢false (sym e))
command_uses word test (SetVertexBuffer slot (Some buffer) offset size) f whole e = input_uses word test buffer offset (offset + size_or_rest buffer offset size) e
command_uses word test (SetIndexBuffer buffer format offset size) f whole e = input_uses word test buffer offset (offset + size_or_rest buffer offset size) e
command_uses word test (DrawIndirect buffer offset) f whole e = input_uses word test buffer offset (offset + 16) e
command_uses word test (DrawIndexedIndirect buffer offset) f whole e = input_uses word test buffer offset (offset + 20) e
command_uses word test (SetPipeline pipeline) f whole e = absurd (true≢false (sym e ∙ no_pipeline word test pipeline))
command_uses word test PushDebugGroup f whole e = absurd (true≢false (sym e))
command_uses word test PopDebugGroup f whole e = absurd (true≢false (sym e))
command_uses word test InsertDebugMarker f whole e = absurd (true≢false (sym e))
command_uses word test (Draw vertices instances first_vertex first_instance) f whole e = absurd (true≢false (sym e))
command_uses word test (DrawIndexed indices instances first_index first_instance) f whole e = absurd (true≢false (sym e))
command_uses word test _ f whole e = absurd (true≢false (sym f))

abbrev reaches : Word → (ℕ → Bool) → Command → Bool
reaches word test command = list_any test (reached_of (reached_by word) command)

over_uses : (word : Word) (test : ℕ → Bool) (earlier : List Command) → EachRow (λ (command : Command). fits command Bundle ≡ true) earlier → EachRow IsWholeCommand earlier → list_any (reaches word test) earlier ≡ true → Uses word test (touches_over None [] earlier)
over_uses word test [] stand whole e = absurd (true≢false (sym e))
over_uses word test (command ∷ earlier) stand whole e = by_cases (or_cases (reaches word test command) (list_any (reaches word test) earlier) e) (λ later. over_uses word test earlier stand.1 whole.1 later)
  where
    by_cases : (reaches word test command ≡ true) ⊎ (list_any (reaches word test) earlier ≡ true) → (list_any (reaches word test) earlier ≡ true → Uses word test (touches_over None [] earlier)) → Uses word test (touches_over None [] earlier ++ command_touches None command)
    by_cases (inl here) rest = uses_right word test (touches_over None [] earlier) (command_touches None command) (command_uses word test command stand.0 whole.0 here)
    by_cases (inr later) rest = uses_left word test (touches_over None [] earlier) (command_touches None command) (rest later)

any_second : (test : Command → Bool) (kept : List (On × Command)) → list_any test (map (λ (one : On × Command). one.1) kept) ≡ list_any (λ one. test one.1) kept
any_second test [] = refl
any_second test (one ∷ kept) = ap (λ b. test one.1 || b) (any_second test kept)

-- So a bundle touches what its commands name,
named_touched : (word : Word) (test : ℕ → Bool) (maker : Maker) (targets : TargetInfo) (commands : List (On × Command)) → MayStand commands → EachRow (λ (kept : On × Command). IsWholeCommand kept.1) commands → Verdict maker (Some targets) commands ≡ None
    → any_named (reached_of (reached_by word)) test commands ≡ true → list_any test (in_bundle (numbers_in word) (Some (bundle_of maker (Some targets) commands))) ≡ true
named_touched word test maker targets commands stand whole none e =
    let touches : List Touch = (bundle_set targets (bundled commands)).touches in
    let known : List BundleTouch = recorded_touches maker targets (bundled commands) in
    let back : list_any (reaches word test) (bundled commands) ≡ true = any_second (reaches word test) (reverse commands) ∙ (any_reversed (λ (kept : On × Command). reaches word test kept.1) commands ∙ e) in
    let uses : Uses word test touches = over_uses word test (bundled commands) (all_fit commands stand) (each_second IsWholeCommand (reverse commands) (each_back (λ (kept : On × Command). IsWholeCommand kept.1) commands whole)) back in
    let alike : AreAlike (map bundle_touch known) touches = bundles_are_known maker targets commands stand none in
    known_numbers word test uses.part known uses.own
    (used_is uses.part (map use_of (map bundle_touch known)) ∙ (ap is_some (alike.sets uses.part) ∙ (sym (used_is uses.part (map use_of touches)) ∙ uses.used)))

-- and nothing else.
pub record Passes (test : ℕ → Bool) (numbers : List ℕ) : Type 0 where
  pub number : ℕ
  pub passes : test number ≡ true
  pub among : list_any (λ r. r == number) numbers ≡ true

some_passes : (test : ℕ → Bool) (numbers : List ℕ) → list_any test numbers ≡ true → Passes test numbers
some_passes test [] e = absurd (true≢false (sym e))
some_passes test (n ∷ numbers) e = by_cases (or_cases (test n) (list_any test numbers) e) (λ later. some_passes test numbers later)
  where
    by_cases : (test n ≡ true) ⊎ (list_any test numbers ≡ true) → (list_any test numbers ≡ true → Passes test numbers) → Passes test (n ∷ numbers)
    by_cases (inl here) rest = record { number = n; passes = here; among = or_left (n == n) (list_any (λ r. r == n) numbers) (eq-eqb n n refl) }
    by_cases (inr later) rest = let found : Passes test numbers = rest later in record { number = found.number; passes = found.passes; among = or_right (n == found.number) (list_any (λ r. r == found.number) numbers) found.among }

passes_among : (test : ℕ → Bool) (n : ℕ) (numbers : List ℕ) → test n ≡ true → list_any (λ r. r == n) numbers ≡ true → list_any test numbers ≡ true
passes_among test n [] t e = e
passes_among test n (r ∷ numbers) t e = by_cases (or_cases (r == n) (list_any (λ r. r == n) numbers) e) (λ later. passes_among test n numbers t later)
  where
    by_cases : ((r == n) ≡ true) ⊎ (list_any (λ r. r == n) numbers ≡ true) → (list_any (λ r. r == n) numbers ≡ true → list_any test numbers ≡ true) → test r || list_any test numbers ≡ true
    by_cases (inl here) rest = or_left (test r) (list_any test numbers) (ap test (eqb-true r n here) ∙ t)
    by_cases (inr later) rest = or_right (test r) (list_any test numbers) (rest later)

named_passes : (names : Command → List ℕ) (test : ℕ → Bool) (n : ℕ) (commands : List (On × Command)) → test n ≡ true → any_named names (λ r. r == n) commands ≡ true → any_named names test commands ≡ true
named_passes names test n [] t e = e
named_passes names test n (kept ∷ commands) t e = by_cases (or_cases (list_any (λ r. r == n) (names kept.1)) (any_named names (λ r. r == n) commands) e) (λ later. named_passes names test n commands t later)
  where
    by_cases : (list_any (λ r. r == n) (names kept.1) ≡ true) ⊎ (any_named names (λ r. r == n) commands ≡ true) → (any_named names (λ r. r == n) commands ≡ true → any_named names test commands ≡ true) → list_any test (names kept.1) || any_named names test commands ≡ true
    by_cases (inl here) rest = or_left (list_any test (names kept.1)) (any_named names test commands) (passes_among test n (names kept.1) t here)
    by_cases (inr later) rest = or_right (list_any test (names kept.1)) (any_named names test commands) (rest later)

touched_named : (word : Word) (test : ℕ → Bool) (maker : Maker) (targets : TargetInfo) (commands : List (On × Command)) → list_any test (in_bundle (numbers_in word) (Some (bundle_of maker (Some targets) commands))) ≡ true → any_named (reached_of (reached_by word)) test commands ≡ true
touched_named word test maker targets commands e =
    let found : Passes test (in_bundle (numbers_in word) (Some (bundle_of maker (Some targets) commands))) = some_passes test _ e in
    named_passes (reached_of (reached_by word)) test found.number commands found.passes (bundle_uses word found.number maker (Some targets) commands found.among)

word_same : (word : Word) (maker : Maker) (targets : TargetInfo) (commands : List (On × Command)) → MayStand commands → EachRow (λ (kept : On × Command). IsWholeCommand kept.1) commands → Verdict maker (Some targets) commands ≡ None
    → (test : ℕ → Bool) → list_any test (in_bundle (numbers_in word) (Some (bundle_of maker (Some targets) commands))) ≡ any_named (reached_of (reached_by word)) test commands
word_same word maker targets commands stand whole none test =
    same_test (list_any test (in_bundle (numbers_in word) (Some (bundle_of maker (Some targets) commands)))) (any_named (reached_of (reached_by word)) test commands)
    (touched_named word test maker targets commands) (named_touched word test maker targets commands stand whole none)

pub bundles_touch_what_they_name : BundlesTouchWhatTheyName
bundles_touch_what_they_name maker targets commands stand whole none = record {
  buffers = word_same buffer_word maker targets commands stand whole none;
  textures = word_same texture_word maker targets commands stand whole none;
  query_sets = word_same query_word maker targets commands stand whole none;
}
