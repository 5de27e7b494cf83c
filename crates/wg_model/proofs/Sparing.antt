-- The steps of recorded commands use only the resources that the commands name.
use Rattle.std.proofs.Common.{◌≡◌, ℕ, ◌+◌, zero, suc, Bool, true, false, ◌||◌, ◌&&◌, ◌==◌, nat_lt, min, List, [], ◌∷◌, ◌++◌, map, reverse, Option, Some, None, is_none, option_to_list, option_map, refl, ap, sym, ◌∙◌, subst, slice_index_or, if◌then◌else◌}
use Rattle.std.specs.List.{flat_map}
use Rattle.std.specs.Option.{option_map_or}
use Rattle.std.specs.List.{list_any}
use Rattle.std.proofs.lemmas.List.{reverse-append}
use Rattle.std.proofs.lemmas.List.Folds.{list_any-append}
use Rattle.wg_trace.specs.declared.steps.StepName.TheVariants as name
use Rattle.wg_types.specs.declared.commands.On.{On}
use Rattle.wg_types.specs.declared.commands.On.TheVariants.{Encoder, Pass}
use Rattle.wg_types.specs.Commands.{Command}
use Rattle.wg_types.specs.declared.commands.CommandOf.TheVariants.{BeginComputePass, BeginRenderPass, CopyBufferToBuffer, CopyBufferToTexture, CopyTextureToBuffer, CopyTextureToTexture, ClearBuffer, ResolveQuerySet, SetBindGroup, Dispatch, DispatchIndirect, SetVertexBuffer, SetIndexBuffer, DrawIndirect, DrawIndexedIndirect, BeginOcclusionQuery, ExecuteBundles}
use Rattle.wg_types.specs.declared.mappings.Mapping.{Mapping}
use Rattle.wg_types.specs.declared.textures.TextureInfo.{TextureInfo}
use Rattle.wg_types.specs.declared.textures.TextureSpot.{TextureSpot}
use Rattle.wg_rows.specs.Runs.{Aspect, Part, PartRun, Cells, Bytes, Layers, Slices, Queries, object_of, run_object}
use Rattle.wg_orders.specs.Steps.{Step, StepPlace, set_of}
use Rattle.wg_orders.specs.Laws.{Unused}
use Rattle.wg_orders.proofs.Unused.{unused_none, unused_one, unused_append}
use Rattle.wg_model.specs.Subresources.{copied_cells, has_no_texel}
use Rattle.wg_model.specs.TexelCopies.{whole_spot}
use Rattle.wg_model.specs.Commands.{texture_of}
use Rattle.wg_model.specs.Walk.{Kept, PassSoFar, open_pass, open_after, pass_after, pass_begun, begins, is_open, pass_does, does_within, does_at, doings, deeds, verdict}
use Rattle.wg_model.specs.Commands.{size_or_rest}
use Rattle.wg_model.specs.Touches.{Touch, Doing, placed, touching, step_of, target_kind, copied_to, copied_from, range_touches, unless, encoder_does}
use Rattle.wg_model.specs.Bound.{Place, known_group, entry_places, places_in, place_of, kind_touch, resource_cells, place_touches, set_places, index_places, has_entries, layouts_places, bound_touches}
use Rattle.wg_model.specs.Settings.{settings, bound_with, group_set, groups_set, layouts_set, indirect_touch}
use Rattle.wg_model.specs.Compute.{dispatch_touches, compute_does}
use Rattle.wg_model.specs.Attachments.{RenderBegin, ColorTarget, DepthTarget, attached_view, handle_cells, sliced, color_cells, attach_kind, attached, attachment_usage, resolve_touches, color_touches, depth_touch, depth_touches, targets_touches}
use Rattle.wg_model.specs.Render.{RenderSet, render_set, touches_over, command_touches, bound_group_touches, render_does, render_does_by}
use Rattle.wg_types.specs.declared.bundles.BundleInfo.{BundleInfo}
use Rattle.wg_types.specs.declared.bundles.BundleTouch.{BundleTouch}
use Rattle.wg_model.specs.Bundles.{known_bundle, bundle_touch, known_touches, executed_touches, buffer_in, texture_in, query_set_in, in_bundle}
use Rattle.wg_model.specs.Queries.{set_of_pass, query_begun_touches}
use Rattle.wg_types.specs.Render.{color_named, depth_named, targets_named}
use Rattle.wg_types.specs.Refs.{maybe_wanted, all_wanted}
use Rattle.wg_types.specs.Commands.{bracket}
use Rattle.wg_types.specs.declared.commands.Bracket.{Bracket}
use Rattle.wg_types.specs.declared.commands.Bracket.TheVariants as brackets
use Rattle.wg_types.specs.declared.wanted.Wanted.{Wanted}
use Rattle.wg_types.specs.declared.wanted.Wanted.TheVariants as wanted
use Rattle.wg_rows.specs.Uses.{Usages, AccessKind, Write}
use Rattle.wg_model.specs.Subresources.{level_runs, aspect_runs, view_runs, view_cells, run_cells}
use Rattle.wg_model.specs.Formats.{named_aspects}
use Rattle.wg_model.specs.Textures.{layer_count}
use Rattle.wg_model.specs.Recorded.{write_buffer_step, write_texture_step, host_name, host_touches, bound_buffer, bound_texture, in_group, in_view, textures_as, query_sets_as, buffers_of, textures_of, query_sets_of, numbers_by, resources, uses_resource, buffers_as}
use Rattle.wg_types.specs.Commands.{is_begin, is_end}
use Rattle.wg_types.specs.Handles.{HandleValue}
use Rattle.wg_types.specs.Bindings.{entry_of}
use Rattle.wg_types.specs.Formats.{row}
use Rattle.wg_types.specs.declared.textures.ViewInfo.{ViewInfo}
use Rattle.wg_types.specs.declared.groups.GroupInfo.{GroupInfo}
use Rattle.wg_types.specs.declared.groups.GroupLayoutInfo.{GroupLayoutInfo}
use Rattle.wg_types.specs.declared.bindings.LayoutEntry.{LayoutEntry}
use Rattle.wg_types.specs.declared.bindings.BoundEntry.{BoundEntry}
use Rattle.wg_types.specs.declared.bindings.BoundResource.{BoundResource}
use Rattle.wg_types.specs.declared.bindings.BoundResource.TheVariants.{Buffer as BoundBuffer, View as BoundView, Sampler as BoundSampler}
use Rattle.wg_types.specs.declared.bindings.BindingKind.{BindingKind}
use Rattle.wg_types.specs.declared.commands.BoundGroup.{BoundGroup}
use Rattle.wg_rows.specs.Rows.{EachRow, numbers}
use Rattle.wg_model.specs.StepLaws.{RecordedSpare}
use Rattle.wg_model.proofs.StepLaws.{each_joined, placed_deeds}
use Rattle.wg_model.proofs.Touching.{cells_object, run_cells_object, AreAway, touching_spares, copied_others, read_away, written_away, joined_away}

-- A step that uses no part of object n.
abbrev pub Spares : ℕ → Step → Type 0
Spares n s = (p : Part) → object_of p ≡ n → set_of s p ≡ None

pub write_spares : (place : StepPlace) (object offset size n : ℕ) → object == n ≡ false → Spares n (write_buffer_step place object offset size)
write_spares place object offset size n other = touching_spares place name.WriteBuffer (range_touches object offset size) n (other, tt)

pub host_spares : (place : StepPlace) (buffer : ℕ) (m : Mapping) (n : ℕ) → buffer == n ≡ false → Spares n (touching place (host_name m.mode) (host_touches buffer m))
host_spares place buffer m n other = touching_spares place (host_name m.mode) (host_touches buffer m) n (other, tt)

copied_to_away : (n object : ℕ) (info : TextureInfo) (spot : TextureSpot) (size : List ℕ) → object == n ≡ false → AreAway n (copied_to object info spot size)
copied_to_away n object info spot size other = written_away n (target_kind info spot size) (copied_cells object info spot size) (copied_others n object info spot size other)

copied_from_away : (n object : ℕ) (info : TextureInfo) (spot : TextureSpot) (size : List ℕ) → object == n ≡ false → AreAway n (copied_from object info spot size)
copied_from_away n object info spot size other = read_away n (copied_cells object info spot size) (copied_others n object info spot size other)

pub write_texture_spares : (place : StepPlace) (object : ℕ) (info : TextureInfo) (spot : TextureSpot) (size : List ℕ) (n : ℕ) → object == n ≡ false → Spares n (write_texture_step place object info spot size)
write_texture_spares place object info spot size n other = touching_spares place name.WriteTexture (copied_to object info spot size) n (copied_to_away n object info spot size other)

pub or_first : (a b : Bool) → a || b ≡ false → a ≡ false
or_first true b e = e
or_first false b e = refl

pub or_second : (a b : Bool) → a || b ≡ false → b ≡ false
or_second true b e = absurd (cc)
or_second false b e = e

-- What is done touches other objects than n.
abbrev pub IsAway : ℕ → Doing → Type 0
IsAway n doing = AreAway n doing.1

abbrev pub AllAway : ℕ → List Doing → Type 0
AllAway n done = EachRow (IsAway n) done

if_away : (b : Bool) (n : ℕ) (doing : Doing) → IsAway n doing → AllAway n (option_to_list (unless b doing))
if_away true n doing away = tt
if_away false n doing away = (away, tt)

-- The objects that a command names are others.
abbrev pub AreTwo : ℕ → ℕ → ℕ → Type 0
AreTwo n a b = (a == n ≡ false) × (b == n ≡ false)

two_others : (n a b : ℕ) → list_any (λ r. r == n) (a ∷ (b ∷ [])) ≡ false → AreTwo n a b
two_others n a b e = (or_first (a == n) ((b == n) || false) e, or_first (b == n) false (or_second (a == n) ((b == n) || false) e))

encoder_away : (command : Command) (n : ℕ) → list_any (λ r. r == n) (resources command) ≡ false → AllAway n (option_to_list (encoder_does command))
unfolding encoder_does
encoder_away (CopyBufferToBuffer source source_offset target target_offset size) n e =
    let others : AreTwo n source.reference.number target.reference.number = two_others n source.reference.number target.reference.number e in
    if_away (size == 0) n _ (others.0, (others.1, tt))
encoder_away (CopyBufferToTexture buffer layout texture spot size) n e =
    let others : AreTwo n buffer.reference.number texture.reference.number = two_others n buffer.reference.number texture.reference.number e in
    if_away (has_no_texel size) n _ (others.0, copied_to_away n texture.reference.number (texture_of texture) spot size others.1)
encoder_away (CopyTextureToBuffer buffer layout texture spot size) n e =
    let others : AreTwo n buffer.reference.number texture.reference.number = two_others n buffer.reference.number texture.reference.number e in
    if_away (has_no_texel size) n _ (others.0, copied_from_away n texture.reference.number (texture_of texture) spot size others.1)
encoder_away (CopyTextureToTexture source source_mip source_origin target target_mip target_origin size) n e =
    let from : TextureSpot = whole_spot source_mip source_origin in
    let to : TextureSpot = whole_spot target_mip target_origin in
    let others : AreTwo n source.reference.number target.reference.number = two_others n source.reference.number target.reference.number e in
    if_away (has_no_texel size) n _ (joined_away n (copied_from source.reference.number (texture_of source) from size) (copied_to target.reference.number (texture_of target) to size) (copied_from_away n source.reference.number (texture_of source) from size others.0) (copied_to_away n target.reference.number (texture_of target) to size others.1))
encoder_away (ClearBuffer buffer offset size) n e = if_away (size_or_rest buffer offset size == 0) n _ (or_first (buffer.reference.number == n) false e, tt)
encoder_away (ResolveQuerySet queries first count buffer offset) n e =
    let others : AreTwo n buffer.reference.number queries.reference.number = two_others n buffer.reference.number queries.reference.number e in
    if_away (count == 0) n _ (others.1, (others.0, tt))
encoder_away _ n e = tt

-- Views of other textures.
abbrev RunAway : ℕ → PartRun → Type 0
RunAway n run = run_object run == n ≡ false

levels_away : (n object lo hi : ℕ) (mips : List ℕ) (aspect : Aspect) → object == n ≡ false → EachRow (RunAway n) (level_runs object lo hi mips aspect)
levels_away n object lo hi [] aspect e = tt
levels_away n object lo hi (mip ∷ mips) aspect e = (e, levels_away n object lo hi mips aspect e)

aspects_away : (n object lo hi : ℕ) (mips : List ℕ) (aspects : List Aspect) → object == n ≡ false → EachRow (RunAway n) (aspect_runs object lo hi mips aspects)
aspects_away n object lo hi mips [] e = tt
aspects_away n object lo hi mips (aspect ∷ aspects) e = each_joined (RunAway n) (level_runs object lo hi mips aspect) (aspect_runs object lo hi mips aspects) (levels_away n object lo hi mips aspect e) (aspects_away n object lo hi mips aspects e)

view_away : (n : ℕ) (view : ViewInfo) → view.texture.number == n ≡ false → EachRow (RunAway n) (view_runs view)
unfolding view_runs
view_away n view e = by_layers (nat_lt view.base_layer (min (view.base_layer + view.layers) (layer_count view.texture_info)))
  where
    by_layers : (b : Bool) → EachRow (RunAway n) (if b then aspect_runs view.texture.number view.base_layer (min (view.base_layer + view.layers) (layer_count view.texture_info)) (numbers view.base_mip (min (view.base_mip + view.mips) view.texture_info.mips)) (named_aspects view.aspect (row view.texture_info.format).aspects) else [])
    by_layers true = aspects_away n view.texture.number view.base_layer (min (view.base_layer + view.layers) (layer_count view.texture_info)) (numbers view.base_mip (min (view.base_mip + view.mips) view.texture_info.mips)) (named_aspects view.aspect (row view.texture_info.format).aspects) e
    by_layers false = tt

-- What groups bind of other resources.
abbrev CellsAway : ℕ → List Cells → Type 0
CellsAway n cells = EachRow (λ (run : Cells). cells_object run == n ≡ false) cells

runs_away : (n : ℕ) (info : TextureInfo) (runs : List PartRun) → EachRow (RunAway n) runs → CellsAway n (map (run_cells info) runs)
runs_away n info [] each = tt
runs_away n info (run ∷ runs) each = (ap (λ o. o == n) (run_cells_object info run) ∙ each.0, runs_away n info runs each.1)

abbrev Spared : ℕ → BoundResource → Type 0
Spared n resource = list_any (λ r. r == n) (bound_buffer resource ++ bound_texture resource) ≡ false

resource_away : (n moved : ℕ) (resource : BoundResource) → Spared n resource → CellsAway n (resource_cells moved resource)
resource_away n moved (BoundBuffer buffer known offset size) e = (or_first (buffer.number == n) false e, tt)
resource_away n moved (BoundView view known) e = runs_away n known.texture_info (view_runs known) (view_away n known (or_first (known.texture.number == n) false e))
resource_away n moved (BoundSampler sampler known) e = tt

touches_away : (n : ℕ) (kind : BindingKind) (cells : List Cells) → CellsAway n cells → AreAway n (map (λ (run : Cells). (run, kind_touch kind)) cells)
touches_away n kind [] each = tt
touches_away n kind (run ∷ cells) each = (each.0, touches_away n kind cells each.1)

abbrev PlacesAway : ℕ → List Place → Type 0
PlacesAway n places = EachRow (λ (place : Place). Spared n place.resource) places

places_away : (n : ℕ) (places : List Place) → PlacesAway n places → AreAway n (flat_map place_touches places)
places_away n [] each = tt
places_away n (place ∷ places) each = joined_away n (place_touches place) (flat_map place_touches places) (touches_away n place.asked.kind (resource_cells place.moved place.resource) (resource_away n place.moved place.resource each.0)) (places_away n places each.1)

one_away : (n : ℕ) (layout : List LayoutEntry) (offsets : List ℕ) (bound : BoundEntry) (found : Option LayoutEntry) → Spared n bound.resource → PlacesAway n (option_map_or (λ (asked : LayoutEntry). place_of layout offsets asked bound.resource ∷ []) found [])
one_away n layout offsets bound None e = tt
one_away n layout offsets bound (Some asked) e = (e, tt)

abbrev AllSpared : ℕ → List BoundEntry → Type 0
AllSpared n entries = EachRow (λ (bound : BoundEntry). Spared n bound.resource) entries

entries_away : (n : ℕ) (layout : List LayoutEntry) (offsets : List ℕ) (entries : List BoundEntry) → AllSpared n entries → PlacesAway n (flat_map (entry_places layout offsets) entries)
entries_away n layout offsets [] each = tt
entries_away n layout offsets (bound ∷ entries) each = each_joined (λ (place : Place). Spared n place.resource) (entry_places layout offsets bound) (flat_map (entry_places layout offsets) entries) (one_away n layout offsets bound (entry_of layout bound.binding) each.0) (entries_away n layout offsets entries each.1)

-- each entry of a group whose resources are others
abbrev NoneOf : ℕ → (BoundResource → List ℕ) → List BoundEntry → Type 0
NoneOf n which entries = list_any (λ r. r == n) (flat_map (λ (bound : BoundEntry). which bound.resource) entries) ≡ false

both_none : (n : ℕ) (xs ys : List ℕ) → list_any (λ r. r == n) (xs ++ ys) ≡ false → (list_any (λ r. r == n) xs ≡ false) × (list_any (λ r. r == n) ys ≡ false)
both_none n xs ys e =
    let both : list_any (λ r. r == n) xs || list_any (λ r. r == n) ys ≡ false = sym (list_any-append (λ r. r == n) xs ys) ∙ e in
    (or_first (list_any (λ r. r == n) xs) (list_any (λ r. r == n) ys) both, or_second (list_any (λ r. r == n) xs) (list_any (λ r. r == n) ys) both)

none_both : (n : ℕ) (xs ys : List ℕ) → list_any (λ r. r == n) xs ≡ false → list_any (λ r. r == n) ys ≡ false → list_any (λ r. r == n) (xs ++ ys) ≡ false
none_both n xs ys a b = list_any-append (λ r. r == n) xs ys ∙ (ap (λ c. c || list_any (λ r. r == n) ys) a ∙ b)

all_spared : (n : ℕ) (entries : List BoundEntry) → NoneOf n bound_buffer entries → NoneOf n bound_texture entries → AllSpared n entries
all_spared n [] a b = tt
all_spared n (bound ∷ entries) a b =
    let buffers = both_none n (bound_buffer bound.resource) (flat_map (λ (x : BoundEntry). bound_buffer x.resource) entries) a in
    let textures = both_none n (bound_texture bound.resource) (flat_map (λ (x : BoundEntry). bound_texture x.resource) entries) b in
    (none_both n (bound_buffer bound.resource) (bound_texture bound.resource) buffers.0 textures.0, all_spared n entries buffers.1 textures.1)

abbrev SparesBound : ℕ → Option BoundGroup → Type 0
SparesBound n group = PlacesAway n (set_places group)

info_away : (n : ℕ) (known : Option GroupInfo) (offsets : List ℕ) → list_any (λ r. r == n) (in_group bound_buffer known) ≡ false → list_any (λ r. r == n) (in_group bound_texture known) ≡ false → PlacesAway n (option_map_or (λ (group : GroupInfo). places_in group offsets) known [])
info_away n None offsets a b = tt
info_away n (Some group) offsets a b = entries_away n group.layout_info.entries offsets group.entries (all_spared n group.entries a b)

-- The commands use no resource n.
abbrev SparesCommand : ℕ → Command → Type 0
SparesCommand n command = list_any (λ r. r == n) (resources command) ≡ false

abbrev AreSparing : ℕ → List Command → Type 0
AreSparing n earlier = EachRow (SparesCommand n) earlier

set_bound : (n index at : ℕ) (group : Option HandleValue) (offsets : List ℕ) (rest : Option BoundGroup) → SparesCommand n (SetBindGroup index group offsets) → SparesBound n rest → (b : Bool) → SparesBound n (if b then option_map (bound_with offsets) group else rest)
set_bound n index at None offsets rest e h true = tt
set_bound n index at (Some group) offsets rest e h true =
    let both = both_none n (in_group bound_buffer (known_group group) ++ []) ((in_group bound_texture (known_group group) ++ []) ++ []) e in
    let textures = both_none n (in_group bound_texture (known_group group) ++ []) [] both.1 in
    info_away n (known_group group) offsets (both_none n (in_group bound_buffer (known_group group)) [] both.0).0 (both_none n (in_group bound_texture (known_group group)) [] textures.0).0
set_bound n index at group offsets rest e h false = h

group_spares : (n : ℕ) (earlier : List Command) (at : ℕ) → AreSparing n earlier → SparesBound n (group_set earlier at)
group_spares n [] at each = tt
group_spares n (SetBindGroup index group offsets ∷ earlier) at each = set_bound n index at group offsets (group_set earlier at) each.0 (group_spares n earlier at each.1) (index == at)
group_spares n (ExecuteBundles bundles ∷ earlier) at each = tt
group_spares n (_ ∷ earlier) at each = group_spares n earlier at each.1

abbrev GroupsSpare : ℕ → List (Option BoundGroup) → Type 0
GroupsSpare n groups = EachRow (SparesBound n) groups

at_index : (n : ℕ) (groups : List (Option BoundGroup)) (index : ℕ) → GroupsSpare n groups → SparesBound n (slice_index_or groups index None)
at_index n [] index each = tt
at_index n (group ∷ groups) zero each = each.0
at_index n (group ∷ groups) (suc index) each = at_index n groups index each.1

index_away : (n : ℕ) (b : Bool) (group : Option BoundGroup) → SparesBound n group → PlacesAway n (if b then set_places group else [])
index_away n true group h = h
index_away n false group h = tt

layouts_away : (n : ℕ) (layouts : List GroupLayoutInfo) (groups : List (Option BoundGroup)) (index : ℕ) → GroupsSpare n groups → PlacesAway n (layouts_places layouts groups index)
layouts_away n [] groups index each = tt
layouts_away n (layout ∷ layouts) groups index each = each_joined (λ (place : Place). Spared n place.resource) (index_places layout (slice_index_or groups index None)) (layouts_places layouts groups (index + 1)) (index_away n (has_entries layout) (slice_index_or groups index None) (at_index n groups index each)) (layouts_away n layouts groups (index + 1) each)

bound_away : (n : ℕ) (layouts : List GroupLayoutInfo) (groups : List (Option BoundGroup)) → GroupsSpare n groups → AreAway n (bound_touches layouts groups)
unfolding bound_touches
bound_away n layouts groups each = places_away n (layouts_places layouts groups 0) (layouts_away n layouts groups 0 each)

dispatch_away : (n : ℕ) (earlier : List Command) → AreSparing n earlier → AreAway n (dispatch_touches (settings earlier))
dispatch_away n earlier each = bound_away n (layouts_set (settings earlier)) (groups_set earlier) (group_spares n earlier 0 each, (group_spares n earlier 1 each, (group_spares n earlier 2 each, (group_spares n earlier 3 each, tt))))

compute_away : (n : ℕ) (earlier : List Command) (command : Command) → AreSparing n earlier → SparesCommand n command → AllAway n (option_to_list (compute_does (settings earlier) command))
unfolding compute_does
compute_away n earlier (Dispatch x y z) each e = (dispatch_away n earlier each, tt)
compute_away n earlier (DispatchIndirect buffer offset) each e = (joined_away n (dispatch_touches (settings earlier)) (indirect_touch buffer offset 12 ∷ []) (dispatch_away n earlier each) (or_first (buffer.reference.number == n) false e, tt), tt)
compute_away n earlier _ each e = tt

-- Views of other textures are attached.
abbrev SparesViews : ℕ → List (HandleValue × Wanted) → Type 0
SparesViews n objects = list_any (λ r. r == n) (numbers_by textures_as objects) ≡ false

views_parted : (n : ℕ) (xs ys : List (HandleValue × Wanted)) → SparesViews n (xs ++ ys) → SparesViews n xs × SparesViews n ys
views_parted n [] ys e = (refl, e)
views_parted n (x ∷ xs) ys e =
    let both = both_none n (textures_as x.1 x.0) (numbers_by textures_as (xs ++ ys)) e in
    let rest = views_parted n xs ys both.1 in
    (none_both n (textures_as x.1 x.0) (numbers_by textures_as xs) both.0 rest.0, rest.1)

attached_away : (n : ℕ) (how : Usages × AccessKind) (cells : List Cells) → CellsAway n cells → AreAway n (map (attached how) cells)
attached_away n how [] each = tt
attached_away n how (run ∷ cells) each = (each.0, attached_away n how cells each.1)

known_away : (n : ℕ) (known : Option ViewInfo) → list_any (λ r. r == n) (in_view known) ≡ false → CellsAway n (option_map_or view_cells known [])
known_away n None e = tt
known_away n (Some view) e = runs_away n view.texture_info (view_runs view) (view_away n view (or_first (view.texture.number == n) false e))

handle_away : (n : ℕ) (view : HandleValue) → list_any (λ r. r == n) (textures_as wanted.View view) ≡ false → CellsAway n (handle_cells view)
handle_away n view e = known_away n (attached_view view) e

-- One slice is of the same texture.
sliced_object : (slice : Option ℕ) (run : Cells) → cells_object (sliced slice run) ≡ cells_object run
sliced_object None run = refl
sliced_object (Some slice) (Bytes object lo hi) = refl
sliced_object (Some slice) (Layers object aspect mip lo hi) = refl
sliced_object (Some slice) (Slices object mip lo hi) = refl
sliced_object (Some slice) (Queries object lo hi) = refl

sliced_away : (n : ℕ) (slice : Option ℕ) (cells : List Cells) → CellsAway n cells → CellsAway n (map (sliced slice) cells)
sliced_away n slice [] each = tt
sliced_away n slice (run ∷ cells) each = (ap (λ o. o == n) (sliced_object slice run) ∙ each.0, sliced_away n slice cells each.1)

resolve_away : (n : ℕ) (resolve : Option HandleValue) → SparesViews n (maybe_wanted wanted.View resolve) → AreAway n (resolve_touches resolve)
resolve_away n None e = tt
resolve_away n (Some view) e = attached_away n (attachment_usage, Write) (handle_cells view) (handle_away n view (both_none n (textures_as wanted.View view) [] e).0)

color_away : (n : ℕ) (color : Option ColorTarget) → SparesViews n (color_named color) → AreAway n (color_touches color)
color_away n None e = tt
color_away n (Some target) e =
    let both = both_none n (textures_as wanted.View target.view) (numbers_by textures_as (maybe_wanted wanted.View target.resolve)) e in
    joined_away n (map (attached (attachment_usage, attach_kind target.load target.store)) (color_cells target)) (resolve_touches target.resolve)
    (attached_away n (attachment_usage, attach_kind target.load target.store) (color_cells target) (sliced_away n target.depth_slice (handle_cells target.view) (handle_away n target.view both.0)))
    (resolve_away n target.resolve both.1)

colors_away : (n : ℕ) (colors : List (Option ColorTarget)) → SparesViews n (flat_map color_named colors) → AreAway n (flat_map color_touches colors)
colors_away n [] e = tt
colors_away n (color ∷ colors) e =
    let both = views_parted n (color_named color) (flat_map color_named colors) e in
    joined_away n (color_touches color) (flat_map color_touches colors) (color_away n color both.0) (colors_away n colors both.1)

depth_cells_away : (n : ℕ) (target : DepthTarget) (cells : List Cells) → CellsAway n cells → AreAway n (map (depth_touch target) cells)
depth_cells_away n target [] each = tt
depth_cells_away n target (run ∷ cells) each = (each.0, depth_cells_away n target cells each.1)

depth_away : (n : ℕ) (depth : Option DepthTarget) → SparesViews n (depth_named depth) → AreAway n (depth_touches depth)
depth_away n None e = tt
depth_away n (Some target) e = depth_cells_away n target (handle_cells target.view) (handle_away n target.view (both_none n (textures_as wanted.View target.view) [] e).0)

targets_away : (n : ℕ) (begin : RenderBegin) → SparesCommand n (BeginRenderPass begin) → AreAway n (targets_touches begin)
unfolding targets_touches
targets_away n begin e =
    let rest = (both_none n (buffers_of (BeginRenderPass begin)) (textures_of (BeginRenderPass begin) ++ query_sets_of (BeginRenderPass begin)) e).1 in
    let views = (both_none n (textures_of (BeginRenderPass begin)) (query_sets_of (BeginRenderPass begin)) rest).0 in
    let named = (views_parted n (targets_named begin) (maybe_wanted wanted.Queries begin.queries) views).0 in
    let both = views_parted n (flat_map color_named begin.colors) (depth_named begin.depth) named in
    joined_away n (flat_map color_touches begin.colors) (depth_touches begin.depth) (colors_away n begin.colors both.0) (depth_away n begin.depth both.1)

-- The query set of a pass is another.
abbrev SparesSet : ℕ → Option (ℕ × ℕ) → Type 0
SparesSet n None = Unit {0}
SparesSet n (Some set) = set.0 == n ≡ false

abbrev SparesSets : ℕ → List (HandleValue × Wanted) → Type 0
SparesSets n objects = list_any (λ r. r == n) (numbers_by query_sets_as objects) ≡ false

-- no object before the last is a query set
sets_last : (n : ℕ) (xs ys : List (HandleValue × Wanted)) → SparesSets n (xs ++ ys) → SparesSets n ys
sets_last n [] ys e = e
sets_last n (x ∷ xs) ys e = sets_last n xs ys (both_none n (query_sets_as x.1 x.0) (numbers_by query_sets_as (xs ++ ys)) e).1

given_away : (n : ℕ) (queries : Option HandleValue) → SparesSets n (maybe_wanted wanted.Queries queries) → SparesSet n (set_of_pass queries)
given_away n None e = tt
given_away n (Some queries) e = or_first (queries.reference.number == n) false e

set_away : (n : ℕ) (begin : RenderBegin) → SparesCommand n (BeginRenderPass begin) → SparesSet n (set_of_pass begin.queries)
set_away n begin e =
    let rest = (both_none n (buffers_of (BeginRenderPass begin)) (textures_of (BeginRenderPass begin) ++ query_sets_of (BeginRenderPass begin)) e).1 in
    let sets = (both_none n (textures_of (BeginRenderPass begin)) (query_sets_of (BeginRenderPass begin)) rest).1 in
    given_away n begin.queries (sets_last n (targets_named begin) (maybe_wanted wanted.Queries begin.queries) sets)

query_away : (n : ℕ) (queries : Option (ℕ × ℕ)) (index : ℕ) → SparesSet n queries → AreAway n (query_begun_touches queries index)
query_away n None index e = tt
query_away n (Some set) index e = (e, tt)

-- Bundles are executed that use other resources.
abbrev AllOthers : ℕ → List ℕ → Type 0
AllOthers n numbers = list_any (λ r. r == n) numbers ≡ false

cells_away : (n : ℕ) (cells : Cells) → AllOthers n (buffer_in cells) → AllOthers n (texture_in cells) → AllOthers n (query_set_in cells) → cells_object cells == n ≡ false
cells_away n (Bytes object lo hi) a b c = or_first (object == n) false a
cells_away n (Layers object aspect mip lo hi) a b c = or_first (object == n) false b
cells_away n (Slices object mip lo hi) a b c = or_first (object == n) false b
cells_away n (Queries object lo hi) a b c = or_first (object == n) false c

abbrev of_touches : (Cells → List ℕ) → List BundleTouch → List ℕ
of_touches which touches = flat_map (λ (touch : BundleTouch). which touch.cells) touches

bundle_away : (n : ℕ) (touches : List BundleTouch) → AllOthers n (of_touches buffer_in touches) → AllOthers n (of_touches texture_in touches) → AllOthers n (of_touches query_set_in touches) → AreAway n (map bundle_touch touches)
bundle_away n [] a b c = tt
bundle_away n (touch ∷ touches) a b c =
    let buffers = both_none n (buffer_in touch.cells) (of_touches buffer_in touches) a in
    let textures = both_none n (texture_in touch.cells) (of_touches texture_in touches) b in
    let sets = both_none n (query_set_in touch.cells) (of_touches query_set_in touches) c in
    (cells_away n touch.cells buffers.0 textures.0 sets.0, bundle_away n touches buffers.1 textures.1 sets.1)

bundled_away : (n : ℕ) (known : Option BundleInfo) → AllOthers n (in_bundle buffer_in known) → AllOthers n (in_bundle texture_in known) → AllOthers n (in_bundle query_set_in known) → AreAway n (known_touches known)
bundled_away n None a b c = tt
bundled_away n (Some bundle) a b c = bundle_away n bundle.touches a b c

all_away : (n : ℕ) (bundles : List HandleValue) → AllOthers n (numbers_by buffers_as (all_wanted wanted.Bundle bundles)) → AllOthers n (numbers_by textures_as (all_wanted wanted.Bundle bundles)) → AllOthers n (numbers_by query_sets_as (all_wanted wanted.Bundle bundles)) → AreAway n (executed_touches bundles)
all_away n [] a b c = tt
all_away n (bundle ∷ bundles) a b c =
    let buffers = both_none n (buffers_as wanted.Bundle bundle) (numbers_by buffers_as (all_wanted wanted.Bundle bundles)) a in
    let textures = both_none n (textures_as wanted.Bundle bundle) (numbers_by textures_as (all_wanted wanted.Bundle bundles)) b in
    let sets = both_none n (query_sets_as wanted.Bundle bundle) (numbers_by query_sets_as (all_wanted wanted.Bundle bundles)) c in
    joined_away n (known_touches (known_bundle bundle)) (executed_touches bundles) (bundled_away n (known_bundle bundle) buffers.0 textures.0 sets.0) (all_away n bundles buffers.1 textures.1 sets.1)

executed_away : (n : ℕ) (bundles : List HandleValue) → SparesCommand n (ExecuteBundles bundles) → AreAway n (executed_touches bundles)
executed_away n bundles e =
    let first = both_none n (buffers_of (ExecuteBundles bundles)) (textures_of (ExecuteBundles bundles) ++ query_sets_of (ExecuteBundles bundles)) e in
    let rest = both_none n (textures_of (ExecuteBundles bundles)) (query_sets_of (ExecuteBundles bundles)) first.1 in
    all_away n bundles first.0 rest.0 rest.1

-- What commands of a render pass touch.
command_away : (n : ℕ) (queries : Option (ℕ × ℕ)) (command : Command) → SparesSet n queries → SparesCommand n command → AreAway n (command_touches queries command)
command_away n queries (SetBindGroup index group offsets) q e =
    joined_away n (bound_group_touches (Some (index, option_map (bound_with offsets) group))) []
    (places_away n (set_places (option_map (bound_with offsets) group)) (set_bound n index index group offsets None e tt true)) tt
command_away n queries (SetVertexBuffer slot None offset size) q e = tt
command_away n queries (SetVertexBuffer slot (Some buffer) offset size) q e = (or_first (buffer.reference.number == n) false e, tt)
command_away n queries (SetIndexBuffer buffer format offset size) q e = (or_first (buffer.reference.number == n) false e, tt)
command_away n queries (DrawIndirect buffer offset) q e = (or_first (buffer.reference.number == n) false e, tt)
command_away n queries (DrawIndexedIndirect buffer offset) q e = (or_first (buffer.reference.number == n) false e, tt)
command_away n queries (BeginOcclusionQuery index) q e = query_away n queries index q
command_away n queries (ExecuteBundles bundles) q e = joined_away n (executed_touches bundles) [] (executed_away n bundles e) tt
command_away n queries _ q e = tt

over_away : (n : ℕ) (queries : Option (ℕ × ℕ)) (first : List Touch) (earlier : List Command) → SparesSet n queries → AreAway n first → AreSparing n earlier → AreAway n (touches_over queries first earlier)
over_away n queries first [] q away each = away
over_away n queries first (command ∷ earlier) q away each = joined_away n (touches_over queries first earlier) (command_touches queries command) (over_away n queries first earlier q away each.1) (command_away n queries command q each.0)

render_away : (n : ℕ) (begin : RenderBegin) (earlier : List Command) → SparesCommand n (BeginRenderPass begin) → AreSparing n earlier → AreAway n (render_set begin earlier).touches
render_away n begin earlier b each = over_away n (set_of_pass begin.queries) (targets_touches begin) earlier (set_away n begin b) (targets_away n begin b) each

end_away : (n : ℕ) (render : RenderSet) (b : Bracket) → AreAway n render.touches → AllAway n (option_to_list (render_does_by render b))
end_away n render brackets.EndPass away = (away, tt)
end_away n render _ away = tt

render_does_away : (n : ℕ) (begin : RenderBegin) (earlier : List Command) (command : Command) → SparesCommand n (BeginRenderPass begin) → AreSparing n earlier → AllAway n (option_to_list (render_does (render_set begin earlier) command))
unfolding render_does
render_does_away n begin earlier command b each = end_away n (render_set begin earlier) (bracket command) (render_away n begin earlier b each)

pass_away : (n : ℕ) (begin : Command) (earlier : List Command) (command : Command) → SparesCommand n begin → AreSparing n earlier → SparesCommand n command → AllAway n (option_to_list (pass_does begin earlier command))
pass_away n BeginComputePass earlier command b each e = compute_away n earlier command each e
pass_away n (BeginRenderPass begin) earlier command b each e = render_does_away n begin earlier command b each
pass_away n _ earlier command b each e = tt

-- The open pass has only such commands where the kept ones are such.
abbrev OpenSpares : ℕ → Option PassSoFar → Type 0
OpenSpares n None = Unit {0}
OpenSpares n (Some pass) = SparesCommand n pass.begin × AreSparing n pass.earlier

after_spares : (n : ℕ) (opened : Option PassSoFar) (command : Command) → OpenSpares n opened → SparesCommand n command → OpenSpares n (pass_after opened command)
after_spares n None command h e = tt
after_spares n (Some pass) command h e = by_end (is_end command)
  where
    by_end : (b : Bool) → OpenSpares n (if b then None else Some (record pass { earlier = command ∷ pass.earlier }))
    by_end true = tt
    by_end false = (h.0, (e, h.1))

begun_spares : (n : ℕ) (opened : Option PassSoFar) (number : ℕ) (command : Command) → OpenSpares n opened → SparesCommand n command → OpenSpares n (pass_begun opened number command)
begun_spares n (Some pass) number command h e = h
begun_spares n None number command h e = by_begin (is_begin command)
  where
    by_begin : (b : Bool) → OpenSpares n (if b then Some (record { number = number; begin = command; earlier = [] }) else None)
    by_begin true = (e, tt)
    by_begin false = tt

one_spares : (n : ℕ) (opened : Option PassSoFar) (number : ℕ) (on : On) (command : Command) → OpenSpares n opened → SparesCommand n command → OpenSpares n (open_after opened number on command)
one_spares n opened number Encoder command h e = begun_spares n opened number command h e
one_spares n opened number (Pass pass) command h e = by_open (is_open opened pass)
  where
    by_open : (b : Bool) → OpenSpares n (if b then pass_after opened command else opened)
    by_open true = after_spares n opened command h e
    by_open false = h

open_spares : (n : ℕ) (kept : Kept) → uses_resource kept n ≡ false → OpenSpares n (open_pass kept)
open_spares n [] e = tt
open_spares n (kept ∷ older) e = one_spares n (open_pass older) (begins older) kept.0 kept.1 (open_spares n older (or_second (list_any (λ r. r == n) (resources kept.1)) (uses_resource older n) e)) (or_first (list_any (λ r. r == n) (resources kept.1)) (uses_resource older n) e)

within_away : (n : ℕ) (opened : Option PassSoFar) (command : Command) → OpenSpares n opened → SparesCommand n command → AllAway n (option_to_list (does_within opened command))
within_away n None command h e = tt
within_away n (Some pass) command h e = pass_away n pass.begin pass.earlier command h.0 h.1 e

at_away : (n : ℕ) (opened : Option PassSoFar) (on : On) (command : Command) → OpenSpares n opened → SparesCommand n command → AllAway n (option_to_list (does_at opened on command))
at_away n opened Encoder command h e = encoder_away command n e
at_away n opened (Pass pass) command h e = by_open (is_open opened pass)
  where
    by_open : (b : Bool) → AllAway n (option_to_list (if b then does_within opened command else None))
    by_open true = within_away n opened command h e
    by_open false = tt

doings_away : (n : ℕ) (kept : Kept) → uses_resource kept n ≡ false → AllAway n (doings kept)
doings_away n [] e = tt
doings_away n (kept ∷ older) e =
    let rest : uses_resource older n ≡ false = or_second (list_any (λ r. r == n) (resources kept.1)) (uses_resource older n) e in
    each_joined (IsAway n) (doings older) (option_to_list (does_at (open_pass older) kept.0 kept.1)) (doings_away n older rest) (at_away n (open_pass older) kept.0 kept.1 (open_spares n older rest) (or_first (list_any (λ r. r == n) (resources kept.1)) (uses_resource older n) e))

steps_unused : (place : StepPlace) (n : ℕ) (done : List Doing) → AllAway n done → Unused n (map (step_of place) done)
steps_unused place n [] away = unused_none n
steps_unused place n (doing ∷ done) away = unused_append n (step_of place doing ∷ []) (map (step_of place) done) (unused_one n (step_of place doing) (touching_spares place doing.0 doing.1 n away.0)) (steps_unused place n done away.1)

-- A test on a list and on its reverse.
or_swap : (a b : Bool) → b || (a || false) ≡ a || b
or_swap true true = refl
or_swap true false = refl
or_swap false true = refl
or_swap false false = refl

pub any_reversed : {X : Type 0} (test : X → Bool) (xs : List X) → list_any test (reverse xs) ≡ list_any test xs
any_reversed test [] = refl
any_reversed test (x ∷ xs) = ap (list_any test) (reverse-append (x ∷ []) xs) ∙ (list_any-append test (reverse xs) (x ∷ []) ∙ (ap (λ b. b || (test x || false)) (any_reversed test xs) ∙ or_swap (test x) (list_any test xs)))

pub recorded_spare : RecordedSpare
recorded_spare place maker (Some targets) commands n e = unused_none n
recorded_spare place maker None commands n e = by_rules (is_none (verdict maker (reverse commands)) && is_none (open_pass (reverse commands)))
  where
    by_rules : (b : Bool) → Unused n (map (placed place) (if b then deeds (reverse commands) else []))
    by_rules true = subst (λ steps. Unused n steps) (sym (placed_deeds place (doings (reverse commands)))) (steps_unused place n (doings (reverse commands)) (doings_away n (reverse commands) (any_reversed (λ kept. list_any (λ r. r == n) (resources kept.1)) commands ∙ e)))
    by_rules false = unused_none n
