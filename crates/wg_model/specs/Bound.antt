-- Bind groups as they are set (WebGPU, "Bind Groups" and "Programmable Passes"): what they bind where, their rules, and what
-- they touch.
use Rattle.std.specs.Prelude.{ℕ, ◌+◌, ◌%◌, ◌==◌, nat_le, nat_lt, bit_and, not, ◌&&◌, ◌||◌, Bool, true, false, List, [], ◌∷◌, ◌++◌, map, Option, Some, None, length, count_by, if◌then◌else◌, slice_index_or}
use Rattle.std.specs.List.{list_all, list_any, flat_map}
use Rattle.std.specs.Option.{option_map_or}
use Rattle.wg_rules.specs.declared.TheConstants.{GROUP_INDEX_IS_WITHIN_LIMIT, OFFSET_COUNT_FITS_LAYOUT, DYNAMIC_OFFSETS_ARE_ALIGNED, DYNAMIC_RANGES_FIT_BUFFERS, GROUPS_FIT_PIPELINE, WRITTEN_BINDINGS_ARE_APART}
use Rattle.wg_types.specs.Handles.{HandleValue}
use Rattle.wg_types.specs.Bindings.{entry_of}
use Rattle.wg_types.specs.declared.handles.Info.{Info}
use Rattle.wg_types.specs.declared.handles.Info.TheVariants as info
use Rattle.wg_types.specs.declared.groups.GroupInfo.{GroupInfo}
use Rattle.wg_types.specs.declared.groups.GroupLayoutInfo.{GroupLayoutInfo}
use Rattle.wg_types.specs.declared.bindings.LayoutEntry.{LayoutEntry}
use Rattle.wg_types.specs.declared.bindings.BoundEntry.{BoundEntry}
use Rattle.wg_types.specs.declared.bindings.BoundResource.{BoundResource}
use Rattle.wg_types.specs.declared.bindings.BoundResource.TheVariants.{Buffer as BoundBuffer, View as BoundView, Sampler as BoundSampler}
use Rattle.wg_types.specs.declared.bindings.BindingKind.{BindingKind}
use Rattle.wg_types.specs.declared.bindings.BindingKind.TheVariants.{Buffer, Sampler, Texture, StorageTexture}
use Rattle.wg_types.specs.declared.bindings.BufferBinding.{BufferBinding}
use Rattle.wg_types.specs.declared.bindings.BufferBinding.TheVariants.{Uniform, Storage, ReadOnlyStorage}
use Rattle.wg_types.specs.declared.bindings.StorageAccess.{StorageAccess}
use Rattle.wg_types.specs.declared.bindings.StorageAccess.TheVariants.{ReadOnly, WriteOnly, ReadWrite}
use Rattle.wg_types.specs.declared.commands.BoundGroup.{BoundGroup}
use Rattle.wg_rows.specs.Runs.{Cells, Bytes}
use Rattle.wg_rows.specs.Uses.{Usages, AccessKind, Read, Both}
use Rattle.wg_model.specs.Rules.{Rule}
use Rattle.wg_model.specs.Layouts.{is_dynamic, may_write}
use Rattle.wg_model.specs.Equality.{equivalent_for}
use Rattle.wg_model.specs.Subresources.{ranges_meet, views_meet, view_cells}
use Rattle.wg_model.specs.Touches.{Touch, constant_usage, storage_usage, storage_read_usage}

-- what is known of a group, if it is one
abbrev pub group_in : Info → Option GroupInfo
group_in (info.Buffer known) = None
group_in (info.Texture known) = None
group_in (info.View known) = None
group_in (info.Sampler known) = None
group_in (info.GroupLayout known) = None
group_in (info.PipelineLayout known) = None
group_in (info.Group known) = Some known
group_in (info.Compute known) = None
group_in (info.Render known) = None
group_in (info.Queries known) = None
group_in info.Encoder = None
group_in (info.BundleEncoder known) = None
group_in info.CommandBuffer = None
group_in (info.Bundle known) = None

-- what a handle knows of a group, which of an invalid one is nothing
abbrev pub known_group : HandleValue → Option GroupInfo
known_group handle = if handle.valid then group_in handle.info else None

-- the layouts of the groups of a pipeline, if it is one
abbrev pub layouts_in : Info → List GroupLayoutInfo
layouts_in (info.Buffer known) = []
layouts_in (info.Texture known) = []
layouts_in (info.View known) = []
layouts_in (info.Sampler known) = []
layouts_in (info.GroupLayout known) = []
layouts_in (info.PipelineLayout known) = []
layouts_in (info.Group known) = []
layouts_in (info.Compute known) = known.layout_info.layouts_info
layouts_in (info.Render known) = known.layout_info.layouts_info
layouts_in (info.Queries known) = []
layouts_in info.Encoder = []
layouts_in (info.BundleEncoder known) = []
layouts_in info.CommandBuffer = []
layouts_in (info.Bundle known) = []

-- whether a pipeline derived its layouts itself, if it is one
abbrev pub is_automatic : Info → Bool
is_automatic (info.Buffer known) = false
is_automatic (info.Texture known) = false
is_automatic (info.View known) = false
is_automatic (info.Sampler known) = false
is_automatic (info.GroupLayout known) = false
is_automatic (info.PipelineLayout known) = false
is_automatic (info.Group known) = false
is_automatic (info.Compute known) = known.auto
is_automatic (info.Render known) = known.auto
is_automatic (info.Queries known) = false
is_automatic info.Encoder = false
is_automatic (info.BundleEncoder known) = false
is_automatic info.CommandBuffer = false
is_automatic (info.Bundle known) = false

-- the pipeline, by its number, to which the layouts of a pipeline count as exclusive: itself, where it derived them
abbrev pub owner_of : HandleValue → Option ℕ
owner_of handle = if is_automatic handle.info then Some handle.reference.number else None

-- how many of a layout's bindings take a dynamic offset
abbrev pub dynamics : List LayoutEntry → ℕ
dynamics entries = count_by (λ (entry : LayoutEntry). is_dynamic entry.kind) entries

-- how many of a layout's dynamic bindings have lesser numbers than this: offsets are dealt out by ascending binding
abbrev pub dynamics_before : List LayoutEntry → ℕ → ℕ
dynamics_before entries binding = count_by (λ (entry : LayoutEntry). is_dynamic entry.kind && nat_lt entry.binding binding) entries

-- by how much the range of an entry is moved: by its offset, if it is dynamic
abbrev pub moved_by : List LayoutEntry → List ℕ → LayoutEntry → ℕ
moved_by layout offsets asked = if is_dynamic asked.kind then slice_index_or offsets (dynamics_before layout asked.binding) 0 else 0

-- What a group that is set binds: the entry of the layout, by how much it is moved, and the resource.
pub record Place : Type 0 where
  pub asked : LayoutEntry
  pub moved : ℕ
  pub resource : BoundResource

-- what a group binds by one entry of its layout, moved by its dynamic offset
abbrev pub place_of : List LayoutEntry → List ℕ → LayoutEntry → BoundResource → Place
place_of layout offsets asked resource = record { asked = asked; moved = moved_by layout offsets asked; resource = resource }

-- what a group binds by one of its entries, if the layout has that binding
abbrev pub entry_places : List LayoutEntry → List ℕ → BoundEntry → List Place
entry_places layout offsets bound =
    option_map_or (λ (asked : LayoutEntry). place_of layout offsets asked bound.resource ∷ []) (entry_of layout bound.binding) []

-- all that a group binds that is set with some offsets
abbrev pub places_in : GroupInfo → List ℕ → List Place
places_in group offsets = flat_map (entry_places group.layout_info.entries offsets) group.entries

-- whether the bound range, moved, fits its buffer
abbrev pub moved_range_fits : ℕ → BoundResource → Bool
moved_range_fits moved (BoundBuffer buffer known offset size) = nat_le (offset + moved + size) known.size
moved_range_fits moved (BoundView view known) = true
moved_range_fits moved (BoundSampler sampler known) = true

-- rule 328: a range that is bound ends within its buffer, where it begins at its own offset and that by which it is moved
-- together
abbrev pub place_fits : Place → Bool
place_fits place = moved_range_fits place.moved place.resource

-- how many bind groups may be set
abbrev pub most_groups : ℕ
most_groups = 4

-- of what each dynamic offset is a multiple
abbrev pub offset_alignment : ℕ
offset_alignment = 256

-- the rules of a group that is set with some offsets: 326 there is one for each dynamic entry; 327 each is a multiple of
-- `offset_alignment`; 328 each range, moved, fits its buffer
abbrev pub offset_rules : Option GroupInfo → List ℕ → List Rule
offset_rules None offsets = []
offset_rules (Some group) offsets =
    (OFFSET_COUNT_FITS_LAYOUT, length offsets == dynamics group.layout_info.entries)
    ∷ ((DYNAMIC_OFFSETS_ARE_ALIGNED, list_all (λ offset. offset % offset_alignment == 0) offsets)
    ∷ ((DYNAMIC_RANGES_FIT_BUFFERS, list_all place_fits (places_in group offsets))
    ∷ []))

-- setBindGroup of null, which unsets what is set at the index: 325 the index is one that a device has; 326 there is no offset
abbrev pub unset_rules : ℕ → List ℕ → List Rule
unset_rules index offsets = (GROUP_INDEX_IS_WITHIN_LIMIT, nat_lt index most_groups) ∷ ((OFFSET_COUNT_FITS_LAYOUT, length offsets == 0) ∷ [])

-- setBindGroup (WebGPU, "setBindGroup"): 325 the index is one that a device has; 326 there are as many offsets as dynamic
-- bindings; 327 each is a multiple of `offset_alignment`; 328 each bound range, moved by its offset, fits its buffer.
unfoldable pub set_rules : ℕ → Option GroupInfo → List ℕ → List Rule
set_rules index group offsets = (GROUP_INDEX_IS_WITHIN_LIMIT, nat_lt index most_groups) ∷ offset_rules group offsets

-- Dispatches and draws: the groups of a pipeline's layout that have an entry.
abbrev pub has_entries : GroupLayoutInfo → Bool
has_entries layout = not (length layout.entries == 0)

-- what is known of the group that is set, if one is
abbrev pub info_set : Option BoundGroup → Option GroupInfo
info_set None = None
info_set (Some bound) = known_group bound.group

-- whether a group is set with an equivalent layout, or the layout has no entry; the layout counts as exclusive to this pipeline, or
-- to none
abbrev pub layout_fits : Option ℕ → GroupLayoutInfo → Option BoundGroup → Bool
layout_fits owner layout group =
    not (has_entries layout)
    || option_map_or (λ (known : GroupInfo). equivalent_for owner layout known.layout_info) (info_set group) false

-- whether each layout of a pipeline that has an entry has an equivalent group at its index, the first of which is given
abbrev pub layouts_fit : Option ℕ → List GroupLayoutInfo → List (Option BoundGroup) → ℕ → Bool
layouts_fit owner [] groups index = true
layouts_fit owner (layout ∷ layouts) groups index = layout_fits owner layout (slice_index_or groups index None) && layouts_fit owner layouts groups (index + 1)

-- what a group that is set binds
abbrev pub set_places : Option BoundGroup → List Place
set_places None = []
set_places (Some bound) = option_map_or (λ (known : GroupInfo). places_in known bound.offsets) (known_group bound.group) []

-- what is bound at an index, where the pipeline's layout has an entry there
abbrev pub index_places : GroupLayoutInfo → Option BoundGroup → List Place
index_places layout group = if has_entries layout then set_places group else []

-- what the groups bind that are set at the indexes where the layouts have an entry; the first layout has this index
abbrev pub layouts_places : List GroupLayoutInfo → List (Option BoundGroup) → ℕ → List Place
layouts_places [] groups index = []
layouts_places (layout ∷ layouts) groups index = index_places layout (slice_index_or groups index None) ++ layouts_places layouts groups (index + 1)

-- whether two bound resources have a byte or a subresource in common, each moved
abbrev pub resources_meet : ℕ → BoundResource → ℕ → BoundResource → Bool
resources_meet moved (BoundBuffer buffer known offset size) moved2 (BoundBuffer buffer2 known2 offset2 size2) =
    buffer.number == buffer2.number && ranges_meet (offset + moved) (offset + moved + size) (offset2 + moved2) (offset2 + moved2 + size2)
resources_meet moved (BoundView view known) moved2 (BoundView view2 known2) = views_meet known known2
resources_meet moved _ moved2 _ = false

-- whether two places overlap of which shaders may write one: their visibilities have a bit in common, also one of a stage that
-- the pipeline does not run, and they have a byte of one buffer or a subresource of one texture in common
abbrev pub overlap : Place → Place → Bool
overlap a b =
    nat_lt 0 (bit_and a.asked.visibility b.asked.visibility)
    && ((may_write a.asked.kind || may_write b.asked.kind)
    && resources_meet a.moved a.resource b.moved b.resource)

-- rule 342: no two places overlap of which shaders may write one
abbrev pub are_clear : List Place → Bool
are_clear [] = true
are_clear (place ∷ places) = not (list_any (overlap place) places) && are_clear places

-- 341 each group of the pipeline's layout that has an entry is set: the set group's layout has the same entries, and is exclusive to
-- the pipeline where that derived its layouts itself, else to none; 342 no two bindings of these groups that one stage sees
-- overlap where shaders may write one of them
unfoldable pub bound_rules : Option ℕ → List GroupLayoutInfo → List (Option BoundGroup) → List Rule
bound_rules owner layouts groups =
    (GROUPS_FIT_PIPELINE, layouts_fit owner layouts groups 0)
    ∷ ((WRITTEN_BINDINGS_ARE_APART, are_clear (layouts_places layouts groups 0))
    ∷ [])

-- What is bound is used and accessed as the kind of its binding says, whatever stages see it: each cell of a bound range and
-- each cell of a view's subresources.
abbrev pub buffer_touch : BufferBinding → Usages × AccessKind
buffer_touch Uniform = (constant_usage, Read)
buffer_touch Storage = (storage_usage, Both)
buffer_touch ReadOnlyStorage = (storage_read_usage, Read)

-- how a storage texture is used and accessed, by its access
abbrev pub access_touch : StorageAccess → Usages × AccessKind
access_touch ReadOnly = (storage_read_usage, Read)
access_touch WriteOnly = (storage_usage, Both)
access_touch ReadWrite = (storage_usage, Both)

-- how what is bound is used and accessed, by its kind: a uniform buffer and a sampled texture as constant, and read; storage
-- that is only read as storage-read, and read; any other storage as storage, and both read and written; a sampler has no cell
abbrev pub kind_touch : BindingKind → Usages × AccessKind
kind_touch (Buffer binding dynamic min_size) = buffer_touch binding
kind_touch (Sampler sampler_type) = (constant_usage, Read)
kind_touch (Texture sample dim multi) = (constant_usage, Read)
kind_touch (StorageTexture access format dim) = access_touch access

-- the cells of what is bound: the range of a buffer, moved, or those of a view; a sampler has none
abbrev pub resource_cells : ℕ → BoundResource → List Cells
resource_cells moved (BoundBuffer buffer known offset size) = Bytes buffer.number (offset + moved) (offset + moved + size) ∷ []
resource_cells moved (BoundView view known) = view_cells known
resource_cells moved (BoundSampler sampler known) = []

-- what a place touches: its cells, by the kind that its entry asks for
abbrev pub place_touches : Place → List Touch
place_touches place = map (λ (cells : Cells). (cells, kind_touch place.asked.kind)) (resource_cells place.moved place.resource)

-- what the groups touch that are set at the indexes where the layouts have an entry
unfoldable pub bound_touches : List GroupLayoutInfo → List (Option BoundGroup) → List Touch
bound_touches layouts groups = flat_map place_touches (layouts_places layouts groups 0)
