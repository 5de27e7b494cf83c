-- The layouts that a pipeline derives from what its shaders use, and the rules of that (WebGPU, "Default pipeline layout").
use Rattle.std.specs.Prelude.{ℕ, zero, suc, ◌+◌, ◌==◌, nat_lt, max, bit_or, Bool, false, not, ◌&&◌, List, [], ◌∷◌, ◌++◌, length, slice_get, Option, Some, None, is_none, if◌then◌else◌, filter}
use Rattle.std.specs.List.{list_all, list_any, fold}
use Rattle.std.specs.Option.{option_map_or}
use Rattle.wg_rules.specs.declared.TheConstants.{AUTO_INTERFACE_AGREES, DERIVED_LAYOUTS_ARE_ALLOWED, GROUP_INDEX_IS_IN_PIPELINE}
use Rattle.wg_types.specs.declared.handles.Info.{Info}
use Rattle.wg_types.specs.declared.limits.Limits.{Limits}
use Rattle.wg_types.specs.declared.bindings.BindingKind.{BindingKind}
use Rattle.wg_types.specs.declared.bindings.BindingKind.TheVariants.{Buffer, Sampler, Texture, StorageTexture}
use Rattle.wg_types.specs.declared.bindings.LayoutEntry.{LayoutEntry}
use Rattle.wg_types.specs.declared.bindings.IfaceEntry.{IfaceEntry}
use Rattle.wg_types.specs.declared.groups.GroupLayoutInfo.{GroupLayoutInfo}
use Rattle.wg_model.specs.Rules.{Rule, first_unmet}
use Rattle.wg_model.specs.Layouts.{group_layout_rules, together_rules}
use Rattle.wg_model.specs.Pipelines.{stage_bit, same_use}
use Rattle.wg_model.specs.Bound.{most_groups, layouts_in}

-- whether shaders use this binding of this group
abbrev pub is_use_of : ℕ → ℕ → IfaceEntry → Bool
is_use_of group binding used = used.group == group && used.binding == binding

-- all that shaders use of it
abbrev pub uses_of : ℕ → ℕ → List IfaceEntry → List IfaceEntry
uses_of group binding iface = filter (is_use_of group binding) iface

-- whether two of some uses are of different kinds
abbrev pub differ : List IfaceEntry → Bool
differ uses = list_any (λ (a : IfaceEntry). list_any (λ (b : IfaceEntry). not (same_use a.kind b.kind)) uses) uses

-- whether shaders use a binding as different kinds
abbrev pub clash_at : List IfaceEntry → ℕ → ℕ → Bool
clash_at iface group binding = differ (uses_of group binding iface)

-- whether they use no binding so
abbrev pub kinds_agree : List IfaceEntry → Bool
kinds_agree iface = list_all (λ (used : IfaceEntry). not (clash_at iface used.group used.binding)) iface

-- how many groups there are from 0 to the greatest that is named, and none where none is
abbrev pub group_count : List IfaceEntry → ℕ
group_count [] = 0
group_count (used ∷ iface) = max (used.group + 1) (group_count iface)

-- whether each group that is named may be set: it is below 4, as for setBindGroup
abbrev pub groups_fit : List IfaceEntry → Bool
groups_fit iface = list_all (λ (used : IfaceEntry). nat_lt used.group most_groups) iface

-- what a binding holds, in a layout that is derived: of a buffer without a dynamic offset, and of any size
abbrev pub plain : BindingKind → BindingKind
plain (Buffer binding dynamic min_size) = Buffer binding false 0
plain (Sampler sampler_type) = Sampler sampler_type
plain (Texture sample dim multi) = Texture sample dim multi
plain (StorageTexture access format dim) = StorageTexture access format dim

-- the entry for what one stage uses
abbrev pub entry_used : IfaceEntry → LayoutEntry
entry_used used = record { binding = used.binding; visibility = stage_bit used.stage; kind = plain used.kind }

-- a derived entry that one more stage sees
abbrev pub entry_shared : LayoutEntry → IfaceEntry → LayoutEntry
entry_shared entry used = record entry { visibility = bit_or entry.visibility (stage_bit used.stage) }

-- entries in the order of their bindings, with a further use
abbrev pub with_use : List LayoutEntry → IfaceEntry → List LayoutEntry
with_use [] used = entry_used used ∷ []
with_use (entry ∷ entries) used =
    if entry.binding == used.binding then entry_shared entry used ∷ entries
    else (if nat_lt used.binding entry.binding then entry_used used ∷ entry ∷ entries else entry ∷ with_use entries used)

-- the entries for all that shaders use of a group
abbrev pub entries_used : ℕ → List IfaceEntry → List LayoutEntry
entries_used group iface = fold with_use [] (filter (λ (used : IfaceEntry). used.group == group) iface)

-- the layout that the uses of a group derive, exclusive to none and got of none
abbrev pub layout_used : List IfaceEntry → ℕ → GroupLayoutInfo
layout_used iface group = record { entries = entries_used group iface; exclusive = None; pipeline = None }

-- the layouts of the first groups
abbrev pub layouts_below : List IfaceEntry → ℕ → List GroupLayoutInfo
layouts_below iface zero = []
layouts_below iface (suc n) = layouts_below iface n ++ layout_used iface n ∷ []

-- The layouts that are derived: one for each group up to the greatest that is named, with an entry for each binding that is named
-- in it, seen by the stages that use it. There are none where shaders use a binding as different kinds or name a group that cannot
-- be set.
abbrev pub automatic_layouts : List IfaceEntry → List GroupLayoutInfo
automatic_layouts iface = if kinds_agree iface && groups_fit iface then layouts_below iface (group_count iface) else []

-- the entries of a group, which are none where there is no layout
abbrev pub entries_at : List GroupLayoutInfo → ℕ → List LayoutEntry
entries_at layouts group = option_map_or (λ (layout : GroupLayoutInfo). layout.entries) (slice_get layouts group) []

-- whether a layout with these entries may be made, by createBindGroupLayout
unfoldable pub entries_meet : Limits → List LayoutEntry → Bool
entries_meet limits entries = is_none (first_unmet (group_layout_rules limits entries))

-- whether layouts may be those of a pipeline together
unfoldable pub together_meet : Limits → List GroupLayoutInfo → Bool
together_meet limits layouts = is_none (first_unmet (together_rules limits layouts))

-- whether each of some layouts may be made, and they may be those of a pipeline
abbrev pub layouts_meet : Limits → List GroupLayoutInfo → Bool
layouts_meet limits layouts = list_all (λ (layout : GroupLayoutInfo). entries_meet limits layout.entries) layouts && together_meet limits layouts

-- A pipeline that derives its layouts: 167 its shaders use no binding as different kinds, whatever is dynamic and whatever least
-- sizes they ask for; 168 they name groups that may be set, and the layouts that are derived meet the rules of layouts that are
-- made, and of those of a pipeline.
unfoldable pub automatic_rules : Limits → List IfaceEntry → List Rule
automatic_rules limits iface =
    (AUTO_INTERFACE_AGREES, kinds_agree iface)
    ∷ ((DERIVED_LAYOUTS_ARE_ALLOWED, groups_fit iface && layouts_meet limits (automatic_layouts iface))
    ∷ [])

-- the rules of the layouts that a pipeline derives where it is made with no layout, and none where it is made with one
abbrev pub derived_rules : {R : Type 0} → Limits → Option R → List IfaceEntry → List Rule
derived_rules limits None iface = automatic_rules limits iface
derived_rules limits (Some layout) iface = []

-- the bind group layouts of what is known of a pipeline of either kind, by group, be they named or derived; of anything else
-- there are none
abbrev pub known_layouts : Option Info → List GroupLayoutInfo
known_layouts known = option_map_or layouts_in known []

-- getBindGroupLayout: 169 the index is one of a group of the pipeline's layout
abbrev pub get_layout_rules : Option Info → ℕ → List Rule
get_layout_rules known index = (GROUP_INDEX_IS_IN_PIPELINE, nat_lt index (length (known_layouts known))) ∷ []
