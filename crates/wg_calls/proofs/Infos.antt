-- So much is known of the object that a call makes as of that which its event makes.
use Rattle.std.proofs.Common.{◌≡◌, Option, Some, None, List, [], ◌∷◌, map, refl, sym, ap, ap₂}
use Rattle.std.specs.Prelude.{All, option_map, option_and_then}
use Rattle.std.proofs.lemmas.List.Elements.{All-head, All-tail}
use Rattle.wg_types.specs.Handles.{HandleValue}
use Rattle.wg_types.specs.declared.wanted.Wanted.{Wanted}
use Rattle.wg_types.specs.declared.wanted.Wanted.TheVariants as wanted
use Rattle.wg_types.specs.declared.handles.ObjRef.{ObjRef}
use Rattle.wg_types.specs.declared.handles.Info.{Info}
use Rattle.wg_types.specs.declared.handles.Info.TheVariants as info
use Rattle.wg_types.specs.declared.bindings.ResourceOf.{ResourceOf}
use Rattle.wg_types.specs.declared.bindings.ResourceOf.TheVariants.{Buffer, View, Sampler}
use Rattle.wg_types.specs.declared.bindings.GroupEntryOf.{GroupEntryOf}
use Rattle.wg_types.specs.Refs.{some_wanted}
use Rattle.wg_types.specs.Bindings.{resource_named, map_resource, map_entry, entries_named}
use Rattle.wg_types.specs.declared.requests.RequestOf.TheVariants.{CreateBuffer, CreateTexture, CreateView, CreateSampler, CreateBindGroupLayout, CreatePipelineLayout, CreateBindGroup, CreateComputePipeline, CreateRenderPipeline, GetBindGroupLayout, CreateQuerySet, CreateEncoder, CreateBundleEncoder, Finish, FinishBundle, Submit, WriteBuffer, WriteTexture, Destroy, Drop, Complete, PushErrorScope, PopErrorScope, Lose, WorkDone, MapAsync, Unmap}
use Rattle.wg_model.specs.Making.{known_group_layout, bound_resource, bound_entry, given_layouts}
use Rattle.wg_calls.specs.Calls.{reference_of, known_by}
use Rattle.wg_calls.specs.Infos.{InfoIsMade}

-- what is known of the reference of a handle is what this knows
abbrev pub KnowsHandle : (ObjRef → Option Info) → HandleValue × Wanted → Type 0
KnowsHandle known used = known (reference_of used.0) ≡ known_by used.0

references : (handles : List (Option HandleValue)) → given_layouts reference_of handles ≡ given_layouts (λ r. r) (map (option_map reference_of) handles)
references [] = refl
references (None ∷ handles) = references handles
references (Some handle ∷ handles) = ap (λ rest. reference_of handle ∷ rest) (references handles)

group_layouts : (known : ObjRef → Option Info) (handles : List (Option HandleValue)) → All (KnowsHandle known) (some_wanted wanted.GroupLayout handles)
    → map (λ handle. known_group_layout (option_and_then known_by handle)) handles ≡ map (λ r. known_group_layout (option_and_then known r)) (map (option_map reference_of) handles)
group_layouts known [] all = refl
group_layouts known (None ∷ handles) all = ap (λ xs. known_group_layout None ∷ xs) (group_layouts known handles all)
group_layouts known (Some handle ∷ handles) all =
    ap₂ (λ x xs. x ∷ xs)
    (ap (λ i. known_group_layout i) (sym (All-head (KnowsHandle known) (handle, wanted.GroupLayout) (some_wanted wanted.GroupLayout handles) all)))
    (group_layouts known handles (All-tail (KnowsHandle known) (handle, wanted.GroupLayout) (some_wanted wanted.GroupLayout handles) all))

bound : (known : ObjRef → Option Info) (resource : ResourceOf HandleValue) → KnowsHandle known (resource_named resource)
    → bound_resource reference_of known_by resource ≡ bound_resource (λ r. r) known (map_resource reference_of resource)
bound known (Buffer buffer offset size) e = rw e refl
bound known (View view) e = rw e refl
bound known (Sampler sampler) e = rw e refl

bounds : (known : ObjRef → Option Info) (entries : List (GroupEntryOf HandleValue)) → All (KnowsHandle known) (entries_named entries)
    → map (bound_entry reference_of known_by) entries ≡ map (bound_entry (λ r. r) known) (map (map_entry reference_of) entries)
bounds known [] all = refl
bounds known (entry ∷ entries) all =
    ap₂ (λ resource rest. record { binding = entry.binding; resource = resource } ∷ rest)
    (bound known entry.resource (All-head (KnowsHandle known) (resource_named entry.resource) (entries_named entries) all))
    (bounds known entries (All-tail (KnowsHandle known) (resource_named entry.resource) (entries_named entries) all))

pub info_is_made : InfoIsMade
info_is_made known (CreateBuffer made) all = refl
info_is_made known (CreateTexture made) all = refl
info_is_made known (CreateView texture asked) all =
    let e : known (reference_of texture) ≡ known_by texture = All-head (KnowsHandle known) (texture, wanted.Texture) [] all in
    rw e refl
info_is_made known (CreateSampler made) all = refl
info_is_made known (CreateBindGroupLayout made) all = refl
info_is_made known (CreatePipelineLayout layouts) all =
    ap₂ (λ named infos. Some (info.PipelineLayout (record { layouts = named; layouts_info = infos }))) (references layouts) (group_layouts known layouts all)
info_is_made known (CreateBindGroup layout entries) all =
    let e : known (reference_of layout) ≡ known_by layout = All-head (KnowsHandle known) (layout, wanted.GroupLayout) (entries_named entries) all in
    ap₂ (λ found bound. Some (info.Group (record { layout = reference_of layout; layout_info = known_group_layout found; entries = bound }))) (sym e)
    (bounds known entries (All-tail (KnowsHandle known) (layout, wanted.GroupLayout) (entries_named entries) all))
info_is_made known (CreateComputePipeline None iface) all = refl
info_is_made known (CreateComputePipeline (Some layout) iface) all =
    let e : known (reference_of layout) ≡ known_by layout = All-head (KnowsHandle known) (layout, wanted.PipelineLayout) [] all in
    rw e refl
info_is_made known (CreateRenderPipeline None desc) all = refl
info_is_made known (CreateRenderPipeline (Some layout) desc) all =
    let e : known (reference_of layout) ≡ known_by layout = All-head (KnowsHandle known) (layout, wanted.PipelineLayout) [] all in
    rw e refl
info_is_made known (GetBindGroupLayout pipeline index) all =
    let e : known (reference_of pipeline) ≡ known_by pipeline = All-head (KnowsHandle known) (pipeline, wanted.Pipeline) [] all in
    rw e refl
info_is_made known (CreateQuerySet made) all = refl
info_is_made known CreateEncoder all = refl
info_is_made known (CreateBundleEncoder targets) all = refl
info_is_made known (Finish encoder) all = refl
info_is_made known (FinishBundle encoder) all = refl
info_is_made known (Submit buffers) all = refl
info_is_made known (WriteBuffer buffer offset size) all = refl
info_is_made known (WriteTexture texture spot layout size data_size) all = refl
info_is_made known (Destroy object) all = refl
info_is_made known (Drop object) all = refl
info_is_made known (Complete op) all = refl
info_is_made known (PushErrorScope filter) all = refl
info_is_made known PopErrorScope all = refl
info_is_made known Lose all = refl
info_is_made known WorkDone all = refl
info_is_made known (MapAsync buffer mode offset size) all = refl
info_is_made known (Unmap buffer) all = refl
