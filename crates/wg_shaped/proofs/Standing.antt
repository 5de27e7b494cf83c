-- Commands that may stand on a bundle encoder touch cells in one of the four ways of use, and of a part of a texture some cell.
use Rattle.std.proofs.Common.{◌≡◌, ℕ, ◌/◌, ◌^◌, max, Bool, true, List, [], ◌∷◌, map, reverse, Some, None, is_none, option_map, refl, ap, sym, subst, ◌∙◌, arith, nat_lt, if◌then◌else◌, true≢false}
use Rattle.std.specs.List.{flat_map}
use Rattle.std.proofs.lemmas.Bool.{lt-ltb}
use Rattle.std.proofs.lemmas.List.{reverse-append}
use Rattle.wg_types.specs.Textures.{depth}
use Rattle.wg_types.specs.Commands.{Command, fits}
use Rattle.wg_types.specs.declared.commands.CommandPlace.TheVariants.{Bundle}
use Rattle.wg_types.specs.declared.commands.CommandOf.TheVariants.{SetBindGroup, SetVertexBuffer, SetIndexBuffer, DrawIndirect, DrawIndexedIndirect, ExecuteBundles}
use Rattle.wg_types.specs.declared.commands.On.{On}
use Rattle.wg_types.specs.declared.bindings.BufferBinding.TheVariants.{Uniform, Storage as StorageBuffer, ReadOnlyStorage}
use Rattle.wg_types.specs.declared.bindings.StorageAccess.TheVariants.{ReadOnly, WriteOnly, ReadWrite}
use Rattle.wg_types.specs.declared.bindings.BindingKind.{BindingKind}
use Rattle.wg_types.specs.declared.bindings.BindingKind.TheVariants.{Buffer, Sampler, Texture, StorageTexture}
use Rattle.wg_types.specs.declared.bindings.BoundResource.{BoundResource}
use Rattle.wg_types.specs.declared.bindings.BoundResource.TheVariants.{Buffer as BoundBuffer, View as BoundView, Sampler as BoundSampler}
use Rattle.wg_types.specs.declared.bundles.BundleUse.{BundleUse}
use Rattle.wg_types.specs.declared.bundles.BundleUse.TheVariants.{Input, Constant, StorageRead, Storage}
use Rattle.wg_types.specs.declared.textures.TextureDim.{TextureDim}
use Rattle.wg_types.specs.declared.textures.TextureDim.TheVariants as texture_dim
use Rattle.wg_types.specs.declared.textures.TextureInfo.{TextureInfo}
use Rattle.wg_rows.specs.Rows.{EachRow}
use Rattle.wg_rows.specs.Runs.{Aspect, Color, Depth, Stencil, PartRun, BufferPart, LayerParts, QueryPart, Cells}
use Rattle.wg_rows.specs.Uses.{AccessKind}
use Rattle.wg_model.specs.Textures.{extent_at, extent}
use Rattle.wg_model.specs.Subresources.{view_runs, texture_cells, run_cells}
use Rattle.wg_model.specs.Touches.{Touch, access_of}
use Rattle.wg_model.specs.Bound.{Place, set_places, kind_touch, resource_cells, place_touches}
use Rattle.wg_model.specs.Settings.{bound_with}
use Rattle.wg_model.specs.Bundles.{bundle_how, bundle_touch, bundle_touches}
use Rattle.wg_model.specs.Render.{bundle_set, command_touches, bound_group_touches, touches_over}
use Rattle.wg_model.specs.Walk.{bundled}
use Rattle.wg_model.proofs.StepLaws.{each_joined}
use Rattle.wg_shaped.specs.Bundled.{AreAlike, tells_part, IsBundled, MayStand, BundlesAreKnown, TexturesHaveCells}
use Rattle.wg_shaped.proofs.Known.{touches_lie, Found, texture_found, touches_are_known}

-- What is bound is used in one of the ways,
abbrev Way : BindingKind → Type 0
Way kind = (used : BundleUse) × (kind_touch kind ≡ bundle_how used)

way_of : (kind : BindingKind) → Way kind
way_of (Buffer Uniform dynamic min_size) = (Constant, refl)
way_of (Buffer StorageBuffer dynamic min_size) = (Storage, refl)
way_of (Buffer ReadOnlyStorage dynamic min_size) = (StorageRead, refl)
way_of (Sampler sampler_type) = (Constant, refl)
way_of (Texture sample dim multi) = (Constant, refl)
way_of (StorageTexture ReadOnly format dim) = (StorageRead, refl)
way_of (StorageTexture WriteOnly format dim) = (Storage, refl)
way_of (StorageTexture ReadWrite format dim) = (Storage, refl)

-- and its cells tell their parts, since each mip level of a 3D texture has a slice.
some_slice : (x : ℕ) → nat_lt 0 (max 1 x) ≡ true
some_slice x = lt-ltb 0 (max 1 x) (omega arith)

texture_told : (dim : TextureDim) (size : List ℕ) (object : ℕ) (aspect : Aspect) (mip lo hi : ℕ) → tells_part (texture_cells dim object aspect mip lo hi 0 (depth (extent_at dim size mip))) ≡ true
texture_told texture_dim.Three size object Color mip lo hi = some_slice (depth size / 2 ^ mip)
texture_told texture_dim.Three size object Depth mip lo hi = refl
texture_told texture_dim.Three size object Stencil mip lo hi = refl
texture_told texture_dim.One size object aspect mip lo hi = refl
texture_told texture_dim.Two size object aspect mip lo hi = refl

run_told : (info : TextureInfo) (run : PartRun) → tells_part (run_cells info run) ≡ true
unfolding extent
run_told info (BufferPart object) = refl
run_told info (LayerParts object aspect mip lo hi) = texture_told info.dim info.size object aspect mip lo hi
run_told info (QueryPart object) = refl

abbrev AllTold : List Cells → Type 0
AllTold cells = EachRow (λ (run : Cells). tells_part run ≡ true) cells

runs_told : (info : TextureInfo) (runs : List PartRun) → AllTold (map (run_cells info) runs)
runs_told info [] = tt
runs_told info (run ∷ runs) = (run_told info run, runs_told info runs)

resource_told : (moved : ℕ) (resource : BoundResource) → AllTold (resource_cells moved resource)
resource_told moved (BoundBuffer buffer known offset size) = (refl, tt)
resource_told moved (BoundView view known) = runs_told known.texture_info (view_runs known)
resource_told moved (BoundSampler sampler known) = tt

cells_bundled : (kind : BindingKind) (cells : List Cells) → AllTold cells → EachRow IsBundled (map (λ (run : Cells). (run, kind_touch kind)) cells)
cells_bundled kind [] told = tt
cells_bundled kind (run ∷ cells) told = (record { used = (way_of kind).0; so = (way_of kind).1; told = told.0 }, cells_bundled kind cells told.1)

places_bundled : (places : List Place) → EachRow IsBundled (flat_map place_touches places)
places_bundled [] = tt
places_bundled (place ∷ places) =
    each_joined IsBundled (place_touches place) (flat_map place_touches places)
    (cells_bundled place.asked.kind (resource_cells place.moved place.resource) (resource_told place.moved place.resource)) (places_bundled places)

-- So it is with each command that may stand there.
command_bundled : (command : Command) → fits command Bundle ≡ true → EachRow IsBundled (command_touches None command)
command_bundled (SetBindGroup index group offsets) e =
    each_joined IsBundled (bound_group_touches (Some (index, option_map (bound_with offsets) group))) [] (places_bundled (set_places (option_map (bound_with offsets) group))) tt
command_bundled (SetVertexBuffer slot None offset size) e = tt
command_bundled (SetVertexBuffer slot (Some buffer) offset size) e = (record { used = Input; so = refl; told = refl }, tt)
command_bundled (SetIndexBuffer buffer format offset size) e = (record { used = Input; so = refl; told = refl }, tt)
command_bundled (DrawIndirect buffer offset) e = (record { used = Input; so = refl; told = refl }, tt)
command_bundled (DrawIndexedIndirect buffer offset) e = (record { used = Input; so = refl; told = refl }, tt)
command_bundled (ExecuteBundles bundles) e = absurd (true≢false (sym e))
command_bundled _ e = tt

abbrev pub AllFit : List Command → Type 0
AllFit commands = EachRow (λ (command : Command). fits command Bundle ≡ true) commands

over_bundled : (earlier : List Command) → AllFit earlier → EachRow IsBundled (touches_over None [] earlier)
over_bundled [] each = tt
over_bundled (command ∷ earlier) each =
    each_joined IsBundled (touches_over None [] earlier) (command_touches None command) (over_bundled earlier each.1) (command_bundled command each.0)

pub each_back : {A : Type 0} (P : A → Type 0) (xs : List A) → EachRow P xs → EachRow P (reverse xs)
each_back P [] each = tt
each_back P (x ∷ xs) each = subst (EachRow P) (sym (reverse-append (x ∷ []) xs)) (each_joined P (reverse xs) (x ∷ []) (each_back P xs each.1) (each.0, tt))

pub each_second : {A B : Type 0} (P : B → Type 0) (xs : List (A × B)) → EachRow (λ (x : A × B). P x.1) xs → EachRow P (map (λ (x : A × B). x.1) xs)
each_second P [] each = tt
each_second P (x ∷ xs) each = (each.0, each_second P xs each.1)

pub all_fit : (commands : List (On × Command)) → MayStand commands → AllFit (bundled commands)
all_fit commands stand =
    each_second (λ (command : Command). fits command Bundle ≡ true) (reverse commands)
    (each_back (λ (kept : On × Command). fits kept.1 Bundle ≡ true) commands stand)

-- A bundle is known by what its commands touch.
pub bundles_are_known : BundlesAreKnown
bundles_are_known maker targets commands stand none =
    let touches : List Touch = (bundle_set targets (bundled commands)).touches in
    subst (λ (b : Bool). AreAlike (map bundle_touch (if b then bundle_touches touches else [])) touches) (sym (ap is_none none))
    (touches_are_known touches (over_bundled (bundled commands) (all_fit commands stand)))

-- Of a part of a texture that commands of a bundle use they access a cell.
all_told : (touches : List Touch) → EachRow IsBundled touches → EachRow (λ (row : Cells × AccessKind). tells_part row.0 ≡ true) (map access_of touches)
all_told [] each = tt
all_told (touch ∷ touches) each = (each.0.told, all_told touches each.1)

pub textures_have_cells : TexturesHaveCells
textures_have_cells targets commands stand p is used =
    let touches : List Touch = (bundle_set targets (bundled commands)).touches in
    let found : Found p (map access_of touches) = texture_found p (map access_of touches) is (all_told touches (over_bundled (bundled commands) (all_fit commands stand))) (sym (touches_lie p touches) ∙ used) in
    record { cell = found.cell; lies = found.lies; accessed = found.has }
