-- The resources that commands use, and the objects that they name.
use Rattle.std.specs.Prelude.{ℕ, Bool, true, false, ◌&&◌, ◌==◌, nat_eq, List, [], ◌∷◌, Option, Some, None}
use Rattle.std.specs.List.{flat_map}
use Rattle.wg_types.specs.Handles.{HandleValue}
use Rattle.wg_types.specs.declared.commands.On.{On}
use Rattle.wg_types.specs.Commands.{Command, named}
use Rattle.wg_types.specs.declared.wanted.Wanted.{Wanted}
use Rattle.wg_types.specs.declared.groups.GroupInfo.{GroupInfo}
use Rattle.wg_types.specs.declared.bindings.BoundResource.{BoundResource}
use Rattle.wg_types.specs.declared.bindings.BoundResource.TheVariants.{Buffer as BoundBuffer, View as BoundView, Sampler as BoundSampler}
use Rattle.wg_types.specs.declared.bindings.BoundEntry.{BoundEntry}
use Rattle.wg_types.specs.declared.textures.ViewInfo.{ViewInfo}
use Rattle.wg_types.specs.declared.bundles.BundleInfo.{BundleInfo}
use Rattle.wg_types.specs.declared.bundles.BundleTouch.{BundleTouch}
use Rattle.wg_trace.specs.declared.parts.Cells.{Cells}
use Rattle.wg_trace.specs.declared.parts.Cells.TheVariants.{Bytes, Layers, Slices, Queries as QueryCells}
use Rattle.wg_model.specs.Bound.{known_group}
use Rattle.wg_model.specs.Attachments.{attached_view}
use Rattle.wg_model.specs.Bundles.{known_bundle}
use Rattle.wg_model.specs.Recorded.{Reaching, own_buffer, own_texture, own_queries, viewed_texture, bound_resources, bundled_resources, no_resource, reaching, names_within}
use Rattle.wg_trace.specs.declared.steps.Sort.{Sort}
use Rattle.wg_trace.specs.declared.steps.Sort.TheVariants.{Buffer, Texture, Queries}
use Rattle.wg_trace.specs.declared.steps.Used.{Used}
use Rattle.wg_encoder.specs.Once.{each_once}

-- the resource that an entry of a bind group binds, or of which it binds a view
abbrev pub resource_uses : BoundResource → List Used
resource_uses (BoundBuffer buffer known offset size) = record { number = buffer.number; sort = Buffer } ∷ []
resource_uses (BoundView view known) = record { number = known.texture.number; sort = Texture } ∷ []
resource_uses (BoundSampler sampler known) = []

-- the resources of a bind group, by what a handle knows of it
abbrev pub group_uses : Option GroupInfo → List Used
group_uses None = []
group_uses (Some group) = flat_map (λ (entry : BoundEntry). resource_uses entry.resource) group.entries

-- the texture of a view, by what a handle knows of it
abbrev pub view_uses : Option ViewInfo → List Used
view_uses None = []
view_uses (Some view) = record { number = view.texture.number; sort = Texture } ∷ []

-- the resource that cells are of
abbrev pub cells_uses : Cells → List Used
cells_uses (Bytes object lo hi) = record { number = object; sort = Buffer } ∷ []
cells_uses (Layers object aspect mip lo hi) = record { number = object; sort = Texture } ∷ []
cells_uses (Slices object mip lo hi) = record { number = object; sort = Texture } ∷ []
cells_uses (QueryCells object lo hi) = record { number = object; sort = Queries } ∷ []

-- the resources that a bundle uses, by what a handle knows of it
abbrev pub bundle_uses : Option BundleInfo → List Used
bundle_uses None = []
bundle_uses (Some bundle) = flat_map (λ (touch : BundleTouch). cells_uses touch.cells) bundle.touches

-- the resources that are reached through an object: the one that it is, the one of which it is a view, those that it binds, or those
-- that it uses as a bundle
abbrev pub uses_reached : Reaching → HandleValue → List Used
uses_reached own_buffer object = record { number = object.reference.number; sort = Buffer } ∷ []
uses_reached own_texture object = record { number = object.reference.number; sort = Texture } ∷ []
uses_reached own_queries object = record { number = object.reference.number; sort = Queries } ∷ []
uses_reached viewed_texture object = view_uses (attached_view object)
uses_reached bound_resources object = group_uses (known_group object)
uses_reached bundled_resources object = bundle_uses (known_bundle object)
uses_reached no_resource object = []

-- the resources that are reached through an object, each as what it is used, by what is wanted of the object
abbrev pub uses_as : Wanted → HandleValue → List Used
uses_as asked object = uses_reached (reaching asked) object

-- the resources of the objects that a command names
abbrev pub uses_in : List (HandleValue × Wanted) → List Used
uses_in objects = flat_map (λ (object : HandleValue × Wanted). uses_as object.1 object.0) objects

-- the resources that recorded commands use, each as what it is used, as they come
abbrev pub uses_within : List (On × Command) → List Used
uses_within commands = flat_map (λ kept. uses_in (named kept.1)) commands

-- whether two sorts of resources are the same
abbrev pub is_sort : Sort → Sort → Bool
is_sort Buffer Buffer = true
is_sort Buffer Texture = false
is_sort Buffer Queries = false
is_sort Texture Buffer = false
is_sort Texture Texture = true
is_sort Texture Queries = false
is_sort Queries Buffer = false
is_sort Queries Texture = false
is_sort Queries Queries = true

-- whether a resource of the sort passes the test
abbrev pub is_used_as : Sort → (ℕ → Bool) → Used → Bool
is_used_as sort test used = is_sort sort used.sort && test used.number

-- whether two resources are the same, and used as the same
abbrev pub same_used : Used → Used → Bool
same_used x y = x.number == y.number && is_sort x.sort y.sort

-- the resources that commands use, each once
abbrev pub used_once : List (On × Command) → List Used
used_once commands = each_once same_used (uses_within commands)

-- the numbers of the objects that recorded commands name, each once, as they first come
abbrev pub named_once : List (On × Command) → List ℕ
named_once commands = each_once nat_eq (names_within commands)
