-- A bundle is known by what its commands touch, and touches what they name.
use Rattle.std.specs.Prelude.{◌≡◌, ℕ, nat_lt, Bool, true, List, map, reverse, Option, Some, None, is_some, option_and_then}
use Rattle.std.specs.List.{list_any}
use Rattle.wg_types.specs.declared.limits.Maker.{Maker}
use Rattle.wg_types.specs.Bindings.{entry_of}
use Rattle.wg_types.specs.Commands.{Command, fits}
use Rattle.wg_types.specs.declared.bindings.BoundEntry.{BoundEntry}
use Rattle.wg_types.specs.declared.bindings.BoundResource.{BoundResource}
use Rattle.wg_types.specs.declared.bindings.BoundResource.TheVariants.{Buffer as BoundBuffer, View as BoundView, Sampler as BoundSampler}
use Rattle.wg_types.specs.declared.bindings.LayoutEntry.{LayoutEntry}
use Rattle.wg_types.specs.declared.commands.CommandOf.TheVariants.{SetBindGroup}
use Rattle.wg_types.specs.declared.commands.CommandPlace.TheVariants.{Bundle}
use Rattle.wg_types.specs.declared.commands.On.{On}
use Rattle.wg_types.specs.declared.bundles.BundleInfo.{BundleInfo}
use Rattle.wg_types.specs.declared.bundles.BundleUse.{BundleUse}
use Rattle.wg_types.specs.declared.groups.GroupInfo.{GroupInfo}
use Rattle.wg_types.specs.declared.handles.ObjRef.{ObjRef}
use Rattle.wg_types.specs.declared.render.TargetInfo.{TargetInfo}
use Rattle.wg_rows.specs.Rows.{any_row, EachRow}
use Rattle.wg_rows.specs.Runs.{Part, is_texture, Cell, Cells, Bytes, Layers, Slices, Queries, part_of, covers, covers_part}
use Rattle.wg_rows.specs.Uses.{AccessKind, same_kind, row_set}
use Rattle.wg_model.specs.Touches.{Touch, use_of, access_of}
use Rattle.wg_model.specs.Bound.{known_group}
use Rattle.wg_model.specs.Bundles.{bundle_how, bundle_touch, known_touches, bundle_touches, buffer_in, texture_in, query_set_in, in_bundle}
use Rattle.wg_model.specs.Recorded.{any_named, buffers_of, textures_of, query_sets_of}
use Rattle.wg_model.specs.Render.{bundle_set}
use Rattle.wg_model.specs.Walk.{Verdict, bundled, bundle_of}
use Rattle.wg_subres.specs.Has.{view_has}
use Rattle.wg_history.specs.declared.events.Setup.{Setup}
use Rattle.wg_history.specs.declared.events.Event.TheVariants.{FinishBundle}
use Rattle.wg_history.specs.Entries.{Entry}
use Rattle.wg_history.specs.Objects.{is_valid}
use Rattle.wg_history.specs.Answers.{Run}
use Rattle.wg_history.specs.Exclusive.{event_at}

-- whether some touch accesses a cell in this way
abbrev pub is_accessed_so : Cell → AccessKind → List Touch → Bool
is_accessed_so c kind touches = any_row (λ run. covers run c) (same_kind kind) (map access_of touches)

-- whether some touch uses a part
abbrev pub part_is_used : Part → List Touch → Bool
part_is_used p touches = any_row (λ run. covers_part run p) (λ _. true) (map use_of touches)

-- Each part has the same set of usages in two lists of touches, and each cell is accessed in the same ways.
pub record AreAlike (xs ys : List Touch) : Type 0 where
  pub sets : (p : Part) → row_set p (map use_of xs) ≡ row_set p (map use_of ys)
  pub kinds : (c : Cell) (kind : AccessKind) → is_accessed_so c kind xs ≡ is_accessed_so c kind ys

-- whether cells tell their part, where that is not kept beside them: slices do where there is one, and others do
abbrev pub tells_part : Cells → Bool
tells_part (Bytes object lo hi) = true
tells_part (Layers object aspect mip lo hi) = true
tells_part (Slices object mip lo hi) = nat_lt lo hi
tells_part (Queries object lo hi) = true

-- A touch is as those of a bundle are: of one of the four ways of use, and of cells that tell their part.
pub record IsBundled (touch : Touch) : Type 0 where
  pub used : BundleUse
  pub so : touch.1 ≡ bundle_how used
  pub told : tells_part touch.0 ≡ true

-- What is known of the touches of a bundle gives each part the same set and each cell the same ways of access as they do.
abbrev pub TouchesAreKnown : Type 0
TouchesAreKnown = (touches : List Touch) → EachRow IsBundled touches → AreAlike (map bundle_touch (bundle_touches touches)) touches

-- Each command may stand on a bundle encoder.
abbrev pub MayStand : List (On × Command) → Type 0
MayStand commands = EachRow (λ (kept : On × Command). fits kept.1 Bundle ≡ true) commands

-- What is known of a bundle gives each part the same set and each cell the same ways of access as what its commands touch, if no rule of
-- theirs is unmet.
abbrev pub BundlesAreKnown : Type 0
BundlesAreKnown =
    (made_by : Maker) (targets : TargetInfo) (commands : List (On × Command))
    → MayStand commands
    → Verdict made_by (Some targets) commands ≡ None
    → AreAlike (known_touches (Some (bundle_of made_by (Some targets) commands))) (bundle_set targets (bundled commands)).touches

-- Some cell of a part is accessed.
pub record HasAccessedCell (p : Part) (touches : List Touch) : Type 0 where
  pub cell : Cell
  pub lies : part_of cell ≡ p
  pub accessed : any_row (λ run. covers run cell) (λ _. true) (map access_of touches) ≡ true

-- Of each part of a texture that commands of a bundle use they access a cell: only of a buffer may they use the part alone.
abbrev pub TexturesHaveCells : Type 0
TexturesHaveCells =
    (targets : TargetInfo) (commands : List (On × Command))
    → MayStand commands
    → (p : Part) → is_texture p ≡ true → part_is_used p (bundle_set targets (bundled commands)).touches ≡ true
    → HasAccessedCell p (bundle_set targets (bundled commands)).touches

-- A view that is bound has a subresource, as each that is made.
abbrev pub IsWholeResource : BoundResource → Type 0
IsWholeResource (BoundBuffer buffer known offset size) = Unit {0}
IsWholeResource (BoundView view known) = (p : Part) × (view_has known p ≡ true)
IsWholeResource (BoundSampler sampler known) = Unit {0}

-- The layout asks for the binding of an entry, and a view that it binds has a subresource.
pub record IsWholeEntry (layout : List LayoutEntry) (entry : BoundEntry) : Type 0 where
  pub asked : is_some (entry_of layout entry.binding) ≡ true
  pub whole : IsWholeResource entry.resource

-- Each entry of a group is whole, as those of each group that is made.
abbrev pub IsWholeGroup : Option GroupInfo → Type 0
IsWholeGroup None = Unit {0}
IsWholeGroup (Some group) = EachRow (IsWholeEntry group.layout_info.entries) group.entries

-- A command sets no group that is not whole.
abbrev pub IsWholeCommand : Command → Type 0
IsWholeCommand (SetBindGroup index group offsets) = IsWholeGroup (option_and_then known_group group)
IsWholeCommand _ = Unit {0}

-- A test finds one of the buffers that a bundle is known to touch exactly where it finds one that the commands name, themselves or
-- through bind groups, and so it is with textures and query sets: since a command that executes the bundle names what that touches, the
-- rules of a submit, the maps that wait for the last use of a buffer, and what is released go by all that the bundle's commands name.
pub record TouchesWhatIsNamed (bundle : BundleInfo) (commands : List (On × Command)) : Type 0 where
  pub buffers : (test : ℕ → Bool) → list_any test (in_bundle buffer_in (Some bundle)) ≡ any_named buffers_of test commands
  pub textures : (test : ℕ → Bool) → list_any test (in_bundle texture_in (Some bundle)) ≡ any_named textures_of test commands
  pub query_sets : (test : ℕ → Bool) → list_any test (in_bundle query_set_in (Some bundle)) ≡ any_named query_sets_of test commands

-- Each bundle touches what its commands name, if no rule of theirs is unmet and the groups that they set are whole.
abbrev pub BundlesTouchWhatTheyName : Type 0
BundlesTouchWhatTheyName =
    (made_by : Maker) (targets : TargetInfo) (commands : List (On × Command))
    → MayStand commands
    → EachRow (λ (kept : On × Command). IsWholeCommand kept.1) commands
    → Verdict made_by (Some targets) commands ≡ None
    → TouchesWhatIsNamed (bundle_of made_by (Some targets) commands) commands

-- Each valid bundle of a history whose replies are the right ones touches what its commands name, since its handles are genuine.
abbrev pub HistoryTouchesWhatItNames : Type 0
HistoryTouchesWhatItNames =
    (setup : Setup) (history : List Entry) (bundle : ℕ) (encoder : ObjRef) (made_by : Maker) (targets : TargetInfo) (commands : List (On × Command))
    → Run setup history
    → is_valid (reverse history) bundle ≡ true
    → event_at (reverse history) bundle ≡ Some (FinishBundle encoder (record { maker = made_by; targets = Some targets; commands = commands }))
    → MayStand commands
    → TouchesWhatIsNamed (bundle_of made_by (Some targets) commands) commands
