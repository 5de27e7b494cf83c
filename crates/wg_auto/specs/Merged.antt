-- What merging answers (WebGPU, "Default pipeline layout").
use Rattle.std.specs.Prelude.{◌≡◌, true, false, List}
use Rattle.std.specs.List.{list_all}
use Rattle.wg_types.specs.declared.bindings.IfaceEntry.{IfaceEntry}
use Rattle.wg_types.specs.declared.groups.GroupLayoutInfo.{GroupLayoutInfo}
use Rattle.wg_model.specs.Pipelines.{offers}
use Rattle.wg_auto.specs.declared.merging.Merged.{Merged}
use Rattle.wg_auto.specs.declared.merging.Merged.TheVariants.{Clash, TooMany, Layouts}
use Rattle.wg_model.specs.Automatic.{kinds_agree, groups_fit, automatic_layouts}
use Rattle.wg_auto.specs.Automatic.{IsLeastClash, AreLeast, AreCovered}

-- Kinds agree and groups fit, and the layouts are the least: they have all that shaders use, and any others that have it have each of
-- their entries, seen by at least as many stages.
pub record IsLayouts (iface : List IfaceEntry) (layouts : List GroupLayoutInfo) : Type 0 where
  pub agree : kinds_agree iface ≡ true
  pub fit : groups_fit iface ≡ true
  pub derived : layouts ≡ automatic_layouts iface
  pub least : AreLeast iface layouts
  pub serve : list_all (offers layouts) iface ≡ true
  pub covered : (others : List GroupLayoutInfo) → list_all (offers others) iface ≡ true → AreCovered others layouts

-- Kinds agree, and a group is named that cannot be set.
pub record IsTooMany (iface : List IfaceEntry) : Type 0 where
  pub agree : kinds_agree iface ≡ true
  pub many : groups_fit iface ≡ false

-- A clash where shaders use a binding as different kinds, and of those the least; else that there are too many groups, just where
-- there are; else the least layouts.
abbrev pub IsMerged : List IfaceEntry → Merged → Type 0
IsMerged iface (Clash group binding) = IsLeastClash iface group binding
IsMerged iface TooMany = IsTooMany iface
IsMerged iface (Layouts layouts) = IsLayouts iface layouts
