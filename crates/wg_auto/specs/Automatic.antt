-- What the layouts are that a pipeline derives from what its shaders use, by what is said of each binding (WebGPU, "Default pipeline
-- layout").
use Rattle.std.specs.Prelude.{◌≡◌, ℕ, ◌==◌, nat_lt, bit_or, Bool, true, false, ◌&&◌, ◌||◌, List, [], ◌∷◌, length, Some}
use Rattle.std.specs.List.{fold}
use Rattle.wg_types.specs.Bindings.{entry_of}
use Rattle.wg_types.specs.declared.bindings.LayoutEntry.{LayoutEntry}
use Rattle.wg_types.specs.declared.bindings.IfaceEntry.{IfaceEntry}
use Rattle.wg_types.specs.declared.groups.GroupLayoutInfo.{GroupLayoutInfo}
use Rattle.wg_model.specs.Pipelines.{stage_bit, same_use}
use Rattle.wg_model.specs.Equality.{of_binding}
use Rattle.wg_model.specs.Automatic.{uses_of, clash_at, kinds_agree, group_count, plain, entries_at}
use Rattle.wg_layouts.specs.Ascending.{ascends_from}

-- whether a binding of a group comes before another
abbrev pub place_before : ℕ → ℕ → ℕ → ℕ → Bool
place_before group binding group2 binding2 = nat_lt group group2 || (group == group2 && nat_lt binding binding2)

-- Kinds do not agree: shaders use this binding of this group as different kinds, and none that comes before it.
pub record IsLeastClash (iface : List IfaceEntry) (group binding : ℕ) : Type 0 where
  pub disagree : kinds_agree iface ≡ false
  pub clashes : clash_at iface group binding ≡ true
  pub least : (group2 binding2 : ℕ) → clash_at iface group2 binding2 ≡ true → place_before group2 binding2 group binding ≡ false

-- the stages of some uses
abbrev pub stages_of : List IfaceEntry → ℕ
stages_of uses = fold (λ (seen : ℕ) (used : IfaceEntry). bit_or seen (stage_bit used.stage)) 0 uses

-- the entry of a binding for all its uses, and none where there is no use
abbrev pub entries_for : ℕ → List IfaceEntry → List LayoutEntry
entries_for binding [] = []
entries_for binding (used ∷ uses) = record { binding = binding; visibility = stages_of (used ∷ uses); kind = plain used.kind } ∷ []

-- The least layouts that have all that shaders use: one for each group up to the greatest that is named, with entries in the order of
-- their bindings, and an entry for exactly the bindings that are named in that group: of their kind, without a dynamic offset and of
-- any size, and seen by just the stages that use it.
pub record AreLeast (iface : List IfaceEntry) (layouts : List GroupLayoutInfo) : Type 0 where
  pub groups : length layouts ≡ group_count iface
  pub in_order : (group : ℕ) → ascends_from 0 (entries_at layouts group) ≡ true
  pub entries : (group binding : ℕ) → of_binding binding (entries_at layouts group) ≡ entries_for binding (uses_of group binding iface)

-- Among the entries of its group one has its binding, is of the same use, and has at least the stages that it has.
pub record IsCovered (others : List GroupLayoutInfo) (group binding : ℕ) (entry : LayoutEntry) : Type 0 where
  pub other : LayoutEntry
  pub there : entry_of (entries_at others group) binding ≡ Some other
  pub kind : same_use other.kind entry.kind ≡ true
  pub stages : bit_or other.visibility entry.visibility ≡ other.visibility

-- For the entry of each binding of each group other layouts have one of that group and binding, of the same use, whose
-- visibility has all its stages; of several entries of a binding the first counts.
abbrev pub AreCovered : List GroupLayoutInfo → List GroupLayoutInfo → Type 0
AreCovered others layouts =
    (group binding : ℕ) (entry : LayoutEntry) → entry_of (entries_at layouts group) binding ≡ Some entry → IsCovered others group binding entry
