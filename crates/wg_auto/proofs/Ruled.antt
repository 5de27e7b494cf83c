-- The rules of derived layouts by what merging answers.
use Rattle.std.proofs.Common.{◌≡◌, ℕ, Bool, true, false, ◌&&◌, List, [], ◌∷◌, Option, Some, None, if◌then◌else◌, refl, ap, ap₂, sym, ◌∙◌}
use Rattle.wg_rules.specs.declared.TheConstants.{AUTO_INTERFACE_AGREES, DERIVED_LAYOUTS_ARE_ALLOWED}
use Rattle.wg_types.specs.declared.limits.Limits.{Limits}
use Rattle.wg_types.specs.declared.bindings.IfaceEntry.{IfaceEntry}
use Rattle.wg_types.specs.declared.groups.GroupLayoutInfo.{GroupLayoutInfo}
use Rattle.wg_model.specs.Rules.{first_unmet}
use Rattle.wg_model.specs.Automatic.{groups_fit, automatic_layouts, layouts_meet, automatic_rules}
use Rattle.wg_auto.specs.Automatic.{IsLeastClash}
use Rattle.wg_auto.specs.Merged.{IsLayouts, IsTooMany}

abbrev rules_by : Bool → Bool → Option ℕ
rules_by agree fit = first_unmet ((AUTO_INTERFACE_AGREES, agree) ∷ ((DERIVED_LAYOUTS_ARE_ALLOWED, fit) ∷ []))

pub ruled_clash : (limits : Limits) (iface : List IfaceEntry) (group binding : ℕ) → IsLeastClash iface group binding → Some AUTO_INTERFACE_AGREES ≡ first_unmet (automatic_rules limits iface)
unfolding automatic_rules
ruled_clash limits iface group binding clash = sym (ap (λ (b : Bool). rules_by b (groups_fit iface && layouts_meet limits (automatic_layouts iface))) clash.disagree)

pub ruled_many : (limits : Limits) (iface : List IfaceEntry) → IsTooMany iface → Some DERIVED_LAYOUTS_ARE_ALLOWED ≡ first_unmet (automatic_rules limits iface)
unfolding automatic_rules
ruled_many limits iface many = sym (ap₂ (λ (a b : Bool). rules_by a (b && layouts_meet limits (automatic_layouts iface))) many.agree many.many)

pub ruled_layouts : (limits : Limits) (iface : List IfaceEntry) (layouts : List GroupLayoutInfo) (meet : Bool) → IsLayouts iface layouts → layouts_meet limits layouts ≡ meet → (if meet then None else Some DERIVED_LAYOUTS_ARE_ALLOWED) ≡ first_unmet (automatic_rules limits iface)
unfolding automatic_rules
ruled_layouts limits iface layouts meet are e =
    by_meet meet
    ∙ (ap (λ (b : Bool). rules_by true b) (sym e ∙ ap (layouts_meet limits) are.derived)
    ∙ sym (ap₂ (λ (a b : Bool). rules_by a (b && layouts_meet limits (automatic_layouts iface))) are.agree are.fit))
  where
    by_meet : (b : Bool) → (if b then None else Some DERIVED_LAYOUTS_ARE_ALLOWED) ≡ rules_by true b
    by_meet true = refl
    by_meet false = refl
