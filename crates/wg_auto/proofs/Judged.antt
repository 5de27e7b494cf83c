-- What merging answers is right.
use Rattle.std.proofs.Common.{◌≡◌, ◌≤◌, List, [], ◌∷◌, None, true, false, ◌&&◌, if◌then◌else◌, ap, ap₂, sym, ◌∙◌, arith, subst}
use Rattle.std.proofs.lemmas.Bool.Decides.{nat_tests}
use Rattle.wg_types.specs.declared.bindings.IfaceEntry.{IfaceEntry}
use Rattle.wg_types.specs.declared.groups.GroupLayoutInfo.{GroupLayoutInfo}
use Rattle.wg_model.specs.Automatic.{kinds_agree, groups_fit, group_count, layouts_below}
use Rattle.wg_auto.specs.Automatic.{AreLeast}
use Rattle.wg_auto.specs.Walks.{in_order, first_clash, SameUses}
use Rattle.wg_auto.specs.Merged.{IsLayouts, IsTooMany}
use Rattle.wg_auto.proofs.Clashes.{none_clash, agree_all}
use Rattle.wg_auto.proofs.Least.{are_least}
use Rattle.wg_auto.proofs.Serving.{least_serve, least_covered}

pub few_groups : (iface : List IfaceEntry) → groups_fit iface ≡ true → group_count iface ≤ 4
few_groups [] fit = omega arith
few_groups (used ∷ iface) fit = grind (arith, nat_tests, few_groups iface)

agree_in_order : (iface uses : List IfaceEntry) → in_order uses ≡ true → SameUses uses iface → first_clash uses ≡ None → kinds_agree iface ≡ true
agree_in_order iface uses order same none = agree_all iface (none_clash iface uses order same none)

pub too_many : (iface uses : List IfaceEntry) → in_order uses ≡ true → SameUses uses iface → first_clash uses ≡ None → groups_fit iface ≡ false → IsTooMany iface
too_many iface uses order same none many = record { agree = agree_in_order iface uses order same none; many = many }

pub layouts_are : (iface uses : List IfaceEntry) (layouts : List GroupLayoutInfo) → in_order uses ≡ true → SameUses uses iface → first_clash uses ≡ None → groups_fit iface ≡ true → layouts ≡ layouts_below iface (group_count iface) → IsLayouts iface layouts
layouts_are iface uses layouts order same none fit are =
    let agree : kinds_agree iface ≡ true = agree_in_order iface uses order same none in
    let least : AreLeast iface layouts = subst (AreLeast iface) (sym are) (are_least iface) in
    record {
      agree = agree;
      fit = fit;
      derived = are ∙ sym (ap (λ b. if b then layouts_below iface (group_count iface) else underived) (ap₂ ◌&&◌ agree fit));
      least = least;
      serve = least_serve iface layouts agree least;
      covered = λ others offered. least_covered iface layouts others least offered;
    }
  where
    underived : List GroupLayoutInfo
    underived = []
