-- Bind groups of the layouts of one pipeline do not serve another.
use Rattle.std.proofs.Common.{◌≡◌, ℕ, zero, suc, ◌+◌, ◌==◌, Bool, true, false, not, ◌||◌, List, [], ◌∷◌, Option, Some, None, slice_get, slice_index_or, is_some, option_and_then, if◌then◌else◌, refl, ap, ap₂, sym, ◌∙◌, true≢false, arith}
use Rattle.std.proofs.lemmas.Bool.{and_left, and_right}
use Rattle.std.specs.Option.{option_map_or}
use Rattle.wg_rules.specs.declared.TheConstants.{PIPELINE_IS_SET, GROUPS_FIT_PIPELINE, WRITTEN_BINDINGS_ARE_APART}
use Rattle.wg_types.specs.Handles.{HandleValue}
use Rattle.wg_types.specs.declared.groups.GroupInfo.{GroupInfo}
use Rattle.wg_types.specs.declared.groups.GroupLayoutInfo.{GroupLayoutInfo}
use Rattle.wg_types.specs.declared.commands.BoundGroup.{BoundGroup}
use Rattle.wg_model.specs.Rules.{first_unmet}
use Rattle.wg_model.specs.Equality.{equivalent, same_owner, equivalent_for}
use Rattle.wg_model.specs.Bound.{has_entries, info_set, is_automatic, owner_of, layouts_in, layout_fits, layouts_fit, are_clear, layouts_places, bound_rules}
use Rattle.wg_model.specs.Settings.{pipeline_layouts}
use Rattle.wg_model.specs.Owned.{OthersAreRefused, OthersDoNotRun}

layout_refused : (owner : Option ℕ) (other : ℕ) (layout : GroupLayoutInfo) (group : Option BoundGroup) (known : GroupInfo) → has_entries layout ≡ true → info_set group ≡ Some known → known.layout_info.exclusive ≡ Some other → same_owner owner (Some other) ≡ false → layout_fits owner layout group ≡ false
layout_refused owner other layout group known asked set exclusive apart =
    let differs : same_owner owner known.layout_info.exclusive ≡ false = ap (same_owner owner) exclusive ∙ apart in
    ap₂ (λ (b : Bool) (o : Option GroupInfo). not b || option_map_or (λ (k : GroupInfo). equivalent_for owner layout k.layout_info) o false) asked set
    ∙ and_left (same_owner owner known.layout_info.exclusive) (equivalent layout.entries known.layout_info.entries) differs

refused_from : (owner : Option ℕ) (other : ℕ) (layouts : List GroupLayoutInfo) (groups : List (Option BoundGroup)) (from index : ℕ) (layout : GroupLayoutInfo) (known : GroupInfo) → slice_get layouts index ≡ Some layout → has_entries layout ≡ true → info_set (slice_index_or groups (from + index) None) ≡ Some known → known.layout_info.exclusive ≡ Some other → same_owner owner (Some other) ≡ false → layouts_fit owner layouts groups from ≡ false
refused_from owner other [] groups from index layout known at asked set exclusive apart = absurd (true≢false (sym (ap is_some at)))
refused_from owner other (x ∷ xs) groups from zero layout known at asked set exclusive apart =
    let same : x ≡ layout = ap (λ (o : Option GroupLayoutInfo). option_map_or (λ (l : GroupLayoutInfo). l) o x) at in
    and_left (layout_fits owner x (slice_index_or groups from None)) (layouts_fit owner xs groups (from + 1))
    (layout_refused owner other x (slice_index_or groups from None) known (ap has_entries same ∙ asked) (ap (λ (n : ℕ). info_set (slice_index_or groups n None)) (omega arith) ∙ set) exclusive apart)
refused_from owner other (x ∷ xs) groups from (suc index) layout known at asked set exclusive apart =
    and_right (layout_fits owner x (slice_index_or groups from None)) (layouts_fit owner xs groups (from + 1))
    (refused_from owner other xs groups (from + 1) index layout known at asked (ap (λ (n : ℕ). info_set (slice_index_or groups n None)) (omega arith) ∙ set) exclusive apart)

pub others_are_refused : OthersAreRefused
unfolding bound_rules
others_are_refused owner other layouts groups index of_other apart =
    ap (λ (b : Bool). first_unmet ((GROUPS_FIT_PIPELINE, b) ∷ ((WRITTEN_BINDINGS_ARE_APART, are_clear (layouts_places layouts groups 0)) ∷ [])))
    (refused_from owner other layouts groups 0 index of_other.layout of_other.known of_other.there of_other.asked (ap (λ (n : ℕ). info_set (slice_index_or groups n None)) (omega arith) ∙ of_other.set) of_other.exclusive apart)

-- A pipeline owns its own layouts or none.
owns_none_else : (automatic : Bool) (n other : ℕ) → (n == other) ≡ false → same_owner (if automatic then Some n else None) (Some other) ≡ false
owns_none_else true n other apart = apart
owns_none_else false n other apart = refl

by_pipeline : (groups : List (Option BoundGroup)) (pipeline : HandleValue) (found : Option HandleValue) → found ≡ Some pipeline → first_unmet (bound_rules (owner_of pipeline) (layouts_in pipeline.info) groups) ≡ Some GROUPS_FIT_PIPELINE → first_unmet ((PIPELINE_IS_SET, is_some found) ∷ bound_rules (option_and_then owner_of found) (pipeline_layouts found) groups) ≡ Some GROUPS_FIT_PIPELINE
by_pipeline groups pipeline found at refused =
    ap (λ (o : Option HandleValue). first_unmet ((PIPELINE_IS_SET, is_some o) ∷ bound_rules (option_and_then owner_of o) (pipeline_layouts o) groups)) at ∙ refused

pub others_do_not_run : OthersDoNotRun
others_do_not_run set pipeline other index at of_other apart =
    by_pipeline set.groups pipeline set.pipeline at
    (others_are_refused (owner_of pipeline) other (layouts_in pipeline.info) set.groups index of_other (owns_none_else (is_automatic pipeline.info) pipeline.reference.number other apart))
