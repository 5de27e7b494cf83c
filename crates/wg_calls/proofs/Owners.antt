-- What a genuine handle of a bind group tells of the pipeline that the group serves.
use Rattle.std.proofs.Common.{◌≡◌, reverse, Bool, true, false, Option, Some, None, refl, ap, ◌∙◌, if◌then◌else◌}
use Rattle.std.specs.Prelude.{◌↔◌}
use Rattle.wg_types.specs.declared.handles.Info.{Info}
use Rattle.wg_types.specs.declared.handles.Info.TheVariants.{Group}
use Rattle.wg_types.specs.declared.groups.GroupInfo.{GroupInfo}
use Rattle.wg_model.specs.Bound.{group_in}
use Rattle.wg_history.specs.Exclusive.{IsGroupOf}
use Rattle.wg_history.proofs.Exclusive.{groups_are_exclusive}
use Rattle.wg_history.proofs.Reached.{genuine_knows}
use Rattle.wg_calls.specs.Genuine.{GroupsTellOwners}

pub groups_tell_owners : GroupsTellOwners
groups_tell_owners setup history handle group pipeline run genuine known = by_valid handle.valid refl known
  where
    by_info : (info : Info) → handle.info ≡ info → handle.valid ≡ true → group_in info ≡ Some group
        → (group.layout_info.exclusive ≡ Some pipeline) ↔ IsGroupOf setup (reverse history) handle.reference.number pipeline
    by_info (Group found) same valid is =
        let knows = genuine_knows setup (reverse history) handle genuine valid in
        let found_is : found ≡ group = cc (is) in
        groups_are_exclusive setup history handle.reference.number pipeline group run knows.valid (knows.known ∙ ap (λ (info : Info). Some info) (same ∙ ap (λ (g : GroupInfo). Group g) found_is))
    by_info _ same valid is = absurd (cc (is))

    by_valid : (b : Bool) → handle.valid ≡ b → (let found : Option GroupInfo = if b then group_in handle.info else None in found) ≡ Some group
        → (group.layout_info.exclusive ≡ Some pipeline) ↔ IsGroupOf setup (reverse history) handle.reference.number pipeline
    by_valid true valid is = by_info handle.info refl valid is
    by_valid false valid is = absurd (cc (is))
