-- Targets beside which no others stand.
use Rattle.std.proofs.Common.{◌≡◌, List, [], ◌∷◌, Option, refl}
use Rattle.wg_types.specs.declared.formats.Format.{Format}
use Rattle.wg_model.specs.Render.{none_given, same_targets}

pub same_as_none : (targets : List (Option Format)) → same_targets targets [] ≡ none_given targets
same_as_none [] = refl
same_as_none (target ∷ targets) = refl
