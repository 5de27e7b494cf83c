-- Views that are attached, by the first of them.
use Rattle.std.proofs.Common.{◌≡◌, List, [], ◌∷◌, ◌++◌, map, Option, Some, None, refl, ap, append_assoc, arith}
use Rattle.std.specs.List.{list_all, flat_map}
use Rattle.std.proofs.lemmas.Bool.Decides.{nat_tests}
use Rattle.wg_types.specs.declared.textures.ViewInfo.{ViewInfo}
use Rattle.wg_rows.specs.Runs.{Cells}
use Rattle.wg_model.specs.Attachments.{ColorTarget, DepthTarget, target_views, are_alike, all_alike, sliced}
use Rattle.wg_render.specs.Attached.{given_of, depth_attached, attached_in}

-- The first of some views is like all of them where all are alike.
pub alike_first : (view : ViewInfo) (views : List ViewInfo) → list_all (are_alike view) (view ∷ views) ≡ all_alike (view ∷ views)
alike_first view views = grind (arith, nat_tests)

-- The views of the first color attachment stand before the others.
pub attached_cons : (target : ColorTarget) (colors : List (Option ColorTarget)) (depth : Option DepthTarget) → attached_in (Some target ∷ colors) depth ≡ target_views target ++ attached_in colors depth
attached_cons target colors depth = append_assoc (target_views target) (flat_map target_views (given_of colors)) (depth_attached depth)

-- Where no slice is given all cells are attached.
pub sliced_whole : (cells : List Cells) → map (sliced None) cells ≡ cells
sliced_whole [] = refl
sliced_whole (run ∷ cells) = ap (λ rest. run ∷ rest) (sliced_whole cells)
