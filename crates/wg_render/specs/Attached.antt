-- The views of attachments, by the attachments that are left.
use Rattle.std.specs.Prelude.{◌≡◌, Bool, ◌&&◌, List, Option, ◌++◌, map, option_map}
use Rattle.std.specs.List.{flat_map}
use Rattle.std.specs.Option.{option_to_list}
use Rattle.wg_types.specs.declared.formats.Format.{Format}
use Rattle.wg_types.specs.declared.textures.ViewInfo.{ViewInfo}
use Rattle.wg_model.specs.Attachments.{ColorTarget, DepthTarget, Attached, attached_whole, color_view, depth_view, target_views, attached_are_apart}

-- the color attachments that are not left out
abbrev pub given_of : List (Option ColorTarget) → List ColorTarget
given_of colors = flat_map (λ (color : Option ColorTarget). option_to_list color) colors

-- the view of a depth attachment, if there is one
abbrev pub depth_views : Option DepthTarget → List ViewInfo
depth_views depth = option_to_list (option_map depth_view depth)

-- the formats of color attachments, of which some may be left out
abbrev pub formats_in : List (Option ColorTarget) → List (Option Format)
formats_in colors = map (option_map (λ (target : ColorTarget). (color_view target).texture_info.format)) colors

-- the views to which a pass draws
abbrev pub drawn_in : List (Option ColorTarget) → Option DepthTarget → List ViewInfo
drawn_in colors depth = map color_view (given_of colors) ++ depth_views depth

-- the depth attachment as one that is attached whole, if there is one
abbrev pub depth_attached : Option DepthTarget → List Attached
depth_attached depth = option_to_list (option_map (λ (target : DepthTarget). attached_whole (depth_view target)) depth)

-- all that is attached
abbrev pub attached_in : List (Option ColorTarget) → Option DepthTarget → List Attached
attached_in colors depth = flat_map target_views (given_of colors) ++ depth_attached depth

-- The answer to whether attachments share no cell among themselves and with those that come after them. These are not looked
-- at among themselves.
abbrev pub AreApartBefore : List Attached → List Attached → Bool → Type 0
AreApartBefore views later answer = attached_are_apart (views ++ later) ≡ (answer && attached_are_apart later)
