-- The views and the query set that the begin of a render pass names (WebGPU, "Render Pass Encoder Creation").
use Rattle.std.specs.Prelude.{List, [], ◌∷◌, ◌++◌, map, Option, Some, None, option_map}
use Rattle.std.specs.List.{flat_map}
use Rattle.wg_types.specs.Refs.{maybe_wanted}
use Rattle.wg_types.specs.declared.wanted.Wanted.{Wanted}
use Rattle.wg_types.specs.declared.wanted.Wanted.TheVariants as wanted
use Rattle.wg_types.specs.declared.render.ColorTargetOf.{ColorTargetOf}
use Rattle.wg_types.specs.declared.render.DepthTargetOf.{DepthTargetOf}
use Rattle.wg_types.specs.declared.render.RenderBeginOf.{RenderBeginOf}

-- the views that a color attachment names: its own, and that to which it resolves, if any
abbrev pub color_named : {R : Type 0} → Option (ColorTargetOf R) → List (R × Wanted)
color_named None = []
color_named (Some target) = (target.view, wanted.View) ∷ maybe_wanted wanted.View target.resolve

-- the view that a depth attachment names
abbrev pub depth_named : {R : Type 0} → Option (DepthTargetOf R) → List (R × Wanted)
depth_named None = []
depth_named (Some target) = (target.view, wanted.View) ∷ []

-- the views in the order of the keys: of each color attachment the view and that to which it is resolved, then that of the
-- depth attachment
abbrev pub targets_named : {R : Type 0} → RenderBeginOf R → List (R × Wanted)
targets_named begin = flat_map color_named begin.colors ++ depth_named begin.depth

-- the objects that the begin of a render pass names: the views that it attaches, and then its query set
abbrev pub begin_named : {R : Type 0} → RenderBeginOf R → List (R × Wanted)
begin_named begin = targets_named begin ++ maybe_wanted wanted.Queries begin.queries

-- a color attachment with other views
abbrev pub map_color : {R S : Type 0} → (R → S) → ColorTargetOf R → ColorTargetOf S
map_color f target = record { view = f target.view; depth_slice = target.depth_slice; resolve = option_map f target.resolve; load = target.load; store = target.store }

-- a depth attachment with another view
abbrev pub map_depth : {R S : Type 0} → (R → S) → DepthTargetOf R → DepthTargetOf S
map_depth f target =
    record {
      view = f target.view;
      depth_load = target.depth_load;
      depth_clear = target.depth_clear;
      depth_store = target.depth_store;
      depth_read_only = target.depth_read_only;
      stencil_load = target.stencil_load;
      stencil_store = target.stencil_store;
      stencil_read_only = target.stencil_read_only;
    }

-- the begin of a render pass with other views and another query set
abbrev pub map_begin : {R S : Type 0} → (R → S) → RenderBeginOf R → RenderBeginOf S
map_begin f begin = record { colors = map (option_map (map_color f)) begin.colors; depth = option_map (map_depth f) begin.depth; queries = option_map f begin.queries; max_draws = begin.max_draws }
