-- What a command does to what is set in a render pass or a bundle.
use Rattle.std.specs.Prelude.{◌+◌, ◌++◌, None, if◌then◌else◌}
use Rattle.std.specs.Option.{option_or}
use Rattle.wg_types.specs.Commands.{Command}
use Rattle.wg_model.specs.Settings.{unsets}
use Rattle.wg_model.specs.Queries.{Occlusion, occlusion_call, begun_after, active_after}
use Rattle.wg_model.specs.Render.{RenderSet, vertex_given, index_given, command_draws, command_touches}
use Rattle.wg_compute.specs.After.{slots_after, emptied, settings_after}

-- the queries of the pass after one more command
abbrev pub occlusion_after : Occlusion → Command → Occlusion
occlusion_after queries command =
    record {
      begun = begun_after queries.begun (occlusion_call command);
      active = active_after queries.active (occlusion_call command);
    }

-- what is set after one more command
abbrev pub render_after : RenderSet → Command → RenderSet
render_after render command =
    record {
      set = settings_after render.set command;
      ranges = emptied (unsets command) (slots_after (vertex_given command) 0 render.ranges);
      index = if unsets command then None else option_or (index_given command) render.index;
      targets = render.targets;
      extent = render.extent;
      queries = render.queries;
      occlusion = occlusion_after render.occlusion command;
      draws = render.draws + command_draws command;
      most = render.most;
      touches = render.touches ++ command_touches render.queries command;
    }
