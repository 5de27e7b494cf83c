use Rattle.std.proofs.Common.{ap, ◌∙◌}
use Rattle.wg_types.specs.Commands.{Command, map_refs as map_command}
use Rattle.wg_encoder.specs.Recorders.{recorded}
use Rattle.wg_desk.specs.Seats.{found_at}
use Rattle.wg_desk.specs.Desks.{DeskValue}
use Rattle.wg_desk.proofs.desk.Desk.record.Goals as goal

pub returns-clause-after : goal.returns-clause-after
returns-clause-after c =
    c.in_ok-record.ensures.after
    ∙ ap (λ (command : Command). recorded c.args.recorder.now c.args.on command)
    (c.in_ok-command.ensures ∙ ap (λ (v : DeskValue). map_command (found_at v.seats) c.args.command.now) c.self.view_is)
