use Rattle.std.proofs.Common.{◌==◌, ◌&&◌, List, reverse, subst}
use Rattle.std.specs.List.{list_any}
use Rattle.wg_types.specs.declared.handles.ObjRef.{ObjRef}
use Rattle.wg_history.specs.Objects.{is_own, is_command_buffer}
use Rattle.wg_state.specs.Recordings.{HandsOut}
use Rattle.wg_state.proofs.Handed.{handed_all}
use Rattle.wg_state.proofs.recordings.forget_spent.Goals as goal

pub returns-clause-handed : goal.returns-clause-handed
returns-clause-handed c =
    handed_all c.args.setup (reverse c.args.book.now.entries) c.args.event.now c.args.recordings.now.kept c.forget_dropped.new.recordings.kept c.args.spent.now.handed c.forget_dropped.new.spent.handed c.forget_all.new.spent.handed
    c.forget_dropped.ensures.kept c.forget_dropped.ensures.handed
    (subst (λ (bs : List ObjRef). HandsOut (λ n. list_any (λ buffer. buffer.number == n && is_own c.args.setup (reverse c.args.book.now.entries) is_command_buffer buffer) bs) c.forget_dropped.new.recordings.kept c.forget_dropped.new.spent.handed c.forget_all.new.spent.handed) c.submitted.ensures c.forget_all.ensures.handed)
