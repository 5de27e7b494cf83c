use Rattle.std.proofs.Common.{◌≡◌, List, [], take, vec_len}
use Rattle.wg_history.specs.Entries.{Entry}
use Rattle.wg_device.specs.Fronts.{setup_of}
use Rattle.wg_play.specs.Play.{PlaysTo}
use Rattle.wg_player.specs.Moves.{AllPassesAt}
use Rattle.wg_player.proofs.phase.play_phases.Given as goal

abbrev pub invariant-loop-index : goal.invariant-loop-index
invariant-loop-index g l = (front : List Entry) × (vec_len l.passes ≡ l.device.lock.callers) × AllPassesAt l.device.lock 0 l.passes.items front × PlaysTo (setup_of l.device.lock) (take l.index l.phases) [] front l.objects.items
