use Rattle.std.proofs.Common.{◌-◌}
use Rattle.wg_check.proofs.segments.+found_among.Given as goal

abbrev pub decreases-found_among : goal.decreases-found_among
decreases-found_among l = l.hi - l.lo
