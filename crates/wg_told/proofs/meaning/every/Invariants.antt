use Rattle.std.proofs.Common.{◌≡◌, drop}
use Rattle.wg_told.specs.Flats.{every}
use Rattle.wg_told.proofs.Lists.{joined}
use Rattle.wg_told.proofs.meaning.every.Given as goal

abbrev pub invariant-loop-flat : goal.invariant-loop-flat
invariant-loop-flat g l = joined l.found (every (g.M.Reads.reads l.reading) (drop l.flat-index l.flats)) ≡ every (g.M.Reads.reads l.reading) l.flats
