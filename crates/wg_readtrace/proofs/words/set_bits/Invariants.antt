use Rattle.std.proofs.Common.{◌≡◌, ◌≤◌, ◌<◌, ◌-◌, drop, take, []}
use Rattle.wg_readtrace.specs.Words.{set_from}
use Rattle.wg_readtrace.proofs.words.set_bits.Given as goal

abbrev pub invariant-loop-i : goal.invariant-loop-i
invariant-loop-i l = (set_from l.set (take (l.i - l.start) (drop l.start l.word)) (drop l.i l.word) ≡ set_from 0 [] l.word) × (l.start ≤ l.i) × (l.set < 8192)
