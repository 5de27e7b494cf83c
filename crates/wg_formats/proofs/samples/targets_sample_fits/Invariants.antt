use Rattle.std.proofs.Common.{◌≡◌, ◌≤◌, drop}
use Rattle.wg_model.specs.SampleBytes.{bytes_after, bytes_per_sample}
use Rattle.wg_model.specs.FixedFunction.{target_formats}
use Rattle.wg_formats.proofs.samples.targets_sample_fits.Given as goal

abbrev pub invariant-loop-target : goal.invariant-loop-target
invariant-loop-target l = (bytes_after l.bytes (target_formats (drop l.target-index l.targets)) ≡ bytes_per_sample (target_formats l.targets)) × (l.bytes ≤ l.most)
