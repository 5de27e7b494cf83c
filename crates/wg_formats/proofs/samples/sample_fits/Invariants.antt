use Rattle.std.proofs.Common.{◌≡◌, ◌≤◌, drop}
use Rattle.wg_model.specs.SampleBytes.{bytes_after, bytes_per_sample}
use Rattle.wg_formats.proofs.samples.sample_fits.Given as goal

abbrev pub invariant-loop-format : goal.invariant-loop-format
invariant-loop-format l = (bytes_after l.bytes (drop l.format-index l.formats) ≡ bytes_per_sample l.formats) × (l.bytes ≤ l.most)
