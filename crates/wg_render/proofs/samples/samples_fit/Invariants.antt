use Rattle.std.proofs.Common.{◌≡◌, ◌≤◌, drop}
use Rattle.wg_model.specs.SampleBytes.{bytes_after, bytes_per_sample}
use Rattle.wg_render.specs.Attached.{formats_in}
use Rattle.wg_render.proofs.samples.samples_fit.Given as goal

abbrev pub invariant-loop-color : goal.invariant-loop-color
invariant-loop-color l = (bytes_after l.bytes (formats_in (drop l.color-index l.colors)) ≡ bytes_per_sample (formats_in l.colors)) × (l.bytes ≤ l.most)
