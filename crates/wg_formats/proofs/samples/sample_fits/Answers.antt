use Rattle.std.proofs.Common.{drop, refl}
use Rattle.std.proofs.Math.Seq.{drop-cons}
use Rattle.wg_formats.proofs.SampleBytes.{stopped}
use Rattle.wg_formats.proofs.samples.sample_fits.Goals as goal

pub returns-in_default-bytes_within : goal.returns-in_default-bytes_within
returns-in_default-bytes_within c =
    stopped c.in-Some.most c.loop-format.bytes c.args.most c.args.formats.now (drop c.loop-format.format-index c.args.formats.now) _ _ _ c.in-Some.is c.loop-format.invariant.0
    (drop-cons c.args.formats.now c.loop-format.format-index _ c.loop-format-test.true) refl c.in_default-bytes_within.ensures
