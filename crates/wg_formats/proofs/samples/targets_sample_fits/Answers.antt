use Rattle.std.proofs.Common.{drop, ap}
use Rattle.std.proofs.Math.Seq.{drop-cons}
use Rattle.wg_model.specs.FixedFunction.{target_formats}
use Rattle.wg_formats.proofs.SampleBytes.{stopped}
use Rattle.wg_formats.proofs.samples.targets_sample_fits.Goals as goal

pub returns-in_default-bytes_within : goal.returns-in_default-bytes_within
returns-in_default-bytes_within c =
    stopped c.in-Some.most c.loop-target.bytes c.args.most (target_formats c.args.targets.now) (target_formats (drop c.loop-target.target-index c.args.targets.now)) _ _ _ c.in-Some.is c.loop-target.invariant.0
    (ap target_formats (drop-cons c.args.targets.now c.loop-target.target-index _ c.loop-target-test.true)) c.format_of.ensures c.in_default-bytes_within.ensures
