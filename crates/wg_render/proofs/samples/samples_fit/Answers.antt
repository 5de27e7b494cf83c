use Rattle.std.proofs.Common.{◌∙◌, drop, ap}
use Rattle.std.specs.Prelude.{option_map}
use Rattle.std.proofs.Math.Seq.{drop-cons}
use Rattle.wg_model.specs.Attachments.{ColorTarget, color_view}
use Rattle.wg_formats.proofs.SampleBytes.{stopped}
use Rattle.wg_render.specs.Attached.{formats_in}
use Rattle.wg_render.proofs.samples.samples_fit.Goals as goal

pub returns-in_default-bytes_within : goal.returns-in_default-bytes_within
returns-in_default-bytes_within c =
    stopped c.in-Some.most c.loop-color.bytes c.args.limit (formats_in c.args.colors.now) (formats_in (drop c.loop-color.color-index c.args.colors.now)) _ _ _ c.in-Some.is c.loop-color.invariant.0
    (ap formats_in (drop-cons c.args.colors.now c.loop-color.color-index c.color-item.result c.loop-color-test.true))
    (c.color_format.ensures ∙ ap (option_map (λ (target : ColorTarget). (color_view target).texture_info.format)) c.color-item.is) c.in_default-bytes_within.ensures
