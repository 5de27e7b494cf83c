use Rattle.std.specs.Option.{option_copied}
use Rattle.wg_types.specs.declared.wanted.Wanted.TheVariants as wanted
use Rattle.wg_device.specs.Fronts.{front_in, setup_of}
use Rattle.wg_device.proofs.Calling.{after_maybe}
use Rattle.wg_device.proofs.device.Device.create_render_pipeline.Goals as goal

pub returns-clause-genuine : goal.returns-clause-genuine
returns-clause-genuine g c =
    after_maybe c.make_of.result (setup_of c.args.self.now.lock) (front_in c.args.self.now.lock c.make_of.new.pass)
    c.in_ok-layout.layout (option_copied c.args.layout) wanted.PipelineLayout c.in_ok-layout.ensures
    c.make_of.ensures.genuine
