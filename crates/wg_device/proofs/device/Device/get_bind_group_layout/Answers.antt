use Rattle.wg_types.specs.declared.wanted.Wanted.TheVariants as wanted
use Rattle.wg_device.specs.Fronts.{front_in, setup_of}
use Rattle.wg_device.proofs.Calling.{after_one}
use Rattle.wg_device.proofs.device.Device.get_bind_group_layout.Goals as goal

pub returns-clause-genuine : goal.returns-clause-genuine
returns-clause-genuine g c =
    after_one c.make_of.result (setup_of c.args.self.now.lock) (front_in c.args.self.now.lock c.make_of.new.pass)
    c.in_ok-pipeline.pipeline c.args.pipeline.now wanted.Pipeline c.in_ok-pipeline.ensures.same
    c.make_of.ensures.genuine
