use Rattle.wg_types.specs.declared.wanted.Wanted.TheVariants as wanted
use Rattle.wg_device.specs.Fronts.{front_in, setup_of}
use Rattle.wg_device.proofs.Calling.{after_some}
use Rattle.wg_device.proofs.device.Device.create_pipeline_layout.Goals as goal

pub returns-clause-genuine : goal.returns-clause-genuine
returns-clause-genuine g c =
    after_some c.make_of.result (setup_of c.args.self.now.lock) (front_in c.args.self.now.lock c.make_of.new.pass)
    c.from_vec-layouts.result c.args.layouts.items wanted.GroupLayout c.from_vec-layouts.ensures
    c.make_of.ensures.genuine
