use Rattle.wg_types.specs.declared.wanted.Wanted.TheVariants as wanted
use Rattle.wg_device.specs.Fronts.{front_in, setup_of}
use Rattle.wg_device.proofs.Calling.{after_group}
use Rattle.wg_device.proofs.device.Device.create_bind_group.Goals as goal

pub returns-clause-genuine : goal.returns-clause-genuine
returns-clause-genuine g c =
    after_group c.make_of.result (setup_of c.args.self.now.lock) (front_in c.args.self.now.lock c.make_of.new.pass)
    c.in_ok-layout.layout c.args.layout.now wanted.GroupLayout c.from_vec-entries.result c.args.entries.items c.in_ok-layout.ensures.same c.from_vec-entries.ensures
    c.make_of.ensures.genuine
