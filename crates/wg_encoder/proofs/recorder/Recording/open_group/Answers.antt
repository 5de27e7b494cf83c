use Rattle.std.proofs.Common.{ap, nat_lt}
use Rattle.wg_encoder.proofs.recorder.Recording.open_group.Goals as goal

pub returns : goal.returns
returns c = ap (nat_lt 0) (c.depth.ensures c.args.self.now.maker c.args.self.now.targets c.args.self.now.commands c.in-Some.ensures)
