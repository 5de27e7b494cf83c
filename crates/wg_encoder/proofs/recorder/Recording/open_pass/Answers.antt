use Rattle.wg_encoder.proofs.recorder.Recording.open_pass.Goals as goal

pub returns : goal.returns
returns c = c.open_pass.ensures c.args.self.now.maker c.args.self.now.targets c.args.self.now.commands c.in-Some.ensures
