use Rattle.std.proofs.Common.{subst, reverse}
use Rattle.wg_player.specs.Seats.{BodiesAreSeated}
use Rattle.wg_player.proofs.Seating.{all_ran, phase_ready, phase_done}
use Rattle.wg_player.proofs.phase.play_phase.Goals as goal

pub meet_passes-requires : goal.meet_passes-requires
meet_passes-requires g c = record {
  passes =
      let ran = all_ran c.args.device.now c.args.lanes.now c.args.objects.now.items c.args.passes.items c.in_ok-bodies.bodies.items c.run_bodies.new.bodies.items (subst (λ objects. BodiesAreSeated c.args.device.now c.args.lanes.now objects c.args.passes.items (reverse c.in_ok-bodies.bodies.items)) c.as_slice.ensures.value c.in_ok-bodies.ensures.seated) c.run_bodies.ensures.count c.run_bodies.ensures.each c.in_ok-passes.ensures.through in
      phase_ready c.args.device.now c.args.lanes.now c.args.objects.now.items c.requires.at.0 c.args.passes.items c.in_ok-bodies.bodies.items c.run_bodies.new.bodies.items c.in_ok-passes.passes.items c.requires.at.1 ran c.in_ok-passes.ensures.passes;
}

pub returns : goal.returns
returns g c = record {
  ran =
      let ran = all_ran c.args.device.now c.args.lanes.now c.args.objects.now.items c.args.passes.items c.in_ok-bodies.bodies.items c.run_bodies.new.bodies.items (subst (λ objects. BodiesAreSeated c.args.device.now c.args.lanes.now objects c.args.passes.items (reverse c.in_ok-bodies.bodies.items)) c.as_slice.ensures.value c.in_ok-bodies.ensures.seated) c.run_bodies.ensures.count c.run_bodies.ensures.each c.in_ok-passes.ensures.through in
      phase_done c.args.device.now c.args.lanes.now c.args.objects.now.items c.requires.at.0 c.args.passes.items c.in_ok-bodies.bodies.items c.run_bodies.new.bodies.items c.in_ok-passes.passes.items c.in_ok-passes.made.items _ _ ran c.in_ok-passes.ensures.passes c.meet_passes.ensures.met c.in_ok-passes.ensures.made c.in_ok-append.ensures.items;
}
