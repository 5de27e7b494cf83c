use Rattle.std.proofs.Common.{◌≡◌, ◌∙◌, ap, sym, subst, map, arith, List}
use Rattle.wg_check.specs.declared.ends.SegmentEvent.{SegmentEvent}
use Rattle.wg_check.specs.Keys.{key_events}
use Rattle.wg_check.specs.Segments.{Rises, story_at, ranked, EndsIn}
use Rattle.wg_check.proofs.Placing.{rises}
use Rattle.wg_check.proofs.Judging.{verdict_from}
use Rattle.wg_check.proofs.clashes.least_clash.Goals as goal

pub clash_among-requires : goal.clash_among-requires
clash_among-requires c =
    let within : EndsIn c.args.ends.now (key_events 0 c.args.items.now) = subst (EndsIn c.args.ends.now) c.requires.events c.requires.within in
    let are : c.as_slice.result.now ≡ map (ranked c.args.ends.now) (key_events 0 c.args.items.now) = c.as_slice.ensures.value ∙ (c.in_ok-segments.ensures ∙ ap (map (ranked c.args.ends.now)) c.requires.events) in
    λ n. subst (λ (events : List SegmentEvent). Rises 0 (story_at n 0 events)) (sym are) (rises c.args.items.now c.args.ends.now c.requires.once c.requires.ascending within n)

pub returns : goal.returns
returns c =
    let within : EndsIn c.args.ends.now (key_events 0 c.args.items.now) = subst (EndsIn c.args.ends.now) c.requires.events c.requires.within in
    let are : c.as_slice.result.now ≡ map (ranked c.args.ends.now) (key_events 0 c.args.items.now) = c.as_slice.ensures.value ∙ (c.in_ok-segments.ensures ∙ ap (map (ranked c.args.ends.now)) c.requires.events) in
    verdict_from c.args.items.now c.args.ends.now c.as_slice.result.now c.in_ok-spotted.spotted c.clash_of.result _ c.requires.once c.requires.ascending within are (omega arith) c.in_ok-spotted.ensures c.clash_of.ensures
