use Rattle.std.proofs.Common.{◌∙◌}
use Rattle.wg_check.proofs.Finding.{clash_found}
use Rattle.wg_check.proofs.segments.clash_among.Goals as goal

pub returns : goal.returns
returns c = clash_found c.args.events.now c.as_slice.result.now c.args.count c.in_ok-found.found c.in_ok-clash.clash c.requires (c.as_slice.ensures.value ∙ c.in_ok-entries.ensures) c.in_ok-found.ensures c.in_ok-clash.ensures
