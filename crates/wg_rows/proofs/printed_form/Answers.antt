use Rattle.wg_rows.proofs.printed_form.Goals as goal
use Rattle.wg_rows.proofs.Told.{accesses_printed, uses_printed, bars_printed}

pub returns : goal.returns
returns _ = record { accesses = accesses_printed; uses = uses_printed; bars = bars_printed }
