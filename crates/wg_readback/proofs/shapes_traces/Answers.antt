use Rattle.wg_readback.proofs.shapes_traces.Goals as goal
use Rattle.wg_readback.proofs.Shaping.{trace_is_shaped}

pub returns : goal.returns
returns _ = record { shaped = λ works steps. trace_is_shaped works steps }
