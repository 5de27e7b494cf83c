use Rattle.wg_player.proofs.seats.+calls_at.Given as goal

abbrev pub decreases-calls_at : goal.decreases-calls_at
decreases-calls_at l = l.lane
