use Rattle.wg_player.proofs.seats.+first_at.Given as goal

abbrev pub decreases-first_at : goal.decreases-first_at
decreases-first_at l = l.lane
