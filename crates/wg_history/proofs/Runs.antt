-- Runs, entry by entry.
use Rattle.std.proofs.Common.{◌≡◌, ◌∷◌}
use Rattle.wg_history.specs.Entries.{Setup, Entry, Past}
use Rattle.wg_history.specs.Answers.{reply_to, IsRun}

-- What a run has of its newest entry, and of those before it.
pub newest : (setup : Setup) (entry : Entry) (older : Past) → IsRun setup (entry ∷ older) → entry.reply ≡ reply_to setup older entry.event
newest setup entry older run = cc (run)

pub others : (setup : Setup) (entry : Entry) (older : Past) → IsRun setup (entry ∷ older) → IsRun setup older
others setup entry older run = cc (run)
