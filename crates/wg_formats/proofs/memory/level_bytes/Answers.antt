use Rattle.std.proofs.Common.{rules}
use Rattle.wg_formats.proofs.Levels.{four_words}
use Rattle.wg_formats.proofs.memory.level_bytes.Goals as goal

pub overflow_mul-samples : goal.overflow_mul-samples
overflow_mul-samples c = record { fits = four_words _ _ _ _ (search rules) (search rules) (search rules) (search rules) }
