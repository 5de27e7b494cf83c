-- A reader or a writer of std with a count.
use Rattle.std.specs.Prelude.{ℕ}

-- a reader or a writer, and how many faults it met
pub record Counted (T : Type 0) : Type 0 where
  pub inner : T
  pub faults : ℕ
