-- What becomes of a source and of a sink in a call.
use Rattle.std.specs.Prelude.{◌≡◌, ℕ, List}
use Rattle.std.specs.declared.option.Option.{Option}

-- What a source has left and how often it failed, before and after.
pub record Giving : Type 0 where
  pub old : Option (List ℕ)
  pub new : Option (List ℕ)
  pub before : ℕ
  pub after : ℕ

-- What a sink has taken and how often it failed, before and after.
pub record Taking : Type 0 where
  pub old : Option (List ℕ)
  pub new : Option (List ℕ)
  pub before : ℕ
  pub after : ℕ

-- Nothing was read,
abbrev pub IsUnread : Giving → Type 0
IsUnread giving = (giving.new ≡ giving.old) × (giving.after ≡ giving.before)

-- Nothing was written, and the count of faults stands.
abbrev pub IsUntouched : Taking → Type 0
IsUntouched taking = (taking.new ≡ taking.old) × (taking.after ≡ taking.before)
