-- The first numbers of a range that pass a test, and of those that are in no run.
use Rattle.std.specs.Prelude.{◌≡◌, ℕ, ◌<◌, ◌≤◌, Bool, true, false, nat_lt, min, max, [], ◌∷◌, Option, Some, None, if◌then◌else◌}
use Rattle.wg_num.specs.Runs.{Runs}

-- A run has the first numbers of a range, from lo up to but not including hi, that pass a test, as many as stand together.
pub record IsFirst (test : ℕ → Bool) (lo hi : ℕ) (run : ℕ × ℕ) : Type 0 where
  pub within : lo ≤ run.0
  pub some : run.0 < run.1
  pub to : run.1 ≤ hi
  pub before : (n : ℕ) → lo ≤ n → n < run.0 → test n ≡ false
  pub inside : (n : ℕ) → run.0 ≤ n → n < run.1 → test n ≡ true
  pub ended : run.1 < hi → test run.1 ≡ false

-- The first numbers of a range that pass a test were found, or there are none.
abbrev pub FindsFirst : (ℕ → Bool) → ℕ → ℕ → Option (ℕ × ℕ) → Type 0
FindsFirst test lo hi None = (n : ℕ) → lo ≤ n → n < hi → test n ≡ false
FindsFirst test lo hi (Some run) = IsFirst test lo hi run

-- the numbers of a range, if it has some
abbrev pub gap : ℕ → ℕ → Option (ℕ × ℕ)
gap lo hi = if nat_lt lo hi then Some (lo, hi) else None

-- the first numbers of a range that are in no run, as many as stand together
abbrev pub first_gap : ℕ → ℕ → Runs → Option (ℕ × ℕ)
first_gap lo hi [] = gap lo hi
first_gap lo hi (x ∷ xs) = if nat_lt lo x.0 then gap lo (min x.0 hi) else first_gap (max lo x.1) hi xs
