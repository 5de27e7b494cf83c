-- Sets of numbers as sorted runs that do not touch.
use Rattle.std.specs.Prelude.{◌≡◌, ℕ, ◌+◌, ◌<◌, ◌≤◌, ◌&&◌, ◌||◌, Bool, true, false, nat_lt, nat_le, min, max, List, [], ◌∷◌, ◌++◌, if◌then◌else◌}

-- runs of numbers, each from its first up to but not including its second
abbrev pub Runs : Type 0
Runs = List (ℕ × ℕ)

-- the numbers from lo up to but not including hi
abbrev pub in_run : ℕ → ℕ → ℕ → Bool
in_run lo hi n = nat_le lo n && nat_lt n hi

-- whether a number is in the set
abbrev pub is_in : Runs → ℕ → Bool
is_in [] n = false
is_in (run ∷ runs) n = in_run run.0 run.1 n || is_in runs n

-- Each run has a number, and the next one begins past its end, at `from` or later.
abbrev pub AreApart : ℕ → Runs → Type 0
AreApart from [] = Unit {0}
AreApart from (run ∷ runs) = (from ≤ run.0) × (run.0 < run.1) × AreApart (run.1 + 1) runs

-- runs with one more
abbrev pub with_run : ℕ → ℕ → Runs → Runs
with_run lo hi [] = (lo, hi) ∷ []
with_run lo hi (x ∷ xs) = if nat_lt x.1 lo then x ∷ with_run lo hi xs else (if nat_lt hi x.0 then (lo, hi) ∷ (x ∷ xs) else with_run (min lo x.0) (max hi x.1) xs)

-- runs with one more, where that has a number
abbrev pub insert_run : ℕ → ℕ → Runs → Runs
insert_run lo hi runs = if nat_lt lo hi then with_run lo hi runs else runs

-- a run, if it has a number
abbrev pub full_run : ℕ → ℕ → Runs
full_run lo hi = if nat_lt lo hi then (lo, hi) ∷ [] else []

-- runs without the numbers from lo up to but not including hi
abbrev pub cut_runs : ℕ → ℕ → Runs → Runs
cut_runs lo hi [] = []
cut_runs lo hi (x ∷ xs) = full_run x.0 (min x.1 lo) ++ full_run (max x.0 hi) x.1 ++ cut_runs lo hi xs

-- runs without the numbers of a run
abbrev pub remove_run : ℕ → ℕ → Runs → Runs
remove_run lo hi runs = if nat_lt lo hi then cut_runs lo hi runs else runs

-- the runs of the numbers of a run that are not in the set
abbrev pub missing_runs : ℕ → ℕ → Runs → Runs
missing_runs lo hi [] = full_run lo hi
missing_runs lo hi (x ∷ xs) = full_run lo (min hi x.0) ++ missing_runs (max lo x.1) hi xs

-- whether all numbers of a run are in the set
abbrev pub covers_run : ℕ → ℕ → Runs → Bool
covers_run lo hi [] = nat_le hi lo
covers_run lo hi (x ∷ xs) = (nat_le x.0 lo && nat_le hi x.1) || covers_run lo hi xs

-- All numbers of a run are in the set.
abbrev pub AllIn : ℕ → ℕ → Runs → Type 0
AllIn lo hi runs = (n : ℕ) → in_run lo hi n ≡ true → is_in runs n ≡ true
