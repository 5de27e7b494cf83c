-- What the words of a command line ask for.
use Rattle.std.specs.Prelude.{◌≡◌, ◌≤◌, ◌<◌, ◌^◌, ℕ, List, [], ◌∷◌, codes, decimal, Option, Some, None, unwrap_or, option_to_list}
use Rattle.wg_gen.specs.Alike.{MayGenerate}
use Rattle.wg_top.specs.declared.words.Job.{Job}
use Rattle.wg_top.specs.declared.words.Job.TheVariants.{Run, Generate, Check}

-- how many lanes a generated script has: one where none is asked for
abbrev pub lane_count : Option ℕ → ℕ
lane_count lanes = unwrap_or lanes 1

-- The single word `run` or `check`; or `gen` and how many iterations, or how many in each of how many lanes. Numbers stand in decimal digits,
-- without leading zeros.
abbrev pub words_for : Job → List (List ℕ)
words_for Run = codes "run" ∷ []
words_for Check = codes "check" ∷ []
words_for (Generate count None) = codes "gen" ∷ decimal count ∷ []
words_for (Generate count (Some lanes)) = codes "gen" ∷ decimal count ∷ decimal lanes ∷ []

-- A job may be asked for.
abbrev pub MayAsk : Job → Type 0
MayAsk Run = Unit {0}
MayAsk Check = Unit {0}
MayAsk (Generate count lanes) = MayGenerate count (lane_count lanes)

-- the words ask for a job
abbrev pub AskFor : List (List ℕ) → Job → Type 0
AskFor words job = (words ≡ words_for job) × MayAsk job

-- Words ask for no job.
abbrev pub AsksNothing : List (List ℕ) → Type 0
AsksNothing words = (job : Job) → AskFor words job → ⊥

-- the job that words ask for, if they ask for one
abbrev pub IsJobOf : List (List ℕ) → Option Job → Type 0
IsJobOf words None = AsksNothing words
IsJobOf words (Some job) = AskFor words job

-- ---- numbers

-- the number, not 0, that a word spells in decimal digits, if it spells one
abbrev pub Spells : List ℕ → Option ℕ → Type 0
Spells word None = (n : ℕ) → 1 ≤ n → n < 2 ^ 32 → word ≡ decimal n → ⊥
Spells word (Some n) = (1 ≤ n) × (n < 2 ^ 32) × (word ≡ decimal n)

-- `gen` and the words of its numbers
abbrev pub generation_words : List ℕ → Option (List ℕ) → List (List ℕ)
generation_words count lanes = codes "gen" ∷ count ∷ option_to_list lanes
