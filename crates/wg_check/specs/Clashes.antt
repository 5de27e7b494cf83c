-- The clashes of a trace.
use Rattle.std.specs.Prelude.{ℕ, zero, suc, ◌||◌, List, [], ◌∷◌, if◌then◌else◌}
use Rattle.wg_rows.specs.Runs.{Part, Cell, part_of, covers_part}
use Rattle.wg_orders.specs.Steps.{Step, reads, writes}
use Rattle.wg_orders.specs.Trace.{Item, Bar, StepItem, Free, steps_of, reads_at, writes_at}
use Rattle.wg_check.specs.declared.stories.Access.{Access}
use Rattle.wg_check.specs.Doings.{Doings}

-- how many barriers on the part stand before step k
abbrev pub epoch : Part → List Item → ℕ → ℕ
epoch p [] k = 0
epoch p (Bar parts from to ∷ items) k = if covers_part parts p then suc (epoch p items k) else epoch p items k
epoch p (StepItem s ∷ items) zero = 0
epoch p (StepItem s ∷ items) (suc k) = epoch p items k
epoch p (Free object sort ∷ items) k = epoch p items k

-- what the steps of a trace do to a cell, and how many barriers on it stand before each
abbrev pub doings : Cell → List Item → Doings
doings c trace = record { reads = reads_at c (steps_of trace); writes = writes_at c (steps_of trace); epoch = epoch (part_of c) trace }

-- the access of a step to a cell, behind so many barriers
abbrev pub access : Cell → Step → ℕ → ℕ → Access
access c s n e = record { place = n; reads = reads s c; writes = writes s c; epoch = e }

-- the accesses to a cell, behind n steps and e barriers
abbrev pub story_from : Cell → ℕ → ℕ → List Item → List Access
story_from c n e [] = []
story_from c n e (Bar parts from to ∷ items) = if covers_part parts (part_of c) then story_from c n (suc e) items else story_from c n e items
story_from c n e (StepItem s ∷ items) = if reads s c || writes s c then access c s n e ∷ story_from c (suc n) e items else story_from c (suc n) e items
story_from c n e (Free object sort ∷ items) = story_from c n e items

-- the accesses of a trace to a cell, in their order
abbrev pub story : Cell → List Item → List Access
story c trace = story_from c 0 0 trace
