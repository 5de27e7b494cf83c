-- The text of an item of a trace.
use Rattle.std.specs.Prelude.{ℕ, List, ◌++◌, codes, decimal, Option, Some, None}
use Rattle.std.specs.List.{flat_map}
use Rattle.wg_trace.specs.declared.parts.PartRun.{PartRun}
use Rattle.wg_trace.specs.declared.parts.Cells.{Cells}
use Rattle.wg_trace.specs.declared.parts.AccessKind.{AccessKind}
use Rattle.wg_trace.specs.declared.usages.Usages.{Usages}
use Rattle.wg_trace.specs.declared.steps.StepPlace.{StepPlace}
use Rattle.wg_trace.specs.declared.steps.StepPlace.TheVariants.{Op, Host}
use Rattle.wg_trace.specs.declared.steps.Step.{Step}
use Rattle.wg_trace.specs.declared.steps.Sort.{Sort}
use Rattle.wg_trace.specs.declared.steps.Sort.TheVariants.{Buffer, Texture, Queries}
use Rattle.wg_trace.specs.declared.steps.Item.{Item}
use Rattle.wg_trace.specs.declared.steps.Item.TheVariants.{Bar, Step as StepItem, Free}
use Rattle.wg_trace.specs.StepNames.{step_name_text}
use Rattle.wg_print.specs.Parts.{access_kind_text, part_text, cells_text}
use Rattle.wg_print.specs.UsageSets.{usages_text}

-- the place of a step, as it is printed: its operation, or the entry of a step on the host
abbrev pub place_text : StepPlace → List ℕ
place_text (Op number) = codes "op " ++ decimal number
place_text (Host entry) = codes "host " ++ decimal entry

-- the letter of a sort of resource
abbrev pub sort_text : Sort → List ℕ
sort_text Buffer = codes "b"
sort_text Texture = codes "t"
sort_text Queries = codes "q"

-- the set that a barrier comes from
abbrev pub from_text : Option Usages → List ℕ
from_text None = codes "none"
from_text (Some set) = usages_text set

-- the line of a barrier
abbrev pub bar_text : PartRun → Option Usages → Usages → List ℕ
bar_text part from to = codes "bar " ++ part_text part ++ codes " " ++ from_text from ++ codes " " ++ usages_text to ++ codes "\n"

-- the line of a use
abbrev pub use_text : PartRun × Usages → List ℕ
use_text use_of = codes "use " ++ part_text use_of.0 ++ codes " " ++ usages_text use_of.1 ++ codes "\n"

-- the line of an access
abbrev pub access_text : Cells × AccessKind → List ℕ
access_text access = codes "acc " ++ access_kind_text access.1 ++ codes " " ++ cells_text access.0 ++ codes "\n"

-- the lines of a step: its own with its number, then one for each use and each access
abbrev pub step_text : ℕ → Step → List ℕ
step_text number step =
    codes "step " ++ decimal number ++ codes " " ++ place_text step.place ++ codes " " ++ step_name_text step.name ++ codes "\n"
    ++ flat_map use_text step.uses ++ flat_map access_text step.accesses

-- the line of a release
abbrev pub free_text : ℕ → Sort → List ℕ
free_text object sort = codes "free " ++ sort_text sort ++ codes " " ++ decimal object ++ codes "\n"

-- the item, whose number is used if it is a step
unfoldable pub item_text : ℕ → Item → List ℕ
item_text number (Bar part from to) = bar_text part from to
item_text number (StepItem step) = step_text number step
item_text number (Free object sort) = free_text object sort
