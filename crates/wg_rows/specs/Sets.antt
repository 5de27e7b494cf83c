-- Rows of uses, each a run of parts with the set of usages of its parts, and the sets of a step: one row for the parts
-- that are used alike, by the union of their uses.
use Rattle.std.specs.Prelude.{Bool, true, List, [], ◌∷◌, ◌++◌, Some, bit_or, if◌then◌else◌, ◌≡◌}
use Rattle.wg_rows.specs.Rows.{list_eq, Apart}
use Rattle.wg_rows.specs.Cut.{cut, inside, gaps, choose, put_all}
use Rattle.wg_rows.specs.Runs.{PartRun, Part, part_line, part_sort, is_full}
use Rattle.wg_rows.specs.Uses.{Usages, same_set, row_set}

-- a row of a use: a run of parts with the set of usages of each
abbrev pub UseRow : Type 0
UseRow = PartRun × Usages

-- the usages of either set
abbrev pub both_sets : Usages → Usages → Usages
both_sets a b = record { 0 = bit_or a.0 b.0 }

-- rows with one more use, which joins the sets of the uses of the same parts
abbrev pub union_row : UseRow → List UseRow → List UseRow
union_row r rows = put_all part_sort same_set (gaps part_sort (r ∷ []) rows) (put_all part_sort same_set (choose (λ old. Some (both_sets r.1 old)) (inside part_sort r.0 rows)) (cut part_sort r.0 rows))

-- rows with one more use, of which one with an empty run adds nothing
abbrev pub with_use : UseRow → List UseRow → List UseRow
with_use r rows = if is_full r.0 then union_row r rows else rows

-- rows with more uses, the last of which is added first
abbrev pub with_uses : List UseRow → List UseRow → List UseRow
with_uses [] rows = rows
with_uses (r ∷ more) rows = with_use r (with_uses more rows)

-- the sets of the parts of uses, in printed form
abbrev pub sets : List UseRow → List UseRow
sets [] = []
sets (r ∷ rows) = if is_full r.0 then union_row r (sets rows) else sets rows

-- whether rows, if there are any, begin in the line of a run
abbrev pub begins_in_line : PartRun → List UseRow → Bool
begins_in_line run [] = true
begins_in_line run (x ∷ xs) = list_eq (part_line x.0) (part_line run)

-- The sets of uses are in printed form, and each part has the union of its uses.
abbrev pub SetsAre : Type 0
SetsAre = (rows : List UseRow) → Apart part_sort (sets rows) × ((p : Part) → row_set p (sets rows) ≡ row_set p rows)

-- Each part has the same set in two lists of uses.
abbrev pub AreSameSets : List UseRow → List UseRow → Type 0
AreSameSets xs ys = (p : Part) → row_set p xs ≡ row_set p ys

-- The sets of uses are told by the sets of the parts alone, so that neither order nor repetition counts.
abbrev pub SetsTell : Type 0
SetsTell = (xs ys : List UseRow) → AreSameSets xs ys → sets xs ≡ sets ys

-- Uses that are added to the sets of others make the sets of both, and so do their own sets.
pub record SetsJoin : Type 0 where
  pub uses : (xs ys : List UseRow) → with_uses xs (sets ys) ≡ sets (xs ++ ys)
  pub rows : (xs ys : List UseRow) → with_uses (sets xs) (sets ys) ≡ sets (xs ++ ys)
