-- The sets of uses are found line by line.
use Rattle.std.proofs.Common.{◌≡◌, List, [], ◌∷◌, ◌++◌, true, ap, sym, ◌∙◌, if◌then◌else◌, IsPermutation}
use Rattle.std.proofs.lemmas.List.{append-nil, append_assoc}
use Rattle.std.proofs.lemmas.List.Sorted.{IsPermutation-middle}
use Rattle.wg_rows.specs.Rows.{Apart}
use Rattle.wg_rows.specs.Runs.{part_sort}
use Rattle.wg_rows.specs.Uses.{same_set, row_set}
use Rattle.wg_rows.specs.Sets.{UseRow, with_use, sets, AreSameSets}
use Rattle.wg_rows.specs.Order.{are_apart}
use Rattle.wg_rows.proofs.Sets.{both_options, joined_set, sets_row, sets_tell}
use Rattle.wg_rows.proofs.Order.{sets_kept, sets_same}
use Rattle.wg_rows.proofs.Permuted.{set_permuted}

-- One more use of sets has its usages in its parts.
with_use_set : (r : UseRow) (line : List UseRow) → Apart part_sort line → AreSameSets (with_use r line) (r ∷ line)
with_use_set r line apart p = ap (λ rows. row_set p (with_use r rows)) (sets_kept line apart) ∙ (sets_row p (r ∷ line))

-- A use goes from those that are left to the sets of its line.
pub added : (out line rest : List UseRow) (r : UseRow) → Apart part_sort line → AreSameSets (out ++ (with_use r line ++ rest)) (out ++ (line ++ (r ∷ rest)))
added out line rest r apart p =
    joined_set p out (with_use r line ++ rest)
    ∙ (ap (both_options (row_set p out)) (joined_set p (with_use r line) rest ∙ (ap (λ o. both_options o (row_set p rest)) (with_use_set r line apart p) ∙ (sym (joined_set p (r ∷ line) rest) ∙ sym (set_permuted (line ++ (r ∷ rest)) (r ∷ (line ++ rest)) (IsPermutation-middle line r rest) p))))
    ∙ sym (joined_set p out (line ++ (r ∷ rest))))

-- The sets of a line are done where a use of another line comes.
pub flushed : (out line rest : List UseRow) (r : UseRow) → AreSameSets ((out ++ line) ++ (with_use r [] ++ rest)) (out ++ (line ++ (r ∷ rest)))
flushed out line rest r p = added (out ++ line) [] rest r tt p ∙ ap (row_set p) (append_assoc out line (r ∷ rest))

pub last_line : (out line : List UseRow) → out ++ (line ++ []) ≡ out ++ line
last_line out line = ap (λ rows. out ++ rows) (append-nil line)

-- Uses in another order have the same sets, as they are printed and line by line.
pub sets_sorted : (uses sorted rows : List UseRow) → IsPermutation uses sorted → AreSameSets rows sorted → are_apart part_sort same_set rows ≡ true → rows ≡ sets uses
sets_sorted uses sorted rows moved same apart = sets_same rows apart ∙ sets_tell rows uses (λ p. same p ∙ sym (set_permuted uses sorted moved p))
