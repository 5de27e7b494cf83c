-- Uses and accesses that are put into the order of their places are printed as they were.
use Rattle.std.proofs.Common.{◌≡◌, List, true, refl, ap, sym, ◌∙◌, IsPermutation}
use Rattle.wg_rows.specs.Runs.{Cells, cell_sort, part_sort}
use Rattle.wg_rows.specs.Uses.{AccessKind, same_kind, same_set, printed_accesses}
use Rattle.wg_rows.specs.Sets.{UseRow, sets}
use Rattle.wg_rows.specs.Order.{are_full, are_apart}
use Rattle.wg_rows.proofs.Told.{accesses_tell, as_printed}
use Rattle.wg_rows.proofs.Order.{apart_told}
use Rattle.wg_rows.proofs.Sets.{sets_tell}
use Rattle.wg_rows.proofs.Lines.{sets_sorted}
use Rattle.wg_rows.proofs.Permuted.{set_permuted, accesses_sorted}

-- Uses of another order that are in printed form are the sets.
pub sets_told : (uses sorted : List UseRow) → IsPermutation uses sorted → are_apart part_sort same_set sorted ≡ true → sorted ≡ sets uses
sets_told uses sorted moved apart = sets_sorted uses sorted sorted moved (λ p. refl) apart

-- The order of uses does not count.
pub sets_permuted : (uses sorted : List UseRow) → IsPermutation uses sorted → sets sorted ≡ sets uses
sets_permuted uses sorted moved = sets_tell sorted uses (λ p. sym (set_permuted uses sorted moved p))

-- Accesses in printed form are printed as they stand.
pub printed_same : (rows : List (Cells × AccessKind)) → are_apart cell_sort same_kind rows ≡ true → rows ≡ printed_accesses rows
printed_same rows apart = sym (as_printed cell_sort same_kind accesses_tell rows (apart_told cell_sort same_kind accesses_tell rows apart))

-- Accesses that cover something are printed as those of another order that is in printed form.
pub printed_told : (rows sorted : List (Cells × AccessKind)) → are_full cell_sort rows ≡ true → IsPermutation rows sorted → are_apart cell_sort same_kind sorted ≡ true → sorted ≡ printed_accesses rows
printed_told rows sorted full moved apart =
    let kept : sorted ≡ printed_accesses sorted = printed_same sorted apart in
    kept ∙ accesses_sorted rows sorted full moved (ap (are_apart cell_sort same_kind) (sym kept) ∙ apart)
