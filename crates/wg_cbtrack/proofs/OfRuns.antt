-- Rows that were tested, and uses that take the place of what was there.
use Rattle.std.proofs.Common.{◌≡◌, List, [], ◌∷◌, ◌++◌, Bool, true, Option, Some, None, refl, ap, sym, ◌∙◌, append_assoc}
use Rattle.std.specs.List.{flat_map}
use Rattle.std.specs.Option.{option_or, option_map_or}
use Rattle.wg_rows.specs.Rows.{Sort, Spot, Apart}
use Rattle.wg_rows.specs.Order.{are_apart}
use Rattle.wg_rows.specs.Cut.{value_at, cut, cut_row, gaps, put_all}
use Rattle.wg_rows.specs.Runs.{Cells, part_sort, cell_sort}
use Rattle.wg_rows.specs.Uses.{AccessKind, Usages, same_set, same_kind}
use Rattle.wg_rows.specs.Sets.{UseRow}
use Rattle.wg_rows.proofs.Told.{uses_tell, accesses_tell}
use Rattle.wg_rows.proofs.Order.{apart_told}
use Rattle.wg_rows.proofs.Sets.{part_clips}
use Rattle.wg_rows.proofs.Values.{apart_loose, all_put, GapsAre, gaps_are, AreFree}
use Rattle.wg_cbtrack.specs.Join.{used_after}
use Rattle.wg_cbtrack.proofs.Local.{same_values}
use Rattle.wg_cbtrack.proofs.Joins.{UsedAfter, used_are}

-- Rows that were tested are in printed form.
pub parts_printed : (b : Bool) (rows : List UseRow) → b ≡ are_apart part_sort same_set rows → b ≡ true → Apart part_sort rows
parts_printed b rows e t = apart_told part_sort same_set uses_tell rows (sym e ∙ t)

pub cells_printed : (b : Bool) (rows : List (Cells × AccessKind)) → b ≡ are_apart cell_sort same_kind rows → b ≡ true → Apart cell_sort rows
cells_printed b rows e t = apart_told cell_sort same_kind accesses_tell rows (sym e ∙ t)

-- What is left of rows is what is left of each.
cut_append : {R W : Type 0} (sort : Sort R) (r : R) (xs ys : List (R × W)) → cut sort r (xs ++ ys) ≡ cut sort r xs ++ cut sort r ys
cut_append sort r [] ys = refl
cut_append {R} {W} sort r (x ∷ xs) ys = ap (λ (zs : List (R × W)). cut_row sort r x ++ zs) (cut_append sort r xs ys) ∙ sym (append_assoc (cut_row sort r x) (cut sort r xs) (cut sort r ys))

gaps_append : {R V W : Type 0} (sort : Sort R) (left more : List (R × W)) (rows : List (R × V)) → gaps sort (left ++ more) rows ≡ gaps sort left rows ++ gaps sort more rows
gaps_append sort left more [] = refl
gaps_append {R} {V} {W} sort left more (x ∷ xs) = ap (λ (ys : List (R × W)). gaps sort ys xs) (cut_append sort x.0 left more) ∙ gaps_append sort (cut sort x.0 left) (cut sort x.0 more) xs

no_gaps : (uses : List UseRow) → gaps {W = Usages} part_sort [] uses ≡ []
no_gaps [] = refl
no_gaps (u ∷ uses) = no_gaps uses

pub gaps_all : (rows uses : List UseRow) → flat_map (λ (u : UseRow). gaps part_sort (u ∷ []) uses) rows ≡ gaps part_sort rows uses
gaps_all [] uses = sym (no_gaps uses)
gaps_all (u ∷ rows) uses = ap (λ (ys : List UseRow). gaps part_sort (u ∷ []) uses ++ ys) (gaps_all rows uses) ∙ sym (gaps_append part_sort (u ∷ []) rows uses)

-- Uses that are put where they were taken away are those that overwrite one after another.
pub over_is : (us rows : List UseRow) → Apart part_sort us → Apart part_sort rows → put_all part_sort same_set us (gaps part_sort rows us) ≡ used_after us rows
over_is us rows au ar = same_values part_sort same_set uses_tell (put_all part_sort same_set us (gaps part_sort rows us)) (used_after us rows) put.0 used.0 (λ spot. put.1 spot ∙ (ap (option_or (value_at part_sort spot us)) (left.1 spot) ∙ (by_use (value_at part_sort spot us) (value_at part_sort spot rows) ∙ sym (used.1 spot))))
  where
    used : UsedAfter us rows
    used = used_are us rows (apart_loose part_sort us au) ar

    left : GapsAre part_sort rows us
    left = gaps_are part_sort part_clips rows us ar (apart_loose part_sort us au)

    by_use : (o p : Option Usages) → option_or o (option_map_or (λ (v : Usages). None) o p) ≡ option_or o p
    by_use None p = refl
    by_use (Some v) p = refl

    free : AreFree part_sort us (gaps part_sort rows us)
    free spot w e = left.1 spot ∙ ap (λ (o : Option Usages). option_map_or (λ (v : Usages). None) o (value_at part_sort spot rows)) e

    put : Apart part_sort (put_all part_sort same_set us (gaps part_sort rows us)) × ((spot : Spot) → value_at part_sort spot (put_all part_sort same_set us (gaps part_sort rows us)) ≡ option_or (value_at part_sort spot us) (value_at part_sort spot (gaps part_sort rows us)))
    put = all_put part_sort same_set uses_tell us (gaps part_sort rows us) (apart_loose part_sort us au) left.0 free

pub over_told : (b d : Bool) (us rows : List UseRow) → b ≡ are_apart part_sort same_set us → b ≡ true → d ≡ are_apart part_sort same_set rows → d ≡ true → put_all part_sort same_set us (gaps part_sort rows us) ≡ used_after us rows
over_told b d us rows be bt de dt = over_is us rows (parts_printed b us be bt) (parts_printed d rows de dt)
