-- The cells of a run lie in the parts that the run lies in.
use Rattle.std.proofs.Common.{◌≡◌, [], ◌∷◌, true, refl}
use Rattle.std.proofs.lemmas.Bool.{and_parts, and_from}
use Rattle.wg_rows.specs.Rows.{list_eq, in_range}
use Rattle.wg_rows.specs.Runs.{Cell, Byte, Texels, Slice, Query, Cells, Bytes, Layers, Slices, Queries, part_of, covers_part, covers, run_part}
use Rattle.wg_rows.proofs.Runs.{tags_differ}

-- A cell that a run covers lies in a part that the run lies in.
pub cells_lie : (run : Cells) (c : Cell) → covers run c ≡ true → covers_part (run_part run) (part_of c) ≡ true
unfolding covers covers_part
cells_lie (Bytes a lo hi) (Byte s n) e = and_from (list_eq (a ∷ (0 ∷ [])) (s ∷ (0 ∷ []))) true (and_parts (list_eq (a ∷ (0 ∷ [])) (s ∷ (0 ∷ []))) (in_range lo hi n) e).0 refl
cells_lie (Layers a b c lo hi) (Texels s t u n) e = e
cells_lie (Slices a b lo hi) (Slice s t n) e = and_from (list_eq (a ∷ (3 ∷ (b ∷ []))) (s ∷ (3 ∷ (t ∷ [])))) true (and_parts (list_eq (a ∷ (3 ∷ (b ∷ []))) (s ∷ (3 ∷ (t ∷ [])))) (in_range lo hi n) e).0 refl
cells_lie (Queries a lo hi) (Query s n) e = and_from (list_eq (a ∷ (1 ∷ [])) (s ∷ (1 ∷ []))) true (and_parts (list_eq (a ∷ (1 ∷ [])) (s ∷ (1 ∷ []))) (in_range lo hi n) e).0 refl
cells_lie run c e = absurd (tags_differ _ _ e)
