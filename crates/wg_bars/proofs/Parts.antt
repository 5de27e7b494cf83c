-- Spots of parts.
use Rattle.std.proofs.Common.{◌≡◌, ℕ, List, [], ◌∷◌, Bool, false, refl, ◌==◌}
use Rattle.wg_rows.specs.Runs.{PartRun, BufferPart, LayerParts, QueryPart, Part, Buffer, Subresource, QuerySet, part_line, part_spot, is_texture, run_object, object_of}
use Rattle.wg_rows.specs.Rows.{line_object}
use Rattle.wg_bars.specs.Changes.{is_texture_run}
pub use Rattle.wg_rows.proofs.Sets.{part_clips, covered, part_at, some_part, same_at_parts}

abbrev pub second_is : ℕ → List ℕ → Bool
second_is n [] = false
second_is n (x ∷ []) = false
second_is n (x ∷ (y ∷ ys)) = y == n

pub object_is : (run : PartRun) → line_object (part_line run) ≡ run_object run
object_is (BufferPart a) = refl
object_is (LayerParts a b c x y) = refl
object_is (QueryPart a) = refl

pub texture_is : (run : PartRun) → second_is 2 (part_line run) ≡ is_texture_run run
texture_is (BufferPart a) = refl
texture_is (LayerParts a b c x y) = refl
texture_is (QueryPart a) = refl

pub part_object_is : (p : Part) → line_object ((part_spot p).0) ≡ object_of p
part_object_is (Buffer a) = refl
part_object_is (Subresource a b c n) = refl
part_object_is (QuerySet a) = refl

pub part_texture_is : (p : Part) → second_is 2 ((part_spot p).0) ≡ is_texture p
part_texture_is (Buffer a) = refl
part_texture_is (Subresource a b c n) = refl
part_texture_is (QuerySet a) = refl
