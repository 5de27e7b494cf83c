-- Which cells an attachment has, told one by one, and when two attachments have one in common.
use Rattle.std.specs.Prelude.{◌≡◌, Bool, true, List, map, Some, None}
use Rattle.wg_rows.specs.Runs.{Cell, Cells}
use Rattle.wg_model.specs.Textures.{dim_fits}
use Rattle.wg_model.specs.Subresources.{view_cells}
use Rattle.wg_model.specs.Attachments.{Attached, sliced, color_fits, slice_fits, attached_meet}
use Rattle.wg_subres.specs.Has.{is_accessed}

-- the cells of an attachment: those of its view, or one slice of it
abbrev pub attached_cells : Attached → List Cells
attached_cells a = map (sliced a.1) (view_cells a.0)

-- whether a cell is one of what is attached
abbrev pub attached_has : Attached → Cell → Bool
attached_has a c = is_accessed (attached_cells a) c

-- An attachment of which a slice is given meets rule 123, as each valid view, and rules 302 and 308, which are tested before
-- it is asked what attachments have in common.
abbrev pub IsAttachable : Attached → Type 0
IsAttachable (view, None) = Unit {0}
IsAttachable (view, Some slice) =
    (dim_fits view.dim view.texture_info.dim ≡ true) × ((color_fits view ≡ true) × (slice_fits (view, Some slice) ≡ true))

-- what is known of one texture is one thing
abbrev pub KnowOne : Attached → Attached → Type 0
KnowOne a b = a.0.texture.number ≡ b.0.texture.number → a.0.texture_info ≡ b.0.texture_info

-- Two attachments meet exactly where some cell is in both.
pub record AttachedMeet : Type 0 where
  pub shared : (a b : Attached)
      → IsAttachable a → IsAttachable b → KnowOne a b → attached_meet a b ≡ true
      → (c : Cell) × ((attached_has a c ≡ true) × (attached_has b c ≡ true))
  pub only : (a b : Attached)
      → IsAttachable a → IsAttachable b
      → (c : Cell) → attached_has a c ≡ true → attached_has b c ≡ true → attached_meet a b ≡ true
