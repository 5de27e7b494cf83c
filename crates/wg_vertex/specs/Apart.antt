-- Locations that are distinct from others.
use Rattle.std.specs.Prelude.{◌==◌, Bool, true, not, ◌&&◌, ◌||◌, List, [], ◌∷◌}
use Rattle.std.specs.List.{list_any}
use Rattle.wg_types.specs.declared.vertex.VertexAttribute.{VertexAttribute}

-- whether each attribute has a location that neither one behind it has nor one of the others
abbrev pub apart_from : List VertexAttribute → List VertexAttribute → Bool
apart_from [] others = true
apart_from (attribute ∷ attributes) others = not (list_any (λ (other : VertexAttribute). other.location == attribute.location) attributes || list_any (λ (other : VertexAttribute). other.location == attribute.location) others) && apart_from attributes others
