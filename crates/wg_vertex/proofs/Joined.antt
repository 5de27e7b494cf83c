-- Attributes of one buffer after another.
use Rattle.std.proofs.Common.{◌≡◌, ℕ, Bool, List, [], Option, ◌∷◌, ◌++◌, ◌&&◌, ◌||◌, ◌==◌, ◌+◌, ◌-◌, ◌<◌, length, get_or, take, drop, refl, arith}
use Rattle.std.specs.List.{list_all, list_any}
use Rattle.std.proofs.lemmas.List.Folds.{list_all-append, list_any-append}
use Rattle.std.proofs.lemmas.Grind.{common_steps}
use Rattle.wg_types.specs.declared.vertex.VertexAttribute.{VertexAttribute}
use Rattle.wg_types.specs.declared.vertex.VertexBuffer.{VertexBuffer}
use Rattle.wg_model.specs.Vertex.{attributes_of, all_attributes, locations_are_distinct}
use Rattle.wg_vertex.specs.Apart.{apart_from}

pub all_joined : (p : VertexAttribute → Bool) (buffer : Option VertexBuffer) (buffers : List (Option VertexBuffer)) → list_all p (all_attributes (buffer ∷ buffers)) ≡ list_all p (attributes_of buffer) && list_all p (all_attributes buffers)
all_joined p buffer buffers = list_all-append p (attributes_of buffer) (all_attributes buffers)

pub any_joined : (p : VertexAttribute → Bool) (buffer : Option VertexBuffer) (buffers : List (Option VertexBuffer)) → list_any p (all_attributes (buffer ∷ buffers)) ≡ list_any p (attributes_of buffer) || list_any p (all_attributes buffers)
any_joined p buffer buffers = list_any-append p (attributes_of buffer) (all_attributes buffers)

apart_behind : (attributes others : List VertexAttribute) → locations_are_distinct (attributes ++ others) ≡ apart_from attributes others && locations_are_distinct others
apart_behind [] others = refl
apart_behind (attribute ∷ attributes) others = grind (arith, list_any-append (λ (other : VertexAttribute). other.location == attribute.location) attributes others, apart_behind attributes others)

-- The loop over buffers: one of them, and the slice of those behind it.
pub apart_at : (i : ℕ) (buffers : List (Option VertexBuffer)) (buffer : Option VertexBuffer) → buffer ≡ get_or buffers i buffer → i < length buffers → locations_are_distinct (all_attributes (drop i buffers)) ≡ apart_from (attributes_of buffer) (all_attributes (take (length buffers - (i + 1)) (drop (i + 1) buffers))) && locations_are_distinct (all_attributes (drop (i + 1) buffers))
apart_at i buffers buffer there within =
    let split : drop i buffers ≡ buffer ∷ drop (i + 1) buffers = grind (arith, common_steps) in
    let behind : take (length buffers - (i + 1)) (drop (i + 1) buffers) ≡ drop (i + 1) buffers = grind (arith, common_steps) in
    rw (split, behind) (apart_behind (attributes_of buffer) (all_attributes (drop (i + 1) buffers)))
