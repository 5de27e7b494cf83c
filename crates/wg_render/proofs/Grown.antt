-- What is set after one more command.
use Rattle.std.proofs.Common.{◌≡◌, ◌∙◌, List, ◌∷◌, ◌++◌, [], Option, Some, None, ℕ, true, false, ap, sym, append-nil, length, replicate, ◌+◌, arith}
use Rattle.wg_types.specs.declared.commands.BoundGroup.{BoundGroup}
use Rattle.wg_types.specs.declared.commands.CommandOf.TheVariants.{End, BeginOcclusionQuery, EndOcclusionQuery, SetViewport, SetScissorRect, SetBlendConstant, SetStencilReference, InsertDebugMarker}
use Rattle.wg_types.specs.declared.render.Viewport.{Viewport}
use Rattle.wg_model.specs.Touches.{Touch}
use Rattle.wg_model.specs.Queries.{Occlusion, query_written, query_begun_touches}
use Rattle.wg_model.specs.Render.{RenderSet}
use Rattle.wg_compute.proofs.Slots.{slots_unset, none_emptied, all_emptied}
use Rattle.wg_compute.specs.After.{slots_after, emptied}
use Rattle.wg_render.specs.After.{render_after}

-- Nothing is in eight slots that are emptied.
pub eight_emptied : {X : Type 0} (slots : List (Option X)) → length slots ≡ 8 → emptied true slots ≡ None ∷ (None ∷ (None ∷ (None ∷ (None ∷ (None ∷ (None ∷ (None ∷ [])))))))
eight_emptied slots eight = all_emptied slots ∙ ap (λ n. replicate n None) eight

abbrev changed : RenderSet → List (Option BoundGroup) → List (Option ℕ) → Occlusion → ℕ → List Touch → RenderSet
changed render groups ranges occlusion draws touches = record render { set = record render.set { groups = groups }; ranges = ranges; occlusion = occlusion; draws = draws; touches = touches }

-- What puts nothing into a slot, and empties none, leaves the slots.
slots_stay : {X : Type 0} (slots : List (Option X)) → emptied false (slots_after None 0 slots) ≡ slots
slots_stay slots = none_emptied (slots_after None 0 slots) ∙ slots_unset 0 slots

unset : (render : RenderSet) (occlusion : Occlusion) (touches : List Touch) → changed render (emptied false (slots_after None 0 render.set.groups)) (emptied false (slots_after None 0 render.ranges)) occlusion (render.draws + 0) touches ≡ record render { occlusion = occlusion; touches = touches }
unset render occlusion touches =
    ap (λ groups. changed render groups (emptied false (slots_after None 0 render.ranges)) occlusion (render.draws + 0) touches) (slots_stay render.set.groups)
    ∙ (ap (λ ranges. changed render render.set.groups ranges occlusion (render.draws + 0) touches) (slots_stay render.ranges)
    ∙ ap (λ draws. changed render render.set.groups render.ranges occlusion draws touches) (omega arith))

-- An end sets nothing and touches nothing of its own.
pub after_end : (render : RenderSet) → render_after render End ≡ render
after_end render = unset render render.occlusion (render.touches ++ []) ∙ ap (λ touches. record render { touches = touches }) (append-nil render.touches)

-- Nor does what is looked at as it is set, or not at all.
pub after_viewport : (render : RenderSet) (viewport : Viewport) → render_after render (SetViewport viewport) ≡ render
after_viewport render viewport = after_end render

pub after_scissor : (render : RenderSet) (x y width height : ℕ) → render_after render (SetScissorRect x y width height) ≡ render
after_scissor render x y width height = after_end render

pub after_blend_constant : (render : RenderSet) → render_after render SetBlendConstant ≡ render
after_blend_constant render = after_end render

pub after_stencil_reference : (render : RenderSet) → render_after render SetStencilReference ≡ render
after_stencil_reference render = after_end render

pub after_marker : (render : RenderSet) → render_after render InsertDebugMarker ≡ render
after_marker render = after_end render

-- The end of a query ends it, and nothing else.
pub after_query_ended : (render : RenderSet) → render_after render EndOcclusionQuery ≡ record render { occlusion = record render.occlusion { active = false } }
after_query_ended render =
    unset render (record render.occlusion { active = false }) (render.touches ++ [])
    ∙ ap (λ touches. record render { occlusion = record render.occlusion { active = false }; touches = touches }) (append-nil render.touches)

abbrev begun : RenderSet → ℕ → List Touch → RenderSet
begun render index touches = record render { occlusion = record { begun = render.occlusion.begun ++ index ∷ []; active = true }; touches = touches }

-- The begin of a query begins it, and writes it in the query set of the pass, if there is one.
pub after_begun : (known render : RenderSet) (set : ℕ × ℕ) (index : ℕ) → known ≡ render → known.queries ≡ Some set → begun known index (known.touches ++ query_written set.0 index ∷ []) ≡ render_after render (BeginOcclusionQuery index)
after_begun known render set index same e =
    ap (λ queries. begun known index (known.touches ++ query_begun_touches queries index)) (sym e)
    ∙ (sym (unset known (record { begun = known.occlusion.begun ++ index ∷ []; active = true }) (known.touches ++ query_begun_touches known.queries index))
    ∙ ap (λ r. render_after r (BeginOcclusionQuery index)) same)

pub after_none_begun : (render : RenderSet) (index : ℕ) → render.queries ≡ None → render_after render (BeginOcclusionQuery index) ≡ begun render index render.touches
after_none_begun render index e =
    unset render (record { begun = render.occlusion.begun ++ index ∷ []; active = true }) (render.touches ++ query_begun_touches render.queries index)
    ∙ (ap (λ queries. begun render index (render.touches ++ query_begun_touches queries index)) e
    ∙ ap (begun render index) (append-nil render.touches))
