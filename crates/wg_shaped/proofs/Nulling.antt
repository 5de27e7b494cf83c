-- What null leaves, what a null layout asks for, and how often bundles draw.
use Rattle.std.proofs.Common.{◌≡◌, ℕ, zero, suc, ◌+◌, ◌==◌, Bool, true, false, ◌||◌, List, [], ◌∷◌, reverse, Option, Some, None, is_none, option_and_then, refl, ap, ap₂, sym, ◌∙◌, append-nil, arith, if◌then◌else◌, true≢false}
use Rattle.std.specs.List.{count_by}
use Rattle.std.proofs.lemmas.Bool.Decides.{nat_tests}
use Rattle.std.proofs.lemmas.List.Sums.{sum_by-cons}
use Rattle.wg_types.specs.Commands.{Command, fits}
use Rattle.wg_types.specs.declared.commands.CommandPlace.TheVariants.{Bundle}
use Rattle.wg_types.specs.declared.commands.CommandOf.TheVariants.{ExecuteBundles}
use Rattle.wg_types.specs.declared.handles.ObjRef.{ObjRef}
use Rattle.wg_model.specs.Making.{known_group_layout, pipeline_layout_made}
use Rattle.wg_model.specs.Render.{command_draws, touches_over, draws_of, vertex_set}
use Rattle.wg_model.specs.Settings.{group_set}
use Rattle.wg_model.specs.Walk.{bundled}
use Rattle.wg_shaped.specs.Nulls.{NullUnsetsGroup, NullUnsetsVertex, IsBare, HasBare, NullLayoutsAreBare, OnlyGivenAreReferred, is_draw, BundlesDrawTheirDraws, HistoryDrawsItsDraws, ExecutedBundlesAdd}
use Rattle.wg_shaped.proofs.Making.{WasAccepted, past_accepted, no_verdict}
use Rattle.wg_shaped.proofs.Standing.{AllFit, all_fit}

-- a slot that is emptied, and another
emptied_here : {X : Type 0} (n : ℕ) (before : Option X) → (if n == n then None else before) ≡ None
emptied_here n before = grind (arith, nat_tests)

left_there : {X : Type 0} (n at : ℕ) (before : Option X) → (n == at) ≡ false → (if n == at then None else before) ≡ before
left_there n at before other = ap (λ (b : Bool). if b then None else before) other

pub null_unsets_group : NullUnsetsGroup
null_unsets_group earlier index offsets = record {
  unset = emptied_here index (group_set earlier index);
  others = λ at other. left_there index at (group_set earlier at) other;
  pipeline = refl;
  vertex = λ at. refl;
  index_buffer = refl;
  touches = λ queries first. append-nil (touches_over queries first earlier);
}

pub null_unsets_vertex : NullUnsetsVertex
null_unsets_vertex earlier slot offset size = record {
  unset = emptied_here slot (vertex_set earlier slot);
  others = λ at other. left_there slot at (vertex_set earlier at) other;
  pipeline = refl;
  groups = λ at. refl;
  index_buffer = refl;
  touches = λ queries first. append-nil (touches_over queries first earlier);
}

-- A null layout is known as one of no entry,
null_bare : IsBare (known_group_layout None)
null_bare = record { entries = refl; exclusive = refl; fits = λ owner group. refl; binds = λ group. refl }

pub null_layouts_are_bare : NullLayoutsAreBare
null_layouts_are_bare known [] index e = absurd (cc)
null_layouts_are_bare known (layout ∷ layouts) zero e =
    let null : layout ≡ None = cc in
    record {
      layout = known_group_layout None;
      there = ap (λ (one : Option ObjRef). Some (known_group_layout (option_and_then known one))) null;
      bare = null_bare;
    }
null_layouts_are_bare known (layout ∷ layouts) (suc index) e =
    let rest : HasBare (pipeline_layout_made (λ r. r) known layouts).layouts_info index = null_layouts_are_bare known layouts index e in
    record { layout = rest.layout; there = rest.there; bare = rest.bare }

-- and is no object.
pub only_given_are_referred : OnlyGivenAreReferred
only_given_are_referred [] n = refl
only_given_are_referred (None ∷ layouts) n = only_given_are_referred layouts n
only_given_are_referred (Some layout ∷ layouts) n = ap (λ (b : Bool). layout.number == n || b) (only_given_are_referred layouts n)

-- Each command of a bundle draws once or not at all.
drawn_once : (command : Command) → fits command Bundle ≡ true → command_draws command ≡ (if is_draw command then 1 else 0)
drawn_once (ExecuteBundles bundles) e = absurd (true≢false (sym e))
drawn_once _ e = refl

drawn : (earlier : List Command) → AllFit earlier → draws_of earlier ≡ count_by is_draw earlier
drawn [] each = refl
drawn (command ∷ earlier) each =
    ap₂ (λ (m n : ℕ). m + n) (drawn earlier each.1) (drawn_once command each.0)
    ∙ (swapped (count_by is_draw earlier) (if is_draw command then 1 else 0)
    ∙ sym (sum_by-cons (λ (one : Command). if is_draw one then 1 else 0) command earlier))
  where
    swapped : (m n : ℕ) → m + n ≡ n + m
    swapped m n = omega arith

pub bundles_draw_their_draws : BundlesDrawTheirDraws
bundles_draw_their_draws made_by targets commands stand none =
    ap (λ (o : Option ℕ). if is_none o then draws_of (bundled commands) else 0) none ∙ drawn (bundled commands) (all_fit commands stand)

pub history_draws_its_draws : HistoryDrawsItsDraws
history_draws_its_draws setup history bundle encoder made_by targets commands run valid e stand =
    let accepted : WasAccepted setup encoder made_by targets commands = past_accepted setup (reverse history) bundle encoder made_by targets commands run valid e in
    bundles_draw_their_draws made_by targets commands stand (no_verdict setup accepted.older encoder made_by targets commands accepted.met)

pub executed_bundles_add : ExecutedBundlesAdd
executed_bundles_add earlier bundles = refl
