-- Which names a call uses, with what each must stand for, and which name it makes.
use Rattle.std.specs.Prelude.{ℕ, List, ◌∷◌, Bool, true, false, Option, Some, None, Result, Ok, Err, ⊤}
use Rattle.wg_types.specs.declared.wanted.Kind.{Kind}
use Rattle.wg_types.specs.declared.wanted.Wanted.{Wanted}
use Rattle.wg_types.specs.declared.wanted.Wanted.TheVariants as wanted
pub use Rattle.wg_types.specs.Wanted.{admits}
use Rattle.wg_types.specs.Commands.{place_wanted, kind_begun, named}
use Rattle.wg_types.specs.Requests.{kind_made, named as asked_of}
use Rattle.wg_types.specs.Canvases.{kind_made as canvas_made, named as canvas_named}
use Rattle.wg_script.specs.declared.calls.CallOf.{CallOf}
use Rattle.wg_script.specs.declared.calls.CallOf.TheVariants.{Record, Ask, Canvas}

-- the names that a call uses, in the order of its keys: what a recording call stands on comes first
abbrev pub uses_of : {R : Type 0} → CallOf R → List (R × Wanted)
uses_of (Record on command made) = (on, place_wanted command) ∷ named command
uses_of (Ask request made) = asked_of request
uses_of (Canvas call made) = canvas_named call

-- whether a place in a call asks for what the call's own lane made in this phase: so does each that asks for an encoder, a bundle
-- encoder, a pass, or any of these, and each that asks for a canvas
abbrev pub wants_own : Wanted → Bool
wants_own wanted.Buffer = false
wants_own wanted.Texture = false
wants_own wanted.View = false
wants_own wanted.Sampler = false
wants_own wanted.GroupLayout = false
wants_own wanted.PipelineLayout = false
wants_own wanted.Group = false
wants_own wanted.Pipeline = false
wants_own wanted.ComputePipeline = false
wants_own wanted.RenderPipeline = false
wants_own wanted.Queries = false
wants_own wanted.Destroyable = false
wants_own wanted.Encoder = true
wants_own wanted.BundleEncoder = true
wants_own wanted.CommandBuffer = false
wants_own wanted.Bundle = false
wants_own wanted.ComputePass = true
wants_own wanted.RenderPass = true
wants_own wanted.Pass = true
wants_own wanted.Binding = true
wants_own wanted.Drawing = true
wants_own wanted.Recording = true
wants_own wanted.Canvas = true
wants_own wanted.Object = false

-- the name that a call makes
abbrev pub made_as : {R : Type 0} → Option R → Option Kind → Option (R × Kind)
made_as (Some name) (Some kind) = Some (name, kind)
made_as (Some name) None = None
made_as None kind = None

-- the name that a call makes, with what that stands for, if it makes one
abbrev pub made_of : {R : Type 0} → CallOf R → Option (R × Kind)
made_of (Record on command made) = made_as made (kind_begun command)
made_of (Ask request made) = made_as made (kind_made request)
made_of (Canvas call made) = made_as made (canvas_made call)

-- the rule that a test of a name found broken, if it did
abbrev pub broken : Result ⊤ ℕ → Option ℕ
broken (Ok fine) = None
broken (Err rule) = Some rule

-- a refusal by a rule, if there is one
abbrev pub refused : Option ℕ → Result ⊤ ℕ
refused None = Ok tt
refused (Some rule) = Err rule
