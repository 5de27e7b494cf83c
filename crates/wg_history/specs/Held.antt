-- Which objects are held (WebGPU, "Internal Objects"): the least relation, and the same as a test.
use Rattle.std.specs.Prelude.{◌≡◌, ℕ, ◌<◌, Bool, true, false, not, ◌&&◌, List, [], ◌∷◌, map, Option, Some, option_map, option_to_list, if◌then◌else◌}
use Rattle.std.specs.Option.{option_map_or}
use Rattle.wg_model.specs.Holding.{Holds, is_among, is_held_in}
use Rattle.wg_model.specs.Recorded.{names_within}
use Rattle.wg_types.specs.declared.handles.Info.{Info}
use Rattle.wg_types.specs.declared.handles.Info.TheVariants.{Buffer, Texture, View, Sampler, GroupLayout, PipelineLayout, Group, Compute, Render, Queries, Encoder, BundleEncoder, CommandBuffer, Bundle}
use Rattle.wg_types.specs.declared.bindings.BoundResource.{BoundResource}
use Rattle.wg_types.specs.declared.bindings.BoundResource.TheVariants.{Buffer as BoundBuffer, View as BoundView, Sampler as BoundSampler}
use Rattle.wg_types.specs.declared.bindings.BoundEntry.{BoundEntry}
use Rattle.wg_types.specs.declared.handles.ObjRef.{ObjRef}
use Rattle.wg_history.specs.Entries.{Setup, Event, Past}
use Rattle.wg_history.specs.Objects.{count, maker, info_made, unknown, info_at, is_valid, takes_commands, commands_at}
use Rattle.wg_history.specs.Rules.{dropped_at, is_dropped, is_consumed, has_finished}

-- the object that an entry of a bind group binds
abbrev pub resource_number : BoundResource → ℕ
resource_number (BoundBuffer buffer info offset size) = buffer.number
resource_number (BoundView view info) = view.number
resource_number (BoundSampler sampler info) = sampler.number

-- one object, or none
abbrev pub number_of : Option ObjRef → List ℕ
number_of object = option_to_list (option_map (λ (r : ObjRef). r.number) object)

-- The objects to which one of this info refers, if it is valid: a view to its texture; a bind group layout to the pipeline that it
-- was got of, if it was got of one; a pipeline layout to the layouts of its groups, but for those that are null; a bind group to its
-- layout and to what it binds; a pipeline to the layout that it was made with, if it was made with one; a bundle to what its commands
-- name.
abbrev pub refers_of : Info → List ℕ
refers_of (View info) = info.texture.number ∷ []
refers_of (Buffer info) = []
refers_of (Texture info) = []
refers_of (Sampler known) = []
refers_of (GroupLayout info) = number_of info.pipeline
refers_of (PipelineLayout info) = map (λ (layout : ObjRef). layout.number) info.layouts
refers_of (Group info) = info.layout.number ∷ map (λ (entry : BoundEntry). resource_number entry.resource) info.entries
refers_of (Compute info) = number_of info.layout
refers_of (Render info) = number_of info.layout
refers_of (Queries info) = []
refers_of Encoder = []
refers_of (BundleEncoder targets) = []
refers_of CommandBuffer = []
refers_of (Bundle info) = map (λ (object : ObjRef). object.number) info.named

-- the objects to which one that an event makes refers, if it is valid
abbrev pub refers_made : Event → List ℕ
refers_made event = option_map_or refers_of (info_made unknown event) []

-- the objects to which object n refers, if it is valid, and else none
abbrev pub refers_at : Past → ℕ → List ℕ
refers_at past n = if is_valid past n then option_map_or (λ entry. refers_made entry.event) (maker past n) [] else []

-- A command buffer may be submitted, and is pending, where it is valid and neither consumed nor dropped.
abbrev pub is_submittable : Setup → Past → ℕ → Bool
is_submittable setup past n = is_valid past n && (not (is_consumed setup past n) && not (is_dropped setup past n))

-- the objects that the commands of a pending command buffer name
abbrev pub names_at : Setup → Past → ℕ → List ℕ
names_at setup past n = if is_submittable setup past n then names_within (commands_at past n) else []

-- An encoder or a bundle encoder is open from its creation, valid or not, to its first finish or finishBundle, accepted or refused,
-- or its drop.
abbrev pub is_open : Setup → Past → ℕ → Bool
is_open setup past n = option_map_or takes_commands (info_at past n) false && (not (has_finished setup past n) && not (is_dropped setup past n))

-- what object n says of holders
abbrev pub holds_of : Setup → Past → ℕ → Holds
holds_of setup past n = record { dropped = dropped_at setup past n; opened = is_open setup past n; names = names_at setup past n; refers = refers_at past n }

-- whether object n is held
unfoldable pub is_held : Setup → Past → ℕ → Bool
is_held setup past n = is_held_in (holds_of setup past) (count past) n

-- What holds an object, as the least relation: it was made and is not dropped; a held object refers to it, being valid; a
-- pending command buffer names it; or an encoder that was made before its drop is open.
pub data Held (setup : Setup) (past : Past) : ℕ → Type 0 where
  undropped : {n : ℕ} → n < count past → is_dropped setup past n ≡ false → Held setup past n
  referred : {m n : ℕ} → Held setup past m → is_among (refers_at past m) n ≡ true → Held setup past n
  pending : {b n : ℕ} → n < count past → b < count past → is_submittable setup past b ≡ true → is_among (names_within (commands_at past b)) n ≡ true → Held setup past n
  awaited : {e k n : ℕ} → n < count past → dropped_at setup past n ≡ Some k → e < k → is_open setup past e ≡ true → Held setup past n
