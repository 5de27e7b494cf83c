-- What an event names was not let go, and what was let go is dead.
use Rattle.std.proofs.Common.{◌≡◌, ℕ, ◌-◌, ◌<◌, Bool, true, false, not, ◌&&◌, ◌||◌, nat_lt, List, [], ◌∷◌, ◌++◌, length, map, Option, Some, None, is_some, is_none, option_map, option_and_then, option_to_list, unwrap_or, inl, inr, refl, sym, ap, ap₂, ◌∙◌, arith, if◌then◌else◌, true≢false}
use Rattle.std.specs.Option.{option_map_or}
use Rattle.std.proofs.lemmas.Bool.{cases_lt, lt-ltb, and_parts, ltb-true}
use Rattle.std.proofs.lemmas.List.Folds.{list_any-append}
use Rattle.std.specs.List.{flat_map}
use Rattle.wg_fading.specs.Fading.{was_let_go}
use Rattle.wg_types.specs.declared.handles.Info.{Info}
use Rattle.wg_types.specs.declared.handles.Info.TheVariants.{View as ViewKind, PipelineLayout as PipelineLayoutKind, Group as GroupKind, GroupLayout as GroupLayoutKind, Compute as ComputeKind, Render as RenderKind}
use Rattle.wg_types.specs.declared.handles.ObjRef.{ObjRef}
use Rattle.wg_types.specs.declared.bindings.IfaceEntry.{IfaceEntry}
use Rattle.wg_types.specs.declared.bindings.GroupEntryOf.{GroupEntryOf}
use Rattle.wg_types.specs.declared.bindings.ResourceOf.{ResourceOf}
use Rattle.wg_types.specs.declared.bindings.ResourceOf.TheVariants.{Buffer, View, Sampler}
use Rattle.wg_types.specs.declared.bindings.BoundEntry.{BoundEntry}
use Rattle.wg_types.specs.declared.bindings.BoundResource.{BoundResource}
use Rattle.wg_types.specs.declared.bindings.BoundResource.TheVariants.{Buffer as BoundBuffer, View as BoundView, Sampler as BoundSampler}
use Rattle.wg_types.specs.declared.groups.GroupLayoutInfo.{GroupLayoutInfo}
use Rattle.wg_types.specs.declared.groups.PipelineLayoutInfo.{PipelineLayoutInfo}
use Rattle.wg_types.specs.Bindings.{resource_named, entries_named}
use Rattle.wg_model.specs.Automatic.{entries_at, known_layouts}
use Rattle.wg_model.specs.Bound.{is_automatic}
use Rattle.wg_model.specs.Making.{known_buffer, known_texture, known_view, known_sampler, known_group_layout, known_pipeline_layout, bound_resource, bound_entry, given_layouts, layout_made}
use Rattle.wg_model.specs.Views.{view_info}
use Rattle.wg_history.specs.declared.events.Setup.{Setup}
use Rattle.wg_history.specs.declared.events.Event.{Event}
use Rattle.wg_history.specs.declared.events.Event.TheVariants.{CreateBuffer, CreateTexture, CreateView, CreateSampler, CreateBindGroupLayout, CreatePipelineLayout, CreateBindGroup, CreateComputePipeline, CreateRenderPipeline, GetBindGroupLayout, CreateQuerySet, CreateEncoder, CreateBundleEncoder, Finish, FinishBundle, Late, Submit, WriteBuffer, WriteTexture, Destroy, Drop, Complete, PushErrorScope, PopErrorScope, Lose, WorkDone, MapAsync, Unmap}
use Rattle.wg_history.specs.Entries.{Past, effects_of, submitted}
use Rattle.wg_history.specs.Objects.{count, info_at, info_made, known_in, made_info}
use Rattle.wg_history.specs.Releases.{is_released}
use Rattle.wg_holders.specs.Holders.{Holdings, mark_at, list_at, is_held as is_held_now}
use Rattle.wg_life.specs.Lives.{LifeValue, AreDead as AreDeadIn, row_at, is_live, is_unreached, is_dead}
use Rattle.wg_life.specs.declared.rows.Resource.{Resource}
use Rattle.wg_life.specs.declared.rows.Row.{Row}
use Rattle.wg_state.specs.Gone.{touched, made_of, written_to, any_gone, names_gone, is_here, info_here, known_here, IsDead, AreDead}
use Rattle.wg_state.specs.Rows.{memory_at, IsLifeOf}
use Rattle.wg_state.proofs.LifeLemmas.{sort_at, held_same, holdings_of}
use Rattle.wg_state.proofs.KeptLemmas.{reads_dropped}
use Rattle.wg_state.proofs.Places.{info_none}

record Both (a b : Bool) : Type 0 where
  left : a ≡ false
  right : b ≡ false

or_parts : (a b : Bool) → (a || b) ≡ false → Both a b
or_parts false false e = record { left = refl; right = refl }
or_parts true b e = absurd (true≢false e)
or_parts false true e = absurd (true≢false e)

parts : (gone : List ℕ) (a b : List ObjRef) → any_gone gone (a ++ b) ≡ false → Both (any_gone gone a) (any_gone gone b)
parts gone a b none = or_parts (any_gone gone a) (any_gone gone b) (sym (list_any-append (λ (object : ObjRef). was_let_go gone object.number) a b) ∙ none)

-- the parts of what an event names that it is made of, and that it writes to
record NamesHere (gone : List ℕ) (event : Event) : Type 0 where
  made : any_gone gone (made_of event) ≡ false
  written : any_gone gone (written_to event) ≡ false

names_here : (gone : List ℕ) (event : Event) → names_gone gone event ≡ false → NamesHere gone event
names_here gone event none =
    let all = parts gone (touched (effects_of event)) (submitted event ++ (made_of event ++ written_to event)) none in
    let later = parts gone (submitted event) (made_of event ++ written_to event) all.right in
    let last = parts gone (made_of event) (written_to event) later.right in
    record { made = last.left; written = last.right }

-- what is known of what is named

known_same : (gone : List ℕ) (past : Past) (object : ObjRef) → was_let_go gone object.number ≡ false → known_here gone past object ≡ known_in past object
known_same gone past object here = ap (λ b. if b then None else info_at past object.number) here

layouts_same : (gone : List ℕ) (past : Past) (layouts : List (Option ObjRef)) → any_gone gone (flat_map option_to_list layouts) ≡ false
    → map (λ layout. known_group_layout (option_and_then (known_here gone past) layout)) layouts ≡ map (λ layout. known_group_layout (option_and_then (known_in past) layout)) layouts
layouts_same gone past [] none = refl
layouts_same gone past (None ∷ layouts) none = ap (λ (rest : List GroupLayoutInfo). known_group_layout None ∷ rest) (layouts_same gone past layouts none)
layouts_same gone past (Some layout ∷ layouts) none =
    let both = or_parts (was_let_go gone layout.number) (any_gone gone (flat_map option_to_list layouts)) none in
    ap₂ (λ (info : GroupLayoutInfo) (rest : List GroupLayoutInfo). info ∷ rest) (ap known_group_layout (known_same gone past layout both.left)) (layouts_same gone past layouts both.right)

resource_same : (gone : List ℕ) (past : Past) (resource : ResourceOf ObjRef) → was_let_go gone (resource_named resource).0.number ≡ false → bound_resource (λ r. r) (known_here gone past) resource ≡ bound_resource (λ r. r) (known_in past) resource
resource_same gone past (Buffer buffer offset size) here = ap (λ (o : Option Info). BoundBuffer buffer (known_buffer o) offset (unwrap_or size ((known_buffer o).size - offset))) (known_same gone past buffer here)
resource_same gone past (View view) here = ap (λ (o : Option Info). BoundView view (known_view o)) (known_same gone past view here)
resource_same gone past (Sampler sampler) here = ap (λ (o : Option Info). BoundSampler sampler (known_sampler o)) (known_same gone past sampler here)

entries_same : (gone : List ℕ) (past : Past) (entries : List (GroupEntryOf ObjRef)) → any_gone gone (map (λ named. named.0) (entries_named entries)) ≡ false → map (bound_entry (λ r. r) (known_here gone past)) entries ≡ map (bound_entry (λ r. r) (known_in past)) entries
entries_same gone past [] none = refl
entries_same gone past (entry ∷ entries) none =
    let both = or_parts (was_let_go gone (resource_named entry.resource).0.number) (any_gone gone (map (λ named. named.0) (entries_named entries))) none in
    ap₂ (λ (resource : BoundResource) (rest : List BoundEntry). record { binding = entry.binding; resource = resource } ∷ rest) (resource_same gone past entry.resource both.left) (entries_same gone past entries both.right)

layout_same : (gone : List ℕ) (past : Past) (layout : Option ObjRef) (iface : List IfaceEntry) → any_gone gone (option_to_list layout) ≡ false → layout_made (known_here gone past) layout iface ≡ layout_made (known_in past) layout iface
layout_same gone past None iface none = refl
layout_same gone past (Some layout) iface none = ap known_pipeline_layout (known_same gone past layout (or_parts (was_let_go gone layout.number) false none).left)

-- What is made of objects that were not let go is made of what is known of them.
pub made_same : (gone : List ℕ) (past : Past) (event : Event) → any_gone gone (made_of event) ≡ false → info_made (known_here gone past) event ≡ made_info past event
made_same gone past (CreateBuffer info) none = refl
made_same gone past (CreateTexture info) none = refl
made_same gone past (CreateView texture desc) none = ap (λ (o : Option Info). Some (ViewKind (view_info (known_texture o) texture desc))) (known_same gone past texture (or_parts (was_let_go gone texture.number) false none).left)
made_same gone past (CreateSampler desc) none = refl
made_same gone past (CreateBindGroupLayout entries) none = refl
made_same gone past (CreatePipelineLayout layouts) none = ap (λ (infos : List GroupLayoutInfo). Some (PipelineLayoutKind (record { layouts = given_layouts (λ r. r) layouts; layouts_info = infos }))) (layouts_same gone past layouts none)
made_same gone past (CreateBindGroup layout entries) none =
    let both = or_parts (was_let_go gone layout.number) (any_gone gone (map (λ named. named.0) (entries_named entries))) none in
    ap₂ (λ (o : Option Info) (bound : List BoundEntry). Some (GroupKind (record { layout = layout; layout_info = known_group_layout o; entries = bound }))) (known_same gone past layout both.left) (entries_same gone past entries both.right)
made_same gone past (CreateComputePipeline layout iface) none = ap (λ (info : PipelineLayoutInfo). Some (ComputeKind (record { layout = option_map (λ r. r) layout; layout_info = info; auto = is_none layout; iface = iface }))) (layout_same gone past layout iface.entries none)
made_same gone past (CreateRenderPipeline layout desc) none = ap (λ (info : PipelineLayoutInfo). Some (RenderKind (record { layout = option_map (λ r. r) layout; layout_info = info; auto = is_none layout; desc = desc }))) (layout_same gone past layout desc.iface none)
made_same gone past (GetBindGroupLayout pipeline index) none = ap (λ (o : Option Info). Some (GroupLayoutKind (record { entries = entries_at (known_layouts o) index; exclusive = if option_map_or is_automatic o false then Some pipeline.number else None; pipeline = Some pipeline }))) (known_same gone past pipeline (or_parts (was_let_go gone pipeline.number) false none).left)
made_same gone past (CreateQuerySet info) none = refl
made_same gone past CreateEncoder none = refl
made_same gone past (CreateBundleEncoder targets) none = refl
made_same gone past (Finish encoder recording) none = refl
made_same gone past (FinishBundle encoder recording) none = refl
made_same gone past (Late encoder) none = refl
made_same gone past (Submit buffers) none = refl
made_same gone past (WriteBuffer buffer offset size) none = refl
made_same gone past (WriteTexture texture spot layout size data_size) none = refl
made_same gone past (Destroy object) none = refl
made_same gone past (Drop object) none = refl
made_same gone past (Complete op) none = refl
made_same gone past (PushErrorScope filter) none = refl
made_same gone past PopErrorScope none = refl
made_same gone past Lose none = refl
made_same gone past WorkDone none = refl
made_same gone past (MapAsync buffer mode offset size) none = refl
made_same gone past (Unmap buffer) none = refl

pub made_here : (gone : List ℕ) (past : Past) (event : Event) → names_gone gone event ≡ false → info_made (known_here gone past) event ≡ made_info past event
made_here gone past event none = made_same gone past event (names_here gone event none).made

-- one that is not kept
pub unkept : (gone : List ℕ) (past : Past) (n : ℕ) → is_here gone past n ≡ false → None ≡ info_here gone past n
unkept gone past n out = by (was_let_go gone n) refl
  where
    by : (b : Bool) → was_let_go gone n ≡ b → None ≡ (if b then None else info_at past n)
    by true e = refl
    by false e = elim (cases_lt n (count past)) [
      | inl less ↦ absurd (true≢false (sym (ap₂ (λ (a b : Bool). a && not b) (lt-ltb n (count past) less) e) ∙ out))
      | inr more ↦ sym (info_none past n more)
    ]

not_true : (b : Bool) → not b ≡ true → b ≡ false
not_true true e = absurd (true≢false (sym e))
not_true false e = refl

-- what was let go is dead

-- an object that was made, was dropped, is not held, and is no resource that is not released
unreached_dead : (setup : Setup) (past : Past) (life : LifeValue) (n : ℕ) → IsLifeOf setup past life → n < length life.rows → is_some (mark_at life.holdings.marks n).dropped ≡ true → is_held_now life.holdings n ≡ false → is_live (row_at life.rows n) ≡ false → IsDead setup past n
unreached_dead setup past life n is in_rows dropped unheld over = record {
  made = made;
  dropped = sym (reads_dropped setup past life n is) ∙ dropped;
  unheld = sym (held_same setup past life.holdings n (holdings_of setup past life is)) ∙ unheld;
  over = λ some. released (is_some (memory_at past n)) (is_released setup past n) (sym (ap is_live (is.row_is n made)) ∙ over) (some_same (memory_at past n) ∙ (ap is_some (sort_at past n) ∙ some));
}
  where
    made : n < count past
    made = let len = is.rows_len in omega (arith, in_rows, len)

    some_same : (o : Option Resource) → is_some o ≡ is_some (option_map (λ (resource : Resource). resource.sort) o)
    some_same None = refl
    some_same (Some resource) = refl

    released : (r l : Bool) → (r && not l) ≡ false → r ≡ true → l ≡ true
    released r true e some = refl
    released true false e some = absurd (true≢false e)
    released false false e some = absurd (true≢false (sym some))

pub life_dead : (setup : Setup) (past : Past) (life : LifeValue) → IsLifeOf setup past life → AreDeadIn life.rows life.holdings life.gone → AreDead setup past life.gone
life_dead setup past life is dead n went = unreached_dead setup past life n is (dead.made n went) (dead.dropped n went) (dead.unheld n went) (dead.over n went)

-- what is dead of a life is dead in the past
pub dead_as : (setup : Setup) (past : Past) (life : LifeValue) (n : ℕ) → IsLifeOf setup past life → is_dead life n ≡ true → IsDead setup past n
dead_as setup past life n is dead =
    let whole = and_parts (nat_lt n (length life.rows) && not (was_let_go life.gone n)) (is_unreached life.rows life.holdings n) dead in
    let here = and_parts (nat_lt n (length life.rows)) (not (was_let_go life.gone n)) whole.0 in
    let unreached = and_parts (is_some (mark_at life.holdings.marks n).dropped) (not (is_held_now life.holdings n) && not (is_live (row_at life.rows n))) whole.1 in
    let rest = and_parts (not (is_held_now life.holdings n)) (not (is_live (row_at life.rows n))) unreached.1 in
    unreached_dead setup past life n is (ltb-true n (length life.rows) here.0) unreached.0 (not_true (is_held_now life.holdings n) rest.0) (not_true (is_live (row_at life.rows n)) rest.1)

-- the same life, of which more was let go
pub life_as : (setup : Setup) (past : Past) (old new : LifeValue) → new.rows ≡ old.rows → new.holdings ≡ old.holdings → new.budget ≡ old.budget → IsLifeOf setup past old → IsLifeOf setup past new
life_as setup past old new rows holdings budget is = record {
  rows_len = ap length rows ∙ is.rows_len;
  marks_len = ap (λ (h : Holdings). length h.marks) holdings ∙ is.marks_len;
  names_len = ap (λ (h : Holdings). length h.names) holdings ∙ is.names_len;
  refers_len = ap (λ (h : Holdings). length h.refers) holdings ∙ is.refers_len;
  row_is = λ n lt. ap (λ (list : List Row). row_at list n) rows ∙ is.row_is n lt;
  mark_is = λ n lt. ap (λ (h : Holdings). mark_at h.marks n) holdings ∙ is.mark_is n lt;
  names_are = λ n lt. ap (λ (h : Holdings). list_at h.names n) holdings ∙ is.names_are n lt;
  refers_are = λ n lt. ap (λ (h : Holdings). list_at h.refers n) holdings ∙ is.refers_are n lt;
  budget_is = budget ∙ is.budget_is;
}

-- where nothing was let go

any_none : (objects : List ObjRef) → any_gone [] objects ≡ false
any_none [] = refl
any_none (object ∷ objects) = any_none objects

pub names_none : (gone : List ℕ) (event : Event) → gone ≡ [] → names_gone gone event ≡ false
names_none gone event none = ap (λ (gone : List ℕ). names_gone gone event) none ∙ any_none (touched (effects_of event) ++ (submitted event ++ (made_of event ++ written_to event)))
