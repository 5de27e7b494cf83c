-- Bind group layouts that were got of pipelines, and the bind groups that were made for them.
use Rattle.std.proofs.Common.{◌≡◌, ℕ, zero, suc, ◌+◌, ◌<◌, ◌≤◌, List, [], ◌∷◌, ◌++◌, length, reverse, Bool, true, false, not, ◌&&◌, ◌||◌, ◌==◌, nat_lt, Option, Some, None, is_some, is_none, option_map, option_and_then, slice_get, get_or, slice_index_or, refl, ap, ap₂, sym, ◌∙◌, subst, arith, if◌then◌else◌, true≢false}
use Rattle.std.specs.Option.{option_map_or}
use Rattle.std.proofs.lemmas.Bool.{and_parts, and_left, and_right, eqb-true}
use Rattle.std.proofs.lemmas.Bool.Decides.{nat_tests}
use Rattle.std.proofs.lemmas.Option.{slice_get-get_or}
use Rattle.wg_rules.specs.declared.TheConstants.{PIPELINE_IS_SET, GROUPS_FIT_PIPELINE, WRITTEN_BINDINGS_ARE_APART}
use Rattle.wg_types.specs.Handles.{HandleValue}
use Rattle.wg_types.specs.Kinds.{kind_of}
use Rattle.wg_types.specs.Wanted.{admits}
use Rattle.wg_types.specs.declared.wanted.Wanted.TheVariants as wanted
use Rattle.wg_types.specs.declared.handles.Info.{Info}
use Rattle.wg_types.specs.declared.handles.Info.TheVariants.{GroupLayout, Group}
use Rattle.wg_types.specs.declared.bindings.GroupEntryOf.{GroupEntryOf}
use Rattle.wg_types.specs.declared.bindings.LayoutEntry.{LayoutEntry}
use Rattle.wg_types.specs.declared.groups.GroupLayoutInfo.{GroupLayoutInfo}
use Rattle.wg_types.specs.declared.groups.GroupInfo.{GroupInfo}
use Rattle.wg_types.specs.declared.commands.BoundGroup.{BoundGroup}
use Rattle.wg_model.specs.Rules.{Rule, AreMet, first_unmet}
use Rattle.wg_model.specs.Groups.{group_rules}
use Rattle.wg_model.specs.Making.{known_group_layout, group_made, group_layout_made, group_layout_got}
use Rattle.wg_model.specs.Bound.{has_entries, info_set, known_group, group_in, is_automatic, owner_of, layouts_in, layout_fits, layouts_fit, are_clear, layouts_places, bound_rules}
use Rattle.wg_model.specs.Equality.{equivalent_for}
use Rattle.wg_model.specs.Automatic.{entries_at, known_layouts, get_layout_rules}
use Rattle.wg_model.specs.Settings.{pipeline_layouts, ready_rules}
use Rattle.wg_model.proofs.Unmet.{all_met}
use Rattle.wg_model.proofs.Owned.{others_do_not_run}
use Rattle.wg_history.specs.Entries.{Setup, Event, CreateBindGroupLayout, CreateBindGroup, GetBindGroupLayout, effects_of, Entry, Past}
use Rattle.wg_history.specs.Objects.{ObjRef, is_making, count, maker, made_info, known_in, info_at, is_valid, is_made_valid}
use Rattle.wg_history.specs.GroupRules.{named_rules, group_named, create_bind_group_rule, get_bind_group_layout_rule}
use Rattle.wg_history.specs.Loss.{is_lost}
use Rattle.wg_history.specs.FirstRules.{first_rule}
use Rattle.wg_history.specs.Answers.{answer_by, IsRun}
use Rattle.wg_history.specs.Exclusive.{event_at, IsOfAutomatic, IsGroupOf, AreEntriesAt, EntriesAreGot, LayoutsAreExclusive, GroupsAreExclusive, GroupsServeOne}
use Rattle.wg_history.proofs.Runs.{newest, others}
use Rattle.wg_history.proofs.Tests.{met_before, met_after}
use Rattle.wg_history.proofs.Makers.{maker_stays, info_stays, count_grows, own_below, made_met}
use Rattle.wg_history.proofs.Viewing.{own_known}
use Rattle.wg_history.proofs.Reached.{genuine_knows}

-- An object, as it was when it was made: the event, and the past that came before it.
record Origin (setup : Setup) (past : Past) (n : ℕ) (info : Info) : Type 0 where
  event : Event
  older : Past
  its : event_at past n ≡ Some event
  known : made_info older event ≡ Some info
  met : is_valid past n ≡ true → is_made_valid (answer_by older (effects_of event).form (not (is_lost older) && is_none (first_rule setup older event))) ≡ true
  within : count older ≤ count past
  info_is : (m : ℕ) → m < count older → info_at past m ≡ info_at older m
  valid_is : (m : ℕ) → m < count older → is_valid past m ≡ is_valid older m

valid_stays : (past : Past) (entry : Entry) (n : ℕ) → n < count past → is_valid (entry ∷ past) n ≡ is_valid past n
valid_stays past entry n lt = ap (λ (o : Option Entry). option_map_or (λ it. is_made_valid it.reply.answer) o false) (maker_stays past entry n lt)

origin : (setup : Setup) (past : Past) (n : ℕ) (info : Info) → IsRun setup past → info_at past n ≡ Some info → Origin setup past n info
origin setup [] n info run e = absurd (cc)
origin setup (entry ∷ older) n info run e = by_maker (is_making entry.event && count older == n) refl e (origin setup older n info (others setup entry older run))
  where
    by_maker : (b : Bool) → (is_making entry.event && count older == n) ≡ b → (if b then made_info older entry.event else info_at older n) ≡ Some info → (info_at older n ≡ Some info → Origin setup older n info) → Origin setup (entry ∷ older) n info
    by_maker true new e rest =
        let made : maker (entry ∷ older) n ≡ Some entry = ap (λ b. if b then Some entry else maker older n) new in
        record {
          event = entry.event;
          older = older;
          its = ap (λ (o : Option Entry). option_map (λ (it : Entry). it.event) o) made;
          known = e;
          met = λ valid. made_met setup entry older (newest setup entry older run) (ap (λ (o : Option Entry). option_map_or (λ it. is_made_valid it.reply.answer) o false) (sym made) ∙ valid);
          within = count_grows (is_making entry.event) (count older) (count older) (omega arith);
          info_is = λ m lt. info_stays older entry m lt;
          valid_is = λ m lt. valid_stays older entry m lt;
        }
    by_maker false old e rest =
        let made : maker (entry ∷ older) n ≡ maker older n = ap (λ b. if b then Some entry else maker older n) old in
        let from : Origin setup older n info = rest e in
        let within : count from.older ≤ count older = from.within in
        record {
          event = from.event;
          older = from.older;
          its = ap (λ (o : Option Entry). option_map (λ (it : Entry). it.event) o) made ∙ from.its;
          known = from.known;
          met = λ valid. from.met (ap (λ (o : Option Entry). option_map_or (λ it. is_made_valid it.reply.answer) o false) (sym made) ∙ valid);
          within = count_grows (is_making entry.event) (count older) (count from.older) within;
          info_is = λ m lt. info_stays older entry m (omega (arith, lt, within)) ∙ from.info_is m lt;
          valid_is = λ m lt. valid_stays older entry m (omega (arith, lt, within)) ∙ from.valid_is m lt;
        }

-- What a past has of the objects that were made before an event is what it had then.
abbrev InfoIs : Past → Past → Type 0
InfoIs past older = (m : ℕ) → m < count older → info_at past m ≡ info_at older m

abbrev ValidIs : Past → Past → Type 0
ValidIs past older = (m : ℕ) → m < count older → is_valid past m ≡ is_valid older m

-- Of what a valid bind group layout is made: entries that are given, or a group of the layout of a pipeline.
abbrev got_of : Option Info → ObjRef → ℕ → GroupLayoutInfo
got_of known pipeline index = group_layout_got (λ (r : ObjRef). r) (λ (r : ObjRef). known) pipeline index

abbrev own_ref : Setup → ℕ → ObjRef
own_ref setup number = record { device = setup.serial; number = number }

data LayoutBy (setup : Setup) (past : Past) (n : ℕ) (layout : GroupLayoutInfo) : Type 0 where
  given : (entries : List LayoutEntry) → event_at past n ≡ Some (CreateBindGroupLayout entries) → layout.exclusive ≡ None → LayoutBy setup past n layout
  got : (number index : ℕ) → event_at past n ≡ Some (GetBindGroupLayout (own_ref setup number) index) → layout ≡ got_of (info_at past number) (own_ref setup number) index
      → nat_lt index (length (known_layouts (info_at past number))) ≡ true → LayoutBy setup past n layout

layout_made_by : (setup : Setup) (past older : Past) (n : ℕ) (layout : GroupLayoutInfo) (event : Event) → event_at past n ≡ Some event → made_info older event ≡ Some (GroupLayout layout)
    → is_made_valid (answer_by older (effects_of event).form (not (is_lost older) && is_none (first_rule setup older event))) ≡ true → InfoIs past older → LayoutBy setup past n layout
unfolding get_bind_group_layout_rule
layout_made_by setup past older n layout (CreateBindGroupLayout entries) its known made info_is =
    let same : group_layout_made entries ≡ layout = cc in
    given entries its (ap (λ (l : GroupLayoutInfo). l.exclusive) (sym same))
layout_made_by setup past older n layout (GetBindGroupLayout pipeline index) its known made info_is =
    let rules : List Rule = named_rules setup older ((pipeline, wanted.Pipeline) ∷ []) in
    let more : List Rule = get_layout_rules (known_in older pipeline) index in
    let met = all_met (rules ++ more) (and_parts (not (is_lost older)) (is_none (get_bind_group_layout_rule setup older pipeline index)) made).1 in
    let named : AreMet (named_rules setup older ((pipeline, wanted.Pipeline) ∷ [])) = met_before rules more met in
    let ruled : AreMet (get_layout_rules (known_in older pipeline) index) = met_after rules more met in
    let lt : pipeline.number < count older = own_below setup older _ pipeline named.0 in
    let device : pipeline.device ≡ setup.serial = eqb-true pipeline.device setup.serial (and_parts (pipeline.device == setup.serial) _ named.0).0 in
    let same : got_of (info_at older pipeline.number) pipeline index ≡ layout = cc in
    let back : info_at older pipeline.number ≡ info_at past pipeline.number = sym (info_is pipeline.number lt) in
    got pipeline.number index
    (its ∙ ap (λ (d : ℕ). Some (GetBindGroupLayout (record { device = d; number = pipeline.number }) index)) device)
    (sym same ∙ ap₂ (λ (o : Option Info) (d : ℕ). got_of o (record { device = d; number = pipeline.number }) index) back device)
    (ap (λ (o : Option Info). nat_lt index (length (known_layouts o))) (sym back) ∙ ruled.0)
layout_made_by setup past older n layout _ its known made info_is = absurd (cc)

layout_by : (setup : Setup) (past : Past) (n : ℕ) (layout : GroupLayoutInfo) → IsRun setup past → is_valid past n ≡ true → info_at past n ≡ Some (GroupLayout layout) → LayoutBy setup past n layout
layout_by setup past n layout run valid e =
    let from : Origin setup past n (GroupLayout layout) = origin setup past n (GroupLayout layout) run e in
    layout_made_by setup past from.older n layout from.event from.its from.known (from.met valid) from.info_is

-- the entries that are got

entries_there : (layout : GroupLayoutInfo) (layouts : List GroupLayoutInfo) (index : ℕ) → nat_lt index (length layouts) ≡ true → layout.entries ≡ entries_at layouts index → AreEntriesAt layout layouts index
entries_there layout layouts index lt same =
    let there : slice_get layouts index ≡ Some (get_or layouts index layout) = slice_get-get_or layouts index layout (grind (arith, nat_tests, lt)) in
    record { one = get_or layouts index layout; there = there; same = same ∙ ap (λ (o : Option GroupLayoutInfo). option_map_or (λ (l : GroupLayoutInfo). l.entries) o []) there }

pub entries_are_got : EntriesAreGot
entries_are_got setup history n index pipeline layout run valid e event = by_layout (layout_by setup (reverse history) n layout run valid e)
  where
    by_layout : LayoutBy setup (reverse history) n layout → AreEntriesAt layout (known_layouts (info_at (reverse history) pipeline.number)) index
    by_layout (given entries its none) = absurd (cc)
    by_layout (got number at its same lt) =
        let one_number : number ≡ pipeline.number = cc in
        let one_index : at ≡ index = cc in
        entries_there layout (known_layouts (info_at (reverse history) pipeline.number)) index
        (ap₂ (λ (i m : ℕ). nat_lt i (length (known_layouts (info_at (reverse history) m)))) (sym one_index) (sym one_number) ∙ lt)
        (ap (λ (l : GroupLayoutInfo). l.entries) same ∙ ap₂ (λ (i m : ℕ). entries_at (known_layouts (info_at (reverse history) m)) i) one_index one_number)

-- to which pipeline a layout is exclusive

owner_is : (automatic : Bool) (number pipeline : ℕ) → (if automatic then Some number else None) ≡ Some pipeline → (automatic ≡ true) × (number ≡ pipeline)
owner_is true number pipeline e = (refl, cc (e))
owner_is false number pipeline e = absurd (cc)

same_got : (a b : ObjRef) (i j : ℕ) → Some (GetBindGroupLayout a i) ≡ Some (GetBindGroupLayout b j) → a ≡ b
same_got a b i j e = cc (e)

exclusive_by : (setup : Setup) (past : Past) (n pipeline : ℕ) (layout : GroupLayoutInfo) → LayoutBy setup past n layout → layout.exclusive ≡ Some pipeline → IsOfAutomatic setup past n pipeline
exclusive_by setup past n pipeline layout (given entries its none) e = absurd (cc)
exclusive_by setup past n pipeline layout (got number index its same lt) e =
    let owner = owner_is (option_map_or is_automatic (info_at past number) false) number pipeline (ap (λ (l : GroupLayoutInfo). l.exclusive) (sym same) ∙ e) in
    record {
      index = index;
      got = its ∙ ap (λ (m : ℕ). Some (GetBindGroupLayout (own_ref setup m) index)) owner.1;
      automatic = ap (λ (m : ℕ). option_map_or is_automatic (info_at past m) false) (sym owner.1) ∙ owner.0;
    }

exclusive_to : (setup : Setup) (past : Past) (n pipeline : ℕ) (layout : GroupLayoutInfo) → LayoutBy setup past n layout → IsOfAutomatic setup past n pipeline → layout.exclusive ≡ Some pipeline
exclusive_to setup past n pipeline layout (given entries its none) of_automatic = let event = of_automatic.got in absurd (cc)
exclusive_to setup past n pipeline layout (got number index its same lt) of_automatic =
    let one : number ≡ pipeline = ap (λ (r : ObjRef). r.number) (same_got (own_ref setup number) (own_ref setup pipeline) index of_automatic.index (sym its ∙ of_automatic.got)) in
    let automatic : option_map_or is_automatic (info_at past number) false ≡ true = ap (λ (m : ℕ). option_map_or is_automatic (info_at past m) false) one ∙ of_automatic.automatic in
    ap (λ (l : GroupLayoutInfo). l.exclusive) same ∙ (ap (λ (b : Bool). if b then Some number else None) automatic ∙ ap (λ (m : ℕ). Some m) one)

pub layouts_are_exclusive : LayoutsAreExclusive
layouts_are_exclusive setup history n pipeline layout run valid e =
    let by : LayoutBy setup (reverse history) n layout = layout_by setup (reverse history) n layout run valid e in
    (exclusive_by setup (reverse history) n pipeline layout by, exclusive_to setup (reverse history) n pipeline layout by)

-- A valid bind group was made for a valid layout, and knows what is known of it.
record MadeFor (past : Past) (n : ℕ) (group : GroupInfo) : Type 0 where
  layout : ObjRef
  entries : List (GroupEntryOf ObjRef)
  its : event_at past n ≡ Some (CreateBindGroup layout entries)
  valid : is_valid past layout.number ≡ true
  known : info_at past layout.number ≡ Some (GroupLayout group.layout_info)

layout_known : (o : Option Info) → option_map_or (λ known. admits wanted.GroupLayout (kind_of known)) o false ≡ true → o ≡ Some (GroupLayout (known_group_layout o))
layout_known None own = absurd (true≢false (sym own))
layout_known (Some (GroupLayout layout)) own = refl
layout_known (Some _) own = absurd (true≢false (sym own))

group_made_by : (setup : Setup) (past older : Past) (n : ℕ) (group : GroupInfo) (event : Event) → event_at past n ≡ Some event → made_info older event ≡ Some (Group group)
    → is_made_valid (answer_by older (effects_of event).form (not (is_lost older) && is_none (first_rule setup older event))) ≡ true → InfoIs past older → ValidIs past older → MadeFor past n group
unfolding create_bind_group_rule
group_made_by setup past older n group (CreateBindGroup layout entries) its known made info_is valid_is =
    let rules : List Rule = named_rules setup older (group_named layout entries) in
    let more : List Rule = group_rules setup.limits (group_made (λ r. r) (known_in older) layout entries).layout_info.entries (group_made (λ r. r) (known_in older) layout entries).entries in
    let met = all_met (rules ++ more) (and_parts (not (is_lost older)) (is_none (create_bind_group_rule setup older layout entries)) made).1 in
    let named : AreMet (named_rules setup older (group_named layout entries)) = met_before rules more met in
    let lt : layout.number < count older = own_below setup older _ layout named.0 in
    let same : group_made (λ r. r) (known_in older) layout entries ≡ group = cc in
    record {
      layout = layout;
      entries = entries;
      its = its;
      valid = valid_is layout.number lt ∙ named.1.1.0;
      known = info_is layout.number lt ∙ (layout_known (info_at older layout.number) (own_known setup older _ layout named.0) ∙ ap (λ (g : GroupInfo). Some (GroupLayout g.layout_info)) same);
    }
group_made_by setup past older n group _ its known made info_is valid_is = absurd (cc)

made_for : (setup : Setup) (past : Past) (n : ℕ) (group : GroupInfo) → IsRun setup past → is_valid past n ≡ true → info_at past n ≡ Some (Group group) → MadeFor past n group
made_for setup past n group run valid e =
    let from : Origin setup past n (Group group) = origin setup past n (Group group) run e in
    group_made_by setup past from.older n group from.event from.its from.known (from.met valid) from.info_is from.valid_is

group_exclusive_by : (setup : Setup) (past : Past) (n pipeline : ℕ) (group : GroupInfo) → IsRun setup past → MadeFor past n group → group.layout_info.exclusive ≡ Some pipeline → IsGroupOf setup past n pipeline
group_exclusive_by setup past n pipeline group run for e = record {
  layout = for.layout;
  entries = for.entries;
  made = for.its;
  of_automatic = exclusive_by setup past for.layout.number pipeline group.layout_info (layout_by setup past for.layout.number group.layout_info run for.valid for.known) e;
}

group_exclusive_to : (setup : Setup) (past : Past) (n pipeline : ℕ) (group : GroupInfo) → IsRun setup past → MadeFor past n group → IsGroupOf setup past n pipeline → group.layout_info.exclusive ≡ Some pipeline
group_exclusive_to setup past n pipeline group run for of_one =
    let its = for.its in
    let made = of_one.made in
    let one : of_one.layout ≡ for.layout = cc in
    exclusive_to setup past for.layout.number pipeline group.layout_info (layout_by setup past for.layout.number group.layout_info run for.valid for.known)
    (subst (λ (layout : ObjRef). IsOfAutomatic setup past layout.number pipeline) one of_one.of_automatic)

pub groups_are_exclusive : GroupsAreExclusive
groups_are_exclusive setup history n pipeline group run valid e =
    let for : MadeFor (reverse history) n group = made_for setup (reverse history) n group run valid e in
    (group_exclusive_by setup (reverse history) n pipeline group run for, group_exclusive_to setup (reverse history) n pipeline group run for)

-- Where a layout has an entry and no valid group is set, 341 is unmet.

unset_from : (owner : Option ℕ) (layouts : List GroupLayoutInfo) (groups : List (Option BoundGroup)) (from index : ℕ) (layout : GroupLayoutInfo) → slice_get layouts index ≡ Some layout → has_entries layout ≡ true → info_set (slice_index_or groups (from + index) None) ≡ None → layouts_fit owner layouts groups from ≡ false
unset_from owner [] groups from index layout at asked set = absurd (true≢false (sym (ap is_some at)))
unset_from owner (x ∷ xs) groups from zero layout at asked set =
    let same : x ≡ layout = ap (λ (o : Option GroupLayoutInfo). option_map_or (λ (l : GroupLayoutInfo). l) o x) at in
    and_left (layout_fits owner x (slice_index_or groups from None)) (layouts_fit owner xs groups (from + 1))
    (ap₂ (λ (b : Bool) (o : Option GroupInfo). not b || option_map_or (λ (k : GroupInfo). equivalent_for owner x k.layout_info) o false)
    (ap has_entries same ∙ asked) (ap (λ (n : ℕ). info_set (slice_index_or groups n None)) (omega arith) ∙ set))
unset_from owner (x ∷ xs) groups from (suc index) layout at asked set =
    and_right (layout_fits owner x (slice_index_or groups from None)) (layouts_fit owner xs groups (from + 1))
    (unset_from owner xs groups (from + 1) index layout at asked (ap (λ (n : ℕ). info_set (slice_index_or groups n None)) (omega arith) ∙ set))

not_ready : (groups : List (Option BoundGroup)) (pipeline : HandleValue) (found : Option HandleValue) → found ≡ Some pipeline → layouts_fit (owner_of pipeline) (layouts_in pipeline.info) groups 0 ≡ false → first_unmet ((PIPELINE_IS_SET, is_some found) ∷ bound_rules (option_and_then owner_of found) (pipeline_layouts found) groups) ≡ Some GROUPS_FIT_PIPELINE
unfolding bound_rules
not_ready groups pipeline found at unmet =
    ap (λ (o : Option HandleValue). first_unmet ((PIPELINE_IS_SET, is_some o) ∷ bound_rules (option_and_then owner_of o) (pipeline_layouts o) groups)) at
    ∙ ap (λ (b : Bool). first_unmet ((GROUPS_FIT_PIPELINE, b) ∷ ((WRITTEN_BINDINGS_ARE_APART, are_clear (layouts_places (layouts_in pipeline.info) groups 0)) ∷ []))) unmet

-- The object of a handle whose event made a bind group is one.
made_group : (setup : Setup) (past : Past) (n : ℕ) (info : Info) (layout : ObjRef) (entries : List (GroupEntryOf ObjRef)) → IsRun setup past → info_at past n ≡ Some info → event_at past n ≡ Some (CreateBindGroup layout entries) → (group : GroupInfo) × (info ≡ Group group)
made_group setup past n info layout entries run e made =
    let from : Origin setup past n info = origin setup past n info run e in
    let its = from.its in
    let event : from.event ≡ CreateBindGroup layout entries = cc in
    let known : made_info from.older (CreateBindGroup layout entries) ≡ Some info = ap (λ (it : Event). made_info from.older it) (sym event) ∙ from.known in
    (group_made (λ r. r) (known_in from.older) layout entries, cc (known))

pub groups_serve_one : GroupsServeOne
groups_serve_one setup history set pipeline bound layout other index run piped there asked set_at genuine of_one apart = by_valid bound.group.valid refl
  where
    by_valid : (b : Bool) → bound.group.valid ≡ b → first_unmet (ready_rules set) ≡ Some GROUPS_FIT_PIPELINE
    by_valid true valid =
        let knows = genuine_knows setup (reverse history) bound.group genuine valid in
        let one = made_group setup (reverse history) bound.group.reference.number bound.group.info of_one.layout of_one.entries run knows.known of_one.made in
        let known : info_at (reverse history) bound.group.reference.number ≡ Some (Group one.0) = knows.known ∙ ap (λ (i : Info). Some i) one.1 in
        let given : known_group bound.group ≡ Some one.0 = ap₂ (λ (b : Bool) (i : Info). if b then group_in i else None) valid one.1 in
        others_do_not_run set pipeline other index piped
        (record {
          layout = layout;
          known = one.0;
          there = there;
          asked = asked;
          set = ap info_set set_at ∙ given;
          exclusive = (groups_are_exclusive setup history bound.group.reference.number other one.0 run knows.valid known).1 of_one;
        }) apart
    by_valid false valid =
        let none : known_group bound.group ≡ None = ap (λ (b : Bool). if b then group_in bound.group.info else None) valid in
        not_ready set.groups pipeline set.pipeline piped
        (unset_from (owner_of pipeline) (layouts_in pipeline.info) set.groups 0 index layout there asked (ap (λ (n : ℕ). info_set (slice_index_or set.groups n None)) (omega arith) ∙ (ap info_set set_at ∙ none)))
