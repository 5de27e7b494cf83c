-- What commands use, directly or through views, bind groups or bundles, was made before, and is held by what they name.
use Rattle.std.proofs.Common.{◌≡◌, ℕ, ◌<◌, List, [], ◌∷◌, ◌++◌, map, Bool, true, false, not, ◌&&◌, ◌||◌, ◌==◌, Option, Some, None, is_none, refl, ap, ap₂, sym, ◌∙◌, subst, arith, if◌then◌else◌, true≢false, inl, inr}
use Rattle.std.specs.List.{list_any, flat_map}
use Rattle.std.specs.Option.{option_map_or}
use Rattle.std.proofs.lemmas.Bool.{and_parts, and_from, or_cases, or_left, or_right, eq-eqb, eqb-true}
use Rattle.std.proofs.lemmas.List.Folds.{list_any-append}
use Rattle.wg_types.specs.Handles.{HandleValue}
use Rattle.wg_types.specs.Kinds.{kind_of}
use Rattle.wg_types.specs.Wanted.{admits}
use Rattle.wg_types.specs.Bindings.{resource_named, entries_named}
use Rattle.wg_types.specs.Commands.{Command, named}
use Rattle.wg_types.specs.declared.commands.On.{On}
use Rattle.wg_types.specs.declared.wanted.Wanted.{Wanted}
use Rattle.wg_types.specs.declared.wanted.Wanted.TheVariants as wanted
use Rattle.wg_types.specs.declared.handles.Info.{Info}
use Rattle.wg_types.specs.declared.handles.Info.TheVariants.{Group, View as ViewInfo, Bundle}
use Rattle.wg_types.specs.declared.bundles.BundleInfo.{BundleInfo}
use Rattle.wg_types.specs.declared.groups.GroupInfo.{GroupInfo}
use Rattle.wg_types.specs.declared.bindings.ResourceOf.{ResourceOf}
use Rattle.wg_types.specs.declared.bindings.ResourceOf.TheVariants.{Buffer, View, Sampler}
use Rattle.wg_types.specs.declared.bindings.GroupEntryOf.{GroupEntryOf}
use Rattle.wg_types.specs.declared.bindings.BoundResource.{BoundResource}
use Rattle.wg_types.specs.declared.bindings.BoundResource.TheVariants.{Buffer as BoundBuffer, View as BoundView, Sampler as BoundSampler}
use Rattle.wg_types.specs.declared.bindings.BoundEntry.{BoundEntry}
use Rattle.wg_model.specs.Rules.{Rule, AreMet, first_unmet}
use Rattle.wg_model.specs.Groups.{group_rules}
use Rattle.wg_model.specs.Walk.{Verdict, bundle_of}
use Rattle.wg_model.specs.Bundles.{bundle_in, known_bundle, in_bundle}
use Rattle.wg_model.specs.Bound.{group_in, known_group}
use Rattle.wg_model.specs.Attachments.{view_in, attached_view}
use Rattle.wg_model.specs.Holding.{is_among}
use Rattle.wg_model.specs.Making.{known_view, bound_resource, bound_entry, group_made}
use Rattle.wg_model.specs.Recorded.{bound_buffer, bound_texture, in_group, in_view, buffers_as, textures_as, query_sets_as, names_resource, names_by, names_within, resources, uses_resource}
use Rattle.wg_model.proofs.Unmet.{all_met}
use Rattle.wg_model.proofs.NamedLemmas.{any_resources}
use Rattle.wg_model.proofs.Sparing.{or_first}
use Rattle.wg_model.proofs.Holding.{referred_held}
use Rattle.wg_history.specs.Entries.{Setup, Event, CreateBindGroup, Finish, FinishBundle, effects_of, recorded_by, Entry, Past}
use Rattle.wg_history.specs.Objects.{ObjRef, is_making, count, maker, info_made, unknown, known_in, info_at, is_own, is_valid, is_made_valid, commands_at}
use Rattle.wg_history.specs.Operations.{submit_uses}
use Rattle.wg_history.specs.Infos.{same_kind, same_info}
use Rattle.wg_history.specs.Rules.{is_dropped, is_consumed, is_genuine, is_barred, any_barred, kept_rules, recording_rules, finish_rule, finish_bundle_rule, listed_rules}
use Rattle.wg_history.specs.GroupRules.{named_rules, group_named, create_bind_group_rule}
use Rattle.wg_history.specs.Held.{resource_number, refers_of, refers_made, refers_at, holds_of, is_held}
use Rattle.wg_history.specs.Loss.{is_lost}
use Rattle.wg_history.specs.FirstRules.{first_rule}
use Rattle.wg_history.specs.Answers.{answer_by, IsRun}
use Rattle.wg_history.proofs.BindingLaws.{infos_tell}
use Rattle.wg_history.proofs.Runs.{newest, others}
use Rattle.wg_history.proofs.Tests.{not_true, was_not, met_before, neither}
use Rattle.wg_history.proofs.Makers.{own_below, made_met, made_more}
use Rattle.wg_history.proofs.BundleTouches.{Word, buffer_word, texture_word, query_word, numbers_in, word_uses, bundle_uses}
use Rattle.wg_history.proofs.Holders.{named_held, named_from, refers_same, genuine_below, bundle_numbers}
use Rattle.wg_history.proofs.Making.{refers_back, names_back}
use Rattle.wg_history.proofs.Viewing.{is_texture_at, texture_later, view_texture}

-- To what an object refers is told by what is known of it.

bound_number : (known : ObjRef → Option Info) (resource : ResourceOf ObjRef) → resource_number (bound_resource (λ r. r) known resource) ≡ resource_number (bound_resource (λ r. r) unknown resource)
bound_number known (Buffer buffer offset size) = refl
bound_number known (View view) = refl
bound_number known (Sampler sampler) = refl

bound_numbers : (known : ObjRef → Option Info) (entries : List (GroupEntryOf ObjRef)) → map (λ (entry : BoundEntry). resource_number entry.resource) (map (bound_entry (λ r. r) known) entries) ≡ map (λ (entry : BoundEntry). resource_number entry.resource) (map (bound_entry (λ r. r) unknown) entries)
bound_numbers known [] = refl
bound_numbers known (entry ∷ entries) = ap₂ ◌∷◌ (bound_number known entry.resource) (bound_numbers known entries)

event_refers : (known : ObjRef → Option Info) (event : Event) → option_map_or refers_of (info_made known event) [] ≡ refers_made event
event_refers known (CreateBindGroup layout entries) = ap (λ (rest : List ℕ). layout.number ∷ rest) (bound_numbers known entries)
event_refers known _ = refl

pub refers_known : (past : Past) (n : ℕ) (info : Info) → is_valid past n ≡ true → info_at past n ≡ Some info → refers_at past n ≡ refers_of info
refers_known [] n info valid e = absurd (cc)
refers_known (entry ∷ older) n info valid e = by_maker (is_making entry.event && count older == n) valid e (refers_known older n info)
  where
    by_maker : (b : Bool) → option_map_or (λ entry. is_made_valid entry.reply.answer) (if b then Some entry else maker older n) false ≡ true → (if b then info_made (λ object. info_at older object.number) entry.event else info_at older n) ≡ Some info
        → (is_valid older n ≡ true → info_at older n ≡ Some info → refers_at older n ≡ refers_of info)
        → (if option_map_or (λ entry. is_made_valid entry.reply.answer) (if b then Some entry else maker older n) false then option_map_or (λ entry. refers_made entry.event) (if b then Some entry else maker older n) [] else []) ≡ refers_of info
    by_maker true valid e rest = rw valid (sym (event_refers (known_in older) entry.event) ∙ ap (λ (o : Option Info). option_map_or refers_of o []) e)
    by_maker false valid e rest = rest valid e

-- A buffer that a group binds is among the objects to which the group refers.

bound_refers : (n : ℕ) (entries : List BoundEntry) → is_among (flat_map (λ (entry : BoundEntry). bound_buffer entry.resource) entries) n ≡ true → is_among (map (λ (entry : BoundEntry). resource_number entry.resource) entries) n ≡ true
bound_refers n [] e = e
bound_refers n (entry ∷ entries) e = by_resource entry.resource e (bound_refers n entries)
  where
    by_resource : (resource : BoundResource) → is_among (bound_buffer resource ++ flat_map (λ (entry : BoundEntry). bound_buffer entry.resource) entries) n ≡ true
        → (is_among (flat_map (λ (entry : BoundEntry). bound_buffer entry.resource) entries) n ≡ true → is_among (map (λ (entry : BoundEntry). resource_number entry.resource) entries) n ≡ true)
        → is_among (resource_number resource ∷ map (λ (entry : BoundEntry). resource_number entry.resource) entries) n ≡ true
    by_resource (BoundBuffer buffer info offset size) e rest = elim (or_cases (buffer.number == n) (is_among (flat_map (λ (entry : BoundEntry). bound_buffer entry.resource) entries) n) e) [
      | inl here ↦ or_left (buffer.number == n) _ here
      | inr later ↦ or_right (buffer.number == n) _ (rest later)
    ]
    by_resource (BoundView view info) e rest = or_right (view.number == n) _ (rest e)
    by_resource (BoundSampler sampler info) e rest = or_right (sampler.number == n) _ (rest e)

-- A texture of which a valid group binds a view: the group refers to the view, and that to the texture.

pub record Viewed (past : Past) (numbers : List ℕ) (n : ℕ) : Type 0 where
  pub v : ℕ
  pub lt : v < count past
  pub among : is_among numbers v ≡ true
  pub refers : is_among (refers_at past v) n ≡ true
  pub texture : is_texture_at past n ≡ true

further : (past : Past) (x : ℕ) (xs : List ℕ) (n : ℕ) → Viewed past xs n → Viewed past (x ∷ xs) n
further past x xs n found = record { v = found.v; lt = found.lt; among = or_right (x == found.v) (is_among xs found.v) found.among; refers = found.refers; texture = found.texture }

view_refers : (past : Past) (v n : ℕ) (o : Option Info) → is_valid past v ≡ true → info_at past v ≡ o → option_map_or (λ known. admits wanted.View (kind_of known)) o false ≡ true → ((known_view o).texture.number == n) ≡ true → is_among (refers_at past v) n ≡ true
view_refers past v n None valid e own here = absurd (true≢false (sym own))
view_refers past v n (Some (ViewInfo known)) valid e own here = ap (λ (list : List ℕ). is_among list n) (refers_known past v (ViewInfo known) valid e) ∙ or_left (known.texture.number == n) false here
view_refers past v n (Some _) valid e own here = absurd (true≢false (sym own))

viewed_texture : (setup : Setup) (past : Past) (v n : ℕ) (o : Option Info) → IsRun setup past → is_valid past v ≡ true → info_at past v ≡ o → option_map_or (λ known. admits wanted.View (kind_of known)) o false ≡ true → ((known_view o).texture.number == n) ≡ true → is_texture_at past n ≡ true
viewed_texture setup past v n None run valid e own here = absurd (true≢false (sym own))
viewed_texture setup past v n (Some (ViewInfo known)) run valid e own here = ap (is_texture_at past) (sym (eqb-true known.texture.number n here)) ∙ view_texture setup past v known run valid e
viewed_texture setup past v n (Some _) run valid e own here = absurd (true≢false (sym own))

views_of : (setup : Setup) (older : Past) (entries : List (GroupEntryOf ObjRef)) (n : ℕ) → IsRun setup older → AreMet (named_rules setup older (entries_named entries))
    → is_among (flat_map (λ (entry : BoundEntry). bound_texture entry.resource) (map (bound_entry (λ r. r) (known_in older)) entries)) n ≡ true
    → Viewed older (map (λ (entry : BoundEntry). resource_number entry.resource) (map (bound_entry (λ r. r) (known_in older)) entries)) n
views_of setup older [] n run met e = absurd (true≢false (sym e))
views_of setup older (entry ∷ entries) n run met e = by_resource entry.resource met e (views_of setup older entries n run)
  where
    by_resource : (resource : ResourceOf ObjRef) → AreMet (named_rules setup older (resource_named resource ∷ entries_named entries))
        → is_among (bound_texture (bound_resource (λ r. r) (known_in older) resource) ++ flat_map (λ (entry : BoundEntry). bound_texture entry.resource) (map (bound_entry (λ r. r) (known_in older)) entries)) n ≡ true
        → (AreMet (named_rules setup older (entries_named entries)) → is_among (flat_map (λ (entry : BoundEntry). bound_texture entry.resource) (map (bound_entry (λ r. r) (known_in older)) entries)) n ≡ true → Viewed older (map (λ (entry : BoundEntry). resource_number entry.resource) (map (bound_entry (λ r. r) (known_in older)) entries)) n)
        → Viewed older (resource_number (bound_resource (λ r. r) (known_in older) resource) ∷ map (λ (entry : BoundEntry). resource_number entry.resource) (map (bound_entry (λ r. r) (known_in older)) entries)) n
    by_resource (Buffer buffer offset size) met e rest = further older buffer.number _ n (rest met.1.1.1 e)
    by_resource (Sampler sampler) met e rest = further older sampler.number _ n (rest met.1.1.1 e)
    by_resource (View view) met e rest = elim (or_cases ((known_view (known_in older view)).texture.number == n) (is_among (flat_map (λ (entry : BoundEntry). bound_texture entry.resource) (map (bound_entry (λ r. r) (known_in older)) entries)) n) e) [
      | inl here ↦ record {
        v = view.number;
        lt = own_below setup older _ view met.0;
        among = or_left (view.number == view.number) _ (eq-eqb view.number view.number refl);
        refers = view_refers older view.number n (info_at older view.number) met.1.1.0 refl (and_parts (view.device == setup.serial) _ met.0).1 here;
        texture = viewed_texture setup older view.number n (info_at older view.number) run met.1.1.0 refl (and_parts (view.device == setup.serial) _ met.0).1 here;
      }
      | inr later ↦ further older view.number _ n (rest met.1.1.1 later)
    ]

made_views : (setup : Setup) (older : Past) (event : Event) (group : GroupInfo) (n : ℕ) → IsRun setup older → info_made (known_in older) event ≡ Some (Group group) → is_made_valid (answer_by older (effects_of event).form (not (is_lost older) && is_none (first_rule setup older event))) ≡ true
    → is_among (flat_map (λ (entry : BoundEntry). bound_texture entry.resource) group.entries) n ≡ true → Viewed older (refers_of (Group group)) n
unfolding create_bind_group_rule
made_views setup older (CreateBindGroup layout entries) group n run e made among =
    let rules : List Rule = named_rules setup older (group_named layout entries) in
    let more : List Rule = group_rules setup.limits (group_made (λ r. r) (known_in older) layout entries).layout_info.entries (group_made (λ r. r) (known_in older) layout entries).entries in
    let met = all_met (rules ++ more) (and_parts (not (is_lost older)) (is_none (create_bind_group_rule setup older layout entries)) made).1 in
    let those : AreMet (named_rules setup older (group_named layout entries)) = met_before rules more met in
    let same : group_made (λ r. r) (known_in older) layout entries ≡ group = cc in
    subst (λ (g : GroupInfo). Viewed older (refers_of (Group g)) n) same
    (further older layout.number _ n (views_of setup older entries n run those.1.1.1 (ap (λ (g : GroupInfo). is_among (flat_map (λ (entry : BoundEntry). bound_texture entry.resource) g.entries) n) same ∙ among)))
made_views setup older _ group n run e made among = absurd (cc)

viewed_later : (entry : Entry) (older : Past) (numbers : List ℕ) (n : ℕ) → Viewed older numbers n → Viewed (entry ∷ older) numbers n
viewed_later entry older numbers n found = record {
  v = found.v;
  lt = made_more (is_making entry.event) (count older) found.v found.lt;
  among = found.among;
  refers = ap (λ (list : List ℕ). is_among list n) (refers_same entry older found.v found.lt) ∙ found.refers;
  texture = texture_later entry older n found.texture;
}

pub group_views : (setup : Setup) (past : Past) (g n : ℕ) (group : GroupInfo) → IsRun setup past → is_valid past g ≡ true → info_at past g ≡ Some (Group group)
    → is_among (flat_map (λ (entry : BoundEntry). bound_texture entry.resource) group.entries) n ≡ true → Viewed past (refers_of (Group group)) n
group_views setup [] g n group run valid e among = absurd (cc)
group_views setup (entry ∷ older) g n group run valid e among = viewed_later entry older (refers_of (Group group)) n (by_maker (is_making entry.event && count older == g) valid e (group_views setup older g n group (others setup entry older run)))
  where
    by_maker : (b : Bool) → option_map_or (λ entry. is_made_valid entry.reply.answer) (if b then Some entry else maker older g) false ≡ true → (if b then info_made (λ object. info_at older object.number) entry.event else info_at older g) ≡ Some (Group group)
        → (is_valid older g ≡ true → info_at older g ≡ Some (Group group) → is_among (flat_map (λ (entry : BoundEntry). bound_texture entry.resource) group.entries) n ≡ true → Viewed older (refers_of (Group group)) n)
        → Viewed older (refers_of (Group group)) n
    by_maker true valid e rest = made_views setup older entry.event group n (others setup entry older run) e (made_met setup entry older (newest setup entry older run) valid) among
    by_maker false valid e rest = rest valid e among

-- How commands reach a resource that they use: they name it, or something that refers to it, be it through others.
pub data Reached (past : Past) : List ℕ → ℕ → Type 0 where
  Named : {names : List ℕ} {n : ℕ} → is_among names n ≡ true → Reached past names n
  Through : {names : List ℕ} {n : ℕ} (m : ℕ) → m < count past → is_among names m ≡ true → Reached past (refers_at past m) n → Reached past names n

widened : (past : Past) (xs ys : List ℕ) (n : ℕ) → ((m : ℕ) → is_among xs m ≡ true → is_among ys m ≡ true) → Reached past xs n → Reached past ys n
widened past xs ys n wide (Named among) = Named (wide n among)
widened past xs ys n wide (Through m lt among rest) = Through m lt (wide m among) rest

reached_later : (entry : Entry) (older : Past) (names : List ℕ) (n : ℕ) → Reached older names n → Reached (entry ∷ older) names n
reached_later entry older names n (Named among) = Named among
reached_later entry older names n (Through m lt among rest) =
    Through m (made_more (is_making entry.event) (count older) m lt) among
    (subst (λ (list : List ℕ). Reached (entry ∷ older) list n) (sym (refers_same entry older m lt)) (reached_later entry older (refers_at older m) n rest))

-- a genuine handle that is valid knows what is known of its object
pub record Knows (past : Past) (n : ℕ) (info : Info) : Type 0 where
  pub valid : is_valid past n ≡ true
  pub known : info_at past n ≡ Some info

info_told : (info : Info) (o : Option Info) → option_map_or (same_info info) o false ≡ true → o ≡ Some info
info_told info None e = absurd (true≢false (sym e))
info_told info (Some other) e = ap (λ (x : Info). Some x) (sym ((infos_tell info other).0 e))

same_true : (a b : Bool) → a ≡ true → (if a then b else not b) ≡ true → b ≡ true
same_true true b e h = h
same_true false b e h = absurd (true≢false (sym e))

or_after : (a b : Bool) → a ≡ true → (not a || b) ≡ true → b ≡ true
or_after true b e h = h
or_after false b e h = absurd (true≢false (sym e))

pub genuine_knows : (setup : Setup) (past : Past) (handle : HandleValue) → is_genuine setup past handle ≡ true → handle.valid ≡ true → Knows past handle.reference.number handle.info
genuine_knows setup past handle genuine valid =
    let front = and_parts _ _ genuine in
    record {
      valid = same_true handle.valid (is_valid past handle.reference.number) valid (and_parts (is_own setup past (same_kind handle.info) handle.reference) _ front.0).1;
      known = info_told handle.info (info_at past handle.reference.number) (or_after handle.valid _ valid front.1);
    }

among_self : (n : ℕ) → is_among (n ∷ []) n ≡ true
among_self n = or_left (n == n) false (eq-eqb n n refl)

-- what a genuine handle of a group gives is reached through the group
group_buffers : (setup : Setup) (past : Past) (handle : HandleValue) (n : ℕ) → is_genuine setup past handle ≡ true → is_among (in_group bound_buffer (known_group handle)) n ≡ true → Reached past (handle.reference.number ∷ []) n
group_buffers setup past handle n genuine among = by_valid handle.valid refl among
  where
    by_info : (info : Info) → handle.info ≡ info → handle.valid ≡ true → is_among (in_group bound_buffer (group_in info)) n ≡ true → Reached past (handle.reference.number ∷ []) n
    by_info (Group group) same valid among =
        let knows = genuine_knows setup past handle genuine valid in
        Through handle.reference.number (genuine_below setup past handle genuine) (among_self handle.reference.number)
        (Named (ap (λ (list : List ℕ). is_among list n) (refers_known past handle.reference.number (Group group) knows.valid (knows.known ∙ ap (λ (x : Info). Some x) same)) ∙ or_right (group.layout.number == n) _ (bound_refers n group.entries among)))
    by_info _ same valid among = absurd (true≢false (sym among))

    by_valid : (b : Bool) → handle.valid ≡ b → is_among (in_group bound_buffer (if b then group_in handle.info else None)) n ≡ true → Reached past (handle.reference.number ∷ []) n
    by_valid true valid among = by_info handle.info refl valid among
    by_valid false valid among = absurd (true≢false (sym among))

group_textures : (setup : Setup) (past : Past) (handle : HandleValue) (n : ℕ) → IsRun setup past → is_genuine setup past handle ≡ true → is_among (in_group bound_texture (known_group handle)) n ≡ true → Reached past (handle.reference.number ∷ []) n
group_textures setup past handle n run genuine among = by_valid handle.valid refl among
  where
    by_info : (info : Info) → handle.info ≡ info → handle.valid ≡ true → is_among (in_group bound_texture (group_in info)) n ≡ true → Reached past (handle.reference.number ∷ []) n
    by_info (Group group) same valid among =
        let knows = genuine_knows setup past handle genuine valid in
        let known : info_at past handle.reference.number ≡ Some (Group group) = knows.known ∙ ap (λ (x : Info). Some x) same in
        let found = group_views setup past handle.reference.number n group run knows.valid known among in
        Through handle.reference.number (genuine_below setup past handle genuine) (among_self handle.reference.number)
        (Through found.v found.lt (ap (λ (list : List ℕ). is_among list found.v) (refers_known past handle.reference.number (Group group) knows.valid known) ∙ found.among) (Named found.refers))
    by_info _ same valid among = absurd (true≢false (sym among))

    by_valid : (b : Bool) → handle.valid ≡ b → is_among (in_group bound_texture (if b then group_in handle.info else None)) n ≡ true → Reached past (handle.reference.number ∷ []) n
    by_valid true valid among = by_info handle.info refl valid among
    by_valid false valid among = absurd (true≢false (sym among))

-- what a genuine handle of a view gives is that to which the view refers
view_textures : (setup : Setup) (past : Past) (handle : HandleValue) (n : ℕ) → is_genuine setup past handle ≡ true → is_among (in_view (attached_view handle)) n ≡ true → Reached past (handle.reference.number ∷ []) n
view_textures setup past handle n genuine among = by_valid handle.valid refl among
  where
    by_info : (info : Info) → handle.info ≡ info → handle.valid ≡ true → is_among (in_view (view_in info)) n ≡ true → Reached past (handle.reference.number ∷ []) n
    by_info (ViewInfo known) same valid among =
        let knows = genuine_knows setup past handle genuine valid in
        Through handle.reference.number (genuine_below setup past handle genuine) (among_self handle.reference.number)
        (Named (ap (λ (list : List ℕ). is_among list n) (refers_known past handle.reference.number (ViewInfo known) knows.valid (knows.known ∙ ap (λ (x : Info). Some x) same)) ∙ among))
    by_info _ same valid among = absurd (true≢false (sym among))

    by_valid : (b : Bool) → handle.valid ≡ b → is_among (in_view (if b then view_in handle.info else None)) n ≡ true → Reached past (handle.reference.number ∷ []) n
    by_valid true valid among = by_info handle.info refl valid among
    by_valid false valid among = absurd (true≢false (sym among))

-- What a valid bundle uses is reached by what it refers to.
abbrev BundlesReach : Past → ℕ → Type 0
BundlesReach past n = (word : Word) (m : ℕ) (bundle : BundleInfo) → is_valid past m ≡ true → info_at past m ≡ Some (Bundle bundle)
    → is_among (in_bundle (numbers_in word) (Some bundle)) n ≡ true → Reached past (refers_of (Bundle bundle)) n

-- so what a genuine handle of a bundle gives is reached through the bundle
bundle_resources : (setup : Setup) (past : Past) (word : Word) (handle : HandleValue) (n : ℕ) → BundlesReach past n → is_genuine setup past handle ≡ true → is_among (in_bundle (numbers_in word) (known_bundle handle)) n ≡ true → Reached past (handle.reference.number ∷ []) n
bundle_resources setup past word handle n bundles genuine among = by_valid handle.valid refl among
  where
    by_info : (info : Info) → handle.info ≡ info → handle.valid ≡ true → is_among (in_bundle (numbers_in word) (bundle_in info)) n ≡ true → Reached past (handle.reference.number ∷ []) n
    by_info (Bundle bundle) same valid among =
        let knows = genuine_knows setup past handle genuine valid in
        let known : info_at past handle.reference.number ≡ Some (Bundle bundle) = knows.known ∙ ap (λ (x : Info). Some x) same in
        Through handle.reference.number (genuine_below setup past handle genuine) (among_self handle.reference.number)
        (subst (λ (list : List ℕ). Reached past list n) (sym (refers_known past handle.reference.number (Bundle bundle) knows.valid known)) (bundles word handle.reference.number bundle knows.valid known among))
    by_info _ same valid among = absurd (true≢false (sym among))

    by_valid : (b : Bool) → handle.valid ≡ b → is_among (in_bundle (numbers_in word) (if b then bundle_in handle.info else None)) n ≡ true → Reached past (handle.reference.number ∷ []) n
    by_valid true valid among = by_info handle.info refl valid among
    by_valid false valid among = absurd (true≢false (sym among))

object_buffers : (setup : Setup) (past : Past) (handle : HandleValue) (asked : Wanted) (n : ℕ) → BundlesReach past n → is_genuine setup past handle ≡ true → is_among (buffers_as asked handle) n ≡ true → Reached past (handle.reference.number ∷ []) n
object_buffers setup past handle wanted.Buffer n bundles genuine among = Named among
object_buffers setup past handle wanted.Group n bundles genuine among = group_buffers setup past handle n genuine among
object_buffers setup past handle wanted.Bundle n bundles genuine among = bundle_resources setup past buffer_word handle n bundles genuine among
object_buffers setup past handle _ n bundles genuine among = absurd (true≢false (sym among))

object_textures : (setup : Setup) (past : Past) (handle : HandleValue) (asked : Wanted) (n : ℕ) → IsRun setup past → BundlesReach past n → is_genuine setup past handle ≡ true → is_among (textures_as asked handle) n ≡ true → Reached past (handle.reference.number ∷ []) n
object_textures setup past handle wanted.Texture n run bundles genuine among = Named among
object_textures setup past handle wanted.View n run bundles genuine among = view_textures setup past handle n genuine among
object_textures setup past handle wanted.Group n run bundles genuine among = group_textures setup past handle n run genuine among
object_textures setup past handle wanted.Bundle n run bundles genuine among = bundle_resources setup past texture_word handle n bundles genuine among
object_textures setup past handle _ n run bundles genuine among = absurd (true≢false (sym among))

object_query_sets : (setup : Setup) (past : Past) (handle : HandleValue) (asked : Wanted) (n : ℕ) → BundlesReach past n → is_genuine setup past handle ≡ true → is_among (query_sets_as asked handle) n ≡ true → Reached past (handle.reference.number ∷ []) n
object_query_sets setup past handle wanted.Queries n bundles genuine among = Named among
object_query_sets setup past handle wanted.Bundle n bundles genuine among = bundle_resources setup past query_word handle n bundles genuine among
object_query_sets setup past handle _ n bundles genuine among = absurd (true≢false (sym among))

object_reaches : (setup : Setup) (past : Past) (object : HandleValue × Wanted) (n : ℕ) → IsRun setup past → BundlesReach past n → is_genuine setup past object.0 ≡ true → names_resource (λ r. r == n) object ≡ true → Reached past (object.0.reference.number ∷ []) n
object_reaches setup past object n run bundles genuine among = elim (or_cases (names_by buffers_as (λ r. r == n) object) (names_by textures_as (λ r. r == n) object || names_by query_sets_as (λ r. r == n) object) among) [
  | inl buffers ↦ object_buffers setup past object.0 object.1 n bundles genuine buffers
  | inr others ↦ elim (or_cases (names_by textures_as (λ r. r == n) object) (names_by query_sets_as (λ r. r == n) object) others) [
    | inl textures ↦ object_textures setup past object.0 object.1 n run bundles genuine textures
    | inr queries ↦ object_query_sets setup past object.0 object.1 n bundles genuine queries
  ]
]

-- what the objects that commands name give, where none is barred

pub double_not : (b : Bool) → not b ≡ false → b ≡ true
double_not true e = refl
double_not false e = absurd (true≢false e)

objects_reach : (setup : Setup) (past : Past) (encoder : ℕ) (objects : List (HandleValue × Wanted)) (n : ℕ) → IsRun setup past → BundlesReach past n → list_any (is_barred setup past encoder) objects ≡ false → list_any (names_resource (λ r. r == n)) objects ≡ true → Reached past (map (λ (object : HandleValue × Wanted). object.0.reference.number) objects) n
objects_reach setup past encoder [] n run bundles spared among = absurd (true≢false (sym among))
objects_reach setup past encoder (object ∷ objects) n run bundles spared among = elim (or_cases (names_resource (λ r. r == n) object) (list_any (names_resource (λ r. r == n)) objects) among) [
  | inl here ↦ (
      let genuine = (and_parts (is_genuine setup past object.0) _ (double_not _ (or_first (is_barred setup past encoder object) _ spared))).0 in
      widened past (object.0.reference.number ∷ []) _ n (λ m e. elim (or_cases (object.0.reference.number == m) false e) [ inl same ↦ or_left (object.0.reference.number == m) _ same | inr none ↦ absurd (true≢false (sym none)) ])
      (object_reaches setup past object n run bundles genuine here))
  | inr later ↦ widened past _ _ n (λ m e. or_right (object.0.reference.number == m) _ e) (objects_reach setup past encoder objects n run bundles (was_not (is_barred setup past encoder object) _ spared) later)
]

among_left : (xs ys : List ℕ) (m : ℕ) → is_among xs m ≡ true → is_among (xs ++ ys) m ≡ true
among_left xs ys m e = list_any-append (λ r. r == m) xs ys ∙ or_left (is_among xs m) (is_among ys m) e

among_right : (xs ys : List ℕ) (m : ℕ) → is_among ys m ≡ true → is_among (xs ++ ys) m ≡ true
among_right xs ys m e = list_any-append (λ r. r == m) xs ys ∙ or_right (is_among xs m) (is_among ys m) e

commands_reach : (setup : Setup) (past : Past) (encoder : ℕ) (commands : List (On × Command)) (n : ℕ) → IsRun setup past → BundlesReach past n → any_barred setup past encoder commands ≡ false → uses_resource commands n ≡ true → Reached past (names_within commands) n
commands_reach setup past encoder [] n run bundles spared used = absurd (true≢false (sym used))
commands_reach setup past encoder (kept ∷ commands) n run bundles spared used = elim (or_cases (list_any (λ r. r == n) (resources kept.1)) (uses_resource commands n) used) [
  | inl here ↦ widened past _ _ n (among_left (map (λ (object : HandleValue × Wanted). object.0.reference.number) (named kept.1)) (names_within commands))
      (objects_reach setup past encoder (named kept.1) n run bundles (or_first _ _ spared) (sym (any_resources (λ r. r == n) kept.1) ∙ here))
  | inr later ↦ widened past _ _ n (among_right (map (λ (object : HandleValue × Wanted). object.0.reference.number) (named kept.1)) (names_within commands))
      (commands_reach setup past encoder commands n run bundles (was_not (list_any (is_barred setup past encoder) (named kept.1)) _ spared) later)
]

-- The commands of a bundle that is made are such.

made_reaches : (setup : Setup) (older : Past) (event : Event) (bundle : BundleInfo) (word : Word) (n : ℕ) → IsRun setup older → BundlesReach older n → info_made (known_in older) event ≡ Some (Bundle bundle)
    → is_made_valid (answer_by older (effects_of event).form (not (is_lost older) && is_none (first_rule setup older event))) ≡ true
    → is_among (in_bundle (numbers_in word) (Some bundle)) n ≡ true → Reached older (refers_of (Bundle bundle)) n
unfolding finish_bundle_rule
made_reaches setup older (FinishBundle encoder recording) bundle word n run bundles e made among =
    let made_of : BundleInfo = bundle_of recording.maker recording.targets recording.commands in
    let same : made_of ≡ bundle = cc in
    let rules = neither _ _ (and_parts (not (is_lost older)) (is_none (finish_bundle_rule setup older encoder recording)) made).1 in
    let late = neither (Verdict recording.maker recording.targets recording.commands) (first_unmet (kept_rules setup older encoder.number recording)) rules.1 in
    let rest : AreMet (kept_rules setup older encoder.number recording) = all_met (kept_rules setup older encoder.number recording) late.1 in
    let used = bundle_uses word n recording.maker recording.targets recording.commands (ap (λ (b : BundleInfo). is_among (in_bundle (numbers_in word) (Some b)) n) same ∙ among) in
    subst (λ (b : BundleInfo). Reached older (refers_of (Bundle b)) n) same
    (subst (λ (list : List ℕ). Reached older list n) (sym (bundle_numbers recording.maker recording.targets recording.commands))
    (commands_reach setup older encoder.number recording.commands n run bundles (not_true _ rest.1.0) (word_uses word (λ r. r == n) recording.commands used)))
made_reaches setup older _ bundle word n run bundles e made among = absurd (cc)

bundles_reach : (setup : Setup) (past : Past) (n : ℕ) → IsRun setup past → BundlesReach past n
bundles_reach setup [] n run word m bundle valid e among = absurd (true≢false (sym valid))
bundles_reach setup (entry ∷ older) n run word m bundle valid e among =
    reached_later entry older (refers_of (Bundle bundle)) n (by_maker (is_making entry.event && count older == m) valid e (bundles_reach setup older n (others setup entry older run)))
  where
    by_maker : (b : Bool) → option_map_or (λ entry. is_made_valid entry.reply.answer) (if b then Some entry else maker older m) false ≡ true → (if b then info_made (λ object. info_at older object.number) entry.event else info_at older m) ≡ Some (Bundle bundle)
        → BundlesReach older n → Reached older (refers_of (Bundle bundle)) n
    by_maker true valid e rest = made_reaches setup older entry.event bundle word n (others setup entry older run) rest e (made_met setup entry older (newest setup entry older run) valid) among
    by_maker false valid e rest = rest word m bundle valid e among

-- the commands of a finish that is accepted
finish_reaches : (setup : Setup) (older : Past) (event : Event) (n : ℕ) → IsRun setup older → is_made_valid (answer_by older (effects_of event).form (not (is_lost older) && is_none (first_rule setup older event))) ≡ true → uses_resource (recorded_by event) n ≡ true → Reached older (names_within (recorded_by event)) n
unfolding finish_rule
finish_reaches setup older (Finish encoder recording) n run made used =
    let rules = neither _ _ (and_parts (not (is_lost older)) (is_none (finish_rule setup older encoder recording)) made).1 in
    let late = neither (Verdict recording.maker recording.targets recording.commands) (first_unmet (recording_rules setup older encoder.number recording)) rules.1 in
    let rest : AreMet (recording_rules setup older encoder.number recording) = all_met (recording_rules setup older encoder.number recording) late.1 in
    commands_reach setup older encoder.number recording.commands n run (bundles_reach setup older n run) (not_true _ rest.1.1.0) used
finish_reaches setup older _ n run made used = absurd (true≢false (sym used))

-- What a valid command buffer uses is reached by what its commands name.
pub used_reached : (setup : Setup) (past : Past) (b n : ℕ) → IsRun setup past → is_valid past b ≡ true → uses_resource (commands_at past b) n ≡ true → Reached past (names_within (commands_at past b)) n
used_reached setup [] b n run valid used = absurd (true≢false (sym valid))
used_reached setup (entry ∷ older) b n run valid used = reached_later entry older (names_within (commands_at (entry ∷ older) b)) n (by_maker (is_making entry.event && count older == b) valid used (used_reached setup older b n (others setup entry older run)))
  where
    by_maker : (made : Bool) → option_map_or (λ entry. is_made_valid entry.reply.answer) (if made then Some entry else maker older b) false ≡ true
        → uses_resource (option_map_or (λ entry. recorded_by entry.event) (if made then Some entry else maker older b) []) n ≡ true
        → (is_valid older b ≡ true → uses_resource (commands_at older b) n ≡ true → Reached older (names_within (commands_at older b)) n)
        → Reached older (names_within (option_map_or (λ entry. recorded_by entry.event) (if made then Some entry else maker older b) [])) n
    by_maker true valid used rest = finish_reaches setup older entry.event n (others setup entry older run) (made_met setup entry older (newest setup entry older run) valid) used
    by_maker false valid used rest = rest valid used

-- What is reached was made before, and is held where all that is named is.

pub reached_below : (setup : Setup) (past : Past) (names : List ℕ) (n : ℕ) → IsRun setup past → ((m : ℕ) → is_among names m ≡ true → m < count past) → Reached past names n → n < count past
reached_below setup past names n run below (Named among) = below n among
reached_below setup past names n run below (Through m lt among rest) =
    reached_below setup past (refers_at past m) n run (λ k refers. (let less = refers_back setup past m k run refers in omega (arith, lt, less))) rest

referred : (setup : Setup) (past : Past) (m n : ℕ) → IsRun setup past → is_held setup past m ≡ true → is_among (refers_at past m) n ≡ true → is_held setup past n ≡ true
unfolding is_held
referred setup past m n run held refers = referred_held (holds_of setup past) (count past) m n (refers_back setup past m n run refers) held refers

pub reached_held : (setup : Setup) (past : Past) (names : List ℕ) (n : ℕ) → IsRun setup past → ((m : ℕ) → is_among names m ≡ true → is_held setup past m ≡ true) → Reached past names n → is_held setup past n ≡ true
reached_held setup past names n run held (Named among) = held n among
reached_held setup past names n run held (Through m lt among rest) = reached_held setup past (refers_at past m) n run (λ k refers. referred setup past m k run (held m among) refers) rest

-- What an operation uses is held.
pub listed_held : (setup : Setup) (past : Past) (buffers : List ObjRef) (n : ℕ) → IsRun setup past → AreMet (listed_rules setup past buffers) → list_any (λ buffer. is_consumed setup past buffer.number) buffers ≡ false → submit_uses past buffers n ≡ true → is_held setup past n ≡ true
listed_held setup past [] n run met consumed used = absurd (true≢false (sym used))
listed_held setup past (buffer ∷ buffers) n run met consumed used = elim (or_cases (uses_resource (commands_at past buffer.number) n) (submit_uses past buffers n) used) [
  | inl here ↦ (
      let below : buffer.number < count past = own_below setup past _ buffer met.0 in
      reached_held setup past (names_within (commands_at past buffer.number)) n run
      (λ m among.
      let less = names_back setup past buffer.number m run met.1.1.0 among in
      named_held setup past m (omega (arith, below, less)) (named_from setup past buffer.number m below
      (and_from (is_valid past buffer.number) _ met.1.1.0 (and_from (not (is_consumed setup past buffer.number)) (not (is_dropped setup past buffer.number)) (ap not (or_first (is_consumed setup past buffer.number) _ consumed)) met.1.0))
      among))
      (used_reached setup past buffer.number n run met.1.1.0 here))
  | inr later ↦ listed_held setup past buffers n run met.1.1.1 (was_not (is_consumed setup past buffer.number) _ consumed) later
]
