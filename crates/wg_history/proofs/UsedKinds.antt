-- What commands use as a texture is one, and so is a query set, also through bundles, in a run of recordings that recorders kept.
use Rattle.std.proofs.Common.{◌≡◌, ℕ, List, [], ◌∷◌, reverse, Bool, true, false, not, ◌&&◌, ◌==◌, Option, Some, None, is_none, refl, ap, sym, ◌∙◌, if◌then◌else◌, true≢false, inl, inr}
use Rattle.std.specs.List.{list_any}
use Rattle.std.specs.Option.{option_map_or}
use Rattle.std.proofs.lemmas.Bool.{and_parts, or_cases, eqb-true}
use Rattle.wg_types.specs.Handles.{HandleValue}
use Rattle.wg_types.specs.Kinds.{kind_of}
use Rattle.wg_types.specs.Wanted.{admits}
use Rattle.wg_types.specs.Commands.{Command, named}
use Rattle.wg_types.specs.declared.commands.On.{On}
use Rattle.wg_types.specs.declared.wanted.Wanted.{Wanted}
use Rattle.wg_types.specs.declared.wanted.Wanted.TheVariants as wanted
use Rattle.wg_types.specs.declared.handles.Info.{Info}
use Rattle.wg_types.specs.declared.handles.Info.TheVariants.{Group, Queries, Texture, View, Bundle}
use Rattle.wg_types.specs.declared.bundles.BundleInfo.{BundleInfo}
use Rattle.wg_types.specs.declared.render.TargetInfo.{TargetInfo}
use Rattle.wg_model.specs.Rules.{AreMet, first_unmet}
use Rattle.wg_model.specs.Walk.{Kept, Verdict, bundle_of}
use Rattle.wg_model.specs.Bundles.{bundle_in, known_bundle, in_bundle}
use Rattle.wg_model.specs.Bound.{group_in, known_group}
use Rattle.wg_model.specs.Attachments.{view_in, attached_view}
use Rattle.wg_model.specs.Holding.{is_among}
use Rattle.wg_model.specs.Commands.{is_queries}
use Rattle.wg_model.specs.Recorded.{bound_texture, in_group, in_view, textures_as, query_sets_as, textures_of, query_sets_of, any_named, names_by}
use Rattle.wg_model.proofs.Unmet.{all_met}
use Rattle.wg_model.proofs.NamedLemmas.{any_by}
use Rattle.wg_model.proofs.Sparing.{or_first, any_reversed}
use Rattle.wg_history.specs.Entries.{Setup, Event, Finish, FinishBundle, effects_of, recorded_by, Past}
use Rattle.wg_history.specs.Objects.{is_making, count, maker, info_made, known_in, info_at, is_valid, is_made_valid, is_texture_info, commands_at}
use Rattle.wg_history.specs.Infos.{same_kind}
use Rattle.wg_history.specs.Rules.{is_genuine, is_barred, any_barred, kept_rules, recording_rules, finish_rule, finish_bundle_rule}
use Rattle.wg_history.specs.Loss.{is_lost}
use Rattle.wg_history.specs.FirstRules.{first_rule}
use Rattle.wg_history.specs.Answers.{answer_by, IsRun}
use Rattle.wg_history.specs.MapLaws.{AllStand, AreRecorded}
use Rattle.wg_history.proofs.Runs.{newest, others}
use Rattle.wg_history.proofs.Tests.{not_true, was_not, neither}
use Rattle.wg_history.proofs.Makers.{made_met}
use Rattle.wg_history.proofs.Viewing.{is_kind_at, kind_later, is_texture_at, own_known, view_texture}
use Rattle.wg_history.proofs.Reached.{genuine_knows, group_views, double_not}
use Rattle.wg_history.proofs.Walking.{HandlesFit, EachFits, bundle_fits, recording_fits}
use Rattle.wg_history.proofs.BundleTouches.{Word, texture_word, query_word, numbers_in, reached_by, reached_of, bundle_uses}

-- the one number of a list
among_one : (m n : ℕ) → is_among (m ∷ []) n ≡ true → m ≡ n
among_one m n e = elim (or_cases (m == n) false e) [
  | inl here ↦ eqb-true m n here
  | inr none ↦ absurd (true≢false (sym none))
]

-- What is reached through a genuine handle, as it is wanted, is of a kind.
abbrev Tells : Setup → Past → (Wanted → HandleValue → List ℕ) → (Info → Bool) → ℕ → Type 0
Tells setup past reached kind n = (handle : HandleValue) (asked : Wanted) → is_genuine setup past handle ≡ true → admits asked (kind_of handle.info) ≡ true → is_among (reached asked handle) n ≡ true → is_kind_at kind past n ≡ true

-- a genuine handle of something that is wanted as this
abbrev KindTells : (Info → Bool) → Wanted → Type 0
KindTells kind asked = (info : Info) (o : Option Info) → admits asked (kind_of info) ≡ true → option_map_or (same_kind info) o false ≡ true → option_map_or kind o false ≡ true

texture_tells : KindTells is_texture_info wanted.Texture
texture_tells (Texture known) o its e = by_known o e
  where
    by_known : (o : Option Info) → option_map_or (same_kind (Texture known)) o false ≡ true → option_map_or is_texture_info o false ≡ true
    by_known None e = e
    by_known (Some (Texture other)) e = refl
    by_known (Some _) e = absurd (true≢false (sym e))
texture_tells _ o its e = absurd (true≢false (sym its))

queries_tell : KindTells is_queries wanted.Queries
queries_tell (Queries known) o its e = by_known o e
  where
    by_known : (o : Option Info) → option_map_or (same_kind (Queries known)) o false ≡ true → option_map_or is_queries o false ≡ true
    by_known None e = e
    by_known (Some (Queries other)) e = refl
    by_known (Some _) e = absurd (true≢false (sym e))
queries_tell _ o its e = absurd (true≢false (sym its))

genuine_kind : (setup : Setup) (past : Past) (kind : Info → Bool) (asked : Wanted) (handle : HandleValue) (n : ℕ) → KindTells kind asked → is_genuine setup past handle ≡ true → admits asked (kind_of handle.info) ≡ true
    → is_among (handle.reference.number ∷ []) n ≡ true → is_kind_at kind past n ≡ true
genuine_kind setup past kind asked handle n tells genuine its among =
    ap (is_kind_at kind past) (sym (among_one handle.reference.number n among))
    ∙ tells handle.info (info_at past handle.reference.number) its (own_known setup past (same_kind handle.info) handle.reference (and_parts _ _ (and_parts _ _ genuine).0).0)

-- that of which a genuine handle of a view is, and those of which a genuine handle of a group has views
seen_texture : (setup : Setup) (past : Past) (handle : HandleValue) (n : ℕ) → IsRun setup past → is_genuine setup past handle ≡ true → is_among (in_view (attached_view handle)) n ≡ true → is_texture_at past n ≡ true
seen_texture setup past handle n run genuine among = by_valid handle.valid refl among
  where
    by_info : (info : Info) → handle.info ≡ info → handle.valid ≡ true → is_among (in_view (view_in info)) n ≡ true → is_texture_at past n ≡ true
    by_info (View known) same valid among =
        let knows = genuine_knows setup past handle genuine valid in
        ap (is_texture_at past) (sym (among_one known.texture.number n among)) ∙ view_texture setup past handle.reference.number known run knows.valid (knows.known ∙ ap (λ (x : Info). Some x) same)
    by_info _ same valid among = absurd (true≢false (sym among))

    by_valid : (b : Bool) → handle.valid ≡ b → is_among (in_view (if b then view_in handle.info else None)) n ≡ true → is_texture_at past n ≡ true
    by_valid true valid among = by_info handle.info refl valid among
    by_valid false valid among = absurd (true≢false (sym among))

bound_textures : (setup : Setup) (past : Past) (handle : HandleValue) (n : ℕ) → IsRun setup past → is_genuine setup past handle ≡ true → is_among (in_group bound_texture (known_group handle)) n ≡ true → is_texture_at past n ≡ true
bound_textures setup past handle n run genuine among = by_valid handle.valid refl among
  where
    by_info : (info : Info) → handle.info ≡ info → handle.valid ≡ true → is_among (in_group bound_texture (group_in info)) n ≡ true → is_texture_at past n ≡ true
    by_info (Group group) same valid among =
        let knows = genuine_knows setup past handle genuine valid in
        (group_views setup past handle.reference.number n group run knows.valid (knows.known ∙ ap (λ (x : Info). Some x) same) among).texture
    by_info _ same valid among = absurd (true≢false (sym among))

    by_valid : (b : Bool) → handle.valid ≡ b → is_among (in_group bound_texture (if b then group_in handle.info else None)) n ≡ true → is_texture_at past n ≡ true
    by_valid true valid among = by_info handle.info refl valid among
    by_valid false valid among = absurd (true≢false (sym among))

-- What a valid bundle is known to use of a sort is of a kind.
abbrev BundlesTell : Past → Word → (Info → Bool) → ℕ → Type 0
BundlesTell past word kind n = (m : ℕ) (bundle : BundleInfo) → is_valid past m ≡ true → info_at past m ≡ Some (Bundle bundle) → is_among (in_bundle (numbers_in word) (Some bundle)) n ≡ true → is_kind_at kind past n ≡ true

bundled_kind : (setup : Setup) (past : Past) (word : Word) (kind : Info → Bool) (handle : HandleValue) (n : ℕ) → BundlesTell past word kind n → is_genuine setup past handle ≡ true → is_among (in_bundle (numbers_in word) (known_bundle handle)) n ≡ true → is_kind_at kind past n ≡ true
bundled_kind setup past word kind handle n bundles genuine among = by_valid handle.valid refl among
  where
    by_info : (info : Info) → handle.info ≡ info → handle.valid ≡ true → is_among (in_bundle (numbers_in word) (bundle_in info)) n ≡ true → is_kind_at kind past n ≡ true
    by_info (Bundle bundle) same valid among =
        let knows = genuine_knows setup past handle genuine valid in
        bundles handle.reference.number bundle knows.valid (knows.known ∙ ap (λ (x : Info). Some x) same) among
    by_info _ same valid among = absurd (true≢false (sym among))

    by_valid : (b : Bool) → handle.valid ≡ b → is_among (in_bundle (numbers_in word) (if b then bundle_in handle.info else None)) n ≡ true → is_kind_at kind past n ≡ true
    by_valid true valid among = by_info handle.info refl valid among
    by_valid false valid among = absurd (true≢false (sym among))

object_texture : (setup : Setup) (past : Past) (n : ℕ) → IsRun setup past → BundlesTell past texture_word is_texture_info n → Tells setup past textures_as is_texture_info n
object_texture setup past n run bundles handle wanted.Texture genuine fits among = genuine_kind setup past is_texture_info wanted.Texture handle n texture_tells genuine fits among
object_texture setup past n run bundles handle wanted.View genuine fits among = seen_texture setup past handle n run genuine among
object_texture setup past n run bundles handle wanted.Group genuine fits among = bound_textures setup past handle n run genuine among
object_texture setup past n run bundles handle wanted.Bundle genuine fits among = bundled_kind setup past texture_word is_texture_info handle n bundles genuine among
object_texture setup past n run bundles handle _ genuine fits among = absurd (true≢false (sym among))

object_queries : (setup : Setup) (past : Past) (n : ℕ) → BundlesTell past query_word is_queries n → Tells setup past query_sets_as is_queries n
object_queries setup past n bundles handle wanted.Queries genuine fits among = genuine_kind setup past is_queries wanted.Queries handle n queries_tell genuine fits among
object_queries setup past n bundles handle wanted.Bundle genuine fits among = bundled_kind setup past query_word is_queries handle n bundles genuine among
object_queries setup past n bundles handle _ genuine fits among = absurd (true≢false (sym among))

-- So are those that commands reach.
objects_tell : (setup : Setup) (past : Past) (reached : Wanted → HandleValue → List ℕ) (kind : Info → Bool) (encoder : ℕ) (objects : List (HandleValue × Wanted)) (n : ℕ) → Tells setup past reached kind n → HandlesFit objects
    → list_any (is_barred setup past encoder) objects ≡ false → list_any (names_by reached (λ r. r == n)) objects ≡ true → is_kind_at kind past n ≡ true
objects_tell setup past reached kind encoder [] n tells fit spared among = absurd (true≢false (sym among))
objects_tell setup past reached kind encoder (object ∷ objects) n tells fit spared among = elim (or_cases (names_by reached (λ r. r == n) object) (list_any (names_by reached (λ r. r == n)) objects) among) [
  | inl here ↦ tells object.0 object.1 (and_parts (is_genuine setup past object.0) _ (double_not _ (or_first (is_barred setup past encoder object) _ spared))).0 fit.0 here
  | inr later ↦ objects_tell setup past reached kind encoder objects n tells fit.1 (was_not (is_barred setup past encoder object) _ spared) later
]

commands_tell : (setup : Setup) (past : Past) (reached : Wanted → HandleValue → List ℕ) (kind : Info → Bool) (encoder : ℕ) (kept : Kept) (n : ℕ) → Tells setup past reached kind n → EachFits kept
    → any_barred setup past encoder kept ≡ false → any_named (reached_of reached) (λ r. r == n) kept ≡ true → is_kind_at kind past n ≡ true
commands_tell setup past reached kind encoder [] n tells fit spared used = absurd (true≢false (sym used))
commands_tell setup past reached kind encoder (kept ∷ older) n tells fit spared used = elim (or_cases (list_any (λ r. r == n) (reached_of reached kept.1)) (any_named (reached_of reached) (λ r. r == n) older) used) [
  | inl here ↦ objects_tell setup past reached kind encoder (named kept.1) n tells fit.0 (or_first (list_any (is_barred setup past encoder) (named kept.1)) _ spared) (sym (any_by reached (λ r. r == n) (named kept.1)) ∙ here)
  | inr later ↦ commands_tell setup past reached kind encoder older n tells fit.1 (was_not (list_any (is_barred setup past encoder) (named kept.1)) _ spared) later
]

none_is : (o : Option ℕ) → is_none o ≡ true → o ≡ None
none_is None e = refl
none_is (Some rule) e = absurd (true≢false (sym e))

-- So are those that a recording reaches which met its rules.
recording_tells : (setup : Setup) (older : Past) (reached : Wanted → HandleValue → List ℕ) (kind : Info → Bool) (encoder : ℕ) (commands : List (On × Command)) (n : ℕ) → Tells setup older reached kind n → EachFits (reverse commands)
    → any_barred setup older encoder commands ≡ false → any_named (reached_of reached) (λ r. r == n) commands ≡ true → is_kind_at kind older n ≡ true
recording_tells setup older reached kind encoder commands n tells fits spared used =
    commands_tell setup older reached kind encoder (reverse commands) n tells fits
    (any_reversed (λ (kept : On × Command). list_any (is_barred setup older encoder) (named kept.1)) commands ∙ spared)
    (any_reversed (λ (kept : On × Command). list_any (λ r. r == n) (reached_of reached kept.1)) commands ∙ used)

finish_tells : (setup : Setup) (older : Past) (reached : Wanted → HandleValue → List ℕ) (kind : Info → Bool) (event : Event) (n : ℕ) → Tells setup older reached kind n → AllStand (reverse (recorded_by event))
    → is_made_valid (answer_by older (effects_of event).form (not (is_lost older) && is_none (first_rule setup older event))) ≡ true
    → any_named (reached_of reached) (λ r. r == n) (recorded_by event) ≡ true → is_kind_at kind older n ≡ true
unfolding finish_rule
finish_tells setup older reached kind (Finish encoder recording) n tells stand made used =
    let rules = neither _ _ (and_parts (not (is_lost older)) (is_none (finish_rule setup older encoder recording)) made).1 in
    let late = neither (Verdict recording.maker recording.targets recording.commands) (first_unmet (recording_rules setup older encoder.number recording)) rules.1 in
    let rest : AreMet (recording_rules setup older encoder.number recording) = all_met (recording_rules setup older encoder.number recording) late.1 in
    recording_tells setup older reached kind encoder.number recording.commands n tells
    (recording_fits recording.maker recording.targets recording.commands stand (none_is (Verdict recording.maker recording.targets recording.commands) late.0) (not_true _ rest.0))
    (not_true _ rest.1.1.0) used
finish_tells setup older reached kind _ n tells stand made used = absurd (true≢false (sym used))

-- What a bundle is known to use its own commands use.

bundle_tells : (setup : Setup) (older : Past) (word : Word) (kind : Info → Bool) (event : Event) (bundle : BundleInfo) (n : ℕ) → Tells setup older (reached_by word) kind n → info_made (known_in older) event ≡ Some (Bundle bundle)
    → is_made_valid (answer_by older (effects_of event).form (not (is_lost older) && is_none (first_rule setup older event))) ≡ true
    → is_among (in_bundle (numbers_in word) (Some bundle)) n ≡ true → is_kind_at kind older n ≡ true
unfolding finish_bundle_rule
bundle_tells setup older word kind (FinishBundle encoder recording) bundle n tells e made among =
    let same : bundle_of recording.maker recording.targets recording.commands ≡ bundle = cc in
    let rules = neither _ _ (and_parts (not (is_lost older)) (is_none (finish_bundle_rule setup older encoder recording)) made).1 in
    let late = neither (Verdict recording.maker recording.targets recording.commands) (first_unmet (kept_rules setup older encoder.number recording)) rules.1 in
    let rest : AreMet (kept_rules setup older encoder.number recording) = all_met (kept_rules setup older encoder.number recording) late.1 in
    let known = ap (λ (b : BundleInfo). is_among (in_bundle (numbers_in word) (Some b)) n) same ∙ among in
    by_targets recording.targets recording.commands (none_is (Verdict recording.maker recording.targets recording.commands) late.0) (not_true _ rest.1.0) known
  where
    by_targets : (targets : Option TargetInfo) (commands : List (On × Command)) → Verdict recording.maker targets commands ≡ None → any_barred setup older encoder.number commands ≡ false
        → is_among (in_bundle (numbers_in word) (Some (bundle_of recording.maker targets commands))) n ≡ true → is_kind_at kind older n ≡ true
    by_targets None commands none spared known = absurd (true≢false (sym known))
    by_targets (Some targets) commands none spared known =
        recording_tells setup older (reached_by word) kind encoder.number commands n tells (bundle_fits recording.maker targets (reverse commands) none) spared (bundle_uses word n recording.maker (Some targets) commands known)
bundle_tells setup older word kind _ bundle n tells e made among = absurd (cc)

-- what is told of objects where it is told of bundles
abbrev TellsOver : Setup → Word → (Info → Bool) → ℕ → Type 0
TellsOver setup word kind n = (older : Past) → IsRun setup older → BundlesTell older word kind n → Tells setup older (reached_by word) kind n

bundles_tell : (setup : Setup) (past : Past) (word : Word) (kind : Info → Bool) (n : ℕ) → TellsOver setup word kind n → IsRun setup past → BundlesTell past word kind n
bundles_tell setup [] word kind n tells run m bundle valid e among = absurd (true≢false (sym valid))
bundles_tell setup (entry ∷ older) word kind n tells run m bundle valid e among =
    kind_later kind entry older n (by_maker (is_making entry.event && count older == m) valid e (bundles_tell setup older word kind n tells (others setup entry older run)))
  where
    by_maker : (b : Bool) → option_map_or (λ entry. is_made_valid entry.reply.answer) (if b then Some entry else maker older m) false ≡ true → (if b then info_made (λ object. info_at older object.number) entry.event else info_at older m) ≡ Some (Bundle bundle)
        → BundlesTell older word kind n → is_kind_at kind older n ≡ true
    by_maker true valid e rest = bundle_tells setup older word kind entry.event bundle n (tells older (others setup entry older run) rest) e (made_met setup entry older (newest setup entry older run) valid) among
    by_maker false valid e rest = rest m bundle valid e among

used_tells : (setup : Setup) (past : Past) (word : Word) (kind : Info → Bool) (b n : ℕ) → TellsOver setup word kind n → IsRun setup past → AreRecorded past
    → is_valid past b ≡ true → any_named (reached_of (reached_by word)) (λ r. r == n) (commands_at past b) ≡ true → is_kind_at kind past n ≡ true
used_tells setup [] word kind b n tells run kept valid used = absurd (true≢false (sym valid))
used_tells setup (entry ∷ older) word kind b n tells run kept valid used =
    kind_later kind entry older n (by_maker (is_making entry.event && count older == b) valid used (used_tells setup older word kind b n tells (others setup entry older run) kept.1))
  where
    by_maker : (made : Bool) → option_map_or (λ entry. is_made_valid entry.reply.answer) (if made then Some entry else maker older b) false ≡ true
        → any_named (reached_of (reached_by word)) (λ r. r == n) (option_map_or (λ entry. recorded_by entry.event) (if made then Some entry else maker older b) []) ≡ true
        → (is_valid older b ≡ true → any_named (reached_of (reached_by word)) (λ r. r == n) (commands_at older b) ≡ true → is_kind_at kind older n ≡ true)
        → is_kind_at kind older n ≡ true
    by_maker true valid used rest =
        let below : IsRun setup older = others setup entry older run in
        finish_tells setup older (reached_by word) kind entry.event n (tells older below (bundles_tell setup older word kind n tells below)) kept.0 (made_met setup entry older (newest setup entry older run) valid) used
    by_maker false valid used rest = rest valid used

-- What a valid command buffer uses as a texture is one, and so is what it uses as a query set.
pub used_textures : (setup : Setup) (past : Past) (b n : ℕ) → IsRun setup past → AreRecorded past → is_valid past b ≡ true → any_named textures_of (λ r. r == n) (commands_at past b) ≡ true → is_kind_at is_texture_info past n ≡ true
used_textures setup past b n run kept valid used = used_tells setup past texture_word is_texture_info b n (λ older below bundles. object_texture setup older n below bundles) run kept valid used

pub used_query_sets : (setup : Setup) (past : Past) (b n : ℕ) → IsRun setup past → AreRecorded past → is_valid past b ≡ true → any_named query_sets_of (λ r. r == n) (commands_at past b) ≡ true → is_kind_at is_queries past n ≡ true
used_query_sets setup past b n run kept valid used = used_tells setup past query_word is_queries b n (λ older below bundles. object_queries setup older n bundles) run kept valid used
