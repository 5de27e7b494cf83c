-- The commands of a recording that was accepted are fair, since their handles are genuine.
use Rattle.std.specs.Prelude.{reverse}
use Rattle.std.specs.List.{flat_map, list_any}
use Rattle.std.specs.Option.{option_or, option_map_or, unwrap_or}
use Rattle.std.proofs.Common.{◌≡◌, ℕ, ◌==◌, ◌&&◌, not, List, [], ◌∷◌, map, Bool, true, false, Option, Some, None, is_none, refl, sym, subst, if◌then◌else◌, true≢false}
use Rattle.std.proofs.lemmas.Bool.{and_parts, or_parts}
use Rattle.wg_types.specs.declared.limits.Maker.{Maker}
use Rattle.wg_types.specs.Commands.{Command, named}
use Rattle.wg_types.specs.Render.{color_named, targets_named, depth_named}
use Rattle.wg_types.specs.Refs.{all_wanted, maybe_wanted}
use Rattle.wg_types.specs.Handles.{HandleValue}
use Rattle.wg_types.specs.declared.commands.CommandOf.TheVariants.{BeginRenderPass, ExecuteBundles}
use Rattle.wg_types.specs.declared.commands.On.{On}
use Rattle.wg_types.specs.declared.wanted.Wanted.{Wanted}
use Rattle.wg_types.specs.declared.wanted.Wanted.TheVariants as wanted
use Rattle.wg_types.specs.declared.handles.Info.{Info}
use Rattle.wg_types.specs.declared.handles.Info.TheVariants.{View, Bundle}
use Rattle.wg_types.specs.declared.bundles.BundleInfo.{BundleInfo}
use Rattle.wg_types.specs.declared.render.TargetInfo.{TargetInfo}
use Rattle.wg_types.specs.declared.textures.ViewInfo.{ViewInfo}
use Rattle.wg_rows.specs.Rows.{EachRow}
use Rattle.wg_model.specs.Rules.{first_unmet, AreMet}
use Rattle.wg_model.proofs.Unmet.{all_met}
use Rattle.wg_model.specs.Textures.{dim_fits}
use Rattle.wg_model.specs.Making.{no_view, view_made}
use Rattle.wg_model.specs.Attachments.{ColorTarget, view_in, attached_view}
use Rattle.wg_model.specs.Touches.{is_scoped}
use Rattle.wg_model.specs.Bundles.{bundle_in, bundle_touches}
use Rattle.wg_model.specs.Render.{touches_over, bundle_set}
use Rattle.wg_model.specs.Walk.{Verdict, bundle_verdict, bundled, bundle_of}
use Rattle.wg_history.specs.declared.events.Setup.{Setup}
use Rattle.wg_history.specs.declared.events.Event.{Event}
use Rattle.wg_history.specs.declared.events.Event.TheVariants.{CreateView, FinishBundle}
use Rattle.wg_history.specs.Entries.{Past, effects_of}
use Rattle.wg_history.specs.Objects.{is_making, count, maker, info_made, known_in, info_at, is_valid, is_made_valid}
use Rattle.wg_history.specs.Loss.{is_lost}
use Rattle.wg_history.specs.Rules.{create_view_list, create_view_rule, is_genuine, is_barred, any_barred, encoder_rules, kept_rules, finish_bundle_rule}
use Rattle.wg_history.specs.FirstRules.{first_rule}
use Rattle.wg_history.specs.Answers.{IsRun, answer_by}
use Rattle.wg_history.proofs.Makers.{made_met}
use Rattle.wg_history.proofs.Runs.{newest, others}
use Rattle.wg_history.proofs.Reached.{Knows, genuine_knows, double_not}
use Rattle.wg_shaped.specs.Once.{IsFairColor, IsFairInfo, IsFairBundle, IsFair}
use Rattle.wg_shaped.proofs.Recorded.{each_parts, over_told, AreFair, AreFairKept, each_reverse}
use Rattle.wg_shaped.proofs.Bundling.{touches_fair}

pub or_none : {A : Type 0} (a b : Option A) → is_none (option_or a b) ≡ true → (is_none a ≡ true) × (is_none b ≡ true)
or_none None b e = (refl, e)
or_none (Some x) b e = absurd (true≢false (sym e))

-- A valid view has a dimension of its texture.
abbrev Fits : ViewInfo → Type 0
Fits view = dim_fits view.dim view.texture_info.dim ≡ true

made_fits : (setup : Setup) (older : Past) (event : Event) (known : ViewInfo) → info_made (known_in older) event ≡ Some (View known)
    → is_made_valid (answer_by older (effects_of event).form (not (is_lost older) && is_none (first_rule setup older event))) ≡ true → Fits known
unfolding create_view_rule
made_fits setup older (CreateView texture desc) known e made =
    let met : AreMet (create_view_list setup older texture desc) = all_met (create_view_list setup older texture desc) (and_parts (not (is_lost older)) (is_none (create_view_rule setup older texture desc)) made).1 in
    let same : view_made (λ r. r) (known_in older) texture desc ≡ known = cc in
    subst Fits same met.1.1.1.1.1.1.0
made_fits setup older _ known e made = absurd (cc)

view_fits : (setup : Setup) (past : Past) (v : ℕ) (known : ViewInfo) → IsRun setup past → is_valid past v ≡ true → info_at past v ≡ Some (View known) → Fits known
view_fits setup [] v known run valid e = absurd (true≢false (sym valid))
view_fits setup (entry ∷ older) v known run valid e = by_maker (is_making entry.event && count older == v) valid e (view_fits setup older v known (others setup entry older run))
  where
    by_maker : (b : Bool) → option_map_or (λ entry. is_made_valid entry.reply.answer) (if b then Some entry else maker older v) false ≡ true → (if b then info_made (λ object. info_at older object.number) entry.event else info_at older v) ≡ Some (View known)
        → (is_valid older v ≡ true → info_at older v ≡ Some (View known) → Fits known) → Fits known
    by_maker true valid e rest = made_fits setup older entry.event known e (made_met setup entry older (newest setup entry older run) valid)
    by_maker false valid e rest = rest valid e

-- What valid bundles touch is fair.
abbrev BundlesFair : Past → Type 0
BundlesFair past = (b : ℕ) (known : BundleInfo) → is_valid past b ≡ true → info_at past b ≡ Some (Bundle known) → IsFairInfo (Some known)

-- genuine handles
handle_view : (setup : Setup) (past : Past) (handle : HandleValue) → IsRun setup past → is_genuine setup past handle ≡ true → Fits (unwrap_or (attached_view handle) no_view)
handle_view setup past handle run genuine = by_valid handle.valid refl
  where
    by_info : (info : Info) → Knows past handle.reference.number info → Fits (unwrap_or (view_in info) no_view)
    by_info (View known) k = view_fits setup past handle.reference.number known run k.valid k.known
    by_info _ k = refl

    by_valid : (b : Bool) → handle.valid ≡ b → Fits (unwrap_or (if b then view_in handle.info else None) no_view)
    by_valid true e = by_info handle.info (genuine_knows setup past handle genuine e)
    by_valid false e = refl

handle_bundle : (setup : Setup) (past : Past) (handle : HandleValue) → BundlesFair past → is_genuine setup past handle ≡ true → IsFairBundle handle
handle_bundle setup past handle fair genuine = by_valid handle.valid refl
  where
    by_info : (info : Info) → Knows past handle.reference.number info → IsFairInfo (bundle_in info)
    by_info (Bundle known) k = fair handle.reference.number known k.valid k.known
    by_info _ k = tt

    by_valid : (b : Bool) → handle.valid ≡ b → IsFairInfo (if b then bundle_in handle.info else None)
    by_valid true e = by_info handle.info (genuine_knows setup past handle genuine e)
    by_valid false e = tt

abbrev AreGenuine : Setup → Past → List (HandleValue × Wanted) → Type 0
AreGenuine setup past objects = EachRow (λ (object : HandleValue × Wanted). is_genuine setup past object.0 ≡ true) objects

all_genuine : (setup : Setup) (past : Past) (encoder : ℕ) (objects : List (HandleValue × Wanted)) → list_any (is_barred setup past encoder) objects ≡ false → AreGenuine setup past objects
all_genuine setup past encoder [] e = tt
all_genuine setup past encoder (object ∷ objects) e =
    let parts : (is_barred setup past encoder object ≡ false) × (list_any (is_barred setup past encoder) objects ≡ false) = or_parts (is_barred setup past encoder object) (list_any (is_barred setup past encoder) objects) e in
    ((and_parts _ _ (double_not _ parts.0)).0, all_genuine setup past encoder objects parts.1)

colors_fair : (setup : Setup) (past : Past) (colors : List (Option ColorTarget)) → IsRun setup past → AreGenuine setup past (flat_map color_named colors) → EachRow IsFairColor colors
colors_fair setup past [] run h = tt
colors_fair setup past (None ∷ colors) run h = (tt, colors_fair setup past colors run h)
colors_fair setup past (Some target ∷ colors) run h = (
  handle_view setup past target.view run h.0,
  colors_fair setup past colors run (each_parts (λ (object : HandleValue × Wanted). is_genuine setup past object.0 ≡ true) (maybe_wanted wanted.View target.resolve) (flat_map color_named colors) h.1).1,
)

bundles_named : (setup : Setup) (past : Past) (bundles : List HandleValue) → BundlesFair past → AreGenuine setup past (all_wanted wanted.Bundle bundles) → EachRow IsFairBundle bundles
bundles_named setup past [] fair h = tt
bundles_named setup past (bundle ∷ bundles) fair h = (handle_bundle setup past bundle fair h.0, bundles_named setup past bundles fair h.1)

command_fair : (setup : Setup) (past : Past) (command : Command) → IsRun setup past → BundlesFair past → AreGenuine setup past (named command) → IsFair command
command_fair setup past (BeginRenderPass begin) run fair h =
    colors_fair setup past begin.colors run
    (each_parts (λ (object : HandleValue × Wanted). is_genuine setup past object.0 ≡ true) (flat_map color_named begin.colors) (depth_named begin.depth)
    (each_parts (λ (object : HandleValue × Wanted). is_genuine setup past object.0 ≡ true) (targets_named begin) (maybe_wanted wanted.Queries begin.queries) h).0).0
command_fair setup past (ExecuteBundles bundles) run fair h = bundles_named setup past bundles fair h
command_fair setup past _ run fair h = tt

kept_fair : (setup : Setup) (past : Past) (encoder : ℕ) (commands : List (On × Command)) → IsRun setup past → BundlesFair past → any_barred setup past encoder commands ≡ false → AreFairKept commands
kept_fair setup past encoder [] run fair e = tt
kept_fair setup past encoder (kept ∷ commands) run fair e =
    let parts : (list_any (is_barred setup past encoder) (named kept.1) ≡ false) × (any_barred setup past encoder commands ≡ false) = or_parts (list_any (is_barred setup past encoder) (named kept.1)) (any_barred setup past encoder commands) e in
    (command_fair setup past kept.1 run fair (all_genuine setup past encoder (named kept.1) parts.0), kept_fair setup past encoder commands run fair parts.1)

-- what a bundle touches that is made
bundled_fair : (kept : List (On × Command)) → AreFairKept kept → AreFair (map (λ (one : On × Command). one.1) kept)
bundled_fair [] h = tt
bundled_fair (one ∷ kept) h = (h.0, bundled_fair kept h.1)

of_fair : (maker : Maker) (targets : Option TargetInfo) (commands : List (On × Command)) → AreFairKept commands → IsFairInfo (Some (bundle_of maker targets commands))
of_fair maker None commands fair = tt
of_fair maker (Some targets) commands fair = by_verdict (is_none (bundle_verdict maker targets (bundled commands)))
  where
    by_verdict : (b : Bool) → EachRow (λ touch. is_scoped touch.cells ≡ true) (if b then bundle_touches (bundle_set targets (bundled commands)).touches else [])
    by_verdict true = touches_fair (touches_over None [] (bundled commands)) (over_told None [] (bundled commands) (bundled_fair (reverse commands) (each_reverse commands fair)) tt)
    by_verdict false = tt

not_true_false : (b : Bool) → not b ≡ true → b ≡ false
not_true_false true e = sym e
not_true_false false e = refl

made_fair : (setup : Setup) (older : Past) (event : Event) (known : BundleInfo) → IsRun setup older → BundlesFair older → info_made (known_in older) event ≡ Some (Bundle known)
    → is_made_valid (answer_by older (effects_of event).form (not (is_lost older) && is_none (first_rule setup older event))) ≡ true → IsFairInfo (Some known)
unfolding finish_bundle_rule
made_fair setup older (FinishBundle encoder recording) known run fair e made =
    let rules : is_none (finish_bundle_rule setup older encoder recording) ≡ true = (and_parts (not (is_lost older)) (is_none (finish_bundle_rule setup older encoder recording)) made).1 in
    let later = or_none (first_unmet (encoder_rules setup older _ encoder)) (option_or (Verdict recording.maker recording.targets recording.commands) (first_unmet (kept_rules setup older encoder.number recording))) rules in
    let last = or_none (Verdict recording.maker recording.targets recording.commands) (first_unmet (kept_rules setup older encoder.number recording)) later.1 in
    let met : AreMet (kept_rules setup older encoder.number recording) = all_met (kept_rules setup older encoder.number recording) last.1 in
    let same : bundle_of recording.maker recording.targets recording.commands ≡ known = cc in
    subst (λ (bundle : BundleInfo). IsFairInfo (Some bundle)) same
    (of_fair recording.maker recording.targets recording.commands (kept_fair setup older encoder.number recording.commands run fair (not_true_false (any_barred setup older encoder.number recording.commands) met.1.0)))
made_fair setup older _ known run fair e made = absurd (cc)

pub bundles_fair : (setup : Setup) (past : Past) → IsRun setup past → BundlesFair past
bundles_fair setup [] run b known valid e = absurd (true≢false (sym valid))
bundles_fair setup (entry ∷ older) run b known valid e = by_maker (is_making entry.event && count older == b) valid e (bundles_fair setup older (others setup entry older run) b known) (bundles_fair setup older (others setup entry older run))
  where
    by_maker : (c : Bool) → option_map_or (λ entry. is_made_valid entry.reply.answer) (if c then Some entry else maker older b) false ≡ true → (if c then info_made (λ object. info_at older object.number) entry.event else info_at older b) ≡ Some (Bundle known)
        → (is_valid older b ≡ true → info_at older b ≡ Some (Bundle known) → IsFairInfo (Some known)) → BundlesFair older → IsFairInfo (Some known)
    by_maker true valid e rest fair = made_fair setup older entry.event known (others setup entry older run) fair e (made_met setup entry older (newest setup entry older run) valid)
    by_maker false valid e rest fair = rest valid e

pub accepted_fair : (setup : Setup) (past : Past) (encoder : ℕ) (commands : List (On × Command)) → IsRun setup past → not (any_barred setup past encoder commands) ≡ true → AreFairKept commands
accepted_fair setup past encoder commands run e = kept_fair setup past encoder commands run (bundles_fair setup past run) (not_true_false (any_barred setup past encoder commands) e)
