-- What is held, and that it is held no more from some entry on.
use Rattle.std.proofs.Common.{◌≡◌, ◌⊎◌, ℕ, zero, suc, ◌+◌, ◌<◌, ◌≤◌, List, [], ◌∷◌, ◌++◌, map, Bool, true, false, not, ◌&&◌, ◌||◌, ◌==◌, nat_lt, Option, Some, None, is_some, is_none, refl, ap, ap₂, sym, ◌∙◌, arith, if◌then◌else◌, true≢false, inl, inr}
use Rattle.std.specs.List.{list_any}
use Rattle.std.specs.Option.{option_map_or}
use Rattle.std.proofs.lemmas.Bool.{and_parts, and_from, or_cases, or_left, or_right, eqb-true, ltb-true, cases_lt}
use Rattle.std.proofs.lemmas.List.{map-append}
use Rattle.std.proofs.lemmas.List.Folds.{list_any-append}
use Rattle.wg_rules.specs.declared.TheConstants.{OBJECT_IS_OF_DEVICE, OBJECT_IS_NOT_DROPPED}
use Rattle.wg_types.specs.declared.limits.Maker.{Maker}
use Rattle.wg_types.specs.Handles.{HandleValue}
use Rattle.wg_types.specs.declared.commands.On.{On}
use Rattle.wg_types.specs.Commands.{Command, named}
use Rattle.wg_types.specs.declared.wanted.Wanted.{Wanted}
use Rattle.wg_types.specs.declared.handles.Info.{Info}
use Rattle.wg_types.specs.declared.handles.ObjRef.{ObjRef}
use Rattle.wg_types.specs.declared.render.TargetInfo.{TargetInfo}
use Rattle.wg_model.specs.Rules.{first_unmet, AreMet}
use Rattle.wg_model.specs.Walk.{Verdict, bundle_of}
use Rattle.wg_model.specs.Bundles.{references_within}
use Rattle.wg_model.specs.Recorded.{names_within}
use Rattle.wg_encoder.specs.Recorders.{RecordingValue}
use Rattle.wg_model.specs.Holding.{is_among, any_below, is_named_in, is_awaited_in, is_root_in}
use Rattle.wg_model.proofs.Unmet.{all_met}
use Rattle.wg_model.proofs.Holding.{below_from, below_to, held_within, held_cases, root_held, referred_held}
use Rattle.wg_history.specs.Entries.{Setup, Event, Finish, FinishBundle, Drop, effects_of, recorded_by, Entry, Past}
use Rattle.wg_history.specs.Objects.{is_making, count, info_at, is_own, is_any, is_valid, is_made_valid, is_encoder, is_bundle_encoder, takes_commands, commands_at}
use Rattle.wg_history.specs.Rules.{drop_list, drops, dropped_at, is_dropped, is_consumed, consumes, has_finished, ends_encoder, is_genuine, may_name, any_barred, encoder_rules, kept_rules, recording_rules, finish_rule, finish_bundle_rule}
use Rattle.wg_history.specs.Held.{refers_made, refers_at, is_submittable, names_at, is_open, holds_of, is_held}
use Rattle.wg_history.specs.Loss.{is_lost}
use Rattle.wg_history.specs.FirstRules.{first_rule}
use Rattle.wg_history.specs.Answers.{answer_by, IsRun}
use Rattle.wg_history.proofs.Runs.{newest}
use Rattle.wg_history.proofs.Tests.{not_true, was_not, fails, any_grows, neither}
use Rattle.wg_history.proofs.Named.{object_refers}
use Rattle.wg_history.proofs.Makers.{maker_stays, info_stays, maker_new, count_grows, own_below, made_met}

-- whether a pending command buffer names object n, whether an open encoder awaits it, and whether it is a root
abbrev pub is_named : Setup → Past → ℕ → Bool
is_named setup past n = is_named_in (holds_of setup past) (count past) n

abbrev pub is_awaited : Setup → Past → ℕ → Bool
is_awaited setup past n = is_awaited_in (holds_of setup past) n

abbrev pub is_root : Setup → Past → ℕ → Bool
is_root setup past n = is_root_in (holds_of setup past) (count past) n

-- what is held by itself

pub held_made : (setup : Setup) (past : Past) (n : ℕ) → is_held setup past n ≡ true → n < count past
unfolding is_held
held_made setup past n e = held_within (holds_of setup past) (count past) n e

pub rooted : (setup : Setup) (past : Past) (n : ℕ) → n < count past → is_root setup past n ≡ true → is_held setup past n ≡ true
unfolding is_held
rooted setup past n lt root = root_held (holds_of setup past) (count past) n lt root

pub undropped_root : (setup : Setup) (past : Past) (n : ℕ) → is_dropped setup past n ≡ false → is_root setup past n ≡ true
undropped_root setup past n e = or_left (not (is_dropped setup past n)) (is_named setup past n || is_awaited setup past n) (ap not e)

pub named_root : (setup : Setup) (past : Past) (n : ℕ) → is_named setup past n ≡ true → is_root setup past n ≡ true
named_root setup past n e = or_right (not (is_dropped setup past n)) (is_named setup past n || is_awaited setup past n) (or_left (is_named setup past n) (is_awaited setup past n) e)

pub awaited_root : (setup : Setup) (past : Past) (n k e : ℕ) → dropped_at setup past n ≡ Some k → e < k → is_open setup past e ≡ true → is_root setup past n ≡ true
awaited_root setup past n k e drop before opened =
    or_right (not (is_dropped setup past n)) (is_named setup past n || is_awaited setup past n)
    (or_right (is_named setup past n) (is_awaited setup past n) (ap (λ (o : Option ℕ). option_map_or (any_below (is_open setup past)) o false) drop ∙ below_to (is_open setup past) k e before opened))

pub undropped_held : (setup : Setup) (past : Past) (n : ℕ) → n < count past → is_dropped setup past n ≡ false → is_held setup past n ≡ true
undropped_held setup past n lt e = rooted setup past n lt (undropped_root setup past n e)

pub named_held : (setup : Setup) (past : Past) (n : ℕ) → n < count past → is_named setup past n ≡ true → is_held setup past n ≡ true
named_held setup past n lt e = rooted setup past n lt (named_root setup past n e)

-- what a command buffer names where it is pending

names_parts : (b : Bool) (names : List ℕ) (n : ℕ) → is_among (if b then names else []) n ≡ true → (b ≡ true) × (is_among names n ≡ true)
names_parts true names n e = (refl, e)
names_parts false names n e = absurd (true≢false (sym e))

-- a command buffer that is pending and names object n
pub record Names (setup : Setup) (past : Past) (n : ℕ) : Type 0 where
  pub b : ℕ
  pub lt : b < count past
  pub submittable : is_submittable setup past b ≡ true
  pub names : is_among (names_within (commands_at past b)) n ≡ true

pub named_by : (setup : Setup) (past : Past) (n : ℕ) → is_named setup past n ≡ true → Names setup past n
named_by setup past n e =
    let found = below_from (λ b. is_among (names_at setup past b) n) (count past) e in
    let parts : (is_submittable setup past found.n ≡ true) × (is_among (names_within (commands_at past found.n)) n ≡ true) = names_parts (is_submittable setup past found.n) (names_within (commands_at past found.n)) n found.passes in
    record { b = found.n; lt = found.lt; submittable = parts.0; names = parts.1 }

pub named_from : (setup : Setup) (past : Past) (b n : ℕ) → b < count past → is_submittable setup past b ≡ true → is_among (names_within (commands_at past b)) n ≡ true → is_named setup past n ≡ true
named_from setup past b n lt submittable names =
    below_to (λ b. is_among (names_at setup past b) n) (count past) b lt (ap (λ (c : Bool). is_among (if c then names_within (commands_at past b) else []) n) submittable ∙ names)

-- drops, consumed command buffers and finished encoders stay so

pub drops_undropped : (dropped : Bool) (setup : Setup) (past : Past) (event : Event) (n : ℕ) → drops dropped setup past event n ≡ true → dropped ≡ false
drops_undropped dropped setup past (Drop object) n e = by_rules (is_own setup past is_any object) dropped (and_parts (object.number == n) (is_none (first_unmet (drop_list dropped setup past object))) e).1
  where
    by_rules : (own d : Bool) → is_none (first_unmet ((OBJECT_IS_OF_DEVICE, own) ∷ ((OBJECT_IS_NOT_DROPPED, not d) ∷ []))) ≡ true → d ≡ false
    by_rules true true h = absurd (true≢false (sym h))
    by_rules true false h = refl
    by_rules false d h = absurd (true≢false (sym h))
drops_undropped dropped setup past _ n e = absurd (true≢false (sym e))

pub dropped_stays : (setup : Setup) (entry : Entry) (older : Past) (n : ℕ) → is_dropped setup older n ≡ true → is_dropped setup (entry ∷ older) n ≡ true
dropped_stays setup entry older n e = by_drop (drops (is_some (dropped_at setup older n)) setup older entry.event n)
  where
    by_drop : (b : Bool) → is_some (if b then Some (count older) else dropped_at setup older n) ≡ true
    by_drop true = refl
    by_drop false = e

pub undropped_then : (setup : Setup) (entry : Entry) (older : Past) (n : ℕ) → is_dropped setup (entry ∷ older) n ≡ false → is_dropped setup older n ≡ false
undropped_then setup entry older n e = by_value (is_dropped setup older n) refl
  where
    by_value : (b : Bool) → is_dropped setup older n ≡ b → b ≡ false
    by_value true was = absurd (true≢false (sym (dropped_stays setup entry older n was) ∙ e))
    by_value false was = refl

pub dropped_made : (setup : Setup) (past : Past) (n k : ℕ) → dropped_at setup past n ≡ Some k → k ≤ count past
dropped_made setup [] n k e = let h : None ≡ Some k = e in absurd (cc)
dropped_made setup (entry ∷ older) n k e = by_drop (drops (is_some (dropped_at setup older n)) setup older entry.event n) e (dropped_made setup older n k)
  where
    by_drop : (b : Bool) → (if b then Some (count older) else dropped_at setup older n) ≡ Some k → (dropped_at setup older n ≡ Some k → k ≤ count older) → k ≤ count (entry ∷ older)
    by_drop true h rest = let same : count older ≡ k = cc in count_grows (is_making entry.event) (count older) k (omega (arith, same))
    by_drop false h rest = count_grows (is_making entry.event) (count older) k (rest h)

pub submittable_then : (setup : Setup) (entry : Entry) (older : Past) (b : ℕ) → b < count older → is_submittable setup (entry ∷ older) b ≡ true → is_submittable setup older b ≡ true
submittable_then setup entry older b lt e =
    let valid : is_valid (entry ∷ older) b ≡ true = (and_parts (is_valid (entry ∷ older) b) _ e).0 in
    let ends : (not (is_consumed setup (entry ∷ older) b) ≡ true) × (not (is_dropped setup (entry ∷ older) b) ≡ true) = and_parts (not (is_consumed setup (entry ∷ older) b)) (not (is_dropped setup (entry ∷ older) b)) (and_parts (is_valid (entry ∷ older) b) _ e).1 in
    and_from (is_valid older b) _ (ap (λ (o : Option Entry). option_map_or (λ entry. is_made_valid entry.reply.answer) o false) (sym (maker_stays older entry b lt)) ∙ valid)
    (and_from (not (is_consumed setup older b)) (not (is_dropped setup older b)) (ap not (was_not (consumes setup older entry.event b) (is_consumed setup older b) (not_true (is_consumed setup (entry ∷ older) b) ends.0))) (ap not (undropped_then setup entry older b (not_true (is_dropped setup (entry ∷ older) b) ends.1))))

pub encoder_same : (entry : Entry) (older : Past) (n : ℕ) → n < count older → option_map_or takes_commands (info_at (entry ∷ older) n) false ≡ option_map_or takes_commands (info_at older n) false
encoder_same entry older n lt = ap (λ (o : Option Info). option_map_or takes_commands o false) (info_stays older entry n lt)

pub open_then : (setup : Setup) (entry : Entry) (older : Past) (e : ℕ) → e < count older → is_open setup (entry ∷ older) e ≡ true → is_open setup older e ≡ true
open_then setup entry older n lt e =
    let kind : option_map_or takes_commands (info_at (entry ∷ older) n) false ≡ true = (and_parts (option_map_or takes_commands (info_at (entry ∷ older) n) false) _ e).0 in
    let ends : (not (has_finished setup (entry ∷ older) n) ≡ true) × (not (is_dropped setup (entry ∷ older) n) ≡ true) = and_parts (not (has_finished setup (entry ∷ older) n)) (not (is_dropped setup (entry ∷ older) n)) (and_parts (option_map_or takes_commands (info_at (entry ∷ older) n) false) _ e).1 in
    and_from (option_map_or takes_commands (info_at older n) false) _ (sym (encoder_same entry older n lt) ∙ kind)
    (and_from (not (has_finished setup older n)) (not (is_dropped setup older n)) (ap not (was_not (ends_encoder setup older entry.event n) (has_finished setup older n) (not_true (has_finished setup (entry ∷ older) n) ends.0))) (ap not (undropped_then setup entry older n (not_true (is_dropped setup (entry ∷ older) n) ends.1))))

-- What an object refers to, or names, when it is made.

-- whether commands name object n, over the handles that they name
any_numbered : (objects : List (HandleValue × Wanted)) (n : ℕ) → is_among (map (λ (object : HandleValue × Wanted). object.0.reference.number) objects) n ≡ list_any (λ (object : HandleValue × Wanted). object.0.reference.number == n) objects
any_numbered [] n = refl
any_numbered (object ∷ objects) n = ap (λ b. object.0.reference.number == n || b) (any_numbered objects n)

abbrev pub names_object : List (On × Command) → ℕ → Bool
names_object commands n = list_any (λ (kept : On × Command). list_any (λ (object : HandleValue × Wanted). object.0.reference.number == n) (named kept.1)) commands

pub among_named : (commands : List (On × Command)) (n : ℕ) → is_among (names_within commands) n ≡ names_object commands n
among_named [] n = refl
among_named (kept ∷ commands) n =
    list_any-append (λ m. m == n) (map (λ (object : HandleValue × Wanted). object.0.reference.number) (named kept.1)) (names_within commands)
    ∙ ap₂ ◌||◌ (any_numbered (named kept.1) n) (among_named commands n)

-- Commands that name an object whose handles are all barred have a barred handle.
barred : (setup : Setup) (past : Past) (encoder n : ℕ) (commands : List (On × Command)) → ((handle : HandleValue) → handle.reference.number ≡ n → (is_genuine setup past handle && may_name setup past encoder handle.reference.number) ≡ false) → names_object commands n ≡ true → any_barred setup past encoder commands ≡ true
barred setup past encoder n commands bad names =
    any_grows (λ kept. list_any (λ (object : HandleValue × Wanted). not (is_genuine setup past object.0 && may_name setup past encoder object.0.reference.number)) (named kept.1)) (λ kept. list_any (λ (object : HandleValue × Wanted). object.0.reference.number == n) (named kept.1))
    (λ kept in_command. any_grows (λ (object : HandleValue × Wanted). not (is_genuine setup past object.0 && may_name setup past encoder object.0.reference.number)) (λ (object : HandleValue × Wanted). object.0.reference.number == n) (λ object same. ap not (bad object.0 (eqb-true object.0.reference.number n same))) (named kept.1) in_command)
    commands names

pub genuine_below : (setup : Setup) (past : Past) (handle : HandleValue) → is_genuine setup past handle ≡ true → handle.reference.number < count past
genuine_below setup past handle h = own_below setup past _ handle.reference (and_parts _ _ (and_parts _ _ h).0).0

-- Commands of which no handle is barred name objects that were made, and that their encoder may name.
spared_names : (setup : Setup) (past : Past) (encoder n : ℕ) (commands : List (On × Command)) → any_barred setup past encoder commands ≡ false → names_object commands n ≡ true → (n < count past) × (may_name setup past encoder n ≡ true)
spared_names setup past encoder n commands spared names = (made (cases_lt n (count past)), may (may_name setup past encoder n) refl)
  where
    and_no : (a b : Bool) → b ≡ false → (a && b) ≡ false
    and_no true b e = e
    and_no false b e = refl

    made : (n < count past) ⊎ (count past ≤ n) → n < count past
    made (inl lt) = lt
    made (inr le) = absurd (true≢false (sym (barred setup past encoder n commands
        (λ handle same. ap (λ b. b && may_name setup past encoder handle.reference.number) (fails (is_genuine setup past handle) (count past) n le (λ h. let lt = genuine_below setup past handle h in omega (arith, lt, same))))
        names) ∙ spared))

    may : (b : Bool) → may_name setup past encoder n ≡ b → b ≡ true
    may true e = refl
    may false e = absurd (true≢false (sym (barred setup past encoder n commands (λ handle same. and_no (is_genuine setup past handle) (may_name setup past encoder handle.reference.number) (ap (may_name setup past encoder) same ∙ e)) names) ∙ spared))

-- An object on which commands are recorded may be of either kind.
abbrev TakesAs : (Info → Bool) → Type 0
TakesAs kind = (info : Info) → kind info ≡ true → takes_commands info ≡ true

encoder_takes : TakesAs is_encoder
encoder_takes info e = or_left (is_encoder info) (is_bundle_encoder info) e

bundle_encoder_takes : TakesAs is_bundle_encoder
bundle_encoder_takes info e = or_right (is_encoder info) (is_bundle_encoder info) e

known_takes : (kind : Info → Bool) → TakesAs kind → (o : Option Info) → option_map_or kind o false ≡ true → option_map_or takes_commands o false ≡ true
known_takes kind takes None e = e
known_takes kind takes (Some info) e = takes info e

-- What a recording's commands name was made, and was not dropped or its drop is seen by the encoder, which is open.
recording_names : (setup : Setup) (older : Past) (kind : Info → Bool) (encoder : ObjRef) (commands : List (On × Command)) (n : ℕ) → TakesAs kind → AreMet (encoder_rules setup older kind encoder)
    → any_barred setup older encoder.number commands ≡ false → is_among (names_within commands) n ≡ true → (n < count older) × (is_root setup older n ≡ true)
recording_names setup older kind encoder commands n takes first spared names =
    let its : option_map_or kind (info_at older encoder.number) false ≡ true = (and_parts (encoder.device == setup.serial) (option_map_or kind (info_at older encoder.number) false) first.0).1 in
    let opened : is_open setup older encoder.number ≡ true = and_from (option_map_or takes_commands (info_at older encoder.number) false) _ (known_takes kind takes (info_at older encoder.number) its) (and_from (not (has_finished setup older encoder.number)) (not (is_dropped setup older encoder.number)) first.1.1.1.0 first.1.0) in
    let those = spared_names setup older encoder.number n commands spared (sym (among_named commands n) ∙ names) in
    (those.0, by_drop (dropped_at setup older n) refl opened those.1)
  where
    by_drop : (o : Option ℕ) → dropped_at setup older n ≡ o → is_open setup older encoder.number ≡ true → may_name setup older encoder.number n ≡ true → is_root setup older n ≡ true
    by_drop None e opened may = undropped_root setup older n (ap (λ (o : Option ℕ). is_some o) e)
    by_drop (Some k) e opened may =
        let before : encoder.number < k = ltb-true encoder.number k (ap (λ (o : Option ℕ). option_map_or (nat_lt encoder.number) o true) (sym e) ∙ may) in
        awaited_root setup older n k encoder.number e before opened

-- So are those that the commands of a command buffer name.
pub finish_names : (setup : Setup) (older : Past) (event : Event) (n : ℕ) → is_made_valid (answer_by older (effects_of event).form (not (is_lost older) && is_none (first_rule setup older event))) ≡ true → is_among (names_within (recorded_by event)) n ≡ true → (n < count older) × (is_root setup older n ≡ true)
unfolding finish_rule
finish_names setup older (Finish encoder recording) n made names =
    let rules = neither _ _ (and_parts (not (is_lost older)) (is_none (finish_rule setup older encoder recording)) made).1 in
    let late = neither (Verdict recording.maker recording.targets recording.commands) (first_unmet (recording_rules setup older encoder.number recording)) rules.1 in
    let rest : AreMet (recording_rules setup older encoder.number recording) = all_met (recording_rules setup older encoder.number recording) late.1 in
    recording_names setup older is_encoder encoder recording.commands n encoder_takes (all_met (encoder_rules setup older is_encoder encoder) rules.0) (not_true _ rest.1.1.0) names
finish_names setup older _ n made names = absurd (true≢false (sym names))

-- and those that the commands of a bundle name, to which the bundle refers.

bundle_names : (setup : Setup) (older : Past) (encoder : ObjRef) (recording : RecordingValue) (n : ℕ) → is_none (finish_bundle_rule setup older encoder recording) ≡ true → is_among (names_within recording.commands) n ≡ true → (n < count older) × (is_root setup older n ≡ true)
unfolding finish_bundle_rule
bundle_names setup older encoder recording n met names =
    let rules = neither _ _ met in
    let late = neither (Verdict recording.maker recording.targets recording.commands) (first_unmet (kept_rules setup older encoder.number recording)) rules.1 in
    let rest : AreMet (kept_rules setup older encoder.number recording) = all_met (kept_rules setup older encoder.number recording) late.1 in
    recording_names setup older is_bundle_encoder encoder recording.commands n bundle_encoder_takes (all_met (encoder_rules setup older is_bundle_encoder encoder) rules.0) (not_true _ rest.1.0) names

object_numbers : (objects : List (HandleValue × Wanted)) → map (λ (object : ObjRef). object.number) (map (λ (object : HandleValue × Wanted). object.0.reference) objects) ≡ map (λ (object : HandleValue × Wanted). object.0.reference.number) objects
object_numbers [] = refl
object_numbers (object ∷ objects) = ap (λ (rest : List ℕ). object.0.reference.number ∷ rest) (object_numbers objects)

reference_numbers : (commands : List (On × Command)) → map (λ (object : ObjRef). object.number) (references_within commands) ≡ names_within commands
reference_numbers [] = refl
reference_numbers (kept ∷ commands) =
    map-append (λ (object : ObjRef). object.number) (map (λ (object : HandleValue × Wanted). object.0.reference) (named kept.1)) (references_within commands)
    ∙ ap₂ ◌++◌ (object_numbers (named kept.1)) (reference_numbers commands)

pub bundle_numbers : (maker : Maker) (targets : Option TargetInfo) (commands : List (On × Command)) → map (λ (object : ObjRef). object.number) (bundle_of maker targets commands).named ≡ names_within commands
bundle_numbers maker None commands = reference_numbers commands
bundle_numbers maker (Some targets) commands = reference_numbers commands

-- What a valid object refers to when it is made was made, and is held by something that is no object.
pub refers_root : (setup : Setup) (older : Past) (event : Event) (n : ℕ) → is_made_valid (answer_by older (effects_of event).form (not (is_lost older) && is_none (first_rule setup older event))) ≡ true → is_among (refers_made event) n ≡ true → (n < count older) × (is_root setup older n ≡ true)
refers_root setup older (FinishBundle encoder recording) n made refers =
    bundle_names setup older encoder recording n (and_parts (not (is_lost older)) (is_none (finish_bundle_rule setup older encoder recording)) made).1
    (ap (λ (list : List ℕ). is_among list n) (sym (bundle_numbers recording.maker recording.targets recording.commands)) ∙ refers)
refers_root setup older event n made refers =
    let those = object_refers setup older event n refl made refers in
    (those.0, undropped_root setup older n those.1)

-- What holds an object by itself held it before.

root_then : (setup : Setup) (entry : Entry) (older : Past) (n : ℕ) → IsRun setup (entry ∷ older) → is_root setup (entry ∷ older) n ≡ true → is_root setup older n ≡ true
root_then setup entry older n run root = elim (or_cases (not (is_dropped setup (entry ∷ older) n)) (is_named setup (entry ∷ older) n || is_awaited setup (entry ∷ older) n) root) [
  | inl undropped ↦ undropped_root setup older n (undropped_then setup entry older n (not_true (is_dropped setup (entry ∷ older) n) undropped))
  | inr other ↦ elim (or_cases (is_named setup (entry ∷ older) n) (is_awaited setup (entry ∷ older) n) other) [
    | inl names ↦ by_names (named_by setup (entry ∷ older) n names)
    | inr awaited ↦ by_await (drops (is_some (dropped_at setup older n)) setup older entry.event n) refl awaited
  ]
]
  where
    by_names : Names setup (entry ∷ older) n → is_root setup older n ≡ true
    by_names found = elim (cases_lt found.b (count older)) [
      | inl less ↦ named_root setup older n (named_from setup older found.b n less (submittable_then setup entry older found.b less found.submittable)
          (ap (λ (o : Option Entry). is_among (names_within (option_map_or (λ entry. recorded_by entry.event) o [])) n) (sym (maker_stays older entry found.b less)) ∙ found.names))
      | inr more ↦ (let new = maker_new entry older found.b more found.lt in
          (finish_names setup older entry.event n
          (made_met setup entry older (newest setup entry older run) (ap (λ (o : Option Entry). option_map_or (λ entry. is_made_valid entry.reply.answer) o false) (sym new) ∙ (and_parts (is_valid (entry ∷ older) found.b) _ found.submittable).0))
          (ap (λ (o : Option Entry). is_among (names_within (option_map_or (λ entry. recorded_by entry.event) o [])) n) (sym new) ∙ found.names)).1)
    ]

    by_await : (b : Bool) → drops (is_some (dropped_at setup older n)) setup older entry.event n ≡ b → option_map_or (any_below (is_open setup (entry ∷ older))) (if b then Some (count older) else dropped_at setup older n) false ≡ true → is_root setup older n ≡ true
    by_await true now awaited = undropped_root setup older n (drops_undropped (is_dropped setup older n) setup older entry.event n now)
    by_await false now awaited = by_drop (dropped_at setup older n) refl awaited
      where
        by_drop : (o : Option ℕ) → dropped_at setup older n ≡ o → option_map_or (any_below (is_open setup (entry ∷ older))) o false ≡ true → is_root setup older n ≡ true
        by_drop None e awaited = undropped_root setup older n (ap (λ (o : Option ℕ). is_some o) e)
        by_drop (Some k) e awaited =
            let found = below_from (is_open setup (entry ∷ older)) k awaited in
            let lt = found.lt in
            let made = dropped_made setup older n k e in
            let less : found.n < count older = omega (arith, lt, made) in
            awaited_root setup older n k found.n e lt (open_then setup entry older found.n less found.passes)

-- What is held after an entry was held before it.

pub refers_same : (entry : Entry) (older : Past) (m : ℕ) → m < count older → refers_at (entry ∷ older) m ≡ refers_at older m
refers_same entry older m lt = ap (λ (o : Option Entry). if option_map_or (λ entry. is_made_valid entry.reply.answer) o false then option_map_or (λ entry. refers_made entry.event) o [] else []) (maker_stays older entry m lt)

falls_upto : (setup : Setup) (entry : Entry) (older : Past) (fuel n : ℕ) → IsRun setup (entry ∷ older) → count (entry ∷ older) ≤ n + fuel → n < count older → is_held setup (entry ∷ older) n ≡ true → is_held setup older n ≡ true
unfolding is_held
falls_upto setup entry older zero n run le lt e = let made = held_made setup (entry ∷ older) n e in absurd (omega (arith, le, made))
falls_upto setup entry older (suc fuel) n run le lt e =
    elim (held_cases (holds_of setup (entry ∷ older)) (count (entry ∷ older)) n e) [
      | inl own ↦ rooted setup older n lt (root_then setup entry older n run own)
      | inr holder ↦ (
          let after = holder.after in
          let inside = holder.inside in
          elim (cases_lt holder.k (count older)) [
            | inl less ↦ referred_held (holds_of setup older) (count older) holder.k n after
                (falls_upto setup entry older fuel holder.k run (omega (arith, le, after)) less holder.held)
                (ap (λ (list : List ℕ). is_among list n) (sym (refers_same entry older holder.k less)) ∙ holder.refers)
            | inr more ↦ (let new = maker_new entry older holder.k more inside in by_valid setup entry older n run lt (is_made_valid entry.reply.answer) refl
                (ap (λ (o : Option Entry). is_among (if option_map_or (λ entry. is_made_valid entry.reply.answer) o false then option_map_or (λ entry. refers_made entry.event) o [] else []) n) (sym new) ∙ holder.refers))
          ])
    ]
  where
    by_valid : (setup : Setup) (entry : Entry) (older : Past) (n : ℕ) → IsRun setup (entry ∷ older) → n < count older → (b : Bool) → is_made_valid entry.reply.answer ≡ b → is_among (if b then refers_made entry.event else []) n ≡ true → is_held setup older n ≡ true
    by_valid setup entry older n run lt true valid refers = rooted setup older n lt (refers_root setup older entry.event n (made_met setup entry older (newest setup entry older run) valid) refers).1
    by_valid setup entry older n run lt false valid refers = absurd (true≢false (sym refers))

pub held_falls : (setup : Setup) (entry : Entry) (older : Past) (n : ℕ) → IsRun setup (entry ∷ older) → n < count older → is_held setup (entry ∷ older) n ≡ true → is_held setup older n ≡ true
held_falls setup entry older n run lt e = falls_upto setup entry older (count (entry ∷ older)) n run (omega arith) lt e
