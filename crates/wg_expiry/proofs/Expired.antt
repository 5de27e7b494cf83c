-- What is destroyed is refused, and is released once it is over.
use Rattle.std.proofs.Common.{◌≡◌, ℕ, ◌<◌, List, [], ◌∷◌, ◌++◌, reverse, Bool, true, false, not, ◌&&◌, ◌||◌, ◌==◌, nat_le, ◌+◌, ◌⊎◌, inl, inr, eq-eqb, Option, Some, None, is_some, is_none, option_map, refl, ap, sym, ◌∙◌, if◌then◌else◌, true≢false}
use Rattle.std.specs.List.{list_any}
use Rattle.std.proofs.lemmas.Bool.{and_from, or_left, or_right, or_cases}
use Rattle.wg_rules.specs.declared.TheConstants.{OBJECT_IS_OF_DEVICE, OBJECT_IS_NOT_DROPPED, SUBMITTED_OBJECTS_ARE_NOT_DESTROYED, WRITTEN_TEXTURE_IS_NOT_DESTROYED}
use Rattle.wg_types.specs.declared.commands.On.{On}
use Rattle.wg_types.specs.Commands.{Command}
use Rattle.wg_types.specs.declared.textures.TextureSpot.{TextureSpot}
use Rattle.wg_types.specs.declared.textures.DataLayout.{DataLayout}
use Rattle.wg_trace.specs.declared.replies.Fault.{Fault}
use Rattle.wg_model.specs.Rules.{Rule, first_unmet}
use Rattle.wg_model.specs.Recorded.{buffers_of, textures_of, query_sets_of, any_named}
use Rattle.wg_model.proofs.Unmet.{all_met}
use Rattle.wg_history.proofs.Tests.{not_true, any_grows, met_after}
use Rattle.wg_history.proofs.AfterUse.{used_destroyed, any_destroyed_is}
use Rattle.wg_history.proofs.Released.{resource_made, freed_once}
use Rattle.wg_history.proofs.Holders.{undropped_held}
use Rattle.wg_history.proofs.UnusedAfter.{stays_due}
use Rattle.wg_history.specs.declared.events.Setup.{Setup}
use Rattle.wg_history.specs.declared.events.Event.{Event}
use Rattle.wg_history.specs.declared.events.Event.TheVariants.{Destroy}
use Rattle.wg_history.specs.Entries.{Past}
use Rattle.wg_history.specs.Objects.{ObjRef, count, has_memory, is_own, resource_at, commands_at}
use Rattle.wg_history.specs.Operations.{submit_uses, last_use, completed, issued}
use Rattle.wg_history.specs.Rules.{listed_rules, any_used, is_busy, submit_rule, write_texture_rule, destroy_rule, destroys, is_destroyed, is_dropped}
use Rattle.wg_history.specs.Held.{is_held}
use Rattle.wg_history.specs.Loss.{is_lost}
use Rattle.wg_history.specs.Answers.{Queued, Plain, fault_of}
use Rattle.wg_history.specs.Releases.{is_gone, is_due}
use Rattle.wg_expiry.specs.Expiry.{DestroyExpires, StaysExpired, submit_before, write_before, SubmitIsPlain, SubmitIsRefused, WriteIsPlain, WriteIsRefused, is_over, FreedOnceOver}

-- ---- destroyed

both_met : (own dropped : Bool) → own ≡ true → dropped ≡ false → is_none (first_unmet ((OBJECT_IS_OF_DEVICE, own) ∷ ((OBJECT_IS_NOT_DROPPED, not dropped) ∷ []))) ≡ true
both_met true false own undropped = refl
both_met true true own undropped = absurd (true≢false undropped)
both_met false dropped own undropped = absurd (true≢false (sym own))

destroy_met : (setup : Setup) (past : Past) (object : ObjRef) → is_own setup past has_memory object ≡ true → is_dropped setup past object.number ≡ false → is_none (destroy_rule setup past object) ≡ true
unfolding destroy_rule
destroy_met setup past object own undropped = both_met (is_own setup past has_memory object) (is_dropped setup past object.number) own undropped

destroys_it : (setup : Setup) (past : Past) (event : Event) (object : ObjRef) → event ≡ Destroy object → is_none (destroy_rule setup past object) ≡ true → destroys setup past event object.number ≡ true
destroys_it setup past event object is met = ap (λ (e : Event). destroys setup past e object.number) is ∙ and_from (object.number == object.number) (is_none (destroy_rule setup past object)) (eq-eqb object.number object.number refl) met

pub destroy_expires : DestroyExpires
destroy_expires setup past entry object is own undropped = or_left (destroys setup past entry.event object.number) (is_destroyed setup past object.number) (destroys_it setup past entry.event object is (destroy_met setup past object own undropped))

pub stays_expired : StaysExpired
stays_expired setup [] past n destroyed = destroyed
stays_expired setup (entry ∷ newer) past n destroyed = or_right (destroys setup (newer ++ past) entry.event n) (is_destroyed setup (newer ++ past) n) (stays_expired setup newer past n destroyed)

-- ---- a last rule that is unmet

last_unmet : (rules : List Rule) (n : ℕ) → first_unmet rules ≡ None → first_unmet (rules ++ (n, false) ∷ []) ≡ Some n
last_unmet [] n e = refl
last_unmet (rule ∷ rules) n e = by_test rule.1 e (last_unmet rules n)
  where
    by_test : (b : Bool) → (if b then first_unmet rules else Some rule.0) ≡ None → (first_unmet rules ≡ None → first_unmet (rules ++ (n, false) ∷ []) ≡ Some n) → (if b then first_unmet (rules ++ (n, false) ∷ []) else Some rule.0) ≡ Some n
    by_test true e rest = rest e
    by_test false e rest = absurd (cc)

some_unmet : (rules : List Rule) (n : ℕ) → is_none (first_unmet (rules ++ (n, false) ∷ [])) ≡ false
some_unmet [] n = refl
some_unmet (rule ∷ rules) n = by_test rule.1 (some_unmet rules n)
  where
    by_test : (b : Bool) → is_none (first_unmet (rules ++ (n, false) ∷ [])) ≡ false → is_none (if b then first_unmet (rules ++ (n, false) ∷ []) else Some rule.0) ≡ false
    by_test true rest = rest
    by_test false rest = refl

plain_if : (lost met : Bool) (k : ℕ) → met ≡ false → (if not lost && met then Queued k else Plain) ≡ Plain
plain_if true met k e = refl
plain_if false met k e = ap (λ (b : Bool). if b then Queued k else Plain) e

fault_is : (past : Past) (lost : Bool) (rule : Option ℕ) (n : ℕ) → lost ≡ false → rule ≡ Some n → ◌≡◌ {A = Option Fault} (if lost then None else option_map (fault_of past) rule) (Some (fault_of past n))
fault_is past true rule n e is = absurd (true≢false e)
fault_is past false rule n e is = ap (option_map (fault_of past)) is

-- ---- writes

write_is : (setup : Setup) (past : Past) (texture : ObjRef) (spot : TextureSpot) (layout : DataLayout) (size : List ℕ) (data_size : ℕ) → is_destroyed setup past texture.number ≡ true → write_texture_rule setup past texture spot layout size data_size ≡ first_unmet (write_before setup past texture spot layout size data_size ++ (WRITTEN_TEXTURE_IS_NOT_DESTROYED, false) ∷ [])
unfolding write_texture_rule
write_is setup past texture spot layout size data_size destroyed = ap (λ (b : Bool). first_unmet (write_before setup past texture spot layout size data_size ++ (WRITTEN_TEXTURE_IS_NOT_DESTROYED, not b) ∷ [])) destroyed

pub write_is_plain : WriteIsPlain
write_is_plain setup past texture spot layout size data_size destroyed =
    plain_if (is_lost past) (is_none (write_texture_rule setup past texture spot layout size data_size)) (issued past + 1)
    (ap is_none (write_is setup past texture spot layout size data_size destroyed) ∙ some_unmet (write_before setup past texture spot layout size data_size) WRITTEN_TEXTURE_IS_NOT_DESTROYED)

pub write_is_refused : WriteIsRefused
write_is_refused setup past texture spot layout size data_size destroyed met live =
    fault_is past (is_lost past) (write_texture_rule setup past texture spot layout size data_size) WRITTEN_TEXTURE_IS_NOT_DESTROYED live
    (write_is setup past texture spot layout size data_size destroyed ∙ last_unmet (write_before setup past texture spot layout size data_size) WRITTEN_TEXTURE_IS_NOT_DESTROYED met)

-- ---- submits

-- A destroyed buffer is busy.
buffers_busy : (setup : Setup) (past : Past) (buffers : List ObjRef) → any_used buffers_of (is_destroyed setup past) past buffers ≡ true → any_used buffers_of (is_busy setup past) past buffers ≡ true
buffers_busy setup past buffers used =
    any_grows (λ (buffer : ObjRef). any_named buffers_of (is_busy setup past) (commands_at past buffer.number)) (λ (buffer : ObjRef). any_named buffers_of (is_destroyed setup past) (commands_at past buffer.number))
    (λ buffer in_buffer. any_grows (λ (kept : On × Command). list_any (is_busy setup past) (buffers_of kept.1)) (λ (kept : On × Command). list_any (is_destroyed setup past) (buffers_of kept.1))
    (λ kept in_command. any_grows (is_busy setup past) (is_destroyed setup past) (λ r h. or_left (is_destroyed setup past r) _ h) (buffers_of kept.1) in_command)
    (commands_at past buffer.number) in_buffer) buffers used

-- whether a texture or a query set that command buffers use is destroyed
abbrev more_destroyed : Setup → Past → List ObjRef → Bool
more_destroyed setup past buffers = any_used textures_of (is_destroyed setup past) past buffers || any_used query_sets_of (is_destroyed setup past) past buffers

-- The rules of a submit are those before 193, and that.
listed_then : (rules : List Rule) (a b c d : Rule) → rules ++ a ∷ (b ∷ (c ∷ (d ∷ []))) ≡ (rules ++ a ∷ (b ∷ (c ∷ []))) ++ d ∷ []
listed_then [] a b c d = refl
listed_then (rule ∷ rules) a b c d = ap (λ rest. rule ∷ rest) (listed_then rules a b c d)

submit_is : (setup : Setup) (past : Past) (buffers : List ObjRef) → submit_rule setup past buffers ≡ first_unmet (submit_before setup past buffers ++ (SUBMITTED_OBJECTS_ARE_NOT_DESTROYED, not (more_destroyed setup past buffers)) ∷ [])
unfolding submit_rule
submit_is setup past buffers = ap first_unmet (listed_then (listed_rules setup past buffers) _ _ _ _)

-- Where no buffer of them is busy, what is destroyed is a texture or a query set.
submit_more : (setup : Setup) (past : Past) (buffers : List ObjRef) (n : ℕ) → is_destroyed setup past n ≡ true → submit_uses past buffers n ≡ true → any_used buffers_of (is_busy setup past) past buffers ≡ false → more_destroyed setup past buffers ≡ true
submit_more setup past buffers n destroyed used idle = by_cases (or_cases (any_used buffers_of (is_destroyed setup past) past buffers) (more_destroyed setup past buffers) (sym (any_destroyed_is setup past buffers) ∙ used_destroyed setup past buffers n destroyed used))
  where
    by_cases : (any_used buffers_of (is_destroyed setup past) past buffers ≡ true) ⊎ (more_destroyed setup past buffers ≡ true) → more_destroyed setup past buffers ≡ true
    by_cases (inl buffer) = absurd (true≢false (sym (buffers_busy setup past buffers buffer) ∙ idle))
    by_cases (inr more) = more

is_none_of : (o : Option ℕ) → o ≡ None → is_none o ≡ true
is_none_of o e = ap is_none e

submit_is_refused_by : (setup : Setup) (past : Past) (buffers : List ObjRef) (n : ℕ) → is_destroyed setup past n ≡ true → submit_uses past buffers n ≡ true → first_unmet (submit_before setup past buffers) ≡ None → submit_rule setup past buffers ≡ Some SUBMITTED_OBJECTS_ARE_NOT_DESTROYED
submit_is_refused_by setup past buffers n destroyed used met =
    let idle : any_used buffers_of (is_busy setup past) past buffers ≡ false = not_true (any_used buffers_of (is_busy setup past) past buffers) (met_after (listed_rules setup past buffers) _ (all_met (submit_before setup past buffers) (is_none_of (first_unmet (submit_before setup past buffers)) met))).1.1.0 in
    submit_is setup past buffers ∙ (ap (λ (b : Bool). first_unmet (submit_before setup past buffers ++ (SUBMITTED_OBJECTS_ARE_NOT_DESTROYED, not b) ∷ [])) (submit_more setup past buffers n destroyed used idle) ∙ last_unmet (submit_before setup past buffers) SUBMITTED_OBJECTS_ARE_NOT_DESTROYED met)

pub submit_is_refused : SubmitIsRefused
submit_is_refused setup past buffers n destroyed used met live = fault_is past (is_lost past) (submit_rule setup past buffers) SUBMITTED_OBJECTS_ARE_NOT_DESTROYED live (submit_is_refused_by setup past buffers n destroyed used met)

-- Where an earlier rule is unmet, it is refused too.
front_unmet : (rules more : List Rule) (k : ℕ) → first_unmet rules ≡ Some k → first_unmet (rules ++ more) ≡ Some k
front_unmet [] more k e = absurd (cc)
front_unmet (rule ∷ rules) more k e = by_test rule.1 e (front_unmet rules more k)
  where
    by_test : (b : Bool) → (if b then first_unmet rules else Some rule.0) ≡ Some k → (first_unmet rules ≡ Some k → first_unmet (rules ++ more) ≡ Some k) → (if b then first_unmet (rules ++ more) else Some rule.0) ≡ Some k
    by_test true e rest = rest e
    by_test false e rest = e

submit_unmet : (setup : Setup) (past : Past) (buffers : List ObjRef) (n : ℕ) → is_destroyed setup past n ≡ true → submit_uses past buffers n ≡ true → (o : Option ℕ) → first_unmet (submit_before setup past buffers) ≡ o → is_none (submit_rule setup past buffers) ≡ false
submit_unmet setup past buffers n destroyed used None e = ap is_none (submit_is_refused_by setup past buffers n destroyed used e)
submit_unmet setup past buffers n destroyed used (Some k) e = ap is_none (submit_is setup past buffers ∙ front_unmet (submit_before setup past buffers) _ k e)

pub submit_is_plain : SubmitIsPlain
submit_is_plain setup past buffers n destroyed used = plain_if (is_lost past) (is_none (submit_rule setup past buffers)) (issued past + 1) (submit_unmet setup past buffers n destroyed used (first_unmet (submit_before setup past buffers)) refl)

-- ---- the release

-- What was made and not dropped is gone exactly where it is destroyed.
gone_is : (setup : Setup) (past : Past) (n : ℕ) → n < count past → is_dropped setup past n ≡ false → is_gone setup past n ≡ is_destroyed setup past n
gone_is setup past n lt undropped = by_destroyed (is_destroyed setup past n) (is_held setup past n) (undropped_held setup past n lt undropped)
  where
    by_destroyed : (d h : Bool) → h ≡ true → (d || not h) ≡ d
    by_destroyed true h e = refl
    by_destroyed false h e = ap not e

due_is : (setup : Setup) (past : Past) (n : ℕ) → is_dropped setup past n ≡ false → is_due setup past n ≡ is_over setup past n
unfolding is_due
due_is setup past n undropped = by_resource (is_some (resource_at past n)) refl
  where
    by_resource : (b : Bool) → is_some (resource_at past n) ≡ b → (b && is_gone setup past n && nat_le (last_use past n) (completed past)) ≡ (b && is_destroyed setup past n && nat_le (last_use past n) (completed past))
    by_resource true e = ap (λ (g : Bool). true && g && nat_le (last_use past n) (completed past)) (gone_is setup past n (resource_made past n e) undropped)
    by_resource false e = refl

pub freed_once_over : FreedOnceOver
freed_once_over setup history n run undropped = freed_once setup history n ∙ ap (λ (b : Bool). if b then 1 else 0) (stays_due setup history n run ∙ due_is setup (reverse history) n undropped)
