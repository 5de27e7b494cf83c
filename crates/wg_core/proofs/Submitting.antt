-- The first unmet rule of a submit, over the list of what its command buffers use.
use Rattle.std.proofs.Common.{◌≡◌, ℕ, Bool, true, false, not, ◌||◌, List, [], ◌∷◌, Option, None, Some, refl, sym, ap, ap₂, ◌∙◌, if◌then◌else◌}
use Rattle.std.specs.List.{list_any}
use Rattle.std.specs.Option.{option_or}
use Rattle.wg_rules.specs.declared.TheConstants.{OBJECT_IS_OF_DEVICE, OBJECT_IS_NOT_DROPPED, OBJECT_IS_VALID, COMMAND_BUFFERS_ARE_NOT_CONSUMED, COMMAND_BUFFERS_ARE_DISTINCT, SUBMITTED_BUFFERS_ARE_NOT_BUSY, SUBMITTED_OBJECTS_ARE_NOT_DESTROYED}
use Rattle.wg_types.specs.declared.handles.ObjRef.{ObjRef}
use Rattle.wg_model.specs.Rules.{first_unmet}
use Rattle.wg_model.specs.Recorded.{buffers_of, textures_of, query_sets_of}
use Rattle.wg_model.proofs.Unmet.{first_unmet_joined}
use Rattle.wg_history.specs.declared.events.Setup.{Setup}
use Rattle.wg_history.specs.Entries.{Past}
use Rattle.wg_history.specs.Objects.{is_own, is_command_buffer, is_valid}
use Rattle.wg_history.specs.Rules.{is_destroyed, is_dropped, is_consumed, are_distinct, listed_rules, together_rules, any_used, is_busy, submit_rule}
use Rattle.wg_trace.specs.declared.steps.Used.{Used}
use Rattle.wg_state.specs.Uses.{uses_of}
use Rattle.wg_state.proofs.UsesLemmas.{used_buffers, used_textures, used_query_sets}
use Rattle.wg_state.specs.Recordings.{any_spent}
use Rattle.wg_core.specs.Plans.{use_rules}

-- whether a texture or a query set is used that is destroyed
abbrev any_gone : Setup → Past → List ObjRef → Bool
any_gone setup past buffers = any_used textures_of (is_destroyed setup past) past buffers || any_used query_sets_of (is_destroyed setup past) past buffers

uses_rules : (setup : Setup) (past : Past) (buffers : List ObjRef) → first_unmet (use_rules setup past (uses_of past buffers)) ≡ first_unmet ((SUBMITTED_BUFFERS_ARE_NOT_BUSY, not (any_used buffers_of (is_busy setup past) past buffers)) ∷ ((SUBMITTED_OBJECTS_ARE_NOT_DESTROYED, not (any_gone setup past buffers)) ∷ []))
uses_rules setup past buffers =
    ap₂ (λ a b. first_unmet ((SUBMITTED_BUFFERS_ARE_NOT_BUSY, not a) ∷ ((SUBMITTED_OBJECTS_ARE_NOT_DESTROYED, not b) ∷ []))) (used_buffers (is_busy setup past) past buffers)
    (ap₂ ◌||◌ (used_textures (is_destroyed setup past) past buffers) (used_query_sets (is_destroyed setup past) past buffers))

pub submit_found : (setup : Setup) (past : Past) (buffers : List ObjRef) (uses : List Used) (rule : Option ℕ) → None ≡ first_unmet (listed_rules setup past buffers) → list_any (λ buffer. is_consumed setup past buffer.number) buffers ≡ false → are_distinct buffers ≡ true → uses ≡ uses_of past buffers → rule ≡ first_unmet (use_rules setup past uses) → rule ≡ submit_rule setup past buffers
unfolding submit_rule
submit_found setup past buffers uses rule listed consumed distinct uses_is rule_is =
    rule_is ∙ (ap (λ us. first_unmet (use_rules setup past us)) uses_is ∙ (uses_rules setup past buffers ∙ sym (
    first_unmet_joined (listed_rules setup past buffers) (together_rules setup past buffers)
    ∙ (ap (λ o. option_or o (first_unmet (together_rules setup past buffers))) (sym listed)
    ∙ ap₂ (λ a b. first_unmet ((COMMAND_BUFFERS_ARE_NOT_CONSUMED, not a) ∷ ((COMMAND_BUFFERS_ARE_DISTINCT, b) ∷ ((SUBMITTED_BUFFERS_ARE_NOT_BUSY, not (any_used buffers_of (is_busy setup past) past buffers)) ∷ ((SUBMITTED_OBJECTS_ARE_NOT_DESTROYED, not (any_gone setup past buffers)) ∷ []))))) consumed distinct))))

-- where the rules on each command buffer are met and none was consumed, none is spent
listed_parts : (own dropped valid : Bool) (rest : Option ℕ) → None ≡ (if own then (if not dropped then (if valid then rest else Some OBJECT_IS_VALID) else Some OBJECT_IS_NOT_DROPPED) else Some OBJECT_IS_OF_DEVICE) → (dropped ≡ false) × (None ≡ rest)
listed_parts true false true rest e = (refl, e)
listed_parts true false false rest e = absurd (cc)
listed_parts true true valid rest e = absurd (cc)
listed_parts false dropped valid rest e = absurd (cc)

none_either : (a b : Bool) → (a || b) ≡ false → (a ≡ false) × (b ≡ false)
none_either false b e = (refl, e)
none_either true b e = absurd (cc)

pub unspent : (setup : Setup) (past : Past) (buffers : List ObjRef) → None ≡ first_unmet (listed_rules setup past buffers) → list_any (λ buffer. is_consumed setup past buffer.number) buffers ≡ false → any_spent setup past buffers ≡ false
unspent setup past [] listed consumed = refl
unspent setup past (buffer ∷ buffers) listed consumed =
    let parts = listed_parts (is_own setup past is_command_buffer buffer) (is_dropped setup past buffer.number) (is_valid past buffer.number) (first_unmet (listed_rules setup past buffers)) listed in
    let none = none_either (is_consumed setup past buffer.number) (list_any (λ buffer. is_consumed setup past buffer.number) buffers) consumed in
    ap₂ ◌||◌ (ap₂ ◌||◌ none.0 parts.0) (unspent setup past buffers parts.1 none.1)
