-- Valid objects of a run are within the limits.
use Rattle.std.specs.Prelude.{reverse}
use Rattle.std.specs.Option.{option_map_or}
use Rattle.std.proofs.Common.{◌≡◌, ℕ, ◌==◌, ◌&&◌, not, [], ◌∷◌, ◌++◌, Bool, true, false, Option, Some, None, is_none, sym, subst, if◌then◌else◌, true≢false}
use Rattle.std.proofs.lemmas.Bool.{and_parts, leb-true}
use Rattle.wg_types.specs.declared.handles.ObjRef.{ObjRef}
use Rattle.wg_types.specs.declared.handles.Info.{Info}
use Rattle.wg_types.specs.declared.limits.Limits.{Limits}
use Rattle.wg_model.specs.Buffers.{create_buffer_rules}
use Rattle.wg_model.specs.Textures.{create_texture_rules}
use Rattle.wg_model.specs.Queries.{create_queries_rules}
use Rattle.wg_model.specs.Memory.{bytes_of, texture_bytes}
use Rattle.wg_types.specs.declared.handles.Info.TheVariants.{Queries}
use Rattle.wg_model.proofs.Unmet.{all_met}
use Rattle.wg_history.specs.declared.events.Setup.{Setup}
use Rattle.wg_history.specs.declared.events.Event.{Event}
use Rattle.wg_history.specs.declared.events.Event.TheVariants.{CreateBuffer, CreateTexture, CreateQuerySet}
use Rattle.wg_history.specs.Entries.{effects_of, Past}
use Rattle.wg_history.specs.Objects.{is_making, count, maker, info_made, known_in, info_at, is_valid, is_made_valid}
use Rattle.wg_history.specs.Loss.{is_lost}
use Rattle.wg_history.specs.FirstRules.{first_rule, budget_rules, create_buffer_rule, create_texture_rule, create_query_set_rule}
use Rattle.wg_history.specs.Answers.{IsRun, answer_by}
use Rattle.wg_history.proofs.Makers.{made_met}
use Rattle.wg_history.proofs.Runs.{newest, others}
use Rattle.wg_small.specs.Limits.{IsWithinLimits, ObjectsAreWithinLimits}

abbrev pub IfKnown : Limits → Option Info → Type 0
IfKnown limits None = Unit {0}
IfKnown limits (Some info) = IsWithinLimits limits info

-- The object of a creation that meets its rules is within them.
pub made_known : (setup : Setup) (older : Past) (event : Event) (known : ObjRef → Option Info)
    → is_made_valid (answer_by older (effects_of event).form (not (is_lost older) && is_none (first_rule setup older event))) ≡ true → IfKnown setup.limits (info_made known event)
unfolding create_buffer_rule create_texture_rule create_query_set_rule
made_known setup older (CreateBuffer info) known made =
    let met = all_met (create_buffer_rules setup.limits info ++ budget_rules setup older info.size) (and_parts (not (is_lost older)) (is_none (create_buffer_rule setup older info)) made).1 in
    leb-true info.size setup.limits.max_buffer_size met.1.1.1.0
made_known setup older (CreateTexture info) known made =
    let met = all_met (create_texture_rules setup.limits info ++ budget_rules setup older (texture_bytes info)) (and_parts (not (is_lost older)) (is_none (create_texture_rule setup older info)) made).1 in
    (met.1.1.0, met.1.1.1.0)
made_known setup older (CreateQuerySet info) known made =
    let met = all_met (create_queries_rules setup.limits info ++ budget_rules setup older (bytes_of (Queries info))) (and_parts (not (is_lost older)) (is_none (create_query_set_rule setup older info)) made).1 in
    leb-true info.count setup.limits.max_queries_per_set met.0
made_known setup older _ known made = tt

pub valid_within : (setup : Setup) (past : Past) (n : ℕ) (info : Info) → IsRun setup past → is_valid past n ≡ true → info_at past n ≡ Some info → IsWithinLimits setup.limits info
valid_within setup [] n info run valid e = absurd (true≢false (sym valid))
valid_within setup (entry ∷ older) n info run valid e = by_maker (is_making entry.event && count older == n) valid e (valid_within setup older n info (others setup entry older run))
  where
    by_maker : (b : Bool) → option_map_or (λ entry. is_made_valid entry.reply.answer) (if b then Some entry else maker older n) false ≡ true → (if b then info_made (λ object. info_at older object.number) entry.event else info_at older n) ≡ Some info
        → (is_valid older n ≡ true → info_at older n ≡ Some info → IsWithinLimits setup.limits info) → IsWithinLimits setup.limits info
    by_maker true valid e rest =
        subst (IfKnown setup.limits) e (made_known setup older entry.event (known_in older) (made_met setup entry older (newest setup entry older run) valid))
    by_maker false valid e rest = rest valid e

pub objects_are_within_limits : ObjectsAreWithinLimits
objects_are_within_limits setup history n info run valid e = valid_within setup (reverse history) n info run valid e
