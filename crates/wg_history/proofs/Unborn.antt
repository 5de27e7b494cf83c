-- What a history says of an object it says of one that was made: nothing is said of a number that is not yet given.
use Rattle.std.proofs.Common.{◌≡◌, ℕ, ◌+◌, ◌<◌, ◌≤◌, List, [], ◌∷◌, Bool, true, false, not, ◌&&◌, ◌||◌, ◌==◌, max, Option, Some, None, is_some, is_none, unwrap_or, refl, ap, ap₂, sym, ◌∙◌, arith, if◌then◌else◌, true≢false}
use Rattle.std.specs.Option.{option_map_or}
use Rattle.std.specs.List.{list_any}
use Rattle.std.proofs.lemmas.Bool.{and_parts, eqb-true}
use Rattle.wg_rules.specs.declared.TheConstants.{OBJECT_IS_OF_DEVICE, OBJECT_IS_NOT_DROPPED}
use Rattle.wg_types.specs.declared.handles.Info.{Info}
use Rattle.wg_types.specs.declared.handles.ObjRef.{ObjRef}
use Rattle.wg_trace.specs.declared.replies.Reply.{Reply}
use Rattle.wg_model.specs.Rules.{Rule, AreMet}
use Rattle.wg_model.specs.Recorded.{names_within, uses_resource}
use Rattle.wg_model.proofs.Unmet.{all_met}
use Rattle.wg_history.specs.Loss.{is_lost}
use Rattle.wg_history.specs.Entries.{Setup, Event, Finish, FinishBundle, Submit, WriteBuffer, WriteTexture, Destroy, Entry, Past}
use Rattle.wg_history.specs.Objects.{is_making, count, maker, is_own, is_valid, is_made_valid, takes_commands, is_command_buffer, has_memory, commands_at}
use Rattle.wg_history.specs.Operations.{issued, submit_uses, is_used, op_of, use_by, last_use}
use Rattle.wg_history.specs.Rules.{is_dropped, destroy_rule, destroys, is_destroyed, ends_encoder, has_finished, consumes, is_consumed, listed_rules, together_rules, submit_list, submit_rule, write_buffer_list, write_buffer_rule, write_texture_list, write_texture_rule}
use Rattle.wg_history.specs.Answers.{Queued, Plain, reply_to, IsRun}
use Rattle.wg_history.specs.Releases.{is_due, is_released}
use Rattle.wg_history.proofs.Released.{maker_below, resource_made, due_some}
use Rattle.wg_history.proofs.Tests.{fails, met_before}
use Rattle.wg_history.proofs.Makers.{older_le, own_below}
use Rattle.wg_history.proofs.Reached.{reached_below, used_reached}
use Rattle.wg_history.proofs.Making.{names_back}
use Rattle.wg_history.proofs.Runs.{newest, others}

pub destroys_below : (setup : Setup) (past : Past) (event : Event) (n : ℕ) → destroys setup past event n ≡ true → n < count past
unfolding destroy_rule
destroys_below setup past (Destroy object) n h =
    let both : ((object.number == n) ≡ true) × (is_none (destroy_rule setup past object) ≡ true) = and_parts (object.number == n) (is_none (destroy_rule setup past object)) h in
    let lt : object.number < count past = own_below setup past _ object (all_met ((OBJECT_IS_OF_DEVICE, is_own setup past has_memory object) ∷ ((OBJECT_IS_NOT_DROPPED, not (is_dropped setup past object.number)) ∷ [])) both.1).0 in
    let same : object.number ≡ n = eqb-true object.number n both.0 in
    omega (arith, lt, same)
destroys_below setup past _ n h = absurd (true≢false (sym h))

either_fails : (a b : Bool) → a ≡ false → b ≡ false → (a || b) ≡ false
either_fails a b e f = ap₂ ◌||◌ e f

pub destroyed_new : (setup : Setup) (past : Past) (n : ℕ) → count past ≤ n → is_destroyed setup past n ≡ false
destroyed_new setup [] n le = refl
destroyed_new setup (entry ∷ older) n le =
    let before : count older ≤ n = older_le (is_making entry.event) (count older) n le in
    either_fails (destroys setup older entry.event n) (is_destroyed setup older n) (fails (destroys setup older entry.event n) (count older) n before (destroys_below setup older entry.event n)) (destroyed_new setup older n before)

-- a reference of the kind to this number is to one that was made
named_below : (setup : Setup) (past : Past) (kind : Info → Bool) (object : ObjRef) (n : ℕ) → (object.number == n && is_own setup past kind object) ≡ true → n < count past
named_below setup past kind object n h =
    let both : ((object.number == n) ≡ true) × (is_own setup past kind object ≡ true) = and_parts (object.number == n) (is_own setup past kind object) h in
    let lt : object.number < count past = own_below setup past kind object both.1 in
    let same : object.number ≡ n = eqb-true object.number n both.0 in
    omega (arith, lt, same)

ends_below : (setup : Setup) (past : Past) (event : Event) (n : ℕ) → count past ≤ n → ends_encoder setup past event n ≡ false
ends_below setup past (Finish encoder recording) n le = fails (encoder.number == n && is_own setup past takes_commands encoder) (count past) n le (named_below setup past takes_commands encoder n)
ends_below setup past (FinishBundle encoder recording) n le = fails (encoder.number == n && is_own setup past takes_commands encoder) (count past) n le (named_below setup past takes_commands encoder n)
ends_below setup past _ n le = refl

pub ended_new : (setup : Setup) (past : Past) (n : ℕ) → count past ≤ n → has_finished setup past n ≡ false
ended_new setup [] n le = refl
ended_new setup (entry ∷ older) n le =
    let before : count older ≤ n = older_le (is_making entry.event) (count older) n le in
    either_fails (ends_encoder setup older entry.event n) (has_finished setup older n) (ends_below setup older entry.event n before) (ended_new setup older n before)

due_below : (setup : Setup) (past : Past) (n : ℕ) → count past ≤ n → is_due setup past n ≡ false
due_below setup past n le = fails (is_due setup past n) (count past) n le (λ due. resource_made past n (due_some setup past n due))

pub released_new : (setup : Setup) (past : Past) (n : ℕ) → count past ≤ n → is_released setup past n ≡ false
released_new setup [] n le = refl
released_new setup (entry ∷ older) n le =
    either_fails (is_due setup (entry ∷ older) n) (is_released setup older n) (due_below setup (entry ∷ older) n le) (released_new setup older n (older_le (is_making entry.event) (count older) n le))

listed_below : (setup : Setup) (past : Past) (buffers : List ObjRef) (n : ℕ) → count past ≤ n → list_any (λ buffer. buffer.number == n && is_own setup past is_command_buffer buffer) buffers ≡ false
listed_below setup past [] n le = refl
listed_below setup past (buffer ∷ buffers) n le = either_fails (buffer.number == n && is_own setup past is_command_buffer buffer) _
    (fails (buffer.number == n && is_own setup past is_command_buffer buffer) (count past) n le (named_below setup past is_command_buffer buffer n))
    (listed_below setup past buffers n le)

consumes_below : (setup : Setup) (past : Past) (event : Event) (n : ℕ) → count past ≤ n → consumes setup past event n ≡ false
consumes_below setup past (Submit buffers) n le = listed_below setup past buffers n le
consumes_below setup past _ n le = refl

pub consumed_new : (setup : Setup) (past : Past) (n : ℕ) → count past ≤ n → is_consumed setup past n ≡ false
consumed_new setup [] n le = refl
consumed_new setup (entry ∷ older) n le =
    let before : count older ≤ n = older_le (is_making entry.event) (count older) n le in
    either_fails (consumes setup older entry.event n) (is_consumed setup older n) (consumes_below setup older entry.event n before) (consumed_new setup older n before)

-- A valid command buffer uses objects that were made before it.
pub valid_unused : (setup : Setup) (past : Past) (k n : ℕ) → IsRun setup past → count past ≤ n → is_valid past k ≡ true → uses_resource (commands_at past k) n ≡ false
valid_unused setup past k n run le valid = fails (uses_resource (commands_at past k) n) (count past) n le (λ used.
    let made = maker_below past k (valid_made (maker past k) valid) in
    reached_below setup past (names_within (commands_at past k)) n run (λ m among. let lt = names_back setup past k m run valid among in omega (arith, lt, made)) (used_reached setup past k n run valid used))
  where
    valid_made : (o : Option Entry) → option_map_or (λ entry. is_made_valid entry.reply.answer) o false ≡ true → is_some o ≡ true
    valid_made None h = absurd (true≢false (sym h))
    valid_made (Some entry) h = refl

-- No operation of a run uses an object that is not yet made.

submit_below : (setup : Setup) (past : Past) (buffers : List ObjRef) (more : List Rule) (n : ℕ) → IsRun setup past → count past ≤ n → AreMet (listed_rules setup past buffers) → submit_uses past buffers n ≡ false
submit_below setup past [] more n run le met = refl
submit_below setup past (buffer ∷ buffers) more n run le met = either_fails (uses_resource (commands_at past buffer.number) n) (submit_uses past buffers n) (valid_unused setup past buffer.number n run le met.1.1.0) (submit_below setup past buffers more n run le met.1.1.1)

no_use : (b : Bool) → ◌≡◌ {A = ℕ} (if b then 0 else 0) 0
no_use true = refl
no_use false = refl

uses_below : (setup : Setup) (past : Past) (event : Event) (n : ℕ) → IsRun setup past → count past ≤ n → (if is_used past event n then unwrap_or (op_of (reply_to setup past event).answer) 0 else 0) ≡ 0
unfolding submit_rule write_buffer_rule write_texture_rule
uses_below setup past (Submit buffers) n run le = by_rule (is_lost past) (is_none (submit_rule setup past buffers)) refl
  where
    by_rule : (lost b : Bool) → is_none (submit_rule setup past buffers) ≡ b → (if submit_uses past buffers n then unwrap_or (op_of (if not lost && b then Queued (issued past + 1) else Plain)) 0 else 0) ≡ 0
    by_rule false true met = ap (λ (used : Bool). if used then issued past + 1 else 0) (submit_below setup past buffers [] n run le (met_before (listed_rules setup past buffers) (together_rules setup past buffers) (all_met (submit_list setup past buffers) met)))
    by_rule true b met = no_use (submit_uses past buffers n)
    by_rule false false met = no_use (submit_uses past buffers n)
uses_below setup past (WriteBuffer buffer offset size) n run le = by_rule (is_lost past) (is_none (write_buffer_rule setup past buffer offset size)) refl
  where
    by_rule : (lost b : Bool) → is_none (write_buffer_rule setup past buffer offset size) ≡ b → (if buffer.number == n then unwrap_or (op_of (if not lost && b then Queued (issued past + 1) else Plain)) 0 else 0) ≡ 0
    by_rule false true met = ap (λ (used : Bool). if used then issued past + 1 else 0) (fails (buffer.number == n) (count past) n le (λ h. let lt : buffer.number < count past = own_below setup past _ buffer (all_met (write_buffer_list setup past buffer offset size) met).0 in let same : buffer.number ≡ n = eqb-true buffer.number n h in omega (arith, lt, same)))
    by_rule true b met = no_use (buffer.number == n)
    by_rule false false met = no_use (buffer.number == n)
uses_below setup past (WriteTexture texture spot layout size data_size) n run le = by_rule (is_lost past) (is_none (write_texture_rule setup past texture spot layout size data_size)) refl
  where
    by_rule : (lost b : Bool) → is_none (write_texture_rule setup past texture spot layout size data_size) ≡ b → (if texture.number == n then unwrap_or (op_of (if not lost && b then Queued (issued past + 1) else Plain)) 0 else 0) ≡ 0
    by_rule false true met = ap (λ (used : Bool). if used then issued past + 1 else 0) (fails (texture.number == n) (count past) n le (λ h. let lt : texture.number < count past = own_below setup past _ texture (all_met (write_texture_list setup past texture spot layout size data_size) met).0 in let same : texture.number ≡ n = eqb-true texture.number n h in omega (arith, lt, same)))
    by_rule true b met = no_use (texture.number == n)
    by_rule false false met = no_use (texture.number == n)
uses_below setup past _ n run le = refl

use_below : (setup : Setup) (entry : Entry) (older : Past) (n : ℕ) → IsRun setup (entry ∷ older) → count older ≤ n → use_by older entry n ≡ 0
use_below setup entry older n run le = ap (λ (reply : Reply). if is_used older entry.event n then unwrap_or (op_of reply.answer) 0 else 0) (newest setup entry older run) ∙ uses_below setup older entry.event n (others setup entry older run) le

pub used_new : (setup : Setup) (past : Past) (n : ℕ) → IsRun setup past → count past ≤ n → last_use past n ≡ 0
used_new setup [] n run le = refl
used_new setup (entry ∷ older) n run le =
    let before : count older ≤ n = older_le (is_making entry.event) (count older) n le in
    ap₂ max (use_below setup entry older n run before) (used_new setup older n (others setup entry older run) before)
