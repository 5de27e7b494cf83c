-- What is released is used no more, and its uses are complete.
use Rattle.std.proofs.Common.{◌≡◌, ℕ, ◌+◌, ◌<◌, ◌≤◌, List, [], ◌∷◌, ◌++◌, reverse, Bool, true, false, not, ◌&&◌, ◌||◌, ◌==◌, nat_lt, nat_le, max, is_some, is_none, unwrap_or, refl, ap, ap₂, sym, ◌∙◌, arith, if◌then◌else◌, true≢false, subst, ◌⊎◌, inl, inr}
use Rattle.std.proofs.lemmas.List.{reverse-append}
use Rattle.std.proofs.lemmas.Bool.{and_parts, or_cases, or_left, or_right, leb-true, ltb-true, eqb-true}
use Rattle.std.proofs.Math.Nat.{zero-max}
use Rattle.wg_model.proofs.Unmet.{all_met}
use Rattle.std.specs.List.{list_any}
use Rattle.wg_model.specs.Rules.{AreMet}
use Rattle.wg_types.specs.Commands.{Command}
use Rattle.wg_types.specs.declared.textures.TextureSpot.{TextureSpot}
use Rattle.wg_types.specs.declared.textures.DataLayout.{DataLayout}
use Rattle.wg_model.specs.Recorded.{buffers_of, textures_of, query_sets_of, resources, any_named, any_resource, uses_resource}
use Rattle.wg_history.specs.Loss.{is_lost}
use Rattle.wg_model.proofs.Sparing.{or_first}
use Rattle.wg_history.proofs.Runs.{newest, others}
use Rattle.wg_history.proofs.Tests.{not_true, any_grows, met_after, met_before}
use Rattle.wg_history.proofs.Released.{resource_made, due_some}
use Rattle.wg_history.proofs.Makers.{made_more, own_below}
use Rattle.wg_history.proofs.Holders.{undropped_held, held_falls}
use Rattle.wg_history.proofs.BundleTouches.{any_either, any_resource_is}
use Rattle.wg_history.proofs.Reached.{listed_held}
use Rattle.wg_history.specs.Entries.{Setup, Event, Submit, WriteBuffer, WriteTexture, Complete, Reply, Entry, Past}
use Rattle.wg_history.specs.Objects.{ObjRef, is_making, count, resource_at, commands_at}
use Rattle.wg_history.specs.Operations.{issued, completion, completed, submit_uses, is_used, op_of, use_by, last_use}
use Rattle.wg_history.specs.Rules.{listed_rules, any_used, is_busy, together_rules, submit_list, submit_rule, write_buffer_list, write_buffer_rule, write_texture_list, write_texture_rule, destroys, is_destroyed, is_dropped, is_consumed}
use Rattle.wg_history.specs.Held.{is_held}
use Rattle.wg_history.specs.Answers.{Queued, Plain, BadCompletion, reply_to, IsRun}
use Rattle.wg_history.specs.Releases.{is_gone, is_due, is_released}
use Rattle.wg_history.specs.ReleaseLaws.{FreedAfterUse}

-- No completion takes back what is complete.
completes_more : (setup : Setup) (past : Past) (event : Event) → completed past ≤ unwrap_or (completion event (reply_to setup past event).answer) (completed past)
completes_more setup past (Complete op) = by_test (nat_lt (completed past) op && nat_le op (issued past)) refl
  where
    by_test : (b : Bool) → (nat_lt (completed past) op && nat_le op (issued past)) ≡ b → completed past ≤ unwrap_or (completion (Complete op) (if b then Plain else BadCompletion)) (completed past)
    by_test true e = let above : completed past < op = ltb-true (completed past) op (and_parts (nat_lt (completed past) op) (nat_le op (issued past)) e).0 in omega arith
    by_test false e = omega arith
completes_more setup past _ = omega arith

completed_grows : (setup : Setup) (entry : Entry) (older : Past) → IsRun setup (entry ∷ older) → completed older ≤ completed (entry ∷ older)
completed_grows setup entry older run = subst (λ (reply : Reply). completed older ≤ unwrap_or (completion entry.event reply.answer) (completed older)) (sym (newest setup entry older run)) (completes_more setup older entry.event)

-- What is not destroyed and is held is not gone.
pub stands : (setup : Setup) (past : Past) (n : ℕ) → is_destroyed setup past n ≡ false → is_held setup past n ≡ true → is_gone setup past n ≡ false
stands setup past n e held = ap₂ (λ d h. d || not h) e held

-- A write that meets its rules is of a buffer that is not gone.
pub write_stands : (setup : Setup) (past : Past) (buffer : ObjRef) (offset size : ℕ) → is_none (write_buffer_rule setup past buffer offset size) ≡ true → is_gone setup past buffer.number ≡ false
unfolding write_buffer_rule
write_stands setup past buffer offset size e =
    let met = all_met (write_buffer_list setup past buffer offset size) e in
    stands setup past buffer.number (or_first (is_destroyed setup past buffer.number) _ (not_true (is_busy setup past buffer.number) met.1.1.1.1.1.1.0))
    (undropped_held setup past buffer.number (own_below setup past _ buffer met.0) (not_true (is_dropped setup past buffer.number) met.1.0))

pub write_texture_stands : (setup : Setup) (past : Past) (texture : ObjRef) (spot : TextureSpot) (layout : DataLayout) (size : List ℕ) (data_size : ℕ) → is_none (write_texture_rule setup past texture spot layout size data_size) ≡ true → is_gone setup past texture.number ≡ false
unfolding write_texture_rule
write_texture_stands setup past texture spot layout size data_size e =
    let met = all_met (write_texture_list setup past texture spot layout size data_size) e in
    stands setup past texture.number (not_true (is_destroyed setup past texture.number) met.1.1.1.1.1.1.1.1.0)
    (undropped_held setup past texture.number (own_below setup past _ texture met.0) (not_true (is_dropped setup past texture.number) met.1.0))

-- Command buffers that use a destroyed object use some destroyed object.
pub used_destroyed : (setup : Setup) (past : Past) (buffers : List ObjRef) (n : ℕ) → is_destroyed setup past n ≡ true → submit_uses past buffers n ≡ true → any_used resources (is_destroyed setup past) past buffers ≡ true
used_destroyed setup past buffers n destroyed used =
    any_grows (λ buffer. any_resource (is_destroyed setup past) (commands_at past buffer.number)) (λ buffer. uses_resource (commands_at past buffer.number) n)
    (λ buffer in_buffer. any_grows (λ kept. list_any (is_destroyed setup past) (resources kept.1)) (λ kept. list_any (λ r. r == n) (resources kept.1))
    (λ kept in_command. any_grows (is_destroyed setup past) (λ r. r == n) (λ r same. ap (is_destroyed setup past) (eqb-true r n same) ∙ destroyed) (resources kept.1) in_command)
    (commands_at past buffer.number) in_buffer)
    buffers used

-- whether one that command buffers use is destroyed, of each
abbrev uses_destroyed : (Command → List ℕ) → Setup → Past → List ObjRef → Bool
uses_destroyed names setup past buffers = any_used names (is_destroyed setup past) past buffers

pub any_destroyed_is : (setup : Setup) (past : Past) (buffers : List ObjRef)
    → uses_destroyed resources setup past buffers ≡ uses_destroyed buffers_of setup past buffers || (uses_destroyed textures_of setup past buffers || uses_destroyed query_sets_of setup past buffers)
any_destroyed_is setup past buffers =
    any_either (λ buffer. any_named buffers_of test (commands_at past buffer.number)) (λ buffer. any_named textures_of test (commands_at past buffer.number) || any_named query_sets_of test (commands_at past buffer.number))
    (λ buffer. any_resource test (commands_at past buffer.number)) (λ buffer. any_resource_is test (commands_at past buffer.number)) buffers
    ∙ ap (λ b. uses_destroyed buffers_of setup past buffers || b)
    (any_either (λ buffer. any_named textures_of test (commands_at past buffer.number)) (λ buffer. any_named query_sets_of test (commands_at past buffer.number))
    (λ buffer. any_named textures_of test (commands_at past buffer.number) || any_named query_sets_of test (commands_at past buffer.number)) (λ buffer. refl) buffers)
  where
    test : ℕ → Bool
    test = is_destroyed setup past

-- Where no buffer is busy, none is destroyed.
buffers_stand : (setup : Setup) (past : Past) (buffers : List ObjRef) → any_used buffers_of (is_busy setup past) past buffers ≡ false → any_used buffers_of (is_destroyed setup past) past buffers ≡ false
buffers_stand setup past buffers none = by_use (any_used buffers_of (is_destroyed setup past) past buffers) refl
  where
    grows : any_used buffers_of (is_destroyed setup past) past buffers ≡ true → any_used buffers_of (is_busy setup past) past buffers ≡ true
    grows = any_grows (λ buffer. any_named buffers_of (is_busy setup past) (commands_at past buffer.number)) (λ buffer. any_named buffers_of (is_destroyed setup past) (commands_at past buffer.number))
        (λ buffer in_buffer. any_grows (λ kept. list_any (is_busy setup past) (buffers_of kept.1)) (λ kept. list_any (is_destroyed setup past) (buffers_of kept.1))
        (λ kept in_command. any_grows (is_busy setup past) (is_destroyed setup past) (λ r h. or_left (is_destroyed setup past r) _ h) (buffers_of kept.1) in_command)
        (commands_at past buffer.number) in_buffer) buffers

    by_use : (b : Bool) → any_used buffers_of (is_destroyed setup past) past buffers ≡ b → b ≡ false
    by_use true used = absurd (true≢false (sym (grows used) ∙ none))
    by_use false used = refl

-- A submit that meets its rules uses nothing that is gone.
pub submit_stands : (setup : Setup) (past : Past) (buffers : List ObjRef) (n : ℕ) → IsRun setup past → is_none (submit_rule setup past buffers) ≡ true → n < count past → is_gone setup past n ≡ true → submit_uses past buffers n ≡ false
unfolding submit_rule
submit_stands setup past buffers n run e lt gone =
    let all : AreMet (submit_list setup past buffers) = all_met (submit_list setup past buffers) e in
    let met : AreMet (together_rules setup past buffers) = met_after (listed_rules setup past buffers) (together_rules setup past buffers) all in
    let idle : any_used buffers_of (is_busy setup past) past buffers ≡ false = not_true (any_used buffers_of (is_busy setup past) past buffers) met.1.1.0 in
    let others = not_true (uses_destroyed textures_of setup past buffers || uses_destroyed query_sets_of setup past buffers) met.1.1.1.0 in
    let spared : any_used resources (is_destroyed setup past) past buffers ≡ false = any_destroyed_is setup past buffers ∙ ap₂ ◌||◌ (buffers_stand setup past buffers idle) others in
    by_use (submit_uses past buffers n) refl spared (met_before (listed_rules setup past buffers) (together_rules setup past buffers) all) (not_true (list_any (λ buffer. is_consumed setup past buffer.number) buffers) met.0)
  where
    by_use : (b : Bool) → submit_uses past buffers n ≡ b → any_used resources (is_destroyed setup past) past buffers ≡ false → AreMet (listed_rules setup past buffers) → list_any (λ buffer. is_consumed setup past buffer.number) buffers ≡ false → b ≡ false
    by_use true used spared listed consumed = elim (or_cases (is_destroyed setup past n) (not (is_held setup past n)) gone) [
      | inl destroyed ↦ absurd (true≢false (sym (used_destroyed setup past buffers n destroyed used) ∙ spared))
      | inr unheld ↦ absurd (true≢false (sym (listed_held setup past buffers n run listed consumed used) ∙ not_true (is_held setup past n) unheld))
    ]
    by_use false used spared listed consumed = refl

-- What is gone is used by no later operation of a run.
pub no_op : (lost b : Bool) (k : ℕ) → b ≡ false → unwrap_or (op_of (if not lost && b then Queued k else Plain)) 0 ≡ 0
no_op true b k e = refl
no_op false b k e = ap (λ (b : Bool). unwrap_or (op_of (if b then Queued k else Plain)) 0) e

uses_none : (setup : Setup) (past : Past) (event : Event) (n : ℕ) → IsRun setup past → n < count past → is_gone setup past n ≡ true → (if is_used past event n then unwrap_or (op_of (reply_to setup past event).answer) 0 else 0) ≡ 0
uses_none setup past (WriteBuffer buffer offset size) n run lt gone = by_same (buffer.number == n) refl
  where
    by_rule : (b : Bool) → is_none (write_buffer_rule setup past buffer offset size) ≡ b → buffer.number ≡ n → b ≡ false
    by_rule true e same = absurd (true≢false (sym gone ∙ (ap (is_gone setup past) (sym same) ∙ write_stands setup past buffer offset size e)))
    by_rule false e same = refl

    by_same : (b : Bool) → (buffer.number == n) ≡ b → (if b then unwrap_or (op_of (reply_to setup past (WriteBuffer buffer offset size)).answer) 0 else 0) ≡ 0
    by_same true e = no_op (is_lost past) (is_none (write_buffer_rule setup past buffer offset size)) (issued past + 1) (by_rule (is_none (write_buffer_rule setup past buffer offset size)) refl (eqb-true buffer.number n e))
    by_same false e = refl
uses_none setup past (WriteTexture texture spot layout size data_size) n run lt gone = by_same (texture.number == n) refl
  where
    by_rule : (b : Bool) → is_none (write_texture_rule setup past texture spot layout size data_size) ≡ b → texture.number ≡ n → b ≡ false
    by_rule true e same = absurd (true≢false (sym gone ∙ (ap (is_gone setup past) (sym same) ∙ write_texture_stands setup past texture spot layout size data_size e)))
    by_rule false e same = refl

    by_same : (b : Bool) → (texture.number == n) ≡ b → (if b then unwrap_or (op_of (reply_to setup past (WriteTexture texture spot layout size data_size)).answer) 0 else 0) ≡ 0
    by_same true e = no_op (is_lost past) (is_none (write_texture_rule setup past texture spot layout size data_size)) (issued past + 1) (by_rule (is_none (write_texture_rule setup past texture spot layout size data_size)) refl (eqb-true texture.number n e))
    by_same false e = refl
uses_none setup past (Submit buffers) n run lt gone = by_use (submit_uses past buffers n) refl
  where
    by_rule : (b : Bool) → is_none (submit_rule setup past buffers) ≡ b → submit_uses past buffers n ≡ true → b ≡ false
    by_rule true met used = absurd (true≢false (sym used ∙ submit_stands setup past buffers n run met lt gone))
    by_rule false met used = refl

    by_use : (b : Bool) → submit_uses past buffers n ≡ b → (if b then unwrap_or (op_of (reply_to setup past (Submit buffers)).answer) 0 else 0) ≡ 0
    by_use true used = no_op (is_lost past) (is_none (submit_rule setup past buffers)) (issued past + 1) (by_rule (is_none (submit_rule setup past buffers)) refl used)
    by_use false used = refl
uses_none setup past _ n run lt gone = refl

unused_then : (setup : Setup) (entry : Entry) (older : Past) (n : ℕ) → IsRun setup (entry ∷ older) → n < count older → is_gone setup older n ≡ true → use_by older entry n ≡ 0
unused_then setup entry older n run lt gone = ap (λ (reply : Reply). if is_used older entry.event n then unwrap_or (op_of reply.answer) 0 else 0) (newest setup entry older run) ∙ uses_none setup older entry.event n (others setup entry older run) lt gone

-- What is gone stays so.
pub gone_stays : (setup : Setup) (entry : Entry) (older : Past) (n : ℕ) → IsRun setup (entry ∷ older) → n < count older → is_gone setup older n ≡ true → is_gone setup (entry ∷ older) n ≡ true
gone_stays setup entry older n run lt gone = elim (or_cases (is_destroyed setup older n) (not (is_held setup older n)) gone) [
  | inl destroyed ↦ or_left (is_destroyed setup (entry ∷ older) n) (not (is_held setup (entry ∷ older) n)) (or_right (destroys setup older entry.event n) (is_destroyed setup older n) destroyed)
  | inr unheld ↦ or_right (is_destroyed setup (entry ∷ older) n) (not (is_held setup (entry ∷ older) n)) (by_held (is_held setup (entry ∷ older) n) refl (not_true (is_held setup older n) unheld))
]
  where
    by_held : (b : Bool) → is_held setup (entry ∷ older) n ≡ b → is_held setup older n ≡ false → not b ≡ true
    by_held true e was = absurd (true≢false (sym (held_falls setup entry older n run lt e) ∙ was))
    by_held false e was = refl

-- A released object is gone, and its uses are complete.
pub record IsOver (setup : Setup) (past : Past) (n : ℕ) : Type 0 where
  pub made : n < count past
  pub gone : is_gone setup past n ≡ true
  pub complete : last_use past n ≤ completed past

-- It stays so, and is used no more.
same_use : (setup : Setup) (entry : Entry) (older : Past) (n : ℕ) → IsRun setup (entry ∷ older) → IsOver setup older n → last_use (entry ∷ older) n ≡ last_use older n
same_use setup entry older n run over = ap (λ k. max k (last_use older n)) (unused_then setup entry older n run over.made over.gone) ∙ zero-max (last_use older n)

pub over_next : (setup : Setup) (entry : Entry) (older : Past) (n : ℕ) → IsRun setup (entry ∷ older) → IsOver setup older n → IsOver setup (entry ∷ older) n
over_next setup entry older n run over = record {
  made = made_more (is_making entry.event) (count older) n over.made;
  gone = gone_stays setup entry older n run over.made over.gone;
  complete = let same : last_use (entry ∷ older) n ≡ last_use older n = same_use setup entry older n run over in let grows : completed older ≤ completed (entry ∷ older) = completed_grows setup entry older run in omega (arith, over.complete);
}

pub due_over : (setup : Setup) (past : Past) (n : ℕ) → is_due setup past n ≡ true → IsOver setup past n
unfolding is_due
due_over setup past n e =
    let h : ((is_some (resource_at past n) && is_gone setup past n) ≡ true) × (nat_le (last_use past n) (completed past) ≡ true) = and_parts (is_some (resource_at past n) && is_gone setup past n) (nat_le (last_use past n) (completed past)) e in
    record { made = resource_made past n (due_some setup past n e); gone = (and_parts (is_some (resource_at past n)) (is_gone setup past n) h.0).1; complete = leb-true (last_use past n) (completed past) h.1 }

pub released_over : (setup : Setup) (past : Past) (n : ℕ) → IsRun setup past → is_released setup past n ≡ true → IsOver setup past n
released_over setup [] n run released = absurd (cc)
released_over setup (entry ∷ older) n run released = by_cases (or_cases (is_due setup (entry ∷ older) n) (is_released setup older n) released) (λ h. released_over setup older n (others setup entry older run) h)
  where
    by_cases : (is_due setup (entry ∷ older) n ≡ true) ⊎ (is_released setup older n ≡ true) → (is_released setup older n ≡ true → IsOver setup older n) → IsOver setup (entry ∷ older) n
    by_cases (inl due) rest = due_over setup (entry ∷ older) n due
    by_cases (inr before) rest = over_next setup entry older n run (rest before)

-- The entries below the newest ones of a run are one.
pub run_below : (setup : Setup) (new past : Past) → IsRun setup (new ++ past) → IsRun setup past
run_below setup [] past run = run
run_below setup (entry ∷ new) past run = run_below setup new past (others setup entry (new ++ past) run)

pub over_later : (setup : Setup) (new past : Past) (n : ℕ) → IsRun setup (new ++ past) → IsOver setup past n → IsOver setup (new ++ past) n × (last_use (new ++ past) n ≡ last_use past n)
over_later setup [] past n run over = (over, refl)
over_later setup (entry ∷ new) past n run over =
    let below : IsOver setup (new ++ past) n × (last_use (new ++ past) n ≡ last_use past n) = over_later setup new past n (others setup entry (new ++ past) run) over in
    (over_next setup entry (new ++ past) n run below.0, same_use setup entry (new ++ past) n run below.0 ∙ below.1)

pub freed_after_use : FreedAfterUse
freed_after_use setup before later n run released =
    let back : IsRun setup (reverse later ++ reverse before) = subst (IsRun setup) (reverse-append before later) run in
    let over : IsOver setup (reverse before) n = released_over setup (reverse before) n (run_below setup (reverse later) (reverse before) back) released in
    let same : last_use (reverse (before ++ later)) n ≡ last_use (reverse before) n = ap (λ past. last_use past n) (reverse-append before later) ∙ (over_later setup (reverse later) (reverse before) n back over).1 in
    omega (arith, over.complete)
