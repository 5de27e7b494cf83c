-- The numbers of the trace of a run are within its history.
use Rattle.std.specs.Prelude.{reverse}
use Rattle.std.proofs.lemmas.List.{length-reverse}
use Rattle.std.specs.Option.{option_to_list, option_map}
use Rattle.std.proofs.Common.{◌≡◌, ℕ, zero, suc, ◌+◌, ◌<◌, ◌≤◌, ◌==◌, not, ◌&&◌, List, [], ◌∷◌, map, length, Bool, true, false, Option, Some, None, is_none, refl, sym, ◌∙◌, subst, arith, if◌then◌else◌, true≢false}
use Rattle.std.proofs.lemmas.Bool.{eq-eqb, eqb-true}
use Rattle.wg_types.specs.declared.handles.ObjRef.{ObjRef}
use Rattle.wg_trace.specs.declared.parts.AccessKind.{AccessKind}
use Rattle.wg_trace.specs.declared.replies.Reply.{Reply}
use Rattle.wg_types.specs.declared.writes.QueueWrite.TheVariants.{Buffer as BufferWrite, Texture as TextureWrite}
use Rattle.wg_trace.specs.declared.steps.StepName.TheVariants as name
use Rattle.wg_trace.specs.declared.steps.StepPlace.TheVariants.{Op}
use Rattle.wg_types.specs.declared.textures.TextureInfo.{TextureInfo}
use Rattle.wg_types.specs.declared.textures.TextureSpot.{TextureSpot}
use Rattle.wg_trace.specs.declared.steps.Sort.{Sort}
use Rattle.wg_rows.specs.Rows.{EachRow}
use Rattle.wg_rows.specs.Runs.{Cells, Bytes, Layers, Slices, Queries, run_part, run_object}
use Rattle.wg_rows.specs.Uses.{Usages}
use Rattle.wg_model.specs.Rules.{AreMet}
use Rattle.wg_model.specs.Subresources.{copied_cells, has_no_texel}
use Rattle.wg_model.specs.Touches.{copy_dst_usage, target_kind, copied_to, range_touches}
use Rattle.wg_model.specs.Recorded.{write_buffer_step, write_texture_step}
use Rattle.wg_model.proofs.Touching.{cells_object, AreOthers, copied_others}
use Rattle.wg_model.proofs.Unmet.{all_met}
use Rattle.wg_history.specs.declared.events.Setup.{Setup}
use Rattle.wg_history.specs.declared.events.Event.{Event}
use Rattle.wg_history.specs.declared.events.Event.TheVariants.{Submit, WriteBuffer, WriteTexture}
use Rattle.wg_history.specs.Entries.{queue_call, Entry, Past}
use Rattle.wg_history.specs.Objects.{count, resource_at, known_textures, texture_or_none_at}
use Rattle.wg_history.specs.Operations.{issued}
use Rattle.wg_history.specs.Loss.{is_lost}
use Rattle.wg_history.specs.Rules.{listed_rules, together_rules, submit_list, submit_rule, write_buffer_list, write_buffer_rule, write_texture_list, write_texture_rule}
use Rattle.wg_history.specs.Answers.{Queued, Plain, reply_to, IsRun}
use Rattle.wg_history.specs.Steps.{write_groups, steps_at, submit_groups, groups_in, host_groups, groups_of}
use Rattle.wg_history.specs.Releases.{is_freed, freed_at, freed_below}
use Rattle.wg_history.specs.Traces.{work_of, trace_after}
use Rattle.wg_history.proofs.Makers.{own_below}
use Rattle.wg_history.proofs.Runs.{newest, others}
use Rattle.wg_history.proofs.Tests.{met_before}
use Rattle.wg_rows.proofs.Cut.{each_append}
use Rattle.wg_shaped.proofs.Groups.{If, Each, group_each, both_each, listed_each}
use Rattle.wg_small.specs.Small.{NumbersAreWithin}
use Rattle.wg_small.proofs.Tracing.{IsSaidItem, work_added}
use Rattle.wg_small.proofs.Doings.{TouchHas, doing_has}
use Rattle.wg_small.proofs.Objects.{within, within_closed, within_told, count_le, issued_le}
use Rattle.wg_small.proofs.Recorded.{valid_within}
use Rattle.wg_small.proofs.Hosts.{Within, hosts_within}

-- the steps of queue writes
buffer_within : (most op buffer offset size : ℕ) → op ≤ most → buffer < most → If (Within most) (if size == 0 then None else Some (write_buffer_step (Op op) buffer offset size))
buffer_within most op buffer offset size le made = by_size (size == 0)
  where
    by_size : (b : Bool) → If (Within most) (if b then None else Some (write_buffer_step (Op op) buffer offset size))
    by_size true = tt
    by_size false = doing_has (within most) (within_closed most) (within_told most) (Op op) (name.WriteBuffer, range_touches buffer offset size) le ((made, λ e. made), tt)

same_object : (run : Cells) → cells_object run ≡ run_object (run_part run)
same_object (Bytes object lo hi) = refl
same_object (Layers object aspect mip lo hi) = refl
same_object (Slices object mip lo hi) = refl
same_object (Queries object lo hi) = refl

-- the cells of a copy are of its texture
other_number : (object own : ℕ) → ((n : ℕ) → (object == n) ≡ false → (own == n) ≡ false) → own ≡ object
other_number object own h = by_same (object == own) refl
  where
    by_same : (b : Bool) → (object == own) ≡ b → own ≡ object
    by_same true e = sym (eqb-true object own e)
    by_same false e = absurd (true≢false (sym (eq-eqb own own refl) ∙ h own e))

own_cells : (object : ℕ) (cells : List Cells) → ((n : ℕ) → (object == n) ≡ false → AreOthers n cells) → EachRow (λ (run : Cells). cells_object run ≡ object) cells
own_cells object [] h = tt
own_cells object (run ∷ cells) h = (other_number object (cells_object run) (λ n e. (h n e).0), own_cells object cells (λ n e. (h n e).1))

copied_own : (texture : ℕ) (info : TextureInfo) (spot : TextureSpot) (size : List ℕ) → EachRow (λ (run : Cells). cells_object run ≡ texture) (copied_cells texture info spot size)
copied_own texture info spot size = own_cells texture (copied_cells texture info spot size) (λ n e. copied_others n texture info spot size e)

texture_touches : (most object : ℕ) (how : Usages × AccessKind) (cells : List Cells) → object < most → EachRow (λ (run : Cells). cells_object run ≡ object) cells → EachRow (TouchHas (within most)) (map (λ (run : Cells). (run, how)) cells)
texture_touches most object how [] made h = tt
texture_touches most object how (run ∷ cells) made h =
    let own : run_object (run_part run) < most = subst (λ (n : ℕ). n < most) (sym h.0 ∙ same_object run) made in
    ((own, λ e. own), texture_touches most object how cells made h.1)

texture_within : (most op texture : ℕ) (info : TextureInfo) (spot : TextureSpot) (size : List ℕ) → op ≤ most → texture < most → If (Within most) (if has_no_texel size then None else Some (write_texture_step (Op op) texture info spot size))
texture_within most op texture info spot size le made = by_size (has_no_texel size)
  where
    by_size : (b : Bool) → If (Within most) (if b then None else Some (write_texture_step (Op op) texture info spot size))
    by_size true = tt
    by_size false =
        doing_has (within most) (within_closed most) (within_told most) (Op op) (name.WriteTexture, copied_to texture info spot size) le
        (texture_touches most texture (copy_dst_usage, target_kind info spot size) (copied_cells texture info spot size) made (copied_own texture info spot size))

-- the steps of calls of the queue
listed_valid : (setup : Setup) (past : Past) (most op : ℕ) (buffers : List ObjRef) → IsRun setup past → length past ≤ most → op ≤ most → AreMet (listed_rules setup past buffers)
    → EachRow (λ (buffer : ObjRef). EachRow (Within most) (steps_at (Op op) past buffer.number)) buffers
listed_valid setup past most op [] run few le met = tt
listed_valid setup past most op (buffer ∷ buffers) run few le met =
    (valid_within setup past most op buffer.number run few le met.1.1.0, listed_valid setup past most op buffers run few le met.1.1.1)

called_within : (setup : Setup) (past : Past) (event : Event) (most : ℕ) → IsRun setup past → length past < most → Each (Within most) (groups_in past (reply_to setup past event).answer (queue_call (known_textures past) event))
unfolding write_groups submit_groups submit_rule write_buffer_rule write_texture_rule
called_within setup past (Submit buffers) most run early = by_rule (is_lost past) (is_none (submit_rule setup past buffers)) refl
  where
    by_rule : (lost b : Bool) → is_none (submit_rule setup past buffers) ≡ b → Each (Within most) (submit_groups past (if not lost && b then Queued (issued past + 1) else Plain) buffers)
    by_rule false true met =
        listed_each (Within most) past (issued past + 1) buffers
        (listed_valid setup past most (issued past + 1) buffers run (omega (arith, early)) (let some = issued_le past in omega (arith, some, early))
        (met_before (listed_rules setup past buffers) (together_rules setup past buffers) (all_met (submit_list setup past buffers) met)))
    by_rule true b met = tt
    by_rule false false met = tt
called_within setup past (WriteBuffer buffer offset size) most run early = by_rule (is_lost past) (is_none (write_buffer_rule setup past buffer offset size)) refl
  where
    by_rule : (lost b : Bool) → is_none (write_buffer_rule setup past buffer offset size) ≡ b → Each (Within most) (write_groups (if not lost && b then Queued (issued past + 1) else Plain) (BufferWrite buffer offset size))
    by_rule false true met =
        group_each (Within most) (if size == 0 then None else Some (write_buffer_step (Op (issued past + 1)) buffer.number offset size))
        (buffer_within most (issued past + 1) buffer.number offset size (let some = issued_le past in omega (arith, some, early))
        (let lt = own_below setup past _ buffer (all_met (write_buffer_list setup past buffer offset size) met).0 in let some = count_le past in omega (arith, lt, some, early)))
    by_rule true b met = tt
    by_rule false false met = tt
called_within setup past (WriteTexture texture spot layout size data_size) most run early = by_rule (is_lost past) (is_none (write_texture_rule setup past texture spot layout size data_size)) refl
  where
    by_rule : (lost b : Bool) → is_none (write_texture_rule setup past texture spot layout size data_size) ≡ b
        → Each (Within most) (write_groups (if not lost && b then Queued (issued past + 1) else Plain) (TextureWrite texture (texture_or_none_at past texture.number) spot layout size))
    by_rule false true met =
        group_each (Within most) (if has_no_texel size then None else Some (write_texture_step (Op (issued past + 1)) texture.number (texture_or_none_at past texture.number) spot size))
        (texture_within most (issued past + 1) texture.number (texture_or_none_at past texture.number) spot size (let some = issued_le past in omega (arith, some, early))
        (let lt = own_below setup past _ texture (all_met (write_texture_list setup past texture spot layout size data_size) met).0 in let some = count_le past in omega (arith, lt, some, early)))
    by_rule true b met = tt
    by_rule false false met = tt
called_within setup past _ most run early = tt

entry_within : (setup : Setup) (entry : Entry) (older : Past) (most : ℕ) → IsRun setup (entry ∷ older) → length older < most → Each (Within most) (groups_of setup older entry)
entry_within setup entry older most run early =
    both_each (Within most) (groups_in older entry.reply.answer (queue_call (known_textures older) entry.event)) (host_groups setup older entry)
    (subst (λ (reply : Reply). Each (Within most) (groups_in older reply.answer (queue_call (known_textures older) entry.event))) (sym (newest setup entry older run)) (called_within setup older entry.event most (others setup entry older run) early))
    (hosts_within setup entry older most run early)

-- what is released
freed_within : (setup : Setup) (past : Past) (n most : ℕ) → n ≤ most → EachRow (λ (object : ℕ × Sort). object.0 < most) (freed_below setup past n)
freed_within setup past zero most le = tt
freed_within setup past (suc n) most le =
    each_append (λ (object : ℕ × Sort). object.0 < most) (freed_below setup past n) (freed_at setup past n) (freed_within setup past n most (omega (arith, le))) (by_freed (is_freed setup past n) (resource_at past n))
  where
    by_freed : (b : Bool) (o : Option Sort) → EachRow (λ (object : ℕ × Sort). object.0 < most) (if b then option_to_list (option_map (λ (sort : Sort). (n, sort)) o) else [])
    by_freed true None = tt
    by_freed true (Some sort) = (omega (arith, le), tt)
    by_freed false o = tt

past_within : (setup : Setup) (past : Past) (most : ℕ) → IsRun setup past → length past ≤ most → EachRow (IsSaidItem (within most)) (trace_after setup past)
past_within setup [] most run few = tt
past_within setup (entry ∷ older) most run few =
    work_added (within most) (within_closed most) (trace_after setup older) (work_of setup entry older) (past_within setup older most (others setup entry older run) (omega (arith, few)))
    (entry_within setup entry older most run (omega (arith, few)))
    (freed_within setup (entry ∷ older) (count (entry ∷ older)) most (let some = count_le (entry ∷ older) in omega (arith, some, few)))

pub numbers_are_within : NumbersAreWithin
numbers_are_within setup history run = past_within setup (reverse history) (length history) run (let same = length-reverse history in omega (arith, same))
