-- The ranges of the steps of a run are small where those of its recordings are.
use Rattle.std.specs.Prelude.{reverse, nat_lt, nat_le}
use Rattle.std.specs.List.{flat_map}
use Rattle.std.specs.Option.{option_map_or}
use Rattle.std.proofs.Common.{◌≡◌, ℕ, ◌+◌, ◌-◌, ◌<◌, ◌≤◌, ◌==◌, not, ◌&&◌, List, [], ◌∷◌, map, length, Bool, true, false, Option, Some, None, is_none, option_and_then, unwrap_or, refl, sym, subst, arith, if◌then◌else◌}
use Rattle.std.proofs.lemmas.List.{reverse-append}
use Rattle.std.proofs.lemmas.Bool.{and_parts, and_from, eqb-true, ltb-true, leb-true, le-leb, lt-ltb}
use Rattle.wg_types.specs.declared.handles.ObjRef.{ObjRef}
use Rattle.wg_types.specs.declared.handles.Info.{Info}
use Rattle.wg_types.specs.declared.handles.Info.TheVariants.{Texture}
use Rattle.wg_types.specs.declared.limits.Limits.{Limits}
use Rattle.wg_types.specs.declared.mappings.Mapping.{Mapping}
use Rattle.wg_types.specs.declared.mappings.MapMode.{MapMode}
use Rattle.wg_types.specs.declared.mappings.MapMode.TheVariants.{Read as ReadMode, Write as WriteMode}
use Rattle.wg_trace.specs.declared.replies.Reply.{Reply}
use Rattle.wg_trace.specs.declared.replies.Settlement.{Settlement}
use Rattle.wg_trace.specs.declared.steps.Deed.{Deed}
use Rattle.wg_types.specs.declared.writes.QueueWrite.TheVariants.{Buffer as BufferWrite, Texture as TextureWrite}
use Rattle.wg_trace.specs.declared.steps.StepName.TheVariants as name
use Rattle.wg_trace.specs.declared.steps.StepPlace.TheVariants.{Op, Host}
use Rattle.wg_types.specs.declared.textures.TextureSpot.{TextureSpot}
use Rattle.wg_trace.specs.declared.parts.AccessKind.{AccessKind}
use Rattle.wg_trace.specs.declared.usages.Usages.{Usages}
use Rattle.wg_limits.specs.declared.names.LimitName.TheVariants.{MaxBufferSize}
use Rattle.wg_rows.specs.Rows.{EachRow, in_range, list_eq}
use Rattle.wg_rows.specs.Runs.{Buffer, QuerySet, Subresource, PartRun, BufferPart, LayerParts, QueryPart, Cells, part_line, covers_part}
use Rattle.wg_rows.proofs.Runs.{tags_differ}
use Rattle.wg_orders.specs.Steps.{Step, StepPlace}
use Rattle.wg_orders.specs.Trace.{steps_in}
use Rattle.wg_model.specs.Rules.{AreMet}
use Rattle.wg_model.specs.Commands.{no_buffer}
use Rattle.wg_model.specs.Making.{known_texture}
use Rattle.wg_model.specs.Subresources.{copied_cells, has_no_texel}
use Rattle.wg_model.specs.TexelCopies.{spot_fits}
use Rattle.wg_model.specs.Touches.{placed, touching, copy_dst_usage, target_kind, copied_to, range_touches}
use Rattle.wg_model.specs.Recorded.{write_buffer_step, write_texture_step, host_name, host_touches, host_step}
use Rattle.wg_model.proofs.Unmet.{all_met}
use Rattle.wg_model.proofs.StepLaws.{each_joined}
use Rattle.wg_readback.specs.Shapes.{HasPart}
use Rattle.wg_readtrace.specs.Forms.{most_32, most_53}
use Rattle.wg_history.specs.declared.events.Setup.{Setup}
use Rattle.wg_history.specs.declared.events.Event.{Event}
use Rattle.wg_history.specs.declared.events.Event.TheVariants.{Submit, WriteBuffer, WriteTexture}
use Rattle.wg_history.specs.Entries.{deeds_by, effects_of, queue_call, Entry, Past}
use Rattle.wg_history.specs.Objects.{is_making, count, maker, info_at, is_valid, is_made_valid, buffer_at, known_textures, texture_or_none_at}
use Rattle.wg_history.specs.Operations.{issued}
use Rattle.wg_history.specs.Loss.{is_lost, Awaited, mapping, work, Wait}
use Rattle.wg_history.specs.Rules.{unmap_rule, settles_mapped, waits_of, mapped_at, listed_rules, together_rules, submit_list, submit_rule, write_buffer_list, write_buffer_rule, write_texture_list, write_texture_rule}
use Rattle.wg_history.specs.Answers.{Queued, Plain, reply_to, IsRun}
use Rattle.wg_history.specs.Steps.{group_of, write_groups, steps_at, submit_groups, groups_in, written_back, read_back, unmap_groups, read_groups, host_groups, groups_of, steps_back}
use Rattle.wg_history.proofs.Runs.{newest, others}
use Rattle.wg_history.proofs.Tests.{met_before}
use Rattle.wg_shaped.proofs.Groups.{If, Each, group_each, both_each, listed_each}
use Rattle.wg_small.specs.Small.{IsSmallRange, HasSmallRanges}
use Rattle.wg_limits.specs.Limits.{AreNoBetter}
use Rattle.wg_small.specs.Limits.{IsMappedWithin, RecordsSmallRanges, RangesOfRecordings, ReadsBackByRecordings}
use Rattle.wg_small.proofs.Doings.{OfParts, IsTold, TouchHas, doing_has}
use Rattle.wg_small.proofs.Objects.{line_same}
use Rattle.wg_small.proofs.Ranges.{ranges, ranges_closed}
use Rattle.wg_small.proofs.Limited.{valid_within}
use Rattle.wg_small.proofs.Mapped.{buffer_size, IsKeptWithin, kept_within, past_mapped}
use Rattle.wg_small.proofs.Reading.{reads_back_by_ranges}
use Rattle.wg_small.proofs.Copied.{CellsAreSmall, copied_small}

-- Ranges of parts are told by the parts.
layer_small : (layer hi : ℕ) → layer < hi → hi ≤ most_32 → layer + 1 ≤ most_32
layer_small layer hi before most = omega (arith, before, most)

part_small : (run : PartRun) → IsSmallRange run → OfParts IsSmallRange run
unfolding covers_part
part_small (LayerParts object aspect mip lo hi) h (Subresource other of level layer) e =
    let parts = and_parts _ _ e in
    let same : mip ≡ level = eqb-true mip level (and_parts _ _ (and_parts _ _ (and_parts _ _ parts.0).1).1).0 in
    (subst (λ (n : ℕ). n ≤ most_32) same h.0, layer_small layer hi (ltb-true layer hi (and_parts _ _ parts.1).1) h.1)
part_small (LayerParts object aspect mip lo hi) h (Buffer other) e = tt
part_small (LayerParts object aspect mip lo hi) h (QuerySet other) e = tt
part_small (BufferPart object) h (Subresource other of level layer) e = absurd (tags_differ _ _ e)
part_small (BufferPart object) h (Buffer other) e = tt
part_small (BufferPart object) h (QuerySet other) e = tt
part_small (QueryPart object) h (Subresource other of level layer) e = absurd (tags_differ _ _ e)
part_small (QueryPart object) h (Buffer other) e = tt
part_small (QueryPart object) h (QuerySet other) e = tt

whole_small : (run : PartRun) → HasPart run → OfParts IsSmallRange run → IsSmallRange run
unfolding covers_part
whole_small (BufferPart object) full h = tt
whole_small (QueryPart object) full h = tt
whole_small (LayerParts object aspect mip lo hi) full h =
    let last = h (Subresource object aspect mip (hi - 1)) (and_from (list_eq (part_line (LayerParts object aspect mip lo hi)) (part_line (LayerParts object aspect mip lo hi))) (in_range lo hi (hi - 1)) (line_same (part_line (LayerParts object aspect mip lo hi)))
    (and_from (nat_le lo (hi - 1)) (nat_lt (hi - 1) hi) (le-leb lo (hi - 1) (omega (arith, full))) (lt-ltb (hi - 1) hi (omega (arith, full))))) in
    (last.0, let end = last.1 in omega (arith, full, end))

pub ranges_told : IsTold IsSmallRange
ranges_told = record { each = part_small; whole = whole_small }

-- the steps of writes and of host accesses
abbrev Small : Step → Type 0
Small = HasSmallRanges

size_small : (limits : Limits) → AreNoBetter limits → limits.max_buffer_size ≤ most_53
size_small limits best = let most : limits.max_buffer_size ≤ 4294967296 = leb-true limits.max_buffer_size 4294967296 (best MaxBufferSize) in omega (arith, most)

one_host : (place : StepPlace) (buffer : ℕ) (m : Mapping) → m.hi ≤ most_53 → If Small (host_step place buffer m)
one_host place buffer m h = by_size (m.lo == m.hi)
  where
    by_size : (b : Bool) → If Small (if b then None else Some (touching place (host_name m.mode) (host_touches buffer m)))
    by_size true = tt
    by_size false = doing_has ranges ranges_closed ranges_told place (host_name m.mode, host_touches buffer m) tt ((tt, λ e. h), tt)

written_small : (mode : MapMode) (place : StepPlace) (buffer : ℕ) (m : Mapping) → m.hi ≤ most_53 → If Small (written_back mode place buffer m)
written_small WriteMode place buffer m h = one_host place buffer m h
written_small ReadMode place buffer m h = tt

read_small : (mode : MapMode) (place : StepPlace) (buffer : ℕ) (m : Mapping) → m.hi ≤ most_53 → If Small (read_back mode place buffer m)
read_small ReadMode place buffer m h = one_host place buffer m h
read_small WriteMode place buffer m h = tt

unmap_small : (setup : Setup) (past : Past) (o : Option ObjRef) → IsRun setup past → AreNoBetter setup.limits → Each Small (unmap_groups setup past o)
unmap_small setup past None run best = tt
unmap_small setup past (Some buffer) run best = by_rule (is_none (unmap_rule setup past buffer))
  where
    by_mapping : (o : Option Mapping) → IsMappedWithin setup.limits o → Each Small (group_of (option_and_then (λ m. written_back m.mode (Host (length past)) buffer.number m) o))
    by_mapping None h = tt
    by_mapping (Some m) h =
        group_each Small (written_back m.mode (Host (length past)) buffer.number m) (written_small m.mode (Host (length past)) buffer.number m (let most = size_small setup.limits best in omega (arith, h, most)))

    by_rule : (b : Bool) → Each Small (if b then group_of (option_and_then (λ m. written_back m.mode (Host (length past)) buffer.number m) (mapped_at setup past buffer.number)) else [])
    by_rule true = by_mapping (mapped_at setup past buffer.number) (past_mapped setup past buffer.number run)
    by_rule false = tt

reads_small : (limits : Limits) (at : ℕ) (settled : List Settlement) (waits : List Wait) → AreNoBetter limits → EachRow (IsKeptWithin limits settled) waits → Each Small (flat_map (λ (wait : Wait). read_groups at settled wait.promise wait.awaited) waits)
reads_small limits at settled [] best kept = tt
reads_small limits at settled (wait ∷ waits) best kept =
    both_each Small (read_groups at settled wait.promise wait.awaited) (flat_map (λ (w : Wait). read_groups at settled w.promise w.awaited) waits)
    (by_awaited wait.promise wait.awaited kept.0) (reads_small limits at settled waits best kept.1)
  where
    by_test : (buffer : ℕ) (m : Mapping) (b : Bool) → (b ≡ true → m.hi ≤ limits.max_buffer_size) → Each Small (if b then group_of (read_back m.mode (Host at) buffer m) else [])
    by_test buffer m true h = group_each Small (read_back m.mode (Host at) buffer m) (read_small m.mode (Host at) buffer m (let within = h refl in let most = size_small limits best in omega (arith, within, most)))
    by_test buffer m false h = tt

    by_awaited : (promise : ℕ) (awaited : Awaited) → IsKeptWithin limits settled (record { promise = promise; awaited = awaited }) → Each Small (read_groups at settled promise awaited)
    by_awaited promise (work ops) h = tt
    by_awaited promise (mapping buffer last m) h = by_test buffer m (settles_mapped settled promise) h

-- writes
none_below : (n : ℕ) → n < 0 → ⊥
none_below n e = omega (arith, e)

texture_touches : (how : Usages × AccessKind) (cells : List Cells) → EachRow CellsAreSmall cells → EachRow (TouchHas ranges) (map (λ (run : Cells). (run, how)) cells)
texture_touches how [] h = tt
texture_touches how (run ∷ cells) h = ((h.0.0, λ e. h.0.1), texture_touches how cells h.1)

texture_cells_small : (setup : Setup) (past : Past) (n : ℕ) (spot : TextureSpot) (size : List ℕ) → IsRun setup past → AreNoBetter setup.limits → is_valid past n ≡ true → spot_fits (texture_or_none_at past n) spot size ≡ true
    → EachRow CellsAreSmall (copied_cells n (texture_or_none_at past n) spot size)
unfolding spot_fits
texture_cells_small setup past n spot size run best valid fits = by_info (info_at past n) refl fits
  where
    none_fits : spot_fits (known_texture None) spot size ≡ true → ⊥
    none_fits e = let early : spot.mip < 0 = ltb-true spot.mip 0 (and_parts _ _ (and_parts _ _ e).0).0 in none_below spot.mip early

    by_info : (o : Option Info) → info_at past n ≡ o → spot_fits (known_texture o) spot size ≡ true → EachRow CellsAreSmall (copied_cells n (known_texture o) spot size)
    by_info None e fits = absurd (none_fits fits)
    by_info (Some (Texture info)) e fits = let within = valid_within setup past n (Texture info) run valid e in copied_small setup.limits n info spot size best within.0 within.1 fits
    by_info (Some _) e fits = absurd (none_fits fits)

listed_small : (setup : Setup) (past : Past) (op : ℕ) (buffers : List ObjRef) → ((n : ℕ) → is_valid past n ≡ true → EachRow Small (steps_at (Op op) past n)) → AreMet (listed_rules setup past buffers)
    → EachRow (λ (buffer : ObjRef). EachRow Small (steps_at (Op op) past buffer.number)) buffers
listed_small setup past op [] valid met = tt
listed_small setup past op (buffer ∷ buffers) valid met = (valid buffer.number met.1.1.0, listed_small setup past op buffers valid met.1.1.1)

called_small : (setup : Setup) (past : Past) (event : Event) → IsRun setup past → AreNoBetter setup.limits → ((op n : ℕ) → is_valid past n ≡ true → EachRow Small (steps_at (Op op) past n))
    → Each Small (groups_in past (reply_to setup past event).answer (queue_call (known_textures past) event))
unfolding write_groups submit_groups submit_rule write_buffer_rule write_texture_rule
called_small setup past (Submit buffers) run best valid = by_rule (is_lost past) (is_none (submit_rule setup past buffers)) refl
  where
    by_rule : (lost b : Bool) → is_none (submit_rule setup past buffers) ≡ b → Each Small (submit_groups past (if not lost && b then Queued (issued past + 1) else Plain) buffers)
    by_rule false true met =
        listed_each Small past (issued past + 1) buffers
        (listed_small setup past (issued past + 1) buffers (valid (issued past + 1)) (met_before (listed_rules setup past buffers) (together_rules setup past buffers) (all_met (submit_list setup past buffers) met)))
    by_rule true b met = tt
    by_rule false false met = tt
called_small setup past (WriteBuffer buffer offset size) run best valid = by_rule (is_lost past) (is_none (write_buffer_rule setup past buffer offset size)) refl
  where
    by_size : (b : Bool) → offset + size ≤ most_53 → If Small (if b then None else Some (write_buffer_step (Op (issued past + 1)) buffer.number offset size))
    by_size true h = tt
    by_size false h = doing_has ranges ranges_closed ranges_told (Op (issued past + 1)) (name.WriteBuffer, range_touches buffer.number offset size) tt ((tt, λ e. h), tt)

    fits : is_none (write_buffer_rule setup past buffer offset size) ≡ true → offset + size ≤ most_53
    fits e =
        let met = all_met (write_buffer_list setup past buffer offset size) e in
        let inside : offset + size ≤ (unwrap_or (buffer_at past buffer.number) no_buffer).size = leb-true (offset + size) (unwrap_or (buffer_at past buffer.number) no_buffer).size met.1.1.1.1.1.0 in
        let whole : (unwrap_or (buffer_at past buffer.number) no_buffer).size ≤ setup.limits.max_buffer_size = buffer_size setup past buffer.number run met.1.1.0 in
        let most : setup.limits.max_buffer_size ≤ most_53 = size_small setup.limits best in
        omega (arith, inside, whole, most)

    by_rule : (lost b : Bool) → is_none (write_buffer_rule setup past buffer offset size) ≡ b → Each Small (write_groups (if not lost && b then Queued (issued past + 1) else Plain) (BufferWrite buffer offset size))
    by_rule false true met = group_each Small (if size == 0 then None else Some (write_buffer_step (Op (issued past + 1)) buffer.number offset size)) (by_size (size == 0) (fits met))
    by_rule true b met = tt
    by_rule false false met = tt
called_small setup past (WriteTexture texture spot layout size data_size) run best valid = by_rule (is_lost past) (is_none (write_texture_rule setup past texture spot layout size data_size)) refl
  where
    by_size : (b : Bool) → EachRow CellsAreSmall (copied_cells texture.number (texture_or_none_at past texture.number) spot size)
        → If Small (if b then None else Some (write_texture_step (Op (issued past + 1)) texture.number (texture_or_none_at past texture.number) spot size))
    by_size true h = tt
    by_size false h =
        doing_has ranges ranges_closed ranges_told (Op (issued past + 1)) (name.WriteTexture, copied_to texture.number (texture_or_none_at past texture.number) spot size) tt
        (texture_touches (copy_dst_usage, target_kind (texture_or_none_at past texture.number) spot size) (copied_cells texture.number (texture_or_none_at past texture.number) spot size) h)

    by_rule : (lost b : Bool) → is_none (write_texture_rule setup past texture spot layout size data_size) ≡ b
        → Each Small (write_groups (if not lost && b then Queued (issued past + 1) else Plain) (TextureWrite texture (texture_or_none_at past texture.number) spot layout size))
    by_rule false true e =
        let met = all_met (write_texture_list setup past texture spot layout size data_size) e in
        group_each Small (if has_no_texel size then None else Some (write_texture_step (Op (issued past + 1)) texture.number (texture_or_none_at past texture.number) spot size))
        (by_size (has_no_texel size) (texture_cells_small setup past texture.number spot size run best met.1.1.0 met.1.1.1.1.1.0))
    by_rule true b met = tt
    by_rule false false met = tt
called_small setup past _ run best valid = tt

-- recordings, at whatever place their steps are
replaced : (place : StepPlace) (deeds : List Deed) → EachRow Small (map (placed (Op 0)) deeds) → EachRow Small (map (placed place) deeds)
replaced place [] h = tt
replaced place (deed ∷ deeds) h = (record { stands = tt; uses = h.0.uses; accesses = h.0.accesses }, replaced place deeds h.1)

valid_small : (past : Past) (place : StepPlace) (n : ℕ) → EachRow RecordsSmallRanges past → is_valid past n ≡ true → EachRow Small (steps_at place past n)
valid_small [] place n each valid = tt
valid_small (entry ∷ older) place n each valid = by_maker (is_making entry.event && count older == n) valid (valid_small older place n each.1)
  where
    by_maker : (b : Bool) → option_map_or (λ entry. is_made_valid entry.reply.answer) (if b then Some entry else maker older n) false ≡ true
        → (is_valid older n ≡ true → EachRow Small (map (placed place) (option_map_or (λ entry. deeds_by entry.event) (maker older n) [])))
        → EachRow Small (map (placed place) (option_map_or (λ entry. deeds_by entry.event) (if b then Some entry else maker older n) []))
    by_maker true valid rest = replaced place (deeds_by entry.event) (each.0 valid)
    by_maker false valid rest = rest valid

-- all steps
entry_small : (setup : Setup) (entry : Entry) (older : Past) → IsRun setup (entry ∷ older) → AreNoBetter setup.limits → EachRow RecordsSmallRanges older → Each Small (groups_of setup older entry)
entry_small setup entry older run best each =
    both_each Small (groups_in older entry.reply.answer (queue_call (known_textures older) entry.event)) (host_groups setup older entry)
    (subst (λ (reply : Reply). Each Small (groups_in older reply.answer (queue_call (known_textures older) entry.event))) (sym (newest setup entry older run))
    (called_small setup older entry.event (others setup entry older run) best (λ op n valid. valid_small older (Op op) n each valid)))
    (both_each Small (unmap_groups setup older (effects_of entry.event).unmapped) (flat_map (λ (wait : Wait). read_groups (length older) entry.reply.settled wait.promise wait.awaited) (waits_of entry older))
    (unmap_small setup older (effects_of entry.event).unmapped (others setup entry older run) best)
    (reads_small setup.limits (length older) entry.reply.settled (waits_of entry older) best (kept_within setup entry older run)))

past_small : (setup : Setup) (past : Past) → IsRun setup past → AreNoBetter setup.limits → EachRow RecordsSmallRanges past → EachRow Small (steps_back setup past)
past_small setup [] run best each = tt
past_small setup (entry ∷ older) run best each =
    each_joined Small (steps_back setup older) (steps_in (groups_of setup older entry)) (past_small setup older (others setup entry older run) best each.1) (entry_small setup entry older run best each.1)

each_reverse : (history : List Entry) → EachRow RecordsSmallRanges history → EachRow RecordsSmallRanges (reverse history)
each_reverse [] h = tt
each_reverse (entry ∷ history) h =
    subst (EachRow RecordsSmallRanges) (sym (reverse-append (entry ∷ []) history)) (each_joined RecordsSmallRanges (reverse history) (entry ∷ []) (each_reverse history h.1) (h.0, tt))

pub ranges_of_recordings : RangesOfRecordings
ranges_of_recordings setup history run best each = past_small setup (reverse history) run best (each_reverse history each)

pub reads_back_by_recordings : ReadsBackByRecordings
reads_back_by_recordings setup history run best few each steps = reads_back_by_ranges setup history run few (ranges_of_recordings setup history run best each) steps
