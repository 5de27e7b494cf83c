-- The first unmet rule of an event that names objects (WebGPU, "Finalization", "submit", "Buffer Destruction", "Texture
-- Destruction", "Query Set Destruction" and "Internal Objects").
use Rattle.std.specs.Prelude.{ℕ, Bool, true, false, not, ◌&&◌, ◌||◌, ◌==◌, nat_lt, List, [], ◌∷◌, ◌++◌, Option, Some, None, is_none, is_some, option_and_then, unwrap_or, if◌then◌else◌}
use Rattle.std.specs.List.{list_any}
use Rattle.std.specs.Option.{option_map_or, option_or}
use Rattle.wg_rules.specs.declared.TheConstants.{OBJECT_IS_OF_DEVICE, OBJECT_IS_NOT_DROPPED, OBJECT_IS_VALID, ENCODER_HAS_NOT_ENDED, EVERY_PASS_HAS_ENDED, EVERY_DEBUG_GROUP_OF_ENCODER_IS_CLOSED, USAGE_SCOPES_ARE_COMPATIBLE, COMMAND_BUFFERS_ARE_NOT_CONSUMED, COMMAND_BUFFERS_ARE_DISTINCT, SUBMITTED_BUFFERS_ARE_NOT_BUSY, SUBMITTED_OBJECTS_ARE_NOT_DESTROYED, WRITTEN_BUFFER_IS_NOT_BUSY, WRITTEN_TEXTURE_IS_NOT_DESTROYED, MAPPED_BUFFER_IS_NOT_BUSY}
use Rattle.wg_types.specs.Handles.{HandleValue}
use Rattle.wg_types.specs.declared.textures.ViewDesc.{ViewDesc}
use Rattle.wg_types.specs.declared.textures.TextureSpot.{TextureSpot}
use Rattle.wg_types.specs.declared.textures.DataLayout.{DataLayout}
use Rattle.wg_types.specs.declared.commands.On.{On}
use Rattle.wg_types.specs.Commands.{Command}
use Rattle.wg_types.specs.declared.wanted.Wanted.{Wanted}
use Rattle.wg_model.specs.Rules.{Rule, first_unmet}
use Rattle.wg_model.specs.Buffers.{write_buffer_rules, map_rules}
use Rattle.wg_model.specs.Textures.{create_view_rules}
use Rattle.wg_model.specs.TexelCopies.{write_texture_rules}
use Rattle.wg_model.specs.Commands.{named, no_buffer}
use Rattle.wg_model.specs.Scopes.{first_clash}
use Rattle.wg_model.specs.Walk.{Verdict, ScopesOf, open_depth}
use Rattle.wg_model.specs.Recorded.{buffers_of, textures_of, query_sets_of, any_named}
use Rattle.wg_encoder.specs.Recorders.{RecordingValue, has_open_pass}
use Rattle.wg_history.specs.Entries.{Setup, Event, effects_of, submitted, Entry, Past}
use Rattle.wg_history.specs.Objects.{ObjRef, BufferInfo, is_making, count, info_made, unknown, is_made_valid, is_own, is_valid, info_at, is_any, is_buffer, is_texture_info, is_encoder, is_bundle_encoder, takes_commands, is_command_buffer, has_memory, as_buffer, buffer_at, texture_or_none_at, commands_at}
use Rattle.wg_types.specs.declared.handles.Info.{Info}
use Rattle.wg_types.specs.declared.mappings.Mapping.{Mapping}
use Rattle.wg_types.specs.declared.mappings.MapMode.TheVariants.{Write as WriteMode}
use Rattle.wg_trace.specs.declared.replies.Answer.{Answer}
use Rattle.wg_trace.specs.declared.replies.Settlement.{Settlement}
use Rattle.wg_trace.specs.declared.replies.How.{How}
use Rattle.wg_trace.specs.declared.replies.How.TheVariants.{Mapped, Done, Aborted, Rejected, Null, Error}
use Rattle.wg_history.specs.Loss.{Awaited, mapping, work, Wait, promised, awaiting, is_pending}
use Rattle.wg_model.specs.Equality.{same_bool}
use Rattle.wg_history.specs.Infos.{same_kind, same_info}

-- drop: 10 the object is one of this device, of any kind, valid or not; 11 it was not dropped before
abbrev pub drop_list : Bool → Setup → Past → ObjRef → List Rule
drop_list dropped setup past object = (OBJECT_IS_OF_DEVICE, is_own setup past is_any object) ∷ ((OBJECT_IS_NOT_DROPPED, not dropped) ∷ [])

-- whether an event that comes after a past drops object n, where that was dropped before or was not
abbrev pub drops : Bool → Setup → Past → Event → ℕ → Bool
drops dropped setup past event n =
    option_map_or (λ object. object.number == n && is_none (first_unmet (drop_list dropped setup past object))) (effects_of event).dropped false

-- How many objects had been made when object n was dropped, if it was: some drop of it met its rules at its place. Objects are
-- numbered as they are made, so those of lower numbers are those that were made before the drop.
abbrev pub dropped_at : Setup → Past → ℕ → Option ℕ
dropped_at setup [] n = None
dropped_at setup (entry ∷ older) n =
    if drops (is_some (dropped_at setup older n)) setup older entry.event n then Some (count older)
    else dropped_at setup older n

-- whether object n was dropped
abbrev pub is_dropped : Setup → Past → ℕ → Bool
is_dropped setup past n = is_some (dropped_at setup past n)

-- the first unmet rule of a drop
unfoldable pub drop_rule : Setup → Past → ObjRef → Option ℕ
drop_rule setup past object = first_unmet (drop_list (is_dropped setup past object.number) setup past object)

-- The rules of createView: 10 the texture is one of this device, 11 it is not dropped, 12 it is valid, then the rules by what
-- the texture is
abbrev pub create_view_list : Setup → Past → ObjRef → ViewDesc → List Rule
create_view_list setup past texture desc =
    (OBJECT_IS_OF_DEVICE, is_own setup past is_texture_info texture)
    ∷ ((OBJECT_IS_NOT_DROPPED, not (is_dropped setup past texture.number))
    ∷ ((OBJECT_IS_VALID, is_valid past texture.number)
    ∷ create_view_rules (texture_or_none_at past texture.number) desc))

-- the first unmet rule of a createView
unfoldable pub create_view_rule : Setup → Past → ObjRef → ViewDesc → Option ℕ
create_view_rule setup past texture desc = first_unmet (create_view_list setup past texture desc)

-- destroy (WebGPU, "Buffer Destruction", "Texture Destruction" and "Query Set Destruction"): 10 the object is a resource of this
-- device, valid or not; 11 it is not dropped
unfoldable pub destroy_rule : Setup → Past → ObjRef → Option ℕ
destroy_rule setup past object =
    first_unmet ((OBJECT_IS_OF_DEVICE, is_own setup past has_memory object)
    ∷ ((OBJECT_IS_NOT_DROPPED, not (is_dropped setup past object.number))
    ∷ []))

-- whether an event that comes after a past destroys object n
abbrev pub destroys : Setup → Past → Event → ℕ → Bool
destroys setup past event n = option_map_or (λ object. object.number == n && is_none (destroy_rule setup past object)) (effects_of event).destroyed false

-- whether object n is destroyed: some destroy of it met its rules at its place
abbrev pub is_destroyed : Setup → Past → ℕ → Bool
is_destroyed setup [] n = false
is_destroyed setup (entry ∷ older) n = destroys setup older entry.event n || is_destroyed setup older n

-- unmap (WebGPU, "unmap"): 10 the buffer is one of this device, valid or not; 11 it is not dropped
unfoldable pub unmap_rule : Setup → Past → ObjRef → Option ℕ
unmap_rule setup past buffer =
    first_unmet ((OBJECT_IS_OF_DEVICE, is_own setup past is_buffer buffer)
    ∷ ((OBJECT_IS_NOT_DROPPED, not (is_dropped setup past buffer.number))
    ∷ []))

-- whether an event that comes after a past unmaps buffer n, as its unmap does that meets its rules, and its destroy
abbrev pub unmaps : Setup → Past → Event → ℕ → Bool
unmaps setup past event n =
    option_map_or (λ buffer. buffer.number == n && is_none (unmap_rule setup past buffer)) (effects_of event).unmapped (destroys setup past event n)

-- a valid creation that is mapped: for writing, the whole range
abbrev pub mapped_whole : Answer → BufferInfo → Option Mapping
mapped_whole answer info = if info.mapped && is_made_valid answer then Some (record { mode = WriteMode; lo = 0; hi = info.size }) else None

-- how a new buffer is mapped: for writing and whole, where it is valid and mapped at creation
abbrev pub mapped_with : Answer → Option Info → Option Mapping
mapped_with answer known = option_and_then (mapped_whole answer) (option_and_then as_buffer known)

-- how the buffer is mapped that an entry makes, if it makes one
abbrev pub mapped_made : Entry → Option Mapping
mapped_made entry = mapped_with entry.reply.answer (info_made unknown entry.event)

-- whether a settlement is that of a map that is mapped
abbrev pub is_mapped_how : How → Bool
is_mapped_how Mapped = true
is_mapped_how Done = false
is_mapped_how Aborted = false
is_mapped_how Rejected = false
is_mapped_how Null = false
is_mapped_how (Error kind rule) = false

-- whether settlements say that a promise is kept by mapping
abbrev pub settles_mapped : List Settlement → ℕ → Bool
settles_mapped settled promise = list_any (λ (s : Settlement). s.promise == promise && is_mapped_how s.how) settled

-- the mapping of buffer n that a promise is for, if settlements keep it
abbrev pub mapped_in : List Settlement → ℕ → ℕ → Awaited → Option Mapping
mapped_in settled n promise (mapping buffer last m) = if buffer == n && settles_mapped settled promise then Some m else None
mapped_in settled n promise (work ops) = None

-- the mapping of buffer n that settlements of these promises make: that of the last
abbrev pub mapped_now : List Settlement → List Wait → ℕ → Option Mapping
mapped_now settled [] n = None
mapped_now settled (wait ∷ waits) n = option_or (mapped_now settled waits n) (mapped_in settled n wait.promise wait.awaited)

-- what waits before an entry or is promised by it
abbrev pub waits_of : Entry → Past → List Wait
waits_of entry older = awaiting older ++ promised older (effects_of entry.event).form

-- how a buffer is mapped, if it is, by which mode and over which range: the last entry says it that made the buffer (for
-- writing and whole, where it was made valid and mapped), that unmapped it, or that settled a map of it as mapped
abbrev pub mapped_at : Setup → Past → ℕ → Option Mapping
mapped_at setup [] n = None
mapped_at setup (entry ∷ older) n =
    if is_making entry.event && count older == n then mapped_made entry
    else if unmaps setup older entry.event n then None
    else option_or (mapped_now entry.reply.settled (waits_of entry older) n) (mapped_at setup older n)

-- whether buffer n is destroyed, or mapped, or a map of it is pending
abbrev pub is_busy : Setup → Past → ℕ → Bool
is_busy setup past n = is_destroyed setup past n || (is_some (mapped_at setup past n) || is_pending past n)

-- The rules of mapAsync: 10 the buffer is one of this device, 11 it is not dropped, 12 it is valid, then the rules by what it
-- is and what is asked, and 225 it is not mapped, pending or destroyed
abbrev pub map_async_list : Setup → Past → ObjRef → ℕ → ℕ → ℕ → List Rule
map_async_list setup past buffer mode offset size =
    (OBJECT_IS_OF_DEVICE, is_own setup past is_buffer buffer)
    ∷ ((OBJECT_IS_NOT_DROPPED, not (is_dropped setup past buffer.number))
    ∷ ((OBJECT_IS_VALID, is_valid past buffer.number)
    ∷ (map_rules (unwrap_or (buffer_at past buffer.number) no_buffer) mode offset size
    ++ (MAPPED_BUFFER_IS_NOT_BUSY, not (is_busy setup past buffer.number)) ∷ [])))

-- the first unmet rule of a mapAsync
unfoldable pub map_async_rule : Setup → Past → ObjRef → ℕ → ℕ → ℕ → Option ℕ
map_async_rule setup past buffer mode offset size = first_unmet (map_async_list setup past buffer mode offset size)

-- The rules of writeBuffer: 10 the target is a buffer of this device, 11 it is not dropped, 12 it is valid, then the rules by
-- its size and usage, and 203 it is not mapped, pending or destroyed
abbrev pub write_buffer_list : Setup → Past → ObjRef → ℕ → ℕ → List Rule
write_buffer_list setup past buffer offset size =
    (OBJECT_IS_OF_DEVICE, is_own setup past is_buffer buffer)
    ∷ ((OBJECT_IS_NOT_DROPPED, not (is_dropped setup past buffer.number))
    ∷ ((OBJECT_IS_VALID, is_valid past buffer.number)
    ∷ (write_buffer_rules (unwrap_or (buffer_at past buffer.number) no_buffer) offset size
    ++ (WRITTEN_BUFFER_IS_NOT_BUSY, not (is_busy setup past buffer.number)) ∷ [])))

-- the first unmet rule of a writeBuffer
unfoldable pub write_buffer_rule : Setup → Past → ObjRef → ℕ → ℕ → Option ℕ
write_buffer_rule setup past buffer offset size = first_unmet (write_buffer_list setup past buffer offset size)

-- The rules of writeTexture: 10 the target is a texture of this device, 11 it is not dropped, 12 it is valid, then the rules
-- by what it is, and 210 it is not destroyed
abbrev pub write_texture_list : Setup → Past → ObjRef → TextureSpot → DataLayout → List ℕ → ℕ → List Rule
write_texture_list setup past texture spot layout size data_size =
    (OBJECT_IS_OF_DEVICE, is_own setup past is_texture_info texture)
    ∷ ((OBJECT_IS_NOT_DROPPED, not (is_dropped setup past texture.number))
    ∷ ((OBJECT_IS_VALID, is_valid past texture.number)
    ∷ (write_texture_rules (texture_or_none_at past texture.number) spot layout size data_size
    ++ (WRITTEN_TEXTURE_IS_NOT_DESTROYED, not (is_destroyed setup past texture.number)) ∷ [])))

-- the first unmet rule of a writeTexture
unfoldable pub write_texture_rule : Setup → Past → ObjRef → TextureSpot → DataLayout → List ℕ → ℕ → Option ℕ
write_texture_rule setup past texture spot layout size data_size = first_unmet (write_texture_list setup past texture spot layout size data_size)

-- A handle is genuine where its object was made by this device, and the handle is as that is: of its kind, valid exactly
-- where it is, and for a valid one with what is known of it.
abbrev pub is_genuine : Setup → Past → HandleValue → Bool
is_genuine setup past handle =
    is_own setup past (same_kind handle.info) handle.reference
    && same_bool handle.valid (is_valid past handle.reference.number)
    && (not handle.valid || option_map_or (same_info handle.info) (info_at past handle.reference.number) false)

-- whether commands of an encoder may name object n: it was not dropped before the encoder was made
abbrev pub may_name : Setup → Past → ℕ → ℕ → Bool
may_name setup past encoder n = option_map_or (nat_lt encoder) (dropped_at setup past n) true

-- whether a handle that a recorded command of an encoder names is not genuine, or its object was dropped before the encoder
-- was made; what a group binds, of what a view is, or of what a pipeline is made, is not asked
abbrev pub is_barred : Setup → Past → ℕ → HandleValue × Wanted → Bool
is_barred setup past encoder object = not (is_genuine setup past object.0 && may_name setup past encoder object.0.reference.number)

-- whether some handle that recorded commands of an encoder name is barred
abbrev pub any_barred : Setup → Past → ℕ → List (On × Command) → Bool
any_barred setup past encoder commands = list_any (λ kept. list_any (is_barred setup past encoder) (named kept.1)) commands

-- whether an event that comes after a past ends the encoder or bundle encoder n: a finish or a finishBundle of it does, whether or
-- not it is accepted. One that names a number which no encoder of either kind of this device has ends nothing, also if one gets that
-- number later.
abbrev pub ends_encoder : Setup → Past → Event → ℕ → Bool
ends_encoder setup past event n = option_map_or (λ encoder. encoder.number == n && is_own setup past takes_commands encoder) (effects_of event).ended false

-- whether a finish or finishBundle named the encoder n of this device, accepted or not
abbrev pub has_finished : Setup → Past → ℕ → Bool
has_finished setup [] n = false
has_finished setup (entry ∷ older) n = ends_encoder setup older entry.event n || has_finished setup older n

-- The rules of finish and finishBundle that go before those of the commands (WebGPU, "finish"): 10 the encoder is one of this device, of
-- the kind that the call ends; 11 it is not dropped; 12 it is valid; 180 it has not ended.
abbrev pub encoder_rules : Setup → Past → (Info → Bool) → ObjRef → List Rule
encoder_rules setup past kind encoder =
    (OBJECT_IS_OF_DEVICE, is_own setup past kind encoder)
    ∷ ((OBJECT_IS_NOT_DROPPED, not (is_dropped setup past encoder.number))
    ∷ ((OBJECT_IS_VALID, is_valid past encoder.number)
    ∷ ((ENCODER_HAS_NOT_ENDED, not (has_finished setup past encoder.number))
    ∷ [])))

-- the rules of a recording that is ended: 183 no debug group of the encoder is open; 11 each handle that a command names is
-- genuine, and its object was not dropped before the encoder was made; 184 every usage scope is compatible
abbrev pub kept_rules : Setup → Past → ℕ → RecordingValue → List Rule
kept_rules setup past encoder recording =
    (EVERY_DEBUG_GROUP_OF_ENCODER_IS_CLOSED, open_depth recording.targets recording.commands == 0)
    ∷ ((OBJECT_IS_NOT_DROPPED, not (any_barred setup past encoder recording.commands))
    ∷ ((USAGE_SCOPES_ARE_COMPATIBLE, is_none (first_clash (ScopesOf recording.maker recording.targets recording.commands)))
    ∷ []))

-- the rules of the recording of a finish: 182 no pass is open, and then those of any recording that is ended
abbrev pub recording_rules : Setup → Past → ℕ → RecordingValue → List Rule
recording_rules setup past encoder recording =
    (EVERY_PASS_HAS_ENDED, not (has_open_pass recording.targets recording.commands)) ∷ kept_rules setup past encoder recording

-- the first unmet rule of a finish (WebGPU, "Finalization"): those of the encoder, 10, 11, 12 and 180 that it has not ended,
-- then the rule that invalidated it first, then those of the recording
unfoldable pub finish_rule : Setup → Past → ObjRef → RecordingValue → Option ℕ
finish_rule setup past encoder recording =
    option_or (first_unmet (encoder_rules setup past is_encoder encoder))
    (option_or (Verdict recording.maker recording.targets recording.commands)
    (first_unmet (recording_rules setup past encoder.number recording)))

-- the first unmet rule of a finishBundle (WebGPU, "finish" of "GPURenderBundleEncoder"): those of the bundle encoder, then the
-- rule that invalidated it first, then those of the recording, of which 182 is none, since it has no passes
unfoldable pub finish_bundle_rule : Setup → Past → ObjRef → RecordingValue → Option ℕ
finish_bundle_rule setup past encoder recording =
    option_or (first_unmet (encoder_rules setup past is_bundle_encoder encoder))
    (option_or (Verdict recording.maker recording.targets recording.commands)
    (first_unmet (kept_rules setup past encoder.number recording)))

-- whether an event that comes after a past consumes the command buffer n: a submit that lists it does, whether or not it is
-- accepted
abbrev pub consumes : Setup → Past → Event → ℕ → Bool
consumes setup past event n = list_any (λ buffer. buffer.number == n && is_own setup past is_command_buffer buffer) (submitted event)

-- whether a submit listed the command buffer n of this device, accepted or not
abbrev pub is_consumed : Setup → Past → ℕ → Bool
is_consumed setup [] n = false
is_consumed setup (entry ∷ older) n = consumes setup older entry.event n || is_consumed setup older n

-- whether a list names no object twice
abbrev pub are_distinct : List ObjRef → Bool
are_distinct [] = true
are_distinct (buffer ∷ buffers) = not (list_any (λ other. other.number == buffer.number) buffers) && are_distinct buffers

-- The rules of submit on one command buffer after another (WebGPU, "submit"): 10 it is one of this device; 11 it is not
-- dropped; 12 it is valid.
abbrev pub listed_rules : Setup → Past → List ObjRef → List Rule
listed_rules setup past [] = []
listed_rules setup past (buffer ∷ buffers) =
    (OBJECT_IS_OF_DEVICE, is_own setup past is_command_buffer buffer)
    ∷ ((OBJECT_IS_NOT_DROPPED, not (is_dropped setup past buffer.number))
    ∷ ((OBJECT_IS_VALID, is_valid past buffer.number)
    ∷ listed_rules setup past buffers))

-- whether one of the objects that the commands of these command buffers name passes the test
abbrev pub any_used : (Command → List ℕ) → (ℕ → Bool) → Past → List ObjRef → Bool
any_used names test past buffers = list_any (λ buffer. any_named names test (commands_at past buffer.number)) buffers

-- the rules of a submit on all of its command buffers: 190 none was consumed; 191 none is named twice; 192 no buffer that they
-- use is mapped, pending or destroyed; 193 no texture or query set that they use is destroyed
abbrev pub together_rules : Setup → Past → List ObjRef → List Rule
together_rules setup past buffers =
    (COMMAND_BUFFERS_ARE_NOT_CONSUMED, not (list_any (λ buffer. is_consumed setup past buffer.number) buffers))
    ∷ ((COMMAND_BUFFERS_ARE_DISTINCT, are_distinct buffers)
    ∷ ((SUBMITTED_BUFFERS_ARE_NOT_BUSY, not (any_used buffers_of (is_busy setup past) past buffers))
    ∷ ((
      SUBMITTED_OBJECTS_ARE_NOT_DESTROYED,
      not (any_used textures_of (is_destroyed setup past) past buffers
          || any_used query_sets_of (is_destroyed setup past) past buffers),
    )
    ∷ [])))

-- submit
abbrev pub submit_list : Setup → Past → List ObjRef → List Rule
submit_list setup past buffers = listed_rules setup past buffers ++ together_rules setup past buffers

-- the first unmet rule of a submit (WebGPU, "submit"): 10, 11 and 12 of each command buffer in turn, and then those on all
-- together
unfoldable pub submit_rule : Setup → Past → List ObjRef → Option ℕ
submit_rule setup past buffers = first_unmet (submit_list setup past buffers)
