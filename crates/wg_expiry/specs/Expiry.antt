-- The laws of buffers, textures and query sets that are destroyed.
use Rattle.std.specs.Prelude.{◌≡◌, ℕ, Bool, true, false, not, ◌&&◌, nat_le, List, [], ◌∷◌, ◌++◌, reverse, Some, None, is_some, count_by, if◌then◌else◌}
use Rattle.std.specs.List.{list_any}
use Rattle.wg_rules.specs.declared.TheConstants.{OBJECT_IS_OF_DEVICE, OBJECT_IS_NOT_DROPPED, OBJECT_IS_VALID, COMMAND_BUFFERS_ARE_NOT_CONSUMED, COMMAND_BUFFERS_ARE_DISTINCT, SUBMITTED_BUFFERS_ARE_NOT_BUSY, SUBMITTED_OBJECTS_ARE_NOT_DESTROYED, WRITTEN_TEXTURE_IS_NOT_DESTROYED}
use Rattle.wg_types.specs.declared.textures.TextureSpot.{TextureSpot}
use Rattle.wg_types.specs.declared.textures.DataLayout.{DataLayout}
use Rattle.wg_model.specs.Rules.{Rule, first_unmet}
use Rattle.wg_model.specs.Recorded.{buffers_of}
use Rattle.wg_model.specs.TexelCopies.{write_texture_rules}
use Rattle.wg_history.specs.declared.events.Setup.{Setup}
use Rattle.wg_history.specs.declared.events.Event.TheVariants.{Submit, WriteTexture, Destroy}
use Rattle.wg_history.specs.Entries.{Entry, Past}
use Rattle.wg_history.specs.Objects.{ObjRef, is_texture_info, has_memory, texture_or_none_at, is_own, is_valid, resource_at}
use Rattle.wg_history.specs.Operations.{submit_uses, last_use, completed}
use Rattle.wg_history.specs.Rules.{is_dropped, is_destroyed, is_consumed, is_busy, are_distinct, any_used, listed_rules}
use Rattle.wg_history.specs.Loss.{is_lost}
use Rattle.wg_history.specs.Answers.{Plain, fault_of, reply_to, Run}
use Rattle.wg_history.specs.ReleaseLaws.{releases_object}
use Rattle.wg_history.specs.Traces.{Trace}

-- A destroy of a resource of this device that was not dropped destroys it, valid or not, and also where it is destroyed already.
abbrev pub DestroyExpires : Type 0
DestroyExpires = (setup : Setup) (past : Past) (entry : Entry) (object : ObjRef) → entry.event ≡ Destroy object
    → is_own setup past has_memory object ≡ true → is_dropped setup past object.number ≡ false → is_destroyed setup (entry ∷ past) object.number ≡ true

-- What is destroyed stays destroyed.
abbrev pub StaysExpired : Type 0
StaysExpired = (setup : Setup) (newer past : Past) (n : ℕ) → is_destroyed setup past n ≡ true → is_destroyed setup (newer ++ past) n ≡ true

-- the rules of a submit that come before 193
abbrev pub submit_before : Setup → Past → List ObjRef → List Rule
submit_before setup past buffers = listed_rules setup past buffers
    ++ ((COMMAND_BUFFERS_ARE_NOT_CONSUMED, not (list_any (λ (buffer : ObjRef). is_consumed setup past buffer.number) buffers))
    ∷ ((COMMAND_BUFFERS_ARE_DISTINCT, are_distinct buffers)
    ∷ ((SUBMITTED_BUFFERS_ARE_NOT_BUSY, not (any_used buffers_of (is_busy setup past) past buffers))
    ∷ [])))

-- the rules of a writeTexture that come before that of a destroyed texture
abbrev pub write_before : Setup → Past → ObjRef → TextureSpot → DataLayout → List ℕ → ℕ → List Rule
write_before setup past texture spot layout size data_size =
    (OBJECT_IS_OF_DEVICE, is_own setup past is_texture_info texture)
    ∷ ((OBJECT_IS_NOT_DROPPED, not (is_dropped setup past texture.number))
    ∷ ((OBJECT_IS_VALID, is_valid past texture.number)
    ∷ write_texture_rules (texture_or_none_at past texture.number) spot layout size data_size))

-- Once an object is destroyed, a submit of command buffers that use it answers Plain.
abbrev pub SubmitIsPlain : Type 0
SubmitIsPlain = (setup : Setup) (past : Past) (buffers : List ObjRef) (n : ℕ)
    → is_destroyed setup past n ≡ true → submit_uses past buffers n ≡ true → (reply_to setup past (Submit buffers)).answer ≡ Plain

-- A submit of command buffers that use a destroyed object has a fault of rule 193, where the device is not lost and no earlier
-- rule is unmet: a destroyed buffer has rule 192 unmet, a texture or a query set this one.
abbrev pub SubmitIsRefused : Type 0
SubmitIsRefused = (setup : Setup) (past : Past) (buffers : List ObjRef) (n : ℕ)
    → is_destroyed setup past n ≡ true → submit_uses past buffers n ≡ true
    → first_unmet (submit_before setup past buffers) ≡ None → is_lost past ≡ false
    → (reply_to setup past (Submit buffers)).fault ≡ Some (fault_of past SUBMITTED_OBJECTS_ARE_NOT_DESTROYED)

-- A writeTexture of a destroyed texture answers Plain.
abbrev pub WriteIsPlain : Type 0
WriteIsPlain = (setup : Setup) (past : Past) (texture : ObjRef) (spot : TextureSpot) (layout : DataLayout) (size : List ℕ) (data_size : ℕ)
    → is_destroyed setup past texture.number ≡ true
    → (reply_to setup past (WriteTexture texture spot layout size data_size)).answer ≡ Plain

-- A writeTexture of a destroyed texture that meets all earlier rules, on a device that is not lost, has a fault of rule
-- 210.
abbrev pub WriteIsRefused : Type 0
WriteIsRefused = (setup : Setup) (past : Past) (texture : ObjRef) (spot : TextureSpot) (layout : DataLayout) (size : List ℕ) (data_size : ℕ)
    → is_destroyed setup past texture.number ≡ true
    → first_unmet (write_before setup past texture spot layout size data_size) ≡ None → is_lost past ≡ false
    → (reply_to setup past (WriteTexture texture spot layout size data_size)).fault ≡ Some (fault_of past WRITTEN_TEXTURE_IS_NOT_DESTROYED)

-- an object that has memory and is valid is destroyed, and every operation so far that uses it is complete
abbrev pub is_over : Setup → Past → ℕ → Bool
is_over setup past n = is_some (resource_at past n) && is_destroyed setup past n && nat_le (last_use past n) (completed past)

-- Of an object that was not dropped by then, the trace of each beginning of a history has one release where it is over after that, and
-- else none. So the release stands at the first entry, from the first destroy on, after which all that uses it is complete; and where
-- there is no such entry there is none.
abbrev pub FreedOnceOver : Type 0
FreedOnceOver = (setup : Setup) (history : List Entry) (n : ℕ) → Run setup history → is_dropped setup (reverse history) n ≡ false
    → count_by (releases_object n) (Trace setup history) ≡ (if is_over setup (reverse history) n then 1 else 0)
