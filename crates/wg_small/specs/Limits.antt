-- Valid objects are within the limits of their device, and so is what is mapped.
use Rattle.std.specs.Prelude.{◌≡◌, ℕ, ◌+◌, ◌≤◌, true, List, length, map, reverse, Option, Some, None, Ok}
use Rattle.wg_types.specs.declared.handles.Info.{Info}
use Rattle.wg_types.specs.declared.handles.Info.TheVariants.{Buffer, Texture, Queries}
use Rattle.wg_types.specs.declared.limits.Limits.{Limits}
use Rattle.wg_types.specs.declared.mappings.Mapping.{Mapping}
use Rattle.wg_model.specs.Attachments.{most_colors}
use Rattle.wg_model.specs.Bound.{most_groups, offset_alignment}
use Rattle.wg_model.specs.Compute.{most_workgroups}
use Rattle.wg_model.specs.Render.{most_slots}
use Rattle.wg_model.specs.Textures.{within_limits, mips_fit}
use Rattle.wg_trace.specs.declared.steps.StepPlace.TheVariants.{Op}
use Rattle.wg_limits.specs.Limits.{default_limits, AreNoBetter, HaveFixed}
use Rattle.wg_rows.specs.Rows.{EachRow}
use Rattle.wg_model.specs.Touches.{placed}
use Rattle.wg_history.specs.declared.events.Setup.{Setup}
use Rattle.wg_history.specs.Entries.{Entry, deeds_by}
use Rattle.wg_history.specs.Objects.{is_valid, is_made_valid, info_at}
use Rattle.wg_history.specs.Rules.{mapped_at}
use Rattle.wg_history.specs.Steps.{Steps}
use Rattle.wg_history.specs.Answers.{Run}
use Rattle.wg_history.specs.Traces.{Trace}
use Rattle.wg_readtrace.specs.Forms.{most_53}
use Rattle.wg_readtrace.specs.Reading.{trace_in}
use Rattle.wg_readback.specs.Printable.{step_count}
use Rattle.wg_shaped.specs.Reports.{report_of}
use Rattle.wg_small.specs.Small.{HasSmallRanges}

-- A buffer has no more bytes, a texture no greater extents and no more mip levels, and a query set no more queries than allowed.
abbrev pub IsWithinLimits : Limits → Info → Type 0
IsWithinLimits limits (Buffer info) = info.size ≤ limits.max_buffer_size
IsWithinLimits limits (Texture info) = (within_limits limits info.dim info.size ≡ true) × (mips_fit info.dim info.size info.mips ≡ true)
IsWithinLimits limits (Queries info) = info.count ≤ limits.max_queries_per_set
IsWithinLimits limits _ = Unit {0}

-- In a run each valid object is within the limits of the device.
abbrev pub ObjectsAreWithinLimits : Type 0
ObjectsAreWithinLimits =
    (setup : Setup) (history : List Entry) (n : ℕ) (info : Info)
    → Run setup history
    → is_valid (reverse history) n ≡ true
    → info_at (reverse history) n ≡ Some info
    → IsWithinLimits setup.limits info

-- What is mapped ends where the greatest buffer does, or before.
abbrev pub IsMappedWithin : Limits → Option Mapping → Type 0
IsMappedWithin limits None = Unit {0}
IsMappedWithin limits (Some m) = m.hi ≤ limits.max_buffer_size

-- In a run what is mapped of a buffer is within the limits of the device.
abbrev pub MappingsAreWithinLimits : Type 0
MappingsAreWithinLimits = (setup : Setup) (history : List Entry) (n : ℕ) → Run setup history → IsMappedWithin setup.limits (mapped_at setup (reverse history) n)

-- The ranges of what valid command buffers do are small.
abbrev pub RecordsSmallRanges : Entry → Type 0
RecordsSmallRanges entry = is_made_valid entry.reply.answer ≡ true → EachRow HasSmallRanges (map (placed (Op 0)) (deeds_by entry.event))

-- The ranges of all steps of a run are small where those of its valid command buffers are and no limit is better than the
-- best, since those of writes and of host accesses are then.
abbrev pub RangesOfRecordings : Type 0
RangesOfRecordings =
    (setup : Setup) (history : List Entry)
    → Run setup history
    → AreNoBetter setup.limits
    → EachRow RecordsSmallRanges history
    → EachRow HasSmallRanges (Steps setup history)

-- The report of a run whose valid command buffers have small ranges is read as its trace, if the history is not longer than
-- the greatest number that the reader takes and there are numbers for its steps.
abbrev pub ReadsBackByRecordings : Type 0
ReadsBackByRecordings =
    (setup : Setup) (history : List Entry)
    → Run setup history
    → AreNoBetter setup.limits
    → length history ≤ most_53
    → EachRow RecordsSmallRanges history
    → step_count (Trace setup history) ≤ most_53 + 1
    → trace_in (report_of setup history) ≡ Ok (Trace setup history)

-- The numbers by which all recorders go alike, whatever limits they were made with, are limits of a device.
pub record GoByLimits (limits : Limits) : Type 0 where
  pub groups : limits.max_bind_groups ≡ most_groups
  pub slots : limits.max_vertex_buffers ≡ most_slots
  pub colors : limits.max_color_attachments ≡ most_colors
  pub workgroups : limits.max_compute_workgroups_per_dimension ≡ most_workgroups
  pub uniform_offsets : limits.min_uniform_buffer_offset_alignment ≡ offset_alignment
  pub storage_offsets : limits.min_storage_buffer_offset_alignment ≡ offset_alignment

-- The numbers by which all recorders go alike are limits of a device that is opened without asking for any, and of each that has the
-- same of what none has otherwise.
pub record RecordersGoByLimits : Type 0 where
  pub by_default : GoByLimits default_limits
  pub fixed : (limits : Limits) → HaveFixed limits → GoByLimits limits
