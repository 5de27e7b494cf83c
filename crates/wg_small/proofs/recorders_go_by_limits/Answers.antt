use Rattle.std.proofs.Common.{refl}
use Rattle.wg_types.specs.declared.limits.Limits.{Limits}
use Rattle.wg_limits.specs.Limits.{HaveFixed}
use Rattle.wg_small.specs.Limits.{GoByLimits}
use Rattle.wg_small.proofs.recorders_go_by_limits.Goals as goal

fixed_is : (limits : Limits) → HaveFixed limits → GoByLimits limits
fixed_is limits same = record {
  groups = same.bind_groups;
  slots = same.vertex_buffers;
  colors = same.color_attachments;
  workgroups = same.compute_workgroups_per_dimension;
  uniform_offsets = same.uniform_buffer_offset_alignment;
  storage_offsets = same.storage_buffer_offset_alignment;
}

pub returns : goal.returns
returns _ = record {
  by_default = record { groups = refl; slots = refl; colors = refl; workgroups = refl; uniform_offsets = refl; storage_offsets = refl };
  fixed = fixed_is;
}
