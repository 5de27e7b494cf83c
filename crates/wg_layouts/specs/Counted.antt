-- The counts of entries that have limits.
use Rattle.std.specs.Prelude.{ℕ, Bool, ◌&&◌, List, count_by}
use Rattle.wg_types.specs.declared.bindings.BindingKind.{BindingKind}
use Rattle.wg_types.specs.declared.bindings.LayoutEntry.{LayoutEntry}
use Rattle.wg_types.specs.declared.limits.Limits.{Limits}
use Rattle.wg_model.specs.Layouts.{all_entries, is_seen_by, is_dynamic, is_uniform, is_storage_buffer, is_sampler, is_sampled_texture, is_storage_texture}
use Rattle.wg_layouts.specs.declared.counts.Sort.{Sort}
use Rattle.wg_layouts.specs.declared.counts.Sort.TheVariants.{SampledTexture, Sampler, StorageBuffer, StorageTexture, UniformBuffer}
use Rattle.wg_layouts.specs.declared.counts.Counted.{Counted}
use Rattle.wg_layouts.specs.declared.counts.Counted.TheVariants.{SeenBy, Dynamic}
use Rattle.wg_layouts.specs.declared.counts.LayoutEntries.{LayoutEntries}
use Rattle.wg_layouts.specs.declared.counts.LayoutEntries.TheVariants.{One, All}

-- whether a binding is of a sort
abbrev pub is_of : Sort → BindingKind → Bool
is_of SampledTexture = is_sampled_texture
is_of Sampler = is_sampler
is_of StorageBuffer = is_storage_buffer
is_of StorageTexture = is_storage_texture
is_of UniformBuffer = is_uniform

-- whether an entry is among those that are counted
abbrev pub is_counted : Counted → Sort → LayoutEntry → Bool
is_counted (SeenBy stage) sort entry = is_seen_by stage entry && is_of sort entry.kind
is_counted Dynamic sort entry = is_dynamic entry.kind && is_of sort entry.kind

-- how many entries are counted of a sort
abbrev pub counted : Counted → Sort → List LayoutEntry → ℕ
counted which sort entries = count_by (is_counted which sort) entries

-- the entries of one layout, or of all layouts of a pipeline
abbrev pub layout_entries : LayoutEntries → List LayoutEntry
layout_entries (One entries) = entries.now
layout_entries (All layouts) = all_entries layouts.now

-- how many entries of a sort a stage may see
abbrev pub most_seen : Limits → Sort → ℕ
most_seen limits SampledTexture = limits.max_sampled_textures_per_shader_stage
most_seen limits Sampler = limits.max_samplers_per_shader_stage
most_seen limits StorageBuffer = limits.max_storage_buffers_per_shader_stage
most_seen limits StorageTexture = limits.max_storage_textures_per_shader_stage
most_seen limits UniformBuffer = limits.max_uniform_buffers_per_shader_stage
