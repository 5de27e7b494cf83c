-- The calls on layouts, bind groups and compute pipelines, and the layout that a pipeline gives: for each its keys, and what
-- each holds, in the order in which they are read.
use Rattle.std.specs.Prelude.{ℕ, List, bytes_eq, codes, if◌then◌else◌, Option, Some, None, option_and_then, Result, Ok, Err}
use Rattle.serde_json.specs.Data.{Data}
use Rattle.serde_json.specs.Find.{as_str}
use Rattle.wg_types.specs.declared.requests.RequestOf.TheVariants.{CreateBindGroupLayout, CreatePipelineLayout, CreateBindGroup, CreateComputePipeline, GetBindGroupLayout}
use Rattle.wg_script.specs.Values.{whole_at, most_short, name_at}
use Rattle.wg_script.specs.Lists.{list_at, list_or_empty, null_or, name_item}
use Rattle.wg_script.specs.BindingEntries.{layout_entry_of, iface_entry_of, group_entry_of}
use Rattle.wg_script.specs.CallOf.{Call}
use Rattle.wg_script.specs.Calling.{making}
use Rattle.wg_script.specs.Readers.{Reader, gives, need, may, all_of, ◌▹◌, read_by}
use Rattle.wg_script.specs.Labels.{made_keys}

-- createBindGroupLayout
abbrev pub create_group_layout_keys : Reader Call
create_group_layout_keys = gives (λ entries made. making (CreateBindGroupLayout entries) made)
    ▹ need (codes "entries") (list_at layout_entry_of)
    ▹ all_of made_keys

-- the reader of a createBindGroupLayout
unfoldable pub create_group_layout_of : Data → Result Call ℕ
create_group_layout_of d = read_by create_group_layout_keys d

-- createPipelineLayout: a layout that is null is left out
abbrev pub create_pipeline_layout_keys : Reader Call
create_pipeline_layout_keys = gives (λ layouts made. making (CreatePipelineLayout layouts) made)
    ▹ need (codes "layouts") (list_at (null_or name_item))
    ▹ all_of made_keys

-- the reader of a createPipelineLayout
unfoldable pub create_pipeline_layout_of : Data → Result Call ℕ
create_pipeline_layout_of d = read_by create_pipeline_layout_keys d

-- createBindGroup
abbrev pub create_group_keys : Reader Call
create_group_keys = gives (λ layout entries made. making (CreateBindGroup layout entries) made)
    ▹ need (codes "layout") name_at
    ▹ need (codes "entries") (list_at group_entry_of)
    ▹ all_of made_keys

-- the reader of a createBindGroup
unfoldable pub create_group_of : Data → Result Call ℕ
create_group_of d = read_by create_group_keys d

-- ---- pipelines

-- the layout of a pipeline by its text: none where that is `auto`
abbrev pub layout_of : Option (List ℕ) → Result (Option (List ℕ)) ℕ
layout_of None = Err 8
layout_of (Some s) = if bytes_eq s (codes "auto") then Ok None else Ok (Some s)

-- the name of a pipeline layout, or none for the word `auto`: the pipeline is to derive its layout itself
abbrev pub layout_at : Option Data → Result (Option (List ℕ)) ℕ
layout_at found = layout_of (option_and_then as_str found)

-- createComputePipeline
abbrev pub create_compute_keys : Reader Call
create_compute_keys = gives (λ layout entries made. making (CreateComputePipeline layout (record { entries = entries })) made)
    ▹ need (codes "layout") layout_at
    ▹ may (codes "iface") (list_or_empty iface_entry_of)
    ▹ all_of made_keys

-- the reader of a createComputePipeline
unfoldable pub create_compute_of : Data → Result Call ℕ
create_compute_of d = read_by create_compute_keys d

-- getBindGroupLayout
abbrev pub get_group_layout_keys : Reader Call
get_group_layout_keys = gives (λ pipeline index made. making (GetBindGroupLayout pipeline index) made)
    ▹ need (codes "pipeline") name_at
    ▹ need (codes "index") (whole_at most_short)
    ▹ all_of made_keys

-- the reader of a getBindGroupLayout
unfoldable pub get_group_layout_of : Data → Result Call ℕ
get_group_layout_of d = read_by get_group_layout_keys d
