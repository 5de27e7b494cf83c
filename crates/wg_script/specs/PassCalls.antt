-- The calls on compute passes: for each its keys, and what each holds, in the order in which they are read.
use Rattle.std.specs.Prelude.{ℕ, List, codes, Result, Ok}
use Rattle.serde_json.specs.Data.{Data}
use Rattle.wg_types.specs.declared.commands.CommandOf.{CommandOf}
use Rattle.wg_types.specs.declared.commands.CommandOf.TheVariants.{BeginComputePass, End, SetPipeline, SetBindGroup, Dispatch, DispatchIndirect}
use Rattle.wg_script.specs.declared.pass_calls.IndirectCall.{IndirectCall}
use Rattle.wg_script.specs.Giving.{◌>>=◌}
use Rattle.wg_script.specs.Values.{whole, whole_at, whole_or, most_whole, most_short, name_at}
use Rattle.wg_script.specs.Lists.{list_or_empty, item_or_null, name_item}
use Rattle.wg_script.specs.CallOf.{Call}
use Rattle.wg_script.specs.Calling.{recording, beginning}
use Rattle.wg_script.specs.Readers.{Reader, gives, need, may, all_of, ◌▹◌, read_by}
use Rattle.wg_script.specs.Labels.{made_keys}

-- beginComputePass: the name that it makes is that of the pass
abbrev pub begin_compute_pass_keys : Reader Call
begin_compute_pass_keys = gives (λ on made. beginning on BeginComputePass made)
    ▹ need (codes "on") name_at
    ▹ all_of made_keys

-- the reader of a beginComputePass
unfoldable pub begin_compute_pass_of : Data → Result Call ℕ
begin_compute_pass_of d = read_by begin_compute_pass_keys d

-- what is recorded with no other key than what it stands on
abbrev pub bare_of : CommandOf (List ℕ) → Data → Result Call ℕ
bare_of command d = read_by (gives (λ on. recording on command) ▹ need (codes "on") name_at) d

-- end
unfoldable pub end_of : Data → Result Call ℕ
end_of d = bare_of End d

-- setPipeline
abbrev pub set_pipeline_keys : Reader Call
set_pipeline_keys = gives (λ on pipeline. recording on (SetPipeline pipeline))
    ▹ need (codes "on") name_at
    ▹ need (codes "pipeline") name_at

-- the reader of a setPipeline
unfoldable pub set_pipeline_of : Data → Result Call ℕ
set_pipeline_of d = read_by set_pipeline_keys d

-- setBindGroup: a group that is null leaves nothing set, and no dynamic offsets are given where the key is left out
abbrev pub set_bind_group_keys : Reader Call
set_bind_group_keys = gives (λ on index group offsets. recording on (SetBindGroup index group offsets))
    ▹ need (codes "on") name_at
    ▹ need (codes "index") (whole_at most_short)
    ▹ need (codes "group") (item_or_null name_item)
    ▹ may (codes "offsets") (list_or_empty (whole most_short))

-- the reader of a setBindGroup
unfoldable pub set_bind_group_of : Data → Result Call ℕ
set_bind_group_of d = read_by set_bind_group_keys d

-- dispatch
abbrev pub dispatch_keys : Reader Call
dispatch_keys = gives (λ on x y z. recording on (Dispatch x y z))
    ▹ need (codes "on") name_at
    ▹ need (codes "x") (whole_at most_short)
    ▹ may (codes "y") (whole_or most_short 1)
    ▹ may (codes "z") (whole_or most_short 1)

-- the reader of a dispatch
unfoldable pub dispatch_of : Data → Result Call ℕ
dispatch_of d = read_by dispatch_keys d

-- what takes its counts from a buffer
abbrev pub indirect_keys : Reader IndirectCall
indirect_keys = gives (λ on buffer offset. record { on = on; buffer = buffer; offset = offset })
    ▹ need (codes "on") name_at
    ▹ need (codes "buffer") name_at
    ▹ need (codes "offset") (whole_at most_whole)

-- the reader of an indirect dispatch or draw
unfoldable pub indirect_of : Data → Result IndirectCall ℕ
indirect_of d = read_by indirect_keys d

-- dispatchIndirect
unfoldable pub dispatch_indirect_of : Data → Result Call ℕ
dispatch_indirect_of d = indirect_of d >>= λ c. Ok (recording c.on (DispatchIndirect c.buffer c.offset))
