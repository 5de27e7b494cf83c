-- The calls on query sets and occlusion queries: for each its keys, and what each holds, in the order in which they are read.
use Rattle.std.specs.Prelude.{ℕ, codes, Result}
use Rattle.serde_json.specs.Data.{Data}
use Rattle.wg_types.specs.declared.commands.CommandOf.TheVariants.{ResolveQuerySet, BeginOcclusionQuery, EndOcclusionQuery}
use Rattle.wg_types.specs.declared.requests.RequestOf.TheVariants.{CreateQuerySet}
use Rattle.wg_script.specs.Values.{whole_at, most_whole, most_short, name_at}
use Rattle.wg_script.specs.CallOf.{Call}
use Rattle.wg_script.specs.Calling.{recording, making}
use Rattle.wg_script.specs.Readers.{Reader, gives, need, all_of, ◌▹◌, read_by}
use Rattle.wg_script.specs.Labels.{made_keys}
use Rattle.wg_script.specs.PassCalls.{bare_of}

-- createQuerySet
abbrev pub create_queries_keys : Reader Call
create_queries_keys = gives (λ count made. making (CreateQuerySet (record { count = count })) made)
    ▹ need (codes "count") (whole_at most_short)
    ▹ all_of made_keys

-- the reader of a createQuerySet
unfoldable pub create_queries_of : Data → Result Call ℕ
create_queries_of d = read_by create_queries_keys d

-- resolveQuerySet
abbrev pub resolve_queries_keys : Reader Call
resolve_queries_keys = gives (λ on queries first count buffer offset. recording on (ResolveQuerySet queries first count buffer offset))
    ▹ need (codes "on") name_at
    ▹ need (codes "queries") name_at
    ▹ need (codes "first") (whole_at most_short)
    ▹ need (codes "count") (whole_at most_short)
    ▹ need (codes "buffer") name_at
    ▹ need (codes "offset") (whole_at most_whole)

-- the reader of a resolveQuerySet
unfoldable pub resolve_queries_of : Data → Result Call ℕ
resolve_queries_of d = read_by resolve_queries_keys d

-- beginOcclusionQuery
abbrev pub begin_occlusion_keys : Reader Call
begin_occlusion_keys = gives (λ on index. recording on (BeginOcclusionQuery index))
    ▹ need (codes "on") name_at
    ▹ need (codes "index") (whole_at most_short)

-- the reader of a beginOcclusionQuery
unfoldable pub begin_occlusion_of : Data → Result Call ℕ
begin_occlusion_of d = read_by begin_occlusion_keys d

-- endOcclusionQuery
unfoldable pub end_occlusion_of : Data → Result Call ℕ
end_occlusion_of d = bare_of EndOcclusionQuery d
