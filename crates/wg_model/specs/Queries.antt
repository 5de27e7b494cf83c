-- Query sets and occlusion queries (WebGPU, "Queries"): the rules of createQuerySet, and those of the queries of a render
-- pass, which are those of its query set. The commands of a pass so far stand newest first. Also WebGPU, "QuerySet Creation",
-- "beginOcclusionQuery", "endOcclusionQuery".
use Rattle.std.specs.Prelude.{ℕ, ◌+◌, ◌==◌, nat_lt, nat_le, Bool, true, false, not, List, [], ◌∷◌, ◌++◌, Option, Some, None, is_some, option_map}
use Rattle.std.specs.List.{list_any}
use Rattle.std.specs.Option.{option_map_or}
use Rattle.wg_rules.specs.declared.TheConstants.{QUERY_COUNT_IS_WITHIN_LIMIT, EVERY_OCCLUSION_QUERY_HAS_ENDED, PASS_HAS_QUERY_SET, QUERY_INDEX_IS_IN_SET, NO_OCCLUSION_QUERY_IS_ACTIVE, QUERY_IS_NOT_BEGUN_BEFORE, OCCLUSION_QUERY_IS_ACTIVE}
use Rattle.wg_types.specs.Handles.{HandleValue}
use Rattle.wg_types.specs.Commands.{Command, bracket, Act, begins, sets, runs, occludes, executes, neither, act, OcclusionCall, begin_occlusion, end_occlusion}
use Rattle.wg_types.specs.declared.commands.Bracket.{Bracket}
use Rattle.wg_types.specs.declared.commands.Bracket.TheVariants as brackets
use Rattle.wg_types.specs.declared.handles.QueriesInfo.{QueriesInfo}
use Rattle.wg_types.specs.declared.limits.Limits.{Limits}
use Rattle.wg_rows.specs.Runs.{Queries}
use Rattle.wg_rows.specs.Uses.{Write}
use Rattle.wg_model.specs.Rules.{Rule}
use Rattle.wg_model.specs.Commands.{queries_of}
use Rattle.wg_model.specs.Touches.{Touch, query_write_usage}

-- createQuerySet (WebGPU, "QuerySet Creation"): 170 the count is within the limit
abbrev pub create_queries_rules : Limits → QueriesInfo → List Rule
create_queries_rules limits info = (QUERY_COUNT_IS_WITHIN_LIMIT, nat_le info.count limits.max_queries_per_set) ∷ []

-- what a command does with queries, if anything
abbrev pub occlusion_by : Act HandleValue → Option OcclusionCall
occlusion_by (begins begin) = None
occlusion_by (sets setting) = None
occlusion_by (runs running) = None
occlusion_by (occludes call) = Some call
occlusion_by (executes bundles) = None
occlusion_by neither = None

-- what a command does with occlusion queries, if anything: it begins the query of an index, or ends the active one
abbrev pub occlusion_call : Command → Option OcclusionCall
occlusion_call command = occlusion_by (act command)

-- The queries of a render pass: the indexes of those that were begun, in order, and whether one is active.
pub record Occlusion : Type 0 where
  pub begun : List ℕ
  pub active : Bool

-- the queries that were begun after one more command
abbrev pub begun_after : List ℕ → Option OcclusionCall → List ℕ
begun_after begun None = begun
begun_after begun (Some (begin_occlusion index)) = begun ++ index ∷ []
begun_after begun (Some end_occlusion) = begun

-- the indexes of the queries that commands of a pass have begun, in order
abbrev pub queries_begun : List Command → List ℕ
queries_begun [] = []
queries_begun (command ∷ earlier) = begun_after (queries_begun earlier) (occlusion_call command)

-- whether a query is active after one more command: a begin makes it so, until the next end
abbrev pub active_after : Bool → Option OcclusionCall → Bool
active_after active None = active
active_after active (Some (begin_occlusion index)) = true
active_after active (Some end_occlusion) = false

-- whether a query is active after commands of a pass
abbrev pub query_active : List Command → Bool
query_active [] = false
query_active (command ∷ earlier) = active_after (query_active earlier) (occlusion_call command)

-- the queries of a pass after its commands
abbrev pub occlusion_of : List Command → Occlusion
occlusion_of earlier = record { begun = queries_begun earlier; active = query_active earlier }

-- what a pass has as its query set: the number of the set, and how many queries it has
abbrev pub set_given : HandleValue → ℕ × ℕ
set_given queries = (queries.reference.number, (queries_of queries).count)

-- the number and the count of the query set of a pass, if it has one
abbrev pub set_of_pass : Option HandleValue → Option (ℕ × ℕ)
set_of_pass queries = option_map set_given queries

-- how many queries that has, if the pass has one
abbrev pub count_given : Option (ℕ × ℕ) → Option ℕ
count_given set = option_map (λ (given : ℕ × ℕ). given.1) set

-- whether a query was begun before in the pass
abbrev pub was_begun : Occlusion → ℕ → Bool
was_begun queries index = list_any (λ (other : ℕ). other == index) queries.begun

-- beginOcclusionQuery (WebGPU, "beginOcclusionQuery"): 360 the pass has a query set; 361 the index is below its count; 362 no
-- query is active; 363 the query was not begun before in this pass.
abbrev pub begin_query_rules : Option ℕ → Occlusion → ℕ → List Rule
begin_query_rules count queries index =
    (PASS_HAS_QUERY_SET, is_some count)
    ∷ ((QUERY_INDEX_IS_IN_SET, option_map_or (nat_lt index) count false)
    ∷ ((NO_OCCLUSION_QUERY_IS_ACTIVE, not queries.active)
    ∷ ((QUERY_IS_NOT_BEGUN_BEFORE, not (was_begun queries index))
    ∷ [])))

-- endOcclusionQuery (WebGPU, "endOcclusionQuery"): 364 a query is active.
abbrev pub end_query_rules : Occlusion → List Rule
end_query_rules queries = (OCCLUSION_QUERY_IS_ACTIVE, queries.active) ∷ []

-- the rules of what a command does with occlusion queries
abbrev pub occlusion_rules : Option (ℕ × ℕ) → Occlusion → Option OcclusionCall → List Rule
occlusion_rules set queries None = []
occlusion_rules set queries (Some (begin_occlusion index)) = begin_query_rules (count_given set) queries index
occlusion_rules set queries (Some end_occlusion) = end_query_rules queries

-- the end of a render pass (WebGPU, "end"): 311 no query is active
abbrev pub pass_end_rules_by : Bool → Bracket → List Rule
pass_end_rules_by active brackets.BeginComputePass = []
pass_end_rules_by active brackets.BeginRenderPass = []
pass_end_rules_by active brackets.EndPass = (EVERY_OCCLUSION_QUERY_HAS_ENDED, not active) ∷ []
pass_end_rules_by active brackets.PushGroup = []
pass_end_rules_by active brackets.PopGroup = []
pass_end_rules_by active brackets.Neither = []

-- the rule of the end of a render pass: 311 no query is active
abbrev pub pass_end_rules : Bool → Command → List Rule
pass_end_rules active command = pass_end_rules_by active (bracket command)

-- a query that is begun is written
abbrev pub query_written : ℕ → ℕ → Touch
query_written object index = (Queries object index (index + 1), (query_write_usage, Write))

-- what the begin of a query touches: that query of the pass's set, if it has one
abbrev pub query_begun_touches : Option (ℕ × ℕ) → ℕ → List Touch
query_begun_touches None index = []
query_begun_touches (Some set) index = query_written set.0 index ∷ []

-- what a command touches of the query set of its pass: a query that it begins
abbrev pub query_touches : Option (ℕ × ℕ) → Option OcclusionCall → List Touch
query_touches set None = []
query_touches set (Some (begin_occlusion index)) = query_begun_touches set index
query_touches set (Some end_occlusion) = []
