-- The text of an entry of the history.
use Rattle.std.specs.Prelude.{ℕ, List, [], ◌++◌, Bool, true, false, codes, decimal, Option, Some, None}
use Rattle.std.specs.List.{flat_map}
use Rattle.wg_trace.specs.declared.replies.FaultKind.{FaultKind}
use Rattle.wg_trace.specs.declared.replies.FaultKind.TheVariants.{Validation, OutOfMemory}
use Rattle.wg_trace.specs.declared.replies.Caught.{Caught}
use Rattle.wg_trace.specs.declared.replies.Caught.TheVariants.{Scope, Uncaptured}
use Rattle.wg_trace.specs.declared.replies.Fault.{Fault}
use Rattle.wg_trace.specs.declared.replies.Answer.{Answer}
use Rattle.wg_trace.specs.declared.replies.Answer.TheVariants.{Made, Queued, Promised, Plain, BadCompletion}
use Rattle.wg_trace.specs.declared.replies.How.{How}
use Rattle.wg_trace.specs.declared.replies.How.TheVariants.{Mapped, Done, Aborted, Rejected, Null, Error}
use Rattle.wg_trace.specs.declared.replies.Settlement.{Settlement}
use Rattle.wg_trace.specs.declared.replies.Reply.{Reply}

-- the word of a kind of fault
abbrev pub fault_kind_text : FaultKind → List ℕ
fault_kind_text Validation = codes "validation"
fault_kind_text OutOfMemory = codes "out-of-memory"

-- the word of whether an object is valid
abbrev pub validity_text : Bool → List ℕ
validity_text true = codes "valid"
validity_text false = codes "invalid"

-- an answer, as it is printed
abbrev pub answer_text : Answer → List ℕ
answer_text (Made number valid) = codes "made " ++ decimal number ++ codes " " ++ validity_text valid
answer_text (Queued number) = codes "op " ++ decimal number
answer_text Promised = codes "promise"
answer_text Plain = codes "plain"
answer_text BadCompletion = codes "bad"

-- where a fault went, as it is printed
abbrev pub caught_text : Caught → List ℕ
caught_text (Scope place) = codes " scope " ++ decimal place
caught_text Uncaptured = codes " uncaptured"

-- the fault of an entry, as it is printed
abbrev pub fault_text : Option Fault → List ℕ
fault_text None = []
fault_text (Some fault) = codes " fault " ++ fault_kind_text fault.kind ++ codes " " ++ decimal fault.rule ++ caught_text fault.caught

-- how a promise is settled, as it is printed
abbrev pub how_text : How → List ℕ
how_text Mapped = codes "mapped"
how_text Done = codes "done"
how_text Aborted = codes "aborted"
how_text Rejected = codes "rejected"
how_text Null = codes "null"
how_text (Error kind rule) = codes "error " ++ fault_kind_text kind ++ codes " " ++ decimal rule

-- a settlement, as it is printed
abbrev pub settlement_text : Settlement → List ℕ
settlement_text settlement = codes " settle " ++ decimal settlement.promise ++ codes " " ++ how_text settlement.how

-- the settlements of an entry, as they are printed
abbrev pub settled_text : List Settlement → List ℕ
settled_text settlements = flat_map settlement_text settlements

-- the entry's number, its caller, the text of its event, the answer, the fault if there is one, and what was settled
unfoldable pub entry_text : ℕ → ℕ → List ℕ → Reply → List ℕ
entry_text number who verb reply =
    decimal number ++ codes " " ++ decimal who ++ codes " " ++ verb ++ codes " "
    ++ answer_text reply.answer ++ fault_text reply.fault ++ settled_text reply.settled ++ codes "\n"
