-- What is told of replies and of settlements. The numbers are those of the header.
use Rattle.std.specs.Prelude.{ℕ, Bool, true, false, Option, Some, None, length}
use Rattle.wg_trace.specs.declared.replies.Answer.{Answer}
use Rattle.wg_trace.specs.declared.replies.Answer.TheVariants.{Made, Queued, Promised, Plain, BadCompletion}
use Rattle.wg_trace.specs.declared.replies.Caught.{Caught}
use Rattle.wg_trace.specs.declared.replies.Caught.TheVariants.{Scope, Uncaptured}
use Rattle.wg_trace.specs.declared.replies.Fault.{Fault}
use Rattle.wg_trace.specs.declared.replies.FaultKind.{FaultKind}
use Rattle.wg_trace.specs.declared.replies.FaultKind.TheVariants.{Validation, OutOfMemory}
use Rattle.wg_trace.specs.declared.replies.How.{How}
use Rattle.wg_trace.specs.declared.replies.How.TheVariants.{Mapped, Done, Aborted, Rejected, Null, Error}
use Rattle.wg_trace.specs.declared.replies.Reply.{Reply}
use Rattle.wg_trace.specs.declared.replies.Settlement.{Settlement}
use Rattle.wg_told.specs.declared.replies.ToldReply.{ToldReply}
use Rattle.wg_told.specs.declared.replies.ToldSettlement.{ToldSettlement}

-- a truth as 0 or 1
abbrev pub flag_number : Bool → ℕ
flag_number false = 0
flag_number true = 1

-- the number of a kind of answer, from 1 on
abbrev pub answer_number : Answer → ℕ
answer_number (Made number valid) = 1
answer_number (Queued number) = 2
answer_number Promised = 3
answer_number Plain = 4
answer_number BadCompletion = 5

-- the number of a reply: that of the object, of the operation, or of the promise, which goes by its entry
abbrev pub number_told : Answer → ℕ → ℕ
number_told (Made number valid) entry = number
number_told (Queued number) entry = number
number_told Promised entry = entry
number_told Plain entry = 0
number_told BadCompletion entry = 0

-- 1 where an answer made a valid object, and else 0
abbrev pub valid_number : Answer → ℕ
valid_number (Made number valid) = flag_number valid
valid_number (Queued number) = 0
valid_number Promised = 0
valid_number Plain = 0
valid_number BadCompletion = 0

-- the number of a kind of fault, from 1 on
abbrev pub fault_kind_number : FaultKind → ℕ
fault_kind_number Validation = 1
fault_kind_number OutOfMemory = 2

-- the number of the kind of a fault, or 0 where there is none
abbrev pub fault_number : Option Fault → ℕ
fault_number None = 0
fault_number (Some fault) = fault_kind_number fault.kind

-- the rule of a fault, or 0 where there is none
abbrev pub rule_number : Option Fault → ℕ
rule_number None = 0
rule_number (Some fault) = fault.rule

-- 1 where an error scope caught a fault, and else 0
abbrev pub is_caught : Caught → ℕ
is_caught (Scope place) = 1
is_caught Uncaptured = 0

-- the place of the scope that caught a fault, or 0
abbrev pub scope_of : Caught → ℕ
scope_of (Scope place) = place
scope_of Uncaptured = 0

-- 1 where a scope caught a fault, and else 0
abbrev pub caught_number : Option Fault → ℕ
caught_number None = 0
caught_number (Some fault) = is_caught fault.caught

-- the place of the scope that caught the fault of a reply, or 0
abbrev pub scope_number : Option Fault → ℕ
scope_number None = 0
scope_number (Some fault) = scope_of fault.caught

-- what is told of the reply to an event: the number of its entry, the kind of the answer (1 made, 2 queued, 3 promised, 4
-- plain, 5 a bad completion) with its number, whether an object is valid, the fault with its kind, its rule and the scope that
-- caught it, and how many promises are settled
abbrev pub reply_told : Reply → ℕ → ToldReply
reply_told reply entry = record {
  entry = entry;
  number = number_told reply.answer entry;
  scope = scope_number reply.fault;
  settles = length reply.settled;
  answer = answer_number reply.answer;
  valid = valid_number reply.answer;
  fault = fault_number reply.fault;
  rule = rule_number reply.fault;
  caught = caught_number reply.fault;
}

-- the number of how a promise was settled, from 1 on
abbrev pub how_number : How → ℕ
how_number Mapped = 1
how_number Done = 2
how_number Aborted = 3
how_number Rejected = 4
how_number Null = 5
how_number (Error kind rule) = 6

-- the number of the kind of fault with which a promise was settled, or 0
abbrev pub how_fault : How → ℕ
how_fault (Error kind rule) = fault_kind_number kind
how_fault _ = 0

-- the rule of the fault with which a promise was settled, or 0
abbrev pub how_rule : How → ℕ
how_rule (Error kind rule) = rule
how_rule _ = 0

-- a settlement, as it is told
abbrev pub settlement_told : Settlement → ToldSettlement
settlement_told settlement = record {
  promise = settlement.promise;
  how = how_number settlement.how;
  fault = how_fault settlement.how;
  rule = how_rule settlement.how;
}
