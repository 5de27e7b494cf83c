-- The lines of a history are lines of a text, and none is `trace`.
use Rattle.std.specs.Prelude.{codes, decimal, bytes_eq, Option, Some, None}
use Rattle.std.specs.List.{list_all, list_any}
use Rattle.std.specs.Fmt.{digits as printed_digits, digits_onto, digit_glyph}
use Rattle.std.proofs.Common.{◌≡◌, ℕ, zero, suc, ◌+◌, ◌/◌, ◌%◌, ◌<◌, ◌==◌, ◌&&◌, ◌||◌, List, [], ◌∷◌, ◌++◌, Bool, true, false, if◌then◌else◌, ap, sym, refl, ◌∙◌, arith, append-nil, append_assoc, subst}
use Rattle.std.proofs.lemmas.Bool.{lt-ltb, ne_eqb}
use Rattle.wg_types.specs.declared.words.Word.{Word}
use Rattle.wg_types.specs.declared.words.Word.TheVariants.{CreateBuffer, CreateTexture, CreateView, CreateSampler, CreateBindGroupLayout, CreatePipelineLayout, CreateBindGroup, CreateComputePipeline, CreateRenderPipeline, GetBindGroupLayout, CreateQuerySet, CreateEncoder, CreateBundleEncoder, BeginComputePass, BeginRenderPass, End, Finish, FinishBundle, PushDebugGroup, PopDebugGroup, Submit, WriteBuffer, WriteTexture, MapAsync, Unmap, WorkDone, Complete, Destroy, Drop, PushErrorScope, PopErrorScope, Lose, CopyBufferToBuffer, CopyBufferToTexture, CopyTextureToBuffer, CopyTextureToTexture, ClearBuffer, ResolveQuerySet, SetPipeline, SetBindGroup, SetVertexBuffer, SetIndexBuffer, Dispatch, DispatchIndirect, BeginOcclusionQuery, EndOcclusionQuery, ExecuteBundles, Draw, DrawIndexed, DrawIndirect, DrawIndexedIndirect, SetViewport, SetScissorRect, SetBlendConstant, SetStencilReference, InsertDebugMarker, CreateCanvas, ConfigureCanvas, CurrentTexture, Present}
use Rattle.wg_types.specs.Words.{word_text, verb_text}
use Rattle.wg_types.specs.declared.words.Verb.{Verb}
use Rattle.wg_types.specs.declared.words.Verb.TheVariants.{Call, Late}
use Rattle.wg_trace.specs.declared.replies.FaultKind.{FaultKind}
use Rattle.wg_trace.specs.declared.replies.FaultKind.TheVariants.{Validation, OutOfMemory}
use Rattle.wg_trace.specs.declared.replies.Caught.{Caught}
use Rattle.wg_trace.specs.declared.replies.Caught.TheVariants.{Scope, Uncaptured}
use Rattle.wg_trace.specs.declared.replies.Fault.{Fault}
use Rattle.wg_trace.specs.declared.replies.Answer.{Answer}
use Rattle.wg_trace.specs.declared.replies.Answer.TheVariants.{Made, Queued, Promised, Plain, BadCompletion}
use Rattle.wg_trace.specs.declared.replies.How.{How}
use Rattle.wg_trace.specs.declared.replies.How.TheVariants.{Mapped, Done, Aborted, Rejected, Null, Error}
use Rattle.wg_trace.specs.declared.replies.Settlement.{Settlement}
use Rattle.wg_print.specs.Entries.{fault_kind_text, validity_text, answer_text, caught_text, fault_text, how_text, settlement_text, settled_text, entry_text}
use Rattle.wg_readtrace.specs.Reading.{is_text_byte, lines_of}
use Rattle.wg_readback.specs.Texts.{numbered, Told, told_after, told_line, history_text}
use Rattle.wg_readback.specs.Printable.{IsFront}
use Rattle.wg_readback.specs.Laws.{ReportReadsBack}
use Rattle.wg_readback.proofs.Fields.{AreLineBytes, line_bytes, bytes_more}
use Rattle.wg_readback.proofs.Numbers.{decimal_word}
use Rattle.wg_readback.proofs.Splits.{IsClosed, line_split, text_bytes, texts_more, last_byte}
use Rattle.wg_readback.proofs.Back.{reads_back}

-- each piece of an entry has bytes of a line
number_bytes : (n : ℕ) → AreLineBytes (decimal n)
number_bytes n = line_bytes (decimal n) (decimal_word n)

word_bytes : (word : Word) → AreLineBytes (word_text word)
word_bytes CreateBuffer = refl
word_bytes CreateTexture = refl
word_bytes CreateView = refl
word_bytes CreateSampler = refl
word_bytes CreateBindGroupLayout = refl
word_bytes CreatePipelineLayout = refl
word_bytes CreateBindGroup = refl
word_bytes CreateComputePipeline = refl
word_bytes CreateRenderPipeline = refl
word_bytes GetBindGroupLayout = refl
word_bytes CreateQuerySet = refl
word_bytes CreateEncoder = refl
word_bytes CreateBundleEncoder = refl
word_bytes BeginComputePass = refl
word_bytes BeginRenderPass = refl
word_bytes End = refl
word_bytes Finish = refl
word_bytes FinishBundle = refl
word_bytes PushDebugGroup = refl
word_bytes PopDebugGroup = refl
word_bytes Submit = refl
word_bytes WriteBuffer = refl
word_bytes WriteTexture = refl
word_bytes MapAsync = refl
word_bytes Unmap = refl
word_bytes WorkDone = refl
word_bytes Complete = refl
word_bytes Destroy = refl
word_bytes Drop = refl
word_bytes PushErrorScope = refl
word_bytes PopErrorScope = refl
word_bytes Lose = refl
word_bytes CopyBufferToBuffer = refl
word_bytes CopyBufferToTexture = refl
word_bytes CopyTextureToBuffer = refl
word_bytes CopyTextureToTexture = refl
word_bytes ClearBuffer = refl
word_bytes ResolveQuerySet = refl
word_bytes SetPipeline = refl
word_bytes SetBindGroup = refl
word_bytes SetVertexBuffer = refl
word_bytes SetIndexBuffer = refl
word_bytes Dispatch = refl
word_bytes DispatchIndirect = refl
word_bytes BeginOcclusionQuery = refl
word_bytes EndOcclusionQuery = refl
word_bytes ExecuteBundles = refl
word_bytes Draw = refl
word_bytes DrawIndexed = refl
word_bytes DrawIndirect = refl
word_bytes DrawIndexedIndirect = refl
word_bytes SetViewport = refl
word_bytes SetScissorRect = refl
word_bytes SetBlendConstant = refl
word_bytes SetStencilReference = refl
word_bytes InsertDebugMarker = refl
word_bytes CreateCanvas = refl
word_bytes ConfigureCanvas = refl
word_bytes CurrentTexture = refl
word_bytes Present = refl

verb_bytes : (verb : Verb) → AreLineBytes (verb_text verb)
verb_bytes (Call word) = word_bytes word
verb_bytes Late = refl

validity_bytes : (valid : Bool) → AreLineBytes (validity_text valid)
validity_bytes true = refl
validity_bytes false = refl

answer_bytes : (answer : Answer) → AreLineBytes (answer_text answer)
answer_bytes (Made number valid) =
    bytes_more (codes "made " ++ decimal number ++ codes " ") (validity_text valid)
    (bytes_more (codes "made " ++ decimal number) (codes " ") (bytes_more (codes "made ") (decimal number) refl (number_bytes number)) refl) (validity_bytes valid)
answer_bytes (Queued number) = bytes_more (codes "op ") (decimal number) refl (number_bytes number)
answer_bytes Promised = refl
answer_bytes Plain = refl
answer_bytes BadCompletion = refl

kind_bytes : (kind : FaultKind) → AreLineBytes (fault_kind_text kind)
kind_bytes Validation = refl
kind_bytes OutOfMemory = refl

caught_bytes : (caught : Caught) → AreLineBytes (caught_text caught)
caught_bytes (Scope place) = bytes_more (codes " scope ") (decimal place) refl (number_bytes place)
caught_bytes Uncaptured = refl

fault_bytes : (fault : Option Fault) → AreLineBytes (fault_text fault)
fault_bytes None = refl
fault_bytes (Some fault) =
    bytes_more (codes " fault " ++ fault_kind_text fault.kind ++ codes " " ++ decimal fault.rule) (caught_text fault.caught)
    (bytes_more (codes " fault " ++ fault_kind_text fault.kind ++ codes " ") (decimal fault.rule)
    (bytes_more (codes " fault " ++ fault_kind_text fault.kind) (codes " ") (bytes_more (codes " fault ") (fault_kind_text fault.kind) refl (kind_bytes fault.kind)) refl)
    (number_bytes fault.rule)) (caught_bytes fault.caught)

how_bytes : (how : How) → AreLineBytes (how_text how)
how_bytes Mapped = refl
how_bytes Done = refl
how_bytes Aborted = refl
how_bytes Rejected = refl
how_bytes Null = refl
how_bytes (Error kind rule) =
    bytes_more (codes "error " ++ fault_kind_text kind ++ codes " ") (decimal rule)
    (bytes_more (codes "error " ++ fault_kind_text kind) (codes " ") (bytes_more (codes "error ") (fault_kind_text kind) refl (kind_bytes kind)) refl) (number_bytes rule)

settled_bytes : (settlements : List Settlement) → AreLineBytes (settled_text settlements)
settled_bytes [] = refl
settled_bytes (settlement ∷ settlements) =
    bytes_more (settlement_text settlement) (settled_text settlements)
    (bytes_more (codes " settle " ++ decimal settlement.promise ++ codes " ") (how_text settlement.how)
    (bytes_more (codes " settle " ++ decimal settlement.promise) (codes " ") (bytes_more (codes " settle ") (decimal settlement.promise) refl (number_bytes settlement.promise)) refl) (how_bytes settlement.how))
    (settled_bytes settlements)

-- the line of an entry, without its end, up to its verb and whole
abbrev head : ℕ → Told → List ℕ
head n entry = decimal n ++ codes " " ++ decimal entry.0 ++ codes " " ++ verb_text entry.1 ++ codes " "

abbrev body : ℕ → Told → List ℕ
body n entry = head n entry ++ answer_text entry.2.answer ++ fault_text entry.2.fault ++ settled_text entry.2.settled

head_bytes : (n : ℕ) (entry : Told) → AreLineBytes (head n entry)
head_bytes n entry =
    bytes_more (decimal n ++ codes " " ++ decimal entry.0 ++ codes " " ++ verb_text entry.1) (codes " ")
    (bytes_more (decimal n ++ codes " " ++ decimal entry.0 ++ codes " ") (verb_text entry.1)
    (bytes_more (decimal n ++ codes " " ++ decimal entry.0) (codes " ")
    (bytes_more (decimal n ++ codes " ") (decimal entry.0) (bytes_more (decimal n) (codes " ") (number_bytes n) refl) (number_bytes entry.0)) refl)
    (verb_bytes entry.1)) refl

body_bytes : (n : ℕ) (entry : Told) → AreLineBytes (body n entry)
body_bytes n entry =
    bytes_more (head n entry ++ answer_text entry.2.answer ++ fault_text entry.2.fault) (settled_text entry.2.settled)
    (bytes_more (head n entry ++ answer_text entry.2.answer) (fault_text entry.2.fault)
    (bytes_more (head n entry) (answer_text entry.2.answer) (head_bytes n entry) (answer_bytes entry.2.answer)) (fault_bytes entry.2.fault)) (settled_bytes entry.2.settled)

-- it begins with a digit, so it is not `trace`
abbrev IsDigitFirst : List ℕ → Type 0
IsDigitFirst [] = ⊥
IsDigitFirst (b ∷ bs) = b < 58

first_more : (xs ys : List ℕ) → IsDigitFirst xs → IsDigitFirst (xs ++ ys)
first_more [] ys h = absurd h
first_more (x ∷ xs) ys h = h

glyph_first : (n : ℕ) → digit_glyph false (n % 10) < 58
glyph_first n = let last : n % 10 < 10 = omega arith in rw (lt-ltb (n % 10) 10 last) (omega arith)

digits_first : (k n : ℕ) (bs : List ℕ) → IsDigitFirst bs → IsDigitFirst (digits_onto k 10 false n bs)
digits_first zero n bs h = h
digits_first (suc k) n bs h = by_test (n / 10 == 0) (digits_first k (n / 10) (digit_glyph false (n % 10) ∷ bs) (glyph_first n))
  where
    by_test : (t : Bool) → IsDigitFirst (digits_onto k 10 false (n / 10) (digit_glyph false (n % 10) ∷ bs))
        → IsDigitFirst (if t then digit_glyph false (n % 10) ∷ bs else digits_onto k 10 false (n / 10) (digit_glyph false (n % 10) ∷ bs))
    by_test true rest = glyph_first n
    by_test false rest = rest

digits_some : (k n : ℕ) → IsDigitFirst (digits_onto (suc k) 10 false n [])
digits_some k n = by_test (n / 10 == 0) (digits_first k (n / 10) (digit_glyph false (n % 10) ∷ []) (glyph_first n))
  where
    by_test : (t : Bool) → IsDigitFirst (digits_onto k 10 false (n / 10) (digit_glyph false (n % 10) ∷ []))
        → IsDigitFirst (if t then digit_glyph false (n % 10) ∷ [] else digits_onto k 10 false (n / 10) (digit_glyph false (n % 10) ∷ []))
    by_test true rest = glyph_first n
    by_test false rest = rest

number_first : (n : ℕ) → IsDigitFirst (decimal n)
unfolding printed_digits
number_first n = digits_some 63 n

not_trace : (bs : List ℕ) → IsDigitFirst bs → bytes_eq bs (codes "trace") ≡ false
not_trace [] h = absurd h
not_trace (b ∷ bs) h = ap (λ (t : Bool). t && bytes_eq bs (codes "race")) (ne_eqb b 116 (λ e. omega (arith, e, h)))

body_first : (n : ℕ) (entry : Told) → IsDigitFirst (body n entry)
body_first n entry =
    first_more (head n entry ++ answer_text entry.2.answer ++ fault_text entry.2.fault) (settled_text entry.2.settled)
    (first_more (head n entry ++ answer_text entry.2.answer) (fault_text entry.2.fault)
    (first_more (head n entry) (answer_text entry.2.answer)
    (first_more (decimal n ++ codes " " ++ decimal entry.0 ++ codes " " ++ verb_text entry.1) (codes " ")
    (first_more (decimal n ++ codes " " ++ decimal entry.0 ++ codes " ") (verb_text entry.1)
    (first_more (decimal n ++ codes " " ++ decimal entry.0) (codes " ")
    (first_more (decimal n ++ codes " ") (decimal entry.0) (first_more (decimal n) (codes " ") (number_first n))))))))

-- what the lines of entries are
record AreEntries (text : List ℕ) : Type 0 where
  bytes : list_all is_text_byte text ≡ true
  closed : IsClosed text
  none : list_any (λ line. bytes_eq line (codes "trace")) (lines_of text) ≡ false

closed_more : (xs ys : List ℕ) → IsClosed xs → IsClosed ys → IsClosed (xs ++ ys)
closed_more xs [] h k = subst IsClosed (sym (append-nil xs)) h
closed_more xs (y ∷ ys) h k = λ l. last_byte xs (y ∷ ys) (omega arith) ∙ k (omega arith)

line_closed : (w : List ℕ) → IsClosed (w ++ 10 ∷ [])
line_closed w l = last_byte w (10 ∷ []) (omega arith)

line_more : (w rest : List ℕ) → AreLineBytes w → bytes_eq w (codes "trace") ≡ false → AreEntries rest → AreEntries ((w ++ 10 ∷ []) ++ rest)
line_more w rest h k more = record {
  bytes = texts_more (w ++ 10 ∷ []) rest (texts_more w (10 ∷ []) (text_bytes w h) refl) more.bytes;
  closed = closed_more (w ++ 10 ∷ []) rest (line_closed w) more.closed;
  none =
      ap (list_any (λ line. bytes_eq line (codes "trace"))) (ap lines_of (append_assoc w (10 ∷ []) rest) ∙ line_split w rest h)
      ∙ (ap (λ (t : Bool). t || list_any (λ line. bytes_eq line (codes "trace")) (lines_of rest)) k ∙ more.none);
}

are_entries : (n : ℕ) (entries : List Told) → AreEntries (numbered told_after told_line n entries)
unfolding entry_text
are_entries n [] = record { bytes = refl; closed = λ l. absurd (omega arith); none = refl }
are_entries n (entry ∷ entries) =
    line_more (body n entry) (numbered told_after told_line (n + 1) entries) (body_bytes n entry) (not_trace (body n entry) (body_first n entry)) (are_entries (n + 1) entries)

pub history_front : (entries : List Told) → IsFront (history_text entries)
history_front entries =
    let whole : AreEntries (history_text entries) = line_more (codes "history") (numbered told_after told_line 0 entries) refl refl (are_entries 0 entries) in
    record { text = whole.bytes; ended = whole.closed; none = whole.none }

pub report_reads_back : ReportReadsBack
report_reads_back entries trace h = reads_back (history_text entries) trace (history_front entries) h
