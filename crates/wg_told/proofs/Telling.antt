-- What was told is read back, and is what it was: so what is told alike is the same.
use Rattle.std.proofs.Common.{◌≡◌, ℕ, Bool, true, false, List, [], ◌∷◌, map, Option, Some, None, refl, sym, ap, ◌∙◌, nat_eq, if◌then◌else◌}
use Rattle.wg_trace.specs.declared.parts.Aspect.{Aspect}
use Rattle.wg_trace.specs.declared.parts.Aspect.TheVariants.{Color, Depth, Stencil}
use Rattle.wg_trace.specs.declared.parts.PartRun.{PartRun}
use Rattle.wg_trace.specs.declared.parts.PartRun.TheVariants as part
use Rattle.wg_trace.specs.declared.parts.Cells.{Cells}
use Rattle.wg_trace.specs.declared.parts.Cells.TheVariants as cells
use Rattle.wg_trace.specs.declared.parts.AccessKind.{AccessKind}
use Rattle.wg_trace.specs.declared.parts.AccessKind.TheVariants as kind
use Rattle.wg_trace.specs.declared.usages.Usages.{Usages}
use Rattle.wg_trace.specs.declared.steps.StepPlace.{StepPlace}
use Rattle.wg_trace.specs.declared.steps.StepPlace.TheVariants.{Op, Host}
use Rattle.wg_trace.specs.declared.steps.StepName.{StepName}
use Rattle.wg_trace.specs.declared.steps.StepName.TheVariants as name
use Rattle.wg_trace.specs.declared.steps.Step.{Step}
use Rattle.wg_trace.specs.declared.steps.Sort.{Sort}
use Rattle.wg_trace.specs.declared.steps.Sort.TheVariants as sort
use Rattle.wg_trace.specs.declared.steps.Item.{Item}
use Rattle.wg_trace.specs.declared.steps.Item.TheVariants.{Bar, Step as StepItem, Free}
use Rattle.wg_trace.specs.declared.replies.Answer.{Answer}
use Rattle.wg_trace.specs.declared.replies.Answer.TheVariants.{Made, Queued, Promised, Plain, BadCompletion}
use Rattle.wg_trace.specs.declared.replies.Caught.{Caught}
use Rattle.wg_trace.specs.declared.replies.Caught.TheVariants.{Scope, Uncaptured}
use Rattle.wg_trace.specs.declared.replies.Fault.{Fault}
use Rattle.wg_trace.specs.declared.replies.FaultKind.{FaultKind}
use Rattle.wg_trace.specs.declared.replies.FaultKind.TheVariants.{Validation, OutOfMemory}
use Rattle.wg_trace.specs.declared.replies.How.{How}
use Rattle.wg_trace.specs.declared.replies.How.TheVariants.{Mapped, Done, Aborted, Rejected, Null, Error}
use Rattle.wg_trace.specs.declared.replies.Reply.{Reply}
use Rattle.wg_trace.specs.declared.replies.Settlement.{Settlement}
use Rattle.wg_told.specs.declared.replies.ToldReply.{ToldReply}
use Rattle.wg_told.specs.declared.replies.ToldSettlement.{ToldSettlement}
use Rattle.wg_told.specs.declared.items.ToldRange.{ToldRange}
use Rattle.wg_told.specs.declared.items.ToldItem.{ToldItem}
use Rattle.wg_told.specs.declared.items.ToldUse.{ToldUse}
use Rattle.wg_told.specs.declared.items.ToldAccess.{ToldAccess}
use Rattle.wg_told.specs.Replies.{flag_number, fault_kind_number, fault_number, rule_number, caught_number, scope_number, is_caught, scope_of, how_number, how_fault, how_rule, reply_told, settlement_told}
use Rattle.wg_told.specs.Items.{aspect_number, part_told, cells_told, sort_number, name_number, kind_number, from_told, fresh_told, host_told, place_told, item_told, use_told, access_told, uses_of, accesses_of}
use Rattle.wg_told.specs.Laws.{ItemsToldApart, SettlementsToldApart, RepliesToldApart}

-- Lists.
map_back : {A B : Type 0} (told : A → B) (back : B → A) → ((x : A) → back (told x) ≡ x) → (xs : List A) → map back (map told xs) ≡ xs
map_back told back same [] = refl
map_back told back same (x ∷ xs) = let here = same x in let rest = map_back told back same xs in cc

map_apart : {A B : Type 0} (told : A → B) (back : B → A) → ((x : A) → back (told x) ≡ x) → (xs ys : List A) → map told xs ≡ map told ys → xs ≡ ys
map_apart told back same xs ys alike =
    let a : map back (map told xs) ≡ xs = map_back told back same xs in
    let b : map back (map told ys) ≡ ys = map_back told back same ys in
    let c : map back (map told xs) ≡ map back (map told ys) = ap (map back) alike in
    sym a ∙ (c ∙ b)

-- Items.
abbrev aspect_back : ℕ → Aspect
aspect_back n = if nat_eq n 1 then Color else if nat_eq n 2 then Depth else Stencil

aspect_same : (a : Aspect) → aspect_back (aspect_number a) ≡ a
aspect_same Color = refl
aspect_same Depth = refl
aspect_same Stencil = refl

abbrev part_back : ToldRange → PartRun
part_back r = if nat_eq r.sort 1 then part.Buffer r.object else if nat_eq r.sort 2 then part.Queries r.object else part.Texture r.object (aspect_back r.aspect) r.mip r.lo r.hi

part_same : (p : PartRun) → part_back (part_told p) ≡ p
part_same (part.Buffer object) = refl
part_same (part.Queries object) = refl
part_same (part.Texture object aspect mip lo hi) = ap (λ (a : Aspect). part.Texture object a mip lo hi) (aspect_same aspect)

abbrev cells_back : ToldRange → Cells
cells_back r =
    if nat_eq r.sort 1 then cells.Bytes r.object r.lo r.hi
    else if nat_eq r.sort 2 then cells.Queries r.object r.lo r.hi
    else if nat_eq r.sort 3 then cells.Layers r.object (aspect_back r.aspect) r.mip r.lo r.hi
    else cells.Slices r.object r.mip r.lo r.hi

cells_same : (c : Cells) → cells_back (cells_told c) ≡ c
cells_same (cells.Bytes object lo hi) = refl
cells_same (cells.Queries object lo hi) = refl
cells_same (cells.Layers object aspect mip lo hi) = ap (λ (a : Aspect). cells.Layers object a mip lo hi) (aspect_same aspect)
cells_same (cells.Slices object mip lo hi) = refl

abbrev sort_back : ℕ → Sort
sort_back n = if nat_eq n 1 then sort.Buffer else if nat_eq n 2 then sort.Queries else sort.Texture

sort_same : (s : Sort) → sort_back (sort_number s) ≡ s
sort_same sort.Buffer = refl
sort_same sort.Queries = refl
sort_same sort.Texture = refl

abbrev name_back : ℕ → StepName
name_back n =
    if nat_eq n 1 then name.Clear
    else if nat_eq n 2 then name.WriteBuffer
    else if nat_eq n 3 then name.WriteTexture
    else if nat_eq n 4 then name.CopyBufferToBuffer
    else if nat_eq n 5 then name.CopyBufferToTexture
    else if nat_eq n 6 then name.CopyTextureToBuffer
    else if nat_eq n 7 then name.CopyTextureToTexture
    else if nat_eq n 8 then name.ClearBuffer
    else if nat_eq n 9 then name.ResolveQuerySet
    else if nat_eq n 10 then name.Dispatch
    else if nat_eq n 11 then name.RenderPass
    else if nat_eq n 12 then name.HostRead
    else name.HostWrite

name_same : (n : StepName) → name_back (name_number n) ≡ n
name_same name.Clear = refl
name_same name.WriteBuffer = refl
name_same name.WriteTexture = refl
name_same name.CopyBufferToBuffer = refl
name_same name.CopyBufferToTexture = refl
name_same name.CopyTextureToBuffer = refl
name_same name.CopyTextureToTexture = refl
name_same name.ClearBuffer = refl
name_same name.ResolveQuerySet = refl
name_same name.Dispatch = refl
name_same name.RenderPass = refl
name_same name.HostRead = refl
name_same name.HostWrite = refl

abbrev kind_back : ℕ → AccessKind
kind_back n =
    if nat_eq n 1 then kind.Read
    else if nat_eq n 2 then kind.Write
    else if nat_eq n 3 then kind.Both
    else if nat_eq n 4 then kind.Drop
    else kind.ReadDrop

kind_same : (k : AccessKind) → kind_back (kind_number k) ≡ k
kind_same kind.Read = refl
kind_same kind.Write = refl
kind_same kind.Both = refl
kind_same kind.Drop = refl
kind_same kind.ReadDrop = refl

abbrev set_back : ℕ → Usages
set_back n = record { 0 = n }

abbrev use_back : ToldUse → PartRun × Usages
use_back t = (part_back t.part, set_back t.usages)

use_same : (u : PartRun × Usages) → use_back (use_told u) ≡ u
use_same (p, set) = ap (λ (q : PartRun). (q, set)) (part_same p)

abbrev access_back : ToldAccess → Cells × AccessKind
access_back t = (cells_back t.cells, kind_back t.kind)

access_same : (a : Cells × AccessKind) → access_back (access_told a) ≡ a
access_same (c, k) = ap (λ (d : Cells). (d, kind_back (kind_number k))) (cells_same c) ∙ ap (λ (l : AccessKind). (c, l)) (kind_same k)

abbrev from_back : ℕ → ℕ → Option Usages
from_back fresh n = if nat_eq fresh 1 then None else Some (set_back n)

from_same : (from : Option Usages) → from_back (fresh_told from) (from_told from) ≡ from
from_same None = refl
from_same (Some set) = refl

abbrev place_back : ℕ → ℕ → StepPlace
place_back host n = if nat_eq host 1 then Host n else Op n

place_same : (p : StepPlace) → place_back (host_told p) (place_told p) ≡ p
place_same (Op number) = refl
place_same (Host entry) = refl

abbrev step_back : ToldItem → List (PartRun × Usages) → List (Cells × AccessKind) → Step
step_back t uses accesses = record { place = place_back t.host t.place; name = name_back t.name; uses = uses; accesses = accesses }

abbrev item_back : ToldItem → List (PartRun × Usages) → List (Cells × AccessKind) → Item
item_back t uses accesses =
    if nat_eq t.what 1 then Bar (part_back t.part) (from_back t.fresh t.from) (set_back t.to)
    else if nat_eq t.what 2 then StepItem (step_back t uses accesses)
    else Free t.part.object (sort_back t.part.sort)

item_same : (i : Item) → item_back (item_told i) (uses_of i) (accesses_of i) ≡ i
item_same (Bar p from to) =
    ap (λ (q : PartRun). Bar q (from_back (fresh_told from) (from_told from)) to) (part_same p) ∙ ap (λ (f : Option Usages). Bar p f to) (from_same from)
item_same (StepItem s) =
    ap (λ (p : StepPlace). StepItem (record { place = p; name = name_back (name_number s.name); uses = s.uses; accesses = s.accesses })) (place_same s.place)
    ∙ ap (λ (n : StepName). StepItem (record { place = s.place; name = n; uses = s.uses; accesses = s.accesses })) (name_same s.name)
item_same (Free object s) = ap (Free object) (sort_same s)

pub items_told_apart : ItemsToldApart
items_told_apart a b told uses accesses =
    let u : uses_of a ≡ uses_of b = map_apart use_told use_back use_same (uses_of a) (uses_of b) uses in
    let c : accesses_of a ≡ accesses_of b = map_apart access_told access_back access_same (accesses_of a) (accesses_of b) accesses in
    let t : item_back (item_told a) (uses_of a) (accesses_of a) ≡ item_back (item_told b) (uses_of a) (accesses_of a) = ap (λ (x : ToldItem). item_back x (uses_of a) (accesses_of a)) told in
    let v : item_back (item_told b) (uses_of a) (accesses_of a) ≡ item_back (item_told b) (uses_of b) (accesses_of a) = ap (λ (x : List (PartRun × Usages)). item_back (item_told b) x (accesses_of a)) u in
    let w : item_back (item_told b) (uses_of b) (accesses_of a) ≡ item_back (item_told b) (uses_of b) (accesses_of b) = ap (λ (x : List (Cells × AccessKind)). item_back (item_told b) (uses_of b) x) c in
    sym (item_same a) ∙ (t ∙ (v ∙ (w ∙ item_same b)))

-- Settlements.
abbrev fault_kind_back : ℕ → FaultKind
fault_kind_back n = if nat_eq n 1 then Validation else OutOfMemory

fault_kind_same : (k : FaultKind) → fault_kind_back (fault_kind_number k) ≡ k
fault_kind_same Validation = refl
fault_kind_same OutOfMemory = refl

abbrev how_back : ℕ → ℕ → ℕ → How
how_back n fault rule =
    if nat_eq n 1 then Mapped
    else if nat_eq n 2 then Done
    else if nat_eq n 3 then Aborted
    else if nat_eq n 4 then Rejected
    else if nat_eq n 5 then Null
    else Error (fault_kind_back fault) rule

how_same : (h : How) → how_back (how_number h) (how_fault h) (how_rule h) ≡ h
how_same Mapped = refl
how_same Done = refl
how_same Aborted = refl
how_same Rejected = refl
how_same Null = refl
how_same (Error kind rule) = ap (λ (k : FaultKind). Error k rule) (fault_kind_same kind)

abbrev settlement_back : ToldSettlement → Settlement
settlement_back t = record { promise = t.promise; how = how_back t.how t.fault t.rule }

settlement_same : (s : Settlement) → settlement_back (settlement_told s) ≡ s
settlement_same s = ap (λ (h : How). record { promise = s.promise; how = h }) (how_same s.how)

pub settlements_told_apart : SettlementsToldApart
settlements_told_apart a b told = sym (settlement_same a) ∙ (ap settlement_back told ∙ settlement_same b)

-- Replies.
abbrev flag_back : ℕ → Bool
flag_back n = if nat_eq n 1 then true else false

flag_same : (b : Bool) → flag_back (flag_number b) ≡ b
flag_same true = refl
flag_same false = refl

abbrev answer_back : ToldReply → Answer
answer_back t =
    if nat_eq t.answer 1 then Made t.number (flag_back t.valid)
    else if nat_eq t.answer 2 then Queued t.number
    else if nat_eq t.answer 3 then Promised
    else if nat_eq t.answer 4 then Plain
    else BadCompletion

answer_same : (r : Reply) (entry : ℕ) → answer_back (reply_told r entry) ≡ r.answer
answer_same r entry =
    elim r.answer as (λ a. answer_back (reply_told (record r { answer = a }) entry) ≡ a)
    [ (Made number valid) ↦ ap (Made number) (flag_same valid) | (Queued number) ↦ refl | Promised ↦ refl | Plain ↦ refl | BadCompletion ↦ refl ]

abbrev caught_back : ℕ → ℕ → Caught
caught_back n scope = if nat_eq n 1 then Scope scope else Uncaptured

caught_same : (c : Caught) → caught_back (is_caught c) (scope_of c) ≡ c
caught_same (Scope place) = refl
caught_same Uncaptured = refl

abbrev fault_back : ℕ → ℕ → ℕ → ℕ → Option Fault
fault_back fault rule caught scope =
    if nat_eq fault 0 then None else Some (record { kind = fault_kind_back fault; rule = rule; caught = caught_back caught scope })

some_fault : (k : FaultKind) (rule : ℕ) (c : Caught)
    → fault_back (fault_kind_number k) rule (is_caught c) (scope_of c) ≡ Some (record { kind = k; rule = rule; caught = c })
some_fault Validation rule c = ap (λ (d : Caught). Some (record { kind = Validation; rule = rule; caught = d })) (caught_same c)
some_fault OutOfMemory rule c = ap (λ (d : Caught). Some (record { kind = OutOfMemory; rule = rule; caught = d })) (caught_same c)

fault_same : (f : Option Fault) → fault_back (fault_number f) (rule_number f) (caught_number f) (scope_number f) ≡ f
fault_same None = refl
fault_same (Some f) = some_fault f.kind f.rule f.caught

abbrev reply_of : Answer → Option Fault → List Settlement → Reply
reply_of answer fault settled = record { answer = answer; fault = fault; settled = settled }

abbrev reply_back : ToldReply → List ToldSettlement → Reply
reply_back t settled = reply_of (answer_back t) (fault_back t.fault t.rule t.caught t.scope) (map settlement_back settled)

reply_same : (r : Reply) (entry : ℕ) → reply_back (reply_told r entry) (map settlement_told r.settled) ≡ r
reply_same r entry =
    let told : Option Fault = fault_back (fault_number r.fault) (rule_number r.fault) (caught_number r.fault) (scope_number r.fault) in
    let settled : List Settlement = map settlement_back (map settlement_told r.settled) in
    ap (λ (x : Answer). reply_of x told settled) (answer_same r entry)
    ∙ (ap (λ (x : Option Fault). reply_of r.answer x settled) (fault_same r.fault)
    ∙ ap (λ (x : List Settlement). reply_of r.answer r.fault x) (map_back settlement_told settlement_back settlement_same r.settled))

pub replies_told_apart : RepliesToldApart
replies_told_apart a b m n told settled =
    let t : reply_back (reply_told a m) (map settlement_told a.settled) ≡ reply_back (reply_told b n) (map settlement_told a.settled) = ap (λ (x : ToldReply). reply_back x (map settlement_told a.settled)) told in
    let v : reply_back (reply_told b n) (map settlement_told a.settled) ≡ reply_back (reply_told b n) (map settlement_told b.settled) = ap (reply_back (reply_told b n)) settled in
    (sym (reply_same a m) ∙ (t ∙ (v ∙ reply_same b n)), ap (λ (x : ToldReply). x.entry) told)
