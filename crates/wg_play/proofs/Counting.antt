-- No two calls of a script that was played have made an object of the same number.
use Rattle.std.proofs.Common.{◌≡◌, ℕ, zero, suc, ◌+◌, ◌-◌, ◌<◌, ◌≤◌, cond, Bool, true, false, ◌&&◌, ◌==◌, List, [], ◌∷◌, ◌++◌, length, reverse, get_or, Option, Some, None, refl, ap, sym, ◌∙◌, subst, ◌⊎◌, inl, inr, arith, if◌then◌else◌}
use Rattle.std.specs.Prelude.{All, Contains}
use Rattle.std.specs.List.{flat_map}
use Rattle.std.specs.Option.{option_map_or, option_to_list}
use Rattle.std.proofs.lemmas.Bool.Decides.{nat_tests}
use Rattle.std.proofs.lemmas.List.{reverse-append}
use Rattle.std.proofs.lemmas.List.Elements.{All-head, All-tail}
use Rattle.wg_trace.specs.declared.replies.Answer.{Answer}
use Rattle.wg_trace.specs.declared.replies.Answer.TheVariants.{Made, Queued, Promised, Plain, BadCompletion}
use Rattle.wg_trace.specs.declared.replies.Reply.{Reply}
use Rattle.wg_history.specs.declared.events.Setup.{Setup}
use Rattle.wg_history.specs.declared.events.Form.{Form}
use Rattle.wg_history.specs.declared.events.Form.TheVariants.{Making, Queue, Promise as Promising, Completion, Plain as Plainly}
use Rattle.wg_history.specs.Entries.{effects_of, Entry, Past}
use Rattle.wg_history.specs.Objects.{is_making, is_making_form, count}
use Rattle.wg_history.specs.Answers.{is_taken, answer_by, IsRun}
use Rattle.wg_history.proofs.Runs.{newest, others}
use Rattle.wg_play.specs.Turns.{entries_of_caller}
use Rattle.wg_play.specs.Played.{PlayedCall, PlayedPhase, entries_in, IsInterleaved}
use Rattle.wg_play.proofs.Turning.{same_caller, other_caller}
use Rattle.wg_play.proofs.Givers.{entries_of}

-- ---- how many of a list pass a test

abbrev pub times : {X : Type 0} → (X → Bool) → List X → ℕ
times p [] = 0
times p (x ∷ xs) = if p x then suc (times p xs) else times p xs

more_left : (b : Bool) (whole m n : ℕ) → whole ≡ m + n → (if b then suc whole else whole) ≡ (if b then suc m else m) + n
more_left true whole m n e = omega (arith, e)
more_left false whole m n e = e

more_right : (b : Bool) (whole m n : ℕ) → whole ≡ m + n → (if b then suc whole else whole) ≡ m + (if b then suc n else n)
more_right true whole m n e = omega (arith, e)
more_right false whole m n e = e

pub times_append : {X : Type 0} (p : X → Bool) (xs ys : List X) → times p (xs ++ ys) ≡ times p xs + times p ys
times_append p [] ys = omega arith
times_append p (x ∷ xs) ys = more_left (p x) (times p (xs ++ ys)) (times p xs) (times p ys) (times_append p xs ys)

times_reverse : {X : Type 0} (p : X → Bool) (xs : List X) → times p (reverse xs) ≡ times p xs
times_reverse p [] = refl
times_reverse p (x ∷ xs) =
    let rest : times p (reverse xs) ≡ times p xs = times_reverse p xs in
    let both : times p (reverse xs ++ x ∷ []) ≡ times p (reverse xs) + times p (x ∷ []) = times_append p (reverse xs) (x ∷ []) in
    ap (times p) (reverse-append (x ∷ []) xs) ∙ (both ∙ by_test (p x) rest)
  where
    by_test : (b : Bool) → times p (reverse xs) ≡ times p xs → times p (reverse xs) + (if b then 1 else 0) ≡ (if b then suc (times p xs) else times p xs)
    by_test true rest = omega (arith, rest)
    by_test false rest = omega (arith, rest)

-- ---- what is in a list

abbrev pub IsMember : {X : Type 0} → X → List X → Type 0
IsMember x [] = ⊥
IsMember x (y ∷ ys) = (y ≡ x) ⊎ IsMember x ys

at_in : {X : Type 0} (xs : List X) (x : X) (k : ℕ) → k < length xs → get_or xs k x ≡ x → IsMember x xs
at_in [] x k less is = absurd (omega (arith, less))
at_in (y ∷ xs) x zero less is = inl is
at_in (y ∷ xs) x (suc k) less is = inr (at_in xs x k (omega (arith, less)) is)

pub is_in : {X : Type 0} (xs : List X) (x : X) → Contains xs x → IsMember x xs
is_in xs x there = at_in xs x there.0 there.1 there.2

pub in_left : {X : Type 0} (xs ys : List X) (x : X) → IsMember x xs → IsMember x (xs ++ ys)
in_left [] ys x there = absurd there
in_left (y ∷ xs) ys x (inl here) = inl here
in_left (y ∷ xs) ys x (inr there) = inr (in_left xs ys x there)

pub in_right : {X : Type 0} (xs ys : List X) (x : X) → IsMember x ys → IsMember x (xs ++ ys)
in_right [] ys x there = there
in_right (y ∷ xs) ys x there = inr (in_right xs ys x there)

pub in_either : {X : Type 0} (xs ys : List X) (x : X) → IsMember x (xs ++ ys) → IsMember x xs ⊎ IsMember x ys
in_either [] ys x there = inr there
in_either (y ∷ xs) ys x (inl here) = inl (inl here)
in_either (y ∷ xs) ys x (inr there) = elim (in_either xs ys x there) [ inl left ↦ inl (inr left) | inr right ↦ inr right ]

grows : (b : Bool) (n m : ℕ) → m ≤ n → m ≤ (if b then suc n else n)
grows true n m le = omega (arith, le)
grows false n m le = le

counted : {X : Type 0} (p : X → Bool) (y x : X) (n m : ℕ) → y ≡ x → p x ≡ true → m ≤ n → suc m ≤ (if p y then suc n else n)
counted p y x n m same passes le = subst (λ (b : Bool). suc m ≤ (if b then suc n else n)) (sym (ap p same ∙ passes)) (omega (arith, le))

once : {X : Type 0} (p : X → Bool) (xs : List X) (x : X) → IsMember x xs → p x ≡ true → 1 ≤ times p xs
once p [] x there passes = absurd there
once p (y ∷ xs) x (inl here) passes = counted p y x (times p xs) 0 here passes (omega arith)
once p (y ∷ xs) x (inr there) passes = grows (p y) (times p xs) 1 (once p xs x there passes)

-- two that are not the same pass twice
pub twice : {X : Type 0} (p : X → Bool) (xs : List X) (a b : X) → (a ≡ b → ⊥) → IsMember a xs → IsMember b xs → p a ≡ true → p b ≡ true → 2 ≤ times p xs
twice p [] a b differ in_a in_b one two = absurd in_a
twice p (y ∷ xs) a b differ (inl a_is) (inl b_is) one two = absurd (differ (sym a_is ∙ b_is))
twice p (y ∷ xs) a b differ (inl a_is) (inr in_b) one two = counted p y a (times p xs) 1 a_is one (once p xs b in_b two)
twice p (y ∷ xs) a b differ (inr in_a) (inl b_is) one two = counted p y b (times p xs) 1 b_is two (once p xs a in_a one)
twice p (y ∷ xs) a b differ (inr in_a) (inr in_b) one two = grows (p y) (times p xs) 2 (twice p xs a b differ in_a in_b one two)

-- ---- what makes object n

abbrev pub makes : ℕ → Answer → Bool
makes n (Made number valid) = number == n
makes n (Queued op) = false
makes n Promised = false
makes n Plain = false
makes n BadCompletion = false

abbrev pub entry_makes : ℕ → Entry → Bool
entry_makes n entry = makes n entry.reply.answer

abbrev pub call_makes : ℕ → PlayedCall → Bool
call_makes n call = option_map_or (entry_makes n) call.1 false

lane_times : (n : ℕ) (calls : List PlayedCall) → times (call_makes n) calls ≡ times (entry_makes n) (entries_in calls)
lane_times n [] = refl
lane_times n (call ∷ calls) = by_entry call.1 (lane_times n calls)
  where
    by_entry : (found : Option Entry) → times (call_makes n) calls ≡ times (entry_makes n) (entries_in calls)
        → (if option_map_or (entry_makes n) found false then suc (times (call_makes n) calls) else times (call_makes n) calls)
        ≡ times (entry_makes n) (option_to_list found ++ entries_in calls)
    by_entry None rest = rest
    by_entry (Some entry) rest = ap (λ m. if entry_makes n entry then suc m else m) rest

-- ---- the entries of one caller, and those of the others

abbrev without : ℕ → List Entry → List Entry
without k [] = []
without k (e ∷ es) = if e.who == k then without k es else e ∷ without k es

split : (p : Entry → Bool) (k : ℕ) (es : List Entry) → times p es ≡ times p (entries_of_caller k es) + times p (without k es)
split p k [] = refl
split p k (e ∷ es) = by_who (e.who == k) (split p k es)
  where
    by_who : (b : Bool) → times p es ≡ times p (entries_of_caller k es) + times p (without k es)
        → times p (e ∷ es) ≡ times p (cond b (e ∷ entries_of_caller k es) (entries_of_caller k es)) + times p (if b then without k es else e ∷ without k es)
    by_who true rest = more_left (p e) (times p es) (times p (entries_of_caller k es)) (times p (without k es)) rest
    by_who false rest = more_right (p e) (times p es) (times p (entries_of_caller k es)) (times p (without k es)) rest

made_without : (m k : ℕ) (es : List Entry) → (m ≡ k → ⊥) → entries_of_caller m (without k es) ≡ entries_of_caller m es
made_without m k [] differ = refl
made_without m k (e ∷ es) differ = by_who (e.who == k) refl (made_without m k es differ)
  where
    by_who : (b : Bool) → (e.who == k) ≡ b → entries_of_caller m (without k es) ≡ entries_of_caller m es → entries_of_caller m (if b then without k es else e ∷ without k es) ≡ entries_of_caller m (e ∷ es)
    by_who true is rest =
        let who : e.who ≡ k = grind (arith, nat_tests, is) in
        rest ∙ sym (other_caller m e es (λ q. differ (sym q ∙ who)))
    by_who false is rest = ap (λ (l : List Entry). cond (e.who == m) (e ∷ l) l) rest

abbrev AllFrom : ℕ → List Entry → Type 0
AllFrom k [] = Unit {0}
AllFrom k (e ∷ es) = (k ≤ e.who) × AllFrom k es

from_zero : (es : List Entry) → AllFrom 0 es
from_zero [] = tt
from_zero (e ∷ es) = (omega arith, from_zero es)

from_next : (k : ℕ) (es : List Entry) → AllFrom k es → AllFrom (k + 1) (without k es)
from_next k [] from = tt
from_next k (e ∷ es) from = by_who (e.who == k) refl (from_next k es from.1)
  where
    by_who : (b : Bool) → (e.who == k) ≡ b → AllFrom (k + 1) (without k es) → AllFrom (k + 1) (if b then without k es else e ∷ without k es)
    by_who true is rest = rest
    by_who false is rest = let low : k ≤ e.who = from.0 in ((grind (arith, nat_tests, is, low)), rest)

-- ---- the calls of a phase, and of phases

abbrev pub lane_calls : List (List PlayedCall) → List PlayedCall
lane_calls lanes = flat_map (λ (calls : List PlayedCall). calls) lanes

abbrev pub all_calls : List PlayedPhase → List PlayedCall
all_calls plays = flat_map (λ (phase : PlayedPhase). lane_calls phase.lanes) plays

abbrev AreOwn : ℕ → List (List PlayedCall) → List Entry → Type 0
AreOwn k lanes part = (i : ℕ) → entries_of_caller (k + i) part ≡ entries_in (get_or lanes i [])

nobody : (n k : ℕ) (part : List Entry) → AreOwn k [] part → AllFrom k part → 0 ≡ times (entry_makes n) part
nobody n k [] own from = refl
nobody n k (e ∷ part) own from =
    let low : k ≤ e.who = from.0 in
    let who : k + (e.who - k) ≡ e.who = omega (arith, low) in
    let none : entries_of_caller e.who (e ∷ part) ≡ [] = subst (λ m. entries_of_caller m (e ∷ part) ≡ []) who (own (e.who - k)) in
    absurd (cc (sym (same_caller e.who e part refl) ∙ none))

lanes_times : (n k : ℕ) (lanes : List (List PlayedCall)) (part : List Entry) → AreOwn k lanes part → AllFrom k part → times (call_makes n) (lane_calls lanes) ≡ times (entry_makes n) part
lanes_times n k [] part own from = nobody n k part own from
lanes_times n k (calls ∷ lanes) part own from =
    let zero_is : k + 0 ≡ k = omega arith in
    let mine : entries_of_caller k part ≡ entries_in calls = subst (λ m. entries_of_caller m part ≡ entries_in calls) zero_is (own 0) in
    let here : times (call_makes n) calls ≡ times (entry_makes n) (entries_of_caller k part) = lane_times n calls ∙ ap (times (entry_makes n)) (sym mine) in
    let rest : times (call_makes n) (lane_calls lanes) ≡ times (entry_makes n) (without k part)
    = lanes_times n (k + 1) lanes (without k part)
    (λ i. let other : (k + 1) + i ≡ k → ⊥ = λ q. omega (arith, q) in
    let next : (k + 1) + i ≡ k + suc i = omega arith in
    made_without ((k + 1) + i) k part other ∙ (ap (λ m. entries_of_caller m part) next ∙ own (suc i)))
    (from_next k part from) in
    let both : times (call_makes n) (calls ++ lane_calls lanes) ≡ times (call_makes n) calls + times (call_makes n) (lane_calls lanes) = times_append (call_makes n) calls (lane_calls lanes) in
    let whole : times (entry_makes n) part ≡ times (entry_makes n) (entries_of_caller k part) + times (entry_makes n) (without k part) = split (entry_makes n) k part in
    omega (arith, both, here, rest, whole)

phase_times : (n : ℕ) (phase : PlayedPhase) → IsInterleaved phase → times (call_makes n) (lane_calls phase.lanes) ≡ times (entry_makes n) phase.entries
phase_times n phase own =
    lanes_times n 0 phase.lanes phase.entries (λ i. let zero_is : 0 + i ≡ i = omega arith in ap (λ m. entries_of_caller m phase.entries) zero_is ∙ own i) (from_zero phase.entries)

all_times : (n : ℕ) (plays : List PlayedPhase) → All IsInterleaved plays → times (call_makes n) (all_calls plays) ≡ times (entry_makes n) (entries_of plays)
all_times n [] all = refl
all_times n (phase ∷ plays) all =
    let here : times (call_makes n) (lane_calls phase.lanes) ≡ times (entry_makes n) phase.entries = phase_times n phase (All-head IsInterleaved phase plays all) in
    let rest : times (call_makes n) (all_calls plays) ≡ times (entry_makes n) (entries_of plays) = all_times n plays (All-tail IsInterleaved phase plays all) in
    let calls = times_append (call_makes n) (lane_calls phase.lanes) (all_calls plays) in
    let entries = times_append (entry_makes n) phase.entries (entries_of plays) in
    omega (arith, here, rest, calls, entries)

-- ---- a number is made once

form_makes : (past : Past) (form : Form) (done : Bool) (n : ℕ) → makes n (answer_by past form done) ≡ (is_making_form form && (count past == n))
form_makes past Making done n = refl
form_makes past Queue true n = refl
form_makes past Queue false n = refl
form_makes past (Promising promise) done n = refl
form_makes past (Completion op) done n = by_taken (is_taken past op)
  where
    by_taken : (b : Bool) → makes n (if b then Plain else BadCompletion) ≡ false
    by_taken true = refl
    by_taken false = refl
form_makes past Plainly done n = refl

pub record MadeOnce (n : ℕ) (past : Past) : Type 0 where
  pub most : times (entry_makes n) past ≤ 1
  pub none : count past ≤ n → times (entry_makes n) past ≡ 0

one_more : (n : ℕ) (past : Past) → MadeOnce n past → (making : Bool) (same : Bool) → (count past == n) ≡ same
    → ((if making && same then suc (times (entry_makes n) past) else times (entry_makes n) past) ≤ 1)
    × ((if making then count past + 1 else count past) ≤ n → (if making && same then suc (times (entry_makes n) past) else times (entry_makes n) past) ≡ 0)
one_more n past was true true is =
    let at : count past ≡ n = grind (arith, nat_tests, is) in
    let none : times (entry_makes n) past ≡ 0 = was.none (omega (arith, at)) in
    (omega (arith, none), λ le. absurd (omega (arith, at, le)))
one_more n past was true false is = (was.most, λ le. was.none (omega (arith, le)))
one_more n past was false same is = (was.most, was.none)

pub made_once : (setup : Setup) (n : ℕ) (past : Past) → IsRun setup past → MadeOnce n past
made_once setup n [] run = record { most = omega arith; none = λ le. refl }
made_once setup n (entry ∷ older) run =
    let was = made_once setup n older (others setup entry older run) in
    let step = one_more n older was (is_making entry.event) (count older == n) refl in
    let made : entry_makes n entry ≡ (is_making entry.event && (count older == n))
    = ap (λ (r : Reply). makes n r.answer) (newest setup entry older run) ∙ form_makes older (effects_of entry.event).form _ n in
    let here : times (entry_makes n) (entry ∷ older) ≡ (if is_making entry.event && (count older == n) then suc (times (entry_makes n) older) else times (entry_makes n) older)
    = ap (λ (b : Bool). if b then suc (times (entry_makes n) older) else times (entry_makes n) older) made in
    record { most = subst (λ m. m ≤ 1) (sym here) step.0; none = λ le. here ∙ step.1 le }

-- So of two calls that have made the same number, one is the other.
pub made_by_one : (setup : Setup) (plays : List PlayedPhase) (n : ℕ) (a b : PlayedCall) → All IsInterleaved plays → IsRun setup (reverse (entries_of plays)) → (a ≡ b → ⊥)
    → IsMember a (all_calls plays) → IsMember b (all_calls plays) → call_makes n a ≡ true → call_makes n b ≡ true → ⊥
made_by_one setup plays n a b all run differ in_a in_b one two =
    let least : 2 ≤ times (call_makes n) (all_calls plays) = twice (call_makes n) (all_calls plays) a b differ in_a in_b one two in
    let same : times (call_makes n) (all_calls plays) ≡ times (entry_makes n) (entries_of plays) = all_times n plays all in
    let turned : times (entry_makes n) (reverse (entries_of plays)) ≡ times (entry_makes n) (entries_of plays) = times_reverse (entry_makes n) (entries_of plays) in
    let most : times (entry_makes n) (reverse (entries_of plays)) ≤ 1 = (made_once setup n (reverse (entries_of plays)) run).most in
    absurd (omega (arith, least, same, turned, most))
