-- The end of a generated script: all operations become complete, and then each buffer is destroyed, and is released as it is.
use Rattle.std.proofs.Common.{◌≡◌, ◌⊎◌, ℕ, zero, suc, ◌+◌, ◌<◌, ◌≤◌, List, [], ◌∷◌, ◌++◌, length, filter, Bool, true, false, not, ◌&&◌, ◌||◌, ◌==◌, nat_lt, nat_le, Option, Some, None, is_some, is_none, refl, ap, ap₂, sym, ◌∙◌, arith, if◌then◌else◌, true≢false, inl, inr, count_by, cond, eq-eqb, eqb-true, ne_eqb, lt-ltb, le-ltb, le-leb, length-append}
use Rattle.std.specs.Option.{option_map_or, option_map, option_to_list}
use Rattle.std.proofs.lemmas.Bool.{and_from, and_left, and_right, or_from, or_left, or_right, cases_order}
use Rattle.std.proofs.lemmas.Bool.Decides.{nat_tests}
use Rattle.std.proofs.lemmas.List.Sums.{sum_by-cons}
use Rattle.wg_rules.specs.declared.TheConstants.{OBJECT_IS_OF_DEVICE, OBJECT_IS_NOT_DROPPED}
use Rattle.wg_types.specs.declared.handles.Info.{Info}
use Rattle.wg_trace.specs.declared.replies.Reply.{Reply}
use Rattle.wg_trace.specs.declared.steps.Sort.{Sort}
use Rattle.wg_model.specs.Rules.{first_unmet}
use Rattle.wg_history.specs.declared.events.Event.TheVariants as event
use Rattle.wg_history.specs.Entries.{Entry, Past}
use Rattle.wg_history.specs.Objects.{count, info_at, has_memory, resource_at}
use Rattle.wg_history.specs.Operations.{issued, completed, last_use}
use Rattle.wg_history.specs.Loss.{is_lost, Wait, awaiting, unsettled, is_map_of}
use Rattle.wg_history.specs.Rules.{dropped_at, is_dropped, destroy_rule, is_destroyed}
use Rattle.wg_history.specs.Answers.{Plain, BadCompletion, fault_by, settle_all, kept_how, ended_how, is_kept, is_taken, reply_to}
use Rattle.wg_history.specs.Releases.{is_gone, is_due, is_released, is_freed, freed_at, freed_below, freed}
use Rattle.wg_gen.specs.Counts.{is_fault}
use Rattle.wg_gen.proofs.Facts.{device, ref, destroy, plain, entry_of, IsBuffer, Calm, Ended}
use Rattle.wg_gen.proofs.History.{frees_more, due_none, buffer_stays}

-- ---- what is due

-- A resource that is destroyed and whose uses are complete is due.
is_due_now : (past : Past) (n : ℕ) → is_some (resource_at past n) ≡ true → is_destroyed device past n ≡ true → last_use past n ≤ completed past → is_due device past n ≡ true
unfolding is_due
is_due_now past n resource destroyed used =
    and_from (is_some (resource_at past n) && is_gone device past n) (nat_le (last_use past n) (completed past))
    (and_from (is_some (resource_at past n)) (is_gone device past n) resource (or_left (is_destroyed device past n) _ destroyed))
    (le-leb (last_use past n) (completed past) used)

-- ---- how much is released

abbrev one_if : Bool → ℕ
one_if b = if b then 1 else 0

-- what is listed of one object
length_if : (b : Bool) (n : ℕ) (o : Option Sort) → (b ≡ true → is_some o ≡ true) → length {A = ℕ × Sort} (if b then option_to_list (option_map (λ (sort : Sort). (n, sort)) o) else []) ≡ one_if b
length_if true n None some = absurd (true≢false (sym (some refl)))
length_if true n (Some sort) some = refl
length_if false n o some = refl

-- Where no object is released, the list of them is empty.
none_freed : (past : Past) (m : ℕ) → ((n : ℕ) → is_freed device past n ≡ false) → length (freed_below device past m) ≡ 0
none_freed past zero none = refl
none_freed past (suc m) none =
    let here : length (freed_at device past m) ≡ 0 = ap (λ (b : Bool). length {A = ℕ × Sort} (if b then option_to_list (option_map (λ (sort : Sort). (m, sort)) (resource_at past m)) else [])) (none m) in
    length-append (freed_below device past m) (freed_at device past m) ∙ ap₂ ◌+◌ (none_freed past m none) here

-- One number more counts where it is k.
one_more : (k m : ℕ) → one_if (nat_lt k m) + one_if (m == k) ≡ one_if (nat_lt k (suc m))
one_more k m = grind (arith, nat_tests)

-- Where object k alone is released, it has one.
one_freed : (past : Past) (k m : ℕ) → is_some (resource_at past k) ≡ true → ((n : ℕ) → is_freed device past n ≡ (n == k)) → length (freed_below device past m) ≡ one_if (nat_lt k m)
one_freed past k zero resource only = ap one_if (sym (le-ltb k 0 (omega arith)))
one_freed past k (suc m) resource only =
    let some : (m == k) ≡ true → is_some (resource_at past m) ≡ true = λ same. ap (λ n. is_some (resource_at past n)) (eqb-true m k same) ∙ resource in
    let here : length (freed_at device past m) ≡ one_if (m == k) =
    ap (λ (b : Bool). length {A = ℕ × Sort} (if b then option_to_list (option_map (λ (sort : Sort). (m, sort)) (resource_at past m)) else [])) (only m) ∙ length_if (m == k) m (resource_at past m) some in
    length-append (freed_below device past m) (freed_at device past m) ∙ (ap₂ ◌+◌ (one_freed past k m resource only) here ∙ one_more k m)

-- ---- faults

-- An entry without a fault adds none.
faults_same : (entry : Entry) (past : Past) → is_fault entry ≡ false → count_by is_fault (entry ∷ past) ≡ count_by is_fault past
faults_same entry past met =
    sum_by-cons (λ (entry : Entry). cond (is_fault entry) 1 0) entry past ∙ (ap (λ (b : Bool). cond b 1 0 + count_by is_fault past) met ∙ omega arith)

-- ---- all operations become complete

-- the reply to a completion that is taken, where no device is lost and no promise waits
complete_reply : (op : ℕ) (lost taken : Bool) (waits : List Wait) → lost ≡ false → taken ≡ true → waits ≡ []
    → ◌≡◌ {A = Reply} (record { answer = (if taken then Plain else BadCompletion); fault = (if lost then None else None); settled = (if taken then settle_all kept_how (filter (is_kept op) waits) else []) }) plain
complete_reply op true taken waits kept done none = absurd (true≢false kept)
complete_reply op false false waits kept done none = absurd (true≢false (sym done))
complete_reply op false true waits kept done none = ap (λ (list : List Wait). record { answer = Plain; fault = None; settled = settle_all kept_how (filter (is_kept op) list) }) none

pub complete_answer : (past : Past) → Calm 8 past → 1 ≤ issued past → reply_to device past (event.Complete (issued past)) ≡ plain
complete_answer past calm some =
    let none : completed past ≡ 0 = calm.incomplete in
    let taken : is_taken past (issued past) ≡ true =
    and_from (nat_lt (completed past) (issued past)) (nat_le (issued past) (issued past)) (lt-ltb (completed past) (issued past) (omega arith)) (le-leb (issued past) (issued past) (omega arith)) in
    complete_reply (issued past) (is_lost past) (is_taken past (issued past)) (awaiting past) calm.lost taken calm.quiet

pub complete_ended : (past : Past) (who : ℕ) → Calm 8 past → 1 ≤ issued past → Ended 0 (entry_of who (event.Complete (issued past)) plain ∷ past)
complete_ended past who calm some =
    let entry : Entry = entry_of who (event.Complete (issued past)) plain in
    let due : (n : ℕ) → is_due device (entry ∷ past) n ≡ false = λ n. due_none (entry ∷ past) n (calm.undropped n) (calm.whole n) in
    let none : (n : ℕ) → nat_lt n 0 ≡ false = λ n. le-ltb n 0 (omega arith) in
    let no : length (freed device (entry ∷ past)) ≡ 0 = none_freed (entry ∷ past) (count past) (λ n. and_left (is_due device (entry ∷ past) n) _ (due n)) in
    record {
      run = ap₂ (λ (reply : Reply) (replies : List Reply). reply ∷ replies) (sym (complete_answer past calm some)) calm.run;
      lost = calm.lost;
      undropped = calm.undropped;
      destroyed = λ n. calm.whole n ∙ sym (none n);
      quiet = ap (λ (waits : List Wait). unsettled [] (waits ++ [])) calm.quiet;
      buffers = λ n lt. buffer_stays entry past n (calm.buffers n lt);
      others = calm.others;
      complete = refl;
      released = λ n. or_from (is_due device (entry ∷ past) n) (is_released device past n) (due n) (calm.unreleased n) ∙ sym (none n);
      used = λ n. (let used : last_use past n ≤ issued past = calm.used n in omega arith);
      faults = faults_same entry past refl ∙ calm.faults;
      frees = frees_more entry past ∙ ap₂ ◌+◌ calm.frees no;
    }

-- ---- a buffer is destroyed

-- it meets the rules
destroy_met : (k : ℕ) (past : Past) → dropped_at device past k ≡ None → IsBuffer past k → destroy_rule device past (ref k) ≡ None
unfolding destroy_rule
destroy_met k past undropped its = by_rules (option_map_or has_memory (info_at past k) false) (is_dropped device past k) (ap (λ (o : Option Info). option_map_or has_memory o false) its.info) (ap (λ (o : Option ℕ). is_some o) undropped)
  where
    by_rules : (own dropped : Bool) → own ≡ true → dropped ≡ false → first_unmet ((OBJECT_IS_OF_DEVICE, own) ∷ ((OBJECT_IS_NOT_DROPPED, not dropped) ∷ [])) ≡ None
    by_rules true false e f = refl
    by_rules true true e f = absurd (true≢false f)
    by_rules false dropped e f = absurd (true≢false (sym e))

-- the reply to a destroy that meets its rules, where no device is lost and no promise waits
destroy_reply : (past : Past) (k : ℕ) (lost : Bool) (rule : Option ℕ) (waits : List Wait) → lost ≡ false → rule ≡ None → waits ≡ []
    → ◌≡◌ {A = Reply} (record { answer = Plain; fault = fault_by past lost rule; settled = (if is_none rule then settle_all ended_how (filter (is_map_of k) waits) else []) }) plain
destroy_reply past k true rule waits kept met none = absurd (true≢false kept)
destroy_reply past k false (Some rule) waits kept met none = absurd (cc (met))
destroy_reply past k false None waits kept met none = ap (λ (list : List Wait). record { answer = Plain; fault = None; settled = settle_all ended_how (filter (is_map_of k) list) }) none

pub destroy_answer : (k : ℕ) (past : Past) → Ended k past → k < 8 → reply_to device past (destroy k) ≡ plain
destroy_answer k past ended lt =
    destroy_reply past k (is_lost past) (destroy_rule device past (ref k)) (awaiting past) ended.lost (destroy_met k past (ended.undropped k) (ended.buffers k lt)) ended.quiet

-- Those below the next number are those below k, and k.
next_number : (k n : ℕ) → ((k == n && true) || nat_lt n k) ≡ nat_lt n (suc k)
next_number k n = grind (arith, nat_tests)

-- What is so once buffer k is destroyed too: those up to it are destroyed, of which it alone is due now and was not released before.
record Destroys (k : ℕ) (past : Past) (entry : Entry) : Type 0 where
  destroyed : (n : ℕ) → is_destroyed device (entry ∷ past) n ≡ nat_lt n (suc k)
  resource : is_some (resource_at (entry ∷ past) k) ≡ true
  here : is_due device (entry ∷ past) k ≡ true
  later : (n : ℕ) → k < n → is_due device (entry ∷ past) n ≡ false

destroys_next : (k : ℕ) (past : Past) (who : ℕ) → Ended k past → k < 8 → Destroys k past (entry_of who (destroy k) plain)
destroys_next k past who ended lt =
    let entry : Entry = entry_of who (destroy k) plain in
    let met : is_none (destroy_rule device past (ref k)) ≡ true = ap (λ (o : Option ℕ). is_none o) (destroy_met k past (ended.undropped k) (ended.buffers k lt)) in
    let destroyed : (n : ℕ) → is_destroyed device (entry ∷ past) n ≡ nat_lt n (suc k) =
    λ n. ap₂ (λ (rules before : Bool). (k == n && rules) || before) met (ended.destroyed n) ∙ next_number k n in
    let resource : is_some (resource_at (entry ∷ past) k) ≡ true = ap (λ (o : Option Sort). is_some o) (ended.buffers k lt).resource in
    let used : last_use past k ≤ issued past = ended.used k in
    let complete : completed past ≡ issued past = ended.complete in
    record {
      destroyed = destroyed;
      resource = resource;
      here = is_due_now (entry ∷ past) k resource (destroyed k ∙ lt-ltb k (suc k) (omega arith)) (omega arith);
      later = λ n above. due_none (entry ∷ past) n (ended.undropped n) (destroyed n ∙ le-ltb n (suc k) (omega arith));
    }

-- That one alone is released now,
only_freed : (k : ℕ) (past : Past) (entry : Entry) → Destroys k past entry → ((n : ℕ) → is_released device past n ≡ nat_lt n k) → (n : ℕ) → is_freed device (entry ∷ past) n ≡ (n == k)
only_freed k past entry its released n = by_order (cases_order n k)
  where
    by_order : (n ≡ k) ⊎ ((n < k) ⊎ (k < n)) → is_freed device (entry ∷ past) n ≡ (n == k)
    by_order (inl same) = ap₂ (λ (due before : Bool). due && not before) (ap (is_due device (entry ∷ past)) same ∙ its.here) (released n ∙ le-ltb n k (omega arith)) ∙ sym (eq-eqb n k same)
    by_order (inr (inl below)) = and_right (is_due device (entry ∷ past) n) (not (is_released device past n)) (ap not (released n ∙ lt-ltb n k below)) ∙ sym (ne_eqb n k (λ e. omega arith))
    by_order (inr (inr above)) = and_left (is_due device (entry ∷ past) n) (not (is_released device past n)) (its.later n above) ∙ sym (ne_eqb n k (λ e. omega arith))

-- so that those up to it are released.
released_next : (k : ℕ) (past : Past) (entry : Entry) → Destroys k past entry → ((n : ℕ) → is_released device past n ≡ nat_lt n k) → (n : ℕ) → is_released device (entry ∷ past) n ≡ nat_lt n (suc k)
released_next k past entry its released n = by_order (cases_order n k)
  where
    by_order : (n ≡ k) ⊎ ((n < k) ⊎ (k < n)) → is_released device (entry ∷ past) n ≡ nat_lt n (suc k)
    by_order (inl same) = or_left (is_due device (entry ∷ past) n) (is_released device past n) (ap (is_due device (entry ∷ past)) same ∙ its.here) ∙ sym (lt-ltb n (suc k) (omega arith))
    by_order (inr (inl below)) = or_right (is_due device (entry ∷ past) n) (is_released device past n) (released n ∙ lt-ltb n k below) ∙ sym (lt-ltb n (suc k) (omega arith))
    by_order (inr (inr above)) = or_from (is_due device (entry ∷ past) n) (is_released device past n) (its.later n above) (released n ∙ le-ltb n k (omega arith)) ∙ sym (le-ltb n (suc k) (omega arith))

pub destroy_ended : (k : ℕ) (past : Past) (who : ℕ) → Ended k past → k < 8 → Ended (suc k) (entry_of who (destroy k) plain ∷ past)
destroy_ended k past who ended lt =
    let entry : Entry = entry_of who (destroy k) plain in
    let its : Destroys k past entry = destroys_next k past who ended lt in
    let one : length (freed device (entry ∷ past)) ≡ 1 =
    one_freed (entry ∷ past) k (count past) its.resource (only_freed k past entry its ended.released) ∙ ap one_if (lt-ltb k (count past) (ended.buffers k lt).below) in
    record {
      run = ap₂ (λ (reply : Reply) (replies : List Reply). reply ∷ replies) (sym (destroy_answer k past ended lt)) ended.run;
      lost = ended.lost;
      undropped = ended.undropped;
      destroyed = its.destroyed;
      quiet = ap (λ (waits : List Wait). unsettled [] (waits ++ [])) ended.quiet;
      buffers = λ n below. buffer_stays entry past n (ended.buffers n below);
      others = ended.others;
      complete = ended.complete;
      released = released_next k past entry its ended.released;
      used = λ n. (let used : last_use past n ≤ issued past = ended.used n in omega arith);
      faults = faults_same entry past refl ∙ ended.faults;
      frees = frees_more entry past ∙ (ap₂ ◌+◌ ended.frees one ∙ omega arith);
    }
