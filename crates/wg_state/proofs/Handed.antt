-- The recordings that are handed out were kept, and no submit is accepted of them any more.
use Rattle.std.proofs.Common.{◌≡◌, ℕ, ◌+◌, ◌<◌, List, [], ◌∷◌, ◌++◌, take, length, get_or, reverse, Bool, true, false, ◌&&◌, ◌||◌, ◌==◌, Option, Some, None, option_to_list, inl, inr, refl, ap, ap₂, sym, ◌∙◌, append-nil, append_assoc, true≢false}
use Rattle.std.specs.List.{list_any, AllByRecursion}
use Rattle.std.proofs.lemmas.Bool.{cases_lt, eq-eqb}
use Rattle.std.proofs.lemmas.List.{take_more}
use Rattle.std.proofs.lemmas.List.Folds.{list_any-append}
use Rattle.wg_types.specs.declared.handles.ObjRef.{ObjRef}
use Rattle.wg_encoder.specs.Recorders.{RecordingValue}
use Rattle.wg_history.specs.declared.events.Setup.{Setup}
use Rattle.wg_history.specs.declared.events.Event.{Event}
use Rattle.wg_history.specs.Entries.{Entry, Past}
use Rattle.wg_history.specs.Objects.{count}
use Rattle.wg_state.specs.Rows.{is_at, dropped_by}
use Rattle.wg_history.specs.Rules.{drops, is_dropped, consumes}
use Rattle.wg_state.specs.Recordings.{kept_at, recording_at, is_spent, forgotten, left_at, AreLeft, Forgets, WasKept, HandsOut, WasSpent, HandsOutSpent, spends}
use Rattle.wg_state.proofs.NoteLemmas.{drops_at}
use Rattle.wg_state.proofs.Recorded.{spent_next, none_left, recording_stays}

abbrev Kept : Type 0
Kept = List (ℕ × RecordingValue)

abbrev Recordings : Type 0
Recordings = List RecordingValue

-- lists of which each member is so

all_as : (P Q : RecordingValue → Type 0) → ((r : RecordingValue) → P r → Q r) → (rs : Recordings) → AllByRecursion P rs → AllByRecursion Q rs
all_as P Q f [] h = tt
all_as P Q f (r ∷ rs) h = (f r h.0, all_as P Q f rs h.1)

all_joined : (P : RecordingValue → Type 0) (rs ss : Recordings) → AllByRecursion P rs → AllByRecursion P ss → AllByRecursion P (rs ++ ss)
all_joined P [] ss h k = k
all_joined P (r ∷ rs) ss h k = (h.0, all_joined P rs ss h.1 k)

-- what is handed out

pub handed_none : (test : ℕ → Bool) (kept : Kept) (old : Recordings) → HandsOut test kept old old
handed_none test kept old = record { more = []; is = sym (append-nil old); each = tt }

pub handed_one : (k : ℕ) (kept : Kept) (old new : Recordings) → new ≡ old ++ option_to_list (kept_at kept k) → HandsOut (λ n. k == n) kept old new
handed_one k kept old new e = by_kept (kept_at kept k) refl e
  where
    by_kept : (o : Option RecordingValue) → kept_at kept k ≡ o → new ≡ old ++ option_to_list o → HandsOut (λ n. k == n) kept old new
    by_kept None k_is e = record { more = []; is = e; each = tt }
    by_kept (Some recording) k_is e = record { more = recording ∷ []; is = e; each = ((k, (eq-eqb k k refl, k_is)), tt) }

handed_as : (f g : ℕ → Bool) (kept : Kept) (old new : Recordings) → ((n : ℕ) → f n ≡ true → g n ≡ true) → HandsOut f kept old new → HandsOut g kept old new
handed_as f g kept old new same handed = record {
  more = handed.more;
  is = handed.is;
  each = all_as (WasKept f kept) (WasKept g kept) (λ r h. (h.0, (same h.0 h.1.0, h.1.1))) handed.more handed.each;
}

was_there : (b : Bool) (o : Option RecordingValue) (r : RecordingValue) → forgotten b o ≡ Some r → o ≡ Some r
was_there true o r e = absurd (cc)
was_there false o r e = e

or_left : (a b : Bool) → a ≡ true → (a || b) ≡ true
or_left true b e = refl
or_left false b e = absurd (true≢false (sym e))

or_right : (a b : Bool) → b ≡ true → (a || b) ≡ true
or_right true b e = refl
or_right false b e = e

handed_then : (f g : ℕ → Bool) (kept mid : Kept) (old between new : Recordings) → Forgets f kept mid → HandsOut f kept old between → HandsOut g mid between new → HandsOut (λ n. f n || g n) kept old new
handed_then f g kept mid old between new forgets first second = record {
  more = first.more ++ second.more;
  is = second.is ∙ (ap (λ (rs : Recordings). rs ++ second.more) first.is ∙ append_assoc old first.more second.more);
  each = all_joined (WasKept (λ n. f n || g n) kept) first.more second.more
      (all_as (WasKept f kept) (WasKept (λ n. f n || g n) kept) (λ r h. (h.0, (or_left (f h.0) (g h.0) h.1.0, h.1.1))) first.more first.each)
      (all_as (WasKept g mid) (WasKept (λ n. f n || g n) kept) (λ r h. (h.0, (or_right (f h.0) (g h.0) h.1.0, was_there (f h.0) (kept_at kept h.0) r (sym (forgets.each h.0) ∙ h.1.1)))) second.more second.each);
}

-- one that a submit lists, where that is a command buffer of the device
pub handed_listed : (k : ℕ) (own : Bool) (kept : Kept) (old new : Recordings) → own ≡ true → new ≡ old ++ option_to_list (kept_at kept k) → HandsOut (λ n. k == n && own) kept old new
handed_listed k own kept old new e is = handed_as (λ n. k == n) (λ n. k == n && own) kept old new (λ n h. ap₂ ◌&&◌ h e) (handed_one k kept old new is)

-- one more of what a submit lists
pub handed_more : (test : ObjRef → ℕ → Bool) (xs : List ObjRef) (i : ℕ) (d : ObjRef) (kept mid : Kept) (old between new : Recordings) → i < length xs
    → Forgets (λ n. list_any (λ y. test y n) (take i xs)) kept mid → HandsOut (λ n. list_any (λ y. test y n) (take i xs)) kept old between → HandsOut (test (get_or xs i d)) mid between new
    → HandsOut (λ n. list_any (λ y. test y n) (take (i + 1) xs)) kept old new
handed_more test xs i d kept mid old between new lt forgets first second =
    handed_as (λ n. list_any (λ y. test y n) (take i xs) || test (get_or xs i d) n) (λ n. list_any (λ y. test y n) (take (i + 1) xs)) kept old new
    (λ n h. ap (list_any (λ y. test y n)) (take_more xs i d lt) ∙ (list_any-append (λ y. test y n) (take i xs) (get_or xs i d ∷ []) ∙ (ap (λ b. list_any (λ y. test y n) (take i xs) || b) (or_no (test (get_or xs i d) n)) ∙ h)))
    (handed_then (λ n. list_any (λ y. test y n) (take i xs)) (test (get_or xs i d)) kept mid old between new forgets first second)
  where
    or_no : (b : Bool) → (b || false) ≡ b
    or_no true = refl
    or_no false = refl

-- one that an event drops
pub handed_dropped : (setup : Setup) (past : Past) (event : Event) (number : ℕ) (kept : Kept) (old new : Recordings) → dropped_by setup past event ≡ Some number → new ≡ old ++ option_to_list (kept_at kept number)
    → HandsOut (λ n. drops (is_dropped setup past n) setup past event n) kept old new
handed_dropped setup past event number kept old new e is =
    handed_as (λ n. number == n) (λ n. drops (is_dropped setup past n) setup past event n) kept old new (λ n h. drops_at setup past event n ∙ (ap (λ o. is_at o n) e ∙ h)) (handed_one number kept old new is)

pub handed_all : (setup : Setup) (past : Past) (event : Event) (kept mid : Kept) (old between new : Recordings) → Forgets (λ n. drops (is_dropped setup past n) setup past event n) kept mid
    → HandsOut (λ n. drops (is_dropped setup past n) setup past event n) kept old between → HandsOut (consumes setup past event) mid between new → HandsOut (spends setup past event) kept old new
handed_all setup past event kept mid old between new forgets first second =
    handed_as (λ n. drops (is_dropped setup past n) setup past event n || consumes setup past event n) (spends setup past event) kept old new
    (λ n h. swap (consumes setup past event n) (drops (is_dropped setup past n) setup past event n) ∙ h)
    (handed_then (λ n. drops (is_dropped setup past n) setup past event n) (consumes setup past event) kept mid old between new forgets first second)
  where
    swap : (a b : Bool) → (a || b) ≡ (b || a)
    swap true true = refl
    swap true false = refl
    swap false true = refl
    swap false false = refl

-- What an entry spends is spent after it, and is the recording of its command buffer.
spent_is : (setup : Setup) (entry : Entry) (past : Past) (kept : Kept) (r : RecordingValue) → AreLeft setup past kept → WasKept (spends setup past entry.event) kept r → WasSpent setup (entry ∷ past) r
spent_is setup entry past kept r are was =
    let left : left_at setup past was.0 ≡ Some r = sym (are.each was.0) ∙ was.1.1 in (
      was.0,
      (
        spent_next setup entry past was.0 ∙ or_right (is_spent setup past was.0) (spends setup past entry.event was.0) was.1.0,
        elim (cases_lt was.0 (count past)) [
          | inl less ↦ recording_stays entry past was.0 less ∙ was_there (is_spent setup past was.0) (recording_at past was.0) r left
          | inr more ↦ absurd (let gone : left_at setup past was.0 ≡ None = none_left setup past was.0 more in cc)
        ],
      ),
    )

pub handed_spent : (setup : Setup) (history : List Entry) (entry : Entry) (kept : Kept) (old new : Recordings) → AreLeft setup (reverse history) kept → HandsOut (spends setup (reverse history) entry.event) kept old new → HandsOutSpent setup (entry ∷ reverse history) old new
handed_spent setup history entry kept old new are handed = record {
  more = handed.more;
  is = handed.is;
  each = all_as (WasKept (spends setup (reverse history) entry.event) kept) (WasSpent setup (entry ∷ reverse history)) (λ r h. spent_is setup entry (reverse history) kept r are h) handed.more handed.each;
}
