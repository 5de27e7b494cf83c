-- What a lane has open of its own: an encoder or a command buffer that it makes is so, and stays so where others go on.
use Rattle.std.proofs.Common.{◌≡◌, ◌<◌, ◌⊎◌, ℕ, ◌+◌, ◌∷◌, Bool, true, false, ◌&&◌, ◌==◌, Option, Some, refl, ap, sym, ◌∙◌, subst, arith, if◌then◌else◌, true≢false, inl, inr, eq-eqb, eqb-true}
use Rattle.std.specs.Option.{option_map_or}
use Rattle.std.proofs.lemmas.Bool.{and_parts, or_cases, or_from}
use Rattle.wg_types.specs.declared.handles.Info.{Info}
use Rattle.wg_types.specs.declared.handles.Info.TheVariants as info
use Rattle.wg_trace.specs.declared.replies.Reply.{Reply}
use Rattle.wg_history.specs.declared.events.Event.TheVariants as event
use Rattle.wg_history.specs.Entries.{Entry, Past}
use Rattle.wg_history.specs.Objects.{is_making, count, maker, info_at, is_own, is_valid, is_made_valid, takes_commands, is_command_buffer}
use Rattle.wg_history.specs.Rules.{has_finished, ends_encoder, is_consumed, consumes}
use Rattle.wg_history.proofs.Makers.{maker_stays, info_stays, maker_new, made_more}
use Rattle.wg_history.proofs.Unborn.{ended_new, consumed_new}
use Rattle.wg_gen.specs.declared.draws.Spot.{Spot}
use Rattle.wg_gen.proofs.Facts.{device, ref, write, finish, submit, made, entry_of, Calm, MadeBy, Encodes, Submits, IsOwn}

-- ---- what is known of an object stays

pub valid_stays : (past : Past) (entry : Entry) (n : ℕ) → n < count past → is_valid (entry ∷ past) n ≡ is_valid past n
valid_stays past entry n lt = ap (λ (o : Option Entry). option_map_or (λ entry. is_made_valid entry.reply.answer) o false) (maker_stays past entry n lt)

pub made_by_stays : (past : Past) (entry : Entry) (who n : ℕ) → n < count past → MadeBy past who n → MadeBy (entry ∷ past) who n
made_by_stays past entry who n lt its = record { entry = its.entry; made = maker_stays past entry n lt ∙ its.made; by = its.by }

-- One caller made it.
one_maker : (past : Past) (first second n : ℕ) → MadeBy past first n → MadeBy past second n → first ≡ second
one_maker past first second n one other =
    let same : one.entry ≡ other.entry = cc (one.made, other.made) in
    sym one.by ∙ (ap (λ (entry : Entry). entry.who) same ∙ other.by)

-- ---- what is made

if_yes : {A : Type 0} (b : Bool) (x y : A) → b ≡ true → (if b then x else y) ≡ x
if_yes true x y h = refl
if_yes false x y h = absurd (true≢false (sym h))

info_new : (past : Past) (known : Info) → (if count past == count past then Some known else info_at past (count past)) ≡ Some known
info_new past known = if_yes (count past == count past) (Some known) (info_at past (count past)) (eq-eqb (count past) (count past) refl)

maker_is : (past : Past) (entry : Entry) → is_making entry.event ≡ true → maker (entry ∷ past) (count past) ≡ Some entry
maker_is past entry making =
    let more : count past < count (entry ∷ past) = subst (λ (b : Bool). count past < (if b then count past + 1 else count past)) (sym making) (omega arith) in
    maker_new entry past (count past) (omega arith) more

-- An object is valid where its maker's answer is so.
valid_new : (past : Past) (entry : Entry) → maker (entry ∷ past) (count past) ≡ Some entry → is_valid (entry ∷ past) (count past) ≡ is_made_valid entry.reply.answer
valid_new past entry here = ap (λ (o : Option Entry). option_map_or (λ entry. is_made_valid entry.reply.answer) o false) here

pub encodes_new : (past : Past) (who : ℕ) → Calm 8 past → Encodes (entry_of who event.CreateEncoder (made past) ∷ past) who (count past)
encodes_new past who calm =
    let entry : Entry = entry_of who event.CreateEncoder (made past) in
    let here : maker (entry ∷ past) (count past) ≡ Some entry = maker_is past entry refl in
    record {
      by = record { entry = entry; made = here; by = refl };
      below = omega arith;
      info = info_new past info.Encoder;
      valid = valid_new past entry here;
      open_ = ended_new device past (count past) (omega arith);
    }

pub submits_new : (past : Past) (who n : ℕ) (spot : Spot) → Calm 8 past → Submits (entry_of who (finish n spot) (made past) ∷ past) who (count past)
submits_new past who n spot calm =
    let entry : Entry = entry_of who (finish n spot) (made past) in
    let here : maker (entry ∷ past) (count past) ≡ Some entry = maker_is past entry refl in
    record {
      by = record { entry = entry; made = here; by = refl };
      below = omega arith;
      info = info_new past info.CommandBuffer;
      valid = valid_new past entry here;
      fresh = consumed_new device past (count past) (omega arith);
    }

-- ---- what stays

pub encodes_stays : (past : Past) (entry : Entry) (who n : ℕ) → Encodes past who n → IsOwn past entry → (entry.who ≡ who → ⊥) → Encodes (entry ∷ past) who n
encodes_stays past entry who n its own other = record {
  by = made_by_stays past entry who n its.below its.by;
  below = made_more (is_making entry.event) (count past) n its.below;
  info = info_stays past entry n its.below ∙ its.info;
  valid = valid_stays past entry n its.below ∙ its.valid;
  open_ = or_from (ends_encoder device past entry.event n) (has_finished device past n) (by_test (ends_encoder device past entry.event n) refl) its.open_;
}
  where
    by_test : (b : Bool) → ends_encoder device past entry.event n ≡ b → b ≡ false
    by_test true ends = absurd (other (one_maker past entry.who who n (own.ends n ends) its.by))
    by_test false ends = refl

pub submits_stays : (past : Past) (entry : Entry) (who n : ℕ) → Submits past who n → IsOwn past entry → (entry.who ≡ who → ⊥) → Submits (entry ∷ past) who n
submits_stays past entry who n its own other = record {
  by = made_by_stays past entry who n its.below its.by;
  below = made_more (is_making entry.event) (count past) n its.below;
  info = info_stays past entry n its.below ∙ its.info;
  valid = valid_stays past entry n its.below ∙ its.valid;
  fresh = or_from (consumes device past entry.event n) (is_consumed device past n) (by_test (consumes device past entry.event n) refl) its.fresh;
}
  where
    by_test : (b : Bool) → consumes device past entry.event n ≡ b → b ≡ false
    by_test true submits = absurd (other (one_maker past entry.who who n (own.submits n submits) its.by))
    by_test false submits = refl

-- ---- the entries of a lane

pub write_own : (past : Past) (who : ℕ) (spot : Spot) (reply : Reply) → IsOwn past (entry_of who (write spot) reply)
write_own past who spot reply = record { ends = λ n h. absurd (true≢false (sym h)); submits = λ n h. absurd (true≢false (sym h)) }

pub create_own : (past : Past) (who : ℕ) (reply : Reply) → IsOwn past (entry_of who event.CreateEncoder reply)
create_own past who reply = record { ends = λ n h. absurd (true≢false (sym h)); submits = λ n h. absurd (true≢false (sym h)) }

-- a reference of the kind to another number is to an object of the same caller
named_own : (past : Past) (who n m : ℕ) (kind : Info → Bool) → MadeBy past who n → (n == m && is_own device past kind (ref n)) ≡ true → MadeBy past who m
named_own past who n m kind its h =
    let same : n ≡ m = eqb-true n m (and_parts (n == m) (is_own device past kind (ref n)) h).0 in
    subst (λ k. MadeBy past who k) same its

pub finish_own : (past : Past) (who n : ℕ) (spot : Spot) (reply : Reply) → Encodes past who n → IsOwn past (entry_of who (finish n spot) reply)
finish_own past who n spot reply its = record { ends = λ m h. named_own past who n m takes_commands its.by h; submits = λ m h. absurd (true≢false (sym h)) }

pub submit_own : (past : Past) (who n : ℕ) (reply : Reply) → Submits past who n → IsOwn past (entry_of who (submit n) reply)
submit_own past who n reply its = record { ends = λ m h. absurd (true≢false (sym h)); submits = λ m h. by_head m (or_cases (n == m && is_own device past is_command_buffer (ref n)) false h) }
  where
    by_head : (m : ℕ) → ((n == m && is_own device past is_command_buffer (ref n)) ≡ true) ⊎ (false ≡ true) → MadeBy past who m
    by_head m (inl here) = named_own past who n m is_command_buffer its.by here
    by_head m (inr none) = absurd (true≢false (sym none))
