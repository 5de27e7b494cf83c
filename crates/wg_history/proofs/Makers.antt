-- What made an object, and that an event which makes a valid one met its rules.
use Rattle.std.proofs.Common.{◌≡◌, ℕ, ◌+◌, ◌<◌, ◌≤◌, [], ◌∷◌, Bool, true, false, not, ◌&&◌, ◌==◌, Some, is_none, refl, ap, sym, ◌∙◌, arith, if◌then◌else◌, true≢false}
use Rattle.std.specs.Option.{option_map_or}
use Rattle.std.proofs.lemmas.Bool.{and_parts, and_from, eqb-true}
use Rattle.std.proofs.lemmas.Bool.Decides.{nat_tests}
use Rattle.wg_types.specs.declared.handles.Info.{Info}
use Rattle.wg_types.specs.declared.handles.ObjRef.{ObjRef}
use Rattle.wg_trace.specs.declared.replies.Reply.{Reply}
use Rattle.wg_history.specs.Entries.{Setup, effects_of, Entry, Past}
use Rattle.wg_history.specs.Objects.{is_making, count, maker, made_info, info_at, is_own, is_made_valid}
use Rattle.wg_history.specs.Loss.{is_lost}
use Rattle.wg_history.specs.FirstRules.{first_rule}
use Rattle.wg_history.specs.Answers.{answer_by, reply_to}

-- What made an object stays.
if_no : {A : Type 0} (b t : Bool) (x y : A) → t ≡ false → (if b && t then x else y) ≡ y
if_no true t x y h = ap (λ u. if u then x else y) h
if_no false t x y h = refl

pub maker_stays : (past : Past) (entry : Entry) (n : ℕ) → n < count past → maker (entry ∷ past) n ≡ maker past n
maker_stays past entry n lt = if_no (is_making entry.event) (count past == n) (Some entry) (maker past n) (grind (arith, nat_tests, lt))

pub info_stays : (past : Past) (entry : Entry) (n : ℕ) → n < count past → info_at (entry ∷ past) n ≡ info_at past n
info_stays past entry n lt = if_no (is_making entry.event) (count past == n) (made_info past entry.event) (info_at past n) (grind (arith, nat_tests, lt))

-- The entry that makes an object is its maker.
count_step : (b : Bool) (c n : ℕ) → c ≤ n → n < (if b then c + 1 else c) → (b ≡ true) × (n ≡ c)
count_step true c n le lt = (refl, omega (arith, le, lt))
count_step false c n le lt = absurd (omega (arith, le, lt))

pub maker_new : (entry : Entry) (older : Past) (n : ℕ) → count older ≤ n → n < count (entry ∷ older) → maker (entry ∷ older) n ≡ Some entry
maker_new entry older n le lt =
    let new : (is_making entry.event ≡ true) × (n ≡ count older) = count_step (is_making entry.event) (count older) n le lt in
    let same : (count older == n) ≡ true = grind (arith, nat_tests, new.1) in
    ap (λ b. if b then Some entry else maker older n) (and_from (is_making entry.event) (count older == n) new.0 same)

-- how the number of objects goes on

pub older_le : (b : Bool) (c n : ℕ) → (if b then c + 1 else c) ≤ n → c ≤ n
older_le true c n le = omega (arith, le)
older_le false c n le = le

pub count_grows : (b : Bool) (c k : ℕ) → k ≤ c → k ≤ (if b then c + 1 else c)
count_grows true c k le = omega (arith, le)
count_grows false c k le = le

pub made_more : (b : Bool) (c n : ℕ) → n < c → n < (if b then c + 1 else c)
made_more true c n lt = omega (arith, lt)
made_more false c n lt = lt

-- Of what something is known was made.
pub known_below : (past : Past) (test : Info → Bool) (n : ℕ) → option_map_or test (info_at past n) false ≡ true → n < count past
known_below [] test n h = absurd (true≢false (sym h))
known_below (entry ∷ older) test n h = by_maker (is_making entry.event) refl (count older == n) refl h (known_below older test n)
  where
    by_maker : (b : Bool) → is_making entry.event ≡ b → (t : Bool) → (count older == n) ≡ t → option_map_or test (if b && t then made_info older entry.event else info_at older n) false ≡ true → (option_map_or test (info_at older n) false ≡ true → n < count older) → n < (if b then count older + 1 else count older)
    by_maker true made true same h rest = let e = eqb-true (count older) n same in omega (arith, e)
    by_maker true made false other h rest = made_more true (count older) n (rest h)
    by_maker false made t same h rest = rest h

-- An own object was made.
pub own_below : (setup : Setup) (past : Past) (kind : Info → Bool) (object : ObjRef) → is_own setup past kind object ≡ true → object.number < count past
own_below setup past kind object own = known_below past kind object.number (and_parts (object.device == setup.serial) (option_map_or kind (info_at past object.number) false) own).1

-- An object that is valid was made by an event that met its rules.
pub made_met : (setup : Setup) (entry : Entry) (older : Past) → entry.reply ≡ reply_to setup older entry.event → is_made_valid entry.reply.answer ≡ true → is_made_valid (answer_by older (effects_of entry.event).form (not (is_lost older) && is_none (first_rule setup older entry.event))) ≡ true
made_met setup entry older same e = ap (λ (reply : Reply). is_made_valid reply.answer) (sym same) ∙ e
