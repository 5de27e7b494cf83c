-- What holds of all that the commands of a recording do whose rules are met, where some such thing holds of each command.
use Rattle.std.specs.Prelude.{option_to_list, reverse}
use Rattle.std.specs.Option.{option_or}
use Rattle.std.proofs.Common.{◌≡◌, ℕ, List, [], ◌∷◌, Bool, true, false, Option, Some, None, refl, sym, subst, if◌then◌else◌}
use Rattle.std.proofs.lemmas.List.{reverse-append}
use Rattle.wg_types.specs.declared.limits.Maker.{Maker}
use Rattle.wg_types.specs.Commands.{Command, is_begin, is_end}
use Rattle.wg_types.specs.declared.commands.On.{On}
use Rattle.wg_types.specs.declared.commands.On.TheVariants.{Encoder, Pass}
use Rattle.wg_rows.specs.Rows.{EachRow}
use Rattle.wg_model.specs.Touches.{Doing, encoder_does}
use Rattle.wg_model.specs.Walk.{Kept, PassSoFar, rule_in, pass_rule, pass_does, begins, is_open, pass_after, pass_begun, open_after, open_pass, handed, encoder_depth, encoder_gives, given, verdict, does_within, does_at, doings}
use Rattle.wg_model.proofs.StepLaws.{each_joined}

pub or_none : {A : Type 0} (a b : Option A) → option_or a b ≡ None → (a ≡ None) × (b ≡ None)
or_none None b e = (refl, e)
or_none (Some x) b e = absurd (cc)

-- of each command
abbrev pub EachKept : (Command → Type 0) → Kept → Type 0
EachKept C kept = EachRow (λ (one : On × Command). C one.1) kept

-- of all that is done, by where it is
abbrev pub EachDone : (On → Doing → Type 0) → Kept → Type 0
EachDone D [] = Unit {0}
EachDone D (kept ∷ older) = EachDone D older × EachRow (D kept.0) (option_to_list (does_at (open_pass older) kept.0 kept.1))

-- What a command does whose rules are met: one on an unlocked encoder, and one of a pass.
pub record Does (maker : Maker) (C : Command → Type 0) (D : On → Doing → Type 0) : Type 0 where
  pub on_encoder : (depth : ℕ) (command : Command) → C command → encoder_gives maker None depth command ≡ None → EachRow (D Encoder) (option_to_list (encoder_does command))
  pub in_pass : (number : ℕ) (begin : Command) (earlier : List Command) (command : Command) → C begin → EachRow C earlier → C command → pass_rule maker begin (command ∷ earlier) ≡ None
      → EachRow (D (Pass number)) (option_to_list (pass_does begin earlier command))

-- the open pass is of such commands, and its rules are met
abbrev HasPass : (Command → Type 0) → Option PassSoFar → Type 0
HasPass C None = Unit {0}
HasPass C (Some pass) = C pass.begin × EachRow C pass.earlier

abbrev IsMetPass : Maker → Option PassSoFar → Type 0
IsMetPass maker None = Unit {0}
IsMetPass maker (Some pass) = pass_rule maker pass.begin pass.earlier ≡ None

begun_has : (C : Command → Type 0) (opened : Option PassSoFar) (number : ℕ) (command : Command) → C command → HasPass C opened → HasPass C (pass_begun opened number command)
begun_has C (Some pass) number command own h = h
begun_has C None number command own h = by_test (is_begin command)
  where
    by_test : (b : Bool) → HasPass C (if b then Some (record { number = number; begin = command; earlier = [] }) else None)
    by_test true = (own, tt)
    by_test false = tt

after_has : (C : Command → Type 0) (opened : Option PassSoFar) (command : Command) → C command → HasPass C opened → HasPass C (pass_after opened command)
after_has C None command own h = tt
after_has C (Some pass) command own h = by_test (is_end command)
  where
    by_test : (b : Bool) → HasPass C (if b then None else Some (record pass { earlier = command ∷ pass.earlier }))
    by_test true = tt
    by_test false = (h.0, (own, h.1))

one_has : (C : Command → Type 0) (opened : Option PassSoFar) (number : ℕ) (on : On) (command : Command) → C command → HasPass C opened → HasPass C (open_after opened number on command)
one_has C opened number Encoder command own h = begun_has C opened number command own h
one_has C opened number (Pass pass) command own h = by_test (is_open opened pass)
  where
    by_test : (b : Bool) → HasPass C (if b then pass_after opened command else opened)
    by_test true = after_has C opened command own h
    by_test false = h

open_has : (C : Command → Type 0) (kept : Kept) → EachKept C kept → HasPass C (open_pass kept)
open_has C [] each = tt
open_has C (kept ∷ older) each = one_has C (open_pass older) (begins older) kept.0 kept.1 each.0 (open_has C older each.1)

-- One more command: what the pass before it has, and what it does.
abbrev Holds : Maker → (Doing → Type 0) → Option PassSoFar → Option Doing → Type 0
Holds maker D opened done = IsMetPass maker opened × EachRow D (option_to_list done)

within_holds : (maker : Maker) (C : Command → Type 0) (D : On → Doing → Type 0) → Does maker C D → (number : ℕ) (opened : Option PassSoFar) (command : Command) → C command → HasPass C opened → handed maker opened command ≡ None
    → IsMetPass maker (pass_after opened command) → Holds maker (D (Pass number)) opened (does_within opened command)
within_holds maker C D does number None command own has e met = (tt, tt)
within_holds maker C D does number (Some pass) command own has e met =
    let whole : pass_rule maker pass.begin (command ∷ pass.earlier) ≡ None = by_end (is_end command) e met in
    ((or_none (pass_rule maker pass.begin pass.earlier) (rule_in maker pass.begin pass.earlier command) whole).0, does.in_pass number pass.begin pass.earlier command has.0 has.1 own whole)
  where
    by_end : (b : Bool) → (if b then pass_rule maker pass.begin (command ∷ pass.earlier) else None) ≡ None → IsMetPass maker (if b then None else Some (record pass { earlier = command ∷ pass.earlier })) → pass_rule maker pass.begin (command ∷ pass.earlier) ≡ None
    by_end true e met = e
    by_end false e met = met

encoder_holds : (maker : Maker) (C : Command → Type 0) (D : On → Doing → Type 0) → Does maker C D → (depth : ℕ) (opened : Option PassSoFar) (command : Command) → C command → encoder_gives maker opened depth command ≡ None
    → Holds maker (D Encoder) opened (does_at opened Encoder command)
encoder_holds maker C D does depth (Some pass) command own e = absurd (cc)
encoder_holds maker C D does depth None command own e = (tt, does.on_encoder depth command own e)

at_holds : (maker : Maker) (C : Command → Type 0) (D : On → Doing → Type 0) → Does maker C D → (depth number : ℕ) (opened : Option PassSoFar) (on : On) (command : Command) → C command → HasPass C opened
    → given maker opened depth on command ≡ None → IsMetPass maker (open_after opened number on command) → Holds maker (D on) opened (does_at opened on command)
at_holds maker C D does depth number opened Encoder command own has e met = encoder_holds maker C D does depth opened command own e
at_holds maker C D does depth number opened (Pass pass) command own has e met = by_open (is_open opened pass) e met
  where
    by_open : (b : Bool) → (if b then handed maker opened command else None) ≡ None → IsMetPass maker (if b then pass_after opened command else opened) → Holds maker (D (Pass pass)) opened (if b then does_within opened command else None)
    by_open true e met = within_holds maker C D does pass opened command own has e met
    by_open false e met = (met, tt)

all_hold : (maker : Maker) (C : Command → Type 0) (D : On → Doing → Type 0) → Does maker C D → (kept : Kept) → EachKept C kept → verdict maker kept ≡ None → IsMetPass maker (open_pass kept) → EachDone D kept
all_hold maker C D does [] each e met = tt
all_hold maker C D does (kept ∷ older) each e met =
    let rules : (verdict maker older ≡ None) × (given maker (open_pass older) (encoder_depth older) kept.0 kept.1 ≡ None) = or_none (verdict maker older) (given maker (open_pass older) (encoder_depth older) kept.0 kept.1) e in
    let one : Holds maker (D kept.0) (open_pass older) (does_at (open_pass older) kept.0 kept.1) = at_holds maker C D does (encoder_depth older) (begins older) (open_pass older) kept.0 kept.1 each.0 (open_has C older each.1) rules.1 met in
    (all_hold maker C D does older each.1 rules.0 one.0, one.1)

no_pass : (maker : Maker) (o : Option PassSoFar) → o ≡ None → IsMetPass maker o
no_pass maker o e = subst (IsMetPass maker) (sym e) tt

-- It holds where the recording has no verdict and no open pass.
pub walked : (maker : Maker) (C : Command → Type 0) (D : On → Doing → Type 0) → Does maker C D → (kept : Kept) → EachKept C kept → verdict maker kept ≡ None → open_pass kept ≡ None → EachDone D kept
walked maker C D does kept each e none = all_hold maker C D does kept each e (no_pass maker (open_pass kept) none)

pub each_done : (D : Doing → Type 0) (kept : Kept) → EachDone (λ on doing. D doing) kept → EachRow D (doings kept)
each_done D [] h = tt
each_done D (kept ∷ older) h = each_joined D (doings older) (option_to_list (does_at (open_pass older) kept.0 kept.1)) (each_done D older h.0) h.1

pub kept_reverse : (C : Command → Type 0) (kept : Kept) → EachKept C kept → EachKept C (reverse kept)
kept_reverse C [] h = tt
kept_reverse C (one ∷ kept) h = subst (EachKept C) (sym (reverse-append (one ∷ []) kept)) (each_joined (λ (one : On × Command). C one.1) (reverse kept) (one ∷ []) (kept_reverse C kept h.1) (h.0, tt))
