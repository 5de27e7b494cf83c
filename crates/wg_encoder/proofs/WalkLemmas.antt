-- What is known of the kept commands after one more.
use Rattle.std.proofs.Common.{◌≡◌, ℕ, ◌+◌, ◌<◌, ◌==◌, ◌||◌, ◌++◌, inl, inr, Bool, true, false, Option, Some, None, List, [], ◌∷◌, length, get_or, slice_set, map, refl, sym, ◌∙◌, ap, arith, length-append, slice_index_or, is_some}
use Rattle.std.specs.Global.{Global}
use Rattle.std.specs.declared.boxed.Box.{Box}
use Rattle.std.proofs.lemmas.List.{length-set, get_or-set_other}
use Rattle.std.proofs.lemmas.Grind.{get_or-set_at}
use Rattle.std.proofs.Common.{◌≢◌}
use Rattle.std.proofs.lemmas.Bool.{cases_lt}
use Rattle.std.proofs.lemmas.Bool.Decides.{nat_tests}
use Rattle.std.proofs.lemmas.List.{get_or_append_left}
use Rattle.std.proofs.Math.Seq.{get_or-append_seam}
use Rattle.wg_types.specs.Commands.{Command}
use Rattle.wg_types.specs.declared.commands.On.TheVariants.{Encoder, Pass}
use Rattle.wg_types.specs.declared.commands.CommandOf.TheVariants.{BeginComputePass, BeginRenderPass}
use Rattle.wg_model.proofs.Walks.{ended_new, open_number_below}
use Rattle.wg_types.specs.Commands.{is_begin, is_end}
use Rattle.wg_types.specs.declared.limits.Maker.{Maker}
use Rattle.wg_model.specs.Rules.{first_unmet}
use Rattle.wg_model.specs.Commands.{command_rules}
use Rattle.wg_model.specs.Settings.{depth_after}
use Rattle.std.specs.Option.{option_to_list, option_or}
use Rattle.wg_rules.specs.declared.TheConstants.{NO_PASS_IS_OPEN}
use Rattle.wg_model.specs.Touches.{scope_in, deed_of, encoder_does}
use Rattle.wg_model.specs.Scopes.{first_clash}
use Rattle.wg_model.specs.Walk.{Kept, PassSoFar, pass_rule, pass_does, begins, open_pass, is_open, has_ended, encoder_depth, verdict, doings, deeds, usage_scopes}
use Rattle.wg_encoder.specs.Done.{done_by_encoder, done_by_pass, done_of}
use Rattle.wg_encoder.specs.Walked.{IsStateOf, IsOpenOf, IsWalkOf, IsNext}
use Rattle.wg_encoder.proofs.DoneLemmas.{or_none, after_nothing, after_encoder, after_pass}
use Rattle.wg_encoder.specs.declared.done.Done.{Done}
use Rattle.wg_encoder.specs.declared.walk.Walk.{Walk}
use Rattle.wg_encoder.specs.declared.walk.Opened.{Opened}

-- of two that are none, both are
or_first : {X : Type 0} (a b : Option X) → option_or a b ≡ None → a ≡ None
or_first None b h = refl
or_first (Some x) b h = h

or_second : {X : Type 0} (a b : Option X) → option_or a b ≡ None → b ≡ None
or_second None b h = h
or_second (Some x) b h = absurd (cc)

at_push : (marks : List Bool) (c n : ℕ) (d : ℕ → Bool) → length marks ≡ c → ((k : ℕ) → k < c → get_or marks k false ≡ d k) → d c ≡ false → n < c + 1 → get_or (marks ++ false ∷ []) n false ≡ d n
at_push marks c n d len each new lt = elim (cases_lt n c) [
  | inl below ↦ get_or_append_left marks (false ∷ []) false n (omega arith) ∙ each n below
  | inr above ↦ (let same : n ≡ length marks = omega arith in
      let here : n ≡ c = omega arith in rw here (rw (← len) (get_or-append_seam marks false [] false) ∙ sym new))
]

-- a command on a pass that is not open
pub walk_dead : (maker : Maker) (kept : Kept) (pass : ℕ) (command : Command) (walk : Walk) → IsWalkOf maker kept walk → is_open (open_pass kept) pass ≡ false → IsWalkOf maker ((Pass pass, command) ∷ kept) walk
walk_dead maker kept pass command walk m h = record {
  count = m.count;
  ended_is = λ n lt. m.ended_is n lt ∙ rw h refl;
  verdict_is = m.verdict_is ∙ rw h (sym (or_none _));
  depth_is = m.depth_is;
  open_is = rw h m.open_is;
  done_is = λ v r. m.done_is (or_first _ _ v) (rw h at r) ∙ rw h (sym (after_nothing (usage_scopes kept) (doings kept)));
}

some_is : (opened : Option PassSoFar) → is_some opened ≡ true → (q : PassSoFar) × (opened ≡ Some q)
some_is None h = absurd (cc)
some_is (Some q) h = (q, refl)

none_is : (opened : Option PassSoFar) → is_some opened ≡ false → opened ≡ None
none_is None h = refl
none_is (Some q) h = absurd (cc)

-- a dead pass: one that is begun on a locked encoder
dead_begun : (maker : Maker) (kept : Kept) (opened : PassSoFar) (command : Command) (walk : Walk) → IsWalkOf maker kept walk → open_pass kept ≡ Some opened → is_begin command ≡ true → IsWalkOf maker ((Encoder, command) ∷ kept) (record walk { verdict = option_or walk.verdict (Some NO_PASS_IS_OPEN); ended = walk.ended ++ false ∷ [] })
dead_begun maker kept opened command walk m e b = record {
  count = rw b (length-append walk.ended (false ∷ []) ∙ omega (arith, m.count));
  ended_is = λ n lt. at_push walk.ended (begins kept) n (has_ended kept) m.count m.ended_is (ended_new kept) (rw b at lt);
  verdict_is = rw e (ap (λ v. option_or v (Some NO_PASS_IS_OPEN)) m.verdict_is);
  depth_is = rw e m.depth_is;
  open_is = let o = m.open_is in rw e (rw e at o);
  done_is = λ v r. let w = or_second (verdict maker kept) _ v in absurd (let x = rw e at w in cc);
}

pub walk_dead_begun : (maker : Maker) (kept : Kept) (command : Command) (walk : Walk) → IsWalkOf maker kept walk → is_some (open_pass kept) ≡ true → is_begin command ≡ true → IsWalkOf maker ((Encoder, command) ∷ kept) (record walk { verdict = option_or walk.verdict (Some NO_PASS_IS_OPEN); ended = walk.ended ++ false ∷ [] })
walk_dead_begun maker kept command walk m l b = let q = some_is (open_pass kept) l in dead_begun maker kept q.0 command walk m q.1 b

-- a begin has no rule of the encoder, and leaves its debug groups
begin_depth : (depth : ℕ) (command : Command) → is_begin command ≡ true → depth_after depth command ≡ depth
begin_depth depth BeginComputePass b = refl
begin_depth depth (BeginRenderPass begin) b = refl
begin_depth depth _ b = absurd (cc)

begin_does : (command : Command) → is_begin command ≡ true → encoder_does command ≡ None
unfolding encoder_does
begin_does BeginComputePass b = refl
begin_does (BeginRenderPass begin) b = refl
begin_does _ b = absurd (cc)

-- a pass that is begun on an unlocked encoder
begun : (maker : Maker) (kept : Kept) (command : Command) (walk : Walk) (opened : Box Opened Global) → IsWalkOf maker kept walk → open_pass kept ≡ None → is_begin command ≡ true → opened.value.number ≡ begins kept → IsStateOf maker command [] opened.value.state → IsWalkOf maker ((Encoder, command) ∷ kept) (record walk { ended = walk.ended ++ false ∷ []; opened = Some opened })
begun maker kept command walk opened m e b n s = record {
  count = rw b (length-append walk.ended (false ∷ []) ∙ omega (arith, m.count));
  ended_is = λ k lt. at_push walk.ended (begins kept) k (has_ended kept) m.count m.ended_is (ended_new kept) (rw b at lt);
  verdict_is = rw e (rw b (m.verdict_is ∙ sym (or_none _)));
  depth_is = rw e (m.depth_is ∙ sym (begin_depth (encoder_depth kept) command b));
  open_is = rw e (rw b (n, s));
  done_is = λ v r. m.done_is (or_first _ _ v) (rw e refl) ∙ sym (after_encoder (usage_scopes kept) (doings kept) (encoder_does command) ∙ ap (done_by_encoder (done_of kept)) (begin_does command b));
}

-- a command on an unlocked encoder that begins no pass
abbrev NextVerdict : Maker → Walk → Command → Option ℕ
NextVerdict maker walk command = option_or walk.verdict (first_unmet (command_rules maker.device walk.depth command))

command_free : (maker : Maker) (kept : Kept) (command : Command) (walk : Walk) (done : Done) → IsWalkOf maker kept walk → open_pass kept ≡ None → is_begin command ≡ false → (NextVerdict maker walk command ≡ None → done ≡ done_by_encoder walk.done (encoder_does command)) → IsWalkOf maker ((Encoder, command) ∷ kept) (record walk { done = done; verdict = NextVerdict maker walk command; depth = depth_after walk.depth command })
command_free maker kept command walk done m e b d = record {
  count = rw b m.count;
  ended_is = λ n lt. m.ended_is n (rw b at lt);
  verdict_is = next;
  depth_is = rw e (ap (λ d. depth_after d command) m.depth_is);
  open_is = let o = m.open_is in rw e (rw b (rw e at o));
  done_is = λ v r. d (next ∙ v) ∙ (ap (λ done. done_by_encoder done (encoder_does command)) (m.done_is (or_first _ _ v) (rw e refl)) ∙ sym (after_encoder (usage_scopes kept) (doings kept) (encoder_does command)));
}
  where
    next : NextVerdict maker walk command ≡ verdict maker ((Encoder, command) ∷ kept)
    next = rw e (rw b (rw m.verdict_is (rw m.depth_is refl)))

pub walk_begun : (maker : Maker) (kept : Kept) (command : Command) (walk : Walk) (opened : Box Opened Global) → IsWalkOf maker kept walk → is_some (open_pass kept) ≡ false → is_begin command ≡ true → opened.value.number ≡ begins kept → IsStateOf maker command [] opened.value.state → IsWalkOf maker ((Encoder, command) ∷ kept) (record walk { ended = walk.ended ++ false ∷ []; opened = Some opened })
walk_begun maker kept command walk opened m f b n s = begun maker kept command walk opened m (none_is (open_pass kept) f) b n s

pub walk_command : (maker : Maker) (kept : Kept) (command : Command) (walk : Walk) (done : Done) → IsWalkOf maker kept walk → is_some (open_pass kept) ≡ false → is_begin command ≡ false → (option_or walk.verdict (first_unmet (command_rules maker.device walk.depth command)) ≡ None → done ≡ done_by_encoder walk.done (encoder_does command)) → IsWalkOf maker ((Encoder, command) ∷ kept) (record walk { done = done; verdict = option_or walk.verdict (first_unmet (command_rules maker.device walk.depth command)); depth = depth_after walk.depth command })
walk_command maker kept command walk done m f b d = command_free maker kept command walk done m (none_is (open_pass kept) f) b d

open_some : (opened : Option PassSoFar) (pass : ℕ) → is_open opened pass ≡ true → (q : PassSoFar) × (opened ≡ Some q)
open_some None pass h = absurd (cc)
open_some (Some q) pass h = (q, refl)

done_after : (maker : Maker) (kept : Kept) (q : PassSoFar) (command : Command) (walk : Walk) (old new : Box Opened Global) (after : Done) (rule : Option ℕ) → IsWalkOf maker kept walk → open_pass kept ≡ Some q → IsOpenOf maker (Some q) (Some old) → IsNext maker command old.value new.value walk.done after rule → verdict maker kept ≡ None → pass_rule maker q.begin (command ∷ q.earlier) ≡ None → after ≡ record { clash = first_clash (usage_scopes kept ++ map scope_in (option_to_list (pass_does q.begin q.earlier command))); deeds = map deed_of (doings kept ++ option_to_list (pass_does q.begin q.earlier command)) }
done_after maker kept q command walk old new after rule m e o next v r =
    (next.taken q.begin q.earlier o.1).done_is r
    ∙ (ap (λ done. done_by_pass done (pass_does q.begin q.earlier command)) (m.done_is v (rw e (or_first _ _ r)))
    ∙ sym (after_pass (usage_scopes kept) (doings kept) (pass_does q.begin q.earlier command)))

inside : (maker : Maker) (kept : Kept) (pass : ℕ) (q : PassSoFar) (command : Command) (walk : Walk) (old new : Box Opened Global) (after : Done) (rule : Option ℕ) → IsWalkOf maker kept walk → open_pass kept ≡ Some q → pass == q.number ≡ true → is_end command ≡ false → IsOpenOf maker (Some q) (Some old) → IsNext maker command old.value new.value walk.done after rule → IsWalkOf maker ((Pass pass, command) ∷ kept) (record walk { opened = Some new; done = after })
inside maker kept pass q command walk old new after rule m e h b o next = record {
  count = m.count;
  ended_is = λ n lt. m.ended_is n lt ∙ rw e (rw h (rw b refl));
  verdict_is = m.verdict_is ∙ rw e (rw h (rw b (sym (or_none _))));
  depth_is = m.depth_is;
  open_is = rw e (rw h (rw b (next.number ∙ o.0, (next.taken q.begin q.earlier o.1).state_is)));
  done_is = λ v r. rw e (rw h (done_after maker kept q command walk old new after rule m e o next (or_first _ _ v) (let x = rw e at r in let y = rw h at x in rw b at y)));
}

at_set_by : (b : Bool) (marks : List Bool) (p n : ℕ) (d : Bool) → (p == n) ≡ b → p < length marks → slice_index_or marks n false ≡ d → slice_index_or (slice_set marks p true) n false ≡ b || d
at_set_by true marks p n d e lt each = let same : n ≡ p = grind (arith, nat_tests, e) in get_or-set_at marks p n true false same lt
at_set_by false marks p n d e lt each = let other : n ≢ p = grind (arith, nat_tests, e) in get_or-set_other marks p n true false other ∙ each

at_set : (marks : List Bool) (p n c : ℕ) (d : ℕ → Bool) → length marks ≡ c → p < c → ((k : ℕ) → k < c → slice_index_or marks k false ≡ d k) → n < c → slice_index_or (slice_set marks p true) n false ≡ (p == n) || d n
at_set marks p n c d len lt each below = at_set_by (p == n) marks p n (d n) refl (omega (arith, len, lt)) (each n below)

ended : (maker : Maker) (kept : Kept) (pass : ℕ) (q : PassSoFar) (command : Command) (walk : Walk) (old new : Box Opened Global) (after : Done) (rule : Option ℕ) → IsWalkOf maker kept walk → open_pass kept ≡ Some q → pass == q.number ≡ true → is_end command ≡ true → IsOpenOf maker (Some q) (Some old) → IsNext maker command old.value new.value walk.done after rule → pass < begins kept → IsWalkOf maker ((Pass pass, command) ∷ kept) (record walk { opened = None; done = after; verdict = option_or walk.verdict rule; ended = slice_set walk.ended pass true })
ended maker kept pass q command walk old new after rule m e h b o next lt = record {
  count = length-set walk.ended pass true ∙ m.count;
  ended_is = λ n below. at_set walk.ended pass n (begins kept) (has_ended kept) m.count lt m.ended_is below ∙ rw e (rw h (rw b refl));
  verdict_is = rw m.verdict_is (rw e (rw h (rw b (rw ((next.taken q.begin q.earlier o.1).rule_is) refl))));
  depth_is = m.depth_is;
  open_is = rw e (rw h (rw b tt));
  done_is = λ v r. rw e (rw h (done_after maker kept q command walk old new after rule m e o next (or_first _ _ v) (let x = or_second (verdict maker kept) _ v in let y = rw e at x in let z = rw h at y in rw b at z)));
}

opened_is : (maker : Maker) (opened : Option PassSoFar) (q : PassSoFar) (held : Option (Box Opened Global)) (old : Box Opened Global) → IsOpenOf maker opened held → opened ≡ Some q → held ≡ Some old → IsOpenOf maker (Some q) (Some old)
opened_is maker opened q held old o e h = let x = rw e at o in rw h at x

-- a command of the open pass that is no end
pub walk_inside : (maker : Maker) (kept : Kept) (pass : ℕ) (command : Command) (walk : Walk) (old new : Box Opened Global) (after : Done) (rule : Option ℕ) → IsWalkOf maker kept walk → walk.opened ≡ Some old → is_open (open_pass kept) pass ≡ true → is_end command ≡ false → IsNext maker command old.value new.value walk.done after rule → IsWalkOf maker ((Pass pass, command) ∷ kept) (record walk { opened = Some new; done = after })
walk_inside maker kept pass command walk old new after rule m h i b next =
    let q = open_some (open_pass kept) pass i in
    inside maker kept pass q.0 command walk old new after rule m q.1 (rw q.1 at i) b (opened_is maker (open_pass kept) q.0 walk.opened old m.open_is q.1 h) next

-- the end of the open pass
pub walk_ended : (maker : Maker) (kept : Kept) (pass : ℕ) (command : Command) (walk : Walk) (old new : Box Opened Global) (after : Done) (rule : Option ℕ) → IsWalkOf maker kept walk → walk.opened ≡ Some old → is_open (open_pass kept) pass ≡ true → is_end command ≡ true → IsNext maker command old.value new.value walk.done after rule → IsWalkOf maker ((Pass pass, command) ∷ kept) (record walk { opened = None; done = after; verdict = option_or walk.verdict rule; ended = slice_set walk.ended pass true })
walk_ended maker kept pass command walk old new after rule m h i b next =
    let q = open_some (open_pass kept) pass i in
    ended maker kept pass q.0 command walk old new after rule m q.1 (rw q.1 at i) b (opened_is maker (open_pass kept) q.0 walk.opened old m.open_is q.1 h) next (open_number_below kept pass i)

-- what is done by a recording that has no verdict and no open pass
pub deeds_are : (maker : Maker) (kept : Kept) (walk : Walk) → IsWalkOf maker kept walk → verdict maker kept ≡ None → is_some (open_pass kept) ≡ false → walk.done.deeds ≡ deeds kept
deeds_are maker kept walk m v o = ap (λ done. done.deeds) (m.done_is v (rw (none_is (open_pass kept) o) refl))
