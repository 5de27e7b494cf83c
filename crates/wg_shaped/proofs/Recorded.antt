-- The steps of a recording whose usage scopes are compatible give no cell twice.
use Rattle.std.specs.Prelude.{option_to_list, is_none, reverse}
use Rattle.std.proofs.Common.{◌≡◌, ℕ, ◌&&◌, List, [], ◌∷◌, ◌++◌, map, Bool, true, false, Option, Some, None, ap, refl, sym, ◌∙◌, if◌then◌else◌}
use Rattle.std.proofs.lemmas.Bool.{and_parts}
use Rattle.wg_types.specs.declared.limits.Maker.{Maker}
use Rattle.wg_types.specs.Commands.{Command, bracket, named}
use Rattle.wg_types.specs.declared.commands.CommandOf.TheVariants.{BeginComputePass, BeginRenderPass, Dispatch, DispatchIndirect}
use Rattle.wg_types.specs.declared.commands.On.{On}
use Rattle.wg_types.specs.declared.commands.On.TheVariants.{Encoder, Pass}
use Rattle.wg_types.specs.declared.commands.Bracket.{Bracket}
use Rattle.wg_types.specs.declared.commands.Bracket.TheVariants as brackets
use Rattle.wg_rows.specs.Rows.{EachRow}
use Rattle.wg_orders.specs.Steps.{StepPlace}
use Rattle.wg_model.specs.Rules.{first_unmet, AreMet}
use Rattle.wg_model.proofs.Unmet.{all_met}
use Rattle.wg_model.specs.Scopes.{Use, clash, first_clash}
use Rattle.wg_model.specs.Settings.{Settings, settings, indirect_touch}
use Rattle.wg_model.specs.Compute.{compute_does, dispatch_touches}
use Rattle.wg_model.specs.Commands.{common_rules}
use Rattle.wg_model.specs.Attachments.{RenderBegin, begin_rules, begun_rules, targets_touches}
use Rattle.wg_model.specs.Queries.{set_of_pass}
use Rattle.wg_model.specs.Render.{RenderSet, render_set, render_does, render_does_by, touches_over, command_touches}
use Rattle.wg_model.specs.Touches.{Touch, Doing, deed_of, placed, scope_in}
use Rattle.wg_model.specs.Walk.{Kept, PassSoFar, begun_rule, rule_in, pass_rule, pass_does, open_pass, verdict, does_at, doings, deeds, scopes_at, usage_scopes}
use Rattle.wg_model.proofs.StepLaws.{each_joined}
use Rattle.wg_readback.specs.Shapes.{IsOnceStep}
use Rattle.wg_shaped.specs.Once.{IsFair, RecordedAreOnce}
use Rattle.wg_shaped.proofs.Walked.{or_none, EachKept, EachDone, Does, walked, kept_reverse}
use Rattle.wg_shaped.proofs.Fitting.{TouchesAgree, AllAgree, AgreeWith, step_once}
use Rattle.wg_shaped.proofs.Copying.{AgreeDoing, encoder_agree}
use Rattle.wg_shaped.proofs.Scoping.{AreTold, IsAttached, AttachedWith, AttachedAgree, scope_agrees}
use Rattle.wg_shaped.proofs.Telling.{ArePlain, plain_told, dispatched_plain, indirect_plain, command_plain, targets_told}
use Rattle.wg_shaped.proofs.Attaching.{targets_agree}

-- scopes of which none clashes
abbrev AreClear : List (List Use) → Type 0
AreClear scopes = EachRow (λ (scope : List Use). clash scope ≡ None) scopes

clear_from : (scopes : List (List Use)) → first_clash scopes ≡ None → AreClear scopes
clear_from [] e = tt
clear_from (scope ∷ scopes) e = let parts = or_none (clash scope) (first_clash scopes) e in (parts.0, clear_from scopes parts.1)

pub each_parts : {A : Type 0} (P : A → Type 0) (xs ys : List A) → EachRow P (xs ++ ys) → EachRow P xs × EachRow P ys
each_parts P [] ys h = (tt, h)
each_parts P (x ∷ xs) ys h = let parts : EachRow P xs × EachRow P ys = each_parts P xs ys h.1 in ((h.0, parts.0), parts.1)

-- touches with some behind that are of no attachment
plain_with : (a : Touch) (touches : List Touch) → ArePlain touches → AttachedWith touches a
plain_with a [] h = tt
plain_with a (b ∷ touches) h = ((λ x y. absurd (let k : true ≡ false = sym y ∙ h.0.1 in cc)), plain_with a touches h.1)

plain_attached : (touches : List Touch) → ArePlain touches → AttachedAgree touches
plain_attached [] h = tt
plain_attached (a ∷ touches) h = (plain_with a touches h.1, plain_attached touches h.1)

attached_joined : (xs ys : List Touch) → AttachedAgree xs → ArePlain ys → AttachedAgree (xs ++ ys)
attached_joined [] ys h k = plain_attached ys k
attached_joined (x ∷ xs) ys h k = (each_joined (λ b. IsAttached x → IsAttached b → TouchesAgree x b) xs ys h.0 (plain_with x ys k), attached_joined xs ys h.1 k)

agree_with : (a : Touch) (touches : List Touch) → AgreeWith touches a → AttachedWith touches a
agree_with a [] h = tt
agree_with a (b ∷ touches) h = ((λ x y. h.0), agree_with a touches h.1)

agree_attached : (touches : List Touch) → AllAgree touches → AttachedAgree touches
agree_attached [] h = tt
agree_attached (a ∷ touches) h = (agree_with a touches h.0, agree_attached touches h.1)

abbrev pub AreFair : List Command → Type 0
AreFair commands = EachRow IsFair commands

pub over_told : (queries : Option (ℕ × ℕ)) (first : List Touch) (earlier : List Command) → AreFair earlier → AreTold first → AreTold (touches_over queries first earlier)
over_told queries first [] fair h = h
over_told queries first (command ∷ earlier) fair h =
    each_joined _ (touches_over queries first earlier) (command_touches queries command) (over_told queries first earlier fair.1 h) (plain_told (command_touches queries command) (command_plain queries command fair.0))

over_attached : (queries : Option (ℕ × ℕ)) (first : List Touch) (earlier : List Command) → AreFair earlier → AttachedAgree first → AttachedAgree (touches_over queries first earlier)
over_attached queries first [] fair h = h
over_attached queries first (command ∷ earlier) fair h =
    attached_joined (touches_over queries first earlier) (command_touches queries command) (over_attached queries first earlier fair.1 h) (command_plain queries command fair.0)

-- what a command of a pass does
compute_agree : (set : Settings) (command : Command) → AreClear (map scope_in (option_to_list (compute_does set command))) → EachRow AgreeDoing (option_to_list (compute_does set command))
unfolding compute_does
compute_agree set (Dispatch x y z) clear = (scope_agrees (dispatch_touches set) clear.0 (plain_told (dispatch_touches set) (dispatched_plain set)) (plain_attached (dispatch_touches set) (dispatched_plain set)), tt)
compute_agree set (DispatchIndirect buffer offset) clear =
    (scope_agrees (dispatch_touches set ++ indirect_touch buffer offset 12 ∷ []) clear.0 (plain_told (dispatch_touches set ++ indirect_touch buffer offset 12 ∷ []) (indirect_plain set buffer offset)) (plain_attached (dispatch_touches set ++ indirect_touch buffer offset 12 ∷ []) (indirect_plain set buffer offset)), tt)
compute_agree set _ clear = tt

render_agree : (render : RenderSet) (b : Bracket) → AreTold render.touches → AttachedAgree render.touches → AreClear (map scope_in (option_to_list (render_does_by render b))) → EachRow AgreeDoing (option_to_list (render_does_by render b))
render_agree render brackets.EndPass told att clear = (scope_agrees render.touches clear.0 told att, tt)
render_agree render _ told att clear = tt

begun_met : (maker : Maker) (begin : RenderBegin) → begun_rule maker (BeginRenderPass begin) ≡ None → AreMet (begin_rules maker.limits begin)
begun_met maker begin e = all_met (begin_rules maker.limits begin) (ap is_none (or_none (first_unmet (common_rules maker.device (named (BeginRenderPass begin)))) (first_unmet (begun_rules maker.limits (BeginRenderPass begin))) e).1)

render_does_agree : (maker : Maker) (begin : RenderBegin) (earlier : List Command) (command : Command) → IsFair (BeginRenderPass begin) → AreFair earlier → begun_rule maker (BeginRenderPass begin) ≡ None
    → AreClear (map scope_in (option_to_list (render_does (render_set begin earlier) command))) → EachRow AgreeDoing (option_to_list (render_does (render_set begin earlier) command))
unfolding render_does
render_does_agree maker begin earlier command fair fairs e clear =
    render_agree (render_set begin earlier) (bracket command) (over_told (set_of_pass begin.queries) (targets_touches begin) earlier fairs (targets_told begin))
    (over_attached (set_of_pass begin.queries) (targets_touches begin) earlier fairs (agree_attached (targets_touches begin) (targets_agree maker.limits begin fair (begun_met maker begin e)))) clear

pass_agree : (maker : Maker) (begin : Command) (earlier : List Command) (command : Command) → IsFair begin → AreFair earlier → begun_rule maker begin ≡ None
    → AreClear (map scope_in (option_to_list (pass_does begin earlier command))) → EachRow AgreeDoing (option_to_list (pass_does begin earlier command))
pass_agree maker BeginComputePass earlier command fair fairs e clear = compute_agree (settings earlier) command clear
pass_agree maker (BeginRenderPass begin) earlier command fair fairs e clear = render_does_agree maker begin earlier command fair fairs e clear
pass_agree maker _ earlier command fair fairs e clear = tt

-- a pass whose rules are met began with its rules met
begun_first : (maker : Maker) (begin : Command) (earlier : List Command) → pass_rule maker begin earlier ≡ None → begun_rule maker begin ≡ None
begun_first maker begin [] e = e
begun_first maker begin (command ∷ earlier) e = begun_first maker begin earlier (or_none (pass_rule maker begin earlier) (rule_in maker begin earlier command) e).0

abbrev pub AreFairKept : Kept → Type 0
AreFairKept kept = EachKept IsFair kept

-- What a command of a pass does agrees where its usage scope is compatible, and what one on an encoder does agrees anyway.
abbrev AgreesAt : On → Doing → Type 0
AgreesAt Encoder doing = AgreeDoing doing
AgreesAt (Pass number) doing = clash (scope_in doing) ≡ None → AgreeDoing doing

one_agrees : (done : Option Doing) → (AreClear (map scope_in (option_to_list done)) → EachRow AgreeDoing (option_to_list done)) → EachRow (λ (doing : Doing). clash (scope_in doing) ≡ None → AgreeDoing doing) (option_to_list done)
one_agrees None h = tt
one_agrees (Some doing) h = ((λ clear. (h (clear, tt)).0), tt)

fair_does : (maker : Maker) → Does maker IsFair AgreesAt
fair_does maker = record {
  on_encoder = λ depth command fair e. encoder_agree maker depth command e;
  in_pass = λ number begin earlier command first fairs fair e.
      one_agrees (pass_does begin earlier command)
      (pass_agree maker begin earlier command first fairs (begun_first maker begin earlier (or_none (pass_rule maker begin earlier) (rule_in maker begin earlier command) e).0));
}

-- all of them, where all scopes are compatible
scoped_agree : (done : Option Doing) → EachRow (λ (doing : Doing). clash (scope_in doing) ≡ None → AgreeDoing doing) (option_to_list done) → AreClear (map scope_in (option_to_list done)) → EachRow AgreeDoing (option_to_list done)
scoped_agree None h clear = tt
scoped_agree (Some doing) h clear = (h.0 clear.0, tt)

at_agree : (opened : Option PassSoFar) (on : On) (command : Command) → EachRow (AgreesAt on) (option_to_list (does_at opened on command)) → AreClear (scopes_at opened on command) → EachRow AgreeDoing (option_to_list (does_at opened on command))
at_agree opened Encoder command h clear = h
at_agree opened (Pass pass) command h clear = scoped_agree (does_at opened (Pass pass) command) h clear

all_agree : (kept : Kept) → EachDone AgreesAt kept → AreClear (usage_scopes kept) → EachRow AgreeDoing (doings kept)
all_agree [] h clear = tt
all_agree (kept ∷ older) h clear =
    let scopes : AreClear (usage_scopes older) × AreClear (scopes_at (open_pass older) kept.0 kept.1) = each_parts (λ (scope : List Use). clash scope ≡ None) (usage_scopes older) (scopes_at (open_pass older) kept.0 kept.1) clear in
    each_joined AgreeDoing (doings older) (option_to_list (does_at (open_pass older) kept.0 kept.1)) (all_agree older h.0 scopes.0) (at_agree (open_pass older) kept.0 kept.1 h.1 scopes.1)

-- the steps
placed_once : (place : StepPlace) (done : List Doing) → EachRow AgreeDoing done → EachRow IsOnceStep (map (placed place) (map deed_of done))
placed_once place [] h = tt
placed_once place (doing ∷ done) h = (step_once place doing h.0, placed_once place done h.1)

pub each_reverse : (kept : Kept) → AreFairKept kept → AreFairKept (reverse kept)
each_reverse kept h = kept_reverse IsFair kept h

pub none_is : {A : Type 0} (o : Option A) → is_none o ≡ true → o ≡ None
none_is None e = refl
none_is (Some x) e = absurd (cc)

pub recorded_are_once : RecordedAreOnce
recorded_are_once place maker (Some targets) commands fair e = tt
recorded_are_once place maker None commands fair e = by_rules (is_none (verdict maker (reverse commands)) && is_none (open_pass (reverse commands))) refl e
  where
    by_rules : (b : Bool) → is_none (verdict maker (reverse commands)) && is_none (open_pass (reverse commands)) ≡ b → first_clash (if b then usage_scopes (reverse commands) else []) ≡ None → EachRow IsOnceStep (map (placed place) (if b then deeds (reverse commands) else []))
    by_rules false is e = tt
    by_rules true is e =
        let parts : (is_none (verdict maker (reverse commands)) ≡ true) × (is_none (open_pass (reverse commands)) ≡ true) = and_parts (is_none (verdict maker (reverse commands))) (is_none (open_pass (reverse commands))) is in
        placed_once place (doings (reverse commands))
        (all_agree (reverse commands)
        (walked maker IsFair AgreesAt (fair_does maker) (reverse commands) (each_reverse commands fair) (none_is (verdict maker (reverse commands)) parts.0) (none_is (open_pass (reverse commands)) parts.1))
        (clear_from (usage_scopes (reverse commands)) e))
