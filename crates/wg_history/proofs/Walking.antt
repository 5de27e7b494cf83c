-- Where the walk over recorded commands finds no rule unmet and no pass open, each command met the rules on the objects that it
-- names: so none names an object as something whose handle is of another kind.
use Rattle.std.proofs.Common.{◌≡◌, ℕ, ◌+◌, ◌<◌, List, [], ◌∷◌, ◌++◌, map, reverse, Bool, true, false, ◌&&◌, ◌||◌, ◌==◌, Option, Some, None, is_some, is_none, refl, ap, sym, ◌∙◌, arith, if◌then◌else◌, true≢false, inl, inr}
use Rattle.std.specs.Option.{option_or}
use Rattle.std.proofs.lemmas.Bool.{and_parts, eq-eqb, eqb-true, cases_lt}
use Rattle.wg_types.specs.declared.limits.Maker.{Maker}
use Rattle.wg_types.specs.Handles.{HandleValue}
use Rattle.wg_types.specs.Kinds.{kind_of}
use Rattle.wg_types.specs.Wanted.{admits, pipelines_on, within}
use Rattle.wg_types.specs.Commands.{Command, named, named_on, bracket, begins_pass_by, is_begin, is_end}
use Rattle.wg_types.specs.declared.render.TargetInfo.{TargetInfo}
use Rattle.wg_types.specs.declared.commands.On.{On}
use Rattle.wg_types.specs.declared.commands.On.TheVariants.{Encoder, Pass}
use Rattle.wg_types.specs.declared.commands.Bracket.{Bracket}
use Rattle.wg_types.specs.declared.commands.Bracket.TheVariants as brackets
use Rattle.wg_types.specs.declared.wanted.Kind.{Kind}
use Rattle.wg_types.specs.declared.wanted.Kind.TheVariants as kind
use Rattle.wg_types.specs.declared.wanted.Wanted.{Wanted}
use Rattle.wg_types.specs.declared.wanted.Wanted.TheVariants as wanted
use Rattle.wg_model.specs.Rules.{Rule, AreMet, first_unmet}
use Rattle.wg_model.specs.Commands.{common_rules, own_rules, debug_rules, command_rules}
use Rattle.wg_model.specs.Compute.{compute_rules}
use Rattle.wg_model.specs.Settings.{settings}
use Rattle.wg_model.specs.Attachments.{RenderBegin, begin_of, begun_rules}
use Rattle.wg_model.specs.Render.{render_set, bundle_set, render_rules}
use Rattle.wg_model.specs.Walk.{Kept, PassSoFar, rule_by, rule_in, pass_rule, begins, begins_pass, is_open, pass_after, open_after, open_pass, ends, has_ended, encoder_depth, given, verdict, bundle_rule, bundle_verdict, Verdict}
use Rattle.wg_model.proofs.Unmet.{all_met}
use Rattle.wg_model.proofs.Sparing.{or_second}
use Rattle.wg_encoder.specs.Walked.{open_rule}
use Rattle.wg_encoder.specs.Recorders.{has_open_pass}
use Rattle.wg_history.specs.MapLaws.{StandsOn, AllStand}
use Rattle.wg_history.proofs.Tests.{met_before}

-- An object that is named is of the kind that is wanted, as far as its handle tells.
abbrev pub HandleFits : HandleValue × Wanted → Type 0
HandleFits object = admits object.1 (kind_of object.0.info) ≡ true

abbrev pub HandlesFit : List (HandleValue × Wanted) → Type 0
HandlesFit [] = Unit {0}
HandlesFit (object ∷ objects) = HandleFits object × HandlesFit objects

abbrev pub EachFits : Kept → Type 0
EachFits [] = Unit {0}
EachFits (kept ∷ older) = HandlesFit (named kept.1) × EachFits older

-- on the encoder
named_fit : (device : ℕ) (objects : List (HandleValue × Wanted)) → AreMet (common_rules device objects) → HandlesFit objects
named_fit device [] met = tt
named_fit device (object ∷ objects) met =
    ((and_parts (object.0.reference.device == device) _ met.0).1, named_fit device objects met.1.1)

-- and in a pass or a bundle, of which the pipelines are pipelines
abbrev ArePipelines : Kind → Type 0
ArePipelines place = (k : Kind) → admits (pipelines_on place) k ≡ true → admits wanted.Pipeline k ≡ true

compute_pipelines : ArePipelines kind.ComputePass
compute_pipelines kind.Compute e = refl
compute_pipelines _ e = absurd (true≢false (sym e))

render_pipelines : ArePipelines kind.RenderPass
render_pipelines kind.Render e = refl
render_pipelines _ e = absurd (true≢false (sym e))

bundle_pipelines : ArePipelines kind.BundleEncoder
bundle_pipelines kind.Render e = refl
bundle_pipelines _ e = absurd (true≢false (sym e))

fits_within : (place : Kind) → ArePipelines place → (asked : Wanted) (k : Kind) → admits (within place asked) k ≡ true → admits asked k ≡ true
fits_within place pipelines wanted.Pipeline k e = pipelines k e
fits_within place pipelines _ k e = e

placed_fit : (device : ℕ) (place : Kind) → ArePipelines place → (objects : List (HandleValue × Wanted))
    → AreMet (common_rules device (map (λ (object : HandleValue × Wanted). (object.0, within place object.1)) objects)) → HandlesFit objects
placed_fit device place pipelines [] met = tt
placed_fit device place pipelines (object ∷ objects) met =
    (fits_within place pipelines object.1 (kind_of object.0.info) (and_parts (object.0.reference.device == device) _ met.0).1, placed_fit device place pipelines objects met.1.1)

both_none : (first second : Option ℕ) → option_or first second ≡ None → (first ≡ None) × (second ≡ None)
both_none None second e = (refl, e)
both_none (Some rule) second e = absurd (cc)

met_none : (rules : List Rule) → first_unmet rules ≡ None → AreMet rules
met_none rules e = all_met rules (ap (λ (o : Option ℕ). is_none o) e)

-- What is open was begun by a begin.

abbrev IsBegun : Option PassSoFar → Type 0
IsBegun None = Unit {0}
IsBegun (Some pass) = is_begin pass.begin ≡ true

begun_next : (opened : Option PassSoFar) (number : ℕ) (on : On) (command : Command) → IsBegun opened → IsBegun (open_after opened number on command)
begun_next (Some pass) number Encoder command was = was
begun_next None number Encoder command was = by_begin (is_begin command) refl
  where
    by_begin : (b : Bool) → is_begin command ≡ b → IsBegun (if b then Some (record { number = number; begin = command; earlier = [] }) else None)
    by_begin true e = e
    by_begin false e = tt
begun_next None number (Pass q) command was = tt
begun_next (Some pass) number (Pass q) command was = by_open (q == pass.number)
  where
    by_end : (b : Bool) → IsBegun (if b then None else Some (record pass { earlier = command ∷ pass.earlier }))
    by_end true = tt
    by_end false = was

    by_open : (b : Bool) → IsBegun (if b then pass_after (Some pass) command else Some pass)
    by_open true = by_end (is_end command)
    by_open false = was

begun : (kept : Kept) → IsBegun (open_pass kept)
begun [] = tt
begun (kept ∷ older) = begun_next (open_pass older) (begins older) kept.0 kept.1 (begun older)

-- Without a verdict a pass that was begun and has not ended is the open one.

open_next : (maker : Maker) (opened : Option PassSoFar) (number depth : ℕ) (on : On) (command : Command) (ended : ℕ → Bool) → given maker opened depth on command ≡ None
    → ((p : ℕ) → p < number → ended p ≡ false → is_open opened p ≡ true)
    → (p : ℕ) → p < (if begins_pass on command then number + 1 else number) → (ends opened on command p || ended p) ≡ false → is_open (open_after opened number on command) p ≡ true
open_next maker (Some pass) number depth Encoder command ended none before p lt e = absurd (cc)
open_next maker None number depth Encoder command ended none before p lt e = by_begin (is_begin command) lt
  where
    by_begin : (b : Bool) → p < (if b then number + 1 else number) → is_open (if b then Some (record { number = number; begin = command; earlier = [] }) else None) p ≡ true
    by_begin true less = elim (cases_lt p number) [
      | inl below ↦ absurd (true≢false (sym (before p below e)))
      | inr above ↦ eq-eqb p number (omega (arith, less, above))
    ]
    by_begin false less = absurd (true≢false (sym (before p less e)))
open_next maker None number depth (Pass q) command ended none before p lt e = before p lt e
open_next maker (Some pass) number depth (Pass q) command ended none before p lt e = by_open (q == pass.number) refl (is_end command) e
  where
    own : ended p ≡ false → p ≡ pass.number
    own still = eqb-true p pass.number (before p lt still)

    by_open : (b : Bool) → (q == pass.number) ≡ b → (last : Bool) → (((b && last) && (q == p)) || ended p) ≡ false
        → is_open (if b then (if last then None else Some (record pass { earlier = command ∷ pass.earlier })) else Some pass) p ≡ true
    by_open true is true e = absurd (
        let still : ended p ≡ false = or_second (q == p) (ended p) e in
        let same : q ≡ p = eqb-true q pass.number is ∙ sym (own still) in
        true≢false (sym (ap (λ b. b || ended p) (eq-eqb q p same)) ∙ e))
    by_open true is false e = before p lt e
    by_open false is last e = before p lt e

stands_open : (maker : Maker) (kept : Kept) → verdict maker kept ≡ None → (p : ℕ) → p < begins kept → has_ended kept p ≡ false → is_open (open_pass kept) p ≡ true
stands_open maker [] none p lt e = absurd (omega (arith, lt))
stands_open maker (kept ∷ older) none p lt e =
    let parts = both_none (verdict maker older) (given maker (open_pass older) (encoder_depth older) kept.0 kept.1) none in
    open_next maker (open_pass older) (begins older) (encoder_depth older) kept.0 kept.1 (has_ended older) parts.1 (stands_open maker older parts.0) p lt e

-- Each command meets the rules on what it names.

abbrev TakesOn : Option PassSoFar → On → Type 0
TakesOn opened Encoder = Unit {0}
TakesOn opened (Pass pass) = is_open opened pass ≡ true

takes : (maker : Maker) (older : Kept) (on : On) → verdict maker older ≡ None → StandsOn on older → TakesOn (open_pass older) on
takes maker older Encoder none stands = tt
takes maker older (Pass pass) none stands = stands_open maker older none pass stands.0 stands.1

rule_fits : (maker : Maker) (begin : RenderBegin) (by : Bracket) (earlier : List Command) (command : Command) → begins_pass_by by ≡ true → rule_by maker begin by earlier command ≡ None → HandlesFit (named command)
rule_fits maker begin brackets.BeginComputePass earlier command b e =
    placed_fit maker.device kind.ComputePass compute_pipelines (named command) (met_none (common_rules maker.device (named_on kind.ComputePass command)) (both_none (first_unmet (common_rules maker.device (named_on kind.ComputePass command))) (first_unmet (compute_rules (settings earlier) command)) e).0)
rule_fits maker begin brackets.BeginRenderPass earlier command b e =
    placed_fit maker.device kind.RenderPass render_pipelines (named command) (met_none (common_rules maker.device (named_on kind.RenderPass command)) (both_none (first_unmet (common_rules maker.device (named_on kind.RenderPass command))) (first_unmet (render_rules maker.limits (render_set begin earlier) command)) e).0)
rule_fits maker begin brackets.EndPass earlier command b e = absurd (true≢false (sym b))
rule_fits maker begin brackets.PushGroup earlier command b e = absurd (true≢false (sym b))
rule_fits maker begin brackets.PopGroup earlier command b e = absurd (true≢false (sym b))
rule_fits maker begin brackets.Neither earlier command b e = absurd (true≢false (sym b))

fits_next : (maker : Maker) (opened : Option PassSoFar) (number depth : ℕ) (on : On) (command : Command) → IsBegun opened → TakesOn opened on → given maker opened depth on command ≡ None
    → open_rule maker (open_after opened number on command) ≡ None → HandlesFit (named command) × (open_rule maker opened ≡ None)
fits_next maker (Some pass) number depth Encoder command was on_open none rule = absurd (cc)
fits_next maker None number depth Encoder command was on_open none rule = by_begin (is_begin command) none rule
  where
    by_begin : (b : Bool) → (if b then None else first_unmet (command_rules maker.device depth command)) ≡ None → open_rule maker (if b then Some (record { number = number; begin = command; earlier = [] }) else None) ≡ None
        → HandlesFit (named command) × (open_rule maker None ≡ None)
    by_begin true gives rule = (named_fit maker.device (named command) (met_none (common_rules maker.device (named command)) (both_none (first_unmet (common_rules maker.device (named command))) (first_unmet (begun_rules maker.limits command)) rule).0), refl)
    by_begin false gives rule = (named_fit maker.device (named command) (met_before (common_rules maker.device (named command)) (own_rules command ++ debug_rules depth command) (met_none (command_rules maker.device depth command) gives)), refl)
fits_next maker None number depth (Pass q) command was on_open none rule = absurd (true≢false (sym on_open))
fits_next maker (Some pass) number depth (Pass q) command was on_open none rule = by_open (q == pass.number) on_open none rule
  where
    taken : (b : Bool) → (if b then pass_rule maker pass.begin (command ∷ pass.earlier) else None) ≡ None → open_rule maker (if b then None else Some (record pass { earlier = command ∷ pass.earlier })) ≡ None
        → pass_rule maker pass.begin (command ∷ pass.earlier) ≡ None
    taken true gives rule = gives
    taken false gives rule = rule

    parted : pass_rule maker pass.begin (command ∷ pass.earlier) ≡ None → HandlesFit (named command) × (pass_rule maker pass.begin pass.earlier ≡ None)
    parted e =
        let parts = both_none (pass_rule maker pass.begin pass.earlier) (rule_in maker pass.begin pass.earlier command) e in
        (rule_fits maker (begin_of pass.begin) (bracket pass.begin) pass.earlier command was parts.1, parts.0)

    by_open : (b : Bool) → b ≡ true → (if b then (if is_end command then pass_rule maker pass.begin (command ∷ pass.earlier) else None) else None) ≡ None
        → open_rule maker (if b then pass_after (Some pass) command else Some pass) ≡ None → HandlesFit (named command) × (open_rule maker (Some pass) ≡ None)
    by_open true is gives rule = parted (taken (is_end command) gives rule)
    by_open false is gives rule = absurd (true≢false (sym is))

each_fits : (maker : Maker) (kept : Kept) → AllStand kept → verdict maker kept ≡ None → open_rule maker (open_pass kept) ≡ None → EachFits kept
each_fits maker [] stand none rule = tt
each_fits maker (kept ∷ older) stand none rule =
    let parts = both_none (verdict maker older) (given maker (open_pass older) (encoder_depth older) kept.0 kept.1) none in
    let next = fits_next maker (open_pass older) (begins older) (encoder_depth older) kept.0 kept.1 (begun older) (takes maker older kept.0 parts.0 stand.0) parts.1 rule in
    (next.0, each_fits maker older stand.1 parts.0 next.1)

-- Each command of a bundle encoder meets these rules as well.
pub bundle_fits : (maker : Maker) (targets : TargetInfo) (kept : Kept) → bundle_verdict maker targets (map (λ (kept : On × Command). kept.1) kept) ≡ None → EachFits kept
bundle_fits maker targets [] none = tt
bundle_fits maker targets (kept ∷ older) none =
    let earlier : List Command = map (λ (kept : On × Command). kept.1) older in
    let parts = both_none (bundle_verdict maker targets earlier) (bundle_rule maker targets earlier kept.1) none in
    let objects : List (HandleValue × Wanted) = named_on kind.BundleEncoder kept.1 in (
      placed_fit maker.device kind.BundleEncoder bundle_pipelines (named kept.1)
          (met_none (common_rules maker.device objects) (both_none (first_unmet (common_rules maker.device objects)) (first_unmet (render_rules maker.limits (bundle_set targets earlier) kept.1)) parts.1).0),
      bundle_fits maker targets older parts.0,
    )

closed_rule : (maker : Maker) (opened : Option PassSoFar) → is_some opened ≡ false → open_rule maker opened ≡ None
closed_rule maker None e = refl
closed_rule maker (Some pass) e = absurd (true≢false e)

-- So does each of a recording of which no rule is unmet and no pass is open.
pub recording_fits : (maker : Maker) (targets : Option TargetInfo) (commands : List (On × Command)) → AllStand (reverse commands) → Verdict maker targets commands ≡ None → has_open_pass targets commands ≡ false → EachFits (reverse commands)
recording_fits maker None commands stand none closed = each_fits maker (reverse commands) stand none (closed_rule maker (open_pass (reverse commands)) closed)
recording_fits maker (Some targets) commands stand none closed = bundle_fits maker targets (reverse commands) none
