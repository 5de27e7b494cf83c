-- What was printed of a device on which a generated script was played.
use Rattle.std.proofs.Common.{◌≡◌, ℕ, List, map, Option, Some, refl, sym, ap, ap₂, ◌∙◌, subst}
use Rattle.std.specs.Io.KnownBytes.{Appends}
use Rattle.wg_orders.specs.Trace.{Item}
use Rattle.wg_history.specs.declared.events.Setup.{Setup}
use Rattle.wg_history.specs.Entries.{Entry}
use Rattle.wg_history.specs.Traces.{Trace}
use Rattle.wg_print.specs.Printing.{TakesPart}
use Rattle.wg_core.specs.Cores.{CoreValue}
use Rattle.wg_turn.specs.declared.lock.close.Closed.{Closed}
use Rattle.wg_turn.specs.Closings.{entries_of, passes_of, state_of}
use Rattle.wg_script.specs.declared.draft.Script.{Script}
use Rattle.wg_names.specs.Bound.{IsBound}
use Rattle.wg_play.specs.Turns.{callers_of}
use Rattle.wg_play.specs.Play.{script_setup, callers_for, Play}
use Rattle.wg_play.specs.Played.{IsPlayedThrough}
use Rattle.wg_play.proofs.PresentedLaw.{presents_expire}
use Rattle.wg_player.specs.Whole.{IsPlayedOut}
use Rattle.wg_gen.specs.Generator.{generated, phases_of}
use Rattle.wg_gen.specs.Counts.{counts_in}
use Rattle.wg_gen.specs.Alike.{MayGenerate, counts_for, CountsAlike}
use Rattle.wg_top.specs.Words.{lane_count}
use Rattle.wg_top.specs.Line.{counted_text, counts_line}
use Rattle.wg_top.specs.Report.{IsPlayed}
use Rattle.wg_io.specs.Exchange.{Taking}
use Rattle.wg_top.specs.Ending.{IsPlayedOn, IsCounted, TakesLine}
use Rattle.wg_top.proofs.Reported.{is_played}

-- a script was played, whatever was printed then
pub record WasPlayed (script : Script) (ended : Closed CoreValue) : Type 0 where
  pub setup : (state_of ended).setup ≡ script_setup script
  pub callers : passes_of ended ≡ callers_for script.phases
  pub out : IsPlayedOut (script_setup script) script.phases (passes_of ended) (state_of ended) (entries_of ended)

pub played_on : (script : Script) (ended : Closed CoreValue) → WasPlayed script ended → IsBound script.phases → IsPlayedOn script ended
played_on script ended was bound =
    let through : IsPlayedThrough (script_setup script) script.phases (state_of ended).history = was.out.through bound in
    let played : IsPlayed (script_setup script) (state_of ended).history = is_played (script_setup script) (state_of ended) was.setup in
    record {
      setup = was.setup;
      callers = was.callers;
      out = was.out;
      through = through;
      expired = presents_expire (script_setup script) script.phases (state_of ended).history played.run through;
      played = played;
    }

-- the same line, said of the device's setup
line_is : (lanes : Option ℕ) (setup : Setup) (core : CoreValue) (history : List Entry) (trace : List Item) → core.setup ≡ setup
    → history ≡ core.history → trace ≡ Trace core.setup core.history → counted_text lanes history trace ≡ counts_line lanes setup core.history
line_is lanes setup core history trace is printed traced = ap₂ (counted_text lanes) printed (traced ∙ ap (λ (s : Setup). Trace s core.history) is)

one_caller : (count : ℕ) → callers_for (phases_of count 1) ≡ 1
one_caller count = refl

-- One lane takes all turns.
played_alone : (count lanes : ℕ) (ended : Closed CoreValue) → WasPlayed (generated count lanes) ended → lanes ≡ 1
    → Play (script_setup (generated count 1)) (phases_of count 1) (map (λ e. 0) (state_of ended).history) ≡ Some (state_of ended).history
played_alone count lanes ended was one =
    let callers : passes_of ended ≡ 1 = was.callers ∙ (ap (λ l. callers_for (phases_of count l)) one ∙ one_caller count) in
    subst (λ l. Play (script_setup (generated count l)) (phases_of count l) (map (λ e. 0) (state_of ended).history) ≡ Some (state_of ended).history) one
    (ap (Play (script_setup (generated count lanes)) (phases_of count lanes)) (sym (was.out.zeros callers)) ∙ was.out.play)

module _ (count : ℕ) (lanes : Option ℕ) (taking : Taking) (script : Script) (same : script ≡ generated count (lane_count lanes)) (ended : Closed CoreValue) (was : WasPlayed script ended) where
  was_generated : WasPlayed (generated count (lane_count lanes)) ended
  was_generated = subst (λ (s : Script). WasPlayed s ended) same was

  pub is_counted : IsBound script.phases → MayGenerate count (lane_count lanes) → CountsAlike → (history : List Entry) (trace : List Item) → history ≡ (state_of ended).history → trace ≡ Trace (state_of ended).setup (state_of ended).history
      → Appends taking.old taking.new (counted_text lanes history trace) → IsCounted count lanes taking ended
  is_counted bound may alike history trace printed traced written = record {
    on = played_on (generated count (lane_count lanes)) ended was_generated (subst (λ (s : Script). IsBound s.phases) same bound);
    written = subst (λ (text : List ℕ). Appends taking.old taking.new text) (line_is lanes (script_setup (generated count (lane_count lanes))) (state_of ended) history trace was_generated.setup printed traced) written;
    alone = played_alone count (lane_count lanes) ended was_generated;
    alike = alike count (lane_count lanes) may (callers_of (state_of ended).history) (state_of ended).history was_generated.out.play;
  }

  pub takes_line : (history : List Entry) (trace : List Item) → history ≡ (state_of ended).history → trace ≡ Trace (state_of ended).setup (state_of ended).history
      → TakesPart taking.old taking.new (counted_text lanes history trace) → TakesLine count lanes taking
  takes_line history trace printed traced part = record {
    history = (state_of ended).history;
    play = was_generated.out.play;
    part = subst (λ (text : List ℕ). TakesPart taking.old taking.new text) (line_is lanes (script_setup (generated count (lane_count lanes))) (state_of ended) history trace was_generated.setup printed traced) part;
  }
