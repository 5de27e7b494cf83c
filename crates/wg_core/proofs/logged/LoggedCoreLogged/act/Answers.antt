use Rattle.std.proofs.Common.{◌≡◌, List, [], ◌∷◌, ◌++◌, map, sym, ap, ap₂, ◌∙◌}
use Rattle.std.proofs.lemmas.List.{map-append}
use Rattle.wg_trace.specs.declared.replies.Reply.{Reply}
use Rattle.wg_types.specs.declared.words.Verb.{Verb}
use Rattle.wg_history.specs.declared.events.Setup.{Setup}
use Rattle.wg_history.specs.Entries.{Entry}
use Rattle.wg_history.specs.Traces.{Trace}
use Rattle.wg_core.specs.declared.logged.Line.{Line}
use Rattle.wg_core.specs.Cores.{line_of}
use Rattle.wg_core.proofs.logged.LoggedCoreLogged.act.Goals as goal

-- One line more is that of the entry that came, and what came to the list is the entry's part of the trace.
pub invariant_of-self-2 : goal.invariant_of-self-2
invariant_of-self-2 c =
    let entry : Entry = record { who = c.args.who; event = c.args.call; reply = c.in_ok-reply.reply } in
    let line : record { who = c.args.who; verb = c.verb-verb.result; reply = c.in_ok-reply.copy } ≡ line_of entry
    = ap₂ (λ (verb : Verb) (reply : Reply). record { who = c.args.who; verb = verb; reply = reply }) c.verb-verb.ensures c.in_ok-reply.ensures.same in
    record {
      lines_are =
          c.push_reserved.ensures.items
          ∙ (ap₂ (λ (lines : List Line) (one : Line). lines ++ one ∷ []) (c.reserve.ensures.items ∙ c.self.invariant.lines_are) line
          ∙ (sym (map-append line_of c.self.inside.core.history (entry ∷ [])) ∙ ap (map line_of) (sym c.in_ok-reply.ensures.answered.history_is)));
      items_are = c.in_ok-reply.ensures.answered.items_are [] c.self.invariant.items_are ∙ ap (λ (setup : Setup). Trace setup c.step_for_log.new.self.history) (sym c.step_for_log.ensures.setup);
    }
