use Rattle.std.proofs.Common.{List, ℕ, ap, refl, subst, ◌∙◌}
use Rattle.std.specs.Io.KnownBytes.{Appends}
use Rattle.wg_print.specs.Printing.{TakesPart}
use Rattle.wg_turn.specs.Closings.{state_of}
use Rattle.wg_gen.specs.Generator.{generated}
use Rattle.wg_top.proofs.Logged.{counted_of}
use Rattle.wg_top.proofs.Counted.{is_counted, takes_line}
use Rattle.wg_top.proofs.running.generate.Goals as goal

pub returns-in-Ok-print_counted : goal.returns-in-Ok-print_counted
returns-in-Ok-print_counted g c =
    let e = c.in-Ok-play.ensures in
    let history = (state_of c.in-Ok-play.ended).history in
    let same = counted_of c.args.lanes c.lines.result.now history c.trace.result.now (rw c.state-core.ensures at c.lines.ensures.lines) in
    is_counted c.args.count c.args.lanes
    (record { old = g.W.Sink.taken c.args.sink.now; new = g.W.Sink.taken c.print_counted.new.sink; before = g.W.Sink.faults c.args.sink.now; after = g.W.Sink.faults c.print_counted.new.sink })
    c.in-Ok.script (c.in-Ok.ensures.made ∙ ap (generated c.args.count) c.unwrap_or.ensures) c.in-Ok-play.ended (record { setup = e.setup; callers = e.callers; out = e.played })
    c.in-Ok.ensures.bound c.requires c.counts_alike.ensures history c.trace.result.now refl (rw c.state-core.ensures at c.trace.ensures.items)
    (subst (λ (text : List ℕ). Appends (g.W.Sink.taken c.args.sink.now) (g.W.Sink.taken c.print_counted.new.sink) text) same c.in-Ok-print_counted.ensures.ok)

pub returns : goal.returns
returns g c =
    let e = c.in-Ok-play.ensures in
    let history = (state_of c.in-Ok-play.ended).history in
    let same = counted_of c.args.lanes c.lines.result.now history c.trace.result.now (rw c.state-core.ensures at c.lines.ensures.lines) in (
      c.in-Err.ensures.cause,
      takes_line c.args.count c.args.lanes
          (record { old = g.W.Sink.taken c.args.sink.now; new = g.W.Sink.taken c.print_counted.new.sink; before = g.W.Sink.faults c.args.sink.now; after = g.W.Sink.faults c.print_counted.new.sink })
          c.in-Ok.script (c.in-Ok.ensures.made ∙ ap (generated c.args.count) c.unwrap_or.ensures) c.in-Ok-play.ended (record { setup = e.setup; callers = e.callers; out = e.played })
          history c.trace.result.now refl (rw c.state-core.ensures at c.trace.ensures.items)
          (subst (λ (text : List ℕ). TakesPart (g.W.Sink.taken c.args.sink.now) (g.W.Sink.taken c.print_counted.new.sink) text) same c.in-Err.ensures.part),
    )
