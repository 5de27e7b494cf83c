use Rattle.std.proofs.Common.{◌∙◌, sym, ap, true, false}
use Rattle.wg_model.specs.Automatic.{layouts_meet}
use Rattle.wg_auto.proofs.Ruled.{ruled_clash, ruled_many, ruled_layouts}
use Rattle.wg_auto.proofs.checks.check_automatic.Goals as goal

pub returns-in-Clash : goal.returns-in-Clash
returns-in-Clash c iface merged = ruled_clash c.args.limits.now iface _ _ (rw c.in-Clash.is at merged)

pub returns-in-TooMany : goal.returns-in-TooMany
returns-in-TooMany c iface merged = ruled_many c.args.limits.now iface (rw c.in-TooMany.is at merged)

pub returns-then-not-layouts_meet : goal.returns-then-not-layouts_meet
returns-then-not-layouts_meet c iface merged = ruled_layouts c.args.limits.now iface c.in-Layouts.layouts false (rw c.in-Layouts.is at merged) (ap (layouts_meet c.args.limits.now) (sym c.as_slice.ensures) ∙ (sym c.layouts_meet.ensures ∙ c.if-not-layouts_meet.true))

pub returns-else-not-layouts_meet : goal.returns-else-not-layouts_meet
returns-else-not-layouts_meet c iface merged = ruled_layouts c.args.limits.now iface c.in-Layouts.layouts true (rw c.in-Layouts.is at merged) (ap (layouts_meet c.args.limits.now) (sym c.as_slice.ensures) ∙ (sym c.layouts_meet.ensures ∙ c.if-not-layouts_meet.false))
