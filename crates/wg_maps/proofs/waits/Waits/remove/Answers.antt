use Rattle.std.proofs.Common.{◌≡◌, ℕ, length, None, nat_eq, if◌then◌else◌, rules, ap, arith}
use Rattle.std.specs.Map.{lookup}
use Rattle.wg_maps.specs.Waits.{waiting}
use Rattle.wg_maps.proofs.ListedLemmas.{waiting_without, kept_taken, length_without}
use Rattle.wg_maps.proofs.waits.Waits.remove.Goals as goal

pub invariant_of-self : goal.invariant_of-self
invariant_of-self c = record {
  kept = kept_taken c.self.inside.promises.entries c.remove.new.self.entries c.self.inside.listed.items c.args.buffer c.remove.ensures.updates.0 c.self.invariant.kept;
  listed = c.self.invariant.listed;
  within = c.self.invariant.within;
}

pub returns-clause-len : goal.returns-clause-len
returns-clause-len c =
    rw (← c.self.view_is)
    (rw (waiting_without c.self.inside.promises.entries c.remove.new.self.entries c.self.inside.listed.items c.args.buffer c.remove.ensures.updates.0)
    (length_without (waiting c.self.inside.promises.entries c.self.inside.listed.items) c.args.buffer))
