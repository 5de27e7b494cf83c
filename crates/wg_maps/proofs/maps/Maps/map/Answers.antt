use Rattle.std.proofs.Common.{◌≡◌, ◌≤◌, rules, arith}
use Rattle.std.specs.FinMap as table
use Rattle.wg_types.specs.declared.mappings.MapState.TheVariants.{Unmapped}
use Rattle.wg_types.specs.declared.mappings.PendingMap.{PendingMap}
use Rattle.wg_maps.specs.Mappings.{pending_of, state_with}
use Rattle.wg_maps.proofs.StateLemmas.{apart_pending}
use Rattle.wg_maps.proofs.maps.Maps.map.Goals as goal

pub invariant_of-self : goal.invariant_of-self
invariant_of-self c =
    let new : PendingMap = record { promise = c.args.promise; buffer = c.args.buffer; last = c.args.last; mapping = record { mode = c.args.mode; lo = c.args.lo; hi = c.args.hi } } in
    let free : state_with (pending_of c.self.inside.waits.pending c.args.buffer) (table.get c.self.inside.mapped.buffers c.args.buffer) ≡ Unmapped = search rules in
    let room : 1 ≤ c.self.inside.spare = search rules in
    record {
      apart = rw c.add.ensures.pending (apart_pending c.self.inside.waits.pending c.self.inside.mapped.buffers new free c.self.invariant.apart);
      waits_fit = omega (arith, room);
      mapped_fit = omega (arith, room);
    }

pub returns-clause-apart : goal.returns-clause-apart
returns-clause-apart c =
    let new : PendingMap = record { promise = c.args.promise; buffer = c.args.buffer; last = c.args.last; mapping = record { mode = c.args.mode; lo = c.args.lo; hi = c.args.hi } } in
    let free : state_with (pending_of c.self.inside.waits.pending c.args.buffer) (table.get c.self.inside.mapped.buffers c.args.buffer) ≡ Unmapped = search rules in
    rw c.add.ensures.pending (apart_pending c.self.inside.waits.pending c.self.inside.mapped.buffers new free c.self.invariant.apart)
