use Rattle.std.proofs.Common.{◌≡◌, ℕ, ◌+◌, ◌-◌, length}
use Rattle.wg_fading.specs.Places.{in_floor, has_in_floor}
use Rattle.wg_fading.proofs.floors.reach.Given as goal

abbrev pub invariant-loop-floor : goal.invariant-loop-floor
invariant-loop-floor l = record {
  each : (j : ℕ) → in_floor l.floor j ≡ in_floor l.initial.floor j;
  has : (j : ℕ) → has_in_floor l.floor j ≡ has_in_floor l.initial.floor j;
}

abbrev pub decreases-loop-floor : goal.decreases-loop-floor
decreases-loop-floor l = l.page + 1 - length l.floor.pages.items
