use Rattle.std.proofs.Common.{◌≡◌, ℕ, ◌-◌, ◌*◌, ◌≤◌, length}
use Rattle.wg_fading.specs.Places.{place_at, HasSlot, HasSlots, Reaches}
use Rattle.wg_fading.proofs.places.Places.reserve.Given as goal

abbrev pub invariant-loop-page : goal.invariant-loop-page
invariant-loop-page l = record {
  each : (m : ℕ) → place_at l.self m ≡ place_at l.fn.self m;
  first : l.self.first ≡ l.fn.self.first;
  len : length l.fn.self.floors.items ≤ length l.self.floors.items;
  kept : (n : ℕ) → HasSlot l.fn.self n → HasSlot l.self n;
  slots : HasSlots l.self l.next (l.page * 128);
  reach : Reaches l.self (l.page * 128);
}

abbrev pub decreases-loop-page : goal.decreases-loop-page
decreases-loop-page l = l.end - l.page
