-- What is held is the least relation.
use Rattle.std.proofs.Common.{◌≡◌, ℕ, zero, suc, ◌+◌, ◌<◌, ◌≤◌, reverse, true, false, not, ◌||◌, Option, Some, None, refl, sym, arith, true≢false, inl, inr}
use Rattle.std.specs.Option.{option_map_or}
use Rattle.std.proofs.lemmas.Bool.{or_cases}
use Rattle.wg_model.specs.Holding.{any_below}
use Rattle.wg_model.proofs.Holding.{below_from, held_cases, referred_held}
use Rattle.wg_history.specs.Entries.{Setup, Past}
use Rattle.wg_history.specs.Objects.{count}
use Rattle.wg_history.specs.Rules.{dropped_at, is_dropped}
use Rattle.wg_history.specs.Held.{is_open, holds_of, is_held, Held, undropped, referred, pending, awaited}
use Rattle.wg_history.specs.Answers.{IsRun}
use Rattle.wg_history.specs.Laws.{HeldIsLeast}
use Rattle.wg_history.proofs.Tests.{not_true}
use Rattle.wg_history.proofs.Holders.{is_named, is_awaited, is_root, held_made, rooted, undropped_held, named_held, named_by, named_from, awaited_root}
use Rattle.wg_history.proofs.Making.{refers_back}

root_of : (setup : Setup) (past : Past) (n : ℕ) → n < count past → is_root setup past n ≡ true → Held setup past n
root_of setup past n lt root = elim (or_cases (not (is_dropped setup past n)) (is_named setup past n || is_awaited setup past n) root) [
  | inl here ↦ undropped lt (not_true (is_dropped setup past n) here)
  | inr other ↦ elim (or_cases (is_named setup past n) (is_awaited setup past n) other) [
    | inl names ↦ (let found = named_by setup past n names in pending lt found.lt found.submittable found.names)
    | inr waits ↦ by_drop (dropped_at setup past n) refl waits
  ]
]
  where
    by_drop : (o : Option ℕ) → dropped_at setup past n ≡ o → option_map_or (any_below (is_open setup past)) o false ≡ true → Held setup past n
    by_drop None e h = absurd (true≢false (sym h))
    by_drop (Some k) e h = let found = below_from (is_open setup past) k h in awaited lt e found.lt found.passes

held_from : (setup : Setup) (past : Past) (fuel n : ℕ) → count past ≤ n + fuel → is_held setup past n ≡ true → Held setup past n
unfolding is_held
held_from setup past zero n le e = let made = held_made setup past n e in absurd (omega (arith, le, made))
held_from setup past (suc fuel) n le e = elim (held_cases (holds_of setup past) (count past) n e) [
  | inl own ↦ root_of setup past n (held_made setup past n e) own
  | inr holder ↦ (
      let after = holder.after in
      referred (held_from setup past fuel holder.k (omega (arith, le, after)) holder.held) holder.refers)
]

held_to : (setup : Setup) (past : Past) (n : ℕ) → IsRun setup past → Held setup past n → is_held setup past n ≡ true
unfolding is_held
held_to setup past n run (undropped lt e) = undropped_held setup past n lt e
held_to setup past n run (referred {m} h refers) = referred_held (holds_of setup past) (count past) m n (refers_back setup past m n run refers) (held_to setup past m run h) refers
held_to setup past n run (pending {b} lt below is names) = named_held setup past n lt (named_from setup past b n below is names)
held_to setup past n run (awaited {e} {k} made drop lt is) = rooted setup past n made (awaited_root setup past n k e drop lt is)

pub held_is_least : HeldIsLeast
held_is_least setup history n run = (λ e. held_from setup (reverse history) (count (reverse history)) n (omega arith) e, λ h. held_to setup (reverse history) n run h)
