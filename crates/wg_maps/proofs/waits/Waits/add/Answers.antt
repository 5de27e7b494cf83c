use Rattle.std.proofs.Common.{◌≡◌, ℕ, ◌≤◌, length, Some, None, nat_eq, if◌then◌else◌, rules, ap, sym, subst, ◌∙◌, arith}
use Rattle.std.specs.Map.{lookup}
use Rattle.wg_maps.specs.Mappings.{pending_of, with_map}
use Rattle.wg_maps.specs.Waits.{IsKept, waiting}
use Rattle.wg_maps.proofs.ArrangedLemmas.{length_with}
use Rattle.wg_maps.proofs.ListedLemmas.{Puts, waiting_with, kept_added, listed_added, within_added}
use Rattle.wg_maps.proofs.waits.Waits.add.Goals as goal

kept_before : (c : goal.After-insert) → IsKept (waiting c.self.inside.promises.entries c.part.new.listed.items) c.self.inside.promises.entries
kept_before c = subst (λ ws. IsKept ws c.self.inside.promises.entries) (sym c.part.ensures.tidied.same) c.self.invariant.kept

none_before : (c : goal.After-insert) → pending_of (waiting c.self.inside.promises.entries c.part.new.listed.items) c.args.wait.buffer ≡ None
none_before c =
    let none : pending_of (waiting c.self.inside.promises.entries c.self.inside.listed.items) c.args.wait.buffer ≡ None = search rules in
    ap (λ ws. pending_of ws c.args.wait.buffer) c.part.ensures.tidied.same ∙ none

puts : (c : goal.After-insert) → Puts c.self.inside.promises.entries c.insert.new.self.entries c.args.wait
puts c =
    let is : (buffer : ℕ) → lookup (nat_eq buffer) c.insert.new.self.entries ≡ (if nat_eq c.args.wait.buffer buffer then Some c.args.wait.promise else lookup (nat_eq buffer) c.self.inside.promises.entries) = search rules in
    is

added : (c : goal.After-insert) → waiting c.insert.new.self.entries c.list.new.listed.items ≡ with_map (waiting c.self.inside.promises.entries c.self.inside.listed.items) c.args.wait
added c =
    waiting_with c.self.inside.promises.entries c.insert.new.self.entries c.part.new.listed.items c.list.new.listed.items c.args.wait (kept_before c) (puts c) (none_before c) c.part.ensures.unlike c.list.ensures.inserted
    ∙ ap (λ ws. with_map ws c.args.wait) c.part.ensures.tidied.same

pub invariant_of-self : goal.invariant_of-self
invariant_of-self c = record {
  kept = kept_added c.self.inside.promises.entries c.insert.new.self.entries c.part.new.listed.items c.list.new.listed.items c.args.wait (kept_before c) (puts c) (none_before c) c.part.ensures.unlike c.list.ensures.inserted;
  listed = listed_added c.part.new.listed.items c.list.new.listed.items c.args.wait c.part.ensures.tidied.listed c.part.ensures.unlike c.list.ensures.inserted;
  within = within_added c.part.new.listed.items c.list.new.listed.items c.args.wait c.self.inside.newest c.max-self-inside.result (search rules) (search rules) (c.part.ensures.tidied.within c.self.inside.newest c.self.invariant.within) c.list.ensures.inserted;
}

pub returns-clause-pending : goal.returns-clause-pending
returns-clause-pending c = rw (← c.self.view_is) (added c)

pub returns-clause-len : goal.returns-clause-len
returns-clause-len c = rw (← c.self.view_is) (rw (added c) (length_with (waiting c.self.inside.promises.entries c.self.inside.listed.items) c.args.wait))
