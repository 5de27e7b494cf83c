-- Mappings as maps of numbers, and the entries that stand for them.
use Rattle.std.proofs.Common.{◌≡◌, ℕ, nat_eq, List, [], ◌∷◌, Some, None, if◌then◌else◌, refl, sym, ap, ◌∙◌, arith}
use Rattle.std.specs.Map.{lookup}
use Rattle.std.specs.Ordering.{nat_cmp, eq_by_cmp}
use Rattle.std.specs.Cmp.{nat_cmp_total}
use Rattle.std.specs.FinMap as table
use Rattle.std.specs.FinMap.{FinMap, find, nat_cmp-IsAntisymmetric, same_map, get-insert, get-remove, get-from_entries}
use Rattle.std.proofs.lemmas.Bool.Decides.{nat_tests}

same_test : (q k : ℕ) → eq_by_cmp nat_cmp q k ≡ nat_eq q k
same_test q k = grind (arith, nat_tests)

turned : (q k : ℕ) → eq_by_cmp nat_cmp q k ≡ nat_eq k q
turned q k = grind (arith, nat_tests)

module _ {X : Type 0} where
  find_is : (entries : List (ℕ × X)) (q : ℕ) → find nat_cmp q entries ≡ lookup (nat_eq q) entries
  find_is [] q = refl
  find_is (entry ∷ rest) q = ap (λ b. if b then Some entry.1 else find nat_cmp q rest) (same_test q entry.0) ∙ ap (λ o. if nat_eq q entry.0 then Some entry.1 else o) (find_is rest q)

  -- what a map of numbers has that entries stand for
  pub get_is : (entries : List (ℕ × X)) (q : ℕ) → table.get (table.from_entries {R = nat_cmp} entries) q ≡ lookup (nat_eq q) entries
  get_is entries q = get-from_entries nat_cmp_total entries q ∙ find_is entries q

  pub same_kept : (old new : List (ℕ × X)) → ((q : ℕ) → lookup (nat_eq q) new ≡ lookup (nat_eq q) old) → table.from_entries {R = nat_cmp} new ≡ table.from_entries old
  same_kept old new same = same_map nat_cmp_total nat_cmp-IsAntisymmetric (table.from_entries new) (table.from_entries old) (λ q. get_is new q ∙ (same q ∙ sym (get_is old q)))

  pub get_inserted : (mapped : FinMap nat_cmp X) (k : ℕ) (x : X) (q : ℕ) → table.get (table.insert mapped k x) q ≡ (if nat_eq k q then Some x else table.get mapped q)
  get_inserted mapped k x q = get-insert nat_cmp_total mapped k x q ∙ ap (λ b. if b then Some x else table.get mapped q) (turned q k)

  pub get_removed : (mapped : FinMap nat_cmp X) (k q : ℕ) → table.get (table.remove mapped k) q ≡ (if nat_eq k q then None else table.get mapped q)
  get_removed mapped k q = get-remove nat_cmp_total mapped k q ∙ ap (λ b. if b then None else table.get mapped q) (turned q k)

  pub inserted : (old new : List (ℕ × X)) (k : ℕ) (x : X) → ((q : ℕ) → lookup (nat_eq q) new ≡ (if nat_eq k q then Some x else lookup (nat_eq q) old))
      → table.from_entries {R = nat_cmp} new ≡ table.insert (table.from_entries old) k x
  inserted old new k x puts = same_map nat_cmp_total nat_cmp-IsAntisymmetric (table.from_entries new) (table.insert (table.from_entries old) k x) (λ q.
      get_is new q ∙ (puts q ∙ (ap (λ o. if nat_eq k q then Some x else o) (sym (get_is old q)) ∙ (ap (λ b. if b then Some x else table.get (table.from_entries {R = nat_cmp} old) q) (sym (turned q k))
      ∙ sym (get-insert nat_cmp_total (table.from_entries old) k x q)))))

  pub removed : (old new : List (ℕ × X)) (k : ℕ) → ((q : ℕ) → lookup (nat_eq q) new ≡ (if nat_eq k q then None else lookup (nat_eq q) old))
      → table.from_entries {R = nat_cmp} new ≡ table.remove (table.from_entries old) k
  removed old new k puts = same_map nat_cmp_total nat_cmp-IsAntisymmetric (table.from_entries new) (table.remove (table.from_entries old) k) (λ q.
      get_is new q ∙ (puts q ∙ (ap (λ o. if nat_eq k q then None else o) (sym (get_is old q)) ∙ (ap (λ b. if b then None else table.get (table.from_entries {R = nat_cmp} old) q) (sym (turned q k))
      ∙ sym (get-remove nat_cmp_total (table.from_entries old) k q)))))
