-- Bindings that ascend.
use Rattle.std.specs.Prelude.{ℕ, ◌+◌, Bool, true, ◌&&◌, nat_le, List, [], ◌∷◌}
use Rattle.wg_types.specs.declared.bindings.LayoutEntry.{LayoutEntry}

-- whether each binding is above the one before it, and the first at least this
abbrev pub ascends_from : ℕ → List LayoutEntry → Bool
ascends_from least [] = true
ascends_from least (entry ∷ entries) = nat_le least entry.binding && ascends_from (entry.binding + 1) entries
