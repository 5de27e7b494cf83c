-- Where a key goes among members, and members in the order of their keys.
use Rattle.std.specs.Prelude.{◌≡◌, ℕ, ◌+◌, List, [], ◌∷◌, Result, Ok, Err, ⊤}
use Rattle.std.specs.Borrow.{Bor}
use Rattle.std.specs.Ordering.{nat_cmp, match_ordering}
use Rattle.std.specs.declared.cmp.Ordering.TheVariants.{Less}
use Rattle.std.specs.Cmp.Lexicographic.{slice_cmp}
use Rattle.serde_json.specs.Data.{Members, no_members, member}
use Rattle.wg_json.specs.declared.value.Value.{Value}

-- where a key stands among members behind n others, or before which of them it would
abbrev pub place_from : ℕ → List ℕ → List (Bor (List ℕ) × Value) → Result ℕ ℕ
place_from n key [] = Err n
place_from n key (m ∷ ms) = match_ordering (slice_cmp nat_cmp key m.0.now) (Err n) (Ok n) (place_from (n + 1) key ms)

-- whether a key comes before that of the first of the members
abbrev pub ComesFirst : List ℕ → Members → Type 0
ComesFirst k no_members = ⊤
ComesFirst k (member l d ms) = slice_cmp nat_cmp k l ≡ Less

-- whether members stand in the order of their keys, each key once
abbrev pub KeysAscend : Members → Type 0
KeysAscend no_members = ⊤
KeysAscend (member k d ms) = ComesFirst k ms × KeysAscend ms
