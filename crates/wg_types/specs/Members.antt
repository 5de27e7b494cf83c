-- Lists by what is in them.
use Rattle.std.specs.Prelude.{◌≡◌, Bool, List}
use Rattle.std.specs.List.{list_any}

-- Lists have the same members, in any order and each as often as may be: whatever is asked of a member, one of these passes where
-- one of those does.
abbrev pub SameMembers : {A : Type 0} → List A → List A → Type 0
SameMembers {A} xs ys = (test : A → Bool) → list_any test xs ≡ list_any test ys
