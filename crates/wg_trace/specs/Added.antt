-- Lists that are added to.
use Rattle.std.specs.Prelude.{◌≡◌, List, ◌++◌}

-- a list begins with another: it is that, with something more after it, or nothing
pub record BeginsWith {A : Type 0} (whole front : List A) : Type 0 where
  pub more : List A
  pub is : whole ≡ front ++ more
