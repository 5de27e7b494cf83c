-- What was read of a source, up to a limit.
use Rattle.std.specs.Prelude.{◌≡◌, ℕ, ◌+◌, ◌<◌, ◌≤◌, List, length, Bool, true, false, ◌++◌}
use Rattle.std.specs.declared.option.Option.{Option}
use Rattle.std.specs.Io.KnownBytes.{Consumes, IsAtEnd}

-- the source gave the limit's bytes and one more
pub record GaveMore (old new : Option (List ℕ)) (limit : ℕ) : Type 0 where
  pub bytes : List ℕ
  pub gave : Consumes old new bytes
  pub over : length bytes ≡ limit + 1

-- the source gave some bytes within the limit
pub record GaveWithin (old new : Option (List ℕ)) (limit : ℕ) : Type 0 where
  pub bytes : List ℕ
  pub gave : Consumes old new bytes
  pub within : length bytes ≤ limit

-- these bytes are all that the source had, within the limit
pub record GaveAll (old new : Option (List ℕ)) (limit : ℕ) (bytes : List ℕ) : Type 0 where
  pub gave : Consumes old new bytes
  pub end : IsAtEnd new
  pub within : length bytes ≤ limit

-- one read: the bytes grew by what the source gave, by one at least but at the end
pub record ReadsOn (old new : Option (List ℕ)) (before after : List ℕ) (end : Bool) : Type 0 where
  pub piece : List ℕ
  pub gave : Consumes old new piece
  pub grown : after ≡ before ++ piece
  pub ended : end ≡ true → IsAtEnd new
  pub stopped : end ≡ true → after ≡ before
  pub moved : end ≡ false → length before < length after
