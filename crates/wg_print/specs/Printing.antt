-- What a printer has passed on, and what it still holds.
use Rattle.std.specs.Prelude.{◌≡◌, ℕ, ◌≤◌, List, [], ◌++◌, Bool, true, false, Result, OnOk, OnErr}
use Rattle.std.specs.declared.option.Option.{Option}
use Rattle.std.specs.Io.KnownBytes.{Appends}
use Rattle.wg_io.specs.Causes.{Rose}

-- The sink's bytes where it tells them, its count of faults, the bytes that are still in the buffer, and whether a
-- write has failed. The text is what the sink took, with the buffer after it.
pub record Printer : Type 0 where
  pub taken : Option (List ℕ)
  pub faults : ℕ
  pub held : List ℕ
  pub failed : Bool

-- the sink took a part of the piece, from its front
pub record TakesPart (old new : Option (List ℕ)) (piece : List ℕ) : Type 0 where
  pub part : List ℕ
  pub rest : List ℕ
  pub taken : Appends old new part
  pub whole : piece ≡ part ++ rest

-- the text went on by exactly these bytes: the sink took some, the rest are held, and no write has failed
pub record Adds (old new : Printer) (text : List ℕ) : Type 0 where
  pub part : List ℕ
  pub taken : Appends old.taken new.taken part
  pub whole : old.held ++ text ≡ part ++ new.held
  pub later : old.faults ≤ new.faults
  pub live : new.failed ≡ false

-- the sink failed, after it had taken a part of what was held with these bytes after it
pub record Stops (old new : Printer) (text : List ℕ) : Type 0 where
  pub part : TakesPart old.taken new.taken (old.held ++ text)
  pub later : old.faults ≤ new.faults
  pub rose : Rose old.faults new.faults

-- what a printer did with the text: once it has failed it does nothing
pub record Puts (old new : Printer) (text : List ℕ) : Type 0 where
  pub later : old.faults ≤ new.faults
  pub ok : new.failed ≡ false → Adds old new text
  pub stopped : new.failed ≡ true → old.failed ≡ false → Stops old new text
  pub dead : old.failed ≡ true → (new.failed ≡ true) × Appends old.taken new.taken []

-- a printer that holds nothing and has not failed
pub record IsFresh (p : Printer) : Type 0 where
  pub held : p.held ≡ []
  pub failed : p.failed ≡ false

-- the sink took the text whole, or a part of it and then failed
pub record Written {U E : Type 0} (old new : Option (List ℕ)) (before after : ℕ) (text : List ℕ) (result : Result U E) : Type 0 where
  pub later : before ≤ after
  pub ok : OnOk result (Appends old new text)
  pub part : OnErr result (TakesPart old new text)
  pub cause : OnErr result (Rose before after)
