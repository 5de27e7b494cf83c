-- What C lends of a device: nothing behind null, or what lies there, for reading.
use base.Fml.{Lft, Share, Fml, ftrue, feq, fsep, fex, flft}
use base.Stored.{Coded}
use denote.RawPtr.{Ptr, null_ptr, Testable}
use denote.Struct.Lending.{lent_at}
use Rattle.std.specs.Prelude.{Option, None, Some}
use Rattle.std.specs.Coded.{coded_option}
use Rattle.wg_c.specs.contracts.inner.Inner.{the_row}

-- for a lifetime that lasts, what lies behind a pointer is lent for reading
abbrev pub lent_for : Ptr → the_row.Denot → Lft → Fml
lent_for at inside ν = fsep (lent_at the_row at inside ν) (fex Share (λ q. flft ν q))

-- what lies behind a pointer is lent for reading, and the pointer may be compared with null; or it is null
abbrev pub lent : Ptr → Option the_row.Denot → Fml
lent at None = feq Ptr at null_ptr
lent at (Some inside) = fsep (fex (Testable at) (λ _. ftrue)) (fex Lft (λ ν. lent_for at inside ν))

-- how a proof tells what is behind a pointer apart
abbrev pub inside_coded : Coded (Option the_row.Denot)
inside_coded = coded_option the_row.coded
