-- What C owns of a device: nothing behind null, or the box of one.
use base.Fml.{Fml, feq}
use base.Stored.{Coded}
use denote.RawPtr.{Ptr, null_ptr}
use Rattle.std.specs.Prelude.{Option, None, Some}
use Rattle.std.specs.Coded.{coded_option}
use Rattle.std.specs.Box.Ownership.{box_owns}
use Rattle.std.specs.Global.{Global}
use Rattle.std_heap.specs.contracts.GlobalAllocator.TheImpl.{ghosts}
use Rattle.wg_c.specs.contracts.inner.Inner.{the_row}

-- the memory behind a pointer is that of a device, or the pointer is null
abbrev pub owned : Global → Ptr → Option the_row.Denot → Fml
owned alloc at None = feq Ptr at null_ptr
owned alloc at (Some inside) = box_owns (ghosts.dealloc_token alloc) the_row at inside

-- how a proof tells what is behind a pointer apart
abbrev pub inside_coded : Coded (Option the_row.Denot)
inside_coded = coded_option the_row.coded
