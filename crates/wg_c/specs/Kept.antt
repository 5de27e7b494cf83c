-- What C owns of an encoder: nothing behind null, or the box of its recorder.
use base.Fml.{Fml, feq}
use base.Stored.{Coded}
use denote.RawPtr.{Ptr, null_ptr}
use Rattle.std.specs.Prelude.{Option, None, Some}
use Rattle.std.specs.Coded.{coded_option}
use Rattle.std.specs.Box.Ownership.{box_owns}
use Rattle.std.specs.Global.{Global}
use Rattle.std_heap.specs.contracts.GlobalAllocator.TheImpl.{ghosts}
use Rattle.wg_encoder.specs.contracts.recorder.Recorder.{the_row}

-- the memory behind a pointer is that of a recorder, or the pointer is null
abbrev pub kept : Global → Ptr → Option the_row.Denot → Fml
kept alloc at None = feq Ptr at null_ptr
kept alloc at (Some inside) = box_owns (ghosts.dealloc_token alloc) the_row at inside

-- how a proof tells what is behind a pointer apart
abbrev pub recorder_coded : Coded (Option the_row.Denot)
recorder_coded = coded_option the_row.coded
