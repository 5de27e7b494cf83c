-- What lies behind an encoder may go to another thread, and so may the right to free it.
use mir.Raw.{raw}
use base.Shift.{Keyless}
use denote.Memory.{lone}
use denote.RawPtr.{Ptr}
use denote.Struct.Struct.{exits_of}
use denote.Struct.Owning.{shape, fields, to}
use denote.Param.Send.{IsSend, AllSend, owning_send, struct_send, sendable}
use Rattle.std.specs.Prelude.{Option, Some, None}
use Rattle.std.specs.Global.{Global}
use Rattle.std.proofs.Crossing as heap
use Rattle.std_alloc.proofs.SendSync.{quiet, lies}
use Rattle.std_heap.proofs.Global.TheSendSync as handle
use Rattle.wg_c.specs.Kept.{kept}
use Rattle.wg_encoder.specs.contracts.recorder.Recorder as Recorder
use Rattle.wg_encoder.proofs.recorder.Recorder.TheSendSync.{the_send as recorder}
use Rattle.wg_c.specs.contracts.encoder.Encoder.{the_row, the_type}

held : (alloc : Global) (at : Ptr) (i : Option Recorder.the_row.Denot) → Keyless (kept alloc at i)
held alloc at None = tt
held alloc at (Some x) = (lies Recorder.the_row recorder at x, heap.frees.frees alloc (raw (lone Recorder.the_row.mir)) at)

pub send : IsSend the_row
send =
    let all : AllSend (fields the_type) = (search sendable, (handle.the_field_send, tt)) in
    owning_send the_type all (λ d. held d.alloc d.at d.inside)
    (λ k. quiet (to the_type) (exits_of k (fields the_type)) ((struct_send (shape the_type) all).leaving k))
