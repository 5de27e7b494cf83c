-- The parts own what a box at the same types owns.
use mir.Syntax.{impl, tnil, dnil}
use mathlib.Core.List.{[]}
use denote.Signature.{Slot, plain}
use Rattle.std_alloc.proofs.BoxSteps.Form.{Bx}
use Rattle.std_heap.specs.contracts.Global as Heap
use Rattle.std_heap.specs.contracts.GlobalAllocator.TheImpl.{ghosts, dict}
use Rattle.std_heap.proofs.Global.TheLaws as heap
use Rattle.wg_encoder.specs.contracts.recorder.Recorder as Recorder
use Rattle.wg_encoder.proofs.recorder.Recorder.TheLaws as recorder
use Rattle.wg_c.specs.contracts.parts.Parts as Parts
use Rattle.wg_c.specs.contracts.encoder.Encoder as Encoder

abbrev pub E : Bx
E = record { row = Recorder.the_row; laws = recorder.the_row_laws; al = record { row = Heap.the_row; laws = heap.the_row_laws; g = ghosts; d = dict; drops = impl [] tnil dnil } }

abbrev pub FromParts : Slot 0
FromParts = plain (λ _. Parts.the_row Recorder.the_row Heap.the_row ghosts)

abbrev pub FromEncoder : Slot 0
FromEncoder = plain (λ _. Encoder.the_row)
