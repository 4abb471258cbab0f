-- A handle goes to another thread as the box that it holds.
use mathlib.Core.Bool.{Bool, true, false}
use mathlib.Core.List.{[]}
use base.Shift.{Keyless}
use denote.Param.Send.{IsSend, owning_send, sendable}
use denote.RawPtr.{Ptr}
use Rattle.std.proofs.Crossing.{frees}
use Rattle.std.specs.Global.{Global}
use Rattle.std_alloc.proofs.boxed.Box.TheSendSync as box
use Rattle.std_heap.specs.contracts.Global as Heap
use Rattle.std_heap.specs.contracts.GlobalAllocator.TheImpl.{ghosts}
use Rattle.std_heap.proofs.Global.TheSendSync as heap
use Rattle.c_interface.specs.Handles.{held_owns}
use Rattle.lookup_calls.specs.contracts.writer.ImageWriter as Content
use Rattle.lookup_calls.proofs.Crossing.{writer_sends}
use Rattle.lookup_calls.specs.contracts.writer_handle.WriterHandle.{the_row, the_type}

boxed : (alloc : Global) (holds : Bool) (p : Ptr) (x : Content.the_row.Denot) → Keyless (held_owns Content.the_row alloc holds p x)
boxed alloc true p x = ((box.the_send Content.the_row Heap.the_row ghosts writer_sends heap.the_send frees).owned (record { ptr = p; alloc = alloc; value = x }) []).1
boxed alloc false p x = tt

pub send : IsSend the_row
send = owning_send the_type (search sendable, (search sendable, (heap.the_field_send, tt))) (λ h. boxed h.alloc h.holds h.writer h.value) (λ k h w. tt)
