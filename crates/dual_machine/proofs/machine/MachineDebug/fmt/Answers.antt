use Rattle.dual_machine.proofs.Records.{fits}
use Rattle.dual_machine.proofs.machine.MachineDebug.fmt.Goals as goal

pub derived_fields4-requires-room-B-Debug : goal.derived_fields4-requires-room-B-Debug
derived_fields4-requires-room-B-Debug g c = λ _ _. fits g.row.A g.met.A.SmallAllocator.small
