use Rattle.std.proofs.Common.{◌≡◌, ◌++◌, length, drop}
use Rattle.network_model.specs.Machine.{all_from}
use Rattle.dual_machine.specs.Outbox.{HasRoom}
use Rattle.dual_machine.proofs.sends.Sends.push_to_all.Given as goal

-- what was sent, with what is to be sent to the rest, is all that is to be sent
abbrev pub invariant-loop-i : goal.invariant-loop-i
invariant-loop-i g l = record {
  so_far : l.self.list ++ all_from l.i l.but l.kind l.value (drop l.i l.ports) ≡ l.initial.self.list ++ all_from 0 l.but l.kind l.value l.ports;
  room : HasRoom l.self (length (all_from l.i l.but l.kind l.value (drop l.i l.ports)));
  kept : l.self.capacity ≡ l.initial.self.capacity;
}
