use Rattle.std.proofs.Common.{◌≡◌, ◌≤◌, ◌+◌, ◌*◌, ◌++◌, take, drop, length, All, IsSome}
use Rattle.network_model.proofs.Common.{prefix_cmp, with_rows, find as row_of}
use Rattle.router_core.specs.Parts.{machines_of}
use Rattle.router_core.proofs.Meetings.{reacted, sent, chosen}
use Rattle.router_core.proofs.effects.meet_all.Given as goal

abbrev pub invariant-loop-row : goal.invariant-loop-row
invariant-loop-row g l = record {
  left : drop l.row-index l.machines ≡ drop l.row-index l.initial.machines;
  machines : machines_of (take l.row-index l.machines) ++ reacted l.event (machines_of (drop l.row-index l.initial.machines)) ≡ reacted l.event (machines_of l.initial.machines);
  control : with_rows (chosen l.event l.ports (machines_of (drop l.row-index l.initial.machines))) l.effects.table.table.control
      ≡ with_rows (chosen l.event l.ports (machines_of l.initial.machines)) l.initial.effects.table.table.control;
  published : l.effects.table.table.published ≡ l.initial.effects.table.table.published;
  held : l.effects.gate.gate.held ++ sent l.event l.ports (machines_of (drop l.row-index l.initial.machines)) ≡ l.initial.effects.gate.gate.held ++ sent l.event l.ports (machines_of l.initial.machines);
  ripe : l.effects.gate.gate.ripe ≡ l.initial.effects.gate.gate.ripe;
  sends : l.each ≤ l.effects.sends.capacity;
  gate : length l.initial.machines * l.each ≤ l.effects.gate.room + l.row-index * l.each;
  rows : All (λ m. IsSome (row_of prefix_cmp m.0 l.effects.table.table.control)) l.initial.machines;
}
