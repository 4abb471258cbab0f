use Rattle.std.proofs.Common.{◌≡◌, suc, ◌+◌, ◌≤◌, length, get_or, set, drop, sym, ap, subst, ◌∙◌, arith, add-one, ◌||◌, nat_lt, drop-set-lt}
use Rattle.network_model.proofs.Common.{Prefix}
use Rattle.dual_machine.specs.{State.MachineState, Outbox.most_sent}
use Rattle.router_core.specs.Effects.{HasRoomFor}
use Rattle.router_core.proofs.Meetings.{still_there, same_here, same_after, one_more_room, machines-met, control-met, held-met}
use Rattle.router_core.proofs.effects.meet_all.Goals as goal

pub meet-requires-clause-known : goal.meet-requires-clause-known
meet-requires-clause-known g c =
    let here : get_or c.loop-row.machines c.loop-row.row-index c.row-item.result ≡ get_or c.args.machines.now c.loop-row.row-index c.row-item.result
    = same_here c.loop-row.machines c.args.machines.now c.loop-row.row-index c.row-item.result (omega arith) (omega arith) c.loop-row.invariant.left in
    rw here (c.requires.known c.loop-row.row-index c.row-item.result (omega arith))

pub meet-requires-clause-timely : goal.meet-requires-clause-timely
meet-requires-clause-timely g c =
    let here : get_or c.loop-row.machines c.loop-row.row-index c.row-item.result ≡ get_or c.args.machines.now c.loop-row.row-index c.row-item.result
    = same_here c.loop-row.machines c.args.machines.now c.loop-row.row-index c.row-item.result (omega arith) (omega arith) c.loop-row.invariant.left in
    rw here (c.requires.timely c.loop-row.row-index c.row-item.result (omega arith))

pub meet-requires-clause-room : goal.meet-requires-clause-room
meet-requires-clause-room g c =
    let here : get_or c.loop-row.machines c.loop-row.row-index c.row-item.result ≡ get_or c.args.machines.now c.loop-row.row-index c.row-item.result
    = same_here c.loop-row.machines c.args.machines.now c.loop-row.row-index c.row-item.result (omega arith) (omega arith) c.loop-row.invariant.left in
    let few : most_sent ((get_or c.args.machines.now c.loop-row.row-index c.row-item.result).1).machine.ports ≤ c.args.each = c.requires.each c.loop-row.row-index c.row-item.result (omega arith) in
    let one : c.args.each ≤ c.loop-row.effects.gate.room = one_more_room (length c.args.machines.now) c.loop-row.row-index c.args.each c.loop-row.effects.gate.room (omega arith) c.loop-row.invariant.gate in
    let sends : c.args.each ≤ c.loop-row.effects.sends.capacity = c.loop-row.invariant.sends in
    subst (λ m. HasRoomFor (most_sent (m.1).machine.ports) m.0 c.loop-row.effects) (sym here)
    (record {
      sends = omega (arith, few, sends);
      gate = omega (arith, few, one);
      table = ap (λ b. b || nat_lt 0 c.loop-row.effects.table.room) (c.loop-row.invariant.rows c.loop-row.row-index c.row-item.result (omega arith));
    })

pub loop-row-preserved : goal.loop-row-preserved
loop-row-preserved g c =
    let cur : Prefix × MachineState = get_or c.loop-row.machines c.loop-row.row-index c.row-item.result in
    let here : cur ≡ get_or c.args.machines.now c.loop-row.row-index c.row-item.result
    = same_here c.loop-row.machines c.args.machines.now c.loop-row.row-index c.row-item.result (omega arith) (omega arith) c.loop-row.invariant.left in
    let at : cur ≡ get_or c.args.machines.now c.loop-row.row-index cur
    = here ∙ ap (get_or c.args.machines.now c.loop-row.row-index) c.row-item.is in
    let few : most_sent (cur.1).machine.ports ≤ c.args.each = rw here (c.requires.each c.loop-row.row-index c.row-item.result (omega arith)) in
    record {
      left = ap (λ n. drop n (set c.loop-row.machines c.loop-row.row-index (cur.0, c.meet.new.machine))) (add-one c.loop-row.row-index)
          ∙ drop-set-lt (suc c.loop-row.row-index) c.loop-row.machines c.loop-row.row-index (cur.0, c.meet.new.machine) (omega arith)
          ∙ same_after c.loop-row.machines c.args.machines.now c.loop-row.row-index c.row-item.result (omega arith) (omega arith) c.loop-row.invariant.left
          ∙ ap (λ n. drop n c.args.machines.now) (sym (add-one c.loop-row.row-index));
      machines = machines-met c.args.event.now c.args.ports.now c.args.machines.now c.loop-row.machines c.loop-row.row-index cur c.meet.new.machine (omega arith) at c.meet.ensures.machine (omega arith) c.loop-row.invariant.machines;
      control = control-met c.args.event.now c.args.ports.now c.args.machines.now c.loop-row.machines c.loop-row.row-index cur c.meet.new.machine (omega arith) at c.meet.ensures.machine _ _ _ c.meet.ensures.control c.loop-row.invariant.control;
      published = c.meet.ensures.published ∙ c.loop-row.invariant.published;
      held = held-met c.args.event.now c.args.ports.now c.args.machines.now c.loop-row.machines c.loop-row.row-index cur c.meet.new.machine (omega arith) at c.meet.ensures.machine _ _ _ c.meet.ensures.held c.loop-row.invariant.held;
      ripe = c.meet.ensures.ripe ∙ c.loop-row.invariant.ripe;
      sends = (let kept : c.loop-row.effects.sends.capacity ≤ c.meet.new.self.sends.capacity = c.meet.ensures.room.sends in let enough : c.args.each ≤ c.loop-row.effects.sends.capacity = c.loop-row.invariant.sends in omega (arith, kept, enough));
      gate = (let taken : c.loop-row.effects.gate.room ≤ c.meet.new.self.gate.room + most_sent (cur.1).machine.ports = c.meet.ensures.room.gate in omega (arith, few, taken, c.loop-row.invariant.gate));
      rows = λ k d h. rw c.meet.ensures.control (still_there (get_or c.args.machines.now k d).0 _ _ _ (c.loop-row.invariant.rows k d h));
    }
