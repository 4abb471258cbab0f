use Rattle.std.proofs.Common.{◌≡◌, ◌≤◌, List, length, length-append, count_by, arith, ap, refl, subst, ◌∙◌}
use Rattle.network_model.specs.{declared.machine.Event.Event, declared.machine.Neighbour.Neighbour, Machine.Reaction, Machine.decision, Machine.with_records}
use Rattle.dual_machine.specs.{Outbox.most_sent, State.MachineState}
use Rattle.dual_machine.proofs.{Closing.IsSound_after, Closing.IsAsking-computation_of, Room.IsAsking, Room.length-reaction, Room.reaction-decision}
use Rattle.dual_machine.proofs.machine.Machine.event.Goals as goal

pub invariant_of-self : goal.invariant_of-self
invariant_of-self g c =
    let i = c.self.inside in
    IsSound_after (Event.Up c.in-Up.port c.in-Up.cost) i.attachment i.attachment (i.ports).items c.deref_mut.result.now c.change_record.new.ports _ i.successor i.active
    (omega arith) c.deref_mut.ensures.value c.change_record.ensures.records refl c.change_record.ensures.cost c.self.invariant.few c.self.invariant.costs c.self.invariant.attached
    c.self.invariant.under_way

pub react-requires : goal.react-requires
react-requires g c =
    let m = (c.args.self.now).machine in
    let e = c.args.event in
    let ups = λ (ns : List Neighbour). count_by (λ n. n.up) ns in
    let counted : c.up_count.result ≡ ups m.ports = c.up_count.ensures ∙ ap ups (c.deref.ensures ∙ ap (λ (s : MachineState). (s.machine).ports) c.self.view_is) in
    let asking = subst (λ (s : MachineState). IsAsking (s.machine).computation) c.self.view_is (IsAsking-computation_of _ _ _ c.self.invariant.under_way) in
    let few = subst (λ (r : Reaction). length r.sends ≤ most_sent m.ports) (reaction-decision m e c.in_default.not-Up) (length-reaction m e asking) in
    record { known = c.requires.known; room = omega (arith, few, counted, c.in_ok-reserve.ensures.ok) }

pub returns-in_default-clause-few : goal.returns-in_default-clause-few
returns-in_default-clause-few g c =
    let m = (c.args.self.now).machine in
    let e = c.args.event in
    let asking = subst (λ (s : MachineState). IsAsking (s.machine).computation) c.self.view_is (IsAsking-computation_of _ _ _ c.self.invariant.under_way) in
    let few = subst (λ (r : Reaction). length r.sends ≤ most_sent m.ports) (reaction-decision m e c.in_default.not-Up) (length-reaction m e asking) in
    let sent = (decision (with_records m e) e).sends in
    omega (arith, few, ap length c.react.ensures.sent, ap length c.reserve.ensures.kept, length-append c.reserve.new.self.list sent)
