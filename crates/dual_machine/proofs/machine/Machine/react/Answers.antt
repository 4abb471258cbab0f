use Rattle.std.proofs.Common.{◌≡◌, ◌≤◌, ℕ, false, not, Option, Some, None, List, ◌++◌, length, take, drop, append_assoc, IfSome, arith, refl, ap, subst, sym, ◌∙◌}
use Rattle.std.specs.List.{list_any, length_refill}
use Rattle.std.proofs.lemmas.Grind.{common_steps}
use Rattle.metric.specs.Distance.{IsCost}
use Rattle.network_model.specs.{declared.machine.Neighbour.Neighbour, declared.machine.Outgoing.Outgoing}
use Rattle.network_model.specs.Machine.{Machine, Computation, Reaction, home_ways, port_count, via_successor, with_records, answers_at_once, completion, awaited_after, debt_after, successor_after, passive_reaction, decision}
use Rattle.diffusing_replies.specs.{declared.origin.Origin.Origin, Origin.needs_test}
use Rattle.dual_machine.specs.{declared.mode.Active.Active, Event.IsKnown, Awaited.awaited_of, Parts.IsUnderWay, Parts.IsDebtOf, Parts.computation_of, State.MachineState, State.moved}
use Rattle.dual_machine.proofs.{Closing.costs_after, Closing.IsSound_after, Closing.asking_after, Awaiting.asking-done, Debts.not_risen, Debts.IsDebtOf_after}
use Rattle.dual_machine.proofs.Costs.{condition_holds_near, not_above, HasCost-attachment_after, HasCost-ways}
use Rattle.dual_machine.proofs.Deciding.{then, recorded, decision-passive, decision-done}
use Rattle.dual_machine.proofs.machine.Machine.react.Goals as goal
use Rattle.dual_machine.proofs.machine.Machine.react.Goals.{After-push_to, After-is_done}
use Rattle.dual_machine.proofs.machine.Machine.react.Given as given

pub invariant_of-self : goal.invariant_of-self
invariant_of-self g c =
    let i = c.self.inside in
    IsSound_after c.args.event.now i.attachment _ (i.ports).items c.deref_mut.result.now c.change_record.new.ports _ c.successor_after-self-inside.result i.active
    (omega arith) c.deref_mut.ensures.value c.change_record.ensures.records c.attachment_after-self-inside.ensures c.change_record.ensures.cost c.self.invariant.few c.self.invariant.costs c.self.invariant.attached
    (rw c.in_default.is tt)

pub invariant_of-self-then-is_done : goal.invariant_of-self-then-is_done
invariant_of-self-then-is_done g c =
    let i = c.self.inside in
    IsSound_after c.args.event.now i.attachment _ (i.ports).items c.deref_mut.result.now c.change_record.new.ports _ c.successor_after-self-inside.result _
    (omega arith) c.deref_mut.ensures.value c.change_record.ensures.records c.attachment_after-self-inside.ensures c.change_record.ensures.cost c.self.invariant.few c.self.invariant.costs c.self.invariant.attached
    tt

-- what was under way before the event, and what is owed after it
debts : (g : given.Over) (c : After-push_to g) → (let n = length (c.self.inside.ports).items in
    IsUnderWay n c.self.inside.successor c.in-Some.active × IsDebtOf n c.moved-origin.result c.successor_after-self-inside.result c.debt_after-debt.result)
debts g c =
    let i = c.self.inside in
    let count : c.len-degree.result ≡ length (i.ports).items = omega arith in
    let known : IsKnown (length (i.ports).items) c.args.event.now = subst (λ (s : MachineState). IsKnown (port_count s.machine) c.args.event.now) (sym c.self.view_is) c.requires.known in
    let before = subst (λ (a : Option Active). IfSome a (IsUnderWay (length (i.ports).items) i.successor)) c.in-Some.is c.self.invariant.under_way in
    (before, IsDebtOf_after (length (i.ports).items) c.args.event.now i.successor _ c.has_risen-risen.result _ _ _ _ known (c.moved-origin.ensures ∙ ap (λ (n : ℕ). moved n i.successor c.args.event.now c.has_risen-risen.result c.in-Some.active.origin) count) (c.successor_after-self-inside.ensures ∙ ap (λ (n : ℕ). successor_after n c.args.event.now i.successor) count) c.debt_after-debt.ensures before.debt)

pub invariant_of-self-else-is_done : goal.invariant_of-self-else-is_done
invariant_of-self-else-is_done g c =
    let i = c.self.inside in
    let n = length (i.ports).items in
    let (before, debt) = debts g (goal.at.invariant_of-self-else-is_done g c).After-push_to in
    IsSound_after c.args.event.now i.attachment _ (i.ports).items c.deref_mut.result.now c.change_record.new.ports _ c.successor_after-self-inside.result _
    (omega arith) c.deref_mut.ensures.value c.change_record.ensures.records c.attachment_after-self-inside.ensures c.change_record.ensures.cost c.self.invariant.few c.self.invariant.costs c.self.invariant.attached
    (record {
      asking = asking-done c.is_done.result c.end_wait.new.replies n (c.end_wait.ensures.no_more n before.known) c.is_done.ensures ∙ ap not c.if-is_done.false;
      known = c.end_wait.ensures.no_more n before.known;
      debt = debt;
    })

-- who is awaited after the event, and whether someone is
waits : (g : given.Over) (c : After-is_done g) → (let n = length (c.self.inside.ports).items in
    (awaited_of n c.end_wait.new.replies ≡ awaited_after c.args.event.now (awaited_of n c.in-Some.active.replies)) × (list_any (λ b. b) (awaited_of n c.end_wait.new.replies) ≡ not c.is_done.result))
waits g c =
    let i = c.self.inside in
    let n = length (i.ports).items in
    (c.end_wait.ensures.awaited n, asking_after n i.successor i.active c.in-Some.active c.end_wait.new.replies c.is_done.result c.in-Some.is c.self.invariant.under_way c.end_wait.ensures.no_more c.is_done.ensures)

pub returns-else-is_done-clause-machine : goal.returns-else-is_done-clause-machine
returns-else-is_done-clause-machine g c =
    let (awaited, asking) = waits g (goal.at.returns-else-is_done-clause-machine g c).After-is_done in grind (arith, common_steps)

pub returns-else-is_done-clause-origin : goal.returns-else-is_done-clause-origin
returns-else-is_done-clause-origin g c =
    let (awaited, asking) = waits g (goal.at.returns-else-is_done-clause-origin g c).After-is_done in grind (arith, common_steps)

pub returns-then-is_done-clause-origin : goal.returns-then-is_done-clause-origin
returns-then-is_done-clause-origin g c =
    let (awaited, asking) = waits g (goal.at.returns-then-is_done-clause-origin g c).After-is_done in grind (arith, common_steps)

pub returns-else-is_done-clause-sent : goal.returns-else-is_done-clause-sent
returns-else-is_done-clause-sent g c =
    let (awaited, asking) = waits g (goal.at.returns-else-is_done-clause-sent g c).After-is_done in grind (arith, common_steps)

pub complete-requires-clause-room : goal.complete-requires-clause-room
complete-requires-clause-room g c =
    let (awaited, asking) = waits g (goal.at.complete-requires-clause-room g c).After-is_done in grind (arith, common_steps)

pub complete-requires-clause-debt : goal.complete-requires-clause-debt
complete-requires-clause-debt g c =
    let i = c.self.inside in
    subst (λ (n : ℕ). IsDebtOf n c.moved-origin.result c.successor_after-self-inside.result c.debt_after-debt.result)
    (length_refill (length (i.ports).items) (i.ports).items c.change_record.new.ports refl) (debts g (goal.at.complete-requires-clause-debt g c).After-push_to).1

pub complete-requires-clause-tested : goal.complete-requires-clause-tested
complete-requires-clause-tested g c = λ untested.
    let i = c.self.inside in
    let after = c.successor_after-self-inside.result in
    let home = home_ways c.attachment_after-self-inside.result in
    let costs = costs_after c.args.event.now (i.ports).items c.deref_mut.result.now c.change_record.new.ports _ (omega arith) c.deref_mut.ensures.value c.change_record.ensures.records c.change_record.ensures.cost c.self.invariant.costs in
    let attached = subst (λ (o : Option ℕ). IfSome o (λ cost. IsCost cost)) (sym c.attachment_after-self-inside.ensures) (HasCost-attachment_after c.args.event.now i.attachment c.change_record.ensures.cost c.self.invariant.attached) in
    let same = not_risen c.args.event.now c.len-degree.result i.successor c.has_risen-risen.result c.in-Some.active.origin (subst (λ (o : Origin). needs_test o ≡ false) c.moved-origin.ensures untested) in
    let near = not_above i.rd (via_successor (c.deref.result.now ++ home) after) (sym c.has_risen-risen.ensures.risen ∙ same) in
    condition_holds_near i.rd _ after (HasCost-ways _ c.attachment_after-self-inside.result costs attached) c.has_risen-risen.ensures.bounded
    (subst (λ (ns : List Neighbour). via_successor (ns ++ home) after ≤ i.rd) c.deref.ensures near)

-- ---- a machine that was passive

module _ (g : given.Over) (c : goal.After-decide g) where
  abbrev passive_before : Machine
  passive_before = then c.args.event.now c.self.inside.attachment (c.self.inside.ports).items c.self.inside.rd c.self.inside.fd c.self.inside.successor (computation_of (length (c.self.inside.ports).items) c.self.inside.active)

  passive : passive_before.computation ≡ None
  passive = ap (computation_of (length (c.self.inside.ports).items)) c.in_default.is

  abbrev ports_now : List Neighbour
  ports_now = take (length (c.self.inside.ports).items) (c.change_record.new.ports ++ drop (length c.change_record.new.ports) (c.self.inside.ports).items)

  abbrev deciding : Option Computation → Machine
  deciding o = record { attachment = c.attachment_after-self-inside.result; ports = ports_now; rd = c.self.inside.rd; fd = c.self.inside.fd; successor = c.successor_after-self-inside.result; computation = o }

  decided : deciding None ≡ with_records passive_before c.args.event.now
  decided = recorded c.args.event.now c.self.inside.attachment (c.self.inside.ports).items c.self.inside.rd c.self.inside.fd c.self.inside.successor (computation_of (length (c.self.inside.ports).items) c.self.inside.active)
      c.attachment_after-self-inside.result c.deref_mut.result.now c.change_record.new.ports _ c.successor_after-self-inside.result None c.len-degree.result
      (omega arith) c.deref_mut.ensures.value c.change_record.ensures.records c.attachment_after-self-inside.ensures (omega arith) c.successor_after-self-inside.ensures
      (sym passive)

pub returns-in_default-clause-machine : goal.returns-in_default-clause-machine
returns-in_default-clause-machine g c =
    c.decide.ensures.machine
    ∙ ap (λ (o : Option Computation). (passive_reaction (deciding g c o) c.args.event.now).machine) (ap (computation_of (length (ports_now g c))) c.in_default.is)
    ∙ ap (λ (m : Machine). (passive_reaction m c.args.event.now).machine) (decided g c)
    ∙ ap (λ (r : Reaction). r.machine) (decision-passive (with_records (passive_before g c) c.args.event.now) c.args.event.now (passive g c))
    ∙ ap (λ (s : MachineState). (decision (with_records s.machine c.args.event.now) c.args.event.now).machine) c.self.view_is

pub returns-in_default-clause-sent : goal.returns-in_default-clause-sent
returns-in_default-clause-sent g c =
    c.decide.ensures.sent
    ∙ ap (λ (o : Option Computation). c.args.sends.now.list ++ (passive_reaction (deciding g c o) c.args.event.now).sends) (ap (computation_of (length (ports_now g c))) c.in_default.is)
    ∙ ap (λ (m : Machine). c.args.sends.now.list ++ (passive_reaction m c.args.event.now).sends) (decided g c)
    ∙ ap (λ (r : Reaction). c.args.sends.now.list ++ r.sends) (decision-passive (with_records (passive_before g c) c.args.event.now) c.args.event.now (passive g c))
    ∙ ap (λ (s : MachineState). c.args.sends.now.list ++ (decision (with_records s.machine c.args.event.now) c.args.event.now).sends) c.self.view_is

-- ---- a computation that is over

module _ (g : given.Over) (c : goal.After-complete g) where
  abbrev active_before : Machine
  active_before = then c.args.event.now c.self.inside.attachment (c.self.inside.ports).items c.self.inside.rd c.self.inside.fd c.self.inside.successor (computation_of (length (c.self.inside.ports).items) c.self.inside.active)

  abbrev under_way : Computation
  under_way = record { awaited = awaited_of (length (c.self.inside.ports).items) c.in-Some.active.replies; debt = c.in-Some.active.debt }

  active : active_before.computation ≡ Some under_way
  active = ap (computation_of (length (c.self.inside.ports).items)) c.in-Some.is

  done : list_any (λ b. b) (awaited_after c.args.event.now under_way.awaited) ≡ false
  done =
      ap (λ bs. list_any (λ b. b) bs) (sym (c.end_wait.ensures.awaited (length (c.self.inside.ports).items)))
      ∙ asking_after (length (c.self.inside.ports).items) c.self.inside.successor c.self.inside.active c.in-Some.active c.end_wait.new.replies c.is_done.result c.in-Some.is c.self.invariant.under_way c.end_wait.ensures.no_more c.is_done.ensures
      ∙ ap not c.if-is_done.true

  abbrev completing : Machine
  completing = record {
    attachment = c.attachment_after-self-inside.result;
    ports = take (length (c.self.inside.ports).items) (c.change_record.new.ports ++ drop (length c.change_record.new.ports) (c.self.inside.ports).items);
    rd = c.self.inside.rd;
    fd = c.self.inside.fd;
    successor = c.successor_after-self-inside.result;
    computation = None;
  }

  completed : completing ≡ with_records (record active_before { computation = None }) c.args.event.now
  completed = recorded c.args.event.now c.self.inside.attachment (c.self.inside.ports).items c.self.inside.rd c.self.inside.fd c.self.inside.successor None
      c.attachment_after-self-inside.result c.deref_mut.result.now c.change_record.new.ports _ c.successor_after-self-inside.result None c.len-degree.result
      (omega arith) c.deref_mut.ensures.value c.change_record.ensures.records c.attachment_after-self-inside.ensures (omega arith) c.successor_after-self-inside.ensures refl

  owed : c.debt_after-debt.result ≡ debt_after (with_records active_before c.args.event.now).successor c.args.event.now c.in-Some.active.debt
  owed = c.debt_after-debt.ensures ∙ ap (λ (m : Machine). debt_after m.successor c.args.event.now c.in-Some.active.debt) completed

pub returns-then-is_done-clause-machine : goal.returns-then-is_done-clause-machine
returns-then-is_done-clause-machine g c =
    c.complete.ensures.machine
    ∙ ap (λ (m : Machine). (completion m c.debt_after-debt.result).machine) (completed g c)
    ∙ ap (λ (o : Option ℕ). (completion (with_records (active_before g c) c.args.event.now) o).machine) (owed g c)
    ∙ ap (λ (r : Reaction). r.machine) (decision-done (with_records (active_before g c) c.args.event.now) c.args.event.now (under_way g c) (active g c) (done g c))
    ∙ ap (λ (s : MachineState). (decision (with_records s.machine c.args.event.now) c.args.event.now).machine) c.self.view_is

pub returns-then-is_done-clause-sent : goal.returns-then-is_done-clause-sent
returns-then-is_done-clause-sent g c =
    let m = with_records (active_before g c) c.args.event.now in
    c.complete.ensures.sent
    ∙ ap (λ (x : Machine). c.push_to.new.self.list ++ (completion x c.debt_after-debt.result).sends) (completed g c)
    ∙ ap (λ (o : Option ℕ). c.push_to.new.self.list ++ (completion m o).sends) (owed g c)
    ∙ ap (λ (xs : List Outgoing). xs ++ (completion m (debt_after m.successor c.args.event.now c.in-Some.active.debt)).sends)
    (c.push_to.ensures.pushed ∙ ap (λ (xs : List Outgoing). c.args.sends.now.list ++ xs) (c.other_asker.ensures m (sym (ap (λ (x : Machine). x.successor) (completed g c)))))
    ∙ append_assoc c.args.sends.now.list (answers_at_once m c.args.event.now) (completion m (debt_after m.successor c.args.event.now c.in-Some.active.debt)).sends
    ∙ ap (λ (r : Reaction). c.args.sends.now.list ++ r.sends) (decision-done m c.args.event.now (under_way g c) (active g c) (done g c))
    ∙ ap (λ (s : MachineState). c.args.sends.now.list ++ (decision (with_records s.machine c.args.event.now) c.args.event.now).sends) c.self.view_is
