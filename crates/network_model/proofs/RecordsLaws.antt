-- A machine keeps the records that an event leaves, and the attachment.
use Rattle.std.proofs.Common.{refl, ◌≡◌, ℕ, Bool, true, false, if◌then◌else◌, List, Option, Some, None, map, []}
use Rattle.std.specs.List.{list_any}
use Rattle.metric.specs.{declared.kind.Kind.TheVariants.Reply, declared.kind.Kind.TheVariants.Query, Distance.infinity}
use Rattle.network_model.specs.{declared.machine.Event.Event, declared.machine.Outgoing.Outgoing}
use Rattle.network_model.specs.declared.machine.Event.TheVariants.{Message, Up, Down, Cost, Attached, Detached}
use Rattle.network_model.specs.Machine.{Machine, Computation, Reaction, condition_holds, is_port, via_successor, one_to, with_records, asker, passive_result, new_computation, with_first, started_computation, passive_reaction, completion, awaited_after, debt_after, answers_at_once, active_reaction, decision, reaction, all_from, ways}
use Rattle.network_model.proofs.ListLaws.{option_map_or-ind}

-- a reaction that leaves the records as the event left them, and the attachment
pub record KeepsRecords (n : Machine) (r : Reaction) : Type 0 where
  pub ports : r.machine.ports ≡ n.ports
  pub attachment : r.machine.attachment ≡ n.attachment

keeps_either : (n : Machine) (b : Bool) (r s : Reaction) → KeepsRecords n r → KeepsRecords n s → KeepsRecords n (if b then r else s)
keeps_either n true r s k l = k
keeps_either n false r s k l = l

keeps_first : (n : Machine) (sends : List Outgoing) (r : Reaction) → KeepsRecords n r → KeepsRecords n (with_first sends r)
keeps_first n sends r k = record { ports = k.ports; attachment = k.attachment }

keeps_new : (n : Machine) (fd : ℕ) (debt : Option ℕ) → KeepsRecords n (new_computation n fd debt)
keeps_new n fd debt = by_up (list_any (λ x. x.up) n.ports)
  where
    by_up : (b : Bool) → KeepsRecords n (if b then record {
      machine = record n { rd = via_successor (ways n) n.successor; fd = fd; computation = Some (record { awaited = map (λ x. x.up) n.ports; debt = debt }) };
      sends = all_from 0 None Query (via_successor (ways n) n.successor) n.ports;
    } else record { machine = record n { rd = infinity; fd = infinity; successor = None; computation = None }; sends = [] })
    by_up true = record { ports = refl; attachment = refl }
    by_up false = record { ports = refl; attachment = refl }

keeps_started : (n : Machine) (o : Option ℕ) → KeepsRecords n (started_computation n o)
keeps_started n None = keeps_new n n.fd None
keeps_started n (Some q) =
    keeps_either n (is_port q n.successor) (new_computation n n.fd (Some q)) (with_first (one_to (Some q) Reply (via_successor (ways n) n.successor)) (new_computation n n.fd None))
    (keeps_new n n.fd (Some q)) (keeps_first n (one_to (Some q) Reply (via_successor (ways n) n.successor)) (new_computation n n.fd None) (keeps_new n n.fd None))

keeps_passive_result : (n : Machine) (fd : ℕ) (owed : Option ℕ) → KeepsRecords n (passive_result n fd owed)
keeps_passive_result n fd owed = record { ports = refl; attachment = refl }

keeps_passive : (n : Machine) (e : Event) → KeepsRecords n (passive_reaction n e)
keeps_passive n e = keeps_either n (condition_holds n.fd (ways n)) (passive_result n n.fd (asker e)) (started_computation n (asker e)) (keeps_passive_result n n.fd (asker e)) (keeps_started n (asker e))

keeps_completion : (n : Machine) (debt : Option ℕ) → KeepsRecords n (completion n debt)
keeps_completion n debt = keeps_either n (condition_holds n.rd (ways n)) (passive_result n n.rd debt) (new_computation n n.rd debt) (keeps_passive_result n n.rd debt) (keeps_new n n.rd debt)

keeps_active : (n : Machine) (e : Event) (c : Computation) → KeepsRecords n (active_reaction n e c)
keeps_active n e c =
    keeps_either n (list_any (λ b. b) (awaited_after e c.awaited))
    (record { machine = record n { computation = Some (record { awaited = awaited_after e c.awaited; debt = debt_after n.successor e c.debt }) }; sends = answers_at_once n e })
    (with_first (answers_at_once n e) (completion n (debt_after n.successor e c.debt)))
    (record { ports = refl; attachment = refl })
    (keeps_first n (answers_at_once n e) (completion n (debt_after n.successor e c.debt)) (keeps_completion n (debt_after n.successor e c.debt)))

keeps_decision : (n : Machine) (e : Event) → KeepsRecords n (decision n e)
keeps_decision n e = option_map_or-ind (KeepsRecords n) (active_reaction n e) n.computation (passive_reaction n e) (keeps_passive n e) (λ c _. keeps_active n e c)

pub reaction-keeps : (m : Machine) (e : Event) → KeepsRecords (with_records m e) (reaction m e)
reaction-keeps m (Message q k v) = keeps_decision (with_records m (Message q k v)) (Message q k v)
reaction-keeps m (Up q cost) = record { ports = refl; attachment = refl }
reaction-keeps m (Down q) = keeps_decision (with_records m (Down q)) (Down q)
reaction-keeps m (Cost q cost) = keeps_decision (with_records m (Cost q cost)) (Cost q cost)
reaction-keeps m (Attached cost) = keeps_decision (with_records m (Attached cost)) (Attached cost)
reaction-keeps m Detached = keeps_decision (with_records m Detached) Detached
