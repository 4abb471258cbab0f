use Rattle.std.proofs.Common.{true, false}
use Rattle.metric.specs.Distance.{infinity}
use Rattle.network_model.specs.declared.machine.Neighbour.{Neighbour}
use Rattle.dual_machine.proofs.Changes.{set-changed_at}
use Rattle.dual_machine.proofs.events.change_record.Goals as goal

pub returns-in-Message-clause-records : goal.returns-in-Message-clause-records
returns-in-Message-clause-records c =
    rw c.in-Message.is (set-changed_at {A = Neighbour} (λ n. record { up = n.up; cost = n.cost; reported = c.in-Message.value }) c.in-Message.port c.args.ports.now _ (rw c.in-Message.is at c.requires))

pub returns-in-Up-clause-records : goal.returns-in-Up-clause-records
returns-in-Up-clause-records c =
    rw c.in-Up.is (set-changed_at {A = Neighbour} (λ n. record { up = true; cost = c.in-Up.cost; reported = infinity }) c.in-Up.port c.args.ports.now (record { up = false; cost = 0; reported = 0 }) (rw c.in-Up.is at c.requires))

pub returns-in-Down-clause-records : goal.returns-in-Down-clause-records
returns-in-Down-clause-records c =
    rw c.in-Down.is (set-changed_at {A = Neighbour} (λ n. record { up = false; cost = n.cost; reported = n.reported }) c.in-Down.port c.args.ports.now _ (rw c.in-Down.is at c.requires))

pub returns-in-Cost-clause-records : goal.returns-in-Cost-clause-records
returns-in-Cost-clause-records c =
    rw c.in-Cost.is (set-changed_at {A = Neighbour} (λ n. record { up = n.up; cost = c.in-Cost.cost; reported = n.reported }) c.in-Cost.port c.args.ports.now _ (rw c.in-Cost.is at c.requires))
