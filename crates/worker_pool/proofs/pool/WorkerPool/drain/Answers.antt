use Rattle.std.proofs.Common.{rules, ◌≡◌, true, All, count_by, subst, IfErr, IfOk}
use Rattle.std.specs.List.{list_any}
use Rattle.forwarder.specs.Gathering.{is_reply_to}
use Rattle.worker_pool.specs.Faults.{IsDrainFault}
use Rattle.worker_pool.proofs.pool.WorkerPool.drain.Goals as goal

-- what was gathered is to the jobs that contracts see

pub returns-clause-each : goal.returns-clause-each
returns-clause-each g c =
    let same : c.deref.result.now ≡ c.args.self.jobs = search rules in
    subst (λ jobs. IfOk c.gather_all.result (λ rs. All (λ j. count_by (is_reply_to j) rs.items ≡ 1) jobs)) same c.gather_all.ensures.each

pub returns-clause-only : goal.returns-clause-only
returns-clause-only g c =
    let same : c.deref.result.now ≡ c.args.self.jobs = search rules in
    subst (λ jobs. IfOk c.gather_all.result (λ rs. All (λ r. list_any (λ j. is_reply_to j r) jobs ≡ true) rs.items)) same c.gather_all.ensures.only

pub returns-clause-fault : goal.returns-clause-fault
returns-clause-fault g c =
    let same : c.deref.result.now ≡ c.args.self.jobs = search rules in
    subst (λ jobs. IfErr c.gather_all.result (IsDrainFault jobs)) same c.gather_all.ensures.fault
