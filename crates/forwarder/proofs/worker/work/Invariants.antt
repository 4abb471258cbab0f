use Rattle.std.proofs.Common.{◌≡◌, ◌⊎◌, ◌<◌, ◌≤◌, ◌++◌, length, map, IfOk, IfErr}
use Rattle.network_model.specs.declared.step.Refusal.TheVariants.{NoMemory, NoImage}
use Rattle.packet_queue.specs.{Ends.takes_from, Ends.taken_by, Jobs.jobs_of}
use Rattle.forwarder.specs.Ports.{AreLater}
use Rattle.forwarder.proofs.worker.work.Given as goal

abbrev pub invariant-loop : goal.invariant-loop
invariant-loop g l =
    AreLater l.initial.port l.port
    × (takes_from l.taker ≡ takes_from l.initial.taker)
    × IfOk l.replies (λ rs. jobs_of (taken_by l.taker) ≡ jobs_of (taken_by l.initial.taker) ++ map (λ r. r.job) rs.items)
    × IfErr l.replies (λ e. (e ≡ NoMemory) ⊎ (e ≡ NoImage))
    × (length (jobs_of (taken_by l.initial.taker)) ≤ length (jobs_of (taken_by l.taker)))
    × IfErr l.replies (λ _. length (jobs_of (taken_by l.initial.taker)) < length (jobs_of (taken_by l.taker)))
