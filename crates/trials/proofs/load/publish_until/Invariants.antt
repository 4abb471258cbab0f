use Rattle.std.proofs.Common.{◌≡◌, []}
use Rattle.trials.proofs.load.publish_until.Given as goal

-- each patch was published
abbrev pub invariant-loop : goal.invariant-loop
invariant-loop g l =
    (goal.iterator-loop g).can_next l.iterator' × (goal.iterator-loop g).is_finite l.iterator' × (l.writer.waiting ≡ [])
