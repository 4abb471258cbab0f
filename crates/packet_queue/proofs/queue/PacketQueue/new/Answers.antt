use Rattle.std.proofs.Common.{ap, arith, rules}
use Rattle.packet_queue.specs.declared.rule.Hand.{Hand}
use Rattle.packet_queue.proofs.Fair.{forks}
use Rattle.packet_queue.proofs.queue.PacketQueue.new.Goals as goal

pub another-theirs-requires-clause-rule : goal.another-theirs-requires-clause-rule
another-theirs-requires-clause-rule g c = forks _ _ (let e = ap (λ (v : Hand _). v.parts) c.loop-i.invariant.1 in omega arith)

pub returns-in_default-clause-all : goal.returns-in_default-clause-all
returns-in_default-clause-all g c = search rules

pub returns-in_err-takers-clause-all : goal.returns-in_err-takers-clause-all
returns-in_err-takers-clause-all g c = search rules

pub returns-in_default-try_clone-clause-all : goal.returns-in_default-try_clone-clause-all
returns-in_default-try_clone-clause-all g c = search rules

pub returns-clause-all : goal.returns-clause-all
returns-clause-all g c = search rules
