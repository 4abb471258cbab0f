use Rattle.std.proofs.Common.{arith, rules}
use Rattle.packet_queue.proofs.Fair.{takes}
use Rattle.packet_queue.proofs.taker.Taker.next.Goals as goal

pub recv_as-requires-clause-rule : goal.recv_as-requires-clause-rule
recv_as-requires-clause-rule g c = (takes _ _ (let h = c.args.self.now.one_part in omega arith), λ _ _ _ _. tt)

pub returns-in_default-clause-taken : goal.returns-in_default-clause-taken
returns-in_default-clause-taken g c = search rules

pub returns-clause-taken : goal.returns-clause-taken
returns-clause-taken g c = search rules
