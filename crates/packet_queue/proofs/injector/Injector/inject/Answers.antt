use Rattle.std.proofs.Common.{rules}
use Rattle.packet_queue.proofs.Fair.{puts}
use Rattle.packet_queue.proofs.injector.Injector.inject.Goals as goal

pub send_as-sent-requires-clause-rule : goal.send_as-sent-requires-clause-rule
send_as-sent-requires-clause-rule g c = (puts _ _ _ _ c.args.self.now.some_part, λ _ _ _ _. tt)

pub returns-in-Ok-clause-put : goal.returns-in-Ok-clause-put
returns-in-Ok-clause-put g c = search rules

pub returns-in-Job-clause-put : goal.returns-in-Job-clause-put
returns-in-Job-clause-put g c = search rules
