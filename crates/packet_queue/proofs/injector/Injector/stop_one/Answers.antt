use Rattle.packet_queue.proofs.Fair.{puts}
use Rattle.packet_queue.proofs.injector.Injector.stop_one.Goals as goal

pub send_as-requires-clause-rule : goal.send_as-requires-clause-rule
send_as-requires-clause-rule g c = (puts _ _ _ _ c.args.self.now.some_part, λ _ _ _ _. tt)
