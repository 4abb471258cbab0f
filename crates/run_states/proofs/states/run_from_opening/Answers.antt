use Rattle.std.proofs.Common.{length, arith}
use Rattle.run_states.proofs.Rooms.{room_at_opening}
use Rattle.run_states.proofs.states.run_from_opening.Goals as goal

pub run-requires : goal.run-requires
run-requires c = room_at_opening c.in_ok-ended.ended c.args.network.now (length c.args.steps.now) c.in_ok-ended.ensures (omega arith)
