use Rattle.reachability.proofs.Joined.{joined}
use Rattle.reachability.proofs.run_worlds.always_joined.Goals as goal

pub returns : goal.returns
returns g c = joined c.args.network.now c.requires.valid c.requires.steps c.args.world.now c.requires.runs
