use Rattle.simulation.proofs.InForce.{stays}
use Rattle.simulation.proofs.images.forward.Goals as goal

pub returns-in_default : goal.returns-in_default
returns-in_default g c =
    let done = c.step.ensures in
    record {
      ok = done.ok;
      err = done.err;
      in_force = stays c.args.course.now c.step.new.self c.args.step c.args.images.now.items c.step.result c.requires.in_force c.in_default.not-Publish done.ok done.err;
      cause = done.cause;
      down = done.down;
      stale = done.stale;
      room = done.room;
    }
