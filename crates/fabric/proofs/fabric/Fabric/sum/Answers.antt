use Rattle.std.proofs.Common.{◌∙◌, ap, arith}
use Rattle.no_packet_loops.proofs.Common.{steps_in_sum, journal_length}
use Rattle.fabric.proofs.fabric.Fabric.sum.Goals as goal

pub returns-clause-length : goal.returns-clause-length
returns-clause-length g c =
    let summed = c.self.invariant.0.4 in
    let short = (c.self.invariant.0.0).short in
    rw (← c.self.view_is) (ap steps_in_sum summed.is ∙ journal_length c.self.inside.journal.items summed.fit (omega (arith, short)))
