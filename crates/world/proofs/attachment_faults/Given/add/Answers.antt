use Rattle.world.proofs.GivenSets.{given_more}
use Rattle.world.proofs.attachment_faults.Given.add.Goals as goal

pub returns : goal.returns
returns c before given =
    given_more before c.args.attachment.now c.args.self.now _ c.in_ok-insert.field-0 c.in_ok-insert.ensures.added c.in_ok-insert.ensures.updates.0 c.in_ok-insert.ensures.len c.in_ok-insert-2.ensures.updates.0 given
