use Rattle.std.proofs.Common.{◌∙◌, inr, subst}
use Rattle.guarded.specs.Shares.{KeptTickets}
use Rattle.guarded.proofs.Shares.{owe_as_before, owe_in_all}
use Rattle.control.proofs.control.Control.settle.Goals as goal

pub returns-clause-back : goal.returns-clause-back
returns-clause-back g c =
    let old = c.args.shares.now.items in
    let new = c.settle_each.new.shares.items in
    let served = c.settle_each.ensures in
    inr (owe_in_all old new served.0 (owe_as_before old new served (subst KeptTickets c.as_slice.ensures.value (c.has_lost_ticket.ensures.kept c.if-has_lost_ticket.false))) ∙ c.requires.home)
