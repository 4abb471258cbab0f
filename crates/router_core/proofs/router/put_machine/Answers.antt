use Rattle.std.proofs.Common.{Ok, Err, subst, ◌∙◌}
use Rattle.route_table.specs.Place.{IsPlace}
use Rattle.route_table.proofs.PrefixPlaces.{written_row, new_row}
use Rattle.router_core.proofs.router.put_machine.Goals as goal

pub returns-in-Ok-clause-ok : goal.returns-in-Ok-clause-ok
returns-in-Ok-clause-ok g c =
    written_row c.args.machines.now.items c.in-Ok.place c.args.prefix c.index_mut.result.now c.args.machine c.requires
    (subst (λ xs. IsPlace c.args.prefix xs (Ok c.in-Ok.place)) c.deref.ensures.value c.in-Ok.ensures) c.index_mut.ensures.value

pub returns-in_ok-insert-in-Err-clause-ok : goal.returns-in_ok-insert-in-Err-clause-ok
returns-in_ok-insert-in-Err-clause-ok g c =
    c.in_ok-insert-in-Err.ensures.items
    ∙ new_row c.args.machines.now.items c.in-Err.place c.args.prefix c.args.machine
    (subst (λ xs. IsPlace c.args.prefix xs (Err c.in-Err.place)) c.deref.ensures.value c.in-Err.ensures)
