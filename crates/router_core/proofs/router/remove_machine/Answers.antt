use Rattle.std.proofs.Common.{Ok, Err, subst, ◌∙◌}
use Rattle.route_table.specs.Place.{IsPlace}
use Rattle.route_table.proofs.PrefixPlaces.{removed_row, none_to_remove}
use Rattle.router_core.proofs.router.remove_machine.Goals as goal

pub returns-in-Ok : goal.returns-in-Ok
returns-in-Ok g c =
    c.remove.ensures.items
    ∙ removed_row c.args.machines.now.items c.in-Ok.place c.args.prefix c.remove.result c.requires
    (subst (λ xs. IsPlace c.args.prefix xs (Ok c.in-Ok.place)) c.deref.ensures.value c.in-Ok.ensures)

pub returns-in_default : goal.returns-in_default
returns-in_default g c =
    none_to_remove c.args.machines.now.items c.in_default.field-0 c.args.prefix
    (subst (λ xs. IsPlace c.args.prefix xs (Err c.in_default.field-0)) c.deref.ensures.value c.in_default.ensures)
