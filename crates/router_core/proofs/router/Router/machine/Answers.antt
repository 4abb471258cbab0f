use Rattle.std.proofs.Common.{◌≡◌, true, Ok, Err, sym, ap, subst, ◌∙◌}
use Rattle.network_model.proofs.Common.{prefix_cmp, sorted-map, find-map, option_map, find as row_of, is_sorted}
use Rattle.dual_machine.specs.State.{MachineState}
use Rattle.route_table.specs.Place.{IsPlace}
use Rattle.route_table.proofs.PrefixPlaces.{found_row, missed_row}
use Rattle.router_core.proofs.router.Router.machine.Goals as goal

pub place_of-requires : goal.place_of-requires
place_of-requires g c = ap (is_sorted prefix_cmp) c.deref.ensures.value ∙ sym (sorted-map prefix_cmp (λ s. s.machine) c.self.inside.machines.items) ∙ c.self.invariant.sorted

pub returns-in-Ok : goal.returns-in-Ok
returns-in-Ok g c =
    let items = c.self.inside.machines.items in
    let sorted : is_sorted prefix_cmp items ≡ true = sym (sorted-map prefix_cmp (λ s. s.machine) items) ∙ c.self.invariant.sorted in
    let place : IsPlace c.args.prefix items (Ok c.in-Ok.place) = subst (λ xs. IsPlace c.args.prefix xs (Ok c.in-Ok.place)) c.deref.ensures.value c.in-Ok.ensures in
    ap (option_map (λ (s : MachineState). s.machine)) (sym (found_row items c.in-Ok.place c.args.prefix c.index.result.now sorted place c.index.ensures))
    ∙ sym (find-map prefix_cmp (λ s. s.machine) c.args.prefix items)
    ∙ ap (λ r. row_of prefix_cmp c.args.prefix r.machines) c.self.view_is

pub returns-in-Err : goal.returns-in-Err
returns-in-Err g c =
    let items = c.self.inside.machines.items in
    let place : IsPlace c.args.prefix items (Err c.in-Err.field-0) = subst (λ xs. IsPlace c.args.prefix xs (Err c.in-Err.field-0)) c.deref.ensures.value c.in-Err.ensures in
    ap (option_map (λ (s : MachineState). s.machine)) (sym (missed_row items c.in-Err.field-0 c.args.prefix place))
    ∙ sym (find-map prefix_cmp (λ s. s.machine) c.args.prefix items)
    ∙ ap (λ r. row_of prefix_cmp c.args.prefix r.machines) c.self.view_is
