use Rattle.std.proofs.Common.{◌≡◌, ◌∙◌, Some, false, refl, ap, arith, subst, sym}
use Rattle.network_model.proofs.Common.{journal_sum}
use Rattle.network_model.specs.declared.step.Step.TheVariants.{Publish}
use Rattle.fabric.specs.Fabric.{Fabric, count_lent, is_lent, next_fabric_step}
use Rattle.guarded.proofs.WritersOut.{can_fail, count_out, was_in}
use Rattle.guarded.proofs.Served.{done_free, done_none, is_next, served_lent, turn_next}
use Rattle.guarded.proofs.guarded.Guarded.lend.Goals as goal

pub new-requires : goal.new-requires
new-requires g c =
    let f = c.self.inside.fabric in
    let i = c.args.router in
    let due : next_fabric_step f i ≡ Some (Publish i) = subst (λ (h : Fabric). next_fabric_step h i ≡ Some (Publish i)) (sym c.self.view_is) c.requires.next in
    record {
      was_in = subst (λ k. is_lent g.N.ControlName.opened k ≡ false) (sym c.in_ok-ticket.ensures.fresh.0)
          (was_in g.N.ControlName.opened g.N.ControlName.asked f i c.self.invariant.1 (done_free f (Publish i) _ c.in_ok-ticket.ensures.cause));
      can_fail = can_fail g.N.ControlName.opened g.N.ControlName.asked f i c.self.invariant.1 due (done_none _ _ c.in_ok-ticket.ensures.cause);
    }

pub invariant_of-self-2 : goal.invariant_of-self-2
invariant_of-self-2 g c =
    let f = c.self.inside.fabric in
    let i = c.args.router in
    let ok = c.in_ok-ticket.ensures.ok in
    let due : next_fabric_step f i ≡ Some (Publish i) = subst (λ (h : Fabric). next_fabric_step h i ≡ Some (Publish i)) (sym c.self.view_is) c.requires.next in
    let more = count_out f.lent i c.in_ok-ticket.ticket.patch in
    let lent = ap (λ (h : Fabric). count_lent h.lent) ok in
    let before = c.self.invariant.2 in
    let out = c.add.ensures.total in (
      c.self.invariant.0 ∙ ap journal_sum (ap (λ (h : Fabric). h.journal) (sym ok)),
      served_lent g.N.ControlName.opened g.N.ControlName.asked f c.ticket.new.self i (Some c.in_ok-ticket.ticket.patch) c.self.invariant.1 (λ _. refl)
          (λ _. is_next f.world i (turn_next f i (Publish i) due) c.in_ok-ticket.ensures.due) ok,
      omega (arith, more, lent, before, out),
    )
