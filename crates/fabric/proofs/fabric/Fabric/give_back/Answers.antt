use Rattle.std.proofs.Common.{◌≡◌, None, MatchBool, OnErr, OnOk, sym, subst}
use Rattle.no_packet_loops.proofs.Common.{Lawful, Publish}
use Rattle.fabric.specs.Fabric.{Fabric, after_step, with_lent}
use Rattle.fabric.proofs.fabric.Fabric.give_back.Goals as goal

pub returns-clause-done : goal.returns-clause-done
returns-clause-done g c =
    let i = c.args.ticket.before.router in
    subst (λ (f : Fabric). OnOk c.take_ticket-done.result (MatchBool c.args.ticket.is_published (Lawful c.args.self.now.world (Publish i) × (f ≡ after_step (with_lent c.args.self.now i None) (Publish i))) (f ≡ with_lent c.args.self.now i None))) (sym c.look_at.ensures) c.take_ticket-done.ensures.done

pub returns-clause-same : goal.returns-clause-same
returns-clause-same g c = subst (λ (f : Fabric). OnErr c.take_ticket-done.result (f ≡ c.args.self.now)) (sym c.look_at.ensures) c.take_ticket-done.ensures.same
