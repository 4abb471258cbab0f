use Rattle.std.proofs.Common.{◌≡◌, ◌∙◌, ◌+◌, Ok, None, Some, false, IfSome, MatchOption, ap, subst, sym, arith}
use Rattle.network_model.specs.declared.step.Step.TheVariants.{Publish}
use Rattle.fabric.specs.Fabric.{Fabric, fabric_refusal, next_fabric_step}
use Rattle.guarded.specs.{Served.IsTurn, Shares.owes}
use Rattle.guarded.proofs.guarded.Guarded.begin.Goals as goal

pub take_turn-requires : goal.take_turn-requires
take_turn-requires g c = record { next = ap (λ (f : Fabric). next_fabric_step f c.args.router) (sym c.self.view_is) ∙ sym c.next_step.ensures ∙ c.in-Some.is }

pub returns : goal.returns
returns g c =
    let same = c.audit.ensures.fabric in
    let sum = c.take_turn.ensures.sum in
    let audited = c.audit.ensures.sum in
    record {
      found = c.audit.ensures.found;
      turn = subst (λ (f : Fabric). IsTurn f c.args.router c.take_turn.result.0) same c.take_turn.ensures.turn;
      ticket = subst (λ (f : Fabric). IfSome c.take_turn.result.1 (λ t. (c.take_turn.result.0 ≡ Ok (Some (Publish c.args.router))) × (fabric_refusal f (Publish c.args.router) ≡ None) × (t.is_published ≡ false) × (t.before.router ≡ c.args.router))) same c.take_turn.ensures.ticket;
      lent = c.take_turn.ensures.lent;
      sum = omega (arith, sum, audited);
      holder = c.take_turn.ensures.holder ∙ c.audit.ensures.holder;
      out = subst (λ n. MatchOption c.take_turn.result.1 (owes c.take_turn.new.share ≡ n) (λ _. owes c.take_turn.new.share ≡ n + 1)) c.audit.ensures.out c.take_turn.ensures.out;
    }
