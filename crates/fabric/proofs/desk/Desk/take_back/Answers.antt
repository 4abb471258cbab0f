use Rattle.std.proofs.Common.{refl, sym, ap, ◌∙◌, ◌≡◌, Some}
use Rattle.no_packet_loops.proofs.Common.{false≢true}
use Rattle.publication.specs.declared.known.Known.{Known}
use Rattle.fabric.specs.{Desks.Desk, Desks.desk_out, Places.desk_of}
use Rattle.fabric.proofs.desk.Desk.take_back.Given as given
use Rattle.fabric.proofs.desk.Desk.take_back.Goals as goal
use Rattle.fabric.proofs.desk.Desk.take_back.Goals.{in-In, in-Out}

-- the desk waits for this ticket
its : (g : given.Over) (c : goal.After-drop-stub-inside-in-Out-replace g) → (c.args.self.now.out ≡ Some c.args.ticket.patch) × (c.args.self.now.writing.published ≡ c.args.ticket.before)
its g c = elim c.match-self.branch [
  | in-In w ↦ absurd (false≢true (sym w.is_its-is ∙ c.if-not-is_its.false))
  | in-Out w ↦
      let yes = sym w.is_its-is ∙ c.if-not-is_its.false in
      let out : desk_out w.in-Out.stub.before w.in-Out.stub.patch ≡ c.args.self.now = sym (ap desk_of w.in-Out.is) ∙ c.self.view_is in
      (ap (λ (d : Desk). d.out) (sym out) ∙ ap Some (sym (w.is_of-is_its.ensures.its.0 yes).1), ap (λ (d : Desk). (d.writing).published) (sym out) ∙ sym (w.is_of-is_its.ensures.list yes))
]

pub returns-clause-its : goal.returns-clause-its
returns-clause-its g c = (λ _. ((its g c).0, ap (λ (k : Known). k.router) (its g c).1), λ _. refl)

pub returns-clause-list : goal.returns-clause-list
returns-clause-list g c = (its g c).1
