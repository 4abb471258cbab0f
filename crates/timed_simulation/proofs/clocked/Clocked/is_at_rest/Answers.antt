use Rattle.std.proofs.Common.{◌≡◌, ◌∙◌, sym, ap, subst, eq-eqb, eqb-true, length, List, []}
use Rattle.no_packet_loops.proofs.Common.{false≢true, is_settled, nil_from_length}
use Rattle.timed_simulation.specs.{declared.events.Change.Change, Timed.world_of, Timed.Timed, Runs.IsAtRest, Runs.IsTimed}
use Rattle.timed_simulation.proofs.Rest.{nothing_rests, rest_nothing}
use Rattle.timed_simulation.proofs.clocked.Clocked.is_at_rest.Goals as goal

-- no change is left
pub returns-then-is_empty-clause-nothing : goal.returns-then-is_empty-clause-nothing
returns-then-is_empty-clause-nothing g c =
    let t : Timed = c.args.self.now in
    let changes : List Change = c.self.inside.changes.items in
    let none : changes ≡ [] = nil_from_length changes (sym c.self.inside.changes.ok.0 ∙ eqb-true _ 0 (sym c.is_empty.ensures ∙ c.if-is_empty.true)) in (
      λ yes. rest_nothing t (sym (ap (λ (u : Timed). u.changes) c.self.view_is) ∙ none, sym (ap (λ (u : Timed). is_settled (world_of u)) c.self.view_is) ∙ sym c.is_settled.ensures.settled ∙ yes),
      λ nothing.
          let rest : IsAtRest t = nothing_rests t (subst IsTimed c.self.view_is c.self.invariant) nothing in
          c.is_settled.ensures.settled ∙ ap (λ (u : Timed). is_settled (world_of u)) c.self.view_is ∙ rest.1,
    )

-- a change is left
pub returns-else-is_empty-clause-nothing : goal.returns-else-is_empty-clause-nothing
returns-else-is_empty-clause-nothing g c =
    let t : Timed = c.args.self.now in (
      λ yes. absurd (false≢true (sym c.if-is_empty.false ∙ yes)),
      λ nothing.
          let rest : IsAtRest t = nothing_rests t (subst IsTimed c.self.view_is c.self.invariant) nothing in
          c.is_empty.ensures ∙ eq-eqb _ 0 (c.self.inside.changes.ok.0 ∙ ap length (ap (λ (u : Timed). u.changes) c.self.view_is ∙ rest.0)),
    )
