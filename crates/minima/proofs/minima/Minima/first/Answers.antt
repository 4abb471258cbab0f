use Rattle.std.proofs.Common.{IfNone, IfSome, subst}
use Rattle.minima.specs.Trees.{IsFirstDue, NoneDue}
use Rattle.minima.proofs.First.{first_if, none_if}
use Rattle.minima.proofs.minima.Minima.first.Goals as goal

pub returns-clause-some : goal.returns-clause-some
returns-clause-some g c = subst (λ ms. IfSome c.at.result (IsFirstDue ms)) c.self.view_is (first_if c.self.inside.count c.self.inside.nodes.items c.self.invariant c.at.result c.at.ensures)

pub returns-clause-none : goal.returns-clause-none
returns-clause-none g c = subst (λ ms. IfNone c.at.result (NoneDue ms)) c.self.view_is (none_if c.self.inside.count c.self.inside.nodes.items c.self.invariant c.at.result c.at.ensures)
