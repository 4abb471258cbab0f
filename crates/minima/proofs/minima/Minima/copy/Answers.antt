use Rattle.std.proofs.Common.{◌∙◌, ap, sym, subst}
use Rattle.minima.specs.Trees.{IsTree, moments_of}
use Rattle.minima.proofs.minima.Minima.copy.Goals as goal

pub invariant_of-result : goal.invariant_of-result
invariant_of-result g c = subst (IsTree c.self.inside.count) (sym (c.in_ok-nodes.ensures.items ∙ c.deref.ensures.value)) c.self.invariant

pub returns : goal.returns
returns g c = ap (moments_of c.self.inside.count) (c.in_ok-nodes.ensures.items ∙ c.deref.ensures.value) ∙ c.self.view_is
