use Rattle.std.proofs.Common.{◌≡◌, ◌⊎◌, ◌∙◌, ◌++◌, ◌∷◌, [], ap, subst, rules}
use Rattle.network_model.specs.Publication.{Patch}
use Rattle.publication.specs.{Lists.patch_of, Outings.Outing}
use Rattle.publication.proofs.Outings.{out_still}
use Rattle.publication.proofs.ticket.Ticket.publish.Goals as goal

pub invariant_of-self : goal.invariant_of-self
invariant_of-self g c =
    let s = c.self.inside in
    let r = c.in_err-publish.ensures.refused in
    out_still s.before (patch_of s.patch) s.published s.writer c.publish.new.self (ap (λ (o : Outing). o.is_published) c.self.view_is ∙ c.requires) c.self.invariant c.in_err-publish.ensures.unseen
    (subst (λ (p : Patch). (c.publish.new.self.waiting ≡ s.writer.waiting) ⊎ (c.publish.new.self.waiting ≡ s.writer.waiting ++ p ∷ [])) c.in_ok-patch.ensures r)

pub returns-in_err-patch-clause-list : goal.returns-in_err-patch-clause-list
returns-in_err-patch-clause-list g c = search rules

pub returns-in_err-publish-clause-list : goal.returns-in_err-publish-clause-list
returns-in_err-publish-clause-list g c = search rules

pub returns-clause-list : goal.returns-clause-list
returns-clause-list g c = search rules
