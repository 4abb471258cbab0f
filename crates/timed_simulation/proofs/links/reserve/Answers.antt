use Rattle.std.proofs.Common.{◌∙◌, refl, sym, ap, subst, set, slice_get}
use Rattle.timed_simulation.specs.Links.{link_of, HasLinkRoom, HasLinkRoomFor}
use Rattle.link_fifo.proofs.Changes.{kept_in}
use Rattle.timed_simulation.proofs.Lists.{set_there}
use Rattle.timed_simulation.proofs.links.reserve.Goals as goal

pub returns-in_err-reserve-clause-same : goal.returns-in_err-reserve-clause-same
returns-in_err-reserve-clause-same g c = kept_in link_of c.args.links.now.items c.from-2.result c.index_mut.ensures.value c.in_err-reserve.ensures.same refl

pub returns-clause-same : goal.returns-clause-same
returns-clause-same g c = kept_in link_of c.args.links.now.items c.from-2.result c.index_mut.ensures.value c.in_ok-reserve.ensures.same refl

pub returns-clause-ok : goal.returns-clause-ok
returns-clause-ok g c =
    subst (λ o. HasLinkRoomFor (set c.args.links.now.items c.from-2.result c.reserve.new.self) o) (sym c.in-Some.is)
    (λ k at. set_there HasLinkRoom c.args.links.now.items c.from-2.result c.reserve.new.self k c.in_ok-reserve.ensures.ok (ap (slice_get (set c.args.links.now.items c.from-2.result c.reserve.new.self)) c.from-2.ensures ∙ at))
