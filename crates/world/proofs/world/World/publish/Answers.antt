use Rattle.std.proofs.Common.{◌≡◌, refl, ap, ◌∙◌, sym, set, slice_get, rules}
use Rattle.network_model.proofs.Common.{World}
use Rattle.network_model.specs.declared.step.Step.TheVariants.{Publish}
use Rattle.network_model.specs.Step as steps
use Rattle.link_fifo.proofs.Changes.{written}
use Rattle.world.proofs.{Insides.world_in, Done.published-keeps}
use Rattle.world.proofs.world.World.publish.Goals as goal
use Rattle.world.proofs.world.World.publish.Given as given

-- the world then is the next one
is_next : (g : given.Over) (c : goal.After-self-1 g) → record (world_in c.self.inside) { routers = set c.self.inside.routers.items c.from-2.result c.mark_published.new.self }
    ≡ steps.next (world_in c.self.inside) (Publish c.args.router)
is_next g c = ap (λ rs. record (world_in c.self.inside) { routers = rs }) (written steps.router_publishing c.from-2.ensures c.index_mut.ensures.value c.mark_published.ensures refl)

pub invariant_of-self : goal.invariant_of-self
invariant_of-self g c =
    published-keeps (world_in c.self.inside) c.args.router c.router.result.now _ (ap (λ (w : World). slice_get w.routers c.args.router) c.self.view_is ∙ c.router.ensures)
    (sym c.if-not-due.ensures) (is_next g c) c.self.invariant

pub returns-clause-ok : goal.returns-clause-ok
returns-clause-ok g c = is_next g c ∙ ap (λ (w : World). steps.next w (Publish c.args.router)) c.self.view_is

pub returns-then-not-due-clause-cause : goal.returns-then-not-due-clause-cause
returns-then-not-due-clause-cause g c = search rules

pub returns-clause-cause : goal.returns-clause-cause
returns-clause-cause g c = search rules
