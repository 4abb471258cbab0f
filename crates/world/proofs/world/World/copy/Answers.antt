use Rattle.std.proofs.Common.{◌≡◌, sym, ap, subst, ◌∙◌, map}
use Rattle.world.specs.{Kept.IsWorld, Parts.world_of_parts}
use Rattle.world.proofs.Insides.{world_in}
use Rattle.world.proofs.world.World.copy.Goals as goal

pub invariant_of-result : goal.invariant_of-result
invariant_of-result g c =
    let places = c.in_ok-places.ensures ∙ ap (map (λ v. v.items)) c.deref.ensures.value in
    let links = c.in_ok-links.ensures.ok in
    let prefixes = c.in_ok-prefixes.ensures.items ∙ c.deref-2.ensures.value in
    let attachments = c.in_ok-attachments.ensures ∙ c.deref-3.ensures.value in
    let routers = c.in_ok-routers.ensures ∙ c.deref-4.ensures.value in
    let same : world_of_parts c.in_ok-places.places.items c.in_ok-links.links.links c.in_ok-prefixes.prefixes.items c.in_ok-attachments.attachments.items c.in_ok-routers.routers.items ≡ world_in c.self.inside
    = λ i. record { places = places i; links = links i; prefixes = prefixes i; attachments = attachments i; routers = routers i } in
    subst IsWorld (sym same) c.self.invariant
