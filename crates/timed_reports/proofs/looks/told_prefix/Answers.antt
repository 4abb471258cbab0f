use Rattle.std.proofs.Common.{◌≡◌, ◌∙◌, List, Some, Ok, refl, sym, ap, subst, slice_get}
use Rattle.no_packet_loops.proofs.Common.{Link, World, place_at, Step}
use Rattle.link_fifo.specs.Refusals.{front_of}
use Rattle.timed_reports.specs.Looks.{IsToldPrefix}
use Rattle.timed_reports.proofs.Machines.{front_there}
use Rattle.timed_reports.proofs.looks.told_prefix.Goals as goal

pub returns-in-Message : goal.returns-in-Message
returns-in-Message g c =
    let w : World = c.args.world.now in
    let i = c.in-Deliver.router in
    let q = c.in-Deliver.port in
    let place = c.in_ok-place.place in
    let there : place_at w i q ≡ Some place = sym c.port.ensures ∙ c.in_ok-place.was in
    let answer : front_of place.end (slice_get w.links place.link) ≡ Ok c.in-Ok.item = ap (λ (ks : List Link). front_of place.end (slice_get ks place.link)) (sym c.links.ensures) ∙ sym c.front.ensures ∙ c.in-Ok.is in
    subst (λ (s : Step). IsToldPrefix w s c.in-Message.message.prefix) (sym c.in-Deliver.is) (c.in-Message.message, front_there w i q place c.in-Ok.item there answer ∙ ap Some c.in-Message.is, refl)
