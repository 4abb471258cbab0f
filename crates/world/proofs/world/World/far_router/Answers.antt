use Rattle.std.proofs.Common.{◌≡◌, ◌<◌, ◌∙◌, IfSome, None, Some, length, slice_get, if◌then◌else◌, sym, subst}
use Rattle.no_packet_loops.proofs.Common.{Link, World, element_there, is_up_in, other, side}
use Rattle.world.specs.Kept.{IsWorld}
use Rattle.world.proofs.FarEnds.{leads_over}
use Rattle.world.proofs.world.World.far_router.Goals as goal

pub far_end-requires : goal.far_end-requires
far_end-requires g c =
    let within = (subst IsWorld c.self.view_is c.self.invariant).links_known c.args.router c.args.port c.in_ok-place.place (sym c.port.ensures ∙ c.in_ok-place.was) in
    record { known = subst (λ (w : World). c.in_ok-place.place.link < length w.links) (sym c.self.view_is) within }

pub returns : goal.returns
returns g c =
    let w : World = c.args.self.now in
    let there = sym c.port.ensures ∙ c.in_ok-place.was in
    let within = (subst IsWorld c.self.view_is c.self.invariant).links_known c.args.router c.args.port c.in_ok-place.place there in
    let K = element_there w.links c.in_ok-place.place.link within in
    let told = subst (λ (w : World). IfSome (slice_get w.links c.in_ok-place.place.link) (λ (k : Link). c.far_end.result ≡ (if is_up_in c.args.session k then Some (side (other c.in_ok-place.place.end) k).router else None))) c.self.view_is c.far_end.ensures.far in
    subst (λ o. IfSome o (λ (k : Link). c.far_end.result ≡ (if is_up_in c.args.session k then Some (side (other c.in_ok-place.place.end) k).router else None))) K.1 told
    ∙ sym (leads_over w c.args.router c.args.port c.args.session c.in_ok-place.place there K.0 K.1)
