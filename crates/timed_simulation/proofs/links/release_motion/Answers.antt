use Rattle.std.proofs.Common.{◌≡◌, ◌∙◌, Some, false, IfSome, slice_get, sym, ap, subst, refl, option_and_then}
use Rattle.no_packet_loops.proofs.Common.{Held, Link, World, place_at, release_at, ripe_front, is_up_in}
use Rattle.course.proofs.{Elements.read_at, Leaving.link_there}
use Rattle.timed_simulation.specs.declared.links.Motion.TheVariants.{Put}
use Rattle.timed_simulation.proofs.Motions.{discarded, put_over}
use Rattle.timed_simulation.proofs.links.release_motion.Goals as goal

pub returns-then-not-is_up_in : goal.returns-then-not-is_up_in
returns-then-not-is_up_in g c =
    let w : World = c.args.world.now in
    let h : Held = c.in_ok-held.held in
    let read = c.in_ok-get.ensures.lookup in
    let at : release_at w c.args.router ≡ Some h =
    ap (option_and_then ripe_front) (ap (λ rs. slice_get rs c.args.router) (sym c.routers.ensures.routers) ∙ read_at c.routers.result.now c.args.router c.from.result c.in_ok-get.field-0.now read.3.0 read.1 c.from.ensures)
    ∙ sym c.front.ensures ∙ c.in_ok-held.was in
    let there : place_at w c.args.router h.port ≡ Some c.in_ok-place.place = sym c.port.ensures ∙ c.in_ok-place.was in
    let K = link_there w c.requires w.links refl c.args.router h.port c.in_ok-place.place there in
    let up = subst (λ o. IfSome o (λ (k : Link). c.is_up_in.result ≡ is_up_in h.session k)) (K.1).1 c.is_up_in.ensures in
    sym (discarded w c.args.router h at c.in_ok-place.place there (K.1).0 (K.1).1 (sym up ∙ c.if-not-is_up_in.true))

pub returns : goal.returns
returns g c =
    let w : World = c.args.world.now in
    let h : Held = c.in_ok-held.held in
    let read = c.in_ok-get.ensures.lookup in
    let at : release_at w c.args.router ≡ Some h =
    ap (option_and_then ripe_front) (ap (λ rs. slice_get rs c.args.router) (sym c.routers.ensures.routers) ∙ read_at c.routers.result.now c.args.router c.from.result c.in_ok-get.field-0.now read.3.0 read.1 c.from.ensures)
    ∙ sym c.front.ensures ∙ c.in_ok-held.was in
    let there : place_at w c.args.router h.port ≡ Some c.in_ok-place.place = sym c.port.ensures ∙ c.in_ok-place.was in
    let K = link_there w c.requires w.links refl c.args.router h.port c.in_ok-place.place there in
    let up = subst (λ o. IfSome o (λ (k : Link). c.is_up_in.result ≡ is_up_in h.session k)) (K.1).1 c.is_up_in.ensures in
    ap (λ e. Some (c.in_ok-place.place.link, Put e false)) c.other-to.ensures
    ∙ sym (put_over w c.args.router h at c.in_ok-place.place there (K.1).0 (K.1).1 (sym up ∙ c.if-not-is_up_in.false))
