use Rattle.std.proofs.Common.{◌≡◌, ◌∙◌, None, Some, IfSome, slice_get, sym, ap, subst, option_and_then}
use Rattle.no_packet_loops.proofs.Common.{Held, Link, World, place_at, release_at, ripe_front, Release}
use Rattle.course.specs.Counts.{leaving}
use Rattle.course.proofs.Elements.{read_at}
use Rattle.course.proofs.Leaving.{leaving_down, leaving_stale, leaving_up, link_there}
use Rattle.course.proofs.sent.leaving.Goals as goal
use Rattle.course.proofs.sent.leaving.Goals.{else-is_up-via-then-is_up+else-session-held, else-is_up-via-else-is_up}

pub returns-then-session-held : goal.returns-then-session-held
returns-then-session-held g c =
    let w : World = c.args.world.now in
    let h : Held = c.in_ok-held.held in
    let read = c.in_ok-get.ensures.lookup in
    let at : release_at w c.in-Release.router ≡ Some h =
    ap (option_and_then ripe_front) (ap (λ rs. slice_get rs c.in-Release.router) (sym c.routers.ensures.routers) ∙ read_at c.routers.result.now c.in-Release.router c.from.result c.in_ok-get.field-0.now read.3.0 read.1 c.from.ensures)
    ∙ sym c.front.ensures ∙ c.in_ok-held.was in
    let there : place_at w c.in-Release.router h.port ≡ Some c.in_ok-place.place = sym c.port.ensures ∙ c.in_ok-place.was in
    let K = link_there w c.requires c.links-links.result.now.links c.links-links.ensures c.in-Release.router h.port c.in_ok-place.place there in
    let up = subst (λ o. IfSome o (λ (k : Link). c.is_up.result ≡ k.up)) (K.1).2 c.is_up.ensures.up in
    let session = subst (λ o. IfSome o (λ (k : Link). c.session.result ≡ k.session)) (K.1).2 c.session.ensures.session in
    sym (leaving_up w c.in-Release.router h at c.in_ok-place.place there (K.1).0 (K.1).1 (sym up ∙ c.if-is_up.true) (sym session ∙ c.if-session-held.true))
    ∙ sym (ap (leaving w) c.in-Release.is)

pub returns-else-is_up : goal.returns-else-is_up
returns-else-is_up g c =
    let w : World = c.args.world.now in
    let h : Held = c.in_ok-held.held in
    let read = c.in_ok-get.ensures.lookup in
    let at : release_at w c.in-Release.router ≡ Some h =
    ap (option_and_then ripe_front) (ap (λ rs. slice_get rs c.in-Release.router) (sym c.routers.ensures.routers) ∙ read_at c.routers.result.now c.in-Release.router c.from.result c.in_ok-get.field-0.now read.3.0 read.1 c.from.ensures)
    ∙ sym c.front.ensures ∙ c.in_ok-held.was in
    let there : place_at w c.in-Release.router h.port ≡ Some c.in_ok-place.place = sym c.port.ensures ∙ c.in_ok-place.was in
    let K = link_there w c.requires c.links-links.result.now.links c.links-links.ensures c.in-Release.router h.port c.in_ok-place.place there in
    let up = subst (λ o. IfSome o (λ (k : Link). c.is_up.result ≡ k.up)) (K.1).2 c.is_up.ensures.up in
    let none : leaving w (Release c.in-Release.router) ≡ None = elim c.else-is_up.branch [
      | else-is_up-via-then-is_up+else-session-held v ↦
          let session = subst (λ o. IfSome o (λ (k : Link). v.session.result ≡ k.session)) (K.1).2 v.session.ensures.session in
          leaving_stale w c.in-Release.router h at c.in_ok-place.place there (K.1).0 (K.1).1 (sym up ∙ v.if-is_up.true) (λ same. v.if-session-held.false (session ∙ same))
      | else-is_up-via-else-is_up v ↦ leaving_down w c.in-Release.router h at c.in_ok-place.place there (K.1).0 (K.1).1 (sym up ∙ v.if-is_up.false)
    ] in
    sym none ∙ sym (ap (leaving w) c.in-Release.is)
