use Rattle.std.proofs.Common.{◌≡◌, true, false, get_or, sym, ap, subst, ◌∙◌, refl, OnOk}
use Rattle.network_model.proofs.Common.{Router, router_accepting}
use Rattle.network_model.specs.declared.machine.Event.{Event}
use Rattle.router_core.proofs.Notices.{ups_written, ups_kept, noticing_written}
use Rattle.router_core.proofs.router.Router.accept.Goals as goal

pub take_notice-requires-clause-moves : goal.take_notice-requires-clause-moves
take_notice-requires-clause-moves g c =
    let read : c.index-was.result.now ≡ get_or c.args.self.now.ports c.args.port c.index-was.result.now
    = c.index-was.ensures ∙ ap (λ q. get_or c.self.inside.ports.items q c.index-was.result.now) c.from.ensures ∙ ap (λ (r : Router). get_or r.ports c.args.port c.index-was.result.now) c.self.view_is in
    ups_written (λ p. record { up = true; session = c.in-Up.session; cost = c.in-Up.cost }) true c.args.port c.args.self.now.ports c.index-was.result.now read (λ p. refl)

pub take_notice-requires-in-Down-clause-moves : goal.take_notice-requires-in-Down-clause-moves
take_notice-requires-in-Down-clause-moves g c =
    let read : c.index-was.result.now ≡ get_or c.args.self.now.ports c.args.port c.index-was.result.now
    = c.index-was.ensures ∙ ap (λ q. get_or c.self.inside.ports.items q c.index-was.result.now) c.from.ensures ∙ ap (λ (r : Router). get_or r.ports c.args.port c.index-was.result.now) c.self.view_is in
    ups_written (λ p. record p { up = false; session = c.in-Down.session }) false c.args.port c.args.self.now.ports c.index-was.result.now read (λ p. refl)

pub take_notice-requires-in-Cost-clause-moves : goal.take_notice-requires-in-Cost-clause-moves
take_notice-requires-in-Cost-clause-moves g c =
    let read : c.index-was.result.now ≡ get_or c.args.self.now.ports c.args.port c.index-was.result.now
    = c.index-was.ensures ∙ ap (λ q. get_or c.self.inside.ports.items q c.index-was.result.now) c.from.ensures ∙ ap (λ (r : Router). get_or r.ports c.args.port c.index-was.result.now) c.self.view_is in
    ups_kept (λ p. record p { session = c.in-Cost.session; cost = c.in-Cost.cost }) c.args.port c.args.self.now.ports c.index-was.result.now read (λ p. refl)

pub returns-in-Up-clause-ok : goal.returns-in-Up-clause-ok
returns-in-Up-clause-ok g c =
    let read : c.index-was.result.now ≡ get_or c.args.self.now.ports c.args.port c.index-was.result.now
    = c.index-was.ensures ∙ ap (λ q. get_or c.self.inside.ports.items q c.index-was.result.now) c.from.ensures ∙ ap (λ (r : Router). get_or r.ports c.args.port c.index-was.result.now) c.self.view_is in
    subst (λ (r : Router). OnOk c.take_notice.result (c.take_notice.new.self ≡ r))
    (noticing_written (Event.Up c.args.port c.in-Up.cost) (λ p. record { up = true; session = c.in-Up.session; cost = c.in-Up.cost }) c.args.port c.args.self.now c.index-was.result.now read
    ∙ ap (λ item. router_accepting c.args.port item c.args.self.now) (sym c.in-Up.is))
    c.take_notice.ensures.ok

pub returns-in-Down-clause-ok : goal.returns-in-Down-clause-ok
returns-in-Down-clause-ok g c =
    let read : c.index-was.result.now ≡ get_or c.args.self.now.ports c.args.port c.index-was.result.now
    = c.index-was.ensures ∙ ap (λ q. get_or c.self.inside.ports.items q c.index-was.result.now) c.from.ensures ∙ ap (λ (r : Router). get_or r.ports c.args.port c.index-was.result.now) c.self.view_is in
    subst (λ (r : Router). OnOk c.take_notice-in-Down.result (c.take_notice-in-Down.new.self ≡ r))
    (noticing_written (Event.Down c.args.port) (λ p. record p { up = false; session = c.in-Down.session }) c.args.port c.args.self.now c.index-was.result.now read
    ∙ ap (λ item. router_accepting c.args.port item c.args.self.now) (sym c.in-Down.is))
    c.take_notice-in-Down.ensures.ok

pub returns-in-Cost-clause-ok : goal.returns-in-Cost-clause-ok
returns-in-Cost-clause-ok g c =
    let read : c.index-was.result.now ≡ get_or c.args.self.now.ports c.args.port c.index-was.result.now
    = c.index-was.ensures ∙ ap (λ q. get_or c.self.inside.ports.items q c.index-was.result.now) c.from.ensures ∙ ap (λ (r : Router). get_or r.ports c.args.port c.index-was.result.now) c.self.view_is in
    subst (λ (r : Router). OnOk c.take_notice-in-Cost.result (c.take_notice-in-Cost.new.self ≡ r))
    (noticing_written (Event.Cost c.args.port c.in-Cost.cost) (λ p. record p { session = c.in-Cost.session; cost = c.in-Cost.cost }) c.args.port c.args.self.now c.index-was.result.now read
    ∙ ap (λ item. router_accepting c.args.port item c.args.self.now) (sym c.in-Cost.is))
    c.take_notice-in-Cost.ensures.ok
