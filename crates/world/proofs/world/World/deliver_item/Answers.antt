use Rattle.std.proofs.Common.{◌≡◌, Some, Ok, refl, sym, ap, subst, ◌∙◌, set, false, slice_get, option_map}
use Rattle.no_packet_loops.proofs.Common.{result_err, slice_get_within, Deliver, World}
use Rattle.network_model.specs.Step as steps
use Rattle.link_fifo.specs.Refusals.{step_refusal}
use Rattle.link_fifo.proofs.Changes.{written, slice_get-read}
use Rattle.world.specs.{Kept.IsWorld, Steps.DeliveryNeedsMemory, Steps.IsDoneOr, Steps.IsPort}
use Rattle.router_core.proofs.Refused.{gave_up}
use Rattle.world.proofs.Insides.{world_in}
use Rattle.world.proofs.Done.{on_ok, port_known, can_take, item_cause, item_lawful, item_needs, not_lawful, delivered, delivered-keeps, refused_by_link, is_done, found_no_memory, written_back, in_bounds}
use Rattle.world.proofs.world.World.deliver_item.Goals as goal
use Rattle.world.proofs.world.World.deliver_item.Goals.{In_ok-place, After-index_mut-taker}
use Rattle.world.proofs.world.World.deliver_item.Given as given

-- the port of this place is there
port_is : (g : given.Over) (c : In_ok-place g) → IsPort (world_in c.self.inside) c.args.router c.args.port c.in_ok-place.place
port_is g c = subst (λ w. IsPort w c.args.router c.args.port c.in_ok-place.place) (sym c.self.view_is) c.in_ok-place.ensures.ok

pub returns-in_err-item-clause-cause : goal.returns-in_err-item-clause-cause
returns-in_err-item-clause-cause g c =
    let away : steps.is_at_home (world_in c.self.inside) c.args.router c.args.port ≡ false = ap (λ w. steps.is_at_home w c.args.router c.args.port) c.self.view_is ∙ c.requires.link in
    let port : IsPort (world_in c.self.inside) c.args.router c.args.port c.in_ok-place.place = port_is g (goal.at.returns-in_err-item-clause-cause g c).In_ok-place in
    subst (λ w. IsDoneOr (steps.refusal w (Deliver c.args.router c.args.port)) c.from_residual-in_err-item.result) c.self.view_is
    (refused_by_link (Some c.in_err-item.field-0.0) c.in_err-item.field-0.0 c.from_residual-in_err-item.result
    (item_cause (world_in c.self.inside) c.args.router c.args.port c.in_ok-place.place port away ∙ ap (λ r. option_map step_refusal (result_err r)) (sym c.in_err-item.ensures))
    refl c.from_residual-in_err-item.ensures.1)

pub returns-in_err-item-clause-room : goal.returns-in_err-item-clause-room
returns-in_err-item-clause-room g c lawful =
    let away : steps.is_at_home (world_in c.self.inside) c.args.router c.args.port ≡ false = ap (λ w. steps.is_at_home w c.args.router c.args.port) c.self.view_is ∙ c.requires.link in
    let port : IsPort (world_in c.self.inside) c.args.router c.args.port c.in_ok-place.place = port_is g (goal.at.returns-in_err-item-clause-room g c).In_ok-place in
    not_lawful _ (step_refusal c.in_err-item.field-0.0)
    (item_cause (world_in c.self.inside) c.args.router c.args.port c.in_ok-place.place port away ∙ ap (λ r. option_map step_refusal (result_err r)) (sym c.in_err-item.ensures))
    (ap (λ w. steps.refusal w (Deliver c.args.router c.args.port)) c.self.view_is ∙ lawful)

pub index_mut-taker-requires : goal.index_mut-taker-requires
index_mut-taker-requires g c =
    let port : IsPort (world_in c.self.inside) c.args.router c.args.port c.in_ok-place.place = port_is g (goal.at.index_mut-taker-requires g c).In_ok-place in
    in_bounds c.from.ensures (slice_get_within c.self.inside.routers.items c.args.router _ port.is_router) c.self.inside.routers.ok.0

-- the router that takes the item
taker_is : (g : given.Over) (c : After-index_mut-taker g) → IsPort (world_in c.self.inside) c.args.router c.args.port c.in_ok-place.place → slice_get c.self.inside.routers.items c.args.router ≡ Some c.index_mut-taker.result.now
taker_is g c port = slice_get-read c.from.ensures c.index_mut-taker.ensures.value refl (slice_get_within c.self.inside.routers.items c.args.router _ port.is_router)

pub accept-requires-clause-known : goal.accept-requires-clause-known
accept-requires-clause-known g c =
    let at = goal.at.accept-requires-clause-known g c in
    let port = port_is g at.In_ok-place in
    port_known (world_in c.self.inside) c.args.router c.args.port c.in_ok-place.place c.index_mut-taker.result.now c.self.invariant (taker_is g at.After-index_mut-taker port) port.is_place

pub accept-requires-clause-timely : goal.accept-requires-clause-timely
accept-requires-clause-timely g c =
    let at = goal.at.accept-requires-clause-timely g c in
    let port = port_is g at.In_ok-place in
    can_take (world_in c.self.inside) c.args.router c.args.port c.in_ok-place.place c.index_mut-taker.result.now c.in_ok-item.item c.self.invariant port (taker_is g at.After-index_mut-taker port) (sym c.in_ok-item.ensures)

-- ---- a router that found no room for what the item brings

still : (g : given.Over) (c : goal.After-from_residual-in_err-accept g) → record (world_in c.self.inside) { routers = set c.self.inside.routers.items c.from.result c.accept.new.self } ≡ world_in c.self.inside
still g c =
    ap (λ rs. record (world_in c.self.inside) { routers = rs })
    (written_back c.self.inside.routers.items c.from.result c.index_mut-taker.ensures.value c.in_err-accept.ensures.err)

pub invariant_of-self : goal.invariant_of-self
invariant_of-self g c = subst IsWorld (sym (still g c)) c.self.invariant

pub returns-in_err-accept-clause-err : goal.returns-in_err-accept-clause-err
returns-in_err-accept-clause-err g c = gave_up c.from_residual-in_err-accept.result (still g c ∙ c.self.view_is)

pub returns-in_err-accept-clause-cause : goal.returns-in_err-accept-clause-cause
returns-in_err-accept-clause-cause g c =
    subst (λ w. IsDoneOr (steps.refusal w (Deliver c.args.router c.args.port)) c.from_residual-in_err-accept.result) c.self.view_is
    (found_no_memory (world_in c.self.inside) (Deliver c.args.router c.args.port) c.from_residual-in_err-accept.result
    (item_lawful (world_in c.self.inside) c.args.router c.args.port c.in_ok-place.place c.in_ok-item.item (port_is g (goal.at.returns-in_err-accept-clause-cause g c).In_ok-place) (sym c.in_ok-item.ensures))
    c.from_residual-in_err-accept.ensures.1)

pub returns-in_err-accept-clause-room : goal.returns-in_err-accept-clause-room
returns-in_err-accept-clause-room g c lawful =
    let at = goal.at.returns-in_err-accept-clause-room g c in
    let port = port_is g at.In_ok-place in
    gave_up c.from_residual-in_err-accept.result
    (subst (λ v. DeliveryNeedsMemory v c.args.router c.args.port) c.self.view_is
    (item_needs (world_in c.self.inside) c.args.router c.args.port c.in_ok-place.place c.in_ok-item.item c.index_mut-taker.result.now port (sym c.in_ok-item.ensures) (taker_is g at.After-index_mut-taker port) c.in_err-accept.ensures.memory))

-- ---- a router that took the item

-- the world then is the next one
is_next : (g : given.Over) (c : goal.After-take-taken g) → record (world_in c.self.inside) { links = c.take-taken.new.self.links; routers = set c.self.inside.routers.items c.from.result c.accept.new.self }
    ≡ steps.next (world_in c.self.inside) (Deliver c.args.router c.args.port)
is_next g c =
    delivered (world_in c.self.inside) c.args.router c.args.port c.in_ok-place.place c.in_ok-item.item c.take-taken.new.self.links (set c.self.inside.routers.items c.from.result c.accept.new.self)
    (port_is g (goal.at.invariant_of-self-2 g c).In_ok-place) (sym c.in_ok-item.ensures)
    (on_ok c.take-taken.result (c.take-taken.ensures.answer ∙ sym c.in_ok-item.ensures) c.take-taken.ensures.ok)
    (written (steps.router_accepting c.args.port c.in_ok-item.item) c.from.ensures c.index_mut-taker.ensures.value c.in_ok-accept.ensures.ok refl)

pub invariant_of-self-2 : goal.invariant_of-self-2
invariant_of-self-2 g c =
    delivered-keeps (world_in c.self.inside) c.args.router c.args.port c.in_ok-place.place c.in_ok-item.item _ (port_is g (goal.at.invariant_of-self-2 g c).In_ok-place) (sym c.in_ok-item.ensures) (is_next g c) c.self.invariant

pub returns-clause-ok : goal.returns-clause-ok
returns-clause-ok g c = is_next g c ∙ ap (λ (w : World). steps.next w (Deliver c.args.router c.args.port)) c.self.view_is

pub returns-clause-cause : goal.returns-clause-cause
returns-clause-cause g c =
    subst (λ w. IsDoneOr (steps.refusal w (Deliver c.args.router c.args.port)) (Ok (tt {0}))) c.self.view_is
    (is_done (world_in c.self.inside) (Deliver c.args.router c.args.port)
    (item_lawful (world_in c.self.inside) c.args.router c.args.port c.in_ok-place.place c.in_ok-item.item (port_is g (goal.at.returns-clause-cause g c).In_ok-place) (sym c.in_ok-item.ensures)))
