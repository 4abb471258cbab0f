use Rattle.std.proofs.Common.{◌≡◌, ◌<◌, false, Some, Ok, slice_get, get_or, length, refl, sym, ap, subst, ◌∙◌, set, option_and_then, IsErrAnd, true≢false}
use Rattle.std.specs.declared.vec.Vec.{Vec}
use Rattle.no_packet_loops.proofs.Common.{slice_get_within, Release, changed_at, Router, World, place_at, None_not_Some, Some_injective}
use Rattle.network_model.specs.Step as steps
use Rattle.link_fifo.specs.{declared.refusal.LinkRefusal.LinkRefusal, Refusals.step_refusal}
use Rattle.link_fifo.proofs.Changes.{written, slice_get-read}
use Rattle.world.specs.Steps.{IsDoneOr, is_stale}
use Rattle.world.proofs.Insides.{world_in}
use Rattle.world.proofs.Done.{on_some, put_on_link, put_nowhere, put_refused, released-keeps, is_done, found_no_memory, in_bounds}
use Rattle.world.proofs.world.World.release.Goals as goal
use Rattle.world.proofs.world.World.release.Given as given
use Rattle.world.proofs.world.World.release.Goals.{In-Some, After-port, After-from-2, in-Some-port+in_ok-put, in_default-port}

module _ (g : given.Over) (c : In-Some g) where
  -- the router that releases
  router_is : slice_get c.self.inside.routers.items c.args.router ≡ Some c.router.result.now
  router_is = ap (λ (w : World). slice_get w.routers c.args.router) c.self.view_is ∙ c.router.ensures

  -- the message that the router releases
  is_front : steps.release_at (world_in c.self.inside) c.args.router ≡ Some c.in-Some.held
  is_front = ap (option_and_then steps.ripe_front) router_is ∙ sym c.front.ensures ∙ c.in-Some.is

-- the place of the message's port
place_is : (g : given.Over) (c : After-port g) → place_at (world_in c.self.inside) c.args.router (c.in-Some.held).port ≡ c.port.result
place_is g c = ap (λ (w : World). place_at w c.args.router (c.in-Some.held).port) c.self.view_is ∙ sym c.port.ensures

pub returns-in_default-clause-stale : goal.returns-in_default-clause-stale
returns-in_default-clause-stale g c = λ h front stale.
    absurd (None_not_Some (sym (ap (option_and_then steps.ripe_front) c.router.ensures ∙ sym c.front.ensures ∙ c.in_default.is) ∙ front))

-- ---- a message that its link refuses

-- it found no memory, and is not stale
put_found : (g : given.Over) (c : goal.After-from_residual g) → (c.in_err-put.field-0.0 ≡ LinkRefusal.NoMemory) × (is_stale (world_in c.self.inside) c.args.router c.in-Some.held ≡ false)
put_found g c =
    put_refused (world_in c.self.inside) c.args.router c.in-Some.held c.in-Some-port.place c.in_err-put.field-0.0 c.self.invariant
    (place_is g (goal.at.returns-in_err-put-clause-cause g c).After-port ∙ c.in-Some-port.is) c.in_err-put.ensures.answer

pub returns-in_err-put-clause-cause : goal.returns-in_err-put-clause-cause
returns-in_err-put-clause-cause g c =
    subst (λ w. IsDoneOr (steps.refusal w (Release c.args.router)) c.from_residual.result) c.self.view_is
    (found_no_memory (world_in c.self.inside) (Release c.args.router) c.from_residual.result (c.in-Some.held, is_front g (goal.at.returns-in_err-put-clause-cause g c).In-Some)
    (subst (λ e. IsErrAnd c.from_residual.result (λ x. x ≡ step_refusal e)) (put_found g c).0 c.from_residual.ensures.1))

pub returns-in_err-put-clause-stale : goal.returns-in_err-put-clause-stale
returns-in_err-put-clause-stale g c = λ h front stale.
    let front_now : steps.release_at c.args.self.now c.args.router ≡ Some c.in-Some.held = ap (λ w. steps.release_at w c.args.router) (sym c.self.view_is) ∙ is_front g (goal.at.returns-in_err-put-clause-stale g c).In-Some in
    absurd (true≢false (sym stale ∙ ap (is_stale c.args.self.now c.args.router) (Some_injective (sym front ∙ front_now))
    ∙ ap (λ w. is_stale w c.args.router c.in-Some.held) (sym c.self.view_is) ∙ (put_found g c).1))

-- ---- a message that was put on its link, or lost

-- the routers are as they were until the one releases
same_routers : (g : given.Over) (c : After-from-2 g) → c.match-port.self-inside.routers ≡ c.self.inside.routers
same_routers g c = elim c.match-port.branch [
  | in-Some-port+in_ok-put w ↦ ap (λ s. s.routers) w.self-inside-is
  | in_default-port w ↦ ap (λ s. s.routers) w.self-inside-is
]

pub index_mut-requires : goal.index_mut-requires
index_mut-requires g c =
    in_bounds c.from-2.ensures
    (subst (λ (v : Vec Router g.row.A.Denot). c.args.router < length v.items) (sym (same_routers g c)) (slice_get_within c.self.inside.routers.items c.args.router _ (router_is g (goal.at.index_mut-requires g c).In-Some)))
    c.match-port.self-inside.routers.ok.0

-- the router has released that message
routers_are : (g : given.Over) (c : goal.After-self-1 g) → set c.self.inside.routers.items c.from-2.result c.release-released.new.self ≡ changed_at c.args.router steps.router_releasing c.self.inside.routers.items
routers_are g c =
    let at = goal.at.invariant_of-self-2 g c in
    let read : c.index_mut.result.now ≡ get_or c.self.inside.routers.items c.from-2.result c.index_mut.result.now
    = c.index_mut.ensures.value ∙ ap (λ (v : Vec Router g.row.A.Denot). get_or v.items c.from-2.result c.index_mut.result.now) (same_routers g at.After-from-2) in
    let here : slice_get c.self.inside.routers.items c.args.router ≡ Some c.index_mut.result.now
    = slice_get-read c.from-2.ensures read refl (slice_get_within c.self.inside.routers.items c.args.router _ (router_is g at.In-Some)) in
    let front : steps.ripe_front c.index_mut.result.now ≡ Some c.in-Some.held
    = ap (option_and_then steps.ripe_front) (sym here) ∙ is_front g at.In-Some in
    written steps.router_releasing c.from-2.ensures read (on_some c.release-released.result (c.release-released.ensures.released ∙ front) c.release-released.ensures.some) refl

-- the world then is the next one
is_next : (g : given.Over) (c : goal.After-self-1 g) → record (world_in c.match-port.self-inside) { routers = set c.match-port.self-inside.routers.items c.from-2.result c.release-released.new.self }
    ≡ steps.next (world_in c.self.inside) (Release c.args.router)
is_next g c =
    let at = goal.at.invariant_of-self-2 g c in
    elim c.match-port.branch [
      | in-Some-port+in_ok-put w ↦
          ap (λ s. record (world_in s) { routers = set s.routers.items c.from-2.result c.release-released.new.self }) w.self-inside-is
          ∙ put_on_link (world_in c.self.inside) c.args.router c.in-Some.held w.in-Some-port.place w.put.new.self.links (set c.self.inside.routers.items c.from-2.result c.release-released.new.self) (is_front g at.In-Some)
          (place_is g at.After-port ∙ w.in-Some-port.is) w.in_ok-put.ensures.ok (routers_are g c)
      | in_default-port w ↦
          ap (λ s. record (world_in s) { routers = set s.routers.items c.from-2.result c.release-released.new.self }) w.self-inside-is
          ∙ put_nowhere (world_in c.self.inside) c.args.router c.in-Some.held (set c.self.inside.routers.items c.from-2.result c.release-released.new.self) (is_front g at.In-Some)
          (place_is g at.After-port ∙ w.in_default-port.is) (routers_are g c)
    ]

pub invariant_of-self-2 : goal.invariant_of-self-2
invariant_of-self-2 g c = released-keeps (world_in c.self.inside) c.args.router c.in-Some.held _ (is_front g (goal.at.invariant_of-self-2 g c).In-Some) (is_next g c) c.self.invariant

pub returns-clause-ok : goal.returns-clause-ok
returns-clause-ok g c = is_next g c ∙ ap (λ (w : World). steps.next w (Release c.args.router)) c.self.view_is

pub returns-clause-cause : goal.returns-clause-cause
returns-clause-cause g c =
    subst (λ w. IsDoneOr (steps.refusal w (Release c.args.router)) (Ok (tt {0}))) c.self.view_is
    (is_done (world_in c.self.inside) (Release c.args.router) (c.in-Some.held, is_front g (goal.at.returns-clause-cause g c).In-Some))
