use Rattle.std.proofs.Common.{◌≡◌, true, Ok, Err, refl, sym, ap, subst, ◌∙◌, set}
use Rattle.no_packet_loops.proofs.Common.{Deliver, Refusal, World}
use Rattle.network_model.specs.Step as steps
use Rattle.link_fifo.proofs.Changes.{written, slice_get-read}
use Rattle.world.specs.{Kept.IsWorld, Steps.DeliveryNeedsMemory, Steps.IsDoneOr}
use Rattle.router_core.proofs.Refused.{gave_up}
use Rattle.world.proofs.Insides.{world_in}
use Rattle.world.proofs.Done.{router_within, attachments_within, notice_is, no_notice, notice_lawful, noticed, noticed-keeps, notice_needs, not_lawful, refused, is_done, found_no_memory, written_back, in_bounds}
use Rattle.world.proofs.world.World.deliver_notice.Goals as goal
use Rattle.world.proofs.world.World.deliver_notice.Goals.{After-front}
use Rattle.world.proofs.world.World.deliver_notice.Given as given

-- the notice that stands first with the router's attachments, where one stands
module _ (g : given.Over) (c : After-front g) where
  abbrev old : World
  old = world_in c.self.inside

  -- the port is the one of the notices
  home : steps.is_at_home old c.args.router c.args.port ≡ true
  home = ap (λ (w : World). steps.is_at_home w c.args.router c.args.port) c.self.view_is ∙ c.requires.home

  first : steps.notice_at old c.args.router c.args.port ≡ c.front.result
  first =
      notice_is old c.args.router c.args.port c.index.result.now home
      (slice_get-read c.from-number.ensures c.index.ensures refl (attachments_within old c.args.router c.args.port c.self.invariant home))
      ∙ sym c.front.ensures

pub returns-in_default-clause-cause : goal.returns-in_default-clause-cause
returns-in_default-clause-cause g c =
    let f = (goal.at.returns-in_default-clause-cause g c).After-front in
    subst (λ w. IsDoneOr (steps.refusal w (Deliver c.args.router c.args.port)) (Err Refusal.NothingToDeliver)) c.self.view_is
    (refused _ (Err Refusal.NothingToDeliver) Refusal.NothingToDeliver (no_notice (world_in c.self.inside) c.args.router c.args.port c.self.invariant (home g f) (first g f ∙ c.in_default.is)) refl)

pub returns-in_default-clause-room : goal.returns-in_default-clause-room
returns-in_default-clause-room g c lawful =
    let f = (goal.at.returns-in_default-clause-room g c).After-front in
    not_lawful _ Refusal.NothingToDeliver (no_notice (world_in c.self.inside) c.args.router c.args.port c.self.invariant (home g f) (first g f ∙ c.in_default.is))
    (ap (λ (w : World). steps.refusal w (Deliver c.args.router c.args.port)) c.self.view_is ∙ lawful)

pub index_mut-requires : goal.index_mut-requires
index_mut-requires g c =
    in_bounds c.from-number.ensures (router_within (world_in c.self.inside) c.args.router c.args.port c.self.invariant (home g (goal.at.index_mut-requires g c).After-front)) c.self.inside.routers.ok.0

pub index_mut-requires-2 : goal.index_mut-requires-2
index_mut-requires-2 g c =
    in_bounds c.from-number.ensures (attachments_within (world_in c.self.inside) c.args.router c.args.port c.self.invariant (home g (goal.at.index_mut-requires-2 g c).After-front)) c.self.inside.attachments.ok.0

-- ---- a router that found no room for what the notice brings

still : (g : given.Over) (c : goal.After-from_residual g) → record (world_in c.self.inside) { routers = set c.self.inside.routers.items c.from-number.result c.notice.new.self } ≡ world_in c.self.inside
still g c =
    ap (λ rs. record (world_in c.self.inside) { routers = rs })
    (written_back c.self.inside.routers.items c.from-number.result c.index_mut.ensures.value c.in_err-notice.ensures.err)

pub invariant_of-self : goal.invariant_of-self
invariant_of-self g c = subst IsWorld (sym (still g c)) c.self.invariant

pub returns-in_err-notice-clause-err : goal.returns-in_err-notice-clause-err
returns-in_err-notice-clause-err g c = gave_up c.from_residual.result (still g c ∙ c.self.view_is)

pub returns-in_err-notice-clause-cause : goal.returns-in_err-notice-clause-cause
returns-in_err-notice-clause-cause g c =
    let f = (goal.at.returns-in_err-notice-clause-cause g c).After-front in
    subst (λ w. IsDoneOr (steps.refusal w (Deliver c.args.router c.args.port)) c.from_residual.result) c.self.view_is
    (found_no_memory (world_in c.self.inside) (Deliver c.args.router c.args.port) c.from_residual.result
    (notice_lawful (world_in c.self.inside) c.args.router c.args.port c.in-Some.notice c.self.invariant (home g f) (first g f ∙ c.in-Some.is)) c.from_residual.ensures.1)

pub returns-in_err-notice-clause-room : goal.returns-in_err-notice-clause-room
returns-in_err-notice-clause-room g c lawful =
    let f = (goal.at.returns-in_err-notice-clause-room g c).After-front in
    let w : World = world_in c.self.inside in
    let there = slice_get-read c.from-number.ensures c.index_mut.ensures.value refl (router_within w c.args.router c.args.port c.self.invariant (home g f)) in
    gave_up c.from_residual.result
    (subst (λ v. DeliveryNeedsMemory v c.args.router c.args.port) c.self.view_is
    (notice_needs w c.args.router c.args.port c.in-Some.notice c.index_mut.result.now (home g f) (first g f ∙ c.in-Some.is) there c.in_err-notice.ensures.memory))

-- ---- a router that took the notice

-- the world then is the next one
is_next : (g : given.Over) (c : goal.After-self-2-1 g) → record (world_in c.self.inside) { attachments = set c.self.inside.attachments.items c.from-number.result c.take.new.self; routers = set c.self.inside.routers.items c.from-number.result c.notice.new.self }
    ≡ steps.next (world_in c.self.inside) (Deliver c.args.router c.args.port)
is_next g c =
    let f = (goal.at.invariant_of-self-2 g c).After-front in
    noticed (world_in c.self.inside) c.args.router c.args.port c.in-Some.notice _ _ (home g f) (first g f ∙ c.in-Some.is)
    (written steps.with_notice_taken c.from-number.ensures c.index_mut-2.ensures.value c.take.ensures refl)
    (written (steps.router_at_home c.in-Some.notice) c.from-number.ensures c.index_mut.ensures.value c.in_ok-notice.ensures.ok refl)

pub invariant_of-self-2 : goal.invariant_of-self-2
invariant_of-self-2 g c =
    let f = (goal.at.invariant_of-self-2 g c).After-front in
    noticed-keeps (world_in c.self.inside) c.args.router c.args.port c.in-Some.notice _ (home g f) (first g f ∙ c.in-Some.is) (is_next g c) c.self.invariant

pub returns-clause-ok : goal.returns-clause-ok
returns-clause-ok g c = is_next g c ∙ ap (λ (w : World). steps.next w (Deliver c.args.router c.args.port)) c.self.view_is

pub returns-clause-cause : goal.returns-clause-cause
returns-clause-cause g c =
    let f = (goal.at.returns-clause-cause g c).After-front in
    subst (λ w. IsDoneOr (steps.refusal w (Deliver c.args.router c.args.port)) (Ok (tt {0}))) c.self.view_is
    (is_done (world_in c.self.inside) (Deliver c.args.router c.args.port)
    (notice_lawful (world_in c.self.inside) c.args.router c.args.port c.in-Some.notice c.self.invariant (home g f) (first g f ∙ c.in-Some.is)))
