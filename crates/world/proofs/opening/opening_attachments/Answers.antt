use Rattle.std.proofs.Common.{arith, ap, ◌∙◌, []}
use Rattle.no_packet_loops.proofs.Common.{costs_of, rows_of}
use Rattle.world.specs.Parts.{attachments_of}
use Rattle.world.proofs.{ByRouter.made_at, ByRouter.made_count, Ranges.one_made}
use Rattle.world.proofs.opening.opening_attachments.Goals as goal

pub offset_bounds-own-router : goal.offset_bounds-own-router
offset_bounds-own-router g c =
    let many = made_count (λ v. rows_of v.items) (costs_of c.args.network.now) c.args.own.now (c.args.network.now).routers c.requires in
    omega (arith, many)

pub bounds-own-router : goal.bounds-own-router
bounds-own-router g c =
    let many = made_count (λ v. rows_of v.items) (costs_of c.args.network.now) c.args.own.now (c.args.network.now).routers c.requires in
    omega (arith, many)

pub loop-router-preserved : goal.loop-router-preserved
loop-router-preserved g c =
    one_made (λ i. attachments_of (costs_of c.args.network.now i) []) c.loop-router.attachments.items c.push.new.self.items _ c.in_ok-new.field-0 c.loop-router.router c.routers-router-end.result
    (omega arith)
    (c.in_ok-new.ensures ∙ ap (λ rows. attachments_of rows [])
    (ap rows_of c.deref.ensures.value ∙ made_at (λ v. rows_of v.items) (costs_of c.args.network.now) c.args.own.now (c.args.network.now).routers c.loop-router.router c.index-own-router.result c.requires (omega arith) c.index-own-router.is))
    c.in_ok-push.ensures.items c.loop-router.invariant
