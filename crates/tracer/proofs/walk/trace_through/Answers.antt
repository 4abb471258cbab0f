use Rattle.std.proofs.Common.{◌≡◌, ◌≢◌, ◌∙◌, ◌<◌, true, false, length}
use Rattle.no_packet_loops.proofs.Common.{IfOk-weaker, meets_twice, Ending, trace_of}
use Rattle.fabric.specs.Headline.{IsImageWay, none_published}
use Rattle.all_packets.specs.{Packets.IsWay, Through.through}
use Rattle.tracer.specs.Following.{followed_way}
use Rattle.tracer.proofs.Walks.{is_through, through_ended, through_twice, through_way, way_in_force}
use Rattle.tracer.proofs.walk.trace_through.Goals as goal

pub returns-clause-ok : goal.returns-clause-ok
returns-clause-ok g c =
    let w = c.args.fabric.now.world in
    let i = c.args.router in
    let addr = c.args.addr in
    IfOk-weaker c.follow.result (λ t. (i < length w.routers) × (trace_of t ≡ followed_way true w i addr)) (λ t. trace_of t ≡ through w i addr)
    (λ t is. is.1 ∙ is_through w i addr) c.follow.ensures.ok

pub returns-clause-way : goal.returns-clause-way
returns-clause-way g c =
    let w = c.args.fabric.now.world in
    let i = c.args.router in
    let addr = c.args.addr in
    IfOk-weaker c.follow.result (λ t. (i < length w.routers) × (trace_of t ≡ followed_way true w i addr)) (λ t. IsWay w addr t.path.items)
    (λ t is. through_way w i addr c.router_count-routers.ensures.through t is.1) c.follow.ensures.ok

pub returns-clause-in_force : goal.returns-clause-in_force
returns-clause-in_force g c =
    let f = c.args.fabric.now in
    let addr = c.args.addr in
    IfOk-weaker c.follow.result (λ t. IsWay f.world addr t.path.items) (λ t. IsImageWay f none_published addr t.path.items)
    (λ t way. way_in_force f c.router_count-routers.ensures.forwards addr t.path.items way) (returns-clause-way g c)

pub returns-clause-no_loop : goal.returns-clause-no_loop
returns-clause-no_loop g c =
    let w = c.args.fabric.now.world in
    let i = c.args.router in
    let addr = c.args.addr in
    IfOk-weaker c.follow.result (λ t. (i < length w.routers) × (trace_of t ≡ followed_way true w i addr)) (λ t. meets_twice t.path.items ≡ false)
    (λ t is. through_twice w i addr c.router_count-routers.ensures.through t is.1) c.follow.ensures.ok

pub returns-clause-ended : goal.returns-clause-ended
returns-clause-ended g c =
    let w = c.args.fabric.now.world in
    let i = c.args.router in
    let addr = c.args.addr in
    IfOk-weaker c.follow.result (λ t. (i < length w.routers) × (trace_of t ≡ followed_way true w i addr)) (λ t. t.end ≢ Ending.Crossed)
    (λ t is. through_ended w i addr c.router_count-routers.ensures.through t is.1 is.0) c.follow.ensures.ok
