use Rattle.std.proofs.Common.{◌≡◌, ◌∙◌, ◌<◌, false, length}
use Rattle.no_packet_loops.proofs.Common.{IfOk-weaker, IsPacketWalk, meets_twice, Prefix, trace, trace_of}
use Rattle.fabric.specs.Headline.{IsImageWalk, none_published}
use Rattle.tracer.specs.Following.{followed_way}
use Rattle.tracer.proofs.Walks.{is_trace, trace_twice, traces_walk, walk_in_force}
use Rattle.tracer.proofs.walk.trace.Goals as goal

pub returns-clause-ok : goal.returns-clause-ok
returns-clause-ok g c =
    let w = c.args.fabric.now.world in
    let i = c.args.router in
    let addr = c.args.addr in
    IfOk-weaker c.follow.result (λ t. (i < length w.routers) × (trace_of t ≡ followed_way false w i addr)) (λ t. trace_of t ≡ trace w i addr)
    (λ t is. is.1 ∙ is_trace w i addr) c.follow.ensures.ok

pub returns-clause-walk : goal.returns-clause-walk
returns-clause-walk g c =
    let w = c.args.fabric.now.world in
    let i = c.args.router in
    let addr = c.args.addr in
    IfOk-weaker c.follow.result (λ t. (i < length w.routers) × (trace_of t ≡ followed_way false w i addr)) (λ t. (p : Prefix) × IsPacketWalk w addr p t.path.items)
    (λ t is. traces_walk w i addr t is.1) c.follow.ensures.ok

pub returns-clause-in_force : goal.returns-clause-in_force
returns-clause-in_force g c =
    let f = c.args.fabric.now in
    let addr = c.args.addr in
    IfOk-weaker c.follow.result (λ t. (p : Prefix) × IsPacketWalk f.world addr p t.path.items) (λ t. (p : Prefix) × IsImageWalk f none_published addr p t.path.items)
    (λ t walk. (walk.0, walk_in_force f c.router_count-routers.ensures.forwards addr walk.0 t.path.items walk.1)) (returns-clause-walk g c)

pub returns-clause-no_loop : goal.returns-clause-no_loop
returns-clause-no_loop g c =
    let w = c.args.fabric.now.world in
    let i = c.args.router in
    let addr = c.args.addr in
    IfOk-weaker c.follow.result (λ t. (i < length w.routers) × (trace_of t ≡ followed_way false w i addr)) (λ t. meets_twice t.path.items ≡ false)
    (λ t is. trace_twice w i addr c.router_count-routers.ensures.traces t is.1) c.follow.ensures.ok
