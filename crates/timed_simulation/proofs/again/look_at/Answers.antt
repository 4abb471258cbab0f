use Rattle.std.proofs.Common.{arith, sym, ap, ◌∙◌, Bool, if◌then◌else◌, length, set, le-ltb, lt-ltb, length-set}
use Rattle.timed_simulation.specs.{Timed.world_of, Next.next_moment}
use Rattle.timed_simulation.proofs.again.look_at.Goals as goal

pub next_moment-requires : goal.next_moment-requires
next_moment-requires g c =
    let within = c.if-from-router_count.false in
    let place = c.from.ensures in
    let count = c.router_count.ensures in
    omega (arith, within, place, count)

pub set-requires : goal.set-requires
set-requires g c =
    let within = c.if-from-router_count.false in
    let place = c.from.ensures in
    let count = c.router_count.ensures in
    let many = c.requires in
    omega (arith, within, place, count, many)

pub returns-then-from-router_count-clause-looked : goal.returns-then-from-router_count-clause-looked
returns-then-from-router_count-clause-looked g c =
    let t = c.args.clocked.now in
    let over = c.if-from-router_count.true in
    let place = c.from.ensures in
    let count = c.router_count.ensures in
    sym (ap (λ (b : Bool). if b then set c.args.minima.now c.args.router (next_moment t c.args.router) else c.args.minima.now) (le-ltb c.args.router (length (world_of t).routers) (omega (arith, over, place, count))))

pub returns-clause-same : goal.returns-clause-same
returns-clause-same g c = ap length c.set.ensures ∙ length-set c.args.minima.now c.args.router c.next_moment.result

pub returns-clause-looked : goal.returns-clause-looked
returns-clause-looked g c =
    let t = c.args.clocked.now in
    let within = c.if-from-router_count.false in
    let place = c.from.ensures in
    let count = c.router_count.ensures in
    c.set.ensures ∙ ap (set c.args.minima.now c.args.router) c.next_moment.ensures
    ∙ sym (ap (λ (b : Bool). if b then set c.args.minima.now c.args.router (next_moment t c.args.router) else c.args.minima.now) (lt-ltb c.args.router (length (world_of t).routers) (omega (arith, within, place, count))))
