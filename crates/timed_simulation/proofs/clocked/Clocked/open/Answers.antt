use Rattle.std.proofs.Common.{sym, subst, map}
use Rattle.timed_simulation.specs.{Links.link_of, Timed.opening_timed, Runs.IsTimed}
use Rattle.timed_simulation.proofs.Runs.{equal_parts, kept_open}
use Rattle.timed_simulation.proofs.clocked.Clocked.open.Goals as goal

pub invariant_of-result : goal.invariant_of-result
invariant_of-result g c =
    subst IsTimed (sym (equal_parts (opening_timed c.args.network c.args.links.now c.args.routers.now) c.in_ok-simulation.simulation (map link_of c.in_ok-links.links.items) c.in_ok-routers.routers.items c.new.result.items c.in_ok-simulation.ensures.ok c.in_ok-links.ensures c.in_ok-routers.ensures c.new.ensures.items))
    (kept_open c.args.network c.routers-routers.ensures.valid c.args.links.now c.args.routers.now c.requires.each_link c.requires.each_router)
