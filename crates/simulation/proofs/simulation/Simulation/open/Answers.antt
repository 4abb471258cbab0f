use Rattle.std.proofs.Common.{◌∙◌, ap, map}
use Rattle.no_packet_loops.proofs.Common.{World}
use Rattle.course.specs.{Course.Course, Images.chosen_image}
use Rattle.simulation.proofs.Simulations.{images_opened, is_opening}
use Rattle.simulation.proofs.simulation.Simulation.open.Goals as goal

pub invariant_of-simulation : goal.invariant_of-simulation
invariant_of-simulation g c =
    images_opened c.args.network c.in_ok-course.course.world c.in_ok-images.images.items (ap (λ (x : Course). x.world) c.in_ok-course.ensures) (c.in_ok-images.ensures ∙ ap (λ (w : World). map chosen_image w.routers) c.world.ensures)

pub returns-clause-ok : goal.returns-clause-ok
returns-clause-ok g c =
    is_opening c.args.network c.in_ok-course.course c.in_ok-images.images.items c.in_ok-course.ensures
    (images_opened c.args.network c.in_ok-course.course.world c.in_ok-images.images.items (ap (λ (x : Course). x.world) c.in_ok-course.ensures) (c.in_ok-images.ensures ∙ ap (λ (w : World). map chosen_image w.routers) c.world.ensures))
