use Rattle.std.proofs.Common.{sym, ap, ◌∙◌, ◌++◌, ◌∷◌, [], map, get_or, take_all}
use Rattle.no_packet_loops.proofs.Common.{map_more, Image}
use Rattle.course.specs.Images.{chosen_image}
use Rattle.simulation.proofs.images.opening_images.Goals as goal

pub loop-router-preserved : goal.loop-router-preserved
loop-router-preserved g c =
    let routers = c.routers-router-items.result.now in
    let made = c.loop-router.images.items in
    c.in_ok-push.ensures.items
    ∙ ap (λ (image : Image). made ++ image ∷ []) (c.in_ok-compile.ensures ∙ ap (λ t. record { generation = 0; rows = t.control }) c.table.ensures)
    ∙ ap (λ r. made ++ chosen_image r ∷ []) c.router-item.is
    ∙ ap (λ images. images ++ chosen_image (get_or routers c.loop-router.router-index c.router-item.result) ∷ []) c.loop-router.invariant
    ∙ sym (map_more chosen_image routers c.loop-router.router-index c.router-item.result c.loop-router-test.true)

pub returns : goal.returns
returns g c =
    c.loop-router.invariant
    ∙ ap (map chosen_image) (take_all c.loop-router.router-index c.routers-router-items.result.now c.loop-router-test.false ∙ c.routers-router-items.ensures.routers)
