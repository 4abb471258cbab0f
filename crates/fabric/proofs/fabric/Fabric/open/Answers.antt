use Rattle.std.proofs.Common.{rules, ◌≡◌, ◌∙◌, ◌≤◌, ◌+◌, [], All, map, length, vec_len, refl, ap, subst, sym, arith, vec_capacity}
use Rattle.no_packet_loops.proofs.Common.{most_routers, length-map, World, opening, Image}
use Rattle.no_packet_loops.proofs.Wiring.{few_routers}
use Rattle.publication.specs.Lists.{no_patches}
use Rattle.course.specs.{Course.Course, Images.chosen_image}
use Rattle.fabric.specs.{Desks.all_lent, Desks.desk_in, Desks.writings, Fabric.count_lent, Fabric.fabric_of, Fabric.IsFabric}
use Rattle.fabric.specs.Writers.{ArePending, AreWriters, FitTogether, IsReaderPort, shown_images, fabric_seen}
use Rattle.fabric.proofs.{WritersOut.count-none, WritersOut.none_lent, Fabrics.summed_none}
use Rattle.course.proofs.Idle.{router_count}
use Rattle.fabric.proofs.Openings.{chosen_rows_are, chosen_zero, each_map, is_opening, kept_open, new_readers, new_writers, none_pending, writings_in}
use Rattle.fabric.proofs.fabric.Fabric.open.Given as given
use Rattle.fabric.proofs.fabric.Fabric.open.Goals as goal

-- ---- the images of what the routers chose

images : (g : given.Over) (c : goal.In_ok-journal g) → c.in_ok-images.images.items ≡ map chosen_image (opening c.args.network).routers
images g c = c.in_ok-images.ensures ∙ ap (λ (w : World). map chosen_image w.routers) (c.world.ensures ∙ ap (λ (x : Course). x.world) c.in_ok-course.ensures)

pub open_all-requires-clause-rows : goal.open_all-requires-clause-rows
open_all-requires-clause-rows g c = ap (map (λ (i : Image). i.rows)) (images g c) ∙ chosen_rows_are (opening c.args.network).routers ∙ c.requires.openings

pub open_all-requires-clause-generation : goal.open_all-requires-clause-generation
open_all-requires-clause-generation g c = subst (All (λ (i : Image). i.generation ≡ 0)) (sym (images g c)) (chosen_zero (opening c.args.network).routers)

-- as many as routers
count : (g : given.Over) (c : goal.In_ok-journal g) → vec_len c.in_ok-images.images ≡ c.args.network.routers
count g c =
    let long : length c.in_ok-images.images.items ≡ c.args.network.routers =
    ap length (images g c) ∙ length-map (opening c.args.network).routers chosen_image ∙ router_count c.args.network [] (opening c.args.network) refl in
    search rules

pub open_all-requires-clause-few : goal.open_all-requires-clause-few
open_all-requires-clause-few g c =
    subst (λ k. k ≤ most_routers) (sym (count g c)) (few_routers c.args.network c.routers-routers.ensures.valid)

pub open_all-requires-clause-each : goal.open_all-requires-clause-each
open_all-requires-clause-each g c = c.requires.each ∙ sym (count g c)

pub deal-requires-clause-stock : goal.deal-requires-clause-stock
deal-requires-clause-stock g c =
    each_map (λ rs. rs.items) (λ i rs. (vec_len rs ≡ c.args.workers + 1) × All (λ r. r ≡ no_patches i) rs.items) (λ i rs. (c.args.workers + 1 ≤ length rs) × All (λ r. r ≡ no_patches i) rs)
    (λ i rs all. (let long : length rs.items ≡ vec_len rs = search rules in omega (arith, long, all.0), all.1)) c.in_ok-writers.lists.items c.in_ok-writers.ensures.readers

-- each desk has its writer
pub invariant_of-fabric : goal.invariant_of-fabric
invariant_of-fabric g c =
    let n = c.args.network in
    let w = opening n in
    let opened : w ≡ opening n = refl in
    let images = c.in_ok-images.ensures ∙ ap (λ (v : World). map chosen_image v.routers) (c.world.ensures ∙ ap (λ (x : Course). x.world) c.in_ok-course.ensures) in
    let whole : (length c.in_ok-images.images.items ≡ vec_len c.in_ok-images.images) × (length c.in_ok-writers.writers.items ≡ vec_len c.in_ok-writers.writers) = (sym c.in_ok-images.images.ok.0, sym c.in_ok-writers.writers.ok.0) in
    let each = c.in_ok-writers.ensures.count in
    let seated = c.in_ok-desks.ensures in
    let writers = c.in_ok-writers.writers.items in
    let shown : writings c.in_ok-desks.desks.items ≡ writers = ap writings seated ∙ writings_in writers in
    let routers : length c.in_ok-images.images.items ≡ length w.routers = ap length images ∙ length-map (opening n).routers chosen_image ∙ ap (λ (v : World). length v.routers) (sym opened) in
    let kept = kept_open n g.B.FabricName.openings c.requires.openings w opened c.in_ok-images.images.items images writers c.in_ok-writers.ensures.writers (omega (arith, whole.0, whole.1, each.0))
    c.in_ok-journal.journal.items (vec_capacity c.in_ok-journal.journal) c.in_ok-journal.ensures.items (omega (arith, c.in_ok-journal.ensures.capacity)) in
    subst (λ (x : Course). FitTogether g.B.FabricName.openings x.network c.in_ok-journal.journal.items (vec_capacity c.in_ok-journal.journal) x.world c.in_ok-desks.desks.items c.in-Ok.readers.items 0 0 × (x.steps ≡ length c.in_ok-journal.journal.items)) (sym c.in_ok-course.ensures) (
      (
        subst (λ ds. IsFabric (fabric_seen g.B.FabricName.openings n c.in_ok-journal.journal.items w ds) (vec_capacity c.in_ok-journal.journal)) (sym seated)
            (subst (λ xs. IsFabric (fabric_of n c.in_ok-journal.journal.items w (shown_images g.B.FabricName.openings xs) (all_lent (map desk_in writers))) (vec_capacity c.in_ok-journal.journal)) (sym (writings_in writers)) kept),
        subst (AreWriters w) (sym shown) (new_writers n g.B.FabricName.openings c.requires.openings writers c.in_ok-writers.ensures.writers w),
        subst (ArePending w) (sym seated) (none_pending w writers),
        new_readers w c.in-Ok.readers.items (subst (λ m. IsReaderPort m c.in-Ok.readers.items) (let lists : vec_len c.in_ok-writers.lists ≡ length w.routers = omega (arith, routers, whole.0, each.1) in lists) c.in-Ok.ensures.own),
        summed_none c.in_ok-journal.journal.items c.in_ok-journal.ensures.items,
        sym (ap (λ ds. count_lent (all_lent ds)) seated ∙ ap count_lent (none_lent writers) ∙ count-none (length writers)),
      ),
      sym (ap length c.in_ok-journal.ensures.items),
    )

pub returns-clause-ok : goal.returns-clause-ok
returns-clause-ok g c =
    let opened : opening c.args.network ≡ opening c.args.network = refl in
    let images = c.in_ok-images.ensures ∙ ap (λ (v : World). map chosen_image v.routers) (c.world.ensures ∙ ap (λ (x : Course). x.world) c.in_ok-course.ensures) in
    let whole : (length c.in_ok-images.images.items ≡ vec_len c.in_ok-images.images) × (length c.in_ok-writers.writers.items ≡ vec_len c.in_ok-writers.writers) = (sym c.in_ok-images.images.ok.0, sym c.in_ok-writers.writers.ok.0) in
    let seated = c.in_ok-desks.ensures in
    let writers = c.in_ok-writers.writers.items in
    let w = opening c.args.network in
    ap (λ (x : Course). fabric_seen g.B.FabricName.openings x.network c.in_ok-journal.journal.items x.world c.in_ok-desks.desks.items) c.in_ok-course.ensures
    ∙ ap (λ ds. fabric_seen g.B.FabricName.openings c.args.network c.in_ok-journal.journal.items w ds) seated
    ∙ ap (λ xs. fabric_of c.args.network c.in_ok-journal.journal.items w (shown_images g.B.FabricName.openings xs) (all_lent (map desk_in writers))) (writings_in writers)
    ∙ is_opening c.args.network g.B.FabricName.openings c.requires.openings w opened c.in_ok-images.images.items images writers c.in_ok-writers.ensures.writers
    (omega (arith, whole.0, whole.1, c.in_ok-writers.ensures.count.0)) c.in_ok-journal.journal.items c.in_ok-journal.ensures.items

pub returns-clause-ports : goal.returns-clause-ports
returns-clause-ports g c =
    let n = c.args.network in
    let images = c.in_ok-images.ensures ∙ ap (λ (v : World). map chosen_image v.routers) (c.world.ensures ∙ ap (λ (x : Course). x.world) c.in_ok-course.ensures) in
    let whole : length c.in_ok-images.images.items ≡ vec_len c.in_ok-images.images = sym c.in_ok-images.images.ok.0 in
    let routers : length c.in_ok-images.images.items ≡ n.routers = ap length images ∙ length-map (opening n).routers chosen_image ∙ router_count n [] (opening n) refl in
    let lists : vec_len c.in_ok-writers.lists ≡ n.routers = omega (arith, routers, whole, c.in_ok-writers.ensures.count.1) in
    (c.in-Ok.ensures.count, subst (λ m. All (λ port. IsReaderPort m port.items) c.in-Ok.ports.items) lists c.in-Ok.ensures.ports)
