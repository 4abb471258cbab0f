use Rattle.std.proofs.Common.{◌≡◌, ◌<◌, length, map, set, refl, sym, subst, arith}
use Rattle.no_packet_loops.proofs.Common.{length-map}
use Rattle.link_fifo.proofs.Changes.{slice_get-read, written_in}
use Rattle.timed_simulation.specs.Links.{link_of, links_after, link_moved, HasLinkRoomFor}
use Rattle.timed_simulation.proofs.Lists.{changed_past}
use Rattle.timed_simulation.proofs.links.note.Goals as goal

pub returns-then-from-len : goal.returns-then-from-len
returns-then-from-len g c =
    let place = c.from.ensures in
    let count = c.len.ensures in
    let over = c.if-from-len.true in
    let ok = c.args.links.now.ok.0 in
    let same = length-map c.args.links.now.items link_of in
    subst (λ o. map link_of c.args.links.now.items ≡ links_after c.args.now o (map link_of c.args.links.now.items)) (sym c.in-Some.is)
    (sym (changed_past (link_moved c.args.now c.in-Some.motion) c.in-Some.link (map link_of c.args.links.now.items) (omega (arith, place, count, over, ok, same))))

pub note-requires : goal.note-requires
note-requires g c =
    let place = c.from.ensures in
    let count = c.len.ensures in
    let below = c.if-from-len.false in
    let ok = c.args.links.now.ok.0 in
    let within : c.in-Some.link < length c.args.links.now.items = omega (arith, place, count, below, ok) in
    (subst (HasLinkRoomFor c.args.links.now.items) c.in-Some.is c.requires) c.index_mut.result.now (slice_get-read c.from-2.ensures c.index_mut.ensures.value refl within)

pub returns : goal.returns
returns g c =
    subst (λ o. map link_of (set c.args.links.now.items c.from-2.result c.note.new.self) ≡ links_after c.args.now o (map link_of c.args.links.now.items)) (sym c.in-Some.is)
    (written_in link_of (link_moved c.args.now c.in-Some.motion) c.args.links.now.items c.from-2.ensures c.index_mut.ensures.value c.note.ensures refl)
