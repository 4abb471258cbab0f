use Rattle.std.proofs.Common.{◌≡◌, ◌<◌, ◌+◌, ◌++◌, ◌∷◌, [], sym, ap, ◌∙◌, arith, map, take, length, get_or, add-one, length-take-le, take_all}
use Rattle.no_packet_loops.proofs.Common.{A, B, range_with_len, changed_at, places_from, place_of, take-suc}
use Rattle.world.proofs.{ByRouter.made_count, LinksAtRouters.HasEnds, LinksAtRouters.ends_of, LinksAtRouters.places_with_link}
use Rattle.world.proofs.opening.opening_places.Goals as goal

-- there is a list at each end
pub put_at-requires : goal.put_at-requires
put_at-requires g c =
    let n = c.args.network.now in
    let here = c.link-item.result in
    let at : here ≡ get_or n.links c.loop-i.i here = c.link-item.is ∙ ap (λ ls. get_or ls c.loop-i.i here) c.links-link-items.ensures.links in
    let below : c.loop-i.i < length n.links = omega (arith, ap length c.links-link-items.ensures.links) in
    let ends : HasEnds n.routers here = ends_of n c.links-link-items.ensures.valid c.loop-i.i here below at in
    let many = made_count (λ v. v.items) (λ j. places_from 0 j (take c.loop-i.i n.links)) c.loop-i.places.items n.routers c.loop-i.invariant in
    omega (arith, ends.a_known, many, c.loop-i.places.ok.0)

pub put_at-requires-in-loop-i : goal.put_at-requires-in-loop-i
put_at-requires-in-loop-i g c =
    let n = c.args.network.now in
    let here = c.link-item.result in
    let at : here ≡ get_or n.links c.loop-i.i here = c.link-item.is ∙ ap (λ ls. get_or ls c.loop-i.i here) c.links-link-items.ensures.links in
    let below : c.loop-i.i < length n.links = omega (arith, ap length c.links-link-items.ensures.links) in
    let ends : HasEnds n.routers here = ends_of n c.links-link-items.ensures.valid c.loop-i.i here below at in
    let many = made_count (λ v. v.items) (λ j. places_from 0 j (take c.loop-i.i n.links)) c.loop-i.places.items n.routers c.loop-i.invariant in
    omega (arith, ends.b_known, many, c.loop-i.places.ok.0, c.put_at.ensures.len)

-- one link more
pub loop-i-preserved : goal.loop-i-preserved
loop-i-preserved g c =
    let n = c.args.network.now in
    let i = c.loop-i.i in
    let here = c.link-item.result in
    let at : here ≡ get_or n.links i here = c.link-item.is ∙ ap (λ ls. get_or ls i here) c.links-link-items.ensures.links in
    let below : i < length n.links = omega (arith, ap length c.links-link-items.ensures.links) in
    let taken : take (i + 1) n.links ≡ take i n.links ++ here ∷ []
    = ap (λ m. take m n.links) (add-one i) ∙ take-suc n.links i here below ∙ ap (λ x. take i n.links ++ x ∷ []) (sym at) in
    let ends : HasEnds n.routers here = ends_of n c.links-link-items.ensures.valid i here below at in
    c.in_ok-put_at-2.ensures.lists
    ∙ ap (changed_at here.b (λ ps. ps ++ place_of i B ∷ [])) (c.in_ok-put_at.ensures.lists ∙ ap (changed_at here.a (λ ps. ps ++ place_of i A ∷ [])) c.loop-i.invariant)
    ∙ places_with_link n.routers (take i n.links) here i (sym (length-take-le i n.links (omega (arith, below)))) ends
    ∙ ap (λ ls. map (λ j. places_from 0 j ls) (range_with_len 0 n.routers)) (sym taken)

pub loop-i-init : goal.loop-i-init
loop-i-init g c = c.in_ok-places.ensures ∙ ap (λ m. map (λ _. []) (range_with_len 0 m)) c.routers.ensures.number

pub returns : goal.returns
returns g c =
    let n = c.args.network.now in
    c.loop-i.invariant ∙ ap (λ ls. map (λ j. places_from 0 j ls) (range_with_len 0 n.routers)) (take_all c.loop-i.i n.links (omega (arith, ap length c.links-link-items.ensures.links)))
