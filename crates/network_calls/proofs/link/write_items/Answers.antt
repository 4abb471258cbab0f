use Rattle.std.proofs.Common.{◌≡◌, arith, subst, length, slice_get, List, Some, None, IfSome}
use Rattle.network_model.specs.{declared.item.Item.Item, World.Link, World.side}
use Rattle.network_calls.specs.Shown.{item_shown}
use Rattle.network_calls.proofs.Items.{ended_of, full_of, more_of, none_of}
use Rattle.network_calls.proofs.link.write_items.Goals as goal

pub loop-at-init : goal.loop-at-init
loop-at-init c = none_of (λ (k : Link). (side (c.args.place).end k).inbox) item_shown c.args.items.now (slice_get (c.args.world.now).links (c.args.place).link)

pub loop-at-preserved : goal.loop-at-preserved
loop-at-preserved c =
    let inbox : Link → List Item = λ k. (side (c.args.place).end k).inbox in
    more_of inbox item_shown c.args.items.now (slice_get (c.args.world.now).links (c.args.place).link) c.loop-at.items c.loop-at.at c.in-Some.item c.of.result
    (subst (λ ls. IfSome (slice_get ls (c.args.place).link) (λ k. Some c.in-Some.item ≡ slice_get (inbox k) c.loop-at.at)) c.links-links.ensures c.in-Some.ensures.item)
    c.of.ensures (omega arith) c.loop-at.invariant

pub returns-in-None : goal.returns-in-None
returns-in-None c =
    let inbox : Link → List Item = λ k. (side (c.args.place).end k).inbox in
    ended_of inbox item_shown c.args.items.now (slice_get (c.args.world.now).links (c.args.place).link) c.loop-at.items c.loop-at.at
    (subst (λ ls. IfSome (slice_get ls (c.args.place).link) (λ k. None ≡ slice_get (inbox k) c.loop-at.at)) c.links-links.ensures c.in-None.ensures.item)
    (omega arith) c.loop-at.invariant

pub returns : goal.returns
returns c =
    let inbox : Link → List Item = λ k. (side (c.args.place).end k).inbox in
    full_of inbox item_shown c.args.items.now (slice_get (c.args.world.now).links (c.args.place).link) c.loop-at.items c.loop-at.at c.queued.result
    (subst (λ ls. IfSome (slice_get ls (c.args.place).link) (λ k. c.queued.result ≡ length (inbox k))) c.links-links.ensures c.queued.ensures.queued)
    (omega arith) c.loop-at.invariant
