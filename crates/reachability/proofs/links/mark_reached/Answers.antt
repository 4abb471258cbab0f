use Rattle.reachability.proofs.OverLinks.{all_attached, all_reached, attached_kept, only_attached}
use Rattle.reachability.proofs.links.mark_reached.Goals as goal

pub loop-init : goal.loop-init
loop-init g c = record {
  only = only_attached c.args.world.now c.args.prefix c.mark_attached.new.marks c.mark_attached.ensures;
  attached = all_attached c.args.world.now c.args.prefix c.mark_attached.new.marks c.mark_attached.ensures;
}

pub loop-preserved : goal.loop-preserved
loop-preserved g c = record {
  only = c.spread.ensures.keeps.only c.args.prefix c.loop.invariant.only;
  attached = attached_kept c.args.world.now c.args.prefix c.loop.marks c.spread.new.marks c.spread.ensures.keeps c.loop.invariant.attached;
}

pub returns : goal.returns
returns g c = λ i.
    let only = c.spread.ensures.keeps.only c.args.prefix c.loop.invariant.only in
    let attached = attached_kept c.args.world.now c.args.prefix c.loop.marks c.spread.new.marks c.spread.ensures.keeps c.loop.invariant.attached in
    (only i, all_reached c.args.world.now c.args.prefix c.spread.new.marks (c.spread.ensures.closed c.loop-test.false) attached i)
