use Rattle.std.proofs.Common.{◌∙◌, List, arith, ap, flat_map, map, slice_get, sym, take_all}
use Rattle.no_packet_loops.proofs.Common.{None_not_Some}
use Rattle.timed_reports.specs.{declared.spells.Watched.Watched, Records.watched_at, Records.with_routers}
use Rattle.timed_reports.proofs.Watching.{each_prefix, in_order_more, prefixes_more}
use Rattle.timed_reports.proofs.spells.watch_all.Goals as goal

pub loop-prefix-init : goal.loop-prefix-init
loop-prefix-init g c = record {
  each = λ k p below. absurd (omega (arith, below));
  none = λ k d at. absurd (None_not_Some (sym (ap (λ (l : List Watched). slice_get l k) c.new-all.ensures.items) ∙ at));
  order = ap (map watched_at) c.new-all.ensures.items;
}

pub loop-prefix-preserved : goal.loop-prefix-preserved
loop-prefix-preserved g c = record {
  each = prefixes_more c.args.prefixes.now c.loop-prefix.prefix-index c.args.routers c.prefix-item.result c.loop-prefix.all.items c.watch_prefix.new.all.items c.prefix-item.is c.in_ok-watch_prefix.ensures.kept c.in_ok-watch_prefix.ensures.each c.loop-prefix.invariant.each;
  none = c.in_ok-watch_prefix.ensures.none;
  order = in_order_more c.args.routers c.args.prefixes.now c.loop-prefix.prefix-index c.prefix-item.result c.loop-prefix.all.items c.watch_prefix.new.all.items c.loop-prefix-test.true c.prefix-item.is c.loop-prefix.invariant.order c.in_ok-watch_prefix.ensures.order;
}

pub returns-clause-each : goal.returns-clause-each
returns-clause-each g c = each_prefix c.args.prefixes.now c.args.routers c.loop-prefix.all.items
    (λ k p below at. let over = c.loop-prefix-test.false in c.loop-prefix.invariant.each k p (omega (arith, below, over)) at)

pub returns-clause-order : goal.returns-clause-order
returns-clause-order g c = let over = c.loop-prefix-test.false in c.loop-prefix.invariant.order ∙ ap (flat_map (with_routers c.args.routers)) (take_all c.loop-prefix.prefix-index c.args.prefixes.now (omega (arith, over)))
